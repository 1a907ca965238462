-- `number_at` meets its contract: the bytes after the letter, one or two of them digits.
-- Assumes nothing.
use Rattle.std.proofs.Common.{◌≡◌, true, false, refl, rules}
use Rattle.scans.specs.Scanned.{is_digit}
use Rattle.scans.proofs.Scan.{number_is}
use Rattle.scans.proofs.number_at.Goals as goal

pub returns-then-is_ascii_digit : goal.returns-then-is_ascii_digit
returns-then-is_ascii_digit c =
    let two : true ≡ is_digit c.byte_at-second.result = search rules in
    number_is c.args.text.now c.args.at _ _ _ _ true c.byte_at-first.ensures c.byte_at-second.ensures two c.worth.ensures c.worth-then-is_ascii_digit.ensures

pub returns-else-is_ascii_digit : goal.returns-else-is_ascii_digit
returns-else-is_ascii_digit c =
    let one : false ≡ is_digit c.byte_at-second.result = search rules in
    number_is c.args.text.now c.args.at _ _ _ _ false c.byte_at-first.ensures c.byte_at-second.ensures one c.worth-else-is_ascii_digit.ensures refl
