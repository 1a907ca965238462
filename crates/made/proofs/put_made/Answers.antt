-- With byte j put behind the first j, the first j + 1 are the predicate's.
use Rattle.std.proofs.Common.{◌≡◌, ℕ, ◌+◌, ◌-◌, ◌*◌, ◌/◌, ◌<◌, List, [], ◌∷◌, ◌++◌, length, take, set, sym, ap, ap₂, ◌∙◌, zero-add, add-one, suc-mul, arith}
use Rattle.std.proofs.Math.Seq.{take-length, take-suc-set}
use Rattle.machine.specs.Size.{sizes}
use Rattle.lanes.specs.Lane.{width_of}
use Rattle.lanes.specs.Sum.{each}
use Rattle.made.specs.Made.{made_byte, made_bytes}
use Rattle.made.proofs.Bytes.{byte_later}
use Rattle.made.proofs.Each.{each_more}
use Rattle.made.proofs.put_made.Goals as goal

put_next : (size count left j byte : ℕ) (old : List ℕ) → size < sizes → j < length old → left ≡ count - j * (8 / width_of size)
    → byte ≡ made_byte size left 0 → take j old ≡ each (made_byte size count) 0 j
    → take (j + 1) (set old j byte) ≡ each (made_byte size count) 0 (j + 1)
put_next size count left j byte old sized inside lanes is first =
    rw (add-one j, take-suc-set old j byte inside)
    (ap₂ (λ (bs : List ℕ) (b : ℕ). bs ++ (b ∷ [])) first (is ∙ ap (λ (n : ℕ). made_byte size n 0) lanes ∙ sym (byte_later size count j sized))
    ∙ ap (λ (i : ℕ). each (made_byte size count) 0 j ++ (made_byte size count i ∷ [])) (sym (zero-add j))
    ∙ sym (each_more (made_byte size count) 0 j))

pub loop-byte-preserved : goal.loop-byte-preserved
loop-byte-preserved c =
    record {
      lanes = omega (arith, c.loop-byte.invariant.lanes, c.saturating_sub-left.ensures, suc-mul c.loop-byte.byte-index (8 / width_of c.args.size));
      bytes =
          put_next c.args.size c.args.count c.loop-byte.left c.loop-byte.byte-index c.lanes_below.result c.loop-byte.register c.requires (omega arith)
          c.loop-byte.invariant.lanes c.lanes_below.ensures c.loop-byte.invariant.bytes;
    }

pub returns : goal.returns
unfolding made_bytes
returns c =
    let end : c.loop-byte.byte-index ≡ length c.loop-byte.register = omega arith in
    sym (take-length c.loop-byte.register) ∙ (rw end at c.loop-byte.invariant.bytes) ∙ ap (each (made_byte c.args.size c.args.count) 0) c.loop-byte.auto.register
