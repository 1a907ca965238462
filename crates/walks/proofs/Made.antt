-- A session that makes its own predicate: at k = 1 a predicate file of zeros, `ptrue p0.b, all`, and then `saddv d0, p0, z1.b` over the bytes 1 to 16. Its
-- output is computed: the first line shows the predicate in four digits, and the second the sum of all lanes, 136.
-- Assumes nothing.
use Prim.Native.Nat.{ℕ, ◌≤◌}
use mathlib.Core.Path.{◌≡◌, refl, ◌∙◌}
use mathlib.Core.Bool.{true}
use mathlib.Core.List.{List, [], ◌∷◌, ◌++◌}
use lib.ListN.{replicate}
use native.Mathlib.Omega.{arith}
use Rattle.parts.specs.Text.{bytes}
use Rattle.machine.specs.Refusal.{DONE}
use Rattle.facts.specs.Facts.{facts_of}
use Rattle.registers.specs.State.{state}
use Rattle.rows.specs.Digits.{digits_and}
use Rattle.rows.specs.Table.{row_at, row_of, matches, place_from}
use Rattle.words.specs.Decode.{decoded}
use Rattle.cores.specs.Need.{need_of}
use Rattle.cores.specs.Core.{decoded_on}
use Rattle.digits.specs.Digits.{digit_of, digits_in, width_within, decimal_width}
use Rattle.patterns.specs.Lanes.{pattern_kind, pattern_lanes}
use Rattle.patterns.specs.Text.{pattern_text}
use Rattle.operands.specs.Operands.{letter_of}
use Rattle.names.specs.Text.{key_of, name_of, text_of}
use Rattle.made.specs.Made.{made_byte, made_bytes}
use Rattle.meaning.specs.Execute.{target_of, source_of, governing_of, effect_of}
use Rattle.session.specs.Body.{Session}
use Rattle.session.specs.Body.{files_place, body_of}
use Rattle.session.specs.Layout.{session_of}
use Rattle.lines.specs.Line.{hex_of, with_newline, step_line}
use Rattle.entries.proofs.Versions.{second_header}
use Rattle.walks.specs.Output.{output_of}
use Rattle.walks.specs.Paper.{AllAccepted, state_after, executed_lines}
use Rattle.walks.proofs.Executed.{walk_capacity, output_executed}

-- a vector file whose Z0 starts with a byte, whose Z1 holds the bytes 1 to 16, and which has zeros else; a predicate file whose P0 has two bytes
abbrev pub vectors : ℕ → List ℕ
vectors b = b ∷ replicate 15 0 ++ 1 ∷ 2 ∷ 3 ∷ 4 ∷ 5 ∷ 6 ∷ 7 ∷ 8 ∷ 9 ∷ 10 ∷ 11 ∷ 12 ∷ 13 ∷ 14 ∷ 15 ∷ 16 ∷ replicate 480 0

abbrev pub predicates : ℕ → List ℕ
predicates b = b ∷ b ∷ replicate 30 0

-- the two words
abbrev program : List ℕ
program = 0xE0 ∷ 0xE3 ∷ 0x18 ∷ 0x25 ∷ 0x20 ∷ 0x20 ∷ 0x00 ∷ 0x04 ∷ []

-- the first makes every lane of P0 active, and the second writes the sum 136 into Z0
made : state_after 1 program 0 (state (vectors 0) (predicates 0)) ≡ state (vectors 0) (predicates 0xFF)
unfolding decoded row_at row_of place_from matches digits_and target_of effect_of pattern_kind pattern_lanes made_bytes made_byte
made = refl

summed : state_after 1 program 1 (state (vectors 0) (predicates 0xFF)) ≡ state (vectors 136) (predicates 0xFF)
unfolding decoded row_at row_of place_from matches digits_and target_of source_of governing_of effect_of
summed = refl

-- at a narrower size the sum is not of every lane: of the same bytes `ptrue p0.h, all` and `uaddv d0, p0, z1.b` add every second one, which is 64
abbrev pub narrower : List ℕ
narrower = 0xE0 ∷ 0xE3 ∷ 0x58 ∷ 0x25 ∷ 0x20 ∷ 0x20 ∷ 0x01 ∷ 0x04 ∷ []

pub narrower_made : state_after 1 narrower 0 (state (vectors 0) (predicates 0)) ≡ state (vectors 0) (predicates 0x55)
unfolding decoded row_at row_of place_from matches digits_and target_of effect_of pattern_kind pattern_lanes made_bytes made_byte
narrower_made = refl

pub narrower_summed : state_after 1 narrower 1 (state (vectors 0) (predicates 0x55)) ≡ state (vectors 64) (predicates 0x55)
unfolding decoded row_at row_of place_from matches digits_and target_of source_of governing_of effect_of
narrower_summed = refl

-- their lines
abbrev pub made_line : List ℕ
made_line = with_newline (bytes "0 0 ptrue p0.b, all ffff")

abbrev pub summed_line : List ℕ
summed_line = with_newline (bytes "1 0 saddv d0, p0, z1.b 00000000000000000000000000000088")

made_line_lem : step_line 1 (state (vectors 0) (predicates 0xFF)) program 0 DONE ≡ made_line
unfolding step_line hex_of digit_of digits_in width_within decimal_width decoded row_at row_of place_from matches digits_and text_of key_of name_of letter_of pattern_text pattern_kind target_of
made_line_lem = refl

summed_line_lem : step_line 1 (state (vectors 136) (predicates 0xFF)) program 1 DONE ≡ summed_line
unfolding step_line hex_of digit_of digits_in width_within decimal_width decoded row_at row_of place_from matches digits_and text_of key_of name_of letter_of target_of
summed_line_lem = refl

-- one after the other
lines : executed_lines 2 1 program 0 (state (vectors 0) (predicates 0)) ≡ made_line ++ summed_line
unfolding executed_lines
lines = rw (made, made_line_lem, summed, summed_line_lem)

-- the session: the mark LNW, version 1, k = 1 and two words, then the files and the words
abbrev pub made_session : List ℕ
made_session = 0x4C ∷ 0x4E ∷ 0x57 ∷ 0x01 ∷ 0x00 ∷ 0x01 ∷ 0x02 ∷ 0x00 ∷ [] ++ vectors 0 ++ predicates 0 ++ program

abbrev two_words : Session
two_words =
    record {
      number = 0;
      k = 1;
      count = 2;
      vectors = 8;
      predicates = 520;
      program = 552;
      end = 560;
      facts = record { sve = true; sve2 = true; sve2p1 = true; sme = true; sme2p1 = true };
    }

reading : two_words ≡ session_of made_session
unfolding session_of body_of files_place facts_of
reading = refl

-- both words are accepted
accepted : AllAccepted 2 two_words.facts program 0
unfolding decoded_on decoded row_at row_of place_from matches digits_and need_of
accepted = (refl, (refl, tt))

-- the journal has room for them
fits : 2 ≤ walk_capacity 1
fits = rw second_header (omega arith)

pub made_prints : output_of made_session ≡ made_line ++ summed_line
made_prints = output_executed made_session two_words reading refl accepted fits ∙ lines
