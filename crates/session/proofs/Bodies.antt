-- Bytes read from a place on: SESSION is given exactly where they have no body there, and else its parts have the sizes of the length.
-- Assumes nothing.
use mathlib.Core.Path.{◌≡◌, refl, ◌∙◌}
use mathlib.Core.Bool.{Bool, true, false}
use mathlib.Core.Logic.{◌⊎◌, inl, inr}
use mathlib.Core.List.{List, ◌++◌}
use Prim.Native.Nat.{ℕ, ◌+◌, ◌*◌, ◌%◌, ◌≤◌}
use native.Mathlib.Omega.{arith}
use lib.Dec.{leb}
use lib.ListN.{length, get_or}
use borrow.Author.Tests.{eq-eqb, leb-true, le-leb}
use borrow.Rule.Slice.PartMut.{mid_len}
use Rattle.parts.proofs.Same.{both_left, both_right}
use Rattle.parts.specs.Part.{both}
use Rattle.facts.specs.Facts.{all_byte}
use Rattle.machine.specs.Size.{most_words, is_legal, word_bytes}
use Rattle.machine.specs.Refusal.{DONE, SESSION, refused, files_tests, program_tests}
use Rattle.machine.proofs.Legal.{legal_exactly}
use Rattle.session.specs.Body.{Session}
use Rattle.session.specs.Body.{facts_bytes, facts_place, files_place, length_in, count_in, facts_in, predicates_at, program_at, end_at, body_end, is_sized, is_body}
use Rattle.session.specs.Body.{body_placed, no_session, body_of, vector_part, predicate_part, program_part, IsBody, Parts}

-- the files start past the facts where they are told, and never earlier than those or later
pub files_told : (start : ℕ) → files_place start true ≡ facts_place start + facts_bytes
unfolding files_place
files_told start = refl

pub files_untold : (start : ℕ) → files_place start false ≡ facts_place start
unfolding files_place
files_untold start = refl

pub files_least : (start : ℕ) (told : Bool) → facts_place start ≤ files_place start told
files_least start true = omega (arith, files_told start)
files_least start false = omega (arith, files_untold start)

pub files_most : (start : ℕ) (told : Bool) → files_place start told ≤ facts_place start + facts_bytes
files_most start true = omega (arith, files_told start)
files_most start false = omega (arith, files_untold start)

-- a length and a count that a body may have
pub record Sized (k count : ℕ) : Type 0 where
  pub legal : is_legal k ≡ true
  pub few : count ≤ most_words

pub sized : (k count : ℕ) → is_sized k count ≡ true → Sized k count
sized k count e =
    record { legal = both_left _ (leb count most_words) e; few = leb-true _ _ (both_right (is_legal k) _ e) }

module _ (start : ℕ) (told : Bool) (bytes : List ℕ) where
  -- the byte of facts has no higher bit exactly where one that is told has none
  byte_low : told ≡ true → facts_in start told bytes ≤ all_byte → get_or bytes (facts_place start) 0 ≤ all_byte
  byte_low is h = rw is at h

  low_byte : (told ≡ true → get_or bytes (facts_place start) 0 ≤ all_byte) → facts_in start told bytes ≤ all_byte
  low_byte h = go told h
    where
      go : (t : Bool) → (t ≡ true → get_or bytes (facts_place start) 0 ≤ all_byte) → facts_in start t bytes ≤ all_byte
      go true h = h refl
      go false h = omega arith

  -- the tests of a body, and the papers' words
  pub body_tested : is_body start told bytes ≡ true → IsBody start told bytes
  body_tested e =
      let there = leb (facts_place start) (length bytes) in
      let sizes = is_sized (length_in start bytes) (count_in start bytes) in
      let ends = leb (body_end start told bytes) (length bytes) in
      let low = leb (facts_in start told bytes) all_byte in
      let rest = both_right there (both sizes (both ends low)) e in
      let s = sized (length_in start bytes) (count_in start bytes) (both_left sizes (both ends low) rest) in
      let last = both_right sizes (both ends low) rest in
      record {
        legal = (legal_exactly _).0 s.legal;
        few = s.few;
        inside = leb-true _ _ (both_left ends low last);
        low = λ is. byte_low is (leb-true _ _ (both_right ends low last));
      }

  pub body_passes : IsBody start told bytes → is_body start told bytes ≡ true
  body_passes b =
      let there : facts_place start ≤ length bytes = omega (arith, b.inside, files_least start told) in
      rw (le-leb _ _ there, (legal_exactly _).1 b.legal, le-leb _ _ b.few, le-leb _ _ b.inside, le-leb _ _ (low_byte b.low))

  -- what bytes with a body say
  pub body_placed_lem : IsBody start told bytes → body_of start told bytes ≡ body_placed start told bytes
  unfolding body_of
  body_placed_lem b = rw (body_passes b)

  -- and what others do
  pub body_none : is_body start told bytes ≡ false → body_of start told bytes ≡ no_session
  unfolding body_of
  body_none e = rw e

  -- so a body that is refused is none
  pub body_refused : ((body_of start told bytes).number ≡ DONE → ⊥) → body_of start told bytes ≡ no_session
  unfolding body_of
  body_refused h = go (is_body start told bytes) refl
    where
      go : (t : Bool) → is_body start told bytes ≡ t → body_of start told bytes ≡ no_session
      go true e = absurd (h (rw e))
      go false e = rw e

  -- SESSION is given exactly where there is no body
  pub body_exactly : (((body_of start told bytes).number ≡ DONE) × IsBody start told bytes)
      ⊎ (((body_of start told bytes).number ≡ SESSION) × (IsBody start told bytes → ⊥))
  unfolding body_of
  body_exactly = go (is_body start told bytes) refl
    where
      go : (t : Bool) → is_body start told bytes ≡ t
          → (((body_of start told bytes).number ≡ DONE) × IsBody start told bytes) ⊎ (((body_of start told bytes).number ≡ SESSION) × (IsBody start told bytes → ⊥))
      go true e = inl (rw e, body_tested e)
      go false e = inr (rw e, λ b. let z : ◌≡◌ {A = ℕ} 0 1 = cc (body_passes b) in omega arith)

  -- the parts of a body have exactly the sizes of its length
  pub body_parts : IsBody start told bytes → Parts bytes (body_placed start told bytes)
  body_parts b =
      let header = files_place start told in
      let k = length_in start bytes in
      let count = count_in start bytes in
      record {
        starts = omega arith;
        middle = omega arith;
        ends = omega arith;
        inside = b.inside;
        files =
            record {
              legal = (legal_exactly k).1 b.legal;
              vector_size = mid_len header (predicates_at header k) bytes (omega (arith, b.inside)) ∙ omega arith;
              predicate_size = mid_len (predicates_at header k) (program_at header k) bytes (omega (arith, b.inside)) ∙ omega arith;
            };
        program_size = mid_len (program_at header k) (end_at header k count) bytes (omega (arith, b.inside)) ∙ omega arith;
        few = b.few;
      }

-- no call that is lent these parts is refused with LENGTH, FILE or PROGRAM
pub parts_right : (bytes : List ℕ) (s : Session) → Parts bytes s
    → refused (files_tests s.k (length (vector_part s bytes)) (length (predicate_part s bytes)) ++ program_tests (length (program_part s bytes))) ≡ DONE
parts_right bytes s parts =
    let few : word_bytes * s.count ≤ word_bytes * most_words = omega (arith, parts.few) in
    rw (
      parts.files.legal,
      eq-eqb _ _ parts.files.vector_size,
      eq-eqb _ _ parts.files.predicate_size,
      parts.program_size,
      eq-eqb (word_bytes * s.count % word_bytes) 0 (omega arith),
      le-leb _ _ few,
    )
