-- What a core's facts change in the answers of the calls. With all five every call's tests are those of before there were any. With fewer a
-- call is refused with UNDEFINED where its word lacks what it needs, and is else answered as with all; more facts never refuse what fewer accept.
-- Assumes nothing.
use Prim.Native.Nat.{ℕ, ◌<◌, ◌^◌}
use mathlib.Core.Path.{◌≡◌, refl, sym, ◌∙◌, ap}
use mathlib.Core.Logic.{◌↔◌, ◌⊎◌, inl, inr}
use mathlib.Core.List.{List, ◌∷◌, ◌++◌}
use native.Mathlib.Omega.{arith}
use lib.Dec.{eqb, ltb}
use Rattle.machine.specs.Refusal.{DONE, UNDEFINED, TEXT, out_test, only_where, first, None, refused}
use Rattle.machine.specs.Refusal.{Answer}
use Rattle.machine.proofs.Tests.{first_none}
use Rattle.registers.specs.State.{State}
use Rattle.facts.specs.Facts.{all_facts, Among}
use Rattle.facts.specs.declared.Facts.{Facts}
use Rattle.rows.specs.Digits.{word_digits}
use Rattle.programs.specs.Word.{word_at}
use Rattle.words.specs.Decode.{decoded, number_of, word_tests}
use Rattle.words.specs.Decode.{Decoded}
use Rattle.words.specs.Decode.{Unknown, Undefined, Word}
use Rattle.cores.specs.Core.{decoded_on, Lacking}
use Rattle.cores.proofs.Answers.{Verdict, unknown, undefined, accepted, lacking, verdict, core_decodes, undefined_on, on_all, on_more, done_word}
use Rattle.names.specs.Named.{least_out, text_of_word, name_refused}
use Rattle.lines.specs.Line.{placed_tests, line_refused}
use Rattle.assembles.specs.Assembled.{ReadsAs, Assembled}
use Rattle.assembles.proofs.Theorems.{reads_once, text_exactly}
use Rattle.journal.specs.Left.{core_of, Buffers}
use Rattle.journal.specs.Calls.{start_tests}
use Rattle.steps.specs.Calls.{word_now, tests_by, stepped, step_by}
use Rattle.steps.proofs.Accepted.{step_number, step_by_lem, step_accepted}

-- with all facts the tests of a name, of a line and of a step ask what a word decodes to, and nothing of the core
pub name_on_all : (n word : ℕ) → name_refused n word all_facts ≡ refused (out_test (ltb n least_out) ∷ word_tests (decoded word))
name_on_all n word = ap (λ (d : Decoded). refused (out_test (ltb n least_out) ∷ word_tests d)) (on_all word)

pub line_on_all : (k : ℕ) (s : State) (program : List ℕ) (position number n : ℕ) → line_refused k all_facts s program position number n
    ≡ refused (placed_tests k s program position n ++ only_where (eqb number DONE) (word_tests (decoded (word_at program position))))
unfolding line_refused
line_on_all k s program position number n =
    ap (λ (d : Decoded). refused (placed_tests k s program position n ++ only_where (eqb number DONE) (word_tests d))) (on_all (word_at program position))

pub step_on_all : (k : ℕ) (program : List ℕ) (b : Buffers) → (stepped (core_of k all_facts) program b).number
    ≡ refused (tests_by k program b (decoded (word_now program b.journal)))
step_on_all k program b =
    step_number (core_of k all_facts) program b
    ∙ ap (λ (d : Decoded). refused (tests_by k program b d)) (on_all (word_now program b.journal))

-- and a text is assembled to the word that is accepted at all and reads so
pub reads_on_all : (word : ℕ) (text : List ℕ) → ReadsAs all_facts word text
    ↔ ((word < 2 ^ word_digits) × (number_of (decoded word) ≡ DONE) × (text_of_word word ≡ text))
reads_on_all word text = (
  λ r. (r.below, sym (ap number_of (on_all word)) ∙ r.accepted, r.reads),
  λ h. record { below = h.0; accepted = ap number_of (on_all word) ∙ h.1; reads = h.2 },
)

module _ (k : ℕ) (program : List ℕ) (b : Buffers) where
  -- the word at the position
  abbrev word : ℕ
  word = word_now program b.journal

  -- the refusal of a step, by what its word decodes to on the core
  abbrev refusal_by : Decoded → ℕ
  refusal_by d = refused (tests_by k program b d)

  -- a step asks of the core what its word decodes to there, and nothing else
  same_step : (a o : Facts) → decoded_on a word ≡ decoded_on o word → stepped (core_of k a) program b ≡ stepped (core_of k o) program b
  same_step a o e = step_by_lem (core_of k a) program b ∙ ap (λ (d : Decoded). step_by k program b d) e ∙ sym (step_by_lem (core_of k o) program b)

  -- what fewer facts accept more facts accept, and the step leaves the same
  pub step_on_more : (fewer more : Facts) → Among fewer more → (stepped (core_of k fewer) program b).number ≡ DONE
      → stepped (core_of k more) program b ≡ stepped (core_of k fewer) program b
  step_on_more fewer more all e =
      let accepted = (step_accepted (core_of k fewer) program b e).word in same_step more fewer (on_more fewer more all word _ accepted ∙ sym accepted)

  -- with whatever facts a step is the one with all of them, or its word lacks what it needs and is refused with UNDEFINED, unless a test before
  -- the word's refuses
  pub step_on_any : (facts : Facts) → (stepped (core_of k facts) program b ≡ stepped (core_of k all_facts) program b)
      ⊎ (Lacking facts word × ((stepped (core_of k facts) program b).number ≡ first (start_tests k program b) UNDEFINED))
  step_on_any facts = go (verdict facts word)
    where
      alike : decoded_on facts word ≡ decoded word → stepped (core_of k facts) program b ≡ stepped (core_of k all_facts) program b
      alike e = same_step facts all_facts (e ∙ sym (on_all word))

      go : Verdict facts word → (stepped (core_of k facts) program b ≡ stepped (core_of k all_facts) program b)
          ⊎ (Lacking facts word × ((stepped (core_of k facts) program b).number ≡ first (start_tests k program b) UNDEFINED))
      go (unknown a d) = inl (alike (d ∙ sym a))
      go (undefined a d) = inl (alike (d ∙ sym a))
      go (accepted f g d) = inl (alike (d ∙ sym g.decodes))
      go (lacking l d) = inr (l, step_number (core_of k facts) program b ∙ ap refusal_by d)

-- a name that fewer facts give more facts give
pub name_on_more : (fewer more : Facts) → Among fewer more → (n word : ℕ) → name_refused n word fewer ≡ DONE → name_refused n word more ≡ DONE
name_on_more fewer more all n word e =
    let none = first_none (out_test (ltb n least_out) ∷ word_tests (decoded_on fewer word)) tt e in
    let (f, is) = done_word (decoded_on fewer word) (told (decoded_on fewer word) none.1) in
    ap (λ (d : Decoded). refused (out_test (ltb n least_out) ∷ word_tests d)) (on_more fewer more all word f is ∙ sym is) ∙ e
  where
    told : (d : Decoded) → None (word_tests d) → number_of d ≡ DONE
    told Unknown h = cc
    told Undefined h = cc
    told (Word f) h = refl

-- a text that is assembled with fewer facts is assembled to the same word with more
pub reads_on_more : (fewer more : Facts) → Among fewer more → (word : ℕ) (text : List ℕ) → ReadsAs fewer word text → ReadsAs more word text
reads_on_more fewer more all word text r =
    let (f, is) = done_word (decoded_on fewer word) r.accepted in
    record { below = r.below; accepted = ap number_of (on_more fewer more all word f is); reads = r.reads }

-- the text of a word that lacks what it needs is TEXT
pub forbidden_text : (facts : Facts) (word : ℕ) (text : List ℕ) (r : Answer) → ReadsAs all_facts word text → Lacking facts word → Assembled text facts r
    → r.number ≡ TEXT
forbidden_text facts word text r reads lacks assembled = (text_exactly facts text r assembled).1 none
  where
    none : (w : ℕ) → ReadsAs facts w text → ⊥
    none w h =
        let (g, is) = done_word (decoded_on facts w) h.accepted in
        let known : ReadsAs all_facts w text = record { below = h.below; accepted = ap number_of (on_all w ∙ core_decodes facts w g is); reads = h.reads } in
        let same : w ≡ word = reads_once all_facts text w word known reads in
        let refused-there = (undefined_on facts word).1 (inr lacks) in
        omega (arith, h.accepted, ap (λ (v : ℕ). number_of (decoded_on facts v)) same)
