-- The plain walk: registers keep their sizes, the entries are as many as the words, and each holds a whole register. A journal of its entries
-- in closed form stays one under an accepted step and an accepted step back.
-- Assumes nothing.
use Prim.Native.Nat.{ℕ, zero, suc, ◌≤◌, ◌<◌}
use mathlib.Core.Path.{◌≡◌, refl, ◌∙◌, ap, ap₂, subst}
use mathlib.Core.Bool.{Bool, true, false}
use mathlib.Core.List.{List, [], ◌∷◌}
use native.Mathlib.Omega.{arith}
use lib.Dec.{ltb}
use lib.ListN.{length, length-append}
use borrow.Author.Tests.{ltb-true, ltb-false}
use Rattle.machine.specs.Size.{most_words}
use Rattle.registers.specs.Register.{entry_number}
use Rattle.registers.specs.State.{State, Sized}
use Rattle.programs.specs.Word.{word_at, words_of}
use Rattle.words.specs.Decode.{decoded}
use Rattle.words.specs.Decode.{Word}
use Rattle.cores.specs.Core.{decoded_on}
use Rattle.cores.proofs.Answers.{core_decodes}
use Rattle.meaning.specs.Execute.{target_of}
use Rattle.meaning.specs.Needs.{Executable}
use Rattle.meaning.proofs.Effects.{target_register, executed_sized}
use Rattle.entries.specs.Layout.{version_of, layout_of, greatest_of, capacity_for, capacity_of, held_of, position_of, Entry, journal_of}
use Rattle.entries.specs.Formed.{Formed}
use Rattle.entries.specs.Restored.{entry_of, restored}
use Rattle.entries.proofs.Places.{slots_inside, room_least}
use Rattle.entries.proofs.Restored.{entry_whole}
use Rattle.entries.proofs.Written.{full_room, formed_pushed}
use Rattle.entries.proofs.Closed.{EntriesSized, RoomAfter, sized_more, version_closed, length_closed, held_closed, position_closed, formed_none, has_room, pushed_closed, last_closed, popped_closed}
use Rattle.journal.specs.Left.{Core, Buffers, buffers_of}
use Rattle.steps.specs.Calls.{carried_out, stepped, backed}
use Rattle.steps.proofs.Accepted.{executable, step_accepted, back_accepted}
use Rattle.travel.specs.Walk.{fields_in, walked_state, walked_entries, walked_buffers, Walkable, AsWalked}
use Rattle.travel.specs.Travel.{FreshStart}
use Rattle.travel.proofs.Undone.{restored_executed}

-- what holds of every number below n and of n
one_more : (P : ℕ → Type 0) (n : ℕ) → ((i : ℕ) → i < n → P i) → P n → (i : ℕ) → i < suc n → P i
one_more P n below at i h = go (ltb i n) refl
  where
    go : (t : Bool) → ltb i n ≡ t → P i
    go true e = below i (ltb-true i n e)
    go false e = let last : n ≡ i = omega (arith, ltb-false i n e) in subst P last at

module _ (c : Core) (program : List ℕ) (start : Buffers) where
  -- fewer words can be walked as well
  pub walkable_less : (n : ℕ) → Walkable c program start (suc n) → Walkable c program start n
  walkable_less n w =
      record {
        inside = omega (arith, w.inside);
        few = omega (arith, w.few);
        fits = omega (arith, w.fits);
        accepted = λ i h. w.accepted i (omega arith);
        named = λ i h. w.named i (omega arith);
      }

  -- and one more that is accepted
  walkable_more : (n : ℕ) → Walkable c program start n → suc n ≤ words_of (length program) → suc n ≤ most_words → suc n ≤ capacity_of c.k start.journal
      → decoded_on c.facts (word_at program n) ≡ Word (fields_in program n)
      → entry_number (target_of (fields_in program n)) ≤ greatest_of start.journal
      → Walkable c program start (suc n)
  walkable_more n w inside few fits next name =
      record {
        inside = inside;
        few = few;
        fits = fits;
        accepted = one_more (λ i. decoded_on c.facts (word_at program i) ≡ Word (fields_in program i)) n w.accepted next;
        named = one_more (λ i. entry_number (target_of (fields_in program i)) ≤ greatest_of start.journal) n w.named name;
      }

module _ (c : Core) (program : List ℕ) (start : Buffers) (fresh : FreshStart c.k start) where
  -- the buffers' version and size
  abbrev version : ℕ
  version = version_of start.journal

  abbrev bytes : ℕ
  bytes = length start.journal

  -- the registers, the entries and the buffers after n words, and the entry of word n
  abbrev after : ℕ → State
  after n = walked_state c.k program n start.files

  abbrev entries : ℕ → List Entry
  entries n = walked_entries c.k program n start.files

  abbrev journal : ℕ → List ℕ
  journal n = journal_of version c.k bytes (entries n)

  abbrev at : ℕ → Buffers
  at n = walked_buffers c.k program start n

  abbrev entry : ℕ → Entry
  entry n = entry_of c.k (target_of (fields_in program n)) (after n)

  record Walked (n : ℕ) : Type 0 where
    files : Sized c.k (after n)
    whole : EntriesSized c.k (entries n)
    count : length (entries n) ≡ n

  -- the last of the words decodes to its fields
  walks : (n : ℕ) → Walkable c program start (suc n) → decoded (word_at program n) ≡ Word (fields_in program n)
  walks n w = core_decodes c.facts (word_at program n) (fields_in program n) (w.accepted n (omega arith))

  walked : (n : ℕ) → Walkable c program start n → Walked n
  unfolding walked_state walked_entries
  walked zero w = record { files = fresh.sized; whole = tt; count = refl }
  walked (suc n) w =
      let before = walked n (walkable_less c program start n w) in
      let f = fields_in program n in
      let x = executable c.k (word_at program n) f (after n) before.files (walks n w) in
      record {
        files = executed_sized f c.k (after n) x;
        whole = sized_more c.k (entries n) (entry n) before.whole (entry_whole c.k (target_of f) (after n) before.files (target_register f c.k (after n) x));
        count = length-append (entries n) (entry n ∷ []) ∙ omega (arith, before.count);
      }

  executes : (n : ℕ) → Walkable c program start (suc n) → Executable (fields_in program n) c.k (after n)
  executes n w =
      executable c.k (word_at program n) (fields_in program n) (after n) (walked n (walkable_less c program start n w)).files (walks n w)

  -- the journal holds as many entries, and its position is as many words on
  pub held : (n : ℕ) → Walkable c program start n → held_of (journal n) ≡ n
  held n w = let h = walked n w in held_closed version c.k bytes (entries n) h.whole (omega (arith, h.count, w.few)) ∙ h.count

  pub position : (n : ℕ) → Walkable c program start n → position_of (journal n) ≡ n
  position n w = let h = walked n w in position_closed version c.k bytes (entries n) h.whole (omega (arith, h.count, w.few)) ∙ h.count

  -- it can hold as many entries as the start's can
  holds : (n : ℕ) → Walkable c program start n → capacity_of c.k (journal n) ≡ capacity_of c.k start.journal
  holds n w =
      let h = walked n w in
      let inside = slots_inside (layout_of version).header c.k bytes (length (entries n)) (room_least version bytes fresh.room) (rw h.count w.fits) in
      let is = version_closed version c.k bytes (entries n) h.whole fresh.versioned in
      let size = length_closed version c.k bytes (entries n) h.whole fresh.versioned inside in
      ap₂ (λ (header most : ℕ). capacity_for header c.k most) (ap (λ (number : ℕ). (layout_of number).header) is) size

  -- its entries may have the numbers that the start's may
  greatest : (n : ℕ) → Walkable c program start n → greatest_of (journal n) ≡ greatest_of start.journal
  greatest n w = ap (λ (number : ℕ). (layout_of number).greatest) (version_closed version c.k bytes (entries n) (walked n w).whole fresh.versioned)

  -- the entry of a word that can be walked fits after those before it
  fits : (n : ℕ) → Walkable c program start (suc n) → RoomAfter version c.k bytes (entries n) (entry n)
  fits n w =
      let h = walked n (walkable_less c program start n w) in
      let f = fields_in program n in
      record {
        versioned = fresh.versioned;
        sized = h.whole;
        whole = entry_whole c.k (target_of f) (after n) h.files (target_register f c.k (after n) (executes n w));
        least = room_least version bytes fresh.room;
        room = rw h.count w.fits;
        few = rw h.count w.few;
      }

  -- and the journal is well formed
  pub formed_walked : (n : ℕ) → Walkable c program start n → Formed c.k (journal n)
  unfolding walked_entries
  formed_walked zero w = formed_none version c.k bytes fresh.versioned fresh.room
  formed_walked (suc n) w =
      let before = formed_walked n (walkable_less c program start n w) in
      rw (← pushed_closed version c.k bytes (entries n) (entry n) (fits n w))
      (formed_pushed c.k (entry n) (journal n) (has_room version c.k bytes (entries n) (entry n) (fits n w) before)
      (rw (greatest n (walkable_less c program start n w)) (w.named n (omega arith))))

  -- an accepted step walks one word more
  step_walkable : (n : ℕ) → Walkable c program start n → (stepped c program (at n)).number ≡ 0 → Walkable c program start (suc n)
  step_walkable n w e =
      let a = step_accepted c program (at n) e in
      let room = full_room c.k (journal n) a.room a.start.formed in
      walkable_more c program start n w (rw (position n w) at a.start.inside) (rw (position n w) at a.start.few) (rw (held n w, holds n w) at room)
      (rw (position n w) at a.word)
      (rw (position n w, greatest n w) at a.named)

  pub step_walks : (n : ℕ) → Walkable c program start n → (stepped c program (at n)).number ≡ 0 → AsWalked c program start (suc n) (stepped c program (at n)).after
  unfolding walked_state walked_entries
  step_walks n w e =
      let a = step_accepted c program (at n) e in
      let more = step_walkable n w e in
      record {
        left = a.left
            ∙ ap (λ (i : ℕ). carried_out c.k (fields_in program i) (at n)) (position n w)
            ∙ ap (buffers_of (after (suc n))) (pushed_closed version c.k bytes (entries n) (entry n) (fits n more));
        walkable = more;
      }

  -- an accepted step back walks one word less, and there is one
  pub back_walks : (n : ℕ) → Walkable c program start (suc n) → (backed c.k (at (suc n))).number ≡ 0
      → AsWalked c program start n (backed c.k (at (suc n))).after
  unfolding walked_state walked_entries
  back_walks n w e =
      record {
        left = (back_accepted c.k (at (suc n)) e).left
            ∙ ap₂ buffers_of
            (ap (λ (last : Entry). restored c.k last (after (suc n))) (last_closed version c.k bytes (entries n) (entry n) (fits n w))
            ∙ restored_executed (fields_in program n) c.k (after n) (executes n w))
            (popped_closed version c.k bytes (entries n) (entry n) (fits n w));
        walkable = walkable_less c program start n w;
      }

  pub back_refuses : Walkable c program start zero → (backed c.k (at zero)).number ≡ 0 → ⊥
  back_refuses w e = omega (arith, (back_accepted c.k (at zero) e).start.some, held zero w)
