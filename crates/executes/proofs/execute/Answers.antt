-- The low bytes that a word of a low family makes, padded to the register's size, are the destination's new bytes, the lanes of a wide family
-- are written in place, and a predicate is made of the lanes that the word names.
use Rattle.std.proofs.Common.{◌≡◌, ℕ, List, arith, sym, ◌∙◌, ap}
use Rattle.machine.specs.Size.{vector_bytes, predicate_bytes, segment_bytes}
use Rattle.registers.specs.declared.Kind.TheVariants.{Predicate}
use Rattle.registers.specs.Register.{padded, with_register, with_vector}
use Rattle.registers.specs.State.{State, state}
use Rattle.registers.proofs.Padded.{padded_padded}
use Rattle.rows.specs.Table.{form_of, family_of}
use Rattle.rows.specs.declared.Form.{Form}
use Rattle.rows.specs.declared.Family.{Family}
use Rattle.rows.specs.declared.LowFamily.{LowFamily}
use Rattle.rows.specs.declared.MadeFamily.{MadeFamily}
use Rattle.rows.specs.declared.Family.TheVariants.{Low, Made}
use Rattle.words.specs.declared.Fields.{Fields}
use Rattle.made.specs.Made.{made_bytes}
use Rattle.meaning.specs.Execute.{kind_written, lane_count, lanes_made, destination_for, written_for, executed}
use Rattle.meaning.specs.Needs.{Executable}
use Rattle.meaning.proofs.Effects.{executed_of_kind, executed_vectors, executed_state}
use Rattle.meaning.proofs.Sizes.{k_least, vector_destination, low_written_fits}
use Rattle.executes.proofs.execute.Goals as goal

-- the family of a word is that of the form that its row names
family_is : (row : ℕ) (form : Form) (family : Family) → form ≡ form_of row → form.family ≡ family → family_of row ≡ family
family_is row form family e is = sym (ap (λ (form : Form). form.family) e) ∙ is

module _ (f : Fields) (k : ℕ) (s : State) where
  -- the vector file after a word of a low family, whose bytes lie in sixteen
  low_vectors : Executable f k s → (low : LowFamily) → family_of f.row ≡ Low low → {bytes z : List ℕ}
      → bytes ≡ padded segment_bytes (written_for f k s)
      → z ≡ with_vector k f.d (padded (vector_bytes k) bytes) s.z
      → z ≡ (executed f k s).z
  low_vectors x low is made e =
      e
      ∙ ap (λ (bytes : List ℕ). with_vector k f.d bytes s.z)
      (ap (padded (vector_bytes k)) made
      ∙ padded_padded segment_bytes (vector_bytes k) (written_for f k s) (low_written_fits f k s x low is) (omega (arith, k_least f k s x))
      ∙ sym (vector_destination f k s (ap kind_written is)))
      ∙ sym (executed_vectors f k s (ap kind_written is))

  -- the state after a word that makes a predicate, from the predicate file that is left
  made_state : (made : MadeFamily) → family_of f.row ≡ Made made → {lanes : ℕ} {p : List ℕ} → lanes ≡ lanes_made made f.pattern (lane_count f k)
      → p ≡ with_register k Predicate f.d (made_bytes (predicate_bytes k) f.size lanes) s.p
      → state s.z p ≡ executed f k s
  made_state made is {lanes} {p} count e =
      ap (state s.z) (e ∙ ap (λ (n : ℕ). with_register k Predicate f.d (made_bytes (predicate_bytes k) f.size n) s.p) count)
      ∙ sym (executed_of_kind f k s Predicate (ap kind_written is)
      ∙ ap (λ (family : Family). state s.z (with_register k Predicate f.d (destination_for family f k s) s.p)) is)

pub returns-in-Low : goal.returns-in-Low
returns-in-Low c =
    let s = state c.args.z.now c.args.p.now in
    let is = family_is c.args.f.row _ _ c.form_of-form.ensures c.in-Low.is in
    executed_state _ _ s (ap kind_written is) _
    (low_vectors c.args.f c.args.k.units s c.requires c.in-Low.low is c.low_bytes-bytes.ensures c.write_register.ensures)

pub returns-in-Wide : goal.returns-in-Wide
returns-in-Wide c =
    let is = family_is c.args.f.row _ _ c.form_of-form.ensures c.in-Wide.is in
    executed_state _ _ (state c.args.z.now c.args.p.now) (ap kind_written is) _ c.write_lanes.ensures

pub returns-in-Made : goal.returns-in-Made
returns-in-Made c =
    let is = family_is c.args.f.row _ _ c.form_of-form.ensures c.in-Made.is in
    made_state c.args.f c.args.k.units (state c.args.z.now c.args.p.now) c.in-Made.made is c.lanes_for.ensures c.make.ensures
