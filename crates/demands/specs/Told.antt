-- What the calls for a row and for a lane tell a pane of a word: at the widths that are told of its row, each lane that is told is what feeds the word,
-- and active exactly where the word counts it. What the call for an entry tells is what a step back restores.
use Rattle.std.specs.Prelude.{ℕ, ◌-◌, ◌≡◌, Bool, true, false, cond, List, [], ◌∷◌, get_or}
use Rattle.parts.specs.Part.{part}
use Rattle.machine.specs.Refusal.{DONE}
use Rattle.registers.specs.Register.{numbered}
use Rattle.registers.specs.State.{State, read}
use Rattle.lanes.specs.Lane.{width_of}
use Rattle.lanes.specs.Integer.{residue}
use Rattle.words.specs.declared.Fields.{Fields}
use Rattle.totals.specs.Lane.{lane_answer}
use Rattle.totals.specs.Lane.{Lane}
use Rattle.about.specs.About.{about_answer}
use Rattle.about.specs.About.{About}
use Rattle.meaning.specs.Terms.{Source, Operand1, Operand2, Old, Term, element_of}
use Rattle.meaning.specs.Execute.{source_of, governing_of, operands_of}
use Rattle.entries.specs.Layout.{held_of}
use Rattle.journal.specs.Left.{Buffers}
use Rattle.journal.specs.Calls.{entry_answer}

-- each of some terms has a property
abbrev pub Each : (Term → Type 0) → List Term → Type 0
Each P [] = Unit {0}
Each P (t ∷ ts) = P t × Each P ts

-- what is told of a row, by the operand: the bytes of its lanes at a size, whether it is named at all, and whether its lanes are signed; what stood in the
-- destination is read unsigned, which modulo 2^width is the same
abbrev pub bytes_told : About → Source → ℕ → ℕ
bytes_told row Operand1 size = get_or row.n_bytes size 0
bytes_told row Operand2 size = get_or row.m_bytes size 0
bytes_told row Old size = get_or row.d_bytes size 0

abbrev pub named_told : About → Source → Bool
named_told row Operand1 = row.has_n
named_told row Operand2 = row.has_m
named_told row Old = row.reads_destination

abbrev pub sign_told : About → Source → Bool
sign_told row Operand1 = row.signed
sign_told row Operand2 = row.signed
sign_told row Old = false

-- whether an element of an operand counts, by whether the row has a predicate and whether the lane that this governs is active: what stood in the
-- destination always counts, and so does everything where there is no predicate
abbrev pub counts_by : Source → Bool → Bool → Bool
counts_by Operand1 governed on = cond governed on true
counts_by Operand2 governed on = cond governed on true
counts_by Old governed on = true

-- the lane whose bit governs an element that may feed lane e: of a row that reads its destination lane e of that, else the element's own
abbrev pub governed_lane : Bool → ℕ → Term → ℕ
governed_lane reads e t = cond reads e t.number

-- the lane of a register, under a word's governing predicate, as the call tells it
abbrev pub told_of : Fields → ℕ → State → Source → ℕ → Bool → ℕ → Lane
told_of f k s source size signed e = lane_answer k s.z s.p (source_of f source).number (governing_of f).number size signed e

-- a term that may feed lane e, as a pane is told of it: its operand is one that the row names, and read at the sign that is told of the row; there is a
-- size whose lanes have the bytes that are told of the row; at that size the call tells the integer that the term stands for; and it counts
-- exactly as the row and, at the word's own size, its governed lane are told
pub record TermTold (f : Fields) (k : ℕ) (s : State) (e : ℕ) (t : Term) : Type 0 where
  pub named : named_told (about_answer f.row) t.source ≡ true
  pub sign : t.signed ≡ sign_told (about_answer f.row) t.source
  pub size : ℕ
  pub width : width_of size ≡ t.width
  pub row : bytes_told (about_answer f.row) t.source f.size ≡ t.width
  pub done : (told_of f k s t.source size t.signed t.number).number ≡ DONE
  pub value : (told_of f k s t.source size t.signed t.number).value ≡ residue 64 (element_of (operands_of f k s) t)
  pub counts : let row = about_answer f.row in
      t.is_active
      ≡ counts_by t.source row.has_g (told_of f k s t.source f.size t.signed (governed_lane row.reads_destination e t)).active

-- the last entry is told, and a register has after a step back the bytes that are told of it
pub record LastRestored (k : ℕ) (b after : Buffers) : Type 0 where
  pub done : (entry_answer k b.journal (held_of b.journal - 1)).number ≡ DONE
  pub restored : let told = entry_answer k b.journal (held_of b.journal - 1) in
      read k (numbered told.target) after.files ≡ part told.start told.bytes b.journal
