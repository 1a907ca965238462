-- Each exported call is determined by its contract: two results that the contract allows are the same, the answer and every lent byte.
-- Assumes nothing.
use Prim.Native.Nat.{ℕ}
use mathlib.Core.Path.{◌≡◌, ap}
use mathlib.Core.List.{List}
use Rattle.machine.proofs.Tests.{one_result}
use Rattle.registers.specs.State.{State}
use Rattle.facts.specs.Facts.{facts_of}
use Rattle.cores.specs.Core.{decoded_on}
use Rattle.names.specs.Named.{Named}
use Rattle.names.proofs.Naming.{named_determined}
use Rattle.about.specs.About.{about_answer}
use Rattle.assembles.specs.Assembled.{Assembled}
use Rattle.assembles.proofs.Theorems.{assembled_determined}
use Rattle.programs.specs.Word.{next_word}
use Rattle.journal.specs.Left.{core_of, Buffers}
use Rattle.journal.specs.Calls.{position_answer, entry_answer, Freshened}
use Rattle.journal.proofs.Answers.{freshened_determined}
use Rattle.steps.specs.Calls.{Stepped, Backed}
use Rattle.steps.proofs.Answers.{stepped_determined, backed_determined}
use Rattle.session.specs.Layout.{session_of}
use Rattle.lines.specs.Line.{LineWritten, step_line}
use Rattle.lines.proofs.Lines.{line_determined}
use Rattle.ln.specs.declared.LnAnswer.{LnAnswer}
use Rattle.ln.specs.declared.LnEntry.{LnEntry}
use Rattle.ln.specs.declared.LnFields.{LnFields}
use Rattle.ln.specs.declared.LnLane.{LnLane}
use Rattle.ln.specs.declared.LnPlace.{LnPlace}
use Rattle.ln.specs.declared.LnRowAbout.{LnRowAbout}
use Rattle.ln.specs.declared.LnSession.{LnSession}
use Rattle.ln.specs.declared.LnWord.{LnWord}
use Rattle.ln.specs.Outside.{library_version, answer_out, answer_in, decoded_out, session_out, word_out, entry_out, about_out}
use Rattle.totals.specs.Written.{PanelWritten}
use Rattle.totals.proofs.Written.{panel_numbers_determined}
use Rattle.ln.specs.Posts.{WordDecoded, WordRead, SessionRead, RegisterPlaced, Subtotalled, PositionTold}
use Rattle.ln.specs.Posts.{LaneRead, EntryRead, RowRead, VersionTold}

pub ln_decode_determined : (word facts : ℕ) (r q : LnFields) → WordDecoded word facts r → WordDecoded word facts q → r ≡ q
ln_decode_determined word facts = one_result (decoded_out (decoded_on (facts_of facts) word))

pub ln_text_determined : (word facts : ℕ) (out a b : List ℕ) (r q : LnAnswer) → Named word (facts_of facts) out a (answer_in r) → Named word (facts_of facts) out b (answer_in q) → (r ≡ q) × (a ≡ b)
ln_text_determined word facts out a b r q x y =
    let (number, bytes) = named_determined word (facts_of facts) out a b (answer_in r) (answer_in q) x y in (ap answer_out number, bytes)

pub ln_assemble_determined : (text : List ℕ) (facts : ℕ) (r q : LnAnswer) → Assembled text (facts_of facts) (answer_in r) → Assembled text (facts_of facts) (answer_in q) → r ≡ q
ln_assemble_determined text facts r q x y = ap answer_out (assembled_determined (facts_of facts) text (answer_in r) (answer_in q) x y)

pub ln_read_word_determined : (program : List ℕ) (at : ℕ) (r q : LnWord) → WordRead program at r → WordRead program at q → r ≡ q
ln_read_word_determined program at = one_result (word_out (next_word program at))

pub ln_read_session_determined : (bytes : List ℕ) (r q : LnSession) → SessionRead bytes r → SessionRead bytes q → r ≡ q
ln_read_session_determined bytes = one_result (session_out (session_of bytes))

pub ln_fresh_determined : (k version : ℕ) (journal : List ℕ) (r q : ℕ) (a b : List ℕ) → Freshened k version journal r a → Freshened k version journal q b
    → (r ≡ q) × (a ≡ b)
ln_fresh_determined = freshened_determined

pub ln_position_determined : (k : ℕ) (journal : List ℕ) (r q : LnAnswer) → PositionTold k journal r → PositionTold k journal q → r ≡ q
ln_position_determined k journal = one_result (answer_out (position_answer k journal))

pub ln_read_entry_determined : (k : ℕ) (journal : List ℕ) (index : ℕ) (r q : LnEntry) → EntryRead k journal index r → EntryRead k journal index q → r ≡ q
ln_read_entry_determined k journal index = one_result (entry_out (entry_answer k journal index))

pub ln_read_row_determined : (row : ℕ) (r q : LnRowAbout) → RowRead row r → RowRead row q → r ≡ q
ln_read_row_determined row = one_result (about_out (about_answer row))

pub ln_version_determined : (r q : ℕ) → VersionTold r → VersionTold q → r ≡ q
ln_version_determined = one_result library_version

-- calls on both files
module _ (k : ℕ) (s : State) where
  pub ln_subtotal_determined : (source governing size is_signed a b : ℕ) (r q : LnAnswer)
      → Subtotalled k s.z s.p source governing size is_signed a b r
      → Subtotalled k s.z s.p source governing size is_signed a b q
      → r ≡ q
  ln_subtotal_determined source governing size is_signed a b = one_result _

  pub ln_read_lane_determined : (source predicate size is_signed lane : ℕ) (r q : LnLane)
      → LaneRead k s.z s.p source predicate size is_signed lane r
      → LaneRead k s.z s.p source predicate size is_signed lane q
      → r ≡ q
  ln_read_lane_determined source predicate size is_signed lane = one_result _

  pub ln_register_place_determined : (predicate number : ℕ) (r q : LnPlace) → RegisterPlaced k s.z s.p predicate number r
      → RegisterPlaced k s.z s.p predicate number q
      → r ≡ q
  ln_register_place_determined predicate number = one_result _

  pub ln_panel_determined : (source governing size : ℕ) (out : List ℕ) (r q : ℕ) (a b : List ℕ)
      → PanelWritten k s.z s.p source governing size out r a
      → PanelWritten k s.z s.p source governing size out q b
      → (r ≡ q) × (a ≡ b)
  ln_panel_determined = panel_numbers_determined k s.z s.p

  pub ln_write_line_determined : (facts : ℕ) (program : List ℕ) (position number : ℕ) (out a b : List ℕ) (r q : LnAnswer)
      → LineWritten k (facts_of facts) s program position number out a (answer_in r)
      → LineWritten k (facts_of facts) s program position number out b (answer_in q)
      → (r ≡ q) × (a ≡ b)
  ln_write_line_determined facts program position number out a b r q x y =
      let (answer, bytes) = line_determined _ (step_line k s program position number) out a b (answer_in r) (answer_in q) x y in
      (ap answer_out answer, bytes)

pub ln_step_determined : (k facts : ℕ) (program : List ℕ) (b : Buffers) (r q : ℕ) (after other : Buffers)
    → Stepped (core_of k (facts_of facts)) program b r after
    → Stepped (core_of k (facts_of facts)) program b q other
    → (r ≡ q) × (after ≡ other)
ln_step_determined k facts = stepped_determined (core_of k (facts_of facts))

pub ln_back_determined : (k : ℕ) (b : Buffers) (r q : ℕ) (after other : Buffers) → Backed k b r after → Backed k b q other → (r ≡ q) × (after ≡ other)
ln_back_determined = backed_determined
