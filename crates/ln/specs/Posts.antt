-- What the exported calls that write no byte promise of their answers, a name for each.
use Rattle.std.specs.Prelude.{ℕ, ◌≡◌, List}
use Rattle.facts.specs.Facts.{facts_of}
use Rattle.cores.specs.Core.{decoded_on}
use Rattle.programs.specs.Word.{next_word}
use Rattle.totals.specs.Calls.{subtotal_answer}
use Rattle.totals.specs.Lane.{lane_answer}
use Rattle.journal.specs.Calls.{position_answer, entry_answer}
use Rattle.about.specs.About.{about_answer}
use Rattle.session.specs.Layout.{session_of}
use Rattle.ln.specs.declared.LnAnswer.{LnAnswer}
use Rattle.ln.specs.declared.LnEntry.{LnEntry}
use Rattle.ln.specs.declared.LnFields.{LnFields}
use Rattle.ln.specs.declared.LnLane.{LnLane}
use Rattle.ln.specs.declared.LnPlace.{LnPlace}
use Rattle.ln.specs.declared.LnRowAbout.{LnRowAbout}
use Rattle.ln.specs.declared.LnSession.{LnSession}
use Rattle.ln.specs.declared.LnWord.{LnWord}
use Rattle.ln.specs.Outside.{is_set, answer_out, decoded_out, kind_of, place_for, session_out, word_out}
use Rattle.ln.specs.Outside.{library_version, lane_out, entry_out, about_out}

-- the number and the fields of a word on a core whose facts a byte tells
abbrev pub WordDecoded : ℕ → ℕ → LnFields → Type 0
WordDecoded word facts r = r ≡ decoded_out (decoded_on (facts_of facts) word)

-- a program's word at a place, and the place after it
abbrev pub WordRead : List ℕ → ℕ → LnWord → Type 0
WordRead program at r = r ≡ word_out (next_word program at)

-- a session's parts and facts
abbrev pub SessionRead : List ℕ → LnSession → Type 0
SessionRead bytes r = r ≡ session_out (session_of bytes)

-- the place of a register of the kind that a flag names
abbrev pub RegisterPlaced : ℕ → List ℕ → List ℕ → ℕ → ℕ → LnPlace → Type 0
RegisterPlaced k z p predicate number r = r ≡ place_for k z p (kind_of (is_set predicate)) number

-- the sum of the active lanes from a up to but without b, signed where the flag says so
abbrev pub Subtotalled : ℕ → List ℕ → List ℕ → ℕ → ℕ → ℕ → ℕ → ℕ → ℕ → LnAnswer → Type 0
Subtotalled k z p source governing size signed a b r = r ≡ answer_out (subtotal_answer k z p source governing size (is_set signed) a b)

-- a journal's position
abbrev pub PositionTold : ℕ → List ℕ → LnAnswer → Type 0
PositionTold k journal r = r ≡ answer_out (position_answer k journal)

-- a lane of a source under a predicate register, signed where the flag says so
abbrev pub LaneRead : ℕ → List ℕ → List ℕ → ℕ → ℕ → ℕ → ℕ → ℕ → LnLane → Type 0
LaneRead k z p source predicate size signed lane r = r ≡ lane_out (lane_answer k z p source predicate size (is_set signed) lane)

-- a journal's held entry, the oldest being 0
abbrev pub EntryRead : ℕ → List ℕ → ℕ → LnEntry → Type 0
EntryRead k journal index r = r ≡ entry_out (entry_answer k journal index)

-- what a row is
abbrev pub RowRead : ℕ → LnRowAbout → Type 0
RowRead row r = r ≡ about_out (about_answer row)

-- the version of the header that the library is for
abbrev pub VersionTold : ℕ → Type 0
VersionTold r = r ≡ library_version
