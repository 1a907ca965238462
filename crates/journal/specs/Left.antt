-- What a call on lent buffers leaves: its number, and the buffers, which with a refusal are as they stood. The core that a step runs on, and the
-- buffers that it is lent.
use Rattle.std.specs.Prelude.{ℕ, List}
use Rattle.machine.specs.Refusal.{Test, refused, unless_refused}
use Rattle.facts.specs.declared.Facts.{Facts}
use Rattle.parts.specs.Number.{AreBytes}
use Rattle.registers.specs.State.{State}

-- a core: its length, and its facts
pub record Core : Type 0 where
  pub k : ℕ
  pub facts : Facts

abbrev pub core_of : ℕ → Facts → Core
core_of k facts = record { k = k; facts = facts }

-- what a step and a step back are lent: both files, and the journal
pub record Buffers : Type 0 where
  pub files : State
  pub journal : List ℕ

abbrev pub buffers_of : State → List ℕ → Buffers
buffers_of s journal = record { files = s; journal = journal }

-- every byte of the buffers is one
pub record BytesIn (b : Buffers) : Type 0 where
  pub vectors : AreBytes b.files.z
  pub predicates : AreBytes b.files.p
  pub entries : AreBytes b.journal

-- what a call leaves: its number, and what it was lent as that is afterwards
pub record Left (X : Type 0) : Type 0 where
  pub number : ℕ
  pub after : X

abbrev pub left_with : {X : Type 0} → ℕ → X → Left X
left_with number after = record { number = number; after = after }

-- what a call with these tests leaves: what it makes where none is given, and with a refusal all as it stood
abbrev pub leaving : {X : Type 0} → List Test → X → X → Left X
leaving tests made stood = left_with (refused tests) (unless_refused (refused tests) made stood)
