-- What the call for one lane answers, for every input: the lane's integer, whether it is active, where its bytes stand in the vector file, and
-- its bit of the predicate register.
use Rattle.std.specs.Prelude.{Result, Ok, Err, ℕ, ◌+◌, ◌*◌, Bool, false, not, cond, List, [], ◌∷◌, ◌++◌, ltb, length}
use Rattle.parts.specs.Part.{both}
use Rattle.machine.specs.Size.{vectors, predicates, sizes}
use Rattle.machine.specs.declared.refusal.Refusal.{Refusal}
use Rattle.machine.specs.Refusal.{DONE, code, Test, refused, files_tests, range_test, unless_refused}
use Rattle.registers.specs.declared.Kind.TheVariants.{Vector}
use Rattle.registers.specs.Register.{register_at, vector_of, predicate_of}
use Rattle.lanes.specs.Lane.{width_of, active}
use Rattle.lanes.specs.Integer.{residue}
use Rattle.lanes.specs.Sum.{element}
use Rattle.totals.specs.Calls.{lanes_at}
use Rattle.totals.specs.declared.FoundLane.{FoundLane}

-- a source register, a predicate register, a size and a lane that there are
abbrev pub is_lane : ℕ → ℕ → ℕ → ℕ → ℕ → Bool
is_lane k source predicate size e =
    both (ltb source vectors) (both (ltb predicate predicates) (both (ltb size sizes) (ltb e (lanes_at k size))))

-- the tests of a lane, and its refusal: LENGTH, FILE, RANGE or DONE
abbrev pub lane_tests : ℕ → List ℕ → List ℕ → ℕ → ℕ → ℕ → ℕ → List Test
lane_tests k z p source predicate size e =
    files_tests k (length z) (length p) ++ range_test (not (is_lane k source predicate size e)) ∷ []

unfoldable pub lane_refused : ℕ → List ℕ → List ℕ → ℕ → ℕ → ℕ → ℕ → ℕ
lane_refused k z p source predicate size e = refused (lane_tests k z p source predicate size e)

-- what is told of a lane: the number, its integer at 64 bits, whether it is active, where it starts in the vector file, and its bit of the
-- predicate register
pub record Lane : Type 0 where
  pub number : ℕ
  pub value : ℕ
  pub active : Bool
  pub start : ℕ
  pub bit : ℕ

-- lane e of a source: its integer at its sign, at 64 bits; whether its bit e·w is set; where it starts in the vector file; and that bit's number
abbrev pub lane_told : ℕ → List ℕ → List ℕ → ℕ → ℕ → ℕ → Bool → ℕ → Lane
lane_told k z p source predicate size signed e =
    record {
      number = DONE;
      value = residue 64 (element signed (width_of size) (vector_of k source z) e);
      active = active (width_of size) e (predicate_of k predicate p);
      start = register_at k Vector source + e * width_of size;
      bit = e * width_of size;
    }

-- a refusal, and nothing told
abbrev pub no_lane : ℕ → Lane
no_lane n = record { number = n; value = 0; active = false; start = 0; bit = 0 }

-- what is told, of an outcome
abbrev pub lane_in : Result FoundLane Refusal → Lane
lane_in (Ok f) = record { number = DONE; value = f.value; active = f.active; start = f.start; bit = f.bit }
lane_in (Err r) = no_lane (code r)

-- the lane, or its refusal with nothing
abbrev pub lane_answer : ℕ → List ℕ → List ℕ → ℕ → ℕ → ℕ → Bool → ℕ → Lane
lane_answer k z p source predicate size signed e =
    let n = lane_refused k z p source predicate size e in unless_refused n (lane_told k z p source predicate size signed e) (no_lane n)

-- what a lane adds: its integer where it is active, else nothing
abbrev pub lane_adds : Lane → ℕ
lane_adds l = cond l.active l.value 0
