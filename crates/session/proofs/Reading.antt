-- Bytes read as a session: SESSION is given exactly where they are none, and else the parts have the sizes of the length and the last ends with
-- the bytes.
-- Assumes nothing.
use Rattle.std.specs.Prelude.{Result}
use mathlib.Core.Path.{◌≡◌, refl, sym, ◌∙◌, ap}
use mathlib.Core.Bool.{Bool, true, false, cond}
use mathlib.Core.Logic.{◌⊎◌, inl, inr, ⊎_elim}
use mathlib.Core.List.{List}
use Prim.Native.Nat.{ℕ, ◌≤◌, ◌<◌}
use native.Mathlib.Nat.{mod-eq_of_lt}
use native.Mathlib.Omega.{arith}
use lib.Dec.{eqb, leb}
use lib.ListN.{length, get_or}
use borrow.Author.Tests.{eqb-true, eq-eqb, ne_eqb, le-leb}
use Rattle.parts.proofs.Same.{both_left, both_right, same_true}
use Rattle.parts.specs.Part.{both, same_bytes}
use Rattle.facts.specs.Facts.{facts_of, byte_of, all_facts, all_byte}
use Rattle.facts.proofs.Bytes.{all_of_byte, byte_of_facts}
use Rattle.machine.specs.Size.{is_among}
use Rattle.machine.specs.Refusal.{DONE, SESSION, in_order}
use Rattle.machine.proofs.Legal.{among_true, among_given}
use Rattle.machine.specs.declared.refusal.Refusal.{Refusal}
use Rattle.machine.proofs.Codes.{told_tells}
use Rattle.machine.proofs.Tests.{one_result}
use Rattle.session.specs.declared.FoundSession.{FoundSession}
use Rattle.session.specs.Body.{Session}
use Rattle.session.specs.Body.{session_in, body_end, is_body, body_placed, no_session, body_of, IsBody, Parts}
use Rattle.session.specs.Layout.{mark, first_format, facts_format, versions, tells_facts, length_at, facts_at, session_mark, session_version, session_tells}
use Rattle.session.specs.Layout.{most_session, is_headed, is_session, session_tests, session_of, IsSession}
use Rattle.session.proofs.Bodies.{files_least, files_most, body_tested, body_passes, body_placed_lem, body_none, body_parts}

-- the one test is in order
pub session_in_order : (bytes : List ℕ) → in_order (session_tests bytes) ≡ true
session_in_order bytes = refl

-- the two tests of a version, made one after the other
pub among_first : (v : ℕ) → v ≡ first_format → eqb v first_format ≡ is_among v versions
among_first v e = rw e refl

pub among_second : (v : ℕ) → (v ≡ first_format → ⊥) → eqb v facts_format ≡ is_among v versions
among_second v h = rw (ne_eqb _ _ h) (go (eqb v facts_format))
  where
    go : (t : Bool) → t ≡ cond t true false
    go true = refl
    go false = refl

-- a session has a body
pub session_body : (bytes : List ℕ) → IsSession bytes → IsBody length_at (session_tells bytes) bytes
session_body bytes s =
    record { legal = s.legal; few = s.few; inside = omega (arith, s.whole); low = λ is. s.told (eqb-true _ _ is) }

-- the tests of a session, and the paper's words
pub tested : (bytes : List ℕ) → is_session bytes ≡ true → IsSession bytes
tested bytes e =
    let known = is_among (session_version bytes) versions in
    let body = is_body length_at (session_tells bytes) bytes in
    let ends = eqb (length bytes) (body_end length_at (session_tells bytes) bytes) in
    let rest = both_right (leb length_at (length bytes)) (both (is_headed bytes) (both body ends)) e in
    let headed = both_left (is_headed bytes) (both body ends) rest in
    let last = both_right (is_headed bytes) (both body ends) rest in
    let b = body_tested length_at (session_tells bytes) bytes (both_left body ends last) in
    record {
      marked = same_true _ _ (both_left _ known headed);
      versioned = among_given (session_version bytes) versions (both_right (same_bytes (session_mark bytes) mark) _ headed);
      legal = b.legal;
      few = b.few;
      whole = eqb-true _ _ (both_right body ends last);
      told = λ is. b.low (eq-eqb _ _ is);
    }

passes : (bytes : List ℕ) → IsSession bytes → is_session bytes ≡ true
passes bytes s =
    let there : length_at ≤ length bytes = omega (arith, s.whole, files_least length_at (session_tells bytes)) in
    rw (
      le-leb _ _ there,
      s.marked,
      among_true (session_version bytes) versions s.versioned,
      body_passes length_at (session_tells bytes) bytes (session_body bytes s),
      eq-eqb _ _ s.whole,
    )

-- what the bytes of a session say
session_placed : (bytes : List ℕ) → IsSession bytes → session_of bytes ≡ body_placed length_at (session_tells bytes) bytes
unfolding session_of
session_placed bytes s = rw (passes bytes s) (body_placed_lem length_at (session_tells bytes) bytes (session_body bytes s))

-- past mark and version, bytes are what their body says where it ends with them, and else no session
pub session_of_whole : (bytes : List ℕ) → length_at ≤ length bytes → is_headed bytes ≡ true
    → (body_of length_at (session_tells bytes) bytes).end ≡ length bytes → session_of bytes ≡ body_of length_at (session_tells bytes) bytes
unfolding session_of
session_of_whole bytes there headed whole = go (is_body length_at (session_tells bytes) bytes) refl
  where
    go : (t : Bool) → is_body length_at (session_tells bytes) bytes ≡ t → session_of bytes ≡ body_of length_at (session_tells bytes) bytes
    go true e =
        let placed = body_placed_lem length_at (session_tells bytes) bytes (body_tested length_at (session_tells bytes) bytes e) in
        rw (le-leb length_at (length bytes) there, headed, e, eq-eqb _ _ (sym whole ∙ ap (λ (s : Session). s.end) placed))
    go false e = absurd (omega (arith, there, sym whole ∙ ap (λ (s : Session). s.end) (body_none length_at (session_tells bytes) bytes e)))

pub session_of_more : (bytes : List ℕ) → ((body_of length_at (session_tells bytes) bytes).end ≡ length bytes → ⊥) → session_of bytes ≡ no_session
unfolding session_of
session_of_more bytes more = go (is_session bytes) refl
  where
    go : (t : Bool) → is_session bytes ≡ t → session_of bytes ≡ no_session
    go true e =
        let placed = body_placed_lem length_at (session_tells bytes) bytes (session_body bytes (tested bytes e)) in
        absurd (more (ap (λ (s : Session). s.end) placed ∙ sym (tested bytes e).whole))
    go false e = rw e

-- SESSION is given exactly where the bytes are no session
pub session_exactly : (bytes : List ℕ)
    → (((session_of bytes).number ≡ DONE) × IsSession bytes) ⊎ (((session_of bytes).number ≡ SESSION) × (IsSession bytes → ⊥))
unfolding session_of
session_exactly bytes = go (is_session bytes) refl
  where
    go : (t : Bool) → is_session bytes ≡ t
        → (((session_of bytes).number ≡ DONE) × IsSession bytes) ⊎ (((session_of bytes).number ≡ SESSION) × (IsSession bytes → ⊥))
    go true e = inl (ap (λ (s : Session). s.number) (session_placed bytes (tested bytes e)), tested bytes e)
    go false e = inr (rw e, λ s. let z : ◌≡◌ {A = ℕ} 0 1 = cc (passes bytes s) in omega arith)

-- no session is longer than the longest, so an input of one byte more is seen to be none
pub session_most : (bytes : List ℕ) → IsSession bytes → length bytes ≤ most_session
session_most bytes s = omega (arith, s.whole, files_most length_at (session_tells bytes), s.legal.most, s.few)

-- so longer bytes are none
pub session_cut : (bytes : List ℕ) → most_session < length bytes → session_of bytes ≡ no_session
unfolding session_of
session_cut bytes longer = go (is_session bytes) refl
  where
    go : (t : Bool) → is_session bytes ≡ t → session_of bytes ≡ no_session
    go true e = absurd (omega (arith, session_most bytes (tested bytes e), longer))
    go false e = rw e

-- a session that is not refused: its parts have exactly the sizes of its length, and the last ends with the bytes
done_session : (bytes : List ℕ) → (session_of bytes).number ≡ DONE → IsSession bytes
done_session bytes e = ⊎_elim (λ h. h.1) (λ h. absurd (omega (arith, sym e ∙ h.0))) (session_exactly bytes)

done_placed : (bytes : List ℕ) (s : Session) → s ≡ session_of bytes → s.number ≡ DONE → IsSession bytes × (s ≡ body_placed length_at (session_tells bytes) bytes)
done_placed bytes s e done =
    let is = done_session bytes (sym (ap (λ (t : Session). t.number) e) ∙ done) in
    (is, e ∙ session_placed bytes is)

pub session_parts : (bytes : List ℕ) (s : Session) → s ≡ session_of bytes → s.number ≡ DONE → Parts bytes s
session_parts bytes s e done =
    let given = done_placed bytes s e done in
    rw given.1 (body_parts length_at (session_tells bytes) bytes (session_body bytes given.0))

pub session_whole : (bytes : List ℕ) (s : Session) → s ≡ session_of bytes → s.number ≡ DONE → s.end ≡ length bytes
session_whole bytes s e done =
    let given = done_placed bytes s e done in
    ap (λ (t : Session). t.end) given.1 ∙ sym given.0.whole

-- a session of the first version has all facts, and one of the second those of its byte, which is got back from them
pub first_has_all : (bytes : List ℕ) → IsSession bytes → session_version bytes ≡ first_format → (session_of bytes).facts ≡ all_facts
first_has_all bytes s first =
    ap (λ (t : Session). t.facts) (session_placed bytes s)
    ∙ ap facts_of (ap (λ (v : ℕ). cond (tells_facts v) (get_or bytes facts_at 0) all_byte) first)
    ∙ all_of_byte

pub second_has_byte : (bytes : List ℕ) → IsSession bytes → session_version bytes ≡ facts_format → byte_of (session_of bytes).facts ≡ get_or bytes facts_at 0
second_has_byte bytes s second =
    ap byte_of
    (ap (λ (t : Session). t.facts) (session_placed bytes s)
    ∙ ap facts_of (ap (λ (v : ℕ). cond (tells_facts v) (get_or bytes facts_at 0) all_byte) second))
    ∙ byte_of_facts (get_or bytes facts_at 0)
    ∙ mod-eq_of_lt (omega (arith, s.told second))

-- what the paper reads of a session's bytes is one thing
pub session_of_determined : (bytes : List ℕ) (r r' : Session) → r ≡ session_of bytes → r' ≡ session_of bytes → r ≡ r'
session_of_determined bytes = one_result (session_of bytes)

-- two results that the contract of `read_session` allows are the same
pub read_session_determined : (bytes : List ℕ) (r r' : Result FoundSession Refusal) → session_in r ≡ session_of bytes → session_in r' ≡ session_of bytes → r ≡ r'
read_session_determined bytes r r' a b =
    told_tells session_in (λ s. s.number) back (λ s. refl) (λ e. refl) (λ s. refl) r r' (a ∙ sym b)
  where
    back : Session → FoundSession
    back s =
        record {
          k = s.k;
          count = s.count;
          vectors = s.vectors;
          predicates = s.predicates;
          program = s.program;
          end = s.end;
          facts = s.facts;
        }
