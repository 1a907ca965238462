-- `read_session` meets its contract: each test that fails makes the bytes no session, and past all of them they say what the body says.
-- Assumes nothing.
use Rattle.std.proofs.Common.{◌≡◌, ◌≤◌, length, ℕ, List, sym, ap, ◌∙◌, arith}
use lib.Dec.{eqb}
use borrow.Author.Tests.{le-leb, lt-leb}
use Rattle.machine.proofs.Codes.{passed_on, code_not_done}
use Rattle.session.specs.Body.{Session, session_in, body_of}
use Rattle.session.specs.Layout.{session_of, session_version, session_tells, tells_facts, length_at, facts_format}
use Rattle.session.proofs.Bodies.{body_refused}
use Rattle.session.proofs.Reading.{session_of_whole, session_of_more}
use Rattle.session.proofs.read_session.Goals.{then-bytes-lt-LENGTH_AT-via-then-bytes-lt-LENGTH_AT, then-bytes-lt-LENGTH_AT-via-else-bytes-lt-LENGTH_AT+then-not-is_headed}
use Rattle.session.proofs.read_session.Goals as goal

pub returns-then-bytes-lt-LENGTH_AT : goal.returns-then-bytes-lt-LENGTH_AT
unfolding session_of
returns-then-bytes-lt-LENGTH_AT c = grind (arith, le-leb, lt-leb)

-- the body that is read is that of the bytes' version
module _ (s : Session) (v : ℕ) (bytes : List ℕ) (e : s ≡ body_of length_at (eqb v facts_format) bytes) (of : v ≡ session_version bytes) where
  body : s ≡ body_of length_at (session_tells bytes) bytes
  body = e ∙ ap (λ (v : ℕ). body_of length_at (tells_facts v) bytes) of

  -- a body that is refused
  refused : (s.number ≡ 0 → ⊥) → length_at ≤ length bytes → s ≡ session_of bytes
  refused bad there =
      let none = body_refused length_at (session_tells bytes) bytes (λ d. bad (ap (λ (t : Session). t.number) body ∙ d)) in
      let more = session_of_more bytes (λ d. let at : 0 ≡ length bytes = sym (ap (λ (t : Session). t.end) none) ∙ d in absurd (omega (arith, there, at))) in
      body ∙ none ∙ sym more

pub returns-in_err-body : goal.returns-in_err-body
returns-in_err-body c =
    ap session_in (passed_on c.from_residual.result _ c.from_residual.ensures.1)
    ∙ refused _ _ c.args.bytes.now c.in_err-body.ensures c.version_of.ensures (code_not_done _) c.if-bytes-lt-LENGTH_AT.false

pub returns-then-body-bytes : goal.returns-then-body-bytes
returns-then-body-bytes c =
    sym (session_of_more c.args.bytes.now (λ e. c.if-body-bytes.true (ap (λ (s : Session). s.end) (body _ _ _ c.in_ok-body.ensures c.version_of.ensures) ∙ e)))

pub returns : goal.returns
returns c =
    let same = body _ _ _ c.in_ok-body.ensures c.version_of.ensures in
    same ∙ sym (session_of_whole c.args.bytes.now c.if-bytes-lt-LENGTH_AT.false (sym c.if-not-is_headed.ensures) (sym (ap (λ (s : Session). s.end) same) ∙ c.if-body-bytes.false))
