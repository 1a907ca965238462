-- Sessions byte by byte, as the papers have them, read to what they say: the mark LNW, the version in two bytes, k, the count in two, and in version 2
-- the facts; then 512k, 32k and four bytes for each word. The longest has k = 16, 256 words and facts. What stands from k on is read also past another
-- mark and before further bytes, with which it is no session.
-- Assumes nothing.
use Prim.Native.Nat.{ℕ, ◌+◌}
use mathlib.Core.Path.{◌≡◌, refl}
use mathlib.Core.Bool.{true, false}
use mathlib.Core.List.{List, [], ◌∷◌, ◌++◌}
use lib.ListN.{replicate}
use Rattle.facts.specs.declared.Facts.{Facts}
use Rattle.facts.specs.Facts.{facts_of}
use Rattle.session.specs.Body.{Session}
use Rattle.session.specs.Body.{files_place, no_session, body_of}
use Rattle.session.specs.Layout.{most_session, session_of}

-- past a header, files of k = 1 and four words, all zeros
abbrev pub bodied : List ℕ → List ℕ
bodied header = header ++ replicate (512 + 32 + 16) 0

-- a session of k = 1 and four words, past a header of so many bytes
abbrev pub four_words : ℕ → Facts → Session
four_words header facts =
    record {
      number = 0;
      k = 1;
      count = 4;
      vectors = header;
      predicates = header + 512;
      program = header + 544;
      end = header + 560;
      facts = facts;
    }

-- version 1 has eight bytes before the files, and all facts
pub first_literal : session_of (bodied (0x4C ∷ 0x4E ∷ 0x57 ∷ 0x01 ∷ 0x00 ∷ 0x01 ∷ 0x04 ∷ 0x00 ∷ []))
    ≡ four_words 8 (record { sve = true; sve2 = true; sve2p1 = true; sme = true; sme2p1 = true })
unfolding session_of body_of files_place facts_of
first_literal = refl

-- version 2 has nine, the last of them the facts: here SVE2 alone
pub second_literal : session_of (bodied (0x4C ∷ 0x4E ∷ 0x57 ∷ 0x02 ∷ 0x00 ∷ 0x01 ∷ 0x04 ∷ 0x00 ∷ 0x02 ∷ []))
    ≡ four_words 9 (record { sve = false; sve2 = true; sve2p1 = false; sme = false; sme2p1 = false })
unfolding session_of body_of files_place facts_of
second_literal = refl

-- the same from byte 5 on, past the mark LNT and its version 1, with a byte more behind the words
pub followed_literal : body_of 5 true (bodied (0x4C ∷ 0x4E ∷ 0x54 ∷ 0x01 ∷ 0x00 ∷ 0x01 ∷ 0x04 ∷ 0x00 ∷ 0x02 ∷ []) ++ 0xFF ∷ [])
    ≡ four_words 9 (record { sve = false; sve2 = true; sve2p1 = false; sme = false; sme2p1 = false })
unfolding body_of files_place facts_of
followed_literal = refl

-- a session with a byte more is none
pub longer_literal : session_of (bodied (0x4C ∷ 0x4E ∷ 0x57 ∷ 0x02 ∷ 0x00 ∷ 0x01 ∷ 0x04 ∷ 0x00 ∷ 0x02 ∷ []) ++ 0xFF ∷ []) ≡ no_session
unfolding session_of body_of files_place facts_of
longer_literal = refl

-- the bytes of the longest
pub longest_literal : most_session ≡ 9 + 8192 + 512 + 1024
longest_literal = refl
