-- What a core has, as five facts, none of which implies another; and the byte that stands for them.
use Rattle.std.specs.Prelude.{ℕ, ◌+◌, ◌/◌, ◌%◌, ◌^◌, ◌≤◌, ◌≡◌, Bool, true, false, cond, eqb}
use Rattle.facts.specs.declared.Facts.{Facts}

-- the bit of each fact, by what it adds to a byte: bits 0 to 4
abbrev pub sve_bit : ℕ
sve_bit = 2 ^ 0

abbrev pub sve2_bit : ℕ
sve2_bit = 2 ^ 1

abbrev pub sve2p1_bit : ℕ
sve2p1_bit = 2 ^ 2

abbrev pub sme_bit : ℕ
sme_bit = 2 ^ 3

abbrev pub sme2p1_bit : ℕ
sme2p1_bit = 2 ^ 4

-- a bit of a byte is set
abbrev pub has_bit : ℕ → ℕ → Bool
has_bit byte bit = eqb (byte / bit % 2) 1

-- the facts of a byte: its five low bits in their order
unfoldable pub facts_of : ℕ → Facts
facts_of byte =
    record {
      sve = has_bit byte sve_bit;
      sve2 = has_bit byte sve2_bit;
      sve2p1 = has_bit byte sve2p1_bit;
      sme = has_bit byte sme_bit;
      sme2p1 = has_bit byte sme2p1_bit;
    }

-- what a fact adds to a byte: its bit, where it holds
abbrev pub weight_of : Bool → ℕ → ℕ
weight_of holds bit = cond holds bit 0

pub record Weighed (holds : Bool) (bit r : ℕ) : Type 0 where
  pub is : r ≡ weight_of holds bit
  pub most : r ≤ bit

-- the byte of facts
unfoldable pub byte_of : Facts → ℕ
byte_of f =
    weight_of f.sve sve_bit
    + weight_of f.sve2 sve2_bit
    + weight_of f.sve2p1 sve2p1_bit
    + weight_of f.sme sme_bit
    + weight_of f.sme2p1 sme2p1_bit

-- all five facts, and none of them
abbrev pub uniform : Bool → Facts
uniform holds = record { sve = holds; sve2 = holds; sve2p1 = holds; sme = holds; sme2p1 = holds }

abbrev pub all_facts : Facts
all_facts = uniform true

abbrev pub no_facts : Facts
no_facts = uniform false

-- the byte of all five
abbrev pub all_byte : ℕ
all_byte = 31

-- where one holds, so does another
abbrev pub Implies : Bool → Bool → Type 0
Implies a b = a ≡ true → b ≡ true

-- every fact of the first is one of the second
pub record Among (fewer more : Facts) : Type 0 where
  pub sve : Implies fewer.sve more.sve
  pub sve2 : Implies fewer.sve2 more.sve2
  pub sve2p1 : Implies fewer.sve2p1 more.sve2p1
  pub sme : Implies fewer.sme more.sme
  pub sme2p1 : Implies fewer.sme2p1 more.sme2p1
