-- What a row needs of a core, and whether a core has it.
use Rattle.std.specs.Prelude.{ℕ, Bool, true, false}
use Rattle.facts.specs.declared.Facts.{Facts}
use Rattle.rows.specs.Table.{family_of}
use Rattle.rows.specs.declared.Family.{Family}
use Rattle.rows.specs.declared.Family.TheVariants.{Low, Wide, Made}
use Rattle.rows.specs.declared.LowFamily.TheVariants.{Reduction, Segment, Long}
use Rattle.cores.specs.declared.Need.{Need}
use Rattle.cores.specs.declared.Need.TheVariants.{Nothing, SveOrSme, Sve2OrSme, Sve2p1OrSme2p1}

-- one of two tests
abbrev pub either : Bool → Bool → Bool
either true b = true
either false b = b

-- a core has what is needed
abbrev pub has : Facts → Need → Bool
has facts Nothing = true
has facts SveOrSme = either facts.sve facts.sme
has facts Sve2OrSme = either facts.sve2 facts.sme
has facts Sve2p1OrSme2p1 = either facts.sve2p1 facts.sme2p1

-- what a family needs
abbrev pub need_for : Family → Need
need_for (Low Reduction) = SveOrSme
need_for (Low Segment) = Sve2p1OrSme2p1
need_for (Low Long) = Nothing
need_for (Wide wide) = Sve2OrSme
need_for (Made made) = SveOrSme

-- what the row at a place needs
unfoldable pub need_of : ℕ → Need
need_of i = need_for (family_of i)
