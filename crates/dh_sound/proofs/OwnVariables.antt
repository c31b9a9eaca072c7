-- The variables in which views keep their offsets are behind all names of a program: so what sets a name sets no offset
-- of a way.
use Rattle.std.proofs.Common.{◌≡◌, ℕ, ◌<◌, ◌≤◌, nat_eq, false, List, [], ◌∷◌, length, take, Option, Some, None, refl, arith}
use Rattle.std.proofs.lemmas.Bool.Decides.{nat_tests}
use Rattle.std.specs.List.{AllByRecursion}
use Rattle.dh_tree.specs.PlainTrees.{Program}
use Rattle.dh_meaning.specs.CoreOf.{known_of}
use Rattle.dh_meaning.specs.Effects.{Begun, Variables}
use Rattle.dh_meaning.specs.Paths.{Path}
use Rattle.dh_meaning.specs.Ways.{Hidden, Way, hidden_in, way_to}
use Rattle.dh_ways.proofs.HiddenApart.{way_within}
use Rattle.dh_ways.proofs.TargetsOnWays.{offsets_same}
use Rattle.dh_sound.proofs.SourceValues.{AgreeBut, SameOffsets}

pub hidden_behind : (p : Program) (entity : Option ℕ) → AllByRecursion (λ h. length p.entities ≤ h.entity) (hidden_in (way_to p entity))
hidden_behind p entity = by (way_to p entity) refl
  where
    by : (o : Option Way) → way_to p entity ≡ o → AllByRecursion (λ h. length p.entities ≤ h.entity) (hidden_in o)
    by None e = tt
    by (Some w) e = (way_within p entity w e).least

-- variables that differ at a name alone have the same offsets
pub same_aside : (p : Program) (b : Begun) (v w : Variables) (path : Path) (n : ℕ) → n < length p.entities → AgreeBut b (known_of p) n v w → SameOffsets b (known_of p) v w path
same_aside p b v w path n within agree entity = offsets_same b v w path (hidden_in (way_to p entity)) (each (hidden_in (way_to p entity)) (hidden_behind p entity))
  where
    apart : (k m n : ℕ) → n < m → m ≤ k → nat_eq k n ≡ false
    apart k m n l u = grind (arith, nat_tests, l, u)

    each : (hs : List Hidden) → AllByRecursion (λ h. length p.entities ≤ h.entity) hs → AllByRecursion (λ h. v h.entity (take h.depth path) ≡ w h.entity (take h.depth path)) hs
    each [] a = tt
    each (h ∷ hs) a = (agree h.entity (take h.depth path) (apart h.entity (length p.entities) n within a.0), each hs a.1)
