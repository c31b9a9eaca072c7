-- Where a read behind events led, a read alike leads by other variables, if these agree with the former ones below the first
-- variable of the views behind, but for names that are assigned since: what the read leads through is kept below.
use Rattle.std.proofs.Common.{◌≡◌, ◌⊎◌, inl, inr, ℕ, ◌<◌, ◌≤◌, nat_lt, Bool, true, false, if◌then◌else◌, List, [], ◌∷◌, length, take, refl, sym, ◌∙◌, ap, arith}
use Rattle.std.specs.List.{AllByRecursion}
use Rattle.std.proofs.lemmas.Bool.Decides.{nat_tests}
use Rattle.dh_tree.specs.Memories.{same_entity}
use Rattle.dh_tree.specs.PlainTrees.{Program}
use Rattle.dh_meaning.specs.CoreOf.{known_of}
use Rattle.dh_meaning.specs.Effects.{Begun, Variables}
use Rattle.dh_meaning.specs.Paths.{Path}
use Rattle.dh_meaning.specs.Ways.{Hidden, hidden_in, way_to}
use Rattle.dh_meets.specs.Sharing.{alike_elements, reassigned}
use Rattle.dh_meets.specs.SourceEvents.{Element, SourceAccess, SourceEvent}
use Rattle.dh_sound.specs.BehindViews.{AccessBehind}
use Rattle.dh_sound.proofs.OwnVariables.{hidden_behind}
use Rattle.dh_sound.proofs.SourceValues.{IsNamedElement, SameOffsets, source_spot, spot_alike}
use Rattle.dh_sound.proofs.ValuesBelow.{AgreeBelow, spot_behind}
use Rattle.dh_ways.proofs.TargetsOnWays.{offsets_same}
use Rattle.dh_blocks.proofs.ElementsAlike.{IsFree, spot_kept}

below_is : (m n : ℕ) → nat_lt m n ≡ true → m < n
below_is m n e = grind (arith, nat_tests, e)

above_is : (m n : ℕ) → nat_lt m n ≡ false → n ≤ m
above_is m n e = grind (arith, nat_tests, e)

not_below : (m n : ℕ) → n ≤ m → nat_lt m n ≡ false
not_below m n l = grind (arith, nat_tests, l)

module _ (p : Program) (b : Begun) (v w : Variables) (path : Path) (y : ℕ) (own : length p.entities ≤ y) (a : SourceAccess) (behind : AccessBehind p y a) (e : Element)
    (same : same_entity a.entity a.entity ≡ true) (alike : alike_elements a.element e ≡ true) where
  -- by variables that agree below
  pub spot_below : AgreeBelow y v w → source_spot b (known_of p) v path a.entity e ≡ source_spot b (known_of p) w path a.entity e
  spot_below agree =
      sym (spot_alike b (known_of p) v path a.entity a.entity a.element e same alike)
      ∙ (spot_behind p b y v w path agree own a.entity a.element behind.0 behind.1 ∙ spot_alike b (known_of p) w path a.entity a.entity a.element e same alike)

-- the names of the program as the second variables have them, and all others as the first have
abbrev mixed : Program → Variables → Variables → Variables
mixed p v w entity q = if nat_lt entity (length p.entities) then w entity q else v entity q

module _ (p : Program) (b : Begun) (v w : Variables) (path : Path) (y : ℕ) (own : length p.entities ≤ y) (a : SourceAccess) (behind : AccessBehind p y a) (e : Element)
    (same : same_entity a.entity a.entity ≡ true) (alike : alike_elements a.element e ≡ true) (es : List SourceEvent)
    (agree : (entity : ℕ) → entity < y → IsFree entity es ⊎ (length p.entities ≤ entity) → (q : Path) → v entity q ≡ w entity q) where
  abbrev u : Variables
  u = mixed p v w

  free_same : (entity : ℕ) → IsFree entity es → (q : Path) → v entity q ≡ u entity q
  free_same entity free q = by (nat_lt entity (length p.entities)) refl
    where
      by : (t : Bool) → nat_lt entity (length p.entities) ≡ t → v entity q ≡ (if t then w entity q else v entity q)
      by true f = agree entity (let l = below_is entity (length p.entities) f in let k = own in omega (arith, l, k)) (inl free) q
      by false f = refl

  offsets_stay : SameOffsets b (known_of p) v u path
  offsets_stay entity = offsets_same b v u path (hidden_in (way_to p entity)) (each (hidden_in (way_to p entity)) (hidden_behind p entity))
    where
      each : (hs : List Hidden) → AllByRecursion (λ (h : Hidden). length p.entities ≤ h.entity) hs → AllByRecursion (λ (h : Hidden). v h.entity (take h.depth path) ≡ u h.entity (take h.depth path)) hs
      each [] c = tt
      each (h ∷ hs) c = (ap (λ (t : Bool). if t then w h.entity (take h.depth path) else v h.entity (take h.depth path)) (sym (not_below h.entity (length p.entities) c.0)), each hs c.1)

  below_same : AgreeBelow y u w
  below_same entity l q = by (nat_lt entity (length p.entities)) refl
    where
      by : (t : Bool) → nat_lt entity (length p.entities) ≡ t → (if t then w entity q else v entity q) ≡ w entity q
      by true f = refl
      by false f = agree entity l (inr (above_is entity (length p.entities) f)) q

  pub spot_moved : IsNamedElement b (known_of p) e → reassigned e es ≡ false → source_spot b (known_of p) v path a.entity e ≡ source_spot b (known_of p) w path a.entity e
  spot_moved names free = spot_kept b (known_of p) v u path a.entity e es offsets_stay free_same names free ∙ spot_below p b u w path y own a behind e same alike below_same
