-- A way keeps as many offsets as its views take, where factors and brackets keep the rules.
use Rattle.std.proofs.Common.{◌≡◌, ℕ, ◌+◌, ◌==◌, Bool, true, false, if◌then◌else◌, List, [], ◌∷◌, ◌++◌, map, length, Option, Some, None, refl, ap, ◌∙◌, subst, arith}
use Rattle.std.specs.List.{AllByRecursion}
use Rattle.std.proofs.lemmas.Bool.{eqb-true}
use Rattle.std.proofs.lemmas.List.{length-append, length-map}
use Rattle.dh_base.specs.declared.places.Place.{Place}
use Rattle.dh_base.specs.declared.rules.Rule.TheVariants.{ViewFactor}
use Rattle.dh_tree.specs.declared.breaches.Breach.{Breach}
use Rattle.dh_tree.specs.declared.tables.Dim.{Dim}
use Rattle.dh_tree.specs.LeastBreach.{breach}
use Rattle.dh_tree.specs.Memories.{Memory, memories_of, memory_in, same_entity}
use Rattle.dh_tree.specs.PlainTrees.{ViewPlan, shrinks, splits, suffixes, shifts, Program}
use Rattle.dh_tree.specs.ViewElements.{offsets_needed}
use Rattle.dh_tree.specs.ViewFactors.{brackets_broken, factor_breaches_of, factors_breaches, plan_breaches, viewing_breaches, viewings_breaches}
use Rattle.dh_tree.specs.ViewOffsets.{offsets_of}
use Rattle.dh_tree.specs.Views.{factors_of, map_of, shape_in, sort_of, viewed_of}
use Rattle.dh_viewing.proofs.KeptViews.{first_none, second_none}
use Rattle.dh_meaning.specs.Ways.{Led, ViewSite, WayStep, Way, behind_hidden, hidden_of, led_after, led_behind, led_of, shape_named, standings, step_of, way_in, way_unless, ways_of}
use Rattle.dh_ways.specs.Leading.{KeepsOffsets, viewed_of_led}
use Rattle.dh_ways.proofs.HiddenApart.{from_long}
use Rattle.dh_ways.proofs.WaysLead.{forget, next_seen, shape_same, standings_are}

-- One bracket for each dimension.

fits : (b : Bool) (at : Place) → brackets_broken b at ≡ [] → b ≡ true
fits true at e = refl
fits false at e = absurd (never (breach ViewFactor at) e)
  where
    never : (x : Breach) → x ∷ [] ≡ [] → ⊥
    never x e = cc

brackets : (dims : List Dim) (at : Place) (form : ViewPlan) → plan_breaches dims at form ≡ [] → length (offsets_of form) ≡ offsets_needed (sort_of form) dims
brackets dims at (shrinks by by_place) e = refl
brackets dims at (splits by by_place) e = refl
brackets dims at (suffixes by by_place) e =
    length-map by (λ s. s.offset) ∙ eqb-true (length by) (length dims) (fits (length by == length dims) at (first_none (brackets_broken (length by == length dims) at) (factors_breaches true at (factors_of (suffixes by by_place)) by_place dims) e))
brackets dims at (shifts by) e = eqb-true (length by) (length dims) (fits (length by == length dims) at (first_none (brackets_broken (length by == length dims) at) (factors_breaches false at [] [] dims) e))

own_many : (first : ℕ) (s : ViewSite) (dims : List Dim) → plan_breaches dims s.parent.place s.form ≡ [] → length (hidden_of first s) ≡ offsets_needed (sort_of s.form) dims
own_many first s dims e = from_long first s.depth (offsets_of s.form) ∙ brackets dims s.parent.place s.form e

-- Ways, one behind the other.

abbrev AllKeep : List Led → Type 0
AllKeep ls = AllByRecursion (λ l. KeepsOffsets l.way) ls

both_keep : (ls more : List Led) → AllKeep ls → AllKeep more → AllKeep (ls ++ more)
both_keep [] more h k = k
both_keep (l ∷ ls) more h k = (h.0, both_keep ls more h.1 k)

way_keeps : (ls : List Led) (e : Option ℕ) (w : Way) → AllKeep ls → way_in ls e ≡ Some w → KeepsOffsets w
way_keeps [] e w h is = cc
way_keeps (l ∷ ls) e w h is = by (same_entity l.entity e) is (λ f. way_keeps ls e w h.1 f)
  where
    by : (b : Bool) → (if b then Some l.way else way_in ls e) ≡ Some w → (way_in ls e ≡ Some w → KeepsOffsets w) → KeepsOffsets w
    by true f rest = subst (λ (y : Way). KeepsOffsets y) (some_same l.way w f) h.0
      where
        or : Way → Option Way → Way
        or y None = y
        or y (Some z) = z

        some_same : (a b : Way) → Some a ≡ Some b → a ≡ b
        some_same a b g = ap (or a) g
    by false f rest = rest f

one_keeps : (first : ℕ) (ls : List Led) (s : ViewSite) (all : AllKeep ls) (m : Option Memory) (w : Option Way) → way_in ls s.parent.entity ≡ w → viewing_breaches (forget s) (shape_named m w) ≡ [] → AllKeep (led_of first s (shape_named m w) (way_unless m w))
one_keeps first ls s all (Some m) w g e = (record { many = own_many first s m.shape.dims e ∙ alone (offsets_needed (sort_of s.form) m.shape.dims); each = refl }, tt)
  where
    alone : (n : ℕ) → n ≡ n + 0
    alone n = omega arith
one_keeps first ls s all None (Some w) g e =
    let before = way_keeps ls s.parent.entity w all g in (
      record {
        many = length-append (hidden_of first s) w.hidden ∙ (ap (λ n. n + length w.hidden) (own_many first s w.is.shape.dims e) ∙ ap (λ n. offsets_needed (sort_of s.form) w.is.shape.dims + n) before.many);
        each = ap (λ (l : List WayStep). step_of (map_of s.form w.is.shape) ∷ l) before.each;
      },
      tt,
    )
one_keeps first ls s all None None g e = tt

all_keep : (ms : List Memory) (first : ℕ) (ls : List Led) (ss : List ViewSite) → AllKeep ls → viewings_breaches ms (map viewed_of_led ls) (map forget ss) ≡ [] → AllKeep (led_behind ms first ls ss)
all_keep ms first ls [] all e = all
all_keep ms first ls (s ∷ ss) all e =
    let o = shape_in ms (map viewed_of_led ls) s.parent.entity in
    let one = viewing_breaches (forget s) o in
    let rest = viewings_breaches ms (map viewed_of_led ls ++ viewed_of (forget s) o) (map forget ss) in
    let own : viewing_breaches (forget s) (shape_named (memory_in ms s.parent.entity) (way_in ls s.parent.entity)) ≡ [] =
    ap (λ x. viewing_breaches (forget s) x) (shape_same ms ls s.parent.entity) ∙ first_none one rest e
    in
    let next : viewings_breaches ms (map viewed_of_led (ls ++ led_after ms first ls s)) (map forget ss) ≡ [] =
    ap (λ l. viewings_breaches ms l (map forget ss)) (next_seen ms first ls s) ∙ second_none one rest e
    in
    all_keep ms (behind_hidden first s) (ls ++ led_after ms first ls s) ss
    (both_keep ls (led_after ms first ls s) all (one_keeps first ls s all (memory_in ms s.parent.entity) (way_in ls s.parent.entity) refl own)) next

pub ways_keep : (p : Program) → factor_breaches_of p ≡ [] → AllByRecursion (λ l. KeepsOffsets l.way) (ways_of p)
ways_keep p e = all_keep (memories_of p) (length p.entities) [] (standings 0 p.body) tt (ap (λ l. viewings_breaches (memories_of p) [] l) (standings_are 0 p.body) ∙ e)
