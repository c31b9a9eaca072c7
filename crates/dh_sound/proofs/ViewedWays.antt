-- The ways of a program and its views: what a way is found of is the view of the table of views, and where no rule on
-- shapes, factors and brackets is broken all views keep the rules; and each way leads to a memory.
use Rattle.std.proofs.Common.{◌≡◌, ℕ, Bool, true, false, if◌then◌else◌, List, [], ◌∷◌, ◌++◌, map, Option, Some, None, option_map, refl, ap, sym, ◌∙◌, subst}
use Rattle.std.specs.List.{AllByRecursion}
use Rattle.std.proofs.lemmas.List.{map-append}
use Rattle.dh_tree.specs.declared.tables.Shape.{Shape}
use Rattle.dh_tree.specs.declared.viewing.Viewed.{Viewed}
use Rattle.dh_tree.specs.declared.viewing.ViewMap.{ViewMap}
use Rattle.dh_tree.specs.Indices.{index_breaches_of, shape_keeps}
use Rattle.dh_tree.specs.Memories.{Memory, memory_in, memories_of, same_entity}
use Rattle.dh_tree.specs.PlainTrees.{Action, action, ActionForm, lets, lets_memory, views, assigns, stores, reduces, calls, blocks, decides, repeats, counts, MaybeAction, no_action, one_action, Actions, no_actions, action_then, Groups, no_groups, group_then, Program}
use Rattle.dh_tree.specs.Ready.{IsReady, most_tokens}
use Rattle.dh_tree.specs.ViewBreaches.{breaks_none, kept_behind, kept_of, kept_shape, kept_shape_in, kept_views}
use Rattle.dh_tree.specs.ViewFactors.{factor_breaches_of, viewing_breaches, viewings_breaches}
use Rattle.dh_tree.specs.Views.{Viewing, form_viewings, groups_viewings, other_viewings, part_viewings, viewings, shape_in, shape_of, view_in, viewed_behind, viewed_in, viewed_of, views_of}
use Rattle.dh_tree.proofs.EmptyLists.{first_none, second_none}
use Rattle.dh_tree.proofs.ProgramTables.{program_table}
use Rattle.dh_meaning.specs.Bindings.{depth_inside}
use Rattle.dh_meaning.specs.Ways.{Led, ViewSite, Way, form_standings, groups_standings, led_after, led_of, other_standings, part_standings, shape_named, standings, way_at, way_in, way_to, way_unless, ways_of}
use Rattle.dh_ways.specs.Leading.{LeadsTo, viewed_of_led}
use Rattle.dh_ways.proofs.WaysLead.{ways_are_views, ways_lead}
use Rattle.dh_sound.proofs.IndicesKeep.{memory_keeps}

-- Lookups.

pub looked : (ls : List Led) (e : Option ℕ) → view_in (map viewed_of_led ls) e ≡ option_map (λ (w : Way). w.is) (way_in ls e)
looked [] e = refl
looked (l ∷ ls) e = by (same_entity l.entity e) (looked ls e)
  where
    by : (b : Bool) → view_in (map viewed_of_led ls) e ≡ option_map (λ (w : Way). w.is) (way_in ls e)
        → (if b then Some l.way.is else view_in (map viewed_of_led ls) e) ≡ option_map (λ (w : Way). w.is) (if b then Some l.way else way_in ls e)
    by true h = refl
    by false h = h

-- Views where they stand are those of the program, in one order.

abbrev pub forget : ViewSite → Viewing
forget s = record { name = s.name; parent = s.parent; form = s.form }

both_are : (xs ys : List ViewSite) (us vs : List Viewing) → map forget xs ≡ us → map forget ys ≡ vs → map forget (xs ++ ys) ≡ us ++ vs
both_are xs ys us vs e f = map-append forget xs ys ∙ (ap (λ l. l ++ map forget ys) e ∙ ap (λ l. us ++ l) f)

mutual
  standings_are : (d : ℕ) (a : Action) → map forget (standings d a) ≡ viewings a
  standings_are d (action id place form) = form_are d form

  form_are : (d : ℕ) (f : ActionForm) → map forget (form_standings d f) ≡ form_viewings f
  form_are d (views name parent form) = refl
  form_are d (lets name declared value) = refl
  form_are d (lets_memory name shape shape_places value) = refl
  form_are d (assigns target value) = refl
  form_are d (stores target value) = refl
  form_are d (reduces target op value) = refl
  form_are d (calls function arguments) = refl
  form_are d (blocks body) = groups_are d body
  form_are d (decides test chosen other) = both_are (standings d chosen) (other_standings d other) (viewings chosen) (other_viewings other) (standings_are d chosen) (other_are d other)
  form_are d (repeats test body) = standings_are d body
  form_are d (counts iterator declared low high factor body combine combine_place) =
      let inside = depth_inside d factor.value in
      both_are (standings inside body) (other_standings inside combine) (viewings body) (other_viewings combine) (standings_are inside body) (other_are inside combine)

  other_are : (d : ℕ) (m : MaybeAction) → map forget (other_standings d m) ≡ other_viewings m
  other_are d no_action = refl
  other_are d (one_action a) = standings_are d a

  groups_are : (d : ℕ) (gs : Groups) → map forget (groups_standings d gs) ≡ groups_viewings gs
  groups_are d no_groups = refl
  groups_are d (group_then part rest) = both_are (part_standings d part) (groups_standings d rest) (part_viewings part) (groups_viewings rest) (part_are d part) (groups_are d rest)

  part_are : (d : ℕ) (part : Actions) → map forget (part_standings d part) ≡ part_viewings part
  part_are d no_actions = refl
  part_are d (action_then a rest) = both_are (standings d a) (part_standings d rest) (viewings a) (part_viewings rest) (standings_are d a) (part_are d rest)

pub first_standings : (p : Program) → map forget (standings 0 p.body) ≡ views_of p
first_standings p = standings_are 0 p.body

-- Shapes that are named.

named_same : (m : Option Memory) (w : Option Way) → shape_named m w ≡ shape_of m (option_map (λ (y : Way). y.is) w)
named_same (Some m) w = refl
named_same None (Some w) = refl
named_same None None = refl

pub shape_same : (ms : List Memory) (ls : List Led) (e : Option ℕ) → shape_named (memory_in ms e) (way_in ls e) ≡ shape_in ms (map viewed_of_led ls) e
shape_same ms ls e = named_same (memory_in ms e) (way_in ls e) ∙ ap (λ o. shape_of (memory_in ms e) o) (sym (looked ls e))

one_seen : (first : ℕ) (s : ViewSite) (o : Option Shape) (w : Option Way) → map viewed_of_led (led_of first s o w) ≡ viewed_of (forget s) o
one_seen first s None w = refl
one_seen first s (Some shape) None = refl
one_seen first s (Some shape) (Some w) = refl

pub next_seen : (ms : List Memory) (first : ℕ) (ls : List Led) (s : ViewSite)
    → map viewed_of_led (ls ++ led_after ms first ls s) ≡ map viewed_of_led ls ++ viewed_of (forget s) (shape_in ms (map viewed_of_led ls) s.parent.entity)
next_seen ms first ls s =
    map-append viewed_of_led ls (led_after ms first ls s)
    ∙ ap (λ l. map viewed_of_led ls ++ l)
    (one_seen first s (shape_named (memory_in ms s.parent.entity) (way_in ls s.parent.entity)) (way_at ms ls s.parent.entity) ∙ ap (λ o. viewed_of (forget s) o) (shape_same ms ls s.parent.entity))

-- Ways that are found.

unless_some : (m : Option Memory) (o : Option Way) (w : Way) → way_unless m o ≡ Some w → o ≡ Some w
unless_some (Some m) o w e = cc
unless_some None o w e = e

pub led_to : (p : Program) (entity : Option ℕ) (w : Way) → way_to p entity ≡ Some w → way_in (ways_of p) entity ≡ Some w
led_to p entity w e = unless_some (memory_in (memories_of p) entity) (way_in (ways_of p) entity) w e

pub way_view : (p : Program) (entity : Option ℕ) (w : Way) → way_to p entity ≡ Some w → view_in (viewed_in p) entity ≡ Some w.is
way_view p entity w e =
    sym (ap (λ (vs : List Viewed). view_in vs entity) (ways_are_views p))
    ∙ (looked (ways_of p) entity ∙ ap (λ o. option_map (λ (y : Way). y.is) o) (led_to p entity w e))

-- what holds of all ways holds of one that is found
pub found_holds : (P : Way → Type 0) (ls : List Led) (e : Option ℕ) (w : Way) → AllByRecursion (λ (l : Led). P l.way) ls → way_in ls e ≡ Some w → P w
found_holds P [] e w h is = absurd cc
found_holds P (l ∷ ls) e w h is = by (same_entity l.entity e) is (λ f. found_holds P ls e w h.1 f)
  where
    or : Way → Option Way → Way
    or y None = y
    or y (Some z) = z

    some_same : (a b : Way) → Some a ≡ Some b → a ≡ b
    some_same a b g = ap (or a) g

    by : (b : Bool) → (if b then Some l.way else way_in ls e) ≡ Some w → (way_in ls e ≡ Some w → P w) → P w
    by true f rest = subst (λ (y : Way). P y) (some_same l.way w f) h.0
    by false f rest = rest f

-- Views that keep the rules.

module _ (ms : List Memory) (keeps : (e : Option ℕ) (m : Memory) → memory_in ms e ≡ Some m → shape_keeps m.shape ≡ true) where
  same_shape : (vs : List Viewed) (e : Option ℕ) → kept_shape_in ms vs e ≡ shape_in ms vs e
  same_shape vs e = by (memory_in ms e) refl (view_in vs e)
    where
      by : (m : Option Memory) → memory_in ms e ≡ m → (v : Option ViewMap) → kept_shape m v ≡ shape_of m v
      by (Some m) f v = ap (λ t. if t then Some m.shape else None) (keeps e m f)
      by None f (Some v) = refl
      by None f None = refl

  one_kept : (v : Viewing) (parent : Option Shape) → viewing_breaches v parent ≡ [] → kept_of v parent ≡ viewed_of v parent
  one_kept v parent e = ap (λ l. if breaks_none l then viewed_of v parent else []) e

  all_kept : (before : List Viewed) (vs : List Viewing) → viewings_breaches ms before vs ≡ [] → kept_behind ms before vs ≡ viewed_behind ms before vs
  all_kept before [] e = refl
  all_kept before (v ∷ vs) e =
      let parent = shape_in ms before v.parent.entity in
      let own = first_none (viewing_breaches v parent) (viewings_breaches ms (before ++ viewed_of v parent) vs) e in
      ap (λ (l : List Viewed). kept_behind ms (before ++ l) vs) (ap (λ o. kept_of v o) (same_shape before v.parent.entity) ∙ one_kept v parent own)
      ∙ all_kept (before ++ viewed_of v parent) vs (second_none (viewing_breaches v parent) (viewings_breaches ms (before ++ viewed_of v parent) vs) e)

-- all views of a program that breaks none of the rules keep them
pub views_kept : (p : Program) → index_breaches_of p ≡ [] → factor_breaches_of p ≡ [] → kept_views p ≡ viewed_in p
views_kept p indices factors = all_kept (memories_of p) (λ e m f. memory_keeps p e m indices f) [] (views_of p) factors

-- The ways of a ready program lead to memories.

pub kept_ways_lead : (p : Program) → IsReady p → (entity : Option ℕ) (w : Way) → way_to p entity ≡ Some w → LeadsTo (memories_of p) w
kept_ways_lead p r entity w e =
    found_holds (λ y. LeadsTo (memories_of p) y) (ways_of p) entity w
    (ways_lead p (first_none (factor_breaches_of p) _ r.views) (program_table p most_tokens r.of_text r.names r.built r.indices r.limits r.placements)) (led_to p entity w e)
