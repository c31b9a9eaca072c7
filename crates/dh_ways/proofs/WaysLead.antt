-- The ways of a program are those of its views, and the views on each follow one another to a memory.
use Rattle.std.proofs.Common.{◌≡◌, ℕ, Bool, true, false, if◌then◌else◌, List, [], ◌∷◌, ◌++◌, map, length, Option, Some, None, option_map, refl, ap, sym, ◌∙◌, subst}
use Rattle.std.specs.List.{AllByRecursion}
use Rattle.std.proofs.lemmas.List.{map-append}
use Rattle.dh_tree.specs.declared.tables.Shape.{Shape}
use Rattle.dh_tree.specs.Memories.{Memory, memory_in, memories_of, entry_of, same_entity, table_of}
use Rattle.dh_tree.specs.PlainTrees.{Action, action, ActionForm, lets, lets_memory, views, assigns, stores, reduces, calls, blocks, decides, repeats, counts, MaybeAction, no_action, one_action, Actions, no_actions, action_then, Groups, no_groups, group_then, Program}
use Rattle.dh_tree.specs.Shapes.{IsMemory, IsProgramTable}
use Rattle.dh_tree.specs.ViewFactors.{viewing_breaches, viewings_breaches, factor_breaches_of}
use Rattle.dh_tree.specs.Views.{Viewing, form_viewings, groups_viewings, map_of, other_viewings, part_viewings, shape_in, shape_of, view_in, viewed_behind, viewed_in, viewed_of, viewings}
use Rattle.dh_tree.specs.ViewShapes.{IsViewMap}
use Rattle.dh_viewing.proofs.KeptPrograms.{memory_kept}
use Rattle.dh_viewing.proofs.KeptViews.{first_none, second_none, kept_view}
use Rattle.dh_meaning.specs.Bindings.{depth_inside}
use Rattle.dh_meaning.specs.Ways.{Led, ViewSite, Way, behind_hidden, form_standings, groups_standings, led_after, led_behind, led_of, other_standings, part_standings, shape_named, standings, way_at, way_in, way_unless, ways_of}
use Rattle.dh_ways.specs.Leading.{LeadsTo, viewed_of_led}

-- Views where they stand are those of the program, in one order.

abbrev pub forget : ViewSite → Viewing
forget s = record { name = s.name; parent = s.parent; form = s.form }

both_are : (xs ys : List ViewSite) (us vs : List Viewing) → map forget xs ≡ us → map forget ys ≡ vs → map forget (xs ++ ys) ≡ us ++ vs
both_are xs ys us vs e f = map-append forget xs ys ∙ (ap (λ l. l ++ map forget ys) e ∙ ap (λ l. us ++ l) f)

mutual
  pub standings_are : (d : ℕ) (a : Action) → map forget (standings d a) ≡ viewings a
  standings_are d (action id place form) = form_are d form

  form_are : (d : ℕ) (f : ActionForm) → map forget (form_standings d f) ≡ form_viewings f
  form_are d (views name parent form) = refl
  form_are d (lets name declared value) = refl
  form_are d (lets_memory name shape shape_places value) = refl
  form_are d (assigns target value) = refl
  form_are d (stores target value) = refl
  form_are d (reduces target op value) = refl
  form_are d (calls function arguments) = refl
  form_are d (blocks body) = groups_are d body
  form_are d (decides test chosen other) = both_are (standings d chosen) (other_standings d other) (viewings chosen) (other_viewings other) (standings_are d chosen) (other_are d other)
  form_are d (repeats test body) = standings_are d body
  form_are d (counts iterator declared low high factor body combine combine_place) =
      let inside = depth_inside d factor.value in
      both_are (standings inside body) (other_standings inside combine) (viewings body) (other_viewings combine) (standings_are inside body) (other_are inside combine)

  other_are : (d : ℕ) (m : MaybeAction) → map forget (other_standings d m) ≡ other_viewings m
  other_are d no_action = refl
  other_are d (one_action a) = standings_are d a

  groups_are : (d : ℕ) (gs : Groups) → map forget (groups_standings d gs) ≡ groups_viewings gs
  groups_are d no_groups = refl
  groups_are d (group_then part rest) = both_are (part_standings d part) (groups_standings d rest) (part_viewings part) (groups_viewings rest) (part_are d part) (groups_are d rest)

  part_are : (d : ℕ) (part : Actions) → map forget (part_standings d part) ≡ part_viewings part
  part_are d no_actions = refl
  part_are d (action_then a rest) = both_are (standings d a) (part_standings d rest) (viewings a) (part_viewings rest) (standings_are d a) (part_are d rest)

-- Lookups.

looked : (ls : List Led) (e : Option ℕ) → view_in (map viewed_of_led ls) e ≡ option_map (λ (w : Way). w.is) (way_in ls e)
looked [] e = refl
looked (l ∷ ls) e = by (same_entity l.entity e) (looked ls e)
  where
    by : (b : Bool) → view_in (map viewed_of_led ls) e ≡ option_map (λ (w : Way). w.is) (way_in ls e)
        → (if b then Some l.way.is else view_in (map viewed_of_led ls) e) ≡ option_map (λ (w : Way). w.is) (if b then Some l.way else way_in ls e)
    by true h = refl
    by false h = h

named_same : (m : Option Memory) (w : Option Way) → shape_named m w ≡ shape_of m (option_map (λ (w : Way). w.is) w)
named_same (Some m) w = refl
named_same None (Some w) = refl
named_same None None = refl

pub shape_same : (ms : List Memory) (ls : List Led) (e : Option ℕ) → shape_named (memory_in ms e) (way_in ls e) ≡ shape_in ms (map viewed_of_led ls) e
shape_same ms ls e = named_same (memory_in ms e) (way_in ls e) ∙ ap (λ o. shape_of (memory_in ms e) o) (sym (looked ls e))

-- Ways are of views.

one_seen : (first : ℕ) (s : ViewSite) (o : Option Shape) (w : Option Way) → map viewed_of_led (led_of first s o w) ≡ viewed_of (forget s) o
one_seen first s None w = refl
one_seen first s (Some shape) None = refl
one_seen first s (Some shape) (Some w) = refl

pub next_seen : (ms : List Memory) (first : ℕ) (ls : List Led) (s : ViewSite)
    → map viewed_of_led (ls ++ led_after ms first ls s) ≡ map viewed_of_led ls ++ viewed_of (forget s) (shape_in ms (map viewed_of_led ls) s.parent.entity)
next_seen ms first ls s =
    map-append viewed_of_led ls (led_after ms first ls s)
    ∙ ap (λ l. map viewed_of_led ls ++ l)
    (one_seen first s (shape_named (memory_in ms s.parent.entity) (way_in ls s.parent.entity)) (way_at ms ls s.parent.entity) ∙ ap (λ o. viewed_of (forget s) o) (shape_same ms ls s.parent.entity))

all_seen : (ms : List Memory) (first : ℕ) (ls : List Led) (ss : List ViewSite) → map viewed_of_led (led_behind ms first ls ss) ≡ viewed_behind ms (map viewed_of_led ls) (map forget ss)
all_seen ms first ls [] = refl
all_seen ms first ls (s ∷ ss) =
    all_seen ms (behind_hidden first s) (ls ++ led_after ms first ls s) ss ∙ ap (λ l. viewed_behind ms l (map forget ss)) (next_seen ms first ls s)

pub ways_are_views : (p : Program) → map viewed_of_led (ways_of p) ≡ viewed_in p
ways_are_views p =
    all_seen (memories_of p) (length p.entities) [] (standings 0 p.body) ∙ ap (λ l. viewed_behind (memories_of p) [] l) (standings_are 0 p.body)

-- They lead to memories.

module _ (ms : List Memory) where
  abbrev AllLead : List Led → Type 0
  AllLead ls = AllByRecursion (λ l. LeadsTo ms l.way) ls

  both_lead : (ls more : List Led) → AllLead ls → AllLead more → AllLead (ls ++ more)
  both_lead [] more h k = k
  both_lead (l ∷ ls) more h k = (h.0, both_lead ls more h.1 k)

  way_leads : (ls : List Led) (e : Option ℕ) (w : Way) → AllLead ls → way_in ls e ≡ Some w → LeadsTo ms w
  way_leads [] e w h is = cc
  way_leads (l ∷ ls) e w h is = by (same_entity l.entity e) is (λ f. way_leads ls e w h.1 f)
    where
      by : (b : Bool) → (if b then Some l.way else way_in ls e) ≡ Some w → (way_in ls e ≡ Some w → LeadsTo ms w) → LeadsTo ms w
      by true f rest = subst (λ (y : Way). LeadsTo ms y) (some_same l.way w f) h.0
        where
          or : Way → Option Way → Way
          or y None = y
          or y (Some z) = z

          some_same : (a b : Way) → Some a ≡ Some b → a ≡ b
          some_same a b g = ap (or a) g
      by false f rest = rest f

  module _ (entries : AllByRecursion IsMemory (map entry_of ms)) where
    one_leads : (first : ℕ) (ls : List Led) (s : ViewSite) (all : AllLead ls) (m : Option Memory) → memory_in ms s.parent.entity ≡ m → (w : Option Way) → way_in ls s.parent.entity ≡ w
        → viewing_breaches (forget s) (shape_named m w) ≡ [] → AllLead (led_of first s (shape_named m w) (way_unless m w))
    one_leads first ls s all (Some m) f w g e =
        let v : IsViewMap (map_of s.form m.shape) = kept_view s.form m.shape s.parent.place (memory_kept ms s.parent.entity m entries f) e in
        (record { memory = m; found = f; own = v; steps = (v, (refl, tt)); first = refl }, tt)
    one_leads first ls s all None f (Some w) g e =
        let before = way_leads ls s.parent.entity w all g in
        let v : IsViewMap (map_of s.form w.is.shape) = kept_view s.form w.is.shape s.parent.place before.own.own e in
        (record { memory = before.memory; found = before.found; own = v; steps = (v, (sym before.first, before.steps)); first = refl }, tt)
    one_leads first ls s all None f None g e = tt

    all_lead : (first : ℕ) (ls : List Led) (ss : List ViewSite) → AllLead ls → viewings_breaches ms (map viewed_of_led ls) (map forget ss) ≡ [] → AllLead (led_behind ms first ls ss)
    all_lead first ls [] all e = all
    all_lead first ls (s ∷ ss) all e =
        let o = shape_in ms (map viewed_of_led ls) s.parent.entity in
        let one = viewing_breaches (forget s) o in
        let rest = viewings_breaches ms (map viewed_of_led ls ++ viewed_of (forget s) o) (map forget ss) in
        let own : viewing_breaches (forget s) (shape_named (memory_in ms s.parent.entity) (way_in ls s.parent.entity)) ≡ [] =
        ap (λ x. viewing_breaches (forget s) x) (shape_same ms ls s.parent.entity) ∙ first_none one rest e
        in
        let next : viewings_breaches ms (map viewed_of_led (ls ++ led_after ms first ls s)) (map forget ss) ≡ [] =
        ap (λ l. viewings_breaches ms l (map forget ss)) (next_seen ms first ls s) ∙ second_none one rest e
        in
        all_lead (behind_hidden first s) (ls ++ led_after ms first ls s) ss
        (both_lead ls (led_after ms first ls s) all (one_leads first ls s all (memory_in ms s.parent.entity) refl (way_in ls s.parent.entity) refl own)) next

pub ways_lead : (p : Program) → factor_breaches_of p ≡ [] → IsProgramTable (table_of p) → AllByRecursion (λ l. LeadsTo (memories_of p) l.way) (ways_of p)
ways_lead p e t =
    all_lead (memories_of p) t.entries (length p.entities) [] (standings 0 p.body) tt (ap (λ l. viewings_breaches (memories_of p) [] l) (standings_are 0 p.body) ∙ e)
