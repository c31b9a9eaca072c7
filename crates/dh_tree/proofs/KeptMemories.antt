-- Of a program that keeps the rules on shapes and on where memories stand, each memory is of a number kind
-- and has at least one dimension, and its shape keeps the rules. By recursion over the body.
use Rattle.std.proofs.Common.{◌≡◌, ◌==◌, ◌&&◌, ◌||◌, not, Bool, true, false, List, [], ◌∷◌, ◌++◌, map, refl, ap, ◌∙◌}
use Rattle.std.specs.Option.{is_some}
use Rattle.std.specs.List.{AllByRecursion}
use Rattle.dh_base.specs.declared.places.Place.{Place}
use Rattle.dh_value.specs.Words.{IsKind}
use Rattle.dh_tree.specs.declared.breaches.Breach.{Breach}
use Rattle.dh_tree.specs.declared.tables.Dim.{Dim}
use Rattle.dh_tree.specs.declared.tables.Shape.{Shape}
use Rattle.dh_tree.specs.declared.trees.programs.DimPlaces.{DimPlaces}
use Rattle.dh_tree.specs.declared.trees.programs.Entity.{Entity}
use Rattle.dh_tree.specs.declared.trees.programs.ShapePlaces.{ShapePlaces}
use Rattle.dh_tree.specs.Indices.{IndexContext, divides, dim_breaches, dims_breaches, shape_breaches, dim_keeps, dims_keep, shape_keeps, term_index_breaches, turns_breaches, action_index_breaches, action_form_index_breaches, other_index_breaches, actions_index_breaches, groups_index_breaches, decls_shape_breaches}
use Rattle.dh_tree.specs.Kinds.{when}
use Rattle.dh_tree.specs.Memories.{Memory, outside_memory, locals, form_locals, other_locals, groups_locals, part_locals}
use Rattle.dh_tree.specs.Placements.{is_no_memory, Context, branched, in_body, in_combine, joined_breaches, action_placement_breaches, form_placement_breaches, other_placement_breaches, actions_placement_breaches, groups_placement_breaches, decls_placement_breaches}
use Rattle.dh_tree.specs.PlainTrees.{Action, action, ActionForm, lets, lets_memory, views, assigns, stores, reduces, calls, blocks, decides, repeats, counts, MaybeAction, no_action, one_action, Actions, no_actions, action_then, Groups, no_groups, group_then, Declared}
use Rattle.dh_tree.specs.Widths.{ActionSized, FormSized, OtherSized, ActionsSized, GroupsSized}
use Rattle.dh_tree.proofs.EmptyLists.{first_none, second_none, not_none}

-- shapes that break no rule keep the rules
none_when : (b : Bool) (x : Breach) → when b (x ∷ []) ≡ [] → b ≡ false
none_when true x e = not_none _ _ e
none_when false x e = refl

not_false : (b : Bool) → not b ≡ false → b ≡ true
not_false true e = refl
not_false false e = cc

both_true : (a b : Bool) → a ≡ true → b ≡ true → (a && b) ≡ true
both_true a b e f = ap (λ x. x && b) e ∙ f

dim_kept : (at to : Place) (d : Dim) → dim_breaches at to d ≡ [] → dim_keeps d ≡ true
dim_kept at to d e =
    both_true (not (d.size == 0)) (divides d.banks d.size)
    (ap not (none_when (d.size == 0) _ (first_none (when (d.size == 0) _) _ e)))
    (not_false (divides d.banks d.size) (none_when (not (divides d.banks d.size)) _ (second_none (when (d.size == 0) _) _ e)))

dims_kept : (at : Place) (ds : List Dim) (ps : List DimPlaces) → dims_breaches at ds ps ≡ [] → dims_keep ds ≡ true
dims_kept at [] ps e = refl
dims_kept at (d ∷ ds) [] e =
    both_true (dim_keeps d) (dims_keep ds) (dim_kept at at d (first_none (dim_breaches at at d) _ e)) (dims_kept at ds [] (second_none (dim_breaches at at d) _ e))
dims_kept at (d ∷ ds) (p ∷ ps) e =
    both_true (dim_keeps d) (dims_keep ds)
    (dim_kept p.size_place p.banks_place d (first_none (dim_breaches p.size_place p.banks_place d) _ e))
    (dims_kept at ds ps (second_none (dim_breaches p.size_place p.banks_place d) _ e))

pub shape_kept : (s : Shape) (places : ShapePlaces) → shape_breaches s places ≡ [] → shape_keeps s ≡ true
shape_kept s places e =
    both_true (not (s.ports == 0)) (dims_keep s.dims)
    (ap not (none_when (s.ports == 0) _ (first_none (when (s.ports == 0) _) _ e)))
    (dims_kept places.kind_place s.dims places.dims (second_none (when (s.ports == 0) _) _ e))

-- a memory that keeps the rules
pub record IsKept (m : Memory) : Type 0 where
  pub keeps : shape_keeps m.shape ≡ true
  pub memory : is_no_memory m.shape ≡ false
  pub sized : IsKind m.shape.kind

-- a local one
pub record IsKeptLocal (m : Memory) : Type 0 where
  pub kept : IsKept m
  pub inner : m.outside ≡ false

any_false : (a b c : Bool) → (a || (b || c)) ≡ false → b ≡ false
any_false false false c e = refl
any_false false true c e = cc
any_false true b c e = cc

all_both : {A : Type 0} (P : A → Type 0) (xs ys : List A) → AllByRecursion P xs → AllByRecursion P ys → AllByRecursion P (xs ++ ys)
all_both P [] ys h i = i
all_both P (x ∷ xs) ys h i = (h.0, all_both P xs ys h.1 i)

module _ (known : IndexContext) (es : List Entity) where
  mutual
    pub locals_kept : (c : Context) (a : Action) → action_index_breaches known a ≡ [] → action_placement_breaches es c a ≡ [] → ActionSized a → AllByRecursion IsKeptLocal (locals a)
    locals_kept c (action id place form) i p w = form_kept c place form i p w

    form_kept : (c : Context) (place : Place) (f : ActionForm) → action_form_index_breaches known f ≡ [] → form_placement_breaches es c place f ≡ [] → FormSized f → AllByRecursion IsKeptLocal (form_locals f)
    form_kept c place (lets name declared value) i p w = tt
    form_kept c place (lets_memory name shape shape_places value) i p w =
        let kept : IsKept (record { name = name; shape = shape; shape_places = shape_places; outside = false }) = record {
          keeps = shape_kept shape shape_places (first_none (shape_breaches shape shape_places) _ i);
          memory = any_false c.within (is_no_memory shape) (is_some value) (none_when (c.within || (is_no_memory shape || is_some value)) _ p);
          sized = w.0;
        } in
        (record { kept = kept; inner = refl }, tt)
    form_kept c place (views name parent form) i p w = tt
    form_kept c place (assigns target value) i p w = tt
    form_kept c place (stores target value) i p w = tt
    form_kept c place (reduces target o value) i p w = tt
    form_kept c place (calls function arguments) i p w = tt
    form_kept c place (blocks body) i p w = groups_kept c body i p w
    form_kept c place (decides test chosen other) i p w =
        let inside = second_none (term_index_breaches known test) _ i in
        let behind = second_none (action_placement_breaches es (branched c) chosen) _ p in
        all_both IsKeptLocal (locals chosen) (other_locals other)
        (locals_kept (branched c) chosen (first_none (action_index_breaches known chosen) _ inside) (first_none (action_placement_breaches es (branched c) chosen) _ p) w.1.0)
        (other_kept (branched c) other (second_none (action_index_breaches known chosen) _ inside) (first_none (other_placement_breaches es (branched c) other) _ behind) w.1.1)
    form_kept c place (repeats test body) i p w =
        locals_kept (branched c) body (second_none (term_index_breaches known test) _ i) (first_none (action_placement_breaches es (branched c) body) _ p) w.1
    form_kept c place (counts iterator declared low high factor body combine combine_place) i p w =
        let inside = second_none (turns_breaches low high factor) _ i in
        let c_body : Context = in_body c factor.value iterator.entity in
        let c_combine : Context = in_combine c iterator.entity in
        let behind = second_none (action_placement_breaches es c_body body) _ p in
        all_both IsKeptLocal (locals body) (other_locals combine)
        (locals_kept c_body body (first_none (action_index_breaches known body) _ inside) (first_none (action_placement_breaches es c_body body) _ p) w.1.0)
        (other_kept c_combine combine (second_none (action_index_breaches known body) _ inside) (first_none (other_placement_breaches es c_combine combine) _ behind) w.1.1)

    other_kept : (c : Context) (m : MaybeAction) → other_index_breaches known m ≡ [] → other_placement_breaches es c m ≡ [] → OtherSized m → AllByRecursion IsKeptLocal (other_locals m)
    other_kept c no_action i p w = tt
    other_kept c (one_action a) i p w = locals_kept c a i p w

    part_kept : (c : Context) (part : Actions) → actions_index_breaches known part ≡ [] → actions_placement_breaches es c part ≡ [] → ActionsSized part → AllByRecursion IsKeptLocal (part_locals part)
    part_kept c no_actions i p w = tt
    part_kept c (action_then a rest) i p w =
        let behind = second_none (joined_breaches c.joins a) _ (second_none (action_placement_breaches es c a) _ p) in
        all_both IsKeptLocal (locals a) (part_locals rest)
        (locals_kept c a (first_none (action_index_breaches known a) _ i) (first_none (action_placement_breaches es c a) _ p) w.0)
        (part_kept c rest (second_none (action_index_breaches known a) _ i) behind w.1)

    groups_kept : (c : Context) (g : Groups) → groups_index_breaches known g ≡ [] → groups_placement_breaches es c g ≡ [] → GroupsSized g → AllByRecursion IsKeptLocal (groups_locals g)
    groups_kept c no_groups i p w = tt
    groups_kept c (group_then g rest) i p w =
        all_both IsKeptLocal (part_locals g) (groups_locals rest)
        (part_kept c g (first_none (actions_index_breaches known g) _ i) (first_none (actions_placement_breaches es c g) _ p) w.0)
        (groups_kept c rest (second_none (actions_index_breaches known g) _ i) (second_none (actions_placement_breaches es c g) _ p) w.1)

-- memories from outside
pub decls_kept : (ds : List Declared) → decls_shape_breaches ds ≡ [] → decls_placement_breaches ds ≡ [] → AllByRecursion (λ (d : Declared). IsKind d.shape.kind) ds → AllByRecursion IsKept (map outside_memory ds)
decls_kept [] i p w = tt
decls_kept (d ∷ ds) i p w =
    let kept : IsKept (outside_memory d) = record {
      keeps = shape_kept d.shape d.shape_places (first_none (shape_breaches d.shape d.shape_places) _ i);
      memory = none_when (is_no_memory d.shape) _ (first_none (when (is_no_memory d.shape) _) _ p);
      sized = w.0;
    } in
    (kept, decls_kept ds (second_none (shape_breaches d.shape d.shape_places) _ i) (second_none (when (is_no_memory d.shape) _) _ p) w.1)

all_locals_kept : (ms : List Memory) → AllByRecursion IsKeptLocal ms → AllByRecursion IsKept ms
all_locals_kept [] h = tt
all_locals_kept (m ∷ ms) h = (h.0.kept, all_locals_kept ms h.1)

pub all_kept : (outer inner : List Memory) → AllByRecursion IsKept outer → AllByRecursion IsKeptLocal inner → AllByRecursion IsKept (outer ++ inner)
all_kept outer inner h i = all_both IsKept outer inner h (all_locals_kept inner i)
