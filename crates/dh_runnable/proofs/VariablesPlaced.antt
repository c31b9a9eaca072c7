-- The slots of a program's variables and the variables of its meaning are told of the same declarations: the walk that
-- lists the factors of the loops round each declaration lists as many as the walk that counts these loops, with the same
-- kinds and in the same order. So what is found of an entity in the one list is found in the other, and the slots of an
-- entity have the depth of its declaration. By recursion over commands, over both lists, and over the entities.
use Rattle.std.proofs.Common.{◌≡◌, ℕ, zero, suc, ◌+◌, ◌<◌, nat_lt, Bool, true, false, if◌then◌else◌, List, [], ◌∷◌, ◌++◌, length, take, Option, Some, refl, ap, sym, ◌∙◌, subst, arith, length-append}
use Rattle.std.specs.Prelude.{slice_index_or}
use Rattle.dh_tree.specs.Memories.{same_entity}
use Rattle.dh_tree.specs.PlainTrees.{Action, action, ActionForm, lets, lets_memory, views, assigns, stores, reduces, calls, blocks, decides, repeats, counts, MaybeAction, no_action, one_action, Actions, no_actions, action_then, Groups, no_groups, group_then}
use Rattle.dh_meaning.specs.Bindings.{Binding, depth_inside, bindings, form_bindings, other_bindings, groups_bindings, part_bindings, binding_in, kind_bound, depth_bound}
use Rattle.dh_meaning.specs.CoreOf.{Known}
use Rattle.dh_code.specs.Declarations.{Declaration, factors_inside, declarations, form_declarations, other_declarations, groups_declarations, part_declarations, declaration_in, declared_factors, kind_declared, all_held}
use Rattle.dh_code.specs.Ranks.{copies_in}
use Rattle.dh_code.specs.Slots.{Placing, held_nowhere}
use Rattle.dh_runnable.proofs.NamesKnown.{IsPlaced}

-- Two lists of one program's variables.

-- a declaration is this variable
pub record IsSame (d : Declaration) (b : Binding) : Type 0 where
  pub entity : b.entity ≡ d.entity
  pub kind : b.kind ≡ d.kind_is
  pub depth : b.depth ≡ length d.factors

abbrev pub AreSame : List Declaration → List Binding → Type 0
AreSame [] [] = Unit {0}
AreSame [] (b ∷ bs) = ⊥
AreSame (d ∷ ds) [] = ⊥
AreSame (d ∷ ds) (b ∷ bs) = IsSame d b × AreSame ds bs

both_same : (ds es : List Declaration) (bs cs : List Binding) → AreSame ds bs → AreSame es cs → AreSame (ds ++ es) (bs ++ cs)
both_same [] es [] cs h i = i
both_same [] es (b ∷ bs) cs h i = elim h [ ]
both_same (d ∷ ds) es [] cs h i = elim h [ ]
both_same (d ∷ ds) es (b ∷ bs) cs h i = (h.0, both_same ds es bs cs h.1 i)

-- inside a loop
inside_long : (factors : List ℕ) (depth factor : ℕ) → depth ≡ length factors → depth_inside depth factor ≡ length (factors_inside factors factor)
inside_long factors depth factor e = by (nat_lt 1 factor)
  where
    by : (b : Bool) → (if b then suc depth else depth) ≡ length (if b then factors ++ factor ∷ [] else factors)
    by true = let n = length-append factors (factor ∷ []) in omega (arith, n, e)
    by false = e

mutual
  pub all_same : (a : Action) (factors : List ℕ) (depth : ℕ) → depth ≡ length factors → AreSame (declarations factors a) (bindings depth a)
  all_same (action id place form) factors depth e = form_same form factors depth e

  form_same : (f : ActionForm) (factors : List ℕ) (depth : ℕ) → depth ≡ length factors → AreSame (form_declarations factors f) (form_bindings depth f)
  form_same (lets name declared value) factors depth e = (record { entity = refl; kind = refl; depth = e }, tt)
  form_same (lets_memory name shape shape_places value) factors depth e = tt
  form_same (views name parent form) factors depth e = tt
  form_same (assigns target value) factors depth e = tt
  form_same (stores target value) factors depth e = tt
  form_same (reduces target o value) factors depth e = tt
  form_same (calls function arguments) factors depth e = tt
  form_same (blocks body) factors depth e = groups_same body factors depth e
  form_same (decides test chosen other) factors depth e =
      both_same (declarations factors chosen) (other_declarations factors other) (bindings depth chosen) (other_bindings depth other) (all_same chosen factors depth e) (other_same other factors depth e)
  form_same (repeats test body) factors depth e = all_same body factors depth e
  form_same (counts iterator declared low high factor body combine combine_place) factors depth e =
      let inner : List ℕ = factors_inside factors factor.value in
      let deep : ℕ = depth_inside depth factor.value in
      let same = inside_long factors depth factor.value e in (
        record { entity = refl; kind = refl; depth = same },
        both_same (declarations inner body) (other_declarations inner combine) (bindings deep body) (other_bindings deep combine) (all_same body inner deep same) (other_same combine inner deep same),
      )

  other_same : (m : MaybeAction) (factors : List ℕ) (depth : ℕ) → depth ≡ length factors → AreSame (other_declarations factors m) (other_bindings depth m)
  other_same no_action factors depth e = tt
  other_same (one_action a) factors depth e = all_same a factors depth e

  groups_same : (gs : Groups) (factors : List ℕ) (depth : ℕ) → depth ≡ length factors → AreSame (groups_declarations factors gs) (groups_bindings depth gs)
  groups_same no_groups factors depth e = tt
  groups_same (group_then part rest) factors depth e =
      both_same (part_declarations factors part) (groups_declarations factors rest) (part_bindings depth part) (groups_bindings depth rest) (part_same part factors depth e) (groups_same rest factors depth e)

  part_same : (part : Actions) (factors : List ℕ) (depth : ℕ) → depth ≡ length factors → AreSame (part_declarations factors part) (part_bindings depth part)
  part_same no_actions factors depth e = tt
  part_same (action_then a rest) factors depth e =
      both_same (declarations factors a) (part_declarations factors rest) (bindings depth a) (part_bindings depth rest) (all_same a factors depth e) (part_same rest factors depth e)

-- what is found of an entity in both
pub record IsFoundSame (d : Option Declaration) (b : Option Binding) : Type 0 where
  pub kind : kind_bound b ≡ kind_declared d
  pub depth : depth_bound b ≡ length (declared_factors d)

-- what is found among the first declarations is found among all, and so is its variable
pub found_among : (ds more : List Declaration) (bs others : List Binding) (n : ℕ) (d : Declaration) → AreSame ds bs → declaration_in ds n ≡ Some d
    → (declaration_in (ds ++ more) n ≡ Some d) × IsFoundSame (declaration_in (ds ++ more) n) (binding_in (bs ++ others) n)
found_among [] more [] others n d h e = absurd cc
found_among [] more (b ∷ bs) others n d h e = elim h [ ]
found_among (x ∷ ds) more [] others n d h e = elim h [ ]
found_among (x ∷ ds) more (b ∷ bs) others n d h e =
    subst (λ (z : Option ℕ). (declaration_in ((x ∷ ds) ++ more) n ≡ Some d)
    × IsFoundSame (declaration_in ((x ∷ ds) ++ more) n) (if same_entity z (Some n) then Some b else binding_in (bs ++ others) n)) (sym h.0.entity) (by (same_entity x.entity (Some n)) e (λ f. found_among ds more bs others n d h.1 f))
  where
    by : (t : Bool) → (if t then Some x else declaration_in ds n) ≡ Some d
        → (declaration_in ds n ≡ Some d → (declaration_in (ds ++ more) n ≡ Some d) × IsFoundSame (declaration_in (ds ++ more) n) (binding_in (bs ++ others) n))
        → ((if t then Some x else declaration_in (ds ++ more) n) ≡ Some d) × IsFoundSame (if t then Some x else declaration_in (ds ++ more) n) (if t then Some b else binding_in (bs ++ others) n)
    by true f rest = (f, record { kind = h.0.kind; depth = h.0.depth })
    by false f rest = rest f

-- Slots.

pub all_long : (ds : List Declaration) (count from entities : ℕ) → length (all_held ds count from entities) ≡ entities
all_long ds count from zero = refl
all_long ds count from (suc entities) = ap suc (all_long ds (count + copies_in (declared_factors (declaration_in ds from))) (suc from) entities)

pub depth_held : (ds : List Declaration) (count from entities n : ℕ) → n < entities → (slice_index_or (all_held ds count from entities) n held_nowhere).depth ≡ length (declared_factors (declaration_in ds (from + n)))
depth_held ds count from zero n l = let none : ⊥ = omega (arith, l) in elim none [ ]
depth_held ds count from (suc entities) zero l = ap (λ (k : ℕ). length (declared_factors (declaration_in ds k))) (start from)
  where
    start : (k : ℕ) → k ≡ k + 0
    start k = omega arith
depth_held ds count from (suc entities) (suc n) l =
    depth_held ds (count + copies_in (declared_factors (declaration_in ds from))) (suc from) entities n (omega (arith, l)) ∙ ap (λ (k : ℕ). length (declared_factors (declaration_in ds k))) (next from n)
  where
    next : (k i : ℕ) → suc k + i ≡ k + suc i
    next k i = omega arith

-- the slots of so many entities, by these declarations
abbrev pub placing_in : List Declaration → (entities : ℕ) → Placing
placing_in ds entities = record { held = all_held ds 0 0 entities; factors = λ n. declared_factors (declaration_in ds n) }

pub take_all : (xs : List ℕ) (n : ℕ) → n ≡ length xs → xs ≡ take n xs
take_all xs n e = subst (λ (k : ℕ). xs ≡ take k xs) (sym e) (whole xs)
  where
    whole : (xs : List ℕ) → xs ≡ take (length xs) xs
    whole [] = refl
    whole (x ∷ xs) = ap (λ l. x ∷ l) (whole xs)

-- a declaration that is found of an entity places it inside the loops round it
pub declaration_placed : (known : Known) (ds : List Declaration) (entities n : ℕ) (d : Declaration) → IsFoundSame (declaration_in ds n) (binding_in known.bindings n) → declaration_in ds n ≡ Some d → n < entities → IsPlaced known (placing_in ds entities) d.factors n d.kind_is
declaration_placed known ds entities n d same e l =
    let deep : depth_bound (binding_in known.bindings n) ≡ length d.factors = same.depth ∙ ap (λ o. length (declared_factors o)) e in
    record {
      bound = same.kind ∙ ap kind_declared e;
      inside = record {
        known = let long = all_long ds 0 0 entities in omega (arith, long, l);
        deep = omega (arith, deep);
        held = depth_held ds 0 0 entities n l ∙ (ap (λ (k : ℕ). length (declared_factors (declaration_in ds k))) (front n) ∙ sym same.depth);
        round = ap declared_factors e ∙ take_all d.factors (depth_bound (binding_in known.bindings n)) deep;
      };
    }
  where
    front : (k : ℕ) → 0 + k ≡ k
    front k = omega arith
