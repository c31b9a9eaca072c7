-- The slots of a program's variables are of their kinds: declarations and bindings are the same variables in the same
-- order. By induction on the tree.
use Rattle.std.proofs.Common.{◌≡◌, ℕ, zero, suc, ◌+◌, ◌<◌, Bool, true, false, if◌then◌else◌, List, [], ◌∷◌, ◌++◌, length, map, Some, refl, ap, sym, ◌∙◌, arith}
use Rattle.std.specs.Prelude.{Option}
use Rattle.std.proofs.lemmas.List.{map-append}
use Rattle.dh_value.specs.declared.kinds.Kind.{Kind}
use Rattle.dh_tree.specs.Memories.{same_entity}
use Rattle.dh_tree.specs.PlainTrees.{Action, action, ActionForm, lets, lets_memory, views, assigns, stores, reduces, calls, blocks, decides, repeats, counts, MaybeAction, no_action, one_action, Actions, no_actions, action_then, Groups, no_groups, group_then}
use Rattle.dh_meaning.specs.Bindings.{Binding, binding_in, bindings, depth_inside, form_bindings, groups_bindings, kind_bound, other_bindings, part_bindings}
use Rattle.dh_tree.specs.Kinds.{iterator_kind}
use Rattle.dh_code.specs.Declarations.{Declaration, all_held, declaration_in, declarations, factors_inside, declared_factors, form_declarations, groups_declarations, kind_declared, other_declarations, part_declarations}
use Rattle.dh_code.specs.Ranks.{copies_in}
use Rattle.dh_code.specs.Slots.{held_at}

-- a variable and its kind
pub record Kinded : Type 0 where
  pub entity : Option ℕ
  pub kind_is : Kind

abbrev pub declared_kind : Declaration → Kinded
declared_kind d = record { entity = d.entity; kind_is = d.kind_is }

abbrev pub bound_kind : Binding → Kinded
bound_kind b = record { entity = b.entity; kind_is = b.kind }

abbrev pub Alike : List Declaration → List Binding → Type 0
Alike ds bs = map declared_kind ds ≡ map bound_kind bs

alike_both : (ds es : List Declaration) (bs cs : List Binding) → Alike ds bs → Alike es cs → Alike (ds ++ es) (bs ++ cs)
alike_both ds es bs cs h k = map-append declared_kind ds es ∙ (ap (λ l. l ++ map declared_kind es) h ∙ (ap (λ l. map bound_kind bs ++ l) k ∙ sym (map-append bound_kind bs cs)))

mutual
  pub alike : (fs : List ℕ) (depth : ℕ) (a : Action) → Alike (declarations fs a) (bindings depth a)
  alike fs depth (action id place form) = alike_form fs depth form

  alike_form : (fs : List ℕ) (depth : ℕ) (form : ActionForm) → Alike (form_declarations fs form) (form_bindings depth form)
  alike_form fs depth (lets name declared value) = refl
  alike_form fs depth (lets_memory name shape shape_places value) = refl
  alike_form fs depth (views name parent form) = refl
  alike_form fs depth (assigns target value) = refl
  alike_form fs depth (stores target value) = refl
  alike_form fs depth (reduces target op value) = refl
  alike_form fs depth (calls function arguments) = refl
  alike_form fs depth (blocks body) = alike_groups fs depth body
  alike_form fs depth (decides test chosen other) = alike_both (declarations fs chosen) (other_declarations fs other) (bindings depth chosen) (other_bindings depth other) (alike fs depth chosen) (alike_other fs depth other)
  alike_form fs depth (repeats test body) = alike fs depth body
  alike_form fs depth (counts iterator declared low high factor body combine combine_place) =
      let gs = factors_inside fs factor.value in
      let deep = depth_inside depth factor.value in
      ap (λ (l : List Kinded). record { entity = iterator.entity; kind_is = iterator_kind declared } ∷ l) (alike_both (declarations gs body) (other_declarations gs combine) (bindings deep body) (other_bindings deep combine) (alike gs deep body) (alike_other gs deep combine))

  alike_other : (fs : List ℕ) (depth : ℕ) (other : MaybeAction) → Alike (other_declarations fs other) (other_bindings depth other)
  alike_other fs depth no_action = refl
  alike_other fs depth (one_action a) = alike fs depth a

  alike_groups : (fs : List ℕ) (depth : ℕ) (gs : Groups) → Alike (groups_declarations fs gs) (groups_bindings depth gs)
  alike_groups fs depth no_groups = refl
  alike_groups fs depth (group_then part rest) = alike_both (part_declarations fs part) (groups_declarations fs rest) (part_bindings depth part) (groups_bindings depth rest) (alike_part fs depth part) (alike_groups fs depth rest)

  alike_part : (fs : List ℕ) (depth : ℕ) (part : Actions) → Alike (part_declarations fs part) (part_bindings depth part)
  alike_part fs depth no_actions = refl
  alike_part fs depth (action_then a rest) = alike_both (declarations fs a) (part_declarations fs rest) (bindings depth a) (part_bindings depth rest) (alike fs depth a) (alike_part fs depth rest)

pub same_kinds : (ds : List Declaration) (bs : List Binding) → Alike ds bs → (e : ℕ) → kind_declared (declaration_in ds e) ≡ kind_bound (binding_in bs e)
same_kinds [] [] h e = refl
same_kinds [] (b ∷ bs) h e = absurd cc
same_kinds (d ∷ ds) [] h e = absurd cc
same_kinds (d ∷ ds) (b ∷ bs) h e = by (first h) (same_kinds ds bs (rest h) e) (same_entity b.entity (Some e)) refl
  where
    first : map declared_kind (d ∷ ds) ≡ map bound_kind (b ∷ bs) → declared_kind d ≡ bound_kind b
    first h = cc

    rest : map declared_kind (d ∷ ds) ≡ map bound_kind (b ∷ bs) → map declared_kind ds ≡ map bound_kind bs
    rest h = cc

    by : declared_kind d ≡ bound_kind b → kind_declared (declaration_in ds e) ≡ kind_bound (binding_in bs e) → (t : Bool) → same_entity b.entity (Some e) ≡ t
        → kind_declared (if same_entity d.entity (Some e) then Some d else declaration_in ds e) ≡ kind_bound (if same_entity b.entity (Some e) then Some b else binding_in bs e)
    by same later true is =
        ap (λ t. kind_declared (if t then Some d else declaration_in ds e)) (ap (λ (k : Kinded). same_entity k.entity (Some e)) same ∙ is)
        ∙ (ap (λ (k : Kinded). k.kind_is) same ∙ ap (λ t. kind_bound (if t then Some b else binding_in bs e)) (sym is))
    by same later false is =
        ap (λ t. kind_declared (if t then Some d else declaration_in ds e)) (ap (λ (k : Kinded). same_entity k.entity (Some e)) same ∙ is)
        ∙ (later ∙ ap (λ t. kind_bound (if t then Some b else binding_in bs e)) (sym is))

pub held_kind : (ds : List Declaration) (count from n e : ℕ) → e < n → (held_at (all_held ds count from n) e).kind ≡ kind_declared (declaration_in ds (from + e))
held_kind ds count from zero e within = absurd (none e within)
  where
    none : (n : ℕ) → n < 0 → ⊥
    none n e = omega (arith, e)
held_kind ds count from (suc n) zero within = ap (λ k. kind_declared (declaration_in ds k)) (none from)
  where
    none : (n : ℕ) → n ≡ n + 0
    none n = omega arith
held_kind ds count from (suc n) (suc e) within =
    held_kind ds (count + copies_in (declared_factors (declaration_in ds from))) (suc from) n e (less e n within) ∙ ap (λ k. kind_declared (declaration_in ds k)) (moved from e)
  where
    less : (m l : ℕ) → suc m < suc l → m < l
    less m l e = omega (arith, e)

    moved : (a b : ℕ) → suc a + b ≡ a + suc b
    moved a b = omega arith

pub length_held : (ds : List Declaration) (count from n : ℕ) → length (all_held ds count from n) ≡ n
length_held ds count from zero = refl
length_held ds count from (suc n) = ap suc (length_held ds (count + copies_in (declared_factors (declaration_in ds from))) (suc from) n)

-- each variable's slots are of its kind
pub kinds_held : (body : Action) (entities e : ℕ) → e < entities → (held_at (all_held (declarations [] body) 0 0 entities) e).kind ≡ kind_bound (binding_in (bindings 0 body) e)
kinds_held body entities e within = held_kind (declarations [] body) 0 0 entities e within ∙ (ap (λ k. kind_declared (declaration_in (declarations [] body) k)) (none e) ∙ same_kinds (declarations [] body) (bindings 0 body) (alike [] 0 body) e)
  where
    none : (n : ℕ) → 0 + n ≡ n
    none n = omega arith
