-- Each variable has a copy: the loops round its declaration that count have two copies or more.
use Rattle.std.proofs.Common.{◌≡◌, ℕ, zero, suc, ◌+◌, ◌*◌, ◌<◌, ◌≤◌, Bool, true, false, if◌then◌else◌, List, [], ◌∷◌, ◌++◌, length, Some, refl, arith}
use Rattle.std.specs.Prelude.{nat_lt}
use Rattle.std.specs.List.{AllByRecursion}
use Rattle.std.proofs.lemmas.Bool.Decides.{nat_tests}
use Rattle.dh_meaning.specs.Paths.{copies_in}
use Rattle.dh_tree.specs.Memories.{same_entity}
use Rattle.dh_tree.specs.PlainTrees.{Term, Action, action, ActionForm, lets, lets_memory, views, assigns, stores, reduces, calls, blocks, decides, repeats, counts, MaybeAction, no_action, one_action, Actions, no_actions, action_then, Groups, no_groups, group_then, Program}
use Rattle.dh_tree.specs.ViewOffsets.{offsets_of}
use Rattle.dh_code.specs.Declarations.{Declaration, Factored, all_declarations_of, all_hidden_declared, declaration_in, factored, form_factored, groups_factored, hidden_declarations, hidden_declared, other_factored, part_factored, declarations, factors_inside, declared_factors, form_declarations, groups_declarations, other_declarations, part_declarations, placing_of}

-- factors of two or more
abbrev AreMany : List ℕ → Type 0
AreMany fs = AllByRecursion (λ (f : ℕ). 1 < f) fs

abbrev HasMany : Declaration → Type 0
HasMany d = AreMany d.factors

abbrev AllMany : List Declaration → Type 0
AllMany ds = AllByRecursion HasMany ds

pub both : {A : Type 0} (P : A → Type 0) (xs ys : List A) → AllByRecursion P xs → AllByRecursion P ys → AllByRecursion P (xs ++ ys)
both P [] ys h k = k
both P (x ∷ xs) ys h k = (h.0, both P xs ys h.1 k)

many_inside : (factors : List ℕ) (factor : ℕ) → AreMany factors → AreMany (factors_inside factors factor)
many_inside factors factor h = by (nat_lt 1 factor) refl
  where
    above : nat_lt 1 factor ≡ true → 1 < factor
    above e = grind (arith, nat_tests, e)

    by : (b : Bool) → nat_lt 1 factor ≡ b → AreMany (if b then factors ++ factor ∷ [] else factors)
    by true e = both (λ (f : ℕ). 1 < f) factors (factor ∷ []) h (above e, tt)
    by false e = h

mutual
  all_many : (factors : List ℕ) (a : Action) → AreMany factors → AllMany (declarations factors a)
  all_many factors (action id place form) h = form_many factors form h

  form_many : (factors : List ℕ) (f : ActionForm) → AreMany factors → AllMany (form_declarations factors f)
  form_many factors (lets name declared value) h = (h, tt)
  form_many factors (lets_memory name shape shape_places value) h = tt
  form_many factors (views name parent form) h = tt
  form_many factors (assigns target value) h = tt
  form_many factors (stores target value) h = tt
  form_many factors (reduces target o value) h = tt
  form_many factors (calls function arguments) h = tt
  form_many factors (blocks body) h = groups_many factors body h
  form_many factors (decides test chosen other) h = both HasMany (declarations factors chosen) (other_declarations factors other) (all_many factors chosen h) (other_many factors other h)
  form_many factors (repeats test body) h = all_many factors body h
  form_many factors (counts iterator declared low high factor body combine combine_place) h = (
    many_inside factors factor.value h,
    both HasMany (declarations (factors_inside factors factor.value) body) (other_declarations (factors_inside factors factor.value) combine)
        (all_many (factors_inside factors factor.value) body (many_inside factors factor.value h)) (other_many (factors_inside factors factor.value) combine (many_inside factors factor.value h)),
  )

  other_many : (factors : List ℕ) (m : MaybeAction) → AreMany factors → AllMany (other_declarations factors m)
  other_many factors no_action h = tt
  other_many factors (one_action a) h = all_many factors a h

  part_many : (factors : List ℕ) (p : Actions) → AreMany factors → AllMany (part_declarations factors p)
  part_many factors no_actions h = tt
  part_many factors (action_then a rest) h = both HasMany (declarations factors a) (part_declarations factors rest) (all_many factors a h) (part_many factors rest h)

  groups_many : (factors : List ℕ) (g : Groups) → AreMany factors → AllMany (groups_declarations factors g)
  groups_many factors no_groups h = tt
  groups_many factors (group_then part rest) h = both HasMany (part_declarations factors part) (groups_declarations factors rest) (part_many factors part h) (groups_many factors rest h)

abbrev ViewsMany : List Factored → Type 0
ViewsMany fs = AllByRecursion (λ (f : Factored). AreMany f.factors) fs

mutual
  views_many : (factors : List ℕ) (a : Action) → AreMany factors → ViewsMany (factored factors a)
  views_many factors (action id place form) h = form_views factors form h

  form_views : (factors : List ℕ) (f : ActionForm) → AreMany factors → ViewsMany (form_factored factors f)
  form_views factors (views name parent form) h = (h, tt)
  form_views factors (lets name declared value) h = tt
  form_views factors (lets_memory name shape shape_places value) h = tt
  form_views factors (assigns target value) h = tt
  form_views factors (stores target value) h = tt
  form_views factors (reduces target o value) h = tt
  form_views factors (calls function arguments) h = tt
  form_views factors (blocks body) h = groups_views factors body h
  form_views factors (decides test chosen other) h = both (λ (f : Factored). AreMany f.factors) (factored factors chosen) (other_factored factors other) (views_many factors chosen h) (other_views factors other h)
  form_views factors (repeats test body) h = views_many factors body h
  form_views factors (counts iterator declared low high factor body combine combine_place) h =
      both (λ (f : Factored). AreMany f.factors) (factored (factors_inside factors factor.value) body) (other_factored (factors_inside factors factor.value) combine)
      (views_many (factors_inside factors factor.value) body (many_inside factors factor.value h)) (other_views (factors_inside factors factor.value) combine (many_inside factors factor.value h))

  other_views : (factors : List ℕ) (m : MaybeAction) → AreMany factors → ViewsMany (other_factored factors m)
  other_views factors no_action h = tt
  other_views factors (one_action a) h = views_many factors a h

  part_views : (factors : List ℕ) (p : Actions) → AreMany factors → ViewsMany (part_factored factors p)
  part_views factors no_actions h = tt
  part_views factors (action_then a rest) h = both (λ (f : Factored). AreMany f.factors) (factored factors a) (part_factored factors rest) (views_many factors a h) (part_views factors rest h)

  groups_views : (factors : List ℕ) (g : Groups) → AreMany factors → ViewsMany (groups_factored factors g)
  groups_views factors no_groups h = tt
  groups_views factors (group_then part rest) h = both (λ (f : Factored). AreMany f.factors) (part_factored factors part) (groups_factored factors rest) (part_views factors part h) (groups_views factors rest h)

-- variables that keep offsets stand in the loops round their views
offsets_many : (first : ℕ) (factors : List ℕ) (ts : List Term) → AreMany factors → AllMany (hidden_declared first factors ts)
offsets_many first factors [] h = tt
offsets_many first factors (t ∷ ts) h = (h, offsets_many (suc first) factors ts h)

hidden_many : (first : ℕ) (fs : List Factored) → ViewsMany fs → AllMany (all_hidden_declared first fs)
hidden_many first [] h = tt
hidden_many first (f ∷ fs) h =
    both HasMany (hidden_declared first f.factors (offsets_of f.form)) (all_hidden_declared (first + length (offsets_of f.form)) fs) (offsets_many first f.factors (offsets_of f.form) h.0) (hidden_many (first + length (offsets_of f.form)) fs h.1)

some_copies : (fs : List ℕ) → AreMany fs → 1 ≤ copies_in fs
some_copies [] h = omega arith
some_copies (f ∷ fs) h = product f (copies_in fs) h.0 (some_copies fs h.1)
  where
    product : (a b : ℕ) → 1 < a → 1 ≤ b → 1 ≤ a * b
    product zero b l k = absurd (never l)
      where
        never : 1 < 0 → ⊥
        never e = omega (arith, e)
    product (suc a) zero l k = absurd (never k)
      where
        never : 1 ≤ 0 → ⊥
        never e = omega (arith, e)
    product (suc a) (suc b) l k = omega arith

many_in : (ds : List Declaration) (entity : ℕ) → AllMany ds → AreMany (declared_factors (declaration_in ds entity))
many_in [] entity h = tt
many_in (d ∷ ds) entity h = by (same_entity d.entity (Some entity)) (many_in ds entity h.1)
  where
    by : (b : Bool) → AreMany (declared_factors (declaration_in ds entity)) → AreMany (declared_factors (if b then Some d else declaration_in ds entity))
    by true rest = h.0
    by false rest = rest

pub placing_copies : (p : Program) (entity : ℕ) → 1 ≤ copies_in ((placing_of p).factors entity)
placing_copies p entity =
    some_copies (declared_factors (declaration_in (all_declarations_of p) entity)) (many_in (all_declarations_of p) entity
    (both HasMany (declarations [] p.body) (hidden_declarations p) (all_many [] p.body tt) (hidden_many (length p.entities) (factored [] p.body) (views_many [] p.body tt))))
