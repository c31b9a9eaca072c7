-- Where no loop has too many copies inside it, few loops stand round each view of a program. By recursion over commands, with
-- the copies round a command, which are more than the loops round it.
use Rattle.std.proofs.Common.{◌≡◌, ℕ, suc, ◌+◌, ◌*◌, ◌-◌, ◌==◌, ◌≤◌, ◌%◌, ◌&&◌, nat_lt, not, Bool, true, false, if◌then◌else◌, List, [], ◌∷◌, ◌++◌, length, Option, Some, None, refl, ap, sym, ◌∙◌, subst, arith}
use Rattle.std.specs.Prelude.{min}
use Rattle.std.specs.List.{AllByRecursion}
use Rattle.std.proofs.Math.Nat.{mul-le-mul_left, mul-one}
use Rattle.std.proofs.lemmas.Bool.Decides.{nat_tests}
use Rattle.dh_base.specs.declared.limits.Excess.{Excess}
use Rattle.dh_base.specs.declared.limits.Limit.TheVariants as limit
use Rattle.dh_base.specs.declared.rules.Rule.TheVariants.{ConstantRange, UnrollDivides}
use Rattle.dh_tree.specs.declared.breaches.Breach.{Breach}
use Rattle.dh_tree.specs.Elements.{banks_of}
use Rattle.dh_tree.specs.Excesses.{most_counted, excess_at, or_else, first_above, copies_excess, form_copies_excess, other_copies_excess, groups_copies_excess, part_copies_excess, first_excess}
use Rattle.dh_tree.specs.Indices.{IndexContext, index_context_of, divides, term_index_breaches, turns_breaches, action_index_breaches, action_form_index_breaches, other_index_breaches, actions_index_breaches, groups_index_breaches, decls_shape_breaches, index_breaches_of}
use Rattle.dh_tree.specs.Kinds.{when}
use Rattle.dh_tree.specs.LeastBreach.{breach}
use Rattle.dh_tree.specs.Memories.{memories_of, table_of}
use Rattle.dh_tree.specs.Tables.{elements_in}
use Rattle.dh_tree.specs.PlainTrees.{Placed, Unrolled, Action, action, ActionForm, lets, lets_memory, views, assigns, stores, reduces, calls, blocks, decides, repeats, counts, MaybeAction, no_action, one_action, Actions, no_actions, action_then, Groups, no_groups, group_then, Program}
use Rattle.dh_viewing.proofs.KeptViews.{first_none, second_none}
use Rattle.dh_meaning.specs.Bindings.{depth_inside}
use Rattle.dh_ways.specs.Stands.{Stand, copies_inside, form_stands, groups_stands, other_stands, part_stands, stands}
use Rattle.dh_ways.specs.CutStands.{IsFewRound}

-- Limits and rules.

first_of : (o next : Option Excess) → or_else o next ≡ None → o ≡ None
first_of None next e = refl
first_of (Some x) next e = absurd cc

rest_of : (o next : Option Excess) → or_else o next ≡ None → next ≡ None
rest_of None next e = e
rest_of (Some x) next e = absurd cc

within : (count : ℕ) → excess_at limit.Copies count ≡ None → count ≤ 256
within count e = by (nat_lt 256 count) refl e
  where
    by : (b : Bool) → nat_lt 256 count ≡ b → ◌≡◌ {A = Option Excess} (if b then Some (record { limit = limit.Copies; count = min count most_counted }) else None) None → count ≤ 256
    by true f h = absurd cc
    by false f h = grind (arith, nat_tests)

kept : (b : Bool) (x : Breach) → when (not b) (x ∷ []) ≡ [] → b ≡ true
kept true x e = refl
kept false x e = cc

some_factor : (factor size : ℕ) → divides factor size ≡ true → 1 ≤ factor
some_factor factor size e = by (factor == 0) refl e
  where
    by : (b : Bool) → (factor == 0) ≡ b → (not b && (size % factor == 0)) ≡ true → 1 ≤ factor
    by true f h = absurd cc
    by false f h = grind (arith, nat_tests, f)

turned : (low high : Placed) (factor : Unrolled) → turns_breaches low high factor ≡ [] → 1 ≤ factor.value
turned low high factor e =
    some_factor factor.value (high.value - low.value)
    (kept (divides factor.value (high.value - low.value)) (breach UnrollDivides factor.place)
    (second_none (when (nat_lt high.value low.value) (breach ConstantRange high.place ∷ [])) (when (not (divides factor.value (high.value - low.value))) (breach UnrollDivides factor.place ∷ [])) e))

-- Loops round a command, and their copies.

record Round (depth copies : ℕ) : Type 0 where
  deep : depth + 1 ≤ copies
  few : copies ≤ 256

record Further (depth copies factor : ℕ) : Type 0 where
  is : copies_inside copies factor ≡ copies * factor
  round : Round (depth_inside depth factor) (copies_inside copies factor)

further : (d n f : ℕ) → Round d n → 1 ≤ f → n * f ≤ 256 → Further d n f
further d n f r some less = by (nat_lt 1 f) refl
  where
    more : nat_lt 1 f ≡ true → 2 ≤ f
    more e = grind (arith, nat_tests, e)

    one : nat_lt 1 f ≡ false → f ≡ 1
    one e = grind (arith, nat_tests, e, some)

    deeper : 2 ≤ f → suc d + 1 ≤ n * f
    deeper l = let up = mul-le-mul_left {m = 2} {n = f} n l in let h = r.deep in omega (arith, up, h)

    same : f ≡ 1 → n ≡ n * f
    same e = sym (ap (λ x. n * x) e ∙ mul-one n)

    test_is : (b : Bool) → nat_lt 1 f ≡ b → copies_inside n f ≡ (if b then n * f else n)
    test_is b e = ap (λ t. if t then n * f else n) e

    depth_is : (b : Bool) → nat_lt 1 f ≡ b → depth_inside d f ≡ (if b then suc d else d)
    depth_is b e = ap (λ t. if t then suc d else d) e

    by : (b : Bool) → nat_lt 1 f ≡ b → Further d n f
    by true e =
        let l = deeper (more e) in
        let c : copies_inside n f ≡ n * f = test_is true e in
        let k : depth_inside d f ≡ suc d = depth_is true e in
        record { is = c; round = record { deep = omega (arith, l, c, k); few = omega (arith, c, less) } }
    by false e =
        let c : copies_inside n f ≡ n = test_is false e in
        let k : depth_inside d f ≡ d = depth_is false e in
        let h = r.deep in
        let i = r.few in
        record { is = c ∙ same (one e); round = record { deep = omega (arith, h, c, k); few = omega (arith, c, i) } }

few_both : (xs ys : List Stand) → AllByRecursion IsFewRound xs → AllByRecursion IsFewRound ys → AllByRecursion IsFewRound (xs ++ ys)
few_both [] ys h i = i
few_both (x ∷ xs) ys h i = (h.0, few_both xs ys h.1 i)

module _ (known : IndexContext) where
  mutual
    rounds_few : (d n : ℕ) (a : Action) → Round d n → copies_excess n a ≡ None → action_index_breaches known a ≡ [] → AllByRecursion IsFewRound (stands d n a)
    rounds_few d n (action id place form) r x e = form_few d n form r x e

    form_few : (d n : ℕ) (f : ActionForm) → Round d n → form_copies_excess n f ≡ None → action_form_index_breaches known f ≡ [] → AllByRecursion IsFewRound (form_stands d n f)
    form_few d n (views name parent form) r x e = let h = r.deep in let i = r.few in (record { deep = omega (arith, h, i); many = omega (arith, i) }, tt)
    form_few d n (lets name declared value) r x e = tt
    form_few d n (lets_memory name shape shape_places value) r x e = tt
    form_few d n (assigns target value) r x e = tt
    form_few d n (stores target value) r x e = tt
    form_few d n (reduces target op value) r x e = tt
    form_few d n (calls function arguments) r x e = tt
    form_few d n (blocks body) r x e = groups_few d n body r x e
    form_few d n (decides test chosen other) r x e =
        let inside = second_none (term_index_breaches known test) (action_index_breaches known chosen ++ other_index_breaches known other) e in
        few_both (stands d n chosen) (other_stands d n other)
        (rounds_few d n chosen r (first_of (copies_excess n chosen) (other_copies_excess n other) x) (first_none (action_index_breaches known chosen) (other_index_breaches known other) inside))
        (other_few d n other r (rest_of (copies_excess n chosen) (other_copies_excess n other) x) (second_none (action_index_breaches known chosen) (other_index_breaches known other) inside))
    form_few d n (repeats test body) r x e = rounds_few d n body r x (second_none (term_index_breaches known test) (action_index_breaches known body) e)
    form_few d n (counts iterator declared low high factor body combine combine_place) r x e =
        let most = within (n * factor.value) (first_of (excess_at limit.Copies (n * factor.value)) (or_else (copies_excess (n * factor.value) body) (other_copies_excess (n * factor.value) combine)) x) in
        let rest = rest_of (excess_at limit.Copies (n * factor.value)) (or_else (copies_excess (n * factor.value) body) (other_copies_excess (n * factor.value) combine)) x in
        let some = turned low high factor (first_none (turns_breaches low high factor) (action_index_breaches known body ++ other_index_breaches known combine) e) in
        let inside = second_none (turns_breaches low high factor) (action_index_breaches known body ++ other_index_breaches known combine) e in
        let next = further d n factor.value r some most in
        few_both (stands (depth_inside d factor.value) (copies_inside n factor.value) body) (other_stands (depth_inside d factor.value) (copies_inside n factor.value) combine)
        (rounds_few (depth_inside d factor.value) (copies_inside n factor.value) body next.round
        (subst (λ (k : ℕ). copies_excess k body ≡ None) (sym next.is) (first_of (copies_excess (n * factor.value) body) (other_copies_excess (n * factor.value) combine) rest))
        (first_none (action_index_breaches known body) (other_index_breaches known combine) inside))
        (other_few (depth_inside d factor.value) (copies_inside n factor.value) combine next.round
        (subst (λ (k : ℕ). other_copies_excess k combine ≡ None) (sym next.is) (rest_of (copies_excess (n * factor.value) body) (other_copies_excess (n * factor.value) combine) rest))
        (second_none (action_index_breaches known body) (other_index_breaches known combine) inside))

    other_few : (d n : ℕ) (m : MaybeAction) → Round d n → other_copies_excess n m ≡ None → other_index_breaches known m ≡ [] → AllByRecursion IsFewRound (other_stands d n m)
    other_few d n no_action r x e = tt
    other_few d n (one_action a) r x e = rounds_few d n a r x e

    groups_few : (d n : ℕ) (gs : Groups) → Round d n → groups_copies_excess n gs ≡ None → groups_index_breaches known gs ≡ [] → AllByRecursion IsFewRound (groups_stands d n gs)
    groups_few d n no_groups r x e = tt
    groups_few d n (group_then part rest) r x e =
        few_both (part_stands d n part) (groups_stands d n rest)
        (part_few d n part r (first_of (part_copies_excess n part) (groups_copies_excess n rest) x) (first_none (actions_index_breaches known part) (groups_index_breaches known rest) e))
        (groups_few d n rest r (rest_of (part_copies_excess n part) (groups_copies_excess n rest) x) (second_none (actions_index_breaches known part) (groups_index_breaches known rest) e))

    part_few : (d n : ℕ) (part : Actions) → Round d n → part_copies_excess n part ≡ None → actions_index_breaches known part ≡ [] → AllByRecursion IsFewRound (part_stands d n part)
    part_few d n no_actions r x e = tt
    part_few d n (action_then a rest) r x e =
        few_both (stands d n a) (part_stands d n rest)
        (rounds_few d n a r (first_of (copies_excess n a) (part_copies_excess n rest) x) (first_none (action_index_breaches known a) (actions_index_breaches known rest) e))
        (part_few d n rest r (rest_of (copies_excess n a) (part_copies_excess n rest) x) (second_none (action_index_breaches known a) (actions_index_breaches known rest) e))

pub all_few : (p : Program) → index_breaches_of p ≡ [] → first_excess p ≡ None → AllByRecursion IsFewRound (stands 0 1 p.body)
all_few p e x =
    let a = rest_of (first_above limit.Dimensions (λ m. length m.shape.dims) (memories_of p)) (or_else (first_above limit.Banks (λ m. banks_of m.shape.dims) (memories_of p)) (or_else (first_above limit.Ports (λ m. m.shape.ports) (memories_of p)) (or_else (copies_excess 1 p.body) (excess_at limit.Elements (elements_in (table_of p)))))) x in
    let b = rest_of (first_above limit.Banks (λ m. banks_of m.shape.dims) (memories_of p)) (or_else (first_above limit.Ports (λ m. m.shape.ports) (memories_of p)) (or_else (copies_excess 1 p.body) (excess_at limit.Elements (elements_in (table_of p))))) a in
    let c = rest_of (first_above limit.Ports (λ m. m.shape.ports) (memories_of p)) (or_else (copies_excess 1 p.body) (excess_at limit.Elements (elements_in (table_of p)))) b in
    rounds_few (index_context_of p) 0 1 p.body (record { deep = omega arith; few = omega arith }) (first_of (copies_excess 1 p.body) (excess_at limit.Elements (elements_in (table_of p))) c)
    (second_none (decls_shape_breaches p.decls) (action_index_breaches (index_context_of p) p.body) e)
