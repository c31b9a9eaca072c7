-- The views of a program that can be run have few copies: a loop that can be turned has few paths inside it, and those are
-- the copies of the views that its body declares; the loops round a view are fewer than these. By recursion over commands.
use Rattle.std.proofs.Common.{◌≡◌, ℕ, suc, ◌+◌, ◌*◌, ◌<◌, ◌≤◌, nat_lt, Bool, true, false, if◌then◌else◌, List, [], ◌∷◌, ◌++◌, length, map, refl, subst, arith, length-append}
use Rattle.std.specs.List.{AllByRecursion}
use Rattle.std.proofs.Math.Nat.{mul-le-mul_left}
use Rattle.std.proofs.lemmas.Bool.Decides.{nat_tests}
use Rattle.dh_tree.specs.NameCounts.{declared_in, declared_in_actions, declared_in_form, declared_in_groups, declared_in_other}
use Rattle.dh_tree.specs.PlainTrees.{Term, Action, action, ActionForm, lets, lets_memory, views, assigns, stores, reduces, calls, blocks, decides, repeats, counts, MaybeAction, no_action, one_action, Actions, no_actions, action_then, Groups, no_groups, group_then, Program}
use Rattle.dh_tree.specs.ViewOffsets.{offsets_of}
use Rattle.dh_meaning.specs.Bindings.{depth_inside}
use Rattle.dh_meaning.specs.CoreOf.{Known}
use Rattle.dh_meaning.specs.Ways.{ViewSite, all_entities_of, behind_all, behind_hidden, form_standings, groups_standings, other_standings, part_standings, standings}
use Rattle.dh_ways.specs.CutStands.{IsFewRound}
use Rattle.dh_ways.specs.Stands.{Stand, stands}
use Rattle.dh_code.specs.Declarations.{Factored, all_hidden_declared, factored, factors_inside, form_factored, groups_factored, hidden_declarations, hidden_declared, other_factored, part_factored}
use Rattle.dh_code.specs.Placed.{AreFew}
use Rattle.dh_code.specs.Ranks.{copies_in}
use Rattle.dh_base.specs.Limits.{most_copies}
use Rattle.dh_code.specs.Slots.{Placing}
use Rattle.dh_code.proofs.Declaring.{copies_more}
use Rattle.dh_code.proofs.HiddenPlaced.{stand_of, stand_so}
use Rattle.dh_runnable.specs.ActionsRun.{ActionRuns, FormRuns, GroupsRun, OtherRuns, PartRuns}
use Rattle.dh_runnable.proofs.VariablesFew.{both_few}

-- Loops round a command.

-- they have few copies together, and are fewer than these
record IsRound (loops : List ℕ) : Type 0 where
  few : copies_in loops ≤ most_copies
  deep : length loops < copies_in loops

none_round : IsRound []
none_round = record { few = omega arith; deep = omega arith }

-- inside one more loop
deeper : (loops : List ℕ) (factor : ℕ) → length loops < copies_in loops → length (factors_inside loops factor) < copies_in (factors_inside loops factor)
deeper loops factor h = by (nat_lt 1 factor) refl
  where
    two : nat_lt 1 factor ≡ true → 2 ≤ factor
    two t = grind (arith, nat_tests, t)

    by : (b : Bool) → nat_lt 1 factor ≡ b → length (if b then loops ++ factor ∷ [] else loops) < copies_in (if b then loops ++ factor ∷ [] else loops)
    by true t =
        let long = length-append loops (factor ∷ []) in
        let many = copies_more loops factor in
        let up = mul-le-mul_left {m = 2} {n = factor} (copies_in loops) (two t) in
        omega (arith, h, long, many, up)
    by false t = h

-- Views inside them.

abbrev AllRound : List Factored → Type 0
AllRound fs = AllByRecursion (λ f. IsRound f.factors) fs

both_round : (fs gs : List Factored) → AllRound fs → AllRound gs → AllRound (fs ++ gs)
both_round [] gs h i = i
both_round (f ∷ fs) gs h i = (h.0, both_round fs gs h.1 i)

module _ (known : Known) (p : Placing) where
  mutual
    action_round : (a : Action) (loops : List ℕ) → IsRound loops → ActionRuns known p loops a → AllRound (factored loops a)
    action_round (action id place form) loops r h = form_round form loops r h

    form_round : (f : ActionForm) (loops : List ℕ) → IsRound loops → FormRuns known p loops f → AllRound (form_factored loops f)
    form_round (views name parent form) loops r h = (r, tt)
    form_round (lets name declared value) loops r h = tt
    form_round (lets_memory name shape shape_places value) loops r h = tt
    form_round (assigns target value) loops r h = tt
    form_round (stores target value) loops r h = tt
    form_round (reduces target o value) loops r h = tt
    form_round (calls function arguments) loops r h = tt
    form_round (blocks body) loops r h = groups_round body loops r h
    form_round (decides test chosen other) loops r h = both_round (factored loops chosen) (other_factored loops other) (action_round chosen loops r h.1.0) (other_round other loops r h.1.1)
    form_round (repeats test body) loops r h = action_round body loops r h.1
    form_round (counts iterator declared low high factor body combine combine_place) loops r h =
        let inner = factors_inside loops factor.value in
        let next : IsRound inner = record { few = h.0.few; deep = deeper loops factor.value r.deep } in
        both_round (factored inner body) (other_factored inner combine) (action_round body inner next h.1.0) (other_round combine inner next h.1.1)

    other_round : (m : MaybeAction) (loops : List ℕ) → IsRound loops → OtherRuns known p loops m → AllRound (other_factored loops m)
    other_round no_action loops r h = tt
    other_round (one_action a) loops r h = action_round a loops r h

    groups_round : (gs : Groups) (loops : List ℕ) → IsRound loops → GroupsRun known p loops gs → AllRound (groups_factored loops gs)
    groups_round no_groups loops r h = tt
    groups_round (group_then part rest) loops r h = both_round (part_factored loops part) (groups_factored loops rest) (part_round part loops r h.0) (groups_round rest loops r h.1)

    part_round : (part : Actions) (loops : List ℕ) → IsRound loops → PartRuns known p loops part → AllRound (part_factored loops part)
    part_round no_actions loops r h = tt
    part_round (action_then a rest) loops r h = both_round (factored loops a) (part_factored loops rest) (action_round a loops r h.0) (part_round rest loops r h.1)

-- What is told of them.

round_few : (f : Factored) → IsRound f.factors → IsFewRound (stand_of f)
round_few f r = let h = r.few in let i = r.deep in record { deep = omega (arith, h, i); many = omega (arith, h) }

stands_few : (fs : List Factored) → AllRound fs → AllByRecursion IsFewRound (map stand_of fs)
stands_few [] h = tt
stands_few (f ∷ fs) h = (round_few f h.0, stands_few fs h.1)

own_few : (first : ℕ) (factors : List ℕ) (ts : List Term) → IsRound factors → AreFew (hidden_declared first factors ts)
own_few first factors [] r = tt
own_few first factors (t ∷ ts) r = (r.few, own_few (suc first) factors ts r)

all_few : (first : ℕ) (fs : List Factored) → AllRound fs → AreFew (all_hidden_declared first fs)
all_few first [] h = tt
all_few first (f ∷ fs) h =
    let next = first + length (offsets_of f.form) in
    both_few (hidden_declared first f.factors (offsets_of f.form)) (all_hidden_declared next fs) (own_few first f.factors (offsets_of f.form) h.0) (all_few next fs h.1)

-- Entities.

behind_both : (xs ys : List ViewSite) (x : ℕ) → behind_all x (xs ++ ys) ≡ behind_all (behind_all x xs) ys
behind_both [] ys x = refl
behind_both (s ∷ xs) ys x = behind_both xs ys (behind_hidden x s)

-- of views that declare so many names, each with six offsets at most
abbrev AreSome : List ViewSite → (names : ℕ) → Type 0
AreSome ss names = (x : ℕ) → behind_all x ss ≤ x + 6 * names

both_some : (xs ys : List ViewSite) (a b : ℕ) → AreSome xs a → AreSome ys b → AreSome (xs ++ ys) (a + b)
both_some xs ys a b h i x = let e = behind_both xs ys x in let f = h x in let g = i (behind_all x xs) in omega (arith, e, f, g)

one_more : (xs : List ViewSite) (a : ℕ) → AreSome xs a → AreSome xs (1 + a)
one_more xs a h x = let f = h x in omega (arith, f)

module _ (known : Known) (p : Placing) where
  mutual
    action_some : (a : Action) (loops : List ℕ) (d : ℕ) → ActionRuns known p loops a → AreSome (standings d a) (declared_in a)
    action_some (action id place form) loops d h x = form_some form loops d h x

    form_some : (f : ActionForm) (loops : List ℕ) (d : ℕ) → FormRuns known p loops f → AreSome (form_standings d f) (declared_in_form f)
    form_some (views name parent form) loops d h x = let l = h.0 in omega (arith, l)
    form_some (lets name declared value) loops d h x = omega arith
    form_some (lets_memory name shape shape_places value) loops d h x = omega arith
    form_some (assigns target value) loops d h x = omega arith
    form_some (stores target value) loops d h x = omega arith
    form_some (reduces target o value) loops d h x = omega arith
    form_some (calls function arguments) loops d h x = omega arith
    form_some (blocks body) loops d h x = groups_some body loops d h x
    form_some (decides test chosen other) loops d h x = both_some (standings d chosen) (other_standings d other) (declared_in chosen) (declared_in_other other) (action_some chosen loops d h.1.0) (other_some other loops d h.1.1) x
    form_some (repeats test body) loops d h x = action_some body loops d h.1 x
    form_some (counts iterator declared low high factor body combine combine_place) loops d h x =
        let inner = factors_inside loops factor.value in
        let inside = depth_inside d factor.value in
        one_more (standings inside body ++ other_standings inside combine) (declared_in body + declared_in_other combine)
        (both_some (standings inside body) (other_standings inside combine) (declared_in body) (declared_in_other combine) (action_some body inner inside h.1.0) (other_some combine inner inside h.1.1)) x

    other_some : (m : MaybeAction) (loops : List ℕ) (d : ℕ) → OtherRuns known p loops m → AreSome (other_standings d m) (declared_in_other m)
    other_some no_action loops d h x = omega arith
    other_some (one_action a) loops d h x = action_some a loops d h x

    groups_some : (gs : Groups) (loops : List ℕ) (d : ℕ) → GroupsRun known p loops gs → AreSome (groups_standings d gs) (declared_in_groups gs)
    groups_some no_groups loops d h x = omega arith
    groups_some (group_then part rest) loops d h x = both_some (part_standings d part) (groups_standings d rest) (declared_in_actions part) (declared_in_groups rest) (part_some part loops d h.0) (groups_some rest loops d h.1) x

    part_some : (part : Actions) (loops : List ℕ) (d : ℕ) → PartRuns known p loops part → AreSome (part_standings d part) (declared_in_actions part)
    part_some no_actions loops d h x = omega arith
    part_some (action_then a rest) loops d h x = both_some (standings d a) (part_standings d rest) (declared_in a) (declared_in_actions rest) (action_some a loops d h.0) (part_some rest loops d h.1) x

module _ (known : Known) (p : Placing) (q : Program) (runs : ActionRuns known p [] q.body) where
  -- the variables that keep offsets have few copies
  pub hidden_few : AreFew (hidden_declarations q)
  hidden_few = all_few (length q.entities) (factored [] q.body) (action_round known p q.body [] none_round runs)

  -- the loops round views can be numbered
  pub rounds_few : AllByRecursion IsFewRound (stands 0 1 q.body)
  rounds_few = subst (λ (ss : List Stand). AllByRecursion IsFewRound ss) (stand_so [] q.body) (stands_few (factored [] q.body) (action_round known p q.body [] none_round runs))

  -- the variables that keep offsets are few
  pub all_entities_few : all_entities_of q ≤ length q.entities + 6 * declared_in q.body
  all_entities_few = action_some known p q.body [] 0 runs (length q.entities)
