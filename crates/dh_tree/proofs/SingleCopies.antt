-- Where each loop has one copy of its body at most there is no excess of copies.
use Rattle.std.proofs.Common.{◌≡◌, ℕ, ◌*◌, ◌≤◌, nat_lt, Bool, false, if◌then◌else◌, min, Option, Some, None, refl, ap, ◌∙◌, arith}
use Rattle.std.proofs.Math.Nat.{mul-le-mul}
use Rattle.std.proofs.lemmas.Bool.Decides.{nat_tests}
use Rattle.dh_base.specs.Limits.{greatest_of}
use Rattle.dh_base.specs.declared.limits.Excess.{Excess}
use Rattle.dh_base.specs.declared.limits.Limit.TheVariants as limit
use Rattle.dh_tree.specs.Counters.{counters, form_counters, other_counters, groups_counters, part_counters, AreSingle}
use Rattle.dh_tree.specs.Excesses.{most_counted, excess_at, or_else, copies_excess, form_copies_excess, other_copies_excess, part_copies_excess, groups_copies_excess}
use Rattle.dh_tree.specs.PlainTrees.{Action, action, ActionForm, lets, lets_memory, views, assigns, stores, reduces, calls, blocks, decides, repeats, counts, MaybeAction, no_action, one_action, Actions, no_actions, action_then, Groups, no_groups, group_then}
use Rattle.dh_tree.proofs.SingleLoops.{single_first, single_rest}

both_none : (a b : Option Excess) → a ≡ None → b ≡ None → or_else a b ≡ None
both_none a b e f = ap (λ o. or_else o b) e ∙ f

few_copies : (m n : ℕ) → m ≤ 1 → n ≤ 1 → m * n ≤ 1
few_copies m n l k = let x : m * n ≤ 1 * 1 = mul-le-mul l k in omega (arith, x)

within : (count : ℕ) → count ≤ 1 → excess_at limit.Copies count ≡ None
within count few =
    let test : nat_lt (greatest_of limit.Copies) count ≡ false = grind (arith, nat_tests, few) in
    ap (λ (b : Bool). if b then Some (record { limit = limit.Copies; count = min count most_counted }) else None) test

mutual
  pub none_above : (round : ℕ) (a : Action) → round ≤ 1 → AreSingle (counters a) → copies_excess round a ≡ None
  none_above round (action id place form) l h = form_none round form l h

  form_none : (round : ℕ) (f : ActionForm) → round ≤ 1 → AreSingle (form_counters f) → form_copies_excess round f ≡ None
  form_none round (lets name declared value) l h = refl
  form_none round (lets_memory name shape shape_places value) l h = refl
  form_none round (views name parent form) l h = refl
  form_none round (assigns target value) l h = refl
  form_none round (stores target value) l h = refl
  form_none round (reduces target o value) l h = refl
  form_none round (calls function arguments) l h = refl
  form_none round (blocks body) l h = groups_none round body l h
  form_none round (decides test chosen other) l h =
      both_none (copies_excess round chosen) (other_copies_excess round other)
      (none_above round chosen l (single_first (counters chosen) (other_counters other) h))
      (other_none round other l (single_rest (counters chosen) (other_counters other) h))
  form_none round (repeats test body) l h = none_above round body l h
  form_none round (counts iterator declared low high factor body combine combine_place) l h =
      let few : round * factor.value ≤ 1 = few_copies round factor.value l h.0 in
      both_none (excess_at limit.Copies (round * factor.value)) (or_else (copies_excess (round * factor.value) body) (other_copies_excess (round * factor.value) combine))
      (within (round * factor.value) few)
      (both_none (copies_excess (round * factor.value) body) (other_copies_excess (round * factor.value) combine)
      (none_above (round * factor.value) body few (single_first (counters body) (other_counters combine) h.1))
      (other_none (round * factor.value) combine few (single_rest (counters body) (other_counters combine) h.1)))

  other_none : (round : ℕ) (m : MaybeAction) → round ≤ 1 → AreSingle (other_counters m) → other_copies_excess round m ≡ None
  other_none round no_action l h = refl
  other_none round (one_action a) l h = none_above round a l h

  part_none : (round : ℕ) (p : Actions) → round ≤ 1 → AreSingle (part_counters p) → part_copies_excess round p ≡ None
  part_none round no_actions l h = refl
  part_none round (action_then a rest) l h =
      both_none (copies_excess round a) (part_copies_excess round rest)
      (none_above round a l (single_first (counters a) (part_counters rest) h))
      (part_none round rest l (single_rest (counters a) (part_counters rest) h))

  groups_none : (round : ℕ) (g : Groups) → round ≤ 1 → AreSingle (groups_counters g) → groups_copies_excess round g ≡ None
  groups_none round no_groups l h = refl
  groups_none round (group_then g rest) l h =
      both_none (part_copies_excess round g) (groups_copies_excess round rest)
      (part_none round g l (single_first (part_counters g) (groups_counters rest) h))
      (groups_none round rest l (single_rest (part_counters g) (groups_counters rest) h))
