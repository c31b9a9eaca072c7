-- Copies that are few in each part are few in the whole.
use Rattle.std.proofs.Common.{◌≡◌, ℕ, ◌*◌, ◌<◌, ◌≤◌, ◌^◌, ◌-◌, nat_lt, Bool, false, if◌then◌else◌, min, List, length, get_or, drop, map, Option, Some, None, IsTrue, inl, inr, refl, ap, sym, ◌∙◌, arith, ◌+◌, ◌++◌, append_assoc, subst}
use Rattle.std.specs.Prelude.{Vec}
use Rattle.std.specs.Global.{Global}
use Rattle.std.proofs.lemmas.Bool.{cases_lt}
use Rattle.std.proofs.lemmas.Bool.Decides.{nat_tests}
use Rattle.std.proofs.Math.Nat.{min-eq_left, min-eq_right}
use Rattle.dh_base.specs.Limits.{greatest_of}
use Rattle.dh_base.specs.declared.limits.Excess.{Excess}
use Rattle.dh_base.specs.declared.limits.Limit.TheVariants as limit
use Rattle.dh_tree.specs.Collected.{StaysFew, GoesInside}
use Rattle.dh_tree.specs.Counters.{counters, part_counters}
use Rattle.dh_tree.specs.declared.trees.counters.Counter.{Counter}
use Rattle.dh_base.proofs.ListItems.{at_item}
use Rattle.dh_tree.specs.declared.trees.commands.Command.{Command}
use Rattle.dh_tree.specs.Excesses.{most_counted, excess_at, or_else, copies_excess, other_copies_excess, part_copies_excess, groups_copies_excess}
use Rattle.dh_tree.specs.PlainTrees.{Action, MaybeAction}
use Rattle.dh_tree.specs.Seen.{action_seen, actions, part_seen, groups}

both_none : (a b : Option Excess) → a ≡ None → b ≡ None → or_else a b ≡ None
both_none a b e f = ap (λ o. or_else o b) e ∙ f

pub few_none : (old : Bool) → StaysFew old old None
few_none old h = (h, refl)

pub few_both : (old next new : Bool) (x y : Option Excess) → StaysFew old next x → StaysFew next new y → StaysFew old new (or_else x y)
few_both old next new x y f g h =
    let second = g h in
    let first = f second.0 in
    (first.0, both_none x y first.1 second.1)

-- lists: what is told so far, and what is left
abbrev pub PartsFew : ℕ → (first few : Bool) → List (Vec Command Global) → ℕ → Type 0
PartsFew round first few ps i =
    IsTrue few → IsTrue first × (groups_copies_excess round (groups (map part_seen (drop i ps))) ≡ None → groups_copies_excess round (groups (map part_seen ps)) ≡ None)

abbrev pub PartFew : ℕ → (first few : Bool) → List Command → ℕ → List (Vec Command Global) → ℕ → Type 0
PartFew round first few cs k ps i =
    IsTrue few → IsTrue first
    × (or_else (part_copies_excess round (actions (map action_seen (drop k cs)))) (groups_copies_excess round (groups (map part_seen (drop i ps)))) ≡ None
    → groups_copies_excess round (groups (map part_seen ps)) ≡ None)

or_else_joined : (a b c : Option Excess) → or_else (or_else a b) c ≡ or_else a (or_else b c)
or_else_joined None b c = refl
or_else_joined (Some x) b c = refl

pub next_found : (old new all : List Counter) (cs : List Command) (k : ℕ) (c : Command) → k < length cs → c ≡ get_or cs k c
    → new ≡ old ++ counters (action_seen c) → old ++ part_counters (actions (map action_seen (drop k cs))) ≡ all
    → new ++ part_counters (actions (map action_seen (drop (k + 1) cs))) ≡ all
next_found old new all cs k c within is told before =
    ap (λ l. l ++ part_counters (actions (map action_seen (drop (k + 1) cs)))) told
    ∙ (append_assoc old (counters (action_seen c)) (part_counters (actions (map action_seen (drop (k + 1) cs))))
    ∙ (ap (λ l. old ++ part_counters (actions (map action_seen l))) (sym (at_item cs k c within is)) ∙ before))

pub next_few : (round : ℕ) (first few new : Bool) (cs : List Command) (k : ℕ) (c : Command) (ps : List (Vec Command Global)) (i : ℕ)
    → k < length cs → c ≡ get_or cs k c → StaysFew few new (copies_excess round (action_seen c))
    → PartFew round first few cs k ps i → PartFew round first new cs (k + 1) ps i
next_few round first few new cs k c ps i within is told before h =
    let here = copies_excess round (action_seen c) in
    let left = part_copies_excess round (actions (map action_seen (drop (k + 1) cs))) in
    let behind = groups_copies_excess round (groups (map part_seen (drop i ps))) in
    let own = told h in
    let so_far = before own.0 in (
      so_far.0,
      λ none. so_far.1
          (ap (λ l. or_else (part_copies_excess round (actions (map action_seen l))) behind) (at_item cs k c within is)
          ∙ (or_else_joined here left behind ∙ (ap (λ o. or_else o (or_else left behind)) own.1 ∙ none))),
    )

-- loops: a product that is within the limit was not cut off
within : (count : ℕ) → count ≤ 256 → excess_at limit.Copies count ≡ None
within count few =
    let test : nat_lt (greatest_of limit.Copies) count ≡ false = grind (arith, nat_tests, few) in
    ap (λ (b : Bool). if b then Some (record { limit = limit.Copies; count = min count most_counted }) else None) test

not_cut : (n inside : ℕ) → inside ≡ min n (2 ^ 64 - 1) → inside ≤ 256 → inside ≡ n
not_cut n inside is small = elim (cases_lt (2 ^ 64 - 1) n) [
  | inl above ↦ (let cut = min-eq_right {n = 2 ^ 64 - 1} {m = n} (omega arith) in omega (arith, is, cut, small))
  | inr below ↦ is ∙ min-eq_left {n = n} {m = 2 ^ 64 - 1} (omega arith)
]

pub goes_inside : (round factor inside : ℕ) (old : Bool) → inside ≡ min (round * factor) (2 ^ 64 - 1) → inside ≤ 256 → GoesInside round factor old old inside
goes_inside round factor inside old is small h =
    let same = not_cut (round * factor) inside is small in
    (h, (same, within (round * factor) (subst (λ n. n ≤ 256) same small)))

pub few_loop : (old next inner new : Bool) (round factor inside : ℕ) (body : Action) (combine : MaybeAction)
    → GoesInside round factor old next inside → StaysFew next inner (copies_excess inside body) → StaysFew inner new (other_copies_excess inside combine)
    → StaysFew old new (or_else (excess_at limit.Copies (round * factor)) (or_else (copies_excess (round * factor) body) (other_copies_excess (round * factor) combine)))
few_loop old next inner new round factor inside body combine g f l h =
    let last = l h in
    let first = f last.0 in
    let entered = g first.0 in (
      entered.0,
      both_none (excess_at limit.Copies (round * factor)) (or_else (copies_excess (round * factor) body) (other_copies_excess (round * factor) combine)) entered.1.1
          (both_none (copies_excess (round * factor) body) (other_copies_excess (round * factor) combine)
          (sym (ap (λ n. copies_excess n body) entered.1.0) ∙ first.1)
          (sym (ap (λ n. other_copies_excess n combine) entered.1.0) ∙ last.1)),
    )
