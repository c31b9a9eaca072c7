-- The first excess of copies, while the tree is walked over.
use Rattle.std.proofs.Common.{◌≡◌, ℕ, ◌+◌, ◌*◌, ◌<◌, ◌≤◌, nat_lt, Bool, true, false, if◌then◌else◌, min, List, length, get_or, drop, map, Option, Some, None, inl, inr, refl, ap, sym, ◌∙◌, arith}
use Rattle.std.specs.Prelude.{Vec}
use Rattle.std.specs.Global.{Global}
use Rattle.std.proofs.lemmas.Bool.{cases_lt}
use Rattle.std.proofs.lemmas.Bool.Decides.{nat_tests}
use Rattle.std.proofs.Math.Nat.{min-eq_left, min-eq_right}
use Rattle.dh_base.proofs.ListItems.{at_item}
use Rattle.dh_base.specs.Limits.{greatest_of}
use Rattle.dh_base.specs.declared.limits.Excess.{Excess}
use Rattle.dh_base.specs.declared.limits.Limit.TheVariants as limit
use Rattle.dh_tree.specs.declared.trees.commands.Command.{Command}
use Rattle.dh_tree.specs.Excesses.{most_counted, excess_at, or_else, copies_excess, other_copies_excess, part_copies_excess, groups_copies_excess}
use Rattle.dh_tree.specs.PlainTrees.{Action, MaybeAction}
use Rattle.dh_tree.specs.Seen.{action_seen, actions, part_seen, groups}
use Rattle.dh_shape.proofs.Counts.{excess_cut}

pub or_else_joined : (a b c : Option Excess) → or_else (or_else a b) c ≡ or_else a (or_else b c)
or_else_joined None b c = refl
or_else_joined (Some x) b c = refl

-- lists: what was found first, of what was found so far and of what is left
abbrev pub parts_left : ℕ → Option Excess → List (Vec Command Global) → ℕ → Option Excess
parts_left round found ps i = or_else found (groups_copies_excess round (groups (map part_seen (drop i ps))))

abbrev pub part_left : ℕ → Option Excess → List Command → ℕ → List (Vec Command Global) → ℕ → Option Excess
part_left round found cs k ps i = or_else found (or_else (part_copies_excess round (actions (map action_seen (drop k cs)))) (groups_copies_excess round (groups (map part_seen (drop i ps)))))

pub next_copies : (round : ℕ) (found own next : Option Excess) (cs : List Command) (k : ℕ) (c : Command) (ps : List (Vec Command Global)) (i : ℕ)
    → k < length cs → c ≡ get_or cs k c → own ≡ copies_excess round (action_seen c) → next ≡ or_else found own
    → part_left round next cs (k + 1) ps i ≡ part_left round found cs k ps i
next_copies round found own next cs k c ps i within is told e =
    let here = copies_excess round (action_seen c) in
    let left = part_copies_excess round (actions (map action_seen (drop (k + 1) cs))) in
    let behind = groups_copies_excess round (groups (map part_seen (drop i ps))) in
    ap (λ o. or_else o (or_else left behind)) (e ∙ ap (λ o. or_else found o) told)
    ∙ (or_else_joined found here (or_else left behind)
    ∙ (ap (λ o. or_else found o) (sym (or_else_joined here left behind))
    ∙ ap (λ l. or_else found (or_else (part_copies_excess round (actions (map action_seen l))) behind)) (sym (at_item cs k c within is))))

-- loops: a product that is no excess was not cut off
none_below : (n : ℕ) (t : Bool) (x : Excess) → nat_lt (greatest_of limit.Copies) n ≡ t → (if t then Some x else None) ≡ None → n ≤ 256
none_below n true x is e = absurd (cc)
none_below n false x is e = grind (arith, nat_tests)

pub not_cut : (n inside : ℕ) → inside ≡ min n most_counted → excess_at limit.Copies inside ≡ None → inside ≡ n
not_cut n inside is none =
    let small = none_below inside (nat_lt (greatest_of limit.Copies) inside) _ refl none in
    elim (cases_lt most_counted n) [
      | inl above ↦ (let cut = min-eq_right {n = most_counted} {m = n} (omega arith) in omega (arith, is, cut, small))
      | inr within ↦ is ∙ min-eq_left {n = n} {m = most_counted} (omega arith)
    ]

by_own : (product inside : ℕ) (body : Action) (combine : MaybeAction) (o : Option Excess) → o ≡ excess_at limit.Copies product → (o ≡ None → inside ≡ product)
    → or_else o (or_else (copies_excess inside body) (other_copies_excess inside combine))
    ≡ or_else (excess_at limit.Copies product) (or_else (copies_excess product body) (other_copies_excess product combine))
by_own product inside body combine None e same =
    ap (λ n. or_else (copies_excess n body) (other_copies_excess n combine)) (same refl)
    ∙ ap (λ o. or_else o (or_else (copies_excess product body) (other_copies_excess product combine))) e
by_own product inside body combine (Some x) e same = ap (λ o. or_else o (or_else (copies_excess product body) (other_copies_excess product combine))) e

pub loop_copies : (round factor inside : ℕ) (body : Action) (combine : MaybeAction) (own inner joined behind whole : Option Excess)
    → inside ≡ min (round * factor) most_counted
    → own ≡ excess_at limit.Copies inside → inner ≡ copies_excess inside body → joined ≡ other_copies_excess inside combine
    → behind ≡ or_else inner joined → whole ≡ or_else own behind
    → whole ≡ or_else (excess_at limit.Copies (round * factor)) (or_else (copies_excess (round * factor) body) (other_copies_excess (round * factor) combine))
loop_copies round factor inside body combine own inner joined behind whole is o a b both e =
    let told : own ≡ excess_at limit.Copies (round * factor) = o ∙ (ap (λ n. excess_at limit.Copies n) is ∙ excess_cut limit.Copies (round * factor)) in
    e
    ∙ (ap (λ x. or_else own x) (both ∙ (ap (λ x. or_else x joined) a ∙ ap (λ x. or_else (copies_excess inside body) x) b))
    ∙ by_own (round * factor) inside body combine own told (λ none. not_cut (round * factor) inside is (sym o ∙ none)))
