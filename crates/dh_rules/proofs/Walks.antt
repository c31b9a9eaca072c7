-- One turn of the walk over the parts of a block: what is kept, and how many phases there are so far.
use Rattle.std.proofs.Common.{◌≡◌, ℕ, ◌+◌, ◌<◌, List, ◌++◌, length, get_or, drop, map, min, max, Option, refl, ap, sym, ◌∙◌, arith}
use Rattle.std.specs.Prelude.{Vec}
use Rattle.std.specs.Global.{Global}
use Rattle.std.proofs.lemmas.List.{append_assoc}
use Rattle.dh_base.proofs.ListItems.{at_item}
use Rattle.dh_tree.specs.declared.breaches.Breach.{Breach}
use Rattle.dh_tree.specs.declared.trees.commands.Command.{Command}
use Rattle.dh_tree.specs.declared.trees.programs.Entity.{Entity}
use Rattle.dh_tree.specs.LeastBreach.{least_of}
use Rattle.dh_tree.specs.PhaseKinds.{phase_kind, part_phase_kind, groups_phase_kind}
use Rattle.dh_tree.specs.Placements.{Context, action_placement_breaches, joined_breaches, actions_placement_breaches, groups_placement_breaches}
use Rattle.dh_tree.specs.PlainTrees.{Action, Groups, no_groups, group_then}
use Rattle.dh_tree.specs.Seen.{action_seen, actions, part_seen, groups}
use Rattle.dh_tree.proofs.Leasts.{least_append, part_rest, rest_next}

-- a command of a list, and what it breaks in a block that joins copies
abbrev listed : List Entity → Context → Action → List Breach
listed es c a = action_placement_breaches es c a ++ joined_breaches c.joins a

pub next_kept : (es : List Entity) (c : Context) (kept own next : Option Breach) (cs : List Command) (k : ℕ) (x : Command) (ps : List (Vec Command Global)) (i : ℕ)
    → k < length cs → x ≡ get_or cs k x → own ≡ least_of kept (action_placement_breaches es c (action_seen x)) → next ≡ least_of own (joined_breaches c.joins (action_seen x))
    → part_rest (actions_placement_breaches es c) (groups_placement_breaches es c) next cs (k + 1) ps i ≡ part_rest (actions_placement_breaches es c) (groups_placement_breaches es c) kept cs k ps i
next_kept es c kept own next cs k x ps i within is first second =
    rest_next (listed es c) (actions_placement_breaches es c) (groups_placement_breaches es c)
    (λ a rest. sym (append_assoc (action_placement_breaches es c a) (joined_breaches c.joins a) (actions_placement_breaches es c rest)))
    kept next cs k x ps i within is
    (second
    ∙ (ap (λ o. least_of o (joined_breaches c.joins (action_seen x))) first
    ∙ sym (least_append kept (action_placement_breaches es c (action_seen x)) (joined_breaches c.joins (action_seen x)))))

-- a command more of a part
max_moved : (most next own rest : ℕ) → next ≡ max most own → max next rest ≡ max most (max own rest)
max_moved most next own rest e = ap (λ n. max n rest) e ∙ grind arith

pub next_steps : (most own next : ℕ) (cs : List Command) (k : ℕ) (x : Command) → k < length cs → x ≡ get_or cs k x → own ≡ phase_kind (action_seen x) → next ≡ max most own
    → max next (part_phase_kind (actions (map action_seen (drop (k + 1) cs)))) ≡ max most (part_phase_kind (actions (map action_seen (drop k cs))))
next_steps most own next cs k x within is told e =
    max_moved most next (phase_kind (action_seen x)) (part_phase_kind (actions (map action_seen (drop (k + 1) cs)))) (e ∙ ap (λ n. max most n) told)
    ∙ ap (λ l. max most (part_phase_kind (actions (map action_seen l)))) (sym (at_item cs k x within is))

-- a part more of a block
sum_cut : (all next own rest : ℕ) → next ≡ min 2 (all + own) → min 2 (next + rest) ≡ min 2 (all + min 2 (own + rest))
sum_cut all next own rest e = ap (λ n. min 2 (n + rest)) e ∙ grind arith

pub next_part : (all most next : ℕ) (ps : List (Vec Command Global)) (i : ℕ) (p : Vec Command Global) → i < length ps → p ≡ get_or ps i p
    → most ≡ part_phase_kind (part_seen p) → next ≡ min 2 (all + most)
    → min 2 (next + groups_phase_kind (groups (map part_seen (drop (i + 1) ps)))) ≡ min 2 (all + groups_phase_kind (groups (map part_seen (drop i ps))))
next_part all most next ps i p within is told e =
    sum_cut all next (part_phase_kind (part_seen p)) (groups_phase_kind (groups (map part_seen (drop (i + 1) ps)))) (e ∙ ap (λ n. min 2 (all + n)) told)
    ∙ ap (λ l. min 2 (all + groups_phase_kind (groups (map part_seen l)))) (sym (at_item ps i p within is))

twice_cut : (n : ℕ) → min 2 (min 2 n) ≡ min 2 n
twice_cut n = grind arith

pub groups_cut : (gs : Groups) → min 2 (groups_phase_kind gs) ≡ groups_phase_kind gs
groups_cut no_groups = refl
groups_cut (group_then part rest) = twice_cut (part_phase_kind part + groups_phase_kind rest)

-- two and three parts of a command, one after the other
pub two_kept : (old a b : Option Breach) (xs ys : List Breach) → a ≡ least_of old xs → b ≡ least_of a ys → b ≡ least_of old (xs ++ ys)
two_kept old a b xs ys e f = f ∙ (ap (λ k. least_of k ys) e ∙ sym (least_append old xs ys))

pub three_kept : (old a b c : Option Breach) (xs ys zs : List Breach) → a ≡ least_of old xs → b ≡ least_of a ys → c ≡ least_of b zs → c ≡ least_of old (xs ++ (ys ++ zs))
three_kept old a b c xs ys zs e f g = two_kept old a c xs (ys ++ zs) e (two_kept a b c ys zs f g)
