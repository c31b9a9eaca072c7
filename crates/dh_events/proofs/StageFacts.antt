-- How many phases parts have together.
use Rattle.std.proofs.Common.{◌≡◌, ℕ, ◌+◌, List, ◌∷◌, min, max, map, refl, ap, sym, ◌∙◌, arith}
use Rattle.dh_tree.specs.declared.trees.commands.Command.{Command}
use Rattle.dh_tree.specs.PlainTrees.{Groups, no_groups, group_then}
use Rattle.dh_tree.specs.Seen.{action_seen, actions}
use Rattle.dh_events.specs.Stages.{stages_in, part_stages}
use Rattle.dh_tree.specs.PhaseKinds.{phase_kind, groups_phase_kind, part_phase_kind}

pub few_stages : (gs : Groups) → min 2 (0 + groups_phase_kind gs) ≡ groups_phase_kind gs
few_stages no_groups = refl
few_stages (group_then part rest) = capped (part_phase_kind part + groups_phase_kind rest)
  where
    capped : (x : ℕ) → min 2 (0 + min 2 x) ≡ min 2 x
    capped x = grind arith

-- one more command of a part
pub more_stages : (most own new total : ℕ) (rest all : List Command) (c : Command) → rest ≡ c ∷ all → own ≡ phase_kind (action_seen c) → new ≡ max own most
    → max most (part_phase_kind (actions (map action_seen rest))) ≡ total → max new (part_phase_kind (actions (map action_seen all))) ≡ total
more_stages most own new total rest all c is own_is new_is before =
    ap (λ n. max n (part_phase_kind (actions (map action_seen all)))) new_is
    ∙ (regroup own most (part_phase_kind (actions (map action_seen all)))
    ∙ (ap (λ n. max most (max n (part_phase_kind (actions (map action_seen all))))) own_is ∙ (ap (λ l. max most (part_phase_kind (actions (map action_seen l)))) (sym is) ∙ before)))
  where
    regroup : (a b c : ℕ) → max (max a b) c ≡ max b (max a c)
    regroup a b c = grind arith

pub more_noted : (f g : ℕ → ℕ) (total : ℕ → ℕ) (rest all : List Command) (c : Command) → rest ≡ c ∷ all → g ≡ stages_in (action_seen c) f → part_stages (actions (map action_seen rest)) f ≡ total → part_stages (actions (map action_seen all)) g ≡ total
more_noted f g total rest all c is noted before =
    ap (λ h. part_stages (actions (map action_seen all)) h) noted ∙ (ap (λ l. part_stages (actions (map action_seen l)) f) (sym is) ∙ before)
