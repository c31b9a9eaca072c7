-- How many phases commands have is noted in order, where that is asked for; where it is not, nothing is kept.
use Rattle.std.proofs.Common.{◌≡◌, ℕ, List, ◌∷◌, map, option_map, refl, ap, sym, ◌∙◌}
use Rattle.std.specs.Prelude.{Option, Some, None, Vec}
use Rattle.std.specs.Global.{Global}
use Rattle.dh_tree.specs.declared.trees.commands.Command.{Command}
use Rattle.dh_tree.specs.Seen.{action_seen, actions}
use Rattle.dh_events.specs.Stages.{stages_in, part_stages}
use Rattle.dh_events.specs.Tables.{kept_table, ChangesKept}

maps_on : {A : Type 0} (o : Option A) (f g : A → A) → option_map g (option_map f o) ≡ option_map (λ a. g (f a)) o
maps_on None f g = refl
maps_on (Some a) f g = refl

-- one change, then another
pub both_noted : (new mid old : Option (ℕ → ℕ)) (f g : (ℕ → ℕ) → ℕ → ℕ) → mid ≡ option_map f old → new ≡ option_map g mid → new ≡ option_map (λ t. g (f t)) old
both_noted new mid old f g e h = h ∙ (ap (λ o. option_map g o) e ∙ maps_on old f g)

-- one more command of a part
pub more_kept : (new old total : Option (ℕ → ℕ)) (rest all : List Command) (c : Command) → rest ≡ c ∷ all → new ≡ option_map (stages_in (action_seen c)) old
    → option_map (part_stages (actions (map action_seen rest))) old ≡ total → option_map (part_stages (actions (map action_seen all))) new ≡ total
more_kept new old total rest all c is noted before =
    ap (λ o. option_map (part_stages (actions (map action_seen all))) o) noted
    ∙ (maps_on old (stages_in (action_seen c)) (part_stages (actions (map action_seen all))) ∙ (ap (λ l. option_map (part_stages (actions (map action_seen l))) old) (sym is) ∙ before))

-- where no numbers were kept before, none are behind
pub none_behind : (new old : Option (Vec ℕ Global)) (f g : (ℕ → ℕ) → ℕ → ℕ) → option_map f (kept_table new) ≡ option_map g (kept_table old) → old ≡ None → new ≡ None
none_behind None old f g e h = refl
none_behind (Some v) None f g e h = absurd cc
none_behind (Some v) (Some w) f g e h = absurd cc

pub none_after : (new old : Option (Vec ℕ Global)) (f : (ℕ → ℕ) → ℕ → ℕ) → ChangesKept old new f → old ≡ None → new ≡ None
none_after None old f e h = refl
none_after (Some v) None f e h = absurd cc
none_after (Some v) (Some w) f e h = absurd cc
