-- Operations of commands put together from those of their parts: forms as the code has them, and parts of a block one
-- after the other.
use Rattle.std.proofs.Common.{◌≡◌, ℕ, ◌+◌, ◌<◌, ◌≤◌, List, [], ◌∷◌, ap, refl, sym, ◌∙◌, subst, length, drop, get_or, map}
use Rattle.std.specs.Prelude.{Vec}
use Rattle.std.specs.Global.{Global}
use Rattle.dh_base.proofs.ListItems.{at_item}
use Rattle.dh_tree.specs.declared.trees.commands.Command.{Command}
use Rattle.dh_tree.specs.PlainTrees.{ViewPlan, ActionForm, action, Groups, group_then}
use Rattle.dh_tree.specs.Seen.{action_form_seen, action_seen, actions, all_parts_seen}
use Rattle.dh_tree.specs.ViewOffsets.{offsets_of}
use Rattle.dh_meaning.specs.AccessNumbers.{accesses_of, inner_accesses, own_accesses, plan_accesses}
use Rattle.dh_meaning.specs.Ways.{Hidden}
use Rattle.dh_phases.specs.Counted.{behind}
use Rattle.dh_expressions.specs.declared.scenes.Around.{Around}
use Rattle.dh_expressions.specs.declared.scenes.Scene.{Scene}
use Rattle.dh_commands.specs.declared.buildings.Building.{Building}
use Rattle.dh_commands.specs.MadeCommands.{KeptView, MadeActionForm, MadeCommand, MadeGroups, MadeView, RestMakesWhole}
use Rattle.dh_commands.proofs.PartsDone.{drop_past}

pub made_seen : (scene : Scene) (around : Around) (c : Command) (form : ActionForm) (first next : ℕ) (old new : Building) → action_form_seen c.form ≡ form → MadeActionForm scene form around old new first next
    → MadeCommand scene (action_seen c) around old new first next
made_seen scene around c form first next old new is m = subst (λ (f : ActionForm). MadeActionForm scene f around old new first next) (sym is) m

-- the number behind a loop that puts nothing down
pub idle_next : (c : Command) (form : ActionForm) (first next : ℕ) → action_form_seen c.form ≡ form → next ≡ behind first (accesses_of (action_seen c)) → next ≡ behind first (own_accesses form + inner_accesses form)
idle_next c form first next is counted = counted ∙ ap (λ (f : ActionForm). behind first (accesses_of (action c.id c.place f))) is

module _ (scene : Scene) (around : Around) (all : Groups) (first : ℕ) (old : Building) where
  pub makes_command : (cs : List Command) (j : ℕ) (c : Command) (gs : Groups) (now n1 : ℕ) (here behind : Building) → j < length cs → c ≡ get_or cs j c
      → MadeCommand scene (action_seen c) around here behind now n1 → RestMakesWhole scene around all (group_then (actions (map action_seen (drop j cs))) gs) first now old here
      → RestMakesWhole scene around all (group_then (actions (map action_seen (drop (j + 1) cs))) gs) first n1 old behind
  makes_command cs j c gs now n1 here behind within is made makes next new d =
      makes next new
      (subst (λ (xs : List Command). MadeGroups scene (group_then (actions (map action_seen xs)) gs) around here new now next) (sym (at_item cs j c within is))
      (record { middle = d.middle; own = d.own; one = record { middle = behind; own = n1; one = made; rest = d.one }; rest = d.rest }))

  pub makes_part : (cs : List Command) (j : ℕ) (gs : Groups) (now : ℕ) (here : Building) → length cs ≤ j → RestMakesWhole scene around all (group_then (actions (map action_seen (drop j cs))) gs) first now old here
      → RestMakesWhole scene around all gs first now old here
  makes_part cs j gs now here end makes next new d =
      makes next new
      (subst (λ (xs : List Command). MadeGroups scene (group_then (actions (map action_seen xs)) gs) around here new now next) (sym (drop_past cs j end))
      (record { middle = here; own = now; one = record { still = refl; next_is = refl }; rest = d }))

  pub makes_all : (ps : List (Vec Command Global)) (i : ℕ) (now : ℕ) (here : Building) → length ps ≤ i → RestMakesWhole scene around all (all_parts_seen (drop i ps)) first now old here → MadeGroups scene all around old here first now
  makes_all ps i now here end makes =
      makes now here (subst (λ (xs : List (Vec Command Global)). MadeGroups scene (all_parts_seen xs) around here here now now) (sym (drop_past ps i end)) (record { still = refl; next_is = refl }))

-- The parts from one on are that one and those behind it.
pub at_part : (ps : List (Vec Command Global)) (i : ℕ) (part : Vec Command Global) (now : List Command) → i < length ps → part ≡ get_or ps i part → now ≡ part.items → (P : Groups → Type 0) → P (all_parts_seen (drop i ps))
    → P (group_then (actions (map action_seen now)) (all_parts_seen (drop (i + 1) ps)))
at_part ps i part now within is items P p =
    subst (λ (cs : List Command). P (group_then (actions (map action_seen cs)) (all_parts_seen (drop (i + 1) ps)))) (sym items)
    (subst (λ (xs : List (Vec Command Global)). P (all_parts_seen xs)) (at_item ps i part within is) p)

-- a view, whatever variables its way has
pub view_made : (scene : Scene) (around : Around) (form : ViewPlan) (first idle next : ℕ) (old new : Building) → idle ≡ behind first (plan_accesses form + 0) → (hs : List Hidden) → KeptView scene around old new first idle next hs (offsets_of form)
    → MadeView scene hs form around old new first next
view_made scene around form first idle next old new counted [] m = record { still = m.0; next_is = m.1 ∙ counted }
view_made scene around form first idle next old new counted (h ∷ hs) m = m
