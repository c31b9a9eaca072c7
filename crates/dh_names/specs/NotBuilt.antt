-- What the code's walk keeps of the forms that are not built yet, and whether what it goes over holds a
-- `---`, a loop or a call.
use Rattle.std.specs.Prelude.{◌≡◌, Bool, false, List, Option, Vec, Box}
use Rattle.std.specs.Global.{Global}
use Rattle.dh_base.specs.declared.places.Place.{Place}
use Rattle.dh_tree.specs.declared.breaches.Breach.{Breach}
use Rattle.dh_tree.specs.declared.trees.commands.Command.{Command}
use Rattle.dh_tree.specs.declared.trees.commands.CommandForm.{CommandForm}
use Rattle.dh_tree.specs.LeastBreach.{least_of}
use Rattle.dh_tree.specs.Forms.{unbuilt_action, unbuilt_form, unbuilt_other, unbuilt_part, holds_steps, form_holds, other_holds, part_holds}
use Rattle.dh_tree.specs.Seen.{action_seen, action_form_seen, part_seen, maybe_block_seen}

-- the least is kept of the form that was kept and these, and it is told whether steps are held
pub record KeepsLeastUnbuilt (old new : Option Breach) (steps : Bool) (forms : List Breach) (holds : Bool) : Type 0 where
  pub kept : new ≡ least_of old forms
  pub told : steps ≡ holds

-- the code's walk over a command, over its form, which stands at its place, over a block that may lack, and
-- over a part
abbrev pub KeepsCommand : (old new : Option Breach) → Bool → Command → Type 0
KeepsCommand old new steps command = KeepsLeastUnbuilt old new steps (unbuilt_action (action_seen command)) (holds_steps (action_seen command))

abbrev pub KeepsForm : (old new : Option Breach) → Bool → Place → CommandForm → Type 0
KeepsForm old new steps place form = KeepsLeastUnbuilt old new steps (unbuilt_form place (action_form_seen form)) (form_holds (action_form_seen form))

abbrev pub KeepsOptional : (old new : Option Breach) → Bool → Option (Box Command Global) → Type 0
KeepsOptional old new steps block = KeepsLeastUnbuilt old new steps (unbuilt_other (maybe_block_seen block)) (other_holds (maybe_block_seen block))

abbrev pub KeepsPart : (old new : Option Breach) → Bool → Vec Command Global → Type 0
KeepsPart old new steps part = KeepsLeastUnbuilt old new steps (unbuilt_part false (part_seen part)) (part_holds (part_seen part))
