use Rattle.std.proofs.Common.{Some, ap, sym, ◌∙◌}
use Rattle.dh_tree.specs.Seen.{action_seen, action_form_seen}
use Rattle.dh_phases.specs.FoundCommands.{first_in_command, first_in_form}
use Rattle.dh_tree.proofs.SeenActions.{while_is}
use Rattle.dh_phases.proofs.CommandsFound.{skipped}
use Rattle.dh_phases.proofs.phasing.+seeking.Goals as goal

pub find-returns-in-While : goal.find-returns-in-While
find-returns-in-While t c =
    c.find-in-While.ensures
    ∙ (ap (λ b. first_in_command c.args.number (action_seen b)) c.deref-in-While.ensures
    ∙ sym (skipped c.args.number c.args.command.now.id (Some (action_seen c.args.command.now)) (first_in_form c.args.number (action_form_seen c.args.command.now.form)) (first_in_command c.args.number (action_seen c.in-While.body.value)) c.if-command-number.false
    (ap (λ f. first_in_form c.args.number (action_form_seen f)) c.in-While.is ∙ ap (λ f. first_in_form c.args.number f) (while_is c.in-While.test c.in-While.body))))
