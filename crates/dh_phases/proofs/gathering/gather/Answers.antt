use Rattle.std.proofs.Common.{sym, ◌∙◌}
use Rattle.dh_tree.specs.Seen.{action_seen}
use Rattle.dh_phases.proofs.PhasesAnywhere.{anywhere}
use Rattle.dh_phases.proofs.gathering.gather.Goals as goal

pub returns : goal.returns
returns c = λ r. c.in_ok-phases.ensures.phases ∙ sym (anywhere (action_seen c.args.command.now) r 0)
