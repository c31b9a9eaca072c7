-- By the last phase of the body.
use Rattle.std.proofs.Common.{map}
use Rattle.std.proofs.lemmas.Result.{IfOk-weaker}
use Rattle.dh_phases.specs.GatheredPhases.{numbered_seen, phase_list}
use Rattle.dh_phases.specs.Gathering.{command_list}
use Rattle.dh_phases.proofs.PhasesRead.{told_some, told_none, straight_folded, other_folded}
use Rattle.dh_phases.proofs.gathering.fold.Goals as goal

pub returns-in-Some-straight_commands : goal.returns-in-Some-straight_commands
returns-in-Some-straight_commands c =
    straight_folded c.args.body.items c.pop.new.self.items c.in-Some.last c.in-Some-straight_commands.commands.now c.new-current.result.items c.extend_from_slice.new.self.items
    (phase_list c.args.fold) (phase_list c.join.new.done) (phase_list c.end_phase.new.done) (command_list c.join.new.current) c.in-Some.ensures.items
    (told_some (λ cs. map numbered_seen cs.now) c.straight_commands.result c.in-Some-straight_commands.commands _ c.in-Some-straight_commands.is c.straight_commands.ensures)
    c.new-current.ensures.items c.in_ok-extend_from_slice-in-Some-straight_commands.ensures.items
    c.in_ok-join-in-Some-straight_commands.ensures.done c.in_ok-join-in-Some-straight_commands.ensures.current c.in_ok-end_phase-in-Some-straight_commands.ensures.done

pub returns : goal.returns
returns c =
    IfOk-weaker c.followed.result _ _ (λ ps is. other_folded c.args.body.items c.pop.new.self.items c.in-Some.last (phase_list c.args.fold) (phase_list ps) c.in-Some.ensures.items
    (told_none (λ cs. map numbered_seen cs.now) c.straight_commands.result _ c.in-None-straight_commands.is c.straight_commands.ensures) is) c.followed.ensures
