use Rattle.std.proofs.Common.{refl}
use Rattle.dh_lengths.proofs.PhaseWalking.{walked_straight}
use Rattle.dh_lengths.proofs.lengths.walk_straight.Goals as goal

pub returns : goal.returns
returns c = walked_straight c.args.walk.now c.open_phase.new.walk _ c.args.command.now c.in_ok-open_phase.ensures c.in_ok-level_command.ensures refl refl refl
