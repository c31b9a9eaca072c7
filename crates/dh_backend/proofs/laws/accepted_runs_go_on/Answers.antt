use Rattle.dh_backend.proofs.Unstuck.{accepted_never_stuck}
use Rattle.dh_backend.proofs.laws.accepted_runs_go_on.Goals as goal

pub returns : goal.returns
returns c p = accepted_never_stuck p
