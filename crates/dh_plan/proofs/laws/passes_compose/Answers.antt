use Rattle.dh_plan.proofs.Composed.{passes_compose}
use Rattle.dh_plan.proofs.laws.passes_compose.Goals as goal

pub returns : goal.returns
returns c p = passes_compose p
