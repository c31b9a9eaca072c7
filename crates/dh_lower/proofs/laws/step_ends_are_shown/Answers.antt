use Rattle.dh_lower.proofs.StepsShown.{ends_are_shown, ports_need_no_memories}
use Rattle.dh_lower.proofs.laws.step_ends_are_shown.Goals as goal

pub returns : goal.returns
returns c = record { ends = ends_are_shown; values = ports_need_no_memories }
