use Rattle.dh_build.proofs.OneGroup.{one_group}
use Rattle.dh_build.proofs.laws.one_group_is_one_thread.Goals as goal

pub returns : goal.returns
returns c = λ plan g group h one. one_group plan g group h one
