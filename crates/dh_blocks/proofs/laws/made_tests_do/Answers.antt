use Rattle.dh_blocks.proofs.TestDone.{made_tests_do}
use Rattle.dh_blocks.proofs.laws.made_tests_do.Goals as goal

pub returns : goal.returns
returns c = made_tests_do
