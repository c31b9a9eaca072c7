use Rattle.dh_build.proofs.CountsUp.{counted}
use Rattle.dh_build.proofs.beginning.one_more.Goals as goal

pub returns-then-width-lt64 : goal.returns-then-width-lt64
returns-then-width-lt64 c = λ fits. counted c.args.number c.args.width c.if-width-lt64.true
