use Rattle.dh_code.proofs.Declaring.{round_counted}
use Rattle.dh_code.proofs.places.inside.Goals as goal

pub returns-else-factor-le1 : goal.returns-else-factor-le1
returns-else-factor-le1 c = λ factors round few.
    round_counted factors c.args.depth c.args.copies c.args.factor _ _ c.if-factor-le1.false c.saturating_add.ensures c.saturating_mul.ensures round few
