use Rattle.std.proofs.lemmas.Result.{IfOk-weaker}
use Rattle.dh_cells.proofs.ShiftsMade.{left_gone}
use Rattle.dh_cells.proofs.WiresMade.{shifted_made}
use Rattle.dh_cells.proofs.operators.push_shifted_left.Goals as goal

pub returns-then-is_constant_from : goal.returns-then-is_constant_from
returns-then-is_constant_from c =
    IfOk-weaker c.push_constant.result _ _
    (λ wire h. left_gone c.args.left_kind c.args.right_kind _ _ wire _ c.args.a c.args.b c.width-bits.ensures (c.is_constant_from.ensures.shows c.if-is_constant_from.true) h)
    c.push_constant.ensures

pub returns-else-is_constant_from : goal.returns-else-is_constant_from
returns-else-is_constant_from c =
    IfOk-weaker c.push.result _ _
    (λ wire h. shifted_made c.args.left_kind c.args.right_kind _ _ wire _ c.args.a c.args.b c.width-bits.ensures c.requires.left h)
    c.push.ensures.shows
