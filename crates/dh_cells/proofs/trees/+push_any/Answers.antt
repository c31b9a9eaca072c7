use Rattle.std.proofs.Common.{arith}
use Rattle.std.proofs.lemmas.Result.{IfOk-weaker}
use Rattle.dh_cells.proofs.CellsAppended.{wire_stays}
use Rattle.dh_cells.proofs.WireTrees.{are_front, are_back, any_made}
use Rattle.dh_cells.proofs.trees.+push_any.Goals as goal

pub push_any-requires : goal.push_any-requires
push_any-requires t c = (
  let many = c.in_default.len_at_least in let half = c.split_at.ensures.front_len in omega (arith, many, half, c.decreases),
  are_front _ _ c.args.wires.now _ 1 c.split_at.ensures.front c.requires,
)

pub push_any-requires-in_default : goal.push_any-requires-in_default
push_any-requires-in_default t c = (
  let many = c.in_default.len_at_least in let front = c.split_at.ensures.front_len in let half = c.split_at.ensures.back_len in omega (arith, many, front, half, c.decreases),
  are_back _ _ _ c.args.wires.now _ 1 c.in_ok-a-in_default.ensures.grows c.split_at.ensures.back c.requires,
)

pub push_either-requires-clause-left : goal.push_either-requires-clause-left
push_either-requires-clause-left t c = wire_stays _ _ c.in_ok-a-in_default.a 1 c.in_ok-b-in_default.ensures.grows c.in_ok-a-in_default.ensures.shows.there

pub returns-in_ok-b-in_default : goal.returns-in_ok-b-in_default
returns-in_ok-b-in_default t c =
    IfOk-weaker c.push_either.result _ _
    (λ wire h. any_made _ _ _ _ wire c.in_ok-a-in_default.a c.in_ok-b-in_default.b _ c.args.wires.now _ _ c.split_at.ensures.front c.split_at.ensures.back c.in_ok-a-in_default.ensures c.in_ok-b-in_default.ensures h)
    c.push_either.ensures
