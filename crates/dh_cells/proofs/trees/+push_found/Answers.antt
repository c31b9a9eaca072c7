use Rattle.std.proofs.Common.{arith}
use Rattle.std.proofs.lemmas.Result.{IfOk-weaker}
use Rattle.dh_cells.proofs.WireTrees.{tested_stays, front_tested, back_tested, first_made}
use Rattle.dh_cells.proofs.trees.+push_found.Goals as goal

pub push_found-requires : goal.push_found-requires
push_found-requires t c = (
  let many = c.in_default.len_at_least in let half = c.split_at.ensures.front_len in omega (arith, many, half, c.decreases),
  (c.requires.width, front_tested _ _ c.args.tests.now _ c.args.width c.split_at.ensures.front c.requires.wires),
)

pub push_found-requires-in_default : goal.push_found-requires-in_default
push_found-requires-in_default t c = (
  let many = c.in_default.len_at_least in let front = c.split_at.ensures.front_len in let half = c.split_at.ensures.back_len in omega (arith, many, front, half, c.decreases),
  (c.requires.width, back_tested _ _ _ c.args.tests.now _ c.args.width c.in_ok-first-in_default.ensures.grows c.split_at.ensures.back c.requires.wires),
)

pub push_former-requires-clause-first : goal.push_former-requires-clause-first
push_former-requires-clause-first t c = tested_stays _ _ c.in_ok-first-in_default.first c.args.width c.in_ok-second-in_default.ensures.grows c.in_ok-first-in_default.ensures.there

pub returns-in_ok-second-in_default : goal.returns-in_ok-second-in_default
returns-in_ok-second-in_default t c =
    IfOk-weaker c.push_former.result _ _
    (λ found h. first_made _ _ _ _ c.args.width _ c.args.tests.now _ _ c.in_ok-first-in_default.first c.in_ok-second-in_default.second found c.split_at.ensures.front c.split_at.ensures.back c.in_ok-first-in_default.ensures c.in_ok-second-in_default.ensures h)
    c.push_former.ensures
