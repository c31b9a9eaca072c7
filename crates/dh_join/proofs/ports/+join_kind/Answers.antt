use Rattle.std.proofs.Common.{refl, arith}
use Rattle.std.proofs.lemmas.Result.{IfOk-weaker}
use Rattle.dh_join.proofs.DriversStand.{one_later, front_drives, back_drives, stands_empty, stands_single, stands_split}
use Rattle.dh_join.proofs.ports.+join_kind.Goals as goal

pub returns-in-empty : goal.returns-in-empty
returns-in-empty t c = stands_empty _ c.args.port c.args.write c.args.drivers.now c.in-empty.len_below

pub returns-in-len1 : goal.returns-in-len1
returns-in-len1 t c = stands_single _ c.args.port c.args.write c.args.drivers.now _ _ c.pick.result c.in-len1.len_at_least c.in-len1.len_below refl c.pick.ensures c.requires

pub join_kind-requires : goal.join_kind-requires
join_kind-requires t c = (
  let many = c.in_default.len_at_least in let half = c.split_at.ensures.front_len in omega (arith, many, half, c.decreases),
  front_drives _ c.args.port _ c.args.drivers.now _ c.split_at.ensures.front c.requires,
)

pub join_kind-requires-in_default : goal.join_kind-requires-in_default
join_kind-requires-in_default t c = (
  let many = c.in_default.len_at_least in let front = c.split_at.ensures.front_len in let half = c.split_at.ensures.back_len in omega (arith, many, front, half, c.decreases),
  back_drives _ _ c.args.port _ c.args.drivers.now _ c.in_ok-first-in_default.ensures.grows.begins c.split_at.ensures.back c.requires,
)

pub join_found-requires-clause-first : goal.join_found-requires-clause-first
join_found-requires-clause-first t c =
    one_later _ _ c.args.port c.args.write c.in_ok-first-in_default.first c.in_ok-second-in_default.ensures.grows.begins c.in_ok-first-in_default.ensures.there

pub join_found-requires-clause-second : goal.join_found-requires-clause-second
join_found-requires-clause-second t c = c.in_ok-second-in_default.ensures.there

pub returns-in_ok-second-in_default : goal.returns-in_ok-second-in_default
returns-in_ok-second-in_default t c =
    let many = c.in_default.len_at_least in
    let front = c.split_at.ensures.front_len in
    let back = c.split_at.ensures.back_len in
    IfOk-weaker c.join_found.result _ _
    (λ joined h.
    stands_split _ _ _ _ c.args.port c.args.write _ c.args.drivers.now _ _ c.in_ok-first-in_default.first c.in_ok-second-in_default.second joined c.split_at.ensures.front c.split_at.ensures.back
    (omega (arith, many, front, back)) (omega (arith, many, front, back)) (omega (arith, many, front, back)) c.in_ok-first-in_default.ensures c.in_ok-second-in_default.ensures h)
    c.join_found.ensures
