use Rattle.std.proofs.Common.{◌≡◌, ◌≤◌, refl, length, arith}
use Rattle.std.proofs.lemmas.Option.{slice_get_read}
use Rattle.dh_expressions.proofs.CopiesMade.{leader_joined, leader_past}
use Rattle.dh_expressions.proofs.copies.join_leader.Goals as goal

pub returns-in_ok-guard : goal.returns-in_ok-guard
returns-in_ok-guard c =
    let long : c.len.result ≡ length c.args.copies.now.items = let e = c.len.ensures in let o = c.args.copies.now.ok.0 in omega (arith, e, o) in
    leader_joined c.args.draft.now c.push_either.new.draft c.args.copies.now.items _ c.args.leader c.args.guard c.in_ok-guard.guard c.index-copy.result.now
    (slice_get_read c.args.copies.now.items c.len.result c.args.leader c.index-copy.result.now long c.if-at-len.true c.index-copy.ensures) refl c.in_ok-guard.ensures

pub returns-else-at-len : goal.returns-else-at-len
returns-else-at-len c =
    let past : length c.args.copies.now.items ≤ c.args.leader = let e = c.len.ensures in let o = c.args.copies.now.ok.0 in let p = c.if-at-len.false in omega (arith, e, o, p) in
    leader_past c.args.draft.now c.args.copies.now.items c.args.leader c.args.guard past
