use Rattle.std.proofs.Common.{false}
use Rattle.dh_tree.specs.Seen.{program_seen}
use Rattle.dh_ports.specs.Claims.{source_of}
use Rattle.dh_size.proofs.ChargedBanks.{own_size, shared_size}
use Rattle.dh_size.proofs.banks.access_size.Goals as goal

pub returns-then-shares : goal.returns-then-shares
returns-then-shares c = shared_size (program_seen c.args.typed.now) (source_of c.args.loops.now false c.args.access.now) c.copies_in-copies.result c.args.shares c.copies_in-copies.ensures c.if-shares.true

pub returns : goal.returns
returns c = own_size (program_seen c.args.typed.now) (source_of c.args.loops.now false c.args.access.now) c.copies_in-copies.result c.in_ok-banks.banks c.args.shares c.copies_in-copies.ensures c.if-shares.false c.in_ok-banks.ensures.met
