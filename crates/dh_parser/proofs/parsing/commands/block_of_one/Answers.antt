use Rattle.dh_parser.proofs.BlockForms.{one_made}
use Rattle.dh_parser.proofs.parsing.commands.block_of_one.Goals as goal

pub returns : goal.returns
returns c =
    one_made c.args.id c.args.inner.place c.args.inner c.push.new.self c.push-2.new.self _ _ c.in_ok-push.ensures.items c.new-part.ensures.items c.in_ok-push-2.ensures.items c.new-body.ensures.items
