use Rattle.dh_flow.proofs.GraphStarted.{starts_so}
use Rattle.dh_flow.proofs.ToldForms.{rest_is}
use Rattle.dh_flow.proofs.flowing.start.Goals as goal

pub returns : goal.returns
returns c =
    starts_so c.args.whole.entry c.in_ok-first.first _ c.new-groups.result.items c.in_ok-with_capacity.field-0 c.push.new.self c.new-groups.ensures.items c.in_ok-push.ensures.items rest_is c.in_ok-first.ensures c.in_ok-with_capacity.ensures.items
