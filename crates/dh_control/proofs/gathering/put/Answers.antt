use Rattle.dh_control.proofs.GatheredItems.{put_done, put_none}
use Rattle.dh_control.proofs.gathering.put.Goals as goal

pub returns-in_ok-push : goal.returns-in_ok-push
returns-in_ok-push g c = put_done c.args.lists.now c.args.at c.index-lists-at.result c.push.new.self c.args.item c.if-at-lists.true c.in_ok-push.ensures.items

pub returns-else-at-lists : goal.returns-else-at-lists
returns-else-at-lists g c = put_none c.args.lists.now c.args.at c.args.item c.if-at-lists.false
