use Rattle.dh_data.proofs.Signed.{word_within, positive, negative}
use Rattle.dh_data.proofs.reports.signed_number.Goals as goal

pub overflow_sub-result : goal.overflow_sub-result
overflow_sub-result c = word_within c.args.bits c.args.width c.requires.width.1 c.requires.small

pub returns-then-bits-greatest : goal.returns-then-bits-greatest
returns-then-bits-greatest c = positive c.args.bits c.args.width c.requires.width.1 c.if-bits-greatest.true

pub returns-else-bits-greatest : goal.returns-else-bits-greatest
returns-else-bits-greatest c = negative c.args.bits c.args.width c.requires.width.1 c.requires.small c.if-bits-greatest.false
