use Rattle.dh_events.specs.Tables.{table_at}
use Rattle.dh_lengths.proofs.WaysLeveled.{fewer_left, level_end, level_next, level_split}
use Rattle.dh_lengths.proofs.terms.level_on.Goals as goal

pub loop-rest-init : goal.loop-rest-init
loop-rest-init c = level_split (table_at c.args.variables.now) c.args.way.now c.split-behind.result.0.now c.split-behind.result.1 c.args.level c.level_hidden-first.result c.split-behind.ensures c.level_hidden-first.ensures

pub loop-rest-preserved : goal.loop-rest-preserved
loop-rest-preserved c =
    level_next (table_at c.args.variables.now) c.in-Some.next c.split-further.result.0.now c.loop-rest.rest c.split-further.result.1 c.loop-rest.most c.level_hidden-most.result _ c.in-Some.is c.split-further.ensures c.level_hidden-most.ensures c.loop-rest.invariant

pub loop-rest-smaller : goal.loop-rest-smaller
loop-rest-smaller c = fewer_left c.in-Some.next c.split-further.result.0.now c.loop-rest.rest c.split-further.result.1 c.in-Some.is c.split-further.ensures

pub returns : goal.returns
returns c = level_end (table_at c.args.variables.now) c.loop-rest.rest c.loop-rest.most _ c.in_default.is c.loop-rest.invariant
