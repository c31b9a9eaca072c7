use Rattle.std.proofs.Common.{◌++◌, map, add-one}
use Rattle.dh_ways.specs.declared.ways.Hidden.{Hidden}
use Rattle.dh_ways.specs.Seen.{hidden_seen}
use Rattle.dh_code.specs.Made.{hidden_operand}
use Rattle.dh_code.proofs.ViewsFlattened.{mapped_at, mapped_end}
use Rattle.dh_code.proofs.flattening.with_offsets.Goals as goal

pub loop-one-preserved : goal.loop-one-preserved
loop-one-preserved c = rw (add-one c.loop-one.one-index)
    (mapped_at (λ (h : Hidden). hidden_operand c.args.names.now.places.now (hidden_seen h)) c.args.hidden.now c.loop-one.one-index c.loop-one.all c.push.new.self (c.args.operands ++ map (λ (h : Hidden). hidden_operand c.args.names.now.places.now (hidden_seen h)) c.args.hidden.now) _ c.hidden_value.result
    c.loop-one-test.true c.in_ok-push.ensures c.hidden_value.ensures c.loop-one.invariant)

pub returns : goal.returns
returns c =
    mapped_end (λ (h : Hidden). hidden_operand c.args.names.now.places.now (hidden_seen h)) c.args.hidden.now c.loop-one.one-index c.loop-one.all (c.args.operands ++ map (λ (h : Hidden). hidden_operand c.args.names.now.places.now (hidden_seen h)) c.args.hidden.now) c.loop-one-test.false c.loop-one.invariant
