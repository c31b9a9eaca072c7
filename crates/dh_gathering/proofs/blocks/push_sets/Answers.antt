use Rattle.std.proofs.Common.{refl, ◌∙◌, arith}
use Rattle.dh_gathering.proofs.LoggedSets.{sets_done, sets_kept, sets_next}
use Rattle.dh_gathering.proofs.blocks.push_sets.Goals.{then-i-len+in_ok-set_register, else-i-len}
use Rattle.dh_gathering.proofs.blocks.push_sets.Goals as goal

pub loop-i-preserved : goal.loop-i-preserved
loop-i-preserved c = elim c.if-i-len.branch [
  | then-i-len+in_ok-set_register w ↦
      (let inside = w.if-i-len.true in let long = c.len.ensures in
      sets_next c.args.building.now.values.log.items c.loop-i.i c.args.building.now c.loop-i.building w.set_register.new.building c.if-i-len.building w.index-change.result.now (omega (arith, inside, long)) w.index-change.ensures w.building-is w.in_ok-set_register.ensures c.loop-i.invariant)
  | else-i-len w ↦
      (let outside = w.if-i-len.false in let long = c.len.ensures in let within = c.loop-i-test.true in let end = c.len-i-end.ensures in
      sets_kept c.args.building.now.values.log.items c.loop-i.i c.args.building.now c.loop-i.building c.if-i-len.building (omega (arith, outside, long)) w.building-is (omega (arith, within, end)) c.loop-i.invariant)
]

pub returns : goal.returns
returns c = record {
  sets = sets_done c.args.building.now.values.log.items c.loop-i.i c.len-i-end.result c.args.building.now c.loop-i.building
      (record { draft = c.loop-i.building.draft; accesses = c.loop-i.building.accesses; values = record { current = c.loop-i.building.values.current; log = c.clear.new.self; marks = c.loop-i.building.values.marks } })
      c.loop-i-test.false (c.len-i-end.ensures ∙ c.args.building.now.values.log.ok.0) refl refl refl refl c.loop-i.invariant;
  log = c.clear.ensures.items;
}
