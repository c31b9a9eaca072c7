use Rattle.std.proofs.Common.{◌≡◌, ◌-◌, ◌*◌, get_or, [], ◌∷◌, ◌++◌, refl, ap, ◌∙◌, arith, to_z, of_z, to_z-of_z}
use Rattle.std.specs.Int.{w128}
use Rattle.dh_ports.proofs.BankTurns.{banks_few}
use Rattle.dh_ports.proofs.LaneTurns.{as_lane, lane_more, lane_one, lane_same}
use Rattle.dh_ports.proofs.copies.lanes_of.Goals.{then-i-indices+then-banks-gt1+in_ok-push, else-i-indices, else-i-indices-via-then-i-indices+else-banks-gt1, else-i-indices-via-else-i-indices}
use Rattle.dh_ports.proofs.copies.lanes_of.Goals as goal

pub overflow_mul-times : goal.overflow_mul-times
overflow_mul-times c =
    let few = banks_few c.args.dims.now c.loop-i.i (record { size = 0; banks = 0 }) c.requires.dims c.requires.few c.loop-i-test.true c.loop-i.auto.i c.loop-i.times c.loop-i.invariant.counted in
    omega (arith, few)

pub loop-i-preserved : goal.loop-i-preserved
loop-i-preserved c = elim c.if-i-indices.branch [
  | then-i-indices+then-banks-gt1+in_ok-push w ↦
      let back : to_z w128 (of_z w128 w.start_of-start.result.offset) ≡ w.start_of-start.result.offset = grind (arith, to_z-of_z) in
      lane_more c.args.typed.now c.args.loops.now c.args.dims.now c.args.indices.now c.requires.dims c.requires.few c.loop-i.i (record { size = 0; banks = 0 }) c.loop-i-test.true c.loop-i.auto.i c.loop-i.lanes.items c.if-i-indices.lanes.items c.loop-i.times ((get_or c.args.dims.now (c.loop-i.i - 1) (record { size = 0; banks = 0 })).banks * c.loop-i.times) c.loop-i.invariant refl
      w.index-indices-i.result w.start_of-start.result w.level_of.result w.if-i-indices.true w.index-indices-i.is w.start_of-start.ensures w.level_of.ensures w.if-banks-gt1.true (ap (λ v. v.items) w.lanes-is ∙ (w.in_ok-push.ensures.items ∙ ap (λ z. c.loop-i.lanes.items ++ as_lane (get_or c.args.dims.now (c.loop-i.i - 1) (record { size = 0; banks = 0 })).banks c.loop-i.times w.start_of-start.result.low z w.level_of.result ∷ []) back))
  | else-i-indices w ↦ elim w.else-i-indices.branch [
    | else-i-indices-via-then-i-indices+else-banks-gt1 v ↦
        lane_one c.args.typed.now c.args.loops.now c.args.dims.now c.args.indices.now c.requires.dims c.requires.few c.loop-i.i (record { size = 0; banks = 0 }) c.loop-i-test.true c.loop-i.auto.i c.loop-i.lanes.items c.if-i-indices.lanes.items c.loop-i.times ((get_or c.args.dims.now (c.loop-i.i - 1) (record { size = 0; banks = 0 })).banks * c.loop-i.times) c.loop-i.invariant refl
        v.if-i-indices.true v.if-banks-gt1.false (ap (λ l. l.items) w.lanes-is)
    | else-i-indices-via-else-i-indices v ↦
        lane_same c.args.typed.now c.args.loops.now c.args.dims.now c.args.indices.now c.requires.dims c.requires.few c.loop-i.i (record { size = 0; banks = 0 }) c.loop-i-test.true c.loop-i.auto.i c.loop-i.lanes.items c.if-i-indices.lanes.items c.loop-i.times ((get_or c.args.dims.now (c.loop-i.i - 1) (record { size = 0; banks = 0 })).banks * c.loop-i.times) c.loop-i.invariant refl
        v.if-i-indices.false (ap (λ l. l.items) w.lanes-is)
  ]
]
