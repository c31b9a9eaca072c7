use Rattle.std.proofs.Common.{◌≡◌, ℕ, ◌*◌, ◌+◌, ◌-◌, ◌%◌, ◌<◌, ◌≤◌, get_or, ap, ◌∙◌, sym, subst, arith, pos, ◌+ℤ◌, unsigned_abs, to_z, of_z, to_z-of_z}
use Rattle.std.specs.Int.{w128}
use Rattle.dh_ports.proofs.BankTurns.{banks_few, banks_more, told_few, times_few, told_more, told_one, told_same}
use Rattle.dh_ports.proofs.banks.bank_told.Goals.{then-i-indices+then-banks-gt1, else-i-indices, else-i-indices-via-then-i-indices+else-banks-gt1, else-i-indices-via-else-i-indices}
use Rattle.dh_ports.proofs.banks.bank_told.Goals as goal

pub overflow_mul-bank : goal.overflow_mul-bank
overflow_mul-bank c =
    let few = times_few c.args.dims.now c.loop-i.i (record { size = 0; banks = 0 }) c.requires.dims c.requires.few c.loop-i-test.true c.loop-i.auto.i c.args.typed.now c.args.indices.now c.loop-i.count c.loop-i.bank c.loop-i.invariant.0 c.loop-i.invariant.1 (unsigned_abs (pos (c.start_of-start.result.low + 0) +ℤ to_z w128 (of_z w128 c.start_of-start.result.offset))) in
    let fits : c.residue_of_copy.result * c.loop-i.count ≤ 64 = subst (λ (n : ℕ). n * c.loop-i.count ≤ 64) (sym c.residue_of_copy.ensures) few in
    omega (arith, fits)

pub overflow_add-bank : goal.overflow_add-bank
overflow_add-bank c =
    let few = told_few c.args.dims.now c.loop-i.i (record { size = 0; banks = 0 }) c.requires.dims c.requires.few c.loop-i-test.true c.loop-i.auto.i c.args.typed.now c.args.indices.now c.loop-i.count c.loop-i.bank c.loop-i.invariant.0 c.loop-i.invariant.1 (unsigned_abs (pos (c.start_of-start.result.low + 0) +ℤ to_z w128 (of_z w128 c.start_of-start.result.offset))) in
    let fits : c.residue_of_copy.result * c.loop-i.count + c.loop-i.bank < 64 + 1 = subst (λ (n : ℕ). n * c.loop-i.count + c.loop-i.bank < 64 + 1) (sym c.residue_of_copy.ensures) few in
    omega (arith, fits)

pub overflow_mul-count : goal.overflow_mul-count
overflow_mul-count c =
    let few = banks_few c.args.dims.now c.loop-i.i (record { size = 0; banks = 0 }) c.requires.dims c.requires.few c.loop-i-test.true c.loop-i.auto.i c.loop-i.count c.loop-i.invariant.0 in
    omega (arith, few)

pub loop-i-preserved : goal.loop-i-preserved
loop-i-preserved c = (
  banks_more c.args.dims.now c.loop-i.i (record { size = 0; banks = 0 }) c.requires.dims c.requires.few c.loop-i-test.true c.loop-i.auto.i c.loop-i.count c.loop-i.invariant.0,
  elim c.if-i-indices.branch [
    | then-i-indices+then-banks-gt1 w ↦
        let back : to_z w128 (of_z w128 w.start_of-start.result.offset) ≡ w.start_of-start.result.offset = grind (arith, to_z-of_z) in
        told_more c.args.dims.now c.loop-i.i (record { size = 0; banks = 0 }) c.requires.dims c.requires.few c.loop-i-test.true c.loop-i.auto.i c.args.typed.now c.args.indices.now c.loop-i.count c.loop-i.bank c.loop-i.invariant.0 c.loop-i.invariant.1
        w.index-indices-i.result w.start_of-start.result w.residue_of_copy.result c.if-i-indices.bank w.if-i-indices.true w.index-indices-i.is w.start_of-start.ensures (w.residue_of_copy.ensures ∙ ap (λ z. unsigned_abs (pos (w.start_of-start.result.low + 0) +ℤ z) % (get_or c.args.dims.now (c.loop-i.i - 1) (record { size = 0; banks = 0 })).banks) back) w.bank-is
    | else-i-indices w ↦ elim w.else-i-indices.branch [
      | else-i-indices-via-then-i-indices+else-banks-gt1 v ↦
          told_one c.args.dims.now c.loop-i.i (record { size = 0; banks = 0 }) c.requires.dims c.requires.few c.loop-i-test.true c.loop-i.auto.i c.args.typed.now c.args.indices.now c.loop-i.count c.loop-i.bank c.loop-i.invariant.0 c.loop-i.invariant.1 c.if-i-indices.bank v.if-i-indices.true v.if-banks-gt1.false w.bank-is
      | else-i-indices-via-else-i-indices v ↦
          told_same c.args.dims.now c.loop-i.i (record { size = 0; banks = 0 }) c.requires.dims c.requires.few c.loop-i-test.true c.loop-i.auto.i c.args.typed.now c.args.indices.now c.loop-i.count c.loop-i.bank c.loop-i.invariant.0 c.loop-i.invariant.1 c.if-i-indices.bank v.if-i-indices.false w.bank-is
    ]
  ],
)
