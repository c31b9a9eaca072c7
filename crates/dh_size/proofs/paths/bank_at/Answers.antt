use Rattle.std.proofs.Common.{ℕ, ◌*◌, ◌+◌, ◌<◌, ◌≤◌, sym, subst, arith}
use Rattle.dh_meets.specs.Charges.{loop_factors}
use Rattle.dh_ports.specs.Banks.{path_of_number}
use Rattle.dh_ports.proofs.BankTurns.{banks_few, banks_more}
use Rattle.dh_size.proofs.IndexTurns.{told_few, times_few, told_more, told_one, told_same, value_at}
use Rattle.dh_size.proofs.paths.bank_at.Goals.{then-i-indices+then-banks-gt1, else-i-indices, else-i-indices-via-then-i-indices+else-banks-gt1, else-i-indices-via-else-i-indices}
use Rattle.dh_size.proofs.paths.bank_at.Goals as goal

pub overflow_mul-bank : goal.overflow_mul-bank
overflow_mul-bank c =
    let path = path_of_number (loop_factors c.args.loops.now) c.args.number in
    let few = times_few c.args.dims.now c.loop-i.i (record { size = 0; banks = 0 }) c.requires.dims c.requires.few c.loop-i-test.true c.loop-i.auto.i c.args.typed.now c.args.loops.now path c.args.indices.now c.loop-i.count c.loop-i.bank c.loop-i.invariant.0 c.loop-i.invariant.1 (value_at c.args.typed.now c.args.loops.now path c.index-indices-i.result) in
    let fits : c.residue_at-residue.result * c.loop-i.count ≤ 64 = subst (λ (n : ℕ). n * c.loop-i.count ≤ 64) (sym c.residue_at-residue.ensures) few in
    omega (arith, fits)

pub overflow_add-bank : goal.overflow_add-bank
overflow_add-bank c =
    let path = path_of_number (loop_factors c.args.loops.now) c.args.number in
    let few = told_few c.args.dims.now c.loop-i.i (record { size = 0; banks = 0 }) c.requires.dims c.requires.few c.loop-i-test.true c.loop-i.auto.i c.args.typed.now c.args.loops.now path c.args.indices.now c.loop-i.count c.loop-i.bank c.loop-i.invariant.0 c.loop-i.invariant.1 (value_at c.args.typed.now c.args.loops.now path c.index-indices-i.result) in
    let fits : c.residue_at-residue.result * c.loop-i.count + c.loop-i.bank < 64 + 1 = subst (λ (n : ℕ). n * c.loop-i.count + c.loop-i.bank < 64 + 1) (sym c.residue_at-residue.ensures) few in
    omega (arith, fits)

pub overflow_mul-count : goal.overflow_mul-count
overflow_mul-count c =
    let few = banks_few c.args.dims.now c.loop-i.i (record { size = 0; banks = 0 }) c.requires.dims c.requires.few c.loop-i-test.true c.loop-i.auto.i c.loop-i.count c.loop-i.invariant.0 in
    omega (arith, few)

pub loop-i-preserved : goal.loop-i-preserved
loop-i-preserved c = (
  banks_more c.args.dims.now c.loop-i.i (record { size = 0; banks = 0 }) c.requires.dims c.requires.few c.loop-i-test.true c.loop-i.auto.i c.loop-i.count c.loop-i.invariant.0,
  elim c.if-i-indices.branch [
    | then-i-indices+then-banks-gt1 w ↦
        told_more c.args.dims.now c.loop-i.i (record { size = 0; banks = 0 }) c.requires.dims c.requires.few c.loop-i-test.true c.loop-i.auto.i c.args.typed.now c.args.loops.now (path_of_number (loop_factors c.args.loops.now) c.args.number) c.args.indices.now c.loop-i.count c.loop-i.bank c.loop-i.invariant.0 c.loop-i.invariant.1
        w.index-indices-i.result w.residue_at-residue.result c.if-i-indices.bank w.if-i-indices.true w.index-indices-i.is w.residue_at-residue.ensures w.bank-is
    | else-i-indices w ↦ elim w.else-i-indices.branch [
      | else-i-indices-via-then-i-indices+else-banks-gt1 v ↦
          told_one c.args.dims.now c.loop-i.i (record { size = 0; banks = 0 }) c.requires.dims c.requires.few c.loop-i-test.true c.loop-i.auto.i c.args.typed.now c.args.loops.now (path_of_number (loop_factors c.args.loops.now) c.args.number) c.args.indices.now c.loop-i.count c.loop-i.bank c.loop-i.invariant.0 c.loop-i.invariant.1 c.if-i-indices.bank v.if-i-indices.true v.if-banks-gt1.false w.bank-is
      | else-i-indices-via-else-i-indices v ↦
          told_same c.args.dims.now c.loop-i.i (record { size = 0; banks = 0 }) c.requires.dims c.requires.few c.loop-i-test.true c.loop-i.auto.i c.args.typed.now c.args.loops.now (path_of_number (loop_factors c.args.loops.now) c.args.number) c.args.indices.now c.loop-i.count c.loop-i.bank c.loop-i.invariant.0 c.loop-i.invariant.1 c.if-i-indices.bank v.if-i-indices.false w.bank-is
    ]
  ],
)
