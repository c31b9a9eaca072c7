use Rattle.std.proofs.Common.{ℕ, ◌<◌, Bool, true, length, get_or, subst, arith}
use Rattle.dh_base.proofs.ListItems.{at_item}
use Rattle.dh_plan.specs.LegalSchedules.{products_at}
use Rattle.dh_sched.specs.Sorts.{CountsProduct, count_in}
use Rattle.dh_sched.proofs.Rests.{number_at}
use Rattle.dh_sched.proofs.CountedProducts.{counted_turn}
use Rattle.dh_sched.proofs.counting.products_are_kept.Goals as goal

pub loop-i-preserved : goal.loop-i-preserved
loop-i-preserved c =
    let os = c.args.operations.now in
    let cs = c.args.clocks.now in
    let i = c.loop-i.i in
    let there : i < length cs = omega (arith, c.requires, c.loop-i-test.true) in
    let P : Bool → Type 0 =
    λ b. CountsProduct c.index-operations-i.result (count_in c.loop-i.counts) (count_in c.count_product.new.counts) (get_or cs i 0) c.args.limit b in
    let counts : P true = subst P c.if-not-branch.false c.in_ok-count_product.ensures in
    record {
      so_far = counted_turn os cs i (get_or cs i 0) c.args.limit c.index-operations-i.result (count_in c.loop-i.counts) (count_in c.count_product.new.counts)
          (λ (clock : ℕ). products_at clock os cs) (at_item os i c.index-operations-i.result c.loop-i-test.true c.index-operations-i.is) (number_at cs i there)
          counts c.loop-i.invariant.so_far;
      few = λ clock. counts.0 clock (c.loop-i.invariant.few clock);
    }
