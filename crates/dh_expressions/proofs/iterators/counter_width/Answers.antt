use Rattle.std.proofs.Common.{◌≡◌, ℕ, ◌+◌, sym, ap, ◌∙◌, subst, arith}
use Rattle.dh_expressions.specs.Multiples.{width_told}
use Rattle.dh_expressions.proofs.CounterWidths.{WidthSoFar, width_first, width_last, width_more}
use Rattle.dh_expressions.proofs.iterators.counter_width.Goals as goal

pub loop-bits-init : goal.loop-bits-init
loop-bits-init c = width_first c.args.count

pub loop-bits-preserved : goal.loop-bits-preserved
loop-bits-preserved c =
    subst (λ (w : ℕ). WidthSoFar c.args.count (c.loop-bits.bits + 1) w)
    (sym (c.width_with-width.ensures c.loop-bits-test.true ∙ ap (λ l. width_told l c.loop-bits.bits c.loop-bits.width) c.saturating_sub-last.ensures))
    (width_more c.args.count c.loop-bits.bits c.loop-bits.width c.loop-bits.invariant c.loop-bits.auto.bits)

pub returns : goal.returns
returns c =
    let end : c.loop-bits.bits ≡ 64 = let l = c.loop-bits-test.false in let e = c.loop-bits.auto.bits-end (omega arith) in omega (arith, l, e) in
    width_last c.args.count c.loop-bits.width c.ranges.count.fits (subst (λ (b : ℕ). WidthSoFar c.args.count b c.loop-bits.width) end c.loop-bits.invariant)
