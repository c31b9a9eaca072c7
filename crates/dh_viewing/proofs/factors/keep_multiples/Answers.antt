use Rattle.std.proofs.Common.{ℕ, List, Option, true, ap, ◌∙◌, get_or, arith}
use Rattle.std.specs.Prelude.{slice_get}
use Rattle.dh_base.specs.declared.places.Place.{Place}
use Rattle.dh_tree.specs.LeastBreach.{least_of}
use Rattle.dh_tree.specs.ViewFactors.{factors_breaches}
use Rattle.dh_viewing.specs.Finding.{factor_broken_at, factors_paired}
use Rattle.dh_viewing.proofs.PairedFactors.{paired_factors}
use Rattle.dh_viewing.proofs.ViewsFound.{factors_next, factors_end}
use Rattle.dh_viewing.proofs.factors.keep_multiples.Goals as goal

pub loop-i-preserved : goal.loop-i-preserved
loop-i-preserved c =
    factors_next true c.args.parent (factors_paired c.args.by.now) c.args.places.now c.args.dims.now c.loop-i.i (record { size = 0; banks = 0 }) c.args.kept.now c.loop-i.kept c.keep_factor.new.kept c.loop-i-test.true
    (c.keep_factor.ensures
    ∙ (ap (λ (o : Option ℕ). least_of c.loop-i.kept (factor_broken_at true o c.place_at-place.result (get_or c.args.dims.now c.loop-i.i (record { size = 0; banks = 0 })))) c.multiple_at-factor.ensures
    ∙ ap (λ (p : Place). least_of c.loop-i.kept (factor_broken_at true (slice_get (factors_paired c.args.by.now) c.loop-i.i) p (get_or c.args.dims.now c.loop-i.i (record { size = 0; banks = 0 })))) c.place_at-place.ensures)) c.loop-i.invariant

pub returns : goal.returns
returns c =
    factors_end true c.args.parent (factors_paired c.args.by.now) c.args.places.now c.args.dims.now c.loop-i.i c.args.kept.now c.loop-i.kept (let l = c.loop-i-test.false in let m = c.loop-i.auto.i-end in omega (arith, l, m)) c.loop-i.invariant
    ∙ ap (λ (ks : List ℕ). least_of c.args.kept.now (factors_breaches true c.args.parent ks c.args.places.now c.args.dims.now)) (paired_factors c.args.by.now)
