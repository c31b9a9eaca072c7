use Rattle.std.proofs.Common.{◌≡◌, ◌≤◌, refl, arith}
use Rattle.dh_tree.specs.Elements.{banks_of}
use Rattle.dh_tree.specs.Tables.{most_elements}
use Rattle.dh_extents.proofs.DimSizes.{banks_some}
use Rattle.dh_net.proofs.TableCounts.{counting_starts, counting_goes, counting_stops, counted}
use Rattle.dh_net.proofs.tables.has_few_banks.Goals as goal

pub loop-dim-init : goal.loop-dim-init
loop-dim-init c = record { counts = counting_starts banks_of c.args.dims.now c.requires; within = omega arith }

pub returns-in-None : goal.returns-in-None
returns-in-None c =
    let most : c.greatest.result ≡ 64 = c.greatest.ensures in
    let above = counting_stops banks_of (λ d. d.banks) (λ d ds. refl) (λ d h. h.banks) banks_some c.args.dims.now c.loop-dim.dim-index _ c.loop-dim-test.true c.loop-dim.count c.greatest.result c.in-None.ensures c.loop-dim.invariant.counts in
    (λ false_is. absurd (cc), λ few. absurd (omega (arith, most, above, few)))

pub loop-dim-preserved : goal.loop-dim-preserved
loop-dim-preserved c =
    let most : c.greatest.result ≡ 64 = c.greatest.ensures in
    let small = c.in-Some.ensures.1 in
    let cap : c.greatest.result ≤ most_elements = omega (arith, most) in
    record {
      counts = counting_goes banks_of (λ d. d.banks) (λ d ds. refl) (λ d h. h.banks) banks_some c.args.dims.now c.loop-dim.dim-index _ c.loop-dim-test.true c.loop-dim.count c.in-Some.product c.greatest.result cap c.in-Some.ensures.0 small c.loop-dim.invariant.counts;
      within = omega (arith, most, small);
    }

pub returns : goal.returns
returns c =
    let whole = counted banks_of c.args.dims.now c.loop-dim.dim-index c.loop-dim.count refl c.loop-dim-test.false c.loop-dim.invariant.counts in
    let within = c.loop-dim.invariant.within in
    (λ yes_it_is. omega (arith, whole, within), λ few. refl)
