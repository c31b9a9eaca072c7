use Rattle.std.proofs.Common.{◌≡◌, ◌<◌, ℕ, List, length, ap, sym, subst, ◌∙◌, arith}
use Rattle.dh_ports.specs.declared.carrying.Carrier.{Carrier}
use Rattle.dh_ports.specs.CarriersMade.{AreMadeCarriers}
use Rattle.dh_ports.proofs.CarrierMade.{each_done, made_more, made_none}
use Rattle.dh_ports.proofs.leading.carriers_of.Goals as goal

pub loop-place-init : goal.loop-place-init
loop-place-init c = made_none c.args.ways.now c.new-each.result.items c.new-each.ensures.items

pub carrier_at-requires : goal.carrier_at-requires
carrier_at-requires c =
    let long : length c.as_slice.result.now ≡ c.loop-place.place = ap (λ (cs : List Carrier). length cs) c.as_slice.ensures.value ∙ c.loop-place.invariant.0 in
    record {
      there = subst (λ (n : ℕ). c.loop-place.place < n) c.len-place-end.ensures c.loop-place-test.true;
      follow = c.requires;
      many = omega (arith, long);
      made = subst (λ (cs : List Carrier). AreMadeCarriers c.args.ways.now cs) (sym c.as_slice.ensures.value) c.loop-place.invariant.1;
    }

pub loop-place-preserved : goal.loop-place-preserved
loop-place-preserved c = made_more c.args.ways.now c.loop-place.each.items c.push.new.self.items c.loop-place.place c.in_ok-carrier.carrier c.loop-place.invariant c.in_ok-carrier.ensures c.in_ok-push.ensures.items

pub returns : goal.returns
returns c = each_done c.args.ways.now c.loop-place.each.items c.loop-place.place c.len-place-end.result c.len-place-end.ensures c.loop-place-test.false c.loop-place.auto.place-end c.requires c.loop-place.invariant
