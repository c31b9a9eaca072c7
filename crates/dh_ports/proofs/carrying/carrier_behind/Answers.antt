use Rattle.std.proofs.Common.{ℕ, List, subst}
use Rattle.dh_ports.specs.CarriersMade.{IsCarrierOn}
use Rattle.dh_ports.proofs.carrying.carrier_behind.Goals as goal

pub returns : goal.returns
returns c = subst (λ (behind : List ℕ). IsCarrierOn c.args.view.now c.args.parent.now.evenly behind c.in_ok-carrier.carrier) c.as_slice.ensures.value c.in_ok-carrier.ensures
