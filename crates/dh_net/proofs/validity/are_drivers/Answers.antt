use Rattle.std.proofs.Common.{refl}
use Rattle.dh_net.proofs.PortWalks.{driver_passed, drivers_done}
use Rattle.dh_net.proofs.validity.are_drivers.Goals as goal

pub loop-driver-preserved : goal.loop-driver-preserved
loop-driver-preserved c =
    driver_passed c.args.cells.now c.args.port c.args.drivers.now c.loop-driver.driver-index _ c.loop-driver-test.true (c.is_driver.ensures.0 c.if-not-is_driver.false) c.loop-driver.invariant

pub returns : goal.returns
returns c = (λ yes_it_is. drivers_done c.args.cells.now c.args.port c.args.drivers.now c.loop-driver.driver-index c.loop-driver-test.false c.loop-driver.invariant, λ h. refl)
