use Rattle.dh_ports.proofs.SharedSteps.{numbers_few}
use Rattle.dh_ports.proofs.sharing.read_step.Goals as goal

pub returns-in_ok-slot-in-Some-clause-few : goal.returns-in_ok-slot-in-Some-clause-few
returns-in_ok-slot-in-Some-clause-few c = numbers_few c.args.classes.now c.number.new.self c.in-Some.key c.in_ok-slot-in-Some.slot c.len.ensures.distinct c.in_ok-slot-in-Some.ensures.numbers
