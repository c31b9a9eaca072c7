use Rattle.std.proofs.Common.{sym, length}
use Rattle.std.proofs.lemmas.Bool.{ltb-true}
use Rattle.dh_code.proofs.Making.{made_one}
use Rattle.dh_code.proofs.running.make.Goals as goal

pub returns-in-Some : goal.returns-in-Some
returns-in-Some c = made_one c.args.memories.now.items c.args.write.memory c.set_element.new.values c.in-Some.values.now c.args.write.position c.args.write.bits (ltb-true c.args.write.memory (length c.args.memories.now.items) (sym c.in-Some.ensures.item.0)) c.in-Some.ensures.value c.set_element.ensures
