use Rattle.dh_control.proofs.SetsMoved.{set_added}
use Rattle.dh_control.proofs.setting.push_set.Goals as goal

pub returns-in_ok-push-in-Set : goal.returns-in_ok-push-in-Set
returns-in_ok-push-in-Set c =
    set_added c.args.circuit.now c.push_guard.new.circuit c.args.widths.now c.args.commit c.args.wires.now c.args.operation.now c.in-Set.register c.in-Set.value c.in_ok-test-in-Set.test c.args.moves.now c.push.new.self
    c.in-Set.is c.requires.suits c.in_ok-test-in-Set.ensures c.in_ok-push-in-Set.ensures
