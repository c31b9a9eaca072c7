use Rattle.dh_gathering.proofs.BlocksPut.{commands_turn}
use Rattle.dh_gathering.proofs.blocks.push_commands.Goals as goal

pub loop-numbered-preserved : goal.loop-numbered-preserved
loop-numbered-preserved c =
    commands_turn c.args.scene.now c.args.around c.args.commands.now c.loop-numbered.numbered-index c.in_ok-push_command.field-0 c.args.building.now c.loop-numbered.building c.push_command.new.building c.numbered-item.result
    c.loop-numbered-test.true c.numbered-item.is (c.in_ok-push_command.ensures.means, c.in_ok-push_command.ensures.made) c.loop-numbered.invariant
