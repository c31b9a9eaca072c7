use Rattle.std.proofs.Common.{List, ap, sym, subst, None}
use denote.Ref.{Bor}
use Rattle.dh_tree.specs.declared.trees.commands.Command.{Command}
use Rattle.dh_meaning.specs.Core.{no_commands}
use Rattle.dh_meaning.specs.CoreOf.{core_commands}
use Rattle.dh_meaning.specs.Phases.{Located}
use Rattle.dh_code.specs.Flattening.{IsInFront, known_by_names, table_in}
use Rattle.dh_code.specs.Suited.{CanDoAll}
use Rattle.dh_code.proofs.CommandsFlattened.{commands_begin, commands_turn}
use Rattle.dh_code.proofs.Ranges.{drop_none}
use Rattle.dh_code.proofs.flattening.flatten_commands.Goals as goal

pub loop-i-init : goal.loop-i-init
loop-i-init c = commands_begin c.args.names.now c.args.code.now c.args.commands.now

pub loop-i-preserved : goal.loop-i-preserved
loop-i-preserved c = commands_turn c.args.names.now c.args.code.now c.loop-i.code c.flatten_command.new.code c.args.commands.now c.loop-i.i c.index-commands-i.result c.index-commands-i.result.now c.loop-i.first c.in_ok-first.first c.loop-i-test.true c.loop-i.auto.i (ap (λ (b : Bor Command). b.now) c.index-commands-i.is) c.in_ok-first.ensures c.loop-i.invariant

pub returns : goal.returns
returns c = λ p loops ls same placing can.
    let all = drop_none ls c.loop-i.i c.loop-i-test.false in
    subst (λ (l : List Located). IsInFront c.args.names.now c.args.code.now c.loop-i.code c.loop-i.first None (core_commands (known_by_names c.args.names.now) l) no_commands) all
    (c.loop-i.invariant.so p loops ls same placing (subst (λ (l : List Located). CanDoAll (table_in c.args.names.now) p loops (core_commands (known_by_names c.args.names.now) l)) (sym all) can))
