use Rattle.std.proofs.Common.{refl, arith}
use Rattle.dh_tree.specs.Seen.{term_seen}
use Rattle.dh_types.specs.Facts.{facts_seen}
use Rattle.dh_base.proofs.InPlace.{start, turn}
use Rattle.dh_types.proofs.Lists.{argument_step, argument_made, argument_turn, arguments_typed, arguments_kept}
use Rattle.dh_types.proofs.walks.type_arguments.Goals as goal

pub loop-argument-init : goal.loop-argument-init
loop-argument-init c = ((refl, λ k d past. refl), start term_seen (argument_step (facts_seen c.args.facts.now)) (argument_made (facts_seen c.args.facts.now)) _ _)

pub loop-argument-preserved : goal.loop-argument-preserved
loop-argument-preserved c =
    let fs = facts_seen c.args.facts.now in
    let made = argument_turn fs c.loop-argument.rest.now c.next_kind-kind.result.1.now c.loop-argument.kept c.keep_argument.new.kept c.next_kind-kind.result.0 c.for_numbers.result c.argument-item.result _ c.type_term.new.term
    c.argument-item.is c.next_kind-kind.ensures.first c.next_kind-kind.ensures.others c.for_numbers.ensures c.type_term.ensures c.keep_argument.ensures in
    turn term_seen (argument_step fs) (argument_made fs) c.deref_mut-argument-items.result.now c.loop-argument.argument-items c.loop-argument.argument-index (c.args.parameters.now, c.args.kept.now) (c.loop-argument.rest.now, c.loop-argument.kept) (c.next_kind-kind.result.1.now, c.keep_argument.new.kept)
    c.argument-item.result c.type_term.new.term
    (omega (arith, c.loop-argument-test.true, c.loop-argument.auto.argument-items)) c.loop-argument.invariant.0 c.loop-argument.invariant.1 c.argument-item.is made.0 made.1

pub returns-clause-tree : goal.returns-clause-tree
returns-clause-tree c =
    arguments_typed (facts_seen c.args.facts.now) c.args.parameters.now c.args.arguments.now c.deref_mut-argument-items.result.now c.loop-argument.argument-items c.loop-argument.argument-index c.args.kept.now (c.loop-argument.rest.now, c.loop-argument.kept)
    c.deref_mut-argument-items.ensures.value c.deref_mut-argument-items.ensures.len c.loop-argument-test.false c.loop-argument.invariant.0 c.loop-argument.invariant.1

pub returns-clause-least : goal.returns-clause-least
returns-clause-least c =
    arguments_kept (facts_seen c.args.facts.now) c.args.parameters.now c.args.arguments.now c.deref_mut-argument-items.result.now c.loop-argument.argument-items c.loop-argument.argument-index c.args.kept.now (c.loop-argument.rest.now, c.loop-argument.kept)
    c.deref_mut-argument-items.ensures.value c.deref_mut-argument-items.ensures.len c.loop-argument-test.false c.loop-argument.invariant.0 c.loop-argument.invariant.1
