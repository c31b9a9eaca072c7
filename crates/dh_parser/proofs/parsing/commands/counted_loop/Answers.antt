use Rattle.std.proofs.Common.{ap, ◌∙◌}
use Rattle.dh_tree.specs.declared.trees.commands.LoopHeader.{LoopHeader}
use Rattle.dh_tree.specs.PlainTrees.{action}
use Rattle.dh_tree.specs.Seen.{action_seen, counts_seen, maybe_block_seen}
use Rattle.dh_tree.proofs.SeenActions.{for_is}
use Rattle.dh_parser.proofs.parsing.commands.counted_loop.Goals as goal

pub returns : goal.returns
returns c =
    ap (λ f. action c.args.id c.args.head.place f)
    (for_is c.in_ok-held.held c.args.body c.args.combine
    ∙ ap (λ (h : LoopHeader). counts_seen h (action_seen c.args.body.value) (maybe_block_seen c.args.combine)) c.in_ok-held.ensures.ok)
