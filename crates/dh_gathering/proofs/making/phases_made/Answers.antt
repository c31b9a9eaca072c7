use Rattle.std.proofs.Common.{refl, subst}
use Rattle.dh_tree.specs.Seen.{action_seen}
use Rattle.dh_gathering.specs.Cutting.{IsCutAtStarts}
use Rattle.dh_gathering.proofs.ProgramPhased.{makes_phased}
use Rattle.dh_gathering.proofs.making.phases_made.Goals as goal

pub returns : goal.returns
returns c =
    makes_phased c.args.scene.now c.args.count (action_seen c.args.body.now) c.in_ok-made.made c.nodes_in.new.made c.in_ok-variables.variables c.outside-paths.result c.in_ok-blocks.blocks _
    c.in_ok-variables.ensures c.in_ok-made.ensures c.outside-paths.ensures.levels c.outside-paths.ensures.count c.in_ok-nodes.ensures.made c.in_ok-nodes.ensures.once
    (subst (λ starts. IsCutAtStarts c.nodes_in.new.made.building.draft.operations.items starts c.in_ok-blocks.blocks) c.as_slice.ensures.value c.in_ok-blocks.ensures) refl refl refl
