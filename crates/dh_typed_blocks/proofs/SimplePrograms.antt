-- The blocks of a ready program are simple.
use Rattle.std.proofs.Common.{◌⊎◌, inl, inr}
use Rattle.dh_tree.specs.Forms.{unbuilt_functions}
use Rattle.dh_tree.specs.PlainTrees.{Program}
use Rattle.dh_tree.specs.Ready.{IsReady}
use Rattle.dh_tree.proofs.EmptyLists.{second_none}
use Rattle.dh_sound.specs.BlocksOfPhases.{OfTest}
use Rattle.dh_sound.specs.SimpleForms.{FoldsInJoins}
use Rattle.dh_sound.proofs.JoinsKept.{joins_kept}
use Rattle.dh_typed_blocks.specs.SimpleBlocks.{StraightSimple, BlocksAreSimple}
use Rattle.dh_typed_blocks.proofs.BlocksHolding.{StraightHolds, TestHolds, block_holds}
use Rattle.dh_typed_blocks.proofs.SimpleParts.{Simple, Joins, groups_simple, other_simple, joins_folds, is_fold, all_simple}

pub body_simple : (p : Program) → IsReady p → FoldsInJoins p.body
body_simple p ready = joins_kept p (second_none (unbuilt_functions p.functions) _ ready.built) ready.placements

pub blocks_simple : (p : Program) → IsReady p → BlocksAreSimple p
blocks_simple p ready loops block s =
    by (block_holds p Simple Joins is_fold ready
    (λ d id place body h. groups_simple d body h)
    (λ d id place test chosen other h. (h.0, other_simple d other h.1))
    (λ d id place test body h. h)
    (λ d id place iterator declared low high factor body combine combine_place h. (h.0, joins_folds _ combine h.1))
    (body_simple p ready) loops block s)
  where
    by : StraightHolds p Simple Joins loops block ⊎ TestHolds p Simple Joins loops block → StraightSimple p loops block ⊎ OfTest p loops block
    by (inl h) = inl (record { of = h.of; joins = all_simple loops h.of.done h.holds })
    by (inr h) = inr h.of
