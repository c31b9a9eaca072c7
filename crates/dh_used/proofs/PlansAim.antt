-- Plans name elements of accesses of the source as these do: each of their blocks is that of a node, and what was put down for
-- it stays in the one list of all operations.
use Rattle.std.proofs.Common.{◌≡◌, ◌⊎◌, inl, inr, ◌<◌, ◌+◌, ℕ, List, [], ◌++◌, Option, Some, None, length, refl, ap, sym, ◌∙◌, subst, append_assoc}
use Rattle.std.specs.Prelude.{drop, slice_get}
use Rattle.std.proofs.Math.Seq.{drop-append_seam}
use Rattle.dh_tree.specs.Seen.{program_seen}
use Rattle.dh_meaning.specs.Core.{CoreCommands, CoreTerm}
use Rattle.dh_meaning.specs.CoreOf.{core_of}
use Rattle.dh_meaning.specs.OnePhase.{any_makes}
use Rattle.dh_plan.specs.declared.operations.Operation.{Operation}
use Rattle.dh_plan.specs.declared.operations.PlanBlock.{PlanBlock}
use Rattle.dh_plan.specs.declared.operations.Reach.{Reach}
use Rattle.dh_plan.specs.Correspondence.{Round}
use Rattle.dh_plan.specs.PlainPlans.{PlainPlan, block_operations, operations_in}
use Rattle.dh_plan.specs.SoundPlans.{access_in, blocks_of}
use Rattle.dh_expressions.specs.declared.drafts.Draft.{Draft}
use Rattle.dh_expressions.specs.declared.scenes.Scene.{Scene}
use Rattle.dh_expressions.specs.Drafted.{Extends}
use Rattle.dh_expressions.proofs.ListPlaces.{place_within}
use Rattle.dh_expressions.proofs.Pushing.{in_front}
use Rattle.dh_commands.specs.LanesRun.{paths_counted}
use Rattle.dh_laid.proofs.FaultsOwn.{each_place, in_either}
use Rattle.dh_gathering.specs.MadeBlocks.{IsStraightBlock, IsTestBlock, made_tie}
use Rattle.dh_charged.specs.ChargedBlocks.{IsCutFrom}
use Rattle.dh_used.specs.SourceAims.{IsAimed, MadePlansAim}
use Rattle.dh_used.specs.UsedBlocks.{EndsQuietly}
use Rattle.dh_used.proofs.AimsAdded.{AddsAims, aimed_stays}
use Rattle.dh_used.proofs.BlocksByKeys.{some_paths}
use Rattle.dh_used.proofs.CommandsAim.{blocks_aim, straights_among, test_aims, test_among}
use Rattle.dh_used.proofs.NodesMade.{straight_along, straight_has, straight_own, straight_quiet, straight_stands, test_has, test_own, test_quiet}
use Rattle.dh_used.proofs.NodesReach.{listed_holds, nodes_each}

-- each access of a block names its element so
abbrev BlockAims : Scene → List Operation → PlainPlan → (block : ℕ) → Type 0
BlockAims scene os plan block = (i : ℕ) (o : Operation) (r : Reach) → slice_get (operations_in plan block) i ≡ Some o → access_in o.form ≡ Some r → IsAimed scene os r

-- what was put down, and what ends the block
own_aims : (scene : Scene) (plan : PlainPlan) (block : ℕ) (old new end final : Draft) → AddsAims scene old new → IsCutFrom plan block old end → EndsQuietly new end → Extends end final → BlockAims scene final.operations.items plan block
own_aims scene plan block old new end final aims own ends kept i o r at is = by (in_either aims.more ends.more i o (sym (ap (λ (os : List Operation). slice_get os i) are) ∙ at))
  where
    are : operations_in plan block ≡ aims.more ++ ends.more
    are =
        own
        ∙ (ap (λ (os : List Operation). drop (length old.operations.items) os) (ends.adds ∙ (ap (λ (os : List Operation). os ++ ends.more) aims.adds ∙ append_assoc old.operations.items aims.more ends.more))
        ∙ drop-append_seam old.operations.items (aims.more ++ ends.more))

    stays : (n : ℕ) (x : Operation) → slice_get new.operations.items n ≡ Some x → slice_get final.operations.items n ≡ Some x
    stays n x e = kept.operations n x (subst (λ (os : List Operation). slice_get os n ≡ Some x) (sym ends.adds) (in_front new.operations.items ends.more n x e))

    lost : None ≡ Some r → ⊥
    lost e = cc

    by : (slice_get aims.more i ≡ Some o) ⊎ ((j : ℕ) × (slice_get ends.more j ≡ Some o)) → IsAimed scene final.operations.items r
    by (inl there) = aimed_stays scene new.operations.items final.operations.items stays r (aims.each i o r there is)
    by (inr there) = absurd (lost (sym (each_place (λ (x : Operation). access_in x.form ≡ None) ends.more there.0 o ends.reach_none there.1) ∙ is))

pub made_plans_aim : MadePlansAim
made_plans_aim scene final plan is once block i r h = own i h.operation r h.there h.accesses
  where
    straight : (rounds : List Round) (cs : CoreCommands) (number : ℕ) → IsStraightBlock scene final rounds cs number → BlockAims scene final.building.draft.operations.items plan number
    straight rounds cs number b =
        own_aims scene plan number b.made.before.draft b.made.between.draft b.made.after.draft final.building.draft
        (blocks_aim scene b.made.around b.made.stands_in (some_paths scene b.made.around (λ k. any_makes k b.located) (straight_stands scene final plan is rounds cs number b)) b.located 0 b.made.before b.made.between b.made.made (straight_along scene final plan is rounds cs number b)
        (straights_among scene b.located (straight_has scene final plan is rounds cs number b)))
        (straight_own scene final plan is rounds cs number b) (straight_quiet scene final plan is rounds cs number b) b.made.stands.kept

    test : (rounds : List Round) (t : CoreTerm) (flag number : ℕ) → IsTestBlock scene final rounds t flag number → BlockAims scene final.building.draft.operations.items plan number
    test rounds t flag number b =
        own_aims scene plan number b.made.before.draft b.made.between.draft b.made.after.draft final.building.draft
        (test_aims scene b.made.around b.made.stands_in b.tested b.term b.term_is (test_among scene b.tested (test_has scene final plan is rounds t flag number b)) b.made.few (paths_counted b.made.around) b.made.before b.made.between b.made.next b.made.tests b.made.made)
        (test_own scene final plan is rounds t flag number b) (test_quiet scene final plan is rounds t flag number b) b.made.stands.kept

    within : block < length plan.blocks
    within = by (slice_get plan.blocks block) refl h.there
      where
        by : (o : Option PlanBlock) → slice_get plan.blocks block ≡ o → slice_get (block_operations o) i ≡ Some h.operation → block < length plan.blocks
        by None e k = absurd (never i k)
          where
            never : (i : ℕ) → slice_get (block_operations None) i ≡ Some h.operation → ⊥
            never i z = cc
        by (Some b) e k = place_within plan.blocks block b e

    own : BlockAims scene final.building.draft.operations.items plan block
    own =
        listed_holds (BlockAims scene final.building.draft.operations.items plan) block (blocks_of plan.body) (once block within)
        (nodes_each (made_tie scene final) (BlockAims scene final.building.draft.operations.items plan) straight test [] (core_of (program_seen scene.program.now)).phases plan.body is.nodes)
