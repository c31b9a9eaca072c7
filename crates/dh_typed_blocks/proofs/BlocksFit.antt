-- Each block of a ready program is of straight commands that are simple and fit, in the loops round it, and behind them of
-- reducers that fit; or of a test that fits.
use Rattle.std.proofs.Common.{◌≡◌, ◌⊎◌, ℕ, Option, List, [], ◌++◌, refl}
use Rattle.dh_base.specs.declared.places.Place.{Place}
use Rattle.dh_value.specs.declared.kinds.Kind.{Kind}
use Rattle.dh_tree.specs.declared.trees.expressions.Ref.{Ref}
use Rattle.dh_tree.specs.PlainTrees.{Placed, Unrolled, Term, Action, action, ActionForm, blocks, decides, repeats, counts, MaybeAction, Groups, Program}
use Rattle.dh_tree.specs.Ready.{IsReady}
use Rattle.dh_meaning.specs.Core.{Turning}
use Rattle.dh_meaning.specs.CoreOf.{Known, known_of, core_commands, core_of, core_test}
use Rattle.dh_meaning.specs.Effects.{Block, commands, tests}
use Rattle.dh_meaning.specs.Phases.{Located, phases_of, turn_count}
use Rattle.dh_sound.specs.AssignsInside.{AssignsInside}
use Rattle.dh_sound.specs.Blocks.{StandsIn}
use Rattle.dh_sound.specs.LoopsMatch.{unrolled_loops, EachMatches}
use Rattle.dh_sound.specs.PhaseFacts.{HasStraight, HasTest}
use Rattle.dh_sound.proofs.LoopsMatch.{EachInside, ListInside}
use Rattle.dh_code.specs.Declarations.{placing_of}
use Rattle.dh_typed_blocks.proofs.BlocksHolding.{StraightHolds, TestHolds, block_holds, program_inside, program_split, straight_of, tested_of}
use Rattle.dh_typed_blocks.specs.PlainPrograms.{AreFewMemories, AssignsPlain}
use Rattle.dh_typed_blocks.proofs.FittingParts.{SimpleFits, JoinFits, groups_parts, other_parts, joins_parts, is_join}
use Rattle.dh_typed_blocks.proofs.PhasesHolding.{EachGroup, IsSplit, ListSplit, OfOther, OtherOnlyFolds, inside}
use Rattle.dh_typed_blocks.proofs.ProgramsFit.{ready_fits}
use Rattle.dh_typed_blocks.proofs.SimplePrograms.{body_simple}

module _ (p : Program) (ready : IsReady p) (few : AreFewMemories (known_of p)) (assigned : AssignsInside (known_of p) 0 p.body) (plain : AssignsPlain (known_of p) p.body) where
  abbrev known : Known
  known = known_of p

  abbrev pub Simple : List Turning → Action → Type 0
  Simple = SimpleFits (known_of p) (placing_of p)

  abbrev pub Joins : List Turning → ActionForm → Type 0
  Joins = JoinFits (known_of p) (placing_of p)

  of_blocks : (d : List Turning) (id : ℕ) (place : Place) (body : Groups) → Simple d (action id place (blocks body)) → EachGroup Simple d body
  of_blocks d id place body h = groups_parts known (placing_of p) d body h.0 h.1

  of_choices : (d : List Turning) (id : ℕ) (place : Place) (test : Term) (chosen : Action) (other : MaybeAction) → Simple d (action id place (decides test chosen other)) → Simple d chosen × OfOther Simple d other
  of_choices d id place test chosen other h = ((h.0.0, h.1.1.0), other_parts known (placing_of p) d other h.0.1 h.1.1.1)

  of_repeats : (d : List Turning) (id : ℕ) (place : Place) (test : Term) (body : Action) → Simple d (action id place (repeats test body)) → Simple d body
  of_repeats d id place test body h = (h.0, h.1.1)

  of_counts : (d : List Turning) (id : ℕ) (place : Place) (iterator : Ref) (declared : Option Kind) (low high : Placed) (factor : Unrolled) (body : Action) (combine : MaybeAction) (combine_place : Place)
      → Simple d (action id place (counts iterator declared low high factor body combine combine_place))
      → Simple (inside known Simple Joins d (turn_count low.value high.value factor.value) (counts iterator declared low high factor body combine combine_place)) body
      × OtherOnlyFolds Joins (inside known Simple Joins d (turn_count low.value high.value factor.value) (counts iterator declared low high factor body combine combine_place)) combine
  of_counts d id place iterator declared low high factor body combine combine_place h = ((h.0.0, h.1.0), joins_parts known (placing_of p) _ combine h.0.1 h.1.1)

  holds : Simple [] p.body
  holds = (body_simple p ready, ready_fits p ready few assigned plain)

  pub block_fits : (loops : List Turning) (block : Block) → StandsIn [] (core_of p).phases loops block → StraightHolds p Simple Joins loops block ⊎ TestHolds p Simple Joins loops block
  block_fits loops block s = block_holds p Simple Joins (is_join known (placing_of p)) ready of_blocks of_choices of_repeats of_counts holds loops block s

  -- the phases of the body as they are split, and each that stands in some loops
  pub phases_fit : ListSplit known Simple Joins [] (phases_of p)
  phases_fit = program_split p Simple Joins (is_join known (placing_of p)) ready of_blocks of_choices of_repeats of_counts holds

  pub phases_inside : ListInside known [] (phases_of p)
  phases_inside = program_inside p Simple Joins (is_join known (placing_of p)) ready of_blocks of_choices of_repeats of_counts holds

  pub straight_fits : (loops : List Turning) (cs : List Located) → HasStraight (phases_of p) cs → EachInside known (unrolled_loops loops) cs → IsSplit known Simple Joins loops cs
      → (f : StraightHolds p Simple Joins loops (commands (core_commands known cs))) × (cs ≡ f.of.done ++ f.of.folds)
  straight_fits loops cs has matched split = straight_of p Simple Joins (is_join known (placing_of p)) ready of_blocks of_choices of_repeats of_counts holds loops (commands (core_commands known cs)) cs refl has matched split

  pub tested_fits : (loops : List Turning) (c : Located) → HasTest (phases_of p) c → EachMatches known (unrolled_loops loops) c.around.loops → Simple loops c.command → (f : TestHolds p Simple Joins loops (tests (core_test known c))) × (f.of.tested ≡ c)
  tested_fits loops c has matched h = tested_of p Simple Joins (is_join known (placing_of p)) ready of_blocks of_choices of_repeats of_counts holds loops (tests (core_test known c)) c refl has matched h
