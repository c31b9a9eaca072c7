-- What is put down for the commands of a ready program's block suits, as what is asked of it by kinds: names have
-- registers of their kinds, operands suit, accesses have their sites. Stated for a block whose sites tell where the
-- accesses of its commands stand.
use Rattle.std.specs.Prelude.{◌≡◌, ℕ, ◌<◌, Bool, List, slice_get, Some, None}
use Rattle.std.specs.List.{AllByRecursion}
use Rattle.dh_value.specs.declared.kinds.Kind.{Kind}
use Rattle.dh_value.specs.Words.{IsInteger}
use Rattle.dh_tree.specs.declared.tables.MemEntry.{MemEntry}
use Rattle.dh_tree.specs.declared.trees.expressions.Ref.{Ref}
use Rattle.dh_tree.specs.Elements.{dims_at}
use Rattle.dh_tree.specs.Memories.{table_of}
use Rattle.dh_tree.specs.PlainTrees.{Term}
use Rattle.dh_tree.specs.Seen.{program_seen}
use Rattle.dh_tree.specs.Shapes.{IsProgramTable}
use Rattle.dh_tree.specs.ViewShapes.{IsViewMap}
use Rattle.dh_meaning.specs.Bindings.{binding_in, kind_bound}
use Rattle.dh_meaning.specs.CoreOf.{memory_of, way_of}
use Rattle.dh_meaning.specs.Paths.{copies_in}
use Rattle.dh_meaning.specs.Phases.{Located}
use Rattle.dh_meaning.specs.Ways.{Hidden, Way}
use Rattle.dh_ways.specs.Leading.{KeepsOffsets, StepsLead, next_dims}
use Rattle.dh_sound.specs.SameKeys.{IsNoIterator}
use Rattle.dh_plan.specs.Correspondence.{Round}
use Rattle.dh_code.specs.Slots.{held_at}
use Rattle.dh_expressions.specs.declared.scenes.Around.{Around}
use Rattle.dh_expressions.specs.declared.scenes.Scene.{Scene}
use Rattle.dh_expressions.specs.Evaluated.{counter_of, known_in}
use Rattle.dh_expressions.specs.ViewsTold.{TellsViews}
use Rattle.dh_formed.specs.Formed.{FormedBlock, SharesMemory, BlockSite, TermSuits}
use Rattle.dh_commands.specs.LanesRun.{lane_of, paths_counted}
use Rattle.dh_commands.specs.ShownVariables.{IsSeen, level_factors}
use Rattle.dh_blocks.specs.NamedVariables.{IsNamedHere}
use Rattle.dh_blocks.specs.PathsOfLevels.{AreSpread}
use Rattle.dh_blocks.specs.SlotsOfScene.{HoldsVariables}
use Rattle.dh_blocks.specs.SoundCommands.{SoundAction}
use Rattle.dh_blocks.specs.SoundTerms.{IsSound}
use Rattle.dh_laid.specs.BlockSites.{HasSites, term_sites}
use Rattle.dh_typed_blocks.specs.TypedTerms.{ActionTyped, IsTyped}

-- a read of the block shares a read of the block alone, of the same memory
abbrev pub KeepsShares : FormedBlock → Scene → Type 0
KeepsShares x scene = (number earlier : ℕ) (s : BlockSite) → x.sites number ≡ Some s → slice_get scene.shares.now number ≡ Some (Some earlier) → SharesMemory x s.memory earlier

-- A way leads from what is named to the memory, through views that each take their own offsets, and its variables keep as
-- many, of integer kinds.
pub record WayHere (table : List MemEntry) (memory : ℕ) (w : Way) : Type 0 where
  pub own : IsViewMap w.is
  pub steps : StepsLead w.steps (dims_at table memory)
  pub first : next_dims w.steps (dims_at table memory) ≡ w.is.shape.dims
  pub keeps : KeepsOffsets w
  pub integers : AllByRecursion (λ (h : Hidden). IsInteger h.kind) w.hidden

-- Where a block stands: variables have registers of the plan, so many, the paths are those inside loops one in the other,
-- variables are held with the kinds of their declarations, iterators alone have counters, ways lead to memories through
-- views of the plan, and reads share within the block.
pub record StandsSo (x : FormedBlock) (scene : Scene) (count : ℕ) (around : Around) : Type 0 where
  pub holds : HoldsVariables scene x.plan count
  pub table : IsProgramTable (table_of (program_seen scene.program.now))
  pub spread : AreSpread around.levels.now
  pub counted : paths_counted around ≡ copies_in (level_factors around.levels.now)
  pub some : 0 < paths_counted around
  pub kinds : (entity : ℕ) → (held_at scene.held.now entity).kind ≡ kind_bound (binding_in (known_in scene).bindings entity)
  pub plain : (entity : ℕ) → IsNoIterator (binding_in (known_in scene).bindings entity) → counter_of scene entity ≡ None
  pub views : TellsViews scene x.plan.views
  pub ways : (r : Ref) (w : Way) → way_of (known_in scene) r ≡ Some w → WayHere (table_of (program_seen scene.program.now)) (memory_of (known_in scene) r) w
  pub shares : KeepsShares x scene

-- Names.

-- what is known of names in a block: variables that are seen, and iterators of loops round it
abbrev pub NamedHere : FormedBlock → Scene → Around → List Round → (touched : ℕ → Bool) → Ref → Kind → Type 0
NamedHere x scene around rounds touched r k = IsNamedHere scene around.levels.now x.plan.registers rounds touched r k

-- Terms.

-- an expression that is sound and typed suits at each path
abbrev pub TermsSuitBlocks : Type 0
TermsSuitBlocks =
    (x : FormedBlock) (scene : Scene) (count : ℕ) (around : Around) (rounds : List Round) (touched : ℕ → Bool) → StandsSo x scene count around
    → (first : ℕ) (t : Term) → IsSound (known_in scene) (table_of (program_seen scene.program.now)) (NamedHere x scene around rounds touched) t
    → IsTyped (known_in scene) (table_of (program_seen scene.program.now)) t → HasSites x.sites first (term_sites scene around t)
    → (n : ℕ) → n < paths_counted around → TermSuits x scene (lane_of around n) first t

-- Commands.

-- a command that is sound and typed, whose sites are the block's
pub record FitsBlock (x : FormedBlock) (scene : Scene) (around : Around) (rounds : List Round) (c : Located) : Type 0 where
  pub touched : ℕ → Bool
  pub sound : SoundAction scene around.levels.now (table_of (program_seen scene.program.now)) (NamedHere x scene around rounds touched) (IsSeen scene around.levels.now) c.command
  pub typed : ActionTyped (known_in scene) (table_of (program_seen scene.program.now)) c.command
