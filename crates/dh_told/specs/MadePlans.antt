-- The plan of a program as it is made: the scene of the making, what the crates below tell of its lists, the phases that
-- were made, and the plan that they are put into.
use Rattle.std.specs.Prelude.{◌≡◌, ℕ, List, map}
use Rattle.std.specs.List.{AllByRecursion}
use Rattle.dh_tree.specs.declared.trees.programs.Tree.{Tree as Program}
use Rattle.dh_tree.specs.Memories.{table_of}
use Rattle.dh_tree.specs.Seen.{program_seen}
use Rattle.dh_tree.specs.ViewShapes.{IsViewMap}
use Rattle.dh_meaning.specs.Ways.{all_bindings_of, ways_of}
use Rattle.dh_ways.specs.Seen.{led_seen}
use Rattle.dh_events.specs.Scopes.{AreScopes}
use Rattle.dh_lengths.specs.SharedReads.{TellsShares}
use Rattle.dh_plan.specs.PlainPlans.{PlainPlan}
use Rattle.dh_plan.specs.SeenPlans.{nodes_seen, meets_seen}
use Rattle.dh_plan.specs.declared.plans.Meets.{Meets as Tree}
use Rattle.dh_accesses.specs.Met.{MeetsBody}
use Rattle.dh_code.specs.Declarations.{placing_of, slots_of}
use Rattle.dh_expressions.specs.declared.scenes.Scene.{Scene}
use Rattle.dh_expressions.specs.declared.scenes.Through.{Through}
use Rattle.dh_expressions.specs.ViewsTold.{TellsViews}
use Rattle.dh_gathering.specs.declared.making.Phased.{Phased}
use Rattle.dh_gathering.specs.ProgramMade.{IsPhased}

-- the registers of variables stand one behind the other, so many; ways, scopes and shared reads are the program's
pub record IsSceneMade (scene : Scene) (count : ℕ) : Type 0 where
  pub held : scene.held.now ≡ (placing_of (program_seen scene.program.now)).held
  pub count_is : count ≡ slots_of (program_seen scene.program.now)
  pub ways : map led_seen scene.ways.now ≡ ways_of (program_seen scene.program.now)
  pub scopes : AreScopes (all_bindings_of (program_seen scene.program.now)) scene.scopes.now
  pub shares : TellsShares (program_seen scene.program.now) scene.shares.now

-- the phases of a program are made in such a scene of it, in which accesses take this of views
pub record MakesPhases (t : Program) (through : List Through) (phased : Phased) : Type 0 where
  pub scene : Scene
  pub count : ℕ
  pub of : scene.program.now ≡ t
  pub through_is : scene.through.now ≡ through
  pub made : IsSceneMade scene count
  pub phased_is : IsPhased scene count (program_seen scene.program.now).body phased

-- A plan that is made of these phases, with the program's memories, the views of which the scene tells, and which of its
-- accesses may meet.
pub record IsMadePlan (scene : Scene) (phased : Phased) (plan : PlainPlan) : Type 0 where
  pub table : plan.table ≡ table_of (program_seen scene.program.now)
  pub views : TellsViews scene plan.views
  pub maps : AllByRecursion IsViewMap plan.views
  pub registers : plan.registers ≡ phased.registers
  pub blocks : plan.blocks ≡ phased.blocks
  pub body : plan.body ≡ nodes_seen phased.nodes.items
  pub faults : plan.faults ≡ phased.faults
  pub tree : Tree
  pub meets : plan.meets ≡ meets_seen tree
  pub met : MeetsBody (program_seen scene.program.now).body tree
