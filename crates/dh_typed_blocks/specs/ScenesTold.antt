-- What is asked of a scene, of the loops round a block and of a program, so that the commands of the block are sound: that the
-- scene is of the program, and that a register of the plan counts each loop.
use Rattle.std.specs.Prelude.{◌≡◌, ℕ, suc, List, length, map, take, slice_get, Some, None}
use Rattle.dh_value.specs.declared.kinds.Kind.{Kind}
use Rattle.dh_value.specs.declared.kinds.Kind.TheVariants.{Unsigned}
use Rattle.dh_tree.specs.declared.trees.counters.Counter.{Counter}
use Rattle.dh_tree.specs.Seen.{program_seen}
use Rattle.dh_meaning.specs.Bindings.{binding_in, kind_bound}
use Rattle.dh_meaning.specs.Phases.{turn_count}
use Rattle.dh_meaning.specs.Ways.{ways_of}
use Rattle.dh_plan.specs.Blocks.{kind_at}
use Rattle.dh_plan.specs.Correspondence.{Round}
use Rattle.dh_sound.specs.Blocks.{factors}
use Rattle.dh_sound.specs.SameKeys.{IsNoIterator}
use Rattle.dh_ways.specs.Seen.{led_seen}
use Rattle.dh_code.specs.Declarations.{placing_of}
use Rattle.dh_code.specs.Slots.{held_at}
use Rattle.dh_expressions.specs.declared.scenes.Scene.{Scene}
use Rattle.dh_expressions.specs.Evaluated.{counter_of, known_in}

-- the scene holds each variable with its kind and its depth, those that keep offsets among them, counters of iterators
-- alone, and the ways of the program's views
pub record TellsScene (scene : Scene) : Type 0 where
  pub long : length scene.held.now ≡ length (placing_of (program_seen scene.program.now)).held
  pub depth : (entity : ℕ) → (held_at scene.held.now entity).depth ≡ (held_at (placing_of (program_seen scene.program.now)).held entity).depth
  pub kind : (entity : ℕ) → (held_at scene.held.now entity).kind ≡ kind_bound (binding_in (known_in scene).bindings entity)
  pub plain : (entity : ℕ) → IsNoIterator (binding_in (known_in scene).bindings entity) → counter_of scene entity ≡ None
  pub ways : map led_seen scene.ways.now ≡ ways_of (program_seen scene.program.now)

-- a loop round a block, the last of so many
pub record IsRoundTold (scene : Scene) (kinds : List Kind) (rounds : List Round) (index : ℕ) (round : Round) : Type 0 where
  pub counter : Counter
  pub counted : counter_of scene round.loop.iterator ≡ Some counter
  pub low : round.loop.low ≡ counter.low
  pub factor : round.loop.factor ≡ counter.factor
  pub count : round.loop.count ≡ turn_count counter.low counter.high counter.factor
  pub register_is : (held_at scene.held.now round.loop.iterator).first ≡ round.counter
  pub held_depth : (held_at scene.held.now round.loop.iterator).depth ≡ round.loop.depth
  pub depth : round.loop.depth ≡ length (factors (map (λ (q : Round). q.loop) (take (suc index) rounds)))
  pub width : ℕ
  pub kind_is : kind_at kinds round.counter ≡ Unsigned width

abbrev pub AreRoundsTold : Scene → List Kind → List Round → Type 0
AreRoundsTold scene kinds rounds = (index : ℕ) (round : Round) → slice_get rounds index ≡ Some round → IsRoundTold scene kinds rounds index round
