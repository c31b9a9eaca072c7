-- What is known of a name in an expression of a block: it is a variable that is seen there, or the iterator of a loop
-- round the block that is in a turn.
use Rattle.std.specs.Prelude.{◌≡◌, ◌⊎◌, ℕ, suc, ◌+◌, ◌*◌, ◌<◌, ◌≤◌, nat_le, Bool, false, if◌then◌else◌, List, length, map, slice_get, slice_index, take, Some}
use Rattle.dh_value.specs.declared.kinds.Kind.{Kind}
use Rattle.dh_value.specs.declared.kinds.Kind.TheVariants.{Unsigned}
use Rattle.dh_value.specs.Words.{IsInteger}
use Rattle.dh_tree.specs.declared.trees.counters.Counter.{Counter}
use Rattle.dh_tree.specs.declared.trees.expressions.Ref.{Ref}
use Rattle.dh_meaning.specs.Bindings.{binding_in}
use Rattle.dh_meaning.specs.Core.{Turning}
use Rattle.dh_meaning.specs.CoreOf.{entity_number}
use Rattle.dh_meaning.specs.Effects.{Variables}
use Rattle.dh_meaning.specs.Paths.{copies_in}
use Rattle.dh_meaning.specs.Phases.{turn_count}
use Rattle.dh_meaning.specs.Runs.{iterator_value}
use Rattle.dh_plan.specs.Blocks.{kind_at}
use Rattle.dh_plan.specs.Correspondence.{Round}
use Rattle.dh_code.specs.Slots.{held_at}
use Rattle.dh_expressions.specs.declared.paths.Level.{Level}
use Rattle.dh_expressions.specs.declared.scenes.Scene.{Scene}
use Rattle.dh_expressions.specs.Drafted.{BlockStep}
use Rattle.dh_expressions.specs.Evaluated.{IsTurning, counter_of, known_in}
use Rattle.dh_expressions.specs.Levels.{last_number, path_at}
use Rattle.dh_sound.specs.Blocks.{factors}
use Rattle.dh_sound.specs.IteratorsAt.{IteratorAt}
use Rattle.dh_sound.specs.SameKeys.{IsIteratorName, IsNoIterator}
use Rattle.dh_commands.specs.ShownVariables.{IsSeen, depth_in, level_factors}

-- what the builder shows of an iterator at a path, as a whole number
abbrev pub turn_shown : Scene → List Level → BlockStep → Counter → (entity number : ℕ) → ℕ
turn_shown scene levels x c entity number =
    c.low + slice_index x.start.registers (held_at scene.held.now entity).first * c.factor
    + (if nat_le c.factor 1 then 0 else last_number levels (held_at scene.held.now entity).depth number)

-- the iterator of a loop in a turn, at the paths inside loops of these levels
pub record IsIteratorInTurn (scene : Scene) (levels : List Level) (x : BlockStep) (v0 : Variables) (touched : ℕ → Bool) (r : Ref) (k : Kind) : Type 0 where
  pub loop : Turning
  pub turn : ℕ
  pub counter : Counter
  pub is : IsIteratorName (known_in scene) r loop
  pub counted : counter_of scene (entity_number r.entity) ≡ Some counter
  pub left : touched loop.iterator ≡ false
  pub turning : IsTurning x counter (held_at scene.held.now (entity_number r.entity)) k
  pub at : (number : ℕ) → number < copies_in (level_factors levels) → IteratorAt loop turn v0 (path_at levels number)
  pub shown : (number : ℕ) → number < copies_in (level_factors levels) → turn_shown scene levels x counter (entity_number r.entity) number ≡ iterator_value loop turn (path_at levels number)

-- a variable, which the block does not touch or which is another at each path
pub record IsPlainVariable (scene : Scene) (levels : List Level) (touched : ℕ → Bool) (r : Ref) (k : Kind) : Type 0 where
  pub is : r.entity ≡ Some (entity_number r.entity)
  pub seen : IsSeen scene levels (entity_number r.entity)
  pub kind_is : (held_at scene.held.now (entity_number r.entity)).kind ≡ k
  pub binding : IsNoIterator (binding_in (known_in scene).bindings (entity_number r.entity))
  pub free : (touched (entity_number r.entity) ≡ false) ⊎ (length levels ≤ depth_in scene (entity_number r.entity))

abbrev pub IsNamedVariable : Scene → List Level → BlockStep → (v0 : Variables) → (touched : ℕ → Bool) → Ref → Kind → Type 0
IsNamedVariable scene levels x v0 touched r k = IsPlainVariable scene levels touched r k ⊎ IsIteratorInTurn scene levels x v0 touched r k

-- The same without the step: a variable that is seen, or the iterator of one of the loops round the block, whose counter
-- is a register of the plan.
pub record IsOfRound (scene : Scene) (kinds : List Kind) (rounds : List Round) (touched : ℕ → Bool) (r : Ref) (k : Kind) : Type 0 where
  pub index : ℕ
  pub round : Round
  pub there : slice_get rounds index ≡ Some round
  pub is : IsIteratorName (known_in scene) r round.loop
  pub counter : Counter
  pub counted : counter_of scene (entity_number r.entity) ≡ Some counter
  pub left : touched round.loop.iterator ≡ false
  pub integer : IsInteger k
  pub low : round.loop.low ≡ counter.low
  pub factor : round.loop.factor ≡ counter.factor
  pub count : round.loop.count ≡ turn_count counter.low counter.high counter.factor
  pub register_is : (held_at scene.held.now (entity_number r.entity)).first ≡ round.counter
  pub held_depth : (held_at scene.held.now (entity_number r.entity)).depth ≡ round.loop.depth
  pub depth : round.loop.depth ≡ length (factors (map (λ (q : Round). q.loop) (take (suc index) rounds)))
  pub width : ℕ
  pub kind_is : kind_at kinds round.counter ≡ Unsigned width

abbrev pub IsNamedHere : Scene → List Level → (kinds : List Kind) → List Round → (touched : ℕ → Bool) → Ref → Kind → Type 0
IsNamedHere scene levels kinds rounds touched r k = IsPlainVariable scene levels touched r k ⊎ IsOfRound scene kinds rounds touched r k
