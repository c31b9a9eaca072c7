-- What it is for the loops round a block of a program as it is run to be those of the source round its commands: the
-- unrolled among them, and of the source there are no others, match one by one. And what is found of one of them that
-- is in a turn.
use Rattle.std.specs.Prelude.{◌≡◌, ℕ, suc, ◌<◌, nat_lt, Bool, false, if◌then◌else◌, List, [], ◌∷◌, Some}
use Rattle.dh_tree.specs.declared.trees.counters.Counter.{Counter}
use Rattle.dh_tree.specs.Counters.{turn_count}
use Rattle.dh_meaning.specs.Bindings.{binding_in, depth_bound}
use Rattle.dh_meaning.specs.Core.{Turning}
use Rattle.dh_meaning.specs.CoreOf.{Known}
use Rattle.dh_meaning.specs.Effects.{Variables}
use Rattle.dh_meaning.specs.Paths.{Path}
use Rattle.dh_sound.specs.IteratorsAt.{IteratorAt}

-- the unrolled among these loops
abbrev pub unrolled_loops : List Turning → List Turning
unrolled_loops [] = []
unrolled_loops (l ∷ ls) = if nat_lt 1 l.factor then l ∷ unrolled_loops ls else unrolled_loops ls

-- A loop as it is run is this loop of the source, whose iterator has a number.
pub record LoopMatches (known : Known) (loop : Turning) (c : Counter) : Type 0 where
  pub iterator : c.entity ≡ Some loop.iterator
  pub depth : loop.depth ≡ depth_bound (binding_in known.bindings loop.iterator)
  pub low : loop.low ≡ c.low
  pub factor : loop.factor ≡ c.factor
  pub count : loop.count ≡ turn_count c.low c.high c.factor

-- loops match one by one
abbrev pub EachMatches : Known → List Turning → List Counter → Type 0
EachMatches known [] [] = Unit {0}
EachMatches known [] (c ∷ cs) = ⊥
EachMatches known (l ∷ ls) [] = ⊥
EachMatches known (l ∷ ls) (c ∷ cs) = LoopMatches known l c × EachMatches known ls cs

-- the unrolled loops match these of the source
abbrev pub LoopsMatch : Known → (loops : List Turning) → List Counter → Type 0
LoopsMatch known loops counters = EachMatches known (unrolled_loops loops) counters

-- a block touches the iterator of none of these loops
abbrev pub AreSpared : (touched : ℕ → Bool) → List Turning → Type 0
AreSpared touched [] = Unit {0}
AreSpared touched (loop ∷ loops) = (touched loop.iterator ≡ false) × AreSpared touched loops

-- A loop of the source at a level among the unrolled loops round a block is that of a loop in a turn, whose
-- iterator the block does not touch and an expression sees at a path.
pub record LoopInTurn (known : Known) (v0 : Variables) (touched : ℕ → Bool) (path : Path) (level : ℕ) (c : Counter) : Type 0 where
  pub loop : Turning
  pub matches : LoopMatches known loop c
  pub deep : loop.depth ≡ suc level
  pub left : touched loop.iterator ≡ false
  pub turn : ℕ
  pub below : turn < loop.count
  pub seen : IteratorAt loop turn v0 path
