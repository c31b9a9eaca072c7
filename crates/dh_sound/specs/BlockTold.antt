-- What is asked of a program, and of a block of it that is done in its loops, so that the block spends of each bank no
-- more than the rules on ports charge.
use Rattle.std.specs.Prelude.{◌≡◌, ℕ, ◌≤◌, Bool, true, List, length, Some}
use Rattle.dh_tree.specs.Memories.{Memory, memory_in, memories_of}
use Rattle.dh_tree.specs.PlainTrees.{Program}
use Rattle.dh_meaning.specs.Bindings.{binding_in, depth_bound}
use Rattle.dh_meaning.specs.CoreOf.{known_of}
use Rattle.dh_meaning.specs.Effects.{Variables}
use Rattle.dh_meaning.specs.Paths.{Path, IsPathAmong}
use Rattle.dh_meaning.specs.Ways.{base_of, way_to}
use Rattle.dh_meets.specs.SourceEvents.{SourceAccess}
use Rattle.dh_tree.specs.Counters.{counters_of}
use Rattle.dh_sound.specs.IndexValues.{ElementInTurn}
use Rattle.dh_sound.specs.SameKeys.{EachNameIn, NameFacts, IsNearTo}
use Rattle.dh_sound.specs.ToldEvents.{access_at}

-- an access is of a memory, or leads to one through views
pub record IsOfMemory (p : Program) (a : SourceAccess) : Type 0 where
  pub entity : ℕ
  pub is : base_of (way_to p a.entity) a.entity ≡ Some entity
  pub memory : Memory
  pub declared : memory_in (memories_of p) (Some entity) ≡ Some memory

abbrev pub AccessesDeclared : Program → Type 0
AccessesDeclared p = (k : ℕ) (a : SourceAccess) → access_at p k ≡ Some a → IsOfMemory p a

-- Of the accesses that a block makes, at these paths: the names in their indices, and the turns in which these find
-- the iterators of unrolled loops; and what it touches is declared inside all its loops.
pub record IndicesTold (p : Program) (in_block : ℕ → Bool) (touched : ℕ → Bool) (ps : List Path) (v0 : Variables) : Type 0 where
  pub names : (k : ℕ) (a : SourceAccess) (path other : Path) → in_block k ≡ true → access_at p k ≡ Some a → IsPathAmong path ps → IsPathAmong other ps → EachNameIn (NameFacts (known_of p) v0 touched path other) a.element
  pub turns : (k : ℕ) (a : SourceAccess) (path : Path) (v : Variables) → in_block k ≡ true → access_at p k ≡ Some a → IsPathAmong path ps → IsNearTo v0 touched v → ElementInTurn (known_of p) (counters_of p) a.site.loops path v a.element
  pub inside : (e : ℕ) (path : Path) → touched e ≡ true → IsPathAmong path ps → length path ≤ depth_bound (binding_in (known_of p).bindings e)
