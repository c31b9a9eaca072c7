-- A memory has no way: an access of it is an access of that memory, and an access without a way is of what it names.
use Rattle.std.proofs.Common.{◌≡◌, ℕ, Option, Some, None, sym, ◌∙◌, ap}
use Rattle.dh_tree.specs.Memories.{Memory, memory_in, memories_of}
use Rattle.dh_tree.specs.PlainTrees.{Program}
use Rattle.dh_meaning.specs.Ways.{base_of, way_to}
use Rattle.dh_meets.specs.SourceEvents.{SourceAccess}
use Rattle.dh_ways.proofs.MemoriesUnled.{memory_unled}
use Rattle.dh_sound.specs.BlockTold.{IsOfMemory}

pub memory_access : (p : Program) (a : SourceAccess) (entity : ℕ) (m : Memory) → a.entity ≡ Some entity → memory_in (memories_of p) (Some entity) ≡ Some m → IsOfMemory p a
memory_access p a entity m is declared = record {
  entity = entity;
  is = ap (λ o. base_of o a.entity) (memory_unled p a.entity m (ap (memory_in (memories_of p)) is ∙ declared)) ∙ is;
  memory = m;
  declared = declared;
}

pub itself : (p : Program) (entity : Option ℕ) (n : ℕ) → way_to p entity ≡ None → base_of (way_to p entity) entity ≡ Some n → entity ≡ Some n
itself p entity n none is = sym (ap (λ o. base_of o entity) none) ∙ is
