-- Names that stand for memories, and others. Shared by dh_code and dh_lengths.
use Rattle.std.proofs.Common.{◌≡◌, ℕ, suc, Bool, true, false, if◌then◌else◌, List, [], ◌∷◌, Some, None, refl, ◌∙◌}
use Rattle.std.specs.Prelude.{Option, option_map}
use Rattle.std.specs.Option.{is_some}
use Rattle.dh_tree.specs.Memories.{Memory, memory_in, number_in, same_entity}
use Rattle.dh_meaning.specs.Ways.{Way, way_unless}

pub unless_memory : (m : Option Memory) (w : Option Way) → is_some m ≡ true → None ≡ way_unless m w
unless_memory (Some m) w e = refl
unless_memory None w e = absurd cc

pub unless_none : (m : Option Memory) (w : Option Way) → is_some m ≡ false → w ≡ way_unless m w
unless_none (Some m) w e = absurd cc
unless_none None w e = refl

pub numbered_same : (ms : List Memory) (e : Option ℕ) → is_some (number_in ms e) ≡ is_some (memory_in ms e)
numbered_same [] e = refl
numbered_same (m ∷ ms) e = by (same_entity m.name.entity e) (numbered_same ms e)
  where
    more : (o : Option ℕ) → is_some (option_map suc o) ≡ is_some o
    more None = refl
    more (Some n) = refl

    by : (b : Bool) → is_some (number_in ms e) ≡ is_some (memory_in ms e) → is_some (if b then Some 0 else option_map suc (number_in ms e)) ≡ is_some (if b then Some m else memory_in ms e)
    by true h = refl
    by false h = more (number_in ms e) ∙ h

pub nothing_stands : (ms : List Memory) → memory_in ms None ≡ None
nothing_stands [] = refl
nothing_stands (m ∷ ms) = by m.name.entity (nothing_stands ms)
  where
    by : (o : Option ℕ) → memory_in ms None ≡ None → (if same_entity o None then Some m else memory_in ms None) ≡ None
    by None h = h
    by (Some n) h = h
