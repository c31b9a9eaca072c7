-- Copies of an access through views that lead to elements in a step, where they are made: each with its path.
use Rattle.std.specs.Prelude.{◌≡◌, Bool, List, map, take}
use Rattle.std.specs.List.{AllByRecursion, filter}
use Rattle.dh_tree.specs.PlainTrees.{Program}
use Rattle.dh_tree.specs.declared.viewing.ViewMap.{ViewMap}
use Rattle.dh_viewing.specs.Carried.{Copy, AllLead, bank_in}
use Rattle.dh_meaning.specs.Paths.{Path, same_path, IsPathAmong}
use Rattle.dh_meaning.specs.Ways.{Way, all_bindings_of}
use Rattle.dh_meets.specs.Charges.{bank_named, key_of, paths_of}
use Rattle.dh_meets.specs.SourceEvents.{SourceAccess}

pub record MadeCopy : Type 0 where
  pub path : Path
  pub copy : Copy

-- its path is one of the access, its key that of the path, and the bank of what is named that which the rules tell
pub record IsCopyOf (p : Program) (w : Way) (a : SourceAccess) (c : MadeCopy) : Type 0 where
  pub there : IsPathAmong c.path (paths_of a)
  pub key : c.copy.key ≡ key_of (all_bindings_of p) a c.path
  pub named : bank_in 0 c.copy ≡ bank_named p w a c.path

abbrev pub is_of_group : Way → (group : Path) → MadeCopy → Bool
is_of_group w group c = same_path (take w.shifts c.path) group

abbrev pub copies_of_made : List MadeCopy → List Copy
copies_of_made cs = map (λ c. c.copy) cs

-- those of a group, for which the offsets of shifts are equal
abbrev pub in_group : Way → (group : Path) → List MadeCopy → List Copy
in_group w group cs = copies_of_made (filter (is_of_group w group) cs)

abbrev pub views_on : Way → List ViewMap
views_on w = map (λ s. s.is) w.steps

-- all are copies of the access, and those of each group lead along the way
pub record AreCopiesOf (p : Program) (w : Way) (a : SourceAccess) (cs : List MadeCopy) : Type 0 where
  pub each : AllByRecursion (λ c. IsCopyOf p w a c) cs
  pub lead : (group : Path) → AllLead (views_on w) (in_group w group cs) 0
