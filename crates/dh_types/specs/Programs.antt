-- What the pass over kinds answers.
use Rattle.std.specs.Prelude.{◌≡◌, ◌<◌, ◌⊎◌, Option, Some, None, Result, Ok, Err}
use Rattle.dh_base.specs.declared.faults.PassFault.{PassFault}
use Rattle.dh_base.specs.declared.faults.PassFault.TheVariants as fault
use Rattle.dh_tree.specs.declared.breaches.Breach.{Breach}
use Rattle.dh_tree.specs.declared.trees.programs.Tree.{Tree}
use Rattle.dh_tree.specs.declared.trees.typed.Typed.{Typed}
use Rattle.dh_tree.specs.PlainTrees.{Program}
use Rattle.dh_tree.specs.Seen.{program_seen}
use Rattle.dh_tree.specs.LeastBreach.{breach, least_of, IsLeast}
use Rattle.dh_tree.specs.NameCounts.{names_declared}
use Rattle.dh_tree.specs.Kinds.{typed}
use Rattle.dh_tree.specs.KindBreaches.{kind_breaches, KeepsKinds}

-- what takes memory: facts of names that are declared, and the table of a program that breaks no rule on kinds
abbrev pub TakesMemory : Program → Type 0
TakesMemory p = (0 < names_declared p) ⊎ KeepsKinds (typed p)

-- a program is answered by its tree with the kinds of its expressions where no rule on kinds is broken,
-- and else by the breach that stands first; for want of memory it may have no answer, if it takes memory
abbrev pub Answers : Program → Result Typed PassFault → Type 0
Answers p (Ok t) = program_seen t ≡ typed p
Answers p (Err (fault.Refused rule place)) = IsLeast (kind_breaches (typed p)) (breach rule place)
Answers p (Err fault.NoMemory) = TakesMemory p

-- what a walk over a program does: its tree has the kinds of its expressions, and the least breach is kept
pub record FindsKinds (p q : Program) (least : Option Breach) : Type 0 where
  pub tree : q ≡ typed p
  pub least_kept : least ≡ least_of None (kind_breaches (typed p))

abbrev pub TypesTree : (old new : Tree) → (least : Option Breach) → Type 0
TypesTree old new least = FindsKinds (program_seen old) (program_seen new) least

-- a tree whose expressions have their kinds is answered, where there is no breach of them, and else the breach is;
-- memory may be wanting where there is none
abbrev pub SettlesKinds : Tree → Option Breach → Result Typed PassFault → Type 0
SettlesKinds tree least (Ok t) = t ≡ tree
SettlesKinds tree least (Err (fault.Refused rule place)) = least ≡ Some (breach rule place)
SettlesKinds tree least (Err fault.NoMemory) = least ≡ None
