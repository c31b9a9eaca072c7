-- What holds of the tree of a text, whatever rules it breaks: names of memories are names, what a type
-- does not write is 1, kinds have their widths, stores go to accesses, loops end at numbers of 64 bits and
-- reducers take numbers, commands are numbered in text order, and there are no more names than the text has
-- tokens.
use Rattle.std.specs.Prelude.{◌≡◌, ℕ, ◌≤◌, List, [], ◌∷◌, Option, Some, None}
use Rattle.std.specs.List.{AllByRecursion}
use Rattle.dh_base.specs.declared.places.Place.{Place}
use Rattle.dh_tree.specs.declared.tables.Dim.{Dim}
use Rattle.dh_tree.specs.declared.trees.programs.DimPlaces.{DimPlaces}
use Rattle.dh_tree.specs.Names.{IsName}
use Rattle.dh_tree.specs.PlainTrees.{Declared, Program}
use Rattle.dh_tree.specs.Memories.{locals}
use Rattle.dh_tree.specs.Numbers.{IsNumbered}
use Rattle.dh_tree.specs.NameCounts.{names_declared}
use Rattle.dh_tree.specs.Targets.{HasTargets}
use Rattle.dh_tree.specs.TextNumbers.{HasTextNumbers}
use Rattle.dh_tree.specs.Widths.{HasWidths}

-- a number that is not written is 1
abbrev pub IsOneUnless : Option Place → ℕ → Type 0
IsOneUnless None n = n ≡ 1
IsOneUnless (Some place) n = Unit {0}

-- the places of dimensions stand beside them
abbrev pub HaveDimPlaces : List Dim → List DimPlaces → Type 0
HaveDimPlaces [] [] = Unit {0}
HaveDimPlaces (d ∷ ds) (p ∷ ps) = IsOneUnless p.word_place d.banks × HaveDimPlaces ds ps
HaveDimPlaces _ _ = ⊥

pub record IsDeclared (d : Declared) : Type 0 where
  pub named : IsName d.name.name
  pub ports : IsOneUnless d.shape_places.braces_place d.shape.ports
  pub dims : HaveDimPlaces d.shape.dims d.shape_places.dims

-- what holds of the tree of any text of at most so many tokens
pub record IsOfText (tokens : ℕ) (p : Program) : Type 0 where
  pub decls : AllByRecursion IsDeclared p.decls
  pub locals : AllByRecursion (λ m. IsName m.name.name) (locals p.body)
  pub first : ℕ
  pub numbered : IsNumbered first p.body
  pub names : names_declared p ≤ tokens
  pub widths : HasWidths p
  pub targets : HasTargets p.body
  pub numbers : HasTextNumbers p.body
