-- What is asked of the names in the indices of an access so that its reads with one key lead to one element: each
-- variable has one value at two paths wherever the copy numbers of these agree in all loops on which the variable
-- depends. And what is known of the variables of a block: they are near those with which the block began, and an
-- iterator's name is declared with the depth and the factor of its loop.
use Rattle.std.specs.Prelude.{◌≡◌, ℕ, ◌<◌, ◌≤◌, Bool, true, false, length, take, slice_index_or, Option, Some, None}
use Rattle.dh_tree.specs.declared.trees.expressions.Ref.{Ref}
use Rattle.dh_tree.specs.PlainTrees.{Term, term, TermForm, number, truth_value, named, accessed, in_bank, applied, converted, Terms, no_terms, term_then}
use Rattle.dh_meaning.specs.Bindings.{Binding, binding_in}
use Rattle.dh_meaning.specs.Core.{Turning}
use Rattle.dh_meaning.specs.CoreOf.{Known, entity_number, depth_of}
use Rattle.dh_meaning.specs.Effects.{Variables}
use Rattle.dh_meaning.specs.Paths.{Path}
use Rattle.dh_meets.specs.Charges.{entity_depends}
use Rattle.dh_meets.specs.SourceEvents.{Element, with_indices, in_row}
use Rattle.dh_sound.specs.IteratorsAt.{IteratorAt}

-- two paths have one copy number at each level that a test picks
abbrev pub CopiesAgree : (picks : ℕ → Bool) → (p q : Path) → Type 0
CopiesAgree picks p q = (l : ℕ) → l < length p → picks l ≡ true → slice_index_or p l 0 ≡ slice_index_or q l 0

-- and at each level on which the variable of this name depends
abbrev pub NameAgrees : Known → (p q : Path) → Ref → Type 0
NameAgrees known p q r = CopiesAgree (λ l. entity_depends known.bindings l r.entity) p q

-- a name is found with one value at two paths
abbrev pub IsFoundSame : Known → (v w : Variables) → (p q : Path) → Ref → Type 0
IsFoundSame known v w p q r = v (entity_number r.entity) (take (depth_of known r) p) ≡ w (entity_number r.entity) (take (depth_of known r) q)

-- a name is settled at two paths: where they agree at the levels on which it depends it has one value
abbrev pub IsSettledName : Known → (v w : Variables) → (p q : Path) → Ref → Type 0
IsSettledName known v w p q r = NameAgrees known p q r → IsFoundSame known v w p q r

-- each variable in an expression, those in the indices of its reads among them, is so
abbrev mutual
  pub EachName : (P : Ref → Type 0) → Term → Type 0
  EachName P (term place k f) = EachNameForm P f

  pub EachNameForm : (P : Ref → Type 0) → TermForm → Type 0
  EachNameForm P (number negative x) = Unit {0}
  EachNameForm P (truth_value x) = Unit {0}
  EachNameForm P (named r) = P r
  EachNameForm P (accessed r ts) = EachNameOf P ts
  EachNameForm P (in_bank r bank at t) = EachName P t
  EachNameForm P (applied o l r) = EachName P l × EachName P r
  EachNameForm P (converted t to) = EachName P t

  pub EachNameOf : (P : Ref → Type 0) → Terms → Type 0
  EachNameOf P no_terms = Unit {0}
  EachNameOf P (term_then t ts) = EachName P t × EachNameOf P ts

-- each variable in the indices of an access is so
abbrev pub EachNameIn : (P : Ref → Type 0) → Element → Type 0
EachNameIn P (with_indices ts) = EachNameOf P ts
EachNameIn P (in_row bank t) = EachName P t

-- variables that differ from those with which a block began only in entities that the block touches
abbrev pub IsNearTo : (v0 : Variables) → (touched : ℕ → Bool) → Variables → Type 0
IsNearTo v0 touched v = (e : ℕ) (q : Path) → touched e ≡ false → v e q ≡ v0 e q

-- what is declared of a name is no iterator
abbrev pub IsNoIterator : Option Binding → Type 0
IsNoIterator None = Unit {0}
IsNoIterator (Some b) = b.iterates ≡ None

-- The name of the iterator of a loop: it is declared with the depth and the factor of the loop.
pub record IsIteratorName (known : Known) (r : Ref) (loop : Turning) : Type 0 where
  pub entity : r.entity ≡ Some loop.iterator
  pub binding : Binding
  pub bound : binding_in known.bindings loop.iterator ≡ Some binding
  pub depth : binding.depth ≡ loop.depth
  pub iterates : binding.iterates ≡ Some loop.factor
  -- an unrolled loop counts in its own depth
  pub deep : 1 < loop.factor → 1 ≤ loop.depth

-- What is given of a name in the indices of an access that a block makes at two paths of one length.
pub data NameFacts (known : Known) (v0 : Variables) (touched : ℕ → Bool) (p q : Path) (r : Ref) : Type 0 where
  -- it is no iterator, and the block does not touch it
  is_plain : (e : ℕ) → r.entity ≡ Some e → touched e ≡ false → IsNoIterator (binding_in known.bindings e) → NameFacts known v0 touched p q r
  -- it is the iterator of a loop that is in a turn, and the block does not touch it
  is_turned : (loop : Turning) → (turn : ℕ) → IsIteratorName known r loop → touched loop.iterator ≡ false → IteratorAt loop turn v0 p → IteratorAt loop turn v0 q → NameFacts known v0 touched p q r
  -- it is no iterator, and is declared inside all the loops; the block may touch it
  is_full : (e : ℕ) → r.entity ≡ Some e → IsNoIterator (binding_in known.bindings e) → length p ≤ depth_of known r → NameFacts known v0 touched p q r
