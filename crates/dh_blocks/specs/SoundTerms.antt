-- What is to be known of the expressions of a block: names, memories and kinds are as they should. All of it holds of a
-- typed program.
use Rattle.std.specs.Prelude.{◌≡◌, ℕ, ◌<◌, ◌^◌, false, true, List, [], Some}
use Rattle.std.specs.List.{AllByRecursion}
use Rattle.dh_value.specs.declared.kinds.Kind.{Kind}
use Rattle.dh_value.specs.declared.kinds.Kind.TheVariants.{Bool}
use Rattle.dh_value.specs.declared.operators.Op.{Op}
use Rattle.dh_value.specs.declared.operators.Op.TheVariants as op
use Rattle.dh_value.specs.Words.{IsInteger, IsKind}
use Rattle.dh_tree.specs.declared.tables.MemEntry.{MemEntry}
use Rattle.dh_tree.specs.declared.trees.expressions.Ref.{Ref}
use Rattle.dh_tree.specs.WiderKinds.{wider}
use Rattle.dh_tree.specs.PlainTrees as plain
use Rattle.dh_meaning.specs.Bindings.{binding_in, kind_or_first}
use Rattle.dh_meaning.specs.CoreOf.{Known, depth_of, memory_of, way_of}
use Rattle.dh_meaning.specs.Effects.{kind_in}
use Rattle.dh_meaning.specs.Ways.{Hidden, hidden_in}
use Rattle.dh_meets.specs.Charges.{entity_depends}
use Rattle.dh_sound.specs.SameKeys.{IsNoIterator}
use Rattle.dh_expressions.specs.Shown.{kind_written}

-- the kind of what an operator gives, by the kinds of its operands
abbrev pub GivesKind : Op → (left right result : Kind) → Type 0
GivesKind op.Add j k r = IsInteger (wider j k) × (r ≡ wider j k)
GivesKind op.Sub j k r = IsInteger (wider j k) × (r ≡ wider j k)
GivesKind op.Mul j k r = IsInteger (wider j k) × (r ≡ wider j k)
GivesKind op.And j k r = IsInteger (wider j k) × (r ≡ wider j k)
GivesKind op.Or j k r = IsInteger (wider j k) × (r ≡ wider j k)
GivesKind op.Xor j k r = IsInteger (wider j k) × (r ≡ wider j k)
GivesKind op.Shl j k r = IsKind j × (r ≡ j)
GivesKind op.Shr j k r = IsKind j × (r ≡ j)
GivesKind op.Lt j k r = r ≡ Bool
GivesKind op.Gt j k r = r ≡ Bool
GivesKind op.Le j k r = r ≡ Bool
GivesKind op.Ge j k r = r ≡ Bool
GivesKind op.Eq j k r = r ≡ Bool
GivesKind op.Ne j k r = r ≡ Bool
GivesKind op.Both j k r = r ≡ Bool
GivesKind op.Either j k r = r ≡ Bool

-- a name is no variable, and so depends on no loop
abbrev pub IsUnbound : Known → Ref → Type 0
IsUnbound known r = (level : ℕ) → entity_depends known.bindings level r.entity ≡ false

-- a variable that keeps an offset, as a name
abbrev pub kept_name : Hidden → Ref
kept_name h = record { name = []; place = record { line = 0; column = 0 }; entity = Some h.entity }

module _ (known : Known) (table : List MemEntry) (Name : Ref → Kind → Type 0) where
  -- what keeps an offset on the way of a name is a variable of its kind and depth, and no iterator; on the loops on which it
  -- depends the name does
  pub record IsSoundHidden (r : Ref) (h : Hidden) : Type 0 where
    pub named : Name (kept_name h) h.kind
    pub deep : h.depth ≡ depth_of known (kept_name h)
    pub plain : IsNoIterator (binding_in known.bindings h.entity)
    pub less : (level : ℕ) → entity_depends known.bindings level (Some h.entity) ≡ true → entity_depends known.bindings level r.entity ≡ true

  -- so all on a way
  abbrev pub IsSoundWay : Ref → Type 0
  IsSoundWay r = AllByRecursion (λ (h : Hidden). IsSoundHidden r h) (hidden_in (way_of known r))

  abbrev mutual
    pub IsSound : plain.Term → Type 0
    IsSound (plain.term place kind form) = IsSoundForm (kind_or_first kind) form

    pub IsSoundForm : Kind → plain.TermForm → Type 0
    IsSoundForm k (plain.number negative z) = IsKind k
    IsSoundForm k (plain.truth_value b) = k ≡ Bool
    IsSoundForm k (plain.named r) = Name r k × IsKind k
    IsSoundForm k (plain.accessed r ts) = (AreSound ts × IsSoundWay r) × ((memory_of known r < 2 ^ 32) × (k ≡ kind_in table (memory_of known r)))
    IsSoundForm k (plain.in_bank r bank at row) =
        IsSound row × ((memory_of known r < 2 ^ 32) × ((bank < 2 ^ 32) × ((k ≡ kind_in table (memory_of known r)) × IsUnbound known r)))
    IsSoundForm k (plain.applied o left right) = (IsSound left × IsSound right) × GivesKind o (kind_written left) (kind_written right) k
    IsSoundForm k (plain.converted inner to) = IsSound inner × (IsInteger to × (k ≡ to))

    pub AreSound : plain.Terms → Type 0
    AreSound plain.no_terms = Unit {0}
    AreSound (plain.term_then t ts) = IsSound t × AreSound ts

  -- the target of a store
  abbrev pub IsSoundTarget : plain.Term → Type 0
  IsSoundTarget (plain.term place kind (plain.accessed r ts)) = (AreSound ts × IsSoundWay r) × (memory_of known r < 2 ^ 32)
  IsSoundTarget (plain.term place kind (plain.in_bank r bank at row)) = IsSound row × ((memory_of known r < 2 ^ 32) × (bank < 2 ^ 32))
  IsSoundTarget (plain.term place kind (plain.number negative z)) = ⊥
  IsSoundTarget (plain.term place kind (plain.truth_value b)) = ⊥
  IsSoundTarget (plain.term place kind (plain.named r)) = ⊥
  IsSoundTarget (plain.term place kind (plain.applied o left right)) = ⊥
  IsSoundTarget (plain.term place kind (plain.converted inner to)) = ⊥
