-- What is to be known of the straight commands of a block. All of it holds of a typed program that breaks no rule: what
-- is assigned is another variable at each path, but of reducers, which stand in no arm.
use Rattle.std.specs.Prelude.{◌≡◌, ℕ, suc, ◌≤◌, List, [], ◌∷◌, length, slice_get, Option, Some, None}
use Rattle.dh_value.specs.declared.kinds.Kind.{Kind}
use Rattle.dh_value.specs.declared.kinds.Kind.TheVariants.{Bool}
use Rattle.dh_value.specs.declared.operators.Op.{Op}
use Rattle.dh_value.specs.Words.{IsInteger, IsKind}
use Rattle.dh_tree.specs.declared.tables.MemEntry.{MemEntry}
use Rattle.dh_tree.specs.declared.trees.expressions.Ref.{Ref}
use Rattle.dh_tree.specs.WiderKinds.{wider}
use Rattle.dh_tree.specs.PlainTrees as plain
use Rattle.dh_tree.specs.PlainTrees.{Action, action, ActionForm, lets, lets_memory, views, assigns, stores, reduces, calls, blocks, decides, repeats, counts, MaybeAction, no_action, one_action, Actions, no_actions, action_then, Groups, no_groups, group_then}
use Rattle.dh_tree.specs.Seen.{terms}
use Rattle.dh_tree.specs.TextNumbers.{Reduces}
use Rattle.dh_tree.specs.ViewOffsets.{offsets_of}
use Rattle.dh_meaning.specs.Bindings.{kind_or_first}
use Rattle.dh_meaning.specs.CoreOf.{Known, entity_number, kind_of, memory_of, way_of}
use Rattle.dh_meaning.specs.Effects.{entry_kind}
use Rattle.dh_meaning.specs.Ways.{Hidden, hidden_in}
use Rattle.dh_code.specs.Slots.{held_at}
use Rattle.dh_expressions.specs.declared.paths.Level.{Level}
use Rattle.dh_expressions.specs.declared.scenes.Scene.{Scene}
use Rattle.dh_expressions.specs.Evaluated.{known_in}
use Rattle.dh_expressions.specs.Shown.{kind_written}
use Rattle.dh_commands.specs.ShownVariables.{IsSeen, depth_in}
use Rattle.dh_blocks.specs.SoundTerms.{AreSound, IsSound, IsSoundTarget}

-- a variable that is another at each path inside these loops
pub record IsOwnOf (scene : Scene) (levels : List Level) (entity : ℕ) : Type 0 where
  pub seen : IsSeen scene levels entity
  pub full : length levels ≤ depth_in scene entity

-- a value is held in a kind: only truths are in Bool
abbrev pub CanHold : Kind → plain.Term → Type 0
CanHold k t = k ≡ Bool → kind_written t ≡ Bool

-- the kind of the elements of a memory that is a target
abbrev pub kind_aimed : Known → List MemEntry → plain.Term → Kind
kind_aimed known table (plain.term place k (plain.accessed r ts)) = entry_kind (slice_get table (memory_of known r))
kind_aimed known table (plain.term place k (plain.in_bank r bank at row)) = entry_kind (slice_get table (memory_of known r))
kind_aimed known table (plain.term place k (plain.number negative z)) = Bool
kind_aimed known table (plain.term place k (plain.truth_value b)) = Bool
kind_aimed known table (plain.term place k (plain.named r)) = Bool
kind_aimed known table (plain.term place k (plain.applied o left right)) = Bool
kind_aimed known table (plain.term place k (plain.converted inner to)) = Bool

-- what a reducer puts together is of an integer kind
pub record CanReduce (scene : Scene) (r : Ref) (o : Op) (t : plain.Term) : Type 0 where
  pub operator : Reduces o
  pub kind_is : kind_of (known_in scene) r ≡ (held_at scene.held.now (entity_number r.entity)).kind
  pub sized : IsKind (held_at scene.held.now (entity_number r.entity)).kind
  pub integer : IsInteger (wider (held_at scene.held.now (entity_number r.entity)).kind (kind_written t))

-- a `let` without a right side, of a kind
pub record CanClear (scene : Scene) (r : Ref) (declared : Option Kind) : Type 0 where
  pub sized : IsKind (held_at scene.held.now (entity_number r.entity)).kind
  pub kind_is : kind_or_first declared ≡ (held_at scene.held.now (entity_number r.entity)).kind

module _ (scene : Scene) (levels : List Level) (table : List MemEntry) (Name : Ref → Kind → Type 0) where
  abbrev pub IsTerm : plain.Term → Type 0
  IsTerm t = IsSound (known_in scene) table Name t

  abbrev pub CanAssign : Ref → plain.Term → Type 0
  CanAssign r t = IsTerm t × (IsOwnOf scene levels (entity_number r.entity) × CanHold (held_at scene.held.now (entity_number r.entity)).kind t)

  abbrev pub CanLet : Ref → (declared : Option Kind) → Option plain.Term → Type 0
  CanLet r declared None = IsOwnOf scene levels (entity_number r.entity) × CanClear scene r declared
  CanLet r declared (Some t) = CanAssign r t

  -- offsets are kept in variables that follow one another from a first one on: each is another at each path, and is declared
  -- inside as many unrolled loops
  abbrev pub CanKeepFrom : (depth first : ℕ) → List plain.Term → Type 0
  CanKeepFrom depth first [] = Unit {0}
  CanKeepFrom depth first (t ∷ ts) =
      (IsOwnOf scene levels first × ((depth ≡ depth_in scene first) × CanHold (held_at scene.held.now first).kind t)) × CanKeepFrom depth (suc first) ts

  -- so are those of a view, from the first variable on its way on
  abbrev pub CanKeep : List Hidden → List plain.Term → Type 0
  CanKeep hs [] = Unit {0}
  CanKeep [] (t ∷ ts) = ⊥
  CanKeep (h ∷ hs) (t ∷ ts) = AreSound (known_in scene) table Name (terms (t ∷ ts)) × CanKeepFrom h.depth h.entity (t ∷ ts)

  -- `Folds` is what reducers may assign to
  abbrev mutual
    pub SoundAction : (Folds : ℕ → Type 0) → Action → Type 0
    SoundAction Folds (action id place form) = SoundForm Folds form

    pub SoundForm : (Folds : ℕ → Type 0) → ActionForm → Type 0
    SoundForm Folds (lets r declared value) = CanLet r declared value
    SoundForm Folds (assigns r t) = CanAssign r t
    SoundForm Folds (stores target t) =
        (IsTerm t × IsSoundTarget (known_in scene) table Name target) × CanHold (kind_aimed (known_in scene) table target) t
    SoundForm Folds (reduces r o t) = (IsTerm t × Folds (entity_number r.entity)) × CanReduce scene r o t
    SoundForm Folds (decides t chosen other) = IsTerm t × (SoundAction (λ entity. ⊥) chosen × SoundOther (λ entity. ⊥) other)
    SoundForm Folds (blocks body) = SoundGroups Folds body
    SoundForm Folds (lets_memory name shape shape_places value) = Unit {0}
    SoundForm Folds (views name parent form) = CanKeep (hidden_in (way_of (known_in scene) name)) (offsets_of form)
    SoundForm Folds (calls function arguments) = Unit {0}
    SoundForm Folds (repeats test body) = Unit {0}
    SoundForm Folds (counts iterator declared low high factor body combine combine_place) = Unit {0}

    pub SoundOther : (Folds : ℕ → Type 0) → MaybeAction → Type 0
    SoundOther Folds no_action = Unit {0}
    SoundOther Folds (one_action a) = SoundAction Folds a

    pub SoundGroups : (Folds : ℕ → Type 0) → Groups → Type 0
    SoundGroups Folds no_groups = Unit {0}
    SoundGroups Folds (group_then part rest) = SoundPart Folds part × SoundGroups Folds rest

    pub SoundPart : (Folds : ℕ → Type 0) → Actions → Type 0
    SoundPart Folds no_actions = Unit {0}
    SoundPart Folds (action_then a rest) = SoundAction Folds a × SoundPart Folds rest
