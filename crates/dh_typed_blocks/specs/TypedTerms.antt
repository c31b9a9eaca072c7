-- What the rules on kinds and indices tell of expressions and commands, beside what laws on blocks ask: operators have
-- operands that suit them, indices are numbers, as many as there are dimensions, tests are truths, and what is assigned
-- has a kind that has a width. All of it holds of a ready program.
use Rattle.std.specs.Prelude.{◌≡◌, ℕ, suc, ◌<◌, List, [], ◌∷◌, length, Option, Some, None}
use Rattle.dh_base.specs.declared.places.Place.{Place}
use Rattle.dh_value.specs.declared.kinds.Kind.{Kind}
use Rattle.dh_value.specs.declared.kinds.Kind.TheVariants.{Bool}
use Rattle.dh_value.specs.declared.operators.Op.{Op}
use Rattle.dh_value.specs.Words.{IsInteger, IsKind}
use Rattle.dh_tree.specs.declared.tables.MemEntry.{MemEntry}
use Rattle.dh_tree.specs.declared.trees.expressions.Ref.{Ref}
use Rattle.dh_tree.specs.Kinds.{applied_kind, count_of, operands_breaches, takes}
use Rattle.dh_tree.specs.PlainTrees.{Term, term, TermForm, number, truth_value, named, accessed, in_bank, applied, converted, Terms, no_terms, term_then, Action, action, ActionForm, lets, lets_memory, views, assigns, stores, reduces, calls, blocks, decides, repeats, counts, MaybeAction, no_action, one_action, Actions, no_actions, action_then, Groups, no_groups, group_then}
use Rattle.dh_tree.specs.Seen.{terms}
use Rattle.dh_tree.specs.ViewOffsets.{offsets_of}
use Rattle.dh_meaning.specs.Bindings.{binding_in, kind_bound, kind_or_first}
use Rattle.dh_meaning.specs.CoreOf.{Known, dims_named, kind_of, memory_of, way_of}
use Rattle.dh_meaning.specs.Ways.{Hidden, hidden_in}
use Rattle.dh_code.specs.Banks.{HasBank}
use Rattle.dh_expressions.specs.Shown.{kind_written}

-- operands of these kinds break no rule, and the operator gives this kind
pub record AreTypedOperands (o : Op) (j k whole : Kind) : Type 0 where
  pub left_place : Place
  pub right_place : Place
  pub left : IsKind j
  pub right : IsKind k
  pub none : operands_breaches (takes o) left_place right_place j k ≡ []
  pub is : whole ≡ applied_kind o j k

-- the memory that a name stands for, or leads to, is one of the table, and what is named has as many dimensions
pub record HasIndices (known : Known) (table : List MemEntry) (r : Ref) (count : ℕ) : Type 0 where
  pub there : memory_of known r < length table
  pub many : count ≡ length (dims_named known table r)

-- variables that keep offsets, whose entities follow one another from a first one on, are of kinds that there are
abbrev pub KeptSized : Known → (first : ℕ) → List Term → Type 0
KeptSized known first [] = Unit {0}
KeptSized known first (t ∷ ts) = IsKind (kind_bound (binding_in known.bindings first)) × KeptSized known (suc first) ts

-- so those of a view, from the first one on its way on
abbrev pub KeepsSized : Known → List Hidden → List Term → Type 0
KeepsSized known hs [] = Unit {0}
KeepsSized known [] (t ∷ ts) = Unit {0}
KeepsSized known (h ∷ hs) (t ∷ ts) = KeptSized known h.entity (t ∷ ts)

module _ (known : Known) (table : List MemEntry) where
  abbrev mutual
    pub IsTyped : Term → Type 0
    IsTyped (term place kind form) = IsTypedForm (kind_or_first kind) form

    pub IsTypedForm : Kind → TermForm → Type 0
    IsTypedForm k (number negative x) = Unit {0}
    IsTypedForm k (truth_value b) = Unit {0}
    IsTypedForm k (named r) = Unit {0}
    IsTypedForm k (accessed r ts) = AreTyped ts × HasIndices known table r (count_of ts)
    IsTypedForm k (in_bank r bank at row) = (IsTyped row × IsInteger (kind_written row)) × HasBank table (memory_of known r) bank
    IsTypedForm k (applied o left right) = (IsTyped left × IsTyped right) × AreTypedOperands o (kind_written left) (kind_written right) k
    IsTypedForm k (converted inner to) = IsTyped inner

    -- indices
    pub AreTyped : Terms → Type 0
    AreTyped no_terms = Unit {0}
    AreTyped (term_then t ts) = (IsTyped t × IsInteger (kind_written t)) × AreTyped ts

  -- the right side of a `let`, where it has one
  abbrev pub MaybeTyped : Option Term → Type 0
  MaybeTyped None = Unit {0}
  MaybeTyped (Some t) = IsTyped t

  -- straight commands; what stands in a loop is another block's
  abbrev mutual
    pub ActionTyped : Action → Type 0
    ActionTyped (action id place form) = FormTyped form

    pub FormTyped : ActionForm → Type 0
    FormTyped (lets name declared value) = MaybeTyped value × IsKind (kind_of known name)
    FormTyped (lets_memory name shape shape_places value) = Unit {0}
    FormTyped (views name parent form) = AreTyped (terms (offsets_of form)) × KeepsSized known (hidden_in (way_of known name)) (offsets_of form)
    FormTyped (assigns target value) = IsTyped value × IsKind (kind_of known target)
    FormTyped (stores target value) = IsTyped value × IsTyped target
    FormTyped (reduces target o value) = IsTyped value
    FormTyped (calls function arguments) = Unit {0}
    FormTyped (blocks body) = GroupsTyped body
    FormTyped (decides test chosen other) = (IsTyped test × (kind_written test ≡ Bool)) × (ActionTyped chosen × OtherTyped other)
    FormTyped (repeats test body) = Unit {0}
    FormTyped (counts iterator declared low high factor body combine combine_place) = Unit {0}

    pub OtherTyped : MaybeAction → Type 0
    OtherTyped no_action = Unit {0}
    OtherTyped (one_action a) = ActionTyped a

    pub GroupsTyped : Groups → Type 0
    GroupsTyped no_groups = Unit {0}
    GroupsTyped (group_then part rest) = PartTyped part × GroupsTyped rest

    pub PartTyped : Actions → Type 0
    PartTyped no_actions = Unit {0}
    PartTyped (action_then a rest) = ActionTyped a × PartTyped rest
