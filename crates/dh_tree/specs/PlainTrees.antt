-- Programs as the definitions see them: trees without memory management. A tree of the code stands
-- for one of these.
use Rattle.std.specs.Prelude.{ℕ, Bool, List, Option}
use Rattle.dh_base.specs.declared.places.Place.{Place}
use Rattle.dh_value.specs.declared.kinds.Kind.{Kind}
use Rattle.dh_tree.specs.declared.tables.Shape.{Shape}
use Rattle.dh_value.specs.declared.operators.Op.{Op}
use Rattle.dh_tree.specs.declared.trees.expressions.Ref.{Ref}
use Rattle.dh_tree.specs.declared.trees.programs.ShapePlaces.{ShapePlaces}
use Rattle.dh_tree.specs.declared.trees.programs.Entity.{Entity}

mutual
  -- an expression
  pub data Term : Type 0 where
    term : (place : Place) → (kind : Option Kind) → (form : TermForm) → Term

  pub data TermForm : Type 0 where
    number : (negative : Bool) → (value : ℕ) → TermForm
    truth_value : (value : Bool) → TermForm
    named : (of : Ref) → TermForm
    accessed : (of : Ref) → (indices : Terms) → TermForm
    in_bank : (of : Ref) → (bank : ℕ) → (bank_place : Place) → (row : Term) → TermForm
    applied : (op : Op) → (left right : Term) → TermForm
    converted : (inner : Term) → (to : Kind) → TermForm

  pub data Terms : Type 0 where
    no_terms : Terms
    term_then : Term → Terms → Terms

-- a factor of a view and its offset
pub record Suffixed : Type 0 where
  pub factor : ℕ
  pub offset : Term

-- the form of a view
pub data ViewPlan : Type 0 where
  shrinks : (by : List ℕ) → (by_place : List Place) → ViewPlan
  splits : (by : List ℕ) → (by_place : List Place) → ViewPlan
  suffixes : (by : List Suffixed) → (by_place : List Place) → ViewPlan
  shifts : (by : List Term) → ViewPlan

-- a number where it stands
pub record Placed : Type 0 where
  pub value : ℕ
  pub place : Place

-- the copies of a loop's body, where their number stands, and where the word `unroll` does
pub record Unrolled : Type 0 where
  pub value : ℕ
  pub place : Place
  pub word : Place

mutual
  -- a command with its number
  pub data Action : Type 0 where
    action : (id : ℕ) → (place : Place) → (form : ActionForm) → Action

  pub data ActionForm : Type 0 where
    lets : (name : Ref) → (declared : Option Kind) → (value : Option Term) → ActionForm
    lets_memory : (name : Ref) → (shape : Shape) → (shape_places : ShapePlaces) → (value : Option Term) → ActionForm
    views : (name parent : Ref) → (form : ViewPlan) → ActionForm
    assigns : (target : Ref) → (value : Term) → ActionForm
    stores : (target : Term) → (value : Term) → ActionForm
    reduces : (target : Ref) → (op : Op) → (value : Term) → ActionForm
    calls : (function : Ref) → (arguments : List Term) → ActionForm
    blocks : (body : Groups) → ActionForm
    decides : (test : Term) → (yes : Action) → (other : MaybeAction) → ActionForm
    repeats : (test : Term) → (body : Action) → ActionForm
    counts : (iterator : Ref) → (declared : Option Kind) → (low high : Placed) → (factor : Unrolled) → (body : Action) → (combine : MaybeAction) → (combine_place : Place) → ActionForm

  pub data MaybeAction : Type 0 where
    no_action : MaybeAction
    one_action : Action → MaybeAction

  pub data Actions : Type 0 where
    no_actions : Actions
    action_then : Action → Actions → Actions

  -- the parts between `---`
  pub data Groups : Type 0 where
    no_groups : Groups
    group_then : Actions → Groups → Groups

pub record Declared : Type 0 where
  pub name : Ref
  pub shape : Shape
  pub shape_places : ShapePlaces

pub record Formal : Type 0 where
  pub name : Ref
  pub shape : Option Shape
  pub shape_places : ShapePlaces
  pub kind : Kind

pub record Defined : Type 0 where
  pub place : Place
  pub name : Ref
  pub parameters : List Formal
  pub body : Action

-- a program; it has no entities before its names are resolved
pub record Program : Type 0 where
  pub decls : List Declared
  pub functions : List Defined
  pub body : Action
  pub entities : List Entity

-- what holds of a program holds still when it is changed so
abbrev pub StaysAfter : (Program → Program) → (Program → Type 0) → Type 0
StaysAfter change fact = (p : Program) → fact p → fact (change p)
