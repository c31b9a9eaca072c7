-- The kinds that a program writes have from 1 to 64 bits, as the grammar asks.
use Rattle.std.specs.Prelude.{Option, Some, None}
use Rattle.std.specs.List.{AllByRecursion}
use Rattle.dh_value.specs.declared.kinds.Kind.{Kind}
use Rattle.dh_value.specs.Words.{IsKind}
use Rattle.dh_tree.specs.PlainTrees.{Term, term, TermForm, number, truth_value, named, accessed, in_bank, applied, converted, Terms, no_terms, term_then, ViewPlan, shrinks, splits, suffixes, shifts, Action, action, ActionForm, lets, lets_memory, views, assigns, stores, reduces, calls, blocks, decides, repeats, counts, MaybeAction, no_action, one_action, Actions, no_actions, action_then, Groups, no_groups, group_then, Defined, Program}

abbrev pub IsSized : Option Kind → Type 0
IsSized None = Unit {0}
IsSized (Some k) = IsKind k

abbrev mutual
  -- the kinds of casts in an expression
  pub AreSized : Term → Type 0
  AreSized (term place kind form) = AreSizedIn form

  pub AreSizedIn : TermForm → Type 0
  AreSizedIn (number negative n) = Unit {0}
  AreSizedIn (truth_value value) = Unit {0}
  AreSizedIn (named r) = Unit {0}
  AreSizedIn (accessed r indices) = AreAllSized indices
  AreSizedIn (in_bank r bank bank_place row) = AreSized row
  AreSizedIn (applied o left right) = AreSized left × AreSized right
  AreSizedIn (converted inner to) = IsKind to × AreSized inner

  pub AreAllSized : Terms → Type 0
  AreAllSized no_terms = Unit {0}
  AreAllSized (term_then t rest) = AreSized t × AreAllSized rest

abbrev pub MaybeSized : Option Term → Type 0
MaybeSized None = Unit {0}
MaybeSized (Some t) = AreSized t

abbrev pub PlanSized : ViewPlan → Type 0
PlanSized (shrinks by by_place) = Unit {0}
PlanSized (splits by by_place) = Unit {0}
PlanSized (suffixes by by_place) = AllByRecursion (λ s. AreSized s.offset) by
PlanSized (shifts by) = AllByRecursion AreSized by

abbrev mutual
  -- the kinds in a command
  pub ActionSized : Action → Type 0
  ActionSized (action id place form) = FormSized form

  pub FormSized : ActionForm → Type 0
  FormSized (lets name declared value) = IsSized declared × MaybeSized value
  FormSized (lets_memory name shape shape_places value) = IsKind shape.kind × MaybeSized value
  FormSized (views name parent form) = PlanSized form
  FormSized (assigns target value) = AreSized value
  FormSized (stores target value) = AreSized target × AreSized value
  FormSized (reduces target o value) = AreSized value
  FormSized (calls function arguments) = AllByRecursion AreSized arguments
  FormSized (blocks body) = GroupsSized body
  FormSized (decides test chosen other) = AreSized test × (ActionSized chosen × OtherSized other)
  FormSized (repeats test body) = AreSized test × ActionSized body
  FormSized (counts iterator declared low high factor body combine combine_place) = IsSized declared × (ActionSized body × OtherSized combine)

  pub OtherSized : MaybeAction → Type 0
  OtherSized no_action = Unit {0}
  OtherSized (one_action a) = ActionSized a

  pub ActionsSized : Actions → Type 0
  ActionsSized no_actions = Unit {0}
  ActionsSized (action_then a rest) = ActionSized a × ActionsSized rest

  pub GroupsSized : Groups → Type 0
  GroupsSized no_groups = Unit {0}
  GroupsSized (group_then g rest) = ActionsSized g × GroupsSized rest

abbrev pub DefinedSized : Defined → Type 0
DefinedSized f = AllByRecursion (λ m. IsKind m.kind) f.parameters × ActionSized f.body

-- every kind that the program writes
pub record HasWidths (p : Program) : Type 0 where
  pub decls : AllByRecursion (λ d. IsKind d.shape.kind) p.decls
  pub functions : AllByRecursion DefinedSized p.functions
  pub body : ActionSized p.body
