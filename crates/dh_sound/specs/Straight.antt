-- What is asked of straight commands so that a walk along the trace can follow them: names that are used as
-- variables stand for something, and a store's target is an access. All of it holds of a resolved program of a
-- text.
use Rattle.std.specs.Prelude.{◌≡◌, ℕ, List, [], ◌∷◌, Option, Some, None}
use Rattle.dh_tree.specs.declared.trees.expressions.Ref.{Ref}
use Rattle.dh_tree.specs.PlainTrees.{Term, term, TermForm, number, truth_value, named, accessed, in_bank, applied, converted, Terms, no_terms, term_then, ViewPlan, Action, action, ActionForm, lets, lets_memory, views, assigns, stores, reduces, calls, blocks, decides, repeats, counts, MaybeAction, no_action, one_action, Actions, no_actions, action_then, Groups, no_groups, group_then}
use Rattle.dh_tree.specs.Seen.{terms}
use Rattle.dh_tree.specs.ViewOffsets.{offsets_of}
use Rattle.dh_meaning.specs.CoreOf.{Known, way_of}
use Rattle.dh_meaning.specs.Ways.{Hidden, hidden_in}

-- a name stands for something
abbrev pub StandsForSome : Ref → Type 0
StandsForSome r = (e : ℕ) × (r.entity ≡ Some e)

abbrev mutual
  pub IsNamedTerm : Term → Type 0
  IsNamedTerm (term place k f) = IsNamedTermForm f

  pub IsNamedTermForm : TermForm → Type 0
  IsNamedTermForm (number negative x) = Unit {0}
  IsNamedTermForm (truth_value x) = Unit {0}
  IsNamedTermForm (named r) = StandsForSome r
  IsNamedTermForm (accessed r ts) = AreNamedTerms ts
  IsNamedTermForm (in_bank r bank at t) = IsNamedTerm t
  IsNamedTermForm (applied o l r) = IsNamedTerm l × IsNamedTerm r
  IsNamedTermForm (converted t to) = IsNamedTerm t

  pub AreNamedTerms : Terms → Type 0
  AreNamedTerms no_terms = Unit {0}
  AreNamedTerms (term_then t ts) = IsNamedTerm t × AreNamedTerms ts

abbrev pub MaybeNamed : Option Term → Type 0
MaybeNamed None = Unit {0}
MaybeNamed (Some t) = IsNamedTerm t

-- the target of a store
abbrev pub IsTarget : Term → Type 0
IsTarget (term place k (accessed r ts)) = AreNamedTerms ts
IsTarget (term place k (in_bank r bank at t)) = IsNamedTerm t
IsTarget (term place k (number negative x)) = ⊥
IsTarget (term place k (truth_value x)) = ⊥
IsTarget (term place k (named r)) = ⊥
IsTarget (term place k (applied o l r)) = ⊥
IsTarget (term place k (converted t to)) = ⊥

-- the names of a view's offsets
abbrev pub NamesOffsets : Ref → ViewPlan → Type 0
NamesOffsets name form = AreNamedTerms (terms (offsets_of form))

-- these variables keep offsets where there are any
abbrev pub KeepsAny : List Hidden → List Term → Type 0
KeepsAny [] os = os ≡ []
KeepsAny (h ∷ hs) os = Unit {0}

-- these, where a view whose way keeps nothing has no offsets
abbrev pub NamesKeptOffsets : Known → Ref → ViewPlan → Type 0
NamesKeptOffsets known name form = NamesOffsets name form × KeepsAny (hidden_in (way_of known name)) (offsets_of form)

-- What is asked of a command and of those inside it, where this is asked of each view among them.
module _ (OfView : Ref → ViewPlan → Type 0) where
  abbrev mutual
    pub ActionNames : Action → Type 0
    ActionNames (action id place f) = FormNames f

    pub FormNames : ActionForm → Type 0
    FormNames (lets name declared value) = StandsForSome name × MaybeNamed value
    FormNames (lets_memory name shape shape_places value) = Unit {0}
    FormNames (views name parent form) = OfView name form
    FormNames (assigns target value) = StandsForSome target × IsNamedTerm value
    FormNames (stores target value) = IsTarget target × IsNamedTerm value
    FormNames (reduces target op value) = StandsForSome target × IsNamedTerm value
    FormNames (calls function arguments) = Unit {0}
    FormNames (blocks body) = GroupsName body
    FormNames (decides test chosen other) = IsNamedTerm test × (ActionNames chosen × OtherNames other)
    FormNames (repeats test body) = IsNamedTerm test × ActionNames body
    FormNames (counts iterator declared low high factor body combine combine_place) = StandsForSome iterator × (ActionNames body × OtherNames combine)

    pub OtherNames : MaybeAction → Type 0
    OtherNames no_action = Unit {0}
    OtherNames (one_action a) = ActionNames a

    pub GroupsName : Groups → Type 0
    GroupsName no_groups = Unit {0}
    GroupsName (group_then part rest) = ActionsName part × GroupsName rest

    pub ActionsName : Actions → Type 0
    ActionsName no_actions = Unit {0}
    ActionsName (action_then a rest) = ActionNames a × ActionsName rest

-- its names stand for something
abbrev pub IsNamedAction : Action → Type 0
IsNamedAction a = ActionNames NamesOffsets a

abbrev pub IsNamedForm : ActionForm → Type 0
IsNamedForm f = FormNames NamesOffsets f

abbrev pub IsNamedOther : MaybeAction → Type 0
IsNamedOther other = OtherNames NamesOffsets other

abbrev pub AreNamedGroups : Groups → Type 0
AreNamedGroups gs = GroupsName NamesOffsets gs

abbrev pub AreNamedActions : Actions → Type 0
AreNamedActions part = ActionsName NamesOffsets part

-- and a view whose way keeps nothing has no offsets
abbrev pub IsKeptAction : Known → Action → Type 0
IsKeptAction known a = ActionNames (NamesKeptOffsets known) a

abbrev pub IsKeptForm : Known → ActionForm → Type 0
IsKeptForm known f = FormNames (NamesKeptOffsets known) f

abbrev pub IsKeptOther : Known → MaybeAction → Type 0
IsKeptOther known other = OtherNames (NamesKeptOffsets known) other

abbrev pub AreKeptGroups : Known → Groups → Type 0
AreKeptGroups known gs = GroupsName (NamesKeptOffsets known) gs

abbrev pub AreKeptActions : Known → Actions → Type 0
AreKeptActions known part = ActionsName (NamesKeptOffsets known) part
