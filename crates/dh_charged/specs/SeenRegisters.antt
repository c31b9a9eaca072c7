-- Which registers the operations of commands see, and which variables they give values to: those of the names in their
-- expressions and of what they assign to, at the paths at which they are done.
use Rattle.std.specs.Prelude.{◌≡◌, ℕ, suc, ◌<◌, List, [], ◌∷◌, ◌++◌, Some, None}
use Rattle.std.specs.List.{AllByRecursion}
use Rattle.dh_tree.specs.declared.trees.expressions.Ref.{Ref}
use Rattle.dh_tree.specs.Indices.{form_of}
use Rattle.dh_tree.specs.PlainTrees as plain
use Rattle.dh_tree.specs.PlainTrees.{Action, action, ActionForm, lets, lets_memory, views, assigns, stores, reduces, calls, blocks, decides, repeats, counts, MaybeAction, no_action, one_action, Actions, no_actions, action_then, Groups, no_groups, group_then}
use Rattle.dh_tree.specs.Seen.{terms}
use Rattle.dh_tree.specs.ViewOffsets.{offsets_of}
use Rattle.dh_meaning.specs.CoreOf.{Known, entity_number, way_of}
use Rattle.dh_meaning.specs.Ways.{Hidden, hidden_in}
use Rattle.dh_code.specs.Slots.{held_at}
use Rattle.dh_plan.specs.declared.operations.Operation.{Operation}
use Rattle.dh_plan.specs.declared.operations.OperationForm.{OperationForm}
use Rattle.dh_expressions.specs.declared.drafts.Draft.{Draft}
use Rattle.dh_expressions.specs.declared.scenes.Around.{Around}
use Rattle.dh_expressions.specs.declared.scenes.Scene.{Scene}
use Rattle.dh_expressions.specs.Evaluated.{counter_of, hidden_register}
use Rattle.dh_formed.specs.Counted.{FormIs, register_seen}
use Rattle.dh_commands.specs.declared.assignments.Change.{Change}
use Rattle.dh_commands.specs.declared.buildings.Building.{Building}
use Rattle.dh_commands.specs.LanesRun.{lane_of, paths_counted}
use Rattle.dh_commands.specs.ShownVariables.{register_in}
use Rattle.dh_commands.specs.Undone.{Logs}

-- an operation sees no other registers than these; it checks nothing and sets none
abbrev pub IsSeeing : (Sees : ℕ → Type 0) → OperationForm → Type 0
IsSeeing Sees form = FormIs Sees (λ r. Unit {0}) (λ r. Unit {0}) (λ r. Unit {0}) form

-- each operation that was added is so
pub record AddsSeeing (Sees : ℕ → Type 0) (old new : Draft) : Type 0 where
  pub more : List Operation
  pub adds : new.operations.items ≡ old.operations.items ++ more
  pub each : AllByRecursion (λ o. IsSeeing Sees o.form) more

-- Names. Each name of an expression is one of these, and so is what keeps an offset on the way of one that is accessed.
module _ (known : Known) (Named : Ref → Type 0) (Kept : Hidden → Type 0) where
  abbrev pub NamesWay : Ref → Type 0
  NamesWay r = AllByRecursion (λ (h : Hidden). Kept h) (hidden_in (way_of known r))

  abbrev mutual
    pub NamesTerm : plain.Term → Type 0
    NamesTerm (plain.term place kind form) = NamesForm form

    pub NamesForm : plain.TermForm → Type 0
    NamesForm (plain.number negative z) = Unit {0}
    NamesForm (plain.truth_value b) = Unit {0}
    NamesForm (plain.named r) = Named r
    NamesForm (plain.accessed r ts) = NamesTerms ts × NamesWay r
    NamesForm (plain.in_bank r bank at row) = NamesTerm row
    NamesForm (plain.applied op left right) = NamesTerm left × NamesTerm right
    NamesForm (plain.converted inner to) = NamesTerm inner

    pub NamesTerms : plain.Terms → Type 0
    NamesTerms plain.no_terms = Unit {0}
    NamesTerms (plain.term_then t ts) = NamesTerm t × NamesTerms ts

  -- in what names the element of a store
  abbrev pub NamesAim : plain.TermForm → Type 0
  NamesAim (plain.accessed r ts) = NamesTerms ts × NamesWay r
  NamesAim (plain.in_bank r bank at row) = NamesTerm row
  NamesAim (plain.number negative z) = Unit {0}
  NamesAim (plain.truth_value b) = Unit {0}
  NamesAim (plain.named r) = Unit {0}
  NamesAim (plain.applied op left right) = Unit {0}
  NamesAim (plain.converted inner to) = Unit {0}

-- So is each name in a command, but for what is assigned to, which is one of the goals. A loop has no turn where it
-- stands in a straight command. What a view keeps is given to variables that follow one another.
module _ (known : Known) (Named : Ref → Type 0) (Kept : Hidden → Type 0) (Goal : (entity : ℕ) → Type 0) where
  abbrev pub GoalsFrom : (first : ℕ) → List plain.Term → Type 0
  GoalsFrom first [] = Unit {0}
  GoalsFrom first (t ∷ ts) = Goal first × GoalsFrom (suc first) ts

  abbrev pub NamesView : List Hidden → (offsets : List plain.Term) → Type 0
  NamesView [] offsets = Unit {0}
  NamesView (h ∷ hs) offsets = NamesTerms known Named Kept (terms offsets) × GoalsFrom h.entity offsets

  abbrev mutual
    pub NamesCommand : Action → Type 0
    NamesCommand (action id place form) = NamesAction form

    pub NamesAction : ActionForm → Type 0
    NamesAction (lets name declared (Some value)) = NamesTerm known Named Kept value × Goal (entity_number name.entity)
    NamesAction (lets name declared None) = Goal (entity_number name.entity)
    NamesAction (assigns target value) = NamesTerm known Named Kept value × Goal (entity_number target.entity)
    NamesAction (stores target value) = NamesTerm known Named Kept value × NamesAim known Named Kept (form_of target)
    NamesAction (reduces target op value) = NamesTerm known Named Kept value × Goal (entity_number target.entity)
    NamesAction (decides test chosen other) = NamesTerm known Named Kept test × (NamesCommand chosen × NamesOther other)
    NamesAction (blocks body) = NamesGroups body
    NamesAction (lets_memory name shape shape_places value) = Unit {0}
    NamesAction (views name parent form) = NamesView (hidden_in (way_of known name)) (offsets_of form)
    NamesAction (calls function arguments) = Unit {0}
    NamesAction (repeats test body) = Unit {0}
    NamesAction (counts iterator declared low high factor body combine combine_place) = Unit {0}

    pub NamesOther : MaybeAction → Type 0
    NamesOther no_action = Unit {0}
    NamesOther (one_action a) = NamesCommand a

    pub NamesActions : Actions → Type 0
    NamesActions no_actions = Unit {0}
    NamesActions (action_then a rest) = NamesCommand a × NamesActions rest

    pub NamesGroups : Groups → Type 0
    NamesGroups no_groups = Unit {0}
    NamesGroups (group_then part rest) = NamesActions part × NamesGroups rest

-- The registers at the paths of what stands round: those of names are seen, those of goals may be given values.
pub record TellsRegisters (scene : Scene) (around : Around) (Sees Target : ℕ → Type 0) (Named : Ref → Type 0) (Kept : Hidden → Type 0) (Goal : ℕ → Type 0) : Type 0 where
  pub names : (r : Ref) (number : ℕ) → Named r → number < paths_counted around → Sees (register_seen (counter_of scene (entity_number r.entity)) (held_at scene.held.now (entity_number r.entity)) (lane_of around number))
  pub kept : (h : Hidden) (number : ℕ) → Kept h → number < paths_counted around → Sees (hidden_register scene (lane_of around number) h)
  pub goals : (entity number : ℕ) → Goal entity → number < paths_counted around → Target (register_in scene around entity number)
  pub seen : (register : ℕ) → Target register → Sees register

-- what was put down sees such registers, and gave values to such
pub record SeesAndGives (Sees Target : ℕ → Type 0) (old new : Building) : Type 0 where
  pub sees : AddsSeeing Sees old.draft new.draft
  pub logs : Logs (λ (c : Change). Target c.register) old.values new.values
