-- Names stand behind the views that they lead through: what a command accesses leads through views of commands before
-- it alone, so that the variables in which these keep their offsets are below the first one of a view that comes
-- behind; a view keeps its own offsets from that one on; and what is assigned is no such variable.
use Rattle.std.specs.Prelude.{◌≡◌, ℕ, ◌<◌, List, ◌++◌, length, Option, Some, None}
use Rattle.std.specs.List.{AllByRecursion}
use Rattle.dh_tree.specs.declared.trees.expressions.Ref.{Ref}
use Rattle.dh_tree.specs.PlainTrees.{Term, term, TermForm, number, truth_value, named, accessed, in_bank, applied, converted, Terms, no_terms, term_then, ViewPlan, Action, action, ActionForm, lets, lets_memory, views, assigns, stores, reduces, calls, blocks, decides, repeats, counts, MaybeAction, no_action, one_action, Actions, no_actions, action_then, Groups, no_groups, group_then, Program}
use Rattle.dh_tree.specs.Seen.{terms}
use Rattle.dh_tree.specs.ViewOffsets.{offsets_of}
use Rattle.dh_meaning.specs.Bindings.{depth_inside}
use Rattle.dh_meaning.specs.Ways.{Hidden, Way, behind_all, hidden_from, hidden_in, part_standings, standings, way_to}
use Rattle.dh_meets.specs.SourceEvents.{Element, with_indices, in_row, SourceAccess}

-- the offsets on the way of a name are kept below this variable
abbrev pub WayBelow : Program → (x : ℕ) → Option ℕ → Type 0
WayBelow p x entity = AllByRecursion (λ h. h.entity < x) (hidden_in (way_to p entity))

-- a name is one of the program's own, and no hidden variable
abbrev pub IsOwn : Program → Ref → Type 0
IsOwn p r = (n : ℕ) × ((r.entity ≡ Some n) × (n < length p.entities))

abbrev mutual
  pub TermBehind : Program → (x : ℕ) → Term → Type 0
  TermBehind p x (term place kind form) = TermFormBehind p x form

  pub TermFormBehind : Program → (x : ℕ) → TermForm → Type 0
  TermFormBehind p x (number negative n) = Unit {0}
  TermFormBehind p x (truth_value value) = Unit {0}
  TermFormBehind p x (named r) = IsOwn p r
  TermFormBehind p x (accessed r ts) = WayBelow p x r.entity × TermsBehind p x ts
  TermFormBehind p x (in_bank r bank bank_place t) = WayBelow p x r.entity × TermBehind p x t
  TermFormBehind p x (applied o l r) = TermBehind p x l × TermBehind p x r
  TermFormBehind p x (converted t to) = TermBehind p x t

  pub TermsBehind : Program → (x : ℕ) → Terms → Type 0
  TermsBehind p x no_terms = Unit {0}
  TermsBehind p x (term_then t ts) = TermBehind p x t × TermsBehind p x ts

abbrev pub MaybeBehind : Program → (x : ℕ) → Option Term → Type 0
MaybeBehind p x None = Unit {0}
MaybeBehind p x (Some t) = TermBehind p x t

-- an element stands behind views, and an access
abbrev pub ElementBehind : Program → (x : ℕ) → Element → Type 0
ElementBehind p x (with_indices ts) = TermsBehind p x ts
ElementBehind p x (in_row bank t) = TermBehind p x t

abbrev pub AccessBehind : Program → (x : ℕ) → SourceAccess → Type 0
AccessBehind p x a = WayBelow p x a.entity × ElementBehind p x a.element

-- a view that has a way keeps its own offsets from this variable on, inside so many unrolled loops; those of the other
-- views on its way are kept below
pub record KeepsFrom (p : Program) (d x : ℕ) (form : ViewPlan) (w : Way) : Type 0 where
  pub rest : List Hidden
  pub is : w.hidden ≡ hidden_from x d (offsets_of form) ++ rest
  pub below : AllByRecursion (λ h. h.entity < x) rest

abbrev mutual
  -- a command inside so many unrolled loops, where x is the first variable that no view before it takes
  pub ActionBehind : Program → (d x : ℕ) → Action → Type 0
  ActionBehind p d x (action id place form) = FormBehind p d x form

  pub FormBehind : Program → (d x : ℕ) → ActionForm → Type 0
  FormBehind p d x (lets name declared value) = IsOwn p name × MaybeBehind p x value
  FormBehind p d x (lets_memory name shape shape_places value) = Unit {0}
  FormBehind p d x (views name parent form) = ((w : Way) → way_to p name.entity ≡ Some w → KeepsFrom p d x form w) × TermsBehind p x (terms (offsets_of form))
  FormBehind p d x (assigns target value) = IsOwn p target × TermBehind p x value
  FormBehind p d x (stores target value) = TermBehind p x target × TermBehind p x value
  FormBehind p d x (reduces target op value) = IsOwn p target × TermBehind p x value
  FormBehind p d x (calls function arguments) = Unit {0}
  FormBehind p d x (blocks body) = GroupsBehind p d x body
  FormBehind p d x (decides test chosen other) =
      TermBehind p x test × (ActionBehind p d x chosen × OtherBehind p d (behind_all x (standings d chosen)) other)
  FormBehind p d x (repeats test body) = TermBehind p x test × ActionBehind p d x body
  FormBehind p d x (counts iterator declared low high factor body combine combine_place) =
      IsOwn p iterator
      × (ActionBehind p (depth_inside d factor.value) x body × OtherBehind p (depth_inside d factor.value) (behind_all x (standings (depth_inside d factor.value) body)) combine)

  pub OtherBehind : Program → (d x : ℕ) → MaybeAction → Type 0
  OtherBehind p d x no_action = Unit {0}
  OtherBehind p d x (one_action a) = ActionBehind p d x a

  pub GroupsBehind : Program → (d x : ℕ) → Groups → Type 0
  GroupsBehind p d x no_groups = Unit {0}
  GroupsBehind p d x (group_then part rest) = PartBehind p d x part × GroupsBehind p d (behind_all x (part_standings d part)) rest

  pub PartBehind : Program → (d x : ℕ) → Actions → Type 0
  PartBehind p d x no_actions = Unit {0}
  PartBehind p d x (action_then a rest) = ActionBehind p d x a × PartBehind p d (behind_all x (standings d a)) rest

-- all commands of a program do, whose first hidden variable is behind its names
abbrev pub StandsBehindViews : Program → Type 0
StandsBehindViews p = ActionBehind p 0 (length p.entities) p.body
