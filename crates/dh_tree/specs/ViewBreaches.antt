-- Which views of a program, and which accesses through them, break a rule: their factors and brackets, and physical
-- accesses through them, `ViewFactor` (K13); and indices of accesses through them, which are judged as those of a memory
-- of the view's shape, `BankUnroll` (K10), `DynamicBank` (K11) and `ConstantRange` (K12). Such an access adds no breach
-- where a rule is broken by the shape of the memory, or by a factor or bracket on the way to it. The offsets of views
-- have all breaches of their indices here, those of accesses of memories too. (The rules of this profile, after Nigam
-- and others, PLDI 2020.) Calls are not built and have none.
use Rattle.std.specs.Prelude.{ℕ, Bool, true, false, if◌then◌else◌, List, [], ◌∷◌, ◌++◌, Option, Some, None}
use Rattle.std.specs.Option.{is_some}
use Rattle.dh_base.specs.declared.rules.Rule.TheVariants.{ViewFactor}
use Rattle.dh_tree.specs.declared.breaches.Breach.{Breach}
use Rattle.dh_tree.specs.declared.tables.Dim.{Dim}
use Rattle.dh_tree.specs.declared.tables.Shape.{Shape}
use Rattle.dh_tree.specs.declared.trees.expressions.Ref.{Ref}
use Rattle.dh_tree.specs.declared.viewing.Viewed.{Viewed}
use Rattle.dh_tree.specs.declared.viewing.ViewMap.{ViewMap}
use Rattle.dh_tree.specs.Indices.{IndexContext, index_context_of, access_index_breaches, index_breaches_of, term_index_breaches, shape_keeps}
use Rattle.dh_tree.specs.Kinds.{when}
use Rattle.dh_tree.specs.LeastBreach.{breach}
use Rattle.dh_tree.specs.Memories.{Memory, memories_of, memory_in}
use Rattle.dh_tree.specs.PlainTrees.{Term, term, TermForm, number, truth_value, named, accessed, in_bank, applied, converted, Terms, no_terms, term_then, Action, action, ActionForm, lets, lets_memory, views, assigns, stores, reduces, calls, blocks, decides, repeats, counts, MaybeAction, no_action, one_action, Actions, no_actions, action_then, Groups, no_groups, group_then, Program}
use Rattle.dh_tree.specs.ViewFactors.{viewing_breaches, factor_breaches_of}
use Rattle.dh_tree.specs.ViewOffsets.{offsets_of}
use Rattle.dh_tree.specs.Views.{Viewing, view_in, viewed_in, viewed_of, views_of}

-- Views that keep the rules.

abbrev pub breaks_none : List Breach → Bool
breaks_none [] = true
breaks_none (b ∷ bs) = false

-- the shape of a memory, or else of a view, that keeps the rules
abbrev pub kept_shape : Option Memory → Option ViewMap → Option Shape
kept_shape (Some m) view = if shape_keeps m.shape then Some m.shape else None
kept_shape None (Some v) = Some v.shape
kept_shape None None = None

abbrev pub kept_shape_in : List Memory → (kept : List Viewed) → Option ℕ → Option Shape
kept_shape_in ms kept entity = kept_shape (memory_in ms entity) (view_in kept entity)

-- a view of what keeps the rules, where its own factors and brackets do
abbrev pub kept_of : Viewing → Option Shape → List Viewed
kept_of v parent = if breaks_none (viewing_breaches v parent) then viewed_of v parent else []

-- those behind others
abbrev pub kept_behind : List Memory → (before : List Viewed) → List Viewing → List Viewed
kept_behind ms before [] = before
kept_behind ms before (v ∷ vs) = kept_behind ms (before ++ kept_of v (kept_shape_in ms before v.parent.entity)) vs

-- the views of a program that keep the rules, and of which all on the way to their memory do
abbrev pub kept_views : Program → List Viewed
kept_views p = kept_behind (memories_of p) [] (views_of p)

-- Accesses through views.

-- a program's names, with its views and with those of them that keep the rules
pub record KnownViews : Type 0 where
  pub names : IndexContext
  pub views : List Viewed
  pub kept : List Viewed

abbrev pub known_views : Program → KnownViews
known_views p = record { names = index_context_of p; views = viewed_in p; kept = kept_views p }

abbrev pub dims_through : Option ViewMap → Option (List Dim)
dims_through None = None
dims_through (Some v) = Some v.shape.dims

-- at the name, where a physical access goes through a view
abbrev pub physical_broken : Option ViewMap → Ref → List Breach
physical_broken view r = when (is_some view) (breach ViewFactor r.place ∷ [])

abbrev mutual
  -- the breaches in an expression
  pub term_view_breaches : KnownViews → Term → List Breach
  term_view_breaches known (term place kind form) = form_view_breaches known form

  pub form_view_breaches : KnownViews → TermForm → List Breach
  form_view_breaches known (number negative n) = []
  form_view_breaches known (truth_value value) = []
  form_view_breaches known (named r) = []
  form_view_breaches known (accessed r indices) =
      access_index_breaches known.names.counters (dims_through (view_in known.kept r.entity)) indices ++ terms_view_breaches known indices
  form_view_breaches known (in_bank r bank bank_place row) = physical_broken (view_in known.views r.entity) r ++ term_view_breaches known row
  form_view_breaches known (applied o left right) = term_view_breaches known left ++ term_view_breaches known right
  form_view_breaches known (converted inner to) = term_view_breaches known inner

  pub terms_view_breaches : KnownViews → Terms → List Breach
  terms_view_breaches known no_terms = []
  terms_view_breaches known (term_then t rest) = term_view_breaches known t ++ terms_view_breaches known rest

abbrev pub maybe_view_breaches : KnownViews → Option Term → List Breach
maybe_view_breaches known None = []
maybe_view_breaches known (Some t) = term_view_breaches known t

-- offsets: the breaches of accesses of memories, too
abbrev pub offsets_view_breaches : KnownViews → List Term → List Breach
offsets_view_breaches known [] = []
offsets_view_breaches known (t ∷ ts) = (term_index_breaches known.names t ++ term_view_breaches known t) ++ offsets_view_breaches known ts

abbrev mutual
  -- the breaches in a command
  pub action_view_breaches : KnownViews → Action → List Breach
  action_view_breaches known (action id place form) = action_form_view_breaches known form

  pub action_form_view_breaches : KnownViews → ActionForm → List Breach
  action_form_view_breaches known (lets name declared value) = maybe_view_breaches known value
  action_form_view_breaches known (lets_memory name shape shape_places value) = maybe_view_breaches known value
  action_form_view_breaches known (views name parent form) = offsets_view_breaches known (offsets_of form)
  action_form_view_breaches known (assigns target value) = term_view_breaches known value
  action_form_view_breaches known (stores target value) = term_view_breaches known target ++ term_view_breaches known value
  action_form_view_breaches known (reduces target op value) = term_view_breaches known value
  action_form_view_breaches known (calls function arguments) = []
  action_form_view_breaches known (decides test chosen other) =
      term_view_breaches known test ++ (action_view_breaches known chosen ++ other_view_breaches known other)
  action_form_view_breaches known (repeats test body) = term_view_breaches known test ++ action_view_breaches known body
  action_form_view_breaches known (counts i declared low high factor body combine combine_place) =
      action_view_breaches known body ++ other_view_breaches known combine
  action_form_view_breaches known (blocks body) = groups_view_breaches known body

  pub other_view_breaches : KnownViews → MaybeAction → List Breach
  other_view_breaches known no_action = []
  other_view_breaches known (one_action a) = action_view_breaches known a

  pub groups_view_breaches : KnownViews → Groups → List Breach
  groups_view_breaches known no_groups = []
  groups_view_breaches known (group_then part rest) = part_view_breaches known part ++ groups_view_breaches known rest

  pub part_view_breaches : KnownViews → Actions → List Breach
  part_view_breaches known no_actions = []
  part_view_breaches known (action_then a rest) = action_view_breaches known a ++ part_view_breaches known rest

-- the breaches of the views of a program and of accesses through them
abbrev pub view_breaches_of : Program → List Breach
view_breaches_of p = factor_breaches_of p ++ action_view_breaches (known_views p) p.body

-- all breaches of the rules on shapes, indices, bounds and views
abbrev pub shapes_breaches_of : Program → List Breach
shapes_breaches_of p = index_breaches_of p ++ view_breaches_of p
