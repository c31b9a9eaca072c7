-- The rules on where memories are declared, what is assigned to, and what stands in the copies of a loop's
-- body: `MemoryPlace` (K14), `OuterWrite` (K15), `DivergentSteps` (K16) and `Reducer` (K17). (The rules of
-- this profile.) Entities are numbered in text order: what is declared outside a loop has a number below
-- that of its iterator, what is declared inside has one above. A view breaks none of these rules but where it
-- stands for a reducer; calls are not built and have no breach.
use Rattle.std.specs.Prelude.{ℕ, ◌&&◌, ◌||◌, not, nat_lt, nat_le, Bool, true, false, if◌then◌else◌, List, [], ◌∷◌, ◌++◌, slice_get, Option, Some, None}
use Rattle.std.specs.Option.{is_some}
use Rattle.dh_base.specs.declared.places.Place.{Place}
use Rattle.dh_base.specs.declared.rules.Rule.TheVariants.{MemoryPlace, OuterWrite, DivergentSteps, Reducer}
use Rattle.dh_tree.specs.declared.breaches.Breach.{Breach}
use Rattle.dh_tree.specs.declared.tables.Dim.{Dim}
use Rattle.dh_tree.specs.declared.tables.Shape.{Shape}
use Rattle.dh_tree.specs.declared.trees.expressions.Ref.{Ref}
use Rattle.dh_tree.specs.declared.trees.programs.Entity.{Entity}
use Rattle.dh_tree.specs.declared.trees.programs.Sort.{Sort}
use Rattle.dh_tree.specs.declared.trees.programs.Sort.TheVariants as sort
use Rattle.dh_tree.specs.Forms.{has_dashes}
use Rattle.dh_tree.specs.Kinds.{when, is_truth}
use Rattle.dh_tree.specs.LeastBreach.{breach}
use Rattle.dh_tree.specs.PhaseKinds.{phase_kind, other_phase_kind, choice_kind}
use Rattle.dh_tree.specs.Scopes.{entity_number}
use Rattle.dh_tree.specs.PlainTrees.{Term, term, TermForm, number, truth_value, named, accessed, in_bank, applied, converted, Action, action, ActionForm, lets, lets_memory, views, assigns, stores, reduces, calls, blocks, decides, repeats, counts, MaybeAction, no_action, one_action, Actions, no_actions, action_then, Groups, no_groups, group_then, Declared, Program}

abbrev pub has_no_dims : List Dim → Bool
has_no_dims [] = true
has_no_dims (d ∷ ds) = false

-- a memory of `bool`, or without dimensions
abbrev pub is_no_memory : Shape → Bool
is_no_memory s = is_truth s.kind || has_no_dims s.dims

abbrev pub is_iterator : Sort → Bool
is_iterator sort.Variable = false
is_iterator sort.Iterator = true
is_iterator sort.Memory = false
is_iterator sort.View = false
is_iterator sort.Function = false

abbrev pub entity_iterates : Option Entity → Bool
entity_iterates None = false
entity_iterates (Some e) = is_iterator e.sort

abbrev pub names_iterator : List Entity → Option ℕ → Bool
names_iterator es None = false
names_iterator es (Some n) = entity_iterates (slice_get es n)

abbrev pub is_plain_variable : Sort → Bool
is_plain_variable sort.Variable = true
is_plain_variable sort.Iterator = false
is_plain_variable sort.Memory = false
is_plain_variable sort.View = false
is_plain_variable sort.Function = false

abbrev pub entity_varies : Option Entity → Bool
entity_varies None = false
entity_varies (Some e) = is_plain_variable e.sort

-- it is a variable, and no iterator
abbrev pub names_variable : List Entity → Option ℕ → Bool
names_variable es None = false
names_variable es (Some n) = entity_varies (slice_get es n)

-- What is round a command.

pub record Context : Type 0 where
  -- a loop or a branch is round it
  pub within : Bool
  -- it stands in the body of a loop of several copies
  pub copied : Bool
  -- nothing that is declared outside the innermost such body has this number or more; 0 where there is none
  pub first : ℕ
  -- the iterator of the loop whose copies the innermost block round it joins that joins copies; none where there
  -- is no such block
  pub joins : Option ℕ

abbrev pub nothing_round : Context
nothing_round = record { within = false; copied = false; first = 0; joins = None }

-- in an arm of an `if`, and in the body of a `while`
abbrev pub branched : Context → Context
branched c = record { within = true; copied = c.copied; first = c.first; joins = c.joins }

-- the first number inside a loop: of one of several copies that of its iterator
abbrev pub first_inside : (first factor : ℕ) → (iterator : Option ℕ) → ℕ
first_inside first factor None = first
first_inside first factor (Some n) = if nat_lt 1 factor then n else first

-- in the body of a loop of so many copies
abbrev pub in_body : Context → (factor : ℕ) → (iterator : Option ℕ) → Context
in_body c factor iterator =
    record { within = true; copied = c.copied || nat_lt 1 factor; first = first_inside c.first factor iterator; joins = c.joins }

-- in the block that joins the copies of a loop, which is no part of the loop's body
abbrev pub in_combine : Context → (iterator : Option ℕ) → Context
in_combine c iterator = record { within = true; copied = c.copied; first = c.first; joins = Some (entity_number iterator) }

-- What is assigned to.

-- an entity has a number below this one
abbrev pub is_from_outside : (first : ℕ) → Option ℕ → Bool
is_from_outside first None = false
is_from_outside first (Some n) = nat_lt n first

-- an entity has a number above this one
abbrev pub is_from_inside : (iterator : ℕ) → Option ℕ → Bool
is_from_inside iterator None = false
is_from_inside iterator (Some n) = nat_lt iterator n

-- an assignment to an iterator, or to what is declared outside the body of several copies round it
abbrev pub is_outer_write : List Entity → (first : ℕ) → (target : Option ℕ) → Bool
is_outer_write es first target = names_iterator es target || is_from_outside first target

abbrev pub outer_write_breaches : List Entity → (first : ℕ) → (target : Ref) → List Breach
outer_write_breaches es first target = when (is_outer_write es first target.entity) (breach OuterWrite target.place ∷ [])

-- Reducers.

-- a loop's copies are folded into a variable that is declared outside the loop
abbrev pub is_folded_into : List Entity → (iterator : ℕ) → (target : Option ℕ) → Bool
is_folded_into es iterator target = names_variable es target && is_from_outside iterator target

-- What is folded is the name of a variable that is declared directly in the loop's body. Of the variables
-- that are declared behind the iterator a block that joins copies sees these, and what is declared in the block
-- itself, where the declaration breaks this rule already.
abbrev pub is_folded : List Entity → (iterator : ℕ) → TermForm → Bool
is_folded es iterator (named r) = names_variable es r.entity && is_from_inside iterator r.entity
is_folded es iterator (number negative n) = false
is_folded es iterator (truth_value value) = false
is_folded es iterator (accessed r indices) = false
is_folded es iterator (in_bank r bank bank_place row) = false
is_folded es iterator (applied o left right) = false
is_folded es iterator (converted inner to) = false

-- the right side of a reducer
abbrev pub folded_breaches : List Entity → (iterator : ℕ) → Term → List Breach
folded_breaches es iterator (term place kind form) = when (not (is_folded es iterator form)) (breach Reducer place ∷ [])

-- a reducer in a block that joins the copies of the loop with this iterator, or in none such
abbrev pub reducer_breaches : List Entity → (joins : Option ℕ) → (target : Ref) → (value : Term) → List Breach
reducer_breaches es None target value = breach Reducer target.place ∷ []
reducer_breaches es (Some iterator) target value =
    when (not (is_folded_into es iterator target.entity)) (breach Reducer target.place ∷ []) ++ folded_breaches es iterator value

abbrev pub is_reducer : ActionForm → Bool
is_reducer (lets name declared value) = false
is_reducer (lets_memory name shape shape_places value) = false
is_reducer (views name parent form) = false
is_reducer (assigns target value) = false
is_reducer (stores target value) = false
is_reducer (reduces target o value) = true
is_reducer (calls function arguments) = false
is_reducer (blocks body) = false
is_reducer (decides test chosen other) = false
is_reducer (repeats test body) = false
is_reducer (counts iterator declared low high factor body combine combine_place) = false

-- in a block that joins copies there is no command but reducers
abbrev pub joined_breaches : (joins : Option ℕ) → Action → List Breach
joined_breaches joins (action id place form) = when (is_some joins && not (is_reducer form)) (breach Reducer place ∷ [])

-- a block without `---`
abbrev pub is_one_part : ActionForm → Bool
is_one_part (lets name declared value) = false
is_one_part (lets_memory name shape shape_places value) = false
is_one_part (views name parent form) = false
is_one_part (assigns target value) = false
is_one_part (stores target value) = false
is_one_part (reduces target o value) = false
is_one_part (calls function arguments) = false
is_one_part (blocks body) = not (has_dashes body)
is_one_part (decides test chosen other) = false
is_one_part (repeats test body) = false
is_one_part (counts iterator declared low high factor body combine combine_place) = false

-- what joins copies is a block without `---`, and else breaks the rule at the word `combine`; in a text it is a
-- block always
abbrev pub combine_breaches : MaybeAction → (word : Place) → List Breach
combine_breaches no_action word = []
combine_breaches (one_action (action id place form)) word = when (not (is_one_part form)) (breach Reducer word ∷ [])

-- Commands.

-- an `if` that is not straight, by how many phases its arms have
abbrev pub is_stepped_choice : (chosen other : ℕ) → Bool
is_stepped_choice chosen other = nat_le 2 (choice_kind chosen other)

abbrev mutual
  -- the breaches in a command that has this round it
  pub action_placement_breaches : List Entity → Context → Action → List Breach
  action_placement_breaches es c (action id place form) = form_placement_breaches es c place form

  pub form_placement_breaches : List Entity → Context → Place → ActionForm → List Breach
  form_placement_breaches es c place (lets name declared value) = []
  form_placement_breaches es c place (lets_memory name shape shape_places value) =
      when (c.within || (is_no_memory shape || is_some value)) (breach MemoryPlace name.place ∷ [])
  form_placement_breaches es c place (views name parent form) = []
  form_placement_breaches es c place (assigns target value) = outer_write_breaches es c.first target
  form_placement_breaches es c place (stores target value) = []
  form_placement_breaches es c place (reduces target o value) = reducer_breaches es c.joins target value
  form_placement_breaches es c place (calls function arguments) = []
  form_placement_breaches es c place (blocks body) = groups_placement_breaches es c body
  form_placement_breaches es c place (decides test chosen other) =
      action_placement_breaches es (branched c) chosen
      ++ (other_placement_breaches es (branched c) other
      ++ when (c.copied && is_stepped_choice (phase_kind chosen) (other_phase_kind other)) (breach DivergentSteps place ∷ []))
  form_placement_breaches es c place (repeats test body) =
      action_placement_breaches es (branched c) body ++ when c.copied (breach DivergentSteps place ∷ [])
  form_placement_breaches es c place (counts iterator declared low high factor body combine combine_place) =
      action_placement_breaches es (in_body c factor.value iterator.entity) body
      ++ (other_placement_breaches es (in_combine c iterator.entity) combine
      ++ combine_breaches combine combine_place)

  -- an arm of a branch, or a block that joins copies
  pub other_placement_breaches : List Entity → Context → MaybeAction → List Breach
  other_placement_breaches es c no_action = []
  other_placement_breaches es c (one_action a) = action_placement_breaches es c a

  pub actions_placement_breaches : List Entity → Context → Actions → List Breach
  actions_placement_breaches es c no_actions = []
  actions_placement_breaches es c (action_then a rest) =
      action_placement_breaches es c a ++ (joined_breaches c.joins a ++ actions_placement_breaches es c rest)

  pub groups_placement_breaches : List Entity → Context → Groups → List Breach
  groups_placement_breaches es c no_groups = []
  groups_placement_breaches es c (group_then part rest) = actions_placement_breaches es c part ++ groups_placement_breaches es c rest

abbrev pub decls_placement_breaches : List Declared → List Breach
decls_placement_breaches [] = []
decls_placement_breaches (d ∷ ds) = when (is_no_memory d.shape) (breach MemoryPlace d.name.place ∷ []) ++ decls_placement_breaches ds

-- the memories, assignments, steps and reducers of a program that break a rule
abbrev pub placement_breaches : Program → List Breach
placement_breaches p = decls_placement_breaches p.decls ++ action_placement_breaches p.entities nothing_round p.body
