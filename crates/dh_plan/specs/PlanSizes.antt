-- The size of a program's plan, and its limit. Each command counts 1, a block among them, and so do each operator
-- and each cast and reducer; an access counts 1 and the banks that it charges. Everything counts once for each
-- copy, and loops without turns count, too. (This profile.)
use Rattle.std.specs.Prelude.{ℕ, zero, suc, ◌+◌, ◌*◌, ◌<◌, nat_lt, min, if◌then◌else◌, List, [], ◌∷◌, length, Option, Some, None}
use Rattle.dh_tree.specs.Memories.{memory_in, memories_of}
use Rattle.dh_tree.specs.PlainTrees.{Term, term, TermForm, number, truth_value, named, accessed, in_bank, applied, converted, Terms, no_terms, term_then, Action, action, ActionForm, lets, lets_memory, views, assigns, stores, reduces, calls, blocks, decides, repeats, counts, MaybeAction, no_action, one_action, Actions, no_actions, action_then, Groups, no_groups, group_then, Program}
use Rattle.dh_meaning.specs.Ways.{base_of, way_to}
use Rattle.dh_meets.specs.Charges.{charge, paths_of, memory_banks}
use Rattle.dh_meets.specs.SourceEvents.{SourceAccess, accesses_in, trace}
use Rattle.dh_tree.specs.Seen.{terms}
use Rattle.dh_tree.specs.ViewOffsets.{offsets_of}

abbrev mutual
  -- the operators and casts of an expression
  pub term_operators : Term → ℕ
  term_operators (term place kind form) = form_operators form

  pub form_operators : TermForm → ℕ
  form_operators (number negative n) = 0
  form_operators (truth_value value) = 0
  form_operators (named r) = 0
  form_operators (accessed r indices) = terms_operators indices
  form_operators (in_bank r bank bank_place row) = term_operators row
  form_operators (applied op left right) = suc (term_operators left + term_operators right)
  form_operators (converted inner to) = suc (term_operators inner)

  pub terms_operators : Terms → ℕ
  terms_operators no_terms = 0
  terms_operators (term_then t rest) = term_operators t + terms_operators rest

abbrev pub maybe_operators : Option Term → ℕ
maybe_operators None = 0
maybe_operators (Some t) = term_operators t

-- those of a command itself, not of commands inside it; a reducer is one
abbrev pub own_operators : ActionForm → ℕ
own_operators (lets name declared value) = maybe_operators value
own_operators (lets_memory name shape shape_places value) = 0
own_operators (views name parent form) = terms_operators (terms (offsets_of form))
own_operators (assigns target value) = term_operators value
own_operators (stores target value) = term_operators value + term_operators target
own_operators (reduces target op value) = suc (term_operators value)
own_operators (calls function arguments) = 0
own_operators (blocks body) = 0
own_operators (decides test chosen other) = term_operators test
own_operators (repeats test body) = term_operators test
own_operators (counts iterator declared low high factor body combine combine_place) = 0

abbrev mutual
  -- commands, operators, casts and reducers, each once for each of so many copies round it
  pub action_size : (copies : ℕ) → Action → ℕ
  action_size copies (action id place form) = copies * suc (own_operators form) + inside_size copies form

  pub inside_size : (copies : ℕ) → ActionForm → ℕ
  inside_size copies (lets name declared value) = 0
  inside_size copies (lets_memory name shape shape_places value) = 0
  inside_size copies (views name parent form) = 0
  inside_size copies (assigns target value) = 0
  inside_size copies (stores target value) = 0
  inside_size copies (reduces target op value) = 0
  inside_size copies (calls function arguments) = 0
  inside_size copies (blocks body) = groups_size copies body
  inside_size copies (decides test chosen other) = action_size copies chosen + other_size copies other
  inside_size copies (repeats test body) = action_size copies body
  inside_size copies (counts iterator declared low high factor body combine combine_place) =
      action_size (copies * factor.value) body + other_size (copies * factor.value) combine

  pub other_size : (copies : ℕ) → MaybeAction → ℕ
  other_size copies no_action = 0
  other_size copies (one_action a) = action_size copies a

  pub groups_size : (copies : ℕ) → Groups → ℕ
  groups_size copies no_groups = 0
  groups_size copies (group_then part rest) = part_size copies part + groups_size copies rest

  pub part_size : (copies : ℕ) → Actions → ℕ
  part_size copies no_actions = 0
  part_size copies (action_then a rest) = action_size copies a + part_size copies rest

-- Accesses.

-- the banks of a memory that an access charges, of the first n
abbrev pub banks_charged : Program → (memory access : ℕ) → (banks : ℕ) → ℕ
banks_charged p memory access zero = 0
banks_charged p memory access (suc bank) = (if nat_lt 0 (charge p memory bank access) then 1 else 0) + banks_charged p memory access bank

abbrev pub entity_banks_charged : Program → (access : ℕ) → (entity : Option ℕ) → ℕ
entity_banks_charged p access None = 0
entity_banks_charged p access (Some memory) = banks_charged p memory access (memory_banks (memory_in (memories_of p) (Some memory)))

-- an access in each copy in which it stands, with the banks that it charges of the memory that its name leads to
abbrev pub access_size : Program → (access : ℕ) → SourceAccess → ℕ
access_size p access a = length (paths_of a) * suc (entity_banks_charged p access (base_of (way_to p a.entity) a.entity))

-- accesses numbered from one on
abbrev pub accesses_size : Program → (from : ℕ) → List SourceAccess → ℕ
accesses_size p from [] = 0
accesses_size p from (a ∷ more) = access_size p from a + accesses_size p (suc from) more

-- the size of a program's plan
abbrev pub plan_size_of : Program → ℕ
plan_size_of p = action_size 1 p.body + accesses_size p 0 (accesses_in (trace p))

-- what is reported of it stops here
abbrev pub greatest_size : ℕ
greatest_size = 1000000000

abbrev pub size_reported : Program → ℕ
size_reported p = min (plan_size_of p) greatest_size

-- the greatest size that is compiled
abbrev pub most_plan : ℕ
most_plan = 200000

-- a plan is above the limit
abbrev pub ExceedsPlan : Program → Type 0
ExceedsPlan p = most_plan < plan_size_of p
