-- The events of a program's text in order of evaluation, each taken once for all its copies: its accesses, and
-- the assignments to its variables. (The order of this profile: the left operand first, an access after its
-- indices, a store's right side before its indices, the offsets of a view from the left.) Calls are not built and
-- have none.
use Rattle.std.specs.Prelude.{ℕ, ◌+◌, Bool, true, false, List, [], ◌∷◌, ◌++◌, Option, Some, None}
use Rattle.dh_base.specs.declared.places.Place.{Place}
use Rattle.dh_tree.specs.declared.trees.counters.Counter.{Counter}
use Rattle.dh_tree.specs.Seen.{terms}
use Rattle.dh_tree.specs.ViewOffsets.{offsets_of}
use Rattle.dh_meaning.specs.Sites.{Arm, Around, nothing_around, in_arm, in_loop, loop_of}
use Rattle.dh_tree.specs.PlainTrees.{Term, term, TermForm, number, truth_value, named, accessed, in_bank, applied, converted, Terms, no_terms, term_then, Action, action, ActionForm, lets, lets_memory, views, assigns, stores, reduces, calls, blocks, decides, repeats, counts, MaybeAction, no_action, one_action, Actions, no_actions, action_then, Groups, no_groups, group_then, Program}

-- which element of what a name stands for: by indices, or by a row of a bank
pub data Element : Type 0 where
  with_indices : (indices : Terms) → Element
  in_row : (bank : ℕ) → (row : Term) → Element

-- where a command stands: its number, the arms round it and the unrolled loops round it, from the outside
pub record Site : Type 0 where
  pub command : ℕ
  pub arms : List Arm
  pub loops : List Counter

-- an access of what a name stands for
pub record SourceAccess : Type 0 where
  pub place : Place
  pub entity : Option ℕ
  pub element : Element
  pub writes : Bool
  pub site : Site

pub data SourceEvent : Type 0 where
  accesses : SourceAccess → SourceEvent
  assigned : (entity : Option ℕ) → SourceEvent

abbrev pub one_access : Place → Option ℕ → Element → Bool → Site → List SourceEvent
one_access place entity element writes site = accesses (record { place = place; entity = entity; element = element; writes = writes; site = site }) ∷ []

abbrev mutual
  -- what an expression reads
  pub source_term_events : Site → Term → List SourceEvent
  source_term_events site (term place kind form) = form_events site place form

  pub form_events : Site → Place → TermForm → List SourceEvent
  form_events site place (number negative n) = []
  form_events site place (truth_value value) = []
  form_events site place (named r) = []
  form_events site place (accessed r indices) = source_terms_events site indices ++ one_access place r.entity (with_indices indices) false site
  form_events site place (in_bank r bank bank_place row) = source_term_events site row ++ one_access place r.entity (in_row bank row) false site
  form_events site place (applied op left right) = source_term_events site left ++ source_term_events site right
  form_events site place (converted inner to) = source_term_events site inner

  pub source_terms_events : Site → Terms → List SourceEvent
  source_terms_events site no_terms = []
  source_terms_events site (term_then t rest) = source_term_events site t ++ source_terms_events site rest

abbrev pub maybe_events : Site → Option Term → List SourceEvent
maybe_events site None = []
maybe_events site (Some t) = source_term_events site t

-- a write: what its indices read, and the write itself; no text has another target than an access
abbrev pub write_events : Site → Term → List SourceEvent
write_events site (term place kind (accessed r indices)) = source_terms_events site indices ++ one_access place r.entity (with_indices indices) true site
write_events site (term place kind (in_bank r bank bank_place row)) = source_term_events site row ++ one_access place r.entity (in_row bank row) true site
write_events site (term place kind (number negative n)) = []
write_events site (term place kind (truth_value value)) = []
write_events site (term place kind (named r)) = []
write_events site (term place kind (applied op left right)) = source_term_events site left ++ source_term_events site right
write_events site (term place kind (converted inner to)) = source_term_events site inner

abbrev pub site_of : Around → (command : ℕ) → Site
site_of r id = record { command = id; arms = r.arms; loops = r.loops }

abbrev mutual
  -- the events of a command with this round it
  pub events : Around → Action → List SourceEvent
  events r (action id place form) = command_events r (site_of r id) form

  pub command_events : Around → Site → ActionForm → List SourceEvent
  command_events r site (lets name declared value) = maybe_events site value ++ assigned name.entity ∷ []
  command_events r site (lets_memory name shape shape_places value) = []
  command_events r site (views name parent form) = source_terms_events site (terms (offsets_of form))
  command_events r site (assigns target value) = source_term_events site value ++ assigned target.entity ∷ []
  command_events r site (stores target value) = source_term_events site value ++ write_events site target
  command_events r site (reduces target op value) = source_term_events site value ++ assigned target.entity ∷ []
  command_events r site (calls function arguments) = []
  command_events r site (blocks body) = groups_events r body
  command_events r site (decides test chosen other) =
      source_term_events site test ++ (events (in_arm r site.command true) chosen ++ other_events (in_arm r site.command false) other)
  command_events r site (repeats test body) = source_term_events site test ++ events r body
  command_events r site (counts iterator declared low high factor body combine combine_place) =
      assigned iterator.entity
      ∷ (events (in_loop r (loop_of iterator low high factor)) body ++ other_events (in_loop r (loop_of iterator low high factor)) combine)

  pub other_events : Around → MaybeAction → List SourceEvent
  other_events r no_action = []
  other_events r (one_action a) = events r a

  pub groups_events : Around → Groups → List SourceEvent
  groups_events r no_groups = []
  groups_events r (group_then part rest) = part_events r part ++ groups_events r rest

  pub part_events : Around → Actions → List SourceEvent
  part_events r no_actions = []
  part_events r (action_then a rest) = events r a ++ part_events r rest

-- the accesses among events; their places in this list are their numbers
abbrev pub accesses_in : List SourceEvent → List SourceAccess
accesses_in [] = []
accesses_in (accesses a ∷ es) = a ∷ accesses_in es
accesses_in (assigned entity ∷ es) = accesses_in es

-- what happens in the program's body
abbrev pub trace : Program → List SourceEvent
trace p = events nothing_around p.body
