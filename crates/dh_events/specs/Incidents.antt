-- What happens in a program in order of evaluation, each access with the number of its Straight phase and of
-- the innermost unrolled loop round it; and where parts begin and end of which no two accesses meet. A phase
-- goes by the number of its first command. `stages` says of each command, by its number, how many phases it
-- has. No parts are told where there is one alone, and none of an `if` in an unrolled loop.
use Rattle.std.specs.Prelude.{ℕ, ◌&&◌, nat_le, nat_lt, Bool, true, false, if◌then◌else◌, List, [], ◌∷◌, ◌++◌, Option, Some, None}
use Rattle.std.specs.Option.{is_none}
use Rattle.dh_base.specs.declared.places.Place.{Place}
use Rattle.dh_value.specs.declared.kinds.Kind.{Kind}
use Rattle.dh_tree.specs.PlainTrees.{Term, term, TermForm, number, truth_value, named, accessed, in_bank, applied, converted, Terms, no_terms, term_then, Action, action, ActionForm, lets, lets_memory, views, assigns, stores, reduces, calls, blocks, decides, repeats, counts, MaybeAction, no_action, one_action, Actions, no_actions, action_then, Groups, no_groups, group_then}
use Rattle.dh_tree.specs.Seen.{terms}
use Rattle.dh_tree.specs.ViewOffsets.{moves, offsets_of}
use Rattle.dh_events.specs.declared.events.Site.{Site}
use Rattle.dh_events.specs.declared.noting.Open.{Open}

pub data PortEvent : Type 0 where
  touches : (access : Term) → (writes : Bool) → (site : Site) → PortEvent
  assigned : (entity : Option ℕ) → PortEvent
  -- an arm of an `if`
  arm_begins : PortEvent
  arm_ends : PortEvent
  -- parts of which no two accesses meet
  begins : PortEvent
  next : PortEvent
  ends : PortEvent

abbrev pub site_at : (phase : ℕ) → (round : Option ℕ) → Site
site_at phase round = record { phase = phase; round = round }

-- Expressions.

abbrev mutual
  -- what an expression reads
  pub term_incidents : Site → Term → List PortEvent
  term_incidents site (term place kind form) = form_incidents site place kind form

  pub form_incidents : Site → Place → Option Kind → TermForm → List PortEvent
  form_incidents site place kind (number negative n) = []
  form_incidents site place kind (truth_value value) = []
  form_incidents site place kind (named r) = []
  form_incidents site place kind (accessed r indices) = terms_incidents site indices ++ touches (term place kind (accessed r indices)) false site ∷ []
  form_incidents site place kind (in_bank r bank bank_place row) =
      term_incidents site row ++ touches (term place kind (in_bank r bank bank_place row)) false site ∷ []
  form_incidents site place kind (applied op left right) = term_incidents site left ++ term_incidents site right
  form_incidents site place kind (converted inner to) = term_incidents site inner

  pub terms_incidents : Site → Terms → List PortEvent
  terms_incidents site no_terms = []
  terms_incidents site (term_then t rest) = term_incidents site t ++ terms_incidents site rest

abbrev pub maybe_incidents : Site → Option Term → List PortEvent
maybe_incidents site None = []
maybe_incidents site (Some t) = term_incidents site t

-- a write: what its indices read, and itself; what is no access is read
abbrev pub target_incidents : Site → Term → List PortEvent
target_incidents site (term place kind (accessed r indices)) = terms_incidents site indices ++ touches (term place kind (accessed r indices)) true site ∷ []
target_incidents site (term place kind (in_bank r bank bank_place row)) =
    term_incidents site row ++ touches (term place kind (in_bank r bank bank_place row)) true site ∷ []
target_incidents site (term place kind (number negative n)) = []
target_incidents site (term place kind (truth_value value)) = []
target_incidents site (term place kind (named r)) = []
target_incidents site (term place kind (applied op left right)) = term_incidents site left ++ term_incidents site right
target_incidents site (term place kind (converted inner to)) = term_incidents site inner

-- Phases.

abbrev pub is_stepped : (ℕ → ℕ) → (id : ℕ) → Bool
is_stepped stages id = nat_le 2 (stages id)

abbrev pub open_phases : (going last : Option ℕ) → Open
open_phases going last = record { going = going; last = last }

-- nothing is open, and a Straight phase is
abbrev pub closed : Open
closed = open_phases None None

abbrev pub open_at : Option ℕ → Open
open_at phase = open_phases phase phase

-- what is open into a command and behind it: no phase goes on where it has more than one
abbrev pub released : Bool → Open → Open
released true behind = open_phases None behind.last
released false behind = behind

abbrev pub phase_at : Option ℕ → ℕ → ℕ
phase_at (Some phase) id = phase
phase_at None id = id

-- the phase of a command of this number
abbrev pub phase_of : Open → (id : ℕ) → ℕ
phase_of behind id = phase_at behind.going id

-- the phase of the test of an `if`, and what is open in its arms and behind it
abbrev pub tested : (stepped : Bool) → Open → (id : ℕ) → ℕ
tested stepped behind id = phase_of (released stepped behind) id

abbrev pub inside_choice : (stepped : Bool) → (phase : ℕ) → Open
inside_choice true phase = closed
inside_choice false phase = open_at (Some phase)

-- the innermost unrolled loop inside a loop of this number
abbrev pub round_inside : Option ℕ → (id factor : ℕ) → Option ℕ
round_inside round id factor = if nat_lt 1 factor then Some id else round

-- what is open behind a loop
abbrev pub behind_loop : (stepped : Bool) → Open → Open
behind_loop true behind = closed
behind_loop false behind = behind

-- what is open into the block that joins the copies of a loop: it goes on with the last phase of a turn
abbrev pub into_combine : (stepped : Bool) → Open → Open
into_combine true behind = closed
into_combine false behind = open_at behind.last

-- Parts.

abbrev pub when_parted : Bool → PortEvent → List PortEvent
when_parted true x = x ∷ []
when_parted false x = []

abbrev pub has_other : MaybeAction → Bool
has_other no_action = false
has_other (one_action a) = true

-- the arms of an `if` are parts
abbrev pub arms_part : (round : Option ℕ) → MaybeAction → Bool
arms_part round other = is_none round && has_other other

-- the parts of a block are more than one
abbrev pub are_parts : Groups → Bool
are_parts no_groups = false
are_parts (group_then part no_groups) = false
are_parts (group_then part (group_then other rest)) = true

-- Commands.

abbrev mutual
  -- which phases are open after a command
  pub open_after : (ℕ → ℕ) → Open → Action → Open
  open_after stages behind (action id place form) = form_open stages behind id form

  pub form_open : (ℕ → ℕ) → Open → ℕ → ActionForm → Open
  form_open stages behind id (lets name declared value) = open_at (Some (phase_of behind id))
  form_open stages behind id (lets_memory name shape shape_places value) = behind
  form_open stages behind id (views name parent form) = if moves form then open_at (Some (phase_of behind id)) else behind
  form_open stages behind id (assigns target value) = open_at (Some (phase_of behind id))
  form_open stages behind id (stores target value) = open_at (Some (phase_of behind id))
  form_open stages behind id (reduces target op value) = open_at (Some (phase_of behind id))
  form_open stages behind id (calls function arguments) = behind
  form_open stages behind id (blocks body) = released (is_stepped stages id) (groups_open stages (is_stepped stages id) (released (is_stepped stages id) behind) body)
  form_open stages behind id (decides test chosen other) = inside_choice (is_stepped stages id) (tested (is_stepped stages id) behind id)
  form_open stages behind id (repeats test body) = closed
  form_open stages behind id (counts iterator declared low high factor body combine combine_place) = behind_loop (is_stepped stages id) behind

  -- after parts
  pub groups_open : (ℕ → ℕ) → (stepped : Bool) → Open → Groups → Open
  groups_open stages stepped behind no_groups = behind
  groups_open stages stepped behind (group_then part rest) = groups_open stages stepped (part_open stages (released stepped behind) part) rest

  pub part_open : (ℕ → ℕ) → Open → Actions → Open
  part_open stages behind no_actions = behind
  part_open stages behind (action_then a rest) = part_open stages (open_after stages behind a) rest

-- what is open into the block that joins the copies of a loop, behind its body
abbrev pub open_combine : (ℕ → ℕ) → (behind : Open) → MaybeAction → Open
open_combine stages behind no_action = closed
open_combine stages behind (one_action (action id place form)) = into_combine (is_stepped stages id) behind

abbrev mutual
  -- what happens in a command inside this loop, behind open phases
  pub incidents : (ℕ → ℕ) → (round : Option ℕ) → Open → Action → List PortEvent
  incidents stages round behind (action id place form) = command_incidents stages round behind id form

  pub command_incidents : (ℕ → ℕ) → (round : Option ℕ) → Open → ℕ → ActionForm → List PortEvent
  command_incidents stages round behind id (lets name declared value) = maybe_incidents (site_at (phase_of behind id) round) value ++ assigned name.entity ∷ []
  command_incidents stages round behind id (lets_memory name shape shape_places value) = []
  command_incidents stages round behind id (views name parent form) = terms_incidents (site_at (phase_of behind id) round) (terms (offsets_of form))
  command_incidents stages round behind id (assigns target value) = term_incidents (site_at (phase_of behind id) round) value ++ assigned target.entity ∷ []
  command_incidents stages round behind id (stores target value) =
      term_incidents (site_at (phase_of behind id) round) value ++ target_incidents (site_at (phase_of behind id) round) target
  command_incidents stages round behind id (reduces target op value) = term_incidents (site_at (phase_of behind id) round) value ++ assigned target.entity ∷ []
  command_incidents stages round behind id (calls function arguments) = []
  command_incidents stages round behind id (blocks body) =
      when_parted (are_parts body) begins
      ++ (groups_incidents stages round (is_stepped stages id) (are_parts body) (released (is_stepped stages id) behind) body
      ++ when_parted (are_parts body) ends)
  command_incidents stages round behind id (decides test chosen other) =
      term_incidents (site_at (tested (is_stepped stages id) behind id) round) test
      ++ (when_parted (arms_part round other) begins
      ++ (arm_begins ∷ (incidents stages round (inside_choice (is_stepped stages id) (tested (is_stepped stages id) behind id)) chosen
      ++ (arm_ends ∷ (when_parted (arms_part round other) next
      ++ (other_incidents stages round (inside_choice (is_stepped stages id) (tested (is_stepped stages id) behind id)) other
      ++ when_parted (arms_part round other) ends))))))
  command_incidents stages round behind id (repeats test body) =
      begins ∷ (term_incidents (site_at id round) test ++ (next ∷ (incidents stages round closed body ++ ends ∷ [])))
  command_incidents stages round behind id (counts iterator declared low high factor body combine combine_place) =
      assigned iterator.entity
      ∷ (incidents stages (round_inside round id factor.value) closed body
      ++ combine_incidents stages (round_inside round id factor.value) (open_combine stages (open_after stages closed body) combine) combine)

  -- in an arm that may lack
  pub other_incidents : (ℕ → ℕ) → (round : Option ℕ) → Open → MaybeAction → List PortEvent
  other_incidents stages round behind no_action = []
  other_incidents stages round behind (one_action a) = arm_begins ∷ (incidents stages round behind a ++ arm_ends ∷ [])

  -- in a block that joins copies
  pub combine_incidents : (ℕ → ℕ) → (round : Option ℕ) → Open → MaybeAction → List PortEvent
  combine_incidents stages round behind no_action = []
  combine_incidents stages round behind (one_action a) = incidents stages round behind a

  pub groups_incidents : (ℕ → ℕ) → (round : Option ℕ) → (stepped parted : Bool) → Open → Groups → List PortEvent
  groups_incidents stages round stepped parted behind no_groups = []
  groups_incidents stages round stepped parted behind (group_then part rest) =
      part_incidents stages round (released stepped behind) part
      ++ (when_parted parted next
      ++ groups_incidents stages round stepped parted (part_open stages (released stepped behind) part) rest)

  pub part_incidents : (ℕ → ℕ) → (round : Option ℕ) → Open → Actions → List PortEvent
  part_incidents stages round behind no_actions = []
  part_incidents stages round behind (action_then a rest) = incidents stages round behind a ++ part_incidents stages round (open_after stages behind a) rest
