-- What the code notes of what happens.
use Rattle.std.specs.Prelude.{◌≡◌, ℕ, ◌++◌, ◌∷◌, [], Bool, true, false, if◌then◌else◌, List, map, Option, Some, None, option_map, Vec}
use Rattle.std.specs.Global.{Global, Box}
use Rattle.dh_tree.specs.declared.trees.commands.Command.{Command}
use Rattle.dh_tree.specs.declared.trees.expressions.Expr.{Expr}
use Rattle.dh_tree.specs.declared.trees.expressions.Ref.{Ref}
use Rattle.dh_tree.specs.declared.trees.commands.ViewForm.{ViewForm}
use Rattle.dh_tree.specs.PlainTrees.{TermForm, number, truth_value, named, accessed, in_bank, applied, converted, blocks}
use Rattle.dh_tree.specs.Seen.{term_seen, terms, factor_seen, view_plan, action_seen, part_seen, groups, maybe_block_seen}
use Rattle.dh_tree.specs.ViewOffsets.{moves, offsets_of}
use Rattle.dh_events.specs.declared.events.Event.{Event}
use Rattle.dh_events.specs.declared.events.Event.TheVariants as event
use Rattle.dh_events.specs.declared.events.Notes.{Notes}
use Rattle.dh_events.specs.declared.events.Site.{Site}
use Rattle.dh_events.specs.declared.noting.NotingContext.{NotingContext}
use Rattle.dh_events.specs.declared.noting.Open.{Open}
use Rattle.dh_events.specs.Incidents.{PortEvent, touches, assigned, arm_begins, arm_ends, begins, next, ends, site_at, is_stepped, tested, inside_choice, when_parted, has_other, arms_part, term_incidents, terms_incidents, maybe_incidents, target_incidents, incidents, command_incidents, open_after, form_open, combine_incidents, open_combine, groups_incidents, groups_open, closed, open_at}
use Rattle.dh_events.specs.Tables.{table_at}

abbrev pub event_seen : Event → PortEvent
event_seen (event.Touch writes phase round access element newest) = touches (term_seen access.now) writes (site_at phase round)
event_seen (event.Assigned entity) = assigned entity
event_seen event.ArmBegins = arm_begins
event_seen event.ArmEnds = arm_ends
event_seen event.Begins = begins
event_seen event.Next = next
event_seen event.Ends = ends

-- the incidents that events are
abbrev pub all_seen : List Event → List PortEvent
all_seen events = map event_seen events

abbrev pub noted_incidents : Notes → List PortEvent
noted_incidents notes = all_seen notes.events.items

-- what is noted is that before, and behind it these incidents
abbrev pub AddsIncidents : (old new : Notes) → List PortEvent → Type 0
AddsIncidents old new more = noted_incidents new ≡ noted_incidents old ++ more

-- whether it is a number, a truth or a name alone
abbrev pub reads_none : TermForm → Bool
reads_none (number negative n) = true
reads_none (truth_value value) = true
reads_none (named r) = true
reads_none (accessed r indices) = false
reads_none (in_bank r bank bank_place row) = false
reads_none (applied op left right) = false
reads_none (converted inner to) = false

-- what an expression, expressions and one that may lack read, and what a store does to its target
abbrev pub read_by : Site → Expr → List PortEvent
read_by site e = term_incidents site (term_seen e)

abbrev pub all_read_by : Site → List Expr → List PortEvent
all_read_by site es = terms_incidents site (terms (map term_seen es))

abbrev pub maybe_read_by : Site → Option Expr → List PortEvent
maybe_read_by site e = maybe_incidents site (option_map term_seen e)

abbrev pub target_written_by : Site → Expr → List PortEvent
target_written_by site e = target_incidents site (term_seen e)

-- what commands without commands inside do
abbrev pub let_by : Site → Ref → Option Expr → List PortEvent
let_by site name value = maybe_read_by site value ++ assigned name.entity ∷ []

abbrev pub assigned_by : Site → Ref → Expr → List PortEvent
assigned_by site target value = read_by site value ++ assigned target.entity ∷ []

abbrev pub stored_by : Site → (target value : Expr) → List PortEvent
stored_by site target value = read_by site value ++ target_written_by site target

-- which phases are open after a command that stands here
abbrev pub left_open : Site → Open
left_open site = open_at (Some site.phase)

-- what the offsets of a suffix and of any view read
abbrev pub suffixes_read_by : Site → List (ℕ × Expr) → List PortEvent
suffixes_read_by site by = terms_incidents site (terms (map (λ s. s.offset) (map factor_seen by)))

abbrev pub offsets_read_by : Site → ViewForm → List PortEvent
offsets_read_by site form = terms_incidents site (terms (offsets_of (view_plan form)))

-- which phases are open after a view in this one
abbrev pub view_opened_by : Open → (phase : ℕ) → ViewForm → Open
view_opened_by behind phase form = if moves (view_plan form) then open_at (Some phase) else behind

-- how many phases each command has, as the walk knows it
abbrev pub stages_known : NotingContext → ℕ → ℕ
stages_known around = table_at around.stages.now

abbrev pub command_done_by : NotingContext → Open → Command → List PortEvent
command_done_by around behind c = incidents (stages_known around) around.round behind (action_seen c)

abbrev pub opened_by : NotingContext → Open → Command → Open
opened_by around behind c = open_after (stages_known around) behind (action_seen c)

-- what happens in a command that may lack
abbrev pub given_done_by : NotingContext → Open → Option (Box Command) → List PortEvent
given_done_by around behind command = combine_incidents (stages_known around) around.round behind (maybe_block_seen command)

-- what is told before the first arm of an `if`, between its arms and behind them; and what is open in the arms
abbrev pub arms_begun_by : NotingContext → Open → (id : ℕ) → Expr → Option (Box Command) → List PortEvent
arms_begun_by around behind id test other =
    read_by (site_at (tested (is_stepped (stages_known around) id) behind id) around.round) test ++ (when_parted (arms_part around.round (maybe_block_seen other)) begins ++ arm_begins ∷ [])

abbrev pub arms_opened_by : NotingContext → Open → (id : ℕ) → Open
arms_opened_by around behind id = inside_choice (is_stepped (stages_known around) id) (tested (is_stepped (stages_known around) id) behind id)

abbrev pub other_begun_by : (round : Option ℕ) → Option (Box Command) → List PortEvent
other_begun_by round other = arm_ends ∷ (when_parted (arms_part round (maybe_block_seen other)) next ++ when_parted (has_other (maybe_block_seen other)) arm_begins)

abbrev pub arms_ended_by : (round : Option ℕ) → Option (Box Command) → List PortEvent
arms_ended_by round other = when_parted (has_other (maybe_block_seen other)) arm_ends ++ when_parted (arms_part round (maybe_block_seen other)) ends

-- what is told before the body of a `while`, and behind it
abbrev pub turns_begun_by : Site → Expr → List PortEvent
turns_begun_by site test = begins ∷ (read_by site test ++ next ∷ [])

abbrev pub turns_ended_by : List PortEvent
turns_ended_by = ends ∷ []

-- what is open into a block that joins copies, behind a turn that leaves these phases behind
abbrev pub combine_opened_by : NotingContext → (turn : Open) → Option (Box Command) → Open
combine_opened_by around turn combine = open_combine (stages_known around) turn (maybe_block_seen combine)

-- what happens in a block of these parts, by its number, and which phases are open after it
abbrev pub block_done_by : NotingContext → Open → (id : ℕ) → List (Vec Command Global) → List PortEvent
block_done_by around behind id parts = command_incidents (stages_known around) around.round behind id (blocks (groups (map part_seen parts)))

abbrev pub block_opened_by : NotingContext → Open → (id : ℕ) → List (Vec Command Global) → Open
block_opened_by around behind id parts = form_open (stages_known around) behind id (blocks (groups (map part_seen parts)))

-- what happens in the parts of a block, and which phases are open after them
abbrev pub parts_done_by : NotingContext → (stepped parted : Bool) → Open → List (Vec Command Global) → List PortEvent
parts_done_by around stepped parted behind parts = groups_incidents (stages_known around) around.round stepped parted behind (groups (map part_seen parts))

abbrev pub parts_opened_by : NotingContext → (stepped : Bool) → Open → List (Vec Command Global) → Open
parts_opened_by around stepped behind parts = groups_open (stages_known around) stepped behind (groups (map part_seen parts))

-- what happens in a program's body, of which so many phases are noted by the numbers of its commands
abbrev pub body_done_by : (stages : List ℕ) → Command → List PortEvent
body_done_by stages c = incidents (table_at stages) None closed (action_seen c)
