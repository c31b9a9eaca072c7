-- What events do to banks, event by event.
use Rattle.std.specs.Prelude.{ℕ, ◌≤◌, List, [], ◌∷◌, Option, Vec}
use Rattle.std.specs.Global.{Global}
use Rattle.dh_tree.specs.declared.trees.counters.Counter.{Counter}
use Rattle.dh_tree.specs.declared.trees.programs.Tree.{Tree}
use Rattle.dh_tree.specs.PlainTrees.{Program}
use Rattle.dh_tree.specs.Seen.{program_seen}
use Rattle.dh_events.specs.declared.events.Event.{Event}
use Rattle.dh_events.specs.declared.events.Event.TheVariants as event
use Rattle.dh_events.specs.Accesses.{loops_listed}
use Rattle.dh_events.specs.Noted.{all_seen}
use Rattle.dh_base.specs.Limits.{most_copies}
use Rattle.dh_ports.specs.declared.moves.Claimant.{Claimant}
use Rattle.dh_ports.specs.declared.moves.ProgramLayout.{ProgramLayout}
use Rattle.dh_ports.specs.declared.moves.Move.{Move}
use Rattle.dh_ports.specs.declared.moves.Move.TheVariants as move
use Rattle.dh_ports.specs.Claims.{claims_of, moves_from, source_of}
use Rattle.dh_ports.specs.Copies.{copies_round}

-- what an event at a place does to banks
abbrev pub moves_of : Program → (loops : Option ℕ → List Counter) → (place : ℕ) → Event → List Move
moves_of p loops place (event.Touch writes phase round access element newest) = claims_of p place (source_of (loops round) writes access.now)
moves_of p loops place (event.Assigned entity) = []
moves_of p loops place event.ArmBegins = []
moves_of p loops place event.ArmEnds = []
moves_of p loops place event.Begins = move.Begin ∷ []
moves_of p loops place event.Next = move.Next ∷ []
moves_of p loops place event.Ends = move.End ∷ []

-- what all do, where the layout tells the loops round each
abbrev pub moves_known : Program → ProgramLayout → List Event → List Move
moves_known p layout events = moves_from p (loops_listed layout.rounds.items) 0 (all_seen events)

-- Of a program as the code knows it, where the layout tells the loops round each access.

-- the claims of an access
abbrev pub claims_by : Tree → ProgramLayout → Claimant → List Move
claims_by tree layout c = claims_of (program_seen tree) c.event (source_of (loops_listed layout.rounds.items c.round) c.writes c.access.now)

-- what an event at a place does, and what all do
abbrev pub moves_at : Tree → ProgramLayout → (place : ℕ) → Event → List Move
moves_at tree layout place e = moves_of (program_seen tree) (loops_listed layout.rounds.items) place e

abbrev pub moves_by : Tree → ProgramLayout → List Event → List Move
moves_by tree layout events = moves_known (program_seen tree) layout events

-- Copies.

-- an access does not stand in too many copies
abbrev pub HasFewCopiesAt : List (Vec Counter Global) → Event → Type 0
HasFewCopiesAt rounds (event.Touch writes phase round access element newest) = copies_round (loops_listed rounds round) ≤ most_copies
HasFewCopiesAt rounds (event.Assigned entity) = Unit {0}
HasFewCopiesAt rounds event.ArmBegins = Unit {0}
HasFewCopiesAt rounds event.ArmEnds = Unit {0}
HasFewCopiesAt rounds event.Begins = Unit {0}
HasFewCopiesAt rounds event.Next = Unit {0}
HasFewCopiesAt rounds event.Ends = Unit {0}
