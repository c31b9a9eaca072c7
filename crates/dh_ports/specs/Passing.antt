-- What moves come to, one behind the other, from what is left of slots on.
use Rattle.std.specs.Prelude.{◌≡◌, ℕ, Bool, List, ◌++◌, map, Option}
use Rattle.dh_base.specs.declared.places.Place.{Place}
use Rattle.dh_tree.specs.declared.breaches.Breach.{Breach}
use Rattle.dh_tree.specs.LeastBreach.{least_of}
use Rattle.dh_events.specs.declared.classes.Key.{Key}
use Rattle.dh_events.specs.declared.events.Event.{Event}
use Rattle.dh_events.specs.Incidents.{PortEvent}
use Rattle.dh_events.specs.Noted.{all_seen}
use Rattle.dh_ports.specs.declared.levels.Levels.{Levels}
use Rattle.dh_ports.specs.declared.moves.Move.{Move}
use Rattle.dh_ports.specs.declared.spending.Walked.{Walked}
use Rattle.dh_ports.specs.declared.spending.Walked.TheVariants as walked
use Rattle.dh_ports.specs.Levels.{level_at, lefts_from, left_before_each, LevelsKept}
use Rattle.dh_ports.specs.Orders.{order_step}
use Rattle.dh_ports.specs.Scanned.{all_late, first_beyond, spending_step}

-- Ports.

-- the place of the first move that takes more than is left, from these levels on
abbrev pub beyond_from : List PortEvent → (shared : List Bool) → Levels → List Move → Option Place
beyond_from xs shared levels ms = first_beyond xs ms (map (spending_step shared) ms) (left_before_each (λ s. level_at levels s) (map (spending_step shared) ms))

-- the same from so much of each slot on
abbrev pub first_from : List PortEvent → (shared : List Bool) → (starts : List ℕ) → List Move → Option Place
first_from xs shared starts ms = first_beyond xs ms (map (spending_step shared) ms) (lefts_from starts (map (spending_step shared) ms))

-- Moves take what is left, so that what stands behind them is found from the levels now as it is behind them; or the
-- first that takes more than is left is one of them, at a place.
abbrev pub ComesTo : List PortEvent → (shared : List Bool) → (old : Levels) → List Move → (new : Levels) → Walked → Type 0
ComesTo xs shared old ms new walked.Past = LevelsKept new × ((rest : List Move) → beyond_from xs shared new rest ≡ beyond_from xs shared old (ms ++ rest))
ComesTo xs shared old ms new (walked.Beyond place) = (rest : List Move) → place ≡ beyond_from xs shared old (ms ++ rest)

-- the same of these events, whatever flags come behind those that are known
abbrev pub ComesToSoFar : List Event → (shared : List Bool) → (old : Levels) → List Move → (new : Levels) → Walked → Type 0
ComesToSoFar events shared old ms new walked = (more : List Bool) → ComesTo (all_seen events) (shared ++ more) old ms new walked

-- Order.

-- the reads that find nothing left, from these levels on
abbrev pub late_from : List Key → List Event → Levels → List Move → List Breach
late_from known events levels ms = all_late (all_seen events) ms (map (order_step known events) ms) (left_before_each (λ s. level_at levels s) (map (order_step known events) ms))

-- the same from so much of each slot on
abbrev pub all_from : List Key → List Event → (starts : List ℕ) → List Move → List Breach
all_from known events starts ms = all_late (all_seen events) ms (map (order_step known events) ms) (lefts_from starts (map (order_step known events) ms))

-- the least of what was kept and of those is kept
abbrev pub KeepsLeastBreachFrom : List Key → List Event → (starts : List ℕ) → List Move → (old new : Option Breach) → Type 0
KeepsLeastBreachFrom known events starts ms old new = new ≡ least_of old (all_from known events starts ms)

-- moves come to levels, and what was kept to what is kept, so that what stands behind them is kept as it is behind them
pub record KeepsTo (known : List Key) (events : List Event) (before : Option Breach) (old : Levels) (ms : List Move) (after : Option Breach) (new : Levels) : Type 0 where
  pub kept : LevelsKept new
  pub late : (rest : List Move) → least_of after (late_from known events new rest) ≡ least_of before (late_from known events old (ms ++ rest))
