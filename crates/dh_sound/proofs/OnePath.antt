-- What commands do at one path: the variables that they leave, and the accesses and faults. Commands at a path
-- alone do just this; at no path they do nothing.
use Rattle.std.proofs.Common.{◌≡◌, if◌then◌else◌, List, [], ◌++◌, take, refl, ◌∙◌, ap}
use Rattle.dh_value.specs.Words as words
use Rattle.dh_meaning.specs.Core.{CoreCommand, store, assign, choose, CoreCommands, no_commands, command_and}
use Rattle.dh_meaning.specs.Effects.{Begun, Variables, set_variable, value_of_term, term_events, Effect, Event, store_events, holds_at, command_run, commands_run}
use Rattle.dh_meaning.specs.Paths.{Path}
use Rattle.dh_meaning.specs.Core.{keep}
use Rattle.dh_meaning.specs.Effects.{set_from, terms_events, values_of}

module _ (b : Begun) (path : Path) where
  abbrev mutual
    pub left_by : CoreCommand → Variables → Variables
    left_by (store r target value) v = v
    left_by (assign depth entity value) v = set_variable v entity (take depth path) (words.value_of (value_of_term b v path value))
    left_by (keep depth first values) v = set_from v first (take depth path) (values_of b v path values)
    left_by (choose test chosen other) v = if holds_at b v test path then all_left_by chosen v else all_left_by other v

    pub all_left_by : CoreCommands → Variables → Variables
    all_left_by no_commands v = v
    all_left_by (command_and c cs) v = all_left_by cs (left_by c v)

  abbrev mutual
    pub made_by : CoreCommand → Variables → List Event
    made_by (store r target value) v = store_events b v path r target value
    made_by (assign depth entity value) v = term_events b v path value
    made_by (keep depth first values) v = terms_events b v path values
    made_by (choose test chosen other) v = term_events b v path test ++ (if holds_at b v test path then all_made_by chosen v else all_made_by other v)

    pub all_made_by : CoreCommands → Variables → List Event
    all_made_by no_commands v = []
    all_made_by (command_and c cs) v = made_by c v ++ all_made_by cs (left_by c v)

  abbrev with_done : Effect → Variables → List Event → Effect
  with_done e v es = record { variables = v; events = e.events ++ es }

-- at no path nothing is done
mutual
  pub nowhere : (b : Begun) (c : CoreCommand) (e : Effect) → command_run b [] c e ≡ e
  nowhere b (store r target value) e = refl
  nowhere b (assign depth entity value) e = refl
  nowhere b (keep depth first values) e = refl
  nowhere b (choose test chosen other) e = ap (λ x. commands_run b [] other x) (all_nowhere b chosen e) ∙ all_nowhere b other e

  pub all_nowhere : (b : Begun) (cs : CoreCommands) (e : Effect) → commands_run b [] cs e ≡ e
  all_nowhere b no_commands e = refl
  all_nowhere b (command_and c cs) e = ap (λ x. commands_run b [] cs x) (nowhere b c e) ∙ all_nowhere b cs e
