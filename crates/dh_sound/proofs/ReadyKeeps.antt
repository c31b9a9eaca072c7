-- A program that is ready keeps its iterators where it is run, and their depths. So its runs are never stuck if its
-- blocks keep the ports.
use Rattle.std.proofs.Common.{◌≡◌, ℕ, List}
use Rattle.dh_base.specs.declared.outcomes.Outcome.TheVariants.{Stuck}
use Rattle.dh_base.specs.declared.places.Place.{Place}
use Rattle.dh_tree.specs.PlainTrees.{Program}
use Rattle.dh_tree.specs.Ready.{IsReady}
use Rattle.dh_meaning.specs.CoreOf.{core_of}
use Rattle.dh_meaning.specs.Runs.{run_state}
use Rattle.dh_sound.specs.Standing.{KeepsIterators, BlocksKeepPorts}
use Rattle.dh_sound.specs.IteratorsAt.{KeepsDepths}
use Rattle.dh_sound.proofs.DepthsNamed.{depths_kept}
use Rattle.dh_sound.proofs.JoinsKept.{folds_kept}
use Rattle.dh_sound.proofs.NeverStuck.{blocks_never_stuck}
use Rattle.dh_sound.proofs.PhasesKept.{iterators_kept}
use Rattle.dh_sound.proofs.IteratorsNamed.{names_keep}

-- a program that is ready keeps its iterators where it is run
pub ready_keeps : (p : Program) → IsReady p → KeepsIterators (core_of p)
ready_keeps p r = iterators_kept p (names_keep p (record {
  names = r.names;
  entities = r.entities;
  placements = r.placements;
  folds = folds_kept p r.placements;
}))

-- and their depths
pub ready_deep : (p : Program) → IsReady p → KeepsDepths (core_of p)
ready_deep p r = depths_kept p r.entities

-- and no run of it is stuck, if its blocks keep the ports
pub ready_never_stuck : (p : Program) → IsReady p → BlocksKeepPorts (core_of p)
    → (memories : List (List ℕ)) (n memory bank : ℕ) (place : Place) → (run_state (core_of p) memories n).outcome ≡ Stuck memory bank place → ⊥
ready_never_stuck p r keep = blocks_never_stuck (core_of p) (ready_keeps p r) keep
