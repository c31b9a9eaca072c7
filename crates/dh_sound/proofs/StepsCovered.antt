-- What a step of a run spends is covered, since the run stands at a block in its loops, and what that spends is covered.
use Rattle.std.specs.Bool.{IsTrue}
use Rattle.std.proofs.Common.{ℕ, false, List, [], sym, subst, arith}
use Rattle.dh_tree.specs.Meets.{Meets, Together}
use Rattle.dh_tree.specs.Memories.{table_of}
use Rattle.dh_tree.specs.PlainTrees.{Program}
use Rattle.dh_tree.specs.Ready.{IsReady}
use Rattle.dh_meaning.specs.CoreOf.{core_of}
use Rattle.dh_meaning.specs.Effects.{Variables, block_run}
use Rattle.dh_meaning.specs.Paths.{Path}
use Rattle.dh_meaning.specs.Runs as run
use Rattle.dh_meaning.specs.Runs.{run_state}
use Rattle.dh_meets.specs.MayMeet.{meets_in}
use Rattle.dh_meets.specs.Ports.{KeepsPorts}
use Rattle.dh_sound.specs.BlocksCovered.{AreCovered}
use Rattle.dh_sound.specs.Standing.{IsPlaceInTurn}
use Rattle.dh_sound.specs.StepsCovered.{StepsCovered, StepsKept}
use Rattle.dh_sound.proofs.AcceptedPrograms.{checked_covered}
use Rattle.dh_sound.proofs.ReadyKeeps.{ready_keeps}
use Rattle.dh_sound.proofs.Standing.{run_stands}

untrue : IsTrue false → ⊥
untrue h = cc

-- no access at all is together
none_together : (t : Meets) → Together t (λ a. false)
none_together t a b h i apart = untrue h

-- without events nothing is spent
none_covered : (p : Program) (entity memory bank : ℕ) → AreCovered p [] entity memory bank
none_covered p entity memory bank = record { chosen = λ a. false; together = none_together (meets_in p); covers = omega arith }

pub steps_covered : (p : Program) → IsReady p → StepsCovered p
steps_covered p ready memories n going entity memory bank known =
    by (run_state (core_of p) memories n).place (run_state (core_of p) memories n).variables (run_state (core_of p) memories n).memories
    (run_stands (core_of p) (ready_keeps p ready) memories n)
  where
    by : (place : run.RunPlace) (variables : Variables) (contents : List (List ℕ)) → IsPlaceInTurn (core_of p) place variables
        → AreCovered p (run.place_run (record { table = table_of p; memories = contents }) place (record { variables = variables; events = [] })).events entity memory bank
    by run.ended variables contents s = none_covered p entity memory bank
    by (run.at paths b k) variables contents s =
        subst
        (λ (ps : List Path). AreCovered p (block_run (record { table = table_of p; memories = contents }) ps b (record { variables = variables; events = [] })).events entity memory bank)
        (sym s.copies) (checked_covered p ready s.loops b s.block contents variables s.turns entity memory bank known)

pub steps_kept : (p : Program) → IsReady p → KeepsPorts p → StepsKept p
steps_kept p ready keeps memories n going entity memory bank known =
    let c = steps_covered p ready memories n going entity memory bank known in
    let l = c.covers in
    let k = keeps c.chosen c.together entity bank in
    omega (arith, l, k)
