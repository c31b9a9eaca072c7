-- Reports: of how the checked run stands, and of the one answer of an engine.
use Rattle.std.proofs.Common.{◌≡◌, ℕ, Bool, true, List, [], ◌∷◌, refl, ap, ◌∙◌, subst, inr}
use Rattle.dh_base.specs.declared.statuses.Status.{Status}
use Rattle.dh_tree.specs.Memories.{table_of}
use Rattle.dh_tree.specs.PlainTrees.{Program}
use Rattle.dh_tree.specs.Tables.{Fits}
use Rattle.dh_tree.specs.declared.tables.MemEntry.{MemEntry}
use Rattle.dh_data.specs.Reports.{report_text}
use Rattle.dh_data.specs.declared.reports.Ending.{Ending}
use Rattle.dh_net.specs.declared.nets.Net.{Net}
use Rattle.dh_net.proofs.Reporting.{reports_by}
use Rattle.dh_compile.specs.Compiled.{IsNetOfProgram}
use Rattle.dh_app.specs.Engines.{EngineSeen, Asks, AnswersTo, AreRuns}
use Rattle.dh_app.specs.InterpretJob.{stands_after, ending_at, IsStandingReport}
use Rattle.dh_app.specs.Parts.{IsFirstReport}
use Rattle.dh_app.specs.Replies.{ReplySeen, replied, unread, no_memory, ReplySays}
use Rattle.dh_app.specs.Reporting.{status_of, IsEndingReport}
use Rattle.dh_app.specs.SimulateJob.{finish_ending, IsReport, RunsNet}
use Rattle.dh_app.specs.declared.engine.Finish.{Finish}
use Rattle.dh_app.proofs.Lined.{says_as}

-- a report of an ending that is how the run stands
pub standing_reported : (p : Program) (memories : List (List ℕ)) (steps : ℕ) (table : List MemEntry) (after : List (List ℕ)) (ending : Ending) (r : ReplySeen) → table ≡ table_of p
    → after ≡ (stands_after p memories steps).memories → ending ≡ ending_at (stands_after p memories steps) → ReplySays (IsEndingReport table after ending) r → ReplySays (IsStandingReport p memories steps) r
standing_reported p memories steps table after ending r t m e h =
    says_as (IsEndingReport table after ending) (IsStandingReport p memories steps) r
    (λ s text l. record {
      status_is = l.status_is ∙ ap (λ x. status_of x.outcome) e;
      text_is = l.text_is ∙ (ap (λ x. report_text x after ending) t ∙ (ap (λ x. report_text (table_of p) x ending) m ∙ ap (λ x. report_text (table_of p) (stands_after p memories steps).memories x) e));
    })
    h

-- one answer to one set of memories
pub only_answer : (net : Net) (memories : List (List ℕ)) (answers : List Finish) → AnswersTo net (memories ∷ []) answers
    → (f : Finish) × ((answers ≡ f ∷ []) × Fits net.table f.memories)
only_answer net memories [] h = absurd h
only_answer net memories (f ∷ []) h = (f, (refl, h.0.fits))
only_answer net memories (f ∷ (g ∷ fs)) h = absurd h.1

-- the one answer of the engine is reported
one_report : (p : Program) (net : Net) (memories : List (List ℕ)) (clocks : ℕ) (exact : Bool) (answers : List Finish) (s : Status) (text : List ℕ) → IsNetOfProgram p net → Fits net.table memories
    → AnswersTo net (memories ∷ []) answers → (exact ≡ true → AreRuns net clocks (memories ∷ []) answers) → IsFirstReport net.table answers s text → IsReport p memories clocks exact answers s text
one_report p net memories clocks exact answers s text is fits answered runs h =
    let plays = is.plays in
    let P : List Finish → Type 0 = λ fs. AnswersTo net (memories ∷ []) fs in
    let Q : List Finish → Type 0 = λ fs. AreRuns net clocks (memories ∷ []) fs in
    let F : List MemEntry → Type 0 = λ t. Fits t memories in
    record {
      finish = h.finish;
      answered = h.answered;
      not_stuck = (subst P h.answered answered).0.not_stuck;
      status_is = h.report.status_is;
      text_is = h.report.text_is ∙ ap (λ t. report_text t h.finish.memories (finish_ending h.finish)) plays.table;
      right = λ e. reports_by (plays.plays memories (subst F plays.table fits)) (subst Q h.answered (runs e)).0;
    }

pub run_reported : (p : Program) (net : Net) (memories : List (List ℕ)) (clocks : ℕ) (old new : EngineSeen) (r : ReplySeen) → IsNetOfProgram p net → Fits net.table memories → Asks old new
    → AnswersTo net (memories ∷ []) new.answers → (old.exact ≡ true → AreRuns net clocks (memories ∷ []) new.answers) → ReplySays (IsFirstReport net.table new.answers) r → RunsNet old new p memories clocks r
run_reported p net memories clocks old new (replied s text) plays fits asks answered runs h = (asks, one_report p net memories clocks old.exact new.answers s text plays fits answered runs h)
run_reported p net memories clocks old new unread plays fits asks answered runs h = h
run_reported p net memories clocks old new no_memory plays fits asks answered runs h = inr asks
