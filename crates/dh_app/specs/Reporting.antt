-- The report of a run: its status and its text.
use Rattle.std.specs.Prelude.{◌≡◌, ℕ, List}
use Rattle.dh_base.specs.declared.outcomes.Outcome.{Outcome}
use Rattle.dh_base.specs.declared.outcomes.Outcome.TheVariants as outcome
use Rattle.dh_base.specs.declared.statuses.Status.{Status}
use Rattle.dh_base.specs.declared.statuses.Status.TheVariants as status
use Rattle.dh_tree.specs.declared.tables.MemEntry.{MemEntry}
use Rattle.dh_data.specs.Reports.{report_text}
use Rattle.dh_data.specs.declared.reports.Ending.{Ending}

-- the status of a report
abbrev pub status_of : Outcome → Status
status_of outcome.Going = status.Going
status_of outcome.Ended = status.Done
status_of (outcome.Faulted kind place) = status.Faulted
status_of (outcome.Stuck memory bank place) = status.Stuck

-- this status and this text report how a run stands
pub record IsEndingReport (table : List MemEntry) (memories : List (List ℕ)) (ending : Ending) (s : Status) (text : List ℕ) : Type 0 where
  pub status_is : s ≡ status_of ending.outcome
  pub text_is : text ≡ report_text table memories ending
