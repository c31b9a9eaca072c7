-- What a run under a limit of clocks comes to, said of the checked run alone.
use Rattle.std.specs.Prelude.{◌≡◌, ℕ, ◌+◌, ◌≤◌, List}
use Rattle.dh_base.specs.declared.outcomes.FaultKind.{FaultKind}
use Rattle.dh_base.specs.declared.outcomes.Outcome.{Outcome}
use Rattle.dh_base.specs.declared.outcomes.Outcome.TheVariants.{Going, Ended, Faulted, Stuck}
use Rattle.dh_base.specs.declared.places.Place.{Place}
use Rattle.dh_net.specs.declared.nets.Net.{Net}
use Rattle.dh_net.specs.Ends.{IsRunOf}
use Rattle.dh_net.specs.Plays.{Run, clocks_of, EndsAfter, FaultsAfter, FaultsWithin, Fit, Plays}

-- the run ended, and its last step ends within the limit
pub record ReportsEnd (r : Run) (limit steps clocks : ℕ) : Type 0 where
  pub ends : EndsAfter r steps
  pub at_end : clocks ≡ clocks_of r steps
  pub within : clocks ≤ limit

-- the run faulted, and the faulted step ends within the limit
pub record ReportsFault (r : Run) (limit : ℕ) (kind : FaultKind) (place : Place) (steps clocks : ℕ) : Type 0 where
  pub faults : FaultsAfter r steps kind place
  pub at_fault : clocks ≡ clocks_of r steps + r.length steps
  pub within : clocks ≤ limit

-- the run was not over within the limit, in which so many of its steps fit
pub record ReportsGoing (r : Run) (limit steps clocks : ℕ) : Type 0 where
  pub fits : Fit r limit steps
  pub whole : clocks ≡ limit
  pub not_ended : (m : ℕ) → EndsAfter r m → clocks_of r m ≤ limit → ⊥
  pub not_faulted : FaultsWithin r limit → ⊥

-- how the run stands by the limit, after how many steps and clocks
abbrev pub ReportsAs : Run → (limit : ℕ) → Outcome → (steps clocks : ℕ) → Type 0
ReportsAs r limit Going steps clocks = ReportsGoing r limit steps clocks
ReportsAs r limit Ended steps clocks = ReportsEnd r limit steps clocks
ReportsAs r limit (Faulted kind place) steps clocks = ReportsFault r limit kind place steps clocks
ReportsAs r limit (Stuck memory bank place) steps clocks = ⊥

-- the same, with the memories of the last step that fits
pub record Reports (r : Run) (limit : ℕ) (outcome : Outcome) (steps clocks : ℕ) (memories : List (List ℕ)) : Type 0 where
  pub stands : ReportsAs r limit outcome steps clocks
  pub contents : memories ≡ r.memories steps

-- what the net comes to from this start, under any limit of clocks, is what the run comes to
abbrev pub ComesAs : Net → Run → List (List ℕ) → Type 0
ComesAs net r start =
    (limit : ℕ) (outcome : Outcome) (steps clocks : ℕ) (memories : List (List ℕ)) → IsRunOf net start limit outcome steps clocks memories → Reports r limit outcome steps clocks memories

-- from each start from which the net plays the run, it comes to what the run comes to
abbrev pub PlayingTells : Net → Run → Type 0
PlayingTells net r = (start : List (List ℕ)) → Plays net r start → ComesAs net r start
