-- What an access through views may reach at some path.
use Rattle.std.specs.Prelude.{◌≡◌, ℕ, ◌<◌, ◌≤◌, true, List}
use Rattle.dh_tree.specs.declared.tables.Dim.{Dim}
use Rattle.dh_tree.specs.Elements.{banks_of}
use Rattle.dh_tree.specs.PlainTrees.{Program}
use Rattle.dh_meaning.specs.Paths.{Path, IsPathAmong}
use Rattle.dh_meaning.specs.Ways.{WayStep, Way}
use Rattle.dh_meets.specs.Charges.{bank_named, may_reach, paths_of}
use Rattle.dh_meets.specs.SourceEvents.{SourceAccess}
use Rattle.dh_ways.specs.Leading.{next_dims}

pub record MayReachAt (p : Program) (w : Way) (a : SourceAccess) (bank : ℕ) : Type 0 where
  pub path : Path
  pub there : IsPathAmong path (paths_of a)
  pub reached : may_reach w.steps (bank_named p w a path) bank ≡ true

-- a bank of what is named that is charged, from which this bank behind the views may be reached
pub record IsChargedFrom (ss : List WayStep) (dims : List Dim) (charge : ℕ → ℕ) (bank : ℕ) : Type 0 where
  pub named : ℕ
  pub inside : named < banks_of (next_dims ss dims)
  pub charged : 1 ≤ charge named
  pub reached : may_reach ss named bank ≡ true
