-- Where ports are spent, access by access.
use Rattle.std.specs.Prelude.{ℕ, ◌<◌, ◌≤◌}
use Rattle.dh_tree.specs.PlainTrees.{Program}
use Rattle.dh_tree.specs.Meets.{upto}
use Rattle.dh_meets.specs.Charges.{charge}
use Rattle.dh_meets.specs.MayMeet.{meets_in}
use Rattle.dh_meets.specs.Ports.{ports_of_entity}

-- a charged access with which a bank has too few ports
pub record AccessOverspends (p : Program) (k : ℕ) : Type 0 where
  pub memory : ℕ
  pub bank : ℕ
  pub charged : 1 ≤ charge p memory bank k
  pub beyond : ports_of_entity p memory < upto (charge p memory bank) k (meets_in p)
