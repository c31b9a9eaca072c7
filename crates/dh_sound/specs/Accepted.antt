-- What the passes tell of a program that they accept: it is ready, and keeps the rules on ports. Its loops may be copied, and
-- its copies joined.
use Rattle.dh_tree.specs.PlainTrees.{Program}
use Rattle.dh_tree.specs.Ready.{IsReady}
use Rattle.dh_meets.specs.Ports.{KeepsPortRules}

pub record IsAccepted (p : Program) : Type 0 where
  pub ready : IsReady p
  pub ports : KeepsPortRules p
