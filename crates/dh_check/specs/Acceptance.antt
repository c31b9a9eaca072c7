-- What is known of the programs that are accepted.
use Rattle.dh_tree.specs.PlainTrees.{Program}
use Rattle.dh_meaning.specs.CoreOf.{core_of}
use Rattle.dh_sound.specs.KeptPorts.{IsNeverStuck}
use Rattle.dh_sound.specs.Standing.{BlocksKeepPorts}

-- In no run of it, from whatever memories, does a block of a phase spend more of a bank than the ports of its
-- memory; and no run is ever stuck.
pub record IsSoundProgram (p : Program) : Type 0 where
  pub blocks : BlocksKeepPorts (core_of p)
  pub never_stuck : IsNeverStuck p
