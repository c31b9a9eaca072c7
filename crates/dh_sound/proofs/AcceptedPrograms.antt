-- What the passes tell of a program is all that soundness rests on: each access is of a memory; each assignment goes to a
-- variable that is declared inside the unrolled loops round it; so each block is told.
use Rattle.dh_tree.specs.PlainTrees.{Program}
use Rattle.dh_tree.specs.Ready.{IsReady}
use Rattle.dh_sound.specs.Accepted.{IsAccepted}
use Rattle.dh_sound.specs.BlocksCovered.{BlocksCovered}
use Rattle.dh_sound.specs.BlocksOfPhases.{TellsBlocks}
use Rattle.dh_sound.specs.BlockTold.{AccessesDeclared}
use Rattle.dh_sound.specs.IndexRules.{KeepsIndexRules}
use Rattle.dh_sound.specs.IndexValues.{IsTypedProgram}
use Rattle.dh_sound.specs.KeptPorts.{HasSoundnessBasis}
use Rattle.dh_sound.proofs.BlocksTold.{blocks_told}
use Rattle.dh_sound.proofs.PortsKept.{typed_program, blocks_covered}
use Rattle.dh_sound.proofs.SortsOfPrograms.{accesses_declared, assigns_inside}

module _ (p : Program) (ready : IsReady p) where
  typed_here : IsTypedProgram p
  typed_here = typed_program p ready

  keeps_rules : KeepsIndexRules p
  keeps_rules = record { indices = ready.indices; views = ready.views }

  declared_here : AccessesDeclared p
  declared_here = accesses_declared p ready typed_here

  tells_blocks : TellsBlocks p
  tells_blocks = blocks_told p ready typed_here (assigns_inside p ready typed_here)

  -- what the blocks of a program spend that is checked is covered
  pub checked_covered : BlocksCovered p
  checked_covered = blocks_covered p ready keeps_rules declared_here tells_blocks

-- a program that the passes accept is told
pub accepted_is_told : (p : Program) → IsAccepted p → HasSoundnessBasis p
accepted_is_told p a = record {
  ready = a.ready;
  rules = keeps_rules p a.ready;
  keeps = a.ports.ports;
  declared = declared_here p a.ready;
  tells = tells_blocks p a.ready;
}
