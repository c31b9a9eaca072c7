-- That states of a net go on fitting, as a law.
use Rattle.dh_tree.specs.Tables.{Fits}
use Rattle.dh_net.specs.Clock.{State, Clocks}
use Rattle.dh_net.specs.Laws.{FitsNet}
use Rattle.dh_net.specs.Valid.{IsValid}
use Rattle.dh_net.specs.declared.nets.Net.{Net}

-- a clock of a valid net leads from a state that fits to one that fits, where memories fit
abbrev pub ClocksKeepFits : Type 0
ClocksKeepFits = (net : Net) → IsValid net → (s t : State) → FitsNet net s → Fits net.table s.memories → Clocks net s t → FitsNet net t
