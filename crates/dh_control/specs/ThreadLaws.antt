-- What is known of nets of plans of one thread.
use Rattle.std.specs.Prelude.{length}
use Rattle.dh_net.specs.declared.nets.Net.{Net}
use Rattle.dh_lower.specs.NetOfPlan.{Making, IsNetOf}
use Rattle.dh_control.specs.ThreadHolds.{ControlWires, holds_thread}
use Rattle.dh_control.specs.WiredNets.{IsWired}

-- a net that is wired so is the net of its plan
abbrev pub WiredNetsAreNets : Type 0
WiredNetsAreNets = (k : Making) (net : Net) (c : ControlWires) → IsWired k net c → IsNetOf k net (holds_thread (length k.flow.states) (length k.plan.registers))
