-- Where the ports of memories stand among the ports of a net.
use Rattle.std.specs.Prelude.{◌≡◌, ℕ, ◌<◌, List, length}
use Rattle.dh_tree.specs.declared.tables.MemEntry.{MemEntry}
use Rattle.dh_tree.specs.Elements.{rows_of, dims_at, ports_at}
use Rattle.dh_net.specs.BankPorts.{first_port}
use Rattle.dh_net.specs.RowWidths.{row_width_of}
use Rattle.dh_control.specs.declared.driving.MemoryPorts.{MemoryPorts}
use Rattle.dh_control.specs.UseWires.{memory_ports_at}

-- bits of the numbers of a memory's rows
abbrev pub row_bits_of : List MemEntry → (memory : ℕ) → ℕ
row_bits_of table memory = row_width_of (rows_of (dims_at table memory))

-- the number of the first port of a memory, how many each of its banks has, and the bits of its rows
abbrev pub ports_of_memory : List MemEntry → (memory : ℕ) → MemoryPorts
ports_of_memory table memory = record { first = first_port table memory; count = ports_at table memory; bits = row_bits_of table memory }

-- these are those of the memories of a table
pub record AreMemoryPorts (table : List MemEntry) (ms : List MemoryPorts) : Type 0 where
  pub long : length ms ≡ length table
  pub each : (memory : ℕ) → memory < length table → memory_ports_at ms memory ≡ ports_of_memory table memory
