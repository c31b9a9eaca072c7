-- The ports of the memories of a table, in order of memory, bank and port. A port goes by its number in
-- this list, which is also that of its drivers and of its held data.
use Rattle.std.specs.Prelude.{ℕ, ◌+◌, ◌*◌, ◌/◌, ◌%◌, ◌==◌, zero, suc, List, [], ◌∷◌, ◌++◌}
use Rattle.dh_tree.specs.declared.tables.MemEntry.{MemEntry}
use Rattle.dh_tree.specs.Elements.{banks_of, rows_of, ports_at}
use Rattle.dh_value.specs.Words.{width_of}
use Rattle.dh_net.specs.RowWidths.{row_width_of}
use Rattle.dh_net.specs.declared.ports.Port.{Port}

-- the ports of all banks of a memory
abbrev pub port_count : MemEntry → ℕ
port_count e = banks_of e.shape.dims * e.shape.ports

-- port number k of the memory with this number, counted over its banks in order
abbrev pub port_of : (memory : ℕ) → MemEntry → (k : ℕ) → Port
port_of memory e k =
    record {
      memory = memory;
      bank = k / e.shape.ports;
      port = k % e.shape.ports;
      rows = rows_of e.shape.dims;
      row_width = row_width_of (rows_of e.shape.dims);
      width = width_of e.shape.kind;
      outside = e.outside;
      is_last = (k + 1) % e.shape.ports == 0;
    }

-- so many ports of a memory, from this one on
abbrev pub memory_ports : (memory : ℕ) → MemEntry → (k count : ℕ) → List Port
memory_ports memory e k zero = []
memory_ports memory e k (suc n) = port_of memory e k ∷ memory_ports memory e (k + 1) n

-- all ports of the memory with this number
abbrev pub all_ports : (memory : ℕ) → MemEntry → List Port
all_ports memory e = memory_ports memory e 0 (port_count e)

-- the ports of memories of which the first has this number
abbrev pub ports_from : (memory : ℕ) → List MemEntry → List Port
ports_from memory [] = []
ports_from memory (e ∷ es) = all_ports memory e ++ ports_from (memory + 1) es

-- the ports of a table
abbrev pub ports_of : List MemEntry → List Port
ports_of table = ports_from 0 table

-- the number of the first port of a memory
abbrev pub first_port : List MemEntry → (memory : ℕ) → ℕ
first_port [] memory = 0
first_port (e ∷ es) zero = 0
first_port (e ∷ es) (suc memory) = port_count e + first_port es memory

-- the number of a port of a bank of a memory
abbrev pub port_number : List MemEntry → (memory bank port : ℕ) → ℕ
port_number table memory bank port = first_port table memory + (bank * ports_at table memory + port)
