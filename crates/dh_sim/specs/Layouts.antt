-- Where the ports of a net stand in flat arrays.
use Rattle.std.specs.Prelude.{◌≡◌, ℕ, ◌+◌, List, [], ◌∷◌}
use Rattle.dh_tree.specs.declared.tables.MemEntry.{MemEntry}
use Rattle.dh_net.specs.BankPorts.{port_count, ports_of}
use Rattle.dh_net.specs.Laws.{FitsNet}
use Rattle.dh_net.specs.declared.nets.Net.{Net}
use Rattle.dh_sim.specs.declared.layouts.Layout.{Layout}

-- the places of the first ports of memories, from this place on
abbrev pub firsts_from : ℕ → List MemEntry → List ℕ
firsts_from n [] = []
firsts_from n (e ∷ es) = n ∷ firsts_from (n + port_count e) es

abbrev pub firsts_of : List MemEntry → List ℕ
firsts_of table = firsts_from 0 table

-- the layout of a net of this table
pub record IsTableLayout (table : List MemEntry) (l : Layout) : Type 0 where
  pub ports : l.ports.items ≡ ports_of table
  pub firsts : l.firsts.items ≡ firsts_of table

-- each register and each held datum is below 2 to the power of its width
abbrev pub ArraysFit : Net → (registers held : List ℕ) → Type 0
ArraysFit net registers held = FitsNet net (record { registers = registers; held = held; memories = [] })
