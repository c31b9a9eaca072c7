-- What the wires of reads show: what ports hold, by the bank that a wire selects.
use Rattle.std.specs.Prelude.{ℕ, ◌==◌, if◌then◌else◌, List, [], ◌∷◌, slice_index}
use Rattle.dh_tree.specs.declared.tables.MemEntry.{MemEntry}
use Rattle.dh_net.specs.BankPorts.{port_number}
use Rattle.dh_net.specs.Valid.{IsPort}
use Rattle.dh_plan.specs.BoundPorts.{port_among}
use Rattle.dh_lower.specs.ShownWords.{port_or_first, bank_or_first}
use Rattle.dh_cells.specs.Settled.{Signals, shown}

-- the port that is used of a bank is one of this width
abbrev pub HasPort : List MemEntry → (memory width : ℕ) → (ports : List (ℕ × ℕ)) → (bank : ℕ) → Type 0
HasPort table memory width ports bank = IsPort table memory bank (port_or_first (port_among bank ports)) width

abbrev pub HavePorts : List MemEntry → (memory width : ℕ) → (ports banks : List (ℕ × ℕ)) → Type 0
HavePorts table memory width ports [] = Unit {0}
HavePorts table memory width ports (b ∷ bs) = HasPort table memory width ports b.0 × HavePorts table memory width ports bs

-- what the port holds that is used of a bank
abbrev pub bank_held : List MemEntry → (memory : ℕ) → (ports : List (ℕ × ℕ)) → (held : List ℕ) → (bank : ℕ) → ℕ
bank_held table memory ports held bank = slice_index held (port_number table memory bank (port_or_first (port_among bank ports)))

abbrev pub bank_shown : List MemEntry → (memory : ℕ) → (ports : List (ℕ × ℕ)) → (bank : ℕ) → Signals → ℕ
bank_shown table memory ports bank = λ x. bank_held table memory ports x.held bank

-- of these banks the one that is selected, or what the default shows
abbrev pub bank_among : List MemEntry → (memory : ℕ) → (ports : List (ℕ × ℕ)) → (held : List ℕ) → (banks : List (ℕ × ℕ)) → (selected default : ℕ) → ℕ
bank_among table memory ports held [] selected default = default
bank_among table memory ports held (b ∷ bs) selected default =
    if selected == b.0 then bank_held table memory ports held b.0 else bank_among table memory ports held bs selected default

abbrev pub banks_shown : List MemEntry → (memory : ℕ) → (ports banks : List (ℕ × ℕ)) → (select default : ℕ) → Signals → ℕ
banks_shown table memory ports banks select default = λ x. bank_among table memory ports x.held banks (shown x select) (shown x default)

-- one of them, and what another wire shows
abbrev pub bank_choice_shown : List MemEntry → (memory : ℕ) → (ports : List (ℕ × ℕ)) → (select bank others : ℕ) → Signals → ℕ
bank_choice_shown table memory ports select bank others = λ x. if shown x select == bank then bank_held table memory ports x.held bank else shown x others

-- the bank that a wire selects of those that are listed, or else the first
abbrev pub selected_bank_shown : List MemEntry → (memory : ℕ) → (ports : List (ℕ × ℕ)) → (first : ℕ × ℕ) → (others : List (ℕ × ℕ)) → (select : ℕ) → Signals → ℕ
selected_bank_shown table memory ports first others select = λ x. bank_held table memory ports x.held (bank_or_first (first ∷ others) (shown x select))
