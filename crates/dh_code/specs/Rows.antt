-- What is seen of the contents of memories, and of where an element lies.
use Rattle.std.specs.Prelude.{ℕ, List, [], map, Vec, slice_index, slice_index_or}
use Rattle.std.specs.Global.{Global}
use Rattle.dh_tree.specs.Elements.{Spot}
use Rattle.dh_code.specs.declared.spots.Element.{Element}

-- the contents of memories
abbrev pub contents_of : List (Vec ℕ Global) → List (List ℕ)
contents_of lists = map (λ v. v.items) lists

-- an element of memories
abbrev pub memory_element : List (List ℕ) → (memory position : ℕ) → ℕ
memory_element memories memory position = slice_index (slice_index_or memories memory []) position

-- where an element lies
abbrev pub spot_seen : Element → Spot
spot_seen e = record { memory = e.memory; bank = e.bank; row = e.row; position = e.position }
