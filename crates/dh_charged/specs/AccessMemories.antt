-- The memories of a program's accesses: each access is of one that is declared, where memories and banks are few.
use Rattle.std.specs.Prelude.{◌≡◌, ℕ, ◌≤◌, ◌^◌, length, slice_get, Some}
use Rattle.dh_tree.specs.Elements.{banks_of, dims_at}
use Rattle.dh_tree.specs.Memories.{table_of}
use Rattle.dh_tree.specs.PlainTrees.{Program}
use Rattle.dh_tree.specs.Ready.{IsReady}
use Rattle.dh_meets.specs.SourceEvents.{SourceAccess, accesses_in, trace}
use Rattle.dh_charged.specs.ChargedUses.{IsOfSmallMemory}

-- each access of a program is of a memory
abbrev pub HaveMemories : Program → Type 0
HaveMemories p = (number : ℕ) (a : SourceAccess) → slice_get (accesses_in (trace p)) number ≡ Some a → IsOfSmallMemory p a

-- it is of a ready one, of few memories with few banks
abbrev pub ReadyHaveMemories : Type 0
ReadyHaveMemories = (p : Program) → IsReady p → length (table_of p) ≤ 2 ^ 32 → ((memory : ℕ) → banks_of (dims_at (table_of p) memory) ≤ 2 ^ 32) → HaveMemories p
