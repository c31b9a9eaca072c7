-- Which banks are reached, as marks, while paths are gone through.
use Rattle.std.specs.Prelude.{◌≡◌, ℕ, zero, suc, ◌<◌, ◌==◌, ◌||◌, Bool, false, if◌then◌else◌, List, [], ◌∷◌, length, get_or, slice_index}
use Rattle.dh_tree.specs.declared.tables.Dim.{Dim}
use Rattle.dh_tree.specs.declared.trees.counters.Counter.{Counter}
use Rattle.dh_tree.specs.declared.trees.expressions.Expr.{Expr}
use Rattle.dh_tree.specs.declared.trees.programs.Tree.{Tree}
use Rattle.dh_tree.specs.Elements.{banks_of}
use Rattle.dh_meets.specs.Charges.{loop_factors}
use Rattle.dh_meets.specs.SourceEvents.{SourceAccess}
use Rattle.dh_ports.specs.Banks.{bank_at_path, path_of_number}
use Rattle.dh_ports.specs.Claims.{source_of}
use Rattle.dh_ports.specs.declared.carrying.Carrier.{Carrier}

-- some path below a number reaches a bank
abbrev pub reached_below : Tree → List Dim → SourceAccess → (number bank : ℕ) → Bool
reached_below tree dims a zero bank = false
reached_below tree dims a (suc number) bank = reached_below tree dims a number bank || (bank_at_path tree dims a (path_of_number (loop_factors a.site.loops) number) == bank)

-- marks of so many banks, of which those are set that paths below a number reach
pub record AreBankMarks (tree : Tree) (dims : List Dim) (a : SourceAccess) (banks number : ℕ) (marks : List Bool) : Type 0 where
  pub long : length marks ≡ banks
  pub each : (bank : ℕ) → bank < banks → get_or marks bank false ≡ reached_below tree dims a number bank

-- of each bank of these dimensions a mark, set where an access of the code reaches it in one of so many copies
abbrev pub AreAllMarked : Tree → List Counter → (copies : ℕ) → List Dim → Expr → List Bool → Type 0
AreAllMarked tree loops copies dims e marks = AreBankMarks tree dims (source_of loops false e) (banks_of dims) copies marks

-- one of these marks is set
abbrev pub any_marked : List Bool → Bool
any_marked [] = false
any_marked (m ∷ ms) = m || any_marked ms

-- a bank of a memory is reached where these banks of a view are marked
abbrev pub marked_behind : Carrier → (marks : List Bool) → (behind : ℕ) → Bool
marked_behind c marks behind = if c.evenly then any_marked marks else get_or marks (slice_index c.sources.items behind) false
