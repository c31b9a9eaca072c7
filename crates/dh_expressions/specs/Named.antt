-- What the names of a program stand for, and what is taken of the views that accesses go through.
use Rattle.std.specs.Prelude.{ℕ, zero, suc, if◌then◌else◌, List, [], ◌∷◌, ◌++◌, map, slice_get, Option, Some, None}
use Rattle.dh_tree.specs.declared.trees.expressions.Ref.{Ref}
use Rattle.dh_tree.specs.Memories.{memories_of}
use Rattle.dh_tree.specs.PlainTrees.{TermForm, accessed}
use Rattle.dh_tree.specs.Seen.{program_seen}
use Rattle.dh_meaning.specs.CoreOf.{Known, way_of}
use Rattle.dh_meaning.specs.Ways.{Way, all_bindings_of}
use Rattle.dh_viewing.specs.declared.bank_sets.BankSet.{BankSet}
use Rattle.dh_viewing.specs.ReachedBanks.{is_in}
use Rattle.dh_ways.specs.Placed.{place_found}
use Rattle.dh_ways.specs.Seen.{led_seen}
use Rattle.dh_expressions.specs.declared.scenes.Scene.{Scene}
use Rattle.dh_expressions.specs.declared.scenes.Through.{Through}
use Rattle.dh_expressions.specs.Numbers.{narrowed}

-- what is known of its names
abbrev pub known_in : Scene → Known
known_in scene = record {
  memories = memories_of (program_seen scene.program.now);
  bindings = all_bindings_of (program_seen scene.program.now);
  ways = map led_seen scene.ways.now;
}

-- Ways.

-- the way of what an access names, where that is a view; a row is one of a memory
abbrev pub way_named : Known → TermForm → Option Way
way_named known (accessed r indices) = way_of known r
way_named known form = None

-- the loops round the deepest shift on a way
abbrev pub shifts_on : Option Way → ℕ
shifts_on None = 0
shifts_on (Some w) = w.shifts

-- What is taken of a view.

-- its number among the views of the plan: its place among those of the program
abbrev pub number_at : (place : Option ℕ) → ℕ
number_at None = 0
number_at (Some place) = narrowed place

abbrev pub first_view : Scene → Ref → ℕ
first_view scene r = number_at (place_found scene.ways.now r.entity)

-- the number of the view behind one
abbrev pub parent_of : Option Through → ℕ
parent_of None = 0
parent_of (Some t) = t.behind

abbrev pub number_of_parent : List Through → (number : ℕ) → ℕ
number_of_parent through number = parent_of (slice_get through number)

-- of what a name stands for
abbrev pub through_of : Scene → Ref → Option Through
through_of scene r = slice_get scene.through.now (first_view scene r)

abbrev pub no_banks : BankSet
no_banks = record { bits = 0 }

abbrev pub set_or_none : Option BankSet → BankSet
set_or_none None = no_banks
set_or_none (Some s) = s

abbrev pub sets_of : Option Through → (bank : ℕ) → BankSet
sets_of None bank = no_banks
sets_of (Some t) bank = set_or_none (slice_get t.banks bank)

-- the banks of the memory that may be reached from a bank of the view
abbrev pub banks_seen : Scene → Ref → (bank : ℕ) → BankSet
banks_seen scene r bank = sets_of (through_of scene r) bank

-- Banks of an access, each with its place there.

-- those of a set among the first banks, so many
abbrev pub banks_below : BankSet → (place n : ℕ) → List (ℕ × ℕ)
banks_below s place zero = []
banks_below s place (suc n) = if is_in s n then banks_below s place n ++ (n, place) ∷ [] else banks_below s place n

-- of a memory the bank itself, and of a view those that may be reached from there
abbrev pub banks_reached : Option Way → BankSet → (bank place : ℕ) → List (ℕ × ℕ)
banks_reached None s bank place = (bank, place) ∷ []
banks_reached (Some w) s bank place = banks_below s place 64

-- those that may be reached from a bank of what a name stands for
abbrev pub named_banks : Scene → Ref → (bank place : ℕ) → List (ℕ × ℕ)
named_banks scene r bank place = banks_reached (way_of (known_in scene) r) (banks_seen scene r bank) bank place

-- those of an access that reaches a bank of what it names
abbrev pub banks_told : Scene → TermForm → (bank place : ℕ) → List (ℕ × ℕ)
banks_told scene (accessed r indices) bank place = named_banks scene r bank place
banks_told scene form bank place = (bank, place) ∷ []
