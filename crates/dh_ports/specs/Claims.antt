-- How accesses claim banks: with how many keys each reaches which bank. All banks of all memories stand in one
-- list, memory by memory, and go by their places there.
use Rattle.std.specs.Prelude.{◌≡◌, ℕ, zero, suc, ◌+◌, ◌≤◌, ◌==◌, nat_lt, if◌then◌else◌, Bool, List, [], ◌∷◌, ◌++◌, length, map, replicate, slice_get, slice_index, Option, Some, None}
use Rattle.std.specs.List.{filter}
use Rattle.std.specs.Set.{distinct_count}
use Rattle.dh_tree.specs.declared.tables.Dim.{Dim}
use Rattle.dh_tree.specs.declared.tables.MemEntry.{MemEntry}
use Rattle.dh_tree.specs.declared.trees.counters.Counter.{Counter}
use Rattle.dh_tree.specs.declared.trees.expressions.Expr.{Expr}
use Rattle.dh_tree.specs.Counters.{counters_of}
use Rattle.dh_tree.specs.Elements.{banks_of}
use Rattle.dh_tree.specs.Memories.{memories_of, number_in, table_of}
use Rattle.dh_tree.specs.PlainTrees.{Term, term, Program}
use Rattle.dh_tree.specs.Seen.{form_seen, term_seen}
use Rattle.dh_meaning.specs.Ways as ways
use Rattle.dh_meaning.specs.Ways.{Way, all_bindings_of, way_to}
use Rattle.dh_meaning.specs.Paths.{same_path}
use Rattle.dh_meets.specs.Charges.{bank_reached, charge_through, key_of, paths_of}
use Rattle.dh_meets.specs.SourceEvents.{SourceAccess}
use Rattle.dh_ports.specs.declared.moves.Move.{Move}
use Rattle.dh_ports.specs.declared.moves.Move.TheVariants as move
use Rattle.dh_events.specs.Accesses.{entity_in, element_in}
use Rattle.dh_events.specs.Incidents.{PortEvent, touches, assigned, arm_begins, arm_ends, begins, next, ends}

-- Banks.

-- the place of the first bank of a memory among all banks
abbrev pub first_bank_of : List MemEntry → (memory : ℕ) → ℕ
first_bank_of [] memory = 0
first_bank_of (e ∷ es) zero = 0
first_bank_of (e ∷ es) (suc memory) = banks_of e.shape.dims + first_bank_of es memory

-- the ports of each bank
abbrev pub bank_ports_in : List MemEntry → List ℕ
bank_ports_in [] = []
bank_ports_in (e ∷ es) = replicate (banks_of e.shape.dims) e.shape.ports ++ bank_ports_in es

-- of each memory, and of what would be the next one
pub record AreBases (table : List MemEntry) (bases : List ℕ) : Type 0 where
  pub long : length bases ≡ length table + 1
  pub each : (memory : ℕ) → memory ≤ length table → slice_index bases memory ≡ first_bank_of table memory

-- Accesses.

-- an access inside these loops, its arms left aside
abbrev pub access_of : (loops : List Counter) → (writes : Bool) → Term → SourceAccess
access_of loops writes (term place kind form) =
    record { place = place; entity = entity_in form; element = element_in form; writes = writes; site = record { command = 0; arms = []; loops = loops } }

-- the access that an expression of the code is
abbrev pub source_of : (loops : List Counter) → (writes : Bool) → Expr → SourceAccess
source_of loops writes e = access_of loops writes (term_seen e)

-- it names the memory of a number, or a view from which a way leads
abbrev pub NamesMemory : Program → Expr → (memory : ℕ) → Type 0
NamesMemory p e memory = number_in (memories_of p) (entity_in (form_seen e.form)) ≡ Some memory

abbrev pub NamesView : Program → Expr → Way → Type 0
NamesView p e w = way_to p (entity_in (form_seen e.form)) ≡ Some w

-- the keys with which an access reaches a bank of a memory of these dimensions
abbrev pub keys_on : Program → List Dim → SourceAccess → (bank : ℕ) → ℕ
keys_on p dims a bank =
    distinct_count same_path (map (key_of (all_bindings_of p) a) (filter (λ path. bank_reached (counters_of p) dims a path a.element == bank) (paths_of a)))

-- what is counted of it on a bank: the keys, or what is carried there through views
abbrev pub count_on : Program → Option Way → List Dim → SourceAccess → (bank : ℕ) → ℕ
count_on p None dims a bank = keys_on p dims a bank
count_on p (Some w) dims a bank = charge_through p w a bank

-- the same for each of so many banks
abbrev pub counts_to : Program → List Dim → SourceAccess → (banks : ℕ) → List ℕ
counts_to p dims a zero = []
counts_to p dims a (suc bank) = counts_to p dims a bank ++ count_on p (way_to p a.entity) dims a bank ∷ []

-- Claims.

-- the claim of the bank that stands at a place, where it is reached
abbrev pub claim_at : (event slot keys : ℕ) → List Move
claim_at event slot keys = if keys == 0 then [] else move.Claim event slot keys ∷ []

abbrev pub claims_from : (event slot : ℕ) → (counts : List ℕ) → List Move
claims_from event slot [] = []
claims_from event slot (keys ∷ counts) = claim_at event slot keys ++ claims_from event (suc slot) counts

-- the claim of one bank of so many that begin at a place, where it is one
abbrev pub claim_in : (event base banks bank : ℕ) → List Move
claim_in event base banks bank = if nat_lt bank banks then move.Claim event (base + bank) 1 ∷ [] else []

-- the claims of an access of a memory whose banks begin at a place
abbrev pub claims_in : Program → (event base : ℕ) → Option MemEntry → SourceAccess → List Move
claims_in p event base None a = []
claims_in p event base (Some e) a = claims_from event base (counts_to p e.shape.dims a (banks_of e.shape.dims))

-- the claims of an access of the memory of a number
abbrev pub claims_at : Program → (event : ℕ) → Option ℕ → SourceAccess → List Move
claims_at p event None a = []
claims_at p event (Some memory) a = claims_in p event (first_bank_of (table_of p) memory) (slice_get (table_of p) memory) a

-- the entity of the memory that an access leads to
abbrev pub owner_of : Program → SourceAccess → Option ℕ
owner_of p a = ways.base_of (way_to p a.entity) a.entity

-- the claims of an access
abbrev pub claims_of : Program → (event : ℕ) → SourceAccess → List Move
claims_of p event a = claims_at p event (number_in (memories_of p) (owner_of p a)) a

-- what incidents do to banks, from the event of a number on, where `loops` says which unrolled loops stand
-- round what stands innermost in one
abbrev pub moves_from : Program → (loops : Option ℕ → List Counter) → (event : ℕ) → List PortEvent → List Move
moves_from p loops event [] = []
moves_from p loops event (touches access writes site ∷ xs) = claims_of p event (access_of (loops site.round) writes access) ++ moves_from p loops (event + 1) xs
moves_from p loops event (assigned entity ∷ xs) = moves_from p loops (event + 1) xs
moves_from p loops event (arm_begins ∷ xs) = moves_from p loops (event + 1) xs
moves_from p loops event (arm_ends ∷ xs) = moves_from p loops (event + 1) xs
moves_from p loops event (begins ∷ xs) = move.Begin ∷ moves_from p loops (event + 1) xs
moves_from p loops event (next ∷ xs) = move.Next ∷ moves_from p loops (event + 1) xs
moves_from p loops event (ends ∷ xs) = move.End ∷ moves_from p loops (event + 1) xs
