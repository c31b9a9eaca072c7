-- What the calls that give variables their slots answer.
use Rattle.std.specs.Prelude.{◌≡◌, ℕ, ◌<◌, ◌≤◌, ◌^◌, List, [], ◌∷◌, ◌++◌, length, map, Option, Some, None, option_map, Vec, Box}
use Rattle.std.specs.Global.{Global}
use Rattle.std.specs.List.{AllByRecursion}
use Rattle.dh_value.specs.declared.kinds.Kind.TheVariants as kind
use Rattle.dh_tree.specs.Collected.{AreKept}
use Rattle.dh_tree.specs.declared.trees.commands.Command.{Command}
use Rattle.dh_tree.specs.Seen.{action_seen, groups, maybe_seen, part_seen}
use Rattle.dh_ways.specs.declared.ways.Hidden.{Hidden}
use Rattle.dh_code.specs.declared.places.Declared.{Declared}
use Rattle.dh_code.specs.declared.places.VariableSlots.{VariableSlots}
use Rattle.dh_code.specs.Declarations.{Declaration, all_held, declarations, declaration_in, declared_of, factors_inside, groups_declarations, other_declarations, slots_counted}
use Rattle.dh_code.specs.Ranks.{copies_in}
use Rattle.dh_base.specs.Limits.{most_copies}

-- loops of these factors: how many they are, and their copies together, of which each loop has at least two
pub record IsLoopNest (factors : List ℕ) (depth copies : ℕ) : Type 0 where
  pub deep : depth ≡ length factors
  pub many : copies ≡ copies_in factors
  pub doubled : 2 ^ depth ≤ copies

-- a loop of this factor stands inside so many, with so many copies: where there is room, so many loops are round what is in it
abbrev pub LoopStandsInside : (depth copies factor inner_depth inner_copies : ℕ) → Type 0
LoopStandsInside depth copies factor inner_depth inner_copies =
    (factors : List ℕ) → IsLoopNest factors depth copies → copies_in (factors_inside factors factor) ≤ most_copies → IsLoopNest (factors_inside factors factor) inner_depth inner_copies

-- each variable has few copies
abbrev pub AreFew : List Declaration → Type 0
AreFew ds = AllByRecursion (λ d. copies_in d.factors ≤ most_copies) ds

-- the declarations of a command, a block that may lack, and parts are listed, where they have few copies
abbrev pub Declares : (old new : List Declared) → (depth copies : ℕ) → Command → Type 0
Declares old new depth copies c = (factors : List ℕ) → IsLoopNest factors depth copies → AreFew (declarations factors (action_seen c)) → new ≡ old ++ map declared_of (declarations factors (action_seen c))

abbrev pub DeclaresOther : (old new : List Declared) → (depth copies : ℕ) → Option (Box Command Global) → Type 0
DeclaresOther old new depth copies other = (factors : List ℕ) → IsLoopNest factors depth copies → AreFew (other_declarations factors (maybe_seen (option_map (λ b. action_seen b.value) other))) → new ≡ old ++ map declared_of (other_declarations factors (maybe_seen (option_map (λ b. action_seen b.value) other)))

abbrev pub DeclaresParts : (old new : List Declared) → (depth copies : ℕ) → List (Vec Command Global) → Type 0
DeclaresParts old new depth copies parts = (factors : List ℕ) → IsLoopNest factors depth copies → AreFew (groups_declarations factors (groups (map part_seen parts))) → new ≡ old ++ map declared_of (groups_declarations factors (groups (map part_seen parts)))

-- of each entity its declaration
abbrev pub AreFound : List Declaration → List (Option Declared) → Type 0
AreFound ds found = AreKept (λ entity. option_map declared_of (declaration_in ds entity)) found

abbrev pub KeepsFound : (old new : List (Option Declared)) → Declared → Type 0
KeepsFound old new variable = (ds : List Declaration) (d : Declaration) → AreFound ds old → variable ≡ declared_of d → AreFound (ds ++ d ∷ []) new

abbrev pub held_of : Option Declared → (first : ℕ) → VariableSlots
held_of None first = record { kind = kind.Bool; depth = 0; first = first }
held_of (Some d) first = record { kind = d.kind; depth = d.depth; first = first }

abbrev pub copies_held : Option Declared → ℕ
copies_held None = 1
copies_held (Some d) = d.copies

abbrev pub has_few : Option Declared → Type 0
has_few v = copies_held v ≤ most_copies

-- more entities than any text declares, with the variables that keep offsets of its views, of which each has at most
-- six
abbrev pub most_entities : ℕ
most_entities = 2 ^ 23

-- the slots of variables, one behind the other
abbrev pub AreLaidSlots : List (Option Declared) → List VariableSlots → (count : ℕ) → Type 0
AreLaidSlots found held count = (ds : List Declaration) → AreFound ds found → (held ≡ all_held ds 0 0 (length found)) × (count ≡ slots_counted ds 0 0 (length found))

-- what is named is one of the first so many entities
abbrev pub IsNamedBelow : ℕ → Option ℕ → Type 0
IsNamedBelow n None = Unit {0}
IsNamedBelow n (Some e) = e < n

-- a variable that keeps an offset, as it is declared
abbrev pub hidden_as : Hidden → Declared
hidden_as h = record { entity = Some h.entity; kind = h.kind; depth = h.depth; copies = h.copies }

-- they are declared inside loops of some factors, and have few copies
abbrev pub AreFewHidden : List Hidden → Type 0
AreFewHidden hidden = (ds : List Declaration) × ((map declared_of ds ≡ map hidden_as hidden) × AreFew ds)

-- the slots of the variables of a command and of these behind them, of so many entities
abbrev pub ArePlaces : Command → List Hidden → (entities : ℕ) → List VariableSlots → (count : ℕ) → Type 0
ArePlaces body hidden entities held count =
    (ds : List Declaration) → map declared_of ds ≡ map hidden_as hidden
    → (held ≡ all_held (declarations [] (action_seen body) ++ ds) 0 0 entities) × (count ≡ slots_counted (declarations [] (action_seen body) ++ ds) 0 0 entities)
