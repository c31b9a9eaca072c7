-- What the code holds of the levels of a phase, and what each step makes of it.
use Rattle.std.specs.Prelude.{◌≡◌, ℕ, ◌+◌, ◌≤◌, nat_lt, if◌then◌else◌, max, List, [], ◌∷◌, ◌++◌, length, map, replicate, slice_index, Option, option_map, Vec}
use Rattle.std.specs.Global.{Global}
use Rattle.dh_tree.specs.declared.trees.expressions.Expr.{Expr}
use Rattle.dh_tree.specs.Seen.{factor_seen, term_seen, terms}
use Rattle.dh_meaning.specs.AccessNumbers.{maybe_accesses, term_accesses, terms_accesses}
use Rattle.dh_meaning.specs.Core.{Reach, CoreTerm}
use Rattle.dh_meaning.specs.CoreOf.{Known, core_term, core_terms, entity_number, first_value, store_to}
use Rattle.dh_meaning.specs.Levels.{Levels, Leveled, level_ground, read_leveled, term_leveled, terms_leveled, command_leveled, with_variables, with_value}
use Rattle.dh_lengths.specs.LedBy.{way_by, IsLedBy}
use Rattle.dh_meaning.specs.Ways.{Hidden, hidden_in}
use Rattle.dh_lengths.specs.declared.leads.Leads.{Leads}
use Rattle.dh_events.specs.Tables.{table_at}
use Rattle.dh_lengths.specs.declared.held.PhaseLevels.{PhaseLevels}
use Rattle.dh_lengths.specs.declared.undoing.LevelMark.{LevelMark}
use Rattle.dh_lengths.specs.SharedReads.{told}
use Rattle.dh_lengths.specs.Undone.{mark, undone_levels}

-- accesses that have level 0

abbrev pub zero_levels : ℕ → List ℕ
zero_levels n = replicate n 0

-- those of the offsets of a suffix
abbrev pub suffixes_accesses : List (ℕ × Expr) → ℕ
suffixes_accesses by = terms_accesses (terms (map (λ s. s.offset) (map factor_seen by)))

abbrev pub AddsZeros : (old new : Vec ℕ Global) → ℕ → Type 0
AddsZeros old new n = new.items ≡ old.items ++ zero_levels n

-- What is held.

-- the level of a read of the phase, 0 of others
abbrev pub read_in : (reads : List ℕ) → (first number : ℕ) → ℕ
read_in reads first number = if nat_lt number first then 0 else slice_index reads number

abbrev pub variable_in : List ℕ → Option ℕ → ℕ
variable_in variables entity = table_at variables (entity_number entity)

abbrev pub levels_of : (reads : List ℕ) → (first most : ℕ) → (variables : List ℕ) → Levels
levels_of reads first most variables = record { variables = table_at variables; reads = read_in reads first; most = most }

abbrev pub levels_seen : PhaseLevels → Levels
levels_seen h = levels_of h.reads.items h.first h.most h.variables.items

-- the accesses so far
abbrev pub held_access_count : PhaseLevels → ℕ
held_access_count h = length h.reads.items

-- no level is greater than the number of accesses so far
pub record LevelsAreSmall (n : ℕ) (l : Levels) : Type 0 where
  pub variables : (e : ℕ) → l.variables e ≤ n
  pub reads : (k : ℕ) → l.reads k ≤ n
  pub most : l.most ≤ n

pub record HasSoundLevels (h : PhaseLevels) : Type 0 where
  pub first : h.first ≤ held_access_count h
  pub small : LevelsAreSmall (held_access_count h) (levels_seen h)

-- What a step makes of it.

-- nothing but reads came
pub record KeepsVariableLevels (old new : PhaseLevels) : Type 0 where
  pub shares : new.shares.now ≡ old.shares.now
  pub first : new.first ≡ old.first
  pub variables : new.variables.items ≡ old.variables.items
  pub log : new.log.items ≡ old.log.items

-- a value of a level, behind so many accesses more
pub record GivesLevel (old new : PhaseLevels) (i : Leveled) (level n : ℕ) : Type 0 where
  pub is : level ≡ i.level
  pub seen : levels_seen new ≡ i.levels
  pub sound : HasSoundLevels new
  pub low : level ≤ held_access_count new
  pub counted : held_access_count new ≡ held_access_count old + n
  pub keeps : KeepsVariableLevels old new

-- what is told where levels are small, of programs with these ways
abbrev pub Leveling : (ways : Leads) → (old : PhaseLevels) → (outer : ℕ) → (Known → Type 0) → Type 0
Leveling ways old outer P = (known : Known) → IsLedBy ways known → HasSoundLevels old → outer ≤ held_access_count old → P known

-- the greatest level of the variables that keep the offsets on a way
abbrev pub hidden_level : (variables : ℕ → ℕ) → List Hidden → ℕ
hidden_level variables [] = 0
hidden_level variables (h ∷ hs) = max (variables h.entity) (hidden_level variables hs)

-- that of a name, with a level of its indices
abbrev pub level_through : (ways : Leads) → (variables : ℕ → ℕ) → Option ℕ → (level : ℕ) → ℕ
level_through ways variables entity level = max level (hidden_level variables (hidden_in (way_by ways entity)))

abbrev pub leveled_with : ℕ → Levels → Leveled
leveled_with level levels = record { level = level; levels = levels }

-- the next read, whose indices have a level
abbrev pub ReadsNext : (old new : PhaseLevels) → (outer indices level : ℕ) → Type 0
ReadsNext old new outer indices level =
    (r : Reach) → r.number ≡ held_access_count old → HasSoundLevels old → outer ≤ held_access_count old → indices ≤ held_access_count old
    → GivesLevel old new (read_leveled (told old.shares.now) outer r (leveled_with indices (levels_seen old))) level 1

abbrev pub LevelsTerm : (ways : Leads) → (old new : PhaseLevels) → (outer : ℕ) → Expr → (level : ℕ) → Type 0
LevelsTerm ways old new outer e level =
    Leveling ways old outer (λ known. GivesLevel old new (term_leveled (told old.shares.now) outer (core_term known (held_access_count old) (term_seen e)) (levels_seen old)) level (term_accesses (term_seen e)))

abbrev pub LevelsTerms : (ways : Leads) → (old new : PhaseLevels) → (outer : ℕ) → List Expr → (level : ℕ) → Type 0
LevelsTerms ways old new outer es level =
    Leveling ways old outer (λ known. GivesLevel old new (terms_leveled (told old.shares.now) outer (core_terms known (held_access_count old) (terms (map term_seen es))) (levels_seen old)) level (terms_accesses (terms (map term_seen es))))

-- what a `let` sets its variable to
abbrev pub LevelsMaybe : (ways : Leads) → (old new : PhaseLevels) → (outer : ℕ) → Option Expr → (level : ℕ) → Type 0
LevelsMaybe ways old new outer value level =
    Leveling ways old outer (λ known. (declared : _)
    → GivesLevel old new (term_leveled (told old.shares.now) outer (first_value known (held_access_count old) declared (option_map term_seen value)) (levels_seen old)) level (maybe_accesses (option_map term_seen value)))

-- levels, behind so many accesses more
pub record GivesLevels (old new : PhaseLevels) (l : Levels) (n : ℕ) : Type 0 where
  pub seen : levels_seen new ≡ l
  pub sound : HasSoundLevels new
  pub counted : held_access_count new ≡ held_access_count old + n
  pub keeps : KeepsVariableLevels old new

-- a store
abbrev pub LevelsStore : (ways : Leads) → (old new : PhaseLevels) → (outer : ℕ) → (target value : Expr) → Type 0
LevelsStore ways old new outer target value =
    Leveling ways old outer (λ known. GivesLevels old new (command_leveled (told old.shares.now) outer (store_to known (held_access_count old + term_accesses (term_seen value)) (term_seen target) (core_term known (held_access_count old) (term_seen value))) (levels_seen old)) (term_accesses (term_seen value) + term_accesses (term_seen target)))

-- accesses of level 0 came
pub record Skips (old new : PhaseLevels) (n : ℕ) : Type 0 where
  pub reads : new.reads.items ≡ old.reads.items ++ zero_levels n
  pub most : new.most ≡ old.most
  pub keeps : KeepsVariableLevels old new

abbrev pub SkipsStore : (old new : PhaseLevels) → (target value : Expr) → Type 0
SkipsStore old new target value = Skips old new (term_accesses (term_seen value) + term_accesses (term_seen target))

-- a variable has a level
pub record AssignsAt (old new : PhaseLevels) (place level : ℕ) : Type 0 where
  pub seen : levels_seen new ≡ with_variables (levels_seen old) (with_value (levels_seen old).variables place level)
  pub reads : new.reads.items ≡ old.reads.items
  pub shares : new.shares.now ≡ old.shares.now
  pub first : new.first ≡ old.first
  pub log : new.log.items ≡ old.log.items ++ mark place (table_at old.variables.items place) ∷ []

abbrev pub AssignsLevel : (old new : PhaseLevels) → Option ℕ → (level : ℕ) → Type 0
AssignsLevel old new entity level = AssignsAt old new (entity_number entity) level

-- the phase is over
pub record EndsPhase (old new : PhaseLevels) : Type 0 where
  pub reads : new.reads.items ≡ old.reads.items
  pub shares : new.shares.now ≡ old.shares.now
  pub first : new.first ≡ held_access_count old
  pub most : new.most ≡ 0
  pub variables : table_at new.variables.items ≡ undone_levels old.log.items (table_at old.variables.items)
  pub log : new.log.items ≡ []
