-- How copies of an access are told by numbers of paths.
use Rattle.std.specs.Prelude.{◌≡◌, ℕ, ◌+◌, ◌-◌, ◌*◌, ◌/◌, ◌%◌, ◌<◌, ◌≤◌, ◌==◌, not, if◌then◌else◌, Bool, List, [], ◌∷◌, length, map, Option, pos, ◌+ℤ◌, unsigned_abs, ◌⊎◌, slice_index, slice_set, Vec}
use Rattle.std.specs.Global.{Global}
use Rattle.std.specs.List.{AllByRecursion, filter}
use Rattle.std.specs.Set.{distinct_count}
use Rattle.dh_tree.specs.declared.tables.Dim.{Dim}
use Rattle.dh_tree.specs.declared.trees.counters.Counter.{Counter}
use Rattle.dh_tree.specs.declared.trees.expressions.Expr.{Expr}
use Rattle.dh_tree.specs.declared.trees.programs.Tree.{Tree}
use Rattle.dh_tree.specs.Elements.{bank_of}
use Rattle.dh_tree.specs.Seen.{term_seen, terms}
use Rattle.dh_meaning.specs.Bindings.{Binding}
use Rattle.dh_meets.specs.Charges.{loop_factors, depends, indices_in}
use Rattle.dh_meets.specs.SourceEvents.{SourceAccess}
use Rattle.dh_ports.specs.declared.copies.Copied.{Copied}
use Rattle.dh_ports.specs.declared.copies.CopyLevel.{CopyLevel}
use Rattle.dh_ports.specs.declared.copies.BankDimension.{BankDimension}
use Rattle.dh_ports.specs.declared.copies.AccessPaths.{AccessPaths}
use Rattle.dh_ports.specs.declared.copies.PathReach.{PathReach}
use Rattle.dh_ports.specs.declared.counting.Seen.{Seen}
use Rattle.dh_events.specs.declared.dependence.Scope.{Scope}
use Rattle.dh_ports.specs.Banks.{bank_at_path, each_below, keys_in, path_of_number}
use Rattle.dh_shape.specs.Classified.{loops_in}
use Rattle.dh_ports.specs.Claims.{source_of}
use Rattle.dh_events.specs.Scopes.{AreScopes}
use Rattle.dh_events.specs.Tables.{table_at, with_number}
use Rattle.dh_meaning.specs.Paths.{copies_in}
use Rattle.dh_base.specs.Limits.{most_copies}

-- the copies of what stands in these loops
abbrev pub copies_round : List Counter → ℕ
copies_round loops = copies_in (loop_factors loops)

-- a loop has copies
pub record IsSpreadLevel (level : CopyLevel) : Type 0 where
  pub factor : 1 ≤ level.factor
  pub stride : 1 ≤ level.stride

-- what the levels of loops are, from a level on, where a test picks those on which the access depends
abbrev pub AreLevels : (picks : ℕ → Bool) → (level : ℕ) → (factors : List ℕ) → List CopyLevel → Type 0
AreLevels picks level [] [] = Unit {0}
AreLevels picks level (factor ∷ factors) (l ∷ ls) =
    ((l.factor ≡ factor) × ((l.stride ≡ copies_in factors) × (l.share ≡ (if picks level then keys_in picks (level + 1) factors else 0)))) × AreLevels picks (level + 1) factors ls
AreLevels picks level _ _ = ⊥

-- the loops round an access as numbers of paths tell their copies
pub record AreAccessPaths (scopes : List (Option Scope)) (loops : List Counter) (access : Expr) (writes : Bool) (paths : AccessPaths) : Type 0 where
  pub count : paths.count ≡ copies_round loops
  pub levels : (bs : List Binding) → AreScopes bs scopes → 1 ≤ copies_round loops → AreLevels (depends bs (source_of loops writes access)) 0 (loop_factors loops) paths.levels.items

-- the number of the key of the path of a number
abbrev pub key_of_levels : List CopyLevel → (number : ℕ) → ℕ
key_of_levels [] number = 0
key_of_levels (l ∷ ls) number = ((number / l.stride) % l.factor) * l.share + key_of_levels ls number

-- the most that a key can be
abbrev pub greatest_key : List CopyLevel → ℕ
greatest_key [] = 0
greatest_key (l ∷ ls) = (l.factor - 1) * l.share + greatest_key ls

abbrev pub HasFewKeys : List CopyLevel → Type 0
HasFewKeys levels = greatest_key levels ≤ most_copies * most_copies

abbrev pub copy_of_level : List CopyLevel → (level number : ℕ) → ℕ
copy_of_level [] level number = 0
copy_of_level (l ∷ ls) level number = if level == 0 then (number / l.stride) % l.factor else copy_of_level ls (level - 1) number

-- the bank that lanes tell of the path of a number
abbrev pub bank_of_lanes : List CopyLevel → List BankDimension → (number : ℕ) → ℕ
bank_of_lanes levels [] number = 0
bank_of_lanes levels (l ∷ ls) number = (unsigned_abs (pos (l.low + copy_of_level levels l.level number) +ℤ l.offset) % l.banks) * l.times + bank_of_lanes levels ls number

-- lanes have banks, and few together
abbrev pub all_lane_banks : List BankDimension → ℕ
all_lane_banks [] = 0
all_lane_banks (l ∷ ls) = l.banks * l.times + all_lane_banks ls

abbrev pub HaveBanks : List BankDimension → Type 0
HaveBanks [] = Unit {0}
HaveBanks (l ∷ ls) = (1 ≤ l.banks) × HaveBanks ls

pub record HasFewBanks (lanes : List BankDimension) : Type 0 where
  pub few : all_lane_banks lanes ≤ 4096
  pub banks : HaveBanks lanes

-- the bank that lanes and an own bank tell is the one that an access reaches at each path
pub record IsReach (tree : Tree) (loops : List Counter) (dims : List Dim) (access : Expr) (lanes : List BankDimension) (own : ℕ) : Type 0 where
  pub few : HasFewBanks lanes
  pub alone : (own ≡ 0) ⊎ (lanes ≡ [])
  pub each : (picks : ℕ → Bool) (levels : List CopyLevel) (writes : Bool) (number : ℕ) → AreLevels picks 0 (loop_factors loops) levels
      → own + bank_of_lanes levels lanes number ≡ bank_at_path tree dims (source_of loops writes access) (path_of_number (loop_factors loops) number)

-- the same of indices
pub record AreIndexLanes (tree : Tree) (loops : List Counter) (dims : List Dim) (indices : List Expr) (lanes : List BankDimension) : Type 0 where
  pub few : HasFewBanks lanes
  pub each : (picks : ℕ → Bool) (levels : List CopyLevel) (number : ℕ) → AreLevels picks 0 (loop_factors loops) levels
      → bank_of_lanes levels lanes number ≡ bank_of dims (indices_in (loops_in tree) loops (path_of_number (loop_factors loops) number) (terms (map term_seen indices)))

-- an access by the numbers of its paths: its loops, and the lanes and the bank that tell what it reaches
pub record IsAccessReach (scopes : List (Option Scope)) (tree : Tree) (loops : List Counter) (dims : List Dim) (access : Expr) (writes : Bool) (reach : PathReach) : Type 0 where
  pub paths : AreAccessPaths scopes loops access writes reach.paths
  pub lanes : IsReach tree loops dims access reach.lanes.items reach.own

-- an access whose copies are counted, as the definitions know it
abbrev pub source_copied : Copied → SourceAccess
source_copied c = source_of c.loops.now c.writes c.access.now

-- the lanes and the bank that tell what it reaches, and all that it reaches
abbrev pub IsReachOf : Tree → Copied → List BankDimension → (own : ℕ) → Type 0
IsReachOf tree c lanes own = IsReach tree c.loops.now c.dims.now c.access.now lanes own

abbrev pub CopiesReach : List (Option Scope) → Tree → Copied → PathReach → Type 0
CopiesReach scopes tree c reach = IsAccessReach scopes tree c.loops.now c.dims.now c.access.now c.writes reach

-- the bank that an access reaches at the path of a number, and the number of its key there
abbrev pub bank_at_path_number : PathReach → (number : ℕ) → ℕ
bank_at_path_number reach number = reach.own + bank_of_lanes reach.paths.levels.items reach.lanes.items number

abbrev pub key_by : PathReach → (number : ℕ) → ℕ
key_by reach number = key_of_levels reach.paths.levels.items number

-- both can be told of each path
pub record TellsPaths (reach : PathReach) : Type 0 where
  pub spread : AllByRecursion IsSpreadLevel reach.paths.levels.items
  pub keys : HasFewKeys reach.paths.levels.items
  pub below : (number : ℕ) → key_by reach number < reach.paths.count
  pub lanes : HasFewBanks reach.lanes.items
  pub alone : (reach.own ≡ 0) ⊎ (reach.lanes.items ≡ [])
  pub few : reach.paths.count ≤ most_copies

-- The copies of so many loops from the outside, each of which has so many paths inside it.

abbrev pub stride_in : List CopyLevel → (loops count : ℕ) → ℕ
stride_in [] loops count = count
stride_in (l ∷ ls) loops count = if loops == 0 then count else stride_in ls (loops - 1) l.stride

-- Pairs of a bank and a key.

-- no pair was seen since the present moment began
abbrev pub IsUnseen : Seen → Type 0
IsUnseen seen = (pair : ℕ) → table_at seen.moments.items pair < seen.moment

-- and none was seen later than it
abbrev pub IsPast : Seen → Type 0
IsPast seen = (pair : ℕ) → table_at seen.moments.items pair ≤ seen.moment

-- a pair is seen, and was not seen at this moment before
pub record SeesPair (old new : Seen) (pair : ℕ) (first : Bool) : Type 0 where
  pub told : first ≡ not (table_at old.moments.items pair == old.moment)
  pub seen : table_at new.moments.items ≡ with_number (table_at old.moments.items) pair old.moment
  pub same : new.moment ≡ old.moment

-- a pair is noted at the present moment
pub record IsMarked (old new : Seen) (pair : ℕ) : Type 0 where
  pub seen : table_at new.moments.items ≡ with_number (table_at old.moments.items) pair old.moment
  pub same : new.moment ≡ old.moment

-- a bank's count rises where the pair was not seen at this moment
abbrev pub bank_counts_raised : (seen : Bool) → List ℕ → (bank : ℕ) → List ℕ
bank_counts_raised seen counts bank = if seen then counts else slice_set counts bank (slice_index counts bank + 1)

abbrev pub IsPairCounted : Seen → (old new : Vec ℕ Global) → (bank pair : ℕ) → Type 0
IsPairCounted seen old new bank pair = new.items ≡ bank_counts_raised (table_at seen.moments.items pair == seen.moment) old.items bank

-- Counts.

abbrev pub same_number : ℕ → ℕ → Bool
same_number a b = a == b

-- with how many keys so many paths, from that of a number on, reach a bank
abbrev pub key_count_from : PathReach → (from many bank : ℕ) → ℕ
key_count_from reach from many bank = distinct_count same_number (map (key_by reach) (filter (λ number. bank_at_path_number reach number == bank) (each_below (λ k. from + k) many)))

-- the same of each of so many banks
pub record AreKeyCounts (reach : PathReach) (from many banks : ℕ) (counts : List ℕ) : Type 0 where
  pub long : length counts ≡ banks
  pub each : (bank : ℕ) → bank < banks → slice_index counts bank ≡ key_count_from reach from many bank
