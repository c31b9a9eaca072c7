-- The copies of an access. `leader` is for each path the first one with its key, `bank` the bank of what is named that
-- is reached there, `place` the place of the copy among those on its banks, and `guards` are those of the paths.
use Rattle.std.specs.Prelude.{◌≡◌, ◌⊎◌, ℕ, zero, suc, ◌<◌, ◌||◌, Bool, List, [], ◌∷◌, ◌++◌, length, slice_get, slice_index, slice_set, Option, Some, None}
use Rattle.dh_value.specs.declared.operators.Op.TheVariants.{Either}
use Rattle.dh_tree.specs.PlainTrees.{TermForm}
use Rattle.dh_tree.specs.Seen.{program_seen}
use Rattle.dh_meaning.specs.Ways.{all_bindings_of}
use Rattle.dh_meets.specs.Charges.{element_depends, entity_depends}
use Rattle.dh_events.specs.Accesses.{element_in, entity_in}
use Rattle.dh_events.specs.Scopes.{AreScopes, IsLow}
use Rattle.dh_plan.specs.declared.operations.OperationForm.TheVariants.{Compute}
use Rattle.dh_expressions.specs.declared.banks.BankSpan.{BankSpan}
use Rattle.dh_expressions.specs.declared.copies.AccessAt.{AccessAt}
use Rattle.dh_expressions.specs.declared.drafts.Draft.{Draft}
use Rattle.dh_expressions.specs.declared.paths.Level.{Level}
use Rattle.dh_expressions.specs.declared.scenes.Scene.{Scene}
use Rattle.dh_expressions.specs.Counting.{places_by}
use Rattle.dh_expressions.specs.Drafted.{BlockBegun, Extends, FitsStep, Pushes, BlockStep, holds, tale}
use Rattle.dh_expressions.specs.Levels.{is_counted_level, leader_number, rank_number}
use Rattle.dh_expressions.specs.Numbers.{narrowed}
use Rattle.dh_expressions.specs.ReachedBanks.{spans_number}
use Rattle.dh_expressions.specs.Shown.{guard_of}

-- On which loops an access depends.

-- an access depends on the loop of this level; a write on every one
abbrev pub depends_at : Scene → TermForm → (writes : Bool) → (level : ℕ) → Bool
depends_at scene form writes level =
    writes || (entity_depends (all_bindings_of (program_seen scene.program.now)) level (entity_in form) || element_depends (all_bindings_of (program_seen scene.program.now)) level (element_in form))

-- the scene tells where each variable of its program is declared
abbrev pub HasScopes : Scene → Type 0
HasScopes scene = AreScopes (all_bindings_of (program_seen scene.program.now)) scene.scopes.now

-- flags of so many loops that say so
pub record TellsCountedLevels (scene : Scene) (levels : ℕ) (form : TermForm) (writes : Bool) (counts : List Bool) : Type 0 where
  pub long : length counts ≡ levels
  pub each : HasScopes scene → (level : ℕ) → level < levels → IsLow level → is_counted_level counts level ≡ depends_at scene form writes level

abbrev pub leaders_by : List Level → List Bool → (path : ℕ) → ℕ
leaders_by levels counts path = leader_number levels (is_counted_level counts) path

abbrev pub banks_by : List BankSpan → List Level → (own : ℕ) → (path : ℕ) → ℕ
banks_by spans levels own path = narrowed (spans_number spans levels own path)

-- paths whose first copies are the same, so many, are one group
abbrev pub groups_by : List Level → (shifts : ℕ) → (path : ℕ) → ℕ
groups_by levels shifts path = rank_number levels shifts path

-- Copies.

-- at one of the first paths that a path leads, so many, the guard holds
pub record DoneBy (x : BlockStep) (leader : ℕ → ℕ) (guards : List (Option ℕ)) (n first : ℕ) : Type 0 where
  pub path : ℕ
  pub within : path < n
  pub leads : leader path ≡ first
  pub on : holds x (guard_of guards path)

-- The copy at path k, when the first n paths are copied. A leader is done where one of the paths is that it leads;
-- the others have no guard.
pub record IsCopy (x : BlockStep) (leader bank place : ℕ → ℕ) (guards : List (Option ℕ)) (n k : ℕ) (c : AccessAt) : Type 0 where
  pub leader_is : c.leader ≡ leader k
  pub bank_is : c.bank ≡ bank k
  pub place_is : c.place ≡ place k
  pub alone : (leader k ≡ k → ⊥) → c.guard ≡ None
  pub on : DoneBy x leader guards n (leader k) → holds x c.guard
  pub by : leader k ≡ k → holds x c.guard → DoneBy x leader guards n k

-- the copies at the first n paths
pub record AreCopies (x : BlockStep) (leader bank place : ℕ → ℕ) (guards : List (Option ℕ)) (n : ℕ) (copies : List AccessAt) : Type 0 where
  pub long : length copies ≡ n
  pub each : (k : ℕ) (c : AccessAt) → slice_get copies k ≡ Some c → IsCopy x leader bank place guards n k c

-- no bank is counted
abbrev pub AreNone : List ℕ → Type 0
AreNone numbers = (b : ℕ) → slice_index numbers b ≡ 0

-- Inside: one copy after the other.

-- nothing is added where one of them always holds, else one operation
abbrev pub AddsEither : (old new : Draft) → (one other joined : Option ℕ) → Type 0
AddsEither old new None other joined = (new ≡ old) × (joined ≡ None)
AddsEither old new (Some one) None joined = (new ≡ old) × (joined ≡ None)
AddsEither old new (Some one) (Some other) joined = (number : ℕ) × ((joined ≡ Some number) × Pushes old new number None (Compute Either one other))

-- the guard of what is done where one of two is
pub record JoinsGuards (old new : Draft) (one other joined : Option ℕ) : Type 0 where
  pub adds : AddsEither old new one other joined
  pub extends : Extends old new
  pub quiet : (x : BlockStep) → FitsStep x new → BlockBegun x old → tale x new ≡ tale x old
  pub none : one ≡ None → joined ≡ None
  pub on : (x : BlockStep) → FitsStep x new → BlockBegun x old → holds x one ⊎ holds x other → holds x joined
  pub by : (x : BlockStep) → FitsStep x new → BlockBegun x old → holds x joined → holds x one ⊎ holds x other

abbrev pub guard_put : Option AccessAt → List AccessAt → (at : ℕ) → Option ℕ → List AccessAt
guard_put None copies at guard = copies
guard_put (Some c) copies at guard = slice_set copies at (record { leader = c.leader; bank = c.bank; place = c.place; guard = guard })

-- the copies with the guard of one changed
abbrev pub with_guard : List AccessAt → (at : ℕ) → Option ℕ → List AccessAt
with_guard copies at guard = guard_put (slice_get copies at) copies at guard

-- a further guard joins that of a leader
pub record JoinsLeader (old new : Draft) (copies changed : List AccessAt) (leader : ℕ) (guard : Option ℕ) : Type 0 where
  pub extends : Extends old new
  pub quiet : (x : BlockStep) → FitsStep x new → BlockBegun x old → tale x new ≡ tale x old
  pub joined : Option ℕ
  pub changed_is : changed ≡ with_guard copies leader joined
  pub joins : (c : AccessAt) → slice_get copies leader ≡ Some c → JoinsGuards old new c.guard guard joined

-- a leader is added
pub record AddsLeader (old new : Draft) (copies more : List AccessAt) (number leader bank place : ℕ) (guard : Option ℕ) : Type 0 where
  pub own : leader ≡ number
  pub same : new ≡ old
  pub copies_are : more ≡ copies ++ record { leader = leader; bank = bank; place = place; guard = guard } ∷ []

-- another is added, and joins its leader
pub record AddsOther (old new : Draft) (copies more : List AccessAt) (number leader bank place : ℕ) (guard : Option ℕ) : Type 0 where
  pub other : leader ≡ number → ⊥
  pub changed : List AccessAt
  pub joins : JoinsLeader old new copies changed leader guard
  pub copies_are : more ≡ changed ++ record { leader = leader; bank = bank; place = place; guard = None } ∷ []

abbrev pub AddsCopy : (old new : Draft) → (copies more : List AccessAt) → (number leader bank place : ℕ) → (guard : Option ℕ) → Type 0
AddsCopy old new copies more number leader bank place guard =
    AddsLeader old new copies more number leader bank place guard ⊎ AddsOther old new copies more number leader bank place guard

-- the copies at the first n paths are made, one after the other
abbrev pub AddsCopies : (leader bank place : ℕ → ℕ) → (guards : List (Option ℕ)) → (n : ℕ) → (old new : Draft) → (copies : List AccessAt) → Type 0
AddsCopies leader bank place guards zero old new copies = (new ≡ old) × (copies ≡ [])
AddsCopies leader bank place guards (suc n) old new copies =
    (d : Draft) × ((cs : List AccessAt) × (AddsCopies leader bank place guards n old d cs × AddsCopy d new cs copies n (leader n) (bank n) (place n) (guard_of guards n)))

-- the same at all paths
abbrev pub AddsAllCopies : (leader bank place : ℕ → ℕ) → (guards : List (Option ℕ)) → (old new : Draft) → (copies : List AccessAt) → Type 0
AddsAllCopies leader bank place guards old new copies = AddsCopies leader bank place guards (length guards) old new copies

-- the copies at all paths are made
pub record MakesCopiesBy (old new : Draft) (after : List ℕ) (guards : List (Option ℕ)) (leader bank group : ℕ → ℕ) (copies : List AccessAt) : Type 0 where
  pub adds : AddsAllCopies leader bank (places_by leader bank group) guards old new copies
  pub extends : Extends old new
  pub quiet : (x : BlockStep) → FitsStep x new → BlockBegun x old → tale x new ≡ tale x old
  pub none : AreNone after
  pub are : (x : BlockStep) → FitsStep x new → BlockBegun x old → AreCopies x leader bank (places_by leader bank group) guards (length guards) copies

-- the copies at the first n paths
pub record CopiesSoFar (old new : Draft) (guards : List (Option ℕ)) (leader bank place : ℕ → ℕ) (n : ℕ) (copies : List AccessAt) : Type 0 where
  pub adds : AddsCopies leader bank place guards n old new copies
  pub extends : Extends old new
  pub quiet : (x : BlockStep) → FitsStep x new → BlockBegun x old → tale x new ≡ tale x old
  pub long : length copies ≡ n
  pub are : (x : BlockStep) → FitsStep x new → BlockBegun x old → AreCopies x leader bank place guards n copies
