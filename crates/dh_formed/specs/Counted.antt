-- What is counted of the operations that are put down, and what each of them is: multiplications, probes, reads and
-- writes of each access, and the registers that are seen. Nothing is checked or set in an expression.
use Rattle.std.specs.Prelude.{◌≡◌, ℕ, ◌+◌, ◌<◌, ◌≤◌, ◌==◌, ◌&&◌, nat_le, nat_lt, true, if◌then◌else◌, List, ◌++◌, length, slice_get, Option, Some, None}
use Rattle.std.specs.List.{AllByRecursion}
use Rattle.dh_tree.specs.declared.trees.counters.Counter.{Counter}
use Rattle.dh_tree.specs.PlainTrees as plain
use Rattle.dh_meaning.specs.AccessNumbers.{term_accesses, terms_accesses}
use Rattle.dh_meaning.specs.CoreOf.{core_term, core_terms}
use Rattle.dh_code.specs.declared.places.VariableSlots.{VariableSlots}
use Rattle.dh_code.specs.Slots.{held_at}
use Rattle.dh_plan.specs.declared.operations.Operation.{Operation}
use Rattle.dh_plan.specs.declared.operations.OperationForm.{OperationForm}
use Rattle.dh_plan.specs.declared.operations.OperationForm.TheVariants.{Constant, Old, Compute, Convert, Select, Check, Probe, Read, Write, Set}
use Rattle.dh_plan.specs.declared.operations.Reach.{Reach}
use Rattle.dh_plan.specs.DoneProgram.{block_products, operations_using, probes_among, term_products, terms_products}
use Rattle.dh_plan.specs.PlanPhases.{term_mentions, core_terms_mention}
use Rattle.dh_expressions.specs.declared.accesses.Accesses.{Accesses}
use Rattle.dh_expressions.specs.declared.accesses.Touched.{Touched}
use Rattle.dh_expressions.specs.declared.drafts.Draft.{Draft}
use Rattle.dh_expressions.specs.declared.scenes.Lane.{Lane}
use Rattle.dh_expressions.specs.declared.scenes.Scene.{Scene}
use Rattle.dh_expressions.specs.Evaluated.{counter_of, known_in}
use Rattle.dh_formed.specs.Formed.{Agrees, FormedBlock, AreNotedReads, IsScope, BlockSite, Started}
use Rattle.dh_expressions.specs.Noted.{touched_in}
use Rattle.dh_expressions.specs.Shown.{register_at}
use Rattle.dh_expressions.specs.Standings.{banks_at}

-- What an operation is: which registers it sees, and which accesses it probes, reads or writes.
abbrev pub FormIs : (Sees : ℕ → Type 0) → (Probes Reads Writes : Reach → Type 0) → OperationForm → Type 0
FormIs Sees Probes Reads Writes (Constant word) = Unit {0}
FormIs Sees Probes Reads Writes (Old register) = Sees register
FormIs Sees Probes Reads Writes (Compute op left right) = Unit {0}
FormIs Sees Probes Reads Writes (Convert inner to) = Unit {0}
FormIs Sees Probes Reads Writes (Select test a b) = Unit {0}
FormIs Sees Probes Reads Writes (Check ok fault) = ⊥
FormIs Sees Probes Reads Writes (Probe r fault) = Probes r
FormIs Sees Probes Reads Writes (Read r) = Reads r
FormIs Sees Probes Reads Writes (Write r value) = Writes r
FormIs Sees Probes Reads Writes (Set register value) = ⊥

-- The operations that were added are so; at most so many are multiplications, and so many are probes, and reads or
-- writes, of each access.
pub record Counts (old new : Draft) (Is : OperationForm → Type 0) (products : ℕ) (probes uses : (access : ℕ) → ℕ) : Type 0 where
  pub more : List Operation
  pub adds : new.operations.items ≡ old.operations.items ++ more
  pub each : AllByRecursion (λ o. Is o.form) more
  pub products_few : block_products more ≤ products
  pub probes_are : (access : ℕ) → probes_among access more ≡ probes access
  pub uses_are : (access : ℕ) → operations_using access more ≡ uses access

-- none of any access
abbrev pub nothing : (access : ℕ) → ℕ
nothing access = 0

-- those of the accesses from n on, so many
abbrev pub ranged : (n count : ℕ) → (ℕ → ℕ) → (access : ℕ) → ℕ
ranged n count f access = if nat_le n access && nat_lt access (n + count) then f access else 0

-- one for each
abbrev pub one_each : (access : ℕ) → ℕ
one_each access = 1

-- Reads of an access at a path: one where the path leads, and none where the access shares an earlier one.
abbrev pub use_led : Option BlockSite → (path : ℕ) → ℕ
use_led None path = 0
use_led (Some s) path = if s.standing.leader path == path then 1 else 0

abbrev pub use_shared : Option (Option ℕ) → Option BlockSite → (path : ℕ) → ℕ
use_shared (Some (Some earlier)) site path = 0
use_shared share site path = use_led site path

abbrev pub use_of : FormedBlock → Scene → (path : ℕ) → (access : ℕ) → ℕ
use_of x scene path access = use_shared (slice_get scene.shares.now access) (x.sites access) path

-- What each operation is.

-- an access of the block, one of those from n on, so many
pub record IsBlockAccess (x : FormedBlock) (n count : ℕ) (r : Reach) : Type 0 where
  pub from : n ≤ r.access
  pub below : r.access < n + count
  pub site : BlockSite
  pub there : x.sites r.access ≡ Some site
  pub memory_is : r.memory ≡ site.memory

-- it reaches the banks of its path, with its place there
pub record IsUse (x : FormedBlock) (path n count : ℕ) (r : Reach) : Type 0 where
  pub access : IsBlockAccess x n count r
  pub banks_are : r.banks ≡ banks_at access.site.standing path

-- a read is done by a path that leads
pub record IsLedUse (x : FormedBlock) (path n count : ℕ) (r : Reach) : Type 0 where
  pub reaches : IsUse x path n count r
  pub leads : reaches.access.site.standing.leader path ≡ path

-- the register in which a variable, or the counter of an iterator, is seen
abbrev pub register_seen : Option Counter → VariableSlots → Lane → ℕ
register_seen None held lane = register_at held lane
register_seen (Some c) held lane = held.first

-- a register of a variable that is mentioned
pub record IsMentioned (scene : Scene) (lane : Lane) (mentions : (entity : ℕ) → Type 0) (register : ℕ) : Type 0 where
  pub entity : ℕ
  pub mentioned : mentions entity
  pub register_is : register ≡ register_seen (counter_of scene entity) (held_at scene.held.now entity) lane

abbrev pub IsOfTerm : FormedBlock → Scene → Lane → (n : ℕ) → plain.Term → OperationForm → Type 0
IsOfTerm x scene lane n t =
    FormIs (λ register. IsMentioned scene lane (λ entity. term_mentions entity (core_term (known_in scene) n t) ≡ true) register)
    (λ r. IsBlockAccess x n (term_accesses t) r) (λ r. IsLedUse x lane.number n (term_accesses t) r) (λ r. ⊥)

abbrev pub IsOfTerms : FormedBlock → Scene → Lane → (n : ℕ) → plain.Terms → OperationForm → Type 0
IsOfTerms x scene lane n ts =
    FormIs (λ register. IsMentioned scene lane (λ entity. core_terms_mention entity (core_terms (known_in scene) n ts) ≡ true) register)
    (λ r. IsBlockAccess x n (terms_accesses ts) r) (λ r. IsLedUse x lane.number n (terms_accesses ts) r) (λ r. ⊥)

-- What is noted of accesses from path to path.

abbrev pub length_given : Option Touched → ℕ
length_given None = 0
length_given (Some t) = length t.given

-- at how many paths a read has given a value
abbrev pub given_at_paths : Accesses → (number : ℕ) → ℕ
given_at_paths a number = length_given (touched_in a number)

-- The accesses from n on, so many, have given at the paths before this one; one that shares an earlier read comes
-- behind that, which has given at this path.
pub record AreNext (scene : Scene) (lane : Lane) (a : Accesses) (n count : ℕ) : Type 0 where
  pub each : (m : ℕ) → n ≤ m → m < n + count → given_at_paths a m ≡ lane.number
  pub known : (m : ℕ) → n ≤ m → m < n + count → m < length scene.shares.now
  pub earlier : (m e : ℕ) → n ≤ m → m < n + count → slice_get scene.shares.now m ≡ Some (Some e) → e < m
  pub shares : (m e : ℕ) → n ≤ m → m < n + count → slice_get scene.shares.now m ≡ Some (Some e) → e < n → lane.number < given_at_paths a e

-- and have given at this path, too; all others have given what they had
pub record HaveGiven (lane : Lane) (before after : Accesses) (n count : ℕ) : Type 0 where
  pub own : (m : ℕ) → n ≤ m → m < n + count → given_at_paths after m ≡ lane.number + 1
  pub before_them : (m : ℕ) → m < n → given_at_paths after m ≡ given_at_paths before m
  pub behind_them : (m : ℕ) → n + count ≤ m → given_at_paths after m ≡ given_at_paths before m

-- what stands where an expression begins at a path
pub record ExpressionBegins (x : FormedBlock) (old new : Draft) (scene : Scene) (lane : Lane) (current : List (Option ℕ)) (before : Accesses) (n count : ℕ) : Type 0 where
  pub agrees : Agrees x new
  pub started : Started x old
  pub scope : IsScope x old scene lane current
  pub noted : AreNotedReads x old before
  pub next : AreNext scene lane before n count

-- An expression at a path.
pub record CountsTerm (x : FormedBlock) (scene : Scene) (lane : Lane) (old new : Draft) (before after : Accesses) (n : ℕ) (t : plain.Term) : Type 0 where
  pub counts : Counts old new (IsOfTerm x scene lane n t) (term_products (core_term (known_in scene) n t)) (ranged n (term_accesses t) one_each) (ranged n (term_accesses t) (use_of x scene lane.number))
  pub given : HaveGiven lane before after n (term_accesses t)

pub record CountsTerms (x : FormedBlock) (scene : Scene) (lane : Lane) (old new : Draft) (before after : Accesses) (n : ℕ) (ts : plain.Terms) : Type 0 where
  pub counts : Counts old new (IsOfTerms x scene lane n ts) (terms_products (core_terms (known_in scene) n ts)) (ranged n (terms_accesses ts) one_each) (ranged n (terms_accesses ts) (use_of x scene lane.number))
  pub given : HaveGiven lane before after n (terms_accesses ts)
