-- Numbers of keys: two keys have one number where they are equal.
use Rattle.std.specs.Prelude.{◌≡◌, ◌⊎◌, ℕ, ◌<◌, ◌≤◌, ◌^◌, ◌==◌, ◌&&◌, ◌++◌, Bool, List, Option, Some, None, slice_get}
use Rattle.std.specs.List.{AllByRecursion}
use Rattle.dh_events.specs.declared.classes.Key.{Key}

-- no key has two numbers
abbrev pub KeysAreDistinct : List Key → Type 0
KeysAreDistinct known = (m n : ℕ) (k : Key) → slice_get known m ≡ Some k → slice_get known n ≡ Some k → m ≡ n

-- keys are only added
abbrev pub ExtendsKeys : (old new : List Key) → Type 0
ExtendsKeys old new = (n : ℕ) (k : Key) → slice_get old n ≡ Some k → slice_get new n ≡ Some k

-- the number of a key is found or made, and no other key is added
pub record NumbersKey (old new : List Key) (k : Key) (n : ℕ) : Type 0 where
  pub extends : ExtendsKeys old new
  pub stands : slice_get new n ≡ Some k
  pub only : (m : ℕ) (x : Key) → slice_get new m ≡ Some x → (slice_get old m ≡ Some x) ⊎ (x ≡ k)

-- the number of a key, where it has one
abbrev pub FindsKeyNumber : List Key → Key → Option ℕ → Type 0
FindsKeyNumber known k None = (n : ℕ) → slice_get known n ≡ Some k → ⊥
FindsKeyNumber known k (Some n) = slice_get known n ≡ Some k

-- whether two keys are equal
abbrev pub is_same : Key → Key → Bool
is_same a b = (a.phase == b.phase) && ((a.entity == b.entity) && ((a.element == b.element) && (a.newest == b.newest)))

-- the keys by their numbers: those of past phases, and behind them those that are sought
abbrev pub all_keys : (past known : List Key) → List Key
all_keys past known = past ++ known

-- and they are the same behind a change
abbrev pub KeepsAllKeys : (past known past_then known_then : List Key) → Type 0
KeepsAllKeys past known past_then known_then = all_keys past_then known_then ≡ all_keys past known

-- no key has two numbers; those of past phases are of phases before the newest, and the others of none behind it
pub record ArePhased (past known : List Key) (newest : ℕ) : Type 0 where
  pub distinct : KeysAreDistinct (all_keys past known)
  pub before : AllByRecursion (λ (k : Key). k.phase < newest) past
  pub within : AllByRecursion (λ (k : Key). k.phase ≤ newest) known
  pub low : newest < 2 ^ 32

-- past keys are of phases before this one, which is none behind the newest
pub record IsTurnedTo (phase : ℕ) (past : List Key) (newest : ℕ) : Type 0 where
  pub before : AllByRecursion (λ (k : Key). k.phase < phase) past
  pub within : phase ≤ newest

-- the same of every phase that there can be
abbrev pub IsTurnedToAll : (past : List Key) (newest : ℕ) → Type 0
IsTurnedToAll past newest = (phase : ℕ) → phase < 2 ^ 32 → IsTurnedTo phase past newest
