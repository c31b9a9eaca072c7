-- Each block that begins is named by one node: numbers of blocks are counted in the nodes.
use Rattle.std.specs.Prelude.{◌≡◌, ℕ, zero, suc, ◌+◌, ◌==◌, if◌then◌else◌, List, [], ◌∷◌, length}
use Rattle.dh_gathering.specs.declared.blocks.Made.{Made}

-- how often a number is listed
abbrev pub listed : (number : ℕ) → List ℕ → ℕ
listed number [] = 0
listed number (n ∷ ns) = (if number == n then 1 else 0) + listed number ns

-- 1 where a block is among so many, else 0
abbrev pub times_begun : (block starts : ℕ) → ℕ
times_begun block zero = 0
times_begun zero (suc n) = 1
times_begun (suc block) (suc n) = times_begun block n

abbrev pub times_begun_in : Made → (block : ℕ) → ℕ
times_begun_in m block = times_begun block (length m.starts.items)

-- Between these two, each block that begins is listed once, and no other.
abbrev pub NamesOnce : (old new : Made) → List ℕ → Type 0
NamesOnce old new blocks = (block : ℕ) → listed block blocks + times_begun_in old block ≡ times_begun_in new block
