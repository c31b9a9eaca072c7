-- Which accesses may meet, as a tree, and the load of such a tree. The idea of ports that `;` spends
-- together and `---` gives back is of Nigam and others (PLDI 2020); sets and loads are this project's.
use Rattle.std.specs.Prelude.{◌≡◌, ℕ, ◌+◌, ◌≤◌, ◌⊎◌, Bool, false, IsTrue, if◌then◌else◌, ◌==◌, ◌||◌, max}

-- Accesses by number. Two of them that stand in different parts of an `all` may meet, two in
-- different parts of a `one` never do. More than two parts are grouped to the right.
pub data Meets : Type 0 where
  nothing : Meets
  access : (number : ℕ) → Meets
  all : (first second : Meets) → Meets
  one : (first second : Meets) → Meets

-- the access stands in the tree
abbrev pub In : ℕ → Meets → Type 0
In a nothing = ⊥
In a (access b) = a ≡ b
In a (all l r) = In a l ⊎ In a r
In a (one l r) = In a l ⊎ In a r

abbrev pub has : ℕ → Meets → Bool
has a nothing = false
has a (access b) = a == b
has a (all l r) = has a l || has a r
has a (one l r) = has a l || has a r

-- no access stands twice
abbrev pub Distinct : Meets → Type 0
Distinct nothing = Unit {0}
Distinct (access a) = Unit {0}
Distinct (all l r) = (Distinct l × Distinct r) × ((a : ℕ) → In a l → In a r → ⊥)
Distinct (one l r) = (Distinct l × Distinct r) × ((a : ℕ) → In a l → In a r → ⊥)

-- the lowest node with both accesses is a `one`, with the two in different parts
abbrev pub Apart : Meets → ℕ → ℕ → Type 0
Apart nothing a b = ⊥
Apart (access c) a b = ⊥
Apart (all l r) a b = Apart l a b ⊎ Apart r a b
Apart (one l r) a b = ((In a l × In b r) ⊎ (In a r × In b l)) ⊎ (Apart l a b ⊎ Apart r a b)

-- the first access stands before the second
abbrev pub Before : Meets → ℕ → ℕ → Type 0
Before nothing x a = ⊥
Before (access b) x a = ⊥
Before (all l r) x a = (In x l × In a r) ⊎ (Before l x a ⊎ Before r x a)
Before (one l r) x a = (In x l × In a r) ⊎ (Before l x a ⊎ Before r x a)

-- A set of accesses is a test of their numbers. It is together where any two of it may meet.
abbrev pub Together : Meets → (ℕ → Bool) → Type 0
Together t chosen = (a b : ℕ) → IsTrue (chosen a) → IsTrue (chosen b) → Apart t a b → ⊥

-- the sum of the charges of the accesses of a set
abbrev pub total : (ℕ → ℕ) → (ℕ → Bool) → Meets → ℕ
total charge chosen nothing = 0
total charge chosen (access a) = if chosen a then charge a else 0
total charge chosen (all l r) = total charge chosen l + total charge chosen r
total charge chosen (one l r) = total charge chosen l + total charge chosen r

-- a set completes with an access: the access is in it, and all its others stand before that one
pub record Completes (t : Meets) (a : ℕ) (chosen : ℕ → Bool) : Type 0 where
  pub last : IsTrue (chosen a)
  pub together : Together t chosen
  pub no_later : (x : ℕ) → IsTrue (chosen x) → In x t → (x ≡ a) ⊎ Before t x a

-- the load of a tree: that of an `all` is the sum of its parts' loads, that of a `one` the greatest
abbrev pub load : (ℕ → ℕ) → Meets → ℕ
load charge nothing = 0
load charge (access a) = charge a
load charge (all l r) = load charge l + load charge r
load charge (one l r) = max (load charge l) (load charge r)

-- the load up to and with an access: its charge, and for each `all` above it the loads of the parts
-- before its own
abbrev pub upto : (ℕ → ℕ) → ℕ → Meets → ℕ
upto charge a nothing = 0
upto charge a (access b) = charge b
upto charge a (all l r) = if has a l then upto charge a l else load charge l + upto charge a r
upto charge a (one l r) = if has a l then upto charge a l else upto charge a r

-- a number is the largest sum of charges over a set of accesses of which any two may meet
pub record IsLargest (charge : ℕ → ℕ) (t : Meets) (n : ℕ) : Type 0 where
  pub most : (chosen : ℕ → Bool) → Together t chosen → total charge chosen t ≤ n
  pub attained : (chosen : ℕ → Bool) × (Together t chosen × (total charge chosen t ≡ n))

-- a number is the largest such sum over the sets up to and with one access
pub record IsLargestUpto (charge : ℕ → ℕ) (t : Meets) (a n : ℕ) : Type 0 where
  pub most : (chosen : ℕ → Bool) → Completes t a chosen → total charge chosen t ≤ n
  pub attained : (chosen : ℕ → Bool) × (Completes t a chosen × (total charge chosen t ≡ n))

-- the load of a tree in which no access stands twice is the largest sum
abbrev pub LoadIsLargest : (charge : ℕ → ℕ) → Meets → Type 0
LoadIsLargest charge t = Distinct t → IsLargest charge t (load charge t)

-- the load up to each access of such a tree is the largest sum up to it
abbrev pub EachUptoIsLargest : (charge : ℕ → ℕ) → Meets → Type 0
EachUptoIsLargest charge t = (a : ℕ) → Distinct t → In a t → IsLargestUpto charge t a (upto charge a t)
