-- The views of a plan: those of the program, each by its place among them. And what accesses take of each: the number of the
-- one behind it on its way, and by each of its banks the banks of the memory that may be reached from there.
use Rattle.std.specs.Prelude.{◌≡◌, ℕ, ◌<◌, ◌^◌, ◌&&◌, nat_lt, Bool, List, [], ◌∷◌, length, map, take, slice_get, Option, Some, None}
use Rattle.dh_tree.specs.declared.tables.Dim.{Dim}
use Rattle.dh_tree.specs.declared.viewing.ViewMap.{ViewMap}
use Rattle.dh_tree.specs.Elements.{banks_of}
use Rattle.dh_meaning.specs.Ways.{Led, WayStep, Way, step_of}
use Rattle.dh_meets.specs.Charges.{any_below, may_reach}
use Rattle.dh_viewing.specs.declared.bank_sets.BankSet.{BankSet}
use Rattle.dh_viewing.specs.ReachedBanks.{can_reach, is_in}
use Rattle.dh_ways.specs.Leading.{StepsLead}
use Rattle.dh_expressions.specs.declared.scenes.Through.{Through}
use Rattle.dh_expressions.specs.Named.{number_at, set_or_none}

-- Banks that are reached.

-- a bank of a view reaches this one, which is a bank of its parent
abbrev pub reaches_inside : ViewMap → (bank behind : ℕ) → Bool
reaches_inside v bank behind = nat_lt behind (banks_of v.parent.dims) && can_reach v bank behind

-- the set of one of the first banks, so many, that are in a set has a bank
abbrev pub any_in : BankSet → List BankSet → (n behind : ℕ) → Bool
any_in s sets n behind = any_below n (λ bank. is_in s bank && is_in (set_or_none (slice_get sets bank)) behind)

-- the views on a way follow one another to some memory
abbrev pub LeadsSomewhere : List WayStep → Type 0
LeadsSomewhere ss = (dims : List Dim) × StepsLead ss dims

-- the banks of the memory that may be reached from a bank of the first view
abbrev pub AreReached : List WayStep → (bank : ℕ) → BankSet → Type 0
AreReached ss bank s = (behind : ℕ) → is_in s behind ≡ may_reach ss bank behind

-- by each of the first banks, so many
abbrev pub ReachedByBanks : List WayStep → (count : ℕ) → List BankSet → Type 0
ReachedByBanks ss count sets = (bank : ℕ) → bank < count → (s : BankSet) × ((slice_get sets bank ≡ Some s) × AreReached ss bank s)

-- One view behind its parent.

-- it is known of the first banks of a view of a memory, so many
abbrev pub SetsAlone : ViewMap → (count : ℕ) → List BankSet → Type 0
SetsAlone v count sets = (length sets ≡ count) × ReachedByBanks (step_of v ∷ []) count sets

-- and of those of a view of another one, whatever stands behind that
abbrev pub SetsBehind : ViewMap → (parent : List BankSet) → (count : ℕ) → List BankSet → Type 0
SetsBehind v parent count sets = (length sets ≡ count) × ((ss : List WayStep) → ReachedByBanks ss (banks_of v.parent.dims) parent → ReachedByBanks (step_of v ∷ ss) count sets)

-- what is taken of a view, of which the parent has this number
abbrev pub one_through : (behind : ℕ) → List BankSet → Through
one_through behind banks = record { behind = behind; banks = banks }

-- it is known of each bank of the parent what may be reached
abbrev pub HasSets : ViewMap → List Through → (parent : Option ℕ) → Type 0
HasSets v through None = Unit {0}
HasSets v through (Some place) = (t : Through) × ((slice_get through place ≡ Some t) × (length t.banks ≡ banks_of v.parent.dims))

-- and so it is of each of the view's own
abbrev pub SetsGoOn : ViewMap → List Through → (parent : Option ℕ) → List BankSet → Type 0
SetsGoOn v through None sets = ReachedByBanks (step_of v ∷ []) (banks_of v.shape.dims) sets
SetsGoOn v through (Some place) sets =
    (ss : List WayStep) (t : Through) → slice_get through place ≡ Some t → ReachedByBanks ss (banks_of v.parent.dims) t.banks → ReachedByBanks (step_of v ∷ ss) (banks_of v.shape.dims) sets

abbrev pub MakesSets : ViewMap → List Through → (parent : Option ℕ) → List BankSet → Type 0
MakesSets v through parent sets = (length sets ≡ banks_of v.shape.dims) × SetsGoOn v through parent sets

-- the steps of a way go on with those of the view at a place, before this one; without one they end
abbrev pub StepsGoOn : List Led → (place : ℕ) → (parent : Option ℕ) → Way → Type 0
StepsGoOn ls place None w = w.steps ≡ step_of w.is ∷ []
StepsGoOn ls place (Some parent) w = (parent < place) × ((l : Led) → slice_get ls parent ≡ Some l → w.steps ≡ step_of w.is ∷ l.way.steps)

-- Lists.

-- what is taken of the view at a place, with this way
pub record IsThrough (ls : List Led) (place : ℕ) (w : Way) (t : Through) : Type 0 where
  pub parent : Option ℕ
  pub goes_on : StepsGoOn ls place parent w
  pub behind_is : t.behind ≡ number_at parent
  pub many : length t.banks ≡ banks_of w.is.shape.dims
  pub banks_are : ReachedByBanks w.steps (banks_of w.is.shape.dims) t.banks

-- the first views are listed, so many
pub record ListsFirst (ls : List Led) (n : ℕ) (views : List ViewMap) (through : List Through) : Type 0 where
  pub views_are : views ≡ map (λ l. l.way.is) (take n ls)
  pub many : length through ≡ n
  pub each : (place : ℕ) (l : Led) (t : Through) → slice_get ls place ≡ Some l → slice_get through place ≡ Some t → IsThrough ls place l.way t

-- all are, and each has a number
abbrev pub ListsAll : List Led → List ViewMap → List Through → Type 0
ListsAll ls views through = ListsFirst ls (length ls) views through × (length ls < 2 ^ 32)
