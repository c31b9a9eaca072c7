-- What the pass makes of a plan: each block is what its operations become, one after the other; all else stays.
use Rattle.std.specs.Prelude.{◌≡◌, ℕ, zero, suc, List, [], ◌∷◌, ◌++◌, length}
use Rattle.dh_value.specs.declared.kinds.Kind.{Kind}
use Rattle.dh_plan.specs.declared.operations.Operation.{Operation}
use Rattle.dh_plan.specs.declared.operations.PlanBlock.{PlanBlock}
use Rattle.dh_plan.specs.PlainPlans.{PlainPlan, first_in, operations_in}
use Rattle.dh_plan.specs.PlanKinds.{form_kind}
use Rattle.dh_address.specs.Pieces.{RenumberedBlock, any_takes_probe, IsPiece}

-- one operation more is known
abbrev pub and_known : RenumberedBlock → (number : ℕ) → Kind → RenumberedBlock
and_known a number k =
    record { table = a.table; views = a.views; operations = a.operations; first = a.first; probed = a.probed; numbers = a.numbers ++ number ∷ []; kinds = a.kinds ++ k ∷ [] }

-- a piece, and the rest
pub record PieceThen (First Rest : List Operation → ℕ → Type 0) : Type 0 where
  pub mid : List Operation
  pub number : ℕ
  pub piece : First mid number
  pub rest : Rest mid number

-- pieces of operations one after the other; these are then the numbers of all
abbrev pub ArePieces : (registers : List Kind) → RenumberedBlock → (rest : List Operation) → (old new : List Operation) → (numbers : List ℕ) → Type 0
ArePieces registers a [] old new numbers = (new ≡ old) × (numbers ≡ a.numbers)
ArePieces registers a (o ∷ os) old new numbers =
    PieceThen (λ mid n. IsPiece a o old mid n)
    (λ mid n. ArePieces registers (and_known a n (form_kind a.table registers a.first a.kinds o.form)) os mid new numbers)

-- all operations of the first n blocks
abbrev pub operations_until : List PlanBlock → (n : ℕ) → List Operation
operations_until [] n = []
operations_until (b ∷ bs) zero = []
operations_until (b ∷ bs) (suc n) = b.operations ++ operations_until bs n

-- as a block begins, nothing of it is known
abbrev pub around_block : PlainPlan → (block : ℕ) → RenumberedBlock
around_block p block = record {
  table = p.table;
  views = p.views;
  operations = operations_in p block;
  first = first_in p block;
  probed = any_takes_probe (operations_in p block) (first_in p block);
  numbers = [];
  kinds = [];
}

-- of these blocks the one of this number is made of the pieces of the block of p
pub record IsBlockImage (p : PlainPlan) (blocks : List PlanBlock) (block : ℕ) : Type 0 where
  pub numbers : List ℕ
  pub pieces : ArePieces p.registers (around_block p block) (operations_in p block) (operations_until blocks block) (operations_until blocks (suc block)) numbers

-- q is p with rows of banks in place of indices
pub record IsImage (p q : PlainPlan) : Type 0 where
  pub table : q.table ≡ p.table
  pub views : q.views ≡ []
  pub registers : q.registers ≡ p.registers
  pub body : q.body ≡ p.body
  pub meets : q.meets ≡ p.meets
  pub faults : q.faults ≡ p.faults
  pub as_many : length q.blocks ≡ length p.blocks
  pub blocks : (block : ℕ) → IsBlockImage p q.blocks block
