-- What the code's functions promise one another of a block, operation by operation.
use Rattle.std.specs.Prelude.{◌≡◌, ℕ, List, [], ◌∷◌, ◌++◌}
use Rattle.dh_value.specs.declared.kinds.Kind.{Kind}
use Rattle.dh_plan.specs.declared.operations.Operation.{Operation}
use Rattle.dh_plan.specs.PlanKinds.{form_kind}
use Rattle.dh_address.specs.declared.ranging.OldBlock.{OldBlock}
use Rattle.dh_address.specs.declared.renumbering.Renumbering.{Renumbering}
use Rattle.dh_address.specs.Pieces.{RenumberedBlock, IsPiece}
use Rattle.dh_address.specs.Images.{ArePieces}
use Rattle.dh_address.specs.SeenAround.{around_seen}

-- one operation more is put down, and known
pub record KnowsMore (registers : List Kind) (block : OldBlock) (before after : Renumbering) (o : Operation) (old new : List Operation) : Type 0 where
  pub number : ℕ
  pub piece : IsPiece (around_seen block before) o old new number
  pub first : after.first ≡ before.first
  pub numbers : after.numbers ≡ before.numbers ++ number ∷ []
  pub kinds : after.kinds ≡ before.kinds ++ form_kind block.table.now registers before.first before.kinds o.form ∷ []

-- all operations of a block are
pub record HasPieces (registers : List Kind) (a : RenumberedBlock) (old new : List Operation) : Type 0 where
  pub numbers : List ℕ
  pub pieces : ArePieces registers a a.operations old new numbers
