-- Operands without a breach suit their operator.
use Rattle.std.specs.Prelude.{◌≡◌, []}
use Rattle.dh_base.specs.declared.places.Place.{Place}
use Rattle.dh_value.specs.declared.kinds.Kind.{Kind}
use Rattle.dh_value.specs.declared.operators.Op.{Op}
use Rattle.dh_value.specs.Words.{IsKind}
use Rattle.dh_tree.specs.Kinds.{applied_kind, operands_breaches, takes}
use Rattle.dh_formed.specs.Formed.{OperandsSuit}

abbrev pub TypedOperandsSuit : Type 0
TypedOperandsSuit =
    (o : Op) (left right : Place) (j k : Kind) → IsKind j → IsKind k → operands_breaches (takes o) left right j k ≡ [] → OperandsSuit o j k (applied_kind o j k)
