-- To which kind an operation extends its operands: Bool stands for none.
use Rattle.dh_value.specs.declared.kinds.Kind.{Kind}
use Rattle.dh_value.specs.declared.kinds.Kind.TheVariants.{Bool}
use Rattle.dh_value.specs.declared.operators.Op.{Op}
use Rattle.dh_value.specs.declared.operators.Op.TheVariants as op
use Rattle.dh_tree.specs.WiderKinds.{wider}

abbrev pub extension_of : Op → (left right : Kind) → Kind
extension_of op.Shl j k = Bool
extension_of op.Shr j k = Bool
extension_of op.Both j k = Bool
extension_of op.Either j k = Bool
extension_of op.Add j k = wider j k
extension_of op.Sub j k = wider j k
extension_of op.Mul j k = wider j k
extension_of op.And j k = wider j k
extension_of op.Or j k = wider j k
extension_of op.Xor j k = wider j k
extension_of op.Lt j k = wider j k
extension_of op.Gt j k = wider j k
extension_of op.Le j k = wider j k
extension_of op.Ge j k = wider j k
extension_of op.Eq j k = wider j k
extension_of op.Ne j k = wider j k
