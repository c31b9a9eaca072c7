-- The kind to which the operands of an operation are extended.
use Rattle.std.specs.Prelude.{max}
use Rattle.dh_value.specs.declared.kinds.Kind.{Kind}
use Rattle.dh_value.specs.declared.kinds.Kind.TheVariants.{Bool, Unsigned, Signed}

-- the wider of two kinds of one sign
abbrev pub wider : Kind → Kind → Kind
wider (Unsigned m) (Unsigned n) = Unsigned (max m n)
wider (Signed m) (Signed n) = Signed (max m n)
wider _ _ = Bool
