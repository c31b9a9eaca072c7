-- What a reducer puts together suits its operator, and its variable can hold what it gives.
use Rattle.std.proofs.Common.{◌≡◌, ℕ, max, ◌==◌, true, refl, ap, arith}
use Rattle.std.proofs.lemmas.Bool.Decides.{nat_tests}
use Rattle.dh_value.specs.declared.kinds.Kind.{Kind}
use Rattle.dh_value.specs.declared.kinds.Kind.TheVariants as kind
use Rattle.dh_value.specs.declared.operators.Op.{Op}
use Rattle.dh_value.specs.declared.operators.Op.TheVariants as op
use Rattle.dh_value.specs.Words.{IsInteger, IsKind}
use Rattle.dh_tree.specs.WiderKinds.{wider}
use Rattle.dh_tree.specs.PlainTrees.{Term}
use Rattle.dh_tree.specs.TextNumbers.{Reduces}
use Rattle.dh_formed.specs.Formed.{HeldSuits}
use Rattle.dh_blocks.specs.SoundCommands.{CanHold}
use Rattle.dh_laid.specs.Laid.{ReducerSuits}

same_max : (m n : ℕ) → (m == max m n) ≡ true → max m n ≡ m
same_max m n e = grind (arith, nat_tests)

pub reducer_suits : (o : Op) (held right : Kind) → Reduces o → IsKind held → IsInteger (wider held right) → ReducerSuits o held right
reducer_suits op.Add kind.Bool right r s i = absurd i
reducer_suits op.Add (kind.Unsigned m) kind.Bool r s i = absurd i
reducer_suits op.Add (kind.Unsigned m) (kind.Unsigned n) r s i = record { extension = i; suits = refl; kept = λ e. ap kind.Unsigned (same_max m n e); converted = λ e. s }
reducer_suits op.Add (kind.Unsigned m) (kind.Signed n) r s i = absurd i
reducer_suits op.Add (kind.Signed m) kind.Bool r s i = absurd i
reducer_suits op.Add (kind.Signed m) (kind.Signed n) r s i = record { extension = i; suits = refl; kept = λ e. ap kind.Signed (same_max m n e); converted = λ e. s }
reducer_suits op.Add (kind.Signed m) (kind.Unsigned n) r s i = absurd i
reducer_suits op.Sub kind.Bool right r s i = absurd i
reducer_suits op.Sub (kind.Unsigned m) kind.Bool r s i = absurd i
reducer_suits op.Sub (kind.Unsigned m) (kind.Unsigned n) r s i = record { extension = i; suits = refl; kept = λ e. ap kind.Unsigned (same_max m n e); converted = λ e. s }
reducer_suits op.Sub (kind.Unsigned m) (kind.Signed n) r s i = absurd i
reducer_suits op.Sub (kind.Signed m) kind.Bool r s i = absurd i
reducer_suits op.Sub (kind.Signed m) (kind.Signed n) r s i = record { extension = i; suits = refl; kept = λ e. ap kind.Signed (same_max m n e); converted = λ e. s }
reducer_suits op.Sub (kind.Signed m) (kind.Unsigned n) r s i = absurd i
reducer_suits op.Mul kind.Bool right r s i = absurd i
reducer_suits op.Mul (kind.Unsigned m) kind.Bool r s i = absurd i
reducer_suits op.Mul (kind.Unsigned m) (kind.Unsigned n) r s i = record { extension = i; suits = refl; kept = λ e. ap kind.Unsigned (same_max m n e); converted = λ e. s }
reducer_suits op.Mul (kind.Unsigned m) (kind.Signed n) r s i = absurd i
reducer_suits op.Mul (kind.Signed m) kind.Bool r s i = absurd i
reducer_suits op.Mul (kind.Signed m) (kind.Signed n) r s i = record { extension = i; suits = refl; kept = λ e. ap kind.Signed (same_max m n e); converted = λ e. s }
reducer_suits op.Mul (kind.Signed m) (kind.Unsigned n) r s i = absurd i
reducer_suits op.And held right r s i = absurd r
reducer_suits op.Or held right r s i = absurd r
reducer_suits op.Xor held right r s i = absurd r
reducer_suits op.Shl held right r s i = absurd r
reducer_suits op.Shr held right r s i = absurd r
reducer_suits op.Lt held right r s i = absurd r
reducer_suits op.Gt held right r s i = absurd r
reducer_suits op.Le held right r s i = absurd r
reducer_suits op.Ge held right r s i = absurd r
reducer_suits op.Eq held right r s i = absurd r
reducer_suits op.Ne held right r s i = absurd r
reducer_suits op.Both held right r s i = absurd r
reducer_suits op.Either held right r s i = absurd r

-- a variable or a memory of a kind holds a value
pub held_suits : (t : Term) (k : Kind) → IsKind k → CanHold k t → HeldSuits t k
held_suits t kind.Bool s c = c refl
held_suits t (kind.Unsigned m) s c = s
held_suits t (kind.Signed m) s c = s
