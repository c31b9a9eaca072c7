-- The factors of a suffix, as they stand beside its offsets and as they are seen.
use Rattle.std.proofs.Common.{◌≡◌, ℕ, List, [], ◌∷◌, map, refl, ap}
use Rattle.dh_tree.specs.declared.trees.expressions.Expr.{Expr}
use Rattle.dh_tree.specs.Seen.{factor_seen}
use Rattle.dh_viewing.specs.Finding.{factors_paired}

pub paired_factors : (by : List (ℕ × Expr)) → factors_paired by ≡ map (λ s. s.factor) (map factor_seen by)
paired_factors [] = refl
paired_factors ((k, e) ∷ by) = ap (λ l. k ∷ l) (paired_factors by)
