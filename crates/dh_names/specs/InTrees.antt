-- That the names of expressions of the code take their entities.
use Rattle.std.specs.Prelude.{◌≡◌, ℕ, List, map, Option, option_map, Vec}
use Rattle.std.specs.Global.{Global}
use Rattle.dh_tree.specs.declared.trees.expressions.Expr.{Expr}
use Rattle.dh_tree.specs.Seen.{term_seen, expressions_seen, factor_seen}
use Rattle.dh_tree.specs.Scopes.{ScopeEntry}
use Rattle.dh_tree.specs.Resolved.{resolved_term, resolved_offset}

-- the names of an expression take their entities where these names are visible; so do those of expressions in
-- order, of one that may lack, and of the offsets of factors
abbrev pub ResolvesTerm : (names : List ScopeEntry) → (old new : Expr) → Type 0
ResolvesTerm names old new = term_seen new ≡ resolved_term names (term_seen old)

abbrev pub ResolvesTerms : (names : List ScopeEntry) → (old new : Vec Expr Global) → Type 0
ResolvesTerms names old new = expressions_seen new ≡ map (resolved_term names) (expressions_seen old)

abbrev pub ResolvesValue : (names : List ScopeEntry) → (old new : Option Expr) → Type 0
ResolvesValue names old new = option_map term_seen new ≡ option_map (resolved_term names) (option_map term_seen old)

abbrev pub ResolvesOffsets : (names : List ScopeEntry) → (old new : Vec (ℕ × Expr) Global) → Type 0
ResolvesOffsets names old new = map factor_seen new.items ≡ map (resolved_offset names) (map factor_seen old.items)
