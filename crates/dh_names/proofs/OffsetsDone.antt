-- A walk over the offsets of a view.
use Rattle.std.proofs.Common.{◌≡◌, ℕ, List, [], ◌∷◌, map, refl, sym, ap, ◌∙◌}
use Rattle.dh_tree.specs.declared.trees.expressions.Expr.{Expr}
use Rattle.dh_tree.specs.PlainTrees.{Suffixed}
use Rattle.dh_tree.specs.Seen.{term_seen, factor_seen}
use Rattle.dh_tree.specs.Breaches.{term_breaches, offsets_breaches}
use Rattle.dh_tree.specs.Resolved.{resolved_term, resolved_offset}
use Rattle.dh_names.specs.Walks.{NamingState, walked}
use Rattle.dh_base.proofs.InPlace.{run, made}
use Rattle.dh_names.proofs.FormsDone.{next_step}

abbrev pub offset_step : NamingState → Suffixed → NamingState
offset_step s x = walked s (term_breaches s.scope.visible x.offset) s.scope

abbrev pub offset_made : NamingState → Suffixed → Suffixed
offset_made s x = resolved_offset s.scope.visible x

pub offsets_made : (s : NamingState) (list : List Suffixed) → made factor_seen offset_step offset_made s list ≡ map (resolved_offset s.scope.visible) list
offsets_made s [] = refl
offsets_made s (x ∷ rest) = ap (λ l. resolved_offset s.scope.visible x ∷ l) (offsets_made (offset_step s x) rest)

pub offsets_run : (s : NamingState) (list : List Suffixed) → run factor_seen offset_step offset_made s list ≡ walked s (offsets_breaches s.scope.visible list) s.scope
offsets_run s [] = refl
offsets_run s (x ∷ rest) =
    next_step s (offset_step s x) (run factor_seen offset_step offset_made (offset_step s x) rest) (term_breaches s.scope.visible x.offset) s.scope (λ y. offsets_breaches y.scope.visible rest) (λ y. y.scope) refl (offsets_run (offset_step s x) rest)

-- one turn: the pair as it stands in the list, and as it was taken
pub offset_turn : (s s' : NamingState) (x y : ℕ × Expr) (e' : Expr) → x ≡ y → term_seen e' ≡ resolved_term s.scope.visible (term_seen y.1) → s' ≡ walked s (term_breaches s.scope.visible (term_seen y.1)) s.scope
    → (factor_seen (y.0, e') ≡ offset_made s (factor_seen x)) × (s' ≡ offset_step s (factor_seen x))
offset_turn s s' x y e' is tree state =
    (ap (λ t. record { factor = y.0; offset = t }) tree ∙ ap (λ z. offset_made s (factor_seen z)) (sym is), state ∙ ap (λ z. offset_step s (factor_seen z)) (sym is))
