use Rattle.std.proofs.Common.{◌≡◌, List, map, drop}
use Rattle.dh_tree.specs.Seen.{term_seen, terms}
use Rattle.dh_meaning.specs.Bindings.{Binding}
use Rattle.dh_meets.specs.Charges.{terms_depend}
use Rattle.dh_events.specs.Scopes.{AreScopes, IsLow}
use Rattle.dh_events.proofs.dependence.+depending.Given as goal

abbrev pub invariant-any_depends-loop-expr : goal.invariant-any_depends-loop-expr
invariant-any_depends-loop-expr l =
    (bs : List Binding) → IsLow l.level → AreScopes bs l.scopes → terms_depend bs l.level (terms (map term_seen (drop l.expr-index l.exprs))) ≡ terms_depend bs l.level (terms (map term_seen l.exprs))
