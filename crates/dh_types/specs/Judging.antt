-- Which breaches of the rules on kinds the code finds, and what it keeps of them.
use Rattle.std.specs.Prelude.{◌≡◌, ℕ, List, ◌++◌, Option, Vec}
use Rattle.std.specs.Global.{Global}
use denote.Ref.{Bor}
use Rattle.dh_base.specs.declared.places.Place.{Place}
use Rattle.dh_value.specs.declared.kinds.Kind.{Kind}
use Rattle.dh_tree.specs.declared.breaches.Breach.{Breach}
use Rattle.dh_tree.specs.declared.trees.expressions.Expr.{Expr}
use Rattle.dh_tree.specs.declared.trees.expressions.Ref.{Ref}
use Rattle.dh_tree.specs.LeastBreach.{least_of}
use Rattle.dh_tree.specs.PlainTrees.{Term}
use Rattle.dh_tree.specs.Seen.{placed, expressions_seen, all_terms_seen}
use Rattle.dh_tree.specs.Kinds.{Facts, Takes, operands_breaches, access_breaches}
use Rattle.dh_tree.specs.KindBreaches.{right_side_breaches, maybe_breaches, arguments_breaches, iterator_breaches, low_breaches, high_breaches}
use Rattle.dh_types.specs.declared.facts.Fact.{Fact}
use Rattle.dh_types.specs.Facts.{facts_seen, known_fact, listed_breach}

-- the least is kept of the breach that was kept and those that a rule finds here
abbrev pub KeepsBy : {A : Type 0} → (rule : Facts → A → List Breach) → List Fact → (old new : Option Breach) → A → Type 0
KeepsBy rule facts old new seen = new ≡ least_of old (rule (facts_seen facts) seen)

-- the least is kept of the breach that was kept and those of arguments
abbrev pub KeepsArguments : List Fact → (old new : Option Breach) → Vec Expr Global → Type 0
KeepsArguments facts old new arguments = KeepsBy arguments_breaches facts old new (expressions_seen arguments)

-- the breaches of a right side for a target of this kind
abbrev pub breaches_for : (target : Option Kind) → Facts → Term → List Breach
breaches_for target facts value = right_side_breaches facts target value

abbrev pub maybe_breaches_for : (target : Option Kind) → Facts → Option Term → List Breach
maybe_breaches_for target facts value = maybe_breaches facts target value

-- the breaches of an iterator of this kind with these bounds
abbrev pub bounds_breaches : Ref → Kind → (low high : ℕ × Place) → List Breach
bounds_breaches iterator kind low high =
    iterator_breaches iterator kind ++ (low_breaches kind (placed low.0 low.1) ++ high_breaches kind (placed low.0 low.1) (placed high.0 high.1))

-- the breach that was found is that of operands of these kinds, if they break the rule on operations of this sort
abbrev pub JudgesOperands : Takes → (left right : Place) → (kinds : Kind × Kind) → Option Breach → Type 0
JudgesOperands sort left right kinds result = listed_breach result ≡ operands_breaches sort left right kinds.0 kinds.1

-- the breach that was found is that at the name of an access with these indices, if it breaks a rule
abbrev pub JudgesAccess : Option (Bor Fact) → Place → (indices : List Expr) → Option Breach → Type 0
JudgesAccess fact place indices result = listed_breach result ≡ access_breaches (known_fact fact) place (all_terms_seen indices)
