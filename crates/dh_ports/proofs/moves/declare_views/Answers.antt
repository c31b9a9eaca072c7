use Rattle.std.proofs.Common.{refl, sym, ◌∙◌}
use Rattle.std.proofs.lemmas.Bool.{eqb-true}
use Rattle.dh_ways.specs.Stands.{hidden_of_program}
use Rattle.dh_ports.proofs.LayoutFacts.{bindings_found, no_scopes, scopes_told}
use Rattle.dh_ports.proofs.moves.declare_views.Goals as goal

pub returns-then-is_empty : goal.returns-then-is_empty
returns-then-is_empty c = λ p ways hidden noted id h. no_scopes p c.args.rounds.now c.args.scopes.now.items (eqb-true _ 0 (sym c.is_empty.ensures ∙ c.if-is_empty.true)) id h

pub returns : goal.returns
returns c = λ p ways hidden noted id h.
    scopes_told p p.body refl _ (bindings_found p c.args.ways.now (hidden_of_program p) c.args.hidden.now ways refl hidden) c.note_ways.new.scopes.items (c.in_ok-note_ways.ensures p.body (noted id h))
