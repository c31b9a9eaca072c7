use Rattle.std.proofs.Common.{Some, Option, option_map, ap, sym, ◌∙◌}
use Rattle.dh_tree.specs.declared.trees.expressions.Expr.{Expr}
use Rattle.dh_tree.specs.PlainTrees.{lets, lets_memory}
use Rattle.dh_tree.specs.Seen.{term_seen}
use Rattle.dh_tree.proofs.SeenActions.{let_is, let_memory_is}
use Rattle.dh_parser.specs.TreesOfTexts.{let_written}
use Rattle.dh_parser.proofs.parsing.simple.typed_let.Goals as goal

pub returns-then-is_memory : goal.returns-then-is_memory
returns-then-is_memory c =
    let w = c.args.written in
    let_memory_is c.in_ok-memory.memory c.in_ok-shape.shape c.in_ok-shape_places.shape_places c.in_ok-held.held
    ∙ (ap (λ n. lets_memory n c.in_ok-shape.shape.value c.in_ok-shape_places.shape_places.value (option_map term_seen c.in_ok-held.held.value)) c.in_ok-memory.ensures.ok
    ∙ (ap (λ s. lets_memory c.args.name s c.in_ok-shape_places.shape_places.value (option_map term_seen c.in_ok-held.held.value)) c.in_ok-shape.ensures.ok
    ∙ (ap (λ p. lets_memory c.args.name w.shape p (option_map term_seen c.in_ok-held.held.value)) c.in_ok-shape_places.ensures.ok
    ∙ (ap (λ (v : Option Expr). lets_memory c.args.name w.shape w.places (option_map term_seen v)) c.in_ok-held.ensures.ok
    ∙ sym (ap (λ b. let_written b c.args.name w.shape w.places (option_map term_seen c.args.value)) c.if-is_memory.true)))))

pub returns : goal.returns
returns c =
    let w = c.args.written in
    let_is (Some w.shape.kind) c.args.name c.in_ok-held.held
    ∙ (ap (λ (v : Option Expr). lets c.args.name (Some w.shape.kind) (option_map term_seen v)) c.in_ok-held.ensures.ok
    ∙ sym (ap (λ b. let_written b c.args.name w.shape w.places (option_map term_seen c.args.value)) c.if-is_memory.false))
