-- Behind a line feed, and along the line.
use Rattle.std.proofs.Common.{◌≡◌, ◌<◌, ◌≤◌, length, drop, get_or, get_or-drop, add-zero, length-drop, refl, ap, sym, ◌∙◌, arith}
use Rattle.dh_lexer.specs.LexedText.{next_place}
use Rattle.dh_lexer.proofs.LinesPassed.{place_along, place_below}
use Rattle.dh_lexer.proofs.lexing.place_behind.Goals as goal

pub returns-then-first-eq10 : goal.returns-then-first-eq10
returns-then-first-eq10 c =
    let same : get_or (drop c.args.at c.args.text.now) 0 0 ≡ get_or c.args.text.now c.args.at 0 = rw (get_or-drop, add-zero) refl in
    let some : 0 < length (drop c.args.at c.args.text.now) = omega (arith, length-drop c.args.at c.args.text.now, c.requires.piece.0.1.0, c.requires.piece.0.1.1) in
    c.next_place.ensures ∙ (ap (next_place c.args.start) (c.requires.first ∙ sym same)
    ∙ place_below c.args.start (drop c.args.at c.args.text.now) c.args.taken c.requires.piece.0.0 some (same ∙ (sym c.requires.first ∙ c.if-first-eq10.true)))

pub returns : goal.returns
returns c =
    let same : get_or (drop c.args.at c.args.text.now) 0 0 ≡ get_or c.args.text.now c.args.at 0 = rw (get_or-drop, add-zero) refl in
    let within : c.args.taken ≤ length (drop c.args.at c.args.text.now) = omega (arith, length-drop c.args.at c.args.text.now, c.requires.piece.0.1.1) in
    place_along c.args.start (drop c.args.at c.args.text.now) c.args.taken c.requires.piece.0.0 c.requires.piece.0.1.0 within
    (λ e. c.if-first-eq47.false (c.requires.first ∙ (sym same ∙ e))) (λ e. c.if-first-eq10.false (c.requires.first ∙ (sym same ∙ e)))
