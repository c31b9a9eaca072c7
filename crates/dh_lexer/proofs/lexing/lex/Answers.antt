-- The loop's turns, by the lemmas of `LexedSoFar` at the values of the code.
use Rattle.std.proofs.Common.{◌<◌, arith, drop, refl}
use Rattle.dh_lexer.proofs.CutOnce.{one_list, one_breach, not_both}
use Rattle.dh_lexer.proofs.FoundKept.{front_taken, length_taken, nothing_stands}
use Rattle.dh_lexer.proofs.LexedSoFar.{lexed_end, lexed_breach, place_room}
use Rattle.dh_lexer.proofs.TokensReady.{are_ready}
use Rattle.dh_lexer.proofs.lexing.lex.Goals as goal

pub returns-then-length-eq0-clause-lexed : goal.returns-then-length-eq0-clause-lexed
returns-then-length-eq0-clause-lexed c =
    let breach = lexed_breach c.args.text.now _ _ c.loop-at.at c.loop-at-test.true c.loop-at.invariant (nothing_stands (drop c.loop-at.at c.args.text.now) c.in_ok-length.length c.in_ok-length.ensures.0 c.if-length-eq0.true) in
    (refl, (breach, (λ p h. one_breach c.args.text.now p _ h breach, λ ts h. not_both c.args.text.now ts _ h breach)))

pub overflow_add-at : goal.overflow_add-at
overflow_add-at c =
    let filled : 0 < c.in_ok-length.length = omega (arith, c.if-length-eq0.false) in
    let long = length_taken c.args.text.now c.loop-at.at c.in_ok-length.length c.loop-at.invariant.within c.in_ok-length.ensures.0 filled in
    omega arith

pub place_behind-place-requires-clause-piece : goal.place_behind-place-requires-clause-piece
place_behind-place-requires-clause-piece c =
    let filled : 0 < c.in_ok-length.length = omega (arith, c.if-length-eq0.false) in
    let long = length_taken c.args.text.now c.loop-at.at c.in_ok-length.length c.loop-at.invariant.within c.in_ok-length.ensures.0 filled in
    ((c.in_ok-length.ensures.0, (filled, long.1)), place_room c.args.text.now _ _ c.loop-at.at c.in_ok-length.length c.requires long.1 c.loop-at.invariant)

pub loop-at-smaller : goal.loop-at-smaller
loop-at-smaller c =
    let filled : 0 < c.in_ok-length.length = omega (arith, c.if-length-eq0.false) in
    let long = length_taken c.args.text.now c.loop-at.at c.in_ok-length.length c.loop-at.invariant.within c.in_ok-length.ensures.0 filled in
    omega (arith, long)

pub loop-at-preserved : goal.loop-at-preserved
loop-at-preserved c =
    let filled : 0 < c.in_ok-length.length = omega (arith, c.if-length-eq0.false) in
    let past = c.place_behind-place.ensures in
    rw past (front_taken c.args.text.now c.loop-at.tokens.items c.take_front.new.tokens.items c.loop-at.place c.loop-at.at c.in_ok-length.length c.loop-at.invariant c.in_ok-length.ensures.0 c.in_ok-length.ensures.1 filled)

pub returns : goal.returns
returns c =
    let tokens = lexed_end c.args.text.now _ _ c.loop-at.at c.loop-at-test.false c.loop-at.invariant in
    rw c.in_ok-push.ensures.items (record {
      lexed = (tokens, λ ts h. one_list c.args.text.now ts _ h tokens);
      ready = are_ready c.args.text.now _ tokens;
    })
