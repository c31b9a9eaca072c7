-- By the first byte: a space, what may be a comment, or else a token.
use Rattle.std.proofs.Common.{◌≡◌, ℕ, ◌==◌, true, false, drop, get_or, get_or-drop, add-zero, sym, ◌∙◌, subst, Option}
use Rattle.dh_lexer.specs.FrontPiece.{is_space, front_of}
use Rattle.dh_lexer.specs.LexedText.{TakesFound}
use Rattle.dh_lexer.specs.declared.fronts.Front.{Front}
use Rattle.dh_lexer.specs.declared.fronts.Front.TheVariants as front
use Rattle.dh_lexer.proofs.FoundKept.{found_some, gap_kept, plain_front, space_front}
use Rattle.dh_lexer.proofs.lexing.take_front.Goals as goal

pub returns-then-is_space : goal.returns-then-is_space
returns-then-is_space c =
    let space : is_space (get_or (drop c.args.at c.args.text.now) 0 0) ≡ true = rw (get_or-drop, add-zero) (sym c.is_space.ensures ∙ c.if-is_space.true) in
    found_some (front_of (drop c.args.at c.args.text.now)) c.args.place c.args.tokens.now.items c.args.tokens.now.items front.Gap 1
    (space_front (drop c.args.at c.args.text.now) space) (gap_kept c.args.tokens.now.items c.args.place)

pub returns : goal.returns
returns c =
    let no_space : is_space (get_or (drop c.args.at c.args.text.now) 0 0) ≡ false = rw (get_or-drop, add-zero) (sym c.is_space.ensures ∙ c.if-is_space.false) in
    let no_slash : (get_or (drop c.args.at c.args.text.now) 0 0 == 47) ≡ false = rw (get_or-drop, add-zero) (sym c.is_slash.ensures ∙ c.if-is_slash.false) in
    subst (λ (o : Option (Front × ℕ)). TakesFound o c.args.place c.args.tokens.now.items c.take_token.new.tokens.items c.take_token.result)
    (sym (plain_front (drop c.args.at c.args.text.now) no_space no_slash)) c.take_token.ensures
