-- A token that is a mark is that mark: marks are told apart by their codes, and each has its own.
use Rattle.std.proofs.Common.{◌≡◌, ℕ, true, false, ◌==◌, if◌then◌else◌, Some, refl, ap, sym, ◌∙◌, eqb-true}
use Rattle.dh_lexer.specs.declared.tokens.TokenKind.{TokenKind}
use Rattle.dh_lexer.specs.declared.tokens.TokenKind.TheVariants as kind
use Rattle.dh_parser.specs.declared.parsing.reading.Mark.{Mark}
use Rattle.dh_parser.specs.declared.parsing.reading.Mark.TheVariants as mark
use Rattle.dh_parser.specs.Marks.{kind_of_mark, code, is_same_mark, is_mark}

abbrev decode : ℕ → Mark
decode n =
    if n == 0 then mark.Let else
    if n == 1 then mark.By else
    if n == 2 then mark.If else
    if n == 3 then mark.Else else
    if n == 4 then mark.While else
    if n == 5 then mark.For else
    if n == 6 then mark.Unroll else
    if n == 7 then mark.Combine else
    if n == 8 then mark.Bank else
    if n == 9 then mark.As else
    if n == 10 then mark.OpenParen else
    if n == 11 then mark.CloseParen else
    if n == 12 then mark.OpenBracket else
    if n == 13 then mark.CloseBracket else
    if n == 14 then mark.OpenBrace else
    if n == 15 then mark.CloseBrace else
    if n == 16 then mark.Comma else
    if n == 17 then mark.Semicolon else
    if n == 18 then mark.Colon else
    if n == 19 then mark.Range else
    if n == 20 then mark.Dashes else
    if n == 21 then mark.Becomes else
    if n == 22 then mark.Assign else
    if n == 23 then mark.Less else
    if n == 24 then mark.Greater else
    if n == 25 then mark.Star else mark.End

decoded : (m : Mark) → decode (code m) ≡ m
decoded mark.Let = refl
decoded mark.By = refl
decoded mark.If = refl
decoded mark.Else = refl
decoded mark.While = refl
decoded mark.For = refl
decoded mark.Unroll = refl
decoded mark.Combine = refl
decoded mark.Bank = refl
decoded mark.As = refl
decoded mark.OpenParen = refl
decoded mark.CloseParen = refl
decoded mark.OpenBracket = refl
decoded mark.CloseBracket = refl
decoded mark.OpenBrace = refl
decoded mark.CloseBrace = refl
decoded mark.Comma = refl
decoded mark.Semicolon = refl
decoded mark.Colon = refl
decoded mark.Range = refl
decoded mark.Dashes = refl
decoded mark.Becomes = refl
decoded mark.Assign = refl
decoded mark.Less = refl
decoded mark.Greater = refl
decoded mark.Star = refl
decoded mark.End = refl

same_code : (m n : Mark) → code m ≡ code n → m ≡ n
same_code m n e = sym (decoded m) ∙ (ap decode e ∙ decoded n)

same_mark : (n m : Mark) → is_same_mark (Some n) m ≡ true → n ≡ m
same_mark n m e = same_code n m (eqb-true (code n) (code m) e)

none_is_same : (m : Mark) → false ≡ true → (k : TokenKind) → k ≡ kind_of_mark m
none_is_same m e k = cc

pub told : (k : TokenKind) (m : Mark) → is_mark k m ≡ true → k ≡ kind_of_mark m
told kind.Let m e = ap kind_of_mark (same_mark mark.Let m e)
told kind.By m e = ap kind_of_mark (same_mark mark.By m e)
told kind.If m e = ap kind_of_mark (same_mark mark.If m e)
told kind.Else m e = ap kind_of_mark (same_mark mark.Else m e)
told kind.While m e = ap kind_of_mark (same_mark mark.While m e)
told kind.For m e = ap kind_of_mark (same_mark mark.For m e)
told kind.Unroll m e = ap kind_of_mark (same_mark mark.Unroll m e)
told kind.Combine m e = ap kind_of_mark (same_mark mark.Combine m e)
told kind.Bank m e = ap kind_of_mark (same_mark mark.Bank m e)
told kind.As m e = ap kind_of_mark (same_mark mark.As m e)
told kind.OpenParen m e = ap kind_of_mark (same_mark mark.OpenParen m e)
told kind.CloseParen m e = ap kind_of_mark (same_mark mark.CloseParen m e)
told kind.OpenBracket m e = ap kind_of_mark (same_mark mark.OpenBracket m e)
told kind.CloseBracket m e = ap kind_of_mark (same_mark mark.CloseBracket m e)
told kind.OpenBrace m e = ap kind_of_mark (same_mark mark.OpenBrace m e)
told kind.CloseBrace m e = ap kind_of_mark (same_mark mark.CloseBrace m e)
told kind.Comma m e = ap kind_of_mark (same_mark mark.Comma m e)
told kind.Semicolon m e = ap kind_of_mark (same_mark mark.Semicolon m e)
told kind.Colon m e = ap kind_of_mark (same_mark mark.Colon m e)
told kind.Range m e = ap kind_of_mark (same_mark mark.Range m e)
told kind.Dashes m e = ap kind_of_mark (same_mark mark.Dashes m e)
told kind.Becomes m e = ap kind_of_mark (same_mark mark.Becomes m e)
told kind.Assign m e = ap kind_of_mark (same_mark mark.Assign m e)
told kind.Less m e = ap kind_of_mark (same_mark mark.Less m e)
told kind.Greater m e = ap kind_of_mark (same_mark mark.Greater m e)
told kind.Star m e = ap kind_of_mark (same_mark mark.Star m e)
told kind.End m e = ap kind_of_mark (same_mark mark.End m e)
told k m e = none_is_same m e k

pub mark_itself : (m : Mark) → is_mark (kind_of_mark m) m ≡ true
mark_itself mark.Let = refl
mark_itself mark.By = refl
mark_itself mark.If = refl
mark_itself mark.Else = refl
mark_itself mark.While = refl
mark_itself mark.For = refl
mark_itself mark.Unroll = refl
mark_itself mark.Combine = refl
mark_itself mark.Bank = refl
mark_itself mark.As = refl
mark_itself mark.OpenParen = refl
mark_itself mark.CloseParen = refl
mark_itself mark.OpenBracket = refl
mark_itself mark.CloseBracket = refl
mark_itself mark.OpenBrace = refl
mark_itself mark.CloseBrace = refl
mark_itself mark.Comma = refl
mark_itself mark.Semicolon = refl
mark_itself mark.Colon = refl
mark_itself mark.Range = refl
mark_itself mark.Dashes = refl
mark_itself mark.Becomes = refl
mark_itself mark.Assign = refl
mark_itself mark.Less = refl
mark_itself mark.Greater = refl
mark_itself mark.Star = refl
mark_itself mark.End = refl
