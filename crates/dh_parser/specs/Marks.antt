-- The words and signs that have their own place in a form.
use Rattle.std.specs.Prelude.{ℕ, ◌==◌, Bool, false, List, [], ◌∷◌, Option, Some, None}
use Rattle.dh_lexer.specs.declared.tokens.Token.{Token}
use Rattle.dh_lexer.specs.declared.tokens.TokenKind.{TokenKind}
use Rattle.dh_lexer.specs.declared.tokens.TokenKind.TheVariants as kind
use Rattle.dh_parser.specs.declared.parsing.reading.Mark.{Mark}
use Rattle.dh_parser.specs.declared.parsing.reading.Mark.TheVariants as mark

-- the token that a mark is
abbrev pub kind_of_mark : Mark → TokenKind
kind_of_mark mark.Let = kind.Let
kind_of_mark mark.By = kind.By
kind_of_mark mark.If = kind.If
kind_of_mark mark.Else = kind.Else
kind_of_mark mark.While = kind.While
kind_of_mark mark.For = kind.For
kind_of_mark mark.Unroll = kind.Unroll
kind_of_mark mark.Combine = kind.Combine
kind_of_mark mark.Bank = kind.Bank
kind_of_mark mark.As = kind.As
kind_of_mark mark.OpenParen = kind.OpenParen
kind_of_mark mark.CloseParen = kind.CloseParen
kind_of_mark mark.OpenBracket = kind.OpenBracket
kind_of_mark mark.CloseBracket = kind.CloseBracket
kind_of_mark mark.OpenBrace = kind.OpenBrace
kind_of_mark mark.CloseBrace = kind.CloseBrace
kind_of_mark mark.Comma = kind.Comma
kind_of_mark mark.Semicolon = kind.Semicolon
kind_of_mark mark.Colon = kind.Colon
kind_of_mark mark.Range = kind.Range
kind_of_mark mark.Dashes = kind.Dashes
kind_of_mark mark.Becomes = kind.Becomes
kind_of_mark mark.Assign = kind.Assign
kind_of_mark mark.Less = kind.Less
kind_of_mark mark.Greater = kind.Greater
kind_of_mark mark.Star = kind.Star
kind_of_mark mark.End = kind.End

-- the mark that a token is
abbrev pub mark_of_token : TokenKind → Option Mark
mark_of_token kind.Let = Some mark.Let
mark_of_token kind.By = Some mark.By
mark_of_token kind.If = Some mark.If
mark_of_token kind.Else = Some mark.Else
mark_of_token kind.While = Some mark.While
mark_of_token kind.For = Some mark.For
mark_of_token kind.Unroll = Some mark.Unroll
mark_of_token kind.Combine = Some mark.Combine
mark_of_token kind.Bank = Some mark.Bank
mark_of_token kind.As = Some mark.As
mark_of_token kind.OpenParen = Some mark.OpenParen
mark_of_token kind.CloseParen = Some mark.CloseParen
mark_of_token kind.OpenBracket = Some mark.OpenBracket
mark_of_token kind.CloseBracket = Some mark.CloseBracket
mark_of_token kind.OpenBrace = Some mark.OpenBrace
mark_of_token kind.CloseBrace = Some mark.CloseBrace
mark_of_token kind.Comma = Some mark.Comma
mark_of_token kind.Semicolon = Some mark.Semicolon
mark_of_token kind.Colon = Some mark.Colon
mark_of_token kind.Range = Some mark.Range
mark_of_token kind.Dashes = Some mark.Dashes
mark_of_token kind.Becomes = Some mark.Becomes
mark_of_token kind.Assign = Some mark.Assign
mark_of_token kind.Less = Some mark.Less
mark_of_token kind.Greater = Some mark.Greater
mark_of_token kind.Star = Some mark.Star
mark_of_token kind.End = Some mark.End
mark_of_token _ = None

-- a number of each mark, by which marks are told apart
abbrev pub code : Mark → ℕ
code mark.Let = 0
code mark.By = 1
code mark.If = 2
code mark.Else = 3
code mark.While = 4
code mark.For = 5
code mark.Unroll = 6
code mark.Combine = 7
code mark.Bank = 8
code mark.As = 9
code mark.OpenParen = 10
code mark.CloseParen = 11
code mark.OpenBracket = 12
code mark.CloseBracket = 13
code mark.OpenBrace = 14
code mark.CloseBrace = 15
code mark.Comma = 16
code mark.Semicolon = 17
code mark.Colon = 18
code mark.Range = 19
code mark.Dashes = 20
code mark.Becomes = 21
code mark.Assign = 22
code mark.Less = 23
code mark.Greater = 24
code mark.Star = 25
code mark.End = 26

abbrev pub is_same_mark : Option Mark → Mark → Bool
is_same_mark None m = false
is_same_mark (Some n) m = code n == code m

-- whether a token is a mark
abbrev pub is_mark : TokenKind → Mark → Bool
is_mark k m = is_same_mark (mark_of_token k) m

-- whether the mark comes next
abbrev pub comes : Mark → List Token → Bool
comes m [] = false
comes m (t ∷ ts) = is_mark t.kind m
