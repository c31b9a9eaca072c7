-- The three quantities of a list of tokens that limits bound.
use Rattle.std.specs.Prelude.{ℕ, ◌+◌, ◌-◌, Bool, true, false, max, if◌then◌else◌, ◌&&◌, List, [], ◌∷◌}
use Rattle.dh_lexer.specs.declared.tokens.Token.{Token}
use Rattle.dh_lexer.specs.declared.tokens.TokenKind.{TokenKind}
use Rattle.dh_lexer.specs.declared.tokens.TokenKind.TheVariants as kind

-- how many brackets are open after a token: a closing sign of any form takes one away
abbrev pub open_brackets_after : ℕ → TokenKind → ℕ
open_brackets_after depth kind.OpenParen = depth + 1
open_brackets_after depth kind.OpenBracket = depth + 1
open_brackets_after depth kind.OpenBrace = depth + 1
open_brackets_after depth kind.CloseParen = depth - 1
open_brackets_after depth kind.CloseBracket = depth - 1
open_brackets_after depth kind.CloseBrace = depth - 1
open_brackets_after depth _ = depth

-- the greatest number of open brackets at one point, where so many are open before the tokens
abbrev pub most_open : ℕ → List Token → ℕ
most_open depth [] = depth
most_open depth (t ∷ ts) = max depth (most_open (open_brackets_after depth t.kind) ts)

-- `;`, `{`, `}`, `---`
abbrev pub is_separator : TokenKind → Bool
is_separator kind.Semicolon = true
is_separator kind.OpenBrace = true
is_separator kind.CloseBrace = true
is_separator kind.Dashes = true
is_separator _ = false

-- the signs of operators, among them those that stand round a width
abbrev pub is_operator_sign : TokenKind → Bool
is_operator_sign kind.Plus = true
is_operator_sign kind.Minus = true
is_operator_sign kind.Star = true
is_operator_sign kind.Slash = true
is_operator_sign kind.Percent = true
is_operator_sign kind.Ampersand = true
is_operator_sign kind.Bar = true
is_operator_sign kind.Caret = true
is_operator_sign kind.ShiftLeft = true
is_operator_sign kind.ShiftRight = true
is_operator_sign kind.Less = true
is_operator_sign kind.Greater = true
is_operator_sign kind.LessEqual = true
is_operator_sign kind.GreaterEqual = true
is_operator_sign kind.Equal = true
is_operator_sign kind.NotEqual = true
is_operator_sign kind.And = true
is_operator_sign kind.Or = true
is_operator_sign _ = false

-- how many operators there are since the last separator
abbrev pub operators_after : ℕ → TokenKind → ℕ
operators_after seen k = if is_separator k then 0 else (if is_operator_sign k then seen + 1 else seen)

-- the greatest number of operators between two neighbouring separators (or the start, or the end),
-- where so many stand between the last one and the tokens
abbrev pub most_operators : ℕ → List Token → ℕ
most_operators seen [] = seen
most_operators seen (t ∷ ts) = max seen (most_operators (operators_after seen t.kind) ts)

abbrev pub is_else : TokenKind → Bool
is_else kind.Else = true
is_else _ = false

abbrev pub is_if : TokenKind → Bool
is_if kind.If = true
is_if _ = false

-- at how many places `if` follows `else`, where an `else` may stand before the tokens
abbrev pub else_ifs_after : Bool → List Token → ℕ
else_ifs_after otherwise [] = 0
else_ifs_after otherwise (t ∷ ts) = (if otherwise && is_if t.kind then 1 else 0) + else_ifs_after (is_else t.kind) ts
