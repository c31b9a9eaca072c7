-- The spellings of the words and signs (this profile's table of tokens).
use Rattle.std.specs.Prelude.{◌≡◌, ℕ, ◌⊎◌, List, [], ◌∷◌, codes}
use Rattle.dh_lexer.specs.declared.tokens.OutWord.TheVariants as out
use Rattle.dh_lexer.specs.declared.tokens.TokenKind.{TokenKind}
use Rattle.dh_lexer.specs.declared.tokens.TokenKind.TheVariants as kind

-- a spelling and the token that it spells
abbrev pub Entry : Type 0
Entry = List ℕ × TokenKind

abbrev pub entry : List ℕ → TokenKind → Entry
entry spelling k = (spelling, k)

-- the words of the language, and those that it keeps out
abbrev pub words : List Entry
words =
    entry (codes "decl") kind.Decl ∷
    entry (codes "def") kind.Def ∷
    entry (codes "let") kind.Let ∷
    entry (codes "view") kind.View ∷
    entry (codes "shrink") kind.Shrink ∷
    entry (codes "suffix") kind.Suffix ∷
    entry (codes "shift") kind.Shift ∷
    entry (codes "split") kind.Split ∷
    entry (codes "by") kind.By ∷
    entry (codes "for") kind.For ∷
    entry (codes "while") kind.While ∷
    entry (codes "if") kind.If ∷
    entry (codes "else") kind.Else ∷
    entry (codes "unroll") kind.Unroll ∷
    entry (codes "combine") kind.Combine ∷
    entry (codes "bank") kind.Bank ∷
    entry (codes "bit") kind.Bit ∷
    entry (codes "ubit") kind.Ubit ∷
    entry (codes "bool") kind.Bool ∷
    entry (codes "true") kind.True ∷
    entry (codes "false") kind.False ∷
    entry (codes "as") kind.As ∷
    entry (codes "float") (kind.Out out.Float) ∷
    entry (codes "double") (kind.Out out.Double) ∷
    entry (codes "fix") (kind.Out out.Fix) ∷
    entry (codes "ufix") (kind.Out out.Ufix) ∷
    entry (codes "record") (kind.Out out.Record) ∷
    entry (codes "import") (kind.Out out.Import) ∷
    entry (codes "decor") (kind.Out out.Decor) ∷
    entry (codes "return") (kind.Out out.Return) ∷
    []

-- the sign of three bytes
abbrev pub dashes : List Entry
dashes = entry (codes "---") kind.Dashes ∷ []

-- the signs of two bytes
abbrev pub long_signs : List Entry
long_signs =
    entry (codes "..") kind.Range ∷
    entry (codes ":=") kind.Becomes ∷
    entry (codes "==") kind.Equal ∷
    entry (codes "!=") kind.NotEqual ∷
    entry (codes "<=") kind.LessEqual ∷
    entry (codes ">=") kind.GreaterEqual ∷
    entry (codes "<<") kind.ShiftLeft ∷
    entry (codes ">>") kind.ShiftRight ∷
    entry (codes "&&") kind.And ∷
    entry (codes "||") kind.Or ∷
    entry (codes "+=") kind.PlusAssign ∷
    entry (codes "-=") kind.MinusAssign ∷
    entry (codes "*=") kind.StarAssign ∷
    entry (codes "/=") kind.SlashAssign ∷
    []

-- the signs of one byte
abbrev pub short_signs : List Entry
short_signs =
    entry (codes "(") kind.OpenParen ∷
    entry (codes ")") kind.CloseParen ∷
    entry (codes "[") kind.OpenBracket ∷
    entry (codes "]") kind.CloseBracket ∷
    entry (codes "{") kind.OpenBrace ∷
    entry (codes "}") kind.CloseBrace ∷
    entry (codes ",") kind.Comma ∷
    entry (codes ";") kind.Semicolon ∷
    entry (codes ":") kind.Colon ∷
    entry (codes "=") kind.Assign ∷
    entry (codes "<") kind.Less ∷
    entry (codes ">") kind.Greater ∷
    entry (codes "+") kind.Plus ∷
    entry (codes "-") kind.Minus ∷
    entry (codes "*") kind.Star ∷
    entry (codes "/") kind.Slash ∷
    entry (codes "%") kind.Percent ∷
    entry (codes "&") kind.Ampersand ∷
    entry (codes "|") kind.Bar ∷
    entry (codes "^") kind.Caret ∷
    []

-- the table lists the spelling for the token
abbrev pub Lists : List Entry → List ℕ → TokenKind → Type 0
Lists [] w k = ⊥
Lists (e ∷ es) w k = ((w ≡ e.0) × (k ≡ e.1)) ⊎ Lists es w k
