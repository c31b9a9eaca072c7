-- What a name of the language is (this profile's table of tokens).
use Rattle.std.specs.Prelude.{◌≡◌, ℕ, ◌≤◌, ◌⊎◌, List, [], ◌∷◌, codes, Contains}
use Rattle.std.specs.List.{AllByRecursion}

-- an ASCII letter or `_`
abbrev pub IsLetter : ℕ → Type 0
IsLetter b = ((65 ≤ b) × (b ≤ 90)) ⊎ (((97 ≤ b) × (b ≤ 122)) ⊎ (b ≡ 95))

-- a decimal digit
abbrev pub IsDigit : ℕ → Type 0
IsDigit b = (48 ≤ b) × (b ≤ 57)

-- what may stand in a name after its first byte
abbrev pub IsNameByte : ℕ → Type 0
IsNameByte b = IsLetter b ⊎ IsDigit b

-- the words of the language, and the words that it keeps out
abbrev pub reserved : List (List ℕ)
reserved =
    codes "decl" ∷ (codes "def" ∷ (codes "let" ∷ (codes "view" ∷ (codes "shrink" ∷ (codes "suffix" ∷ (codes "shift" ∷ (codes "split" ∷ (codes "by" ∷ (codes "for" ∷ (codes "while" ∷ (codes "if" ∷ (codes "else" ∷ (codes "unroll" ∷ (codes "combine" ∷ (codes "bank" ∷ (codes "bit" ∷ (codes "ubit" ∷ (codes "bool" ∷ (codes "true" ∷ (codes "false" ∷ (codes "as" ∷ (codes "float" ∷ (codes "double" ∷ (codes "fix" ∷ (codes "ufix" ∷ (codes "record" ∷ (codes "import" ∷ (codes "decor" ∷ (codes "return" ∷ [])))))))))))))))))))))))))))))

-- begins with a letter and goes on with letters and digits
abbrev pub IsIdentifier : List ℕ → Type 0
IsIdentifier [] = ⊥
IsIdentifier (b ∷ bs) = IsLetter b × AllByRecursion IsNameByte bs

-- a name: such a word that is not reserved
pub record IsName (bytes : List ℕ) : Type 0 where
  pub word : IsIdentifier bytes
  pub free : Contains reserved bytes → ⊥
