-- A line is a row of pieces: fixed texts, numbers and words. Two lines of one shape that are the same
-- text have the same numbers and words, by induction on the shape: a fixed text is taken away from
-- both, a number ends with its digits, a word with its space.
use Rattle.std.proofs.Common.{◌≡◌, ℕ, ◌<◌, ◌^◌, List, [], ◌∷◌, ◌++◌, ◌∙◌, ap, sym, refl, subst, append_assoc}
use Rattle.std.specs.Fmt.{decimal}
use Rattle.std.proofs.lemmas.List.{append_cancel_left}
use Rattle.dh_verilog.proofs.Reading.{NoDigit, NoSpace, number_then, word_then}

-- a word has a space after it
pub data Piece : Type 0 where
  fixed : (text : List ℕ) → Piece
  numeral : (n : ℕ) → Piece
  word : (text : List ℕ) → Piece

-- the pieces, then a text
abbrev pub flat : List Piece → List ℕ → List ℕ
flat [] x = x
flat (fixed s ∷ ps) x = s ++ flat ps x
flat (numeral n ∷ ps) x = decimal n ++ flat ps x
flat (word w ∷ ps) x = w ++ (32 ∷ flat ps x)

-- the pieces have one shape, and each ends where the next begins
abbrev pub Alike : List Piece → List Piece → (x y : List ℕ) → Type 0
Alike [] [] x y = Unit {0}
Alike (fixed s ∷ ps) (fixed t ∷ qs) x y = (s ≡ t) × Alike ps qs x y
Alike (numeral m ∷ ps) (numeral n ∷ qs) x y = (m < 2 ^ 64) × ((n < 2 ^ 64) × (NoDigit (flat ps x) × (NoDigit (flat qs y) × Alike ps qs x y)))
Alike (word v ∷ ps) (word w ∷ qs) x y = NoSpace v × (NoSpace w × Alike ps qs x y)
Alike _ _ x y = ⊥

-- the numbers and the words are the same
abbrev pub Told : List Piece → List Piece → Type 0
Told (fixed s ∷ ps) (fixed t ∷ qs) = Told ps qs
Told (numeral m ∷ ps) (numeral n ∷ qs) = (m ≡ n) × Told ps qs
Told (word v ∷ ps) (word w ∷ qs) = (v ≡ w) × Told ps qs
Told _ _ = Unit {0}

abbrev after : {A B C : Type 0} → A → B × C → (A × B) × C
after a t = ((a, t.0), t.1)

pub same : (ps qs : List Piece) (x y : List ℕ) → Alike ps qs x y → flat ps x ≡ flat qs y → Told ps qs × (x ≡ y)
same [] [] x y h e = (tt, e)
same (fixed s ∷ ps) (fixed t ∷ qs) x y h e =
    same ps qs x y h.1 (append_cancel_left t (flat ps x) (flat qs y) (subst (λ (r : List ℕ). r ++ flat ps x ≡ t ++ flat qs y) h.0 e))
same (numeral m ∷ ps) (numeral n ∷ qs) x y h e =
    let t = number_then m n (flat ps x) (flat qs y) h.0 h.1.0 h.1.1.0 h.1.1.1.0 e in
    after t.0 (same ps qs x y h.1.1.1.1 t.1)
same (word v ∷ ps) (word w ∷ qs) x y h e =
    let t = word_then v w (flat ps x) (flat qs y) h.0 h.1.0 e in
    after t.0 (same ps qs x y h.1.1 t.1)
same [] (q ∷ qs) x y h e = absurd h
same (fixed s ∷ ps) [] x y h e = absurd h
same (fixed s ∷ ps) (numeral n ∷ qs) x y h e = absurd h
same (fixed s ∷ ps) (word n ∷ qs) x y h e = absurd h
same (numeral s ∷ ps) [] x y h e = absurd h
same (numeral s ∷ ps) (fixed n ∷ qs) x y h e = absurd h
same (numeral s ∷ ps) (word n ∷ qs) x y h e = absurd h
same (word s ∷ ps) [] x y h e = absurd h
same (word s ∷ ps) (fixed n ∷ qs) x y h e = absurd h
same (word s ∷ ps) (numeral n ∷ qs) x y h e = absurd h

-- a text after the pieces goes behind the text that stands there
pub flat_append : (ps : List Piece) (t x : List ℕ) → flat ps t ++ x ≡ flat ps (t ++ x)
flat_append [] t x = refl
flat_append (fixed s ∷ ps) t x = append_assoc s (flat ps t) x ∙ ap (λ r. s ++ r) (flat_append ps t x)
flat_append (numeral n ∷ ps) t x = append_assoc (decimal n) (flat ps t) x ∙ ap (λ r. decimal n ++ r) (flat_append ps t x)
flat_append (word w ∷ ps) t x = append_assoc w (32 ∷ flat ps t) x ∙ ap (λ r. w ++ (32 ∷ r)) (flat_append ps t x)

-- two lines of one shape, up to what stands behind the pieces
pub same_line : (ps qs : List Piece) (t u x y : List ℕ) → Alike ps qs (t ++ x) (u ++ y) → flat ps t ++ x ≡ flat qs u ++ y → Told ps qs × (t ++ x ≡ u ++ y)
same_line ps qs t u x y h e = same ps qs (t ++ x) (u ++ y) h (sym (flat_append ps t x) ∙ (e ∙ flat_append qs u y))
