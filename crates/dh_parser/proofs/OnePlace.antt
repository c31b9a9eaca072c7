-- A list of tokens has one token out of place at most, and none where it is a program's: of two such
-- tokens the later one has the earlier before it, so some program would go on with that one.
use Rattle.std.proofs.Common.{◌≡◌, ◌⊎◌, inl, inr, List, [], ◌∷◌, ◌++◌, refl, ap, sym, ◌∙◌, subst, append_assoc}
use Rattle.dh_lexer.specs.declared.tokens.Token.{Token}
use Rattle.dh_tree.specs.PlainTrees.{Program}
use Rattle.dh_parser.specs.Programs.{Spells, Begins, OutOfPlace}

begins_less : (xs ys : List Token) → Begins (xs ++ ys) → Begins xs
begins_less xs ys h = record { text = h.text; rest = ys ++ h.rest; fits = h.fits; tokens_are = h.tokens_are ∙ append_assoc xs ys h.rest }

-- two cuts of a list fall together, or one lies before the other
abbrev Cuts : (b c : List Token) (t u : Token) → Type 0
Cuts b c t u = ((b ≡ c) × (t ≡ u)) ⊎ (((more : List Token) × (c ≡ b ++ t ∷ more)) ⊎ ((more : List Token) × (b ≡ c ++ u ∷ more)))

further : (x y : Token) (b c : List Token) (t u : Token) → x ≡ y → Cuts b c t u → Cuts (x ∷ b) (y ∷ c) t u
further x y b c t u e (inl same) = inl (ap (λ z. z ∷ b) e ∙ ap (λ l. y ∷ l) same.0, same.1)
further x y b c t u e (inr (inl (more, f))) = inr (inl (more, ap (λ z. z ∷ c) (sym e) ∙ ap (λ l. x ∷ l) f))
further x y b c t u e (inr (inr (more, f))) = inr (inr (more, ap (λ z. z ∷ b) e ∙ ap (λ l. y ∷ l) f))

cuts : (b c : List Token) (t u : Token) (a d : List Token) → b ++ t ∷ a ≡ c ++ u ∷ d → Cuts b c t u
cuts [] [] t u a d e = let same : t ≡ u = cc in inl (refl, same)
cuts [] (y ∷ c) t u a d e = let same : y ≡ t = cc in inr (inl (c, ap (λ z. z ∷ c) same))
cuts (x ∷ b) [] t u a d e = let same : x ≡ u = cc in inr (inr (b, ap (λ z. z ∷ b) same))
cuts (x ∷ b) (y ∷ c) t u a d e =
    let same : x ≡ y = cc in
    let rest : b ++ t ∷ a ≡ c ++ u ∷ d = cc in
    further x y b c t u same (cuts b c t u a d rest)

-- what begins with a token that is out of place begins no program
never_on : (tokens b : List Token) (t : Token) (a more : List Token) → OutOfPlace tokens b t a → Begins (b ++ t ∷ more) → ⊥
never_on tokens b t a more o h = o.dead (begins_less (b ++ t ∷ []) more (subst Begins (sym (append_assoc b (t ∷ []) more)) h))

pub one_place : (tokens b c : List Token) (t u : Token) (a d : List Token) → OutOfPlace tokens b t a → OutOfPlace tokens c u d → (b ≡ c) × (t ≡ u)
one_place tokens b c t u a d o p =
    elim (cuts b c t u a d (sym o.all ∙ p.all)) [
      | inl same ↦ same
      | inr (inl (more, e)) ↦ absurd (never_on tokens b t a more o (subst Begins e p.viable))
      | inr (inr (more, e)) ↦ absurd (never_on tokens c u d more p (subst Begins e o.viable))
    ]

pub spelled_in_place : (p : Program) (tokens b : List Token) (t : Token) (a : List Token) → Spells p tokens → OutOfPlace tokens b t a → ⊥
spelled_in_place p tokens b t a s o =
    o.dead (record { text = s.text; rest = a; fits = s.fits; tokens_are = s.tokens_are ∙ (o.all ∙ sym (append_assoc b (t ∷ []) a)) })
