-- Whether the last two tokens are those before the width of a kind.
use Rattle.std.proofs.Common.{◌≡◌, suc, ◌-◌, ◌<◌, ◌≤◌, Bool, false, if◌then◌else◌, List, [], ◌∷◌, length, get_or, refl, ap, ◌∙◌, arith}
use Rattle.dh_lexer.specs.declared.tokens.Token.{Token}
use Rattle.dh_parser.specs.Programs.{is_kind_word, is_less, ends_before_width}

too_few : (t u : Token) (ts : List Token) → length (t ∷ (u ∷ ts)) < 2 → ⊥
too_few t u ts h = omega arith

pub none_before : (ts : List Token) → length ts < 2 → false ≡ ends_before_width ts
none_before [] h = refl
none_before (t ∷ []) h = refl
none_before (t ∷ (u ∷ ts)) h = absurd (too_few t u ts h)

no_two : 2 ≤ length {A = Token} [] → ⊥
no_two h = omega arith

not_two : (t : Token) → 2 ≤ length (t ∷ []) → ⊥
not_two t h = omega arith

abbrev pub both : Token → Token → Bool
both a b = if is_kind_word a.kind then is_less b.kind else false

pub last_two : (ts : List Token) (d e : Token) → 2 ≤ length ts → both (get_or ts (length ts - 2) d) (get_or ts (length ts - 1) e) ≡ ends_before_width ts
last_two [] d e h = absurd (no_two h)
last_two (t ∷ []) d e h = absurd (not_two t h)
last_two (t ∷ (u ∷ [])) d e h = refl
last_two (t ∷ (u ∷ (v ∷ ts))) d e h =
    let i : length (t ∷ (u ∷ (v ∷ ts))) - 2 ≡ suc (length (u ∷ (v ∷ ts)) - 2) = omega arith in
    let j : length (t ∷ (u ∷ (v ∷ ts))) - 1 ≡ suc (length (u ∷ (v ∷ ts)) - 1) = omega arith in
    ap (λ n. both (get_or (t ∷ (u ∷ (v ∷ ts))) n d) (get_or (t ∷ (u ∷ (v ∷ ts))) (length (t ∷ (u ∷ (v ∷ ts))) - 1) e)) i
    ∙ (ap (λ n. both (get_or (t ∷ (u ∷ (v ∷ ts))) (suc (length (u ∷ (v ∷ ts)) - 2)) d) (get_or (t ∷ (u ∷ (v ∷ ts))) n e)) j
    ∙ last_two (u ∷ (v ∷ ts)) d e (omega arith))
