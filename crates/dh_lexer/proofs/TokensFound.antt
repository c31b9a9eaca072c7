-- `token_of` finds the longest token. What it finds is spelled by the bytes that it takes, and no
-- token that the text begins with is longer; so the longest one has the same bytes, and one spelling
-- is that of one token. Where it finds nothing the text begins with no token but a number that a
-- letter, a digit or `_` follows.
use Rattle.std.proofs.Common.{◌≡◌, ℕ, zero, suc, ◌<◌, ◌≤◌, true, false, List, [], ◌∷◌, ◌++◌, length, get_or, take, drop, inl, inr, refl, ap, sym, ◌∙◌, subst, arith, Option, Some, None, option_map, unwrap_or, take-append-drop}
use Rattle.std.specs.Char.{is_ascii_digit}
use Rattle.std.proofs.Math.Seq.{take-append_seam}
use Rattle.std.proofs.lemmas.List.{length-take-le}
use Rattle.std.proofs.lemmas.Bool.{cond_both, false≢true}
use Rattle.std.proofs.lemmas.Bool.Decides.{nat_tests}
use Rattle.std.proofs.lemmas.List.Sums.{prefix_len-le-length}
use Rattle.dh_tree.specs.Names.{IsNameByte}
use Rattle.dh_lexer.specs.Pieces.{IsSign, IsRun, SpellsToken, BeginsWithout, BeginsComment, IsLongest}
use Rattle.dh_lexer.specs.FrontPiece.{is_name_byte, is_space, run_len, run_of, token_of}
use Rattle.dh_lexer.proofs.Runs.{name_bytes_tell, run_is, run_stops, run_long, run_some, run_ready}
use Rattle.dh_lexer.proofs.Numerals.{IsFilled}
use Rattle.dh_lexer.proofs.WordsSpelled.{run_is_found, run_names, digit_run, FoundRun, run_right, run_fails}
use Rattle.dh_lexer.proofs.SignsSpelled.{sign_front, FoundSign, sign_right, Covers, sign_at, sign_covers, one_sign}
use Rattle.dh_lexer.specs.declared.tokens.TokenKind.{TokenKind}
use Rattle.dh_lexer.specs.declared.tokens.TokenKind.TheVariants as kind

-- a run begins with a letter, a digit or `_`, whatever follows it
run_front : (w more : List ℕ) → IsFilled w → is_name_byte (get_or (w ++ more) 0 0) ≡ true
run_front [] more filled = absurd (omega (arith, filled.some))
run_front (b ∷ w) more filled = (name_bytes_tell b).1 filled.names.0

sign_no_run : (w more : List ℕ) → 0 < length w → is_name_byte (get_or w 0 0) ≡ false → is_name_byte (get_or (w ++ more) 0 0) ≡ false
sign_no_run [] more filled e = absurd (omega (arith, filled))
sign_no_run (b ∷ w) more filled e = e

some_same : (j k : TokenKind) → Some j ≡ Some k → j ≡ k
some_same j k e = cc

run_no_sign : (w : List ℕ) (j k : TokenKind) → IsRun j w → IsSign k w → ⊥
run_no_sign w j k r s = false≢true (sym (front_of w (sign_front k w s).some (sign_front k w s).no_name) ∙ run_front w [] (run_names j w r))
  where
    front_of : (w : List ℕ) → 0 < length w → is_name_byte (get_or w 0 0) ≡ false → is_name_byte (get_or (w ++ []) 0 0) ≡ false
    front_of w filled e = sign_no_run w [] filled e

-- one spelling is that of one token
pub one_kind : (w : List ℕ) (j k : TokenKind) → SpellsToken j w → SpellsToken k w → j ≡ k
one_kind w j k (inl s) (inl t) = one_sign w j k s t
one_kind w j k (inl s) (inr r) = absurd (run_no_sign w k j r s)
one_kind w j k (inr r) (inl s) = absurd (run_no_sign w j k r s)
one_kind w j k (inr r) (inr t) = some_same j k (sym (run_is_found j w r) ∙ run_is_found k w t)

-- what is found
pub record Starts (l : List ℕ) (k : TokenKind) (n : ℕ) : Type 0 where
  pub spelled : SpellsToken k (take n l)
  pub filled : 0 < n
  pub within : n ≤ length l
  pub apart : (m : ℕ) → k ≡ kind.Number m → BeginsWithout IsNameByte (drop n l)

abbrev pub Right : List ℕ → Option (TokenKind × ℕ) → Type 0
Right l None = Unit {0}
Right l (Some p) = Starts l p.0 p.1

run_starts : (l : List ℕ) → 0 < run_len l → (o : Option TokenKind) → FoundRun (take (run_len l) l) o → Right l (option_map (λ k. (k, run_len l)) o)
run_starts l filled None h = tt
run_starts l filled (Some k) h =
    record { spelled = inr h; filled = filled; within = prefix_len-le-length is_name_byte l; apart = λ m is. run_stops l }

sign_starts : (l : List ℕ) (o : Option (TokenKind × ℕ)) → FoundSign l o → Right l o
sign_starts l None h = tt
sign_starts l (Some p) h =
    record { spelled = inl h.spelled; filled = h.filled; within = h.within; apart = λ m is. absurd ((sign_front p.0 _ h.spelled).no_number m is) }

pub token_right : (b : ℕ) (l : List ℕ) → Right (b ∷ l) (token_of (b ∷ l))
unfolding token_of
token_right b l =
    cond_both (is_name_byte b) _ _ (Right (b ∷ l))
    (λ e. let ready = run_ready (b ∷ l) _ refl e in
    run_starts (b ∷ l) (run_some (b ∷ l) e).1 _ (run_right (take (run_len (b ∷ l)) (b ∷ l)) (record { some = ready.0; names = ready.1 })))
    (λ _. sign_starts (b ∷ l) _ (sign_right b l))

-- a token that the text begins with is no longer than the one found
abbrev pub Bounds : ℕ → Option (TokenKind × ℕ) → Type 0
Bounds n None = Unit {0}
Bounds n (Some p) = n ≤ p.1

run_bounds : (n m : ℕ) (o : Option TokenKind) → n ≤ m → Bounds n (option_map (λ k. (k, m)) o)
run_bounds n m None h = tt
run_bounds n m (Some k) h = h

sign_bounds : (n : ℕ) (o : Option (TokenKind × ℕ)) → Covers n o → Bounds n o
sign_bounds n None h = tt
sign_bounds n (Some p) h = h

pub token_bounds : (k : TokenKind) (w more : List ℕ) → SpellsToken k w → Bounds (length w) (token_of (w ++ more))
unfolding token_of
token_bounds k w more (inl s) =
    let front = sign_front k w s in
    rw (sign_no_run w more front.some front.no_name) (sign_bounds (length w) _ (sign_covers k w more s))
token_bounds k w more (inr r) =
    let filled = run_names k w r in
    rw (run_front w more filled) (run_bounds (length w) _ _ (run_long w more filled.names))

-- where nothing is found
no_cover : (n : ℕ) (o : Option (TokenKind × ℕ)) → o ≡ None → Covers n o → ⊥
no_cover n None e h = h
no_cover n (Some p) e h = absurd cc

no_map : (m : ℕ) (o : Option TokenKind) → option_map {U = TokenKind × ℕ} (λ k. (k, m)) o ≡ None → o ≡ None
no_map m None e = refl
no_map m (Some k) e = absurd cc

digit_front : (w more : List ℕ) (n : ℕ) → 0 < length w → length w ≤ n → is_ascii_digit (get_or (take n (w ++ more)) 0 0) ≡ true → is_ascii_digit (get_or w 0 0) ≡ true
digit_front [] more n filled long e = absurd (omega (arith, filled))
digit_front (b ∷ w) more zero filled long e = absurd (omega (arith, long))
digit_front (b ∷ w) more (suc n) filled long e = e

run_none : (k : TokenKind) (w more : List ℕ) → IsRun k w → ((n : ℕ) → k ≡ kind.Number n → BeginsWithout IsNameByte more)
    → run_of (take (run_len (w ++ more)) (w ++ more)) ≡ None → ⊥
run_none k w more r apart e =
    let filled = run_names k w r in
    let digit = digit_front w more _ filled.some (run_long w more filled.names) (run_fails _ e) in
    let number = digit_run k w r digit in
    let long = run_is w more filled.names (apart number.0 number.1) in
    found_none k (sym (run_is_found k w r) ∙ (ap run_of (sym (take-append_seam w more)) ∙ (ap (λ n. run_of (take n (w ++ more))) (sym long) ∙ e)))
  where
    found_none : (k : TokenKind) → Some k ≡ None → ⊥
    found_none k e = cc

pub token_none : (k : TokenKind) (w more : List ℕ) → SpellsToken k w → ((n : ℕ) → k ≡ kind.Number n → BeginsWithout IsNameByte more)
    → token_of (w ++ more) ≡ None → ⊥
unfolding token_of
token_none k w more (inl s) apart e =
    let front = sign_front k w s in
    no_cover (length w) (sign_at (w ++ more)) (rw (sign_no_run w more front.some front.no_name) at e) (sign_covers k w more s)
token_none k w more (inr r) apart e =
    run_none k w more r apart (no_map _ _ (rw (run_front w more (run_names k w r)) at e))

-- the longest token is found
found_by : (k : TokenKind) (w more : List ℕ) → IsLongest k w more → (o : Option (TokenKind × ℕ)) → token_of (w ++ more) ≡ o
    → Right (w ++ more) o → Bounds (length w) o → o ≡ Some (k, length w)
found_by k w more h None e right bounds = absurd (token_none k w more h.spelled h.apart e)
found_by k w more h (Some p) e right bounds =
    let upper = h.longest p.0 (take p.1 (w ++ more)) (drop p.1 (w ++ more)) right.spelled (take-append-drop p.1 (w ++ more)) in
    let n : p.1 ≡ length w = omega (arith, upper, bounds, length-take-le p.1 (w ++ more) right.within) in
    let spelled : SpellsToken p.0 w = subst (λ (v : List ℕ). SpellsToken p.0 v) (ap (λ m. take m (w ++ more)) n ∙ take-append_seam w more) right.spelled in
    pair_is p k (length w) (one_kind w p.0 k spelled h.spelled) n
  where
    pair_is : (p : TokenKind × ℕ) (k : TokenKind) (n : ℕ) → p.0 ≡ k → p.1 ≡ n → Some p ≡ Some (k, n)
    pair_is (j, m) k n e f = rw (e, f) refl

filled_right : (l : List ℕ) → 0 < length l → Right l (token_of l)
filled_right [] filled = absurd (omega (arith, filled))
filled_right (b ∷ l) filled = token_right b l

pub spelled_some : (k : TokenKind) (w : List ℕ) → SpellsToken k w → 0 < length w
spelled_some k w (inl s) = (sign_front k w s).some
spelled_some k w (inr r) = (run_names k w r).some

some_more : (w more : List ℕ) → 0 < length w → 0 < length (w ++ more)
some_more [] more h = absurd (omega (arith, h))
some_more (b ∷ w) more h = omega arith

pub token_is_found : (k : TokenKind) (w more : List ℕ) → IsLongest k w more → token_of (w ++ more) ≡ Some (k, length w)
token_is_found k w more h =
    found_by k w more h _ refl (filled_right (w ++ more) (some_more w more (spelled_some k w h.spelled))) (token_bounds k w more h.spelled)

-- what is found is the longest, where no comment begins
pub token_stands : (l : List ℕ) (k : TokenKind) (n : ℕ) → Starts l k n → token_of l ≡ Some (k, n) → (BeginsComment l → ⊥)
    → IsLongest k (take n l) (drop n l)
token_stands l k n starts e plain = record {
  spelled = starts.spelled;
  longest = λ j v more spells is. bounded j v more spells (is ∙ take-append-drop n l);
  apart = starts.apart;
  plain = subst (λ (x : List ℕ). BeginsComment x → ⊥) (sym (take-append-drop n l)) plain;
}
  where
    bound_of : (m : ℕ) (o : Option (TokenKind × ℕ)) → o ≡ Some (k, n) → Bounds m o → m ≤ n
    bound_of m None e h = absurd cc
    bound_of m (Some p) e h =
        let same : p ≡ (k, n) = ap (λ (o : Option (TokenKind × ℕ)). unwrap_or o p) e in
        let long : p.1 ≡ n = ap (λ (x : TokenKind × ℕ). x.1) same in omega (arith, long, h)

    bounded : (j : TokenKind) (v more : List ℕ) → SpellsToken j v → v ++ more ≡ l → length v ≤ length (take n l)
    bounded j v more spells is =
        let h = bound_of (length v) _ (ap token_of is ∙ e) (token_bounds j v more spells) in
        omega (arith, h, length-take-le n l starts.within)

-- no token begins with a space
pub token_no_space : (k : TokenKind) (w more : List ℕ) → SpellsToken k w → is_space (get_or (w ++ more) 0 0) ≡ false
token_no_space k w more (inl s) = sign_case w more (sign_front k w s).some (sign_front k w s).no_space
  where
    sign_case : (w more : List ℕ) → 0 < length w → is_space (get_or w 0 0) ≡ false → is_space (get_or (w ++ more) 0 0) ≡ false
    sign_case [] more h e = absurd (omega (arith, h))
    sign_case (b ∷ w) more h e = e
token_no_space k w more (inr r) = run_case w more (run_names k w r)
  where
    name_case : (b : ℕ) → IsNameByte b → is_space b ≡ false
    name_case b name = grind (arith, nat_tests)

    run_case : (w more : List ℕ) → IsFilled w → is_space (get_or (w ++ more) 0 0) ≡ false
    run_case [] more filled = absurd (omega (arith, filled.some))
    run_case (b ∷ w) more filled = name_case b filled.names.0
