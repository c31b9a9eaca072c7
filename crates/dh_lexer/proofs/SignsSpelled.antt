-- Signs: `sign` finds the longest. The tables list signs of one and of two bytes, and `---` is the
-- one of three; so a sign that the text begins with has three bytes and is found, or has two and is
-- found where `---` is not, or has one and is found where no longer one is.
use Rattle.std.proofs.Common.{◌≡◌, ℕ, ◌<◌, ◌≤◌, Bool, true, false, List, [], ◌∷◌, ◌++◌, length, get_or, take, not, ◌&&◌, ◌==◌, inl, inr, refl, sym, ◌∙◌, subst, arith, eqb-true, Option, Some, None, option_map}
use Rattle.std.specs.List.{list_all}
use Rattle.std.specs.Cmp.{first_so, second_so}
use Rattle.std.proofs.lemmas.Bool.{cond_both, false≢true}
use Rattle.dh_lexer.specs.Spellings.{Entry, Lists, dashes, long_signs, short_signs}
use Rattle.dh_lexer.specs.Pieces.{IsSign}
use Rattle.dh_lexer.specs.FrontPiece.{is_name_byte, is_space, look_up, either, long_sign, short_sign, sign}
use Rattle.dh_lexer.proofs.TableLooks.{look_lists, is_distinct, listed_looks, listed_pass}
use Rattle.dh_lexer.specs.declared.tokens.TokenKind.{TokenKind}
use Rattle.dh_lexer.specs.declared.tokens.TokenKind.TheVariants as kind

-- no number
abbrev is_plain : TokenKind → Bool
is_plain (kind.Number _) = false
is_plain _ = true

-- the first byte is neither that of a run nor a space, and no byte is 0
abbrev front_is_sign : List ℕ → Bool
front_is_sign w = not (is_name_byte (get_or w 0 0)) && not (is_space (get_or w 0 0))

abbrev is_short : Entry → Bool
is_short e = (length e.0 == 1) && (front_is_sign e.0 && is_plain e.1)

abbrev is_long : Entry → Bool
is_long e = (length e.0 == 2) && (not (get_or e.0 1 0 == 0) && (front_is_sign e.0 && is_plain e.1))

abbrev is_dashes : Entry → Bool
is_dashes e = (length e.0 == 3) && (front_is_sign e.0 && is_plain e.1)

shorts : list_all is_short short_signs ≡ true
shorts = refl

longs : list_all is_long long_signs ≡ true
longs = refl

threes : list_all is_dashes dashes ≡ true
threes = refl

-- what is known of a sign
pub record IsSignFront (k : TokenKind) (w : List ℕ) : Type 0 where
  pub no_name : is_name_byte (get_or w 0 0) ≡ false
  pub no_space : is_space (get_or w 0 0) ≡ false
  pub no_number : (n : ℕ) → k ≡ kind.Number n → ⊥
  pub some : 0 < length w

not_so : (b : Bool) → not b ≡ true → b ≡ false
not_so true e = sym e
not_so false e = refl

plain_so : (k : TokenKind) (n : ℕ) → is_plain k ≡ true → k ≡ kind.Number n → ⊥
plain_so k n e is = false≢true (subst (λ (j : TokenKind). is_plain j ≡ true) is e)

front_so : (k : TokenKind) (w : List ℕ) → (front_is_sign w && is_plain k) ≡ true → 0 < length w → IsSignFront k w
front_so k w e some =
    let front = first_so (front_is_sign w) _ e in
    record {
      no_name = not_so _ (first_so (not (is_name_byte (get_or w 0 0))) _ front);
      no_space = not_so _ (second_so (not (is_name_byte (get_or w 0 0))) _ front);
      no_number = λ n is. plain_so k n (second_so (front_is_sign w) _ e) is;
      some = some;
    }

-- the lengths of signs
short_long : (k : TokenKind) (w : List ℕ) → Lists short_signs w k → length w ≡ 1
short_long k w l = eqb-true _ 1 (first_so (length w == 1) _ (listed_pass is_short short_signs w k shorts l))

long_long : (k : TokenKind) (w : List ℕ) → Lists long_signs w k → length w ≡ 2
long_long k w l = eqb-true _ 2 (first_so (length w == 2) _ (listed_pass is_long long_signs w k longs l))

dashes_long : (k : TokenKind) (w : List ℕ) → Lists dashes w k → length w ≡ 3
dashes_long k w l = eqb-true _ 3 (first_so (length w == 3) _ (listed_pass is_dashes dashes w k threes l))

pub sign_front : (k : TokenKind) (w : List ℕ) → IsSign k w → IsSignFront k w
sign_front k w (inl l) =
    let n = dashes_long k w l in
    front_so k w (second_so (length w == 3) _ (listed_pass is_dashes dashes w k threes l)) (omega (arith, n))
sign_front k w (inr (inl l)) =
    let n = long_long k w l in
    front_so k w (second_so (not (get_or w 1 0 == 0)) _ (second_so (length w == 2) _ (listed_pass is_long long_signs w k longs l))) (omega (arith, n))
sign_front k w (inr (inr l)) =
    let n = short_long k w l in
    front_so k w (second_so (length w == 1) _ (listed_pass is_short short_signs w k shorts l)) (omega (arith, n))

-- what is found is a sign that the text begins with
pub record StartsSign (l : List ℕ) (k : TokenKind) (n : ℕ) : Type 0 where
  pub spelled : IsSign k (take n l)
  pub filled : 0 < n
  pub within : n ≤ length l

abbrev pub FoundSign : List ℕ → Option (TokenKind × ℕ) → Type 0
FoundSign l None = Unit {0}
FoundSign l (Some p) = StartsSign l p.0 p.1

at : (b k : ℕ) → (b == k) ≡ true → (Q : ℕ → Type 0) → Q k → Q b
at b k e Q h = subst Q (sym (eqb-true b k e)) h

dashes_start : (b c d : ℕ) (l : List ℕ) → ((b == 45) && ((c == 45) && (d == 45))) ≡ true → StartsSign (b ∷ (c ∷ (d ∷ l))) kind.Dashes 3
dashes_start b c d l e =
    let rest = second_so (b == 45) _ e in
    at b 45 (first_so (b == 45) _ e) (λ x. StartsSign (x ∷ (c ∷ (d ∷ l))) kind.Dashes 3)
    (at c 45 (first_so (c == 45) _ rest) (λ x. StartsSign (45 ∷ (x ∷ (d ∷ l))) kind.Dashes 3)
    (at d 45 (second_so (c == 45) _ rest) (λ x. StartsSign (45 ∷ (45 ∷ (x ∷ l))) kind.Dashes 3)
    (record { spelled = inl (inl (refl, refl)); filled = omega arith; within = omega arith })))

-- the tests see three bytes that the text has
dashes_right : (b : ℕ) (l : List ℕ) → ((b == 45) && ((get_or l 0 0 == 45) && (get_or l 1 0 == 45))) ≡ true → StartsSign (b ∷ l) kind.Dashes 3
dashes_right b [] e = absurd (false≢true (second_so (b == 45) _ e))
dashes_right b (c ∷ []) e = absurd (false≢true (second_so (c == 45) _ (second_so (b == 45) _ e)))
dashes_right b (c ∷ (d ∷ l)) e = dashes_start b c d l e

short_right : (b : ℕ) (l : List ℕ) (o : Option TokenKind) → look_up short_signs (b ∷ []) ≡ o → FoundSign (b ∷ l) (option_map (λ k. (k, 1)) o)
short_right b l None e = tt
short_right b l (Some k) e = record { spelled = inr (inr (look_lists short_signs (b ∷ []) k e)); filled = omega arith; within = omega arith }

-- no sign of two bytes has a 0
no_zero : (b : ℕ) (k : TokenKind) → look_up long_signs (b ∷ (0 ∷ [])) ≡ Some k → ⊥
no_zero b k e =
    let test = listed_pass is_long long_signs (b ∷ (0 ∷ [])) k longs (look_lists long_signs (b ∷ (0 ∷ [])) k e) in false≢true test

long_or_short : (b : ℕ) (l : List ℕ) (o : Option TokenKind) → look_up long_signs (b ∷ (get_or l 0 0 ∷ [])) ≡ o
    → FoundSign (b ∷ l) (either (option_map (λ k. (k, 2)) o) (option_map (λ k. (k, 1)) (look_up short_signs (b ∷ []))))
long_or_short b l None e = short_right b l _ refl
long_or_short b [] (Some k) e = absurd (no_zero b k e)
long_or_short b (c ∷ l) (Some k) e =
    record { spelled = inr (inl (look_lists long_signs (b ∷ (c ∷ [])) k e)); filled = omega arith; within = omega arith }

pub sign_right : (b : ℕ) (l : List ℕ) → FoundSign (b ∷ l) (sign b (get_or l 0 0) (get_or l 1 0))
unfolding sign long_sign short_sign
sign_right b l =
    cond_both ((b == 45) && ((get_or l 0 0 == 45) && (get_or l 1 0 == 45))) _ _ (FoundSign (b ∷ l))
    (λ e. dashes_right b l e)
    (λ _. long_or_short b l _ refl)

-- a sign that the text begins with is no longer than the one found
abbrev pub Covers : ℕ → Option (TokenKind × ℕ) → Type 0
Covers n None = ⊥
Covers n (Some p) = n ≤ p.1

short_covers : (b c d : ℕ) (k : TokenKind) → look_up short_signs (b ∷ []) ≡ Some k → Covers 1 (sign b c d)
unfolding sign long_sign short_sign
short_covers b c d k e =
    cond_both ((b == 45) && ((c == 45) && (d == 45))) _ _ (Covers 1)
    (λ _. omega arith)
    (λ _. rw e (by_long (look_up long_signs (b ∷ (c ∷ [])))))
  where
    by_long : (o : Option TokenKind) → Covers 1 (either (option_map (λ k. (k, 2)) o) (Some (k, 1)))
    by_long None = omega arith
    by_long (Some j) = omega arith

long_covers : (b c d : ℕ) (k : TokenKind) → look_up long_signs (b ∷ (c ∷ [])) ≡ Some k → Covers 2 (sign b c d)
unfolding sign long_sign short_sign
long_covers b c d k e =
    cond_both ((b == 45) && ((c == 45) && (d == 45))) _ _ (Covers 2)
    (λ _. omega arith)
    (λ _. rw e (omega arith))

dashes_cover : Covers 3 (sign 45 45 45)
unfolding sign
dashes_cover = omega arith

shorts_distinct : is_distinct short_signs ≡ true
shorts_distinct = refl

longs_distinct : is_distinct long_signs ≡ true
longs_distinct = refl

-- the sign at the front of a text
abbrev pub sign_at : List ℕ → Option (TokenKind × ℕ)
sign_at l = sign (get_or l 0 0) (get_or l 1 0) (get_or l 2 0)

three_at : (k : TokenKind) (w more : List ℕ) → Lists dashes w k → Covers (length w) (sign_at (w ++ more))
three_at k w more (inl (is, _)) = rw is dashes_cover
three_at k w more (inr l) = absurd l

two_at : (k : TokenKind) (w more : List ℕ) → Lists long_signs w k → length w ≡ 2 → Covers (length w) (sign_at (w ++ more))
two_at k [] more l n = absurd (omega (arith, n))
two_at k (b ∷ []) more l n = absurd (omega (arith, n))
two_at k (b ∷ (c ∷ [])) more l n = long_covers b c _ k (listed_looks long_signs (b ∷ (c ∷ [])) k longs_distinct l)
two_at k (b ∷ (c ∷ (d ∷ w))) more l n = absurd (omega (arith, n))

one_at : (k : TokenKind) (w more : List ℕ) → Lists short_signs w k → length w ≡ 1 → Covers (length w) (sign_at (w ++ more))
one_at k [] more l n = absurd (omega (arith, n))
one_at k (b ∷ []) more l n = short_covers b _ _ k (listed_looks short_signs (b ∷ []) k shorts_distinct l)
one_at k (b ∷ (c ∷ w)) more l n = absurd (omega (arith, n))

pub sign_covers : (k : TokenKind) (w more : List ℕ) → IsSign k w → Covers (length w) (sign_at (w ++ more))
sign_covers k w more (inl l) = three_at k w more l
sign_covers k w more (inr (inl l)) = two_at k w more l (long_long k w l)
sign_covers k w more (inr (inr l)) = one_at k w more l (short_long k w l)

-- one spelling is that of one sign
one_in : (es : List Entry) (w : List ℕ) (j k : TokenKind) → is_distinct es ≡ true → Lists es w j → Lists es w k → j ≡ k
one_in es w j k d l m = some_same j k (sym (listed_looks es w j d l) ∙ listed_looks es w k d m)
  where
    some_same : (j k : TokenKind) → Some j ≡ Some k → j ≡ k
    some_same j k e = cc

dashes_distinct : is_distinct dashes ≡ true
dashes_distinct = refl

pub one_sign : (w : List ℕ) (j k : TokenKind) → IsSign j w → IsSign k w → j ≡ k
one_sign w j k (inl l) (inl m) = one_in dashes w j k dashes_distinct l m
one_sign w j k (inl l) (inr (inl m)) = absurd (omega (arith, dashes_long j w l, long_long k w m))
one_sign w j k (inl l) (inr (inr m)) = absurd (omega (arith, dashes_long j w l, short_long k w m))
one_sign w j k (inr (inl l)) (inl m) = absurd (omega (arith, long_long j w l, dashes_long k w m))
one_sign w j k (inr (inl l)) (inr (inl m)) = one_in long_signs w j k longs_distinct l m
one_sign w j k (inr (inl l)) (inr (inr m)) = absurd (omega (arith, long_long j w l, short_long k w m))
one_sign w j k (inr (inr l)) (inl m) = absurd (omega (arith, short_long j w l, dashes_long k w m))
one_sign w j k (inr (inr l)) (inr (inl m)) = absurd (omega (arith, short_long j w l, long_long k w m))
one_sign w j k (inr (inr l)) (inr (inr m)) = one_in short_signs w j k shorts_distinct l m
