-- Comments: `block_len` finds the first `*/`, by recursion on the text, and nothing where there is none.
use Rattle.std.proofs.Common.{◌≡◌, ℕ, ◌+◌, ◌-◌, ◌≤◌, true, false, List, [], ◌∷◌, ◌++◌, length, get_or, take, drop, ◌&&◌, ◌==◌, refl, ap, sym, ◌∙◌, arith, eqb-true, codes, Option, Some, None, option_map, drop-drop, add-one, take-append-drop, append_assoc}
use Rattle.std.specs.Cmp.{first_so, second_so}
use Rattle.std.proofs.lemmas.Bool.{cond_both, false≢true, false_from_ne_true}
use Rattle.dh_lexer.specs.FrontPiece.{block_len, gap_of}

-- no `*/` in it
abbrev pub NoEnd : List ℕ → Type 0
NoEnd body = (x y : List ℕ) → body ≡ x ++ (codes "*/" ++ y) → ⊥

-- the length from the comment's first byte
length_from : (at end : ℕ) (o : Option ℕ) → Some end ≡ option_map (λ n. (at + 2) + n) o → Some (gap_of (end - at)) ≡ option_map (λ n. gap_of (2 + n)) o
length_from at end None e = absurd cc
length_from at end (Some n) e =
    let is : end ≡ (at + 2) + n = cc in
    let m : end - at ≡ 2 + n = omega (arith, is) in ap (λ x. Some (gap_of x)) m

none_from : (at : ℕ) (o : Option ℕ) → None ≡ option_map (λ n. (at + 2) + n) o → None ≡ option_map (λ n. gap_of (2 + n)) o
none_from at None e = refl
none_from at (Some n) e = absurd cc

pub comment_some : (at end : ℕ) (text : List ℕ) → Some end ≡ option_map (λ n. (at + 2) + n) (block_len (drop (at + 2) text))
    → Some (gap_of (end - at)) ≡ option_map (λ n. gap_of (2 + n)) (block_len (drop 2 (drop at text)))
comment_some at end text e = rw (drop-drop 2 at text) (length_from at end _ e)

pub comment_none : (at : ℕ) (text : List ℕ) → None ≡ option_map (λ n. (at + 2) + n) (block_len (drop (at + 2) text))
    → None ≡ option_map (λ n. gap_of (2 + n)) (block_len (drop 2 (drop at text)))
comment_none at text e = rw (drop-drop 2 at text) (none_from at _ e)

-- a body is found
no_end_more : (b : ℕ) (bs : List ℕ) → NoEnd (b ∷ bs) → NoEnd bs
no_end_more b bs h x y e = h (b ∷ x) y (ap (λ l. b ∷ l) e)

not_here : (b : ℕ) (bs rest : List ℕ) → NoEnd (b ∷ bs) → ((b == 42) && (get_or (bs ++ (42 ∷ (47 ∷ rest))) 0 0 == 47)) ≡ false
not_here b [] rest h = false_from_ne_true _ (λ e. false≢true (second_so (b == 42) _ e))
not_here b (c ∷ bs) rest h =
    false_from_ne_true _ (λ e. h [] bs (here b c bs (eqb-true b 42 (first_so (b == 42) _ e)) (eqb-true c 47 (second_so (b == 42) _ e))))
  where
    here : (b c : ℕ) (bs : List ℕ) → b ≡ 42 → c ≡ 47 → b ∷ (c ∷ bs) ≡ [] ++ (codes "*/" ++ bs)
    here b c bs e f = rw (e, f) refl

pub block_is : (body rest : List ℕ) → NoEnd body → block_len (body ++ (42 ∷ (47 ∷ rest))) ≡ Some (length body + 2)
block_is [] rest h = refl
block_is (b ∷ bs) rest h =
    rw (not_here b bs rest h, block_is bs rest (no_end_more b bs h)) (let n : (length bs + 2) + 1 ≡ length (b ∷ bs) + 2 = omega arith in ap Some n)

-- what is found is a body and its end
pub record IsBody (l : List ℕ) (n : ℕ) : Type 0 where
  pub body : List ℕ
  pub is : take n l ≡ body ++ codes "*/"
  pub no_end : NoEnd body
  pub within : n ≤ length l
  pub long : n ≡ length body + 2

abbrev pub FoundBody : List ℕ → Option ℕ → Type 0
FoundBody l None = Unit {0}
FoundBody l (Some n) = IsBody l n

no_end_nil : NoEnd []
no_end_nil [] y e = absurd cc
no_end_nil (b ∷ x) y e = absurd cc

no_end_cons : (b : ℕ) (bs rest : List ℕ) → ((b == 42) && (get_or (bs ++ (codes "*/" ++ rest)) 0 0 == 47)) ≡ false → NoEnd bs → NoEnd (b ∷ bs)
no_end_cons b bs rest other h (d ∷ x) y e = h x y (ap (λ l. drop 1 l) e)
no_end_cons b bs rest other h [] y e =
    let first : b ≡ 42 = ap (λ l. get_or l 0 0) e in
    let next : bs ≡ 47 ∷ y = ap (λ l. drop 1 l) e in
    false≢true (sym other ∙ rw (first, next) refl)

body_more : (b : ℕ) (bs : List ℕ) → ((b == 42) && (get_or bs 0 0 == 47)) ≡ false → (o : Option ℕ) → FoundBody bs o → FoundBody (b ∷ bs) (option_map (λ n. n + 1) o)
body_more b bs other None h = tt
body_more b bs other (Some n) h = record {
  body = b ∷ h.body;
  is = rw add-one (ap (λ l. b ∷ l) h.is);
  no_end = no_end_cons b h.body (drop n bs) (rw front_is at other) h.no_end;
  within = omega (arith, h.within);
  long = omega (arith, h.long);
}
  where
    front_is : get_or bs 0 0 ≡ get_or (h.body ++ (codes "*/" ++ drop n bs)) 0 0
    front_is = ap (λ l. get_or l 0 0) (sym (take-append-drop n bs) ∙ (ap (λ w. w ++ drop n bs) h.is ∙ append_assoc h.body (codes "*/") (drop n bs)))

body_here : (b : ℕ) (bs : List ℕ) → ((b == 42) && (get_or bs 0 0 == 47)) ≡ true → IsBody (b ∷ bs) 2
body_here b [] e = absurd (false≢true (second_so (b == 42) _ e))
body_here b (c ∷ bs) e = record {
  body = [];
  is = two b c (eqb-true b 42 (first_so (b == 42) _ e)) (eqb-true c 47 (second_so (b == 42) _ e));
  no_end = no_end_nil;
  within = omega arith;
  long = refl;
}
  where
    two : (b c : ℕ) → b ≡ 42 → c ≡ 47 → b ∷ (c ∷ []) ≡ [] ++ codes "*/"
    two b c e f = rw (e, f) refl

pub block_right : (l : List ℕ) → FoundBody l (block_len l)
block_right [] = tt
block_right (b ∷ bs) =
    cond_both ((b == 42) && (get_or bs 0 0 == 47)) _ _ (FoundBody (b ∷ bs))
    (λ e. body_here b bs e)
    (λ e. body_more b bs e _ (block_right bs))
