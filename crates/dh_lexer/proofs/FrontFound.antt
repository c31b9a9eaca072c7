-- `front_of` finds the piece that the text begins with, and no other. What it finds stands there, by
-- its tests in their order. A piece that stands in front of a text is found: a space and a comment
-- by their first bytes, and a token as it begins with neither.
use Rattle.std.proofs.Common.{◌≡◌, ℕ, ◌+◌, ◌<◌, ◌≤◌, true, false, List, [], ◌∷◌, ◌++◌, length, get_or, take, drop, ◌&&◌, ◌==◌, inl, inr, refl, ap, sym, ◌∙◌, subst, arith, eqb-true, eq-eqb, codes, Option, Some, None, option_map, drop-drop, append_assoc, length-append}
use Rattle.std.specs.List.{AllByRecursion}
use Rattle.std.specs.Cmp.{first_so, second_so}
use Rattle.std.proofs.Math.Seq.{take-add}
use Rattle.std.proofs.lemmas.Bool.{cond_both, false≢true, false_from_ne_true}
use Rattle.std.proofs.lemmas.List.Sums.{prefix_len-le-length}
use Rattle.dh_lexer.specs.Pieces.{IsSpace, BeginsWithout, InLine, BeginsComment, IsLongest, Piece, gap, token, bytes, Stands}
use Rattle.dh_lexer.specs.FrontPiece.{is_space, is_in_line, line_len, block_len, gap_of, front_token, token_of, sign, long_sign, short_sign, front_of}
use Rattle.dh_lexer.proofs.Runs.{spaces_tell, line_is, line_all, line_stops}
use Rattle.dh_lexer.proofs.TokensFound.{Right, token_right, token_is_found, token_stands, token_no_space}
use Rattle.dh_lexer.proofs.GapsFound.{FoundBody, block_is, block_right}
use Rattle.dh_lexer.specs.declared.fronts.Front.{Front}
use Rattle.dh_lexer.specs.declared.fronts.Front.TheVariants as front
use Rattle.dh_lexer.specs.declared.tokens.TokenKind.{TokenKind}

-- a piece, by what it is and by its bytes
abbrev pub piece : Front → List ℕ → Piece
piece front.Gap w = gap w
piece (front.Token k) w = token k w

abbrev pub front_is : Piece → Front
front_is (gap w) = front.Gap
front_is (token k w) = front.Token k

-- the piece of n bytes stands in front of the text
pub record Fronts (l : List ℕ) (x : Front) (n : ℕ) : Type 0 where
  pub stands : Stands (piece x (take n l)) (drop n l)
  pub filled : 0 < n
  pub within : n ≤ length l

abbrev pub FoundFront : List ℕ → Option (Front × ℕ) → Type 0
FoundFront l None = Unit {0}
FoundFront l (Some p) = Fronts l p.0 p.1

-- comments
line_fronts : (u : List ℕ) (n : ℕ) → n ≡ line_len u → Fronts (47 ∷ (47 ∷ u)) front.Gap (2 + n)
line_fronts u n e = record {
  stands = inr (inl (record {
    body = take n u;
    spelled = take-add 2 n (47 ∷ (47 ∷ u));
    line = rw e (line_all u);
    ends = subst (BeginsWithout InLine) (ap (λ m. drop m u) (sym e) ∙ drop-drop n 2 (47 ∷ (47 ∷ u))) (line_stops u);
  }));
  filled = omega arith;
  within = let h = prefix_len-le-length is_in_line u in omega (arith, e, h);
}

line_right : (b : ℕ) (t : List ℕ) → ((b == 47) && (get_or t 0 0 == 47)) ≡ true → Fronts (b ∷ t) front.Gap (2 + line_len (drop 2 (b ∷ t)))
line_right b [] e = absurd (false≢true (second_so (b == 47) _ e))
line_right b (c ∷ u) e =
    subst (λ (x : ℕ). Fronts (x ∷ (c ∷ u)) front.Gap (2 + line_len u)) (sym (eqb-true b 47 (first_so (b == 47) _ e)))
    (subst (λ (y : ℕ). Fronts (47 ∷ (y ∷ u)) front.Gap (2 + line_len u)) (sym (eqb-true c 47 (second_so (b == 47) _ e)))
    (line_fronts u (line_len u) refl))

block_fronts : (u : List ℕ) (o : Option ℕ) → FoundBody u o → FoundFront (47 ∷ (42 ∷ u)) (option_map (λ n. gap_of (2 + n)) o)
block_fronts u None h = tt
block_fronts u (Some n) h = record {
  stands = inr (inr (record {
    body = h.body;
    spelled = take-add 2 n (47 ∷ (42 ∷ u)) ∙ ap (λ w. codes "/*" ++ w) h.is;
    next = h.no_end;
  }));
  filled = omega arith;
  within = omega (arith, h.within);
}

comment_right : (b : ℕ) (t : List ℕ) → ((b == 47) && (get_or t 0 0 == 42)) ≡ true
    → FoundFront (b ∷ t) (option_map (λ n. gap_of (2 + n)) (block_len (drop 2 (b ∷ t))))
comment_right b [] e = absurd (false≢true (second_so (b == 47) _ e))
comment_right b (c ∷ u) e =
    subst (λ (x : ℕ). FoundFront (x ∷ (c ∷ u)) (option_map (λ n. gap_of (2 + n)) (block_len u))) (sym (eqb-true b 47 (first_so (b == 47) _ e)))
    (subst (λ (y : ℕ). FoundFront (47 ∷ (y ∷ u)) (option_map (λ n. gap_of (2 + n)) (block_len u))) (sym (eqb-true c 42 (second_so (b == 47) _ e)))
    (block_fronts u _ (block_right u)))

-- the tests for comments
begins_test : (a b c : ℕ) → a ≡ 47 → b ≡ c → ((a == 47) && (b == c)) ≡ true
begins_test a b c e f = rw (eq-eqb a 47 e, eq-eqb b c f) refl

no_comment : (l : List ℕ) → ((get_or l 0 0 == 47) && (get_or l 1 0 == 47)) ≡ false → ((get_or l 0 0 == 47) && (get_or l 1 0 == 42)) ≡ false → BeginsComment l → ⊥
no_comment l e f (first, inl line) = false≢true (sym e ∙ begins_test (get_or l 0 0) (get_or l 1 0) 47 first line)
no_comment l e f (first, inr block) = false≢true (sym f ∙ begins_test (get_or l 0 0) (get_or l 1 0) 42 first block)

no_line : (l : List ℕ) → (BeginsComment l → ⊥) → ((get_or l 0 0 == 47) && (get_or l 1 0 == 47)) ≡ false
no_line l plain =
    false_from_ne_true _ (λ e. plain (eqb-true (get_or l 0 0) 47 (first_so (get_or l 0 0 == 47) _ e), inl (eqb-true (get_or l 1 0) 47 (second_so (get_or l 0 0 == 47) _ e))))

no_block : (l : List ℕ) → (BeginsComment l → ⊥) → ((get_or l 0 0 == 47) && (get_or l 1 0 == 42)) ≡ false
no_block l plain =
    false_from_ne_true _ (λ e. plain (eqb-true (get_or l 0 0) 47 (first_so (get_or l 0 0 == 47) _ e), inr (eqb-true (get_or l 1 0) 42 (second_so (get_or l 0 0 == 47) _ e))))

-- what is found stands in front
token_fronts : (l : List ℕ) → (BeginsComment l → ⊥) → (o : Option (TokenKind × ℕ)) → token_of l ≡ o → Right l o → FoundFront l (option_map front_token o)
token_fronts l plain None e h = tt
token_fronts l plain (Some p) e h = record { stands = token_stands l p.0 p.1 h e plain; filled = h.filled; within = h.within }

space_fronts : (b : ℕ) (t : List ℕ) → IsSpace b → Fronts (b ∷ t) front.Gap 1
space_fronts b t space = record { stands = inl (b, (refl, space)); filled = omega arith; within = omega arith }

pub front_right : (l : List ℕ) → FoundFront l (front_of l)
unfolding front_of token_of sign long_sign short_sign
front_right [] = tt
front_right (b ∷ t) =
    cond_both (is_space b) _ _ (FoundFront (b ∷ t))
    (λ e. space_fronts b t ((spaces_tell b).0 e))
    (λ _. cond_both ((b == 47) && (get_or t 0 0 == 47)) _ _ (FoundFront (b ∷ t))
    (λ e. line_right b t e)
    (λ e. cond_both ((b == 47) && (get_or t 0 0 == 42)) _ _ (FoundFront (b ∷ t))
    (λ f. comment_right b t f)
    (λ f. token_fronts (b ∷ t) (no_comment (b ∷ t) e f) _ refl (token_right b t))))

-- what stands in front is found
line_found : (body more : List ℕ) → AllByRecursion InLine body → BeginsWithout InLine more
    → front_of ((codes "//" ++ body) ++ more) ≡ Some (front.Gap, length (codes "//" ++ body))
unfolding front_of
line_found body more all stop =
    let n : 2 + line_len (body ++ more) ≡ length (codes "//" ++ body) = omega (arith, line_is body more all stop) in
    ap (λ m. Some (gap_of m)) n

block_found : (body more : List ℕ) → ((x y : List ℕ) → body ≡ x ++ (codes "*/" ++ y) → ⊥)
    → front_of ((codes "/*" ++ (body ++ codes "*/")) ++ more) ≡ Some (front.Gap, length (codes "/*" ++ (body ++ codes "*/")))
unfolding front_of
block_found body more next =
    let n : 2 + (length body + 2) ≡ length (codes "/*" ++ (body ++ codes "*/")) = omega (arith, length-append body (codes "*/")) in
    ap (λ l. option_map (λ n. gap_of (2 + n)) (block_len l)) (append_assoc body (codes "*/") more)
    ∙ (ap (λ o. option_map (λ n. gap_of (2 + n)) o) (block_is body more next) ∙ ap (λ m. Some (gap_of m)) n)

space_found : (b : ℕ) (more : List ℕ) → IsSpace b → front_of (b ∷ more) ≡ Some (front.Gap, 1)
unfolding front_of
space_found b more space = rw ((spaces_tell b).1 space) refl

token_found : (k : TokenKind) (w more : List ℕ) → IsLongest k w more → front_of (w ++ more) ≡ Some (front.Token k, length w)
unfolding front_of
token_found k w more h =
    rw (token_no_space k w more h.spelled, no_line (w ++ more) h.plain, no_block (w ++ more) h.plain, token_is_found k w more h) refl

pub front_found : (p : Piece) (more : List ℕ) → Stands p more → front_of (bytes p ++ more) ≡ Some (front_is p, length (bytes p))
front_found (gap w) more (inl (b, (is, space))) = rw is (space_found b more space)
front_found (gap w) more (inr (inl h)) = rw h.spelled (line_found h.body more h.line h.ends)
front_found (gap w) more (inr (inr h)) = rw h.spelled (block_found h.body more h.next)
front_found (token k w) more h = token_found k w more h

pub front_of_nil : front_of [] ≡ None
unfolding front_of token_of sign long_sign short_sign
front_of_nil = refl
