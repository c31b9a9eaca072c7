-- A text is cut in one way: two pieces that stand in front of a text are the same, as both are found,
-- and so are what follows them. So two cuts that end where no piece stands are the same, by recursion
-- on the pieces; nothing stands in front of the empty text, nor where a text is refused.
use Rattle.std.proofs.Common.{◌≡◌, ℕ, List, [], ◌∷◌, ◌++◌, length, take, drop, refl, ap, sym, ◌∙◌, subst, arith, Option, Some, None, unwrap_or}
use Rattle.std.proofs.Math.Seq.{take-append_seam, drop-append_seam}
use Rattle.dh_base.specs.declared.places.Place.{Place}
use Rattle.dh_lexer.specs.Pieces.{Piece, gap, token, bytes, Stands, Cuts}
use Rattle.dh_lexer.specs.LexedText.{all_bytes, tokens_among, token_placed, place_after_bytes, HasTokens, IsBreach}
use Rattle.dh_lexer.specs.FrontPiece.{front_of}
use Rattle.dh_lexer.proofs.FrontFound.{piece, front_is, front_found, front_of_nil}
use Rattle.dh_lexer.specs.declared.fronts.Front.{Front}
use Rattle.dh_lexer.specs.declared.tokens.Token.{Token}
use Rattle.dh_lexer.specs.declared.tokens.TokenKind.TheVariants as kind

-- no piece stands in front of the text
abbrev pub Stop : List ℕ → Type 0
Stop rest = (p : Piece) (more : List ℕ) → rest ≡ bytes p ++ more → Stands p more → ⊥

none_some : (x : Front × ℕ) → None ≡ Some x → ⊥
none_some x e = cc

pub stop_from : (l : List ℕ) → front_of l ≡ None → Stop l
stop_from l e p more is stands = none_some (front_is p, length (bytes p)) (sym e ∙ (ap front_of is ∙ front_found p more stands))

pub stop_nil : Stop []
stop_nil = stop_from [] front_of_nil

piece_again : (p : Piece) → piece (front_is p) (bytes p) ≡ p
piece_again (gap w) = refl
piece_again (token k w) = refl

one_piece : (p q : Piece) (m n : List ℕ) → Stands p m → Stands q n → bytes p ++ m ≡ bytes q ++ n → (p ≡ q) × (m ≡ n)
one_piece p q m n s t e =
    let found : Some (front_is p, length (bytes p)) ≡ Some (front_is q, length (bytes q)) = sym (front_found p m s) ∙ (ap front_of e ∙ front_found q n t) in
    let pair : (front_is p, length (bytes p)) ≡ (front_is q, length (bytes q)) = ap (λ (o : Option (Front × ℕ)). unwrap_or o (front_is p, length (bytes p))) found in
    let fronts : front_is p ≡ front_is q = ap (λ (x : Front × ℕ). x.0) pair in
    let long : length (bytes p) ≡ length (bytes q) = ap (λ (x : Front × ℕ). x.1) pair in
    let whole : bytes p ≡ bytes q = sym (take-append_seam (bytes p) m) ∙ (ap (λ l. take (length (bytes p)) l) e ∙ (ap (λ i. take i (bytes q ++ n)) long ∙ take-append_seam (bytes q) n)) in
    let rest : m ≡ n = sym (drop-append_seam (bytes p) m) ∙ (ap (λ l. drop (length (bytes p)) l) e ∙ (ap (λ i. drop i (bytes q ++ n)) long ∙ drop-append_seam (bytes q) n)) in
    (sym (piece_again p) ∙ (ap (λ x. piece x (bytes p)) fronts ∙ (ap (λ w. piece (front_is q) w) whole ∙ piece_again q)), rest)

both : (p q : Piece) (ps qs : List Piece) → p ≡ q → ps ≡ qs → p ∷ ps ≡ q ∷ qs
both p q ps qs e f = cc

pub one_cut : (text : List ℕ) (ps qs : List Piece) (r s : List ℕ) → Stop r → Stop s → Cuts text ps r → Cuts text qs s → (ps ≡ qs) × (r ≡ s)
one_cut text [] [] r s a b c d = (refl, sym c ∙ d)
one_cut text [] (q ∷ qs) r s a b c (more, (is, (stands, rest))) = absurd (a q more (sym c ∙ is) stands)
one_cut text (p ∷ ps) [] r s a b (more, (is, (stands, rest))) d = absurd (b p more (sym d ∙ is) stands)
one_cut text (p ∷ ps) (q ∷ qs) r s a b (m, (e, (x, c))) (n, (f, (y, d))) =
    let first = one_piece p q m n x y (sym e ∙ f) in
    let more = one_cut m ps qs r s a b c (subst (λ (t : List ℕ). Cuts t qs s) (sym first.1) d) in
    (both p q ps qs first.0 more.0, more.1)

-- the three laws
pub one_list : (text : List ℕ) (ts us : List Token) → HasTokens text ts → HasTokens text us → ts ≡ us
one_list text ts us h k =
    let same = one_cut text h.pieces k.pieces [] [] stop_nil stop_nil h.cut k.cut in
    h.are ∙ (ap (λ ps. tokens_among [] ps ++ token_placed kind.End (place_after_bytes text) ∷ []) same.0 ∙ sym k.are)

pub one_breach : (text : List ℕ) (p q : Place) → IsBreach text p → IsBreach text q → p ≡ q
one_breach text p q h k =
    let same = one_cut text h.pieces k.pieces h.rest k.rest h.none k.none h.cut k.cut in
    h.is ∙ (ap (λ ps. place_after_bytes (all_bytes ps)) same.0 ∙ sym k.is)

pub not_both : (text : List ℕ) (ts : List Token) (p : Place) → HasTokens text ts → IsBreach text p → ⊥
not_both text ts p h k =
    let same = one_cut text h.pieces k.pieces [] k.rest stop_nil k.none h.cut k.cut in
    let empty : length k.rest ≡ 0 = ap (λ (l : List ℕ). length l) (sym same.1) in
    omega (arith, empty, k.filled)
