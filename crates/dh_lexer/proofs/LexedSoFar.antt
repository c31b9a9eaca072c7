-- What is known in the middle of a text: it is cut into pieces up to here, the tokens so far are those
-- among them, and the place is that after their bytes. A piece more adds what it is at that place.
use Rattle.std.proofs.Common.{◌≡◌, ℕ, ◌+◌, ◌^◌, ◌<◌, ◌≤◌, ◌==◌, List, [], ◌∷◌, ◌++◌, length, take, drop, refl, ap, sym, ◌∙◌, subst, arith, Some, None, append_assoc, append-nil, take-append-drop, length-drop, drop-drop}
use Rattle.std.proofs.Math.Seq.{take-add}
use Rattle.std.proofs.lemmas.List.{length-take-le}
use Rattle.std.proofs.lemmas.Bool.{cond_both}
use Rattle.dh_base.specs.declared.places.Place.{Place}
use Rattle.dh_lexer.specs.Pieces.{Piece, gap, token, bytes, Stands, Cuts}
use Rattle.dh_lexer.specs.LexedText.{text_place, next_place, place_from, place_after_bytes, token_placed, kept, all_bytes, tokens_among, HasTokens, IsBreach}
use Rattle.dh_lexer.specs.FrontPiece.{front_of}
use Rattle.dh_lexer.proofs.FrontFound.{piece, Fronts, FoundFront, front_right}
use Rattle.dh_lexer.proofs.CutOnce.{stop_from}
use Rattle.dh_lexer.specs.declared.fronts.Front.{Front}
use Rattle.dh_lexer.specs.declared.fronts.Front.TheVariants as front
use Rattle.dh_lexer.specs.declared.tokens.Token.{Token}
use Rattle.dh_lexer.specs.declared.tokens.TokenKind.TheVariants as kind

-- places
pub place_more : (p : Place) (xs ys : List ℕ) → place_from p (xs ++ ys) ≡ place_from (place_from p xs) ys
place_more p [] ys = refl
place_more p (x ∷ xs) ys = place_more (next_place p x) xs ys

-- neither number grows by more than one a byte
record Near (p q : Place) (n : ℕ) : Type 0 where
  line : q.line ≤ p.line + n
  column : q.column ≤ p.column + n

next_near : (p : Place) (b : ℕ) → Near p (next_place p b) 1
next_near p b =
    cond_both (b == 10) _ _ (λ q. Near p q 1)
    (λ _. record { line = omega arith; column = omega arith })
    (λ _. record { line = omega arith; column = omega arith })

place_near : (p : Place) (bs : List ℕ) → Near p (place_from p bs) (length bs)
place_near p [] = record { line = omega arith; column = omega arith }
place_near p (b ∷ bs) =
    let one = next_near p b in
    let rest = place_near (next_place p b) bs in
    record { line = omega (arith, one.line, rest.line); column = omega (arith, one.column, rest.column) }

-- one piece more
cut_more : (text : List ℕ) (ps : List Piece) (p : Piece) (m : List ℕ) → Cuts text ps (bytes p ++ m) → Stands p m → Cuts text (ps ++ p ∷ []) m
cut_more text [] p m c s = (m, (c, (s, refl)))
cut_more text (q ∷ ps) p m (more, (is, (stands, c))) s = (more, (is, (stands, cut_more more ps p m c s)))

bytes_more : (ps : List Piece) (p : Piece) → all_bytes (ps ++ p ∷ []) ≡ all_bytes ps ++ bytes p
bytes_more [] p = append-nil (bytes p)
bytes_more (q ∷ ps) p = ap (λ w. bytes q ++ w) (bytes_more ps p) ∙ sym (append_assoc (bytes q) (all_bytes ps) (bytes p))

among_more : (before : List ℕ) (ps : List Piece) (x : Front) (w : List ℕ)
    → tokens_among before (ps ++ piece x w ∷ []) ≡ tokens_among before ps ++ kept x (place_after_bytes (before ++ all_bytes ps))
among_more before [] front.Gap w = refl
among_more before [] (front.Token k) w = ap (λ l. token_placed k (place_after_bytes l) ∷ []) (sym (append-nil before))
among_more before (gap v ∷ ps) x w =
    among_more (before ++ v) ps x w ∙ ap (λ l. tokens_among (before ++ v) ps ++ kept x (place_after_bytes l)) (append_assoc before v (all_bytes ps))
among_more before (token j v ∷ ps) x w =
    ap (λ l. token_placed j (place_after_bytes before) ∷ l)
    (among_more (before ++ v) ps x w ∙ ap (λ l. tokens_among (before ++ v) ps ++ kept x (place_after_bytes l)) (append_assoc before v (all_bytes ps)))

-- how a turn of the lexer's loop begins
pub record LexedSoFar (text : List ℕ) (tokens : List Token) (place : Place) (at : ℕ) : Type 0 where
  pub within : at ≤ length text
  pub pieces : List Piece
  pub cut : Cuts text pieces (drop at text)
  pub before : all_bytes pieces ≡ take at text
  pub taken : tokens ≡ tokens_among [] pieces
  pub stands_at : place ≡ place_after_bytes (take at text)

pub lexed_first : (text : List ℕ) → LexedSoFar text [] (text_place 1 1) 0
lexed_first text = record { within = omega arith; pieces = []; cut = refl; before = refl; taken = refl; stands_at = refl }

-- the piece that is found
pub fronts_at : (text : List ℕ) (at : ℕ) (x : Front) (n : ℕ) → Some (x, n) ≡ front_of (drop at text) → Fronts (drop at text) x n
fronts_at text at x n e = subst (FoundFront (drop at text)) (sym e) (front_right (drop at text))

pub length_at : (text : List ℕ) (at : ℕ) (x : Front) (n : ℕ) → at ≤ length text → Some (x, n) ≡ front_of (drop at text) → (0 < n) × (at + n ≤ length text)
length_at text at x n within e =
    let h = fronts_at text at x n e in (h.filled, omega (arith, h.within, length-drop at text, within))

-- there is room for the numbers of the next place
pub place_room : (text : List ℕ) (tokens : List Token) (place : Place) (at n : ℕ) → length text ≤ 1048576 → at + n ≤ length text → LexedSoFar text tokens place at
    → (place.line + n < 2 ^ 32) × (place.column + n < 2 ^ 32)
place_room text tokens place at n small long lexed =
    let near = place_near (text_place 1 1) (take at text) in
    let first : length (take at text) ≡ at = length-take-le at text lexed.within in
    rw lexed.stands_at (omega (arith, near.line, first, small, long), omega (arith, near.column, first, small, long))

piece_bytes : (x : Front) (w : List ℕ) → bytes (piece x w) ≡ w
piece_bytes front.Gap w = refl
piece_bytes (front.Token k) w = refl

-- a turn of the lexer's loop
pub lexed_more : (text : List ℕ) (tokens : List Token) (place : Place) (at : ℕ) (x : Front) (n : ℕ) → LexedSoFar text tokens place at
    → Some (x, n) ≡ front_of (drop at text) → LexedSoFar text (tokens ++ kept x place) (place_from place (take n (drop at text))) (at + n)
lexed_more text tokens place at x n lexed e =
    let h = fronts_at text at x n e in
    let taken_bytes : bytes (piece x (take n (drop at text))) ≡ take n (drop at text) = piece_bytes x (take n (drop at text)) in
    let split : drop at text ≡ bytes (piece x (take n (drop at text))) ++ drop n (drop at text) = sym (take-append-drop n (drop at text)) ∙ ap (λ l. l ++ drop n (drop at text)) (sym taken_bytes) in
    record {
      within = (length_at text at x n lexed.within e).1;
      pieces = lexed.pieces ++ piece x (take n (drop at text)) ∷ [];
      cut = subst (λ (r : List ℕ). Cuts text (lexed.pieces ++ piece x (take n (drop at text)) ∷ []) r) (drop-drop n at text)
          (cut_more text lexed.pieces (piece x (take n (drop at text))) (drop n (drop at text)) (subst (λ (r : List ℕ). Cuts text lexed.pieces r) split lexed.cut) h.stands);
      before = bytes_more lexed.pieces (piece x (take n (drop at text)))
          ∙ (ap (λ l. l ++ bytes (piece x (take n (drop at text)))) lexed.before ∙ (ap (λ l. take at text ++ l) taken_bytes ∙ sym (take-add at n text)));
      taken = ap (λ ts. ts ++ kept x place) lexed.taken
          ∙ (ap (λ q. tokens_among [] lexed.pieces ++ kept x q) (lexed.stands_at ∙ ap place_after_bytes (sym lexed.before)) ∙ sym (among_more [] lexed.pieces x (take n (drop at text))));
      stands_at = ap (λ q. place_from q (take n (drop at text))) lexed.stands_at
          ∙ (sym (place_more (text_place 1 1) (take at text) (take n (drop at text))) ∙ ap place_after_bytes (sym (take-add at n text)));
    }

-- where nothing is found
pub lexed_breach : (text : List ℕ) (tokens : List Token) (place : Place) (at : ℕ) → at < length text → LexedSoFar text tokens place at
    → None ≡ front_of (drop at text) → IsBreach text place
lexed_breach text tokens place at early lexed e = record {
  pieces = lexed.pieces;
  rest = drop at text;
  cut = lexed.cut;
  filled = omega (arith, length-drop at text);
  none = stop_from (drop at text) (sym e);
  is = lexed.stands_at ∙ ap place_after_bytes (sym lexed.before);
}

-- at the end of the text
empty_rest : (l : List ℕ) → length l ≡ 0 → l ≡ []
empty_rest [] e = refl
empty_rest (b ∷ l) e = absurd (omega (arith, e))

whole : (at : ℕ) (text : List ℕ) → length text ≤ at → take at text ≡ text
whole at text late =
    let none : length (drop at text) ≡ 0 = omega (arith, length-drop at text) in
    sym (append-nil (take at text)) ∙ (ap (λ l. take at text ++ l) (sym (empty_rest (drop at text) none)) ∙ take-append-drop at text)

pub lexed_end : (text : List ℕ) (tokens : List Token) (place : Place) (at : ℕ) → length text ≤ at → LexedSoFar text tokens place at
    → HasTokens text (tokens ++ token_placed kind.End place ∷ [])
lexed_end text tokens place at late lexed =
    let none : length (drop at text) ≡ 0 = omega (arith, length-drop at text) in
    record {
      pieces = lexed.pieces;
      cut = subst (λ (r : List ℕ). Cuts text lexed.pieces r) (empty_rest (drop at text) none) lexed.cut;
      are = ap (λ ts. ts ++ token_placed kind.End place ∷ []) lexed.taken
          ∙ ap (λ q. tokens_among [] lexed.pieces ++ token_placed kind.End q ∷ []) (lexed.stands_at ∙ ap place_after_bytes (whole at text late));
    }
