-- The place behind a piece: a line feed is a piece of its own, and of the pieces that begin with
-- neither a line feed nor a `/` none has one, since no token and no space but it has; so their bytes
-- are counted along the line.
use Rattle.std.proofs.Common.{◌≡◌, ℕ, zero, suc, ◌+◌, ◌<◌, ◌≤◌, ◌==◌, Bool, true, false, List, [], ◌∷◌, length, get_or, take, drop, inl, inr, refl, ap, sym, ◌∙◌, subst, arith, eqb-true, add-zero, Option, Some}
use Rattle.std.specs.List.{AllByRecursion, list_all}
use Rattle.std.specs.Cmp.{first_so, second_so}
use Rattle.std.proofs.lemmas.Bool.{false_from_ne_true}
use Rattle.std.proofs.lemmas.List.{length-take-le}
use Rattle.dh_base.specs.declared.places.Place.{Place}
use Rattle.dh_tree.specs.Names.{IsNameByte}
use Rattle.dh_lexer.specs.Spellings.{Entry, dashes, long_signs, short_signs}
use Rattle.dh_lexer.specs.Pieces.{SpellsToken, InLine, IsGap, Stands}
use Rattle.dh_lexer.specs.FrontPiece.{is_in_line, is_space, front_of}
use Rattle.dh_lexer.specs.LexedText.{text_place, next_place, place_from, length_found}
use Rattle.dh_lexer.proofs.Runs.{in_line_tells, spaces_tell}
use Rattle.dh_lexer.proofs.TableLooks.{listed_pass}
use Rattle.dh_lexer.proofs.WordsSpelled.{run_names}
use Rattle.dh_lexer.proofs.FrontFound.{piece, Fronts, FoundFront, front_right}
use Rattle.dh_lexer.proofs.FoundKept.{some_where, space_front}
use Rattle.dh_lexer.specs.declared.fronts.Front.{Front}
use Rattle.dh_lexer.specs.declared.fronts.Front.TheVariants as front
use Rattle.dh_lexer.specs.declared.tokens.TokenKind.{TokenKind}

-- no spelling has a line feed
abbrev in_a_line : Entry → Bool
in_a_line e = list_all is_in_line e.0

all_in_line : (w : List ℕ) → list_all is_in_line w ≡ true → AllByRecursion InLine w
all_in_line [] e = tt
all_in_line (b ∷ w) e = ((in_line_tells b).0 (first_so (is_in_line b) _ e), all_in_line w (second_so (is_in_line b) _ e))

name_in_line : (b : ℕ) → IsNameByte b → b ≡ 10 → ⊥
name_in_line b name e = grind (arith, name, e)

names_in_line : (w : List ℕ) → AllByRecursion IsNameByte w → AllByRecursion InLine w
names_in_line [] names = tt
names_in_line (b ∷ w) names = (name_in_line b names.0, names_in_line w names.1)

spelled_in_line : (k : TokenKind) (w : List ℕ) → SpellsToken k w → AllByRecursion InLine w
spelled_in_line k w (inl (inl l)) = all_in_line w (listed_pass in_a_line dashes w k refl l)
spelled_in_line k w (inl (inr (inl l))) = all_in_line w (listed_pass in_a_line long_signs w k refl l)
spelled_in_line k w (inl (inr (inr l))) = all_in_line w (listed_pass in_a_line short_signs w k refl l)
spelled_in_line k w (inr r) = names_in_line w (run_names k w r).names

gap_in_line : (w rest : List ℕ) → IsGap w rest → (get_or w 0 0 ≡ 47 → ⊥) → (get_or w 0 0 ≡ 10 → ⊥) → AllByRecursion InLine w
gap_in_line w rest (inl (b, (is, space))) no_slash no_feed = rw is ((λ e. no_feed (ap (λ v. get_or v 0 0) is ∙ e)), tt)
gap_in_line w rest (inr (inl h)) no_slash no_feed = absurd (no_slash (ap (λ v. get_or v 0 0) h.spelled))
gap_in_line w rest (inr (inr h)) no_slash no_feed = absurd (no_slash (ap (λ v. get_or v 0 0) h.spelled))

front_kept : (l : List ℕ) (n : ℕ) → 0 < n → get_or (take n l) 0 0 ≡ get_or l 0 0
front_kept [] zero filled = refl
front_kept [] (suc n) filled = refl
front_kept (b ∷ l) zero filled = absurd (omega (arith, filled))
front_kept (b ∷ l) (suc n) filled = refl

stands_in_line : (l : List ℕ) (x : Front) (n : ℕ) → Stands (piece x (take n l)) (drop n l) → 0 < n → (get_or l 0 0 ≡ 47 → ⊥) → (get_or l 0 0 ≡ 10 → ⊥)
    → AllByRecursion InLine (take n l)
stands_in_line l (front.Token k) n stands filled no_slash no_feed = spelled_in_line k (take n l) stands.spelled
stands_in_line l front.Gap n stands filled no_slash no_feed =
    let same = front_kept l n filled in
    gap_in_line (take n l) (drop n l) stands (λ e. no_slash (sym same ∙ e)) (λ e. no_feed (sym same ∙ e))

found_in_line : (l : List ℕ) (n : ℕ) → n ≡ length_found (front_of l) → 0 < n → (get_or l 0 0 ≡ 47 → ⊥) → (get_or l 0 0 ≡ 10 → ⊥) → AllByRecursion InLine (take n l)
found_in_line l n e filled no_slash no_feed =
    let f = some_where (front_of l) n e filled in
    let h : Fronts l f.0 n = subst (FoundFront l) (sym f.1) (front_right l) in
    stands_in_line l f.0 n h.stands filled no_slash no_feed

-- along a line
along_line : (p : Place) (w : List ℕ) → AllByRecursion InLine w → text_place p.line (p.column + length w) ≡ place_from p w
along_line p [] all = ap (text_place p.line) (add-zero p.column)
along_line p (b ∷ w) all =
    let other : (b == 10) ≡ false = false_from_ne_true (b == 10) (λ e. all.0 (eqb-true b 10 e)) in
    let far : p.column + length (b ∷ w) ≡ (p.column + 1) + length w = omega arith in
    rw other (ap (text_place p.line) far ∙ along_line (text_place p.line (p.column + 1)) w all.1)

pub place_along : (p : Place) (l : List ℕ) (n : ℕ) → n ≡ length_found (front_of l) → 0 < n → n ≤ length l → (get_or l 0 0 ≡ 47 → ⊥) → (get_or l 0 0 ≡ 10 → ⊥)
    → text_place p.line (p.column + n) ≡ place_from p (take n l)
place_along p l n e filled within no_slash no_feed =
    let long : length (take n l) ≡ n = length-take-le n l within in
    ap (λ m. text_place p.line (p.column + m)) (sym long) ∙ along_line p (take n l) (found_in_line l n e filled no_slash no_feed)

-- a line feed
some_length : (n : ℕ) (o : Option (Front × ℕ)) (x : Front) (m : ℕ) → Some (x, m) ≡ o → n ≡ length_found o → n ≡ m
some_length n o x m e is = is ∙ ap length_found (sym e)

one_byte : (p : Place) (l : List ℕ) → 0 < length l → place_from p (take 1 l) ≡ next_place p (get_or l 0 0)
one_byte p [] filled = absurd (omega (arith, filled))
one_byte p (b ∷ l) filled = refl

feed_is_space : (b : ℕ) → b ≡ 10 → is_space b ≡ true
feed_is_space b e = (spaces_tell b).1 (inr (inr (inl e)))

pub place_below : (p : Place) (l : List ℕ) (n : ℕ) → n ≡ length_found (front_of l) → 0 < length l → get_or l 0 0 ≡ 10
    → next_place p (get_or l 0 0) ≡ place_from p (take n l)
place_below p l n is filled feed =
    let one : n ≡ 1 = some_length n (front_of l) front.Gap 1 (space_front l (feed_is_space (get_or l 0 0) feed)) is in
    sym (one_byte p l filled) ∙ ap (λ m. place_from p (take m l)) (sym one)
