-- The tokens of a text end with the end alone, each holds what it may, and each but the end takes a
-- byte: by recursion on the pieces. No spelling is that of the end, and the tables hold neither names
-- nor numbers, by a test of each entry.
use Rattle.std.proofs.Common.{◌≡◌, ℕ, ◌+◌, ◌^◌, ◌<◌, ◌≤◌, Bool, true, false, List, [], ◌∷◌, ◌++◌, length, inl, inr, refl, ap, ◌∙◌, subst, arith, length-append}
use Rattle.std.specs.List.{list_all}
use Rattle.std.proofs.lemmas.Bool.{false≢true}
use Rattle.dh_tree.specs.Names.{IsName}
use Rattle.dh_base.specs.declared.places.Place.{Place}
use Rattle.dh_lexer.specs.Spellings.{Entry, Lists, words, dashes, long_signs, short_signs}
use Rattle.dh_lexer.specs.Pieces.{SpellsToken, Piece, gap, token, Cuts}
use Rattle.dh_lexer.specs.LexedText.{token_placed, place_after_bytes, tokens_among, HasTokens, IsSoundToken, AreEnded, AreReadyTokens}
use Rattle.dh_lexer.proofs.TableLooks.{listed_pass}
use Rattle.dh_lexer.proofs.TokensFound.{spelled_some}
use Rattle.dh_lexer.specs.declared.tokens.Token.{Token}
use Rattle.dh_lexer.specs.declared.tokens.TokenKind.{TokenKind}
use Rattle.dh_lexer.specs.declared.tokens.TokenKind.TheVariants as kind

-- neither a name, nor a number, nor the end
abbrev is_fixed : TokenKind → Bool
is_fixed (kind.Name _) = false
is_fixed (kind.Number _) = false
is_fixed kind.End = false
is_fixed _ = true

abbrev has_fixed : Entry → Bool
has_fixed e = is_fixed e.1

record IsInner (k : TokenKind) : Type 0 where
  going : k ≡ kind.End → ⊥
  sound : IsSoundToken k

fixed_sound : (k : TokenKind) → is_fixed k ≡ true → IsSoundToken k
fixed_sound (kind.Name n) e = absurd (false≢true e)
fixed_sound (kind.Number n) e = absurd (false≢true e)
fixed_sound _ e = tt

fixed_inner : (k : TokenKind) → is_fixed k ≡ true → IsInner k
fixed_inner k e = record { going = λ same. false≢true (subst (λ (j : TokenKind). is_fixed j ≡ true) same e); sound = fixed_sound k e }

listed_inner : (es : List Entry) (w : List ℕ) (k : TokenKind) → list_all has_fixed es ≡ true → Lists es w k → IsInner k
listed_inner es w k all l = fixed_inner k (listed_pass has_fixed es w k all l)

name_inner : (n : List ℕ) → IsName n → IsInner (kind.Name n)
name_inner n name = record { going = λ e. absurd cc; sound = name }

number_inner : (n : ℕ) → n < 2 ^ 64 → IsInner (kind.Number n)
number_inner n small = record { going = λ e. absurd cc; sound = small }

spelled_inner : (k : TokenKind) (w : List ℕ) → SpellsToken k w → IsInner k
spelled_inner k w (inl (inl l)) = listed_inner dashes w k refl l
spelled_inner k w (inl (inr (inl l))) = listed_inner long_signs w k refl l
spelled_inner k w (inl (inr (inr l))) = listed_inner short_signs w k refl l
spelled_inner k w (inr (inl l)) = listed_inner words w k refl l
spelled_inner k w (inr (inr (inl (is, name)))) = rw is (name_inner w name)
spelled_inner k w (inr (inr (inr (n, (is, writes))))) = rw is (number_inner n writes.0)

ended_more : (t : Token) (ts : List Token) → IsInner t.kind → AreEnded ts → AreEnded (t ∷ ts)
ended_more t [] inner ended = absurd ended
ended_more t (u ∷ ts) inner ended = (inner.going, (inner.sound, ended))

are_ended : (before text : List ℕ) (ps : List Piece) (r : List ℕ) (place : Place) → Cuts text ps r → AreEnded (tokens_among before ps ++ token_placed kind.End place ∷ [])
are_ended before text [] r place c = refl
are_ended before text (gap w ∷ ps) r place (more, (is, (stands, c))) = are_ended (before ++ w) more ps r place c
are_ended before text (token k w ∷ ps) r place (more, (is, (stands, c))) =
    ended_more (token_placed k (place_after_bytes before)) _ (spelled_inner k w stands.spelled) (are_ended (before ++ w) more ps r place c)

are_few : (before text : List ℕ) (ps : List Piece) (r : List ℕ) → Cuts text ps r → length (tokens_among before ps) ≤ length text
are_few before text [] r c = omega arith
are_few before text (gap w ∷ ps) r (more, (is, (stands, c))) =
    let rest = are_few (before ++ w) more ps r c in
    let long : length text ≡ length w + length more = ap (λ (l : List ℕ). length l) is ∙ length-append w more in
    omega (arith, rest, long)
are_few before text (token k w ∷ ps) r (more, (is, (stands, c))) =
    let rest = are_few (before ++ w) more ps r c in
    let long : length text ≡ length w + length more = ap (λ (l : List ℕ). length l) is ∙ length-append w more in
    omega (arith, rest, long, spelled_some k w stands.spelled)

pub are_ready : (text : List ℕ) (tokens : List Token) → HasTokens text tokens → AreReadyTokens text tokens
are_ready text tokens h =
    rw h.are (record {
      few = let n = are_few [] text h.pieces [] h.cut in omega (arith, n, length-append (tokens_among [] h.pieces) (token_placed kind.End (place_after_bytes text) ∷ []));
      ended = are_ended [] text h.pieces [] (place_after_bytes text) h.cut;
    })
