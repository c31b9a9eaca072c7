-- What is found at the front of a text is kept: by its first byte, and as a turn of the lexer's loop.
use Rattle.std.proofs.Common.{◌≡◌, ℕ, ◌+◌, ◌<◌, ◌≤◌, ◌==◌, true, false, List, [], ◌++◌, length, get_or, take, drop, refl, ap, sym, ◌∙◌, subst, arith, Option, Some, None, option_map, append-nil}
use Rattle.dh_base.specs.declared.places.Place.{Place}
use Rattle.dh_lexer.specs.FrontPiece.{is_space, front_of, front_token, token_of, IsNamedToken}
use Rattle.dh_lexer.specs.LexedText.{kept, place_from, length_found, with_found, TokenIsKept}
use Rattle.dh_lexer.proofs.FrontFound.{FoundFront, front_right}
use Rattle.dh_lexer.proofs.LexedSoFar.{LexedSoFar, lexed_more, length_at}
use Rattle.dh_lexer.specs.declared.fronts.Front.{Front}
use Rattle.dh_lexer.specs.declared.fronts.Front.TheVariants as front
use Rattle.dh_lexer.specs.declared.tokens.Token.{Token}
use Rattle.dh_lexer.specs.declared.tokens.TokenKind.{TokenKind}

-- by the first byte
pub space_front : (l : List ℕ) → is_space (get_or l 0 0) ≡ true → Some (front.Gap, 1) ≡ front_of l
unfolding front_of
space_front l e = rw e refl

pub plain_front : (l : List ℕ) → is_space (get_or l 0 0) ≡ false → (get_or l 0 0 == 47) ≡ false → front_of l ≡ option_map front_token (token_of l)
unfolding front_of
plain_front l e f = rw (e, f) refl

-- answers
pub found_none : (found : Option (Front × ℕ)) (place : Place) (tokens : List Token) → None ≡ found → (0 ≡ length_found found) × (tokens ≡ with_found tokens found place)
found_none found place tokens e = subst (λ (o : Option (Front × ℕ)). (0 ≡ length_found o) × (tokens ≡ with_found tokens o place)) e (refl, refl)

pub found_some : (found : Option (Front × ℕ)) (place : Place) (old new : List Token) (x : Front) (n : ℕ) → Some (x, n) ≡ found → new ≡ old ++ kept x place
    → (n ≡ length_found found) × (new ≡ with_found old found place)
found_some found place old new x n e added = subst (λ (o : Option (Front × ℕ)). (n ≡ length_found o) × (new ≡ with_found old o place)) e (refl, added)

pub gap_kept : (tokens : List Token) (place : Place) → tokens ≡ tokens ++ kept front.Gap place
gap_kept tokens place = sym (append-nil tokens)

-- want of memory
token_kept : (k : TokenKind) (place : Place) → kept (front.Token k) place ≡ [] → ⊥
token_kept k place e = cc

pub some_kept : (found : Option (Front × ℕ)) (place : Place) (x : Front) (n : ℕ) → Some (x, n) ≡ found → (kept x place ≡ [] → ⊥) → TokenIsKept found place
some_kept found place x n e h = subst (λ (o : Option (Front × ℕ)). TokenIsKept o place) e h

pub some_token : (found : Option (Front × ℕ)) (place : Place) (k : TokenKind) (n : ℕ) → Some (front.Token k, n) ≡ found → TokenIsKept found place
some_token found place k n e = some_kept found place (front.Token k) n e (token_kept k place)

pub named_token : (found : Option (TokenKind × ℕ)) (place : Place) → IsNamedToken found → TokenIsKept (option_map front_token found) place
named_token (Some t) place h = token_kept t.0 place
named_token None place h = absurd h

-- a turn of the lexer's loop
none_where : (l : List ℕ) (found : Option (Front × ℕ)) (n : ℕ) → FoundFront l found → n ≡ length_found found → n ≡ 0 → None ≡ found
none_where l None n h e z = refl
none_where l (Some p) n h e z = absurd (omega (arith, h.filled, e, z))

pub nothing_stands : (l : List ℕ) (n : ℕ) → n ≡ length_found (front_of l) → n ≡ 0 → None ≡ front_of l
nothing_stands l n e z = none_where l (front_of l) n (front_right l) e z

-- a piece of so many bytes
abbrev at_front : Front → ℕ → Option (Front × ℕ)
at_front x n = Some (x, n)

pub some_where : (found : Option (Front × ℕ)) (n : ℕ) → n ≡ length_found found → 0 < n → (x : Front) × (Some (x, n) ≡ found)
some_where None n e s = absurd (omega (arith, e, s))
some_where (Some (x, k)) n e s = (x, ap (λ j. at_front x j) e)

pub length_taken : (text : List ℕ) (at n : ℕ) → at ≤ length text → n ≡ length_found (front_of (drop at text)) → 0 < n → (0 < n) × (at + n ≤ length text)
length_taken text at n within e s =
    let f = some_where (front_of (drop at text)) n e s in
    length_at text at f.0 n within f.1

pub front_taken : (text : List ℕ) (tokens new : List Token) (place : Place) (at n : ℕ) → LexedSoFar text tokens place at → n ≡ length_found (front_of (drop at text))
    → new ≡ with_found tokens (front_of (drop at text)) place → 0 < n → LexedSoFar text new (place_from place (take n (drop at text))) (at + n)
front_taken text tokens new place at n lexed e added s =
    let f = some_where (front_of (drop at text)) n e s in
    let is : new ≡ tokens ++ kept f.0 place = added ∙ ap (λ o. with_found tokens o place) (sym f.1) in
    subst (λ (ts : List Token). LexedSoFar text ts (place_from place (take n (drop at text))) (at + n)) (sym is) (lexed_more text tokens place at f.0 n lexed f.1)
