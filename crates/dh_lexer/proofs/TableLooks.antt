-- What a look in a table of spellings finds: a listed token, and, where no spelling stands twice,
-- each listed token. Each by recursion on the table, by the test of its first spelling. What holds
-- of all spellings of a table, by a test that is computed, holds of what it lists.
use Rattle.std.proofs.Common.{◌≡◌, ℕ, Bool, true, false, Contains, List, [], ◌∷◌, map, not, ◌&&◌, is_some, refl, ap, sym, ◌∙◌, subst, inl, inr, bytes_eq, Option, Some, None}
use Rattle.std.specs.List.{list_any, list_all}
use Rattle.std.specs.Cmp.{first_so, second_so}
use Rattle.std.proofs.lemmas.Bool.{cond_both, cases_Bool, false≢true, false_from_ne_true}
use Rattle.std.proofs.lemmas.Bool.Decides.{Decides-by_or}
use Rattle.std.proofs.lemmas.List.Elements.{Decides-contains}
use Rattle.std.proofs.lemmas.Slice.Eq.{bytes_eq-Decides}
use Rattle.dh_lexer.specs.Spellings.{Entry, Lists}
use Rattle.dh_lexer.specs.FrontPiece.{look_up}
use Rattle.dh_lexer.specs.declared.tokens.TokenKind.{TokenKind}

same_bytes : (w : List ℕ) → bytes_eq w w ≡ true
same_bytes w = (bytes_eq-Decides w w).1 refl

-- what is found is listed
abbrev FoundIn : List Entry → List ℕ → Option TokenKind → Type 0
FoundIn es w None = Unit {0}
FoundIn es w (Some k) = Lists es w k

found_more : (e : Entry) (es : List Entry) (w : List ℕ) (o : Option TokenKind) → FoundIn es w o → FoundIn (e ∷ es) w o
found_more e es w None h = tt
found_more e es w (Some k) h = inr h

look_right : (es : List Entry) (w : List ℕ) → FoundIn es w (look_up es w)
look_right [] w = tt
look_right (e ∷ es) w =
    cond_both (bytes_eq w e.0) _ _ (FoundIn (e ∷ es) w)
    (λ same. inl ((bytes_eq-Decides w e.0).0 same, refl))
    (λ _. found_more e es w _ (look_right es w))

pub look_lists : (es : List Entry) (w : List ℕ) (k : TokenKind) → look_up es w ≡ Some k → Lists es w k
look_lists es w k e = subst (FoundIn es w) e (look_right es w)

-- where nothing is found, nothing is listed
found_not : (k : TokenKind) → Some k ≡ None → ⊥
found_not k e = cc

none_first : (e : Entry) (es : List Entry) (w : List ℕ) → look_up (e ∷ es) w ≡ None → (bytes_eq w e.0 ≡ false) × (look_up es w ≡ None)
none_first e es w h =
    elim (cases_Bool (bytes_eq w e.0)) [ inl same ↦ absurd (found_not e.1 (rw same at h)) | inr other ↦ (other, (rw other at h)) ]

pub look_none : (es : List Entry) (w : List ℕ) (k : TokenKind) → look_up es w ≡ None → Lists es w k → ⊥
look_none [] w k h l = l
look_none (e ∷ es) w k h (inl (same, _)) = false≢true (sym (none_first e es w h).0 ∙ (bytes_eq-Decides w e.0).1 same)
look_none (e ∷ es) w k h (inr l) = look_none es w k (none_first e es w h).1 l

-- no spelling stands twice in the table
abbrev pub is_distinct : List Entry → Bool
is_distinct [] = true
is_distinct (e ∷ es) = not (is_some (look_up es e.0)) && is_distinct es

not_some : (o : Option TokenKind) → not (is_some o) ≡ true → o ≡ None
not_some None e = refl
not_some (Some k) e = absurd (false≢true e)

pub listed_looks : (es : List Entry) (w : List ℕ) (k : TokenKind) → is_distinct es ≡ true → Lists es w k → look_up es w ≡ Some k
listed_looks [] w k d l = absurd l
listed_looks (e ∷ es) w k d (inl (same, is)) = rw ((bytes_eq-Decides w e.0).1 same) (ap Some (sym is))
listed_looks (e ∷ es) w k d (inr l) =
    let first = not_some (look_up es e.0) (first_so _ _ d) in
    let other : bytes_eq w e.0 ≡ false =
    false_from_ne_true _ (λ same. look_none es w k (subst (λ (v : List ℕ). look_up es v ≡ None) (sym ((bytes_eq-Decides w e.0).0 same)) first) l) in
    rw other (listed_looks es w k (second_so _ _ d) l)

-- a test that all entries pass
pub listed_pass : (q : Entry → Bool) (es : List Entry) (w : List ℕ) (k : TokenKind) → list_all q es ≡ true → Lists es w k → q (w, k) ≡ true
listed_pass q [] w k all l = absurd l
listed_pass q (e ∷ es) w k all (inl (same, is)) = rw (same, is) (first_so (q e) _ all)
listed_pass q (e ∷ es) w k all (inr l) = listed_pass q es w k (second_so (q e) _ all) l

-- the spellings alone
abbrev pub spellings : List Entry → List (List ℕ)
spellings es = map (λ e. e.0) es

has_spelling : (rs : List (List ℕ)) (w : List ℕ) → Contains rs w → list_any (λ r. bytes_eq w r) rs ≡ true
has_spelling rs w h =
    (Decides-contains rs w (list_any (λ r. bytes_eq w r) rs)
    (Decides-by_or (λ r. bytes_eq w r) (λ r. r ≡ w) (λ rs. list_any (λ r. bytes_eq w r) rs) (λ r. ((λ e. sym ((bytes_eq-Decides w r).0 e)), (λ e. (bytes_eq-Decides w r).1 (sym e)))) refl (λ _ _. refl) rs)).1 h

spelling_had : (rs : List (List ℕ)) (w : List ℕ) → list_any (λ r. bytes_eq w r) rs ≡ true → Contains rs w
spelling_had rs w h =
    (Decides-contains rs w (list_any (λ r. bytes_eq w r) rs)
    (Decides-by_or (λ r. bytes_eq w r) (λ r. r ≡ w) (λ rs. list_any (λ r. bytes_eq w r) rs) (λ r. ((λ e. sym ((bytes_eq-Decides w r).0 e)), (λ e. (bytes_eq-Decides w r).1 (sym e)))) refl (λ _ _. refl) rs)).0 h

none_spelled : (es : List Entry) (w : List ℕ) → look_up es w ≡ None → list_any (λ r. bytes_eq w r) (spellings es) ≡ false
none_spelled [] w h = refl
none_spelled (e ∷ es) w h = let first = none_first e es w h in rw first.0 (none_spelled es w first.1)

listed_spelled : (es : List Entry) (w : List ℕ) (k : TokenKind) → Lists es w k → list_any (λ r. bytes_eq w r) (spellings es) ≡ true
listed_spelled [] w k l = absurd l
listed_spelled (e ∷ es) w k (inl (same, _)) = rw ((bytes_eq-Decides w e.0).1 same) refl
listed_spelled (e ∷ es) w k (inr l) =
    elim (cases_Bool (bytes_eq w e.0)) [ inl same ↦ rw same refl | inr other ↦ rw other (listed_spelled es w k l) ]

-- a spelling that is found nowhere is none of the table's, and the other way round
pub look_none_spelled : (es : List Entry) (w : List ℕ) → look_up es w ≡ None → Contains (spellings es) w → ⊥
look_none_spelled es w h c = false≢true (sym (none_spelled es w h) ∙ has_spelling (spellings es) w c)

pub listed_contained : (es : List Entry) (w : List ℕ) (k : TokenKind) → Lists es w k → Contains (spellings es) w
listed_contained es w k l = spelling_had (spellings es) w (listed_spelled es w k l)
