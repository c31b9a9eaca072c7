-- The breach that is kept while breaches are gone through is the least of them. Breaches are ordered by
-- line, then column, then rule; so what precedes one that does not follow another precedes that one.
use Rattle.std.proofs.Common.{◌≡◌, ℕ, zero, suc, ◌<◌, ◌⊎◌, inl, inr, ◌||◌, ◌&&◌, ◌==◌, nat_lt, Bool, true, false, if◌then◌else◌, List, [], ◌∷◌, length, get_or, Some, None, refl, sym, ap, ◌∙◌, subst, arith}
use Rattle.std.specs.Prelude.{Contains}
use Rattle.std.proofs.lemmas.Bool.{cases_lt}
use Rattle.std.proofs.lemmas.Bool.Decides.{nat_tests}
use Rattle.dh_base.specs.declared.rules.Rule.{Rule}
use Rattle.dh_base.specs.declared.rules.Rule.TheVariants.{Lex, Syntax, Unsupported, UnknownName, NameTwice, TypeMismatch, WidthLost, BankDivides, UnrollDivides, BankUnroll, DynamicBank, ConstantRange, ViewFactor, MemoryPlace, OuterWrite, DivergentSteps, Reducer, CallShape, PortsSpent, ReadAfterWrite}
use Rattle.dh_base.specs.Rules.{number_of}
use Rattle.dh_tree.specs.declared.breaches.Breach.{Breach}
use Rattle.dh_tree.specs.LeastBreach.{Precedes, precedes, IsLeast, least_of}

-- the order of three numbers
abbrev Below : (l c n l' c' n' : ℕ) → Type 0
Below l c n l' c' n' = (l < l') ⊎ ((l ≡ l') × ((c < c') ⊎ ((c ≡ c') × (n < n'))))

abbrev below : (l c n l' c' n' : ℕ) → Bool
below l c n l' c' n' = nat_lt l l' || (l == l' && (nat_lt c c' || (c == c' && nat_lt n n')))

below_is : (l c n l' c' n' : ℕ) → Below l c n l' c' n' → below l c n l' c' n' ≡ true
below_is l c n l' c' n' (inl a) = grind (arith, nat_tests)
below_is l c n l' c' n' (inr (e, inl a)) = grind (arith, nat_tests)
below_is l c n l' c' n' (inr (e, inr (f, a))) = grind (arith, nat_tests)

below_never : (l c n : ℕ) → below l c n l c n ≡ true → ⊥
below_never l c n h = grind (arith, nat_tests)

below_then : (l c n l' c' n' k d m : ℕ) → below l c n l' c' n' ≡ true → below l' c' n' k d m ≡ true → below l c n k d m ≡ true
below_then l c n l' c' n' k d m h j = grind (arith, nat_tests)

below_not : (l c n l' c' n' k d m : ℕ) → below l c n k d m ≡ true → below l' c' n' k d m ≡ false → below l c n l' c' n' ≡ true
below_not l c n l' c' n' k d m h j = grind (arith, nat_tests)

-- the same of breaches
comes_first : (a b : Breach) → Precedes a b → precedes a b ≡ true
comes_first a b h = below_is a.place.line a.place.column (number_of a.rule) b.place.line b.place.column (number_of b.rule) h

first_then : (a b c : Breach) → precedes a b ≡ true → precedes b c ≡ true → precedes a c ≡ true
first_then a b c =
    below_then a.place.line a.place.column (number_of a.rule) b.place.line b.place.column (number_of b.rule) c.place.line c.place.column (number_of c.rule)

first_not : (a b c : Breach) → precedes a c ≡ true → precedes b c ≡ false → precedes a b ≡ true
first_not a b c =
    below_not a.place.line a.place.column (number_of a.rule) b.place.line b.place.column (number_of b.rule) c.place.line c.place.column (number_of c.rule)

never_itself : (a : Breach) → precedes a a ≡ true → ⊥
never_itself a = below_never a.place.line a.place.column (number_of a.rule)

-- elements of a list, from its front on
at_front : (b : Breach) (bs : List Breach) → Contains (b ∷ bs) b
at_front b bs = (0, omega arith, refl)

further_on : (b c : Breach) (bs : List Breach) → Contains bs c → Contains (b ∷ bs) c
further_on b c bs h = (suc h.0, (let l = h.1 in omega arith), h.2)

from_front : (b c : Breach) (bs : List Breach) → Contains (b ∷ bs) c → (b ≡ c) ⊎ Contains bs c
from_front b c bs (zero, l, e) = inl e
from_front b c bs (suc k, l, e) = inr (k, (let z : suc k < suc (length bs) = l in omega arith), e)

-- the least of a breach and of others
record First (k : Breach) (bs : List Breach) (r : Breach) : Type 0 where
  among : (r ≡ k) ⊎ Contains bs r
  kept : precedes k r ≡ true → ⊥
  least : (o : Breach) → Contains bs o → precedes o r ≡ true → ⊥

not_true : (t : Bool) → (t ≡ true → ⊥) → t ≡ false
not_true true h = absurd (h refl)
not_true false h = refl

first_by : (k b r : Breach) (bs : List Breach) → (least_of (Some b) bs ≡ Some r → First b bs r) → (least_of (Some k) bs ≡ Some r → First k bs r)
    → (t : Bool) → precedes b k ≡ t → least_of (if t then Some b else Some k) bs ≡ Some r → First k (b ∷ bs) r
first_by k b r bs with_b with_k true p e =
    let f = with_b e in
    record {
      among = elim f.among [ inl same ↦ inr (subst (λ (x : Breach). Contains (b ∷ bs) x) (sym same) (at_front b bs)) | inr c ↦ inr (further_on b r bs c) ];
      kept = λ h. f.kept (first_then b k r p h);
      least = λ o c h. elim (from_front b o bs c) [
        | inl same ↦ f.kept (subst (λ (x : Breach). precedes x r ≡ true) (sym same) h)
        | inr later ↦ f.least o later h
      ];
    }
first_by k b r bs with_b with_k false p e =
    let f = with_k e in
    record {
      among = elim f.among [ inl same ↦ inl same | inr c ↦ inr (further_on b r bs c) ];
      kept = f.kept;
      least = λ o c h. elim (from_front b o bs c) [
        | inl same ↦ (let own : precedes b r ≡ true = subst (λ (x : Breach). precedes x r ≡ true) (sym same) h in
            let now = first_not b k r own (not_true (precedes k r) f.kept) in
            let both : true ≡ false = sym now ∙ p in cc)
        | inr later ↦ f.least o later h
      ];
    }

first_of : (k : Breach) (bs : List Breach) (r : Breach) → least_of (Some k) bs ≡ Some r → First k bs r
first_of k [] r e =
    let same : ◌≡◌ {A = Breach} r k = cc in
    record { among = inl same; kept = λ h. never_itself r (subst (λ (x : Breach). precedes x r ≡ true) (sym same) h); least = λ o c h. absurd (let z : c.0 < 0 = c.1 in omega arith) }
first_of k (b ∷ bs) r e = first_by k b r bs (first_of b bs r) (first_of k bs r) (precedes b k) refl e

never_none : (k : Breach) (bs : List Breach) → least_of (Some k) bs ≡ None → ⊥
never_none k [] e = cc
never_none k (b ∷ bs) e = by (never_none b bs) (never_none k bs) (precedes b k) e
  where
    by : (least_of (Some b) bs ≡ None → ⊥) → (least_of (Some k) bs ≡ None → ⊥) → (t : Bool) → least_of (if t then Some b else Some k) bs ≡ None → ⊥
    by h j true e = h e
    by h j false e = j e

pub none_is_kept : (bs : List Breach) → least_of None bs ≡ None → bs ≡ []
none_is_kept [] e = refl
none_is_kept (b ∷ bs) e = absurd (never_none b bs e)

pub least_is_kept : (bs : List Breach) (r : Breach) → least_of None bs ≡ Some r → IsLeast bs r
least_is_kept [] r e = cc
least_is_kept (b ∷ bs) r e =
    let f = first_of b bs r e in
    record {
      among = elim f.among [ inl same ↦ subst (λ (x : Breach). Contains (b ∷ bs) x) (sym same) (at_front b bs) | inr c ↦ further_on b r bs c ];
      least = λ o c h. elim (from_front b o bs c) [
        | inl same ↦ f.kept (subst (λ (x : Breach). precedes x r ≡ true) (sym same) (comes_first o r h))
        | inr later ↦ f.least o later (comes_first o r h)
      ];
    }

-- a rule is told by its number
abbrev rule_at : ℕ → Rule
rule_at n = get_or (Lex ∷ (Lex ∷ (Syntax ∷ (Unsupported ∷ (UnknownName ∷ (NameTwice ∷ (TypeMismatch ∷ (WidthLost ∷ (BankDivides ∷ (UnrollDivides ∷ (BankUnroll ∷ (DynamicBank ∷ (ConstantRange ∷ (ViewFactor ∷ (MemoryPlace ∷ (OuterWrite ∷ (DivergentSteps ∷ (Reducer ∷ (CallShape ∷ (PortsSpent ∷ (ReadAfterWrite ∷ []))))))))))))))))))))) n Lex

told : (r : Rule) → rule_at (number_of r) ≡ r
told Lex = refl
told Syntax = refl
told Unsupported = refl
told UnknownName = refl
told NameTwice = refl
told TypeMismatch = refl
told WidthLost = refl
told BankDivides = refl
told UnrollDivides = refl
told BankUnroll = refl
told DynamicBank = refl
told ConstantRange = refl
told ViewFactor = refl
told MemoryPlace = refl
told OuterWrite = refl
told DivergentSteps = refl
told Reducer = refl
told CallShape = refl
told PortsSpent = refl
told ReadAfterWrite = refl

one_rule : (r q : Rule) → number_of r ≡ number_of q → r ≡ q
one_rule r q e = sym (told r) ∙ (ap rule_at e ∙ told q)

not_less : (m n : ℕ) → (m < n → ⊥) → (n < m → ⊥) → m ≡ n
not_less m n h k = elim (cases_lt m n) [ inl l ↦ absurd (h l) | inr g ↦ elim (cases_lt n m) [ inl l ↦ absurd (k l) | inr f ↦ omega arith ] ]

abbrev breach_of : Rule → ℕ → ℕ → Breach
breach_of r line column = record { rule = r; place = record { line = line; column = column } }

-- two least breaches are one
pub least_is_one : (bs : List Breach) (a b : Breach) → IsLeast bs a → IsLeast bs b → a ≡ b
least_is_one bs a b h k =
    let line = not_less a.place.line b.place.line (λ l. k.least a h.among (inl l)) (λ l. h.least b k.among (inl l)) in
    let column = not_less a.place.column b.place.column (λ l. k.least a h.among (inr (line, inl l))) (λ l. h.least b k.among (inr (sym line, inl l))) in
    let number = not_less (number_of a.rule) (number_of b.rule) (λ l. k.least a h.among (inr (line, inr (column, l)))) (λ l. h.least b k.among (inr (sym line, inr (sym column, l)))) in
    ap (λ r. breach_of r a.place.line a.place.column) (one_rule a.rule b.rule number)
    ∙ (ap (λ l. breach_of b.rule l a.place.column) line
    ∙ ap (λ c. breach_of b.rule b.place.line c) column)

pub least_not_none : (bs : List Breach) (a : Breach) → IsLeast bs a → bs ≡ [] → ⊥
least_not_none [] a h e = let l : h.among.0 < 0 = h.among.1 in omega arith
least_not_none (b ∷ bs) a h e = cc
