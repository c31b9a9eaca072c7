-- A read that shares an earlier one stands with it in one Straight phase: the list of accesses has the earlier one in
-- front, it is no write, and one phase has both. By induction over the events, of which those before are searched.
use Rattle.std.proofs.Common.{◌≡◌, ℕ, zero, suc, ◌+◌, ◌<◌, ◌&&◌, not, Bool, true, false, if◌then◌else◌, List, [], ◌∷◌, ◌++◌, length, slice_get, Some, refl, sym, ap, ◌∙◌, subst, arith, append_assoc, append-nil}
use Rattle.std.proofs.lemmas.List.{length-append}
use Rattle.dh_tree.specs.PlainTrees.{Program}
use Rattle.dh_meaning.specs.OnePhase.{in_one_phase}
use Rattle.dh_meets.specs.Sharing.{equal_reads, shares_with, share_among, share_in, shared}
use Rattle.dh_meets.specs.SourceEvents.{SourceAccess, SourceEvent, accesses, assigned, accesses_in, trace}

-- what is known of a read of number j that one of number k shares
pub record IsShared (p : Program) (all : List SourceAccess) (j k : ℕ) : Type 0 where
  pub read : SourceAccess
  pub there : slice_get all j ≡ Some read
  pub reads : read.writes ≡ false
  pub phase : in_one_phase p j k ≡ true

both_true : (x y : Bool) → (x && y) ≡ true → (x ≡ true) × (y ≡ true)
both_true true y e = (refl, e)
both_true false y e = cc

is_no : (x : Bool) → not x ≡ true → x ≡ false
is_no true e = cc
is_no false e = refl

pub accesses_append : (es fs : List SourceEvent) → accesses_in (es ++ fs) ≡ accesses_in es ++ accesses_in fs
accesses_append [] fs = refl
accesses_append (accesses a ∷ es) fs = ap (λ l. a ∷ l) (accesses_append es fs)
accesses_append (assigned x ∷ es) fs = accesses_append es fs

pub in_front : {A : Type 0} (xs ys : List A) (i : ℕ) (x : A) → slice_get xs i ≡ Some x → slice_get (xs ++ ys) i ≡ Some x
in_front [] ys i x e = cc
in_front (z ∷ xs) ys zero x e = e
in_front (z ∷ xs) ys (suc i) x e = in_front xs ys i x e

pub within : {A : Type 0} (xs : List A) (i : ℕ) (x : A) → slice_get xs i ≡ Some x → i < length xs
within [] i x e = cc
within (z ∷ xs) zero x e = omega arith
within (z ∷ xs) (suc i) x e = let l = within xs i x e in omega (arith, l)

-- of those that are searched, from number n on
record IsAmong (p : Program) (n : ℕ) (all : List SourceAccess) (j k : ℕ) : Type 0 where
  index : ℕ
  number : j ≡ n + index
  read : SourceAccess
  there : slice_get all index ≡ Some read
  reads : read.writes ≡ false
  phase : in_one_phase p j k ≡ true

is_among : (p : Program) (n : ℕ) (es : List SourceEvent) (k : ℕ) (b : SourceAccess) (j : ℕ) → share_among p n es k b ≡ Some j → IsAmong p n (accesses_in es) j k
is_among p n [] k b j e = cc
is_among p n (assigned x ∷ es) k b j e = is_among p n es k b j e
is_among p n (accesses a ∷ es) k b j e = by (shares_with p n a es k b) refl e (λ f. next (is_among p (suc n) es k b j f))
  where
    next : IsAmong p (suc n) (accesses_in es) j k → IsAmong p n (a ∷ accesses_in es) j k
    next h = record { index = suc h.index; number = let i = h.number in omega (arith, i); read = h.read; there = h.there; reads = h.reads; phase = h.phase }

    by : (t : Bool) → shares_with p n a es k b ≡ t → (if t then Some n else share_among p (suc n) es k b) ≡ Some j
        → (share_among p (suc n) es k b ≡ Some j → IsAmong p n (a ∷ accesses_in es) j k) → IsAmong p n (a ∷ accesses_in es) j k
    by true s e more =
        let same : n ≡ j = cc in
        let both = both_true (equal_reads a b && in_one_phase p n k) _ s in
        let first = both_true (equal_reads a b) (in_one_phase p n k) both.0 in
        record {
          index = 0;
          number = omega (arith, same);
          read = a;
          there = refl;
          reads = is_no a.writes (both_true (not a.writes) (not b.writes) (both_true (not a.writes && not b.writes) _ first.0).0).0;
          phase = ap (λ x. in_one_phase p x k) (sym same) ∙ first.1;
        }
    by false s e more = more e

-- it is in front of the one that shares it
record IsBefore (p : Program) (all : List SourceAccess) (limit j k : ℕ) : Type 0 where
  shared_is : IsShared p all j k
  before : j < limit

is_before : (p : Program) (done es : List SourceEvent) (k behind j : ℕ) → share_in p done es k behind ≡ Some j
    → IsBefore p (accesses_in (done ++ es)) (length (accesses_in done) + behind) j k
is_before p done [] k behind j e = cc
is_before p done (assigned x ∷ es) k behind j e =
    let counted : length (accesses_in (done ++ assigned x ∷ [])) ≡ length (accesses_in done) =
    ap length (accesses_append done (assigned x ∷ []) ∙ append-nil (accesses_in done)) in
    subst (λ (l : List SourceEvent). IsBefore p (accesses_in l) (length (accesses_in done) + behind) j k) (append_assoc done (assigned x ∷ []) es)
    (subst (λ (n : ℕ). IsBefore p (accesses_in ((done ++ assigned x ∷ []) ++ es)) (n + behind) j k) counted (is_before p (done ++ assigned x ∷ []) es k behind j e))
is_before p done (accesses a ∷ es) k zero j e =
    let h = is_among p 0 done k a j e in
    let there : slice_get (accesses_in done) j ≡ Some h.read = let i = h.number in ap (slice_get (accesses_in done)) (let same : j ≡ h.index = omega (arith, i) in same) ∙ h.there in
    record {
      shared_is = record {
        read = h.read;
        there = ap (λ l. slice_get l j) (accesses_append done (accesses a ∷ es)) ∙ in_front (accesses_in done) (accesses_in (accesses a ∷ es)) j h.read there;
        reads = h.reads;
        phase = h.phase;
      };
      before = let l = within (accesses_in done) j h.read there in omega (arith, l);
    }
is_before p done (accesses a ∷ es) k (suc behind) j e =
    let counted : length (accesses_in (done ++ accesses a ∷ [])) ≡ length (accesses_in done) + 1 =
    ap length (accesses_append done (accesses a ∷ [])) ∙ length-append (accesses_in done) (a ∷ []) in
    let same : length (accesses_in (done ++ accesses a ∷ [])) + behind ≡ length (accesses_in done) + suc behind = omega (arith, counted) in
    subst (λ (l : List SourceEvent). IsBefore p (accesses_in l) (length (accesses_in done) + suc behind) j k) (append_assoc done (accesses a ∷ []) es)
    (subst (λ (n : ℕ). IsBefore p (accesses_in ((done ++ accesses a ∷ []) ++ es)) n j k) same (is_before p (done ++ accesses a ∷ []) es k behind j e))

-- the read that a read shares is one of the program
pub shared_there : (p : Program) (j k : ℕ) → shared p k ≡ Some j → IsShared p (accesses_in (trace p)) j k
shared_there p j k e = (is_before p [] (trace p) k k j e).shared_is

-- and stands before it
pub shared_before : (p : Program) (j k : ℕ) → shared p k ≡ Some j → j < k
shared_before p j k e = let l = (is_before p [] (trace p) k k j e).before in omega (arith, l)
