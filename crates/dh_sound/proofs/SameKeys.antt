-- Reads of one access with one key lead to one element. The key of a read is the list of its copy numbers at the
-- levels on which its indices depend, so that two paths of one length with equal keys have one copy number at each
-- of these levels: by induction over the paths, of which each picked level gives the next number of the key. What
-- a part of the indices depends on, the whole depends on, too; so each variable in them has one value at the two
-- paths, and, by induction over the indices, so have the indices, the reads in them among them.
use Rattle.std.proofs.Common.{◌≡◌, ℕ, zero, suc, ◌+◌, ◌<◌, ◌||◌, Bool, true, false, if◌then◌else◌, List, [], ◌∷◌, length, refl, ◌∙◌, ap, arith, sym}
use Rattle.std.specs.Prelude.{slice_index_or, Option, ℤ}
use Rattle.dh_value.specs.Words as words
use Rattle.dh_value.specs.Words.{word_of}
use Rattle.dh_tree.specs.PlainTrees.{Term, term, number, truth_value, named, accessed, in_bank, applied, converted, Terms, no_terms, term_then}
use Rattle.dh_meaning.specs.AccessNumbers.{term_accesses}
use Rattle.dh_meaning.specs.Bindings.{kind_or_first, kind_found}
use Rattle.dh_meaning.specs.CoreOf.{Known, core_term, core_terms}
use Rattle.dh_meaning.specs.Effects.{Begun, Variables, value_of_term, values_of, spot_by_row}
use Rattle.dh_meaning.specs.Paths.{Path}
use Rattle.dh_meets.specs.Charges.{entity_depends, term_depends, terms_depend, element_depends, depends, picked, key_of}
use Rattle.dh_meets.specs.SourceEvents.{Element, with_indices, in_row, SourceAccess}
use Rattle.dh_sound.specs.SameKeys.{CopiesAgree, IsSettledName, EachName, EachNameOf, EachNameIn}
use Rattle.dh_sound.proofs.SourceValues.{operation_same, accessed_is, memory_at, read_value, source_spot, spot_named}
use Rattle.dh_meaning.specs.Ways.{way_at}
use Rattle.dh_ways.specs.SpotsThrough.{spot_to, offsets_at}

-- Keys.

-- paths with equal picked numbers agree at each level that is picked
pub picked_agree : (picks : ℕ → Bool) (level : ℕ) (p q : Path) → length p ≡ length q → picked picks level p ≡ picked picks level q
    → (l : ℕ) → l < length p → picks (level + l) ≡ true → slice_index_or p l 0 ≡ slice_index_or q l 0
picked_agree picks level [] q n e l small is = let none : ⊥ = omega (arith, small) in elim none [ ]
picked_agree picks level (c ∷ p) [] n e l small is = let none : ⊥ = omega (arith, n) in elim none [ ]
picked_agree picks level (c ∷ p) (d ∷ q) n e l small is =
    at l small is (by (picks level) (picked picks (suc level) p) (picked picks (suc level) q) e) (picked_agree picks (suc level) p q (omega (arith, n)))
  where
    by : (t : Bool) (xs ys : List ℕ) → (if t then c ∷ xs else xs) ≡ (if t then d ∷ ys else ys) → (xs ≡ ys) × (t ≡ true → c ≡ d)
    by true xs ys e = (cc, λ h. cc)
    by false xs ys e = (e, λ h. cc)

    at : (l : ℕ) → l < suc (length p) → picks (level + l) ≡ true → (picked picks (suc level) p ≡ picked picks (suc level) q) × (picks level ≡ true → c ≡ d)
        → (picked picks (suc level) p ≡ picked picks (suc level) q → (l : ℕ) → l < length p → picks (suc level + l) ≡ true → slice_index_or p l 0 ≡ slice_index_or q l 0)
        → slice_index_or (c ∷ p) l 0 ≡ slice_index_or (d ∷ q) l 0
    at zero small is both more = both.1 (ap picks (omega arith) ∙ is)
    at (suc l) small is both more = more both.0 l (omega (arith, small)) (ap picks (omega arith) ∙ is)

-- equal keys agree at each level on which the access depends
pub keys_agree : (known : Known) (a : SourceAccess) (p q : Path) → length p ≡ length q → key_of known.bindings a p ≡ key_of known.bindings a q → CopiesAgree (depends known.bindings a) p q
keys_agree known a p q n e l small is = picked_agree (depends known.bindings a) 0 p q n e l small (ap (depends known.bindings a) (omega arith) ∙ is)

-- Parts.

-- paths that agree where a whole depends agree where a part does
pub agree_less : (whole part : ℕ → Bool) (p q : Path) → ((l : ℕ) → part l ≡ true → whole l ≡ true) → CopiesAgree whole p q → CopiesAgree part p q
agree_less whole part p q more a l small is = a l small (more l is)

or_left : (x y : Bool) → x ≡ true → (x || y) ≡ true
or_left true y e = refl
or_left false y e = cc

pub or_right : (x y : Bool) → y ≡ true → (x || y) ≡ true
or_right true y e = refl
or_right false y e = e

pub agree_left : (one two : ℕ → Bool) (p q : Path) → CopiesAgree (λ l. one l || two l) p q → CopiesAgree one p q
agree_left one two p q a = agree_less (λ l. one l || two l) one p q (λ l e. or_left (one l) (two l) e) a

pub agree_right : (one two : ℕ → Bool) (p q : Path) → CopiesAgree (λ l. one l || two l) p q → CopiesAgree two p q
agree_right one two p q a = agree_less (λ l. one l || two l) two p q (λ l e. or_right (one l) (two l) e) a

-- Values.
module _ (b : Begun) (known : Known) (v w : Variables) (p q : Path)
    (still : (entity : Option ℕ) → CopiesAgree (λ l. entity_depends known.bindings l entity) p q → offsets_at b v p (way_at known.memories known.ways entity) ≡ offsets_at b w q (way_at known.memories known.ways entity)) where
  -- what is named by equal indices, by offsets that are settled
  named_same : (entity : Option ℕ) (zs ys : List ℤ) → CopiesAgree (λ l. entity_depends known.bindings l entity) p q → zs ≡ ys → spot_named b known v p entity zs ≡ spot_named b known w q entity ys
  named_same entity zs ys a e =
      ap (λ xs. spot_named b known v p entity xs) e
      ∙ ap (λ os. spot_to b.table (memory_at b known entity) (way_at known.memories known.ways entity) ys os) (still entity a)

  mutual
    pub settled_value : (n : ℕ) (t : Term) → EachName (IsSettledName known v w p q) t → CopiesAgree (λ l. term_depends known.bindings l t) p q
        → value_of_term b v p (core_term known n t) ≡ value_of_term b w q (core_term known n t)
    settled_value n (term place k (number negative x)) s a = refl
    settled_value n (term place k (truth_value x)) s a = refl
    settled_value n (term place k (named r)) s a = ap (λ z. word_of (kind_or_first k) z) (s a)
    settled_value n (term place k (accessed r ts)) s a =
        accessed_is b known v p n place k r ts
        ∙ (ap (λ x. read_value b known r.entity x)
        (named_same r.entity _ _ (agree_left (λ l. entity_depends known.bindings l r.entity) (λ l. terms_depend known.bindings l ts) p q a)
        (settled_values n ts s (agree_right (λ l. entity_depends known.bindings l r.entity) (λ l. terms_depend known.bindings l ts) p q a)))
        ∙ sym (accessed_is b known w q n place k r ts))
    settled_value n (term place k (in_bank r bank at t)) s a =
        ap (λ x. read_value b known r.entity (spot_by_row b.table (memory_at b known r.entity) bank (words.value_of x))) (settled_value n t s a)
    settled_value n (term place k (applied o l r)) s a =
        operation_same b v w p q o (kind_found l) (kind_found r) _ _ _ _
        (settled_value n l s.0 (agree_left (λ i. term_depends known.bindings i l) (λ i. term_depends known.bindings i r) p q a))
        (settled_value (n + term_accesses l) r s.1 (agree_right (λ i. term_depends known.bindings i l) (λ i. term_depends known.bindings i r) p q a))
    settled_value n (term place k (converted t to)) s a = ap (λ x. word_of to (words.value_of x)) (settled_value n t s a)

    pub settled_values : (n : ℕ) (ts : Terms) → EachNameOf (IsSettledName known v w p q) ts → CopiesAgree (λ l. terms_depend known.bindings l ts) p q
        → values_of b v p (core_terms known n ts) ≡ values_of b w q (core_terms known n ts)
    settled_values n no_terms s a = refl
    settled_values n (term_then t ts) s a =
        ap (λ x. words.value_of x ∷ values_of b v p (core_terms known (n + term_accesses t) ts))
        (settled_value n t s.0 (agree_left (λ i. term_depends known.bindings i t) (λ i. terms_depend known.bindings i ts) p q a))
        ∙ ap (λ zs. words.value_of (value_of_term b w q (core_term known n t)) ∷ zs)
        (settled_values (n + term_accesses t) ts s.1 (agree_right (λ i. term_depends known.bindings i t) (λ i. terms_depend known.bindings i ts) p q a))

  -- an access whose indices are settled leads to one element at paths that agree where it depends
  pub settled_spot : (of : Option ℕ) (e : Element) → CopiesAgree (λ l. entity_depends known.bindings l of) p q → EachNameIn (IsSettledName known v w p q) e → CopiesAgree (λ l. element_depends known.bindings l e) p q
      → source_spot b known v p of e ≡ source_spot b known w q of e
  settled_spot of (with_indices ts) o s a = named_same of _ _ o (settled_values 0 ts s a)
  settled_spot of (in_row bank t) o s a = ap (λ x. spot_by_row b.table (memory_at b known of) bank (words.value_of x)) (settled_value 0 t s a)

  -- reads of one access with one key lead to one element
  pub same_keys : (a : SourceAccess) → a.writes ≡ false → length p ≡ length q → key_of known.bindings a p ≡ key_of known.bindings a q → EachNameIn (IsSettledName known v w p q) a.element
      → source_spot b known v p a.entity a.element ≡ source_spot b known w q a.entity a.element
  same_keys a reads n e s =
      settled_spot a.entity a.element
      (agree_less (depends known.bindings a) (λ l. entity_depends known.bindings l a.entity) p q (λ l h. or_right a.writes _ (or_left (entity_depends known.bindings l a.entity) (element_depends known.bindings l a.element) h)) (keys_agree known a p q n e))
      s
      (agree_less (depends known.bindings a) (λ l. element_depends known.bindings l a.element) p q (λ l h. or_right a.writes _ (or_right (entity_depends known.bindings l a.entity) (element_depends known.bindings l a.element) h)) (keys_agree known a p q n e))
