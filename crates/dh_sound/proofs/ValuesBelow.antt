-- What stands behind views takes its offsets below the first variable in which a later view keeps its own, and its
-- other variables are names of the program. So by variables that agree below it, it has one value and leads to one
-- element. By induction over the expression.
use Rattle.std.proofs.Common.{◌≡◌, ℕ, ◌+◌, ◌<◌, ◌≤◌, ◌&&◌, nat_le, nat_lt, false, List, [], ◌∷◌, length, take, Option, refl, sym, ap, ◌∙◌, subst, arith, ℤ}
use Rattle.std.proofs.lemmas.Bool.Decides.{nat_tests}
use Rattle.std.specs.List.{AllByRecursion}
use Rattle.dh_value.specs.Words as words
use Rattle.dh_value.specs.Words.{word_of}
use Rattle.dh_tree.specs.declared.trees.expressions.Ref.{Ref}
use Rattle.dh_tree.specs.PlainTrees.{Term, term, number, truth_value, named, accessed, in_bank, applied, converted, Terms, no_terms, term_then, Program}
use Rattle.dh_meaning.specs.AccessNumbers.{term_accesses}
use Rattle.dh_meaning.specs.Bindings.{kind_found, kind_or_first}
use Rattle.dh_meaning.specs.CoreOf.{core_term, core_terms, depth_of, entity_number, known_of}
use Rattle.dh_meaning.specs.Effects.{Begun, Variables, set_from, spot_by_row, value_of_term, values_of}
use Rattle.dh_meaning.specs.Paths.{Path}
use Rattle.dh_meaning.specs.Ways.{Hidden, hidden_in, way_to}
use Rattle.dh_meets.specs.SourceEvents.{Element, with_indices, in_row}
use Rattle.dh_ways.specs.SpotsThrough.{offsets_at, spot_to}
use Rattle.dh_ways.proofs.KeptVariables.{others_set}
use Rattle.dh_ways.proofs.TargetsOnWays.{offsets_same}
use Rattle.dh_sound.specs.BehindViews.{ElementBehind, IsOwn, TermBehind, TermsBehind, WayBelow}
use Rattle.dh_sound.proofs.SourceValues.{accessed_is, memory_at, operation_same, read_value, source_spot, source_values, spot_named}

-- variables that agree below one of them
abbrev pub AgreeBelow : (x : ℕ) → Variables → Variables → Type 0
AgreeBelow x v w = (e : ℕ) → e < x → (path : Path) → v e path ≡ w e path

-- what is kept from a variable on changes none below it
pub kept_above : (v : Variables) (x : ℕ) (path : Path) (zs : List ℤ) → AgreeBelow x v (set_from v x path zs)
kept_above v x path zs e below p = sym (others_set v e x path p zs (outside e x (length zs) below))
  where
    not_from : (e x : ℕ) → e < x → nat_le x e ≡ false
    not_from e x l = grind (arith, nat_tests, l)

    outside : (e x n : ℕ) → e < x → (nat_le x e && nat_lt e (x + n)) ≡ false
    outside e x n l = ap (λ t. t && nat_lt e (x + n)) (not_from e x l)

module _ (p : Program) (b : Begun) where
  module _ (x : ℕ) (v w : Variables) (path : Path) (agree : AgreeBelow x v w) (own : length p.entities ≤ x) where
    own_same : (r : Ref) (d : ℕ) → IsOwn p r → v (entity_number r.entity) (take d path) ≡ w (entity_number r.entity) (take d path)
    own_same r d (n, (is, within)) =
        subst (λ (o : Option ℕ). v (entity_number o) (take d path) ≡ w (entity_number o) (take d path)) (sym is) (agree n (let l = own in omega (arith, within, l)) (take d path))

    offsets_below : (entity : Option ℕ) → WayBelow p x entity → offsets_at b v path (way_to p entity) ≡ offsets_at b w path (way_to p entity)
    offsets_below entity below = offsets_same b v w path (hidden_in (way_to p entity)) (each (hidden_in (way_to p entity)) below)
      where
        each : (hs : List Hidden) → AllByRecursion (λ h. h.entity < x) hs → AllByRecursion (λ h. v h.entity (take h.depth path) ≡ w h.entity (take h.depth path)) hs
        each [] a = tt
        each (h ∷ hs) a = (agree h.entity a.0 (take h.depth path), each hs a.1)

    spot_below : (entity : Option ℕ) → WayBelow p x entity → (zs : List ℤ) → spot_named b (known_of p) v path entity zs ≡ spot_named b (known_of p) w path entity zs
    spot_below entity below zs = ap (λ os. spot_to b.table (memory_at b (known_of p) entity) (way_to p entity) zs os) (offsets_below entity below)

    mutual
      pub value_behind : (n : ℕ) (t : Term) → TermBehind p x t → value_of_term b v path (core_term (known_of p) n t) ≡ value_of_term b w path (core_term (known_of p) n t)
      value_behind n (term place k (number negative z)) h = refl
      value_behind n (term place k (truth_value z)) h = refl
      value_behind n (term place k (named r)) h = ap (λ z. word_of (kind_or_first k) z) (own_same r (depth_of (known_of p) r) h)
      value_behind n (term place k (accessed r ts)) h =
          accessed_is b (known_of p) v path n place k r ts
          ∙ (ap (λ zs. read_value b (known_of p) r.entity (spot_named b (known_of p) v path r.entity zs)) (values_behind n ts h.1)
          ∙ (ap (λ s. read_value b (known_of p) r.entity s) (spot_below r.entity h.0 (values_of b w path (core_terms (known_of p) n ts))) ∙ sym (accessed_is b (known_of p) w path n place k r ts)))
      value_behind n (term place k (in_bank r bank at t)) h =
          ap (λ z. read_value b (known_of p) r.entity (spot_by_row b.table (memory_at b (known_of p) r.entity) bank (words.value_of z))) (value_behind n t h.1)
      value_behind n (term place k (applied o l r)) h =
          operation_same b v w path path o (kind_found l) (kind_found r) _ _ _ _ (value_behind n l h.0) (value_behind (n + term_accesses l) r h.1)
      value_behind n (term place k (converted t to)) h = ap (λ z. word_of to (words.value_of z)) (value_behind n t h)

      pub values_behind : (n : ℕ) (ts : Terms) → TermsBehind p x ts → values_of b v path (core_terms (known_of p) n ts) ≡ values_of b w path (core_terms (known_of p) n ts)
      values_behind n no_terms h = refl
      values_behind n (term_then t ts) h =
          ap (λ z. words.value_of z ∷ values_of b v path (core_terms (known_of p) (n + term_accesses t) ts)) (value_behind n t h.0)
          ∙ ap (λ zs. words.value_of (value_of_term b w path (core_term (known_of p) n t)) ∷ zs) (values_behind (n + term_accesses t) ts h.1)

    pub spot_behind : (entity : Option ℕ) (e : Element) → WayBelow p x entity → ElementBehind p x e → source_spot b (known_of p) v path entity e ≡ source_spot b (known_of p) w path entity e
    spot_behind entity (with_indices ts) below h =
        ap (λ zs. spot_named b (known_of p) v path entity zs) (values_behind 0 ts h) ∙ spot_below entity below (source_values b (known_of p) w path ts)
    spot_behind entity (in_row bank t) below h = ap (λ z. spot_by_row b.table (memory_at b (known_of p) entity) bank (words.value_of z)) (value_behind 0 t h)
