-- What is known of a view, at a point of the text inside unrolled loops of given factors: its way leads to a memory of its
-- kind, and keeps as many offsets as its views take, in variables that are declared inside the first of these loops. So an
-- access through it, by as many indices as it has dimensions, suits, and names variables so.
use Rattle.std.proofs.Common.{◌≡◌, ℕ, suc, ◌+◌, ◌≤◌, nat_lt, Bool, true, false, if◌then◌else◌, List, [], ◌∷◌, ◌++◌, length, take, Option, Some, None, refl, ap, sym, ◌∙◌, subst, arith, length-append}
use Rattle.std.proofs.lemmas.List.{take-append-le}
use Rattle.std.specs.Prelude.{slice_get}
use Rattle.std.specs.List.{AllByRecursion}
use Rattle.std.specs.Option.{is_some}
use Rattle.std.proofs.lemmas.Option.{slice_get_within}
use Rattle.dh_value.specs.declared.kinds.Kind.{Kind}
use Rattle.dh_value.specs.Words.{IsKind}
use Rattle.dh_tree.specs.declared.tables.Dim.{Dim}
use Rattle.dh_tree.specs.declared.tables.MemEntry.{MemEntry}
use Rattle.dh_tree.specs.declared.trees.counters.Counter.{Counter}
use Rattle.dh_tree.specs.declared.trees.expressions.Ref.{Ref}
use Rattle.dh_tree.specs.declared.viewing.Viewed.{Viewed}
use Rattle.dh_tree.specs.Elements.{dims_at, entry_dims}
use Rattle.dh_tree.specs.Memories.{entry_of, number_in}
use Rattle.dh_tree.specs.Scopes.{entity_number}
use Rattle.dh_tree.specs.Views.{view_in}
use Rattle.dh_meaning.specs.Core.{CoreTerms, no_terms, term_and, count_terms}
use Rattle.dh_meaning.specs.CoreOf.{Known, kept_terms, memory_of, target_to, terms_both, way_of}
use Rattle.dh_meaning.specs.Effects.{entry_kind, kind_in}
use Rattle.dh_meaning.specs.Ways.{Hidden, WayStep, Way, base_of, way_at, way_in, way_unless}
use Rattle.dh_ways.specs.Leading.{KeepsOffsets, LeadsTo, offsets_on}
use Rattle.dh_code.specs.Declarations.{factors_inside}
use Rattle.dh_code.specs.Passing.{StepsFit}
use Rattle.dh_code.specs.Slots.{Placing}
use Rattle.dh_code.specs.Suited.{AllInside, AreSuited, IsInside, IsSuitedTarget, TargetInside}
use Rattle.dh_runnable.specs.ActionsRun.{table_known}
use Rattle.dh_runnable.proofs.ElementsFound.{IsElement, number_found}

-- what the rules on indices and views speak of: loops, views, and those of them that keep the rules
pub record Rules : Type 0 where
  pub counters : List Counter
  pub views : List Viewed
  pub kept : List Viewed

-- all ways lead to memories, keep their offsets, and are those of views
pub record AreGoodWays (known : Known) (views : List Viewed) : Type 0 where
  pub lead : (e : Option ℕ) (w : Way) → way_in known.ways e ≡ Some w → LeadsTo known.memories w
  pub keep : (e : Option ℕ) (w : Way) → way_in known.ways e ≡ Some w → KeepsOffsets w
  pub seen : (e : Option ℕ) (w : Way) → way_in known.ways e ≡ Some w → is_some (view_in views e) ≡ true

-- a variable that keeps an offset has a kind, and is declared inside the first of these loops
pub record IsKept (p : Placing) (loops : List ℕ) (h : Hidden) : Type 0 where
  pub sized : IsKind h.kind
  pub inside : IsInside p loops h.depth h.entity

abbrev pub AreKept : Placing → (loops : List ℕ) → List Hidden → Type 0
AreKept p loops hs = AllByRecursion (λ h. IsKept p loops h) hs

-- an entity is a view of this kind, of so many dimensions
pub record IsView (known : Known) (p : Placing) (loops : List ℕ) (n : ℕ) (k : Option Kind) (dims : ℕ) : Type 0 where
  pub way : Way
  pub is : way_at known.memories known.ways (Some n) ≡ Some way
  pub kind : k ≡ Some way.is.shape.kind
  pub sized : IsKind way.is.shape.kind
  pub long : dims ≡ length way.is.shape.dims
  pub leads : LeadsTo known.memories way
  pub same : way.is.shape.kind ≡ leads.memory.shape.kind
  pub offsets : KeepsOffsets way
  pub kept : AreKept p loops way.hidden

-- Inside one more loop.

take_more : (d : ℕ) (loops : List ℕ) (factor : ℕ) → d ≤ length loops → take d (factors_inside loops factor) ≡ take d loops
take_more d loops factor l = by (nat_lt 1 factor)
  where
    by : (b : Bool) → take d (if b then loops ++ factor ∷ [] else loops) ≡ take d loops
    by true = take-append-le d loops (factor ∷ []) l
    by false = refl

long_more : (d : ℕ) (loops : List ℕ) (factor : ℕ) → d ≤ length loops → d ≤ length (factors_inside loops factor)
long_more d loops factor l = by (nat_lt 1 factor)
  where
    by : (b : Bool) → d ≤ length (if b then loops ++ factor ∷ [] else loops)
    by true = let e = length-append loops (factor ∷ []) in omega (arith, l, e)
    by false = l

pub inside_more : (p : Placing) (loops : List ℕ) (factor depth n : ℕ) → IsInside p loops depth n → IsInside p (factors_inside loops factor) depth n
inside_more p loops factor depth n h = record {
  known = h.known;
  deep = long_more depth loops factor h.deep;
  held = h.held;
  round = h.round ∙ sym (take_more depth loops factor h.deep);
}

kept_more : (p : Placing) (loops : List ℕ) (factor : ℕ) (hs : List Hidden) → AreKept p loops hs → AreKept p (factors_inside loops factor) hs
kept_more p loops factor [] a = tt
kept_more p loops factor (h ∷ hs) a = (record { sized = a.0.sized; inside = inside_more p loops factor h.depth h.entity a.0.inside }, kept_more p loops factor hs a.1)

pub view_more : (known : Known) (p : Placing) (loops : List ℕ) (factor n : ℕ) (k : Option Kind) (dims : ℕ) → IsView known p loops n k dims → IsView known p (factors_inside loops factor) n k dims
view_more known p loops factor n k dims v = record {
  way = v.way;
  is = v.is;
  kind = v.kind;
  sized = v.sized;
  long = v.long;
  leads = v.leads;
  same = v.same;
  offsets = v.offsets;
  kept = kept_more p loops factor v.way.hidden v.kept;
}

-- Indices, and behind them the offsets that are kept.

count_both : (ts us : CoreTerms) → count_terms (terms_both ts us) ≡ count_terms ts + count_terms us
count_both no_terms us = none (count_terms us)
  where
    none : (n : ℕ) → n ≡ 0 + n
    none n = omega arith
count_both (term_and t ts) us = one (count_terms (terms_both ts us)) (count_terms ts) (count_terms us) (count_both ts us)
  where
    one : (n a b : ℕ) → n ≡ a + b → suc n ≡ suc a + b
    one n a b e = omega (arith, e)

count_kept : (hs : List Hidden) → count_terms (kept_terms hs) ≡ length hs
count_kept [] = refl
count_kept (h ∷ hs) = ap suc (count_kept hs)

-- as many as views take
taken : (ss : List WayStep) → offsets_on ss ≡ offsets_on ss
taken [] = refl
taken (s ∷ ss) = ap (λ n. s.offsets + n) (taken ss)

suited_both : (table : List MemEntry) (ts us : CoreTerms) → AreSuited table ts → AreSuited table us → AreSuited table (terms_both ts us)
suited_both table no_terms us h i = i
suited_both table (term_and t ts) us h i = (h.0, suited_both table ts us h.1 i)

inside_both : (p : Placing) (loops : List ℕ) (ts us : CoreTerms) → AllInside p loops ts → AllInside p loops us → AllInside p loops (terms_both ts us)
inside_both p loops no_terms us h i = i
inside_both p loops (term_and t ts) us h i = (h.0, inside_both p loops ts us h.1 i)

kept_suited : (table : List MemEntry) (p : Placing) (loops : List ℕ) (hs : List Hidden) → AreKept p loops hs → AreSuited table (kept_terms hs)
kept_suited table p loops [] a = tt
kept_suited table p loops (h ∷ hs) a = (a.0.sized, kept_suited table p loops hs a.1)

kept_inside : (p : Placing) (loops : List ℕ) (hs : List Hidden) → AreKept p loops hs → AllInside p loops (kept_terms hs)
kept_inside p loops [] a = tt
kept_inside p loops (h ∷ hs) a = (a.0.inside, kept_inside p loops hs a.1)

-- Accesses.

-- an access of what a name stands for, by so many indices, suits where they do, and names variables inside these loops
pub record IsReached (known : Known) (p : Placing) (loops : List ℕ) (r : Ref) (k : Kind) (dims : ℕ) : Type 0 where
  pub kind : kind_in (table_known known) (memory_of known r) ≡ k
  pub suits : (ts : CoreTerms) → count_terms ts ≡ dims → AreSuited (table_known known) ts → IsSuitedTarget (table_known known) (memory_of known r) (target_to (way_of known r) ts)
  pub inside : (ts : CoreTerms) → AllInside p loops ts → TargetInside p loops (target_to (way_of known r) ts)

module _ (known : Known) (p : Placing) (loops : List ℕ) where
  -- the number of the memory behind a way
  abbrev memory_by : Option Way → Option ℕ → ℕ
  memory_by w entity = entity_number (number_in known.memories (base_of w entity))

  -- an access of a memory
  pub memory_reached : (r : Ref) (k : Kind) (dims : ℕ) → IsElement known.memories r k → IsReached known p loops r k dims
  memory_reached r k dims h =
      let way : way_of known r ≡ None = ap (λ o. way_unless o (way_in known.ways r.entity)) h.there in
      record {
        kind = ap (λ o. kind_in (table_known known) (memory_by o r.entity)) way ∙ h.kind;
        suits = λ ts c s. subst (λ (o : Option Way). IsSuitedTarget (table_known known) (memory_by o r.entity) (target_to o ts)) (sym way) (h.within, s);
        inside = λ ts i. subst (λ (o : Option Way). TargetInside p loops (target_to o ts)) (sym way) i;
      }

  -- the views on a way fit as many indices as the view has dimensions, and the offsets that are kept
  views_fit : (n : ℕ) (k : Option Kind) (dims : ℕ) (v : IsView known p loops n k dims) (ts : CoreTerms) → count_terms ts ≡ dims
      → StepsFit v.leads.memory.shape.dims v.way.steps (count_terms ts) (count_terms (terms_both ts (kept_terms v.way.hidden)))
  views_fit n k dims v ts c = record {
    are = v.offsets.each;
    lead = v.leads.steps;
    named = c ∙ (v.long ∙ sym (ap (λ (ds : List Dim). length ds) v.leads.first));
    all = count_both ts (kept_terms v.way.hidden) ∙ ap (λ m. count_terms ts + m) (count_kept v.way.hidden ∙ (v.offsets.many ∙ taken v.way.steps));
  }

  -- an access through views
  pub view_reached : (n : ℕ) (r : Ref) (k : Option Kind) (dims : ℕ) → r.entity ≡ Some n → (v : IsView known p loops n k dims) → IsReached known p loops r v.way.is.shape.kind dims
  view_reached n r k dims e v =
      let at = number_found known.memories v.way.memory v.leads.memory v.leads.found in
      let way : way_of known r ≡ Some v.way = ap (λ o. way_at known.memories known.ways o) e ∙ v.is in
      let number : memory_by (Some v.way) r.entity ≡ at.number = ap entity_number at.is in
      let entry : slice_get (table_known known) (memory_by (Some v.way) r.entity) ≡ Some (entry_of v.leads.memory) = ap (slice_get (table_known known)) number ∙ at.entry in
      let memory_dims : dims_at (table_known known) (memory_by (Some v.way) r.entity) ≡ v.leads.memory.shape.dims = ap entry_dims entry in
      record {
        kind = ap (λ o. kind_in (table_known known) (memory_by o r.entity)) way ∙ (ap entry_kind entry ∙ sym v.same);
        suits = λ ts c s. subst (λ (o : Option Way). IsSuitedTarget (table_known known) (memory_by o r.entity) (target_to o ts)) (sym way) (
          slice_get_within (table_known known) (memory_by (Some v.way) r.entity) (entry_of v.leads.memory) entry,
          (
            subst (λ (ds : List Dim). StepsFit ds v.way.steps (count_terms ts) (count_terms (terms_both ts (kept_terms v.way.hidden)))) (sym memory_dims) (views_fit n k dims v ts c),
            suited_both (table_known known) ts (kept_terms v.way.hidden) s (kept_suited (table_known known) p loops v.way.hidden v.kept),
          ),
        );
        inside = λ ts i. subst (λ (o : Option Way). TargetInside p loops (target_to o ts)) (sym way) (inside_both p loops ts (kept_terms v.way.hidden) i (kept_inside p loops v.way.hidden v.kept));
      }
