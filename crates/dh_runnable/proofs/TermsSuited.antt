-- An expression of a typed program that breaks no rule on names, kinds or indices suits its operators as it is run, has
-- the kind that was found of it, and names variables that are declared inside the first of the loops round it: variables
-- have the kinds of their declarations, and memories and banks are there. By recursion over expressions, with what
-- is known of the names that are visible; for whatever number of its first access.
use Rattle.std.proofs.Common.{◌≡◌, ℕ, suc, ◌+◌, ◌<◌, ◌&&◌, ◌==◌, inl, inr, Bool, true, false, if◌then◌else◌, List, [], ◌∷◌, ◌++◌, length, Option, Some, None, refl, ap, sym, ◌∙◌, subst, arith}
use Rattle.std.specs.List.{AllByRecursion}
use Rattle.std.specs.Option.{is_some}
use Rattle.std.proofs.lemmas.Bool.{eqb-true}
use Rattle.dh_base.specs.declared.places.Place.{Place}
use Rattle.dh_value.specs.declared.kinds.Kind.{Kind}
use Rattle.dh_value.specs.declared.kinds.Kind.TheVariants as kind
use Rattle.dh_value.specs.declared.operators.Op.{Op}
use Rattle.dh_value.specs.Words.{IsKind, IsInteger}
use Rattle.dh_tree.specs.declared.breaches.Breach.{Breach}
use Rattle.dh_tree.specs.declared.tables.MemEntry.{MemEntry}
use Rattle.dh_tree.specs.declared.trees.expressions.Ref.{Ref}
use Rattle.dh_tree.specs.Breaches.{unknown, term_breaches, terms_breaches}
use Rattle.dh_tree.specs.Indices as places
use Rattle.dh_tree.specs.Indices.{kept_dims, physical_breaches, term_index_breaches, terms_index_breaches}
use Rattle.dh_tree.specs.KindBreaches.{term_kind_breaches, indices_kind_breaches}
use Rattle.dh_tree.specs.Kinds.{Fact, of_variable, of_iterator, of_memory, of_function, Facts, fact_of, mismatch, when, is_integer, for_numbers, number_kind, is_shift, keeps_bare, is_bare, found, place_of, left_want, right_want, takes, operands_breaches, applied_kind, unless, applied_breaches, applied_found, value_kind, value_breaches, number_found, number_breaches, index_breaches, all_found, all_integer, count_of, access_breaches, access_found, bank_breaches, bank_found, cast_breaches, cast_found, form_found, typed_term, typed_terms}
use Rattle.dh_tree.specs.Memories.{Memory, memory_in, number_in}
use Rattle.dh_tree.specs.PlainTrees.{Term, term, TermForm, number, truth_value, named, accessed, in_bank, applied, converted, Terms, no_terms, term_then}
use Rattle.dh_tree.specs.Resolved.{used, resolved_term, resolved_terms}
use Rattle.dh_tree.specs.Seen.{terms}
use Rattle.dh_tree.specs.ViewBreaches.{KnownViews, dims_through, offsets_view_breaches, physical_broken, term_view_breaches, terms_view_breaches}
use Rattle.dh_tree.specs.Views.{view_in}
use Rattle.dh_tree.specs.Scopes.{ScopeEntry}
use Rattle.dh_tree.specs.Widths.{IsSized, AreSized, AreAllSized}
use Rattle.dh_runnable.proofs.ElementsFound.{IsElement, element_is}
use Rattle.dh_runnable.proofs.TypedParts.{IsMemory, for_numbers_sized, number_kind_sized, typed_parts}
use Rattle.dh_tree.proofs.EmptyLists.{first_none, second_none, not_none}
use Rattle.dh_meaning.specs.AccessNumbers.{term_accesses}
use Rattle.dh_meaning.specs.Bindings.{binding_in, depth_bound, kind_or_first, kind_found}
use Rattle.dh_meaning.specs.Core.{CoreTerm, CoreTerms, Target, by_row, count_terms, read}
use Rattle.dh_meaning.specs.CoreOf.{Known, entity_number, depth_of, operation_of, core_term, core_form, core_terms, target_to, way_of}
use Rattle.dh_meaning.specs.Ways.{Way, base_of, way_in, way_unless}
use Rattle.dh_runnable.specs.ActionsRun.{table_known}
use Rattle.dh_code.specs.Slots.{Placing}
use Rattle.dh_code.specs.Suited.{AreSuited, IsInside, IsSuitedTarget, AreInside, AllInside}
use Rattle.dh_runnable.proofs.NamesKnown.{IsVariable, IsGood, Knows, name_known, fact_is}
use Rattle.dh_runnable.proofs.Operands.{IsOperand, bool_sized, applied_suits, operation_inside}
use Rattle.dh_runnable.proofs.ViewsKnown.{AreGoodWays, IsReached, Rules, memory_reached, view_reached}

-- the memories and loops that the rules on indices speak of
abbrev pub indexed : Known → Rules → places.IndexContext
indexed known rules = record { memories = known.memories; counters = rules.counters }

-- and those that the rules on views speak of
abbrev pub judged : Known → Rules → KnownViews
judged known rules = record { names = indexed known rules; views = rules.views; kept = rules.kept }

-- an expression that breaks no rule
pub record IsReady (known : Known) (rules : Rules) (facts : Facts) (bs : List ScopeEntry) (t : Term) : Type 0 where
  pub named : resolved_term bs t ≡ t
  pub visible : term_breaches bs t ≡ []
  pub kinds : term_kind_breaches facts t ≡ []
  pub indices : term_index_breaches (indexed known rules) t ≡ []
  pub views : term_view_breaches (judged known rules) t ≡ []
  pub sized : AreSized t

pub record AreReady (known : Known) (rules : Rules) (facts : Facts) (bs : List ScopeEntry) (ts : Terms) : Type 0 where
  pub named : resolved_terms bs ts ≡ ts
  pub visible : terms_breaches bs ts ≡ []
  pub kinds : indices_kind_breaches facts ts ≡ []
  pub indices : terms_index_breaches (indexed known rules) ts ≡ []
  pub views : terms_view_breaches (judged known rules) ts ≡ []
  pub sized : AreAllSized ts

-- an expression has a kind, and is run as an operand of that kind which names variables declared inside these loops
pub record IsKnown (known : Known) (p : Placing) (loops : List ℕ) (t : Term) : Type 0 where
  pub kind : Kind
  pub is : found t ≡ Some kind
  pub operand : (n : ℕ) → IsOperand (table_known known) kind (core_term known n t)
  pub inside : (n : ℕ) → AreInside p loops (core_term known n t)

pub record AreKnown (known : Known) (p : Placing) (loops : List ℕ) (ts : Terms) : Type 0 where
  pub found : all_found ts ≡ true
  pub integer : all_integer ts ≡ true
  pub suit : (n : ℕ) → AreSuited (table_known known) (core_terms known n ts)
  pub inside : (n : ℕ) → AllInside p loops (core_terms known n ts)

-- Wants.

either_sized : (b : Bool) (j k : Option Kind) → IsSized j → IsSized k → IsSized (if b then j else k)
either_sized true j k h i = h
either_sized false j k h i = i

amount_sized : IsSized (Some (kind.Unsigned 32))
amount_sized = (omega arith, omega arith)

-- Parts.

one_kind : (b : Bool) (m x : Kind) → (if b then Some m else None) ≡ Some x → x ≡ m
one_kind true m x e = cc
one_kind false m x e = cc

number_known : (k : Option Kind) (m : Kind) (negative : Bool) (n : ℕ) (place : Place) → k ≡ number_found m negative n → number_breaches k place ≡ [] → number_found m negative n ≡ Some m
number_known None m negative n place e f = not_none _ _ f
number_known (Some x) m negative n place e f = sym e ∙ ap Some (one_kind _ m x (sym e))

pub one_count : (all : Bool) (same : Bool) (place : Place) → all ≡ true → when (all && (if same then false else true)) (mismatch place) ≡ [] → same ≡ true
one_count true true place a e = refl
one_count true false place a e = not_none _ _ e
one_count false same place a e = cc

when_both : (a b : Bool) (k : Option Kind) → a ≡ true → b ≡ true → (if a && b then k else None) ≡ k
when_both a b k e f = ap (λ x. if x && b then k else None) e ∙ ap (λ (x : Bool). if x then k else None) f

-- what is a memory has no way through views
pub memory_way : (known : Known) (r : Ref) (m : Memory) → memory_in known.memories r.entity ≡ Some m → way_of known r ≡ None
memory_way known r m e = ap (λ o. way_unless o (way_in known.ways r.entity)) e

-- an access by indices that suits is of a memory that is there
pub access_there : (table : List MemEntry) (memory : ℕ) (w : Option Way) (ts : CoreTerms) → IsSuitedTarget table memory (target_to w ts) → memory < length table
access_there table memory None ts h = h.0
access_there table memory (Some w) ts h = h.0

-- a read of what a name stands for, whose way is this
abbrev read_by : Known → (n : ℕ) → Place → Ref → Target → Option Way → CoreTerm
read_by known n place r target w = read (record { number = n; place = place; memory = entity_number (number_in known.memories (base_of w r.entity)) }) target

-- what an access by indices finds: the kind of what its name stands for, which is reached by as many
record IsFound (known : Known) (p : Placing) (loops : List ℕ) (r : Ref) (indices : Terms) (k : Option Kind) : Type 0 where
  kind : Kind
  is : k ≡ Some kind
  sized : IsKind kind
  dims : ℕ
  counted : count_of indices ≡ dims
  reached : IsReached known p loops r kind dims

-- what a physical access finds: the kind of the memory that its name stands for
record IsStored (known : Known) (r : Ref) (k : Option Kind) : Type 0 where
  kind : Kind
  is : k ≡ Some kind
  sized : IsKind kind
  element : IsElement known.memories r kind

memory_found : (known : Known) (n : ℕ) (r : Ref) (k : Option Kind) (dims : ℕ) → r.entity ≡ Some n → IsMemory known.memories n k dims → IsStored known r k
memory_found known n r k dims e g = record {
  kind = g.memory.shape.kind;
  is = g.kind;
  sized = g.sized;
  element = element_is known.memories r g.memory (ap (memory_in known.memories) e ∙ g.is) g.keeps;
}

-- what is reached by indices
access_reached : (known : Known) (p : Placing) (loops : List ℕ) (n : ℕ) (r : Ref) (indices : Terms) (k : Option Kind) (dims : ℕ) → r.entity ≡ Some n → IsGood known p loops n (of_memory k dims) → count_of indices ≡ dims → IsFound known p loops r indices k
access_reached known p loops n r indices k dims e (inl g) c = record {
  kind = g.memory.shape.kind;
  is = g.kind;
  sized = g.sized;
  dims = dims;
  counted = c;
  reached = memory_reached known p loops r g.memory.shape.kind dims (element_is known.memories r g.memory (ap (memory_in known.memories) e ∙ g.is) g.keeps);
}
access_reached known p loops n r indices k dims e (inr v) c = record {
  kind = v.way.is.shape.kind;
  is = v.kind;
  sized = v.sized;
  dims = dims;
  counted = c;
  reached = view_reached known p loops n r k dims e v;
}

-- no physical access goes through a view
pub not_viewed : (b : Bool) (x : Breach) → b ≡ true → when b (x ∷ []) ≡ [] → ⊥
not_viewed true x e f = not_none _ _ f
not_viewed false x e f = cc

-- a view has one of the ways
pub way_found : (o : Option Memory) (w : Option Way) (y : Way) → way_unless o w ≡ Some y → w ≡ Some y
way_found None w y e = e
way_found (Some m) w y e = absurd cc

-- as many indices as there are in the text
core_counted : (known : Known) (n : ℕ) (ts : Terms) → count_terms (core_terms known n ts) ≡ count_of ts
core_counted known n no_terms = refl
core_counted known n (term_then t rest) = ap suc (core_counted known (n + term_accesses t) rest)

pub kind_found_is : (t : Term) (k : Kind) → found t ≡ Some k → kind_found t ≡ k
kind_found_is (term place m form) k e = ap kind_or_first e

no_breaches : (bs : List Breach) (k : Kind) → bs ≡ [] → unless bs k ≡ Some k
no_breaches [] k e = refl
no_breaches (b ∷ bs) k e = not_none _ _ e

pub applied_known : (at to : Place) (o : Op) (l r : Option Kind) (j k : Kind) → l ≡ Some j → r ≡ Some k → applied_breaches o at to l r ≡ [] → (operands_breaches (takes o) at to j k ≡ []) × (applied_found o at to l r ≡ Some (applied_kind o j k))
applied_known at to o l r j k e f h =
    let same : applied_breaches o at to l r ≡ operands_breaches (takes o) at to j k = ap (λ x. applied_breaches o at to x r) e ∙ ap (λ y. applied_breaches o at to (Some j) y) f in
    let none = sym same ∙ h in
    (none, ap (λ x. applied_found o at to x r) e ∙ (ap (λ y. applied_found o at to (Some j) y) f ∙ no_breaches _ _ none))

cast_known : (place : Place) (k : Option Kind) (j to : Kind) → k ≡ Some j → IsKind to → cast_breaches place k to ≡ [] → (cast_found k to ≡ Some to) × IsInteger to
cast_known place k j to e s h = cases to s (ap (λ x. cast_breaches place x to) (sym e) ∙ h)
  where
    cases : (to : Kind) → IsKind to → cast_breaches place (Some j) to ≡ [] → (cast_found k to ≡ Some to) × IsInteger to
    cases kind.Bool s h = not_none _ _ h
    cases (kind.Unsigned w) s h = (ap (λ x. cast_found x (kind.Unsigned w)) e, s)
    cases (kind.Signed w) s h = (ap (λ x. cast_found x (kind.Signed w)) e, s)

pub is_index : (k : Option Kind) (j : Kind) (place : Place) → k ≡ Some j → index_breaches k place ≡ [] → is_integer j ≡ true
is_index k j place e h = cases j (ap (λ x. index_breaches x place) (sym e) ∙ h)
  where
    cases : (j : Kind) → index_breaches (Some j) place ≡ [] → is_integer j ≡ true
    cases kind.Bool h = not_none _ _ h
    cases (kind.Unsigned w) h = refl
    cases (kind.Signed w) h = refl

-- Expressions.

module _ (known : Known) (p : Placing) (loops : List ℕ) where
  pub known_sized : (t : Term) → IsKnown known p loops t → IsSized (found t)
  known_sized t k = subst IsSized (sym k.is) (k.operand 0).sized

  -- both operands are known where each is for a sized kind of its place
  pub operands_known : (facts : Facts) (o : Op) (want : Option Kind) (left right : Term) (bare_left bare_right : Bool)
      → IsSized want
      → ((w : Option Kind) → IsSized w → typed_term facts w left ≡ left → IsKnown known p loops left)
      → ((w : Option Kind) → IsSized w → typed_term facts w right ≡ right → IsKnown known p loops right)
      → typed_term facts (left_want o want bare_left bare_right (found (typed_term facts None right))) left ≡ left
      → typed_term facts (right_want o want bare_left bare_right (found (typed_term facts None left))) right ≡ right
      → IsKnown known p loops left × IsKnown known p loops right
  operands_known facts o want left right false false s l r e f = (l None tt e, r None tt f)
  operands_known facts o want left right false true s l r e f =
      let first = l None tt e in
      let sized : IsSized (found (typed_term facts None left)) = subst (λ (t : Term). IsSized (found t)) (sym e) (known_sized left first) in
      (first, r _ (either_sized (is_shift o) _ _ amount_sized (for_numbers_sized _ sized)) f)
  operands_known facts o want left right true false s l r e f =
      let second = r None tt f in
      let sized : IsSized (found (typed_term facts None right)) = subst (λ (t : Term). IsSized (found t)) (sym f) (known_sized right second) in
      (l _ (either_sized (is_shift o) _ _ tt (for_numbers_sized _ sized)) e, second)
  operands_known facts o want left right true true s l r e f =
      (l _ (either_sized (keeps_bare o) _ _ s tt) e, r _ (either_sized (is_shift o) _ _ amount_sized (either_sized (keeps_bare o) _ _ s tt)) f)

  -- a typed expression of a form of which a kind is found
  with_kind : (facts : Facts) (want : Option Kind) (place : Place) (k : Option Kind) (form : TermForm) (m : Kind) → typed_term facts want (term place k form) ≡ term place k form → form_found facts want form ≡ Some m
      → ((n : ℕ) → IsOperand (table_known known) m (core_form known n place m form)) → ((n : ℕ) → AreInside p loops (core_form known n place m form)) → IsKnown known p loops (term place k form)
  with_kind facts want place k form m e f o i =
      subst (λ (j : Option Kind). IsKnown known p loops (term place j form)) (sym ((typed_parts facts want place k form e).1 ∙ f)) (record { kind = m; is = refl; operand = o; inside = i })

  -- a name that is used as a value, by what is known of it
  value_known : (n : ℕ) (o : Option Fact) (f : Fact) (place : Place) → o ≡ Some f → IsGood known p loops n f → value_breaches o place ≡ [] → (k : Kind) × ((value_kind o ≡ Some k) × IsVariable known p loops n k)
  value_known n o f place at g e =
      let value = cases f g (ap (λ x. value_breaches x place) (sym at) ∙ e) in
      (value.0, (ap value_kind at ∙ value.1.0, value.1.1))
    where
      cases : (f : Fact) → IsGood known p loops n f → value_breaches (Some f) place ≡ [] → (k : Kind) × ((value_kind (Some f) ≡ Some k) × IsVariable known p loops n k)
      cases (of_variable None) g e = absurd g
      cases (of_variable (Some k)) g e = (k, (refl, g))
      cases (of_iterator k) g e = (k, (refl, g))
      cases (of_memory k dims) g e = not_none _ _ e
      cases (of_function parameters) g e = not_none _ _ e

  -- where a name stands for a variable
  pub name_inside : (r : Ref) (n : ℕ) (k : Kind) → r.entity ≡ Some n → IsVariable known p loops n k → IsInside p loops (depth_of known r) (entity_number r.entity)
  name_inside r n k e v = subst (λ (o : Option ℕ). IsInside p loops (depth_bound (binding_in known.bindings (entity_number o))) (entity_number o)) (sym e) v.placed.inside

  variable_operand : (place : Place) (r : Ref) (k : Kind) → IsKind k → (n : ℕ) → IsOperand (table_known known) k (core_form known n place k (named r))
  variable_operand place r k h n = record { sized = h; kind = refl; suits = h }

  -- an access, by what is known of its name
  access_known : (n : ℕ) (r : Ref) (o : Option Fact) (f : Fact) (place : Place) (indices : Terms) → r.entity ≡ Some n → o ≡ Some f → IsGood known p loops n f → access_breaches o place indices ≡ [] → all_found indices ≡ true → all_integer indices ≡ true
      → IsFound known p loops r indices (access_found o indices)
  access_known n r o f place indices entity at g e a i =
      subst (λ (x : Option Fact). IsFound known p loops r indices (access_found x indices)) (sym at) (cases f g (ap (λ x. access_breaches x place indices) (sym at) ∙ e))
    where
      cases : (f : Fact) → IsGood known p loops n f → access_breaches (Some f) place indices ≡ [] → IsFound known p loops r indices (access_found (Some f) indices)
      cases (of_variable k) g e = not_none _ _ e
      cases (of_iterator k) g e = not_none _ _ e
      cases (of_function parameters) g e = not_none _ _ e
      cases (of_memory k dims) g e =
          let counted : (count_of indices == dims) ≡ true = one_count (all_found indices) (count_of indices == dims) place a e in
          subst (λ (x : Option Kind). IsFound known p loops r indices x) (sym (when_both (all_integer indices) (count_of indices == dims) k i counted))
          (access_reached known p loops n r indices k dims entity g (eqb-true (count_of indices) dims counted))

  -- a physical access, by what is known of its name
  bank_known : (rules : Rules) (good : AreGoodWays known rules.views) (n : ℕ) (r : Ref) (o : Option Fact) (f : Fact) (place : Place) (row : Option Kind) (j : Kind) → r.entity ≡ Some n → o ≡ Some f → IsGood known p loops n f → bank_breaches o place ≡ []
      → physical_broken (view_in rules.views r.entity) r ≡ [] → row ≡ Some j → is_integer j ≡ true → IsStored known r (bank_found o row)
  bank_known rules good n r o f place row j entity at g e direct h i =
      subst (λ (x : Option Fact). IsStored known r (bank_found x row)) (sym at) (cases f g (ap (λ x. bank_breaches x place) (sym at) ∙ e))
    where
      same : (k : Option Kind) (dims : ℕ) → bank_found (Some (of_memory k dims)) row ≡ k
      same k dims = ap (bank_found (Some (of_memory k dims))) h ∙ ap (λ (b : Bool). if b then k else None) i

      cases : (f : Fact) → IsGood known p loops n f → bank_breaches (Some f) place ≡ [] → IsStored known r (bank_found (Some f) row)
      cases (of_variable k) g e = not_none _ _ e
      cases (of_iterator k) g e = not_none _ _ e
      cases (of_function parameters) g e = not_none _ _ e
      cases (of_memory k dims) (inl g) e = subst (λ (x : Option Kind). IsStored known r x) (sym (same k dims)) (memory_found known n r k dims entity g)
      cases (of_memory k dims) (inr v) e =
          absurd
          (not_viewed (is_some (view_in rules.views r.entity)) _
          (ap (λ z. is_some (view_in rules.views z)) entity ∙ good.seen (Some n) v.way (way_found (memory_in known.memories (Some n)) (way_in known.ways (Some n)) v.way v.is)) direct)

  -- an element of what a name stands for
  element_operand : (place : Place) (r : Ref) (indices : Terms) (k : Option Kind) (f : IsFound known p loops r indices k) → AreKnown known p loops indices → (n : ℕ) → IsOperand (table_known known) f.kind (core_form known n place f.kind (accessed r indices))
  element_operand place r indices k f i n = record { sized = f.sized; kind = f.reached.kind; suits = f.reached.suits (core_terms known n indices) (core_counted known n indices ∙ f.counted) (i.suit n) }

  element_inside : (place : Place) (r : Ref) (indices : Terms) (k : Option Kind) (j : Kind) (f : IsFound known p loops r indices k) → AreKnown known p loops indices → (n : ℕ) → AreInside p loops (core_form known n place j (accessed r indices))
  element_inside place r indices k j f i n = f.reached.inside (core_terms known n indices) (i.inside n)

  row_operand : (place : Place) (r : Ref) (k : Kind) (bank : ℕ) (bank_place : Place) (row : Term) → IsKind k → IsElement known.memories r k → physical_breaches (kept_dims (memory_in known.memories r.entity)) bank bank_place row ≡ [] → IsKnown known p loops row → (n : ℕ) → IsOperand (table_known known) k (core_form known n place k (in_bank r bank bank_place row))
  row_operand place r k bank bank_place row s h b i n =
      subst (λ (w : Option Way). IsOperand (table_known known) k (read_by known (n + term_accesses row) place r (by_row bank (core_term known n row)) w)) (sym (memory_way known r h.memory h.there))
      (record { sized = s; kind = h.kind; suits = ((h.within, h.bank bank bank_place row b), (i.operand n).suits) })

  -- one index in front of others
  index_then : (t : Term) (rest : Terms) → IsKnown known p loops t → index_breaches (found t) (place_of t) ≡ [] → AreKnown known p loops rest → AreKnown known p loops (term_then t rest)
  index_then (term place m form) rest k h r =
      let integer = is_index m k.kind place k.is h in
      record {
        found = ap (λ x. is_some x && all_found rest) k.is ∙ r.found;
        integer = ap (λ x. all_integer (term_then (term place x form) rest)) k.is ∙ (ap (λ b. b && all_integer rest) integer ∙ r.integer);
        suit = λ n. ((k.operand n).suits, r.suit (n + term_accesses (term place m form)));
        inside = λ n. (k.inside n, r.inside (n + term_accesses (term place m form)));
      }

  -- an operation, by its operands
  applied_operand : (o : Op) (left right : Term) (l : IsKnown known p loops left) (r : IsKnown known p loops right) → operands_breaches (takes o) (place_of left) (place_of right) l.kind r.kind ≡ [] → (n : ℕ)
      → IsOperand (table_known known) (applied_kind o l.kind r.kind) (operation_of o (kind_found left) (kind_found right) (core_term known n left) (core_term known (n + term_accesses left) right))
  applied_operand o left right l r e n =
      let suits = applied_suits (table_known known) (place_of left) (place_of right) o l.kind r.kind (core_term known n left) (core_term known (n + term_accesses left) right) e (l.operand n) (r.operand (n + term_accesses left)) in
      subst (λ (j : Kind). IsOperand (table_known known) (applied_kind o l.kind r.kind) (operation_of o j (kind_found right) (core_term known n left) (core_term known (n + term_accesses left) right))) (sym (kind_found_is left l.kind l.is))
      (subst (λ (j : Kind). IsOperand (table_known known) (applied_kind o l.kind r.kind) (operation_of o l.kind j (core_term known n left) (core_term known (n + term_accesses left) right))) (sym (kind_found_is right r.kind r.is)) suits)

  module _ (rules : Rules) (good : AreGoodWays known rules.views) where
    mutual
      pub term_known : (facts : Facts) (bs : List ScopeEntry) → Knows known p loops facts bs → (want : Option Kind) → IsSized want → (t : Term) → typed_term facts want t ≡ t → IsReady known rules facts bs t → IsKnown known p loops t
      term_known facts bs k want s (term place m (number negative n)) e h =
          with_kind facts want place m (number negative n) (number_kind want) e
          (number_known m (number_kind want) negative n place (typed_parts facts want place m (number negative n) e).1 h.kinds)
          (λ i. record { sized = number_kind_sized want s; kind = refl; suits = number_kind_sized want s }) (λ i. tt)
      term_known facts bs k want s (term place m (truth_value value)) e h =
          with_kind facts want place m (truth_value value) kind.Bool e refl (λ i. record { sized = bool_sized; kind = refl; suits = tt }) (λ i. tt)
      term_known facts bs k want s (term place m (named r)) e h =
          let same : used bs r ≡ r = let eq = h.named in cc in
          let name = name_known known p loops facts bs r k same h.visible in
          let value = value_known name.number (fact_of facts r) name.stands.fact place (fact_is known p loops facts r name) name.stands.good h.kinds in
          with_kind facts want place m (named r) value.0 e value.1.0
          (variable_operand place r value.0 value.1.1.sized) (λ i. name_inside r name.number value.0 name.entity value.1.1)
      term_known facts bs k want s (term place m (accessed r indices)) e h =
          let parts = typed_parts facts want place m (accessed r indices) e in
          let typed : typed_terms facts indices ≡ indices = let eq = parts.0 in cc in
          let same : used bs r ≡ r = let eq = h.named in cc in
          let named : resolved_terms bs indices ≡ indices = let eq = h.named in cc in
          let name = name_known known p loops facts bs r k same (first_none (unknown bs r) _ h.visible) in
          let inner = terms_known facts bs k indices typed (record {
            named = named;
            visible = second_none (unknown bs r) _ h.visible;
            kinds = second_none (access_breaches (fact_of facts r) place indices) _ h.kinds;
            indices = second_none (places.access_index_breaches rules.counters (kept_dims (memory_in known.memories r.entity)) indices) _ h.indices;
            views = second_none (places.access_index_breaches rules.counters (dims_through (view_in rules.kept r.entity)) indices) _ h.views;
            sized = h.sized;
          }) in
          let none = first_none (access_breaches (fact_of facts r) place indices) _ h.kinds in
          let element = access_known name.number r (fact_of facts r) name.stands.fact place indices name.entity (fact_is known p loops facts r name) name.stands.good none inner.found inner.integer in
          with_kind facts want place m (accessed r indices) element.kind e element.is (element_operand place r indices (access_found (fact_of facts r) indices) element inner)
          (element_inside place r indices (access_found (fact_of facts r) indices) element.kind element inner)
      term_known facts bs k want s (term place m (in_bank r bank bank_place row)) e h =
          let parts = typed_parts facts want place m (in_bank r bank bank_place row) e in
          let typed : typed_term facts None row ≡ row = let eq = parts.0 in cc in
          let same : used bs r ≡ r = let eq = h.named in cc in
          let named : resolved_term bs row ≡ row = let eq = h.named in cc in
          let name = name_known known p loops facts bs r k same (first_none (unknown bs r) _ h.visible) in
          let below = second_none (bank_breaches (fact_of facts r) place) _ h.kinds in
          let physical : List Breach = physical_breaches (kept_dims (memory_in known.memories r.entity)) bank bank_place row in
          let i = term_known facts bs k None tt row typed (record {
            named = named;
            visible = second_none (unknown bs r) _ h.visible;
            kinds = second_none (index_breaches (found row) (place_of row)) _ below;
            indices = second_none physical _ h.indices;
            views = second_none (physical_broken (view_in rules.views r.entity) r) _ h.views;
            sized = h.sized;
          }) in
          let integer = is_index (found row) i.kind (place_of row) i.is (first_none (index_breaches (found row) (place_of row)) _ below) in
          let element = bank_known rules good name.number r (fact_of facts r) name.stands.fact place (found row) i.kind name.entity (fact_is known p loops facts r name) name.stands.good (first_none (bank_breaches (fact_of facts r) place) _ h.kinds)
          (first_none (physical_broken (view_in rules.views r.entity) r) _ h.views) i.is integer in
          with_kind facts want place m (in_bank r bank bank_place row) element.kind e element.is
          (row_operand place r element.kind bank bank_place row element.sized element.element (first_none physical _ h.indices) i) i.inside
      term_known facts bs k want s (term place m (applied o left right)) e h =
          let parts = typed_parts facts want place m (applied o left right) e in
          let left_typed : typed_term facts (left_want o want (is_bare left) (is_bare right) (found (typed_term facts None right))) left ≡ left = let eq = parts.0 in cc in
          let right_typed : typed_term facts (right_want o want (is_bare left) (is_bare right) (found (typed_term facts None left))) right ≡ right = let eq = parts.0 in cc in
          let left_named : resolved_term bs left ≡ left = let eq = h.named in cc in
          let right_named : resolved_term bs right ≡ right = let eq = h.named in cc in
          let breaches : List Breach = applied_breaches o (place_of left) (place_of right) (found left) (found right) in
          let below = second_none breaches _ h.kinds in
          let both = operands_known facts o want left right (is_bare left) (is_bare right) s
          (λ w z f. term_known facts bs k w z left f (record {
            named = left_named;
            visible = first_none (term_breaches bs left) _ h.visible;
            kinds = first_none (term_kind_breaches facts left) _ below;
            indices = first_none (term_index_breaches (indexed known rules) left) _ h.indices;
            views = first_none (term_view_breaches (judged known rules) left) _ h.views;
            sized = h.sized.0;
          }))
          (λ w z f. term_known facts bs k w z right f (record {
            named = right_named;
            visible = second_none (term_breaches bs left) _ h.visible;
            kinds = second_none (term_kind_breaches facts left) _ below;
            indices = second_none (term_index_breaches (indexed known rules) left) _ h.indices;
            views = second_none (term_view_breaches (judged known rules) left) _ h.views;
            sized = h.sized.1;
          }))
          left_typed right_typed in
          let l : IsKnown known p loops left = both.0 in
          let r : IsKnown known p loops right = both.1 in
          let at = applied_known (place_of left) (place_of right) o (found left) (found right) l.kind r.kind l.is r.is (first_none breaches _ h.kinds) in
          with_kind facts want place m (applied o left right) (applied_kind o l.kind r.kind) e at.1 (applied_operand o left right l r at.0)
          (λ n. operation_inside p loops o (kind_found left) (kind_found right) (core_term known n left) (core_term known (n + term_accesses left) right) (l.inside n) (r.inside (n + term_accesses left)))
      term_known facts bs k want s (term place m (converted inner to)) e h =
          let parts = typed_parts facts want place m (converted inner to) e in
          let typed : typed_term facts (for_numbers (Some to)) inner ≡ inner = let eq = parts.0 in cc in
          let named : resolved_term bs inner ≡ inner = let eq = h.named in cc in
          let i = term_known facts bs k (for_numbers (Some to)) (for_numbers_sized (Some to) h.sized.0) inner typed (record {
            named = named;
            visible = h.visible;
            kinds = second_none (cast_breaches place (found inner) to) _ h.kinds;
            indices = h.indices;
            views = h.views;
            sized = h.sized.1;
          }) in
          let cast = cast_known place (found inner) i.kind to i.is h.sized.0 (first_none (cast_breaches place (found inner) to) _ h.kinds) in
          with_kind facts want place m (converted inner to) to e cast.0 (λ n. record { sized = h.sized.0; kind = refl; suits = (cast.1, (i.operand n).suits) }) i.inside

      pub terms_known : (facts : Facts) (bs : List ScopeEntry) → Knows known p loops facts bs → (ts : Terms) → typed_terms facts ts ≡ ts → AreReady known rules facts bs ts → AreKnown known p loops ts
      terms_known facts bs k no_terms e h = record { found = refl; integer = refl; suit = λ n. tt; inside = λ n. tt }
      terms_known facts bs k (term_then t rest) e h =
          let first_typed : typed_term facts None t ≡ t = cc in
          let rest_typed : typed_terms facts rest ≡ rest = cc in
          let first_named : resolved_term bs t ≡ t = let eq = h.named in cc in
          let rest_named : resolved_terms bs rest ≡ rest = let eq = h.named in cc in
          let below = second_none (index_breaches (found t) (place_of t)) _ h.kinds in
          index_then t rest
          (term_known facts bs k None tt t first_typed (record {
            named = first_named;
            visible = first_none (term_breaches bs t) _ h.visible;
            kinds = first_none (term_kind_breaches facts t) _ below;
            indices = first_none (term_index_breaches (indexed known rules) t) _ h.indices;
            views = first_none (term_view_breaches (judged known rules) t) _ h.views;
            sized = h.sized.0;
          }))
          (first_none (index_breaches (found t) (place_of t)) _ h.kinds)
          (terms_known facts bs k rest rest_typed (record {
            named = rest_named;
            visible = second_none (term_breaches bs t) _ h.visible;
            kinds = second_none (term_kind_breaches facts t) _ below;
            indices = second_none (term_index_breaches (indexed known rules) t) _ h.indices;
            views = second_none (term_view_breaches (judged known rules) t) _ h.views;
            sized = h.sized.1;
          }))

    -- offsets of a view
    pub offsets_known : (facts : Facts) (bs : List ScopeEntry) → Knows known p loops facts bs → (ts : List Term) → typed_terms facts (terms ts) ≡ terms ts → resolved_terms bs (terms ts) ≡ terms ts → terms_breaches bs (terms ts) ≡ [] → indices_kind_breaches facts (terms ts) ≡ []
        → offsets_view_breaches (judged known rules) ts ≡ [] → AreAllSized (terms ts) → AllByRecursion (λ t. IsKnown known p loops t) ts
    offsets_known facts bs k [] e n v b w z = tt
    offsets_known facts bs k (t ∷ ts) e n v b w z =
        let first_typed : typed_term facts None t ≡ t = let eq : term_then (typed_term facts None t) (typed_terms facts (terms ts)) ≡ term_then t (terms ts) = e in cc in
        let rest_typed : typed_terms facts (terms ts) ≡ terms ts = let eq : term_then (typed_term facts None t) (typed_terms facts (terms ts)) ≡ term_then t (terms ts) = e in cc in
        let first_named : resolved_term bs t ≡ t = let eq : term_then (resolved_term bs t) (resolved_terms bs (terms ts)) ≡ term_then t (terms ts) = n in cc in
        let rest_named : resolved_terms bs (terms ts) ≡ terms ts = let eq : term_then (resolved_term bs t) (resolved_terms bs (terms ts)) ≡ term_then t (terms ts) = n in cc in
        let below = second_none (index_breaches (found t) (place_of t)) _ b in
        let own = first_none (term_index_breaches (indexed known rules) t ++ term_view_breaches (judged known rules) t) _ w in (
          term_known facts bs k None tt t first_typed (record {
            named = first_named;
            visible = first_none (term_breaches bs t) _ v;
            kinds = first_none (term_kind_breaches facts t) _ below;
            indices = first_none (term_index_breaches (indexed known rules) t) _ own;
            views = second_none (term_index_breaches (indexed known rules) t) _ own;
            sized = z.0;
          }),
          offsets_known facts bs k ts rest_typed rest_named (second_none (term_breaches bs t) _ v) (second_none (term_kind_breaches facts t) _ below)
              (second_none (term_index_breaches (indexed known rules) t ++ term_view_breaches (judged known rules) t) _ w) z.1,
        )
