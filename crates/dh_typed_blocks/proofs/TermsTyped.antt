-- An expression of a typed program that breaks no rule on names, kinds or indices is typed as blocks ask: its operands suit
-- their operators, and its indices are numbers, as many as the memory has dimensions. By recursion beside that of
-- dh_runnable.
use Rattle.std.proofs.Common.{◌≡◌, inl, inr, ℕ, ◌==◌, true, List, [], length, map, Option, Some, None, ap, sym, ◌∙◌, subst, arith}
use Rattle.std.proofs.lemmas.Bool.Decides.{nat_tests}
use Rattle.std.specs.Prelude.{slice_get}
use Rattle.dh_base.specs.declared.places.Place.{Place}
use Rattle.dh_value.specs.declared.kinds.Kind.{Kind}
use Rattle.dh_value.specs.declared.kinds.Kind.TheVariants as kind
use Rattle.dh_value.specs.declared.operators.Op.{Op}
use Rattle.dh_value.specs.Words.{IsInteger, IsKind}
use Rattle.dh_tree.specs.declared.breaches.Breach.{Breach}
use Rattle.dh_tree.specs.declared.trees.expressions.Ref.{Ref}
use Rattle.dh_tree.specs.Breaches.{unknown, term_breaches}
use Rattle.dh_tree.specs.Elements.{dims_at, entry_dims}
use Rattle.dh_tree.specs.Indices as places
use Rattle.dh_tree.specs.Indices.{kept_dims, physical_breaches, term_index_breaches}
use Rattle.dh_tree.specs.KindBreaches.{term_kind_breaches}
use Rattle.dh_tree.specs.Kinds.{Fact, of_variable, of_iterator, of_memory, of_function, Facts, fact_of, for_numbers, is_bare, is_integer, found, place_of, left_want, right_want, takes, operands_breaches, applied_kind, applied_breaches, all_found, count_of, index_breaches, access_breaches, bank_breaches, cast_breaches, typed_term, typed_terms}
use Rattle.dh_tree.specs.Scopes.{entity_number}
use Rattle.dh_tree.specs.Memories.{Memory, entry_of, memory_in, number_in}
use Rattle.dh_tree.specs.PlainTrees.{Term, term, number, truth_value, named, accessed, in_bank, applied, converted, Terms, no_terms, term_then}
use Rattle.dh_tree.specs.Resolved.{used, resolved_term, resolved_terms}
use Rattle.dh_tree.specs.Scopes.{ScopeEntry}
use Rattle.dh_tree.specs.ViewBreaches.{dims_through, physical_broken, term_view_breaches}
use Rattle.dh_tree.specs.Views.{view_in}
use Rattle.dh_tree.specs.Widths.{IsSized}
use Rattle.dh_tree.proofs.EmptyLists.{first_none, second_none, not_none}
use Rattle.dh_meaning.specs.Bindings.{kind_or_first}
use Rattle.dh_meaning.specs.CoreOf.{Known, core_terms, dims_by, dims_named, memory_of, way_of}
use Rattle.dh_meaning.specs.Ways.{Way, base_of, way_at}
use Rattle.dh_runnable.specs.ActionsRun.{table_known}
use Rattle.dh_runnable.proofs.ElementsFound.{number_found}
use Rattle.dh_runnable.proofs.NamesKnown.{IsGood, Knows, name_known, fact_is}
use Rattle.dh_runnable.proofs.TermsSuited.{access_there, indexed, is_index, judged, memory_way, one_count, IsReady, AreReady, IsKnown, term_known, terms_known}
use Rattle.dh_runnable.proofs.TypedParts.{for_numbers_sized, typed_parts}
use Rattle.dh_runnable.proofs.ViewsKnown.{AreGoodWays, Rules}
use Rattle.dh_code.specs.Slots.{Placing}
use Rattle.dh_expressions.specs.Shown.{kind_written}
use Rattle.dh_typed_blocks.specs.TypedTerms.{AreTypedOperands, IsTyped, AreTyped}
use Rattle.dh_typed_blocks.proofs.KindsGiven.{written_is, applied_known}
use Rattle.dh_typed_blocks.proofs.OperandsRight.{operands_right}

same_count : (m n : ℕ) → (m == n) ≡ true → m ≡ n
same_count m n e = grind (arith, nat_tests)

integer_of : (k : Kind) → IsKind k → is_integer k ≡ true → IsInteger k
integer_of kind.Bool s e = absurd cc
integer_of (kind.Unsigned w) s e = s
integer_of (kind.Signed w) s e = s

-- the dimensions of what a name stands for
dims_found : (known : Known) (r : Ref) (m : Memory) → memory_in known.memories r.entity ≡ Some m → dims_at (table_known known) (memory_of known r) ≡ m.shape.dims
dims_found known r m e =
    let at = number_found known.memories r.entity m e in
    let same : memory_of known r ≡ at.number = ap (λ (w : Option Way). entity_number (number_in known.memories (base_of w r.entity))) (memory_way known r m e) ∙ ap entity_number at.is in
    ap (λ n. entry_dims (slice_get (map entry_of known.memories) n)) same ∙ ap entry_dims at.entry

-- operands by the kinds that are written at them
operands_written : (o : Op) (left right : Term) (j k whole : Kind) → found left ≡ Some j → found right ≡ Some k → whole ≡ applied_kind o j k → IsKind j → IsKind k
    → operands_breaches (takes o) (place_of left) (place_of right) j k ≡ [] → AreTypedOperands o (kind_written left) (kind_written right) whole
operands_written o left right j k whole e f is sj sk none =
    subst (λ (x : Kind). AreTypedOperands o x (kind_written right) whole) (sym (written_is left j e))
    (subst (λ (x : Kind). AreTypedOperands o j x whole) (sym (written_is right k f))
    (record { left_place = place_of left; right_place = place_of right; left = sj; right = sk; none = none; is = is }))

module _ (known : Known) (p : Placing) (loops : List ℕ) where
  -- an index that breaks no rule is a number
  pub index_integer : (t : Term) → IsKnown known p loops t → index_breaches (found t) (place_of t) ≡ [] → IsInteger (kind_written t)
  index_integer t k h = subst IsInteger (sym (written_is t k.kind k.is)) (integer_of k.kind (k.operand 0).sized (is_index (found t) k.kind (place_of t) k.is h))

  -- as many indices as dimensions
  indices_counted : (n : ℕ) (r : Ref) (o : Option Fact) (f : Fact) (place : Place) (ts : Terms) → r.entity ≡ Some n → o ≡ Some f → IsGood known p loops n f → access_breaches o place ts ≡ [] → all_found ts ≡ true
      → count_of ts ≡ length (dims_named known (table_known known) r)
  indices_counted n r o f place ts entity at g e a = cases f g (ap (λ x. access_breaches x place ts) (sym at) ∙ e)
    where
      cases : (f : Fact) → IsGood known p loops n f → access_breaches (Some f) place ts ≡ [] → count_of ts ≡ length (dims_named known (table_known known) r)
      cases (of_variable k) g e = not_none _ _ e
      cases (of_iterator k) g e = not_none _ _ e
      cases (of_function parameters) g e = not_none _ _ e
      cases (of_memory k dims) (inr v) e =
          same_count (count_of ts) dims (one_count (all_found ts) (count_of ts == dims) place a e)
          ∙ (v.long ∙ sym (ap (λ (w : Option Way). length (dims_by (dims_at (table_known known) (memory_of known r)) w)) (ap (way_at known.memories known.ways) entity ∙ v.is)))
      cases (of_memory k dims) (inl g) e =
          same_count (count_of ts) dims (one_count (all_found ts) (count_of ts == dims) place a e)
          ∙ (g.long ∙ (ap length (sym (dims_found known r g.memory (ap (memory_in known.memories) entity ∙ g.is)))
          ∙ sym (ap (λ (w : Option Way). length (dims_by (dims_at (table_known known) (memory_of known r)) w)) (memory_way known r g.memory (ap (memory_in known.memories) entity ∙ g.is)))))

  module _ (rules : Rules) (good : AreGoodWays known rules.views) where
    mutual
      pub term_typed : (facts : Facts) (bs : List ScopeEntry) → Knows known p loops facts bs → (want : Option Kind) → IsSized want → (t : Term) → typed_term facts want t ≡ t → IsReady known rules facts bs t → IsTyped known (table_known known) t
      term_typed facts bs k want s (term place m (number negative n)) e h = tt
      term_typed facts bs k want s (term place m (truth_value value)) e h = tt
      term_typed facts bs k want s (term place m (named r)) e h = tt
      term_typed facts bs k want s (term place m (accessed r indices)) e h =
          let whole = term_known known p loops rules good facts bs k want s (term place m (accessed r indices)) e h in
          let parts = typed_parts facts want place m (accessed r indices) e in
          let typed : typed_terms facts indices ≡ indices = let eq = parts.0 in cc in
          let same : used bs r ≡ r = let eq = h.named in cc in
          let named : resolved_terms bs indices ≡ indices = let eq = h.named in cc in
          let name = name_known known p loops facts bs r k same (first_none (unknown bs r) _ h.visible) in
          let ready : AreReady known rules facts bs indices = record {
            named = named;
            visible = second_none (unknown bs r) _ h.visible;
            kinds = second_none (access_breaches (fact_of facts r) place indices) _ h.kinds;
            indices = second_none (places.access_index_breaches rules.counters (kept_dims (memory_in known.memories r.entity)) indices) _ h.indices;
            views = second_none (places.access_index_breaches rules.counters (dims_through (view_in rules.kept r.entity)) indices) _ h.views;
            sized = h.sized;
          } in
          let inner = terms_known known p loops rules good facts bs k indices typed ready in (
            terms_typed facts bs k indices typed ready,
            record {
              there = access_there (table_known known) (memory_of known r) (way_of known r) (core_terms known 0 indices) (whole.operand 0).suits;
              many = indices_counted name.number r (fact_of facts r) name.stands.fact place indices name.entity (fact_is known p loops facts r name) name.stands.good
                  (first_none (access_breaches (fact_of facts r) place indices) _ h.kinds) inner.found;
            },
          )
      term_typed facts bs k want s (term place m (in_bank r bank bank_place row)) e h =
          let whole = term_known known p loops rules good facts bs k want s (term place m (in_bank r bank bank_place row)) e h in
          let parts = typed_parts facts want place m (in_bank r bank bank_place row) e in
          let typed : typed_term facts None row ≡ row = let eq = parts.0 in cc in
          let named : resolved_term bs row ≡ row = let eq = h.named in cc in
          let below = second_none (bank_breaches (fact_of facts r) place) _ h.kinds in
          let physical : List Breach = physical_breaches (kept_dims (memory_in known.memories r.entity)) bank bank_place row in
          let ready : IsReady known rules facts bs row = record {
            named = named;
            visible = second_none (unknown bs r) _ h.visible;
            kinds = second_none (index_breaches (found row) (place_of row)) _ below;
            indices = second_none physical _ h.indices;
            views = second_none (physical_broken (view_in rules.views r.entity) r) _ h.views;
            sized = h.sized;
          } in
          let inner = term_known known p loops rules good facts bs k None tt row typed ready in (
            (term_typed facts bs k None tt row typed ready, index_integer row inner (first_none (index_breaches (found row) (place_of row)) _ below)),
            (whole.operand 0).suits.0,
          )
      term_typed facts bs k want s (term place m (applied o left right)) e h =
          let parts = typed_parts facts want place m (applied o left right) e in
          let left_typed : typed_term facts (left_want o want (is_bare left) (is_bare right) (found (typed_term facts None right))) left ≡ left = let eq = parts.0 in cc in
          let right_typed : typed_term facts (right_want o want (is_bare left) (is_bare right) (found (typed_term facts None left))) right ≡ right = let eq = parts.0 in cc in
          let left_named : resolved_term bs left ≡ left = let eq = h.named in cc in
          let right_named : resolved_term bs right ≡ right = let eq = h.named in cc in
          let breaches : List Breach = applied_breaches o (place_of left) (place_of right) (found left) (found right) in
          let below = second_none breaches _ h.kinds in
          let left_ready : IsReady known rules facts bs left = record {
            named = left_named;
            visible = first_none (term_breaches bs left) _ h.visible;
            kinds = first_none (term_kind_breaches facts left) _ below;
            indices = first_none (term_index_breaches (indexed known rules) left) _ h.indices;
            views = first_none (term_view_breaches (judged known rules) left) _ h.views;
            sized = h.sized.0;
          } in
          let right_ready : IsReady known rules facts bs right = record {
            named = right_named;
            visible = second_none (term_breaches bs left) _ h.visible;
            kinds = second_none (term_kind_breaches facts left) _ below;
            indices = second_none (term_index_breaches (indexed known rules) left) _ h.indices;
            views = second_none (term_view_breaches (judged known rules) left) _ h.views;
            sized = h.sized.1;
          } in
          let both = operands_right known p loops (IsTyped known (table_known known)) facts o want left right (is_bare left) (is_bare right) s
          (λ w z f. (term_known known p loops rules good facts bs k w z left f left_ready, term_typed facts bs k w z left f left_ready))
          (λ w z f. (term_known known p loops rules good facts bs k w z right f right_ready, term_typed facts bs k w z right f right_ready))
          left_typed right_typed in
          let l : IsKnown known p loops left = both.0.0 in
          let r : IsKnown known p loops right = both.1.0 in
          let at = applied_known (place_of left) (place_of right) o (found left) (found right) l.kind r.kind l.is r.is (first_none breaches _ h.kinds) in (
            (both.0.1, both.1.1),
            operands_written o left right l.kind r.kind (kind_or_first m) l.is r.is (ap kind_or_first (parts.1 ∙ at.1)) (l.operand 0).sized (r.operand 0).sized at.0,
          )
      term_typed facts bs k want s (term place m (converted inner to)) e h =
          let parts = typed_parts facts want place m (converted inner to) e in
          let typed : typed_term facts (for_numbers (Some to)) inner ≡ inner = let eq = parts.0 in cc in
          let named : resolved_term bs inner ≡ inner = let eq = h.named in cc in
          term_typed facts bs k (for_numbers (Some to)) (for_numbers_sized (Some to) h.sized.0) inner typed (record {
            named = named;
            visible = h.visible;
            kinds = second_none (cast_breaches place (found inner) to) _ h.kinds;
            indices = h.indices;
            views = h.views;
            sized = h.sized.1;
          })

      pub terms_typed : (facts : Facts) (bs : List ScopeEntry) → Knows known p loops facts bs → (ts : Terms) → typed_terms facts ts ≡ ts → AreReady known rules facts bs ts → AreTyped known (table_known known) ts
      terms_typed facts bs k no_terms e h = tt
      terms_typed facts bs k (term_then t rest) e h =
          let first_typed : typed_term facts None t ≡ t = cc in
          let rest_typed : typed_terms facts rest ≡ rest = cc in
          let first_named : resolved_term bs t ≡ t = let eq = h.named in cc in
          let rest_named : resolved_terms bs rest ≡ rest = let eq = h.named in cc in
          let below = second_none (index_breaches (found t) (place_of t)) _ h.kinds in
          let ready : IsReady known rules facts bs t = record {
            named = first_named;
            visible = first_none (term_breaches bs t) _ h.visible;
            kinds = first_none (term_kind_breaches facts t) _ below;
            indices = first_none (term_index_breaches (indexed known rules) t) _ h.indices;
            views = first_none (term_view_breaches (judged known rules) t) _ h.views;
            sized = h.sized.0;
          } in (
            (
              term_typed facts bs k None tt t first_typed ready,
              index_integer t (term_known known p loops rules good facts bs k None tt t first_typed ready) (first_none (index_breaches (found t) (place_of t)) _ h.kinds),
            ),
            terms_typed facts bs k rest rest_typed (record {
              named = rest_named;
              visible = second_none (term_breaches bs t) _ h.visible;
              kinds = second_none (term_kind_breaches facts t) _ below;
              indices = second_none (term_index_breaches (indexed known rules) t) _ h.indices;
              views = second_none (term_view_breaches (judged known rules) t) _ h.views;
              sized = h.sized.1;
            }),
          )
