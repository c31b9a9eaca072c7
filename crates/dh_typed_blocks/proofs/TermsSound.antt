-- An expression of a typed program that breaks no rule on names, kinds or indices is sound: its kinds are as its operators
-- give them, and its memories and banks have numbers of 32 bits. What is known of its names is asked of a premise, by
-- what is known of the names that are visible. By recursion beside that of dh_runnable.
use Rattle.std.proofs.Common.{◌≡◌, inl, inr, ℕ, ◌<◌, ◌≤◌, ◌^◌, List, [], ◌∷◌, Option, Some, None, refl, ap, sym, ◌∙◌, subst, arith}
use Rattle.std.specs.List.{AllByRecursion}
use Rattle.std.specs.Option.{is_some}
use Rattle.dh_base.specs.declared.places.Place.{Place}
use Rattle.dh_value.specs.declared.kinds.Kind.{Kind}
use Rattle.dh_value.specs.declared.kinds.Kind.TheVariants as kind
use Rattle.dh_tree.specs.declared.breaches.Breach.{Breach}
use Rattle.dh_tree.specs.declared.trees.expressions.Ref.{Ref}
use Rattle.dh_tree.specs.Breaches.{unknown, term_breaches}
use Rattle.dh_tree.specs.Indices as places
use Rattle.dh_tree.specs.Indices.{kept_dims, physical_breaches, term_index_breaches}
use Rattle.dh_tree.specs.KindBreaches.{term_kind_breaches}
use Rattle.dh_tree.specs.Kinds.{Fact, of_variable, of_iterator, of_memory, of_function, Facts, fact_of, for_numbers, is_bare, found, place_of, left_want, right_want, applied_kind, applied_breaches, value_kind, index_breaches, access_breaches, bank_breaches, cast_breaches, typed_term, typed_terms}
use Rattle.dh_tree.specs.Memories.{memory_in}
use Rattle.dh_tree.specs.PlainTrees.{Term, term, TermForm, number, truth_value, named, accessed, in_bank, applied, converted, Terms, no_terms, term_then}
use Rattle.dh_tree.specs.Resolved.{used, resolved_term, resolved_terms}
use Rattle.dh_tree.specs.Scopes as scopes
use Rattle.dh_tree.specs.ViewBreaches.{dims_through, physical_broken, term_view_breaches}
use Rattle.dh_tree.specs.Views.{view_in}
use Rattle.dh_tree.specs.Widths.{IsSized}
use Rattle.dh_tree.proofs.EmptyLists.{first_none, second_none, not_none}
use Rattle.dh_meaning.specs.Bindings.{Binding, binding_in, depth_bound, kind_bound, kind_or_first}
use Rattle.dh_meets.specs.Charges.{binding_depends, entity_depends}
use Rattle.dh_meaning.specs.CoreOf.{Known, core_terms, memory_of, way_of}
use Rattle.dh_meaning.specs.Ways.{Hidden, Way, hidden_binding, hidden_in, way_at, way_in}
use Rattle.dh_sound.specs.SameKeys.{EachName, EachNameOf, IsNoIterator}
use Rattle.dh_runnable.specs.ActionsRun.{table_known}
use Rattle.dh_runnable.proofs.NamesKnown.{IsVariable, IsGood, Knows, name_known, fact_is}
use Rattle.dh_runnable.proofs.TermsSuited.{access_there, indexed, judged, memory_way, not_viewed, way_found, IsReady, AreReady, IsKnown, term_known}
use Rattle.dh_runnable.proofs.TypedParts.{for_numbers_sized, typed_parts}
use Rattle.dh_runnable.proofs.ViewsKnown.{AreGoodWays, AreKept, IsKept, Rules}
use Rattle.dh_code.specs.Slots.{Placing}
use Rattle.dh_code.specs.Suited.{IsInside}
use Rattle.dh_blocks.specs.SoundTerms.{IsSound, IsSoundForm, IsSoundHidden, IsSoundWay, IsUnbound, AreSound, kept_name}
use Rattle.dh_typed_blocks.specs.PlainPrograms.{AreFewMemories, IsKeptFor}
use Rattle.dh_typed_blocks.proofs.KindsGiven.{gives, gives_written, applied_known}
use Rattle.dh_typed_blocks.proofs.OperandsRight.{operands_right}

below_more : (a b c : ℕ) → a < b → b ≤ c → a < c
below_more a b c l m = omega (arith, l, m)

module _ (known : Known) (p : Placing) (loops : List ℕ) (few : AreFewMemories known) (Near : Ref → Type 0) (Name : Ref → Kind → Type 0)
    (to_name : (r : Ref) (n : ℕ) (k : Kind) → r.entity ≡ Some n → IsVariable known p loops n k → Near r → Name r k)
    (near_kept : (h : Hidden) → binding_in known.bindings h.entity ≡ Some (hidden_binding h) → Near (kept_name h)) where
  -- a form that is sound at the kind that was found
  of_form : (place : Place) (m : Option Kind) (k : Kind) (form : TermForm) → m ≡ Some k → IsSoundForm known (table_known known) Name k form → IsSound known (table_known known) Name (term place m form)
  of_form place m k form e s = subst (λ (j : Kind). IsSoundForm known (table_known known) Name j form) (sym (ap kind_or_first e)) s

  -- a name that has a kind is of a variable
  variable_named : (n : ℕ) (f : Fact) (k : Kind) → IsGood known p loops n f → value_kind (Some f) ≡ Some k → IsVariable known p loops n k
  variable_named n (of_variable None) k g e = absurd g
  variable_named n (of_variable (Some j)) k g e = let same : j ≡ k = cc in subst (λ (x : Kind). IsVariable known p loops n x) same g
  variable_named n (of_iterator j) k g e = let same : j ≡ k = cc in subst (λ (x : Kind). IsVariable known p loops n x) same g
  variable_named n (of_memory j dims) k g e = absurd cc
  variable_named n (of_function parameters) k g e = absurd cc

  -- what is a memory is no variable, and depends on no loop; no physical access goes through a view
  memory_unbound : (rules : Rules) (good : AreGoodWays known rules.views) (n : ℕ) (r : Ref) (o : Option Fact) (f : Fact) (place : Place) → r.entity ≡ Some n → o ≡ Some f → IsGood known p loops n f → bank_breaches o place ≡ []
      → physical_broken (view_in rules.views r.entity) r ≡ [] → IsUnbound known r
  memory_unbound rules good n r o f place entity at g e direct =
      λ level. ap (λ (x : Option ℕ). entity_depends known.bindings level x) entity ∙ ap (binding_depends level) (cases f g (ap (λ x. bank_breaches x place) (sym at) ∙ e))
    where
      cases : (f : Fact) → IsGood known p loops n f → bank_breaches (Some f) place ≡ [] → binding_in known.bindings n ≡ None
      cases (of_variable k) g e = not_none _ _ e
      cases (of_iterator k) g e = not_none _ _ e
      cases (of_function parameters) g e = not_none _ _ e
      cases (of_memory k dims) (inl g) e = few.unbound n g.memory g.is
      cases (of_memory k dims) (inr v) e =
          absurd
          (not_viewed (is_some (view_in rules.views r.entity)) _
          (ap (λ z. is_some (view_in rules.views z)) entity ∙ good.seen (Some n) v.way (way_found (memory_in known.memories (Some n)) (way_in known.ways (Some n)) v.way v.is)) direct)

  -- what keeps an offset on the way of a view
  hidden_sound : (r : Ref) (h : Hidden) → IsKeptFor known r h → IsKept p loops h → IsSoundHidden known (table_known known) Name r h
  hidden_sound r h f k = record {
    named =
        to_name (kept_name h) h.entity h.kind refl
        (record {
          sized = k.sized;
          placed = record { bound = ap kind_bound f.found; inside = subst (λ (d : ℕ). IsInside p loops d h.entity) (sym (ap depth_bound f.found)) k.inside };
        })
        (near_kept h f.found);
    deep = sym (ap depth_bound f.found);
    plain = subst (λ (b : Option Binding). IsNoIterator b) (sym f.found) refl;
    less = f.less;
  }

  all_sound : (r : Ref) (hs : List Hidden) → AllByRecursion (IsKeptFor known r) hs → AreKept p loops hs → AllByRecursion (λ (h : Hidden). IsSoundHidden known (table_known known) Name r h) hs
  all_sound r [] f k = tt
  all_sound r (h ∷ hs) f k = (hidden_sound r h f.0 k.0, all_sound r hs f.1 k.1)

  abbrev WaySound : Ref → Option Way → Type 0
  WaySound r o = AllByRecursion (λ (h : Hidden). IsSoundHidden known (table_known known) Name r h) (hidden_in o)

  -- the way of what is accessed
  way_sound : (n : ℕ) (r : Ref) (o : Option Fact) (f : Fact) (place : Place) (ts : Terms) → r.entity ≡ Some n → o ≡ Some f → IsGood known p loops n f → access_breaches o place ts ≡ [] → IsSoundWay known (table_known known) Name r
  way_sound n r o f place ts entity at g e = cases f g (ap (λ x. access_breaches x place ts) (sym at) ∙ e)
    where
      cases : (f : Fact) → IsGood known p loops n f → access_breaches (Some f) place ts ≡ [] → IsSoundWay known (table_known known) Name r
      cases (of_variable k) g e = not_none _ _ e
      cases (of_iterator k) g e = not_none _ _ e
      cases (of_function parameters) g e = not_none _ _ e
      cases (of_memory k dims) (inl g) e = subst (λ (w : Option Way). WaySound r w) (sym (memory_way known r g.memory (ap (memory_in known.memories) entity ∙ g.is))) tt
      cases (of_memory k dims) (inr v) e =
          let way : way_of known r ≡ Some v.way = ap (way_at known.memories known.ways) entity ∙ v.is in
          subst (λ (w : Option Way). WaySound r w) (sym way) (all_sound r v.way.hidden (few.kept r n v.way entity way) v.kept)

  module _ (rules : Rules) (good : AreGoodWays known rules.views) where
    mutual
      pub term_sound : (facts : Facts) (bs : List scopes.ScopeEntry) → Knows known p loops facts bs → (want : Option Kind) → IsSized want → (t : Term) → typed_term facts want t ≡ t → IsReady known rules facts bs t
          → EachName Near t → IsSound known (table_known known) Name t
      term_sound facts bs k want s (term place m (number negative n)) e h near =
          let whole = term_known known p loops rules good facts bs k want s (term place m (number negative n)) e h in
          of_form place m whole.kind (number negative n) whole.is (whole.operand 0).sized
      term_sound facts bs k want s (term place m (truth_value value)) e h near =
          of_form place m kind.Bool (truth_value value) (typed_parts facts want place m (truth_value value) e).1 refl
      term_sound facts bs k want s (term place m (named r)) e h near =
          let whole = term_known known p loops rules good facts bs k want s (term place m (named r)) e h in
          let same : used bs r ≡ r = let eq = h.named in cc in
          let name = name_known known p loops facts bs r k same h.visible in
          let is : value_kind (fact_of facts r) ≡ Some whole.kind = sym (typed_parts facts want place m (named r) e).1 ∙ whole.is in
          let stands = variable_named name.number name.stands.fact whole.kind name.stands.good (sym (ap value_kind (fact_is known p loops facts r name)) ∙ is) in
          of_form place m whole.kind (named r) whole.is (to_name r name.number whole.kind name.entity stands near, stands.sized)
      term_sound facts bs k want s (term place m (accessed r indices)) e h near =
          let whole = term_known known p loops rules good facts bs k want s (term place m (accessed r indices)) e h in
          let parts = typed_parts facts want place m (accessed r indices) e in
          let typed : typed_terms facts indices ≡ indices = let eq = parts.0 in cc in
          let named : resolved_terms bs indices ≡ indices = let eq = h.named in cc in
          let inner = terms_sound facts bs k indices typed (record {
            named = named;
            visible = second_none (unknown bs r) _ h.visible;
            kinds = second_none (access_breaches (fact_of facts r) place indices) _ h.kinds;
            indices = second_none (places.access_index_breaches rules.counters (kept_dims (memory_in known.memories r.entity)) indices) _ h.indices;
            views = second_none (places.access_index_breaches rules.counters (dims_through (view_in rules.kept r.entity)) indices) _ h.views;
            sized = h.sized;
          }) near in
          let there = access_there (table_known known) (memory_of known r) (way_of known r) (core_terms known 0 indices) (whole.operand 0).suits in
          let low = below_more _ _ (2 ^ 32) there few.memories in
          let same : used bs r ≡ r = let eq = h.named in cc in
          let name = name_known known p loops facts bs r k same (first_none (unknown bs r) _ h.visible) in
          let way = way_sound name.number r (fact_of facts r) name.stands.fact place indices name.entity (fact_is known p loops facts r name) name.stands.good (first_none (access_breaches (fact_of facts r) place indices) _ h.kinds) in
          of_form place m whole.kind (accessed r indices) whole.is ((inner, way), (low, sym (whole.operand 0).kind))
      term_sound facts bs k want s (term place m (in_bank r bank bank_place row)) e h near =
          let whole = term_known known p loops rules good facts bs k want s (term place m (in_bank r bank bank_place row)) e h in
          let parts = typed_parts facts want place m (in_bank r bank bank_place row) e in
          let typed : typed_term facts None row ≡ row = let eq = parts.0 in cc in
          let named : resolved_term bs row ≡ row = let eq = h.named in cc in
          let below = second_none (bank_breaches (fact_of facts r) place) _ h.kinds in
          let physical : List Breach = physical_breaches (kept_dims (memory_in known.memories r.entity)) bank bank_place row in
          let inner = term_sound facts bs k None tt row typed (record {
            named = named;
            visible = second_none (unknown bs r) _ h.visible;
            kinds = second_none (index_breaches (found row) (place_of row)) _ below;
            indices = second_none physical _ h.indices;
            views = second_none (physical_broken (view_in rules.views r.entity) r) _ h.views;
            sized = h.sized;
          }) near in
          let low = below_more _ _ (2 ^ 32) (whole.operand 0).suits.0.0 few.memories in
          let bank_low = below_more bank _ (2 ^ 32) (whole.operand 0).suits.0.1 (few.banks (memory_of known r)) in
          let same : used bs r ≡ r = let eq = h.named in cc in
          let name = name_known known p loops facts bs r k same (first_none (unknown bs r) _ h.visible) in
          let unbound = memory_unbound rules good name.number r (fact_of facts r) name.stands.fact place name.entity (fact_is known p loops facts r name) name.stands.good (first_none (bank_breaches (fact_of facts r) place) _ h.kinds)
          (first_none (physical_broken (view_in rules.views r.entity) r) _ h.views) in
          of_form place m whole.kind (in_bank r bank bank_place row) whole.is (inner, (low, (bank_low, (sym (whole.operand 0).kind, unbound))))
      term_sound facts bs k want s (term place m (applied o left right)) e h near =
          let whole = term_known known p loops rules good facts bs k want s (term place m (applied o left right)) e h in
          let parts = typed_parts facts want place m (applied o left right) e in
          let left_typed : typed_term facts (left_want o want (is_bare left) (is_bare right) (found (typed_term facts None right))) left ≡ left = let eq = parts.0 in cc in
          let right_typed : typed_term facts (right_want o want (is_bare left) (is_bare right) (found (typed_term facts None left))) right ≡ right = let eq = parts.0 in cc in
          let left_named : resolved_term bs left ≡ left = let eq = h.named in cc in
          let right_named : resolved_term bs right ≡ right = let eq = h.named in cc in
          let breaches : List Breach = applied_breaches o (place_of left) (place_of right) (found left) (found right) in
          let below = second_none breaches _ h.kinds in
          let left_ready : IsReady known rules facts bs left = record {
            named = left_named;
            visible = first_none (term_breaches bs left) _ h.visible;
            kinds = first_none (term_kind_breaches facts left) _ below;
            indices = first_none (term_index_breaches (indexed known rules) left) _ h.indices;
            views = first_none (term_view_breaches (judged known rules) left) _ h.views;
            sized = h.sized.0;
          } in
          let right_ready : IsReady known rules facts bs right = record {
            named = right_named;
            visible = second_none (term_breaches bs left) _ h.visible;
            kinds = second_none (term_kind_breaches facts left) _ below;
            indices = second_none (term_index_breaches (indexed known rules) left) _ h.indices;
            views = second_none (term_view_breaches (judged known rules) left) _ h.views;
            sized = h.sized.1;
          } in
          let both = operands_right known p loops (IsSound known (table_known known) Name) facts o want left right (is_bare left) (is_bare right) s
          (λ w z f. (term_known known p loops rules good facts bs k w z left f left_ready, term_sound facts bs k w z left f left_ready near.0))
          (λ w z f. (term_known known p loops rules good facts bs k w z right f right_ready, term_sound facts bs k w z right f right_ready near.1))
          left_typed right_typed in
          let l : IsKnown known p loops left = both.0.0 in
          let r : IsKnown known p loops right = both.1.0 in
          let at = applied_known (place_of left) (place_of right) o (found left) (found right) l.kind r.kind l.is r.is (first_none breaches _ h.kinds) in
          let given = gives o (place_of left) (place_of right) l.kind r.kind (l.operand 0).sized (r.operand 0).sized at.0 in
          of_form place m (applied_kind o l.kind r.kind) (applied o left right) (parts.1 ∙ at.1)
          ((both.0.1, both.1.1), gives_written o left right l.kind r.kind (applied_kind o l.kind r.kind) l.is r.is refl given)
      term_sound facts bs k want s (term place m (converted inner to)) e h near =
          let whole = term_known known p loops rules good facts bs k want s (term place m (converted inner to)) e h in
          let parts = typed_parts facts want place m (converted inner to) e in
          let typed : typed_term facts (for_numbers (Some to)) inner ≡ inner = let eq = parts.0 in cc in
          let named : resolved_term bs inner ≡ inner = let eq = h.named in cc in
          let i = term_sound facts bs k (for_numbers (Some to)) (for_numbers_sized (Some to) h.sized.0) inner typed (record {
            named = named;
            visible = h.visible;
            kinds = second_none (cast_breaches place (found inner) to) _ h.kinds;
            indices = h.indices;
            views = h.views;
            sized = h.sized.1;
          }) near in
          of_form place m whole.kind (converted inner to) whole.is (i, ((whole.operand 0).suits.0, sym (whole.operand 0).kind))

      pub terms_sound : (facts : Facts) (bs : List scopes.ScopeEntry) → Knows known p loops facts bs → (ts : Terms) → typed_terms facts ts ≡ ts → AreReady known rules facts bs ts → EachNameOf Near ts
          → AreSound known (table_known known) Name ts
      terms_sound facts bs k no_terms e h near = tt
      terms_sound facts bs k (term_then t rest) e h near =
          let first_typed : typed_term facts None t ≡ t = cc in
          let rest_typed : typed_terms facts rest ≡ rest = cc in
          let first_named : resolved_term bs t ≡ t = let eq = h.named in cc in
          let rest_named : resolved_terms bs rest ≡ rest = let eq = h.named in cc in
          let below = second_none (index_breaches (found t) (place_of t)) _ h.kinds in (
            term_sound facts bs k None tt t first_typed (record {
              named = first_named;
              visible = first_none (term_breaches bs t) _ h.visible;
              kinds = first_none (term_kind_breaches facts t) _ below;
              indices = first_none (term_index_breaches (indexed known rules) t) _ h.indices;
              views = first_none (term_view_breaches (judged known rules) t) _ h.views;
              sized = h.sized.0;
            }) near.0,
            terms_sound facts bs k rest rest_typed (record {
              named = rest_named;
              visible = second_none (term_breaches bs t) _ h.visible;
              kinds = second_none (term_kind_breaches facts t) _ below;
              indices = second_none (term_index_breaches (indexed known rules) t) _ h.indices;
              views = second_none (term_view_breaches (judged known rules) t) _ h.views;
              sized = h.sized.1;
            }) near.1,
          )
