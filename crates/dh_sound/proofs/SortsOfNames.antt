-- What a visible name stands for, by what is known of its entity: a memory that is declared, a view that has a way, a
-- function, or a variable or an iterator that is declared inside the unrolled loops round the point where it is numbered
-- inside the innermost of them. So an access of a typed program that breaks no rule on kinds is of a memory, or leads to
-- one, and what is assigned to is a variable or an iterator. Every name has the entity that it stands for where it is
-- visible.
use Rattle.std.proofs.Common.{◌≡◌, ℕ, suc, ◌≤◌, nat_lt, Bool, true, false, if◌then◌else◌, List, [], ◌∷◌, ◌++◌, length, Option, Some, None, refl, sym, ◌∙◌, ap, subst, arith, ◌⊎◌, inl, inr}
use Rattle.std.specs.Prelude.{slice_get}
use Rattle.std.specs.Option.{option_map}
use Rattle.std.proofs.lemmas.Option.{slice_get_within}
use Rattle.std.proofs.lemmas.Bool.Decides.{nat_tests}
use Rattle.dh_base.specs.declared.places.Place.{Place}
use Rattle.dh_value.specs.declared.kinds.Kind.{Kind}
use Rattle.dh_value.specs.declared.kinds.Kind.TheVariants as kind
use Rattle.dh_tree.specs.declared.trees.expressions.Ref.{Ref}
use Rattle.dh_tree.specs.declared.trees.programs.Sort.{Sort}
use Rattle.dh_tree.specs.Breaches.{unknown, term_breaches, terms_breaches, maybe_value_breaches}
use Rattle.dh_tree.specs.KindBreaches.{term_kind_breaches, indices_kind_breaches, assigned_breaches, maybe_breaches, target_breaches}
use Rattle.dh_tree.specs.Kinds.{Fact, of_variable, of_iterator, of_memory, of_function, Facts, fact_at, fact_of, found, place_of, when, index_breaches, access_breaches, bank_breaches, applied_breaches, cast_breaches, variable_fact}
use Rattle.dh_tree.specs.Memories.{Memory, same_entity, memory_in, memories_of}
use Rattle.dh_tree.specs.PlainTrees.{Term, term, number, truth_value, named, accessed, in_bank, applied, converted, Terms, no_terms, term_then, Action, action, lets, lets_memory, views, assigns, stores, reduces, calls, blocks, decides, repeats, counts, Program}
use Rattle.dh_tree.specs.Resolved.{resolved_term, resolved_terms}
use Rattle.dh_tree.specs.Scopes.{ScopeEntry, binding, entity_of, is_visible, bind, Scope, declare, past, at_end}
use Rattle.dh_tree.proofs.EmptyLists.{first_none, second_none, not_none}
use Rattle.dh_meaning.specs.Bindings.{binding_in, depth_bound}
use Rattle.dh_meaning.specs.CoreOf.{known_of, entity_number, depth_of}
use Rattle.dh_meets.specs.SourceEvents.{with_indices, in_row, Site, one_access, source_term_events, source_terms_events, maybe_events, write_events}
use Rattle.dh_sound.specs.BlockTold.{IsOfMemory}
use Rattle.dh_tree.specs.Placements.{is_from_outside}
use Rattle.dh_sound.specs.Trails.{EachAccess}
use Rattle.dh_sound.proofs.DepthsNamed.{size}
use Rattle.dh_sound.proofs.FactsGrow.{Extends, appended, added_last, InStep}
use Rattle.dh_sound.proofs.KindsOfCommands.{added_found}
use Rattle.dh_sound.proofs.NamedPrograms.{used_stands}
use Rattle.dh_carried.proofs.Pigeons.{Has}
use Rattle.dh_sound.proofs.Sites.{each_both}
use Rattle.dh_meaning.specs.Ways.{Way, all_bindings_of, base_of, way_to}
use Rattle.dh_ways.specs.Leading.{LeadsTo}
use Rattle.dh_ways.proofs.MemoriesUnled.{memory_unled}
use Rattle.dh_sound.proofs.ViewsLed.{IsNamed}

-- Memories.

-- an entity is a memory of the program
abbrev pub IsMemory : Program → ℕ → Type 0
IsMemory p n = (m : Memory) × (memory_in (memories_of p) (Some n) ≡ Some m)

-- a memory that is declared is found
pub memory_found : (ms : List Memory) (m : Memory) (n : ℕ) → Has m ms → m.name.entity ≡ Some n → (found : Memory) × (memory_in ms (Some n) ≡ Some found)
memory_found [] m n h e = elim h [ ]
memory_found (y ∷ ys) m n h e = by (same_entity y.name.entity (Some n)) refl h (memory_found ys m n)
  where
    own : (o : Option ℕ) → o ≡ Some n → same_entity o (Some n) ≡ true
    own None f = cc
    own (Some k) f = let s : k ≡ n = cc in grind (arith, nat_tests, s)

    by : (b : Bool) → same_entity y.name.entity (Some n) ≡ b → (m ≡ y) ⊎ Has m ys → (Has m ys → m.name.entity ≡ Some n → (x : Memory) × (memory_in ys (Some n) ≡ Some x))
        → (x : Memory) × ((if b then Some y else memory_in ys (Some n)) ≡ Some x)
    by true f g more = (y, refl)
    by false f (inl same) more = let t = own y.name.entity (ap (λ (x : Memory). x.name.entity) (sym same) ∙ e) in absurd cc
    by false f (inr g) more = more g e

-- an entity is a view that has a way
abbrev pub IsView : Program → ℕ → Type 0
IsView p n = (w : Way) × (way_to p (Some n) ≡ Some w)

none_named : (o : Option ℕ) → same_entity o None ≡ false
none_named None = refl
none_named (Some n) = refl

none_there : (ms : List Memory) → memory_in ms None ≡ None
none_there [] = refl
none_there (m ∷ ms) = ap (λ t. if t then Some m else memory_in ms None) (none_named m.name.entity) ∙ none_there ms

-- what a memory is found of is an entity
some_memory : (ms : List Memory) (o : Option ℕ) (m : Memory) → memory_in ms o ≡ Some m → (n : ℕ) × (o ≡ Some n)
some_memory ms None m e = absurd (wrong (sym (none_there ms) ∙ e))
  where
    wrong : None ≡ Some m → ⊥
    wrong f = cc
some_memory ms (Some n) m e = (n, refl)

-- Names.

-- an entity that is numbered inside the innermost unrolled loop is declared inside so many
abbrev pub IsDeepFrom : Program → (first depth n : ℕ) → Type 0
IsDeepFrom p first depth n = first ≤ n → depth ≤ depth_bound (binding_in (all_bindings_of p) n)

-- What an entity is, at a point of the text inside so many unrolled loops, with the first number inside the innermost.
pub data IsSorted (p : Program) (facts : Facts) (first depth n : ℕ) : Type 0 where
  memory_is : (k : Option Kind) → (dims : ℕ) → slice_get facts n ≡ Some (of_memory k dims) → IsMemory p n → IsSorted p facts first depth n
  view_is : (k : Option Kind) → (dims : ℕ) → slice_get facts n ≡ Some (of_memory k dims) → IsView p n → IsSorted p facts first depth n
  variable_is : (k : Option Kind) → slice_get facts n ≡ Some (of_variable k) → IsDeepFrom p first depth n → IsSorted p facts first depth n
  iterator_is : (k : Kind) → slice_get facts n ≡ Some (of_iterator k) → IsDeepFrom p first depth n → IsSorted p facts first depth n
  function_is : (ks : List Kind) → slice_get facts n ≡ Some (of_function ks) → IsSorted p facts first depth n

-- and so each name that is visible
abbrev pub AreSorted : Program → Facts → (first depth : ℕ) → List ScopeEntry → Type 0
AreSorted p facts first depth bs = (name : List ℕ) (n : ℕ) → entity_of bs name ≡ Some n → IsSorted p facts first depth n

-- when more is known
pub later_sorted : (p : Program) (facts later : Facts) (first depth n : ℕ) → Extends later facts → IsSorted p facts first depth n → IsSorted p later first depth n
later_sorted p facts later first depth n x (memory_is k dims at m) = memory_is k dims (x n _ at) m
later_sorted p facts later first depth n x (view_is k dims at m) = view_is k dims (x n _ at) m
later_sorted p facts later first depth n x (variable_is k at deep) = variable_is k (x n _ at) deep
later_sorted p facts later first depth n x (iterator_is k at deep) = iterator_is k (x n _ at) deep
later_sorted p facts later first depth n x (function_is ks at) = function_is ks (x n _ at)

pub all_later : (p : Program) (facts later : Facts) (first depth : ℕ) (bs : List ScopeEntry) → Extends later facts → AreSorted p facts first depth bs → AreSorted p later first depth bs
all_later p facts later first depth bs x h name n e = later_sorted p facts later first depth n x (h name n e)

-- inside a loop, all that was numbered before stands outside
above_known : (p : Program) (facts : Facts) (f : Fact) (m depth n : ℕ) → m ≡ length facts → slice_get facts n ≡ Some f → IsDeepFrom p m depth n
above_known p facts f m depth n e at l = let b = slice_get_within facts n f at in let none : ⊥ = omega (arith, e, b, l) in elim none [ ]

pub inner_sorted : (t : Bool) (p : Program) (facts : Facts) (first depth n m : ℕ) → m ≡ length facts → IsSorted p facts first depth n
    → IsSorted p facts (if t then m else first) (if t then suc depth else depth) n
inner_sorted false p facts first depth n m e h = h
inner_sorted true p facts first depth n m e (memory_is k dims at i) = memory_is k dims at i
inner_sorted true p facts first depth n m e (view_is k dims at i) = view_is k dims at i
inner_sorted true p facts first depth n m e (variable_is k at deep) = variable_is k at (above_known p facts (of_variable k) m (suc depth) n e at)
inner_sorted true p facts first depth n m e (iterator_is k at deep) = iterator_is k at (above_known p facts (of_iterator k) m (suc depth) n e at)
inner_sorted true p facts first depth n m e (function_is ks at) = function_is ks at

-- a name that is bound
pub bind_sorted : (p : Program) (facts : Facts) (first depth : ℕ) (bs : List ScopeEntry) (name : List ℕ) (m : ℕ) → AreSorted p facts first depth bs → IsSorted p facts first depth m
    → AreSorted p facts first depth (bind bs name m)
bind_sorted p facts first depth bs name m k h other n e = either (is_visible bs name) e
  where
    either : (b : Bool) → entity_of (if b then bs else bs ++ binding name m ∷ []) other ≡ Some n → IsSorted p facts first depth n
    either true f = k other n f
    either false f = elim (added_found bs name other m n f) [ inl g ↦ k other n g | inr g ↦ subst (λ (x : ℕ). IsSorted p facts first depth x) g h ]

-- what was added last
pub next_fact : (facts : Facts) (s : Scope) (f : Fact) → InStep s facts → slice_get (facts ++ f ∷ []) (size s) ≡ Some f
next_fact facts s f l = ap (slice_get (facts ++ f ∷ [])) l ∙ added_last facts f

-- behind a declaration
pub declared_sorted : (p : Program) (facts : Facts) (s : Scope) (r : Ref) (k : Sort) (f : Fact) (first depth : ℕ) → AreSorted p facts first depth s.visible → IsSorted p (facts ++ f ∷ []) first depth (size s)
    → AreSorted p (facts ++ f ∷ []) first depth (declare s r k).visible
declared_sorted p facts s r k f first depth h g =
    bind_sorted p (facts ++ f ∷ []) first depth s.visible r.name (size s) (all_later p facts (facts ++ f ∷ []) first depth s.visible (appended facts (f ∷ [])) h) g

-- behind a command of a list
pub past_sorted : (p : Program) (facts : Facts) (first depth : ℕ) (s : Scope) (a : Action) → AreSorted p facts first depth s.visible → AreSorted p facts first depth (at_end s a).visible
    → AreSorted p facts first depth (past s a (at_end s a)).visible
past_sorted p facts first depth s (action id place (blocks body)) h i = h
past_sorted p facts first depth s (action id place (lets name declared value)) h i = i
past_sorted p facts first depth s (action id place (lets_memory name shape shape_places value)) h i = i
past_sorted p facts first depth s (action id place (views name parent form)) h i = i
past_sorted p facts first depth s (action id place (assigns target value)) h i = i
past_sorted p facts first depth s (action id place (stores target value)) h i = i
past_sorted p facts first depth s (action id place (reduces target o value)) h i = i
past_sorted p facts first depth s (action id place (calls function arguments)) h i = i
past_sorted p facts first depth s (action id place (decides test chosen other)) h i = i
past_sorted p facts first depth s (action id place (repeats test body)) h i = i
past_sorted p facts first depth s (action id place (counts iterator declared low high factor body combine combine_place)) h i = i

-- what a `let` declares
pub let_is : (declared : Option Kind) (value : Option Term) → (k : Option Kind) × (variable_fact declared value ≡ of_variable k)
let_is (Some k) value = (Some k, refl)
let_is None None = (Some kind.Bool, refl)
let_is None (Some t) = (found t, refl)

-- Accesses and assignments.
module _ (p : Program) (leads : (entity : Option ℕ) (w : Way) → way_to p entity ≡ Some w → LeadsTo (memories_of p) w) (facts : Facts) (first depth : ℕ) where
  pub fact_there : (r : Ref) (n : ℕ) (f : Fact) → r.entity ≡ Some n → slice_get facts n ≡ Some f → Some f ≡ fact_of facts r
  fact_there r n f is at = sym (ap (fact_at facts) is ∙ at)

  -- an entity of an access
  abbrev pub OfMemory : Option ℕ → Type 0
  OfMemory entity = (n : ℕ) × ((base_of (way_to p entity) entity ≡ Some n) × IsMemory p n)

  of_itself : (entity : Option ℕ) (n : ℕ) → entity ≡ Some n → IsMemory p n → OfMemory entity
  of_itself entity n is m = (n, (ap (λ o. base_of o entity) (memory_unled p entity m.0 (ap (memory_in (memories_of p)) is ∙ m.1)) ∙ is, m))

  of_view : (entity : Option ℕ) (n : ℕ) → entity ≡ Some n → IsView p n → OfMemory entity
  of_view entity n is (w, e) =
      let way : way_to p entity ≡ Some w = ap (λ o. way_to p o) is ∙ e in
      let lead = leads entity w way in
      let some = some_memory (memories_of p) w.memory lead.memory lead.found in
      (some.0, (ap (λ o. base_of o entity) way ∙ some.1, (lead.memory, ap (memory_in (memories_of p)) (sym some.1) ∙ lead.found)))

  access_of : (r : Ref) (n : ℕ) (place : Place) (indices : Terms) → r.entity ≡ Some n → IsSorted p facts first depth n → access_breaches (fact_of facts r) place indices ≡ [] → OfMemory r.entity
  access_of r n place indices is (memory_is k dims at m) e = of_itself r.entity n is m
  access_of r n place indices is (view_is k dims at m) e = of_view r.entity n is m
  access_of r n place indices is (variable_is k at deep) e = not_none _ _ (ap (λ o. access_breaches o place indices) (fact_there r n (of_variable k) is at) ∙ e)
  access_of r n place indices is (iterator_is k at deep) e = not_none _ _ (ap (λ o. access_breaches o place indices) (fact_there r n (of_iterator k) is at) ∙ e)
  access_of r n place indices is (function_is ks at) e = not_none _ _ (ap (λ o. access_breaches o place indices) (fact_there r n (of_function ks) is at) ∙ e)

  bank_of_memory : (r : Ref) (n : ℕ) (place : Place) → r.entity ≡ Some n → IsSorted p facts first depth n → bank_breaches (fact_of facts r) place ≡ [] → OfMemory r.entity
  bank_of_memory r n place is (memory_is k dims at m) e = of_itself r.entity n is m
  bank_of_memory r n place is (view_is k dims at m) e = of_view r.entity n is m
  bank_of_memory r n place is (variable_is k at deep) e = not_none _ _ (ap (λ o. bank_breaches o place) (fact_there r n (of_variable k) is at) ∙ e)
  bank_of_memory r n place is (iterator_is k at deep) e = not_none _ _ (ap (λ o. bank_breaches o place) (fact_there r n (of_iterator k) is at) ∙ e)
  bank_of_memory r n place is (function_is ks at) e = not_none _ _ (ap (λ o. bank_breaches o place) (fact_there r n (of_function ks) is at) ∙ e)

  -- the parent of a view: a memory, or a view that has a way
  pub record Parent (n : ℕ) : Type 0 where
    pub kind : Option Kind
    pub dims : ℕ
    pub at : slice_get facts n ≡ Some (of_memory kind dims)
    pub named : IsNamed (memory_in (memories_of p) (Some n)) (way_to p (Some n))

  pub parent_of : (r : Ref) (n : ℕ) (place : Place) → r.entity ≡ Some n → IsSorted p facts first depth n → bank_breaches (fact_of facts r) place ≡ [] → Parent n
  parent_of r n place is (memory_is k dims at m) e = record { kind = k; dims = dims; at = at; named = inl m }
  parent_of r n place is (view_is k dims at w) e = record { kind = k; dims = dims; at = at; named = inr w }
  parent_of r n place is (variable_is k at deep) e = not_none _ _ (ap (λ o. bank_breaches o place) (fact_there r n (of_variable k) is at) ∙ e)
  parent_of r n place is (iterator_is k at deep) e = not_none _ _ (ap (λ o. bank_breaches o place) (fact_there r n (of_iterator k) is at) ∙ e)
  parent_of r n place is (function_is ks at) e = not_none _ _ (ap (λ o. bank_breaches o place) (fact_there r n (of_function ks) is at) ∙ e)

  -- what is assigned to is declared inside, unless it leads out of the body of several copies
  inside_first : (r : Ref) (n : ℕ) → r.entity ≡ Some n → is_from_outside first r.entity ≡ false → first ≤ n
  inside_first r n is e = at_least (ap (is_from_outside first) (sym is) ∙ e)
    where
      at_least : nat_lt n first ≡ false → first ≤ n
      at_least f = grind (arith, nat_tests)

  deep_name : (r : Ref) (n : ℕ) → r.entity ≡ Some n → depth ≤ depth_bound (binding_in (all_bindings_of p) n) → depth ≤ depth_of (known_of p) r
  deep_name r n is l = subst (λ (o : Option ℕ). depth ≤ depth_bound (binding_in (all_bindings_of p) (entity_number o))) (sym is) l

  pub target_inside : (r : Ref) (n : ℕ) → r.entity ≡ Some n → IsSorted p facts first depth n → target_breaches (fact_of facts r) r.place ≡ [] → is_from_outside first r.entity ≡ false
      → depth ≤ depth_of (known_of p) r
  target_inside r n is (memory_is k dims at m) e o = not_none _ _ (ap (λ x. target_breaches x r.place) (fact_there r n (of_memory k dims) is at) ∙ e)
  target_inside r n is (view_is k dims at m) e o = not_none _ _ (ap (λ x. target_breaches x r.place) (fact_there r n (of_memory k dims) is at) ∙ e)
  target_inside r n is (variable_is k at deep) e o = deep_name r n is (deep (inside_first r n is o))
  target_inside r n is (iterator_is k at deep) e o = deep_name r n is (deep (inside_first r n is o))
  target_inside r n is (function_is ks at) e o = not_none _ _ (ap (λ x. target_breaches x r.place) (fact_there r n (of_function ks) is at) ∙ e)

  -- the accesses of an expression
  module _ (bs : List ScopeEntry) (h : AreSorted p facts first depth bs) (site : Site) where
    visible_sorted : (r : Ref) → entity_of bs r.name ≡ r.entity → unknown bs r ≡ [] → (n : ℕ) × ((r.entity ≡ Some n) × IsSorted p facts first depth n)
    visible_sorted r same seen = let w = used_stands bs r same seen in (w.0, (w.1, h r.name w.0 (same ∙ w.1)))

    access_told : (place : Place) (r : Ref) (indices : Terms) (writes : Bool) → entity_of bs r.name ≡ r.entity → unknown bs r ≡ [] → access_breaches (fact_of facts r) place indices ≡ []
        → EachAccess (IsOfMemory p) (one_access place r.entity (with_indices indices) writes site)
    access_told place r indices writes same seen e =
        let w = visible_sorted r same seen in
        let m = access_of r w.0 place indices w.1.0 w.1.1 e in
        (record { entity = m.0; is = m.1.0; memory = m.1.1.0; declared = m.1.1.1 }, tt)

    bank_told : (place : Place) (r : Ref) (bank : ℕ) (row : Term) (writes : Bool) → entity_of bs r.name ≡ r.entity → unknown bs r ≡ [] → bank_breaches (fact_of facts r) place ≡ []
        → EachAccess (IsOfMemory p) (one_access place r.entity (in_row bank row) writes site)
    bank_told place r bank row writes same seen e =
        let w = visible_sorted r same seen in
        let m = bank_of_memory r w.0 place w.1.0 w.1.1 e in
        (record { entity = m.0; is = m.1.0; memory = m.1.1.0; declared = m.1.1.1 }, tt)

    mutual
      pub term_told : (t : Term) → resolved_term bs t ≡ t → term_breaches bs t ≡ [] → term_kind_breaches facts t ≡ [] → EachAccess (IsOfMemory p) (source_term_events site t)
      term_told (term place k (number negative x)) e v b = tt
      term_told (term place k (truth_value x)) e v b = tt
      term_told (term place k (named r)) e v b = tt
      term_told (term place k (accessed r ts)) e v b =
          let name : entity_of bs r.name ≡ r.entity = cc in
          let same : resolved_terms bs ts ≡ ts = cc in
          each_both _ (source_terms_events site ts) _ (terms_told ts same (second_none (unknown bs r) _ v) (second_none (access_breaches (fact_of facts r) place ts) _ b))
          (access_told place r ts false name (first_none (unknown bs r) _ v) (first_none (access_breaches (fact_of facts r) place ts) _ b))
      term_told (term place k (in_bank r bank at t)) e v b =
          let name : entity_of bs r.name ≡ r.entity = cc in
          let same : resolved_term bs t ≡ t = cc in
          each_both _ (source_term_events site t) _
          (term_told t same (second_none (unknown bs r) _ v) (second_none (index_breaches (found t) (place_of t)) _ (second_none (bank_breaches (fact_of facts r) place) _ b)))
          (bank_told place r bank t false name (first_none (unknown bs r) _ v) (first_none (bank_breaches (fact_of facts r) place) _ b))
      term_told (term place k (applied o l r)) e v b =
          let first_same : resolved_term bs l ≡ l = cc in
          let second_same : resolved_term bs r ≡ r = cc in
          let below = second_none (applied_breaches o (place_of l) (place_of r) (found l) (found r)) _ b in
          each_both _ (source_term_events site l) _ (term_told l first_same (first_none (term_breaches bs l) _ v) (first_none (term_kind_breaches facts l) _ below))
          (term_told r second_same (second_none (term_breaches bs l) _ v) (second_none (term_kind_breaches facts l) _ below))
      term_told (term place k (converted t to)) e v b =
          let same : resolved_term bs t ≡ t = cc in
          term_told t same v (second_none (cast_breaches place (found t) to) _ b)

      pub terms_told : (ts : Terms) → resolved_terms bs ts ≡ ts → terms_breaches bs ts ≡ [] → indices_kind_breaches facts ts ≡ [] → EachAccess (IsOfMemory p) (source_terms_events site ts)
      terms_told no_terms e v b = tt
      terms_told (term_then t ts) e v b =
          let first_same : resolved_term bs t ≡ t = cc in
          let second_same : resolved_terms bs ts ≡ ts = cc in
          let below = second_none (index_breaches (found t) (place_of t)) _ b in
          each_both _ (source_term_events site t) _ (term_told t first_same (first_none (term_breaches bs t) _ v) (first_none (term_kind_breaches facts t) _ below))
          (terms_told ts second_same (second_none (term_breaches bs t) _ v) (second_none (term_kind_breaches facts t) _ below))

    pub write_told : (t : Term) → resolved_term bs t ≡ t → term_breaches bs t ≡ [] → term_kind_breaches facts t ≡ [] → EachAccess (IsOfMemory p) (write_events site t)
    write_told (term place k (number negative x)) e v b = tt
    write_told (term place k (truth_value x)) e v b = tt
    write_told (term place k (named r)) e v b = tt
    write_told (term place k (accessed r ts)) e v b =
        let name : entity_of bs r.name ≡ r.entity = cc in
        let same : resolved_terms bs ts ≡ ts = cc in
        each_both _ (source_terms_events site ts) _ (terms_told ts same (second_none (unknown bs r) _ v) (second_none (access_breaches (fact_of facts r) place ts) _ b))
        (access_told place r ts true name (first_none (unknown bs r) _ v) (first_none (access_breaches (fact_of facts r) place ts) _ b))
    write_told (term place k (in_bank r bank at t)) e v b =
        let name : entity_of bs r.name ≡ r.entity = cc in
        let same : resolved_term bs t ≡ t = cc in
        each_both _ (source_term_events site t) _
        (term_told t same (second_none (unknown bs r) _ v) (second_none (index_breaches (found t) (place_of t)) _ (second_none (bank_breaches (fact_of facts r) place) _ b)))
        (bank_told place r bank t true name (first_none (unknown bs r) _ v) (first_none (bank_breaches (fact_of facts r) place) _ b))
    write_told (term place k (applied o l r)) e v b = term_told (term place k (applied o l r)) e v b
    write_told (term place k (converted t to)) e v b = term_told (term place k (converted t to)) e v b

    pub maybe_told : (target : Option Kind) (o : Option Term) → option_map (resolved_term bs) o ≡ o → maybe_value_breaches bs o ≡ [] → maybe_breaches facts target o ≡ [] → EachAccess (IsOfMemory p) (maybe_events site o)
    maybe_told target None e v b = tt
    maybe_told target (Some t) e v b = let same : resolved_term bs t ≡ t = cc in term_told t same v (second_none (assigned_breaches target (found t) (place_of t)) _ b)
