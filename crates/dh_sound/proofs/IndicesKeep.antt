-- In a program that breaks no rule on shapes and indices, each access keeps the rules in the dimensions of its memory, and
-- these are dimensions. By recursion over the tree: the breaches of a command are those of its accesses and of the
-- shapes that it declares, one behind the other.
use Rattle.std.proofs.Common.{◌≡◌, ℕ, zero, suc, ◌≤◌, ◌%◌, ◌==◌, not, Bool, true, false, if◌then◌else◌, List, [], ◌∷◌, ◌++◌, map, Option, Some, None, refl, ap, sym, ◌∙◌, subst, arith}
use Rattle.std.specs.Prelude.{◌<◌, nat_le, slice_get}
use Rattle.std.specs.List.{AllByRecursion}
use Rattle.std.proofs.lemmas.Bool.{eqb-true}
use Rattle.std.proofs.lemmas.Bool.Decides.{nat_tests}
use Rattle.dh_base.specs.declared.places.Place.{Place}
use Rattle.dh_tree.specs.declared.breaches.Breach.{Breach}
use Rattle.dh_tree.specs.declared.tables.Dim.{Dim}
use Rattle.dh_tree.specs.declared.trees.counters.Counter.{Counter}
use Rattle.dh_tree.specs.Elements.{banks_of}
use Rattle.dh_tree.specs.Indices.{IndexContext, index_context_of, divides, dim_keeps, dims_keep, shape_keeps, shape_breaches, kept_dims, access_index_breaches, physical_bank_breaches, physical_breaches, term_index_breaches, terms_index_breaches, maybe_index_breaches, turns_breaches, action_index_breaches, action_form_index_breaches, other_index_breaches, actions_index_breaches, groups_index_breaches, decls_shape_breaches, index_breaches_of}
use Rattle.dh_tree.specs.Kinds.{when}
use Rattle.dh_tree.specs.Memories.{Memory, outside_memory, locals, form_locals, other_locals, groups_locals, part_locals, memories_of, memory_in, same_entity}
use Rattle.dh_tree.specs.PlainTrees.{Term, term, number, truth_value, named, accessed, in_bank, applied, converted, Terms, no_terms, term_then, Action, action, ActionForm, lets, lets_memory, views, assigns, stores, reduces, calls, blocks, decides, repeats, counts, MaybeAction, no_action, one_action, Actions, no_actions, action_then, Groups, no_groups, group_then, Declared, Program}
use Rattle.dh_tree.specs.Shapes.{IsDim}
use Rattle.dh_tree.proofs.ShapeRules.{shape_without}
use Rattle.dh_meaning.specs.Sites.{Around, nothing_around, in_arm, in_loop, loop_of}
use Rattle.dh_meets.specs.SourceEvents.{Element, with_indices, in_row, Site, SourceAccess, SourceEvent, accesses, assigned, one_access, source_term_events, source_terms_events, maybe_events, write_events, site_of, events, command_events, other_events, groups_events, part_events, accesses_in, trace}
use Rattle.dh_meets.specs.FewCopies.{NamesBanks}
use Rattle.dh_sound.specs.IndexValues.{element_breaches}
use Rattle.dh_sound.proofs.BanksReached.{first_none, second_none}
use Rattle.dh_sound.proofs.IteratorsKnown.{both_all}
use Rattle.dh_sound.proofs.ValuesOfIndices.{both_true}
use Rattle.dh_tree.specs.Seen.{terms}
use Rattle.dh_tree.specs.ViewOffsets.{offsets_of}
use Rattle.dh_tree.specs.ViewFactors.{factor_breaches_of}
use Rattle.dh_tree.specs.ViewBreaches.{KnownViews, known_views, view_breaches_of, term_view_breaches, offsets_view_breaches, action_view_breaches, action_form_view_breaches, other_view_breaches, groups_view_breaches, part_view_breaches}

-- Shapes.

not_true : (b : Bool) → not b ≡ true → b ≡ false
not_true true e = absurd cc
not_true false e = refl

at_least_one : (n : ℕ) → (n == 0) ≡ false → 1 ≤ n
at_least_one n e = grind (arith, nat_tests)

dim_is : (d : Dim) → dim_keeps d ≡ true → IsDim d
dim_is d e =
    let h = both_true (not (d.size == 0)) (divides d.banks d.size) e in
    let i = both_true (not (d.banks == 0)) (d.size % d.banks == 0) h.1 in
    record { size = at_least_one d.size (not_true _ h.0); banks = at_least_one d.banks (not_true _ i.0); divides = eqb-true (d.size % d.banks) 0 i.1 }

dims_are : (ds : List Dim) → dims_keep ds ≡ true → AllByRecursion IsDim ds
dims_are [] e = tt
dims_are (d ∷ ds) e = let h = both_true (dim_keeps d) (dims_keep ds) e in (dim_is d h.0, dims_are ds h.1)

-- a memory of which the shape breaks no rule
abbrev Keeps : Memory → Type 0
Keeps m = shape_keeps m.shape ≡ true

decls_keep : (ds : List Declared) → decls_shape_breaches ds ≡ [] → AllByRecursion Keeps (map outside_memory ds)
decls_keep [] e = tt
decls_keep (d ∷ ds) e =
    (shape_without d.shape d.shape_places (first_none (shape_breaches d.shape d.shape_places) _ e), decls_keep ds (second_none (shape_breaches d.shape d.shape_places) _ e))

module _ (known : IndexContext) where
  mutual
    locals_keep : (a : Action) → action_index_breaches known a ≡ [] → AllByRecursion Keeps (locals a)
    locals_keep (action id place form) e = form_locals_keep form e

    form_locals_keep : (f : ActionForm) → action_form_index_breaches known f ≡ [] → AllByRecursion Keeps (form_locals f)
    form_locals_keep (lets name declared value) e = tt
    form_locals_keep (lets_memory name shape shape_places value) e = (shape_without shape shape_places (first_none (shape_breaches shape shape_places) _ e), tt)
    form_locals_keep (views name parent form) e = tt
    form_locals_keep (assigns target value) e = tt
    form_locals_keep (stores target value) e = tt
    form_locals_keep (reduces target o value) e = tt
    form_locals_keep (calls function arguments) e = tt
    form_locals_keep (blocks body) e = groups_locals_keep body e
    form_locals_keep (decides test chosen other) e =
        let below = second_none (term_index_breaches known test) _ e in
        both_all Keeps (locals chosen) (other_locals other) (locals_keep chosen (first_none (action_index_breaches known chosen) _ below)) (other_locals_keep other (second_none (action_index_breaches known chosen) _ below))
    form_locals_keep (repeats test body) e = locals_keep body (second_none (term_index_breaches known test) _ e)
    form_locals_keep (counts iterator declared low high factor body combine combine_place) e =
        let below = second_none (turns_breaches low high factor) _ e in
        both_all Keeps (locals body) (other_locals combine) (locals_keep body (first_none (action_index_breaches known body) _ below)) (other_locals_keep combine (second_none (action_index_breaches known body) _ below))

    other_locals_keep : (m : MaybeAction) → other_index_breaches known m ≡ [] → AllByRecursion Keeps (other_locals m)
    other_locals_keep no_action e = tt
    other_locals_keep (one_action a) e = locals_keep a e

    part_locals_keep : (p : Actions) → actions_index_breaches known p ≡ [] → AllByRecursion Keeps (part_locals p)
    part_locals_keep no_actions e = tt
    part_locals_keep (action_then a rest) e =
        both_all Keeps (locals a) (part_locals rest) (locals_keep a (first_none (action_index_breaches known a) _ e)) (part_locals_keep rest (second_none (action_index_breaches known a) _ e))

    groups_locals_keep : (g : Groups) → groups_index_breaches known g ≡ [] → AllByRecursion Keeps (groups_locals g)
    groups_locals_keep no_groups e = tt
    groups_locals_keep (group_then part rest) e =
        both_all Keeps (part_locals part) (groups_locals rest) (part_locals_keep part (first_none (actions_index_breaches known part) _ e)) (groups_locals_keep rest (second_none (actions_index_breaches known part) _ e))

found_keeps : (ms : List Memory) (entity : Option ℕ) (m : Memory) → AllByRecursion Keeps ms → memory_in ms entity ≡ Some m → Keeps m
found_keeps [] entity m h e = absurd cc
found_keeps (x ∷ ms) entity m h e = by (same_entity x.name.entity entity) e (found_keeps ms entity m h.1)
  where
    by : (b : Bool) → (if b then Some x else memory_in ms entity) ≡ Some m → (memory_in ms entity ≡ Some m → Keeps m) → Keeps m
    by true f r = let same : x ≡ m = cc in subst Keeps same h.0
    by false f r = r f

-- each memory of a program keeps the rules on shapes
pub memory_keeps : (p : Program) (entity : Option ℕ) (m : Memory) → index_breaches_of p ≡ [] → memory_in (memories_of p) entity ≡ Some m → shape_keeps m.shape ≡ true
memory_keeps p entity m e f =
    found_keeps (memories_of p) entity m
    (both_all Keeps (map outside_memory p.decls) (locals p.body) (decls_keep p.decls (first_none (decls_shape_breaches p.decls) _ e))
    (locals_keep (index_context_of p) p.body (second_none (decls_shape_breaches p.decls) _ e))) f

-- and so its dimensions are
pub memory_dims : (p : Program) (entity : Option ℕ) (m : Memory) → index_breaches_of p ≡ [] → memory_in (memories_of p) entity ≡ Some m → AllByRecursion IsDim m.shape.dims
memory_dims p entity m e f = dims_are m.shape.dims (both_true (not (m.shape.ports == 0)) (dims_keep m.shape.dims) (memory_keeps p entity m e f)).1

-- Accesses.

-- the bank that is written of an element is one of its memory's
abbrev pub BankLies : List Dim → Element → Type 0
BankLies dims (with_indices indices) = Unit {0}
BankLies dims (in_row bank row) = bank < banks_of dims

-- an element keeps the rules in the dimensions of the memory that it is of
abbrev ElementKeeps : IndexContext → (entity : Option ℕ) → Element → Type 0
ElementKeeps known entity element =
    (m : Memory) → memory_in known.memories entity ≡ Some m → shape_keeps m.shape ≡ true → (element_breaches known.counters m.shape.dims element ≡ []) × BankLies m.shape.dims element

abbrev EventsKeep : IndexContext → List SourceEvent → Type 0
EventsKeep known [] = Unit {0}
EventsKeep known (accesses a ∷ es) = ElementKeeps known a.entity a.element × EventsKeep known es
EventsKeep known (assigned entity ∷ es) = EventsKeep known es

indices_keep : (known : IndexContext) (entity : Option ℕ) (indices : Terms) → access_index_breaches known.counters (kept_dims (memory_in known.memories entity)) indices ≡ [] → ElementKeeps known entity (with_indices indices)
indices_keep known entity indices e m f k =
    let kept : kept_dims (memory_in known.memories entity) ≡ Some m.shape.dims = ap kept_dims f ∙ ap (λ (b : Bool). if b then Some m.shape.dims else None) k in
    (sym (ap (λ ds. access_index_breaches known.counters ds indices) kept) ∙ e, tt)

when_none : (b : Bool) (x : Breach) → when b (x ∷ []) ≡ [] → b ≡ false
when_none true x e = absurd cc
when_none false x e = refl

not_beyond : (banks bank : ℕ) → nat_le banks bank ≡ false → bank < banks
not_beyond banks bank e = grind (arith, nat_tests)

row_keeps : (known : IndexContext) (entity : Option ℕ) (bank : ℕ) (place : Place) (row : Term) → physical_breaches (kept_dims (memory_in known.memories entity)) bank place row ≡ []
    → ElementKeeps known entity (in_row bank row)
row_keeps known entity bank place row e m f k =
    let kept : kept_dims (memory_in known.memories entity) ≡ Some m.shape.dims = ap kept_dims f ∙ ap (λ (b : Bool). if b then Some m.shape.dims else None) k in
    let both : physical_breaches (Some m.shape.dims) bank place row ≡ [] = sym (ap (λ ds. physical_breaches ds bank place row) kept) ∙ e in (
      second_none (physical_bank_breaches m.shape.dims bank place) _ both,
      not_beyond (banks_of m.shape.dims) bank (when_none _ _ (first_none (physical_bank_breaches m.shape.dims bank place) _ both)),
    )

module _ (known : IndexContext) where
  both_keep : (xs ys : List SourceEvent) → EventsKeep known xs → EventsKeep known ys → EventsKeep known (xs ++ ys)
  both_keep [] ys h i = i
  both_keep (accesses a ∷ xs) ys h i = (h.0, both_keep xs ys h.1 i)
  both_keep (assigned entity ∷ xs) ys h i = both_keep xs ys h i

  mutual
    term_keeps : (site : Site) (t : Term) → term_index_breaches known t ≡ [] → EventsKeep known (source_term_events site t)
    term_keeps site (term place k (number negative n)) e = tt
    term_keeps site (term place k (truth_value value)) e = tt
    term_keeps site (term place k (named r)) e = tt
    term_keeps site (term place k (accessed r indices)) e =
        both_keep (source_terms_events site indices) (one_access place r.entity (with_indices indices) false site)
        (terms_keep site indices (second_none (access_index_breaches known.counters (kept_dims (memory_in known.memories r.entity)) indices) _ e))
        (indices_keep known r.entity indices (first_none (access_index_breaches known.counters (kept_dims (memory_in known.memories r.entity)) indices) _ e), tt)
    term_keeps site (term place k (in_bank r bank bank_place row)) e =
        both_keep (source_term_events site row) (one_access place r.entity (in_row bank row) false site)
        (term_keeps site row (second_none (physical_breaches (kept_dims (memory_in known.memories r.entity)) bank bank_place row) _ e))
        (row_keeps known r.entity bank bank_place row (first_none (physical_breaches (kept_dims (memory_in known.memories r.entity)) bank bank_place row) _ e), tt)
    term_keeps site (term place k (applied o left right)) e =
        both_keep (source_term_events site left) (source_term_events site right) (term_keeps site left (first_none (term_index_breaches known left) _ e)) (term_keeps site right (second_none (term_index_breaches known left) _ e))
    term_keeps site (term place k (converted inner to)) e = term_keeps site inner e

    terms_keep : (site : Site) (ts : Terms) → terms_index_breaches known ts ≡ [] → EventsKeep known (source_terms_events site ts)
    terms_keep site no_terms e = tt
    terms_keep site (term_then t rest) e =
        both_keep (source_term_events site t) (source_terms_events site rest) (term_keeps site t (first_none (term_index_breaches known t) _ e)) (terms_keep site rest (second_none (term_index_breaches known t) _ e))

  write_keeps : (site : Site) (t : Term) → term_index_breaches known t ≡ [] → EventsKeep known (write_events site t)
  write_keeps site (term place k (number negative n)) e = tt
  write_keeps site (term place k (truth_value value)) e = tt
  write_keeps site (term place k (named r)) e = tt
  write_keeps site (term place k (accessed r indices)) e =
      both_keep (source_terms_events site indices) (one_access place r.entity (with_indices indices) true site)
      (terms_keep site indices (second_none (access_index_breaches known.counters (kept_dims (memory_in known.memories r.entity)) indices) _ e))
      (indices_keep known r.entity indices (first_none (access_index_breaches known.counters (kept_dims (memory_in known.memories r.entity)) indices) _ e), tt)
  write_keeps site (term place k (in_bank r bank bank_place row)) e =
      both_keep (source_term_events site row) (one_access place r.entity (in_row bank row) true site)
      (term_keeps site row (second_none (physical_breaches (kept_dims (memory_in known.memories r.entity)) bank bank_place row) _ e))
      (row_keeps known r.entity bank bank_place row (first_none (physical_breaches (kept_dims (memory_in known.memories r.entity)) bank bank_place row) _ e), tt)
  write_keeps site (term place k (applied o left right)) e = term_keeps site (term place k (applied o left right)) e
  write_keeps site (term place k (converted inner to)) e = term_keeps site inner e

  maybe_keeps : (site : Site) (t : Option Term) → maybe_index_breaches known t ≡ [] → EventsKeep known (maybe_events site t)
  maybe_keeps site None e = tt
  maybe_keeps site (Some t) e = term_keeps site t e

-- Commands; the rules on views tell of their offsets.
module _ (kv : KnownViews) where
  abbrev known : IndexContext
  known = kv.names

  offsets_keep : (ts : List Term) → offsets_view_breaches kv ts ≡ [] → terms_index_breaches known (terms ts) ≡ []
  offsets_keep [] w = refl
  offsets_keep (t ∷ ts) w =
      let own = first_none (term_index_breaches known t ++ term_view_breaches kv t) _ w in
      ap (λ l. l ++ terms_index_breaches known (terms ts)) (first_none (term_index_breaches known t) _ own)
      ∙ offsets_keep ts (second_none (term_index_breaches known t ++ term_view_breaches kv t) _ w)

  mutual
    events_keep : (r : Around) (a : Action) → action_index_breaches known a ≡ [] → action_view_breaches kv a ≡ [] → EventsKeep known (events r a)
    events_keep r (action id place form) e w = form_keeps r (site_of r id) form e w

    form_keeps : (r : Around) (site : Site) (a : ActionForm) → action_form_index_breaches known a ≡ [] → action_form_view_breaches kv a ≡ [] → EventsKeep known (command_events r site a)
    form_keeps r site (lets name declared value) e w = both_keep known (maybe_events site value) (assigned name.entity ∷ []) (maybe_keeps known site value e) tt
    form_keeps r site (lets_memory name shape shape_places value) e w = tt
    form_keeps r site (views name parent form) e w = terms_keep known site (terms (offsets_of form)) (offsets_keep (offsets_of form) w)
    form_keeps r site (assigns target value) e w = both_keep known (source_term_events site value) (assigned target.entity ∷ []) (term_keeps known site value e) tt
    form_keeps r site (stores target value) e w =
        both_keep known (source_term_events site value) (write_events site target) (term_keeps known site value (second_none (term_index_breaches known target) _ e)) (write_keeps known site target (first_none (term_index_breaches known target) _ e))
    form_keeps r site (reduces target o value) e w = both_keep known (source_term_events site value) (assigned target.entity ∷ []) (term_keeps known site value e) tt
    form_keeps r site (calls function arguments) e w = tt
    form_keeps r site (blocks body) e w = groups_keep r body e w
    form_keeps r site (decides test chosen other) e w =
        let below = second_none (term_index_breaches known test) _ e in
        both_keep known (source_term_events site test) _ (term_keeps known site test (first_none (term_index_breaches known test) _ e))
        (both_keep known (events (in_arm r site.command true) chosen) _
        (events_keep (in_arm r site.command true) chosen (first_none (action_index_breaches known chosen) _ below) (first_none (action_view_breaches kv chosen) _ (second_none (term_view_breaches kv test) _ w)))
        (other_keep (in_arm r site.command false) other (second_none (action_index_breaches known chosen) _ below) (second_none (action_view_breaches kv chosen) _ (second_none (term_view_breaches kv test) _ w))))
    form_keeps r site (repeats test body) e w =
        both_keep known (source_term_events site test) (events r body) (term_keeps known site test (first_none (term_index_breaches known test) _ e)) (events_keep r body (second_none (term_index_breaches known test) _ e) (second_none (term_view_breaches kv test) _ w))
    form_keeps r site (counts iterator declared low high factor body combine combine_place) e w =
        let below = second_none (turns_breaches low high factor) _ e in
        both_keep known (events (in_loop r (loop_of iterator low high factor)) body) _
        (events_keep (in_loop r (loop_of iterator low high factor)) body (first_none (action_index_breaches known body) _ below) (first_none (action_view_breaches kv body) _ w))
        (other_keep (in_loop r (loop_of iterator low high factor)) combine (second_none (action_index_breaches known body) _ below) (second_none (action_view_breaches kv body) _ w))

    other_keep : (r : Around) (m : MaybeAction) → other_index_breaches known m ≡ [] → other_view_breaches kv m ≡ [] → EventsKeep known (other_events r m)
    other_keep r no_action e w = tt
    other_keep r (one_action a) e w = events_keep r a e w

    part_keeps : (r : Around) (p : Actions) → actions_index_breaches known p ≡ [] → part_view_breaches kv p ≡ [] → EventsKeep known (part_events r p)
    part_keeps r no_actions e w = tt
    part_keeps r (action_then a rest) e w =
        both_keep known (events r a) (part_events r rest)
        (events_keep r a (first_none (action_index_breaches known a) _ e) (first_none (action_view_breaches kv a) _ w))
        (part_keeps r rest (second_none (action_index_breaches known a) _ e) (second_none (action_view_breaches kv a) _ w))

    groups_keep : (r : Around) (g : Groups) → groups_index_breaches known g ≡ [] → groups_view_breaches kv g ≡ [] → EventsKeep known (groups_events r g)
    groups_keep r no_groups e w = tt
    groups_keep r (group_then part rest) e w =
        both_keep known (part_events r part) (groups_events r rest)
        (part_keeps r part (first_none (actions_index_breaches known part) _ e) (first_none (part_view_breaches kv part) _ w))
        (groups_keep r rest (second_none (actions_index_breaches known part) _ e) (second_none (part_view_breaches kv part) _ w))

keeps_at : (known : IndexContext) (es : List SourceEvent) (k : ℕ) (a : SourceAccess) → EventsKeep known es → slice_get (accesses_in es) k ≡ Some a → ElementKeeps known a.entity a.element
keeps_at known [] k a h e = absurd cc
keeps_at known (accesses x ∷ es) zero a h e = let same : x ≡ a = cc in subst (λ (y : SourceAccess). ElementKeeps known y.entity y.element) same h.0
keeps_at known (accesses x ∷ es) (suc k) a h e = keeps_at known es k a h.1 e
keeps_at known (assigned entity ∷ es) k a h e = keeps_at known es k a h e

-- an access of a program that breaks no rule on indices, in the dimensions of its memory
pub record KeepsIn (cs : List Counter) (m : Memory) (element : Element) : Type 0 where
  pub dims : AllByRecursion IsDim m.shape.dims
  pub none : element_breaches cs m.shape.dims element ≡ []
  pub bank : BankLies m.shape.dims element

pub access_keeps : (p : Program) → index_breaches_of p ≡ [] → view_breaches_of p ≡ [] → (k : ℕ) (a : SourceAccess) → slice_get (accesses_in (trace p)) k ≡ Some a → (m : Memory) → memory_in (memories_of p) a.entity ≡ Some m → KeepsIn (index_context_of p).counters m a.element
access_keeps p e w k a g m h =
    let shape = memory_keeps p a.entity m e h in
    let kept = keeps_at (index_context_of p) (trace p) k a (events_keep (known_views p) nothing_around p.body (second_none (decls_shape_breaches p.decls) _ e) (second_none (factor_breaches_of p) _ w)) g m h shape in
    record {
      dims = dims_are m.shape.dims (both_true (not (m.shape.ports == 0)) (dims_keep m.shape.dims) shape).1;
      none = kept.0;
      bank = kept.1;
    }

pub banks_named : (p : Program) → index_breaches_of p ≡ [] → view_breaches_of p ≡ [] → NamesBanks p
banks_named p e w k bank a row m g is h =
    let kept = access_keeps p e w k a g m h in
    subst (BankLies m.shape.dims) is kept.bank
