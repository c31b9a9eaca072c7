-- An access through views reaches a bank that the rules take it to reach: its element of the view that is named lies in
-- the bank that its indices tell there, as that of a memory does; and what is reached from there through the views on
-- the way is among the banks that may be reached.
use Rattle.std.proofs.Common.{◌≡◌, ℕ, ◌&&◌, Bool, true, false, if◌then◌else◌, List, [], map, Option, Some, None, refl, sym, ap, subst, ◌∙◌, ℤ}
use Rattle.std.specs.Prelude.{unsigned_abs}
use Rattle.std.specs.List.{AllByRecursion}
use Rattle.std.proofs.lemmas.Bool.{eq-eqb}
use Rattle.dh_tree.specs.declared.tables.Dim.{Dim}
use Rattle.dh_tree.specs.declared.tables.MemEntry.{MemEntry}
use Rattle.dh_tree.specs.Counters.{counters_of}
use Rattle.dh_tree.specs.Elements.{Spot, dims_at, spot_of}
use Rattle.dh_tree.specs.Memories.{memories_of, number_in, same_entity, table_of}
use Rattle.dh_tree.specs.PlainTrees.{Terms, Program}
use Rattle.dh_tree.specs.Shapes.{IsDim}
use Rattle.dh_viewing.specs.ReachedBanks.{bank_at}
use Rattle.dh_meaning.specs.Core.{Reach}
use Rattle.dh_meaning.specs.CoreOf.{dims_by, entity_number, known_of, core_terms, target_to}
use Rattle.dh_meaning.specs.Effects.{Begun, Variables, indices_through, is_inside, spot_by_indices, spot_by_views, spot_if_inside, spot_reached, values_of}
use Rattle.dh_meaning.specs.Paths.{Path}
use Rattle.dh_meaning.specs.Ways.{WayStep, Way, base_of, way_to}
use Rattle.dh_meets.specs.Charges.{bank_named, bank_reached, may_reach, reaches_by}
use Rattle.dh_meets.specs.SourceEvents.{Element, with_indices, in_row, SourceAccess}
use Rattle.dh_ways.specs.Leading.{LeadsTo, next_dims}
use Rattle.dh_ways.specs.SpotsThrough.{offsets_at}
use Rattle.dh_ways.proofs.TargetsOnWays.{target_is}
use Rattle.dh_carried.proofs.WaysReached.{ways_reach}
use Rattle.dh_sound.specs.IndexValues.{AllHaveIndexKinds, AllInTurn, ElementInTurn, HasElementKinds, IsLegalAccess, IsByIndices, IsReached, element_breaches, target_of}
use Rattle.dh_sound.proofs.BanksReached.{bank_of_indices, declared_dims, itself_reaches, own_target, spot_indices}

-- Spots.

inside_so : (table : List MemEntry) (memory : ℕ) (zs : List ℤ) (s : Spot) → spot_by_indices table memory zs ≡ Some s → is_inside (dims_at table memory) zs ≡ true
inside_so table memory zs s e = by (is_inside (dims_at table memory) zs) refl e
  where
    by : (i : Bool) → is_inside (dims_at table memory) zs ≡ i → (if i then Some (spot_of table memory (map unsigned_abs zs)) else None) ≡ Some s → is_inside (dims_at table memory) zs ≡ true
    by true f g = f
    by false f g = absurd cc

-- an element that is reached through views
pub record Seen (steps : List WayStep) (table : List MemEntry) (memory : ℕ) (indices offsets : List ℤ) (s : Spot) : Type 0 where
  pub last : List ℤ
  pub through : indices_through steps indices offsets ≡ Some last
  pub inside : is_inside (dims_at table memory) last ≡ true
  pub own_memory : s.memory ≡ memory
  pub bank : s.bank ≡ bank_at (dims_at table memory) last

pub seen_through : (steps : List WayStep) (table : List MemEntry) (memory : ℕ) (indices offsets : List ℤ) (s : Spot) → spot_by_views table memory steps indices offsets ≡ Some s → Seen steps table memory indices offsets s
seen_through steps table memory indices offsets s e = by (indices_through steps indices offsets) refl e
  where
    by : (o : Option (List ℤ)) → indices_through steps indices offsets ≡ o → spot_if_inside table memory o ≡ Some s → Seen steps table memory indices offsets s
    by None f g = absurd cc
    by (Some last) f g =
        let at = spot_indices table memory last s g in
        record { last = last; through = f; inside = inside_so table memory last s g; own_memory = at.0; bank = at.1 }

-- Ways.

-- where an access through views leads: to an element of the memory through the indices of each view, of which the first
-- lie in the bank that the rules tell of what is named
pub record ThroughTold (p : Program) (b : Begun) (path : Path) (v : Variables) (a : SourceAccess) (w : Way) (dims : List Dim) (s : Spot) : Type 0 where
  pub indices : List ℤ
  pub last : List ℤ
  pub through : indices_through w.steps indices (offsets_at b v path (Some w)) ≡ Some last
  pub inside : is_inside dims last ≡ true
  pub bank : s.bank ≡ bank_at dims last
  pub named : bank_at (next_dims w.steps dims) indices ≡ bank_named p w a path

module _ (p : Program) (b : Begun) (path : Path) (v : Variables) (a : SourceAccess) (n : ℕ) (r : Reach) (s : Spot) (h : IsLegalAccess p b path v a n r) where
  module _ (w : Way) (is : way_to p a.entity ≡ Some w) (ts : Terms) (same : a.element ≡ with_indices ts) (f : spot_reached b v path r (target_to (Some w) (core_terms (known_of p) n ts)) ≡ Some s) where
    abbrev lead : LeadsTo (memories_of p) w
    lead = h.leads w is

    abbrev zs : List ℤ
    zs = values_of b v path (core_terms (known_of p) n ts)

    table : dims_at b.table r.memory ≡ lead.memory.shape.dims
    table =
        ap (λ t. dims_at t r.memory) h.table
        ∙ (ap (dims_at (table_of p)) (h.number ∙ ap (λ o. entity_number (number_in (memories_of p) (base_of o a.entity))) is)
        ∙ declared_dims (memories_of p) w.memory lead.memory lead.found)

    seen : Seen w.steps b.table r.memory zs (offsets_at b v path (Some w)) s
    seen = seen_through w.steps b.table r.memory zs (offsets_at b v path (Some w)) s (sym (target_is b v path r (Some w) (core_terms (known_of p) n ts)) ∙ f)

    pub through_told : ThroughTold p b path v a w lead.memory.shape.dims s
    through_told =
        let keeps : element_breaches (counters_of p) w.is.shape.dims (with_indices ts) ≡ [] =
        subst (λ (e : Element). element_breaches (counters_of p) w.is.shape.dims e ≡ []) same (subst (λ (o : Option Way). element_breaches (counters_of p) (dims_by h.memory.shape.dims o) a.element ≡ []) is h.keeps) in
        let shape : AllByRecursion IsDim w.is.shape.dims = subst (λ (o : Option Way). AllByRecursion IsDim (dims_by h.memory.shape.dims o)) is h.dims in
        let kinds : AllHaveIndexKinds (counters_of p) ts = subst (λ (e : Element). HasElementKinds (counters_of p) e) same h.kinds in
        let turns : AllInTurn (known_of p) (counters_of p) a.site.loops path v ts = subst (λ (e : Element). ElementInTurn (known_of p) (counters_of p) a.site.loops path v e) same h.turns in
        record {
          indices = zs;
          last = seen.last;
          through = seen.through;
          inside = subst (λ (ds : List Dim). is_inside ds seen.last ≡ true) table seen.inside;
          bank = seen.bank ∙ ap (λ (ds : List Dim). bank_at ds seen.last) table;
          named = ap (λ (ds : List Dim). bank_at ds zs) lead.first
              ∙ (bank_of_indices b v path (known_of p) (counters_of p) a.site.loops h.factors n w.is.shape.dims ts shape kinds turns keeps
              ∙ ap (λ (e : Element). bank_reached (counters_of p) w.is.shape.dims a path e) (sym same));
        }

    through_reaches : IsReached p a path h.entity r s
    through_reaches =
        let own : w.memory ≡ Some h.entity = sym (ap (λ o. base_of o a.entity) is) ∙ h.is in
        let t = through_told in
        let reached = ways_reach w.steps lead.memory.shape.dims t.indices (offsets_at b v path (Some w)) t.last lead.steps t.through t.inside in
        let at : may_reach w.steps (bank_named p w a path) s.bank ≡ true =
        sym (ap (λ c. may_reach w.steps c s.bank) t.named) ∙ (ap (λ c. may_reach w.steps (bank_at (next_dims w.steps lead.memory.shape.dims) t.indices) c) t.bank ∙ reached) in
        let entity : same_entity w.memory (Some h.entity) ≡ true = ap (λ o. same_entity o (Some h.entity)) own ∙ eq-eqb h.entity h.entity refl in
        record {
          memory = seen.own_memory;
          bank = ap (λ o. reaches_by p o a path h.entity s.bank) is ∙ (ap (λ x. x && may_reach w.steps (bank_named p w a path) s.bank) entity ∙ at);
        }

  own_same : (e : Element) → way_to p a.entity ≡ None → target_of (known_of p) n a.entity e ≡ own_target (known_of p) n e
  own_same (with_indices ts) none = ap (λ o. target_to o (core_terms (known_of p) n ts)) none
  own_same (in_row bank row) none = refl

  -- where it leads, by its indices
  by_indices_so : (w : Way) (is : way_to p a.entity ≡ Some w) (ts : Terms) → a.element ≡ with_indices ts → spot_reached b v path r (target_of (known_of p) n a.entity a.element) ≡ Some s
      → spot_reached b v path r (target_to (Some w) (core_terms (known_of p) n ts)) ≡ Some s
  by_indices_so w is ts same f =
      sym (ap (λ o. spot_reached b v path r (target_to o (core_terms (known_of p) n ts))) is) ∙ subst (λ (e : Element). spot_reached b v path r (target_of (known_of p) n a.entity e) ≡ Some s) same f

  pub access_through : (w : Way) (is : way_to p a.entity ≡ Some w) → spot_reached b v path r (target_of (known_of p) n a.entity a.element) ≡ Some s → ThroughTold p b path v a w (h.leads w is).memory.shape.dims s
  access_through w is f = by a.element refl
    where
      by : (e : Element) → a.element ≡ e → ThroughTold p b path v a w (h.leads w is).memory.shape.dims s
      by (with_indices ts) same = through_told w is ts same (by_indices_so w is ts same f)
      by (in_row bank row) same = elim (subst (λ (e : Element). IsByIndices e) same (h.through w is)) [ ]

  -- the element that an access reaches lies in a bank that the rules take it to reach at its path
  pub access_reaches : spot_reached b v path r (target_of (known_of p) n a.entity a.element) ≡ Some s → IsReached p a path h.entity r s
  access_reaches f = by (way_to p a.entity) refl a.element refl
    where
      by : (o : Option Way) → way_to p a.entity ≡ o → (e : Element) → a.element ≡ e → IsReached p a path h.entity r s
      by None is e same = itself_reaches p b path v a n r s h is (sym (ap (λ t. spot_reached b v path r t) (own_same a.element is)) ∙ f)
      by (Some w) is (with_indices ts) same = through_reaches w is ts same (by_indices_so w is ts same f)
      by (Some w) is (in_row bank row) same = elim (subst (λ (e : Element). IsByIndices e) same (h.through w is)) [ ]
