-- The first access that takes more ports than are left is where ports are spent.
use Rattle.std.proofs.Common.{◌≡◌, ℕ, zero, suc, ◌+◌, ◌-◌, ◌<◌, ◌≤◌, ◌==◌, Bool, true, false, if◌then◌else◌, List, [], ◌∷◌, ◌++◌, length, map, replicate, refl, ap, sym, ◌∙◌, subst, arith, ◌⊎◌, inl, inr}
use mathlib.Core.Path.{fun_ext}
use Rattle.std.specs.Prelude.{Option, Some, None, option_map, slice_get, slice_index}
use Rattle.std.specs.Option.{is_some}
use Rattle.std.specs.List.{AllByRecursion}
use Rattle.std.proofs.lemmas.Bool.{cases_Bool, cases_lt, eqb-true}
use Rattle.std.proofs.lemmas.List.{length-map}
use Rattle.std.proofs.lemmas.Option.{slice_get_within, slice_get-map}
use Rattle.dh_base.specs.declared.places.Place.{Place}
use Rattle.dh_tree.specs.declared.tables.MemEntry.{MemEntry}
use Rattle.dh_tree.specs.Elements.{banks_of}
use Rattle.dh_tree.specs.Meets.{Meets, nothing, access, all, one, In, Distinct, load, upto}
use Rattle.dh_tree.specs.Memories.{Memory, memories_of, memory_in, number_in, table_of, entry_of}
use Rattle.dh_tree.specs.PlainTrees.{Program}
use Rattle.dh_tree.specs.Shapes.{IsProgramTable}
use Rattle.dh_tree.specs.ViewBreaches.{action_view_breaches, known_views, view_breaches_of}
use Rattle.dh_tree.specs.ViewFactors.{factor_breaches_of}
use Rattle.dh_tree.specs.Counters.{counters_of}
use Rattle.dh_viewing.proofs.KeptViews.{first_none}
use Rattle.dh_meaning.specs.Paths.{Path}
use Rattle.dh_meaning.specs.Ways.{Way, way_in, way_to, way_unless, ways_of}
use Rattle.dh_ways.specs.Leading.{LeadsTo}
use Rattle.dh_ways.proofs.WaysLead.{ways_lead}
use Rattle.dh_meaning.specs.Sites.{nothing_around}
use Rattle.dh_meets.specs.Charges.{bank_reached, charge, charge_of, indices_in, charge_by}
use Rattle.dh_meets.specs.MayMeet.{meets_in}
use Rattle.dh_meets.specs.Ports.{ports_or_zero, ports_of_entity, place_in}
use Rattle.dh_meets.specs.Sharing.{shared}
use Rattle.dh_meets.specs.SourceEvents.{Element, with_indices, in_row, SourceAccess, accesses_in, trace}
use Rattle.dh_events.specs.declared.events.Event.{Event}
use Rattle.dh_events.specs.declared.events.Site.{Site}
use Rattle.dh_ports.specs.declared.levels.Step.{Step}
use Rattle.dh_ports.specs.declared.moves.Move.{Move}
use Rattle.dh_ports.specs.declared.moves.Move.TheVariants as move
use Rattle.dh_ports.specs.Claims.{access_of, first_bank_of, bank_ports_in, claims_of, moves_from}
use Rattle.dh_ports.specs.Courses.{access_count, before_at, Ties}
use Rattle.dh_ports.specs.Expanded.{all_taken}
use Rattle.dh_events.specs.Incidents.{PortEvent, closed}
use Rattle.dh_ports.specs.Levels.{Level, start}
use Rattle.dh_events.specs.Noted.{all_seen}
use Rattle.dh_ports.specs.Scanned.{flag_at, spending_step, spent_place}
use Rattle.dh_ports.specs.Spent.{AccessOverspends}
use Rattle.dh_ports.specs.Told.{IsToldBefore}
use Rattle.dh_ports.specs.Wholes.{no_stages, happenings_of, at_touches, Touched, touched, of_access, sites_in, TellsLoops, loops_known, AreEventsOf, TellsShared, TellsSpent, entry_bank_count, memory_bank_count}
use Rattle.dh_events.specs.Stages.{stages_in}
use Rattle.dh_ports.proofs.ClaimFacts.{found, takes_charge}
use Rattle.dh_ports.proofs.ClaimedBanks.{Claims, claimed, bank_told, Bounds, LeadsAt, reaching, charged_reach}
use Rattle.dh_ports.proofs.AccessClaims.{event_of, at_event, there_is, touched_long, follow_all, nth_claims, claim_lists, TouchAt, touch_at, none_claims, stripped, claims_same, access_is}
use Rattle.dh_ports.proofs.FirstSpent.{none_spends, first_spends}
use Rattle.dh_ports.proofs.IncidentTies.{action_ties}
use Rattle.dh_ports.proofs.RowsUnviewed.{row_unviewed}
use Rattle.dh_ports.proofs.SpentWalk.{Stops, walk}
use Rattle.dh_ports.proofs.ThroughClaims.{way_leads}
use Rattle.dh_ports.proofs.TouchedSame.{action_same}
use Rattle.dh_ports.proofs.Wholes.{whole, access_in}
use Rattle.dh_tree.proofs.LargestSums.{upto_first, upto_second, upto_one_first, upto_one_second}

absurd : {A : Type 0} → ⊥ → A
absurd e = elim e [ ]

some_same : {A : Type 0} (x y : A) → Some x ≡ Some y → x ≡ y
some_same x y e = cc

-- What is known of what happens in a whole program.
pub record IsWhole (p : Program) (xs : List PortEvent) : Type 0 where
  pub touched_all : touched xs ≡ map of_access (accesses_in (trace p))
  pub loops : (k : ℕ) (s : Site) (a : SourceAccess) → slice_get (sites_in xs) k ≡ Some s → slice_get (accesses_in (trace p)) k ≡ Some a → loops_known p s.round ≡ a.site.loops
  pub ties : (c : ℕ → ℕ) → Ties c 0 xs (meets_in p)

pub whole_is : (p : Program) (xs : List PortEvent) → TellsLoops p → xs ≡ happenings_of p → IsWhole p xs
whole_is p xs loops e = subst (λ (l : List PortEvent). IsWhole p l) (sym e) (record {
  touched_all = action_same (stages_in p.body no_stages) None closed nothing_around p.body;
  loops = loops;
  ties = λ c. action_ties c (stages_in p.body no_stages) 0 None closed p.body;
})

-- an access, and the incident that it is
pub record AccessAt (p : Program) (xs : List PortEvent) (k : ℕ) (a : SourceAccess) : Type 0 where
  pub within : k < access_count xs
  pub touch : TouchAt p (loops_known p) 0 xs k
  pub same : access_of (loops_known p touch.site.round) touch.writes touch.access ≡ stripped a
  pub claims : nth_claims (claim_lists p (loops_known p) 0 xs) k ≡ claims_of p (event_of xs k) a

module _ (p : Program) (xs : List PortEvent) (w : IsWhole p xs) where
  counted : length (accesses_in (trace p)) ≡ access_count xs
  counted = sym (length-map _ _) ∙ (ap length (sym w.touched_all) ∙ touched_long xs)

  pub access_at : (k : ℕ) (a : SourceAccess) → slice_get (accesses_in (trace p)) k ≡ Some a → AccessAt p xs k a
  access_at k a e = from_touch (touch_at p (loops_known p) 0 xs k within)
    where
      within : k < access_count xs
      within = subst (λ (n : ℕ). k < n) counted (slice_get_within (accesses_in (trace p)) k a e)

      from_none : (n : ℕ) → 0 + n ≡ n
      from_none n = omega arith

      from_touch : TouchAt p (loops_known p) 0 xs k → AccessAt p xs k a
      from_touch t =
          let same = access_is (loops_known p t.site.round) t.writes t.access a (some_same _ _ (sym t.touch ∙ (ap (λ l. slice_get l k) w.touched_all ∙ (slice_get-map of_access (accesses_in (trace p)) k ∙ ap (option_map of_access) e)))) (w.loops k t.site a t.sited e) in
          record {
            within = within;
            touch = t;
            same = same;
            claims = t.claims ∙ (ap (λ n. claims_of p n (access_of (loops_known p t.site.round) t.writes t.access)) (from_none (event_of xs k)) ∙ (ap (claims_of p (event_of xs k)) same ∙ claims_same p a (event_of xs k)));
          }

  pub access_there : (k : ℕ) → k < access_count xs → (a : SourceAccess) × (slice_get (accesses_in (trace p)) k ≡ Some a)
  access_there k h = there_is (accesses_in (trace p)) k (subst (λ (n : ℕ). k < n) (sym counted) h)

-- Numbers.

-- a charge is part of the load up to it
pub upto_most : (c : ℕ → ℕ) (k : ℕ) (t : Meets) → Distinct t → In k t → c k ≤ upto c k t
upto_most c k nothing d i = absurd i
upto_most c k (access b) d i = subst (λ (n : ℕ). c k ≤ c n) i (same (c k))
  where
    same : (n : ℕ) → n ≤ n
    same n = omega arith
upto_most c k (all l r) d (inl i) = subst (λ (n : ℕ). c k ≤ n) (sym (upto_first c k l r i)) (upto_most c k l d.0.0 i)
upto_most c k (all l r) d (inr i) = subst (λ (n : ℕ). c k ≤ n) (sym (upto_second c k l r (λ j. d.1 k j i))) (more (c k) (load c l) (upto c k r) (upto_most c k r d.0.1 i))
  where
    more : (a b d : ℕ) → a ≤ d → a ≤ b + d
    more a b d e = omega (arith, e)
upto_most c k (one l r) d (inl i) = subst (λ (n : ℕ). c k ≤ n) (sym (upto_one_first c k l r i)) (upto_most c k l d.0.0 i)
upto_most c k (one l r) d (inr i) = subst (λ (n : ℕ). c k ≤ n) (sym (upto_one_second c k l r (λ j. d.1 k j i))) (upto_most c k r d.0.1 i)

-- the ports of a bank by its slot
ports_at : (es : List MemEntry) (number bank : ℕ) (e : MemEntry) → slice_get es number ≡ Some e → bank < banks_of e.shape.dims → slice_index (bank_ports_in es) (first_bank_of es number + bank) ≡ e.shape.ports
ports_at [] number bank e h b = cc
ports_at (x ∷ es) zero bank e h b = let same : x ≡ e = some_same x e h in first (banks_of x.shape.dims) bank x.shape.ports (bank_ports_in es) (subst (λ (y : MemEntry). bank < banks_of y.shape.dims) (sym same) b) ∙ ap (λ (y : MemEntry). y.shape.ports) same
  where
    first : (n b v : ℕ) (rest : List ℕ) → b < n → slice_index (replicate n v ++ rest) (0 + b) ≡ v
    first n b v rest e = ap (slice_index (replicate n v ++ rest)) (none b) ∙ at n b v rest e
      where
        none : (b : ℕ) → 0 + b ≡ b
        none b = omega arith

        at : (n b v : ℕ) (rest : List ℕ) → b < n → slice_index (replicate n v ++ rest) b ≡ v
        at zero b v rest e = absurd (below b e)
          where
            below : (b : ℕ) → b < 0 → ⊥
            below b e = omega (arith, e)
        at (suc n) zero v rest e = refl
        at (suc n) (suc b) v rest e = at n b v rest (less b n e)
          where
            less : (b n : ℕ) → suc b < suc n → b < n
            less b n e = omega (arith, e)
ports_at (x ∷ es) (suc number) bank e h b =
    ap (slice_index (replicate (banks_of x.shape.dims) x.shape.ports ++ bank_ports_in es)) (grouped (banks_of x.shape.dims) (first_bank_of es number) bank)
    ∙ (past (banks_of x.shape.dims) (first_bank_of es number + bank) x.shape.ports (bank_ports_in es) ∙ ports_at es number bank e h b)
  where
    grouped : (a b c : ℕ) → a + b + c ≡ a + (b + c)
    grouped a b c = omega arith

    past : (n i v : ℕ) (rest : List ℕ) → slice_index (replicate n v ++ rest) (n + i) ≡ slice_index rest i
    past zero i v rest = ap (slice_index rest) (none i)
      where
        none : (i : ℕ) → 0 + i ≡ i
        none i = omega arith
    past (suc n) i v rest = ap (slice_index (v ∷ (replicate n v ++ rest))) (shift n i) ∙ past n i v rest
      where
        shift : (n i : ℕ) → suc n + i ≡ suc (n + i)
        shift n i = omega arith

-- Spent ports.

abbrev taken_at : (flags : List Bool) → (event keys : ℕ) → ℕ
taken_at flags event keys = if flag_at (slice_get flags event) then 0 else keys

module _ (p : Program) (xs : List PortEvent) (w : IsWhole p xs) (flags : List Bool) (table : IsProgramTable (table_of p))
    (bounds : (k : ℕ) (a : SourceAccess) → slice_get (accesses_in (trace p)) k ≡ Some a → Bounds p a)
    (told : (k : ℕ) → k < access_count xs → slice_get flags (event_of xs k) ≡ Some (is_some (shared p k))) where
  abbrev steps_of : ℕ → List Step
  steps_of k = map (spending_step flags) (nth_claims (claim_lists p (loops_known p) 0 xs) k)

  abbrev takes : (slot k : ℕ) → ℕ
  takes slot k = all_taken slot (steps_of k)

  abbrev levels : ℕ → Level
  levels slot = start (slice_index (bank_ports_in (table_of p)) slot)

  -- what is taken of the bank of a memory is what is charged
  module _ (memory number bank : ℕ) (entry : MemEntry) (known : number_in (memories_of p) (Some memory) ≡ Some number) (stands : slice_get (table_of p) number ≡ Some entry) (inside : bank < banks_of entry.shape.dims) where
    abbrev slot : ℕ
    slot = first_bank_of (table_of p) number + bank

    there : bank < memory_bank_count p number
    there = subst (λ (o : Option MemEntry). bank < entry_bank_count o) (sym stands) inside

    takes_one : (k : ℕ) → takes slot k ≡ charge p memory bank k
    takes_one k = elim (cases_lt k (access_count xs)) [
      | inl h ↦
          let a = access_there p xs w k h in
          let at = access_at p xs w k a.0 a.1 in
          ap (λ ms. all_taken slot (map (spending_step flags) ms)) at.claims ∙ takes_charge p flags (event_of xs k) k memory number bank a.0 known there a.1 (told k h)
      | inr h ↦
          ap (λ ms. all_taken slot (map (spending_step flags) ms)) (none_claims p (loops_known p) 0 xs k h)
          ∙ sym (beyond (slice_get (accesses_in (trace p)) k) refl h)
    ]
      where
        beyond : (o : Option SourceAccess) → slice_get (accesses_in (trace p)) k ≡ o → access_count xs ≤ k → charge p memory bank k ≡ 0
        beyond None e h = ap (charge_of p memory bank k) e
        beyond (Some a) e h = absurd (not_both k (access_count xs) (access_at p xs w k a e).within h)
          where
            not_both : (k n : ℕ) → k < n → n ≤ k → ⊥
            not_both k n e f = omega (arith, e, f)

    takes_are : (λ k. takes slot k) ≡ charge p memory bank
    takes_are = fun_ext takes_one

    left_is : (k : ℕ) → In k (meets_in p) → before_at (takes slot) 0 (levels slot) xs k ≡ ports_of_entity p memory - (upto (charge p memory bank) k (meets_in p) - charge p memory bank k)
    left_is k i =
        ap (λ (c : ℕ → ℕ). before_at c 0 (levels slot) xs k) takes_are
        ∙ ((w.ties (charge p memory bank)).during (levels slot) k i
        ∙ ap (λ n. n - (upto (charge p memory bank) k (meets_in p) - charge p memory bank k)) (ports_at (table_of p) number bank entry stands inside ∙ sym ports_are))
      where
        ports_are : ports_of_entity p memory ≡ entry.shape.ports
        ports_are =
            let mine = found (memories_of p) (Some memory) number known in
            ap ports_or_zero mine.is ∙ ap (λ (e : MemEntry). e.shape.ports) (some_same (entry_of mine.memory) entry (sym mine.entry ∙ stands))

    over_beyond : (ports up c : ℕ) → c ≤ up → ports - (up - c) < c → ports < up
    over_beyond ports up c e f = omega (arith, e, f)

    beyond_over : (ports up c : ℕ) → 1 ≤ c → ports < up → ports - (up - c) < c
    beyond_over ports up c e f = omega (arith, e, f)

    spends_if : (k : ℕ) → In k (meets_in p) → before_at (takes slot) 0 (levels slot) xs k < takes slot k → AccessOverspends p k
    spends_if k i over =
        let more : ports_of_entity p memory - (upto (charge p memory bank) k (meets_in p) - charge p memory bank k) < charge p memory bank k =
        subst (λ (n : ℕ). n < charge p memory bank k) (left_is k i) (subst (λ (n : ℕ). before_at (takes slot) 0 (levels slot) xs k < n) (takes_one k) over) in
        record { memory = memory; bank = bank; charged = some _ _ more; beyond = over_beyond (ports_of_entity p memory) (upto (charge p memory bank) k (meets_in p)) (charge p memory bank k) (upto_most (charge p memory bank) k (meets_in p) (whole p).distinct i) more }
      where
        some : (m n : ℕ) → m < n → 1 ≤ n
        some m n e = omega (arith, e)

    if_spends : (k : ℕ) → In k (meets_in p) → 1 ≤ charge p memory bank k → ports_of_entity p memory < upto (charge p memory bank) k (meets_in p) → before_at (takes slot) 0 (levels slot) xs k < takes slot k
    if_spends k i some beyond =
        subst (λ (n : ℕ). before_at (takes slot) 0 (levels slot) xs k < n) (sym (takes_one k))
        (subst (λ (n : ℕ). n < charge p memory bank k) (sym (left_is k i)) (beyond_over (ports_of_entity p memory) (upto (charge p memory bank) k (meets_in p)) (charge p memory bank k) some beyond))

  -- steps that take of a slot are claims of it
  taken_claims : (other : ℕ) (ms : List Move) → 1 ≤ all_taken other (map (spending_step flags) ms) → Claims other ms
  taken_claims other [] h = absurd (none h)
    where
      none : 1 ≤ 0 → ⊥
      none h = omega (arith, h)
  taken_claims other (move.Claim event slot keys ∷ ms) h = by_test (cases_Bool (slot == other)) h (taken_claims other ms)
    where
      only : (n : ℕ) → 1 ≤ 0 + n → 1 ≤ n
      only n e = omega (arith, e)

      by_test : ((slot == other) ≡ true) ⊎ ((slot == other) ≡ false) → 1 ≤ (if slot == other then taken_at flags event keys else 0) + all_taken other (map (spending_step flags) ms) → (1 ≤ all_taken other (map (spending_step flags) ms) → Claims other ms) → (slot ≡ other) ⊎ Claims other ms
      by_test (inl e) h rest = inl (eqb-true slot other e)
      by_test (inr e) h rest = inr (rest (only _ (subst (λ (b : Bool). 1 ≤ (if b then taken_at flags event keys else 0) + all_taken other (map (spending_step flags) ms)) e h)))
  taken_claims other (move.Begin ∷ ms) h = taken_claims other ms (only _ h)
    where
      only : (n : ℕ) → 1 ≤ 0 + n → 1 ≤ n
      only n e = omega (arith, e)
  taken_claims other (move.Next ∷ ms) h = taken_claims other ms (only _ h)
    where
      only : (n : ℕ) → 1 ≤ 0 + n → 1 ≤ n
      only n e = omega (arith, e)
  taken_claims other (move.End ∷ ms) h = taken_claims other ms (only _ h)
    where
      only : (n : ℕ) → 1 ≤ 0 + n → 1 ≤ n
      only n e = omega (arith, e)

  -- an access that takes more of a slot than is left spends ports
  over_spends : (k other : ℕ) (a : SourceAccess) → slice_get (accesses_in (trace p)) k ≡ Some a → before_at (takes other) 0 (levels other) xs k < takes other k → AccessOverspends p k
  over_spends k other a e over =
      let at = access_at p xs w k a e in
      let c = claimed p (event_of xs k) other a (subst (λ (ms : List Move). Claims other ms) at.claims (taken_claims other (nth_claims (claim_lists p (loops_known p) 0 xs) k) (some _ _ over))) in
      spends_if c.memory c.number c.bank c.entry c.known c.stands c.within k (access_in p k a e) (subst (λ (n : ℕ). before_at (takes n) 0 (levels n) xs k < takes n k) c.is over)
    where
      some : (m n : ℕ) → m < n → 1 ≤ n
      some m n e = omega (arith, e)

  -- and one that spends ports takes more of some slot than is left
  spends_over : (k : ℕ) → AccessOverspends p k → (k < access_count xs) × ((other : ℕ) × (before_at (takes other) 0 (levels other) xs k < takes other k))
  spends_over k s = by_access (slice_get (accesses_in (trace p)) k) refl
    where
      none_one : 1 ≤ 0 → ⊥
      none_one e = omega (arith, e)

      by_access : (o : Option SourceAccess) → slice_get (accesses_in (trace p)) k ≡ o → (k < access_count xs) × ((other : ℕ) × (before_at (takes other) 0 (levels other) xs k < takes other k))
      by_access None e = absurd (none_one (subst (λ (n : ℕ). 1 ≤ n) (ap (charge_of p s.memory s.bank k) e) s.charged))
      by_access (Some a) e = ((access_at p xs w k a e).within, by_shared (is_some (shared p k)) refl)
        where
          by_shared : (b : Bool) → is_some (shared p k) ≡ b → (other : ℕ) × (before_at (takes other) 0 (levels other) xs k < takes other k)
          by_shared true f = absurd (none_one (subst (λ (n : ℕ). 1 ≤ n) (ap (charge_of p s.memory s.bank k) e ∙ ap (λ b. if b then 0 else charge_by p (way_to p a.entity) a s.memory s.bank) f) s.charged))
          by_shared false f =
              let r = reaching p a s.memory s.bank (bounds k a e)
              (charged_reach p a s.memory s.bank (bounds k a e) (subst (λ (n : ℕ). 1 ≤ n) (ap (charge_of p s.memory s.bank k) e ∙ ap (λ b. if b then 0 else charge_by p (way_to p a.entity) a s.memory s.bank) f) s.charged)) in
              (first_bank_of (table_of p) r.number + s.bank, if_spends s.memory r.number s.bank (entry_of r.owner) r.known r.stands r.within k (access_in p k a e) s.charged s.beyond)

  pub stops_told : (o : Option Place) → Stops flags xs p (loops_known p) steps_of (λ slot k. before_at (takes slot) 0 (levels slot) xs k) 0 (access_count xs) (touched xs) o → TellsSpent p o
  stops_told None r = none_spends p (λ k i s. let q = spends_over k s in absurd (not_both _ _ (r k q.1.0 (least k) (from_0 k (access_count xs) q.0)) q.1.1))
    where
      least : (k : ℕ) → 0 ≤ k
      least k = omega arith

      from_0 : (k n : ℕ) → k < n → k < 0 + n
      from_0 k n e = omega (arith, e)

      not_both : (m n : ℕ) → m ≤ n → n < m → ⊥
      not_both m n e f = omega (arith, e, f)
  stops_told (Some place) r =
      let number_is : r.number ≡ r.behind = r.is ∙ from_none r.behind in
      let stands : place_in p r.number ≡ Some place = ap (place_in p) number_is ∙ (place_same r.behind ∙ r.stands) in
      let a = there (slice_get (accesses_in (trace p)) r.number) place stands in
      first_spends p r.number place stands (access_in p r.number a.0 a.1) (over_spends r.number r.slot a.0 a.1 r.beyond)
      (λ x less s. let q = spends_over x s in not_both _ _ (r.first x q.1.0 (least x) less) q.1.1)
    where
      least : (k : ℕ) → 0 ≤ k
      least k = omega arith

      from_none : (k : ℕ) → 0 + k ≡ k
      from_none k = omega arith

      not_both : (m n : ℕ) → m ≤ n → n < m → ⊥
      not_both m n e f = omega (arith, e, f)

      there : (o : Option SourceAccess) (place : Place) → option_map (λ (a : SourceAccess). a.place) o ≡ Some place → (a : SourceAccess) × (o ≡ Some a)
      there None place e = cc
      there (Some a) place e = (a, refl)

      place_same : (k : ℕ) → place_in p k ≡ option_map (λ (t : Touched). t.place) (slice_get (touched xs) k)
      place_same k = of_option (slice_get (accesses_in (trace p)) k) ∙ sym (ap (option_map (λ (t : Touched). t.place)) (ap (λ l. slice_get l k) w.touched_all ∙ slice_get-map of_access (accesses_in (trace p)) k))
        where
          of_option : (o : Option SourceAccess) → option_map (λ (a : SourceAccess). a.place) o ≡ option_map (λ (t : Touched). t.place) (option_map of_access o)
          of_option None = refl
          of_option (Some a) = refl

-- the views on each way of a program follow one another to a memory
pub ways_follow : (p : Program) → view_breaches_of p ≡ [] → IsProgramTable (table_of p) → AllByRecursion (λ l. LeadsTo (memories_of p) l.way) (ways_of p)
ways_follow p views table = ways_lead p (first_none (factor_breaches_of p) (action_view_breaches (known_views p) p.body) views) table

module _ (p : Program) (views : view_breaches_of p ≡ []) (table : IsProgramTable (table_of p)) (k : ℕ) (a : SourceAccess) (e : slice_get (accesses_in (trace p)) k ≡ Some a) where
  -- what has a way is a view
  way_among : (m : Option Memory) (o : Option Way) (w : Way) → way_unless m o ≡ Some w → o ≡ Some w
  way_among (Some m) o w u = cc
  way_among None None w u = cc
  way_among None (Some x) w u = u

  none_some : (w : Way) → ◌≡◌ {A = Option Way} None (Some w) → ⊥
  none_some w e = cc

  bank_within : (w : Way) → way_in (ways_of p) a.entity ≡ Some w → LeadsTo (memories_of p) w → (path : Path) (element : Element) → a.element ≡ element → bank_reached (counters_of p) w.is.shape.dims a path element < banks_of w.is.shape.dims
  bank_within w u leads path (with_indices indices) f = bank_told w.is.shape.dims (indices_in (counters_of p) a.site.loops path indices) leads.own.own.dims
  bank_within w u leads path (in_row bank row) f = absurd (none_some w (sym (row_unviewed p views k a e bank row f) ∙ u))

  pub leads_at : (w : Way) → way_to p a.entity ≡ Some w → LeadsAt p w a
  leads_at w u =
      let among = way_among (memory_in (memories_of p) a.entity) (way_in (ways_of p) a.entity) w u in
      let leads = way_leads (memories_of p) (ways_of p) a.entity w (ways_follow p views table) among in
      record { leads = leads; inside = λ path. bank_within w among leads path a.element refl }

-- what is told before keeps accesses in the banks of their memories
pub bounds_of : (p : Program) → IsToldBefore p → (k : ℕ) (a : SourceAccess) → slice_get (accesses_in (trace p)) k ≡ Some a → Bounds p a
bounds_of p h k a e = record { table = h.table; ways_lead = λ w u. leads_at p h.ready.views h.table k a e w u; rows = λ bank row m f g. h.banks k bank a row m e f g }

pub spent_told : (p : Program) (events : List Event) (flags : List Bool) → IsToldBefore p → TellsLoops p → AreEventsOf p events → length flags ≡ length events → TellsShared p events flags
    → TellsSpent p (spent_place (table_of p) events flags (moves_from p (loops_known p) 0 (all_seen events)))
spent_told p events flags h loops are long shared_told =
    let w = whole_is p (all_seen events) loops are.seen in
    let f : ℕ → List Step = λ k. map (spending_step flags) (nth_claims (claim_lists p (loops_known p) 0 (all_seen events)) k) in
    stops_told p (all_seen events) w flags h.table (bounds_of p h) told _
    (walk flags (all_seen events) p (loops_known p) (λ k. map (spending_step flags) (nth_claims (claim_lists p (loops_known p) 0 (all_seen events)) k)) 0 0 (λ slot. start (slice_index (bank_ports_in (table_of p)) slot)) (all_seen events)
    (λ j. ap (λ n. map (spending_step flags) (nth_claims (claim_lists p (loops_known p) 0 (all_seen events)) n)) (from_none j)) (follow_all (all_seen events)))
  where
    from_none : (j : ℕ) → 0 + j ≡ j
    from_none j = omega arith

    told : (k : ℕ) → k < access_count (all_seen events) → slice_get flags (event_of (all_seen events) k) ≡ Some (is_some (shared p k))
    told k e = by_flag (there_is flags (event_of (all_seen events) k) (within k e))
      where
        at : slice_get (at_touches (all_seen events) flags) k ≡ slice_get flags (event_of (all_seen events) k)
        at = at_event (all_seen events) flags k (long ∙ sym (length-map _ _)) e

        within : (k : ℕ) → k < access_count (all_seen events) → event_of (all_seen events) k < length flags
        within k e =
            let t = touch_at p (loops_known p) 0 (all_seen events) k e in
            subst (λ (n : ℕ). event_of (all_seen events) k < n) (sym (long ∙ sym (length-map _ _))) (slice_get_within (all_seen events) (event_of (all_seen events) k) _ t.stands)

        by_flag : (flag : Bool) × (slice_get flags (event_of (all_seen events) k) ≡ Some flag) → slice_get flags (event_of (all_seen events) k) ≡ Some (is_some (shared p k))
        by_flag (flag, f) = f ∙ ap (λ b. Some b) (shared_told k flag (at ∙ f))
