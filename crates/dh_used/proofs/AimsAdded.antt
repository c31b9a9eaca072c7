-- What is put down for expressions, reads and writes names elements as the source does: a literal is put down as a constant
-- without a guard, and stays where it is. By recursion on what is put down, along the events of the expression.
use Rattle.std.proofs.Common.{◌≡◌, ◌⊎◌, inl, inr, ◌<◌, ◌≤◌, ◌+◌, ◌^◌, ℕ, zero, suc, List, Some, None, ap, sym, ◌∙◌, subst, length, arith, append_assoc, refl}
use Rattle.std.specs.Prelude.{Bool as Truth, true, false, [], ◌∷◌, ◌++◌, Option, slice_get}
use Rattle.std.proofs.lemmas.List.{append-nil}
use Rattle.dh_value.specs.declared.kinds.Kind.{Kind}
use Rattle.dh_value.specs.Operations.{truth}
use Rattle.dh_tree.specs.declared.trees.expressions.Ref.{Ref}
use Rattle.dh_tree.specs.Indices.{form_of}
use Rattle.dh_tree.specs.PlainTrees as plain
use Rattle.dh_tree.specs.PlainTrees.{Term}
use Rattle.dh_tree.specs.Seen.{program_seen}
use Rattle.dh_meaning.specs.AccessNumbers.{term_accesses, terms_accesses}
use Rattle.dh_meaning.specs.Bindings.{kind_or_first}
use Rattle.dh_meaning.specs.CoreOf.{entity_number, memory_of, way_of}
use Rattle.dh_meaning.specs.Ways.{Way}
use Rattle.dh_meets.specs.SourceEvents.{Element, with_indices, in_row, Site, SourceAccess, SourceEvent, accesses, accesses_in, one_access, source_term_events, source_terms_events}
use Rattle.dh_code.specs.Slots.{held_at}
use Rattle.dh_plan.specs.declared.operations.Operation.{Operation}
use Rattle.dh_plan.specs.declared.operations.OperationForm.{OperationForm}
use Rattle.dh_plan.specs.declared.operations.OperationForm.TheVariants.{Constant, Probe, Read, Write}
use Rattle.dh_plan.specs.declared.operations.Reach.{Reach}
use Rattle.dh_plan.specs.declared.operations.ReachStep.{ReachStep}
use Rattle.dh_plan.specs.DoneProgram.{product_of}
use Rattle.dh_plan.specs.SoundPlans.{access_in}
use Rattle.dh_sound.specs.ToldEvents.{access_at}
use Rattle.dh_sound.proofs.EventCounts.{accesses_joined, term_counted, terms_counted}
use Rattle.dh_expressions.specs.declared.accesses.Accesses.{Accesses}
use Rattle.dh_expressions.specs.declared.accesses.Touched.{Touched}
use Rattle.dh_expressions.specs.declared.copies.AccessAt.{AccessAt}
use Rattle.dh_expressions.specs.declared.drafts.Draft.{Draft}
use Rattle.dh_expressions.specs.declared.elements.Aim.{Aim}
use Rattle.dh_expressions.specs.declared.scenes.Lane.{Lane}
use Rattle.dh_expressions.specs.declared.scenes.Scene.{Scene}
use Rattle.dh_expressions.specs.Drafted.{Pushes}
use Rattle.dh_expressions.specs.Evaluated.{counter_of}
use Rattle.dh_expressions.specs.MadeTerms.{MadeRead, MadeTerm, MadeTerms, MadeWay, MadeWrite}
use Rattle.dh_expressions.specs.Named.{first_view, known_in}
use Rattle.dh_expressions.specs.Noted.{copied_in}
use Rattle.dh_expressions.specs.Reaching.{Finds, copy_banks, place_written, reach_told}
use Rattle.dh_expressions.specs.Shown.{is_kept}
use Rattle.dh_expressions.specs.Standings.{copy_places, standing_at}
use Rattle.dh_expressions.specs.Touching.{AddsTouched, TouchesAt}
use Rattle.dh_expressions.proofs.ListPlaces.{some_same}
use Rattle.dh_expressions.proofs.Pushing.{in_front, pushed_there}
use Rattle.dh_formed.specs.Formed as formed
use Rattle.dh_formed.proofs.TermsFormed.{all_numbered, numbered}
use Rattle.dh_formed.proofs.ValuesCounted.{copies_counts, number_counts, operation_counts, sees_any, variable_counts, way_counts}
use Rattle.dh_laid.specs.LaidQuiet.{BlockStandsIn}
use Rattle.dh_laid.specs.LaidUses.{IsSitesReach}
use Rattle.dh_laid.proofs.FaultsOwn.{each_place, in_either}
use Rattle.dh_laid.proofs.SitesLaid.{behind_place}
use Rattle.dh_laid.proofs.UsesAdded.{AddsNone, any_register, converted_used, no_reach, none_again, none_pushed, none_same, uses_counted}
use Rattle.dh_used.specs.SourceAims.{AimsAt, HoldTerms, HoldsForm, HoldsTerm, IsAimed, PassesOn}

-- More operations behind.

-- each operation stands where it did
abbrev pub Stays : (os qs : List Operation) → Type 0
Stays os qs = (n : ℕ) (o : Operation) → slice_get os n ≡ Some o → slice_get qs n ≡ Some o

form_stays : (os qs : List Operation) → Stays os qs → (k : Kind) (form : plain.TermForm) (value : ℕ) → HoldsForm os k form value → HoldsForm qs k form value
form_stays os qs stays k (plain.number negative n) value h = (h.0, (stays value (record { guard = None; form = Constant h.0 }) h.1.0, h.1.1))
form_stays os qs stays k (plain.truth_value b) value h = tt
form_stays os qs stays k (plain.named r) value h = tt
form_stays os qs stays k (plain.accessed r indices) value h = tt
form_stays os qs stays k (plain.in_bank r bank at row) value h = tt
form_stays os qs stays k (plain.applied op left right) value h = tt
form_stays os qs stays k (plain.converted inner to) value h = tt

pub term_stays : (os qs : List Operation) → Stays os qs → (t : Term) (value : ℕ) → HoldsTerm os t value → HoldsTerm qs t value
term_stays os qs stays (plain.term place kind form) value h = form_stays os qs stays (kind_or_first kind) form value h

pub terms_stay : (os qs : List Operation) → Stays os qs → (ts : plain.Terms) (values : List ℕ) → HoldTerms os ts values → HoldTerms qs ts values
terms_stay os qs stays plain.no_terms values h = h
terms_stay os qs stays (plain.term_then t ts) values h = (h.0, (h.1.0, (h.1.1.0, (term_stays os qs stays t h.0 h.1.1.1.0, terms_stay os qs stays ts h.1.0 h.1.1.1.1))))

pub aimed_stays : (scene : Scene) (os qs : List Operation) → Stays os qs → (r : Reach) → IsAimed scene os r → IsAimed scene qs r
aimed_stays scene os qs stays r h = record { access = h.access; there = h.there; ref = h.ref; entity_is = h.entity_is; select = h.select; element = by (h.access).element h.element }
  where
    by : (e : Element) → AimsAt scene os h.ref e r → AimsAt scene qs h.ref e r
    by (with_indices indices) a = (a.0, (terms_stay os qs stays indices r.indices a.1.0, a.1.1))
    by (in_row bank row) a = (a.0, (a.1.0, term_stays os qs stays row a.0 a.1.1))

-- Parts.

-- what was added names elements as the source does
pub record AddsAims (scene : Scene) (old new : Draft) : Type 0 where
  pub more : List Operation
  pub adds : new.operations.items ≡ old.operations.items ++ more
  pub each : (i : ℕ) (o : Operation) (r : Reach) → slice_get more i ≡ Some o → access_in o.form ≡ Some r → IsAimed scene new.operations.items r

module _ (scene : Scene) where
  abbrev pub Aims : (old new : Draft) → Type 0
  Aims old new = AddsAims scene old new

  pub adds_stay : (old new : Draft) → Aims old new → Stays old.operations.items new.operations.items
  adds_stay old new h n o at = subst (λ (os : List Operation). slice_get os n ≡ Some o) (sym h.adds) (in_front old.operations.items h.more n o at)

  pub aims_none : (old new : Draft) → new ≡ old → Aims old new
  aims_none old new same = record { more = []; adds = ap (λ (d : Draft). d.operations.items) same ∙ sym (append-nil old.operations.items); each = λ i o r at is. absurd (never i o at) }
    where
      never : (i : ℕ) (o : Operation) → slice_get [] i ≡ Some o → ⊥
      never i o e = cc

  pub aims_again : (a b c : Draft) → Aims a b → Aims b c → Aims a c
  aims_again a b c h k = record {
    more = h.more ++ k.more;
    adds = k.adds ∙ (ap (λ (os : List Operation). os ++ k.more) h.adds ∙ append_assoc a.operations.items h.more k.more);
    each = λ i o r at is. by i o r is (in_either h.more k.more i o at);
  }
    where
      by : (i : ℕ) (o : Operation) (r : Reach) → access_in o.form ≡ Some r → (slice_get h.more i ≡ Some o) ⊎ ((j : ℕ) × (slice_get k.more j ≡ Some o)) → IsAimed scene c.operations.items r
      by i o r is (inl at) = aimed_stays scene b.operations.items c.operations.items (adds_stay b c k) r (h.each i o r at is)
      by i o r is (inr at) = k.each at.0 o r at.1 is

  abbrev pub no_sites : ℕ → Option formed.BlockSite
  no_sites number = None

  -- what reaches no memory
  pub aims_plain : (old new : Draft) → AddsNone scene no_sites old new → Aims old new
  aims_plain old new h = record {
    more = h.more;
    adds = h.adds;
    each = λ i o r at is. absurd (never r (each_place (λ (q : Operation). (t : Reach) → access_in q.form ≡ Some t → IsSitesReach no_sites t) h.more i o h.reaches at r is));
  }
    where
      never : (r : Reach) → IsSitesReach no_sites r → ⊥
      never r s = lost s.site s.there
        where
          lost : (x : formed.BlockSite) → None ≡ Some x → ⊥
          lost x e = cc

  -- what reaches one
  pub aims_pushed : (old new : Draft) (n : ℕ) (guard : Option ℕ) (form : OperationForm) (q : Reach) → access_in form ≡ Some q → Pushes old new n guard form → IsAimed scene old.operations.items q → Aims old new
  aims_pushed old new n guard form q is p aimed = record { more = record { guard = guard; form = form } ∷ []; adds = p.operations; each = λ i o r at reach. one i o r at reach }
    where
      stays : Stays old.operations.items new.operations.items
      stays m o at = subst (λ (os : List Operation). slice_get os m ≡ Some o) (sym p.operations) (in_front old.operations.items (record { guard = guard; form = form } ∷ []) m o at)

      one : (i : ℕ) (o : Operation) (r : Reach) → slice_get (record { guard = guard; form = form } ∷ []) i ≡ Some o → access_in o.form ≡ Some r → IsAimed scene new.operations.items r
      one zero o r at reach =
          let same : q ≡ r = some_same q r (sym is ∙ (ap (λ (x : Operation). access_in x.form) (some_same (record { guard = guard; form = form }) o at) ∙ reach)) in
          subst (λ (t : Reach). IsAimed scene new.operations.items t) same (aimed_stays scene old.operations.items new.operations.items stays q aimed)
      one (suc i) o r at reach = absurd (never i o at)
        where
          never : (i : ℕ) (o : Operation) → slice_get [] i ≡ Some o → ⊥
          never i o e = cc

  pub through : (a b : Draft) → Aims a b → (r : Reach) → IsAimed scene a.operations.items r → IsAimed scene b.operations.items r
  through a b h r aimed = aimed_stays scene a.operations.items b.operations.items (adds_stay a b h) r aimed

  -- The accesses of events are those of the program, from a number on.
  abbrev pub AreAccesses : (n : ℕ) → List SourceEvent → Type 0
  AreAccesses n es = (i : ℕ) (a : SourceAccess) → slice_get (accesses_in es) i ≡ Some a → access_at (program_seen scene.program.now) (n + i) ≡ Some a

  pub events_front : (n : ℕ) (es fs : List SourceEvent) → AreAccesses n (es ++ fs) → AreAccesses n es
  events_front n es fs h i a at = h i a (subst (λ (l : List SourceAccess). slice_get l i ≡ Some a) (sym (accesses_joined es fs)) (in_front (accesses_in es) (accesses_in fs) i a at))

  pub events_behind : (n own : ℕ) (es fs : List SourceEvent) (count : ℕ) → length (accesses_in es) ≡ count → own ≡ n + count → AreAccesses n (es ++ fs) → AreAccesses own fs
  events_behind n own es fs count long is h i a at =
      ap (λ (k : ℕ). access_at (program_seen scene.program.now) k) (moved n own (length (accesses_in es)) count i long is)
      ∙ h (length (accesses_in es) + i) a (subst (λ (l : List SourceAccess). slice_get l (length (accesses_in es) + i) ≡ Some a) (sym (accesses_joined es fs)) (behind_place (accesses_in es) (accesses_in fs) i a at))
    where
      moved : (n own l c i : ℕ) → l ≡ c → own ≡ n + c → own + i ≡ n + (l + i)
      moved n own l c i e is = omega (arith, e, is)

  pub events_last : (n own : ℕ) (es : List SourceEvent) (a : SourceAccess) (count : ℕ) → length (accesses_in es) ≡ count → own ≡ n + count → AreAccesses n (es ++ accesses a ∷ []) → access_at (program_seen scene.program.now) own ≡ Some a
  events_last n own es a count long is h =
      ap (λ (k : ℕ). access_at (program_seen scene.program.now) k) (none own) ∙ events_behind n own es (accesses a ∷ []) count long is h 0 a refl
    where
      none : (k : ℕ) → k ≡ k + 0
      none k = omega arith

  -- One path.

  module _ (lane : Lane) (stands : BlockStandsIn scene lane.around) where
    touch_aims : (access : Term) (memory : ℕ) (writes : Truth) (old new : Draft) (before after : Accesses) (number : ℕ)
        → TouchesAt scene lane.around (standing_at scene lane.around memory (place_written access) (form_of access) writes) old new before after number → Aims old new
    touch_aims access memory writes old new before after number t = by t.adds
      where
        leads : (p : ℕ) → (standing_at scene lane.around memory (place_written access) (form_of access) writes).leader p ≤ p
        leads p = omega arith

        by : (new ≡ old) ⊎ ((u : Touched) × AddsTouched old new scene lane.around (standing_at scene lane.around memory (place_written access) (form_of access) writes) u) → Aims old new
        by (inl same) = aims_none old new same
        by (inr (u, a)) =
            aims_plain old new
            (none_again scene no_sites old a.middle new (none_same scene no_sites old a.middle a.names.operations)
            (uses_counted scene no_sites a.middle new 0 _ _
            (copies_counts any_register no_reach no_reach no_reach (standing_at scene lane.around memory (place_written access) (form_of access) writes).leader
            (standing_at scene lane.around memory (place_written access) (form_of access) writes).bank (copy_places (standing_at scene lane.around memory (place_written access) (form_of access) writes)) lane.around.guards.now leads (length lane.around.guards.now) a.middle new u.copies
            (a.copies stands.scopes stands.low))))

    find_aims : (form : plain.TermForm) (old new : Draft) (memory : ℕ) (aim : Aim) (copy : AccessAt) (found : Option ℕ) (v : ℕ) → Finds scene form old new memory aim copy found v
        → IsAimed scene old.operations.items (reach_told memory aim (copy_banks scene form copy)) → Aims old new
    find_aims form old new memory aim copy None v m aimed = aims_pushed old new v copy.guard (Read (reach_told memory aim (copy_banks scene form copy))) (reach_told memory aim (copy_banks scene form copy)) refl m aimed
    find_aims form old new memory aim copy (Some n) v m aimed = aims_none old new m.0

    -- an access, whatever banks it can reach
    module _ (access : Term) (memory : ℕ) (aim : Aim) (old : Draft) (a : SourceAccess) (at : access_at (program_seen scene.program.now) aim.number ≡ Some a) (ref : Ref) (entity_is : ref.entity ≡ a.entity)
        (element : (banks : List (ℕ × ℕ)) → AimsAt scene old.operations.items ref a.element (reach_told memory aim banks)) where
      aimed : (banks : List (ℕ × ℕ)) → IsAimed scene old.operations.items (reach_told memory aim banks)
      aimed banks = record { access = a; there = at; ref = ref; entity_is = entity_is; select = refl; element = element banks }

      pub read_aims : (new : Draft) (before after : Accesses) (v : ℕ) → MadeRead scene lane access memory aim old new before after v → Aims old new
      read_aims new before after v r =
          let one = touch_aims access memory false old r.first before r.middle aim.number r.touches in
          let two = aims_pushed r.first r.second _ _ (Probe (reach_told memory aim []) _) (reach_told memory aim []) refl r.probes (through old r.first one (reach_told memory aim []) (aimed [])) in
          let q = reach_told memory aim (copy_banks scene (form_of access) (copied_in r.middle aim.number lane.number)) in
          aims_again old r.first new one
          (aims_again r.first r.second new two
          (find_aims (form_of access) r.second new memory aim (copied_in r.middle aim.number lane.number) _ v r.finds (through r.first r.second two q (through old r.first one q (aimed (copy_banks scene (form_of access) (copied_in r.middle aim.number lane.number)))))))

      pub write_aims : (value : ℕ) (new : Draft) (before after : Accesses) → MadeWrite scene lane access memory aim value old new before after → Aims old new
      write_aims value new before after w =
          let one = touch_aims access memory true old w.first before after aim.number w.touches in
          let two = aims_pushed w.first w.second _ _ (Probe (reach_told memory aim []) _) (reach_told memory aim []) refl w.probes (through old w.first one (reach_told memory aim []) (aimed [])) in
          let banks = copy_banks scene (form_of access) (copied_in after aim.number lane.number) in
          aims_again old w.first new one
          (aims_again w.first w.second new two
          (aims_pushed w.second new _ _ (Write (reach_told memory aim banks) value) (reach_told memory aim banks) refl w.writes (through w.first w.second two (reach_told memory aim banks) (through old w.first one (reach_told memory aim banks) (aimed banks)))))

    module _ (current : List (Option ℕ)) where
      -- the steps of the way of what a name stands for
      pub way_aims : (r : Ref) (old new : Draft) (steps : List ReachStep) → MadeWay scene lane current old new (first_view scene r) (way_of (known_in scene) r) steps → Aims old new
      way_aims r old new steps m =
          aims_plain old new
          (uses_counted scene no_sites old new 0 _ _
          (way_counts any_register no_reach no_reach no_reach scene lane current (way_of (known_in scene) r) (first_view scene r) (sees_any any_register no_reach no_reach no_reach (λ register. tt) scene lane (way_of (known_in scene) r)) old new steps m))

      pub passes : (first : ℕ) (w : Option Way) (old new : Draft) (steps : List ReachStep) → MadeWay scene lane current old new first w steps → PassesOn scene first w steps
      passes first None old new steps m = m.1
      passes first (Some w) old new steps m = (m.values, m.steps_are)

      -- an expression, and its value where it is a literal
      pub record AimsTerm (t : Term) (old new : Draft) (v : ℕ) : Type 0 where
        pub aims : Aims old new
        pub holds : HoldsTerm new.operations.items t v

      pub record AimsTerms (ts : plain.Terms) (old new : Draft) (vs : List ℕ) : Type 0 where
        pub aims : Aims old new
        pub hold : HoldTerms new.operations.items ts vs

      module _ (site : Site) where
        mutual
          pub term_aims : (t : Term) (old new : Draft) (before after : Accesses) (n next v : ℕ) → MadeTerm scene lane current t old new before after n next v → n + term_accesses t < 2 ^ 32 → AreAccesses n (source_term_events site t) → AimsTerm t old new v
          term_aims (plain.term place k (plain.number negative z)) old new before after n next v m few has = record {
            aims = aims_plain old new (uses_counted scene no_sites old new 0 _ _ (number_counts any_register no_reach no_reach no_reach (kind_or_first k) negative z old new v m.part));
            holds = ((m.part).word, (pushed_there old new v None (Constant (m.part).word) (m.part).pushes, (m.part).is));
          }
          term_aims (plain.term place k (plain.truth_value b)) old new before after n next v m few has =
              record { aims = aims_plain old new (none_pushed scene no_sites old new v None (Constant (truth b)) m.part (λ access. refl)); holds = tt }
          term_aims (plain.term place k (plain.named r)) old new before after n next v m few has = record {
            aims = aims_plain old new
                (uses_counted scene no_sites old new 0 _ _
                (variable_counts any_register no_reach no_reach no_reach (counter_of scene (entity_number r.entity)) (held_at scene.held.now (entity_number r.entity)) lane current (kind_or_first k) tt old new v m.part));
            holds = tt;
          }
          term_aims (plain.term place k (plain.accessed r ts)) old new before after n next v m few has =
              let less : n + terms_accesses ts < 2 ^ 32 = omega (arith, few) in
              let own = all_numbered scene lane current ts old m.named before m.between n m.aim.number m.aim.indices m.indices less in
              let one : AimsTerms ts old m.named m.aim.indices = terms_aim ts old m.named before m.between n m.aim.number m.aim.indices m.indices less (events_front n (source_terms_events site ts) (one_access place r.entity (with_indices ts) false site) has) in
              let two : Aims m.named m.middle = way_aims r m.named m.middle m.aim.steps m.steps in
              let at = events_last n m.aim.number (source_terms_events site ts) _ (terms_accesses ts) (terms_counted site ts) own has in
              record {
                aims = aims_again old m.middle new (aims_again old m.named m.middle one.aims two)
                    (read_aims (plain.term place k (plain.accessed r ts)) (memory_of (known_in scene) r) m.aim m.middle _ at r refl
                    (λ banks. (m.row, (terms_stay m.named.operations.items m.middle.operations.items (adds_stay m.named m.middle two) ts m.aim.indices one.hold, passes (first_view scene r) (way_of (known_in scene) r) m.named m.middle m.aim.steps m.steps)))
                    new m.between after v m.reads);
                holds = tt;
              }
          term_aims (plain.term place k (plain.in_bank r bank at row)) old new before after n next v m few has =
              let less : n + term_accesses row < 2 ^ 32 = omega (arith, few) in
              let own = numbered scene lane current row old m.middle before m.between n m.aim.number m.value m.row less in
              let one : AimsTerm row old m.middle m.value = term_aims row old m.middle before m.between n m.aim.number m.value m.row less (events_front n (source_term_events site row) (one_access place r.entity (in_row bank row) false site) has) in
              let there = events_last n m.aim.number (source_term_events site row) _ (term_accesses row) (term_counted site row) own has in
              record {
                aims = aims_again old m.middle new one.aims
                    (read_aims (plain.term place k (plain.in_bank r bank at row)) (memory_of (known_in scene) r) m.aim m.middle _ there r refl (λ banks. (m.value, (m.row_is, one.holds))) new m.between after v m.reads);
                holds = tt;
              }
          term_aims (plain.term place k (plain.applied op left right)) old new before after n next v m few has =
              let less : n + term_accesses left < 2 ^ 32 = omega (arith, few) in
              let own = numbered scene lane current left old m.middle before m.between n m.own m.a m.first less in
              let one : AimsTerm left old m.middle m.a = term_aims left old m.middle before m.between n m.own m.a m.first less (events_front n (source_term_events site left) (source_term_events site right) has) in
              let two : AimsTerm right m.middle m.end m.b =
              term_aims right m.middle m.end m.between after m.own next m.b m.second (omega (arith, few, own)) (events_behind n m.own (source_term_events site left) (source_term_events site right) (term_accesses left) (term_counted site left) own has) in
              record {
                aims = aims_again old m.middle new one.aims
                    (aims_again m.middle m.end new two.aims (aims_plain m.end new (uses_counted scene no_sites m.end new (product_of op) _ _ (operation_counts any_register no_reach no_reach no_reach op left right m.a m.b m.end new v m.operation))));
                holds = tt;
              }
          term_aims (plain.term place k (plain.converted inner to)) old new before after n next v m few has =
              let one : AimsTerm inner old m.middle m.a = term_aims inner old m.middle before after n next m.a m.operand few has in
              record { aims = aims_again old m.middle new one.aims (aims_plain m.middle new (converted_used scene no_sites (is_kept inner to) to m.a m.middle new v m.converts)); holds = tt }

          pub terms_aim : (ts : plain.Terms) (old new : Draft) (before after : Accesses) (n next : ℕ) (vs : List ℕ) → MadeTerms scene lane current ts old new before after n next vs → n + terms_accesses ts < 2 ^ 32 → AreAccesses n (source_terms_events site ts)
              → AimsTerms ts old new vs
          terms_aim plain.no_terms old new before after n next vs m few has = record { aims = aims_none old new m.still; hold = m.none }
          terms_aim (plain.term_then t ts) old new before after n next vs m few has =
              let less : n + term_accesses t < 2 ^ 32 = omega (arith, few) in
              let own = numbered scene lane current t old m.middle before m.between n m.own m.a m.first less in
              let one : AimsTerm t old m.middle m.a = term_aims t old m.middle before m.between n m.own m.a m.first less (events_front n (source_term_events site t) (source_terms_events site ts) has) in
              let two : AimsTerms ts m.middle new m.more =
              terms_aim ts m.middle new m.between after m.own next m.more m.rest (omega (arith, few, own)) (events_behind n m.own (source_term_events site t) (source_terms_events site ts) (term_accesses t) (term_counted site t) own has) in
              record {
                aims = aims_again old m.middle new one.aims two.aims;
                hold = (m.a, (m.more, (m.values_are, (term_stays m.middle.operations.items new.operations.items (adds_stay m.middle new two.aims) t m.a one.holds, two.hold))));
              }
