-- What is put down for expressions sees registers of the names in them alone: by recursion on what was put down.
use Rattle.std.proofs.Common.{◌≡◌, ◌⊎◌, inl, inr, ◌≤◌, ℕ, List, Some, None, ap, sym, ◌∙◌, length, arith, append_assoc}
use Rattle.std.specs.Prelude.{Bool as Truth, true, false, [], ◌∷◌, ◌++◌, Option}
use Rattle.std.specs.List.{AllByRecursion}
use Rattle.std.proofs.lemmas.List.{append-nil}
use Rattle.dh_value.specs.declared.kinds.Kind.{Kind}
use Rattle.dh_value.specs.Operations.{truth}
use Rattle.dh_tree.specs.declared.trees.expressions.Ref.{Ref}
use Rattle.dh_tree.specs.Indices.{form_of}
use Rattle.dh_tree.specs.PlainTrees as plain
use Rattle.dh_tree.specs.PlainTrees.{Term}
use Rattle.dh_meaning.specs.Bindings.{kind_or_first}
use Rattle.dh_meaning.specs.CoreOf.{entity_number, way_of}
use Rattle.dh_meaning.specs.Ways.{Hidden, Way, hidden_in}
use Rattle.dh_code.specs.Slots.{held_at}
use Rattle.dh_plan.specs.declared.operations.Operation.{Operation}
use Rattle.dh_plan.specs.declared.operations.OperationForm.{OperationForm}
use Rattle.dh_plan.specs.declared.operations.OperationForm.TheVariants.{Constant, Convert}
use Rattle.dh_plan.specs.declared.operations.Reach.{Reach}
use Rattle.dh_plan.specs.declared.operations.ReachStep.{ReachStep}
use Rattle.dh_expressions.specs.declared.accesses.Accesses.{Accesses}
use Rattle.dh_expressions.specs.declared.accesses.Touched.{Touched}
use Rattle.dh_expressions.specs.declared.copies.AccessAt.{AccessAt}
use Rattle.dh_expressions.specs.declared.drafts.Draft.{Draft}
use Rattle.dh_expressions.specs.declared.elements.Aim.{Aim}
use Rattle.dh_expressions.specs.declared.scenes.Lane.{Lane}
use Rattle.dh_expressions.specs.declared.scenes.Scene.{Scene}
use Rattle.dh_expressions.specs.Drafted.{Pushes}
use Rattle.dh_expressions.specs.Evaluated.{counter_of, hidden_register, known_in}
use Rattle.dh_expressions.specs.MadeTerms.{MadeHidden, MadeRead, MadeTerm, MadeTerms, MadeWay, MadeWrite}
use Rattle.dh_expressions.specs.MadeValues.{MadeConverted, MadeHeld, MadeNumber, MadeShown}
use Rattle.dh_expressions.specs.Named.{first_view}
use Rattle.dh_expressions.specs.Noted.{copied_in}
use Rattle.dh_expressions.specs.Reaching.{Finds, place_written}
use Rattle.dh_expressions.specs.Shown.{is_kept}
use Rattle.dh_expressions.specs.Standings.{copy_places, standing_at}
use Rattle.dh_expressions.specs.Touching.{AddsTouched, TouchesAt}
use Rattle.dh_formed.specs.Counted.{Counts, FormIs, register_seen}
use Rattle.dh_formed.proofs.ElementsFormed.{all_append}
use Rattle.dh_formed.proofs.ValuesCounted.{copies_counts, held_counts, number_counts, operation_counts, shown_counts, variable_counts}
use Rattle.dh_commands.specs.declared.buildings.Building.{Building}
use Rattle.dh_commands.specs.MadeCommands.{MadeAim, MadeStoring}
use Rattle.dh_laid.specs.LaidQuiet.{BlockStandsIn}
use Rattle.dh_charged.specs.SeenRegisters.{AddsSeeing, IsSeeing, NamesAim, NamesTerm, NamesTerms}

abbrev any_reach : Reach → Type 0
any_reach r = Unit {0}

module _ (Sees : ℕ → Type 0) where
  pub seeing_same : (old new : Draft) → new.operations.items ≡ old.operations.items → AddsSeeing Sees old new
  seeing_same old new same = record { more = []; adds = same ∙ sym (append-nil old.operations.items); each = tt }

  pub seeing_none : (old new : Draft) → new ≡ old → AddsSeeing Sees old new
  seeing_none old new same = seeing_same old new (ap (λ (d : Draft). d.operations.items) same)

  pub seeing_again : (a b c : Draft) → AddsSeeing Sees a b → AddsSeeing Sees b c → AddsSeeing Sees a c
  seeing_again a b c h k = record {
    more = h.more ++ k.more;
    adds = k.adds ∙ (ap (λ (os : List Operation). os ++ k.more) h.adds ∙ append_assoc a.operations.items h.more k.more);
    each = all_append (λ (o : Operation). IsSeeing Sees o.form) h.more k.more h.each k.each;
  }

  pub seeing_pushed : (old new : Draft) (n : ℕ) (guard : Option ℕ) (form : OperationForm) → Pushes old new n guard form → IsSeeing Sees form → AddsSeeing Sees old new
  seeing_pushed old new n guard form p is = record { more = record { guard = guard; form = form } ∷ []; adds = p.operations; each = (is, tt) }

  pub seeing_counted : (old new : Draft) (p : ℕ) (f u : ℕ → ℕ) → Counts old new (FormIs Sees any_reach any_reach any_reach) p f u → AddsSeeing Sees old new
  seeing_counted old new p f u c = record { more = c.more; adds = c.adds; each = c.each }

  -- Values.

  pub converted_sees : (kept : Truth) (to : Kind) (value : ℕ) (old new : Draft) (v : ℕ) → MadeConverted kept to value old new v → AddsSeeing Sees old new
  converted_sees true to value old new v m = seeing_none old new m.0
  converted_sees false to value old new v m = seeing_pushed old new v None (Convert value to) m tt

  pub held_sees : (t : Term) (to : Kind) (value : ℕ) (old new : Draft) (v : ℕ) → MadeHeld t to value old new v → AddsSeeing Sees old new
  held_sees t to value old new v m = seeing_counted old new 0 _ _ (held_counts Sees any_reach any_reach any_reach t to value old new v m)

  pub shown_sees : (current : List (Option ℕ)) (register : ℕ) → Sees register → (old new : Draft) (v : ℕ) → MadeShown current register old new v → AddsSeeing Sees old new
  shown_sees current register sees old new v m = seeing_counted old new 0 _ _ (shown_counts Sees any_reach any_reach any_reach current register sees old new v m)

  pub number_sees : (k : Kind) (negative : Truth) (z : ℕ) (old new : Draft) (v : ℕ) → MadeNumber k negative z old new v → AddsSeeing Sees old new
  number_sees k negative z old new v m = seeing_counted old new 0 _ _ (number_counts Sees any_reach any_reach any_reach k negative z old new v m)

  -- Accesses.

  module _ (scene : Scene) (lane : Lane) (stands : BlockStandsIn scene lane.around) where
    touch_sees : (access : Term) (memory : ℕ) (writes : Truth) (old new : Draft) (before after : Accesses) (number : ℕ)
        → TouchesAt scene lane.around (standing_at scene lane.around memory (place_written access) (form_of access) writes) old new before after number → AddsSeeing Sees old new
    touch_sees access memory writes old new before after number t = by t.adds
      where
        leads : (p : ℕ) → (standing_at scene lane.around memory (place_written access) (form_of access) writes).leader p ≤ p
        leads p = omega arith

        by : (new ≡ old) ⊎ ((u : Touched) × AddsTouched old new scene lane.around (standing_at scene lane.around memory (place_written access) (form_of access) writes) u) → AddsSeeing Sees old new
        by (inl same) = seeing_none old new same
        by (inr (u, a)) =
            let copies = a.copies stands.scopes stands.low in
            seeing_again old a.middle new (seeing_same old a.middle a.names.operations)
            (seeing_counted a.middle new 0 _ _
            (copies_counts Sees any_reach any_reach any_reach (standing_at scene lane.around memory (place_written access) (form_of access) writes).leader
            (standing_at scene lane.around memory (place_written access) (form_of access) writes).bank (copy_places (standing_at scene lane.around memory (place_written access) (form_of access) writes))
            lane.around.guards.now leads (length lane.around.guards.now) a.middle new u.copies copies))

    finds_sees : (form : plain.TermForm) (old new : Draft) (memory : ℕ) (aim : Aim) (copy : AccessAt) (found : Option ℕ) (v : ℕ) → Finds scene form old new memory aim copy found v → AddsSeeing Sees old new
    finds_sees form old new memory aim copy None v m = seeing_pushed old new v copy.guard _ m tt
    finds_sees form old new memory aim copy (Some n) v m = seeing_none old new m.0

    read_sees : (access : Term) (memory : ℕ) (aim : Aim) (old new : Draft) (before after : Accesses) (v : ℕ) → MadeRead scene lane access memory aim old new before after v → AddsSeeing Sees old new
    read_sees access memory aim old new before after v r =
        seeing_again old r.first new (touch_sees access memory false old r.first before r.middle aim.number r.touches)
        (seeing_again r.first r.second new (seeing_pushed r.first r.second _ _ _ r.probes tt) (finds_sees (form_of access) r.second new memory aim (copied_in r.middle aim.number lane.number) _ v r.finds))

    pub write_sees : (access : Term) (memory : ℕ) (aim : Aim) (value : ℕ) (old new : Draft) (before after : Accesses) → MadeWrite scene lane access memory aim value old new before after → AddsSeeing Sees old new
    write_sees access memory aim value old new before after w =
        seeing_again old w.first new (touch_sees access memory true old w.first before after aim.number w.touches)
        (seeing_again w.first w.second new (seeing_pushed w.first w.second _ _ _ w.probes tt) (seeing_pushed w.second new _ _ _ w.writes tt))

    module _ (Named : Ref → Type 0) (names : (r : Ref) → Named r → Sees (register_seen (counter_of scene (entity_number r.entity)) (held_at scene.held.now (entity_number r.entity)) lane))
        (Kept : Hidden → Type 0) (keeps : (h : Hidden) → Kept h → Sees (hidden_register scene lane h)) (current : List (Option ℕ)) where
      hidden_sees : (hs : List Hidden) → AllByRecursion (λ (h : Hidden). Kept h) hs → (old new : Draft) (values : List ℕ) → MadeHidden scene lane current hs old new values → AddsSeeing Sees old new
      hidden_sees [] k old new values m = seeing_none old new m.0
      hidden_sees (h ∷ hs) k old new values (d, (v, (more, (shown, (rest, are))))) =
          seeing_again old d new (shown_sees current (hidden_register scene lane h) (keeps h k.0) old d v shown) (hidden_sees hs k.1 d new more rest)

      way_sees : (way : Option Way) (first : ℕ) → AllByRecursion (λ (h : Hidden). Kept h) (hidden_in way) → (old new : Draft) (steps : List ReachStep) → MadeWay scene lane current old new first way steps → AddsSeeing Sees old new
      way_sees None first k old new steps m = seeing_none old new m.0
      way_sees (Some w) first k old new steps m = hidden_sees w.hidden k old new m.values m.hidden

      mutual
        pub term_sees : (t : Term) (old new : Draft) (before after : Accesses) (n next v : ℕ) → NamesTerm (known_in scene) Named Kept t → MadeTerm scene lane current t old new before after n next v → AddsSeeing Sees old new
        term_sees (plain.term place k (plain.number negative z)) old new before after n next v h m = number_sees (kind_or_first k) negative z old new v m.part
        term_sees (plain.term place k (plain.truth_value b)) old new before after n next v h m = seeing_pushed old new v None (Constant (truth b)) m.part tt
        term_sees (plain.term place k (plain.named r)) old new before after n next v h m =
            seeing_counted old new 0 _ _
            (variable_counts Sees any_reach any_reach any_reach (counter_of scene (entity_number r.entity)) (held_at scene.held.now (entity_number r.entity)) lane current (kind_or_first k) (names r h) old new v m.part)
        term_sees (plain.term place k (plain.accessed r ts)) old new before after n next v h m =
            seeing_again old m.named new (terms_sees ts old m.named before m.between n m.aim.number m.aim.indices h.0 m.indices)
            (seeing_again m.named m.middle new (way_sees (way_of (known_in scene) r) (first_view scene r) h.1 m.named m.middle m.aim.steps m.steps) (read_sees _ _ m.aim m.middle new m.between after v m.reads))
        term_sees (plain.term place k (plain.in_bank r bank at row)) old new before after n next v h m =
            seeing_again old m.middle new (term_sees row old m.middle before m.between n m.aim.number m.value h m.row) (read_sees _ _ m.aim m.middle new m.between after v m.reads)
        term_sees (plain.term place k (plain.applied op left right)) old new before after n next v h m =
            seeing_again old m.middle new (term_sees left old m.middle before m.between n m.own m.a h.0 m.first)
            (seeing_again m.middle m.end new (term_sees right m.middle m.end m.between after m.own next m.b h.1 m.second)
            (seeing_counted m.end new _ _ _ (operation_counts Sees any_reach any_reach any_reach op left right m.a m.b m.end new v m.operation)))
        term_sees (plain.term place k (plain.converted inner to)) old new before after n next v h m =
            seeing_again old m.middle new (term_sees inner old m.middle before after n next m.a h m.operand)
            (converted_sees (is_kept inner to) to m.a m.middle new v m.converts)

        pub terms_sees : (ts : plain.Terms) (old new : Draft) (before after : Accesses) (n next : ℕ) (vs : List ℕ) → NamesTerms (known_in scene) Named Kept ts → MadeTerms scene lane current ts old new before after n next vs → AddsSeeing Sees old new
        terms_sees plain.no_terms old new before after n next vs h m = seeing_none old new m.still
        terms_sees (plain.term_then t ts) old new before after n next vs h m =
            seeing_again old m.middle new (term_sees t old m.middle before m.between n m.own m.a h.0 m.first) (terms_sees ts m.middle new m.between after m.own next m.more h.1 m.rest)

      pub aim_sees : (form : plain.TermForm) (old new : Draft) (before after : Accesses) (n : ℕ) (aimed : Option (Aim × ℕ)) → NamesAim (known_in scene) Named Kept form → MadeAim scene lane current form old new before after n aimed → AddsSeeing Sees old new
      aim_sees (plain.accessed r ts) old new before after n (Some (aim, memory)) h m =
          seeing_again old m.0.middle new (terms_sees ts old m.0.middle before after n aim.number aim.indices h.0 m.0.indices)
          (way_sees (way_of (known_in scene) r) (first_view scene r) h.1 m.0.middle new aim.steps m.0.steps)
      aim_sees (plain.accessed r ts) old new before after n None h m = absurd m
      aim_sees (plain.in_bank r bank at row) old new before after n (Some (aim, memory)) h m = term_sees row old new before after n aim.number m.0.value h m.0.row
      aim_sees (plain.in_bank r bank at row) old new before after n None h m = absurd m
      aim_sees (plain.number negative z) old new before after n None h m = seeing_none old new m.0
      aim_sees (plain.number negative z) old new before after n (Some aimed) h m = absurd m
      aim_sees (plain.truth_value b) old new before after n None h m = seeing_none old new m.0
      aim_sees (plain.truth_value b) old new before after n (Some aimed) h m = absurd m
      aim_sees (plain.named r) old new before after n None h m = seeing_none old new m.0
      aim_sees (plain.named r) old new before after n (Some aimed) h m = absurd m
      aim_sees (plain.applied op l r) old new before after n None h m = seeing_none old new m.0
      aim_sees (plain.applied op l r) old new before after n (Some aimed) h m = absurd m
      aim_sees (plain.converted inner to) old new before after n None h m = seeing_none old new m.0
      aim_sees (plain.converted inner to) old new before after n (Some aimed) h m = absurd m

    pub storing_sees : (target t : Term) (value : ℕ) (aimed : Option (Aim × ℕ)) (old : Draft) (before : Accesses) (new : Building) (next : ℕ) → MadeStoring scene lane target t value aimed old before new next → AddsSeeing Sees old new.draft
    storing_sees target t value None old before new next m = seeing_none old new.draft m.0
    storing_sees target t value (Some (aim, memory)) old before new next m =
        seeing_again old m.0 new.draft (held_sees t _ value old m.0 m.1.0 m.1.1.0) (write_sees target memory aim m.1.0 m.0 new.draft before new.accesses m.1.1.1.0)
