-- Each access of a program whose element is named by literals, through views that stand still, is so in its plan: its indices
-- are constants, no offset is taken, and it leads to an element in every step, as the literals of an accepted program are
-- within the sizes of what is named, and views that stand still lead from there into the memory. A literal row is one of the
-- rows of a bank; it goes through no view. And no other access has the fault of its probes, as each access has one of its
-- own and nothing is checked.
use Rattle.std.proofs.Common.{◌≡◌, ℕ, ◌+◌, ◌<◌, ◌≤◌, ◌^◌, Bool, true, if◌then◌else◌, List, [], ◌∷◌, ◌++◌, length, map, take, drop, Option, Some, None, refl, ap, sym, ◌∙◌, subst, arith, ℤ}
use Rattle.std.specs.Prelude.{slice_get, unsigned_abs}
use Rattle.std.specs.List.{AllByRecursion}
use Rattle.dh_value.specs.declared.kinds.Kind.{Kind}
use Rattle.dh_value.specs.declared.words.Word.{Word}
use Rattle.dh_value.specs.Words.{value_of}
use Rattle.dh_tree.specs.declared.tables.Dim.{Dim}
use Rattle.dh_tree.specs.declared.tables.MemEntry.{MemEntry}
use Rattle.dh_tree.specs.declared.viewing.ViewMap.{ViewMap}
use Rattle.dh_tree.specs.Counters.{counters_of}
use Rattle.dh_tree.specs.Elements.{dims_at, entry_dims, rows_of, spot_in_bank, spot_of}
use Rattle.dh_tree.specs.Indices.{row_breaches}
use Rattle.dh_tree.specs.Memories.{Memory, entry_of, memories_of, memory_in, number_in, table_of}
use Rattle.dh_tree.specs.PlainTrees as plain
use Rattle.dh_tree.specs.PlainTrees.{Program}
use Rattle.dh_tree.specs.Ready.{IsReady}
use Rattle.dh_tree.specs.Seen.{program_seen}
use Rattle.dh_tree.specs.ViewElements.{is_inside}
use Rattle.dh_tree.specs.ViewFactors.{factor_breaches_of}
use Rattle.dh_tree.proofs.EmptyLists.{first_none}
use Rattle.dh_meaning.specs.AccessNumbers.{accesses_of}
use Rattle.dh_meaning.specs.Effects.{is_row}
use Rattle.dh_meaning.specs.CoreOf.{Known, entity_number, way_of}
use Rattle.dh_meaning.specs.Sites.{nothing_around}
use Rattle.dh_meaning.specs.Ways.{WayStep, Way, base_of, way_to, ways_of}
use Rattle.dh_meets.specs.SourceEvents.{Element, SourceAccess, accesses_in, in_row, trace, with_indices}
use Rattle.dh_plan.specs.declared.operations.Operation.{Operation}
use Rattle.dh_plan.specs.declared.operations.OperationForm.{OperationForm}
use Rattle.dh_plan.specs.declared.operations.OperationForm.TheVariants.{Constant, Old, Compute, Convert, Select, Check, Probe, Read, Write, Set}
use Rattle.dh_plan.specs.declared.operations.Reach.{Reach}
use Rattle.dh_plan.specs.declared.operations.ReachStep.{ReachStep}
use Rattle.dh_plan.specs.Blocks.{bank_picked, numbers_at, passages, spot_if_inside, spot_in_row, word_at}
use Rattle.dh_plan.specs.LiteralAccesses.{HasLiterals, HasSourceLiterals, IsAlwaysInside, IsConstantAt, IsConstantOr, IsLiteral, IsLiteralAccess, IsLiteralElement, IsLiteralSource, IsStill, NamedByConstants}
use Rattle.dh_plan.specs.Ordered.{IsBetween, form_takes, offsets_taken, one_or_none, reach_takes}
use Rattle.dh_plan.specs.Passages.{indices_behind}
use Rattle.dh_plan.specs.PlainPlans.{PlainPlan, first_in, operations_in}
use Rattle.dh_plan.specs.PlanKinds.{AreSteps, FormSuits, NamesElement, ReachSuits, StepFits, kinds_of}
use Rattle.dh_plan.specs.PlanRuns.{block_values, start_at}
use Rattle.dh_plan.specs.SoundPlans.{HasAccess, IsFormed, access_in}
use Rattle.dh_plan.proofs.ValuesAlike.{all_left, all_right}
use Rattle.dh_plan.proofs.ViewsPassed.{passed}
use Rattle.dh_ways.specs.Leading.{KeepsOffsets, LeadsTo, next_dims}
use Rattle.dh_ways.proofs.WaysKept.{ways_keep}
use Rattle.dh_sound.specs.BlockTold.{IsOfMemory}
use Rattle.dh_sound.specs.IndexValues.{HasElementKinds, HasIndexKinds, element_breaches}
use Rattle.dh_sound.specs.ToldEvents.{access_at}
use Rattle.dh_sound.proofs.BanksReached.{numbered}
use Rattle.dh_sound.proofs.EventCounts.{events_counted}
use Rattle.dh_sound.proofs.IndicesKeep.{access_keeps}
use Rattle.dh_sound.proofs.IndicesThrough.{keeps_through}
use Rattle.dh_sound.proofs.KindsOfPrograms.{indices_have_kinds}
use Rattle.dh_sound.proofs.OwnMemories.{itself}
use Rattle.dh_sound.proofs.PortsKept.{typed_program}
use Rattle.dh_sound.proofs.RowsDirect.{ready_direct}
use Rattle.dh_sound.proofs.SortsOfPrograms.{accesses_declared}
use Rattle.dh_sound.proofs.ViewedWays.{found_holds, kept_ways_lead, led_to}
use Rattle.dh_expressions.specs.declared.accesses.Touched.{Touched}
use Rattle.dh_expressions.specs.declared.scenes.Scene.{Scene}
use Rattle.dh_expressions.specs.declared.scenes.Through.{Through}
use Rattle.dh_expressions.specs.Evaluated.{AreViews, steps_told}
use Rattle.dh_expressions.specs.Named.{first_view, known_in, number_of_parent}
use Rattle.dh_expressions.specs.Noted.{touched_in}
use Rattle.dh_expressions.specs.Numbers.{narrowed}
use Rattle.dh_expressions.proofs.ListPlaces.{place_within}
use Rattle.dh_laid.specs.LaidFaults.{HaveOwnFaults}
use Rattle.dh_gathering.specs.declared.blocks.Made.{Made}
use Rattle.dh_typed_blocks.proofs.MemoriesFew.{ready_few}
use Rattle.dh_used.specs.MadePlans.{IsMadeOf}
use Rattle.dh_used.specs.SourceAims.{AimsAt, IsAimed, PassesOn}
use Rattle.dh_used.specs.SourceReaches.{IsOfSource}
use Rattle.dh_used.specs.UsedPlans.{OneNodeEach}
use Rattle.dh_used.proofs.NodesReach.{made_plans_reach}
use Rattle.dh_used.proofs.PlansAim.{made_plans_aim}
use Rattle.dh_told.proofs.BlocksWithin.{stands_among}
use Rattle.dh_told.proofs.LiteralIndices.{AreWithin, IsWithin, literals_within, row_within}
use Rattle.dh_told.proofs.StillViews.{AreStill, still_leads, still_takes, steps_pass}

-- What holds of an operation holds of its access.

form_reach : (plan : PlainPlan) (first : ℕ) (kinds : List Kind) (f : OperationForm) (r : Reach) → access_in f ≡ Some r → FormSuits plan first kinds f → ReachSuits plan first kinds r
form_reach plan first kinds (Constant word) r e h = cc
form_reach plan first kinds (Old register) r e h = cc
form_reach plan first kinds (Compute op left right) r e h = cc
form_reach plan first kinds (Convert inner to) r e h = cc
form_reach plan first kinds (Select test a b) r e h = cc
form_reach plan first kinds (Check ok fault) r e h = cc
form_reach plan first kinds (Probe q fault) r e h = let same : q ≡ r = cc in subst (λ (x : Reach). ReachSuits plan first kinds x) same h.0
form_reach plan first kinds (Read q) r e h = let same : q ≡ r = cc in subst (λ (x : Reach). ReachSuits plan first kinds x) same h.0
form_reach plan first kinds (Write q value) r e h = let same : q ≡ r = cc in subst (λ (x : Reach). ReachSuits plan first kinds x) same h.0
form_reach plan first kinds (Set register value) r e h = cc

taken_by : (P : ℕ → Type 0) (f : OperationForm) (r : Reach) → access_in f ≡ Some r → AllByRecursion P (form_takes f) → AllByRecursion P (reach_takes r)
taken_by P (Constant word) r e h = cc
taken_by P (Old register) r e h = cc
taken_by P (Compute op left right) r e h = cc
taken_by P (Convert inner to) r e h = cc
taken_by P (Select test a b) r e h = cc
taken_by P (Check ok fault) r e h = cc
taken_by P (Probe q fault) r e h = let same : q ≡ r = cc in subst (λ (x : Reach). AllByRecursion P (reach_takes x)) same h
taken_by P (Read q) r e h = let same : q ≡ r = cc in subst (λ (x : Reach). AllByRecursion P (reach_takes x)) same h
taken_by P (Write q value) r e h = let same : q ≡ r = cc in subst (λ (x : Reach). AllByRecursion P (reach_takes x)) same h.1
taken_by P (Set register value) r e h = cc

some_same : (a b : SourceAccess) → Some a ≡ Some b → a ≡ b
some_same a b e = cc

-- The dimensions that are named, through the steps of a plan.
steps_named : (plan : PlainPlan) (number : ℕ) (kinds : List Kind) (through : List Through) (memory : ℕ) (steps : List WayStep) (first : ℕ) (values : List ℕ) (dims : List Dim) → AreViews through plan.views first steps
    → AreSteps plan number kinds memory (steps_told through first steps values) dims → dims ≡ next_dims steps (dims_at plan.table memory)
steps_named plan number kinds through memory [] first values dims there h = h
steps_named plan number kinds through memory (s ∷ ss) first values dims there h =
    sym (subst (λ (o : Option ViewMap). StepFits plan number kinds (take s.offsets values) o dims (AreSteps plan number kinds memory (steps_told through (number_of_parent through first) ss (drop s.offsets values)))) there.0 h).0

module _ (scene : Scene) (final : Made) (plan : PlainPlan) (is : IsMadeOf scene final plan) (once : OneNodeEach plan) (ready : IsReady (program_seen scene.program.now)) (table : plan.table ≡ table_of (program_seen scene.program.now))
    (formed : IsFormed plan) where
  abbrev p : Program
  p = program_seen scene.program.now

  abbrev os : List Operation
  os = final.building.draft.operations.items

  -- the number that a plan has of a memory
  abbrev number_of : Option ℕ → ℕ
  number_of base = narrowed (entity_number (number_in (memories_of p) base))

  memory_dims : (memory : ℕ) (base : Option ℕ) (m : Memory) → memory_in (memories_of p) base ≡ Some m → memory ≡ number_of base → dims_at plan.table memory ≡ m.shape.dims
  memory_dims memory base m found same =
      ap (λ (t : List MemEntry). dims_at t memory) table
      ∙ (ap (λ (n : ℕ). dims_at (table_of p) n) (same ∙ (ap (λ (o : Option ℕ). narrowed (entity_number o)) at.1.0 ∙ narrow at.0 low)) ∙ ap entry_dims at.1.1)
    where
      at : (i : ℕ) × ((number_in (memories_of p) base ≡ Some i) × (slice_get (table_of p) i ≡ Some (entry_of m)))
      at = numbered (memories_of p) base m found

      few : length (table_of p) ≤ 2 ^ 32
      few = (ready_few p ready).memories

      below : (i n : ℕ) → i < n → n ≤ 2 ^ 32 → i < 2 ^ 32
      below i n l m = omega (arith, l, m)

      low : at.0 < 2 ^ 32
      low = below at.0 (length (table_of p)) (place_within (table_of p) at.0 (entry_of m) at.1.1) few

      narrow : (i : ℕ) → i < 2 ^ 32 → narrowed i ≡ i
      narrow i l = grind (arith, l)

  module _ (block i : ℕ) (r : Reach) (h : HasAccess plan block i r) where
    aimed : IsAimed scene os r
    aimed = made_plans_aim scene final plan is once block i r h

    abbrev a : SourceAccess
    a = aimed.access

    memory_is : r.memory ≡ number_of (base_of (way_to p a.entity) a.entity)
    memory_is =
        let source : IsOfSource p r = made_plans_reach scene final plan is once block i r h in
        source.memory_is ∙ ap (λ (x : SourceAccess). number_of (base_of (way_to p x.entity) x.entity)) (some_same source.access a (sym source.there ∙ aimed.there))

    way_is : way_of (known_in scene) aimed.ref ≡ way_to p a.entity
    way_is = ap (λ (known : Known). way_of known aimed.ref) is.ways ∙ ap (λ (e : Option ℕ). way_to p e) aimed.entity_is

    suits : ReachSuits plan (first_in plan block) (kinds_of plan block) r
    suits = form_reach plan (first_in plan block) (kinds_of plan block) h.operation.form r h.accesses ((formed.blocks block).suits i h.operation h.there).form

    abbrev Earlier : ℕ → Type 0
    Earlier value = IsBetween (first_in plan block) (first_in plan block + i) value

    taken : AllByRecursion Earlier (reach_takes r)
    taken = taken_by Earlier h.operation.form r h.accesses (all_right Earlier (one_or_none h.operation.guard) (form_takes h.operation.form) ((formed.blocks block).ordered.each i h.operation h.there))

    between : AllByRecursion Earlier r.indices
    between = all_left Earlier r.indices (offsets_taken r.steps ++ (one_or_none r.select ++ one_or_none r.row)) taken

    row_between : (row : ℕ) → r.row ≡ Some row → Earlier row
    row_between row is =
        (subst (λ (o : Option ℕ). AllByRecursion Earlier (one_or_none o)) is
        (all_right Earlier (one_or_none r.select) (one_or_none r.row)
        (all_right Earlier (offsets_taken r.steps) (one_or_none r.select ++ one_or_none r.row) (all_right Earlier r.indices (offsets_taken r.steps ++ (one_or_none r.select ++ one_or_none r.row)) taken)))).0

    -- of what is named: its dimensions, in which the element keeps the rules; no offset is taken, and indices inside lead on
    record IsNamed : Type 0 where
      pub dims : List Dim
      pub keeps : element_breaches (counters_of p) dims a.element ≡ []
      pub sizes : (ds : List Dim) → AreSteps plan (first_in plan block) (kinds_of plan block) r.memory r.steps ds → ds ≡ dims
      pub offsets : offsets_taken r.steps ≡ []
      pub leads : (ws : List Word) (zs : List ℤ) → is_inside dims zs ≡ true
          → (last : List ℤ) × ((indices_behind plan.views (passages (first_in plan block) ws r.steps) zs ≡ Some last) × (is_inside (dims_at plan.table r.memory) last ≡ true))

    -- of a memory that is named itself: its dimensions, in which the element keeps the rules
    record IsOwn : Type 0 where
      pub dims : List Dim
      pub keeps : element_breaches (counters_of p) dims a.element ≡ []
      pub dims_are : dims_at plan.table r.memory ≡ dims

    own_memory : way_to p a.entity ≡ None → IsOwn
    own_memory none = record {
      dims = own.memory.shape.dims;
      keeps = (access_keeps p ready.indices ready.views r.access a aimed.there own.memory here).none;
      dims_are = memory_dims r.memory a.entity own.memory here (memory_is ∙ ap (λ (o : Option Way). number_of (base_of o a.entity)) none);
    }
      where
        own : IsOfMemory p a
        own = accesses_declared p ready (typed_program p ready) r.access a aimed.there

        here : memory_in (memories_of p) a.entity ≡ Some own.memory
        here = subst (λ (o : Option ℕ). memory_in (memories_of p) o ≡ Some own.memory) (sym (itself p a.entity own.entity none own.is)) own.declared

    memory_named : way_to p a.entity ≡ None → r.steps ≡ [] → IsNamed
    memory_named none steps =
        let own = own_memory none in
        record {
          dims = own.dims;
          keeps = own.keeps;
          sizes = λ ds s. subst (λ (ss : List ReachStep). AreSteps plan (first_in plan block) (kinds_of plan block) r.memory ss ds) steps s ∙ own.dims_are;
          offsets = ap offsets_taken steps;
          leads = λ ws zs e. (
            zs,
            (
              ap (λ (ss : List ReachStep). indices_behind plan.views (passages (first_in plan block) ws ss) zs) steps,
              ap (λ (ds : List Dim). is_inside ds zs) own.dims_are ∙ e,
            ),
          );
        }

    view_named : (w : Way) → way_to p a.entity ≡ Some w → (values : List ℕ) → r.steps ≡ steps_told scene.through.now (first_view scene aimed.ref) w.steps values → AreStill w.steps → IsNamed
    view_named w at values steps still = record {
      dims = w.is.shape.dims;
      keeps = (keeps_through p ready.indices ready.views r.access a aimed.there w at).none;
      sizes = λ ds s.
          steps_named plan (first_in plan block) (kinds_of plan block) scene.through.now r.memory w.steps first values ds views
          (subst (λ (ss : List ReachStep). AreSteps plan (first_in plan block) (kinds_of plan block) r.memory ss ds) steps s)
          ∙ (ap (λ (xs : List Dim). next_dims w.steps xs) dims_are ∙ lead.first);
      offsets = ap offsets_taken steps ∙ still_takes scene.through.now w.steps first values kept.each still;
      leads = λ ws zs e.
          let l = still_leads w.steps lead.memory.shape.dims zs (numbers_at (first_in plan block) ws values) lead.steps still (subst (λ (ds : List Dim). is_inside ds zs ≡ true) (sym lead.first) e) in (
            l.last,
            (
              ap (λ (ss : List ReachStep). indices_behind plan.views (passages (first_in plan block) ws ss) zs) steps
                  ∙ (passed plan.views w.steps (passages (first_in plan block) ws (steps_told scene.through.now first w.steps values)) (numbers_at (first_in plan block) ws values) zs
                  (steps_pass (first_in plan block) ws scene.through.now plan.views w.steps first values views)
                  ∙ l.through),
              ap (λ (ds : List Dim). is_inside ds l.last) dims_are ∙ l.inside,
            ),
          );
    }
      where
        first : ℕ
        first = first_view scene aimed.ref

        lead : LeadsTo (memories_of p) w
        lead = kept_ways_lead p ready a.entity w at

        kept : KeepsOffsets w
        kept = found_holds KeepsOffsets (ways_of p) a.entity w (ways_keep p (first_none (factor_breaches_of p) _ ready.views)) (led_to p a.entity w at)

        views : AreViews scene.through.now plan.views first w.steps
        views = (is.views aimed.ref w (way_is ∙ at)).views_are

        dims_are : dims_at plan.table r.memory ≡ lead.memory.shape.dims
        dims_are = memory_dims r.memory w.memory lead.memory lead.found (memory_is ∙ ap (λ (o : Option Way). number_of (base_of o a.entity)) at)

    named : IsStill (way_to p a.entity) → PassesOn scene (first_view scene aimed.ref) (way_of (known_in scene) aimed.ref) r.steps → IsNamed
    named still passes = by (way_to p a.entity) refl still (subst (λ (o : Option Way). PassesOn scene (first_view scene aimed.ref) o r.steps) way_is passes)
      where
        by : (o : Option Way) → way_to p a.entity ≡ o → IsStill o → PassesOn scene (first_view scene aimed.ref) o r.steps → IsNamed
        by None at s k = memory_named at k
        by (Some w) at s k = view_named w at k.0 k.1 s

    -- by indices
    literal_here : (ts : plain.Terms) → a.element ≡ with_indices ts → IsLiteralElement (with_indices ts) → AimsAt scene os aimed.ref (with_indices ts) r → IsNamed → HasLiterals plan block r
    literal_here ts element literal aims n = record {
      constants = subst (λ (o : Option ℕ). NamedByConstants plan block r o) (sym aims.0) (within.constants, subst (λ (vs : List ℕ). AllByRecursion (IsConstantAt plan block) vs) (sym n.offsets) tt);
      inside = inside;
    }
      where
        kinds : HasElementKinds (counters_of p) (with_indices ts)
        kinds = subst (λ (e : Element). HasElementKinds (counters_of p) e) element (indices_have_kinds p (typed_program p ready) r.access a aimed.there)

        keeps : element_breaches (counters_of p) n.dims (with_indices ts) ≡ []
        keeps = subst (λ (e : Element). element_breaches (counters_of p) n.dims e ≡ []) element n.keeps

        names : NamesElement plan (first_in plan block) (kinds_of plan block) r None
        names = subst (λ (o : Option ℕ). NamesElement plan (first_in plan block) (kinds_of plan block) r o) aims.0 suits.element

        long : length r.indices ≡ length n.dims
        long = names.1.0 ∙ ap (λ (ds : List Dim). length ds) (n.sizes names.0 names.1.1)

        within : AreWithin plan os final.starts.items is.blocks block (formed.blocks block) (counters_of p) n.dims r.indices
        within = literals_within plan os final.starts.items is.blocks block (formed.blocks block) (counters_of p) i h.operation h.there ts n.dims r.indices literal aims.1.0 kinds keeps long between

        inside : IsAlwaysInside plan block r
        inside registers memories =
            let s = start_at plan registers memories in
            let ws = block_values plan s block in
            let l = n.leads ws (numbers_at (first_in plan block) ws r.indices) (within.inside registers memories) in (
              spot_of plan.table r.memory (map unsigned_abs l.0),
              ap (λ (o : Option ℕ). spot_in_row s (first_in plan block) ws r o) aims.0
                  ∙ (ap (λ (o : Option (List ℤ)). spot_if_inside plan.table r.memory o) l.1.0 ∙ ap (λ (b : Bool). if b then Some (spot_of plan.table r.memory (map unsigned_abs l.0)) else None) l.1.1),
            )

    -- by a row of a bank; no bank is picked yet
    row_here : (bank : ℕ) (row : plain.Term) → a.element ≡ in_row bank row → IsLiteral row → AimsAt scene os aimed.ref (in_row bank row) r → HasLiterals plan block r
    row_here bank row element literal aims = record {
      constants = subst (λ (o : Option ℕ). NamedByConstants plan block r o) (sym aims.1.0) (within.constant, subst (λ (o : Option ℕ). IsConstantOr plan block o) (sym aimed.select) tt);
      inside = inside;
    }
      where
        own : IsOwn
        own = own_memory (ready_direct p ready r.access a aimed.there bank row element)

        kinds : HasIndexKinds (counters_of p) row
        kinds = subst (λ (e : Element). HasElementKinds (counters_of p) e) element (indices_have_kinds p (typed_program p ready) r.access a aimed.there)

        keeps : row_breaches own.dims row ≡ []
        keeps = subst (λ (e : Element). element_breaches (counters_of p) own.dims e ≡ []) element own.keeps

        within : IsWithin plan os final.starts.items is.blocks block (formed.blocks block) (counters_of p) (rows_of own.dims) aims.0
        within = row_within plan os final.starts.items is.blocks block (formed.blocks block) (counters_of p) i h.operation h.there own.dims row aims.0 literal aims.1.1 kinds keeps (row_between aims.0 aims.1.0)

        inside : IsAlwaysInside plan block r
        inside registers memories =
            let first = first_in plan block in
            let s = start_at plan registers memories in
            let ws = block_values plan s block in
            let spot = spot_in_bank plan.table r.memory (bank_picked first ws r.banks r.select) (unsigned_abs (value_of (word_at first ws aims.0))) in (
              spot,
              ap (λ (o : Option ℕ). spot_in_row s first ws r o) aims.1.0
                  ∙ ap (λ (b : Bool). if b then Some spot else None) (ap (λ (ds : List Dim). is_row ds (value_of (word_at first ws aims.0))) own.dims_are ∙ within.inside registers memories),
            )

    literal_own : IsLiteralSource p a → HasLiterals plan block r
    literal_own literal = by a.element refl literal.element aimed.element
      where
        by : (e : Element) → a.element ≡ e → IsLiteralElement e → AimsAt scene os aimed.ref e r → HasLiterals plan block r
        by (with_indices ts) element is_literal aims = literal_here ts element is_literal aims (named literal.way aims.1.1)
        by (in_row bank row) element is_literal aims = row_here bank row element is_literal aims

    pub has_literals : (x : SourceAccess) → access_at p r.access ≡ Some x → IsLiteralSource p x → HasLiterals plan block r
    has_literals x at literal = literal_own (subst (λ (y : SourceAccess). IsLiteralSource p y) (some_same x a (sym at ∙ aimed.there)) literal)

  -- Faults.
  module _ (owned : HaveOwnFaults final.building.draft final.building.accesses) (long : length final.building.accesses.touched.items ≡ accesses_of p.body) where
    counted : (n : ℕ) (x : SourceAccess) → access_at p n ≡ Some x → n < length final.building.accesses.touched.items
    counted n x at = subst (λ (m : ℕ). n < m) (events_counted nothing_around p.body ∙ sym long) (place_within (accesses_in (trace p)) n x at)

    abbrev probe : (guard : Option ℕ) → Reach → (fault : ℕ) → Operation
    probe guard r fault = record { guard = guard; form = Probe r fault }

    probed : (block i fault : ℕ) (guard : Option ℕ) (r : Reach) → slice_get (operations_in plan block) i ≡ Some (probe guard r fault) → HasAccess plan block i r
    probed block i fault guard r at = record { operation = probe guard r fault; there = at; accesses = refl }

    own_fault : (block i fault : ℕ) (guard : Option ℕ) (r : Reach) → slice_get (operations_in plan block) i ≡ Some (probe guard r fault)
        → (t : Touched) × ((touched_in final.building.accesses r.access ≡ Some t) × (t.fault ≡ fault))
    own_fault block i fault guard r at =
        let aims = made_plans_aim scene final plan is once block i r (probed block i fault guard r at) in
        owned.probes (first_in plan block + i) fault guard r (stands_among plan os final.starts.items is.blocks block i (probe guard r fault) at) (counted r.access aims.access aims.there)

    -- two probes with one fault are of one access
    one_access : (block i other j fault : ℕ) (guard another : Option ℕ) (r t : Reach) → slice_get (operations_in plan block) i ≡ Some (probe guard r fault) → slice_get (operations_in plan other) j ≡ Some (probe another t fault) → r.access ≡ t.access
    one_access block i other j fault guard another r t here there =
        let x = own_fault block i fault guard r here in
        let y = own_fault other j fault another t there in
        owned.apart r.access t.access x.0 y.0 x.1.0 y.1.0 (x.1.1 ∙ sym y.1.1)

    pub made_plans_have_literals : HasSourceLiterals p plan
    made_plans_have_literals number x at literal = record {
      accesses = accesses;
      faults = λ b i fault guard r here e. record {
        probes = λ c j other t later. accesses c j t (probed c j fault other t later) (one_access c j b i fault other guard t r later here ∙ e);
        checks = λ c j ok other check. owned.unchecked (first_in plan c + j) ok fault other (stands_among plan os final.starts.items is.blocks c j (record { guard = other; form = Check ok fault }) check);
      };
    }
      where
        accesses : IsLiteralAccess plan number
        accesses b i r h e = has_literals b i r h x (ap (λ (n : ℕ). access_at p n) e ∙ at) literal
