-- The plan of a ready program is formed: its blocks by what was made, its counters by the loops of the program. By a walk
-- over its nodes.
use Rattle.std.proofs.Common.{◌≡◌, ◌⊎◌, inl, inr, ℕ, suc, ◌+◌, ◌<◌, ◌≤◌, ◌^◌, ◌==◌, Bool, true, false, if◌then◌else◌, List, [], ◌∷◌, ◌++◌, length, Option, Some, None, refl, ap, sym, ◌∙◌, subst, arith}
use Rattle.std.specs.Prelude.{slice_get}
use Rattle.std.specs.List.{AllByRecursion}
use Rattle.std.proofs.lemmas.Bool.{cases_lt}
use Rattle.std.proofs.lemmas.Bool.Decides.{nat_tests}
use Rattle.std.proofs.lemmas.Option.{slice_get_past}
use Rattle.dh_value.specs.declared.kinds.Kind.{Kind}
use Rattle.dh_value.specs.declared.kinds.Kind.TheVariants as kind
use Rattle.dh_tree.specs.declared.tables.MemEntry.{MemEntry}
use Rattle.dh_tree.specs.declared.trees.counters.Counter.{Counter}
use Rattle.dh_tree.specs.Meets.{In}
use Rattle.dh_tree.specs.Memories.{memories_of, number_in}
use Rattle.dh_tree.specs.Seen.{program_seen}
use Rattle.dh_tree.specs.Shapes.{IsProgramTable}
use Rattle.dh_meaning.specs.Core.{CoreCommands, CorePhase, CoreTerm, straightly, turning, looping, choosing, CorePhases, no_core_phases, phase_and, Turning}
use Rattle.dh_meaning.specs.CoreOf.{core_of, entity_number}
use Rattle.dh_meaning.specs.Effects.{commands, tests}
use Rattle.dh_meaning.specs.Paths.{Path}
use Rattle.dh_meaning.specs.Sites.{nothing_around}
use Rattle.dh_meaning.specs.Ways.{all_entities_of, base_of, way_to}
use Rattle.dh_meets.specs.SourceEvents.{SourceAccess, accesses_in, trace}
use Rattle.dh_sound.specs.ToldEvents.{access_at}
use Rattle.dh_sound.proofs.EventCounts.{events_counted}
use Rattle.dh_sound.proofs.KeptPrograms.{ready_kept}
use Rattle.dh_code.specs.Declarations.{all_declarations_of}
use Rattle.dh_code.specs.Slots.{held_at}
use Rattle.dh_plan.specs.declared.operations.Operation.{Operation}
use Rattle.dh_plan.specs.declared.operations.OperationForm.TheVariants.{Set}
use Rattle.dh_plan.specs.declared.operations.Reach.{Reach}
use Rattle.dh_plan.specs.Correspondence.{Round}
use Rattle.dh_plan.specs.PlainPlans.{Node, block_node, turns_node, loop_node, choice_node, threads_node, Nodes, no_nodes, node_then, PlainPlan, block_operations, operations_in}
use Rattle.dh_plan.specs.PlanKinds.{IsFormedBlock, Names}
use Rattle.dh_plan.specs.PlanPhases.{AreNodesOf, IsLoopRegister, IsNodeOf, IsRegisterOf, Touches, block_assigns, does_phases}
use Rattle.dh_plan.specs.SoundPlans.{Counting, HasAccess, IsFlag, IsFormed, KeepsCounter, NodeThreadsMeet, ThreadsMeet, blocks_of, countings, flags_of, node_blocks, node_countings}
use Rattle.dh_expressions.specs.declared.scenes.Scene.{Scene}
use Rattle.dh_expressions.specs.Numbers.{narrowed}
use Rattle.dh_expressions.proofs.ListPlaces.{place_within}
use Rattle.dh_blocks.specs.SlotsOfScene.{placing_in, slots_in}
use Rattle.dh_gathering.specs.declared.blocks.Made.{Made}
use Rattle.dh_gathering.specs.LoopCounters.{AreCounting, HasCounter, IsCounting, LoopsCount, LoopsCountIn, loops_of_phases}
use Rattle.dh_gathering.specs.MadeBlocks.{IsFlagOf, IsStraightBlock, IsTestBlock, counter_register, made_tie}
use Rattle.dh_gathering.specs.Registers.{IsRegisterKind, first_among}
use Rattle.dh_gathering.proofs.CountersWide.{counters_are, countings_are}
use Rattle.dh_gathering.proofs.KindsOfRegisters.{first_at, first_before}
use Rattle.dh_typed_blocks.proofs.KnownHere.{known_here}
use Rattle.dh_phased.specs.ProgramLoops.{HasOwnLoops}
use Rattle.dh_phased.proofs.LoopsCounted.{loops_are_own}
use Rattle.dh_phased.proofs.NodesTied.{counting_more}
use Rattle.dh_phased.proofs.PhasesDone.{phases_are_done}
use Rattle.dh_phased.proofs.SlotsTold.{slots_told}
use Rattle.dh_used.specs.SourceReaches.{AreOfSource}
use Rattle.dh_used.specs.UsedPlans.{listed}
use Rattle.dh_used.proofs.NodesReach.{made_plans_reach}
use Rattle.dh_told.specs.FormedPlans.{IsWholePlan, ReadyPlansAreFormed}
use Rattle.dh_told.specs.PlansTold.{IsOfReady}
use Rattle.dh_told.specs.ScenesKnown.{AreHeldInOrder, HaveTheirKinds}
use Rattle.dh_told.proofs.BlocksTold.{both_all, holds, plans_told, straight_formed, table, test_formed}
use Rattle.dh_told.proofs.NamedDirectly.{ready_rows}
use Rattle.dh_told.proofs.VariablesKept.{holds_own, kind_there}

-- The counter of a loop.

module _ (scene : Scene) (count : ℕ) (registers : List Kind) (order : AreHeldInOrder scene count) (kinds : HaveTheirKinds scene count registers) where
  counter_low : (loop : Turning) → IsCounting scene (placing_in scene) loop → counter_register scene loop < first_among scene.held.now count (suc loop.iterator)
  counter_low loop c = first_before (all_declarations_of (program_seen scene.program.now)) (all_entities_of (program_seen scene.program.now)) scene.held.now count loop.iterator order.held order.count_is c.there c.copies

  has_counter : (loop : Turning) → IsCounting scene (placing_in scene) loop → HasCounter scene registers loop
  has_counter loop c =
      let first = first_at scene.held.now count loop.iterator c.there in
      let k = kinds loop.iterator (counter_register scene loop) c.there (low (counter_register scene loop) (first_among scene.held.now count loop.iterator) first) (counter_low loop c) in
      let is = subst (λ (o : Option Counter). IsRegisterKind o (held_at scene.held.now loop.iterator).kind k.0) c.counted k.1.1 in
      record {
        width = is.0;
        there = k.1.0 ∙ ap (λ (x : Kind). Some x) is.1.0;
        wide = subst (λ (n : ℕ). n ≤ 2 ^ is.0) (sym c.turns) is.1.1.holds;
      }
    where
      low : (a b : ℕ) → a ≡ b → b ≤ a
      low a b e = omega (arith, e)

  all_counters : (loops : List Turning) → AllByRecursion (IsCounting scene (placing_in scene)) loops → AllByRecursion (HasCounter scene registers) loops
  all_counters [] h = tt
  all_counters (l ∷ loops) h = (has_counter l h.0, all_counters loops h.1)

-- Lists.

all_listed : (P : ℕ → Type 0) (bs : List ℕ) (n : ℕ) → AllByRecursion P bs → 1 ≤ listed n bs → P n
all_listed P [] n h l = absurd (none l)
  where
    none : 1 ≤ 0 → ⊥
    none l = omega (arith, l)
all_listed P (b ∷ bs) n h l = by (n == b) refl l (λ m. all_listed P bs n h.1 m)
  where
    same : (a b : ℕ) → (a == b) ≡ true → b ≡ a
    same a b e = grind (arith, nat_tests, e)

    by : (t : Bool) → (n == b) ≡ t → 1 ≤ (if t then 1 else 0) + listed n bs → (1 ≤ listed n bs → P n) → P n
    by true e m later = subst P (same n b e) h.0
    by false e m later = later (omega (arith, m))

map_all : {A : Type 0} (P Q : A → Type 0) (xs : List A) → ((x : A) → P x → Q x) → AllByRecursion P xs → AllByRecursion Q xs
map_all P Q [] f h = tt
map_all P Q (x ∷ xs) f h = (f x h.0, map_all P Q xs f h.1)

-- a block that is not there has no operations
no_block : (plan : PlainPlan) (block : ℕ) → length plan.blocks ≤ block → operations_in plan block ≡ []
no_block plan block past = ap block_operations (slice_get_past plan.blocks block past)

never_there : {A : Type 0} (i : ℕ) (x : A) → slice_get [] i ≡ Some x → ⊥
never_there i x e = cc

absent_formed : (plan : PlainPlan) (block : ℕ) → length plan.blocks ≤ block → IsFormedBlock plan block
absent_formed plan block past = record {
  ordered = record { each = λ i o at. absurd (never_there i o (sym (ap (λ (os : List Operation). slice_get os i) (no_block plan block past)) ∙ at)) };
  suits = λ i o at. absurd (never_there i o (sym (ap (λ (os : List Operation). slice_get os i) (no_block plan block past)) ∙ at));
}

-- The nodes.

module _ (scene : Scene) (count : ℕ) (plan : PlainPlan) (final : Made) (h : IsOfReady scene count plan final) where
  -- registers that are set are those of variables, or flags
  abbrev SetsOnly : (block : ℕ) → Type 0
  SetsOnly block =
      (i : ℕ) (guard : Option ℕ) (register value : ℕ) → slice_get (operations_in plan block) i ≡ Some (record { guard = guard; form = Set register value })
      → ((entity : ℕ) × ((path : Path) × (slots_in scene entity path ≡ Some register))) ⊎ (count ≤ register)

  record IsToldBlock (block : ℕ) : Type 0 where
    pub formed : IsFormedBlock plan block
    pub sets : SetsOnly block

  -- the counter of a loop is another register
  record IsToldLoop (c : Counting) : Type 0 where
    pub apart : (entity : ℕ) (path : Path) → slots_in scene entity path ≡ Some c.counter → ⊥
    pub below : c.counter < count

  record AreTold (ns : Nodes) : Type 0 where
    pub blocks : AllByRecursion IsToldBlock (blocks_of ns)
    pub threads : ThreadsMeet plan ns
    pub loops : AllByRecursion IsToldLoop (countings ns)

  record IsToldNode (n : Node) : Type 0 where
    pub blocks : AllByRecursion IsToldBlock (node_blocks n)
    pub threads : NodeThreadsMeet plan n
    pub loops : AllByRecursion IsToldLoop (node_countings n)

  straight_is : (rounds : List Round) (cs : CoreCommands) (block : ℕ) (s : IsStraightBlock scene final rounds cs block) → AreCounting scene (placing_in scene) rounds → Touches plan (slots_in scene) rounds (commands cs) None block → IsToldBlock block
  straight_is rounds cs block s counting t = record {
    formed = straight_formed scene count plan final h rounds cs block s counting;
    sets = λ i guard register value at. by register (t.sets i guard register value at);
  }
    where
      by : (register : ℕ) → IsRegisterOf (slots_in scene) (λ entity. block_assigns entity (commands cs)) register ⊎ (None ≡ Some register) → ((entity : ℕ) × ((path : Path) × (slots_in scene entity path ≡ Some register))) ⊎ (count ≤ register)
      by register (inl r) = inl (r.entity, (r.path, r.slot))
      by register (inr e) = absurd cc

  test_is : (rounds : List Round) (test : CoreTerm) (flag block : ℕ) (s : IsTestBlock scene final rounds test flag block) → AreCounting scene (placing_in scene) rounds → Touches plan (slots_in scene) rounds (tests test) (Some flag) block → IsToldBlock block
  test_is rounds test flag block s counting t = record {
    formed = test_formed scene count plan final h rounds test flag block s counting;
    sets = λ i guard register value at. by register (t.sets i guard register value at);
  }
    where
      behind : (register : ℕ) → Some flag ≡ Some register → count ≤ register
      behind register e = let same : flag ≡ register = cc in subst (λ (n : ℕ). count ≤ n) same (subst (λ (n : ℕ). n ≤ flag) h.made.given s.made.is_flag.fresh)

      by : (register : ℕ) → IsRegisterOf (slots_in scene) (λ entity. block_assigns entity (tests test)) register ⊎ (Some flag ≡ Some register) → ((entity : ℕ) × ((path : Path) × (slots_in scene entity path ≡ Some register))) ⊎ (count ≤ register)
      by register (inl r) = inl (r.entity, (r.path, r.slot))
      by register (inr e) = inr (behind register e)

  loop_is : (rounds : List Round) (loop : Turning) (counter turns : ℕ) → IsCounting scene (placing_in scene) loop → counter ≡ counter_register scene loop → IsLoopRegister (slots_in scene) rounds loop counter
      → IsToldLoop (record { counter = counter; turns = turns })
  loop_is rounds loop counter turns c is l = record {
    apart = l.counter_apart;
    below = subst (λ (n : ℕ). n < count) (sym is) (less _ _ _ ((holds scene count plan final h).placing.within loop.iterator c.there) c.copies);
  }
    where
      less : (first copies all : ℕ) → first + copies ≤ all → 1 ≤ copies → first < all
      less first copies all l m = omega (arith, l, m)

  mutual
    nodes_told : (rounds : List Round) (qs : CorePhases) (ns : Nodes) → AreCounting scene (placing_in scene) rounds → LoopsCount scene (placing_in scene) rounds qs
        → AreNodesOf (made_tie scene final) rounds qs ns → AreNodesOf (does_phases plan (slots_in scene)) rounds qs ns → AreTold ns
    nodes_told rounds no_core_phases no_nodes all loops m d = record { blocks = tt; threads = tt; loops = tt }
    nodes_told rounds no_core_phases (node_then n ns) all loops m d = absurd m
    nodes_told rounds (phase_and q qs) no_nodes all loops m d = absurd m
    nodes_told rounds (phase_and q qs) (node_then n ns) all loops m d =
        let first = node_told rounds q n all loops.0 m.0 d.0 in
        let rest = nodes_told rounds qs ns all loops.1 m.1 d.1 in
        record {
          blocks = both_all IsToldBlock (node_blocks n) (blocks_of ns) first.blocks rest.blocks;
          threads = (first.threads, rest.threads);
          loops = both_all IsToldLoop (node_countings n) (countings ns) first.loops rest.loops;
        }

    node_told : (rounds : List Round) (q : CorePhase) (n : Node) → AreCounting scene (placing_in scene) rounds → LoopsCountIn scene (placing_in scene) rounds q
        → IsNodeOf (made_tie scene final) rounds q n → IsNodeOf (does_phases plan (slots_in scene)) rounds q n → IsToldNode n
    node_told rounds (straightly cs) (block_node block) all loops m d = record { blocks = (straight_is rounds cs block m all d.1, tt); threads = tt; loops = tt }
    node_told rounds (straightly cs) (turns_node counter turns ms) all loops m d = absurd m
    node_told rounds (straightly cs) (loop_node block flag ms) all loops m d = absurd m
    node_told rounds (straightly cs) (choice_node block flag ms os) all loops m d = absurd m
    node_told rounds (straightly cs) (threads_node lists) all loops m d = absurd m
    node_told rounds (turning loop body) (block_node block) all loops m d = absurd m
    node_told rounds (turning loop body) (turns_node counter turns ms) all loops m d =
        let inner = nodes_told (rounds ++ record { loop = loop; counter = counter } ∷ []) body ms
        (counting_more scene rounds (record { loop = loop; counter = counter }) all loops.0 m.1.0)
        (subst (λ (n : ℕ). LoopsCount scene (placing_in scene) (rounds ++ record { loop = loop; counter = n } ∷ []) body) (sym m.1.0) loops.1.1) m.1.1 d.1.1 in
        record { blocks = inner.blocks; threads = inner.threads; loops = (loop_is rounds loop counter turns loops.0 m.1.0 d.1.0, inner.loops) }
    node_told rounds (turning loop body) (loop_node block flag ms) all loops m d = absurd m
    node_told rounds (turning loop body) (choice_node block flag ms os) all loops m d = absurd m
    node_told rounds (turning loop body) (threads_node lists) all loops m d = absurd m
    node_told rounds (looping test body) (block_node block) all loops m d = absurd m
    node_told rounds (looping test body) (turns_node counter turns ms) all loops m d = absurd m
    node_told rounds (looping test body) (loop_node block flag ms) all loops m d =
        let inner = nodes_told rounds body ms all loops m.1 d.1 in
        record { blocks = (test_is rounds test flag block m.0 all d.0.1.1, inner.blocks); threads = inner.threads; loops = inner.loops }
    node_told rounds (looping test body) (choice_node block flag ms os) all loops m d = absurd m
    node_told rounds (looping test body) (threads_node lists) all loops m d = absurd m
    node_told rounds (choosing test chosen other) (block_node block) all loops m d = absurd m
    node_told rounds (choosing test chosen other) (turns_node counter turns ms) all loops m d = absurd m
    node_told rounds (choosing test chosen other) (loop_node block flag ms) all loops m d = absurd m
    node_told rounds (choosing test chosen other) (choice_node block flag ms os) all loops m d =
        let first = nodes_told rounds chosen ms all loops.0 m.1.0 d.1.0 in
        let second = nodes_told rounds other os all loops.1 m.1.1 d.1.1 in
        record {
          blocks = (test_is rounds test flag block m.0 all d.0.1.1, both_all IsToldBlock (blocks_of ms) (blocks_of os) first.blocks second.blocks);
          threads = (first.threads, second.threads);
          loops = both_all IsToldLoop (countings ms) (countings os) first.loops second.loops;
        }
    node_told rounds (choosing test chosen other) (threads_node lists) all loops m d = absurd m

module _ (scene : Scene) (count : ℕ) (plan : PlainPlan) (final : Made) (h : IsWholePlan scene count plan final) (known : AreOfSource (program_seen scene.program.now) plan) where
  own : HasOwnLoops scene
  own = loops_are_own scene h.of.ready.entities (holds_own scene count h.of.order)

  told : AreTold scene count plan final h.of plan.body
  told =
      nodes_told scene count plan final h.of [] (core_of (program_seen scene.program.now)).phases plan.body tt own.inside h.nodes
      (phases_are_done scene plan count final (core_of (program_seen scene.program.now)).phases plan.body h.of.made (holds scene count plan final h.of) (plans_told scene count plan final h.of) own.inside h.nodes)

  block_told : (block : ℕ) → block < length plan.blocks → IsToldBlock scene count plan final h.of block
  block_told block below = all_listed (IsToldBlock scene count plan final h.of) (blocks_of plan.body) block told.blocks (one (h.once block below))
    where
      one : {n : ℕ} → n ≡ 1 → 1 ≤ n
      one e = omega (arith, e)

  block_formed : (block : ℕ) → IsFormedBlock plan block
  block_formed block = by (cases_lt block (length plan.blocks))
    where
      by : (block < length plan.blocks) ⊎ (length plan.blocks ≤ block) → IsFormedBlock plan block
      by (inl below) = (block_told block below).formed
      by (inr past) = absent_formed plan block past

  -- no operation sets the counter of a loop
  counter_kept : (c : Counting) → IsToldLoop scene count plan final h.of c → KeepsCounter plan c
  counter_kept c loop block i guard value at = by (cases_lt block (length plan.blocks))
    where
      or : ((entity : ℕ) × ((path : Path) × (slots_in scene entity path ≡ Some c.counter))) ⊎ (count ≤ c.counter) → ⊥
      or (inl (entity, (path, slot))) = loop.apart entity path slot
      or (inr past) = both _ _ loop.below past
        where
          both : (a b : ℕ) → a < b → b ≤ a → ⊥
          both a b l m = omega (arith, l, m)

      by : (block < length plan.blocks) ⊎ (length plan.blocks ≤ block) → ⊥
      by (inl below) = or ((block_told block below).sets i guard c.counter value at)
      by (inr past) = never_there i _ (sym (ap (λ (os : List Operation). slice_get os i) (no_block plan block past)) ∙ at)

  block_named : (block : ℕ) → block < length final.starts.items → Names plan.blocks block
  block_named block below = subst (λ (n : ℕ). block < n) (sym h.of.made.blocks.count) below

  flag_is : (flag : ℕ) → IsFlagOf final flag → IsFlag plan flag
  flag_is flag f =
      let at = ap (λ (ks : List Kind). slice_get ks flag) h.of.made.registers ∙ f.truth in
      (place_within plan.registers flag kind.Bool at, kind_there plan.registers flag kind.Bool at)

  -- accesses are those of the program
  access_met : (block i : ℕ) (r : Reach) → HasAccess plan block i r → In r.access plan.meets
  access_met block i r has =
      let s = known block i r has in
      h.meets.range.there r.access (omega arith)
      (subst (λ (n : ℕ). r.access < 0 + n) (events_counted nothing_around (program_seen scene.program.now).body) (more (place_within (accesses_in (trace (program_seen scene.program.now))) r.access s.access s.there)))
    where
      more : {a b : ℕ} → a < b → a < 0 + b
      more l = omega (arith, l)

  same_access : (a b : SourceAccess) → Some a ≡ Some b → a ≡ b
  same_access a b e = cc

  memory_one : (b c i j : ℕ) (r t : Reach) → HasAccess plan b i r → HasAccess plan c j t → r.access ≡ t.access → r.memory ≡ t.memory
  memory_one b c i j r t one two same =
      let s = known b i r one in
      let u = known c j t two in
      s.memory_is
      ∙ (ap (λ (a : SourceAccess). narrowed (entity_number (number_in (memories_of (program_seen scene.program.now)) (base_of (way_to (program_seen scene.program.now) a.entity) a.entity)))) (same_access s.access u.access (sym s.there ∙ (ap (λ (n : ℕ). access_at (program_seen scene.program.now) n) same ∙ u.there)))
      ∙ sym u.memory_is)

  plan_formed : IsFormed plan
  plan_formed = record {
    table = subst (λ (tb : List MemEntry). IsProgramTable tb) (sym h.of.table) (table scene count plan final h.of);
    views = h.maps;
    blocks = block_formed;
    nodes = map_all (λ (block : ℕ). block < length final.starts.items) (λ (block : ℕ). Names plan.blocks block) (blocks_of plan.body) block_named h.named.blocks;
    distinct = h.meets.range.distinct;
    met = access_met;
    one_memory = memory_one;
    threads = told.threads;
    counters =
        counters_are scene (placing_in scene) (slots_in scene) count (slots_told scene) (holds scene count plan final h.of).placing plan (countings plan.body) (loops_of_phases (core_of (program_seen scene.program.now)).phases)
        (countings_are scene final [] (core_of (program_seen scene.program.now)).phases plan.body h.nodes) own.own
        (all_counters scene count plan.registers h.of.order h.of.kinds (loops_of_phases (core_of (program_seen scene.program.now)).phases) own.own.counting);
    counters_kept = map_all (IsToldLoop scene count plan final h.of) (KeepsCounter plan) (countings plan.body) counter_kept told.loops;
    flags = map_all (IsFlagOf final) (IsFlag plan) (flags_of plan.body) flag_is h.named.flags;
  }

pub plans_formed : ReadyPlansAreFormed
plans_formed scene count plan final h =
    plan_formed scene count plan final h
    (made_plans_reach scene final plan
    (record {
      named = ready_kept (program_seen scene.program.now) h.of.ready;
      tells = h.of.shares;
      ways = sym (known_here scene h.of.ways);
      views = h.of.views;
      rows = ready_rows (program_seen scene.program.now) h.of.ready;
      blocks = h.of.made.blocks;
      nodes = h.nodes;
    })
    h.once)
