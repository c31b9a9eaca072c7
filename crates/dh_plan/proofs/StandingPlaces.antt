-- Wherever a run of a plan stands, what is still to come is of the plan: each step of what comes is a step of the nodes
-- that the thread goes through, inside the loops whose turns lie behind it; `whole` are these nodes, and `round` the
-- loops round them. Of threads that stand side by side each keeps to its own list.
-- Into phases, behind a block and behind a step this stays so, by the same recursions as those of the run; and where a
-- thread has not ended, the blocks that are next are a step of it.
use Rattle.std.proofs.Common.{◌≡◌, ℕ, ◌-◌, inl, inr, List, refl, sym, ap, subst, ◌∙◌}
use Rattle.std.specs.Prelude.{[], ◌∷◌, ◌++◌, ◌==◌, ◌&&◌, Bool, true, false, if◌then◌else◌, slice_index, slice_set}
use Rattle.std.specs.List.{AllByRecursion}
use Rattle.std.proofs.lemmas.List.{append-nil}
use Rattle.dh_plan.specs.PlainPlans.{Node, block_node, turns_node, loop_node, choice_node, threads_node, Nodes, no_nodes, node_then, NodeLists, no_lists, list_then, PlainPlan}
use Rattle.dh_plan.specs.PlanRuns.{PlanTodo, over, nodes_then, turn_then, test_then, again_then, pick_then, PlanPlace, ended, at, inside, PlanPlaces, no_places, place_then, PlanNext, plan_next, has_ended, all_ended, plan_enter, enter_node, enter_lists, flag_holds, counted_up, plan_next_of, PlanNextPlaces, plan_place_after, places_after, blocks_at, blocks_at_all}
use Rattle.dh_plan.specs.SoundPlans.{Counting, countings, node_countings, list_countings, AreCounters, IsStepOf, IsStepOfNode, IsStepOfLists}
use Rattle.dh_plan.proofs.FittingEffects.{all_joined}
use Rattle.dh_plan.proofs.JointEnters.{some_turns}
use Rattle.dh_plan.proofs.JointPlaces.{counting}
use Rattle.dh_plan.proofs.TurnsKept.{IsLoopOf, IsTurningLoop, RegistersStand, left_stands, counted_stands}
use Rattle.dh_plan.proofs.ValuesAlike.{all_left, all_right}

-- Places.

-- the loops round what is still to come: those round the thread, and those whose turns lie behind it
abbrev pub loops_in : (round : List Counting) → PlanTodo → List Counting
loops_in round over = round
loops_in round (nodes_then ns k) = loops_in round k
loops_in round (turn_then counter turns body k) = loops_in round k ++ counting counter turns ∷ []
loops_in round (test_then test flag body k) = loops_in round k
loops_in round (again_then test flag body k) = loops_in round k
loops_in round (pick_then flag chosen other k) = loops_in round k

-- nodes inside the inner loops make steps of the whole, and their loops are the plan's
abbrev pub NodesCome : PlainPlan → (whole : Nodes) → (round inner : List Counting) → Nodes → Type 0
NodesCome plan whole round inner ns =
    ((blocks : List ℕ) (loops : List Counting) → IsStepOf inner ns blocks loops → IsStepOf round whole blocks loops) × AllByRecursion (IsLoopOf plan) (countings ns)

abbrev pub NodeComes : PlainPlan → (whole : Nodes) → (round inner : List Counting) → Node → Type 0
NodeComes plan whole round inner n =
    ((blocks : List ℕ) (loops : List Counting) → IsStepOfNode inner n blocks loops → IsStepOf round whole blocks loops) × AllByRecursion (IsLoopOf plan) (node_countings n)

-- so of all that is still to come
abbrev pub TodoStands : PlainPlan → (whole : Nodes) → (round : List Counting) → PlanTodo → Type 0
TodoStands plan whole round over = Unit {0}
TodoStands plan whole round (nodes_then ns k) = NodesCome plan whole round (loops_in round k) ns × TodoStands plan whole round k
TodoStands plan whole round (turn_then counter turns body k) =
    IsTurningLoop plan (counting counter turns) × (NodesCome plan whole round (loops_in round k ++ counting counter turns ∷ []) body × TodoStands plan whole round k)
TodoStands plan whole round (test_then test flag body k) = NodeComes plan whole round (loops_in round k) (loop_node test flag body) × TodoStands plan whole round k
TodoStands plan whole round (again_then test flag body k) = NodeComes plan whole round (loops_in round k) (loop_node test flag body) × TodoStands plan whole round k
TodoStands plan whole round (pick_then flag chosen other k) =
    (NodesCome plan whole round (loops_in round k) chosen × NodesCome plan whole round (loops_in round k) other) × TodoStands plan whole round k

abbrev mutual
  -- and of where a thread stands; threads that all have ended are not stood in
  pub PlaceStands : PlainPlan → (whole : Nodes) → (round : List Counting) → PlanPlace → Type 0
  PlaceStands plan whole round ended = Unit {0}
  PlaceStands plan whole round (at block k) = IsStepOf round whole (block ∷ []) (loops_in round k) × TodoStands plan whole round k
  PlaceStands plan whole round (inside ps k) =
      (lists : NodeLists) × (((blocks : List ℕ) (loops : List Counting) → IsStepOfLists (loops_in round k) lists blocks loops → IsStepOf round whole blocks loops)
      × (PlacesStand plan (loops_in round k) lists ps × ((all_ended ps ≡ false) × TodoStands plan whole round k)))

  pub PlacesStand : PlainPlan → (round : List Counting) → NodeLists → PlanPlaces → Type 0
  PlacesStand plan round no_lists no_places = Unit {0}
  PlacesStand plan round (list_then ns lists) (place_then p ps) = PlaceStands plan ns round p × PlacesStand plan round lists ps
  PlacesStand plan round no_lists (place_then p ps) = ⊥
  PlacesStand plan round (list_then ns lists) no_places = ⊥

abbrev pub NextStands : PlainPlan → (whole : Nodes) → (round : List Counting) → PlanNext → Type 0
NextStands plan whole round n = PlaceStands plan whole round n.place × RegistersStand plan n.registers

-- Into phases.

pub pick_by : {A : Type 0} (P : A → Type 0) (b : Bool) (x y : A) → (b ≡ true → P x) → (b ≡ false → P y) → P (if b then x else y)
pick_by P true x y f g = f refl
pick_by P false x y f g = g refl

-- the test of a loop comes
loop_at : (plan : PlainPlan) (whole : Nodes) (round : List Counting) (test flag : ℕ) (body : Nodes) (k : PlanTodo)
    → NodeComes plan whole round (loops_in round k) (loop_node test flag body) → TodoStands plan whole round k → PlaceStands plan whole round (at test (test_then test flag body k))
loop_at plan whole round test flag body k c t = (c.0 (test ∷ []) (loops_in round k) (inl (refl, refl)), (c, t))

mutual
  pub enter_stands : (plan : PlainPlan) (whole : Nodes) (round : List Counting) (ns : Nodes) (k : PlanTodo) (behind : PlanNext) (registers : List ℕ)
      → NodesCome plan whole round (loops_in round k) ns → TodoStands plan whole round k → NextStands plan whole round behind → RegistersStand plan registers
      → NextStands plan whole round (plan_enter ns k behind registers)
  enter_stands plan whole round no_nodes k behind registers c t n q = n
  enter_stands plan whole round (node_then m ns) k behind registers c t n q =
      let first : NodeComes plan whole round (loops_in round k) m = ((λ bs ls s. c.0 bs ls (inl s)), all_left (IsLoopOf plan) (node_countings m) (countings ns) c.1) in
      let rest : NodesCome plan whole round (loops_in round k) ns = ((λ bs ls s. c.0 bs ls (inr s)), all_right (IsLoopOf plan) (node_countings m) (countings ns) c.1) in
      node_stands plan whole round m (nodes_then ns k) (plan_enter ns k behind registers) registers first (rest, t) (enter_stands plan whole round ns k behind registers rest t n q) q

  pub node_stands : (plan : PlainPlan) (whole : Nodes) (round : List Counting) (m : Node) (k : PlanTodo) (behind : PlanNext) (registers : List ℕ)
      → NodeComes plan whole round (loops_in round k) m → TodoStands plan whole round k → NextStands plan whole round behind → RegistersStand plan registers
      → NextStands plan whole round (enter_node m k behind registers)
  node_stands plan whole round (block_node block) k behind registers c t n q = ((c.0 (block ∷ []) (loops_in round k) (refl, refl), t), q)
  node_stands plan whole round (turns_node counter turns body) k behind registers c t n q =
      pick_by (NextStands plan whole round) (turns == 0) behind (plan_enter body (turn_then counter turns body k) behind registers) (λ none. n)
      (λ some. let comes : NodesCome plan whole round (loops_in round k ++ counting counter turns ∷ []) body = ((λ bs ls s. c.0 bs ls s), c.1.1) in
      enter_stands plan whole round body (turn_then counter turns body k) behind registers comes ((c.1.0, some_turns turns some), (comes, t)) n q)
  node_stands plan whole round (loop_node test flag body) k behind registers c t n q = (loop_at plan whole round test flag body k c t, q)
  node_stands plan whole round (choice_node test flag chosen other) k behind registers c t n q =
      let first : NodesCome plan whole round (loops_in round k) chosen = ((λ bs ls s. c.0 bs ls (inr (inl s))), all_left (IsLoopOf plan) (countings chosen) (countings other) c.1) in
      let second : NodesCome plan whole round (loops_in round k) other = ((λ bs ls s. c.0 bs ls (inr (inr s))), all_right (IsLoopOf plan) (countings chosen) (countings other) c.1) in
      ((c.0 (test ∷ []) (loops_in round k) (inl (refl, refl)), ((first, second), t)), q)
  node_stands plan whole round (threads_node lists) k behind registers c t n q =
      pick_by (NextStands plan whole round) (all_ended (enter_lists lists registers)) behind (plan_next (inside (enter_lists lists registers) k) registers) (λ none. n)
      (λ some. ((lists, ((λ bs ls s. c.0 bs ls s), (lists_stand plan (loops_in round k) lists registers c.1 q, (some, t)))), q))

  pub lists_stand : (plan : PlainPlan) (round : List Counting) (lists : NodeLists) (registers : List ℕ) → AllByRecursion (IsLoopOf plan) (list_countings lists) → RegistersStand plan registers
      → PlacesStand plan round lists (enter_lists lists registers)
  lists_stand plan round no_lists registers c q = tt
  lists_stand plan round (list_then ns lists) registers c q =
      let comes : NodesCome plan ns round round ns = ((λ bs ls s. s), all_left (IsLoopOf plan) (countings ns) (list_countings lists) c) in (
        (enter_stands plan ns round ns over (plan_next ended registers) registers comes tt (tt, q) q).0,
        lists_stand plan round lists registers (all_right (IsLoopOf plan) (countings ns) (list_countings lists) c) q,
      )

-- Behind a block.

pub behind_stands : (plan : PlainPlan) → AreCounters plan (countings plan.body) → (whole : Nodes) (round : List Counting) (k : PlanTodo) (registers : List ℕ)
    → TodoStands plan whole round k → RegistersStand plan registers → NextStands plan whole round (plan_next_of plan.registers k registers)
behind_stands plan counters whole round over registers t q = (tt, q)
behind_stands plan counters whole round (nodes_then ns k) registers t q =
    enter_stands plan whole round ns k (plan_next_of plan.registers k registers) registers t.0 t.1 (behind_stands plan counters whole round k registers t.1 q) q
behind_stands plan counters whole round (turn_then counter turns body k) registers t q =
    let more = counted_up plan.registers counter registers in
    pick_by (NextStands plan whole round) (slice_index registers counter == turns - 1) (plan_next_of plan.registers k (slice_set registers counter 0))
    (plan_enter body (turn_then counter turns body k) (plan_next ended more) more)
    (λ last. behind_stands plan counters whole round k (slice_set registers counter 0) t.1.1 (left_stands plan registers counters (counting counter turns) t.0 q))
    (λ on. let up = counted_stands plan registers counters (counting counter turns) t.0 on q in
    enter_stands plan whole round body (turn_then counter turns body k) (plan_next ended more) more t.1.0 t (tt, up) up)
behind_stands plan counters whole round (test_then test flag body k) registers t q =
    let again = plan_next (at test (test_then test flag body k)) registers in
    let comes : NodesCome plan whole round (loops_in round k) body = ((λ bs ls s. t.0.0 bs ls (inr s)), t.0.1) in
    pick_by (NextStands plan whole round) (flag_holds registers flag) (plan_enter body (again_then test flag body k) again registers) (plan_next_of plan.registers k registers)
    (λ holds. enter_stands plan whole round body (again_then test flag body k) again registers comes t (loop_at plan whole round test flag body k t.0 t.1, q) q)
    (λ fails. behind_stands plan counters whole round k registers t.1 q)
behind_stands plan counters whole round (again_then test flag body k) registers t q = (loop_at plan whole round test flag body k t.0 t.1, q)
behind_stands plan counters whole round (pick_then flag chosen other k) registers t q =
    let beyond = plan_next_of plan.registers k registers in
    pick_by (NextStands plan whole round) (flag_holds registers flag) (plan_enter chosen k beyond registers) (plan_enter other k beyond registers)
    (λ holds. enter_stands plan whole round chosen k beyond registers t.0.0 t.1 (behind_stands plan counters whole round k registers t.1 q) q)
    (λ fails. enter_stands plan whole round other k beyond registers t.0.1 t.1 (behind_stands plan counters whole round k registers t.1 q) q)

-- Behind a step.

abbrev pub NextPlacesStand : PlainPlan → (round : List Counting) → NodeLists → PlanNextPlaces → Type 0
NextPlacesStand plan round lists n = PlacesStand plan round lists n.places × RegistersStand plan n.registers

mutual
  pub after_stands : (plan : PlainPlan) → AreCounters plan (countings plan.body) → (whole : Nodes) (round : List Counting) (p : PlanPlace) (registers : List ℕ)
      → PlaceStands plan whole round p → RegistersStand plan registers → NextStands plan whole round (plan_place_after plan.registers p registers)
  after_stands plan counters whole round ended registers h q = (tt, q)
  after_stands plan counters whole round (at block k) registers h q = behind_stands plan counters whole round k registers h.1 q
  after_stands plan counters whole round (inside ps k) registers h q =
      let after = places_after plan.registers ps registers in
      let stand = places_after_stand plan counters (loops_in round k) h.0 ps registers h.1.1.0 q in
      pick_by (NextStands plan whole round) (all_ended after.places) (plan_next_of plan.registers k after.registers) (plan_next (inside after.places k) after.registers)
      (λ all. behind_stands plan counters whole round k after.registers h.1.1.1.1 stand.1)
      (λ some. ((h.0, (h.1.0, (stand.0, (some, h.1.1.1.1)))), stand.1))

  pub places_after_stand : (plan : PlainPlan) → AreCounters plan (countings plan.body) → (round : List Counting) (lists : NodeLists) (ps : PlanPlaces) (registers : List ℕ)
      → PlacesStand plan round lists ps → RegistersStand plan registers → NextPlacesStand plan round lists (places_after plan.registers ps registers)
  places_after_stand plan counters round no_lists no_places registers h q = (tt, q)
  places_after_stand plan counters round (list_then ns lists) (place_then p ps) registers h q =
      let first = after_stands plan counters ns round p registers h.0 q in
      let rest = places_after_stand plan counters round lists ps (plan_place_after plan.registers p registers).registers h.1 first.1 in
      ((first.0, rest.0), rest.1)
  places_after_stand plan counters round no_lists (place_then p ps) registers h q = absurd h
  places_after_stand plan counters round (list_then ns lists) no_places registers h q = absurd h

-- The next step.

-- such a step, inside loops that have turns
abbrev pub StepsInTurns : PlainPlan → (Step : List ℕ → List Counting → Type 0) → (blocks : List ℕ) → Type 0
StepsInTurns plan Step blocks = (loops : List Counting) × (Step blocks loops × AllByRecursion (IsTurningLoop plan) loops)

loops_turn : (plan : PlainPlan) (whole : Nodes) (round : List Counting) (k : PlanTodo) → TodoStands plan whole round k → AllByRecursion (IsTurningLoop plan) round
    → AllByRecursion (IsTurningLoop plan) (loops_in round k)
loops_turn plan whole round over t r = r
loops_turn plan whole round (nodes_then ns k) t r = loops_turn plan whole round k t.1 r
loops_turn plan whole round (turn_then counter turns body k) t r =
    all_joined (IsTurningLoop plan) (loops_in round k) (counting counter turns ∷ []) (loops_turn plan whole round k t.1.1 r) (t.0, tt)
loops_turn plan whole round (test_then test flag body k) t r = loops_turn plan whole round k t.1 r
loops_turn plan whole round (again_then test flag body k) t r = loops_turn plan whole round k t.1 r
loops_turn plan whole round (pick_then flag chosen other k) t r = loops_turn plan whole round k t.1 r

-- a thread that has ended does nothing
idle_at : (p : PlanPlace) → has_ended p ≡ true → blocks_at p ≡ []
idle_at ended e = refl
idle_at (at block k) e = absurd (cc)
idle_at (inside ps k) e = absurd (cc)

both_hold : (a b : Bool) → (a && b) ≡ true → (a ≡ true) × (b ≡ true)
both_hold true b e = (refl, e)
both_hold false b e = absurd (cc)

idle_at_all : (ps : PlanPlaces) → all_ended ps ≡ true → blocks_at_all ps ≡ []
idle_at_all no_places e = refl
idle_at_all (place_then p ps) e =
    let both = both_hold (has_ended p) (all_ended ps) e in
    ap (λ (bs : List ℕ). bs ++ blocks_at_all ps) (idle_at p both.0) ∙ idle_at_all ps both.1

-- a thread beside others: one of them at least has not ended
beside : (plan : PlainPlan) (round : List Counting) (ns : Nodes) (lists : NodeLists) (own others : List ℕ) (a b : Bool) → (a && b) ≡ false
    → (a ≡ true → own ≡ []) → (b ≡ true → others ≡ []) → (a ≡ false → StepsInTurns plan (IsStepOf round ns) own) → (b ≡ false → StepsInTurns plan (IsStepOfLists round lists) others)
    → StepsInTurns plan (IsStepOfLists round (list_then ns lists)) (own ++ others)
beside plan round ns lists own others true true e idle idle_others first rest = absurd (cc)
beside plan round ns lists own others true false e idle idle_others first rest =
    let found = rest refl in
    subst (λ (bs : List ℕ). StepsInTurns plan (IsStepOfLists round (list_then ns lists)) (bs ++ others)) (sym (idle refl)) (found.0, (inl found.1.0, found.1.1))
beside plan round ns lists own others false true e idle idle_others first rest =
    let found = first refl in
    subst (λ (bs : List ℕ). StepsInTurns plan (IsStepOfLists round (list_then ns lists)) (own ++ bs)) (sym (idle_others refl))
    (subst (λ (bs : List ℕ). StepsInTurns plan (IsStepOfLists round (list_then ns lists)) bs) (sym (append-nil own)) (found.0, (inr (inl found.1.0), found.1.1)))
beside plan round ns lists own others false false e idle idle_others first rest =
    let found = first refl in
    let more = rest refl in (
      found.0 ++ more.0,
      (
        inr (inr (record {
          first_blocks = own;
          second_blocks = others;
          first_loops = found.0;
          second_loops = more.0;
          first = found.1.0;
          second = more.1.0;
          all_blocks = refl;
          all_loops = refl;
        })),
        all_joined (IsTurningLoop plan) found.0 more.0 found.1.1 more.1.1,
      ),
    )

mutual
  pub place_steps : (plan : PlainPlan) (whole : Nodes) (round : List Counting) (p : PlanPlace) → PlaceStands plan whole round p → has_ended p ≡ false
      → AllByRecursion (IsTurningLoop plan) round → StepsInTurns plan (IsStepOf round whole) (blocks_at p)
  place_steps plan whole round ended h e r = absurd (cc)
  place_steps plan whole round (at block k) h e r = (loops_in round k, (h.0, loops_turn plan whole round k h.1 r))
  place_steps plan whole round (inside ps k) h e r =
      let found = places_step plan (loops_in round k) h.0 ps h.1.1.0 h.1.1.1.0 (loops_turn plan whole round k h.1.1.1.1 r) in
      (found.0, (h.1.0 (blocks_at_all ps) found.0 found.1.0, found.1.1))

  pub places_step : (plan : PlainPlan) (round : List Counting) (lists : NodeLists) (ps : PlanPlaces) → PlacesStand plan round lists ps → all_ended ps ≡ false
      → AllByRecursion (IsTurningLoop plan) round → StepsInTurns plan (IsStepOfLists round lists) (blocks_at_all ps)
  places_step plan round no_lists no_places h e r = absurd (cc)
  places_step plan round (list_then ns lists) (place_then p ps) h e r =
      beside plan round ns lists (blocks_at p) (blocks_at_all ps) (has_ended p) (all_ended ps) e (idle_at p) (idle_at_all ps)
      (λ on. place_steps plan ns round p h.0 on r) (λ on. places_step plan round lists ps h.1 on r)
  places_step plan round no_lists (place_then p ps) h e r = absurd h
  places_step plan round (list_then ns lists) no_places h e r = absurd h
