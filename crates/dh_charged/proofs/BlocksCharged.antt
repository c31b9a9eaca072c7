-- A block charges no more than the program, and so does a plan whose blocks are all so.
use Rattle.std.proofs.Common.{◌≡◌, ◌⊎◌, inl, inr, ℕ, suc, ◌<◌, ◌≤◌, List, [], ◌∷◌, ◌++◌, length, Option, Some, None, refl, ap, sym, ◌∙◌, subst, arith, append_assoc}
use Rattle.std.specs.Prelude.{true, drop, max, slice_get}
use Rattle.std.specs.List.{AllByRecursion}
use Rattle.std.proofs.Math.Seq.{drop-append_seam}
use Rattle.dh_meaning.specs.Core.{CorePhase, straightly, turning, looping, choosing, CorePhases, no_core_phases, phase_and}
use Rattle.dh_meaning.specs.Paths.{Path, copies_in}
use Rattle.dh_meets.specs.Charges.{charge, picked}
use Rattle.dh_plan.specs.declared.operations.Operation.{Operation}
use Rattle.dh_plan.specs.declared.operations.PlanBlock.{PlanBlock}
use Rattle.dh_plan.specs.declared.operations.Reach.{Reach}
use Rattle.dh_plan.specs.Correspondence.{Round}
use Rattle.dh_plan.specs.PlainPlans.{Node, block_node, turns_node, loop_node, choice_node, threads_node, Nodes, no_nodes, node_then, PlainPlan, block_operations, operations_in}
use Rattle.dh_plan.specs.PlanPhases.{Tie, AreNodesOf, IsNodeOf}
use Rattle.dh_plan.specs.SoundPlans.{IsOneOf, blocks_charge, blocks_of, node_blocks, operations_charge, use_in}
use Rattle.dh_expressions.specs.declared.drafts.Draft.{Draft}
use Rattle.dh_expressions.specs.declared.scenes.Around.{Around}
use Rattle.dh_expressions.specs.declared.scenes.Scene.{Scene}
use Rattle.dh_expressions.specs.Levels.{leader_number, path_at}
use Rattle.dh_formed.specs.Formed.{BlockSite}
use Rattle.dh_formed.proofs.ElementsFormed.{all_append}
use Rattle.dh_commands.specs.LanesRun.{paths_counted}
use Rattle.dh_commands.specs.ShownVariables.{level_factors}
use Rattle.dh_laid.specs.BlockSites.{block_sites, test_sites}
use Rattle.dh_laid.specs.LaidUses.{AddsLedUses, AreLedUses, IsLeadersUse, PathsLead, used_to}
use Rattle.dh_laid.proofs.BlocksUsed.{blocks_lead, tests_lead}
use Rattle.dh_blocks.proofs.PathNumbers.{leader_leads, leader_within, number_is, some_copies}
use Rattle.dh_charged.specs.ChargedBlocks.{BlocksCharge, EndsUnused, IsCutFrom, PlansCharge, StandsAtPaths, TestsCharge}
use Rattle.dh_charged.specs.ChargedUses.{OperationsCharge}
use Rattle.dh_charged.proofs.KeysLed.{leader_key}
use Rattle.dh_charged.proofs.UsesCharge.{led_uses_charge}

-- where all loops count a path is its own key, and leads

all_picked : (level : ℕ) (p : Path) → picked (λ l. true) level p ≡ p
all_picked level [] = refl
all_picked level (c ∷ p) = ap (λ (l : Path). c ∷ l) (all_picked (suc level) p)

pub paths_lead : (scene : Scene) (around : Around) → StandsAtPaths scene around → PathsLead around
paths_lead scene around s path within =
    number_is around.levels.now s.spread (leader_number around.levels.now (λ l. true) path) path (leader_within around.levels.now s.spread (λ l. true) path inside) inside
    (sym (all_picked 0 (path_at around.levels.now (leader_number around.levels.now (λ l. true) path)))
    ∙ (leader_key around.levels.now s.spread (λ l. true) (leader_number around.levels.now (λ l. true) path) path (leader_within around.levels.now s.spread (λ l. true) path inside) inside
    (leader_leads around.levels.now s.spread (λ l. true) path inside)
    ∙ all_picked 0 (path_at around.levels.now path)))
  where
    inside : path < copies_in (level_factors around.levels.now)
    inside = subst (λ (n : ℕ). path < n) s.counted within

pub some_paths : (scene : Scene) (around : Around) → StandsAtPaths scene around → 0 < paths_counted around
some_paths scene around s = subst (λ (n : ℕ). 0 < n) (sym s.counted) (some_copies around.levels.now s.spread)

-- A block.

module _ (scene : Scene) (plan : PlainPlan) (block : ℕ) (sites : ℕ → Option BlockSite) (old new end : Draft) (uses : ℕ → ℕ) (led : AddsLedUses scene sites old new uses) (cut : IsCutFrom plan block old end) (ends : EndsUnused new end) where
  unused_led : (os : List Operation) → AllByRecursion (λ (o : Operation). use_in o.form ≡ None) os → AreLedUses scene sites os
  unused_led [] h = tt
  unused_led (o ∷ os) h = ((λ r e. absurd (lost r (sym h.0 ∙ e))), unused_led os h.1)
    where
      lost : (r : Reach) → None ≡ Some r → ⊥
      lost r e = cc

  whole : operations_in plan block ≡ led.more ++ ends.more
  whole =
      cut
      ∙ (ap (λ (os : List Operation). drop (length old.operations.items) os) (ends.adds ∙ (ap (λ (os : List Operation). os ++ ends.more) led.adds ∙ append_assoc old.operations.items led.more ends.more))
      ∙ drop-append_seam old.operations.items (led.more ++ ends.more))

  pub block_led : AreLedUses scene sites (operations_in plan block)
  block_led =
      subst (λ (os : List Operation). AreLedUses scene sites os) (sym whole)
      (all_append (λ (o : Operation). (r : Reach) → use_in o.form ≡ Some r → IsLeadersUse scene sites r) led.more ends.more led.each (unused_led ends.more ends.unused))

pub blocks_charge_less : BlocksCharge
blocks_charge_less scene plan block around cs old new end m stands along writes inside bare shares of cut ends =
    led_uses_charge scene around.levels.now (block_sites scene around cs old new m) (operations_in plan block) stands.spread shares
    (block_led scene plan block (block_sites scene around cs old new m) old.draft new.draft end (used_to scene (block_sites scene around cs old new m) (paths_counted around))
    (blocks_lead scene around cs old new m stands.stands (paths_lead scene around stands) (some_paths scene around stands) along writes inside bare) cut ends)
    of

pub tests_charge_less : TestsCharge
tests_charge_less scene plan block around first t old new end next tests m stands few inside bare shares of cut ends =
    led_uses_charge scene around.levels.now (test_sites scene around first t) (operations_in plan block) stands.spread shares
    (block_led scene plan block (test_sites scene around first t) old.draft new.draft end (used_to scene (test_sites scene around first t) (paths_counted around))
    (tests_lead scene around first t old new next tests m stands.stands few inside bare) cut ends)
    of

-- Plans.

least : (n : ℕ) → 0 ≤ n
least n = omega arith

most_of : (x y n : ℕ) → x ≤ n → y ≤ n → max x y ≤ n
most_of x y n h k = grind (arith, h, k)

module _ (P : ℕ → Type 0) where
  one_or : (b : ℕ) (xs ys : List ℕ) → IsOneOf b (xs ++ ys) → IsOneOf b xs ⊎ IsOneOf b ys
  one_or b [] ys h = inr h
  one_or b (x ∷ xs) ys (inl e) = inl (inl e)
  one_or b (x ∷ xs) ys (inr h) = elim (one_or b xs ys h) [ inl k ↦ inl (inr k) | inr k ↦ inr k ]

  abbrev holds_each : Tie
  holds_each = record { of_block = λ rounds cs block. P block; of_test = λ rounds test flag block. P block; of_loop = λ rounds loop counter. Unit {0} }

  mutual
    -- what holds of the blocks of nodes holds of each of them
    pub nodes_hold : (rounds : List Round) (ps : CorePhases) (ns : Nodes) → AreNodesOf holds_each rounds ps ns → (b : ℕ) → IsOneOf b (blocks_of ns) → P b
    nodes_hold rounds no_core_phases no_nodes h b i = absurd i
    nodes_hold rounds (phase_and p ps) (node_then n ns) h b i = elim (one_or b (node_blocks n) (blocks_of ns) i) [
      | inl k ↦ node_holds rounds p n h.0 b k
      | inr k ↦ nodes_hold rounds ps ns h.1 b k
    ]
    nodes_hold rounds no_core_phases (node_then n ns) h b i = absurd h
    nodes_hold rounds (phase_and p ps) no_nodes h b i = absurd h

    node_holds : (rounds : List Round) (p : CorePhase) (n : Node) → IsNodeOf holds_each rounds p n → (b : ℕ) → IsOneOf b (node_blocks n) → P b
    node_holds rounds (straightly cs) (block_node block) h b (inl e) = subst (λ (i : ℕ). P i) (sym e) h
    node_holds rounds (straightly cs) (block_node block) h b (inr i) = absurd i
    node_holds rounds (turning loop body) (turns_node counter turns ns) h b i = nodes_hold (rounds ++ record { loop = loop; counter = counter } ∷ []) body ns h.1.1 b i
    node_holds rounds (looping test body) (loop_node block flag ns) h b (inl e) = subst (λ (i : ℕ). P i) (sym e) h.0
    node_holds rounds (looping test body) (loop_node block flag ns) h b (inr i) = nodes_hold rounds body ns h.1 b i
    node_holds rounds (choosing test chosen other) (choice_node block flag ns ms) h b (inl e) = subst (λ (i : ℕ). P i) (sym e) h.0
    node_holds rounds (choosing test chosen other) (choice_node block flag ns ms) h b (inr i) = elim (one_or b (blocks_of ns) (blocks_of ms) i) [
      | inl k ↦ nodes_hold rounds chosen ns h.1.0 b k
      | inr k ↦ nodes_hold rounds other ms h.1.1 b k
    ]
    node_holds rounds (straightly cs) (turns_node counter turns ns) h b i = absurd h
    node_holds rounds (straightly cs) (loop_node block flag ns) h b i = absurd h
    node_holds rounds (straightly cs) (choice_node block flag ns ms) h b i = absurd h
    node_holds rounds (straightly cs) (threads_node lists) h b i = absurd h
    node_holds rounds (turning loop body) (block_node block) h b i = absurd h
    node_holds rounds (turning loop body) (loop_node block flag ns) h b i = absurd h
    node_holds rounds (turning loop body) (choice_node block flag ns ms) h b i = absurd h
    node_holds rounds (turning loop body) (threads_node lists) h b i = absurd h
    node_holds rounds (looping test body) (block_node block) h b i = absurd h
    node_holds rounds (looping test body) (turns_node counter turns ns) h b i = absurd h
    node_holds rounds (looping test body) (choice_node block flag ns ms) h b i = absurd h
    node_holds rounds (looping test body) (threads_node lists) h b i = absurd h
    node_holds rounds (choosing test chosen other) (block_node block) h b i = absurd h
    node_holds rounds (choosing test chosen other) (turns_node counter turns ns) h b i = absurd h
    node_holds rounds (choosing test chosen other) (loop_node block flag ns) h b i = absurd h
    node_holds rounds (choosing test chosen other) (threads_node lists) h b i = absurd h

blocks_within : (access memory bank n : ℕ) (bs : List PlanBlock) → ((b : ℕ) → b < length bs → operations_charge access memory bank (block_operations (slice_get bs b)) ≤ n) → blocks_charge access memory bank bs ≤ n
blocks_within access memory bank n [] h = least n
blocks_within access memory bank n (x ∷ bs) h =
    most_of (operations_charge access memory bank x.operations) (blocks_charge access memory bank bs) n (h 0 (some (length bs))) (blocks_within access memory bank n bs (λ b l. h (suc b) (more b (length bs) l)))
  where
    some : (n : ℕ) → 0 < suc n
    some n = omega arith

    more : (b n : ℕ) → b < n → suc b < suc n
    more b n l = omega (arith, l)

pub plans_charge : PlansCharge
plans_charge p plan phases nodes all entity memory bank access declared =
    blocks_within access memory bank (charge p entity bank access) plan.blocks
    (λ b l. nodes_hold (λ i. OperationsCharge p (operations_in plan i)) [] phases plan.body nodes b (all b l) entity memory bank access declared)
