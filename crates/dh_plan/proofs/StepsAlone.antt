-- Each block of a step of a plan is a step by itself, inside some of the same loops: by recursion on the nodes, and of
-- threads that go together the block is one of the first thread or of the others.
use Rattle.std.proofs.Common.{◌≡◌, ℕ, ◌⊎◌, inl, inr, List, ap, subst}
use Rattle.std.specs.Prelude.{[], ◌∷◌, ◌++◌, slice_index, ◌<◌}
use Rattle.std.specs.List.{AllByRecursion}
use Rattle.dh_plan.specs.PlainPlans.{Node, block_node, turns_node, loop_node, choice_node, threads_node, Nodes, no_nodes, node_then, NodeLists, no_lists, list_then}
use Rattle.dh_plan.specs.SoundPlans.{Counting, IsOneOf, StepsTogether, IsStepOf, IsStepOfNode, IsStepOfLists}
use Rattle.dh_plan.specs.SoundRuns.{BlocksStepAlone}
use Rattle.dh_plan.proofs.JointPlaces.{counting}
use Rattle.dh_plan.proofs.ValuesAlike.{all_left, all_right}

in_either : (b : ℕ) (xs ys : List ℕ) → IsOneOf b (xs ++ ys) → IsOneOf b xs ⊎ IsOneOf b ys
in_either b [] ys h = inr h
in_either b (x ∷ xs) ys (inl h) = inl (inl h)
in_either b (x ∷ xs) ys (inr h) = elim (in_either b xs ys h) [ inl l ↦ inl (inr l) | inr r ↦ inr r ]

-- the only one
only_one : (b c : ℕ) → IsOneOf b (c ∷ []) → b ≡ c
only_one b c (inl h) = h
only_one b c (inr h) = absurd h

-- one block is such a step, and of its loops this holds
abbrev Alone : (List ℕ → List Counting → Type 0) → (Counting → Type 0) → (block : ℕ) → Type 0
Alone Step Q block = (loops : List Counting) × (Step (block ∷ []) loops × AllByRecursion Q loops)

-- a block that is a step by itself
abbrev IsLone : (round : List Counting) → (own : ℕ) → (blocks : List ℕ) → (loops : List Counting) → Type 0
IsLone round own blocks loops = (blocks ≡ own ∷ []) × (loops ≡ round)

lone : (Q : Counting → Type 0) (round : List Counting) (own : ℕ) (blocks : List ℕ) (loops : List Counting) → IsLone round own blocks loops
    → (b : ℕ) → IsOneOf b blocks → AllByRecursion Q loops → Alone (IsLone round own) Q b
lone Q round own blocks loops h b one all =
    let same = only_one b own (subst (λ (bs : List ℕ). IsOneOf b bs) h.0 one) in
    (loops, ((ap (λ (x : ℕ). x ∷ []) same, h.1), all))

widened : (First Second : List ℕ → List Counting → Type 0) (Q : Counting → Type 0) (b : ℕ) → ((blocks : List ℕ) (loops : List Counting) → First blocks loops → Second blocks loops)
    → Alone First Q b → Alone Second Q b
widened First Second Q b to h = (h.0, (to (b ∷ []) h.0 h.1.0, h.1.1))

-- of two that go together, the block is one of either
of_either : (First Second : List ℕ → List Counting → Type 0) (Q : Counting → Type 0) (blocks : List ℕ) (loops : List Counting) (t : StepsTogether First Second blocks loops)
    → (b : ℕ) → IsOneOf b blocks → AllByRecursion Q loops
    → (IsOneOf b t.first_blocks → AllByRecursion Q t.first_loops → Alone First Q b) → (IsOneOf b t.second_blocks → AllByRecursion Q t.second_loops → Alone Second Q b)
    → Alone First Q b ⊎ Alone Second Q b
of_either First Second Q blocks loops t b one all f g =
    let every = subst (λ (ls : List Counting). AllByRecursion Q ls) t.all_loops all in
    elim (in_either b t.first_blocks t.second_blocks (subst (λ (bs : List ℕ). IsOneOf b bs) t.all_blocks one)) [
      | inl l ↦ inl (f l (all_left Q t.first_loops t.second_loops every))
      | inr r ↦ inr (g r (all_right Q t.first_loops t.second_loops every))
    ]

mutual
  alone_of : (Q : Counting → Type 0) (round : List Counting) (ns : Nodes) (blocks : List ℕ) (loops : List Counting) → IsStepOf round ns blocks loops
      → (b : ℕ) → IsOneOf b blocks → AllByRecursion Q loops → Alone (IsStepOf round ns) Q b
  alone_of Q round no_nodes blocks loops h b one all = absurd h
  alone_of Q round (node_then n ns) blocks loops (inl h) b one all =
      widened (IsStepOfNode round n) (IsStepOf round (node_then n ns)) Q b (λ bs ls s. inl s) (alone_of_node Q round n blocks loops h b one all)
  alone_of Q round (node_then n ns) blocks loops (inr h) b one all =
      widened (IsStepOf round ns) (IsStepOf round (node_then n ns)) Q b (λ bs ls s. inr s) (alone_of Q round ns blocks loops h b one all)

  alone_of_node : (Q : Counting → Type 0) (round : List Counting) (n : Node) (blocks : List ℕ) (loops : List Counting) → IsStepOfNode round n blocks loops
      → (b : ℕ) → IsOneOf b blocks → AllByRecursion Q loops → Alone (IsStepOfNode round n) Q b
  alone_of_node Q round (block_node block) blocks loops h b one all = lone Q round block blocks loops h b one all
  alone_of_node Q round (turns_node counter turns body) blocks loops h b one all = alone_of Q (round ++ counting counter turns ∷ []) body blocks loops h b one all
  alone_of_node Q round (loop_node test flag body) blocks loops (inl h) b one all =
      widened (IsLone round test) (IsStepOfNode round (loop_node test flag body)) Q b (λ bs ls s. inl s) (lone Q round test blocks loops h b one all)
  alone_of_node Q round (loop_node test flag body) blocks loops (inr h) b one all =
      widened (IsStepOf round body) (IsStepOfNode round (loop_node test flag body)) Q b (λ bs ls s. inr s) (alone_of Q round body blocks loops h b one all)
  alone_of_node Q round (choice_node test flag chosen other) blocks loops (inl h) b one all =
      widened (IsLone round test) (IsStepOfNode round (choice_node test flag chosen other)) Q b (λ bs ls s. inl s) (lone Q round test blocks loops h b one all)
  alone_of_node Q round (choice_node test flag chosen other) blocks loops (inr (inl h)) b one all =
      widened (IsStepOf round chosen) (IsStepOfNode round (choice_node test flag chosen other)) Q b (λ bs ls s. inr (inl s)) (alone_of Q round chosen blocks loops h b one all)
  alone_of_node Q round (choice_node test flag chosen other) blocks loops (inr (inr h)) b one all =
      widened (IsStepOf round other) (IsStepOfNode round (choice_node test flag chosen other)) Q b (λ bs ls s. inr (inr s)) (alone_of Q round other blocks loops h b one all)
  alone_of_node Q round (threads_node lists) blocks loops h b one all = alone_of_lists Q round lists blocks loops h b one all

  alone_of_lists : (Q : Counting → Type 0) (round : List Counting) (lists : NodeLists) (blocks : List ℕ) (loops : List Counting) → IsStepOfLists round lists blocks loops
      → (b : ℕ) → IsOneOf b blocks → AllByRecursion Q loops → Alone (IsStepOfLists round lists) Q b
  alone_of_lists Q round no_lists blocks loops h b one all = absurd h
  alone_of_lists Q round (list_then ns lists) blocks loops (inl h) b one all =
      widened (IsStepOfLists round lists) (IsStepOfLists round (list_then ns lists)) Q b (λ bs ls s. inl s) (alone_of_lists Q round lists blocks loops h b one all)
  alone_of_lists Q round (list_then ns lists) blocks loops (inr (inl h)) b one all =
      widened (IsStepOf round ns) (IsStepOfLists round (list_then ns lists)) Q b (λ bs ls s. inr (inl s)) (alone_of Q round ns blocks loops h b one all)
  alone_of_lists Q round (list_then ns lists) blocks loops (inr (inr t)) b one all =
      elim (of_either (IsStepOf round ns) (IsStepOfLists round lists) Q blocks loops t b one all
      (λ in_first holds. alone_of Q round ns t.first_blocks t.first_loops t.first b in_first holds)
      (λ in_second holds. alone_of_lists Q round lists t.second_blocks t.second_loops t.second b in_second holds)) [
        | inl l ↦ widened (IsStepOf round ns) (IsStepOfLists round (list_then ns lists)) Q b (λ bs ls s. inr (inl s)) l
        | inr r ↦ widened (IsStepOfLists round lists) (IsStepOfLists round (list_then ns lists)) Q b (λ bs ls s. inl s) r
      ]

pub blocks_step_alone : BlocksStepAlone
blocks_step_alone plan registers blocks h block one =
    let found = alone_of (λ c. slice_index registers c.counter < c.turns) [] plan.body blocks h.loops h.step block one h.turns in
    record { loops = found.0; step = found.1.0; turns = found.1.1 }
