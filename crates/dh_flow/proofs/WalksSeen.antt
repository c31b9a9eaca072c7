-- What the walk does of a node of the code, form by form.
use Rattle.std.proofs.Common.{◌≡◌, ℕ, ◌-◌, ◌==◌, Bool, true, false, refl, arith, List, Some, ap, sym, ◌∙◌, subst}
use Rattle.std.proofs.lemmas.Bool.Decides.{nat_tests}
use Rattle.std.specs.Prelude.{Vec}
use Rattle.std.specs.Global.{Global}
use Rattle.dh_plan.specs.declared.graphs.Graph.{Graph}
use Rattle.dh_plan.specs.declared.graphs.Group.{Group}
use Rattle.dh_plan.specs.declared.plans.Node as code
use Rattle.dh_plan.specs.declared.plans.Node.TheVariants as form
use Rattle.dh_plan.specs.PlainPlans.{Node, choice_node, loop_node, threads_node, turns_node}
use Rattle.dh_plan.specs.SeenPlans.{node_seen, nodes_seen}
use Rattle.dh_flow.specs.declared.measuring.NodeMark.{NodeMark}
use Rattle.dh_flow.specs.Measured.{all_lists_seen}
use Rattle.dh_flow.specs.ToldWays.{ToldWay, told_go}
use Rattle.dh_flow.specs.GraphWalks.{states_at, turn_told, loop_told, choice_told, first_told, AddsGroups, PushesState, Walks, WalksNode, WalksLists}
use Rattle.dh_flow.proofs.NodeForms.{step_is, turns_is, loop_is, choice_is, threads_is}
use Rattle.dh_flow.proofs.WalksMade.{walks_step, walks_no_turn, walks_turns, walks_loop, walks_choice, walks_threads}

not_zero : (n : ℕ) → (n ≡ 0 → ⊥) → (n == 0) ≡ false
not_zero n some = by (n == 0) refl
  where
    by : (b : Bool) → (n == 0) ≡ b → (n == 0) ≡ false
    by true f =
        let none : n ≡ 0 = grind (arith, nat_tests, f) in
        absurd (some none)
    by false f = f

module _ (node : code.Node) (own : ℕ) (m : NodeMark) (way : ToldWay) (old new : List NodeMark) (g h : Graph) where
  seen_as : (n : Node) → node_seen node ≡ n → WalksNode n own m way old new g h → WalksNode (node_seen node) own m way old new g h
  seen_as n e walks = subst (λ x. WalksNode x own m way old new g h) (sym e) walks

  pub turns_seen : (counter count last : ℕ) (body : Vec code.Node Global) (xs : List code.Node) (d : ToldWay) → node ≡ form.Turns counter count body → xs ≡ body.items → (count ≡ 0 → ⊥) → last ≡ count - 1
      → d ≡ turn_told counter last m.own.entry way g → Walks (nodes_seen xs) own d old new g h → WalksNode (node_seen node) own m way old new g h
  turns_seen counter count last body xs d is same some l d_is walks =
      seen_as (turns_node counter count (nodes_seen xs)) (ap node_seen is ∙ (turns_is counter count body ∙ ap (λ x. turns_node counter count (nodes_seen x)) (sym same))) (walks_turns counter count last (nodes_seen xs) own m way d old new g h (not_zero count some) l d_is walks)

  pub loop_seen : (test flag : ℕ) (body : Vec code.Node Global) (xs : List code.Node) (d again : ToldWay) (p : Graph) → node ≡ form.Loop test flag body → xs ≡ body.items → d ≡ loop_told flag m way g → PushesState test own d g p
      → again ≡ told_go (states_at g) → Walks (nodes_seen xs) own again old new p h → WalksNode (node_seen node) own m way old new g h
  loop_seen test flag body xs d again p is same d_is pushes again_is walks =
      seen_as (loop_node test flag (nodes_seen xs)) (ap node_seen is ∙ (loop_is test flag body ∙ ap (λ x. loop_node test flag (nodes_seen x)) (sym same)))
      (walks_loop test flag (nodes_seen xs) own m way d old new g p h d_is pushes (subst (λ t. Walks (nodes_seen xs) own t old new p h) again_is walks))

  pub choice_seen : (test flag : ℕ) (chosen other : Vec code.Node Global) (xs ys : List code.Node) (d : ToldWay) (mid : List NodeMark) (p q : Graph) → node ≡ form.Choice test flag chosen other → xs ≡ chosen.items → ys ≡ other.items
      → d ≡ choice_told flag m way g → PushesState test own d g p → Walks (nodes_seen xs) own way old mid p q → Walks (nodes_seen ys) own way mid new q h → WalksNode (node_seen node) own m way old new g h
  choice_seen test flag chosen other xs ys d mid p q is xs_is ys_is d_is pushes one two =
      seen_as (choice_node test flag (nodes_seen xs) (nodes_seen ys))
      (ap node_seen is ∙ (choice_is test flag chosen other ∙ (ap (λ x. choice_node test flag (nodes_seen x) (nodes_seen other.items)) (sym xs_is) ∙ ap (λ y. choice_node test flag (nodes_seen xs) (nodes_seen y)) (sym ys_is))))
      (walks_choice test flag (nodes_seen xs) (nodes_seen ys) own m way d old mid new g p q h d_is pushes one two)

  pub threads_seen : (lists : Vec (Vec code.Node Global) Global) (vs : List (Vec code.Node Global)) (first : ℕ) (made : List Group) (p : Graph) → node ≡ form.Threads lists → vs ≡ lists.items → first ≡ first_told m.own.entry g
      → WalksLists (all_lists_seen vs) own first (Some way) old new g p made → AddsGroups m.own.entry made p h → WalksNode (node_seen node) own m way old new g h
  threads_seen lists vs first made p is same first_is walks adds =
      seen_as (threads_node (all_lists_seen vs)) (ap node_seen is ∙ (threads_is lists ∙ ap (λ x. threads_node (all_lists_seen x)) (sym same)))
      (walks_threads (all_lists_seen vs) own first m way old new g p h made first_is walks adds)

pub no_turn_seen : (node : code.Node) (own : ℕ) (m : NodeMark) (way : ToldWay) (old : List NodeMark) (g : Graph) (counter count : ℕ) (body : Vec code.Node Global) → node ≡ form.Turns counter count body → count ≡ 0 → WalksNode (node_seen node) own m way old old g g
no_turn_seen node own m way old g counter count body is none =
    seen_as node own m way old old g g (turns_node counter count (nodes_seen body.items)) (ap node_seen is ∙ turns_is counter count body) (walks_no_turn counter count (nodes_seen body.items) own m way old g none)

pub step_seen : (node : code.Node) (own : ℕ) (m : NodeMark) (way : ToldWay) (old : List NodeMark) (g h : Graph) (block : ℕ) → node ≡ form.Step block → PushesState block own way g h → WalksNode (node_seen node) own m way old old g h
step_seen node own m way old g h block is pushes = seen_as node own m way old old g h _ (ap node_seen is ∙ step_is block) (walks_step block own m way old g h pushes)
