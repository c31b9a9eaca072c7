-- Nodes from gathered phases: a straight phase has its block, and a test or the turns of a loop are a node over those of
-- the parts; and of a list, one node after the other. And of a program's body.
use Rattle.std.proofs.Common.{◌≡◌, inl, inr, ℕ, suc, ◌+◌, ◌-◌, ◌^◌, ◌<◌, ◌≤◌, List, [], ◌∷◌, ◌++◌, length, drop, get_or, Some, None, refl, ap, sym, ◌∙◌, subst, append_assoc, append-nil, zero-add, arith}
use Rattle.std.proofs.Math.Nat.{min-eq_left}
use Rattle.dh_base.proofs.ListItems.{at_item}
use Rattle.dh_tree.specs.PlainTrees as tree
use Rattle.dh_tree.specs.PlainTrees.{Action, ActionForm, lets, lets_memory, views, assigns, stores, reduces, calls, blocks, decides, repeats, counts, Program}
use Rattle.dh_tree.specs.Seen.{program_seen}
use Rattle.dh_meaning.specs.AccessNumbers.{accesses_of, maybe_accesses, own_accesses, term_accesses}
use Rattle.dh_meaning.specs.Core.{Turning}
use Rattle.dh_meaning.specs.CoreOf.{Known, action_form_of, core_phases, core_test, entity_number, test_of, turning_of}
use Rattle.dh_meaning.specs.Phases.{Located, straight, turns, repeated, decided, no_phases, phase, of_list, phases, phases_of}
use Rattle.dh_meaning.specs.Sites.{nothing_around}
use Rattle.dh_plan.specs.declared.plans.Node as declared
use Rattle.dh_plan.specs.Correspondence.{Round, loops_round}
use Rattle.dh_plan.specs.PlainPlans.{Node, block_node, turns_node, loop_node, choice_node, Nodes, no_nodes, node_then}
use Rattle.dh_plan.specs.SeenPlans.{node_seen, nodes_seen}
use Rattle.dh_code.specs.Slots.{held_at}
use Rattle.dh_phases.specs.declared.gathering.Phase.{Phase}
use Rattle.dh_phases.specs.GatheredPhases.{AllGathered, Gathered, Header, Numbered, all_gathered, choice_phase, code_number, gathered_list, gathered_then, loop_phase, none_gathered, phase_seen, phases_seen, straight_phase, turns_phase}
use Rattle.dh_phases.specs.MatchedPhases.{MatchCommands, MatchesCommand}
use Rattle.dh_phases.proofs.PhasesMatched.{list_matches}
use Rattle.dh_expressions.specs.declared.accesses.Accesses.{Accesses}
use Rattle.dh_expressions.specs.declared.paths.Paths.{Paths}
use Rattle.dh_expressions.specs.declared.scenes.Scene.{Scene}
use Rattle.dh_expressions.specs.Evaluated.{known_in}
use Rattle.dh_expressions.specs.Levels.{count_inside, levels_inside}
use Rattle.dh_gathering.specs.declared.blocks.Made.{Made}
use Rattle.dh_gathering.specs.Growing.{MadeBlocksGrow, IsAtRest}
use Rattle.dh_gathering.specs.OpenAccesses.{AreOpen, AreUntouched, TouchesWithin}
use Rattle.dh_gathering.specs.PhasesInLoops.{TestOf}
use Rattle.dh_gathering.specs.PlacedPhases.{ArePlacedPhases}
use Rattle.dh_gathering.specs.RisingPhases.{CommandsRise, PhasesRise, behind_command, behind_test}
use Rattle.dh_gathering.specs.MadeBlocks.{IsTestBlock}
use Rattle.dh_gathering.specs.Gathered.{AreLocated, CanMake, MakesBody, MakesNodeIn, MakesNodes, MakesNodesIn, MakesStraightIn, MakesTestIn}
use Rattle.dh_gathering.proofs.AccessesOpen.{untouched_later, untouched_part, within_more, within_none, within_then}
use Rattle.dh_gathering.proofs.MadeGrows.{grows_none, grows_then}
use Rattle.dh_gathering.proofs.NodesFormed.{has_nodes}
use Rattle.dh_gathering.proofs.PhasesPlaced.{all_placed, placed_chosen, placed_first, placed_loop, placed_other, placed_rest, placed_turns}
use Rattle.dh_gathering.proofs.PhasesRise.{commands_within, phase_within, phases_rise, phases_within}
use Rattle.dh_gathering.proofs.RoundsInside.{IsLoopOf, loop_of_header, loops_more, paths_inside}
use Rattle.dh_gathering.proofs.StraightMade.{few_numbered, reach_numbered}

same : (n : ℕ) → n ≤ n
same n = omega arith

more : (n k : ℕ) → n ≤ n + k
more n k = omega arith

further : (n m k : ℕ) → n ≤ m → n ≤ m + k
further n m k h = omega (arith, h)

less : (n last most : ℕ) → n ≤ last → last < most → n < most
less n last most h l = omega (arith, h, l)

-- a number that is small enough is not cut
number_kept : (n last : ℕ) → n ≤ last → last < 2 ^ 32 → code_number n ≡ n
number_kept n last low few = min-eq_left (below (2 ^ 32 - 1) few)
  where
    below : (most : ℕ) → last < suc most → n ≤ most
    below most l = omega (arith, low, l)

-- Commands.

commands_located : (first last : ℕ) (cs : List Numbered) (ls : List Located) → last < 2 ^ 32 → MatchCommands cs ls → CommandsRise first last ls → AreLocated cs ls
commands_located first last [] [] few are rise = tt
commands_located first last [] (l ∷ ls) few are rise = absurd are
commands_located first last (c ∷ cs) [] few are rise = absurd are
commands_located first last (c ∷ cs) (l ∷ ls) few (is, are) rise =
    let high : behind_command l ≤ last = commands_within (behind_command l) last ls rise.1 in (
      record { command = is.command; first = is.first ∙ number_kept l.first last (lower l.first (accesses_of l.command) high) few; few = less (behind_command l) last (2 ^ 32) high few },
      commands_located (behind_command l) last cs ls few are rise.1,
    )
  where
    lower : (n k : ℕ) → n + k ≤ last → n ≤ last
    lower n k h = omega (arith, h)

-- a command with its first access, in front of others
abbrev OpenFrom : Accesses → (first last : ℕ) → List Numbered → ℕ → Action → Type 0
OpenFrom a first last cs n x = (first ≤ n) × (AreUntouched a n (n + accesses_of x) × AreOpen a (n + accesses_of x) last cs)

commands_open : (a : Accesses) (first last : ℕ) (cs : List Numbered) (ls : List Located) → AreLocated cs ls → CommandsRise first last ls → AreUntouched a first last → AreOpen a first last cs
commands_open a first last [] [] are rise bare = rise
commands_open a first last [] (l ∷ ls) are rise bare = absurd are
commands_open a first last (c ∷ cs) [] are rise bare = absurd are
commands_open a first last (c ∷ cs) (l ∷ ls) (is, are) rise bare =
    subst (λ (n : ℕ). OpenFrom a first last cs n c.command) (sym is.first) (subst (λ (x : Action). OpenFrom a first last cs l.first x) (sym is.command) (
      rise.0,
      (
        untouched_part a l.first (behind_command l) first last bare rise.0 (commands_within (behind_command l) last ls rise.1),
        commands_open a (behind_command l) last cs ls are rise.1 (untouched_part a (behind_command l) last first last bare (further first l.first (accesses_of l.command) rise.0) (same last)),
      ),
    ))

-- What can be made of a part, and of what stands behind it.

module _ (scene : Scene) (rounds : List Round) (paths : Paths) where
  can_front : (m : Made) (first middle last : ℕ) → middle ≤ last → CanMake scene rounds paths m first last → CanMake scene rounds paths m first middle
  can_front m first middle last high h = record { inside = h.inside; rest = h.rest; few = less middle last (2 ^ 32) high h.few; bare = untouched_part m.building.accesses first middle first last h.bare (same first) high }

  can_back : (old new : Made) (first middle last : ℕ) → first ≤ middle → CanMake scene rounds paths old first last → IsAtRest new → TouchesWithin old.building.accesses new.building.accesses first middle
      → CanMake scene rounds paths new middle last
  can_back old new first middle last low h rest touches = record {
    inside = h.inside;
    rest = rest;
    few = h.few;
    bare = untouched_later old.building.accesses new.building.accesses middle last first middle (untouched_part old.building.accesses middle last first last h.bare low (same last)) touches (inr (same middle));
  }

-- what two parts touched, one behind the other
touches_both : (a b c : Accesses) (first middle last : ℕ) → first ≤ middle → middle ≤ last → TouchesWithin a b first middle → TouchesWithin b c middle last → TouchesWithin a c first last
touches_both a b c first middle last low high h k =
    within_then a b c first last (within_more a b first middle first last h (same first) high) (within_more b c middle last first last k low (same last))

-- Tests.

never : {A : Type 0} {x : A} → Some x ≡ None → ⊥
never e = cc

-- a command with a test makes the accesses of its test itself
own_of_test : (form : ActionForm) (t : tree.Term) → Some t ≡ test_of form → own_accesses form ≡ term_accesses t
own_of_test (decides test chosen other) t e = ap maybe_accesses (sym e)
own_of_test (repeats test body) t e = ap maybe_accesses (sym e)
own_of_test (lets name declared value) t e = absurd (never e)
own_of_test (lets_memory name shape shape_places value) t e = absurd (never e)
own_of_test (views name parent form) t e = absurd (never e)
own_of_test (assigns target value) t e = absurd (never e)
own_of_test (stores target value) t e = absurd (never e)
own_of_test (reduces target op value) t e = absurd (never e)
own_of_test (calls function arguments) t e = absurd (never e)
own_of_test (blocks body) t e = absurd (never e)
own_of_test (counts iterator declared low high factor body combine combine_place) t e = absurd (never e)

-- the test of a command has its block, and the rest can be made behind it
record IsTested (scene : Scene) (rounds : List Round) (paths : Paths) (old tested : Made) (l : Located) (flag block first last : ℕ) : Type 0 where
  grows : MadeBlocksGrow old tested
  touches : TouchesWithin old.building.accesses tested.building.accesses first (behind_test l)
  made : (final : Made) → MadeBlocksGrow tested final → IsTestBlock scene final rounds (core_test (known_in scene) l) flag block
  left : CanMake scene rounds paths tested (behind_test l) last

module _ (scene : Scene) (rounds : List Round) (paths : Paths) (old tested : Made) (c : Numbered) (l : Located) (t : tree.Term) (flag block first last : ℕ) (can : CanMake scene rounds paths old first last)
    (placed : TestOf (known_in scene) [] (phases_of (program_seen scene.program.now)) (loops_round rounds) l) (is : MatchesCommand c l) (test_is : Some t ≡ test_of (action_form_of l.command)) (low : first ≤ l.first) (high : behind_test l ≤ last)
    (makes : MakesTestIn scene paths old tested c.first t flag block) where
  behind_is : behind_test l ≡ l.first + term_accesses t
  behind_is = ap (λ (n : ℕ). l.first + n) (own_of_test (action_form_of l.command) t test_is)

  below : l.first + term_accesses t ≤ last
  below = subst (λ (n : ℕ). n ≤ last) behind_is high

  first_is : c.first ≡ l.first
  first_is = is.first ∙ number_kept l.first last (lower l.first (term_accesses t) below) can.few
    where
      lower : (n k : ℕ) → n + k ≤ last → n ≤ last
      lower n k h = omega (arith, h)

  test_tested : IsTested scene rounds paths old tested l flag block first last
  test_tested =
      let test = subst (λ (n : ℕ). MakesTestIn scene paths old tested n t flag block) first_is makes in
      let made = test rounds can.inside can.rest (less (l.first + term_accesses t) last (2 ^ 32) below can.few) (untouched_part old.building.accesses l.first (l.first + term_accesses t) first last can.bare low below) in
      let touches : TouchesWithin old.building.accesses tested.building.accesses first (behind_test l) =
      subst (λ (n : ℕ). TouchesWithin old.building.accesses tested.building.accesses first n) (sym behind_is)
      (within_more old.building.accesses tested.building.accesses l.first (l.first + term_accesses t) first (l.first + term_accesses t) made.touches low (same (l.first + term_accesses t))) in
      record {
        grows = made.grows;
        touches = touches;
        made = λ final after. record { tested = l; term = t; is = refl; placed = placed; term_is = sym test_is; made = made.made final after };
        left = can_back scene rounds paths old tested first (behind_test l) last (further first l.first (own_accesses (action_form_of l.command)) low) can made.rest touches;
      }

-- Nodes of phases.

module _ (scene : Scene) where
  abbrev known_here : Known
  known_here = known_in scene

  abbrev program_here : Program
  program_here = program_seen scene.program.now

  -- a straight phase
  pub straight_node : (paths : Paths) (old new : Made) (items : List Numbered) (block : ℕ) → MakesStraightIn scene paths old new items block → MakesNodeIn scene paths old new (straight_phase items) (block_node block)
  straight_node paths old new items block h rounds (turns loop count body) first last can placed are rise = absurd are
  straight_node paths old new items block h rounds (repeated loop body) first last can placed are rise = absurd are
  straight_node paths old new items block h rounds (decided choice chosen other) first last can placed are rise = absurd are
  straight_node paths old new items block h rounds (straight ls) first last can placed are rise =
      let found = commands_located first last items ls can.few are rise in
      let stands = placed.straights (loops_round rounds) ls (refl, refl) in
      let made = h rounds first last can.inside can.rest (few_numbered items ls found) (reach_numbered items ls found (can.inside.told.stores (loops_round rounds) ls stands)) (commands_open old.building.accesses first last items ls found rise can.bare) in
      record { grows = made.grows; rest = made.rest; touches = made.touches; made = λ final after. record { located = ls; are = refl; placed = stands; made = made.made ls found final after } }

  -- the turns of a loop, whose phases are made inside it
  pub turns_made : (paths within : Paths) (old new : Made) (c : Numbered) (h : Header) (count counter : ℕ) (body : AllGathered) (nodes : Nodes) → within.levels.items ≡ levels_inside paths.levels.items (Some (entity_number h.iterator.entity)) h.factor → within.count ≡ count_inside paths.count h.factor
      → counter ≡ (held_at scene.held.now (entity_number h.iterator.entity)).first → MakesNodesIn scene within old new body nodes → MakesNodeIn scene paths old new (turns_phase c (Some h) count body) (turns_node counter count nodes)
  turns_made paths within old new c h count counter body nodes levels counted is makes rounds (straight ls) first last can placed are rise = absurd are
  turns_made paths within old new c h count counter body nodes levels counted is makes rounds (repeated loop qs) first last can placed are rise = absurd are
  turns_made paths within old new c h count counter body nodes levels counted is makes rounds (decided choice ps qs) first last can placed are rise = absurd are
  turns_made paths within old new c h count counter body nodes levels counted is makes rounds (turns loop n qs) first last can placed (found, (header_is, (count_is, are))) (copies, rise) =
      record { grows = inner.grows; rest = inner.rest; touches = inner.touches; made = λ final after. (count_is ∙ sym l.count, (is ∙ ap (λ (e : ℕ). (held_at scene.held.now e).first) (sym l.iterator), inner.made final after)) }
    where
      l : IsLoopOf h n (turning_of known_here n (action_form_of loop.command))
      l = loop_of_header known_here n (action_form_of loop.command) h (sym header_is)

      inner : MakesNodes scene (rounds ++ record { loop = turning_of known_here n (action_form_of loop.command); counter = counter } ∷ []) old new first last nodes qs
      inner =
          let r : Round = record { loop = turning_of known_here n (action_form_of loop.command); counter = counter } in
          makes (rounds ++ r ∷ []) qs first last
          (record {
            inside = record {
              told = can.inside.told;
              inside = paths_inside rounds paths within r (Some (entity_number h.iterator.entity)) (ap (λ (e : ℕ). Some e) (sym l.iterator)) (subst (λ (f : ℕ). 0 < f) (sym l.factor) (copies h (sym header_is)))
                  (levels ∙ ap (λ (f : ℕ). levels_inside paths.levels.items (Some (entity_number h.iterator.entity)) f) (sym l.factor)) (counted ∙ ap (λ (f : ℕ). count_inside paths.count f) (sym l.factor)) can.inside.inside;
            };
            rest = can.rest;
            few = can.few;
            bare = can.bare;
          })
          (subst (λ (ls : List Turning). ArePlacedPhases known_here program_here ls qs) (sym (loops_more rounds r)) (placed_turns known_here program_here (loops_round rounds) loop n qs placed)) are rise

  -- a `while`
  pub loop_made : (paths : Paths) (old tested new : Made) (c : Numbered) (t : tree.Term) (flag block : ℕ) (body : AllGathered) (nodes : Nodes) → MakesTestIn scene paths old tested c.first t flag block → MakesNodesIn scene paths tested new body nodes
      → MakesNodeIn scene paths old new (loop_phase c (Some t) body) (loop_node block flag nodes)
  loop_made paths old tested new c t flag block body nodes test makes rounds (straight ls) first last can placed are rise = absurd are
  loop_made paths old tested new c t flag block body nodes test makes rounds (turns loop n qs) first last can placed are rise = absurd are
  loop_made paths old tested new c t flag block body nodes test makes rounds (decided choice ps qs) first last can placed are rise = absurd are
  loop_made paths old tested new c t flag block body nodes test makes rounds (repeated loop qs) first last can placed (found, (test_is, are)) (low, rise) =
      let high = phases_within (behind_test loop) last qs rise in
      let begun = test_tested scene rounds paths old tested c loop t flag block first last can (placed.tests (loops_round rounds) loop (inl (refl, refl))) found test_is low high test in
      let inner = makes rounds qs (behind_test loop) last begun.left (placed_loop known_here program_here (loops_round rounds) loop qs placed) are rise in
      record {
        grows = grows_then old tested new begun.grows inner.grows;
        rest = inner.rest;
        touches = touches_both old.building.accesses tested.building.accesses new.building.accesses first (behind_test loop) last (further first loop.first (own_accesses (action_form_of loop.command)) low) high begun.touches inner.touches;
        made = λ final after. (begun.made final (grows_then tested new final inner.grows after), inner.made final after);
      }

  -- an `if` whose arms are not straight
  pub choice_made : (paths : Paths) (old tested mid new : Made) (c : Numbered) (t : tree.Term) (flag block : ℕ) (chosen other : AllGathered) (one two : Nodes) → MakesTestIn scene paths old tested c.first t flag block → MakesNodesIn scene paths tested mid chosen one
      → MakesNodesIn scene paths mid new other two → MakesNodeIn scene paths old new (choice_phase c (Some t) chosen other) (choice_node block flag one two)
  choice_made paths old tested mid new c t flag block chosen other one two test makes also rounds (straight ls) first last can placed are rise = absurd are
  choice_made paths old tested mid new c t flag block chosen other one two test makes also rounds (turns loop n qs) first last can placed are rise = absurd are
  choice_made paths old tested mid new c t flag block chosen other one two test makes also rounds (repeated loop qs) first last can placed are rise = absurd are
  choice_made paths old tested mid new c t flag block chosen other one two test makes also rounds (decided choice ps qs) first last can placed (found, (test_is, (are, others))) (middle, (low, (rise, after_rise))) =
      let inner_high = phases_within (behind_test choice) middle ps rise in
      let middle_high = phases_within middle last qs after_rise in
      let high = through (behind_test choice) middle last inner_high middle_high in
      let begun = test_tested scene rounds paths old tested c choice t flag block first last can (placed.tests (loops_round rounds) choice (inl (refl, refl))) found test_is low high test in
      let first_arm = makes rounds ps (behind_test choice) middle (can_front scene rounds paths tested (behind_test choice) middle last middle_high begun.left) (placed_chosen known_here program_here (loops_round rounds) choice ps qs placed) are rise in
      let second_arm = also rounds qs middle last (can_back scene rounds paths tested mid (behind_test choice) middle last inner_high begun.left first_arm.rest first_arm.touches) (placed_other known_here program_here (loops_round rounds) choice ps qs placed) others after_rise in
      record {
        grows = grows_then old tested new begun.grows (grows_then tested mid new first_arm.grows second_arm.grows);
        rest = second_arm.rest;
        touches = touches_both old.building.accesses tested.building.accesses new.building.accesses first (behind_test choice) last (further first choice.first (own_accesses (action_form_of choice.command)) low) high begun.touches
            (touches_both tested.building.accesses mid.building.accesses new.building.accesses (behind_test choice) middle last inner_high middle_high first_arm.touches second_arm.touches);
        made = λ final after. (
          begun.made final (grows_then tested new final (grows_then tested mid new first_arm.grows second_arm.grows) after),
          (first_arm.made final (grows_then mid new final second_arm.grows after), second_arm.made final after),
        );
      }
    where
      through : (n m k : ℕ) → n ≤ m → m ≤ k → n ≤ k
      through n m k h l = omega (arith, h, l)

  -- as the code has them
  pub node_as : (paths : Paths) (old new : Made) (seen p : Gathered) (shown node : Node) → seen ≡ p → shown ≡ node → MakesNodeIn scene paths old new p node → MakesNodeIn scene paths old new seen shown
  node_as paths old new seen p shown node is are h = subst (λ (n : Node). MakesNodeIn scene paths old new seen n) (sym are) (subst (λ (g : Gathered). MakesNodeIn scene paths old new g node) (sym is) h)

  -- One behind the other.

  none_made : (paths : Paths) (m : Made) → MakesNodesIn scene paths m m none_gathered no_nodes
  none_made paths m rounds no_phases first last can placed are rise = record { grows = grows_none m; rest = can.rest; touches = within_none m.building.accesses first last; made = λ final after. tt }
  none_made paths m rounds (phase q qs) first last can placed are rise = absurd are

  nodes_then : (paths : Paths) (old mid new : Made) (p : Gathered) (ps : AllGathered) (node : Node) (nodes : Nodes) → MakesNodeIn scene paths old mid p node → MakesNodesIn scene paths mid new ps nodes
      → MakesNodesIn scene paths old new (gathered_then p ps) (node_then node nodes)
  nodes_then paths old mid new p ps node nodes one rest rounds no_phases first last can placed are rise = absurd are
  nodes_then paths old mid new p ps node nodes one rest rounds (phase q qs) first last can placed (is, are) (middle, (rises, rise)) =
      let low = phase_within first middle q rises in
      let high = phases_within middle last qs rise in
      let made = one rounds q first middle (can_front scene rounds paths old first middle last high can) (placed_first known_here program_here (loops_round rounds) q qs placed) is rises in
      let others = rest rounds qs middle last (can_back scene rounds paths old mid first middle last low can made.rest made.touches) (placed_rest known_here program_here (loops_round rounds) q qs placed) are rise in
      record {
        grows = grows_then old mid new made.grows others.grows;
        rest = others.rest;
        touches = touches_both old.building.accesses mid.building.accesses new.building.accesses first middle last low high made.touches others.touches;
        made = λ final after. (made.made final (grows_then mid new final others.grows after), others.made final after);
      }

  -- whatever is made of the phases that are left, all is made from the begin
  abbrev pub NodesLead : Paths → (all left : List Phase) → (nodes : List declared.Node) → (old now : Made) → Type 0
  NodesLead paths all left nodes old now = (new : Made) (more : List declared.Node) → MakesNodesIn scene paths now new (all_gathered (phases_seen left)) (nodes_seen more) → MakesNodesIn scene paths old new (all_gathered (phases_seen all)) (nodes_seen (nodes ++ more))

  pub nodes_begin : (paths : Paths) (m : Made) (all : List Phase) (nodes : List declared.Node) → nodes ≡ [] → NodesLead paths all all nodes m m
  nodes_begin paths m all nodes none new more h = subst (λ (ns : List declared.Node). MakesNodesIn scene paths m new (all_gathered (phases_seen all)) (nodes_seen (ns ++ more))) (sym none) h

  pub nodes_turn : (paths : Paths) (old now mid : Made) (all : List Phase) (i : ℕ) (p : Phase) (nodes pushed : List declared.Node) (node : declared.Node) → i < length all → p ≡ get_or all i p → pushed ≡ nodes ++ node ∷ []
      → MakesNodeIn scene paths now mid (phase_seen p) (node_seen node) → NodesLead paths all (drop i all) nodes old now → NodesLead paths all (drop (i + 1) all) pushed old mid
  nodes_turn paths old now mid all i p nodes pushed node within is pushed_is one h new more rest =
      subst (λ (ns : List declared.Node). MakesNodesIn scene paths old new (all_gathered (phases_seen all)) (nodes_seen ns)) (sym (ap (λ (ns : List declared.Node). ns ++ more) pushed_is ∙ append_assoc nodes (node ∷ []) more))
      (h new (node ∷ more) (subst (λ (ps : List Phase). MakesNodesIn scene paths now new (all_gathered (phases_seen ps)) (nodes_seen (node ∷ more))) (sym (at_item all i p within is))
      (nodes_then paths now mid new (phase_seen p) (all_gathered (phases_seen (drop (i + 1) all))) (node_seen node) (nodes_seen more) one rest)))

  pub nodes_end : (paths : Paths) (old new : Made) (all left : List Phase) (nodes : List declared.Node) → left ≡ [] → NodesLead paths all left nodes old new → MakesNodesIn scene paths old new (all_gathered (phases_seen all)) (nodes_seen nodes)
  nodes_end paths old new all left nodes none h =
      subst (λ (ns : List declared.Node). MakesNodesIn scene paths old new (all_gathered (phases_seen all)) (nodes_seen ns)) (append-nil nodes)
      (h new [] (subst (λ (ps : List Phase). MakesNodesIn scene paths new new (all_gathered (phases_seen ps)) no_nodes) (sym none) (none_made paths new)))

  -- a program's body
  pub body_made : (paths : Paths) (old new : Made) (ps : List Gathered) (body : Action) (nodes : Nodes) → ps ≡ gathered_list (phases nothing_around 0 body) → MakesNodesIn scene paths old new (all_gathered ps) nodes → MakesBody scene paths old new body nodes
  body_made paths old new ps body nodes are makes told levels count few body_is rest bare = (made, has_nodes scene new [] (core_phases known_here (of_list (phases nothing_around 0 body))) nodes (made.made new (grows_none new)))
    where
      made : MakesNodes scene [] old new 0 (accesses_of body) nodes (of_list (phases nothing_around 0 body))
      made =
          makes [] (of_list (phases nothing_around 0 body)) 0 (accesses_of body)
          (record { inside = record { told = told; inside = record { within = (levels, count); some = subst (λ (n : ℕ). 0 < n) (sym count) (omega arith) } }; rest = rest; few = few; bare = bare })
          (subst (λ (b : Action). ArePlacedPhases known_here program_here [] (of_list (phases nothing_around 0 b))) (sym body_is) (all_placed known_here program_here))
          (list_matches ps (phases nothing_around 0 body) are)
          (subst (λ (n : ℕ). PhasesRise 0 n (of_list (phases nothing_around 0 body))) (zero-add (accesses_of body)) (phases_rise nothing_around 0 body))
