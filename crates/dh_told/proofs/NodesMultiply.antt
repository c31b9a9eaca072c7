-- The blocks that were made multiply no more often than their phases, at each path.
use Rattle.std.proofs.Common.{◌≡◌, ◌+◌, ◌*◌, ◌≤◌, ℕ, List, [], ◌∷◌, ◌++◌, drop, length, refl, ap, sym, ◌∙◌, subst, arith, append_assoc}
use Rattle.std.specs.Prelude.{Bool as Truth, true, false}
use Rattle.std.specs.List.{AllByRecursion}
use Rattle.dh_tree.specs.PlainTrees.{Program}
use Rattle.dh_tree.specs.Seen.{program_seen}
use Rattle.dh_meaning.specs.Core.{CoreCommands, CoreTerm}
use Rattle.dh_meaning.specs.CoreOf.{core_of, core_term, core_test_of}
use Rattle.dh_meaning.specs.Phases.{Located, phases_of}
use Rattle.dh_meaning.specs.Paths.{copies_in}
use Rattle.dh_code.proofs.PathsInOrder.{length_paths}
use Rattle.dh_plan.specs.declared.operations.Operation.{Operation}
use Rattle.dh_plan.specs.Correspondence.{Round, paths_of_rounds, loops_round}
use Rattle.dh_plan.specs.DoneProgram.{block_products, commands_products, has_products, term_products}
use Rattle.dh_plan.specs.PlainPlans.{PlainPlan, operations_in}
use Rattle.dh_expressions.specs.declared.drafts.Draft.{Draft}
use Rattle.dh_expressions.specs.declared.scenes.Around.{Around}
use Rattle.dh_expressions.specs.declared.scenes.Scene.{Scene}
use Rattle.dh_expressions.specs.Evaluated.{known_in}
use Rattle.dh_expressions.specs.Shown.{is_read_term}
use Rattle.dh_commands.specs.LanesRun.{paths_counted}
use Rattle.dh_sound.specs.Straight.{IsKeptAction}
use Rattle.dh_laid.specs.LaidProducts.{AddsProducts, products_in}
use Rattle.dh_laid.specs.LaidQuiet.{BlockStandsIn}
use Rattle.dh_laid.proofs.ProductsOfCore.{terms_multiply}
use Rattle.dh_blocks.proofs.RoundsTurned.{rounds_paths}
use Rattle.dh_gathering.specs.declared.blocks.Made.{Made}
use Rattle.dh_gathering.specs.MadeBlocks.{AddsFlag, IsRoundBlock, IsStraightBlock, IsTestBlock, made_tie}
use Rattle.dh_gathering.specs.PushedSets.{settings}
use Rattle.dh_gathering.proofs.BlocksPlanned.{operations_are}
use Rattle.dh_phased.proofs.RoundsTop.{rounds_are_top}
use Rattle.dh_used.specs.MadePlans.{IsMadeOf}
use Rattle.dh_used.proofs.NodesMade.{body_named, nodes_so, straight_named, straight_there}
use Rattle.dh_used.proofs.PlansUsed.{all_named}
use Rattle.dh_told.specs.MultipliedPlans.{MadePlansMultiply}
use Rattle.dh_told.proofs.StraightsMultiply.{each_multiply, each_products, each_reaching}
use Rattle.dh_laid.proofs.CommandsMultiply.{products_append, tests_products_added}

-- What stands behind the operations of commands multiplies nothing.

sets_products : (ss : List (ℕ × ℕ)) → block_products (settings ss) ≡ 0
sets_products [] = refl
sets_products (s ∷ ss) = sets_products ss

flag_products : (read : Truth) (old new : Draft) (value flag : ℕ) → AddsFlag read old new value flag → AddsProducts old new 0
flag_products true old new value flag (mid, (made, (number, (both, set)))) =
    by _ _ both.operations set.operations refl refl
  where
    least : (n : ℕ) → n ≡ 0 → n ≤ 0
    least n e = omega (arith, e)

    by : (x y : Operation) → mid.operations.items ≡ old.operations.items ++ x ∷ [] → new.operations.items ≡ mid.operations.items ++ y ∷ [] → block_products (x ∷ []) ≡ 0 → block_products (y ∷ []) ≡ 0 → AddsProducts old new 0
    by x y one two none none' = record {
      more = x ∷ (y ∷ []);
      adds = two ∙ (ap (λ (os : List Operation). os ++ y ∷ []) one ∙ append_assoc old.operations.items (x ∷ []) (y ∷ []));
      few = let e = products_append (x ∷ []) (y ∷ []) in let both : block_products (x ∷ []) + block_products (y ∷ []) ≡ 0 = omega (arith, none, none') in least (block_products (x ∷ (y ∷ []))) (e ∙ both);
    }
flag_products false old new value flag (number, set) = record { more = _ ∷ []; adds = set.operations; few = omega arith }

-- what was added behind a draft, and operations behind that which multiply nothing
added_within : (old new end : Draft) (most : ℕ) → AddsProducts old new most → AddsProducts new end 0 → block_products (drop (length old.operations.items) end.operations.items) ≤ most
added_within old new end most h k =
    subst (λ (os : List Operation). block_products os ≤ most) (sym (ap (λ (os : List Operation). drop (length old.operations.items) os) all ∙ drop_front old.operations.items (h.more ++ k.more)))
    (let e = products_append h.more k.more in let l = h.few in let r = k.few in within (block_products (h.more ++ k.more)) (block_products h.more) (block_products k.more) e l r)
  where
    all : end.operations.items ≡ old.operations.items ++ (h.more ++ k.more)
    all = k.adds ∙ (ap (λ (os : List Operation). os ++ k.more) h.adds ∙ append_assoc old.operations.items h.more k.more)

    drop_front : (xs ys : List Operation) → drop (length xs) (xs ++ ys) ≡ ys
    drop_front [] ys = refl
    drop_front (x ∷ xs) ys = drop_front xs ys

    within : (all a b : ℕ) → all ≡ a + b → a ≤ most → b ≤ 0 → all ≤ most
    within all a b e l r = omega (arith, e, l, r)

-- Blocks.

module _ (scene : Scene) (final : Made) (plan : PlainPlan) (is : IsMadeOf scene final plan) where
  abbrev p : Program
  p = program_seen scene.program.now

  -- as many paths as are inside the loops round a block
  paths_long : (rounds : List Round) (around : Around) → IsRoundBlock rounds around → BlockStandsIn scene around → paths_counted around ≡ length (paths_of_rounds rounds)
  paths_long rounds around round stands =
      let top = rounds_are_top scene rounds around round stands in
      top.counted ∙ (ap copies_in top.factors_are ∙ sym (ap length (rounds_paths rounds) ∙ length_paths _))

  straight_multiplies : (rounds : List Round) (cs : CoreCommands) (block : ℕ) → IsStraightBlock scene final rounds cs block → block_products (operations_in plan block) ≤ commands_products cs * length (paths_of_rounds rounds)
  straight_multiplies rounds cs block b =
      subst (λ (os : List Operation). block_products os ≤ commands_products cs * length (paths_of_rounds rounds)) (sym own)
      (subst (λ (n : ℕ). block_products (drop (length b.made.before.draft.operations.items) b.made.after.draft.operations.items) ≤ n) same
      (added_within b.made.before.draft b.made.between.draft b.made.after.draft (each_products (known_in scene) b.located * paths_counted b.made.around)
      (each_multiply scene b.made.around b.located b.made.before b.made.between b.made.stands_in b.made.made)
      (record { more = settings b.made.sets.sets; adds = b.made.sets.operations; few = least (block_products (settings b.made.sets.sets)) (sets_products b.made.sets.sets) })))
    where
      least : (n : ℕ) → n ≡ 0 → n ≤ 0
      least n e = omega (arith, e)

      own : operations_in plan block ≡ drop (length b.made.before.draft.operations.items) b.made.after.draft.operations.items
      own = operations_are final plan.blocks is.blocks block b.made.before b.made.after b.made.stands

      named : AllByRecursion (λ (c : Located). IsKeptAction (known_in scene) c.command) b.located
      named = all_named (known_in scene) b.located (straight_named (known_in scene) (phases_of p) b.located (body_named scene final plan is) (straight_there (known_in scene) [] (phases_of p) (loops_round rounds) b.located b.placed))

      same : each_products (known_in scene) b.located * paths_counted b.made.around ≡ commands_products cs * length (paths_of_rounds rounds)
      same =
          ap (λ (n : ℕ). n * paths_counted b.made.around) (sym (ap commands_products b.are ∙ each_reaching (known_in scene) b.located named))
          ∙ ap (λ (n : ℕ). commands_products cs * n) (paths_long rounds b.made.around b.made.round b.made.stands_in)

  test_multiplies : (rounds : List Round) (test : CoreTerm) (flag block : ℕ) → IsTestBlock scene final rounds test flag block → block_products (operations_in plan block) ≤ term_products test * length (paths_of_rounds rounds)
  test_multiplies rounds test flag block b =
      subst (λ (os : List Operation). block_products os ≤ term_products test * length (paths_of_rounds rounds)) (sym own)
      (subst (λ (n : ℕ). block_products (drop (length b.made.before.draft.operations.items) b.made.after.draft.operations.items) ≤ n) same
      (added_within b.made.before.draft b.made.between.draft b.made.after.draft (products_in b.term * paths_counted b.made.around)
      (tests_products_added scene b.made.around b.made.stands_in b.tested.first b.term (paths_counted b.made.around) b.made.before b.made.between b.made.next b.made.tests b.made.made)
      (flag_products (is_read_term b.term) b.made.between.draft b.made.after.draft b.made.value flag b.made.adds)))
    where
      own : operations_in plan block ≡ drop (length b.made.before.draft.operations.items) b.made.after.draft.operations.items
      own = operations_are final plan.blocks is.blocks block b.made.before b.made.after b.made.stands

      term_is : test ≡ core_term (known_in scene) b.tested.first b.term
      term_is = b.is ∙ ap (λ o. core_test_of (known_in scene) b.tested.first o) b.term_is

      same : products_in b.term * paths_counted b.made.around ≡ term_products test * length (paths_of_rounds rounds)
      same =
          ap (λ (n : ℕ). n * paths_counted b.made.around) (sym (ap term_products term_is ∙ terms_multiply (known_in scene) b.tested.first b.term))
          ∙ ap (λ (n : ℕ). term_products test * n) (paths_long rounds b.made.around b.made.round b.made.stands_in)

pub made_plans_multiply : MadePlansMultiply
made_plans_multiply scene final plan is =
    nodes_so (made_tie scene final) (has_products plan) (λ rounds cs block h. straight_multiplies scene final plan is rounds cs block h) (λ rounds test flag block h. test_multiplies scene final plan is rounds test flag block h)
    (λ rounds loop counter h. tt) [] (core_of (program_seen scene.program.now)).phases plan.body is.nodes
