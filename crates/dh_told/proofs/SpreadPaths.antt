-- What stands round a made block: as many paths as the loops round it have, which are few; and what is put down behind its
-- commands or its test uses no bank.
use Rattle.std.proofs.Common.{ℕ, ◌<◌, ◌≤◌, ◌^◌, Bool, true, false, List, [], ◌∷◌, ◌++◌, length, Option, Some, None, refl, ap, sym, ◌∙◌, subst, arith}
use Rattle.std.specs.Prelude.{slice_set}
use Rattle.std.proofs.lemmas.List.{length-replicate}
use Rattle.dh_meaning.specs.Paths.{copies_in}
use Rattle.dh_sound.specs.Blocks.{factors}
use Rattle.dh_plan.specs.Correspondence.{Round, loops_round}
use Rattle.dh_plan.specs.PlainPlans.{PlainPlan}
use Rattle.dh_expressions.specs.declared.scenes.Around.{Around}
use Rattle.dh_expressions.specs.declared.scenes.Scene.{Scene}
use Rattle.dh_commands.specs.declared.assignments.Change.{Change}
use Rattle.dh_commands.specs.Undone.{given_at}
use Rattle.dh_laid.specs.LaidQuiet.{BlockStandsIn}
use Rattle.dh_blocks.specs.BlockMade.{IsTop, set_made, sets_made}
use Rattle.dh_blocks.specs.SlotsOfScene.{HoldsVariables}
use Rattle.dh_blocks.specs.TestMade.{flag_made}
use Rattle.dh_blocks.proofs.VariablesPlaced.{are_placed}
use Rattle.dh_gathering.specs.MadeBlocks.{IsRoundBlock}
use Rattle.dh_phased.proofs.RoundsTop.{rounds_are_top}
use Rattle.dh_reached.specs.ReachedBlocks.{AreUnused, StandsSpread}
use Rattle.dh_told.proofs.CopiesOfPhases.{FewRound}

pub stands_spread : (scene : Scene) (count : ℕ) (plan : PlainPlan) → HoldsVariables scene plan count → (rounds : List Round) (around : Around) → IsRoundBlock rounds around → BlockStandsIn scene around → FewRound (loops_round rounds) → StandsSpread scene around
stands_spread scene count plan holds rounds around round stands few = record {
  stands = stands;
  spread = top.spread;
  counted = top.counted;
  some = subst (λ (n : ℕ). 0 < n) (sym (ap (λ (gs : List (Option ℕ)). length gs) round.guards ∙ length-replicate round.paths None)) round.levels.some;
  few = subst (λ (n : ℕ). n < 2 ^ 32) (sym (top.counted ∙ ap (λ (fs : List ℕ). copies_in fs) top.factors_are)) (small (copies_in (factors (loops_round rounds))) few);
  placed = are_placed scene around count holds.placing holds.small top.spread top.counted;
}
  where
    top : IsTop rounds around
    top = rounds_are_top scene rounds around round stands

    small : (n : ℕ) → n ≤ 256 → n < 2 ^ 32
    small n l = omega (arith, l)

pub sets_unused : (cs : List Change) (current : List (Option ℕ)) → AreUnused (sets_made cs current)
sets_unused [] current = tt
sets_unused (c ∷ cs) current = one (given_at current c.register) (sets_unused cs (slice_set current c.register None))
  where
    one : (o : Option ℕ) → AreUnused (sets_made cs (slice_set current c.register None)) → AreUnused (set_made c.register o ++ sets_made cs (slice_set current c.register None))
    one None h = h
    one (Some value) h = (refl, h)

pub flag_unused : (reads : Bool) (flag value next : ℕ) → AreUnused (flag_made reads flag value next)
flag_unused true flag value next = (refl, (refl, tt))
flag_unused false flag value next = (refl, tt)
