-- Blocks that were cut out are what was put down for them, behind what was there before.
use Rattle.std.proofs.Common.{◌≡◌, ℕ, zero, suc, ◌≤◌, Bool, true, false, List, [], ◌∷◌, ◌++◌, length, drop, Some, None, refl, ap, sym, ◌∙◌, subst, append_assoc, append-nil, arith}
use Rattle.std.specs.Prelude.{slice_get}
use Rattle.std.proofs.Math.Seq.{drop-append_seam}
use Rattle.dh_base.specs.declared.outcomes.FaultKind.{FaultKind}
use Rattle.dh_base.specs.declared.places.Place.{Place}
use Rattle.dh_value.specs.declared.operators.Op.TheVariants.{Both}
use Rattle.dh_tree.specs.PlainTrees.{Term}
use Rattle.dh_meaning.specs.Phases.{Located}
use Rattle.dh_plan.specs.declared.operations.Operation.{Operation}
use Rattle.dh_plan.specs.declared.operations.OperationForm.TheVariants.{Compute, Set}
use Rattle.dh_plan.specs.PlainPlans.{PlainPlan}
use Rattle.dh_expressions.specs.declared.drafts.Draft.{Draft}
use Rattle.dh_expressions.specs.declared.scenes.Around.{Around}
use Rattle.dh_expressions.specs.declared.scenes.Scene.{Scene}
use Rattle.dh_formed.specs.WholeBlocks.{IsCut}
use Rattle.dh_commands.specs.declared.buildings.Building.{Building}
use Rattle.dh_commands.specs.LanesRun.{lane_of}
use Rattle.dh_commands.specs.MadeCommands.{MadeTests}
use Rattle.dh_laid.specs.BlockSites.{MadeEach}
use Rattle.dh_laid.specs.LaidQuiet.{BlockStandsIn}
use Rattle.dh_laid.proofs.CommandsQuiet.{commands_are_quiet, terms_are_quiet}
use Rattle.dh_gathering.specs.declared.blocks.Made.{Made}
use Rattle.dh_gathering.specs.MadeBlocks.{AddsFlag, BlockStandsAt}
use Rattle.dh_gathering.proofs.BlocksPlanned.{first_is, operations_are}
use Rattle.dh_phased.specs.DonePhases.{HasMade}

-- operations are only added
abbrev pub OnlyAdds : (old new : Draft) → Type 0
OnlyAdds old new = (more : List Operation) × (new.operations.items ≡ old.operations.items ++ more)

adds_none : (old new : Draft) → new ≡ old → OnlyAdds old new
adds_none old new same = ([], ap (λ (d : Draft). d.operations.items) same ∙ sym (append-nil old.operations.items))

pub adds_then : (a b c : Draft) → OnlyAdds a b → OnlyAdds b c → OnlyAdds a c
adds_then a b c h k = (h.0 ++ k.0, k.1 ∙ (ap (λ (os : List Operation). os ++ k.0) h.1 ∙ append_assoc a.operations.items h.0 k.0))

pub each_adds : (scene : Scene) (around : Around) (cs : List Located) (old new : Building) → BlockStandsIn scene around → MadeEach scene around cs old new → OnlyAdds old.draft new.draft
each_adds scene around [] old new stands m = adds_none old.draft new.draft (ap (λ (b : Building). b.draft) m)
each_adds scene around (c ∷ cs) old new stands (mid, (next, (m, rest))) =
    let q = commands_are_quiet scene c.command around old mid c.first next stands m in
    adds_then old.draft mid.draft new.draft (q.more, q.adds) (each_adds scene around cs mid new stands rest)

pub tests_add : (scene : Scene) (around : Around) (first : ℕ) (t : Term) (count : ℕ) (old new : Building) (next : ℕ) (tests : List ℕ) → BlockStandsIn scene around → MadeTests scene around first t count old new next tests → OnlyAdds old.draft new.draft
tests_add scene around first t zero old new next tests stands m = adds_none old.draft new.draft (ap (λ (b : Building). b.draft) m.0)
tests_add scene around first t (suc n) old new next tests stands m =
    let q = terms_are_quiet scene (lane_of around n) (m.0).values.current.items t (m.0).draft new.draft (m.0).accesses new.accesses first next m.1.1.1.0 stands (m.1.1.1.1.1.0).term in
    adds_then old.draft (m.0).draft new.draft (tests_add scene around first t n old m.0 m.1.0 m.1.1.0 stands m.1.1.1.1.0) (q.more, q.adds)

pub flag_adds : (read : Bool) (old new : Draft) (value flag : ℕ) → AddsFlag read old new value flag → OnlyAdds old new
flag_adds true old new value flag (mid, (made, (number, (computes, sets)))) =
    adds_then old mid new (record { guard = None; form = Compute Both value value } ∷ [], computes.operations) (record { guard = None; form = Set flag made } ∷ [], sets.operations)
flag_adds false old new value flag (number, sets) = (record { guard = None; form = Set flag value } ∷ [], sets.operations)

-- a list whose elements another has at their places is no longer
no_longer : (xs ys : List (FaultKind × Place)) → ((n : ℕ) (f : FaultKind × Place) → slice_get xs n ≡ Some f → slice_get ys n ≡ Some f) → length xs ≤ length ys
no_longer [] ys h = omega arith
no_longer (x ∷ xs) [] h = let e = h 0 x refl in absurd (none e)
  where
    none : None ≡ Some x → ⊥
    none e = cc
no_longer (x ∷ xs) (y ∷ ys) h = let l = no_longer xs ys (λ n f e. h (suc n) f e) in omega (arith, l)

pub made_cut : (plan : PlainPlan) (count : ℕ) (final : Made) → HasMade plan count final → (block : ℕ) (before after : Building) → BlockStandsAt final block before after → OnlyAdds before.draft after.draft → IsCut plan block before.draft after.draft
made_cut plan count final made block before after stands adds = record {
  first = first_is final plan.blocks made.blocks block before after stands;
  operations =
      adds.1
      ∙ ap (λ (os : List Operation). before.draft.operations.items ++ os)
      (sym (operations_are final plan.blocks made.blocks block before after stands ∙ (ap (λ (os : List Operation). drop (length before.draft.operations.items) os) adds.1 ∙ drop-append_seam before.draft.operations.items adds.0)));
  faults = subst (λ (fs : List (FaultKind × Place)). length after.draft.faults ≤ length fs) (sym made.faults) (no_longer after.draft.faults final.building.draft.faults stands.kept.faults);
  few = made.few;
}
