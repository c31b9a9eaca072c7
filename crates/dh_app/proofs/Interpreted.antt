-- Where an interpreter stands, in the words of the checked run.
use Rattle.std.proofs.Common.{◌≡◌, ℕ, ◌+◌, ◌<◌, List, Ok, None, sym, ap, ap₂, ◌∙◌, subst, arith}
use Rattle.dh_base.specs.declared.outcomes.Outcome.{Outcome}
use Rattle.dh_base.specs.declared.outcomes.Outcome.TheVariants.{Going}
use Rattle.dh_meaning.specs.CoreOf.{core_of}
use Rattle.dh_tree.specs.Memories.{table_of}
use Rattle.dh_tree.specs.PlainTrees.{Program}
use Rattle.dh_tree.specs.Tables.{Fits}
use Rattle.dh_data.specs.declared.reports.Ending.{Ending}
use Rattle.dh_sem.specs.Runs.{InterpreterState, StandsAs, StandsAt, StepsOn}
use Rattle.dh_app.specs.InterpretJob.{stands_after, ending_at}
use Rattle.dh_app.proofs.Standings.{steps_within, stays, states_fit}

-- its outcome and steps, and its memories
pub ending_is : (p : Program) (memories : List (List ℕ)) (n : ℕ) (r : InterpreterState) (o : Outcome) (steps : ℕ) → o ≡ r.outcome → steps ≡ r.steps → StandsAt p memories n r
    → ◌≡◌ {A = Ending} (record { outcome = o; steps = steps; clocks = None }) (ending_at (stands_after p memories n))
ending_is p memories n r o steps e f h =
    ap (λ x. ending x steps) e ∙ (ap (λ k. ending r.outcome k) f ∙ ap₂ ending h.stands.outcome h.stands.steps)
  where
    ending : Outcome → ℕ → Ending
    ending x k = record { outcome = x; steps = k; clocks = None }

pub memories_are : (p : Program) (memories : List (List ℕ)) (n : ℕ) (r : InterpreterState) → StandsAt p memories n r → r.memories ≡ (stands_after p memories n).memories
memories_are p memories n r h = h.stands.memories

pub memories_fit : (p : Program) (memories : List (List ℕ)) (n : ℕ) (r : InterpreterState) → Fits (table_of p) memories → StandsAt p memories n r → Fits (table_of p) r.memories
memories_fit p memories n r f h =
    let P : List (List ℕ) → Type 0 = λ ms. Fits (table_of p) ms in
    subst P (sym (memories_are p memories n r h)) (states_fit (core_of p) memories n f)

pub steps_below : (p : Program) (memories : List (List ℕ)) (n most : ℕ) (r : InterpreterState) → StandsAt p memories n r → n < most → r.steps < most
steps_below p memories n most r h l =
    let e = h.stands.steps in
    let k = steps_within (core_of p) memories n in
    omega (arith, e, k, l)

-- a step leads on
pub stepped : (p : Program) (memories : List (List ℕ)) (n : ℕ) (old new : InterpreterState) (o : Outcome) → StepsOn old (Ok o) new → StandsAt p memories n old → StandsAt p memories (n + 1) new
stepped p memories n old new o steps h = steps.1 p memories n h

-- and after the last one nothing changes
pub stopped : (p : Program) (memories : List (List ℕ)) (n most : ℕ) (old new : InterpreterState) (o : Outcome) → StepsOn old (Ok o) new → (o ≡ Going → ⊥) → n < most → StandsAt p memories n old → StandsAt p memories most new
stopped p memories n most old new o steps over l h =
    let at = steps.1 p memories n h in
    let e = steps.0 ∙ at.stands.outcome in
    record { tabled = at.tabled; stands = subst (λ s. StandsAs s new) (sym (stays (core_of p) memories (n + 1) most (omega (arith, l)) (λ going. over (e ∙ going)))) at.stands }
