-- Where accesses lead.
use Rattle.std.proofs.Common.{◌≡◌, ℕ, ◌<◌, Bool, if◌then◌else◌, List, [], ◌∷◌, ◌++◌, length, map, take, drop, refl, Err, Some, None, ℤ, ap, sym, ◌∙◌, subst}
use Rattle.std.specs.Prelude.{Option, unsigned_abs}
use Rattle.dh_base.specs.declared.outcomes.FaultKind.TheVariants.{OutOfRange}
use Rattle.dh_base.specs.declared.outcomes.Outcome.TheVariants.{Faulted}
use Rattle.dh_tree.specs.declared.tables.Dim.{Dim}
use Rattle.dh_tree.specs.Elements.{Spot, dims_at, banks_of, bank_of, row_of, position_of, position_in_bank, spot_of, spot_in_bank}
use Rattle.dh_tree.specs.declared.viewing.ViewMap.{ViewMap}
use Rattle.dh_meaning.specs.Effects.{Event, is_inside, is_row, faults, indices_through, read_made, spot_by_row, spot_if_inside, stop_after}
use Rattle.dh_code.specs.Passing.{SpreadsBehind, steps_of}
use Rattle.dh_value.specs.Words as words
use Rattle.dh_code.specs.declared.codes.Access.{Access}
use Rattle.dh_code.specs.declared.codes.Operand.{Operand}
use Rattle.dh_code.specs.declared.codes.Target.TheVariants.{Indices, Row, Through}
use Rattle.dh_code.specs.declared.evaluating.StepContext.{StepContext}
use Rattle.dh_code.specs.declared.evaluating.StepStop.{StepStop}
use Rattle.dh_code.specs.declared.evaluating.StepStop.TheVariants as stop
use Rattle.dh_code.specs.declared.spending.Bank.{Bank}
use Rattle.dh_code.specs.declared.spots.Spread.{Spread}
use Rattle.dh_code.specs.Banks.{HasBank, IsSpread, LiesInRow, Spreads}
use Rattle.dh_code.specs.Operated.{Sight, access_spot, index_values, operand_word, target_spot, unnumbered}
use Rattle.dh_code.specs.Scenes.{AccessLeadsTo, Spends, begun_in}
use Rattle.dh_code.specs.Spent.{HaveSpent}
use Rattle.dh_code.proofs.BanksSpent.{stop_more}

abbrev spot : (memory bank row position : ℕ) → Spot
spot memory bank row position = record { memory = memory; bank = bank; row = row; position = position }

abbrev if_so : Bool → Spot → Option Spot
if_so t s = if t then Some s else None

module _ (s : StepContext) (w : Sight) (a : Access) (ds : List Dim) (same : ds ≡ dims_at s.entries.now a.memory) (there : a.memory < length s.entries.now) where
  pub by_indices_leads : (operands : List Operand) (result : Option Spread) → a.target ≡ Indices operands → Spreads ds (index_values w operands) result → IsSpread ds result → AccessLeadsTo s w a result
  by_indices_leads operands None is h within =
      ap (λ t. target_spot (begun_in s) w a.memory t) is
      ∙ ap (λ t. if_so t (spot_of s.entries.now a.memory (map unsigned_abs (index_values w operands)))) (ap (λ x. is_inside x (index_values w operands)) (sym same) ∙ h)
  by_indices_leads operands (Some p) is h within = (
    ap (λ t. target_spot (begun_in s) w a.memory t) is
        ∙ (ap (λ t. if_so t (spot_of s.entries.now a.memory ns)) (ap (λ x. is_inside x (index_values w operands)) (sym same) ∙ h.0)
        ∙ ap Some
        (ap (λ x. spot a.memory (bank_of x ns) (row_of x ns) (position_of x ns)) (sym same)
        ∙ (ap (λ b. spot a.memory b (row_of ds ns) (position_of ds ns)) (sym h.1.0)
        ∙ (ap (λ r. spot a.memory p.bank r (position_of ds ns)) (sym h.1.1.0)
        ∙ ap (λ q. spot a.memory p.bank p.row q) (sym h.1.1.1))))),
    (there, subst (λ (x : List Dim). p.bank < banks_of x) same within.0),
  )
    where
      ns : List ℕ
      ns = map unsigned_abs (index_values w operands)

  pub by_row_leads : (bank : ℕ) (row : Operand) (z : ℤ) (result : Option Spread) → a.target ≡ Row bank row → z ≡ words.value_of (operand_word w row) → HasBank s.entries.now a.memory bank → LiesInRow ds bank z result → AccessLeadsTo s w a result
  by_row_leads bank row z None is worth has h =
      ap (λ t. target_spot (begun_in s) w a.memory t) is
      ∙ (ap (λ x. spot_by_row s.entries.now a.memory bank x) (sym worth)
      ∙ ap (λ t. if_so t (spot_in_bank s.entries.now a.memory bank (unsigned_abs z))) (ap (λ x. is_row x z) (sym same) ∙ h))
  by_row_leads bank row z (Some p) is worth has h = (
    ap (λ t. target_spot (begun_in s) w a.memory t) is
        ∙ (ap (λ x. spot_by_row s.entries.now a.memory bank x) (sym worth)
        ∙ (ap (λ t. if_so t (spot_in_bank s.entries.now a.memory bank (unsigned_abs z))) (ap (λ x. is_row x z) (sym same) ∙ h.0)
        ∙ ap Some
        (ap (λ x. spot a.memory bank (unsigned_abs z) (position_in_bank x bank (unsigned_abs z))) (sym same)
        ∙ (ap (λ b. spot a.memory b (unsigned_abs z) (position_in_bank ds bank (unsigned_abs z))) (sym h.1.0)
        ∙ (ap (λ r. spot a.memory p.bank r (position_in_bank ds bank (unsigned_abs z))) (sym h.1.1.0)
        ∙ ap (λ q. spot a.memory p.bank p.row q) (sym h.1.1.1)))))),
    (there, subst (λ (b : ℕ). b < banks_of (dims_at s.entries.now a.memory)) (sym h.1.0) has.1),
  )

module _ (s : StepContext) (w : Sight) (a : Access) (ds : List Dim) (same : ds ≡ dims_at s.entries.now a.memory) (there : a.memory < length s.entries.now) (views : List ViewMap) (n : ℕ) (operands : List Operand) (is : a.target ≡ Through views n operands) where
  abbrev passed : Option (List ℤ)
  passed = indices_through (steps_of views) (take n (index_values w operands)) (drop n (index_values w operands))

  pub by_views_leads : (result : Option Spread) → SpreadsBehind ds passed result → IsSpread ds result → AccessLeadsTo s w a result
  by_views_leads result h within = by passed refl result h within
    where
      by : (o : Option (List ℤ)) → passed ≡ o → (result : Option Spread) → SpreadsBehind ds o result → IsSpread ds result → AccessLeadsTo s w a result
      by None e None h within = ap (λ t. target_spot (begun_in s) w a.memory t) is ∙ ap (λ o. spot_if_inside s.entries.now a.memory o) e
      by None e (Some p) h within = absurd h
      by (Some zs) e None h within =
          ap (λ t. target_spot (begun_in s) w a.memory t) is
          ∙ (ap (λ o. spot_if_inside s.entries.now a.memory o) e
          ∙ ap (λ t. if_so t (spot_of s.entries.now a.memory (map unsigned_abs zs))) (ap (λ x. is_inside x zs) (sym same) ∙ h))
      by (Some zs) e (Some p) h within = (
        ap (λ t. target_spot (begun_in s) w a.memory t) is
            ∙ (ap (λ o. spot_if_inside s.entries.now a.memory o) e
            ∙ (ap (λ t. if_so t (spot_of s.entries.now a.memory ns)) (ap (λ x. is_inside x zs) (sym same) ∙ h.0)
            ∙ ap Some
            (ap (λ x. spot a.memory (bank_of x ns) (row_of x ns) (position_of x ns)) (sym same)
            ∙ (ap (λ b. spot a.memory b (row_of ds ns) (position_of ds ns)) (sym h.1.0)
            ∙ (ap (λ r. spot a.memory p.bank r (position_of ds ns)) (sym h.1.1.0)
            ∙ ap (λ q. spot a.memory p.bank p.row q) (sym h.1.1.1)))))),
        (there, subst (λ (x : List Dim). p.bank < banks_of x) same within.0),
      )
        where
          ns : List ℕ
          ns = map unsigned_abs zs

-- an access out of range is a fault
pub fault_spent : (A : Type 0) (s : StepContext) (w : Sight) (a : Access) (es : List Event) (banks after : List Bank) (x : StepStop) → x ≡ stop.At (Faulted OutOfRange a.place) → access_spot (begun_in s) w a ≡ None → HaveSpent s.entries.now es s.step banks
    → Spends {A = A} s.entries.now (es ++ read_made (unnumbered a) [] (access_spot (begun_in s) w a) ∷ []) s.step (Err x) after
fault_spent A s w a es banks after x is none h = subst (λ (y : StepStop). Spends {A = A} s.entries.now (es ++ read_made (unnumbered a) [] (access_spot (begun_in s) w a) ∷ []) s.step (Err y) after) (sym is)
    (ap (λ k. stop_after s.entries.now [] (es ++ read_made (unnumbered a) [] k ∷ [])) none
    ∙ stop_more s.entries.now [] es (faults 0 a.place [] OutOfRange ∷ []) h.clear)
