-- Of the users of one port one at most acts in a step.
-- Two that act lead into the bank of the port. Of one port the binding gives two operations a share only where their
-- accesses never meet, and then not both reach the bank, or where they are of one access with one place there, and
-- then they are one operation.
use Rattle.std.proofs.Common.{◌≡◌, ℕ, inl, inr, Some, None, Bool, true, false, if◌then◌else◌, List, refl, sym, ap, subst, ◌∙◌, unsigned_abs, ℤ}
use Rattle.std.specs.Prelude.{Option}
use Rattle.dh_tree.specs.Elements.{Spot, dims_at, spot_in_bank}
use Rattle.dh_tree.specs.declared.tables.MemEntry.{MemEntry}
use Rattle.dh_value.specs.declared.words.Word.{Word}
use Rattle.dh_value.specs.Words.{value_of}
use Rattle.dh_meaning.specs.Effects.{is_row, spot_by_row}
use Rattle.dh_net.specs.declared.ports.Port.{Port}
use Rattle.dh_plan.specs.declared.operations.Operation.{Operation}
use Rattle.dh_plan.specs.declared.operations.OperationForm.{OperationForm}
use Rattle.dh_plan.specs.declared.operations.OperationForm.TheVariants.{Constant, Old, Compute, Convert, Select, Check, Probe, Read, Write, Set}
use Rattle.dh_plan.specs.declared.operations.Reach.{Reach}
use Rattle.dh_plan.specs.Blocks.{StepStart, bank_picked, word_at, spot_in_row}
use Rattle.dh_plan.specs.BoundPorts.{Uses, BothList, port_used}
use Rattle.dh_plan.specs.PlainPlans.{PlainPlan, first_in}
use Rattle.dh_plan.specs.PlanRuns.{start_at, block_values}
use Rattle.dh_plan.specs.SoundPlans.{HasUse, IsListed, use_in, FormAddressed, Reaches, InOneBank}
use Rattle.dh_lower.specs.ShownWords.{port_bound}
use Rattle.dh_lower.specs.PortUsers.{User, HasUser}
use Rattle.dh_lower.specs.StepFacts.{HasPortUsers, StepIsKept, Acts}
use Rattle.dh_lower.proofs.BoundPortFacts.{IsBound, bound_port, one_bank}

-- an access of a plan that is addressed is of a row of a bank
pub row_of_form : (f : OperationForm) (r : Reach) → use_in f ≡ Some r → FormAddressed f → (row : ℕ) × (r.row ≡ Some row)
row_of_form (Constant word) r e h = absurd (cc)
row_of_form (Old register) r e h = absurd (cc)
row_of_form (Compute op left right) r e h = absurd (cc)
row_of_form (Convert inner to) r e h = absurd (cc)
row_of_form (Select test a b) r e h = absurd (cc)
row_of_form (Check ok fault) r e h = absurd (cc)
row_of_form (Probe x fault) r e h = absurd (cc)
row_of_form (Read x) r e h = let same : x ≡ r = cc in (h.0, sym (ap (λ (y : Reach). y.row) same) ∙ h.1)
row_of_form (Write x value) r e h = let same : x ≡ r = cc in (h.0, sym (ap (λ (y : Reach). y.row) same) ∙ h.1)
row_of_form (Set register value) r e h = absurd (cc)

-- where a row of a bank leads, if it is one
pub record LeadsToRow (table : List MemEntry) (memory bank : ℕ) (z : ℤ) (spot : Spot) : Type 0 where
  pub is_one : is_row (dims_at table memory) z ≡ true
  pub spot_is : spot_in_bank table memory bank (unsigned_abs z) ≡ spot

pub leads_to_row : (table : List MemEntry) (memory bank : ℕ) (z : ℤ) (spot : Spot) → spot_by_row table memory bank z ≡ Some spot → LeadsToRow table memory bank z spot
leads_to_row table memory bank z spot = by (is_row (dims_at table memory) z) refl
  where
    by : (t : Bool) → is_row (dims_at table memory) z ≡ t → (if t then Some (spot_in_bank table memory bank (unsigned_abs z)) else None) ≡ Some spot → LeadsToRow table memory bank z spot
    by true e h = record { is_one = e; spot_is = cc }
    by false e h = absurd (cc)

module _ (plan : PlainPlan) (u : Uses) (users : (port : ℕ) → List User) (has : HasPortUsers plan u users) (registers : List ℕ) (memories : List (List ℕ)) (blocks : List ℕ)
    (kept : StepIsKept plan registers memories blocks) where
  abbrev start : StepStart
  start = start_at plan registers memories

  abbrev meant : (block : ℕ) → List Word
  meant block = block_values plan start block

  -- the element that a user which acts leads to
  pub record LeadsTo (v : User) (o : Operation) (r : Reach) (spot : Spot) : Type 0 where
    pub reaches : Reaches plan start blocks v.block v.place r spot
    pub row : ℕ
    pub row_is : r.row ≡ Some row
    pub to_row : LeadsToRow plan.table r.memory v.bank (value_of (word_at (first_in plan v.block) (meant v.block) row)) spot

  pub acts_lead : (v : User) (o : Operation) (r : Reach) → Acts plan registers memories blocks v o r → (spot : Spot) × LeadsTo v o r spot
  acts_lead v o r a =
      let range = kept.inside v.block v.place r o a.active a.there a.uses a.on in
      let row = row_of_form o.form r a.uses (has.addressed.forms v.block v.place o a.there) in
      let first = first_in plan v.block in
      let vs = meant v.block in
      let leads : spot_by_row plan.table r.memory (bank_picked first vs r.banks r.select) (value_of (word_at first vs row.0)) ≡ Some range.spot
      = sym (ap (λ (x : Option ℕ). spot_in_row start first vs r x) row.1) ∙ range.leads in
      let picked : spot_by_row plan.table r.memory v.bank (value_of (word_at first vs row.0)) ≡ Some range.spot
      = sym (ap (λ (b : ℕ). spot_by_row plan.table r.memory b (value_of (word_at first vs row.0))) a.picks) ∙ leads in (
        range.spot,
        record {
          reaches = record { active = a.active; operation = o; there = a.there; uses = a.uses; on = a.on; leads = range.leads };
          row = row.0;
          row_is = row.1;
          to_row = leads_to_row plan.table r.memory v.bank (value_of (word_at first vs row.0)) range.spot picked;
        },
      )

  pub has_use : (v : User) (o : Operation) (r : Reach) → Acts plan registers memories blocks v o r → HasUse plan v.block v.place r
  has_use v o r a = record { operation = o; there = a.there; uses = a.uses }

  -- it lists its bank
  pub lists : (v : User) (o : Operation) (r : Reach) → (a : Acts plan registers memories blocks v o r) → (place : ℕ) × IsListed v.bank place r.banks
  lists v o r a =
      let lead = acts_lead v o r a in
      let found = kept.banks.listed v.block v.place r lead.0 lead.1.reaches in
      let bank : v.bank ≡ lead.0.bank = ap (λ (s : Spot). s.bank) lead.1.to_row.spot_is in
      (found.0, subst (λ (n : ℕ). IsListed n found.0 r.banks) (sym bank) found.1)

  same_user : (v w : User) → v.block ≡ w.block → v.place ≡ w.place → v.bank ≡ w.bank → v ≡ w
  same_user v w a b c = λ i. record { block = a i; place = b i; bank = c i }

  module _ (v w : User) (o p : Operation) (r s : Reach) (a : Acts plan registers memories blocks v o r) (b : Acts plan registers memories blocks w p s)
      (one : port_bound plan u v.block v.place v.bank r ≡ port_bound plan u w.block w.place w.bank s) where
    first_lead : (spot : Spot) × LeadsTo v o r spot
    first_lead = acts_lead v o r a

    second_lead : (spot : Spot) × LeadsTo w p s spot
    second_lead = acts_lead w p s b

    first_list : (place : ℕ) × IsListed v.bank place r.banks
    first_list = lists v o r a

    second_list : (place : ℕ) × IsListed w.bank place s.banks
    second_list = lists w p s b

    first_port : (q : Port) × IsBound plan u v.block v.place v.bank r q
    first_port = bound_port plan u has.formed has.ports v.block v.place v.bank first_list.0 r (has_use v o r a) first_list.1

    second_port : (q : Port) × IsBound plan u w.block w.place w.bank s q
    second_port = bound_port plan u has.formed has.ports w.block w.place w.bank second_list.0 s (has_use w p s b) second_list.1

    same_port : first_port.0 ≡ second_port.0
    same_port = one_bank plan u v.block v.place w.block w.place v.bank w.bank r s first_port.0 second_port.0 first_port.1 second_port.1 one

    same_memory : r.memory ≡ s.memory
    same_memory = sym first_port.1.memory ∙ (ap (λ (q : Port). q.memory) same_port ∙ second_port.1.memory)

    same_bank : v.bank ≡ w.bank
    same_bank = sym first_port.1.bank_is ∙ (ap (λ (q : Port). q.bank) same_port ∙ second_port.1.bank_is)

    in_one_bank : InOneBank first_lead.0 second_lead.0
    in_one_bank = record {
      memory = sym (ap (λ (x : Spot). x.memory) first_lead.1.to_row.spot_is) ∙ (same_memory ∙ ap (λ (x : Spot). x.memory) second_lead.1.to_row.spot_is);
      bank = sym (ap (λ (x : Spot). x.bank) first_lead.1.to_row.spot_is) ∙ (same_bank ∙ ap (λ (x : Spot). x.bank) second_lead.1.to_row.spot_is);
    }

    both_list : BothList plan v.block v.place w.block w.place v.bank first_list.0 second_list.0 r s
    both_list = record {
      first = has_use v o r a;
      second = has_use w p s b;
      memory = same_memory;
      in_first = first_list.1;
      in_second = subst (λ (n : ℕ). IsListed n second_list.0 s.banks) (sym same_bank) second_list.1;
    }

    second_used : port_used plan u w.block w.place v.bank ≡ Some first_port.0.port
    second_used = ap (λ (n : ℕ). port_used plan u w.block w.place n) same_bank ∙ (second_port.1.used ∙ ap (λ (q : Port). Some q.port) (sym same_port))

    reached_bank : v.bank ≡ first_lead.0.bank
    reached_bank = ap (λ (x : Spot). x.bank) first_lead.1.to_row.spot_is

    pub one_acts : v ≡ w
    one_acts =
        elim (has.ports.shared v.block v.place w.block w.place v.bank first_list.0 second_list.0 first_port.0.port r s both_list first_port.1.used second_used) [
          | inl apart ↦ absurd (kept.banks.never v.block v.place w.block w.place r s first_lead.0 second_lead.0 first_lead.1.reaches second_lead.1.reaches apart)
          | inr both ↦
              let in_first : IsListed first_lead.0.bank first_list.0 r.banks = subst (λ (n : ℕ). IsListed n first_list.0 r.banks) reached_bank first_list.1 in
              let second_at : IsListed v.bank second_list.0 s.banks = both_list.in_second in
              let in_second : IsListed first_lead.0.bank first_list.0 s.banks
              = subst (λ (n : ℕ). IsListed n first_list.0 s.banks) reached_bank (subst (λ (n : ℕ). IsListed v.bank n s.banks) (sym both.1) second_at) in
              let same = kept.banks.placed v.block v.place w.block w.place first_list.0 r s first_lead.0 second_lead.0 first_lead.1.reaches second_lead.1.reaches both.0 in_one_bank in_first in_second in
              same_user v w same.0 same.1 same_bank
        ]

  -- two users of one port
  pub some_same : {A : Type 0} (x y : A) → Some x ≡ Some y → x ≡ y
  some_same x y e = cc

  pub own_reach : (port : ℕ) (v : User) (o : Operation) (r : Reach) → HasUser v (users port) → Acts plan registers memories blocks v o r
      → port_bound plan u v.block v.place v.bank r ≡ port
  own_reach port v o r user a =
      let own = has.laid.own port v user in
      let same_operation : own.1.0.operation ≡ o = some_same own.1.0.operation o (sym own.1.0.there ∙ a.there) in
      let same_reach : own.0 ≡ r = some_same own.0 r (sym own.1.0.uses ∙ (ap (λ (x : Operation). use_in x.form) same_operation ∙ a.uses)) in
      sym (ap (λ (x : Reach). port_bound plan u v.block v.place v.bank x) same_reach) ∙ own.1.1.1.1

  pub one_user_acts : (port : ℕ) (v w : User) (o p : Operation) (r s : Reach) → HasUser v (users port) → HasUser w (users port)
      → Acts plan registers memories blocks v o r → Acts plan registers memories blocks w p s → v ≡ w
  one_user_acts port v w o p r s x y a b = one_acts v w o p r s a b (own_reach port v o r x a ∙ sym (own_reach port w p s y b))
