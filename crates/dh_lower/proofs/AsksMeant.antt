-- A user that asks for its port acts in the step, by what its block means.
-- What its operation takes is there at its clock, and so is shown as it is meant: the guard holds, and the bank that
-- is picked is the user's. And the other way round, a read whose clock this is asks, where it acts.
use Rattle.std.proofs.Common.{◌≡◌, ℕ, ◌≤◌, inl, inr, Some, None, Bool, true, false, List, refl, sym, ap, ◌∙◌, arith}
use Rattle.std.specs.Prelude.{[], ◌∷◌, Option, slice_get, slice_index, ◌==◌, ◌&&◌, ◌||◌}
use Rattle.std.proofs.lemmas.Bool.{eqb-true, eq-eqb}
use Rattle.dh_value.specs.declared.words.Word.{Word}
use Rattle.dh_plan.specs.declared.operations.Operation.{Operation}
use Rattle.dh_plan.specs.declared.operations.OperationForm.{OperationForm}
use Rattle.dh_plan.specs.declared.operations.OperationForm.TheVariants.{Constant, Old, Compute, Convert, Select, Check, Probe, Read, Write, Set}
use Rattle.dh_plan.specs.declared.operations.Reach.{Reach}
use Rattle.dh_plan.specs.Blocks.{is_on, bank_picked}
use Rattle.dh_plan.specs.BlockLaws.{SameAt, SameAtAll}
use Rattle.dh_plan.specs.BoundPorts.{Uses}
use Rattle.dh_plan.specs.LegalSchedules.{Timing, clocks_in}
use Rattle.dh_plan.specs.Ordered.{one_or_none, offsets_taken, reach_takes, form_takes, operation_takes}
use Rattle.dh_plan.specs.PlainPlans.{PlainPlan, first_in, operations_in}
use Rattle.dh_plan.specs.PlanRuns.{start_at, block_values}
use Rattle.dh_plan.specs.SoundPlans.{use_in, IsOneOf}
use Rattle.dh_plan.proofs.ValuesAlike.{all_left, all_right, bank_same, guard_same}
use Rattle.dh_lower.specs.PortUsers.{User, Moment, is_among, form_asks, operation_asks, user_asks}
use Rattle.dh_lower.specs.StepFacts.{Acts, IsMoment, AsksMeans}
use Rattle.dh_lower.proofs.ValuesShown.{takes_same}

pub both : (a b : Bool) → (a && b) ≡ true → (a ≡ true) × (b ≡ true)
both true b e = (refl, e)
both false b e = absurd (cc)

pub all_both : (a b : Bool) → a ≡ true → b ≡ true → (a && b) ≡ true
all_both true b e f = f
all_both false b e f = absurd (cc)

pub among_is : (b : ℕ) (bs : List ℕ) → is_among b bs ≡ true → IsOneOf b bs
among_is b [] e = absurd (cc)
among_is b (c ∷ bs) e = by (b == c) refl e (among_is b bs)
  where
    by : (t : Bool) → (b == c) ≡ t → (t || is_among b bs) ≡ true → (is_among b bs ≡ true → IsOneOf b bs) → IsOneOf b (c ∷ bs)
    by true h e rest = inl (eqb-true b c h)
    by false h e rest = inr (rest e)

pub is_among_all : (b : ℕ) (bs : List ℕ) → IsOneOf b bs → is_among b bs ≡ true
is_among_all b [] h = elim h [ ]
is_among_all b (c ∷ bs) h = elim h [
  | inl here ↦ ap (λ (t : Bool). t || is_among b bs) (eq-eqb b c here)
  | inr later ↦ or_true (b == c) (is_among b bs) (is_among_all b bs later)
]
  where
    or_true : (t u : Bool) → u ≡ true → (t || u) ≡ true
    or_true true u e = refl
    or_true false u e = e

-- what an access takes to pick its bank
picks_same : (first : ℕ) (us vs : List Word) (r : Reach) → SameAtAll first us vs (reach_takes r) → bank_picked first us r.banks r.select ≡ bank_picked first vs r.banks r.select
picks_same first us vs r h =
    let P = SameAt first us vs in
    let last = all_right P (offsets_taken r.steps) _ (all_right P r.indices _ h) in
    bank_same first us vs r.banks r.select (all_left P (one_or_none r.select) _ last)

-- what a form that asks is: an access, that picks the bank
record FormMeans (first : ℕ) (vs : List Word) (bank : ℕ) (f : OperationForm) : Type 0 where
  pub reach : Reach
  pub uses : use_in f ≡ Some reach
  pub picks : bank_picked first vs reach.banks reach.select ≡ bank

-- when it asks, its clock has come
form_time : (first : ℕ) (us : List Word) (bank own : ℕ) (m : Moment) → (m.commits ≡ true → own ≤ m.clock) → (f : OperationForm) → form_asks first us bank own m f ≡ true → own ≤ m.clock
form_time first us bank own m last (Constant word) e = absurd (cc)
form_time first us bank own m last (Old register) e = absurd (cc)
form_time first us bank own m last (Compute op left right) e = absurd (cc)
form_time first us bank own m last (Convert inner to) e = absurd (cc)
form_time first us bank own m last (Select test a b) e = absurd (cc)
form_time first us bank own m last (Check ok fault) e = absurd (cc)
form_time first us bank own m last (Probe r fault) e = absurd (cc)
form_time first us bank own m last (Read r) e = let same = eqb-true own m.clock (both (own == m.clock) _ e).0 in omega (arith, same)
form_time first us bank own m last (Write r value) e = last (both m.commits _ e).0
form_time first us bank own m last (Set register value) e = absurd (cc)

form_means : (first : ℕ) (us vs : List Word) (bank own : ℕ) (m : Moment) (f : OperationForm) → SameAtAll first us vs (form_takes f) → form_asks first us bank own m f ≡ true → FormMeans first vs bank f
form_means first us vs bank own m (Constant word) h e = absurd (cc)
form_means first us vs bank own m (Old register) h e = absurd (cc)
form_means first us vs bank own m (Compute op left right) h e = absurd (cc)
form_means first us vs bank own m (Convert inner to) h e = absurd (cc)
form_means first us vs bank own m (Select test a b) h e = absurd (cc)
form_means first us vs bank own m (Check ok fault) h e = absurd (cc)
form_means first us vs bank own m (Probe r fault) h e = absurd (cc)
form_means first us vs bank own m (Read r) h e =
    record { reach = r; uses = refl; picks = sym (picks_same first us vs r h) ∙ eqb-true (bank_picked first us r.banks r.select) bank (both (own == m.clock) _ e).1 }
form_means first us vs bank own m (Write r value) h e =
    record { reach = r; uses = refl; picks = sym (picks_same first us vs r h.1) ∙ eqb-true (bank_picked first us r.banks r.select) bank (both m.commits _ e).1 }
form_means first us vs bank own m (Set register value) h e = absurd (cc)

module _ (plan : PlainPlan) (t : Timing) (u : Uses) (registers : List ℕ) (memories : List (List ℕ)) (held : List ℕ) (words : (block : ℕ) → List Word) (m : Moment)
    (now : IsMoment plan t u registers memories held words m) where
  abbrev meant_by : (block : ℕ) → List Word
  meant_by block = block_values plan (start_at plan registers memories) block

  -- a user that asks: its operation, whose operands are shown as they are meant, and that it acts
  pub record Asking (user : User) : Type 0 where
    pub operation : Operation
    pub reach : Reach
    pub acts : Acts plan registers memories m.active user operation reach
    pub same : SameAtAll (first_in plan user.block) (words user.block) (meant_by user.block) (operation_takes operation)
    pub form : form_asks (first_in plan user.block) (words user.block) user.bank (slice_index (clocks_in plan t user.block) user.place) m operation.form ≡ true

  asking_operation : (user : User) (o : Operation) → slice_get (operations_in plan user.block) user.place ≡ Some o → IsOneOf user.block m.active
      → operation_asks (first_in plan user.block) (words user.block) user.bank (slice_index (clocks_in plan t user.block) user.place) m (Some o) ≡ true → Asking user
  asking_operation user o at active e =
      let first = first_in plan user.block in
      let us = words user.block in
      let vs = meant_by user.block in
      let own = slice_index (clocks_in plan t user.block) user.place in
      let parts = both (is_on first us o.guard) _ e in
      let come = form_time first us user.bank own m (λ c. now.last c user.block active user.place) o.form parts.1 in
      let same = takes_same _ _ _ _ _ _ _ _ (now.blocks user.block active) user.place o at come in
      let P = SameAt first us vs in
      let guard = guard_same first us vs o.guard (all_left P (one_or_none o.guard) (form_takes o.form) same) in
      let means = form_means first us vs user.bank own m o.form (all_right P (one_or_none o.guard) (form_takes o.form) same) parts.1 in
      record {
        operation = o;
        reach = means.reach;
        acts = record { active = active; there = at; uses = means.uses; on = sym guard ∙ parts.0; picks = means.picks };
        same = same;
        form = parts.1;
      }

  asking_option : (user : User) (x : Option Operation) → slice_get (operations_in plan user.block) user.place ≡ x → IsOneOf user.block m.active
      → operation_asks (first_in plan user.block) (words user.block) user.bank (slice_index (clocks_in plan t user.block) user.place) m x ≡ true → Asking user
  asking_option user None at active e = absurd (cc)
  asking_option user (Some o) at active e = asking_operation user o at active e

  pub asking : (user : User) → user_asks plan t words m user ≡ true → Asking user
  asking user e =
      let parts = both (is_among user.block m.active) _ e in
      asking_option user (slice_get (operations_in plan user.block) user.place) refl (among_is user.block m.active parts.0) parts.1

  -- a read that acts asks at its clock
  pub read_asks : (user : User) (guard : Option ℕ) (r : Reach) → Acts plan registers memories m.active user (record { guard = guard; form = Read r }) r
      → slice_index (clocks_in plan t user.block) user.place ≡ m.clock → user_asks plan t words m user ≡ true
  read_asks user guard r a clock =
      let first = first_in plan user.block in
      let us = words user.block in
      let vs = meant_by user.block in
      let own = slice_index (clocks_in plan t user.block) user.place in
      let o : Operation = record { guard = guard; form = Read r } in
      let same = takes_same _ _ _ _ _ _ _ _ (now.blocks user.block a.active) user.place o a.there (omega (arith, clock)) in
      let P = SameAt first us vs in
      let on : is_on first us guard ≡ true = guard_same first us vs guard (all_left P (one_or_none guard) (reach_takes r) same) ∙ a.on in
      let picked : bank_picked first us r.banks r.select ≡ user.bank = picks_same first us vs r (all_right P (one_or_none guard) (reach_takes r) same) ∙ a.picks in
      all_both (is_among user.block m.active) _ (is_among_all user.block m.active a.active)
      (ap (λ (x : Option Operation). operation_asks first us user.bank own m x) a.there
      ∙ all_both (is_on first us guard) _ on
      (all_both (own == m.clock) _ (eq-eqb own m.clock clock) (eq-eqb (bank_picked first us r.banks r.select) user.bank picked)))

  -- a write that acts asks where writes are made
  pub write_asks : (user : User) (guard : Option ℕ) (r : Reach) (value : ℕ) → Acts plan registers memories m.active user (record { guard = guard; form = Write r value }) r
      → m.commits ≡ true → user_asks plan t words m user ≡ true
  write_asks user guard r value a commits =
      let first = first_in plan user.block in
      let us = words user.block in
      let vs = meant_by user.block in
      let own = slice_index (clocks_in plan t user.block) user.place in
      let o : Operation = record { guard = guard; form = Write r value } in
      let same = takes_same _ _ _ _ _ _ _ _ (now.blocks user.block a.active) user.place o a.there (now.last commits user.block a.active user.place) in
      let P = SameAt first us vs in
      let on : is_on first us guard ≡ true = guard_same first us vs guard (all_left P (one_or_none guard) (value ∷ reach_takes r) same) ∙ a.on in
      let picked : bank_picked first us r.banks r.select ≡ user.bank = picks_same first us vs r (all_right P (one_or_none guard) (value ∷ reach_takes r) same).1 ∙ a.picks in
      all_both (is_among user.block m.active) _ (is_among_all user.block m.active a.active)
      (ap (λ (x : Option Operation). operation_asks first us user.bank own m x) a.there
      ∙ all_both (is_on first us guard) _ on
      (all_both m.commits _ commits (eq-eqb (bank_picked first us r.banks r.select) user.bank picked)))

  pub asks_means : (user : User) → user_asks plan t words m user ≡ true → AsksMeans plan registers memories m user
  asks_means user e = let a = asking user e in record { operation = a.operation; reach = a.reach; acts = a.acts }
