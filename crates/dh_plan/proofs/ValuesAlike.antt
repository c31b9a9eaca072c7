-- An operation takes few values, and what it gives and does depends on these alone: two lists of values that agree
-- at what an operation takes give it the same value, and have it do the same.
use Rattle.std.proofs.Common.{◌≡◌, ℕ, Some, None, List, refl, ap}
use Rattle.std.specs.Prelude.{[], ◌∷◌, ◌++◌, Option}
use Rattle.std.specs.List.{AllByRecursion}
use Rattle.dh_value.specs.declared.words.Word.{Word}
use Rattle.dh_value.specs.Words.{value_of}
use Rattle.dh_plan.specs.declared.operations.Operation.{Operation}
use Rattle.dh_plan.specs.declared.operations.OperationForm.{OperationForm}
use Rattle.dh_plan.specs.declared.operations.OperationForm.TheVariants.{Constant, Old, Compute, Convert, Select, Check, Probe, Read, Write, Set}
use Rattle.dh_plan.specs.declared.operations.Reach.{Reach}
use Rattle.dh_plan.specs.declared.operations.ReachStep.{ReachStep}
use Rattle.dh_plan.specs.Blocks.{StepStart, Look, is_on, numbers_at, passages, bank_picked, spot_in_row, spot_of_reach, in_memories, form_word, operation_word, operation_form_events, operation_events, block_events, form_sets, operation_sets, block_sets}
use Rattle.dh_plan.specs.BlockLaws.{SameAt, SameAtAll, LooksBack, DoesByValues}
use Rattle.dh_plan.specs.Ordered.{one_or_none, offsets_taken, reach_takes, form_takes, operation_takes}

pub all_left : {A : Type 0} (P : A → Type 0) (xs ys : List A) → AllByRecursion P (xs ++ ys) → AllByRecursion P xs
all_left P [] ys h = tt
all_left P (x ∷ xs) ys h = (h.0, all_left P xs ys h.1)

pub all_right : {A : Type 0} (P : A → Type 0) (xs ys : List A) → AllByRecursion P (xs ++ ys) → AllByRecursion P ys
all_right P [] ys h = h
all_right P (x ∷ xs) ys h = all_right P xs ys h.1

pub all_map : {A : Type 0} (P Q : A → Type 0) (xs : List A) → ((x : A) → P x → Q x) → AllByRecursion P xs → AllByRecursion Q xs
all_map P Q [] f h = tt
all_map P Q (x ∷ xs) f h = (f x h.0, all_map P Q xs f h.1)

pub numbers_same : (first : ℕ) (ws vs : List Word) (ns : List ℕ) → SameAtAll first ws vs ns → numbers_at first ws ns ≡ numbers_at first vs ns
numbers_same first ws vs [] h = refl
numbers_same first ws vs (n ∷ ns) h =
    let x = ap value_of h.0 in
    let y = numbers_same first ws vs ns h.1 in
    cc

pub passages_same : (first : ℕ) (ws vs : List Word) (ss : List ReachStep) → SameAtAll first ws vs (offsets_taken ss) → passages first ws ss ≡ passages first vs ss
passages_same first ws vs [] h = refl
passages_same first ws vs (s ∷ ss) h =
    let x = numbers_same first ws vs s.offsets (all_left (SameAt first ws vs) s.offsets (offsets_taken ss) h) in
    let y = passages_same first ws vs ss (all_right (SameAt first ws vs) s.offsets (offsets_taken ss) h) in
    cc

pub bank_same : (first : ℕ) (ws vs : List Word) (banks : List (ℕ × ℕ)) (select : Option ℕ) → SameAtAll first ws vs (one_or_none select)
    → bank_picked first ws banks select ≡ bank_picked first vs banks select
bank_same first ws vs banks None h = refl
bank_same first ws vs banks (Some v) h = ap (λ (w : Word). w.bits) h.0

pub row_same : (s : StepStart) (first : ℕ) (ws vs : List Word) (r : Reach) (row : Option ℕ)
    → SameAtAll first ws vs r.indices → SameAtAll first ws vs (offsets_taken r.steps) → SameAtAll first ws vs (one_or_none r.select) → SameAtAll first ws vs (one_or_none row)
    → spot_in_row s first ws r row ≡ spot_in_row s first vs r row
row_same s first ws vs r None i o b h =
    let x = numbers_same first ws vs r.indices i in
    let y = passages_same first ws vs r.steps o in
    cc
row_same s first ws vs r (Some row) i o b h =
    let x = bank_same first ws vs r.banks r.select b in
    let y = ap value_of h.0 in
    cc

pub spot_same : (s : StepStart) (first : ℕ) (ws vs : List Word) (r : Reach) → SameAtAll first ws vs (reach_takes r) → spot_of_reach s first ws r ≡ spot_of_reach s first vs r
spot_same s first ws vs r h =
    let P = SameAt first ws vs in
    let behind = all_right P r.indices _ h in
    let last = all_right P (offsets_taken r.steps) _ behind in
    row_same s first ws vs r r.row (all_left P r.indices _ h) (all_left P (offsets_taken r.steps) _ behind) (all_left P (one_or_none r.select) _ last) (all_right P (one_or_none r.select) _ last)

pub memories_look_back : (s : StepStart) (first : ℕ) → LooksBack (in_memories s first) first
memories_look_back s first = record { same = λ number r ws vs h. (let x = spot_same s first ws vs r h in cc) }

pub form_same : (s : StepStart) (look : Look) (first : ℕ) → LooksBack look first → (ws vs : List Word) (number : ℕ) (f : OperationForm)
    → SameAtAll first ws vs (form_takes f) → form_word s look first ws number f ≡ form_word s look first vs number f
form_same s look first back ws vs number (Constant word) h = refl
form_same s look first back ws vs number (Old register) h = refl
form_same s look first back ws vs number (Compute op left right) h =
    let x = h.0 in
    let y = h.1.0 in
    cc
form_same s look first back ws vs number (Convert inner to) h =
    let x = h.0 in
    cc
form_same s look first back ws vs number (Select test a b) h =
    let x = h.0 in
    let y = h.1.0 in
    let z = h.1.1.0 in
    cc
form_same s look first back ws vs number (Check ok fault) h = refl
form_same s look first back ws vs number (Probe r fault) h = refl
form_same s look first back ws vs number (Read r) h =
    let x = back.same number r ws vs h in
    cc
form_same s look first back ws vs number (Write r value) h = refl
form_same s look first back ws vs number (Set register value) h = refl

pub guard_same : (first : ℕ) (ws vs : List Word) (guard : Option ℕ) → SameAtAll first ws vs (one_or_none guard) → is_on first ws guard ≡ is_on first vs guard
guard_same first ws vs None h = refl
guard_same first ws vs (Some g) h =
    let x = h.0 in
    cc

pub word_same : (s : StepStart) (look : Look) (first : ℕ) → LooksBack look first → (ws vs : List Word) (number : ℕ) (o : Operation)
    → SameAtAll first ws vs (operation_takes o) → operation_word s look first ws number o ≡ operation_word s look first vs number o
word_same s look first back ws vs number o h =
    let x = guard_same first ws vs o.guard (all_left (SameAt first ws vs) (one_or_none o.guard) (form_takes o.form) h) in
    let y = form_same s look first back ws vs number o.form (all_right (SameAt first ws vs) (one_or_none o.guard) (form_takes o.form) h) in
    cc

-- Faults, writes and registers.

pub form_events_same : (s : StepStart) (first : ℕ) (ws vs : List Word) (f : OperationForm)
    → SameAtAll first ws vs (form_takes f) → operation_form_events s first ws f ≡ operation_form_events s first vs f
form_events_same s first ws vs (Constant word) h = refl
form_events_same s first ws vs (Old register) h = refl
form_events_same s first ws vs (Compute op left right) h = refl
form_events_same s first ws vs (Convert inner to) h = refl
form_events_same s first ws vs (Select test a b) h = refl
form_events_same s first ws vs (Check ok fault) h =
    let x = h.0 in
    cc
form_events_same s first ws vs (Probe r fault) h =
    let x = spot_same s first ws vs r h in
    cc
form_events_same s first ws vs (Read r) h = refl
form_events_same s first ws vs (Write r value) h =
    let x = h.0 in
    let y = spot_same s first ws vs r h.1 in
    cc
form_events_same s first ws vs (Set register value) h = refl

pub form_sets_same : (first : ℕ) (ws vs : List Word) (f : OperationForm)
    → SameAtAll first ws vs (form_takes f) → form_sets first ws f ≡ form_sets first vs f
form_sets_same first ws vs (Constant word) h = refl
form_sets_same first ws vs (Old register) h = refl
form_sets_same first ws vs (Compute op left right) h = refl
form_sets_same first ws vs (Convert inner to) h = refl
form_sets_same first ws vs (Select test a b) h = refl
form_sets_same first ws vs (Check ok fault) h = refl
form_sets_same first ws vs (Probe r fault) h = refl
form_sets_same first ws vs (Read r) h = refl
form_sets_same first ws vs (Write r value) h = refl
form_sets_same first ws vs (Set register value) h = ap (λ (w : Word). record { register = register; bits = w.bits } ∷ []) h.0

pub operation_events_same : (s : StepStart) (first : ℕ) (ws vs : List Word) (o : Operation)
    → SameAtAll first ws vs (operation_takes o) → operation_events s first ws o ≡ operation_events s first vs o
operation_events_same s first ws vs o h =
    let x = guard_same first ws vs o.guard (all_left (SameAt first ws vs) (one_or_none o.guard) (form_takes o.form) h) in
    let y = form_events_same s first ws vs o.form (all_right (SameAt first ws vs) (one_or_none o.guard) (form_takes o.form) h) in
    cc

pub operation_sets_same : (first : ℕ) (ws vs : List Word) (o : Operation)
    → SameAtAll first ws vs (operation_takes o) → operation_sets first ws o ≡ operation_sets first vs o
operation_sets_same first ws vs o h =
    let x = guard_same first ws vs o.guard (all_left (SameAt first ws vs) (one_or_none o.guard) (form_takes o.form) h) in
    let y = form_sets_same first ws vs o.form (all_right (SameAt first ws vs) (one_or_none o.guard) (form_takes o.form) h) in
    cc

pub block_events_same : (s : StepStart) (first : ℕ) (ws vs : List Word) (os : List Operation)
    → AllByRecursion (λ (o : Operation). SameAtAll first ws vs (operation_takes o)) os → block_events s first ws os ≡ block_events s first vs os
block_events_same s first ws vs [] h = refl
block_events_same s first ws vs (o ∷ os) h =
    let x = operation_events_same s first ws vs o h.0 in
    let y = block_events_same s first ws vs os h.1 in
    cc

pub block_sets_same : (first : ℕ) (ws vs : List Word) (os : List Operation)
    → AllByRecursion (λ (o : Operation). SameAtAll first ws vs (operation_takes o)) os → block_sets first ws os ≡ block_sets first vs os
block_sets_same first ws vs [] h = refl
block_sets_same first ws vs (o ∷ os) h =
    let x = operation_sets_same first ws vs o h.0 in
    let y = block_sets_same first ws vs os h.1 in
    cc

pub does_by_values : (s : StepStart) (first : ℕ) (ws vs : List Word) (os : List Operation) → DoesByValues s first ws vs os
does_by_values s first ws vs os h = (block_events_same s first ws vs os h, block_sets_same first ws vs os h)
