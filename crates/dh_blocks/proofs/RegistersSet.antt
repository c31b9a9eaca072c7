-- What the setting of registers leaves in each.
use Rattle.std.proofs.Common.{◌≡◌, ◌⊎◌, inl, inr, ℕ, zero, suc, ◌<◌, ◌==◌, Bool, true, false, if◌then◌else◌, List, [], ◌∷◌, ◌++◌, length, replicate, Option, Some, None, refl, ap, sym, ◌∙◌, subst, arith}
use Rattle.std.specs.Prelude.{slice_index, slice_set}
use Rattle.std.specs.List.{AllByRecursion}
use Rattle.std.proofs.lemmas.Bool.{cases_Bool, eq-eqb, eqb-true}
use Rattle.std.proofs.lemmas.List.{length-set}
use Rattle.dh_value.specs.declared.words.Word.{Word}
use Rattle.dh_plan.specs.declared.operations.Operation.{Operation}
use Rattle.dh_plan.specs.Blocks.{RegisterSet, all_set, block_events, block_sets, form_sets, word_at, StepStart, is_on}
use Rattle.dh_commands.specs.declared.assignments.Change.{Change}
use Rattle.dh_commands.specs.Undone.{given_at, undone}
use Rattle.dh_blocks.specs.BlockMade.{SetsNone, set_made, sets_made}

clash : (b : Bool) → b ≡ true → b ≡ false → ⊥
clash true e f = cc
clash false e f = cc

differ : (a b : ℕ) → (a == b) ≡ false → a ≡ b → ⊥
differ a b e same = clash (a == b) (eq-eqb a b same) e

-- operations that set no register
pub none_set : (first : ℕ) (ws : List Word) (os : List Operation) → AllByRecursion SetsNone os → block_sets first ws os ≡ []
none_set first ws [] h = refl
none_set first ws (o ∷ os) h = ap (λ (l : List RegisterSet). l ++ block_sets first ws os) (by (is_on first ws o.guard)) ∙ none_set first ws os h.1
  where
    by : (b : Bool) → (if b then form_sets first ws o.form else []) ≡ []
    by true = h.0 first ws
    by false = refl

-- setting registers tells nothing
pub sets_quiet : (s : StepStart) (first : ℕ) (ws : List Word) (cs : List Change) (current : List (Option ℕ)) → block_events s first ws (sets_made cs current) ≡ []
sets_quiet s first ws [] current = refl
sets_quiet s first ws (c ∷ cs) current = by (given_at current c.register) (sets_quiet s first ws cs (slice_set current c.register None))
  where
    by : (o : Option ℕ) → block_events s first ws (sets_made cs (slice_set current c.register None)) ≡ [] → block_events s first ws (set_made c.register o ++ sets_made cs (slice_set current c.register None)) ≡ []
    by None e = e
    by (Some v) e = e

-- Each register.

pub all_long : (ss : List RegisterSet) (registers : List ℕ) → length (all_set ss registers) ≡ length registers
all_long [] registers = refl
all_long (s ∷ ss) registers = all_long ss (slice_set registers s.register s.bits) ∙ length-set registers s.register s.bits

-- a register is one of those that changes set
abbrev pub HasRegister : (r : ℕ) → List Change → Type 0
HasRegister r [] = ⊥
HasRegister r (c ∷ cs) = (c.register ≡ r) ⊎ HasRegister r cs

given_set : (current : List (Option ℕ)) (r : ℕ) → given_at (slice_set current r None) r ≡ None
given_set [] r = refl
given_set (o ∷ os) zero = refl
given_set (o ∷ os) (suc r) = given_set os r

given_other : (current : List (Option ℕ)) (n r : ℕ) → (r ≡ n → ⊥) → given_at (slice_set current n None) r ≡ given_at current r
given_other [] n r other = refl
given_other (o ∷ os) zero zero other = absurd (other refl)
given_other (o ∷ os) zero (suc r) other = refl
given_other (o ∷ os) (suc n) zero other = refl
given_other (o ∷ os) (suc n) (suc r) other = given_other os n r (λ e. other (ap suc e))

pub index_set : (xs : List ℕ) (r y : ℕ) → r < length xs → slice_index (slice_set xs r y) r ≡ y
index_set [] r y within = absurd (none r within)
  where
    none : (n : ℕ) → n < 0 → ⊥
    none n h = omega (arith, h)
index_set (x ∷ xs) zero y within = refl
index_set (x ∷ xs) (suc r) y within = index_set xs r y (less r (length xs) within)
  where
    less : (n l : ℕ) → suc n < suc l → n < l
    less n l h = omega (arith, h)

pub index_other : (xs : List ℕ) (n r y : ℕ) → (r ≡ n → ⊥) → slice_index (slice_set xs n y) r ≡ slice_index xs r
index_other [] n r y other = refl
index_other (x ∷ xs) zero zero y other = absurd (other refl)
index_other (x ∷ xs) zero (suc r) y other = refl
index_other (x ∷ xs) (suc n) zero y other = refl
index_other (x ∷ xs) (suc n) (suc r) y other = index_other xs n r y (λ e. other (ap suc e))

module _ (first : ℕ) (ws : List Word) where
  abbrev after : List Change → List (Option ℕ) → List ℕ → List ℕ
  after cs current registers = all_set (block_sets first ws (sets_made cs current)) registers

  -- a register that has no value is left
  pub left_register : (cs : List Change) (current : List (Option ℕ)) (registers : List ℕ) (r : ℕ) → given_at current r ≡ None → slice_index (after cs current registers) r ≡ slice_index registers r
  left_register [] current registers r none = refl
  left_register (c ∷ cs) current registers r none = by (λ regs e. left_register cs (slice_set current c.register None) regs r e) (given_at current c.register) refl (cases_Bool (r == c.register))
    where
      by : ((regs : List ℕ) → given_at (slice_set current c.register None) r ≡ None → slice_index (after cs (slice_set current c.register None) regs) r ≡ slice_index regs r)
          → (o : Option ℕ) → given_at current c.register ≡ o → ((r == c.register) ≡ true) ⊎ ((r == c.register) ≡ false)
          → slice_index (all_set (block_sets first ws (set_made c.register o ++ sets_made cs (slice_set current c.register None))) registers) r ≡ slice_index registers r
      by rest None e (inl s) = rest registers (ap (λ n. given_at (slice_set current n None) r) (sym (eqb-true r c.register s)) ∙ given_set current r)
      by rest None e (inr d) = rest registers (given_other current c.register r (differ r c.register d) ∙ none)
      by rest (Some v) e (inl s) = absurd (never (sym (ap (λ n. given_at current n) (eqb-true r c.register s)) ∙ none) e)
        where
          never : given_at current c.register ≡ None → given_at current c.register ≡ Some v → ⊥
          never a b = cc
      by rest (Some v) e (inr d) =
          rest (slice_set registers c.register (word_at first ws v).bits) (given_other current c.register r (differ r c.register d) ∙ none)
          ∙ index_other registers c.register r (word_at first ws v).bits (differ r c.register d)

  -- a register that has one and is changed holds it
  pub set_register : (cs : List Change) (current : List (Option ℕ)) (registers : List ℕ) (r v : ℕ) → given_at current r ≡ Some v → HasRegister r cs → r < length registers
      → slice_index (after cs current registers) r ≡ (word_at first ws v).bits
  set_register [] current registers r v is h within = absurd h
  set_register (c ∷ cs) current registers r v is h within =
      by (λ regs long g k. set_register cs (slice_set current c.register None) regs r v g k (subst (λ (n : ℕ). r < n) (sym long) within))
      (λ regs none. left_register cs (slice_set current c.register None) regs r none) (given_at current c.register) refl h (cases_Bool (r == c.register))
    where
      by : ((regs : List ℕ) → length regs ≡ length registers → given_at (slice_set current c.register None) r ≡ Some v → HasRegister r cs → slice_index (after cs (slice_set current c.register None) regs) r ≡ (word_at first ws v).bits)
          → ((regs : List ℕ) → given_at (slice_set current c.register None) r ≡ None → slice_index (after cs (slice_set current c.register None) regs) r ≡ slice_index regs r)
          → (o : Option ℕ) → given_at current c.register ≡ o → (c.register ≡ r) ⊎ HasRegister r cs → ((r == c.register) ≡ true) ⊎ ((r == c.register) ≡ false)
          → slice_index (all_set (block_sets first ws (set_made c.register o ++ sets_made cs (slice_set current c.register None))) registers) r ≡ (word_at first ws v).bits
      by rest left None e h (inl s) = absurd (never (sym (ap (λ n. given_at current n) (eqb-true r c.register s)) ∙ is) e)
        where
          never : given_at current c.register ≡ Some v → given_at current c.register ≡ None → ⊥
          never a b = cc
      by rest left None e (inl s) (inr d) = absurd (differ r c.register d (sym s))
      by rest left None e (inr h) (inr d) = rest registers refl (given_other current c.register r (differ r c.register d) ∙ is) h
      by rest left (Some w) e h (inl s) =
          let same : r ≡ c.register = eqb-true r c.register s in
          let value : w ≡ v = the w v (sym e ∙ (ap (λ n. given_at current n) (sym same) ∙ is)) in
          left (slice_set registers c.register (word_at first ws w).bits) (ap (λ n. given_at (slice_set current n None) r) (sym same) ∙ given_set current r)
          ∙ (ap (λ n. slice_index (slice_set registers n (word_at first ws w).bits) r) (sym same)
          ∙ (index_set registers r (word_at first ws w).bits within ∙ ap (λ n. (word_at first ws n).bits) value))
        where
          the : (a b : ℕ) → Some a ≡ Some b → a ≡ b
          the a b e = cc
      by rest left (Some w) e (inl s) (inr d) = absurd (differ r c.register d (sym s))
      by rest left (Some w) e (inr h) (inr d) =
          rest (slice_set registers c.register (word_at first ws w).bits) (length-set registers c.register (word_at first ws w).bits) (given_other current c.register r (differ r c.register d) ∙ is) h

-- a register that is given a value is changed, where none was given one before
pub given_changed : (cs : List Change) (current : List (Option ℕ)) (n r v : ℕ) → undone cs current ≡ replicate n None → given_at current r ≡ Some v → HasRegister r cs
given_changed cs current n r v back is = by (decided cs)
  where
    decided : (ds : List Change) → HasRegister r ds ⊎ (HasRegister r ds → ⊥)
    decided [] = inr (λ h. h)
    decided (d ∷ ds) = one (cases_Bool (d.register == r)) (decided ds)
      where
        one : ((d.register == r) ≡ true) ⊎ ((d.register == r) ≡ false) → HasRegister r ds ⊎ (HasRegister r ds → ⊥) → HasRegister r (d ∷ ds) ⊎ (HasRegister r (d ∷ ds) → ⊥)
        one (inl e) rest = inl (inl (eqb-true d.register r e))
        one (inr e) (inl h) = inl (inr h)
        one (inr e) (inr no_one) = inr (λ h. elim h [ inl s ↦ differ d.register r e s | inr k ↦ no_one k ])

    stays : (ds : List Change) → (HasRegister r ds → ⊥) → given_at (undone ds current) r ≡ given_at current r
    stays [] out = refl
    stays (d ∷ ds) out = kept (undone ds current) d.register d.before r (λ e. out (inl (sym e))) ∙ stays ds (λ h. out (inr h))
      where
        kept : (xs : List (Option ℕ)) (n : ℕ) (y : Option ℕ) (r : ℕ) → (r ≡ n → ⊥) → given_at (slice_set xs n y) r ≡ given_at xs r
        kept [] n y r other = refl
        kept (o ∷ os) zero y zero other = absurd (other refl)
        kept (o ∷ os) zero y (suc r) other = refl
        kept (o ∷ os) (suc n) y zero other = refl
        kept (o ∷ os) (suc n) y (suc r) other = kept os n y r (λ e. other (ap suc e))

    nothing : (n r : ℕ) → given_at (replicate n None) r ≡ None
    nothing zero r = refl
    nothing (suc n) zero = refl
    nothing (suc n) (suc r) = nothing n r

    by : HasRegister r cs ⊎ (HasRegister r cs → ⊥) → HasRegister r cs
    by (inl h) = h
    by (inr out) = absurd (never (sym (stays cs out) ∙ (ap (λ l. given_at l r) back ∙ nothing n r)) is)
      where
        never : given_at current r ≡ None → given_at current r ≡ Some v → ⊥
        never a b = cc
