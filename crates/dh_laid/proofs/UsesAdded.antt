-- Reads and writes that are added, one part behind the other; values, guards and choices add none.
use Rattle.std.proofs.Common.{◌≡◌, ◌⊎◌, inl, inr, ◌<◌, ◌≤◌, ◌+◌, ℕ, zero, suc, List, Some, None, ap, sym, ◌∙◌, subst, arith, append_assoc, refl}
use Rattle.std.specs.Prelude.{◌&&◌, ◌==◌, nat_le, nat_lt, Bool as Truth, true, false, if◌then◌else◌, [], ◌∷◌, ◌++◌, Option, slice_get}
use Rattle.std.specs.List.{AllByRecursion}
use Rattle.std.proofs.lemmas.Bool.{cases_lt, eq-eqb}
use Rattle.std.proofs.lemmas.Bool.Decides.{nat_tests}
use Rattle.std.proofs.lemmas.List.{append-nil}
use Rattle.dh_value.specs.declared.kinds.Kind.{Kind}
use Rattle.dh_value.specs.declared.kinds.Kind.TheVariants as kind
use Rattle.dh_value.specs.declared.operators.Op.{Op}
use Rattle.dh_value.specs.declared.operators.Op.TheVariants.{Both}
use Rattle.dh_value.specs.Operations.{truth}
use Rattle.dh_tree.specs.PlainTrees.{Term}
use Rattle.dh_code.specs.Extended.{extension_of}
use Rattle.dh_tree.specs.Kinds.{same_kind}
use Rattle.dh_code.specs.declared.places.VariableSlots.{VariableSlots}
use Rattle.dh_plan.specs.declared.operations.Operation.{Operation}
use Rattle.dh_plan.specs.declared.operations.OperationForm.{OperationForm}
use Rattle.dh_plan.specs.declared.operations.OperationForm.TheVariants.{Check, Compute, Constant, Convert, Old, Probe, Read, Select, Set, Write}
use Rattle.dh_plan.specs.declared.operations.Reach.{Reach}
use Rattle.dh_plan.specs.DoneProgram.{counts_use}
use Rattle.dh_plan.specs.SoundPlans.{access_in, use_in}
use Rattle.dh_expressions.specs.declared.drafts.Draft.{Draft}
use Rattle.dh_expressions.specs.declared.scenes.Lane.{Lane}
use Rattle.dh_expressions.specs.Drafted.{Pushes}
use Rattle.dh_expressions.specs.MadeValues.{MadeConverted, MadeHeld, MadeShown}
use Rattle.dh_expressions.specs.Shown.{guard_of, kind_written, register_at}
use Rattle.dh_formed.specs.Counted.{Counts, FormIs, nothing, ranged, use_shared}
use Rattle.dh_expressions.specs.declared.scenes.Scene.{Scene}
use Rattle.dh_formed.specs.Formed.{BlockSite}
use Rattle.dh_formed.proofs.ElementsFormed.{all_append}
use Rattle.dh_formed.proofs.PartsCounted.{ranged_none, ranged_sum, uses_append}
use Rattle.dh_formed.proofs.ValuesCounted.{held_counts, shown_counts}
use Rattle.dh_commands.specs.declared.assignments.Values.{Values}
use Rattle.dh_commands.specs.declared.choices.Choice.{Choice}
use Rattle.dh_commands.specs.MadeCommands.{FoldedWith, MadeArmGuard, MadeArmGuards, MadeBehind, MadeChoiceBy, MadeChoices, MadeGuard, MadeOldOperand, MadeOperand, MadeOutcome}
use Rattle.dh_laid.specs.LaidUses.{AddsLedUses, AreLedUses, AreSitesReaches, IsLeadersUse, IsSitesReach, used_by}

abbrev pub any_register : ℕ → Type 0
any_register register = Unit {0}

abbrev pub no_reach : Reach → Type 0
no_reach r = ⊥

-- an access without a site
pub used_nowhere : (share : Option (Option ℕ)) (paths : ℕ) → used_by share None paths ≡ 0
used_nowhere share zero = refl
used_nowhere share (suc n) = sum (used_by share None n) (use_shared share None n) (used_nowhere share n) (none share)
  where
    sum : (a b : ℕ) → a ≡ 0 → b ≡ 0 → a + b ≡ 0
    sum a b e g = omega (arith, e, g)

    none : (share : Option (Option ℕ)) → use_shared share None n ≡ 0
    none None = refl
    none (Some None) = refl
    none (Some (Some earlier)) = refl

module _ (scene : Scene) (sites : ℕ → Option BlockSite) where
  -- no access was read or written
  abbrev pub AddsNone : (old new : Draft) → Type 0
  AddsNone old new = AddsLedUses scene sites old new nothing

  pub none_same : (old new : Draft) → new.operations.items ≡ old.operations.items → AddsNone old new
  none_same old new same = record { more = []; adds = same ∙ sym (append-nil old.operations.items); uses_are = λ access. refl; each = tt; reaches = tt }

  pub none_none : (old new : Draft) → new ≡ old → AddsNone old new
  none_none old new same = none_same old new (ap (λ (d : Draft). d.operations.items) same)

  -- one behind the other, where this is their sum
  pub uses_again : (a b c : Draft) (f g h : ℕ → ℕ) → ((access : ℕ) → f access + g access ≡ h access) → AddsLedUses scene sites a b f → AddsLedUses scene sites b c g → AddsLedUses scene sites a c h
  uses_again a b c f g h sum one two = record {
    more = one.more ++ two.more;
    adds = two.adds ∙ (ap (λ (os : List Operation). os ++ two.more) one.adds ∙ append_assoc a.operations.items one.more two.more);
    uses_are = λ access. let e = uses_append access one.more two.more in let l = one.uses_are access in let r = two.uses_are access in let w = sum access in omega (arith, e, l, r, w);
    each = all_append (λ (o : Operation). (r : Reach) → use_in o.form ≡ Some r → IsLeadersUse scene sites r) one.more two.more one.each two.each;
    reaches = all_append (λ (o : Operation). (r : Reach) → access_in o.form ≡ Some r → IsSitesReach sites r) one.more two.more one.reaches two.reaches;
  }

  -- the same, told otherwise
  pub uses_same : (a b : Draft) (f g : ℕ → ℕ) → ((access : ℕ) → f access ≡ g access) → AddsLedUses scene sites a b f → AddsLedUses scene sites a b g
  uses_same a b f g same h = record { more = h.more; adds = h.adds; uses_are = λ access. h.uses_are access ∙ same access; each = h.each; reaches = h.reaches }

  no_sum : (access : ℕ) → nothing access + nothing access ≡ nothing access
  no_sum access = omega arith

  pub none_again : (a b c : Draft) → AddsNone a b → AddsNone b c → AddsNone a c
  none_again a b c h k = uses_again a b c nothing nothing nothing no_sum h k

  plus_nothing : (f : ℕ → ℕ) (access : ℕ) → f access + nothing access ≡ f access
  plus_nothing f access = omega arith

  nothing_plus : (f : ℕ → ℕ) (access : ℕ) → nothing access + f access ≡ f access
  nothing_plus f access = omega arith

  -- nothing behind, and nothing before
  pub uses_then_none : (a b c : Draft) (f : ℕ → ℕ) → AddsLedUses scene sites a b f → AddsNone b c → AddsLedUses scene sites a c f
  uses_then_none a b c f h k = uses_again a b c f nothing f (plus_nothing f) h k

  pub none_then_uses : (a b c : Draft) (f : ℕ → ℕ) → AddsNone a b → AddsLedUses scene sites b c f → AddsLedUses scene sites a c f
  none_then_uses a b c f h k = uses_again a b c nothing f f (nothing_plus f) h k

  -- a read or a write
  pub use_pushed : (old new : Draft) (n : ℕ) (guard : Option ℕ) (form : OperationForm) (f : ℕ → ℕ) → Pushes old new n guard form → ((access : ℕ) → counts_use access (use_in form) ≡ f access)
      → ((r : Reach) → use_in form ≡ Some r → IsLeadersUse scene sites r) → ((r : Reach) → access_in form ≡ Some r → use_in form ≡ Some r) → AddsLedUses scene sites old new f
  use_pushed old new n guard form f p is led used = record {
    more = record { guard = guard; form = form } ∷ [];
    adds = p.operations;
    uses_are = λ access. alone (counts_use access (use_in form)) ∙ is access;
    each = (led, tt);
    reaches = (λ r e. of_led r (led r (used r e)), tt);
  }
    where
      alone : (c : ℕ) → c + 0 ≡ c
      alone c = omega arith

      of_led : (r : Reach) → IsLeadersUse scene sites r → IsSitesReach sites r
      of_led r l = record { site = l.site; there = l.there; memory_is = l.memory_is }

  -- a probe of an access that has a site
  pub probe_pushed : (old new : Draft) (n : ℕ) (guard : Option ℕ) (q : Reach) (fault : ℕ) → Pushes old new n guard (Probe q fault) → IsSitesReach sites q → AddsNone old new
  probe_pushed old new n guard q fault p reach = record {
    more = record { guard = guard; form = Probe q fault } ∷ [];
    adds = p.operations;
    uses_are = λ access. refl;
    each = (λ r e. absurd (never r e), tt);
    reaches = (λ r e. same r e, tt);
  }
    where
      never : (r : Reach) → None ≡ Some r → ⊥
      never r e = cc

      same : (r : Reach) → Some q ≡ Some r → IsSitesReach sites r
      same r e = subst (λ (k : Reach). IsSitesReach sites k) (inner e) reach
        where
          inner : Some q ≡ Some r → q ≡ r
          inner h = cc

  -- what reaches no memory
  pub none_pushed : (old new : Draft) (n : ℕ) (guard : Option ℕ) (form : OperationForm) → Pushes old new n guard form → ((access : ℕ) → counts_use access (access_in form) ≡ 0) → AddsNone old new
  none_pushed old new n guard form p is = record {
    more = record { guard = guard; form = form } ∷ [];
    adds = p.operations;
    uses_are = λ access. ap (λ u. counts_use access u + 0) unused;
    each = (λ r e. absurd (never r (sym unused ∙ e)), tt);
    reaches = (λ r e. absurd (never r (sym unreached ∙ e)), tt);
  }
    where
      never : (r : Reach) → None ≡ Some r → ⊥
      never r e = cc

      by : (o : Option Reach) → access_in form ≡ o → access_in form ≡ None
      by None e = e
      by (Some r) e = absurd (counted (r.access == r.access) (eq-eqb r.access r.access refl) (sym (ap (λ u. counts_use r.access u) e) ∙ is r.access))
        where
          counted : (t : Truth) → t ≡ true → ◌≡◌ {A = ℕ} (if t then 1 else 0) 0 → ⊥
          counted true e h = omega (arith, h)
          counted false e h = cc

      unreached : access_in form ≡ None
      unreached = by (access_in form) refl

      used : (f : OperationForm) → access_in f ≡ None → use_in f ≡ None
      used (Constant word) e = refl
      used (Old register) e = refl
      used (Compute op left right) e = refl
      used (Convert inner to) e = refl
      used (Select test a b) e = refl
      used (Check ok fault) e = refl
      used (Probe q fault) e = refl
      used (Read q) e = e
      used (Write q value) e = e
      used (Set register value) e = refl

      unused : use_in form ≡ None
      unused = used form unreached

  pub uses_counted : (old new : Draft) (p : ℕ) (f u : ℕ → ℕ) → Counts old new (FormIs any_register no_reach no_reach no_reach) p f u → AddsLedUses scene sites old new u
  uses_counted old new p f u c = record { more = c.more; adds = c.adds; uses_are = c.uses_are; each = all_none c.more c.each; reaches = none_reach c.more c.each }
    where
      none : (form : OperationForm) → FormIs any_register no_reach no_reach no_reach form → (r : Reach) → use_in form ≡ Some r → IsLeadersUse scene sites r
      none (Constant word) h r e = absurd (cc)
      none (Old register) h r e = absurd (cc)
      none (Compute op left right) h r e = absurd (cc)
      none (Convert inner to) h r e = absurd (cc)
      none (Select test a b) h r e = absurd (cc)
      none (Check ok fault) h r e = absurd h
      none (Probe q fault) h r e = absurd h
      none (Read q) h r e = absurd h
      none (Write q value) h r e = absurd h
      none (Set register value) h r e = absurd h

      all_none : (os : List Operation) → AllByRecursion (λ (o : Operation). FormIs any_register no_reach no_reach no_reach o.form) os → AreLedUses scene sites os
      all_none [] h = tt
      all_none (o ∷ os) h = (none o.form h.0, all_none os h.1)

      unreached : (form : OperationForm) → FormIs any_register no_reach no_reach no_reach form → (r : Reach) → access_in form ≡ Some r → IsSitesReach sites r
      unreached (Constant word) h r e = absurd (cc)
      unreached (Old register) h r e = absurd (cc)
      unreached (Compute op left right) h r e = absurd (cc)
      unreached (Convert inner to) h r e = absurd (cc)
      unreached (Select test a b) h r e = absurd (cc)
      unreached (Check ok fault) h r e = absurd (cc)
      unreached (Probe q fault) h r e = absurd h
      unreached (Read q) h r e = absurd h
      unreached (Write q value) h r e = absurd h
      unreached (Set register value) h r e = absurd (cc)

      none_reach : (os : List Operation) → AllByRecursion (λ (o : Operation). FormIs any_register no_reach no_reach no_reach o.form) os → AreSitesReaches sites os
      none_reach [] h = tt
      none_reach (o ∷ os) h = (unreached o.form h.0, none_reach os h.1)

  -- Ranges of accesses.

  pub no_accesses : (old new : Draft) (n : ℕ) (f : ℕ → ℕ) → AddsNone old new → AddsLedUses scene sites old new (ranged n 0 f)
  no_accesses old new n f h = record { more = h.more; adds = h.adds; uses_are = λ access. h.uses_are access ∙ ranged_none n f access; each = h.each; reaches = h.reaches }

  pub ranged_then : (a b c : Draft) (n own p q : ℕ) (f : ℕ → ℕ) → own ≡ n + p → AddsLedUses scene sites a b (ranged n p f) → AddsLedUses scene sites b c (ranged own q f) → AddsLedUses scene sites a c (ranged n (p + q) f)
  ranged_then a b c n own p q f is h k =
      uses_again a b c (ranged n p f) (ranged (n + p) q f) (ranged n (p + q) f) (λ access. ranged_sum n p q f access) h (subst (λ (i : ℕ). AddsLedUses scene sites b c (ranged i q f)) is k)

  pub ranged_count : (a b : Draft) (n p q : ℕ) (f : ℕ → ℕ) → p ≡ q → AddsLedUses scene sites a b (ranged n p f) → AddsLedUses scene sites a b (ranged n q f)
  ranged_count a b n p q f same h = subst (λ (i : ℕ). AddsLedUses scene sites a b (ranged n i f)) same h

  pub ranged_behind : (a b c : Draft) (n own p : ℕ) (f : ℕ → ℕ) → own ≡ n + p → AddsLedUses scene sites a b (ranged n p f) → AddsLedUses scene sites b c (ranged own 1 f) → AddsLedUses scene sites a c (ranged n (suc p) f)
  ranged_behind a b c n own p f is h k = ranged_count a c n (p + 1) (suc p) f (omega arith) (ranged_then a b c n own p 1 f is h k)

  -- of the same accesses once more
  pub ranged_more : (a b c : Draft) (n p : ℕ) (f g h : ℕ → ℕ) → ((access : ℕ) → f access + g access ≡ h access) → AddsLedUses scene sites a b (ranged n p f) → AddsLedUses scene sites b c (ranged n p g) → AddsLedUses scene sites a c (ranged n p h)
  ranged_more a b c n p f g h sum one two = uses_again a b c (ranged n p f) (ranged n p g) (ranged n p h) (λ access. by access (nat_le n access && nat_lt access (n + p))) one two
    where
      by : (access : ℕ) (t : Truth) → (if t then f access else 0) + (if t then g access else 0) ≡ (if t then h access else 0)
      by access true = sum access
      by access false = no_sum 0

  pub ranged_nothing : (a b : Draft) (n p : ℕ) (f : ℕ → ℕ) → ((access : ℕ) → f access ≡ 0) → AddsNone a b → AddsLedUses scene sites a b (ranged n p f)
  ranged_nothing a b n p f none h = uses_same a b nothing (ranged n p f) (λ access. by access (nat_le n access && nat_lt access (n + p))) h
    where
      by : (access : ℕ) (t : Truth) → 0 ≡ (if t then f access else 0)
      by access true = sym (none access)
      by access false = refl

  -- within the range there is nothing to count
  pub ranged_without : (a b : Draft) (n p : ℕ) (f : ℕ → ℕ) → ((access : ℕ) → n ≤ access → access < n + p → f access ≡ 0) → AddsNone a b → AddsLedUses scene sites a b (ranged n p f)
  ranged_without a b n p f none h = uses_same a b nothing (ranged n p f) (λ access. by access (cases_lt access n) (cases_lt access (n + p))) h
    where
      low : (access : ℕ) → access < n → (nat_le n access && nat_lt access (n + p)) ≡ false
      low access l = grind (arith, nat_tests, l)

      far : (access : ℕ) → n + p ≤ access → (nat_le n access && nat_lt access (n + p)) ≡ false
      far access l = grind (arith, nat_tests, l)

      outside : (access : ℕ) (t : Truth) → t ≡ false → 0 ≡ (if t then f access else 0)
      outside access true e = absurd (cc)
      outside access false e = refl

      inside : (access : ℕ) (t : Truth) → f access ≡ 0 → 0 ≡ (if t then f access else 0)
      inside access true e = sym e
      inside access false e = refl

      by : (access : ℕ) → (access < n) ⊎ (n ≤ access) → (access < n + p) ⊎ (n + p ≤ access) → 0 ≡ ranged n p f access
      by access (inl l) other = outside access (nat_le n access && nat_lt access (n + p)) (low access l)
      by access (inr from) (inl below) = inside access (nat_le n access && nat_lt access (n + p)) (none access from below)
      by access (inr from) (inr l) = outside access (nat_le n access && nat_lt access (n + p)) (far access l)

  -- Values.

  pub converted_used : (kept : Truth) (to : Kind) (value : ℕ) (old new : Draft) (v : ℕ) → MadeConverted kept to value old new v → AddsNone old new
  converted_used true to value old new v m = none_none old new m.0
  converted_used false to value old new v m = none_pushed old new v None (Convert value to) m (λ access. refl)

  pub held_used : (t : Term) (to : Kind) (value : ℕ) (old new : Draft) (v : ℕ) → MadeHeld t to value old new v → AddsNone old new
  held_used t to value old new v m = uses_counted old new 0 _ _ (held_counts any_register no_reach no_reach no_reach t to value old new v m)

  shown_used : (current : List (Option ℕ)) (register : ℕ) (old new : Draft) (v : ℕ) → MadeShown current register old new v → AddsNone old new
  shown_used current register old new v m = uses_counted old new 0 _ _ (shown_counts any_register no_reach no_reach no_reach current register tt old new v m)

  old_operand_used : (own to : Kind) (value : ℕ) (old new : Draft) (v : ℕ) → MadeOldOperand own to value old new v → AddsNone old new
  old_operand_used own kind.Bool value old new v m = none_none old new m.0
  old_operand_used own (kind.Unsigned w) value old new v m = converted_used (same_kind own (kind.Unsigned w)) (kind.Unsigned w) value old new v m
  old_operand_used own (kind.Signed w) value old new v m = converted_used (same_kind own (kind.Signed w)) (kind.Signed w) value old new v m

  operand_used : (t : Term) (to : Kind) (value : ℕ) (old new : Draft) (v : ℕ) → MadeOperand t to value old new v → AddsNone old new
  operand_used t kind.Bool value old new v m = none_none old new m.0
  operand_used t (kind.Unsigned w) value old new v m = held_used t (kind.Unsigned w) value old new v m
  operand_used t (kind.Signed w) value old new v m = held_used t (kind.Signed w) value old new v m

  pub folded_used : (lane : Lane) (current : List (Option ℕ)) (held : VariableSlots) (op : Op) (t : Term) (value : ℕ) (old new : Draft) (v : ℕ) → FoldedWith lane current held op t value old new v → AddsNone old new
  folded_used lane current held op t value old new v m =
      none_again old m.first new (shown_used current (register_at held lane) old m.first m.before m.shown)
      (none_again m.first m.second new (old_operand_used held.kind (extension_of op held.kind (kind_written t)) m.before m.first m.second m.left m.left_made)
      (none_again m.second m.third new (operand_used t (extension_of op held.kind (kind_written t)) value m.second m.third m.right m.right_made)
      (none_again m.third m.fourth new (none_pushed m.third m.fourth m.all None (Compute op m.left m.right) m.pushes (λ access. refl))
      (converted_used (same_kind held.kind (extension_of op held.kind (kind_written t))) held.kind m.all m.fourth new v m.own))))

  -- Arms, and choices behind them.

  outcome_used : (holds : Truth) (test : ℕ) (old new : Draft) (v : ℕ) → MadeOutcome holds test old new v → AddsNone old new
  outcome_used true test old new v m = none_none old new m.0
  outcome_used false test old new v m =
      none_again old m.first new (none_pushed old m.first m.no_value None (Constant (truth false)) m.no_made (λ access. refl))
      (none_again m.first m.second new (none_pushed m.first m.second m.yes_value None (Constant (truth true)) m.yes_made (λ access. refl)) (none_pushed m.second new v None (Select test m.no_value m.yes_value) m.pushes (λ access. refl)))

  guard_used : (guard : Option ℕ) (t : ℕ) (old new : Draft) (v : ℕ) → MadeGuard guard t old new v → AddsNone old new
  guard_used None t old new v m = none_none old new m.0
  guard_used (Some g) t old new v m = none_pushed old new v None (Compute Both g t) m (λ access. refl)

  pub guards_used : (holds : Truth) (guards : List (Option ℕ)) (tests : List ℕ) (count : ℕ) (old new : Draft) (arm : List (Option ℕ)) → MadeArmGuards holds guards tests count old new arm → AddsNone old new
  guards_used holds guards tests zero old new arm m = none_none old new m.0
  guards_used holds guards tests (suc n) old new arm m = none_again old m.0 new (guards_used holds guards tests n old m.0 m.1.0 m.1.1.1.1.0) (one m.0 m.1.1.0 m.1.1.1.0 m.1.1.1.1.1.1.0)
    where
      one : (d : Draft) (test v : ℕ) → MadeArmGuard holds (guard_of guards n) test d new v → AddsNone d new
      one d test v g = none_again d g.middle new (outcome_used holds test d g.middle g.outcome g.comes_out) (guard_used (guard_of guards n) g.outcome g.middle new v g.joins)

  behind_used : (current : List (Option ℕ)) (register : ℕ) (o : Option ℕ) (old new : Draft) (v : ℕ) → MadeBehind current register o old new v → AddsNone old new
  behind_used current register None old new v m = shown_used current register old new v m
  behind_used current register (Some value) old new v m = none_none old new m.0

  choice_used : (o : Option ℕ) (c : Choice) (old new : Draft) (before after : Values) → MadeChoiceBy o c old new before after → AddsNone old new
  choice_used None c old new before after m = none_none old new m.0
  choice_used (Some test) c old new before after m =
      none_again old m.first new (behind_used before.current.items c.register c.chosen old m.first m.yes_value m.chosen)
      (none_again m.first m.second new (behind_used before.current.items c.register c.other m.first m.second m.no_value m.other) (none_pushed m.second new m.value None (Select test m.yes_value m.no_value) m.pushes (λ access. refl)))

  pub choices_used : (tests : List ℕ) (choices : List Choice) (count : ℕ) (old new : Draft) (before after : Values) → MadeChoices tests choices count old new before after → AddsNone old new
  choices_used tests choices zero old new before after m = none_none old new m.0
  choices_used tests choices (suc n) old new before after m =
      none_again old m.0 new (choices_used tests choices n old m.0 before m.1.0 m.1.1.1.0) (choice_used (slice_get tests (m.1.1.0).path) m.1.1.0 m.0 new m.1.0 after m.1.1.1.1.1)
