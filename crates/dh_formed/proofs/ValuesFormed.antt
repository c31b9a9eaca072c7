-- Values that are formed: an operation more takes what is there already, and one that took earlier values of its
-- kinds still does when others are added behind.
use Rattle.std.proofs.Common.{◌≡◌, ℕ, ◌-◌, ◌%◌, ◌^◌, ◌<◌, ◌≤◌, ◌⊎◌, inl, inr, true, false, List, Some, None, refl, sym, ap, ◌∙◌, subst, arith, length}
use Rattle.std.specs.Prelude.{Bool as Truth, ◌==◌, ◌&&◌, not, slice_get, Option}
use Rattle.std.proofs.lemmas.Bool.{cases_lt}
use Rattle.std.proofs.lemmas.Bool.Decides.{nat_tests}
use Rattle.std.proofs.Math.Nat.{mod-lt}
use Rattle.std.proofs.lemmas.Nat.{pow_pos}
use Rattle.dh_base.specs.declared.outcomes.FaultKind.{FaultKind}
use Rattle.dh_base.specs.declared.places.Place.{Place}
use Rattle.dh_value.specs.declared.kinds.Kind.{Kind}
use Rattle.dh_value.specs.declared.kinds.Kind.TheVariants as kind
use Rattle.dh_value.specs.declared.operators.Op.{Op}
use Rattle.dh_value.specs.declared.operators.Op.TheVariants as op
use Rattle.dh_value.specs.declared.words.Word.{Word}
use Rattle.dh_value.specs.Words.{IsInteger, IsKind, IsWidth, IsWord, width_of, with_bits}
use Rattle.dh_value.specs.Operations.{Suits, result_of}
use Rattle.dh_tree.specs.PlainTrees.{Term}
use Rattle.dh_meaning.specs.Effects.{bits_of}
use Rattle.dh_code.specs.Extended.{extension_of}
use Rattle.dh_tree.specs.Kinds.{same_kind}
use Rattle.dh_plan.specs.declared.operations.Operation.{Operation}
use Rattle.dh_plan.specs.declared.operations.OperationForm.{OperationForm}
use Rattle.dh_plan.specs.declared.operations.OperationForm.TheVariants.{Constant, Old, Compute, Convert}
use Rattle.dh_plan.specs.Blocks.{kind_at}
use Rattle.dh_plan.specs.Ordered.{IsBetween, TakesEarlier}
use Rattle.dh_plan.specs.PlanKinds.{form_kind}
use Rattle.dh_expressions.specs.declared.drafts.Draft.{Draft}
use Rattle.dh_expressions.specs.Drafted.{Extends, Pushes}
use Rattle.dh_formed.specs.Formed.{Agrees, FormedBlock, Forms, FormsValue, HasKind, HeldSuits, IsExtension, IsFormedAt, OperandsSuit, Started, kind_in_block, operand_kind}
use Rattle.dh_expressions.specs.MadeValues.{IsThere, MadeConverted, MadeCurrent, MadeExtended, MadeHeld, MadeLowestBit, MadeNumber, MadeOperation, MadeShown, MadeTruth}
use Rattle.dh_expressions.specs.Shown.{is_kept, is_read_term, kind_written}
use Rattle.dh_expressions.proofs.ListPlaces.{place_of_more, place_within, some_same, there}
use Rattle.dh_expressions.proofs.Pushing.{extends_again, extends_self, pushed_extends, pushed_longer, pushed_there}

-- Facts of operations in front.

pub faults_fewer : (old new : Draft) → Extends old new → length old.faults ≤ length new.faults
faults_fewer old new e = by (cases_lt (length new.faults) (length old.faults))
  where
    lost : length new.faults < length old.faults → (f : FaultKind × Place) × (slice_get old.faults (length new.faults) ≡ Some f) → ⊥
    lost less found = let w = place_within new.faults (length new.faults) found.0 (e.faults (length new.faults) found.0 found.1) in omega (arith, w)

    by : (length new.faults < length old.faults) ⊎ (length old.faults ≤ length new.faults) → length old.faults ≤ length new.faults
    by (inl less) = absurd (lost less (there old.faults (length new.faults) less))
    by (inr few) = few

pub agrees_before : (x : FormedBlock) (old new : Draft) → Extends old new → Agrees x new → Agrees x old
agrees_before x old new e a = record {
  kinds = λ n o from at takes. a.kinds n o from (e.operations n o at) takes;
  faults = let f = faults_fewer old new e in let g = a.faults in omega (arith, f, g);
  few = a.few;
}

pub started_later : (x : FormedBlock) (old new : Draft) → Extends old new → Started x old → Started x new
started_later x old new e s = let l = e.longer in omega (arith, s, l)

pub kind_later : (x : FormedBlock) (old new : Draft) (k : Kind) (n : ℕ) → Extends old new → HasKind x old k n → HasKind x new k n
kind_later x old new k n e h = record { from = h.from; below = let b = h.below in let l = e.longer in omega (arith, b, l); kind_is = h.kind_is }

pub kind_same : (x : FormedBlock) (d : Draft) (j k : Kind) (n : ℕ) → j ≡ k → HasKind x d j n → HasKind x d k n
kind_same x d j k n e h = record { from = h.from; below = h.below; kind_is = h.kind_is ∙ e }

pub forms_none : (x : FormedBlock) (d e : Draft) → e ≡ d → Forms x d e
forms_none x d e same = record { each = λ n o far at. absurd (never n o far at) }
  where
    never : (n : ℕ) (o : Operation) → length d.operations.items ≤ n → slice_get e.operations.items n ≡ Some o → ⊥
    never n o far at =
        let w = place_within e.operations.items n o at in
        let l : length e.operations.items ≡ length d.operations.items = ap (λ (k : Draft). length k.operations.items) same in
        omega (arith, w, l, far)

pub forms_again : (x : FormedBlock) (a b c : Draft) → Extends b c → Forms x a b → Forms x b c → Forms x a c
forms_again x a b c e f g = record { each = λ n o far at. by n o far at (cases_lt n (length b.operations.items)) }
  where
    front : (n : ℕ) (o : Operation) → length a.operations.items ≤ n → slice_get c.operations.items n ≡ Some o → (p : Operation) × (slice_get b.operations.items n ≡ Some p) → IsFormedAt x n o
    front n o far at found =
        subst (λ (p : Operation). IsFormedAt x n p) (some_same found.0 o (sym (e.operations n found.0 found.1) ∙ at)) (f.each n found.0 far found.1)

    by : (n : ℕ) (o : Operation) → length a.operations.items ≤ n → slice_get c.operations.items n ≡ Some o → (n < length b.operations.items) ⊎ (length b.operations.items ≤ n) → IsFormedAt x n o
    by n o far at (inl less) = front n o far at (there b.operations.items n less)
    by n o far at (inr behind) = g.each n o behind at

-- One operation more.
module _ (old new : Draft) (number : ℕ) (guard : Option ℕ) (form : OperationForm) (p : Pushes old new number guard form) (x : FormedBlock) where
  pub pushed_forms : IsFormedAt x (length old.operations.items) (record { guard = guard; form = form }) → Forms x old new
  pushed_forms h = record { each = λ n o far at. by n o far (place_of_more old.operations.items (record { guard = guard; form = form }) o n (sym (ap (λ (os : List Operation). slice_get os n) p.operations) ∙ at)) }
    where
      never : (n : ℕ) (o : Operation) → length old.operations.items ≤ n → slice_get old.operations.items n ≡ Some o → ⊥
      never n o far at = let w = place_within old.operations.items n o at in omega (arith, w, far)

      by : (n : ℕ) (o : Operation) → length old.operations.items ≤ n → (slice_get old.operations.items n ≡ Some o) ⊎ ((n ≡ length old.operations.items) × (o ≡ record { guard = guard; form = form })) → IsFormedAt x n o
      by n o far (inl at) = absurd (never n o far at)
      by n o far (inr q) = subst (λ (m : ℕ). IsFormedAt x m o) (sym q.0) (subst (λ (r : Operation). IsFormedAt x (length old.operations.items) r) (sym q.1) h)

  pub pushed_kind : TakesEarlier x.first (length old.operations.items) (record { guard = guard; form = form }) → Agrees x new → Started x old → HasKind x new (form_kind x.plan.table x.plan.registers x.first x.kinds form) number
  pushed_kind takes a s = record {
    from = let m = p.number_is in omega (arith, m, s);
    below = let l = pushed_longer old new number guard form p in let m = p.number_is in omega (arith, l, m);
    kind_is = a.kinds number (record { guard = guard; form = form }) (let m = p.number_is in omega (arith, m, s)) (pushed_there old new number guard form p)
        (subst (λ (m : ℕ). TakesEarlier x.first m (record { guard = guard; form = form })) (sym p.number_is) takes);
  }

-- what an operation takes of one value
pub between : (x : FormedBlock) (d : Draft) (k : Kind) (n : ℕ) → HasKind x d k n → IsBetween x.first (length d.operations.items) n
between x d k n h = (h.from, h.below)

-- a value put down without a guard
pub forms_pushed : (old new : Draft) (number : ℕ) (form : OperationForm) (Where : FormedBlock → Type 0) (kind : FormedBlock → Kind) → Pushes old new number None form
    → ((x : FormedBlock) → Where x → IsFormedAt x (length old.operations.items) (record { guard = None; form = form }))
    → ((x : FormedBlock) → Where x → form_kind x.plan.table x.plan.registers x.first x.kinds form ≡ kind x)
    → FormsValue old new number Where kind
forms_pushed old new number form Where kind p formed is = record {
  extends = pushed_extends old new number None form p;
  forms = λ x a s w. pushed_forms old new number None form p x (formed x w);
  gives = λ x a s w. kind_same x new _ (kind x) number (is x w) (pushed_kind old new number None form p x (formed x w).takes a s);
}

-- a value that stood there
pub forms_there : (old new : Draft) (value v : ℕ) (Where : FormedBlock → Type 0) (kind : FormedBlock → Kind) → IsThere old new value v
    → ((x : FormedBlock) → Where x → HasKind x old (kind x) value) → FormsValue old new v Where kind
forms_there old new value v Where kind h gives = record {
  extends = subst (λ (d : Draft). Extends old d) (sym h.0) (extends_self old);
  forms = λ x a s w. forms_none x old new h.0;
  gives = λ x a s w. subst (λ (n : ℕ). HasKind x new (kind x) n) (sym h.1) (subst (λ (d : Draft). HasKind x d (kind x) value) (sym h.0) (gives x w));
}

-- a value made of one that was made before
pub forms_then : (a b c : Draft) (u v : ℕ) (Where : FormedBlock → Type 0) (first second : FormedBlock → Kind) → FormsValue a b u Where first
    → FormsValue b c v (λ x. Where x × HasKind x b (first x) u) second → FormsValue a c v Where second
forms_then a b c u v Where first second f g = record {
  extends = extends_again a b c f.extends g.extends;
  forms = λ x at s w.
      let before = agrees_before x b c g.extends at in
      forms_again x a b c g.extends (f.forms x before s w) (g.forms x at (started_later x a b f.extends s) (w, f.gives x before s w));
  gives = λ x at s w. g.gives x at (started_later x a b f.extends s) (w, f.gives x (agrees_before x b c g.extends at) s w);
}

-- the same where more holds, or told otherwise
pub forms_where : (a b : Draft) (v : ℕ) (Where Other : FormedBlock → Type 0) (kind other : FormedBlock → Kind) → ((x : FormedBlock) → Other x → Where x) → ((x : FormedBlock) → Other x → kind x ≡ other x)
    → FormsValue a b v Where kind → FormsValue a b v Other other
forms_where a b v Where Other kind other more same f = record {
  extends = f.extends;
  forms = λ x at s w. f.forms x at s (more x w);
  gives = λ x at s w. kind_same x b (kind x) (other x) v (same x w) (f.gives x at s (more x w));
}

-- Forms one by one.

pub number_fits : (k : Kind) (negative : Truth) (n : ℕ) → IsKind k → IsWord (with_bits k (bits_of k negative n))
number_fits k false n sized = record { sized = sized; fits = mod-lt n (pow_pos (width_of k)) }
number_fits k true n sized = record { sized = sized; fits = mod-lt (2 ^ width_of k - n % 2 ^ width_of k) (pow_pos (width_of k)) }

pub constant_forms : (old new : Draft) (v : ℕ) (word : Word) (Where : FormedBlock → Type 0) (kind : FormedBlock → Kind) → Pushes old new v None (Constant word)
    → ((x : FormedBlock) → Where x → IsWord word) → ((x : FormedBlock) → Where x → word.kind ≡ kind x) → FormsValue old new v Where kind
constant_forms old new v word Where kind p fits is =
    forms_pushed old new v (Constant word) Where kind p (λ x w. record { takes = tt; suits = record { guard = tt; form = fits x w } }) is

pub number_forms : (k : Kind) (negative : Truth) (n : ℕ) (old new : Draft) (v : ℕ) → MadeNumber k negative n old new v → FormsValue old new v (λ x. IsKind k) (λ x. k)
number_forms k negative n old new v m =
    constant_forms old new v m.word (λ x. IsKind k) (λ x. k) m.pushes (λ x sized. subst (λ (w : Word). IsWord w) (sym (m.is sized)) (number_fits k negative n sized))
    (λ x sized. ap (λ (w : Word). w.kind) (m.is sized))

pub old_forms : (old new : Draft) (v register : ℕ) → Pushes old new v None (Old register) → FormsValue old new v (λ x. register < length x.plan.registers) (λ x. kind_at x.plan.registers register)
old_forms old new v register p =
    forms_pushed old new v (Old register) _ _ p (λ x w. record { takes = tt; suits = record { guard = tt; form = w } }) (λ x w. refl)

-- an operator on two values of kinds that suit it
pub compute_forms : (old new : Draft) (v a b : ℕ) (o : Op) (j k : Kind) → Pushes old new v None (Compute o a b)
    → FormsValue old new v (λ x. Suits o j k × (HasKind x old j a × HasKind x old k b)) (λ x. result_of o j)
compute_forms old new v a b o j k p =
    forms_pushed old new v (Compute o a b) _ _ p
    (λ x w. record {
      takes = (between x old j a w.1.0, (between x old k b w.1.1, tt));
      suits = record { guard = tt; form = subst (λ (l : Kind). Suits o l (kind_in_block x b)) (sym w.1.0.kind_is) (subst (λ (r : Kind). Suits o j r) (sym w.1.1.kind_is) w.0) };
    }) (λ x w. ap (λ (l : Kind). result_of o l) w.1.0.kind_is)

-- a conversion of a value of any kind
pub convert_forms : (old new : Draft) (v a : ℕ) (to : Kind) (kind : FormedBlock → Kind) → Pushes old new v None (Convert a to)
    → FormsValue old new v (λ x. IsInteger to × HasKind x old (kind x) a) (λ x. to)
convert_forms old new v a to kind p =
    forms_pushed old new v (Convert a to) _ _ p (λ x w. record { takes = (between x old (kind x) a w.1, tt); suits = record { guard = tt; form = w.0 } }) (λ x w. refl)

-- Conversions of the value of an expression.

numbers_same : (m n : ℕ) → (m == n) ≡ true → m ≡ n
numbers_same m n e = grind (arith, nat_tests, e)

pub kinds_same : (j k : Kind) → same_kind j k ≡ true → j ≡ k
kinds_same kind.Bool kind.Bool e = refl
kinds_same kind.Bool (kind.Unsigned n) e = absurd (cc)
kinds_same kind.Bool (kind.Signed n) e = absurd (cc)
kinds_same (kind.Unsigned m) kind.Bool e = absurd (cc)
kinds_same (kind.Unsigned m) (kind.Unsigned n) e = ap (λ w. kind.Unsigned w) (numbers_same m n e)
kinds_same (kind.Unsigned m) (kind.Signed n) e = absurd (cc)
kinds_same (kind.Signed m) kind.Bool e = absurd (cc)
kinds_same (kind.Signed m) (kind.Unsigned n) e = absurd (cc)
kinds_same (kind.Signed m) (kind.Signed n) e = ap (λ w. kind.Signed w) (numbers_same m n e)

first_of_both : (a b : Truth) → (a && b) ≡ true → a ≡ true
first_of_both true b e = refl
first_of_both false b e = absurd (cc)

kept_kind : (t : Term) (to : Kind) → is_kept t to ≡ true → kind_written t ≡ to
kept_kind t to e = kinds_same (kind_written t) to (first_of_both (same_kind (kind_written t) to) (not (is_read_term t)) e)

pub converted_forms : (t : Term) (to : Kind) (value : ℕ) (old new : Draft) (v : ℕ) → MadeConverted (is_kept t to) to value old new v
    → FormsValue old new v (λ x. IsInteger to × HasKind x old (kind_written t) value) (λ x. to)
converted_forms t to value old new v m = by (is_kept t to) refl m
  where
    by : (b : Truth) → is_kept t to ≡ b → MadeConverted b to value old new v → FormsValue old new v (λ x. IsInteger to × HasKind x old (kind_written t) value) (λ x. to)
    by true e m = forms_there old new value v _ (λ x. to) m (λ x w. kind_same x old (kind_written t) to value (kept_kind t to e) w.1)
    by false e m = convert_forms old new v value to (λ x. kind_written t) m

pub extended_forms : (t : Term) (to : Kind) (value : ℕ) (old new : Draft) (v : ℕ) → MadeExtended t to value old new v
    → FormsValue old new v (λ x. IsExtension to × HasKind x old (kind_written t) value) (λ x. operand_kind (kind_written t) to)
extended_forms t kind.Bool value old new v m = forms_there old new value v _ (λ x. kind_written t) m (λ x w. w.1)
extended_forms t (kind.Unsigned w) value old new v m = converted_forms t (kind.Unsigned w) value old new v m
extended_forms t (kind.Signed w) value old new v m = converted_forms t (kind.Signed w) value old new v m

abbrev extension_by : Op → (left right : Term) → Kind
extension_by o left right = extension_of o (kind_written left) (kind_written right)

pub operation_forms : (o : Op) (left right : Term) (k : Kind) (a b : ℕ) (old new : Draft) (v : ℕ) → MadeOperation o left right a b old new v
    → FormsValue old new v (λ x. OperandsSuit o (kind_written left) (kind_written right) k × (HasKind x old (kind_written left) a × HasKind x old (kind_written right) b)) (λ x. k)
operation_forms o left right k a b old new v m = record {
  extends = extends_again old m.first new l.extends (extends_again m.first m.second new r.extends c.extends);
  forms = λ x at s w.
      let at2 = agrees_before x m.second new c.extends at in
      let at1 = agrees_before x m.first m.second r.extends at2 in
      let s1 = started_later x old m.first l.extends s in
      let s2 = started_later x m.first m.second r.extends s1 in
      forms_again x old m.first new (extends_again m.first m.second new r.extends c.extends) (l.forms x at1 s (w.0.extension, w.1.0))
      (forms_again x m.first m.second new c.extends (r.forms x at2 s1 (w.0.extension, kind_later x old m.first _ b l.extends w.1.1)) (c.forms x at s2 (operands x at s w)));
  gives = λ x at s w.
      kind_same x new _ k v (sym w.0.result_is) (c.gives x at (started_later x m.first m.second r.extends (started_later x old m.first l.extends s)) (operands x at s w));
}
  where
    l : FormsValue old m.first m.x (λ x. IsExtension (extension_by o left right) × HasKind x old (kind_written left) a) (λ x. operand_kind (kind_written left) (extension_by o left right))
    l = extended_forms left (extension_by o left right) a old m.first m.x m.left_made

    r : FormsValue m.first m.second m.y (λ x. IsExtension (extension_by o left right) × HasKind x m.first (kind_written right) b) (λ x. operand_kind (kind_written right) (extension_by o left right))
    r = extended_forms right (extension_by o left right) b m.first m.second m.y m.right_made

    c : FormsValue m.second new v (λ x. Suits o (operand_kind (kind_written left) (extension_by o left right)) (operand_kind (kind_written right) (extension_by o left right)) × (HasKind x m.second (operand_kind (kind_written left) (extension_by o left right)) m.x × HasKind x m.second (operand_kind (kind_written right) (extension_by o left right)) m.y))
        (λ x. result_of o (operand_kind (kind_written left) (extension_by o left right)))
    c = compute_forms m.second new v m.x m.y o (operand_kind (kind_written left) (extension_by o left right)) (operand_kind (kind_written right) (extension_by o left right)) m.pushes

    operands : (x : FormedBlock) → Agrees x new → Started x old → OperandsSuit o (kind_written left) (kind_written right) k × (HasKind x old (kind_written left) a × HasKind x old (kind_written right) b)
        → Suits o (operand_kind (kind_written left) (extension_by o left right)) (operand_kind (kind_written right) (extension_by o left right)) × (HasKind x m.second (operand_kind (kind_written left) (extension_by o left right)) m.x × HasKind x m.second (operand_kind (kind_written right) (extension_by o left right)) m.y)
    operands x at s w =
        let at2 = agrees_before x m.second new c.extends at in
        let at1 = agrees_before x m.first m.second r.extends at2 in
        let s1 = started_later x old m.first l.extends s in (
          w.0.suits,
          (
            kind_later x m.first m.second _ m.x r.extends (l.gives x at1 s (w.0.extension, w.1.0)),
            r.gives x at2 s1 (w.0.extension, kind_later x old m.first _ b l.extends w.1.1),
          ),
        )

-- a truth that a memory held
lowest_forms : (value : ℕ) (own : FormedBlock → Kind) (old new : Draft) (v : ℕ) → MadeLowestBit value old new v → FormsValue old new v (λ x. HasKind x old (own x) value) (λ x. kind.Bool)
lowest_forms value own old new v m = record {
  extends = extends_again old m.first new l.extends (extends_again m.first m.second new r.extends c.extends);
  forms = λ x at s w.
      let at2 = agrees_before x m.second new c.extends at in
      let at1 = agrees_before x m.first m.second r.extends at2 in
      let s1 = started_later x old m.first l.extends s in
      let s2 = started_later x m.first m.second r.extends s1 in
      forms_again x old m.first new (extends_again m.first m.second new r.extends c.extends) (l.forms x at1 s (sized, w))
      (forms_again x m.first m.second new c.extends (r.forms x at2 s1 sized) (c.forms x at s2 (operands x at s w)));
  gives = λ x at s w. c.gives x at (started_later x m.first m.second r.extends (started_later x old m.first l.extends s)) (operands x at s w);
}
  where
    sized : IsWidth 1
    sized = (omega arith, omega arith)

    l : FormsValue old m.first m.bit (λ x. IsInteger (kind.Unsigned 1) × HasKind x old (own x) value) (λ x. kind.Unsigned 1)
    l = convert_forms old m.first m.bit value (kind.Unsigned 1) own m.converts

    r : FormsValue m.first m.second m.one (λ x. IsKind (kind.Unsigned 1)) (λ x. kind.Unsigned 1)
    r = number_forms (kind.Unsigned 1) false 1 m.first m.second m.one m.constant

    c : FormsValue m.second new v (λ x. Suits op.Eq (kind.Unsigned 1) (kind.Unsigned 1) × (HasKind x m.second (kind.Unsigned 1) m.bit × HasKind x m.second (kind.Unsigned 1) m.one)) (λ x. kind.Bool)
    c = compute_forms m.second new v m.bit m.one op.Eq (kind.Unsigned 1) (kind.Unsigned 1) m.pushes

    operands : (x : FormedBlock) → Agrees x new → Started x old → HasKind x old (own x) value
        → Suits op.Eq (kind.Unsigned 1) (kind.Unsigned 1) × (HasKind x m.second (kind.Unsigned 1) m.bit × HasKind x m.second (kind.Unsigned 1) m.one)
    operands x at s w =
        let at2 = agrees_before x m.second new c.extends at in
        let at1 = agrees_before x m.first m.second r.extends at2 in
        let s1 = started_later x old m.first l.extends s in
        (refl, (kind_later x m.first m.second _ m.bit r.extends (l.gives x at1 s (sized, w)), r.gives x at2 s1 sized))

-- a value as a variable or a memory holds it
pub held_forms : (t : Term) (to : Kind) (value : ℕ) (old new : Draft) (v : ℕ) → MadeHeld t to value old new v
    → FormsValue old new v (λ x. HeldSuits t to × HasKind x old (kind_written t) value) (λ x. to)
held_forms t kind.Bool value old new v m = by (is_read_term t) m
  where
    by : (b : Truth) → MadeTruth b value old new v → FormsValue old new v (λ x. HeldSuits t kind.Bool × HasKind x old (kind_written t) value) (λ x. kind.Bool)
    by true m = forms_where old new v (λ x. HasKind x old (kind_written t) value) _ (λ x. kind.Bool) (λ x. kind.Bool) (λ x w. w.1) (λ x w. refl) (lowest_forms value (λ x. kind_written t) old new v m)
    by false m = forms_there old new value v _ (λ x. kind.Bool) m (λ x w. kind_same x old (kind_written t) kind.Bool value w.0 w.1)
held_forms t (kind.Unsigned w) value old new v m = converted_forms t (kind.Unsigned w) value old new v m
held_forms t (kind.Signed w) value old new v m = converted_forms t (kind.Signed w) value old new v m

-- Variables.

-- a register is there, and a value that its variable was given is of its kind
abbrev pub ShowsThere : (current : List (Option ℕ)) → (register : ℕ) → Draft → FormedBlock → Type 0
ShowsThere current register old x = (register < length x.plan.registers) × ((value : ℕ) → slice_get current register ≡ Some (Some value) → HasKind x old (kind_at x.plan.registers register) value)

pub shown_forms : (current : List (Option ℕ)) (register : ℕ) (old new : Draft) (v : ℕ) → MadeShown current register old new v
    → FormsValue old new v (λ x. (register < length x.plan.registers) × ((value : ℕ) → slice_get current register ≡ Some (Some value) → HasKind x old (kind_at x.plan.registers register) value))
    (λ x. kind_at x.plan.registers register)
shown_forms current register old new v m = by (slice_get current register) refl m
  where
    by : (o : Option (Option ℕ)) → slice_get current register ≡ o → MadeCurrent o register old new v → FormsValue old new v (ShowsThere current register old) (λ x. kind_at x.plan.registers register)
    by None e m = forms_where old new v (λ x. register < length x.plan.registers) (ShowsThere current register old) (λ x. kind_at x.plan.registers register) (λ x. kind_at x.plan.registers register) (λ x w. w.0) (λ x w. refl) (old_forms old new v register m)
    by (Some None) e m = forms_where old new v (λ x. register < length x.plan.registers) (ShowsThere current register old) (λ x. kind_at x.plan.registers register) (λ x. kind_at x.plan.registers register) (λ x w. w.0) (λ x w. refl) (old_forms old new v register m)
    by (Some (Some value)) e m = forms_there old new value v (ShowsThere current register old) (λ x. kind_at x.plan.registers register) m (λ x w. w.1 value e)
