-- Expressions whose parts have their kinds.
use Rattle.std.proofs.Common.{◌≡◌, ℕ, ◌&&◌, Bool, true, false, map, Option, Some, None, Vec, if◌then◌else◌, refl, sym, ap, ◌∙◌}
use Rattle.std.specs.Global.{Global, Box}
use Rattle.std.specs.Box.{with_value}
use Rattle.dh_base.specs.declared.places.Place.{Place}
use Rattle.dh_value.specs.declared.kinds.Kind.{Kind}
use Rattle.dh_value.specs.declared.kinds.Kind.TheVariants as kind
use Rattle.dh_value.specs.declared.operators.Op.{Op}
use Rattle.dh_tree.specs.declared.trees.expressions.Ref.{Ref}
use Rattle.dh_tree.specs.declared.trees.expressions.Expr.{Expr}
use Rattle.dh_tree.specs.declared.trees.expressions.ExprForm.{ExprForm}
use Rattle.dh_tree.specs.declared.trees.expressions.ExprForm.TheVariants.{Access, Physical, Binary, Cast}
use Rattle.dh_tree.specs.PlainTrees.{Term, term, TermForm, number, truth_value, named, accessed, in_bank, applied, converted}
use Rattle.dh_tree.specs.Seen.{form_seen, term_seen, terms}
use Rattle.dh_tree.specs.Kinds.{Facts, is_bare, is_bare_form, keeps_bare, is_shift, found, form_found, left_want, right_want, for_numbers, typed_term, typed_form}
use Rattle.dh_tree.proofs.SeenTerms.{access_is, physical_is, binary_is, cast_is}
use Rattle.dh_types.specs.Bare.{settled, settled_form, filled_in, filled_in_form, filled_if_bare}
use Rattle.dh_types.proofs.Indices.{terms_listed}

-- what is wanted of an operation that is not bare does not matter
left_any : (o : Op) (want : Option Kind) (a b : Bool) (right : Option Kind) → (keeps_bare o && (a && b)) ≡ false → left_want o want a b right ≡ left_want o None a b right
left_any o want false b right e = refl
left_any o want true false right e = refl
left_any o want true true right e = by (keeps_bare o) e
  where
    by : (t : Bool) → (t && true) ≡ false → (if t then want else None) ≡ (if t then None else None)
    by true e = cc
    by false e = refl

right_any : (o : Op) (want : Option Kind) (a b : Bool) (left : Option Kind) → (keeps_bare o && (a && b)) ≡ false → right_want o want a b left ≡ right_want o None a b left
right_any o want a false left e = refl
right_any o want false true left e = refl
right_any o want true true left e = ap (λ k. if is_shift o then Some (kind.Unsigned 32) else k) (by (keeps_bare o) e)
  where
    by : (t : Bool) → (t && true) ≡ false → (if t then want else None) ≡ (if t then None else None)
    by true e = cc
    by false e = refl

form_any : (facts : Facts) (want : Option Kind) (f : TermForm) → is_bare_form f ≡ false → typed_form facts want f ≡ typed_form facts None f
form_any facts want (number negative n) e = refl
form_any facts want (truth_value value) e = refl
form_any facts want (named r) e = refl
form_any facts want (accessed r indices) e = refl
form_any facts want (in_bank r bank bank_place row) e = refl
form_any facts want (applied o left right) e =
    ap (λ k. applied o (typed_term facts k left) (typed_term facts (right_want o want (is_bare left) (is_bare right) (found (typed_term facts None left))) right))
    (left_any o want (is_bare left) (is_bare right) (found (typed_term facts None right)) e)
    ∙ ap (λ k. applied o (typed_term facts (left_want o None (is_bare left) (is_bare right) (found (typed_term facts None right))) left) (typed_term facts k right))
    (right_any o want (is_bare left) (is_bare right) (found (typed_term facts None left)) e)
form_any facts want (converted inner to) e = refl

found_any : (facts : Facts) (want : Option Kind) (f g : TermForm) → is_bare_form f ≡ false → form_found facts want (typed_form facts None f) ≡ form_found facts None (typed_form facts None f)
found_any facts want (number negative n) g e = cc
found_any facts want (truth_value value) g e = refl
found_any facts want (named r) g e = refl
found_any facts want (accessed r indices) g e = refl
found_any facts want (in_bank r bank bank_place row) g e = refl
found_any facts want (applied o left right) g e = refl
found_any facts want (converted inner to) g e = refl

any_want : (facts : Facts) (want : Option Kind) (t : Term) → is_bare t ≡ false → typed_term facts want t ≡ typed_term facts None t
any_want facts want (term place kind form) e =
    ap (λ g. term place (form_found facts want g) g) (form_any facts want form e)
    ∙ ap (λ k. term place k (typed_form facts None form)) (found_any facts want form form e)

mutual
  bare_typed : (facts : Facts) (want : Option Kind) (t : Term) → is_bare (typed_term facts want t) ≡ is_bare t
  bare_typed facts want (term place kind form) = bare_typed_form facts want form

  bare_typed_form : (facts : Facts) (want : Option Kind) (f : TermForm) → is_bare_form (typed_form facts want f) ≡ is_bare_form f
  bare_typed_form facts want (number negative n) = refl
  bare_typed_form facts want (truth_value value) = refl
  bare_typed_form facts want (named r) = refl
  bare_typed_form facts want (accessed r indices) = refl
  bare_typed_form facts want (in_bank r bank bank_place row) = refl
  bare_typed_form facts want (applied o left right) =
      ap (λ b. keeps_bare o && (b && is_bare (typed_term facts (right_want o want (is_bare left) (is_bare right) (found (typed_term facts None left))) right)))
      (bare_typed facts (left_want o want (is_bare left) (is_bare right) (found (typed_term facts None right))) left)
      ∙ ap (λ b. keeps_bare o && (is_bare left && b)) (bare_typed facts (right_want o want (is_bare left) (is_bare right) (found (typed_term facts None left))) right)
  bare_typed_form facts want (converted inner to) = refl

if_true : {A : Type 0} (t : Bool) (x y : A) → t ≡ true → (if t then x else y) ≡ x
if_true true x y e = refl
if_true false x y e = cc

if_false : {A : Type 0} (t : Bool) (x y : A) → t ≡ false → (if t then x else y) ≡ y
if_false true x y e = cc
if_false false x y e = refl

-- operands of a bare operation are bare
bare_operands : (facts : Facts) (want : Option Kind) (op : Op) (a b a' b' : Term) → (keeps_bare op && (is_bare a && is_bare b)) ≡ true → (is_bare a ≡ true → a' ≡ typed_term facts (left_want op want true true None) a) → (is_bare b ≡ true → b' ≡ typed_term facts (right_want op want true true None) b)
    → applied op a' b' ≡ typed_form facts want (applied op a b)
bare_operands facts want op a b a' b' both one two = by (keeps_bare op) (is_bare a) (is_bare b) refl refl both
  where
    by : (k x y : Bool) → is_bare a ≡ x → is_bare b ≡ y → (k && (x && y)) ≡ true → applied op a' b' ≡ typed_form facts want (applied op a b)
    by false x y p q e = cc
    by true false y p q e = cc
    by true true false p q e = cc
    by true true true p q e =
        ap (λ t. applied op t b') (one p) ∙ ap (λ t. applied op (typed_term facts (left_want op want true true None) a) t) (two q)
        ∙ sym (ap (λ z. applied op (typed_term facts (left_want op want z (is_bare b) (found (typed_term facts None b))) a) (typed_term facts (right_want op want z (is_bare b) (found (typed_term facts None a))) b)) p
        ∙ ap (λ z. applied op (typed_term facts (left_want op want true z (found (typed_term facts None b))) a) (typed_term facts (right_want op want true z (found (typed_term facts None a))) b)) q)

-- what a bare expression is filled in with are its kinds
mutual
  filled_bare : (facts : Facts) (want : Option Kind) (t : Term) → is_bare t ≡ true → filled_in facts want t ≡ typed_term facts want t
  filled_bare facts want (term place kind form) e = ap (λ g. term place (form_found facts want g) g) (filled_bare_form facts want form e)

  filled_bare_form : (facts : Facts) (want : Option Kind) (f : TermForm) → is_bare_form f ≡ true → filled_in_form facts want f ≡ typed_form facts want f
  filled_bare_form facts want (number negative n) e = refl
  filled_bare_form facts want (truth_value value) e = cc
  filled_bare_form facts want (named r) e = cc
  filled_bare_form facts want (accessed r indices) e = cc
  filled_bare_form facts want (in_bank r bank bank_place row) e = cc
  filled_bare_form facts want (converted inner to) e = cc
  filled_bare_form facts want (applied o left right) e =
      bare_operands facts want o left right (filled_in facts (left_want o want true true None) left) (filled_in facts (right_want o want true true None) right) e
      (λ b. filled_bare facts (left_want o want true true None) left b) (λ b. filled_bare facts (right_want o want true true None) right b)

-- a form that is no operation stays as it is
pub filled_kept : (facts : Facts) (want : Option Kind) (form g : ExprForm) (p : TermForm) → form ≡ g → form_seen g ≡ p → filled_in_form facts want p ≡ p → form_seen form ≡ filled_in_form facts want (form_seen form)
filled_kept facts want form g p is seen same =
    let e = ap form_seen is ∙ seen in
    e ∙ sym same ∙ sym (ap (λ f. filled_in_form facts want f) e)

module _ (facts : Facts) where
  -- an expression that is settled and not bare
  pub settled_typed : (want : Option Kind) (t t' : Term) (bare : Bool) → bare ≡ is_bare t → bare ≡ false → t' ≡ settled facts t → t' ≡ typed_term facts want t
  settled_typed want t t' bare is fails e = e ∙ if_false (is_bare t) t (typed_term facts None t) (sym is ∙ fails) ∙ sym (any_want facts want t (sym is ∙ fails))

  -- a bare expression is as it was
  pub settled_bare : (t t' : Term) (bare : Bool) → bare ≡ is_bare t → bare ≡ true → t' ≡ settled facts t → t' ≡ t
  settled_bare t t' bare is holds e = e ∙ if_true (is_bare t) t (typed_term facts None t) (sym is ∙ holds)

  -- a bare expression that was left for its place
  pub settled_filled : (want : Option Kind) (t t1 t2 : Term) (bare : Bool) → bare ≡ is_bare t → bare ≡ true → t1 ≡ settled facts t → t2 ≡ filled_in facts want t1 → t2 ≡ typed_term facts want t
  settled_filled want t t1 t2 bare is holds s f = f ∙ ap (λ x. filled_in facts want x) (settled_bare t t1 bare is holds s) ∙ filled_bare facts want t (sym is ∙ holds)

  -- the operands of an operation, one after the other
  pub filled_binary : (want : Option Kind) (form : ExprForm) (op : Op) (left right : Box Expr) (l l' r r' : Expr) (wl wr : Option Kind) → form ≡ Binary op left right → l ≡ left.value → r ≡ right.value
      → wl ≡ left_want op want true true None → wr ≡ right_want op want true true None
      → term_seen l' ≡ filled_in facts wl (term_seen l) → term_seen r' ≡ filled_in facts wr (term_seen r)
      → form_seen (Binary op (with_value left l') (with_value right r')) ≡ filled_in_form facts want (form_seen form)
  filled_binary want form op left right l l' r r' wl wr is lis ris lwant rwant one two =
      let seen : form_seen form ≡ applied op (term_seen l) (term_seen r) =
      ap form_seen is ∙ binary_is op left right ∙ ap (λ x. applied op (term_seen x) (term_seen right.value)) (sym lis) ∙ ap (λ x. applied op (term_seen l) (term_seen x)) (sym ris) in
      binary_is op (with_value left l') (with_value right r')
      ∙ ap (λ x. applied op x (term_seen r')) (one ∙ ap (λ k. filled_in facts k (term_seen l)) lwant)
      ∙ ap (λ x. applied op (filled_in facts (left_want op want true true None) (term_seen l)) x) (two ∙ ap (λ k. filled_in facts k (term_seen r)) rwant)
      ∙ sym (ap (λ f. filled_in_form facts want f) seen)

  pub settled_access : (form : ExprForm) (r : Ref) (v v' : Vec Expr Global) → form ≡ Access r v → map term_seen v'.items ≡ map (typed_term facts None) (map term_seen v.items)
      → form_seen (Access r v') ≡ settled_form facts (form_seen form)
  settled_access form r v v' is all =
      access_is r v'
      ∙ ap (λ l. accessed r (terms l)) all
      ∙ ap (λ l. accessed r l) (sym (terms_listed facts (map term_seen v.items)))
      ∙ sym (ap (settled_form facts) (ap form_seen is ∙ access_is r v))

  pub settled_physical : (form : ExprForm) (r : Ref) (bank : ℕ) (place : Place) (row : Box Expr) (row' : Expr) → form ≡ Physical r bank place row → term_seen row' ≡ typed_term facts None (term_seen row.value)
      → form_seen (Physical r bank place (with_value row row')) ≡ settled_form facts (form_seen form)
  settled_physical form r bank place row row' is one =
      physical_is r bank place (with_value row row')
      ∙ ap (λ t. in_bank r bank place t) one
      ∙ sym (ap (settled_form facts) (ap form_seen is ∙ physical_is r bank place row))

  pub settled_cast : (form : ExprForm) (inner : Box Expr) (inner' : Expr) (to : Kind) → form ≡ Cast inner to → term_seen inner' ≡ typed_term facts (for_numbers (Some to)) (term_seen inner.value)
      → form_seen (Cast (with_value inner inner') to) ≡ settled_form facts (form_seen form)
  settled_cast form inner inner' to is one =
      cast_is (with_value inner inner') to
      ∙ ap (λ t. converted t to) one
      ∙ sym (ap (settled_form facts) (ap form_seen is ∙ cast_is inner to))

  -- an operation that is bare stays as it was
  pub bare_binary : (form : ExprForm) (op : Op) (left right : Box Expr) (l l1 r r1 : Expr) (bl br b : Bool) → form ≡ Binary op left right → l ≡ left.value → r ≡ right.value
      → bl ≡ is_bare (term_seen l) → term_seen l1 ≡ settled facts (term_seen l) → br ≡ is_bare (term_seen r) → term_seen r1 ≡ settled facts (term_seen r)
      → b ≡ (keeps_bare op && (bl && br)) → b ≡ true
      → form_seen (Binary op (with_value left l1) (with_value right r1)) ≡ settled_form facts (form_seen form)
  bare_binary form op left right l l1 r r1 bl br b is lis ris lb ls rb rs test holds =
      let seen : form_seen form ≡ applied op (term_seen l) (term_seen r) =
      ap form_seen is ∙ binary_is op left right ∙ ap (λ x. applied op (term_seen x) (term_seen right.value)) (sym lis) ∙ ap (λ x. applied op (term_seen l) (term_seen x)) (sym ris) in
      binary_is op (with_value left l1) (with_value right r1)
      ∙ by (term_seen l) (term_seen r) (term_seen l1) (term_seen r1) bl br (keeps_bare op) lb rb ls rs refl (sym test ∙ holds)
      ∙ sym (ap (settled_form facts) seen)
    where
      by : (a c a1 c1 : Term) (x y k : Bool) → x ≡ is_bare a → y ≡ is_bare c → a1 ≡ settled facts a → c1 ≡ settled facts c → keeps_bare op ≡ k → (k && (x && y)) ≡ true → applied op a1 c1 ≡ settled_form facts (applied op a c)
      by a c a1 c1 x y false p q s t k e = cc
      by a c a1 c1 false y true p q s t k e = cc
      by a c a1 c1 true false true p q s t k e = cc
      by a c a1 c1 true true true p q s t k e =
          ap (λ z. applied op z c1) (s ∙ if_true (is_bare a) a (typed_term facts None a) (sym p))
          ∙ ap (λ z. applied op a z) (t ∙ if_true (is_bare c) c (typed_term facts None c) (sym q))
          ∙ sym (if_true (keeps_bare op && (is_bare a && is_bare c)) (applied op a c) (typed_form facts None (applied op a c))
          (ap (λ z. z && (is_bare a && is_bare c)) k ∙ ap (λ z. z && is_bare c) (sym p) ∙ sym q))

  -- bareness does not depend on kinds
  bare_settled : (t : Term) → is_bare (settled facts t) ≡ is_bare t
  bare_settled t = by (is_bare t)
    where
      by : (b : Bool) → is_bare (if b then t else typed_term facts None t) ≡ is_bare t
      by true = refl
      by false = bare_typed facts None t

  if_filled : (b : Bool) (want : Option Kind) (t : Term) → b ≡ is_bare t → filled_if_bare facts b want t ≡ (if b then typed_term facts want t else t)
  if_filled true want t e = filled_bare facts want t (sym e)
  if_filled false want t e = refl

  operands_settled : (o : Op) (l l1 l2 r r1 r2 : Term) (bl br : Bool) (wl wr : Option Kind)
      → bl ≡ is_bare l → l1 ≡ settled facts l → br ≡ is_bare r → r1 ≡ settled facts r → (keeps_bare o && (bl && br)) ≡ false
      → wl ≡ left_want o None true br (found r1) → (bl ≡ is_bare l1 → l2 ≡ (if bl then typed_term facts wl l1 else l1))
      → wr ≡ right_want o None bl true (found l2) → (br ≡ is_bare r1 → r2 ≡ (if br then typed_term facts wr r1 else r1))
      → applied o l2 r2 ≡ settled_form facts (applied o l r)
  operands_settled o l l1 l2 r r1 r2 bl br wl wr lb ls rb rs not_bare lwant lf rwant rf =
      let test : (keeps_bare o && (is_bare l && is_bare r)) ≡ false = sym (ap (λ z. keeps_bare o && (z && br)) lb ∙ ap (λ z. keeps_bare o && (is_bare l && z)) rb) ∙ not_bare in
      let lf' = lf (lb ∙ sym (bare_settled l) ∙ sym (ap is_bare ls)) in
      let rf' = rf (rb ∙ sym (bare_settled r) ∙ sym (ap is_bare rs)) in
      by bl br lb rb lwant lf' rwant rf' ∙ sym (if_false (keeps_bare o && (is_bare l && is_bare r)) (applied o l r) (typed_form facts None (applied o l r)) test)
    where
      goal : (x y : Bool) → TermForm
      goal x y =
          applied o (typed_term facts (left_want o None x y (found (typed_term facts None r))) l) (typed_term facts (right_want o None x y (found (typed_term facts None l))) r)

      at : (x y : Bool) → x ≡ is_bare l → y ≡ is_bare r → goal x y ≡ typed_form facts None (applied o l r)
      at x y p q = ap (λ z. goal z y) p ∙ ap (λ z. goal (is_bare l) z) q

      by : (x y : Bool) → x ≡ is_bare l → y ≡ is_bare r → wl ≡ left_want o None true y (found r1) → l2 ≡ (if x then typed_term facts wl l1 else l1) → wr ≡ right_want o None x true (found l2) → r2 ≡ (if y then typed_term facts wr r1 else r1)
          → applied o l2 r2 ≡ typed_form facts None (applied o l r)
      by false false p q lwant lf rwant rf =
          let l' : l2 ≡ typed_term facts None l = lf ∙ ls ∙ if_false (is_bare l) l (typed_term facts None l) (sym p) in
          let r' : r2 ≡ typed_term facts None r = rf ∙ rs ∙ if_false (is_bare r) r (typed_term facts None r) (sym q) in
          ap (λ z. applied o z r2) l' ∙ ap (λ z. applied o (typed_term facts None l) z) r' ∙ at false false p q
      by true false p q lwant lf rwant rf =
          let r1' : r1 ≡ typed_term facts None r = rs ∙ if_false (is_bare r) r (typed_term facts None r) (sym q) in
          let l1' : l1 ≡ l = ls ∙ if_true (is_bare l) l (typed_term facts None l) (sym p) in
          let w : wl ≡ left_want o None true false (found (typed_term facts None r)) = lwant ∙ ap (λ z. left_want o None true false (found z)) r1' in
          ap (λ z. applied o z r2) (lf ∙ ap (λ z. typed_term facts z l1) w ∙ ap (λ z. typed_term facts (left_want o None true false (found (typed_term facts None r))) z) l1')
          ∙ ap (λ z. applied o (typed_term facts (left_want o None true false (found (typed_term facts None r))) l) z) (rf ∙ r1')
          ∙ at true false p q
      by false true p q lwant lf rwant rf =
          let l' : l2 ≡ typed_term facts None l = lf ∙ ls ∙ if_false (is_bare l) l (typed_term facts None l) (sym p) in
          let r1' : r1 ≡ r = rs ∙ if_true (is_bare r) r (typed_term facts None r) (sym q) in
          let w : wr ≡ right_want o None false true (found (typed_term facts None l)) = rwant ∙ ap (λ z. right_want o None false true (found z)) l' in
          ap (λ z. applied o z r2) l'
          ∙ ap (λ z. applied o (typed_term facts None l) z) (rf ∙ ap (λ z. typed_term facts z r1) w ∙ ap (λ z. typed_term facts (right_want o None false true (found (typed_term facts None l))) z) r1')
          ∙ at false true p q
      by true true p q lwant lf rwant rf =
          let l1' : l1 ≡ l = ls ∙ if_true (is_bare l) l (typed_term facts None l) (sym p) in
          let r1' : r1 ≡ r = rs ∙ if_true (is_bare r) r (typed_term facts None r) (sym q) in
          ap (λ z. applied o z r2) (lf ∙ ap (λ z. typed_term facts z l1) lwant ∙ ap (λ z. typed_term facts (left_want o None true true None) z) l1')
          ∙ ap (λ z. applied o (typed_term facts (left_want o None true true None) l) z) (rf ∙ ap (λ z. typed_term facts z r1) rwant ∙ ap (λ z. typed_term facts (right_want o None true true None) z) r1')
          ∙ at true true p q

  -- an operation that is not bare has its kinds
  pub settled_binary : (form : ExprForm) (op : Op) (left right : Box Expr) (l l1 p l2 r r1 q r2 : Expr) (bl br b : Bool) → form ≡ Binary op left right → l ≡ left.value → r ≡ right.value
      → bl ≡ is_bare (term_seen l) → term_seen l1 ≡ settled facts (term_seen l) → br ≡ is_bare (term_seen r) → term_seen r1 ≡ settled facts (term_seen r)
      → b ≡ (keeps_bare op && (bl && br)) → b ≡ false → p ≡ l1 → q ≡ r1
      → term_seen l2 ≡ filled_if_bare facts bl (left_want op None true br (found (term_seen q))) (term_seen p)
      → term_seen r2 ≡ filled_if_bare facts br (right_want op None bl true (found (term_seen l2))) (term_seen q)
      → form_seen (Binary op (with_value left l2) (with_value right r2)) ≡ settled_form facts (form_seen form)
  settled_binary form op left right l l1 p l2 r r1 q r2 bl br b is lis ris lb ls rb rs test fails ps qs lf rf =
      let seen : form_seen form ≡ applied op (term_seen l) (term_seen r) =
      ap form_seen is ∙ binary_is op left right ∙ ap (λ x. applied op (term_seen x) (term_seen right.value)) (sym lis) ∙ ap (λ x. applied op (term_seen l) (term_seen x)) (sym ris) in
      binary_is op (with_value left l2) (with_value right r2)
      ∙ operands_settled op (term_seen l) (term_seen p) (term_seen l2) (term_seen r) (term_seen q) (term_seen r2) bl br (left_want op None true br (found (term_seen q))) (right_want op None bl true (found (term_seen l2)))
      lb (ap term_seen ps ∙ ls) rb (ap term_seen qs ∙ rs) (sym test ∙ fails)
      refl (λ e. lf ∙ if_filled bl (left_want op None true br (found (term_seen q))) (term_seen p) e) refl (λ e. rf ∙ if_filled br (right_want op None bl true (found (term_seen l2))) (term_seen q) e)
      ∙ sym (ap (settled_form facts) seen)
