-- Trees of wires. A list is its front and its back, and each half is told by one wire.
-- Whether any wire of a list is 1 is so of one of the halves; the first test that is 1 is that of the front, and where
-- the front has none that of the back. By induction on the length of the front.
use Rattle.std.proofs.Common.{◌≡◌, ℕ, zero, suc, Bool, true, false, if◌then◌else◌, List, [], ◌∷◌, take, drop, refl, sym, ap, subst, ◌∙◌}
use Rattle.std.specs.Prelude.{◌==◌, ◌||◌}
use Rattle.dh_cells.specs.declared.trees.Tested.{Tested}
use Rattle.dh_cells.specs.PlainCircuits.{PlainCircuit}
use Rattle.dh_cells.specs.Settled.{Signals, shown, Grows, IsWire, Adds, AreWires}
use Rattle.dh_cells.specs.ShownValues.{bit, is_one, number_shown, either_shown, choice_shown, any_one, any_shown, first_of, first_shown}
use Rattle.dh_cells.specs.FirstTests.{IsTested, AreTested, FindsFirst}
use Rattle.dh_cells.proofs.CellsAppended.{settled_fewer, wire_stays, wires_stay, grows_then, grows_none}
use Rattle.dh_cells.proofs.OperatorBits.{bit_tells, bit_of}
use Rattle.dh_cells.proofs.WiresMade.{adds_none}

-- Any of many.

front_wires : (d : PlainCircuit) (n : ℕ) (ws : List ℕ) (width : ℕ) → AreWires d ws width → AreWires d (take n ws) width
front_wires d zero ws width h = tt
front_wires d (suc n) [] width h = tt
front_wires d (suc n) (w ∷ ws) width h = (h.0, front_wires d n ws width h.1)

back_wires : (d : PlainCircuit) (n : ℕ) (ws : List ℕ) (width : ℕ) → AreWires d ws width → AreWires d (drop n ws) width
back_wires d zero ws width h = h
back_wires d (suc n) [] width h = tt
back_wires d (suc n) (w ∷ ws) width h = back_wires d n ws width h.1

-- the same where the halves go by other names
pub are_front : (d : PlainCircuit) (n : ℕ) (ws front : List ℕ) (width : ℕ) → front ≡ take n ws → AreWires d ws width → AreWires d front width
are_front d n ws front width e h = subst (λ (l : List ℕ). AreWires d l width) (sym e) (front_wires d n ws width h)

pub are_back : (d e : PlainCircuit) (n : ℕ) (ws back : List ℕ) (width : ℕ) → Grows d e → back ≡ drop n ws → AreWires d ws width → AreWires e back width
are_back d e n ws back width g same h =
    subst (λ (l : List ℕ). AreWires e l width) (sym same) (wires_stay d e (drop n ws) width g (back_wires d n ws width h))

or_step : (t a b c : Bool) → (a || b) ≡ c → ((t || a) || b) ≡ (t || c)
or_step true a b c e = refl
or_step false a b c e = e

any_parts : (x : Signals) (n : ℕ) (ws : List ℕ) → (any_one x (take n ws) || any_one x (drop n ws)) ≡ any_one x ws
any_parts x zero ws = refl
any_parts x (suc n) [] = refl
any_parts x (suc n) (w ∷ ws) = or_step (is_one x w) (any_one x (take n ws)) (any_one x (drop n ws)) (any_one x ws) (any_parts x n ws)

any_of_parts : (d e f g : PlainCircuit) (wire a b n : ℕ) (ws : List ℕ) → Adds d e a 1 (any_shown (take n ws)) → Adds e f b 1 (any_shown (drop n ws))
    → Adds f g wire 1 (either_shown a b) → Adds d g wire 1 (any_shown ws)
any_of_parts d e f g wire a b n ws left right made = record {
  grows = grows_then d f g (grows_then d e f left.grows right.grows) made.grows;
  shows = record {
    there = made.shows.there;
    is = λ x s.
        let s' = settled_fewer f g x made.grows s in
        let p : is_one x a ≡ any_one x (take n ws) = bit_tells (shown x a) (any_one x (take n ws)) (left.shows.is x (settled_fewer e f x right.grows s')) in
        let q : is_one x b ≡ any_one x (drop n ws) = bit_tells (shown x b) (any_one x (drop n ws)) (right.shows.is x s') in
        made.shows.is x s
        ∙ (ap (λ (t : Bool). bit (t || is_one x b)) p ∙ (ap (λ (t : Bool). bit (any_one x (take n ws) || t)) q ∙ ap (λ (t : Bool). bit t) (any_parts x n ws)));
  };
}

pub any_made : (d e f g : PlainCircuit) (wire a b n : ℕ) (ws front back : List ℕ) → front ≡ take n ws → back ≡ drop n ws → Adds d e a 1 (any_shown front)
    → Adds e f b 1 (any_shown back) → Adds f g wire 1 (either_shown a b) → Adds d g wire 1 (any_shown ws)
any_made d e f g wire a b n ws front back p q left right made =
    any_of_parts d e f g wire a b n ws
    (subst (λ (l : List ℕ). Adds d e a 1 (any_shown l)) p left) (subst (λ (l : List ℕ). Adds e f b 1 (any_shown l)) q right) made

pub any_single : (d : PlainCircuit) (w : ℕ) → IsWire d w 1 → Adds d d w 1 (any_shown (w ∷ []))
any_single d w h = adds_none d w 1 (any_shown (w ∷ [])) h λ x s. bit_of (shown x w) (h.fits x s)

-- The first of many.

pub tested_stays : (old new : PlainCircuit) (t : Tested) (width : ℕ) → Grows old new → IsTested old t width → IsTested new t width
tested_stays old new t width g h = record { test = wire_stays old new t.test 1 g h.test; value = wire_stays old new t.value width g h.value }

pub tests_stay : (old new : PlainCircuit) (ts : List Tested) (width : ℕ) → Grows old new → AreTested old ts width → AreTested new ts width
tests_stay old new [] width g h = tt
tests_stay old new (t ∷ ts) width g h = (tested_stays old new t width g h.0, tests_stay old new ts width g h.1)

front_tests : (d : PlainCircuit) (n : ℕ) (ts : List Tested) (width : ℕ) → AreTested d ts width → AreTested d (take n ts) width
front_tests d zero ts width h = tt
front_tests d (suc n) [] width h = tt
front_tests d (suc n) (t ∷ ts) width h = (h.0, front_tests d n ts width h.1)

back_tests : (d : PlainCircuit) (n : ℕ) (ts : List Tested) (width : ℕ) → AreTested d ts width → AreTested d (drop n ts) width
back_tests d zero ts width h = h
back_tests d (suc n) [] width h = tt
back_tests d (suc n) (t ∷ ts) width h = back_tests d n ts width h.1

pub front_tested : (d : PlainCircuit) (n : ℕ) (ts front : List Tested) (width : ℕ) → front ≡ take n ts → AreTested d ts width → AreTested d front width
front_tested d n ts front width e h = subst (λ (l : List Tested). AreTested d l width) (sym e) (front_tests d n ts width h)

pub back_tested : (d e : PlainCircuit) (n : ℕ) (ts back : List Tested) (width : ℕ) → Grows d e → back ≡ drop n ts → AreTested d ts width → AreTested e back width
back_tested d e n ts back width g same h =
    subst (λ (l : List Tested). AreTested e l width) (sym same) (tests_stay d e (drop n ts) width g (back_tests d n ts width h))

first_parts : (x : Signals) (n : ℕ) (ts : List Tested) (default : ℕ) → first_of x (take n ts) (first_of x (drop n ts) default) ≡ first_of x ts default
first_parts x zero ts default = refl
first_parts x (suc n) [] default = refl
first_parts x (suc n) (t ∷ ts) default =
    ap (λ (v : ℕ). if is_one x t.test then shown x t.value else v) (first_parts x n ts default)

-- one for the front and one for the back, and one for both of these
first_of_parts : (d e f g : PlainCircuit) (width n : ℕ) (ts : List Tested) (a b c : Tested) → FindsFirst d e width (take n ts) a → FindsFirst e f width (drop n ts) b
    → FindsFirst f g width (a ∷ b ∷ []) c → FindsFirst d g width ts c
first_of_parts d e f g width n ts a b c left right made = record {
  grows = grows_then d f g (grows_then d e f left.grows right.grows) made.grows;
  there = made.there;
  stands = λ x s default.
      let s' = settled_fewer f g x made.grows s in
      let p = left.stands x (settled_fewer e f x right.grows s') (first_of x (drop n ts) default) in
      let q = right.stands x s' default in
      made.stands x s default ∙ (ap (λ (v : ℕ). first_of x (a ∷ []) v) q ∙ (p ∙ first_parts x n ts default));
}

pub first_made : (d e f g : PlainCircuit) (width n : ℕ) (ts front back : List Tested) (a b c : Tested) → front ≡ take n ts → back ≡ drop n ts → FindsFirst d e width front a
    → FindsFirst e f width back b → FindsFirst f g width (a ∷ b ∷ []) c → FindsFirst d g width ts c
first_made d e f g width n ts front back a b c p q left right made =
    first_of_parts d e f g width n ts a b c
    (subst (λ (l : List Tested). FindsFirst d e width l a) p left) (subst (λ (l : List Tested). FindsFirst e f width l b) q right) made

pub first_single : (d : PlainCircuit) (width : ℕ) (t : Tested) → IsTested d t width → FindsFirst d d width (t ∷ []) t
first_single d width t h = record { grows = grows_none d; there = h; stands = λ x s default. refl }

pub first_none : (d e f : PlainCircuit) (width test value : ℕ) → Adds d e test 1 (number_shown 0) → Adds e f value width (number_shown 0)
    → FindsFirst d f width [] (record { test = test; value = value })
first_none d e f width test value p q = record {
  grows = grows_then d e f p.grows q.grows;
  there = record { test = wire_stays e f test 1 q.grows p.shows.there; value = q.shows.there };
  stands = λ x s default.
      ap (λ (n : ℕ). if n == 1 then shown x value else default) (p.shows.is x (settled_fewer e f x q.grows s));
}

by_either : (p q : Bool) (a b default : ℕ) → (if (p || q) then (if p then a else b) else default) ≡ (if p then a else (if q then b else default))
by_either true q a b default = refl
by_either false q a b default = refl

pub former_made : (d e f : PlainCircuit) (width test value : ℕ) (a b : Tested) → Adds d e test 1 (either_shown a.test b.test)
    → Adds e f value width (choice_shown a.test a.value b.value) → FindsFirst d f width (a ∷ b ∷ []) (record { test = test; value = value })
former_made d e f width test value a b p q = record {
  grows = grows_then d e f p.grows q.grows;
  there = record { test = wire_stays e f test 1 q.grows p.shows.there; value = q.shows.there };
  stands = λ x s default.
      let t : is_one x test ≡ (is_one x a.test || is_one x b.test) = bit_tells (shown x test) (is_one x a.test || is_one x b.test) (p.shows.is x (settled_fewer e f x q.grows s)) in
      let v : shown x value ≡ (if is_one x a.test then shown x a.value else shown x b.value) = q.shows.is x s in
      ap (λ (y : Bool). if y then shown x value else default) t
      ∙ (ap (λ (n : ℕ). if (is_one x a.test || is_one x b.test) then n else default) v
      ∙ by_either (is_one x a.test) (is_one x b.test) (shown x a.value) (shown x b.value) default);
}

-- with a value where none is
pub first_done : (d e f : PlainCircuit) (width wire default : ℕ) (ts : List Tested) (c : Tested) → FindsFirst d e width ts c
    → Adds e f wire width (choice_shown c.test c.value default) → Adds d f wire width (first_shown ts default)
first_done d e f width wire default ts c found made = record {
  grows = grows_then d e f found.grows made.grows;
  shows = record {
    there = made.shows.there;
    is = λ x s. made.shows.is x s ∙ found.stands x (settled_fewer e f x made.grows s) (shown x default);
  };
}

pub first_default : (d : PlainCircuit) (width default : ℕ) (ts : List Tested) → ts ≡ [] → IsWire d default width → Adds d d default width (first_shown ts default)
first_default d width default ts none h =
    subst (λ (l : List Tested). Adds d d default width (first_shown l default)) (sym none) (adds_none d default width (first_shown [] default) h (λ x s. refl))
