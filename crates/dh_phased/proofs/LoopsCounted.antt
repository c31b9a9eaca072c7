-- The loops of a program count, each with an iterator of its own.
use Rattle.std.proofs.Common.{◌≡◌, inl, inr, ℕ, zero, suc, ◌<◌, ◌≤◌, List, [], ◌∷◌, ◌++◌, length, Option, Some, None, refl, ap, sym, ◌∙◌, subst, arith}
use Rattle.std.specs.Prelude.{slice_get}
use Rattle.std.specs.List.{AllByRecursion}
use Rattle.dh_tree.specs.declared.trees.counters.Counter.{Counter}
use Rattle.dh_tree.specs.Counters.{counters_of}
use Rattle.dh_tree.specs.PlainTrees.{Program}
use Rattle.dh_tree.specs.declared.trees.programs.Entity.{Entity}
use Rattle.dh_tree.specs.Resolved.{resolved_action}
use Rattle.dh_tree.specs.Scopes.{at_end, body_scope, last_scope}
use Rattle.dh_tree.specs.Seen.{program_seen}
use Rattle.dh_meaning.specs.Core.{CorePhase, straightly, turning, looping, choosing, CorePhases, no_core_phases, phase_and, Turning}
use Rattle.dh_meaning.specs.CoreOf.{core_of, known_of}
use Rattle.dh_meaning.specs.Sites.{nothing_around}
use Rattle.dh_plan.specs.Correspondence.{Round}
use Rattle.dh_plan.specs.PlanPhases.{IsIteratorOf}
use Rattle.dh_expressions.specs.declared.scenes.Scene.{Scene}
use Rattle.dh_blocks.specs.SlotsOfScene.{placing_in}
use Rattle.dh_gathering.specs.LoopCounters.{IsCounting, LoopsCount, LoopsCountIn, loops_of_phase, loops_of_phases}
use Rattle.dh_gathering.specs.MadeBlocks.{IsAmong, counter_register as register_of}
use Rattle.dh_phased.specs.ProgramLoops.{HasOwnLoops, LoopsAreOwn}
use Rattle.dh_phased.proofs.CopiesSome.{placing_copies}
use Rattle.dh_phased.proofs.CountersAscend.{CountersFrom, counter_found, size}
use Rattle.dh_phased.proofs.CountersAscend as text
use Rattle.dh_phased.proofs.LoopsAscend.{IsLoopOf, LoopsFrom, ascend, loops_split, loops_within}

-- each is among all
pub among_self : (cs : List Counter) → AllByRecursion (IsAmong cs) cs
among_self cs = by cs (λ i c at. (i, at))
  where
    by : (xs : List Counter) → ((i : ℕ) (c : Counter) → slice_get xs i ≡ Some c → IsAmong cs c) → AllByRecursion (IsAmong cs) xs
    by [] h = tt
    by (x ∷ xs) h = (h 0 x refl, by xs (λ i c at. h (suc i) c at))

module _ (scene : Scene) (low high : ℕ) (counted : CountersFrom low high (counters_of (program_seen scene.program.now))) (held : high ≤ length scene.held.now) where
  abbrev all : List Counter
  all = counters_of (program_seen scene.program.now)

  is_counting : (l : Turning) (top : ℕ) → IsLoopOf all l → l.iterator < top → top ≤ length scene.held.now → IsCounting scene (placing_in scene) l
  is_counting l top is below within = record {
    there = less;
    counter = is.counter;
    counted = counter_found low high all l.iterator is.counter counted is.among is.entity;
    turns = is.turns;
    low = is.low;
    factor = is.factor;
    copies = placing_copies (program_seen scene.program.now) l.iterator;
  }
    where
      less : l.iterator < length scene.held.now
      less = omega (arith, below, within)

  counting_list : (from top : ℕ) (ls : List Turning) → LoopsFrom all from top ls → top ≤ length scene.held.now → AllByRecursion (IsCounting scene (placing_in scene)) ls
  counting_list from top [] h within = tt
  counting_list from top (l ∷ ls) h within =
      (is_counting l top h.1.0 (loops_within all (suc l.iterator) top ls h.1.1) within, counting_list (suc l.iterator) top ls h.1.1 within)

  -- an iterator is behind those before it
  behind_all : (from top : ℕ) (ls : List Turning) (i : ℕ) (l : Turning) → LoopsFrom all from top ls → slice_get ls i ≡ Some l → from ≤ l.iterator
  behind_all from top [] i l h at = absurd cc
  behind_all from top (x ∷ ls) zero l h at = subst (λ (y : Turning). from ≤ y.iterator) (ap loop_or at) h.0
    where
      loop_or : Option Turning → Turning
      loop_or None = x
      loop_or (Some y) = y
  behind_all from top (x ∷ ls) (suc i) l h at = more (behind_all (suc x.iterator) top ls i l h.1.1 at) h.0
    where
      more : suc x.iterator ≤ l.iterator → from ≤ x.iterator → from ≤ l.iterator
      more e f = omega (arith, e, f)

  own_list : (from top : ℕ) (ls : List Turning) → LoopsFrom all from top ls → (i j : ℕ) (a b : Turning) → slice_get ls i ≡ Some a → slice_get ls j ≡ Some b → a.iterator ≡ b.iterator → i ≡ j
  own_list from top [] h i j a b at at' e = absurd cc
  own_list from top (l ∷ ls) h zero zero a b at at' e = refl
  own_list from top (l ∷ ls) h zero (suc j) a b at at' e = absurd (differ (behind_all (suc l.iterator) top ls j b h.1.1 at') (ap (λ (y : Turning). y.iterator) (ap loop_or at)))
    where
      loop_or : Option Turning → Turning
      loop_or None = l
      loop_or (Some y) = y

      differ : suc l.iterator ≤ b.iterator → l.iterator ≡ a.iterator → ⊥
      differ f g = omega (arith, e, f, g)
  own_list from top (l ∷ ls) h (suc i) zero a b at at' e = absurd (differ (behind_all (suc l.iterator) top ls i a h.1.1 at) (ap (λ (y : Turning). y.iterator) (ap loop_or at')))
    where
      loop_or : Option Turning → Turning
      loop_or None = l
      loop_or (Some y) = y

      differ : suc l.iterator ≤ a.iterator → l.iterator ≡ b.iterator → ⊥
      differ f g = omega (arith, e, f, g)
  own_list from top (l ∷ ls) h (suc i) (suc j) a b at at' e = ap suc (own_list (suc l.iterator) top ls h.1.1 i j a b at at' e)

  -- Loops inside one another.

  abbrev AreBefore : ℕ → List Round → Type 0
  AreBefore n rounds = AllByRecursion (λ (r : Round). r.loop.iterator < n) rounds

  before_more : (n m : ℕ) (rounds : List Round) → n ≤ m → AreBefore n rounds → AreBefore m rounds
  before_more n m [] l h = tt
  before_more n m (r ∷ rounds) l h = (less h.0, before_more n m rounds l h.1)
    where
      less : r.loop.iterator < n → r.loop.iterator < m
      less e = omega (arith, l, e)

  before_append : (n : ℕ) (rounds : List Round) (r : Round) → AreBefore n rounds → r.loop.iterator < n → AreBefore n (rounds ++ r ∷ [])
  before_append n [] r h l = (l, tt)
  before_append n (x ∷ rounds) r h l = (h.0, before_append n rounds r h.1 l)

  none_round : (n : ℕ) (rounds : List Round) → AreBefore n rounds → IsIteratorOf rounds n → ⊥
  none_round n [] h e = absurd e
  none_round n (r ∷ rounds) h (inl e) = differ h.0 e
    where
      differ : r.loop.iterator < n → r.loop.iterator ≡ n → ⊥
      differ l f = omega (arith, l, f)
  none_round n (r ∷ rounds) h (inr e) = none_round n rounds h.1 e

  least_of : (n m k : ℕ) → n ≤ m → m ≤ k → n ≤ k
  least_of n m k e f = omega (arith, e, f)

  mutual
    inside_list : (from top : ℕ) (rounds : List Round) (qs : CorePhases) → LoopsFrom all from top (loops_of_phases qs) → AreBefore from rounds → top ≤ length scene.held.now → LoopsCount scene (placing_in scene) rounds qs
    inside_list from top rounds no_core_phases h before within = tt
    inside_list from top rounds (phase_and q qs) h before within =
        let parts = loops_split all from top (loops_of_phase q) (loops_of_phases qs) h in
        let low = loops_within all from parts.middle (loops_of_phase q) parts.front in
        let high = loops_within all parts.middle top (loops_of_phases qs) parts.back in
        (inside_one from parts.middle rounds q parts.front before (least_of parts.middle top (length scene.held.now) high within), inside_list parts.middle top rounds qs parts.back (before_more from parts.middle rounds low before) within)

    inside_one : (from top : ℕ) (rounds : List Round) (q : CorePhase) → LoopsFrom all from top (loops_of_phase q) → AreBefore from rounds → top ≤ length scene.held.now → LoopsCountIn scene (placing_in scene) rounds q
    inside_one from top rounds (straightly cs) h before within = tt
    inside_one from top rounds (turning loop body) h before within = (
      is_counting loop top h.1.0 (loops_within all (suc loop.iterator) top (loops_of_phases body) h.1.1) within,
      (
        λ e. none_round loop.iterator rounds (before_more from loop.iterator rounds h.0 before) e,
        inside_list (suc loop.iterator) top (rounds ++ record { loop = loop; counter = register_of scene loop } ∷ []) body h.1.1
            (before_append (suc loop.iterator) rounds (record { loop = loop; counter = register_of scene loop }) (before_more from (suc loop.iterator) rounds (more h.0) before) (next loop.iterator)) within,
      ),
    )
      where
        more : from ≤ loop.iterator → from ≤ suc loop.iterator
        more e = omega (arith, e)

        next : (n : ℕ) → n < suc n
        next n = omega arith
    inside_one from top rounds (looping test body) h before within = inside_list from top rounds body h before within
    inside_one from top rounds (choosing test chosen other) h before within =
        let parts = loops_split all from top (loops_of_phases chosen) (loops_of_phases other) h in
        let low = loops_within all from parts.middle (loops_of_phases chosen) parts.front in
        let high = loops_within all parts.middle top (loops_of_phases other) parts.back in
        (inside_list from parts.middle rounds chosen parts.front before (least_of parts.middle top (length scene.held.now) high within), inside_list parts.middle top rounds other parts.back (before_more from parts.middle rounds low before) within)

  pub own_loops : LoopsFrom all low high (loops_of_phases (core_of (program_seen scene.program.now)).phases) → HasOwnLoops scene
  own_loops h = record {
    inside = inside_list low high [] (core_of (program_seen scene.program.now)).phases h tt held;
    own = record {
      counting = counting_list low high (loops_of_phases (core_of (program_seen scene.program.now)).phases) h held;
      own = λ i j a b at at' e. own_list low high (loops_of_phases (core_of (program_seen scene.program.now)).phases) h i j a b at at' e;
    };
  }

pub loops_are_own : LoopsAreOwn
loops_are_own scene named long =
    let p : Program = program_seen scene.program.now in
    let body : resolved_action (body_scope p) p.body ≡ p.body = ap (λ (x : Program). x.body) named in
    let entities : (last_scope p).entities ≡ p.entities = ap (λ (x : Program). x.entities) named in
    own_loops scene (size (body_scope p)) (size (at_end (body_scope p) p.body)) (text.ascend (body_scope p) p.body body)
    (subst (λ (n : ℕ). n ≤ length scene.held.now) (sym (ap (λ (l : List Entity). length l) entities)) long)
    (ascend (counters_of p) (known_of p) (body_scope p) p.body nothing_around 0 body (among_self (counters_of p)))
