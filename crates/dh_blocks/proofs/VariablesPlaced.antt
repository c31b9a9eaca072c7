-- The registers of variables at the paths of a block: each seen variable has at each path the register of its copy there,
-- and each copy is seen at a path.
use Rattle.std.proofs.Common.{◌≡◌, ℕ, zero, suc, ◌+◌, ◌-◌, ◌<◌, ◌≤◌, ◌^◌, ◌&&◌, Bool, true, false, if◌then◌else◌, List, [], ◌∷◌, length, take, Option, Some, None, refl, ap, sym, ◌∙◌, subst, arith}
use Rattle.std.specs.Prelude.{min, not, nat_lt}
use Rattle.std.specs.Option.{is_some}
use Rattle.std.proofs.lemmas.Bool.Decides.{nat_tests}
use Rattle.dh_tree.specs.declared.trees.counters.Counter.{Counter}
use Rattle.dh_meaning.specs.Paths.{Path, copies_in}
use Rattle.dh_code.specs.Ranks.{IsPath, rank_of}
use Rattle.dh_code.specs.Slots.{IsPlacing, held_at, slot_of}
use Rattle.dh_code.proofs.Ranked.{path_begins}
use Rattle.dh_code.proofs.SlotsHeld.{one_copy, slot_below}
use Rattle.dh_expressions.specs.declared.paths.Level.{Level}
use Rattle.dh_expressions.specs.declared.scenes.Around.{Around}
use Rattle.dh_expressions.specs.declared.scenes.Scene.{Scene}
use Rattle.dh_expressions.specs.Evaluated.{counter_of}
use Rattle.dh_expressions.specs.Levels.{rank_number}
use Rattle.dh_commands.specs.LanesRun.{path_in, paths_counted}
use Rattle.dh_commands.specs.ShownVariables.{ArePlaced, IsSeen, depth_in, level_factors, register_in, seen_path}
use Rattle.dh_blocks.specs.SlotsOfScene.{is_path, placing_in, slots_in}
use Rattle.dh_blocks.specs.PathsOfLevels.{AreSpread}
use Rattle.dh_blocks.proofs.PathNumbers.{numbered, path_of_rank, rank_first_copies, rank_small}

-- Paths as a test.

pub path_true : (fs : List ℕ) (p : Path) → IsPath fs p → is_path fs p ≡ true
path_true [] [] h = refl
path_true [] (c ∷ p) h = absurd h
path_true (f ∷ fs) [] h = absurd h
path_true (f ∷ fs) (c ∷ p) h = both (nat_lt c f) (is_path fs p) (below c f h.0) (path_true fs p h.1)
  where
    below : (c f : ℕ) → c < f → nat_lt c f ≡ true
    below c f h = grind (arith, nat_tests)

    both : (a b : Bool) → a ≡ true → b ≡ true → (a && b) ≡ true
    both true b e g = g
    both false b e g = e

pub true_path : (fs : List ℕ) (p : Path) → is_path fs p ≡ true → IsPath fs p
true_path [] [] h = tt
true_path [] (c ∷ p) h = absurd (cc)
true_path (f ∷ fs) [] h = absurd (cc)
true_path (f ∷ fs) (c ∷ p) h = let b = both (nat_lt c f) (is_path fs p) h in (below c f b.0, true_path fs p b.1)
  where
    below : (c f : ℕ) → nat_lt c f ≡ true → c < f
    below c f h = grind (arith, nat_tests)

    both : (a b : Bool) → (a && b) ≡ true → (a ≡ true) × (b ≡ true)
    both true b e = (refl, e)
    both false b e = cc

-- a path inside the first loops leads on to one inside all
pub leads_on : (levels : List Level) → AreSpread levels → (d : ℕ) (p : Path) → IsPath (take d (level_factors levels)) p → (q : Path) × (IsPath (level_factors levels) q × (take d q ≡ p))
leads_on [] s zero [] h = ([], (tt, refl))
leads_on [] s (suc d) [] h = ([], (tt, refl))
leads_on [] s zero (c ∷ p) h = absurd h
leads_on [] s (suc d) (c ∷ p) h = absurd h
leads_on (l ∷ ls) s zero [] h = let (q, (is, e)) = leads_on ls s.1.1 0 [] (none ls) in (0 ∷ q, ((some l.factor s.0, is), refl))
  where
    some : (f : ℕ) → 1 < f → 0 < f
    some f h = omega (arith, h)

    none : (ls : List Level) → IsPath (take 0 (level_factors ls)) []
    none [] = tt
    none (l ∷ ls) = tt
leads_on (l ∷ ls) s zero (c ∷ p) h = absurd h
leads_on (l ∷ ls) s (suc d) [] h = absurd h
leads_on (l ∷ ls) s (suc d) (c ∷ p) h = let (q, (is, e)) = leads_on ls s.1.1 d p h.1 in (c ∷ q, ((h.0, is), ap (λ (r : Path). c ∷ r) e))

module _ (scene : Scene) (around : Around) (count : ℕ) (placing : IsPlacing (placing_in scene) count) (small : count < 2 ^ 64) (spread : AreSpread around.levels.now)
    (counted : paths_counted around ≡ copies_in (level_factors around.levels.now)) where
  inside : (i : ℕ) → i < paths_counted around → i < copies_in (level_factors around.levels.now)
  inside i h = subst (λ (n : ℕ). i < n) counted h

  -- the copy that is seen at a path
  pub copy_path : (e i : ℕ) → IsSeen scene around.levels.now e → i < paths_counted around → IsPath ((placing_in scene).factors e) (seen_path scene around e i)
  copy_path e i s h =
      subst (λ (fs : List ℕ). IsPath fs (seen_path scene around e i)) (sym s.round)
      (path_begins (level_factors around.levels.now) (path_in around i) (depth_in scene e) (numbered around.levels.now spread i (inside i h)).path)

  -- and its register
  pub register_slot : (e i : ℕ) → IsSeen scene around.levels.now e → i < paths_counted around → register_in scene around e i ≡ slot_of (placing_in scene) e (seen_path scene around e i)
  register_slot e i s h =
      let below : slot_of (placing_in scene) e (seen_path scene around e i) < (held_at scene.held.now e).first + copies_in ((placing_in scene).factors e) = slot_below (placing_in scene) e (seen_path scene around e i) (copy_path e i s h) in
      let among : (held_at scene.held.now e).first + copies_in ((placing_in scene).factors e) ≤ count = placing.within e s.there in
      ap (λ d. min ((held_at scene.held.now e).first + rank_number around.levels.now d i) (2 ^ 64 - 1)) s.held
      ∙ (ap (λ n. min ((held_at scene.held.now e).first + n) (2 ^ 64 - 1))
      (rank_first_copies around.levels.now spread (depth_in scene e) i (inside i h) s.deep ∙ ap (λ fs. rank_of fs (seen_path scene around e i)) (sym s.round))
      ∙ least (slot_of (placing_in scene) e (seen_path scene around e i)) _ count below among small)
    where
      least : (n k c : ℕ) → n < k → k ≤ c → c < 2 ^ 64 → min n (2 ^ 64 - 1) ≡ n
      least n k c a b d = grind (arith, a, b, d)

  pub register_small : (e i : ℕ) → IsSeen scene around.levels.now e → i < paths_counted around → register_in scene around e i < count
  register_small e i s h =
      let below = slot_below (placing_in scene) e (seen_path scene around e i) (copy_path e i s h) in
      let among = placing.within e s.there in
      subst (λ (n : ℕ). n < count) (sym (register_slot e i s h)) (omega (arith, below, among))

  pub are_placed : ArePlaced scene around
  are_placed = record {
    apart = λ e f i j s t a b same.
        one_copy (placing_in scene) count e f (seen_path scene around e i) (seen_path scene around f j) placing s.there t.there (copy_path e i s a) (copy_path f j t b)
        (sym (register_slot e i s a) ∙ (same ∙ register_slot f j t b));
    one = λ e i j s a b same.
        register_slot e i s a ∙ (ap (λ (p : Path). slot_of (placing_in scene) e p) same ∙ sym (register_slot e j s b));
  }

  -- each copy is seen at a path
  pub seen_at : (e : ℕ) (p : Path) → IsSeen scene around.levels.now e → IsPath ((placing_in scene).factors e) p → (i : ℕ) × ((i < paths_counted around) × (seen_path scene around e i ≡ p))
  seen_at e p s h =
      let (q, (is, begins)) = leads_on around.levels.now spread (depth_in scene e) p (subst (λ (fs : List ℕ). IsPath fs p) s.round h) in (
        rank_of (level_factors around.levels.now) q,
        (
          subst (λ (n : ℕ). rank_of (level_factors around.levels.now) q < n) (sym counted) (rank_small (level_factors around.levels.now) q is),
          ap (λ (r : Path). take (depth_in scene e) r) (path_of_rank around.levels.now spread q is) ∙ begins,
        ),
      )

-- Slots.

module _ (scene : Scene) where
  within_true : (e n : ℕ) → e < n → nat_lt e n ≡ true
  within_true e n h = grind (arith, nat_tests)

  true_within : (e n : ℕ) → nat_lt e n ≡ true → e < n
  true_within e n h = grind (arith, nat_tests)

  abbrev slot_if : (a b c : Bool) → (slot : ℕ) → Option ℕ
  slot_if a b c slot = if (a && not b) && c then Some slot else None

  pub slot_is : (e : ℕ) (p : Path) → e < length scene.held.now → counter_of scene e ≡ None → IsPath ((placing_in scene).factors e) p → slots_in scene e p ≡ Some (slot_of (placing_in scene) e p)
  slot_is e p within none path =
      by (nat_lt e (length scene.held.now)) (is_some (counter_of scene e)) (is_path ((placing_in scene).factors e) p) (within_true e _ within) (ap is_some none) (path_true ((placing_in scene).factors e) p path)
    where
      by : (a b c : Bool) → a ≡ true → b ≡ false → c ≡ true → slot_if a b c (slot_of (placing_in scene) e p) ≡ Some (slot_of (placing_in scene) e p)
      by true false true x y z = refl
      by true false false x y z = absurd (cc)
      by true true c x y z = absurd (cc)
      by false b c x y z = absurd (cc)

  -- a variable with a slot
  pub record IsSlot (e : ℕ) (p : Path) (r : ℕ) : Type 0 where
    pub there : e < length scene.held.now
    pub no_counter : counter_of scene e ≡ None
    pub path : IsPath ((placing_in scene).factors e) p
    pub slot : r ≡ slot_of (placing_in scene) e p

  pub slot_facts : (e : ℕ) (p : Path) (r : ℕ) → slots_in scene e p ≡ Some r → IsSlot e p r
  slot_facts e p r h = by (nat_lt e (length scene.held.now)) (counter_of scene e) (is_path ((placing_in scene).factors e) p) refl refl refl h
    where
      the : (a b : ℕ) → Some a ≡ Some b → b ≡ a
      the a b e = cc

      by : (a : Bool) (o : Option Counter) (c : Bool) → nat_lt e (length scene.held.now) ≡ a → counter_of scene e ≡ o → is_path ((placing_in scene).factors e) p ≡ c
          → slot_if a (is_some o) c (slot_of (placing_in scene) e p) ≡ Some r → IsSlot e p r
      by true None true x y z h = record { there = true_within e _ x; no_counter = y; path = true_path ((placing_in scene).factors e) p z; slot = the _ _ h }
      by true None false x y z h = absurd (cc)
      by true (Some k) c x y z h = absurd (cc)
      by false o c x y z h = absurd (cc)
