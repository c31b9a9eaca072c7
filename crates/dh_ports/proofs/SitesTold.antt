-- Two accesses of a program stand in one Straight phase exactly where their incidents have one phase, and the
-- unrolled loops round each are those that its incident names.
use Rattle.std.proofs.Common.{◌≡◌, ℕ, zero, suc, ◌+◌, ◌≤◌, ◌<◌, ◌==◌, ◌&&◌, ◌||◌, Bool, true, false, List, [], ◌∷◌, ◌++◌, refl, ap, sym, ◌∙◌, arith}
use Rattle.std.proofs.lemmas.Bool.{eq-eqb, eqb-true, ne_eqb}
use Rattle.std.proofs.lemmas.Option.{slice_get-map}
use Rattle.std.specs.Prelude.{Option, Some, None, option_map, slice_get}
use Rattle.dh_tree.specs.declared.trees.counters.Counter.{Counter}
use Rattle.dh_tree.specs.Numbers.{commands_in, IsNumbered}
use Rattle.dh_tree.specs.PlainTrees.{Program}
use Rattle.dh_meaning.specs.Phases.{Phase, phases_of, idle_phases_of}
use Rattle.dh_meaning.specs.Sites.{nothing_around}
use Rattle.dh_meets.specs.SourceEvents.{accesses_in, trace}
use Rattle.dh_events.specs.declared.events.Site.{Site}
use Rattle.dh_events.specs.Incidents.{PortEvent, touches, assigned, arm_begins, arm_ends, begins, next, ends, closed}
use Rattle.dh_events.specs.Rounds.{rounds_in}
use Rattle.dh_events.specs.Stages.{stages_in}
use Rattle.dh_ports.specs.Layouts.{no_rounds}
use Rattle.dh_ports.specs.Wholes.{no_stages, happenings_of, sites_in, loops_known, TellsPhases, TellsLoops}
use Rattle.dh_ports.proofs.PhaseRuns.{in_any, stands, times, flat, phases_told, any_stands, stands_any}
use Rattle.dh_ports.proofs.PhaseShapes.{into_none}
use Rattle.dh_ports.proofs.StagesKnown.{known}
use Rattle.dh_ports.proofs.PhaseSites.{tells, idle_append, told}
use Rattle.dh_ports.proofs.PhaseTags.{runs_append, tagged, one_at_most}
use Rattle.dh_ports.proofs.LoopsKnown as loops
use Rattle.dh_ports.proofs.LoopsTold.{loops_at, action_same}

tells_early : (n : ℕ) (xs : List PortEvent) (k p : ℕ) → k < n → tells n xs k p ≡ false
tells_early n [] k p e = refl
tells_early n (touches t w s ∷ xs) k p e = none (s.phase == p) (n == k) (tells (suc n) xs k p) (ne_eqb n k (λ f. omega (arith, e, f))) (tells_early (suc n) xs k p (omega (arith, e)))
  where
    none : (a b c : Bool) → b ≡ false → c ≡ false → ((a && b) || c) ≡ false
    none true b c f g = ap (λ v. v || c) f ∙ g
    none false b c f g = g
tells_early n (assigned x ∷ xs) k p e = tells_early n xs k p e
tells_early n (arm_begins ∷ xs) k p e = tells_early n xs k p e
tells_early n (arm_ends ∷ xs) k p e = tells_early n xs k p e
tells_early n (begins ∷ xs) k p e = tells_early n xs k p e
tells_early n (next ∷ xs) k p e = tells_early n xs k p e
tells_early n (ends ∷ xs) k p e = tells_early n xs k p e

same_site : (s t : Site) → Some s ≡ Some t → s ≡ t
same_site s t e = cc

-- the phase of an access's site is the one that is told of it
tells_site : (n : ℕ) (xs : List PortEvent) (i p : ℕ) (s : Site) → slice_get (sites_in xs) i ≡ Some s → tells n xs (n + i) p ≡ (s.phase == p)
tells_site n [] i p s e = absurd cc
tells_site n (touches t w z ∷ xs) zero p s e =
    found (z.phase == p) (n == n + 0) (tells (suc n) xs (n + 0) p) (eq-eqb n (n + 0) (omega arith)) (tells_early (suc n) xs (n + 0) p (omega arith)) ∙ ap (λ y. y.phase == p) (same_site z s e)
  where
    found : (a b c : Bool) → b ≡ true → c ≡ false → ((a && b) || c) ≡ a
    found true b c f g = ap (λ v. v || c) f
    found false b c f g = g
tells_site n (touches t w z ∷ xs) (suc i) p s e =
    later (z.phase == p) (n == n + suc i) (tells (suc n) xs (n + suc i) p) (ne_eqb n (n + suc i) (λ f. omega (arith, f)))
    ∙ (ap (λ k. tells (suc n) xs k p) (sums n i) ∙ tells_site (suc n) xs i p s e)
  where
    sums : (n i : ℕ) → n + suc i ≡ suc n + i
    sums n i = omega arith

    later : (a b c : Bool) → b ≡ false → ((a && b) || c) ≡ c
    later true b c f = ap (λ v. v || c) f
    later false b c f = refl
tells_site n (assigned x ∷ xs) i p s e = tells_site n xs i p s e
tells_site n (arm_begins ∷ xs) i p s e = tells_site n xs i p s e
tells_site n (arm_ends ∷ xs) i p s e = tells_site n xs i p s e
tells_site n (begins ∷ xs) i p s e = tells_site n xs i p s e
tells_site n (next ∷ xs) i p s e = tells_site n xs i p s e
tells_site n (ends ∷ xs) i p s e = tells_site n xs i p s e

both_ways : (a b : Bool) → (a ≡ true → b ≡ true) → (b ≡ true → a ≡ true) → a ≡ b
both_ways true b f g = sym (f refl)
both_ways false true f g = g refl
both_ways false false f g = refl

loops_are : (p : Program) (round : Option ℕ) → loops_known p round ≡ loops_at (rounds_in [] p.body no_rounds) round
loops_are p None = refl
loops_are p (Some id) = refl

module _ (first : ℕ) (p : Program) (numbers : IsNumbered first p.body) where
  abbrev all_phases : List Phase
  all_phases = phases_of p ++ idle_phases_of p

  all_told : (k q : ℕ) → tells 0 (happenings_of p) k q ≡ stands None (flat all_phases) k q
  all_told k q =
      told (stages_in p.body no_stages) None closed nothing_around 0 p.body k q (known first p.body no_stages (stages_in p.body no_stages) numbers (λ i w. refl))
      ∙ (ap (λ o. stands o (flat (phases_of p)) k q || stands None (flat (idle_phases_of p)) k q) (into_none (phases_of p)) ∙ idle_append (phases_of p) (idle_phases_of p) k q)

  one_tag : (q : ℕ) → times q (flat all_phases) ≤ 1
  one_tag q = less _ _ _ _ (runs_append q (phases_of p) (idle_phases_of p)) (tagged q nothing_around 0 first p.body numbers) (one_at_most q first (commands_in p.body))
    where
      less : (a b c d : ℕ) → a ≡ b + c → b + c ≤ d → d ≤ 1 → a ≤ 1
      less a b c d e f g = omega (arith, e, f, g)

  site_stands : (i q : ℕ) (s : Site) → slice_get (sites_in (happenings_of p)) i ≡ Some s → stands None (flat all_phases) i q ≡ (s.phase == q)
  site_stands i q s e = sym (all_told i q) ∙ (ap (λ k. tells 0 (happenings_of p) k q) (from_none i) ∙ tells_site 0 (happenings_of p) i q s e)
    where
      from_none : (n : ℕ) → n ≡ 0 + n
      from_none n = omega arith

  pub tells_phases : TellsPhases p
  tells_phases i j s t at_i at_j = phases_told i j all_phases ∙ both_ways (in_any i j (flat all_phases)) (s.phase == t.phase) there back
    where
      there : in_any i j (flat all_phases) ≡ true → (s.phase == t.phase) ≡ true
      there e = by (any_stands i j (flat all_phases) e)
        where
          by : (q : ℕ) × ((stands None (flat all_phases) i q ≡ true) × (stands None (flat all_phases) j q ≡ true)) → (s.phase == t.phase) ≡ true
          by (q, (f, g)) = eq-eqb s.phase t.phase (eqb-true s.phase q (sym (site_stands i q s at_i) ∙ f) ∙ sym (eqb-true t.phase q (sym (site_stands j q t at_j) ∙ g)))

      back : (s.phase == t.phase) ≡ true → in_any i j (flat all_phases) ≡ true
      back e =
          stands_any i j s.phase (flat all_phases) (one_tag s.phase) (site_stands i s.phase s at_i ∙ eq-eqb s.phase s.phase refl)
          (site_stands j s.phase t at_j ∙ eq-eqb t.phase s.phase (sym (eqb-true s.phase t.phase e)))

  pub tells_loops : TellsLoops p
  tells_loops k s a at_k in_k =
      loops_are p s.round
      ∙ same (loops_at (rounds_in [] p.body no_rounds) s.round) a.site.loops
      (sym (slice_get-map (λ z. loops_at (rounds_in [] p.body no_rounds) z.round) (sites_in (happenings_of p)) k ∙ ap (option_map (λ z. loops_at (rounds_in [] p.body no_rounds) z.round)) at_k)
      ∙ (ap (λ l. slice_get l k)
      (action_same (rounds_in [] p.body no_rounds) (stages_in p.body no_stages) None closed nothing_around p.body refl (loops.loops_known first [] p.body no_rounds (rounds_in [] p.body no_rounds) numbers (λ i w. refl)))
      ∙ (slice_get-map (λ b. b.site.loops) (accesses_in (trace p)) k ∙ ap (option_map (λ b. b.site.loops)) in_k)))
    where
      same : (x y : List Counter) → Some x ≡ Some y → x ≡ y
      same x y e = cc
