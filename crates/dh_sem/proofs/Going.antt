-- From one block to the next. Each function says what it does of whatever is still to come; so the whole way is one
-- call behind another, and no run is looked at.
use Rattle.std.proofs.Common.{◌≡◌, ℕ, ◌<◌, ◌≤◌, ◌==◌, nat_lt, Bool, true, false, if◌then◌else◌, List, [], ◌∷◌, ◌++◌, reverse, Some, None, refl, ap, sym, ◌∙◌, subst, arith}
use Rattle.std.specs.Prelude.{Option, slice_get}
use Rattle.std.proofs.lemmas.Bool.Decides.{nat_tests}
use Rattle.std.proofs.lemmas.List.{reverse-append}
use Rattle.dh_tree.specs.declared.tables.MemEntry.{MemEntry}
use Rattle.dh_meaning.specs.Core.{Turning, CorePhase, straightly, turning, looping, choosing, CorePhases, no_core_phases, phase_and}
use Rattle.dh_meaning.specs.Effects.{Variables}
use Rattle.dh_meaning.specs.Paths.{Path, all_copies, outer_paths, paths_in}
use Rattle.dh_meaning.specs.Runs.{RunNext, RunTodo, phases_then, turn_then, test_then, pick_then, enter, inner_paths, turn_begun}
use Rattle.dh_code.specs.declared.running.StepState.{StepState}
use Rattle.dh_code.specs.Declarations.{factors_inside}
use Rattle.dh_code.specs.Slots.{Holds, Placing}
use Rattle.dh_code.proofs.PathsInOrder.{paths_snoc}
use Rattle.dh_sem.specs.declared.lanes.Lanes.{Lanes}
use Rattle.dh_sem.specs.declared.phases.PhaseForm.{PhaseForm}
use Rattle.dh_sem.specs.declared.phases.PhaseForm.TheVariants.{Straight, Turns, Loop, Choice}
use Rattle.dh_sem.specs.declared.phases.Frame.{Frame}
use Rattle.dh_sem.specs.declared.phases.Frame.TheVariants.{List as Rest, Turn, Test, Pick}
use Rattle.dh_sem.specs.declared.phases.HeldPhase.{HeldPhase}
use Rattle.dh_sem.specs.declared.phases.Turns as turns
use Rattle.dh_sem.specs.declared.stepping.Course as code
use Rattle.dh_sem.specs.Frames.{AreToCome, IsFirst, BeginsWithoutTest, StandsFor}
use Rattle.dh_sem.specs.Lanes.{AreLanes, LeadsInto}
use Rattle.dh_sem.specs.Phased.{ArePhases, Course, IsPhase, IsSome}
use Rattle.dh_sem.specs.Steps.{Arrives, BeginsTurn, Descends, DescendsTo, NowhereIfNone, course_of}

some_same : {A : Type 0} (a b : A) → Some a ≡ Some b → a ≡ b
some_same a b e = cc

-- the paths inside a loop
pub inner_is : (factors : List ℕ) (loop : Turning) → inner_paths (paths_in factors) loop ≡ paths_in (factors_inside factors loop.factor)
inner_is factors loop = by (nat_lt 1 loop.factor)
  where
    by : (b : Bool) → (if b then all_copies (paths_in factors) loop.factor else paths_in factors) ≡ paths_in (if b then factors ++ loop.factor ∷ [] else factors)
    by true = sym (paths_snoc outer_paths factors loop.factor)
    by false = refl

module _ (table : List MemEntry) (p : Placing) (c : Course) where
  pub come_more : (fs gs : List Frame) (f : Frame) (k behind : RunTodo) → gs ≡ fs ++ f ∷ [] → IsFirst table p c f k behind → BeginsWithoutTest behind → AreToCome table p c (reverse fs) behind → AreToCome table p c (reverse gs) k
  come_more fs gs f k behind is first settled come = subst (λ (l : List Frame). AreToCome table p c l k) (sym (ap (λ l. reverse l) is ∙ reverse-append fs (f ∷ []))) (behind, (first, (settled, come)))

  -- a list that begins at a phase
  pub record Enters (factors : List ℕ) (number : ℕ) (phase : HeldPhase) (qs : CorePhases) : Type 0 where
    pub first : CorePhase
    pub rest : CorePhases
    pub is : qs ≡ phase_and first rest
    pub lanes : LeadsInto c.lanes phase.paths factors
    pub does : IsPhase table p c factors number phase.form first
    pub later : ArePhases table p c factors phase.next rest

  pub enters_of : (factors : List ℕ) (list : Option ℕ) (number : ℕ) (phase : HeldPhase) (qs : CorePhases) → ArePhases table p c factors list qs → list ≡ Some number → slice_get c.phases number ≡ Some phase → Enters factors number phase qs
  enters_of factors list number phase qs are is get = by qs (subst (λ (l : Option ℕ). ArePhases table p c factors l qs) is are)
    where
      by : (qs : CorePhases) → ArePhases table p c factors (Some number) qs → Enters factors number phase qs
      by no_core_phases h = absurd h
      by (phase_and q qs) (other, (there, (lanes, (early, (does, later))))) =
          let same = some_same other phase (sym there ∙ get) in
          record {
            first = q;
            rest = qs;
            is = refl;
            lanes = subst (λ (x : HeldPhase). LeadsInto c.lanes x.paths factors) same lanes;
            does = subst (λ (x : HeldPhase). IsPhase table p c factors number x.form q) same does;
            later = subst (λ (x : HeldPhase). ArePhases table p c factors x.next qs) same later;
          }

  pub nothing_of : (factors : List ℕ) (list : Option ℕ) (qs : CorePhases) → ArePhases table p c factors list qs → list ≡ None → qs ≡ no_core_phases
  nothing_of factors list qs are is = by qs (subst (λ (l : Option ℕ). ArePhases table p c factors l qs) is are)
    where
      by : (qs : CorePhases) → ArePhases table p c factors None qs → qs ≡ no_core_phases
      by no_core_phases h = refl
      by (phase_and q qs) h = absurd h

  -- into a phase whose block comes first
  module _ (factors : List ℕ) (number : ℕ) (phase : HeldPhase) (get : slice_get c.phases number ≡ Some phase) (qs : CorePhases) (e : Enters factors number phase qs) (k : RunTodo) (behind : RunNext) (v : Variables) (new : StepState)
      (fs gs : List Frame) (pushed : gs ≡ fs ++ Rest phase.next ∷ []) (settled : BeginsWithoutTest k) (come : AreToCome table p c (reverse fs) k) (h : Holds p new.variables.items v) where
    abbrev paths : List Path
    paths = paths_in factors

    stands : (q : CorePhase) → IsPhase table p c factors number phase.form q → StandsFor table p c factors number q
    stands q does = (phase, (get, (e.lanes, does)))

    rest_comes : AreToCome table p c (reverse gs) (phases_then paths e.rest k)
    rest_comes = come_more fs gs (Rest phase.next) (phases_then paths e.rest k) k pushed (factors, (refl, (refl, e.later))) settled come

    moved : (n : RunNext) → enter paths (phase_and e.first e.rest) k behind v ≡ n → Arrives table p c n new (Some number) gs → Arrives table p c (enter paths qs k behind v) new (Some number) gs
    moved n is a = subst (λ (m : RunNext). Arrives table p c m new (Some number) gs) (sym (ap (λ l. enter paths l k behind v) e.is ∙ is)) a

    pub into_straight : (list : Option ℕ) → phase.form ≡ Straight list → Arrives table p c (enter paths qs k behind v) new (Some number) gs
    into_straight list is = subst (λ (l : CorePhases). Arrives table p c (enter paths l k behind v) new (Some number) gs) (sym e.is) (by e.first e.does (subst (λ (f : PhaseForm). IsPhase table p c factors number f e.first) is e.does))
      where
        by : (q : CorePhase) → IsPhase table p c factors number phase.form q → IsPhase table p c factors number (Straight list) q → Arrives table p c (enter paths (phase_and q e.rest) k behind v) new (Some number) gs
        by (straightly cs) does h' = record { variables = h; place = (factors, (straightly cs, (refl, (stands (straightly cs) does, (refl, (tt, rest_comes)))))) }
        by (turning loop body) does h' = absurd h'
        by (looping test body) does h' = absurd h'
        by (choosing test chosen other) does h' = absurd h'

  module _ (factors : List ℕ) (number : ℕ) (phase : HeldPhase) (get : slice_get c.phases number ≡ Some phase) (qs : CorePhases) (e : Enters factors number phase qs) (k : RunTodo) (behind : RunNext) (v : Variables) (new : StepState)
      (fs gs is_gs : List Frame) (f : Frame) (pushed : gs ≡ fs ++ Rest phase.next ∷ []) (pushed' : is_gs ≡ gs ++ f ∷ []) (settled : BeginsWithoutTest k) (come : AreToCome table p c (reverse fs) k) (h : Holds p new.variables.items v) where
    abbrev paths_here : List Path
    paths_here = paths_in factors

    stands_there : (q : CorePhase) → IsPhase table p c factors number phase.form q → StandsFor table p c factors number q
    stands_there q does = (phase, (get, (e.lanes, does)))

    abbrev rest_then : RunTodo
    rest_then = phases_then paths_here e.rest k

    rest_behind : AreToCome table p c (reverse gs) rest_then
    rest_behind = come_more fs gs (Rest phase.next) rest_then k pushed (factors, (refl, (refl, e.later))) settled come

    pub into_loop : (test : _) (list : Option ℕ) → phase.form ≡ Loop test list → f ≡ Test number → Arrives table p c (enter paths_here qs k behind v) new (Some number) is_gs
    into_loop test list is frame = subst (λ (l : CorePhases). Arrives table p c (enter paths_here l k behind v) new (Some number) is_gs) (sym e.is) (by e.first e.does (subst (λ (g : PhaseForm). IsPhase table p c factors number g e.first) is e.does))
      where
        by : (q : CorePhase) → IsPhase table p c factors number phase.form q → IsPhase table p c factors number (Loop test list) q → Arrives table p c (enter paths_here (phase_and q e.rest) k behind v) new (Some number) is_gs
        by (straightly cs) does h' = absurd h'
        by (turning loop body) does h' = absurd h'
        by (looping t body) does h' = record {
          variables = h;
          place = (
            factors,
            (
              looping t body,
              (
                refl,
                (
                  stands_there (looping t body) does,
                  (
                    refl,
                    (
                      (refl, refl),
                      come_more gs is_gs (Test number) (test_then paths_here t body rest_then) rest_then (pushed' ∙ ap (λ x. gs ++ x ∷ []) frame) (factors, (refl, (refl, stands_there (looping t body) does))) tt rest_behind,
                    ),
                  ),
                ),
              ),
            ),
          );
        }
        by (choosing t chosen other) does h' = absurd h'

    pub into_choice : (test : _) (one two : Option ℕ) → phase.form ≡ Choice test one two → f ≡ Pick number → Arrives table p c (enter paths_here qs k behind v) new (Some number) is_gs
    into_choice test one two is frame = subst (λ (l : CorePhases). Arrives table p c (enter paths_here l k behind v) new (Some number) is_gs) (sym e.is) (by e.first e.does (subst (λ (g : PhaseForm). IsPhase table p c factors number g e.first) is e.does))
      where
        by : (q : CorePhase) → IsPhase table p c factors number phase.form q → IsPhase table p c factors number (Choice test one two) q → Arrives table p c (enter paths_here (phase_and q e.rest) k behind v) new (Some number) is_gs
        by (straightly cs) does h' = absurd h'
        by (turning loop body) does h' = absurd h'
        by (looping t body) does h' = absurd h'
        by (choosing t chosen other) does h' = record {
          variables = h;
          place = (
            factors,
            (
              choosing t chosen other,
              (
                refl,
                (
                  stands_there (choosing t chosen other) does,
                  (
                    refl,
                    (
                      (refl, refl),
                      come_more gs is_gs (Pick number) (pick_then paths_here t chosen other rest_then) rest_then (pushed' ∙ ap (λ x. gs ++ x ∷ []) frame) (factors, (refl, (refl, stands_there (choosing t chosen other) does))) tt rest_behind,
                    ),
                  ),
                ),
              ),
            ),
          );
        }

-- no turn, and none that leads nowhere
some_turn : (n : ℕ) → 1 ≤ n → (n == 0) ≡ false
some_turn n e = grind (arith, nat_tests)

pub some_leads : (body list found : Option ℕ) (a b a' b' : StepState) (fs gs fs' gs' : List Frame) → IsSome body → NowhereIfNone body found a b fs gs → NowhereIfNone list found a' b' fs' gs'
some_leads body list None a b a' b' fs gs fs' gs' some h = absurd (subst IsSome h.list_is some)
some_leads body list (Some n) a b a' b' fs gs fs' gs' some h = tt

module _ (x : code.Course) where
  -- a list that begins with turns
  pub descends_turns : (list body found : Option ℕ) (number : ℕ) (phase : HeldPhase) (t : turns.Turns) (lanes : Lanes) (old mid new : StepState) (fs gs hs ks : List Frame) → list ≡ Some number → slice_get x.phases.now number ≡ Some phase → phase.form ≡ Turns t
      → slice_get x.lanes.now t.inside ≡ Some lanes → BeginsTurn old mid lanes t 0 → gs ≡ fs ++ Rest phase.next ∷ [] → hs ≡ gs ++ Turn number 0 ∷ [] → Descends x t.body found mid new hs ks → Descends x list found old new fs ks
  descends_turns list body found number phase t lanes old mid new fs gs hs ks is get form in_lanes begun pushed pushed' d table p made factors qs k behind v are come settled h =
      let c = course_of made x in
      let e = enters_of table p c factors list number phase qs are is get in
      subst (λ (l : CorePhases). DescendsTo table p c found new ks (enter (paths_in factors) l k behind v)) (sym e.is)
      (by e e.first e.does (subst (λ (g : PhaseForm). IsPhase table p c factors number g e.first) form e.does))
    where
      by : (e : Enters table p (course_of made x) factors number phase qs) (q : CorePhase) → IsPhase table p (course_of made x) factors number phase.form q → IsPhase table p (course_of made x) factors number (Turns t) q
          → DescendsTo table p (course_of made x) found new ks (enter (paths_in factors) (phase_and q e.rest) k behind v)
      by e (straightly cs) does h' = absurd h'
      by e (looping test qs') does h' = absurd h'
      by e (choosing test chosen other) does h' = absurd h'
      by e (turning loop qs') does (turned, (leads, (some, (early, inner)))) =
          let paths = paths_in factors in
          let further = phases_then paths e.rest k in
          let k' = turn_then paths loop 0 qs' further in
          let n = enter (inner_paths paths loop) qs' k' (enter paths e.rest k behind v) (turn_begun loop 0 (inner_paths paths loop) v) in
          let rest = come_more table p (course_of made x) fs gs (Rest phase.next) further k pushed (factors, (refl, (refl, e.later))) settled come in
          let come' = come_more table p (course_of made x) gs hs (Turn number 0) k' further pushed' (factors, (refl, (refl, (refl, (below (t.count) loop.count turned.count turned.some_turn, (phase, (get, (e.lanes, does)))))))) tt rest in
          let same_lanes = some_same leads.found lanes (sym leads.there ∙ in_lanes) in
          let lanes_are = subst (λ (l : Lanes). AreLanes (factors_inside factors loop.factor) l) same_lanes leads.are in
          let h'' = begun p factors loop v lanes_are turned h in
          let d' = d table p made (factors_inside factors loop.factor) qs' k' (enter paths e.rest k behind v) (turn_begun loop 0 (paths_in (factors_inside factors loop.factor)) v) inner come' tt h'' in
          subst (λ (m : RunNext). DescendsTo table p (course_of made x) found new ks m)
          (sym (ap (λ b. if b then enter paths e.rest k behind v else n) (some_turn loop.count (subst (λ (m : ℕ). 1 ≤ m) turned.count turned.some_turn))
          ∙ ap (λ l. enter l qs' k' (enter paths e.rest k behind v) (turn_begun loop 0 l v)) (inner_is factors loop))) d'
        where
          below : (a b : ℕ) → a ≡ b → 1 ≤ a → 0 < b
          below a b e f = omega (arith, e, f)
