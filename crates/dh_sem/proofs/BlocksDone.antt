-- The block of a phase: commands or a test, at all paths inside its loops, in order.
use Rattle.std.proofs.Common.{◌≡◌, ℕ, zero, suc, ◌+◌, ◌<◌, ◌≤◌, ◌==◌, Bool, false, if◌then◌else◌, List, [], ◌∷◌, ◌++◌, length, map, drop, get_or, Ok, Err, Some, refl, ap, sym, ◌∙◌, subst, arith, append_assoc}
use Rattle.std.specs.Prelude.{Option, Result, Vec, IfOk, slice_get, slice_index_or}
use Rattle.std.specs.Global.{Global}
use Rattle.std.specs.List.{range_with_len}
use Rattle.std.proofs.lemmas.Bool.Decides.{nat_tests}
use Rattle.std.proofs.lemmas.List.{length-append, length-map}
use Rattle.dh_meaning.specs.Core.{CoreTerm, CorePhase, straightly, turning, looping, choosing}
use Rattle.dh_meaning.specs.Effects.{Begun, Block, Effect, at_each, block_run, holds_at, tested_at}
use Rattle.dh_meaning.specs.Paths.{Path, paths_in}
use Rattle.dh_meaning.specs.Runs.{first_path}
use Rattle.dh_code.specs.declared.codes.FlatExpression.{FlatExpression}
use Rattle.dh_code.specs.declared.evaluating.StepContext.{StepContext}
use Rattle.dh_code.specs.declared.evaluating.StepStop.{StepStop}
use Rattle.dh_code.specs.declared.evaluating.StepStop.TheVariants as stop
use Rattle.dh_code.specs.declared.running.StepState.{StepState}
use Rattle.dh_code.specs.Coded.{IsFlat}
use Rattle.dh_code.specs.Rows.{contents_of}
use Rattle.dh_code.specs.Scenes.{begun_in}
use Rattle.dh_code.specs.Slots.{Placing}
use Rattle.dh_code.specs.States.{AreRanks, AreRows, Decides, DoesAll, Ends, IsReadyState, Keeps, KeepsBack, Runs, ranks_chosen}
use Rattle.dh_code.specs.Suited.{CanEvaluate}
use Rattle.dh_code.proofs.PathLoops.{Grows, each_grows, ends_later}
use Rattle.dh_code.proofs.PathsInOrder.{are_paths, path_at, paths_are}
use Rattle.dh_sem.specs.declared.lanes.Lanes.{Lanes}
use Rattle.dh_sem.specs.declared.phases.PhaseForm.{PhaseForm}
use Rattle.dh_sem.specs.declared.phases.PhaseForm.TheVariants.{Straight, Turns, Loop, Choice}
use Rattle.dh_sem.specs.declared.phases.HeldPhase.{HeldPhase}
use Rattle.dh_sem.specs.declared.phases.Turns as turns
use Rattle.dh_sem.specs.declared.stepping.Course as code
use Rattle.dh_sem.specs.Frames.{IsBlockOf, StandsFor}
use Rattle.dh_sem.specs.Lanes.{AreLanes, LeadsInto}
use Rattle.dh_sem.specs.Phased.{IsPhase}
use Rattle.dh_sem.specs.Steps.{HoldsSo, RunsBlock, TestsAllPaths, course_seen}
use Rattle.dh_sem.proofs.TurnsBegun.{row_of, rows_over}

some_same : {A : Type 0} (a b : A) → Some a ≡ Some b → a ≡ b
some_same a b e = cc

-- Tests.

pub record TestsSoFar (s : StepContext) (old : StepState) (lanes : Lanes) (f : FlatExpression) (i : ℕ) (now : StepState) (first : Bool) : Type 0 where
  pub ready : IsReadyState s now
  pub back : KeepsBack old now
  pub ran : (p : Placing) (factors : List ℕ) (t : CoreTerm) → AreLanes factors lanes → IsFlat p.held s.entries.now s.code.now t f → CanEvaluate s.entries.now p factors t → (e : Effect) → Keeps p s.entries.now e s.step old
      → (so_far : Effect) × (Keeps p s.entries.now so_far s.step now × ((so_far.variables ≡ e.variables)
      × ((at_each (tested_at (begun_in s) t) (drop i (paths_in factors)) so_far ≡ at_each (tested_at (begun_in s) t) (paths_in factors) e) × (0 < i → holds_at (begun_in s) e.variables t (first_path (paths_in factors)) ≡ first))))

pub tests_first : (s : StepContext) (old : StepState) (lanes : Lanes) (f : FlatExpression) → IsReadyState s old → TestsSoFar s old lanes f 0 old false
tests_first s old lanes f ready = record {
  ready = ready;
  back = record { long = refl; back = refl };
  ran = λ p factors t are flat can e k. (e, (k, (refl, (refl, λ h. absurd (never h)))));
}
  where
    never : 0 < 0 → ⊥
    never h = omega (arith, h)

test_grows : (b : Begun) (t : CoreTerm) (path : Path) (e : Effect) → Grows e (tested_at b t path e)
test_grows b t path e = record { more = _; is = refl }

first_is : (paths : List Path) → get_or paths 0 [] ≡ first_path paths
first_is [] = refl
first_is (p ∷ ps) = refl

module _ (s : StepContext) (old : StepState) (lanes : Lanes) (f : FlatExpression) (i : ℕ) (now : StepState) (first : Bool) (g : TestsSoFar s old lanes f i now first) (row : Vec ℕ Global) (within : i < length lanes.rows.items) (item : row ≡ get_or lanes.rows.items i row) where
  path_now : (factors : List ℕ) → AreLanes factors lanes → AreRanks factors row.items (get_or (paths_in factors) i []) × (drop i (paths_in factors) ≡ get_or (paths_in factors) i [] ∷ drop (suc i) (paths_in factors))
  path_now factors are =
      let r = row_of factors lanes.rows.items (paths_in factors) i row are.rows within in
      let at = path_at factors 0 (paths_in factors) i (paths_are factors) r.1.1 in
      (record { inside = at.0; are = ap (λ (v : Vec ℕ Global). v.items) item ∙ r.0 }, r.1.0)

  pub tests_turn : (holds first' : Bool) (new : StepState) → IsReadyState s new → KeepsBack now new → Decides s now (Ok holds) new row.items f → first' ≡ (if i == 0 then holds else first) → TestsSoFar s old lanes f (suc i) new first'
  tests_turn holds first' new ready back d is = record {
    ready = ready;
    back = record { long = back.long ∙ g.back.long; back = back.back ∙ g.back.back };
    ran = λ p factors t are flat can e k.
        let so = g.ran p factors t are flat can e k in
        let path = get_or (paths_in factors) i [] in
        let r = path_now factors are in
        let decided = d p factors path t r.0 flat can in (
          tested_at (begun_in s) t path so.0,
          (
            decided.0 so.0 so.1.0,
            (
              so.1.1.0,
              (
                ap (λ l. at_each (tested_at (begun_in s) t) l so.0) (sym r.1) ∙ so.1.1.1.0,
                λ h. by i refl t e so.0 (paths_in factors) so.1.1.0 (decided.1 so.0 so.1.0) so.1.1.1.1,
              ),
            ),
          ),
        );
  }
    where
      by : (j : ℕ) → i ≡ j → (t : CoreTerm) (e so : Effect) (paths : List Path) → so.variables ≡ e.variables → holds_at (begun_in s) so.variables t (get_or paths i []) ≡ holds → (0 < i → holds_at (begun_in s) e.variables t (first_path paths) ≡ first)
          → holds_at (begun_in s) e.variables t (first_path paths) ≡ first'
      by zero at t e so paths same here before =
          ap (λ p. holds_at (begun_in s) e.variables t p) (sym (first_is paths) ∙ ap (λ n. get_or paths n []) (sym at))
          ∙ (ap (λ v. holds_at (begun_in s) v t (get_or paths i [])) (sym same) ∙ (here ∙ sym (is ∙ ap (λ n. if n == 0 then holds else first) at)))
      by (suc j) at t e so paths same here before = before (more j at) ∙ sym (is ∙ ap (λ b. if b then holds else first) (past i (more j at)))
        where
          past : (n : ℕ) → 0 < n → (n == 0) ≡ false
          past n e = grind (arith, nat_tests)

          more : (j : ℕ) → i ≡ suc j → 0 < i
          more j e = omega (arith, e)

  pub tests_stop : (x : StepStop) (new : StepState) (result : Result Bool StepStop) → result ≡ Err x → Decides s now (Err x) new row.items f
      → TestsAllPaths s old result new lanes f
  tests_stop x new result stopped d p factors t are flat can = (
    λ e k.
        let so = g.ran p factors t are flat can e k in
        let path = get_or (paths_in factors) i [] in
        let r = path_now factors are in
        subst (λ (y : Effect). Ends {A = Bool} p s.entries.now y s.step result new) (ap (λ l. at_each (tested_at (begun_in s) t) l so.0) (sym r.1) ∙ so.1.1.1.0)
        (ends_later Bool Bool p s.entries.now s.step (tested_at (begun_in s) t path so.0) (at_each (tested_at (begun_in s) t) (drop (suc i) (paths_in factors)) (tested_at (begun_in s) t path so.0)) new new x result
        (each_grows (tested_at (begun_in s) t) (test_grows (begun_in s) t) (drop (suc i) (paths_in factors)) (tested_at (begun_in s) t path so.0)) stopped ((d p factors path t r.0 flat can).0 so.0 so.1.0)),
    λ e k. subst (λ (r : Result Bool StepStop). IfOk r (λ holds. holds_at (begun_in s) e.variables t (first_path (paths_in factors)) ≡ holds)) (sym stopped) tt,
  )

pub tests_end : (s : StepContext) (old : StepState) (lanes : Lanes) (f : FlatExpression) (i : ℕ) (now : StepState) (first : Bool) → TestsSoFar s old lanes f i now first → length lanes.rows.items ≤ i → TestsAllPaths s old (Ok first) now lanes f
tests_end s old lanes f i now first g over p factors t are flat can = (
  λ e k.
      let so = g.ran p factors t are flat can e k in
      subst (λ (y : Effect). Keeps p s.entries.now y s.step now) (ap (λ l. at_each (tested_at (begun_in s) t) l so.0) (sym (rows_over factors lanes.rows.items (paths_in factors) i are.rows over)) ∙ so.1.1.1.0) so.1.0,
  λ e k. (g.ran p factors t are flat can e k).1.1.1.1 (more are.some_path),
)
  where
    more : 0 < length lanes.rows.items → 0 < i
    more h = omega (arith, h, over)

-- All paths, by their numbers.

chosen_from : (zs ys : List (List ℕ)) → map (λ i. slice_index_or (zs ++ ys) i []) (range_with_len (length zs) (length ys)) ≡ ys
chosen_from zs [] = refl
chosen_from zs (y ∷ ys) = ap (λ l. l ∷ map (λ i. slice_index_or (zs ++ y ∷ ys) i []) (range_with_len (length zs + 1) (length ys))) (here zs) ∙ ap (λ l. y ∷ l) (moved (length (zs ++ y ∷ [])) (length-append zs (y ∷ [])) (chosen_from (zs ++ y ∷ []) ys))
  where
    here : (zs : List (List ℕ)) → slice_index_or (zs ++ y ∷ ys) (length zs) [] ≡ y
    here [] = refl
    here (z ∷ zs) = here zs

    moved : (n : ℕ) → n ≡ length zs + 1 → map (λ i. slice_index_or ((zs ++ y ∷ []) ++ ys) i []) (range_with_len n (length ys)) ≡ ys → map (λ i. slice_index_or (zs ++ y ∷ ys) i []) (range_with_len (length zs + 1) (length ys)) ≡ ys
    moved n e h = ap (λ m. map (λ i. slice_index_or (zs ++ y ∷ ys) i []) (range_with_len m (length ys))) (sym e) ∙ (ap (λ (l : List (List ℕ)). map (λ i. slice_index_or l i []) (range_with_len n (length ys))) (sym (append_assoc zs (y ∷ []) ys)) ∙ h)

pub all_rows : (factors : List ℕ) (lanes : Lanes) → AreLanes factors lanes → AreRows factors (contents_of lanes.rows.items) lanes.all.items (paths_in factors)
all_rows factors lanes are = record {
  inside = are_paths factors 0 (paths_in factors) (paths_are factors);
  are =
      ap (λ l. ranks_chosen (contents_of lanes.rows.items) l) (are.all ∙ ap (λ n. range_with_len 0 n) (sym (length-map lanes.rows.items (λ (v : Vec ℕ Global). v.items))))
      ∙ (chosen_from [] (contents_of lanes.rows.items) ∙ are.rows);
}

-- Blocks.
module _ (s : StepContext) (c : code.Course) (old : StepState) (number : ℕ) (phase : HeldPhase) (lanes : Lanes) (get : slice_get c.phases.now number ≡ Some phase) (there : slice_get c.lanes.now phase.paths ≡ Some lanes) where
  -- what stands for a phase, with its lanes
  stood : (p : Placing) (factors : List ℕ) (q : CorePhase) → StandsFor s.entries.now p (course_seen s c) factors number q → AreLanes factors lanes × IsPhase s.entries.now p (course_seen s c) factors number phase.form q
  stood p factors q (other, (found, (leads, does))) =
      let same = some_same other phase (sym found ∙ get) in
      let leads' = subst (λ (x : HeldPhase). LeadsInto c.lanes.now x.paths factors) same leads in
      (subst (λ (l : Lanes). AreLanes factors l) (some_same leads'.found lanes (sym leads'.there ∙ there)) leads'.are, subst (λ (x : HeldPhase). IsPhase s.entries.now p (course_seen s c) factors number x.form q) same does)

  pub straight_runs : (A : Type 0) (result : Result A StepStop) (after : Result Bool StepStop) (new : StepState) (list : Option ℕ) → phase.form ≡ Straight list → DoesAll s old result new (contents_of lanes.rows.items) lanes.all.items list
      → ((p : Placing) (y : Effect) → Ends {A = A} p s.entries.now y s.step result new → Ends {A = Bool} p s.entries.now y s.step after new) → RunsBlock s c old after new number
  straight_runs A result after new list is does turned p factors q b stands block = by q b (stood p factors q stands).0 (subst (λ (f : PhaseForm). IsPhase s.entries.now p (course_seen s c) factors number f q) is (stood p factors q stands).1) block
    where
      trivial : (r : Result Bool StepStop) → IfOk r (λ holds. Unit {0})
      trivial (Ok a) = tt
      trivial (Err x) = tt

      by : (q : CorePhase) (b : Block) → AreLanes factors lanes → IsPhase s.entries.now p (course_seen s c) factors number (Straight list) q → IsBlockOf q b
          → Runs p s old after new (block_run (begun_in s) (paths_in factors) b) × ((e : Effect) → Keeps p s.entries.now e s.step old → IfOk after (λ holds. HoldsSo (begun_in s) (paths_in factors) e.variables q holds))
      by (straightly cs) b are (coded, can) block =
          subst (λ (x : Block). Runs p s old after new (block_run (begun_in s) (paths_in factors) x) × ((e : Effect) → Keeps p s.entries.now e s.step old → IfOk after (λ holds. HoldsSo (begun_in s) (paths_in factors) e.variables (straightly cs) holds))) (sym block)
          (λ e k. turned p _ (does p factors (paths_in factors) cs (all_rows factors lanes are) coded can e k), λ e k. trivial after)
      by (turning loop body) b are h block = absurd h
      by (looping test body) b are h block = absurd h
      by (choosing test chosen other) b are h block = absurd h

  pub loop_runs : (result : Result Bool StepStop) (new : StepState) (f : FlatExpression) (list : Option ℕ) → phase.form ≡ Loop f list → TestsAllPaths s old result new lanes f → RunsBlock s c old result new number
  loop_runs result new f list is tested p factors q b stands block = by q b (stood p factors q stands).0 (subst (λ (g : PhaseForm). IsPhase s.entries.now p (course_seen s c) factors number g q) is (stood p factors q stands).1) block
    where
      by : (q : CorePhase) (b : Block) → AreLanes factors lanes → IsPhase s.entries.now p (course_seen s c) factors number (Loop f list) q → IsBlockOf q b
          → Runs p s old result new (block_run (begun_in s) (paths_in factors) b) × ((e : Effect) → Keeps p s.entries.now e s.step old → IfOk result (λ holds. HoldsSo (begun_in s) (paths_in factors) e.variables q holds))
      by (straightly cs) b are h block = absurd h
      by (turning loop body) b are h block = absurd h
      by (looping test body) b are (flat, (can, rest)) block =
          subst (λ (x : Block). Runs p s old result new (block_run (begun_in s) (paths_in factors) x) × ((e : Effect) → Keeps p s.entries.now e s.step old → IfOk result (λ holds. HoldsSo (begun_in s) (paths_in factors) e.variables (looping test body) holds))) (sym block)
          (tested p factors test are flat can.1)
      by (choosing test chosen other) b are h block = absurd h

  pub choice_runs : (result : Result Bool StepStop) (new : StepState) (f : FlatExpression) (one two : Option ℕ) → phase.form ≡ Choice f one two → TestsAllPaths s old result new lanes f → RunsBlock s c old result new number
  choice_runs result new f one two is tested p factors q b stands block = by q b (stood p factors q stands).0 (subst (λ (g : PhaseForm). IsPhase s.entries.now p (course_seen s c) factors number g q) is (stood p factors q stands).1) block
    where
      by : (q : CorePhase) (b : Block) → AreLanes factors lanes → IsPhase s.entries.now p (course_seen s c) factors number (Choice f one two) q → IsBlockOf q b
          → Runs p s old result new (block_run (begun_in s) (paths_in factors) b) × ((e : Effect) → Keeps p s.entries.now e s.step old → IfOk result (λ holds. HoldsSo (begun_in s) (paths_in factors) e.variables q holds))
      by (straightly cs) b are h block = absurd h
      by (turning loop body) b are h block = absurd h
      by (looping test body) b are h block = absurd h
      by (choosing test chosen other) b are (flat, (can, rest)) block =
          subst (λ (x : Block). Runs p s old result new (block_run (begun_in s) (paths_in factors) x) × ((e : Effect) → Keeps p s.entries.now e s.step old → IfOk result (λ holds. HoldsSo (begun_in s) (paths_in factors) e.variables (choosing test chosen other) holds))) (sym block)
          (tested p factors test are flat can.1)

  -- no block is that of turns
  pub turns_run : (result : Result Bool StepStop) (new : StepState) (t : turns.Turns) → phase.form ≡ Turns t → RunsBlock s c old result new number
  turns_run result new t is p factors q b stands block = absurd (by q b (subst (λ (g : PhaseForm). IsPhase s.entries.now p (course_seen s c) factors number g q) is (stood p factors q stands).1) block)
    where
      by : (q : CorePhase) (b : Block) → IsPhase s.entries.now p (course_seen s c) factors number (Turns t) q → IsBlockOf q b → ⊥
      by (straightly cs) b h block = h
      by (turning loop body) b h block = block
      by (looping test body) b h block = h
      by (choosing test chosen other) b h block = h

-- commands at all paths, as the code gives them
pub runs_on : (s : StepContext) (old new : StepState) {rows rows' : List (Vec ℕ Global)} {numbers numbers' : List ℕ} {list : Option ℕ} → rows ≡ rows' → numbers ≡ numbers' → DoesAll {A = Unit {0}} s old (Ok tt) new (contents_of rows) numbers list → DoesAll {A = Unit {0}} s old (Ok tt) new (contents_of rows') numbers' list
runs_on s old new {rows} {rows'} {numbers} {numbers'} {list} e f h =
    subst (λ (l : List (Vec ℕ Global)). DoesAll {A = Unit {0}} s old (Ok tt) new (contents_of l) numbers' list) e (subst (λ (l : List ℕ). DoesAll {A = Unit {0}} s old (Ok tt) new (contents_of rows) l list) f h)

pub runs_stop : (s : StepContext) (old : StepState) (x : StepStop) (after : Result Bool StepStop) (new : StepState) {rows rows' : List (Vec ℕ Global)} {numbers numbers' : List ℕ} {list : Option ℕ} → after ≡ Err x → rows ≡ rows' → numbers ≡ numbers' → DoesAll {A = Unit {0}} s old (Err x) new (contents_of rows) numbers list
    → DoesAll {A = Unit {0}} s old (Err x) new (contents_of rows') numbers' list × ((p : Placing) (y : Effect) → Ends {A = Unit {0}} p s.entries.now y s.step (Err x) new → Ends {A = Bool} p s.entries.now y s.step after new)
runs_stop s old x after new {rows} {rows'} {numbers} {numbers'} {list} stopped e f h = (
  subst (λ (l : List (Vec ℕ Global)). DoesAll {A = Unit {0}} s old (Err x) new (contents_of l) numbers' list) e (subst (λ (l : List ℕ). DoesAll {A = Unit {0}} s old (Err x) new (contents_of rows) l list) f h),
  λ p y k. subst (λ (r : Result Bool StepStop). Ends {A = Bool} p s.entries.now y s.step r new) (sym stopped) (by x p y k),
)
  where
    by : (x : StepStop) (p : Placing) (y : Effect) → Ends {A = Unit {0}} p s.entries.now y s.step (Err x) new → Ends {A = Bool} p s.entries.now y s.step (Err x) new
    by (stop.At o) p y k = k
    by stop.NoMemory p y k = tt
