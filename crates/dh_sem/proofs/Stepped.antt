-- A step of the interpreter is a step of the checked semantics: what is kept of numbers and paths plays no part in stops
-- and writes, so that the block's effect ends, and is written, as the definition says.
use Rattle.std.proofs.Common.{◌≡◌, ℕ, zero, suc, ◌+◌, ◌≤◌, List, [], ◌++◌, length, reverse, Ok, Err, Some, None, refl, ap, sym, ◌∙◌, subst, arith, add-one}
use Rattle.std.specs.Prelude.{Option}
use Rattle.std.specs.List.{AllByRecursion}
use Rattle.dh_base.specs.declared.outcomes.Outcome.{Outcome}
use Rattle.dh_base.specs.declared.outcomes.Outcome.TheVariants.{Going, Ended, Faulted, Stuck}
use Rattle.dh_tree.specs.declared.tables.MemEntry.{MemEntry}
use Rattle.dh_tree.specs.PlainTrees.{Program}
use Rattle.dh_meaning.specs.Core.{CorePhase, CoreProgram}
use Rattle.dh_meaning.specs.CoreOf.{core_of}
use Rattle.dh_meaning.specs.Effects.{Begun, Block, Effect, Variables, block_run, stop_after, written}
use Rattle.dh_meaning.specs.Paths.{Path, paths_in}
use Rattle.dh_meaning.specs.Runs.{RunNext, RunPlace, ended, at, RunState, RunTodo, begun_at, next_of, next_state, outcome_at, place_after, place_run, run_state, stands_at, state_after, step_effect, step_from}
use Rattle.dh_code.specs.declared.codes.Code.{Code}
use Rattle.dh_code.specs.declared.evaluating.StepContext.{StepContext}
use Rattle.dh_code.specs.declared.evaluating.StepStop.{StepStop}
use Rattle.dh_code.specs.declared.evaluating.StepStop.TheVariants as stop
use Rattle.dh_code.specs.declared.running.StepState.{StepState}
use Rattle.dh_code.specs.Plain.{all_plain}
use Rattle.dh_code.specs.Rows.{contents_of}
use Rattle.dh_code.specs.declared.spending.Bank.{Bank}
use Rattle.dh_code.specs.Scenes.{AreSmall, begun_in, IsEarlier}
use Rattle.dh_code.specs.Slots.{Holds, Placing}
use Rattle.dh_code.specs.Spent.{AreUsedBy}
use Rattle.dh_code.specs.States.{IsReadyState, memories_written}
use Rattle.dh_code.proofs.PlainStops.{stop_plain, written_is}
use Rattle.dh_sem.specs.declared.lanes.Lanes.{Lanes}
use Rattle.dh_sem.specs.declared.phases.Frame.{Frame}
use Rattle.dh_sem.specs.declared.phases.HeldPhase.{HeldPhase}
use Rattle.dh_sem.specs.declared.stepping.Course as code
use Rattle.dh_sem.specs.Frames.{AreToCome, IsBlockOf, IsPlace, StandsFirst, StandsFor}
use Rattle.dh_sem.specs.Phased.{Course, IsSoundFrame}
use Rattle.dh_sem.specs.Runs.{IsSteady, InterpreterState, StandsAs, StandsAt, StepsOn, place_outcome}
use Rattle.dh_sem.specs.Steps.{Advanced, Advances, IsBack, block_effect, course_seen, stop_outcome}
use Rattle.dh_sem.proofs.SmallMemories.{small_written}
use Rattle.dh_sem.proofs.StepsDone.{unused_by}

abbrev pub run_at : List MemEntry → Course → Outcome → (steps : ℕ) → (memories : List (List ℕ)) → (slots : List ℕ) → (place : Option ℕ) → List Frame → InterpreterState
run_at table course outcome steps memories slots place frames =
    record { table = table; course = course; outcome = outcome; steps = steps; memories = memories; slots = slots; place = place; frames = frames }

abbrev course_at : Code → List HeldPhase → List Lanes → Course
course_at made phases lanes = record { code = made; phases = phases; lanes = lanes }

-- a run that goes on stands at a block
abbrev IsAtBlock : RunState → Type 0
IsAtBlock s = s.outcome ≡ Going → s.place ≡ ended → ⊥

not_over : Ended ≡ Going → ⊥
not_over e = cc

placed : (x : RunPlace) → x ≡ ended → outcome_at x ≡ Going → ⊥
placed x e g = not_over (sym (ap outcome_at e) ∙ g)

stop_keeps : (table : List MemEntry) (s : RunState) (e : Effect) (o : Option Outcome) → s.outcome ≡ Going → IsAtBlock s → IsAtBlock (state_after table s e o)
stop_keeps table s e None is h g k = placed _ k g
stop_keeps table s e (Some o) is h g k = h is k

step_keeps : (table : List MemEntry) (s : RunState) (o : Outcome) → s.outcome ≡ o → IsAtBlock s → IsAtBlock (step_from table s o)
step_keeps table s Going is h = stop_keeps table s (step_effect table s) (stop_after table [] (step_effect table s).events) is h
step_keeps table s Ended is h = h
step_keeps table s (Faulted kind place) is h = h
step_keeps table s (Stuck memory bank place) is h = h

at_block : (p : CoreProgram) (memories : List (List ℕ)) (n : ℕ) → IsAtBlock (run_state p memories n)
at_block p memories zero = λ g k. placed _ k g
at_block p memories (suc n) = step_keeps p.table (run_state p memories n) (run_state p memories n).outcome refl (at_block p memories n)

-- a run that does not go on stays as it is
still : (table : List MemEntry) (s : RunState) (o : Outcome) → s.outcome ≡ o → (o ≡ Going → ⊥) → next_state table s ≡ s
still table s Going is h = absurd (h refl)
still table s Ended is h = ap (λ o. step_from table s o) is
still table s (Faulted kind place) is h = ap (λ o. step_from table s o) is
still table s (Stuck memory bank place) is h = ap (λ o. step_from table s o) is

-- one step more of a program
stands_next : (p : Program) (memories : List (List ℕ)) (n : ℕ) (old new : InterpreterState) → new.table ≡ old.table → StandsAt p memories n old → StandsAs (next_state old.table (run_state (core_of p) memories n)) new → StandsAt p memories (n + 1) new
stands_next p memories n old new same h k = record {
  tabled = same ∙ h.tabled;
  stands = subst (λ (m : ℕ). StandsAs (run_state (core_of p) memories m) new) (next n) (subst (λ (t : List MemEntry). StandsAs (next_state t (run_state (core_of p) memories n)) new) h.tabled k);
}
  where
    next : (n : ℕ) → suc n ≡ n + 1
    next n = omega arith

-- no step is done
pub stands_still : (r : InterpreterState) (o : Outcome) → o ≡ r.outcome → (o ≡ Going → ⊥) → StepsOn r (Ok o) r
stands_still r o same over = (
  same,
  λ p memories n h. stands_next p memories n r r refl h
      (subst (λ (s : RunState). StandsAs s r) (sym (still r.table (run_state (core_of p) memories n) o (sym (same ∙ h.stands.outcome)) over)) h.stands),
)

nowhere : (table : List MemEntry) (p : Placing) (c : Course) (fs : List Frame) (x : RunPlace) → IsPlace table p c None fs x → x ≡ ended
nowhere table p c fs ended h = refl
nowhere table p c fs (at paths b k) h = absurd h

outcome_placed : (table : List MemEntry) (p : Placing) (c : Course) (at' : Option ℕ) (fs : List Frame) (x : RunPlace) → IsPlace table p c at' fs x → place_outcome at' ≡ outcome_at x
outcome_placed table p c None fs ended h = refl
outcome_placed table p c None fs (at paths b k) h = absurd h
outcome_placed table p c (Some number) fs ended h = absurd h
outcome_placed table p c (Some number) fs (at paths b k) h = refl

-- how a run stands at a place
pub stands_placed : (table : List MemEntry) (c : Course) (steps : ℕ) (memories : List (List ℕ)) (slots : List ℕ) (at' : Option ℕ) (frames : List Frame) (outcome : Outcome) (p : Placing) (n : RunNext)
    → outcome ≡ place_outcome at' → Holds p slots n.variables → IsPlace table p c at' (reverse frames) n.place
    → StandsAs (stands_at steps memories n) (record { table = table; course = c; outcome = outcome; steps = steps; memories = memories; slots = slots; place = at'; frames = frames })
stands_placed table c steps memories slots at' frames outcome p n is holds there = record {
  outcome = is ∙ outcome_placed table p c at' (reverse frames) n.place there;
  steps = refl;
  memories = refl;
  placing = p;
  variables = holds;
  place = there;
}

-- A run that goes on, at the block of a phase.
module _ (s : StepContext) (cc : code.Course) (old : StepState) (number : ℕ) (held frames : List Frame) (course : Course) (steps : ℕ) (memories : List (List ℕ)) (outcome : Outcome) (place : Option ℕ)
    (coursed : course_seen s cc ≡ course) (listed : contents_of s.memories.now ≡ memories) (copied : held ≡ frames) (going : outcome ≡ Going) (there : place ≡ Some number) where
  abbrev before : InterpreterState
  before = record { table = s.entries.now; course = course; outcome = outcome; steps = steps; memories = memories; slots = old.variables.items; place = place; frames = frames }

  -- what its block does, and where it then stands
  record Block_at (t : RunState) (p : Placing) : Type 0 where
    pub factors : List ℕ
    pub q : CorePhase
    pub b : Block
    pub k : RunTodo
    pub stands : StandsFor s.entries.now p (course_seen s cc) factors number q
    pub block : IsBlockOf q b
    pub come : AreToCome s.entries.now p (course_seen s cc) (reverse held) k
    pub first : StandsFirst q (paths_in factors) k
    pub effect : step_effect s.entries.now t ≡ block_effect s factors b t.variables
    pub after : (v : Variables) → place_after (begun_at s.entries.now t) t.place v ≡ next_of (begun_in s) k v

  begun_same : (t : RunState) → StandsAs t before → begun_at s.entries.now t ≡ begun_in s
  begun_same t h = ap (λ l. record { table = s.entries.now; memories = l }) (sym h.memories ∙ sym listed)

  block_at : (t : RunState) (h : StandsAs t before) → Block_at t h.placing
  block_at t h = by t.place refl (subst (λ (o : Option ℕ). IsPlace s.entries.now h.placing course o (reverse frames) t.place) there h.place)
    where
      by : (x : RunPlace) → t.place ≡ x → IsPlace s.entries.now h.placing course (Some number) (reverse frames) x → Block_at t h.placing
      by ended is there = absurd there
      by (at paths b k) is (factors, (q, (ps, (stands, (block, (first, come)))))) = record {
        factors = factors;
        q = q;
        b = b;
        k = k;
        stands = subst (λ (c : Course). StandsFor s.entries.now h.placing c factors number q) (sym coursed) stands;
        block = block;
        come = subst (λ (fs : List Frame). AreToCome s.entries.now h.placing (course_seen s cc) (reverse fs) k) (sym copied) (subst (λ (c : Course). AreToCome s.entries.now h.placing c (reverse frames) k) (sym coursed) come);
        first = subst (λ (l : List Path). StandsFirst q l k) ps first;
        effect =
            ap (λ x. place_run (begun_at s.entries.now t) x (record { variables = t.variables; events = [] })) is
            ∙ (ap (λ l. block_run (begun_at s.entries.now t) l b (record { variables = t.variables; events = [] })) ps
            ∙ ap (λ (g : Begun). block_run g (paths_in factors) b (record { variables = t.variables; events = [] })) (begun_same t h));
        after = λ v. ap (λ x. place_after (begun_at s.entries.now t) x v) is ∙ ap (λ (g : Begun). next_of g k v) (begun_same t h);
      }

  -- the step is done
  module _ (at' : Option ℕ) (new : StepState) (gs left : List Frame) (memories' : List (List ℕ)) (outcome' : Outcome) (advances : Advances s cc old (Ok at') new number held gs)
      (made : memories' ≡ memories_written new.writes.items memories) (leads : outcome' ≡ place_outcome at') (moved : left ≡ gs) where
    abbrev done : InterpreterState
    done = record { table = s.entries.now; course = course; outcome = outcome'; steps = steps + 1; memories = memories'; slots = new.variables.items; place = at'; frames = left }

    pub done_stands : (t : RunState) → StandsAs t before → StandsAs (next_state s.entries.now t) done
    done_stands t h =
        let a = block_at t h in
        let e : Effect = block_effect s a.factors a.b t.variables in
        let n : RunNext = next_of (begun_in s) a.k e.variables in
        let so : Advanced h.placing s (course_seen s cc) e n new at' gs = advances h.placing t.variables a.factors a.q a.b a.k h.variables a.stands a.block a.come a.first in
        let clear : stop_after s.entries.now [] (step_effect s.entries.now t).events ≡ None = ap (λ (x : Effect). stop_after s.entries.now [] x.events) a.effect ∙ (sym (stop_plain s.entries.now [] e.events) ∙ so.clear) in
        let next_is : next_state s.entries.now t ≡ stands_at (suc t.steps) (written e.events t.memories) n =
        ap (λ o. step_from s.entries.now t o) (sym h.outcome ∙ going)
        ∙ (ap (λ o. state_after s.entries.now t (step_effect s.entries.now t) o) clear
        ∙ (ap (λ (x : Effect). state_after s.entries.now t x None) a.effect
        ∙ ap (λ (x : RunNext). stands_at (suc t.steps) (written e.events t.memories) x) (a.after e.variables))) in
        let holds : StandsAs (stands_at (steps + 1) memories' n) done =
        stands_placed s.entries.now course (steps + 1) memories' new.variables.items at' left outcome' h.placing n leads so.arrives.variables
        (subst (λ (fs : List Frame). IsPlace s.entries.now h.placing course at' (reverse fs) n.place) (sym moved) (subst (λ (c : Course). IsPlace s.entries.now h.placing c at' (reverse gs) n.place) coursed so.arrives.place)) in
        let counted : steps + 1 ≡ suc t.steps = add-one steps ∙ ap suc h.steps in
        let same : memories' ≡ written e.events t.memories = made ∙ (ap (λ ws. memories_written ws memories) so.writes ∙ (written_is e.events memories ∙ ap (λ l. written e.events l) h.memories)) in
        subst (λ (x : RunState). StandsAs x done) (sym next_is)
        (subst (λ (m : ℕ). StandsAs (stands_at m (written e.events t.memories) n) done) counted
        (subst (λ (l : List (List ℕ)). StandsAs (stands_at (steps + 1) l n) done) same holds))

    done_steps : StepsOn before (Ok outcome') done
    done_steps = (refl, λ p ms n h. stands_next p ms n before done refl h (done_stands (run_state (core_of p) ms n) h.stands))

  -- the step stops
  module _ (o : Outcome) (new : StepState) (gs : List Frame) (advances : Advances s cc old (Err (stop.At o)) new number held gs) (back : new.variables.items ≡ old.variables.items) where
    abbrev stopped : InterpreterState
    stopped = record { table = s.entries.now; course = course; outcome = o; steps = steps; memories = memories; slots = new.variables.items; place = place; frames = frames }

    pub stop_stands : (t : RunState) → StandsAs t before → StandsAs (next_state s.entries.now t) stopped
    stop_stands t h =
        let a = block_at t h in
        let e : Effect = block_effect s a.factors a.b t.variables in
        let so : stop_after s.entries.now [] (all_plain e.events) ≡ Some o = advances h.placing t.variables a.factors a.q a.b a.k h.variables a.stands a.block a.come a.first in
        let stop : stop_after s.entries.now [] (step_effect s.entries.now t).events ≡ Some o = ap (λ (x : Effect). stop_after s.entries.now [] x.events) a.effect ∙ (sym (stop_plain s.entries.now [] e.events) ∙ so) in
        let next_is : next_state s.entries.now t ≡ state_after s.entries.now t (step_effect s.entries.now t) (Some o) =
        ap (λ o. step_from s.entries.now t o) (sym h.outcome ∙ going)
        ∙ ap (λ o. state_after s.entries.now t (step_effect s.entries.now t) o) stop in
        subst (λ (x : RunState). StandsAs x stopped) (sym next_is) (record {
          outcome = refl;
          steps = h.steps;
          memories = h.memories;
          placing = h.placing;
          variables = subst (λ (l : List ℕ). Holds h.placing l t.variables) (sym back) h.variables;
          place = h.place;
        })

    stop_steps : StepsOn before (Ok o) stopped
    stop_steps = (refl, λ p ms n h. stands_next p ms n before stopped refl h (stop_stands (run_state (core_of p) ms n) h.stands))

pub coursed_as : (made : Code) (phases kept : List HeldPhase) (lanes held : List Lanes) → phases ≡ kept → lanes ≡ held
    → ◌≡◌ {A = Course} (record { code = made; phases = phases; lanes = lanes }) (record { code = made; phases = kept; lanes = held })
coursed_as made phases kept lanes held e f = ap (λ l. course_at made l lanes) e ∙ ap (λ l. course_at made kept l) f

-- The step, as the interpreter sees it.
module _ {s : StepContext} {new : StepState} (ready : IsReadyState s new) (cc : code.Course) (old : StepState) (number : ℕ) (held frames gs : List Frame) (course : Course) (steps : ℕ) (memories : List (List ℕ)) (outcome : Outcome) (place : Option ℕ)
    (coursed : course_seen s cc ≡ course) (listed : contents_of s.memories.now ≡ memories) (copied : held ≡ frames) (going : outcome ≡ Going) (there : place ≡ Some number) (now : InterpreterState)
    (viewed : run_at s.entries.now course outcome steps memories old.variables.items place frames ≡ now) where
  pub done_seen : (at' : Option ℕ) (left : List Frame) (memories' : List (List ℕ)) (outcome' : Outcome) → Advances s cc old (Ok at') new number held gs → memories' ≡ memories_written new.writes.items memories → outcome' ≡ place_outcome at' → left ≡ gs
      → StepsOn now (Ok outcome') (run_at s.entries.now course outcome' (steps + 1) memories' new.variables.items at' left)
  done_seen at' left memories' outcome' advances made leads moved =
      subst (λ (r : InterpreterState). StepsOn r (Ok outcome') (run_at s.entries.now course outcome' (steps + 1) memories' new.variables.items at' left)) viewed
      (done_steps s cc old number held frames course steps memories outcome place coursed listed copied going there at' new gs left memories' outcome' advances made leads moved)

  pub stop_seen : (x : StepStop) (o : Outcome) → x ≡ stop.At o → Advances s cc old (Err x) new number held gs → IsBack old new
      → StepsOn now (Ok o) (run_at s.entries.now course o steps memories new.variables.items place frames)
  stop_seen x o is advances back =
      subst (λ (r : InterpreterState). StepsOn r (Ok o) (run_at s.entries.now course o steps memories new.variables.items place frames)) viewed
      (stop_steps s cc old number held frames course steps memories outcome place coursed listed copied going there o new gs (subst (λ (x : StepStop). Advances s cc old (Err x) new number held gs) is advances) back.variables)

pub stop_is : (x : StepStop) (o : Outcome) → stop_outcome x ≡ Some o → x ≡ stop.At o
stop_is (stop.At p) o e = ap stop.At (same e)
  where
    same : Some p ≡ Some o → p ≡ o
    same e = cc
stop_is stop.NoMemory o e = absurd (never e)
  where
    never : None ≡ Some o → ⊥
    never e = absurd cc

-- A run that can go on can still do so.
module _ {s : StepContext} {new : StepState} (ready : IsReadyState s new) (course : Course) (coded : s.code.now ≡ course.code) (o o' : Outcome) (steps : ℕ) (memories : List (List ℕ)) (slots : List ℕ) (place : Option ℕ) (frames : List Frame)
    (given : List ℕ) (banks : List Bank) (firsts : List ℕ) (steady : IsSteady (run_at s.entries.now course o steps memories slots place frames) given banks firsts) where
  room_now : length course.code.operations ≤ length new.given.items
  room_now = subst (λ (c : Code). length c.operations ≤ length new.given.items) coded ready.room

  pub steady_next : (phases : List HeldPhase) (at' : Option ℕ) (gs left : List Frame) (memories' : List (List ℕ)) → phases ≡ course.phases → memories' ≡ memories_written new.writes.items memories → left ≡ gs
      → AllByRecursion (IsSoundFrame (length phases)) gs → IsEarlier (length phases) at' → s.step ≡ steps + 1 → IsSteady (run_at s.entries.now course o' (steps + 1) memories' new.variables.items at' left) new.given.items new.banks.items firsts
  steady_next phases at' gs left memories' same made moved sound earlier counted = record {
    entries = steady.entries;
    few = steady.few;
    numbered = steady.numbered;
    code = steady.code;
    room = room_now;
    small = subst (λ (ms : List (List ℕ)). AreSmall s.entries.now ms) (sym made) (small_written s.entries.now new.writes.items memories steady.small ready.small);
    long = ready.long;
    free = subst (λ (n : ℕ). AreUsedBy n new.banks.items) counted ready.used;
    course = steady.course;
    frames = subst (λ (l : List Frame). AllByRecursion (IsSoundFrame (length course.phases)) l) (sym moved) (subst (λ (l : List HeldPhase). AllByRecursion (IsSoundFrame (length l)) gs) same sound);
    place = subst (λ (l : List HeldPhase). IsEarlier (length l) at') same earlier;
  }

  pub steady_back : (old : StepState) → IsBack old new → IsSteady (run_at s.entries.now course o' steps memories new.variables.items place frames) new.given.items new.banks.items firsts
  steady_back old back = record {
    entries = steady.entries;
    few = steady.few;
    numbered = steady.numbered;
    code = steady.code;
    room = room_now;
    small = steady.small;
    long = ready.long;
    free = unused_by steps new.banks.items back.free;
    course = steady.course;
    frames = steady.frames;
    place = steady.place;
  }

-- frames that are taken over from what was cleared
pub frames_copied : (new cleared slice frames : List Frame) → new ≡ cleared ++ slice → cleared ≡ [] → slice ≡ frames → new ≡ frames
frames_copied new cleared slice frames added none same = added ∙ (ap (λ l. l ++ slice) none ∙ same)

pub frames_sound : (phases kept : List HeldPhase) (new frames : List Frame) → phases ≡ kept → new ≡ frames → AllByRecursion (IsSoundFrame (length kept)) frames → AllByRecursion (IsSoundFrame (length phases)) new
frames_sound phases kept new frames same copied sound =
    subst (λ (l : List Frame). AllByRecursion (IsSoundFrame (length phases)) l) (sym copied) (subst (λ (l : List HeldPhase). AllByRecursion (IsSoundFrame (length l)) frames) (sym same) sound)
