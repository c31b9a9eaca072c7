-- From a frame to the next block behind it.
use Rattle.std.proofs.Common.{◌≡◌, ℕ, suc, ◌+◌, ◌<◌, ◌≤◌, nat_lt, Bool, true, false, if◌then◌else◌, List, [], ◌∷◌, ◌++◌, length, reverse, Some, None, Ok, Err, refl, ap, sym, ◌∙◌, subst, arith}
use Rattle.std.specs.Prelude.{Option, Result, IfOk, slice_get}
use Rattle.std.specs.List.{AllByRecursion}
use Rattle.std.proofs.lemmas.Bool.Decides.{nat_tests}
use Rattle.std.proofs.lemmas.List.{reverse-append}
use Rattle.dh_tree.specs.declared.tables.MemEntry.{MemEntry}
use Rattle.dh_meaning.specs.Core.{CoreTerm, Turning, CorePhase, turning, looping, choosing, CorePhases}
use Rattle.dh_meaning.specs.Effects.{Begun, Variables, holds_at}
use Rattle.dh_meaning.specs.Paths.{paths_in}
use Rattle.dh_meaning.specs.Runs.{RunNext, next, ended, RunTodo, over, phases_then, turn_then, test_then, again_then, pick_then, enter, first_path, inner_paths, next_of, turn_begun}
use Rattle.dh_code.specs.declared.codes.Code.{Code}
use Rattle.dh_code.specs.declared.running.StepState.{StepState}
use Rattle.dh_code.specs.Declarations.{factors_inside}
use Rattle.dh_code.specs.Slots.{Holds, Placing}
use Rattle.dh_sem.specs.declared.lanes.Lanes.{Lanes}
use Rattle.dh_sem.specs.declared.phases.PhaseForm.{PhaseForm}
use Rattle.dh_sem.specs.declared.phases.PhaseForm.TheVariants.{Straight, Turns, Loop, Choice}
use Rattle.dh_sem.specs.declared.phases.Frame.{Frame}
use Rattle.dh_sem.specs.declared.phases.Frame.TheVariants.{List as Rest, Turn, Test, Again, Pick}
use Rattle.dh_sem.specs.declared.phases.HeldPhase.{HeldPhase}
use Rattle.dh_sem.specs.declared.phases.Turns as turns
use Rattle.dh_sem.specs.declared.stepping.Course as code
use Rattle.dh_sem.specs.Frames.{AreToCome, IsFirst, BeginsWithoutTest, StandsFor}
use Rattle.dh_sem.specs.Lanes.{AreLanes}
use Rattle.dh_sem.specs.Phased.{ArePhases, Course, IsPhase, IsSome, IsSoundFrame, taken_branch, turns_in}
use Rattle.dh_sem.specs.Steps.{Arrives, BeginsTurn, Descends, DescendsTo, FollowsFrame, FollowsTo, GoesOn, FirstTestHolds, Lightens, NowhereIfNone, OnlyVariables, course_of, frame_weight, weight_of}
use Rattle.dh_sem.proofs.Going.{come_more, inner_is, nothing_of}
use Rattle.dh_sem.proofs.TurnsBegun.{only_none, only_then}

some_same : {A : Type 0} (a b : A) → Some a ≡ Some b → a ≡ b
some_same a b e = cc

-- What a frame is that comes first.
module _ (table : List MemEntry) (p : Placing) (c : Course) where
  pub record FirstList (list : Option ℕ) (k behind : RunTodo) : Type 0 where
    pub factors : List ℕ
    pub qs : CorePhases
    pub is : k ≡ phases_then (paths_in factors) qs behind
    pub are : ArePhases table p c factors list qs

  pub first_list : (list : Option ℕ) (k behind : RunTodo) → IsFirst table p c (Rest list) k behind → FirstList list k behind
  first_list list over behind h = absurd h
  first_list list (phases_then paths qs k) behind (factors, (a, (b, are))) = record { factors = factors; qs = qs; is = ap (λ l. phases_then l qs k) a ∙ ap (λ l. phases_then (paths_in factors) qs l) b; are = are }
  first_list list (turn_then paths loop t body k) behind h = absurd h
  first_list list (test_then paths test body k) behind h = absurd h
  first_list list (again_then paths test body k) behind h = absurd h
  first_list list (pick_then paths test chosen other k) behind h = absurd h

  pub record FirstTurn (number turn : ℕ) (k behind : RunTodo) : Type 0 where
    pub factors : List ℕ
    pub loop : Turning
    pub body : CorePhases
    pub is : k ≡ turn_then (paths_in factors) loop turn body behind
    pub below : turn < loop.count
    pub stands : StandsFor table p c factors number (turning loop body)

  pub first_turn : (number turn : ℕ) (k behind : RunTodo) → IsFirst table p c (Turn number turn) k behind → FirstTurn number turn k behind
  first_turn number turn over behind h = absurd h
  first_turn number turn (phases_then paths qs k) behind h = absurd h
  first_turn number turn (turn_then paths loop t body k) behind (factors, (a, (b, (e, (lt, stands))))) = record {
    factors = factors;
    loop = loop;
    body = body;
    is = ap (λ l. turn_then l loop t body k) a ∙ (ap (λ l. turn_then (paths_in factors) loop t body l) b ∙ ap (λ n. turn_then (paths_in factors) loop n body behind) (sym e));
    below = subst (λ (n : ℕ). n < loop.count) (sym e) lt;
    stands = stands;
  }
  first_turn number turn (test_then paths test body k) behind h = absurd h
  first_turn number turn (again_then paths test body k) behind h = absurd h
  first_turn number turn (pick_then paths test chosen other k) behind h = absurd h

  pub record FirstTest (number : ℕ) (k behind : RunTodo) : Type 0 where
    pub factors : List ℕ
    pub test : CoreTerm
    pub body : CorePhases
    pub is : k ≡ test_then (paths_in factors) test body behind
    pub stands : StandsFor table p c factors number (looping test body)

  pub first_test : (number : ℕ) (k behind : RunTodo) → IsFirst table p c (Test number) k behind → FirstTest number k behind
  first_test number over behind h = absurd h
  first_test number (phases_then paths qs k) behind h = absurd h
  first_test number (turn_then paths loop t body k) behind h = absurd h
  first_test number (test_then paths test body k) behind (factors, (a, (b, stands))) = record { factors = factors; test = test; body = body; is = ap (λ l. test_then l test body k) a ∙ ap (λ l. test_then (paths_in factors) test body l) b; stands = stands }
  first_test number (again_then paths test body k) behind h = absurd h
  first_test number (pick_then paths test chosen other k) behind h = absurd h

  pub record FirstAgain (number : ℕ) (k behind : RunTodo) : Type 0 where
    pub factors : List ℕ
    pub test : CoreTerm
    pub body : CorePhases
    pub is : k ≡ again_then (paths_in factors) test body behind
    pub stands : StandsFor table p c factors number (looping test body)

  pub first_again : (number : ℕ) (k behind : RunTodo) → IsFirst table p c (Again number) k behind → FirstAgain number k behind
  first_again number over behind h = absurd h
  first_again number (phases_then paths qs k) behind h = absurd h
  first_again number (turn_then paths loop t body k) behind h = absurd h
  first_again number (test_then paths test body k) behind h = absurd h
  first_again number (again_then paths test body k) behind (factors, (a, (b, stands))) = record { factors = factors; test = test; body = body; is = ap (λ l. again_then l test body k) a ∙ ap (λ l. again_then (paths_in factors) test body l) b; stands = stands }
  first_again number (pick_then paths test chosen other k) behind h = absurd h

  pub record FirstPick (number : ℕ) (k behind : RunTodo) : Type 0 where
    pub factors : List ℕ
    pub test : CoreTerm
    pub chosen : CorePhases
    pub other : CorePhases
    pub is : k ≡ pick_then (paths_in factors) test chosen other behind
    pub stands : StandsFor table p c factors number (choosing test chosen other)

  pub first_pick : (number : ℕ) (k behind : RunTodo) → IsFirst table p c (Pick number) k behind → FirstPick number k behind
  first_pick number over behind h = absurd h
  first_pick number (phases_then paths qs k) behind h = absurd h
  first_pick number (turn_then paths loop t body k) behind h = absurd h
  first_pick number (test_then paths test body k) behind h = absurd h
  first_pick number (again_then paths test body k) behind h = absurd h
  first_pick number (pick_then paths test chosen other k) behind (factors, (a, (b, stands))) = record {
    factors = factors;
    test = test;
    chosen = chosen;
    other = other;
    is = ap (λ l. pick_then l test chosen other k) a ∙ ap (λ l. pick_then (paths_in factors) test chosen other l) b;
    stands = stands;
  }

  -- the phase of a number that stands for one
  pub form_of : (factors : List ℕ) (number : ℕ) (phase : HeldPhase) (q : CorePhase) → slice_get c.phases number ≡ Some phase → StandsFor table p c factors number q → IsPhase table p c factors number phase.form q
  form_of factors number phase q get (other, (there, (lanes, does))) = subst (λ (x : HeldPhase). IsPhase table p c factors number x.form q) (some_same other phase (sym there ∙ get)) does

  pub no_turns : (factors : List ℕ) (number : ℕ) (form : PhaseForm) (loop : Turning) (body : CorePhases) → turns_in form ≡ None → IsPhase table p c factors number form (turning loop body) → ⊥
  no_turns factors number (Straight list) loop body e h = h
  no_turns factors number (Turns t) loop body e h = never t e
    where
      never : (t : turns.Turns) → Some t ≡ None → ⊥
      never t e = absurd cc
  no_turns factors number (Loop f list) loop body e h = h
  no_turns factors number (Choice f one two) loop body e h = h

  pub the_turns : (factors : List ℕ) (number : ℕ) (form : PhaseForm) (t : turns.Turns) (loop : Turning) (body : CorePhases) → turns_in form ≡ Some t → IsPhase table p c factors number form (turning loop body) → IsPhase table p c factors number (Turns t) (turning loop body)
  the_turns factors number (Straight list) t loop body e h = absurd h
  the_turns factors number (Turns u) t loop body e h = subst (λ (w : turns.Turns). IsPhase table p c factors number (Turns w) (turning loop body)) (some_same u t e) h
  the_turns factors number (Loop f list) t loop body e h = absurd h
  the_turns factors number (Choice f one two) t loop body e h = absurd h

  pub loop_body : (factors : List ℕ) (number : ℕ) (form : PhaseForm) (test : CoreTerm) (body : CorePhases) (holds : Bool) → IsPhase table p c factors number form (looping test body) → ArePhases table p c factors (taken_branch form holds) body
  loop_body factors number (Straight list) test body holds h = absurd h
  loop_body factors number (Turns t) test body holds h = absurd h
  loop_body factors number (Loop f list) test body holds (flat, (can, (early, are))) = are
  loop_body factors number (Choice f one two) test body holds h = absurd h

  pub chosen_arm : (factors : List ℕ) (number : ℕ) (form : PhaseForm) (test : CoreTerm) (chosen other : CorePhases) → IsPhase table p c factors number form (choosing test chosen other) → (holds : Bool) → ArePhases table p c factors (taken_branch form holds) (if holds then chosen else other)
  chosen_arm factors number (Straight list) test chosen other h holds = absurd h
  chosen_arm factors number (Turns t) test chosen other h holds = absurd h
  chosen_arm factors number (Loop f list) test chosen other h holds = absurd h
  chosen_arm factors number (Choice f one two) test chosen other (flat, (can, (early, (are, are')))) true = are
  chosen_arm factors number (Choice f one two) test chosen other (flat, (can, (early, (are, are')))) false = are'

pub ok_both : {A E : Type 0} (r : Result A E) (P Q : A → Type 0) → IfOk r P → IfOk r Q → IfOk r (λ x. P x × Q x)
ok_both (Ok a) P Q h k = (h, k)
ok_both (Err e) P Q h k = tt

-- what was settled begins with no test
pub settled_holds : (b : Begun) (v : Variables) (k : RunTodo) (holds : Bool) → BeginsWithoutTest k → FirstTestHolds b v k holds
settled_holds b v over holds h = tt
settled_holds b v (phases_then paths qs k) holds h = tt
settled_holds b v (turn_then paths loop t body k) holds h = tt
settled_holds b v (test_then paths test body k) holds h = absurd h
settled_holds b v (again_then paths test body k) holds h = tt
settled_holds b v (pick_then paths test chosen other k) holds h = absurd h

pub counted_on : (turn count : ℕ) (b : Bool) → nat_lt (suc turn) count ≡ b → (turn + 1 < count → b ≡ true) × (count ≤ turn + 1 → b ≡ false)
counted_on turn count b e = (λ l. sym e ∙ yes_so l, λ l. sym e ∙ no_more l)
  where
    yes_so : turn + 1 < count → nat_lt (suc turn) count ≡ true
    yes_so l = grind (arith, nat_tests)

    no_more : count ≤ turn + 1 → nat_lt (suc turn) count ≡ false
    no_more l = grind (arith, nat_tests)

module _ (x : code.Course) where
  -- Turns.

  turns_count : (table : List MemEntry) (p : Placing) (made : Code) (factors : List ℕ) (number : ℕ) (t : turns.Turns) (loop : Turning) (body : CorePhases) → IsPhase table p (course_of made x) factors number (Turns t) (turning loop body) → t.count ≡ loop.count
  turns_count table p made factors number t loop body (turned, rest) = turned.count

  pub turn_next : (number turn later : ℕ) (phase : HeldPhase) (t : turns.Turns) (lanes : Lanes) (holds : Bool) (found : Option ℕ) (old mid new : StepState) (fs gs hs : List Frame) → slice_get x.phases.now number ≡ Some phase → turns_in phase.form ≡ Some t → later ≡ turn + 1 → later < t.count
      → slice_get x.lanes.now t.inside ≡ Some lanes → BeginsTurn old mid lanes t later → gs ≡ fs ++ Turn number later ∷ [] → IsSome t.body → NowhereIfNone t.body found mid new gs hs → Descends x t.body found mid new gs hs
      → FollowsFrame x (Turn number turn) holds found old new fs hs
  turn_next number turn later phase t lanes holds found old mid new fs gs hs get is next_is below in_lanes begun pushed some nowhere d table p made b v k behind first settled come h hf =
      let c = course_of made x in
      let f = first_turn table p c number turn k behind first in
      let does = the_turns table p c f.factors number phase.form t f.loop f.body is (form_of table p c f.factors number phase (turning f.loop f.body) get f.stands) in
      subst (λ (l : RunTodo). FollowsTo table p c b v (next_of b l v) found new hs) (sym f.is) (by f.factors f.loop f.body f.stands does)
    where
      by : (factors : List ℕ) (loop : Turning) (body : CorePhases) → StandsFor table p (course_of made x) factors number (turning loop body) → IsPhase table p (course_of made x) factors number (Turns t) (turning loop body)
          → FollowsTo table p (course_of made x) b v (next_of b (turn_then (paths_in factors) loop turn body behind) v) found new hs
      by factors loop body stands (turned, (leads, (some', (early, inner)))) =
          let paths = paths_in factors in
          let k' = turn_then paths loop (suc turn) body behind in
          let n = enter (inner_paths paths loop) body k' (next ended v) (turn_begun loop (suc turn) (inner_paths paths loop) v) in
          let on : suc turn < loop.count = so_many turn later t.count loop.count next_is below turned.count in
          let go : nat_lt (suc turn) loop.count ≡ true = more (suc turn) loop.count on in
          let same : later ≡ suc turn = next_is ∙ plus turn in
          let same_lanes = some_same leads.found lanes (sym leads.there ∙ in_lanes) in
          let lanes_are = subst (λ (l : Lanes). AreLanes (factors_inside factors loop.factor) l) same_lanes leads.are in
          let come' = come_more table p (course_of made x) fs gs (Turn number later) k' behind pushed (factors, (refl, (refl, (same, (on, stands))))) settled come in
          let h' = begun p factors loop v lanes_are turned h in
          let h'' = subst (λ (m : ℕ). Holds p mid.variables.items (turn_begun loop m (paths_in (factors_inside factors loop.factor)) v)) same h' in
          let d' = d table p made (factors_inside factors loop.factor) body k' (next ended v) (turn_begun loop (suc turn) (paths_in (factors_inside factors loop.factor)) v) inner come' tt h'' in
          reached found nowhere (next_of b (turn_then paths loop turn body behind) v)
          (subst (λ (m : RunNext). DescendsTo table p (course_of made x) found new hs m)
          (sym (ap (λ t. if t then n else next_of b behind v) go ∙ ap (λ l. enter l body k' (next ended v) (turn_begun loop (suc turn) l v)) (inner_is factors loop))) d')
        where
          so_many : (turn later c d : ℕ) → later ≡ turn + 1 → later < c → c ≡ d → suc turn < d
          so_many turn later c d e f g = omega (arith, e, f, g)

          more : (a b : ℕ) → a < b → nat_lt a b ≡ true
          more a b e = grind (arith, nat_tests)

          plus : (n : ℕ) → n + 1 ≡ suc n
          plus n = omega arith

          reached : (found : Option ℕ) → NowhereIfNone t.body found mid new gs hs → (n : RunNext) → DescendsTo table p (course_of made x) found new hs n → FollowsTo table p (course_of made x) b v n found new hs
          reached None nowhere n e = absurd (subst IsSome nowhere.list_is some)
          reached (Some m) nowhere n e = e

  pub turn_light : (number turn : ℕ) (t : turns.Turns) (found : Option ℕ) (a b a' b' : StepState) (fs gs fs' gs' : List Frame) → IsSome t.body → NowhereIfNone t.body found a b fs gs → Lightens found (Turn number turn) a' b' fs' gs'
  turn_light number turn t None a b a' b' fs gs fs' gs' some h = absurd (subst IsSome h.list_is some)
  turn_light number turn t (Some n) a b a' b' fs gs fs' gs' some h = tt

  -- The other frames.

  -- a list leads into its first block, or to what lies behind
  into_list : (table : List MemEntry) (p : Placing) (made : Code) (b : Begun) (v : Variables) (factors : List ℕ) (qs : CorePhases) (list found : Option ℕ) (k : RunTodo) (old new : StepState) (fs gs : List Frame)
      → ArePhases table p (course_of made x) factors list qs → AreToCome table p (course_of made x) (reverse fs) k → BeginsWithoutTest k → NowhereIfNone list found old new fs gs
      → DescendsTo table p (course_of made x) found new gs (enter (paths_in factors) qs k (next_of b k v) v) → FollowsTo table p (course_of made x) b v (enter (paths_in factors) qs k (next_of b k v) v) found new gs
  into_list table p made b v factors qs list None k old new fs gs are come settled nowhere d = record {
    todo = k;
    are = subst (λ (l : List Frame). AreToCome table p (course_of made x) (reverse l) k) (sym nowhere.frames) come;
    settled = settled;
    same = sym (ap (λ l. enter (paths_in factors) l k (next_of b k v) v) (nothing_of table p (course_of made x) factors list qs are nowhere.list_is));
  }
  into_list table p made b v factors qs list (Some n) k old new fs gs are come settled nowhere d = d

  pub list_follows : (list found : Option ℕ) (holds : Bool) (old new : StepState) (fs gs : List Frame) → NowhereIfNone list found old new fs gs → Descends x list found old new fs gs → FollowsFrame x (Rest list) holds found old new fs gs
  list_follows list found holds old new fs gs nowhere d table p made b v k behind first settled come h hf =
      let c = course_of made x in
      let f = first_list table p c list k behind first in
      subst (λ (l : RunTodo). FollowsTo table p c b v (next_of b l v) found new gs) (sym f.is)
      (into_list table p made b v f.factors f.qs list found behind old new fs gs f.are come settled nowhere (d table p made f.factors f.qs behind (next_of b behind v) v f.are come settled h))

  pub light_list : (list found : Option ℕ) (frame : Frame) (old new : StepState) (fs gs : List Frame) → 0 < frame_weight frame → NowhereIfNone list found old new fs gs → Lightens found frame old new fs gs
  light_list list None frame old new fs gs some h = (h.state, subst (λ (l : List Frame). weight_of l < frame_weight frame + weight_of fs) (sym h.frames) (less (frame_weight frame) (weight_of fs) some))
    where
      less : (a b : ℕ) → 0 < a → b < a + b
      less a b e = omega (arith, e)
  light_list list (Some n) frame old new fs gs some h = tt

  pub pick_follows : (number : ℕ) (phase : HeldPhase) (found : Option ℕ) (holds : Bool) (old new : StepState) (fs gs : List Frame) → slice_get x.phases.now number ≡ Some phase → NowhereIfNone (taken_branch phase.form holds) found old new fs gs
      → Descends x (taken_branch phase.form holds) found old new fs gs → FollowsFrame x (Pick number) holds found old new fs gs
  pick_follows number phase found holds old new fs gs get nowhere d table p made b v k behind first settled come h hf =
      let c = course_of made x in
      let f = first_pick table p c number k behind first in
      subst (λ (l : RunTodo). FollowsTo table p c b v (next_of b l v) found new gs) (sym f.is)
      (by f.factors f.test f.chosen f.other (chosen_arm table p c f.factors number phase.form f.test f.chosen f.other (form_of table p c f.factors number phase (choosing f.test f.chosen f.other) get f.stands) holds)
      (subst (λ (l : RunTodo). FirstTestHolds b v l holds) f.is hf))
    where
      one : (holds : Bool) (factors : List ℕ) (chosen other : CorePhases) → (if holds then enter (paths_in factors) chosen behind (next_of b behind v) v else enter (paths_in factors) other behind (next_of b behind v) v) ≡ enter (paths_in factors) (if holds then chosen else other) behind (next_of b behind v) v
      one true factors chosen other = refl
      one false factors chosen other = refl

      by : (factors : List ℕ) (test : CoreTerm) (chosen other : CorePhases) → ArePhases table p (course_of made x) factors (taken_branch phase.form holds) (if holds then chosen else other) → holds_at b v test (first_path (paths_in factors)) ≡ holds
          → FollowsTo table p (course_of made x) b v (next_of b (pick_then (paths_in factors) test chosen other behind) v) found new gs
      by factors test chosen other are so =
          subst (λ (n : RunNext). FollowsTo table p (course_of made x) b v n found new gs)
          (sym (ap (λ t. if t then enter (paths_in factors) chosen behind (next_of b behind v) v else enter (paths_in factors) other behind (next_of b behind v) v) so ∙ one holds factors chosen other))
          (into_list table p made b v factors (if holds then chosen else other) (taken_branch phase.form holds) found behind old new fs gs are come settled nowhere
          (d table p made factors (if holds then chosen else other) behind (next_of b behind v) v are come settled h))

  pub test_follows : (number : ℕ) (phase : HeldPhase) (found : Option ℕ) (old new : StepState) (fs gs hs : List Frame) → slice_get x.phases.now number ≡ Some phase → gs ≡ fs ++ Again number ∷ [] → NowhereIfNone (taken_branch phase.form true) found old new gs hs
      → Descends x (taken_branch phase.form true) found old new gs hs → FollowsFrame x (Test number) true found old new fs hs
  test_follows number phase found old new fs gs hs get pushed nowhere d table p made b v k behind first settled come h hf =
      let c = course_of made x in
      let f = first_test table p c number k behind first in
      subst (λ (l : RunTodo). FollowsTo table p c b v (next_of b l v) found new hs) (sym f.is) (by f.factors f.test f.body f.stands (subst (λ (l : RunTodo). FirstTestHolds b v l true) f.is hf))
    where
      by : (factors : List ℕ) (test : CoreTerm) (body : CorePhases) → StandsFor table p (course_of made x) factors number (looping test body) → holds_at b v test (first_path (paths_in factors)) ≡ true
          → FollowsTo table p (course_of made x) b v (next_of b (test_then (paths_in factors) test body behind) v) found new hs
      by factors test body stands so =
          let c = course_of made x in
          let k' = again_then (paths_in factors) test body behind in
          let are = loop_body table p c factors number phase.form test body true (form_of table p c factors number phase (looping test body) get stands) in
          let come' = come_more table p c fs gs (Again number) k' behind pushed (factors, (refl, (refl, stands))) settled come in
          subst (λ (n : RunNext). FollowsTo table p c b v n found new hs) (sym (ap (λ t. if t then enter (paths_in factors) body k' (next_of b k' v) v else next_of b behind v) so))
          (into_list table p made b v factors body (taken_branch phase.form true) found k' old new gs hs are come' tt nowhere (d table p made factors body k' (next_of b k' v) v are come' tt h))

  pub test_light : (number : ℕ) (list found : Option ℕ) (old new : StepState) (fs gs hs : List Frame) → gs ≡ fs ++ Again number ∷ [] → NowhereIfNone list found old new gs hs → Lightens found (Test number) old new fs hs
  test_light number list None old new fs gs hs pushed h = (h.state, subst (λ (l : List Frame). weight_of l < 2 + weight_of fs) (sym (h.frames ∙ pushed)) (less fs))
    where
      less : (fs : List Frame) → weight_of (fs ++ Again number ∷ []) < 2 + weight_of fs
      less [] = omega arith
      less (f ∷ fs) = by (frame_weight f) (weight_of (fs ++ Again number ∷ [])) (weight_of fs) (less fs)
        where
          by : (a b c : ℕ) → b < 2 + c → a + b < 2 + (a + c)
          by a b c e = omega (arith, e)
  test_light number list (Some n) old new fs gs hs pushed h = tt

  pub again_follows : (number : ℕ) (holds : Bool) (old : StepState) (fs gs : List Frame) → gs ≡ fs ++ Test number ∷ [] → FollowsFrame x (Again number) holds (Some number) old old fs gs
  again_follows number holds old fs gs pushed table p made b v k behind first settled come h hf =
      let c = course_of made x in
      let f = first_again table p c number k behind first in
      subst (λ (l : RunTodo). Arrives table p c (next_of b l v) old (Some number) gs) (sym f.is)
      (record {
        variables = h;
        place = (
          f.factors,
          (
            looping f.test f.body,
            (
              refl,
              (
                f.stands,
                (
                  refl,
                  (
                    (refl, refl),
                    come_more table p c fs gs (Test number) (test_then (paths_in f.factors) f.test f.body behind) behind pushed (f.factors, (refl, (refl, f.stands))) settled come,
                  ),
                ),
              ),
            ),
          ),
        );
      })

  -- Frames.

  first_come : (table : List MemEntry) (p : Placing) (made : Code) (fs gs : List Frame) (frame : Frame) (k : RunTodo) → fs ≡ gs ++ frame ∷ [] → AreToCome table p (course_of made x) (reverse fs) k
      → (behind : RunTodo) × (IsFirst table p (course_of made x) frame k behind × (BeginsWithoutTest behind × AreToCome table p (course_of made x) (reverse gs) behind))
  first_come table p made fs gs frame k is come = subst (λ (l : List Frame). AreToCome table p (course_of made x) l k) (ap (λ l. reverse l) is ∙ reverse-append gs (frame ∷ [])) come

  pub none_goes : (holds : Bool) (old new : StepState) (fs gs : List Frame) → fs ≡ [] → new ≡ old → GoesOn x None old new fs gs holds
  none_goes holds old new fs gs empty same table p made b v k come h hf =
      let none : k ≡ over = subst (λ (l : List Frame). AreToCome table p (course_of made x) (reverse l) k) empty come in
      subst (λ (l : RunTodo). Arrives table p (course_of made x) (next_of b l v) new None gs) (sym none) (record { variables = subst (λ (s : StepState). Holds p s.variables.items v) (sym same) h; place = tt })

  pub some_goes : (holds : Bool) (number : ℕ) (frame : Frame) (old new : StepState) (fs gs hs : List Frame) → fs ≡ gs ++ frame ∷ [] → FollowsFrame x frame holds (Some number) old new gs hs → GoesOn x (Some number) old new fs hs holds
  some_goes holds number frame old new fs gs hs is follows table p made b v k come h hf =
      let f = first_come table p made fs gs frame k is come in
      follows table p made b v k f.0 f.1.0 f.1.1.0 f.1.1.1 h hf

  pub further_goes : (holds : Bool) (found : Option ℕ) (frame : Frame) (old mid new : StepState) (fs gs hs ks : List Frame) → fs ≡ gs ++ frame ∷ [] → mid ≡ old → FollowsFrame x frame holds None old mid gs hs → GoesOn x found mid new hs ks holds → GoesOn x found old new fs ks holds
  further_goes holds found frame old mid new fs gs hs ks is same follows goes table p made b v k come h hf =
      let f = first_come table p made fs gs frame k is come in
      let g = follows table p made b v k f.0 f.1.0 f.1.1.0 f.1.1.1 h hf in
      subst (λ (n : RunNext). Arrives table p (course_of made x) n new found ks) g.same
      (goes table p made b v g.todo g.are (subst (λ (s : StepState). Holds p s.variables.items v) (sym same) h) (settled_holds b v g.todo holds g.settled))

pub weight_last : (fs : List Frame) (f : Frame) → weight_of (fs ++ f ∷ []) ≡ frame_weight f + weight_of fs
weight_last [] f = refl
weight_last (g ∷ fs) f = ap (λ n. frame_weight g + n) (weight_last fs f) ∙ by (frame_weight g) (frame_weight f) (weight_of fs)
  where
    by : (a b c : ℕ) → a + (b + c) ≡ b + (a + c)
    by a b c = omega arith

-- where no frame is left the run is at its end
nothing_goes : (x : code.Course) (holds : Bool) (now : StepState) (fs ks : List Frame) → fs ≡ [] → GoesOn x None now now fs ks holds
nothing_goes x holds now fs ks none table p made b v k come h hf =
    let is_over : k ≡ over = subst (λ (l : List Frame). AreToCome table p (course_of made x) (reverse l) k) none come in
    subst (λ (t : RunTodo). Arrives table p (course_of made x) (next_of b t v) now None ks) (sym is_over) (record { variables = h; place = tt })

-- the frames so far led to no block
pub record GoneSoFar (x : code.Course) (holds : Bool) (old : StepState) (before : List Frame) (now : StepState) (frames : List Frame) : Type 0 where
  pub only : OnlyVariables old now
  pub sound : AllByRecursion (IsSoundFrame (length x.phases.now)) frames
  pub goes : (found : Option ℕ) (new : StepState) (ks : List Frame) → GoesOn x found now new frames ks holds → GoesOn x found old new before ks holds

pub gone_first : (x : code.Course) (holds : Bool) (old : StepState) (fs : List Frame) → AllByRecursion (IsSoundFrame (length x.phases.now)) fs → GoneSoFar x holds old fs old fs
gone_first x holds old fs sound = record { only = only_none old; sound = sound; goes = λ found new ks g. g }

module _ (x : code.Course) (holds : Bool) (old now : StepState) (before fs : List Frame) (so : GoneSoFar x holds old before now fs) where
  pub gone_more : (frame : Frame) (mid : StepState) (gs hs : List Frame) → fs ≡ gs ++ frame ∷ [] → mid ≡ now → OnlyVariables now mid → AllByRecursion (IsSoundFrame (length x.phases.now)) hs → FollowsFrame x frame holds None now mid gs hs
      → GoneSoFar x holds old before mid hs
  gone_more frame mid gs hs is same only sound follows = record {
    only = only_then old now mid so.only only;
    sound = sound;
    goes = λ found new ks g. so.goes found new ks (further_goes x holds found frame now mid new fs gs hs ks is same follows g);
  }

  pub gone_to : (number : ℕ) (frame : Frame) (new : StepState) (gs hs : List Frame) → fs ≡ gs ++ frame ∷ [] → FollowsFrame x frame holds (Some number) now new gs hs → GoesOn x (Some number) old new before hs holds
  gone_to number frame new gs hs is follows = so.goes (Some number) new hs (some_goes x holds number frame now new fs gs hs is follows)

  pub gone_over : (ks : List Frame) → fs ≡ [] → GoesOn x None old now before ks holds
  gone_over ks none = so.goes None now ks (nothing_goes x holds now fs ks none)
