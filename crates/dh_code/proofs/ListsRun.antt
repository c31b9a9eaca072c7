-- An `if` at paths, and lists of commands, one after the other.
use Rattle.std.proofs.Common.{◌≡◌, ℕ, suc, ◌+◌, ◌*◌, ◌<◌, ◌≤◌, Bool, true, false, if◌then◌else◌, List, [], ◌∷◌, length, map, max, get_or, Ok, Err, Some, None, refl, ap, sym, ◌∙◌, subst, arith}
use Rattle.std.specs.Prelude.{Option, Result, is_some, not, slice_get, slice_index_or}
use Rattle.std.proofs.lemmas.Option.{slice_get-get_or, slice_get_past}
use Rattle.dh_tree.specs.declared.tables.MemEntry.{MemEntry}
use Rattle.dh_meaning.specs.Paths.{Path}
use Rattle.dh_meaning.specs.Core.{CoreTerm, store, assign, choose, keep, CoreCommands, no_commands, command_and}
use Rattle.dh_meaning.specs.Effects.{Begun, Effect, at_each, command_run, commands_run, holds_at, paths_where, tested_at}
use Rattle.dh_code.specs.declared.codes.Action.{Action}
use Rattle.dh_code.specs.declared.codes.Action.TheVariants.{Store, Assign, Keep, Choose}
use Rattle.dh_code.specs.declared.codes.FlatExpression.{FlatExpression}
use Rattle.dh_code.specs.declared.codes.ListedCommand.{ListedCommand}
use Rattle.dh_code.specs.declared.evaluating.StepContext.{StepContext}
use Rattle.dh_code.specs.declared.evaluating.StepStop.{StepStop}
use Rattle.dh_code.specs.declared.running.StepState.{StepState}
use Rattle.dh_code.specs.declared.codes.CodeOperation.{CodeOperation}
use Rattle.dh_code.specs.Coded.{AreCoded, IsCoded, IsFlat}
use Rattle.dh_code.specs.Ranks.{ranks_of}
use Rattle.dh_code.specs.Scenes.{IsAction, IsEarlier, IsScene, begun_in}
use Rattle.dh_code.specs.Slots.{Placing}
use Rattle.dh_code.specs.States.{AreParts, AreRanks, AreRows, CanBeDone, Decides, DoesAll, DoesOne, Ends, IsReadyState, Keeps, KeepsBack, Runs}
use Rattle.dh_code.specs.Suited.{CanDoAll, CanEvaluate}
pub use Rattle.dh_code.specs.Underway.{RunSoFar, list_depth}
use Rattle.dh_code.proofs.ChoicesDone.{all_nowhere}
use Rattle.dh_code.proofs.PathLoops.{Grows, commands_grow, ends_later, grows_then, row_at}

-- what an `if` does behind its test
abbrev pub arms_run : Begun → (yes_paths no_paths : List Path) → (chosen other : CoreCommands) → Effect → Effect
arms_run b yes_paths no_paths chosen other e = commands_run b no_paths other (commands_run b yes_paths chosen e)

pub arms_grow : (b : Begun) (xs ys : List Path) (chosen other : CoreCommands) (e : Effect) → Grows e (arms_run b xs ys chosen other e)
arms_grow b xs ys chosen other e = grows_then e (commands_run b xs chosen e) _ (commands_grow b xs chosen e) (commands_grow b ys other (commands_run b xs chosen e))

pub one_path : (factors : List ℕ) (rows : List (List ℕ)) (n : ℕ) (paths : List Path) → AreRows factors rows (n ∷ []) paths → (path : Path) × (paths ≡ path ∷ [])
one_path factors rows n [] are = absurd (never are.are)
  where
    never : slice_index_or rows n [] ∷ [] ≡ [] → ⊥
    never e = cc
one_path factors rows n (path ∷ []) are = (path, refl)
one_path factors rows n (path ∷ (other ∷ paths)) are = absurd (never are.are)
  where
    never : slice_index_or rows n [] ∷ [] ≡ ranks_of factors path ∷ (ranks_of factors other ∷ map (ranks_of factors) paths) → ⊥
    never e = absurd cc

-- an `if` at one path
module _ (s : StepContext) (old : StepState) (rows : List (List ℕ)) (n : ℕ) (f : FlatExpression) (one two : Option ℕ) (ranks : List ℕ) (row : ranks ≡ slice_index_or rows n []) where
  at_path : (factors : List ℕ) (path : Path) → AreRows factors rows (n ∷ []) (path ∷ []) → AreRanks factors ranks path
  at_path factors path are = subst (λ (l : List ℕ). AreRanks factors l path) (sym row) (row_at factors rows (n ∷ []) (path ∷ []) 0 n are.are are.inside (omega arith)).0

  pub choose_one : {A : Type 0} (b : Bool) (middle new : StepState) (result : Result A StepStop) → Decides s old (Ok b) middle ranks f → DoesAll s middle result new rows (n ∷ []) (if b then one else two) → DoesOne s old result new rows (n ∷ []) (Choose f one two)
  choose_one b middle new result d does p factors paths (store r target value) are coded can e k = absurd coded
  choose_one b middle new result d does p factors paths (assign deep entity t) are coded can e k = absurd coded
  choose_one b middle new result d does p factors paths (keep deep entity values) are coded can e k = absurd coded
  choose_one {A} b middle new result d does p factors paths (choose test chosen other) are coded can e k = by (one_path factors rows n paths are)
    where
      goal_at : List Path → Type 0
      goal_at ps = Ends {A = A} p s.entries.now (command_run (begun_in s) ps (choose test chosen other) e) s.step result new

      arm : (b : Bool) (path : Path) → AreRows factors rows (n ∷ []) (path ∷ []) → holds_at (begun_in s) e.variables test path ≡ b → DoesAll s middle result new rows (n ∷ []) (if b then one else two)
          → Keeps p s.entries.now (tested_at (begun_in s) test path e) s.step middle → goal_at (path ∷ [])
      arm true path are' holds does k' =
          subst (λ (x : Effect). Ends {A = A} p s.entries.now x s.step result new)
          (sym (ap (λ t. arms_run (begun_in s) (if t then path ∷ [] else []) (if t then [] else path ∷ []) chosen other (tested_at (begun_in s) test path e)) holds
          ∙ all_nowhere (begun_in s) other (commands_run (begun_in s) (path ∷ []) chosen (tested_at (begun_in s) test path e))))
          (does p factors (path ∷ []) chosen are' coded.1.0 can.1.0 (tested_at (begun_in s) test path e) k')
      arm false path are' holds does k' =
          subst (λ (x : Effect). Ends {A = A} p s.entries.now x s.step result new)
          (sym (ap (λ t. arms_run (begun_in s) (if t then path ∷ [] else []) (if t then [] else path ∷ []) chosen other (tested_at (begun_in s) test path e)) holds
          ∙ ap (λ x. commands_run (begun_in s) (path ∷ []) other x) (all_nowhere (begun_in s) chosen (tested_at (begun_in s) test path e))))
          (does p factors (path ∷ []) other are' coded.1.1 can.1.1 (tested_at (begun_in s) test path e) k')

      by : (path : Path) × (paths ≡ path ∷ []) → goal_at paths
      by (path, is) =
          let are' = subst (λ (ps : List Path). AreRows factors rows (n ∷ []) ps) is are in
          let decided = d p factors path test (at_path factors path are') coded.0 can.0.1 in
          subst goal_at (sym is) (arm b path are' (decided.1 e k) does (decided.0 e k))

  pub choose_stop_one : (A B : Type 0) (x : StepStop) (middle new : StepState) (result : Result B StepStop) → result ≡ Err x
      → ((p : Placing) (factors : List ℕ) (path : Path) (t : CoreTerm) → AreRanks factors ranks path → IsFlat p.held s.entries.now s.code.now t f → CanEvaluate s.entries.now p factors t → Runs {A = A} p s old (Err x) middle (tested_at (begun_in s) t path))
      → DoesOne s old result new rows (n ∷ []) (Choose f one two)
  choose_stop_one A B x middle new result stopped d p factors paths (store r target value) are coded can e k = absurd coded
  choose_stop_one A B x middle new result stopped d p factors paths (assign deep entity t) are coded can e k = absurd coded
  choose_stop_one A B x middle new result stopped d p factors paths (keep deep entity values) are coded can e k = absurd coded
  choose_stop_one A B x middle new result stopped d p factors paths (choose test chosen other) are coded can e k = by (one_path factors rows n paths are)
    where
      by : (path : Path) × (paths ≡ path ∷ []) → Ends {A = B} p s.entries.now (command_run (begun_in s) paths (choose test chosen other) e) s.step result new
      by (path, is) =
          let are' = subst (λ (ps : List Path). AreRows factors rows (n ∷ []) ps) is are in
          subst (λ (ps : List Path). Ends {A = B} p s.entries.now (command_run (begun_in s) ps (choose test chosen other) e) s.step result new) (sym is)
          (ends_later A B p s.entries.now s.step (tested_at (begun_in s) test path e) (command_run (begun_in s) (path ∷ []) (choose test chosen other) e) middle new x result
          (arms_grow (begun_in s) (paths_where true (holds_at (begun_in s) e.variables test) (path ∷ [])) (paths_where false (holds_at (begun_in s) e.variables test) (path ∷ [])) chosen other (tested_at (begun_in s) test path e)) stopped
          (d p factors path test (at_path factors path are') coded.0 can.0.1 e k))

-- an `if` at several paths
module _ (s : StepContext) (old : StepState) (rows : List (List ℕ)) (numbers : List ℕ) (f : FlatExpression) (one two : Option ℕ) where
  -- the tests at all paths stop
  pub choose_stop : (A B : Type 0) (x : StepStop) (middle new : StepState) (result : Result B StepStop) → result ≡ Err x
      → ((p : Placing) (factors : List ℕ) (paths : List Path) (t : CoreTerm) → AreRows factors rows numbers paths → IsFlat p.held s.entries.now s.code.now t f → CanEvaluate s.entries.now p factors t → Runs {A = A} p s old (Err x) middle (at_each (tested_at (begun_in s) t) paths))
      → DoesOne s old result new rows numbers (Choose f one two)
  choose_stop A B x middle new result stopped d p factors paths (store r target value) are coded can e k = absurd coded
  choose_stop A B x middle new result stopped d p factors paths (assign deep entity t) are coded can e k = absurd coded
  choose_stop A B x middle new result stopped d p factors paths (keep deep entity values) are coded can e k = absurd coded
  choose_stop A B x middle new result stopped d p factors paths (choose test chosen other) are coded can e k =
      ends_later A B p s.entries.now s.step (at_each (tested_at (begun_in s) test) paths e) (command_run (begun_in s) paths (choose test chosen other) e) middle new x result
      (arms_grow (begun_in s) (paths_where true (holds_at (begun_in s) e.variables test) paths) (paths_where false (holds_at (begun_in s) e.variables test) paths) chosen other (at_each (tested_at (begun_in s) test) paths e)) stopped
      (d p factors paths test are coded.0 can.0.1 e k)

  module _ (first second : List ℕ) (tested : StepState)
      (d : (p : Placing) (factors : List ℕ) (paths : List Path) (t : CoreTerm) → AreRows factors rows numbers paths → IsFlat p.held s.entries.now s.code.now t f → CanEvaluate s.entries.now p factors t
      → (e : Effect) → Keeps p s.entries.now e s.step old → Keeps p s.entries.now (at_each (tested_at (begun_in s) t) paths e) s.step tested × AreParts rows factors paths (holds_at (begun_in s) e.variables t) (first, second)) where
    pub choose_stop_first : (A B : Type 0) (x : StepStop) (middle new : StepState) (result : Result B StepStop) → result ≡ Err x → DoesAll {A = A} s tested (Err x) middle rows first one → DoesOne s old result new rows numbers (Choose f one two)
    choose_stop_first A B x middle new result stopped does p factors paths (store r target value) are coded can e k = absurd coded
    choose_stop_first A B x middle new result stopped does p factors paths (assign deep entity t) are coded can e k = absurd coded
    choose_stop_first A B x middle new result stopped does p factors paths (keep deep entity values) are coded can e k = absurd coded
    choose_stop_first A B x middle new result stopped does p factors paths (choose test chosen other) are coded can e k =
        let h = d p factors paths test are coded.0 can.0.1 e k in
        ends_later A B p s.entries.now s.step (commands_run (begun_in s) (paths_where true (holds_at (begun_in s) e.variables test) paths) chosen (at_each (tested_at (begun_in s) test) paths e)) _ middle new x result
        (commands_grow (begun_in s) (paths_where false (holds_at (begun_in s) e.variables test) paths) other _) stopped
        (does p factors (paths_where true (holds_at (begun_in s) e.variables test) paths) chosen h.1.0 coded.1.0 can.1.0 (at_each (tested_at (begun_in s) test) paths e) h.0)

    pub choose_both : {A B : Type 0} (a : A) (middle new : StepState) (result : Result B StepStop) → DoesAll {A = A} s tested (Ok a) middle rows first one → DoesAll s middle result new rows second two → DoesOne s old result new rows numbers (Choose f one two)
    choose_both a middle new result does does' p factors paths (store r target value) are coded can e k = absurd coded
    choose_both a middle new result does does' p factors paths (assign deep entity t) are coded can e k = absurd coded
    choose_both a middle new result does does' p factors paths (keep deep entity values) are coded can e k = absurd coded
    choose_both a middle new result does does' p factors paths (choose test chosen other) are coded can e k =
        let h = d p factors paths test are coded.0 can.0.1 e k in
        let k' = does p factors (paths_where true (holds_at (begun_in s) e.variables test) paths) chosen h.1.0 coded.1.0 can.1.0 (at_each (tested_at (begun_in s) test) paths e) h.0 in
        does' p factors (paths_where false (holds_at (begun_in s) e.variables test) paths) other h.1.1 coded.1.1 can.1.1 _ k'

-- Lists of commands.

abbrev pub list_rest : CoreCommands → CoreCommands
list_rest no_commands = no_commands
list_rest (command_and c cs) = cs

pub run_first : (s : StepContext) (old : StepState) (rows : List (List ℕ)) (numbers : List ℕ) (first : Option ℕ) → IsReadyState s old → RunSoFar s old rows numbers first old first
run_first s old rows numbers first ready = record {
  ready = ready;
  back = record { long = refl; back = refl };
  low = omega arith;
  ran = λ p factors paths cs are coded can e k. (cs, (e, ((coded, can), (k, refl))));
}

module _ (s : StepContext) (old : StepState) (rows : List (List ℕ)) (numbers : List ℕ) (first : Option ℕ) (now : StepState) (list : Option ℕ) (g : RunSoFar s old rows numbers first now list) where
  same_step : (a b : ListedCommand) → Some a ≡ Some b → a ≡ b
  same_step a b e = cc

  module _ (n : ℕ) (step : ListedCommand) (is : list ≡ Some n) (get : slice_get s.code.now.steps n ≡ Some step) where
    pub run_turn : (A : Type 0) (a : A) (new : StepState) → IsReadyState s new → KeepsBack now new → list_depth step.next ≤ n → DoesOne {A = A} s now (Ok a) new rows numbers step.action → RunSoFar s old rows numbers first new step.next
    run_turn A a new ready back lower does = record {
      ready = ready;
      back = record { long = back.long ∙ g.back.long; back = back.back ∙ g.back.back };
      low = under _ _ _ lower (subst (λ (l : Option ℕ). list_depth l ≤ list_depth first) is g.low);
      ran = λ p factors paths cs are coded can e k. by p factors paths cs are e (g.ran p factors paths cs are coded can e k);
    }
      where
        under : (x y z : ℕ) → x ≤ y → y + 1 ≤ z → x ≤ z
        under x y z a b = omega (arith, a, b)

        by : (p : Placing) (factors : List ℕ) (paths : List Path) (cs : CoreCommands) → AreRows factors rows numbers paths → (e : Effect)
            → (rest : CoreCommands) × ((so_far : Effect) × ((AreCoded p.held s.entries.now s.code.now list rest × CanDoAll s.entries.now p factors rest)
            × (Keeps p s.entries.now so_far s.step now × (commands_run (begun_in s) paths rest so_far ≡ commands_run (begun_in s) paths cs e))))
            → (rest : CoreCommands) × ((so_far : Effect) × ((AreCoded p.held s.entries.now s.code.now step.next rest × CanDoAll s.entries.now p factors rest)
            × (Keeps p s.entries.now so_far s.step new × (commands_run (begun_in s) paths rest so_far ≡ commands_run (begun_in s) paths cs e))))
        by p factors paths cs are e (no_commands, (so_far, ((coded, can), (k, same)))) = absurd (subst (λ (l : Option ℕ). AreCoded p.held s.entries.now s.code.now l no_commands) is coded)
        by p factors paths cs are e (command_and c rest, (so_far, ((coded, can), (k, same)))) =
            let there = subst (λ (l : Option ℕ). AreCoded p.held s.entries.now s.code.now l (command_and c rest)) is coded in
            let one = same_step there.0 step (sym there.1.0 ∙ get) in (
              rest,
              (
                command_run (begun_in s) paths c so_far,
                (
                  (subst (λ (x : ListedCommand). AreCoded p.held s.entries.now s.code.now x.next rest) one there.1.1.1, can.1),
                  (does p factors paths c are (subst (λ (x : ListedCommand). IsCoded p.held s.entries.now s.code.now x.action c) one there.1.1.0) can.0 so_far k, same),
                ),
              ),
            )

    pub run_stop : (A B : Type 0) (x : StepStop) (new new' : StepState) (result : Result B StepStop) → result ≡ Err x → DoesOne {A = A} s now (Err x) new rows numbers step.action → DoesAll s old result new' rows numbers first
    run_stop A B x new new' result stopped does p factors paths cs are coded can e k = by (g.ran p factors paths cs are coded can e k)
      where
        by : (rest : CoreCommands) × ((so_far : Effect) × ((AreCoded p.held s.entries.now s.code.now list rest × CanDoAll s.entries.now p factors rest)
            × (Keeps p s.entries.now so_far s.step now × (commands_run (begun_in s) paths rest so_far ≡ commands_run (begun_in s) paths cs e))))
            → Ends {A = B} p s.entries.now (commands_run (begun_in s) paths cs e) s.step result new'
        by (no_commands, (so_far, ((coded, can), (k, same)))) = absurd (subst (λ (l : Option ℕ). AreCoded p.held s.entries.now s.code.now l no_commands) is coded)
        by (command_and c rest, (so_far, ((coded, can), (k, same)))) =
            let there = subst (λ (l : Option ℕ). AreCoded p.held s.entries.now s.code.now l (command_and c rest)) is coded in
            let one = same_step there.0 step (sym there.1.0 ∙ get) in
            subst (λ (y : Effect). Ends {A = B} p s.entries.now y s.step result new') same
            (ends_later A B p s.entries.now s.step (command_run (begun_in s) paths c so_far) (commands_run (begun_in s) paths rest (command_run (begun_in s) paths c so_far)) new new' x result
            (commands_grow (begun_in s) paths rest (command_run (begun_in s) paths c so_far)) stopped
            (does p factors paths c are (subst (λ (z : ListedCommand). IsCoded p.held s.entries.now s.code.now z.action c) one there.1.1.0) can.0 so_far k))

  -- no command of this number is there: no list begins so
  pub run_lost : (B : Type 0) (n : ℕ) (result : Result B StepStop) → list ≡ Some n → slice_get s.code.now.steps n ≡ None → DoesAll s old result now rows numbers first
  run_lost B n result is none p factors paths cs are coded can e k = by (g.ran p factors paths cs are coded can e k)
    where
      never : (x : ListedCommand) → Some x ≡ None → ⊥
      never x e = absurd cc

      by : (rest : CoreCommands) × ((so_far : Effect) × ((AreCoded p.held s.entries.now s.code.now list rest × CanDoAll s.entries.now p factors rest)
          × (Keeps p s.entries.now so_far s.step now × (commands_run (begun_in s) paths rest so_far ≡ commands_run (begun_in s) paths cs e))))
          → Ends {A = B} p s.entries.now (commands_run (begun_in s) paths cs e) s.step result now
      by (no_commands, (so_far, ((coded, can), (k, same)))) = absurd (subst (λ (l : Option ℕ). AreCoded p.held s.entries.now s.code.now l no_commands) is coded)
      by (command_and c rest, (so_far, ((coded, can), (k, same)))) =
          let there = subst (λ (l : Option ℕ). AreCoded p.held s.entries.now s.code.now l (command_and c rest)) is coded in
          absurd (never there.0 (sym there.1.0 ∙ none))

  pub run_end : (B : Type 0) (b : B) → list ≡ None → DoesAll {A = B} s old (Ok b) now rows numbers first
  run_end B b is p factors paths cs are coded can e k = by (g.ran p factors paths cs are coded can e k)
    where
      by : (rest : CoreCommands) × ((so_far : Effect) × ((AreCoded p.held s.entries.now s.code.now list rest × CanDoAll s.entries.now p factors rest)
          × (Keeps p s.entries.now so_far s.step now × (commands_run (begun_in s) paths rest so_far ≡ commands_run (begun_in s) paths cs e))))
          → Ends {A = B} p s.entries.now (commands_run (begun_in s) paths cs e) s.step (Ok b) now
      by (no_commands, (so_far, ((coded, can), (k, same)))) = subst (λ (y : Effect). Keeps p s.entries.now y s.step now) same k
      by (command_and c rest, (so_far, ((coded, can), (k, same)))) = absurd (subst (λ (l : Option ℕ). AreCoded p.held s.entries.now s.code.now l (command_and c rest)) is coded)

-- one part after the other
pub run_more : (s : StepContext) (old middle now : StepState) (rows : List (List ℕ)) (numbers : List ℕ) (first list rest : Option ℕ) → RunSoFar s old rows numbers first middle list → RunSoFar s middle rows numbers list now rest → RunSoFar s old rows numbers first now rest
run_more s old middle now rows numbers first list rest g h = record {
  ready = h.ready;
  back = record { long = h.back.long ∙ g.back.long; back = h.back.back ∙ g.back.back };
  low = under (list_depth rest) (list_depth list) (list_depth first) h.low g.low;
  ran = λ p factors paths cs are coded can e k.
      let a = g.ran p factors paths cs are coded can e k in
      let b = h.ran p factors paths a.0 are a.1.1.0.0 a.1.1.0.1 a.1.0 a.1.1.1.0 in
      (b.0, (b.1.0, (b.1.1.0, (b.1.1.1.0, b.1.1.1.1 ∙ a.1.1.1.1))));
}
  where
    under : (x y z : ℕ) → x ≤ y → y ≤ z → x ≤ z
    under x y z a b = omega (arith, a, b)

-- nothing is done where there is no command
pub run_nothing : {A : Type 0} (s : StepContext) (state : StepState) (rows : List (List ℕ)) (numbers : List ℕ) (a : A) → IsReadyState s state → DoesAll {A = A} s state (Ok a) state rows numbers None
run_nothing {A} s state rows numbers a ready = run_end s state rows numbers None state None (run_first s state rows numbers None ready) A a refl

pub none_is : (o : Option ℕ) (t : Bool) → is_some o ≡ not t → t ≡ true → o ≡ None
none_is None t e f = refl
none_is (Some n) true e f = absurd cc
none_is (Some n) false e f = absurd cc

-- Where the commands of a list stand.

pub found_step : (steps slice : List ListedCommand) (n : ℕ) (step : ListedCommand) → slice ≡ steps → n < length slice → step ≡ get_or slice n step → slice_get steps n ≡ Some step
found_step steps slice n step same within is = subst (λ (l : List ListedCommand). slice_get l n ≡ Some step) same (slice_get-get_or slice n step within ∙ ap Some (sym is))

pub lost_step : (steps slice : List ListedCommand) (n : ℕ) → slice ≡ steps → length slice ≤ n → slice_get steps n ≡ None
lost_step steps slice n same past = subst (λ (l : List ListedCommand). slice_get l n ≡ None) same (slice_get_past slice n past)

pub step_does : (s : StepContext) → IsScene s → (n : ℕ) (step : ListedCommand) (action : Action) → slice_get s.code.now.steps n ≡ Some step → step.action ≡ action → IsAction s.entries.now s.code.now.operations n action
step_does s scene n step action get is = subst (λ (a : Action). IsAction s.entries.now s.code.now.operations n a) is (scene.code.steps n step get).action

earlier_low : (n : ℕ) (o : Option ℕ) → IsEarlier n o → list_depth o ≤ n
earlier_low n None h = omega arith
earlier_low n (Some m) h = low m n h
  where
    low : (m n : ℕ) → m < n → m + 1 ≤ n
    low m n h = omega (arith, h)

pub next_low : (s : StepContext) → IsScene s → (n : ℕ) (step : ListedCommand) → slice_get s.code.now.steps n ≡ Some step → list_depth step.next ≤ n
next_low s scene n step get = earlier_low n step.next (scene.code.steps n step get).next

-- how deep the arms of a command are
abbrev pub action_depth : Action → ℕ
action_depth (Store f a) = 0
action_depth (Assign f first depth) = 0
action_depth (Keep from to values depth) = 0
action_depth (Choose f one two) = max (list_depth one) (list_depth two)

arms_under : (table : List MemEntry) (os : List CodeOperation) (n : ℕ) (a : Action) → IsAction table os n a → action_depth a ≤ n
arms_under table os n (Store f a) h = omega arith
arms_under table os n (Assign f first depth) h = omega arith
arms_under table os n (Keep from to values depth) h = omega arith
arms_under table os n (Choose f one two) h = less (list_depth one) (list_depth two) (earlier_low n one h.1.0) (earlier_low n two h.1.1)
  where
    less : (a b : ℕ) → a ≤ n → b ≤ n → max a b ≤ n
    less a b h k = omega (arith, h, k)

-- a command of a list is less deep than the list
pub action_lower : (s : StepContext) → IsScene s → (n : ℕ) (step : ListedCommand) (first list : Option ℕ) → slice_get s.code.now.steps n ≡ Some step → list ≡ Some n → list_depth list ≤ list_depth first → 4 * action_depth step.action + 2 < 4 * list_depth first
action_lower s scene n step first list get is low =
    less (action_depth step.action) (list_depth first) (arms_under s.entries.now s.code.now.operations n step.action (scene.code.steps n step get).action) (subst (λ (l : Option ℕ). list_depth l ≤ list_depth first) is low)
  where
    less : (a m : ℕ) → a ≤ n → n + 1 ≤ m → 4 * a + 2 < 4 * m
    less a m h l = omega (arith, h, l)

-- a command of code can be done
pub can_be_done : (s : StepContext) → IsScene s → (n : ℕ) (step : ListedCommand) → slice_get s.code.now.steps n ≡ Some step → CanBeDone s step.action
can_be_done s scene n step get = by step.action (scene.code.steps n step get).action
  where
    by : (a : Action) → IsAction s.entries.now s.code.now.operations n a → CanBeDone s a
    by (Store f a) h = h
    by (Assign f first depth) h = h
    by (Keep from to values depth) h = h
    by (Choose f one two) h = h.0

pub arm_lower : (one two : Option ℕ) (b : Bool) → 4 * list_depth (if b then one else two) < 4 * max (list_depth one) (list_depth two) + 1
arm_lower one two true = less (list_depth one) (list_depth two)
  where
    less : (a b : ℕ) → 4 * a < 4 * max a b + 1
    less a b = omega arith
arm_lower one two false = less (list_depth one) (list_depth two)
  where
    less : (a b : ℕ) → 4 * b < 4 * max a b + 1
    less a b = omega arith

-- the one path
pub only_path : (numbers : List ℕ) → length numbers ≡ 1 → numbers ≡ get_or numbers 0 0 ∷ []
only_path [] e = absurd (never e)
  where
    never : ◌≡◌ {A = ℕ} 0 1 → ⊥
    never e = omega (arith, e)
only_path (n ∷ []) e = refl
only_path (n ∷ (m ∷ numbers)) e = absurd (never (length numbers) e)
  where
    never : (k : ℕ) → suc (suc k) ≡ 1 → ⊥
    never k e = omega (arith, e)
