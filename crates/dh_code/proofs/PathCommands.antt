-- Commands at one path after the other.
use Rattle.std.proofs.Common.{◌≡◌, ℕ, suc, ◌<◌, ◌≤◌, List, [], length, get_or, Ok, Err, refl, ap, sym, ◌∙◌, subst}
use Rattle.std.specs.Prelude.{Result, slice_index_or}
use Rattle.dh_meaning.specs.Paths.{Path}
use Rattle.dh_meaning.specs.Core.{CoreCommand, store, assign, choose, keep}
use Rattle.dh_meaning.specs.Effects.{Begun, Effect, assigned_at, at_each, kept_at, stored_at, tested_at}
use Rattle.dh_code.specs.declared.codes.Access.{Access}
use Rattle.dh_code.specs.declared.codes.Action.{Action}
use Rattle.dh_code.specs.declared.codes.Action.TheVariants.{Store, Assign, Keep}
use Rattle.dh_code.specs.declared.codes.Kept.{Kept}
use Rattle.dh_code.specs.declared.codes.FlatExpression.{FlatExpression}
use Rattle.dh_code.specs.declared.evaluating.StepContext.{StepContext}
use Rattle.dh_code.specs.declared.evaluating.StepStop.{StepStop}
use Rattle.dh_code.specs.declared.running.StepState.{StepState}
use Rattle.dh_code.specs.Coded.{IsCoded}
use Rattle.dh_code.specs.Scenes.{begun_in}
use Rattle.dh_code.specs.Slots.{Placing}
use Rattle.dh_code.specs.States.{AreRanks, AreRows, AssignsVariable, DoesOne, Ends, IsReadyState, Keeps, KeepsAll, KeepsBack, Runs, Stores}
use Rattle.dh_code.specs.Suited.{CanDo}
use Rattle.dh_code.proofs.PathLoops.{Going, Grows, go_end, go_first, go_stop, go_turn, ranks_now}

-- what a command does at one path, where it has no arms
abbrev pub at_one : Begun → CoreCommand → Path → Effect → Effect
at_one b (store r target value) path e = stored_at b r target value path e
at_one b (assign depth entity value) path e = assigned_at b depth entity value path e
at_one b (keep depth first values) path e = kept_at b depth first values path e
at_one b (choose test chosen other) path e = tested_at b test path e

pub one_grows : (b : Begun) (c : CoreCommand) (path : Path) (e : Effect) → Grows e (at_one b c path e)
one_grows b (store r target value) path e = record { more = _; is = refl }
one_grows b (assign depth entity value) path e = record { more = _; is = refl }
one_grows b (keep depth first values) path e = record { more = _; is = refl }
one_grows b (choose test chosen other) path e = record { more = _; is = refl }

-- a command was done at the paths up to one
pub record DoneSoFar (s : StepContext) (old : StepState) (rows : List (List ℕ)) (numbers : List ℕ) (action : Action) (k : ℕ) (now : StepState) : Type 0 where
  pub ready : IsReadyState s now
  pub back : KeepsBack old now
  pub ran : (p : Placing) (factors : List ℕ) (paths : List Path) (c : CoreCommand) → AreRows factors rows numbers paths → IsCoded p.held s.entries.now s.code.now action c → CanDo s.entries.now p factors c
      → (e : Effect) → Keeps p s.entries.now e s.step old → Going p s (at_one (begun_in s) c) paths e k now

pub done_first : (s : StepContext) (old : StepState) (rows : List (List ℕ)) (numbers : List ℕ) (action : Action) → IsReadyState s old → DoneSoFar s old rows numbers action 0 old
done_first s old rows numbers action ready = record {
  ready = ready;
  back = record { long = refl; back = refl };
  ran = λ p factors paths c are coded can e k. go_first p s (at_one (begun_in s) c) paths e old k;
}

back_then : (a b c : StepState) → KeepsBack a b → KeepsBack b c → KeepsBack a c
back_then a b c h k = record { long = k.long ∙ h.long; back = k.back ∙ h.back }

-- each time one path more
module _ (s : StepContext) (old : StepState) (rows : List (List ℕ)) (numbers : List ℕ) (action : Action) (k : ℕ) (now : StepState) (i : ℕ) (ranks : List ℕ) (within : k < length numbers) (item : i ≡ get_or numbers k i) (row : ranks ≡ slice_index_or rows i []) (g : DoneSoFar s old rows numbers action k now) where
  -- what one path owes, for every result
  abbrev pub RunsOne : {A : Type 0} → Result A StepStop → StepState → Type 0
  RunsOne result new =
      (p : Placing) (factors : List ℕ) (path : Path) (c : CoreCommand) → AreRanks factors ranks path → IsCoded p.held s.entries.now s.code.now action c → CanDo s.entries.now p factors c → Runs p s now result new (at_one (begun_in s) c path)

  ranks_are : (factors : List ℕ) (paths : List Path) → AreRows factors rows numbers paths → (p : Placing) (c : CoreCommand) (e : Effect) (h : Going p s (at_one (begun_in s) c) paths e k now) → AreRanks factors ranks (get_or paths k [])
  ranks_are factors paths are p c e h =
      subst (λ (l : List ℕ). AreRanks factors l (get_or paths k [])) (sym (row ∙ ap (λ n. slice_index_or rows n []) item))
      (ranks_now p s (at_one (begun_in s) c) (one_grows (begun_in s) c) factors rows numbers paths are e k now h i within)

  pub done_turn : (A : Type 0) (a : A) (new : StepState) → IsReadyState s new → KeepsBack now new → RunsOne {A = A} (Ok a) new → DoneSoFar s old rows numbers action (suc k) new
  done_turn A a new ready back one = record {
    ready = ready;
    back = back_then old now new g.back back;
    ran = λ p factors paths c are coded can e h.
        let go = g.ran p factors paths c are coded can e h in
        go_turn p s (at_one (begun_in s) c) (one_grows (begun_in s) c) factors rows numbers paths are e k now go i within A a new
        (one p factors (get_or paths k []) c (ranks_are factors paths are p c e go) coded can);
  }

  pub done_stop : (A B : Type 0) (x : StepStop) (new new' : StepState) (result : Result B StepStop) → result ≡ Err x → RunsOne {A = A} (Err x) new
      → (p : Placing) (factors : List ℕ) (paths : List Path) (c : CoreCommand) → AreRows factors rows numbers paths → IsCoded p.held s.entries.now s.code.now action c → CanDo s.entries.now p factors c
      → (e : Effect) → Keeps p s.entries.now e s.step old → Ends {A = B} p s.entries.now (at_each (at_one (begun_in s) c) paths e) s.step result new'
  done_stop A B x new new' result stopped one p factors paths c are coded can e h =
      let go = g.ran p factors paths c are coded can e h in
      go_stop p s (at_one (begun_in s) c) (one_grows (begun_in s) c) factors rows numbers paths are e k now go i within A B x new new' result stopped
      (one p factors (get_or paths k []) c (ranks_are factors paths are p c e go) coded can)

pub done_end : (s : StepContext) (old : StepState) (rows : List (List ℕ)) (numbers : List ℕ) (action : Action) (k : ℕ) (now : StepState) → length numbers ≤ k → DoneSoFar s old rows numbers action k now
    → (p : Placing) (factors : List ℕ) (paths : List Path) (c : CoreCommand) → AreRows factors rows numbers paths → IsCoded p.held s.entries.now s.code.now action c → CanDo s.entries.now p factors c
    → (e : Effect) → Keeps p s.entries.now e s.step old → Keeps p s.entries.now (at_each (at_one (begun_in s) c) paths e) s.step now
done_end s old rows numbers action k now over g p factors paths c are coded can e h =
    go_end p s (at_one (begun_in s) c) (one_grows (begun_in s) c) factors rows numbers paths are e k now (g.ran p factors paths c are coded can e h) over

-- assignments and stores, as the code does them at one path
pub assigns_one : {A : Type 0} (s : StepContext) (now new : StepState) (result : Result A StepStop) (ranks : List ℕ) (f : FlatExpression) (first depth : ℕ) → AssignsVariable s now result new ranks f first depth
    → (p : Placing) (factors : List ℕ) (path : Path) (c : CoreCommand) → AreRanks factors ranks path → IsCoded p.held s.entries.now s.code.now (Assign f first depth) c → CanDo s.entries.now p factors c → Runs p s now result new (at_one (begun_in s) c path)
assigns_one s now new result ranks f first depth h p factors path (store r target value) at coded can = absurd coded
assigns_one s now new result ranks f first depth h p factors path (assign deep entity t) at coded can = h p factors path deep entity t at coded.0 coded.1 can.0 can.1
assigns_one s now new result ranks f first depth h p factors path (choose test chosen other) at coded can = absurd coded
assigns_one s now new result ranks f first depth h p factors path (keep deep entity values) at coded can = absurd coded

pub stores_one : {A : Type 0} (s : StepContext) (now new : StepState) (result : Result A StepStop) (ranks : List ℕ) (f : FlatExpression) (a : Access) → Stores s now result new ranks f a
    → (p : Placing) (factors : List ℕ) (path : Path) (c : CoreCommand) → AreRanks factors ranks path → IsCoded p.held s.entries.now s.code.now (Store f a) c → CanDo s.entries.now p factors c → Runs p s now result new (at_one (begun_in s) c path)
stores_one s now new result ranks f a h p factors path (store r target value) at coded can = h p factors path r target value at coded can.0.0 can.0.1 can.1
stores_one s now new result ranks f a h p factors path (assign deep entity t) at coded can = absurd coded
stores_one s now new result ranks f a h p factors path (choose test chosen other) at coded can = absurd coded
stores_one s now new result ranks f a h p factors path (keep deep entity values) at coded can = absurd coded

-- and so the whole command
pub assigns_all : {A : Type 0} (s : StepContext) (old new : StepState) (result : Result A StepStop) (rows : List (List ℕ)) (numbers : List ℕ) (f : FlatExpression) (first depth : ℕ)
    → ((p : Placing) (factors : List ℕ) (paths : List Path) (c : CoreCommand) → AreRows factors rows numbers paths → IsCoded p.held s.entries.now s.code.now (Assign f first depth) c → CanDo s.entries.now p factors c
    → (e : Effect) → Keeps p s.entries.now e s.step old → Ends p s.entries.now (at_each (at_one (begun_in s) c) paths e) s.step result new)
    → DoesOne s old result new rows numbers (Assign f first depth)
assigns_all s old new result rows numbers f first depth h p factors paths (store r target value) are coded can e k = absurd coded
assigns_all s old new result rows numbers f first depth h p factors paths (assign deep entity t) are coded can e k = h p factors paths (assign deep entity t) are coded can e k
assigns_all s old new result rows numbers f first depth h p factors paths (choose test chosen other) are coded can e k = absurd coded
assigns_all s old new result rows numbers f first depth h p factors paths (keep deep entity values) are coded can e k = absurd coded

pub stores_all : {A : Type 0} (s : StepContext) (old new : StepState) (result : Result A StepStop) (rows : List (List ℕ)) (numbers : List ℕ) (f : FlatExpression) (a : Access)
    → ((p : Placing) (factors : List ℕ) (paths : List Path) (c : CoreCommand) → AreRows factors rows numbers paths → IsCoded p.held s.entries.now s.code.now (Store f a) c → CanDo s.entries.now p factors c
    → (e : Effect) → Keeps p s.entries.now e s.step old → Ends p s.entries.now (at_each (at_one (begun_in s) c) paths e) s.step result new)
    → DoesOne s old result new rows numbers (Store f a)
stores_all s old new result rows numbers f a h p factors paths (store r target value) are coded can e k = h p factors paths (store r target value) are coded can e k
stores_all s old new result rows numbers f a h p factors paths (assign deep entity t) are coded can e k = absurd coded
stores_all s old new result rows numbers f a h p factors paths (choose test chosen other) are coded can e k = absurd coded
stores_all s old new result rows numbers f a h p factors paths (keep deep entity values) are coded can e k = absurd coded

pub keeps_one : {A : Type 0} (s : StepContext) (now new : StepState) (result : Result A StepStop) (ranks : List ℕ) (from to : ℕ) (ks : List Kept) (depth : ℕ) → KeepsAll s now result new ranks from to ks depth
    → (p : Placing) (factors : List ℕ) (path : Path) (c : CoreCommand) → AreRanks factors ranks path → IsCoded p.held s.entries.now s.code.now (Keep from to ks depth) c → CanDo s.entries.now p factors c → Runs p s now result new (at_one (begun_in s) c path)
keeps_one s now new result ranks from to ks depth h p factors path (store r target value) at coded can = absurd coded
keeps_one s now new result ranks from to ks depth h p factors path (assign deep entity t) at coded can = absurd coded
keeps_one s now new result ranks from to ks depth h p factors path (keep deep entity ts) at coded can = h p factors path deep entity ts at coded.0 coded.1 can.0 can.1
keeps_one s now new result ranks from to ks depth h p factors path (choose test chosen other) at coded can = absurd coded

pub keeps_all : {A : Type 0} (s : StepContext) (old new : StepState) (result : Result A StepStop) (rows : List (List ℕ)) (numbers : List ℕ) (from to : ℕ) (ks : List Kept) (depth : ℕ)
    → ((p : Placing) (factors : List ℕ) (paths : List Path) (c : CoreCommand) → AreRows factors rows numbers paths → IsCoded p.held s.entries.now s.code.now (Keep from to ks depth) c → CanDo s.entries.now p factors c
    → (e : Effect) → Keeps p s.entries.now e s.step old → Ends p s.entries.now (at_each (at_one (begun_in s) c) paths e) s.step result new)
    → DoesOne s old result new rows numbers (Keep from to ks depth)
keeps_all s old new result rows numbers from to ks depth h p factors paths (store r target value) are coded can e k = absurd coded
keeps_all s old new result rows numbers from to ks depth h p factors paths (assign deep entity t) are coded can e k = absurd coded
keeps_all s old new result rows numbers from to ks depth h p factors paths (keep deep entity ts) are coded can e k = h p factors paths (keep deep entity ts) are coded can e k
keeps_all s old new result rows numbers from to ks depth h p factors paths (choose test chosen other) are coded can e k = absurd coded
