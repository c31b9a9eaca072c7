-- What a command gives to variables is logged, and can be taken back; an arm that is taken back leaves what was before.
use Rattle.std.proofs.Common.{List, None, Some, [], ap, drop, length, refl, subst, suc, sym, take, zero, ℕ, ◌++◌, ◌<◌, ◌^◌, ◌∙◌, ◌∷◌, ◌≡◌}
use Rattle.std.specs.Prelude.{Bool as Truth, Option, slice_get, slice_index}
use Rattle.std.specs.List.{AllByRecursion}
use Rattle.std.proofs.lemmas.List.{append-nil}
use Rattle.dh_tree.specs.PlainTrees.{Term}
use Rattle.dh_code.specs.Slots.{held_at}
use Rattle.dh_expressions.specs.declared.drafts.Draft.{Draft}
use Rattle.dh_expressions.specs.declared.scenes.Around.{Around}
use Rattle.dh_expressions.specs.declared.scenes.Lane.{Lane}
use Rattle.dh_expressions.specs.declared.scenes.Scene.{Scene}
use Rattle.dh_expressions.specs.Shown.{register_at}
use Rattle.dh_commands.specs.declared.assignments.Change.{Change}
use Rattle.dh_commands.specs.declared.assignments.Values.{Values}
use Rattle.dh_commands.specs.declared.buildings.Building.{Building}
use Rattle.dh_commands.specs.declared.choices.Choice.{Choice}
use Rattle.dh_commands.specs.declared.choices.Left.{Left}
use Rattle.dh_commands.specs.Joined.{IsLeft}
use Rattle.dh_commands.specs.LanesRun.{paths_counted}
use Rattle.dh_commands.specs.MadeCommands.{Commanding, MadeArm, MadeArmGuards, MadeChoiceBy, MadeChoices, MadeJoined, MadeLanes, MadeTests}
use Rattle.dh_commands.specs.Setting.{SetsFrom}
use Rattle.dh_commands.specs.Undone.{AreReady, Assigns, EndsArm, HasRoom, lefts_of, undone}
use Rattle.dh_commands.proofs.ArmsLeft.{AreSame, lefts_given}
use Rattle.dh_commands.proofs.ChangesBack.{logs_again, logs_none, logs_one}
use Rattle.dh_laid.specs.LaidCommands.{AreLogged}
use Rattle.dh_laid.specs.LaidQuiet.{BlockStandsIn}

pub logged_again : (a b c : Values) → AreLogged a b → AreLogged b c → AreLogged a c
logged_again a b c h k = logs_again (λ d. Unit {0}) a b c h k

pub logged_one : (old new : Values) (register path value : ℕ) → Assigns old new register path value → AreLogged old new
logged_one old new register path value s = logs_one (λ d. Unit {0}) old new register path value tt s

pub logged_equal : (old new : Values) → new ≡ old → AreLogged old new
logged_equal old new e = subst (λ (v : Values). AreLogged old v) (sym e) (logs_none (λ d. Unit {0}) old)

-- variables that are given values one after the other
pub logged_from : (scene : Scene) (lane : Lane) (first : ℕ) (values : List ℕ) (old new : Values) → SetsFrom scene lane old new first values → AreLogged old new
logged_from scene lane first [] old new s = logged_equal old new s
logged_from scene lane first (v ∷ values) old new (middle, (set, rest)) =
    logged_again old middle new (logged_one old middle (register_at (held_at scene.held.now first) lane) lane.number v set) (logged_from scene lane (suc first) values middle new rest)

pub logged_same : (old new : Values) → AreSame old new → AreLogged old new
logged_same old new s = record {
  more = [];
  log = s.log ∙ sym (append-nil old.log.items);
  back = s.current;
  long = ap (λ (os : List (Option ℕ)). length os) s.current;
  marks = s.marks;
  each = tt;
  room = tt;
  given = tt;
}

pub logged_ready : (a b : Values) → AreLogged a b → AreReady a → AreReady b
logged_ready a b h ready = record {
  unmarked = λ register. ap (λ (ms : List ℕ). slice_index ms register) h.marks ∙ ready.unmarked register;
  long = ap (λ (ms : List ℕ). length ms) h.marks ∙ (ready.long ∙ sym h.long);
}

-- Paths.

pub lanes_logged : (One : ℕ → (b d : Building) → ℕ → Type 0) → ((n : ℕ) (b d : Building) (k : ℕ) → One n b d k → AreLogged b.values d.values)
    → (count first : ℕ) (old new : Building) (next : ℕ) → MadeLanes One count first old new next → AreLogged old.values new.values
lanes_logged One each zero first old new next m = logged_equal old.values new.values (ap (λ (b : Building). b.values) m.0)
lanes_logged One each (suc n) first old new next m =
    logged_again old.values (m.0).values new.values (lanes_logged One each n first old m.0 m.1.0 m.1.1.0) (each n m.0 new next m.1.1.1)

long_more : {A : Type 0} (xs : List A) (x : A) → length (xs ++ x ∷ []) ≡ suc (length xs)
long_more [] x = refl
long_more (y ∷ xs) x = ap suc (long_more xs x)

-- tests give no variable a value, and there is one for each path
pub tests_same : (scene : Scene) (around : Around) (first : ℕ) (t : Term) (count : ℕ) (old new : Building) (next : ℕ) (tests : List ℕ) → MadeTests scene around first t count old new next tests
    → (new.values ≡ old.values) × (length tests ≡ count)
tests_same scene around first t zero old new next tests m = (ap (λ (b : Building). b.values) m.0, ap (λ (ts : List ℕ). length ts) m.1.1)
tests_same scene around first t (suc n) old new next tests m =
    let front : ((m.0).values ≡ old.values) × (length m.1.1.0 ≡ n) = tests_same scene around first t n old m.0 m.1.0 m.1.1.0 m.1.1.1.1.0 in
    ((m.1.1.1.1.1.0).same ∙ front.0, ap (λ (ts : List ℕ). length ts) m.1.1.1.1.1.1 ∙ (long_more m.1.1.0 m.1.1.1.0 ∙ ap suc front.1))

-- an arm has a guard for each test
pub arm_long : (holds : _) (guards : List (Option ℕ)) (tests : List ℕ) (count : ℕ) (old new : Draft) (arm : List (Option ℕ)) → MadeArmGuards holds guards tests count old new arm → length arm ≡ count
arm_long holds guards tests zero old new arm m = ap (λ (os : List (Option ℕ)). length os) m.1
arm_long holds guards tests (suc n) old new arm m =
    ap (λ (os : List (Option ℕ)). length os) m.1.1.1.1.1.1.1 ∙ (long_more m.1.0 (Some m.1.1.1.0) ∙ ap suc (arm_long holds guards tests n old m.0 m.1.0 m.1.1.1.1.0))

-- what stands round an arm stands in the scene as what is round the choice
pub stands_arm : (scene : Scene) (Inner : Commanding) (around : Around) (holds : Truth) (tests : List ℕ) (old new : Building) (first next : ℕ) (lefts : List Left) (m : MadeArm Inner around holds tests old new first next lefts)
    → BlockStandsIn scene around → length tests ≡ paths_counted around → BlockStandsIn scene m.arm
stands_arm scene Inner around holds tests old new first next lefts m s many = record {
  scopes = s.scopes;
  low = subst (λ levels. length levels < 2 ^ 63) (sym m.levels) s.low;
  few = subst (λ (n : ℕ). n < 2 ^ 64) (sym (arm_long holds around.guards.now tests (length tests) old.draft m.guarded m.arm.guards.now m.guards ∙ many)) s.few;
}

-- Choices.

choice_logged : (o : Option ℕ) (c : Choice) (old new : Draft) (before after : Values) → MadeChoiceBy o c old new before after → AreLogged before after
choice_logged None c old new before after m = logged_equal before after m.1
choice_logged (Some test) c old new before after m = logged_one before after c.register c.path m.value m.sets

choices_logged : (tests : List ℕ) (choices : List Choice) (count : ℕ) (old new : Draft) (before after : Values) → MadeChoices tests choices count old new before after → AreLogged before after
choices_logged tests choices zero old new before after m = logged_equal before after m.1
choices_logged tests choices (suc n) old new before after m =
    logged_again before m.1.0 after (choices_logged tests choices n old m.0 before m.1.0 m.1.1.1.0)
    (choice_logged (slice_get tests (m.1.1.0).path) m.1.1.0 m.0 new m.1.0 after m.1.1.1.1.1)

pub joined_logged : (tests : List ℕ) (chosen other : List Left) (old new : Building) → MadeJoined tests chosen other old new → AreReady old.values
    → AllByRecursion (IsLeft old.values.current.items) chosen → AllByRecursion (IsLeft old.values.current.items) other → AreLogged old.values new.values
joined_logged tests chosen other old new m ready c1 c2 =
    logged_again old.values m.middle new.values
    (logged_same old.values m.middle (record { current = ap (λ v. v.items) m.joins.current; log = ap (λ v. v.items) m.joins.log; marks = m.joins.marks ready c1 c2 }))
    (choices_logged tests m.choices (length m.choices) old.draft new.draft m.middle new.values m.choose)

-- Arms.

drop_front : (xs ys : List Change) → drop (length xs) (xs ++ ys) ≡ ys
drop_front [] ys = refl
drop_front (x ∷ xs) ys = drop_front xs ys

take_front : (xs ys : List Change) → take (length xs) (xs ++ ys) ≡ xs
take_front [] ys = refl
take_front (x ∷ xs) ys = ap (λ (l : List Change). x ∷ l) (take_front xs ys)

rooms_by : (xs ys : List (Option ℕ)) (cs : List Change) → length xs ≡ length ys → AllByRecursion (HasRoom xs) cs → AllByRecursion (HasRoom ys) cs
rooms_by xs ys [] same a = tt
rooms_by xs ys (c ∷ cs) same a = (subst (λ (n : ℕ). c.register < n) same a.0, rooms_by xs ys cs same a.1)

-- an arm that is taken back: what is as before, and what it left
pub record IsBack (begun inside ended : Values) (lefts : List Left) : Type 0 where
  pub same : AreSame begun ended
  pub left : AllByRecursion (IsLeft begun.current.items) lefts
  pub room : AllByRecursion (HasRoom inside.current.items) (drop (length begun.log.items) inside.log.items)

pub arm_back : (begun inside ended : Values) (lefts : List Left) → AreLogged begun inside → EndsArm inside ended (length begun.log.items) lefts → IsBack begun inside ended lefts
arm_back begun inside ended lefts h k = record {
  same = record {
    current = k.current ∙ (ap (λ (cs : List Change). undone cs inside.current.items) behind_is ∙ h.back);
    log = k.log ∙ (ap (λ (cs : List Change). take (length begun.log.items) cs) h.log ∙ take_front begun.log.items h.more);
    marks = k.marks ∙ h.marks;
  };
  left =
      subst (λ (ls : List Left). AllByRecursion (IsLeft begun.current.items) ls) (sym (k.lefts_are rooms ∙ ap (λ (cs : List Change). lefts_of cs inside.current.items) behind_is))
      (lefts_given begun.current.items h.more inside.current.items h.given h.room);
  room = rooms;
}
  where
    behind_is : drop (length begun.log.items) inside.log.items ≡ h.more
    behind_is = ap (λ (cs : List Change). drop (length begun.log.items) cs) h.log ∙ drop_front begun.log.items h.more

    rooms : AllByRecursion (HasRoom inside.current.items) (drop (length begun.log.items) inside.log.items)
    rooms = subst (λ (cs : List Change). AllByRecursion (HasRoom inside.current.items) cs) (sym behind_is) (rooms_by begun.current.items inside.current.items h.more (sym h.long) h.room)
