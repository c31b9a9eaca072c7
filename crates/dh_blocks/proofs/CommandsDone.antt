-- The commands of a block, one after the other: what stands beside the program at its begin stands beside it at its end.
use Rattle.std.proofs.Common.{◌≡◌, ◌⊎◌, inl, inr, ℕ, zero, suc, ◌+◌, ◌-◌, ◌<◌, ◌≤◌, ◌||◌, Bool, true, false, if◌then◌else◌, List, [], ◌∷◌, ◌++◌, length, Option, Some, None, refl, ap, sym, ◌∙◌, subst, arith, append_assoc, append-nil}
use Rattle.std.specs.Prelude.{nat_lt, slice_get, slice_index, slice_set}
use Rattle.std.specs.List.{AllByRecursion}
use Rattle.std.proofs.lemmas.Bool.Decides.{nat_tests}
use Rattle.dh_tree.specs.PlainTrees.{Action}
use Rattle.dh_meaning.specs.AccessNumbers.{accesses_of}
use Rattle.dh_meaning.specs.Core.{CoreCommands, no_commands}
use Rattle.dh_meaning.specs.CoreOf.{core_action, core_commands}
use Rattle.dh_meaning.specs.Effects.{Effect, Variables, commands_run}
use Rattle.dh_meaning.specs.Levels.{any_assigns}
use Rattle.dh_meaning.specs.Phases.{Located}
use Rattle.dh_expressions.specs.declared.accesses.Accesses.{Accesses}
use Rattle.dh_expressions.specs.declared.scenes.Around.{Around}
use Rattle.dh_expressions.specs.declared.scenes.Scene.{Scene}
use Rattle.dh_expressions.specs.Drafted.{BlockBegun, Extends, FitsStep, BlockStep}
use Rattle.dh_expressions.specs.Evaluated.{StepReads, begun_of, known_in}
use Rattle.dh_expressions.proofs.Pushing.{begun_later, extends_again, extends_self, fits_before}
use Rattle.dh_commands.specs.declared.assignments.Change.{Change}
use Rattle.dh_commands.specs.declared.assignments.Values.{Values}
use Rattle.dh_commands.specs.declared.buildings.Building.{Building}
use Rattle.dh_commands.specs.LanesRun.{paths_counted, paths_on}
use Rattle.dh_commands.specs.ShownVariables.{IsSeen}
use Rattle.dh_commands.specs.Followed.{Follows, Sets, effect_of}
use Rattle.dh_commands.specs.Undone.{AreReady, Changes, HasRoom, IsChange, undone}
use Rattle.dh_commands.specs.Done.{StandsBeside}
use Rattle.dh_blocks.specs.FoundAccesses.{Found, block_found, found, found_from, found_or_else}
use Rattle.dh_blocks.specs.ChosenReads.{chosen_reads}
use Rattle.dh_blocks.specs.BlockGround.{AreFoundAt, FoundAreWithin}
use Rattle.dh_blocks.specs.BlockMade.{AreRising, DoEach, EachShares, arms_each}
use Rattle.dh_blocks.specs.NamedVariables.{IsNamedVariable}
use Rattle.dh_blocks.specs.SlotsOfScene.{IsStartOf}
use Rattle.dh_blocks.specs.SoundCommands.{IsOwnOf, SoundAction}
use Rattle.dh_blocks.proofs.CommandsFollow.{IsNear, Stage, follows, found_long, may_assign, near_commands}
use Rattle.dh_blocks.proofs.CommandsJoined.{action_assigns, action_then_run}

-- seen variables were given values behind each other, and these can be taken back
pub record HasChanged (scene : Scene) (around : Around) (old new : Values) : Type 0 where
  pub more : List Change
  pub log : new.log.items ≡ old.log.items ++ more
  pub back : undone more new.current.items ≡ old.current.items
  pub long : length new.current.items ≡ length old.current.items
  pub marks : new.marks.items ≡ old.marks.items
  pub each : AllByRecursion (IsChange scene around (IsSeen scene around.levels.now)) more
  pub room : AllByRecursion (HasRoom old.current.items) more

all_both : {A : Type 0} (P : A → Type 0) (xs ys : List A) → AllByRecursion P xs → AllByRecursion P ys → AllByRecursion P (xs ++ ys)
all_both P [] ys a b = b
all_both P (x ∷ xs) ys a b = (a.0, all_both P xs ys a.1 b)

all_so : {A : Type 0} (P Q : A → Type 0) (xs : List A) → ((x : A) → P x → Q x) → AllByRecursion P xs → AllByRecursion Q xs
all_so P Q [] f a = tt
all_so P Q (x ∷ xs) f a = (f x a.0, all_so P Q xs f a.1)

undone_both : (xs ys : List Change) (current : List (Option ℕ)) → undone (xs ++ ys) current ≡ undone xs (undone ys current)
undone_both [] ys current = refl
undone_both (c ∷ xs) ys current = ap (λ (l : List (Option ℕ)). slice_set l c.register c.before) (undone_both xs ys current)

changed_none : (scene : Scene) (around : Around) (v : Values) → HasChanged scene around v v
changed_none scene around v = record { more = []; log = sym (append-nil v.log.items); back = refl; long = refl; marks = refl; each = tt; room = tt }

changed_then : (scene : Scene) (around : Around) (a b c : Values) → HasChanged scene around a b → HasChanged scene around b c → HasChanged scene around a c
changed_then scene around a b c h g = record {
  more = h.more ++ g.more;
  log = g.log ∙ (ap (λ (l : List Change). l ++ g.more) h.log ∙ append_assoc a.log.items h.more g.more);
  back = undone_both h.more g.more c.current.items ∙ (ap (λ (l : List (Option ℕ)). undone h.more l) g.back ∙ h.back);
  long = g.long ∙ h.long;
  marks = g.marks ∙ h.marks;
  each = all_both (IsChange scene around (IsSeen scene around.levels.now)) h.more g.more h.each g.each;
  room = all_both (HasRoom a.current.items) h.more g.more h.room (all_so (HasRoom b.current.items) (HasRoom a.current.items) g.more (λ x r. subst (λ (n : ℕ). x.register < n) h.long r) g.room);
}

still_ready : (scene : Scene) (around : Around) (old new : Values) → HasChanged scene around old new → AreReady old → AreReady new
still_ready scene around old new h r = record {
  unmarked = λ register. ap (λ (l : List ℕ). slice_index l register) h.marks ∙ r.unmarked register;
  long = ap length h.marks ∙ (r.long ∙ sym h.long);
}

pub extends_each : (scene : Scene) (around : Around) (cs : List Located) (paths : 0 < paths_counted around) (from : ℕ) (old new : Building) → AreRising from cs → DoEach scene around cs old new → Extends old.draft new.draft
extends_each scene around [] paths from old new rising h = subst (λ (b : Building). Extends old.draft b.draft) h (extends_self old.draft)
extends_each scene around (c ∷ cs) paths from old new rising (mid, (next, (d, rest))) =
    extends_again old.draft mid.draft new.draft (d.so paths rising.1.0).extends (extends_each scene around cs paths (c.first + accesses_of c.command) mid new rising.1.1 rest)

-- What is found behind the accesses of a command is not of it.
pub past_found : (first : ℕ) (fs : List Found) (number : ℕ) → first + length fs ≤ number → found_from first fs number ≡ None
past_found first fs number h = by (nat_lt number first)
  where
    past : (xs : List Found) (n : ℕ) → length xs ≤ n → slice_get xs n ≡ None
    past [] n l = refl
    past (x ∷ xs) zero l = absurd (none (length xs) l)
      where
        none : (m : ℕ) → suc m ≤ 0 → ⊥
        none m l = omega (arith, l)
    past (x ∷ xs) (suc n) l = past xs n (less (length xs) n l)
      where
        less : (a b : ℕ) → suc a ≤ suc b → a ≤ b
        less a b l = omega (arith, l)

    by : (b : Bool) → (if b then None else slice_get fs (number - first)) ≡ None
    by true = refl
    by false = past fs (number - first) (omega (arith, h))

-- and what is found of it stands from its first number on
pub own_found : (first : ℕ) (fs : List Found) (i : ℕ) (f : Found) → slice_get fs i ≡ Some f → found_from first fs (first + i) ≡ Some f
own_found first fs i f e = ap (λ b. if b then None else slice_get fs (first + i - first)) (low first i) ∙ (ap (λ j. slice_get fs j) (same first i) ∙ e)
  where
    low : (a i : ℕ) → nat_lt (a + i) a ≡ false
    low a i = grind (arith, nat_tests)

    same : (a i : ℕ) → a + i - a ≡ i
    same a i = omega arith

-- What is done by the commands of a list: from what stands at its begin to what stands at its end.
abbrev pub Goes : (scene : Scene) → (around : Around) → BlockStep → (find : ℕ → Option Found) → (before : Accesses) → List Located → Type 0
Goes scene around x find before cs =
    (from : ℕ) (old new : Building) (h : DoEach scene around cs old new) (e : Effect) → AreRising from cs
    → ((number : ℕ) → from ≤ number → find number ≡ block_found scene x around (arms_each scene around cs old new h) cs e number)
    → EachShares scene around x find cs old new h e → FitsStep x new.draft → BlockBegun x old.draft → AreReady old.values → StandsBeside scene around x (chosen_reads x find before) old e
    → StandsBeside scene around x (chosen_reads x find before) new (commands_run (begun_of x) (paths_on x around) (core_commands (known_in scene) cs) e) × HasChanged scene around old.values new.values

-- by no command nothing is done
pub goes_nowhere : (scene : Scene) (around : Around) (x : BlockStep) (find : ℕ → Option Found) (before : Accesses) → Goes scene around x find before []
goes_nowhere scene around x find before from old new h e rising finds sh fits begun ready stands =
    subst (λ (b : Building). StandsBeside scene around x (chosen_reads x find before) b e × HasChanged scene around old.values b.values) h (stands, changed_none scene around old.values)

module _ (scene : Scene) (around : Around) (x : BlockStep) (find : ℕ → Option Found) (before : Accesses) (v0 : Variables) (touched : ℕ → Bool) (within_all : FoundAreWithin find before)
    (start : IsStartOf scene x) (paths : 0 < paths_counted around) where
  abbrev reads : StepReads
  reads = chosen_reads x find before

  abbrev Folds : ℕ → Type 0
  Folds = IsSeen scene around.levels.now

  abbrev Sound : Action → Type 0
  Sound a = SoundAction scene around.levels.now x.start.table (IsNamedVariable scene around.levels.now x v0 touched) Folds a

  abbrev Standing : Type 0
  Standing = Stage scene x find before v0 touched within_all start around Folds

  abbrev Touches : CoreCommands → Type 0
  Touches cs = (entity : ℕ) → any_assigns entity cs ≡ true → touched entity ≡ true

  -- a command changes seen variables alone
  seen_changes : (a : Action) (old new : Values) → Sound a → Changes scene around (Sets scene a) old new → HasChanged scene around old new
  seen_changes a old new s c = record {
    more = c.more;
    log = c.log;
    back = c.back;
    long = c.long;
    marks = c.marks;
    each = all_so (IsChange scene around (Sets scene a)) (IsChange scene around Folds) c.more (λ d h. record { entity = h.entity; may = seen h.entity h.may; within = h.within; register_is = h.register_is }) c.each;
    room = c.room;
  }
    where
      seen : (entity : ℕ) → Sets scene a entity → IsSeen scene around.levels.now entity
      seen entity sets = by (may_assign scene around.levels.now x.start.table (IsNamedVariable scene around.levels.now x v0 touched) Folds entity 0 a no_commands s sets)
        where
          by : (IsOwnOf scene around.levels.now entity ⊎ Folds entity) ⊎ (any_assigns entity no_commands ≡ true) → IsSeen scene around.levels.now entity
          by (inl (inl own)) = own.seen
          by (inl (inr fold)) = fold
          by (inr e) = absurd (cc)

  -- commands in front of others
  pub commands_done : (tail : List Located) → Goes scene around x find before tail → (cs : List Located) (from : ℕ) (old new : Building) (h : DoEach scene around (cs ++ tail) old new) (e : Effect) → AreRising from (cs ++ tail)
      → AllByRecursion (λ (c : Located). Sound c.command) cs → Standing → Touches (core_commands (known_in scene) cs) → IsNear v0 touched e
      → ((number : ℕ) → from ≤ number → find number ≡ block_found scene x around (arms_each scene around (cs ++ tail) old new h) (cs ++ tail) e number)
      → EachShares scene around x find (cs ++ tail) old new h e → FitsStep x new.draft → BlockBegun x old.draft → AreReady old.values → StandsBeside scene around x reads old e
      → StandsBeside scene around x reads new (commands_run (begun_of x) (paths_on x around) (core_commands (known_in scene) (cs ++ tail)) e) × HasChanged scene around old.values new.values
  commands_done tail base [] from old new h e rising sound stage touches near finds sh fits begun ready stands = base from old new h e rising finds sh fits begun ready stands
  commands_done tail base (c ∷ cs) from old new (mid, (next, (d, rest))) e rising sound stage touches near finds sh fits begun ready stands =
      let does = d.so paths rising.1.0 in
      let further : Extends mid.draft new.draft = extends_each scene around (cs ++ tail) paths (c.first + accesses_of c.command) mid new rising.1.1 rest in
      let split : (i : ℕ) → any_assigns i (core_commands (known_in scene) (c ∷ cs)) ≡ (any_assigns i (core_action (known_in scene) c.first c.command no_commands) || any_assigns i (core_commands (known_in scene) cs)) =
      λ i. action_assigns (known_in scene) i c.first c.command (core_commands (known_in scene) cs) in
      let touches_one : Touches (core_action (known_in scene) c.first c.command no_commands) = λ i g. touches i (split i ∙ or_left _ _ g) in
      let touches_rest : Touches (core_commands (known_in scene) cs) = λ i g. touches i (split i ∙ or_right _ _ g) in
      let own : AreFoundAt find c.first (found scene x around d.arms c.first c.command e) =
      λ i f is. finds (c.first + i) (above from c.first i rising.0)
      ∙ ap (λ o. found_or_else o (block_found scene x around (arms_each scene around (cs ++ tail) mid new rest) (cs ++ tail) (effect_of scene x (paths_on x around) c.first c.command e) (c.first + i)))
      (own_found c.first (found scene x around d.arms c.first c.command e) i f is) in
      let premise : Follows scene x reads around d.arms c.first c.command e =
      follows scene x find before v0 touched within_all start around d.arms Folds c.first c.command e stage sound.0 d.shaped touches_one near own sh.0 in
      let between : StandsBeside scene around x reads mid (effect_of scene x (paths_on x around) c.first c.command e) =
      does.so x reads e (fits_before mid.draft new.draft x further fits) begun premise stands in
      let changed : HasChanged scene around old.values mid.values = seen_changes c.command old.values mid.values sound.0 (does.changes ready) in
      let long : length (found scene x around d.arms c.first c.command e) ≡ accesses_of c.command =
      found_long scene x x.start.table (IsNamedVariable scene around.levels.now x v0 touched) around d.arms around.levels.now Folds c.first c.command e sound.0 d.shaped in
      let finds_rest : (number : ℕ) → c.first + accesses_of c.command ≤ number → find number ≡ block_found scene x around (arms_each scene around (cs ++ tail) mid new rest) (cs ++ tail) (effect_of scene x (paths_on x around) c.first c.command e) number =
      λ number l. finds number (later from c.first (accesses_of c.command) number rising.0 l)
      ∙ ap (λ o. found_or_else o (block_found scene x around (arms_each scene around (cs ++ tail) mid new rest) (cs ++ tail) (effect_of scene x (paths_on x around) c.first c.command e) number))
      (past_found c.first (found scene x around d.arms c.first c.command e) number (subst (λ (n : ℕ). c.first + n ≤ number) (sym long) l)) in
      let done = commands_done tail base cs (c.first + accesses_of c.command) mid new rest (effect_of scene x (paths_on x around) c.first c.command e) rising.1.1 sound.1 stage touches_rest
      (near_commands v0 touched x (paths_on x around) (core_action (known_in scene) c.first c.command no_commands) touches_one e near) finds_rest sh.1 fits (begun_later old.draft mid.draft x does.extends begun)
      (still_ready scene around old.values mid.values changed ready) between in (
        subst (λ (f : Effect). StandsBeside scene around x reads new f) (sym (action_then_run (begun_of x) (known_in scene) (paths_on x around) c.first c.command (core_commands (known_in scene) (cs ++ tail)) e)) done.0,
        changed_then scene around old.values mid.values new.values changed done.1,
      )
    where
      or_left : (a b : Bool) → a ≡ true → (a || b) ≡ true
      or_left true b g = refl
      or_left false b g = cc

      or_right : (a b : Bool) → b ≡ true → (a || b) ≡ true
      or_right true b g = refl
      or_right false b g = g

      above : (a b i : ℕ) → a ≤ b → a ≤ b + i
      above a b i l = omega (arith, l)

      later : (a b k n : ℕ) → a ≤ b → b + k ≤ n → a ≤ n
      later a b k n l m = omega (arith, l, m)
