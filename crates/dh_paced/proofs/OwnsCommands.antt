-- What is asked of each part of a command, from what is known of the whole: by recursion on the command.
use Rattle.std.proofs.Common.{◌≡◌, ◌⊎◌, inl, inr, ℕ, suc, ◌+◌, ◌<◌, ◌≤◌, true, false, Some, None, Option, List, [], ◌∷◌, length, refl, sym, ◌∙◌, subst, arith}
use Rattle.std.specs.Prelude.{Bool as Truth, ◌==◌, ◌||◌, ◌&&◌, nat_le, if◌then◌else◌, max, nat_lt}
use Rattle.std.proofs.lemmas.Bool.Decides.{nat_tests}
use Rattle.dh_tree.specs.Indices.{form_of}
use Rattle.dh_tree.specs.PlainTrees as plain
use Rattle.dh_tree.specs.PlainTrees.{Term, Action, action, ActionForm, lets, lets_memory, views, assigns, stores, reduces, calls, blocks, decides, repeats, counts, MaybeAction, no_action, one_action, Actions, no_actions, action_then, Groups, no_groups, group_then}
use Rattle.dh_tree.specs.ViewOffsets.{offsets_of}
use Rattle.dh_tree.specs.Seen.{terms}
use Rattle.dh_tree.specs.declared.trees.expressions.Ref.{Ref}
use Rattle.dh_meaning.specs.AccessNumbers.{accesses_of, groups_accesses, other_accesses, part_accesses, plan_accesses, term_accesses, terms_accesses}
use Rattle.dh_meaning.specs.Bindings.{kind_found}
use Rattle.dh_meaning.specs.Core.{CoreCommands, CoreTerm, assign, choose, command_and, no_commands, variable, count_terms, keep}
use Rattle.dh_meaning.specs.CoreOf.{core_action, core_groups, core_other, core_part, core_term, core_terms, depth_of, entity_number, kind_of, operation_of, store_to, kept_by, target_to, way_of}
use Rattle.dh_meaning.specs.Levels.{Leveled, Levels, assigns_to}
use Rattle.dh_meaning.specs.OnePhase.{groups_make, is_between, makes, other_makes, part_makes}
use Rattle.dh_meaning.specs.Ways.{Hidden, hidden_in}
use Rattle.dh_plan.specs.PlanPhases.{commands_mention, term_mentions, core_terms_mention, target_mentions}
use Rattle.dh_expressions.specs.declared.scenes.Around.{Around}
use Rattle.dh_expressions.specs.declared.scenes.Scene.{Scene}
use Rattle.dh_expressions.specs.Evaluated.{known_in}
use Rattle.dh_formed.specs.Timed.{BlockClocks, leveled}
use Rattle.dh_formed.proofs.TermsCounted.{itself, left_of, operation_mentions, right_of}
use Rattle.dh_laid.specs.Laid.{aim_accesses}
use Rattle.dh_laid.specs.LaidNumbers.{IsAccessForm, StoresReach, StoresReachGroups, StoresReachOther, StoresReachPart}
use Rattle.dh_paced.specs.BlockLengths.{AssignsOwn, AssignsOwnGroups, AssignsOwnOther, AssignsOwnPart, KeepsOwn}
use Rattle.dh_paced.specs.Paced.{IsIn, IsReadGroups, IsReadIn, IsReadOther, IsReadPart, action_levels, between_arms, outer_groups, outer_in, outer_other, outer_part, part_levels, IsReadOfView}
use Rattle.dh_paced.specs.Standing.{OwnsGroups, OwnsIn, OwnsOther, OwnsPart, OwnsTarget, OwnsTerm, OwnsTerms, OwnsNamed, OwnsView}
use Rattle.dh_paced.proofs.CoreAppended.{action_then_mentions, appended, appended_mentions, part_then_mentions}
use Rattle.dh_paced.proofs.LevelsOfCommands.{read_in, read_in_groups, read_in_other, read_in_part}
use Rattle.dh_commands.specs.Setting.{IsVariableAmong}
use Rattle.dh_commands.proofs.CoreRuns.{offsets_long}

pub pick_low : (m k x y : ℕ) → m < k → (if nat_lt m k then x else y) ≡ x
pick_low m k x y less = grind (arith, nat_tests, less)

pub pick_high : (m k x y : ℕ) → k ≤ m → (if nat_lt m k then x else y) ≡ y
pick_high m k x y more = grind (arith, nat_tests, more)

within : (k n count : ℕ) → IsIn n count k → is_between k n count ≡ true
within k n count among = let f = among.0 in let b = among.1 in decided k n (n + count) f b
  where
    decided : (k n e : ℕ) → n ≤ k → k < e → (nat_le n k && nat_lt k e) ≡ true
    decided k n e f b = grind (arith, nat_tests, f, b)

pub among_true : (first count k e : ℕ) → k ≡ count → IsVariableAmong first count e → (nat_le first e && nat_lt e (first + k)) ≡ true
among_true first count k e same h = decided e first (first + k) h.0 (let b = h.1 in omega (arith, b, same))
  where
    decided : (k n e : ℕ) → n ≤ k → k < e → (nat_le n k && nat_lt k e) ≡ true
    decided k n e f b = grind (arith, nat_tests, f, b)

or_none : (a : Truth) → a ≡ true → (a || false) ≡ true
or_none a h = left_of a false h

module _ (c : BlockClocks) (scene : Scene) (top : Around) (spaces : ℕ) (shared : ℕ → Option ℕ) (Variable Read Own : ℕ → Type 0) where
  -- what is known of a command, or of parts of a block, whose accesses are so many, from a first one on
  pub record Knows (first count : ℕ) (outers : (m : ℕ) → ℕ) (IsRead : ℕ → Type 0) (made : ℕ → Truth) (cs : CoreCommands) : Type 0 where
    pub own : (m : ℕ) → made m ≡ true → Own m
    pub outer_is : (m : ℕ) → IsIn first count m → c.outer m ≡ outers m
    pub reads : (e : ℕ) → Read e → IsIn first count e → IsRead e
    pub names : (e : ℕ) → commands_mention e cs ≡ true → Variable e

  -- an expression among accesses with one level round them
  term_own : (outer first k count n : ℕ) (t : Term) (outers : (m : ℕ) → ℕ) (IsRead : ℕ → Type 0) (made : ℕ → Truth) (cs : CoreCommands) → Knows first count outers IsRead made cs → first ≤ n → n + term_accesses t ≤ first + count
      → ((m : ℕ) → IsIn n (term_accesses t) m → made m ≡ true) → ((m : ℕ) → IsIn n (term_accesses t) m → outers m ≡ outer) → ((e : ℕ) → term_mentions e (core_term (known_in scene) n t) ≡ true → commands_mention e cs ≡ true) → OwnsTerm c scene top spaces shared Variable Read Own outer n t
  term_own outer first k count n t outers IsRead made cs h from below makes is mentions = record {
    are = record {
      own = λ m among. h.own m (makes m among);
      outers = λ m among. h.outer_is m (wide m among) ∙ is m among;
    };
    names = λ e mentioned. h.names e (mentions e mentioned);
  }
    where
      wide : (m : ℕ) → IsIn n (term_accesses t) m → IsIn first count m
      wide m among = let f = among.0 in let b = among.1 in (omega (arith, from, f), omega (arith, below, b))

  terms_own : (outer first count n : ℕ) (ts : plain.Terms) (outers : (m : ℕ) → ℕ) (IsRead : ℕ → Type 0) (made : ℕ → Truth) (cs : CoreCommands) → Knows first count outers IsRead made cs → first ≤ n → n + terms_accesses ts ≤ first + count
      → ((m : ℕ) → IsIn n (terms_accesses ts) m → made m ≡ true) → ((m : ℕ) → IsIn n (terms_accesses ts) m → outers m ≡ outer) → ((e : ℕ) → core_terms_mention e (core_terms (known_in scene) n ts) ≡ true → commands_mention e cs ≡ true) → OwnsTerms c scene top spaces shared Variable Read Own outer n ts
  terms_own outer first count n ts outers IsRead made cs h from below makes is mentions = record {
    are = record {
      own = λ m among. h.own m (makes m among);
      outers = λ m among. h.outer_is m (wide m among) ∙ is m among;
    };
    names = λ e mentioned. h.names e (mentions e mentioned);
  }
    where
      wide : (m : ℕ) → IsIn n (terms_accesses ts) m → IsIn first count m
      wide m among = let f = among.0 in let b = among.1 in (omega (arith, from, f), omega (arith, below, b))

  named_own : (outer first count n : ℕ) (r : Ref) (ts : plain.Terms) (outers : (m : ℕ) → ℕ) (IsRead : ℕ → Type 0) (made : ℕ → Truth) (cs : CoreCommands) → Knows first count outers IsRead made cs → first ≤ n → n + terms_accesses ts ≤ first + count
      → ((m : ℕ) → IsIn n (terms_accesses ts) m → made m ≡ true) → ((m : ℕ) → IsIn n (terms_accesses ts) m → outers m ≡ outer) → ((e : ℕ) → target_mentions e (target_to (way_of (known_in scene) r) (core_terms (known_in scene) n ts)) ≡ true → commands_mention e cs ≡ true) → OwnsNamed c scene top spaces shared Variable Read Own outer n r ts
  named_own outer first count n r ts outers IsRead made cs h from below makes is mentions = record {
    are = record {
      own = λ m among. h.own m (makes m among);
      outers = λ m among. h.outer_is m (wide m among) ∙ is m among;
    };
    names = λ e mentioned. h.names e (mentions e mentioned);
  }
    where
      wide : (m : ℕ) → IsIn n (terms_accesses ts) m → IsIn first count m
      wide m among = let f = among.0 in let b = among.1 in (omega (arith, from, f), omega (arith, below, b))

  -- what is assigned, with a value
  assigned_own : (outer first e : ℕ) (t : Term) (value : CoreTerm) (depth : ℕ) → ((f : ℕ) → term_mentions f (core_term (known_in scene) first t) ≡ true → term_mentions f value ≡ true)
      → Knows first (term_accesses t + 0) (λ m. outer) (IsIn first (term_accesses t)) (λ m. is_between m first (term_accesses t)) (command_and (assign depth e value) no_commands) → OwnsTerm c scene top spaces shared Variable Read Own outer first t × Variable e
  assigned_own outer first e t value depth more h = (
    term_own outer first 0 (term_accesses t + 0) first t (λ m. outer) (IsIn first (term_accesses t)) (λ m. is_between m first (term_accesses t)) (command_and (assign depth e value) no_commands) h (omega arith) (omega arith) (λ m among. within m first (term_accesses t) among) (λ m among. refl)
        (λ f mentioned. or_none ((f == e) || term_mentions f value) (right_of (f == e) (term_mentions f value) (more f mentioned))),
    h.names e (or_none ((e == e) || term_mentions e value) (left_of (e == e) (term_mentions e value) (itself e))),
  )

  -- a store
  stored_own : (outer first : ℕ) (target t : Term) → IsAccessForm (form_of target)
      → Knows first ((term_accesses t + term_accesses target) + 0) (λ m. outer) (IsIn first (term_accesses t + aim_accesses (form_of target))) (λ m. is_between m first (term_accesses t + term_accesses target))
      (command_and (store_to (known_in scene) (first + term_accesses t) target (core_term (known_in scene) first t)) no_commands)
      → OwnsTerm c scene top spaces shared Variable Read Own outer first t × OwnsTarget c scene top spaces shared Variable Read Own outer (first + term_accesses t) (form_of target)
  stored_own outer first (plain.term place k (plain.accessed r ts)) t is h = (
    term_own outer first 0 ((term_accesses t + suc (terms_accesses ts)) + 0) first t (λ m. outer) _ _ _ h (omega arith) (omega arith) (λ m among. within m first (term_accesses t + suc (terms_accesses ts)) (let f = among.0 in let b = among.1 in (omega (arith, f), omega (arith, b)))) (λ m among. refl)
        (λ e mentioned. or_none _ (left_of (term_mentions e (core_term (known_in scene) first t)) (term_mentions e (core_term (known_in scene) (first + term_accesses t) (plain.term place k (plain.accessed r ts)))) mentioned)),
    (
      named_own outer first ((term_accesses t + suc (terms_accesses ts)) + 0) (first + term_accesses t) r ts (λ m. outer) _ _ _ h (omega arith) (omega arith) (λ m among. within m first (term_accesses t + suc (terms_accesses ts)) (let f = among.0 in let b = among.1 in (omega (arith, f), omega (arith, b)))) (λ m among. refl)
          (λ e mentioned. or_none _
          (right_of (term_mentions e (core_term (known_in scene) first t)) (target_mentions e (target_to (way_of (known_in scene) r) (core_terms (known_in scene) (first + term_accesses t) ts))) mentioned)),
      record {
        own = h.own (first + term_accesses t + terms_accesses ts) (within _ first (term_accesses t + suc (terms_accesses ts)) (omega arith, omega arith));
        outer_is = h.outer_is (first + term_accesses t + terms_accesses ts) (omega arith, omega arith);
        unread = λ read. let r = h.reads (first + term_accesses t + terms_accesses ts) read (omega arith, omega arith) in let b = r.1 in omega (arith, b);
      },
    ),
  )
  stored_own outer first (plain.term place k (plain.in_bank r bank at row)) t is h = (
    term_own outer first 0 ((term_accesses t + suc (term_accesses row)) + 0) first t (λ m. outer) _ _ _ h (omega arith) (omega arith) (λ m among. within m first (term_accesses t + suc (term_accesses row)) (let f = among.0 in let b = among.1 in (omega (arith, f), omega (arith, b)))) (λ m among. refl)
        (λ e mentioned. or_none _ (left_of (term_mentions e (core_term (known_in scene) first t)) (term_mentions e (core_term (known_in scene) (first + term_accesses t) row)) mentioned)),
    (
      term_own outer first 0 ((term_accesses t + suc (term_accesses row)) + 0) (first + term_accesses t) row (λ m. outer) _ _ _ h (omega arith) (omega arith) (λ m among. within m first (term_accesses t + suc (term_accesses row)) (let f = among.0 in let b = among.1 in (omega (arith, f), omega (arith, b)))) (λ m among. refl)
          (λ e mentioned. or_none _ (right_of (term_mentions e (core_term (known_in scene) first t)) (term_mentions e (core_term (known_in scene) (first + term_accesses t) row)) mentioned)),
      record {
        own = h.own (first + term_accesses t + term_accesses row) (within _ first (term_accesses t + suc (term_accesses row)) (omega arith, omega arith));
        outer_is = h.outer_is (first + term_accesses t + term_accesses row) (omega arith, omega arith);
        unread = λ read. let r = h.reads (first + term_accesses t + term_accesses row) read (omega arith, omega arith) in let b = r.1 in omega (arith, b);
      },
    ),
  )
  stored_own outer first (plain.term place k (plain.number negative z)) t is h = absurd is
  stored_own outer first (plain.term place k (plain.truth_value b)) t is h = absurd is
  stored_own outer first (plain.term place k (plain.named r)) t is h = absurd is
  stored_own outer first (plain.term place k (plain.applied op left right)) t is h = absurd is
  stored_own outer first (plain.term place k (plain.converted inner to)) t is h = absurd is

  -- parts one behind the other
  first_known : (first a b : ℕ) (f g : (m : ℕ) → ℕ) (P Q : ℕ → Type 0) (d e : ℕ → Truth) (cs one two : CoreCommands) → ((e : ℕ) → commands_mention e cs ≡ (commands_mention e one || commands_mention e two)) → ((m : ℕ) → Q m → IsIn (first + a) b m)
      → Knows first (a + b) (λ m. if nat_lt m (first + a) then f m else g m) (λ m. P m ⊎ Q m) (λ m. d m || e m) cs → Knows first a f P d one
  first_known first a b f g P Q d e cs one two mention among h = record {
    own = λ m i. h.own m (left_of (d m) (e m) i);
    outer_is = λ m i. h.outer_is m (i.0, let l = i.1 in omega (arith, l)) ∙ pick_low m (first + a) (f m) (g m) i.1;
    reads = λ e read i. by e i (h.reads e read (i.0, let l = i.1 in omega (arith, l)));
    names = λ e mentioned. h.names e (mention e ∙ left_of (commands_mention e one) (commands_mention e two) mentioned);
  }
    where
      by : (e : ℕ) → IsIn first a e → P e ⊎ Q e → P e
      by e i (inl p) = p
      by e i (inr q) = absurd (let l = i.1 in let f = (among e q).0 in never e l f)
        where
          never : (e : ℕ) → e < first + a → first + a ≤ e → ⊥
          never e l f = omega (arith, l, f)

  second_known : (first a b : ℕ) (f g : (m : ℕ) → ℕ) (P Q : ℕ → Type 0) (d e : ℕ → Truth) (cs one two : CoreCommands) → ((e : ℕ) → commands_mention e cs ≡ (commands_mention e one || commands_mention e two)) → ((m : ℕ) → P m → IsIn first a m)
      → Knows first (a + b) (λ m. if nat_lt m (first + a) then f m else g m) (λ m. P m ⊎ Q m) (λ m. d m || e m) cs → Knows (first + a) b g Q e two
  second_known first a b f g P Q d e cs one two mention among h = record {
    own = λ m i. h.own m (right_of (d m) (e m) i);
    outer_is = λ m i. h.outer_is m (wide m i) ∙ pick_high m (first + a) (f m) (g m) i.0;
    reads = λ e read i. by e i (h.reads e read (wide e i));
    names = λ e mentioned. h.names e (mention e ∙ right_of (commands_mention e one) (commands_mention e two) mentioned);
  }
    where
      wide : (m : ℕ) → IsIn (first + a) b m → IsIn first (a + b) m
      wide m i = let f = i.0 in let l = i.1 in (omega (arith, f), omega (arith, l))

      by : (e : ℕ) → IsIn (first + a) b e → P e ⊎ Q e → Q e
      by e i (inr q) = q
      by e i (inl p) = absurd (let f = i.0 in let l = (among e p).1 in never e l f)
        where
          never : (e : ℕ) → e < first + a → first + a ≤ e → ⊥
          never e l f = omega (arith, l, f)

  known_as : (first a b : ℕ) (f : (m : ℕ) → ℕ) (P : ℕ → Type 0) (d : ℕ → Truth) (cs : CoreCommands) → a ≡ b → Knows first a f P d cs → Knows first b f P d cs
  known_as first a b f P d cs same h = subst (λ (n : ℕ). Knows first n f P d cs) same h

  -- the arms of an `if` behind its test
  module _ (outer first : ℕ) (test : Term) (chosen : Action) (other : MaybeAction) (l : Levels) (reaches : StoresReach chosen × StoresReachOther other) where
    abbrev tested : Leveled
    tested = leveled scene shared outer first test l

    abbrev n1 : ℕ
    n1 = first + term_accesses test

    abbrev n2 : ℕ
    n2 = n1 + accesses_of chosen

    abbrev outer_chosen : (m : ℕ) → ℕ
    outer_chosen m = outer_in (known_in scene) shared (max outer tested.level) n1 chosen tested.levels m

    abbrev outer_second : (m : ℕ) → ℕ
    outer_second m = outer_other (known_in scene) shared (max outer tested.level) n2 other (between_arms (known_in scene) shared outer first test chosen l) m

    abbrev core_chosen : CoreCommands
    core_chosen = core_action (known_in scene) n1 chosen no_commands

    abbrev core_second : CoreCommands
    core_second = core_other (known_in scene) n2 other

    abbrev Whole : Type 0
    Whole =
        Knows first (term_accesses test + (accesses_of chosen + other_accesses other)) (λ m. if nat_lt m n1 then outer else (if nat_lt m n2 then outer_chosen m else outer_second m))
        (λ m. IsIn first (term_accesses test) m ⊎ (IsReadIn (known_in scene) n1 chosen m ⊎ IsReadOther (known_in scene) n2 other m)) (λ m. is_between m first (term_accesses test) || (makes m n1 chosen || other_makes m n2 other)) (command_and (choose (core_term (known_in scene) first test) core_chosen core_second) no_commands)

    test_own : Whole → OwnsTerm c scene top spaces shared Variable Read Own outer first test
    test_own h =
        term_own outer first 0 (term_accesses test + (accesses_of chosen + other_accesses other)) first test _ _ _ _ h (omega arith) (omega arith)
        (λ m among. left_of (is_between m first (term_accesses test)) (makes m n1 chosen || other_makes m n2 other) (within m first (term_accesses test) among)) (λ m among. pick_low m n1 outer (if nat_lt m n2 then outer_chosen m else outer_second m) among.1) (λ e mentioned. or_none _ (left_of (term_mentions e (core_term (known_in scene) first test)) _ mentioned))

    arms_known : Whole
        → Knows n1 (accesses_of chosen + other_accesses other) (λ m. if nat_lt m n2 then outer_chosen m else outer_second m) (λ m. IsReadIn (known_in scene) n1 chosen m ⊎ IsReadOther (known_in scene) n2 other m) (λ m. makes m n1 chosen || other_makes m n2 other) (appended core_chosen core_second)
    arms_known h = record {
      own = λ m i. h.own m (right_of (is_between m first (term_accesses test)) (makes m n1 chosen || other_makes m n2 other) i);
      outer_is = λ m i. h.outer_is m (wide m i) ∙ pick_high m n1 outer (if nat_lt m n2 then outer_chosen m else outer_second m) i.0;
      reads = λ e read i. by e i (h.reads e read (wide e i));
      names = λ e mentioned. h.names e (or_none _ (right_of (term_mentions e (core_term (known_in scene) first test)) (commands_mention e core_chosen || commands_mention e core_second) (sym (appended_mentions e core_chosen core_second) ∙ mentioned)));
    }
      where
        wide : (m : ℕ) → IsIn n1 (accesses_of chosen + other_accesses other) m → IsIn first (term_accesses test + (accesses_of chosen + other_accesses other)) m
        wide m i = let f = i.0 in let b = i.1 in (omega (arith, f), omega (arith, b))

        by : (e : ℕ) → IsIn n1 (accesses_of chosen + other_accesses other) e → IsIn first (term_accesses test) e ⊎ (IsReadIn (known_in scene) n1 chosen e ⊎ IsReadOther (known_in scene) n2 other e) → IsReadIn (known_in scene) n1 chosen e ⊎ IsReadOther (known_in scene) n2 other e
        by e i (inr q) = q
        by e i (inl p) = absurd (let f = i.0 in let b = p.1 in never e b f)
          where
            never : (e : ℕ) → e < n1 → n1 ≤ e → ⊥
            never e b f = omega (arith, b, f)

    chosen_known : Whole → Knows n1 (accesses_of chosen) outer_chosen (IsReadIn (known_in scene) n1 chosen) (λ m. makes m n1 chosen) core_chosen
    chosen_known h =
        first_known n1 (accesses_of chosen) (other_accesses other) outer_chosen outer_second (IsReadIn (known_in scene) n1 chosen) (IsReadOther (known_in scene) n2 other) (λ m. makes m n1 chosen) (λ m. other_makes m n2 other) (appended core_chosen core_second) core_chosen core_second (λ e. appended_mentions e core_chosen core_second)
        (λ m q. read_in_other (known_in scene) n2 other m q reaches.1) (arms_known h)

    second_arm_known : Whole → Knows n2 (other_accesses other) outer_second (IsReadOther (known_in scene) n2 other) (λ m. other_makes m n2 other) core_second
    second_arm_known h =
        second_known n1 (accesses_of chosen) (other_accesses other) outer_chosen outer_second (IsReadIn (known_in scene) n1 chosen) (IsReadOther (known_in scene) n2 other) (λ m. makes m n1 chosen) (λ m. other_makes m n2 other) (appended core_chosen core_second) core_chosen core_second (λ e. appended_mentions e core_chosen core_second)
        (λ m p. read_in (known_in scene) n1 chosen m p reaches.0) (arms_known h)

  none_read : (first count : ℕ) (outers : (m : ℕ) → ℕ) (made : ℕ → Truth) (cs : CoreCommands) → Knows first count outers (λ m. ⊥) made cs → (m : ℕ) → IsIn first count m → Read m → ⊥
  none_read first count outers made cs h m i read = h.reads m read i

  -- a view: what it keeps, and its variables
  kept_mentions : (x : Hidden) (xs : List Hidden) (n e : ℕ) (offsets : List Term) → core_terms_mention e (core_terms (known_in scene) n (terms offsets)) ≡ true
      → commands_mention e (kept_by (x ∷ xs) (core_terms (known_in scene) n (terms offsets)) no_commands) ≡ true
  kept_mentions x xs n e [] h = h
  kept_mentions x xs n e (t ∷ ts) h =
      or_none _ (right_of (assigns_to e (keep x.depth x.entity (core_terms (known_in scene) n (terms (t ∷ ts))))) (core_terms_mention e (core_terms (known_in scene) n (terms (t ∷ ts)))) h)

  kept_assigns : (x : Hidden) (xs : List Hidden) (n e : ℕ) (offsets : List Term) → IsVariableAmong x.entity (length offsets) e → commands_mention e (kept_by (x ∷ xs) (core_terms (known_in scene) n (terms offsets)) no_commands) ≡ true
  kept_assigns x xs n e [] h = absurd (let f = h.0 in let b = h.1 in never x.entity f b)
    where
      never : (k : ℕ) → k ≤ e → e < k + 0 → ⊥
      never k f b = omega (arith, f, b)
  kept_assigns x xs n e (t ∷ ts) h =
      or_none _ (left_of (assigns_to e (keep x.depth x.entity (core_terms (known_in scene) n (terms (t ∷ ts))))) (core_terms_mention e (core_terms (known_in scene) n (terms (t ∷ ts))))
      (among_true x.entity (length (t ∷ ts)) (count_terms (core_terms (known_in scene) n (terms (t ∷ ts)))) e (offsets_long (known_in scene) n (t ∷ ts)) h))

  view_own : (hs : List Hidden) (outer first : ℕ) (form : plain.ViewPlan) → KeepsOwn scene top hs first (offsets_of form)
      → Knows first (plan_accesses form + 0) (λ m. outer) (IsReadOfView hs first form) (λ m. is_between m first (plan_accesses form)) (kept_by hs (core_terms (known_in scene) first (terms (offsets_of form))) no_commands)
      → OwnsView c scene top spaces shared Variable Read Own outer first hs form
  view_own [] outer first form a h = λ m i read. h.reads m read i
  view_own (x ∷ xs) outer first form a h = (
    terms_own outer first (plan_accesses form + 0) first (terms (offsets_of form)) (λ m. outer) _ _ _ h (omega arith) (omega arith) (λ m among. within m first (plan_accesses form) among) (λ m among. refl)
        (λ e mentioned. kept_mentions x xs first e (offsets_of form) mentioned),
    λ e among. (record { is = h.names e (kept_assigns x xs first e (offsets_of form) among); no_counter = (a e among).0 }, (a e among).1),
  )

  mutual
    pub owns_in : (outer first : ℕ) (a : Action) (l : Levels) → StoresReach a → AssignsOwn scene top first a
        → Knows first (accesses_of a) (λ m. outer_in (known_in scene) shared outer first a l m) (IsReadIn (known_in scene) first a) (λ m. makes m first a) (core_action (known_in scene) first a no_commands) → OwnsIn c scene top spaces shared Variable Read Own outer first a l
    owns_in outer first (action id place (lets name declared (Some value))) l s a h =
        let o = assigned_own outer first (entity_number name.entity) value (core_term (known_in scene) first value) (depth_of (known_in scene) name) (λ f mentioned. mentioned) h in (o.0, (record { is = o.1; no_counter = a.0 }, a.1))
    owns_in outer first (action id place (lets name declared None)) l s a h =
        record { is = h.names (entity_number name.entity) (or_none _ (left_of (entity_number name.entity == entity_number name.entity) _ (itself (entity_number name.entity)))); no_counter = a }
    owns_in outer first (action id place (assigns target value)) l s a h =
        let o = assigned_own outer first (entity_number target.entity) value (core_term (known_in scene) first value) (depth_of (known_in scene) target) (λ f mentioned. mentioned) h in (o.0, (record { is = o.1; no_counter = a.0 }, a.1))
    owns_in outer first (action id place (stores target value)) l s a h = stored_own outer first target value s h
    owns_in outer first (action id place (reduces target op value)) l s a h =
        let o =
        assigned_own outer first (entity_number target.entity) value
        (operation_of op (kind_of (known_in scene) target) (kind_found value) (variable (kind_of (known_in scene) target) (depth_of (known_in scene) target) (entity_number target.entity)) (core_term (known_in scene) first value)) (depth_of (known_in scene) target)
        (λ f mentioned.
        sym (operation_mentions f op (kind_of (known_in scene) target) (kind_found value) (variable (kind_of (known_in scene) target) (depth_of (known_in scene) target) (entity_number target.entity)) (core_term (known_in scene) first value))
        ∙ right_of (f == entity_number target.entity) (term_mentions f (core_term (known_in scene) first value)) mentioned) h in
        (o.0, (record { is = o.1; no_counter = a.0 }, a.1))
    owns_in outer first (action id place (decides test chosen other)) l s a h = (
      test_own outer first test chosen other l s h,
      (
        owns_in (max outer (leveled scene shared outer first test l).level) (first + term_accesses test) chosen (leveled scene shared outer first test l).levels s.0 a.0 (chosen_known outer first test chosen other l s h),
        owns_other (max outer (leveled scene shared outer first test l).level) (first + term_accesses test + accesses_of chosen) other (between_arms (known_in scene) shared outer first test chosen l) s.1 a.1 (second_arm_known outer first test chosen other l s h),
      ),
    )
    owns_in outer first (action id place (blocks body)) l s a h =
        owns_groups outer first body l s a (known_as first (0 + groups_accesses body) (groups_accesses body) (λ m. outer_groups (known_in scene) shared outer first body l m) (IsReadGroups (known_in scene) first body) (λ m. groups_make m first body) (core_groups (known_in scene) first body no_commands) (omega arith) h)
    owns_in outer first (action id place (lets_memory name shape shape_places value)) l s a h = tt
    owns_in outer first (action id place (views name parent form)) l s a h =
        view_own (hidden_in (way_of (known_in scene) name)) outer first form a h
    owns_in outer first (action id place (calls function arguments)) l s a h = tt
    owns_in outer first (action id place (repeats test body)) l s a h = none_read first (term_accesses test + accesses_of body) (λ m. outer) (λ m. false) no_commands h
    owns_in outer first (action id place (counts iterator declared low high factor body combine combine_place)) l s a h =
        λ m i read. none_read first (0 + (accesses_of body + other_accesses combine)) (λ m. outer) (λ m. false) no_commands h m (i.0, let b = i.1 in omega (arith, b)) read

    pub owns_other : (outer first : ℕ) (other : MaybeAction) (l : Levels) → StoresReachOther other → AssignsOwnOther scene top first other
        → Knows first (other_accesses other) (λ m. outer_other (known_in scene) shared outer first other l m) (IsReadOther (known_in scene) first other) (λ m. other_makes m first other) (core_other (known_in scene) first other) → OwnsOther c scene top spaces shared Variable Read Own outer first other l
    owns_other outer first no_action l s a h = tt
    owns_other outer first (one_action b) l s a h = owns_in outer first b l s a h

    owns_part : (outer first : ℕ) (part : Actions) (l : Levels) → StoresReachPart part → AssignsOwnPart scene top first part
        → Knows first (part_accesses part) (λ m. outer_part (known_in scene) shared outer first part l m) (IsReadPart (known_in scene) first part) (λ m. part_makes m first part) (core_part (known_in scene) first part no_commands) → OwnsPart c scene top spaces shared Variable Read Own outer first part l
    owns_part outer first no_actions l s a h = tt
    owns_part outer first (action_then b rest) l s a h =
        let f = λ (m : ℕ). outer_in (known_in scene) shared outer first b l m in
        let e = λ (m : ℕ). outer_part (known_in scene) shared outer (first + accesses_of b) rest (action_levels (known_in scene) shared outer first b l) m in
        let one : CoreCommands = core_action (known_in scene) first b no_commands in
        let two : CoreCommands = core_part (known_in scene) (first + accesses_of b) rest no_commands in
        let all : CoreCommands = core_action (known_in scene) first b two in (
          owns_in outer first b l s.0 a.0
              (first_known first (accesses_of b) (part_accesses rest) f e (IsReadIn (known_in scene) first b) (IsReadPart (known_in scene) (first + accesses_of b) rest) (λ m. makes m first b) (λ m. part_makes m (first + accesses_of b) rest) all one two (λ x. action_then_mentions (known_in scene) first b two x) (λ m q. read_in_part (known_in scene) (first + accesses_of b) rest m q s.1) h),
          owns_part outer (first + accesses_of b) rest (action_levels (known_in scene) shared outer first b l) s.1 a.1
              (second_known first (accesses_of b) (part_accesses rest) f e (IsReadIn (known_in scene) first b) (IsReadPart (known_in scene) (first + accesses_of b) rest) (λ m. makes m first b) (λ m. part_makes m (first + accesses_of b) rest) all one two (λ x. action_then_mentions (known_in scene) first b two x) (λ m p. read_in (known_in scene) first b m p s.0) h),
        )

    owns_groups : (outer first : ℕ) (body : Groups) (l : Levels) → StoresReachGroups body → AssignsOwnGroups scene top first body
        → Knows first (groups_accesses body) (λ m. outer_groups (known_in scene) shared outer first body l m) (IsReadGroups (known_in scene) first body) (λ m. groups_make m first body) (core_groups (known_in scene) first body no_commands) → OwnsGroups c scene top spaces shared Variable Read Own outer first body l
    owns_groups outer first no_groups l s a h = tt
    owns_groups outer first (group_then part rest) l s a h =
        let f = λ (m : ℕ). outer_part (known_in scene) shared outer first part l m in
        let e = λ (m : ℕ). outer_groups (known_in scene) shared outer (first + part_accesses part) rest (part_levels (known_in scene) shared outer first part l) m in
        let one : CoreCommands = core_part (known_in scene) first part no_commands in
        let two : CoreCommands = core_groups (known_in scene) (first + part_accesses part) rest no_commands in
        let all : CoreCommands = core_part (known_in scene) first part two in (
          owns_part outer first part l s.0 a.0
              (first_known first (part_accesses part) (groups_accesses rest) f e (IsReadPart (known_in scene) first part) (IsReadGroups (known_in scene) (first + part_accesses part) rest) (λ m. part_makes m first part) (λ m. groups_make m (first + part_accesses part) rest) all one two (λ x. part_then_mentions (known_in scene) first part two x) (λ m q. read_in_groups (known_in scene) (first + part_accesses part) rest m q s.1) h),
          owns_groups outer (first + part_accesses part) rest (part_levels (known_in scene) shared outer first part l) s.1 a.1
              (second_known first (part_accesses part) (groups_accesses rest) f e (IsReadPart (known_in scene) first part) (IsReadGroups (known_in scene) (first + part_accesses part) rest) (λ m. part_makes m first part) (λ m. groups_make m (first + part_accesses part) rest) all one two (λ x. part_then_mentions (known_in scene) first part two x) (λ m p. read_in_part (known_in scene) first part m p s.0) h),
        )
