-- Commands at some paths keep a variable at a path that is none of these. By recursion on the commands; the arms of
-- an `if` are done at fewer paths. Of an arm: a path at which its guard does not hold is none of those at which it is
-- done, and a variable that is another at each path is set at no copy that is seen there.
use Rattle.std.proofs.Common.{◌≡◌, ℕ, zero, suc, ◌<◌, ◌==◌, Bool, true, false, if◌then◌else◌, List, [], ◌∷◌, ◌++◌, take, refl, ap, sym, ◌∙◌, subst, arith}
use Rattle.std.specs.Prelude.{◌+◌, ◌≤◌, ◌&&◌, ◌||◌, nat_le, nat_lt}
use Rattle.std.specs.List.{AllByRecursion}
use Rattle.std.proofs.lemmas.Bool.{eq-eqb, eqb-true}
use Rattle.std.proofs.lemmas.Bool.Decides.{nat_tests}
use Rattle.dh_value.specs.Words as words
use Rattle.dh_meaning.specs.Core.{CoreTerms, no_terms, term_and, CoreCommand, store, assign, choose, keep, CoreCommands, no_commands, command_and, count_terms}
use Rattle.dh_meaning.specs.Effects.{Begun, Effect, Variables, assigned_at, at_each, command_run, commands_run, holds_at, kept_at, paths_where, set_from, set_variable, stored_at, tested_at, value_of_term, values_of}
use Rattle.dh_meaning.specs.Levels.{any_assigns, assigns_to}
use Rattle.dh_meaning.specs.Paths.{Path, same_path}
use Rattle.dh_plan.proofs.SourceMoves.{same_is}
use Rattle.dh_expressions.specs.declared.scenes.Around.{Around}
use Rattle.dh_expressions.specs.declared.scenes.Scene.{Scene}
use Rattle.dh_expressions.specs.Drafted.{BlockStep}
use Rattle.dh_commands.specs.LanesRun.{is_on_at, path_if, path_in, paths_counted, paths_on, paths_to}
use Rattle.dh_commands.specs.ShownVariables.{AreBoundAt, HasOwnCopies, IsSeen, depth_in, register_in, seen_path}

-- a copy of a variable is not the one that is set at a path
abbrev pub IsOther : (e : ℕ) → (p : Path) → (depth entity : ℕ) → Path → Type 0
IsOther e p depth entity q = ((e == entity) && same_path p (take depth q)) ≡ false

-- nor is it one of these, whose entities follow one another, so many
abbrev pub IsNone : (e : ℕ) → (p : Path) → (depth first count : ℕ) → Path → Type 0
IsNone e p depth first zero q = Unit {0}
IsNone e p depth first (suc n) q = IsOther e p depth first q × IsNone e p depth (suc first) n q

abbrev mutual
  pub KeepsAt : (e : ℕ) → (p : Path) → List Path → CoreCommand → Type 0
  KeepsAt e p paths (store r target value) = Unit {0}
  KeepsAt e p paths (assign depth entity value) = AllByRecursion (IsOther e p depth entity) paths
  KeepsAt e p paths (keep depth first values) = AllByRecursion (λ q. IsNone e p depth first (count_terms values) q) paths
  KeepsAt e p paths (choose test chosen other) = KeepsAll e p paths chosen × KeepsAll e p paths other

  pub KeepsAll : (e : ℕ) → (p : Path) → List Path → CoreCommands → Type 0
  KeepsAll e p paths no_commands = Unit {0}
  KeepsAll e p paths (command_and c cs) = KeepsAt e p paths c × KeepsAll e p paths cs

each_keeps_on : (run : Path → Effect → Effect) (e : ℕ) (p : Path) (P : Path → Type 0) → ((q : Path) (g : Effect) → P q → (run q g).variables e p ≡ g.variables e p)
    → (paths : List Path) (f : Effect) → AllByRecursion P paths → (at_each run paths f).variables e p ≡ f.variables e p
each_keeps_on run e p P one [] f a = refl
each_keeps_on run e p P one (q ∷ paths) f a = each_keeps_on run e p P one paths (run q f) a.1 ∙ one q f a.0

each_keeps : (run : Path → Effect → Effect) (e : ℕ) (p : Path) → ((q : Path) (g : Effect) → (run q g).variables e p ≡ g.variables e p)
    → (paths : List Path) (f : Effect) → (at_each run paths f).variables e p ≡ f.variables e p
each_keeps run e p one [] f = refl
each_keeps run e p one (q ∷ paths) f = each_keeps run e p one paths (run q f) ∙ one q f

all_where : (P : Path → Type 0) (holds : Bool) (test : Path → Bool) (paths : List Path) → AllByRecursion P paths → AllByRecursion P (paths_where holds test paths)
all_where P holds test [] a = a
all_where P true test (q ∷ paths) a = by (test q) (all_where P true test paths a.1)
  where
    by : (b : Bool) → AllByRecursion P (paths_where true test paths) → AllByRecursion P (if b then q ∷ paths_where true test paths else paths_where true test paths)
    by true rest = (a.0, rest)
    by false rest = rest
all_where P false test (q ∷ paths) a = by (test q) (all_where P false test paths a.1)
  where
    by : (b : Bool) → AllByRecursion P (paths_where false test paths) → AllByRecursion P (if b then paths_where false test paths else q ∷ paths_where false test paths)
    by true rest = rest
    by false rest = (a.0, rest)

mutual
  keeps_where : (e : ℕ) (p : Path) (paths : List Path) (holds : Bool) (test : Path → Bool) (c : CoreCommand) → KeepsAt e p paths c → KeepsAt e p (paths_where holds test paths) c
  keeps_where e p paths holds test (store r target value) h = tt
  keeps_where e p paths holds test (assign depth entity value) h = all_where (IsOther e p depth entity) holds test paths h
  keeps_where e p paths holds test (keep depth first values) h = all_where (λ q. IsNone e p depth first (count_terms values) q) holds test paths h
  keeps_where e p paths holds test (choose t chosen other) h = (all_keep_where e p paths holds test chosen h.0, all_keep_where e p paths holds test other h.1)

  all_keep_where : (e : ℕ) (p : Path) (paths : List Path) (holds : Bool) (test : Path → Bool) (cs : CoreCommands) → KeepsAll e p paths cs → KeepsAll e p (paths_where holds test paths) cs
  all_keep_where e p paths holds test no_commands h = tt
  all_keep_where e p paths holds test (command_and c cs) h = (keeps_where e p paths holds test c h.0, all_keep_where e p paths holds test cs h.1)

-- variables that are set one after the other
kept_others : (b : Begun) (v : Variables) (e : ℕ) (p : Path) (depth first : ℕ) (ts : CoreTerms) (q : Path) (vs : Variables) → IsNone e p depth first (count_terms ts) q → set_from vs first (take depth q) (values_of b v q ts) e p ≡ vs e p
kept_others b v e p depth first no_terms q vs h = refl
kept_others b v e p depth first (term_and t ts) q vs h =
    kept_others b v e p depth (suc first) ts q (set_variable vs first (take depth q) (words.value_of (value_of_term b v q t))) h.1 ∙ ap (λ (c : Bool). if c then words.value_of (value_of_term b v q t) else vs e p) h.0

mutual
  pub command_keeps : (b : Begun) (e : ℕ) (p : Path) (paths : List Path) (c : CoreCommand) (f : Effect) → KeepsAt e p paths c → (command_run b paths c f).variables e p ≡ f.variables e p
  command_keeps b e p paths (store r target value) f h = each_keeps (stored_at b r target value) e p (λ q g. refl) paths f
  command_keeps b e p paths (assign depth entity value) f h =
      each_keeps_on (assigned_at b depth entity value) e p (IsOther e p depth entity) (λ q g other. ap (λ (t : Bool). if t then words.value_of (value_of_term b g.variables q value) else g.variables e p) other) paths f h
  command_keeps b e p paths (keep depth first values) f h =
      each_keeps_on (kept_at b depth first values) e p (λ q. IsNone e p depth first (count_terms values) q) (λ q g none. kept_others b g.variables e p depth first values q g.variables none) paths f h
  command_keeps b e p paths (choose t chosen other) f h =
      commands_keep b e p (paths_where false (holds_at b f.variables t) paths) other _ (all_keep_where e p paths false (holds_at b f.variables t) other h.1)
      ∙ (commands_keep b e p (paths_where true (holds_at b f.variables t) paths) chosen _ (all_keep_where e p paths true (holds_at b f.variables t) chosen h.0)
      ∙ each_keeps (tested_at b t) e p (λ q g. refl) paths f)

  pub commands_keep : (b : Begun) (e : ℕ) (p : Path) (paths : List Path) (cs : CoreCommands) (f : Effect) → KeepsAll e p paths cs → (commands_run b paths cs f).variables e p ≡ f.variables e p
  commands_keep b e p paths no_commands f h = refl
  commands_keep b e p paths (command_and c cs) f h = commands_keep b e p paths cs (command_run b paths c f) h.1 ∙ command_keeps b e p paths c f h.0

-- Of an arm.

all_behind : (P : Path → Type 0) (xs ys : List Path) → AllByRecursion P xs → AllByRecursion P ys → AllByRecursion P (xs ++ ys)
all_behind P [] ys a b = b
all_behind P (q ∷ xs) ys a b = (a.0, all_behind P xs ys a.1 b)

all_if : (P : Path → Type 0) (on : Bool) (q : Path) → (on ≡ true → P q) → AllByRecursion P (path_if on q)
all_if P true q h = (h refl, tt)
all_if P false q h = tt

all_to : (x : BlockStep) (around : Around) (P : Path → Type 0) (count : ℕ) → ((i : ℕ) → i < count → is_on_at x around i ≡ true → P (path_in around i)) → AllByRecursion P (paths_to x around count)
all_to x around P zero h = tt
all_to x around P (suc n) h =
    all_behind P (paths_to x around n) (path_if (is_on_at x around n) (path_in around n))
    (all_to x around P n (λ i l on. h i (omega (arith, l)) on)) (all_if P (is_on_at x around n) (path_in around n) (λ on. h n (omega arith) on))

parted : (b : Bool) → b ≡ true → b ≡ false → ⊥
parted true u v = cc
parted false u v = cc

none_both : (a b : Bool) → (a ≡ true → b ≡ true → ⊥) → (a && b) ≡ false
none_both true true h = absurd (h refl refl)
none_both true false h = refl
none_both false b h = refl

-- a variable is set at no copy that is seen where the guard does not hold
pub others_at : (scene : Scene) (around : Around) (x : BlockStep) (e entity j : ℕ) → IsSeen scene around.levels.now e → j < paths_counted around → is_on_at x around j ≡ false
    → HasOwnCopies scene around entity → AllByRecursion (IsOther e (seen_path scene around e j) (depth_in scene entity) entity) (paths_on x around)
others_at scene around x e entity j there inside off own =
    all_to x around (IsOther e (seen_path scene around e j) (depth_in scene entity) entity) (paths_counted around)
    (λ i l on. none_both (e == entity) (same_path (seen_path scene around e j) (seen_path scene around entity i)) (never i l on))
  where
    never : (i : ℕ) → i < paths_counted around → is_on_at x around i ≡ true → (e == entity) ≡ true → same_path (seen_path scene around e j) (seen_path scene around entity i) ≡ true → ⊥
    never i l on a b =
        let is : e ≡ entity = eqb-true e entity a in
        let path : seen_path scene around e j ≡ seen_path scene around e i = same_is (seen_path scene around e j) (seen_path scene around entity i) b ∙ ap (λ n. seen_path scene around n i) (sym is) in
        let register : register_in scene around entity j ≡ register_in scene around entity i =
        ap (λ n. register_in scene around n j) (sym is) ∙ (own.placed.one e j i there inside l path ∙ ap (λ n. register_in scene around n i) is) in
        let same : j ≡ i = own.own j i inside l register in
        parted (is_on_at x around i) on (ap (λ n. is_on_at x around n) (sym same) ∙ off)

-- a variable is one of those that are kept
is_among : (first count entity : ℕ) → first ≤ entity → entity < first + count → (nat_le first entity && nat_lt entity (first + count)) ≡ true
is_among first count entity from below = grind (arith, nat_tests, from, below)

-- Of commands that set only what is another at each path.

abbrev mutual
  -- each variable is set at its depth
  pub IsDeep : Scene → CoreCommand → Type 0
  IsDeep scene (store r target value) = Unit {0}
  IsDeep scene (assign depth entity value) = depth ≡ depth_in scene entity
  IsDeep scene (keep depth first values) = AreBoundAt scene depth first (count_terms values)
  IsDeep scene (choose test chosen other) = AreDeep scene chosen × AreDeep scene other

  pub AreDeep : Scene → CoreCommands → Type 0
  AreDeep scene no_commands = Unit {0}
  AreDeep scene (command_and c cs) = IsDeep scene c × AreDeep scene cs

all_each : (P : Path → Type 0) → ((q : Path) → P q) → (paths : List Path) → AllByRecursion P paths
all_each P each [] = tt
all_each P each (q ∷ paths) = (each q, all_each P each paths)

all_both : (P Q : Path → Type 0) (paths : List Path) → AllByRecursion P paths → AllByRecursion Q paths → AllByRecursion (λ q. P q × Q q) paths
all_both P Q [] a b = tt
all_both P Q (q ∷ paths) a b = ((a.0, b.0), all_both P Q paths a.1 b.1)

or_first : (a b : Bool) → a ≡ true → (a || b) ≡ true
or_first true b h = refl
or_first false b h = absurd (cc)

or_second : (a b : Bool) → b ≡ true → (a || b) ≡ true
or_second true b h = refl
or_second false b h = h

module _ (scene : Scene) (around : Around) (x : BlockStep) (e j : ℕ) (there : IsSeen scene around.levels.now e) (inside : j < paths_counted around) (off : is_on_at x around j ≡ false) where
  -- variables that keep offsets are others, too
  none_set : (depth first count : ℕ) → AreBoundAt scene depth first count → ((entity : ℕ) → first ≤ entity → entity < first + count → HasOwnCopies scene around entity)
      → AllByRecursion (λ q. IsNone e (seen_path scene around e j) depth first count q) (paths_on x around)
  none_set depth first zero bound own = all_each (λ q. IsNone e (seen_path scene around e j) depth first zero q) (λ q. tt) (paths_on x around)
  none_set depth first (suc n) bound own =
      all_both (IsOther e (seen_path scene around e j) depth first) (λ q. IsNone e (seen_path scene around e j) depth (suc first) n q) (paths_on x around)
      (subst (λ (d : ℕ). AllByRecursion (IsOther e (seen_path scene around e j) d first) (paths_on x around)) (sym bound.0) (others_at scene around x e first j there inside off (own first (omega arith) (omega arith))))
      (none_set depth (suc first) n bound.1 (λ entity from below. own entity (omega (arith, from)) (omega (arith, below))))

  mutual
    keeps_one : (c : CoreCommand) → IsDeep scene c → ((entity : ℕ) → assigns_to entity c ≡ true → HasOwnCopies scene around entity) → KeepsAt e (seen_path scene around e j) (paths_on x around) c
    keeps_one (store r target value) deep own = tt
    keeps_one (assign depth entity value) deep own =
        subst (λ (d : ℕ). AllByRecursion (IsOther e (seen_path scene around e j) d entity) (paths_on x around)) (sym deep) (others_at scene around x e entity j there inside off (own entity (eq-eqb entity entity refl)))
    keeps_one (keep depth first values) deep own =
        none_set depth first (count_terms values) deep (λ entity from below. own entity (is_among first (count_terms values) entity from below))
    keeps_one (choose test chosen other) deep own = (
      keeps_own chosen deep.0 (λ entity sets. own entity (or_first (any_assigns entity chosen) (any_assigns entity other) sets)),
      keeps_own other deep.1 (λ entity sets. own entity (or_second (any_assigns entity chosen) (any_assigns entity other) sets)),
    )

    pub keeps_own : (cs : CoreCommands) → AreDeep scene cs → ((entity : ℕ) → any_assigns entity cs ≡ true → HasOwnCopies scene around entity) → KeepsAll e (seen_path scene around e j) (paths_on x around) cs
    keeps_own no_commands deep own = tt
    keeps_own (command_and c cs) deep own = (
      keeps_one c deep.0 (λ entity sets. own entity (or_first (assigns_to entity c) (any_assigns entity cs) sets)),
      keeps_own cs deep.1 (λ entity sets. own entity (or_second (assigns_to entity c) (any_assigns entity cs) sets)),
    )
