-- The block of a test, and its flag: a register that was not there before.
use Rattle.std.proofs.Common.{◌≡◌, ◌⊎◌, inl, inr, zero, suc, None, ℕ, ◌+◌, ◌<◌, ◌≤◌, ◌^◌, List, [], ◌∷◌, ◌++◌, length, Some, None, replicate, refl, ap, sym, ◌∙◌, subst, arith}
use Rattle.std.specs.Prelude.{Bool, true, false, Option, slice_get, slice_index}
use Rattle.std.specs.List.{AllByRecursion}
use Rattle.std.proofs.lemmas.List.{append-nil, length-append}
use Rattle.dh_value.specs.declared.kinds.Kind.{Kind}
use Rattle.dh_value.specs.declared.kinds.Kind.TheVariants as kind
use Rattle.dh_value.specs.declared.operators.Op.TheVariants.{Both}
use Rattle.dh_tree.specs.PlainTrees as tree
use Rattle.dh_meaning.specs.AccessNumbers.{term_accesses}
use Rattle.dh_plan.specs.Correspondence.{Round}
use Rattle.dh_plan.specs.declared.operations.OperationForm.TheVariants.{Compute, Set}
use Rattle.dh_expressions.specs.declared.accesses.Accesses.{Accesses}
use Rattle.dh_expressions.specs.declared.drafts.Draft.{Draft}
use Rattle.dh_expressions.specs.declared.paths.Paths.{Paths}
use Rattle.dh_expressions.specs.declared.scenes.Around.{Around}
use Rattle.dh_expressions.specs.declared.scenes.Scene.{Scene}
use Rattle.dh_expressions.specs.Drafted.{Extends}
use Rattle.dh_expressions.specs.Noted.{touched_in}
use Rattle.dh_expressions.specs.Shown.{is_read_term}
use Rattle.dh_expressions.proofs.Pushing.{at_seam, extends_again, in_front, pushed_extends}
use Rattle.dh_commands.specs.declared.assignments.Change.{Change}
use Rattle.dh_commands.specs.declared.assignments.Values.{Values}
use Rattle.dh_commands.specs.declared.buildings.Building.{Building}
use Rattle.dh_commands.specs.LanesRun.{paths_counted}
use Rattle.dh_commands.specs.MadeCommands.{MadeTests}
use Rattle.dh_commands.specs.Setting.{NoVariable, TestsAll}
use Rattle.dh_commands.specs.Undone.{Changes, IsChange, given_at, undone}
use Rattle.dh_laid.specs.LaidAccesses.{Lays}
use Rattle.dh_laid.specs.LaidFaults.{AddsFaultless}
use Rattle.dh_laid.specs.LaidQuiet.{BlockStandsIn}
use Rattle.dh_laid.proofs.AccessesLaid.{lays_again, lays_quiet, tests_lay}
use Rattle.dh_laid.proofs.CommandsNumbered.{tests_number}
use Rattle.dh_laid.proofs.FaultsOwn.{faultless_again, faultless_pushed}
use Rattle.dh_gathering.specs.declared.blocks.Made.{Made}
use Rattle.dh_gathering.specs.Growing.{MadeBlocksGrow, IsAtRest, IsClear, registers_given}
use Rattle.dh_gathering.specs.MadeBlocks.{AddsFlag, ArePathsInside, ArePathsOf, IsFlagOf, PutsFlag, SetsTestFlag, BlockStandsAt}
use Rattle.dh_gathering.specs.OpenAccesses.{AreUntouched, TouchesWithin}
use Rattle.dh_gathering.specs.Gathered.{MakesFlaggedTest, MakesTestIn, SetsFirst}
use Rattle.dh_gathering.proofs.MadeGrows.{AddsBlock, block_grows, block_rests, block_stands}
use Rattle.dh_gathering.proofs.StraightMade.{bare_from, few_counted, laid_later, owned_later, some_counted}

module _ (scene : Scene) (around : Around) where
  none_changed : (cs : List Change) → AllByRecursion (IsChange scene around NoVariable) cs → cs ≡ []
  none_changed [] a = refl
  none_changed (c ∷ cs) a = absurd a.0.may

  module _ (old new : Values) (h : Changes scene around NoVariable old new) where
    none : h.more ≡ []
    none = none_changed h.more h.each

    same_current : new.current.items ≡ old.current.items
    same_current = sym (ap (λ (l : List Change). undone l new.current.items) none) ∙ h.back

    pub clear_still : IsClear old → IsClear new
    clear_still clear = record {
      ready = record {
        unmarked = λ register. ap (λ (ms : List ℕ). slice_index ms register) h.marks ∙ clear.ready.unmarked register;
        long = ap (λ (ms : List ℕ). length ms) h.marks ∙ (clear.ready.long ∙ sym h.long);
      };
      log = h.log ∙ (ap (λ (l : List Change). old.log.items ++ l) none ∙ (append-nil old.log.items ∙ clear.log));
      none = λ register. ap (λ (os : List (Option ℕ)). given_at os register) same_current ∙ clear.none register;
    }

pub flag_extends : (old new : Draft) (t : tree.Term) (value flag : ℕ) → SetsTestFlag old new t value flag → Extends old new
flag_extends old new t value flag h = extends_again old h.mid new h.gives.extends (pushed_extends h.mid new h.number None (Set flag h.made) h.set)

-- a flag names no fault
flag_faults : (read : Bool) (old new : Draft) (value flag : ℕ) → AddsFlag read old new value flag → new.faults ≡ old.faults
flag_faults true old new value flag (mid, (made, (number, (both, set)))) = set.faults ∙ both.faults
flag_faults false old new value flag (number, set) = set.faults

-- and can have none
flag_faultless : (read : Bool) (old new : Draft) (value flag : ℕ) → AddsFlag read old new value flag → AddsFaultless old new
flag_faultless true old new value flag (mid, (made, (number, (both, set)))) =
    faultless_again old mid new (faultless_pushed old mid made None (Compute Both value value) both tt) (faultless_pushed mid new number None (Set flag made) set tt)
flag_faultless false old new value flag (number, set) = faultless_pushed old new number None (Set flag value) set tt

-- a flag behind these registers
one_flag : (old : List Kind) (register : ℕ) (k : Kind) → slice_get (old ++ kind.Bool ∷ []) register ≡ Some k → (slice_get old register ≡ Some k) ⊎ (k ≡ kind.Bool)
one_flag [] zero k at = inr (sym (ap kind_or at))
  where
    kind_or : Option Kind → Kind
    kind_or None = kind.Bool
    kind_or (Some x) = x
one_flag [] (suc register) k at = absurd (never at)
  where
    never : None ≡ Some k → ⊥
    never e = cc
one_flag (x ∷ old) zero k at = inl at
one_flag (x ∷ old) (suc register) k at = one_flag old register k at

one_more : (n m : ℕ) → m ≡ n + 1 → n ≤ m
one_more n m e = omega (arith, e)

module _ (scene : Scene) (paths : Paths) (old new : Made) (between : Building) (draft : Draft) (n next : ℕ) (t : tree.Term) (tests : List ℕ) (flag block start : ℕ) (around : Around)
    (levels : around.levels.now ≡ paths.levels.items) (guards : around.guards.now ≡ replicate paths.count None) (low : length around.levels.now < 2 ^ 63) (many : paths.count < 2 ^ 63)
    (does : TestsAll scene around old.building between n next t tests) (made : MadeTests scene around n t (paths_counted around) old.building between next tests) where
  -- there is a value
  pub never_none : (rounds : List Round) → ArePathsInside scene rounds paths → slice_get tests 0 ≡ None → ⊥
  never_none rounds inside none = by tests does.long (some_counted around paths.count guards inside.inside.some) none
    where
      zero_none : (n : ℕ) → 0 ≡ n → 0 < n → ⊥
      zero_none n e l = omega (arith, e, l)

      by : (ts : List ℕ) → length ts ≡ paths_counted around → 0 < paths_counted around → slice_get ts 0 ≡ None → ⊥
      by [] long some e = zero_none (paths_counted around) long some
      by (x ∷ ts) long some e = absurd cc

  module _ (value : ℕ) (first : slice_get tests 0 ≡ Some value) (puts : PutsFlag between.draft draft t value flag)
      (draft_is : new.building.draft ≡ draft) (accesses_are : new.building.accesses ≡ between.accesses) (values_are : new.building.values ≡ between.values)
      (starts : new.starts.items ≡ old.starts.items ++ start ∷ []) (registers : new.registers ≡ old.registers ++ kind.Bool ∷ [])
      (flag_is : flag ≡ length old.registers) (number_is : block ≡ length old.starts.items) (start_is : start ≡ length old.building.draft.operations.items) where
    module _ (rounds : List Round) (inside : ArePathsInside scene rounds paths) (rest : IsAtRest old) (few : n + term_accesses t < 2 ^ 32) (bare : AreUntouched old.building.accesses n (n + term_accesses t)) where
      stands_in : BlockStandsIn scene around
      stands_in = record { scopes = inside.told.scopes; low = low; few = few_counted around paths.count guards many }

      -- accesses are laid behind the test, and its flag touches none
      lays : Lays old.building.draft new.building.draft old.building.accesses new.building.accesses
      lays =
          lays_again old.building.draft between.draft new.building.draft old.building.accesses between.accesses new.building.accesses
          (tests_lay scene around n t (paths_counted around) old.building between next tests stands_in made)
          (lays_quiet between.draft new.building.draft between.accesses new.building.accesses (subst (λ (d : Draft). Extends between.draft d) (sym draft_is) (flag_extends between.draft draft t value flag puts.0))
          (ap (λ (d : Draft). d.faults) draft_is ∙ flag_faults (is_read_term t) between.draft draft value flag puts.1)
          (subst (λ (d : Draft). AddsFaultless between.draft d) (sym draft_is) (flag_faultless (is_read_term t) between.draft draft value flag puts.1)) accesses_are)

      touches : TouchesWithin old.building.accesses new.building.accesses n (n + term_accesses t)
      touches = record {
        long = lays.long;
        only = λ number out. ap (λ (a : Accesses). touched_in a number) accesses_are
            ∙ (tests_number scene around n t few (paths_counted around) old.building between next tests (some_counted around paths.count guards inside.inside.some) made).only number out;
      }

      changes : Changes scene around NoVariable old.building.values between.values
      changes = (does.does.so few).changes rest.clear.ready

      variables : registers_given new ≡ registers_given old
      variables = ap (λ (v : Values). length v.current.items) values_are ∙ changes.long

      adds : AddsBlock old new
      adds = record {
        draft = subst (λ (d : Draft). Extends old.building.draft d) (sym draft_is) (extends_again old.building.draft between.draft draft (does.does.so few).extends (flag_extends between.draft draft t value flag puts.0));
        starts = starts ∙ ap (λ (n : ℕ). old.starts.items ++ n ∷ []) start_is;
        registers = λ register k at. ap (λ (l : List Kind). slice_get l register) registers ∙ in_front old.registers (kind.Bool ∷ []) register k at;
        flags = λ register k at. one_flag old.registers register k (ap (λ (l : List Kind). slice_get l register) (sym registers) ∙ at);
        longer = one_more (length old.registers) (length new.registers) (ap (λ (l : List Kind). length l) registers ∙ length-append old.registers (kind.Bool ∷ []));
        variables = variables;
        few = (lays.long, lays.few);
        clear = subst (λ (v : Values). IsClear v) (sym values_are) (clear_still scene around old.building.values between.values changes rest.clear);
        laid = laid_later old.building new.building lays rest.laid rest.counts;
        owned = owned_later old.building new.building lays rest.owned;
        counts = lays.none rest.counts;
      }

      is_flag : (final : Made) → MadeBlocksGrow new final → IsFlagOf final flag
      is_flag final more = record {
        truth = more.registers flag kind.Bool (ap (λ (l : List Kind). slice_get l flag) registers ∙ (ap (λ (i : ℕ). slice_get (old.registers ++ kind.Bool ∷ []) i) flag_is ∙ at_seam old.registers kind.Bool));
        fresh = subst (λ (m : ℕ). m ≤ flag) (sym (more.variables ∙ variables)) (subst (λ (m : ℕ). registers_given old ≤ m) (sym flag_is) rest.variables);
      }

      pub test_made : MakesFlaggedTest scene rounds old new n t flag block
      test_made = record {
        grows = block_grows old new adds;
        rest = block_rests old new adds rest;
        touches = touches;
        made = λ final more. record {
          around = around;
          round = record { paths = paths.count; levels = subst (λ ls. ArePathsOf rounds ls paths.count) (sym levels) inside.inside; guards = guards; small = many };
          before = old.building;
          between = between;
          after = new.building;
          stands = subst (λ (n : ℕ). BlockStandsAt final n old.building new.building) (sym number_is) (block_stands old new adds rest final more);
          few = few;
          next = next;
          tests = tests;
          value = value;
          does = does;
          stands_in = stands_in;
          made = made;
          laid = λ short. rest.laid final.building.draft.faults (λ i f at. more.draft.faults i f (adds.draft.faults i f at)) short;
          counts = rest.counts;
          bare = bare_from old.building.accesses n (term_accesses t) bare;
          accesses = accesses_are;
          values = values_are;
          first = first;
          sets = subst (λ (d : Draft). SetsTestFlag between.draft d t value flag) (sym draft_is) puts.0;
          adds = subst (λ (d : Draft). AddsFlag (is_read_term t) between.draft d value flag) (sym draft_is) puts.1;
          is_flag = is_flag final more;
        };
      }

    pub test_makes : MakesTestIn scene paths old new n t flag block
    test_makes rounds inside rest few bare = test_made rounds inside rest few bare

  -- by the list of the values
  pub tests_make : (draft_is : SetsFirst between.draft draft t tests flag) → new.building.draft ≡ draft → new.building.accesses ≡ between.accesses → new.building.values ≡ between.values
      → new.starts.items ≡ old.starts.items ++ start ∷ [] → new.registers ≡ old.registers ++ kind.Bool ∷ [] → flag ≡ length old.registers → block ≡ length old.starts.items → start ≡ length old.building.draft.operations.items
      → MakesTestIn scene paths old new n t flag block
  tests_make sets draft_is accesses_are values_are starts registers flag_is number_is start_is = by tests refl sets
    where
      by : (ts : List ℕ) → tests ≡ ts → SetsFirst between.draft draft t ts flag → MakesTestIn scene paths old new n t flag block
      by [] e s = λ rounds inside rest few bare. absurd (never_none rounds inside (ap (λ (l : List ℕ). slice_get l 0) e))
      by (value ∷ ts) e s = test_makes value (ap (λ (l : List ℕ). slice_get l 0) e) s draft_is accesses_are values_are starts registers flag_is number_is start_is
