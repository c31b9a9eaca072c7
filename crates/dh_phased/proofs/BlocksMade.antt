-- What was put down for a block is as the theorem of blocks asks.
use Rattle.std.proofs.Common.{◌≡◌, ℕ, zero, suc, ◌+◌, ◌<◌, ◌≤◌, ◌^◌, Bool, true, false, List, [], ◌∷◌, ◌++◌, length, drop, Option, Some, None, refl, ap, sym, ◌∙◌, subst, append_assoc, append-nil, arith}
use Rattle.std.specs.Prelude.{slice_get, slice_index, slice_set}
use Rattle.std.specs.List.{AllByRecursion}
use Rattle.std.proofs.Math.Seq.{drop-append_seam}
use Rattle.dh_base.specs.declared.outcomes.FaultKind.{FaultKind}
use Rattle.dh_base.specs.declared.places.Place.{Place}
use Rattle.dh_value.specs.declared.kinds.Kind.{Kind}
use Rattle.dh_value.specs.declared.kinds.Kind.TheVariants as kind
use Rattle.dh_value.specs.declared.operators.Op.TheVariants.{Both}
use Rattle.dh_tree.specs.PlainTrees.{Term}
use Rattle.dh_meaning.specs.Phases.{Located}
use Rattle.dh_plan.specs.declared.operations.Operation.{Operation}
use Rattle.dh_plan.specs.declared.operations.OperationForm.TheVariants.{Compute, Set}
use Rattle.dh_plan.specs.Blocks.{kind_at}
use Rattle.dh_plan.specs.Correspondence.{Round}
use Rattle.dh_plan.specs.Ordered.{IsOrdered}
use Rattle.dh_plan.specs.PlainPlans.{PlainPlan, first_in, operations_in}
use Rattle.dh_expressions.specs.declared.drafts.Draft.{Draft}
use Rattle.dh_expressions.specs.declared.scenes.Around.{Around}
use Rattle.dh_expressions.specs.declared.scenes.Scene.{Scene}
use Rattle.dh_expressions.specs.Shown.{is_read_term}
use Rattle.dh_commands.specs.declared.assignments.Change.{Change}
use Rattle.dh_commands.specs.declared.buildings.Building.{Building}
use Rattle.dh_commands.specs.LanesRun.{lane_of, paths_counted}
use Rattle.dh_commands.specs.MadeCommands.{MadeTests}
use Rattle.dh_commands.specs.Undone.{NoneGiven, given_at}
use Rattle.dh_laid.specs.BlockSites.{MadeEach}
use Rattle.dh_laid.specs.LaidAccesses.{AreLaid}
use Rattle.dh_laid.specs.LaidQuiet.{AddsQuiet, IsQuiet, BlockStandsIn}
use Rattle.dh_laid.proofs.CommandsQuiet.{commands_are_quiet, quiet_sets_none, terms_are_quiet}
use Rattle.dh_blocks.specs.BlockMade.{DoEach, IsBlockMade, SetsNone, set_made, sets_made}
use Rattle.dh_blocks.specs.TestMade.{IsTestMade, flag_made}
use Rattle.dh_gathering.specs.declared.blocks.Made.{Made}
use Rattle.dh_gathering.specs.MadeBlocks.{AddsFlag, DoesCommands, MadeStraight, MadeTest, BlockStandsAt}
use Rattle.dh_gathering.specs.PushedSets.{set_of, sets_pushed, settings}
use Rattle.dh_gathering.proofs.BlocksPlanned.{first_is, none_at_begin, operations_are}
use Rattle.dh_gathering.proofs.TestMade.{flag_extends}
use Rattle.dh_phased.specs.DonePhases.{HasMade}

-- Nothing that is put down for commands or a test sets a register.

quiet_same : (old new : Draft) → new ≡ old → AddsQuiet old new
quiet_same old new same = record { more = []; adds = ap (λ (d : Draft). d.operations.items) same ∙ sym (append-nil old.operations.items); each = tt }

all_both : {A : Type 0} (P : A → Type 0) (xs ys : List A) → AllByRecursion P xs → AllByRecursion P ys → AllByRecursion P (xs ++ ys)
all_both P [] ys h k = k
all_both P (x ∷ xs) ys h k = (h.0, all_both P xs ys h.1 k)

quiet_then : (a b c : Draft) → AddsQuiet a b → AddsQuiet b c → AddsQuiet a c
quiet_then a b c h k = record {
  more = h.more ++ k.more;
  adds = k.adds ∙ (ap (λ (os : List Operation). os ++ k.more) h.adds ∙ append_assoc a.operations.items h.more k.more);
  each = all_both (λ (o : Operation). IsQuiet o.form) h.more k.more h.each k.each;
}

each_quiet : (scene : Scene) (around : Around) (cs : List Located) (old new : Building) → BlockStandsIn scene around → MadeEach scene around cs old new → AddsQuiet old.draft new.draft
each_quiet scene around [] old new stands m = quiet_same old.draft new.draft (ap (λ (b : Building). b.draft) m)
each_quiet scene around (c ∷ cs) old new stands (mid, (next, (m, rest))) =
    quiet_then old.draft mid.draft new.draft (commands_are_quiet scene c.command around old mid c.first next stands m) (each_quiet scene around cs mid new stands rest)

tests_quiet : (scene : Scene) (around : Around) (first : ℕ) (t : Term) (count : ℕ) (old new : Building) (next : ℕ) (tests : List ℕ) → BlockStandsIn scene around → MadeTests scene around first t count old new next tests → AddsQuiet old.draft new.draft
tests_quiet scene around first t zero old new next tests stands m = quiet_same old.draft new.draft (ap (λ (b : Building). b.draft) m.0)
tests_quiet scene around first t (suc n) old new next tests stands m =
    quiet_then old.draft (m.0).draft new.draft (tests_quiet scene around first t n old m.0 m.1.0 m.1.1.0 stands m.1.1.1.1.0)
    (terms_are_quiet scene (lane_of around n) (m.0).values.current.items t (m.0).draft new.draft (m.0).accesses new.accesses first next m.1.1.1.0 stands (m.1.1.1.1.1.0).term)

sets_none : (os : List Operation) → AllByRecursion (λ (o : Operation). IsQuiet o.form) os → AllByRecursion SetsNone os
sets_none [] h = tt
sets_none (o ∷ os) h = (quiet_sets_none o.form h.0, sets_none os h.1)

-- what was added behind others
added : (before new more : List Operation) → new ≡ before ++ more → drop (length before) new ≡ more
added before new more e = ap (λ (l : List Operation). drop (length before) l) e ∙ drop-append_seam before more

behind_added : (before new after more last : List Operation) → new ≡ before ++ more → after ≡ new ++ last → drop (length before) after ≡ drop (length before) new ++ last
behind_added before new after more last e f =
    ap (λ (l : List Operation). drop (length before) l) (f ∙ (ap (λ (l : List Operation). l ++ last) e ∙ append_assoc before more last))
    ∙ (drop-append_seam before (more ++ last) ∙ ap (λ (l : List Operation). l ++ last) (sym (added before new more e)))

quiet_added : (old new : Draft) → AddsQuiet old new → AllByRecursion SetsNone (drop (length old.operations.items) new.operations.items)
quiet_added old new h = subst (λ (l : List Operation). AllByRecursion SetsNone l) (sym (added old.operations.items new.operations.items h.more h.adds)) (sets_none h.more h.each)

-- Registers are set as both have it.

settings_made : (cs : List Change) (current : List (Option ℕ)) → settings (sets_pushed cs current) ≡ sets_made cs current
settings_made [] current = refl
settings_made (c ∷ cs) current = one (given_at current c.register) (settings_made cs (slice_set current c.register None))
  where
    one : (o : Option ℕ) → settings (sets_pushed cs (slice_set current c.register None)) ≡ sets_made cs (slice_set current c.register None)
        → settings (set_of c.register o ++ sets_pushed cs (slice_set current c.register None)) ≡ set_made c.register o ++ sets_made cs (slice_set current c.register None)
    one None e = e
    one (Some value) e = ap (λ (l : List Operation). record { guard = None; form = Set c.register value } ∷ l) e

does_each : (scene : Scene) (around : Around) (cs : List Located) (old new : Building) → DoesCommands scene around cs old new → DoEach scene around cs old new
does_each scene around [] old new h = sym h
does_each scene around (c ∷ cs) old new (mid, (next, (d, rest))) = (mid, (next, (d, does_each scene around cs mid new rest)))

-- Elements that are there.

got_within : (xs : List Kind) (i : ℕ) (k : Kind) → slice_get xs i ≡ Some k → i < length xs
got_within [] i k e = absurd cc
got_within (x ∷ xs) zero k e = omega arith
got_within (x ∷ xs) (suc i) k e = more i (length xs) (got_within xs i k e)
  where
    more : (n m : ℕ) → n < m → suc n < suc m
    more n m l = omega (arith, l)

got_kind : (xs : List Kind) (i : ℕ) (k : Kind) → slice_get xs i ≡ Some k → kind_at xs i ≡ k
got_kind [] i k e = absurd cc
got_kind (x ∷ xs) zero k e = ap kind_or e
  where
    kind_or : Option Kind → Kind
    kind_or None = x
    kind_or (Some y) = y
got_kind (x ∷ xs) (suc i) k e = got_kind xs i k e

got_number : (xs : List ℕ) (n : ℕ) → slice_get xs 0 ≡ Some n → slice_index xs 0 ≡ n
got_number [] n e = absurd cc
got_number (x ∷ xs) n e = ap number_or e
  where
    number_or : Option ℕ → ℕ
    number_or None = x
    number_or (Some y) = y

module _ (scene : Scene) (plan : PlainPlan) (count : ℕ) (final : Made) (made : HasMade plan count final) where
  laid_here : (before : Building) → (length final.building.draft.faults ≤ 2 ^ 32 → AreLaid final.building.draft.faults before.accesses) → AreLaid plan.faults before.accesses
  laid_here before laid =
      subst (λ (fs : List (FaultKind × Place)). AreLaid fs before.accesses) (sym made.faults)
      (laid (subst (λ (fs : List (FaultKind × Place)). length fs ≤ 2 ^ 32) made.faults made.few))

  none_here : (block : ℕ) (before after : Building) → BlockStandsAt final block before after → NoneGiven before.values count
  none_here block before after stands = subst (λ (n : ℕ). NoneGiven before.values n) made.given (none_at_begin final block before after stands)

  faults_here : (n : ℕ) (f : FaultKind × Place) → slice_get final.building.draft.faults n ≡ Some f → slice_get plan.faults n ≡ Some f
  faults_here n f at = ap (λ (fs : List (FaultKind × Place)). slice_get fs n) made.faults ∙ at

  pub straight_is_made : (rounds : List Round) (ls : List Located) (block : ℕ) (m : MadeStraight scene final rounds ls block) → IsOrdered (first_in plan block) (operations_in plan block)
      → IsBlockMade scene m.around plan count block ls m.before m.between
  straight_is_made rounds ls block m ordered =
      let quiet : AddsQuiet m.before.draft m.between.draft = each_quiet scene m.around ls m.before m.between m.stands_in m.made in
      record {
        put = record {
          none = none_here block m.before m.after m.stands;
          laid = laid_here m.before m.laid;
          counts = m.counts;
          first = first_is final plan.blocks made.blocks block m.before m.after m.stands;
          operations =
              operations_are final plan.blocks made.blocks block m.before m.after m.stands
              ∙ (behind_added m.before.draft.operations.items m.between.draft.operations.items m.after.draft.operations.items quiet.more (settings (sets_pushed m.between.values.log.items m.between.values.current.items)) quiet.adds m.logged.sets.operations
              ∙ ap (λ (l : List Operation). drop (length m.before.draft.operations.items) m.between.draft.operations.items ++ l) (settings_made m.between.values.log.items m.between.values.current.items));
          ordered = ordered;
          quiet = quiet_added m.before.draft m.between.draft quiet;
          faults = λ n f at. faults_here n f (m.stands.kept.faults n f (ap (λ (fs : List (FaultKind × Place)). slice_get fs n) m.logged.sets.faults ∙ at));
          few = made.few;
        };
        each = does_each scene m.around ls m.before m.between m.does;
        rising = m.rising;
        bare = m.bare;
      }

  -- the operations of a flag
  flag_added : (b : Bool) (old new : Draft) (value flag : ℕ) → AddsFlag b old new value flag → new.operations.items ≡ old.operations.items ++ flag_made b flag value (length old.operations.items)
  flag_added true old new value flag (mid, (number, (last, (one, two)))) =
      two.operations
      ∙ (ap (λ (l : List Operation). l ++ record { guard = None; form = Set flag number } ∷ []) one.operations
      ∙ (append_assoc old.operations.items (record { guard = None; form = Compute Both value value } ∷ []) (record { guard = None; form = Set flag number } ∷ [])
      ∙ ap (λ (n : ℕ). old.operations.items ++ (record { guard = None; form = Compute Both value value } ∷ (record { guard = None; form = Set flag n } ∷ []))) one.number_is))
  flag_added false old new value flag (number, one) = one.operations

  pub test_is_made : (rounds : List Round) (n : ℕ) (t : Term) (flag block : ℕ) (m : MadeTest scene final rounds n t flag block) → IsOrdered (first_in plan block) (operations_in plan block)
      → IsTestMade scene m.around plan count block flag n t m.tests m.before m.between
  test_is_made rounds n t flag block m ordered =
      let quiet : AddsQuiet m.before.draft m.between.draft = tests_quiet scene m.around n t (paths_counted m.around) m.before m.between m.next m.tests m.stands_in m.made in
      record {
        put = record {
          none = none_here block m.before m.after m.stands;
          laid = laid_here m.before m.laid;
          counts = m.counts;
          first = first_is final plan.blocks made.blocks block m.before m.after m.stands;
          operations =
              operations_are final plan.blocks made.blocks block m.before m.after m.stands
              ∙ (behind_added m.before.draft.operations.items m.between.draft.operations.items m.after.draft.operations.items quiet.more (flag_made (is_read_term t) flag m.value (length m.between.draft.operations.items)) quiet.adds
              (flag_added (is_read_term t) m.between.draft m.after.draft m.value flag m.adds)
              ∙ ap (λ (v : ℕ). drop (length m.before.draft.operations.items) m.between.draft.operations.items ++ flag_made (is_read_term t) flag v (length m.between.draft.operations.items)) (sym (got_number m.tests m.value m.first)));
          ordered = ordered;
          quiet = quiet_added m.before.draft m.between.draft quiet;
          faults = λ i f at. faults_here i f (m.stands.kept.faults i f ((flag_extends m.between.draft m.after.draft t m.value flag m.sets).faults i f at));
          few = made.few;
        };
        next = m.next;
        tested = m.does;
        low = m.few;
        bare = m.bare;
        apart = subst (λ (k : ℕ). k ≤ flag) made.given m.is_flag.fresh;
        there = subst (λ (ks : List Kind). flag < length ks) (sym made.registers) (got_within final.registers flag kind.Bool m.is_flag.truth);
        kind_is = ap (λ (ks : List Kind). kind_at ks flag) made.registers ∙ got_kind final.registers flag kind.Bool m.is_flag.truth;
      }
