-- The accesses that commands make are told by their core: by the numbers of its reads and stores.
use Rattle.std.proofs.Common.{◌≡◌, ◌+◌, ◌==◌, ◌||◌, ℕ, suc, List, Some, None, ap, sym, ◌∙◌, arith, refl}
use Rattle.std.specs.Prelude.{Bool as Truth, Option, true, false, [], ◌∷◌}
use Rattle.std.specs.List.{AllByRecursion}
use Rattle.std.proofs.lemmas.Bool.Decides.{nat_tests}
use Rattle.dh_value.specs.declared.kinds.Kind.{Kind}
use Rattle.dh_value.specs.declared.kinds.Kind.TheVariants as kind
use Rattle.dh_value.specs.declared.operators.Op.{Op}
use Rattle.dh_value.specs.declared.operators.Op.TheVariants as op
use Rattle.dh_tree.specs.WiderKinds.{wider}
use Rattle.dh_tree.specs.PlainTrees as plain
use Rattle.dh_tree.specs.Seen.{terms}
use Rattle.dh_tree.specs.ViewOffsets.{offsets_of}
use Rattle.dh_tree.specs.PlainTrees.{Action, action, lets, lets_memory, views, assigns, stores, reduces, calls, blocks, decides, repeats, counts, MaybeAction, no_action, one_action, Actions, no_actions, action_then, Groups, no_groups, group_then}
use Rattle.dh_meaning.specs.AccessNumbers.{accesses_of, part_accesses, term_accesses, terms_accesses}
use Rattle.dh_meaning.specs.Bindings.{kind_found}
use Rattle.dh_meaning.specs.Core.{CoreTerm, literal, truth_literal, variable, read, binary, convert, Target, by_indices, by_row, by_views, CoreTerms, no_terms, term_and, CoreCommand, store, assign, choose, keep, CoreCommands, no_commands, command_and}
use Rattle.dh_meaning.specs.CoreOf.{Known, core_action, core_commands, core_groups, core_other, core_part, core_term, core_terms, core_test, extended, kept_by, kept_terms, operation_of, store_to, target_to, terms_both, way_of}
use Rattle.dh_meaning.specs.OnePhase.{any_makes, groups_make, is_between, makes, other_makes, part_makes, test_makes}
use Rattle.dh_meaning.specs.Phases.{Located}
use Rattle.dh_meaning.specs.Ways.{Hidden, Way, hidden_in}
use Rattle.dh_sound.specs.Straight.{AreKeptActions, AreKeptGroups, IsKeptAction, IsKeptOther, IsTarget, KeepsAny}

module _ (k : ℕ) where
  abbrev mutual
    -- an expression of the core reads an access of this number
    pub term_holds : CoreTerm → Truth
    term_holds (literal of negative n) = false
    term_holds (truth_literal value) = false
    term_holds (variable of depth entity) = false
    term_holds (read reach target) = target_holds target || (k == reach.number)
    term_holds (binary o left right) = term_holds left || term_holds right
    term_holds (convert to inner) = term_holds inner

    pub target_holds : Target → Truth
    target_holds (by_indices indices) = terms_hold indices
    target_holds (by_views steps count terms) = terms_hold terms
    target_holds (by_row bank row) = term_holds row

    pub terms_hold : CoreTerms → Truth
    terms_hold no_terms = false
    terms_hold (term_and t ts) = term_holds t || terms_hold ts

  abbrev mutual
    -- so do commands, or store into it
    pub command_holds : CoreCommand → Truth
    command_holds (store reach target value) = term_holds value || (target_holds target || (k == reach.number))
    command_holds (assign depth entity value) = term_holds value
    command_holds (keep depth first values) = terms_hold values
    command_holds (choose test chosen other) = term_holds test || (commands_hold chosen || commands_hold other)

    pub commands_hold : CoreCommands → Truth
    commands_hold no_commands = false
    commands_hold (command_and c cs) = command_holds c || commands_hold cs

  -- Ranges of numbers.

  within_none : (n : ℕ) → false ≡ is_between k n 0
  within_none n = grind (arith, nat_tests)

  within_both : (n a b : ℕ) → (is_between k n a || is_between k (n + a) b) ≡ is_between k n (a + b)
  within_both n a b = grind (arith, nat_tests)

  within_last : (n a : ℕ) → (is_between k n a || (k == n + a)) ≡ is_between k n (suc a)
  within_last n a = grind (arith, nat_tests)

  or_none : (b : Truth) → b ≡ (b || false)
  or_none true = refl
  or_none false = refl

  grouped : (a b c : Truth) → (a || (b || c)) ≡ ((a || b) || c)
  grouped true b c = refl
  grouped false b c = refl

  -- Targets: offsets that were kept are no accesses.

  kept_hold : (hs : List Hidden) → terms_hold (kept_terms hs) ≡ false
  kept_hold [] = refl
  kept_hold (h ∷ hs) = kept_hold hs

  all_hold : (ts us : CoreTerms) → terms_hold (terms_both ts us) ≡ (terms_hold ts || terms_hold us)
  all_hold no_terms us = refl
  all_hold (term_and t ts) us = ap (λ b. term_holds t || b) (all_hold ts us) ∙ grouped (term_holds t) (terms_hold ts) (terms_hold us)

  aimed_holds : (w : Option Way) (ts : CoreTerms) → target_holds (target_to w ts) ≡ terms_hold ts
  aimed_holds None ts = refl
  aimed_holds (Some w) ts = all_hold ts (kept_terms w.hidden) ∙ (ap (λ b. terms_hold ts || b) (kept_hold w.hidden) ∙ sym (or_none (terms_hold ts)))

  -- Expressions.

  extended_holds : (j : Kind) (t : CoreTerm) → term_holds (extended j t) ≡ term_holds t
  extended_holds kind.Bool t = refl
  extended_holds (kind.Unsigned w) t = refl
  extended_holds (kind.Signed w) t = refl

  both_hold : (j : Kind) (l r : CoreTerm) → (term_holds (extended j l) || term_holds (extended j r)) ≡ (term_holds l || term_holds r)
  both_hold j l r = ap (λ b. b || term_holds (extended j r)) (extended_holds j l) ∙ ap (λ b. term_holds l || b) (extended_holds j r)

  operation_holds : (o : Op) (i j : Kind) (l r : CoreTerm) → term_holds (operation_of o i j l r) ≡ (term_holds l || term_holds r)
  operation_holds op.Shl i j l r = refl
  operation_holds op.Shr i j l r = refl
  operation_holds op.Both i j l r = refl
  operation_holds op.Either i j l r = refl
  operation_holds op.Add i j l r = both_hold (wider i j) l r
  operation_holds op.Sub i j l r = both_hold (wider i j) l r
  operation_holds op.Mul i j l r = both_hold (wider i j) l r
  operation_holds op.And i j l r = both_hold (wider i j) l r
  operation_holds op.Or i j l r = both_hold (wider i j) l r
  operation_holds op.Xor i j l r = both_hold (wider i j) l r
  operation_holds op.Lt i j l r = both_hold (wider i j) l r
  operation_holds op.Gt i j l r = both_hold (wider i j) l r
  operation_holds op.Le i j l r = both_hold (wider i j) l r
  operation_holds op.Ge i j l r = both_hold (wider i j) l r
  operation_holds op.Eq i j l r = both_hold (wider i j) l r
  operation_holds op.Ne i j l r = both_hold (wider i j) l r

  module _ (known : Known) where
    mutual
      term_within : (n : ℕ) (t : plain.Term) → term_holds (core_term known n t) ≡ is_between k n (term_accesses t)
      term_within n (plain.term place of (plain.number negative z)) = within_none n
      term_within n (plain.term place of (plain.truth_value b)) = within_none n
      term_within n (plain.term place of (plain.named r)) = within_none n
      term_within n (plain.term place of (plain.accessed r ts)) =
          ap (λ b. b || (k == n + terms_accesses ts)) (aimed_holds (way_of known r) (core_terms known n ts) ∙ terms_within n ts) ∙ within_last n (terms_accesses ts)
      term_within n (plain.term place of (plain.in_bank r bank at row)) = ap (λ b. b || (k == n + term_accesses row)) (term_within n row) ∙ within_last n (term_accesses row)
      term_within n (plain.term place of (plain.applied o left right)) =
          operation_holds o (kind_found left) (kind_found right) (core_term known n left) (core_term known (n + term_accesses left) right)
          ∙ (ap (λ b. b || term_holds (core_term known (n + term_accesses left) right)) (term_within n left)
          ∙ (ap (λ b. is_between k n (term_accesses left) || b) (term_within (n + term_accesses left) right) ∙ within_both n (term_accesses left) (term_accesses right)))
      term_within n (plain.term place of (plain.converted inner to)) = term_within n inner

      terms_within : (n : ℕ) (ts : plain.Terms) → terms_hold (core_terms known n ts) ≡ is_between k n (terms_accesses ts)
      terms_within n plain.no_terms = within_none n
      terms_within n (plain.term_then t ts) =
          ap (λ b. b || terms_hold (core_terms known (n + term_accesses t) ts)) (term_within n t)
          ∙ (ap (λ b. is_between k n (term_accesses t) || b) (terms_within (n + term_accesses t) ts) ∙ within_both n (term_accesses t) (terms_accesses ts))

    store_within : (n : ℕ) (target value : plain.Term) → IsTarget target
        → command_holds (store_to known (n + term_accesses value) target (core_term known n value)) ≡ is_between k n (term_accesses value + term_accesses target)
    store_within n (plain.term place of (plain.accessed r ts)) value is =
        ap (λ b. b || (target_holds (target_to (way_of known r) (core_terms known (n + term_accesses value) ts)) || (k == n + term_accesses value + terms_accesses ts))) (term_within n value)
        ∙ (ap (λ b. is_between k n (term_accesses value) || (b || (k == n + term_accesses value + terms_accesses ts)))
        (aimed_holds (way_of known r) (core_terms known (n + term_accesses value) ts) ∙ terms_within (n + term_accesses value) ts)
        ∙ (ap (λ b. is_between k n (term_accesses value) || b) (within_last (n + term_accesses value) (terms_accesses ts)) ∙ within_both n (term_accesses value) (suc (terms_accesses ts))))
    store_within n (plain.term place of (plain.in_bank r bank at row)) value is =
        ap (λ b. b || (term_holds (core_term known (n + term_accesses value) row) || (k == n + term_accesses value + term_accesses row))) (term_within n value)
        ∙ (ap (λ b. is_between k n (term_accesses value) || (b || (k == n + term_accesses value + term_accesses row))) (term_within (n + term_accesses value) row)
        ∙ (ap (λ b. is_between k n (term_accesses value) || b) (within_last (n + term_accesses value) (term_accesses row)) ∙ within_both n (term_accesses value) (suc (term_accesses row))))
    store_within n (plain.term place of (plain.number negative z)) value is = absurd is
    store_within n (plain.term place of (plain.truth_value b)) value is = absurd is
    store_within n (plain.term place of (plain.named r)) value is = absurd is
    store_within n (plain.term place of (plain.applied o l r)) value is = absurd is
    store_within n (plain.term place of (plain.converted inner to)) value is = absurd is

    -- Commands, in front of others.

    never : (o : plain.Term) (os : List plain.Term) → o ∷ os ≡ [] → ⊥
    never o os e = cc

    -- the offsets of a view, of which there are none where no variable keeps one
    view_within : (hs : List Hidden) (n : ℕ) (os : List plain.Term) (rest : CoreCommands) → KeepsAny hs os
        → commands_hold (kept_by hs (core_terms known n (terms os)) rest) ≡ (is_between k n (terms_accesses (terms os)) || commands_hold rest)
    view_within [] n [] rest is = ap (λ b. b || commands_hold rest) (within_none n)
    view_within [] n (o ∷ os) rest is = absurd (never o os is)
    view_within (h ∷ hs) n [] rest is = ap (λ b. b || commands_hold rest) (within_none n)
    view_within (h ∷ hs) n (o ∷ os) rest is = ap (λ b. b || commands_hold rest) (terms_within n (terms (o ∷ os)))

    mutual
      action_within : (n : ℕ) (a : Action) (rest : CoreCommands) → IsKeptAction known a → commands_hold (core_action known n a rest) ≡ (makes k n a || commands_hold rest)
      action_within n (action id place (lets name declared (Some value))) rest is = ap (λ b. b || commands_hold rest) (term_within n value)
      action_within n (action id place (lets name declared None)) rest is = ap (λ b. b || commands_hold rest) (within_none n)
      action_within n (action id place (assigns target value)) rest is = ap (λ b. b || commands_hold rest) (term_within n value)
      action_within n (action id place (stores target value)) rest is = ap (λ b. b || commands_hold rest) (store_within n target value is.0)
      action_within n (action id place (reduces target o value)) rest is = ap (λ b. b || commands_hold rest) (operation_holds o _ (kind_found value) _ (core_term known n value) ∙ term_within n value)
      action_within n (action id place (decides test chosen other)) rest is =
          ap (λ b. b || commands_hold rest)
          (ap (λ b. b || (commands_hold (core_action known (n + term_accesses test) chosen no_commands) || commands_hold (core_other known (n + term_accesses test + accesses_of chosen) other))) (term_within n test)
          ∙ (ap (λ b. is_between k n (term_accesses test) || (b || commands_hold (core_other known (n + term_accesses test + accesses_of chosen) other)))
          (action_within (n + term_accesses test) chosen no_commands is.1.0 ∙ sym (or_none (makes k (n + term_accesses test) chosen)))
          ∙ ap (λ b. is_between k n (term_accesses test) || (makes k (n + term_accesses test) chosen || b)) (other_within (n + term_accesses test + accesses_of chosen) other is.1.1)))
      action_within n (action id place (blocks body)) rest is = groups_within n body rest is
      action_within n (action id place (lets_memory name shape shape_places value)) rest is = refl
      action_within n (action id place (views name parent form)) rest is = view_within (hidden_in (way_of known name)) n (offsets_of form) rest is.1
      action_within n (action id place (calls function arguments)) rest is = refl
      action_within n (action id place (repeats test body)) rest is = refl
      action_within n (action id place (counts iterator declared low high factor body combine combine_place)) rest is = refl

      other_within : (n : ℕ) (other : MaybeAction) → IsKeptOther known other → commands_hold (core_other known n other) ≡ other_makes k n other
      other_within n no_action is = refl
      other_within n (one_action a) is = action_within n a no_commands is ∙ sym (or_none (makes k n a))

      part_within : (n : ℕ) (part : Actions) (rest : CoreCommands) → AreKeptActions known part → commands_hold (core_part known n part rest) ≡ (part_makes k n part || commands_hold rest)
      part_within n no_actions rest is = refl
      part_within n (action_then a behind) rest is =
          action_within n a (core_part known (n + accesses_of a) behind rest) is.0
          ∙ (ap (λ b. makes k n a || b) (part_within (n + accesses_of a) behind rest is.1) ∙ grouped (makes k n a) (part_makes k (n + accesses_of a) behind) (commands_hold rest))

      groups_within : (n : ℕ) (body : Groups) (rest : CoreCommands) → AreKeptGroups known body → commands_hold (core_groups known n body rest) ≡ (groups_make k n body || commands_hold rest)
      groups_within n no_groups rest is = refl
      groups_within n (group_then part behind) rest is =
          part_within n part (core_groups known (n + part_accesses part) behind rest) is.0
          ∙ (ap (λ b. part_makes k n part || b) (groups_within (n + part_accesses part) behind rest is.1) ∙ grouped (part_makes k n part) (groups_make k (n + part_accesses part) behind) (commands_hold rest))

    -- located commands make it where their core holds it
    pub commands_tell : (cs : List Located) → AllByRecursion (λ (c : Located). IsKeptAction known c.command) cs → commands_hold (core_commands known cs) ≡ any_makes k cs
    commands_tell [] is = refl
    commands_tell (c ∷ cs) is = action_within c.first c.command (core_commands known cs) is.0 ∙ ap (λ b. makes k c.first c.command || b) (commands_tell cs is.1)

    -- and so does a test
    test_tells_of : (n : ℕ) (a : Action) → term_holds (core_test known (record { command = a; first = n; around = record { arms = []; loops = [] } })) ≡ test_makes k (record { command = a; first = n; around = record { arms = []; loops = [] } })
    test_tells_of n (action id place (decides test chosen other)) = term_within n test
    test_tells_of n (action id place (repeats test body)) = term_within n test
    test_tells_of n (action id place (lets name declared value)) = refl
    test_tells_of n (action id place (lets_memory name shape shape_places value)) = refl
    test_tells_of n (action id place (views name parent form)) = refl
    test_tells_of n (action id place (assigns target value)) = refl
    test_tells_of n (action id place (stores target value)) = refl
    test_tells_of n (action id place (reduces target o value)) = refl
    test_tells_of n (action id place (calls function arguments)) = refl
    test_tells_of n (action id place (blocks body)) = refl
    test_tells_of n (action id place (counts iterator declared low high factor body combine combine_place)) = refl

    pub test_tells : (c : Located) → term_holds (core_test known c) ≡ test_makes k c
    test_tells c = test_tells_of c.first c.command
