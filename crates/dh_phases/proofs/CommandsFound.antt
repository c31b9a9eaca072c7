-- The command that has a number is the first of it, where commands are numbered.
use Rattle.std.proofs.Common.{◌≡◌, ◌⊎◌, inl, inr, ℕ, suc, ◌+◌, ◌<◌, ◌≤◌, ◌==◌, Bool, true, false, if◌then◌else◌, Option, Some, None, option_map, sym, ◌≢◌, refl, ap, ◌∙◌, arith}
use Rattle.std.proofs.lemmas.Bool.Decides.{nat_tests}
use denote.Ref.{Bor}
use Rattle.dh_tree.specs.declared.trees.commands.Command.{Command}
use Rattle.dh_tree.specs.declared.trees.programs.Tree.{Tree}
use Rattle.dh_tree.specs.Seen.{action_seen, program_seen}
use Rattle.dh_tree.specs.PlainTrees.{Action, action, ActionForm, lets, lets_memory, views, assigns, stores, reduces, calls, blocks, decides, repeats, counts, MaybeAction, no_action, one_action, Actions, no_actions, action_then, Groups, no_groups, group_then}
use Rattle.dh_tree.specs.Numbers.{commands_in, commands_inside, commands_in_other, commands_in_groups, commands_in_part, IsNumbered, IsNumberedInside, IsNumberedOther, AreNumberedGroups, AreNumbered}
use Rattle.dh_phases.specs.FoundCommands.{HasCommand, HoldsCommand, HoldsInside, HoldsOther, HoldInGroups, HoldInPart, found_or, first_in_command, first_in_form, first_in_other, first_in_groups, first_in_part}

-- the number of a command that is held lies in the numbers of the commands
module _ (n : ℕ) (a : Action) where
  either : (m k j : ℕ) → ((m ≤ n) × (n < m + k)) ⊎ ((m + k ≤ n) × (n < (m + k) + j)) → (m ≤ n) × (n < m + (k + j))
  either m k j (inl h) = (h.0, omega (arith, h.1))
  either m k j (inr h) = (omega (arith, h.0), omega (arith, h.1))

  mutual
    within : (m : ℕ) (b : Action) → IsNumbered m b → HoldsCommand b n a → (m ≤ n) × (n < m + commands_in b)
    within m (action id place form) i (inl h) =
        let here : id ≡ n = h.0 in
        let first : id ≡ m = i.0 in
        (omega arith, omega arith)
    within m (action id place form) i (inr h) =
        let inside = within_inside (suc m) form i.1 h in
        (omega (arith, inside.0), omega (arith, inside.1))

    within_inside : (m : ℕ) (form : ActionForm) → IsNumberedInside m form → HoldsInside form n a → (m ≤ n) × (n < m + commands_inside form)
    within_inside m (blocks body) i h = within_groups m body i h
    within_inside m (decides test chosen other) i (inl h) = either m (commands_in chosen) (commands_in_other other) (inl (within m chosen i.0 h))
    within_inside m (decides test chosen other) i (inr h) = either m (commands_in chosen) (commands_in_other other) (inr (within_other (m + commands_in chosen) other i.1 h))
    within_inside m (repeats test body) i h = within m body i h
    within_inside m (counts iterator declared low high factor body combine place) i (inl h) = either m (commands_in body) (commands_in_other combine) (inl (within m body i.0 h))
    within_inside m (counts iterator declared low high factor body combine place) i (inr h) =
        either m (commands_in body) (commands_in_other combine) (inr (within_other (m + commands_in body) combine i.1 h))
    within_inside m (lets name declared value) i h = absurd h
    within_inside m (lets_memory name shape places value) i h = absurd h
    within_inside m (views name parent form) i h = absurd h
    within_inside m (assigns target value) i h = absurd h
    within_inside m (stores target value) i h = absurd h
    within_inside m (reduces target op value) i h = absurd h
    within_inside m (calls function arguments) i h = absurd h

    within_other : (m : ℕ) (b : MaybeAction) → IsNumberedOther m b → HoldsOther b n a → (m ≤ n) × (n < m + commands_in_other b)
    within_other m no_action i h = absurd h
    within_other m (one_action b) i h = within m b i h

    within_groups : (m : ℕ) (gs : Groups) → AreNumberedGroups m gs → HoldInGroups gs n a → (m ≤ n) × (n < m + commands_in_groups gs)
    within_groups m no_groups i h = absurd h
    within_groups m (group_then part rest) i (inl h) = either m (commands_in_part part) (commands_in_groups rest) (inl (within_part m part i.0 h))
    within_groups m (group_then part rest) i (inr h) = either m (commands_in_part part) (commands_in_groups rest) (inr (within_groups (m + commands_in_part part) rest i.1 h))

    within_part : (m : ℕ) (cs : Actions) → AreNumbered m cs → HoldInPart cs n a → (m ≤ n) × (n < m + commands_in_part cs)
    within_part m no_actions i h = absurd h
    within_part m (action_then b rest) i (inl h) = either m (commands_in b) (commands_in_part rest) (inl (within m b i.0 h))
    within_part m (action_then b rest) i (inr h) = either m (commands_in b) (commands_in_part rest) (inr (within_part (m + commands_in b) rest i.1 h))

-- a command has another number, or this one
pub skipped : (n id : ℕ) (here inside r : Option Action) → id ≢ n → inside ≡ r → (if id == n then here else inside) ≡ r
skipped n id here inside r differs e = by (id == n) refl
  where
    by : (t : Bool) → (id == n) ≡ t → (if t then here else inside) ≡ r
    by true f =
        let same : id ≡ n = grind (arith, nat_tests, f) in
        absurd (differs same)
    by false f = e

taken : (n id : ℕ) (here inside r : Option Action) → id ≡ n → here ≡ r → (if id == n then here else inside) ≡ r
taken n id here inside r same e = by (id == n) refl
  where
    by : (t : Bool) → (id == n) ≡ t → (if t then here else inside) ≡ r
    by true f = e
    by false f = absurd (grind (arith, nat_tests, f, same))

-- none is found of a number behind theirs
module _ (n : ℕ) where
  both_none : (x y : Option Action) → x ≡ None → y ≡ None → found_or x y ≡ None
  both_none x y e f = ap (λ o. found_or o y) e ∙ f

  mutual
    beyond : (m : ℕ) (b : Action) → IsNumbered m b → m + commands_in b ≤ n → first_in_command n b ≡ None
    beyond m (action id place form) i past =
        let first : id ≡ m = i.0 in
        let differs : id ≢ n = omega (arith, past, first) in
        skipped n id (Some (action id place form)) (first_in_form n form) None differs (beyond_inside (suc m) form i.1 (omega (arith, past)))

    beyond_inside : (m : ℕ) (form : ActionForm) → IsNumberedInside m form → m + commands_inside form ≤ n → first_in_form n form ≡ None
    beyond_inside m (blocks body) i past = beyond_groups m body i past
    beyond_inside m (decides test chosen other) i past =
        both_none (first_in_command n chosen) (first_in_other n other) (beyond m chosen i.0 (omega (arith, past))) (beyond_other (m + commands_in chosen) other i.1 (omega (arith, past)))
    beyond_inside m (repeats test body) i past = beyond m body i past
    beyond_inside m (counts iterator declared low high factor body combine place) i past =
        both_none (first_in_command n body) (first_in_other n combine) (beyond m body i.0 (omega (arith, past))) (beyond_other (m + commands_in body) combine i.1 (omega (arith, past)))
    beyond_inside m (lets name declared value) i past = refl
    beyond_inside m (lets_memory name shape places value) i past = refl
    beyond_inside m (views name parent form) i past = refl
    beyond_inside m (assigns target value) i past = refl
    beyond_inside m (stores target value) i past = refl
    beyond_inside m (reduces target op value) i past = refl
    beyond_inside m (calls function arguments) i past = refl

    beyond_other : (m : ℕ) (b : MaybeAction) → IsNumberedOther m b → m + commands_in_other b ≤ n → first_in_other n b ≡ None
    beyond_other m no_action i past = refl
    beyond_other m (one_action b) i past = beyond m b i past

    beyond_groups : (m : ℕ) (gs : Groups) → AreNumberedGroups m gs → m + commands_in_groups gs ≤ n → first_in_groups n gs ≡ None
    beyond_groups m no_groups i past = refl
    beyond_groups m (group_then part rest) i past =
        both_none (first_in_part n part) (first_in_groups n rest) (beyond_part m part i.0 (omega (arith, past))) (beyond_groups (m + commands_in_part part) rest i.1 (omega (arith, past)))

    beyond_part : (m : ℕ) (cs : Actions) → AreNumbered m cs → m + commands_in_part cs ≤ n → first_in_part n cs ≡ None
    beyond_part m no_actions i past = refl
    beyond_part m (action_then b rest) i past =
        both_none (first_in_command n b) (first_in_part n rest) (beyond m b i.0 (omega (arith, past))) (beyond_part (m + commands_in b) rest i.1 (omega (arith, past)))

-- the one that is held is found
module _ (n : ℕ) (a : Action) where
  in_first : (x y : Option Action) → x ≡ Some a → found_or x y ≡ Some a
  in_first x y e = ap (λ o. found_or o y) e

  in_second : (x y : Option Action) → x ≡ None → y ≡ Some a → found_or x y ≡ Some a
  in_second x y e f = ap (λ o. found_or o y) e ∙ f

  mutual
    pub found : (m : ℕ) (b : Action) → IsNumbered m b → HoldsCommand b n a → first_in_command n b ≡ Some a
    found m (action id place form) i (inl h) = taken n id (Some (action id place form)) (first_in_form n form) (Some a) h.0 (ap (λ b. Some b) h.1)
    found m (action id place form) i (inr h) =
        let first : id ≡ m = i.0 in
        let inside : suc m ≤ n = (within_inside n a (suc m) form i.1 h).0 in
        let differs : id ≢ n = omega (arith, first, inside) in
        skipped n id (Some (action id place form)) (first_in_form n form) (Some a) differs (found_inside (suc m) form i.1 h)

    found_inside : (m : ℕ) (form : ActionForm) → IsNumberedInside m form → HoldsInside form n a → first_in_form n form ≡ Some a
    found_inside m (blocks body) i h = found_groups m body i h
    found_inside m (decides test chosen other) i (inl h) = in_first (first_in_command n chosen) (first_in_other n other) (found m chosen i.0 h)
    found_inside m (decides test chosen other) i (inr h) =
        in_second (first_in_command n chosen) (first_in_other n other) (beyond n m chosen i.0 (within_other n a (m + commands_in chosen) other i.1 h).0) (found_other (m + commands_in chosen) other i.1 h)
    found_inside m (repeats test body) i h = found m body i h
    found_inside m (counts iterator declared low high factor body combine place) i (inl h) = in_first (first_in_command n body) (first_in_other n combine) (found m body i.0 h)
    found_inside m (counts iterator declared low high factor body combine place) i (inr h) =
        in_second (first_in_command n body) (first_in_other n combine) (beyond n m body i.0 (within_other n a (m + commands_in body) combine i.1 h).0) (found_other (m + commands_in body) combine i.1 h)
    found_inside m (lets name declared value) i h = absurd h
    found_inside m (lets_memory name shape places value) i h = absurd h
    found_inside m (views name parent form) i h = absurd h
    found_inside m (assigns target value) i h = absurd h
    found_inside m (stores target value) i h = absurd h
    found_inside m (reduces target op value) i h = absurd h
    found_inside m (calls function arguments) i h = absurd h

    found_other : (m : ℕ) (b : MaybeAction) → IsNumberedOther m b → HoldsOther b n a → first_in_other n b ≡ Some a
    found_other m no_action i h = absurd h
    found_other m (one_action b) i h = found m b i h

    found_groups : (m : ℕ) (gs : Groups) → AreNumberedGroups m gs → HoldInGroups gs n a → first_in_groups n gs ≡ Some a
    found_groups m no_groups i h = absurd h
    found_groups m (group_then part rest) i (inl h) = in_first (first_in_part n part) (first_in_groups n rest) (found_part m part i.0 h)
    found_groups m (group_then part rest) i (inr h) =
        in_second (first_in_part n part) (first_in_groups n rest) (beyond_part n m part i.0 (within_groups n a (m + commands_in_part part) rest i.1 h).0) (found_groups (m + commands_in_part part) rest i.1 h)

    found_part : (m : ℕ) (cs : Actions) → AreNumbered m cs → HoldInPart cs n a → first_in_part n cs ≡ Some a
    found_part m no_actions i h = absurd h
    found_part m (action_then b rest) i (inl h) = in_first (first_in_command n b) (first_in_part n rest) (found m b i.0 h)
    found_part m (action_then b rest) i (inr h) =
        in_second (first_in_command n b) (first_in_part n rest) (beyond n m b i.0 (within_part n a (m + commands_in b) rest i.1 h).0) (found_part (m + commands_in b) rest i.1 h)

-- a command that was found has the number, and one is found where a command has it
pub is_found : (n : ℕ) (tree t : Tree) (r : Option (Bor Command)) (c : Bor Command) (a : Action) → r ≡ Some c → option_map (λ c. action_seen c.now) r ≡ first_in_command n (action_seen tree.body) → tree ≡ t
    → (m : ℕ) × IsNumbered m (program_seen t).body → HoldsCommand (program_seen t).body n a → action_seen c.now ≡ a
is_found n tree t r c a is e same numbers h =
    let one : Some (action_seen c.now) ≡ Some a =
    ap (λ o. option_map (λ c. action_seen c.now) o) (sym is) ∙ (e ∙ (ap (λ u. first_in_command n (action_seen u.body)) same ∙ found n a numbers.0 (program_seen t).body numbers.1 h)) in
    (cc)

pub none_found : (n : ℕ) (tree t : Tree) (r : Option (Bor Command)) → r ≡ None → option_map (λ c. action_seen c.now) r ≡ first_in_command n (action_seen tree.body) → tree ≡ t
    → (m : ℕ) × IsNumbered m (program_seen t).body → HasCommand (program_seen t).body n → ⊥
none_found n tree t r is e same numbers (a, h) =
    let one : None ≡ Some a =
    ap (λ o. option_map (λ c. action_seen c.now) o) (sym is) ∙ (e ∙ (ap (λ u. first_in_command n (action_seen u.body)) same ∙ found n a numbers.0 (program_seen t).body numbers.1 h)) in
    (cc)
