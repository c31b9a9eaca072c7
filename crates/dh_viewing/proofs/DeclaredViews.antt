-- Whether lists of commands declare a view, as a walk over the code's lists finds it out: what is left of a
-- part, and the parts behind it.
use Rattle.std.proofs.Common.{◌≡◌, ℕ, ◌+◌, ◌<◌, ◌≤◌, ◌||◌, ◌++◌, Bool, true, false, List, [], ◌∷◌, length, get_or, drop, map, refl, ap, sym, ◌∙◌}
use Rattle.std.specs.Prelude.{Vec}
use Rattle.std.specs.Global.{Global}
use Rattle.std.proofs.lemmas.List.{drop_all}
use Rattle.dh_base.proofs.ListItems.{at_item}
use Rattle.dh_tree.specs.declared.trees.commands.Command.{Command}
use Rattle.dh_tree.specs.Seen.{action_seen, actions, groups, part_seen}
use Rattle.dh_tree.specs.Views.{Viewing, groups_viewings, part_viewings, viewings}
use Rattle.dh_viewing.specs.Judged.{is_any}

pub any_both : (xs ys : List Viewing) → is_any (xs ++ ys) ≡ (is_any xs || is_any ys)
any_both [] ys = refl
any_both (x ∷ xs) ys = refl

-- what is left of a part, or the parts from a place on
abbrev pub all_declare : List (Vec Command Global) → ℕ → Bool
all_declare parts i = is_any (groups_viewings (groups (map part_seen (drop i parts))))

abbrev pub left_declares : List Command → ℕ → List (Vec Command Global) → ℕ → Bool
left_declares cs k parts i = is_any (part_viewings (actions (map action_seen (drop k cs)))) || all_declare parts i

pub declares_begin : (parts : List (Vec Command Global)) (i : ℕ) (p : Vec Command Global) (cs : List Command) → i < length parts → p ≡ get_or parts i p → cs ≡ p.items
    → left_declares cs 0 parts (i + 1) ≡ all_declare parts i
declares_begin parts i p cs within is same =
    ap (λ (l : List Command). is_any (part_viewings (actions (map action_seen l))) || all_declare parts (i + 1)) same
    ∙ (sym (any_both (part_viewings (part_seen p)) (groups_viewings (groups (map part_seen (drop (i + 1) parts)))))
    ∙ ap (λ l. is_any (groups_viewings (groups (map part_seen l)))) (sym (at_item parts i p within is)))

by_test : (b rest more : Bool) → b ≡ false → (rest || more) ≡ ((b || rest) || more)
by_test true rest more e = cc
by_test false rest more e = refl

by_found : (b rest more : Bool) → b ≡ true → true ≡ ((b || rest) || more)
by_found true rest more e = refl
by_found false rest more e = cc

-- a command in front of what is left
in_front : (cs : List Command) (k : ℕ) (c : Command) (more : Bool) → k < length cs → c ≡ get_or cs k c
    → ((is_any (viewings (action_seen c)) || is_any (part_viewings (actions (map action_seen (drop (k + 1) cs))))) || more)
    ≡ (is_any (part_viewings (actions (map action_seen (drop k cs)))) || more)
in_front cs k c more within is =
    ap (λ b. b || more) (sym (any_both (viewings (action_seen c)) (part_viewings (actions (map action_seen (drop (k + 1) cs))))))
    ∙ ap (λ l. is_any (part_viewings (actions (map action_seen l))) || more) (sym (at_item cs k c within is))

pub declares_next : (cs : List Command) (k : ℕ) (c : Command) (parts : List (Vec Command Global)) (i : ℕ) (found : Bool) → k < length cs → c ≡ get_or cs k c
    → found ≡ is_any (viewings (action_seen c)) → found ≡ false → left_declares cs (k + 1) parts i ≡ left_declares cs k parts i
declares_next cs k c parts i found within is told e =
    by_test (is_any (viewings (action_seen c))) (is_any (part_viewings (actions (map action_seen (drop (k + 1) cs))))) (all_declare parts i) (sym told ∙ e)
    ∙ in_front cs k c (all_declare parts i) within is

pub declares_found : (cs : List Command) (k : ℕ) (c : Command) (parts : List (Vec Command Global)) (i : ℕ) (found : Bool) → k < length cs → c ≡ get_or cs k c
    → found ≡ is_any (viewings (action_seen c)) → found ≡ true → true ≡ left_declares cs k parts i
declares_found cs k c parts i found within is told e =
    by_found (is_any (viewings (action_seen c))) (is_any (part_viewings (actions (map action_seen (drop (k + 1) cs))))) (all_declare parts i) (sym told ∙ e)
    ∙ in_front cs k c (all_declare parts i) within is

pub declares_end : (cs : List Command) (k : ℕ) (parts : List (Vec Command Global)) (i : ℕ) → length cs ≤ k → all_declare parts i ≡ left_declares cs k parts i
declares_end cs k parts i l = ap (λ (xs : List Command). is_any (part_viewings (actions (map action_seen xs))) || all_declare parts i) (sym (drop_all k cs l))

-- no view is declared
pub none_declared : (vs : List Viewing) → is_any vs ≡ false → vs ≡ []
none_declared [] e = refl
none_declared (v ∷ vs) e = cc
