-- Want of memory: where a part of a tree declares a name, the whole does, so that what the part answers holds
-- of the whole. Shared by the crates above that go over a tree in place.
use Rattle.std.proofs.Common.{◌≡◌, ℕ, zero, suc, ◌+◌, ◌<◌, List, [], ◌∷◌, length, map, get_or, Result, Ok, Err, IsErr, Vec, sym, ap, subst, ◌∙◌, arith}
use Rattle.std.specs.Global.{Global}
use Rattle.std.specs.Result.{MatchResult}
use Rattle.dh_base.specs.declared.lists.NoMemory.{NoMemory}
use Rattle.dh_tree.specs.declared.trees.commands.Command.{Command}
use Rattle.dh_tree.specs.declared.trees.commands.CommandForm.{CommandForm}
use Rattle.dh_tree.specs.PlainTrees.{ActionForm}
use Rattle.dh_tree.specs.Seen.{action_seen, action_form_seen, part_seen, actions, groups}
use Rattle.dh_tree.specs.NameCounts.{declared_in, declared_in_form, declared_in_actions, declared_in_groups}
use Rattle.dh_base.proofs.InPlace.{Unvisited}

-- what is so where memory is wanting
pub wanting : {A : Type 0} {Q R : Type 0} (P : A → Type 0) (r : Result A NoMemory) → IsErr r × R → Q → MatchResult r P (λ _. Q)
wanting P (Ok a) h q = absurd (cc h.0)
wanting P (Err e) h q = q

pub in_left : (m n : ℕ) → 0 < m → 0 < m + n
in_left m n h = omega (arith, h)

pub in_right : (m n : ℕ) → 0 < n → 0 < m + n
in_right m n h = omega (arith, h)

-- a form by what it is seen as
pub counted_as : (f g : CommandForm) (p : ActionForm) → f ≡ g → action_form_seen g ≡ p → 0 < declared_in_form p → 0 < declared_in_form (action_form_seen f)
counted_as f g p e seen h = subst (λ x. 0 < declared_in_form x) (sym (ap action_form_seen e ∙ seen)) h

some_actions : (cs : List Command) (i : ℕ) (x : Command) → i < length cs → 0 < declared_in (action_seen (get_or cs i x)) → 0 < declared_in_actions (actions (map action_seen cs))
some_actions [] i x within h = absurd (omega (arith, within))
some_actions (c ∷ cs) zero x within h = in_left _ _ h
some_actions (c ∷ cs) (suc i) x within h = in_right (declared_in (action_seen c)) _ (some_actions cs i x (omega (arith, within)) h)

some_groups : (ps : List (Vec Command Global)) (i : ℕ) (x : Vec Command Global) → i < length ps → 0 < declared_in_actions (part_seen (get_or ps i x)) → 0 < declared_in_groups (groups (map part_seen ps))
some_groups [] i x within h = absurd (omega (arith, within))
some_groups (p ∷ ps) zero x within h = in_left _ _ h
some_groups (p ∷ ps) (suc i) x within h = in_right (declared_in_actions (part_seen p)) _ (some_groups ps i x (omega (arith, within)) h)

-- the command at the index of a walk declares a name
pub some_command : (v : Vec Command Global) (before now : List Command) (i : ℕ) (x : Command) → before ≡ v.items → i < length now → Unvisited before now i → 0 < declared_in (action_seen (get_or now i x))
    → 0 < declared_in_actions (part_seen v)
some_command v before now i x value within u h =
    subst (λ l. 0 < declared_in_actions (actions (map action_seen l))) value
    (some_actions before i x (omega (arith, within, u.0)) (subst (λ z. 0 < declared_in (action_seen z)) (u.1 i x (omega arith)) h))

-- the part at the index of a walk declares a name
pub some_part : (v : Vec (Vec Command Global) Global) (before now : List (Vec Command Global)) (i : ℕ) (x : Vec Command Global) → before ≡ v.items → i < length now → Unvisited before now i
    → 0 < declared_in_actions (part_seen (get_or now i x)) → 0 < declared_in_groups (groups (map part_seen v.items))
some_part v before now i x value within u h =
    subst (λ l. 0 < declared_in_groups (groups (map part_seen l))) value
    (some_groups before i x (omega (arith, within, u.0)) (subst (λ z. 0 < declared_in_actions (part_seen z)) (u.1 i x (omega arith)) h))
