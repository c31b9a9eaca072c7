-- The least of breaches that are kept one after the other, while the code's lists are walked over. Shared by the crates
-- above that keep the least breach of a walk.
use Rattle.std.proofs.Common.{◌≡◌, ℕ, ◌+◌, ◌<◌, List, [], ◌∷◌, ◌++◌, length, get_or, drop, map, Option, refl, ap, sym, ◌∙◌}
use Rattle.std.specs.Prelude.{Vec}
use Rattle.std.specs.Global.{Global}
use Rattle.std.proofs.lemmas.List.{append_assoc}
use Rattle.dh_tree.specs.declared.breaches.Breach.{Breach}
use Rattle.dh_tree.specs.declared.trees.commands.Command.{Command}
use Rattle.dh_tree.specs.LeastBreach.{lesser, least_of}
use Rattle.dh_tree.specs.PlainTrees.{Action, Actions, Groups, action_then}
use Rattle.dh_tree.specs.Seen.{action_seen, actions, groups, part_seen}
use Rattle.dh_base.proofs.ListItems.{at_item}

pub least_append : (kept : Option Breach) (bs cs : List Breach) → least_of kept (bs ++ cs) ≡ least_of (least_of kept bs) cs
least_append kept [] cs = refl
least_append kept (b ∷ bs) cs = least_append (lesser kept b) bs cs

-- one turn of a loop that keeps the least breach of a list's items
pub keep_turn : {A B : Type 0} (see : A → B) (one : B → List Breach) (all : List B → List Breach)
    → ((b : B) (bs : List B) → all (b ∷ bs) ≡ one b ++ all bs)
    → (kept next : Option Breach) (xs : List A) (i : ℕ) (x : A) → i < length xs → x ≡ get_or xs i x → next ≡ least_of kept (one (see x))
    → least_of next (all (map see (drop (i + 1) xs))) ≡ least_of kept (all (map see (drop i xs)))
keep_turn see one all step kept next xs i x within is e =
    ap (λ k. least_of k (all (map see (drop (i + 1) xs)))) e
    ∙ (sym (least_append kept (one (see x)) (all (map see (drop (i + 1) xs))))
    ∙ (ap (λ bs. least_of kept bs) (sym (step (see x) (map see (drop (i + 1) xs))))
    ∙ ap (λ l. least_of kept (all (map see l))) (sym (at_item xs i x within is))))

-- the least of what is kept, of the rest of a part, and of the parts from a place on
abbrev pub part_rest : (Actions → List Breach) → (Groups → List Breach) → Option Breach → List Command → ℕ → List (Vec Command Global) → ℕ → Option Breach
part_rest part parts kept cs k ps i = least_of kept (part (actions (map action_seen (drop k cs))) ++ parts (groups (map part_seen (drop i ps))))

abbrev pub parts_rest : (Groups → List Breach) → Option Breach → List (Vec Command Global) → ℕ → Option Breach
parts_rest parts kept ps i = least_of kept (parts (groups (map part_seen (drop i ps))))

-- one turn of a loop over a part
pub rest_next : (one : Action → List Breach) (part : Actions → List Breach) (parts : Groups → List Breach)
    → ((a : Action) (rest : Actions) → part (action_then a rest) ≡ one a ++ part rest)
    → (kept next : Option Breach) (cs : List Command) (k : ℕ) (c : Command) (ps : List (Vec Command Global)) (i : ℕ)
    → k < length cs → c ≡ get_or cs k c → next ≡ least_of kept (one (action_seen c))
    → part_rest part parts next cs (k + 1) ps i ≡ part_rest part parts kept cs k ps i
rest_next one part parts step kept next cs k c ps i within is e =
    let own = one (action_seen c) in
    let left = part (actions (map action_seen (drop (k + 1) cs))) in
    let behind = parts (groups (map part_seen (drop i ps))) in
    ap (λ o. least_of o (left ++ behind)) e
    ∙ (sym (least_append kept own (left ++ behind))
    ∙ (ap (λ l. least_of kept l) (sym (append_assoc own left behind))
    ∙ (ap (λ l. least_of kept (l ++ behind)) (sym (step (action_seen c) (actions (map action_seen (drop (k + 1) cs)))))
    ∙ ap (λ l. least_of kept (part (actions (map action_seen l)) ++ behind)) (sym (at_item cs k c within is)))))
