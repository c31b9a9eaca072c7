-- The turns of the loops of the walk: what the rest does from here, the whole does from the start.
use Rattle.std.proofs.Common.{◌≡◌, ℕ, zero, suc, ◌+◌, ◌<◌, ◌≤◌, List, [], ◌∷◌, ◌++◌, length, drop, get_or, Option, Some, None, option_map, refl, ap, sym, ◌∙◌, subst, arith, append_assoc, append-nil}
use Rattle.std.specs.Prelude.{Vec}
use Rattle.std.specs.Global.{Global}
use Rattle.dh_base.proofs.ListItems.{at_item}
use Rattle.dh_plan.specs.declared.graphs.Decision.{Decision}
use Rattle.dh_plan.specs.declared.graphs.Graph.{Graph}
use Rattle.dh_plan.specs.declared.graphs.Group.{Group}
use Rattle.dh_plan.specs.declared.plans.Node as code
use Rattle.dh_plan.specs.SeenPlans.{node_seen, nodes_seen}
use Rattle.dh_flow.specs.declared.measuring.Entry.{Entry}
use Rattle.dh_flow.specs.declared.measuring.NodeMark.{NodeMark}
use Rattle.dh_flow.specs.Measured.{all_lists_seen}
use Rattle.dh_flow.specs.ToldWays.{ToldWay, told_rest, told_entry, told_group, group_told, decision_told}
use Rattle.dh_flow.specs.GraphWalks.{TakesUp, cut_sum, states_at, groups_at, Walks, WalksNext, WalksLists}
use Rattle.dh_flow.proofs.WalksMade.{walks_none, walks_then, no_lists_walked, lists_then}

pub record Leads (xs : List code.Node) (i own : ℕ) (way : ToldWay) (old now : List NodeMark) (g m : Graph) : Type 0 where
  pub so : (new : List NodeMark) (h : Graph) → Walks (nodes_seen (drop i xs)) own way now new m h → Walks (nodes_seen xs) own way old new g h

abbrev pub NodesLead : List code.Node → (i own : ℕ) → Decision → (old now : List NodeMark) → (g m : Graph) → Type 0
NodesLead xs i own way old now g m = Leads xs i own (decision_told way) old now g m

abbrev pub InnerLead : List code.Node → (i own : ℕ) → (old now : List NodeMark) → (g m : Graph) → Type 0
InnerLead xs i own old now g m = Leads xs i own told_rest old now g m

pub nodes_begin : (xs : List code.Node) (own : ℕ) (way : ToldWay) (old : List NodeMark) (g : Graph) → Leads xs 0 own way old old g g
nodes_begin xs own way old g = record { so = λ new h walks. walks }

pub nodes_turn : (xs : List code.Node) (i own : ℕ) (x : code.Node) (way : ToldWay) (old now mid : List NodeMark) (g m p : Graph) → i < length xs → x ≡ get_or xs i x → WalksNext (node_seen x) own way now mid m p
    → Leads xs i own way old now g m → Leads xs (i + 1) own way old mid g p
nodes_turn xs i own x way old now mid g m p within is one h =
    record { so = λ new e walks. h.so new e (subst (λ ns. Walks ns own way now new m e) (sym (ap nodes_seen (at_item xs i x within is))) (walks_then (node_seen x) (nodes_seen (drop (i + 1) xs)) own way now mid new m p e one walks)) }

past : {A : Type 0} (xs : List A) (i : ℕ) → (i < length xs → ⊥) → drop i xs ≡ []
past [] zero none = refl
past [] (suc i) none = refl
past (x ∷ xs) zero none = absurd (none (positive (length xs)))
  where
    positive : (n : ℕ) → 0 < suc n
    positive n = omega arith
past (x ∷ xs) (suc i) none = past xs i (λ less. none (more i (length xs) less))
  where
    more : (m n : ℕ) → m < n → suc m < suc n
    more m n less = omega (arith, less)

no_more : (i n : ℕ) → i < n → n ≤ i → ⊥
no_more i n less done = omega (arith, less, done)

pub nodes_end : (xs : List code.Node) (i own : ℕ) (way : ToldWay) (old now : List NodeMark) (g m : Graph) → length xs ≤ i → Leads xs i own way old now g m → Walks (nodes_seen xs) own way old now g m
nodes_end xs i own way old now g m done h = h.so now m (subst (λ ns. Walks ns own way now now m m) (ap nodes_seen (sym (past xs i (λ less. no_more i (length xs) less done)))) (walks_none own way now m))

pub record ListsLead (vs : List (Vec code.Node Global)) (i parent first own : ℕ) (way : Decision) (after : Option Decision) (old now : List NodeMark) (g m : Graph) (made : List Group) : Type 0 where
  pub so : (new : List NodeMark) (h : Graph) (more : List Group) → WalksLists (all_lists_seen (drop i vs)) parent own (option_map decision_told after) now new m h more
      → WalksLists (all_lists_seen vs) parent first (Some (decision_told way)) old new g h (made ++ more)

pub lists_begin : (vs : List (Vec code.Node Global)) (parent first own : ℕ) (way : Decision) (after : Option Decision) (old : List NodeMark) (g : Graph) (made : List Group) → own ≡ first → after ≡ Some way → made ≡ []
    → ListsLead vs 0 parent first own way after old old g g made
lists_begin vs parent first own way after old g made same is none =
    record {
      so = λ new h more walks. subst (λ o. WalksLists (all_lists_seen vs) parent first (Some (decision_told way)) old new g h (o ++ more)) (sym none)
          (subst (λ a. WalksLists (all_lists_seen vs) parent first (option_map decision_told a) old new g h more) is (subst (λ (n : ℕ). WalksLists (all_lists_seen vs) parent n (option_map decision_told after) old new g h more) same walks));
    }

pub lists_turn : (vs : List (Vec code.Node Global)) (i j parent first own own' : ℕ) (v : Vec code.Node Global) (xs : List code.Node) (way d : Decision) (after took left : Option Decision) (m : NodeMark) (one : Group) (old now mid rest : List NodeMark) (g p q : Graph) (made made' : List Group)
    → i < length vs → v ≡ get_or vs i v → xs ≡ v.items → TakesUp now mid m → decision_told d ≡ told_entry m.own.entry (states_at p) (groups_at p) told_rest → took ≡ after → left ≡ None
    → group_told one ≡ told_group (Some parent) (decision_told d) (option_map decision_told took) → made' ≡ made ++ one ∷ [] → own' ≡ cut_sum own 1 → length xs ≤ j → InnerLead xs j own mid rest p q
    → ListsLead vs i parent first own way after old now g p made → ListsLead vs (i + 1) parent first own' way left old rest g q made'
lists_turn vs i j parent first own own' v xs way d after took left m one old now mid rest g p q made made' within is xs_is takes d_is took_is left_is one_is made_is own_is done inner h = record { so = by }
  where
    by : (new : List NodeMark) (e : Graph) (more : List Group) → WalksLists (all_lists_seen (drop (i + 1) vs)) parent own' (option_map decision_told left) rest new q e more
        → WalksLists (all_lists_seen vs) parent first (Some (decision_told way)) old new g e (made' ++ more)
    by new e more walks =
        let walked : Walks (nodes_seen v.items) own told_rest mid rest p q = subst (λ l. Walks (nodes_seen l) own told_rest mid rest p q) xs_is (nodes_end xs j own told_rest mid rest p q done inner) in
        let others : WalksLists (all_lists_seen (drop (i + 1) vs)) parent own' None rest new q e more =
        subst (λ a. WalksLists (all_lists_seen (drop (i + 1) vs)) parent own' (option_map decision_told a) rest new q e more) left_is walks in
        let whole : WalksLists (all_lists_seen (drop i vs)) parent own (option_map decision_told after) now new p e (one ∷ more) =
        subst (λ l. WalksLists l parent own (option_map decision_told after) now new p e (one ∷ more)) (sym (ap all_lists_seen (at_item vs i v within is)))
        (lists_then (nodes_seen v.items) (all_lists_seen (drop (i + 1) vs)) parent own own' (option_map decision_told after) m (decision_told d) one now mid rest new p q e more takes d_is
        (one_is ∙ ap (λ a. told_group (Some parent) (decision_told d) (option_map decision_told a)) took_is) own_is walked others) in
        subst (λ o. WalksLists (all_lists_seen vs) parent first (Some (decision_told way)) old new g e o) (sym (ap (λ o. o ++ more) made_is ∙ append_assoc made (one ∷ []) more)) (h.so new e (one ∷ more) whole)

pub lists_end : (vs : List (Vec code.Node Global)) (i parent first own : ℕ) (way : Decision) (after : Option Decision) (old now : List NodeMark) (g m : Graph) (made : List Group) → length vs ≤ i
    → ListsLead vs i parent first own way after old now g m made → WalksLists (all_lists_seen vs) parent first (Some (decision_told way)) old now g m made
lists_end vs i parent first own way after old now g m made done h =
    subst (λ o. WalksLists (all_lists_seen vs) parent first (Some (decision_told way)) old now g m o) (append-nil made)
    (h.so now m [] (subst (λ ls. WalksLists ls parent own (option_map decision_told after) now now m m []) (ap all_lists_seen (sym (past vs i (λ less. no_more i (length vs) less done)))) (no_lists_walked parent own (option_map decision_told after) now m)))

-- with the way of a thread, which ends
pub turned_at_rest : (xs : List code.Node) (i own : ℕ) (x : code.Node) (t : ToldWay) (old now mid : List NodeMark) (g m p : Graph) → t ≡ told_rest → i < length xs → x ≡ get_or xs i x → WalksNext (node_seen x) own t now mid m p
    → InnerLead xs i own old now g m → InnerLead xs (i + 1) own old mid g p
turned_at_rest xs i own x t old now mid g m p is within item one h =
    nodes_turn xs i own x told_rest old now mid g m p within item (subst (λ w. WalksNext (node_seen x) own w now mid m p) is one) h

pub told_at_rest : (e : Entry) (s t a b : ℕ) (r d : ToldWay) → r ≡ told_rest → s ≡ a → t ≡ b → d ≡ told_entry e s t r → d ≡ told_entry e a b told_rest
told_at_rest e s t a b r d is ss ts d_is = d_is ∙ (ap (λ x. told_entry e s t x) is ∙ (ap (λ x. told_entry e x t told_rest) ss ∙ ap (λ x. told_entry e a x told_rest) ts))

pub told_there : (e : Entry) (s t a b : ℕ) (way d : ToldWay) → s ≡ a → t ≡ b → d ≡ told_entry e s t way → d ≡ told_entry e a b way
told_there e s t a b way d ss ts d_is = d_is ∙ (ap (λ x. told_entry e x t way) ss ∙ ap (λ x. told_entry e a x way) ts)
