-- The footprint and the marks of nodes, from those of the first and of the rest. Numbers of the code are cut at their
-- greatest, and a sum of cut numbers that is cut is the sum cut.
use Rattle.std.proofs.Common.{◌≡◌, ℕ, zero, suc, ◌+◌, ◌-◌, ◌<◌, ◌≤◌, ◌^◌, List, [], ◌∷◌, ◌++◌, length, drop, get_or, refl, ap, sym, ◌∙◌, subst, arith, append_assoc, append-nil}
use Rattle.std.specs.Prelude.{Vec, min}
use Rattle.std.specs.Global.{Global}
use Rattle.dh_base.proofs.ListItems.{at_item}
use Rattle.dh_plan.specs.declared.plans.Node as code
use Rattle.dh_plan.specs.declared.plans.Node.TheVariants as form
use Rattle.dh_plan.specs.PlainPlans.{Node, block_node, turns_node, loop_node, choice_node, threads_node, Nodes, no_nodes, node_then, list_then}
use Rattle.dh_plan.specs.SeenPlans.{node_seen, nodes_seen}
use Rattle.dh_flow.specs.declared.measuring.Entry.{Entry}
use Rattle.dh_flow.specs.declared.measuring.Entry.TheVariants.{Nothing, State, Threads}
use Rattle.dh_flow.specs.declared.measuring.Footprint.{Footprint}
use Rattle.dh_flow.specs.declared.measuring.NodeMark.{NodeMark}
use Rattle.dh_flow.specs.Footprints.{states_in, states_of, list_states, list_count, groups_in, node_groups, list_groups, nodes_entry, node_entry, lists_entry, entry_or, own_groups, fork_entry, cut, cut_entry, footprint, footprint_of, node_footprint, joined_footprint, tested_footprint, forked_by, forked_footprint, test_mark, list_mark, node_mark, told_behind, marks_of, inner_marks, lists_marks}
use Rattle.dh_flow.specs.Measured.{all_lists_seen, Measures, MeasuresIn, MeasuresLists}
use Rattle.dh_flow.proofs.NodeForms.{step_is, turns_is, choice_is, threads_is}

pub sum_cut : (a b m : ℕ) → min (min a m + min b m) m ≡ min (a + b) m
sum_cut a b m = grind arith

entry_cut : (a b : Entry) → entry_or (cut_entry a) (cut_entry b) ≡ cut_entry (entry_or a b)
entry_cut Nothing b = refl
entry_cut State b = refl
entry_cut (Threads nested count) b = refl

abbrev make : ℕ → ℕ → Entry → Footprint
make states groups entry = record { states = states; groups = groups; entry = entry }

same_footprint : (s t g h : ℕ) (e f : Entry) → s ≡ t → g ≡ h → e ≡ f → make s g e ≡ make t h f
same_footprint s t g h e f p q r = ap (λ x. make x g e) p ∙ (ap (λ x. make t x e) q ∙ ap (λ x. make t h x) r)

pub joined_cut : (s t g h : ℕ) (e f : Entry) → joined_footprint (footprint s g e) (footprint t h f) ≡ footprint (s + t) (g + h) (entry_or e f)
joined_cut s t g h e f = same_footprint _ _ _ _ _ _ (sum_cut s t (2 ^ 64 - 1)) (sum_cut g h (2 ^ 64 - 1)) (entry_cut e f)

one_cut : (s : ℕ) → min (cut s + 1) (2 ^ 64 - 1) ≡ cut (s + 1)
one_cut s = sum_cut s 1 (2 ^ 64 - 1)

pub tested_cut : (s g : ℕ) (e : Entry) → tested_footprint (footprint s g e) ≡ footprint (s + 1) g State
tested_cut s g e = same_footprint _ _ _ _ _ _ (one_cut s) refl refl

pub forked_cut : (e : Entry) (s g n count : ℕ) → count ≡ cut n → forked_by (cut_entry e) (footprint s g e) count ≡ footprint s (g + own_groups e n) (fork_entry e g n)
forked_cut Nothing s g n count is = same_footprint _ _ _ _ _ _ refl (ap cut (sym (add_zero g))) refl
  where
    add_zero : (m : ℕ) → m + 0 ≡ m
    add_zero m = omega arith
forked_cut State s g n count is =
    ap (λ c. make (cut s) (min (cut g + c) (2 ^ 64 - 1)) (Threads (cut g) c)) is ∙ same_footprint _ _ _ _ _ _ refl (sum_cut g n (2 ^ 64 - 1)) refl
forked_cut (Threads m c) s g n count is =
    ap (λ c. make (cut s) (min (cut g + c) (2 ^ 64 - 1)) (Threads (cut g) c)) is ∙ same_footprint _ _ _ _ _ _ refl (sum_cut g n (2 ^ 64 - 1)) refl

own_is : (n : Node) → (node_mark n).own ≡ node_footprint n
own_is (block_node block) = refl
own_is (turns_node counter turns body) = refl
own_is (loop_node test flag body) = refl
own_is (choice_node test flag chosen other) = refl
own_is (threads_node lists) = refl

marks_joined : (old mine inner now mid new : List NodeMark) (t u : NodeMark) → now ≡ old ++ mine → mid ≡ now ++ inner → new ≡ mid ++ t ∷ [] → t ≡ u → new ≡ old ++ (mine ++ (inner ++ u ∷ []))
marks_joined old mine inner now mid new t u e f g h =
    g ∙ (ap (λ x. x ++ t ∷ []) f ∙ (ap (λ x. (x ++ inner) ++ t ∷ []) e ∙ (ap (λ x. ((old ++ mine) ++ inner) ++ x ∷ []) h
    ∙ (append_assoc (old ++ mine) inner (u ∷ []) ∙ append_assoc old mine (inner ++ u ∷ [])))))

mark_told : (m m' : NodeMark) (e e' : Entry) → m ≡ m' → e ≡ e' → told_behind m e ≡ told_behind m' e'
mark_told m m' e e' p q = ap (λ x. told_behind x e) p ∙ ap (λ x. told_behind m' x) q

measures_then : (n : Node) (ns : Nodes) (old now mid new : List NodeMark) (whole e : Footprint) (m : NodeMark)
    → MeasuresIn n now mid m → new ≡ mid ++ told_behind m whole.entry ∷ [] → e ≡ joined_footprint m.own whole → Measures ns old now whole → Measures (node_then n ns) old new e
measures_then n ns old now mid new whole e m inside left is h =
    record {
      footprints = is ∙ (ap (λ x. joined_footprint x whole) (ap (λ (x : NodeMark). x.own) inside.mark ∙ own_is n) ∙ (ap (λ x. joined_footprint (node_footprint n) x) h.footprints
          ∙ joined_cut (states_of n) (states_in ns) (node_groups n) (groups_in ns) (node_entry n) (nodes_entry ns)));
      marks = marks_joined old (marks_of ns) (inner_marks n) now mid new (told_behind m whole.entry) (told_behind (node_mark n) (cut_entry (nodes_entry ns))) h.marks inside.marks left
          (mark_told m (node_mark n) whole.entry (cut_entry (nodes_entry ns)) inside.mark (ap (λ (x : Footprint). x.entry) h.footprints));
    }

back : (i : ℕ) → 0 < i → i - 1 + 1 ≡ i
back i some = omega (arith, some)

nodes_at : (xs : List code.Node) (i : ℕ) (x : code.Node) → 0 < i → i ≤ length xs → x ≡ get_or xs (i - 1) x → nodes_seen (drop (i - 1) xs) ≡ node_then (node_seen x) (nodes_seen (drop i xs))
nodes_at xs i x some within is = ap nodes_seen (at_item xs (i - 1) x (omega (arith, some, within)) is) ∙ ap (λ n. node_then (node_seen x) (nodes_seen (drop n xs))) (back i some)

pub measures_none : (xs : List code.Node) (i : ℕ) (old : List NodeMark) (e : Footprint) → i ≡ length xs → e ≡ footprint_of no_nodes → Measures (nodes_seen (drop i xs)) old old e
measures_none xs i old e all is =
    subst (λ ns. Measures ns old old e) (ap nodes_seen (sym (drop_whole xs i all))) (record { footprints = is; marks = sym (append-nil old) })
  where
    drop_whole : {A : Type 0} (xs : List A) (i : ℕ) → i ≡ length xs → drop i xs ≡ []
    drop_whole [] zero e = refl
    drop_whole [] (suc i) e = refl
    drop_whole (x ∷ xs) zero e = absurd (none (length xs) e)
      where
        none : (n : ℕ) → 0 ≡ suc n → ⊥
        none n e = omega (arith, e)
    drop_whole (x ∷ xs) (suc i) e = drop_whole xs i (less i (length xs) e)
      where
        less : (m n : ℕ) → suc m ≡ suc n → m ≡ n
        less m n e = omega (arith, e)

pub measures_turn : (xs : List code.Node) (i : ℕ) (x : code.Node) (old now mid new : List NodeMark) (whole e : Footprint) (m : NodeMark) → 0 < i → i ≤ length xs → x ≡ get_or xs (i - 1) x
    → MeasuresIn (node_seen x) now mid m → new ≡ mid ++ told_behind m whole.entry ∷ [] → e ≡ joined_footprint m.own whole → Measures (nodes_seen (drop i xs)) old now whole → Measures (nodes_seen (drop (i - 1) xs)) old new e
measures_turn xs i x old now mid new whole e m some within at inside left is h =
    subst (λ ns. Measures ns old new e) (sym (nodes_at xs i x some within at)) (measures_then (node_seen x) (nodes_seen (drop i xs)) old now mid new whole e m inside left is h)

pub drop_none : {A : Type 0} (xs : List A) (i : ℕ) → (0 < i → ⊥) → drop i xs ≡ xs
drop_none [] zero none = refl
drop_none (x ∷ xs) zero none = refl
drop_none xs (suc i) none = absurd (none (omega arith))

-- The forms of nodes.

pub step_inside : (node : code.Node) (block : ℕ) (b t : Footprint) (m : NodeMark) (old : List NodeMark) → node ≡ form.Step block → b ≡ footprint_of no_nodes → t ≡ tested_footprint b → m ≡ list_mark t → MeasuresIn (node_seen node) old old m
step_inside node block b t m old is b_is t_is m_is =
    subst (λ n. MeasuresIn n old old m) (sym (ap node_seen is ∙ step_is block))
    (record { mark = m_is ∙ ap list_mark (t_is ∙ (ap tested_footprint b_is ∙ tested_cut 0 0 Nothing)); marks = sym (append-nil old) })

pub none_inside : (node : code.Node) (counter count : ℕ) (body : Vec code.Node Global) (b : Footprint) (m : NodeMark) (old : List NodeMark) → node ≡ form.Turns counter count body → count ≡ 0 → b ≡ footprint_of no_nodes → m ≡ list_mark b
    → MeasuresIn (node_seen node) old old m
none_inside node counter count body b m old is none b_is m_is =
    subst (λ n. MeasuresIn n old old m) (sym (ap node_seen is ∙ (turns_is counter count body ∙ ap (λ c. turns_node counter c (nodes_seen body.items)) none)))
    (record { mark = m_is ∙ ap list_mark b_is; marks = sym (append-nil old) })

pub choice_inside : (node : code.Node) (test flag : ℕ) (chosen other : Vec code.Node Global) (xs ys : List code.Node) (e f : Footprint) (m : NodeMark) (old mid new : List NodeMark) → node ≡ form.Choice test flag chosen other
    → xs ≡ chosen.items → ys ≡ other.items → Measures (nodes_seen ys) old mid f → Measures (nodes_seen xs) mid new e → m ≡ test_mark (tested_footprint (joined_footprint e f)) e f.entry → MeasuresIn (node_seen node) old new m
choice_inside node test flag chosen other xs ys e f m old mid new is xs_is ys_is second first m_is =
    let a = nodes_seen xs in
    let b = nodes_seen ys in
    let seen : node_seen node ≡ choice_node test flag a b =
    ap node_seen is ∙ (choice_is test flag chosen other ∙ (ap (λ x. choice_node test flag (nodes_seen x) (nodes_seen other.items)) (sym xs_is) ∙ ap (λ y. choice_node test flag a (nodes_seen y)) (sym ys_is))) in
    let own : tested_footprint (joined_footprint (footprint_of a) (footprint_of b)) ≡ node_footprint (choice_node test flag a b) =
    ap tested_footprint (joined_cut (states_in a) (states_in b) (groups_in a) (groups_in b) (nodes_entry a) (nodes_entry b)) ∙ tested_cut (states_in a + states_in b) (groups_in a + groups_in b) (entry_or (nodes_entry a) (nodes_entry b)) in
    let marked : m ≡ node_mark (choice_node test flag a b) =
    m_is ∙ (ap (λ x. test_mark (tested_footprint (joined_footprint x f)) x f.entry) first.footprints ∙ (ap (λ y. test_mark (tested_footprint (joined_footprint (footprint_of a) y)) (footprint_of a) y.entry) second.footprints
    ∙ ap (λ o. test_mark o (footprint_of a) (cut_entry (nodes_entry b))) own)) in
    subst (λ n. MeasuresIn n old new m) (sym seen)
    (record { mark = marked; marks = first.marks ∙ (ap (λ x. x ++ marks_of a) second.marks ∙ append_assoc old (marks_of b) (marks_of a)) })

lists_counted : (vs : List (Vec code.Node Global)) → list_count (all_lists_seen vs) ≡ length vs
lists_counted [] = refl
lists_counted (v ∷ vs) = more (list_count (all_lists_seen vs)) (length vs) (lists_counted vs)
  where
    more : (m n : ℕ) → m ≡ n → m + 1 ≡ suc n
    more m n e = omega (arith, e)

pub threads_inside : (node : code.Node) (lists : Vec (Vec code.Node Global) Global) (vs : List (Vec code.Node Global)) (e f : Footprint) (count : ℕ) (m : NodeMark) (old new : List NodeMark) → node ≡ form.Threads lists
    → vs ≡ lists.items → MeasuresLists (all_lists_seen vs) old new e → count ≡ cut (length vs) → f ≡ forked_footprint e count → m ≡ list_mark f → MeasuresIn (node_seen node) old new m
threads_inside node lists vs e f count m old new is vs_is measured counted f_is m_is =
    let ls = all_lists_seen vs in
    let own : f ≡ node_footprint (threads_node ls) =
    f_is ∙ (ap (λ x. forked_footprint x count) measured.footprints
    ∙ forked_cut (lists_entry ls) (list_states ls) (list_groups ls) (list_count ls) count (counted ∙ ap cut (sym (lists_counted vs)))) in
    subst (λ n. MeasuresIn n old new m) (sym (ap node_seen is ∙ (threads_is lists ∙ ap (λ x. threads_node (all_lists_seen x)) (sym vs_is))))
    (record { mark = m_is ∙ ap list_mark own; marks = measured.marks })

none_below : (j : ℕ) → 0 < j → j ≤ 0 → ⊥
none_below j less done = omega (arith, less, done)

lists_at : (vs : List (Vec code.Node Global)) (i : ℕ) (v : Vec code.Node Global) → 0 < i → i ≤ length vs → v ≡ get_or vs (i - 1) v → all_lists_seen (drop (i - 1) vs) ≡ list_then (nodes_seen v.items) (all_lists_seen (drop i vs))
lists_at vs i v some within is = ap all_lists_seen (at_item vs (i - 1) v (omega (arith, some, within)) is) ∙ ap (λ n. list_then (nodes_seen v.items) (all_lists_seen (drop n vs))) (back i some)

pub lists_turn : (vs : List (Vec code.Node Global)) (i j : ℕ) (v : Vec code.Node Global) (xs : List code.Node) (old now mid new : List NodeMark) (whole one e : Footprint) (m : NodeMark) → 0 < i → i ≤ length vs → v ≡ get_or vs (i - 1) v
    → xs ≡ v.items → j ≤ 0 → Measures (nodes_seen (drop j xs)) now mid one → m ≡ list_mark one → new ≡ mid ++ told_behind m whole.entry ∷ [] → e ≡ joined_footprint m.own whole
    → MeasuresLists (all_lists_seen (drop i vs)) old now whole → MeasuresLists (all_lists_seen (drop (i - 1) vs)) old new e
lists_turn vs i j v xs old now mid new whole one e m some within at xs_is done inner m_is left is h =
    let ns = nodes_seen v.items in
    let ls = all_lists_seen (drop i vs) in
    let all : nodes_seen (drop j xs) ≡ ns = ap nodes_seen (drop_none xs j (λ less. none_below j less done) ∙ xs_is) in
    let measured : Measures ns now mid one = subst (λ n. Measures n now mid one) all inner in
    let m_as : m ≡ list_mark (footprint_of ns) = m_is ∙ ap list_mark measured.footprints in
    subst (λ l. MeasuresLists l old new e) (sym (lists_at vs i v some within at)) (record {
      footprints = is ∙ (ap (λ (x : NodeMark). joined_footprint x.own whole) m_as ∙ (ap (λ x. joined_footprint (footprint_of ns) x) h.footprints
          ∙ joined_cut (states_in ns) (list_states ls) (groups_in ns) (list_groups ls) (nodes_entry ns) (lists_entry ls)));
      marks = marks_joined old (lists_marks ls) (marks_of ns) now mid new (told_behind m whole.entry) (told_behind (list_mark (footprint_of ns)) (cut_entry (lists_entry ls))) h.marks measured.marks left
          (mark_told m (list_mark (footprint_of ns)) whole.entry (cut_entry (lists_entry ls)) m_as (ap (λ (x : Footprint). x.entry) h.footprints));
    })
