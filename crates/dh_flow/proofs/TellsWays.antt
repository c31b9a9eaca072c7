-- What is told of the way into nodes, by how they begin: the numbers of the code are those of the graph where there
-- is room for them.
use Rattle.std.proofs.Common.{◌≡◌, ℕ, zero, suc, ◌+◌, ◌-◌, ◌<◌, ◌≤◌, ◌^◌, ◌==◌, Bool, true, false, if◌then◌else◌, List, [], ◌∷◌, ◌++◌, refl, ap, sym, ◌∙◌, arith, append_assoc}
use Rattle.std.specs.Prelude.{min}
use Rattle.std.proofs.Math.Nat.{min-eq_left}
use Rattle.dh_plan.specs.PlainPlans.{Node, block_node, turns_node, loop_node, choice_node, threads_node, Nodes, no_nodes, node_then, NodeLists, no_lists, list_then}
use Rattle.dh_plan.specs.SeenGraphs.{way_count}
use Rattle.dh_ways.specs.HiddenVariables.{numbers_from}
use Rattle.dh_plan.specs.Ways.{GraphWay, to_end}
use Rattle.dh_flow.specs.declared.measuring.Entry.{Entry}
use Rattle.dh_flow.specs.declared.measuring.Entry.TheVariants.{Nothing, State, Threads}
use Rattle.dh_flow.specs.Footprints.{states_in, groups_in, node_groups, list_groups, list_count, nodes_entry, node_entry, lists_entry, entry_or, own_groups, fork_entry, cut, cut_entry}
use Rattle.dh_flow.specs.PlainFlows.{way_or, way_in_nodes, way_in_node, ways_in}
use Rattle.dh_flow.specs.ToldWays.{ToldWay, told_fork, graph_way_told, cut_numbers, told_entry}
use Rattle.dh_flow.specs.GraphWalks.{cut_sum}
use Rattle.dh_flow.proofs.PlacedLists.{Begins}

pub small : (n : ℕ) → n < 2 ^ 64 → min n (2 ^ 64 - 1) ≡ n
small n less = min-eq_left (below (2 ^ 64) n less)
  where
    below : (m n : ℕ) → n < m → n ≤ m - 1
    below m n less = omega (arith, less)

pub fits_sum : (a s : ℕ) → a + s < 2 ^ 64 → cut_sum a (cut s) ≡ a + s
fits_sum a s less = ap (λ x. min (a + x) (2 ^ 64 - 1)) (small s (part (2 ^ 64) less)) ∙ small (a + s) less
  where
    part : (m : ℕ) → a + s < m → s < m
    part m less = omega (arith, less)

-- the numbers so far and the rest
next_numbers : (n count i : ℕ) → i < count → cut_numbers n (count - i) ≡ n ∷ cut_numbers (min (n + 1) (2 ^ 64 - 1)) (count - (i + 1))
next_numbers n count i less =
    let one : count - i ≡ suc (count - (i + 1)) = omega (arith, less) in
    ap (λ m. cut_numbers n m) one

pub numbers_turn : (first count i n n' : ℕ) (old new : List ℕ) → i < count → n' ≡ min (n + 1) (2 ^ 64 - 1) → new ≡ old ++ n ∷ [] → old ++ cut_numbers n (count - i) ≡ cut_numbers first count
    → new ++ cut_numbers n' (count - (i + 1)) ≡ cut_numbers first count
numbers_turn first count i n n' old new less is put so =
    ap (λ x. x ++ cut_numbers n' (count - (i + 1))) put ∙ (append_assoc old (n ∷ []) (cut_numbers n' (count - (i + 1)))
    ∙ (ap (λ x. old ++ (n ∷ cut_numbers x (count - (i + 1)))) is ∙ (ap (λ x. old ++ x) (sym (next_numbers n count i less)) ∙ so)))

numbers_are : (first count : ℕ) → first + count < 2 ^ 64 → cut_numbers first count ≡ numbers_from first count
numbers_are first zero less = refl
numbers_are first (suc n) less =
    let next : first + 1 ≡ suc first = omega arith in
    ap (λ x. first ∷ cut_numbers x n) (small (first + 1) (part (2 ^ 64) less) ∙ next) ∙ ap (λ l. first ∷ l) (numbers_are (suc first) n (shift (2 ^ 64) less))
  where
    part : (m : ℕ) → first + suc n < m → first + 1 < m
    part m less = omega (arith, less)

    shift : (m : ℕ) → first + suc n < m → suc first + n < m
    shift m less = omega (arith, less)

count_is : (lists : NodeLists) (a g : ℕ) → way_count (ways_in lists a g) ≡ list_count lists
count_is no_lists a g = refl
count_is (list_then ns lists) a g = more (way_count (ways_in lists (a + states_in ns) (g + groups_in ns))) (list_count lists) (count_is lists (a + states_in ns) (g + groups_in ns))
  where
    more : (m n : ℕ) → m ≡ n → suc m ≡ n + 1
    more m n e = omega (arith, e)

tells_by : (e f : Entry) (x y : GraphWay) (a g : ℕ) (t : ToldWay) → (Begins e → graph_way_told x ≡ told_entry (cut_entry e) a g t) → graph_way_told y ≡ told_entry (cut_entry f) a g t → graph_way_told (way_or e x y) ≡ told_entry (cut_entry (entry_or e f)) a g t
tells_by Nothing f x y a g t one two = two
tells_by State f x y a g t one two = one tt
tells_by (Threads nested count) f x y a g t one two = one tt

any_past : (e : Entry) (a g : ℕ) (t u : ToldWay) → Begins e → told_entry (cut_entry e) a g t ≡ told_entry (cut_entry e) a g u
any_past Nothing a g t u b = absurd b
any_past State a g t u b = refl
any_past (Threads nested count) a g t u b = refl

tells_turns : (b : Bool) (e : Entry) (x : GraphWay) (a g n : ℕ) (t : ToldWay) → (g + n < 2 ^ 64 → graph_way_told x ≡ told_entry (cut_entry e) a g (graph_way_told to_end)) → g + (if b then 0 else n) < 2 ^ 64
    → Begins (if b then Nothing else e) → graph_way_told x ≡ told_entry (cut_entry (if b then Nothing else e)) a g t
tells_turns true e x a g n t so room is = absurd is
tells_turns false e x a g n t so room is = so room ∙ any_past e a g (graph_way_told to_end) t is

forks : (g nested count : ℕ) → g + (nested + count) < 2 ^ 64 → told_fork (numbers_from (g + nested) count) ≡ told_fork (cut_numbers (min (g + cut nested) (2 ^ 64 - 1)) (cut count))
forks g nested count room =
    let first = fits_sum g nested (part (2 ^ 64) room) in
    let many = small count (last (2 ^ 64) room) in
    sym (ap (λ x. told_fork (cut_numbers x (cut count))) first ∙ (ap (λ x. told_fork (cut_numbers (g + nested) x)) many ∙ ap told_fork (numbers_are (g + nested) count (whole (2 ^ 64) room))))
  where
    part : (m : ℕ) → g + (nested + count) < m → g + nested < m
    part m less = omega (arith, less)

    last : (m : ℕ) → g + (nested + count) < m → count < m
    last m less = omega (arith, less)

    whole : (m : ℕ) → g + (nested + count) < m → g + nested + count < m
    whole m less = omega (arith, less)

tells_fork : (e : Entry) (a g nested count : ℕ) (t : ToldWay) → Begins (fork_entry e nested count) → g + (nested + own_groups e count) < 2 ^ 64
    → told_fork (numbers_from (g + nested) count) ≡ told_entry (cut_entry (fork_entry e nested count)) a g t
tells_fork Nothing a g nested count t is room = absurd is
tells_fork State a g nested count t is room = forks g nested count room
tells_fork (Threads m c) a g nested count t is room = forks g nested count room

less_front : (a m n l : ℕ) → a + (m + n) < l → a + m < l
less_front a m n l e = omega (arith, e)

less_back : (a m n l : ℕ) → a + (m + n) < l → a + n < l
less_back a m n l e = omega (arith, e)

mutual
  pub tells_in : (ns : Nodes) (a g : ℕ) (w : GraphWay) → g + groups_in ns < 2 ^ 64 → graph_way_told (way_in_nodes ns a g w) ≡ told_entry (cut_entry (nodes_entry ns)) a g (graph_way_told w)
  tells_in no_nodes a g w room = refl
  tells_in (node_then n ns) a g w room =
      tells_by (node_entry n) (nodes_entry ns) (way_in_node n a g) (way_in_nodes ns a g w) a g (graph_way_told w) (λ is. tells_node n a g (graph_way_told w) is (less_front g (node_groups n) (groups_in ns) (2 ^ 64) room)) (tells_in ns a g w (less_back g (node_groups n) (groups_in ns) (2 ^ 64) room))

  tells_node : (n : Node) (a g : ℕ) (t : ToldWay) → Begins (node_entry n) → g + node_groups n < 2 ^ 64 → graph_way_told (way_in_node n a g) ≡ told_entry (cut_entry (node_entry n)) a g t
  tells_node (block_node block) a g t is room = refl
  tells_node (turns_node counter turns body) a g t is room = tells_turns (turns == 0) (nodes_entry body) (way_in_nodes body a g to_end) a g (groups_in body) t (tells_in body a g to_end) room is
  tells_node (loop_node test flag body) a g t is room = refl
  tells_node (choice_node test flag chosen other) a g t is room = refl
  tells_node (threads_node lists) a g t is room =
      ap (λ c. told_fork (numbers_from (g + list_groups lists) c)) (count_is lists a g) ∙ tells_fork (lists_entry lists) a g (list_groups lists) (list_count lists) t is room
