-- Each block that begins is named by one node, in what the calls that make nodes give.
use Rattle.std.proofs.Common.{◌≡◌, ℕ, zero, suc, ◌+◌, ◌<◌, ◌==◌, Bool, true, false, List, [], ◌∷◌, ◌++◌, length, refl, ap, sym, ◌∙◌, subst, append-nil, append_assoc, zero-add, arith}
use Rattle.std.specs.Prelude.{if◌then◌else◌}
use Rattle.std.proofs.lemmas.Bool.Decides.{nat_tests}
use Rattle.std.proofs.lemmas.List.{length-append}
use Rattle.dh_plan.specs.declared.plans.Node as declared
use Rattle.dh_plan.specs.PlainPlans.{Node, Nodes}
use Rattle.dh_plan.specs.SeenPlans.{node_seen, nodes_seen}
use Rattle.dh_plan.specs.SoundPlans.{blocks_of, node_blocks}
use Rattle.dh_gathering.specs.declared.blocks.Made.{Made}
use Rattle.dh_gathering.specs.Gathered.{EndsBlock}
use Rattle.dh_gathering.specs.NamedOnce.{NamesOnce, times_begun, times_begun_in, listed}

-- Numbers that lists have, by their parts.

listed_append : (b : ℕ) (xs ys : List ℕ) → listed b (xs ++ ys) ≡ listed b xs + listed b ys
listed_append b [] ys = sym (zero-add (listed b ys))
listed_append b (x ∷ xs) ys = let i = listed_append b xs ys in by (if b == x then 1 else 0) (listed b (xs ++ ys)) (listed b xs) (listed b ys) i
  where
    by : (one all front back : ℕ) → all ≡ front + back → one + all ≡ one + front + back
    by one all front back e = omega (arith, e)

begun_all : (b : ℕ) → times_begun b b ≡ 0
begun_all zero = refl
begun_all (suc b) = begun_all b

begun_next : (b : ℕ) → times_begun b (suc b) ≡ 1
begun_next zero = refl
begun_next (suc b) = begun_next b

begun_other : (b n : ℕ) → (b ≡ n → ⊥) → times_begun b (suc n) ≡ times_begun b n
begun_other zero zero e = absurd (e refl)
begun_other zero (suc n) e = refl
begun_other (suc b) zero e = refl
begun_other (suc b) (suc n) e = begun_other b n (λ i. e (ap suc i))

begun_one : (b n : ℕ) → times_begun b (suc n) ≡ (if b == n then 1 else 0) + times_begun b n
begun_one b n = by (b == n) refl
  where
    same : (b == n) ≡ true → b ≡ n
    same e = grind (arith, nat_tests, e)

    other : (b == n) ≡ false → b ≡ n → ⊥
    other e i = grind (arith, nat_tests, e, i)

    by : (t : Bool) → (b == n) ≡ t → times_begun b (suc n) ≡ (if t then 1 else 0) + times_begun b n
    by true e = subst (λ (m : ℕ). times_begun b (suc m) ≡ 1 + times_begun b m) (same e) (begun_next b ∙ ap (λ (m : ℕ). 1 + m) (sym (begun_all b)))
    by false e = begun_other b n (other e) ∙ sym (zero-add (times_begun b n))

pub begun_within : (b n : ℕ) → b < n → times_begun b n ≡ 1
begun_within b zero l = absurd (omega (arith, l))
begun_within zero (suc n) l = refl
begun_within (suc b) (suc n) l = begun_within b n (omega (arith, l))

-- What begins.

pub once_then : (old mid new : Made) (xs ys : List ℕ) → NamesOnce old mid xs → NamesOnce mid new ys → NamesOnce old new (xs ++ ys)
once_then old mid new xs ys h k b =
    by (listed b xs) (listed b ys) (listed b (xs ++ ys)) (times_begun_in old b) (times_begun_in mid b) (times_begun_in new b) (listed_append b xs ys) (h b) (k b)
  where
    by : (x y xy o m n : ℕ) → xy ≡ x + y → x + o ≡ m → y + m ≡ n → xy + o ≡ n
    by x y xy o m n d e f = omega (arith, d, e, f)

-- a block
pub once_ended : (old mid new : Made) (start block : ℕ) → mid.starts ≡ old.starts → EndsBlock mid new start block → NamesOnce old new (block ∷ [])
once_ended old mid new start block same ends b =
    by (if b == block then 1 else 0) (times_begun_in old b) (times_begun_in new b)
    (ap (λ (l : ℕ). times_begun b l) longer ∙ (begun_one b (length old.starts.items) ∙ ap (λ (l : ℕ). (if b == l then 1 else 0) + times_begun b (length old.starts.items)) (sym number)))
  where
    number : block ≡ length old.starts.items
    number = ends.number_is ∙ ap (λ s. length s.items) same

    next : (n : ℕ) → n + 1 ≡ suc n
    next n = omega arith

    longer : length new.starts.items ≡ suc (length old.starts.items)
    longer = ap (λ (l : List ℕ). length l) ends.starts ∙ (length-append mid.starts.items (start ∷ []) ∙ (next (length mid.starts.items) ∙ ap (λ s. suc (length s.items)) same))

    by : (one o n : ℕ) → n ≡ one + o → one + 0 + o ≡ n
    by one o n e = omega (arith, e)

-- a node as it is seen
pub once_seen : (old new : Made) (seen node : Node) → seen ≡ node → NamesOnce old new (node_blocks node) → NamesOnce old new (node_blocks seen)
once_seen old new seen node is h = subst (λ (n : Node). NamesOnce old new (node_blocks n)) (sym is) h

-- Nodes one after the other.

blocks_more : (ns : List declared.Node) (n : declared.Node) → blocks_of (nodes_seen (ns ++ n ∷ [])) ≡ blocks_of (nodes_seen ns) ++ node_blocks (node_seen n)
blocks_more [] n = append-nil (node_blocks (node_seen n))
blocks_more (m ∷ ns) n = ap (λ (l : List ℕ). node_blocks (node_seen m) ++ l) (blocks_more ns n) ∙ sym (append_assoc (node_blocks (node_seen m)) (blocks_of (nodes_seen ns)) (node_blocks (node_seen n)))

pub once_begin : (m : Made) (nodes : List declared.Node) → nodes ≡ [] → NamesOnce m m (blocks_of (nodes_seen nodes))
once_begin m nodes none b = ap (λ (ns : List declared.Node). listed b (blocks_of (nodes_seen ns)) + times_begun_in m b) none ∙ zero-add (times_begun_in m b)

pub once_turn : (old now new : Made) (nodes more : List declared.Node) (node : declared.Node) → more ≡ nodes ++ node ∷ [] → NamesOnce now new (node_blocks (node_seen node)) → NamesOnce old now (blocks_of (nodes_seen nodes))
    → NamesOnce old new (blocks_of (nodes_seen more))
once_turn old now new nodes more node pushed makes h =
    subst (λ (l : List ℕ). NamesOnce old new l) (sym (ap (λ (ns : List declared.Node). blocks_of (nodes_seen ns)) pushed ∙ blocks_more nodes node))
    (once_then old now new (blocks_of (nodes_seen nodes)) (node_blocks (node_seen node)) h makes)

-- All nodes of a program: from no block on.
pub once_each : (old new : Made) (nodes : Nodes) → old.starts.items ≡ [] → NamesOnce old new (blocks_of nodes) → (block : ℕ) → block < length new.starts.items → listed block (blocks_of nodes) ≡ 1
once_each old new nodes none h block within =
    let e = ap (λ (l : List ℕ). times_begun block (length l)) none in
    let i = begun_within block (length new.starts.items) within in
    by (listed block (blocks_of nodes)) (times_begun_in old block) (times_begun_in new block) (h block) e i
  where
    by : (l o n : ℕ) → l + o ≡ n → o ≡ 0 → n ≡ 1 → l ≡ 1
    by l o n d e f = omega (arith, d, e, f)
