-- What indices are in the first copy, and which loop has an iterator.
use Rattle.std.proofs.Common.{◌≡◌, ℕ, zero, suc, add-one, ◌+◌, ◌*◌, ◌%◌, ◌<◌, ◌≤◌, true, false, if◌then◌else◌, List, [], ◌∷◌, ◌++◌, append_assoc, length, replicate, drop, get_or, refl, ap, sym, ◌∙◌, subst, arith, ◌⊎◌, inl, inr, ℤ}
use Rattle.std.specs.Prelude.{Option, Some, None, option_map, slice_index, slice_index_or, pos, ◌+ℤ◌, unsigned_abs}
use Rattle.std.specs.List.{AllByRecursion}
use Rattle.std.proofs.lemmas.Bool.{cases_Bool, cases_lt, eqb-true}
use Rattle.std.proofs.Math.Nat.{mod-eq_of_lt}
use Rattle.std.proofs.lemmas.Nat.{mul-le}
use Rattle.std.proofs.lemmas.Int.{ints}
use Rattle.dh_tree.specs.declared.tables.Dim.{Dim}
use Rattle.dh_tree.specs.declared.tables.MemEntry.{MemEntry}
use Rattle.dh_tree.specs.declared.trees.counters.Counter.{Counter}
use Rattle.dh_tree.specs.Counters.{counter_in}
use Rattle.dh_tree.specs.Elements.{banks_of}
use Rattle.dh_tree.specs.Indices as indices
use Rattle.dh_tree.specs.Indices.{constant, iterator, dynamic}
use Rattle.dh_tree.specs.Memories.{Memory, number_in, same_entity}
use Rattle.dh_tree.specs.Shapes.{IsDim, IsMemory}
use Rattle.dh_tree.specs.Tables.{elements_of, elements_in}
use Rattle.dh_meaning.specs.Paths.{Path}
use Rattle.dh_meets.specs.Charges.{index_in, level_of_loop}
use Rattle.dh_shape.specs.Classified.{Classifies}
use Rattle.dh_shape.specs.declared.indices.IndexKind.{IndexKind}
use Rattle.dh_shape.specs.declared.indices.IndexKind.TheVariants as kinds
use Rattle.dh_ports.specs.Banks.{copy_of}
use Rattle.dh_ports.specs.Claims.{first_bank_of, bank_ports_in}
use Rattle.dh_ports.proofs.ClaimFacts.{index_first, index_last}
use Rattle.dh_events.proofs.Turns.{at_place}

absurd : {A : Type 0} → ⊥ → A
absurd e = elim e [ ]

none_added : (v : ℤ) → v ≡ pos (0 + 0) +ℤ v
none_added v = omega (arith, ints)

constant_same : (v z : ℤ) → kinds.Constant v ≡ kinds.Constant z → v ≡ z
constant_same v z e = cc

pub constant_start : (cs : List Counter) (k : indices.IndexKind) (answer : IndexKind) (v : ℤ) → Classifies cs k answer → answer ≡ kinds.Constant v → (loops : List Counter) (path : Path) → index_in loops path k ≡ unsigned_abs (pos (0 + 0) +ℤ v)
constant_start cs (constant z) (kinds.Constant u) v h e loops path = ap unsigned_abs (sym h ∙ (constant_same u v e ∙ none_added v))
constant_start cs (constant z) (kinds.Iterator entity o) v h e loops path = absurd h
constant_start cs (constant z) kinds.Dynamic v h e loops path = absurd h
constant_start cs (iterator c offset) (kinds.Constant u) v h e loops path = absurd h
constant_start cs (iterator c offset) (kinds.Iterator entity o) v h e loops path = cc
constant_start cs (iterator c offset) kinds.Dynamic v h e loops path = absurd h
constant_start cs dynamic (kinds.Constant u) v h e loops path = absurd h
constant_start cs dynamic (kinds.Iterator entity o) v h e loops path = absurd h
constant_start cs dynamic kinds.Dynamic v h e loops path = cc

pub dynamic_start : (cs : List Counter) (k : indices.IndexKind) (answer : IndexKind) → Classifies cs k answer → answer ≡ kinds.Dynamic → (loops : List Counter) (path : Path) → index_in loops path k ≡ unsigned_abs (pos (0 + 0) +ℤ pos 0)
dynamic_start cs (constant z) (kinds.Constant u) h e loops path = cc
dynamic_start cs (constant z) (kinds.Iterator entity o) h e loops path = absurd h
dynamic_start cs (constant z) kinds.Dynamic h e loops path = absurd h
dynamic_start cs (iterator c offset) (kinds.Constant u) h e loops path = absurd h
dynamic_start cs (iterator c offset) (kinds.Iterator entity o) h e loops path = cc
dynamic_start cs (iterator c offset) kinds.Dynamic h e loops path = absurd h
dynamic_start cs dynamic (kinds.Constant u) h e loops path = absurd h
dynamic_start cs dynamic (kinds.Iterator entity o) h e loops path = absurd h
dynamic_start cs dynamic kinds.Dynamic h e loops path = refl

-- a loop that is found has the entity
counter_named : (cs : List Counter) (e : ℕ) (c : Counter) → counter_in cs (Some e) ≡ Some c → c.entity ≡ Some e
counter_named [] e c f = cc
counter_named (x ∷ cs) e c f = by_test (cases_Bool (same_entity x.entity (Some e))) (counter_named cs e c)
  where
    some_same : (a b : Counter) → Some a ≡ Some b → a ≡ b
    some_same a b e = cc

    named_by : (o : Option ℕ) → same_entity o (Some e) ≡ true → o ≡ Some e
    named_by None g = cc
    named_by (Some n) g = ap (λ y. Some y) (eqb-true n e g)

    by_test : (same_entity x.entity (Some e) ≡ true) ⊎ (same_entity x.entity (Some e) ≡ false) → (counter_in cs (Some e) ≡ Some c → c.entity ≡ Some e) → c.entity ≡ Some e
    by_test (inl g) rest = ap (λ (y : Counter). y.entity) (sym (some_same x c (sym (ap (λ b. if b then Some x else counter_in cs (Some e)) g) ∙ f))) ∙ named_by x.entity g
    by_test (inr g) rest = rest (sym (ap (λ b. if b then Some x else counter_in cs (Some e)) g) ∙ f)

pub iterator_start : (cs : List Counter) (k : indices.IndexKind) (answer : IndexKind) (e : ℕ) (o : ℤ) (c : Counter) → Classifies cs k answer → answer ≡ kinds.Iterator e o → counter_in cs (Some e) ≡ Some c → (loops : List Counter) (path : Path)
    → index_in loops path k ≡ unsigned_abs (pos (c.low + copy_of loops path (Some e)) +ℤ o)
iterator_start cs (constant z) (kinds.Constant u) e o c h f g loops path = cc
iterator_start cs (constant z) (kinds.Iterator entity p) e o c h f g loops path = absurd h
iterator_start cs (constant z) kinds.Dynamic e o c h f g loops path = absurd h
iterator_start cs (iterator d offset) (kinds.Constant u) e o c h f g loops path = absurd h
iterator_start cs (iterator d offset) (kinds.Iterator entity p) e o c h f g loops path =
    let same_e : entity ≡ e = entities entity e p o f in
    let same_o : p ≡ o = offsets entity e p o f in
    let same_c : d ≡ c = some_same d c (sym h.0 ∙ (ap (λ n. counter_in cs (Some n)) same_e ∙ g)) in
    ap (λ (x : Counter). unsigned_abs (pos (x.low + slice_index_or path (level_of_loop loops x.entity) 0) +ℤ offset)) same_c
    ∙ (ap (λ n. unsigned_abs (pos (c.low + slice_index_or path (level_of_loop loops n) 0) +ℤ offset)) (counter_named cs e c g)
    ∙ ap (λ z. unsigned_abs (pos (c.low + slice_index_or path (level_of_loop loops (Some e)) 0) +ℤ z)) (sym h.1 ∙ same_o))
  where
    entities : (a b : ℕ) (p o : ℤ) → kinds.Iterator a p ≡ kinds.Iterator b o → a ≡ b
    entities a b p o e = cc

    offsets : (a b : ℕ) (p o : ℤ) → kinds.Iterator a p ≡ kinds.Iterator b o → p ≡ o
    offsets a b p o e = cc

    some_same : (a b : Counter) → Some a ≡ Some b → a ≡ b
    some_same a b e = cc
iterator_start cs (iterator d offset) kinds.Dynamic e o c h f g loops path = absurd h
iterator_start cs dynamic (kinds.Constant u) e o c h f g loops path = absurd h
iterator_start cs dynamic (kinds.Iterator entity p) e o c h f g loops path = absurd h
iterator_start cs dynamic kinds.Dynamic e o c h f g loops path = cc

-- an iterator that is none of the loops' is answered by no classification
pub no_iterator : {A : Type 0} (cs : List Counter) (k : indices.IndexKind) (answer : IndexKind) (e : ℕ) (o : ℤ) → Classifies cs k answer → answer ≡ kinds.Iterator e o → counter_in cs (Some e) ≡ None → A
no_iterator cs (constant z) (kinds.Constant u) e o h f g = absurd (apart u e o f)
  where
    apart : (u : ℤ) (e : ℕ) (o : ℤ) → kinds.Constant u ≡ kinds.Iterator e o → ⊥
    apart u e o f = cc
no_iterator cs (constant z) (kinds.Iterator entity p) e o h f g = absurd h
no_iterator cs (constant z) kinds.Dynamic e o h f g = absurd h
no_iterator cs (iterator d offset) (kinds.Constant u) e o h f g = absurd h
no_iterator cs (iterator d offset) (kinds.Iterator entity p) e o h f g = absurd (some_none d (sym h.0 ∙ (ap (λ n. counter_in cs (Some n)) (entities entity e p o f) ∙ g)))
  where
    entities : (a b : ℕ) (p o : ℤ) → kinds.Iterator a p ≡ kinds.Iterator b o → a ≡ b
    entities a b p o e = cc

    some_none : (d : Counter) → ◌≡◌ {A = Option Counter} (Some d) None → ⊥
    some_none d e = cc
no_iterator cs (iterator d offset) kinds.Dynamic e o h f g = absurd h
no_iterator cs dynamic (kinds.Constant u) e o h f g = absurd h
no_iterator cs dynamic (kinds.Iterator entity p) e o h f g = absurd h
no_iterator cs dynamic kinds.Dynamic e o h f g = absurd (apart e o f)
  where
    apart : (e : ℕ) (o : ℤ) → kinds.Dynamic ≡ kinds.Iterator e o → ⊥
    apart e o f = cc

-- no memory is nothing
pub none_number : (ms : List Memory) → number_in ms None ≡ None
none_number [] = refl
none_number (m ∷ ms) = ap (λ b. if b then Some 0 else option_map suc (number_in ms None)) (none m.name.entity) ∙ ap (option_map suc) (none_number ms)
  where
    none : (o : Option ℕ) → same_entity o None ≡ false
    none None = refl
    none (Some n) = refl

-- Levels.

pub past_end : (path : List ℕ) (n : ℕ) → length path ≡ n → slice_index_or path n 0 ≡ 0
past_end [] zero e = refl
past_end [] (suc n) e = refl
past_end (x ∷ path) zero e = absurd (some (length path) e)
  where
    some : (n : ℕ) → suc n ≡ 0 → ⊥
    some n e = omega (arith, e)
past_end (x ∷ path) (suc n) e = past_end path n (less (length path) n e)
  where
    less : (m n : ℕ) → suc m ≡ suc n → m ≡ n
    less m n e = omega (arith, e)

module _ (loops : List Counter) (e : Option ℕ) (i : ℕ) (d : Counter) (inside : i < length loops) where
  level_here : level_of_loop (drop i loops) e ≡ (if same_entity (get_or loops i d).entity e then 0 else suc (level_of_loop (drop (i + 1) loops) e))
  level_here = ap (λ l. level_of_loop l e) (at_place loops i d inside)

  pub level_found : same_entity (get_or loops i d).entity e ≡ true → i + level_of_loop (drop i loops) e ≡ i
  level_found f = ap (λ n. i + n) (level_here ∙ ap (λ b. if b then 0 else suc (level_of_loop (drop (i + 1) loops) e)) f) ∙ none i
    where
      none : (i : ℕ) → i + 0 ≡ i
      none i = omega arith

  pub level_next : same_entity (get_or loops i d).entity e ≡ false → (i + 1) + level_of_loop (drop (i + 1) loops) e ≡ i + level_of_loop (drop i loops) e
  level_next f = shift i (level_of_loop (drop (i + 1) loops) e) ∙ sym (ap (λ n. i + n) (level_here ∙ ap (λ b. if b then 0 else suc (level_of_loop (drop (i + 1) loops) e)) f))
    where
      shift : (i n : ℕ) → (i + 1) + n ≡ i + suc n
      shift i n = omega arith

pub named_tests : (o : Option ℕ) (e : ℕ) → same_entity o (Some e) ≡ true → o ≡ Some e
named_tests None e f = cc
named_tests (Some n) e f = ap (λ x. Some x) (eqb-true n e f)

-- Bases.

nothing_first : (es : List MemEntry) → first_bank_of es 0 ≡ 0
nothing_first [] = refl
nothing_first (y ∷ ys) = refl

base_more : (es : List MemEntry) (i : ℕ) (d : MemEntry) → i < length es → first_bank_of es (suc i) ≡ first_bank_of es i + banks_of (get_or es i d).shape.dims
base_more [] i d h = absurd (none i h)
  where
    none : (i : ℕ) → i < 0 → ⊥
    none i e = omega (arith, e)
base_more (x ∷ es) zero d h = only (banks_of x.shape.dims) (first_bank_of es 0) (nothing_first es)
  where
    only : (b n : ℕ) → n ≡ 0 → b + n ≡ 0 + b
    only b n e = omega (arith, e)
base_more (x ∷ es) (suc i) d h = ap (λ n. banks_of x.shape.dims + n) (base_more es i d (less i (length es) h)) ∙ grouped (banks_of x.shape.dims) (first_bank_of es i) (banks_of (get_or es i d).shape.dims)
  where
    less : (i n : ℕ) → suc i < suc n → i < n
    less i n e = omega (arith, e)

    grouped : (a b c : ℕ) → a + (b + c) ≡ (a + b) + c
    grouped a b c = omega arith

base_turn : (es : List MemEntry) (i : ℕ) (d : MemEntry) → i < length es → (base : ℕ) → base ≡ first_bank_of es i → base + banks_of (get_or es i d).shape.dims ≡ first_bank_of es (i + 1)
base_turn es i d inside base e = ap (λ n. n + banks_of (get_or es i d).shape.dims) e ∙ (sym (base_more es i d inside) ∙ ap (first_bank_of es) (sym (add-one i)))

-- a memory has no more banks than elements
banks_most : (ds : List Dim) → AllByRecursion IsDim ds → banks_of ds ≤ elements_of ds
banks_most [] h = same
  where
    same : 1 ≤ 1
    same = omega arith
banks_most (d ∷ ds) h = both d.banks (banks_of ds) d.size (elements_of ds) (divided d.size d.banks h.0.size h.0.banks h.0.divides) (banks_most ds h.1)
  where
    both : (a b c d : ℕ) → a ≤ c → b ≤ d → a * b ≤ c * d
    both a b c d e f = mul-le a b c d e f

    divided : (size banks : ℕ) → 1 ≤ size → 1 ≤ banks → size % banks ≡ 0 → banks ≤ size
    divided size banks e f g = elim (cases_lt size banks) [ inl less ↦ absurd (none size (sym (mod-eq_of_lt less) ∙ g) e) | inr more ↦ more ]
      where
        none : (n : ℕ) → n ≡ 0 → 1 ≤ n → ⊥
        none n e f = omega (arith, e, f)

pub base_most : (es : List MemEntry) (n : ℕ) → AllByRecursion IsMemory es → first_bank_of es n ≤ elements_in es
base_most [] n h = least 0
  where
    least : (n : ℕ) → 0 ≤ n
    least n = omega arith
base_most (x ∷ es) zero h = least (elements_of x.shape.dims + elements_in es)
  where
    least : (n : ℕ) → 0 ≤ n
    least n = omega arith
base_most (x ∷ es) (suc n) h = both (banks_of x.shape.dims) (first_bank_of es n) (elements_of x.shape.dims) (elements_in es) (banks_most x.shape.dims h.0.shape.dims) (base_most es n h.1)
  where
    both : (a b c d : ℕ) → a ≤ c → b ≤ d → a + b ≤ c + d
    both a b c d e f = omega (arith, e, f)

pub entry_there : (es : List MemEntry) (i : ℕ) (e : MemEntry) → i < length es → e ≡ get_or es i e → AllByRecursion IsMemory (drop i es) → IsMemory e × AllByRecursion IsMemory (drop (i + 1) es)
entry_there es i e inside is h = let r = subst (λ (l : List MemEntry). AllByRecursion IsMemory l) (at_place es i e inside) h in (subst IsMemory (sym is) r.0, r.1)

pub ports_turn : (es : List MemEntry) (i n : ℕ) (e : MemEntry) (before ports : List ℕ) → i < length es → e ≡ get_or es i e → before ++ bank_ports_in (drop i es) ≡ bank_ports_in es → n ≡ banks_of e.shape.dims → ports ≡ before ++ replicate n e.shape.ports
    → ports ++ bank_ports_in (drop (i + 1) es) ≡ bank_ports_in es
ports_turn es i n e before ports inside is h counted so =
    ap (λ l. l ++ bank_ports_in (drop (i + 1) es)) (so ∙ ap (λ m. before ++ replicate m e.shape.ports) counted)
    ∙ (append_assoc before (replicate (banks_of e.shape.dims) e.shape.ports) (bank_ports_in (drop (i + 1) es))
    ∙ (ap (λ l. before ++ bank_ports_in l) (ap (λ x. x ∷ drop (i + 1) es) is ∙ sym (at_place es i e inside)) ∙ h))

pub base_none : (es : List MemEntry) → 0 ≡ first_bank_of es 0
base_none [] = refl
base_none (e ∷ es) = refl

pub base_next : (es : List MemEntry) (i base count : ℕ) (e : MemEntry) → i < length es → e ≡ get_or es i e → base ≡ first_bank_of es i → count ≡ banks_of e.shape.dims → base + count ≡ first_bank_of es (i + 1)
base_next es i base count e inside is at counted = ap (λ n. base + n) (counted ∙ ap (λ (x : MemEntry). banks_of x.shape.dims) is) ∙ base_turn es i e inside base at

pub bases_more : (es : List MemEntry) (bases : List ℕ) (i base : ℕ) → length bases ≡ i → base ≡ first_bank_of es i → ((m : ℕ) → m < i → slice_index bases m ≡ first_bank_of es m) → (m : ℕ) → m < i + 1 → slice_index (bases ++ base ∷ []) m ≡ first_bank_of es m
bases_more es bases i base long at each m h = elim (cases_lt m i) [
  | inl less ↦ index_first bases base m (subst (λ (n : ℕ). m < n) (sym long) less) ∙ each m less
  | inr more ↦ index_last bases base m (equal m i h more ∙ sym long) ∙ (at ∙ ap (first_bank_of es) (sym (equal m i h more)))
]
  where
    equal : (m i : ℕ) → m < i + 1 → i ≤ m → m ≡ i
    equal m i e f = omega (arith, e, f)

shift_one : (n : ℕ) → suc (n + 1) ≡ suc n + 1
shift_one n = omega arith

longer : (xs : List ℕ) (x : ℕ) → length (xs ++ x ∷ []) ≡ length xs + 1
longer [] x = refl
longer (y ∷ xs) x = ap suc (longer xs x) ∙ shift_one (length xs)

pub long_more : (bases : List ℕ) (i base : ℕ) → length bases ≡ i → length (bases ++ base ∷ []) ≡ i + 1
long_more bases i base e = longer bases base ∙ ap (λ n. n + 1) e
