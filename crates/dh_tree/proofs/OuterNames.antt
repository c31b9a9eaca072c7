-- What is visible in the body of a program without functions: the memories that are declared, which are
-- the first entities. Shared by the crates above.
use Rattle.std.proofs.Common.{◌≡◌, ℕ, ◌+◌, ◌≤◌, ◌<◌, Option, Some, List, [], ◌∷◌, ◌++◌, length, refl, ap, sym, ◌∙◌, arith}
use Rattle.std.specs.Prelude.{Bool, true, false, if◌then◌else◌}
use Rattle.std.specs.List.{AllByRecursion}
use Rattle.std.specs.Str.{bytes_eq}
use Rattle.dh_tree.specs.PlainTrees.{Declared, Defined, Program}
use Rattle.dh_tree.specs.Scopes.{ScopeEntry, binding, entity_of, is_visible, bind, Item, memory_items, function_items, merged, items_of, after_items, body_scope}
use Rattle.dh_tree.specs.Forms.{unbuilt_functions}

pub no_rest : {A : Type 0} (xs ys : List A) → xs ++ ys ≡ [] → (xs ≡ []) × (ys ≡ [])
no_rest [] ys e = (refl, e)
no_rest (x ∷ xs) ys e = absurd (cc)

-- a choice that gives nothing, where the other side would give something
pub if_none : {A : Type 0} (b : Bool) (xs : List A) (y : A) (ys : List A) → (if b then xs else y ∷ ys) ≡ [] → (b ≡ true) × (xs ≡ [])
if_none true xs y ys e = (refl, e)
if_none false xs y ys e = absurd (cc)

-- the numbers of all visible names are below a number
abbrev Below : ℕ → List ScopeEntry → Type 0
Below n bs = AllByRecursion (λ b. b.entity < n) bs

either_some : (b : Bool) (e m n : ℕ) (rest : Option ℕ) → e < n → (rest ≡ Some m → m < n) → (if b then Some e else rest) ≡ Some m → m < n
either_some true e m n rest first others h = let same : e ≡ m = cc in omega (arith, same, first)
either_some false e m n rest first others h = others h

entity_below : (n : ℕ) (bs : List ScopeEntry) (name : List ℕ) (m : ℕ) → Below n bs → entity_of bs name ≡ Some m → m < n
entity_below n [] name m h e = absurd (cc)
entity_below n (b ∷ bs) name m h e = either_some (bytes_eq name b.name) b.entity m n (entity_of bs name) h.0 (λ rest. entity_below n bs name m h.1 rest) e

chosen_below : (n : ℕ) (t : Bool) (bs cs : List ScopeEntry) → Below n bs → Below n cs → Below n (if t then bs else cs)
chosen_below n true bs cs h k = h
chosen_below n false bs cs h k = k

one_more : (n : ℕ) (bs : List ScopeEntry) (name : List ℕ) (e : ℕ) → Below n bs → e < n → Below n (bs ++ binding name e ∷ [])
one_more n [] name e h k = (k, tt)
one_more n (b ∷ bs) name e h k = (h.0, one_more n bs name e h.1 k)

after_below : (n : ℕ) (bs : List ScopeEntry) (items : List Item) → Below n bs → AllByRecursion (λ i. i.entity < n) items → Below n (after_items bs items)
after_below n bs [] h k = h
after_below n bs (i ∷ items) h k =
    after_below n (bind bs i.name.name i.entity) items
    (chosen_below n (is_visible bs i.name.name) bs (bs ++ binding i.name.name i.entity ∷ []) h (one_more n bs i.name.name i.entity h k.0))
    k.1

items_below : (n first : ℕ) (ds : List Declared) → first + length ds ≤ n → AllByRecursion (λ i. i.entity < n) (memory_items first ds)
items_below n first [] h = tt
items_below n first (d ∷ ds) h = (omega (arith, h), items_below n (first + 1) ds (omega (arith, h)))

merged_none : (items : List Item) → merged items [] ≡ items
merged_none [] = refl
merged_none (i ∷ items) = refl

-- a program whose forms are all built has no functions
pub no_functions : (fs : List Defined) → unbuilt_functions fs ≡ [] → fs ≡ []
no_functions [] e = refl
no_functions (f ∷ fs) e = absurd (cc)

-- its outer names are those of the memories alone
pub items_are : (p : Program) → unbuilt_functions p.functions ≡ [] → items_of p ≡ memory_items 0 p.decls
items_are p none =
    ap (λ fs. merged (memory_items 0 p.decls) (function_items (length p.decls) fs)) (no_functions p.functions none)
    ∙ merged_none (memory_items 0 p.decls)

memories_below : (ds : List Declared) → Below (length ds) (after_items [] (memory_items 0 ds))
memories_below ds = after_below (length ds) [] (memory_items 0 ds) tt (items_below (length ds) 0 ds (omega arith))

-- each visible name is that of a memory
pub visible_declared : (p : Program) → unbuilt_functions p.functions ≡ [] → (name : List ℕ) (m : ℕ) → entity_of (body_scope p).visible name ≡ Some m → m < length p.decls
visible_declared p none name m e =
    entity_below (length p.decls) (after_items [] (memory_items 0 p.decls)) name m (memories_below p.decls)
    (ap (λ items. entity_of (after_items [] items) name) (sym (items_are p none)) ∙ e)
