-- Memories from outside and functions in text order, and their entities.
use Rattle.std.proofs.Common.{◌≡◌, ℕ, ◌+◌, ◌<◌, ◌≤◌, true, false, List, [], ◌∷◌, length, map, drop, get_or, Vec, Option, None, refl, sym, ap, subst, ◌∙◌, arith, if◌then◌else◌, add-one}
use Rattle.std.specs.Global.{Global}
use Rattle.std.specs.Vec.{with_items}
use Rattle.std.proofs.Math.Seq.{drop-cons}
use Rattle.std.proofs.lemmas.List.{length-drop}
use Rattle.std.specs.Option.{is_some}
use Rattle.dh_base.specs.declared.rules.Rule.TheVariants.{NameTwice}
use Rattle.dh_tree.specs.declared.breaches.Breach.{Breach}
use Rattle.dh_tree.specs.declared.trees.expressions.Ref.{Ref}
use Rattle.dh_tree.specs.declared.trees.programs.Decl.{Decl}
use Rattle.dh_tree.specs.declared.trees.programs.Function.{Function}
use Rattle.dh_tree.specs.PlainTrees.{Declared}
use Rattle.dh_tree.specs.Seen.{declared_seen, defined_seen}
use Rattle.dh_tree.specs.LeastBreach.{breach, least_of}
use Rattle.dh_tree.specs.Scopes.{ScopeEntry, entity_of, bind, Item, memory_items, function_items, merged}
use Rattle.dh_tree.specs.Breaches.{twice}
use Rattle.dh_tree.specs.Resolved.{numbered, resolved_decls}
use Rattle.dh_names.specs.Programs.{is_function_next, left, AreLeft, BindsNext, LacksNext}
use Rattle.dh_base.proofs.InPlace.{Unvisited, made, SoFar, finish, written}

abbrev pub decl_step : ℕ → Declared → ℕ
decl_step n d = n + 1

abbrev pub decl_made : ℕ → Declared → Declared
decl_made n d = record { name = numbered n d.name; shape = d.shape; shape_places = d.shape_places }

pub decls_made : (n : ℕ) (ds : List Declared) → made declared_seen decl_step decl_made n ds ≡ resolved_decls n ds
decls_made n [] = refl
decls_made n (d ∷ ds) = ap (λ l. decl_made n d ∷ l) (decls_made (n + 1) ds)

pub decls_done : (v : Vec Decl Global) (before now : List Decl) (index n : ℕ) → before ≡ v.items → length before ≡ v.len → length before ≤ index → Unvisited before now index → SoFar declared_seen decl_step decl_made before now index 0 n
    → map declared_seen (with_items v now).items ≡ resolved_decls 0 (map declared_seen v.items)
decls_done v before now index n is long past u so =
    ap (λ l. map declared_seen l) (written v.items now v.len (u.0 ∙ ap (λ l. length l) is) (sym (ap (λ l. length l) is) ∙ long))
    ∙ (finish declared_seen decl_step decl_made before now index 0 n (omega (arith, past, u.0)) u so).0
    ∙ decls_made 0 (map declared_seen before)
    ∙ ap (λ l. resolved_decls 0 (map declared_seen l)) is

-- what is left of memories and functions, as items
abbrev rest_of : ℕ → List Decl → ℕ → List Function → List Item
rest_of m ds k fs = merged (memory_items m (map declared_seen ds)) (function_items k (map defined_seen fs))

abbrev memory_item : ℕ → Decl → Item
memory_item m d = record { name = d.name; entity = m }

abbrev function_item : ℕ → Function → Item
function_item k f = record { name = f.name; entity = k }

function_goes : (m : ℕ) (ds : List Decl) (k : ℕ) (f : Function) (fs : List Function) → is_function_next (map declared_seen ds) (map defined_seen (f ∷ fs)) ≡ true
    → rest_of m ds k (f ∷ fs) ≡ function_item k f ∷ rest_of m ds (k + 1) fs
function_goes m [] k f fs e = refl
function_goes m (d ∷ ds) k f fs e = ap (λ b. if b then function_item k f ∷ rest_of m (d ∷ ds) (k + 1) fs else memory_item m d ∷ rest_of (m + 1) ds k (f ∷ fs)) e

memory_goes : (m : ℕ) (d : Decl) (ds : List Decl) (k : ℕ) (fs : List Function) → is_function_next (map declared_seen (d ∷ ds)) (map defined_seen fs) ≡ false
    → rest_of m (d ∷ ds) k fs ≡ memory_item m d ∷ rest_of (m + 1) ds k fs
memory_goes m d ds k [] e = ap (λ l. memory_item m d ∷ l) (sym (none_left (m + 1) ds k))
  where
    none_left : (m : ℕ) (ds : List Decl) (k : ℕ) → rest_of m ds k [] ≡ memory_items m (map declared_seen ds)
    none_left m [] k = refl
    none_left m (d ∷ ds) k = refl
memory_goes m d ds k (f ∷ fs) e = ap (λ b. if b then function_item k f ∷ rest_of m (d ∷ ds) (k + 1) fs else memory_item m d ∷ rest_of (m + 1) ds k (f ∷ fs)) e

-- no function is next after the last one, and none is not next where no memory is left
some_function : (ds : List Decl) (fs : List Function) → is_function_next (map declared_seen ds) (map defined_seen fs) ≡ true → 0 < length fs
some_function ds [] e = absurd (clash e)
  where
    clash : false ≡ true → ⊥
    clash x = cc
some_function ds (f ∷ fs) e = omega arith

some_memory : (ds : List Decl) (fs : List Function) → is_function_next (map declared_seen ds) (map defined_seen fs) ≡ false → 0 < length ds + length fs → 0 < length ds
some_memory [] [] e some = some
some_memory [] (f ∷ fs) e some = absurd (clash e)
  where
    clash : true ≡ false → ⊥
    clash x = cc
some_memory (d ∷ ds) fs e some = omega arith

at_next : {C : Type 0} (xs : List C) (i : ℕ) (d : C) → i < length xs → drop i xs ≡ get_or xs i d ∷ drop (i + 1) xs
at_next xs i d within = drop-cons xs i d within ∙ ap (λ n. get_or xs i d ∷ drop n xs) (sym (add-one i))

add_assoc : (a b c : ℕ) → a + b + c ≡ a + (b + c)
add_assoc a b c = omega arith

module _ (decls : List Decl) (functions : List Function) (old : List ScopeEntry) (old_least : Option Breach) (m k : ℕ) where
  pub function_within : AreLeft decls functions (m, k) → is_function_next (map declared_seen (drop m decls)) (map defined_seen (drop k functions)) ≡ true → k < length functions
  function_within a test =
      let some = some_function (drop m decls) (drop k functions) test in
      let e = length-drop k functions in omega (arith, some, e)

  pub memory_within : AreLeft decls functions (m, k) → is_function_next (map declared_seen (drop m decls)) (map defined_seen (drop k functions)) ≡ false → m < length decls
  memory_within a test =
      let e = length-drop k functions in
      let g = length-drop m decls in
      let some = some_memory (drop m decls) (drop k functions) test (omega (arith, a.some, a.memories, a.functions_done, e, g)) in
      omega (arith, some, g)

  pub function_next : (new : List ScopeEntry) (new_least : Option Breach) → AreLeft decls functions (m, k) → (d : Function) → is_function_next (map declared_seen (drop m decls)) (map defined_seen (drop k functions)) ≡ true
      → new ≡ bind old (get_or functions k d).name.name (length decls + k) → new_least ≡ least_of old_least (twice old (get_or functions k d).name)
      → BindsNext decls functions old old_least (m, k) new new_least (m, k + 1)
  function_next new new_least a d test bound least =
      let within = function_within a test in
      let f = get_or functions k d in
      let rest : drop k functions ≡ f ∷ drop (k + 1) functions = at_next functions k d within in
      let test' = subst (λ l. is_function_next (map declared_seen (drop m decls)) (map defined_seen l) ≡ true) rest test in
      record {
        item = function_item (length decls + k) f;
        next = ap (λ l. rest_of m (drop m decls) (length decls + k) l) rest ∙ function_goes m (drop m decls) (length decls + k) f (drop (k + 1) functions) test'
            ∙ ap (λ n. function_item (length decls + k) f ∷ rest_of m (drop m decls) n (drop (k + 1) functions)) (add_assoc (length decls) k 1);
        bound = bound;
        least = least;
        counted = omega arith;
        memories = a.memories;
        functions_done = omega (arith, within);
      }

  none_twice : (r : Ref) → entity_of old r.name ≡ None → least_of old_least (twice old r) ≡ old_least
  none_twice r none = ap (λ o. least_of old_least (if is_some o then breach NameTwice r.place ∷ [] else [])) none

  pub function_lacks : (new : List ScopeEntry) (new_least : Option Breach) → AreLeft decls functions (m, k) → (d : Function) → is_function_next (map declared_seen (drop m decls)) (map defined_seen (drop k functions)) ≡ true
      → entity_of old (get_or functions k d).name.name ≡ None → new ≡ old → new_least ≡ least_of old_least (twice old (get_or functions k d).name)
      → LacksNext decls functions old old_least (m, k) new new_least
  unfolding function_next
  function_lacks new new_least a d test none same least =
      let n = function_next _ _ a d test refl refl in
      record { item = n.item; more = left decls functions (m, k + 1); next = n.next; unbound = none; visible = same; least = least ∙ none_twice (get_or functions k d).name none }

  pub memory_next : (new : List ScopeEntry) (new_least : Option Breach) → AreLeft decls functions (m, k) → (d : Decl) → is_function_next (map declared_seen (drop m decls)) (map defined_seen (drop k functions)) ≡ false
      → new ≡ bind old (get_or decls m d).name.name m → new_least ≡ least_of old_least (twice old (get_or decls m d).name)
      → BindsNext decls functions old old_least (m, k) new new_least (m + 1, k)
  memory_next new new_least a d test bound least =
      let within = memory_within a test in
      let x = get_or decls m d in
      let rest : drop m decls ≡ x ∷ drop (m + 1) decls = at_next decls m d within in
      let test' = subst (λ l. is_function_next (map declared_seen l) (map defined_seen (drop k functions)) ≡ false) rest test in
      record {
        item = memory_item m x;
        next = ap (λ l. rest_of m l (length decls + k) (drop k functions)) rest ∙ memory_goes m x (drop (m + 1) decls) (length decls + k) (drop k functions) test';
        bound = bound;
        least = least;
        counted = omega arith;
        memories = omega (arith, within);
        functions_done = a.functions_done;
      }

  pub memory_lacks : (new : List ScopeEntry) (new_least : Option Breach) → AreLeft decls functions (m, k) → (d : Decl) → is_function_next (map declared_seen (drop m decls)) (map defined_seen (drop k functions)) ≡ false
      → entity_of old (get_or decls m d).name.name ≡ None → new ≡ old → new_least ≡ least_of old_least (twice old (get_or decls m d).name)
      → LacksNext decls functions old old_least (m, k) new new_least
  unfolding memory_next
  memory_lacks new new_least a d test none same least =
      let n = memory_next _ _ a d test refl refl in
      record { item = n.item; more = left decls functions (m + 1, k); next = n.next; unbound = none; visible = same; least = least ∙ none_twice (get_or decls m d).name none }
