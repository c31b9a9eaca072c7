-- Variables that are found and laid out.
use Rattle.std.proofs.Common.{◌≡◌, ℕ, zero, suc, ◌+◌, ◌*◌, ◌-◌, ◌<◌, ◌≤◌, ◌^◌, min, nat_lt, Bool, true, false, if◌then◌else◌, List, [], ◌∷◌, ◌++◌, length, map, take, get_or, Some, None, replicate, refl, ap, sym, ◌∙◌, subst, arith, append_assoc, append-nil}
use Rattle.std.specs.Prelude.{Option, option_map}
use Rattle.std.proofs.lemmas.Bool.Decides.{nat_tests}
use Rattle.std.proofs.lemmas.List.{length-append, length-replicate, map-append}
use Rattle.dh_tree.specs.Memories.{same_entity}
use Rattle.dh_tree.specs.declared.trees.commands.Command.{Command}
use Rattle.dh_tree.specs.PlainTrees.{ActionForm}
use Rattle.dh_tree.specs.Seen.{action_form_seen}
use Rattle.dh_value.specs.declared.kinds.Kind.{Kind}
use Rattle.dh_tree.proofs.Collecting.{one_more}
use Rattle.dh_code.specs.declared.places.Declared.{Declared}
use Rattle.dh_code.specs.declared.places.VariableSlots.{VariableSlots}
use Rattle.dh_code.specs.Declarations.{Declaration, all_held, declaration_in, declared_of, factors_inside, declared_factors, form_declarations, held_behind, slots_counted}
use Rattle.dh_code.specs.Placed.{AreFew, AreFound, AreLaidSlots, Declares, IsLoopNest, KeepsFound, copies_held, held_of}
use Rattle.dh_code.specs.Ranks.{copies_in}
use Rattle.dh_base.specs.Limits.{most_copies}
use Rattle.dh_code.proofs.FewDeclared.{below_power, doubled}

pub copies_more : (fs : List ℕ) (f : ℕ) → copies_in (fs ++ f ∷ []) ≡ copies_in fs * f
copies_more [] f = omega arith
copies_more (g ∷ fs) f = ap (λ n. g * n) (copies_more fs f) ∙ grouped g (copies_in fs) f
  where
    grouped : (x y z : ℕ) → x * (y * z) ≡ (x * y) * z
    grouped x y z = omega arith

-- inside a loop
pub round_same : (fs : List ℕ) (depth copies f : ℕ) → f ≤ 1 → IsLoopNest fs depth copies → IsLoopNest (factors_inside fs f) depth copies
round_same fs depth copies f le h = subst (λ (b : Bool). IsLoopNest (if b then fs ++ f ∷ [] else fs) depth copies) (sym (by le)) h
  where
    by : f ≤ 1 → nat_lt 1 f ≡ false
    by e = grind (arith, nat_tests)

pub round_more : (fs : List ℕ) (depth copies f : ℕ) → 1 < f → IsLoopNest fs depth copies → IsLoopNest (factors_inside fs f) (depth + 1) (copies * f)
round_more fs depth copies f lt h = subst (λ (b : Bool). IsLoopNest (if b then fs ++ f ∷ [] else fs) (depth + 1) (copies * f)) (sym (by lt)) (record {
  deep = ap (λ n. n + 1) h.deep ∙ sym (length-append fs (f ∷ []));
  many = ap (λ n. n * f) h.many ∙ sym (copies_more fs f);
  doubled = doubled depth copies f h.doubled lt;
})
  where
    by : 1 < f → nat_lt 1 f ≡ true
    by e = grind (arith, nat_tests)

-- within the limit nothing stays at its type's greatest number
pub round_counted : (fs : List ℕ) (depth copies f depth' copies' : ℕ) → 1 < f → depth' ≡ min (depth + 1) (2 ^ 32 - 1) → copies' ≡ min (copies * f) (2 ^ 64 - 1) → IsLoopNest fs depth copies
    → copies_in (factors_inside fs f) ≤ most_copies → IsLoopNest (factors_inside fs f) depth' copies'
round_counted fs depth copies f depth' copies' lt deep many h few =
    let more = round_more fs depth copies f lt h in
    let small = subst (λ (n : ℕ). n ≤ most_copies) (sym more.many) few in
    let shallow = below_power (depth + 1) in
    let twice = more.doubled in
    subst (λ (n : ℕ). IsLoopNest (factors_inside fs f) n copies') (sym (deep ∙ least (depth + 1) (2 ^ (depth + 1)) (copies * f) shallow twice small))
    (subst (λ (n : ℕ). IsLoopNest (factors_inside fs f) (depth + 1) n) (sym (many ∙ least_copies (copies * f) small)) more)
  where
    least : (d p q : ℕ) → d < p → p ≤ q → q ≤ most_copies → min d (2 ^ 32 - 1) ≡ d
    least d p q a b c = omega (arith, a, b, c)

    least_copies : (q : ℕ) → q ≤ most_copies → min q (2 ^ 64 - 1) ≡ q
    least_copies q c = omega (arith, c)

-- one declaration more
pub declaration_more : (ds : List Declaration) (d : Declaration) (e : ℕ) → option_map declared_of (declaration_in (ds ++ d ∷ []) e) ≡ one_more (option_map declared_of (declaration_in ds e)) (same_entity d.entity (Some e)) (declared_of d)
declaration_more [] d e = by (same_entity d.entity (Some e))
  where
    by : (b : Bool) → option_map declared_of (if b then Some d else None) ≡ one_more None b (declared_of d)
    by true = refl
    by false = refl
declaration_more (x ∷ ds) d e = by (declaration_more ds d e) (same_entity x.entity (Some e))
  where
    by : option_map declared_of (declaration_in (ds ++ d ∷ []) e) ≡ one_more (option_map declared_of (declaration_in ds e)) (same_entity d.entity (Some e)) (declared_of d)
        → (b : Bool) → option_map declared_of (if b then Some x else declaration_in (ds ++ d ∷ []) e) ≡ one_more (option_map declared_of (if b then Some x else declaration_in ds e)) (same_entity d.entity (Some e)) (declared_of d)
    by rest true = refl
    by rest false = rest

-- variables that are laid out up to one
held_is : (d : Option Declaration) (first : ℕ) → held_of (option_map declared_of d) first ≡ held_behind first d
held_is None first = refl
held_is (Some d) first = refl

copies_are : (d : Option Declaration) → copies_held (option_map declared_of d) ≡ copies_in (declared_factors d)
copies_are None = refl
copies_are (Some d) = refl

pub record Lays (found : List (Option Declared)) (i : ℕ) (held : List VariableSlots) (count : ℕ) : Type 0 where
  pub held_so : (ds : List Declaration) → AreFound ds found → (n : ℕ) → i + n ≡ length found → held ++ all_held ds count i n ≡ all_held ds 0 0 (length found)
  pub count_so : (ds : List Declaration) → AreFound ds found → (n : ℕ) → i + n ≡ length found → slots_counted ds count i n ≡ slots_counted ds 0 0 (length found)

pub lays_first : (found : List (Option Declared)) → Lays found 0 [] 0
lays_first found = record {
  held_so = λ ds h n e. ap (λ k. all_held ds 0 0 k) (none n e);
  count_so = λ ds h n e. ap (λ k. slots_counted ds 0 0 k) (none n e);
}
  where
    none : (n : ℕ) → 0 + n ≡ length found → n ≡ length found
    none n e = omega (arith, e)

pub lays_turn : (found : List (Option Declared)) (i count : ℕ) (held held' : List VariableSlots) (count' : ℕ) (v : Option Declared) → i < length found → v ≡ get_or found i None
    → held' ≡ held ++ held_of v count ∷ [] → count' ≡ count + copies_held v → Lays found i held count → Lays found (suc i) held' count'
lays_turn found i count held held' count' v within is added counted l = record {
  held_so = λ ds h n e.
      let found_is = is ∙ h i within in
      ap (λ x. x ++ all_held ds count' (suc i) n) added
      ∙ (append_assoc held (held_of v count ∷ []) (all_held ds count' (suc i) n)
      ∙ (ap (λ x. held ++ x ∷ all_held ds count' (suc i) n) (ap (λ o. held_of o count) found_is ∙ held_is (declaration_in ds i) count)
      ∙ (ap (λ k. held ++ held_behind count (declaration_in ds i) ∷ all_held ds k (suc i) n) (more ds found_is)
      ∙ l.held_so ds h (suc n) (next n e))));
  count_so = λ ds h n e.
      let found_is = is ∙ h i within in
      ap (λ k. slots_counted ds k (suc i) n) (more ds found_is) ∙ l.count_so ds h (suc n) (next n e);
}
  where
    next : (n : ℕ) → suc i + n ≡ length found → i + suc n ≡ length found
    next n e = omega (arith, e)

    more : (ds : List Declaration) → v ≡ option_map declared_of (declaration_in ds i) → count' ≡ count + copies_in (declared_factors (declaration_in ds i))
    more ds e = counted ∙ ap (λ k. count + k) (ap copies_held e ∙ copies_are (declaration_in ds i))

pub lays_end : (found : List (Option Declared)) (i count : ℕ) (held : List VariableSlots) → i ≡ length found → Lays found i held count → AreLaidSlots found held count
lays_end found i count held is l = λ ds h. (sym (append-nil held) ∙ l.held_so ds h 0 (none is), l.count_so ds h 0 (none is))
  where
    none : i ≡ length found → i + 0 ≡ length found
    none e = omega (arith, e)

abbrev no_variable : Option Declared
no_variable = None

-- the first variables of a list are found, of so many entities
pub record FoundSoFar (entities : ℕ) (list : List Declared) (i : ℕ) (found : List (Option Declared)) : Type 0 where
  pub long : length found ≡ entities
  pub so : (ds : List Declaration) → list ≡ map declared_of ds → AreFound (take i ds) found

pub found_first : (entities : ℕ) (list : List Declared) (found : List (Option Declared)) → found ≡ replicate entities None → FoundSoFar entities list 0 found
found_first entities list found is = record {
  long = ap (λ l. length l) is ∙ length-replicate entities no_variable;
  so = λ ds e entity within. ap (λ l. get_or l entity None) is ∙ (nothing entities entity ∙ sym (none ds entity));
}
  where
    nothing : (n entity : ℕ) → get_or (replicate n no_variable) entity no_variable ≡ no_variable
    nothing zero entity = refl
    nothing (suc n) zero = refl
    nothing (suc n) (suc entity) = nothing n entity

    none : (ds : List Declaration) (entity : ℕ) → option_map declared_of (declaration_in (take 0 ds) entity) ≡ None
    none [] entity = refl
    none (d ∷ ds) entity = refl

take_map : (ds : List Declaration) (i : ℕ) (d : Declared) → i < length (map declared_of ds) → (x : Declaration) × ((take (suc i) ds ≡ take i ds ++ x ∷ []) × (get_or (map declared_of ds) i d ≡ declared_of x))
take_map [] i d within = absurd (none i within)
  where
    none : (n : ℕ) → n < 0 → ⊥
    none n e = omega (arith, e)
take_map (x ∷ ds) zero d within = (x, (refl, refl))
take_map (x ∷ ds) (suc i) d within = let g = take_map ds i d (less i (length (map declared_of ds)) within) in (g.0, (ap (λ l. x ∷ l) g.1.0, g.1.1))
  where
    less : (m l : ℕ) → suc m < suc l → m < l
    less m l e = omega (arith, e)

pub found_turn : (entities : ℕ) (list : List Declared) (i : ℕ) (found new : List (Option Declared)) (v : Declared) → i < length list → v ≡ get_or list i v → length new ≡ length found → KeepsFound found new v → FoundSoFar entities list i found → FoundSoFar entities list (suc i) new
found_turn entities list i found new v within is long keeps g = record {
  long = long ∙ g.long;
  so = λ ds e.
      let t = take_map ds i v (subst (λ (l : List Declared). i < length l) e within) in
      subst (λ (l : List Declaration). AreFound l new) (sym t.1.0) (keeps (take i ds) t.0 (g.so ds e) (is ∙ (ap (λ l. get_or l i v) e ∙ t.1.1)));
}

pub found_end : (entities : ℕ) (list : List Declared) (i : ℕ) (found : List (Option Declared)) → length list ≤ i → FoundSoFar entities list i found → (ds : List Declaration) → list ≡ map declared_of ds → AreFound ds found
found_end entities list i found over g ds e = subst (λ (l : List Declaration). AreFound l found) (all_taken ds i (subst (λ (l : List Declared). length l ≤ i) e over)) (g.so ds e)
  where
    all_taken : (ds : List Declaration) (i : ℕ) → length (map declared_of ds) ≤ i → take i ds ≡ ds
    all_taken [] zero h = refl
    all_taken [] (suc i) h = refl
    all_taken (d ∷ ds) zero h = absurd (none (length (map declared_of ds)) h)
      where
        none : (n : ℕ) → suc n ≤ 0 → ⊥
        none n e = omega (arith, e)
    all_taken (d ∷ ds) (suc i) h = ap (λ l. d ∷ l) (all_taken ds i (less (length (map declared_of ds)) i h))
      where
        less : (m l : ℕ) → suc m ≤ suc l → m ≤ l
        less m l e = omega (arith, e)

-- Declarations of commands.

pub declares_as : (old new : List Declared) (depth copies : ℕ) (c : Command) (form : ActionForm) → action_form_seen c.form ≡ form → ((factors : List ℕ) → IsLoopNest factors depth copies → AreFew (form_declarations factors form) → new ≡ old ++ map declared_of (form_declarations factors form)) → Declares old new depth copies c
declares_as old new depth copies c form is h = λ factors round few. h factors round (subst (λ (f : ActionForm). AreFew (form_declarations factors f)) is few) ∙ ap (λ f. old ++ map declared_of (form_declarations factors f)) (sym is)

pub declares_none : (old : List Declared) (depth copies : ℕ) (c : Command) (form : ActionForm) → action_form_seen c.form ≡ form → ((factors : List ℕ) → form_declarations factors form ≡ []) → Declares old old depth copies c
declares_none old depth copies c form is none = declares_as old old depth copies c form is (λ factors round few. sym (append-nil old) ∙ ap (λ ds. old ++ map declared_of ds) (sym (none factors)))

pub declares_both : (old mid new : List Declared) (xs ys : List Declaration) → mid ≡ old ++ map declared_of xs → new ≡ mid ++ map declared_of ys → new ≡ old ++ map declared_of (xs ++ ys)
declares_both old mid new xs ys a b = b ∙ (ap (λ l. l ++ map declared_of ys) a ∙ (append_assoc old (map declared_of xs) (map declared_of ys) ∙ ap (λ l. old ++ l) (sym (map-append declared_of xs ys))))

pub declares_for : (old first mid new : List Declared) (d : Declaration) (entity : Option ℕ) (k : Kind) (depth copies : ℕ) (xs ys : List Declaration) → entity ≡ d.entity → k ≡ d.kind_is → IsLoopNest d.factors depth copies
    → first ≡ old ++ record { entity = entity; kind = k; depth = depth; copies = copies } ∷ [] → mid ≡ first ++ map declared_of xs → new ≡ mid ++ map declared_of ys → new ≡ old ++ map declared_of (d ∷ (xs ++ ys))
declares_for old first mid new d entity k depth copies xs ys e f round a b c =
    declares_both first mid new xs ys b c
    ∙ (ap (λ l. l ++ map declared_of (xs ++ ys)) (a
    ∙ (ap (λ x. old ++ record { entity = x; kind = k; depth = depth; copies = copies } ∷ []) e
    ∙ (ap (λ x. old ++ record { entity = d.entity; kind = x; depth = depth; copies = copies } ∷ []) f
    ∙ (ap (λ x. old ++ record { entity = d.entity; kind = d.kind_is; depth = x; copies = copies } ∷ []) round.deep
    ∙ ap (λ x. old ++ record { entity = d.entity; kind = d.kind_is; depth = length d.factors; copies = x } ∷ []) round.many))))
    ∙ append_assoc old (declared_of d ∷ []) (map declared_of (xs ++ ys)))
