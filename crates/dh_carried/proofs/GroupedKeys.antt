-- What copies of an access through views reach is within what the access charges: each group is within what is carried
-- of it, and the keys of all groups are no more than those of each, summed.
use Rattle.std.proofs.Common.{◌≡◌, ℕ, zero, suc, ◌+◌, ◌≤◌, ◌==◌, ◌&&◌, ◌⊎◌, inl, inr, nat_eq, Bool, true, false, if◌then◌else◌, List, [], ◌∷◌, ◌++◌, length, map, take, refl, sym, ap, subst, ◌∙◌, arith}
use Rattle.std.specs.List.{AllByRecursion, filter}
use Rattle.std.specs.Set.{distinct_count, unique_keys}
use Rattle.std.proofs.lemmas.Bool.{eq-eqb}
use Rattle.std.proofs.lemmas.List.{length-append}
use Rattle.dh_tree.specs.declared.viewing.ViewMap.{ViewMap}
use Rattle.dh_tree.specs.PlainTrees.{Program}
use Rattle.dh_viewing.specs.Carried.{Copy, AllLead, bank_in, carried_by, keys_at}
use Rattle.dh_meaning.specs.Paths.{Path, same_path, IsPathAmong}
use Rattle.dh_meaning.specs.Ways.{Way, all_bindings_of}
use Rattle.dh_meets.specs.Charges.{bank_named, charge_through, groups_of, key_of, keys_in_group, paths_of, sum_over}
use Rattle.dh_meets.specs.SourceEvents.{SourceAccess}
use Rattle.dh_carried.specs.MadeCopies.{AreCopiesOf, IsCopyOf, MadeCopy, copies_of_made, in_group, is_of_group, views_on}
use Rattle.dh_carried.proofs.CarriedKeys.{all_more, covers, fewer_keys, same_key, same_list, told, whole_list}
use Rattle.dh_carried.proofs.Pigeons.{Has, NoTwice, has_left, has_mapped, has_right, has_unique, no_longer, unique_has, unique_once}

-- Members.

pub filtered_has : {A : Type 0} (test : A → Bool) (x : A) (xs : List A) → Has x (filter test xs) → Has x xs × (test x ≡ true)
filtered_has test x [] h = elim h [ ]
filtered_has test x (y ∷ xs) h = by (test y) refl h (filtered_has test x xs)
  where
    by : (b : Bool) → test y ≡ b → Has x (if b then y ∷ filter test xs else filter test xs) → (Has x (filter test xs) → Has x xs × (test x ≡ true)) → ((x ≡ y) ⊎ Has x xs) × (test x ≡ true)
    by true e (inl is) more = (inl is, ap test is ∙ e)
    by true e (inr h) more = (inr (more h).0, (more h).1)
    by false e h more = (inr (more h).0, (more h).1)

pub has_filtered : {A : Type 0} (test : A → Bool) (x : A) (xs : List A) → Has x xs → test x ≡ true → Has x (filter test xs)
has_filtered test x [] h e = h
has_filtered test x (y ∷ xs) h e = by (test y) refl h (has_filtered test x xs)
  where
    by : (b : Bool) → test y ≡ b → (x ≡ y) ⊎ Has x xs → (Has x xs → test x ≡ true → Has x (filter test xs)) → Has x (if b then y ∷ filter test xs else filter test xs)
    by true f (inl is) more = inl is
    by true f (inr g) more = inr (more g e)
    by false f (inl is) more = absurd (let g = sym f ∙ (ap test (sym is) ∙ e) in wrong g)
      where
        wrong : false ≡ true → ⊥
        wrong g = cc
    by false f (inr g) more = more g e

pub mapped_has : {A B : Type 0} (f : A → B) (y : B) (xs : List A) → Has y (map f xs) → (x : A) × (Has x xs × (y ≡ f x))
mapped_has f y [] h = elim h [ ]
mapped_has f y (x ∷ xs) (inl e) = (x, (inl refl, e))
mapped_has f y (x ∷ xs) (inr h) = let (z, (g, e)) = mapped_has f y xs h in (z, (inr g, e))

all_has : {A : Type 0} (P : A → Type 0) (xs : List A) → AllByRecursion P xs → (x : A) → Has x xs → P x
all_has P [] a x h = elim h [ ]
all_has P (y ∷ ys) a x (inl e) = subst P (sym e) a.0
all_has P (y ∷ ys) a x (inr h) = all_has P ys a.1 x h

pub path_has : (path : Path) (ps : List Path) → IsPathAmong path ps → Has path ps
path_has path [] h = elim h [ ]
path_has path (p ∷ ps) (inl e) = inl e
path_has path (p ∷ ps) (inr h) = inr (path_has path ps h)

-- Groups.

abbrev keys_here : List Copy → (level bank : ℕ) → List (List ℕ)
keys_here cs level bank = map (λ c. c.key) (filter (λ c. bank_in level c == bank) cs)

module _ (w : Way) (cs : List MadeCopy) (level bank : ℕ) where
  -- the distinct keys of each of these groups, one behind the other
  abbrev keys_by : List Path → List (List ℕ)
  keys_by [] = []
  keys_by (g ∷ gs) = unique_keys same_key (keys_here (in_group w g cs) level bank) ++ keys_by gs

  by_long : (gs : List Path) → length (keys_by gs) ≡ sum_over gs (λ g. keys_at (in_group w g cs) level bank)
  by_long [] = refl
  by_long (g ∷ gs) = length-append (unique_keys same_key (keys_here (in_group w g cs) level bank)) (keys_by gs) ∙ ap (λ n. keys_at (in_group w g cs) level bank + n) (by_long gs)

  by_has : (k : List ℕ) (g : Path) (gs : List Path) → Has g gs → Has k (keys_here (in_group w g cs) level bank) → Has k (keys_by gs)
  by_has k g [] h at = elim h [ ]
  by_has k g (x ∷ gs) (inl e) at =
      has_left k (unique_keys same_key (keys_here (in_group w x cs) level bank)) (keys_by gs)
      (has_unique same_key same_list whole_list k (keys_here (in_group w x cs) level bank) (subst (λ (y : Path). Has k (keys_here (in_group w y cs) level bank)) e at))
  by_has k g (x ∷ gs) (inr h) at = has_right k (unique_keys same_key (keys_here (in_group w x cs) level bank)) (keys_by gs) (by_has k g gs h at)

  -- a key of a copy is one of its group
  key_grouped : (gs : List Path) → ((c : MadeCopy) → Has c cs → Has (take w.shifts c.path) gs) → (k : List ℕ) → Has k (keys_here (copies_of_made cs) level bank) → Has k (keys_by gs)
  key_grouped gs all k h =
      let (o, (at, is)) = mapped_has (λ (c : Copy). c.key) k (filter (λ c. bank_in level c == bank) (copies_of_made cs)) h in
      let (there, picked) = filtered_has (λ (c : Copy). bank_in level c == bank) o (copies_of_made cs) at in
      let (c, (among, same)) = mapped_has (λ (c : MadeCopy). c.copy) o cs there in
      let g = take w.shifts c.path in
      let own : Has c.copy (in_group w g cs) = has_mapped (λ (c : MadeCopy). c.copy) c (filter (is_of_group w g) cs) (has_filtered (is_of_group w g) c cs among (whole_list g)) in
      let here : Has c.copy (filter (λ (c : Copy). bank_in level c == bank) (in_group w g cs)) =
      has_filtered (λ (c : Copy). bank_in level c == bank) c.copy (in_group w g cs) own (ap (λ (x : Copy). bank_in level x == bank) (sym same) ∙ picked)
      in
      by_has k g gs (all c among)
      (subst (λ (l : List ℕ). Has l (keys_here (in_group w g cs) level bank)) (sym (is ∙ ap (λ (x : Copy). x.key) same)) (has_mapped (λ (c : Copy). c.key) c.copy (filter (λ (c : Copy). bank_in level c == bank) (in_group w g cs)) here))

  grouped : (gs : List Path) → ((c : MadeCopy) → Has c cs → Has (take w.shifts c.path) gs) → keys_at (copies_of_made cs) level bank ≤ sum_over gs (λ g. keys_at (in_group w g cs) level bank)
  grouped gs all =
      let l = no_longer (unique_keys same_key (keys_here (copies_of_made cs) level bank)) (keys_by gs) (unique_once same_key same_list whole_list (keys_here (copies_of_made cs) level bank))
      (λ k h. key_grouped gs all k (unique_has same_key same_list whole_list k (keys_here (copies_of_made cs) level bank) h)) in
      let s = by_long gs in
      omega (arith, l, s)

sum_more : (gs : List Path) (f h : Path → ℕ) → ((g : Path) → f g ≤ h g) → sum_over gs f ≤ sum_over gs h
sum_more [] f h a = omega arith
sum_more (g ∷ gs) f h a = let x = a g in let y = sum_more gs f h a in omega (arith, x, y)

-- Charges.

both_true : (b c : Bool) → b ≡ true → c ≡ true → (b && c) ≡ true
both_true true c e f = f
both_true false c e f = cc

module _ (p : Program) (w : Way) (a : SourceAccess) (cs : List MadeCopy) (copies : AreCopiesOf p w a cs) where
  -- the keys of a group in a bank of what is named are among those that the rules count
  named_fewer : (g : Path) (bank : ℕ) → keys_at (in_group w g cs) 0 bank ≤ keys_in_group p w a g bank
  named_fewer g bank =
      fewer_keys (keys_here (in_group w g cs) 0 bank) (map (key_of (all_bindings_of p) a) (filter picks (paths_of a))) each
    where
      picks : Path → Bool
      picks path = same_path (take w.shifts path) g && (bank_named p w a path == bank)

      each : (k : List ℕ) → Has k (keys_here (in_group w g cs) 0 bank) → Has k (map (key_of (all_bindings_of p) a) (filter picks (paths_of a)))
      each k h =
          let (o, (at, is)) = mapped_has (λ (c : Copy). c.key) k (filter (λ (c : Copy). bank_in 0 c == bank) (in_group w g cs)) h in
          let (there, picked) = filtered_has (λ (c : Copy). bank_in 0 c == bank) o (in_group w g cs) at in
          let (c, (among, same)) = mapped_has (λ (c : MadeCopy). c.copy) o (filter (is_of_group w g) cs) there in
          let (all, grouped_so) = filtered_has (is_of_group w g) c cs among in
          let of = all_has (λ c. IsCopyOf p w a c) cs copies.each c all in
          let bank_is : bank_named p w a c.path ≡ bank = sym of.named ∙ (ap (λ (x : Copy). bank_in 0 x) (sym same) ∙ told (bank_in 0 o) bank picked) in
          let picks_it : picks c.path ≡ true = both_true (same_path (take w.shifts c.path) g) (bank_named p w a c.path == bank) grouped_so (eq-eqb (bank_named p w a c.path) bank bank_is) in
          subst (λ (l : List ℕ). Has l (map (key_of (all_bindings_of p) a) (filter picks (paths_of a)))) (sym (is ∙ (ap (λ (x : Copy). x.key) same ∙ of.key)))
          (has_mapped (key_of (all_bindings_of p) a) c.path (filter picks (paths_of a)) (has_filtered picks c.path (paths_of a) (path_has c.path (paths_of a) of.there) picks_it))

  group_covered : (bank : ℕ) (g : Path) → keys_at (in_group w g cs) (0 + length (views_on w)) bank ≤ carried_by (views_on w) (keys_in_group p w a g) bank
  group_covered bank g =
      let c = covers (views_on w) (in_group w g cs) 0 (copies.lead g) bank in
      let m = all_more (views_on w) (keys_at (in_group w g cs) 0) (keys_in_group p w a g) (named_fewer g) bank in
      omega (arith, c, m)

  pub groups_cover : (bank : ℕ) → keys_at (copies_of_made cs) (length (views_on w)) bank ≤ charge_through p w a bank
  groups_cover bank =
      let all = grouped w cs (0 + length (views_on w)) bank (groups_of w a) in_groups in
      let more = sum_more (groups_of w a) (λ g. keys_at (in_group w g cs) (0 + length (views_on w)) bank) (λ g. carried_by (views_on w) (keys_in_group p w a g) bank) (group_covered bank) in
      subst (λ (n : ℕ). keys_at (copies_of_made cs) n bank ≤ charge_through p w a bank) (plain (length (views_on w))) (omega (arith, all, more))
    where
      plain : (n : ℕ) → 0 + n ≡ n
      plain n = omega arith

      in_groups : (c : MadeCopy) → Has c cs → Has (take w.shifts c.path) (groups_of w a)
      in_groups c h =
          let of = all_has (λ c. IsCopyOf p w a c) cs copies.each c h in
          has_unique same_key same_list whole_list (take w.shifts c.path) (map (λ path. take w.shifts path) (paths_of a))
          (has_mapped (λ path. take w.shifts path) c.path (paths_of a) (path_has c.path (paths_of a) of.there))
