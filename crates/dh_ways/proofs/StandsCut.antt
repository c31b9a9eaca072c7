-- Where the numbers of a program's ways are few, a walk cuts none, and each variable has an entity of its own.
use Rattle.std.proofs.Common.{◌≡◌, ℕ, suc, ◌+◌, ◌*◌, ◌-◌, ◌^◌, ◌<◌, ◌≤◌, min, nat_lt, Bool, true, false, if◌then◌else◌, List, [], ◌∷◌, ◌++◌, length, map, drop, get_or, refl, ap, sym, ◌∙◌, subst, arith}
use Rattle.std.specs.List.{AllByRecursion}
use Rattle.std.proofs.Math.Nat.{mul-le-mul_left, mul-one}
use Rattle.std.proofs.Math.Seq.{drop-cons}
use Rattle.std.proofs.lemmas.Bool.Decides.{nat_tests}
use Rattle.std.proofs.lemmas.List.{length-append, length-map}
use Rattle.dh_tree.specs.declared.trees.expressions.Expr.{Expr}
use Rattle.dh_tree.specs.declared.trees.expressions.Ref.{Ref}
use Rattle.dh_tree.specs.PlainTrees.{ViewPlan, Action, action, ActionForm, lets, lets_memory, views, assigns, stores, reduces, calls, blocks, decides, repeats, counts, MaybeAction, no_action, one_action, Actions, no_actions, action_then, Groups, no_groups, group_then, Program}
use Rattle.dh_tree.specs.Seen.{factor_seen, term_seen}
use Rattle.dh_tree.specs.ViewOffsets.{offsets_of}
use Rattle.dh_meaning.specs.Bindings.{depth_inside}
use Rattle.dh_meaning.specs.Ways.{ViewSite, all_entities_of, behind_all, behind_hidden}
use Rattle.dh_ways.specs.declared.standing.Stood.{Stood}
use Rattle.dh_ways.specs.declared.ways.Hidden.{Hidden}
use Rattle.dh_ways.specs.HiddenVariables.{hidden_variables}
use Rattle.dh_ways.specs.Seen.{hidden_seen}
use Rattle.dh_ways.specs.Stands.{Stand, all_own, copies_inside, form_stands, groups_stands, hidden_of_program, other_stands, own_of, part_stands, stand_seen, standing_seen, stands}
use Rattle.dh_ways.specs.CutStands.{IsFewRound, copies_cut, cut_stands, depth_cut, form_cut_stands, groups_cut_stands, other_cut_stands, part_cut_stands}
use Rattle.dh_ways.proofs.HiddenApart.{are_counted}
use Rattle.dh_ways.proofs.StandsFound.{hidden_are, hidden_many}

-- Numbers.

pub kept_same : (whole more factor : ℕ) → factor ≤ 1 → whole ≡ (if nat_lt 1 factor then more else whole)
kept_same whole more factor le = sym (ap (λ b. if b then more else whole) (by le))
  where
    by : factor ≤ 1 → nat_lt 1 factor ≡ false
    by e = grind (arith, nat_tests)

pub cut_more : (whole more factor : ℕ) → 1 < factor → more ≡ (if nat_lt 1 factor then more else whole)
cut_more whole more factor lt = sym (ap (λ b. if b then more else whole) (by lt))
  where
    by : 1 < factor → nat_lt 1 factor ≡ true
    by e = grind (arith, nat_tests)

least_deep : (d e f k : ℕ) → d ≡ min e k → (if nat_lt 1 f then min (d + 1) k else d) ≡ min (depth_inside e f) k
least_deep d e f k h = by (nat_lt 1 f)
  where
    by : (b : Bool) → (if b then min (d + 1) k else d) ≡ min (if b then suc e else e) k
    by true = omega (arith, h)
    by false = h

grows : (a f : ℕ) → 1 ≤ f → a ≤ a * f
grows a f l = let up = mul-le-mul_left {m = 1} {n = f} a l in omega (arith, up, mul-one a)

at_most : (x k : ℕ) → k ≤ x → min x k ≡ k
at_most x k l = omega (arith, l)

product : (n m f k : ℕ) → n ≡ min m k → 1 ≤ f → min (n * f) k ≡ min (m * f) k
product n m f k h l = by (nat_lt k m) refl
  where
    below : nat_lt k m ≡ false → m ≤ k
    below e = grind (arith, nat_tests, e)

    above : nat_lt k m ≡ true → k ≤ m
    above e = grind (arith, nat_tests, e)

    whole : m ≤ k → n ≡ m
    whole s = omega (arith, h, s)

    cut : k ≤ m → n ≡ k
    cut s = omega (arith, h, s)

    through : (a b c : ℕ) → a ≤ b → b ≤ c → a ≤ c
    through a b c s t = omega (arith, s, t)

    by : (b : Bool) → nat_lt k m ≡ b → min (n * f) k ≡ min (m * f) k
    by false e = ap (λ x. min (x * f) k) (whole (below e))
    by true e = ap (λ x. min (x * f) k) (cut (above e)) ∙ (at_most (k * f) k (grows k f l) ∙ sym (at_most (m * f) k (through k m (m * f) (above e) (grows m f l))))

least_many : (n m f k : ℕ) → n ≡ min m k → (if nat_lt 1 f then min (n * f) k else n) ≡ min (copies_inside m f) k
least_many n m f k h = by (nat_lt 1 f) refl
  where
    some : nat_lt 1 f ≡ true → 1 ≤ f
    some e = grind (arith, nat_tests, e)

    by : (b : Bool) → nat_lt 1 f ≡ b → (if b then min (n * f) k else n) ≡ min (if b then m * f else m) k
    by true e = product n m f k h (some e)
    by false e = h

-- Walks.

abbrev stand : Ref → Ref → ViewPlan → (depth copies : ℕ) → Stand
stand name parent form depth copies = record { name = name; parent = parent; form = form; depth = depth; copies = copies }

not_deep : (d e k : ℕ) → d ≡ min e k → e < k → d ≡ e
not_deep d e k h l = omega (arith, h, l)

first_few : (xs ys : List Stand) → AllByRecursion IsFewRound (xs ++ ys) → AllByRecursion IsFewRound xs
first_few [] ys h = tt
first_few (x ∷ xs) ys h = (h.0, first_few xs ys h.1)

rest_few : (xs ys : List Stand) → AllByRecursion IsFewRound (xs ++ ys) → AllByRecursion IsFewRound ys
rest_few [] ys h = h
rest_few (x ∷ xs) ys h = rest_few xs ys h.1

both_same : (xs us ys vs : List Stand) → xs ≡ us → ys ≡ vs → xs ++ ys ≡ us ++ vs
both_same xs us ys vs e f = ap (λ l. l ++ ys) e ∙ ap (λ l. us ++ l) f

mutual
  pub none_cut : (d e n m : ℕ) (a : Action) → d ≡ min e (2 ^ 32 - 1) → n ≡ min m (2 ^ 64 - 1) → AllByRecursion IsFewRound (stands e m a) → cut_stands d n a ≡ stands e m a
  none_cut d e n m (action id place form) h i few = form_none_cut d e n m form h i few

  form_none_cut : (d e n m : ℕ) (f : ActionForm) → d ≡ min e (2 ^ 32 - 1) → n ≡ min m (2 ^ 64 - 1) → AllByRecursion IsFewRound (form_stands e m f) → form_cut_stands d n f ≡ form_stands e m f
  form_none_cut d e n m (views name parent form) h i few =
      ap (λ x. stand name parent form x n ∷ []) (not_deep d e (2 ^ 32 - 1) h few.0.deep) ∙ ap (λ x. stand name parent form e x ∷ []) (not_deep n m (2 ^ 64 - 1) i few.0.many)
  form_none_cut d e n m (lets name declared value) h i few = refl
  form_none_cut d e n m (lets_memory name shape shape_places value) h i few = refl
  form_none_cut d e n m (assigns target value) h i few = refl
  form_none_cut d e n m (stores target value) h i few = refl
  form_none_cut d e n m (reduces target op value) h i few = refl
  form_none_cut d e n m (calls function arguments) h i few = refl
  form_none_cut d e n m (blocks body) h i few = groups_none_cut d e n m body h i few
  form_none_cut d e n m (decides test chosen other) h i few =
      both_same (cut_stands d n chosen) (stands e m chosen) (other_cut_stands d n other) (other_stands e m other)
      (none_cut d e n m chosen h i (first_few (stands e m chosen) (other_stands e m other) few)) (other_none_cut d e n m other h i (rest_few (stands e m chosen) (other_stands e m other) few))
  form_none_cut d e n m (repeats test body) h i few = none_cut d e n m body h i few
  form_none_cut d e n m (counts iterator declared low high factor body combine combine_place) h i few =
      let deep = least_deep d e factor.value (2 ^ 32 - 1) h in
      let many = least_many n m factor.value (2 ^ 64 - 1) i in
      both_same (cut_stands (depth_cut d factor.value) (copies_cut n factor.value) body) (stands (depth_inside e factor.value) (copies_inside m factor.value) body)
      (other_cut_stands (depth_cut d factor.value) (copies_cut n factor.value) combine) (other_stands (depth_inside e factor.value) (copies_inside m factor.value) combine)
      (none_cut (depth_cut d factor.value) (depth_inside e factor.value) (copies_cut n factor.value) (copies_inside m factor.value) body deep many
      (first_few (stands (depth_inside e factor.value) (copies_inside m factor.value) body) (other_stands (depth_inside e factor.value) (copies_inside m factor.value) combine) few))
      (other_none_cut (depth_cut d factor.value) (depth_inside e factor.value) (copies_cut n factor.value) (copies_inside m factor.value) combine deep many
      (rest_few (stands (depth_inside e factor.value) (copies_inside m factor.value) body) (other_stands (depth_inside e factor.value) (copies_inside m factor.value) combine) few))

  other_none_cut : (d e n m : ℕ) (o : MaybeAction) → d ≡ min e (2 ^ 32 - 1) → n ≡ min m (2 ^ 64 - 1) → AllByRecursion IsFewRound (other_stands e m o) → other_cut_stands d n o ≡ other_stands e m o
  other_none_cut d e n m no_action h i few = refl
  other_none_cut d e n m (one_action a) h i few = none_cut d e n m a h i few

  groups_none_cut : (d e n m : ℕ) (gs : Groups) → d ≡ min e (2 ^ 32 - 1) → n ≡ min m (2 ^ 64 - 1) → AllByRecursion IsFewRound (groups_stands e m gs) → groups_cut_stands d n gs ≡ groups_stands e m gs
  groups_none_cut d e n m no_groups h i few = refl
  groups_none_cut d e n m (group_then part rest) h i few =
      both_same (part_cut_stands d n part) (part_stands e m part) (groups_cut_stands d n rest) (groups_stands e m rest)
      (part_none_cut d e n m part h i (first_few (part_stands e m part) (groups_stands e m rest) few)) (groups_none_cut d e n m rest h i (rest_few (part_stands e m part) (groups_stands e m rest) few))

  part_none_cut : (d e n m : ℕ) (part : Actions) → d ≡ min e (2 ^ 32 - 1) → n ≡ min m (2 ^ 64 - 1) → AllByRecursion IsFewRound (part_stands e m part) → part_cut_stands d n part ≡ part_stands e m part
  part_none_cut d e n m no_actions h i few = refl
  part_none_cut d e n m (action_then a rest) h i few =
      both_same (cut_stands d n a) (stands e m a) (part_cut_stands d n rest) (part_stands e m rest)
      (none_cut d e n m a h i (first_few (stands e m a) (part_stands e m rest) few)) (part_none_cut d e n m rest h i (rest_few (stands e m a) (part_stands e m rest) few))

pub found_whole : (found none : List Stood) (a b : Action) → map stand_seen found ≡ map stand_seen none ++ cut_stands 0 1 a → none ≡ [] → a ≡ b → AllByRecursion IsFewRound (stands 0 1 b) → map stand_seen found ≡ stands 0 1 b
found_whole found none a b e empty same few =
    e ∙ (ap (λ (l : List Stood). map stand_seen l ++ cut_stands 0 1 a) empty ∙ (ap (λ x. cut_stands 0 1 x) same ∙ none_cut 0 0 1 1 b zero_least one_least few))
  where
    zero_least : 0 ≡ min 0 (2 ^ 32 - 1)
    zero_least = omega arith

    one_least : 1 ≡ min 1 (2 ^ 64 - 1)
    one_least = omega arith

-- Entities.

pub pairs_few : (first k : ℕ) (pairs : List (ℕ × Expr)) → first + length (map (λ s. s.offset) (map factor_seen pairs)) < k → first + length pairs < k
pairs_few first k pairs h = subst (λ (n : ℕ). first + n < k) (length-map (map factor_seen pairs) (λ s. s.offset) ∙ length-map pairs factor_seen) h

pub terms_few : (first k : ℕ) (terms : List Expr) → first + length (map term_seen terms) < k → first + length terms < k
terms_few first k terms h = subst (λ (n : ℕ). first + n < k) (length-map terms term_seen) h

pub own_few : (stood : List Stood) (first i k : ℕ) (now : List Hidden) (s : Stood) → i < length stood → s ≡ get_or stood i s → first + length (all_own first (map stand_seen stood)) < k
    → now ++ all_own (first + length now) (map stand_seen (drop i stood)) ≡ all_own first (map stand_seen stood) → first + length now + length (offsets_of (stand_seen s).form) < k
own_few stood first i k now s there is few h =
    by (length now) (length (all_own next (map stand_seen (drop i stood)))) (length (all_own first (map stand_seen stood))) (length (own_of next (stand_seen s))) (length rest) (length (offsets_of (stand_seen s).form))
    (sym (length-append now (all_own next (map stand_seen (drop i stood)))) ∙ ap (λ (l : List Hidden). length l) h)
    (ap (λ l. length (all_own next (map stand_seen l))) (drop-cons stood i s there ∙ ap (λ x. x ∷ drop (suc i) stood) (sym is)) ∙ length-append (own_of next (stand_seen s)) rest)
    (hidden_many next s.depth s.copies (offsets_of (stand_seen s).form)) few
  where
    next : ℕ
    next = first + length now

    rest : List Hidden
    rest = all_own (next + length (offsets_of (stand_seen s).form)) (map stand_seen (drop (suc i) stood))

    by : (n a t o r m : ℕ) → n + a ≡ t → a ≡ o + r → o ≡ m → first + t < k → first + n + m < k
    by n a t o r m e f g few = omega (arith, e, f, g, few)

pub fewer : (first n m k : ℕ) → first + n + m < k → first + n < k
fewer first n m k h = omega (arith, h)

pub hidden_few : (p : Program) (k : ℕ) → all_entities_of p < k → length p.entities + length (hidden_of_program p) < k
hidden_few p k few = subst (λ (n : ℕ). n < k) (are_counted p ∙ ap (λ n. length p.entities + n) (sym (sym (length-map (hidden_of_program p) hidden_seen) ∙ ap (λ (l : List _). length l) (hidden_are p)))) few

pub names_few : (p : Program) (k : ℕ) → all_entities_of p < k → length p.entities < k
names_few p k few = fewer_names (length p.entities) (length (hidden_variables p)) (all_entities_of p) (are_counted p) few
  where
    fewer_names : (a b c : ℕ) → c ≡ a + b → c < k → a < k
    fewer_names a b c e l = omega (arith, e, l)

pub not_before : (first : ℕ) (ss : List ViewSite) → first ≤ behind_all first ss
not_before first [] = omega arith
not_before first (s ∷ ss) = let more = not_before (behind_hidden first s) ss in omega (arith, more)

pub view_few : (stood : List Stood) (start next i k : ℕ) (s : Stood) → i < length stood → s ≡ get_or stood i s → behind_all start (map standing_seen stood) < k
    → behind_all next (map standing_seen (drop i stood)) ≡ behind_all start (map standing_seen stood) → next + length (offsets_of (stand_seen s).form) < k
view_few stood start next i k s there is few h =
    least (behind_hidden next (standing_seen s)) (behind_all next (map standing_seen (drop i stood))) (behind_all start (map standing_seen stood))
    (subst (λ (n : ℕ). behind_hidden next (standing_seen s) ≤ n) (ap (λ l. behind_all next (map standing_seen l)) (sym (drop-cons stood i s there ∙ ap (λ x. x ∷ drop (suc i) stood) (sym is)))) (not_before (behind_hidden next (standing_seen s)) (map standing_seen (drop (suc i) stood)))) h few
  where
    least : (a b c : ℕ) → a ≤ b → b ≡ c → c < k → a < k
    least a b c l e m = omega (arith, l, e, m)

pub behind_more : (stood : List Stood) (start first next i : ℕ) (s : Stood) → i < length stood → s ≡ get_or stood i s → next ≡ behind_hidden first (standing_seen s)
    → behind_all first (map standing_seen (drop i stood)) ≡ behind_all start (map standing_seen stood) → behind_all next (map standing_seen (drop (suc i) stood)) ≡ behind_all start (map standing_seen stood)
behind_more stood start first next i s there is step h =
    ap (λ n. behind_all n (map standing_seen (drop (suc i) stood))) step
    ∙ (ap (λ l. behind_all first (map standing_seen l)) (sym (drop-cons stood i s there ∙ ap (λ x. x ∷ drop (suc i) stood) (sym is))) ∙ h)
