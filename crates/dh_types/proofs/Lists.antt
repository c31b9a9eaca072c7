-- Walks over lists of expressions.
use Rattle.std.proofs.Common.{◌≡◌, ℕ, ◌≤◌, List, [], ◌∷◌, length, map, Option, None, Some, Vec, refl, sym, ap, ◌∙◌, arith}
use Rattle.std.specs.Global.{Global}
use Rattle.std.specs.Vec.{with_items}
use Rattle.dh_value.specs.declared.kinds.Kind.{Kind}
use Rattle.dh_tree.specs.declared.breaches.Breach.{Breach}
use Rattle.dh_tree.specs.declared.trees.expressions.Expr.{Expr}
use Rattle.dh_tree.specs.PlainTrees.{Term, Suffixed}
use Rattle.dh_tree.specs.Seen.{term_seen, factor_seen}
use Rattle.dh_tree.specs.LeastBreach.{least_of}
use Rattle.dh_tree.specs.Kinds.{Facts, for_numbers, typed_term, typed_offset, typed_arguments}
use Rattle.dh_tree.specs.KindBreaches.{argument_breaches, arguments_breaches, offset_breaches, shifts_breaches, suffixes_breaches}
use Rattle.dh_types.specs.Walks.{TypingState, noted, first_kind_of, others_of}
use Rattle.dh_base.proofs.InPlace.{Unvisited, SoFar, made, run, finish, written}
use Rattle.dh_tree.proofs.Leasts.{least_append}

abbrev walked_to : TypingState → Option Breach → TypingState
walked_to s l = record { facts = s.facts; least = l }

-- expressions in order, at whose places no kind is wanted
abbrev pub term_step : Unit {0} → Term → Unit {0}
term_step s t = s

abbrev pub term_made : Facts → Unit {0} → Term → Term
term_made facts s t = typed_term facts None t

pub terms_made : (facts : Facts) (ts : List Term) → made term_seen term_step (term_made facts) tt ts ≡ map (typed_term facts None) ts
terms_made facts [] = refl
terms_made facts (t ∷ ts) = ap (λ l. typed_term facts None t ∷ l) (terms_made facts ts)

-- arguments: the kinds of the parameters that are left, and the least breach so far
abbrev pub argument_made : Facts → List Kind × Option Breach → Term → Term
argument_made facts s t = typed_term facts (for_numbers (first_kind_of s.0)) t

abbrev pub argument_step : Facts → List Kind × Option Breach → Term → List Kind × Option Breach
argument_step facts s t = (others_of s.0, least_of s.1 (argument_breaches facts (argument_made facts s t)))

pub arguments_made : (facts : Facts) (ks : List Kind) (k : Option Breach) (ts : List Term) → made term_seen (argument_step facts) (argument_made facts) (ks, k) ts ≡ typed_arguments facts ks ts
arguments_made facts ks k [] = refl
arguments_made facts [] k (t ∷ ts) = ap (λ l. typed_term facts None t ∷ l) (arguments_made facts [] (least_of k (argument_breaches facts (typed_term facts None t))) ts)
arguments_made facts (x ∷ ks) k (t ∷ ts) = ap (λ l. typed_term facts (for_numbers (Some x)) t ∷ l) (arguments_made facts ks (least_of k (argument_breaches facts (typed_term facts (for_numbers (Some x)) t))) ts)

pub arguments_run : (facts : Facts) (ks : List Kind) (k : Option Breach) (ts : List Term) → (run term_seen (argument_step facts) (argument_made facts) (ks, k) ts).1 ≡ least_of k (arguments_breaches facts (typed_arguments facts ks ts))
arguments_run facts ks k [] = refl
arguments_run facts [] k (t ∷ ts) =
    let b = argument_breaches facts (typed_term facts None t) in
    arguments_run facts [] (least_of k b) ts ∙ sym (least_append k b (arguments_breaches facts (typed_arguments facts [] ts)))
arguments_run facts (x ∷ ks) k (t ∷ ts) =
    let b = argument_breaches facts (typed_term facts (for_numbers (Some x)) t) in
    arguments_run facts ks (least_of k b) ts ∙ sym (least_append k b (arguments_breaches facts (typed_arguments facts ks ts)))

-- one turn over an argument as it stands in the list, and as it was taken
pub argument_turn : (facts : Facts) (ks ks' : List Kind) (k k' : Option Breach) (kind want : Option Kind) (x y e' : Expr) → x ≡ y → kind ≡ first_kind_of ks → ks' ≡ others_of ks → want ≡ for_numbers kind
    → term_seen e' ≡ typed_term facts want (term_seen y) → k' ≡ least_of k (argument_breaches facts (term_seen e'))
    → (term_seen e' ≡ argument_made facts (ks, k) (term_seen x)) × (◌≡◌ {A = List Kind × Option Breach} (ks', k') (argument_step facts (ks, k) (term_seen x)))
argument_turn facts ks ks' k k' kind want x y e' is first others wanted tree least =
    let made_is : term_seen e' ≡ argument_made facts (ks, k) (term_seen x) =
    tree ∙ ap (λ w. typed_term facts w (term_seen y)) (wanted ∙ ap for_numbers first) ∙ ap (λ z. typed_term facts (for_numbers (first_kind_of ks)) (term_seen z)) (sym is) in
    (made_is, ap (λ z. pair z k') others ∙ ap (λ z. pair (others_of ks) z) (least ∙ ap (λ t. least_of k (argument_breaches facts t)) made_is))
  where
    pair : List Kind → Option Breach → List Kind × Option Breach
    pair a b = (a, b)

-- offsets of a view
abbrev pub shift_made : TypingState → Term → Term
shift_made s t = typed_term s.facts None t

abbrev pub shift_step : TypingState → Term → TypingState
shift_step s t = noted s (offset_breaches s.facts (shift_made s t))

pub shifts_made : (s : TypingState) (ts : List Term) → made term_seen shift_step shift_made s ts ≡ map (typed_term s.facts None) ts
shifts_made s [] = refl
shifts_made s (t ∷ ts) = ap (λ l. typed_term s.facts None t ∷ l) (shifts_made (shift_step s t) ts)

pub shifts_run : (s : TypingState) (ts : List Term) → run term_seen shift_step shift_made s ts ≡ noted s (shifts_breaches s.facts (map (typed_term s.facts None) ts))
shifts_run s [] = refl
shifts_run s (t ∷ ts) =
    let b = offset_breaches s.facts (typed_term s.facts None t) in
    shifts_run (shift_step s t) ts ∙ ap (λ l. walked_to s l) (sym (least_append s.least b (shifts_breaches s.facts (map (typed_term s.facts None) ts))))

pub shift_turn : (s s' : TypingState) (x y e' : Expr) → x ≡ y → term_seen e' ≡ typed_term s.facts None (term_seen y) → s' ≡ noted s (offset_breaches s.facts (term_seen e'))
    → (term_seen e' ≡ shift_made s (term_seen x)) × (s' ≡ shift_step s (term_seen x))
shift_turn s s' x y e' is tree state =
    let t = tree ∙ ap (λ z. typed_term s.facts None (term_seen z)) (sym is) in
    (t, state ∙ ap (λ z. noted s (offset_breaches s.facts z)) t)

abbrev pub suffix_made : TypingState → Suffixed → Suffixed
suffix_made s x = typed_offset s.facts x

abbrev pub suffix_step : TypingState → Suffixed → TypingState
suffix_step s x = noted s (offset_breaches s.facts (typed_term s.facts None x.offset))

pub suffixes_made : (s : TypingState) (xs : List Suffixed) → made factor_seen suffix_step suffix_made s xs ≡ map (typed_offset s.facts) xs
suffixes_made s [] = refl
suffixes_made s (x ∷ xs) = ap (λ l. typed_offset s.facts x ∷ l) (suffixes_made (suffix_step s x) xs)

pub suffixes_run : (s : TypingState) (xs : List Suffixed) → run factor_seen suffix_step suffix_made s xs ≡ noted s (suffixes_breaches s.facts (map (typed_offset s.facts) xs))
suffixes_run s [] = refl
suffixes_run s (x ∷ xs) =
    let b = offset_breaches s.facts (typed_term s.facts None x.offset) in
    suffixes_run (suffix_step s x) xs ∙ ap (λ l. walked_to s l) (sym (least_append s.least b (suffixes_breaches s.facts (map (typed_offset s.facts) xs))))

pub suffix_turn : (s s' : TypingState) (x y : ℕ × Expr) (e' : Expr) → x ≡ y → term_seen e' ≡ typed_term s.facts None (term_seen y.1) → s' ≡ noted s (offset_breaches s.facts (term_seen e'))
    → (factor_seen (y.0, e') ≡ suffix_made s (factor_seen x)) × (s' ≡ suffix_step s (factor_seen x))
suffix_turn s s' x y e' is tree state = (
  ap (λ t. record { factor = y.0; offset = t }) tree ∙ ap (λ z. suffix_made s (factor_seen z)) (sym is),
  state ∙ ap (λ z. noted s (offset_breaches s.facts z)) tree ∙ ap (λ z. suffix_step s (factor_seen z)) (sym is),
)

-- what stands in a vector after the walk over its items, and the state there
module _ {C B S : Type 0} (f : C → B) (step : S → B → S) (make : S → B → B) where
  pub items_made : (all : List B → List B) (v : Vec C Global) (before now : List C) (index : ℕ) (s s' : S) → ((list : List B) → made f step make s list ≡ all list) → before ≡ v.items → length before ≡ v.len → length before ≤ index
      → Unvisited before now index → SoFar f step make before now index s s' → map f (with_items v now).items ≡ all (map f v.items)
  items_made all v before now index s s' are is long past u so =
      ap (λ l. map f l) (written v.items now v.len (u.0 ∙ ap (λ l. length l) is) (sym (ap (λ l. length l) is) ∙ long))
      ∙ (finish f step make before now index s s' (omega (arith, past, u.0)) u so).0
      ∙ are (map f before)
      ∙ ap (λ l. all (map f l)) is

  pub items_noted : (all : List B → List B) (v : Vec C Global) (before now : List C) (index : ℕ) (s s' : S) (end : List B → S) → ((list : List B) → made f step make s list ≡ all list) → ((list : List B) → run f step make s list ≡ end (all list))
      → before ≡ v.items → length before ≡ v.len → length before ≤ index
      → Unvisited before now index → SoFar f step make before now index s s' → s' ≡ end (map f (with_items v now).items)
  items_noted all v before now index s s' end are ends is long past u so =
      (finish f step make before now index s s' (omega (arith, past, u.0)) u so).1
      ∙ ends (map f before)
      ∙ ap (λ l. end (all (map f l))) is
      ∙ sym (ap end (items_made all v before now index s s' are is long past u so))

module _ (facts : Facts) (ks : List Kind) (v : Vec Expr Global) (before now : List Expr) (index : ℕ) (k : Option Breach) (s' : List Kind × Option Breach) where
  pub arguments_typed : before ≡ v.items → length before ≡ v.len → length before ≤ index → Unvisited before now index → SoFar term_seen (argument_step facts) (argument_made facts) before now index (ks, k) s'
      → map term_seen (with_items v now).items ≡ typed_arguments facts ks (map term_seen v.items)
  arguments_typed is long past u so = items_made term_seen (argument_step facts) (argument_made facts) (typed_arguments facts ks) v before now index (ks, k) s' (arguments_made facts ks k) is long past u so

  pub arguments_kept : before ≡ v.items → length before ≡ v.len → length before ≤ index → Unvisited before now index → SoFar term_seen (argument_step facts) (argument_made facts) before now index (ks, k) s'
      → s'.1 ≡ least_of k (arguments_breaches facts (map term_seen (with_items v now).items))
  arguments_kept is long past u so =
      ap (λ s. s.1) (finish term_seen (argument_step facts) (argument_made facts) before now index (ks, k) s' (omega (arith, past, u.0)) u so).1
      ∙ arguments_run facts ks k (map term_seen before)
      ∙ ap (λ l. least_of k (arguments_breaches facts (typed_arguments facts ks (map term_seen l)))) is
      ∙ sym (ap (λ l. least_of k (arguments_breaches facts l)) (arguments_typed is long past u so))
