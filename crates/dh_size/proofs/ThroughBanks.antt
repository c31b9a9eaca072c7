-- The banks of memories that are reached through views, as marks of the banks of views tell them.
use Rattle.std.proofs.Common.{◌≡◌, ℕ, zero, suc, add-one, ◌+◌, ◌<◌, ◌≤◌, ◌==◌, ◌&&◌, ◌||◌, nat_lt, Bool, true, false, if◌then◌else◌, List, [], ◌∷◌, length, map, drop, get_or, slice_index, refl, ap, sym, ◌∙◌, subst, arith, ◌⊎◌, inl, inr}
use Rattle.std.specs.Prelude.{Option, Some, None}
use Rattle.std.specs.List.{list_any}
use Rattle.std.proofs.lemmas.Bool.{cases_Bool, eq-eqb, eqb-true}
use Rattle.std.proofs.lemmas.Bool.Decides.{nat_tests}
use Rattle.std.proofs.lemmas.List.{drop_all}
use Rattle.dh_tree.specs.declared.tables.Dim.{Dim}
use Rattle.dh_tree.specs.declared.trees.programs.Tree.{Tree}
use Rattle.dh_tree.specs.Elements.{banks_of}
use Rattle.dh_tree.specs.Memories.{memories_of, memory_in, table_of}
use Rattle.dh_tree.specs.Seen.{program_seen}
use Rattle.dh_tree.specs.Shapes.{IsProgramTable}
use Rattle.dh_viewing.specs.Carried.{carried_by}
use Rattle.dh_viewing.proofs.KeptPrograms.{memory_kept}
use Rattle.dh_meaning.specs.Paths.{copies_in}
use Rattle.dh_meaning.specs.Ways.{Way}
use Rattle.dh_ways.specs.Leading.{LeadsTo}
use Rattle.dh_carried.proofs.ChargedBanks.{charged_back, charged_forth}
use Rattle.dh_meets.specs.Charges.{any_below, bank_named, loop_factors, may_reach, paths_of}
use Rattle.dh_meets.specs.SourceEvents.{SourceAccess}
use Rattle.dh_events.proofs.Turns.{at_place}
use Rattle.dh_ports.specs.declared.carrying.Carrier.{Carrier}
use Rattle.dh_ports.specs.Banks.{bank_at_path, each_below, path_of_number}
use Rattle.dh_ports.specs.Carriers.{carried_to, is_carried, one_at, IsCarrier}
use Rattle.dh_ports.proofs.ClaimTurns.{index_found}
use Rattle.dh_ports.proofs.ThroughClaims.{one_carried, other_way}
use Rattle.dh_size.specs.Marks.{any_marked, marked_behind, AreBankMarks}
use Rattle.dh_size.specs.Sizes.{banks_through, count_below, is_reached, is_reached_through}
use Rattle.dh_size.proofs.ChargedBanks.{below_most}
use Rattle.dh_size.proofs.MarkTurns.{all_paths, all_reached}

absurd : {A : Type 0} → ⊥ → A
absurd e = elim e [ ]

clash : (b : Bool) → b ≡ true → b ≡ false → ⊥
clash b e f = cc

or_none : (b : Bool) → (b || false) ≡ b
or_none true = refl
or_none false = refl

grouped_or : (a b c : Bool) → (a || (b || c)) ≡ ((a || b) || c)
grouped_or true b c = refl
grouped_or false b c = refl

-- One mark more.

module _ (marks : List Bool) (i : ℕ) (d : Bool) (inside : i < length marks) (so : any_marked (drop i marks) ≡ any_marked marks) where
  mark_here : any_marked (drop i marks) ≡ (get_or marks i d || any_marked (drop (i + 1) marks))
  mark_here = ap any_marked (at_place marks i d inside)

  pub mark_found : get_or marks i d ≡ true → true ≡ any_marked marks
  mark_found e = sym (ap (λ b. b || any_marked (drop (i + 1) marks)) e) ∙ (sym mark_here ∙ so)

  pub mark_next : get_or marks i d ≡ false → any_marked (drop (i + 1) marks) ≡ any_marked marks
  mark_next e = sym (ap (λ b. b || any_marked (drop (i + 1) marks)) e) ∙ (sym mark_here ∙ so)

pub mark_none : (marks : List Bool) (i : ℕ) → length marks ≤ i → any_marked (drop i marks) ≡ any_marked marks → false ≡ any_marked marks
mark_none marks i past so = ap any_marked (sym (drop_all i marks past)) ∙ so

-- One bank more.

pub behind_then : (k : Carrier) (marks : List Bool) (any : Bool) (behind : ℕ) → k.evenly ≡ true → any ≡ any_marked marks → any ≡ marked_behind k marks behind
behind_then k marks any behind e is = is ∙ sym (ap (λ (b : Bool). if b then any_marked marks else get_or marks (slice_index k.sources.items behind) false) e)

mark_at : (marks : List Bool) (i : ℕ) (d e : Bool) → i < length marks → get_or marks i d ≡ get_or marks i e
mark_at [] i d e inside = absurd (none i inside)
  where
    none : (i : ℕ) → i < 0 → ⊥
    none i e = omega (arith, e)
mark_at (m ∷ ms) zero d e inside = refl
mark_at (m ∷ ms) (suc i) d e inside = mark_at ms i d e (less i (length ms) inside)
  where
    less : (i n : ℕ) → suc i < suc n → i < n
    less i n e = omega (arith, e)

pub behind_else : (k : Carrier) (marks : List Bool) (behind source : ℕ) (d : Bool) → k.evenly ≡ false → source ≡ slice_index k.sources.items behind → source < length marks → get_or marks source d ≡ marked_behind k marks behind
behind_else k marks behind source d e is inside =
    mark_at marks source d false inside
    ∙ (ap (λ s. get_or marks s false) is ∙ sym (ap (λ (b : Bool). if b then any_marked marks else get_or marks (slice_index k.sources.items behind) false) e))

pub count_then : (t : ℕ → Bool) (n count next : ℕ) (b : Bool) → b ≡ t n → b ≡ true → count ≡ count_below t n → next ≡ count + 1 → next ≡ count_below t (n + 1)
count_then t n count next b is e so f = f ∙ (ap (λ m. m + 1) so ∙ (swapped (count_below t n) ∙ (ap (λ (x : Bool). (if x then 1 else 0) + count_below t n) (sym e ∙ is) ∙ ap (count_below t) (sym (add-one n)))))
  where
    swapped : (m : ℕ) → m + 1 ≡ 1 + m
    swapped m = omega arith

pub count_else : (t : ℕ → Bool) (n count next : ℕ) (b : Bool) → b ≡ t n → b ≡ false → count ≡ count_below t n → next ≡ count → next ≡ count_below t (n + 1)
count_else t n count next b is e so f = f ∙ (so ∙ (nothing (count_below t n) ∙ (ap (λ (x : Bool). (if x then 1 else 0) + count_below t n) (sym e ∙ is) ∙ ap (count_below t) (sym (add-one n)))))
  where
    nothing : (m : ℕ) → m ≡ 0 + m
    nothing m = omega arith

pub count_fits : (t : ℕ → Bool) (n count most : ℕ) → n < most → most ≤ 64 → count ≡ count_below t n → count + 1 ≤ 64
count_fits t n count most inside few so = within count (count_below t n) n most so (below_most t n) inside few
  where
    within : (c b n m : ℕ) → c ≡ b → b ≤ n → n < m → m ≤ 64 → c + 1 ≤ 64
    within c b n m e f g h = omega (arith, e, f, g, h)

-- What is reached through views.

any_same : {A : Type 0} (s t : A → Bool) (xs : List A) → ((x : A) → s x ≡ t x) → list_any s xs ≡ list_any t xs
any_same s t [] f = refl
any_same s t (x ∷ xs) f = ap (λ b. b || list_any s xs) (f x) ∙ ap (λ b. t x || b) (any_same s t xs f)

any_either : {A : Type 0} (s t : A → Bool) (xs : List A) → list_any (λ x. s x || t x) xs ≡ (list_any s xs || list_any t xs)
any_either s t [] = refl
any_either s t (x ∷ xs) = ap (λ b. (s x || t x) || b) (any_either s t xs) ∙ swapped (s x) (t x) (list_any s xs) (list_any t xs)
  where
    swapped : (a b c d : Bool) → ((a || b) || (c || d)) ≡ ((a || c) || (b || d))
    swapped true b c d = refl
    swapped false true true d = refl
    swapped false true false d = refl
    swapped false false c d = refl

any_nothing : {A : Type 0} (xs : List A) → list_any (λ x. false) xs ≡ false
any_nothing [] = refl
any_nothing (x ∷ xs) = any_nothing xs

-- some number below one is the value at some item where some value is below it
exchanged : {A : Type 0} (f : A → ℕ) (xs : List A) (n : ℕ) → any_below n (λ b. list_any (λ x. f x == b) xs) ≡ list_any (λ x. nat_lt (f x) n) xs
exchanged f xs zero = sym (any_same (λ x. nat_lt (f x) 0) (λ x. false) xs (λ x. none (f x)) ∙ any_nothing xs)
  where
    none : (m : ℕ) → nat_lt m 0 ≡ false
    none m = grind (arith, nat_tests)
exchanged f xs (suc n) =
    ap (λ b. b || list_any (λ x. f x == n) xs) (exchanged f xs n)
    ∙ (sym (any_either (λ x. nat_lt (f x) n) (λ x. f x == n) xs) ∙ any_same (λ x. nat_lt (f x) n || (f x == n)) (λ x. nat_lt (f x) (suc n)) xs (λ x. more (f x) n))
  where
    more : (m n : ℕ) → (nat_lt m n || (m == n)) ≡ nat_lt m (suc n)
    more m n = grind (arith, nat_tests)

any_first : (t : ℕ → Bool) (n : ℕ) → any_below (suc n) t ≡ (t 0 || any_below n (λ b. t (suc b)))
any_first t zero = by (t 0)
  where
    by : (b : Bool) → (false || b) ≡ (b || false)
    by true = refl
    by false = refl
any_first t (suc n) = ap (λ b. b || t (suc n)) (any_first t n) ∙ sym (grouped_or (t 0) (any_below n (λ b. t (suc b))) (t (suc n)))

marks_any : (marks : List Bool) (n : ℕ) (t : ℕ → Bool) → length marks ≡ n → ((b : ℕ) → b < n → get_or marks b false ≡ t b) → any_marked marks ≡ any_below n t
marks_any [] zero t e h = refl
marks_any [] (suc n) t e h = absurd (none n e)
  where
    none : (n : ℕ) → 0 ≡ suc n → ⊥
    none n e = omega (arith, e)
marks_any (m ∷ ms) zero t e h = absurd (none (length ms) e)
  where
    none : (n : ℕ) → suc n ≡ 0 → ⊥
    none n e = omega (arith, e)
marks_any (m ∷ ms) (suc n) t e h =
    ap (λ b. b || any_marked ms) (h 0 (some n))
    ∙ (ap (λ b. t 0 || b) (marks_any ms n (λ b. t (suc b)) (less (length ms) n e) (λ b i. h (suc b) (more b n i))) ∙ sym (any_first t n))
  where
    some : (n : ℕ) → 0 < suc n
    some n = omega arith

    less : (m n : ℕ) → suc m ≡ suc n → m ≡ n
    less m n e = omega (arith, e)

    more : (b n : ℕ) → b < n → suc b < suc n
    more b n e = omega (arith, e)

count_within : (s t : ℕ → Bool) (n : ℕ) → ((k : ℕ) → k < n → s k ≡ t k) → count_below s n ≡ count_below t n
count_within s t zero h = refl
count_within s t (suc n) h = ap (λ b. (if b then 1 else 0) + count_below s n) (h n (own n)) ∙ ap (λ k. (if t n then 1 else 0) + k) (count_within s t n (λ k i. h k (more k n i)))
  where
    own : (n : ℕ) → n < suc n
    own n = omega arith

    more : (k n : ℕ) → k < n → k < suc n
    more k n e = omega (arith, e)

module _ (tree : Tree) (w : Way) (leads : LeadsTo (memories_of (program_seen tree)) w) (k : Carrier) (carrier : IsCarrier w k) where
  banks_are : length k.sources.items ≡ banks_of leads.memory.shape.dims
  banks_are = carrier.long leads.memory.shape.dims leads.steps

  pub through_few : IsProgramTable (table_of (program_seen tree)) → length k.sources.items ≤ 64
  through_few h = subst (λ (n : ℕ). n ≤ 64) (sym banks_are) (memory_kept (memories_of (program_seen tree)) w.memory leads.memory h.entries leads.found).few_banks

  -- a bank of the view is carried to those that may be reached from it
  carried_reach : (b bank : ℕ) → bank < length k.sources.items → is_carried k b bank ≡ (nat_lt b (banks_of w.is.shape.dims) && may_reach w.steps b bank)
  carried_reach b bank inside = by_size (nat_lt b (banks_of w.is.shape.dims)) refl
    where
      less_of : (b n : ℕ) → nat_lt b n ≡ true → b < n
      less_of b n e = grind (arith, nat_tests)

      past_of : (b n : ℕ) → nat_lt b n ≡ false → n ≤ b
      past_of b n e = grind (arith, nat_tests)

      apart : (s b n : ℕ) → s ≡ b → s < n → n ≤ b → ⊥
      apart s b n e f g = omega (arith, e, f, g)

      carried_is : carried_by (map (λ s. s.is) w.steps) (one_at b) bank ≡ (if is_carried k b bank then 1 else 0)
      carried_is = carrier.carries.each (one_at b) bank inside ∙ one_carried k b bank

      here : bank < banks_of leads.memory.shape.dims
      here = subst (λ (n : ℕ). bank < n) banks_are inside

      one_named : (x : ℕ) → 1 ≤ one_at b x → x ≡ b
      one_named x e = by (b == x) refl e
        where
          none : 1 ≤ 0 → ⊥
          none e = omega (arith, e)

          by : (t : Bool) → (b == x) ≡ t → 1 ≤ (if t then 1 else 0) → x ≡ b
          by true f e = sym (eqb-true b x f)
          by false f e = absurd (none e)

      one_some : 1 ≤ one_at b b
      one_some = subst (λ (t : Bool). 1 ≤ (if t then 1 else 0)) (sym (eq-eqb b b refl)) first
        where
          first : 1 ≤ 1
          first = omega arith

      at_least : (m : ℕ) → m ≡ 1 → 1 ≤ m
      at_least m e = omega (arith, e)

      none_zero : (m : ℕ) → m ≡ 0 → 1 ≤ m → ⊥
      none_zero m e f = omega (arith, e, f)

      forth : is_carried k b bank ≡ true → may_reach w.steps b bank ≡ true
      forth e =
          let r = charged_back w.steps leads.memory.shape.dims (one_at b) bank leads.steps here (at_least (carried_by (map (λ s. s.is) w.steps) (one_at b) bank) (carried_is ∙ ap (λ (t : Bool). if t then 1 else 0) e)) in
          subst (λ (x : ℕ). may_reach w.steps x bank ≡ true) (one_named r.named r.charged) r.reached

      back : b < banks_of w.is.shape.dims → may_reach w.steps b bank ≡ true → is_carried k b bank ≡ false → ⊥
      back less r e =
          none_zero (carried_by (map (λ s. s.is) w.steps) (one_at b) bank) (carried_is ∙ ap (λ (t : Bool). if t then 1 else 0) e)
          (charged_forth w.steps leads.memory.shape.dims (one_at b) bank b leads.steps (subst (λ (ds : List Dim). b < banks_of ds) (sym leads.first) less) one_some r)

      by_both : b < banks_of w.is.shape.dims → (s t : Bool) → is_carried k b bank ≡ s → may_reach w.steps b bank ≡ t → s ≡ t
      by_both less true true e f = refl
      by_both less false false e f = refl
      by_both less true false e f = absurd (clash (may_reach w.steps b bank) (forth e) f)
      by_both less false true e f = absurd (back less f e)

      by_sort : banks_of w.is.shape.dims ≤ b → (t : Bool) → (if t then nat_lt b k.banks else (slice_index k.sources.items bank == b)) ≡ false
      by_sort past true = ap (nat_lt b) carrier.carries.banks ∙ beyond b (banks_of w.is.shape.dims) past
        where
          beyond : (b n : ℕ) → n ≤ b → nat_lt b n ≡ false
          beyond b n e = grind (arith, nat_tests)
      by_sort past false = by (slice_index k.sources.items bank == b) refl
        where
          by : (t : Bool) → (slice_index k.sources.items bank == b) ≡ t → t ≡ false
          by true e = absurd (apart (slice_index k.sources.items bank) b (banks_of w.is.shape.dims) (eqb-true (slice_index k.sources.items bank) b e) (subst (λ (n : ℕ). slice_index k.sources.items bank < n) carrier.carries.banks (carrier.carries.within bank inside)) past)
          by false e = refl

      by_size : (t : Bool) → nat_lt b (banks_of w.is.shape.dims) ≡ t → is_carried k b bank ≡ (nat_lt b (banks_of w.is.shape.dims) && may_reach w.steps b bank)
      by_size true e = by_both (less_of b (banks_of w.is.shape.dims) e) (is_carried k b bank) (may_reach w.steps b bank) refl refl ∙ sym (ap (λ t. t && may_reach w.steps b bank) e)
      by_size false e = by_sort (past_of b (banks_of w.is.shape.dims) e) k.evenly ∙ sym (ap (λ t. t && may_reach w.steps b bank) e)

  module _ (a : SourceAccess) (result : ℕ) (t : ℕ → Bool) (counted : result ≡ count_below t (length k.sources.items)) (told : (bank : ℕ) → bank < length k.sources.items → t bank ≡ is_reached_through (program_seen tree) w a bank) where
    pub through_counted : result ≡ banks_through (program_seen tree) w (memory_in (memories_of (program_seen tree)) w.memory) a
    through_counted =
        counted
        ∙ (count_within t (is_reached_through (program_seen tree) w a) (length k.sources.items) told
        ∙ (ap (count_below (is_reached_through (program_seen tree) w a)) banks_are ∙ sym (ap (λ o. banks_through (program_seen tree) w o a) leads.found)))

    pub through_most : IsProgramTable (table_of (program_seen tree)) → result ≤ 64
    through_most h = within result (count_below t (length k.sources.items)) (length k.sources.items) counted (below_most t (length k.sources.items)) (through_few h)
      where
        within : (r c n : ℕ) → r ≡ c → c ≤ n → n ≤ 64 → r ≤ 64
        within r c n e f g = omega (arith, e, f, g)

  -- of one copy
  pub one_told : (a : SourceAccess) (dims : List Dim) (copies bank : ℕ) → dims ≡ w.is.shape.dims → copies ≡ copies_in (loop_factors a.site.loops) → copies ≡ 1 → bank ≡ bank_at_path tree dims a (path_of_number (loop_factors a.site.loops) 0)
      → (behind : ℕ) → behind < length k.sources.items → is_carried k bank behind ≡ is_reached_through (program_seen tree) w a behind
  one_told a dims copies bank same copied one is behind inside =
      carried_reach bank behind inside
      ∙ (ap (λ n. nat_lt n (banks_of w.is.shape.dims) && may_reach w.steps n behind) (is ∙ ap (λ ds. bank_at_path tree ds a (path_of_number (loop_factors a.site.loops) 0)) same)
      ∙ (sym (or_none (nat_lt (bank_named (program_seen tree) w a (path_of_number (loop_factors a.site.loops) 0)) (banks_of w.is.shape.dims) && may_reach w.steps (bank_named (program_seen tree) w a (path_of_number (loop_factors a.site.loops) 0)) behind))
      ∙ ap (list_any (λ path. nat_lt (bank_named (program_seen tree) w a path) (banks_of w.is.shape.dims) && may_reach w.steps (bank_named (program_seen tree) w a path) behind))
      (ap (each_below (path_of_number (loop_factors a.site.loops))) (sym one ∙ copied) ∙ all_paths (loop_factors a.site.loops))))

  -- of marks
  pub marks_told : (a : SourceAccess) (dims : List Dim) (copies : ℕ) (marks shown : List Bool) → dims ≡ w.is.shape.dims → copies ≡ copies_in (loop_factors a.site.loops) → AreBankMarks tree dims a (banks_of dims) copies marks → shown ≡ marks
      → (behind : ℕ) → behind < length k.sources.items → marked_behind k shown behind ≡ is_reached_through (program_seen tree) w a behind
  marks_told a dims copies marks shown same copied so shown_is behind inside =
      ap (λ ms. marked_behind k ms behind) shown_is
      ∙ (by k.evenly
      ∙ any_same (λ path. is_carried k (bank_at_path tree dims a path) behind) (λ path. nat_lt (bank_named (program_seen tree) w a path) (banks_of w.is.shape.dims) && may_reach w.steps (bank_named (program_seen tree) w a path) behind) (paths_of a)
      (λ path. carried_reach (bank_at_path tree dims a path) behind inside ∙ ap (λ ds. nat_lt (bank_at_path tree ds a path) (banks_of w.is.shape.dims) && may_reach w.steps (bank_at_path tree ds a path) behind) same))
    where
      mark_is : (b : ℕ) → b < banks_of dims → get_or marks b false ≡ is_reached (program_seen tree) dims a b
      mark_is b i = so.each b i ∙ all_reached tree dims a copies b copied

      counted_same : banks_of dims ≡ k.banks
      counted_same = ap banks_of same ∙ sym carrier.carries.banks

      by : (t : Bool) → (if t then any_marked marks else get_or marks (slice_index k.sources.items behind) false) ≡ list_any (λ path. if t then nat_lt (bank_at_path tree dims a path) k.banks else (slice_index k.sources.items behind == bank_at_path tree dims a path)) (paths_of a)
      by true =
          marks_any marks (banks_of dims) (is_reached (program_seen tree) dims a) so.long mark_is
          ∙ (exchanged (bank_at_path tree dims a) (paths_of a) (banks_of dims) ∙ ap (λ n. list_any (λ path. nat_lt (bank_at_path tree dims a path) n) (paths_of a)) counted_same)
      by false =
          mark_is (slice_index k.sources.items behind) (subst (λ (n : ℕ). slice_index k.sources.items behind < n) (sym counted_same) (carrier.carries.within behind inside))
          ∙ any_same (λ path. bank_at_path tree dims a path == slice_index k.sources.items behind) (λ path. slice_index k.sources.items behind == bank_at_path tree dims a path) (paths_of a) (λ path. other_way (bank_at_path tree dims a path) (slice_index k.sources.items behind))

  pub sources_marked : (a : SourceAccess) (dims : List Dim) (copies : ℕ) (marks shown : List Bool) → dims ≡ w.is.shape.dims → AreBankMarks tree dims a (banks_of dims) copies marks → shown ≡ marks → (bank : ℕ) → bank < length k.sources.items → slice_index k.sources.items bank < length shown
  sources_marked a dims copies marks shown same so shown_is bank inside =
      subst (λ (n : ℕ). slice_index k.sources.items bank < n) (sym (ap length shown_is ∙ (so.long ∙ (ap banks_of same ∙ sym carrier.carries.banks)))) (carrier.carries.within bank inside)
