-- What the copies of an access through views charge is the sum of what is carried of the keys of each block of paths
-- for which the offsets of shifts are equal.
use Rattle.std.proofs.Common.{◌≡◌, ℕ, zero, suc, ◌+◌, ◌*◌, ◌/◌, ◌<◌, ◌≤◌, ◌==◌, Bool, List, [], ◌∷◌, ◌++◌, length, map, replicate, slice_index, take, drop, refl, ap, sym, subst, ◌∙◌, arith}
use mathlib.Core.Path.{fun_ext}
use Rattle.std.specs.Prelude.{Option}
use Rattle.std.specs.List.{filter}
use Rattle.std.specs.Set.{distinct_count, unique_keys}
use Rattle.std.proofs.lemmas.Nat.{div-mul-add}
use Rattle.dh_tree.specs.declared.tables.Dim.{Dim}
use Rattle.dh_tree.specs.declared.trees.counters.Counter.{Counter}
use Rattle.dh_tree.specs.declared.trees.expressions.Expr.{Expr}
use Rattle.dh_tree.specs.declared.trees.programs.Tree.{Tree}
use Rattle.dh_tree.specs.PlainTrees.{Program}
use Rattle.dh_tree.specs.Seen.{program_seen}
use Rattle.dh_tree.proofs.BankElements.{column_exists, row_below}
use Rattle.dh_viewing.specs.Carried.{carried_by}
use Rattle.dh_events.specs.declared.dependence.Scope.{Scope}
use Rattle.dh_events.specs.Scopes.{AreScopes}
use Rattle.dh_meaning.specs.Paths.{Path, copies_in, same_path}
use Rattle.dh_meaning.specs.Ways.{Way, all_bindings_of}
use Rattle.dh_meets.specs.Charges.{bank_named, bank_reached, charge_through, depends, loop_factors, groups_of, key_of, keys_in_group, paths_of, sum_over}
use Rattle.dh_meets.specs.SourceEvents.{SourceAccess}
use Rattle.dh_ports.specs.declared.carrying.Carrier.{Carrier}
use Rattle.dh_ports.specs.declared.copies.PathReach.{PathReach}
use Rattle.dh_ports.specs.Banks.{each_below, path_of_number}
use Rattle.dh_shape.specs.Classified.{loops_in}
use Rattle.dh_ports.specs.Carriers.{carried_to, group_sum, sum_below, AreGroupSums, Carries}
use Rattle.dh_ports.specs.Claims.{source_of}
use Rattle.dh_ports.specs.Copies.{key_count_from, stride_in, IsAccessReach}
use Rattle.dh_ports.proofs.CarrierMade.{zero_at, zeros_long}
use Rattle.dh_ports.proofs.EachFacts.{each_mapped, each_told}
use Rattle.dh_ports.proofs.PathBlocks.{blocks_unique, copies_split, filter_block, filter_both, paths_apart, stride_is, take_path}
use Rattle.dh_ports.proofs.PathNumbers.{each_same, no_paths, paths_are}
use Rattle.dh_ports.proofs.RangeKeys.{keys_by_path}
use Rattle.dh_ports.proofs.ReachFacts.{levels_are}

-- Sums.

sum_last : (xs : List Path) (x : Path) (count : Path → ℕ) → sum_over (xs ++ x ∷ []) count ≡ sum_over xs count + count x
sum_last [] x count = one (count x)
  where
    one : (n : ℕ) → n + 0 ≡ 0 + n
    one n = omega arith
sum_last (y ∷ xs) x count = ap (λ n. count y + n) (sum_last xs x count) ∙ grouped (count y) (sum_over xs count) (count x)
  where
    grouped : (a b c : ℕ) → a + (b + c) ≡ a + b + c
    grouped a b c = omega arith

sum_each : (q : ℕ → Path) (n : ℕ) (count : Path → ℕ) → sum_over (each_below q n) count ≡ sum_below n (λ k. count (q k))
sum_each q zero count = refl
sum_each q (suc n) count = sum_last (each_below q n) (q n) count ∙ ap (λ m. m + count (q n)) (sum_each q n count)

pub sum_same : (f g : ℕ → ℕ) (n : ℕ) → ((k : ℕ) → k < n → f k ≡ g k) → sum_below n f ≡ sum_below n g
sum_same f g zero e = refl
sum_same f g (suc n) e = ap (λ m. m + f n) (sum_same f g n (λ k i. e k (more k n i))) ∙ ap (λ m. sum_below n g + m) (e n (own n))
  where
    more : (k n : ℕ) → k < n → k < suc n
    more k n e = omega (arith, e)

    own : (n : ℕ) → n < suc n
    own n = omega arith

pub sum_most : (f : ℕ → ℕ) (n most : ℕ) → ((k : ℕ) → k < n → f k ≤ most) → sum_below n f ≤ n * most
sum_most f zero most e = least (0 * most)
  where
    least : (n : ℕ) → 0 ≤ n
    least n = omega arith
sum_most f (suc n) most e = both (sum_below n f) (f n) n most (sum_most f n most (λ k i. e k (more k n i))) (e n (own n))
  where
    more : (k n : ℕ) → k < n → k < suc n
    more k n e = omega (arith, e)

    own : (n : ℕ) → n < suc n
    own n = omega arith

    both : (a b n m : ℕ) → a ≤ n * m → b ≤ m → a + b ≤ suc n * m
    both a b n m e f = omega (arith, e, f)

-- Groups.

-- without copies nothing is charged
none_charged : (p : Program) (w : Way) (a : SourceAccess) (bank : ℕ) → copies_in (loop_factors a.site.loops) ≡ 0 → charge_through p w a bank ≡ 0
none_charged p w a bank e =
    ap (λ l. sum_over (unique_keys same_path (map (λ path. take w.shifts path) l)) (λ group. carried_by (map (λ s. s.is) w.steps) (keys_in_group p w a group) bank)) (no_paths (loop_factors a.site.loops) e)

pub none_sums : (p : Program) (w : Way) (a : SourceAccess) (n many : ℕ) (sums : List ℕ) → copies_in (loop_factors a.site.loops) ≡ 0 → n ≡ many → sums ≡ replicate n 0 → sums ≡ each_below (charge_through p w a) many
none_sums p w a n many sums none e so =
    each_told (charge_through p w a) many sums (ap length so ∙ (zeros_long n ∙ e)) (λ bank inside. ap (λ l. slice_index l bank) so ∙ (zero_at n bank ∙ sym (none_charged p w a bank none)))

module _ (tree : Tree) (scopes : List (Option Scope)) (loops : List Counter) (dims : List Dim) (access : Expr) (writes : Bool) (reach : PathReach) (so : IsAccessReach scopes tree loops dims access writes reach) (are : AreScopes (all_bindings_of (program_seen tree)) scopes)
    (one : 1 ≤ reach.paths.count) (w : Way) (named : dims ≡ w.is.shape.dims) where
  some : 1 ≤ copies_in (loop_factors loops)
  some = subst (λ (n : ℕ). 1 ≤ n) so.paths.count one

  parted : copies_in (loop_factors loops) ≡ copies_in (take w.shifts (loop_factors loops)) * copies_in (drop w.shifts (loop_factors loops))
  parted = copies_split (loop_factors loops) w.shifts

  inside_some : 1 ≤ copies_in (drop w.shifts (loop_factors loops))
  inside_some = column_exists 0 (copies_in (take w.shifts (loop_factors loops))) (copies_in (drop w.shifts (loop_factors loops))) (first _ _ parted some)
    where
      first : (a b : ℕ) → a ≡ b → 1 ≤ a → 0 < b
      first a b e f = omega (arith, e, f)

  groups_are : groups_of w (source_of loops writes access) ≡ each_below (path_of_number (take w.shifts (loop_factors loops))) (copies_in (take w.shifts (loop_factors loops)))
  groups_are =
      ap (λ l. unique_keys same_path (map (λ path. take w.shifts path) l)) (paths_are (loop_factors loops) some)
      ∙ (ap (unique_keys same_path)
      (sym (each_mapped (λ path. take w.shifts path) (path_of_number (loop_factors loops)) (copies_in (loop_factors loops)))
      ∙ (each_same (λ n. take w.shifts (path_of_number (loop_factors loops) n)) (λ n. path_of_number (take w.shifts (loop_factors loops)) (n / copies_in (drop w.shifts (loop_factors loops)))) (copies_in (loop_factors loops)) (λ n i. take_path (loop_factors loops) w.shifts n)
      ∙ ap (each_below (λ n. path_of_number (take w.shifts (loop_factors loops)) (n / copies_in (drop w.shifts (loop_factors loops))))) parted))
      ∙ blocks_unique (take w.shifts (loop_factors loops)) (copies_in (drop w.shifts (loop_factors loops))) (copies_in (take w.shifts (loop_factors loops))) inside_some (own (copies_in (take w.shifts (loop_factors loops)))))
    where
      own : (n : ℕ) → n ≤ n
      own n = omega arith

  -- the keys of a group are those of its block
  keys_of_group : (group bank : ℕ) → group < copies_in (take w.shifts (loop_factors loops))
      → keys_in_group (program_seen tree) w (source_of loops writes access) (path_of_number (take w.shifts (loop_factors loops)) group) bank ≡ key_count_from reach (group * copies_in (drop w.shifts (loop_factors loops))) (copies_in (drop w.shifts (loop_factors loops))) bank
  keys_of_group group bank below =
      ap (λ l. distinct_count same_path (map (key_of (all_bindings_of (program_seen tree)) (source_of loops writes access)) l))
      (filter_both (λ path. same_path (take w.shifts path) (path_of_number (take w.shifts (loop_factors loops)) group)) (λ path. bank_named (program_seen tree) w (source_of loops writes access) path == bank) (paths_of (source_of loops writes access))
      ∙ ap (filter (λ path. bank_named (program_seen tree) w (source_of loops writes access) path == bank))
      (ap (filter (λ path. same_path (take w.shifts path) (path_of_number (take w.shifts (loop_factors loops)) group))) (paths_are (loop_factors loops) some ∙ ap (each_below (path_of_number (loop_factors loops))) parted)
      ∙ filter_block (λ path. same_path (take w.shifts path) (path_of_number (take w.shifts (loop_factors loops)) group)) (path_of_number (loop_factors loops)) (copies_in (take w.shifts (loop_factors loops))) (copies_in (drop w.shifts (loop_factors loops))) group inside_some below
      (λ n i.
      ap (λ q. same_path q (path_of_number (take w.shifts (loop_factors loops)) group)) (take_path (loop_factors loops) w.shifts n)
      ∙ paths_apart (take w.shifts (loop_factors loops)) (n / copies_in (drop w.shifts (loop_factors loops))) group (row_below n (copies_in (take w.shifts (loop_factors loops))) (copies_in (drop w.shifts (loop_factors loops))) i) below)))
      ∙ (ap (λ ds. distinct_count same_path (map (key_of (all_bindings_of (program_seen tree)) (source_of loops writes access))
      (filter (λ path. bank_reached (loops_in tree) ds (source_of loops writes access) path (source_of loops writes access).element == bank) (each_below (λ k. path_of_number (loop_factors loops) (group * copies_in (drop w.shifts (loop_factors loops)) + k)) (copies_in (drop w.shifts (loop_factors loops)))))))
      (sym named)
      ∙ sym (keys_by_path tree scopes loops dims access writes reach so are one (group * copies_in (drop w.shifts (loop_factors loops))) (copies_in (drop w.shifts (loop_factors loops))) bank))

  module _ (stride groups : ℕ) (strided : stride ≡ stride_in reach.paths.levels.items w.shifts reach.paths.count) (grouped : groups ≡ reach.paths.count / stride) where
    stride_so : stride ≡ copies_in (drop w.shifts (loop_factors loops))
    stride_so =
        strided
        ∙ stride_is (depends (all_bindings_of (program_seen tree)) (source_of loops writes access)) 0 (loop_factors loops) reach.paths.levels.items w.shifts reach.paths.count
        (levels_are (all_bindings_of (program_seen tree)) scopes loops access writes reach.paths so.paths are one) so.paths.count

    groups_so : groups ≡ copies_in (take w.shifts (loop_factors loops))
    groups_so =
        grouped
        ∙ (ap (λ n. n / stride) (so.paths.count ∙ parted)
        ∙ (ap (λ n. copies_in (take w.shifts (loop_factors loops)) * copies_in (drop w.shifts (loop_factors loops)) / n) stride_so
        ∙ (ap (λ n. n / copies_in (drop w.shifts (loop_factors loops))) (nothing_more (copies_in (take w.shifts (loop_factors loops)) * copies_in (drop w.shifts (loop_factors loops))))
        ∙ div-mul-add (copies_in (take w.shifts (loop_factors loops))) (copies_in (drop w.shifts (loop_factors loops))) 0 (above (copies_in (drop w.shifts (loop_factors loops))) inside_some))))
      where
        nothing_more : (n : ℕ) → n ≡ n + 0
        nothing_more n = omega arith

        above : (n : ℕ) → 1 ≤ n → 0 < n
        above n e = omega (arith, e)

    pub stride_some : 1 ≤ stride
    stride_some = subst (λ (n : ℕ). 1 ≤ n) (sym stride_so) inside_some

    -- the groups are all paths
    pub groups_all : groups * stride ≡ reach.paths.count
    groups_all = ap (λ n. n * stride) groups_so ∙ (ap (λ n. copies_in (take w.shifts (loop_factors loops)) * n) stride_so ∙ (sym parted ∙ sym so.paths.count))

    charge_is : (c : Carrier) → Carries w c → (bank : ℕ) → bank < length c.sources.items → group_sum reach c stride groups bank ≡ charge_through (program_seen tree) w (source_of loops writes access) bank
    charge_is c carries bank inside =
        ap (λ n. group_sum reach c n groups bank) stride_so
        ∙ (ap (λ n. group_sum reach c (copies_in (drop w.shifts (loop_factors loops))) n bank) groups_so
        ∙ (sum_same (λ group. carried_to c (key_count_from reach (group * copies_in (drop w.shifts (loop_factors loops))) (copies_in (drop w.shifts (loop_factors loops)))) bank)
        (λ group. carried_by (map (λ s. s.is) w.steps) (keys_in_group (program_seen tree) w (source_of loops writes access) (path_of_number (take w.shifts (loop_factors loops)) group)) bank) (copies_in (take w.shifts (loop_factors loops)))
        (λ group below. sym (
        carries.each (keys_in_group (program_seen tree) w (source_of loops writes access) (path_of_number (take w.shifts (loop_factors loops)) group)) bank inside
        ∙ ap (λ f. carried_to c f bank) (fun_ext (λ b. keys_of_group group b below))))
        ∙ sym (
        ap (λ l. sum_over l (λ group. carried_by (map (λ s. s.is) w.steps) (keys_in_group (program_seen tree) w (source_of loops writes access) group) bank)) groups_are
        ∙ sum_each (path_of_number (take w.shifts (loop_factors loops))) (copies_in (take w.shifts (loop_factors loops))) (λ group. carried_by (map (λ s. s.is) w.steps) (keys_in_group (program_seen tree) w (source_of loops writes access) group) bank))))

    pub sums_are : (c : Carrier) (sums : List ℕ) → Carries w c → AreGroupSums reach c stride groups sums → sums ≡ each_below (charge_through (program_seen tree) w (source_of loops writes access)) (length c.sources.items)
    sums_are c sums carries h = each_told (charge_through (program_seen tree) w (source_of loops writes access)) (length c.sources.items) sums h.long (λ bank inside. h.each bank inside ∙ charge_is c carries bank inside)
