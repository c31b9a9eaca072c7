-- The keys of an access that are counted by numbers of paths are those that it has at the paths.
use Rattle.std.proofs.Common.{◌≡◌, ℕ, zero, suc, ◌+◌, ◌<◌, ◌≤◌, ◌==◌, Bool, List, map, refl, ap, sym, ◌∙◌, subst, arith, ◌⊎◌, inl, inr}
use Rattle.std.specs.Prelude.{Option}
use Rattle.std.specs.List.{filter}
use Rattle.std.specs.Set.{distinct_count}
use Rattle.dh_tree.specs.declared.tables.Dim.{Dim}
use Rattle.dh_tree.specs.declared.trees.counters.Counter.{Counter}
use Rattle.dh_tree.specs.declared.trees.expressions.Expr.{Expr}
use Rattle.dh_tree.specs.declared.trees.programs.Tree.{Tree}
use Rattle.dh_tree.specs.Seen.{program_seen}
use Rattle.dh_events.specs.declared.dependence.Scope.{Scope}
use Rattle.dh_events.specs.Scopes.{AreScopes}
use Rattle.dh_meaning.specs.Paths.{same_path}
use Rattle.dh_meaning.specs.Ways.{all_bindings_of}
use Rattle.dh_meets.specs.Charges.{loop_factors, depends, key_of}
use Rattle.dh_ports.specs.declared.copies.PathReach.{PathReach}
use Rattle.dh_ports.specs.Banks.{bank_at_path, each_below, key_number, path_of_number}
use Rattle.dh_ports.specs.Claims.{keys_on, source_of}
use Rattle.dh_ports.specs.Copies.{bank_at_path_number, copies_round, key_by, key_count_from, same_number, AreKeyCounts, IsAccessReach, TellsPaths}
use Rattle.dh_ports.proofs.EachFacts.{distinct_mapped, each_mapped, each_told, filter_same, map_twice, mapped_filter}
use Rattle.dh_ports.proofs.PathNumbers.{each_same, no_paths, paths_are, same_keys}
use Rattle.dh_ports.proofs.ReachFacts.{copies_some, keys_below, levels_are, paths_few, paths_key, paths_spread}

pub none_or_some : (m : ℕ) → (1 ≤ m) ⊎ (m ≡ 0)
none_or_some zero = inr refl
none_or_some (suc m) = inl (omega arith)

module _ (tree : Tree) (scopes : List (Option Scope)) (loops : List Counter) (dims : List Dim) (access : Expr) (writes : Bool) (reach : PathReach) (so : IsAccessReach scopes tree loops dims access writes reach) (are : AreScopes (all_bindings_of (program_seen tree)) scopes) where
  module _ (one : 1 ≤ reach.paths.count) where
    pub bank_told : (number : ℕ) → bank_at_path_number reach number ≡ bank_at_path tree dims (source_of loops writes access) (path_of_number (loop_factors loops) number)
    bank_told number =
        so.lanes.each (depends (all_bindings_of (program_seen tree)) (source_of loops writes access)) reach.paths.levels.items writes number
        (levels_are (all_bindings_of (program_seen tree)) scopes loops access writes reach.paths so.paths are one)

    key_is : (number : ℕ) → key_by reach number ≡ key_number (depends (all_bindings_of (program_seen tree)) (source_of loops writes access)) 0 (loop_factors loops) number
    key_is number = paths_key (all_bindings_of (program_seen tree)) scopes loops access writes reach.paths so.paths are one number

    keys_told : (m n : ℕ) → same_number (key_by reach m) (key_by reach n)
        ≡ same_path (key_of (all_bindings_of (program_seen tree)) (source_of loops writes access) (path_of_number (loop_factors loops) m)) (key_of (all_bindings_of (program_seen tree)) (source_of loops writes access) (path_of_number (loop_factors loops) n))
    keys_told m n =
        ap (λ x. same_number x (key_by reach n)) (key_is m)
        ∙ (ap (λ x. same_number (key_number (depends (all_bindings_of (program_seen tree)) (source_of loops writes access)) 0 (loop_factors loops) m) x) (key_is n)
        ∙ same_keys (depends (all_bindings_of (program_seen tree)) (source_of loops writes access)) 0 (loop_factors loops) m n (copies_some (all_bindings_of (program_seen tree)) scopes loops access writes reach.paths so.paths are one))

    -- the keys of paths that follow on one another
    pub keys_by_path : (from many bank : ℕ) → key_count_from reach from many bank
        ≡ distinct_count same_path (map (key_of (all_bindings_of (program_seen tree)) (source_of loops writes access)) (filter (λ path. bank_at_path tree dims (source_of loops writes access) path == bank) (each_below (λ k. path_of_number (loop_factors loops) (from + k)) many)))
    keys_by_path from many bank =
        ap (λ l. distinct_count same_number (map (key_by reach) l)) (filter_same (λ n. bank_at_path_number reach n == bank) (λ n. bank_at_path tree dims (source_of loops writes access) (path_of_number (loop_factors loops) n) == bank) (each_below (λ k. from + k) many) (λ n. ap (λ b. b == bank) (bank_told n)))
        ∙ (distinct_mapped same_number same_path (key_by reach) (λ n. key_of (all_bindings_of (program_seen tree)) (source_of loops writes access) (path_of_number (loop_factors loops) n))
        (filter (λ n. bank_at_path tree dims (source_of loops writes access) (path_of_number (loop_factors loops) n) == bank) (each_below (λ k. from + k) many)) keys_told
        ∙ ap (distinct_count same_path) (sym (
        ap (λ l. map (key_of (all_bindings_of (program_seen tree)) (source_of loops writes access)) (filter (λ path. bank_at_path tree dims (source_of loops writes access) path == bank) l)) (each_mapped (path_of_number (loop_factors loops)) (λ k. from + k) many)
        ∙ (ap (map (key_of (all_bindings_of (program_seen tree)) (source_of loops writes access))) (mapped_filter (path_of_number (loop_factors loops)) (λ path. bank_at_path tree dims (source_of loops writes access) path == bank) (each_below (λ k. from + k) many))
        ∙ map_twice (path_of_number (loop_factors loops)) (key_of (all_bindings_of (program_seen tree)) (source_of loops writes access)) (filter (λ n. bank_at_path tree dims (source_of loops writes access) (path_of_number (loop_factors loops) n) == bank) (each_below (λ k. from + k) many))))))

    pub tells_paths : copies_round loops ≤ 256 → TellsPaths reach
    tells_paths few = record {
      spread = paths_spread (all_bindings_of (program_seen tree)) scopes loops access writes reach.paths so.paths are one;
      keys = paths_few (all_bindings_of (program_seen tree)) scopes loops access writes reach.paths so.paths are one few;
      below = λ number.
          subst (λ (n : ℕ). n < reach.paths.count) (sym (key_is number))
          (subst (λ (n : ℕ). key_number (depends (all_bindings_of (program_seen tree)) (source_of loops writes access)) 0 (loop_factors loops) number < n) (sym so.paths.count) (keys_below (all_bindings_of (program_seen tree)) scopes loops access writes reach.paths so.paths are one number));
      lanes = so.lanes.few;
      alone = so.lanes.alone;
      few = subst (λ (n : ℕ). n ≤ 256) (sym so.paths.count) few;
    }

  -- the keys of all paths
  pub keys_of_all : (bank : ℕ) → key_count_from reach 0 reach.paths.count bank ≡ keys_on (program_seen tree) dims (source_of loops writes access) bank
  keys_of_all bank = by (none_or_some reach.paths.count)
    where
      zero_more : (k : ℕ) → 0 + k ≡ k
      zero_more k = omega arith

      by : (1 ≤ reach.paths.count) ⊎ (reach.paths.count ≡ 0) → key_count_from reach 0 reach.paths.count bank ≡ keys_on (program_seen tree) dims (source_of loops writes access) bank
      by (inl one) =
          keys_by_path one 0 reach.paths.count bank
          ∙ ap (λ l. distinct_count same_path (map (key_of (all_bindings_of (program_seen tree)) (source_of loops writes access)) (filter (λ path. bank_at_path tree dims (source_of loops writes access) path == bank) l)))
          (each_same (λ k. path_of_number (loop_factors loops) (0 + k)) (path_of_number (loop_factors loops)) reach.paths.count (λ k i. ap (path_of_number (loop_factors loops)) (zero_more k))
          ∙ (ap (each_below (path_of_number (loop_factors loops))) so.paths.count ∙ sym (paths_are (loop_factors loops) (subst (λ (n : ℕ). 1 ≤ n) so.paths.count one))))
      by (inr none) =
          ap (λ n. key_count_from reach 0 n bank) none
          ∙ sym (ap (λ l. distinct_count same_path (map (key_of (all_bindings_of (program_seen tree)) (source_of loops writes access)) (filter (λ path. bank_at_path tree dims (source_of loops writes access) path == bank) l))) (no_paths (loop_factors loops) (sym so.paths.count ∙ none)))

  pub counts_are : (banks : ℕ) (counts : List ℕ) → AreKeyCounts reach 0 reach.paths.count banks counts → counts ≡ each_below (keys_on (program_seen tree) dims (source_of loops writes access)) banks
  counts_are banks counts h = each_told (keys_on (program_seen tree) dims (source_of loops writes access)) banks counts h.long (λ bank inside. h.each bank inside ∙ keys_of_all bank)
