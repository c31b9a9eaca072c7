use Rattle.std.proofs.Common.{◌≡◌, ◌||◌, ℕ, List, drop, nat_cmp, bytes_eq}
use Rattle.std.specs.Set.{is_member}
use Rattle.std.specs.BTreeSet.{contains_by}
use Rattle.std.specs.Cmp.Lexicographic.{slice_cmp}
use Rattle.dh_data.specs.DataFiles.{outside_names}
use Rattle.dh_data.proofs.data_files.outside_names.Given as goal

abbrev pub invariant-loop-entry : goal.invariant-loop-entry
invariant-loop-entry l = (q : List ℕ) → (contains_by (λ k. slice_cmp nat_cmp q k.now) l.known || is_member bytes_eq (outside_names (drop l.entry-index l.entries)) q) ≡ is_member bytes_eq (outside_names l.entries) q
