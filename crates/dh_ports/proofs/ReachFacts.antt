-- What lanes tell of an access, and what the numbers of its paths keep.
use Rattle.std.proofs.Common.{◌≡◌, ℕ, ◌+◌, ◌*◌, ◌^◌, ◌<◌, ◌≤◌, Bool, List, [], map, refl, ap, sym, ◌∙◌, subst, arith, ◌⊎◌, inl, inr}
use Rattle.std.specs.Prelude.{Option}
use Rattle.std.specs.List.{AllByRecursion}
use Rattle.std.proofs.lemmas.Nat.{mul-add-lt, mul-le}
use Rattle.dh_tree.specs.declared.tables.Dim.{Dim}
use Rattle.dh_tree.specs.declared.trees.counters.Counter.{Counter}
use Rattle.dh_tree.specs.declared.trees.expressions.Expr.{Expr}
use Rattle.dh_base.specs.declared.places.Place.{Place}
use Rattle.dh_tree.specs.declared.trees.expressions.Ref.{Ref}
use Rattle.dh_tree.specs.declared.trees.programs.Tree.{Tree}
use Rattle.dh_tree.specs.PlainTrees.{Term, accessed, in_bank, no_terms}
use Rattle.dh_tree.specs.Seen.{form_seen, term_seen, terms}
use Rattle.dh_meaning.specs.Bindings.{Binding}
use Rattle.dh_meets.specs.Charges.{bank_reached, loop_factors, depends}
use Rattle.dh_meets.specs.SourceEvents.{with_indices}
use Rattle.dh_ports.specs.declared.copies.CopyLevel.{CopyLevel}
use Rattle.dh_ports.specs.declared.copies.BankDimension.{BankDimension}
use Rattle.dh_ports.specs.declared.copies.AccessPaths.{AccessPaths}
use Rattle.dh_events.specs.declared.dependence.Scope.{Scope}
use Rattle.dh_ports.specs.Banks.{key_number, path_of_number}
use Rattle.dh_shape.specs.Classified.{loops_in}
use Rattle.dh_events.specs.Accesses.{element_in}
use Rattle.dh_ports.specs.Claims.{source_of}
use Rattle.dh_ports.specs.Copies.{all_lane_banks, bank_of_lanes, greatest_key, key_of_levels, AreIndexLanes, AreLevels, AreAccessPaths, HasFewBanks, HasFewKeys, IsReach, IsSpreadLevel, copies_round}
use Rattle.dh_events.specs.Scopes.{AreScopes}
use Rattle.dh_ports.proofs.BankTurns.{no_bank}
use Rattle.dh_ports.proofs.CopyTurns.{bank_most}
use Rattle.dh_ports.proofs.LevelTurns.{key_told, levels_spread, greatest_below}
use Rattle.dh_ports.proofs.PathNumbers.{keys_most, key_below}

no_lanes : HasFewBanks []
no_lanes = record { few = omega arith; banks = tt }

module _ (tree : Tree) (loops : List Counter) (dims : List Dim) (access : Expr) where
  pub reach_lanes : (lanes : List BankDimension) (of : Ref) (es : List Expr) → form_seen access.form ≡ accessed of (terms (map term_seen es)) → AreIndexLanes tree loops dims es lanes → IsReach tree loops dims access lanes 0
  reach_lanes lanes of es e are = record {
    few = are.few;
    alone = inl refl;
    each = λ picks levels writes number a.
        none (bank_of_lanes levels lanes number)
        ∙ (are.each picks levels number a ∙ sym (ap (λ f. bank_reached (loops_in tree) dims (source_of loops writes access) (path_of_number (loop_factors loops) number) (element_in f)) e));
  }
    where
      none : (n : ℕ) → 0 + n ≡ n
      none n = omega arith

  pub reach_row : (lanes : List BankDimension) (of : Ref) (bank : ℕ) (place : Place) (row : Term) → lanes ≡ [] → form_seen access.form ≡ in_bank of bank place row → IsReach tree loops dims access lanes bank
  reach_row lanes of bank place row l e = record {
    few = subst (λ (x : List BankDimension). HasFewBanks x) (sym l) no_lanes;
    alone = inr l;
    each = λ picks levels writes number a.
        ap (λ x. bank + bank_of_lanes levels x number) l
        ∙ (none bank ∙ sym (ap (λ f. bank_reached (loops_in tree) dims (source_of loops writes access) (path_of_number (loop_factors loops) number) (element_in f)) e));
  }
    where
      none : (n : ℕ) → n + 0 ≡ n
      none n = omega arith

  pub reach_none : (lanes : List BankDimension) → lanes ≡ [] → element_in (form_seen access.form) ≡ with_indices no_terms → IsReach tree loops dims access lanes 0
  reach_none lanes l e = record {
    few = subst (λ (x : List BankDimension). HasFewBanks x) (sym l) no_lanes;
    alone = inr l;
    each = λ picks levels writes number a.
        ap (λ x. 0 + bank_of_lanes levels x number) l
        ∙ (sym (no_bank dims) ∙ sym (ap (λ f. bank_reached (loops_in tree) dims (source_of loops writes access) (path_of_number (loop_factors loops) number) f) e));
  }

  -- an own bank and what lanes tell fit a word
  pub reach_few : (lanes : List BankDimension) (own : ℕ) (levels : List CopyLevel) (number : ℕ) → IsReach tree loops dims access lanes own → own < 2 ^ 64 → own + bank_of_lanes levels lanes number < 2 ^ 64
  reach_few lanes own levels number r e = by r.alone (bank_most levels lanes number r.few.banks)
    where
      first : (o n m : ℕ) → o ≡ 0 → n ≤ m → m ≤ 4096 → o + n < 2 ^ 64
      first o n m a b c = omega (arith, a, b, c)

      other : (o : ℕ) → o < 2 ^ 64 → o + 0 < 2 ^ 64
      other o a = omega (arith, a)

      by : (own ≡ 0) ⊎ (lanes ≡ []) → bank_of_lanes levels lanes number ≤ all_lane_banks lanes → own + bank_of_lanes levels lanes number < 2 ^ 64
      by (inl z) h = first own _ _ z h r.few.few
      by (inr l) h = subst (λ (x : List BankDimension). own + bank_of_lanes levels x number < 2 ^ 64) (sym l) (other own e)

module _ (bs : List Binding) (scopes : List (Option Scope)) (loops : List Counter) (access : Expr) (writes : Bool) (paths : AccessPaths) (so : AreAccessPaths scopes loops access writes paths) (are : AreScopes bs scopes) (one : 1 ≤ paths.count) where
  pub copies_some : 1 ≤ copies_round loops
  copies_some = subst (λ (n : ℕ). 1 ≤ n) so.count one

  pub levels_are : AreLevels (depends bs (source_of loops writes access)) 0 (loop_factors loops) paths.levels.items
  levels_are = so.levels bs are copies_some

  pub paths_spread : AllByRecursion IsSpreadLevel paths.levels.items
  paths_spread = levels_spread (depends bs (source_of loops writes access)) 0 (loop_factors loops) paths.levels.items copies_some levels_are

  pub paths_few : copies_round loops ≤ 256 → HasFewKeys paths.levels.items
  paths_few few = within (greatest_key paths.levels.items) _ (copies_round loops) (greatest_below (depends bs (source_of loops writes access)) 0 (loop_factors loops) paths.levels.items copies_some levels_are) (keys_most (depends bs (source_of loops writes access)) 0 (loop_factors loops) copies_some).1 few
    where
      within : (g k c : ℕ) → g + 1 ≤ k → k ≤ c → c ≤ 256 → g ≤ 256 * 256
      within g k c e f h = omega (arith, e, f, h)

  pub paths_key : (number : ℕ) → key_of_levels paths.levels.items number ≡ key_number (depends bs (source_of loops writes access)) 0 (loop_factors loops) number
  paths_key number = key_told (depends bs (source_of loops writes access)) 0 (loop_factors loops) paths.levels.items number levels_are

  pub keys_below : (number : ℕ) → key_number (depends bs (source_of loops writes access)) 0 (loop_factors loops) number < copies_round loops
  keys_below number = less _ _ _ (key_below (depends bs (source_of loops writes access)) 0 (loop_factors loops) number copies_some) (keys_most (depends bs (source_of loops writes access)) 0 (loop_factors loops) copies_some).1
    where
      less : (a b c : ℕ) → a < b → b ≤ c → a < c
      less a b c e f = omega (arith, e, f)

-- a pair of a bank and a key is a small number
pub pair_few : (bank banks count key : ℕ) → bank < banks → banks ≤ 64 → count ≤ 256 → key < count → bank * count + key < 16384
pair_few bank banks count key a b c d = within (bank * count + key) count banks (mul-add-lt bank count key banks a d) (product count banks c b)
  where
    product : (c b : ℕ) → c ≤ 256 → b ≤ 64 → c * b ≤ 256 * 64
    product c b e f = mul-le c b 256 64 e f

    within : (n c b : ℕ) → n < c * b → c * b ≤ 256 * 64 → n < 16384
    within n c b e f = omega (arith, e, f)
