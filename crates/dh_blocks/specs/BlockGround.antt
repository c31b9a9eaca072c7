-- What stands round the paths of a block, and of what is found along it that shared reads mean the same.
use Rattle.std.specs.Prelude.{◌≡◌, ℕ, ◌+◌, ◌<◌, ◌^◌, true, false, List, length, slice_get, Option, Some, None, [], ◌∷◌}
use Rattle.dh_tree.specs.PlainTrees as plain
use Rattle.dh_tree.specs.Seen.{terms}
use Rattle.dh_tree.specs.ViewOffsets.{offsets_of}
use Rattle.dh_tree.specs.PlainTrees.{Action, action, ActionForm, lets, lets_memory, views, assigns, stores, reduces, calls, blocks, decides, repeats, counts, MaybeAction, no_action, one_action, Actions, no_actions, action_then, Groups, no_groups, group_then}
use Rattle.dh_meaning.specs.AccessNumbers.{accesses_of, part_accesses, term_accesses}
use Rattle.dh_meaning.specs.CoreOf.{way_of}
use Rattle.dh_meaning.specs.Effects.{Effect, Variables}
use Rattle.dh_meaning.specs.Paths.{copies_in}
use Rattle.dh_meaning.specs.Ways.{Hidden, hidden_in}
use Rattle.dh_expressions.specs.declared.accesses.Accesses.{Accesses}
use Rattle.dh_expressions.specs.declared.scenes.Around.{Around}
use Rattle.dh_expressions.specs.declared.scenes.Scene.{Scene}
use Rattle.dh_expressions.specs.Copying.{HasScopes}
use Rattle.dh_expressions.specs.Drafted.{BlockStep}
use Rattle.dh_expressions.specs.Evaluated.{known_in}
use Rattle.dh_commands.specs.LanesRun.{IsArm, paths_counted, paths_on}
use Rattle.dh_commands.specs.ShownVariables.{IsSeen, level_factors, register_in, seen_path}
use Rattle.dh_commands.specs.Followed.{Arms, no_arms, arms_of, arms_then, assign_run, effect_of, kept_run, part_effect, reduced_term, store_run, term_in, test_out, test_run, tested}
use Rattle.dh_blocks.specs.FoundAccesses.{Found, term_found, terms_found, variables_along}
use Rattle.dh_blocks.specs.ChosenReads.{done_of, word_found}
use Rattle.dh_blocks.specs.PathsOfLevels.{AreSpread}

-- the paths of a block, or of an arm in it
pub record IsGround (scene : Scene) (around : Around) : Type 0 where
  pub scopes : HasScopes scene
  pub low : length around.levels.now < 2 ^ 63
  pub spread : AreSpread around.levels.now
  pub counted : paths_counted around ≡ copies_in (level_factors around.levels.now)
  pub one : (e i j : ℕ) → IsSeen scene around.levels.now e → i < paths_counted around → j < paths_counted around
      → seen_path scene around e i ≡ seen_path scene around e j → register_in scene around e i ≡ register_in scene around e j

-- of each access that is found, by its number, where the first has this one
abbrev pub AllFound : (P : ℕ → Found → Type 0) → (n : ℕ) → List Found → Type 0
AllFound P n fs = (i : ℕ) (f : Found) → slice_get fs i ≡ Some f → P (n + i) f

abbrev pub IsFoundAt : (find : ℕ → Option Found) → (number : ℕ) → Found → Type 0
IsFoundAt find number f = find number ≡ Some f

-- the accesses of these numbers are found so
abbrev pub AreFoundAt : (find : ℕ → Option Found) → (n : ℕ) → List Found → Type 0
AreFoundAt find n fs = AllFound (IsFoundAt find) n fs

abbrev pub FoundAreWithin : (find : ℕ → Option Found) → Accesses → Type 0
FoundAreWithin find a = (number : ℕ) (f : Found) → find number ≡ Some f → number < length a.touched.items

module _ (scene : Scene) (x : BlockStep) (find : ℕ → Option Found) where
  -- where a read that shares an earlier one is done that one is, and means the same
  abbrev pub IsShared : (number : ℕ) → Found → Type 0
  IsShared number f =
      (earlier path : ℕ) → slice_get scene.shares.now number ≡ Some (Some earlier) → path < length f.standing.guards → done_of x (Some f) path ≡ true
      → (done_of x (find earlier) path ≡ true) × (word_found (find earlier) path ≡ f.word path)

  abbrev pub AreShared : (n : ℕ) → List Found → Type 0
  AreShared n fs = AllFound IsShared n fs

  abbrev pub IsReadAt : (number : ℕ) → Found → Type 0
  IsReadAt number f = IsFoundAt find number f × IsShared number f

  abbrev pub AreReadAt : (n : ℕ) → List Found → Type 0
  AreReadAt n fs = AllFound IsReadAt n fs

  -- The same of the reads of commands along their run; in an arm, where it is one.

  abbrev pub TermShares : Around → (variables : ℕ → Variables) → (n : ℕ) → plain.Term → Type 0
  TermShares around variables n t = AreShared n (term_found scene around x variables n t)

  -- of the reads in the indices of a target
  abbrev pub TargetShares : Around → (variables : ℕ → Variables) → (n : ℕ) → plain.Term → Type 0
  TargetShares around variables n (plain.term place k (plain.accessed r ts)) = AreShared n (terms_found scene around x variables n ts)
  TargetShares around variables n (plain.term place k (plain.in_bank r bank at row)) = AreShared n (term_found scene around x variables n row)
  TargetShares around variables n (plain.term place k (plain.number negative z)) = Unit {0}
  TargetShares around variables n (plain.term place k (plain.truth_value b)) = Unit {0}
  TargetShares around variables n (plain.term place k (plain.named r)) = Unit {0}
  TargetShares around variables n (plain.term place k (plain.applied op left right)) = Unit {0}
  TargetShares around variables n (plain.term place k (plain.converted inner to)) = Unit {0}

  -- of the reads in the offsets of a view
  abbrev pub SharesInView : Around → (n : ℕ) → List Hidden → (offsets : List plain.Term) → Effect → Type 0
  SharesInView around n [] offsets e = Unit {0}
  SharesInView around n (h ∷ hs) offsets e = AreShared n (terms_found scene around x (variables_along scene x around (kept_run scene x h n offsets) e) n (terms offsets))

  abbrev mutual
    pub SharesIn : Around → Arms → (n : ℕ) → Action → Effect → Type 0
    SharesIn around arms n (action id place form) e = SharesInForm around arms n form e

    pub SharesInForm : Around → Arms → (n : ℕ) → ActionForm → Effect → Type 0
    SharesInForm around arms n (lets r declared None) e = Unit {0}
    SharesInForm around arms n (lets r declared (Some t)) e = TermShares around (variables_along scene x around (assign_run scene x r (term_in scene x n t)) e) n t
    SharesInForm around arms n (assigns r t) e = TermShares around (variables_along scene x around (assign_run scene x r (term_in scene x n t)) e) n t
    SharesInForm around arms n (stores target t) e =
        TermShares around (variables_along scene x around (store_run scene x n target t) e) n t
        × TargetShares around (variables_along scene x around (store_run scene x n target t) e) (n + term_accesses t) target
    SharesInForm around arms n (reduces r op t) e = TermShares around (variables_along scene x around (assign_run scene x r (reduced_term scene r op n t)) e) n t
    SharesInForm around no_arms n (decides t chosen other) e = Unit {0}
    SharesInForm around (arms_then first rest) n (decides t chosen other) e = Unit {0}
    SharesInForm around (arms_of one two inside behind) n (decides t chosen other) e =
        TermShares around (variables_along scene x around (test_run scene x n t) e) n t
        × ((IsArm x around one true (test_out scene x n t e) → SharesIn one inside (n + term_accesses t) chosen (tested scene x around n t e))
        × (IsArm x around one true (test_out scene x n t e) → IsArm x around two false (test_out scene x n t e)
        → SharesInOther two behind (n + term_accesses t + accesses_of chosen) other (effect_of scene x (paths_on x one) (n + term_accesses t) chosen (tested scene x around n t e))))
    SharesInForm around arms n (blocks body) e = SharesInGroups around arms n body e
    SharesInForm around arms n (lets_memory name shape shape_places value) e = Unit {0}
    SharesInForm around arms n (views name parent form) e = SharesInView around n (hidden_in (way_of (known_in scene) name)) (offsets_of form) e
    SharesInForm around arms n (calls function arguments) e = Unit {0}
    SharesInForm around arms n (repeats test body) e = Unit {0}
    SharesInForm around arms n (counts iterator declared low high factor body combine combine_place) e = Unit {0}

    pub SharesInOther : Around → Arms → (n : ℕ) → MaybeAction → Effect → Type 0
    SharesInOther around arms n no_action e = Unit {0}
    SharesInOther around arms n (one_action a) e = SharesIn around arms n a e

    pub SharesInGroups : Around → Arms → (n : ℕ) → Groups → Effect → Type 0
    SharesInGroups around arms n no_groups e = Unit {0}
    SharesInGroups around no_arms n (group_then part rest) e = Unit {0}
    SharesInGroups around (arms_of one two inside behind) n (group_then part rest) e = Unit {0}
    SharesInGroups around (arms_then first behind) n (group_then part rest) e =
        SharesInPart around first n part e × SharesInGroups around behind (n + part_accesses part) rest (part_effect scene x (paths_on x around) n part e)

    pub SharesInPart : Around → Arms → (n : ℕ) → Actions → Effect → Type 0
    SharesInPart around arms n no_actions e = Unit {0}
    SharesInPart around no_arms n (action_then a rest) e = Unit {0}
    SharesInPart around (arms_of one two inside behind) n (action_then a rest) e = Unit {0}
    SharesInPart around (arms_then first behind) n (action_then a rest) e =
        SharesIn around first n a e × SharesInPart around behind (n + accesses_of a) rest (effect_of scene x (paths_on x around) n a e)
