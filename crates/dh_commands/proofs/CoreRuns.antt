-- Straight commands as the core has them: they run before those that follow, they set what they name, whatever the
-- numbers of their accesses, and each variable at its depth. By recursion on the plain trees.
use Rattle.std.proofs.Common.{◌≡◌, ℕ, suc, ◌+◌, ◌==◌, Bool, true, false, List, [], ◌∷◌, length, refl, ap, sym, ◌∙◌, subst}
use Rattle.std.specs.Prelude.{◌&&◌, ◌||◌, nat_le, nat_lt}
use Rattle.dh_tree.specs.PlainTrees as plain
use Rattle.dh_tree.specs.PlainTrees.{Action, action, ActionForm, lets, lets_memory, views, assigns, stores, reduces, calls, blocks, decides, repeats, counts, MaybeAction, no_action, one_action, Actions, no_actions, action_then, Groups, no_groups, group_then}
use Rattle.dh_tree.specs.Seen.{terms}
use Rattle.dh_tree.specs.ViewOffsets.{offsets_of}
use Rattle.dh_meaning.specs.AccessNumbers.{accesses_of, part_accesses, term_accesses}
use Rattle.dh_meaning.specs.Core.{CoreCommands, CoreTerm, CoreTerms, count_terms, no_commands, no_terms, term_and}
use Rattle.dh_meaning.specs.CoreOf.{Known, core_action, core_action_form, core_groups, core_other, core_part, core_terms, entity_number, kept_by, store_to, way_of}
use Rattle.dh_meaning.specs.Effects.{Begun, Effect, commands_run}
use Rattle.dh_meaning.specs.Levels.{any_assigns, assigns_to}
use Rattle.dh_meaning.specs.Paths.{Path}
use Rattle.dh_meaning.specs.Ways.{Hidden, hidden_in}
use Rattle.dh_expressions.specs.declared.scenes.Scene.{Scene}
use Rattle.dh_expressions.specs.Evaluated.{known_in}
use Rattle.dh_commands.specs.ShownVariables.{AreBoundAt}
use Rattle.dh_commands.specs.Followed.{KeepsDeep, KeepsDeepForm, KeepsDeepGroups, KeepsDeepOther, KeepsDeepPart, KeptDeep}
use Rattle.dh_commands.proofs.PathsKept.{AreDeep, IsDeep}

-- Offsets.

pub offsets_long : (known : Known) (n : ℕ) (os : List plain.Term) → count_terms (core_terms known n (terms os)) ≡ length os
offsets_long known n [] = refl
offsets_long known n (t ∷ os) = ap (λ c. suc c) (offsets_long known (n + term_accesses t) os)

-- Runs.

module _ (known : Known) (b : Begun) (paths : List Path) where
  kept_runs : (hidden : List Hidden) (ts : CoreTerms) (rest : CoreCommands) (e : Effect) → commands_run b paths (kept_by hidden ts rest) e ≡ commands_run b paths rest (commands_run b paths (kept_by hidden ts no_commands) e)
  kept_runs hidden no_terms rest e = refl
  kept_runs [] (term_and t ts) rest e = refl
  kept_runs (h ∷ hs) (term_and t ts) rest e = refl

  mutual
    pub action_runs : (n : ℕ) (a : Action) (rest : CoreCommands) (e : Effect) → commands_run b paths (core_action known n a rest) e ≡ commands_run b paths rest (commands_run b paths (core_action known n a no_commands) e)
    action_runs n (action id place form) rest e = form_runs n form rest e

    form_runs : (n : ℕ) (form : ActionForm) (rest : CoreCommands) (e : Effect) → commands_run b paths (core_action_form known n form rest) e ≡ commands_run b paths rest (commands_run b paths (core_action_form known n form no_commands) e)
    form_runs n (lets r declared value) rest e = refl
    form_runs n (assigns r t) rest e = refl
    form_runs n (stores target t) rest e = refl
    form_runs n (reduces r op t) rest e = refl
    form_runs n (decides t chosen other) rest e = refl
    form_runs n (blocks body) rest e = groups_run n body rest e
    form_runs n (lets_memory r shape places value) rest e = refl
    form_runs n (views r parent form) rest e = kept_runs (hidden_in (way_of known r)) (core_terms known n (terms (offsets_of form))) rest e
    form_runs n (calls r arguments) rest e = refl
    form_runs n (repeats t body) rest e = refl
    form_runs n (counts r declared low high factor body combine place) rest e = refl

    pub part_runs : (n : ℕ) (cs : Actions) (rest : CoreCommands) (e : Effect) → commands_run b paths (core_part known n cs rest) e ≡ commands_run b paths rest (commands_run b paths (core_part known n cs no_commands) e)
    part_runs n no_actions rest e = refl
    part_runs n (action_then a cs) rest e =
        action_runs n a (core_part known (n + accesses_of a) cs rest) e
        ∙ (part_runs (n + accesses_of a) cs rest (commands_run b paths (core_action known n a no_commands) e)
        ∙ ap (λ f. commands_run b paths rest f) (sym (action_runs n a (core_part known (n + accesses_of a) cs no_commands) e)))

    pub groups_run : (n : ℕ) (gs : Groups) (rest : CoreCommands) (e : Effect) → commands_run b paths (core_groups known n gs rest) e ≡ commands_run b paths rest (commands_run b paths (core_groups known n gs no_commands) e)
    groups_run n no_groups rest e = refl
    groups_run n (group_then part gs) rest e =
        part_runs n part (core_groups known (n + part_accesses part) gs rest) e
        ∙ (groups_run (n + part_accesses part) gs rest (commands_run b paths (core_part known n part no_commands) e)
        ∙ ap (λ f. commands_run b paths rest f) (sym (part_runs n part (core_groups known (n + part_accesses part) gs no_commands) e)))

-- Variables that are set.

-- those that keep the offsets of a view
abbrev pub kept_sets : (e : ℕ) → List Hidden → List plain.Term → Bool
kept_sets e hidden [] = false
kept_sets e [] (t ∷ os) = false
kept_sets e (h ∷ hs) (t ∷ os) = nat_le h.entity e && nat_lt e (h.entity + suc (length os))

abbrev mutual
  pub action_sets : Known → (e : ℕ) → Action → Bool
  action_sets known e (action id place form) = form_sets known e form

  pub form_sets : Known → (e : ℕ) → ActionForm → Bool
  form_sets known e (lets r declared value) = e == entity_number r.entity
  form_sets known e (assigns r t) = e == entity_number r.entity
  form_sets known e (stores target t) = false
  form_sets known e (reduces r op t) = e == entity_number r.entity
  form_sets known e (decides t chosen other) = action_sets known e chosen || other_sets known e other
  form_sets known e (blocks body) = groups_set known e body
  form_sets known e (lets_memory r shape places value) = false
  form_sets known e (views r parent form) = kept_sets e (hidden_in (way_of known r)) (offsets_of form)
  form_sets known e (calls r arguments) = false
  form_sets known e (repeats t body) = false
  form_sets known e (counts r declared low high factor body combine place) = false

  pub other_sets : Known → (e : ℕ) → MaybeAction → Bool
  other_sets known e no_action = false
  other_sets known e (one_action a) = action_sets known e a

  pub part_sets : Known → (e : ℕ) → Actions → Bool
  part_sets known e no_actions = false
  part_sets known e (action_then a cs) = action_sets known e a || part_sets known e cs

  pub groups_set : Known → (e : ℕ) → Groups → Bool
  groups_set known e no_groups = false
  groups_set known e (group_then part gs) = part_sets known e part || groups_set known e gs

store_sets : (known : Known) (e n : ℕ) (target : plain.Term) (value : CoreTerm) → assigns_to e (store_to known n target value) ≡ false
store_sets known e n (plain.term place k (plain.accessed r ts)) value = refl
store_sets known e n (plain.term place k (plain.in_bank r bank at row)) value = refl
store_sets known e n (plain.term place k (plain.number negative z)) value = refl
store_sets known e n (plain.term place k (plain.truth_value t)) value = refl
store_sets known e n (plain.term place k (plain.named r)) value = refl
store_sets known e n (plain.term place k (plain.applied op left right)) value = refl
store_sets known e n (plain.term place k (plain.converted inner to)) value = refl

pub or_none : (a : Bool) → (a || false) ≡ a
or_none true = refl
or_none false = refl

or_again : (a b c : Bool) → (a || (b || c)) ≡ ((a || b) || c)
or_again true b c = refl
or_again false b c = refl

module _ (scene : Scene) (e : ℕ) where
  sets_kept : (n : ℕ) (hidden : List Hidden) (os : List plain.Term) (rest : CoreCommands) → any_assigns e (kept_by hidden (core_terms (known_in scene) n (terms os)) rest) ≡ (kept_sets e hidden os || any_assigns e rest)
  sets_kept n hidden [] rest = refl
  sets_kept n [] (t ∷ os) rest = refl
  sets_kept n (h ∷ hs) (t ∷ os) rest = ap (λ c. (nat_le h.entity e && nat_lt e (h.entity + suc c)) || any_assigns e rest) (offsets_long (known_in scene) (n + term_accesses t) os)

  mutual
    pub sets_action : (n : ℕ) (a : Action) (rest : CoreCommands) → any_assigns e (core_action (known_in scene) n a rest) ≡ (action_sets (known_in scene) e a || any_assigns e rest)
    sets_action n (action id place form) rest = sets_form n form rest

    sets_form : (n : ℕ) (form : ActionForm) (rest : CoreCommands) → any_assigns e (core_action_form (known_in scene) n form rest) ≡ (form_sets (known_in scene) e form || any_assigns e rest)
    sets_form n (lets r declared value) rest = refl
    sets_form n (assigns r t) rest = refl
    sets_form n (stores target t) rest = ap (λ s. s || any_assigns e rest) (store_sets (known_in scene) e (n + term_accesses t) target _)
    sets_form n (reduces r op t) rest = refl
    sets_form n (decides t chosen other) rest =
        ap (λ s. (s || any_assigns e (core_other (known_in scene) (n + term_accesses t + accesses_of chosen) other)) || any_assigns e rest) (sets_action (n + term_accesses t) chosen no_commands ∙ or_none (action_sets (known_in scene) e chosen))
        ∙ ap (λ s. (action_sets (known_in scene) e chosen || s) || any_assigns e rest) (sets_other (n + term_accesses t + accesses_of chosen) other)
    sets_form n (blocks body) rest = sets_groups n body rest
    sets_form n (lets_memory r shape places value) rest = refl
    sets_form n (views r parent form) rest = sets_kept n (hidden_in (way_of (known_in scene) r)) (offsets_of form) rest
    sets_form n (calls r arguments) rest = refl
    sets_form n (repeats t body) rest = refl
    sets_form n (counts r declared low high factor body combine place) rest = refl

    pub sets_other : (n : ℕ) (a : MaybeAction) → any_assigns e (core_other (known_in scene) n a) ≡ other_sets (known_in scene) e a
    sets_other n no_action = refl
    sets_other n (one_action a) = sets_action n a no_commands ∙ or_none (action_sets (known_in scene) e a)

    pub sets_part : (n : ℕ) (cs : Actions) (rest : CoreCommands) → any_assigns e (core_part (known_in scene) n cs rest) ≡ (part_sets (known_in scene) e cs || any_assigns e rest)
    sets_part n no_actions rest = refl
    sets_part n (action_then a cs) rest =
        sets_action n a (core_part (known_in scene) (n + accesses_of a) cs rest)
        ∙ (ap (λ s. action_sets (known_in scene) e a || s) (sets_part (n + accesses_of a) cs rest) ∙ or_again (action_sets (known_in scene) e a) (part_sets (known_in scene) e cs) (any_assigns e rest))

    pub sets_groups : (n : ℕ) (gs : Groups) (rest : CoreCommands) → any_assigns e (core_groups (known_in scene) n gs rest) ≡ (groups_set (known_in scene) e gs || any_assigns e rest)
    sets_groups n no_groups rest = refl
    sets_groups n (group_then part gs) rest =
        sets_part n part (core_groups (known_in scene) (n + part_accesses part) gs rest)
        ∙ (ap (λ s. part_sets (known_in scene) e part || s) (sets_groups (n + part_accesses part) gs rest) ∙ or_again (part_sets (known_in scene) e part) (groups_set (known_in scene) e gs) (any_assigns e rest))

  -- whatever the numbers
  pub action_any : (n : ℕ) (a : Action) → any_assigns e (core_action (known_in scene) n a no_commands) ≡ action_sets (known_in scene) e a
  action_any n a = sets_action n a no_commands ∙ or_none (action_sets (known_in scene) e a)

  pub groups_any : (n : ℕ) (gs : Groups) → any_assigns e (core_groups (known_in scene) n gs no_commands) ≡ groups_set (known_in scene) e gs
  groups_any n gs = sets_groups n gs no_commands ∙ or_none (groups_set (known_in scene) e gs)

-- Depths.

module _ (scene : Scene) where
  store_deep : (n : ℕ) (target : plain.Term) (value : CoreTerm) → IsDeep scene (store_to (known_in scene) n target value)
  store_deep n (plain.term place k (plain.accessed r ts)) value = tt
  store_deep n (plain.term place k (plain.in_bank r bank at row)) value = tt
  store_deep n (plain.term place k (plain.number negative z)) value = (tt, tt)
  store_deep n (plain.term place k (plain.truth_value t)) value = (tt, tt)
  store_deep n (plain.term place k (plain.named r)) value = (tt, tt)
  store_deep n (plain.term place k (plain.applied op left right)) value = (tt, tt)
  store_deep n (plain.term place k (plain.converted inner to)) value = (tt, tt)

  kept_deep : (n : ℕ) (hidden : List Hidden) (os : List plain.Term) (rest : CoreCommands) → KeptDeep scene hidden (length os) → AreDeep scene rest → AreDeep scene (kept_by hidden (core_terms (known_in scene) n (terms os)) rest)
  kept_deep n hidden [] rest k h = h
  kept_deep n [] (t ∷ os) rest k h = h
  kept_deep n (x ∷ xs) (t ∷ os) rest k h = (subst (λ (c : ℕ). AreBoundAt scene x.depth x.entity c) (sym (offsets_long (known_in scene) n (t ∷ os))) k, h)

  mutual
    pub action_deep : (n : ℕ) (a : Action) (rest : CoreCommands) → KeepsDeep scene a → AreDeep scene rest → AreDeep scene (core_action (known_in scene) n a rest)
    action_deep n (action id place form) rest k h = form_deep n form rest k h

    form_deep : (n : ℕ) (form : ActionForm) (rest : CoreCommands) → KeepsDeepForm scene form → AreDeep scene rest → AreDeep scene (core_action_form (known_in scene) n form rest)
    form_deep n (lets r declared value) rest k h = (refl, h)
    form_deep n (assigns r t) rest k h = (refl, h)
    form_deep n (stores target t) rest k h = (store_deep (n + term_accesses t) target _, h)
    form_deep n (reduces r op t) rest k h = (refl, h)
    form_deep n (decides t chosen other) rest k h = ((action_deep (n + term_accesses t) chosen no_commands k.0 tt, other_deep (n + term_accesses t + accesses_of chosen) other k.1), h)
    form_deep n (blocks body) rest k h = groups_deep n body rest k h
    form_deep n (lets_memory r shape places value) rest k h = h
    form_deep n (views r parent form) rest k h = kept_deep n (hidden_in (way_of (known_in scene) r)) (offsets_of form) rest k h
    form_deep n (calls r arguments) rest k h = h
    form_deep n (repeats t body) rest k h = h
    form_deep n (counts r declared low high factor body combine place) rest k h = h

    pub other_deep : (n : ℕ) (a : MaybeAction) → KeepsDeepOther scene a → AreDeep scene (core_other (known_in scene) n a)
    other_deep n no_action k = tt
    other_deep n (one_action a) k = action_deep n a no_commands k tt

    part_deep : (n : ℕ) (cs : Actions) (rest : CoreCommands) → KeepsDeepPart scene cs → AreDeep scene rest → AreDeep scene (core_part (known_in scene) n cs rest)
    part_deep n no_actions rest k h = h
    part_deep n (action_then a cs) rest k h = action_deep n a (core_part (known_in scene) (n + accesses_of a) cs rest) k.0 (part_deep (n + accesses_of a) cs rest k.1 h)

    groups_deep : (n : ℕ) (gs : Groups) (rest : CoreCommands) → KeepsDeepGroups scene gs → AreDeep scene rest → AreDeep scene (core_groups (known_in scene) n gs rest)
    groups_deep n no_groups rest k h = h
    groups_deep n (group_then part gs) rest k h = part_deep n part (core_groups (known_in scene) (n + part_accesses part) gs rest) k.0 (groups_deep (n + part_accesses part) gs rest k.1 h)
