-- The reducers that join copies stand behind the other commands of their block, and make no access: so the events of the
-- block are those of the other commands, and so are the accesses that it makes. Commands that are run one behind the
-- other are run as those of the one list and then as those of the other.
use Rattle.std.proofs.Common.{◌≡◌, ℕ, ◌+◌, ◌||◌, Bool, true, false, List, [], ◌∷◌, ◌++◌, refl, sym, ◌∙◌, ap, arith}
use Rattle.std.proofs.lemmas.List.{append-nil}
use Rattle.std.proofs.lemmas.Bool.Decides.{nat_tests}
use Rattle.dh_base.specs.declared.places.Place.{Place}
use Rattle.dh_value.specs.declared.kinds.Kind.{Kind}
use Rattle.dh_value.specs.declared.kinds.Kind.TheVariants as kind
use Rattle.dh_value.specs.declared.operators.Op.{Op}
use Rattle.dh_value.specs.declared.operators.Op.TheVariants as op
use Rattle.dh_tree.specs.WiderKinds.{wider}
use Rattle.dh_tree.specs.declared.trees.expressions.Ref.{Ref}
use Rattle.dh_tree.specs.PlainTrees.{Term, term, number, truth_value, named, accessed, in_bank, applied, converted, Action, action, ActionForm, lets, lets_memory, views, assigns, stores, reduces, calls, blocks, decides, repeats, counts, Actions, no_actions, action_then, Groups, no_groups, group_then}
use Rattle.dh_meaning.specs.AccessNumbers.{accesses_of, part_accesses}
use Rattle.dh_meaning.specs.Bindings.{kind_found}
use Rattle.dh_meaning.specs.Core.{CoreTerm, variable, CoreCommands, no_commands, command_and}
use Rattle.dh_meaning.specs.CoreOf.{Known, entity_number, depth_of, kind_of, extended, extended_both, operation_of, core_term, folded_into, core_action, core_action_form, core_part, core_groups, core_commands}
use Rattle.dh_meaning.specs.Effects.{Begun, Variables, Effect, term_events, at_each, assigned_at, command_run, commands_run}
use Rattle.dh_meaning.specs.Levels.{assigns_to, any_assigns}
use Rattle.dh_meaning.specs.OnePhase.{is_between, makes, any_makes}
use Rattle.dh_meaning.specs.Paths.{Path}
use Rattle.dh_meaning.specs.Phases.{Located}
use Rattle.dh_meaning.specs.Sites.{Around}
use Rattle.dh_meets.specs.SourceEvents.{SourceEvent}
use Rattle.dh_sound.specs.SimpleForms.{IsVariable, IsFoldForm, IsFold, AreFolds}
use Rattle.dh_sound.specs.Trails.{of_located, Follows, FollowsBy, StandsBehind}
use Rattle.dh_tree.specs.Seen.{terms}
use Rattle.dh_tree.specs.ViewOffsets.{offsets_of}
use Rattle.dh_meaning.specs.Ways.{Hidden, hidden_in}
use Rattle.dh_meaning.specs.CoreOf.{kept_by, way_of}
use Rattle.dh_meaning.specs.Core.{CoreTerms, no_terms, term_and}
use Rattle.dh_meaning.specs.CoreOf.{core_terms}

-- Commands one behind the other.

abbrev pub behind : CoreCommands → CoreCommands → CoreCommands
behind no_commands ds = ds
behind (command_and c cs) ds = command_and c (behind cs ds)

behind_three : (xs ys zs : CoreCommands) → behind (behind xs ys) zs ≡ behind xs (behind ys zs)
behind_three no_commands ys zs = refl
behind_three (command_and c xs) ys zs = ap (λ x. command_and c x) (behind_three xs ys zs)

module _ (known : Known) where
  kept_split : (hs : List Hidden) (ts : CoreTerms) (rest : CoreCommands) → kept_by hs ts rest ≡ behind (kept_by hs ts no_commands) rest
  kept_split hs no_terms rest = refl
  kept_split [] (term_and t ts) rest = refl
  kept_split (h ∷ hs) (term_and t ts) rest = refl

  mutual
    action_split : (a : Action) (n : ℕ) (rest : CoreCommands) → core_action known n a rest ≡ behind (core_action known n a no_commands) rest
    action_split (action id place form) n rest = form_split form n rest

    form_split : (f : ActionForm) (n : ℕ) (rest : CoreCommands) → core_action_form known n f rest ≡ behind (core_action_form known n f no_commands) rest
    form_split (lets name declared value) n rest = refl
    form_split (assigns target value) n rest = refl
    form_split (stores target value) n rest = refl
    form_split (reduces target o value) n rest = refl
    form_split (decides test chosen other) n rest = refl
    form_split (blocks body) n rest = groups_split body n rest
    form_split (lets_memory name shape shape_places value) n rest = refl
    form_split (views name parent form) n rest = kept_split (hidden_in (way_of known name)) (core_terms known n (terms (offsets_of form))) rest
    form_split (calls function arguments) n rest = refl
    form_split (repeats test body) n rest = refl
    form_split (counts iterator declared low high factor body combine combine_place) n rest = refl

    groups_split : (gs : Groups) (n : ℕ) (rest : CoreCommands) → core_groups known n gs rest ≡ behind (core_groups known n gs no_commands) rest
    groups_split no_groups n rest = refl
    groups_split (group_then part more) n rest =
        part_split part n (core_groups known (n + part_accesses part) more rest)
        ∙ (ap (λ x. behind (core_part known n part no_commands) x) (groups_split more (n + part_accesses part) rest)
        ∙ (sym (behind_three (core_part known n part no_commands) (core_groups known (n + part_accesses part) more no_commands) rest)
        ∙ ap (λ x. behind x rest) (sym (part_split part n (core_groups known (n + part_accesses part) more no_commands)))))

    part_split : (part : Actions) (n : ℕ) (rest : CoreCommands) → core_part known n part rest ≡ behind (core_part known n part no_commands) rest
    part_split no_actions n rest = refl
    part_split (action_then a more) n rest =
        action_split a n (core_part known (n + accesses_of a) more rest)
        ∙ (ap (λ x. behind (core_action known n a no_commands) x) (part_split more (n + accesses_of a) rest)
        ∙ (sym (behind_three (core_action known n a no_commands) (core_part known (n + accesses_of a) more no_commands) rest)
        ∙ ap (λ x. behind x rest) (sym (action_split a n (core_part known (n + accesses_of a) more no_commands)))))

  -- those of two lists
  pub commands_split : (cs ds : List Located) → core_commands known (cs ++ ds) ≡ behind (core_commands known cs) (core_commands known ds)
  commands_split [] ds = refl
  commands_split (c ∷ cs) ds =
      ap (λ x. core_action known c.first c.command x) (commands_split cs ds)
      ∙ (action_split c.command c.first (behind (core_commands known cs) (core_commands known ds))
      ∙ (sym (behind_three (core_action known c.first c.command no_commands) (core_commands known cs) (core_commands known ds))
      ∙ ap (λ x. behind x (core_commands known ds)) (sym (action_split c.command c.first (core_commands known cs)))))

run_behind : (b : Begun) (ps : List Path) (cs ds : CoreCommands) (e : Effect) → commands_run b ps (behind cs ds) e ≡ commands_run b ps ds (commands_run b ps cs e)
run_behind b ps no_commands ds e = refl
run_behind b ps (command_and c cs) ds e = run_behind b ps cs ds (command_run b ps c e)

-- what they assign to
left_false : (x y : Bool) → (x || y) ≡ false → x ≡ false
left_false true y e = cc
left_false false y e = refl

right_false : (x y : Bool) → (x || y) ≡ false → y ≡ false
right_false true y e = cc
right_false false y e = e

neither : (x y : Bool) → x ≡ false → y ≡ false → (x || y) ≡ false
neither true y e f = cc
neither false y e f = f

less_assigned : (entity : ℕ) (cs ds : CoreCommands) → any_assigns entity (behind cs ds) ≡ false → any_assigns entity cs ≡ false
less_assigned entity no_commands ds e = refl
less_assigned entity (command_and c cs) ds e =
    neither (assigns_to entity c) (any_assigns entity cs) (left_false (assigns_to entity c) (any_assigns entity (behind cs ds)) e)
    (less_assigned entity cs ds (right_false (assigns_to entity c) (any_assigns entity (behind cs ds)) e))

pub first_assigned : (known : Known) (entity : ℕ) (cs ds : List Located) → any_assigns entity (core_commands known (cs ++ ds)) ≡ false → any_assigns entity (core_commands known cs) ≡ false
first_assigned known entity cs ds e = less_assigned entity (core_commands known cs) (core_commands known ds) (sym (ap (any_assigns entity) (commands_split known cs ds)) ∙ e)

-- Reducers.

module _ (b : Begun) where
  -- an expression that makes no access
  abbrev IsStill : CoreTerm → Type 0
  IsStill t = (v : Variables) (path : Path) → term_events b v path t ≡ []

  extended_still : (k : Kind) (t : CoreTerm) → IsStill t → IsStill (extended k t)
  extended_still kind.Bool t h v path = h v path
  extended_still (kind.Unsigned w) t h v path = h v path
  extended_still (kind.Signed w) t h v path = h v path

  two_still : (l r : CoreTerm) (v : Variables) (path : Path) → term_events b v path l ≡ [] → term_events b v path r ≡ [] → term_events b v path l ++ term_events b v path r ≡ []
  two_still l r v path e f = ap (λ x. x ++ term_events b v path r) e ∙ f

  both_still : (o : Op) (j k : Kind) (l r : CoreTerm) → IsStill l → IsStill r → IsStill (extended_both o j k l r)
  both_still o j k l r h g v path = two_still (extended (wider j k) l) (extended (wider j k) r) v path (extended_still (wider j k) l h v path) (extended_still (wider j k) r g v path)

  operation_still : (o : Op) (j k : Kind) (l r : CoreTerm) → IsStill l → IsStill r → IsStill (operation_of o j k l r)
  operation_still op.Shl j k l r h g v path = two_still l r v path (h v path) (g v path)
  operation_still op.Shr j k l r h g v path = two_still l r v path (h v path) (g v path)
  operation_still op.Both j k l r h g v path = two_still l r v path (h v path) (g v path)
  operation_still op.Either j k l r h g v path = two_still l r v path (h v path) (g v path)
  operation_still op.Add j k l r h g v path = both_still op.Add j k l r h g v path
  operation_still op.Sub j k l r h g v path = both_still op.Sub j k l r h g v path
  operation_still op.Mul j k l r h g v path = both_still op.Mul j k l r h g v path
  operation_still op.And j k l r h g v path = both_still op.And j k l r h g v path
  operation_still op.Or j k l r h g v path = both_still op.Or j k l r h g v path
  operation_still op.Xor j k l r h g v path = both_still op.Xor j k l r h g v path
  operation_still op.Lt j k l r h g v path = both_still op.Lt j k l r h g v path
  operation_still op.Gt j k l r h g v path = both_still op.Gt j k l r h g v path
  operation_still op.Le j k l r h g v path = both_still op.Le j k l r h g v path
  operation_still op.Ge j k l r h g v path = both_still op.Ge j k l r h g v path
  operation_still op.Eq j k l r h g v path = both_still op.Eq j k l r h g v path
  operation_still op.Ne j k l r h g v path = both_still op.Ne j k l r h g v path

  assigned_still : (depth entity : ℕ) (value : CoreTerm) → IsStill value → (ps : List Path) (e : Effect) → (at_each (assigned_at b depth entity value) ps e).events ≡ e.events
  assigned_still depth entity value h [] e = refl
  assigned_still depth entity value h (path ∷ ps) e =
      assigned_still depth entity value h ps (assigned_at b depth entity value path e) ∙ (ap (λ x. e.events ++ x) (h e.variables path) ∙ append-nil e.events)

  variable_still : (known : Known) (n : ℕ) (t : Term) → IsVariable t → IsStill (core_term known n t)
  variable_still known n (term place k (named r)) h v path = refl
  variable_still known n (term place k (number negative x)) h v path = elim h [ ]
  variable_still known n (term place k (truth_value x)) h v path = elim h [ ]
  variable_still known n (term place k (accessed r ts)) h v path = elim h [ ]
  variable_still known n (term place k (in_bank r bank at t)) h v path = elim h [ ]
  variable_still known n (term place k (applied o l r)) h v path = elim h [ ]
  variable_still known n (term place k (converted t to)) h v path = elim h [ ]

  fold_still : (known : Known) (ps : List Path) (target : Ref) (o : Op) (k : Kind) (value : CoreTerm) (e : Effect) → IsStill value → (command_run b ps (folded_into known target o k value) e).events ≡ e.events
  fold_still known ps target o k value e h =
      assigned_still (depth_of known target) (entity_number target.entity) (operation_of o (kind_of known target) k (variable (kind_of known target) (depth_of known target) (entity_number target.entity)) value)
      (operation_still o (kind_of known target) k (variable (kind_of known target) (depth_of known target) (entity_number target.entity)) value (λ v path. refl) h) ps e

  form_still : (known : Known) (ps : List Path) (f : ActionForm) (n : ℕ) (rest : CoreCommands) (e : Effect) → IsFoldForm f → ((d : Effect) → (commands_run b ps rest d).events ≡ d.events)
      → (commands_run b ps (core_action_form known n f rest) e).events ≡ e.events
  form_still known ps (reduces target o value) n rest e h more = more (command_run b ps (folded_into known target o (kind_found value) (core_term known n value)) e) ∙ fold_still known ps target o (kind_found value) (core_term known n value) e (variable_still known n value h)
  form_still known ps (lets name declared value) n rest e h more = elim h [ ]
  form_still known ps (lets_memory name shape shape_places value) n rest e h more = elim h [ ]
  form_still known ps (views name parent form) n rest e h more = elim h [ ]
  form_still known ps (assigns target value) n rest e h more = elim h [ ]
  form_still known ps (stores target value) n rest e h more = elim h [ ]
  form_still known ps (calls function arguments) n rest e h more = elim h [ ]
  form_still known ps (blocks body) n rest e h more = elim h [ ]
  form_still known ps (decides test chosen other) n rest e h more = elim h [ ]
  form_still known ps (repeats test body) n rest e h more = elim h [ ]
  form_still known ps (counts iterator declared low high factor body combine combine_place) n rest e h more = elim h [ ]

  action_still : (known : Known) (ps : List Path) (a : Action) (n : ℕ) (rest : CoreCommands) (e : Effect) → IsFold a → ((d : Effect) → (commands_run b ps rest d).events ≡ d.events)
      → (commands_run b ps (core_action known n a rest) e).events ≡ e.events
  action_still known ps (action id place form) n rest e h more = form_still known ps form n rest e h more

  folds_still : (known : Known) (ps : List Path) (folds : List Located) → AreFolds folds → (e : Effect) → (commands_run b ps (core_commands known folds) e).events ≡ e.events
  folds_still known ps [] h e = refl
  folds_still known ps (c ∷ cs) h e = action_still known ps c.command c.first (core_commands known cs) e h.0 (folds_still known ps cs h.1)

  -- the events of commands with reducers behind them
  pub events_still : (known : Known) (ps : List Path) (cs folds : List Located) → AreFolds folds → (e : Effect)
      → (commands_run b ps (core_commands known (cs ++ folds)) e).events ≡ (commands_run b ps (core_commands known cs) e).events
  events_still known ps cs folds h e =
      ap (λ x. (commands_run b ps x e).events) (commands_split known cs folds)
      ∙ (ap (λ x. x.events) (run_behind b ps (core_commands known cs) (core_commands known folds) e)
      ∙ folds_still known ps folds h (commands_run b ps (core_commands known cs) e))

-- Accesses.

none_within : (k n : ℕ) → is_between k n 0 ≡ false
none_within k n = grind (arith, nat_tests)

variable_none : (k n : ℕ) (f : ActionForm) (id : ℕ) (place : Place) → IsFoldForm f → makes k n (action id place f) ≡ false
variable_none k n (reduces target o (term at j (named r))) id place h = none_within k n
variable_none k n (reduces target o (term at j (number negative x))) id place h = elim h [ ]
variable_none k n (reduces target o (term at j (truth_value x))) id place h = elim h [ ]
variable_none k n (reduces target o (term at j (accessed r ts))) id place h = elim h [ ]
variable_none k n (reduces target o (term at j (in_bank r bank bank_place t))) id place h = elim h [ ]
variable_none k n (reduces target o (term at j (applied x l r))) id place h = elim h [ ]
variable_none k n (reduces target o (term at j (converted t to))) id place h = elim h [ ]
variable_none k n (lets name declared value) id place h = elim h [ ]
variable_none k n (lets_memory name shape shape_places value) id place h = elim h [ ]
variable_none k n (views name parent form) id place h = elim h [ ]
variable_none k n (assigns target value) id place h = elim h [ ]
variable_none k n (stores target value) id place h = elim h [ ]
variable_none k n (calls function arguments) id place h = elim h [ ]
variable_none k n (blocks body) id place h = elim h [ ]
variable_none k n (decides test chosen other) id place h = elim h [ ]
variable_none k n (repeats test body) id place h = elim h [ ]
variable_none k n (counts iterator declared low high factor body combine combine_place) id place h = elim h [ ]

fold_makes_none : (k n : ℕ) (a : Action) → IsFold a → makes k n a ≡ false
fold_makes_none k n (action id place form) h = variable_none k n form id place h

folds_make_none : (k : ℕ) (folds : List Located) → AreFolds folds → any_makes k folds ≡ false
folds_make_none k [] h = refl
folds_make_none k (c ∷ cs) h = neither (makes k c.first c.command) (any_makes k cs) (fold_makes_none k c.first c.command h.0) (folds_make_none k cs h.1)

pub makes_more : (k : ℕ) (cs folds : List Located) → any_makes k cs ≡ true → any_makes k (cs ++ folds) ≡ true
makes_more k [] folds e = absurd cc
makes_more k (c ∷ cs) folds e = by (makes k c.first c.command) e (makes_more k cs folds)
  where
    by : (t : Bool) → (t || any_makes k cs) ≡ true → (any_makes k cs ≡ true → any_makes k (cs ++ folds) ≡ true) → (t || any_makes k (cs ++ folds)) ≡ true
    by true f more = refl
    by false f more = more f

pub makes_less : (k : ℕ) (cs folds : List Located) → AreFolds folds → any_makes k (cs ++ folds) ≡ true → any_makes k cs ≡ true
makes_less k [] folds h e = let f = folds_make_none k folds h in absurd cc
makes_less k (c ∷ cs) folds h e = by (makes k c.first c.command) e (makes_less k cs folds h)
  where
    by : (t : Bool) → (t || any_makes k (cs ++ folds)) ≡ true → (any_makes k (cs ++ folds) ≡ true → any_makes k cs ≡ true) → (t || any_makes k cs) ≡ true
    by true f more = refl
    by false f more = more f

-- the commands in front stand along the trace, whatever is asked of each
pub less_by : (S : Around → List SourceEvent → Located → Type 0) (r : Around) (before part : List SourceEvent) (cs folds : List Located) → FollowsBy S r before part (cs ++ folds) → FollowsBy S r before part cs
less_by S r before part [] folds f = tt
less_by S r before part (c ∷ cs) folds (gap, (rest, (is, (stands, more)))) = (gap, (rest, (is, (stands, less_by S r ((before ++ gap) ++ of_located c) rest cs folds more))))

pub follows_less : (r : Around) (before part : List SourceEvent) (cs folds : List Located) → Follows r before part (cs ++ folds) → Follows r before part cs
follows_less r before part cs folds f = less_by (λ round es c. StandsBehind round es c) r before part cs folds f
