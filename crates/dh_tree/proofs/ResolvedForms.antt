-- Resolving a program's names changes its entities alone: which commands hold several
-- steps, and how many names there are stays as it was. By recursion over the tree.
use Rattle.std.proofs.Common.{◌≡◌, ℕ, suc, ◌+◌, ◌||◌, List, [], ◌∷◌, ◌++◌, length, refl, ap, ◌∙◌, arith}
use Rattle.std.specs.List.{AllByRecursion}
use Rattle.dh_tree.specs.declared.trees.programs.Sort.TheVariants.{Iterator}
use Rattle.dh_tree.specs.Forms.{unbuilt, has_dashes, holds_steps, form_holds, other_holds, groups_hold, part_holds, unbuilt_functions}
use Rattle.dh_tree.specs.NameCounts.{declared_in, declared_in_form, declared_in_other, declared_in_groups, declared_in_actions, declared_in_functions}
use Rattle.dh_tree.specs.PlainTrees.{Action, action, ActionForm, lets, lets_memory, views, assigns, stores, reduces, calls, blocks, decides, repeats, counts, MaybeAction, no_action, one_action, Actions, no_actions, action_then, Groups, no_groups, group_then, Declared, Formal, Defined, Program}
use Rattle.dh_tree.specs.Resolved.{resolved_action, resolved_form, resolved_other, resolved_actions, resolved_groups, resolved_decls, resolved_formals, resolved_functions, resolved}
use Rattle.dh_tree.specs.Scopes.{Scope, declare, leave, past, at_end, actions_at_end, formal_sort, body_start, after_function, first_scope, body_scope}
use Rattle.dh_tree.specs.Widths.{HasWidths}
use Rattle.dh_tree.specs.Written.{IsDeclared, IsOfText}
use Rattle.dh_tree.proofs.NumbersKept.{resolved_numbered}
use Rattle.dh_tree.proofs.LocalsKept.{resolved_named}
use Rattle.dh_tree.proofs.TargetsKept.{resolved_targets}
use Rattle.dh_tree.proofs.TextNumbersKept.{resolved_numbers}

-- whether commands hold several steps
dashes_kept : (s : Scope) (g : Groups) → has_dashes (resolved_groups s g) ≡ has_dashes g
dashes_kept s no_groups = refl
dashes_kept s (group_then part no_groups) = refl
dashes_kept s (group_then part (group_then next rest)) = refl

mutual
  pub steps_kept : (s : Scope) (a : Action) → holds_steps (resolved_action s a) ≡ holds_steps a
  steps_kept s (action id place form) = form_steps_kept s form

  pub form_steps_kept : (s : Scope) (f : ActionForm) → form_holds (resolved_form s f) ≡ form_holds f
  form_steps_kept s (lets name declared value) = refl
  form_steps_kept s (lets_memory name shape shape_places value) = refl
  form_steps_kept s (views name parent form) = refl
  form_steps_kept s (assigns target value) = refl
  form_steps_kept s (stores target value) = refl
  form_steps_kept s (reduces target o value) = refl
  form_steps_kept s (calls function arguments) = refl
  form_steps_kept s (blocks body) =
      ap (λ b. b || groups_hold (resolved_groups s body)) (dashes_kept s body) ∙ ap (λ b. has_dashes body || b) (groups_steps_kept s body)
  form_steps_kept s (decides test chosen other) =
      ap (λ b. b || other_holds (resolved_other (leave s (at_end s chosen)) other)) (steps_kept s chosen)
      ∙ ap (λ b. holds_steps chosen || b) (other_steps_kept (leave s (at_end s chosen)) other)
  form_steps_kept s (repeats test body) = refl
  form_steps_kept s (counts iterator declared low high factor body combine combine_place) = refl

  pub other_steps_kept : (s : Scope) (m : MaybeAction) → other_holds (resolved_other s m) ≡ other_holds m
  other_steps_kept s no_action = refl
  other_steps_kept s (one_action a) = steps_kept s a

  groups_steps_kept : (s : Scope) (g : Groups) → groups_hold (resolved_groups s g) ≡ groups_hold g
  groups_steps_kept s no_groups = refl
  groups_steps_kept s (group_then part rest) =
      ap (λ b. b || groups_hold (resolved_groups (actions_at_end s part) rest)) (part_steps_kept s part)
      ∙ ap (λ b. part_holds part || b) (groups_steps_kept (actions_at_end s part) rest)

  part_steps_kept : (s : Scope) (p : Actions) → part_holds (resolved_actions s p) ≡ part_holds p
  part_steps_kept s no_actions = refl
  part_steps_kept s (action_then a rest) =
      ap (λ b. b || part_holds (resolved_actions (past s a (at_end s a)) rest)) (steps_kept s a)
      ∙ ap (λ b. holds_steps a || b) (part_steps_kept (past s a (at_end s a)) rest)

pub functions_kept : (n : ℕ) (s : Scope) (fs : List Defined) → unbuilt_functions (resolved_functions n s fs) ≡ unbuilt_functions fs
functions_kept n s [] = refl
functions_kept n s (f ∷ fs) = ap (λ l. unbuilt f.place ++ l) (functions_kept (n + 1) (after_function n s f) fs)

-- declared names
mutual
  names_kept : (s : Scope) (a : Action) → declared_in (resolved_action s a) ≡ declared_in a
  names_kept s (action id place form) = form_names_kept s form

  form_names_kept : (s : Scope) (f : ActionForm) → declared_in_form (resolved_form s f) ≡ declared_in_form f
  form_names_kept s (lets name declared value) = refl
  form_names_kept s (lets_memory name shape shape_places value) = refl
  form_names_kept s (views name parent form) = refl
  form_names_kept s (assigns target value) = refl
  form_names_kept s (stores target value) = refl
  form_names_kept s (reduces target o value) = refl
  form_names_kept s (calls function arguments) = refl
  form_names_kept s (blocks body) = groups_names_kept s body
  form_names_kept s (decides test chosen other) =
      ap (λ n. n + declared_in_other (resolved_other (leave s (at_end s chosen)) other)) (names_kept s chosen)
      ∙ ap (λ n. declared_in chosen + n) (other_names_kept (leave s (at_end s chosen)) other)
  form_names_kept s (repeats test body) = names_kept s body
  form_names_kept s (counts iterator declared low high factor body combine combine_place) =
      let inner : Scope = declare s iterator Iterator in
      ap (λ n. 1 + (n + declared_in_other (resolved_other (at_end inner body) combine))) (names_kept inner body)
      ∙ ap (λ n. 1 + (declared_in body + n)) (other_names_kept (at_end inner body) combine)

  other_names_kept : (s : Scope) (m : MaybeAction) → declared_in_other (resolved_other s m) ≡ declared_in_other m
  other_names_kept s no_action = refl
  other_names_kept s (one_action a) = names_kept s a

  groups_names_kept : (s : Scope) (g : Groups) → declared_in_groups (resolved_groups s g) ≡ declared_in_groups g
  groups_names_kept s no_groups = refl
  groups_names_kept s (group_then part rest) =
      ap (λ n. n + declared_in_groups (resolved_groups (actions_at_end s part) rest)) (part_names_kept s part)
      ∙ ap (λ n. declared_in_actions part + n) (groups_names_kept (actions_at_end s part) rest)

  part_names_kept : (s : Scope) (p : Actions) → declared_in_actions (resolved_actions s p) ≡ declared_in_actions p
  part_names_kept s no_actions = refl
  part_names_kept s (action_then a rest) =
      ap (λ n. n + declared_in_actions (resolved_actions (past s a (at_end s a)) rest)) (names_kept s a)
      ∙ ap (λ n. declared_in a + n) (part_names_kept (past s a (at_end s a)) rest)

formals_count : (s : Scope) (fs : List Formal) → length (resolved_formals s fs) ≡ length fs
formals_count s [] = refl
formals_count s (f ∷ fs) = ap suc (formals_count (declare s f.name (formal_sort f.shape)) fs)

functions_names_kept : (n : ℕ) (s : Scope) (fs : List Defined) → declared_in_functions (resolved_functions n s fs) ≡ declared_in_functions fs
functions_names_kept n s [] = refl
functions_names_kept n s (f ∷ fs) =
    let formals = formals_count s f.parameters in
    let body = names_kept (body_start s f) f.body in
    let rest = functions_names_kept (n + 1) (after_function n s f) fs in
    omega (arith, formals, body, rest)

functions_count : (n : ℕ) (s : Scope) (fs : List Defined) → length (resolved_functions n s fs) ≡ length fs
functions_count n s [] = refl
functions_count n s (f ∷ fs) = ap suc (functions_count (n + 1) (after_function n s f) fs)

decls_count : (n : ℕ) (ds : List Declared) → length (resolved_decls n ds) ≡ length ds
decls_count n [] = refl
decls_count n (d ∷ ds) = ap suc (decls_count (n + 1) ds)

decls_declared : (n : ℕ) (ds : List Declared) → AllByRecursion IsDeclared ds → AllByRecursion IsDeclared (resolved_decls n ds)
decls_declared n [] h = tt
decls_declared n (d ∷ ds) h = (record { named = h.0.named; ports = h.0.ports; dims = h.0.dims }, decls_declared (n + 1) ds h.1)

-- what holds of the tree of a text holds still
pub of_text_kept : (tokens : ℕ) (p : Program) → HasWidths (resolved p) → IsOfText tokens p → IsOfText tokens (resolved p)
of_text_kept tokens p widths h =
    let decls = decls_count 0 p.decls in
    let functions = functions_count (length p.decls) (first_scope p) p.functions in
    let within = functions_names_kept (length p.decls) (first_scope p) p.functions in
    let body = names_kept (body_scope p) p.body in
    let names = h.names in
    record {
      decls = decls_declared 0 p.decls h.decls;
      locals = resolved_named (body_scope p) p.body h.locals;
      first = h.first;
      numbered = resolved_numbered (body_scope p) h.first p.body h.numbered;
      names = omega (arith, decls, functions, within, body, names);
      widths = widths;
      targets = resolved_targets p.body (body_scope p) h.targets;
      numbers = resolved_numbers p.body (body_scope p) h.numbers;
    }
