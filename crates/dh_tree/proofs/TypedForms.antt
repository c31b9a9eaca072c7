-- Filling in the kinds of a program changes kinds alone: which commands hold several
-- steps, and how many names there are stays as it was. By recursion over the tree.
use Rattle.std.proofs.Common.{◌≡◌, ℕ, suc, ◌+◌, ◌||◌, List, [], ◌∷◌, ◌++◌, length, refl, ap, ◌∙◌, arith}
use Rattle.dh_tree.specs.Forms.{unbuilt, has_dashes, holds_steps, form_holds, other_holds, groups_hold, part_holds, unbuilt_functions}
use Rattle.dh_tree.specs.Kinds.{Facts, of_iterator, iterator_kind, facts_after, facts_after_actions, facts_after_function, facts_after_functions, formal_facts, first_facts, typed_action, typed_action_form, typed_other, typed_actions, typed_groups, typed_function, typed_functions, typed}
use Rattle.dh_tree.specs.NameCounts.{declared_in, declared_in_form, declared_in_other, declared_in_groups, declared_in_actions, declared_in_functions}
use Rattle.dh_tree.specs.PlainTrees.{Action, action, ActionForm, lets, lets_memory, views, assigns, stores, reduces, calls, blocks, decides, repeats, counts, MaybeAction, no_action, one_action, Actions, no_actions, action_then, Groups, no_groups, group_then, Defined, Program}
use Rattle.dh_tree.specs.Widths.{HasWidths}
use Rattle.dh_tree.specs.Written.{IsOfText}
use Rattle.dh_tree.proofs.NumbersKept.{typed_numbered}
use Rattle.dh_tree.proofs.LocalsKept.{typed_named}
use Rattle.dh_tree.proofs.TargetsKept.{typed_targets}
use Rattle.dh_tree.proofs.TextNumbersKept.{typed_numbers}

-- whether commands hold several steps
dashes_kept : (facts : Facts) (g : Groups) → has_dashes (typed_groups facts g) ≡ has_dashes g
dashes_kept facts no_groups = refl
dashes_kept facts (group_then part no_groups) = refl
dashes_kept facts (group_then part (group_then next rest)) = refl

mutual
  pub steps_kept : (facts : Facts) (a : Action) → holds_steps (typed_action facts a) ≡ holds_steps a
  steps_kept facts (action id place form) = form_steps_kept facts form

  pub form_steps_kept : (facts : Facts) (f : ActionForm) → form_holds (typed_action_form facts f) ≡ form_holds f
  form_steps_kept facts (lets name declared value) = refl
  form_steps_kept facts (lets_memory name shape shape_places value) = refl
  form_steps_kept facts (views name parent form) = refl
  form_steps_kept facts (assigns target value) = refl
  form_steps_kept facts (stores target value) = refl
  form_steps_kept facts (reduces target o value) = refl
  form_steps_kept facts (calls function arguments) = refl
  form_steps_kept facts (blocks body) =
      ap (λ b. b || groups_hold (typed_groups facts body)) (dashes_kept facts body) ∙ ap (λ b. has_dashes body || b) (groups_steps_kept facts body)
  form_steps_kept facts (decides test chosen other) =
      ap (λ b. b || other_holds (typed_other (facts_after facts (typed_action facts chosen)) other)) (steps_kept facts chosen)
      ∙ ap (λ b. holds_steps chosen || b) (other_steps_kept (facts_after facts (typed_action facts chosen)) other)
  form_steps_kept facts (repeats test body) = refl
  form_steps_kept facts (counts iterator declared low high factor body combine combine_place) = refl

  pub other_steps_kept : (facts : Facts) (m : MaybeAction) → other_holds (typed_other facts m) ≡ other_holds m
  other_steps_kept facts no_action = refl
  other_steps_kept facts (one_action a) = steps_kept facts a

  groups_steps_kept : (facts : Facts) (g : Groups) → groups_hold (typed_groups facts g) ≡ groups_hold g
  groups_steps_kept facts no_groups = refl
  groups_steps_kept facts (group_then part rest) =
      ap (λ b. b || groups_hold (typed_groups (facts_after_actions facts (typed_actions facts part)) rest)) (part_steps_kept facts part)
      ∙ ap (λ b. part_holds part || b) (groups_steps_kept (facts_after_actions facts (typed_actions facts part)) rest)

  part_steps_kept : (facts : Facts) (p : Actions) → part_holds (typed_actions facts p) ≡ part_holds p
  part_steps_kept facts no_actions = refl
  part_steps_kept facts (action_then a rest) =
      ap (λ b. b || part_holds (typed_actions (facts_after facts (typed_action facts a)) rest)) (steps_kept facts a)
      ∙ ap (λ b. holds_steps a || b) (part_steps_kept (facts_after facts (typed_action facts a)) rest)

pub functions_kept : (facts : Facts) (fs : List Defined) → unbuilt_functions (typed_functions facts fs) ≡ unbuilt_functions fs
functions_kept facts [] = refl
functions_kept facts (f ∷ fs) = ap (λ l. unbuilt f.place ++ l) (functions_kept (facts_after_function facts (typed_function facts f)) fs)

-- what is known where the body of a program begins, with its kinds filled in
abbrev pub start_of : Program → Facts
start_of p = facts_after_functions (first_facts p) (typed p).functions

-- declared names
mutual
  names_kept : (facts : Facts) (a : Action) → declared_in (typed_action facts a) ≡ declared_in a
  names_kept facts (action id place form) = form_names_kept facts form

  form_names_kept : (facts : Facts) (f : ActionForm) → declared_in_form (typed_action_form facts f) ≡ declared_in_form f
  form_names_kept facts (lets name declared value) = refl
  form_names_kept facts (lets_memory name shape shape_places value) = refl
  form_names_kept facts (views name parent form) = refl
  form_names_kept facts (assigns target value) = refl
  form_names_kept facts (stores target value) = refl
  form_names_kept facts (reduces target o value) = refl
  form_names_kept facts (calls function arguments) = refl
  form_names_kept facts (blocks body) = groups_names_kept facts body
  form_names_kept facts (decides test chosen other) =
      ap (λ n. n + declared_in_other (typed_other (facts_after facts (typed_action facts chosen)) other)) (names_kept facts chosen)
      ∙ ap (λ n. declared_in chosen + n) (other_names_kept (facts_after facts (typed_action facts chosen)) other)
  form_names_kept facts (repeats test body) = names_kept facts body
  form_names_kept facts (counts iterator declared low high factor body combine combine_place) =
      let inner : Facts = facts ++ of_iterator (iterator_kind declared) ∷ [] in
      let after : Facts = facts_after inner (typed_action inner body) in
      ap (λ n. 1 + (n + declared_in_other (typed_other after combine))) (names_kept inner body)
      ∙ ap (λ n. 1 + (declared_in body + n)) (other_names_kept after combine)

  other_names_kept : (facts : Facts) (m : MaybeAction) → declared_in_other (typed_other facts m) ≡ declared_in_other m
  other_names_kept facts no_action = refl
  other_names_kept facts (one_action a) = names_kept facts a

  groups_names_kept : (facts : Facts) (g : Groups) → declared_in_groups (typed_groups facts g) ≡ declared_in_groups g
  groups_names_kept facts no_groups = refl
  groups_names_kept facts (group_then part rest) =
      ap (λ n. n + declared_in_groups (typed_groups (facts_after_actions facts (typed_actions facts part)) rest)) (part_names_kept facts part)
      ∙ ap (λ n. declared_in_actions part + n) (groups_names_kept (facts_after_actions facts (typed_actions facts part)) rest)

  part_names_kept : (facts : Facts) (p : Actions) → declared_in_actions (typed_actions facts p) ≡ declared_in_actions p
  part_names_kept facts no_actions = refl
  part_names_kept facts (action_then a rest) =
      ap (λ n. n + declared_in_actions (typed_actions (facts_after facts (typed_action facts a)) rest)) (names_kept facts a)
      ∙ ap (λ n. declared_in a + n) (part_names_kept (facts_after facts (typed_action facts a)) rest)

functions_names_kept : (facts : Facts) (fs : List Defined) → declared_in_functions (typed_functions facts fs) ≡ declared_in_functions fs
functions_names_kept facts [] = refl
functions_names_kept facts (f ∷ fs) =
    ap (λ n. (length f.parameters + n) + declared_in_functions (typed_functions (facts_after_function facts (typed_function facts f)) fs)) (names_kept (facts ++ formal_facts f.parameters) f.body)
    ∙ ap (λ n. (length f.parameters + declared_in f.body) + n) (functions_names_kept (facts_after_function facts (typed_function facts f)) fs)

functions_count : (facts : Facts) (fs : List Defined) → length (typed_functions facts fs) ≡ length fs
functions_count facts [] = refl
functions_count facts (f ∷ fs) = ap suc (functions_count (facts_after_function facts (typed_function facts f)) fs)

-- what holds of the tree of a text holds still
pub of_text_kept : (tokens : ℕ) (p : Program) → HasWidths (typed p) → IsOfText tokens p → IsOfText tokens (typed p)
of_text_kept tokens p widths h =
    let functions = functions_count (first_facts p) p.functions in
    let within = functions_names_kept (first_facts p) p.functions in
    let body = names_kept (start_of p) p.body in
    let names = h.names in
    record {
      decls = h.decls;
      locals = typed_named (start_of p) p.body h.locals;
      first = h.first;
      numbered = typed_numbered (start_of p) h.first p.body h.numbered;
      names = omega (arith, functions, within, body, names);
      widths = widths;
      targets = typed_targets p.body (start_of p) h.targets;
      numbers = typed_numbers p.body (start_of p) h.numbers;
    }
