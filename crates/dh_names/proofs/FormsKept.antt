-- The first form that is not built, kept on a walk over a form, over the commands of a part and over the
-- parts of a block; and whether a `---`, a loop or a call is held.
use Rattle.std.proofs.Common.{◌≡◌, ℕ, ◌+◌, ◌<◌, ◌≤◌, ◌||◌, ◌&&◌, Bool, true, false, if◌then◌else◌, List, [], ◌∷◌, ◌++◌, length, get_or, drop, map, Option, None, Vec, refl, ap, sym, subst, ◌∙◌, arith}
use Rattle.std.specs.Global.{Global}
use Rattle.std.proofs.lemmas.List.{drop_all, append_assoc}
use Rattle.dh_base.specs.declared.places.Place.{Place}
use Rattle.dh_base.proofs.ListItems.{at_item}
use Rattle.dh_base.proofs.InPlace.{Unvisited}
use Rattle.dh_tree.specs.declared.breaches.Breach.{Breach}
use Rattle.dh_tree.specs.declared.trees.commands.Command.{Command}
use Rattle.dh_tree.specs.declared.trees.commands.CommandForm.{CommandForm}
use Rattle.dh_tree.specs.declared.trees.commands.LoopHeader.{LoopHeader}
use Rattle.dh_tree.specs.declared.trees.programs.Tree.{Tree}
use Rattle.dh_tree.specs.declared.trees.programs.Function.{Function}
use Rattle.dh_tree.specs.PlainTrees.{Term, Action, ActionForm, decides, repeats, blocks, MaybeAction}
use Rattle.dh_tree.specs.LeastBreach.{least_of}
use Rattle.dh_tree.specs.Seen.{action_seen, action_form_seen, actions, groups, part_seen, all_parts_seen, counts_seen, defined_seen, program_seen}
use Rattle.dh_tree.specs.Forms.{unbuilt, unbuilt_action, unbuilt_form, unbuilt_other, unbuilt_part, unbuilt_groups, unbuilt_functions, unbuilt_forms, has_dashes, holds_steps, form_holds, other_holds, part_holds, groups_hold}
use Rattle.dh_tree.proofs.Leasts.{least_append}
use Rattle.dh_names.specs.NotBuilt.{KeepsLeastUnbuilt, KeepsCommand, KeepsForm, KeepsPart}

-- two lists, one after the other
two_kept : (kept first second : Option Breach) (xs ys : List Breach) → first ≡ least_of kept xs → second ≡ least_of first ys → second ≡ least_of kept (xs ++ ys)
two_kept kept first second xs ys e f = f ∙ (ap (λ k. least_of k ys) e ∙ sym (least_append kept xs ys))

or_assoc : (a b c : Bool) → ((a || b) || c) ≡ (a || (b || c))
or_assoc true b c = refl
or_assoc false b c = refl

or_none : (b : Bool) → b ≡ (b || false)
or_none true = refl
or_none false = refl

-- a form by what it is seen as
pub form_kept : (place : Place) (f g : CommandForm) (a : ActionForm) (old new : Option Breach) (steps : Bool) → f ≡ g → action_form_seen g ≡ a
    → KeepsLeastUnbuilt old new steps (unbuilt_form place a) (form_holds a) → KeepsForm old new steps place f
form_kept place f g a old new steps is seen h = subst (λ x. KeepsLeastUnbuilt old new steps (unbuilt_form place x) (form_holds x)) (sym (ap action_form_seen is ∙ seen)) h

-- a command that is another one
pub command_at : (old new : Option Breach) (steps : Bool) (x y : Command) → x ≡ y → KeepsCommand old new steps x → KeepsCommand old new steps y
command_at old new steps x y is h = subst (λ z. KeepsCommand old new steps z) is h

pub decides_kept : (place : Place) (f g : CommandForm) (test : Term) (a : Action) (o : MaybeAction) (first mid last : Option Breach) (chosen others : Bool)
    → f ≡ g → action_form_seen g ≡ decides test a o
    → KeepsLeastUnbuilt first mid chosen (unbuilt_action a) (holds_steps a) → KeepsLeastUnbuilt mid last others (unbuilt_other o) (other_holds o) → KeepsForm first last (chosen || others) place f
decides_kept place f g test a o first mid last chosen others is seen one two =
    form_kept place f g (decides test a o) first last (chosen || others) is seen (record {
      kept = two_kept first mid last (unbuilt_action a) (unbuilt_other o) one.kept two.kept;
      told = ap (λ b. b || others) one.told ∙ ap (λ b. holds_steps a || b) two.told;
    })

pub repeats_kept : (place : Place) (f g : CommandForm) (test : Term) (a : Action) (first last : Option Breach) (steps : Bool)
    → f ≡ g → action_form_seen g ≡ repeats test a → KeepsLeastUnbuilt first last steps (unbuilt_action a) (holds_steps a) → KeepsForm first last true place f
repeats_kept place f g test a first last steps is seen one = form_kept place f g (repeats test a) first last true is seen (record { kept = one.kept; told = refl })

pub counts_kept : (place : Place) (f g : CommandForm) (h : LoopHeader) (a : Action) (o : MaybeAction) (first mid last : Option Breach) (steps folds : Bool)
    → f ≡ g → action_form_seen g ≡ counts_seen h a o
    → KeepsLeastUnbuilt first mid steps (unbuilt_action a) (holds_steps a) → KeepsLeastUnbuilt mid last folds (unbuilt_other o) (other_holds o) → KeepsForm first last true place f
counts_kept place f g h a o first mid last steps folds is seen one two =
    form_kept place f g (counts_seen h a o) first last true is seen (record { kept = two_kept first mid last (unbuilt_action a) (unbuilt_other o) one.kept two.kept; told = refl })

-- what is left of a part leads to what all of it leads to
pub record PartSoFar (cs : List Command) (k : ℕ) (first now : Option Breach) (stepped : Bool) : Type 0 where
  pub left : least_of now (unbuilt_part stepped (actions (map action_seen (drop k cs)))) ≡ least_of first (unbuilt_part false (actions (map action_seen cs)))
  pub steps : (stepped || part_holds (actions (map action_seen (drop k cs)))) ≡ part_holds (actions (map action_seen cs))

-- a command, and whether it is a second one that holds a `---`
command_left : (now mid after : Option Breach) (stepped steps : Bool) (cs : List Command) (k : ℕ) (x : Command) → drop k cs ≡ x ∷ drop (k + 1) cs
    → KeepsCommand now mid steps x → after ≡ least_of mid (if stepped && steps then unbuilt x.place else [])
    → least_of after (unbuilt_part (stepped || steps) (actions (map action_seen (drop (k + 1) cs)))) ≡ least_of now (unbuilt_part stepped (actions (map action_seen (drop k cs))))
command_left now mid after stepped steps cs k x at told again =
    let own = unbuilt_form x.place (action_form_seen x.form) in
    let second : Bool → List Breach = λ b. (if stepped && b then unbuilt x.place else []) in
    let left : Bool → List Breach = λ b. unbuilt_part (stepped || b) (actions (map action_seen (drop (k + 1) cs))) in
    ap (λ l. least_of l (left steps)) (two_kept now mid after own (second steps) told.kept again)
    ∙ (sym (least_append now (own ++ second steps) (left steps))
    ∙ (ap (λ l. least_of now l) (append_assoc own (second steps) (left steps))
    ∙ (ap (λ b. least_of now (own ++ (second b ++ left b))) told.told
    ∙ ap (λ l. least_of now (unbuilt_part stepped (actions (map action_seen l)))) (sym at))))

command_steps : (stepped steps : Bool) (cs : List Command) (k : ℕ) (x : Command) → drop k cs ≡ x ∷ drop (k + 1) cs → steps ≡ holds_steps (action_seen x)
    → ((stepped || steps) || part_holds (actions (map action_seen (drop (k + 1) cs)))) ≡ (stepped || part_holds (actions (map action_seen (drop k cs))))
command_steps stepped steps cs k x at told =
    or_assoc stepped steps (part_holds (actions (map action_seen (drop (k + 1) cs))))
    ∙ (ap (λ b. stepped || (b || part_holds (actions (map action_seen (drop (k + 1) cs))))) told
    ∙ ap (λ l. stepped || part_holds (actions (map action_seen l))) (sym at))

-- one turn of the walk over a part: the command is as it was, and stands in the list as it is now
pub command_turn : (cs list : List Command) (k : ℕ) (x : Command) (first now mid after : Option Breach) (stepped steps : Bool)
    → k < length list → Unvisited cs list k → x ≡ get_or list k x → KeepsCommand now mid steps (get_or list k x)
    → after ≡ least_of mid (if stepped && steps then unbuilt (get_or list k x).place else [])
    → PartSoFar cs k first now stepped → PartSoFar cs (k + 1) first after (stepped || steps)
command_turn cs list k x first now mid after stepped steps within u is told again so =
    let rest = at_item cs k x (omega (arith, within, u.0)) (is ∙ u.1 k x (omega arith)) in
    let own = command_at now mid steps (get_or list k x) x (sym is) told in
    let second : after ≡ least_of mid (if stepped && steps then unbuilt x.place else []) =
    again ∙ ap (λ (z : Command). least_of mid (if stepped && steps then unbuilt z.place else [])) (sym is) in
    record {
      left = command_left now mid after stepped steps cs k x rest own second ∙ so.left;
      steps = command_steps stepped steps cs k x rest own.told ∙ so.steps;
    }

-- the end of the walk over a part
pub part_kept : (v : Vec Command Global) (cs : List Command) (k : ℕ) (first now : Option Breach) (stepped : Bool) → cs ≡ v.items → length cs ≤ k → PartSoFar cs k first now stepped
    → KeepsPart first now stepped v
part_kept v cs k first now stepped is past so =
    let gone : drop k cs ≡ [] = drop_all k cs past in
    record {
      kept = ap (λ (l : List Command). least_of now (unbuilt_part stepped (actions (map action_seen l)))) (sym gone) ∙ so.left ∙ ap (λ l. least_of first (unbuilt_part false (actions (map action_seen l)))) is;
      told = or_none stepped ∙ ap (λ (l : List Command). stepped || part_holds (actions (map action_seen l))) (sym gone) ∙ so.steps ∙ ap (λ l. part_holds (actions (map action_seen l))) is;
    }

-- the same of the parts of a block, of which it is told before whether there is a `---` between them
pub record PartsSoFar (ps : List (Vec Command Global)) (i : ℕ) (first now : Option Breach) (dashes holds : Bool) : Type 0 where
  pub left : least_of now (unbuilt_groups (groups (map part_seen (drop i ps)))) ≡ least_of first (unbuilt_groups (groups (map part_seen ps)))
  pub steps : (holds || groups_hold (groups (map part_seen (drop i ps)))) ≡ (dashes || groups_hold (groups (map part_seen ps)))

part_at : (old new : Option Breach) (steps : Bool) (x y : Vec Command Global) → x ≡ y → KeepsPart old new steps x → KeepsPart old new steps y
part_at old new steps x y is h = subst (λ z. KeepsPart old new steps z) is h

pub part_turn_kept : (ps list : List (Vec Command Global)) (i : ℕ) (x : Vec Command Global) (first now after : Option Breach) (dashes holds steps : Bool)
    → i < length list → Unvisited ps list i → x ≡ get_or list i x → KeepsPart now after steps (get_or list i x)
    → PartsSoFar ps i first now dashes holds → PartsSoFar ps (i + 1) first after dashes (holds || steps)
part_turn_kept ps list i x first now after dashes holds steps within u is told so =
    let rest = at_item ps i x (omega (arith, within, u.0)) (is ∙ u.1 i x (omega arith)) in
    let own = part_at now after steps (get_or list i x) x (sym is) told in
    let behind = groups (map part_seen (drop (i + 1) ps)) in
    record {
      left = ap (λ k. least_of k (unbuilt_groups behind)) own.kept
          ∙ sym (least_append now (unbuilt_part false (part_seen x)) (unbuilt_groups behind))
          ∙ ap (λ l. least_of now (unbuilt_groups (groups (map part_seen l)))) (sym rest)
          ∙ so.left;
      steps = or_assoc holds steps (groups_hold behind)
          ∙ ap (λ b. holds || (b || groups_hold behind)) own.told
          ∙ ap (λ l. holds || groups_hold (groups (map part_seen l))) (sym rest)
          ∙ so.steps;
    }

pub parts_kept : (place : Place) (f g : CommandForm) (v : Vec (Vec Command Global) Global) (all ps : List (Vec Command Global)) (i : ℕ) (first now : Option Breach) (dashes holds : Bool)
    → f ≡ g → action_form_seen g ≡ blocks (groups (map part_seen v.items)) → all ≡ v.items → ps ≡ v.items → dashes ≡ has_dashes (all_parts_seen all) → length ps ≤ i
    → PartsSoFar ps i first now dashes holds → KeepsForm first now holds place f
parts_kept place f g v all ps i first now dashes holds is seen same listed told past so =
    let gone : drop i ps ≡ [] = drop_all i ps past in
    form_kept place f g (blocks (groups (map part_seen v.items))) first now holds is seen (record {
      kept = ap (λ (l : List (Vec Command Global)). least_of now (unbuilt_groups (groups (map part_seen l)))) (sym gone) ∙ so.left ∙ ap (λ l. least_of first (unbuilt_groups (groups (map part_seen l)))) listed;
      told = or_none holds
          ∙ ap (λ (l : List (Vec Command Global)). holds || groups_hold (groups (map part_seen l))) (sym gone)
          ∙ so.steps
          ∙ ap (λ b. b || groups_hold (groups (map part_seen ps))) (told ∙ ap (λ l. has_dashes (all_parts_seen l)) same)
          ∙ ap (λ l. has_dashes (all_parts_seen v.items) || groups_hold (groups (map part_seen l))) listed;
    })

-- functions, and then the program's body
pub forms_found : (tree : Tree) (fs : List Function) (mid last : Option Breach) → fs ≡ tree.functions.items → mid ≡ least_of None (unbuilt_functions (map defined_seen fs))
    → last ≡ least_of mid (unbuilt_action (action_seen tree.body)) → last ≡ least_of None (unbuilt_forms (program_seen tree))
forms_found tree fs mid last is one two =
    two_kept None mid last (unbuilt_functions (map defined_seen tree.functions.items)) (unbuilt_action (action_seen tree.body))
    (one ∙ ap (λ l. least_of None (unbuilt_functions (map defined_seen l))) is) two
