-- The phases of a command of the code, as they are gathered: of an `if`, a `while` and a `for` from what was read
-- of their blocks, of parts command by command. And the number behind their accesses.
use Rattle.std.proofs.Common.{◌≡◌, ℕ, ◌+◌, ◌-◌, ◌^◌, ◌<◌, ◌≤◌, Bool, true, false, if◌then◌else◌, List, [], ◌∷◌, ◌++◌, length, get_or, drop, map, Option, None, Some, option_map, refl, ap, sym, subst, ◌∙◌, append_assoc, append-nil, zero-add}
use Rattle.std.proofs.lemmas.List.{drop_all, map-append}
use Rattle.std.specs.Prelude.{Vec}
use Rattle.std.specs.Global.{Global}
use Rattle.dh_base.proofs.ListItems.{at_item}
use Rattle.dh_tree.specs.declared.trees.commands.Command.{Command}
use Rattle.dh_tree.specs.declared.trees.commands.LoopHeader.{LoopHeader}
use Rattle.dh_tree.specs.declared.trees.expressions.Ref.{Ref}
use Rattle.dh_tree.specs.PlainTrees as tree
use Rattle.dh_tree.specs.PlainTrees.{Action, ActionForm, MaybeAction, Term, ViewPlan, action, decides, repeats, views}
use Rattle.dh_tree.specs.Seen.{action_form_seen, action_seen, actions, all_parts_seen, counts_seen, groups, part_seen}
use Rattle.dh_tree.specs.ViewOffsets.{moves}
use Rattle.dh_meaning.specs.AccessNumbers.{accesses_of, groups_accesses, part_accesses, term_accesses}
use Rattle.dh_meaning.specs.Phases as source
use Rattle.dh_meaning.specs.Phases.{located, turn_count}
use Rattle.dh_meaning.specs.Sites.{nothing_around}
use Rattle.dh_phases.specs.Counted.{behind}
use Rattle.dh_phases.specs.declared.gathering.NumberedCommand.{NumberedCommand}
use Rattle.dh_phases.specs.declared.gathering.Phase.{Phase}
use Rattle.dh_phases.specs.GatheredPhases.{Gathered, Numbered, loop_phase, all_gathered, code_number, gathered_list, header_seen, as_numbered, numbered_seen, phase_seen, phases_seen}
use Rattle.dh_phases.specs.Gathering.{phases_in, phases_in_groups, phases_in_other, lone_phase, one_phase, gathered_turn_phases, view_phases, gathered_choice_phases, straight_commands, done_by, current_after, gathered, folded_last, folded_phases, IsPhaseAlone}
use Rattle.dh_phases.proofs.CountedParts.{Left, behind_none, behind_twice}
use Rattle.dh_phases.proofs.PhasesAnywhere.{alone_is, parts_in, choice_is, code_small, loop_is, turns_are, groups_are}

-- the phases of commands of the code
abbrev pub command_phases : (first : ℕ) → List Command → List (List Gathered)
command_phases n [] = []
command_phases n (c ∷ cs) = phases_in n (action_seen c) ∷ command_phases (behind n (accesses_of (action_seen c))) cs

-- how many accesses they make
abbrev pub commands_make : List Command → ℕ
commands_make cs = part_accesses (actions (map action_seen cs))

parts_are : (n : ℕ) (cs : List Command) → parts_in n (actions (map action_seen cs)) ≡ command_phases n cs
parts_are n [] = refl
parts_are n (c ∷ cs) = ap (λ l. phases_in n (action_seen c) ∷ l) (parts_are (behind n (accesses_of (action_seen c))) cs)

-- the first part, and those behind it
group_is : (n : ℕ) (cs : List Command) (rest : tree.Groups) → code_number n ≡ n → phases_in_groups n (tree.group_then (actions (map action_seen cs)) rest) ≡ gathered [] (command_phases n cs) ++ phases_in_groups (behind n (commands_make cs)) rest
group_is n cs rest small = groups_are n small (actions (map action_seen cs)) rest ∙ ap (λ l. gathered [] l ++ phases_in_groups (behind n (commands_make cs)) rest) (parts_are n cs)

-- what is done, what the commands that are left give behind those that stand open, and what the parts behind them give
abbrev pub all_from : (done : List Gathered) → (current : List Numbered) → (next : ℕ) → List Command → List (Vec Command Global) → List Gathered
all_from done current next cs rest = done ++ (gathered current (command_phases next cs) ++ phases_in_groups (behind next (commands_make cs)) (all_parts_seen rest))

-- what the parts from one on give is what its commands give, and then the parts behind it
pub part_begin : (ps : List (Vec Command Global)) (i : ℕ) (p : Vec Command Global) (done all : List Gathered) (current : List Numbered) (cs : List Command) (next : ℕ) → i < length ps → p ≡ get_or ps i p → cs ≡ p.items → next ≤ 2 ^ 32 - 1
    → current ≡ [] → done ++ phases_in_groups next (all_parts_seen (drop i ps)) ≡ all → all_from done current next cs (drop (i + 1) ps) ≡ all
part_begin ps i p done all current cs next within is items small empty before =
    ap (λ l. all_from done current next l (drop (i + 1) ps)) items
    ∙ (ap (λ o. all_from done o next p.items (drop (i + 1) ps)) empty
    ∙ (ap (λ g. done ++ g) (sym (group_is next p.items (all_parts_seen (drop (i + 1) ps)) (code_small next small)))
    ∙ (ap (λ l. done ++ phases_in_groups next (all_parts_seen l)) (sym (at_item ps i p within is))
    ∙ before)))

regroup : (a b c d : List Gathered) → (a ++ b) ++ (c ++ d) ≡ a ++ ((b ++ c) ++ d)
regroup a b c d = append_assoc a b (c ++ d) ∙ ap (λ l. a ++ l) (sym (append_assoc b c d))

-- one command more
module _ (c : Command) (cs : List Command) (rest : List (Vec Command Global)) (done : List Gathered) (current : List Numbered) (next : ℕ) where
  abbrev own : List Gathered
  own = phases_in next (action_seen c)

  abbrev behind_it : ℕ
  behind_it = behind next (accesses_of (action_seen c))

  taken : all_from (done ++ done_by current own) (current_after current own) behind_it cs rest ≡ all_from done current next (c ∷ cs) rest
  taken =
      regroup done (done_by current own) (gathered (current_after current own) (command_phases behind_it cs)) (phases_in_groups (behind behind_it (commands_make cs)) (all_parts_seen rest))
      ∙ ap (λ n. done ++ ((done_by current own ++ gathered (current_after current own) (command_phases behind_it cs)) ++ phases_in_groups n (all_parts_seen rest))) (behind_twice next (accesses_of (action_seen c)) (commands_make cs))

-- one turn of the loop over the commands of a part
pub part_turn : (cs : List Command) (i : ℕ) (c : Command) (rest : List (Vec Command Global)) (done done' : List Gathered) (current current' : List Numbered) (next next' : ℕ) (read all : List Gathered) → i < length cs → c ≡ get_or cs i c
    → read ≡ phases_in next (action_seen c) → next' ≡ behind next (accesses_of (action_seen c)) → done' ≡ done ++ done_by current read → current' ≡ current_after current read
    → all_from done current next (drop i cs) rest ≡ all → all_from done' current' next' (drop (i + 1) cs) rest ≡ all
part_turn cs i c rest done done' current current' next next' read all within is read_is told ended left before =
    ap (λ d. all_from d current' next' (drop (i + 1) cs) rest) (ended ∙ ap (λ l. done ++ done_by current l) read_is)
    ∙ (ap (λ g. all_from (done ++ done_by current (phases_in next (action_seen c))) g next' (drop (i + 1) cs) rest) (left ∙ ap (λ l. current_after current l) read_is)
    ∙ (ap (λ n. all_from (done ++ done_by current (phases_in next (action_seen c))) (current_after current (phases_in next (action_seen c))) n (drop (i + 1) cs) rest) told
    ∙ (taken c (drop (i + 1) cs) rest done current next
    ∙ (ap (λ l. all_from done current next l rest) (sym (at_item cs i c within is)) ∙ before))))

-- and where it joins those that stand open
pub part_joined : (cs : List Command) (i : ℕ) (c : Command) (rest : List (Vec Command Global)) (done : List Gathered) (current current' : List Numbered) (next next' : ℕ) (all : List Gathered) → i < length cs → c ≡ get_or cs i c
    → phases_in next (action_seen c) ≡ lone_phase (as_numbered (action_seen c) next) → next' ≡ behind next (accesses_of (action_seen c)) → current' ≡ current ++ as_numbered (action_seen c) next ∷ []
    → all_from done current next (drop i cs) rest ≡ all → all_from done current' next' (drop (i + 1) cs) rest ≡ all
part_joined cs i c rest done current current' next next' all within is single told left before =
    part_turn cs i c rest done done current current' next next' (lone_phase (as_numbered (action_seen c) next)) all within is (sym single) told (sym (append-nil done)) left before

-- at the end of a part the commands that stand open end
pub part_end : (cs : List Command) (i : ℕ) (rest : List (Vec Command Global)) (done done' all : List Gathered) (current : List Numbered) (next : ℕ) → length cs ≤ i → next ≤ 2 ^ 32 - 1 → done' ≡ done ++ one_phase current
    → all_from done current next (drop i cs) rest ≡ all → done' ++ phases_in_groups next (all_parts_seen rest) ≡ all
part_end cs i rest done done' all current next over small ended inv =
    ap (λ d. d ++ phases_in_groups next (all_parts_seen rest)) ended
    ∙ (append_assoc done (one_phase current) (phases_in_groups next (all_parts_seen rest))
    ∙ (ap (λ n. done ++ (one_phase current ++ phases_in_groups n (all_parts_seen rest))) (sym (behind_none next small))
    ∙ (ap (λ l. all_from done current next l rest) (sym (drop_all i cs over)) ∙ inv)))

-- what the parts behind the last give
pub parts_over : (ps : List (Vec Command Global)) (i : ℕ) (done all : List Gathered) (next : ℕ) → length ps ≤ i → done ++ phases_in_groups next (all_parts_seen (drop i ps)) ≡ all → done ≡ all
parts_over ps i done all next over inv = sym (append-nil done) ∙ (ap (λ l. done ++ phases_in_groups next (all_parts_seen l)) (sym (drop_all i ps over)) ∙ inv)

-- The number behind what is left is that behind all.
pub left_begin : (ps : List (Vec Command Global)) (i next first all : ℕ) (p : Vec Command Global) (cs : List Command) → i < length ps → p ≡ get_or ps i p → cs ≡ p.items
    → Left next (groups_accesses (all_parts_seen (drop i ps))) first all → Left next (commands_make cs + groups_accesses (all_parts_seen (drop (i + 1) ps))) first all
left_begin ps i next first all p cs within is items h =
    subst (λ (n : ℕ). Left next n first all)
    (ap (λ l. groups_accesses (all_parts_seen l)) (at_item ps i p within is) ∙ ap (λ l. commands_make l + groups_accesses (all_parts_seen (drop (i + 1) ps))) (sym items)) h

pub left_end : (ps : List (Vec Command Global)) (i next first all : ℕ) (cs : List Command) (j : ℕ) → length cs ≤ j
    → Left next (commands_make (drop j cs) + groups_accesses (all_parts_seen (drop i ps))) first all → Left next (groups_accesses (all_parts_seen (drop i ps))) first all
left_end ps i next first all cs j over h =
    subst (λ (n : ℕ). Left next n first all) (ap (λ l. commands_make l + groups_accesses (all_parts_seen (drop i ps))) (drop_all j cs over) ∙ zero-add (groups_accesses (all_parts_seen (drop i ps)))) h

-- What a form of the code has is what its plain form has: of an `if`, a `while` and a `for`.
module _ (c : Command) (plain : ActionForm) (seen : action_form_seen c.form ≡ plain) (first : ℕ) where
  abbrev here : ActionForm → Numbered
  here form = as_numbered (action c.id c.place form) first

  -- read of the command as it is seen, where so read of the plain form is what that has
  by_form : (made : Numbered → List Gathered) (read : List Gathered) → made (here plain) ≡ phases_in first (action c.id c.place plain) → read ≡ made (here (action_form_seen c.form)) → read ≡ phases_in first (action_seen c)
  by_form made read is given = given ∙ subst (λ (f : ActionForm). made (here f) ≡ phases_in first (action c.id c.place f)) (sym seen) is

-- a straight command is a phase alone
pub alone_read : (c : Command) (form : ActionForm) → action_form_seen c.form ≡ form → ((first : ℕ) → phases_in first (action c.id c.place form) ≡ gathered_list (source.one_command (located nothing_around first (action c.id c.place form)))) → IsPhaseAlone c
alone_read c form seen is first small =
    subst (λ (f : ActionForm). phases_in first (action c.id c.place f) ≡ lone_phase (as_numbered (action c.id c.place f) first)) (sym seen) (is first ∙ alone_is first (code_small first small) (action c.id c.place form))

-- a view, which is a command where it moves
pub view_read : (c : Command) (name parent : Ref) (form : ViewPlan) (first : ℕ) (read : List Gathered) → action_form_seen c.form ≡ views name parent form → first ≤ 2 ^ 32 - 1
    → read ≡ view_phases (moves form) (as_numbered (action_seen c) first) → read ≡ phases_in first (action_seen c)
view_read c name parent form first read seen small g = by_form c (views name parent form) seen first (λ x. view_phases (moves form) x) read (by (moves form)) g
  where
    viewed : Action
    viewed = action c.id c.place (views name parent form)

    by : (b : Bool) → view_phases b (as_numbered viewed first) ≡ gathered_list (if b then source.one_command (located nothing_around first viewed) else [])
    by true = sym (alone_is first (code_small first small) viewed)
    by false = refl

pub if_read : (c : Command) (test : Term) (chosen : Action) (other : MaybeAction) (first next second : ℕ) (chosen_read other_read read : List Gathered) → action_form_seen c.form ≡ decides test chosen other → first ≤ 2 ^ 32 - 1
    → next ≡ behind first (term_accesses test) → second ≡ behind next (accesses_of chosen) → chosen_read ≡ phases_in next chosen → other_read ≡ phases_in_other second other
    → read ≡ gathered_choice_phases (as_numbered (action_seen c) first) (Some test) chosen_read other_read → read ≡ phases_in first (action_seen c)
if_read c test chosen other first next second chosen_read other_read read seen small n s e f g =
    by_form c (decides test chosen other) seen first (λ x. gathered_choice_phases x (Some test) chosen_read other_read) read
    (ap (λ ps. gathered_choice_phases (as_numbered (action c.id c.place (decides test chosen other)) first) (Some test) ps other_read) (e ∙ ap (λ k. phases_in k chosen) n)
    ∙ (ap (λ ps. gathered_choice_phases (as_numbered (action c.id c.place (decides test chosen other)) first) (Some test) (phases_in (behind first (term_accesses test)) chosen) ps) (f ∙ ap (λ k. phases_in_other k other) (s ∙ ap (λ k. behind k (accesses_of chosen)) n))
    ∙ sym (choice_is first (code_small first small) c.id c.place test chosen other)))
    g

pub while_read : (c : Command) (test : Term) (body : Action) (first next : ℕ) (body_read read : List Gathered) → action_form_seen c.form ≡ repeats test body → first ≤ 2 ^ 32 - 1 → next ≡ behind first (term_accesses test)
    → body_read ≡ phases_in next body → read ≡ loop_phase (as_numbered (action_seen c) first) (Some test) (all_gathered body_read) ∷ [] → read ≡ phases_in first (action_seen c)
while_read c test body first next body_read read seen small n e g =
    by_form c (repeats test body) seen first (λ x. loop_phase x (Some test) (all_gathered body_read) ∷ []) read
    (ap (λ ps. loop_phase (as_numbered (action c.id c.place (repeats test body)) first) (Some test) (all_gathered ps) ∷ []) (e ∙ ap (λ k. phases_in k body) n)
    ∙ sym (loop_is first (code_small first small) c.id c.place test body))
    g

pub for_read : (c : Command) (h : LoopHeader) (body : Action) (combine : MaybeAction) (count first next : ℕ) (body_read fold_read turn_read read : List Gathered) → action_form_seen c.form ≡ counts_seen h body combine → first ≤ 2 ^ 32 - 1
    → count ≡ turn_count h.low h.high h.factor → next ≡ behind first (accesses_of body) → body_read ≡ phases_in first body → fold_read ≡ phases_in_other next combine → turn_read ≡ folded_phases body_read fold_read
    → read ≡ gathered_turn_phases (as_numbered (action_seen c) first) (Some (header_seen h)) count turn_read → read ≡ phases_in first (action_seen c)
for_read c h body combine count first next body_read fold_read turn_read read seen small n m e f t g =
    by_form c (counts_seen h body combine) seen first (λ x. gathered_turn_phases x (Some (header_seen h)) count turn_read) read
    (ap (λ k. gathered_turn_phases at (Some (header_seen h)) k turn_read) n
    ∙ (ap (λ ps. gathered_turn_phases at (Some (header_seen h)) (turn_count h.low h.high h.factor) ps) (t ∙ (ap (λ ps. folded_phases ps fold_read) e ∙ ap (λ ps. folded_phases (phases_in first body) ps) (f ∙ ap (λ k. phases_in_other k combine) m)))
    ∙ sym (turns_are first (code_small first small) c.id c.place h body combine)))
    g
  where
    at : Numbered
    at = as_numbered (action c.id c.place (counts_seen h body combine)) first

-- `combine` behind a body, by the last phase of that
last_folded : (ps : List Gathered) (last : Gathered) (fold : List Gathered) → folded_phases (ps ++ last ∷ []) fold ≡ ps ++ folded_last last (straight_commands last) fold
last_folded [] last fold = refl
last_folded (p ∷ []) last fold = refl
last_folded (p ∷ q ∷ ps) last fold = ap (λ l. p ∷ l) (last_folded (q ∷ ps) last fold)

popped_is : (body popped : List Phase) (last : Phase) (fold : List Gathered) → body ≡ popped ++ last ∷ []
    → phases_seen popped ++ folded_last (phase_seen last) (straight_commands (phase_seen last)) fold ≡ folded_phases (phases_seen body) fold
popped_is body popped last fold taken =
    sym (last_folded (phases_seen popped) (phase_seen last) fold) ∙ ap (λ l. folded_phases l fold) (sym (ap phases_seen taken ∙ map-append phase_seen popped (last ∷ [])))

-- what is told of a value that may lack, where it is there and where it is not
pub told_some : {A B : Type 0} (f : A → B) (r : Option A) (a : A) (told : Option B) → r ≡ Some a → option_map f r ≡ told → told ≡ Some (f a)
told_some f r a told is e = sym e ∙ ap (option_map f) is

pub told_none : {A B : Type 0} (f : A → B) (r : Option A) (told : Option B) → r ≡ None → option_map f r ≡ told → told ≡ None
told_none f r told is e = sym e ∙ ap (option_map f) is

pub straight_folded : (body popped : List Phase) (last : Phase) (commands none begun : List NumberedCommand) (fold done new : List Gathered) (current : List Numbered) → body ≡ popped ++ last ∷ [] → straight_commands (phase_seen last) ≡ Some (map numbered_seen commands)
    → none ≡ [] → begun ≡ none ++ commands → done ≡ phases_seen popped ++ done_by (map numbered_seen begun) fold → current ≡ current_after (map numbered_seen begun) fold → new ≡ done ++ one_phase current → new ≡ folded_phases (phases_seen body) fold
straight_folded body popped last commands none begun fold done new current taken straight empty begins joins left ends =
    let same : map numbered_seen begun ≡ map numbered_seen commands = ap (λ l. map numbered_seen l) (begins ∙ ap (λ l. l ++ commands) empty) in
    ends
    ∙ (ap (λ d. d ++ one_phase current) joins
    ∙ (ap (λ o. (phases_seen popped ++ done_by (map numbered_seen begun) fold) ++ one_phase o) left
    ∙ (append_assoc (phases_seen popped) (done_by (map numbered_seen begun) fold) (one_phase (current_after (map numbered_seen begun) fold))
    ∙ (ap (λ cs. phases_seen popped ++ folded_last (phase_seen last) (Some cs) fold) same
    ∙ (ap (λ s. phases_seen popped ++ folded_last (phase_seen last) s fold) (sym straight)
    ∙ popped_is body popped last fold taken)))))

pub other_folded : (body popped : List Phase) (last : Phase) (fold new : List Gathered) → body ≡ popped ++ last ∷ [] → straight_commands (phase_seen last) ≡ None
    → new ≡ phases_seen popped ++ phase_seen last ∷ fold → new ≡ folded_phases (phases_seen body) fold
other_folded body popped last fold new taken other all =
    all
    ∙ (ap (λ s. phases_seen popped ++ folded_last (phase_seen last) s fold) (sym other)
    ∙ popped_is body popped last fold taken)

-- phases behind a phase behind phases
pub phases_behind : (body pushed new fold : List Phase) (last : Phase) → pushed ≡ body ++ last ∷ [] → new ≡ pushed ++ fold → phases_seen new ≡ phases_seen body ++ phase_seen last ∷ phases_seen fold
phases_behind body pushed new fold last back all =
    ap phases_seen (all ∙ ap (λ l. l ++ fold) back)
    ∙ (map-append phase_seen (body ++ last ∷ []) fold
    ∙ (ap (λ l. l ++ phases_seen fold) (map-append phase_seen body (last ∷ []))
    ∙ append_assoc (phases_seen body) (phase_seen last ∷ []) (phases_seen fold)))
