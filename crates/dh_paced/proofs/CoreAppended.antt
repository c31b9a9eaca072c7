-- The straight commands of a command stand in front of those behind it: so levels behind them, and what they mention and
-- assign to, are of both.
use Rattle.std.proofs.Common.{◌≡◌, ℕ, ◌+◌, Option, refl, ap, sym, ◌∙◌}
use Rattle.std.specs.Prelude.{Bool as Truth, true, false, ◌||◌, List, [], ◌∷◌}
use Rattle.dh_tree.specs.PlainTrees.{Action, action, lets, lets_memory, views, assigns, stores, reduces, calls, blocks, decides, repeats, counts, Actions, no_actions, action_then, Groups, no_groups, group_then}
use Rattle.dh_tree.specs.Seen.{terms}
use Rattle.dh_tree.specs.ViewOffsets.{offsets_of}
use Rattle.dh_meaning.specs.AccessNumbers.{accesses_of, part_accesses}
use Rattle.dh_meaning.specs.Core.{CoreTerms, no_terms, term_and, CoreCommands, no_commands, command_and}
use Rattle.dh_meaning.specs.CoreOf.{Known, core_action, core_commands, core_groups, core_part, core_terms, kept_by, way_of}
use Rattle.dh_meaning.specs.Ways.{Hidden, hidden_in}
use Rattle.dh_meaning.specs.Levels.{Levels, any_assigns, assigns_to, command_leveled, commands_leveled}
use Rattle.dh_meaning.specs.Phases.{Located}
use Rattle.dh_plan.specs.PlanPhases.{command_mentions, commands_mention}
use Rattle.dh_paced.specs.Paced.{action_levels, each_levels}

abbrev pub appended : CoreCommands → CoreCommands → CoreCommands
appended no_commands rest = rest
appended (command_and c cs) rest = command_and c (appended cs rest)

appended_again : (a b c : CoreCommands) → appended (appended a b) c ≡ appended a (appended b c)
appended_again no_commands b c = refl
appended_again (command_and d ds) b c = ap (λ (es : CoreCommands). command_and d es) (appended_again ds b c)

kept_appended : (hidden : List Hidden) (ts : CoreTerms) (rest : CoreCommands) → kept_by hidden ts rest ≡ appended (kept_by hidden ts no_commands) rest
kept_appended hidden no_terms rest = refl
kept_appended [] (term_and t ts) rest = refl
kept_appended (h ∷ hs) (term_and t ts) rest = refl

module _ (known : Known) where
  mutual
    pub action_appended : (n : ℕ) (a : Action) (rest : CoreCommands) → core_action known n a rest ≡ appended (core_action known n a no_commands) rest
    action_appended n (action id place (lets name declared value)) rest = refl
    action_appended n (action id place (assigns target value)) rest = refl
    action_appended n (action id place (stores target value)) rest = refl
    action_appended n (action id place (reduces target op value)) rest = refl
    action_appended n (action id place (decides test chosen other)) rest = refl
    action_appended n (action id place (blocks body)) rest = groups_appended n body rest
    action_appended n (action id place (lets_memory name shape shape_places value)) rest = refl
    action_appended n (action id place (views name parent form)) rest = kept_appended (hidden_in (way_of known name)) (core_terms known n (terms (offsets_of form))) rest
    action_appended n (action id place (calls function arguments)) rest = refl
    action_appended n (action id place (repeats test body)) rest = refl
    action_appended n (action id place (counts iterator declared low high factor body combine combine_place)) rest = refl

    pub part_appended : (n : ℕ) (part : Actions) (rest : CoreCommands) → core_part known n part rest ≡ appended (core_part known n part no_commands) rest
    part_appended n no_actions rest = refl
    part_appended n (action_then a behind) rest =
        action_appended n a (core_part known (n + accesses_of a) behind rest)
        ∙ (ap (λ (cs : CoreCommands). appended (core_action known n a no_commands) cs) (part_appended (n + accesses_of a) behind rest)
        ∙ (sym (appended_again (core_action known n a no_commands) (core_part known (n + accesses_of a) behind no_commands) rest)
        ∙ ap (λ (cs : CoreCommands). appended cs rest) (sym (action_appended n a (core_part known (n + accesses_of a) behind no_commands)))))

    pub groups_appended : (n : ℕ) (body : Groups) (rest : CoreCommands) → core_groups known n body rest ≡ appended (core_groups known n body no_commands) rest
    groups_appended n no_groups rest = refl
    groups_appended n (group_then part behind) rest =
        part_appended n part (core_groups known (n + part_accesses part) behind rest)
        ∙ (ap (λ (cs : CoreCommands). appended (core_part known n part no_commands) cs) (groups_appended (n + part_accesses part) behind rest)
        ∙ (sym (appended_again (core_part known n part no_commands) (core_groups known (n + part_accesses part) behind no_commands) rest)
        ∙ ap (λ (cs : CoreCommands). appended cs rest) (sym (part_appended n part (core_groups known (n + part_accesses part) behind no_commands)))))

-- What is told of commands in front and of those behind.

pub appended_levels : (shared : ℕ → Option ℕ) (outer : ℕ) (a b : CoreCommands) (l : Levels) → commands_leveled shared outer (appended a b) l ≡ commands_leveled shared outer b (commands_leveled shared outer a l)
appended_levels shared outer no_commands b l = refl
appended_levels shared outer (command_and c cs) b l = appended_levels shared outer cs b (command_leveled shared outer c l)

or_again : (a b c : Truth) → (a || (b || c)) ≡ ((a || b) || c)
or_again true b c = refl
or_again false b c = refl

pub appended_assigns : (e : ℕ) (a b : CoreCommands) → any_assigns e (appended a b) ≡ (any_assigns e a || any_assigns e b)
appended_assigns e no_commands b = refl
appended_assigns e (command_and c cs) b = ap (λ (t : Truth). assigns_to e c || t) (appended_assigns e cs b) ∙ or_again (assigns_to e c) (any_assigns e cs) (any_assigns e b)

pub appended_mentions : (e : ℕ) (a b : CoreCommands) → commands_mention e (appended a b) ≡ (commands_mention e a || commands_mention e b)
appended_mentions e no_commands b = refl
appended_mentions e (command_and c cs) b = ap (λ (t : Truth). command_mentions e c || t) (appended_mentions e cs b) ∙ or_again (command_mentions e c) (commands_mention e cs) (commands_mention e b)

module _ (known : Known) (n : ℕ) where
  module _ (a : Action) (rest : CoreCommands) where
    pub action_then_levels : (shared : ℕ → Option ℕ) (outer : ℕ) (l : Levels) → commands_leveled shared outer (core_action known n a rest) l ≡ commands_leveled shared outer rest (commands_leveled shared outer (core_action known n a no_commands) l)
    action_then_levels shared outer l = ap (λ (cs : CoreCommands). commands_leveled shared outer cs l) (action_appended known n a rest) ∙ appended_levels shared outer (core_action known n a no_commands) rest l

    pub action_then_assigns : (e : ℕ) → any_assigns e (core_action known n a rest) ≡ (any_assigns e (core_action known n a no_commands) || any_assigns e rest)
    action_then_assigns e = ap (λ (cs : CoreCommands). any_assigns e cs) (action_appended known n a rest) ∙ appended_assigns e (core_action known n a no_commands) rest

    pub action_then_mentions : (e : ℕ) → commands_mention e (core_action known n a rest) ≡ (commands_mention e (core_action known n a no_commands) || commands_mention e rest)
    action_then_mentions e = ap (λ (cs : CoreCommands). commands_mention e cs) (action_appended known n a rest) ∙ appended_mentions e (core_action known n a no_commands) rest

  module _ (part : Actions) (rest : CoreCommands) where
    pub part_then_levels : (shared : ℕ → Option ℕ) (outer : ℕ) (l : Levels) → commands_leveled shared outer (core_part known n part rest) l ≡ commands_leveled shared outer rest (commands_leveled shared outer (core_part known n part no_commands) l)
    part_then_levels shared outer l = ap (λ (cs : CoreCommands). commands_leveled shared outer cs l) (part_appended known n part rest) ∙ appended_levels shared outer (core_part known n part no_commands) rest l

    pub part_then_assigns : (e : ℕ) → any_assigns e (core_part known n part rest) ≡ (any_assigns e (core_part known n part no_commands) || any_assigns e rest)
    part_then_assigns e = ap (λ (cs : CoreCommands). any_assigns e cs) (part_appended known n part rest) ∙ appended_assigns e (core_part known n part no_commands) rest

    pub part_then_mentions : (e : ℕ) → commands_mention e (core_part known n part rest) ≡ (commands_mention e (core_part known n part no_commands) || commands_mention e rest)
    part_then_mentions e = ap (λ (cs : CoreCommands). commands_mention e cs) (part_appended known n part rest) ∙ appended_mentions e (core_part known n part no_commands) rest

-- The levels behind all commands of a block are those that its phase has.
pub each_leveled : (known : Known) (shared : ℕ → Option ℕ) (cs : List Located) (l : Levels) → each_levels known shared cs l ≡ commands_leveled shared 0 (core_commands known cs) l
each_leveled known shared [] l = refl
each_leveled known shared (c ∷ cs) l =
    each_leveled known shared cs (action_levels known shared 0 c.first c.command l) ∙ sym (action_then_levels known c.first c.command (core_commands known cs) shared 0 l)
