-- The commands of a part in front of others are its own, and then those.
use Rattle.std.proofs.Common.{◌≡◌, ℕ, ◌+◌, ◌||◌, Bool, true, false, List, [], ◌∷◌, refl, ap, sym, ◌∙◌}
use Rattle.dh_tree.specs.PlainTrees.{Action, action, lets, lets_memory, views, assigns, stores, reduces, calls, blocks, decides, repeats, counts, Actions, no_actions, action_then, Groups, no_groups, group_then}
use Rattle.dh_tree.specs.Seen.{terms}
use Rattle.dh_tree.specs.ViewOffsets.{offsets_of}
use Rattle.dh_meaning.specs.AccessNumbers.{accesses_of, part_accesses}
use Rattle.dh_meaning.specs.Core.{CoreTerms, no_terms, term_and, CoreCommands, no_commands, command_and}
use Rattle.dh_meaning.specs.CoreOf.{Known, core_action, core_part, core_groups, core_terms, kept_by, way_of}
use Rattle.dh_meaning.specs.Effects.{Begun, Effect, command_run, commands_run}
use Rattle.dh_meaning.specs.Levels.{any_assigns, assigns_to}
use Rattle.dh_meaning.specs.Paths.{Path}
use Rattle.dh_meaning.specs.Ways.{Hidden, hidden_in}

abbrev pub joined : CoreCommands → CoreCommands → CoreCommands
joined no_commands ds = ds
joined (command_and c cs) ds = command_and c (joined cs ds)

joined_twice : (bs cs ds : CoreCommands) → joined (joined bs cs) ds ≡ joined bs (joined cs ds)
joined_twice no_commands cs ds = refl
joined_twice (command_and b bs) cs ds = ap (λ l. command_and b l) (joined_twice bs cs ds)

kept_joined : (hidden : List Hidden) (ts : CoreTerms) (rest : CoreCommands) → kept_by hidden ts rest ≡ joined (kept_by hidden ts no_commands) rest
kept_joined hidden no_terms rest = refl
kept_joined [] (term_and t ts) rest = refl
kept_joined (h ∷ hs) (term_and t ts) rest = refl

mutual
  pub action_joined : (known : Known) (n : ℕ) (a : Action) (rest : CoreCommands) → core_action known n a rest ≡ joined (core_action known n a no_commands) rest
  action_joined known n (action id place (lets r declared value)) rest = refl
  action_joined known n (action id place (assigns r t)) rest = refl
  action_joined known n (action id place (stores target t)) rest = refl
  action_joined known n (action id place (reduces r o t)) rest = refl
  action_joined known n (action id place (decides t chosen other)) rest = refl
  action_joined known n (action id place (blocks body)) rest = groups_joined known n body rest
  action_joined known n (action id place (lets_memory name shape shape_places value)) rest = refl
  action_joined known n (action id place (views name parent form)) rest = kept_joined (hidden_in (way_of known name)) (core_terms known n (terms (offsets_of form))) rest
  action_joined known n (action id place (calls function arguments)) rest = refl
  action_joined known n (action id place (repeats test body)) rest = refl
  action_joined known n (action id place (counts iterator declared low high factor body combine combine_place)) rest = refl

  pub part_joined : (known : Known) (n : ℕ) (q : Actions) (rest : CoreCommands) → core_part known n q rest ≡ joined (core_part known n q no_commands) rest
  part_joined known n no_actions rest = refl
  part_joined known n (action_then a more) rest =
      action_joined known n a (core_part known (n + accesses_of a) more rest)
      ∙ (ap (λ l. joined (core_action known n a no_commands) l) (part_joined known (n + accesses_of a) more rest)
      ∙ (sym (joined_twice (core_action known n a no_commands) (core_part known (n + accesses_of a) more no_commands) rest)
      ∙ ap (λ l. joined l rest) (sym (action_joined known n a (core_part known (n + accesses_of a) more no_commands)))))

  pub groups_joined : (known : Known) (n : ℕ) (gs : Groups) (rest : CoreCommands) → core_groups known n gs rest ≡ joined (core_groups known n gs no_commands) rest
  groups_joined known n no_groups rest = refl
  groups_joined known n (group_then part more) rest =
      part_joined known n part (core_groups known (n + part_accesses part) more rest)
      ∙ (ap (λ l. joined (core_part known n part no_commands) l) (groups_joined known (n + part_accesses part) more rest)
      ∙ (sym (joined_twice (core_part known n part no_commands) (core_groups known (n + part_accesses part) more no_commands) rest)
      ∙ ap (λ l. joined l rest) (sym (part_joined known n part (core_groups known (n + part_accesses part) more no_commands)))))

-- they are run one after the other
pub joined_run : (b : Begun) (paths : List Path) (cs ds : CoreCommands) (e : Effect) → commands_run b paths (joined cs ds) e ≡ commands_run b paths ds (commands_run b paths cs e)
joined_run b paths no_commands ds e = refl
joined_run b paths (command_and c cs) ds e = joined_run b paths cs ds (command_run b paths c e)

-- and assign what each of them does
pub joined_assigns : (entity : ℕ) (cs ds : CoreCommands) → any_assigns entity (joined cs ds) ≡ (any_assigns entity cs || any_assigns entity ds)
joined_assigns entity no_commands ds = refl
joined_assigns entity (command_and c cs) ds = ap (λ b. assigns_to entity c || b) (joined_assigns entity cs ds) ∙ grouped (assigns_to entity c) (any_assigns entity cs) (any_assigns entity ds)
  where
    grouped : (x y z : Bool) → (x || (y || z)) ≡ ((x || y) || z)
    grouped true y z = refl
    grouped false y z = refl

pub action_then_run : (b : Begun) (known : Known) (paths : List Path) (n : ℕ) (a : Action) (rest : CoreCommands) (e : Effect)
    → commands_run b paths (core_action known n a rest) e ≡ commands_run b paths rest (commands_run b paths (core_action known n a no_commands) e)
action_then_run b known paths n a rest e = ap (λ l. commands_run b paths l e) (action_joined known n a rest) ∙ joined_run b paths (core_action known n a no_commands) rest e

pub action_assigns : (known : Known) (entity n : ℕ) (a : Action) (rest : CoreCommands)
    → any_assigns entity (core_action known n a rest) ≡ (any_assigns entity (core_action known n a no_commands) || any_assigns entity rest)
action_assigns known entity n a rest = ap (λ l. any_assigns entity l) (action_joined known n a rest) ∙ joined_assigns entity (core_action known n a no_commands) rest

pub part_assigns : (known : Known) (entity n : ℕ) (q : Actions) (rest : CoreCommands)
    → any_assigns entity (core_part known n q rest) ≡ (any_assigns entity (core_part known n q no_commands) || any_assigns entity rest)
part_assigns known entity n q rest = ap (λ l. any_assigns entity l) (part_joined known n q rest) ∙ joined_assigns entity (core_part known n q no_commands) rest
