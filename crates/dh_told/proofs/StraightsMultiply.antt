-- The multiplications of the commands of a block: those of the program's core, and what was put down for them.
use Rattle.std.proofs.Common.{◌≡◌, ℕ, ◌+◌, ◌*◌, ◌≤◌, List, [], ◌∷◌, Some, None, refl, ap, sym, ◌∙◌, subst, arith}
use Rattle.std.specs.List.{AllByRecursion}
use Rattle.std.proofs.Math.Nat.{add-mul}
use Rattle.std.proofs.lemmas.List.{append-nil}
use Rattle.dh_tree.specs.PlainTrees.{Action, action, lets, lets_memory, views, assigns, stores, reduces, calls, blocks, decides, repeats, counts, MaybeAction, no_action, one_action, Actions, no_actions, action_then, Groups, no_groups, group_then}
use Rattle.dh_tree.specs.Seen.{terms}
use Rattle.dh_tree.specs.ViewOffsets.{offsets_of}
use Rattle.dh_meaning.specs.AccessNumbers.{accesses_of, part_accesses, term_accesses}
use Rattle.dh_meaning.specs.Core.{CoreCommands, no_commands}
use Rattle.dh_meaning.specs.CoreOf.{Known, core_action, core_commands, core_groups, core_other, core_part, core_term, way_of}
use Rattle.dh_meaning.specs.Phases.{Located}
use Rattle.dh_meaning.specs.Ways.{hidden_in}
use Rattle.dh_plan.specs.DoneProgram.{commands_products, term_products}
use Rattle.dh_sound.specs.Straight.{AreKeptActions, AreKeptGroups, IsKeptAction, IsKeptOther}
use Rattle.dh_expressions.specs.declared.scenes.Around.{Around}
use Rattle.dh_expressions.specs.declared.scenes.Scene.{Scene}
use Rattle.dh_expressions.specs.Evaluated.{known_in}
use Rattle.dh_commands.specs.declared.buildings.Building.{Building}
use Rattle.dh_commands.specs.LanesRun.{paths_counted}
use Rattle.dh_laid.specs.BlockSites.{MadeEach}
use Rattle.dh_laid.specs.LaidProducts.{AddsProducts, action_products, groups_products, other_products, part_products, products_in}
use Rattle.dh_laid.specs.LaidQuiet.{BlockStandsIn}
use Rattle.dh_laid.proofs.CommandsMultiply.{commands_have_products, products_again}
use Rattle.dh_laid.proofs.ProductsOfCore.{commands_multiply, kept_products, terms_multiply}
use Rattle.dh_used.proofs.NamedStores.{target_reaches}

-- Loops without phases in a command are none of its core, and nothing is put down for them.

if_sum : (t a b c p q r : ℕ) → t ≡ p → a ≡ q + 0 → b ≡ r → (t + (a + b)) + c ≡ (p + (q + r)) + c
if_sum t a b c p q r h k l = omega (arith, h, k, l)

none_sum : (n : ℕ) → n ≡ 0 + n
none_sum n = omega arith

then_sum : (whole a b more c : ℕ) → whole ≡ a + more → more ≡ b + c → whole ≡ (a + b) + c
then_sum whole a b more c h k = omega (arith, h, k)

drop_none : (whole p : ℕ) → whole ≡ p + 0 → whole ≡ p
drop_none whole p h = omega (arith, h)

module _ (known : Known) where
  mutual
    action_reaching : (n : ℕ) (a : Action) (rest : CoreCommands) → IsKeptAction known a → commands_products (core_action known n a rest) ≡ action_products known a + commands_products rest
    action_reaching n (action id place (lets name declared (Some value))) rest is = commands_multiply known n (action id place (lets name declared (Some value))) rest tt
    action_reaching n (action id place (lets name declared None)) rest is = commands_multiply known n (action id place (lets name declared None)) rest tt
    action_reaching n (action id place (assigns target value)) rest is = commands_multiply known n (action id place (assigns target value)) rest tt
    action_reaching n (action id place (stores target value)) rest is = commands_multiply known n (action id place (stores target value)) rest (target_reaches target is.0)
    action_reaching n (action id place (reduces target o value)) rest is = commands_multiply known n (action id place (reduces target o value)) rest tt
    action_reaching n (action id place (decides test chosen other)) rest is =
        if_sum (term_products (core_term known n test)) (commands_products (core_action known (n + term_accesses test) chosen no_commands))
        (commands_products (core_other known (n + term_accesses test + accesses_of chosen) other)) (commands_products rest) (products_in test) (action_products known chosen) (other_products known other) (terms_multiply known n test)
        (action_reaching (n + term_accesses test) chosen no_commands is.1.0) (other_reaching (n + term_accesses test + accesses_of chosen) other is.1.1)
    action_reaching n (action id place (blocks body)) rest is = groups_reaching n body rest is
    action_reaching n (action id place (lets_memory name shape shape_places value)) rest is = none_sum (commands_products rest)
    action_reaching n (action id place (views name parent form)) rest is = kept_products known (hidden_in (way_of known name)) n (terms (offsets_of form)) rest
    action_reaching n (action id place (calls function arguments)) rest is = none_sum (commands_products rest)
    action_reaching n (action id place (repeats test body)) rest is = none_sum (commands_products rest)
    action_reaching n (action id place (counts iterator declared low high factor body combine combine_place)) rest is = none_sum (commands_products rest)

    other_reaching : (n : ℕ) (other : MaybeAction) → IsKeptOther known other → commands_products (core_other known n other) ≡ other_products known other
    other_reaching n no_action is = refl
    other_reaching n (one_action a) is = drop_none (commands_products (core_action known n a no_commands)) (action_products known a) (action_reaching n a no_commands is)

    part_reaching : (n : ℕ) (part : Actions) (rest : CoreCommands) → AreKeptActions known part → commands_products (core_part known n part rest) ≡ part_products known part + commands_products rest
    part_reaching n no_actions rest is = none_sum (commands_products rest)
    part_reaching n (action_then a behind) rest is =
        then_sum (commands_products (core_part known n (action_then a behind) rest)) (action_products known a) (part_products known behind) (commands_products (core_part known (n + accesses_of a) behind rest)) (commands_products rest)
        (action_reaching n a (core_part known (n + accesses_of a) behind rest) is.0) (part_reaching (n + accesses_of a) behind rest is.1)

    groups_reaching : (n : ℕ) (body : Groups) (rest : CoreCommands) → AreKeptGroups known body → commands_products (core_groups known n body rest) ≡ groups_products known body + commands_products rest
    groups_reaching n no_groups rest is = none_sum (commands_products rest)
    groups_reaching n (group_then part behind) rest is =
        then_sum (commands_products (core_groups known n (group_then part behind) rest)) (part_products known part) (groups_products known behind) (commands_products (core_groups known (n + part_accesses part) behind rest)) (commands_products rest)
        (part_reaching n part (core_groups known (n + part_accesses part) behind rest) is.0) (groups_reaching (n + part_accesses part) behind rest is.1)

-- Commands one after the other.

abbrev pub each_products : Known → List Located → ℕ
each_products known [] = 0
each_products known (c ∷ cs) = action_products known c.command + each_products known cs

pub each_reaching : (known : Known) (cs : List Located) → AllByRecursion (λ (c : Located). IsKeptAction known c.command) cs → commands_products (core_commands known cs) ≡ each_products known cs
each_reaching known [] h = refl
each_reaching known (c ∷ cs) h = action_reaching known c.first c.command (core_commands known cs) h.0 ∙ ap (λ (n : ℕ). action_products known c.command + n) (each_reaching known cs h.1)

pub each_multiply : (scene : Scene) (around : Around) (cs : List Located) (old new : Building) → BlockStandsIn scene around → MadeEach scene around cs old new → AddsProducts old.draft new.draft (each_products (known_in scene) cs * paths_counted around)
each_multiply scene around [] old new stands m = record {
  more = [];
  adds = ap (λ (b : Building). b.draft.operations.items) m ∙ sym (append-nil old.draft.operations.items);
  few = least (0 * paths_counted around);
}
  where
    least : (n : ℕ) → 0 ≤ n
    least n = omega arith
each_multiply scene around (c ∷ cs) old new stands (mid, (next, (m, rest))) =
    subst (λ (n : ℕ). AddsProducts old.draft new.draft n) (sym (add-mul (action_products (known_in scene) c.command) (each_products (known_in scene) cs) (paths_counted around)))
    (products_again old.draft mid.draft new.draft (action_products (known_in scene) c.command * paths_counted around) (each_products (known_in scene) cs * paths_counted around)
    (commands_have_products scene c.command around old mid c.first next stands m) (each_multiply scene around cs mid new stands rest))
