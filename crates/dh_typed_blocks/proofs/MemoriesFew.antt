-- The memories of a ready program and their banks have numbers of 32 bits: there are no more memories than names of a text,
-- and no more banks than the limit.
use Rattle.std.proofs.Common.{◌≡◌, ℕ, zero, suc, ◌+◌, ◌≤◌, ◌^◌, nat_lt, true, List, [], ◌∷◌, ◌++◌, length, map, Option, Some, None, refl, ap, sym, ◌∙◌, arith, length-append}
use Rattle.std.specs.List.{AllByRecursion}
use Rattle.std.specs.Prelude.{slice_get}
use Rattle.std.proofs.lemmas.Bool.Decides.{nat_tests}
use Rattle.dh_base.specs.declared.limits.Limit.TheVariants as limit
use Rattle.dh_tree.specs.declared.trees.expressions.Ref.{Ref}
use Rattle.dh_tree.specs.Elements.{banks_of, dims_at, entry_dims}
use Rattle.dh_tree.specs.Excesses.{first_above, excess_at}
use Rattle.dh_tree.specs.Memories.{Memory, entry_of, memories_of, outside_memory, locals, form_locals, other_locals, groups_locals, part_locals}
use Rattle.dh_tree.specs.NameCounts.{declared_in, declared_in_form, declared_in_other, declared_in_actions, declared_in_groups, declared_in_functions}
use Rattle.dh_tree.specs.PlainTrees.{Action, action, ActionForm, lets, lets_memory, views, assigns, stores, reduces, calls, blocks, decides, repeats, counts, MaybeAction, no_action, one_action, Actions, no_actions, action_then, Groups, no_groups, group_then, Program}
use Rattle.dh_tree.specs.Ready.{IsReady, most_tokens}
use Rattle.dh_meaning.specs.Bindings.{binding_in}
use Rattle.dh_meaning.specs.CoreOf.{known_of}
use Rattle.dh_meaning.specs.Ways.{Hidden, Way, all_bindings_of, hidden_binding, way_to}
use Rattle.dh_ways.proofs.HiddenApart.{way_within}
use Rattle.dh_meets.specs.Charges.{binding_depends, entity_depends, variable_depends}
use Rattle.dh_sound.specs.ViewsBound.{IsBoundTo}
use Rattle.dh_sound.proofs.ViewsBound.{views_bound}
use Rattle.dh_runnable.specs.ActionsRun.{table_known}
use Rattle.dh_runnable.proofs.TurnsCounted.{first_within, second_within, within_limit}
use Rattle.dh_blocks.proofs.MemoriesUnbound.{memories_unbound}
use Rattle.dh_typed_blocks.specs.PlainPrograms.{AreFewMemories, IsKeptFor}

-- Memories are names.

two_fewer : (ms ns : List Memory) (a b : ℕ) → length ms ≤ a → length ns ≤ b → length (ms ++ ns) ≤ a + b
two_fewer ms ns a b h g = let e = length-append ms ns in omega (arith, e, h, g)

one_more : (n a : ℕ) → n ≤ a → n ≤ 1 + a
one_more n a h = omega (arith, h)

none_fewer : (n : ℕ) → length {A = Memory} [] ≤ n
none_fewer n = omega arith

mutual
  locals_few : (a : Action) → length (locals a) ≤ declared_in a
  locals_few (action id place form) = form_few form

  form_few : (f : ActionForm) → length (form_locals f) ≤ declared_in_form f
  form_few (lets name declared value) = none_fewer 1
  form_few (lets_memory name shape shape_places value) = omega arith
  form_few (views name parent form) = none_fewer 1
  form_few (assigns target value) = none_fewer 0
  form_few (stores target value) = none_fewer 0
  form_few (reduces target o value) = none_fewer 0
  form_few (calls function arguments) = none_fewer 0
  form_few (blocks body) = groups_few body
  form_few (decides test chosen other) = two_fewer (locals chosen) (other_locals other) (declared_in chosen) (declared_in_other other) (locals_few chosen) (other_few other)
  form_few (repeats test body) = locals_few body
  form_few (counts iterator declared low high factor body combine combine_place) =
      one_more (length (locals body ++ other_locals combine)) (declared_in body + declared_in_other combine)
      (two_fewer (locals body) (other_locals combine) (declared_in body) (declared_in_other combine) (locals_few body) (other_few combine))

  other_few : (m : MaybeAction) → length (other_locals m) ≤ declared_in_other m
  other_few no_action = none_fewer 0
  other_few (one_action a) = locals_few a

  groups_few : (gs : Groups) → length (groups_locals gs) ≤ declared_in_groups gs
  groups_few no_groups = none_fewer 0
  groups_few (group_then part rest) = two_fewer (part_locals part) (groups_locals rest) (declared_in_actions part) (declared_in_groups rest) (part_few part) (groups_few rest)

  part_few : (part : Actions) → length (part_locals part) ≤ declared_in_actions part
  part_few no_actions = none_fewer 0
  part_few (action_then a rest) = two_fewer (locals a) (part_locals rest) (declared_in a) (declared_in_actions rest) (locals_few a) (part_few rest)

mapped_long : {A B : Type 0} (f : A → B) (xs : List A) → length (map f xs) ≡ length xs
mapped_long f [] = refl
mapped_long f (x ∷ xs) = ap suc (mapped_long f xs)

-- Banks.

banks_few : (ms : List Memory) (i : ℕ) → first_above limit.Banks (λ (m : Memory). banks_of m.shape.dims) ms ≡ None → banks_of (entry_dims (slice_get (map entry_of ms) i)) ≤ 64
banks_few [] i e = omega arith
banks_few (m ∷ ms) zero e = within_limit limit.Banks (banks_of m.shape.dims) (first_within (excess_at limit.Banks (banks_of m.shape.dims)) _ e)
banks_few (m ∷ ms) (suc i) e = banks_few ms i (second_within (excess_at limit.Banks (banks_of m.shape.dims)) _ e)

low_enough : (n : ℕ) → n ≤ 64 → n ≤ 2 ^ 32
low_enough n h = omega (arith, h)

-- Views.

level_below : (level depth deepest : ℕ) → depth ≤ deepest → nat_lt level depth ≡ true → nat_lt level deepest ≡ true
level_below level depth deepest l e = grind (arith, nat_tests, l, e)

-- what keeps the offsets on the way of a name are variables, on whose loops it depends
kept_named : (p : Program) → IsReady p → (name : Ref) (n : ℕ) (w : Way) → name.entity ≡ Some n → way_to p (Some n) ≡ Some w → AllByRecursion (IsKeptFor (known_of p) name) w.hidden
kept_named p ready name n w e is = each w.hidden ((views_bound p ready).bound (Some n) w is) (way_within p (Some n) w is).deep
  where
    own : IsBoundTo p n w
    own = (views_bound p ready).named n w is

    depends : (level : ℕ) → entity_depends (all_bindings_of p) level name.entity ≡ nat_lt level w.deepest
    depends level =
        ap (λ (o : Option ℕ). entity_depends (all_bindings_of p) level o) e
        ∙ (ap (binding_depends level) own.found
        ∙ (ap (λ (o : Option ℕ). variable_depends own.binding.depth level o) own.plain
        ∙ ap (λ (d : ℕ). variable_depends d level None) own.depth))

    one : (h : Hidden) → binding_in (all_bindings_of p) h.entity ≡ Some (hidden_binding h) → h.depth ≤ w.deepest → IsKeptFor (known_of p) name h
    one h found deep = record {
      found = found;
      less = λ level f. depends level ∙ level_below level h.depth w.deepest deep (sym (ap (binding_depends level) found) ∙ f);
    }

    each : (hs : List Hidden) → AllByRecursion (λ h. binding_in (all_bindings_of p) h.entity ≡ Some (hidden_binding h)) hs → AllByRecursion (λ h. h.depth ≤ w.deepest) hs → AllByRecursion (IsKeptFor (known_of p) name) hs
    each [] f d = tt
    each (h ∷ hs) f d = (one h f.0 d.0, each hs f.1 d.1)

-- of a ready program
pub ready_few : (p : Program) → IsReady p → AreFewMemories (known_of p)
ready_few p r = record {
  memories = count (length (table_known (known_of p))) (length (memories_of p)) (length (map outside_memory p.decls)) (length p.decls) (length (locals p.body)) (declared_in p.body) (length p.functions) (declared_in_functions p.functions)
      (mapped_long entry_of (memories_of p)) (length-append (map outside_memory p.decls) (locals p.body)) (mapped_long outside_memory p.decls) (locals_few p.body) r.of_text.names;
  banks = λ memory. low_enough (banks_of (dims_at (table_known (known_of p)) memory)) (banks_few (memories_of p) memory (first_within (first_above limit.Banks (λ (m : Memory). banks_of m.shape.dims) (memories_of p)) _ (second_within (first_above limit.Dimensions (λ (m : Memory). length m.shape.dims) (memories_of p)) _ r.limits)));
  unbound = memories_unbound p r;
  kept = λ name n w e is. kept_named p r name n w e (ap (way_to p) (sym e) ∙ is);
}
  where
    count : (n all outside decls inside body functions parameters : ℕ) → n ≡ all → all ≡ outside + inside → outside ≡ decls → inside ≤ body → (decls + functions) + (parameters + body) ≤ most_tokens → n ≤ 2 ^ 32
    count n all outside decls inside body functions parameters e f g h few = omega (arith, e, f, g, h, few)
