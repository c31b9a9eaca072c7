-- An access of a program that keeps the rules on names, kinds and indices reaches in a run the bank that the rules on
-- ports take it to reach. What the rules tell of it is put together: its indices have their kinds, its memory has
-- dimensions, in which no index breaks a rule, and every loop has a copy.
use Rattle.std.proofs.Common.{◌≡◌, ℕ, ◌-◌, ◌≤◌, ◌==◌, not, Bool, true, false, nat_lt, [], ◌∷◌, Option, Some, None, refl, ap, ◌∙◌, arith}
use Rattle.std.specs.Prelude.{slice_get, ◌%◌}
use Rattle.std.specs.List.{AllByRecursion}
use Rattle.std.proofs.lemmas.Bool.Decides.{nat_tests}
use Rattle.dh_base.specs.declared.rules.Rule.TheVariants.{ConstantRange, UnrollDivides}
use Rattle.dh_tree.specs.declared.breaches.Breach.{Breach}
use Rattle.dh_tree.specs.Counters.{counters, form_counters, other_counters, groups_counters, part_counters, counters_of}
use Rattle.dh_tree.specs.Elements.{Spot}
use Rattle.dh_tree.specs.Indices.{IndexContext, index_context_of, divides, turns_breaches, term_index_breaches, action_index_breaches, action_form_index_breaches, other_index_breaches, actions_index_breaches, groups_index_breaches, decls_shape_breaches, index_breaches_of}
use Rattle.dh_tree.specs.Kinds.{when}
use Rattle.dh_tree.specs.LeastBreach.{breach}
use Rattle.dh_tree.specs.Memories.{Memory, memories_of, memory_in}
use Rattle.dh_tree.specs.Shapes.{IsDim}
use Rattle.dh_tree.specs.PlainTrees.{Placed, Unrolled, Action, action, ActionForm, lets, lets_memory, views, assigns, stores, reduces, calls, blocks, decides, repeats, counts, MaybeAction, no_action, one_action, Actions, no_actions, action_then, Groups, no_groups, group_then, Program}
use Rattle.dh_meaning.specs.Core.{Reach}
use Rattle.dh_meaning.specs.CoreOf as core
use Rattle.dh_meaning.specs.Effects.{Begun, Variables, spot_reached}
use Rattle.dh_meaning.specs.CoreOf.{dims_by}
use Rattle.dh_meaning.specs.Paths.{Path}
use Rattle.dh_meaning.specs.Ways.{Way, way_to}
use Rattle.dh_meets.specs.SourceEvents.{SourceAccess, accesses_in, trace}
use Rattle.dh_sound.specs.IndexValues.{HasCopy, IsByIndices, IsTypedProgram, IsLegalAccess, IsMadeAccess, IsReached, element_breaches, target_of}
use Rattle.dh_sound.specs.IndexRules.{KeepsIndexRules}
use Rattle.dh_sound.proofs.BanksReached.{first_none, second_none}
use Rattle.dh_sound.proofs.BanksThrough.{ThroughTold, access_reaches, access_through}
use Rattle.dh_sound.proofs.IndicesThrough.{keeps_through}
use Rattle.dh_sound.proofs.OwnMemories.{itself}
use Rattle.dh_sound.proofs.IndicesKeep.{access_keeps}
use Rattle.dh_sound.proofs.IteratorsKnown.{both_all}
use Rattle.dh_sound.proofs.KindsOfPrograms.{indices_have_kinds}
use Rattle.dh_sound.proofs.ValuesOfIndices.{both_true}

-- a factor that divides is at least 1
divides_none : (b : Bool) (x : Breach) → when (not b) (x ∷ []) ≡ [] → b ≡ true
divides_none true x e = refl
divides_none false x e = absurd cc

not_zero : (n : ℕ) → not (n == 0) ≡ true → 1 ≤ n
not_zero n e = by (n == 0) refl e
  where
    at_least : (m : ℕ) → (m == 0) ≡ false → 1 ≤ m
    at_least m f = grind (arith, nat_tests)

    by : (b : Bool) → (n == 0) ≡ b → not b ≡ true → 1 ≤ n
    by true f g = absurd cc
    by false f g = at_least n f

factor_copy : (low high : Placed) (factor : Unrolled) → turns_breaches low high factor ≡ [] → 1 ≤ factor.value
factor_copy low high factor e =
    let d = divides_none (divides factor.value (high.value - low.value)) (breach UnrollDivides factor.place) (second_none (when (nat_lt high.value low.value) (breach ConstantRange high.place ∷ [])) _ e) in
    not_zero factor.value (both_true (not (factor.value == 0)) ((high.value - low.value) % factor.value == 0) d).0

module _ (known : IndexContext) where
  mutual
    copies : (a : Action) → action_index_breaches known a ≡ [] → AllByRecursion HasCopy (counters a)
    copies (action id place form) e = form_copies form e

    form_copies : (f : ActionForm) → action_form_index_breaches known f ≡ [] → AllByRecursion HasCopy (form_counters f)
    form_copies (lets name declared value) e = tt
    form_copies (lets_memory name shape shape_places value) e = tt
    form_copies (views name parent form) e = tt
    form_copies (assigns target value) e = tt
    form_copies (stores target value) e = tt
    form_copies (reduces target o value) e = tt
    form_copies (calls function arguments) e = tt
    form_copies (blocks body) e = groups_copies body e
    form_copies (decides test chosen other) e =
        let below = second_none (term_index_breaches known test) _ e in
        both_all HasCopy (counters chosen) (other_counters other) (copies chosen (first_none (action_index_breaches known chosen) _ below)) (other_copies other (second_none (action_index_breaches known chosen) _ below))
    form_copies (repeats test body) e = copies body (second_none (term_index_breaches known test) _ e)
    form_copies (counts iterator declared low high factor body combine combine_place) e =
        let below = second_none (turns_breaches low high factor) _ e in (
          factor_copy low high factor (first_none (turns_breaches low high factor) _ e),
          both_all HasCopy (counters body) (other_counters combine) (copies body (first_none (action_index_breaches known body) _ below)) (other_copies combine (second_none (action_index_breaches known body) _ below)),
        )

    other_copies : (m : MaybeAction) → other_index_breaches known m ≡ [] → AllByRecursion HasCopy (other_counters m)
    other_copies no_action e = tt
    other_copies (one_action a) e = copies a e

    part_copies : (p : Actions) → actions_index_breaches known p ≡ [] → AllByRecursion HasCopy (part_counters p)
    part_copies no_actions e = tt
    part_copies (action_then a rest) e =
        both_all HasCopy (counters a) (part_counters rest) (copies a (first_none (action_index_breaches known a) _ e)) (part_copies rest (second_none (action_index_breaches known a) _ e))

    groups_copies : (g : Groups) → groups_index_breaches known g ≡ [] → AllByRecursion HasCopy (groups_counters g)
    groups_copies no_groups e = tt
    groups_copies (group_then part rest) e =
        both_all HasCopy (part_counters part) (groups_counters rest) (part_copies part (first_none (actions_index_breaches known part) _ e)) (groups_copies rest (second_none (actions_index_breaches known part) _ e))

-- every loop of a program has a copy
pub loops_have_copies : (p : Program) → index_breaches_of p ≡ [] → AllByRecursion HasCopy (counters_of p)
loops_have_copies p e = copies (index_context_of p) p.body (second_none (decls_shape_breaches p.decls) _ e)

-- what the rules tell of an access, of a memory or through views
pub record Kept (p : Program) (a : SourceAccess) (memory : Memory) (o : Option Way) : Type 0 where
  pub dims : AllByRecursion IsDim (dims_by memory.shape.dims o)
  pub keeps : element_breaches (counters_of p) (dims_by memory.shape.dims o) a.element ≡ []
  pub through : (w : Way) → o ≡ Some w → IsByIndices a.element

pub kept_access : (p : Program) (b : Begun) (path : Path) (v : Variables) (k : ℕ) (a : SourceAccess) (r : Reach) → KeepsIndexRules p → slice_get (accesses_in (trace p)) k ≡ Some a → (made : IsMadeAccess p b path v a r) → (o : Option Way) → way_to p a.entity ≡ o → Kept p a made.memory o
kept_access p b path v k a r rules at made None none =
    let here : memory_in (memories_of p) a.entity ≡ Some made.memory = ap (memory_in (memories_of p)) (itself p a.entity made.entity none made.is) ∙ made.declared in
    let keeps = access_keeps p rules.indices rules.views k a at made.memory here in
    record { dims = keeps.dims; keeps = keeps.none; through = λ w e. no_way w e }
  where
    no_way : (w : Way) → None ≡ Some w → IsByIndices a.element
    no_way w e = absurd cc
kept_access p b path v k a r rules at made (Some w) is =
    let lead = made.leads w is in
    let keeps = keeps_through p rules.indices rules.views k a at w is in
    record { dims = lead.own.own.dims; keeps = keeps.none; through = λ y e. keeps.indices }

abbrev pub access_of : (p : Program) (b : Begun) (path : Path) (v : Variables) (k : ℕ) (a : SourceAccess) (n : ℕ) (r : Reach) → IsTypedProgram p → KeepsIndexRules p → slice_get (accesses_in (trace p)) k ≡ Some a → IsMadeAccess p b path v a r → IsLegalAccess p b path v a n r
access_of p b path v k a n r typed rules at made =
    let kept = kept_access p b path v k a r rules at made (way_to p a.entity) refl in
    record {
      entity = made.entity;
      is = made.is;
      memory = made.memory;
      declared = made.declared;
      leads = made.leads;
      table = made.table;
      number = made.number;
      factors = loops_have_copies p rules.indices;
      dims = kept.dims;
      keeps = kept.keeps;
      through = kept.through;
      kinds = indices_have_kinds p typed k a at;
      turns = made.turns;
    }

-- the element that an access reaches in a run lies in a bank that the rules take it to reach at its path
pub bank_told : (p : Program) (b : Begun) (path : Path) (v : Variables) (k : ℕ) (a : SourceAccess) (n : ℕ) (r : Reach) (s : Spot) → IsTypedProgram p → KeepsIndexRules p → slice_get (accesses_in (trace p)) k ≡ Some a → (made : IsMadeAccess p b path v a r) → spot_reached b v path r (target_of (core.known_of p) n a.entity a.element) ≡ Some s → IsReached p a path made.entity r s
bank_told p b path v k a n r s typed rules at made e = access_reaches p b path v a n r s (access_of p b path v k a n r typed rules at made) e

-- and through views to an element through the indices of each
pub bank_through : (p : Program) (b : Begun) (path : Path) (v : Variables) (k : ℕ) (a : SourceAccess) (n : ℕ) (r : Reach) (s : Spot) → IsTypedProgram p → KeepsIndexRules p → slice_get (accesses_in (trace p)) k ≡ Some a → (made : IsMadeAccess p b path v a r)
    → (w : Way) (is : way_to p a.entity ≡ Some w) → spot_reached b v path r (target_of (core.known_of p) n a.entity a.element) ≡ Some s → ThroughTold p b path v a w (made.leads w is).memory.shape.dims s
bank_through p b path v k a n r s typed rules at made w is e = access_through p b path v a n r s (access_of p b path v k a n r typed rules at made) w is e
