-- Where no loop has too many copies inside it, no access stands in more: the copies round a command are the product of
-- the factors of the loops round it. By one walk over the commands, with this product.
use Rattle.std.proofs.Common.{◌≡◌, ℕ, zero, suc, ◌-◌, ◌*◌, ◌==◌, ◌≤◌, nat_lt, not, Bool, true, false, if◌then◌else◌, List, [], ◌∷◌, ◌++◌, length, Option, Some, None, refl, ap, sym, ◌∙◌, subst, arith}
use Rattle.std.specs.Prelude.{min, slice_get}
use Rattle.std.proofs.lemmas.Bool.Decides.{nat_tests}
use Rattle.dh_base.specs.declared.limits.Excess.{Excess}
use Rattle.dh_base.specs.declared.limits.Limit.TheVariants as limit
use Rattle.dh_tree.specs.declared.breaches.Breach.{Breach}
use Rattle.dh_tree.specs.declared.trees.counters.Counter.{Counter}
use Rattle.dh_tree.specs.Elements.{banks_of}
use Rattle.dh_tree.specs.Excesses.{most_counted, excess_at, or_else, first_above, copies_excess, form_copies_excess, other_copies_excess, groups_copies_excess, part_copies_excess, first_excess}
use Rattle.dh_tree.specs.Indices.{IndexContext, index_context_of, divides, term_index_breaches, turns_breaches, action_index_breaches, action_form_index_breaches, other_index_breaches, actions_index_breaches, groups_index_breaches, decls_shape_breaches, index_breaches_of}
use Rattle.dh_tree.specs.Kinds.{when}
use Rattle.dh_tree.specs.Memories.{Memory, memories_of}
use Rattle.dh_tree.specs.PlainTrees.{Term, term, number, truth_value, named, accessed, in_bank, applied, converted, Terms, no_terms, term_then, Placed, Unrolled, Action, action, ActionForm, lets, lets_memory, views, assigns, stores, reduces, calls, blocks, decides, repeats, counts, MaybeAction, no_action, one_action, Actions, no_actions, action_then, Groups, no_groups, group_then, Program}
use Rattle.dh_meaning.specs.Sites.{Around, nothing_around, in_arm, in_loop, loop_of}
use Rattle.dh_meets.specs.Charges.{loop_factors}
use Rattle.dh_meets.specs.SourceEvents.{Site, SourceAccess, SourceEvent, accesses, assigned, source_term_events, source_terms_events, maybe_events, write_events, site_of, events, command_events, other_events, groups_events, part_events, accesses_in, trace}
use Rattle.dh_sound.proofs.BanksReached.{first_none, second_none}
use Rattle.dh_sound.proofs.ValuesOfIndices.{both_true}
use Rattle.dh_meaning.specs.Paths.{copies_in}
use Rattle.dh_meets.specs.FewCopies.{HasFewCopies}
use Rattle.dh_base.specs.Limits.{most_copies}
use Rattle.dh_tree.specs.Seen.{terms}
use Rattle.dh_tree.specs.ViewOffsets.{offsets_of}

first_of : (o next : Option Excess) → or_else o next ≡ None → o ≡ None
first_of None next e = refl
first_of (Some x) next e = absurd cc

rest_of : (o next : Option Excess) → or_else o next ≡ None → next ≡ None
rest_of None next e = e
rest_of (Some x) next e = absurd cc

within : (count : ℕ) → excess_at limit.Copies count ≡ None → count ≤ 256
within count e = by (nat_lt 256 count) refl e
  where
    by : (b : Bool) → nat_lt 256 count ≡ b → ◌≡◌ {A = Option Excess} (if b then Some (record { limit = limit.Copies; count = min count most_counted }) else None) None → count ≤ 256
    by true f h = absurd cc
    by false f h = grind (arith, nat_tests)

-- the factors inside one loop more
copies_more : (cs : List Counter) (c : Counter) → copies_in (loop_factors (cs ++ c ∷ [])) ≡ copies_in (loop_factors cs) * c.factor
copies_more [] c = grind arith
copies_more (x ∷ cs) c = ap (λ n. x.factor * n) (copies_more cs c) ∙ grind arith

-- an access stands in few copies
abbrev IsFew : SourceAccess → Type 0
IsFew a = copies_in (loop_factors a.site.loops) ≤ most_copies

abbrev AreFew : List SourceEvent → Type 0
AreFew [] = Unit {0}
AreFew (accesses a ∷ es) = IsFew a × AreFew es
AreFew (assigned entity ∷ es) = AreFew es

both_few : (xs ys : List SourceEvent) → AreFew xs → AreFew ys → AreFew (xs ++ ys)
both_few [] ys h i = i
both_few (accesses a ∷ xs) ys h i = (h.0, both_few xs ys h.1 i)
both_few (assigned entity ∷ xs) ys h i = both_few xs ys h i

-- so many copies are round a command
record Round (r : Around) (copies : ℕ) : Type 0 where
  is : copies_in (loop_factors r.loops) ≡ copies
  few : copies ≤ most_copies

abbrev SiteFew : Site → Type 0
SiteFew site = copies_in (loop_factors site.loops) ≤ most_copies

site_few : (r : Around) (id copies : ℕ) → Round r copies → SiteFew (site_of r id)
site_few r id copies h = subst (λ n. n ≤ most_copies) (sym h.is) h.few

module _ (site : Site) (few : SiteFew site) where
  mutual
    term_few : (t : Term) → AreFew (source_term_events site t)
    term_few (term place k (number negative n)) = tt
    term_few (term place k (truth_value value)) = tt
    term_few (term place k (named r)) = tt
    term_few (term place k (accessed r indices)) = both_few (source_terms_events site indices) _ (terms_few indices) (few, tt)
    term_few (term place k (in_bank r bank bank_place row)) = both_few (source_term_events site row) _ (term_few row) (few, tt)
    term_few (term place k (applied o left right)) = both_few (source_term_events site left) (source_term_events site right) (term_few left) (term_few right)
    term_few (term place k (converted inner to)) = term_few inner

    terms_few : (ts : Terms) → AreFew (source_terms_events site ts)
    terms_few no_terms = tt
    terms_few (term_then t rest) = both_few (source_term_events site t) (source_terms_events site rest) (term_few t) (terms_few rest)

  write_few : (t : Term) → AreFew (write_events site t)
  write_few (term place k (number negative n)) = tt
  write_few (term place k (truth_value value)) = tt
  write_few (term place k (named r)) = tt
  write_few (term place k (accessed r indices)) = both_few (source_terms_events site indices) _ (terms_few indices) (few, tt)
  write_few (term place k (in_bank r bank bank_place row)) = both_few (source_term_events site row) _ (term_few row) (few, tt)
  write_few (term place k (applied o left right)) = both_few (source_term_events site left) (source_term_events site right) (term_few left) (term_few right)
  write_few (term place k (converted inner to)) = term_few inner

  maybe_few : (t : Option Term) → AreFew (maybe_events site t)
  maybe_few None = tt
  maybe_few (Some t) = term_few t

in_arm_round : (r : Around) (id copies : ℕ) (first : Bool) → Round r copies → Round (in_arm r id first) copies
in_arm_round r id copies first h = record { is = h.is; few = h.few }

-- a loop that has some copies
in_loop_round : (r : Around) (copies : ℕ) (c : Counter) → 1 ≤ c.factor → Round r copies → copies * c.factor ≤ 256 → Round (in_loop r c) (copies * c.factor)
in_loop_round r copies c some h l = by (nat_lt 1 c.factor) refl
  where
    by : (b : Bool) → nat_lt 1 c.factor ≡ b → Round (if b then record { arms = r.arms; loops = r.loops ++ c ∷ [] } else r) (copies * c.factor)
    by true e = record { is = copies_more r.loops c ∙ ap (λ n. n * c.factor) h.is; few = l }
    by false e =
        let one : c.factor ≡ 1 = grind (arith, nat_tests) in
        let same : copies * c.factor ≡ copies = ap (λ n. copies * n) one ∙ grind arith in
        record { is = h.is ∙ sym same; few = l }

some_factor : (low high : Placed) (factor : Unrolled) → turns_breaches low high factor ≡ [] → 1 ≤ factor.value
some_factor low high factor e =
    let d = not_none (divides factor.value (high.value - low.value)) _ (second_none (when (nat_lt high.value low.value) _) _ e) in
    at_least_one factor.value (both_true (not (factor.value == 0)) _ d).0
  where
    not_none : (b : Bool) (x : Breach) → when (not b) (x ∷ []) ≡ [] → b ≡ true
    not_none true x h = refl
    not_none false x h = absurd cc

    at_least_one : (n : ℕ) → not (n == 0) ≡ true → 1 ≤ n
    at_least_one zero h = absurd cc
    at_least_one (suc n) h = omega arith

module _ (known : IndexContext) where
  mutual
    events_few : (r : Around) (copies : ℕ) → Round r copies → (a : Action) → action_index_breaches known a ≡ [] → copies_excess copies a ≡ None → AreFew (events r a)
    events_few r copies h (action id place form) e l = form_few r copies h (site_of r id) (site_few r id copies h) form e l

    form_few : (r : Around) (copies : ℕ) → Round r copies → (site : Site) → SiteFew site → (f : ActionForm) → action_form_index_breaches known f ≡ [] → form_copies_excess copies f ≡ None → AreFew (command_events r site f)
    form_few r copies h site few (lets name declared value) e l = both_few (maybe_events site value) _ (maybe_few site few value) tt
    form_few r copies h site few (lets_memory name shape shape_places value) e l = tt
    form_few r copies h site few (views name parent form) e l = terms_few site few (terms (offsets_of form))
    form_few r copies h site few (assigns target value) e l = both_few (source_term_events site value) _ (term_few site few value) tt
    form_few r copies h site few (stores target value) e l = both_few (source_term_events site value) (write_events site target) (term_few site few value) (write_few site few target)
    form_few r copies h site few (reduces target o value) e l = both_few (source_term_events site value) _ (term_few site few value) tt
    form_few r copies h site few (calls function arguments) e l = tt
    form_few r copies h site few (blocks body) e l = groups_few r copies h body e l
    form_few r copies h site few (decides test chosen other) e l =
        let below = second_none (term_index_breaches known test) _ e in
        both_few (source_term_events site test) _ (term_few site few test)
        (both_few (events (in_arm r site.command true) chosen) _
        (events_few (in_arm r site.command true) copies (in_arm_round r site.command copies true h) chosen (first_none (action_index_breaches known chosen) _ below) (first_of (copies_excess copies chosen) _ l))
        (other_few (in_arm r site.command false) copies (in_arm_round r site.command copies false h) other (second_none (action_index_breaches known chosen) _ below) (rest_of (copies_excess copies chosen) _ l)))
    form_few r copies h site few (repeats test body) e l =
        both_few (source_term_events site test) (events r body) (term_few site few test) (events_few r copies h body (second_none (term_index_breaches known test) _ e) l)
    form_few r copies h site few (counts iterator declared low high factor body combine combine_place) e l =
        let some = some_factor low high factor (first_none (turns_breaches low high factor) _ e) in
        let below = second_none (turns_breaches low high factor) _ e in
        let inside = in_loop_round r copies (loop_of iterator low high factor) some h (within (copies * factor.value) (first_of (excess_at limit.Copies (copies * factor.value)) _ l)) in
        let rest = rest_of (excess_at limit.Copies (copies * factor.value)) _ l in
        both_few (events (in_loop r (loop_of iterator low high factor)) body) _
        (events_few (in_loop r (loop_of iterator low high factor)) (copies * factor.value) inside body (first_none (action_index_breaches known body) _ below) (first_of (copies_excess (copies * factor.value) body) _ rest))
        (other_few (in_loop r (loop_of iterator low high factor)) (copies * factor.value) inside combine (second_none (action_index_breaches known body) _ below) (rest_of (copies_excess (copies * factor.value) body) _ rest))

    other_few : (r : Around) (copies : ℕ) → Round r copies → (m : MaybeAction) → other_index_breaches known m ≡ [] → other_copies_excess copies m ≡ None → AreFew (other_events r m)
    other_few r copies h no_action e l = tt
    other_few r copies h (one_action a) e l = events_few r copies h a e l

    part_few : (r : Around) (copies : ℕ) → Round r copies → (p : Actions) → actions_index_breaches known p ≡ [] → part_copies_excess copies p ≡ None → AreFew (part_events r p)
    part_few r copies h no_actions e l = tt
    part_few r copies h (action_then a rest) e l =
        both_few (events r a) (part_events r rest)
        (events_few r copies h a (first_none (action_index_breaches known a) _ e) (first_of (copies_excess copies a) _ l))
        (part_few r copies h rest (second_none (action_index_breaches known a) _ e) (rest_of (copies_excess copies a) _ l))

    groups_few : (r : Around) (copies : ℕ) → Round r copies → (g : Groups) → groups_index_breaches known g ≡ [] → groups_copies_excess copies g ≡ None → AreFew (groups_events r g)
    groups_few r copies h no_groups e l = tt
    groups_few r copies h (group_then part rest) e l =
        both_few (part_events r part) (groups_events r rest)
        (part_few r copies h part (first_none (actions_index_breaches known part) _ e) (first_of (part_copies_excess copies part) _ l))
        (groups_few r copies h rest (second_none (actions_index_breaches known part) _ e) (rest_of (part_copies_excess copies part) _ l))

few_at : (es : List SourceEvent) (k : ℕ) (a : SourceAccess) → AreFew es → slice_get (accesses_in es) k ≡ Some a → IsFew a
few_at [] k a h e = absurd cc
few_at (accesses x ∷ es) zero a h e = let same : x ≡ a = cc in subst (λ (y : SourceAccess). IsFew y) same h.0
few_at (accesses x ∷ es) (suc k) a h e = few_at es k a h.1 e
few_at (assigned entity ∷ es) k a h e = few_at es k a h e

-- of a program that breaks no rule on indices and exceeds no limit
pub few_copies : (p : Program) → index_breaches_of p ≡ [] → first_excess p ≡ None → HasFewCopies p
few_copies p e l k a g =
    let above = rest_of (first_above limit.Dimensions (λ (m : Memory). length m.shape.dims) (memories_of p)) _ l in
    let banks = rest_of (first_above limit.Banks (λ (m : Memory). banks_of m.shape.dims) (memories_of p)) _ above in
    let ports = rest_of (first_above limit.Ports (λ (m : Memory). m.shape.ports) (memories_of p)) _ banks in
    let copies = first_of (copies_excess 1 p.body) _ ports in
    few_at (trace p) k a
    (events_few (index_context_of p) nothing_around 1 (record { is = refl; few = omega arith }) p.body (second_none (decls_shape_breaches p.decls) _ e) copies) g
