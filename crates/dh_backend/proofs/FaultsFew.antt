-- A program within the limit on plans has few accesses, since each is counted in each copy in which it stands, and it
-- stands in one copy at least: so its plan has few faults.
use Rattle.std.proofs.Common.{◌≡◌, ℕ, zero, suc, ◌*◌, ◌≤◌, nat_lt, Bool, true, false, if◌then◌else◌, List, [], ◌∷◌, ◌++◌, length, Option, Some, None, refl, arith, length-append}
use Rattle.std.proofs.lemmas.Bool.Decides.{nat_tests}
use Rattle.std.specs.List.{AllByRecursion}
use Rattle.dh_tree.specs.declared.trees.counters.Counter.{Counter}
use Rattle.dh_tree.specs.PlainTrees.{Term, term, number, truth_value, named, accessed, in_bank, applied, converted, Terms, no_terms, term_then, Action, action, ActionForm, lets, lets_memory, views, assigns, stores, reduces, calls, blocks, decides, repeats, counts, MaybeAction, no_action, one_action, Actions, no_actions, action_then, Groups, no_groups, group_then, Program}
use Rattle.dh_tree.specs.Seen.{terms}
use Rattle.dh_tree.specs.ViewOffsets.{offsets_of}
use Rattle.dh_meaning.specs.AccessNumbers.{accesses_of}
use Rattle.dh_meaning.specs.Paths.{Path, outer_paths, copies_of, all_copies, paths_from}
use Rattle.dh_meaning.specs.Sites.{Around, nothing_around, in_arm, in_loop, loop_of}
use Rattle.dh_meets.specs.Charges.{loop_factors, paths_of}
use Rattle.dh_meets.specs.SourceEvents.{Site, SourceAccess, SourceEvent, accesses, assigned, source_term_events, source_terms_events, maybe_events, write_events, site_of, events, command_events, other_events, groups_events, part_events, accesses_in, trace}
use Rattle.dh_meaning.specs.Ways.{base_of, way_to}
use Rattle.dh_plan.specs.PlanSizes.{entity_banks_charged, accesses_size, plan_size_of}
use Rattle.dh_sound.proofs.EventCounts.{events_counted}
use Rattle.dh_backend.specs.SuitedPlans.{FaultsAreFew}

-- the loops round an access have copies
abbrev HaveCopies : List Counter → Type 0
HaveCopies loops = AllByRecursion (λ (c : Counter). 1 ≤ c.factor) loops

abbrev AllHaveCopies : List SourceEvent → Type 0
AllHaveCopies es = AllByRecursion (λ (a : SourceAccess). HaveCopies a.site.loops) (accesses_in es)

both_have : (xs ys : List SourceEvent) → AllHaveCopies xs → AllHaveCopies ys → AllHaveCopies (xs ++ ys)
both_have [] ys h i = i
both_have (accesses a ∷ xs) ys h i = (h.0, both_have xs ys h.1 i)
both_have (assigned entity ∷ xs) ys h i = both_have xs ys h i

one_more_has : (loops : List Counter) (c : Counter) → HaveCopies loops → 1 ≤ c.factor → HaveCopies (loops ++ c ∷ [])
one_more_has [] c h i = (i, tt)
one_more_has (x ∷ loops) c h i = (h.0, one_more_has loops c h.1 i)

module _ (site : Site) (have : HaveCopies site.loops) where
  mutual
    term_has : (t : Term) → AllHaveCopies (source_term_events site t)
    term_has (term place k (number negative n)) = tt
    term_has (term place k (truth_value value)) = tt
    term_has (term place k (named r)) = tt
    term_has (term place k (accessed r indices)) = both_have (source_terms_events site indices) _ (terms_have indices) (have, tt)
    term_has (term place k (in_bank r bank bank_place row)) = both_have (source_term_events site row) _ (term_has row) (have, tt)
    term_has (term place k (applied o left right)) = both_have (source_term_events site left) (source_term_events site right) (term_has left) (term_has right)
    term_has (term place k (converted inner to)) = term_has inner

    terms_have : (ts : Terms) → AllHaveCopies (source_terms_events site ts)
    terms_have no_terms = tt
    terms_have (term_then t rest) = both_have (source_term_events site t) (source_terms_events site rest) (term_has t) (terms_have rest)

  write_has : (t : Term) → AllHaveCopies (write_events site t)
  write_has (term place k (number negative n)) = tt
  write_has (term place k (truth_value value)) = tt
  write_has (term place k (named r)) = tt
  write_has (term place k (accessed r indices)) = both_have (source_terms_events site indices) _ (terms_have indices) (have, tt)
  write_has (term place k (in_bank r bank bank_place row)) = both_have (source_term_events site row) _ (term_has row) (have, tt)
  write_has (term place k (applied o left right)) = both_have (source_term_events site left) (source_term_events site right) (term_has left) (term_has right)
  write_has (term place k (converted inner to)) = term_has inner

  maybe_has : (t : Option Term) → AllHaveCopies (maybe_events site t)
  maybe_has None = tt
  maybe_has (Some t) = term_has t

inside_loop : (r : Around) (c : Counter) → HaveCopies r.loops → HaveCopies (in_loop r c).loops
inside_loop r c h = by (nat_lt 1 c.factor) refl
  where
    by : (b : Bool) → nat_lt 1 c.factor ≡ b → HaveCopies (if b then record { arms = r.arms; loops = r.loops ++ c ∷ [] } else r).loops
    by true e = one_more_has r.loops c h (grind (arith, nat_tests, e))
    by false e = h

mutual
  events_have : (r : Around) → HaveCopies r.loops → (a : Action) → AllHaveCopies (events r a)
  events_have r h (action id place form) = form_has r h (site_of r id) h form

  form_has : (r : Around) → HaveCopies r.loops → (site : Site) → HaveCopies site.loops → (f : ActionForm) → AllHaveCopies (command_events r site f)
  form_has r h site have (lets name declared value) = both_have (maybe_events site value) _ (maybe_has site have value) tt
  form_has r h site have (lets_memory name shape shape_places value) = tt
  form_has r h site have (views name parent form) = terms_have site have (terms (offsets_of form))
  form_has r h site have (assigns target value) = both_have (source_term_events site value) _ (term_has site have value) tt
  form_has r h site have (stores target value) = both_have (source_term_events site value) (write_events site target) (term_has site have value) (write_has site have target)
  form_has r h site have (reduces target o value) = both_have (source_term_events site value) _ (term_has site have value) tt
  form_has r h site have (calls function arguments) = tt
  form_has r h site have (blocks body) = groups_have r h body
  form_has r h site have (decides test chosen other) =
      both_have (source_term_events site test) _ (term_has site have test)
      (both_have (events (in_arm r site.command true) chosen) _ (events_have (in_arm r site.command true) h chosen) (other_has (in_arm r site.command false) h other))
  form_has r h site have (repeats test body) = both_have (source_term_events site test) (events r body) (term_has site have test) (events_have r h body)
  form_has r h site have (counts iterator declared low high factor body combine combine_place) =
      let c = loop_of iterator low high factor in
      both_have (events (in_loop r c) body) _ (events_have (in_loop r c) (inside_loop r c h) body) (other_has (in_loop r c) (inside_loop r c h) combine)

  other_has : (r : Around) → HaveCopies r.loops → (m : MaybeAction) → AllHaveCopies (other_events r m)
  other_has r h no_action = tt
  other_has r h (one_action a) = events_have r h a

  groups_have : (r : Around) → HaveCopies r.loops → (g : Groups) → AllHaveCopies (groups_events r g)
  groups_have r h no_groups = tt
  groups_have r h (group_then part rest) = both_have (part_events r part) (groups_events r rest) (part_has r h part) (groups_have r h rest)

  part_has : (r : Around) → HaveCopies r.loops → (p : Actions) → AllHaveCopies (part_events r p)
  part_has r h no_actions = tt
  part_has r h (action_then a rest) = both_have (events r a) (part_events r rest) (events_have r h a) (part_has r h rest)

-- so the access has a path
copies_some : (path : Path) (n : ℕ) → 1 ≤ n → 1 ≤ length (copies_of path n)
copies_some path zero h = absurd (omega (arith, h))
copies_some path (suc n) h = let l = length-append (copies_of path n) ((path ++ n ∷ []) ∷ []) in omega (arith, l)

all_copies_some : (paths : List Path) (n : ℕ) → 1 ≤ n → 1 ≤ length paths → 1 ≤ length (all_copies paths n)
all_copies_some [] n h i = absurd (omega (arith, i))
all_copies_some (path ∷ paths) n h i =
    let l = length-append (copies_of path n) (all_copies paths n) in
    let s = copies_some path n h in
    omega (arith, l, s)

paths_some : (loops : List Counter) → HaveCopies loops → (paths : List Path) → 1 ≤ length paths → 1 ≤ length (paths_from paths (loop_factors loops))
paths_some [] h paths i = i
paths_some (c ∷ loops) h paths i = paths_some loops h.1 (all_copies paths c.factor) (all_copies_some paths c.factor h.0 i)

some_product : (m n : ℕ) → 1 ≤ m → 1 ≤ m * suc n
some_product zero n h = absurd (omega (arith, h))
some_product (suc m) n h = grind arith

-- and each access counts
accesses_counted : (p : Program) (from : ℕ) (xs : List SourceAccess) → AllByRecursion (λ (a : SourceAccess). HaveCopies a.site.loops) xs → length xs ≤ accesses_size p from xs
accesses_counted p from [] h = omega arith
accesses_counted p from (a ∷ xs) h =
    let rest = accesses_counted p (suc from) xs h.1 in
    let some = some_product (length (paths_of a)) (entity_banks_charged p from (base_of (way_to p a.entity) a.entity)) (paths_some a.site.loops h.0 outer_paths (omega arith)) in
    omega (arith, rest, some)

pub accesses_within : (p : Program) → accesses_of p.body ≤ plan_size_of p
accesses_within p =
    let same = events_counted nothing_around p.body in
    let counted = accesses_counted p 0 (accesses_in (trace p)) (events_have nothing_around tt p.body) in
    omega (arith, same, counted)

pub faults_are_few : (p : Program) → FaultsAreFew p
faults_are_few p plan asked of =
    let few = of.few_faults in
    let within = accesses_within p in
    let small = asked.small in
    omega (arith, few, within, small)
