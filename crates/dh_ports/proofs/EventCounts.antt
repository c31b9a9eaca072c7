-- A program's text has as many accesses as are numbered.
use Rattle.std.proofs.Common.{◌≡◌, ℕ, suc, ◌+◌, true, false, List, [], ◌∷◌, ◌++◌, length, refl, ap, sym, ◌∙◌, arith}
use Rattle.std.specs.Prelude.{Option, Some, None}
use Rattle.dh_base.specs.declared.places.Place.{Place}
use Rattle.dh_tree.specs.PlainTrees.{Term, term, TermForm, number, truth_value, named, accessed, in_bank, applied, converted, Terms, no_terms, term_then, Action, action, ActionForm, lets, lets_memory, views, assigns, stores, reduces, calls, blocks, decides, repeats, counts, MaybeAction, no_action, one_action, Actions, no_actions, action_then, Groups, no_groups, group_then}
use Rattle.dh_tree.specs.Seen.{terms}
use Rattle.dh_tree.specs.ViewOffsets.{offsets_of}
use Rattle.dh_meaning.specs.AccessNumbers.{term_accesses, form_accesses, terms_accesses, maybe_accesses, own_accesses, inner_accesses, accesses_of, other_accesses, groups_accesses, part_accesses}
use Rattle.dh_meaning.specs.Sites.{Around, in_arm, in_loop, loop_of}
use Rattle.dh_meets.specs.SourceEvents.{Site, SourceEvent, accesses, assigned, accesses_in, site_of, source_term_events, form_events, source_terms_events, maybe_events, write_events, events, command_events, other_events, groups_events, part_events}

abbrev pub count_in : List SourceEvent → ℕ
count_in es = length (accesses_in es)

sums : (a b c d : ℕ) → a ≡ c → b ≡ d → a + b ≡ c + d
sums a b c d e f = omega (arith, e, f)

with_none : (x : ℕ) → x + 0 ≡ x
with_none x = omega arith

from_none : (x : ℕ) → x ≡ 0 + x
from_none x = omega arith

next_of : (x y z : ℕ) → y ≡ 1 → x ≡ z → x + y ≡ suc z
next_of x y z e f = omega (arith, e, f)

pub counted_append : (xs ys : List SourceEvent) → count_in (xs ++ ys) ≡ count_in xs + count_in ys
counted_append [] ys = none (count_in ys)
  where
    none : (n : ℕ) → n ≡ 0 + n
    none n = omega arith
counted_append (accesses a ∷ xs) ys = ap suc (counted_append xs ys) ∙ more (count_in xs) (count_in ys)
  where
    more : (m n : ℕ) → suc (m + n) ≡ suc m + n
    more m n = omega arith
counted_append (assigned e ∷ xs) ys = counted_append xs ys

both : (xs ys : List SourceEvent) (m n : ℕ) → count_in xs ≡ m → count_in ys ≡ n → count_in (xs ++ ys) ≡ m + n
both xs ys m n e f = counted_append xs ys ∙ sums _ _ _ _ e f

one_more : (xs ys : List SourceEvent) (m : ℕ) → count_in ys ≡ 1 → count_in xs ≡ m → count_in (xs ++ ys) ≡ suc m
one_more xs ys m e f = counted_append xs ys ∙ next_of _ _ _ e f

none_more : (xs ys : List SourceEvent) (m : ℕ) → count_in ys ≡ 0 → count_in xs ≡ m → count_in (xs ++ ys) ≡ m
none_more xs ys m e f = counted_append xs ys ∙ (sums _ _ _ _ f e ∙ with_none m)

mutual
  pub term_counted : (s : Site) (t : Term) → count_in (source_term_events s t) ≡ term_accesses t
  term_counted s (term place kind form) = form_counted s place form

  form_counted : (s : Site) (place : Place) (form : TermForm) → count_in (form_events s place form) ≡ form_accesses form
  form_counted s place (number negative n) = refl
  form_counted s place (truth_value value) = refl
  form_counted s place (named r) = refl
  form_counted s place (accessed r indices) = one_more (source_terms_events s indices) _ _ refl (terms_counted s indices)
  form_counted s place (in_bank r bank bank_place row) = one_more (source_term_events s row) _ _ refl (term_counted s row)
  form_counted s place (applied op left right) = both (source_term_events s left) (source_term_events s right) _ _ (term_counted s left) (term_counted s right)
  form_counted s place (converted inner to) = term_counted s inner

  terms_counted : (s : Site) (ts : Terms) → count_in (source_terms_events s ts) ≡ terms_accesses ts
  terms_counted s no_terms = refl
  terms_counted s (term_then t rest) = both (source_term_events s t) (source_terms_events s rest) _ _ (term_counted s t) (terms_counted s rest)

maybe_counted : (s : Site) (t : Option Term) → count_in (maybe_events s t) ≡ maybe_accesses t
maybe_counted s None = refl
maybe_counted s (Some t) = term_counted s t

write_counted : (s : Site) (t : Term) → count_in (write_events s t) ≡ term_accesses t
write_counted s (term place kind (accessed r indices)) = one_more (source_terms_events s indices) _ _ refl (terms_counted s indices)
write_counted s (term place kind (in_bank r bank bank_place row)) = one_more (source_term_events s row) _ _ refl (term_counted s row)
write_counted s (term place kind (number negative n)) = refl
write_counted s (term place kind (truth_value value)) = refl
write_counted s (term place kind (named r)) = refl
write_counted s (term place kind (applied op left right)) = both (source_term_events s left) (source_term_events s right) _ _ (term_counted s left) (term_counted s right)
write_counted s (term place kind (converted inner to)) = term_counted s inner

mutual
  pub counted : (r : Around) (a : Action) → count_in (events r a) ≡ accesses_of a
  counted r (action id place form) = command_counted r (site_of r id) form

  command_counted : (r : Around) (s : Site) (form : ActionForm) → count_in (command_events r s form) ≡ own_accesses form + inner_accesses form
  command_counted r s (lets name declared value) = none_more (maybe_events s value) _ _ refl (maybe_counted s value) ∙ sym (with_none _)
  command_counted r s (lets_memory name shape shape_places value) = refl
  command_counted r s (views name parent form) = terms_counted s (terms (offsets_of form)) ∙ sym (with_none _)
  command_counted r s (assigns target value) = none_more (source_term_events s value) _ _ refl (term_counted s value) ∙ sym (with_none _)
  command_counted r s (stores target value) = both (source_term_events s value) (write_events s target) _ _ (term_counted s value) (write_counted s target) ∙ sym (with_none _)
  command_counted r s (reduces target op value) = none_more (source_term_events s value) _ _ refl (term_counted s value) ∙ sym (with_none _)
  command_counted r s (calls function arguments) = refl
  command_counted r s (blocks body) = groups_counted r body ∙ from_none _
  command_counted r s (decides test chosen other) =
      both (source_term_events s test) _ _ _ (term_counted s test) (both (events (in_arm r s.command true) chosen) _ _ _ (counted (in_arm r s.command true) chosen) (other_counted (in_arm r s.command false) other))
  command_counted r s (repeats test body) = both (source_term_events s test) (events r body) _ _ (term_counted s test) (counted r body)
  command_counted r s (counts iterator declared low high factor body combine combine_place) =
      both (events (in_loop r (loop_of iterator low high factor)) body) _ _ _ (counted (in_loop r (loop_of iterator low high factor)) body) (other_counted (in_loop r (loop_of iterator low high factor)) combine)
      ∙ from_none _

  other_counted : (r : Around) (o : MaybeAction) → count_in (other_events r o) ≡ other_accesses o
  other_counted r no_action = refl
  other_counted r (one_action a) = counted r a

  groups_counted : (r : Around) (body : Groups) → count_in (groups_events r body) ≡ groups_accesses body
  groups_counted r no_groups = refl
  groups_counted r (group_then part rest) = both (part_events r part) (groups_events r rest) _ _ (part_counted r part) (groups_counted r rest)

  part_counted : (r : Around) (part : Actions) → count_in (part_events r part) ≡ part_accesses part
  part_counted r no_actions = refl
  part_counted r (action_then a rest) = both (events r a) (part_events r rest) _ _ (counted r a) (part_counted r rest)
