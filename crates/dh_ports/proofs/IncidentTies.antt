-- What happens in a command is tied to the tree of its accesses.
use Rattle.std.proofs.Common.{◌≡◌, ℕ, zero, suc, ◌+◌, ◌||◌, nat_lt, Bool, true, false, if◌then◌else◌, List, [], ◌∷◌, ◌++◌, refl, ap, sym, ◌∙◌, subst, arith}
use Rattle.std.specs.Prelude.{Option, Some, None}
use Rattle.std.specs.Option.{is_some}
use Rattle.dh_base.specs.declared.places.Place.{Place}
use Rattle.dh_value.specs.declared.kinds.Kind.{Kind}
use Rattle.dh_tree.specs.Meets.{Meets, nothing, access, all, one}
use Rattle.dh_tree.specs.PlainTrees.{Term, term, TermForm, number, truth_value, named, accessed, in_bank, applied, converted, Terms, no_terms, term_then, Action, action, ActionForm, lets, lets_memory, views, assigns, stores, reduces, calls, blocks, decides, repeats, counts, MaybeAction, no_action, one_action, Actions, no_actions, action_then, Groups, no_groups, group_then}
use Rattle.dh_tree.specs.Seen.{terms}
use Rattle.dh_tree.specs.ViewOffsets.{offsets_of}
use Rattle.dh_meaning.specs.AccessNumbers.{term_accesses, form_accesses, terms_accesses, maybe_accesses, own_accesses, inner_accesses, accesses_of, other_accesses, groups_accesses, part_accesses, plan_accesses}
use Rattle.dh_meets.specs.MayMeet.{row_of_accesses, arms_meet, meets, command_meets, other_meets, groups_meet, part_meets}
use Rattle.dh_events.specs.declared.events.Site.{Site}
use Rattle.dh_events.specs.declared.noting.Open.{Open}
use Rattle.dh_events.specs.Incidents.{PortEvent, touches, assigned, arm_begins, arm_ends, begins, next, ends, site_at, term_incidents, form_incidents, terms_incidents, maybe_incidents, target_incidents, is_stepped, closed, released, phase_of, tested, inside_choice, round_inside, when_parted, has_other, arms_part, are_parts, open_after, part_open, open_combine, incidents, command_incidents, other_incidents, combine_incidents, groups_incidents, part_incidents}
use Rattle.dh_ports.specs.Courses.{access_count, Ties, PartsTie}
use Rattle.dh_ports.proofs.CourseTies.{count_append, ties_nothing, ties_all, parts_none, parts_one, ties_parts, ties_two, ties_access, ties_behind, ties_single}

-- sums
sums : (a b c d : ℕ) → a ≡ c → b ≡ d → a + b ≡ c + d
sums a b c d e f = omega (arith, e, f)

with_none : (x : ℕ) → x + 0 ≡ x
with_none x = omega arith

from_none : (x : ℕ) → x ≡ 0 + x
from_none x = omega arith

both_count : (xs ys : List PortEvent) (m n : ℕ) → access_count xs ≡ m → access_count ys ≡ n → access_count (xs ++ ys) ≡ m + n
both_count xs ys m n e f = count_append xs ys ∙ sums _ _ _ _ e f

one_more : (xs : List PortEvent) (y : PortEvent) (m : ℕ) → access_count (y ∷ []) ≡ 1 → access_count xs ≡ m → access_count (xs ++ y ∷ []) ≡ suc m
one_more xs y m e f = count_append xs (y ∷ []) ∙ add (access_count xs) (access_count (y ∷ [])) m e f
  where
    add : (a b m : ℕ) → b ≡ 1 → a ≡ m → a + b ≡ suc m
    add a b m e f = omega (arith, e, f)

none_more : (xs : List PortEvent) (y : PortEvent) (m : ℕ) → access_count (y ∷ []) ≡ 0 → access_count xs ≡ m → access_count (xs ++ y ∷ []) ≡ m
none_more xs y m e f = count_append xs (y ∷ []) ∙ add (access_count xs) (access_count (y ∷ [])) m e f
  where
    add : (a b m : ℕ) → b ≡ 0 → a ≡ m → a + b ≡ m
    add a b m e f = omega (arith, e, f)

mutual
  pub term_count : (s : Site) (t : Term) → access_count (term_incidents s t) ≡ term_accesses t
  term_count s (term place kind form) = form_count s place kind form

  form_count : (s : Site) (place : Place) (kind : Option Kind) (form : TermForm) → access_count (form_incidents s place kind form) ≡ form_accesses form
  form_count s place kind (number negative n) = refl
  form_count s place kind (truth_value value) = refl
  form_count s place kind (named r) = refl
  form_count s place kind (accessed r indices) = one_more (terms_incidents s indices) _ _ refl (terms_count s indices)
  form_count s place kind (in_bank r bank bank_place t) = one_more (term_incidents s t) _ _ refl (term_count s t)
  form_count s place kind (applied op left right) = both_count (term_incidents s left) (term_incidents s right) _ _ (term_count s left) (term_count s right)
  form_count s place kind (converted inner to) = term_count s inner

  pub terms_count : (s : Site) (ts : Terms) → access_count (terms_incidents s ts) ≡ terms_accesses ts
  terms_count s no_terms = refl
  terms_count s (term_then t ts) = both_count (term_incidents s t) (terms_incidents s ts) _ _ (term_count s t) (terms_count s ts)

pub maybe_count : (s : Site) (t : Option Term) → access_count (maybe_incidents s t) ≡ maybe_accesses t
maybe_count s None = refl
maybe_count s (Some t) = term_count s t

pub target_count : (s : Site) (t : Term) → access_count (target_incidents s t) ≡ term_accesses t
target_count s (term place kind (number negative n)) = refl
target_count s (term place kind (truth_value value)) = refl
target_count s (term place kind (named r)) = refl
target_count s (term place kind (accessed r indices)) = one_more (terms_incidents s indices) _ _ refl (terms_count s indices)
target_count s (term place kind (in_bank r bank bank_place t)) = one_more (term_incidents s t) _ _ refl (term_count s t)
target_count s (term place kind (applied op left right)) = both_count (term_incidents s left) (term_incidents s right) _ _ (term_count s left) (term_count s right)
target_count s (term place kind (converted inner to)) = term_count s inner

-- marks of parts are no accesses
parted_count : (b : Bool) (y : PortEvent) (xs : List PortEvent) → access_count (y ∷ xs) ≡ access_count xs → access_count (when_parted b y ++ xs) ≡ access_count xs
parted_count true y xs none = none
parted_count false y xs none = refl

behind_count : (b : Bool) (y : PortEvent) (xs : List PortEvent) → access_count (y ∷ []) ≡ 0 → access_count (xs ++ when_parted b y) ≡ access_count xs
behind_count true y xs none = none_more xs y (access_count xs) none refl
behind_count false y xs none = count_append xs [] ∙ with_none (access_count xs)

mutual
  pub action_count : (f : ℕ → ℕ) (round : Option ℕ) (g : Open) (a : Action) → access_count (incidents f round g a) ≡ accesses_of a
  action_count f round g (action id place form) = command_count f round g id form

  command_count : (f : ℕ → ℕ) (round : Option ℕ) (g : Open) (id : ℕ) (form : ActionForm) → access_count (command_incidents f round g id form) ≡ own_accesses form + inner_accesses form
  command_count f round g id (lets name declared value) = none_more (maybe_incidents (site_at (phase_of g id) round) value) _ _ refl (maybe_count (site_at (phase_of g id) round) value) ∙ sym (with_none _)
  command_count f round g id (lets_memory name shape shape_places value) = refl
  command_count f round g id (views name parent form) = terms_count (site_at (phase_of g id) round) (terms (offsets_of form)) ∙ sym (with_none _)
  command_count f round g id (assigns target value) = none_more (term_incidents (site_at (phase_of g id) round) value) _ _ refl (term_count (site_at (phase_of g id) round) value) ∙ sym (with_none _)
  command_count f round g id (stores target value) =
      both_count (term_incidents (site_at (phase_of g id) round) value) (target_incidents (site_at (phase_of g id) round) target) _ _ (term_count (site_at (phase_of g id) round) value) (target_count (site_at (phase_of g id) round) target) ∙ sym (with_none _)
  command_count f round g id (reduces target op value) = none_more (term_incidents (site_at (phase_of g id) round) value) _ _ refl (term_count (site_at (phase_of g id) round) value) ∙ sym (with_none _)
  command_count f round g id (calls function arguments) = refl
  command_count f round g id (blocks body) =
      parted_count (are_parts body) begins _ refl
      ∙ (behind_count (are_parts body) ends (groups_incidents f round (is_stepped f id) (are_parts body) (released (is_stepped f id) g) body) refl
      ∙ (groups_count f round (is_stepped f id) (are_parts body) (released (is_stepped f id) g) body ∙ from_none _))
  command_count f round g id (decides test chosen other) =
      both_count (term_incidents (site_at (tested (is_stepped f id) g id) round) test) _ _ _ (term_count (site_at (tested (is_stepped f id) g id) round) test)
      (parted_count (arms_part round other) begins _ refl
      ∙ (count_append (incidents f round (inside_choice (is_stepped f id) (tested (is_stepped f id) g id)) chosen) _
      ∙ sums _ _ _ _ (action_count f round (inside_choice (is_stepped f id) (tested (is_stepped f id) g id)) chosen)
      (parted_count (arms_part round other) next _ refl
      ∙ (behind_count (arms_part round other) ends (other_incidents f round (inside_choice (is_stepped f id) (tested (is_stepped f id) g id)) other) refl
      ∙ other_count f round (inside_choice (is_stepped f id) (tested (is_stepped f id) g id)) other))))
  command_count f round g id (repeats test body) =
      both_count (term_incidents (site_at id round) test) _ _ _ (term_count (site_at id round) test)
      (none_more (incidents f round closed body) ends _ refl (action_count f round closed body))
  command_count f round g id (counts iterator declared low high factor body combine combine_place) =
      both_count (incidents f (round_inside round id factor.value) closed body) _ _ _ (action_count f (round_inside round id factor.value) closed body)
      (combine_count f (round_inside round id factor.value) (open_combine f (open_after f closed body) combine) combine)
      ∙ from_none _

  other_count : (f : ℕ → ℕ) (round : Option ℕ) (g : Open) (o : MaybeAction) → access_count (other_incidents f round g o) ≡ other_accesses o
  other_count f round g no_action = refl
  other_count f round g (one_action a) = none_more (incidents f round g a) arm_ends _ refl (action_count f round g a)

  combine_count : (f : ℕ → ℕ) (round : Option ℕ) (g : Open) (o : MaybeAction) → access_count (combine_incidents f round g o) ≡ other_accesses o
  combine_count f round g no_action = refl
  combine_count f round g (one_action a) = action_count f round g a

  groups_count : (f : ℕ → ℕ) (round : Option ℕ) (stepped parted : Bool) (g : Open) (body : Groups) → access_count (groups_incidents f round stepped parted g body) ≡ groups_accesses body
  groups_count f round stepped parted g no_groups = refl
  groups_count f round stepped parted g (group_then part rest) =
      both_count (part_incidents f round (released stepped g) part) _ _ _ (part_count f round (released stepped g) part)
      (parted_count parted next _ refl ∙ groups_count f round stepped parted (part_open f (released stepped g) part) rest)

  pub part_count : (f : ℕ → ℕ) (round : Option ℕ) (g : Open) (part : Actions) → access_count (part_incidents f round g part) ≡ part_accesses part
  part_count f round g no_actions = refl
  part_count f round g (action_then a rest) = both_count (incidents f round g a) (part_incidents f round (open_after f g a) rest) _ _ (action_count f round g a) (part_count f round (open_after f g a) rest)

-- accesses with no mark among them are a row
pub data IsFlat : List PortEvent → Type 0 where
  flat_end : IsFlat []
  flat_touch : (t : Term) (writes : Bool) (s : Site) (xs : List PortEvent) → IsFlat xs → IsFlat (touches t writes s ∷ xs)

flat_append : (xs ys : List PortEvent) → IsFlat xs → IsFlat ys → IsFlat (xs ++ ys)
flat_append _ ys flat_end g = g
flat_append _ ys (flat_touch t w s xs x) g = flat_touch t w s (xs ++ ys) (flat_append xs ys x g)

flat_one : (t : Term) (w : Bool) (s : Site) → IsFlat (touches t w s ∷ [])
flat_one t w s = flat_touch t w s [] flat_end

mutual
  term_flat : (s : Site) (t : Term) → IsFlat (term_incidents s t)
  term_flat s (term place kind form) = form_flat s place kind form

  form_flat : (s : Site) (place : Place) (kind : Option Kind) (form : TermForm) → IsFlat (form_incidents s place kind form)
  form_flat s place kind (number negative n) = flat_end
  form_flat s place kind (truth_value value) = flat_end
  form_flat s place kind (named r) = flat_end
  form_flat s place kind (accessed r indices) = flat_append (terms_incidents s indices) _ (terms_flat s indices) (flat_one _ false s)
  form_flat s place kind (in_bank r bank bank_place t) = flat_append (term_incidents s t) _ (term_flat s t) (flat_one _ false s)
  form_flat s place kind (applied op left right) = flat_append (term_incidents s left) (term_incidents s right) (term_flat s left) (term_flat s right)
  form_flat s place kind (converted inner to) = term_flat s inner

  terms_flat : (s : Site) (ts : Terms) → IsFlat (terms_incidents s ts)
  terms_flat s no_terms = flat_end
  terms_flat s (term_then t ts) = flat_append (term_incidents s t) (terms_incidents s ts) (term_flat s t) (terms_flat s ts)

maybe_flat : (s : Site) (t : Option Term) → IsFlat (maybe_incidents s t)
maybe_flat s None = flat_end
maybe_flat s (Some t) = term_flat s t

target_flat : (s : Site) (t : Term) → IsFlat (target_incidents s t)
target_flat s (term place kind (number negative n)) = flat_end
target_flat s (term place kind (truth_value value)) = flat_end
target_flat s (term place kind (named r)) = flat_end
target_flat s (term place kind (accessed r indices)) = flat_append (terms_incidents s indices) _ (terms_flat s indices) (flat_one _ true s)
target_flat s (term place kind (in_bank r bank bank_place t)) = flat_append (term_incidents s t) _ (term_flat s t) (flat_one _ true s)
target_flat s (term place kind (applied op left right)) = flat_append (term_incidents s left) (term_incidents s right) (term_flat s left) (term_flat s right)
target_flat s (term place kind (converted inner to)) = term_flat s inner

flat_ties : (c : ℕ → ℕ) (n : ℕ) (xs : List PortEvent) (m : ℕ) → IsFlat xs → access_count xs ≡ m → Ties c n xs (row_of_accesses n m)
flat_ties c n _ zero flat_end e = ties_nothing c n
flat_ties c n _ (suc m) flat_end e = cc
flat_ties c n _ zero (flat_touch t w s xs x) e = cc
flat_ties c n _ (suc m) (flat_touch t w s xs x) e =
    ties_all c n (touches t w s ∷ []) xs (access n) (row_of_accesses (suc n) m) (ties_access c n t w s)
    (subst (λ (k : ℕ). Ties c k xs (row_of_accesses (suc n) m)) (next_one n) (flat_ties c (suc n) xs m x (one_less _ _ e)))
  where
    one_less : (x y : ℕ) → suc x ≡ suc y → x ≡ y
    one_less x y e = omega (arith, e)

    next_one : (n : ℕ) → suc n ≡ n + 1
    next_one n = omega arith

-- an arm between its marks
arm_ties : (c : ℕ → ℕ) (n : ℕ) (xs : List PortEvent) (t : Meets) → Ties c n xs t → Ties c n (arm_begins ∷ (xs ++ arm_ends ∷ [])) t
arm_ties c n xs t f =
    let r = ties_behind c n xs arm_ends t refl (λ m l. refl) f in
    record { first = r.first; last = r.last; after = r.after; during = r.during }

-- the arms of an `if`: both may meet in an unrolled loop; else they are parts, where there are two
arms_ties : (c : ℕ → ℕ) (n : ℕ) (round : Option ℕ) (other : MaybeAction) (xs ys : List PortEvent) (t u : Meets) → Ties c n xs t → Ties c (n + access_count xs) ys u → (has_other other ≡ false → (ys ≡ []) × (u ≡ nothing))
    → Ties c n (when_parted (arms_part round other) begins ++ (xs ++ (when_parted (arms_part round other) next ++ (ys ++ when_parted (arms_part round other) ends)))) (arms_meet (is_some round) t u)
arms_ties c n (Some r) other xs ys t u f g lacks =
    subst (λ (zs : List PortEvent). Ties c n (xs ++ zs) (all t u)) (no_end ys) (ties_all c n xs ys t u f g)
  where
    no_end : (ys : List PortEvent) → ys ≡ ys ++ []
    no_end [] = refl
    no_end (y ∷ ys) = ap (λ l. y ∷ l) (no_end ys)
arms_ties c n None (one_action a) xs ys t u f g lacks = ties_two c n xs ys t u f g
arms_ties c n None no_action xs ys t u f g lacks =
    subst (λ (zs : List PortEvent). Ties c n (xs ++ (zs ++ [])) (one t u)) (sym (lacks refl).0)
    (subst (λ (v : Meets). Ties c n (xs ++ []) (one t v)) (sym (lacks refl).1)
    (subst (λ (zs : List PortEvent). Ties c n zs (one t nothing)) (no_end xs) (ties_single c n xs t f)))
  where
    no_end : (ys : List PortEvent) → ys ≡ ys ++ []
    no_end [] = refl
    no_end (y ∷ ys) = ap (λ l. y ∷ l) (no_end ys)

-- whether a command stands in an unrolled loop
round_some : (round : Option ℕ) (id factor : ℕ) → is_some (round_inside round id factor) ≡ is_some round || nat_lt 1 factor
round_some round id factor = by_test round (nat_lt 1 factor)
  where
    by_test : (round : Option ℕ) (b : Bool) → is_some (if b then Some id else round) ≡ is_some round || b
    by_test None true = refl
    by_test None false = refl
    by_test (Some r) true = refl
    by_test (Some r) false = refl

lacking : (f : ℕ → ℕ) (round : Option ℕ) (g : Open) (unrolled : Bool) (n : ℕ) (other : MaybeAction) → has_other other ≡ false → (other_incidents f round g other ≡ []) × (other_meets unrolled n other ≡ nothing)
lacking f round g unrolled n no_action e = (refl, refl)
lacking f round g unrolled n (one_action a) e = cc

-- a block, whose parts are marked where they are more than one
abbrev first_incidents : (ℕ → ℕ) → Option ℕ → Open → Groups → List PortEvent
first_incidents f round g no_groups = []
first_incidents f round g (group_then part rest) = part_incidents f round g part

abbrev first_meets : Bool → ℕ → Groups → Meets
first_meets unrolled n no_groups = nothing
first_meets unrolled n (group_then part rest) = part_meets unrolled n part

block_ties : (c f : ℕ → ℕ) (n : ℕ) (round : Option ℕ) (stepped : Bool) (g : Open) (body : Groups) → Ties c n (first_incidents f round (released stepped g) body) (first_meets (is_some round) n body)
    → PartsTie c n (groups_incidents f round stepped true g body) (groups_meet (is_some round) n body)
    → Ties c n (when_parted (are_parts body) begins ++ (groups_incidents f round stepped (are_parts body) g body ++ when_parted (are_parts body) ends)) (groups_meet (is_some round) n body)
block_ties c f n round stepped g no_groups one_part parts = ties_nothing c n
block_ties c f n round stepped g (group_then part no_groups) one_part parts =
    subst (λ (zs : List PortEvent). Ties c n zs (one (part_meets (is_some round) n part) nothing)) (no_ends (part_incidents f round (released stepped g) part)) (ties_single c n (part_incidents f round (released stepped g) part) _ one_part)
  where
    no_ends : (xs : List PortEvent) → xs ≡ (xs ++ []) ++ []
    no_ends [] = refl
    no_ends (x ∷ xs) = ap (λ l. x ∷ l) (no_ends xs)
block_ties c f n round stepped g (group_then part (group_then other rest)) one_part parts = ties_parts c n (groups_incidents f round stepped true g (group_then part (group_then other rest))) _ parts

mutual
  pub action_ties : (c f : ℕ → ℕ) (n : ℕ) (round : Option ℕ) (g : Open) (a : Action) → Ties c n (incidents f round g a) (meets (is_some round) n a)
  action_ties c f n round g (action id place form) = command_ties c f n round g id form

  command_ties : (c f : ℕ → ℕ) (n : ℕ) (round : Option ℕ) (g : Open) (id : ℕ) (form : ActionForm) → Ties c n (command_incidents f round g id form) (command_meets (is_some round) n form)
  command_ties c f n round g id (lets name declared value) =
      ties_behind c n (maybe_incidents (site_at (phase_of g id) round) value) (assigned name.entity) _ refl (λ m l. refl)
      (flat_ties c n (maybe_incidents (site_at (phase_of g id) round) value) (maybe_accesses value) (maybe_flat (site_at (phase_of g id) round) value) (maybe_count (site_at (phase_of g id) round) value))
  command_ties c f n round g id (lets_memory name shape shape_places value) = ties_nothing c n
  command_ties c f n round g id (views name parent form) =
      flat_ties c n (terms_incidents (site_at (phase_of g id) round) (terms (offsets_of form))) (plan_accesses form) (terms_flat (site_at (phase_of g id) round) (terms (offsets_of form))) (terms_count (site_at (phase_of g id) round) (terms (offsets_of form)))
  command_ties c f n round g id (assigns target value) =
      ties_behind c n (term_incidents (site_at (phase_of g id) round) value) (assigned target.entity) _ refl (λ m l. refl)
      (flat_ties c n (term_incidents (site_at (phase_of g id) round) value) (term_accesses value) (term_flat (site_at (phase_of g id) round) value) (term_count (site_at (phase_of g id) round) value))
  command_ties c f n round g id (stores target value) =
      flat_ties c n (term_incidents (site_at (phase_of g id) round) value ++ target_incidents (site_at (phase_of g id) round) target) (term_accesses value + term_accesses target)
      (flat_append (term_incidents (site_at (phase_of g id) round) value) (target_incidents (site_at (phase_of g id) round) target) (term_flat (site_at (phase_of g id) round) value) (target_flat (site_at (phase_of g id) round) target))
      (both_count (term_incidents (site_at (phase_of g id) round) value) (target_incidents (site_at (phase_of g id) round) target) _ _ (term_count (site_at (phase_of g id) round) value) (target_count (site_at (phase_of g id) round) target))
  command_ties c f n round g id (reduces target op value) =
      ties_behind c n (term_incidents (site_at (phase_of g id) round) value) (assigned target.entity) _ refl (λ m l. refl)
      (flat_ties c n (term_incidents (site_at (phase_of g id) round) value) (term_accesses value) (term_flat (site_at (phase_of g id) round) value) (term_count (site_at (phase_of g id) round) value))
  command_ties c f n round g id (calls function arguments) = ties_nothing c n
  command_ties c f n round g id (blocks body) =
      block_ties c f n round (is_stepped f id) (released (is_stepped f id) g) body (first_ties c f n round (released (is_stepped f id) (released (is_stepped f id) g)) body)
      (groups_ties c f n round (is_stepped f id) (released (is_stepped f id) g) body)
  command_ties c f n round g id (decides test chosen other) =
      ties_all c n tests _ (row_of_accesses n (term_accesses test)) _
      (flat_ties c n tests (term_accesses test) (term_flat (site_at (tested (is_stepped f id) g id) round) test) (term_count (site_at (tested (is_stepped f id) g id) round) test))
      (subst (λ (m : ℕ). Ties c (n + m) (when_parted (arms_part round other) begins ++ (arm_begins ∷ (incidents f round h chosen ++ (arm_ends ∷ (when_parted (arms_part round other) next ++ (other_incidents f round h other ++ when_parted (arms_part round other) ends)))))) (arms_meet (is_some round) (meets (is_some round) (n + term_accesses test) chosen) (other_meets (is_some round) (n + term_accesses test + accesses_of chosen) other)))
      (sym (term_count (site_at (tested (is_stepped f id) g id) round) test))
      (subst (λ (zs : List PortEvent). Ties c (n + term_accesses test) (when_parted (arms_part round other) begins ++ (arm_begins ∷ zs)) (arms_meet (is_some round) (meets (is_some round) (n + term_accesses test) chosen) (other_meets (is_some round) (n + term_accesses test + accesses_of chosen) other)))
      (regroup (incidents f round h chosen) (when_parted (arms_part round other) next ++ (other_incidents f round h other ++ when_parted (arms_part round other) ends)))
      (arms_ties c (n + term_accesses test) round other (arm_begins ∷ (incidents f round h chosen ++ arm_ends ∷ [])) (other_incidents f round h other) _ _
      (arm_ties c (n + term_accesses test) (incidents f round h chosen) _ (action_ties c f (n + term_accesses test) round h chosen))
      (subst (λ (m : ℕ). Ties c (n + term_accesses test + m) (other_incidents f round h other) (other_meets (is_some round) (n + term_accesses test + accesses_of chosen) other))
      (sym (none_more (incidents f round h chosen) arm_ends _ refl (action_count f round h chosen)))
      (other_ties c f (n + term_accesses test + accesses_of chosen) round h other))
      (lacking f round h (is_some round) (n + term_accesses test + accesses_of chosen) other))))
    where
      h : Open
      h = inside_choice (is_stepped f id) (tested (is_stepped f id) g id)

      tests : List PortEvent
      tests = term_incidents (site_at (tested (is_stepped f id) g id) round) test

      regroup : (xs zs : List PortEvent) → (xs ++ arm_ends ∷ []) ++ zs ≡ xs ++ (arm_ends ∷ zs)
      regroup [] zs = refl
      regroup (x ∷ xs) zs = ap (λ l. x ∷ l) (regroup xs zs)
  command_ties c f n round g id (repeats test body) =
      ties_two c n (term_incidents (site_at id round) test) (incidents f round closed body) (row_of_accesses n (term_accesses test)) (meets (is_some round) (n + term_accesses test) body)
      (flat_ties c n (term_incidents (site_at id round) test) (term_accesses test) (term_flat (site_at id round) test) (term_count (site_at id round) test))
      (subst (λ (m : ℕ). Ties c (n + m) (incidents f round closed body) (meets (is_some round) (n + term_accesses test) body)) (sym (term_count (site_at id round) test)) (action_ties c f (n + term_accesses test) round closed body))
  command_ties c f n round g id (counts iterator declared low high factor body combine combine_place) =
      let r = subst (λ (b : Bool). Ties c n (incidents f inner closed body ++ combine_incidents f inner (open_combine f (open_after f closed body) combine) combine) (all (meets b n body) (other_meets b (n + accesses_of body) combine)))
      (round_some round id factor.value)
      (ties_all c n (incidents f inner closed body) (combine_incidents f inner (open_combine f (open_after f closed body) combine) combine) (meets (is_some inner) n body) (other_meets (is_some inner) (n + accesses_of body) combine)
      (action_ties c f n inner closed body)
      (subst (λ (m : ℕ). Ties c (n + m) (combine_incidents f inner (open_combine f (open_after f closed body) combine) combine) (other_meets (is_some inner) (n + accesses_of body) combine)) (sym (action_count f inner closed body))
      (combine_ties c f (n + accesses_of body) inner (open_combine f (open_after f closed body) combine) combine))) in
      record { first = r.first; last = r.last; after = r.after; during = r.during }
    where
      inner : Option ℕ
      inner = round_inside round id factor.value

  other_ties : (c f : ℕ → ℕ) (n : ℕ) (round : Option ℕ) (g : Open) (o : MaybeAction) → Ties c n (other_incidents f round g o) (other_meets (is_some round) n o)
  other_ties c f n round g no_action = ties_nothing c n
  other_ties c f n round g (one_action a) = arm_ties c n (incidents f round g a) _ (action_ties c f n round g a)

  combine_ties : (c f : ℕ → ℕ) (n : ℕ) (round : Option ℕ) (g : Open) (o : MaybeAction) → Ties c n (combine_incidents f round g o) (other_meets (is_some round) n o)
  combine_ties c f n round g no_action = ties_nothing c n
  combine_ties c f n round g (one_action a) = action_ties c f n round g a

  -- the first part of a block
  first_ties : (c f : ℕ → ℕ) (n : ℕ) (round : Option ℕ) (g : Open) (body : Groups) → Ties c n (first_incidents f round g body) (first_meets (is_some round) n body)
  first_ties c f n round g no_groups = ties_nothing c n
  first_ties c f n round g (group_then part rest) = part_ties c f n round g part

  groups_ties : (c f : ℕ → ℕ) (n : ℕ) (round : Option ℕ) (stepped : Bool) (g : Open) (body : Groups) → PartsTie c n (groups_incidents f round stepped true g body) (groups_meet (is_some round) n body)
  groups_ties c f n round stepped g no_groups = parts_none c n
  groups_ties c f n round stepped g (group_then part rest) =
      parts_one c n (part_incidents f round (released stepped g) part) (groups_incidents f round stepped true (part_open f (released stepped g) part) rest) (part_meets (is_some round) n part) (groups_meet (is_some round) (n + part_accesses part) rest)
      (part_ties c f n round (released stepped g) part)
      (subst (λ (m : ℕ). PartsTie c (n + m) (groups_incidents f round stepped true (part_open f (released stepped g) part) rest) (groups_meet (is_some round) (n + part_accesses part) rest)) (sym (part_count f round (released stepped g) part))
      (groups_ties c f (n + part_accesses part) round stepped (part_open f (released stepped g) part) rest))

  part_ties : (c f : ℕ → ℕ) (n : ℕ) (round : Option ℕ) (g : Open) (part : Actions) → Ties c n (part_incidents f round g part) (part_meets (is_some round) n part)
  part_ties c f n round g no_actions = ties_nothing c n
  part_ties c f n round g (action_then a rest) =
      ties_all c n (incidents f round g a) (part_incidents f round (open_after f g a) rest) (meets (is_some round) n a) (part_meets (is_some round) (n + accesses_of a) rest)
      (action_ties c f n round g a)
      (subst (λ (m : ℕ). Ties c (n + m) (part_incidents f round (open_after f g a) rest) (part_meets (is_some round) (n + accesses_of a) rest)) (sym (action_count f round g a)) (part_ties c f (n + accesses_of a) round (open_after f g a) rest))
