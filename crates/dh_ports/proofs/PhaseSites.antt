-- Each access of a command has the number of the run in which it stands: of the command's phases, or of those of
-- a loop without phases inside it.
use Rattle.std.proofs.Common.{◌≡◌, ℕ, suc, ◌+◌, ◌≤◌, ◌==◌, ◌&&◌, ◌||◌, nat_le, not, Bool, true, false, if◌then◌else◌, List, [], ◌∷◌, ◌++◌, max, inl, inr, refl, ap, sym, ◌∙◌, subst, arith}
use Rattle.std.proofs.lemmas.Bool.Decides.{nat_tests}
use Rattle.std.specs.Prelude.{Option, Some, None}
use Rattle.dh_base.specs.declared.places.Place.{Place}
use Rattle.dh_value.specs.declared.kinds.Kind.{Kind}
use Rattle.dh_tree.specs.PlainTrees.{Term, term, TermForm, number, truth_value, named, accessed, in_bank, applied, converted, Terms, no_terms, term_then, shrinks, splits, suffixes, shifts, Action, action, ActionForm, lets, lets_memory, views, assigns, stores, reduces, calls, blocks, decides, repeats, counts, MaybeAction, no_action, one_action, Actions, no_actions, action_then, Groups, no_groups, group_then}
use Rattle.dh_tree.specs.Seen.{terms}
use Rattle.dh_tree.specs.ViewOffsets.{offsets_of}
use Rattle.dh_meaning.specs.AccessNumbers.{term_accesses, accesses_of, part_accesses, terms_accesses}
use Rattle.dh_meaning.specs.OnePhase.{is_between, makes, test_makes}
use Rattle.dh_meaning.specs.Phases.{Located, Phase, decided, of_list, joined, are_straight, one_command, folded, turn_count, turn_phases, choice_phases, located, phases, form_phases, other_phases, groups_phases, parts_phases, unless_turns, idle_phases, idle_form_phases, idle_other_phases, idle_groups_phases, idle_part_phases}
use Rattle.dh_meaning.specs.Sites.{Around, in_arm, in_loop, loop_of}
use Rattle.dh_events.specs.declared.events.Site.{Site}
use Rattle.dh_events.specs.declared.noting.Open.{Open}
use Rattle.dh_events.specs.Incidents.{PortEvent, touches, assigned, arm_begins, arm_ends, begins, next, ends, site_at, term_incidents, form_incidents, terms_incidents, maybe_incidents, target_incidents, is_stepped, closed, released, phase_at, phase_of, tested, inside_choice, into_combine, round_inside, when_parted, arms_part, are_parts, open_after, part_open, open_combine, incidents, command_incidents, other_incidents, combine_incidents, groups_incidents, part_incidents}
use Rattle.dh_tree.specs.PhaseKinds.{phase_kind, form_phase_kind, other_phase_kind, groups_phase_kind, part_phase_kind}
use Rattle.dh_ports.specs.Courses.{access_count}
use Rattle.dh_ports.proofs.CourseTies.{count_append}
use Rattle.dh_ports.proofs.IncidentTies.{term_count, maybe_count, target_count, action_count, part_count, terms_count}
use Rattle.dh_ports.proofs.PhaseRuns.{tag_of, stands, flat_all, flat, or_none, or_assoc, or_both, runs_nil, flat_append, flat_of_list, stands_append}
use Rattle.dh_ports.proofs.PhaseShapes.{size, next_going, going_opened, last_opened, into, into_none, all_stand, joined_stands, folded_stands, beside_stands, straight_stands, straight_size, full_joined, max_right, tops}
use Rattle.dh_ports.proofs.StagesKnown.{Known, KnownInside, KnownOther, KnownGroups, KnownPart}
use Rattle.dh_ports.proofs.PhaseSizes.{choice_straight, TurnCases, loop_turns, stage_size, other_size, groups_size, part_size, groups_full, makes_tops, other_tops, max_first, sum_first, sum_second, stepped_at, stepped_choice, after, part_straight, few_parts, within_none}

-- the access of a number has this phase
abbrev pub tells : ℕ → List PortEvent → (k p : ℕ) → Bool
tells n [] k p = false
tells n (touches t w s ∷ xs) k p = ((s.phase == p) && (n == k)) || tells (suc n) xs k p
tells n (assigned e ∷ xs) k p = tells n xs k p
tells n (arm_begins ∷ xs) k p = tells n xs k p
tells n (arm_ends ∷ xs) k p = tells n xs k p
tells n (begins ∷ xs) k p = tells n xs k p
tells n (next ∷ xs) k p = tells n xs k p
tells n (ends ∷ xs) k p = tells n xs k p

with_none : (n : ℕ) → n ≡ n + 0
with_none n = omega arith

suc_sum : (a b : ℕ) → suc a + b ≡ a + suc b
suc_sum a b = omega arith

pub tells_append : (n : ℕ) (xs ys : List PortEvent) (k p : ℕ) → tells n (xs ++ ys) k p ≡ (tells n xs k p || tells (n + access_count xs) ys k p)
tells_append n [] ys k p = ap (λ m. tells m ys k p) (with_none n)
tells_append n (touches t w s ∷ xs) ys k p =
    ap (λ b. ((s.phase == p) && (n == k)) || b) (tells_append (suc n) xs ys k p ∙ ap (λ m. tells (suc n) xs k p || tells m ys k p) (suc_sum n (access_count xs)))
    ∙ sym (or_assoc ((s.phase == p) && (n == k)) (tells (suc n) xs k p) (tells (n + suc (access_count xs)) ys k p))
tells_append n (assigned e ∷ xs) ys k p = tells_append n xs ys k p
tells_append n (arm_begins ∷ xs) ys k p = tells_append n xs ys k p
tells_append n (arm_ends ∷ xs) ys k p = tells_append n xs ys k p
tells_append n (begins ∷ xs) ys k p = tells_append n xs ys k p
tells_append n (next ∷ xs) ys k p = tells_append n xs ys k p
tells_append n (ends ∷ xs) ys k p = tells_append n xs ys k p

-- the same by how many accesses the first ones have
tells_two : (n m : ℕ) (xs ys : List PortEvent) (k p : ℕ) (x y : Bool) → access_count xs ≡ m → tells n xs k p ≡ x → tells (n + m) ys k p ≡ y → tells n (xs ++ ys) k p ≡ (x || y)
tells_two n m xs ys k p x y c e f = tells_append n xs ys k p ∙ or_both _ _ _ _ e (ap (λ l. tells (n + l) ys k p) c ∙ f)

-- marks are no accesses
parted_tells : (b : Bool) (x : PortEvent) (n : ℕ) (ys : List PortEvent) (k p : ℕ) → tells n (x ∷ ys) k p ≡ tells n ys k p → tells n (when_parted b x ++ ys) k p ≡ tells n ys k p
parted_tells true x n ys k p e = e
parted_tells false x n ys k p e = refl

behind_tells : (b : Bool) (x : PortEvent) (n : ℕ) (xs : List PortEvent) (k p : ℕ) → ((m : ℕ) → tells m (x ∷ []) k p ≡ false) → tells n (xs ++ when_parted b x) k p ≡ tells n xs k p
behind_tells true x n xs k p e = tells_append n xs (x ∷ []) k p ∙ (ap (λ v. tells n xs k p || v) (e (n + access_count xs)) ∙ or_none (tells n xs k p))
behind_tells false x n xs k p e = tells_append n xs [] k p ∙ or_none (tells n xs k p)

one_behind : (x : PortEvent) (n : ℕ) (xs : List PortEvent) (k p : ℕ) → ((m : ℕ) → tells m (x ∷ []) k p ≡ false) → tells n (xs ++ x ∷ []) k p ≡ tells n xs k p
one_behind x n xs k p e = behind_tells true x n xs k p e

-- Accesses of one phase.

abbrev AllIn : ℕ → List PortEvent → Type 0
AllIn q [] = Unit {0}
AllIn q (touches t w s ∷ xs) = (s.phase ≡ q) × AllIn q xs
AllIn q (assigned e ∷ xs) = AllIn q xs
AllIn q (arm_begins ∷ xs) = AllIn q xs
AllIn q (arm_ends ∷ xs) = AllIn q xs
AllIn q (begins ∷ xs) = AllIn q xs
AllIn q (next ∷ xs) = AllIn q xs
AllIn q (ends ∷ xs) = AllIn q xs

all_append : (q : ℕ) (xs ys : List PortEvent) → AllIn q xs → AllIn q ys → AllIn q (xs ++ ys)
all_append q [] ys g h = h
all_append q (touches t w s ∷ xs) ys g h = (g.0, all_append q xs ys g.1 h)
all_append q (assigned e ∷ xs) ys g h = all_append q xs ys g h
all_append q (arm_begins ∷ xs) ys g h = all_append q xs ys g h
all_append q (arm_ends ∷ xs) ys g h = all_append q xs ys g h
all_append q (begins ∷ xs) ys g h = all_append q xs ys g h
all_append q (next ∷ xs) ys g h = all_append q xs ys g h
all_append q (ends ∷ xs) ys g h = all_append q xs ys g h

within_next : (k n c : ℕ) → ((n == k) || is_between k (suc n) c) ≡ is_between k n (suc c)
within_next k n c = grind (arith, nat_tests)

and_or : (b x y z : Bool) → (x || y) ≡ z → ((b && x) || (b && y)) ≡ (b && z)
and_or true x y z e = e
and_or false x y z e = refl

and_none : (b : Bool) (x : Bool) → x ≡ false → (b && x) ≡ false
and_none true x e = e
and_none false x e = refl

row_tells : (q n : ℕ) (xs : List PortEvent) (k p : ℕ) → AllIn q xs → tells n xs k p ≡ ((q == p) && is_between k n (access_count xs))
row_tells q n [] k p h = sym (and_none (q == p) (is_between k n 0) (within_none k n))
row_tells q n (touches t w s ∷ xs) k p h =
    ap (λ v. ((v == p) && (n == k)) || tells (suc n) xs k p) h.0
    ∙ (ap (λ v. ((q == p) && (n == k)) || v) (row_tells q (suc n) xs k p h.1)
    ∙ and_or (q == p) (n == k) (is_between k (suc n) (access_count xs)) (is_between k n (suc (access_count xs))) (within_next k n (access_count xs)))
row_tells q n (assigned e ∷ xs) k p h = row_tells q n xs k p h
row_tells q n (arm_begins ∷ xs) k p h = row_tells q n xs k p h
row_tells q n (arm_ends ∷ xs) k p h = row_tells q n xs k p h
row_tells q n (begins ∷ xs) k p h = row_tells q n xs k p h
row_tells q n (next ∷ xs) k p h = row_tells q n xs k p h
row_tells q n (ends ∷ xs) k p h = row_tells q n xs k p h

counted_row : (q n c : ℕ) (xs : List PortEvent) (k p : ℕ) → AllIn q xs → access_count xs ≡ c → tells n xs k p ≡ ((q == p) && is_between k n c)
counted_row q n c xs k p h e = row_tells q n xs k p h ∙ ap (λ m. (q == p) && is_between k n m) e

mutual
  term_in : (s : Site) (t : Term) → AllIn s.phase (term_incidents s t)
  term_in s (term place kind form) = form_in s place kind form

  form_in : (s : Site) (place : Place) (kind : Option Kind) (form : TermForm) → AllIn s.phase (form_incidents s place kind form)
  form_in s place kind (number negative n) = tt
  form_in s place kind (truth_value value) = tt
  form_in s place kind (named r) = tt
  form_in s place kind (accessed r indices) = all_append s.phase (terms_incidents s indices) _ (terms_in s indices) (refl, tt)
  form_in s place kind (in_bank r bank bank_place row) = all_append s.phase (term_incidents s row) _ (term_in s row) (refl, tt)
  form_in s place kind (applied op left right) = all_append s.phase (term_incidents s left) _ (term_in s left) (term_in s right)
  form_in s place kind (converted inner to) = term_in s inner

  terms_in : (s : Site) (ts : Terms) → AllIn s.phase (terms_incidents s ts)
  terms_in s no_terms = tt
  terms_in s (term_then t rest) = all_append s.phase (term_incidents s t) _ (term_in s t) (terms_in s rest)

maybe_in : (s : Site) (t : Option Term) → AllIn s.phase (maybe_incidents s t)
maybe_in s None = tt
maybe_in s (Some t) = term_in s t

target_in : (s : Site) (t : Term) → AllIn s.phase (target_incidents s t)
target_in s (term place kind (number negative n)) = tt
target_in s (term place kind (truth_value value)) = tt
target_in s (term place kind (named r)) = tt
target_in s (term place kind (accessed r indices)) = all_append s.phase (terms_incidents s indices) _ (terms_in s indices) (refl, tt)
target_in s (term place kind (in_bank r bank bank_place row)) = all_append s.phase (term_incidents s row) _ (term_in s row) (refl, tt)
target_in s (term place kind (applied op left right)) = all_append s.phase (term_incidents s left) _ (term_in s left) (term_in s right)
target_in s (term place kind (converted inner to)) = term_in s inner

test_tells : (q n : ℕ) (round : Option ℕ) (t : Term) (k p : ℕ) → tells n (term_incidents (site_at q round) t) k p ≡ ((q == p) && is_between k n (term_accesses t))
test_tells q n round t k p = counted_row q n (term_accesses t) (term_incidents (site_at q round) t) k p (term_in (site_at q round) t) (term_count (site_at q round) t)

-- One command that is a phase of its own.

own_run : (b x : Bool) → (b && x) ≡ (((b && (x || false)) || false) || false)
own_run true true = refl
own_run true false = refl
own_run false x = refl

value_tells : (q n : ℕ) (xs : List PortEvent) (e : Option ℕ) (c k p : ℕ) → AllIn q xs → access_count xs ≡ c → tells n (xs ++ assigned e ∷ []) k p ≡ ((((q == p) && (is_between k n c || false)) || false) || false)
value_tells q n xs e c k p h f = one_behind (assigned e) n xs k p (λ m. refl) ∙ (counted_row q n c xs k p h f ∙ own_run (q == p) (is_between k n c))

-- An `if`.

straight_into : (ps : List Phase) (q : ℕ) → are_straight ps ≡ true → into ps (Some q) ≡ Some q
straight_into ps q e = by (nat_le 2 (size ps)) (sym (straight_size ps) ∙ e)
  where
    by : (v : Bool) → not v ≡ true → (if v then None else Some q) ≡ Some q
    by true f = absurd cc
    by false f = refl

and_true_left : (x y : Bool) → (x && y) ≡ true → x ≡ true
and_true_left true y e = refl
and_true_left false y e = absurd cc

and_true_right : (x y : Bool) → (x && y) ≡ true → y ≡ true
and_true_right true y e = e
and_true_right false y e = absurd cc

choice_runs : (b w x y : Bool) → ((b && w) || ((b && x) || (b && y))) ≡ ((b && ((w || (x || y)) || false)) || false)
choice_runs true true x y = refl
choice_runs true false true y = refl
choice_runs true false false true = refl
choice_runs true false false false = refl
choice_runs false w x y = refl

stepped_runs : (x y z : Bool) → (x || (y || z)) ≡ ((x || (y || z)) || false)
stepped_runs x y z = sym (or_none (x || (y || z)))

choice_stands : (s : Bool) (b : Open) (c : Located) (id : ℕ) (ps qs : List Phase) (w : Bool) (k p : ℕ) → (are_straight ps && are_straight qs) ≡ not s → tag_of c ≡ id → test_makes k c ≡ w
    → (s ≡ false → makes k c.first c.command ≡ (w || (tops k ps || tops k qs)))
    → (((tested s b id == p) && w) || (stands (into ps (inside_choice s (tested s b id)).going) (flat ps) k p || stands (into qs (inside_choice s (tested s b id)).going) (flat qs) k p))
    ≡ stands (into (choice_phases c ps qs) b.going) (flat (choice_phases c ps qs)) k p
choice_stands true b c id ps qs w k p e own test straight =
    or_both _ _ _ _ (ap (λ m. (m == p) && w) (sym own) ∙ ap (λ v. (tag_of c == p) && v) (sym test))
    (or_both _ _ _ _ (ap (λ o. stands o (flat ps) k p) (into_none ps)) (ap (λ o. stands o (flat qs) k p) (into_none qs))
    ∙ (sym (stands_append (flat ps) (flat qs) k p) ∙ ap (λ l. stands None l k p) (sym both_flat)))
    ∙ ap (λ v. stands (into (if v then one_command c else decided c (of_list ps) (of_list qs) ∷ []) b.going) (flat (if v then one_command c else decided c (of_list ps) (of_list qs) ∷ [])) k p) (sym e)
  where
    both_flat : (flat_all (of_list ps) ++ flat_all (of_list qs)) ++ [] ≡ flat ps ++ flat qs
    both_flat = runs_nil (flat_all (of_list ps) ++ flat_all (of_list qs)) ∙ (ap (λ l. l ++ flat_all (of_list qs)) (flat_of_list ps) ∙ ap (λ l. flat ps ++ l) (flat_of_list qs))
choice_stands false b c id ps qs w k p e own test straight =
    ap (λ v. ((phase_at b.going id == p) && w) || v) (or_both _ _ _ _ (in_straight ps (and_true_left (are_straight ps) (are_straight qs) e)) (in_straight qs (and_true_right (are_straight ps) (are_straight qs) e)))
    ∙ (choice_runs (phase_at b.going id == p) w (tops k ps) (tops k qs)
    ∙ (ap (λ v. ((phase_at b.going id == p) && (v || false)) || false) (sym (straight refl)) ∙ (ap (λ m. ((phase_at b.going m == p) && (makes k c.first c.command || false)) || false) (sym own)
    ∙ ap (λ v. stands (into (if v then one_command c else decided c (of_list ps) (of_list qs) ∷ []) b.going) (flat (if v then one_command c else decided c (of_list ps) (of_list qs) ∷ [])) k p) (sym e))))
  where
    in_straight : (ts : List Phase) → are_straight ts ≡ true → stands (into ts (Some (phase_at b.going id))) (flat ts) k p ≡ ((phase_at b.going id == p) && tops k ts)
    in_straight ts f = ap (λ o. stands o (flat ts) k p) (straight_into ts (phase_at b.going id) f) ∙ straight_stands (phase_at b.going id) ts k p f

-- Idle phases.

pub idle_append : (ps qs : List Phase) (k p : ℕ) → (stands None (flat ps) k p || stands None (flat qs) k p) ≡ stands None (flat (ps ++ qs)) k p
idle_append ps qs k p = sym (stands_append (flat ps) (flat qs) k p) ∙ ap (λ l. stands None l k p) (sym (flat_append ps qs))

four : (a b c d : Bool) → ((a || b) || (c || d)) ≡ ((a || c) || (b || d))
four true b c d = refl
four false true true d = refl
four false true false d = refl
four false false c d = refl

five : (x a b c d : Bool) → (x || ((a || b) || (c || d))) ≡ ((x || (a || c)) || (b || d))
five true a b c d = refl
five false a b c d = four a b c d

-- A `for`.

turn_stands : (g : Option ℕ) (c : Located) (count k l : ℕ) (fs : List Phase) (idle : List Phase) (i p : ℕ) → TurnCases c count k l fs
    → (stands None (flat fs) i p || stands None (flat idle) i p) ≡ (stands (into (turn_phases c count fs) g) (flat (turn_phases c count fs)) i p || stands None (flat (unless_turns fs (turn_phases c count fs) ++ idle)) i p)
turn_stands g c count k l fs idle i p (inl x) =
    idle_append fs idle i p ∙ ap (λ ts. stands (into ts g) (flat ts) i p || stands None (flat (unless_turns fs ts ++ idle)) i p) (sym x.1)
turn_stands g c count k l fs idle i p (inr x) =
    ap (λ v. v || stands None (flat idle) i p) (ap (λ l. stands None l i p) (sym (runs_nil (flat_all (of_list fs)) ∙ flat_of_list fs)))
    ∙ ap (λ ts. stands (into ts g) (flat ts) i p || stands None (flat (unless_turns fs ts ++ idle)) i p) (sym x.1)

combine_going : (s : Bool) (fs : List Phase) (b : Open) → s ≡ nat_le 2 (size fs) → into fs (into_combine s b).going ≡ into fs b.last
combine_going true fs b e = into_none fs ∙ ap (λ v. if v then None else b.last) e
combine_going false fs b e = refl

-- A block.

block_going : (s : Bool) (ps : List Phase) (b : Open) → s ≡ nat_le 2 (size ps) → (if s then None else (released s b).going) ≡ into ps b.going
block_going true ps b e = ap (λ v. if v then None else b.going) e
block_going false ps b e = ap (λ v. if v then None else b.going) e

-- an open phase goes on only into a straight block
abbrev BlockFits : Bool → ℕ → Type 0
BlockFits true k = Unit {0}
BlockFits false k = k ≤ 1

few_size : (n : ℕ) → false ≡ nat_le 2 n → n ≤ 1
few_size n e = grind (arith, nat_tests, e)

block_fits : (s : Bool) (k m : ℕ) → s ≡ nat_le 2 m → k ≡ m → BlockFits s k
block_fits true k m e f = tt
block_fits false k m e f = subst (λ (n : ℕ). n ≤ 1) (sym f) (few_size m e)

store_count : (s : Site) (value target : Term) → access_count (term_incidents s value ++ target_incidents s target) ≡ term_accesses value + term_accesses target
store_count s value target = count_append (term_incidents s value) (target_incidents s target) ∙ sums _ _ _ _ (term_count s value) (target_count s target)
  where
    sums : (a b c d : ℕ) → a ≡ c → b ≡ d → a + b ≡ c + d
    sums a b c d e f = omega (arith, e, f)

offsets_tell : (q n : ℕ) (round : Option ℕ) (ts : Terms) (k p : ℕ) → tells n (terms_incidents (site_at q round) ts) k p ≡ ((((q == p) && (is_between k n (terms_accesses ts) || false)) || false) || false)
offsets_tell q n round ts k p =
    counted_row q n (terms_accesses ts) (terms_incidents (site_at q round) ts) k p (terms_in (site_at q round) ts) (terms_count (site_at q round) ts) ∙ own_run (q == p) (is_between k n (terms_accesses ts))

max_few : (k l : ℕ) → false ≡ nat_le 2 (max k l) → max k l ≤ 1
max_few k l e = few_size (max k l) e

first_few : (k l : ℕ) → false ≡ nat_le 2 (max k l) → k ≤ 1
first_few k l e = max_first k l (max_few k l e)

second_few : (k l : ℕ) → false ≡ nat_le 2 (max k l) → l ≤ 1
second_few k l e = max_right k l (max_few k l e)

-- Commands.

module _ (f : ℕ → ℕ) where
  mutual
    pub told : (round : Option ℕ) (b : Open) (r : Around) (n : ℕ) (a : Action) (k p : ℕ) → Known f a
        → tells n (incidents f round b a) k p ≡ (stands (into (phases r n a) b.going) (flat (phases r n a)) k p || stands None (flat (idle_phases r n a)) k p)
    told round b r n (action id place form) k p h = form_told round b r n id place form k p h.0 h.1

    form_told : (round : Option ℕ) (b : Open) (r : Around) (n id : ℕ) (place : Place) (form : ActionForm) (k p : ℕ) → f id ≡ form_phase_kind form → KnownInside f form
        → tells n (command_incidents f round b id form) k p ≡ (stands (into (form_phases r n id place form) b.going) (flat (form_phases r n id place form)) k p || stands None (flat (idle_form_phases r n id place form)) k p)
    form_told round b r n id place (lets name declared value) k p e h =
        value_tells (phase_of b id) n (maybe_incidents (site_at (phase_of b id) round) value) name.entity _ k p (maybe_in (site_at (phase_of b id) round) value) (maybe_count (site_at (phase_of b id) round) value)
    form_told round b r n id place (lets_memory name shape shape_places value) k p e h = refl
    form_told round b r n id place (views name parent (shrinks by by_place)) k p e h = refl
    form_told round b r n id place (views name parent (splits by by_place)) k p e h = refl
    form_told round b r n id place (views name parent (suffixes by by_place)) k p e h = offsets_tell (phase_of b id) n round (terms (offsets_of (suffixes by by_place))) k p
    form_told round b r n id place (views name parent (shifts by)) k p e h = offsets_tell (phase_of b id) n round (terms (offsets_of (shifts by))) k p
    form_told round b r n id place (assigns target value) k p e h =
        value_tells (phase_of b id) n (term_incidents (site_at (phase_of b id) round) value) target.entity _ k p (term_in (site_at (phase_of b id) round) value) (term_count (site_at (phase_of b id) round) value)
    form_told round b r n id place (stores target value) k p e h =
        counted_row (phase_of b id) n _ (term_incidents (site_at (phase_of b id) round) value ++ target_incidents (site_at (phase_of b id) round) target) k p
        (all_append (phase_of b id) (term_incidents (site_at (phase_of b id) round) value) _ (term_in (site_at (phase_of b id) round) value) (target_in (site_at (phase_of b id) round) target))
        (store_count (site_at (phase_of b id) round) value target)
        ∙ own_run (phase_of b id == p) (is_between k n (term_accesses value + term_accesses target))
    form_told round b r n id place (reduces target op value) k p e h =
        value_tells (phase_of b id) n (term_incidents (site_at (phase_of b id) round) value) target.entity _ k p (term_in (site_at (phase_of b id) round) value) (term_count (site_at (phase_of b id) round) value)
    form_told round b r n id place (calls function arguments) k p e h = refl
    form_told round b r n id place (blocks body) k p e h =
        parted_tells (are_parts body) begins n _ k p refl
        ∙ (behind_tells (are_parts body) ends n (groups_incidents f round (is_stepped f id) (are_parts body) (released (is_stepped f id) b) body) k p (λ m. refl)
        ∙ (groups_told (is_stepped f id) round (are_parts body) (released (is_stepped f id) b) r n body k p (block_fits (is_stepped f id) (groups_phase_kind body) (size (groups_phases r n body)) (stepped_at f id (groups_phase_kind body) (size (groups_phases r n body)) e (groups_size r n body)) (groups_size r n body)) h
        ∙ ap (λ o. stands o (flat (groups_phases r n body)) k p || stands None (flat (idle_groups_phases r n body)) k p) (block_going (is_stepped f id) (groups_phases r n body) b (stepped_at f id (groups_phase_kind body) (size (groups_phases r n body)) e (groups_size r n body)))))
    form_told round b r n id place (decides test chosen other) k p e h =
        tells_two n (term_accesses test) (term_incidents (site_at (tested (is_stepped f id) b id) round) test) _ k p _ _ (term_count (site_at (tested (is_stepped f id) b id) round) test) (test_tells (tested (is_stepped f id) b id) n round test k p)
        (parted_tells (arms_part round other) begins (n + term_accesses test) _ k p refl
        ∙ tells_two (n + term_accesses test) (accesses_of chosen) (incidents f round (inside_choice (is_stepped f id) (tested (is_stepped f id) b id)) chosen) _ k p _ _ (action_count f round (inside_choice (is_stepped f id) (tested (is_stepped f id) b id)) chosen)
        (told round (inside_choice (is_stepped f id) (tested (is_stepped f id) b id)) (in_arm r id true) (n + term_accesses test) chosen k p h.0)
        (parted_tells (arms_part round other) next (n + term_accesses test + accesses_of chosen) _ k p refl
        ∙ (behind_tells (arms_part round other) ends (n + term_accesses test + accesses_of chosen) (other_incidents f round (inside_choice (is_stepped f id) (tested (is_stepped f id) b id)) other) k p (λ m. refl)
        ∙ other_told round (inside_choice (is_stepped f id) (tested (is_stepped f id) b id)) (in_arm r id false) (n + term_accesses test + accesses_of chosen) other k p h.1)))
        ∙ (five ((tested (is_stepped f id) b id == p) && is_between k n (term_accesses test)) (stands (into (phases (in_arm r id true) (n + term_accesses test) chosen) (inside_choice (is_stepped f id) (tested (is_stepped f id) b id)).going) (flat (phases (in_arm r id true) (n + term_accesses test) chosen)) k p) (stands None (flat (idle_phases (in_arm r id true) (n + term_accesses test) chosen)) k p) (stands (into (other_phases (in_arm r id false) (n + term_accesses test + accesses_of chosen) other) (inside_choice (is_stepped f id) (tested (is_stepped f id) b id)).going) (flat (other_phases (in_arm r id false) (n + term_accesses test + accesses_of chosen) other)) k p) (stands None (flat (idle_other_phases (in_arm r id false) (n + term_accesses test + accesses_of chosen) other)) k p)
        ∙ or_both _ _ _ _
        (choice_stands (is_stepped f id) b (located r n (action id place (decides test chosen other))) id (phases (in_arm r id true) (n + term_accesses test) chosen) (other_phases (in_arm r id false) (n + term_accesses test + accesses_of chosen) other)
        (is_between k n (term_accesses test)) k p
        (choice_straight (phases (in_arm r id true) (n + term_accesses test) chosen) (other_phases (in_arm r id false) (n + term_accesses test + accesses_of chosen) other) (phase_kind chosen) (other_phase_kind other) (stage_size (in_arm r id true) (n + term_accesses test) chosen) (other_size (in_arm r id false) (n + term_accesses test + accesses_of chosen) other) ∙ ap not (sym (stepped_choice (is_stepped f id) (phase_kind chosen) (other_phase_kind other) (ap (nat_le 2) e))))
        refl refl
        (λ z. ap (λ v. is_between k n (term_accesses test) || v) (or_both _ _ _ _ (makes_tops (in_arm r id true) k (n + term_accesses test) chosen (first_few (phase_kind chosen) (other_phase_kind other) (sym z ∙ (stepped_choice (is_stepped f id) (phase_kind chosen) (other_phase_kind other) (ap (nat_le 2) e)))))
        (other_tops (in_arm r id false) k (n + term_accesses test + accesses_of chosen) other (second_few (phase_kind chosen) (other_phase_kind other) (sym z ∙ (stepped_choice (is_stepped f id) (phase_kind chosen) (other_phase_kind other) (ap (nat_le 2) e))))))))
        (idle_append (idle_phases (in_arm r id true) (n + term_accesses test) chosen) (idle_other_phases (in_arm r id false) (n + term_accesses test + accesses_of chosen) other) k p))
    form_told round b r n id place (repeats test body) k p e h =
        tells_two n (term_accesses test) (term_incidents (site_at id round) test) (next ∷ (incidents f round closed body ++ ends ∷ [])) k p _ _ (term_count (site_at id round) test) (test_tells id n round test k p)
        (one_behind ends (n + term_accesses test) (incidents f round closed body) k p (λ m. refl) ∙ (told round closed r (n + term_accesses test) body k p h
        ∙ ap (λ v. v || stands None (flat (idle_phases r (n + term_accesses test) body)) k p) (ap (λ o. stands o (flat (phases r (n + term_accesses test) body)) k p) (into_none (phases r (n + term_accesses test) body))
        ∙ ap (λ l. stands None l k p) (sym (runs_nil (flat_all (of_list (phases r (n + term_accesses test) body))) ∙ flat_of_list (phases r (n + term_accesses test) body))))))
        ∙ sym (or_assoc ((id == p) && is_between k n (term_accesses test)) (stands None (flat_all (of_list (phases r (n + term_accesses test) body)) ++ []) k p) (stands None (flat (idle_phases r (n + term_accesses test) body)) k p))
    form_told round b r n id place (counts iterator declared low high factor body combine combine_place) k p e h =
        tells_two n (accesses_of body) (incidents f (round_inside round id factor.value) closed body) _ k p _ _ (action_count f (round_inside round id factor.value) closed body)
        (told (round_inside round id factor.value) closed (in_loop r (loop_of iterator low high factor)) n body k p h.0)
        (combine_told (round_inside round id factor.value) (open_after f closed body) (in_loop r (loop_of iterator low high factor)) (n + accesses_of body) combine k p h.1)
        ∙ (four (stands (into (phases (in_loop r (loop_of iterator low high factor)) n body) closed.going) (flat (phases (in_loop r (loop_of iterator low high factor)) n body)) k p) (stands None (flat (idle_phases (in_loop r (loop_of iterator low high factor)) n body)) k p) (stands (into (other_phases (in_loop r (loop_of iterator low high factor)) (n + accesses_of body) combine) (open_after f closed body).last) (flat (other_phases (in_loop r (loop_of iterator low high factor)) (n + accesses_of body) combine)) k p) (stands None (flat (idle_other_phases (in_loop r (loop_of iterator low high factor)) (n + accesses_of body) combine)) k p)
        ∙ (or_both _ _ _ _
        (or_both _ _ _ _ (ap (λ o. stands o (flat (phases (in_loop r (loop_of iterator low high factor)) n body)) k p) (into_none (phases (in_loop r (loop_of iterator low high factor)) n body)))
        (ap (λ l. stands (into (other_phases (in_loop r (loop_of iterator low high factor)) (n + accesses_of body) combine) l) (flat (other_phases (in_loop r (loop_of iterator low high factor)) (n + accesses_of body) combine)) k p)
        (ap (λ o. o.last) (after f (in_loop r (loop_of iterator low high factor)) n closed body h.0) ∙ last_opened (phases (in_loop r (loop_of iterator low high factor)) n body)))
        ∙ sym (folded_stands (phases (in_loop r (loop_of iterator low high factor)) n body) (other_phases (in_loop r (loop_of iterator low high factor)) (n + accesses_of body) combine) k p))
        (idle_append (idle_phases (in_loop r (loop_of iterator low high factor)) n body) (idle_other_phases (in_loop r (loop_of iterator low high factor)) (n + accesses_of body) combine) k p)
        ∙ turn_stands b.going (located r n (action id place (counts iterator declared low high factor body combine combine_place))) (turn_count low.value high.value factor.value) (phase_kind body) (other_phase_kind combine) (folded (phases (in_loop r (loop_of iterator low high factor)) n body) (other_phases (in_loop r (loop_of iterator low high factor)) (n + accesses_of body) combine)) (idle_phases (in_loop r (loop_of iterator low high factor)) n body ++ idle_other_phases (in_loop r (loop_of iterator low high factor)) (n + accesses_of body) combine) k p
        (loop_turns (in_loop r (loop_of iterator low high factor)) n (located r n (action id place (counts iterator declared low high factor body combine combine_place))) (turn_count low.value high.value factor.value) body combine)))

    other_told : (round : Option ℕ) (b : Open) (r : Around) (n : ℕ) (o : MaybeAction) (k p : ℕ) → KnownOther f o
        → tells n (other_incidents f round b o) k p ≡ (stands (into (other_phases r n o) b.going) (flat (other_phases r n o)) k p || stands None (flat (idle_other_phases r n o)) k p)
    other_told round b r n no_action k p h = refl
    other_told round b r n (one_action a) k p h = one_behind arm_ends n (incidents f round b a) k p (λ m. refl) ∙ told round b r n a k p h

    combine_told : (round : Option ℕ) (b : Open) (r : Around) (n : ℕ) (o : MaybeAction) (k p : ℕ) → KnownOther f o
        → tells n (combine_incidents f round (open_combine f b o) o) k p ≡ (stands (into (other_phases r n o) b.last) (flat (other_phases r n o)) k p || stands None (flat (idle_other_phases r n o)) k p)
    combine_told round b r n no_action k p h = refl
    combine_told round b r n (one_action (action id place form)) k p h =
        told round (into_combine (is_stepped f id) b) r n (action id place form) k p h
        ∙ ap (λ o. stands o (flat (phases r n (action id place form))) k p || stands None (flat (idle_phases r n (action id place form))) k p)
        (combine_going (is_stepped f id) (phases r n (action id place form)) b (stepped_at f id (form_phase_kind form) (size (phases r n (action id place form))) h.0 (stage_size r n (action id place form))))

    groups_told : (s : Bool) (round : Option ℕ) (parted : Bool) (b : Open) (r : Around) (n : ℕ) (body : Groups) (k p : ℕ) → BlockFits s (groups_phase_kind body) → KnownGroups f body
        → tells n (groups_incidents f round s parted b body) k p ≡ (stands (if s then None else b.going) (flat (groups_phases r n body)) k p || stands None (flat (idle_groups_phases r n body)) k p)
    groups_told s round parted b r n no_groups k p fit h = refl
    groups_told true round parted b r n (group_then part rest) k p fit h =
        tells_two n (part_accesses part) (part_incidents f round (released true b) part) _ k p _ _ (part_count f round (released true b) part) (part_told round (released true b) r n part k p h.0)
        (parted_tells parted next (n + part_accesses part) _ k p refl ∙ groups_told true round parted (part_open f (released true b) part) r (n + part_accesses part) rest k p tt h.1)
        ∙ (four (all_stand None (parts_phases r n part) k p) (stands None (flat (idle_part_phases r n part)) k p) (stands None (flat (groups_phases r (n + part_accesses part) rest)) k p) (stands None (flat (idle_groups_phases r (n + part_accesses part) rest)) k p)
        ∙ or_both _ _ _ _
        (ap (λ v. v || stands None (flat (groups_phases r (n + part_accesses part) rest)) k p) (sym (joined_stands None [] (parts_phases r n part) k p (inl refl))) ∙ idle_append (joined [] (parts_phases r n part)) (groups_phases r (n + part_accesses part) rest) k p)
        (idle_append (idle_part_phases r n part) (idle_groups_phases r (n + part_accesses part) rest) k p))
    groups_told false round parted b r n (group_then part rest) k p fit h =
        tells_two n (part_accesses part) (part_incidents f round b part) _ k p _ _ (part_count f round b part) (part_told round b r n part k p h.0)
        (parted_tells parted next (n + part_accesses part) _ k p refl ∙ groups_told false round parted (part_open f b part) r (n + part_accesses part) rest k p (sum_second (part_phase_kind part) (groups_phase_kind rest) fit) h.1)
        ∙ (four (all_stand b.going (parts_phases r n part) k p) (stands None (flat (idle_part_phases r n part)) k p) (stands (part_open f b part).going (flat (groups_phases r (n + part_accesses part) rest)) k p) (stands None (flat (idle_groups_phases r (n + part_accesses part) rest)) k p)
        ∙ or_both _ _ _ _
        (or_both _ _ _ _
        (sym (joined_stands b.going [] (parts_phases r n part) k p (inr (subst (λ (m : ℕ). m ≤ 1) (part_size r n part) (sum_first (part_phase_kind part) (groups_phase_kind rest) fit)))))
        (ap (λ o. stands o (flat (groups_phases r (n + part_accesses part) rest)) k p)
        (ap (λ o. o.going) (part_straight f r n b part (sum_first (part_phase_kind part) (groups_phase_kind rest) fit) h.0) ∙ going_opened b (joined [] (parts_phases r n part))))
        ∙ sym (beside_stands b.going (joined [] (parts_phases r n part)) (groups_phases r (n + part_accesses part) rest) k p (full_joined [] (parts_phases r n part)) (groups_full r (n + part_accesses part) rest) (few_parts r n part rest fit)))
        (idle_append (idle_part_phases r n part) (idle_groups_phases r (n + part_accesses part) rest) k p))

    part_told : (round : Option ℕ) (b : Open) (r : Around) (n : ℕ) (part : Actions) (k p : ℕ) → KnownPart f part
        → tells n (part_incidents f round b part) k p ≡ (all_stand b.going (parts_phases r n part) k p || stands None (flat (idle_part_phases r n part)) k p)
    part_told round b r n no_actions k p h = refl
    part_told round b r n (action_then a rest) k p h =
        tells_two n (accesses_of a) (incidents f round b a) (part_incidents f round (open_after f b a) rest) k p _ _ (action_count f round b a) (told round b r n a k p h.0)
        (part_told round (open_after f b a) r (n + accesses_of a) rest k p h.1
        ∙ ap (λ o. all_stand o (parts_phases r (n + accesses_of a) rest) k p || stands None (flat (idle_part_phases r (n + accesses_of a) rest)) k p) (ap (λ o. o.going) (after f r n b a h.0) ∙ going_opened b (phases r n a)))
        ∙ (four (stands (into (phases r n a) b.going) (flat (phases r n a)) k p) (stands None (flat (idle_phases r n a)) k p) (all_stand (next_going b.going (phases r n a)) (parts_phases r (n + accesses_of a) rest) k p) (stands None (flat (idle_part_phases r (n + accesses_of a) rest)) k p)
        ∙ ap (λ v. (stands (into (phases r n a) b.going) (flat (phases r n a)) k p || all_stand (next_going b.going (phases r n a)) (parts_phases r (n + accesses_of a) rest) k p) || v) (idle_append (idle_phases r n a) (idle_part_phases r (n + accesses_of a) rest) k p))
