-- The sizes of accesses by what happens, and of whole programs.
use Rattle.std.proofs.Common.{◌≡◌, ℕ, suc, add-one, ◌+◌, ◌-◌, ◌^◌, ◌<◌, ◌≤◌, min, Bool, false, List, [], ◌∷◌, length, drop, map, get_or, refl, ap, sym, ◌∙◌, subst, arith}
use mathlib.Core.Path.{fun_ext}
use Rattle.std.specs.Prelude.{Option, Some, None, slice_get, Vec}
use Rattle.std.specs.Global.{Global}
use Rattle.std.specs.Option.{is_some}
use Rattle.dh_tree.specs.declared.trees.counters.Counter.{Counter}
use Rattle.dh_tree.specs.PlainTrees.{Term, Program}
use Rattle.dh_tree.specs.Numbers.{IsNumbered}
use Rattle.dh_meets.specs.Charges.{loop_factors}
use Rattle.dh_meaning.specs.Paths.{copies_in}
use Rattle.dh_meaning.specs.Ways.{Way, way_to}
use Rattle.dh_meets.specs.FewCopies.{HasFewCopies}
use Rattle.dh_base.specs.Limits.{most_copies}
use Rattle.dh_meets.specs.Sharing.{shared}
use Rattle.dh_meets.specs.SourceEvents.{SourceAccess, accesses_in, trace}
use Rattle.dh_events.specs.declared.events.Event.{Event}
use Rattle.dh_events.specs.declared.events.Site.{Site}
use Rattle.dh_events.specs.Accesses.{loops_listed}
use Rattle.dh_events.specs.Incidents.{PortEvent, touches, assigned, arm_begins, arm_ends, begins, next, ends}
use Rattle.dh_events.specs.Noted.{all_seen, event_seen}
use Rattle.dh_events.specs.Rounds.{rounds_in, rounds_of}
use Rattle.dh_events.proofs.Turns.{at_place}
use Rattle.dh_lengths.specs.SharedReads.{told, TellsShares}
use Rattle.dh_plan.specs.PlanSizes.{accesses_size, access_size, size_reported, action_size}
use Rattle.dh_ports.specs.Claims.{access_of}
use Rattle.dh_ports.specs.Copies.{copies_round}
use Rattle.dh_ports.specs.Layouts.{no_rounds}
use Rattle.dh_ports.specs.Wholes.{happenings_of, loops_known, of_access, sites_in, touched, touched_by, Touched}
use Rattle.dh_ports.proofs.ClaimedBanks.{LeadsAt}
use Rattle.dh_ports.proofs.SitesTold.{tells_loops}
use Rattle.dh_ports.proofs.SpentTold.{IsWhole, whole_is}
use Rattle.dh_size.specs.Sizes.{size_by, sizes_from, EventsHaveFewCopies}
use Rattle.dh_size.specs.Summed.{capped_sum, unit_size}
use Rattle.dh_size.proofs.ChargedBanks.{bare_size, same_access, size_told}
use Rattle.dh_size.proofs.SummedParts.{summed_twice, summed_none, summed_small}
use Rattle.dh_size.proofs.UnitSizes.{unit_once}

absurd : {A : Type 0} → ⊥ → A
absurd e = elim e [ ]

first_same : (x y : Touched) (xs ys : List Touched) → (x ∷ xs) ≡ (y ∷ ys) → x ≡ y
first_same x y xs ys e = cc

rest_same : (x y : Touched) (xs ys : List Touched) → (x ∷ xs) ≡ (y ∷ ys) → xs ≡ ys
rest_same x y xs ys e = cc

some_none : (x : Touched) (xs : List Touched) → (x ∷ xs) ≡ [] → ⊥
some_none x xs e = cc

-- By incidents.

-- the sizes of accesses, told by incidents that touch them, are those of the accesses
pub sizes_told : (p : Program) (shares : List (Option ℕ)) → ((k : ℕ) → told shares k ≡ shared p k) → ((k : ℕ) (a : SourceAccess) → slice_get (accesses_in (trace p)) k ≡ Some a → (w : Way) → way_to p a.entity ≡ Some w → LeadsAt p w a) → (xs : List PortEvent) (those : List SourceAccess) (n : ℕ) → touched xs ≡ map of_access those
    → ((k : ℕ) (s : Site) (a : SourceAccess) → slice_get (sites_in xs) k ≡ Some s → slice_get those k ≡ Some a → loops_known p s.round ≡ a.site.loops)
    → ((k : ℕ) (a : SourceAccess) → slice_get those k ≡ Some a → slice_get (accesses_in (trace p)) (n + k) ≡ Some a)
    → sizes_from p (loops_known p) shares n xs ≡ accesses_size p n those
sizes_told p shares so u [] [] n e l h = refl
sizes_told p shares so u [] (a ∷ those) n e l h = absurd (some_none (of_access a) (map of_access those) (sym e))
sizes_told p shares so u (touches t w s ∷ xs) [] n e l h = absurd (some_none (touched_by t w) (touched xs) e)
sizes_told p shares so u (touches t w s ∷ xs) (a ∷ those) n e l h =
    ap (λ k. k + sizes_from p (loops_known p) shares (suc n) xs)
    (ap (size_by p (is_some (told shares n))) (same_access (loops_known p s.round) t w a (first_same _ _ _ _ e) (l 0 s a refl refl))
    ∙ (bare_size p (is_some (told shares n)) a ∙ size_told p n a (stands_here n a h) (u n a (stands_here n a h)) (is_some (told shares n)) (ap is_some (so n))))
    ∙ ap (λ k. access_size p n a + k) (sizes_told p shares so u xs those (suc n) (rest_same _ _ _ _ e) (λ k z b f g. l (suc k) z b f g) (λ k b f. ap (λ i. slice_get (accesses_in (trace p)) i) (behind n k) ∙ h (suc k) b f))
  where
    here : (n : ℕ) → n ≡ n + 0
    here n = omega arith

    stands_here : (n : ℕ) (a : SourceAccess) → ((k : ℕ) (b : SourceAccess) → slice_get (a ∷ those) k ≡ Some b → slice_get (accesses_in (trace p)) (n + k) ≡ Some b) → slice_get (accesses_in (trace p)) n ≡ Some a
    stands_here n a h = ap (λ k. slice_get (accesses_in (trace p)) k) (here n) ∙ h 0 a refl

    behind : (n k : ℕ) → suc n + k ≡ n + suc k
    behind n k = omega arith
sizes_told p shares so u (assigned entity ∷ xs) those n e l h = sizes_told p shares so u xs those n e l h
sizes_told p shares so u (arm_begins ∷ xs) those n e l h = sizes_told p shares so u xs those n e l h
sizes_told p shares so u (arm_ends ∷ xs) those n e l h = sizes_told p shares so u xs those n e l h
sizes_told p shares so u (begins ∷ xs) those n e l h = sizes_told p shares so u xs those n e l h
sizes_told p shares so u (next ∷ xs) those n e l h = sizes_told p shares so u xs those n e l h
sizes_told p shares so u (ends ∷ xs) those n e l h = sizes_told p shares so u xs those n e l h

pub few_told : (p : Program) (xs : List PortEvent) (those : List SourceAccess) → touched xs ≡ map of_access those
    → ((k : ℕ) (s : Site) (a : SourceAccess) → slice_get (sites_in xs) k ≡ Some s → slice_get those k ≡ Some a → loops_known p s.round ≡ a.site.loops)
    → ((k : ℕ) (a : SourceAccess) → slice_get those k ≡ Some a → copies_in (loop_factors a.site.loops) ≤ most_copies) → EventsHaveFewCopies (loops_known p) xs
few_told p [] those e l h = tt
few_told p (touches t w s ∷ xs) [] e l h = absurd (some_none (touched_by t w) (touched xs) e)
few_told p (touches t w s ∷ xs) (a ∷ those) e l h = (
  subst (λ (ls : List Counter). copies_round ls ≤ most_copies) (sym (l 0 s a refl refl)) (h 0 a refl),
  few_told p xs those (rest_same _ _ _ _ e) (λ k z b f g. l (suc k) z b f g) (λ k b f. h (suc k) b f),
)
few_told p (assigned entity ∷ xs) those e l h = few_told p xs those e l h
few_told p (arm_begins ∷ xs) those e l h = few_told p xs those e l h
few_told p (arm_ends ∷ xs) those e l h = few_told p xs those e l h
few_told p (begins ∷ xs) those e l h = few_told p xs those e l h
few_told p (next ∷ xs) those e l h = few_told p xs those e l h
few_told p (ends ∷ xs) those e l h = few_told p xs those e l h

-- the loops that are noted
pub noted_loops : (p : Program) (rounds : List (Vec Counter Global)) → rounds_of rounds ≡ rounds_in [] p.body no_rounds → ◌≡◌ {A = Option ℕ → List Counter} (loops_listed rounds) (loops_known p)
noted_loops p rounds e = fun_ext each
  where
    each : (o : Option ℕ) → loops_listed rounds o ≡ loops_known p o
    each None = refl
    each (Some id) = ap (λ (f : ℕ → List Counter). f id) e

-- Of a whole program.
module _ (p : Program) (first : ℕ) (numbers : IsNumbered first p.body) (rounds : List (Vec Counter Global)) (noted : rounds_of rounds ≡ rounds_in [] p.body no_rounds) (events : List Event) (seen : all_seen events ≡ happenings_of p) where
  whole : IsWhole p (all_seen events)
  whole = whole_is p (all_seen events) (tells_loops first p numbers) seen

  pub events_few : HasFewCopies p → EventsHaveFewCopies (loops_listed rounds) (all_seen events)
  events_few few = subst (λ (f : Option ℕ → List Counter). EventsHaveFewCopies f (all_seen events)) (sym (noted_loops p rounds noted)) (few_told p (all_seen events) (accesses_in (trace p)) whole.touched_all whole.loops few)

  pub events_sized : (shares : List (Option ℕ)) → ((k : ℕ) (a : SourceAccess) → slice_get (accesses_in (trace p)) k ≡ Some a → (w : Way) → way_to p a.entity ≡ Some w → LeadsAt p w a) → TellsShares p shares → sizes_from p (loops_listed rounds) shares 0 (all_seen events) ≡ accesses_size p 0 (accesses_in (trace p))
  events_sized shares u so =
      ap (λ (f : Option ℕ → List Counter). sizes_from p f shares 0 (all_seen events)) (noted_loops p rounds noted)
      ∙ sizes_told p shares so.all u (all_seen events) (accesses_in (trace p)) 0 whole.touched_all whole.loops (λ k a e. ap (λ n. slice_get (accesses_in (trace p)) n) (from_none k) ∙ e)
    where
      from_none : (k : ℕ) → 0 + k ≡ k
      from_none k = omega arith

-- the size that is reported, by sums that stop at the greatest number
pub size_done : (p : Program) (sizes accesses whole result : ℕ) → accesses ≡ capped_sum 0 sizes → sizes ≡ accesses_size p 0 (accesses_in (trace p)) → whole ≡ capped_sum accesses (unit_size p.body) → result ≡ min whole 1000000000 → result ≡ size_reported p
size_done p sizes accesses whole result e f g h =
    h
    ∙ (ap (λ n. min n 1000000000) (g ∙ (ap (λ n. capped_sum n (unit_size p.body)) e ∙ summed_twice 0 sizes (unit_size p.body)))
    ∙ (cut_again (0 + (sizes + unit_size p.body))
    ∙ ap (λ n. min n 1000000000) (swapped sizes (unit_size p.body) ∙ (ap (λ n. n + sizes) (sym (unit_once p.body)) ∙ ap (λ n. action_size 1 p.body + n) f))))
  where
    cut_again : (n : ℕ) → min (min n (2 ^ 64 - 1)) 1000000000 ≡ min n 1000000000
    cut_again n = omega arith

    swapped : (a b : ℕ) → 0 + (a + b) ≡ b + a
    swapped a b = omega arith

-- By events.

-- the sum so far, and what is left of the events
pub record SizesLeft (p : Program) (loops : Option ℕ → List Counter) (shares : List (Option ℕ)) (left all : List Event) (sum number : ℕ) : Type 0 where
  pub fits : sum ≤ 2 ^ 64 - 1
  pub few : EventsHaveFewCopies loops (all_seen left)
  pub summed_so : capped_sum sum (sizes_from p loops shares number (all_seen left)) ≡ capped_sum 0 (sizes_from p loops shares 0 (all_seen all))

pub sizes_first : (p : Program) (loops : Option ℕ → List Counter) (shares : List (Option ℕ)) (all : List Event) → EventsHaveFewCopies loops (all_seen all) → SizesLeft p loops shares all all 0 0
sizes_first p loops shares all few = record { fits = omega arith; few = few; summed_so = refl }

pub sizes_last : (p : Program) (loops : Option ℕ → List Counter) (shares : List (Option ℕ)) (left all : List Event) (sum number : ℕ) → left ≡ [] → SizesLeft p loops shares left all sum number
    → sum ≡ capped_sum 0 (sizes_from p loops shares 0 (all_seen all))
sizes_last p loops shares left all sum number none l = sym (summed_none sum l.fits) ∙ (ap (λ es. capped_sum sum (sizes_from p loops shares number (all_seen es))) (sym none) ∙ l.summed_so)

module _ (p : Program) (loops : Option ℕ → List Counter) (shares : List (Option ℕ)) (all : List Event) (i : ℕ) (d : Event) (inside : i < length all) (sum number : ℕ) (l : SizesLeft p loops shares (drop i all) all sum number) where
  here : drop i all ≡ get_or all i d ∷ drop (i + 1) all
  here = at_place all i d inside

  seen_here : (x : PortEvent) → event_seen (get_or all i d) ≡ x → all_seen (drop i all) ≡ x ∷ all_seen (drop (i + 1) all)
  seen_here x e = ap all_seen here ∙ ap (λ y. y ∷ all_seen (drop (i + 1) all)) e

  pub few_here : (t : Term) (w : Bool) (s : Site) → event_seen (get_or all i d) ≡ touches t w s → copies_round (loops s.round) ≤ most_copies
  few_here t w s e = (subst (λ (xs : List PortEvent). EventsHaveFewCopies loops xs) (seen_here (touches t w s) e) l.few).0

  pub touch_turn : (t : Term) (w : Bool) (s : Site) (size sum1 number1 : ℕ) → event_seen (get_or all i d) ≡ touches t w s → size ≡ size_by p (is_some (told shares number)) (access_of (loops s.round) false t) → sum1 ≡ min (sum + size) (2 ^ 64 - 1) → number1 ≡ number + 1
      → SizesLeft p loops shares (drop (i + 1) all) all sum1 number1
  touch_turn t w s size sum1 number1 e sized added next_is = record {
    fits = subst (λ (n : ℕ). n ≤ 2 ^ 64 - 1) (sym added) (summed_small sum size);
    few = (subst (λ (xs : List PortEvent). EventsHaveFewCopies loops xs) (seen_here (touches t w s) e) l.few).1;
    summed_so =
        ap (λ n. capped_sum sum1 (sizes_from p loops shares n (all_seen (drop (i + 1) all)))) (next_is ∙ add-one number)
        ∙ (ap (λ n. capped_sum n (sizes_from p loops shares (suc number) (all_seen (drop (i + 1) all)))) added
        ∙ (summed_twice sum size (sizes_from p loops shares (suc number) (all_seen (drop (i + 1) all)))
        ∙ (ap (λ n. capped_sum sum (n + sizes_from p loops shares (suc number) (all_seen (drop (i + 1) all)))) sized
        ∙ (ap (λ xs. capped_sum sum (sizes_from p loops shares number xs)) (sym (seen_here (touches t w s) e)) ∙ l.summed_so))));
  }

  -- an event that is no access
  pub other_turn : (x : PortEvent) (sum1 number1 : ℕ) → event_seen (get_or all i d) ≡ x → (EventsHaveFewCopies loops (x ∷ all_seen (drop (i + 1) all)) → EventsHaveFewCopies loops (all_seen (drop (i + 1) all)))
      → sizes_from p loops shares number (all_seen (drop (i + 1) all)) ≡ sizes_from p loops shares number (x ∷ all_seen (drop (i + 1) all)) → sum1 ≡ sum → number1 ≡ number → SizesLeft p loops shares (drop (i + 1) all) all sum1 number1
  other_turn x sum1 number1 e few same sum_is number_is =
      subst (λ (n : ℕ). SizesLeft p loops shares (drop (i + 1) all) all n number1) (sym sum_is)
      (subst (λ (n : ℕ). SizesLeft p loops shares (drop (i + 1) all) all sum n) (sym number_is) (record {
        fits = l.fits;
        few = few (subst (λ (xs : List PortEvent). EventsHaveFewCopies loops xs) (seen_here x e) l.few);
        summed_so = ap (capped_sum sum) same ∙ (ap (λ xs. capped_sum sum (sizes_from p loops shares number xs)) (sym (seen_here x e)) ∙ l.summed_so);
      }))

pub number_more : (number i number1 : ℕ) → number ≤ i → number1 ≡ number + 1 → number1 ≤ i + 1
number_more number i number1 e f = omega (arith, e, f)

pub number_same : (number i number1 : ℕ) → number ≤ i → number1 ≡ number → number1 ≤ i + 1
number_same number i number1 e f = omega (arith, e, f)
