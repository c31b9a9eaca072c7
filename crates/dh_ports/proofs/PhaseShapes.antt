-- How many phases lists of phases are (none, one Straight phase, or others), which phase is open behind them,
-- and where accesses stand in the phases that are joined from those of parts.
use Rattle.std.proofs.Common.{◌≡◌, ℕ, ◌+◌, ◌≤◌, ◌==◌, ◌&&◌, ◌||◌, nat_le, not, Bool, true, false, if◌then◌else◌, List, [], ◌∷◌, ◌++◌, min, max, ◌⊎◌, inl, inr, refl, ap, sym, ◌∙◌, subst, arith}
use Rattle.std.specs.Prelude.{Option, Some, None}
use Rattle.std.proofs.lemmas.List.Folds.{list_any-append}
use Rattle.dh_meaning.specs.OnePhase.{makes, any_makes}
use Rattle.dh_meaning.specs.Phases.{Located, Phase, straight, turns, repeated, decided, one_straight, joined, are_straight, folded}
use Rattle.dh_events.specs.declared.noting.Open.{Open}
use Rattle.dh_events.specs.Incidents.{phase_at, open_phases, open_at, closed}
use Rattle.dh_ports.proofs.PhaseRuns.{tag_of, stands, times, straight_run, flat_one, flat, or_none, or_assoc, or_both, runs_nil, flat_append, flat_straight, stands_append, times_append}

-- none, one Straight phase, or others
abbrev pub some_straight : List Located → ℕ
some_straight [] = 0
some_straight (c ∷ cs) = 1

abbrev pub size : List Phase → ℕ
size [] = 0
size (straight cs ∷ []) = some_straight cs
size (turns loop count body ∷ []) = 2
size (repeated loop body ∷ []) = 2
size (decided choice chosen other ∷ []) = 2
size (p ∷ q ∷ ps) = 2

abbrev pub most : List (List Phase) → ℕ
most [] = 0
most (ps ∷ pss) = max (size ps) (most pss)

-- one Straight phase has commands
abbrev pub FullStraight : List Located → Type 0
FullStraight [] = ⊥
FullStraight (c ∷ cs) = Unit {0}

abbrev pub IsFull : List Phase → Type 0
IsFull [] = Unit {0}
IsFull (straight cs ∷ []) = FullStraight cs
IsFull (turns loop count body ∷ []) = Unit {0}
IsFull (repeated loop body ∷ []) = Unit {0}
IsFull (decided choice chosen other ∷ []) = Unit {0}
IsFull (p ∷ q ∷ ps) = Unit {0}

pub data Shaped (k : ℕ) (ps : List Phase) : Type 0 where
  no_phase : k ≡ 0 → ps ≡ [] → Shaped k ps
  one_phase : (d : Located) → (ds : List Located) → k ≡ 1 → ps ≡ straight (d ∷ ds) ∷ [] → Shaped k ps
  more_phases : k ≡ 2 → are_straight ps ≡ false → Shaped k ps

pub shape : (ps : List Phase) → IsFull ps → Shaped (size ps) ps
shape [] h = no_phase refl refl
shape (straight [] ∷ []) h = absurd h
shape (straight (c ∷ cs) ∷ []) h = one_phase c cs refl refl
shape (turns loop count body ∷ []) h = more_phases refl refl
shape (repeated loop body ∷ []) h = more_phases refl refl
shape (decided choice chosen other ∷ []) h = more_phases refl refl
shape (p ∷ q ∷ ps) h = more_phases refl refl

pub straight_size : (ps : List Phase) → are_straight ps ≡ not (nat_le 2 (size ps))
straight_size [] = refl
straight_size (straight [] ∷ []) = refl
straight_size (straight (c ∷ cs) ∷ []) = refl
straight_size (turns loop count body ∷ []) = refl
straight_size (repeated loop body ∷ []) = refl
straight_size (decided choice chosen other ∷ []) = refl
straight_size (p ∷ q ∷ ps) = refl

some_few : (cs : List Located) → some_straight cs ≤ 1
some_few [] = omega arith
some_few (c ∷ cs) = omega arith

pub size_few : (ps : List Phase) → size ps ≤ 2
size_few [] = omega arith
size_few (straight cs ∷ []) = let h = some_few cs in omega (arith, h)
size_few (turns loop count body ∷ []) = omega arith
size_few (repeated loop body ∷ []) = omega arith
size_few (decided choice chosen other ∷ []) = omega arith
size_few (p ∷ q ∷ ps) = omega arith

max_few : (a b : ℕ) → a ≤ 2 → b ≤ 2 → max a b ≤ 2
max_few a b e f = grind (arith, e, f)

most_few : (pss : List (List Phase)) → most pss ≤ 2
most_few [] = omega arith
most_few (ps ∷ pss) = max_few (size ps) (most pss) (size_few ps) (most_few pss)

-- Sizes of joined phases.

size_two : (xs : List Located) (p : Phase) (ys : List Phase) → size (p ∷ []) ≡ 2 → size (one_straight xs ++ (p ∷ ys)) ≡ 2
size_two [] p [] e = e
size_two [] p (y ∷ ys) e = refl
size_two (x ∷ xs) p ys e = refl

size_more : (xs : List Located) (p q : Phase) (ys : List Phase) → size (one_straight xs ++ (p ∷ q ∷ ys)) ≡ 2
size_more [] p q ys = refl
size_more (x ∷ xs) p q ys = refl

max_two : (a b : ℕ) → a ≤ 1 → b ≤ 2 → max a (max 2 b) ≡ 2
max_two a b e f = grind (arith, e, f)

max_none : (a : ℕ) → a ≡ max a 0
max_none a = grind arith

none_max : (a b : ℕ) → max a b ≡ max a (max 0 b)
none_max a b = grind arith

size_one : (cs : List Located) → size (one_straight cs) ≡ max (some_straight cs) 0
size_one [] = refl
size_one (c ∷ cs) = refl

some_more : (cs ds : List Located) (m : ℕ) → max (some_straight (cs ++ ds)) m ≡ max (some_straight cs) (max (some_straight ds) m)
some_more [] ds m = grind arith
some_more (c ∷ cs) [] m = grind arith
some_more (c ∷ cs) (d ∷ ds) m = grind arith

pub size_joined : (cs : List Located) (pss : List (List Phase)) → size (joined cs pss) ≡ max (some_straight cs) (most pss)
size_joined cs [] = size_one cs
size_joined cs ([] ∷ parts) = size_joined cs parts ∙ none_max (some_straight cs) (most parts)
size_joined cs ((straight ds ∷ []) ∷ parts) = size_joined (cs ++ ds) parts ∙ some_more cs ds (most parts)
size_joined cs ((turns loop count body ∷ []) ∷ parts) = size_two cs (turns loop count body) (joined [] parts) refl ∙ sym (max_two (some_straight cs) (most parts) (some_few cs) (most_few parts))
size_joined cs ((repeated loop body ∷ []) ∷ parts) = size_two cs (repeated loop body) (joined [] parts) refl ∙ sym (max_two (some_straight cs) (most parts) (some_few cs) (most_few parts))
size_joined cs ((decided choice chosen other ∷ []) ∷ parts) = size_two cs (decided choice chosen other) (joined [] parts) refl ∙ sym (max_two (some_straight cs) (most parts) (some_few cs) (most_few parts))
size_joined cs ((p ∷ q ∷ ps) ∷ parts) = size_more cs p q (ps ++ joined [] parts) ∙ sym (max_two (some_straight cs) (most parts) (some_few cs) (most_few parts))

full_two : (xs : List Located) (p : Phase) (ys : List Phase) → IsFull (p ∷ []) → IsFull (one_straight xs ++ (p ∷ ys))
full_two [] p [] h = h
full_two [] p (y ∷ ys) h = tt
full_two (x ∷ xs) p ys h = tt

full_one : (cs : List Located) → IsFull (one_straight cs)
full_one [] = tt
full_one (c ∷ cs) = tt

full_more : (xs : List Located) (p q : Phase) (ys : List Phase) → IsFull (one_straight xs ++ (p ∷ q ∷ ys))
full_more [] p q ys = tt
full_more (x ∷ xs) p q ys = tt

pub full_joined : (cs : List Located) (pss : List (List Phase)) → IsFull (joined cs pss)
full_joined cs [] = full_one cs
full_joined cs ([] ∷ parts) = full_joined cs parts
full_joined cs ((straight ds ∷ []) ∷ parts) = full_joined (cs ++ ds) parts
full_joined cs ((turns loop count body ∷ []) ∷ parts) = full_two cs (turns loop count body) (joined [] parts) tt
full_joined cs ((repeated loop body ∷ []) ∷ parts) = full_two cs (repeated loop body) (joined [] parts) tt
full_joined cs ((decided choice chosen other ∷ []) ∷ parts) = full_two cs (decided choice chosen other) (joined [] parts) tt
full_joined cs ((p ∷ q ∷ ps) ∷ parts) = full_more cs p q (ps ++ joined [] parts)

-- of the parts of a block

two_more : (n : ℕ) → 1 ≤ n → 2 ≡ min 2 (1 + n)
two_more n e = grind (arith, e)

two_two : (n : ℕ) → 2 ≡ min 2 (2 + n)
two_two n = grind arith

pub some_size : (y : Phase) (ys : List Phase) → IsFull (y ∷ ys) → 1 ≤ size (y ∷ ys)
some_size (straight []) [] h = absurd h
some_size (straight (c ∷ cs)) [] h = omega arith
some_size (turns loop count body) [] h = omega arith
some_size (repeated loop body) [] h = omega arith
some_size (decided choice chosen other) [] h = omega arith
some_size y (z ∷ ys) h = omega arith

size_itself : (n : ℕ) → n ≤ 2 → n ≡ min 2 (0 + n)
size_itself n e = grind (arith, e)

size_none : (n : ℕ) → n ≤ 2 → n ≡ min 2 (n + 0)
size_none n e = grind (arith, e)

nothing_more : (xs : List Phase) → xs ++ [] ≡ xs
nothing_more [] = refl
nothing_more (x ∷ xs) = ap (λ l. x ∷ l) (nothing_more xs)

pub size_append : (xs ys : List Phase) → IsFull xs → IsFull ys → size (xs ++ ys) ≡ min 2 (size xs + size ys)
size_append [] ys g h = size_itself (size ys) (size_few ys)
size_append (x ∷ xs) [] g h = ap size (nothing_more (x ∷ xs)) ∙ size_none (size (x ∷ xs)) (size_few (x ∷ xs))
size_append (straight [] ∷ []) (y ∷ ys) g h = absurd g
size_append (straight (c ∷ cs) ∷ []) (y ∷ ys) g h = two_more (size (y ∷ ys)) (some_size y ys h)
size_append (turns loop count body ∷ []) (y ∷ ys) g h = two_two (size (y ∷ ys))
size_append (repeated loop body ∷ []) (y ∷ ys) g h = two_two (size (y ∷ ys))
size_append (decided choice chosen other ∷ []) (y ∷ ys) g h = two_two (size (y ∷ ys))
size_append (x ∷ z ∷ xs) (y ∷ ys) g h = two_two (size (y ∷ ys))

pub full_append : (xs ys : List Phase) → IsFull xs → IsFull ys → IsFull (xs ++ ys)
full_append [] ys g h = h
full_append (x ∷ []) [] g h = g
full_append (x ∷ []) (y ∷ ys) g h = tt
full_append (x ∷ z ∷ xs) ys g h = tt

-- Open phases.

-- the number of the run that is open behind commands
abbrev pub behind_all : Option ℕ → List Located → Option ℕ
behind_all g [] = g
behind_all g (c ∷ cs) = Some (phase_at g (tag_of c))

abbrev pub last_one : Phase → Option ℕ
last_one (straight cs) = behind_all None cs
last_one (turns loop count body) = None
last_one (repeated loop body) = None
last_one (decided choice chosen other) = None

-- the last phase, where it is Straight
abbrev pub last_behind : Option ℕ → List Phase → Option ℕ
last_behind l [] = l
last_behind l (p ∷ ps) = last_behind (last_one p) ps

abbrev pub opened_straight : Open → List Located → Open
opened_straight b [] = b
opened_straight b (c ∷ cs) = open_at (Some (phase_at b.going (tag_of c)))

-- what is open behind phases
abbrev pub opened : Open → List Phase → Open
opened b [] = b
opened b (straight cs ∷ []) = opened_straight b cs
opened b (turns loop count body ∷ []) = closed
opened b (repeated loop body ∷ []) = closed
opened b (decided choice chosen other ∷ []) = closed
opened b (p ∷ q ∷ ps) = open_phases None (last_behind None (q ∷ ps))

abbrev pub opened_all : Open → List (List Phase) → Open
opened_all b [] = b
opened_all b (ps ∷ pss) = opened_all (opened b ps) pss

-- the phase that goes on behind phases
abbrev pub next_going : Option ℕ → List Phase → Option ℕ
next_going g [] = g
next_going g (straight cs ∷ []) = behind_all g cs
next_going g (turns loop count body ∷ []) = None
next_going g (repeated loop body ∷ []) = None
next_going g (decided choice chosen other ∷ []) = None
next_going g (p ∷ q ∷ ps) = None

straight_going : (b : Open) (cs : List Located) → (opened_straight b cs).going ≡ behind_all b.going cs
straight_going b [] = refl
straight_going b (c ∷ cs) = refl

pub going_opened : (b : Open) (ps : List Phase) → (opened b ps).going ≡ next_going b.going ps
going_opened b [] = refl
going_opened b (straight cs ∷ []) = straight_going b cs
going_opened b (turns loop count body ∷ []) = refl
going_opened b (repeated loop body ∷ []) = refl
going_opened b (decided choice chosen other ∷ []) = refl
going_opened b (p ∷ q ∷ ps) = refl

straight_more : (b : Open) (cs ds : List Located) → opened_straight (opened_straight b cs) ds ≡ opened_straight b (cs ++ ds)
straight_more b [] ds = refl
straight_more b (c ∷ cs) [] = refl
straight_more b (c ∷ cs) (d ∷ ds) = refl

opened_one : (b : Open) (cs : List Located) → opened_straight b cs ≡ opened b (one_straight cs)
opened_one b [] = refl
opened_one b (c ∷ cs) = refl

max_left : (k l : ℕ) → max k l ≤ 1 → k ≤ 1
max_left k l e = grind (arith, e)

pub max_right : (k l : ℕ) → max k l ≤ 1 → l ≤ 1
max_right k l e = grind (arith, e)

two_one : 2 ≤ 1 → ⊥
two_one e = omega (arith, e)

-- two parts that both have phases
pub two_sum : (m n : ℕ) → 1 ≤ m → 1 ≤ n → min 2 (m + n) ≤ 1 → ⊥
two_sum m n e f h = let x : 2 ≤ min 2 (m + n) = large m n e f in omega (arith, x, h)
  where
    large : (m n : ℕ) → 1 ≤ m → 1 ≤ n → 2 ≤ min 2 (m + n)
    large m n e f = grind (arith, e, f)

-- behind straight parts
pub opened_joined : (b : Open) (cs : List Located) (pss : List (List Phase)) → most pss ≤ 1 → opened_all (opened_straight b cs) pss ≡ opened b (joined cs pss)
opened_joined b cs [] h = opened_one b cs
opened_joined b cs ([] ∷ parts) h = opened_joined b cs parts (max_right 0 (most parts) h)
opened_joined b cs ((straight ds ∷ []) ∷ parts) h = ap (λ c. opened_all c parts) (straight_more b cs ds) ∙ opened_joined b (cs ++ ds) parts (max_right (some_straight ds) (most parts) h)
opened_joined b cs ((turns loop count body ∷ []) ∷ parts) h = absurd (two_one (max_left 2 (most parts) h))
opened_joined b cs ((repeated loop body ∷ []) ∷ parts) h = absurd (two_one (max_left 2 (most parts) h))
opened_joined b cs ((decided choice chosen other ∷ []) ∷ parts) h = absurd (two_one (max_left 2 (most parts) h))
opened_joined b cs ((p ∷ q ∷ ps) ∷ parts) h = absurd (two_one (max_left 2 (most parts) h))

pub last_append : (l : Option ℕ) (xs ys : List Phase) → last_behind l (xs ++ ys) ≡ last_behind (last_behind l xs) ys
last_append l [] ys = refl
last_append l (x ∷ xs) ys = last_append (last_one x) xs ys

last_straight : (l : Option ℕ) (cs : List Located) → (opened_straight (open_phases None l) cs).last ≡ last_behind l (one_straight cs)
last_straight l [] = refl
last_straight l (c ∷ cs) = refl

last_stepped : (l : Option ℕ) (cs : List Located) (p : Phase) (ys : List Phase) → last_behind l (one_straight cs ++ (p ∷ ys)) ≡ last_behind (last_one p) ys
last_stepped l cs p ys = last_append l (one_straight cs) (p ∷ ys)

-- behind parts of which none goes on with an open phase
pub last_joined : (l : Option ℕ) (cs : List Located) (pss : List (List Phase)) → (opened_all (opened_straight (open_phases None l) cs) pss).last ≡ last_behind l (joined cs pss)
last_joined l cs [] = last_straight l cs
last_joined l cs ([] ∷ parts) = last_joined l cs parts
last_joined l cs ((straight ds ∷ []) ∷ parts) = ap (λ c. (opened_all c parts).last) (straight_more (open_phases None l) cs ds) ∙ last_joined l (cs ++ ds) parts
last_joined l cs ((turns loop count body ∷ []) ∷ parts) = last_joined None [] parts ∙ sym (last_stepped l cs (turns loop count body) (joined [] parts))
last_joined l cs ((repeated loop body ∷ []) ∷ parts) = last_joined None [] parts ∙ sym (last_stepped l cs (repeated loop body) (joined [] parts))
last_joined l cs ((decided choice chosen other ∷ []) ∷ parts) = last_joined None [] parts ∙ sym (last_stepped l cs (decided choice chosen other) (joined [] parts))
last_joined l cs ((p ∷ q ∷ ps) ∷ parts) =
    last_joined (last_behind None (q ∷ ps)) [] parts
    ∙ (sym (last_append (last_one q) ps (joined [] parts)) ∙ sym (last_stepped l cs p (q ∷ (ps ++ joined [] parts))))

pub opened_more : (b : Open) (l : Option ℕ) (ps : List Phase) → are_straight ps ≡ false → open_phases None (last_behind l ps) ≡ opened b ps
opened_more b l [] e = absurd cc
opened_more b l (straight cs ∷ []) e = absurd cc
opened_more b l (turns loop count body ∷ []) e = refl
opened_more b l (repeated loop body ∷ []) e = refl
opened_more b l (decided choice chosen other ∷ []) e = refl
opened_more b l (p ∷ q ∷ ps) e = refl

pub last_opened : (ps : List Phase) → (opened closed ps).last ≡ last_behind None ps
last_opened [] = refl
last_opened (straight [] ∷ []) = refl
last_opened (straight (c ∷ cs) ∷ []) = refl
last_opened (turns loop count body ∷ []) = refl
last_opened (repeated loop body ∷ []) = refl
last_opened (decided choice chosen other ∷ []) = refl
last_opened (p ∷ q ∷ ps) = refl

-- two parts of a block that is straight
pub opened_beside : (b : Open) (xs ys : List Phase) → IsFull xs → IsFull ys → min 2 (size xs + size ys) ≤ 1 → opened (opened b xs) ys ≡ opened b (xs ++ ys)
opened_beside b [] ys f g h = refl
opened_beside b (x ∷ xs) [] f g h = ap (opened b) (sym (nothing_more (x ∷ xs)))
opened_beside b (x ∷ xs) (y ∷ ys) f g h = absurd (two_sum (size (x ∷ xs)) (size (y ∷ ys)) (some_size x xs f) (some_size y ys g) h)

-- Where accesses stand.

-- no phase goes on into phases that are more than one Straight phase
abbrev pub into : List Phase → Option ℕ → Option ℕ
into ps g = if nat_le 2 (size ps) then None else g

pub into_none : (ps : List Phase) → into ps None ≡ None
into_none ps = same (nat_le 2 (size ps)) None
  where
    same : (b : Bool) (o : Option ℕ) → (if b then o else o) ≡ o
    same true o = refl
    same false o = refl

abbrev pub all_stand : Option ℕ → List (List Phase) → (k p : ℕ) → Bool
all_stand g [] k p = false
all_stand g (ps ∷ pss) k p = stands (into ps g) (flat ps) k p || all_stand (next_going g ps) pss k p

-- an open phase goes on only into straight parts
abbrev pub Fits : Option ℕ → List (List Phase) → Type 0
Fits o pss = (o ≡ None) ⊎ (most pss ≤ 1)

fits_rest : (o : Option ℕ) (ps : List Phase) (pss : List (List Phase)) → Fits o (ps ∷ pss) → Fits o pss
fits_rest o ps pss (inl e) = inl e
fits_rest o ps pss (inr h) = inr (max_right (size ps) (most pss) h)

fits_none : (o : Option ℕ) (ps : List Phase) (pss : List (List Phase)) → size ps ≡ 2 → Fits o (ps ∷ pss) → o ≡ None
fits_none o ps pss e (inl f) = f
fits_none o ps pss e (inr h) = absurd (too_many (size ps) e (max_left (size ps) (most pss) h))
  where
    too_many : (n : ℕ) → n ≡ 2 → n ≤ 1 → ⊥
    too_many n e f = omega (arith, e, f)

split_run : (b a c x : Bool) → ((b && (a || c)) || false) || x ≡ (((b && a) || false) || (((b && c) || false) || x))
split_run true true c x = refl
split_run true false c x = refl
split_run false a c x = refl

same_run : (b a x : Bool) → ((b && (a || false)) || false) || x ≡ (((b && a) || false) || (false || x))
same_run true true x = refl
same_run true false x = refl
same_run false a x = refl

more_run : (o : Option ℕ) (cs ds : List Located) (parts : List (List Phase)) (k p : ℕ)
    → (stands o (straight_run (cs ++ ds)) k p || all_stand (behind_all o (cs ++ ds)) parts k p)
    ≡ (stands o (straight_run cs) k p || (stands (behind_all o cs) (flat (straight ds ∷ [])) k p || all_stand (behind_all (behind_all o cs) ds) parts k p))
more_run o [] [] parts k p = refl
more_run o [] (d ∷ ds) parts k p = refl
more_run o (c ∷ cs) [] parts k p =
    ap (λ b. (((phase_at o (tag_of c) == p) && b) || false) || all_stand (Some (phase_at o (tag_of c))) parts k p) (list_any-append (λ c. makes k c.first c.command) (c ∷ cs) [])
    ∙ same_run (phase_at o (tag_of c) == p) (any_makes k (c ∷ cs)) (all_stand (Some (phase_at o (tag_of c))) parts k p)
more_run o (c ∷ cs) (d ∷ ds) parts k p =
    ap (λ b. (((phase_at o (tag_of c) == p) && b) || false) || all_stand (Some (phase_at o (tag_of c))) parts k p) (list_any-append (λ c. makes k c.first c.command) (c ∷ cs) (d ∷ ds))
    ∙ split_run (phase_at o (tag_of c) == p) (any_makes k (c ∷ cs)) (any_makes k (d ∷ ds)) (all_stand (Some (phase_at o (tag_of c))) parts k p)

stepped_stands : (o : Option ℕ) (cs : List Located) (ps rest : List Phase) (k p : ℕ) (x : Bool) → o ≡ None → stands None (flat rest) k p ≡ x
    → stands o (flat (one_straight cs ++ (ps ++ rest))) k p ≡ (stands o (straight_run cs) k p || (stands None (flat ps) k p || x))
stepped_stands o cs ps rest k p x none e =
    subst (λ (v : Option ℕ). stands v (flat (one_straight cs ++ (ps ++ rest))) k p ≡ (stands v (straight_run cs) k p || (stands None (flat ps) k p || x))) (sym none)
    (ap (λ l. stands None l k p) (flat_append (one_straight cs) (ps ++ rest)) ∙ (stands_append (flat (one_straight cs)) (flat (ps ++ rest)) k p
    ∙ or_both _ _ _ _ (ap (λ l. stands None l k p) (flat_straight cs)) (ap (λ l. stands None l k p) (flat_append ps rest) ∙ (stands_append (flat ps) (flat rest) k p ∙ ap (λ v. stands None (flat ps) k p || v) e))))

-- in joined phases, where they stand in those of the parts
pub joined_stands : (o : Option ℕ) (cs : List Located) (pss : List (List Phase)) (k p : ℕ) → Fits o pss
    → stands o (flat (joined cs pss)) k p ≡ (stands o (straight_run cs) k p || all_stand (behind_all o cs) pss k p)
joined_stands o cs [] k p f = ap (λ l. stands o l k p) (flat_straight cs) ∙ sym (or_none (stands o (straight_run cs) k p))
joined_stands o cs ([] ∷ parts) k p f = joined_stands o cs parts k p (fits_rest o [] parts f)
joined_stands o cs ((straight ds ∷ []) ∷ parts) k p f =
    joined_stands o (cs ++ ds) parts k p (fits_rest o (straight ds ∷ []) parts f)
    ∙ (more_run o cs ds parts k p
    ∙ ap (λ v. stands o (straight_run cs) k p || (stands v (flat (straight ds ∷ [])) k p || all_stand (behind_all (behind_all o cs) ds) parts k p)) (into_straight ds (behind_all o cs)))
  where
    into_straight : (ds : List Located) (g : Option ℕ) → g ≡ into (straight ds ∷ []) g
    into_straight [] g = refl
    into_straight (d ∷ ds) g = refl
joined_stands o cs ((turns loop count body ∷ []) ∷ parts) k p f =
    stepped_stands o cs (turns loop count body ∷ []) (joined [] parts) k p _ (fits_none o (turns loop count body ∷ []) parts refl f) (joined_stands None [] parts k p (inl refl))
joined_stands o cs ((repeated loop body ∷ []) ∷ parts) k p f =
    stepped_stands o cs (repeated loop body ∷ []) (joined [] parts) k p _ (fits_none o (repeated loop body ∷ []) parts refl f) (joined_stands None [] parts k p (inl refl))
joined_stands o cs ((decided choice chosen other ∷ []) ∷ parts) k p f =
    stepped_stands o cs (decided choice chosen other ∷ []) (joined [] parts) k p _ (fits_none o (decided choice chosen other ∷ []) parts refl f) (joined_stands None [] parts k p (inl refl))
joined_stands o cs ((q ∷ r ∷ ps) ∷ parts) k p f =
    stepped_stands o cs (q ∷ r ∷ ps) (joined [] parts) k p _ (fits_none o (q ∷ r ∷ ps) parts refl f) (joined_stands None [] parts k p (inl refl))

one_stands : (q : Phase) (fold : List Phase) (k p : ℕ) → stands None (flat (q ∷ fold)) k p ≡ (stands None (flat (q ∷ [])) k p || stands (into fold None) (flat fold) k p)
one_stands q fold k p =
    stands_append (flat_one q) (flat fold) k p ∙ or_both _ _ _ _ (ap (λ l. stands None l k p) (sym (runs_nil (flat_one q)))) (ap (λ v. stands v (flat fold) k p) (sym (into_none fold)))

-- in the phases of a turn, where they stand in those of its body or of the block that joins its copies
pub folded_stands : (ps fold : List Phase) (k p : ℕ) → stands None (flat (folded ps fold)) k p ≡ (stands None (flat ps) k p || stands (into fold (last_behind None ps)) (flat fold) k p)
folded_stands [] fold k p = ap (λ v. stands v (flat fold) k p) (sym (into_none fold))
folded_stands (straight cs ∷ []) fold k p =
    joined_stands None cs (fold ∷ []) k p (inl refl)
    ∙ or_both _ _ _ _ (ap (λ l. stands None l k p) (sym (runs_nil (straight_run cs)))) (or_none (stands (into fold (behind_all None cs)) (flat fold) k p))
folded_stands (turns loop count body ∷ []) fold k p = one_stands (turns loop count body) fold k p
folded_stands (repeated loop body ∷ []) fold k p = one_stands (repeated loop body) fold k p
folded_stands (decided choice chosen other ∷ []) fold k p = one_stands (decided choice chosen other) fold k p
folded_stands (q ∷ r ∷ ps) fold k p =
    stands_append (flat_one q) (flat (folded (r ∷ ps) fold)) k p
    ∙ (ap (λ v. stands None (flat_one q) k p || v) (folded_stands (r ∷ ps) fold k p)
    ∙ (sym (or_assoc (stands None (flat_one q) k p) (stands None (flat (r ∷ ps)) k p) (stands (into fold (last_behind None (r ∷ ps))) (flat fold) k p))
    ∙ ap (λ v. v || stands (into fold (last_behind None (r ∷ ps))) (flat fold) k p) (sym (stands_append (flat_one q) (flat (r ∷ ps)) k p))))

-- in two parts of a block that is straight
pub beside_stands : (o : Option ℕ) (xs ys : List Phase) (k p : ℕ) → IsFull xs → IsFull ys → min 2 (size xs + size ys) ≤ 1
    → stands o (flat (xs ++ ys)) k p ≡ (stands o (flat xs) k p || stands (next_going o xs) (flat ys) k p)
beside_stands o [] ys k p f g h = refl
beside_stands o (x ∷ xs) [] k p f g h = ap (λ l. stands o (flat l) k p) (nothing_more (x ∷ xs)) ∙ sym (or_none (stands o (flat (x ∷ xs)) k p))
beside_stands o (x ∷ xs) (y ∷ ys) k p f g h = absurd (two_sum (size (x ∷ xs)) (size (y ∷ ys)) (some_size x xs f) (some_size y ys g) h)

-- the accesses of the Straight phases of phases
abbrev pub tops : ℕ → List Phase → Bool
tops k [] = false
tops k (straight cs ∷ ps) = any_makes k cs || tops k ps
tops k (turns loop count body ∷ ps) = tops k ps
tops k (repeated loop body ∷ ps) = tops k ps
tops k (decided choice chosen other ∷ ps) = tops k ps

and_none : (b : Bool) → (b && false) ≡ false
and_none true = refl
and_none false = refl

-- what stands in one Straight phase goes by the open one
pub straight_stands : (q : ℕ) (ps : List Phase) (k p : ℕ) → are_straight ps ≡ true → stands (Some q) (flat ps) k p ≡ ((q == p) && tops k ps)
straight_stands q [] k p e = sym (and_none (q == p))
straight_stands q (straight [] ∷ []) k p e = sym (and_none (q == p))
straight_stands q (straight (c ∷ cs) ∷ []) k p e = or_none ((q == p) && any_makes k (c ∷ cs)) ∙ ap (λ v. (q == p) && v) (sym (or_none (any_makes k (c ∷ cs))))
straight_stands q (turns loop count body ∷ []) k p e = absurd cc
straight_stands q (repeated loop body ∷ []) k p e = absurd cc
straight_stands q (decided choice chosen other ∷ []) k p e = absurd cc
straight_stands q (r ∷ s ∷ ps) k p e = absurd cc

abbrev pub all_tops : ℕ → List (List Phase) → Bool
all_tops k [] = false
all_tops k (ps ∷ pss) = tops k ps || all_tops k pss

pub tops_append : (k : ℕ) (xs ys : List Phase) → tops k (xs ++ ys) ≡ (tops k xs || tops k ys)
tops_append k [] ys = refl
tops_append k (straight cs ∷ xs) ys = ap (λ v. any_makes k cs || v) (tops_append k xs ys) ∙ sym (or_assoc (any_makes k cs) (tops k xs) (tops k ys))
tops_append k (turns loop count body ∷ xs) ys = tops_append k xs ys
tops_append k (repeated loop body ∷ xs) ys = tops_append k xs ys
tops_append k (decided choice chosen other ∷ xs) ys = tops_append k xs ys

tops_one : (k : ℕ) (cs : List Located) → tops k (one_straight cs) ≡ any_makes k cs
tops_one k [] = refl
tops_one k (c ∷ cs) = or_none (any_makes k (c ∷ cs))

tops_stepped : (k : ℕ) (cs : List Located) (ps rest : List Phase) (x : Bool) → tops k rest ≡ x → tops k (one_straight cs ++ (ps ++ rest)) ≡ (any_makes k cs || (tops k ps || x))
tops_stepped k cs ps rest x e =
    tops_append k (one_straight cs) (ps ++ rest) ∙ or_both _ _ _ _ (tops_one k cs) (tops_append k ps rest ∙ ap (λ v. tops k ps || v) e)

pub tops_joined : (k : ℕ) (cs : List Located) (pss : List (List Phase)) → tops k (joined cs pss) ≡ (any_makes k cs || all_tops k pss)
tops_joined k cs [] = tops_one k cs ∙ sym (or_none (any_makes k cs))
tops_joined k cs ([] ∷ parts) = tops_joined k cs parts
tops_joined k cs ((straight ds ∷ []) ∷ parts) =
    tops_joined k (cs ++ ds) parts ∙ (ap (λ v. v || all_tops k parts) (list_any-append (λ c. makes k c.first c.command) cs ds)
    ∙ (or_assoc (any_makes k cs) (any_makes k ds) (all_tops k parts) ∙ ap (λ v. any_makes k cs || (v || all_tops k parts)) (sym (or_none (any_makes k ds)))))
tops_joined k cs ((turns loop count body ∷ []) ∷ parts) = tops_stepped k cs (turns loop count body ∷ []) (joined [] parts) _ (tops_joined k [] parts)
tops_joined k cs ((repeated loop body ∷ []) ∷ parts) = tops_stepped k cs (repeated loop body ∷ []) (joined [] parts) _ (tops_joined k [] parts)
tops_joined k cs ((decided choice chosen other ∷ []) ∷ parts) = tops_stepped k cs (decided choice chosen other ∷ []) (joined [] parts) _ (tops_joined k [] parts)
tops_joined k cs ((q ∷ r ∷ ps) ∷ parts) = tops_stepped k cs (q ∷ r ∷ ps) (joined [] parts) _ (tops_joined k [] parts)

-- Numbers of runs.

abbrev pub all_times : ℕ → List (List Phase) → ℕ
all_times t [] = 0
all_times t (ps ∷ pss) = times t (flat ps) + all_times t pss

times_straight : (t : ℕ) (cs ds : List Located) → times t (straight_run (cs ++ ds)) ≤ times t (straight_run cs) + times t (straight_run ds)
times_straight t [] ds = none (times t (straight_run ds))
  where
    none : (n : ℕ) → n ≤ 0 + n
    none n = omega arith
times_straight t (c ∷ cs) ds = more (times t (straight_run (c ∷ cs))) (times t (straight_run ds))
  where
    more : (m n : ℕ) → m ≤ m + n
    more m n = omega arith

times_stepped : (t : ℕ) (cs : List Located) (ps rest : List Phase) (n : ℕ) → times t (flat rest) ≤ 0 + n → times t (flat (one_straight cs ++ (ps ++ rest))) ≤ times t (straight_run cs) + (times t (flat ps) + n)
times_stepped t cs ps rest n e =
    let x = ap (times t) (flat_append (one_straight cs) (ps ++ rest)) ∙ times_append t (flat (one_straight cs)) (flat (ps ++ rest)) in
    let y = ap (times t) (flat_append ps rest) ∙ times_append t (flat ps) (flat rest) in
    let z = ap (times t) (flat_straight cs) in
    sums _ _ _ _ _ _ _ x y z e
  where
    sums : (all a b c d e n : ℕ) → all ≡ a + b → b ≡ c + d → a ≡ e → d ≤ 0 + n → all ≤ e + (c + n)
    sums all a b c d e n x y z w = omega (arith, x, y, z, w)

pub times_joined : (t : ℕ) (cs : List Located) (pss : List (List Phase)) → times t (flat (joined cs pss)) ≤ times t (straight_run cs) + all_times t pss
times_joined t cs [] = let e = ap (times t) (flat_straight cs) in same _ _ e
  where
    same : (m n : ℕ) → m ≡ n → m ≤ n + 0
    same m n e = omega (arith, e)
times_joined t cs ([] ∷ parts) = none (times t (flat (joined cs parts))) (times t (straight_run cs)) (all_times t parts) (times_joined t cs parts)
  where
    none : (a b c : ℕ) → a ≤ b + c → a ≤ b + (0 + c)
    none a b c e = omega (arith, e)
times_joined t cs ((straight ds ∷ []) ∷ parts) =
    let e = ap (times t) (runs_nil (straight_run ds)) in
    sums _ _ _ _ _ _ (times_joined t (cs ++ ds) parts) (times_straight t cs ds) e
  where
    sums : (all a b c d n : ℕ) → all ≤ a + n → a ≤ b + c → d ≡ c → all ≤ b + (d + n)
    sums all a b c d n x y z = omega (arith, x, y, z)
times_joined t cs ((turns loop count body ∷ []) ∷ parts) = times_stepped t cs (turns loop count body ∷ []) (joined [] parts) _ (times_joined t [] parts)
times_joined t cs ((repeated loop body ∷ []) ∷ parts) = times_stepped t cs (repeated loop body ∷ []) (joined [] parts) _ (times_joined t [] parts)
times_joined t cs ((decided choice chosen other ∷ []) ∷ parts) = times_stepped t cs (decided choice chosen other ∷ []) (joined [] parts) _ (times_joined t [] parts)
times_joined t cs ((q ∷ r ∷ ps) ∷ parts) = times_stepped t cs (q ∷ r ∷ ps) (joined [] parts) _ (times_joined t [] parts)

times_two : (t : ℕ) (q : Phase) (fold : List Phase) → times t (flat (q ∷ fold)) ≤ times t (flat (q ∷ [])) + times t (flat fold)
times_two t q fold = let x = times_append t (flat_one q) (flat fold) in let y = ap (times t) (runs_nil (flat_one q)) in sums _ _ _ _ x y
  where
    sums : (all a b c : ℕ) → all ≡ a + c → b ≡ a → all ≤ b + c
    sums all a b c x y = omega (arith, x, y)

pub times_folded : (t : ℕ) (ps fold : List Phase) → times t (flat (folded ps fold)) ≤ times t (flat ps) + times t (flat fold)
times_folded t [] fold = none (times t (flat fold))
  where
    none : (n : ℕ) → n ≤ 0 + n
    none n = omega arith
times_folded t (straight cs ∷ []) fold =
    let e = ap (times t) (runs_nil (straight_run cs)) in
    sums _ _ _ _ (times_joined t cs (fold ∷ [])) e
  where
    sums : (all a b c : ℕ) → all ≤ a + (c + 0) → b ≡ a → all ≤ b + c
    sums all a b c x y = omega (arith, x, y)
times_folded t (turns loop count body ∷ []) fold = times_two t (turns loop count body) fold
times_folded t (repeated loop body ∷ []) fold = times_two t (repeated loop body) fold
times_folded t (decided choice chosen other ∷ []) fold = times_two t (decided choice chosen other) fold
times_folded t (q ∷ r ∷ ps) fold =
    let x = times_append t (flat_one q) (flat (folded (r ∷ ps) fold)) in
    let y = times_append t (flat_one q) (flat (r ∷ ps)) in
    sums _ _ _ _ _ _ x y (times_folded t (r ∷ ps) fold)
  where
    sums : (all a b c d e : ℕ) → all ≡ a + b → c ≡ a + d → b ≤ d + e → all ≤ c + e
    sums all a b c d e x y z = omega (arith, x, y, z)
