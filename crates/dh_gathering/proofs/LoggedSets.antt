-- What is set at the end of a block: each register that was given a value once, and no other. The registers of the
-- log are all of these, since before the block none was given a value.
use Rattle.std.proofs.Common.{◌≡◌, ◌⊎◌, inl, inr, ℕ, zero, suc, ◌+◌, ◌<◌, ◌≤◌, List, [], ◌∷◌, ◌++◌, length, drop, get_or, Some, None, refl, ap, sym, ◌∙◌, subst, arith, append_assoc, append-nil}
use Rattle.std.specs.Prelude.{Option, slice_set}
use Rattle.std.specs.List.{AllByRecursion}
use Rattle.std.proofs.lemmas.List.{drop_all}
use Rattle.dh_base.proofs.ListItems.{at_item}
use Rattle.dh_plan.specs.declared.operations.Operation.{Operation}
use Rattle.dh_expressions.proofs.ListPlaces.{set_long}
use Rattle.dh_commands.specs.declared.assignments.Change.{Change}
use Rattle.dh_commands.specs.declared.buildings.Building.{Building}
use Rattle.dh_commands.specs.Undone.{given_at, undone}
use Rattle.dh_gathering.specs.MadeBlocks.{IsAmong, SetsGiven}
use Rattle.dh_gathering.specs.PushedSets.{SetsChanges, SetsLogged, SetsGivenRegister, cleared_registers, set_of, sets_pushed, setting, settings}

-- Registers that are set in a list.

pub given_set : (xs : List (Option ℕ)) (i : ℕ) → given_at (slice_set xs i None) i ≡ None
given_set [] i = refl
given_set (x ∷ xs) zero = refl
given_set (x ∷ xs) (suc i) = given_set xs i

pub given_other : (xs : List (Option ℕ)) (i j : ℕ) (o : Option ℕ) → (i ≡ j → ⊥) → given_at (slice_set xs i o) j ≡ given_at xs j
given_other [] i j o other = refl
given_other (x ∷ xs) zero zero o other = absurd (other refl)
given_other (x ∷ xs) zero (suc j) o other = refl
given_other (x ∷ xs) (suc i) zero o other = refl
given_other (x ∷ xs) (suc i) (suc j) o other = given_other xs i j o (λ e. other (ap suc e))

-- setting what is not given changes nothing
pub set_none : (xs : List (Option ℕ)) (i : ℕ) → given_at xs i ≡ None → slice_set xs i None ≡ xs
set_none [] i e = refl
set_none (x ∷ xs) zero e = ap (λ (o : Option ℕ). o ∷ xs) (sym e)
set_none (x ∷ xs) (suc i) e = ap (λ (l : List (Option ℕ)). x ∷ l) (set_none xs i e)

pub given_past : (xs : List (Option ℕ)) (i : ℕ) → length xs ≤ i → given_at xs i ≡ None
given_past [] i past = refl
given_past (x ∷ xs) zero past = absurd (none (length xs) past)
  where
    none : (n : ℕ) → suc n ≤ 0 → ⊥
    none n h = omega (arith, h)
given_past (x ∷ xs) (suc i) past = given_past xs i (less (length xs) i past)
  where
    less : (n m : ℕ) → suc n ≤ suc m → n ≤ m
    less n m h = omega (arith, h)

same_or : (i j : ℕ) → (i ≡ j) ⊎ (i ≡ j → ⊥)
same_or zero zero = inl refl
same_or zero (suc j) = inr (λ e. absurd cc)
same_or (suc i) zero = inr (λ e. absurd cc)
same_or (suc i) (suc j) = by (same_or i j)
  where
    less : (n m : ℕ) → suc n ≡ suc m → n ≡ m
    less n m h = omega (arith, h)

    by : (i ≡ j) ⊎ (i ≡ j → ⊥) → (suc i ≡ suc j) ⊎ (suc i ≡ suc j → ⊥)
    by (inl e) = inl (ap suc e)
    by (inr h) = inr (λ e. h (less i j e))

-- The registers of a log.

abbrev pub IsLogged : List Change → (register : ℕ) → Type 0
IsLogged [] register = ⊥
IsLogged (c ∷ cs) register = (c.register ≡ register) ⊎ IsLogged cs register

pub logged_or : (cs : List Change) (register : ℕ) → IsLogged cs register ⊎ (IsLogged cs register → ⊥)
logged_or [] register = inr (λ e. e)
logged_or (c ∷ cs) register = by (same_or c.register register) (logged_or cs register)
  where
    by : (c.register ≡ register) ⊎ (c.register ≡ register → ⊥) → IsLogged cs register ⊎ (IsLogged cs register → ⊥) → IsLogged (c ∷ cs) register ⊎ (IsLogged (c ∷ cs) register → ⊥)
    by (inl e) k = inl (inl e)
    by (inr h) (inl k) = inl (inr k)
    by (inr h) (inr k) = inr neither
      where
        neither : (c.register ≡ register) ⊎ IsLogged cs register → ⊥
        neither (inl e) = h e
        neither (inr e) = k e

undone_other : (cs : List Change) (current : List (Option ℕ)) (register : ℕ) → (IsLogged cs register → ⊥) → given_at (undone cs current) register ≡ given_at current register
undone_other [] current register other = refl
undone_other (c ∷ cs) current register other = given_other (undone cs current) c.register register c.before (λ e. other (inl e)) ∙ undone_other cs current register (λ e. other (inr e))

cleared_stays : (cs : List Change) (current : List (Option ℕ)) (register : ℕ) → given_at current register ≡ None → given_at (cleared_registers cs current) register ≡ None
cleared_stays [] current register none = none
cleared_stays (c ∷ cs) current register none = cleared_stays cs (slice_set current c.register None) register (by (same_or c.register register))
  where
    by : (c.register ≡ register) ⊎ (c.register ≡ register → ⊥) → given_at (slice_set current c.register None) register ≡ None
    by (inl e) = subst (λ (r : ℕ). given_at (slice_set current c.register None) r ≡ None) e (given_set current c.register)
    by (inr h) = given_other current c.register register None h ∙ none

cleared_here : (cs : List Change) (current : List (Option ℕ)) (register : ℕ) → IsLogged cs register → given_at (cleared_registers cs current) register ≡ None
cleared_here [] current register h = absurd h
cleared_here (c ∷ cs) current register (inl e) =
    cleared_stays cs (slice_set current c.register None) register (subst (λ (r : ℕ). given_at (slice_set current c.register None) r ≡ None) e (given_set current c.register))
cleared_here (c ∷ cs) current register (inr h) = cleared_here cs (slice_set current c.register None) register h

-- where none was given before the log, none is given behind it
pub cleared_all : (cs : List Change) (current : List (Option ℕ)) (register : ℕ) → given_at (undone cs current) register ≡ None → given_at (cleared_registers cs current) register ≡ None
cleared_all cs current register none = by (logged_or cs register)
  where
    by : IsLogged cs register ⊎ (IsLogged cs register → ⊥) → given_at (cleared_registers cs current) register ≡ None
    by (inl h) = cleared_here cs current register h
    by (inr other) = cleared_stays cs current register (sym (undone_other cs current register other) ∙ none)

-- and what is given is of the log
pub given_logged : (cs : List Change) (current : List (Option ℕ)) (register value : ℕ) → given_at (undone cs current) register ≡ None → given_at current register ≡ Some value → IsLogged cs register
given_logged cs current register value none given = by (logged_or cs register)
  where
    by : IsLogged cs register ⊎ (IsLogged cs register → ⊥) → IsLogged cs register
    by (inl h) = h
    by (inr other) = let same = sym none ∙ (undone_other cs current register other ∙ given) in absurd cc

pub cleared_long : (cs : List Change) (current : List (Option ℕ)) → length (cleared_registers cs current) ≡ length current
cleared_long [] current = refl
cleared_long (c ∷ cs) current = cleared_long cs (slice_set current c.register None) ∙ set_long current c.register None

-- The sets.

module _ (all : List (Option ℕ)) where
  abbrev IsGivenBy : ℕ × ℕ → Type 0
  IsGivenBy s = given_at all s.0 ≡ Some s.1

  set_given : (register : ℕ) (o : Option ℕ) → ((value : ℕ) → o ≡ Some value → given_at all register ≡ Some value) → (rest : List (ℕ × ℕ)) → AllByRecursion IsGivenBy rest → AllByRecursion IsGivenBy (set_of register o ++ rest)
  set_given register None h rest a = a
  set_given register (Some value) h rest a = (h value refl, a)

  pub sets_given : (cs : List Change) (current : List (Option ℕ)) → ((register value : ℕ) → given_at current register ≡ Some value → given_at all register ≡ Some value) → AllByRecursion IsGivenBy (sets_pushed cs current)
  sets_given [] current h = tt
  sets_given (c ∷ cs) current h =
      set_given c.register (given_at current c.register) (λ value e. h c.register value e) (sets_pushed cs (slice_set current c.register None)) (sets_given cs (slice_set current c.register None) next)
    where
      next : (register value : ℕ) → given_at (slice_set current c.register None) register ≡ Some value → given_at all register ≡ Some value
      next register value e = by (same_or c.register register)
        where
          by : (c.register ≡ register) ⊎ (c.register ≡ register → ⊥) → given_at all register ≡ Some value
          by (inl is) = let none = subst (λ (r : ℕ). given_at (slice_set current c.register None) r ≡ None) is (given_set current c.register) in let both = sym none ∙ e in absurd cc
          by (inr other) = h register value (sym (given_other current c.register register None other) ∙ e)

among_behind : {A : Type 0} (xs ys : List A) (y : A) → IsAmong ys y → IsAmong (xs ++ ys) y
among_behind [] ys y h = h
among_behind (x ∷ xs) ys y h = let r = among_behind xs ys y h in (suc r.0, r.1)

pub sets_all : (cs : List Change) (current : List (Option ℕ)) (register value : ℕ) → IsLogged cs register → given_at current register ≡ Some value → IsAmong (sets_pushed cs current) (register, value)
sets_all [] current register value h given = absurd h
sets_all (c ∷ cs) current register value h given = by (λ k g. sets_all cs (slice_set current c.register None) register value k g) (same_or c.register register) h
  where
    rest : List (ℕ × ℕ)
    rest = sets_pushed cs (slice_set current c.register None)

    by : (IsLogged cs register → given_at (slice_set current c.register None) register ≡ Some value → IsAmong rest (register, value)) → (c.register ≡ register) ⊎ (c.register ≡ register → ⊥) → (c.register ≡ register) ⊎ IsLogged cs register
        → IsAmong (set_of c.register (given_at current c.register) ++ rest) (register, value)
    by more (inl is) k = subst (λ (o : Option ℕ). IsAmong (set_of c.register o ++ rest) (register, value)) (sym (ap (λ (r : ℕ). given_at current r) is ∙ given)) (0, ap (λ (r : ℕ). Some (r, value)) is)
    by more (inr other) (inl is) = absurd (other is)
    by more (inr other) (inr k) = among_behind (set_of c.register (given_at current c.register)) rest (register, value) (more k (given_other current c.register register None other ∙ given))

-- all sets of a block
pub sets_logged : (old new : Building) → SetsLogged old new → ((register : ℕ) → given_at (undone old.values.log.items old.values.current.items) register ≡ None) → SetsGiven old new
sets_logged old new h none = record {
  sets = sets_pushed old.values.log.items old.values.current.items;
  operations = h.sets.operations;
  faults = h.sets.faults;
  accesses = h.sets.accesses;
  given = sets_given old.values.current.items old.values.log.items old.values.current.items (λ register value e. e);
  all = λ register value given. sets_all old.values.log.items old.values.current.items register value (given_logged old.values.log.items old.values.current.items register value (none register) given) given;
}

-- The loop over the log: whatever is set from here on, all is set from the begin.

settings_append : (xs ys : List (ℕ × ℕ)) → settings (xs ++ ys) ≡ settings xs ++ settings ys
settings_append [] ys = refl
settings_append (x ∷ xs) ys = ap (λ (l : List Operation). setting x ∷ l) (settings_append xs ys)

pub record SetsFrom (all : List Change) (i : ℕ) (old here : Building) : Type 0 where
  pub so : (new : Building) → SetsChanges here new (drop i all) → SetsChanges old new all
  pub log : here.values.log.items ≡ all

pub sets_begin : (b : Building) → SetsFrom b.values.log.items 0 b b
sets_begin b = record { so = λ new h. h; log = refl }

pub sets_turn : (all : List Change) (i : ℕ) (old here next : Building) (c : Change) → i < length all → c ≡ get_or all i c → SetsGivenRegister here next c.register → SetsFrom all i old here → SetsFrom all (i + 1) old next
sets_turn all i old here next c within is s h = record {
  so = λ new k. h.so new (subst (λ (l : List Change). SetsChanges here new l) (sym (at_item all i c within is)) (record {
    operations =
        k.operations
        ∙ (ap (λ (l : List Operation). l ++ settings (sets_pushed (drop (i + 1) all) next.values.current.items)) s.operations
        ∙ (append_assoc here.draft.operations.items (settings (set_of c.register (given_at here.values.current.items c.register))) (settings (sets_pushed (drop (i + 1) all) next.values.current.items))
        ∙ (ap (λ (l : List (Option ℕ)). here.draft.operations.items ++ (settings (set_of c.register (given_at here.values.current.items c.register)) ++ settings (sets_pushed (drop (i + 1) all) l))) s.current
        ∙ ap (λ (l : List Operation). here.draft.operations.items ++ l)
        (sym (settings_append (set_of c.register (given_at here.values.current.items c.register)) (sets_pushed (drop (i + 1) all) (slice_set here.values.current.items c.register None)))))));
    faults = k.faults ∙ s.faults;
    accesses = k.accesses ∙ s.accesses;
    current = k.current ∙ ap (λ (l : List (Option ℕ)). cleared_registers (drop (i + 1) all) l) s.current;
    marks = k.marks ∙ s.marks;
  }));
  log = ap (λ v. v.items) s.log ∙ h.log;
}

pub sets_end : (all : List Change) (i : ℕ) (old here new : Building) → drop i all ≡ [] → new.draft ≡ here.draft → new.accesses ≡ here.accesses → new.values.current ≡ here.values.current → new.values.marks ≡ here.values.marks → SetsFrom all i old here → SetsChanges old new all
sets_end all i old here new none draft accesses current marks h = h.so new (subst (λ (l : List Change). SetsChanges here new l) (sym none) (record {
  operations = ap (λ d. d.operations.items) draft ∙ sym (append-nil here.draft.operations.items);
  faults = ap (λ d. d.faults) draft;
  accesses = accesses;
  current = ap (λ v. v.items) current;
  marks = marks;
}))

-- as the code comes to it: the log it looks at is that of the begin
pub sets_next : (all : List Change) (i : ℕ) (old here mid next : Building) (c : Change) → i < length here.values.log.items → c ≡ get_or here.values.log.items i c → next ≡ mid → SetsGivenRegister here mid c.register → SetsFrom all i old here → SetsFrom all (i + 1) old next
sets_next all i old here mid next c within is made s h =
    subst (λ (b : Building). SetsFrom all (i + 1) old b) (sym made)
    (sets_turn all i old here mid c (subst (λ (l : List Change). i < length l) h.log within) (is ∙ ap (λ (l : List Change). get_or l i c) h.log) s h)

pub sets_kept : (all : List Change) (i : ℕ) (old here next : Building) → length here.values.log.items ≤ i → next ≡ here → i < length all → SetsFrom all i old here → SetsFrom all (i + 1) old next
sets_kept all i old here next past made within h = absurd (never i (length all) (subst (λ (l : List Change). length l ≤ i) h.log past) within)
  where
    never : (n m : ℕ) → m ≤ n → n < m → ⊥
    never n m a b = omega (arith, a, b)

pub sets_done : (all : List Change) (i end : ℕ) (old here new : Building) → end ≤ i → end ≡ length all → new.draft ≡ here.draft → new.accesses ≡ here.accesses → new.values.current ≡ here.values.current → new.values.marks ≡ here.values.marks → SetsFrom all i old here → SetsChanges old new all
sets_done all i end old here new past is draft accesses current marks h = sets_end all i old here new (drop_all i all (subst (λ (n : ℕ). n ≤ i) is past)) draft accesses current marks h
