-- An access is charged bank by bank. Behind the last bank it is loaded with its cost everywhere, and the log says how
-- to come back: what was at its memory is written there again.
use Rattle.std.proofs.Common.{◌≡◌, ℕ, ◌+◌, ◌≤◌, ◌<◌, true, false, Bool, if◌then◌else◌, inl, inr, refl, ap, sym, ◌∙◌, subst, arith, List, [], ◌∷◌, ◌++◌, length, Option, Some, None, Result, Ok, Err}
use Rattle.std.specs.Prelude.{◌==◌, ◌&&◌, nat_lt, slice_get, slice_set, slice_index}
use Rattle.std.proofs.lemmas.Bool.{eq-eqb, cases_eq, cases_lt}
use Rattle.std.proofs.lemmas.Bool.Decides.{nat_tests}
use Rattle.std.proofs.lemmas.List.{set-get_or}
use Rattle.std.proofs.lemmas.Option.{slice_get-get_or}
use Rattle.dh_tree.specs.Meets.{access}
use Rattle.dh_ledger.specs.Spending.{Spending}
use Rattle.dh_bind.specs.Costs.{Costs, cost, cost_on, memory_of_access}
use Rattle.dh_bind.specs.Drafts.{first_at, cell_of}
use Rattle.dh_bind.specs.Ledgers.{spent_at, ports_in, state_or}
use Rattle.dh_bind.specs.Standings.{Standing, KeepsCostsAndPlan, mark_of, log_marked, count_at, BankCharged, RowCharged, FullAt, MeetsWalked, Overdrawn, ChargesRow, WalksMeets}
use Rattle.dh_bind.specs.declared.walker.WalkStop.{WalkStop}
use Rattle.dh_bind.specs.declared.walker.WalkStop.TheVariants as stop
use Rattle.dh_bind.proofs.Driven.{is_not}
use Rattle.dh_bind.proofs.LedgerFacts.{alike_self, alike_then}

pub keeps_self : (s : Standing) → KeepsCostsAndPlan s s
keeps_self s = record { costs = refl; plan = refl; alike = alike_self s.ledgers }

pub keeps_then : (a b c : Standing) → KeepsCostsAndPlan a b → KeepsCostsAndPlan b c → KeepsCostsAndPlan a c
keeps_then a b c x y = record { costs = y.costs ∙ x.costs; plan = y.plan ∙ x.plan; alike = alike_then a.ledgers b.ledgers c.ledgers x.alike y.alike }

-- the cost on a bank of the access's memory, and of others
chosen : (t : Bool) (n : ℕ) → t ≡ true → (if t then n else 0) ≡ n
chosen true n e = refl
chosen false n e = absurd (let f : false ≡ true = e in cc)

not_chosen : (t : Bool) (n : ℕ) → t ≡ false → (if t then n else 0) ≡ 0
not_chosen true n e = absurd (let f : true ≡ false = e in cc)
not_chosen false n e = refl

pub cost_own : (s : Standing) (a memory bank : ℕ) → memory_of_access s.costs.memories a ≡ Some memory → cost s.costs memory bank a ≡ count_at s a bank
cost_own s a memory bank e =
    ap (λ (m : Option ℕ). cost_on m memory (count_at s a bank)) e ∙ chosen (memory == memory) (count_at s a bank) (eq-eqb memory memory refl)

cost_other : (s : Standing) (a memory m bank : ℕ) → memory_of_access s.costs.memories a ≡ Some memory → (m ≡ memory → ⊥) → cost s.costs m bank a ≡ 0
cost_other s a memory m bank e f =
    ap (λ (x : Option ℕ). cost_on x m (count_at s a bank)) e ∙ not_chosen (memory == m) (count_at s a bank) (is_not memory m (λ g. f (sym g)))

cost_same : (s : Standing) (a memory m bank : ℕ) → memory_of_access s.costs.memories a ≡ Some memory → m ≡ memory → cost s.costs m bank a ≡ count_at s a bank
cost_same s a memory m bank e f = ap (λ (k : ℕ). cost s.costs k bank a) f ∙ cost_own s a memory bank e

-- what is spent on a bank in one turn
both_true : (s t : Bool) (n : ℕ) → s ≡ true → t ≡ true → (if s && t then n else 0) ≡ n
both_true true true n e f = refl
both_true true false n e f = absurd (let g : false ≡ true = f in cc)
both_true false t n e f = absurd (let g : false ≡ true = e in cc)

first_false : (s t : Bool) (n : ℕ) → s ≡ false → (if s && t then n else 0) ≡ 0
first_false true t n e = absurd (let g : true ≡ false = e in cc)
first_false false t n e = refl

second_false : (s t : Bool) (n : ℕ) → t ≡ false → (if s && t then n else 0) ≡ 0
second_false true true n e = absurd (let g : true ≡ false = e in cc)
second_false true false n e = refl
second_false false t n e = refl

is_below : (b n : ℕ) → b < n → nat_lt b n ≡ true
is_below b n h = grind (arith, nat_tests, h)

not_below : (b n : ℕ) → n ≤ b → nat_lt b n ≡ false
not_below b n h = grind (arith, nat_tests, h)

step_same : (x y o c d e : ℕ) → x ≡ y + c → y ≡ o + d → d ≡ 0 → c ≡ e → x ≡ o + e
step_same x y o c d e f g h k = omega (arith, f, g, h, k)

step_other : (x y o c d e : ℕ) → x ≡ y + c → y ≡ o + d → c ≡ 0 → d ≡ e → x ≡ o + e
step_other x y o c d e f g h k = omega (arith, f, g, h, k)

below_same : (b n k : ℕ) → (b ≡ n → ⊥) → (if nat_lt b n then k else 0) ≡ (if nat_lt b (n + 1) then k else 0)
below_same b n k differs = elim (cases_lt b n) [
  | inl h ↦ chosen (nat_lt b n) k (is_below b n h) ∙ sym (chosen (nat_lt b (n + 1)) k (is_below b (n + 1) (omega (arith, h))))
  | inr h ↦ not_chosen (nat_lt b n) k (not_below b n h) ∙ sym (not_chosen (nat_lt b (n + 1)) k (not_below b (n + 1) (above b n h differs)))
]
  where
    above : (m l : ℕ) → l ≤ m → (m ≡ l → ⊥) → l + 1 ≤ m
    above m l more none = grind (arith, more, none)

module _ (a memory n : ℕ) (start now next : Standing) (of_memory : memory_of_access start.costs.memories a ≡ Some memory) (few : n < start.costs.wide) (so : RowCharged a memory n start now) (charged : BankCharged now.costs.wide a memory n now next) where
  turn : BankCharged start.costs.wide a memory n now next
  turn = subst (λ (c : Costs). BankCharged c.wide a memory n now next) so.keeps.costs charged

  same_count : (b : ℕ) → count_at now a b ≡ count_at start a b
  same_count b = ap (λ (c : Costs). slice_index c.counts (cell_of c.wide a b)) so.keeps.costs

  not_yet : (m : ℕ) → spent_at now.ledgers m n ≡ spent_at start.ledgers m n
  not_yet m = so.spent m n few ∙ (ap (λ (k : ℕ). spent_at start.ledgers m n + k) (not_chosen (nat_lt n n) (cost start.costs m n a) (not_below n n (let e : n ≤ n = omega arith in e))) ∙ (let e : spent_at start.ledgers m n + 0 ≡ spent_at start.ledgers m n = omega arith in e))

  spent_turn : (m b : ℕ) → b < start.costs.wide → spent_at next.ledgers m b ≡ spent_at start.ledgers m b + (if nat_lt b (n + 1) then cost start.costs m b a else 0)
  spent_turn m b below = elim (cases_eq b n) [
    | inl e ↦ elim (cases_eq m memory) [
      | inl f ↦ step_same _ (spent_at now.ledgers m b) (spent_at start.ledgers m b) _ _ _ (turn.spent.spent m b) (so.spent m b below)
          (not_chosen (nat_lt b n) (cost start.costs m b a) (not_below b n (let g = e in omega (arith, g))))
          (both_true (m == memory) (b == n) (count_at now a n) (eq-eqb m memory f) (eq-eqb b n e)
          ∙ (same_count n ∙ (ap (λ (k : ℕ). count_at start a k) (sym e) ∙ sym (chosen (nat_lt b (n + 1)) (cost start.costs m b a) (is_below b (n + 1) (let g = e in omega (arith, g))) ∙ cost_same start a memory m b of_memory f))))
      | inr f ↦ step_same _ (spent_at now.ledgers m b) (spent_at start.ledgers m b) _ _ _ (turn.spent.spent m b) (so.spent m b below)
          (not_chosen (nat_lt b n) (cost start.costs m b a) (not_below b n (let g = e in omega (arith, g))))
          (first_false (m == memory) (b == n) (count_at now a n) (is_not m memory f)
          ∙ sym (chosen (nat_lt b (n + 1)) (cost start.costs m b a) (is_below b (n + 1) (let g = e in omega (arith, g))) ∙ cost_other start a memory m b of_memory f))
    ]
    | inr e ↦ step_other _ (spent_at now.ledgers m b) (spent_at start.ledgers m b) _ _ _ (turn.spent.spent m b) (so.spent m b below)
        (second_false (m == memory) (b == n) (count_at now a n) (is_not b n e)) (below_same b n (cost start.costs m b a) e)
  ]

  own_turn : (b : ℕ) → b < n + 1 → 0 < count_at start a b → first_at start.costs.wide next.draft.firsts a b ≡ Some (spent_at start.ledgers memory b)
  own_turn b below some = elim (cases_eq b n) [
    | inl e ↦ ap (λ (k : ℕ). first_at start.costs.wide next.draft.firsts a k) e
        ∙ (turn.own (subst (λ (k : ℕ). 0 < k) (sym (same_count n ∙ ap (λ (k : ℕ). count_at start a k) (sym e))) some)
        ∙ (ap (λ (k : ℕ). Some k) (not_yet memory) ∙ ap (λ (k : ℕ). Some (spent_at start.ledgers memory k)) (sym e)))
    | inr e ↦ turn.others a b (let h = few in omega (arith, h, below)) (λ p. e p.1) ∙ so.own b (less b n below e) some
  ]
    where
      less : (m l : ℕ) → m < l + 1 → (m ≡ l → ⊥) → m < l
      less m l h none = grind (arith, h, none)

  pub row_turn : RowCharged a memory (n + 1) start next
  row_turn = record {
    keeps = keeps_then start now next so.keeps turn.keeps;
    log = turn.log ∙ so.log;
    spent = spent_turn;
    back = λ s. turn.spent.back s ∙ so.back s;
    others = λ x b below differs. turn.others x b below (λ p. differs p.0) ∙ so.others x b below differs;
    own = own_turn;
  }

pub row_full : (a memory n : ℕ) (start now : Standing) → memory_of_access start.costs.memories a ≡ Some memory → n < start.costs.wide → RowCharged a memory n start now → ports_in now.ledgers memory < spent_at now.ledgers memory n + count_at now a n → FullAt a memory start
row_full a memory n start now of_memory few so beyond = record {
  bank = n;
  few = few;
  beyond = (let p = so.keeps.alike.ports memory in
      let s : spent_at now.ledgers memory n ≡ spent_at start.ledgers memory n = so.spent memory n few ∙ (ap (λ (k : ℕ). spent_at start.ledgers memory n + k) (not_chosen (nat_lt n n) (cost start.costs memory n a) (not_below n n (let e : n ≤ n = omega arith in e))) ∙ (let e : spent_at start.ledgers memory n + 0 ≡ spent_at start.ledgers memory n = omega arith in e)) in
      let c : count_at now a n ≡ count_at start a n = ap (λ (x : Costs). slice_index x.counts (cell_of x.wide a n)) so.keeps.costs in
      omega (arith, beyond, p, s, c));
}

pub row_none : (a memory : ℕ) (s : Standing) → RowCharged a memory 0 s s
row_none a memory s = record {
  keeps = keeps_self s;
  log = refl;
  spent = λ m b below. (let e : nat_lt b 0 ≡ false = not_below b 0 (omega arith) in
      let f = not_chosen (nat_lt b 0) (cost s.costs m b a) e in omega (arith, f));
  back = λ x. refl;
  others = λ x b below differs. refl;
  own = λ b below some. absurd (let h = below in omega (arith, h));
}

-- an access that no operation uses
pub unused_walked : (a : ℕ) (s : Standing) → memory_of_access s.costs.memories a ≡ None → MeetsWalked s.costs (access a) s s
unused_walked a s e = record {
  keeps = keeps_self s;
  spent = λ m b few. (let f : cost s.costs m b a ≡ 0 = ap (λ (x : Option ℕ). cost_on x m (count_at s a b)) e in omega (arith, f));
  more = [];
  log = nothing_behind s.log;
  back = refl;
  granted = record {
    others = λ x b few none. refl;
    own = λ d x b m few i f some. absurd (let g : memory_of_access s.costs.memories a ≡ Some m = subst (λ (k : ℕ). memory_of_access s.costs.memories k ≡ Some m) i f in let h : None ≡ Some m = sym e ∙ g in cc);
  };
}
  where
    nothing_behind : {A : Type 0} (l : List A) → l ≡ l ++ []
    nothing_behind [] = refl
    nothing_behind (x ∷ l) = ap (λ (m : List _). x ∷ m) (nothing_behind l)

-- an access whose row is charged
pub row_walked : (a memory : ℕ) (start next : Standing) → memory_of_access start.costs.memories a ≡ Some memory → memory < length start.ledgers → RowCharged a memory start.costs.wide (log_marked start memory) next → MeetsWalked start.costs (access a) start next
row_walked a memory start next of_memory inside so = record {
  keeps = record { costs = so.keeps.costs; plan = so.keeps.plan; alike = so.keeps.alike };
  spent = λ m b few. so.spent m b few ∙ ap (λ (k : ℕ). spent_at start.ledgers m b + k) (chosen (nat_lt b start.costs.wide) (cost start.costs m b a) (is_below b start.costs.wide few));
  more = mark_of start.ledgers memory ∷ [];
  log = so.log;
  back = so.back (state_or (slice_get start.ledgers memory) (record { ports = 0; spent = [] }))
      ∙ (ap (λ (x : Option Spending). slice_set start.ledgers memory (state_or x (record { ports = 0; spent = [] }))) (slice_get-get_or start.ledgers memory (record { ports = 0; spent = [] }) inside)
      ∙ set-get_or start.ledgers memory (record { ports = 0; spent = [] }));
  granted = record {
    others = λ x b few none. so.others x b few none;
    own = λ d x b m few i f some.
        (let g : memory_of_access start.costs.memories a ≡ Some m = subst (λ (k : ℕ). memory_of_access start.costs.memories k ≡ Some m) i f in
        let e : memory ≡ m = (let h : Some memory ≡ Some m = sym of_memory ∙ g in cc) in
        let charged : 0 < count_at start a b = subst (λ (k : ℕ). 0 < k) (ap (λ (k : ℕ). cost start.costs m b k) i ∙ cost_same start a memory m b of_memory (sym e)) some in
        ap (λ (k : ℕ). first_at start.costs.wide next.draft.firsts k b) i ∙ (so.own b few charged
        ∙ (ap (λ (k : ℕ). Some (spent_at start.ledgers k b)) e ∙ (let h : spent_at start.ledgers m b ≡ spent_at start.ledgers m b + 0 = omega arith in ap (λ (k : ℕ). Some k) h))));
  };
}

pub row_overdrawn : (a memory : ℕ) (start : Standing) → memory_of_access start.costs.memories a ≡ Some memory → FullAt a memory (log_marked start memory) → Overdrawn start.costs (access a) start
row_overdrawn a memory start of_memory full = record {
  memory = memory;
  bank = full.bank;
  few = full.few;
  beyond = (let b = full.beyond in let c = cost_own start a memory full.bank of_memory in omega (arith, b, c));
}

-- what charging an access answers
pub charge_ends : (a memory : ℕ) (start mid next : Standing) (r : Result (Unit {0}) WalkStop) → memory_of_access start.costs.memories a ≡ Some memory → memory < length start.ledgers → mid ≡ log_marked start memory
    → ChargesRow a memory mid next r → WalksMeets (access a) start next r
charge_ends a memory start mid next (Ok done) of_memory inside e charges =
    row_walked a memory start next of_memory inside (subst (λ (s : Standing). RowCharged a memory s.costs.wide s next) e charges)
charge_ends a memory start mid next (Err stop.NoMemory) of_memory inside e charges = tt
charge_ends a memory start mid next (Err stop.Full) of_memory inside e charges =
    row_overdrawn a memory start of_memory (subst (λ (s : Standing). FullAt a memory s) e charges)
