-- Ledgers of memories, cell by cell. What is written at a memory is there and changes no other; so a grant spends on
-- one bank of one memory, going back over a log gives what was before it, and rising logs how to come back.
use Rattle.std.proofs.Common.{◌≡◌, ℕ, ◌+◌, ◌-◌, ◌≤◌, ◌<◌, true, false, Bool, if◌then◌else◌, inl, inr, max, refl, ap, sym, ◌∙◌, subst, arith, List, [], ◌∷◌, ◌++◌, length, take, drop, get_or, append_assoc, Option, Some, Result, Ok, Err}
use Rattle.std.specs.Prelude.{◌==◌, ◌&&◌, slice_get, slice_set}
use Rattle.std.specs.List.{AllByRecursion}
use Rattle.std.proofs.lemmas.Bool.{eq-eqb, cases_eq}
use Rattle.std.proofs.lemmas.List.{drop_more, take_more, length-set, get_or-set_same, get_or-set_other, set-set, set-get_or}
use Rattle.dh_ledger.specs.declared.ledgers.Full.{Full}
use Rattle.dh_ledger.specs.Calls.{Grants}
use Rattle.dh_ledger.specs.Granted.{Granted}
use Rattle.dh_ledger.specs.Spending.{Spending, spent_on, raised, IsLarger}
use Rattle.dh_bind.specs.declared.ledgers.LedgerMark.{LedgerMark}
use Rattle.dh_bind.specs.Ledgers.{spent_in, spending_ports, spending_banks, spent_at, ports_in, ledger_banks, Alike, SpentMore, GrantsAt, IsMark, AreMarks, undone_ledgers, state_or, ends_now, top, Rises}
use Rattle.dh_bind.proofs.Driven.{get_set_same, get_set_other, is_not}
use Rattle.dh_bind.proofs.Flat.{got}
use Rattle.dh_bind.proofs.Noting.{all_get}

-- what is written at a memory
pub spent_same : (ledgers : List Spending) (k : ℕ) (s : Spending) (bank : ℕ) → k < length ledgers → spent_at (slice_set ledgers k s) k bank ≡ spent_on s bank
spent_same ledgers k s bank h = ap (λ (x : Option Spending). spent_in x bank) (get_set_same ledgers k s h)

pub spent_other : (ledgers : List Spending) (k : ℕ) (s : Spending) (m bank : ℕ) → (m ≡ k → ⊥) → spent_at (slice_set ledgers k s) m bank ≡ spent_at ledgers m bank
spent_other ledgers k s m bank h = ap (λ (x : Option Spending). spent_in x bank) (get_set_other ledgers k m s h)

pub alike_set : (ledgers : List Spending) (k : ℕ) (s : Spending) → k < length ledgers → s.ports ≡ ports_in ledgers k → length s.spent ≡ ledger_banks ledgers k → Alike ledgers (slice_set ledgers k s)
alike_set ledgers k s h ports banks = record {
  long = length-set ledgers k s;
  ports = λ m. elim (cases_eq m k) [
    | inl e ↦ ap (λ (n : ℕ). ports_in (slice_set ledgers k s) n) e ∙ (ap spending_ports (get_set_same ledgers k s h) ∙ (ports ∙ ap (λ (n : ℕ). ports_in ledgers n) (sym e)))
    | inr f ↦ ap spending_ports (get_set_other ledgers k m s f)
  ];
  banks = λ m. elim (cases_eq m k) [
    | inl e ↦ ap (λ (n : ℕ). ledger_banks (slice_set ledgers k s) n) e ∙ (ap spending_banks (get_set_same ledgers k s h) ∙ (banks ∙ ap (λ (n : ℕ). ledger_banks ledgers n) (sym e)))
    | inr f ↦ ap spending_banks (get_set_other ledgers k m s f)
  ];
}

pub alike_self : (a : List Spending) → Alike a a
alike_self a = record { long = refl; ports = λ m. refl; banks = λ m. refl }

pub alike_then : (a b c : List Spending) → Alike a b → Alike b c → Alike a c
alike_then a b c x y = record { long = y.long ∙ x.long; ports = λ m. y.ports m ∙ x.ports m; banks = λ m. y.banks m ∙ x.banks m }

pub mark_alike : (a b : List Spending) (k : LedgerMark) → Alike a b → IsMark a k → IsMark b k
mark_alike a b k x h = record {
  inside = (let l = x.long in let i = h.inside in omega (arith, l, i));
  ports = h.ports ∙ sym (x.ports k.memory);
  banks = h.banks ∙ sym (x.banks k.memory);
}

pub marks_alike : (a b : List Spending) (log : List LedgerMark) → Alike a b → AreMarks a log → AreMarks b log
marks_alike a b [] x all = tt
marks_alike a b (k ∷ log) x all = (mark_alike a b k x all.0, marks_alike a b log x all.1)

-- a grant
both_true : (s t : Bool) (n : ℕ) → s ≡ true → t ≡ true → (if s && t then n else 0) ≡ n
both_true true true n e f = refl
both_true true false n e f = absurd (let g : false ≡ true = f in cc)
both_true false t n e f = absurd (let g : false ≡ true = e in cc)

first_false : (s t : Bool) (n : ℕ) → s ≡ false → (if s && t then n else 0) ≡ 0
first_false true t n e = absurd (let g : true ≡ false = e in cc)
first_false false t n e = refl

second_false : (s t : Bool) (n : ℕ) → t ≡ false → (if s && t then n else 0) ≡ 0
second_false true true n e = absurd (let g : true ≡ false = e in cc)
second_false true false n e = refl
second_false false t n e = refl

plus : (a b c d : ℕ) → a ≡ b → d ≡ c → a ≡ b + (d - c)
plus a b c d e f = omega (arith, e, f)

no_more : (a b c : ℕ) → a ≡ b → c ≡ 0 → a ≡ b + c
no_more a b c e f = omega (arith, e, f)

so_much : (a b c d : ℕ) → a ≡ b + d → c ≡ d → a ≡ b + c
so_much a b c d e f = omega (arith, e, f)

-- nothing is spent
pub spent_nothing : (ledgers : List Spending) (memory bank count : ℕ) → count ≡ 0 → SpentMore ledgers ledgers memory bank count
spent_nothing ledgers memory bank count e = record {
  alike = alike_self ledgers;
  spent = λ m b. no_more _ _ _ refl (none ((m == memory) && (b == bank)) count e);
  back = λ s. refl;
}
  where
    none : (t : Bool) (n : ℕ) → n ≡ 0 → (if t then n else 0) ≡ 0
    none true n f = f
    none false n f = refl

module _ (ledgers : List Spending) (memory bank count : ℕ) (s : Spending) (inside : memory < length ledgers) (is : slice_get ledgers memory ≡ Some s) (below : bank < length s.spent) where
  raised_spent : (m b : ℕ) → spent_at (slice_set ledgers memory (raised s bank count)) m b ≡ spent_at ledgers m b + (if (m == memory) && (b == bank) then count else 0)
  raised_spent m b = elim (cases_eq m memory) [
    | inl e ↦ elim (cases_eq b bank) [
      | inl f ↦ so_much _ _ _ count
          (ap (λ (k : ℕ). spent_at (slice_set ledgers memory (raised s bank count)) k b) e ∙ (spent_same ledgers memory (raised s bank count) b inside
          ∙ (ap (λ (k : ℕ). spent_on (raised s bank count) k) f ∙ (get_or-set_same s.spent bank (spent_on s bank + count) 0 below
          ∙ ap (λ (n : ℕ). n + count) (sym (ap (λ (k : ℕ). spent_at ledgers k b) e ∙ (ap (λ (x : Option Spending). spent_in x b) is ∙ ap (λ (k : ℕ). spent_on s k) f)))))))
          (both_true (m == memory) (b == bank) count (eq-eqb m memory e) (eq-eqb b bank f))
      | inr f ↦ no_more _ _ _
          (ap (λ (k : ℕ). spent_at (slice_set ledgers memory (raised s bank count)) k b) e ∙ (spent_same ledgers memory (raised s bank count) b inside
          ∙ (get_or-set_other s.spent bank b (spent_on s bank + count) 0 f
          ∙ sym (ap (λ (k : ℕ). spent_at ledgers k b) e ∙ ap (λ (x : Option Spending). spent_in x b) is))))
          (second_false (m == memory) (b == bank) count (is_not b bank f))
    ]
    | inr e ↦ no_more _ _ _ (spent_other ledgers memory (raised s bank count) m b e) (first_false (m == memory) (b == bank) count (is_not m memory e))
  ]

  raised_more : SpentMore ledgers (slice_set ledgers memory (raised s bank count)) memory bank count
  raised_more = record {
    alike = alike_set ledgers memory (raised s bank count) inside (sym (ap spending_ports is)) (length-set s.spent bank (spent_on s bank + count) ∙ sym (ap spending_banks is));
    spent = raised_spent;
    back = λ x. set-set ledgers memory (raised s bank count) x;
  }

pub grants_at : (ledgers : List Spending) (memory bank count : ℕ) (s new : Spending) (result : Result Granted Full) → memory < length ledgers → s ≡ get_or ledgers memory s → bank < ledger_banks ledgers memory
    → Grants s new memory bank count result → GrantsAt ledgers (slice_set ledgers memory new) memory bank count result
grants_at ledgers memory bank count s new (Ok token) inside e below g =
    let is = got ledgers memory s inside e in
    let number : spent_at ledgers memory bank ≡ spent_on s bank = ap (λ (x : Option Spending). spent_in x bank) is in (
      g.0 ∙ ap (λ (n : ℕ). granted memory bank n count) (sym number),
      subst (λ (x : Spending). SpentMore ledgers (slice_set ledgers memory x) memory bank count) (sym g.1.new_is)
          (raised_more ledgers memory bank count s inside is (let b : ledger_banks ledgers memory ≡ length s.spent = ap spending_banks is in omega (arith, b, below))),
    )
  where
    granted : (m b f c : ℕ) → Granted
    granted m b f c = record { memory = m; bank = b; first = f; count = c }
grants_at ledgers memory bank count s new (Err full) inside e below g =
    let is = got ledgers memory s inside e in
    let number : spent_at ledgers memory bank ≡ spent_on s bank = ap (λ (x : Option Spending). spent_in x bank) is in
    let ports : ports_in ledgers memory ≡ s.ports = ap spending_ports is in
    let beyond = g.beyond in
    (ap (λ (x : Spending). slice_set ledgers memory x) (g.new_is ∙ e) ∙ set-get_or ledgers memory s, omega (arith, number, ports, beyond))

-- one more end
pub ends_turn : (ledgers : List Spending) (log : List LedgerMark) (i : ℕ) (k : LedgerMark) (s : Spending) (so_far next all : List LedgerMark) → i < length log → k ≡ get_or log i k → AreMarks ledgers log
    → so_far ++ ends_now ledgers (drop i log) ≡ all → s ≡ get_or ledgers k.memory s → next ≡ so_far ++ record { memory = k.memory; state = s } ∷ [] → next ++ ends_now ledgers (drop (i + 1) log) ≡ all
ends_turn ledgers log i k s so_far next all h e marks so is f =
    let own : IsMark ledgers k = subst (λ (x : LedgerMark). IsMark ledgers x) (sym e) (all_get (IsMark ledgers) log i k marks h) in
    let found : slice_get ledgers k.memory ≡ Some s = got ledgers k.memory s own.inside is in
    let rest : drop i log ≡ k ∷ drop (i + 1) log = drop_more log i k h ∙ ap (λ (x : LedgerMark). x ∷ drop (i + 1) log) (sym e) in
    ap (λ (x : List LedgerMark). x ++ ends_now ledgers (drop (i + 1) log)) f
    ∙ (append_assoc so_far (marked k.memory s ∷ []) (ends_now ledgers (drop (i + 1) log))
    ∙ (ap (λ (x : List LedgerMark). so_far ++ x) (sym (ap (λ (x : List LedgerMark). ends_now ledgers x) rest ∙ ap (λ (x : Option Spending). marked k.memory (state_or x k.state) ∷ ends_now ledgers (drop (i + 1) log)) found)) ∙ so))
  where
    marked : (m : ℕ) → Spending → LedgerMark
    marked m t = record { memory = m; state = t }

-- one change back
pub back_turn : (log : List LedgerMark) (i : ℕ) (k : LedgerMark) (ledgers start : List Spending) (new : Spending) → 0 < i → i ≤ length log → k ≡ get_or log (i - 1) k → AreMarks start log
    → ledgers ≡ undone_ledgers (drop i log) start → Alike start ledgers → new ≡ k.state
    → (slice_set ledgers k.memory new ≡ undone_ledgers (drop (i - 1) log) start) × Alike start (slice_set ledgers k.memory new)
back_turn log i k ledgers start new more within e marks so alike is =
    let below : i - 1 < length log = omega (arith, more, within) in
    let own : IsMark start k = subst (λ (x : LedgerMark). IsMark start x) (sym e) (all_get (IsMark start) log (i - 1) k marks below) in
    let now : IsMark ledgers k = mark_alike start ledgers k alike own in
    let next : i - 1 + 1 ≡ i = omega (arith, more) in
    let rest : drop (i - 1) log ≡ k ∷ drop i log = drop_more log (i - 1) k below ∙ (ap (λ (x : LedgerMark). x ∷ drop (i - 1 + 1) log) (sym e) ∙ ap (λ (n : ℕ). k ∷ drop n log) next) in (
      ap (λ (x : Spending). slice_set ledgers k.memory x) is ∙ (ap (λ (x : List Spending). slice_set x k.memory k.state) so ∙ sym (ap (λ (x : List LedgerMark). undone_ledgers x start) rest)),
      alike_then start ledgers (slice_set ledgers k.memory new) alike
          (subst (λ (x : Spending). Alike ledgers (slice_set ledgers k.memory x)) (sym is) (alike_set ledgers k.memory k.state now.inside now.ports now.banks)),
    )

-- rising
pub undone_joined : (a b : List LedgerMark) (ledgers : List Spending) → undone_ledgers (a ++ b) ledgers ≡ undone_ledgers a (undone_ledgers b ledgers)
undone_joined [] b ledgers = refl
undone_joined (k ∷ a) b ledgers = ap (λ (x : List Spending). slice_set x k.memory k.state) (undone_joined a b ledgers)

max_regroup : (a b c : ℕ) → max a (max b c) ≡ max (max a b) c
max_regroup a b c = grind arith

none_most : (n : ℕ) → n ≡ max 0 n
none_most n = grind arith

most_none : (n : ℕ) → n ≡ max n 0
most_none n = grind arith

pub top_joined : (a b : List LedgerMark) (memory bank : ℕ) → top (a ++ b) memory bank ≡ max (top a memory bank) (top b memory bank)
top_joined [] b memory bank = none_most (top b memory bank)
top_joined (k ∷ a) b memory bank =
    ap (λ (n : ℕ). max (if k.memory == memory then spent_on k.state bank else 0) n) (top_joined a b memory bank)
    ∙ max_regroup (if k.memory == memory then spent_on k.state bank else 0) (top a memory bank) (top b memory bank)

pub top_same : (k : LedgerMark) (memory bank : ℕ) → k.memory ≡ memory → top (k ∷ []) memory bank ≡ spent_on k.state bank
top_same k memory bank e = ap (λ (t : Bool). max (if t then spent_on k.state bank else 0) 0) (eq-eqb k.memory memory e) ∙ sym (most_none (spent_on k.state bank))

pub top_other : (k : LedgerMark) (memory bank : ℕ) → (k.memory ≡ memory → ⊥) → top (k ∷ []) memory bank ≡ 0
top_other k memory bank f = ap (λ (t : Bool). max (if t then spent_on k.state bank else 0) 0) (is_not k.memory memory f)

pub all_joined : (P : LedgerMark → Type 0) (a b : List LedgerMark) → AllByRecursion P a → AllByRecursion P b → AllByRecursion P (a ++ b)
all_joined P [] b x y = y
all_joined P (k ∷ a) b x y = (x.0, all_joined P a b x.1 y)

rise_up : (n o t k x y : ℕ) → n ≡ max x k → x ≡ max o t → y ≡ k → n ≡ max o (max t y)
rise_up n o t k x y e f g = grind (arith, e, f, g)

rise_past : (n o t y : ℕ) → n ≡ max o t → y ≡ 0 → n ≡ max o (max t y)
rise_past n o t y e g = grind (arith, e, g)

pub rise_one : (ends : List LedgerMark) (start ledgers : List Spending) (log now : List LedgerMark) (k : LedgerMark) (s state new : Spending) → IsMark start k → s ≡ get_or ledgers k.memory s → state ≡ s
    → IsLarger s k.state new → Rises ends start ledgers log now → Rises (ends ++ k ∷ []) start (slice_set ledgers k.memory new) log (now ++ record { memory = k.memory; state = state } ∷ [])
rise_one ends start ledgers log now k s state new own e state_is larger so =
    let here : IsMark ledgers k = mark_alike start ledgers k so.alike own in
    let is : slice_get ledgers k.memory ≡ Some s = got ledgers k.memory s here.inside e in
    record {
      alike = alike_then start ledgers (slice_set ledgers k.memory new) so.alike
          (alike_set ledgers k.memory new here.inside (sym larger.alike.ports ∙ sym (ap spending_ports is)) (sym larger.alike.banks ∙ sym (ap spending_banks is)));
      spent = λ m b. elim (cases_eq m k.memory) [
        | inl f ↦ rise_up _ (spent_at start m b) (top ends m b) (spent_on k.state b) (spent_at ledgers m b) (top (k ∷ []) m b)
            (ap (λ (n : ℕ). spent_at (slice_set ledgers k.memory new) n b) f ∙ (spent_same ledgers k.memory new b here.inside ∙ (larger.each b
            ∙ ap (λ (n : ℕ). max n (spent_on k.state b)) (sym (ap (λ (n : ℕ). spent_at ledgers n b) f ∙ ap (λ (x : Option Spending). spent_in x b) is)))))
            (so.spent m b) (top_same k m b (sym f)) ∙ ap (λ (n : ℕ). max (spent_at start m b) n) (sym (top_joined ends (k ∷ []) m b))
        | inr f ↦ rise_past _ (spent_at start m b) (top ends m b) (top (k ∷ []) m b) (spent_other ledgers k.memory new m b f ∙ so.spent m b) (top_other k m b (λ g. f (sym g)))
            ∙ ap (λ (n : ℕ). max (spent_at start m b) n) (sym (top_joined ends (k ∷ []) m b))
      ];
      more = so.more ++ record { memory = k.memory; state = state } ∷ [];
      log_is = ap (λ (x : List LedgerMark). x ++ record { memory = k.memory; state = state } ∷ []) so.log_is ∙ append_assoc log so.more (record { memory = k.memory; state = state } ∷ []);
      back = undone_joined so.more (record { memory = k.memory; state = state } ∷ []) (slice_set ledgers k.memory new)
          ∙ (ap (λ (x : List Spending). undone_ledgers so.more x) (set-set ledgers k.memory new state ∙ (ap (λ (x : Spending). slice_set ledgers k.memory x) (state_is ∙ e) ∙ set-get_or ledgers k.memory s)) ∙ so.back);
    }

pub rise_turn : (ends : List LedgerMark) (i : ℕ) (start ledgers : List Spending) (log now next : List LedgerMark) (k : LedgerMark) (s state new : Spending) → i < length ends → k ≡ get_or ends i k → AreMarks start ends
    → s ≡ get_or ledgers k.memory s → state ≡ s → IsLarger s k.state new → Rises (take i ends) start ledgers log now → next ≡ now ++ record { memory = k.memory; state = state } ∷ []
    → Rises (take (i + 1) ends) start (slice_set ledgers k.memory new) log next
rise_turn ends i start ledgers log now next k s state new h e marks is state_is larger so f =
    let own : IsMark start k = subst (λ (x : LedgerMark). IsMark start x) (sym e) (all_get (IsMark start) ends i k marks h) in
    subst (λ (x : List LedgerMark). Rises x start (slice_set ledgers k.memory new) log next) (sym (take_more ends i k h ∙ ap (λ (x : LedgerMark). take i ends ++ x ∷ []) (sym e)))
    (subst (λ (x : List LedgerMark). Rises (take i ends ++ k ∷ []) start (slice_set ledgers k.memory new) log x) (sym f) (rise_one (take i ends) start ledgers log now k s state new own is state_is larger so))

pub marks_turn : (ends : List LedgerMark) (i : ℕ) (start ledgers : List Spending) (now next : List LedgerMark) (k : LedgerMark) (s state : Spending) → i < length ends → k ≡ get_or ends i k → AreMarks start ends
    → s ≡ get_or ledgers k.memory s → state ≡ s → Alike start ledgers → AreMarks start now → next ≡ now ++ record { memory = k.memory; state = state } ∷ [] → AreMarks start next
marks_turn ends i start ledgers now next k s state h e marks is state_is alike so f =
    let own : IsMark start k = subst (λ (x : LedgerMark). IsMark start x) (sym e) (all_get (IsMark start) ends i k marks h) in
    let here : IsMark ledgers k = mark_alike start ledgers k alike own in
    let found : slice_get ledgers k.memory ≡ Some s = got ledgers k.memory s here.inside is in
    subst (λ (x : List LedgerMark). AreMarks start x) (sym f)
    (all_joined (IsMark start) now (record { memory = k.memory; state = state } ∷ []) so (
      record {
        inside = own.inside;
        ports = ap (λ (x : Spending). x.ports) state_is ∙ (sym (ap spending_ports found) ∙ alike.ports k.memory);
        banks = ap (λ (x : Spending). length x.spent) state_is ∙ (sym (ap spending_banks found) ∙ alike.banks k.memory);
      },
      tt,
    ))
