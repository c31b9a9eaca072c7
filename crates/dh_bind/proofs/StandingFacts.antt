-- Where a walk stands, from what its fields hold: each call keeps what always holds, and does what its contract says.
use Rattle.std.proofs.Common.{◌≡◌, ℕ, suc, zero, ◌+◌, ◌*◌, ◌≤◌, ◌<◌, refl, ap, sym, ◌∙◌, subst, arith, List, [], ◌∷◌, ◌++◌, length, take, drop, get_or, Option, Some, None}
use Rattle.std.specs.Prelude.{slice_get}
use Rattle.std.specs.List.{AllByRecursion}
use Rattle.std.proofs.lemmas.List.{get_or_default}
use Rattle.std.proofs.lemmas.Option.{slice_get_past, slice_get-get_or}
use Rattle.dh_ledger.specs.Granted.{Granted}
use Rattle.dh_ledger.specs.Spending.{Spending}
use Rattle.dh_plan.specs.declared.plans.Plan.{Plan}
use Rattle.dh_bind.specs.declared.ledgers.LedgerMark.{LedgerMark}
use Rattle.dh_bind.specs.Costs.{memory_of_access}
use Rattle.dh_bind.specs.Drafts.{Draft, flattened, first_at, put_first, cell_of, granted_at, operations_rows, operations_width, all_operations}
use Rattle.dh_bind.specs.Ledgers.{Alike, SpentMore, IsMark, AreMarks, spent_at, ports_in, state_or, spending_ports, spending_banks, undone_ledgers, ends_now}
use Rattle.dh_bind.specs.Standings.{Standing, IsStanding, mark_of, log_marked, count_at, BankCharged, TakenBack}
use Rattle.dh_bind.proofs.Cells.{cell_inside}
use Rattle.dh_bind.proofs.Driven.{first_set, first_kept, put_long}
use Rattle.dh_bind.proofs.Flat.{got}
use Rattle.dh_bind.proofs.LedgerFacts.{marks_alike, all_joined, spent_nothing, alike_self}

-- a memory that is read
pub read_memory : (memories : List (Option ℕ)) (a : ℕ) (x : Option ℕ) → a < length memories → x ≡ get_or memories a x → memory_of_access memories a ≡ x
read_memory memories a x h e = ap flattened (got memories a x h e)

pub memory_read : (ms memories : List (Option ℕ)) → ms ≡ memories → (a : ℕ) → a < length ms → memory_of_access memories a ≡ get_or ms a None
memory_read ms memories e a h = ap (λ (l : List (Option ℕ)). memory_of_access l a) (sym e) ∙ ap flattened (slice_get-get_or ms a None h)

pub count_read : (fields s : Standing) → fields ≡ s → IsStanding fields → (access bank : ℕ) → access < length s.costs.memories → bank < s.costs.wide → (p : ℕ) → p ≡ access * fields.costs.wide → (x : ℕ) → x ≡ get_or fields.costs.counts (p + bank) x → x ≡ count_at fields access bank
count_read fields s same is access bank row few p q x e =
    let r : access < length fields.costs.memories = subst (λ (y : Standing). access < length y.costs.memories) (sym same) row in
    let b : bank < fields.costs.wide = subst (λ (y : Standing). bank < y.costs.wide) (sym same) few in
    let inside : cell_of fields.costs.wide access bank < length fields.costs.counts =
    subst (λ (n : ℕ). cell_of fields.costs.wide access bank < n) (sym is.cells) (cell_inside (length fields.costs.memories) fields.costs.wide access bank r b) in
    e ∙ (ap (λ (n : ℕ). get_or fields.costs.counts (n + bank) x) q ∙ get_or_default fields.costs.counts (cell_of fields.costs.wide access bank) x 0 inside)

pub past_memory : (memories : List (Option ℕ)) (a : ℕ) → length memories ≤ a → memory_of_access memories a ≡ None
past_memory memories a h = ap flattened (slice_get_past memories a h)

pub memory_inside : (fields s : Standing) → fields ≡ s → IsStanding fields → (a memory : ℕ) → memory_of_access fields.costs.memories a ≡ Some memory → memory < length s.ledgers
memory_inside fields s same is a memory e = subst (λ (x : Standing). memory < length x.ledgers) same (is.inside a memory e)

-- a mark of a ledger as it stands
pub mark_is : (ledgers : List Spending) (memory : ℕ) (state : Spending) → memory < length ledgers → state ≡ get_or ledgers memory state → record { memory = memory; state = state } ≡ mark_of ledgers memory
mark_is ledgers memory state h e = ap (λ (x : Option Spending). marked memory (state_or x (record { ports = 0; spent = [] }))) (sym (got ledgers memory state h e))
  where
    marked : (m : ℕ) → Spending → LedgerMark
    marked m t = record { memory = m; state = t }

pub mark_stands : (ledgers : List Spending) (memory : ℕ) → memory < length ledgers → IsMark ledgers (mark_of ledgers memory)
mark_stands ledgers memory h = record { inside = h; ports = of_state (slice_get ledgers memory); banks = of_banks (slice_get ledgers memory) }
  where
    of_state : (x : Option Spending) → (state_or x (record { ports = 0; spent = [] })).ports ≡ spending_ports x
    of_state None = refl
    of_state (Some s) = refl

    of_banks : (x : Option Spending) → length (state_or x (record { ports = 0; spent = [] })).spent ≡ spending_banks x
    of_banks None = refl
    of_banks (Some s) = refl

-- it is logged
abbrev pub with_log : Standing → List LedgerMark → Standing
with_log s log = record { costs = s.costs; ledgers = s.ledgers; log = log; draft = s.draft }

pub logged_is : (fields s : Standing) → fields ≡ s → (memory : ℕ) (state : Spending) (log : List LedgerMark) → memory < length s.ledgers → state ≡ get_or fields.ledgers memory state → log ≡ fields.log ++ record { memory = memory; state = state } ∷ []
    → with_log fields log ≡ log_marked s memory
logged_is fields s same memory state log h e f =
    let inside : memory < length fields.ledgers = subst (λ (x : Standing). memory < length x.ledgers) (sym same) h in
    ap (λ (x : List LedgerMark). with_log fields x) (f ∙ ap (λ (x : LedgerMark). fields.log ++ x ∷ []) (mark_is fields.ledgers memory state inside e)) ∙ ap (λ (x : Standing). log_marked x memory) same

pub logged_stands : (fields s : Standing) → fields ≡ s → IsStanding fields → (memory : ℕ) (state : Spending) (log : List LedgerMark) → memory < length s.ledgers → state ≡ get_or fields.ledgers memory state
    → log ≡ fields.log ++ record { memory = memory; state = state } ∷ [] → IsStanding (with_log fields log)
logged_stands fields s same is memory state log h e f =
    let inside : memory < length fields.ledgers = subst (λ (x : Standing). memory < length x.ledgers) (sym same) h in
    record {
      wide = is.wide;
      few = is.few;
      cells = is.cells;
      rows = is.rows;
      firsts = is.firsts;
      inside = is.inside;
      banks = is.banks;
      marks = subst (λ (x : List LedgerMark). AreMarks fields.ledgers x) (sym (f ∙ ap (λ (x : LedgerMark). fields.log ++ x ∷ []) (mark_is fields.ledgers memory state inside e)))
          (all_joined (IsMark fields.ledgers) fields.log (mark_of fields.ledgers memory ∷ []) is.marks (mark_stands fields.ledgers memory inside, tt));
    }

-- ledgers alike, other first ports
pub stands_then : (fields : Standing) → IsStanding fields → (ledgers : List Spending) (log : List LedgerMark) (draft : Draft) → Alike fields.ledgers ledgers → AreMarks fields.ledgers log → draft.plan ≡ fields.draft.plan → length draft.firsts ≡ length fields.draft.firsts
    → IsStanding (record { costs = fields.costs; ledgers = ledgers; log = log; draft = draft })
stands_then fields is ledgers log draft alike marks plan long = record {
  wide = is.wide ∙ ap (λ (p : Plan). operations_width (all_operations p.blocks)) (sym plan);
  few = is.few;
  cells = is.cells;
  rows = is.rows ∙ ap (λ (p : Plan). operations_rows (all_operations p.blocks)) (sym plan);
  firsts = long ∙ is.firsts;
  inside = λ access memory e. (let l = alike.long in let h = is.inside access memory e in omega (arith, l, h));
  banks = λ memory h. alike.banks memory ∙ is.banks memory (let l = alike.long in omega (arith, l, h));
  marks = marks_alike fields.ledgers ledgers log alike marks;
}

-- one bank is charged
pub bank_unchanged : (s : Standing) (access memory bank : ℕ) → count_at s access bank ≡ 0 → BankCharged s.costs.wide access memory bank s s
bank_unchanged s access memory bank e = record {
  keeps = record { costs = refl; plan = refl; alike = alike_self s.ledgers };
  log = refl;
  spent = spent_nothing s.ledgers memory bank (count_at s access bank) e;
  others = λ a b few differs. refl;
  own = λ some. absurd (omega (arith, e, some));
}

module _ (fields s : Standing) (same : fields ≡ s) (is : IsStanding fields) (access memory bank count : ℕ) (row : access < length s.costs.memories) (few : bank < s.costs.wide)
    (ledgers : List Spending) (draft : Draft) (token : Granted) (token_is : token ≡ record { memory = memory; bank = bank; first = spent_at fields.ledgers memory bank; count = count })
    (more : SpentMore fields.ledgers ledgers memory bank count) (driven : draft ≡ granted_at fields.draft access token.bank token.first) where
  draft_is : draft ≡ granted_at fields.draft access bank (spent_at fields.ledgers memory bank)
  draft_is = driven ∙ ap (λ (t : Granted). granted_at fields.draft access t.bank t.first) token_is

  firsts_are : draft.firsts ≡ put_first fields.costs.wide fields.draft.firsts access bank (spent_at fields.ledgers memory bank)
  firsts_are = ap (λ (d : Draft). d.firsts) draft_is ∙ ap (λ (n : ℕ). put_first n fields.draft.firsts access bank (spent_at fields.ledgers memory bank)) (sym is.wide)

  below_width : bank < fields.costs.wide
  below_width = subst (λ (x : Standing). bank < x.costs.wide) (sym same) few

  place_inside : cell_of fields.costs.wide access bank < length fields.draft.firsts
  place_inside = subst (λ (n : ℕ). cell_of fields.costs.wide access bank < n) (sym is.firsts)
      (cell_inside (length fields.costs.memories) fields.costs.wide access bank (subst (λ (x : Standing). access < length x.costs.memories) (sym same) row) below_width)

  pub charged_stands : IsStanding (record { costs = fields.costs; ledgers = ledgers; log = fields.log; draft = draft })
  charged_stands = stands_then fields is ledgers fields.log draft more.alike is.marks (ap (λ (d : Draft). d.plan) draft_is)
      (ap (λ (l : List (Option ℕ)). length l) firsts_are ∙ put_long fields.costs.wide fields.draft.firsts access bank (spent_at fields.ledgers memory bank))

  charged_fields : count ≡ count_at fields access bank → BankCharged fields.costs.wide access memory bank fields (record { costs = fields.costs; ledgers = ledgers; log = fields.log; draft = draft })
  charged_fields e = record {
    keeps = record { costs = refl; plan = ap (λ (d : Draft). d.plan) draft_is; alike = more.alike };
    log = refl;
    spent = subst (λ (n : ℕ). SpentMore fields.ledgers ledgers memory bank n) e more;
    others = λ a b below differs. ap (λ (l : List (Option ℕ)). first_at fields.costs.wide l a b) firsts_are ∙ first_kept fields.costs.wide fields.draft.firsts access bank (spent_at fields.ledgers memory bank) a b below differs;
    own = λ some. ap (λ (l : List (Option ℕ)). first_at fields.costs.wide l access bank) firsts_are ∙ first_set fields.costs.wide fields.draft.firsts access bank (spent_at fields.ledgers memory bank) below_width place_inside;
  }

  pub charged : count ≡ count_at fields access bank → BankCharged s.costs.wide access memory bank s (record { costs = fields.costs; ledgers = ledgers; log = fields.log; draft = draft })
  charged e = subst (λ (x : Standing). BankCharged x.costs.wide access memory bank x (record { costs = fields.costs; ledgers = ledgers; log = fields.log; draft = draft })) same (charged_fields e)

-- a refused grant changes nothing
pub refused_stands : (fields : Standing) → IsStanding fields → (ledgers : List Spending) → ledgers ≡ fields.ledgers → IsStanding (record { costs = fields.costs; ledgers = ledgers; log = fields.log; draft = fields.draft })
refused_stands fields is ledgers e = subst (λ (x : List Spending). IsStanding (record { costs = fields.costs; ledgers = x; log = fields.log; draft = fields.draft })) (sym e) is

pub refused : (fields s : Standing) → fields ≡ s → (access memory bank count : ℕ) → count ≡ count_at fields access bank → ports_in fields.ledgers memory < spent_at fields.ledgers memory bank + count
    → ports_in s.ledgers memory < spent_at s.ledgers memory bank + count_at s access bank
refused fields s same access memory bank count e beyond =
    subst (λ (x : Standing). ports_in x.ledgers memory < spent_at x.ledgers memory bank + count_at x access bank) same
    (subst (λ (n : ℕ). ports_in fields.ledgers memory < spent_at fields.ledgers memory bank + n) e beyond)

-- marks of a part of a log
pub all_drop : (P : LedgerMark → Type 0) (n : ℕ) (log : List LedgerMark) → AllByRecursion P log → AllByRecursion P (drop n log)
all_drop P zero log all = all
all_drop P (suc n) [] all = tt
all_drop P (suc n) (k ∷ log) all = all_drop P n log all.1

pub all_take : (P : LedgerMark → Type 0) (n : ℕ) (log : List LedgerMark) → AllByRecursion P log → AllByRecursion P (take n log)
all_take P zero log all = tt
all_take P (suc n) [] all = tt
all_take P (suc n) (k ∷ log) all = (all.0, all_take P n log all.1)

-- a part is taken back
pub back_stands : (fields : Standing) → IsStanding fields → (n : ℕ) (ledgers : List Spending) (log : List LedgerMark) → Alike fields.ledgers ledgers → log ≡ take n fields.log → IsStanding (record { costs = fields.costs; ledgers = ledgers; log = log; draft = fields.draft })
back_stands fields is n ledgers log alike e =
    stands_then fields is ledgers log fields.draft alike (subst (λ (x : List LedgerMark). AreMarks fields.ledgers x) (sym e) (all_take (IsMark fields.ledgers) n fields.log is.marks)) refl refl

pub back_taken : (fields s : Standing) → fields ≡ s → IsStanding fields → (n : ℕ) (ledgers : List Spending) (log ends next : List LedgerMark) → ledgers ≡ undone_ledgers (drop n fields.log) fields.ledgers → log ≡ take n fields.log → next ≡ ends ++ ends_now fields.ledgers (drop n fields.log)
    → TakenBack n s (record { costs = fields.costs; ledgers = ledgers; log = log; draft = fields.draft }) ends next
back_taken fields s same is n ledgers log ends next e f g =
    subst (λ (x : Standing). TakenBack n x (record { costs = fields.costs; ledgers = ledgers; log = log; draft = fields.draft }) ends next) same
    (record { costs = refl; draft = refl; log = f; ledgers = e; marks = all_drop (IsMark fields.ledgers) n fields.log is.marks; noted = g })
