-- Parts one behind the other, and parts of which no two meet. Loads of parts add up, or the greatest counts; a log of
-- parts is one behind the other; and what is granted in a part stays, since its accesses stand in no other part.
use Rattle.std.proofs.Common.{◌≡◌, ℕ, suc, zero, ◌+◌, ◌≤◌, ◌<◌, Bool, if◌then◌else◌, ◌⊎◌, inl, inr, max, refl, ap, sym, ◌∙◌, subst, arith, List, [], ◌∷◌, ◌++◌, length, take, drop, get_or, append_assoc, Option, Some, None}
use Rattle.std.specs.Prelude.{slice_get, ◌==◌}
use Rattle.std.proofs.lemmas.Bool.{cases_eq, eq-eqb}
use Rattle.std.proofs.lemmas.List.{take_at, drop_at, drop_all}
use Rattle.std.proofs.Math.Nat.{le-max_left, le-max_right}
use Rattle.dh_tree.specs.Meets.{Meets, nothing, all, one, load}
use Rattle.dh_ledger.specs.Spending.{Spending, spent_on}
use Rattle.dh_bind.specs.declared.ledgers.LedgerMark.{LedgerMark}
use Rattle.dh_bind.specs.Costs.{Costs, cost}
use Rattle.dh_bind.specs.Drafts.{Draft}
use Rattle.dh_bind.specs.Ledgers.{Alike, IsMark, AreMarks, Rises, spent_at, ports_in, undone_ledgers, ends_now, top, state_or, spent_in, spending_ports, spending_banks, ledger_banks}
use Rattle.dh_bind.specs.Standings.{Standing, GrantedIn, MeetsWalked, Overdrawn, InAll, TakenBack, InOne}
use Rattle.dh_plan.specs.declared.plans.Meets.{Meets as Tree}
use Rattle.dh_plan.specs.SeenPlans.{meets_seen, alls, ones}
use Rattle.dh_bind.proofs.Flat.{rest_is}
use Rattle.dh_bind.proofs.Begun.{begin_first, begin_second, begin_one_first, begin_one_second}
use Rattle.dh_bind.proofs.LedgerFacts.{spent_other, top_joined, undone_joined, all_joined, marks_alike}
use Rattle.dh_bind.proofs.Driven.{is_not}
use Rattle.dh_bind.proofs.RowTurns.{keeps_self, keeps_then}

-- what is granted
pub granted_none : (c : Costs) (ledgers : List Spending) (f : List (Option ℕ)) → GrantedIn c ledgers nothing f f
granted_none c ledgers f = record { others = λ a b few none. refl; own = λ d a b m few i e some. absurd i }

pub granted_all : (c : Costs) (ledgers mid : List Spending) (l r : Meets) (f g h : List (Option ℕ)) → ((m b : ℕ) → b < c.wide → spent_at mid m b ≡ spent_at ledgers m b + load (cost c m b) l)
    → GrantedIn c ledgers l f g → GrantedIn c mid r g h → GrantedIn c ledgers (all l r) f h
granted_all c ledgers mid l r f g h loads x y = record {
  others = λ a b few none. y.others a b few (λ i. none (inr i)) ∙ x.others a b few (λ i. none (inl i));
  own = λ d a b m few i e some. elim i [
    | inl j ↦ y.others a b few (λ k. d.1 a j k) ∙ (x.own d.0.0 a b m few j e some ∙ ap (λ (n : ℕ). Some (spent_at ledgers m b + n)) (sym (begin_first (cost c m b) a l r j)))
    | inr j ↦ y.own d.0.1 a b m few j e some
        ∙ ap (λ (n : ℕ). Some n) (regroup _ _ _ _ _ (loads m b few) (begin_second (cost c m b) a l r (λ k. d.1 a k j)))
  ];
}
  where
    regroup : (x s l b t : ℕ) → x ≡ s + l → t ≡ l + b → x + b ≡ s + t
    regroup x s l b t e f = omega (arith, e, f)

pub granted_one : (c : Costs) (ledgers : List Spending) (l r : Meets) (f g h : List (Option ℕ)) → GrantedIn c ledgers l f g → GrantedIn c ledgers r g h → GrantedIn c ledgers (one l r) f h
granted_one c ledgers l r f g h x y = record {
  others = λ a b few none. y.others a b few (λ i. none (inr i)) ∙ x.others a b few (λ i. none (inl i));
  own = λ d a b m few i e some. elim i [
    | inl j ↦ y.others a b few (λ k. d.1 a j k) ∙ (x.own d.0.0 a b m few j e some ∙ ap (λ (n : ℕ). Some (spent_at ledgers m b + n)) (sym (begin_one_first (cost c m b) a l r j)))
    | inr j ↦ y.own d.0.1 a b m few j e some ∙ ap (λ (n : ℕ). Some (spent_at ledgers m b + n)) (sym (begin_one_second (cost c m b) a l r (λ k. d.1 a k j)))
  ];
}

-- parts one behind the other
added : (x y o l r : ℕ) → x ≡ y + r → y ≡ o + l → x ≡ o + (l + r)
added x y o l r e f = omega (arith, e, f)

nothing_added : (x : ℕ) → x ≡ x + 0
nothing_added x = omega arith

nothing_behind : (l : List LedgerMark) → l ≡ l ++ []
nothing_behind [] = refl
nothing_behind (x ∷ l) = ap (λ (m : List LedgerMark). x ∷ m) (nothing_behind l)

pub walked_none : (c : Costs) (s : Standing) → MeetsWalked c nothing s s
walked_none c s = record {
  keeps = keeps_self s;
  spent = λ m b few. nothing_added (spent_at s.ledgers m b);
  more = [];
  log = nothing_behind s.log;
  back = refl;
  granted = granted_none c s.ledgers s.draft.firsts;
}

pub walked_then : (c : Costs) (l r : Meets) (a b d : Standing) → MeetsWalked c l a b → MeetsWalked c r b d → MeetsWalked c (all l r) a d
walked_then c l r a b d x y = record {
  keeps = keeps_then a b d x.keeps y.keeps;
  spent = λ m k few. added _ (spent_at b.ledgers m k) (spent_at a.ledgers m k) (load (cost c m k) l) (load (cost c m k) r) (y.spent m k few) (x.spent m k few);
  more = x.more ++ y.more;
  log = y.log ∙ (ap (λ (z : List LedgerMark). z ++ y.more) x.log ∙ append_assoc a.log x.more y.more);
  back = undone_joined x.more y.more d.ledgers ∙ (ap (λ (z : List Spending). undone_ledgers x.more z) y.back ∙ x.back);
  granted = granted_all c a.ledgers b.ledgers l r a.draft.firsts b.draft.firsts d.draft.firsts (λ m k few. x.spent m k few) x.granted y.granted;
}

pub all_begun : (t : Meets) (s : Standing) → InAll t t s s
all_begun t s = record { keeps = keeps_self s; so = λ end w. w; loads = λ m b few. refl }

left_over : (s n p r w : ℕ) → s + (p + r) ≡ w → n ≡ s + p → n + r ≡ w
left_over s n p r w e f = omega (arith, e, f)

-- a part was walked
pub all_turn : (whole part rest : Meets) (start now next : Standing) → InAll whole (all part rest) start now → MeetsWalked now.costs part now next → InAll whole rest start next
all_turn whole part rest start now next so step =
    let here : MeetsWalked start.costs part now next = subst (λ (c : Costs). MeetsWalked c part now next) so.keeps.costs step in
    record {
      keeps = keeps_then start now next so.keeps step.keeps;
      so = λ end w. so.so end (walked_then start.costs part rest now next end here w);
      loads = λ m b few. left_over (spent_at now.ledgers m b) _ (load (cost start.costs m b) part) (load (cost start.costs m b) rest) _ (so.loads m b few) (here.spent m b few);
    }

over_more : (p q n o x r w : ℕ) → p < n + x → q ≡ p → n + (x + r) ≡ o + w → q < o + w
over_more p q n o x r w e f g = omega (arith, e, f, g)

pub all_overdrawn : (whole part rest : Meets) (start now : Standing) → InAll whole (all part rest) start now → Overdrawn now.costs part now → Overdrawn start.costs whole start
all_overdrawn whole part rest start now so over =
    let here : Overdrawn start.costs part now = subst (λ (c : Costs). Overdrawn c part now) so.keeps.costs over in
    record {
      memory = here.memory;
      bank = here.bank;
      few = here.few;
      beyond = over_more _ _ (spent_at now.ledgers here.memory here.bank) (spent_at start.ledgers here.memory here.bank) (load (cost start.costs here.memory here.bank) part) (load (cost start.costs here.memory here.bank) rest)
          (load (cost start.costs here.memory here.bank) whole) here.beyond (sym (so.keeps.alike.ports here.memory)) (so.loads here.memory here.bank here.few);
    }

-- parts of which no two meet
pub one_begun : (t : Meets) (s : Standing) → InOne t t s s []
one_begun t s = record {
  costs = refl;
  plan = refl;
  ledgers = refl;
  log = refl;
  marks = tt;
  tops = λ m b few. first_most (spent_at s.ledgers m b) (load (cost s.costs m b) t);
  loads = λ m b. (let e : load (cost s.costs m b) t ≤ load (cost s.costs m b) t = omega arith in e);
  so = λ firsts g. g;
}
  where
    first_most : (x l : ℕ) → max (max x 0) (x + l) ≡ x + l
    first_most x l = grind arith

-- the ends of a part, of a memory that it touched and of others
past_end : (l : List Spending) (n : ℕ) → n < length l → slice_get l n ≡ None → ⊥
past_end [] n i e = (let j = i in omega (arith, j))
past_end (s ∷ l) zero i e = (let f : Some s ≡ None = e in cc)
past_end (s ∷ l) (suc n) i e = past_end l n (let j = i in omega (arith, j)) e

of_get : (ledgers : List Spending) (k : LedgerMark) (bank : ℕ) → k.memory < length ledgers → (x : Option Spending) → slice_get ledgers k.memory ≡ x → spent_on (state_or x k.state) bank ≡ spent_in x bank
of_get ledgers k bank h None e = absurd (past_end ledgers k.memory h e)
of_get ledgers k bank h (Some s) e = refl

mark_top : (ledgers : List Spending) (k : LedgerMark) (bank : ℕ) → k.memory < length ledgers → spent_on (state_or (slice_get ledgers k.memory) k.state) bank ≡ spent_at ledgers k.memory bank
mark_top ledgers k bank h = of_get ledgers k bank h (slice_get ledgers k.memory) refl

abbrev pub Topped : List Spending → List LedgerMark → (memory bank : ℕ) → Type 0
Topped ledgers log memory bank =
    (top (ends_now ledgers log) memory bank ≡ spent_at ledgers memory bank)
    ⊎ ((top (ends_now ledgers log) memory bank ≡ 0) × (spent_at (undone_ledgers log ledgers) memory bank ≡ spent_at ledgers memory bank))

top_step : (t n : ℕ) → t ≡ 0 → max n t ≡ n
top_step t n e = grind (arith, e)

top_both : (x y n : ℕ) → x ≡ n → y ≡ n → max x y ≡ n
top_both x y n e f = grind (arith, e, f)

top_past : (x y : ℕ) → x ≡ 0 → max x y ≡ y
top_past x y e = grind (arith, e)

entry_same : (ledgers : List Spending) (k : LedgerMark) (memory bank : ℕ) → k.memory < length ledgers → k.memory ≡ memory
    → (if k.memory == memory then spent_on (state_or (slice_get ledgers k.memory) k.state) bank else 0) ≡ spent_at ledgers memory bank
entry_same ledgers k memory bank h e =
    ap (λ (t : Bool). if t then spent_on (state_or (slice_get ledgers k.memory) k.state) bank else 0) (eq-eqb k.memory memory e)
    ∙ (mark_top ledgers k bank h ∙ ap (λ (n : ℕ). spent_at ledgers n bank) e)

entry_other : (k : LedgerMark) (memory n : ℕ) → (k.memory ≡ memory → ⊥) → (if k.memory == memory then n else 0) ≡ 0
entry_other k memory n f = ap (λ (t : Bool). if t then n else 0) (is_not k.memory memory f)

pub topped : (ledgers : List Spending) (log : List LedgerMark) (memory bank : ℕ) → AreMarks ledgers log → Topped ledgers log memory bank
topped ledgers [] memory bank every = inr (refl, refl)
topped ledgers (k ∷ log) memory bank every =
    elim (cases_eq k.memory memory) [
      | inl e ↦ elim (topped ledgers log memory bank every.1) [
        | inl f ↦ inl (top_both _ _ _ (entry_same ledgers k memory bank every.0.inside e) f)
        | inr f ↦ inl (top_step (top (ends_now ledgers log) memory bank) _ f.0 ∙ entry_same ledgers k memory bank every.0.inside e)
      ]
      | inr e ↦ elim (topped ledgers log memory bank every.1) [
        | inl f ↦ inl (top_past _ _ (entry_other k memory _ e) ∙ f)
        | inr f ↦ inr (top_past _ _ (entry_other k memory _ e) ∙ f.0, spent_other (undone_ledgers log ledgers) k.memory k.state memory bank (λ g. e (sym g)) ∙ f.1)
      ]
    ]

-- present states are marks
end_ports : (x : Option Spending) (s : Spending) (n : ℕ) → s.ports ≡ n → spending_ports x ≡ n → (state_or x s).ports ≡ n
end_ports None s n e f = e
end_ports (Some t) s n e f = f

end_banks : (x : Option Spending) (s : Spending) (n : ℕ) → length s.spent ≡ n → spending_banks x ≡ n → length (state_or x s).spent ≡ n
end_banks None s n e f = e
end_banks (Some t) s n e f = f

pub ends_stand : (ledgers : List Spending) (log : List LedgerMark) → AreMarks ledgers log → AreMarks ledgers (ends_now ledgers log)
ends_stand ledgers [] every = tt
ends_stand ledgers (k ∷ log) every = (
  record {
    inside = every.0.inside;
    ports = end_ports (slice_get ledgers k.memory) k.state (ports_in ledgers k.memory) every.0.ports refl;
    banks = end_banks (slice_get ledgers k.memory) k.state (ledger_banks ledgers k.memory) every.0.banks refl;
  },
  ends_stand ledgers log every.1,
)

alike_back : (a b : List Spending) → Alike a b → Alike b a
alike_back a b x = record { long = sym x.long; ports = λ m. sym (x.ports m); banks = λ m. sym (x.banks m) }

tops_turn : (s e t p r w : ℕ) → max s t ≡ s + p → max (max s e) (s + max p r) ≡ s + w → max (max s (max e t)) (s + r) ≡ s + w
tops_turn s e t p r w f g = grind (arith, f, g)

part_touched : (s t n p : ℕ) → t ≡ n → n ≡ s + p → max s t ≡ s + p
part_touched s t n p e f = grind (arith, e, f)

part_untouched : (s t n p : ℕ) → t ≡ 0 → s ≡ n → n ≡ s + p → max s t ≡ s + p
part_untouched s t n p e f g = grind (arith, e, f, g)

module _ (whole part rest : Meets) (start now mid next : Standing) (ends then_ends : List LedgerMark) (begun : ℕ) (so : InOne whole (one part rest) start now ends) (step : MeetsWalked now.costs part now mid)
    (taken : TakenBack begun mid next ends then_ends) (begun_is : begun ≡ length start.log) where
  here : MeetsWalked start.costs part now mid
  here = subst (λ (c : Costs). MeetsWalked c part now mid) so.costs step

  log_is : mid.log ≡ start.log ++ here.more
  log_is = here.log ∙ ap (λ (l : List LedgerMark). l ++ here.more) so.log

  part_log : drop begun mid.log ≡ here.more
  part_log = ap (λ (l : List LedgerMark). drop begun l) log_is ∙ drop_at start.log here.more begun (sym begun_is)

  ledgers_back : next.ledgers ≡ start.ledgers
  ledgers_back = taken.ledgers ∙ (ap (λ (l : List LedgerMark). undone_ledgers l mid.ledgers) part_log ∙ (here.back ∙ so.ledgers))

  mid_alike : Alike mid.ledgers start.ledgers
  mid_alike = alike_back start.ledgers mid.ledgers (subst (λ (l : List Spending). Alike l mid.ledgers) so.ledgers here.keeps.alike)

  mid_spent : (m b : ℕ) → b < start.costs.wide → spent_at mid.ledgers m b ≡ spent_at start.ledgers m b + load (cost start.costs m b) part
  mid_spent m b few = here.spent m b few ∙ ap (λ (l : List Spending). spent_at l m b + load (cost start.costs m b) part) so.ledgers

  part_top : (m b : ℕ) → b < start.costs.wide → max (spent_at start.ledgers m b) (top (ends_now mid.ledgers (drop begun mid.log)) m b) ≡ spent_at start.ledgers m b + load (cost start.costs m b) part
  part_top m b few = elim (topped mid.ledgers (drop begun mid.log) m b taken.marks) [
    | inl e ↦ part_touched _ _ (spent_at mid.ledgers m b) _ e (mid_spent m b few)
    | inr e ↦ part_untouched (spent_at start.ledgers m b) _ (spent_at mid.ledgers m b) _ e.0
        (ap (λ (l : List Spending). spent_at l m b) (sym ledgers_back ∙ taken.ledgers) ∙ e.1) (mid_spent m b few)
  ]

  pub one_turn : InOne whole rest start next then_ends
  one_turn = record {
    costs = taken.costs ∙ (here.keeps.costs ∙ so.costs);
    plan = ap (λ (d : Draft). d.plan) taken.draft ∙ (here.keeps.plan ∙ so.plan);
    ledgers = ledgers_back;
    log = taken.log ∙ (ap (λ (l : List LedgerMark). take begun l) log_is ∙ take_at start.log here.more begun (sym begun_is));
    marks = subst (λ (l : List LedgerMark). AreMarks start.ledgers l) (sym taken.noted)
        (all_joined (IsMark start.ledgers) ends (ends_now mid.ledgers (drop begun mid.log)) so.marks
        (marks_alike mid.ledgers start.ledgers (ends_now mid.ledgers (drop begun mid.log)) mid_alike (ends_stand mid.ledgers (drop begun mid.log) taken.marks)));
    tops = λ m b few. ap (λ (n : ℕ). max (max (spent_at start.ledgers m b) n) (spent_at start.ledgers m b + load (cost start.costs m b) rest))
        (ap (λ (l : List LedgerMark). top l m b) taken.noted ∙ top_joined ends (ends_now mid.ledgers (drop begun mid.log)) m b)
        ∙ tops_turn (spent_at start.ledgers m b) (top ends m b) _ (load (cost start.costs m b) part) (load (cost start.costs m b) rest) (load (cost start.costs m b) whole) (part_top m b few) (so.tops m b few);
    loads = λ m b. (let h = so.loads m b in let k = le-max_right (load (cost start.costs m b) part) (load (cost start.costs m b) rest) in omega (arith, h, k));
    so = λ firsts g. so.so firsts (granted_one start.costs start.ledgers part rest now.draft.firsts mid.draft.firsts firsts
        (subst (λ (l : List Spending). GrantedIn start.costs l part now.draft.firsts mid.draft.firsts) so.ledgers here.granted)
        (subst (λ (d : Draft). GrantedIn start.costs start.ledgers rest d.firsts firsts) taken.draft g));
  }

risen : (n s t w : ℕ) → n ≡ max s t → max (max s t) (s + 0) ≡ s + w → n ≡ s + w
risen n s t w e f = grind (arith, e, f)

pub one_done : (whole : Meets) (start now next : Standing) (ends : List LedgerMark) → InOne whole nothing start now ends → Rises ends now.ledgers next.ledgers now.log next.log → next.costs ≡ now.costs → next.draft ≡ now.draft
    → MeetsWalked start.costs whole start next
one_done whole start now next ends so rises costs draft = record {
  keeps = record {
    costs = costs ∙ so.costs;
    plan = ap (λ (d : Draft). d.plan) draft ∙ so.plan;
    alike = subst (λ (l : List Spending). Alike l next.ledgers) so.ledgers rises.alike;
  };
  spent = λ m b few. risen _ (spent_at start.ledgers m b) (top ends m b) (load (cost start.costs m b) whole)
      (rises.spent m b ∙ ap (λ (l : List Spending). max (spent_at l m b) (top ends m b)) so.ledgers) (so.tops m b few);
  more = rises.more;
  log = rises.log_is ∙ ap (λ (l : List LedgerMark). l ++ rises.more) so.log;
  back = rises.back ∙ so.ledgers;
  granted = so.so next.draft.firsts (subst (λ (d : Draft). GrantedIn start.costs start.ledgers nothing now.draft.firsts d.firsts) (sym draft) (granted_none start.costs start.ledgers now.draft.firsts));
}

over_one : (q n x y w : ℕ) → q < n + x → x ≤ y → y ≤ w → q < n + w
over_one q n x y w e f g = omega (arith, e, f, g)

pub one_overdrawn : (whole part rest : Meets) (start now : Standing) (ends : List LedgerMark) → InOne whole (one part rest) start now ends → Overdrawn now.costs part now → Overdrawn start.costs whole start
one_overdrawn whole part rest start now ends so over =
    let there : Overdrawn start.costs part now = subst (λ (c : Costs). Overdrawn c part now) so.costs over in
    record {
      memory = there.memory;
      bank = there.bank;
      few = there.few;
      beyond = over_one _ (spent_at start.ledgers there.memory there.bank) (load (cost start.costs there.memory there.bank) part) _ (load (cost start.costs there.memory there.bank) whole)
          (subst (λ (l : List Spending). ports_in l there.memory < spent_at l there.memory there.bank + load (cost start.costs there.memory there.bank) part) so.ledgers there.beyond)
          (le-max_left (load (cost start.costs there.memory there.bank) part) (load (cost start.costs there.memory there.bank) rest)) (so.loads there.memory there.bank);
    }

-- a part of a list, in turn
pub all_part : (whole : Meets) (parts : List Tree) (i : ℕ) (part : Tree) (start now next : Standing) → i < length parts → part ≡ get_or parts i part → InAll whole (alls (drop i parts)) start now
    → MeetsWalked now.costs (meets_seen part) now next → InAll whole (alls (drop (i + 1) parts)) start next
all_part whole parts i part start now next h e so step =
    all_turn whole (meets_seen part) (alls (drop (i + 1) parts)) start now next
    (subst (λ (l : List Tree). InAll whole (alls l) start now) (rest_is parts i part h e) so) step

pub one_part : (whole : Meets) (parts : List Tree) (i : ℕ) (part : Tree) (start now mid next : Standing) (ends then_ends : List LedgerMark) (begun : ℕ) → i < length parts → part ≡ get_or parts i part
    → InOne whole (ones (drop i parts)) start now ends → MeetsWalked now.costs (meets_seen part) now mid → TakenBack begun mid next ends then_ends → begun ≡ length start.log → InOne whole (ones (drop (i + 1) parts)) start next then_ends
one_part whole parts i part start now mid next ends then_ends begun h e so step taken begun_is =
    one_turn whole (meets_seen part) (ones (drop (i + 1) parts)) start now mid next ends then_ends begun
    (subst (λ (l : List Tree). InOne whole (ones l) start now ends) (rest_is parts i part h e) so) step taken begun_is

pub one_ended : (whole : Meets) (parts : List Tree) (i : ℕ) (start now next : Standing) (ends same_ends : List LedgerMark) → length parts ≤ i → InOne whole (ones (drop i parts)) start now ends → same_ends ≡ ends
    → Rises same_ends now.ledgers next.ledgers now.log next.log → next.costs ≡ now.costs → next.draft ≡ now.draft → MeetsWalked start.costs whole start next
one_ended whole parts i start now next ends same_ends h so e rises costs draft =
    one_done whole start now next ends (subst (λ (l : List Tree). InOne whole (ones l) start now ends) (drop_all i parts h) so)
    (subst (λ (l : List LedgerMark). Rises l now.ledgers next.ledgers now.log next.log) e rises) costs draft
