-- What the wires need that are found, one wire after the other.
use Rattle.std.proofs.Common.{◌≡◌, ℕ, ◌+◌, ◌<◌, ◌≤◌, Bool, true, false, inl, inr, Some, None, List, [], ◌∷◌, ◌++◌, length, drop, get_or, replicate, refl, sym, ap, subst, ◌∙◌, arith}
use Rattle.std.specs.Prelude.{Option, slice_get}
use Rattle.std.specs.List.{AllByRecursion}
use Rattle.std.proofs.lemmas.Bool.{cases_eq}
use Rattle.std.proofs.lemmas.List.{length-replicate}
use Rattle.std.proofs.lemmas.Option.{slice_get_within, slice_get-get_or}
use Rattle.dh_base.proofs.ListItems.{at_item}
use Rattle.dh_net.specs.declared.nets.Cell.{Cell}
use Rattle.dh_net.specs.declared.nets.Driver.{Driver}
use Rattle.dh_net.specs.declared.nets.Net.{Net}
use Rattle.dh_net.specs.declared.nets.Register.{Register}
use Rattle.dh_swept.specs.FoundWires.{unmarked, with_marks, with_registers, register_next_wires, taken_wires, with_taken, with_cell_marked, with_wire}
use Rattle.dh_swept.specs.NeededCells.{IsMarkedNumber, MarksOnly, drivers_wires, all_drivers_wires, root_wires, HasNeeded, MarksNeeded, CanMark}
use Rattle.dh_swept.specs.RenamedWires.{operands_of, registers_of}
use Rattle.dh_swept.specs.declared.marking.Marks.{Marks}
use Rattle.dh_swept.proofs.MarksSet.{none_marked, trues_most, trues_none, all_so, AreFound, StaysMarked, marks_stay, marks_found, marks_have, marks_only, marks_both, StaysHeld, registers_stay, registers_have, registers_only, nexts_all, nexts_more}

-- parts of a list

pub all_front : {A : Type 0} (P : A → Type 0) (xs ys : List A) → AllByRecursion P (xs ++ ys) → AllByRecursion P xs
all_front P [] ys h = tt
all_front P (x ∷ xs) ys h = (h.0, all_front P xs ys h.1)

pub all_back : {A : Type 0} (P : A → Type 0) (xs ys : List A) → AllByRecursion P (xs ++ ys) → AllByRecursion P ys
all_back P [] ys h = h
all_back P (x ∷ xs) ys h = all_back P xs ys h.1

pub all_both : {A : Type 0} (P : A → Type 0) (xs ys : List A) → AllByRecursion P xs → AllByRecursion P ys → AllByRecursion P (xs ++ ys)
all_both P [] ys h g = g
all_both P (x ∷ xs) ys h g = (h.0, all_both P xs ys h.1 g)

-- The drivers of ports, one after the other.
pub ports_turn : (i : ℕ) (lists : List (List Driver)) (list slice : List Driver) (first now new : Marks) → i < length lists → list ≡ get_or lists i list → slice ≡ list
    → with_marks (all_drivers_wires (drop i lists)) now ≡ with_marks (all_drivers_wires lists) first → new ≡ with_marks (drivers_wires slice) now
    → with_marks (all_drivers_wires (drop (i + 1) lists)) new ≡ with_marks (all_drivers_wires lists) first
ports_turn i lists list slice first now new less is same so put =
    ap (λ (m : Marks). with_marks (all_drivers_wires (drop (i + 1) lists)) m) (put ∙ ap (λ (ds : List Driver). with_marks (drivers_wires ds) now) same)
    ∙ (sym (marks_both (drivers_wires list) (all_drivers_wires (drop (i + 1) lists)) now)
    ∙ (ap (λ (dss : List (List Driver)). with_marks (all_drivers_wires dss) now) (sym (at_item lists i list less is)) ∙ so))

-- What is needed by the first n wires that were found is marked.
pub record IsLooked (net : Net) (n : ℕ) (m : Marks) : Type 0 where
  pub long : length m.wires ≡ length net.cells
  pub registers_long : length m.registers ≡ length net.registers
  pub roots : AllByRecursion (IsMarkedNumber m.wires) (root_wires net)
  pub are_found : AreFound m.wires m.found
  pub operands : (k w : ℕ) (c : Cell) → k < n → slice_get m.found k ≡ Some w → slice_get net.cells w ≡ Some c → AllByRecursion (IsMarkedNumber m.wires) (operands_of c.form)
  pub shown : (k w : ℕ) (c : Cell) → k < n → slice_get m.found k ≡ Some w → slice_get net.cells w ≡ Some c → AllByRecursion (IsMarkedNumber m.registers) (registers_of c.form)
  pub nexts : (k : ℕ) (r : Register) → slice_get net.registers k ≡ Some r → IsMarkedNumber m.registers k → IsMarkedNumber m.wires r.next
  pub only : (needed held : ℕ → Bool) → HasNeeded net needed held → MarksOnly m.wires needed
  pub only_held : (needed held : ℕ → Bool) → HasNeeded net needed held → MarksOnly m.registers held

-- Before the first.

none_found : (count : ℕ) → AreFound (replicate count false) []
none_found count = record {
  count = trues_none count;
  has = λ w on. absurd (let no : false ≡ true = sym (none_marked count w) ∙ on in cc);
  are = λ k w at. absurd (let no : None ≡ Some w = at in cc);
}

module _ (net : Net) (can : CanMark net) where
  none_held : (k : ℕ) → IsMarkedNumber (with_marks (root_wires net) (unmarked net)).registers k → false ≡ true
  none_held k on =
      sym (none_marked (length net.registers) k) ∙ (ap (λ (l : List Bool). get_or l k false) (sym (marks_stay (root_wires net) (unmarked net)).registers) ∙ on)

  starts : IsLooked net 0 (with_marks (root_wires net) (unmarked net))
  starts =
      let stays = marks_stay (root_wires net) (unmarked net) in
      record {
        long = stays.long ∙ length-replicate (length net.cells) false;
        registers_long = ap (λ (l : List Bool). length l) stays.registers ∙ length-replicate (length net.registers) false;
        roots = marks_have (root_wires net) (unmarked net) (subst (λ (n : ℕ). AllByRecursion (λ (a : ℕ). a < n) (root_wires net)) (sym (length-replicate (length net.cells) false)) can.roots);
        are_found = marks_found (root_wires net) (unmarked net) (none_found (length net.cells));
        operands = λ k w c small at there. absurd (omega (arith, small));
        shown = λ k w c small at there. absurd (omega (arith, small));
        nexts = λ k r at on. absurd (let no = none_held k on in cc);
        only = λ needed held h.
            marks_only (root_wires net) (unmarked net) needed (λ a on. absurd (let no : false ≡ true = sym (none_marked (length net.cells) a) ∙ on in cc)) h.roots;
        only_held = λ needed held h k on. absurd (let no = none_held k on in cc);
      }

pub looking_starts : (net : Net) (m : Marks) → CanMark net → m ≡ with_marks (root_wires net) (unmarked net) → IsLooked net 0 m
looking_starts net m can is = subst (λ (x : Marks). IsLooked net 0 x) (sym is) (starts net can)

-- The cell of a wire that was found.

module _ (net : Net) (can : CanMark net) (n : ℕ) (m : Marks) (h : IsLooked net n m) (w : ℕ) (here : slice_get m.found n ≡ Some w) (c : Cell) (there : slice_get net.cells w ≡ Some c) where
  abbrev ks : List ℕ
  ks = registers_of c.form

  abbrev ws : List ℕ
  ws = taken_wires net.registers c.form

  abbrev between : Marks
  between = with_registers (registers_of c.form) m

  abbrev after : Marks
  after = with_taken net.registers c.form m

  held : StaysHeld m between
  held = registers_stay ks m

  stays : StaysMarked between after
  stays = marks_stay ws between

  keeps : (a : ℕ) → IsMarkedNumber m.wires a → IsMarkedNumber after.wires a
  keeps a on = stays.keeps a (subst (λ (l : List Bool). IsMarkedNumber l a) (sym held.wires) on)

  keeps_held : (k : ℕ) → IsMarkedNumber between.registers k → IsMarkedNumber after.registers k
  keeps_held k on = subst (λ (l : List Bool). IsMarkedNumber l k) (sym stays.registers) on

  found : (k a : ℕ) → slice_get m.found k ≡ Some a → slice_get after.found k ≡ Some a
  found k a at = stays.found k a (subst (λ (l : List ℕ). slice_get l k ≡ Some a) (sym held.found) at)

  are_there : AllByRecursion (λ (a : ℕ). a < length net.cells) ws
  are_there =
      all_both (λ (a : ℕ). a < length net.cells) (operands_of c.form) (register_next_wires net.registers ks) (can.operands w c there)
      (nexts_all net.registers (λ (a : ℕ). a < length net.cells) (λ (k : ℕ). k < length net.registers) ks (λ k r at inside. can.nexts k r at) (can.shown w c there))

  marked : AllByRecursion (IsMarkedNumber after.wires) ws
  marked =
      marks_have ws between
      (subst (λ (count : ℕ). AllByRecursion (λ (a : ℕ). a < count) ws) (sym (ap (λ (l : List Bool). length l) held.wires ∙ h.long)) are_there)

  marked_held : AllByRecursion (IsMarkedNumber after.registers) ks
  marked_held =
      all_so (IsMarkedNumber between.registers) (IsMarkedNumber after.registers) ks keeps_held
      (registers_have ks m (subst (λ (count : ℕ). AllByRecursion (λ (k : ℕ). k < count) ks) (sym h.registers_long) (can.shown w c there)))

  -- this wire, by its place
  this_cell : (v : ℕ) (d : Cell) → slice_get after.found n ≡ Some v → slice_get net.cells v ≡ Some d → c ≡ d
  this_cell v d at inside =
      let one : Some w ≡ Some v = sym (found n w here) ∙ at in
      let same : w ≡ v = cc in
      let both : Some c ≡ Some d = sym there ∙ (ap (λ (a : ℕ). slice_get net.cells a) same ∙ inside) in
      cc

  -- one before it
  found_before : (k v : ℕ) → k < n → slice_get after.found k ≡ Some v → slice_get m.found k ≡ Some v
  found_before k v small at =
      let last = slice_get_within m.found n w here in
      let before : slice_get m.found k ≡ Some (get_or m.found k 0) = slice_get-get_or m.found k 0 (omega (arith, small, last)) in
      let both : Some (get_or m.found k 0) ≡ Some v = sym (found k (get_or m.found k 0) before) ∙ at in
      before ∙ both

  needs : (needed kept : ℕ → Bool) → HasNeeded net needed kept → needed w ≡ true
  needs needed kept has = h.only needed kept has w (h.are_found.are n w here)

  looked : IsLooked net (n + 1) after
  looked = record {
    long = stays.long ∙ (ap (λ (l : List Bool). length l) held.wires ∙ h.long);
    registers_long = ap (λ (l : List Bool). length l) stays.registers ∙ (held.long ∙ h.registers_long);
    roots = all_so (IsMarkedNumber m.wires) (IsMarkedNumber after.wires) (root_wires net) keeps h.roots;
    are_found = marks_found ws between (subst (λ (l : List Bool). AreFound l between.found) (sym held.wires) (subst (λ (l : List ℕ). AreFound m.wires l) (sym held.found) h.are_found));
    operands = λ k v d small at inside. elim (cases_eq k n) [
      | inl same ↦
          let one = this_cell v d (subst (λ (x : ℕ). slice_get after.found x ≡ Some v) same at) inside in
          subst (λ (x : Cell). AllByRecursion (IsMarkedNumber after.wires) (operands_of x.form)) one (all_front (IsMarkedNumber after.wires) (operands_of c.form) (register_next_wires net.registers ks) marked)
      | inr other ↦
          let less : k < n = omega (arith, small, other) in
          all_so (IsMarkedNumber m.wires) (IsMarkedNumber after.wires) (operands_of d.form) keeps (h.operands k v d less (found_before k v less at) inside)
    ];
    shown = λ k v d small at inside. elim (cases_eq k n) [
      | inl same ↦
          let one = this_cell v d (subst (λ (x : ℕ). slice_get after.found x ≡ Some v) same at) inside in
          subst (λ (x : Cell). AllByRecursion (IsMarkedNumber after.registers) (registers_of x.form)) one marked_held
      | inr other ↦
          let less : k < n = omega (arith, small, other) in
          all_so (IsMarkedNumber m.registers) (IsMarkedNumber after.registers) (registers_of d.form) (λ a on. keeps_held a (held.keeps a on)) (h.shown k v d less (found_before k v less at) inside)
    ];
    nexts = λ k r at on.
        nexts_more net.registers (IsMarkedNumber after.wires) ks m (λ a e inside before. keeps e.next (h.nexts a e inside before)) (all_back (IsMarkedNumber after.wires) (operands_of c.form) (register_next_wires net.registers ks) marked) k r at
        (subst (λ (l : List Bool). IsMarkedNumber l k) stays.registers on);
    only = λ needed kept has.
        marks_only ws between needed (subst (λ (l : List Bool). MarksOnly l needed) (sym held.wires) (h.only needed kept has))
        (all_both (λ (a : ℕ). needed a ≡ true) (operands_of c.form) (register_next_wires net.registers ks) (has.operands w c there (needs needed kept has))
        (nexts_all net.registers (λ (a : ℕ). needed a ≡ true) (λ (k : ℕ). kept k ≡ true) ks has.nexts (has.shown w c there (needs needed kept has))));
    only_held = λ needed kept has.
        subst (λ (l : List Bool). MarksOnly l kept) (sym stays.registers)
        (registers_only ks m kept (h.only_held needed kept has) (has.shown w c there (needs needed kept has)));
  }

-- no wire was found with this number, or it has no cell
looked_none : (net : Net) (n : ℕ) (m : Marks) → IsLooked net n m → ((w : ℕ) (c : Cell) → slice_get m.found n ≡ Some w → slice_get net.cells w ≡ Some c → ⊥) → IsLooked net (n + 1) m
looked_none net n m h free = record {
  long = h.long;
  registers_long = h.registers_long;
  roots = h.roots;
  are_found = h.are_found;
  operands = λ k v d small at inside. elim (cases_eq k n) [
    | inl same ↦ absurd (free v d (subst (λ (x : ℕ). slice_get m.found x ≡ Some v) same at) inside)
    | inr other ↦ h.operands k v d (omega (arith, small, other)) at inside
  ];
  shown = λ k v d small at inside. elim (cases_eq k n) [
    | inl same ↦ absurd (free v d (subst (λ (x : ℕ). slice_get m.found x ≡ Some v) same at) inside)
    | inr other ↦ h.shown k v d (omega (arith, small, other)) at inside
  ];
  nexts = h.nexts;
  only = h.only;
  only_held = h.only_held;
}

pub looking_turn : (net : Net) (n : ℕ) (m new : Marks) → CanMark net → IsLooked net n m → new ≡ with_wire net (slice_get m.found n) m → IsLooked net (n + 1) new
looking_turn net n m new can h is = subst (λ (x : Marks). IsLooked net (n + 1) x) (sym is) (by (slice_get m.found n) refl)
  where
    by_cell : (w : ℕ) → slice_get m.found n ≡ Some w → (o : Option Cell) → slice_get net.cells w ≡ o → IsLooked net (n + 1) (with_cell_marked net.registers o m)
    by_cell w here None none =
        looked_none net n m h (λ v d at inside.
        let one : Some w ≡ Some v = sym here ∙ at in
        let same : w ≡ v = cc in
        let no : None ≡ Some d = sym none ∙ (ap (λ (a : ℕ). slice_get net.cells a) same ∙ inside) in
        cc)
    by_cell w here (Some c) there = looked net can n m h w here c there

    by : (o : Option ℕ) → slice_get m.found n ≡ o → IsLooked net (n + 1) (with_wire net o m)
    by None none = looked_none net n m h (λ v d at inside. let no : None ≡ Some v = sym none ∙ at in cc)
    by (Some w) here = by_cell w here (slice_get net.cells w) refl

-- Behind the last.
pub looking_ends : (net : Net) (n : ℕ) (m : Marks) → length net.cells ≤ n → IsLooked net n m → MarksNeeded net m
looking_ends net n m past h =
    let most = trues_most m.wires in
    let count = h.are_found.count in
    let long = h.long in
    let before : (k w : ℕ) → slice_get m.found k ≡ Some w → k < n = λ k w at. (let inside = slice_get_within m.found k w at in omega (arith, inside, most, count, long, past)) in
    record {
      long = h.long;
      registers_long = h.registers_long;
      roots = h.roots;
      operands = λ i c there on. (let k = h.are_found.has i on in h.operands k.0 i c (before k.0 i k.1) k.1 there);
      shown = λ i c there on. (let k = h.are_found.has i on in h.shown k.0 i c (before k.0 i k.1) k.1 there);
      nexts = h.nexts;
      only = h.only;
      only_held = h.only_held;
    }
