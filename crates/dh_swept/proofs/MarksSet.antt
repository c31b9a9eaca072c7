-- Marks that are set, and the wires that are found by that.
use Rattle.std.proofs.Common.{◌≡◌, ℕ, zero, suc, ◌<◌, ◌≤◌, Bool, true, false, if◌then◌else◌, inl, inr, Some, None, List, [], ◌∷◌, ◌++◌, length, get_or, replicate, refl, sym, ap, subst, ◌∙◌, arith, length-append}
use Rattle.std.specs.Prelude.{Option, set, slice_get}
use Rattle.std.specs.List.{AllByRecursion}
use Rattle.std.proofs.lemmas.Bool.{cases_eq, cases_lt}
use Rattle.std.proofs.lemmas.List.{get_or_past, get_or-set_same, get_or-set_other, length-set}
use Rattle.std.proofs.lemmas.Option.{slice_get-get_or, get_or_from_slice_get}
use Rattle.dh_cells.proofs.CellsAppended.{get_longer, get_last, get_either}
use Rattle.dh_net.specs.declared.nets.Register.{Register}
use Rattle.dh_swept.specs.FoundWires.{first_marked, with_mark, with_marks, with_register, with_registers, with_next, register_next_wires}
use Rattle.dh_swept.specs.NeededCells.{IsMarkedNumber, MarksOnly}
use Rattle.dh_swept.specs.declared.marking.Marks.{Marks}

-- A flag that is set.

flag_keeps : (flags : List Bool) (w a : ℕ) → IsMarkedNumber flags a → IsMarkedNumber (set flags w true) a
flag_keeps flags w a h =
    elim (cases_eq a w) [
      | inl same ↦
          elim (cases_lt a (length flags)) [
            | inl inside ↦ subst (λ (k : ℕ). get_or (set flags k true) a false ≡ true) same (get_or-set_same flags a true false inside)
            | inr past ↦ absurd (let none : false ≡ true = sym (get_or_past flags a false past) ∙ h in cc)
          ]
      | inr other ↦ get_or-set_other flags w a true false other ∙ h
    ]

flag_only : (flags : List Bool) (w : ℕ) (needed : ℕ → Bool) → MarksOnly flags needed → needed w ≡ true → MarksOnly (set flags w true) needed
flag_only flags w needed only on a h =
    elim (cases_eq a w) [
      | inl same ↦ ap needed same ∙ on
      | inr other ↦ only a (sym (get_or-set_other flags w a true false other) ∙ h)
    ]

-- one that is not there counts as set, so one that is not set is there
is_there : (flags : List Bool) (w : ℕ) → get_or flags w true ≡ false → w < length flags
is_there flags w off =
    elim (cases_lt w (length flags)) [
      | inl inside ↦ inside
      | inr past ↦ absurd (let no : true ≡ false = sym (get_or_past flags w true past) ∙ off in cc)
    ]

is_set : (flags : List Bool) (w : ℕ) → get_or flags w true ≡ true → w < length flags → IsMarkedNumber flags w
is_set flags w on inside = get_or_from_slice_get flags w true false (slice_get-get_or flags w true inside ∙ ap (λ (t : Bool). Some t) on)

pub none_marked : (n a : ℕ) → get_or (replicate n false) a false ≡ false
none_marked zero a = refl
none_marked (suc n) zero = refl
none_marked (suc n) (suc a) = none_marked n a

-- how many are set
abbrev pub trues : List Bool → ℕ
trues [] = 0
trues (true ∷ fs) = suc (trues fs)
trues (false ∷ fs) = trues fs

pub trues_most : (flags : List Bool) → trues flags ≤ length flags
trues_most [] = omega arith
trues_most (true ∷ fs) = (let most = trues_most fs in omega (arith, most))
trues_most (false ∷ fs) = (let most = trues_most fs in omega (arith, most))

trues_more : (flags : List Bool) (w : ℕ) → get_or flags w true ≡ false → trues (set flags w true) ≡ suc (trues flags)
trues_more [] w off = absurd (let no : true ≡ false = off in cc)
trues_more (true ∷ fs) zero off = absurd (let no : true ≡ false = off in cc)
trues_more (false ∷ fs) zero off = refl
trues_more (true ∷ fs) (suc w) off = ap (λ (n : ℕ). suc n) (trues_more fs w off)
trues_more (false ∷ fs) (suc w) off = trues_more fs w off

pub trues_none : (n : ℕ) → trues (replicate n false) ≡ 0
trues_none zero = refl
trues_none (suc n) = trues_none n

-- What is known of marks.

pub all_so : {A : Type 0} (P Q : A → Type 0) (xs : List A) → ((x : A) → P x → Q x) → AllByRecursion P xs → AllByRecursion Q xs
all_so P Q [] so h = tt
all_so P Q (x ∷ xs) so h = (so x h.0, all_so P Q xs so h.1)

-- the wires that are found are those that are marked, each once
pub record AreFound (wires : List Bool) (found : List ℕ) : Type 0 where
  pub count : trues wires ≡ length found
  pub has : (w : ℕ) → IsMarkedNumber wires w → (k : ℕ) × (slice_get found k ≡ Some w)
  pub are : (k w : ℕ) → slice_get found k ≡ Some w → IsMarkedNumber wires w

-- of wires nothing is taken back, and of registers nothing changes
pub record StaysMarked (old new : Marks) : Type 0 where
  pub long : length new.wires ≡ length old.wires
  pub keeps : (w : ℕ) → IsMarkedNumber old.wires w → IsMarkedNumber new.wires w
  pub found : (k w : ℕ) → slice_get old.found k ≡ Some w → slice_get new.found k ≡ Some w
  pub registers : new.registers ≡ old.registers

same_stays : (m : Marks) → StaysMarked m m
same_stays m = record { long = refl; keeps = λ w h. h; found = λ k w at. at; registers = refl }

both_stay : (a b c : Marks) → StaysMarked a b → StaysMarked b c → StaysMarked a c
both_stay a b c h g = record {
  long = g.long ∙ h.long;
  keeps = λ w on. g.keeps w (h.keeps w on);
  found = λ k w at. g.found k w (h.found k w at);
  registers = g.registers ∙ h.registers;
}

-- One wire.

-- by whether the wire had a mark
by_mark : (P : Marks → Type 0) (w : ℕ) (m : Marks) → (get_or m.wires w true ≡ true → P m) → (get_or m.wires w true ≡ false → P (first_marked w m)) → P (with_mark w m)
by_mark P w m old new = by (get_or m.wires w true) refl
  where
    by : (t : Bool) → get_or m.wires w true ≡ t → P (if t then m else first_marked w m)
    by true is = old is
    by false is = new is

mark_stays : (w : ℕ) (m : Marks) → StaysMarked m (with_mark w m)
mark_stays w m =
    by_mark (λ (n : Marks). StaysMarked m n) w m (λ on. same_stays m)
    (λ off. record { long = length-set m.wires w true; keeps = λ a h. flag_keeps m.wires w a h; found = λ k a at. get_longer m.found w k a at; registers = refl })

first_found : (w : ℕ) (wires : List Bool) (found : List ℕ) → get_or wires w true ≡ false → AreFound wires found → AreFound (set wires w true) (found ++ w ∷ [])
first_found w wires found off h = record {
  count = (let more = trues_more wires w off in let so_far = h.count in let longer = length-append found (w ∷ []) in omega (arith, more, so_far, longer));
  has = λ a on. elim (cases_eq a w) [
    | inl same ↦ (length found, subst (λ (x : ℕ). slice_get (found ++ w ∷ []) (length found) ≡ Some x) (sym same) (get_last found w))
    | inr other ↦ (let before = h.has a (sym (get_or-set_other wires w a true false other) ∙ on) in (before.0, get_longer found w before.0 a before.1))
  ];
  are = λ k a at. elim (get_either found w k a at) [
    | inl old ↦ flag_keeps wires w a (h.are k a old)
    | inr new ↦ subst (λ (x : ℕ). IsMarkedNumber (set wires w true) x) new.1 (get_or-set_same wires w true false (is_there wires w off))
  ];
}

mark_found : (w : ℕ) (m : Marks) → AreFound m.wires m.found → AreFound (with_mark w m).wires (with_mark w m).found
mark_found w m h = by_mark (λ (n : Marks). AreFound n.wires n.found) w m (λ on. h) (λ off. first_found w m.wires m.found off h)

mark_has : (w : ℕ) (m : Marks) → w < length m.wires → IsMarkedNumber (with_mark w m).wires w
mark_has w m inside = by_mark (λ (n : Marks). IsMarkedNumber n.wires w) w m (λ on. is_set m.wires w on inside) (λ off. get_or-set_same m.wires w true false inside)

mark_only : (w : ℕ) (m : Marks) (needed : ℕ → Bool) → MarksOnly m.wires needed → needed w ≡ true → MarksOnly (with_mark w m).wires needed
mark_only w m needed only is = by_mark (λ (n : Marks). MarksOnly n.wires needed) w m (λ on. only) (λ off. flag_only m.wires w needed only is)

-- Several wires.

pub marks_stay : (ws : List ℕ) (m : Marks) → StaysMarked m (with_marks ws m)
marks_stay [] m = same_stays m
marks_stay (w ∷ ws) m = both_stay m (with_mark w m) (with_marks ws (with_mark w m)) (mark_stays w m) (marks_stay ws (with_mark w m))

pub marks_found : (ws : List ℕ) (m : Marks) → AreFound m.wires m.found → AreFound (with_marks ws m).wires (with_marks ws m).found
marks_found [] m h = h
marks_found (w ∷ ws) m h = marks_found ws (with_mark w m) (mark_found w m h)

pub marks_have : (ws : List ℕ) (m : Marks) → AllByRecursion (λ (a : ℕ). a < length m.wires) ws → AllByRecursion (IsMarkedNumber (with_marks ws m).wires) ws
marks_have [] m h = tt
marks_have (w ∷ ws) m h = (
  (marks_stay ws (with_mark w m)).keeps w (mark_has w m h.0),
  marks_have ws (with_mark w m) (subst (λ (n : ℕ). AllByRecursion (λ (a : ℕ). a < n) ws) (sym (mark_stays w m).long) h.1),
)

pub marks_only : (ws : List ℕ) (m : Marks) (needed : ℕ → Bool) → MarksOnly m.wires needed → AllByRecursion (λ (a : ℕ). needed a ≡ true) ws → MarksOnly (with_marks ws m).wires needed
marks_only [] m needed only h = only
marks_only (w ∷ ws) m needed only h = marks_only ws (with_mark w m) needed (mark_only w m needed only h.0) h.1

pub marks_both : (ws vs : List ℕ) (m : Marks) → with_marks (ws ++ vs) m ≡ with_marks vs (with_marks ws m)
marks_both [] vs m = refl
marks_both (w ∷ ws) vs m = marks_both ws vs (with_mark w m)

-- Registers.

-- of registers nothing is taken back, and of wires nothing changes
pub record StaysHeld (old new : Marks) : Type 0 where
  pub wires : new.wires ≡ old.wires
  pub found : new.found ≡ old.found
  pub long : length new.registers ≡ length old.registers
  pub keeps : (k : ℕ) → IsMarkedNumber old.registers k → IsMarkedNumber new.registers k

pub registers_stay : (ks : List ℕ) (m : Marks) → StaysHeld m (with_registers ks m)
registers_stay [] m = record { wires = refl; found = refl; long = refl; keeps = λ k h. h }
registers_stay (x ∷ ks) m =
    let rest = registers_stay ks (with_register x m) in
    record { wires = rest.wires; found = rest.found; long = rest.long ∙ length-set m.registers x true; keeps = λ k h. rest.keeps k (flag_keeps m.registers x k h) }

pub registers_have : (ks : List ℕ) (m : Marks) → AllByRecursion (λ (k : ℕ). k < length m.registers) ks → AllByRecursion (IsMarkedNumber (with_registers ks m).registers) ks
registers_have [] m h = tt
registers_have (x ∷ ks) m h = (
  (registers_stay ks (with_register x m)).keeps x (get_or-set_same m.registers x true false h.0),
  registers_have ks (with_register x m) (subst (λ (n : ℕ). AllByRecursion (λ (k : ℕ). k < n) ks) (sym (length-set m.registers x true)) h.1),
)

pub registers_only : (ks : List ℕ) (m : Marks) (held : ℕ → Bool) → MarksOnly m.registers held → AllByRecursion (λ (k : ℕ). held k ≡ true) ks → MarksOnly (with_registers ks m).registers held
registers_only [] m held only h = only
registers_only (x ∷ ks) m held only h = registers_only ks (with_register x m) held (flag_only m.registers x held only h.0) h.1

-- The wires that registers take.

next_all : (rs : List Register) (P Q : ℕ → Type 0) (k : ℕ) (ws : List ℕ) → ((k : ℕ) (r : Register) → slice_get rs k ≡ Some r → Q k → P r.next) → Q k → (o : Option Register) → slice_get rs k ≡ o → AllByRecursion P ws → AllByRecursion P (with_next o ws)
next_all rs P Q k ws so holds None is rest = rest
next_all rs P Q k ws so holds (Some r) is rest = (so k r is holds, rest)

pub nexts_all : (rs : List Register) (P Q : ℕ → Type 0) (ks : List ℕ) → ((k : ℕ) (r : Register) → slice_get rs k ≡ Some r → Q k → P r.next) → AllByRecursion Q ks → AllByRecursion P (register_next_wires rs ks)
nexts_all rs P Q [] so h = tt
nexts_all rs P Q (k ∷ ks) so h = next_all rs P Q k (register_next_wires rs ks) so h.0 (slice_get rs k) refl (nexts_all rs P Q ks so h.1)

next_first : (P : ℕ → Type 0) (o : Option Register) (ws : List ℕ) (r : Register) → o ≡ Some r → AllByRecursion P (with_next o ws) → P r.next
next_first P None ws r is h = absurd (cc)
next_first P (Some e) ws r is h = (let same : e ≡ r = cc in subst (λ (x : Register). P x.next) same h.0)

next_rest : (P : ℕ → Type 0) (o : Option Register) (ws : List ℕ) → AllByRecursion P (with_next o ws) → AllByRecursion P ws
next_rest P None ws h = h
next_rest P (Some e) ws h = h.1

-- a register that is marked now was marked before or is one of these
pub nexts_more : (rs : List Register) (P : ℕ → Type 0) (ks : List ℕ) (m : Marks) → ((k : ℕ) (r : Register) → slice_get rs k ≡ Some r → IsMarkedNumber m.registers k → P r.next) → AllByRecursion P (register_next_wires rs ks)
    → (k : ℕ) (r : Register) → slice_get rs k ≡ Some r → IsMarkedNumber (with_registers ks m).registers k → P r.next
nexts_more rs P [] m before h k r at on = before k r at on
nexts_more rs P (x ∷ ks) m before h k r at on = nexts_more rs P ks (with_register x m) with_it (next_rest P (slice_get rs x) (register_next_wires rs ks) h) k r at on
  where
    with_it : (a : ℕ) (e : Register) → slice_get rs a ≡ Some e → IsMarkedNumber (set m.registers x true) a → P e.next
    with_it a e there marked =
        elim (cases_eq a x) [
          | inl same ↦ next_first P (slice_get rs x) (register_next_wires rs ks) e (ap (λ (n : ℕ). slice_get rs n) (sym same) ∙ there) h
          | inr other ↦ before a e there (sym (get_or-set_other m.registers x a true false other) ∙ marked)
        ]
