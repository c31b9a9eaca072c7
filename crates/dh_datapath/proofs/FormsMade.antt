-- What the wire of a form shows, by that of its parts; and the kind of what a form gives.
use Rattle.std.proofs.Common.{◌≡◌, ℕ, ◌+◌, ◌-◌, ◌<◌, Some, None, Bool, true, false, if◌then◌else◌, List, length, refl, sym, ap, subst, ◌∙◌}
use Rattle.std.specs.Prelude.{[], ◌∷◌, ◌++◌, Option, slice_index}
use Rattle.std.specs.List.{AllByRecursion}
use Rattle.std.proofs.lemmas.List.{get_or-drop}
use Rattle.dh_value.specs.declared.kinds.Kind.{Kind}
use Rattle.dh_value.specs.declared.words.Word.{Word}
use Rattle.dh_value.specs.Operations.{is_true, result_of}
use Rattle.dh_value.specs.Words.{width_of, with_bits}
use Rattle.dh_value.proofs.WordLaws.{binary_kind}
use Rattle.dh_tree.specs.declared.tables.MemEntry.{MemEntry}
use Rattle.dh_meaning.specs.Effects.{kind_in}
use Rattle.dh_plan.specs.declared.operations.Operation.{Operation}
use Rattle.dh_plan.specs.declared.operations.OperationForm.{OperationForm}
use Rattle.dh_plan.specs.declared.operations.OperationForm.TheVariants.{Constant, Old, Compute, Convert, Select, Check, Probe, Read, Write, Set}
use Rattle.dh_plan.specs.declared.operations.Reach.{Reach}
use Rattle.dh_plan.specs.Blocks.{Look, word_at, is_on, kind_at, bank_picked, form_word, guarded}
use Rattle.dh_plan.specs.Ordered.{IsBetween, one_or_none, offsets_taken, form_takes}
use Rattle.dh_plan.specs.PlainPlans.{PlainPlan}
use Rattle.dh_plan.specs.PlanKinds.{kind_of_value, form_kind}
use Rattle.dh_plan.proofs.ValuesAlike.{all_left, all_right}
use Rattle.dh_lower.specs.ShownWords.{bank_or_first, if_listed, is_bank_listed}
use Rattle.dh_cells.specs.PlainCircuits.{PlainCircuit}
use Rattle.dh_cells.specs.Settled.{Signals, Adds, shown}
use Rattle.dh_cells.specs.ShownValues.{number_shown}
use Rattle.dh_cells.proofs.WiresMade.{adds_as, adds_behind, adds_none}
use Rattle.dh_datapath.specs.BlockWires.{start_shown, ports_look, CanShow, read_bits, form_wire_bits, operation_bits}
use Rattle.dh_datapath.specs.ReadWires.{bank_held, bank_shown, selected_bank_shown}
use Rattle.dh_datapath.specs.RegistersShown.{AreRegisterWires}
use Rattle.dh_datapath.specs.ValueWires.{AreValueWires, SelectIsThere, value_words, guarded_value_shown}
use Rattle.dh_datapath.proofs.ShownValueWords.{word_is}

-- Reads.

abbrev read_by : List MemEntry → (ports : List (ℕ × ℕ)) → (first : ℕ) → List Kind → (wires : List ℕ) → (memory : ℕ) → (banks : List (ℕ × ℕ)) → (select : Option ℕ) → Signals → ℕ
read_by table ports first ks ws memory banks select =
    λ x. if_listed banks (bank_held table memory ports x.held (bank_or_first banks (bank_picked first (value_words ks ws x) banks select)))

either_way : (t : Bool) (n : ℕ) → (if t then n else n) ≡ n
either_way true n = refl
either_way false n = refl

module _ (d e : PlainCircuit) (wire width : ℕ) (ports : List (ℕ × ℕ)) (first : ℕ) (ks : List Kind) (ws : List ℕ) (r : Reach) where
  read_as : (banks : List (ℕ × ℕ)) (select : Option ℕ) → r.banks ≡ banks → r.select ≡ select → Adds d e wire width (read_by d.table ports first ks ws r.memory banks select)
      → Adds d e wire width (read_bits d.table ports first ks ws r)
  read_as banks select is picks added =
      subst (λ (b : List (ℕ × ℕ)). Adds d e wire width (read_by d.table ports first ks ws r.memory b r.select)) (sym is)
      (subst (λ (s : Option ℕ). Adds d e wire width (read_by d.table ports first ks ws r.memory banks s)) (sym picks) added)

  -- one that lists no bank
  pub unlisted_made : r.banks ≡ [] → Adds d e wire width (number_shown 0) → Adds d e wire width (read_bits d.table ports first ks ws r)
  unlisted_made none added = read_as [] r.select none refl added

  -- of the first bank
  pub first_made : (bank : ℕ × ℕ) (others : List (ℕ × ℕ)) → r.banks ≡ bank ∷ others → r.select ≡ None → Adds d e wire width (bank_shown d.table r.memory ports bank.0)
      → Adds d e wire width (read_bits d.table ports first ks ws r)
  first_made bank others is picks added =
      read_as (bank ∷ others) None is picks
      (adds_as d e wire width width (bank_shown d.table r.memory ports bank.0) (read_by d.table ports first ks ws r.memory (bank ∷ others) None) refl added
      (λ x settled. sym (ap (λ (b : ℕ). bank_held d.table r.memory ports x.held b) (either_way (is_bank_listed bank.0 (bank ∷ others)) bank.0))))

  -- of the bank that a value picks
  pub picked_made : AreValueWires d ks ws → (bank : ℕ × ℕ) (others : List (ℕ × ℕ)) (number select : ℕ) → IsBetween first (first + length ws) number → r.banks ≡ bank ∷ others → r.select ≡ Some number
      → select ≡ slice_index ws (number - first) → Adds d e wire width (selected_bank_shown d.table r.memory ports bank others select)
      → Adds d e wire width (read_bits d.table ports first ks ws r)
  picked_made values bank others number select there is picks at added =
      read_as (bank ∷ others) (Some number) is picks
      (adds_as d e wire width width (selected_bank_shown d.table r.memory ports bank others select) (read_by d.table ports first ks ws r.memory (bank ∷ others) (Some number)) refl added
      (λ x settled.
      (λ i. bank_held d.table r.memory ports x.held (bank_or_first (bank ∷ others) (shown x (at i))))
      ∙ sym (ap (λ (w : Word). bank_held d.table r.memory ports x.held (bank_or_first (bank ∷ others) w.bits)) (word_is d first ks ws values x number there))))

-- Forms.

module _ (d e : PlainCircuit) (wire : ℕ) (plan : PlainPlan) (offset : ℕ) (ports : List (ℕ × ℕ)) (first : ℕ) (ks : List Kind) (ws : List ℕ) where
  -- cells were added for a form
  abbrev pub FormAdded : OperationForm → Type 0
  FormAdded f = Adds d e wire (width_of (form_kind plan.table plan.registers first ks f)) (form_wire_bits plan offset ports first ks ws f)

  pub form_as : (f g : OperationForm) → f ≡ g → FormAdded g → FormAdded f
  form_as f g is added = subst (λ (h : OperationForm). FormAdded h) (sym is) added

  pub constant_added : (f : OperationForm) (word : Word) (w bits : ℕ) → f ≡ Constant word → w ≡ width_of word.kind → Adds d e wire w (number_shown word.bits) → FormAdded f
  constant_added f word w bits is wide added =
      form_as f (Constant word) is (adds_as d e wire w (width_of word.kind) (number_shown word.bits) (form_wire_bits plan offset ports first ks ws (Constant word)) wide added (λ x settled. refl))

  pub read_added : (f : OperationForm) (r : Reach) (w : ℕ) → f ≡ Read r → w ≡ width_of (kind_in plan.table r.memory) → d.table ≡ plan.table → Adds d e wire w (read_bits d.table ports first ks ws r) → FormAdded f
  read_added f r w is wide table added =
      form_as f (Read r) is
      (adds_as d e wire w (width_of (kind_in plan.table r.memory)) (read_bits d.table ports first ks ws r) (form_wire_bits plan offset ports first ks ws (Read r)) wide added
      (λ x settled. ap (λ (t : List MemEntry). read_bits t ports first ks ws r x) table))

-- a register's wire, which was there
pub old_added : (d : PlainCircuit) (wire : ℕ) (plan : PlainPlan) (offset : ℕ) (ports : List (ℕ × ℕ)) (first : ℕ) (ks : List Kind) (ws : List ℕ) (f : OperationForm) (register : ℕ) (wires : List ℕ)
    → f ≡ Old register → register < length plan.registers → wire ≡ slice_index wires register → AreRegisterWires d offset plan.registers wires (length plan.registers)
    → FormAdded d d wire plan offset ports first ks ws f
old_added d wire plan offset ports first ks ws f register wires is named at show =
    form_as d d wire plan offset ports first ks ws f (Old register) is
    (subst (λ (w : ℕ). FormAdded d d w plan offset ports first ks ws (Old register)) (sym at)
    (adds_none d (slice_index wires register) (width_of (kind_at plan.registers register)) (form_wire_bits plan offset ports first ks ws (Old register)) (show.each register named).there
    (λ x settled. (show.each register named).is x settled ∙ sym (get_or-drop offset x.registers register 0))))

-- behind what was added for its form, an operation's
pub guarded_added : (d e f : PlainCircuit) (new wire : ℕ) (plan : PlainPlan) (offset : ℕ) (ports : List (ℕ × ℕ)) (first : ℕ) (ks : List Kind) (ws : List ℕ) (o : Operation) (of : Kind)
    → of ≡ form_kind plan.table plan.registers first ks o.form
    → ((x : Signals) → (form_word (start_shown plan offset x) (ports_look plan.table ports x.held first) first (value_words ks ws x) 0 o.form).kind ≡ form_kind plan.table plan.registers first ks o.form)
    → FormAdded d e wire plan offset ports first ks ws o.form → Adds e f new (width_of of) (guarded_value_shown first ks ws o.guard of wire)
    → Adds d f new (width_of (form_kind plan.table plan.registers first ks o.form)) (operation_bits plan offset ports first ks ws o)
guarded_added d e f new wire plan offset ports first ks ws o of is alike before added =
    subst (λ (k : Kind). Adds d f new (width_of k) (operation_bits plan offset ports first ks ws o)) is
    (adds_behind d e f new (width_of of) (guarded_value_shown first ks ws o.guard of wire) (operation_bits plan offset ports first ks ws o) before.grows added
    (λ x settled.
    let word = form_word (start_shown plan offset x) (ports_look plan.table ports x.held first) first (value_words ks ws x) 0 o.form in
    let same : of ≡ word.kind = is ∙ sym (alike x) in
    let on = is_on first (value_words ks ws x) o.guard in
    λ i. (guarded on (with_bits (same i) (before.shows.is x settled i))).bits))

-- Kinds.

chosen_kind : (t : Bool) (v w : Word) (k : Kind) → v.kind ≡ k → w.kind ≡ k → (if t then v else w).kind ≡ k
chosen_kind true v w k a b = a
chosen_kind false v w k a b = b

pub guarded_kind : (t : Bool) (w : Word) → (guarded t w).kind ≡ w.kind
guarded_kind true w = refl
guarded_kind false w = refl

module _ (d : PlainCircuit) (plan : PlainPlan) (offset first : ℕ) (ks : List Kind) (ws : List ℕ) (values : AreValueWires d ks ws) (ports : List (ℕ × ℕ)) (x : Signals) (look : Look) (number : ℕ) where
  there_kind : (n : ℕ) → IsBetween first (first + length ws) n → (word_at first (value_words ks ws x) n).kind ≡ kind_of_value first ks n
  there_kind n there = ap (λ (w : Word). w.kind) (word_is d first ks ws values x n there)

  -- the kind of the word of a form, by what wires show
  pub form_word_kind : (f : OperationForm) → AllByRecursion (IsBetween first (first + length ws)) (form_takes f) → CanShow plan ports first ks f
      → (form_word (start_shown plan offset x) look first (value_words ks ws x) number f).kind ≡ form_kind plan.table plan.registers first ks f
  form_word_kind (Constant word) there suits = refl
  form_word_kind (Old register) there suits = refl
  form_word_kind (Compute op left right) there suits =
      binary_kind op (word_at first (value_words ks ws x) left) (word_at first (value_words ks ws x) right) ∙ ap (λ (k : Kind). result_of op k) (there_kind left there.0)
  form_word_kind (Convert inner to) there suits = refl
  form_word_kind (Select test a b) there suits =
      chosen_kind (is_true (word_at first (value_words ks ws x) test)) (word_at first (value_words ks ws x) a) (word_at first (value_words ks ws x) b) (kind_of_value first ks a)
      (there_kind a there.1.0) (there_kind b there.1.1.0 ∙ sym suits.1)
  form_word_kind (Check ok fault) there suits = refl
  form_word_kind (Probe r fault) there suits = refl
  form_word_kind (Read r) there suits = refl
  form_word_kind (Write r value) there suits = refl
  form_word_kind (Set register value) there suits = refl

-- the value that picks a bank is one that is there
pub read_select : (first : ℕ) (ws : List ℕ) (f : OperationForm) (r : Reach) → f ≡ Read r → AllByRecursion (IsBetween first (first + length ws)) (form_takes f) → SelectIsThere first ws r.select
read_select first ws f r is h =
    by r.select
    (all_left (IsBetween first (first + length ws)) (one_or_none r.select) (one_or_none r.row)
    (all_right (IsBetween first (first + length ws)) (offsets_taken r.steps) (one_or_none r.select ++ one_or_none r.row)
    (all_right (IsBetween first (first + length ws)) r.indices (offsets_taken r.steps ++ (one_or_none r.select ++ one_or_none r.row))
    (subst (λ (g : OperationForm). AllByRecursion (IsBetween first (first + length ws)) (form_takes g)) is h))))
  where
    by : (select : Option ℕ) → AllByRecursion (IsBetween first (first + length ws)) (one_or_none select) → SelectIsThere first ws select
    by None h = tt
    by (Some number) h = h.0
