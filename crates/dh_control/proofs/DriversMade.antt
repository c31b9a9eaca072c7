-- Drivers of the banks that an operation lists.
use Rattle.std.proofs.Common.{◌≡◌, ℕ, zero, suc, ◌+◌, ◌<◌, ◌≤◌, ◌==◌, ◌&&◌, Bool, true, false, Some, None, List, [], ◌∷◌, ◌++◌, length, take, refl, sym, ap, subst, ◌∙◌, arith, append_assoc}
use Rattle.std.specs.Prelude.{Option, ◌*◌, get_or, slice_index, slice_index_or}
use Rattle.std.proofs.lemmas.List.{append-nil, take_more}
use Rattle.dh_value.specs.Words.{value_of, word_of}
use Rattle.dh_value.specs.declared.kinds.Kind.{Kind}
use Rattle.dh_value.specs.declared.kinds.Kind.TheVariants as kind
use Rattle.dh_value.specs.declared.words.Word.{Word}
use Rattle.dh_net.specs.declared.nets.Driver.{Driver}
use Rattle.dh_plan.specs.BoundPorts.{port_among}
use Rattle.dh_plan.specs.Ordered.{one_or_none}
use Rattle.dh_cells.specs.PlainCircuits.{PlainCircuit}
use Rattle.dh_cells.specs.Settled.{Signals, Grows, IsWire, Adds, shown}
use Rattle.dh_cells.specs.ShownValues.{is_one, number_shown, converted_shown, match_shown, both_shown}
use Rattle.dh_cells.proofs.CellsAppended.{grows_none, grows_then, settled_fewer, wire_stays}
use Rattle.dh_cells.proofs.OperatorBits.{bit_tells}
use Rattle.dh_lower.specs.ShownWords.{port_or_first}
use Rattle.dh_control.specs.declared.driving.Asking.{Asking}
use Rattle.dh_control.specs.declared.gathering.Keyed.{Keyed}
use Rattle.dh_control.specs.DriverWires.{HasValue, MayHaveValue, MayShow, RowMade, PickMade, port_key, DrivesBank, DriveBanks, BanksDriven}
use Rattle.dh_control.specs.ValuesShown.{IsShownValue}
use Rattle.dh_control.proofs.ListFacts.{all_same}

-- A value that is named.

pub value_there : (d : PlainCircuit) (kinds : List Kind) (wires : List ℕ) (named : Option ℕ) (value : ℕ) → named ≡ Some value → MayHaveValue d kinds wires named → HasValue d kinds wires value
value_there d kinds wires named value is h = (subst (λ (o : Option ℕ). MayHaveValue d kinds wires o) is h).0

pub may_stay : (d e : PlainCircuit) (kinds : List Kind) (wires : List ℕ) (named : Option ℕ) → Grows d e → MayHaveValue d kinds wires named → MayHaveValue e kinds wires named
may_stay d e kinds wires named g h =
    all_same (HasValue d kinds wires) (HasValue e kinds wires) (one_or_none named) (λ v a. (a.0, (a.1.0, wire_stays d e (slice_index wires v) _ g a.1.1))) h

value_shown : (first : ℕ) (ws : List Word) (kinds : List Kind) (wires : List ℕ) (x : Signals) (named : Option ℕ) (value : ℕ) → named ≡ Some value → MayShow first ws kinds wires x named
    → IsShownValue first ws kinds wires x value
value_shown first ws kinds wires x named value is h = (subst (λ (o : Option ℕ). MayShow first ws kinds wires x o) is h).0

-- Rows.

pub row_none : (d e : PlainCircuit) (bits : ℕ) (kinds : List Kind) (wires : List ℕ) (row : Option ℕ) (wire : ℕ) → row ≡ None → Adds d e wire bits (number_shown 0) → RowMade d e bits kinds wires row wire
row_none d e bits kinds wires row wire none a =
    subst (λ (o : Option ℕ). RowMade d e bits kinds wires o wire) (sym none)
    (record { grows = a.grows; there = a.shows.there; is = λ x first ws s h. a.shows.is x s })

pub row_some : (d e : PlainCircuit) (bits : ℕ) (kinds : List Kind) (wires : List ℕ) (row : Option ℕ) (value wire : ℕ) → row ≡ Some value
    → Adds d e wire bits (converted_shown (slice_index_or kinds value kind.Bool) (kind.Unsigned bits) (slice_index wires value)) → RowMade d e bits kinds wires row wire
row_some d e bits kinds wires row value wire is a =
    subst (λ (o : Option ℕ). RowMade d e bits kinds wires o wire) (sym is)
    (record {
      grows = a.grows;
      there = a.shows.there;
      is = λ x first ws s h. a.shows.is x s ∙ ap (λ (w : Word). (word_of (kind.Unsigned bits) (value_of w)).bits) (sym h.0);
    })

-- Banks that are picked.

and_true : (t : Bool) → t ≡ (t && true)
and_true true = refl
and_true false = refl

pub pick_none : (d : PlainCircuit) (kinds : List Kind) (wires : List ℕ) (test : ℕ) (select : Option ℕ) (bank : ℕ) → select ≡ None → IsWire d test 1 → PickMade d d kinds wires test select bank test
pick_none d kinds wires test select bank none there =
    subst (λ (o : Option ℕ). PickMade d d kinds wires test o bank test) (sym none)
    (record { grows = grows_none d; there = there; is = λ x first ws s h. and_true (is_one x test) })

pub pick_some : (d e f : PlainCircuit) (kinds : List Kind) (wires : List ℕ) (test : ℕ) (select : Option ℕ) (value bank picked wire : ℕ) → select ≡ Some value
    → Adds d e picked 1 (match_shown (slice_index wires value) bank) → Adds e f wire 1 (both_shown test picked) → PickMade d f kinds wires test select bank wire
pick_some d e f kinds wires test select value bank picked wire is a b =
    subst (λ (o : Option ℕ). PickMade d f kinds wires test o bank wire) (sym is)
    (record {
      grows = grows_then d e f a.grows b.grows;
      there = b.shows.there;
      is = λ x first ws s h.
          let picked_is : is_one x picked ≡ (shown x (slice_index wires value) == bank) = bit_tells (shown x picked) _ (a.shows.is x (settled_fewer e f x b.grows s)) in
          bit_tells (shown x wire) _ (b.shows.is x s) ∙ ap (λ t. is_one x test && t) (picked_is ∙ ap (λ (w : Word). w.bits == bank) (sym h.0));
    })

-- One driver more.

bank_stays : (d e : PlainCircuit) (kinds : List Kind) (wires : List ℕ) (a : Asking) (select : Option ℕ) (bank : ℕ) (driver : Driver) → Grows d e → DrivesBank d kinds wires a select bank driver
    → DrivesBank e kinds wires a select bank driver
bank_stays d e kinds wires a select bank driver g h = record {
  write_is = h.write_is;
  row_is = h.row_is;
  data_is = h.data_is;
  there = wire_stays d e driver.enable 1 g h.there;
  is = λ x first ws s shows. h.is x first ws (settled_fewer d e x g s) shows;
}

pub banks_stay : (d e : PlainCircuit) (kinds : List Kind) (wires : List ℕ) (a : Asking) (select : Option ℕ) (first_port ports : ℕ) (pairs banks : List (ℕ × ℕ)) (es : List (Keyed Driver)) → Grows d e
    → DriveBanks d kinds wires a select first_port ports pairs banks es → DriveBanks e kinds wires a select first_port ports pairs banks es
banks_stay d e kinds wires a select first_port ports pairs [] [] g h = tt
banks_stay d e kinds wires a select first_port ports pairs [] (k ∷ es) g h = h
banks_stay d e kinds wires a select first_port ports pairs (b ∷ bs) [] g h = h
banks_stay d e kinds wires a select first_port ports pairs (b ∷ bs) (k ∷ es) g h =
    ((h.0.0, bank_stays d e kinds wires a select b.0 k.item g h.0.1), banks_stay d e kinds wires a select first_port ports pairs bs es g h.1)

banks_snoc : (d : PlainCircuit) (kinds : List Kind) (wires : List ℕ) (a : Asking) (select : Option ℕ) (first_port ports : ℕ) (pairs banks : List (ℕ × ℕ)) (es : List (Keyed Driver)) (b : ℕ × ℕ) (k : Keyed Driver)
    → k.key ≡ port_key first_port ports pairs b.0 → DrivesBank d kinds wires a select b.0 k.item → DriveBanks d kinds wires a select first_port ports pairs banks es
    → DriveBanks d kinds wires a select first_port ports pairs (banks ++ b ∷ []) (es ++ k ∷ [])
banks_snoc d kinds wires a select first_port ports pairs [] [] b k is drives h = ((is, drives), tt)
banks_snoc d kinds wires a select first_port ports pairs [] (l ∷ es) b k is drives h = absurd h
banks_snoc d kinds wires a select first_port ports pairs (c ∷ bs) [] b k is drives h = absurd h
banks_snoc d kinds wires a select first_port ports pairs (c ∷ bs) (l ∷ es) b k is drives h = (h.0, banks_snoc d kinds wires a select first_port ports pairs bs es b k is drives h.1)

pub none_driven : (d : PlainCircuit) (kinds : List Kind) (wires : List ℕ) (a : Asking) (select : Option ℕ) (first_port ports : ℕ) (pairs : List (ℕ × ℕ)) (before : List (Keyed Driver))
    → BanksDriven d d kinds wires a select first_port ports pairs [] before before
none_driven d kinds wires a select first_port ports pairs before = record { grows = grows_none d; added = []; behind = sym (append-nil before); drive = tt }

pub next_driven : (d e f : PlainCircuit) (kinds : List Kind) (wires : List ℕ) (a : Asking) (select : Option ℕ) (first_port ports : ℕ) (pairs banks : List (ℕ × ℕ)) (i : ℕ) (b : ℕ × ℕ) (enable port bank_from port_from key : ℕ)
    (before mid after : List (Keyed Driver)) → i < length banks → port ≡ port_or_first (port_among (get_or banks i b).0 pairs) → bank_from ≡ (get_or banks i b).0 → port_from ≡ port
    → key ≡ first_port + (bank_from * ports + port_from)
    → BanksDriven d e kinds wires a select first_port ports pairs (take i banks) before mid → PickMade e f kinds wires a.test select (get_or banks i b).0 enable
    → after ≡ mid ++ record { key = key; item = record { enable = enable; write = a.write; row = a.row; data_ = a.value } } ∷ []
    → BanksDriven d f kinds wires a select first_port ports pairs (take (i + 1) banks) before after
next_driven d e f kinds wires a select first_port ports pairs banks i b enable port bank_from port_from key before mid after less port_is bank_as port_as key_is h p put =
    let driver : Keyed Driver = record { key = key; item = record { enable = enable; write = a.write; row = a.row; data_ = a.value } } in
    record {
      grows = grows_then d e f h.grows p.grows;
      added = h.added ++ driver ∷ [];
      behind = put ∙ (ap (λ l. l ++ driver ∷ []) h.behind ∙ append_assoc before h.added (driver ∷ []));
      drive =
          subst (λ (l : List (ℕ × ℕ)). DriveBanks f kinds wires a select first_port ports pairs l (h.added ++ driver ∷ [])) (sym (take_more banks i b less))
          (banks_snoc f kinds wires a select first_port ports pairs (take i banks) h.added (get_or banks i b) driver
          (key_is ∙ ((λ j. first_port + (bank_as j * ports + port_as j)) ∙ ap (λ n. first_port + ((get_or banks i b).0 * ports + n)) port_is))
          (record { write_is = refl; row_is = refl; data_is = refl; there = p.there; is = λ x first ws s shows. p.is x first ws s shows })
          (banks_stay e f kinds wires a select first_port ports pairs (take i banks) h.added p.grows h.drive));
    }

take_whole : {A : Type 0} (n : ℕ) (xs : List A) → length xs ≤ n → take n xs ≡ xs
take_whole zero [] less = refl
take_whole (suc n) [] less = refl
take_whole zero (x ∷ xs) less = absurd (omega (arith, less))
take_whole (suc n) (x ∷ xs) less = ap (λ l. x ∷ l) (take_whole n xs (omega (arith, less)))

pub all_driven : (d e : PlainCircuit) (kinds : List Kind) (wires : List ℕ) (a : Asking) (select : Option ℕ) (first_port ports : ℕ) (pairs banks : List (ℕ × ℕ)) (i : ℕ) (before after : List (Keyed Driver))
    → length banks ≤ i → BanksDriven d e kinds wires a select first_port ports pairs (take i banks) before after → BanksDriven d e kinds wires a select first_port ports pairs banks before after
all_driven d e kinds wires a select first_port ports pairs banks i before after all h =
    subst (λ (l : List (ℕ × ℕ)). BanksDriven d e kinds wires a select first_port ports pairs l before after) (take_whole i banks all) h
