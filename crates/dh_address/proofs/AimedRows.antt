-- What is put down for the row and the bank of an access by indices, and what both show.
use Rattle.std.proofs.Common.{◌≡◌, ℕ, ◌<◌, ◌≤◌, ◌^◌, Some, None, List, Bool, true, false, length, refl, sym, ap, subst, ◌∙◌, arith}
use Rattle.std.specs.Prelude.{[], ◌∷◌, Option}
use Rattle.std.specs.List.{AllByRecursion}
use Rattle.std.proofs.lemmas.Nat.{pow_pos}
use Rattle.dh_value.specs.declared.kinds.Kind.{Kind}
use Rattle.dh_value.specs.declared.kinds.Kind.TheVariants as kind
use Rattle.dh_value.specs.declared.words.Word.{Word}
use Rattle.dh_value.specs.Words.{IsWidth, IsWord, value_of, with_bits, word_of}
use Rattle.dh_tree.specs.declared.tables.Dim.{Dim}
use Rattle.dh_tree.specs.Elements.{bank_of, row_of}
use Rattle.dh_plan.specs.declared.operations.Operation.{Operation}
use Rattle.dh_plan.specs.declared.operations.OperationForm.TheVariants.{Constant, Convert}
use Rattle.dh_rows.specs.Readings.{Readings, Obeys, IsEarlierValue, OperationsGrow, AddsOperations, IsReadingValue, IsValueOrNone}
use Rattle.dh_rows.specs.RowsShown.{ShowsUnsigned, ShowsOrZero, IsInput, IndicesAreWithin, IsWideEnough, IsRowMade}
use Rattle.dh_rows.specs.MadeOperations.{Made, constant_made, or_zero}
use Rattle.dh_rows.proofs.Growing.{grows_self, grows_on, plain_grows, pushed_grows, obeys_before, pushed_word, value_later, maybe_later, adds_self, adds_on, pushed_adds, pushed_value}
use Rattle.dh_rows.proofs.CountWords.{number_word}
use Rattle.dh_address.specs.declared.literals.LiteralPlace.{LiteralPlace}
use Rattle.dh_address.specs.Pieces.{IsAim, IsAimBut, narrowed_bank, waited}
use Rattle.dh_address.proofs.TestedRanges.{PutsMaybe, begun_later}

-- a select is there if the bank is wanted
abbrev pub HasSelect : (banked : Bool) → Option ℕ → Type 0
HasSelect false select = select ≡ None
HasSelect true select = (v : ℕ) × (select ≡ Some v)

module _ (x : Readings) (clock : ℕ) where
  -- plain operations, and a value of a kind
  pub record PutsMade (old : List Operation) (m : Made) (k : Kind) : Type 0 where
    pub adds : AddsOperations x clock old m.operations
    pub stands : IsReadingValue x clock m.operations k m.value

  -- plain operations, a row, and a bank where it is wanted
  pub record PutsAim (old new : List Operation) (k j : Kind) (banked : Bool) (row : ℕ) (select : Option ℕ) : Type 0 where
    pub adds : AddsOperations x clock old new
    pub row_stands : IsReadingValue x clock new k row
    pub select_stands : IsValueOrNone x clock new j select
    pub has : HasSelect banked select

  constant_put : (old : List Operation) (width n : ℕ) → x.first ≤ length old → IsWord (with_bits (kind.Unsigned width) n) → PutsMade old (constant_made old width n) (kind.Unsigned width)
  constant_put old width n begun word = record {
    adds = pushed_adds x clock old (Constant (with_bits (kind.Unsigned width) n)) refl begun (λ o. tt) (λ o. word);
    stands = pushed_value x clock old (Constant (with_bits (kind.Unsigned width) n)) refl begun (λ o. tt) (λ o. word) (kind.Unsigned width) (λ o. refl);
  }

  zero_word : (width : ℕ) → IsWidth width → IsWord (with_bits (kind.Unsigned width) 0)
  zero_word width sized = record { sized = sized; fits = pow_pos width }

  or_zero_put : (old : List Operation) (width : ℕ) (value : Option ℕ) → IsWidth width → x.first ≤ length old → IsValueOrNone x clock old (kind.Unsigned width) value
      → PutsMade old (or_zero old width value) (kind.Unsigned width)
  or_zero_put old width None sized begun h = constant_put old width 0 begun (zero_word width sized)
  or_zero_put old width (Some value) sized begun h = record { adds = adds_self x clock old; stands = h }

  -- cut to the width of selects
  narrowed_put : (old : List Operation) (bank : Made) (k : Kind) (narrow : ℕ) → IsWidth narrow → x.first ≤ length old → PutsMade old bank k → PutsMade old (narrowed_bank narrow bank) (kind.Unsigned narrow)
  narrowed_put old bank k narrow sized begun h =
      let behind = begun_later x old bank.operations h.adds.grows begun in
      let takes : (Obeys x bank.operations → AllByRecursion (λ v. IsEarlierValue x clock (length bank.operations) v) (bank.value ∷ [])) = λ o. ((h.stands o).earlier, tt) in
      record {
        adds = adds_on x clock old bank.operations (narrowed_bank narrow bank).operations h.adds
            (pushed_adds x clock bank.operations (Convert bank.value (kind.Unsigned narrow)) refl behind takes (λ o. sized));
        stands = pushed_value x clock bank.operations (Convert bank.value (kind.Unsigned narrow)) refl behind takes (λ o. sized) (kind.Unsigned narrow) (λ o. refl);
      }

  aim_put : (old : List Operation) (k j : Kind) (banked : Bool) (row bank : Made) (new : List Operation) (number : ℕ) (select : Option ℕ)
      → PutsMade old row k → PutsMade row.operations bank j → IsAim banked row bank new number select → PutsAim old new k j banked number select
  aim_put old k j false row bank new number select r b h =
      subst (λ (os : List Operation). PutsAim old os k j false number select) (sym h.0)
      (subst (λ (n : ℕ). PutsAim old row.operations k j false n select) (sym h.1.0)
      (subst (λ (s : Option ℕ). PutsAim old row.operations k j false row.value s) (sym h.1.1) (record { adds = r.adds; row_stands = r.stands; select_stands = tt; has = refl })))
  aim_put old k j true row bank new number select r b h =
      subst (λ (os : List Operation). PutsAim old os k j true number select) (sym h.0)
      (subst (λ (n : ℕ). PutsAim old bank.operations k j true n select) (sym h.1.0)
      (subst (λ (s : Option ℕ). PutsAim old bank.operations k j true row.value s) (sym h.1.1)
      (record {
        adds = adds_on x clock old row.operations bank.operations r.adds b.adds;
        row_stands = value_later x clock row.operations bank.operations k row.value b.adds.grows r.stands;
        select_stands = b.stands;
        has = (bank.value, refl);
      })))

  -- a constant place whose numbers fit their widths
  abbrev pub PlaceFits : (width narrow : ℕ) → Option LiteralPlace → Type 0
  PlaceFits width narrow None = Unit {0}
  PlaceFits width narrow (Some place) = (place.row < 2 ^ width) × (place.bank < 2 ^ narrow)

  pub index_aim_put : (place : Option LiteralPlace) (width narrow : ℕ) (dims : List Dim) (indices : List ℕ) (banked : Bool) (old new : List Operation) (row : ℕ) (select : Option ℕ)
      → IsAimBut place width narrow dims indices banked old new row select → IsWideEnough width dims → IsWidth narrow → PlaceFits width narrow place → x.first ≤ length old
      → AllByRecursion (λ i. IsInput x clock old i) indices → PutsAim old new (kind.Unsigned width) (kind.Unsigned narrow) banked row select
  index_aim_put (Some place) width narrow dims indices banked old new row select h wide few fits begun inputs =
      let row_made = constant_made old width place.row in
      aim_put old (kind.Unsigned width) (kind.Unsigned narrow) banked row_made (constant_made row_made.operations narrow place.bank) new row select
      (constant_put old width place.row begun (record { sized = wide.sized; fits = fits.0 }))
      (constant_put row_made.operations narrow place.bank (begun_later x old row_made.operations (pushed_grows old None _) begun) (record { sized = few; fits = fits.1 })) h
  index_aim_put None width narrow dims indices banked old new row select h wide few fits begun inputs =
      let m : IsRowMade width dims indices banked old h.spread h.values.row h.values.bank = h.made wide in
      let row_made = or_zero h.spread width h.values.row in
      let at_spread = begun_later x old h.spread (plain_grows old h.spread h.grows) begun in
      let r = or_zero_put h.spread width h.values.row wide.sized at_spread (m.row_stands x clock begun inputs) in
      let grown = grows_on old h.spread row_made.operations (plain_grows old h.spread h.grows) r.adds.grows in
      let at_row = begun_later x old row_made.operations grown begun in
      let b = or_zero_put row_made.operations width h.values.bank wide.sized at_row
      (maybe_later x clock h.spread row_made.operations (kind.Unsigned width) h.values.bank r.adds.grows (m.bank_stands x clock begun inputs)) in
      let bank = or_zero row_made.operations width h.values.bank in
      let c = narrowed_put row_made.operations bank (kind.Unsigned width) narrow few at_row b in
      let aim = aim_put h.spread (kind.Unsigned width) (kind.Unsigned narrow) banked row_made (narrowed_bank narrow bank) new row select r c h.aim in
      record {
        adds = adds_on x clock old h.spread new (m.adds x clock begun inputs) aim.adds;
        row_stands = aim.row_stands;
        select_stands = aim.select_stands;
        has = aim.has;
      }

  abbrev pub IsInputOrNone : List Operation → Option ℕ → Type 0
  IsInputOrNone os None = Unit {0}
  IsInputOrNone os (Some v) = IsInput x clock os v

  -- what is waited for is a number of one bit
  pub waited_put : (old : List Operation) (select : Option ℕ) → x.first ≤ length old → IsInputOrNone old select
      → PutsMaybe x clock old (waited old select).operations (kind.Unsigned 1) (waited old select).sum
  waited_put old None begun h = record { adds = adds_self x clock old; stands = tt }
  waited_put old (Some v) begun h =
      let takes : (Obeys x old → AllByRecursion (λ v. IsEarlierValue x clock (length old) v) (v ∷ [])) = λ o. (h o, tt) in
      let one : IsWidth 1 = (omega arith, omega arith) in
      record {
        adds = pushed_adds x clock old (Convert v (kind.Unsigned 1)) refl begun takes (λ o. one);
        stands = pushed_value x clock old (Convert v (kind.Unsigned 1)) refl begun takes (λ o. one) (kind.Unsigned 1) (λ o. refl);
      }

-- What they show.

module _ (x : Readings) (width narrow : ℕ) where
  -- a select, where there is one, shows the bank
  abbrev pub ShowsSelect : Option ℕ → (bank : ℕ) → Type 0
  ShowsSelect None bank = Unit {0}
  ShowsSelect (Some v) bank = ShowsUnsigned x narrow v bank

  pub record ShowsAim (row : ℕ) (select : Option ℕ) (row_number bank : ℕ) : Type 0 where
    pub row_shown : ShowsUnsigned x width row row_number
    pub bank_shown : ShowsSelect select bank

  or_zero_shows : (old : List Operation) (value : Option ℕ) (n : ℕ) → x.first ≤ length old → Obeys x (or_zero old width value).operations → ShowsOrZero x width value n
      → ShowsUnsigned x width (or_zero old width value).value n
  or_zero_shows old None n begun obeys h =
      pushed_word x old (Constant (with_bits (kind.Unsigned width) 0)) refl begun obeys ∙ ap (λ (m : ℕ). with_bits (kind.Unsigned width) m) (sym h)
  or_zero_shows old (Some value) n begun obeys h = h

  constant_shows : (old : List Operation) (w n : ℕ) → x.first ≤ length old → Obeys x (constant_made old w n).operations → ShowsUnsigned x w (constant_made old w n).value n
  constant_shows old w n begun obeys = pushed_word x old (Constant (with_bits (kind.Unsigned w) n)) refl begun obeys

  -- a bank that fits is the same as a select
  narrowed_shows : (bank : Made) (n : ℕ) → x.first ≤ length bank.operations → n < 2 ^ narrow → Obeys x (narrowed_bank narrow bank).operations → ShowsUnsigned x width bank.value n
      → ShowsUnsigned x narrow (narrowed_bank narrow bank).value n
  narrowed_shows bank n begun fits obeys h =
      pushed_word x bank.operations (Convert bank.value (kind.Unsigned narrow)) refl begun obeys
      ∙ (ap (λ (w : Word). word_of (kind.Unsigned narrow) (value_of w)) h ∙ number_word narrow n fits)

  aim_shows : (banked : Bool) (row bank : Made) (new : List Operation) (number : ℕ) (select : Option ℕ) (row_number bank_number : ℕ)
      → OperationsGrow row.operations bank.operations → IsAim banked row bank new number select → Obeys x new
      → (Obeys x row.operations → ShowsUnsigned x width row.value row_number) → (banked ≡ true → Obeys x bank.operations → ShowsUnsigned x narrow bank.value bank_number)
      → ShowsAim number select row_number bank_number
  aim_shows false row bank new number select row_number bank_number grown h obeys r b =
      subst (λ (n : ℕ). ShowsAim n select row_number bank_number) (sym h.1.0)
      (subst (λ (s : Option ℕ). ShowsAim row.value s row_number bank_number) (sym h.1.1)
      (record { row_shown = r (subst (λ (os : List Operation). Obeys x os) h.0 obeys); bank_shown = tt }))
  aim_shows true row bank new number select row_number bank_number grown h obeys r b =
      let behind = subst (λ (os : List Operation). Obeys x os) h.0 obeys in
      subst (λ (n : ℕ). ShowsAim n select row_number bank_number) (sym h.1.0)
      (subst (λ (s : Option ℕ). ShowsAim row.value s row_number bank_number) (sym h.1.1)
      (record { row_shown = r (obeys_before x row.operations bank.operations grown behind); bank_shown = b refl behind }))

  or_zero_grows : (old : List Operation) (value : Option ℕ) → OperationsGrow old (or_zero old width value).operations
  or_zero_grows old None = pushed_grows old None _
  or_zero_grows old (Some value) = grows_self old

  -- a constant place is that of the element
  abbrev pub PlaceIs : Option LiteralPlace → (row bank : ℕ) → Type 0
  PlaceIs None row bank = Unit {0}
  PlaceIs (Some place) row bank = (place.row ≡ row) × (place.bank ≡ bank)

  aim_grows : (banked : Bool) (row bank : Made) (new : List Operation) (number : ℕ) (select : Option ℕ) → OperationsGrow row.operations bank.operations → IsAim banked row bank new number select
      → OperationsGrow row.operations new
  aim_grows false row bank new number select g h = subst (λ (os : List Operation). OperationsGrow row.operations os) (sym h.0) (grows_self row.operations)
  aim_grows true row bank new number select g h = subst (λ (os : List Operation). OperationsGrow row.operations os) (sym h.0) g

  pub index_aim_shows : (place : Option LiteralPlace) (dims : List Dim) (indices : List ℕ) (banked : Bool) (old new : List Operation) (row : ℕ) (select : Option ℕ) (numbers : List ℕ)
      → IsAimBut place width narrow dims indices banked old new row select → IsWideEnough width dims → bank_of dims numbers < 2 ^ narrow → PlaceIs place (row_of dims numbers) (bank_of dims numbers)
      → x.first ≤ length old → Obeys x new → IndicesAreWithin x dims indices numbers → ShowsAim row select (row_of dims numbers) (bank_of dims numbers)
  index_aim_shows (Some place) dims indices banked old new row select numbers h wide fits is begun obeys within =
      let row_made = constant_made old width place.row in
      let grown = pushed_grows old None (Constant (with_bits (kind.Unsigned width) place.row)) in
      aim_shows banked row_made (constant_made row_made.operations narrow place.bank) new row select (row_of dims numbers) (bank_of dims numbers)
      (pushed_grows row_made.operations None _) h obeys
      (λ o. subst (λ (n : ℕ). ShowsUnsigned x width (length old) n) is.0 (constant_shows old width place.row begun o))
      (λ b o. subst (λ (n : ℕ). ShowsUnsigned x narrow (length row_made.operations) n) is.1 (constant_shows row_made.operations narrow place.bank (begun_later x old row_made.operations grown begun) o))
  index_aim_shows None dims indices banked old new row select numbers h wide fits is begun obeys within =
      let m : IsRowMade width dims indices banked old h.spread h.values.row h.values.bank = h.made wide in
      let row_made = or_zero h.spread width h.values.row in
      let row_grows = or_zero_grows h.spread h.values.row in
      let bank = or_zero row_made.operations width h.values.bank in
      let cut_grows = pushed_grows bank.operations None (Convert bank.value (kind.Unsigned narrow)) in
      let to_bank = or_zero_grows row_made.operations h.values.bank in
      let bank_grows = grows_on row_made.operations bank.operations (narrowed_bank narrow bank).operations to_bank cut_grows in
      let at_spread = begun_later x old h.spread (plain_grows old h.spread h.grows) begun in
      let spread_obeys : Obeys x h.spread =
      obeys_before x h.spread row_made.operations row_grows (obeys_before x row_made.operations new
      (aim_grows banked row_made (narrowed_bank narrow bank) new row select bank_grows h.aim) obeys)
      in
      let at_row = begun_later x h.spread row_made.operations row_grows at_spread in
      aim_shows banked row_made (narrowed_bank narrow bank) new row select (row_of dims numbers) (bank_of dims numbers) bank_grows h.aim obeys
      (λ o. or_zero_shows h.spread h.values.row (row_of dims numbers) at_spread o (m.row_shown x numbers begun spread_obeys within))
      (λ b o. narrowed_shows bank (bank_of dims numbers) (begun_later x row_made.operations bank.operations to_bank at_row) fits o
      (or_zero_shows row_made.operations h.values.bank (bank_of dims numbers) at_row (obeys_before x bank.operations (narrowed_bank narrow bank).operations cut_grows o)
      (m.bank_shown x numbers begun spread_obeys within b)))
