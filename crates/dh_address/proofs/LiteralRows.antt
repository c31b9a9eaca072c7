-- Rows and banks of literals are constants: each read and write of the new plan is put down for one of the old plan;
-- where that one's indices, or its row and bank, are constants, so are row and bank of the new one.
use Rattle.std.proofs.Common.{◌≡◌, ℕ, zero, suc, ◌+◌, ◌<◌, ◌≤◌, ◌⊎◌, inl, inr, true, List, refl, sym, ap, ◌∙◌, subst, arith, length}
use Rattle.std.specs.Prelude.{Option, Some, None, [], ◌∷◌, ◌++◌, slice_get, slice_index}
use Rattle.std.specs.List.{AllByRecursion}
use Rattle.std.proofs.Math.ListN.{get_or-append}
use Rattle.std.proofs.Math.Seq.{get_or-append_seam}
use Rattle.std.proofs.lemmas.Bool.{cases_lt}
use Rattle.std.proofs.lemmas.List.{length-append}
use Rattle.std.proofs.lemmas.Option.{slice_get_within}
use Rattle.dh_value.specs.declared.kinds.Kind.{Kind}
use Rattle.dh_value.specs.declared.words.Word.{Word}
use Rattle.dh_plan.specs.declared.operations.Operation.{Operation}
use Rattle.dh_plan.specs.declared.operations.OperationForm.{OperationForm}
use Rattle.dh_plan.specs.declared.operations.OperationForm.TheVariants.{Constant, Old, Compute, Convert, Select, Check, Probe, Read, Write, Set}
use Rattle.dh_plan.specs.declared.operations.Reach.{Reach}
use Rattle.dh_plan.specs.PlanKinds.{form_kind}
use Rattle.dh_plan.specs.SoundPlans.{use_in}
use Rattle.dh_rows.specs.Readings.{OperationsGrow, is_plain}
use Rattle.dh_rows.specs.MadeOperations.{IsMade, pushed}
use Rattle.dh_rows.proofs.Growing.{grown_length, grows_on, kept_there, was_there}
use Rattle.dh_address.specs.Pieces.{RenumberedBlock, IsAccessMade, IsFormMade, IsPiece, new_number, new_or_none}
use Rattle.dh_address.specs.declared.operands.Ranged.{Ranged}
use Rattle.dh_address.specs.Images.{ArePieces, and_known}
use Rattle.dh_address.proofs.ImageReadings.{at_last}
use Rattle.dh_address.proofs.PiecesBy.{GrowsBy, each_at, AllowsCheck, access_by, probed_by}
use Rattle.dh_address.proofs.PiecesGrow.{piece_grows, pieces_grow}

-- Operations that come behind.

behind_at : (a more : List Operation) (j : ℕ) (x : Operation) → length a ≤ j → slice_get (a ++ more) j ≡ Some x → (i : ℕ) × (slice_get more i ≡ Some x)
behind_at [] more j x l e = (j, e)
behind_at (o ∷ a) more zero x l e = absurd (omega (arith, l))
behind_at (o ∷ a) more (suc j) x l e = behind_at a more j x (omega (arith, l)) e

by_at : (P : Operation → Type 0) (a b : List Operation) → GrowsBy P a b → (j : ℕ) (x : Operation) → length a ≤ j → slice_get b j ≡ Some x → P x
by_at P a b g j x l e =
    let found = behind_at a g.more j x l (subst (λ (os : List Operation). slice_get os j ≡ Some x) g.appended e) in each_at P g.more found.0 x g.each found.1

-- Reads and writes.

abbrev IsUnused : Operation → Type 0
IsUnused x = use_in x.form ≡ None

form_unused : (f : OperationForm) → is_plain f ≡ true → use_in f ≡ None
form_unused (Constant w) e = refl
form_unused (Old register) e = refl
form_unused (Compute o left right) e = refl
form_unused (Convert inner to) e = refl
form_unused (Select test a b) e = refl
form_unused (Check ok fault) e = refl
form_unused (Probe r fault) e = refl
form_unused (Read r) e = absurd (cc)
form_unused (Write r value) e = absurd (cc)
form_unused (Set register value) e = refl

plain_unused : (x : Operation) → is_plain x.form ≡ true → IsUnused x
plain_unused x e = form_unused x.form e

allows_unused : (g : Option ℕ) (fault : ℕ) (rs : List Ranged) → AllByRecursion (AllowsCheck IsUnused plain_unused g fault) rs
allows_unused g fault [] = tt
allows_unused g fault (r ∷ rs) = ((λ e test. refl), allows_unused g fault rs)

-- the read or write of an operation
pub record IsUsePut (a : RenumberedBlock) (f : OperationForm) (old new : List Operation) (t : Reach) : Type 0 where
  pub old_reach : Reach
  pub uses : use_in f ≡ Some old_reach
  pub guard : Option ℕ
  pub on : Option ℕ
  pub last : List Operation
  pub made : IsAccessMade a guard old_reach old last on t
  pub grows : OperationsGrow last new

module _ (a : RenumberedBlock) where
  one_unused : (old new : List Operation) (g : Option ℕ) (h : OperationForm) (n : ℕ) → IsMade new n (pushed old g h) → use_in h ≡ None → GrowsBy IsUnused old new
  one_unused old new g h n made e = record { more = record { guard = g; form = h } ∷ []; appended = made.0; each = (e, tt) }

  no_use : (old new : List Operation) (f : OperationForm) → GrowsBy IsUnused old new → (j : ℕ) (x : Operation) (t : Reach) → length old ≤ j → slice_get new j ≡ Some x → use_in x.form ≡ Some t → IsUsePut a f old new t
  no_use old new f g j x t l e used = let none = by_at IsUnused old new g j x l e in absurd (cc)

  own_use : (f : OperationForm) (old last new : List Operation) (g on : Option ℕ) (r u t : Reach) (h : OperationForm) (n : ℕ) → IsAccessMade a g r old last on u → use_in f ≡ Some r → use_in h ≡ Some u
      → IsMade new n (pushed last on h) → (j : ℕ) (x : Operation) → length old ≤ j → slice_get new j ≡ Some x → use_in x.form ≡ Some t → IsUsePut a f old new t
  own_use f old last new g on r u t h n access uses own made j x l e used = of (cases_lt j (length last))
    where
      grows : OperationsGrow last new
      grows = record { more = record { guard = on; form = h } ∷ []; appended = made.0 }

      here : (u ≡ t) → IsUsePut a f old new t
      here same = record { old_reach = r; uses = uses; guard = g; on = on; last = last; made = subst (λ (v : Reach). IsAccessMade a g r old last on v) same access; grows = grows }

      of : (j < length last) ⊎ (length last ≤ j) → IsUsePut a f old new t
      of (inl m) =
          let none = by_at IsUnused old last (access_by IsUnused plain_unused a g r old last on u access) j x l (was_there last new grows j x m e) in absurd (cc)
      of (inr m) =
          let within = slice_get_within new j x e in
          let long : length new ≡ length last + 1 = ap (λ (os : List Operation). length os) made.0 ∙ length-append last _ in
          let at : j ≡ length last = omega (arith, within, long, m) in
          let two : Some x ≡ Some (record { guard = on; form = h })
          = sym e ∙ (ap (λ k. slice_get new k) at ∙ (ap (λ (os : List Operation). slice_get os (length last)) made.0 ∙ at_last last _)) in
          let same : x ≡ record { guard = on; form = h } = cc in
          let given : Some u ≡ Some t = sym own ∙ (sym (ap (λ (y : Operation). use_in y.form) same) ∙ used) in
          here cc

  form_use : (g : Option ℕ) (f : OperationForm) (old new : List Operation) (n : ℕ) → IsFormMade a g f old new n → (j : ℕ) (x : Operation) (t : Reach) → length old ≤ j → slice_get new j ≡ Some x
      → use_in x.form ≡ Some t → IsUsePut a f old new t
  form_use g (Constant word) old new n h = no_use old new (Constant word) (one_unused old new g _ n h refl)
  form_use g (Old register) old new n h = no_use old new (Old register) (one_unused old new g _ n h refl)
  form_use g (Compute o left right) old new n h = no_use old new (Compute o left right) (one_unused old new g _ n h refl)
  form_use g (Convert inner to) old new n h = no_use old new (Convert inner to) (one_unused old new g _ n h refl)
  form_use g (Select test b c) old new n h = no_use old new (Select test b c) (one_unused old new g _ n h refl)
  form_use g (Check ok fault) old new n h = no_use old new (Check ok fault) (one_unused old new g _ n h refl)
  form_use g (Probe r fault) old new n h =
      no_use old new (Probe r fault) (probed_by IsUnused plain_unused a g r fault old new n h (allows_unused g fault h.ranges))
  form_use g (Read r) old new n h = λ j x t l e used. own_use (Read r) old h.last new g h.on r h.reach t (Read h.reach) n h.access refl refl h.read j x l e used
  form_use g (Write r value) old new n h = λ j x t l e used. own_use (Write r value) old h.last new g h.on r h.reach t (Write h.reach (new_number a value)) n h.access refl refl h.write j x l e used
  form_use g (Set register value) old new n h = no_use old new (Set register value) (one_unused old new g _ n h refl)

  piece_use : (o : Operation) (old new : List Operation) (n : ℕ) → IsPiece a o old new n → (j : ℕ) (x : Operation) (t : Reach) → length old ≤ j → slice_get new j ≡ Some x
      → use_in x.form ≡ Some t → IsUsePut a o.form old new t
  piece_use o old new n h = form_use (new_or_none a o.guard) o.form old new n h

-- Constants.

module _ (base : List Operation) where
  -- a constant of the block is at this number
  pub record IsKept (list : List Operation) (n : ℕ) (w : Word) : Type 0 where
    pub begun : length base ≤ n
    pub there : slice_get list n ≡ Some (record { guard = None; form = Constant w })

  -- so are those that are known
  pub record KeepsConstants (a : RenumberedBlock) (list : List Operation) : Type 0 where
    pub each : (i : ℕ) (w : Word) → i < length a.numbers → slice_get a.operations i ≡ Some (record { guard = None; form = Constant w }) → IsKept list (slice_index a.numbers i) w

  pub kept_on : (list new : List Operation) (n : ℕ) (w : Word) → OperationsGrow list new → IsKept list n w → IsKept new n w
  kept_on list new n w g h = record { begun = h.begun; there = kept_there list new g n _ h.there }

  keeps_more : (a : RenumberedBlock) (o : Operation) (list mid : List Operation) (n : ℕ) (k : Kind) → KeepsConstants a list → OperationsGrow base list → IsPiece a o list mid n
      → slice_get a.operations (length a.numbers) ≡ Some o → KeepsConstants (and_known a n k) mid
  keeps_more a o list mid n k h begun piece at = record { each = λ i w l e. of i w l e (cases_lt i (length a.numbers)) }
    where
      grows : OperationsGrow list mid
      grows = piece_grows a o list mid n piece

      of : (i : ℕ) (w : Word) → i < length (a.numbers ++ n ∷ []) → slice_get a.operations i ≡ Some (record { guard = None; form = Constant w }) → (i < length a.numbers) ⊎ (length a.numbers ≤ i)
          → IsKept mid (slice_index (a.numbers ++ n ∷ []) i) w
      of i w l e (inl few) = subst (λ m. IsKept mid m w) (sym (get_or-append a.numbers (n ∷ []) 0 i few)) (kept_on list mid _ w grows (h.each i w few e))
      of i w l e (inr past) =
          let long = length-append a.numbers (n ∷ []) in
          let last : i ≡ length a.numbers = omega (arith, l, long, past) in
          let two : Some o ≡ Some (record { guard = None; form = Constant w }) = sym at ∙ (ap (λ m. slice_get a.operations m) (sym last) ∙ e) in
          let same : o ≡ record { guard = None; form = Constant w } = cc in
          let made : IsMade mid n (pushed list None (Constant w)) = subst (λ (x : Operation). IsPiece a x list mid n) same piece in
          subst (λ m. IsKept mid m w) (sym (ap (λ m. slice_index (a.numbers ++ n ∷ []) m) last ∙ get_or-append_seam a.numbers n [] 0))
          (record {
            begun = let g = grown_length base list begun in let is = made.1 in omega (arith, g, is);
            there = ap (λ m. slice_get mid m) made.1 ∙ (ap (λ (os : List Operation). slice_get os (length list)) made.0 ∙ at_last list _);
          })

  -- the read or write of some operation of a block, and what is known there
  pub record HasUsePut (a : RenumberedBlock) (os new : List Operation) (t : Reach) : Type 0 where
    pub place : ℕ
    pub operation : Operation
    pub there : slice_get os place ≡ Some operation
    pub around : RenumberedBlock
    pub table_is : around.table ≡ a.table
    pub operations_are : around.operations ≡ a.operations
    pub first_is : around.first ≡ a.first
    pub views_is : around.views ≡ a.views
    pub known : length around.numbers ≡ length a.numbers + place
    pub before : List Operation
    pub after : List Operation
    pub begun : OperationsGrow base before
    pub keeps : KeepsConstants around before
    pub use_put : IsUsePut around operation.form before after t
    pub grows : OperationsGrow after new

  pub use_found : (registers : List Kind) (os : List Operation) (a : RenumberedBlock) (list new : List Operation) (numbers : List ℕ) → ArePieces registers a os list new numbers → KeepsConstants a list → OperationsGrow base list
      → ((i : ℕ) (o : Operation) → slice_get os i ≡ Some o → slice_get a.operations (length a.numbers + i) ≡ Some o)
      → (j : ℕ) (x : Operation) (t : Reach) → length list ≤ j → slice_get new j ≡ Some x → use_in x.form ≡ Some t → HasUsePut a os new t
  use_found registers [] a list new numbers h keeps begun at j x t l e used =
      let within = slice_get_within new j x e in let same : length new ≡ length list = ap (λ (os : List Operation). length os) h.0 in absurd (omega (arith, within, same, l))
  use_found registers (o ∷ os) a list new numbers h keeps begun at j x t l e used =
      of (cases_lt j (length h.mid))
      (λ m. use_found registers os next h.mid new numbers h.rest (keeps_more a o list h.mid h.number k keeps begun h.piece own) (grows_on base list h.mid begun grows) (λ i p there. later i p there) j x t m e used)
    where
      k : Kind
      k = form_kind a.table registers a.first a.kinds o.form

      next : RenumberedBlock
      next = and_known a h.number k

      grows : OperationsGrow list h.mid
      grows = piece_grows a o list h.mid h.number h.piece

      behind : OperationsGrow h.mid new
      behind = pieces_grow registers os next h.mid new numbers h.rest

      own : slice_get a.operations (length a.numbers) ≡ Some o
      own = let none : length a.numbers + 0 ≡ length a.numbers = omega arith in subst (λ n. slice_get a.operations n ≡ Some o) none (at 0 o refl)

      long : length next.numbers ≡ length a.numbers + 1
      long = length-append a.numbers (h.number ∷ [])

      later : (i : ℕ) (p : Operation) → slice_get os i ≡ Some p → slice_get next.operations (length next.numbers + i) ≡ Some p
      later i p there = let s = long in let moved : length a.numbers + suc i ≡ length next.numbers + i = omega (arith, s) in subst (λ n. slice_get a.operations n ≡ Some p) moved (at (suc i) p there)

      shifted : HasUsePut next os new t → HasUsePut a (o ∷ os) new t
      shifted u = record {
        place = suc u.place;
        operation = u.operation;
        there = u.there;
        around = u.around;
        table_is = u.table_is;
        operations_are = u.operations_are;
        first_is = u.first_is;
        views_is = u.views_is;
        known = (let s = long in let m = u.known in omega (arith, s, m));
        before = u.before;
        after = u.after;
        begun = u.begun;
        keeps = u.keeps;
        use_put = u.use_put;
        grows = u.grows;
      }

      of : (j < length h.mid) ⊎ (length h.mid ≤ j) → (length h.mid ≤ j → HasUsePut next os new t) → HasUsePut a (o ∷ os) new t
      of (inl m) go = record {
        place = 0;
        operation = o;
        there = refl;
        around = a;
        table_is = refl;
        operations_are = refl;
        first_is = refl;
        views_is = refl;
        known = omega arith;
        before = list;
        after = h.mid;
        begun = begun;
        keeps = keeps;
        use_put = piece_use a o list h.mid h.number h.piece j x t l (was_there h.mid new behind j x m e) used;
        grows = behind;
      }
      of (inr m) go = shifted (go m)
