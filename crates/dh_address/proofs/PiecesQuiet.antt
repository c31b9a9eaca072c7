-- What is put down of an operation but for its own image does nothing but give values and have faults: it reads and
-- writes no memory, sees and sets no register, and multiplies nothing. So each piece is such operations, and behind them
-- at most one that does what the operation does.
use Rattle.std.proofs.Common.{◌≡◌, ℕ, Bool, true, false, List, refl, sym, ap, ◌∙◌, subst}
use Rattle.std.specs.Prelude.{Option, Some, None, [], ◌∷◌, ◌++◌}
use Rattle.std.specs.List.{AllByRecursion}
use Rattle.std.proofs.lemmas.List.{append_assoc, append-nil}
use Rattle.dh_value.specs.declared.kinds.Kind.{Kind}
use Rattle.dh_plan.specs.declared.operations.Operation.{Operation}
use Rattle.dh_plan.specs.declared.operations.OperationForm.{OperationForm}
use Rattle.dh_plan.specs.declared.operations.OperationForm.TheVariants.{Constant, Old, Compute, Convert, Select, Check, Probe, Read, Write, Set}
use Rattle.dh_plan.specs.declared.operations.Reach.{Reach}
use Rattle.dh_plan.specs.PlanKinds.{form_kind}
use Rattle.dh_rows.specs.Readings.{is_cheap, is_plain}
use Rattle.dh_rows.specs.MadeOperations.{IsMade, pushed}
use Rattle.dh_address.specs.Pieces.{RenumberedBlock, IsAimedReach, IsFormMade, IsPiece, new_number, new_or_none}
use Rattle.dh_address.specs.declared.operands.BlockValue.{BlockValue}
use Rattle.dh_address.specs.declared.operands.Ranged.{Ranged}
use Rattle.dh_address.specs.Images.{and_known, ArePieces}
use Rattle.dh_address.proofs.PiecesBy.{GrowsBy, AllowsCheck, access_by, probed_by}

abbrev pub is_quiet : OperationForm → Bool
is_quiet (Constant w) = true
is_quiet (Old register) = false
is_quiet (Compute o left right) = is_cheap o
is_quiet (Convert inner to) = true
is_quiet (Select test a b) = true
is_quiet (Check ok fault) = true
is_quiet (Probe r fault) = false
is_quiet (Read r) = false
is_quiet (Write r value) = false
is_quiet (Set register value) = false

abbrev pub IsQuiet : Operation → Type 0
IsQuiet o = is_quiet o.form ≡ true

plain_quiet : (f : OperationForm) → is_plain f ≡ true → is_quiet f ≡ true
plain_quiet (Constant w) e = refl
plain_quiet (Old register) e = cc
plain_quiet (Compute o left right) e = e
plain_quiet (Convert inner to) e = refl
plain_quiet (Select test a b) e = refl
plain_quiet (Check ok fault) e = refl
plain_quiet (Probe r fault) e = cc
plain_quiet (Read r) e = cc
plain_quiet (Write r value) e = cc
plain_quiet (Set register value) e = cc

plain_ones : (o : Operation) → is_plain o.form ≡ true → IsQuiet o
plain_ones o e = plain_quiet o.form e

all_checks : (guard : Option ℕ) (fault : ℕ) (rs : List Ranged) → AllByRecursion (AllowsCheck IsQuiet plain_ones guard fault) rs
all_checks guard fault [] = tt
all_checks guard fault (r ∷ rs) = ((λ e test. refl), all_checks guard fault rs)

-- The image of an operation itself.

-- the same access, of a row
pub record IsRowOf (r t : Reach) : Type 0 where
  pub access : t.access ≡ r.access
  pub memory : t.memory ≡ r.memory
  pub banks : t.banks ≡ r.banks
  pub row : ℕ
  pub in_row : t.row ≡ Some row

abbrev pub SameForm : (old new : OperationForm) → Type 0
SameForm (Constant w) f = f ≡ Constant w
SameForm (Old register) f = f ≡ Old register
SameForm (Compute o left right) f = (m : ℕ) × ((n : ℕ) × (f ≡ Compute o m n))
SameForm (Convert inner to) f = (m : ℕ) × (f ≡ Convert m to)
SameForm (Select test a b) f = (m : ℕ) × ((n : ℕ) × ((l : ℕ) × (f ≡ Select m n l)))
SameForm (Check ok fault) f = (m : ℕ) × (f ≡ Check m fault)
SameForm (Probe r fault) f = ⊥
SameForm (Read r) f = (t : Reach) × ((f ≡ Read t) × IsRowOf r t)
SameForm (Write r value) f = (t : Reach) × ((m : ℕ) × ((f ≡ Write t m) × IsRowOf r t))
SameForm (Set register value) f = (m : ℕ) × (f ≡ Set register m)

pub record HasMain (f : OperationForm) (main : List Operation) : Type 0 where
  pub own : Operation
  pub only : main ≡ own ∷ []
  pub same : SameForm f own.form

abbrev pub IsMain : OperationForm → (main : List Operation) → Type 0
IsMain (Constant w) main = HasMain (Constant w) main
IsMain (Old register) main = HasMain (Old register) main
IsMain (Compute o left right) main = HasMain (Compute o left right) main
IsMain (Convert inner to) main = HasMain (Convert inner to) main
IsMain (Select test a b) main = HasMain (Select test a b) main
IsMain (Check ok fault) main = HasMain (Check ok fault) main
IsMain (Probe r fault) main = main ≡ []
IsMain (Read r) main = HasMain (Read r) main
IsMain (Write r value) main = HasMain (Write r value) main
IsMain (Set register value) main = HasMain (Set register value) main

-- quiet operations, and the image behind them
pub record IsPart (f : OperationForm) (more : List Operation) : Type 0 where
  pub quiet : List Operation
  pub main : List Operation
  pub all : AllByRecursion IsQuiet quiet
  pub joined : more ≡ quiet ++ main
  pub image : IsMain f main

pub record PutsPart (f : OperationForm) (old new : List Operation) : Type 0 where
  pub more : List Operation
  pub appended : new ≡ old ++ more
  pub part : IsPart f more

-- the image alone
alone : (f : OperationForm) (old new : List Operation) (g : Option ℕ) (h : OperationForm) (n : ℕ) → IsMade new n (pushed old g h)
    → (HasMain f (record { guard = g; form = h } ∷ []) → IsMain f (record { guard = g; form = h } ∷ [])) → SameForm f h → PutsPart f old new
alone f old new g h n made to same = record {
  more = record { guard = g; form = h } ∷ [];
  appended = made.0;
  part = record { quiet = []; main = record { guard = g; form = h } ∷ []; all = tt; joined = refl; image = to (record { own = record { guard = g; form = h }; only = refl; same = same }) };
}

-- behind quiet operations
behind : (f : OperationForm) (old mid new : List Operation) (g : Option ℕ) (h : OperationForm) (n : ℕ) → GrowsBy IsQuiet old mid → IsMade new n (pushed mid g h)
    → (HasMain f (record { guard = g; form = h } ∷ []) → IsMain f (record { guard = g; form = h } ∷ [])) → SameForm f h → PutsPart f old new
behind f old mid new g h n grows made to same = record {
  more = grows.more ++ record { guard = g; form = h } ∷ [];
  appended = made.0 ∙ (ap (λ (os : List Operation). os ++ record { guard = g; form = h } ∷ []) grows.appended ∙ append_assoc old grows.more _);
  part = record { quiet = grows.more; main = record { guard = g; form = h } ∷ []; all = grows.each; joined = refl; image = to (record { own = record { guard = g; form = h }; only = refl; same = same }) };
}

pub row_aimed : (a : RenumberedBlock) (r : Reach) (row : Option ℕ) (is : List BlockValue) (old new : List Operation) (t : Reach) → IsAimedReach a r row is old new t → IsRowOf r t
row_aimed a r None is old new t h = subst (λ (u : Reach). IsRowOf r u) (sym h.reach) (record { access = refl; memory = refl; banks = refl; row = h.row; in_row = refl })
row_aimed a r (Some row) is old new t h = subst (λ (u : Reach). IsRowOf r u) (sym h.1) (record { access = refl; memory = refl; banks = refl; row = new_number a row; in_row = refl })

module _ (a : RenumberedBlock) where
  form_part : (g : Option ℕ) (f : OperationForm) (old new : List Operation) (n : ℕ) → IsFormMade a g f old new n → PutsPart f old new
  form_part g (Constant word) old new n h = alone (Constant word) old new g _ n h (λ m. m) refl
  form_part g (Old register) old new n h = alone (Old register) old new g _ n h (λ m. m) refl
  form_part g (Compute o left right) old new n h = alone (Compute o left right) old new g _ n h (λ m. m) (_, (_, refl))
  form_part g (Convert inner to) old new n h = alone (Convert inner to) old new g _ n h (λ m. m) (_, refl)
  form_part g (Select test b c) old new n h = alone (Select test b c) old new g _ n h (λ m. m) (_, (_, (_, refl)))
  form_part g (Check ok fault) old new n h = alone (Check ok fault) old new g _ n h (λ m. m) (_, refl)
  form_part g (Probe r fault) old new n h =
      let grows = probed_by IsQuiet plain_ones a g r fault old new n h (all_checks g fault h.ranges) in
      record { more = grows.more; appended = grows.appended; part = record { quiet = grows.more; main = []; all = grows.each; joined = sym (append-nil grows.more); image = refl } }
  form_part g (Read r) old new n h =
      behind (Read r) old h.last new h.on (Read h.reach) n (access_by IsQuiet plain_ones a g r old h.last h.on h.reach h.access) h.read (λ m. m)
      (h.reach, (refl, row_aimed a r r.row h.access.indices h.access.guarded h.last h.reach h.access.aims))
  form_part g (Write r value) old new n h =
      behind (Write r value) old h.last new h.on (Write h.reach (new_number a value)) n (access_by IsQuiet plain_ones a g r old h.last h.on h.reach h.access) h.write (λ m. m)
      (h.reach, (new_number a value, (refl, row_aimed a r r.row h.access.indices h.access.guarded h.last h.reach h.access.aims)))
  form_part g (Set register value) old new n h = alone (Set register value) old new g _ n h (λ m. m) (_, refl)

  pub piece_part : (o : Operation) (old new : List Operation) (n : ℕ) → IsPiece a o old new n → PutsPart o.form old new
  piece_part o old new n h = form_part (new_or_none a o.guard) o.form old new n h

-- Parts one after the other.

pub record PartThen (First Rest : List Operation → Type 0) (more : List Operation) : Type 0 where
  pub first : List Operation
  pub rest : List Operation
  pub joined : more ≡ first ++ rest
  pub part : First first
  pub parts : Rest rest

abbrev pub AreParts : List Operation → (more : List Operation) → Type 0
AreParts [] more = more ≡ []
AreParts (o ∷ os) more = PartThen (IsPart o.form) (AreParts os) more

pub record PutsParts (os old new : List Operation) : Type 0 where
  pub more : List Operation
  pub appended : new ≡ old ++ more
  pub parts : AreParts os more

pub pieces_parts : (registers : List Kind) (os : List Operation) (a : RenumberedBlock) (old new : List Operation) (numbers : List ℕ) → ArePieces registers a os old new numbers → PutsParts os old new
pieces_parts registers [] a old new numbers h = record { more = []; appended = h.0 ∙ sym (append-nil old); parts = refl }
pieces_parts registers (o ∷ os) a old new numbers h =
    let one = piece_part a o old h.mid h.number h.piece in
    let more = pieces_parts registers os (and_known a h.number (form_kind a.table registers a.first a.kinds o.form)) h.mid new numbers h.rest in
    record {
      more = one.more ++ more.more;
      appended = more.appended ∙ (ap (λ (l : List Operation). l ++ more.more) one.appended ∙ append_assoc old one.more more.more);
      parts = record { first = one.more; rest = more.more; joined = refl; part = one.part; parts = more.parts };
    }
