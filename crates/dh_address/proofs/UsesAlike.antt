-- Each read or write of the new block is an old one, of the same access, memory and banks; and in a step where its guard
-- holds the old one was made, and both lead to one element.
use Rattle.std.proofs.Common.{◌≡◌, ℕ, ◌+◌, inl, inr, Some, None, List, true, length, refl, sym, ap, subst, ◌∙◌}
use Rattle.std.specs.Prelude.{[], ◌++◌, Option, slice_get}
use Rattle.std.specs.List.{AllByRecursion}
use Rattle.std.specs.Option.{is_some}
use Rattle.dh_value.specs.declared.kinds.Kind.{Kind}
use Rattle.dh_value.specs.declared.words.Word.{Word}
use Rattle.dh_tree.specs.Elements.{Spot}
use Rattle.dh_tree.specs.Shapes.{IsProgramTable}
use Rattle.dh_plan.specs.declared.operations.Operation.{Operation}
use Rattle.dh_plan.specs.declared.operations.OperationForm.{OperationForm}
use Rattle.dh_plan.specs.declared.operations.OperationForm.TheVariants.{Constant, Old, Compute, Convert, Select, Check, Probe, Read, Write, Set}
use Rattle.dh_plan.specs.declared.operations.PlanBlock.{PlanBlock}
use Rattle.dh_plan.specs.declared.operations.Reach.{Reach}
use Rattle.dh_plan.specs.Blocks.{StepStart, is_on, spot_of_reach}
use Rattle.dh_plan.specs.Ordered.{reach_takes, form_takes, IsBetween}
use Rattle.dh_plan.specs.PlainPlans.{PlainPlan, first_in, operations_in}
use Rattle.dh_plan.specs.PlanKinds.{ReachSuits, FormSuits, IsFormedBlock}
use Rattle.dh_plan.specs.PlanRuns.{start_at, block_values}
use Rattle.dh_plan.specs.SoundPlans.{access_in, use_in, writes_memory, FormAddressed}
use Rattle.dh_plan.specs.SoundRuns.{AreInKinds}
use Rattle.dh_rows.specs.Readings.{is_plain}
use Rattle.dh_address.proofs.WaySizes.{HasMaps}
use Rattle.dh_address.specs.declared.operands.BlockValue.{BlockValue}
use Rattle.dh_address.specs.Pieces.{RenumberedBlock, IsAimedReach}
use Rattle.dh_address.proofs.AccessesLead.{both_true}
use Rattle.dh_address.proofs.GoodPieces.{AreGoodPieces, StandsInPiece}
use Rattle.dh_address.proofs.ImageReadings.{FormedBelow}
use Rattle.dh_address.proofs.PartsOfPieces.{IsUseOf, IsOwnForm, IsPart, stands_at, part_at}
use Rattle.dh_address.proofs.PieceForms.{image_of, around}
use Rattle.dh_address.proofs.WordsPass.{ReachesListed, SameWord, means, form_good, form_begun}
use Rattle.dh_address.proofs.WordsAlike.{IsSameInKind, AccessMeans}

-- Forms that use nothing.

pub quiet_use : (f : OperationForm) (t : Reach) → is_plain f ≡ true → use_in f ≡ Some t → ⊥
quiet_use (Constant word) t p e = cc
quiet_use (Old register) t p e = cc
quiet_use (Compute op left right) t p e = cc
quiet_use (Convert inner to) t p e = cc
quiet_use (Select test a b) t p e = cc
quiet_use (Check ok fault) t p e = cc
quiet_use (Probe r fault) t p e = cc
quiet_use (Read r) t p e = cc
quiet_use (Write r value) t p e = cc
quiet_use (Set register value) t p e = cc

no_use : (u v : Operation) (t : Reach) → u ≡ v → use_in v.form ≡ None → use_in u.form ≡ Some t → ⊥
no_use u v t same none e = let two : Some t ≡ None = sym e ∙ (ap (λ (w : Operation). use_in w.form) same ∙ none) in cc

-- the access of a read or write
abbrev pub IsSameAccess : (new old : Reach) → Type 0
IsSameAccess t r = (t.access ≡ r.access) × ((t.memory ≡ r.memory) × (t.banks ≡ r.banks))

aimed_same : (a : RenumberedBlock) (r : Reach) (row : Option ℕ) (is : List BlockValue) (old last : List Operation) (t : Reach) → IsAimedReach a r row is old last t → IsSameAccess t r
aimed_same a r None is old last t h = (ap (λ (u : Reach). u.access) h.reach, (ap (λ (u : Reach). u.memory) h.reach, ap (λ (u : Reach). u.banks) h.reach))
aimed_same a r (Some row) is old last t h = (ap (λ (u : Reach). u.access) h.1, (ap (λ (u : Reach). u.memory) h.1, ap (λ (u : Reach). u.banks) h.1))

aimed_row : (a : RenumberedBlock) (r : Reach) (row : Option ℕ) (is : List BlockValue) (old last : List Operation) (t : Reach) → IsAimedReach a r row is old last t → (n : ℕ) × (t.row ≡ Some n)
aimed_row a r None is old last t h = (h.row, ap (λ (u : Reach). u.row) h.reach)
aimed_row a r (Some row) is old last t h = (_, ap (λ (u : Reach). u.row) h.1)

-- An old read or write.
pub record IsOldUse (a : RenumberedBlock) (o : Operation) (old all : List Operation) (number place : ℕ) (u : Operation) (t : Reach) : Type 0 where
  pub reach : Reach
  pub uses : use_in o.form ≡ Some reach
  pub own : place ≡ number
  pub made : IsUseOf a o.guard reach old all u t
  pub same : IsSameAccess t reach
  pub writes : writes_memory u.form → writes_memory o.form

module _ (a : RenumberedBlock) (o : Operation) (old all : List Operation) (number place : ℕ) (u : Operation) (t : Reach) (uses : use_in u.form ≡ Some t) where
  same_access : (r : Reach) → IsUseOf a o.guard r old all u t → IsSameAccess t r
  same_access r made = aimed_same a r r.row made.access.indices made.access.guarded made.last t made.access.aims

  read_use : (r : Reach) (v : Reach) → o.form ≡ Read r → place ≡ number → u.form ≡ Read v → IsUseOf a o.guard r old all u v → IsOldUse a o old all number place u t
  read_use r v e own form made =
      let two : Some v ≡ Some t = sym (ap use_in form) ∙ uses in
      let same : v ≡ t = cc in
      let of_t = subst (λ (w : Reach). IsUseOf a o.guard r old all u w) same made in
      record { reach = r; uses = ap use_in e; own = own; made = of_t; same = same_access r of_t; writes = λ w. absurd (subst writes_memory form w) }

  write_use : (r : Reach) (value : ℕ) (v : Reach) (new : ℕ) → o.form ≡ Write r value → place ≡ number → u.form ≡ Write v new → IsUseOf a o.guard r old all u v → IsOldUse a o old all number place u t
  write_use r value v new e own form made =
      let two : Some v ≡ Some t = sym (ap use_in form) ∙ uses in
      let same : v ≡ t = cc in
      let of_t = subst (λ (w : Reach). IsUseOf a o.guard r old all u w) same made in
      record { reach = r; uses = ap use_in e; own = own; made = of_t; same = same_access r of_t; writes = λ w. subst writes_memory (sym e) tt }

  own_use : (f : OperationForm) → o.form ≡ f → place ≡ number → IsOwnForm a o.guard old all f u → IsOldUse a o old all number place u t
  own_use (Constant word) e own h = absurd (no_use u _ t h refl uses)
  own_use (Old register) e own h = absurd (no_use u _ t h refl uses)
  own_use (Compute op left right) e own h = absurd (no_use u _ t h refl uses)
  own_use (Convert inner to) e own h = absurd (no_use u _ t h refl uses)
  own_use (Select test b c) e own h = absurd (no_use u _ t h refl uses)
  own_use (Check ok fault) e own h = absurd (no_use u _ t h refl uses)
  own_use (Probe r fault) e own h = absurd h
  own_use (Read r) e own h = read_use r h.0 e own h.1.0 h.1.1
  own_use (Write r value) e own h = write_use r value h.0 _ e own h.1.0 h.1.1
  own_use (Set register value) e own h = absurd (no_use u _ t h refl uses)

  pub part_use : IsPart a o old all number place u → IsOldUse a o old all number place u t
  part_use (inl quiet) = absurd (quiet_use u.form t quiet uses)
  part_use (inr (inl check)) = absurd (no_use u _ t check.check refl uses)
  part_use (inr (inr own)) = own_use o.form refl own.0 own.1

-- Addressed forms.

quiet_addressed : (f : OperationForm) → is_plain f ≡ true → FormAddressed f
quiet_addressed (Constant word) p = tt
quiet_addressed (Old register) p = tt
quiet_addressed (Compute op left right) p = tt
quiet_addressed (Convert inner to) p = tt
quiet_addressed (Select test a b) p = tt
quiet_addressed (Check ok fault) p = tt
quiet_addressed (Probe r fault) p = absurd (cc)
quiet_addressed (Read r) p = absurd (cc)
quiet_addressed (Write r value) p = absurd (cc)
quiet_addressed (Set register value) p = tt

form_addressed : (f g : OperationForm) → f ≡ g → FormAddressed g → FormAddressed f
form_addressed f g e h = subst FormAddressed (sym e) h

module _ (a : RenumberedBlock) (o : Operation) (old all : List Operation) (number place : ℕ) (u : Operation) where
  use_row : (r v : Reach) → IsUseOf a o.guard r old all u v → (n : ℕ) × (v.row ≡ Some n)
  use_row r v made = aimed_row a r r.row made.access.indices made.access.guarded made.last v made.access.aims

  own_addressed : (f : OperationForm) → IsOwnForm a o.guard old all f u → FormAddressed u.form
  own_addressed (Constant word) h = form_addressed u.form _ (ap (λ (w : Operation). w.form) h) tt
  own_addressed (Old register) h = form_addressed u.form _ (ap (λ (w : Operation). w.form) h) tt
  own_addressed (Compute op left right) h = form_addressed u.form _ (ap (λ (w : Operation). w.form) h) tt
  own_addressed (Convert inner to) h = form_addressed u.form _ (ap (λ (w : Operation). w.form) h) tt
  own_addressed (Select test b c) h = form_addressed u.form _ (ap (λ (w : Operation). w.form) h) tt
  own_addressed (Check ok fault) h = form_addressed u.form _ (ap (λ (w : Operation). w.form) h) tt
  own_addressed (Probe r fault) h = absurd h
  own_addressed (Read r) h = form_addressed u.form (Read h.0) h.1.0 (use_row r h.0 h.1.1)
  own_addressed (Write r value) h = form_addressed u.form (Write h.0 _) h.1.0 (use_row r h.0 h.1.1)
  own_addressed (Set register value) h = form_addressed u.form _ (ap (λ (w : Operation). w.form) h) tt

  pub part_addressed : IsPart a o old all number place u → FormAddressed u.form
  part_addressed (inl quiet) = quiet_addressed u.form quiet
  part_addressed (inr (inl check)) = form_addressed u.form _ (ap (λ (w : Operation). w.form) check.check) tt
  part_addressed (inr (inr own)) = own_addressed o.form own.1

-- In an addressed block each access is a read or a write.
pub addressed_use : (f : OperationForm) (t : Reach) → FormAddressed f → access_in f ≡ Some t → use_in f ≡ Some t
addressed_use (Constant word) t h e = e
addressed_use (Old register) t h e = e
addressed_use (Compute op left right) t h e = e
addressed_use (Convert inner to) t h e = e
addressed_use (Select test a b) t h e = e
addressed_use (Check ok fault) t h e = e
addressed_use (Probe r fault) t h e = absurd h
addressed_use (Read r) t h e = e
addressed_use (Write r value) t h e = e
addressed_use (Set register value) t h e = e

pub use_accesses : (f : OperationForm) (r : Reach) → use_in f ≡ Some r → access_in f ≡ Some r
use_accesses (Constant word) r e = e
use_accesses (Old register) r e = e
use_accesses (Compute op left right) r e = e
use_accesses (Convert inner to) r e = e
use_accesses (Select test a b) r e = e
use_accesses (Check ok fault) r e = e
use_accesses (Probe s fault) r e = absurd (cc)
use_accesses (Read s) r e = e
use_accesses (Write s value) r e = e
use_accesses (Set register value) r e = e

-- What a made takes is among what its operation takes.
module _ (P : ℕ → Type 0) where
  pub use_takes : (f : OperationForm) (r : Reach) → use_in f ≡ Some r → AllByRecursion P (form_takes f) → AllByRecursion P (reach_takes r)
  use_takes (Constant word) r e h = absurd (cc)
  use_takes (Old register) r e h = absurd (cc)
  use_takes (Compute op left right) r e h = absurd (cc)
  use_takes (Convert inner to) r e h = absurd (cc)
  use_takes (Select test a b) r e h = absurd (cc)
  use_takes (Check ok fault) r e h = absurd (cc)
  use_takes (Probe s fault) r e h = absurd (cc)
  use_takes (Read s) r e h = let same : s ≡ r = cc in subst (λ (t : Reach). AllByRecursion P (reach_takes t)) same h
  use_takes (Write s value) r e h = let same : s ≡ r = cc in subst (λ (t : Reach). AllByRecursion P (reach_takes t)) same h.1
  use_takes (Set register value) r e h = absurd (cc)

pub use_suits : (p : PlainPlan) (first : ℕ) (ks : List Kind) (f : OperationForm) (r : Reach) → use_in f ≡ Some r → FormSuits p first ks f → ReachSuits p first ks r
use_suits p first ks (Constant word) r e h = absurd (cc)
use_suits p first ks (Old register) r e h = absurd (cc)
use_suits p first ks (Compute op left right) r e h = absurd (cc)
use_suits p first ks (Convert inner to) r e h = absurd (cc)
use_suits p first ks (Select test a b) r e h = absurd (cc)
use_suits p first ks (Check ok fault) r e h = absurd (cc)
use_suits p first ks (Probe s fault) r e h = absurd (cc)
use_suits p first ks (Read s) r e h = let same : s ≡ r = cc in subst (λ (t : Reach). ReachSuits p first ks t) same h.0
use_suits p first ks (Write s value) r e h = let same : s ≡ r = cc in subst (λ (t : Reach). ReachSuits p first ks t) same h.0
use_suits p first ks (Set register value) r e h = absurd (cc)

-- In a step.

module _ (p : PlainPlan) (maps : HasMaps p) (tables : IsProgramTable p.table) (bs : List PlanBlock) (block : ℕ) (front : List Operation) (begins : length front ≡ first_in (image_of p bs) block)
    (formed : IsFormedBlock p block) (all_formed : FormedBelow (image_of p bs) block front begins (length (front ++ operations_in (image_of p bs) block)))
    (registers : List ℕ) (memories : List (List ℕ)) (fits : AreInKinds p block (block_values p (start_at p registers memories) block))
    (listed : ReachesListed p maps tables bs block front begins formed all_formed registers memories)
    (h : AreGoodPieces p maps tables bs block front begins formed (SameWord p maps tables bs block front begins formed all_formed registers memories) [] [] 0 (operations_in p block) front) where
  abbrev q : PlainPlan
  q = image_of p bs

  abbrev old_first : ℕ
  old_first = first_in p block

  abbrev first : ℕ
  first = first_in q block

  abbrev all : List Operation
  all = front ++ operations_in q block

  abbrev s : StepStart
  s = start_at p registers memories

  abbrev t : StepStart
  t = start_at q registers memories

  abbrev ws : List Word
  ws = block_values p s block

  abbrev vs : List Word
  vs = block_values q t block

  abbrev Words : ℕ → ℕ → Type 0
  Words v m = SameWord p maps tables bs block front begins formed all_formed registers memories v m

  -- a made whose guard holds, and the old one
  pub record IsLed (j : ℕ) (u : Operation) (e : slice_get (operations_in q block) j ≡ Some u) (v : Reach) : Type 0 where
    pub reach : Reach
    pub there : slice_get (operations_in p block) (stands_at p maps tables bs block front begins formed all_formed Words h j u e).place
        ≡ Some (stands_at p maps tables bs block front begins formed all_formed Words h j u e).operation
    pub uses : use_in (stands_at p maps tables bs block front begins formed all_formed Words h j u e).operation.form ≡ Some reach
    pub own : length front + j ≡ (stands_at p maps tables bs block front begins formed all_formed Words h j u e).of.number
    pub same : IsSameAccess v reach
    pub writes : writes_memory u.form → writes_memory (stands_at p maps tables bs block front begins formed all_formed Words h j u e).operation.form
    pub spot : Spot
    pub on : is_on old_first ws (stands_at p maps tables bs block front begins formed all_formed Words h j u e).operation.guard ≡ true
    pub old_leads : spot_of_reach s old_first ws reach ≡ Some spot
    pub leads : spot_of_reach t first vs v ≡ Some spot

  module _ (j : ℕ) (u : Operation) (e : slice_get (operations_in q block) j ≡ Some u) (v : Reach) (uses : use_in u.form ≡ Some v) where
    abbrev st : StandsInPiece p maps tables bs block front begins formed Words 0 (length front + j)
    st = stands_at p maps tables bs block front begins formed all_formed Words h j u e

    abbrev a : RenumberedBlock
    a = around p block st.of.numbers st.of.kinds

    old_use : IsOldUse a st.operation st.of.old all st.of.number (length front + j) u v
    old_use = part_use a st.operation st.of.old all st.of.number (length front + j) u v uses (part_at p maps tables bs block front begins formed all_formed Words h j u e)

    abbrev Good : ℕ → Type 0
    Good w = IsSameInKind p maps tables bs block st.of.numbers st.of.kinds registers memories w

    access_is : AccessMeans p maps tables bs block st.of.numbers st.of.kinds registers memories st.operation.guard old_use.reach u.guard v
    access_is =
        let at = st.of.piece.at in
        means p maps tables bs block front begins formed all_formed registers memories fits listed st.of.numbers st.of.kinds st.place st.operation st.of.old st.of.mid st.of.number at st.of.piece.takes
        old_use.reach (use_suits p old_first st.of.kinds st.operation.form old_use.reach old_use.uses at.suits.form)
        (use_takes Good st.operation.form old_use.reach old_use.uses
        (form_good p maps tables bs block front begins formed all_formed registers memories fits listed st.of.numbers st.of.kinds st.place st.operation st.of.old st.of.mid st.of.number at st.of.piece.takes))
        (use_takes (IsBetween old_first (old_first + st.place)) st.operation.form old_use.reach old_use.uses
        (form_begun p maps tables bs block front begins formed all_formed registers memories fits listed st.of.numbers st.of.kinds st.place st.operation st.of.old st.of.mid st.of.number at st.of.piece.takes))
        old_use.made.last u.guard v old_use.made.access old_use.made.grows

    led : is_on first vs u.guard ≡ true → (o : Option Spot) → spot_of_reach s old_first ws old_use.reach ≡ o → IsLed j u e v
    led on o leads =
        let both = both_true (is_on old_first ws st.operation.guard) (is_some (spot_of_reach s old_first ws old_use.reach)) (sym access_is.on_is ∙ on) in
        with_spot both.0 o leads (sym (ap (λ (x : Option Spot). is_some x) leads) ∙ both.1)
      where
        with_spot : is_on old_first ws st.operation.guard ≡ true → (o : Option Spot) → spot_of_reach s old_first ws old_use.reach ≡ o → is_some o ≡ true → IsLed j u e v
        with_spot made None leads there = absurd (cc)
        with_spot made (Some spot) leads there = record {
          reach = old_use.reach;
          there = st.of.piece.at.there;
          uses = old_use.uses;
          own = old_use.own;
          same = old_use.same;
          writes = old_use.writes;
          spot = spot;
          on = made;
          old_leads = leads;
          leads = access_is.leads.leads spot leads (listed st.place st.operation old_use.reach spot st.of.piece.at.there old_use.uses made leads);
        }

    pub use_led : is_on first vs u.guard ≡ true → IsLed j u e v
    use_led on = led on (spot_of_reach s old_first ws old_use.reach) refl
