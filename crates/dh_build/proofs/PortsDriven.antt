-- The drivers of a port are those of its users, at each moment that wires show.
use Rattle.std.proofs.Common.{◌≡◌, ℕ, ◌==◌, ◌&&◌, true, Some, None, inl, inr, List, [], ◌∷◌, length, refl, sym, ap, subst, ◌∙◌, arith}
use Rattle.std.specs.Prelude.{Option, slice_get, slice_index}
use Rattle.std.proofs.lemmas.Bool.{cases_eq}
use Rattle.std.proofs.lemmas.Bool.Decides.{nat_tests}
use Rattle.dh_value.specs.declared.kinds.Kind.{Kind}
use Rattle.dh_value.specs.declared.words.Word.{Word}
use Rattle.dh_value.specs.Words.{width_of}
use Rattle.dh_meaning.specs.Effects.{kind_in}
use Rattle.dh_net.specs.BankPorts.{ports_of}
use Rattle.dh_net.specs.declared.nets.Driver.{Driver}
use Rattle.dh_net.specs.declared.ports.Port.{Port}
use Rattle.dh_plan.specs.declared.operations.Operation.{Operation}
use Rattle.dh_plan.specs.declared.operations.OperationForm.{OperationForm}
use Rattle.dh_plan.specs.declared.operations.OperationForm.TheVariants.{Constant, Old, Compute, Convert, Select, Check, Probe, Read, Write, Set}
use Rattle.dh_plan.specs.declared.operations.Reach.{Reach}
use Rattle.dh_plan.specs.Blocks.{first_listed_bank}
use Rattle.dh_plan.specs.BoundPorts.{Uses, ArePorts}
use Rattle.dh_plan.specs.LegalSchedules.{Timing, clocks_in}
use Rattle.dh_plan.specs.Ordered.{operation_takes}
use Rattle.dh_plan.specs.PlainPlans.{PlainPlan, first_in, operations_in}
use Rattle.dh_plan.specs.PlanKinds.{kinds_of, FormSuits, PicksBank}
use Rattle.dh_plan.specs.SoundPlans.{use_in, IsListed, IsFormed, FormAddressed, IsAddressed}
use Rattle.dh_plan.proofs.ValuesAlike.{all_map}
use Rattle.dh_cells.specs.PlainCircuits.{PlainCircuit}
use Rattle.dh_cells.specs.Settled.{Signals, IsSettled}
use Rattle.dh_cells.specs.ShownValues.{is_one}
use Rattle.dh_lower.specs.PortUsers.{User, HasUser, Moment, DriveFor, DrivesFor, is_among}
use Rattle.dh_lower.specs.ShownWords.{block_shown}
use Rattle.dh_lower.proofs.BoundPortFacts.{bound_port}
use Rattle.dh_datapath.specs.declared.blocks.PlanWires.{PlanWires}
use Rattle.dh_datapath.specs.BlockWires.{layout_of, ShowsPlan}
use Rattle.dh_datapath.specs.ShownNumbers.{IsShownNumber}
use Rattle.dh_datapath.proofs.PlanWiresKept.{taken_are_shown}
use Rattle.dh_control.specs.declared.driving.Times.{Times}
use Rattle.dh_control.specs.declared.gathering.Keyed.{Keyed}
use Rattle.dh_control.specs.KeyedItems.{items_picked}
use Rattle.dh_control.specs.PlanUsers.{blocks_users, users_of}
use Rattle.dh_control.specs.UseWires.{DrivesUse}
use Rattle.dh_control.specs.ValuesShown.{IsShownValue, AreShownWords}
use Rattle.dh_control.proofs.DrivesMeant.{PicksAlone, drives_meant}
use Rattle.dh_control.proofs.GatheredItems.{picked_here, picked_past}
use Rattle.dh_control.proofs.UsersListed.{own_listed}
use Rattle.dh_build.specs.DrivenUsers.{DrivesUser, DriveUsers}
use Rattle.dh_build.specs.MemoryTables.{row_bits_of}

-- Where there is no select, the one bank is the first.

one_listed : (banks : List (ℕ × ℕ)) (bank place : ℕ) → length banks ≡ 1 → IsListed bank place banks → (first_listed_bank banks == bank) ≡ true
one_listed [] bank place long h = absurd h
one_listed (b ∷ []) bank place long h = elim h [
  | inl here ↦ (let e = here.0 in grind (arith, e, nat_tests))
  | inr rest ↦ absurd rest
]
one_listed (b ∷ c ∷ bs) bank place long h = absurd (omega (arith, long))

row_alone : (plan : PlainPlan) (first : ℕ) (kinds : List Kind) (r : Reach) (row select : Option ℕ) (bank place : ℕ) → (n : ℕ) × (row ≡ Some n) → PicksBank plan first kinds r row select → IsListed bank place r.banks → select ≡ None → (first_listed_bank r.banks == bank) ≡ true
row_alone plan first kinds r None select bank place named h listed none = absurd (let e : None ≡ Some named.0 = named.1 in cc)
row_alone plan first kinds r (Some row) (Some v) bank place named h listed none = absurd (let e : Some v ≡ None = none in cc)
row_alone plan first kinds r (Some row) None bank place named h listed none = one_listed r.banks bank place h listed

module _ (plan : PlainPlan) (first : ℕ) (kinds : List Kind) (bank place : ℕ) where
  picks_alone : (f : OperationForm) (r : Reach) → use_in f ≡ Some r → FormSuits plan first kinds f → FormAddressed f → IsListed bank place r.banks → PicksAlone bank (use_in f)
  picks_alone (Constant word) r e suits addressed listed = tt
  picks_alone (Old register) r e suits addressed listed = tt
  picks_alone (Compute op left right) r e suits addressed listed = tt
  picks_alone (Convert inner to) r e suits addressed listed = tt
  picks_alone (Select test a b) r e suits addressed listed = tt
  picks_alone (Check ok fault) r e suits addressed listed = tt
  picks_alone (Probe x fault) r e suits addressed listed = tt
  picks_alone (Read x) r e suits addressed listed =
      let same : r ≡ x = cc in
      λ none. row_alone plan first kinds x x.row x.select bank place addressed suits.1 (subst (λ (y : Reach). IsListed bank place y.banks) same listed) none
  picks_alone (Write x value) r e suits addressed listed =
      let same : r ≡ x = cc in
      λ none. row_alone plan first kinds x x.row x.select bank place addressed suits.1.0 (subst (λ (y : Reach). IsListed bank place y.banks) same listed) none
  picks_alone (Set register value) r e suits addressed listed = tt

-- The drivers of one port, and its users.

module _ (d : PlainCircuit) (plan : PlainPlan) (kinds : List Kind) (wires : List ℕ) (times : ℕ → ℕ → Times) where
  abbrev pub DriveEach : List User → List Driver → Type 0
  DriveEach [] [] = Unit {0}
  DriveEach [] (e ∷ es) = ⊥
  DriveEach (v ∷ vs) [] = ⊥
  DriveEach (v ∷ vs) (e ∷ es) = DrivesUser d plan kinds wires times v e × DriveEach vs es

  pub picked_both : (port : ℕ) (vs : List (Keyed User)) (es : List (Keyed Driver)) → DriveUsers d plan kinds wires times vs es → DriveEach (items_picked port vs) (items_picked port es)
  picked_both port [] [] h = tt
  picked_both port [] (e ∷ es) h = absurd h
  picked_both port (v ∷ vs) [] h = absurd h
  picked_both port (v ∷ vs) (e ∷ es) h =
      elim (cases_eq e.key port) [
        | inl same ↦
            subst (λ (l : List User). DriveEach l (items_picked port (e ∷ es))) (sym (picked_here port v vs (sym h.0.0 ∙ same)))
            (subst (λ (l : List Driver). DriveEach (v.item ∷ items_picked port vs) l) (sym (picked_here port e es same)) (h.0.1, picked_both port vs es h.1))
        | inr other ↦
            subst (λ (l : List User). DriveEach l (items_picked port (e ∷ es))) (sym (picked_past port v vs (λ here. other (h.0.0 ∙ here))))
            (subst (λ (l : List Driver). DriveEach (items_picked port vs) l) (sym (picked_past port e es other)) (picked_both port vs es h.1))
      ]

-- a port that an operation uses is of the memory that it reaches
pub record IsOfPort (plan : PlainPlan) (p : Port) (bank : ℕ) (r : Reach) : Type 0 where
  pub place : ℕ
  pub listed : IsListed bank place r.banks
  pub row_width : row_bits_of plan.table r.memory ≡ p.row_width
  pub width : p.width ≡ width_of (kind_in plan.table r.memory)

module _ (plan : PlainPlan) (u : Uses) (formed : IsFormed plan) (ports : ArePorts plan u) (q : ℕ) (p : Port) (port_is : slice_get (ports_of plan.table) q ≡ Some p) where
  pub user_of_port : (user : User) (o : Operation) (r : Reach) → slice_get (operations_in plan user.block) user.place ≡ Some o → use_in o.form ≡ Some r → HasUser user (users_of plan u q) → IsOfPort plan p user.bank r
  user_of_port user o r there uses among =
      let own = own_listed plan u q user among in
      let o_is : own.1.0.operation ≡ o = (let both : Some own.1.0.operation ≡ Some o = sym own.1.0.there ∙ there in cc) in
      let reach_is : own.0 ≡ r = (let both : Some own.0 ≡ Some r = sym own.1.0.uses ∙ (ap (λ (y : Operation). use_in y.form) o_is ∙ uses) in cc) in
      let bound = bound_port plan u formed ports user.block user.place user.bank own.1.1.0 own.0 own.1.0 own.1.1.1.0 in
      let p_is : bound.0 ≡ p = (let both : Some bound.0 ≡ Some p = sym bound.1.there ∙ (ap (λ (n : ℕ). slice_get (ports_of plan.table) n) own.1.1.1.1 ∙ port_is) in cc) in
      record {
        place = own.1.1.0;
        listed = subst (λ (y : Reach). IsListed user.bank own.1.1.0 y.banks) reach_is own.1.1.1.0;
        row_width = ap (λ (y : Reach). row_bits_of plan.table y.memory) (sym reach_is) ∙ (sym bound.1.row_width ∙ ap (λ (y : Port). y.row_width) p_is);
        width = ap (λ (y : Port). y.width) (sym p_is) ∙ (bound.1.width ∙ ap (λ (y : Reach). width_of (kind_in plan.table y.memory)) reach_is);
      }

-- what wires show of the times of a user's operation at a moment
pub record TimesShown (plan : PlainPlan) (t : Timing) (times : ℕ → ℕ → Times) (x : Signals) (m : Moment) (user : User) : Type 0 where
  pub active_is : is_one x (times user.block user.place).active ≡ is_among user.block m.active
  pub own_is : is_one x (times user.block user.place).own ≡ (slice_index (clocks_in plan t user.block) user.place == m.clock)
  pub commit_is : is_one x (times user.block user.place).commit ≡ (m.commits && is_among user.block m.active)

module _ (d : PlainCircuit) (plan : PlainPlan) (u : Uses) (t : Timing) (w : PlanWires) (times : ℕ → ℕ → Times) (formed : IsFormed plan) (addressed : IsAddressed plan) (ports : ArePorts plan u) (shows : ShowsPlan d plan u w)
    (x : Signals) (settled : IsSettled d x) (m : Moment) (q : ℕ) (p : Port) (port_is : slice_get (ports_of plan.table) q ≡ Some p) where
  abbrev shown_words : ℕ → List Word
  shown_words block = block_shown plan (layout_of plan w) block x.wires

  words_taken : (block i : ℕ) (o : Operation) → slice_get (operations_in plan block) i ≡ Some o → AreShownWords (first_in plan block) (shown_words block) w.kinds w.values x (o ∷ [])
  words_taken block i o at = record {
    each = (
      all_map (IsShownNumber d plan w block) (IsShownValue (first_in plan block) (shown_words block) w.kinds w.values x) (operation_takes o) (λ number h. h.word x)
          (taken_are_shown d plan u w shows formed block i o at),
      tt,
    );
  }

  user_driven : (user : User) (driver : Driver) → HasUser user (users_of plan u q) → TimesShown plan t times x m user → DrivesUser d plan w.kinds w.values times user driver
      → DrivesFor plan t shown_words m p x.wires driver user
  user_driven user driver among shown h =
      let own = user_of_port plan u formed ports q p port_is user h.operation h.reach h.there h.uses among in
      let suits = (formed.blocks user.block).suits user.place h.operation h.there in
      drives_meant d plan t shown_words m p x w.kinds w.values (times user.block user.place) h.operation driver user h.there
      (subst (λ (n : ℕ). DrivesUse d w.kinds w.values (times user.block user.place) h.operation n user.bank driver) own.row_width h.drive) settled (words_taken user.block user.place h.operation h.there)
      (picks_alone plan (first_in plan user.block) (kinds_of plan user.block) user.bank own.place h.operation.form h.reach h.uses suits.form
      (addressed.forms user.block user.place h.operation h.there) own.listed) shown.active_is shown.own_is shown.commit_is

  all_driven : (users : List User) (ds : List Driver) → ((user : User) → HasUser user users → HasUser user (users_of plan u q)) → ((user : User) → HasUser user (users_of plan u q) → TimesShown plan t times x m user)
      → DriveEach d plan w.kinds w.values times users ds → DriveFor plan t shown_words m p x.wires ds users
  all_driven [] [] among shown h = tt
  all_driven [] (e ∷ es) among shown h = absurd h
  all_driven (v ∷ vs) [] among shown h = absurd h
  all_driven (v ∷ vs) (e ∷ es) among shown h =
      (user_driven v e (among v (inl refl)) (shown v (among v (inl refl))) h.0, all_driven vs es (λ user there. among user (inr there)) shown h.1)

  -- the drivers that are gathered for a port are those of its users
  pub port_driven : (es : List (Keyed Driver)) → DriveUsers d plan w.kinds w.values times (blocks_users plan u 0 plan.blocks) es
      → ((user : User) → HasUser user (users_of plan u q) → TimesShown plan t times x m user) → DriveFor plan t shown_words m p x.wires (items_picked q es) (users_of plan u q)
  port_driven es h shown =
      all_driven (users_of plan u q) (items_picked q es) (λ user there. there) shown (picked_both d plan w.kinds w.values times q (blocks_users plan u 0 plan.blocks) es h)
