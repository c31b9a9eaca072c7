-- What a port does in a clock whose users ask one at a time.
-- A driver is active where its user asks. So where of the users one at most asks no two drivers of the port are
-- active, and the port serves the driver of the user that asks, if any; by recursion on both lists side by side.
use Rattle.std.proofs.Common.{◌≡◌, ℕ, zero, suc, ◌<◌, inl, inr, Some, None, Bool, true, false, not, nat_lt, if◌then◌else◌, List, length, refl, sym, ap, subst, ◌∙◌, arith}
use Rattle.std.specs.Prelude.{[], ◌∷◌, slice_get, slice_index, ◌==◌, ◌&&◌, ◌||◌}
use Rattle.std.proofs.lemmas.Bool.Decides.{nat_tests}
use Rattle.dh_value.specs.declared.words.Word.{Word}
use Rattle.dh_tree.specs.declared.tables.MemEntry.{MemEntry}
use Rattle.dh_net.specs.Clock.{is_active, any_active, has_clash, has_stray, served, held_by, held_after}
use Rattle.dh_net.specs.declared.nets.Driver.{Driver}
use Rattle.dh_net.specs.declared.ports.Port.{Port}
use Rattle.dh_plan.specs.LegalSchedules.{Timing}
use Rattle.dh_plan.specs.PlainPlans.{PlainPlan}
use Rattle.dh_lower.specs.PortUsers.{User, HasUser, AreApart, Moment, user_asks, DrivesFor, DriveFor}

active_as : (n : ℕ) (t : Bool) → n ≡ (if t then 1 else 0) → (n == 1) ≡ t
active_as n true e = ap (λ k. k == 1) e
active_as n false e = ap (λ k. k == 1) e

module _ (plan : PlainPlan) (t : Timing) (words : (block : ℕ) → List Word) (m : Moment) (p : Port) (wires : List ℕ) where
  abbrev asks : User → Bool
  asks v = user_asks plan t words m v

  -- of these users one at most asks
  abbrev pub OneAsks : List User → Type 0
  OneAsks vs = (v w : User) → HasUser v vs → HasUser w vs → asks v ≡ true → asks w ≡ true → v ≡ w

  one_later : (v : User) (vs : List User) → OneAsks (v ∷ vs) → OneAsks vs
  one_later v vs one a b x y = one a b (inr x) (inr y)

  pub active_asks : (d : Driver) (v : User) → DrivesFor plan t words m p wires d v → is_active wires d ≡ asks v
  active_asks d v h = active_as (slice_index wires d.enable) (asks v) h.enable

  -- an active driver has a user that asks
  some_asks : (ds : List Driver) (vs : List User) → DriveFor plan t words m p wires ds vs → any_active wires ds ≡ true → (v : User) × (HasUser v vs × (asks v ≡ true))
  some_asks [] vs h e = absurd (cc)
  some_asks (d ∷ ds) [] h e = elim h [ ]
  some_asks (d ∷ ds) (v ∷ vs) h e = by (asks v) refl (ap (λ (b : Bool). b || any_active wires ds) (sym (active_asks d v h.0)) ∙ e) (some_asks ds vs h.1)
    where
      by : (b : Bool) → asks v ≡ b → (b || any_active wires ds) ≡ true → (any_active wires ds ≡ true → (w : User) × (HasUser w vs × (asks w ≡ true)))
          → (w : User) × (HasUser w (v ∷ vs) × (asks w ≡ true))
      by true a e rest = (v, (inl refl, a))
      by false a e rest = let found = rest e in (found.0, (inr found.1.0, found.1.1))

  pub no_clash : (ds : List Driver) (vs : List User) → DriveFor plan t words m p wires ds vs → AreApart vs → OneAsks vs → has_clash wires ds ≡ false
  no_clash [] vs h apart one = refl
  no_clash (d ∷ ds) [] h apart one = elim h [ ]
  no_clash (d ∷ ds) (v ∷ vs) h apart one =
      ap (λ (b : Bool). b || has_clash wires ds) (head (is_active wires d) (any_active wires ds) refl refl) ∙ no_clash ds vs h.1 apart.1 (one_later v vs one)
    where
      head : (a b : Bool) → is_active wires d ≡ a → any_active wires ds ≡ b → (a && b) ≡ false
      head false b e f = refl
      head true false e f = refl
      head true true e f =
          let found = some_asks ds vs h.1 f in
          let same = one v found.0 (inl refl) (inr found.1.0) (sym (active_asks d v h.0) ∙ e) found.1.1 in
          absurd (apart.0 (subst (λ (w : User). HasUser w vs) (sym same) found.1.0))

  -- which driver the port serves
  pub data Served (ds : List Driver) (vs : List User) : Type 0 where
    nobody : served wires ds ≡ None → ((v : User) → HasUser v vs → asks v ≡ false) → Served ds vs
    somebody : (d : Driver) (v : User) → served wires ds ≡ Some d → HasUser v vs → asks v ≡ true → DrivesFor plan t words m p wires d v → Served ds vs

  served_more : (d : Driver) (ds : List Driver) (v : User) (vs : List User) → asks v ≡ false → is_active wires d ≡ false → Served ds vs → Served (d ∷ ds) (v ∷ vs)
  served_more d ds v vs a e (nobody none all) =
      nobody (ap (λ (b : Bool). if b then Some d else served wires ds) e ∙ none) (λ w h. elim h [
        | inl here ↦ ap (λ (x : User). asks x) here ∙ a
        | inr later ↦ all w later
      ])
  served_more d ds v vs a e (somebody x w is there b drives) =
      somebody x w (ap (λ (b : Bool). if b then Some d else served wires ds) e ∙ is) (inr there) b drives

  pub which_served : (ds : List Driver) (vs : List User) → DriveFor plan t words m p wires ds vs → Served ds vs
  which_served [] [] h = nobody refl (λ v x. elim x [ ])
  which_served [] (v ∷ vs) h = elim h [ ]
  which_served (d ∷ ds) [] h = elim h [ ]
  which_served (d ∷ ds) (v ∷ vs) h = by (asks v) refl (which_served ds vs h.1)
    where
      by : (b : Bool) → asks v ≡ b → Served ds vs → Served (d ∷ ds) (v ∷ vs)
      by true a rest =
          let active = active_asks d v h.0 ∙ a in
          somebody d v (ap (λ (b : Bool). if b then Some d else served wires ds) active) (inl refl) a h.0
      by false a rest = served_more d ds v vs a (active_asks d v h.0 ∙ a) rest

  -- no row strays, where those that are asked for are rows
  pub no_stray : (rows : ℕ) (ds : List Driver) (vs : List User) → DriveFor plan t words m p wires ds vs
      → ((d : Driver) (v : User) → HasUser v vs → asks v ≡ true → DrivesFor plan t words m p wires d v → slice_index wires d.row < rows) → has_stray wires ds rows ≡ false
  no_stray rows [] vs h within = refl
  no_stray rows (d ∷ ds) [] h within = elim h [ ]
  no_stray rows (d ∷ ds) (v ∷ vs) h within =
      ap (λ (b : Bool). b || has_stray wires ds rows) (head (is_active wires d) refl) ∙ no_stray rows ds vs h.1 (λ x w there a drives. within x w (inr there) a drives)
    where
      head : (a : Bool) → is_active wires d ≡ a → (a && not (nat_lt (slice_index wires d.row) rows)) ≡ false
      head false e = refl
      head true e =
          let less = within d v (inl refl) (sym (active_asks d v h.0) ∙ e) h.0 in
          grind (arith, less, nat_tests)

-- what one port holds after a clock
pub held_at : (table : List MemEntry) (wires : List ℕ) (dss : List (List Driver)) (ps : List Port) (memories : List (List ℕ)) (hs : List ℕ) (q : ℕ) (ds : List Driver) (p : Port)
    → slice_get dss q ≡ Some ds → slice_get ps q ≡ Some p → q < length hs
    → slice_index (held_after table wires dss ps memories hs) q ≡ held_by table wires p (served wires ds) memories (slice_index hs q)
held_at table wires [] ps memories hs q ds p a b h = absurd (cc)
held_at table wires (x ∷ dss) [] memories hs q ds p a b h = absurd (cc)
held_at table wires (x ∷ dss) (y ∷ ps) memories [] q ds p a b h = absurd (omega (arith, h))
held_at table wires (x ∷ dss) (y ∷ ps) memories (z ∷ hs) zero ds p a b h =
    let same : x ≡ ds = cc in
    let port : y ≡ p = cc in
    ap (λ (l : List Driver). held_by table wires y (served wires l) memories z) same ∙ ap (λ (w : Port). held_by table wires w (served wires ds) memories z) port
held_at table wires (x ∷ dss) (y ∷ ps) memories (z ∷ hs) (suc q) ds p a b h = held_at table wires dss ps memories hs q ds p a b (omega (arith, h))
