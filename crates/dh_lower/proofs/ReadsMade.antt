-- One clock of the ports of a plan.
-- Users of a port ask one at a time, so no two of its drivers are active, and each row that is asked for is a row of
-- the bank. A read that was made before is kept: where its port were served again, its user would be that of the
-- read, whose clock is over. A read whose clock this is asks; its port serves it, and holds its element from then on.
use Rattle.std.proofs.Common.{◌≡◌, ℕ, suc, ◌+◌, ◌-◌, ◌<◌, ◌≤◌, ◌^◌, inl, inr, Some, Bool, true, false, if◌then◌else◌, List, length, ℤ, pos, negsuc, unsigned_abs, refl, sym, ap, subst, ◌∙◌, arith}
use Rattle.std.specs.Prelude.{[], ◌∷◌, Option, slice_get, slice_index, int_le, int_lt, ◌==◌, ◌||◌}
use Rattle.std.proofs.lemmas.Bool.{cases_lt, lt-ltb, eq-eqb}
use Rattle.std.proofs.lemmas.Int.{ints}
use Rattle.std.proofs.lemmas.Option.{slice_get_cases, slice_get_within}
use Rattle.std.proofs.Math.Nat.{add-sub_cancel_left, mod-eq_of_lt}
use Rattle.dh_tree.specs.Elements.{Spot, dims_at, rows_of, position_in_bank}
use Rattle.dh_tree.specs.declared.tables.Dim.{Dim}
use Rattle.dh_tree.specs.declared.tables.MemEntry.{MemEntry}
use Rattle.dh_value.specs.declared.kinds.Kind.TheVariants as kind
use Rattle.dh_value.specs.declared.words.Word.{Word}
use Rattle.dh_value.specs.Words.{value_of, word_of}
use Rattle.dh_meaning.specs.Effects.{is_row, bits_at}
use Rattle.dh_net.specs.BankPorts.{ports_of}
use Rattle.dh_net.proofs.RowWidths.{row_width_met}
use Rattle.dh_net.specs.Clock.{has_clash, has_clashes, has_stray, has_strays, served, held_by, held_after, row_value, memory_at, position_of_row}
use Rattle.dh_net.specs.declared.nets.Driver.{Driver}
use Rattle.dh_net.specs.declared.ports.Port.{Port}
use Rattle.dh_plan.specs.declared.operations.Operation.{Operation}
use Rattle.dh_plan.specs.declared.operations.OperationForm.{OperationForm}
use Rattle.dh_plan.specs.declared.operations.OperationForm.TheVariants.{Constant, Old, Compute, Convert, Select, Check, Probe, Read, Write, Set}
use Rattle.dh_plan.specs.declared.operations.Reach.{Reach}
use Rattle.dh_plan.specs.Blocks.{is_on, first_listed_bank, bank_picked, word_at, in_memories, spot_of_reach}
use Rattle.dh_plan.specs.BlockLaws.{SameAt, SameAtAll}
use Rattle.dh_plan.specs.BoundPorts.{Uses}
use Rattle.dh_plan.specs.LegalSchedules.{Timing, clocks_in}
use Rattle.dh_plan.specs.Ordered.{one_or_none, offsets_taken, form_takes}
use Rattle.dh_plan.specs.PlainPlans.{PlainPlan, first_in, operations_in}
use Rattle.dh_plan.specs.PlanRuns.{start_at, block_values}
use Rattle.dh_plan.specs.SoundPlans.{IsOneOf, IsListed, use_in}
use Rattle.dh_plan.proofs.ValuesAlike.{all_right}
use Rattle.dh_lower.specs.PortUsers.{User, HasUser, Moment, user_asks, row_bits, SaysForm, SaysOperation, DrivesFor, DriveFor}
use Rattle.dh_lower.specs.ShownWords.{port_bound, is_bank_listed, bank_or_first, if_listed, in_ports, ReadsAreMade}
use Rattle.dh_lower.specs.StepFacts.{HasPortUsers, Acts, IsMoment}
use Rattle.dh_lower.proofs.AsksMeant.{Asking, asking, read_asks, both}
use Rattle.dh_lower.proofs.BoundPortFacts.{IsBound, bound_port}
use Rattle.dh_lower.proofs.OnePortServed.{OneAsks, no_clash, no_stray, Served, nobody, somebody, which_served, held_at}
use Rattle.dh_lower.proofs.UsersAlone.{LeadsTo, LeadsToRow, acts_lead, has_use, lists, one_user_acts, own_reach}

-- a row of a bank by its bits on enough of them
pub record IsRowNumber (rows : ℕ) (z : ℤ) (width : ℕ) : Type 0 where
  pub bits : (word_of (kind.Unsigned width) z).bits ≡ unsigned_abs z
  pub below : unsigned_abs z < rows

row_number : (dims : List Dim) (z : ℤ) (width : ℕ) → is_row dims z ≡ true → rows_of dims ≤ 2 ^ width → IsRowNumber (rows_of dims) z width
row_number dims (pos n) width e few =
    let less : n < rows_of dims = (let h : int_lt (pos n) (pos (rows_of dims)) ≡ true = (both (int_le (pos 0) (pos n)) (int_lt (pos n) (pos (rows_of dims))) e).1 in omega (arith, ints, h)) in
    record { bits = mod-eq_of_lt (omega (arith, less, few)); below = less }
row_number dims (negsuc n) width e few = absurd (let h : int_le (pos 0) (negsuc n) ≡ true = (both (int_le (pos 0) (negsuc n)) (int_lt (negsuc n) (pos (rows_of dims))) e).0 in omega (arith, ints, h))

-- the row that a driver says
says_row : (p : Port) (wires : List ℕ) (first : ℕ) (us : List Word) (d : Driver) (f : OperationForm) (r : Reach) → use_in f ≡ Some r → SaysForm p wires first us d f
    → slice_index wires d.row ≡ row_bits p.row_width first us r.row
says_row p wires first us d (Constant word) r e h = absurd (cc)
says_row p wires first us d (Old register) r e h = absurd (cc)
says_row p wires first us d (Compute op left right) r e h = absurd (cc)
says_row p wires first us d (Convert inner to) r e h = absurd (cc)
says_row p wires first us d (Select test a b) r e h = absurd (cc)
says_row p wires first us d (Check ok fault) r e h = absurd (cc)
says_row p wires first us d (Probe x fault) r e h = absurd (cc)
says_row p wires first us d (Read x) r e h = let same : x ≡ r = cc in h.row ∙ ap (λ (y : Reach). row_bits p.row_width first us y.row) same
says_row p wires first us d (Write x value) r e h = let same : x ≡ r = cc in h.row ∙ ap (λ (y : Reach). row_bits p.row_width first us y.row) same
says_row p wires first us d (Set register value) r e h = absurd (cc)

-- what an access takes for its row
row_taken : (first : ℕ) (us vs : List Word) (f : OperationForm) (r : Reach) → use_in f ≡ Some r → SameAtAll first us vs (form_takes f) → SameAtAll first us vs (one_or_none r.row)
row_taken first us vs (Constant word) r e h = absurd (cc)
row_taken first us vs (Old register) r e h = absurd (cc)
row_taken first us vs (Compute op left right) r e h = absurd (cc)
row_taken first us vs (Convert inner to) r e h = absurd (cc)
row_taken first us vs (Select test a b) r e h = absurd (cc)
row_taken first us vs (Check ok fault) r e h = absurd (cc)
row_taken first us vs (Probe x fault) r e h = absurd (cc)
row_taken first us vs (Read x) r e h =
    let P = SameAt first us vs in
    let last = all_right P (offsets_taken x.steps) _ (all_right P x.indices _ h) in
    let same : x ≡ r = cc in
    subst (λ (y : Reach). SameAtAll first us vs (one_or_none y.row)) same (all_right P (one_or_none x.select) _ last)
row_taken first us vs (Write x value) r e h =
    let P = SameAt first us vs in
    let last = all_right P (offsets_taken x.steps) _ (all_right P x.indices _ h.1) in
    let same : x ≡ r = cc in
    subst (λ (y : Reach). SameAtAll first us vs (one_or_none y.row)) same (all_right P (one_or_none x.select) _ last)
row_taken first us vs (Set register value) r e h = absurd (cc)

-- a bank that is listed
listed_is : (bank place : ℕ) (banks : List (ℕ × ℕ)) → IsListed bank place banks → is_bank_listed bank banks ≡ true
listed_is bank place [] h = absurd h
listed_is bank place (b ∷ bs) h = elim h [
  | inl here ↦ ap (λ (t : Bool). t || is_bank_listed bank bs) (eq-eqb b.0 bank here.0)
  | inr later ↦ or_true (b.0 == bank) (is_bank_listed bank bs) (listed_is bank place bs later)
]
  where
    or_true : (t u : Bool) → u ≡ true → (t || u) ≡ true
    or_true true u e = refl
    or_true false u e = e

shows_if_listed : (bank place : ℕ) (banks : List (ℕ × ℕ)) (bits : ℕ) → IsListed bank place banks → if_listed banks bits ≡ bits
shows_if_listed bank place [] bits h = absurd h
shows_if_listed bank place (b ∷ bs) bits h = refl

-- lists of ports
pub no_clashes : (wires : List ℕ) (dss : List (List Driver)) → ((q : ℕ) (ds : List Driver) → slice_get dss q ≡ Some ds → has_clash wires ds ≡ false) → has_clashes wires dss ≡ false
no_clashes wires [] h = refl
no_clashes wires (ds ∷ dss) h =
    ap (λ (b : Bool). b || has_clashes wires dss) (h 0 ds refl) ∙ no_clashes wires dss (λ q es at. h (suc q) es at)

pub no_strays : (wires : List ℕ) (dss : List (List Driver)) (ps : List Port)
    → ((q : ℕ) (ds : List Driver) (p : Port) → slice_get dss q ≡ Some ds → slice_get ps q ≡ Some p → has_stray wires ds p.rows ≡ false) → has_strays wires dss ps ≡ false
no_strays wires [] ps h = refl
no_strays wires (ds ∷ dss) [] h = refl
no_strays wires (ds ∷ dss) (p ∷ ps) h =
    ap (λ (b : Bool). b || has_strays wires dss ps) (h 0 ds p refl refl) ∙ no_strays wires dss ps (λ q es r a b. h (suc q) es r a b)

module _ (plan : PlainPlan) (t : Timing) (u : Uses) (users : (port : ℕ) → List User) (has : HasPortUsers plan u users) (registers : List ℕ) (memories : List (List ℕ)) (held : List ℕ)
    (words : (block : ℕ) → List Word) (m : Moment) (now : IsMoment plan t u registers memories held words m) (wires : List ℕ) (dss : List (List Driver))
    (many : length dss ≡ length (ports_of plan.table))
    (drives : (q : ℕ) (ds : List Driver) (p : Port) → slice_get dss q ≡ Some ds → slice_get (ports_of plan.table) q ≡ Some p → DriveFor plan t words m p wires ds (users q)) where
  one_asks : (q : ℕ) (p : Port) → OneAsks plan t words m p wires (users q)
  one_asks q p v w x y a b =
      let f = asking plan t u registers memories held words m now v a in
      let g = asking plan t u registers memories held words m now w b in
      one_user_acts plan u users has registers memories m.active now.kept q v w f.operation g.operation f.reach g.reach x y f.acts g.acts

  -- a user that asks: where it leads, and the row that its driver says
  pub record Asked (q : ℕ) (p : Port) (d : Driver) (v : User) : Type 0 where
    pub own : Asking plan t u registers memories held words m now v
    pub spot : Spot
    pub leads : LeadsTo plan u users has registers memories m.active now.kept v own.operation own.reach spot
    pub bound : IsBound plan u v.block v.place v.bank own.reach p
    pub says : SaysForm p wires (first_in plan v.block) (words v.block) d own.operation.form
    pub row : slice_index wires d.row ≡ spot.row
    pub below : spot.row < p.rows

  pub asked : (q : ℕ) (p : Port) (d : Driver) (v : User) → slice_get (ports_of plan.table) q ≡ Some p → HasUser v (users q) → user_asks plan t words m v ≡ true
      → DrivesFor plan t words m p wires d v → Asked q p d v
  asked q p d v at user e drive =
      let own = asking plan t u registers memories held words m now v e in
      let first = first_in plan v.block in
      let us = words v.block in
      let vs = block_values plan (start_at plan registers memories) v.block in
      let lead = acts_lead plan u users has registers memories m.active now.kept v own.operation own.reach own.acts in
      let listed = lists plan u users has registers memories m.active now.kept v own.operation own.reach own.acts in
      let found = bound_port plan u has.formed has.ports v.block v.place v.bank listed.0 own.reach (has_use plan u users has registers memories m.active now.kept v own.operation own.reach own.acts) listed.1 in
      let number = own_reach plan u users has registers memories m.active now.kept q v own.operation own.reach user own.acts in
      let same_some : Some found.0 ≡ Some p = sym found.1.there ∙ (ap (λ (n : ℕ). slice_get (ports_of plan.table) n) number ∙ at) in
      let same_port : found.0 ≡ p = cc in
      let bound : IsBound plan u v.block v.place v.bank own.reach p = subst (λ (x : Port). IsBound plan u v.block v.place v.bank own.reach x) same_port found.1 in
      let says : SaysForm p wires first us d own.operation.form = subst (λ (x : Option Operation). SaysOperation p wires first us d x) own.acts.there drive.says in
      let P = SameAt first us vs in
      let taken = row_taken first us vs own.operation.form own.reach own.acts.uses (all_right P (one_or_none own.operation.guard) (form_takes own.operation.form) own.same) in
      let row_same : word_at first us lead.1.row ≡ word_at first vs lead.1.row = (subst (λ (x : Option ℕ). SameAtAll first us vs (one_or_none x)) lead.1.row_is taken).0 in
      let rows = rows_of (dims_at plan.table own.reach.memory) in
      let wide : rows ≤ 2 ^ p.row_width = subst (λ (w : ℕ). rows ≤ 2 ^ w) (sym bound.row_width) (row_width_met rows).all in
      let number_is = row_number (dims_at plan.table own.reach.memory) (value_of (word_at first vs lead.1.row)) p.row_width lead.1.to_row.is_one wide in
      let spot_row : unsigned_abs (value_of (word_at first vs lead.1.row)) ≡ lead.0.row = ap (λ (x : Spot). x.row) lead.1.to_row.spot_is in
      record {
        own = own;
        spot = lead.0;
        leads = lead.1;
        bound = bound;
        says = says;
        row =
            says_row p wires first us d own.operation.form own.reach own.acts.uses says
            ∙ (ap (λ (x : Option ℕ). row_bits p.row_width first us x) lead.1.row_is
            ∙ (ap (λ (w : Word). (word_of (kind.Unsigned p.row_width) (value_of w)).bits) row_same ∙ (number_is.bits ∙ spot_row)));
        below = subst (λ (n : ℕ). n < p.rows) spot_row (subst (λ (n : ℕ). unsigned_abs (value_of (word_at first vs lead.1.row)) < n) (sym bound.rows) number_is.below);
      }

  pub port_at_place : (q : ℕ) (ds : List Driver) → slice_get dss q ≡ Some ds → (p : Port) × (slice_get (ports_of plan.table) q ≡ Some p)
  port_at_place q ds at =
      elim (slice_get_cases (ports_of plan.table) q).1 [
        | inl found ↦ (found.0, found.2)
        | inr past ↦ absurd (let inside = slice_get_within dss q ds at in let beyond = past.0 in omega (arith, inside, beyond, many))
      ]

  pub clashes_never : has_clashes wires dss ≡ false
  clashes_never = no_clashes wires dss λ q ds at.
      let port = port_at_place q ds at in
      no_clash plan t words m port.0 wires ds (users q) (drives q ds port.0 at port.1) (has.laid.apart q) (one_asks q port.0)

  pub strays_never : has_strays wires dss (ports_of plan.table) ≡ false
  strays_never = no_strays wires dss (ports_of plan.table) λ q ds p at port.
      no_stray plan t words m p wires p.rows ds (users q) (drives q ds p at port) λ d v user e drive.
      let a = asked q p d v port user e drive in
      subst (λ (n : ℕ). n < p.rows) (sym a.row) a.below

  -- Reads.

  module _ (full : length held ≡ length dss) where
    abbrev new_held : List ℕ
    new_held = held_after plan.table wires dss (ports_of plan.table) memories held

    drivers_there : (q : ℕ) (p : Port) → slice_get (ports_of plan.table) q ≡ Some p → (ds : List Driver) × (slice_get dss q ≡ Some ds)
    drivers_there q p at =
        elim (slice_get_cases dss q).1 [
          | inl found ↦ (found.0, found.2)
          | inr past ↦ absurd (let inside = slice_get_within (ports_of plan.table) q p at in let beyond = past.0 in omega (arith, inside, beyond, many))
        ]

    -- what the port of a read holds, where it is served for it
    element_held : (q : ℕ) (p : Port) (d : Driver) (v : User) (guard : Option ℕ) (r : Reach) → Acts plan registers memories m.active v (record { guard = guard; form = Read r }) r
        → Asked q p d v → held_by plan.table wires p (Some d) memories (slice_index held q)
        ≡ bits_at memories (spot_of_reach (start_at plan registers memories) (first_in plan v.block) (block_values plan (start_at plan registers memories) v.block) r)
    element_held q p d v guard r acts a =
        let o : Operation = record { guard = guard; form = Read r } in
        let same_some : Some a.own.operation ≡ Some o = sym a.own.acts.there ∙ acts.there in
        let same_operation : a.own.operation ≡ o = cc in
        let reach_some : Some a.own.reach ≡ Some r = sym a.own.acts.uses ∙ ap (λ (x : Operation). use_in x.form) same_operation in
        let same_reach : a.own.reach ≡ r = cc in
        let says : SaysForm p wires (first_in plan v.block) (words v.block) d (Read r) = subst (λ (x : Operation). SaysForm p wires (first_in plan v.block) (words v.block) d x.form) same_operation a.says in
        let leads : spot_of_reach (start_at plan registers memories) (first_in plan v.block) (block_values plan (start_at plan registers memories) v.block) r ≡ Some a.spot
        = sym (ap (λ (x : Reach). spot_of_reach (start_at plan registers memories) (first_in plan v.block) (block_values plan (start_at plan registers memories) v.block) x) same_reach) ∙ a.leads.reaches.leads in
        let memory : p.memory ≡ a.spot.memory = a.bound.memory ∙ ap (λ (x : Spot). x.memory) a.leads.to_row.spot_is in
        let bank : p.bank ≡ a.spot.bank = a.bound.bank_is ∙ ap (λ (x : Spot). x.bank) a.leads.to_row.spot_is in
        let position : position_in_bank (dims_at plan.table a.spot.memory) a.spot.bank a.spot.row ≡ a.spot.position = spot_position plan.table a.own.reach.memory v.bank _ a.spot a.leads.to_row in
        ap (λ (b : Bool). if b then slice_index held q else row_value plan.table p memories (slice_index wires d.row)) says.reads
        ∙ (ap (λ (n : ℕ). row_value plan.table p memories n) a.row
        ∙ (ap (λ (b : Bool). if b then slice_index (memory_at memories p.memory) (position_of_row plan.table p a.spot.row) else 0) (lt-ltb a.spot.row p.rows a.below)
        ∙ (ap (λ (n : ℕ). slice_index (memory_at memories n) (position_in_bank (dims_at plan.table n) p.bank a.spot.row)) memory
        ∙ (ap (λ (n : ℕ). slice_index (memory_at memories a.spot.memory) (position_in_bank (dims_at plan.table a.spot.memory) n a.spot.row)) bank
        ∙ (ap (λ (n : ℕ). slice_index (memory_at memories a.spot.memory) n) position
        ∙ sym (ap (λ (x : Option Spot). bits_at memories x) leads))))))
      where
        spot_position : (table : List MemEntry) (memory bank : ℕ) (z : ℤ) (spot : Spot) → LeadsToRow table memory bank z spot
            → position_in_bank (dims_at table spot.memory) spot.bank spot.row ≡ spot.position
        spot_position table memory bank z spot h =
            subst (λ (x : Spot). position_in_bank (dims_at table x.memory) x.bank x.row ≡ x.position) h.spot_is refl

    read_made : (block : ℕ) → IsOneOf block m.active → (i : ℕ) (guard : Option ℕ) (r : Reach) → slice_get (operations_in plan block) i ≡ Some (record { guard = guard; form = Read r })
        → is_on (first_in plan block) (block_values plan (start_at plan registers memories) block) guard ≡ true → slice_index (clocks_in plan t block) i < suc m.clock
        → in_ports plan u new_held block (first_in plan block + i) r (block_values plan (start_at plan registers memories) block)
        ≡ in_memories (start_at plan registers memories) (first_in plan block) (first_in plan block + i) r (block_values plan (start_at plan registers memories) block)
    read_made block active i guard r at on before =
        let first = first_in plan block in
        let vs = block_values plan (start_at plan registers memories) block in
        let bank = bank_picked first vs r.banks r.select in
        let v : User = record { block = block; place = i; bank = bank } in
        let o : Operation = record { guard = guard; form = Read r } in
        let acts : Acts plan registers memories m.active v o r = record { active = active; there = at; uses = refl; on = on; picks = refl } in
        let listed = lists plan u users has registers memories m.active now.kept v o r acts in
        let used = has_use plan u users has registers memories m.active now.kept v o r acts in
        let q = port_bound plan u block i bank r in
        let bound = bound_port plan u has.formed has.ports block i bank listed.0 r used listed.1 in
        let user = has.laid.all block i bank listed.0 r used listed.1 in
        let ds = drivers_there q bound.0 bound.1.there in
        let inside : q < length held = (let w = slice_get_within dss q ds.0 ds.1 in omega (arith, w, full)) in
        let place : first + i - first ≡ i = add-sub_cancel_left first i in
        let picked : bank_or_first r.banks bank ≡ bank = ap (λ (b : Bool). if b then bank else first_listed_bank r.banks) (listed_is bank listed.0 r.banks listed.1) in
        let look : (hs : List ℕ) → in_ports plan u hs block (first + i) r vs ≡ slice_index hs q
        = λ hs. ap (λ (n : ℕ). if_listed r.banks n) (λ n. slice_index hs (port_bound plan u block (place n) (picked n) r)) ∙ shows_if_listed bank listed.0 r.banks (slice_index hs q) listed.1 in
        let new : slice_index new_held q ≡ held_by plan.table wires bound.0 (served wires ds.0) memories (slice_index held q)
        = held_at plan.table wires dss (ports_of plan.table) memories held q ds.0 bound.0 ds.1 bound.1.there inside in
        look new_held ∙ (new ∙ by_served q bound.0 ds.0 v guard r acts bound.1.there user before
        (λ earlier. sym (look held) ∙ (now.blocks block active).made.each i guard r at on earlier)
        (which_served plan t words m bound.0 wires ds.0 (users q) (drives q ds.0 bound.0 ds.1 bound.1.there)))
      where
        by_served : (q : ℕ) (p : Port) (ds : List Driver) (v : User) (guard : Option ℕ) (r : Reach) → Acts plan registers memories m.active v (record { guard = guard; form = Read r }) r
            → slice_get (ports_of plan.table) q ≡ Some p → HasUser v (users q) → slice_index (clocks_in plan t v.block) v.place < suc m.clock
            → (slice_index (clocks_in plan t v.block) v.place < m.clock → slice_index held q ≡ bits_at memories (spot_of_reach (start_at plan registers memories) (first_in plan v.block) (block_values plan (start_at plan registers memories) v.block) r))
            → Served plan t words m p wires ds (users q)
            → held_by plan.table wires p (served wires ds) memories (slice_index held q) ≡ bits_at memories (spot_of_reach (start_at plan registers memories) (first_in plan v.block) (block_values plan (start_at plan registers memories) v.block) r)
        by_served q p ds v guard r acts at user before kept (nobody none all) =
            ap (λ (x : Option Driver). held_by plan.table wires p x memories (slice_index held q)) none
            ∙ elim (cases_lt (slice_index (clocks_in plan t v.block) v.place) m.clock) [
              | inl earlier ↦ kept earlier
              | inr later ↦
                  let here : slice_index (clocks_in plan t v.block) v.place ≡ m.clock = omega (arith, before, later) in
                  let asks = read_asks plan t u registers memories held words m now v guard r acts here in
                  absurd (let none_asks = all v user in cc)
            ]
        by_served q p ds v guard r acts at user before kept (somebody d w is there e drive) =
            let a = asked q p d w at there e drive in
            let same : w ≡ v = one_user_acts plan u users has registers memories m.active now.kept q w v a.own.operation (record { guard = guard; form = Read r }) a.own.reach r there user a.own.acts acts in
            ap (λ (x : Option Driver). held_by plan.table wires p x memories (slice_index held q)) is
            ∙ element_held q p d v guard r acts (subst (λ (x : User). Asked q p d x) same a)

    pub reads_made : (block : ℕ) → IsOneOf block m.active
        → ReadsAreMade (start_at plan registers memories) (in_ports plan u new_held block) (first_in plan block) (operations_in plan block) (clocks_in plan t block)
        (block_values plan (start_at plan registers memories) block) (suc m.clock)
    reads_made block active = record { each = λ i guard r at on before. read_made block active i guard r at on before }
