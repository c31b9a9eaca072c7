-- The claims of an access through views: outside every unrolled loop those of the banks to which one key is carried,
-- else those of what is carried of all keys.
use Rattle.std.proofs.Common.{◌≡◌, ℕ, zero, suc, add-one, ◌+◌, ◌<◌, ◌≤◌, ◌==◌, ◌&&◌, max, nat_lt, Bool, true, false, if◌then◌else◌, List, [], ◌∷◌, ◌++◌, append_assoc, append-nil, length, map, take, get_or, refl, ap, sym, ◌∙◌, subst, arith, cond}
use mathlib.Core.Path.{fun_ext}
use Rattle.std.specs.Prelude.{Option, Some, None, option_map, slice_get, slice_index}
use Rattle.std.specs.List.{AllByRecursion}
use Rattle.std.specs.Set.{distinct_count, unique_keys}
use Rattle.std.proofs.lemmas.Bool.{eq-eqb, eqb-true}
use Rattle.std.proofs.lemmas.Bool.Decides.{nat_tests}
use Rattle.dh_tree.specs.declared.tables.Dim.{Dim}
use Rattle.dh_tree.specs.declared.trees.counters.Counter.{Counter}
use Rattle.dh_tree.specs.declared.trees.expressions.Expr.{Expr}
use Rattle.dh_tree.specs.declared.trees.programs.Tree.{Tree}
use Rattle.dh_tree.specs.Elements.{banks_of}
use Rattle.dh_tree.specs.Memories.{Memory, entry_of, memories_of, memory_in, number_in, same_entity, table_of}
use Rattle.dh_tree.specs.PlainTrees.{Program}
use Rattle.dh_tree.specs.Seen.{form_seen, program_seen}
use Rattle.dh_tree.specs.Shapes.{IsProgramTable}
use Rattle.dh_viewing.specs.Carried.{carried_by, largest}
use Rattle.dh_meaning.specs.Paths.{Path, same_path}
use Rattle.dh_meaning.specs.Ways as ways
use Rattle.dh_meaning.specs.Ways.{Way, all_bindings_of, way_in, way_to, way_unless, ways_of}
use Rattle.dh_meets.specs.Charges.{bank_named, bank_reached, charge_through, key_of, keys_in_group, sum_over}
use Rattle.dh_events.specs.Accesses.{entity_in}
use Rattle.dh_ways.specs.Kept as kept
use Rattle.dh_ways.specs.Kept.{KeptLed}
use Rattle.dh_ways.specs.Linked.{way_there}
use Rattle.dh_ways.specs.Placed.{FindsPlace}
use Rattle.dh_ways.specs.Leading.{LeadsTo}
use Rattle.dh_ways.specs.Seen.{led_seen, way_seen}
use Rattle.dh_ports.specs.declared.carrying.Carrier.{Carrier}
use Rattle.dh_ports.specs.declared.moves.Move.{Move}
use Rattle.dh_ports.specs.declared.moves.Move.TheVariants as move
use Rattle.dh_ports.specs.Banks.{bank_at_path, each_below}
use Rattle.dh_shape.specs.Classified.{loops_in}
use Rattle.dh_ports.specs.Carriers.{carried_to, is_carried, one_at, AreEach, IsCarrier}
use Rattle.dh_ports.specs.Claims.{first_bank_of, claim_at, claims_at, claims_from, claims_in, claims_of, count_on, source_of, AreBases}
use Rattle.dh_ports.proofs.CarrierPlaces.{carrier_is, each_many, led_there}
use Rattle.dh_ports.proofs.ClaimFacts.{Declared, found}
use Rattle.dh_ports.proofs.ClaimTurns.{base_is, base_there, claims_last, counts_each, index_found, memory_there, slots_few}
use Rattle.dh_ports.proofs.EachFacts.{each_long}
use Rattle.dh_ports.proofs.PathNumbers.{each_same}

absurd : {A : Type 0} → ⊥ → A
absurd e = elim e [ ]

some_same : {A : Type 0} (x y : A) → Some x ≡ Some y → x ≡ y
some_same x y e = cc

-- One key.

pub other_way : (a b : ℕ) → (a == b) ≡ (b == a)
other_way a b = by (a == b) (b == a) refl refl
  where
    clash : (t : Bool) → t ≡ true → t ≡ false → ⊥
    clash t e f = cc

    by : (s t : Bool) → (a == b) ≡ s → (b == a) ≡ t → s ≡ t
    by true true e f = refl
    by false false e f = refl
    by true false e f = absurd (clash (b == a) (eq-eqb b a (sym (eqb-true a b e))) f)
    by false true e f = absurd (clash (a == b) (eq-eqb a b (sym (eqb-true b a f))) e)

-- the largest of the charges of one key
one_largest : (bank n : ℕ) → largest (one_at bank) n ≡ (if nat_lt bank n then 1 else 0)
one_largest bank zero = sym (ap (λ b. if b then 1 else 0) (none_below bank))
  where
    none_below : (bank : ℕ) → nat_lt bank 0 ≡ false
    none_below bank = grind (arith, nat_tests)
one_largest bank (suc n) = ap (λ m. max m (one_at bank n)) (one_largest bank n) ∙ by (nat_lt bank n) (bank == n) (nat_lt bank (suc n)) refl refl refl
  where
    not_both : (b n : ℕ) → nat_lt b n ≡ true → (b == n) ≡ true → ⊥
    not_both b n e f = grind (arith, nat_tests)

    goes_on : (b n : ℕ) → nat_lt b n ≡ true → nat_lt b (suc n) ≡ false → ⊥
    goes_on b n e f = grind (arith, nat_tests)

    begins_here : (b n : ℕ) → (b == n) ≡ true → nat_lt b (suc n) ≡ false → ⊥
    begins_here b n e f = grind (arith, nat_tests)

    none_between : (b n : ℕ) → nat_lt b n ≡ false → (b == n) ≡ false → nat_lt b (suc n) ≡ true → ⊥
    none_between b n e f g = grind (arith, nat_tests)

    by : (a b c : Bool) → nat_lt bank n ≡ a → (bank == n) ≡ b → nat_lt bank (suc n) ≡ c → max (if a then 1 else 0) (if b then 1 else 0) ≡ (if c then 1 else 0)
    by true true c e f g = absurd (not_both bank n e f)
    by true false true e f g = refl
    by true false false e f g = absurd (goes_on bank n e g)
    by false true true e f g = refl
    by false true false e f g = absurd (begins_here bank n f g)
    by false false true e f g = absurd (none_between bank n e f g)
    by false false false e f g = refl

pub one_carried : (k : Carrier) (bank behind : ℕ) → carried_to k (one_at bank) behind ≡ (if is_carried k bank behind then 1 else 0)
one_carried k bank behind = by k.evenly
  where
    by : (b : Bool) → (if b then largest (one_at bank) k.banks else one_at bank (slice_index k.sources.items behind)) ≡ (if (if b then nat_lt bank k.banks else (slice_index k.sources.items behind == bank)) then 1 else 0)
    by true = one_largest bank k.banks
    by false = ap (λ (t : Bool). if t then 1 else 0) (other_way bank (slice_index k.sources.items behind))

-- Claims of what one key is carried to.

module _ (k : Carrier) (event base bank : ℕ) (old before : List Move) (behind : ℕ) (b : Bool) (told : b ≡ is_carried k bank behind) (so : before ≡ old ++ claims_from event base (each_below (carried_to k (one_at bank)) behind)) where
  claims_more : claims_from event base (each_below (carried_to k (one_at bank)) (behind + 1)) ≡ claims_from event base (each_below (carried_to k (one_at bank)) behind) ++ claim_at event (base + behind) (if b then 1 else 0)
  claims_more =
      ap (λ n. claims_from event base (each_below (carried_to k (one_at bank)) n)) (add-one behind)
      ∙ (claims_last event base (each_below (carried_to k (one_at bank)) behind) (carried_to k (one_at bank) behind)
      ∙ (ap (λ n. claims_from event base (each_below (carried_to k (one_at bank)) behind) ++ claim_at event (base + n) (carried_to k (one_at bank) behind)) (each_long (carried_to k (one_at bank)) behind)
      ∙ ap (λ n. claims_from event base (each_below (carried_to k (one_at bank)) behind) ++ claim_at event (base + behind) n) (one_carried k bank behind ∙ ap (λ (t : Bool). if t then 1 else 0) (sym told))))

  pub carried_then : (new : List Move) → b ≡ true → new ≡ before ++ move.Claim event (base + behind) 1 ∷ [] → new ≡ old ++ claims_from event base (each_below (carried_to k (one_at bank)) (behind + 1))
  carried_then new e f =
      f
      ∙ (ap (λ l. l ++ move.Claim event (base + behind) 1 ∷ []) so
      ∙ (append_assoc old (claims_from event base (each_below (carried_to k (one_at bank)) behind)) (move.Claim event (base + behind) 1 ∷ [])
      ∙ ap (λ l. old ++ l) (sym (claims_more ∙ ap (λ (t : Bool). claims_from event base (each_below (carried_to k (one_at bank)) behind) ++ claim_at event (base + behind) (if t then 1 else 0)) e))))

  pub carried_else : (new : List Move) → b ≡ false → new ≡ before → new ≡ old ++ claims_from event base (each_below (carried_to k (one_at bank)) (behind + 1))
  carried_else new e f =
      f
      ∙ (so
      ∙ ap (λ l. old ++ l)
      (sym (claims_more
      ∙ (ap (λ (t : Bool). claims_from event base (each_below (carried_to k (one_at bank)) behind) ++ claim_at event (base + behind) (if t then 1 else 0)) e
      ∙ append-nil (claims_from event base (each_below (carried_to k (one_at bank)) behind))))))

pub carried_first : (old : List Move) (event base : ℕ) (f : ℕ → ℕ) → old ≡ old ++ claims_from event base (each_below f 0)
carried_first old event base f = sym (append-nil old)

-- Claims through views.

module _ (tree : Tree) (event : ℕ) (loops : List Counter) (writes : Bool) (e : Expr) (w : Way) (named : way_to (program_seen tree) (entity_in (form_seen e.form)) ≡ Some w) (o : Option ℕ) (known : o ≡ number_in (memories_of (program_seen tree)) w.memory) where
  claims_through : claims_of (program_seen tree) event (source_of loops writes e) ≡ claims_at (program_seen tree) event o (source_of loops writes e)
  claims_through =
      ap (λ x. claims_at (program_seen tree) event (number_in (memories_of (program_seen tree)) (ways.base_of x (entity_in (form_seen e.form)))) (source_of loops writes e)) named
      ∙ ap (λ n. claims_at (program_seen tree) event n (source_of loops writes e)) (sym known)

  pub none_through : o ≡ None → claims_of (program_seen tree) event (source_of loops writes e) ≡ []
  none_through none = claims_through ∙ ap (λ n. claims_at (program_seen tree) event n (source_of loops writes e)) none

  module _ (leads : LeadsTo (memories_of (program_seen tree)) w) (k : Carrier) (carrier : IsCarrier w k) (m : ℕ) (is : o ≡ Some m) where
    declared : Declared (memories_of (program_seen tree)) w.memory m
    declared = found (memories_of (program_seen tree)) w.memory m (sym known ∙ is)

    memory_same : declared.memory ≡ leads.memory
    memory_same = some_same declared.memory leads.memory (sym declared.is ∙ leads.found)

    pub entry_through : slice_get (table_of (program_seen tree)) m ≡ Some (entry_of leads.memory)
    entry_through = declared.entry ∙ ap (λ (x : Memory). Some (entry_of x)) memory_same

    pub banks_through : length k.sources.items ≡ banks_of leads.memory.shape.dims
    banks_through = carrier.long leads.memory.shape.dims leads.steps

    all_through : claims_of (program_seen tree) event (source_of loops writes e) ≡ claims_from event (first_bank_of (table_of (program_seen tree)) m) (each_below (charge_through (program_seen tree) w (source_of loops writes e)) (length k.sources.items))
    all_through =
        claims_through
        ∙ (ap (λ n. claims_at (program_seen tree) event n (source_of loops writes e)) is
        ∙ (ap (λ x. claims_in (program_seen tree) event (first_bank_of (table_of (program_seen tree)) m) x (source_of loops writes e)) entry_through
        ∙ ap (claims_from event (first_bank_of (table_of (program_seen tree)) m))
        (counts_each (program_seen tree) leads.memory.shape.dims (source_of loops writes e) (banks_of leads.memory.shape.dims)
        ∙ (ap (λ x. each_below (count_on (program_seen tree) x leads.memory.shape.dims (source_of loops writes e)) (banks_of leads.memory.shape.dims)) named
        ∙ (each_same (count_on (program_seen tree) (Some w) leads.memory.shape.dims (source_of loops writes e)) (charge_through (program_seen tree) w (source_of loops writes e)) (banks_of leads.memory.shape.dims) (λ j i. refl)
        ∙ ap (each_below (charge_through (program_seen tree) w (source_of loops writes e))) (sym banks_through))))))

    pub base_through : (bases : List ℕ) (base : ℕ) → AreBases (table_of (program_seen tree)) bases → base ≡ get_or bases m base → base ≡ first_bank_of (table_of (program_seen tree)) m
    base_through bases base h here =
        let inside = memory_there (table_of (program_seen tree)) m (entry_of leads.memory) entry_through in
        here ∙ (index_found bases m base (base_there (table_of (program_seen tree)) bases m h inside) ∙ base_is (table_of (program_seen tree)) bases m h inside)

    pub bases_through : (bases : List ℕ) → AreBases (table_of (program_seen tree)) bases → m < length bases
    bases_through bases h = base_there (table_of (program_seen tree)) bases m h (memory_there (table_of (program_seen tree)) m (entry_of leads.memory) entry_through)

    pub slots_through : IsProgramTable (table_of (program_seen tree)) → (base : ℕ) → base ≡ first_bank_of (table_of (program_seen tree)) m → base + length k.sources.items ≤ 2097152
    slots_through h base at = slots_few (table_of (program_seen tree)) m (entry_of leads.memory) entry_through h base (length k.sources.items) leads.memory.shape.dims refl at banks_through

    pub counts_through : (base : ℕ) (counts : List ℕ) → base ≡ first_bank_of (table_of (program_seen tree)) m → counts ≡ each_below (charge_through (program_seen tree) w (source_of loops writes e)) (length k.sources.items) → claims_of (program_seen tree) event (source_of loops writes e) ≡ claims_from event base counts
    counts_through base counts at told = all_through ∙ (ap (λ n. claims_from event n (each_below (charge_through (program_seen tree) w (source_of loops writes e)) (length k.sources.items))) (sym at) ∙ ap (claims_from event base) (sym told))

    -- outside every unrolled loop there is one path, and one key
    module _ (dims : List Dim) (dims_are : dims ≡ w.is.shape.dims) (bank : ℕ) (reached : (v : Bool) → bank ≡ bank_at_path tree dims (source_of [] v e) []) where
      take_none : (s : ℕ) → ◌≡◌ {A = Path} (take s []) []
      take_none zero = refl
      take_none (suc s) = refl

      one_key : (b : Bool) → distinct_count same_path (map (key_of (all_bindings_of (program_seen tree)) (source_of [] writes e)) (cond b ([] ∷ []) [])) ≡ (if b then 1 else 0)
      one_key true = refl
      one_key false = refl

      key_here : (other : ℕ) → keys_in_group (program_seen tree) w (source_of [] writes e) [] other ≡ one_at bank other
      key_here other =
          ap (λ q. distinct_count same_path (map (key_of (all_bindings_of (program_seen tree)) (source_of [] writes e)) (cond (same_path q [] && (bank_named (program_seen tree) w (source_of [] writes e) [] == other)) ([] ∷ []) []))) (take_none w.shifts)
          ∙ (one_key (bank_named (program_seen tree) w (source_of [] writes e) [] == other)
          ∙ ap (λ n. if n == other then 1 else 0) (ap (λ ds. bank_reached (loops_in tree) ds (source_of [] writes e) [] (source_of [] writes e).element) (sym dims_are) ∙ sym (reached writes)))

      charge_here : (behind : ℕ) → behind < length k.sources.items → charge_through (program_seen tree) w (source_of [] writes e) behind ≡ carried_to k (one_at bank) behind
      charge_here behind inside =
          ap (λ q. sum_over (unique_keys same_path (q ∷ [])) (λ group. carried_by (map (λ s. s.is) w.steps) (keys_in_group (program_seen tree) w (source_of [] writes e) group) behind)) (take_none w.shifts)
          ∙ (only (carried_by (map (λ s. s.is) w.steps) (keys_in_group (program_seen tree) w (source_of [] writes e) []) behind)
          ∙ (ap (λ f. carried_by (map (λ s. s.is) w.steps) f behind) (fun_ext key_here) ∙ carrier.carries.each (one_at bank) behind inside))
        where
          only : (n : ℕ) → n + 0 ≡ n
          only n = omega arith

      pub one_through : loops ≡ [] → (base : ℕ) → base ≡ first_bank_of (table_of (program_seen tree)) m → claims_of (program_seen tree) event (source_of loops writes e) ≡ claims_from event base (each_below (carried_to k (one_at bank)) (length k.sources.items))
      one_through none base at =
          counts_through base (each_below (charge_through (program_seen tree) w (source_of loops writes e)) (length k.sources.items)) at refl
          ∙ ap (claims_from event base)
          (ap (λ ls. each_below (charge_through (program_seen tree) w (source_of ls writes e)) (length k.sources.items)) none
          ∙ each_same (charge_through (program_seen tree) w (source_of [] writes e)) (carried_to k (one_at bank)) (length k.sources.items) charge_here)

-- Finding the view.

no_memory : (ms : List Memory) (entity : Option ℕ) → number_in ms entity ≡ None → memory_in ms entity ≡ None
no_memory [] entity e = refl
no_memory (m ∷ ms) entity e = by (same_entity m.name.entity entity) e (no_memory ms entity)
  where
    inner : (o : Option ℕ) → option_map suc o ≡ None → o ≡ None
    inner None e = refl
    inner (Some n) e = cc

    by : (b : Bool) → (if b then Some 0 else option_map suc (number_in ms entity)) ≡ None → (number_in ms entity ≡ None → memory_in ms entity ≡ None) → (if b then Some m else memory_in ms entity) ≡ None
    by true e rest = cc
    by false e rest = rest (inner (number_in ms entity) e)

pub way_leads : (ms : List Memory) (ls : List ways.Led) (entity : Option ℕ) (w : Way) → AllByRecursion (λ l. LeadsTo ms l.way) ls → way_in ls entity ≡ Some w → LeadsTo ms w
way_leads ms [] entity w h is = cc
way_leads ms (l ∷ ls) entity w h is = by (same_entity l.entity entity) is (λ f. way_leads ms ls entity w h.1 f)
  where
    by : (b : Bool) → (if b then Some l.way else way_in ls entity) ≡ Some w → (way_in ls entity ≡ Some w → LeadsTo ms w) → LeadsTo ms w
    by true f rest = subst (λ (y : Way). LeadsTo ms y) (some_same l.way w f) h.0
    by false f rest = rest f

-- what is no memory leads where its view does
pub other_way_to : (p : Program) (entity : Option ℕ) (w : Option Way) → number_in (memories_of p) entity ≡ None → way_in (ways_of p) entity ≡ w → way_to p entity ≡ w
other_way_to p entity w none e = ap (λ o. way_unless o (way_in (ways_of p) entity)) (no_memory (memories_of p) entity none) ∙ (ap (way_unless None) e ∙ as_it_is w)
  where
    as_it_is : (o : Option Way) → way_unless None o ≡ o
    as_it_is None = refl
    as_it_is (Some x) = refl

module _ (p : Program) (ways_are : List KeptLed) (carriers : List Carrier) (these : map led_seen ways_are ≡ ways_of p) (so : AreEach ways_are carriers) (all : AllByRecursion (λ l. LeadsTo (memories_of p) l.way) (ways_of p)) (entity : Option ℕ) (other : number_in (memories_of p) entity ≡ None) (o : Option ℕ) (finds : FindsPlace ways_are entity o) where
  pub unfound : o ≡ None → way_to p entity ≡ None
  unfound none = other_way_to p entity None other (ap (λ ls. way_in ls entity) (sym these) ∙ subst (λ (x : Option ℕ). FindsPlace ways_are entity x) none finds)

  module _ (place : ℕ) (is : o ≡ Some place) where
    at : FindsPlace ways_are entity (Some place)
    at = subst (λ (x : Option ℕ). FindsPlace ways_are entity x) is finds

    pub led_within : place < length ways_are
    led_within = led_there ways_are place at.0 at.1.0

    pub each_within : (each : List Carrier) → each ≡ carriers → place < length each
    each_within each same = subst (λ (cs : List Carrier). place < length cs) (sym same) (subst (λ (n : ℕ). place < n) (sym (each_many ways_are carriers so)) led_within)

    module _ (w : kept.KeptWay) (there : Some w ≡ way_there ways_are (Some place)) where
      way_same : w ≡ at.0.way
      way_same = some_same w at.0.way (there ∙ ap (option_map (λ (l : KeptLed). l.way)) at.1.0)

      view_in : way_in (ways_of p) entity ≡ Some (way_seen w)
      view_in = ap (λ ls. way_in ls entity) (sym these) ∙ (at.1.1 ∙ ap (λ (x : kept.KeptWay). Some (way_seen x)) (sym way_same))

      pub view_named : way_to p entity ≡ Some (way_seen w)
      view_named = other_way_to p entity (Some (way_seen w)) other view_in

      pub view_leads : LeadsTo (memories_of p) (way_seen w)
      view_leads = way_leads (memories_of p) (ways_of p) entity (way_seen w) all view_in

      pub view_carrier : (each : List Carrier) (k : Carrier) → each ≡ carriers → k ≡ get_or each place k → IsCarrier (way_seen w) k
      view_carrier each k shown_are k_is =
          subst (λ (x : kept.KeptWay). IsCarrier (way_seen x) k) (sym way_same) (carrier_is ways_are carriers place at.0 k so at.1.0 (k_is ∙ ap (λ cs. get_or cs place k) shown_are))
