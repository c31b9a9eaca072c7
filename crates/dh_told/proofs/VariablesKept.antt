-- Each variable has its registers in the plan, of its kind, and no other has these.
use Rattle.std.proofs.Common.{◌≡◌, ◌⊎◌, inl, inr, ℕ, zero, suc, ◌+◌, ◌*◌, ◌<◌, ◌≤◌, ◌^◌, Bool, true, false, if◌then◌else◌, List, [], ◌∷◌, ◌++◌, length, Option, Some, refl, ap, sym, ◌∙◌, subst, arith}
use Rattle.std.specs.Prelude.{slice_get}
use Rattle.std.proofs.lemmas.Bool.{cases_lt}
use Rattle.std.proofs.lemmas.Option.{slice_get_within}
use Rattle.dh_value.specs.declared.kinds.Kind.{Kind}
use Rattle.dh_tree.specs.declared.trees.counters.Counter.{Counter}
use Rattle.dh_tree.specs.Memories.{same_entity}
use Rattle.dh_tree.specs.PlainTrees.{Program}
use Rattle.dh_tree.specs.Seen.{program_seen}
use Rattle.dh_meaning.specs.Paths.{Path}
use Rattle.dh_code.specs.declared.places.VariableSlots.{VariableSlots}
use Rattle.dh_meaning.specs.Ways.{all_entities_of}
use Rattle.dh_ways.specs.HiddenVariables.{hidden_variables}
use Rattle.dh_ways.proofs.HiddenApart.{are_counted}
use Rattle.dh_code.specs.Declarations.{Declaration, all_declarations_of, all_held, declaration_in, declarations, declared_factors, hidden_declarations, placing_of, slots_counted, slots_of}
use Rattle.dh_code.specs.Placed.{AreFew}
use Rattle.dh_code.specs.Ranks.{IsPath, copies_in, rank_of}
use Rattle.dh_code.specs.Slots.{IsPlacing, held_at, slot_of}
use Rattle.dh_code.proofs.KindsHeld.{length_held}
use Rattle.dh_sem.specs.Runnable.{IsRunnable}
use Rattle.dh_sem.proofs.FirstRun.{placed_apart}
use Rattle.dh_plan.specs.Blocks.{kind_at}
use Rattle.dh_runnable.proofs.ProgramsRun.{ready_runs}
use Rattle.dh_expressions.specs.declared.scenes.Scene.{Scene}
use Rattle.dh_blocks.specs.SlotsOfScene.{placing_in, slots_in}
use Rattle.dh_blocks.proofs.PathNumbers.{rank_small}
use Rattle.dh_blocks.proofs.VariablesPlaced.{slot_facts}
use Rattle.dh_gathering.specs.Registers.{IsRegisterKind, first_among}
use Rattle.dh_gathering.proofs.KindsOfRegisters.{first_at}
use Rattle.dh_told.specs.ScenesKnown.{AreHeldInOrder, HaveTheirKinds, ReadyScenesHold}

-- Places in order.

begins_at : (ds : List Declaration) (count from n : ℕ) → first_among (all_held ds count from n) (slots_counted ds count from n) 0 ≡ count
begins_at ds count from zero = refl
begins_at ds count from (suc n) = refl

-- the registers of an entity end where those of the next begin
next_begins : (ds : List Declaration) (count from n e : ℕ) → e < n
    → first_among (all_held ds count from n) (slots_counted ds count from n) (suc e) ≡ (held_at (all_held ds count from n) e).first + copies_in (declared_factors (declaration_in ds (from + e)))
next_begins ds count from zero e l = absurd (none e l)
  where
    none : (n : ℕ) → n < 0 → ⊥
    none n e = omega (arith, e)
next_begins ds count from (suc n) zero l =
    begins_at ds (count + copies_in (declared_factors (declaration_in ds from))) (suc from) n ∙ ap (λ k. count + copies_in (declared_factors (declaration_in ds k))) (none from)
  where
    none : (n : ℕ) → n ≡ n + 0
    none n = omega arith
next_begins ds count from (suc n) (suc e) l =
    next_begins ds (count + copies_in (declared_factors (declaration_in ds from))) (suc from) n e (less e n l)
    ∙ ap (λ k. (held_at (all_held ds (count + copies_in (declared_factors (declaration_in ds from))) (suc from) n) e).first + copies_in (declared_factors (declaration_in ds k))) (moved from e)
  where
    less : (a b : ℕ) → suc a < suc b → a < b
    less a b e = omega (arith, e)

    moved : (a b : ℕ) → suc a + b ≡ a + suc b
    moved a b = omega arith

-- each register is one of an entity's
record IsOfEntity (held : List VariableSlots) (count n register : ℕ) : Type 0 where
  pub entity : ℕ
  pub there : entity < n
  pub from : first_among held count entity ≤ register
  pub to : register < first_among held count (suc entity)

of_entity : (ds : List Declaration) (count from n register : ℕ) → count ≤ register → register < slots_counted ds count from n → IsOfEntity (all_held ds count from n) (slots_counted ds count from n) n register
of_entity ds count from zero register low high = absurd (none count register low high)
  where
    none : (a b : ℕ) → a ≤ b → b < a → ⊥
    none a b l m = omega (arith, l, m)
of_entity ds count from (suc n) register low high = by (cases_lt register (count + copies_in (declared_factors (declaration_in ds from)))) (λ l. of_entity ds (count + copies_in (declared_factors (declaration_in ds from))) (suc from) n register l high)
  where
    by : (register < count + copies_in (declared_factors (declaration_in ds from))) ⊎ (count + copies_in (declared_factors (declaration_in ds from)) ≤ register)
        → (count + copies_in (declared_factors (declaration_in ds from)) ≤ register
        → IsOfEntity (all_held ds (count + copies_in (declared_factors (declaration_in ds from))) (suc from) n) (slots_counted ds (count + copies_in (declared_factors (declaration_in ds from))) (suc from) n) n register)
        → IsOfEntity (all_held ds count from (suc n)) (slots_counted ds count from (suc n)) (suc n) register
    by (inl l) later = record {
      entity = 0;
      there = omega arith;
      from = low;
      to = subst (λ (k : ℕ). register < k) (sym (begins_at ds (count + copies_in (declared_factors (declaration_in ds from))) (suc from) n)) l;
    }
    by (inr l) later =
        let w = later l in
        let there = w.there in
        record { entity = suc w.entity; there = omega (arith, there); from = w.from; to = w.to }

-- Few copies.

few_in : (ds : List Declaration) (e : ℕ) → AreFew ds → copies_in (declared_factors (declaration_in ds e)) ≤ 256
few_in [] e h = omega arith
few_in (d ∷ ds) e h = by (same_entity d.entity (Some e)) (few_in ds e h.1)
  where
    by : (t : Bool) → copies_in (declared_factors (declaration_in ds e)) ≤ 256 → copies_in (declared_factors (if t then Some d else declaration_in ds e)) ≤ 256
    by true later = h.0
    by false later = later

few_counted : (ds : List Declaration) (count from n : ℕ) → AreFew ds → slots_counted ds count from n ≤ count + n * 256
few_counted ds count from zero h = omega arith
few_counted ds count from (suc n) h =
    let own = few_in ds from h in
    let later = few_counted ds (count + copies_in (declared_factors (declaration_in ds from))) (suc from) n h in
    sum (copies_in (declared_factors (declaration_in ds from))) (slots_counted ds (count + copies_in (declared_factors (declaration_in ds from))) (suc from) n) own later
  where
    sum : (copies all : ℕ) → copies ≤ 256 → all ≤ count + copies + n * 256 → all ≤ count + suc n * 256
    sum copies all own later = omega (arith, own, later)

few_both : (ds es : List Declaration) → AreFew ds → AreFew es → AreFew (ds ++ es)
few_both [] es h k = k
few_both (d ∷ ds) es h k = (h.0, few_both ds es h.1 k)

counted_small : (p : Program) → IsRunnable p → slots_of p < 2 ^ 64
counted_small p r =
    let all = few_counted (all_declarations_of p) 0 0 (all_entities_of p) (few_both (declarations [] p.body) (hidden_declarations p) r.copies r.hidden) in
    small (all_entities_of p) (slots_of p) all r.entities
  where
    small : (n all : ℕ) → all ≤ 0 + n * 256 → n ≤ 2 ^ 23 → all < 2 ^ 64
    small n all h few = omega (arith, h, few)

-- Kinds.

pub kind_there : (kinds : List Kind) (r : ℕ) (k : Kind) → slice_get kinds r ≡ Some k → kind_at kinds r ≡ k
kind_there [] r k e = absurd cc
kind_there (x ∷ kinds) zero k e = cc
kind_there (x ∷ kinds) (suc r) k e = kind_there kinds r k e

module _ (scene : Scene) (count : ℕ) (order : AreHeldInOrder scene count) where
  abbrev p : Program
  p = program_seen scene.program.now

  abbrev ds : List Declaration
  ds = all_declarations_of (program_seen scene.program.now)

  abbrev many : ℕ
  many = all_entities_of (program_seen scene.program.now)

  first_is : (e : ℕ) → first_among scene.held.now count e ≡ first_among (all_held ds 0 0 many) (slots_counted ds 0 0 many) e
  first_is e = ap (λ (held : List VariableSlots). first_among held count e) order.held ∙ ap (λ k. first_among (all_held ds 0 0 many) k e) order.count_is

  pub long : length scene.held.now ≡ many
  long = ap (λ (held : List VariableSlots). length held) order.held ∙ length_held ds 0 0 many

  -- those of the program's own entities are among them
  pub holds_own : length (program_seen scene.program.now).entities ≤ length scene.held.now
  holds_own = least (length scene.held.now) many (length (program_seen scene.program.now).entities) (length (hidden_variables (program_seen scene.program.now))) long (are_counted (program_seen scene.program.now))
    where
      least : (a b c d : ℕ) → a ≡ b → b ≡ c + d → c ≤ a
      least a b c d e f = omega (arith, e, f)

  -- the registers of variables are among those that are there
  is_there : (registers : List Kind) → HaveTheirKinds scene count registers → (r : ℕ) → r < count → r < length registers
  is_there registers kinds r below =
      let w = of_entity ds 0 0 many r (omega arith) (subst (λ k. r < k) order.count_is below) in
      let k = kinds w.entity r (subst (λ (n : ℕ). w.entity < n) (sym long) w.there) (subst (λ (n : ℕ). n ≤ r) (sym (first_is w.entity)) w.from) (subst (λ (n : ℕ). r < n) (sym (first_is (suc w.entity))) w.to) in
      slice_get_within registers r k.0 k.1.0

  placed : IsPlacing (placing_in scene) count
  placed =
      subst (λ (held : List VariableSlots). IsPlacing (record { held = held; factors = (placing_of p).factors }) count) (sym order.held)
      (subst (λ (n : ℕ). IsPlacing (placing_of p) n) (sym order.count_is) (placed_apart p))

  -- a register is one of its entity's
  slot_low : (e : ℕ) (path : Path) (r : ℕ) → e < length scene.held.now → r ≡ slot_of (placing_in scene) e path → first_among scene.held.now count e ≤ r
  slot_low e path r there is = low (held_at scene.held.now e).first (first_among scene.held.now count e) r (rank_of ((placing_in scene).factors e) path) (first_at scene.held.now count e there) is
    where
      low : (a b c d : ℕ) → a ≡ b → c ≡ a + d → b ≤ c
      low a b c d e f = omega (arith, e, f)

  slot_high : (e : ℕ) (path : Path) (r : ℕ) → e < length scene.held.now → IsPath ((placing_in scene).factors e) path → r ≡ slot_of (placing_in scene) e path → r < first_among scene.held.now count (suc e)
  slot_high e path r there is_path is =
      subst (λ (n : ℕ). r < n) (sym (first_is (suc e) ∙ next_begins ds 0 0 many e (subst (λ (n : ℕ). e < n) long there)))
      (subst (λ (held : List VariableSlots). r < (held_at held e).first + copies_in (declared_factors (declaration_in ds (0 + e)))) order.held
      (subst (λ (k : ℕ). r < (held_at scene.held.now e).first + copies_in (declared_factors (declaration_in ds k))) (front e)
      (high (held_at scene.held.now e).first (rank_of ((placing_in scene).factors e) path) r (copies_in ((placing_in scene).factors e)) is (rank_small ((placing_in scene).factors e) path is_path))))
    where
      front : (k : ℕ) → k ≡ 0 + k
      front k = omega arith

      high : (a b c d : ℕ) → c ≡ a + b → b < d → c < a + d
      high a b c d e f = omega (arith, e, f)

  kind_is : (registers : List Kind) → HaveTheirKinds scene count registers → (e : ℕ) (path : Path) (r : ℕ) → slots_in scene e path ≡ Some r → kind_at registers r ≡ (held_at scene.held.now e).kind
  kind_is registers kinds e path r at =
      let s = slot_facts scene e path r at in
      let k = kinds e r s.there (slot_low e path r s.there s.slot) (slot_high e path r s.there s.path s.slot) in
      kind_there registers r k.0 k.1.0 ∙ subst (λ (o : Option Counter). IsRegisterKind o (held_at scene.held.now e).kind k.0) s.no_counter k.1.1

below_all : (n m : ℕ) → ((r : ℕ) → r < n → r < m) → n ≤ m
below_all zero m h = omega arith
below_all (suc n) m h = h n (omega arith)

pub scenes_hold : ReadyScenesHold
scenes_hold scene plan count ready order views scopes table kinds = record {
  table = table;
  views = λ r w way. (views r w way).views_are;
  scopes = scopes;
  placing = placed scene count order;
  small = subst (λ (n : ℕ). n < 2 ^ 64) (sym order.count_is) (counted_small (program_seen scene.program.now) (ready_runs (program_seen scene.program.now) ready));
  within = below_all count (length plan.registers) (λ r below. is_there scene count order plan.registers kinds r below);
  kinds = λ e path r at. kind_is scene count order plan.registers kinds e path r at;
}
