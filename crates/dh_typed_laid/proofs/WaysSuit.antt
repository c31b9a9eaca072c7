-- The way of what an access names suits: its views are those of the plan, one behind the other, and its variables have
-- their registers.
use Rattle.std.proofs.Common.{◌≡◌, ℕ, ◌<◌, Bool, List, [], ◌∷◌, length, map, Option, Some, None, refl, ap, sym, subst}
use Rattle.std.specs.List.{AllByRecursion}
use Rattle.dh_value.specs.Words.{IsInteger}
use Rattle.dh_tree.specs.declared.tables.Dim.{Dim}
use Rattle.dh_tree.specs.declared.tables.MemEntry.{MemEntry}
use Rattle.dh_tree.specs.declared.trees.counters.Counter.{Counter}
use Rattle.dh_tree.specs.declared.trees.expressions.Ref.{Ref}
use Rattle.dh_tree.specs.Elements.{dims_at}
use Rattle.dh_tree.specs.Memories.{table_of}
use Rattle.dh_tree.specs.Seen.{program_seen}
use Rattle.dh_tree.specs.ViewElements.{offsets_needed}
use Rattle.dh_meaning.specs.CoreOf.{memory_of, way_of}
use Rattle.dh_meaning.specs.Ways.{Hidden, WayStep, Way, hidden_in, step_of}
use Rattle.dh_ways.specs.Leading.{StepsLead, next_dims, offsets_on}
use Rattle.dh_plan.specs.Correspondence.{Round}
use Rattle.dh_code.specs.Slots.{held_at}
use Rattle.dh_expressions.specs.declared.scenes.Around.{Around}
use Rattle.dh_expressions.specs.declared.scenes.Scene.{Scene}
use Rattle.dh_expressions.specs.declared.scenes.Through.{Through}
use Rattle.dh_expressions.specs.Evaluated.{AreViews, counter_of, known_in}
use Rattle.dh_expressions.specs.Named.{first_view, number_of_parent}
use Rattle.dh_formed.specs.Formed.{FormedBlock, HiddenSuits, StepsSuit, VariableSuits, WaySuits}
use Rattle.dh_commands.specs.LanesRun.{lane_of, paths_counted}
use Rattle.dh_blocks.specs.SoundTerms.{IsSoundHidden, IsSoundWay, kept_name}
use Rattle.dh_typed_laid.specs.SuitingBlocks.{NamedHere, StandsSo, WayHere}
use Rattle.dh_typed_laid.proofs.NamesSuit.{name_suits}

-- Steps.

-- each takes what its view needs
abbrev AllNeed : List WayStep → Type 0
AllNeed [] = Unit {0}
AllNeed (s ∷ ss) = (s.offsets ≡ offsets_needed s.is.sort s.is.parent.dims) × AllNeed ss

heads : (s t : WayStep) (ss ts : List WayStep) → s ∷ ss ≡ t ∷ ts → s ≡ t
heads s t ss ts e = cc

tails : (s t : WayStep) (ss ts : List WayStep) → s ∷ ss ≡ t ∷ ts → ss ≡ ts
tails s t ss ts e = cc

all_need : (ss : List WayStep) → map step_of (map (λ (s : WayStep). s.is) ss) ≡ ss → AllNeed ss
all_need [] e = tt
all_need (s ∷ ss) e =
    (sym (ap (λ (x : WayStep). x.offsets) (heads (step_of s.is) s (map step_of (map (λ (x : WayStep). x.is) ss)) ss e)), all_need ss (tails (step_of s.is) s (map step_of (map (λ (x : WayStep). x.is) ss)) ss e))

steps_suit : (x : FormedBlock) (through : List Through) (memory first : ℕ) (ss : List WayStep) → AreViews through x.plan.views first ss → StepsLead ss (dims_at x.plan.table memory) → AllNeed ss → StepsSuit x through memory first ss (offsets_on ss) (next_dims ss (dims_at x.plan.table memory))
steps_suit x through memory first [] are lead need = (refl, refl)
steps_suit x through memory first (s ∷ ss) are lead need = (
  (are.0, (refl, need.0)),
  (
    offsets_on ss,
    (refl, subst (λ (ds : List Dim). StepsSuit x through memory (number_of_parent through first) ss (offsets_on ss) ds) (sym lead.1.0) (steps_suit x through memory (number_of_parent through first) ss are.1 lead.1.1 need.1)),
  ),
)

-- Ways.

module _ (x : FormedBlock) (scene : Scene) (count : ℕ) (around : Around) (rounds : List Round) (touched : ℕ → Bool) (stands : StandsSo x scene count around) where
  abbrev table : List MemEntry
  table = table_of (program_seen scene.program.now)

  -- a variable that keeps an offset
  hidden_suits : (r : Ref) (h : Hidden) → IsSoundHidden (known_in scene) table (NamedHere x scene around rounds touched) r h → IsInteger h.kind → (n : ℕ) → n < paths_counted around → HiddenSuits x scene (lane_of around n) h
  hidden_suits r h s whole n l =
      let none : counter_of scene h.entity ≡ None = stands.plain h.entity s.plain in
      record {
        integer = whole;
        counter = none;
        register = subst (λ (o : Option Counter). VariableSuits x o (held_at scene.held.now h.entity) (lane_of around n) h.kind) none (name_suits x scene count around stands rounds touched (kept_name h) h.kind s.named n l);
      }

  all_hidden : (r : Ref) (hs : List Hidden) → AllByRecursion (λ (h : Hidden). IsSoundHidden (known_in scene) table (NamedHere x scene around rounds touched) r h) hs → AllByRecursion (λ (h : Hidden). IsInteger h.kind) hs
      → (n : ℕ) → n < paths_counted around → AllByRecursion (HiddenSuits x scene (lane_of around n)) hs
  all_hidden r [] s whole n l = tt
  all_hidden r (h ∷ hs) s whole n l = (hidden_suits r h s.0 whole.0 n l, all_hidden r hs s.1 whole.1 n l)

  pub way_suits : (r : Ref) → IsSoundWay (known_in scene) table (NamedHere x scene around rounds touched) r → (n : ℕ) → n < paths_counted around
      → WaySuits x scene (lane_of around n) (memory_of (known_in scene) r) (first_view scene r) (way_of (known_in scene) r)
  way_suits r s n l = by (way_of (known_in scene) r) refl s
    where
      by : (o : Option Way) → way_of (known_in scene) r ≡ o → AllByRecursion (λ (h : Hidden). IsSoundHidden (known_in scene) table (NamedHere x scene around rounds touched) r h) (hidden_in o)
          → WaySuits x scene (lane_of around n) (memory_of (known_in scene) r) (first_view scene r) o
      by None e h = tt
      by (Some w) e h =
          let here : WayHere table (memory_of (known_in scene) r) w = stands.ways r w e in (
            all_hidden r w.hidden h here.integers n l,
            subst (λ (ds : List Dim). StepsSuit x scene.through.now (memory_of (known_in scene) r) (first_view scene r) w.steps (length w.hidden) ds) here.first
                (subst (λ (k : ℕ). StepsSuit x scene.through.now (memory_of (known_in scene) r) (first_view scene r) w.steps k (next_dims w.steps (dims_at table (memory_of (known_in scene) r)))) (sym here.keeps.many)
                (subst (λ (t : List MemEntry). StepsSuit x scene.through.now (memory_of (known_in scene) r) (first_view scene r) w.steps (offsets_on w.steps) (next_dims w.steps (dims_at t (memory_of (known_in scene) r)))) stands.holds.table
                (steps_suit x scene.through.now (memory_of (known_in scene) r) (first_view scene r) w.steps (stands.views r w e).views_are
                (subst (λ (t : List MemEntry). StepsLead w.steps (dims_at t (memory_of (known_in scene) r))) (sym stands.holds.table) here.steps) (all_need w.steps here.keeps.each)))),
          )
