-- What names lead to in a ready program: a row is of a memory that is named directly; and the way of a view leads to its
-- memory, and keeps as many offsets as its views take, in variables of integer kinds.
use Rattle.std.proofs.Common.{◌≡◌, ℕ, List, length, Option, Some, ap, sym, ◌∙◌, subst}
use Rattle.dh_value.specs.Words.{IsInteger}
use Rattle.dh_tree.specs.declared.tables.Dim.{Dim}
use Rattle.dh_tree.specs.declared.trees.expressions.Ref.{Ref}
use Rattle.dh_tree.specs.Elements.{dims_at, entry_dims}
use Rattle.dh_tree.specs.Memories.{memories_of, memory_in, number_in, table_of}
use Rattle.dh_tree.specs.PlainTrees.{Program}
use Rattle.dh_tree.specs.Ready.{IsReady}
use Rattle.dh_tree.specs.Seen.{program_seen}
use Rattle.dh_tree.specs.Shapes.{IsProgramTable}
use Rattle.dh_tree.specs.ViewFactors.{factor_breaches_of}
use Rattle.dh_tree.specs.Views.{viewed_in}
use Rattle.dh_tree.proofs.EmptyLists.{first_none}
use Rattle.dh_meaning.specs.CoreOf.{Known, entity_number, known_of, memory_of, way_of}
use Rattle.dh_meaning.specs.Ways.{Hidden, Way, base_of, standings, way_in, way_to, ways_of}
use Rattle.dh_ways.specs.Leading.{LeadsTo, StepsLead, next_dims}
use Rattle.dh_sound.proofs.RowsDirect.{ready_direct}
use Rattle.dh_sound.proofs.ViewsBound.{hidden_hold}
use Rattle.dh_runnable.proofs.ElementsFound.{number_found}
use Rattle.dh_runnable.proofs.TermsSuited.{way_found}
use Rattle.dh_runnable.proofs.ViewsKnown.{AreGoodWays}
use Rattle.dh_runnable.proofs.ViewsLead.{good_ways}
use Rattle.dh_expressions.specs.declared.scenes.Scene.{Scene}
use Rattle.dh_expressions.specs.Evaluated.{known_in}
use Rattle.dh_blocks.specs.BlockTraced.{TellsWays}
use Rattle.dh_typed_blocks.proofs.OffsetsWhole.{hidden_whole, ready_offsets}
use Rattle.dh_typed_laid.specs.SuitingBlocks.{WayHere}
use Rattle.dh_used.specs.SourceSites.{RowsAreDirect}

pub ready_rows : (p : Program) → IsReady p → RowsAreDirect p
ready_rows p ready = ready_direct p ready

-- each way leads to a memory
pub way_leads : (p : Program) → IsReady p → IsProgramTable (table_of p) → (entity : Option ℕ) (w : Way) → way_to p entity ≡ Some w → LeadsTo (memories_of p) w
way_leads p ready table entity w e =
    (good_ways p (first_none (factor_breaches_of p) _ ready.views) table).lead entity w (way_found (memory_in (memories_of p) entity) (way_in (ways_of p) entity) w e)

-- the way of a name in the program
way_here : (p : Program) → IsReady p → IsProgramTable (table_of p) → (r : Ref) (w : Way) → way_to p r.entity ≡ Some w → WayHere (table_of p) (memory_of (known_of p) r) w
way_here p ready table r w e =
    let ways : AreGoodWays (known_of p) (viewed_in p) = good_ways p (first_none (factor_breaches_of p) _ ready.views) table in
    let led : way_in (ways_of p) r.entity ≡ Some w = way_found (memory_in (memories_of p) r.entity) (way_in (ways_of p) r.entity) w e in
    let leads : LeadsTo (memories_of p) w = way_leads p ready table r.entity w e in
    let at = number_found (memories_of p) w.memory leads.memory leads.found in
    let number : memory_of (known_of p) r ≡ at.number = ap (λ (o : Option Way). entity_number (number_in (memories_of p) (base_of o r.entity))) e ∙ ap entity_number at.is in
    let dims : dims_at (table_of p) (memory_of (known_of p) r) ≡ leads.memory.shape.dims = ap (dims_at (table_of p)) number ∙ ap entry_dims at.entry in
    record {
      own = leads.own;
      steps = subst (λ (ds : List Dim). StepsLead w.steps ds) (sym dims) leads.steps;
      first = ap (next_dims w.steps) dims ∙ leads.first;
      keeps = ways.keep r.entity w led;
      integers = hidden_hold p ready (λ (h : Hidden). IsInteger h.kind) (hidden_whole (length p.entities) (standings 0 p.body) (ready_offsets p ready)) r.entity w e;
    }

-- and so in a scene
pub ways_here : (scene : Scene) → IsReady (program_seen scene.program.now) → IsProgramTable (table_of (program_seen scene.program.now)) → TellsWays scene
    → (r : Ref) (w : Way) → way_of (known_in scene) r ≡ Some w → WayHere (table_of (program_seen scene.program.now)) (memory_of (known_in scene) r) w
ways_here scene ready table ways r w e =
    subst (λ (n : ℕ). WayHere (table_of (program_seen scene.program.now)) n w) (sym (ap (λ (known : Known). memory_of known r) ways))
    (way_here (program_seen scene.program.now) ready table r w (sym (ap (λ (known : Known). way_of known r) ways) ∙ e))
