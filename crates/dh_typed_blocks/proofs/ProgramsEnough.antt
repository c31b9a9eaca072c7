-- What the interpreter asks is told of a ready program.
use Rattle.std.specs.Prelude.{length}
use Rattle.dh_base.specs.declared.limits.Limit.TheVariants as limit
use Rattle.dh_tree.specs.Elements.{banks_of}
use Rattle.dh_tree.specs.Excesses.{copies_excess, first_above}
use Rattle.dh_tree.specs.Memories.{Memory, memories_of}
use Rattle.dh_tree.specs.PlainTrees.{Program}
use Rattle.dh_tree.specs.Ready.{IsReady, most_tokens}
use Rattle.dh_tree.proofs.ProgramTables.{program_table}
use Rattle.dh_runnable.specs.ReadyRuns.{TellsEnough}
use Rattle.dh_runnable.proofs.TurnsCounted.{first_within, second_within}

pub enough : (q : Program) → IsReady q → TellsEnough q
enough q r =
    let dims = second_within (first_above limit.Dimensions (λ (m : Memory). length m.shape.dims) (memories_of q)) _ r.limits in
    let banks = second_within (first_above limit.Banks (λ (m : Memory). banks_of m.shape.dims) (memories_of q)) _ dims in
    let ports = second_within (first_above limit.Ports (λ (m : Memory). m.shape.ports) (memories_of q)) _ banks in
    record {
      widths = r.of_text.widths;
      numbers = r.of_text.numbers;
      declared = r.of_text.names;
      built = r.built;
      names = r.names;
      entities = r.entities;
      kinds = r.kinds;
      suits = r.suits;
      indices = r.indices;
      views = r.views;
      table = program_table q most_tokens r.of_text r.names r.built r.indices r.limits r.placements;
      copies = first_within (copies_excess 1 q.body) _ ports;
    }
