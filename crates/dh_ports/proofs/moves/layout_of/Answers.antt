use Rattle.std.proofs.Common.{List, sym, ◌∙◌, subst}
use Rattle.std.specs.Prelude.{Vec}
use Rattle.std.specs.Global.{Global}
use Rattle.dh_tree.specs.declared.tables.MemEntry.{MemEntry}
use Rattle.dh_tree.specs.declared.trees.counters.Counter.{Counter}
use Rattle.dh_tree.specs.Memories.{memories_of}
use Rattle.dh_tree.specs.Seen.{program_seen}
use Rattle.dh_meaning.specs.Ways.{ways_of}
use Rattle.dh_ports.specs.Claims.{AreBases}
use Rattle.dh_ports.specs.Layouts.{AreScopesNoted, AreScopesWhere}
use Rattle.dh_ports.proofs.LayoutFacts.{follow_all}
use Rattle.dh_ports.proofs.moves.layout_of.Goals as goal

pub carriers_of-requires : goal.carriers_of-requires
carriers_of-requires c =
    let p = program_seen c.args.typed.now in
    follow_all (memories_of p) c.in_ok-ways.ways (ways_of p) c.in_ok-ways.ensures.0 c.requires.leads

pub returns : goal.returns
returns c =
    let p = program_seen c.args.typed.now in
    record {
      bases = subst (λ (table : List MemEntry). AreBases table c.in_ok-bases.bases.items) (c.as_slice.ensures ∙ c.memories.ensures) c.in_ok-bases.ensures;
      rounds = c.requires.rounds;
      scopes = subst (λ (rounds : List (Vec Counter Global)). AreScopesWhere p rounds c.declare_views.new.scopes.items) c.as_slice-2.ensures.value
          (c.in_ok-declare_views.ensures p c.in_ok-ways.ensures.0 (c.as_slice-variables.ensures ∙ c.in_ok-ways.ensures.1) (subst (λ (rounds : List (Vec Counter Global)). AreScopesNoted p rounds c.args.nests.scopes.items) (sym c.as_slice-2.ensures.value) c.requires.scopes));
      ways = c.in_ok-ways.ensures.0;
      carriers = c.in_ok-carriers.ensures;
    }
