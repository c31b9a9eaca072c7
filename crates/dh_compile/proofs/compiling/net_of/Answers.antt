use Rattle.std.specs.Prelude.{IfOk}
use Rattle.std.proofs.Common.{sym, subst}
use Rattle.dh_tree.specs.PlainTrees.{Program}
use Rattle.dh_tree.specs.Seen.{program_seen}
use Rattle.dh_lengths.specs.SharedReads.{TellsShares}
use Rattle.dh_plan.specs.Passes.{IsToCompile}
use Rattle.dh_inline.proofs.Flattened.{same_program}
use Rattle.dh_compile.specs.Compiled.{IsNetOfProgram}
use Rattle.dh_compile.proofs.compiling.net_of.Goals as goal

pub inline-flat-requires : goal.inline-flat-requires
inline-flat-requires c = c.requires.asked.ready

pub net_of_flat-requires-clause-asked : goal.net_of_flat-requires-clause-asked
net_of_flat-requires-clause-asked c =
    subst (λ (p : Program). IsToCompile p) (sym (same_program (program_seen c.args.program.now) _ c.requires.asked.ready c.inline-flat.ensures)) c.requires.asked

pub net_of_flat-requires-clause-shared : goal.net_of_flat-requires-clause-shared
net_of_flat-requires-clause-shared c =
    subst (λ (p : Program). TellsShares p c.args.shared.now) (sym (same_program (program_seen c.args.program.now) _ c.requires.asked.ready c.inline-flat.ensures)) c.requires.shared

pub returns : goal.returns
returns c =
    subst (λ (p : Program). IfOk c.net_of_flat.result (IsNetOfProgram p))
    (same_program (program_seen c.args.program.now) _ c.requires.asked.ready c.inline-flat.ensures) c.net_of_flat.ensures
