-- What the walk over a whole program tells, from the walk's own facts on.
use Rattle.std.proofs.Common.{◌≡◌, ℕ, [], List}
use Rattle.std.specs.Prelude.{Option}
use Rattle.dh_tree.specs.declared.trees.commands.Command.{Command}
use Rattle.dh_tree.specs.Numbers.{IsNumbered}
use Rattle.dh_tree.specs.PlainTrees.{Program}
use Rattle.dh_tree.specs.Seen.{action_seen}
use Rattle.dh_meaning.specs.CoreOf.{known_of}
use Rattle.dh_events.specs.Stages.{stages_in}
use Rattle.dh_events.specs.Tables.{table_at}
use Rattle.dh_lengths.specs.declared.leads.Leads.{Leads}
use Rattle.dh_lengths.specs.declared.lengths.PhaseWalk.{PhaseWalk}
use Rattle.dh_lengths.specs.LedBy.{IsLedBy}
use Rattle.dh_lengths.specs.PhaseBlocks.{lengths_of}
use Rattle.dh_lengths.specs.PhaseWalks.{Closes, WalksCommand}
use Rattle.dh_lengths.specs.SharedReads.{TellsShares}
use Rattle.dh_lengths.proofs.PhaseWalking.{IsBegun, all_told}

pub walk_told : (ways : Leads) (p : Program) (first : ℕ) (before stages_are : List ℕ) (shares : List (Option ℕ)) (w0 w1 w2 : PhaseWalk) (body : Command) → WalksCommand ways stages_are w0 w1 body → Closes w1 w2 → p.body ≡ action_seen body → IsNumbered first p.body → before ≡ []
    → table_at stages_are ≡ stages_in (action_seen body) (table_at before) → IsLedBy ways (known_of p) → TellsShares p shares → IsBegun w0 shares → w2.lengths.items ≡ lengths_of p
walk_told ways p first before stages_are shares w0 w1 w2 body walks closes same numbered_from none counted led tells b = all_told {ways = ways} p first before stages_are shares w0 w1 w2 body same numbered_from none counted led tells b walks closes
