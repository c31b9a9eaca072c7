-- That what the passes tell of a program makes it one that the interpreter can run.
use Rattle.std.specs.Prelude.{◌≡◌, ◌≤◌, [], None}
use Rattle.dh_tree.specs.Breaches.{KeepsNames}
use Rattle.dh_tree.specs.Excesses.{copies_excess}
use Rattle.dh_tree.specs.Indices.{index_breaches_of}
use Rattle.dh_tree.specs.KindBreaches.{KeepsKinds}
use Rattle.dh_tree.specs.Kinds.{HasKinds}
use Rattle.dh_tree.specs.Memories.{table_of}
use Rattle.dh_tree.specs.NameCounts.{names_declared}
use Rattle.dh_tree.specs.PlainTrees.{Program}
use Rattle.dh_tree.specs.Ready.{most_tokens}
use Rattle.dh_tree.specs.Resolved.{HasEntities}
use Rattle.dh_tree.specs.Shapes.{IsProgramTable}
use Rattle.dh_tree.specs.TextNumbers.{HasTextNumbers}
use Rattle.dh_tree.specs.ViewBreaches.{view_breaches_of}
use Rattle.dh_tree.specs.Widths.{HasWidths}
use Rattle.dh_tree.specs.Forms.{unbuilt_forms}

-- What is needed for a program to be run: the parser tells the widths, the operators of reducers, the bounds of loops and
-- how many names there are, the pass over forms that no call is there, the pass over names the names and their entities,
-- that over kinds the kinds, that over shapes the indices, bounds and views, that over limits the copies; and the table of
-- memories keeps the rules and the limits.
pub record TellsEnough (p : Program) : Type 0 where
  pub widths : HasWidths p
  pub numbers : HasTextNumbers p.body
  pub declared : names_declared p ≤ most_tokens
  pub built : unbuilt_forms p ≡ []
  pub names : KeepsNames p
  pub entities : HasEntities p
  pub kinds : HasKinds p
  pub suits : KeepsKinds p
  pub indices : index_breaches_of p ≡ []
  pub views : view_breaches_of p ≡ []
  pub table : IsProgramTable (table_of p)
  pub copies : copies_excess 1 p.body ≡ None
