use Rattle.std.specs.Prelude.{◌≡◌}
use Rattle.dh_tree.specs.Seen.{declared_seen}
use Rattle.dh_base.proofs.InPlace.{Unvisited, SoFar}
use Rattle.dh_names.proofs.ItemsDone.{decl_step, decl_made}
use Rattle.dh_names.proofs.programs.number_decls.Given as goal

abbrev pub invariant-loop-decl : goal.invariant-loop-decl
invariant-loop-decl l = record {
  unvisited : Unvisited l.initial.decl-items l.decl-items l.decl-index;
  so : SoFar declared_seen decl_step decl_made l.initial.decl-items l.decl-items l.decl-index 0 l.number;
  number : l.number ≡ l.decl-index;
}
