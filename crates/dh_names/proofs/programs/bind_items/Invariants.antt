use Rattle.std.specs.Prelude.{◌≡◌, ◌+◌, ◌≤◌, length}
use Rattle.dh_tree.specs.LeastBreach.{least_of}
use Rattle.dh_tree.specs.Scopes.{after_items}
use Rattle.dh_tree.specs.Breaches.{items_breaches}
use Rattle.dh_names.specs.Visible.{visible}
use Rattle.dh_names.specs.Programs.{left}
use Rattle.dh_names.proofs.programs.bind_items.Given as goal

abbrev pub invariant-loop : goal.invariant-loop
invariant-loop l = record {
  outer : l.names.outer ≡ l.initial.names.outer;
  count : l.done.0 + l.done.1 ≡ l.counter;
  memories : l.done.0 ≤ length l.decls;
  functions : l.done.1 ≤ length l.functions;
  names : after_items (visible l.names) (left l.decls l.functions l.done) ≡ after_items (visible l.initial.names) (left l.decls l.functions (0, 0));
  least : least_of l.least (items_breaches (visible l.names) (left l.decls l.functions l.done)) ≡ least_of l.initial.least (items_breaches (visible l.initial.names) (left l.decls l.functions (0, 0)));
}
