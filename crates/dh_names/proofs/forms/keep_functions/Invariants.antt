use Rattle.std.proofs.Common.{◌≡◌, map, drop}
use Rattle.dh_tree.specs.LeastBreach.{least_of}
use Rattle.dh_tree.specs.Seen.{defined_seen}
use Rattle.dh_tree.specs.Forms.{unbuilt_functions}
use Rattle.dh_names.proofs.forms.keep_functions.Given as goal

-- what is left leads to what all leads to
abbrev pub invariant-loop-function : goal.invariant-loop-function
invariant-loop-function l = least_of l.kept (unbuilt_functions (map defined_seen (drop l.function-index l.functions))) ≡ least_of l.fn.kept (unbuilt_functions (map defined_seen l.functions))
