use Rattle.std.proofs.Common.{◌≡◌, drop, max}
use Rattle.dh_bind.specs.Drafts.{banks_width}
use Rattle.dh_bind.proofs.operations.width_listed.Given as goal

abbrev pub invariant-loop-listed : goal.invariant-loop-listed
invariant-loop-listed l = max l.wide (banks_width (drop l.listed-index l.banks)) ≡ banks_width l.banks
