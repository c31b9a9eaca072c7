use Rattle.std.proofs.Common.{◌≡◌, ◌+◌, ◌%◌, get_or, ap, sym, ◌∙◌, arith, pos, ◌+ℤ◌, unsigned_abs, to_z, of_z, to_z-of_z}
use Rattle.std.specs.Int.{w128}
use Rattle.dh_ports.specs.Copies.{copy_of_level}
use Rattle.dh_ports.proofs.CopyTurns.{lane_banks, copy_at_level, no_copy, bank_turn, bank_few}
use Rattle.dh_ports.proofs.copies.bank_at.Goals.{then-lane-levels, else-lane-levels}
use Rattle.dh_ports.proofs.copies.bank_at.Goals as goal

pub residue_of_copy-requires : goal.residue_of_copy-requires
residue_of_copy-requires c = record { banks = lane_banks c.args.lanes.now c.loop-lane.lane-index (record { banks = 0; times = 0; low = 0; offset = pos 0; level = 0 }) c.loop-lane-test.true c.requires.few.banks }

pub overflow_mul-bank : goal.overflow_mul-bank
overflow_mul-bank c =
    let copied : c.if-lane-levels.copy ≡ copy_of_level c.args.levels.now (get_or c.args.lanes.now c.loop-lane.lane-index (record { banks = 0; times = 0; low = 0; offset = pos 0; level = 0 })).level c.args.number = elim c.if-lane-levels.branch [
      | then-lane-levels w ↦ w.copy-is ∙ (w.copy_at-copy.ensures ∙ sym (copy_at_level c.args.levels.now (get_or c.args.lanes.now c.loop-lane.lane-index (record { banks = 0; times = 0; low = 0; offset = pos 0; level = 0 })).level c.args.number (record { factor = 0; stride = 0; share = 0 }) w.if-lane-levels.true))
      | else-lane-levels w ↦ w.copy-is ∙ sym (no_copy c.args.levels.now (get_or c.args.lanes.now c.loop-lane.lane-index (record { banks = 0; times = 0; low = 0; offset = pos 0; level = 0 })).level c.args.number w.if-lane-levels.false)
    ] in
    let back : to_z w128 (of_z w128 (get_or c.args.lanes.now c.loop-lane.lane-index (record { banks = 0; times = 0; low = 0; offset = pos 0; level = 0 })).offset) ≡ (get_or c.args.lanes.now c.loop-lane.lane-index (record { banks = 0; times = 0; low = 0; offset = pos 0; level = 0 })).offset = grind (arith, to_z-of_z) in
    let residue = c.residue_of_copy.ensures ∙ (ap (λ n. unsigned_abs (pos ((get_or c.args.lanes.now c.loop-lane.lane-index (record { banks = 0; times = 0; low = 0; offset = pos 0; level = 0 })).low + n) +ℤ to_z w128 (of_z w128 (get_or c.args.lanes.now c.loop-lane.lane-index (record { banks = 0; times = 0; low = 0; offset = pos 0; level = 0 })).offset)) % (get_or c.args.lanes.now c.loop-lane.lane-index (record { banks = 0; times = 0; low = 0; offset = pos 0; level = 0 })).banks) copied ∙ ap (λ z. unsigned_abs (pos ((get_or c.args.lanes.now c.loop-lane.lane-index (record { banks = 0; times = 0; low = 0; offset = pos 0; level = 0 })).low + copy_of_level c.args.levels.now (get_or c.args.lanes.now c.loop-lane.lane-index (record { banks = 0; times = 0; low = 0; offset = pos 0; level = 0 })).level c.args.number) +ℤ z) % (get_or c.args.lanes.now c.loop-lane.lane-index (record { banks = 0; times = 0; low = 0; offset = pos 0; level = 0 })).banks) back) in
    let few = bank_few c.args.levels.now c.args.lanes.now c.loop-lane.lane-index c.args.number (record { banks = 0; times = 0; low = 0; offset = pos 0; level = 0 }) c.loop-lane-test.true c.loop-lane.bank c.residue_of_copy.result 4096 c.requires.few.banks c.requires.few.few c.loop-lane.invariant residue in
    omega (arith, few)

pub overflow_add-bank : goal.overflow_add-bank
overflow_add-bank c =
    let copied : c.if-lane-levels.copy ≡ copy_of_level c.args.levels.now (get_or c.args.lanes.now c.loop-lane.lane-index (record { banks = 0; times = 0; low = 0; offset = pos 0; level = 0 })).level c.args.number = elim c.if-lane-levels.branch [
      | then-lane-levels w ↦ w.copy-is ∙ (w.copy_at-copy.ensures ∙ sym (copy_at_level c.args.levels.now (get_or c.args.lanes.now c.loop-lane.lane-index (record { banks = 0; times = 0; low = 0; offset = pos 0; level = 0 })).level c.args.number (record { factor = 0; stride = 0; share = 0 }) w.if-lane-levels.true))
      | else-lane-levels w ↦ w.copy-is ∙ sym (no_copy c.args.levels.now (get_or c.args.lanes.now c.loop-lane.lane-index (record { banks = 0; times = 0; low = 0; offset = pos 0; level = 0 })).level c.args.number w.if-lane-levels.false)
    ] in
    let back : to_z w128 (of_z w128 (get_or c.args.lanes.now c.loop-lane.lane-index (record { banks = 0; times = 0; low = 0; offset = pos 0; level = 0 })).offset) ≡ (get_or c.args.lanes.now c.loop-lane.lane-index (record { banks = 0; times = 0; low = 0; offset = pos 0; level = 0 })).offset = grind (arith, to_z-of_z) in
    let residue = c.residue_of_copy.ensures ∙ (ap (λ n. unsigned_abs (pos ((get_or c.args.lanes.now c.loop-lane.lane-index (record { banks = 0; times = 0; low = 0; offset = pos 0; level = 0 })).low + n) +ℤ to_z w128 (of_z w128 (get_or c.args.lanes.now c.loop-lane.lane-index (record { banks = 0; times = 0; low = 0; offset = pos 0; level = 0 })).offset)) % (get_or c.args.lanes.now c.loop-lane.lane-index (record { banks = 0; times = 0; low = 0; offset = pos 0; level = 0 })).banks) copied ∙ ap (λ z. unsigned_abs (pos ((get_or c.args.lanes.now c.loop-lane.lane-index (record { banks = 0; times = 0; low = 0; offset = pos 0; level = 0 })).low + copy_of_level c.args.levels.now (get_or c.args.lanes.now c.loop-lane.lane-index (record { banks = 0; times = 0; low = 0; offset = pos 0; level = 0 })).level c.args.number) +ℤ z) % (get_or c.args.lanes.now c.loop-lane.lane-index (record { banks = 0; times = 0; low = 0; offset = pos 0; level = 0 })).banks) back) in
    let few = bank_few c.args.levels.now c.args.lanes.now c.loop-lane.lane-index c.args.number (record { banks = 0; times = 0; low = 0; offset = pos 0; level = 0 }) c.loop-lane-test.true c.loop-lane.bank c.residue_of_copy.result 4096 c.requires.few.banks c.requires.few.few c.loop-lane.invariant residue in
    omega (arith, few)

pub loop-lane-preserved : goal.loop-lane-preserved
loop-lane-preserved c =
    let copied : c.if-lane-levels.copy ≡ copy_of_level c.args.levels.now (get_or c.args.lanes.now c.loop-lane.lane-index (record { banks = 0; times = 0; low = 0; offset = pos 0; level = 0 })).level c.args.number = elim c.if-lane-levels.branch [
      | then-lane-levels w ↦ w.copy-is ∙ (w.copy_at-copy.ensures ∙ sym (copy_at_level c.args.levels.now (get_or c.args.lanes.now c.loop-lane.lane-index (record { banks = 0; times = 0; low = 0; offset = pos 0; level = 0 })).level c.args.number (record { factor = 0; stride = 0; share = 0 }) w.if-lane-levels.true))
      | else-lane-levels w ↦ w.copy-is ∙ sym (no_copy c.args.levels.now (get_or c.args.lanes.now c.loop-lane.lane-index (record { banks = 0; times = 0; low = 0; offset = pos 0; level = 0 })).level c.args.number w.if-lane-levels.false)
    ] in
    let back : to_z w128 (of_z w128 (get_or c.args.lanes.now c.loop-lane.lane-index (record { banks = 0; times = 0; low = 0; offset = pos 0; level = 0 })).offset) ≡ (get_or c.args.lanes.now c.loop-lane.lane-index (record { banks = 0; times = 0; low = 0; offset = pos 0; level = 0 })).offset = grind (arith, to_z-of_z) in
    let residue = c.residue_of_copy.ensures ∙ (ap (λ n. unsigned_abs (pos ((get_or c.args.lanes.now c.loop-lane.lane-index (record { banks = 0; times = 0; low = 0; offset = pos 0; level = 0 })).low + n) +ℤ to_z w128 (of_z w128 (get_or c.args.lanes.now c.loop-lane.lane-index (record { banks = 0; times = 0; low = 0; offset = pos 0; level = 0 })).offset)) % (get_or c.args.lanes.now c.loop-lane.lane-index (record { banks = 0; times = 0; low = 0; offset = pos 0; level = 0 })).banks) copied ∙ ap (λ z. unsigned_abs (pos ((get_or c.args.lanes.now c.loop-lane.lane-index (record { banks = 0; times = 0; low = 0; offset = pos 0; level = 0 })).low + copy_of_level c.args.levels.now (get_or c.args.lanes.now c.loop-lane.lane-index (record { banks = 0; times = 0; low = 0; offset = pos 0; level = 0 })).level c.args.number) +ℤ z) % (get_or c.args.lanes.now c.loop-lane.lane-index (record { banks = 0; times = 0; low = 0; offset = pos 0; level = 0 })).banks) back) in
    bank_turn c.args.levels.now c.args.lanes.now c.loop-lane.lane-index c.args.number (record { banks = 0; times = 0; low = 0; offset = pos 0; level = 0 }) c.loop-lane-test.true c.loop-lane.bank c.residue_of_copy.result c.loop-lane.invariant residue
