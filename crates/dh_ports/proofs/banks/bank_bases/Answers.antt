use Rattle.std.proofs.Common.{ap, ◌∙◌, ℕ, ◌+◌, ◌<◌, length, slice_index, arith}
use Rattle.dh_tree.specs.Elements.{banks_of}
use Rattle.dh_ports.proofs.StartFacts.{base_none, base_next, base_most, bases_more, long_more}
use Rattle.dh_ports.proofs.banks.bank_bases.Goals as goal

pub loop-entry-init : goal.loop-entry-init
loop-entry-init c = (ap length c.new-bases.ensures.items, (base_none c.args.table.now, λ memory h. absurd (none memory h)))
  where
    none : (k : ℕ) → k < 0 → ⊥
    none k e = omega (arith, e)

    absurd : {A : Type 0} → ⊥ → A
    absurd e = elim e [ ]

pub overflow_add-base : goal.overflow_add-base
overflow_add-base c =
    let next = base_next c.args.table.now c.loop-entry.entry-index c.loop-entry.base c.bank_count.result c.entry-item.result c.loop-entry-test.true c.entry-item.is c.loop-entry.invariant.1.0 (c.bank_count.ensures ∙ ap banks_of c.as_slice.ensures) in
    let most = base_most c.args.table.now (c.loop-entry.entry-index + 1) c.requires.table.entries in
    let few = c.requires.table.elements in
    omega (arith, next, most, few)

pub loop-entry-preserved : goal.loop-entry-preserved
loop-entry-preserved c = (
  ap length c.in_ok-push.ensures.items ∙ long_more c.loop-entry.bases.items c.loop-entry.entry-index c.loop-entry.base c.loop-entry.invariant.0,
  (
    base_next c.args.table.now c.loop-entry.entry-index c.loop-entry.base c.bank_count.result c.entry-item.result c.loop-entry-test.true c.entry-item.is c.loop-entry.invariant.1.0 (c.bank_count.ensures ∙ ap banks_of c.as_slice.ensures),
    λ memory h. ap (λ l. slice_index l memory) c.in_ok-push.ensures.items ∙ bases_more c.args.table.now c.loop-entry.bases.items c.loop-entry.entry-index c.loop-entry.base c.loop-entry.invariant.0 c.loop-entry.invariant.1.0 c.loop-entry.invariant.1.1 memory h,
  ),
)
