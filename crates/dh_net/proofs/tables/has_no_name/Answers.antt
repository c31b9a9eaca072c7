use Rattle.std.proofs.Common.{ap, sym, ◌∙◌}
use Rattle.std.specs.Prelude.{bytes_eq}
use Rattle.dh_net.proofs.TableWalks.{name_found, name_passed, name_local}
use Rattle.dh_net.proofs.tables.has_no_name.Goals.{else-entry-via-then-entry+else-eq, else-entry-via-else-entry}
use Rattle.dh_net.proofs.tables.has_no_name.Goals as goal

pub returns-then-eq : goal.returns-then-eq
returns-then-eq c =
    let same = ap (λ text. bytes_eq text c.args.name.now) (sym c.as_str.ensures) ∙ sym c.if-eq.ensures in
    let found = name_found c.args.entries.now c.loop-entry.entry-index c.entry-item.result c.loop-entry-test.true c.entry-item.is c.args.name.now c.if-entry.true same c.loop-entry.invariant in
    (λ false_is. absurd (cc), λ h. absurd (found h))

pub loop-entry-preserved : goal.loop-entry-preserved
loop-entry-preserved c =
    elim c.else-entry.branch [
      | else-entry-via-then-entry+else-eq w ↦
          name_passed c.args.entries.now c.loop-entry.entry-index c.entry-item.result c.loop-entry-test.true c.entry-item.is c.args.name.now w.if-entry.true
          (ap (λ text. bytes_eq text c.args.name.now) (sym w.as_str.ensures) ∙ sym w.if-eq.ensures) c.loop-entry.invariant
      | else-entry-via-else-entry w ↦
          name_local c.args.entries.now c.loop-entry.entry-index c.entry-item.result c.loop-entry-test.true c.entry-item.is c.args.name.now w.if-entry.false c.loop-entry.invariant
    ]
