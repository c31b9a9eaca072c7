use Rattle.std.proofs.Common.{ℕ, List, nat_lt, ap, sym, ◌∙◌}
use Rattle.std.specs.Prelude.{slice_index}
use Rattle.std.proofs.lemmas.Result.{on_ok_weaker}
use Rattle.dh_ports.proofs.AheadNotes.{raises_none, raises_set}
use Rattle.dh_ports.proofs.lasts.raise.Goals as goal

pub returns-then-is_later : goal.returns-then-is_later
returns-then-is_later c =
    let later = sym (ap (λ (l : List ℕ). nat_lt (slice_index l c.args.bank) c.args.phase) c.as_slice.ensures.value) ∙ (sym c.is_later.ensures ∙ c.if-is_later.true) in
    on_ok_weaker c.set_number.result (λ set. raises_set c.args.phases.now.items c.set_number.new.numbers.items c.args.bank c.args.phase later set) c.set_number.ensures

pub returns-else-is_later : goal.returns-else-is_later
returns-else-is_later c =
    raises_none c.args.phases.now.items c.args.bank c.args.phase (sym (ap (λ (l : List ℕ). nat_lt (slice_index l c.args.bank) c.args.phase) c.as_slice.ensures.value) ∙ (sym c.is_later.ensures ∙ c.if-is_later.false))
