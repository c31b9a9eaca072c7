-- The listed call, the absent name, and contents within the limit. Contents past it closed alone.
use Rattle.std.proofs.Common.{ap, inl, inr, map, sym, ◌∙◌}
use Rattle.dh_base.specs.Stores.{stored, told_of}
use Rattle.dh_base.proofs.StoreCalls.{fails_by_number, finds_none, takes_all, read_ends}
use Rattle.dh_base.proofs.mem_files.MemFilesFiles.read.Goals as goal

pub returns-then-contains-clause-exact : goal.returns-then-contains-clause-exact
returns-then-contains-clause-exact c =
    inl (fails_by_number _ _ c.self.view_is _ c.saturating_add-self-inside.ensures _ _ c.deref.ensures.value c.contains.ensures.value _ c.saturating_add-self-inside-then-contains.ensures c.if-contains.true)

pub returns-in_default-clause-exact : goal.returns-in_default-clause-exact
returns-in_default-clause-exact c =
    inr (finds_none _ _ c.self.view_is _ c.saturating_add-self-inside.ensures _ _ c.deref.ensures.value c.contains.ensures.value _ c.if-contains.false
    (ap (λ l. told_of (map stored l) c.args.name.now) (sym c.deref-2.ensures.value) ∙ c.in_default.ensures))

pub returns-clause-exact : goal.returns-clause-exact
returns-clause-exact c =
    read_ends _ _ _ _ _ _
    (takes_all _ _ c.self.view_is _ c.saturating_add-self-inside.ensures _ _ c.deref.ensures.value c.contains.ensures.value _ _ _ _ c.if-contains.false
    (ap (λ l. told_of (map stored l) c.args.name.now) (sym c.deref-2.ensures.value) ∙ c.in-Some.ensures) c.if-limit-long.false c.saturating_add-self-inside-2.ensures)
    c.copied.ensures
