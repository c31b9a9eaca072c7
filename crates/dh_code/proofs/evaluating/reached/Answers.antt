use Rattle.std.proofs.Common.{List, sym, subst, ◌∙◌}
use Rattle.dh_tree.specs.declared.tables.Dim.{Dim}
use Rattle.dh_code.specs.declared.codes.Target.{Target}
use Rattle.dh_code.specs.declared.codes.Operand.{Operand}
use Rattle.dh_extents.specs.Extents.{AreDims}
use Rattle.dh_code.specs.Banks.{Spreads}
use Rattle.dh_code.specs.Operated.{IsValidTarget, index_values, sight}
use Rattle.dh_code.proofs.Entries.{dims_is, dims_of}
use Rattle.dh_code.proofs.FoundSpots.{by_indices_leads}
use Rattle.dh_code.proofs.evaluating.reached.Goals as goal

pub locate-requires-clause-dims : goal.locate-requires-clause-dims
locate-requires-clause-dims c =
    let has = subst (λ (t : Target). IsValidTarget c.args.scene.now.entries.now c.args.access.now.memory t) c.in-Indices.is c.requires.access in
    subst (λ (ds : List Dim). AreDims ds) (sym c.as_slice-dims.ensures) (dims_of c.args.scene.now.entries.now c.args.access.now.memory c.index-scene-access.result has.0 c.requires.scene.entries c.requires.scene.few)

pub returns-in-Indices : goal.returns-in-Indices
returns-in-Indices c =
    let has = subst (λ (t : Target). IsValidTarget c.args.scene.now.entries.now c.args.access.now.memory t) c.in-Indices.is c.requires.access in
    by_indices_leads c.args.scene.now (sight c.args.slots.now c.args.given.now c.args.ranks.now) c.args.access.now c.as_slice-dims.result.now
    (c.as_slice-dims.ensures ∙ sym (dims_is c.args.scene.now.entries.now c.args.access.now.memory c.index-scene-access.result has.0)) has.0
    c.in-Indices.operands c.locate.result c.in-Indices.is
    (subst (λ (os : List Operand). Spreads c.as_slice-dims.result.now (index_values (sight c.args.slots.now c.args.given.now c.args.ranks.now) os) c.locate.result) c.as_slice.ensures c.locate.ensures.spreads) c.locate.ensures.within
