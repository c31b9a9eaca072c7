use Rattle.std.proofs.Common.{List, ◌<◌, ◌≤◌, length, take, drop, to_z, of_z, ap, sym, subst, ◌∙◌}
use Rattle.std.specs.List.{AllByRecursion}
use Rattle.std.specs.Int.{w128}
use Rattle.std.proofs.Math.Facts.{sfits_lit, yes_ltb}
use Rattle.std.proofs.lemmas.Int.{to_z-of_z}
use Rattle.dh_tree.specs.declared.tables.Dim.{Dim}
use Rattle.dh_tree.specs.declared.viewing.ViewMap.{ViewMap}
use Rattle.dh_tree.specs.Elements.{banks_of, dims_at}
use Rattle.dh_meaning.specs.Effects.{indices_through}
use Rattle.dh_code.specs.Passing.{SpreadsBehind, StepsFit, steps_of}
use Rattle.dh_value.specs.Words as words
use Rattle.dh_code.specs.declared.codes.Target.{Target}
use Rattle.dh_code.specs.declared.codes.Operand.{Operand}
use Rattle.dh_extents.specs.Extents.{AreDims}
use Rattle.dh_code.specs.Banks.{Spreads}
use Rattle.dh_code.specs.Operated.{IsValidOperand, IsValidTarget, index_values, operand_word, sight}
use Rattle.dh_code.proofs.Entries.{dims_is, dims_of, entry_at}
use Rattle.dh_code.proofs.FoundSpots.{by_indices_leads, by_row_leads, by_views_leads}
use Rattle.dh_code.proofs.evaluating.reached_otherwise.Goals as goal

pub locate-requires-clause-dims : goal.locate-requires-clause-dims
locate-requires-clause-dims c =
    let has = subst (λ (t : Target). IsValidTarget c.args.scene.now.entries.now c.args.access.now.memory t) c.in-Indices.is c.requires.access in
    subst (λ (ds : List Dim). AreDims ds) (sym c.as_slice-dims.ensures) (dims_of c.args.scene.now.entries.now c.args.access.now.memory c.index-scene-access.result has.0 c.requires.scene.entries c.requires.scene.few)

pub returns-in-Indices : goal.returns-in-Indices
returns-in-Indices c =
    let has = subst (λ (t : Target). IsValidTarget c.args.scene.now.entries.now c.args.access.now.memory t) c.in-Indices.is c.requires.access in
    by_indices_leads c.args.scene.now (sight c.args.slots.now c.args.given.now c.args.ranks.now) c.args.access.now c.as_slice-dims.result.now
    (c.as_slice-dims.ensures ∙ sym (dims_is c.args.scene.now.entries.now c.args.access.now.memory c.index-scene-access.result has.0)) has.0
    c.in-Indices.operands c.locate.result c.in-Indices.is
    (subst (λ (os : List Operand). Spreads c.as_slice-dims.result.now (index_values (sight c.args.slots.now c.args.given.now c.args.ranks.now) os) c.locate.result) c.as_slice.ensures c.locate.ensures.spreads) c.locate.ensures.within

pub in_row-requires-clause-dims : goal.in_row-requires-clause-dims
in_row-requires-clause-dims c =
    let has = subst (λ (t : Target). IsValidTarget c.args.scene.now.entries.now c.args.access.now.memory t) c.in-Row.is c.requires.access in
    subst (λ (ds : List Dim). AreDims ds) (sym c.as_slice-dims-in-Row.ensures) (dims_of c.args.scene.now.entries.now c.args.access.now.memory c.index-scene-access-in-Row.result has.0.0 c.requires.scene.entries c.requires.scene.few)

pub in_row-requires-clause-bank : goal.in_row-requires-clause-bank
in_row-requires-clause-bank c =
    let has = subst (λ (t : Target). IsValidTarget c.args.scene.now.entries.now c.args.access.now.memory t) c.in-Row.is c.requires.access in
    subst (λ (ds : List Dim). c.in-Row.bank < banks_of ds) (sym (c.as_slice-dims-in-Row.ensures ∙ sym (dims_is c.args.scene.now.entries.now c.args.access.now.memory c.index-scene-access-in-Row.result has.0.0))) has.0.1

pub returns-in-Row : goal.returns-in-Row
returns-in-Row c =
    let has = subst (λ (t : Target). IsValidTarget c.args.scene.now.entries.now c.args.access.now.memory t) c.in-Row.is c.requires.access in
    by_row_leads c.args.scene.now (sight c.args.slots.now c.args.given.now c.args.ranks.now) c.args.access.now c.as_slice-dims-in-Row.result.now
    (c.as_slice-dims-in-Row.ensures ∙ sym (dims_is c.args.scene.now.entries.now c.args.access.now.memory c.index-scene-access-in-Row.result has.0.0)) has.0.0
    c.in-Row.bank c.in-Row.row (to_z w128 (of_z w128 c.number.result)) c.in_row.result c.in-Row.is (to_z-of_z w128 c.number.result (sfits_lit (yes_ltb c.number.type_inv)) ∙ (c.number.ensures ∙ ap (λ w. words.value_of w) (c.value_at.ensures.value ∙ ap (λ (o : Operand). operand_word (sight c.args.slots.now c.args.given.now c.args.ranks.now) o) c.content.ensures))) has.0 c.in_row.ensures

pub locate_through-requires-clause-dims : goal.locate_through-requires-clause-dims
locate_through-requires-clause-dims c =
    let has = subst (λ (t : Target). IsValidTarget c.args.scene.now.entries.now c.args.access.now.memory t) c.in-Through.is c.requires.access in
    subst (λ (ds : List Dim). AreDims ds) (sym c.as_slice-dims-in-Through.ensures) (dims_of c.args.scene.now.entries.now c.args.access.now.memory c.index-scene-access-in-Through.result has.0 c.requires.scene.entries c.requires.scene.few)

pub locate_through-requires-clause-few : goal.locate_through-requires-clause-few
locate_through-requires-clause-few c =
    let has = subst (λ (t : Target). IsValidTarget c.args.scene.now.entries.now c.args.access.now.memory t) c.in-Through.is c.requires.access in
    subst (λ (ds : List Dim). length ds ≤ 6) (sym c.as_slice-dims-in-Through.ensures) (entry_at c.args.scene.now.entries.now c.args.access.now.memory c.index-scene-access-in-Through.result has.0 c.requires.scene.entries).shape.few_dims

pub locate_through-requires-clause-fits : goal.locate_through-requires-clause-fits
locate_through-requires-clause-fits c =
    let has = subst (λ (t : Target). IsValidTarget c.args.scene.now.entries.now c.args.access.now.memory t) c.in-Through.is c.requires.access in
    let same = c.as_slice-dims-in-Through.ensures ∙ sym (dims_is c.args.scene.now.entries.now c.args.access.now.memory c.index-scene-access-in-Through.result has.0) in
    subst (λ (ds : List Dim). StepsFit ds (steps_of c.as_slice-links.result.now) c.in-Through.count (length c.as_slice-operands.result.now)) (sym same)
    (subst (λ (vs : List ViewMap). StepsFit (dims_at c.args.scene.now.entries.now c.args.access.now.memory) (steps_of vs) c.in-Through.count (length c.as_slice-operands.result.now)) (sym (c.as_slice-links.ensures ∙ c.content-in-Through.ensures))
    (subst (λ (os : List Operand). StepsFit (dims_at c.args.scene.now.entries.now c.args.access.now.memory) (steps_of c.in-Through.views) c.in-Through.count (length os)) (sym (c.as_slice-operands.ensures ∙ c.content-in-Through-2.ensures)) has.1.0))

pub locate_through-requires-clause-operands : goal.locate_through-requires-clause-operands
locate_through-requires-clause-operands c =
    let has = subst (λ (t : Target). IsValidTarget c.args.scene.now.entries.now c.args.access.now.memory t) c.in-Through.is c.requires.access in
    subst (λ (os : List Operand). AllByRecursion IsValidOperand os) (sym (c.as_slice-operands.ensures ∙ c.content-in-Through-2.ensures)) has.1.1

pub returns-in-Through : goal.returns-in-Through
returns-in-Through c =
    let has = subst (λ (t : Target). IsValidTarget c.args.scene.now.entries.now c.args.access.now.memory t) c.in-Through.is c.requires.access in
    let w = sight c.args.slots.now c.args.given.now c.args.ranks.now in
    let n = c.in-Through.count in
    let ds = c.as_slice-dims-in-Through.result.now in
    by_views_leads c.args.scene.now w c.args.access.now ds
    (c.as_slice-dims-in-Through.ensures ∙ sym (dims_is c.args.scene.now.entries.now c.args.access.now.memory c.index-scene-access-in-Through.result has.0)) has.0
    c.in-Through.views n c.in-Through.operands c.in-Through.is c.locate_through.result
    (subst (λ (vs : List ViewMap). SpreadsBehind ds (indices_through (steps_of vs) (take n (index_values w c.in-Through.operands)) (drop n (index_values w c.in-Through.operands))) c.locate_through.result) (c.as_slice-links.ensures ∙ c.content-in-Through.ensures)
    (subst (λ (os : List Operand). SpreadsBehind ds (indices_through (steps_of c.as_slice-links.result.now) (take n (index_values w os)) (drop n (index_values w os))) c.locate_through.result) (c.as_slice-operands.ensures ∙ c.content-in-Through-2.ensures) c.locate_through.ensures.spreads)) c.locate_through.ensures.within
