use Rattle.std.proofs.Common.{ap, sym, ◌∙◌}
use Rattle.dh_tree.specs.Seen.{form_seen}
use Rattle.dh_tree.proofs.SeenTerms.{access_is, binary_is, cast_is, number_is, physical_is, truth_is, variable_is}
use Rattle.dh_expressions.specs.Named.{known_in, way_named}
use Rattle.dh_expressions.proofs.naming.way_through.Goals as goal

pub returns-in-Access : goal.returns-in-Access
returns-in-Access c = c.way_in.ensures ∙ sym (ap (λ f. way_named (known_in c.args.scene.now) f) (ap form_seen c.in-Access.is ∙ access_is c.in-Access.of c.in-Access.indices))

pub returns-in-Physical : goal.returns-in-Physical
returns-in-Physical c = sym (ap (λ f. way_named (known_in c.args.scene.now) f) (ap form_seen c.in-Physical.is ∙ physical_is c.in-Physical.of c.in-Physical.bank c.in-Physical.bank_place c.in-Physical.row))

pub returns-in-Number : goal.returns-in-Number
returns-in-Number c = sym (ap (λ f. way_named (known_in c.args.scene.now) f) (ap form_seen c.in-Number.is ∙ number_is c.in-Number.negative c.in-Number.value))

pub returns-in-Truth : goal.returns-in-Truth
returns-in-Truth c = sym (ap (λ f. way_named (known_in c.args.scene.now) f) (ap form_seen c.in-Truth.is ∙ truth_is c.in-Truth.value))

pub returns-in-Variable : goal.returns-in-Variable
returns-in-Variable c = sym (ap (λ f. way_named (known_in c.args.scene.now) f) (ap form_seen c.in-Variable.is ∙ variable_is c.in-Variable.of))

pub returns-in-Binary : goal.returns-in-Binary
returns-in-Binary c = sym (ap (λ f. way_named (known_in c.args.scene.now) f) (ap form_seen c.in-Binary.is ∙ binary_is c.in-Binary.op c.in-Binary.left c.in-Binary.right))

pub returns-in-Cast : goal.returns-in-Cast
returns-in-Cast c = sym (ap (λ f. way_named (known_in c.args.scene.now) f) (ap form_seen c.in-Cast.is ∙ cast_is c.in-Cast.inner c.in-Cast.to))
