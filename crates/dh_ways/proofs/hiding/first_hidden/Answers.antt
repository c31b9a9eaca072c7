use Rattle.std.proofs.Common.{ℕ, ◌<◌, length, ap, sym, ◌∙◌, subst}
use Rattle.dh_tree.specs.declared.trees.programs.Tree.{Tree}
use Rattle.dh_ways.proofs.StandsFound.{from_none, none_before}
use Rattle.dh_ways.proofs.hiding.first_hidden.Goals as goal

pub entity_behind-requires : goal.entity_behind-requires
entity_behind-requires c =
    none_before c.len.result 4294967296
    (subst (λ (n : ℕ). n < 4294967296) (sym (c.len.ensures ∙ (c.tree.result.now.entities.ok.0 ∙ ap (λ (t : Tree). length t.entities.items) c.tree.ensures.tree))) c.requires.few)

pub returns : goal.returns
returns c =
    from_none c.entity_behind.result c.len.result c.entity_behind.ensures
    ∙ (c.len.ensures ∙ (c.tree.result.now.entities.ok.0 ∙ ap (λ (t : Tree). length t.entities.items) c.tree.ensures.tree))
