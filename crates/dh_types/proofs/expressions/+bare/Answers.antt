use Rattle.std.proofs.Common.{refl}
use Rattle.dh_tree.proofs.SeenTerms.{access_is, physical_is, cast_is}
use Rattle.dh_tree.specs.contracts.trees.expressions.ExprForm.{enum}
use Rattle.dh_types.specs.Facts.{facts_seen}
use Rattle.dh_base.proofs.InArms.{reading}
use Rattle.dh_types.proofs.Forms.{filled_binary, filled_kept}
use Rattle.dh_types.proofs.expressions.+bare.Goals as goal

pub fill_form-returns-in-Binary : goal.fill_form-returns-in-Binary
fill_form-returns-in-Binary t c =
    let r = reading enum 5 (c.in-Binary.op, (c.in-Binary.left, (c.in-Binary.right, tt))) _ c.in-Binary.is in
    filled_binary (facts_seen c.args.facts.now) c.args.want _ r.0.0 r.0.1.0 r.0.1.1.0 _ _ _ _ _ _ r.1 c.deref_mut.ensures.value c.deref_mut-in-Binary.ensures.value c.left_want.ensures c.right_want.ensures c.fill.ensures c.fill-in-Binary.ensures

pub fill_form-returns-in-Access : goal.fill_form-returns-in-Access
fill_form-returns-in-Access t c = filled_kept (facts_seen c.args.facts.now) c.args.want _ _ _ c.in-Access.is (access_is _ _) refl

pub fill_form-returns-in-Physical : goal.fill_form-returns-in-Physical
fill_form-returns-in-Physical t c = filled_kept (facts_seen c.args.facts.now) c.args.want _ _ _ c.in-Physical.is (physical_is _ _ _ _) refl

pub fill_form-returns-in-Cast : goal.fill_form-returns-in-Cast
fill_form-returns-in-Cast t c = filled_kept (facts_seen c.args.facts.now) c.args.want _ _ _ c.in-Cast.is (cast_is _ _) refl
