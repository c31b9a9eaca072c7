use Rattle.std.proofs.Common.{refl, ap, sym, subst, ◌∙◌, Option}
use Rattle.serde_json.specs.Data.{Data}
use Rattle.serde_json.specs.Find.{get_member}
use Rattle.serde_json.specs.View.{members_view}
use Rattle.dh_data.specs.DataFiles.{Offers}
use Rattle.dh_data.proofs.members.contents_of.Goals as goal

pub returns-in_default : goal.returns-in_default
returns-in_default c =
    let found = c.member.ensures ∙ ap (λ n. get_member n (members_view c.args.members.now.entries)) c.as_str.ensures in (
      refl,
      record {
        outside = c.if-not-entry.false;
        none = λ d h. c.in_default.ensures d (subst (λ (o : Option Data). Offers c.args.entry.now.shape.kind o d) (sym found) h);
      },
    )
