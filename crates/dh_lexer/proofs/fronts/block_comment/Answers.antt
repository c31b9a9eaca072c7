-- The length is counted from the comment's first byte.
use Rattle.std.proofs.Common.{◌∙◌, sym}
use Rattle.dh_lexer.proofs.GapsFound.{comment_some, comment_none}
use Rattle.dh_lexer.proofs.fronts.block_comment.Goals as goal

pub returns-in-Some : goal.returns-in-Some
returns-in-Some c = comment_some c.args.at c.in-Some.end c.args.text.now (sym c.in-Some.is ∙ c.block_end.ensures)

pub returns-in-None : goal.returns-in-None
returns-in-None c = comment_none c.args.at c.args.text.now (sym c.in-None.is ∙ c.block_end.ensures)
