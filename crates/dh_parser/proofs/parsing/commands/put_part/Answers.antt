use Rattle.std.proofs.Common.{◌++◌, ◌∷◌, [], ap, ◌∙◌}
use Rattle.dh_parser.proofs.parsing.commands.put_part.Goals as goal

pub returns : goal.returns
returns c = c.trim.ensures ∙ (c.in_ok-push.ensures.items ∙ ap (λ l. l ++ c.args.part ∷ []) c.first_room.ensures)
