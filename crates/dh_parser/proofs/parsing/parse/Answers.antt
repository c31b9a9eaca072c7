use Rattle.std.proofs.Common.{◌∙◌}
use Rattle.dh_parser.proofs.Parsed.{parsed, stopped, stopped_few, stopped_within, stopped_before, stopped_token, refused}
use Rattle.dh_parser.proofs.parsing.parse.Goals as goal

pub overflow_sub-at : goal.overflow_sub-at
overflow_sub-at c = stopped_few (stopped c.requires.ended (rw c.in-Err-Here.field-0-is at c.in-Err-Here.ensures))

pub bounds-tokens-at : goal.bounds-tokens-at
bounds-tokens-at c = stopped_within (stopped c.requires.ended (rw c.in-Err-Here.field-0-is at c.in-Err-Here.ensures))

pub returns-in-Ok : goal.returns-in-Ok
returns-in-Ok c = parsed c.requires.ended c.in-Ok.ensures

pub returns-in-Err-Here : goal.returns-in-Err-Here
returns-in-Err-Here c =
    let s = stopped c.requires.ended (rw c.in-Err-Here.field-0-is at c.in-Err-Here.ensures) in
    refused s _ c.index-tokens-at.result c.refusal.ensures (stopped_before s) (c.index-tokens-at.is ∙ stopped_token s _)
