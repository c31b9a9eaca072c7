use Rattle.std.proofs.Common.{ap, sym, ◌∙◌}
use Rattle.dh_tree.specs.Memories.{memories_of, number_in}
use Rattle.dh_tree.specs.Seen.{program_seen}
use Rattle.dh_ports.proofs.moves.claim.Goals as goal

pub claim_led-requires : goal.claim_led-requires
claim_led-requires c = record {
  table = c.requires.table;
  layout = c.requires.layout;
  leads = c.requires.leads;
  copies = c.requires.copies;
  entity = c.entity_of-entity.ensures;
  other = sym c.number_of.ensures ∙ c.in_default.is;
  past = c.requires.past;
}

pub claim_memory-requires : goal.claim_memory-requires
claim_memory-requires c = record {
  table = c.requires.table;
  layout = c.requires.layout;
  copies = c.requires.copies;
  named = ap (number_in (memories_of (program_seen c.args.typed.now))) (sym c.entity_of-entity.ensures) ∙ (sym c.number_of.ensures ∙ c.in-Some.is);
  past = c.requires.past;
}
