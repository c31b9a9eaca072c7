use Rattle.dh_ports.proofs.sharing.Sharing.note.Goals as goal

pub returns : goal.returns
returns c = record {
  flag = c.in_ok-flag.flag;
  next = c.in_ok-flag.ensures;
  more = c.in_ok-push.ensures.items;
}
