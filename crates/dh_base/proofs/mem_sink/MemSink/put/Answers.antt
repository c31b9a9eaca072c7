-- The growth that a call which is not listed ends with; the listed call closed alone.
use Rattle.dh_base.proofs.StoreCalls.{write_ends}
use Rattle.dh_base.proofs.mem_sink.MemSink.put.Goals as goal

pub returns-clause-exact : goal.returns-clause-exact
returns-clause-exact c =
    write_ends _ _ _ c.self.view_is _ c.saturating_add-self-inside.ensures _ _ c.deref.ensures.value c.contains.ensures.value c.if-contains.false _ _ c.append-2.ensures.appends
