use Rattle.dh_verilog.proofs.Tells.{text_tells}
use Rattle.dh_verilog.proofs.laws.text_tells_the_net.Goals as goal

pub returns : goal.returns
returns c m n h k same = text_tells m n h.valid k.valid h.range k.range h.zeros k.zeros same
