use Rattle.std.proofs.Common.{◌∙◌, ◌++◌, ap, ℕ}
use Rattle.std.specs.Global.{Vec}
use Rattle.dh_verilog.specs.Text.{text_of}
use Rattle.dh_verilog.proofs.Tells.{text_tells}
use Rattle.dh_verilog.proofs.writing.write.Goals as goal

pub returns-clause-alone : goal.returns-clause-alone
returns-clause-alone c zero other valid range zeros same =
    let wrote = c.in_ok-write_net.ensures in
    let net = c.args.net.now in
    text_tells other net valid c.requires range wrote.range zeros zero (same ∙ (ap (λ (v : Vec ℕ). v.items) c.into_bytes.ensures.value ∙ (wrote.text ∙ ap (λ t. t ++ text_of net) c.in_ok-out.ensures.bytes)))
