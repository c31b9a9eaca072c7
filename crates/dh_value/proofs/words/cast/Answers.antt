use Rattle.std.proofs.Common.{ap, ◌∙◌, ◌%◌, ◌^◌}
use Rattle.dh_value.specs.Words.{with_bits, width_of, value_of}
use Rattle.dh_value.proofs.Values.{integer_width, residue_cut}
use Rattle.dh_value.proofs.words.cast.Goals as goal

pub returns : goal.returns
returns c =
    let w = width_of c.args.to in
    c.truncated.ensures ∙ ap (with_bits c.args.to) (ap (λ n. n % 2 ^ w) c.extended.ensures ∙ residue_cut (value_of c.args.a) w (integer_width c.args.to c.requires.to).1)
