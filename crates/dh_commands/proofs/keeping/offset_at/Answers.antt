use Rattle.std.proofs.Common.{ℕ, List, ap, sym, ◌∙◌}
use Rattle.std.specs.Prelude.{slice_get}
use Rattle.dh_tree.specs.declared.trees.expressions.Expr.{Expr}
use Rattle.dh_tree.specs.PlainTrees as plain
use Rattle.dh_tree.specs.Seen.{view_plan}
use Rattle.dh_tree.specs.ViewOffsets.{offsets_of}
use Rattle.dh_commands.specs.Keeping.{paired}
use Rattle.dh_commands.proofs.KeptWords.{pairs_are}
use Rattle.dh_commands.proofs.keeping.offset_at.Goals as goal

pub returns-in-Suffix : goal.returns-in-Suffix
returns-in-Suffix c =
    c.offset_paired.ensures
    ∙ (ap (λ (l : List (ℕ × Expr)). slice_get (paired l) c.args.number) c.as_slice.ensures.value
    ∙ sym (ap (λ (l : List plain.Term). slice_get l c.args.number) (ap (λ f. offsets_of (view_plan f)) c.in-Suffix.is ∙ pairs_are c.in-Suffix.by.items)))
