-- What is answered of a program, from what the walk over it found.
use Rattle.std.proofs.Common.{◌≡◌, inr, Result, Ok, Err, None, sym, ap, ◌∙◌}
use Rattle.dh_base.specs.declared.faults.PassFault.{PassFault}
use Rattle.dh_base.specs.declared.faults.PassFault.TheVariants as fault
use Rattle.dh_tree.specs.declared.trees.named.Named.{Named}
use Rattle.dh_tree.specs.PlainTrees.{Program}
use Rattle.dh_tree.specs.LeastBreach.{breach}
use Rattle.dh_tree.specs.Seen.{program_seen}
use Rattle.dh_tree.specs.Breaches.{breaches_of, KeepsNames}
use Rattle.dh_tree.specs.Forms.{unbuilt_forms}
use Rattle.dh_tree.specs.Resolved.{resolved, HasEntities}
use Rattle.dh_names.specs.Programs.{ResolvesProgram, AnswersBuilt, IsWalked, SettlesNames}
use Rattle.dh_tree.specs.declared.trees.programs.Tree.{Tree}
use Rattle.dh_names.specs.declared.programs.WalkFindings.{WalkFindings}
use Rattle.dh_names.proofs.AgainPrograms.{breaches_again, resolved_again}
use Rattle.dh_names.proofs.LeastKept.{none_kept, least_kept}

pub keeps_names : (p : Program) (t : Tree) (w : WalkFindings) → IsWalked p t w → w.least ≡ None → KeepsNames (program_seen t)
keeps_names p t w walked none = ap (λ q. breaches_of q) walked.tree ∙ breaches_again p ∙ none_kept (breaches_of p) (sym walked.least ∙ none)

pub has_entities : (p : Program) (t : Tree) (w : WalkFindings) → IsWalked p t w → HasEntities (program_seen t)
has_entities p t w walked = ap (λ q. resolved q) walked.tree ∙ resolved_again p ∙ sym walked.tree

pub answered : (p : Program) (t : Tree) (w : WalkFindings) (r : Result Named PassFault) → IsWalked p t w → SettlesNames t w.least r → ResolvesProgram p r
answered p t w (Ok n) walked h = (ap (λ x. program_seen x) h.0 ∙ walked.tree, none_kept (breaches_of p) (sym walked.least ∙ h.1))
answered p t w (Err (fault.Refused rule place)) walked h = least_kept (breaches_of p) (breach rule place) (sym walked.least ∙ h)
answered p t w (Err fault.NoMemory) walked h = absurd h

-- the same where all forms are built
pub answered_built : (p : Program) (t : Tree) (w : WalkFindings) (r : Result Named PassFault) → IsWalked p t w → w.unbuilt ≡ None → SettlesNames t w.least r → AnswersBuilt p r
answered_built p t w (Ok n) walked none h = (none_kept (unbuilt_forms p) (sym walked.unbuilt ∙ none), answered p t w (Ok n) walked h)
answered_built p t w (Err (fault.Refused rule place)) walked none h =
    inr (none_kept (unbuilt_forms p) (sym walked.unbuilt ∙ none), answered p t w (Err (fault.Refused rule place)) walked h)
answered_built p t w (Err fault.NoMemory) walked none h = absurd h
