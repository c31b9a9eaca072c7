use Rattle.dh_tree.proofs.TypedAgain.{typed_again}
use Rattle.dh_tree.proofs.TypedNames.{names_kept}
use Rattle.dh_tree.proofs.TypedEntities.{entities_kept}
use Rattle.dh_tree.proofs.TypedForms.{of_text_kept}
use Rattle.dh_tree.proofs.TypedTexts.{widths_kept, unbuilt_forms_kept}
use Rattle.dh_tree.proofs.laws.typing_keeps_programs.Goals as goal

pub returns-clause-kinds : goal.returns-clause-kinds
returns-clause-kinds c = typed_again

pub returns-clause-forms : goal.returns-clause-forms
returns-clause-forms c = unbuilt_forms_kept

pub returns-clause-of_text : goal.returns-clause-of_text
returns-clause-of_text c = λ tokens p h. of_text_kept tokens p (widths_kept p h.widths) h

pub returns-clause-names : goal.returns-clause-names
returns-clause-names c = names_kept

pub returns-clause-entities : goal.returns-clause-entities
returns-clause-entities c = entities_kept
