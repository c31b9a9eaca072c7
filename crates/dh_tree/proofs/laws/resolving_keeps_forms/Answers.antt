use Rattle.dh_tree.proofs.ResolvedForms.{of_text_kept}
use Rattle.dh_tree.proofs.ResolvedTexts.{widths_kept, unbuilt_forms_kept}
use Rattle.dh_tree.proofs.laws.resolving_keeps_forms.Goals as goal

pub returns-clause-forms : goal.returns-clause-forms
returns-clause-forms c = unbuilt_forms_kept

pub returns-clause-of_text : goal.returns-clause-of_text
returns-clause-of_text c = λ tokens p h. of_text_kept tokens p (widths_kept p h.widths) h
