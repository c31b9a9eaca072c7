use Rattle.std.proofs.Common.{refl}
use Rattle.std.proofs.Math.Facts.{Fits-of_lt}
use Rattle.dh_code.proofs.Entries.{number_in_word, bank_word, all_in_word, more_room}
use Rattle.dh_code.proofs.evaluating.bank_at.Goals as goal

pub overflow_add-result : goal.overflow_add-result
overflow_add-result c = Fits-of_lt (more_room _ (all_in_word c.args.scene.now.entries.now _ c.requires.scene.entries c.requires.scene.few (bank_word c.args.scene.now.entries.now c.args.element.memory c.args.element.bank _ c.requires.scene.entries c.requires.scene.few c.requires.there (number_in_word c.args.scene.now.entries.now c.args.scene.now.firsts.now c.args.element.memory c.args.element.bank _ 0 c.requires.scene.firsts c.requires.there refl))))

pub returns-clause-within : goal.returns-clause-within
returns-clause-within c = bank_word c.args.scene.now.entries.now c.args.element.memory c.args.element.bank _ c.requires.scene.entries c.requires.scene.few c.requires.there (number_in_word c.args.scene.now.entries.now c.args.scene.now.firsts.now c.args.element.memory c.args.element.bank _ 0 c.requires.scene.firsts c.requires.there refl)
