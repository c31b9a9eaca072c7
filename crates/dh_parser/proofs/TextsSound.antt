-- What holds of the tree of any text, from its parts.
use Rattle.std.proofs.Common.{◌≡◌, suc, List, [], length, refl, ap, sym, subst, arith}
use Rattle.dh_lexer.specs.declared.tokens.Token.{Token}
use Rattle.dh_lexer.specs.declared.tokens.TokenKind.TheVariants as kind
use Rattle.dh_lexer.specs.LexedText.{AreEnded}
use Rattle.dh_tree.specs.PlainTrees.{Program}
use Rattle.dh_tree.specs.Written.{IsOfText}
use Rattle.dh_parser.specs.Allowed.{ProgramFits}
use Rattle.dh_parser.specs.Grammar.{ProgramText}
use Rattle.dh_parser.specs.Programs.{Spells}
use Rattle.dh_parser.specs.Spelling.{put, spell_parts, spell_items, spell_program}
use Rattle.dh_parser.specs.TreesOfTexts.{count_items, program_of}
use Rattle.dh_parser.proofs.Fronts.{front_of, items_front}
use Rattle.dh_parser.proofs.TextLocals.{parts_named}
use Rattle.dh_parser.proofs.TextNames.{AreSound, ended_sound, behind, decls_declared, parts_names, items_names}
use Rattle.dh_parser.proofs.TextNumbers.{parts_numbered}
use Rattle.dh_parser.proofs.TextBounds.{parts_bounded}
use Rattle.dh_parser.proofs.TextTargets.{parts_targets}
use Rattle.dh_parser.proofs.TextWidths.{program_sized}

-- what holds of the tree of any text
pub of_text : (t : ProgramText) (tokens : List Token) → ProgramFits t → spell_program t [] ≡ tokens → AreEnded tokens → IsOfText (length tokens) (program_of t)
of_text t tokens fits same ended =
    let sound = subst AreSound (sym same) (ended_sound tokens ended) in
    let begin = items_names 0 t.items (spell_parts t.parts (put kind.End t.end [])) in
    let body = parts_names (suc (count_items t.items)) t.parts (put kind.End t.end []) in
    let all = ap length same in
    record {
      decls = decls_declared t.items (spell_parts t.parts (put kind.End t.end [])) sound;
      locals = parts_named (suc (count_items t.items)) t.parts (put kind.End t.end []) (behind (front_of spell_items items_front t.items) _ sound);
      first = count_items t.items;
      numbered = (refl, parts_numbered (suc (count_items t.items)) t.parts);
      names = omega (arith, begin, body, all);
      widths = program_sized t fits;
      targets = parts_targets (suc (count_items t.items)) t.parts;
      numbers = parts_bounded (suc (count_items t.items)) t.parts (put kind.End t.end []) (behind (front_of spell_items items_front t.items) _ sound);
    }

pub texts_are_sound : (p : Program) (tokens : List Token) → Spells p tokens → AreEnded tokens → IsOfText (length tokens) p
texts_are_sound p tokens spelled ended =
    subst (λ (q : Program). IsOfText (length tokens) q) spelled.tree_is (of_text spelled.text tokens spelled.fits spelled.tokens_are ended)
