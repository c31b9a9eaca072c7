-- Dimensions, one after another.
use Rattle.std.proofs.Common.{◌≡◌, ℕ, suc, true, false, List, ◌∷◌, Option, refl, sym, ap, ◌∙◌}
use Rattle.dh_base.specs.declared.places.Place.{Place}
use Rattle.dh_tree.specs.declared.tables.Dim.{Dim}
use Rattle.dh_tree.specs.declared.trees.programs.DimPlaces.{DimPlaces}
use Rattle.dh_lexer.specs.declared.tokens.Token.{Token}
use Rattle.dh_parser.specs.declared.parsing.reading.Mark.TheVariants as mark
use Rattle.dh_parser.specs.Marks.{comes}
use Rattle.dh_parser.specs.declared.parsing.reading.Numeral.{Numeral}
use Rattle.dh_parser.specs.declared.parsing.types.WrittenBanks.{WrittenBanks}
use Rattle.dh_parser.specs.Answers.{SameNumber, SameBanks, SameDim}
use Rattle.dh_parser.specs.Grammar.{NumberText, BanksText, no_dims, dim_then}
use Rattle.dh_parser.specs.TreesOfTexts.{placed_of, bank_word_place, banks_of_text, dimensions_of_text, dimension_places_of_text}
use Rattle.dh_parser.specs.Reading.{good, outcome_bind, the, the_number, the_banks, the_dim, the_dims}
use Rattle.dh_parser.proofs.Going.{assoc, same_bind, if_true, if_false}

pub dims_go : (ts : List Token) → comes mark.OpenBracket ts ≡ true → (n : ℕ)
    → the_dims (suc n) ts ≡ outcome_bind (the_dim ts) (λ put r. outcome_bind (the_dims n r) (λ more r. good (put more) r))
dims_go ts e n =
    if_true (comes mark.OpenBracket ts) _ _ e ∙ sym (
    assoc (the mark.OpenBracket ts) _ _ ∙ same_bind (the mark.OpenBracket ts) _ _ λ opener r0.
    assoc (the_number r0) _ _ ∙ same_bind (the_number r0) _ _ λ size r1.
    assoc (the_banks r1) _ _ ∙ same_bind (the_banks r1) _ _ λ banks r2.
    assoc (the mark.CloseBracket r2) _ _ ∙ same_bind (the mark.CloseBracket r2) _ _ λ closer r3.
    refl)

pub dims_end : (ts : List Token) → comes mark.OpenBracket ts ≡ false → (n : ℕ) → the_dims (suc n) ts ≡ good no_dims ts
dims_end ts e n = if_false (comes mark.OpenBracket ts) _ _ e

abbrev dim_with : ℕ → ℕ → Dim
dim_with size banks = record { size = size; banks = banks }

abbrev places_with : Place → Place → Option Place → Place → DimPlaces
places_with opener size word banks = record { open_place = opener; size_place = size; word_place = word; banks_place = banks }

-- a dimension by its parts
pub dim_seen : (o : Place) (size : Numeral) (b : WrittenBanks) (opener : Place) (s : NumberText) (banks : BanksText) (closer : Place) → o ≡ opener → SameNumber size (placed_of s) → SameBanks size.place b banks
    → SameDim (record { dim = dim_with size.value b.number.value; places = places_with o size.place b.word b.number.place }) (λ more. dim_then opener s banks closer more)
dim_seen o size b opener s banks closer p q r = λ more. (
  sym (ap (λ n. dim_with n b.number.value ∷ dimensions_of_text more) q.0 ∙ ap (λ n. dim_with s.value n ∷ dimensions_of_text more) (r.1.0 ∙ ap (λ z. (banks_of_text z banks).value) q.1)),
  sym (ap (λ z. places_with z size.place b.word b.number.place ∷ dimension_places_of_text more) p ∙ (ap (λ z. places_with opener z b.word b.number.place ∷ dimension_places_of_text more) q.1
      ∙ (ap (λ z. places_with opener s.place z b.number.place ∷ dimension_places_of_text more) r.0 ∙ ap (λ z. places_with opener s.place (bank_word_place banks) z ∷ dimension_places_of_text more) (r.1.1 ∙ ap (λ z. (banks_of_text z banks).place) q.1)))),
)
