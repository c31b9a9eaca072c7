-- Kinds and types that are being read can be gone on with.
use Rattle.std.proofs.Common.{◌≡◌, ℕ, zero, suc, List, [], ◌∷◌, length, refl}
use Rattle.dh_lexer.specs.declared.tokens.Token.{Token}
use Rattle.dh_lexer.specs.declared.tokens.TokenKind.{TokenKind}
use Rattle.dh_lexer.specs.declared.tokens.TokenKind.TheVariants as kind
use Rattle.dh_parser.specs.declared.parsing.reading.Mark.TheVariants as mark
use Rattle.dh_parser.specs.Marks.{comes}
use Rattle.dh_parser.specs.Grammar.{bool_kind, bit_kind, ubit_kind, no_ports, some_ports, no_banks, some_banks, no_dims, dim_then}
use Rattle.dh_parser.specs.Spelling.{put_number, spell_kind, spell_ports, spell_banks, spell_dims, spell_type}
use Rattle.dh_parser.specs.Allowed.{WidthFits, KindFits}
use Rattle.dh_parser.specs.Reading.{is_width, width_from, the_width, kind_from, the_kind, the_ports, the_banks, the_dims, type_text, the_type}
use Rattle.dh_parser.proofs.SoundBasics.{any}
use Rattle.dh_parser.proofs.SoundTypes.{width_took, kind_took, ports_took, banks_took, dims_took, TypeFits, type_took}
use Rattle.dh_parser.proofs.Fronts.{number_front, kind_front, ports_front, banks_front, dims_front, type_front}
use Rattle.dh_parser.proofs.GoesBasics.{Goes, Opens, GoesOn, Part, part_of, part, done, gave_up, stuck, pick, took_token, here, some_number, one_is_width, mark_goes, number_goes}

width_go_from : (b : List Token → List Token) (z : List Token) → Opens WidthFits put_number b z → (k : TokenKind) (t : Token) (ts : List Token) → Goes b (t ∷ ts) (width_from k t ts)
width_go_from b z o (kind.Number n) t ts = pick (is_width n) done (stuck _ (o some_number one_is_width))
width_go_from b z o _ t ts = stuck _ (o some_number one_is_width)

width_go : GoesOn WidthFits put_number the_width
width_go b z o [] = stuck _ (o some_number one_is_width)
width_go b z o (t ∷ ts) = width_go_from b z o t.kind t ts

width_goes : Part WidthFits put_number the_width
width_goes = part_of number_front width_took width_go

kind_go_from : (b : List Token → List Token) (z : List Token) → Opens KindFits spell_kind b z → (k : TokenKind) (t : Token) (ts : List Token) → t.kind ≡ k → Goes b (t ∷ ts) (kind_from k t ts)
kind_go_from b z o kind.Bool t ts e = done
kind_go_from b z o kind.Bit t ts e =
    took_token t e (
    part (mark_goes mark.Less) ts _ (λ p _. o (bit_kind t.place p some_number here) one_is_width) λ less r0 _.
    part width_goes r0 _ (λ n f. o (bit_kind t.place less n here) f) λ width r1 f.
    part (mark_goes mark.Greater) r1 _ (λ p _. o (bit_kind t.place less width p) f) λ greater r2 _.
    done)
kind_go_from b z o kind.Ubit t ts e =
    took_token t e (
    part (mark_goes mark.Less) ts _ (λ p _. o (ubit_kind t.place p some_number here) one_is_width) λ less r0 _.
    part width_goes r0 _ (λ n f. o (ubit_kind t.place less n here) f) λ width r1 f.
    part (mark_goes mark.Greater) r1 _ (λ p _. o (ubit_kind t.place less width p) f) λ greater r2 _.
    done)
kind_go_from b z o _ t ts e = stuck _ (o (bool_kind here) tt)

kind_go : GoesOn KindFits spell_kind the_kind
kind_go b z o [] = stuck _ (o (bool_kind here) tt)
kind_go b z o (t ∷ ts) = kind_go_from b z o t.kind t ts refl

pub kind_goes : Part KindFits spell_kind the_kind
kind_goes = part_of kind_front kind_took kind_go

ports_go : GoesOn any spell_ports the_ports
ports_go b z o ts =
    pick (comes mark.OpenBrace ts) (
    part (mark_goes mark.OpenBrace) ts _ (λ p _. o (some_ports p some_number here) tt) λ opener r0 _.
    part number_goes r0 _ (λ n _. o (some_ports opener n here) tt) λ ports r1 _.
    part (mark_goes mark.CloseBrace) r1 _ (λ p _. o (some_ports opener ports p) tt) λ closer r2 _.
    done)
    done

banks_go : GoesOn any spell_banks the_banks
banks_go b z o ts =
    pick (comes mark.Bank ts) (
    part (mark_goes mark.Bank) ts _ (λ p _. o (some_banks p some_number) tt) λ word r0 _.
    part number_goes r0 _ (λ n _. o (some_banks word n) tt) λ banks r1 _.
    done)
    done

dims_go : (n : ℕ) → GoesOn any spell_dims (the_dims n)
dims_go zero b z o ts = gave_up
dims_go (suc n) b z o ts =
    pick (comes mark.OpenBracket ts) (
    part (mark_goes mark.OpenBracket) ts _ (λ p _. o (dim_then p some_number no_banks here no_dims) tt) λ opener r0 _.
    part number_goes r0 _ (λ s _. o (dim_then opener s no_banks here no_dims) tt) λ size r1 _.
    part (part_of banks_front banks_took banks_go) r1 _ (λ s _. o (dim_then opener size s here no_dims) tt) λ banks r2 _.
    part (mark_goes mark.CloseBracket) r2 _ (λ p _. o (dim_then opener size banks p no_dims) tt) λ closer r3 _.
    part (part_of dims_front (dims_took n) (dims_go n)) r3 _ (λ more _. o (dim_then opener size banks closer more) tt) λ more r4 _.
    done)
    done

type_go : GoesOn TypeFits spell_type the_type
type_go b z o ts =
    part kind_goes ts _ (λ k f. o (type_text k no_ports no_dims) f) λ k r0 f.
    part (part_of ports_front ports_took ports_go) r0 _ (λ p _. o (type_text k p no_dims) f) λ ports r1 _.
    part (part_of dims_front (dims_took (suc (length r1))) (dims_go (suc (length r1)))) r1 _ (λ d _. o (type_text k ports d) f) λ dims r2 _.
    done

pub type_goes : Part TypeFits spell_type the_type
type_goes = part_of type_front type_took type_go
