-- Structures are only added, and what is noted stays right behind them.
use Rattle.std.proofs.Common.{◌≡◌, ℕ, suc, ◌+◌, true, false, List, [], ◌∷◌, ◌++◌, length, ap, ◌∙◌, arith}
use Rattle.std.specs.Prelude.{Option, Some, None}
use Rattle.dh_tree.specs.PlainTrees.{Term, term, TermForm, number, truth_value, named, accessed, in_bank, applied, converted, Terms, no_terms, term_then}
use Rattle.dh_meets.specs.SourceEvents.{Element, with_indices, in_row}
use Rattle.dh_events.specs.declared.structures.Structure.{Structure}
use Rattle.dh_events.specs.declared.structures.MaybeKind.{MaybeKind}
use Rattle.dh_events.specs.declared.events.Event.{Event}
use Rattle.dh_events.specs.declared.events.Event.TheVariants as event
use Rattle.dh_events.specs.Structures.{Describes, DescribesForm, DescribesFrom, DescribesElement, ExtendsStructures}
use Rattle.dh_events.specs.Elements.{IsElement, IsNumberOf, IsRead, AreReads, ElementNameless, clocks_after, clocks_from}

pub extends_same : (xs : List Structure) → ExtendsStructures xs xs
extends_same xs n s e = e

pub extends_both : (xs ys zs : List Structure) → ExtendsStructures xs ys → ExtendsStructures ys zs → ExtendsStructures xs zs
extends_both xs ys zs f g n s e = g n s (f n s e)

module _ (old new : List Structure) (more : ExtendsStructures old new) where
  mutual
    pub describes_still : (n : ℕ) (t : Term) → Describes old n t → Describes new n t
    describes_still n (term place k f) d = form_still n _ f d

    form_still : (n : ℕ) (s : MaybeKind) (f : TermForm) → DescribesForm old n s f → DescribesForm new n s f
    form_still n s (number negative value) d = more n _ d
    form_still n s (truth_value value) d = more n _ d
    form_still n s (named r) (e, (h, d)) = (e, (h, more n _ d))
    form_still n s (accessed r indices) (e, (m, (h, (i, d)))) = (e, (m, (h, (from_still None indices m i, more n _ d))))
    form_still n s (in_bank r bank bank_place row) (e, (m, (l, (h, (i, (g, d)))))) = (e, (m, (l, (h, (describes_still l row i, (more m _ g, more n _ d))))))
    form_still n s (applied op left right) (l, (r, (i, (j, d)))) = (l, (r, (describes_still l left i, (describes_still r right j, more n _ d))))
    form_still n s (converted inner to) (m, (i, d)) = (m, (describes_still m inner i, more n _ d))

    pub from_still : (b : Option ℕ) (ts : Terms) (n : ℕ) → DescribesFrom old b ts n → DescribesFrom new b ts n
    from_still None no_terms n d = more n _ d
    from_still (Some b) no_terms n d = d
    from_still b (term_then t ts) n (l, (m, (i, (g, d)))) = (l, (m, (describes_still l t i, (more m _ g, from_still (Some m) ts n d))))

  element_still : (n : ℕ) (e : Element) → DescribesElement old n e → DescribesElement new n e
  element_still n (with_indices indices) d = from_still None indices n d
  element_still n (in_row bank row) (l, (i, d)) = (l, (describes_still l row i, more n _ d))

  number_still : (o : Option ℕ) (e : Element) → IsNumberOf (λ n. DescribesElement old n) ElementNameless o e → IsNumberOf (λ n. DescribesElement new n) ElementNameless o e
  number_still None e d = d
  number_still (Some n) e d = element_still n e d

  pub is_element_still : (clocks : ℕ → ℕ) (e : Element) (o : Option ℕ) (moment : ℕ) → IsElement old clocks e o moment → IsElement new clocks e o moment
  is_element_still clocks e o moment i = record { number = number_still o e i.number; newest = i.newest }

  read_still : (clocks : ℕ → ℕ) (e : Event) → IsRead old clocks e → IsRead new clocks e
  read_still clocks (event.Touch true phase round a element newest) i = i
  read_still clocks (event.Touch false phase round a element newest) i = is_element_still clocks _ element newest i
  read_still clocks (event.Assigned entity) i = i
  read_still clocks event.ArmBegins i = i
  read_still clocks event.ArmEnds i = i
  read_still clocks event.Begins i = i
  read_still clocks event.Next i = i
  read_still clocks event.Ends i = i

  pub reads_still : (clocks : ℕ → ℕ) (place : ℕ) (es : List Event) → AreReads old clocks place es → AreReads new clocks place es
  reads_still clocks place [] i = i
  reads_still clocks place (e ∷ es) i = (read_still clocks e i.0, reads_still (clocks_after clocks place e) (place + 1) es i.1)

-- one event more
pub clocks_more : (clocks : ℕ → ℕ) (place : ℕ) (es : List Event) (e : Event) → clocks_from clocks place (es ++ e ∷ []) ≡ clocks_after (clocks_from clocks place es) (place + length es) e
clocks_more clocks place [] e = ap (λ n. clocks_after clocks n e) (none place)
  where
    none : (n : ℕ) → n ≡ n + 0
    none n = omega arith
clocks_more clocks place (x ∷ es) e = clocks_more (clocks_after clocks place x) (place + 1) es e ∙ ap (λ n. clocks_after (clocks_from (clocks_after clocks place x) (place + 1) es) n e) (shift place (length es))
  where
    shift : (n m : ℕ) → n + 1 + m ≡ n + suc m
    shift n m = omega arith

pub reads_more : (known : List Structure) (clocks : ℕ → ℕ) (place : ℕ) (es : List Event) (e : Event) → AreReads known clocks place es → IsRead known (clocks_from clocks place es) e → AreReads known clocks place (es ++ e ∷ [])
reads_more known clocks place [] e i r = (r, tt)
reads_more known clocks place (x ∷ es) e i r = (i.0, reads_more known (clocks_after clocks place x) (place + 1) es e i.1 r)
