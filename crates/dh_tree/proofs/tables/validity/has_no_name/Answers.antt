-- An entry of the table has the name where the comparison of bytes says so.
use Rattle.std.proofs.Common.{◌≡◌, ℕ, ◌+◌, ◌<◌, ◌↔◌, length, drop, true, false, List, ◌∷◌, get_or, sym, ap, suc, subst, ◌∙◌, IsTrue, add-one}
use Rattle.std.specs.Prelude.{bytes_eq}
use Rattle.std.proofs.Math.Seq.{drop-cons}
use Rattle.std.proofs.lemmas.Slice.Eq.{bytes_eq-Decides}
use Rattle.dh_tree.specs.Tables.{HasNoName}
use Rattle.dh_tree.specs.declared.tables.MemEntry.{MemEntry}
use Rattle.dh_tree.proofs.tables.validity.has_no_name.Goals as goal

item : (es : List MemEntry) (i : ℕ) (e : MemEntry) → i < length es → e ≡ get_or es i e → drop i es ≡ e ∷ drop (i + 1) es
item es i e inside is = rw add-one (drop-cons es i e inside ∙ ap (λ x. x ∷ drop (suc i) es) (sym is))

-- an entry with the name
found : (name : List ℕ) (es : List MemEntry) (i : ℕ) (e : MemEntry) → i < length es → e ≡ get_or es i e → bytes_eq e.name name ≡ true
    → HasNoName name (drop i es) ↔ HasNoName name es → IsTrue false ↔ HasNoName name es
found name es i e inside is eq so =
    let at = item es i e inside is in
    (λ false_is. absurd (cc), λ h. absurd ((subst (λ (x : List MemEntry). HasNoName name x) at (so.1 h)).0 ((bytes_eq-Decides e.name name).0 eq)))

-- an entry with another name
passed : (name : List ℕ) (es : List MemEntry) (i : ℕ) (e : MemEntry) → i < length es → e ≡ get_or es i e → bytes_eq e.name name ≡ false
    → HasNoName name (drop i es) ↔ HasNoName name es → HasNoName name (drop (i + 1) es) ↔ HasNoName name es
passed name es i e inside is differ so =
    let at = item es i e inside is in (
      λ rest. so.0 (subst (λ (x : List MemEntry). HasNoName name x) (sym at) ((λ same. let equal = (bytes_eq-Decides e.name name).1 same in cc), rest)),
      λ h. (subst (λ (x : List MemEntry). HasNoName name x) at (so.1 h)).1,
    )

pub returns-then-eq : goal.returns-then-eq
returns-then-eq c =
    found c.args.name.now c.args.entries.now _ _ c.loop-entry-test.true c.entry-item.is
    (ap (λ text. bytes_eq text c.args.name.now) (sym c.as_str.ensures) ∙ sym c.if-eq.ensures) c.loop-entry.invariant

pub loop-entry-preserved : goal.loop-entry-preserved
loop-entry-preserved c =
    passed c.args.name.now c.args.entries.now _ _ c.loop-entry-test.true c.entry-item.is
    (ap (λ text. bytes_eq text c.args.name.now) (sym c.as_str.ensures) ∙ sym c.if-eq.ensures) c.loop-entry.invariant
