-- The contents of the memories one after the other.
use Rattle.std.proofs.Common.{◌≡◌, ℕ, zero, suc, ◌+◌, ◌<◌, List, [], ◌∷◌, ◌++◌, length, take, get_or, Vec, Global, Result, Ok, Err, subst, sym, ap, ◌∙◌, arith}
use Rattle.serde_json.specs.Data.{Members}
use Rattle.dh_tree.specs.declared.tables.MemEntry.{MemEntry}
use Rattle.std.specs.Result.{IsErrAnd}
use Rattle.dh_data.specs.DataFiles.{IsContents, AreContents, StopsAt, IsOtherFormat, IsOtherSize, IsOtherValue}
use Rattle.dh_data.specs.Reading.{SaysContents, SaysLists}
use Rattle.dh_data.specs.declared.data_files.DataFault.{DataFault}
use Rattle.dh_data.specs.declared.data_files.DataFault.TheVariants.{NotJson, Missing, Unknown, Format, Size, Value, NoMemory}

contents_snoc : (ms : Members) (es : List MemEntry) (e : MemEntry) (vs : List (List ℕ)) (v : List ℕ) → AreContents ms es vs → IsContents ms e v → AreContents ms (es ++ e ∷ []) (vs ++ v ∷ [])
contents_snoc ms [] e [] v h g = (g, tt)
contents_snoc ms [] e (w ∷ vs) v h g = absurd h
contents_snoc ms (d ∷ es) e [] v h g = absurd h
contents_snoc ms (d ∷ es) e (w ∷ vs) v h g = (h.0, contents_snoc ms es e vs v h.1 g)

-- at a place of the list that what was read reaches
pub stops_here : (P : MemEntry → Type 0) (ms : Members) (es : List MemEntry) (i : ℕ) (e : MemEntry) (vs : List (List ℕ)) → i < length es → e ≡ get_or es i e
    → AreContents ms (take i es) vs → P e → StopsAt P ms es i
stops_here P ms [] i e vs l is h p = absurd (omega (arith, l))
stops_here P ms (d ∷ es) zero e vs l is h p = subst P is p
stops_here P ms (d ∷ es) (suc i) e [] l is h p = absurd h
stops_here P ms (d ∷ es) (suc i) e (v ∷ vs) l is h p = ((v, h.0), stops_here P ms es i e vs (omega (arith, l)) is h.1 p)

take_more : (es : List MemEntry) (i : ℕ) (e : MemEntry) → i < length es → e ≡ get_or es i e → take (i + 1) es ≡ take i es ++ e ∷ []
take_more [] i e l is = absurd (omega (arith, l))
take_more (d ∷ es) zero e l is = ap (λ x. x ∷ []) (sym is)
take_more (d ∷ es) (suc i) e l is =
    let more : take (suc (i + 1)) (d ∷ es) ≡ take (suc i) (d ∷ es) ++ e ∷ [] = ap (λ x. d ∷ x) (take_more es i e (omega (arith, l)) is) in
    let same : suc i + 1 ≡ suc (i + 1) = omega arith in
    ap (λ n. take n (d ∷ es)) same ∙ more

pub contents_more : (ms : Members) (es : List MemEntry) (i : ℕ) (e : MemEntry) (vs : List (List ℕ)) (v : List ℕ) → i < length es → e ≡ get_or es i e
    → AreContents ms (take i es) vs → IsContents ms e v → AreContents ms (take (i + 1) es) (vs ++ v ∷ [])
contents_more ms es i e vs v l is h g = subst (λ (x : List MemEntry). AreContents ms x (vs ++ v ∷ [])) (sym (take_more es i e l is)) (contents_snoc ms (take i es) e vs v h g)

-- a fault of a memory is where the table stops
pub stopped : (ms : Members) (es : List MemEntry) (i : ℕ) (e : MemEntry) (vs : List (List ℕ)) (f : DataFault) (r : Result (Vec (Vec ℕ Global) Global) DataFault) → i < length es → e ≡ get_or es i e
    → AreContents ms (take i es) vs → SaysContents ms i e (Err f) → IsErrAnd r (λ g. g ≡ f) → SaysLists es ms r
stopped ms es i e vs f (Ok v) l is h g s = absurd s
stopped ms es i e vs NotJson (Err r) l is h g s = absurd g
stopped ms es i e vs (Missing j) (Err r) l is h g s = absurd g
stopped ms es i e vs (Unknown n) (Err r) l is h g s = absurd g
stopped ms es i e vs (Format j) (Err r) l is h g s =
    subst (λ (x : DataFault). SaysLists es ms (Err x)) (sym s) (subst (λ m. StopsAt (IsOtherFormat ms) ms es m) (sym g.0) (stops_here (IsOtherFormat ms) ms es i e vs l is h g.1))
stopped ms es i e vs (Size j) (Err r) l is h g s =
    subst (λ (x : DataFault). SaysLists es ms (Err x)) (sym s) (subst (λ m. StopsAt (IsOtherSize ms) ms es m) (sym g.0) (stops_here (IsOtherSize ms) ms es i e vs l is h g.1))
stopped ms es i e vs (Value j p) (Err r) l is h g s =
    subst (λ (x : DataFault). SaysLists es ms (Err x)) (sym s) (subst (λ m. StopsAt (IsOtherValue ms p) ms es m) (sym g.0) (stops_here (IsOtherValue ms p) ms es i e vs l is h g.1))
stopped ms es i e vs NoMemory (Err r) l is h g s = subst (λ (x : DataFault). SaysLists es ms (Err x)) (sym s) tt
