-- The comments on memories and on faults tell what they are about.
use Rattle.std.proofs.Common.{◌≡◌, ℕ, ◌<◌, ◌≤◌, ◌^◌, Bool, true, false, List, [], ◌∷◌, ◌++◌, ◌∙◌, ap, sym, refl, append_assoc, append-nil, arith, inl, inr}
use Rattle.std.specs.Prelude.{codes, slice_index}
use Rattle.std.specs.Fmt.{decimal}
use Rattle.std.specs.List.{AllByRecursion}
use Rattle.std.proofs.lemmas.List.{append_cancel_left}
use Rattle.dh_base.specs.declared.outcomes.FaultKind.{FaultKind}
use Rattle.dh_base.specs.declared.outcomes.FaultKind.TheVariants as fault
use Rattle.dh_base.specs.declared.places.Place.{Place}
use Rattle.dh_tree.specs.Names.{IsLetter, IsNameByte, IsIdentifier}
use Rattle.dh_value.specs.Words.{IsInteger}
use Rattle.dh_value.specs.declared.kinds.Kind.{Kind}
use Rattle.dh_value.specs.declared.kinds.Kind.TheVariants as kind
use Rattle.dh_tree.specs.declared.tables.Dim.{Dim}
use Rattle.dh_tree.specs.declared.tables.MemEntry.{MemEntry}
use Rattle.dh_tree.specs.declared.tables.Shape.{Shape}
use Rattle.dh_verilog.specs.Head.{kind_text, dim_text, dims_text, side_text, memory_line, fault_line}
use Rattle.dh_verilog.specs.Ranges.{IsPlaceInRange}
use Rattle.dh_verilog.proofs.Reading.{NoDigit, NoSpace, number_then, no_space, unlike}
use Rattle.dh_verilog.proofs.Shapes.{Piece, fixed, numeral, word, same_line}
use Rattle.dh_verilog.proofs.Lines.{Begins, Ends, Tells, equal_items, same_each}
use Rattle.dh_verilog.proofs.Declared.{Anything}
use Rattle.dh_base.specs.Faults.{fault_name}

-- a name has no space
letter_no_space : (b : ℕ) → IsLetter b → b ≡ 32 → ⊥
letter_no_space b (inl h) e = omega arith
letter_no_space b (inr (inl h)) e = omega arith
letter_no_space b (inr (inr h)) e = omega arith

byte_no_space : (b : ℕ) → IsNameByte b → b ≡ 32 → ⊥
byte_no_space b (inl h) e = letter_no_space b h e
byte_no_space b (inr h) e = omega arith

bytes_no_space : (bs : List ℕ) → AllByRecursion IsNameByte bs → NoSpace bs
bytes_no_space [] h = tt
bytes_no_space (b ∷ bs) h = (byte_no_space b h.0, bytes_no_space bs h.1)

name_no_space : (bs : List ℕ) → IsIdentifier bs → NoSpace bs
name_no_space [] h = tt
name_no_space (b ∷ bs) h = (letter_no_space b h.0, bytes_no_space bs h.1)

-- kinds
width_small : (w : ℕ) → w ≤ 64 → w < 2 ^ 64
width_small w h = omega arith

same_kind : (j k : Kind) (x y : List ℕ) → IsInteger j → IsInteger k → NoDigit x → NoDigit y → kind_text j ++ x ≡ kind_text k ++ y → (j ≡ k) × (x ≡ y)
same_kind kind.Bool k x y hj hk sx sy e = absurd hj
same_kind (kind.Unsigned v) kind.Bool x y hj hk sx sy e = absurd hk
same_kind (kind.Signed v) kind.Bool x y hj hk sx sy e = absurd hk
same_kind (kind.Unsigned v) (kind.Unsigned w) x y hj hk sx sy e =
    let t = number_then v w x y (width_small v hj.1) (width_small w hk.1) sx sy (append_cancel_left (codes "ubit ") (decimal v ++ x) (decimal w ++ y) e) in
    (ap (λ n. kind.Unsigned n) t.0, t.1)
same_kind (kind.Signed v) (kind.Signed w) x y hj hk sx sy e =
    let t = number_then v w x y (width_small v hj.1) (width_small w hk.1) sx sy (append_cancel_left (codes "bit ") (decimal v ++ x) (decimal w ++ y) e) in
    (ap (λ n. kind.Signed n) t.0, t.1)
same_kind (kind.Unsigned v) (kind.Signed w) x y hj hk sx sy e =
    absurd (unlike 117 98 refl (ap (λ l. slice_index l 0) e))
same_kind (kind.Signed v) (kind.Unsigned w) x y hj hk sx sy e =
    absurd (unlike 98 117 refl (ap (λ l. slice_index l 0) e))

-- dimensions
pub record IsSmallDim (d : Dim) : Type 0 where
  pub size : d.size < 2 ^ 64
  pub banks : d.banks < 2 ^ 64

abbrev next_dim : ℕ → Dim → List ℕ
next_dim i d = codes "x" ++ dim_text d

abbrev dim_of : (size banks : ℕ) → Dim
dim_of s b = record { size = s; banks = b }

one_dim : (c d : Dim) → c.size ≡ d.size → c.banks ≡ d.banks → c ≡ d
one_dim c d p q = ap (λ s. dim_of s c.banks) p ∙ ap (λ b. dim_of d.size b) q

dim_begins : Begins next_dim 0 120 NoDigit
dim_begins = record { byte = λ i d x. refl; next = λ i d x. refl }

abbrev dim_pieces : Dim → List Piece
dim_pieces d = fixed (codes "x") ∷ (numeral d.size ∷ (fixed (codes ":") ∷ (numeral d.banks ∷ [])))

dim_tells : Tells next_dim IsSmallDim (λ c d. c ≡ d) NoDigit
dim_tells i c d x y hc hd sx sy e =
    let t = same_line (dim_pieces c) (dim_pieces d) [] [] x y (refl, (hc.size, (hd.size, (refl, (refl, (refl, (hc.banks, (hd.banks, (sx, (sy, tt)))))))))) (regroup c x ∙ (e ∙ sym (regroup d y))) in
    (one_dim c d t.0.0 t.0.1.0, t.1)
  where
    regroup : (d : Dim) (x : List ℕ) → (120 ∷ (decimal d.size ++ (58 ∷ (decimal d.banks ++ [])))) ++ x ≡ (120 ∷ (decimal d.size ++ (58 ∷ decimal d.banks))) ++ x
    regroup d x = simp append-nil

abbrev pub IsSomeDims : List Dim → Type 0
IsSomeDims [] = ⊥
IsSomeDims (d ∷ ds) = Unit {0}

same_dims : (cs ds : List Dim) (x y : List ℕ) → IsSomeDims cs → IsSomeDims ds → AllByRecursion IsSmallDim cs → AllByRecursion IsSmallDim ds → Ends 0 120 NoDigit x → Ends 0 120 NoDigit y
    → dims_text cs ++ x ≡ dims_text ds ++ y → (cs ≡ ds) × (x ≡ y)
same_dims [] ds x y c d gc gd ex ey e = absurd c
same_dims (a ∷ cs) [] x y c d gc gd ex ey e = absurd d
same_dims (a ∷ cs) (b ∷ ds) x y c d gc gd ex ey e =
    let t = same_each (next_dim 0) 0 120 IsSmallDim (λ c d. c ≡ d) NoDigit dim_begins dim_tells (a ∷ cs) (b ∷ ds) x y gc gd ex ey (ap (λ l. 120 ∷ l) e) in
    (equal_items (a ∷ cs) (b ∷ ds) t.0, t.1)

-- where a memory lies
same_side : (s t : Bool) (x y : List ℕ) → side_text s ++ x ≡ side_text t ++ y → (s ≡ t) × (x ≡ y)
same_side true true x y e = (refl, append_cancel_left (codes "outside") x y e)
same_side false false x y e = (refl, append_cancel_left (codes "local") x y e)
same_side true false x y e =
    absurd (unlike 111 108 refl (ap (λ l. slice_index l 0) e))
same_side false true x y e =
    absurd (unlike 108 111 refl (ap (λ l. slice_index l 0) e))

-- memories
pub record IsSmallEntry (e : MemEntry) : Type 0 where
  pub name : IsIdentifier e.name
  pub integer : IsInteger e.shape.kind
  pub ports : e.shape.ports < 2 ^ 64
  pub some : IsSomeDims e.shape.dims
  pub dims : AllByRecursion IsSmallDim e.shape.dims

abbrev shape_of : Kind → ℕ → List Dim → Shape
shape_of k p d = record { kind = k; ports = p; dims = d }

abbrev entry_of : List ℕ → Kind → ℕ → List Dim → Bool → MemEntry
entry_of n k p d o = record { name = n; shape = shape_of k p d; outside = o }

one_entry : (a b : MemEntry) → a.name ≡ b.name → a.shape.kind ≡ b.shape.kind → a.shape.ports ≡ b.shape.ports → a.shape.dims ≡ b.shape.dims → a.outside ≡ b.outside → a ≡ b
one_entry a b p q r s t =
    ap (λ n. entry_of n a.shape.kind a.shape.ports a.shape.dims a.outside) p
    ∙ (ap (λ k. entry_of b.name k a.shape.ports a.shape.dims a.outside) q
    ∙ (ap (λ m. entry_of b.name b.shape.kind m a.shape.dims a.outside) r
    ∙ (ap (λ d. entry_of b.name b.shape.kind b.shape.ports d a.outside) s ∙ ap (λ o. entry_of b.name b.shape.kind b.shape.ports b.shape.dims o) t)))

abbrev side_end : MemEntry → List ℕ
side_end e = codes " " ++ (side_text e.outside ++ codes "\n")

abbrev dims_end : MemEntry → List ℕ
dims_end e = dims_text e.shape.dims ++ side_end e

abbrev ports_pieces : MemEntry → List Piece
ports_pieces e = fixed (codes " ports ") ∷ (numeral e.shape.ports ∷ (fixed (codes " dims ") ∷ []))

abbrev kind_end : MemEntry → List ℕ
kind_end e = kind_text e.shape.kind ++ (codes " ports " ++ (decimal e.shape.ports ++ (codes " dims " ++ dims_end e)))

abbrev memory_pieces : ℕ → MemEntry → List Piece
memory_pieces i e = fixed (codes "// memory ") ∷ (fixed (decimal i) ∷ (fixed (codes " ") ∷ (word e.name ∷ [])))

pub memory_begins : Begins memory_line 3 109 Anything
memory_begins = record { byte = λ i e x. refl; next = λ i e x. tt }

abbrev ports_end : MemEntry → List ℕ
ports_end e = codes " ports " ++ (decimal e.shape.ports ++ (codes " dims " ++ dims_end e))

side_ends : (e : MemEntry) (x : List ℕ) → Ends 0 120 NoDigit (side_end e ++ x)
side_ends e x = record { other = λ h. omega arith; next = refl }

pub memory_tells : Tells memory_line IsSmallEntry (λ a b. a ≡ b) Anything
memory_tells i a b x y ha hb nx ny e =
    let t = same_line (memory_pieces i a) (memory_pieces i b) (kind_end a) (kind_end b) x y (refl, (refl, (refl, (name_no_space a.name ha.name, (name_no_space b.name hb.name, tt))))) e in
    let k = same_kind a.shape.kind b.shape.kind (ports_end a ++ x) (ports_end b ++ y) ha.integer hb.integer refl refl
    (sym (append_assoc (kind_text a.shape.kind) (ports_end a) x) ∙ (t.1 ∙ append_assoc (kind_text b.shape.kind) (ports_end b) y)) in
    let p = same_line (ports_pieces a) (ports_pieces b) (dims_end a) (dims_end b) x y (refl, (ha.ports, (hb.ports, (refl, (refl, (refl, tt)))))) k.1 in
    let d = same_dims a.shape.dims b.shape.dims (side_end a ++ x) (side_end b ++ y) ha.some hb.some ha.dims hb.dims (side_ends a x) (side_ends b y)
    (sym (append_assoc (dims_text a.shape.dims) (side_end a) x) ∙ (p.1 ∙ append_assoc (dims_text b.shape.dims) (side_end b) y)) in
    let s = same_side a.outside b.outside (codes "\n" ++ x) (codes "\n" ++ y)
    (sym (append_assoc (side_text a.outside) (codes "\n") x) ∙ (append_cancel_left (codes " ") ((side_text a.outside ++ codes "\n") ++ x) ((side_text b.outside ++ codes "\n") ++ y) d.1 ∙ append_assoc (side_text b.outside) (codes "\n") y)) in
    (one_entry a b t.0.0 k.0 p.0.0 d.0 s.0, append_cancel_left (codes "\n") x y s.1)

-- faults
fault_no_space : (k : FaultKind) → NoSpace (fault_name k)
fault_no_space fault.OutOfRange = no_space (codes "OutOfRange") refl

one_fault_kind : (j k : FaultKind) → fault_name j ≡ fault_name k → j ≡ k
one_fault_kind fault.OutOfRange fault.OutOfRange e = refl

abbrev fault_pieces : ℕ → FaultKind × Place → List Piece
fault_pieces i f =
    fixed (codes "// fault ") ∷ (fixed (decimal i) ∷ (fixed (codes " ") ∷ (word (fault_name f.0) ∷ (numeral f.1.line ∷ (fixed (codes ":") ∷ (numeral f.1.column ∷ (fixed (codes "\n") ∷ [])))))))

pub fault_begins : Begins fault_line 3 102 Anything
fault_begins = record { byte = λ i f x. refl; next = λ i f x. tt }

abbrev place_of : (line column : ℕ) → Place
place_of l c = record { line = l; column = c }

one_place : (p q : Place) → p.line ≡ q.line → p.column ≡ q.column → p ≡ q
one_place p q e f = ap (λ l. place_of l p.column) e ∙ ap (λ c. place_of q.line c) f

abbrev at_place : FaultKind → Place → FaultKind × Place
at_place k p = (k, p)

one_fault : (f g : FaultKind × Place) → f.0 ≡ g.0 → f.1 ≡ g.1 → f ≡ g
one_fault f g p q = ap (λ k. at_place k f.1) p ∙ ap (λ l. at_place g.0 l) q

wide_place : (n : ℕ) → n < 2 ^ 32 → n < 2 ^ 64
wide_place n h = omega arith

pub fault_tells : Tells fault_line (λ f. IsPlaceInRange f.1) (λ f g. f ≡ g) Anything
fault_tells i f g x y hf hg nx ny e =
    let t = same_line (fault_pieces i f) (fault_pieces i g) [] [] x y
    (refl, (refl, (refl, (fault_no_space f.0, (fault_no_space g.0, (wide_place f.1.line hf.line, (wide_place g.1.line hg.line, (refl, (refl, (refl, (wide_place f.1.column hf.column, (wide_place g.1.column hg.column, (refl, (refl, (refl, tt))))))))))))))) e in
    (one_fault f g (one_fault_kind f.0 g.0 t.0.0) (one_place f.1 g.1 t.0.1.0 t.0.1.1.0), t.1)
