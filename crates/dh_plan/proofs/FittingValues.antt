-- Each value of a well-formed block is of the kind of its operation, and fits it. By induction over the operations,
-- with the values and the kinds made so far side by side. A kind that is made stays as more are appended, so an
-- operation, which takes earlier values alone, finds them of the kinds that it needs. What a sum, product or shift
-- gives is a residue; bits of two numbers joined are below what both are below; a read shows an element of its own
-- memory, or 0.
use Rattle.std.proofs.Common.{◌≡◌, ℕ, zero, suc, ◌+◌, ◌-◌, ◌<◌, ◌^◌, Some, None, List, length, get_or, refl, sym, ap, subst, ◌∙◌, arith}
use Rattle.std.specs.Prelude.{[], ◌∷◌, ◌++◌, Bool, true, false, if◌then◌else◌, slice_get, slice_index, Option, ℤ}
use Rattle.std.specs.List.{AllByRecursion}
use Rattle.std.proofs.lemmas.List.{get_or_append_left}
use Rattle.std.proofs.lemmas.Nat.{pow_pos, or_lt, xor_lt, and_le_l}
use Rattle.dh_value.proofs.Residues.{residue-lt}
use Rattle.dh_value.proofs.Values.{same_width}
use Rattle.dh_value.proofs.WordLaws.{binary_kind}
use Rattle.dh_value.specs.declared.kinds.Kind.{Kind}
use Rattle.dh_value.specs.declared.kinds.Kind.TheVariants as kind
use Rattle.dh_value.specs.declared.operators.Op.{Op}
use Rattle.dh_value.specs.declared.operators.Op.TheVariants as op
use Rattle.dh_value.specs.declared.words.Word.{Word}
use Rattle.dh_value.specs.Operations.{Suits, result_of, truth, is_true, binary_of}
use Rattle.dh_value.specs.Words.{width_of, value_of, word_of}
use Rattle.dh_tree.specs.declared.tables.MemEntry.{MemEntry}
use Rattle.dh_tree.specs.Elements.{Spot, dims_at}
use Rattle.dh_tree.specs.Tables.{Fits}
use Rattle.dh_meaning.specs.Effects.{kind_in, bits_at, is_inside, is_row, spot_by_indices, spot_by_row}
use Rattle.dh_plan.specs.declared.operations.Operation.{Operation}
use Rattle.dh_plan.specs.declared.operations.OperationForm.{OperationForm}
use Rattle.dh_plan.specs.declared.operations.OperationForm.TheVariants.{Constant, Old, Compute, Convert, Select, Check, Probe, Read, Write, Set}
use Rattle.dh_plan.specs.declared.operations.Reach.{Reach}
use Rattle.dh_plan.specs.PlainPlans.{PlainPlan, first_in, operations_in}
use Rattle.dh_plan.specs.Blocks.{StepStart, Look, no_word, word_at, is_on, bank_picked, spot_if_inside, spot_in_row, spot_of_reach, in_memories, form_word, guarded, operation_word, values_behind, values_of_operations}
use Rattle.dh_plan.specs.Correspondence.{FitKinds}
use Rattle.dh_plan.specs.Ordered.{one_or_none, form_takes, operation_takes, IsBetween, TakesEarlier}
use Rattle.dh_plan.specs.PlanKinds.{kind_of_value, form_kind, kinds_behind, kinds_of, FormSuits, OperationSuits, IsFormedBlock}
use Rattle.dh_plan.specs.PlanRuns.{start_at}
use Rattle.dh_plan.specs.SoundRuns.{IsInKind, LooksFit, BlockValuesFit, PlanValuesFit}
use Rattle.dh_plan.proofs.BlocksSolved.{length_more}
use Rattle.dh_plan.proofs.ValuesAlike.{all_right, all_map}

pub pick : {A : Type 0} (P : A → Type 0) (b : Bool) (x y : A) → P x → P y → P (if b then x else y)
pick P true x y p q = p
pick P false x y p q = q

-- Operations of words.

word_small : (k : Kind) (z : ℤ) → (word_of k z).bits < 2 ^ width_of k
word_small k z = residue-lt (2 ^ width_of k) z (pow_pos (width_of k))

truth_small : (t : Bool) → (truth t).bits < 2 ^ 1
truth_small true = omega arith
truth_small false = omega arith

abbrev BitsFit : Word → Type 0
BitsFit w = w.bits < 2 ^ width_of w.kind

-- the second operand of two of one integer kind fits the first one's width
second_small : (k l : Kind) (n : ℕ) → width_of l ≡ width_of k → n < 2 ^ width_of l → n < 2 ^ width_of k
second_small k l n same small = subst (λ (w : ℕ). n < 2 ^ w) same small

binary_small : (o : Op) (a b : Word) → BitsFit a → BitsFit b → Suits o a.kind b.kind → BitsFit (binary_of o a b)
binary_small op.Add a b p q s = word_small a.kind _
binary_small op.Sub a b p q s = word_small a.kind _
binary_small op.Mul a b p q s = word_small a.kind _
binary_small op.And a b p q s = (let less = and_le_l a.bits b.bits in omega (arith, less, p))
binary_small op.Or a b p q s = or_lt (width_of a.kind) a.bits b.bits p (second_small a.kind b.kind b.bits (same_width a.kind b.kind s) q)
binary_small op.Xor a b p q s = xor_lt (width_of a.kind) a.bits b.bits p (second_small a.kind b.kind b.bits (same_width a.kind b.kind s) q)
binary_small op.Shl a b p q s = word_small a.kind _
binary_small op.Shr a b p q s = word_small a.kind _
binary_small op.Lt a b p q s = truth_small _
binary_small op.Gt a b p q s = truth_small _
binary_small op.Le a b p q s = truth_small _
binary_small op.Ge a b p q s = truth_small _
binary_small op.Eq a b p q s = truth_small _
binary_small op.Ne a b p q s = truth_small _
binary_small op.Both a b p q s = truth_small _
binary_small op.Either a b p q s = truth_small _

own_small : (k : Kind) (w : Word) → IsInKind k w → BitsFit w
own_small k w h = subst (λ (l : Kind). w.bits < 2 ^ width_of l) (sym h.same) h.small

in_own_kind : (k : Kind) (w : Word) → w.kind ≡ k → BitsFit w → IsInKind k w
in_own_kind k w same small = record { same = same; small = subst (λ (l : Kind). w.bits < 2 ^ width_of l) same small }

pub binary_fits : (o : Op) (k l : Kind) (a b : Word) → IsInKind k a → IsInKind l b → Suits o k l → IsInKind (result_of o k) (binary_of o a b)
binary_fits o k l a b p q s =
    in_own_kind (result_of o k) (binary_of o a b) (binary_kind o a b ∙ ap (λ (x : Kind). result_of o x) p.same)
    (binary_small o a b (own_small k a p) (own_small l b q)
    (subst (λ (x : Kind). Suits o x b.kind) (sym p.same) (subst (λ (y : Kind). Suits o k y) (sym q.same) s)))

-- Reads.

-- an access leads into this memory, if anywhere
abbrev pub LeadsIntoMemory : (memory : ℕ) → Option Spot → Type 0
LeadsIntoMemory memory None = Unit {0}
LeadsIntoMemory memory (Some spot) = spot.memory ≡ memory

indices_lead : (table : List MemEntry) (memory : ℕ) (indices : List ℤ) → LeadsIntoMemory memory (spot_by_indices table memory indices)
indices_lead table memory indices = pick (LeadsIntoMemory memory) (is_inside (dims_at table memory) indices) _ None refl tt

inside_leads : (table : List MemEntry) (memory : ℕ) (o : Option (List ℤ)) → LeadsIntoMemory memory (spot_if_inside table memory o)
inside_leads table memory None = tt
inside_leads table memory (Some indices) = indices_lead table memory indices

row_leads : (table : List MemEntry) (memory bank : ℕ) (row : ℤ) → LeadsIntoMemory memory (spot_by_row table memory bank row)
row_leads table memory bank row = pick (LeadsIntoMemory memory) (is_row (dims_at table memory) row) _ None refl tt

leads_by_row : (s : StepStart) (first : ℕ) (ws : List Word) (r : Reach) (row : Option ℕ) → LeadsIntoMemory r.memory (spot_in_row s first ws r row)
leads_by_row s first ws r None = inside_leads s.table r.memory _
leads_by_row s first ws r (Some row) = row_leads s.table r.memory (bank_picked first ws r.banks r.select) (value_of (word_at first ws row))

pub reach_leads : (s : StepStart) (first : ℕ) (ws : List Word) (r : Reach) → LeadsIntoMemory r.memory (spot_of_reach s first ws r)
reach_leads s first ws r = leads_by_row s first ws r r.row

-- an item of a list whose items are below a bound, or the 0 past its end
item_below : (m : ℕ) → 0 < m → (xs : List ℕ) → AllByRecursion (λ v. v < m) xs → (i : ℕ) → slice_index xs i < m
item_below m some [] all i = some
item_below m some (x ∷ xs) all zero = all.0
item_below m some (x ∷ xs) all (suc i) = item_below m some xs all.1 i

-- an element of memories that fit is one of its memory's kind
element_small : (table : List MemEntry) (memories : List (List ℕ)) → Fits table memories → (m i : ℕ) → slice_index (get_or memories m []) i < 2 ^ width_of (kind_in table m)
element_small [] [] fits m i = pow_pos 1
element_small [] (x ∷ xs) fits m i = absurd fits
element_small (e ∷ es) [] fits m i = absurd fits
element_small (e ∷ es) (x ∷ xs) fits zero i = item_below (2 ^ width_of e.shape.kind) (pow_pos (width_of e.shape.kind)) x fits.0.small i
element_small (e ∷ es) (x ∷ xs) fits (suc m) i = element_small es xs fits.1 m i

spot_small : (table : List MemEntry) (memories : List (List ℕ)) → Fits table memories → (memory : ℕ) (o : Option Spot) → LeadsIntoMemory memory o → bits_at memories o < 2 ^ width_of (kind_in table memory)
spot_small table memories fits memory None h = pow_pos (width_of (kind_in table memory))
spot_small table memories fits memory (Some spot) h =
    subst (λ (m : ℕ). bits_at memories (Some spot) < 2 ^ width_of (kind_in table m)) h (element_small table memories fits spot.memory spot.position)

pub memories_look_fit : (plan : PlainPlan) (registers : List ℕ) (memories : List (List ℕ)) (first : ℕ) → Fits plan.table memories
    → LooksFit plan.table (in_memories (start_at plan registers memories) first)
memories_look_fit plan registers memories first fits number r ws =
    spot_small plan.table memories fits r.memory (spot_of_reach (start_at plan registers memories) first ws r) (reach_leads (start_at plan registers memories) first ws r)

-- Values and kinds side by side.

abbrev pub ArePaired : List Kind → List Word → Type 0
ArePaired [] [] = Unit {0}
ArePaired [] (w ∷ ws) = ⊥
ArePaired (k ∷ ks) [] = ⊥
ArePaired (k ∷ ks) (w ∷ ws) = IsInKind k w × ArePaired ks ws

none_fits : IsInKind kind.Bool no_word
none_fits = record { same = refl; small = omega arith }

pub pair_at : (ks : List Kind) (ws : List Word) → ArePaired ks ws → (i : ℕ) → IsInKind (get_or ks i kind.Bool) (get_or ws i no_word)
pair_at [] [] h i = none_fits
pair_at [] (w ∷ ws) h i = absurd h
pair_at (k ∷ ks) [] h i = absurd h
pair_at (k ∷ ks) (w ∷ ws) h zero = h.0
pair_at (k ∷ ks) (w ∷ ws) h (suc i) = pair_at ks ws h.1 i

paired_long : (ks : List Kind) (ws : List Word) → ArePaired ks ws → length ks ≡ length ws
paired_long [] [] h = refl
paired_long [] (w ∷ ws) h = absurd h
paired_long (k ∷ ks) [] h = absurd h
paired_long (k ∷ ks) (w ∷ ws) h = ap suc (paired_long ks ws h.1)

paired_more : (ks : List Kind) (ws : List Word) (k : Kind) (w : Word) → ArePaired ks ws → IsInKind k w → ArePaired (ks ++ k ∷ []) (ws ++ w ∷ [])
paired_more [] [] k w h p = (p, tt)
paired_more [] (v ∷ ws) k w h p = absurd h
paired_more (l ∷ ks) [] k w h p = absurd h
paired_more (l ∷ ks) (v ∷ ws) k w h p = (h.0, paired_more ks ws k w h.1 p)

kinds_longer : (ks : List Kind) (k : Kind) → length (ks ++ k ∷ []) ≡ suc (length ks)
kinds_longer [] k = refl
kinds_longer (l ∷ ks) k = ap suc (kinds_longer ks k)

-- a kind that is made stays
kind_stays : (table : List MemEntry) (registers : List Kind) (first : ℕ) (os : List Operation) (before : List Kind) (i : ℕ) → i < length before
    → get_or (kinds_behind table registers first before os) i kind.Bool ≡ get_or before i kind.Bool
kind_stays table registers first [] before i h = refl
kind_stays table registers first (o ∷ os) before i h =
    let k = form_kind table registers first before o.form in
    let l = kinds_longer before k in
    kind_stays table registers first os (before ++ k ∷ []) i (omega (arith, h, l)) ∙ get_or_append_left before (k ∷ []) kind.Bool i h

-- both lists have one kind at a number
abbrev KindStays : (first : ℕ) → (final before : List Kind) → (number : ℕ) → Type 0
KindStays first final before number = kind_of_value first final number ≡ kind_of_value first before number

-- the two values of which one is selected are of the kind of the first
selected : (final_a final_b a b : Kind) (t : Bool) (v w : Word) → final_a ≡ a → final_b ≡ b → final_a ≡ final_b → IsInKind a v → IsInKind b w → IsInKind a (if t then v else w)
selected final_a final_b a b t v w same_a same_b alike p q =
    pick (IsInKind a) t v w p (subst (λ (k : Kind). IsInKind k w) (sym same_b ∙ (sym alike ∙ same_a)) q)

-- The value of a form, by the values before it; `final` are the kinds of the whole block.
pub form_fits : (plan : PlainPlan) (registers : List ℕ) (memories : List (List ℕ)) (look : Look) (first : ℕ) → FitKinds plan.registers registers → LooksFit plan.table look
    → (final before : List Kind) (ws : List Word) → ArePaired before ws → (number : ℕ) (f : OperationForm) → FormSuits plan first final f
    → AllByRecursion (KindStays first final before) (form_takes f)
    → IsInKind (form_kind plan.table plan.registers first before f) (form_word (start_at plan registers memories) look first ws number f)
form_fits plan registers memories look first fit looks final before ws h number (Constant word) suits same = record { same = refl; small = suits.fits }
form_fits plan registers memories look first fit looks final before ws h number (Old register) suits same = record { same = refl; small = fit.small register }
form_fits plan registers memories look first fit looks final before ws h number (Compute o left right) suits same =
    binary_fits o (kind_of_value first before left) (kind_of_value first before right) _ _ (pair_at before ws h (left - first)) (pair_at before ws h (right - first))
    (subst (λ (k : Kind). Suits o k (kind_of_value first before right)) same.0 (subst (λ (l : Kind). Suits o (kind_of_value first final left) l) same.1.0 suits))
form_fits plan registers memories look first fit looks final before ws h number (Convert inner to) suits same = record { same = refl; small = word_small to _ }
form_fits plan registers memories look first fit looks final before ws h number (Select test a b) suits same =
    selected (kind_of_value first final a) (kind_of_value first final b) (kind_of_value first before a) (kind_of_value first before b) (is_true (word_at first ws test)) (word_at first ws a) (word_at first ws b)
    same.1.0 same.1.1.0 suits.1 (pair_at before ws h (a - first)) (pair_at before ws h (b - first))
form_fits plan registers memories look first fit looks final before ws h number (Check ok fault) suits same = none_fits
form_fits plan registers memories look first fit looks final before ws h number (Probe r fault) suits same = none_fits
form_fits plan registers memories look first fit looks final before ws h number (Read r) suits same = record { same = refl; small = looks number r ws }
form_fits plan registers memories look first fit looks final before ws h number (Write r value) suits same = none_fits
form_fits plan registers memories look first fit looks final before ws h number (Set register value) suits same = none_fits

guarded_fits : (k : Kind) (on : Bool) (w : Word) → IsInKind k w → IsInKind k (guarded on w)
guarded_fits k true w h = h
guarded_fits k false w h = record { same = h.same; small = pow_pos (width_of k) }

-- each operation behind these values suits, and takes earlier ones
abbrev SuitBehind : PlainPlan → (first : ℕ) → (before : List Kind) → (n : ℕ) → List Operation → Type 0
SuitBehind plan first before n os =
    (i : ℕ) (o : Operation) → slice_get os i ≡ Some o
    → OperationSuits plan first (kinds_behind plan.table plan.registers first before os) o × TakesEarlier first (first + (n + i)) o

values_fit : (plan : PlainPlan) (registers : List ℕ) (memories : List (List ℕ)) (look : Look) (first : ℕ) → FitKinds plan.registers registers → LooksFit plan.table look
    → (os : List Operation) (before : List Kind) (ws : List Word) → ArePaired before ws → SuitBehind plan first before (length ws) os
    → ArePaired (kinds_behind plan.table plan.registers first before os) (values_behind (start_at plan registers memories) look first ws os)
values_fit plan registers memories look first fit looks [] before ws h suits = h
values_fit plan registers memories look first fit looks (o ∷ os) before ws h suits =
    let s = start_at plan registers memories in
    let k = form_kind plan.table plan.registers first before o.form in
    let w = operation_word s look first ws (first + length ws) o in
    let final = kinds_behind plan.table plan.registers first before (o ∷ os) in
    let long = paired_long before ws h in
    let here = suits 0 o refl in
    let same = all_map (IsBetween first (first + (length ws + 0))) (KindStays first final before) (operation_takes o)
    (λ n b. kind_stays plan.table plan.registers first (o ∷ os) before (n - first) (omega (arith, long, b))) here.1 in
    let fits = guarded_fits k (is_on first ws o.guard) (form_word s look first ws (first + length ws) o.form)
    (form_fits plan registers memories look first fit looks final before ws h (first + length ws) o.form here.0.form
    (all_right (KindStays first final before) (one_or_none o.guard) (form_takes o.form) same)) in
    values_fit plan registers memories look first fit looks os (before ++ k ∷ []) (ws ++ w ∷ []) (paired_more before ws k w h fits)
    (λ i p there. ((suits (suc i) p there).0, subst (λ (n : ℕ). TakesEarlier first (first + n) p) (moved (length ws) (length (ws ++ w ∷ [])) i (length_more ws w)) (suits (suc i) p there).1))
  where
    moved : (n m i : ℕ) → m ≡ suc n → n + suc i ≡ m + i
    moved n m i e = omega (arith, e)

-- the kinds of a block beside its values
pub block_paired : (plan : PlainPlan) (block : ℕ) (registers : List ℕ) (memories : List (List ℕ)) (look : Look)
    → IsFormedBlock plan block → FitKinds plan.registers registers → LooksFit plan.table look
    → ArePaired (kinds_of plan block) (values_of_operations (start_at plan registers memories) look (first_in plan block) (operations_in plan block))
block_paired plan block registers memories look formed fit looks =
    values_fit plan registers memories look (first_in plan block) fit looks (operations_in plan block) [] [] tt
    (λ i o there. (formed.suits i o there, subst (λ (n : ℕ). TakesEarlier (first_in plan block) (first_in plan block + n) o) (none_before i) (formed.ordered.each i o there)))
  where
    none_before : (i : ℕ) → i ≡ 0 + i
    none_before i = omega arith

pub block_values_fit : BlockValuesFit
block_values_fit plan block registers memories look formed fit looks number =
    pair_at (kinds_of plan block) _ (block_paired plan block registers memories look formed fit looks) (number - first_in plan block)

pub plan_values_fit : PlanValuesFit
plan_values_fit plan block registers memories formed fit fits =
    block_values_fit plan block registers memories (in_memories (start_at plan registers memories) (first_in plan block)) formed fit (memories_look_fit plan registers memories (first_in plan block) fits)
