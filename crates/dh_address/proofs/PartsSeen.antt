-- What stands in a block that the pass makes: quiet operations, and the images of those of the old block.
use Rattle.std.proofs.Common.{◌≡◌, ℕ, zero, suc, ◌⊎◌, inl, inr, List, refl, sym, ap, ◌∙◌, subst}
use Rattle.std.specs.Prelude.{Some, [], ◌∷◌, ◌++◌, slice_get}
use Rattle.std.proofs.lemmas.List.{append_assoc, append-nil, append_cancel_left}
use Rattle.dh_plan.specs.declared.operations.Operation.{Operation}
use Rattle.dh_plan.specs.declared.operations.OperationForm.{OperationForm}
use Rattle.dh_plan.specs.declared.operations.OperationForm.TheVariants.{Constant, Old, Compute, Convert, Select, Check, Probe, Read, Write, Set}
use Rattle.dh_plan.specs.declared.operations.PlanBlock.{PlanBlock}
use Rattle.dh_plan.specs.PlainPlans.{PlainPlan, operations_in, block_operations}
use Rattle.dh_address.specs.Images.{IsImage, around_block, operations_until}
use Rattle.dh_address.proofs.PiecesBy.{each_at}
use Rattle.dh_address.proofs.PiecesQuiet.{IsQuiet, SameForm, HasMain, IsMain, AreParts, PutsParts, pieces_parts}

-- a block's operations lie between its start and the next one
pub until_block : (bs : List PlanBlock) (n : ℕ) → operations_until bs (suc n) ≡ operations_until bs n ++ block_operations (slice_get bs n)
until_block [] n = refl
until_block (b ∷ bs) zero = ap (λ (os : List Operation). b.operations ++ os) (begun bs) ∙ append-nil b.operations
  where
    begun : (bs : List PlanBlock) → operations_until bs zero ≡ []
    begun [] = refl
    begun (b ∷ bs) = refl
until_block (b ∷ bs) (suc n) =
    ap (λ (os : List Operation). b.operations ++ os) (until_block bs n) ∙ sym (append_assoc b.operations (operations_until bs n) (block_operations (slice_get bs n)))

-- each block of q is the parts of its operations
pub block_parts : (p q : PlainPlan) → IsImage p q → (block : ℕ) → AreParts (operations_in p block) (operations_in q block)
block_parts p q h block = subst (λ (os : List Operation). AreParts (operations_in p block) os) same made.parts
  where
    before : List Operation
    before = operations_until q.blocks block

    made : PutsParts (operations_in p block) before (operations_until q.blocks (suc block))
    made = pieces_parts p.registers (operations_in p block) (around_block p block) before (operations_until q.blocks (suc block)) (h.blocks block).numbers (h.blocks block).pieces

    same : made.more ≡ operations_in q block
    same = append_cancel_left before made.more (operations_in q block) (sym made.appended ∙ until_block q.blocks block)

-- Single operations.

-- an operation of the new block is quiet, or the image of one of the old block
pub record IsImageOf (os : List Operation) (x : Operation) : Type 0 where
  pub place : ℕ
  pub old : Operation
  pub there : slice_get os place ≡ Some old
  pub same : SameForm old.form x.form

seen_in_front : (xs ys : List Operation) (j : ℕ) (x : Operation) → slice_get (xs ++ ys) j ≡ Some x → ((i : ℕ) × (slice_get xs i ≡ Some x)) ⊎ ((i : ℕ) × (slice_get ys i ≡ Some x))
seen_in_front [] ys j x e = inr (j, e)
seen_in_front (y ∷ xs) ys zero x e = inl (0, e)
seen_in_front (y ∷ xs) ys (suc j) x e = of (seen_in_front xs ys j x e)
  where
    of : ((i : ℕ) × (slice_get xs i ≡ Some x)) ⊎ ((i : ℕ) × (slice_get ys i ≡ Some x)) → ((i : ℕ) × (slice_get (y ∷ xs) i ≡ Some x)) ⊎ ((i : ℕ) × (slice_get ys i ≡ Some x))
    of (inl (i, h)) = inl (suc i, h)
    of (inr h) = inr h

pub front_seen : (xs ys : List Operation) (i : ℕ) (x : Operation) → slice_get xs i ≡ Some x → slice_get (xs ++ ys) i ≡ Some x
front_seen [] ys i x e = absurd (cc)
front_seen (y ∷ xs) ys zero x e = e
front_seen (y ∷ xs) ys (suc i) x e = front_seen xs ys i x e

pub back_seen : (xs ys : List Operation) (i : ℕ) (x : Operation) → slice_get ys i ≡ Some x → (j : ℕ) × (slice_get (xs ++ ys) j ≡ Some x)
back_seen [] ys i x e = (i, e)
back_seen (y ∷ xs) ys i x e = of (back_seen xs ys i x e)
  where
    of : (j : ℕ) × (slice_get (xs ++ ys) j ≡ Some x) → (j : ℕ) × (slice_get (y ∷ (xs ++ ys)) j ≡ Some x)
    of (j, h) = (suc j, h)

main_at : (f : OperationForm) (main : List Operation) (i : ℕ) (x : Operation) → IsMain f main → slice_get main i ≡ Some x → SameForm f x.form
main_at f main i x h e = of f h
  where
    one : (f : OperationForm) → HasMain f main → SameForm f x.form
    one f m = last (subst (λ (os : List Operation). slice_get os i ≡ Some x) m.only e)
      where
        last : slice_get (m.own ∷ []) i ≡ Some x → SameForm f x.form
        last = at i
          where
            at : (i : ℕ) → slice_get (m.own ∷ []) i ≡ Some x → SameForm f x.form
            at zero a = let same : m.own ≡ x = cc in subst (λ (y : Operation). SameForm f y.form) same m.same
            at (suc i) a = absurd (cc)

    none : main ≡ [] → ⊥
    none m = let a : slice_get [] i ≡ Some x = subst (λ (os : List Operation). slice_get os i ≡ Some x) m e in absurd (cc)

    of : (f : OperationForm) → IsMain f main → SameForm f x.form
    of (Constant word) h = one (Constant word) h
    of (Old register) h = one (Old register) h
    of (Compute o left right) h = one (Compute o left right) h
    of (Convert inner to) h = one (Convert inner to) h
    of (Select test a b) h = one (Select test a b) h
    of (Check ok fault) h = one (Check ok fault) h
    of (Probe r fault) h = none h
    of (Read r) h = one (Read r) h
    of (Write r value) h = one (Write r value) h
    of (Set register value) h = one (Set register value) h

pub part_seen : (os more : List Operation) → AreParts os more → (j : ℕ) (x : Operation) → slice_get more j ≡ Some x → IsQuiet x ⊎ IsImageOf os x
part_seen [] more h j x e = let a : slice_get [] j ≡ Some x = subst (λ (l : List Operation). slice_get l j ≡ Some x) h e in absurd (cc)
part_seen (o ∷ os) more h j x e = both (λ i a. part_seen os h.rest h.parts i x a) (seen_in_front h.first h.rest j x (subst (λ (l : List Operation). slice_get l j ≡ Some x) h.joined e))
  where
    own : ((i : ℕ) × (slice_get h.part.quiet i ≡ Some x)) ⊎ ((i : ℕ) × (slice_get h.part.main i ≡ Some x)) → IsQuiet x ⊎ IsImageOf (o ∷ os) x
    own (inl (i, a)) = inl (each_at IsQuiet h.part.quiet i x h.part.all a)
    own (inr (i, a)) = inr (record { place = 0; old = o; there = refl; same = main_at o.form h.part.main i x h.part.image a })

    later : IsQuiet x ⊎ IsImageOf os x → IsQuiet x ⊎ IsImageOf (o ∷ os) x
    later (inl a) = inl a
    later (inr a) = inr (record { place = suc a.place; old = a.old; there = a.there; same = a.same })

    both : ((i : ℕ) → slice_get h.rest i ≡ Some x → IsQuiet x ⊎ IsImageOf os x) → ((i : ℕ) × (slice_get h.first i ≡ Some x)) ⊎ ((i : ℕ) × (slice_get h.rest i ≡ Some x)) → IsQuiet x ⊎ IsImageOf (o ∷ os) x
    both go (inl (i, a)) = own (seen_in_front h.part.quiet h.part.main i x (subst (λ (l : List Operation). slice_get l i ≡ Some x) h.part.joined a))
    both go (inr (i, a)) = later (go i a)

-- and the image of each one is there, but of a probe
pub record HasImage (f : OperationForm) (more : List Operation) : Type 0 where
  pub place : ℕ
  pub image : Operation
  pub there : slice_get more place ≡ Some image
  pub same : SameForm f image.form

pub main_seen : (os more : List Operation) → AreParts os more → (i : ℕ) (o : Operation) → slice_get os i ≡ Some o → ((main : List Operation) → IsMain o.form main → HasMain o.form main) → HasImage o.form more
main_seen [] more h i o e to = absurd (cc)
main_seen (y ∷ os) more h zero o e to = within (front_seen (h.part.quiet ++ h.part.main) h.rest)
  where
    is : y ≡ o
    is = cc

    main : HasMain o.form h.part.main
    main = to h.part.main (subst (λ (x : Operation). IsMain x.form h.part.main) is h.part.image)

    whole : more ≡ (h.part.quiet ++ h.part.main) ++ h.rest
    whole = h.joined ∙ ap (λ (l : List Operation). l ++ h.rest) h.part.joined

    within : ((i : ℕ) (x : Operation) → slice_get (h.part.quiet ++ h.part.main) i ≡ Some x → slice_get ((h.part.quiet ++ h.part.main) ++ h.rest) i ≡ Some x) → HasImage o.form more
    within front =
        let found = back_seen h.part.quiet h.part.main 0 main.own (subst (λ (l : List Operation). slice_get l 0 ≡ Some main.own) (sym main.only) refl) in
        record {
          place = found.0;
          image = main.own;
          there = subst (λ (l : List Operation). slice_get l found.0 ≡ Some main.own) (sym whole) (front found.0 main.own found.1);
          same = main.same;
        }
main_seen (y ∷ os) more h (suc i) o e to =
    let later = main_seen os h.rest h.parts i o e to in
    let found = back_seen h.first h.rest later.place later.image later.there in
    record { place = found.0; image = later.image; there = subst (λ (l : List Operation). slice_get l found.0 ≡ Some later.image) (sym h.joined) found.1; same = later.same }
