-- Numbers of shared reads are few: kept in 32 bits they are as they were.
use Rattle.std.proofs.Common.{◌≡◌, ℕ, zero, suc, ◌<◌, ◌^◌, List, [], ◌∷◌, length, map, slice_get, Option, Some, None, refl, ap, sym, ◌∙◌, subst, arith}
use Rattle.dh_tree.specs.PlainTrees.{Program}
use Rattle.dh_meaning.specs.AccessNumbers.{accesses_of}
use Rattle.dh_meets.specs.Sharing.{shared}
use Rattle.dh_told.proofs.PlansMade.{shared_before}
use Rattle.dh_lengths.specs.SharedReads.{TellsShares, share_told, told}
use Rattle.dh_expressions.specs.Numbers.{narrowed}
use Rattle.dh_unroll.specs.Shares.{narrow_share, narrow_shares}

few_kept : (n : ℕ) → n < 2 ^ 32 → narrowed n ≡ n
few_kept n h = omega (arith, h)

share_kept : (s : Option ℕ) → ((j : ℕ) → s ≡ Some j → j < 2 ^ 32) → narrow_share s ≡ s
share_kept None h = refl
share_kept (Some j) h = ap (λ n. Some n) (few_kept j (h j refl))

mapped_at : (xs : List (Option ℕ)) (k : ℕ) → told (map narrow_share xs) k ≡ narrow_share (told xs k)
mapped_at [] k = refl
mapped_at (x ∷ xs) zero = refl
mapped_at (x ∷ xs) (suc k) = mapped_at xs k

mapped_there : (xs : List (Option ℕ)) (k : ℕ) (s : Option ℕ) → slice_get xs k ≡ Some s → slice_get (map narrow_share xs) k ≡ Some (narrow_share s)
mapped_there [] k s e = absurd (cc)
mapped_there (x ∷ xs) zero s e = let same : x ≡ s = cc in ap (λ o. Some (narrow_share o)) same
mapped_there (x ∷ xs) (suc k) s e = mapped_there xs k s e

mapped_long : (xs : List (Option ℕ)) → length (map narrow_share xs) ≡ length xs
mapped_long [] = refl
mapped_long (x ∷ xs) = ap suc (mapped_long xs)

module _ (p : Program) (shares : List (Option ℕ)) (few : accesses_of p.body < 2 ^ 32) (h : TellsShares p shares) where
  -- what shares is one of the accesses
  within : (k : ℕ) (s : Option ℕ) → slice_get shares k ≡ Some s → k < accesses_of p.body
  within k s e = subst (λ n. k < n) h.long (there shares k s e)
    where
      there : (xs : List (Option ℕ)) (i : ℕ) (x : Option ℕ) → slice_get xs i ≡ Some x → i < length xs
      there [] i x e = absurd (cc)
      there (y ∷ ys) zero x e = omega arith
      there (y ∷ ys) (suc i) x e = let n = there ys i x e in omega (arith, n)

  shared_few : (k : ℕ) → k < accesses_of p.body → narrow_share (shared p k) ≡ shared p k
  shared_few k l = share_kept (shared p k) (λ j e. let b = shared_before p j k e in omega (arith, few, l, b))

  told_few : (k : ℕ) → told (narrow_shares shares) k ≡ shared p k
  told_few k = mapped_at shares k ∙ by (slice_get shares k) refl
    where
      by : (o : Option (Option ℕ)) → slice_get shares k ≡ o → narrow_share (told shares k) ≡ shared p k
      by None e = ap (λ x. narrow_share (share_told x)) e ∙ (sym (ap share_told e) ∙ h.all k)
      by (Some s) e = ap narrow_share (h.all k) ∙ shared_few k (within k s e)

  pub shares_narrowed : TellsShares p (narrow_shares shares)
  shares_narrowed = record {
    long = mapped_long shares ∙ h.long;
    each = λ k l. mapped_there shares k (shared p k) (h.each k l) ∙ ap (λ s. Some s) (shared_few k l);
    all = told_few;
  }
