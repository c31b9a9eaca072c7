-- The accesses of a program are numbered in order of evaluation.
use Rattle.std.proofs.Common.{◌≡◌, ℕ, ◌+◌, ◌<◌, ◌≤◌, false, sym, subst, arith}
use Rattle.std.specs.Prelude.{Some, slice_get}
use Rattle.std.proofs.lemmas.Option.{slice_get_within}
use Rattle.dh_tree.specs.Meets.{In}
use Rattle.dh_tree.specs.PlainTrees.{Program}
use Rattle.dh_meaning.specs.Sites.{nothing_around}
use Rattle.dh_meets.specs.MayMeet.{meets_in}
use Rattle.dh_meets.specs.SourceEvents.{SourceAccess, accesses_in, trace}
use Rattle.dh_ports.proofs.EventCounts.{count_in, counted}
use Rattle.dh_ports.proofs.MeetsNumbered.{Numbered, numbered}

module _ (p : Program) where
  pub whole : Numbered 0 (count_in (trace p)) (meets_in p)
  whole = subst (λ (m : ℕ). Numbered 0 m (meets_in p)) (sym (counted nothing_around p.body)) (numbered false 0 p.body)

  -- an access stands in the tree
  pub access_in : (k : ℕ) (a : SourceAccess) → slice_get (accesses_in (trace p)) k ≡ Some a → In k (meets_in p)
  access_in k a e = whole.inside k (from_none k) (from_0 k (count_in (trace p)) (slice_get_within (accesses_in (trace p)) k a e))
    where
      from_none : (k : ℕ) → 0 ≤ k
      from_none k = omega arith

      from_0 : (k n : ℕ) → k < n → k < 0 + n
      from_0 k n e = omega (arith, e)
