-- Each way that a call of a store ends, from the facts of its body. The body computes on the fields
-- of the state before the call, which clauses see as `old`; the new fields are equal, one by one, to
-- those that the relation names, so putting equals for equals shows the two states equal.
use Rattle.std.proofs.Common.{ℕ, ◌≤◌, ◌≡◌, Bool, true, false, List, length, refl, sym, subst, nat_eq, Result, Ok, Err, Vec, MatchResult}
use Rattle.std.specs.List.{list_any}
use Rattle.std.specs.declared.alloc.Global.{Global}
use Rattle.dh_base.specs.declared.outside.FileFault.{FileFault}
use Rattle.dh_base.specs.declared.outside.FileFault.TheVariants as file
use Rattle.dh_base.specs.declared.outside.SinkFault.{SinkFault}
use Rattle.dh_base.specs.declared.outside.SinkFault.TheVariants as sink
use Rattle.dh_base.specs.Outside.{Absent, Holds, risen}
use Rattle.dh_base.specs.Stores.{FileStore, SinkStore, told_of, is_listed, FailsByNumber, FindsNone, TakesAll, StoreReads, Appends, WritesAll, StoreWrites}

-- whether the body found the call's number in the list is whether the call is listed
listed_is : (failing list : List ℕ) (calls number : ℕ) (found answer : Bool) → number ≡ risen calls 1 → list ≡ failing
    → found ≡ list_any (λ n. nat_eq n number) list → found ≡ answer → is_listed failing calls ≡ answer
listed_is failing list calls number found answer n l f a = rw (sym n, sym l, sym f) a

-- the ways a read ends; `from` is the state that the body computes on, `found` what its look-up answered
module _ (from old : FileStore) (same : from ≡ old) (calls : ℕ) (number : calls ≡ risen from.calls 1) (list : List ℕ) (found : Bool)
    (all : list ≡ from.failing) (tested : found ≡ list_any (λ n. nat_eq n calls) list) where
  pub fails_by_number : (faults : ℕ) → faults ≡ risen from.faults 1 → found ≡ true
      → FailsByNumber old (record from { calls = calls; faults = faults })
  fails_by_number faults f t =
      subst (λ s. FailsByNumber s (record from { calls = calls; faults = faults })) same
      (record { listed = listed_is _ _ _ _ _ _ number all tested t; after = rw (number, f) refl })

  pub finds_none : (name : List ℕ) → found ≡ false → told_of from.entries name ≡ Absent
      → FindsNone old (record from { calls = calls }) name
  finds_none name t absent =
      subst (λ s. FindsNone s (record from { calls = calls }) name) same
      (record { unlisted = listed_is _ _ _ _ _ _ number all tested t; absent = absent; after = rw number refl })

  pub takes_all : (name : List ℕ) (limit taken : ℕ) (bytes : List ℕ) → found ≡ false → told_of from.entries name ≡ Holds bytes
      → length bytes ≤ limit → taken ≡ risen from.taken (length bytes)
      → TakesAll old (record from { calls = calls; taken = taken }) name limit bytes
  takes_all name limit taken bytes t held within k =
      subst (λ s. TakesAll s (record from { calls = calls; taken = taken }) name limit bytes) same
      (record { unlisted = listed_is _ _ _ _ _ _ number all tested t; held = held; within = within; after = rw (number, k) refl })

-- the answer of the copy that a read ends with
pub read_ends : (old new : FileStore) (name : List ℕ) (limit : ℕ) (bytes : List ℕ) (result : Result (Vec ℕ Global) FileFault)
    → TakesAll old new name limit bytes → MatchResult result (λ copy. copy.items ≡ bytes) (λ e. e ≡ file.NoMemory)
    → StoreReads old new name limit result
read_ends old new name limit bytes (Ok copy) takes same = subst (λ b. TakesAll old new name limit b) (sym same) takes
read_ends old new name limit bytes (Err e) takes same = subst (λ f. StoreReads old new name limit (Err f)) (sym same) (bytes, takes)

-- a write that is not listed, from the answer of the growth that it ends with
pub write_ends : (old from new : SinkStore) → from ≡ old → (calls : ℕ) → calls ≡ risen from.calls 1
    → (list : List ℕ) (found : Bool) → list ≡ from.failing → found ≡ list_any (λ n. nat_eq n calls) list → found ≡ false
    → (piece : List ℕ) (result : Result (Unit {0}) SinkFault) → Appends (record from { calls = calls }) new piece result
    → StoreWrites old new piece result
write_ends old from new same calls n list found l a t piece (Ok _) grew =
    subst (λ s. WritesAll s new piece) same
    (record { unlisted = listed_is _ _ _ _ _ _ n l a t; after = rw (grew, n) refl })
write_ends old from new same calls n list found l a t piece (Err sink.Failed) grew = elim grew [ ]
write_ends old from new same calls n list found l a t piece (Err sink.NoMemory) grew =
    subst (λ s. new ≡ record s { calls = risen s.calls 1; refusals = risen s.refusals 1 }) same (rw (grew, n) refl)
