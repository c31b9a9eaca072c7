-- Operations that read and write nothing, as they were put down.
use Rattle.std.proofs.Common.{◌≡◌, ℕ, ◌+◌, ◌<◌, ◌≤◌, inl, inr, List, Some, refl, sym, ap, ◌∙◌, arith, append_assoc}
use Rattle.std.specs.Prelude.{[], ◌∷◌, ◌++◌, Option}
use Rattle.std.specs.List.{AllByRecursion}
use Rattle.std.proofs.lemmas.List.{append-nil}
use Rattle.dh_plan.specs.declared.operations.Operation.{Operation}
use Rattle.dh_plan.specs.declared.operations.OperationForm.{OperationForm}
use Rattle.dh_plan.specs.declared.operations.OperationForm.TheVariants.{Check, Compute, Constant, Convert, Old, Probe, Read, Select, Set, Write}
use Rattle.dh_plan.specs.declared.operations.Reach.{Reach}
use Rattle.dh_plan.specs.SoundPlans.{use_in, writes_memory}
use Rattle.dh_expressions.specs.declared.drafts.Draft.{Draft}
use Rattle.dh_expressions.specs.Drafted.{Pushes, BlockStep}
use Rattle.dh_formed.specs.Counted.{Counts, FormIs}
use Rattle.dh_formed.specs.Formed.{BlockSite}
use Rattle.dh_formed.proofs.ElementsFormed.{all_append}
use Rattle.dh_reached.specs.Puts.{AreInOrder, EachUse, UseGoesBefore, GoesBefore, IsSitedUse, PlacesRise, OperationAtPath, PutsAt, PutsDown, is_write, operations_of}
use Rattle.dh_reached.proofs.PutLists.{each_both, each_two, each_weaker, go_by, operations_both, order_both}

abbrev pub UsesNone : OperationForm → Type 0
UsesNone form = FormIs (λ register. Unit {0}) (λ r. Unit {0}) (λ r. ⊥) (λ r. ⊥) form

abbrev pub CountsNone : (old new : Draft) → (products : ℕ) → (probes uses : ℕ → ℕ) → Type 0
CountsNone old new products probes uses = Counts old new UsesNone products probes uses

none_used : (form : OperationForm) (r : Reach) → UsesNone form → use_in form ≡ Some r → ⊥
none_used (Constant word) r h e = absurd (cc)
none_used (Old register) r h e = absurd (cc)
none_used (Compute op left right) r h e = absurd (cc)
none_used (Convert inner to) r h e = absurd (cc)
none_used (Select test a b) r h e = absurd (cc)
none_used (Check ok fault) r h e = absurd (cc)
none_used (Probe reach fault) r h e = absurd (cc)
none_used (Read reach) r h e = absurd h
none_used (Write reach value) r h e = absurd h
none_used (Set register value) r h e = absurd (cc)

-- each at a path that doesn't matter
abbrev at_none : List Operation → List OperationAtPath
at_none [] = []
at_none (o ∷ os) = record { operation = o; path = 0 } ∷ at_none os

at_none_is : (os : List Operation) → operations_of (at_none os) ≡ os
at_none_is [] = refl
at_none_is (o ∷ os) = ap (λ (l : List Operation). o ∷ l) (at_none_is os)

none_each : (P : OperationAtPath → Reach → Type 0) (os : List Operation) → AllByRecursion (λ o. UsesNone o.form) os → EachUse P (at_none os)
none_each P [] h = tt
none_each P (o ∷ os) h = (λ r e. absurd (none_used o.form r h.0 e), none_each P os h.1)

none_goes : (x : BlockStep) (sites : ℕ → Option BlockSite) (o : Operation) (path : ℕ) (us : List OperationAtPath) → UsesNone o.form → AllByRecursion (UseGoesBefore x sites (record { operation = o; path = path })) us
none_goes x sites o path [] h = tt
none_goes x sites o path (u ∷ us) h = (λ r t e f. absurd (none_used o.form r h e), none_goes x sites o path us h)

none_order : (x : BlockStep) (sites : ℕ → Option BlockSite) (os : List Operation) → AllByRecursion (λ o. UsesNone o.form) os → AreInOrder x sites (at_none os)
none_order x sites [] h = tt
none_order x sites (o ∷ os) h = (none_goes x sites o 0 (at_none os) h.0, none_order x sites os h.1)

-- What was added uses nothing.
pub record AddsNone (old new : Draft) : Type 0 where
  pub more : List Operation
  pub adds : new.operations.items ≡ old.operations.items ++ more
  pub each : AllByRecursion (λ o. UsesNone o.form) more

pub none_counted : (old new : Draft) (p : ℕ) (f u : ℕ → ℕ) → CountsNone old new p f u → AddsNone old new
none_counted old new p f u c = record { more = c.more; adds = c.adds; each = c.each }

pub none_same : (old new : Draft) → new.operations.items ≡ old.operations.items → AddsNone old new
none_same old new same = record { more = []; adds = same ∙ sym (append-nil old.operations.items); each = tt }

pub none_still : (old new : Draft) → new ≡ old → AddsNone old new
none_still old new same = none_same old new (ap (λ (d : Draft). d.operations.items) same)

pub none_pushed : (old new : Draft) (n : ℕ) (guard : Option ℕ) (form : OperationForm) → Pushes old new n guard form → UsesNone form → AddsNone old new
none_pushed old new n guard form p h = record { more = record { guard = guard; form = form } ∷ []; adds = p.operations; each = (h, tt) }

pub none_again : (a b c : Draft) → AddsNone a b → AddsNone b c → AddsNone a c
none_again a b c h k = record {
  more = h.more ++ k.more;
  adds = k.adds ∙ (ap (λ (os : List Operation). os ++ k.more) h.adds ∙ append_assoc a.operations.items h.more k.more);
  each = all_append (λ (o : Operation). UsesNone o.form) h.more k.more h.each k.each;
}

module _ (x : BlockStep) (sites : ℕ → Option BlockSite) (first count : ℕ) (IsAt : OperationAtPath → Reach → Type 0) (IsWritten : ℕ → Type 0) where
  pub puts_added : (old new : Draft) → AddsNone old new → PutsAt x sites first count IsAt IsWritten old new
  puts_added old new c = record {
    down = record {
      puts = at_none c.more;
      adds = c.adds ∙ ap (λ (os : List Operation). old.operations.items ++ os) (sym (at_none_is c.more));
      uses = none_each (IsSitedUse x sites) c.more c.each;
      within = none_each (λ u r. (first ≤ r.access) × (r.access < first + count)) c.more c.each;
      order = none_order x sites c.more c.each;
    };
    at = none_each IsAt c.more c.each;
    written = none_each (λ u r. is_write u → IsWritten r.access) c.more c.each;
  }

  -- one that does
  pub puts_one : (old new : Draft) (n path : ℕ) (guard : Option ℕ) (form : OperationForm) → Pushes old new n guard form
      → ((r : Reach) → use_in form ≡ Some r → IsAt (record { operation = record { guard = guard; form = form }; path = path }) r)
      → ((r : Reach) → use_in form ≡ Some r → IsSitedUse x sites (record { operation = record { guard = guard; form = form }; path = path }) r)
      → ((r : Reach) → use_in form ≡ Some r → (first ≤ r.access) × (r.access < first + count)) → ((r : Reach) → use_in form ≡ Some r → writes_memory form → IsWritten r.access)
      → PutsAt x sites first count IsAt IsWritten old new
  puts_one old new n path guard form p at is within written = record {
    down = record { puts = record { operation = record { guard = guard; form = form }; path = path } ∷ []; adds = p.operations; uses = (is, tt); within = (within, tt); order = (tt, tt) };
    at = (at, tt);
    written = (written, tt);
  }

  -- fewer accesses are among more
  pub puts_wider : (from many : ℕ) (Less : ℕ → Type 0) (old new : Draft) → first ≤ from → from + many ≤ first + count → ((n : ℕ) → Less n → IsWritten n) → PutsAt x sites from many IsAt Less old new → PutsAt x sites first count IsAt IsWritten old new
  puts_wider from many Less old new low high more h = record {
    down = record {
      puts = h.down.puts;
      adds = h.down.adds;
      uses = h.down.uses;
      within = each_weaker (λ u r. (from ≤ r.access) × (r.access < from + many)) (λ u r. (first ≤ r.access) × (r.access < first + count)) h.down.puts (λ u r w. (lower r.access w.0, upper r.access w.1)) h.down.within;
      order = h.down.order;
    };
    at = h.at;
    written = each_weaker (λ u r. is_write u → Less r.access) (λ u r. is_write u → IsWritten r.access) h.down.puts (λ u r w is. more r.access (w is)) h.written;
  }
    where
      lower : (a : ℕ) → from ≤ a → first ≤ a
      lower a l = omega (arith, l, low)

      upper : (a : ℕ) → a < from + many → a < first + count
      upper a l = omega (arith, l, high)

-- One behind the other, where the uses of the first go before those of the second.
abbrev pub Joins : BlockStep → (sites : ℕ → Option BlockSite) → (P Q : OperationAtPath → Reach → Type 0) → Type 0
Joins x sites P Q = (a b : OperationAtPath) (r t : Reach) → P a r → Q b t → GoesBefore x sites a b r t

module _ (x : BlockStep) (sites : ℕ → Option BlockSite) where
  -- of accesses and then of later ones
  pub down_then : (first many more : ℕ) (a b c : Draft) → PutsDown x sites first many a b → PutsDown x sites (first + many) more b c → PutsDown x sites first (many + more) a c
  down_then first many more a b c h k = record {
    puts = h.puts ++ k.puts;
    adds = k.adds ∙ (ap (λ (os : List Operation). os ++ operations_of k.puts) h.adds
        ∙ (append_assoc a.operations.items (operations_of h.puts) (operations_of k.puts) ∙ ap (λ (os : List Operation). a.operations.items ++ os) (sym (operations_both h.puts k.puts))));
    uses = each_both (IsSitedUse x sites) h.puts k.puts h.uses k.uses;
    within = each_both (λ u r. (first ≤ r.access) × (r.access < first + (many + more))) h.puts k.puts
        (each_weaker (λ u r. (first ≤ r.access) × (r.access < first + many)) (λ u r. (first ≤ r.access) × (r.access < first + (many + more))) h.puts (λ u r w. (w.0, below r.access w.1)) h.within)
        (each_weaker (λ u r. (first + many ≤ r.access) × (r.access < first + many + more)) (λ u r. (first ≤ r.access) × (r.access < first + (many + more))) k.puts (λ u r w. (above r.access w.0, behind r.access w.1)) k.within);
    order = order_both x sites h.puts k.puts h.order k.order
        (go_by x sites (λ u r. (first ≤ r.access) × (r.access < first + many)) (λ u r. (first + many ≤ r.access) × (r.access < first + many + more)) h.puts k.puts
        (λ u v r t w z. record { places = λ same. absurd (apart r.access t.access w.1 z.0 same); writes = λ one two. inl (less r.access t.access w.1 z.0) }) h.within k.within);
  }
    where
      below : (n : ℕ) → n < first + many → n < first + (many + more)
      below n l = omega (arith, l)

      above : (n : ℕ) → first + many ≤ n → first ≤ n
      above n l = omega (arith, l)

      behind : (n : ℕ) → n < first + many + more → n < first + (many + more)
      behind n l = omega (arith, l)

      apart : (m n : ℕ) → m < first + many → first + many ≤ n → m ≡ n → ⊥
      apart m n l g e = omega (arith, l, g, e)

      less : (m n : ℕ) → m < first + many → first + many ≤ n → m < n
      less m n l g = omega (arith, l, g)

  -- fewer accesses are among more
  pub down_wider : (first count from many : ℕ) (old new : Draft) → first ≤ from → from + many ≤ first + count → PutsDown x sites from many old new → PutsDown x sites first count old new
  down_wider first count from many old new low high h = record {
    puts = h.puts;
    adds = h.adds;
    uses = h.uses;
    within = each_weaker (λ u r. (from ≤ r.access) × (r.access < from + many)) (λ u r. (first ≤ r.access) × (r.access < first + count)) h.puts (λ u r w. (lower r.access w.0, upper r.access w.1)) h.within;
    order = h.order;
  }
    where
      lower : (a : ℕ) → from ≤ a → first ≤ a
      lower a l = omega (arith, l, low)

      upper : (a : ℕ) → a < from + many → a < first + count
      upper a l = omega (arith, l, high)

  -- at one path
  pub at_then : (first many more : ℕ) (IsAt : OperationAtPath → Reach → Type 0) (Written : ℕ → Type 0) (a b c : Draft) → PutsAt x sites first many IsAt Written a b → PutsAt x sites (first + many) more IsAt Written b c → PutsAt x sites first (many + more) IsAt Written a c
  unfolding down_then
  at_then first many more IsAt Written a b c h k = record {
    down = down_then first many more a b c h.down k.down;
    at = each_both IsAt h.down.puts k.down.puts h.at k.at;
    written = each_both (λ u r. is_write u → Written r.access) h.down.puts k.down.puts h.written k.written;
  }

  -- behind what uses nothing, or before it
  pub behind_none : (first count : ℕ) (IsAt : OperationAtPath → Reach → Type 0) (Written : ℕ → Type 0) (a b c : Draft) → AddsNone a b → PutsAt x sites first count IsAt Written b c → PutsAt x sites first count IsAt Written a c
  behind_none first count IsAt Written a b c h k =
      puts_wider x sites first count IsAt Written first (0 + count) Written a c (omega arith) (omega arith) (λ n w. w)
      (at_then first 0 count IsAt Written a b c (puts_added x sites first 0 IsAt Written a b h)
      (puts_wider x sites (first + 0) count IsAt Written first count Written b c (omega arith) (omega arith) (λ n w. w) k))

  pub before_none : (first count : ℕ) (IsAt : OperationAtPath → Reach → Type 0) (Written : ℕ → Type 0) (a b c : Draft) → PutsAt x sites first count IsAt Written a b → AddsNone b c → PutsAt x sites first count IsAt Written a c
  before_none first count IsAt Written a b c h k =
      puts_wider x sites first count IsAt Written first (count + 0) Written a c (omega arith) (omega arith) (λ n w. w)
      (at_then first count 0 IsAt Written a b c h (puts_added x sites (first + count) 0 IsAt Written b c k))

  -- the accesses of one path behind those of the paths before, where places rise
  pub paths_then : (first count n : ℕ) (Led : OperationAtPath → Reach → Type 0) (Written : ℕ → Type 0) → ((i j : ℕ) → Written i → Written j → i ≡ j)
      → ((u v : OperationAtPath) (r t : Reach) → u.path < v.path → v.path ≡ n → r.access ≡ t.access → IsSitedUse x sites u r → Led u r → Led v t → PlacesRise x sites u v r t) → (a b c : Draft)
      → PutsAt x sites first count (λ u r. (u.path < n) × Led u r) Written a b → PutsAt x sites first count (λ u r. (u.path ≡ n) × Led u r) Written b c → PutsAt x sites first count (λ u r. (u.path < n + 1) × Led u r) Written a c
  paths_then first count n Led Written one rises a b c h k = record {
    down = record {
      puts = h.down.puts ++ k.down.puts;
      adds = k.down.adds ∙ (ap (λ (os : List Operation). os ++ operations_of k.down.puts) h.down.adds
          ∙ (append_assoc a.operations.items (operations_of h.down.puts) (operations_of k.down.puts) ∙ ap (λ (os : List Operation). a.operations.items ++ os) (sym (operations_both h.down.puts k.down.puts))));
      uses = each_both (IsSitedUse x sites) h.down.puts k.down.puts h.down.uses k.down.uses;
      within = each_both (λ u r. (first ≤ r.access) × (r.access < first + count)) h.down.puts k.down.puts h.down.within k.down.within;
      order = order_both x sites h.down.puts k.down.puts h.down.order k.down.order
          (go_by x sites (λ u r. ((u.path < n) × Led u r) × ((is_write u → Written r.access) × IsSitedUse x sites u r)) (λ u r. ((u.path ≡ n) × Led u r) × (is_write u → Written r.access)) h.down.puts k.down.puts
          (λ u v r t w z. record { places = λ same. rises u v r t (less u.path v.path w.0.0 z.0.0) z.0.0 same w.1.1 w.0.1 z.0.1; writes = λ f g. inr (one r.access t.access (w.1.0 f) (z.1 g)) })
          (each_two (λ u r. (u.path < n) × Led u r) (λ u r. (is_write u → Written r.access) × IsSitedUse x sites u r) h.down.puts h.at (each_two (λ u r. is_write u → Written r.access) (IsSitedUse x sites) h.down.puts h.written h.down.uses))
          (each_two (λ u r. (u.path ≡ n) × Led u r) (λ u r. is_write u → Written r.access) k.down.puts k.at k.written));
    };
    at = each_both (λ u r. (u.path < n + 1) × Led u r) h.down.puts k.down.puts
        (each_weaker (λ u r. (u.path < n) × Led u r) (λ u r. (u.path < n + 1) × Led u r) h.down.puts (λ u r w. (below u.path w.0, w.1)) h.at)
        (each_weaker (λ u r. (u.path ≡ n) × Led u r) (λ u r. (u.path < n + 1) × Led u r) k.down.puts (λ u r w. (own u.path w.0, w.1)) k.at);
    written = each_both (λ u r. is_write u → Written r.access) h.down.puts k.down.puts h.written k.written;
  }
    where
      less : (p q : ℕ) → p < n → q ≡ n → p < q
      less p q l e = omega (arith, l, e)

      below : (p : ℕ) → p < n → p < n + 1
      below p l = omega (arith, l)

      own : (p : ℕ) → p ≡ n → p < n + 1
      own p e = omega (arith, e)
