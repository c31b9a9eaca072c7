-- The plan of three stores is well formed, and so sound.
use Rattle.std.proofs.Common.{◌≡◌, ℕ, zero, suc, ◌+◌, ◌<◌, ◌≤◌, inl, Some, None, refl, sym, subst, ◌∙◌, arith}
use Rattle.std.specs.Prelude.{[], ◌∷◌, true, false, slice_get, Contains}
use Rattle.std.proofs.lemmas.Cmp.{nat_list_eq_equiv}
use Rattle.std.proofs.lemmas.Map.Views.{list_any-from_Contains}
use Rattle.dh_tree.specs.Elements.{dims_at}
use Rattle.dh_tree.specs.Names.{reserved}
use Rattle.dh_tree.specs.Shapes.{IsProgramTable}
use Rattle.dh_plan.specs.declared.operations.Operation.{Operation}
use Rattle.dh_plan.specs.declared.operations.Reach.{Reach}
use Rattle.dh_plan.specs.ExamplePrograms.{storing_plan}
use Rattle.dh_plan.specs.Ordered.{TakesEarlier, IsOrdered}
use Rattle.dh_plan.specs.PlainPlans.{operations_in}
use Rattle.dh_plan.specs.PlanKinds.{IsFormedBlock, OperationSuits, kinds_of}
use Rattle.dh_plan.specs.SoundPlans.{access_in, HasAccess, Counting, countings, AreCounters, IsFormed, IsSound}
use Rattle.dh_plan.proofs.StoringPlan.{never_set, storing_keeps_banks}

-- The table.

pub not_reserved : Contains reserved (65 ∷ []) → ⊥
not_reserved h = (let f : false ≡ true = list_any-from_Contains nat_list_eq_equiv (65 ∷ []) reserved h in cc)

pub storing_table : IsProgramTable storing_plan.table
storing_table =
    record {
      entries = (
        record {
          name = record { word = (inl ((let a : 65 ≤ 65 = omega arith in a), (let b : 65 ≤ 90 = omega arith in b)), tt); free = not_reserved };
          shape = record {
            integer = ((let a : 1 ≤ 8 = omega arith in a), (let b : 8 ≤ 64 = omega arith in b));
            least_ports = (let a : 1 ≤ 1 = omega arith in a);
            most = (let a : 1 ≤ 8 = omega arith in a);
            least_dims = (let a : 1 ≤ 1 = omega arith in a);
            few_dims = (let a : 1 ≤ 6 = omega arith in a);
            dims = (record { size = (let a : 1 ≤ 2 = omega arith in a); banks = (let a : 1 ≤ 1 = omega arith in a); divides = refl }, tt);
            few_banks = (let a : 1 ≤ 64 = omega arith in a);
          };
        },
        tt,
      );
      names = (tt, tt);
      locals = ((λ h. absurd (cc)), tt);
      elements = (let a : 2 ≤ 1048576 = omega arith in a);
    }

-- Operations.

-- an operation is one of the four of the block
pub by_place : (P : ℕ → Operation → Type 0) → (p q r s : Operation) → P 0 p → P 1 q → P 2 r → P 3 s
    → (i : ℕ) (o : Operation) → slice_get (p ∷ q ∷ r ∷ s ∷ []) i ≡ Some o → P i o
by_place P p q r s a b c d zero o e = (let same : Some p ≡ Some o = e in let here : p ≡ o = cc in subst (λ (x : Operation). P 0 x) here a)
by_place P p q r s a b c d (suc zero) o e = (let same : Some q ≡ Some o = e in let here : q ≡ o = cc in subst (λ (x : Operation). P 1 x) here b)
by_place P p q r s a b c d (suc (suc zero)) o e = (let same : Some r ≡ Some o = e in let here : r ≡ o = cc in subst (λ (x : Operation). P 2 x) here c)
by_place P p q r s a b c d (suc (suc (suc zero))) o e = (let same : Some s ≡ Some o = e in let here : s ≡ o = cc in subst (λ (x : Operation). P 3 x) here d)
by_place P p q r s a b c d (suc (suc (suc (suc i)))) o e = absurd (cc)

-- the values 0 and 1 are earlier than operation n behind them
pub zero_between : (n : ℕ) → 0 < n → (0 ≤ 0) × (0 < n)
zero_between n h = (omega arith, h)

pub one_between : (n : ℕ) → 1 < n → (0 ≤ 1) × (1 < n)
one_between n h = (omega arith, h)

pub storing_ordered : IsOrdered 0 (operations_in storing_plan 0)
storing_ordered =
    record {
      each = λ i o e. by_place (λ (n : ℕ) (x : Operation). TakesEarlier 0 (0 + n) x) _ _ _ _ tt tt
          (one_between 2 (omega arith), tt)
          (zero_between 3 (omega arith), (one_between 3 (omega arith), tt)) i o e;
    }

-- a list of one has one place
pub one_place : {A : Type 0} (x : A) (i : ℕ) (y : A) → slice_get (x ∷ []) i ≡ Some y → i ≡ 0
one_place x zero y h = refl
one_place x (suc i) y h = absurd (cc)

pub one_listed : (i j : ℕ) (b c : ℕ × ℕ) → slice_get ((0, 0) ∷ []) i ≡ Some b → slice_get ((0, 0) ∷ []) j ≡ Some c → b.0 ≡ c.0 → i ≡ j
one_listed i j b c h g same = one_place (0, 0) i b h ∙ sym (one_place (0, 0) j c g)

pub same_place : (i j : ℕ) (c d : Counting) → slice_get (countings storing_plan.body) i ≡ Some c → slice_get (countings storing_plan.body) j ≡ Some d → i ≡ j
same_place i j c d h g = one_place _ i c h ∙ sym (one_place _ j d g)

pub reach_zero : (r t : Reach) → Some r ≡ Some t → r.access ≡ 0 → r.memory ≡ 0 → (t.access ≡ 0) × (t.memory ≡ 0)
reach_zero r t e a m =
    let here : r ≡ t = cc in
    (subst (λ (x : Reach). x.access ≡ 0) here a, subst (λ (x : Reach). x.memory ≡ 0) here m)

pub storing_suits : (i : ℕ) (o : Operation) → slice_get (operations_in storing_plan 0) i ≡ Some o → OperationSuits storing_plan 0 (kinds_of storing_plan 0) o
storing_suits i o e =
    by_place (λ (n : ℕ) (x : Operation). OperationSuits storing_plan 0 (kinds_of storing_plan 0) x) _ _ _ _
    (record { guard = tt; form = record { sized = ((let a : 1 ≤ 8 = omega arith in a), (let b : 8 ≤ 64 = omega arith in b)); fits = (let a : 7 < 256 = omega arith in a) } })
    (record { guard = tt; form = record { sized = ((let a : 1 ≤ 32 = omega arith in a), (let b : 32 ≤ 64 = omega arith in b)); fits = (let a : 1 < 4294967296 = omega arith in a) } })
    (record {
      guard = tt;
      form = (
        record {
          memory = (let a : 0 < 1 = omega arith in a);
          banks = record { there = tt; once = λ j k b c h g same. absurd (cc) };
          indices = (((let a : 1 ≤ 32 = omega arith in a), (let b : 32 ≤ 64 = omega arith in b)), tt);
          select = tt;
          row = tt;
          element = (dims_at storing_plan.table 0, (refl, refl));
        },
        (refl, (let a : 0 < 1 = omega arith in a)),
      );
    })
    (record {
      guard = tt;
      form = (
        record {
          memory = (let a : 0 < 1 = omega arith in a);
          banks = record { there = ((let a : 0 < 1 = omega arith in a), tt); once = one_listed };
          indices = (((let a : 1 ≤ 32 = omega arith in a), (let b : 32 ≤ 64 = omega arith in b)), tt);
          select = tt;
          row = tt;
          element = (dims_at storing_plan.table 0, (refl, refl));
        },
        (tt, refl),
      );
    }) i o e

pub storing_block : (block : ℕ) → IsFormedBlock storing_plan block
storing_block zero = record { ordered = storing_ordered; suits = storing_suits }
storing_block (suc block) = record { ordered = record { each = λ i o e. absurd (cc) }; suits = λ i o e. absurd (cc) }

-- an operation with an access is of access 0 and memory 0
pub access_zero : (b i : ℕ) (r : Reach) → HasAccess storing_plan b i r → (r.access ≡ 0) × (r.memory ≡ 0)
access_zero zero i r h =
    by_place (λ (n : ℕ) (x : Operation). access_in x.form ≡ Some r → (r.access ≡ 0) × (r.memory ≡ 0)) _ _ _ _
    (λ u. absurd (let f : None ≡ Some r = u in cc)) (λ u. absurd (let f : None ≡ Some r = u in cc)) (λ u. reach_zero _ r u refl refl) (λ u. reach_zero _ r u refl refl) i h.operation h.there h.accesses
access_zero (suc b) i r h = absurd (let f : None ≡ Some h.operation = h.there in cc)

pub one_counter : AreCounters storing_plan (countings storing_plan.body)
one_counter =
    record {
      wide = (((let small : 0 < 1 = omega arith in small), (2, (refl, (let few : 3 ≤ 4 = omega arith in few)))), tt);
      apart = λ i j c d h g same. same_place i j c d h g;
    }

pub storing_formed : IsFormed storing_plan
storing_formed =
    record {
      table = storing_table;
      views = tt;
      blocks = storing_block;
      nodes = ((let small : 0 < 1 = omega arith in small), tt);
      distinct = tt;
      met = λ b i r h. (access_zero b i r h).0;
      one_memory = λ b c i j r t h g same. (access_zero b i r h).1 ∙ sym (access_zero c j t g).1;
      threads = ((tt, tt), tt);
      counters = one_counter;
      counters_kept = ((λ block i guard value e. never_set block i guard 0 value e), tt);
      flags = tt;
    }

pub storing_sound : IsSound storing_plan
storing_sound = record { formed = storing_formed; steps = storing_keeps_banks }
