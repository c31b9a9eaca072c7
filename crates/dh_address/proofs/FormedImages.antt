-- The plan that is made of a sound one is sound: formed as it must be, and each step keeps the banks.
use Rattle.std.proofs.Common.{◌≡◌, ℕ, ◌+◌, ◌⊎◌, inl, inr, Some, None, List, true, length, refl, sym, ap, subst, ◌∙◌, arith}
use Rattle.std.specs.Prelude.{slice_get}
use Rattle.dh_tree.specs.Meets.{In, Apart, Before}
use Rattle.dh_plan.specs.declared.operations.Operation.{Operation}
use Rattle.dh_plan.specs.declared.operations.OperationForm.{OperationForm}
use Rattle.dh_plan.specs.declared.operations.OperationForm.TheVariants.{Constant, Old, Compute, Convert, Select, Check, Probe, Read, Write, Set}
use Rattle.dh_plan.specs.declared.operations.PlanBlock.{PlanBlock}
use Rattle.dh_plan.specs.declared.operations.Reach.{Reach}
use Rattle.dh_plan.specs.DoneProgram.{SetsRegister}
use Rattle.dh_plan.specs.PlainPlans.{Node, block_node, turns_node, loop_node, choice_node, threads_node, Nodes, no_nodes, node_then, NodeLists, no_lists, list_then, PlainPlan, first_in, operations_in}
use Rattle.dh_plan.specs.PlanKinds.{Names, IsFormedBlock}
use Rattle.dh_plan.specs.SoundPlans.{access_in, HasAccess, countings, blocks_of, list_blocks, GoSideBySide, ThreadsMeet, NodeThreadsMeet, ListsMeet, IsNeverSet, KeepsCounter, IsFormed, IsSound}
use Rattle.dh_plan.proofs.ValuesAlike.{all_map}
use Rattle.dh_address.proofs.WaySizes.{HasMaps}
use Rattle.dh_address.specs.Images.{IsImage}
use Rattle.dh_address.proofs.BlockImages.{front, begins, block_known}
use Rattle.dh_address.proofs.ImageReadings.{behind_front, FormedAt}
use Rattle.dh_address.proofs.PartsOfPieces.{place_of}
use Rattle.dh_address.proofs.PartsSeen.{block_parts, IsImageOf, part_seen}
use Rattle.dh_address.proofs.PieceForms.{image_of}
use Rattle.dh_address.proofs.PiecesQuiet.{IsQuiet, is_quiet, IsRowOf, SameForm}
use Rattle.dh_address.proofs.PlanSeen.{sets_same}
use Rattle.dh_address.proofs.SoundImages.{steps_keep_banks}

-- Accesses.

quiet_access : (f : OperationForm) (t : Reach) → is_quiet f ≡ true → access_in f ≡ Some t → ⊥
quiet_access (Constant word) t p e = cc
quiet_access (Old register) t p e = cc
quiet_access (Compute op left right) t p e = cc
quiet_access (Convert inner to) t p e = cc
quiet_access (Select test a b) t p e = cc
quiet_access (Check ok fault) t p e = cc
quiet_access (Probe r fault) t p e = cc
quiet_access (Read r) t p e = cc
quiet_access (Write r value) t p e = cc
quiet_access (Set register value) t p e = cc

-- the old access of one of the new plan
pub record IsOldAccess (p : PlainPlan) (block : ℕ) (t : Reach) : Type 0 where
  pub place : ℕ
  pub reach : Reach
  pub has : HasAccess p block place reach
  pub access : t.access ≡ reach.access
  pub memory : t.memory ≡ reach.memory

no_access : (f g : OperationForm) (t : Reach) → f ≡ g → access_in g ≡ None → access_in f ≡ Some t → ⊥
no_access f g t e none h = let two : Some t ≡ None = sym h ∙ (ap access_in e ∙ none) in cc

module _ (p : PlainPlan) (block : ℕ) (t : Reach) (place : ℕ) (o : Operation) (there : slice_get (operations_in p block) place ≡ Some o) where
  row_of_old : (f : OperationForm) (r u : Reach) → o.form ≡ f → access_in f ≡ Some r → u ≡ t → IsRowOf r u → IsOldAccess p block t
  row_of_old f r u e has same row = record {
    place = place;
    reach = r;
    has = record { operation = o; there = there; accesses = ap access_in e ∙ has };
    access = ap (λ (v : Reach). v.access) (sym same) ∙ row.access;
    memory = ap (λ (v : Reach). v.memory) (sym same) ∙ row.memory;
  }

  same_access : (u : Reach) (x : OperationForm) → access_in x ≡ Some t → access_in x ≡ Some u → u ≡ t
  same_access u x h k = let two : Some u ≡ Some t = sym k ∙ h in cc

  form_access : (f x : OperationForm) → o.form ≡ f → SameForm f x → access_in x ≡ Some t → IsOldAccess p block t
  form_access (Constant w) x e s h = absurd (no_access x _ t s refl h)
  form_access (Old register) x e s h = absurd (no_access x _ t s refl h)
  form_access (Compute op left right) x e (m, (n, s)) h = absurd (no_access x _ t s refl h)
  form_access (Convert inner to) x e (m, s) h = absurd (no_access x _ t s refl h)
  form_access (Select test a b) x e (m, (n, (l, s))) h = absurd (no_access x _ t s refl h)
  form_access (Check ok fault) x e (m, s) h = absurd (no_access x _ t s refl h)
  form_access (Probe r fault) x e s h = absurd s
  form_access (Read r) x e (u, (s, row)) h = row_of_old (Read r) r u e refl (same_access u x h (ap access_in s)) row
  form_access (Write r value) x e (u, (m, (s, row))) h = row_of_old (Write r value) r u e refl (same_access u x h (ap access_in s)) row
  form_access (Set register value) x e (m, s) h = absurd (no_access x _ t s refl h)

pub old_access : (p q : PlainPlan) → IsImage p q → (block i : ℕ) (t : Reach) → HasAccess q block i t → IsOldAccess p block t
old_access p q h block i t a = of (part_seen (operations_in p block) (operations_in q block) (block_parts p q h block) i a.operation a.there)
  where
    of : IsQuiet a.operation ⊎ IsImageOf (operations_in p block) a.operation → IsOldAccess p block t
    of (inl e) = absurd (quiet_access a.operation.form t e a.accesses)
    of (inr s) = form_access p block t s.place s.old s.there s.old.form a.operation.form refl s.same a.accesses

-- Threads.

module _ (p q : PlainPlan) (side : (first second : List ℕ) → GoSideBySide p first second → GoSideBySide q first second) where
  mutual
    threads_kept : (ns : Nodes) → ThreadsMeet p ns → ThreadsMeet q ns
    threads_kept no_nodes h = tt
    threads_kept (node_then n ns) h = (node_kept n h.0, threads_kept ns h.1)

    node_kept : (n : Node) → NodeThreadsMeet p n → NodeThreadsMeet q n
    node_kept (block_node block) h = tt
    node_kept (turns_node counter turns body) h = threads_kept body h
    node_kept (loop_node test flag body) h = threads_kept body h
    node_kept (choice_node test flag chosen other) h = (threads_kept chosen h.0, threads_kept other h.1)
    node_kept (threads_node lists) h = lists_kept lists h

    lists_kept : (ls : NodeLists) → ListsMeet p ls → ListsMeet q ls
    lists_kept no_lists h = tt
    lists_kept (list_then ns lists) h = (threads_kept ns h.0, (side (blocks_of ns) (list_blocks lists) h.1.0, lists_kept lists h.1.1))

-- The plan.

module _ (p : PlainPlan) (maps : HasMaps p) (sound : IsSound p) (bs : List PlanBlock) (h : IsImage p (image_of p bs)) where
  abbrev q : PlainPlan
  q = image_of p bs

  block_formed : (block : ℕ) → IsFormedBlock q block
  block_formed block =
      record { ordered = record { each = λ i o e. (at i o e).0 }; suits = λ i o e. (at i o e).1 }
    where
      at : (i : ℕ) (o : Operation) → slice_get (operations_in q block) i ≡ Some o → FormedAt q block (front p maps sound.formed bs block) (begins p maps sound.formed bs block) (first_in q block + i) o
      at i o e =
          let there = behind_front (front p maps sound.formed bs block) (operations_in q block) i ∙ e in
          let k = block_known p maps sound.formed bs block (h.blocks block) in
          let b = begins p maps sound.formed bs block in
          subst (λ (n : ℕ). FormedAt q block (front p maps sound.formed bs block) (begins p maps sound.formed bs block) (n + i) o) b
          (k.known.all_formed (length (front p maps sound.formed bs block) + i) o (omega (arith, b)) (place_of _ _ o there) there)

  side_kept : (first second : List ℕ) → GoSideBySide p first second → GoSideBySide q first second
  side_kept first second g b c i j r t one other x y =
      let a = old_access p q h b i r x in
      let d = old_access p q h c j t y in
      let s = g b c a.place d.place a.reach d.reach one other a.has d.has in (
        λ apart. s.0 (subst (λ (n : ℕ). Apart p.meets n d.reach.access) a.access (subst (λ (n : ℕ). Apart p.meets r.access n) d.access apart)),
        subst (λ (n : ℕ). Before p.meets n t.access) (sym a.access) (subst (λ (n : ℕ). Before p.meets a.reach.access n) (sym d.access) s.1),
      )

  never_set : (register : ℕ) → IsNeverSet p register → IsNeverSet q register
  never_set register kept block i guard value there =
      let s : SetsRegister p block register = (sets_same p q h block register).0 (record { place = i; guard = guard; value = value; there = there }) in
      kept block s.place s.guard s.value s.there

  pub image_formed : IsFormed q
  image_formed = record {
    table = sound.formed.table;
    views = tt;
    blocks = block_formed;
    nodes = all_map (λ b. Names p.blocks b) (λ b. Names q.blocks b) (blocks_of p.body) (λ b l. (let m = h.as_many in omega (arith, l, m))) sound.formed.nodes;
    distinct = sound.formed.distinct;
    met = λ block i r a. (let o = old_access p q h block i r a in subst (λ (n : ℕ). In n p.meets) (sym o.access) (sound.formed.met block o.place o.reach o.has));
    one_memory = λ b c i j r t x y same.
        (let a = old_access p q h b i r x in
        let d = old_access p q h c j t y in
        a.memory ∙ (sound.formed.one_memory b c a.place d.place a.reach d.reach a.has d.has (sym a.access ∙ (same ∙ d.access)) ∙ sym d.memory));
    threads = threads_kept p q side_kept p.body sound.formed.threads;
    counters = record { wide = sound.formed.counters.wide; apart = sound.formed.counters.apart };
    counters_kept = all_map (λ c. KeepsCounter p c) (λ c. KeepsCounter q c) (countings p.body) (λ c k. never_set c.counter k) sound.formed.counters_kept;
    flags = sound.formed.flags;
  }

  pub image_sound : IsSound q
  image_sound = record { formed = image_formed; steps = steps_keep_banks p maps sound bs h.blocks }
