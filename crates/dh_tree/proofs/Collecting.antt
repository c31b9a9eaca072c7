-- Collecting one more memory.
use Rattle.std.proofs.Common.{◌≡◌, ℕ, ◌+◌, ◌<◌, ◌≤◌, ◌==◌, suc, take, add-one, not, ◌≢◌, subst, ◌++◌, Bool, true, false, if◌then◌else◌, List, [], ◌∷◌, length, Option, Some, None, option_map, refl, ap, sym, ◌∙◌, arith, append-nil, append_assoc}
use Rattle.std.proofs.lemmas.Bool.Decides.{nat_tests}
use Rattle.std.proofs.lemmas.List.{get_or-set_same, get_or-set_other, length-set, map-append}
use Rattle.std.specs.Prelude.{slice_set, get_or}
use Rattle.std.proofs.Math.Seq.{take-suc}
use Rattle.std.specs.Option.{is_some}
use Rattle.dh_tree.specs.declared.trees.memories.Found.{Found}
use Rattle.dh_tree.specs.declared.trees.commands.LoopHeader.{LoopHeader}
use Rattle.dh_tree.specs.PlainTrees.{Action, ActionForm, MaybeAction}
use Rattle.dh_tree.specs.Seen.{counts_seen}
use Rattle.dh_tree.specs.Memories.{Memory, same_entity, number_in, form_locals}
use Rattle.dh_tree.specs.declared.trees.counters.Counter.{Counter}
use Rattle.dh_tree.specs.Counters.{counters, form_counters, other_counters, counter_in}
use Rattle.dh_tree.specs.Collected.{memory_found, found_memories, counter_of_header, AreKept, AreCountersByEntity}

-- what is looked up of an entity that had this before, where something stands for it or does not
abbrev pub one_more : {A : Type 0} → Option A → Bool → A → Option A
one_more (Some a) is b = Some a
one_more None true b = Some b
one_more None false b = None

-- none is there for another entity
lone : {A : Type 0} (r : Option A) (b : Bool) (v : A) → b ≡ false → one_more r b v ≡ r
lone (Some a) b v e = refl
lone None true v e = cc
lone None false v e = refl

there : {A : Type 0} (r : Option A) (b : Bool) (v a : A) → r ≡ Some a → one_more r b v ≡ r
there (Some x) b v a e = refl
there None b v a e = cc

next : {A : Type 0} (r : Option A) (b : Bool) (v : A) → r ≡ None → b ≡ true → one_more r b v ≡ Some v
next None true v e f = refl
next None false v e f = cc
next (Some a) b v e f = cc

-- numbers of memories
alone : (b : Bool) → (if b then Some 0 else option_map suc None) ≡ one_more None b 0
alone true = refl
alone false = refl

behind : (x b : Bool) (r : Option ℕ) (n : ℕ) → (if x then Some 0 else option_map suc (one_more r b n)) ≡ one_more (if x then Some 0 else option_map suc r) b (suc n)
behind true b r n = refl
behind false b (Some k) n = refl
behind false true None n = refl
behind false false None n = refl

pub number_more : (ms : List Memory) (m : Memory) (e : Option ℕ) → number_in (ms ++ m ∷ []) e ≡ one_more (number_in ms e) (same_entity m.name.entity e) (length ms)
number_more [] m e = alone (same_entity m.name.entity e)
number_more (x ∷ ms) m e =
    ap (λ r. if same_entity x.name.entity e then Some 0 else option_map suc r) (number_more ms m e)
    ∙ behind (same_entity x.name.entity e) (same_entity m.name.entity e) (number_in ms e) (length ms)

-- loops
first_loop : (b : Bool) (c : Counter) → (if b then Some c else None) ≡ one_more None b c
first_loop true c = refl
first_loop false c = refl

behind_loop : (x b : Bool) (r : Option Counter) (d c : Counter) → (if x then Some d else one_more r b c) ≡ one_more (if x then Some d else r) b c
behind_loop true b r d c = refl
behind_loop false b r d c = refl

pub counter_more : (cs : List Counter) (c : Counter) (e : Option ℕ) → counter_in (cs ++ c ∷ []) e ≡ one_more (counter_in cs e) (same_entity c.entity e) c
counter_more [] c e = first_loop (same_entity c.entity e) c
counter_more (d ∷ cs) c e =
    ap (λ r. if same_entity d.entity e then Some d else r) (counter_more cs c e) ∙ behind_loop (same_entity d.entity e) (same_entity c.entity e) (counter_in cs e) d c

-- what was found
pub found_none : {A : Type 0} (xs : List A) → xs ≡ xs ++ []
found_none xs = sym (append-nil xs)

pub found_both : {A : Type 0} (all so_far before first second : List A) → so_far ≡ before ++ first → all ≡ so_far ++ second → all ≡ before ++ (first ++ second)
found_both all so_far before first second e f = f ∙ (ap (λ l. l ++ second) e ∙ append_assoc before first second)

-- Noting what stands for an entity: it is kept where nothing was.
same_as : (key : Option ℕ) (k e : ℕ) → Some k ≡ key → same_entity key (Some e) ≡ (k == e)
same_as key k e h = ap (λ o. same_entity o (Some e)) (sym h)

same_none : (key : Option ℕ) (e : ℕ) → None ≡ key → same_entity key (Some e) ≡ false
same_none key e h = ap (λ o. same_entity o (Some e)) (sym h)

module _ {A : Type 0} (lookup after : ℕ → Option A) (key : Option ℕ) (v : A) (more : (e : ℕ) → after e ≡ one_more (lookup e) (same_entity key (Some e)) v) where
  kept : (old : List (Option A)) (e : ℕ) → get_or old e None ≡ lookup e → same_entity key (Some e) ≡ false → get_or old e None ≡ after e
  kept old e h f = h ∙ sym (more e ∙ lone (lookup e) (same_entity key (Some e)) v f)

  -- no entity, or one of which something is kept, or that is beyond those that are kept
  pub none_noted : (old : List (Option A)) → None ≡ key → AreKept lookup old → AreKept after old
  none_noted old e h entity l = kept old entity (h entity l) (same_none key entity e)

  pub beyond_noted : (old : List (Option A)) (k : ℕ) → Some k ≡ key → length old ≤ k → AreKept lookup old → AreKept after old
  beyond_noted old k e past h entity l = kept old entity (h entity l) (same_as key k entity e ∙ grind (arith, nat_tests, l, past))

  pub noted_before : (old : List (Option A)) (k : ℕ) (a : A) → get_or old k None ≡ Some a → Some k ≡ key → AreKept lookup old → AreKept after old
  noted_before old k a s e h entity l = by_test (k == entity) refl
    where
      by_test : (b : Bool) → (k == entity) ≡ b → get_or old entity None ≡ after entity
      by_test false f = kept old entity (h entity l) (same_as key k entity e ∙ f)
      by_test true f =
          let is : k ≡ entity = grind (arith, nat_tests, f) in
          let found : lookup entity ≡ Some a = sym (h entity l) ∙ (ap (λ i. get_or old i None) (sym is) ∙ s) in
          h entity l ∙ sym (more entity ∙ there (lookup entity) (same_entity key (Some entity)) v a found)

  pub now_noted : (old : List (Option A)) (k : ℕ) → get_or old k None ≡ None → k < length old → Some k ≡ key → AreKept lookup old → AreKept after (slice_set old k (Some v))
  now_noted old k s small e h entity l = by_test (k == entity) refl
    where
      within : entity < length old
      within = subst (λ j. entity < j) (length-set old k (Some v)) l

      by_test : (b : Bool) → (k == entity) ≡ b → get_or (slice_set old k (Some v)) entity None ≡ after entity
      by_test false f =
          let differs : entity ≢ k = grind (arith, nat_tests, f) in
          get_or-set_other old k entity (Some v) None differs ∙ kept old entity (h entity within) (same_as key k entity e ∙ f)
      by_test true f =
          let is : k ≡ entity = grind (arith, nat_tests, f) in
          let missing : lookup entity ≡ None = sym (h entity within) ∙ (ap (λ i. get_or old i None) (sym is) ∙ s) in
          ap (λ i. get_or (slice_set old k (Some v)) i None) (sym is)
          ∙ (get_or-set_same old k (Some v) None small
          ∙ sym (more entity ∙ next (lookup entity) (same_entity key (Some entity)) v missing (same_as key k entity e ∙ f)))

-- whether an entity has a number
pub no_number : {A : Type 0} (o : Option A) (b : Bool) → is_some o ≡ not b → b ≡ true → o ≡ None
no_number None b e t = refl
no_number (Some n) true e t = cc
no_number (Some n) false e t = cc

pub some_number : {A : Type 0} (o : Option A) (b : Bool) → is_some o ≡ not b → b ≡ false → (a : A) × (o ≡ Some a)
some_number None true e t = cc
some_number None false e t = cc
some_number (Some n) b e t = (n, refl)

-- a local memory is found
pub memory_more : (found new : List Found) (f : Found) (seen form : ActionForm) → new ≡ found ++ f ∷ [] → seen ≡ form → form_locals form ≡ memory_found f ∷ [] → found_memories new ≡ found_memories found ++ form_locals seen
memory_more found new f seen form e s l =
    ap found_memories e ∙ (map-append memory_found found (f ∷ []) ∙ ap (λ ms. found_memories found ++ ms) (sym (ap form_locals s ∙ l)))

-- a loop is found, and those inside it
pub loop_more : (old pushed inner all : List Counter) (seen : ActionForm) (header : LoopHeader) (body : Action) (combine : MaybeAction)
    → seen ≡ counts_seen header body combine → pushed ≡ old ++ counter_of_header header ∷ [] → inner ≡ pushed ++ counters body → all ≡ inner ++ other_counters combine → all ≡ old ++ form_counters seen
loop_more old pushed inner all seen header body combine s p f g =
    g ∙ (ap (λ l. l ++ other_counters combine) (f ∙ ap (λ l. l ++ counters body) p)
    ∙ (ap (λ l. l ++ other_counters combine) (append_assoc old (counter_of_header header ∷ []) (counters body))
    ∙ (append_assoc old _ (other_counters combine) ∙ ap (λ x. old ++ form_counters x) (sym s))))

-- loops noted so far, and the next one
pub noted_next : (found : List Counter) (slots : List (Option Counter)) (i : ℕ) (d : Counter) → i < length found → AreCountersByEntity (take i found ++ get_or found i d ∷ []) slots → AreCountersByEntity (take (i + 1) found) slots
noted_next found slots i d within h =
    subst (λ (l : List Counter). AreCountersByEntity l slots) (sym (ap (λ n. take n found) (add-one i) ∙ take-suc found i d within)) h
