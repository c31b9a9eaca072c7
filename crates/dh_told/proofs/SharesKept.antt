-- A read of a block that shares an earlier read shares one of the block, of the same memory.
use Rattle.std.proofs.Common.{◌≡◌, ◌<◌, ◌&&◌, not, ℕ, Bool, true, false, List, [], ◌∷◌, ◌++◌, length, Option, Some, None, refl, ap, sym, ◌∙◌, arith, append_assoc}
use Rattle.std.specs.Prelude.{slice_get}
use Rattle.std.specs.Option.{is_some}
use Rattle.std.proofs.lemmas.Bool.Decides.{nat_tests}
use Rattle.dh_tree.specs.Memories.{number_in, same_entity}
use Rattle.dh_tree.specs.Seen.{program_seen}
use Rattle.dh_meaning.specs.CoreOf.{entity_number}
use Rattle.dh_meaning.specs.Ways.{base_of, way_at}
use Rattle.dh_meaning.specs.OnePhase.{in_one_phase}
use Rattle.dh_meets.specs.Sharing.{alike_elements, shared}
use Rattle.dh_meets.specs.SourceEvents.{SourceAccess, SourceEvent, accesses, accesses_in, assigned, trace}
use Rattle.dh_lengths.specs.SharedReads.{TellsShares, share_told}
use Rattle.dh_sound.specs.Trails.{count}
use Rattle.dh_sound.proofs.KnownReads.{Shares, shared_found}
use Rattle.dh_plan.specs.PlainPlans.{PlainPlan}
use Rattle.dh_expressions.specs.declared.scenes.Around.{Around}
use Rattle.dh_expressions.specs.declared.scenes.Scene.{Scene}
use Rattle.dh_expressions.specs.Evaluated.{known_in}
use Rattle.dh_expressions.proofs.ListPlaces.{there}
use Rattle.dh_formed.specs.Formed.{BlockSite}
use Rattle.dh_formed.specs.WholeBlocks.{block_of}
use Rattle.dh_typed_laid.specs.SuitingBlocks.{KeepsShares}
use Rattle.dh_used.specs.SourceSites.{AreSited, IsSiteOf}
use Rattle.dh_used.proofs.SharedReads.{shared_there}
use Rattle.dh_used.proofs.SharesOfProgram.{cut_at}

-- Where an access stands among events.

at_cut : (before after : List SourceEvent) (a : SourceAccess) → slice_get (accesses_in (before ++ accesses a ∷ after)) (count before) ≡ Some a
at_cut [] after a = refl
at_cut (assigned entity ∷ before) after a = at_cut before after a
at_cut (accesses b ∷ before) after a = at_cut before after a

-- Entities.

same_entities : (a b : Option ℕ) → same_entity a b ≡ true → a ≡ b
same_entities None b h = absurd cc
same_entities (Some m) None h = absurd cc
same_entities (Some m) (Some n) h = ap (λ (k : ℕ). Some k) (same m n h)
  where
    same : (m n : ℕ) → same_entity (Some m) (Some n) ≡ true → m ≡ n
    same m n h = grind (arith, nat_tests, h)

-- both read one memory
one_memory : (aw bw same alike one arms : Bool) → ((((not aw && not bw) && (same && alike)) && one) && arms) ≡ true → same ≡ true
one_memory aw bw true alike one arms h = refl
one_memory true bw false alike one arms h = cc
one_memory false true false alike one arms h = cc
one_memory false false false alike one arms h = cc

module _ (scene : Scene) (tells : TellsShares (program_seen scene.program.now) scene.shares.now) (plan : PlainPlan) (block : ℕ) (around : Around) (makes : ℕ → Bool) (sites : ℕ → Option BlockSite) (sited : AreSited scene around makes sites) where
  shared_is : (k j : ℕ) → slice_get scene.shares.now k ≡ Some (Some j) → shared (program_seen scene.program.now) k ≡ Some j
  shared_is k j e = sym (tells.all k) ∙ ap share_told e

  is_made : (k : ℕ) (s : BlockSite) → sites k ≡ Some s → makes k ≡ true
  is_made k s at = sym (sited.made k) ∙ ap is_some at

  has : (j : ℕ) → makes j ≡ true → (t : BlockSite) × (sites j ≡ Some t)
  has j h = by (sites j) refl (sited.made j ∙ h)
    where
      never : false ≡ true → ⊥
      never q = cc

      by : (o : Option BlockSite) → sites j ≡ o → is_some (sites j) ≡ true → (t : BlockSite) × (sites j ≡ Some t)
      by None e h = let q : is_some {T = BlockSite} None ≡ true = sym (ap is_some e) ∙ h in absurd (never q)
      by (Some t) e h = (t, e)

  memory_same : (s t : BlockSite) (a b : SourceAccess) → IsSiteOf scene around.levels.now (length around.guards.now) s a → IsSiteOf scene around.levels.now (length around.guards.now) t b → a.entity ≡ b.entity → s.memory ≡ t.memory
  memory_same s t a b h k e =
      ap (λ (x : BlockSite). x.memory) h.is
      ∙ (ap (λ (o : Option ℕ). entity_number (number_in (known_in scene).memories (base_of (way_at (known_in scene).memories (known_in scene).ways o) o))) (h.entity_is ∙ (e ∙ sym k.entity_is)) ∙ sym (ap (λ (x : BlockSite). x.memory) k.is))

  -- the read of a number that another shares, and that it is of the same memory
  shared_same : (k j : ℕ) (b : SourceAccess) → slice_get (accesses_in (trace (program_seen scene.program.now))) k ≡ Some b → shared (program_seen scene.program.now) k ≡ Some j
      → (a : SourceAccess) × ((slice_get (accesses_in (trace (program_seen scene.program.now))) j ≡ Some a) × (a.entity ≡ b.entity))
  shared_same k j b at e =
      let c = cut_at (trace (program_seen scene.program.now)) k b at in
      let s : Shares (program_seen scene.program.now) c.before (count c.before) b j = shared_found (program_seen scene.program.now) c.before c.after b j c.cut (ap (λ n. shared (program_seen scene.program.now) n) c.counted ∙ e) in
      let whole : trace (program_seen scene.program.now) ≡ s.pre ++ accesses s.of ∷ (s.between ++ accesses b ∷ c.after) =
      c.cut ∙ (ap (λ (l : List SourceEvent). l ++ accesses b ∷ c.after) s.cut ∙ append_assoc s.pre (accesses s.of ∷ s.between) (accesses b ∷ c.after)) in (
        s.of,
        (
          ap (λ (l : List SourceEvent). slice_get (accesses_in l) j) whole ∙ (ap (λ n. slice_get (accesses_in (s.pre ++ accesses s.of ∷ (s.between ++ accesses b ∷ c.after))) n) s.number ∙ at_cut s.pre (s.between ++ accesses b ∷ c.after) s.of),
          same_entities s.of.entity b.entity (one_memory s.of.writes b.writes (same_entity s.of.entity b.entity) (alike_elements s.of.element b.element) _ _ s.so),
        ),
      )

  pub shares_kept : ((k : ℕ) → makes k ≡ true → k < length (accesses_in (trace (program_seen scene.program.now)))) → ((j k : ℕ) → in_one_phase (program_seen scene.program.now) j k ≡ true → makes k ≡ true → makes j ≡ true)
      → KeepsShares (block_of plan block sites) scene
  shares_kept below one_phase number earlier s at e =
      let made = is_made number s at in
      let share = shared_is number earlier e in
      let b = there (accesses_in (trace (program_seen scene.program.now))) number (below number made) in
      let a = shared_same number earlier b.0 b.1 share in
      let t = has earlier (one_phase earlier number (shared_there (program_seen scene.program.now) earlier number share).phase made) in
      record {
        site = t.0;
        there = t.1;
        same = memory_same t.0 s a.0 b.0 (sited.told earlier t.0 a.0 t.1 a.1.0) (sited.told number s b.0 at b.1) a.1.1;
      }
