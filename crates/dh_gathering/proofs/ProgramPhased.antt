-- A program whole: from nothing to its nodes, with the registers of its variables kept.
use Rattle.std.proofs.Common.{◌≡◌, ◌⊎◌, inl, inr, ℕ, zero, suc, ◌+◌, ◌<◌, ◌≤◌, List, [], ◌∷◌, length, refl, ap, sym, ◌∙◌, subst, arith}
use Rattle.std.specs.Prelude.{Option, Some, None, replicate, slice_get, slice_index, slice_index_or}
use Rattle.std.proofs.lemmas.List.{length-replicate}
use Rattle.dh_base.specs.declared.outcomes.FaultKind.{FaultKind}
use Rattle.dh_base.specs.declared.places.Place.{Place}
use Rattle.dh_value.specs.declared.kinds.Kind.{Kind}
use Rattle.dh_value.specs.declared.kinds.Kind.TheVariants as kind
use Rattle.dh_tree.specs.PlainTrees.{Action}
use Rattle.dh_tree.specs.Seen.{program_seen}
use Rattle.dh_meaning.specs.AccessNumbers.{accesses_of}
use Rattle.dh_meaning.specs.Phases.{of_list, phases}
use Rattle.dh_meaning.specs.Sites.{nothing_around}
use Rattle.dh_plan.specs.declared.operations.Operation.{Operation}
use Rattle.dh_plan.specs.declared.operations.PlanBlock.{PlanBlock}
use Rattle.dh_plan.specs.SeenPlans.{nodes_seen}
use Rattle.dh_plan.specs.SoundPlans.{blocks_of}
use Rattle.dh_code.specs.declared.places.VariableSlots.{VariableSlots}
use Rattle.dh_expressions.specs.declared.accesses.Accesses.{Accesses}
use Rattle.dh_expressions.specs.declared.accesses.Touched.{Touched}
use Rattle.dh_expressions.specs.declared.paths.Paths.{Paths}
use Rattle.dh_expressions.specs.declared.scenes.Scene.{Scene}
use Rattle.dh_expressions.specs.Noted.{IsUntouched, touched_in, touched_of}
use Rattle.dh_commands.specs.Undone.{NoneGiven}
use Rattle.dh_laid.specs.LaidAccesses.{touched_count}
use Rattle.dh_gathering.specs.declared.blocks.Made.{Made}
use Rattle.dh_gathering.specs.declared.making.Phased.{Phased}
use Rattle.dh_gathering.specs.Cutting.{AreBlocksOf, IsCutAtStarts}
use Rattle.dh_gathering.specs.Gathered.{HasNodes, MakesBody, MakesNodes}
use Rattle.dh_gathering.specs.Growing.{block_place_in, registers_given}
use Rattle.dh_gathering.specs.NamedOnce.{NamesOnce}
use Rattle.dh_gathering.specs.ProgramMade.{MakingBegins, MakesPhased}
use Rattle.dh_gathering.specs.Registers.{AreRegisters, HaveKinds, first_among}
use Rattle.dh_gathering.proofs.AccessesOpen.{untouched_part}
use Rattle.dh_gathering.proofs.BlocksPlanned.{none_clear, rest_rises}
use Rattle.dh_gathering.proofs.EachNamedOnce.{once_each}
use Rattle.dh_gathering.proofs.MadeGrows.{grows_none}

replicate_given : (m : Made) (n : ℕ) → NoneGiven m.building.values n → registers_given m ≡ n
replicate_given m n h = ap (λ (l : List (Option ℕ)). length l) h.current ∙ length-replicate n None

none_replicate : (n number : ℕ) → touched_of (slice_get (replicate n None) number) ≡ None
none_replicate zero number = refl
none_replicate (suc n) zero = refl
none_replicate (suc n) (suc number) = none_replicate n number

-- of accesses of which none has operations
untouched_in : (a : Accesses) (many number : ℕ) → IsUntouched a many → touched_in a number ≡ None
untouched_in a many number h = ap (λ (l : List (Option Touched)). touched_of (slice_get l number)) h.touched ∙ none_replicate many number

pub begins_made : (m : Made) (registers : List Kind) (count many : ℕ) → m.building.draft.operations.items ≡ [] → m.building.draft.faults ≡ [] → m.starts.items ≡ [] → IsUntouched m.building.accesses many → NoneGiven m.building.values count → count ≡ length registers → m.registers ≡ registers
    → MakingBegins registers many m
begins_made m registers count many no_operation no_fault no_start untouched none is are = record {
  rest = record {
    clear = none_clear m.building.values count none;
    laid = λ named holds short number t at. absurd (never (sym (untouched_in m.building.accesses many number untouched) ∙ at));
    owned = λ few. record {
      probes = λ n fault guard r at within. absurd (never (sym (none_at n) ∙ at));
      unchecked = λ n ok fault guard at. never (sym (none_at n) ∙ at);
      named = λ number t at. absurd (never (sym (untouched_in m.building.accesses many number untouched) ∙ at));
      apart = λ i j t u at au e. absurd (never (sym (untouched_in m.building.accesses many i untouched) ∙ at));
    };
    counts = λ b. ap (λ (l : List ℕ). slice_index l b) untouched.counts;
    first = place 0;
    rising = λ block. subst (λ (n : ℕ). n ≤ block_place_in m (suc block)) (sym (place block)) (least (block_place_in m (suc block)));
    variables = subst (λ (n : ℕ). n ≤ length m.registers) (sym (replicate_given m count none ∙ is)) (subst (λ (l : List Kind). length registers ≤ length l) (sym are) (same (length registers)));
  };
  untouched = λ number from to. (
    subst (λ (n : ℕ). number < n) (sym (ap (λ (l : List (Option Touched)). length l) untouched.touched ∙ length-replicate many None)) to,
    untouched_in m.building.accesses many number untouched,
  );
  registers_are = are;
  given = replicate_given m count none ∙ is;
  starts = no_start;
  faults = no_fault;
  accesses = ap (λ (l : List (Option Touched)). length l) untouched.touched ∙ length-replicate many None;
}
  where
    never : {A : Type 0} {x : A} → None ≡ Some x → ⊥
    never e = cc

    none_at : (n : ℕ) → slice_get m.building.draft.operations.items n ≡ None
    none_at n = ap (λ (os : List Operation). slice_get os n) no_operation

    least : (n : ℕ) → 0 ≤ n
    least n = omega arith

    same : (n : ℕ) → n ≤ n
    same n = omega arith

    place : (block : ℕ) → block_place_in m block ≡ 0
    place block = ap (λ (l : List ℕ). slice_index_or l block (length m.building.draft.operations.items)) no_start ∙ ap (λ (l : List Operation). length l) no_operation

count_within : (ts : List (Option Touched)) → touched_count ts ≤ length ts
count_within [] = omega arith
count_within (None ∷ ts) = let h = count_within ts in omega (arith, h)
count_within (Some t ∷ ts) = let h = count_within ts in omega (arith, h)

all_few : (p f g l m n : ℕ) → p ≡ f → g ≡ 0 → f + l ≤ g + m → m ≤ n → p ≤ n
all_few p f g l m n e z h k = omega (arith, e, z, h, k)

-- what is made in the end, by what the code takes of it
pub makes_phased : (scene : Scene) (count : ℕ) (body : Action) (begun final : Made) (variables : List Kind) (paths : Paths) (blocks : List PlanBlock) (p : Phased) → AreRegisters (program_seen scene.program.now) scene.held.now count variables → MakingBegins variables (length scene.shares.now) begun
    → paths.levels.items ≡ [] → paths.count ≡ 1 → MakesBody scene paths begun final body (nodes_seen p.nodes.items) → NamesOnce begun final (blocks_of (nodes_seen p.nodes.items)) → IsCutAtStarts final.building.draft.operations.items final.starts.items blocks
    → p.blocks ≡ blocks → p.registers ≡ final.registers → p.faults ≡ final.building.draft.faults → MakesPhased scene count body p
makes_phased scene count body begun final variables paths blocks p registers begins levels one makes each cuts blocks_are registers_are faults_are told known few body_is successive = record {
  final = final;
  nodes = made.0.made final (grows_none final);
  named = made.1;
  once = λ block within. once_each begun final (nodes_seen p.nodes.items) begins.starts each block (subst (λ (n : ℕ). block < n) (ap (λ (l : List PlanBlock). length l) blocks_are ∙ (cuts (rest_rises final made.0.rest)).count) within);
  blocks = subst (λ (bs : List PlanBlock). AreBlocksOf final.building.draft.operations.items final.starts.items bs) (sym blocks_are) (cuts (rest_rises final made.0.rest));
  registers = registers_are;
  faults = faults_are;
  few_faults =
      all_few (length p.faults) (length final.building.draft.faults) (length begun.building.draft.faults) (touched_count begun.building.accesses.touched.items) (touched_count final.building.accesses.touched.items) (length scene.shares.now)
      (ap (λ (fs : List (FaultKind × Place)). length fs) faults_are) (ap (λ (fs : List (FaultKind × Place)). length fs) begins.faults) made.0.grows.few.1
      (subst (λ (n : ℕ). touched_count final.building.accesses.touched.items ≤ n) (made.0.grows.few.0 ∙ begins.accesses) (count_within final.building.accesses.touched.items));
  accesses = made.0.grows.few.0 ∙ begins.accesses;
  owned = made.0.rest.owned;
  flags = λ register k from at. flag register k from (made.0.grows.flags register k (ap (λ (l : List Kind). slice_get l register) (sym registers_are) ∙ at));
  given = made.0.grows.variables ∙ (begins.given ∙ (kinds.long ∙ all_behind scene.held.now count));
  kinds = λ entity register within from to.
      let k = kinds.kinds entity register within from to in
      (k.0, (ap (λ (l : List Kind). slice_get l register) registers_are ∙ made.0.grows.registers register k.0 (ap (λ (l : List Kind). slice_get l register) begins.registers_are ∙ k.1.0), k.1.1));
}
  where
    made : MakesNodes scene [] begun final 0 (accesses_of body) (nodes_seen p.nodes.items) (of_list (phases nothing_around 0 body)) × HasNodes final (nodes_seen p.nodes.items)
    made = makes told levels one few body_is begins.rest (untouched_part begun.building.accesses 0 (accesses_of body) 0 (length scene.shares.now) begins.untouched (omega arith) known)

    kinds : HaveKinds (program_seen scene.program.now) scene.held.now count (length scene.held.now) variables
    kinds = registers successive

    all_behind : (held : List VariableSlots) (n : ℕ) → first_among held n (length held) ≡ n
    all_behind [] n = refl
    all_behind (h ∷ held) n = all_behind held n

    past : (xs : List Kind) (i : ℕ) (k : Kind) → length xs ≤ i → slice_get xs i ≡ Some k → ⊥
    past [] i k l e = cc
    past (x ∷ xs) zero k l e = none (length xs) l
      where
        none : (n : ℕ) → suc n ≤ 0 → ⊥
        none n h = omega (arith, h)
    past (x ∷ xs) (suc i) k l e = past xs i k (less (length xs) l) e
      where
        less : (n : ℕ) → suc n ≤ suc i → n ≤ i
        less n h = omega (arith, h)

    flag : (register : ℕ) (k : Kind) → count ≤ register → (slice_get begun.registers register ≡ Some k) ⊎ (k ≡ kind.Bool) → k ≡ kind.Bool
    flag register k from (inr is) = is
    flag register k from (inl at) =
        absurd (past variables register k (subst (λ (n : ℕ). n ≤ register) (sym (kinds.long ∙ all_behind scene.held.now count)) from) (ap (λ (l : List Kind). slice_get l register) (sym begins.registers_are) ∙ at))
