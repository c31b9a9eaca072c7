-- The scene with which a plan is made is of the program, and so are the phases that are made with it.
use Rattle.std.proofs.Common.{◌≡◌, ℕ, ◌+◌, List, [], ◌++◌, length, map, Option, refl, ap, sym, ◌∙◌, subst, arith}
use Rattle.std.specs.Prelude.{IfOk, Result, Ok, Err}
use Rattle.dh_tree.specs.declared.trees.programs.Tree.{Tree}
use Rattle.dh_tree.specs.PlainTrees.{Program}
use Rattle.dh_tree.specs.Seen.{action_seen, program_seen}
use Rattle.dh_meaning.specs.Bindings.{bindings}
use Rattle.dh_meaning.specs.Ways.{all_bindings_of, all_entities_of, hidden_binding, led_binding, ways_of}
use Rattle.dh_ways.specs.declared.ways.Hidden.{Hidden}
use Rattle.dh_ways.specs.Kept.{KeptLed}
use Rattle.dh_ways.specs.Seen.{hidden_seen, led_seen}
use Rattle.dh_ways.specs.Stands.{hidden_of_program}
use Rattle.dh_plan.specs.Passes.{IsToCompile}
use Rattle.dh_runnable.proofs.ProgramsRun.{ready_runs}
use Rattle.dh_events.specs.Scopes.{AreScopes}
use Rattle.dh_lengths.specs.SharedReads.{TellsShares}
use Rattle.dh_code.specs.declared.places.VariableSlots.{VariableSlots}
use Rattle.dh_code.specs.Declarations.{all_declarations_of, declarations, placing_of, slots_of}
use Rattle.dh_code.specs.Placed.{AreFew, ArePlaces}
use Rattle.dh_sem.proofs.FirstMade.{places_are}
use Rattle.dh_ports.proofs.LayoutFacts.{bindings_found, scopes_told}
use Rattle.dh_expressions.specs.declared.scenes.Scene.{Scene}
use Rattle.dh_expressions.specs.declared.scenes.Through.{Through}
use Rattle.dh_gathering.specs.declared.making.Phased.{Phased}
use Rattle.dh_gathering.specs.MadeBlocks.{IsTold}
use Rattle.dh_gathering.specs.ProgramMade.{MakesPhased}
use Rattle.dh_gathering.proofs.KindsOfRegisters.{places_successive}
use Rattle.dh_told.specs.MadePlans.{IsSceneMade, MakesPhases}
use Rattle.dh_told.proofs.PlansMade.{few_accesses, few_entities, ready_scenes_are_told}
use Rattle.dh_unroll.specs.Shares.{narrow_shares}
use Rattle.dh_unroll.proofs.SharesNarrowed.{shares_narrowed}

ok_then : {A E : Type 0} (r : Result A E) (P Q : A → Type 0) → ((x : A) → P x → Q x) → IfOk r P → IfOk r Q
ok_then (Ok x) P Q f h = f x h
ok_then (Err e) P Q f h = tt

module _ (scene : Scene) where
  abbrev p : Program
  p = program_seen scene.program.now

  pub scene_made : (count : ℕ) (shares : List (Option ℕ)) → IsToCompile p → scene.held.now ≡ (placing_of p).held → count ≡ slots_of p → map led_seen scene.ways.now ≡ ways_of p
      → AreScopes (all_bindings_of p) scene.scopes.now → TellsShares p shares → scene.shares.now ≡ narrow_shares shares → IsSceneMade scene count
  scene_made count shares asked held counted ways scopes told same = record {
    held = held;
    count_is = counted;
    ways = ways;
    scopes = scopes;
    shares = subst (λ (l : List (Option ℕ)). TellsShares p l) (sym same) (shares_narrowed p shares (few_accesses scene asked) told);
  }

  pub phases_made : (count : ℕ) (through : List Through) (phased : Phased) → IsToCompile p → scene.through.now ≡ through → IsSceneMade scene count → IsTold scene → MakesPhased scene count p.body phased
      → MakesPhases scene.program.now through phased
  phases_made count through phased asked taken made told makes = record {
    scene = scene;
    count = count;
    of = refl;
    through_is = taken;
    made = made;
    phased_is = makes told (let long = made.shares.long in omega (arith, long)) (few_accesses scene asked) refl
        (places_successive (all_declarations_of p) (all_entities_of p) scene.held.now count (few_entities scene asked) made.held made.count_is);
  }

  -- from what the calls told of the program's tree
  module _ {E : Type 0} (n count : ℕ) (hidden kept : List Hidden) (led : List KeptLed) (places : List VariableSlots) (through : List Through) (shares : List (Option ℕ)) (r : Result Phased E) (asked : IsToCompile p) (ways : map led_seen scene.ways.now ≡ ways_of p)
      (taken : scene.through.now ≡ through) (are_led : led ≡ scene.ways.now) (found : hidden ≡ hidden_of_program p) (are_kept : kept ≡ hidden) where
    abbrev Told : Tree → Type 0
    Told t =
        n ≡ length t.entities.items → ArePlaces t.body kept (n + length kept) places count → scene.held.now ≡ places
        → AreScopes (bindings 0 (action_seen t.body) ++ (map led_binding (map led_seen led) ++ map hidden_binding (map hidden_seen kept))) scene.scopes.now
        → TellsShares (program_seen t) shares → scene.shares.now ≡ narrow_shares shares
        → IfOk r (λ phased. MakesPhased scene count (action_seen t.body) phased) → IfOk r (λ phased. MakesPhases scene.program.now through phased)

    here : Told scene.program.now
    here long placed held own shared narrow makes =
        let scopes : AreScopes (all_bindings_of p) scene.scopes.now =
        scopes_told p (action_seen scene.program.now.body) refl (map led_binding (map led_seen led) ++ map hidden_binding (map hidden_seen kept))
        (bindings_found p led hidden kept (ap (λ (ls : List KeptLed). map led_seen ls) are_led ∙ ways) found are_kept) scene.scopes.now own in
        let are : (scene.held.now ≡ (placing_of p).held) × (count ≡ slots_of p) =
        places_are scene.program.now n kept long (are_kept ∙ found) (action_seen scene.program.now.body) count scene.held.now places held refl placed in
        let made = scene_made count shares asked are.0 are.1 ways scopes shared narrow in
        ok_then r (λ phased. MakesPhased scene count p.body phased) (λ phased. MakesPhases scene.program.now through phased)
        (λ phased h. phases_made count through phased asked taken made (ready_scenes_are_told scene asked.ready scopes) h) makes

    pub told : (tree : Tree) → tree ≡ scene.program.now → Told tree
    told tree same = subst (λ (t : Tree). Told t) (sym same) here

-- Before: what the giving of registers asks.
pub places_few : (tree now : Tree) → tree ≡ now → IsToCompile (program_seen now) → AreFew (declarations [] (action_seen tree.body))
places_few tree now same asked = subst (λ (t : Tree). AreFew (declarations [] (action_seen t.body))) (sym same) (ready_runs (program_seen now) asked.ready).copies
