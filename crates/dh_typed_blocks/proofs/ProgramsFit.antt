-- The body of a ready program fits: where it begins, no loop is round it, and the names that are visible are known.
use Rattle.std.proofs.Common.{◌≡◌, [], length, None, ap}
use Rattle.std.specs.List.{AllByRecursion}
use Rattle.dh_tree.specs.Breaches.{breaches, items_breaches, functions_breaches}
use Rattle.dh_tree.specs.Excesses.{copies_excess}
use Rattle.dh_tree.specs.Forms.{unbuilt_functions, unbuilt_action}
use Rattle.dh_tree.specs.Indices.{action_index_breaches, decls_shape_breaches}
use Rattle.dh_tree.specs.KindBreaches.{action_kind_breaches, functions_kind_breaches}
use Rattle.dh_tree.specs.Kinds.{Facts, first_facts, body_facts, typed_action, typed_action_form}
use Rattle.dh_tree.specs.Memories.{memories_of}
use Rattle.dh_tree.specs.PlainTrees.{Action, action, Program}
use Rattle.dh_tree.specs.Resolved.{resolved_action, resolved_form}
use Rattle.dh_tree.specs.Scopes.{Scope, items_of, first_scope, body_scope}
use Rattle.dh_tree.specs.TextNumbers.{HasTextNumbers}
use Rattle.dh_tree.specs.ViewBreaches.{action_view_breaches}
use Rattle.dh_tree.specs.ViewFactors.{factor_breaches_of}
use Rattle.dh_tree.specs.Widths.{ActionSized}
use Rattle.dh_tree.proofs.EmptyLists.{first_none, second_none}
use Rattle.dh_meaning.specs.CoreOf.{Known, known_of}
use Rattle.dh_tree.specs.Ready.{IsReady}
use Rattle.dh_sound.proofs.FactsGrow.{InStep}
use Rattle.dh_sound.proofs.KindsOfPrograms.{body_in_step}
use Rattle.dh_code.specs.Declarations.{factored, placing_of}
use Rattle.dh_code.specs.Slots.{Placing}
use Rattle.dh_runnable.proofs.DeclarationsFound.{ArePlaced}
use Rattle.dh_runnable.proofs.MemoriesFound.{Declares, finds}
use Rattle.dh_runnable.proofs.NamesKnown.{Knows}
use Rattle.dh_runnable.proofs.ProgramsRun.{body_known, body_places, body_sees, resolved_body, rules_of, typed_body}
use Rattle.dh_runnable.proofs.TermsSuited.{indexed, judged}
use Rattle.dh_runnable.proofs.ViewsFound.{IsViewed, views_viewed}
use Rattle.dh_runnable.proofs.ViewsKnown.{AreGoodWays, Rules}
use Rattle.dh_runnable.proofs.ViewsLead.{good_ways}
use Rattle.dh_sound.specs.AssignsInside.{AssignsInside}
use Rattle.dh_sound.specs.NamesInScope.{IsScoped}
use Rattle.dh_sound.specs.SimpleForms.{FoldsInJoins}
use Rattle.dh_sound.specs.Straight.{IsNamedAction}
use Rattle.dh_sound.proofs.NamedPrograms.{ready_named}
use Rattle.dh_sound.proofs.NamesInScope.{body_scoped}
use Rattle.dh_typed_blocks.proofs.CommandsFit.{form_fits}
use Rattle.dh_typed_blocks.specs.PlainPrograms.{AssignsPlain}
use Rattle.dh_typed_blocks.proofs.Fitting.{Fits}
use Rattle.dh_typed_blocks.proofs.SimplePrograms.{body_simple}
use Rattle.dh_typed_blocks.specs.PlainPrograms.{AreFewMemories}
use Rattle.dh_typed_blocks.proofs.ProgramsEnough.{enough}
use Rattle.dh_typed_blocks.proofs.ReducersWhole.{JoinsWhole, ready_whole}

-- a body of which each walk tells its own
body_fits : (known : Known) (rules : Rules) (good : AreGoodWays known rules.views) (p : Placing) (few : AreFewMemories known) (a : Action) (facts : Facts) (s : Scope) → InStep s facts → Knows known p [] facts s.visible
    → typed_action facts a ≡ a → resolved_action s a ≡ a → breaches s a ≡ [] → action_kind_breaches facts a ≡ [] → action_index_breaches (indexed known rules) a ≡ [] → action_view_breaches (judged known rules) a ≡ [] → unbuilt_action a ≡ []
    → ActionSized a → copies_excess 1 a ≡ None → HasTextNumbers a → ArePlaced known p [] a → Declares known.memories a → AllByRecursion (λ f. IsViewed known.memories known.ways p f) (factored [] a)
    → IsScoped known [] a → AssignsInside known 0 a → JoinsWhole known 0 a → FoldsInJoins a → IsNamedAction a → AssignsPlain known a → Fits known p [] a
body_fits known rules good p few (action id place form) facts s l k typed named visible kinds indices views forms sized copies numbers places declares viewed sc asg wh si na pl =
    let form_typed : typed_action_form facts form ≡ form = cc in
    let form_named : resolved_form s form ≡ form = cc in
    form_fits known rules good p few form [] facts s place l k (record {
      typed = form_typed;
      named = form_named;
      visible = visible;
      kinds = kinds;
      indices = indices;
      views = views;
      forms = forms;
      sized = sized;
      copies = copies;
      numbers = numbers;
      placed = places;
      declares_memories = declares;
      viewed = viewed;
    }) sc asg wh si na pl tt

-- the body of a ready program fits, if its memories are few, it assigns inside its loops and to no iterators
pub ready_fits : (q : Program) → IsReady q → AreFewMemories (known_of q) → AssignsInside (known_of q) 0 q.body → AssignsPlain (known_of q) q.body → Fits (known_of q) (placing_of q) [] q.body
ready_fits q r few inside plain =
    let h = enough q r in
    let named = resolved_body q h in
    let memories = finds (memories_of q) q.body (body_scope q) [] named tt (body_sees q h) in
    body_fits (known_of q) (rules_of q) (good_ways q (first_none (factor_breaches_of q) _ h.views) h.table) (placing_of q) few q.body (body_facts q) (body_scope q) (body_in_step q) (body_known q (placing_of q) h) (typed_body q h) named
    (second_none (functions_breaches (length q.decls) (first_scope q) q.functions) _ (second_none (items_breaches [] (items_of q)) _ h.names))
    (second_none (functions_kind_breaches (first_facts q) q.functions) _ h.suits)
    (second_none (decls_shape_breaches q.decls) _ h.indices)
    (second_none (factor_breaches_of q) _ h.views)
    (second_none (unbuilt_functions q.functions) _ h.built)
    h.widths.body h.copies h.numbers (body_places q h) memories.found (views_viewed q named (ap (λ (x : Program). length x.entities) h.entities)) (body_scoped q r) inside (ready_whole q r) (body_simple q r) (ready_named q r) plain
