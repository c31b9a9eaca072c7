-- The accesses of a block as they are found along its run: where each stands, and what it means at each path, by the
-- program's variables there. They come in the order of their numbers.
use Rattle.std.specs.Prelude.{ℕ, zero, suc, ◌+◌, ◌-◌, nat_lt, true, false, if◌then◌else◌, List, [], ◌∷◌, ◌++◌, slice_get, Option, Some, None}
use Rattle.dh_base.specs.declared.places.Place.{Place}
use Rattle.dh_value.specs.declared.kinds.Kind.{Kind}
use Rattle.dh_value.specs.declared.words.Word.{Word}
use Rattle.dh_tree.specs.PlainTrees as plain
use Rattle.dh_tree.specs.Seen.{terms}
use Rattle.dh_tree.specs.ViewOffsets.{offsets_of}
use Rattle.dh_tree.specs.PlainTrees.{Action, action, ActionForm, lets, lets_memory, views, assigns, stores, reduces, calls, blocks, decides, repeats, counts, MaybeAction, no_action, one_action, Actions, no_actions, action_then, Groups, no_groups, group_then}
use Rattle.dh_meaning.specs.AccessNumbers.{accesses_of, other_accesses, part_accesses, term_accesses, terms_accesses}
use Rattle.dh_meaning.specs.Bindings.{kind_or_first}
use Rattle.dh_meaning.specs.CoreOf.{core_form, memory_of, way_of}
use Rattle.dh_meaning.specs.Effects.{Effect, Variables, value_of_term}
use Rattle.dh_meaning.specs.Paths.{Path}
use Rattle.dh_meaning.specs.Phases.{Located}
use Rattle.dh_meaning.specs.Ways.{Hidden, hidden_in}
use Rattle.dh_plan.specs.Blocks.{no_word}
use Rattle.dh_expressions.specs.declared.scenes.Around.{Around}
use Rattle.dh_expressions.specs.declared.scenes.Scene.{Scene}
use Rattle.dh_expressions.specs.Drafted.{BlockStep}
use Rattle.dh_expressions.specs.Evaluated.{begun_of, known_in}
use Rattle.dh_expressions.specs.Standings.{AccessStanding, standing_at}
use Rattle.dh_commands.specs.LanesRun.{lanes_run, path_in, paths_on}
use Rattle.dh_commands.specs.Followed.{Arms, no_arms, arms_of, arms_then, assign_run, effect_of, kept_run, part_effect, reduced_term, store_run, term_in, test_run, tested}

-- where an access stands, and of a read what it means at each path
pub record Found : Type 0 where
  pub standing : AccessStanding
  pub word : (path : ℕ) → Word

-- In an expression that is evaluated at each path by these variables.
module _ (scene : Scene) (around : Around) (x : BlockStep) (variables : ℕ → Variables) where
  abbrev pub read_found : (n : ℕ) → Place → Kind → (memory : ℕ) → plain.TermForm → Found
  read_found n place k memory form = record {
    standing = standing_at scene around memory place form false;
    word = λ path. value_of_term (begun_of x) (variables path) (path_in around path) (core_form (known_in scene) n place k form);
  }

  abbrev mutual
    pub term_found : (n : ℕ) → plain.Term → List Found
    term_found n (plain.term place kind form) = form_found n place (kind_or_first kind) form

    pub form_found : (n : ℕ) → Place → Kind → plain.TermForm → List Found
    form_found n place k (plain.number negative z) = []
    form_found n place k (plain.truth_value b) = []
    form_found n place k (plain.named r) = []
    form_found n place k (plain.accessed r ts) = terms_found n ts ++ read_found n place k (memory_of (known_in scene) r) (plain.accessed r ts) ∷ []
    form_found n place k (plain.in_bank r bank at row) = term_found n row ++ read_found n place k (memory_of (known_in scene) r) (plain.in_bank r bank at row) ∷ []
    form_found n place k (plain.applied op left right) = term_found n left ++ term_found (n + term_accesses left) right
    form_found n place k (plain.converted inner to) = term_found n inner

    pub terms_found : (n : ℕ) → plain.Terms → List Found
    terms_found n plain.no_terms = []
    terms_found n (plain.term_then t ts) = term_found n t ++ terms_found (n + term_accesses t) ts

  -- a write gives nothing
  abbrev pub write_found : Place → (memory : ℕ) → plain.TermForm → Found
  write_found place memory form = record { standing = standing_at scene around memory place form true; word = λ path. no_word }

  -- the indices of a target, and its write
  abbrev pub target_found : (n : ℕ) → plain.Term → List Found
  target_found n (plain.term place k (plain.accessed r ts)) = terms_found n ts ++ write_found place (memory_of (known_in scene) r) (plain.accessed r ts) ∷ []
  target_found n (plain.term place k (plain.in_bank r bank at row)) = term_found n row ++ write_found place (memory_of (known_in scene) r) (plain.in_bank r bank at row) ∷ []
  target_found n (plain.term place k (plain.number negative z)) = []
  target_found n (plain.term place k (plain.truth_value b)) = []
  target_found n (plain.term place k (plain.named r)) = []
  target_found n (plain.term place k (plain.applied op left right)) = []
  target_found n (plain.term place k (plain.converted inner to)) = []

-- accesses that are nowhere done: those of a loop without turns, or of a view that keeps nothing
abbrev pub idle_found : (count : ℕ) → List Found
idle_found zero = []
idle_found (suc n) = record { standing = record { place = record { line = 0; column = 0 }; leader = λ path. path; bank = λ path. 0; places = λ path. 0; reaches = λ bank place. []; guards = [] }; word = λ path. no_word } ∷ idle_found n

-- by the numbers of accesses, the first of which has this one
abbrev pub found_from : (first : ℕ) → List Found → (number : ℕ) → Option Found
found_from first fs number = if nat_lt number first then None else slice_get fs (number - first)

abbrev pub found_or_else : Option Found → Option Found → Option Found
found_or_else None g = g
found_or_else (Some f) g = Some f

-- In commands, along their run from an effect.
module _ (scene : Scene) (x : BlockStep) where
  -- the variables at each path, behind what is done at the paths before it
  abbrev pub variables_along : Around → (run : Path → Effect → Effect) → Effect → (path : ℕ) → Variables
  variables_along around run e path = (lanes_run x around run path e).variables

  abbrev pub maybe_found : Around → (n : ℕ) → (run : plain.Term → Path → Effect → Effect) → Option plain.Term → Effect → List Found
  maybe_found around n run None e = []
  maybe_found around n run (Some t) e = term_found scene around x (variables_along around (run t) e) n t

  -- the offsets of a view, where a variable keeps one on its way
  abbrev pub view_found : Around → (n : ℕ) → List Hidden → (offsets : List plain.Term) → Effect → List Found
  view_found around n [] offsets e = idle_found (terms_accesses (terms offsets) + 0)
  view_found around n (h ∷ hs) offsets e = terms_found scene around x (variables_along around (kept_run scene x h n offsets) e) n (terms offsets)

  abbrev mutual
    pub found : Around → Arms → (n : ℕ) → Action → Effect → List Found
    found around arms n (action id place form) e = form_of_found around arms n form e

    pub form_of_found : Around → Arms → (n : ℕ) → ActionForm → Effect → List Found
    form_of_found around arms n (lets r declared value) e = maybe_found around n (λ t. assign_run scene x r (term_in scene x n t)) value e
    form_of_found around arms n (assigns r t) e = term_found scene around x (variables_along around (assign_run scene x r (term_in scene x n t)) e) n t
    form_of_found around arms n (stores target t) e =
        term_found scene around x (variables_along around (store_run scene x n target t) e) n t
        ++ target_found scene around x (variables_along around (store_run scene x n target t) e) (n + term_accesses t) target
    form_of_found around arms n (reduces r op t) e = term_found scene around x (variables_along around (assign_run scene x r (reduced_term scene r op n t)) e) n t
    form_of_found around no_arms n (decides t chosen other) e = []
    form_of_found around (arms_then first rest) n (decides t chosen other) e = []
    form_of_found around (arms_of one two inside behind) n (decides t chosen other) e =
        term_found scene around x (variables_along around (test_run scene x n t) e) n t
        ++ (found one inside (n + term_accesses t) chosen (tested scene x around n t e)
        ++ other_found two behind (n + term_accesses t + accesses_of chosen) other (effect_of scene x (paths_on x one) (n + term_accesses t) chosen (tested scene x around n t e)))
    form_of_found around arms n (blocks body) e = groups_found around arms n body e
    form_of_found around arms n (lets_memory name shape shape_places value) e = []
    form_of_found around arms n (views name parent form) e = view_found around n (hidden_in (way_of (known_in scene) name)) (offsets_of form) e
    form_of_found around arms n (calls function arguments) e = []
    form_of_found around arms n (repeats test body) e = idle_found (term_accesses test + accesses_of body)
    form_of_found around arms n (counts iterator declared low high factor body combine combine_place) e = idle_found (accesses_of body + other_accesses combine)

    pub other_found : Around → Arms → (n : ℕ) → MaybeAction → Effect → List Found
    other_found around arms n no_action e = []
    other_found around arms n (one_action a) e = found around arms n a e

    pub groups_found : Around → Arms → (n : ℕ) → Groups → Effect → List Found
    groups_found around arms n no_groups e = []
    groups_found around no_arms n (group_then part rest) e = []
    groups_found around (arms_of one two inside behind) n (group_then part rest) e = []
    groups_found around (arms_then first behind) n (group_then part rest) e =
        part_found around first n part e ++ groups_found around behind (n + part_accesses part) rest (part_effect scene x (paths_on x around) n part e)

    pub part_found : Around → Arms → (n : ℕ) → Actions → Effect → List Found
    part_found around arms n no_actions e = []
    part_found around no_arms n (action_then a rest) e = []
    part_found around (arms_of one two inside behind) n (action_then a rest) e = []
    part_found around (arms_then first behind) n (action_then a rest) e =
        found around first n a e ++ part_found around behind (n + accesses_of a) rest (effect_of scene x (paths_on x around) n a e)

  -- in commands that are done one after the other, each with its arms
  abbrev pub block_found : Around → List Arms → List Located → Effect → (number : ℕ) → Option Found
  block_found around [] cs e number = None
  block_found around (arms ∷ rest) [] e number = None
  block_found around (arms ∷ rest) (c ∷ cs) e number =
      found_or_else (found_from c.first (found around arms c.first c.command e) number) (block_found around rest cs (effect_of scene x (paths_on x around) c.first c.command e) number)
