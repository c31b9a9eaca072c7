-- The events of a block that is done at copies of one length: those at a path of them are what the block does there
-- alone, and no other path has any. A test counts as an `if` without commands.
use Rattle.std.proofs.Common.{◌≡◌, ◌⊎◌, inl, inr, ℕ, Bool, true, false, if◌then◌else◌, List, [], ◌∷◌, ◌++◌, refl, sym, ◌∙◌, ap, subst, arith}
use Rattle.std.proofs.lemmas.List.{append-nil}
use Rattle.std.proofs.lemmas.Cmp.{nat_list_eq_equiv}
use Rattle.dh_meaning.specs.Core.{CoreTerm, choose, CoreCommands, no_commands, command_and}
use Rattle.dh_meaning.specs.Effects.{Begun, Variables, Event, term_events, holds_at, commands_run, Block, commands, tests}
use Rattle.dh_meaning.specs.Paths.{Path, same_path}
use Rattle.dh_sound.proofs.Ascending.{Ascends}
use Rattle.dh_sound.proofs.Counting.{same_list}
use Rattle.dh_sound.proofs.Lockstep.{path_of, events_at, AreCopies, own_commands}
use Rattle.dh_sound.proofs.OnePath.{all_made_by}
use Rattle.dh_sound.proofs.PathsOfEvents.{at_its_path, AscendAtPaths, AreOnce, are_once, commands_stay}
use Rattle.dh_carried.proofs.Pigeons.{Has}
use Rattle.dh_sound.specs.Deep.{AreDeep}

-- a block as commands
abbrev pub commands_of : Block → CoreCommands
commands_of (commands cs) = cs
commands_of (tests t) = command_and (choose t no_commands no_commands) no_commands

nothing_more : (x : Bool) (es : List Event) → (es ++ (if x then [] else [])) ++ [] ≡ es
nothing_more true es = append-nil (es ++ []) ∙ append-nil es
nothing_more false es = append-nil (es ++ []) ∙ append-nil es

pub test_made : (b : Begun) (path : Path) (t : CoreTerm) (v : Variables) → all_made_by b path (commands_of (tests t)) v ≡ term_events b v path t
test_made b path t v = nothing_more (holds_at b v t path) (term_events b v path t)

-- an event at a path is an event of that path
pub from_path : (path : Path) (ev : Event) (es : List Event) → Has ev (events_at path es) → Has ev es × (path_of ev ≡ path)
from_path path ev [] h = elim h [ ]
from_path path ev (e ∷ es) h = by (same_path (path_of e) path) refl h (from_path path ev es)
  where
    by : (x : Bool) → same_path (path_of e) path ≡ x → Has ev (if x then e ∷ events_at path es else events_at path es) → (Has ev (events_at path es) → Has ev es × (path_of ev ≡ path)) → Has ev (e ∷ es) × (path_of ev ≡ path)
    by true f (inl i) more = (inl i, ap path_of i ∙ same_list (path_of e) path f)
    by true f (inr k) more = (inr (more k).0, (more k).1)
    by false f k more = (inr (more k).0, (more k).1)

-- a path is one of these or is not
is_path : (path : Path) (ps : List Path) → Has path ps ⊎ (Has path ps → ⊥)
is_path path [] = inr (λ h. h)
is_path path (p ∷ ps) = by (same_path path p) refl (is_path path ps)
  where
    differs : same_path path p ≡ false → path ≡ p → ⊥
    differs f i = let t : same_path path path ≡ false = subst (λ (q : Path). same_path path q ≡ false) (sym i) f in let r = nat_list_eq_equiv.refl path in cc

    by : (x : Bool) → same_path path p ≡ x → Has path ps ⊎ (Has path ps → ⊥) → ((path ≡ p) ⊎ Has path ps) ⊎ ((path ≡ p) ⊎ Has path ps → ⊥)
    by true f more = inl (inl (same_list path p f))
    by false f (inl h) = inl (inr h)
    by false f (inr away) = inr (λ h. elim h [ inl i ↦ differs f i | inr k ↦ away k ])

module _ (b : Begun) (depth : ℕ) (ps : List Path) (copies : AreCopies b depth ps) (cs : CoreCommands) (deep : AreDeep depth cs) (v : Variables) where
  abbrev pub block_events : List Event
  block_events = (commands_run b ps cs (record { variables = v; events = [] })).events

  pub events_of_path : (path : Path) → Has path ps → events_at path block_events ≡ all_made_by b path cs v
  events_of_path path h = (own_commands b depth ps path cs (record { variables = v; events = [] }) v copies deep h (λ x k. refl)).events

  -- each event is at one of the paths, and the block does it there alone
  pub made_at : (ev : Event) → Has ev block_events → Has (path_of ev) ps × Has ev (all_made_by b (path_of ev) cs v)
  made_at ev h =
      let at : Has (path_of ev) ps = inside (commands_stay b ps cs (record { variables = v; events = [] }) ev h) in
      (at, subst (λ (es : List Event). Has ev es) (events_of_path (path_of ev) at) (at_its_path ev block_events h))
    where
      inside : Has ev [] ⊎ Has (path_of ev) ps → Has (path_of ev) ps
      inside (inl x) = elim x [ ]
      inside (inr y) = y

  -- and what it does at a path is among its events
  pub made_there_too : (path : Path) (ev : Event) → Has path ps → Has ev (all_made_by b path cs v) → Has ev block_events × (path_of ev ≡ path)
  made_there_too path ev h m = from_path path ev block_events (subst (λ (es : List Event). Has ev es) (sym (events_of_path path h)) m)

  none_elsewhere : (path : Path) → (Has path ps → ⊥) → (es : List Event) → ((ev : Event) → Has ev es → Has (path_of ev) ps) → events_at path es ≡ []
  none_elsewhere path away [] inside = refl
  none_elsewhere path away (e ∷ es) inside = by (same_path (path_of e) path) refl (none_elsewhere path away es (λ ev h. inside ev (inr h)))
    where
      by : (x : Bool) → same_path (path_of e) path ≡ x → events_at path es ≡ [] → (if x then e ∷ events_at path es else events_at path es) ≡ []
      by true f more = elim (away (subst (λ (q : Path). Has q ps) (same_list (path_of e) path f) (inside e (inl refl)))) [ ]
      by false f more = more

  -- where the numbers ascend that it makes at each path, no two events are of one path and number
  pub once : ((path : Path) → Has path ps → (low : ℕ) × ((high : ℕ) × Ascends low (all_made_by b path cs v) high)) → AreOnce block_events
  once ascends = are_once block_events at
    where
      by : (path : Path) → Has path ps ⊎ (Has path ps → ⊥) → (low : ℕ) × ((high : ℕ) × Ascends low (events_at path block_events) high)
      by path (inl h) = let (low, (high, is)) = ascends path h in (low, (high, subst (λ (es : List Event). Ascends low es high) (sym (events_of_path path h)) is))
      by path (inr away) = (0, (0, subst (λ (es : List Event). Ascends 0 es 0) (sym (none_elsewhere path away block_events (λ ev h. (made_at ev h).0))) (omega arith)))

      at : AscendAtPaths block_events
      at path = by path (is_path path ps)
