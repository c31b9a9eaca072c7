-- A store at one path: its right side, then the indices or the row of its element, then its write.
use Rattle.std.proofs.Common.{◌≡◌, ℕ, ◌+◌, ◌<◌, ◌^◌, true, false, List, [], ◌∷◌, ◌++◌, ap, sym, ◌∙◌, append_assoc}
use Rattle.std.specs.Prelude.{Option}
use Rattle.dh_value.specs.declared.words.Word.{Word}
use Rattle.dh_tree.specs.Elements.{Spot}
use Rattle.dh_tree.specs.Indices.{form_of}
use Rattle.dh_tree.specs.PlainTrees as plain
use Rattle.dh_meaning.specs.AccessNumbers.{term_accesses}
use Rattle.dh_meaning.specs.Core.{Target}
use Rattle.dh_meaning.specs.CoreOf.{core_term}
use Rattle.dh_meaning.specs.Effects.{Effect, Event, Variables, kept_bits, spot_reached, stored_at, target_events, term_events, write_made}
use Rattle.dh_expressions.specs.declared.accesses.Accesses.{Accesses}
use Rattle.dh_expressions.specs.declared.drafts.Draft.{Draft}
use Rattle.dh_expressions.specs.declared.elements.Aim.{Aim}
use Rattle.dh_expressions.specs.declared.scenes.Lane.{Lane}
use Rattle.dh_expressions.specs.declared.scenes.Scene.{Scene}
use Rattle.dh_expressions.specs.declared.terms.Valued.{Valued}
use Rattle.dh_expressions.specs.Drafted.{BlockBegun, Extends, FitsStep, Gives, BlockStep, Tale, word_shown, tale, tales_told}
use Rattle.dh_expressions.specs.Evaluated.{EvaluatesTerm, IsSited, Knows, NamesSmallBank, StepReads, View, begun_of, known_in, lane_guard}
use Rattle.dh_expressions.specs.Reaching.{AimsAt, HasTarget, StoresAt, Tells, place_written, reach_at}
use Rattle.dh_expressions.proofs.Evaluating.{told_append}
use Rattle.dh_expressions.proofs.Pushing.{begun_later, extends_again, fits_before}
use Rattle.dh_commands.specs.declared.buildings.Building.{Building}
use Rattle.dh_commands.specs.LanesRun.{is_on_at, path_in}
use Rattle.dh_commands.specs.Followed.{IsFollowed, value_at, view_at_step}
use Rattle.dh_commands.specs.Done.{StandsBeside}
use Rattle.dh_commands.proofs.PathsDone.{knows_all}
use Rattle.dh_commands.proofs.Tested.{quiet_stands, told_stands}

-- operations that tell some events, then some that tell others
told_three : (a b c d : List Tale) (u v w : List Event) → b ≡ a ++ tales_told u → c ≡ b ++ tales_told v → d ≡ c ++ tales_told w → d ≡ a ++ tales_told (u ++ (v ++ w))
told_three a b c d u v w h k l =
    l
    ∙ (ap (λ (ts : List Tale). ts ++ tales_told w) (k ∙ ap (λ (ts : List Tale). ts ++ tales_told v) h)
    ∙ (ap (λ (ts : List Tale). ts ++ tales_told w) (append_assoc a (tales_told u) (tales_told v))
    ∙ (append_assoc a (tales_told u ++ tales_told v) (tales_told w)
    ∙ (ap (λ (ts : List Tale). a ++ ts) (append_assoc (tales_told u) (tales_told v) (tales_told w))
    ∙ (ap (λ (ts : List Tale). a ++ (tales_told u ++ ts)) (sym (told_append v w))
    ∙ ap (λ (ts : List Tale). a ++ ts) (sym (told_append u (v ++ w))))))))

-- The parts of a store, of any target: what the values name, and what is told of them, is given.
module _ (scene : Scene) (lane : Lane) (old new : Building) (d1 d2 d3 : Draft) (a1 a2 : Accesses) (first : ℕ) (t access : plain.Term) (own : Valued) (aim : Aim) (memory held : ℕ)
    (target : Target) (has : HasTarget access target) (make : Word → Word)
    (FairOf SeesOf : View → Type 0) (events : View → List Event) (same : new.values ≡ old.values) (few : first + term_accesses t < 2 ^ 32)
    (e : EvaluatesTerm scene lane old.values.current.items old.draft d1 old.accesses a1 first t own)
    (h : Tells (lane_guard lane) d1 d2 a1 a2 FairOf SeesOf events)
    (aims : (v : View) → FitsStep v.step d2 → BlockBegun v.step d1 → Knows v a1 → FairOf v → SeesOf v → AimsAt lane v aim target)
    (g : Gives d2 d3 held (λ x. make (word_shown x own.value)))
    (w : StoresAt scene lane d3 new.draft a2 new.accesses access memory aim held) where
  pub stored_extends : Extends old.draft new.draft
  stored_extends = extends_again old.draft d1 new.draft (e.so few).extends (extends_again d1 d2 new.draft h.extends (extends_again d2 d3 new.draft g.extends (w target has).extends))

  module _ (x : BlockStep) (reads : StepReads) (f : Effect) (fits : FitsStep x new.draft) (begun : BlockBegun x old.draft) (stands : StandsBeside scene lane.around x reads old f)
      (p : IsFollowed scene lane.around x reads f.variables lane.number first t)
      (fairly : FairOf (view_at_step x reads f.variables)) (sited : IsSited scene lane (view_at_step x reads f.variables) memory aim.number (place_written access) (form_of access) true) where
    abbrev v : View
    v = view_at_step x reads f.variables

    fits3 : FitsStep x d3
    fits3 = fits_before d3 new.draft x (w target has).extends fits

    fits2 : FitsStep x d2
    fits2 = fits_before d2 d3 x g.extends fits3

    fits1 : FitsStep x d1
    fits1 = fits_before d1 d2 x h.extends fits2

    begun1 : BlockBegun x d1
    begun1 = begun_later old.draft d1 x (e.so few).extends begun

    begun2 : BlockBegun x d2
    begun2 = begun_later d1 d2 x h.extends begun1

    begun3 : BlockBegun x d3
    begun3 = begun_later d2 d3 x g.extends begun2

    known1 : Knows v a1
    known1 = (e.so few).knows v fits1 begun (stands.knows f.variables) (p.fair old.values.current.items stands.shows)

    known2 : Knows v a2
    known2 = h.knows v fits2 begun1 known1 fairly

    known3 : (variables : Variables) → Knows (view_at_step x reads variables) new.accesses
    known3 = knows_all x reads new.accesses f.variables ((w target has).knows v fits begun3 known2 sited)

    abbrev spot : Option Spot
    spot = spot_reached (begun_of x) f.variables (path_in lane.around lane.number) (reach_at (place_written access) memory aim.number) target

    pub stored_off : is_on_at x lane.around lane.number ≡ false → StandsBeside scene lane.around x reads new f
    stored_off off = quiet_stands scene lane.around x reads old new f same known3
        ((w target has).quiet v fits begun3 off ∙ (g.quiet x fits3 begun2 ∙ (h.quiet v fits2 begun1 off ∙ (e.so few).quiet v fits1 begun off))) stands

    pub stored_on : is_on_at x lane.around lane.number ≡ true → SeesOf v → memory < 2 ^ 32 → NamesSmallBank (form_of access)
        → (make (value_at scene lane.around x f.variables lane.number first t)).bits ≡ kept_bits x.start.table memory (value_at scene lane.around x f.variables lane.number first t)
        → events v ≡ target_events (begun_of x) f.variables (path_in lane.around lane.number) target
        → StandsBeside scene lane.around x reads new (stored_at (begun_of x) (reach_at (place_written access) memory aim.number) target (core_term (known_in scene) first t) (path_in lane.around lane.number) f)
    stored_on on sees small bank kept are =
        told_stands scene lane.around x reads old new f _ same known3
        (told_three (tale x old.draft) (tale x d1) (tale x d3) (tale x new.draft)
        (term_events (begun_of x) f.variables (path_in lane.around lane.number) (core_term (known_in scene) first t))
        (target_events (begun_of x) f.variables (path_in lane.around lane.number) target) _
        ((e.so few).tells v fits1 begun (stands.knows f.variables) (p.fair old.values.current.items stands.shows) (p.sees on old.values.current.items stands.shows) on)
        (g.quiet x fits3 begun2 ∙ (h.tells v fits2 begun1 known1 fairly sees on ∙ ap (λ (es : List Event). tale x d1 ++ tales_told es) are))
        ((w target has).tells v fits begun3 known2 sited (record { aims = aims v fits2 begun1 known1 fairly sees; small = small; bank = bank }) on
        ∙ ap (λ (bits : ℕ). tale x d3 ++ tales_told (write_made (reach_at (place_written access) memory aim.number) (path_in lane.around lane.number) bits spot ∷ [])) bits_are))
        stands
      where
        bits_are : (word_shown x held).bits ≡ kept_bits x.start.table memory (value_at scene lane.around x f.variables lane.number first t)
        bits_are =
            ap (λ (u : Word). u.bits)
            (g.is x fits3 begun2 ∙ ap make ((e.so few).is v fits1 begun (stands.knows f.variables) (p.fair old.values.current.items stands.shows) (p.sees on old.values.current.items stands.shows)))
            ∙ kept
