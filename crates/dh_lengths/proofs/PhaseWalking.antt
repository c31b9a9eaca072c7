-- Where a walk along phases stands behind each of its steps.
use Rattle.std.proofs.Common.{◌≡◌, ℕ, zero, suc, ◌+◌, ◌<◌, ◌≤◌, ◌==◌, ◌&&◌, nat_le, min, Bool, true, false, if◌then◌else◌, List, [], ◌∷◌, ◌++◌, length, map, drop, get_or, append_assoc, append-nil, refl, ap, sym, ◌∙◌, ◌⊎◌, inl, inr, subst, arith}
use mathlib.Core.Path.{fun_ext}
use Rattle.std.specs.Prelude.{Option, Some, None, Vec}
use Rattle.std.specs.Global.{Global}
use Rattle.std.proofs.lemmas.List.{map-append}
use Rattle.dh_base.specs.declared.places.Place.{Place}
use Rattle.dh_tree.specs.declared.trees.commands.Command.{Command}
use Rattle.dh_tree.specs.declared.trees.expressions.Expr.{Expr}
use Rattle.dh_tree.specs.Numbers.{IsNumbered, commands_in}
use Rattle.dh_tree.specs.PlainTrees as plain
use Rattle.dh_tree.specs.PlainTrees.{Action, action, ActionForm, Actions, Groups, MaybeAction, Program}
use Rattle.dh_tree.specs.Seen.{action_form_seen, action_seen, actions, groups, part_seen, term_seen}
use Rattle.dh_meaning.specs.AccessNumbers.{accesses_of, groups_accesses, inner_accesses, other_accesses, own_accesses, part_accesses, term_accesses}
use Rattle.dh_meaning.specs.Core.{CoreCommands, no_commands}
use Rattle.dh_meaning.specs.CoreOf.{Known, known_of, core_action, core_commands, core_phases, core_term}
use Rattle.dh_meaning.specs.Effects.{Block, tests}
use Rattle.dh_meaning.specs.Levels.{Levels, block_length, commands_leveled, level_ground, term_leveled}
use Rattle.dh_meaning.specs.Phases.{Located, Phase, straight, turns, repeated, decided, of_list, one_straight, one_command, joined, folded, are_straight, choice_phases, turn_phases, turn_count, located, phases, form_phases, other_phases, groups_phases, parts_phases, phases_of}
use Rattle.dh_meaning.specs.Sites.{Around, in_arm, in_loop, loop_of, nothing_around}
use Rattle.dh_meets.specs.Sharing.{shared}
use Rattle.dh_events.specs.Stages.{stages_in, form_stages, other_stages, groups_stages, part_stages}
use Rattle.dh_tree.specs.PhaseKinds.{phase_kind}
use Rattle.dh_events.specs.Tables.{table_at}
use Rattle.dh_events.proofs.Turns.{at_item}
use Rattle.dh_ports.proofs.PhaseShapes.{IsFull, Shaped, no_phase, one_phase, more_phases, shape, size}
use Rattle.dh_ports.proofs.PhaseSizes.{full, other_full, stage_size}
use Rattle.dh_ports.proofs.StagesKnown as stages
use Rattle.dh_lengths.specs.declared.leads.Leads.{Leads}
use Rattle.dh_lengths.specs.LedBy.{IsLedBy}
use Rattle.dh_lengths.specs.declared.held.PhaseLevels.{PhaseLevels}
use Rattle.dh_lengths.specs.declared.lengths.PhaseWalk.{PhaseWalk}
use Rattle.dh_lengths.specs.SharedReads.{told, TellsShares}
use Rattle.dh_lengths.specs.Undone.{undone_levels}
use Rattle.dh_lengths.specs.PhaseBlocks.{blocks_in, phase_blocks, lengths_of}
use Rattle.dh_lengths.specs.HeldLevels.{read_in, levels_of, levels_seen, held_access_count, LevelsAreSmall, EndsPhase, HasSoundLevels, GivesLevel, GivesLevels, LevelsTerm, Skips}
use Rattle.dh_lengths.specs.LeveledCommands.{GivesCommands, LevelsCommand}
use Rattle.dh_lengths.specs.PhaseWalks.{lengths_in, front, last_open, is_some_command, joins, put_phases, last_phase_goes_on, TellsStages, TellInside, TellOther, TellGroups, TellPart, WalkStandsBehind, TellsPhaseLength, IsClosed, Closes, OpensBy, TestIsTold, WalksTest, PhasesAreWalked, WalksStraight, WalksCommand, WalksOther}
use Rattle.dh_lengths.proofs.HeldFacts.{read_end, skips_gives}
use Rattle.dh_lengths.proofs.PhaseLines.{lengths_both, IsOther, front_straight, last_straight, front_other, last_other, put_other, goes_other, put_more, goes_more, put_first, put_folded, puts, AllFull, puts_joined}
use Rattle.dh_lengths.proofs.StraightCores.{both_leveled, straight_core}
use Rattle.dh_lengths.proofs.UndoneFacts.{undone_both}

absurd : {A : Type 0} → ⊥ → A
absurd e = elim e [ ]

none_low : (n : ℕ) → 0 ≤ n
none_low n = omega arith

least_one : (most n : ℕ) → most ≤ n → min most n + 1 ≡ suc most
least_one most n e = grind (arith, e)

-- The phase that is held is over.

ground_seen : (old new : PhaseLevels) → EndsPhase old new → undone_levels old.log.items (table_at old.variables.items) ≡ (λ e. 0) → levels_seen new ≡ level_ground
ground_seen old new ends fresh =
    ap (λ l. levels_of l new.first new.most new.variables.items) ends.reads
    ∙ (ap (λ n. levels_of old.reads.items n new.most new.variables.items) ends.first
    ∙ (ap (λ n. levels_of old.reads.items (held_access_count old) n new.variables.items) ends.most
    ∙ (ap (λ (f : ℕ → ℕ). record { variables = f; reads = read_in old.reads.items (held_access_count old); most = 0 }) (ends.variables ∙ fresh)
    ∙ ap (λ (f : ℕ → ℕ). record { variables = λ e. 0; reads = f; most = 0 }) (read_end old.reads.items))))

ground_fresh : (old new : PhaseLevels) → EndsPhase old new → undone_levels old.log.items (table_at old.variables.items) ≡ (λ e. 0) → undone_levels new.log.items (table_at new.variables.items) ≡ (λ e. 0)
ground_fresh old new ends fresh = ap (λ l. undone_levels l (table_at new.variables.items)) ends.log ∙ (ends.variables ∙ fresh)

ground_sound : (old new : PhaseLevels) → EndsPhase old new → undone_levels old.log.items (table_at old.variables.items) ≡ (λ e. 0) → HasSoundLevels new
ground_sound old new ends fresh = record {
  first = subst (λ (n : ℕ). n ≤ held_access_count new) (sym ends.first) (subst (λ (n : ℕ). held_access_count old ≤ n) (sym (ap length ends.reads)) (same (held_access_count old)));
  small = subst (λ (l : Levels). LevelsAreSmall (held_access_count new) l) (sym (ground_seen old new ends fresh)) (record { variables = λ e. none_low (held_access_count new); reads = λ k. none_low (held_access_count new); most = none_low (held_access_count new) });
}
  where
    same : (n : ℕ) → n ≤ n
    same n = omega arith

-- where nothing is open
stands_fresh : (known : Known) (base : List ℕ) (w : PhaseWalk) → w.lengths.items ≡ base → levels_seen w.held ≡ level_ground → w.pending ≡ false → undone_levels w.held.log.items (table_at w.held.variables.items) ≡ (λ e. 0) → HasSoundLevels w.held → WalkStandsBehind known base w []
stands_fresh known base w lengths seen closed fresh sound = record {
  lengths = lengths ∙ sym (append-nil base);
  seen = seen;
  open_so = closed;
  fresh = fresh;
  sound = sound;
  full = refl;
}

-- the lengths of a line, from those of its front
line_lengths : (shared : ℕ → Option ℕ) (known : Known) (line : List Phase) (cs : List Located) → line ≡ front line ++ one_straight (last_open line) → last_open line ≡ cs → lengths_in shared known line ≡ lengths_in shared known (front line) ++ lengths_in shared known (one_straight cs)
line_lengths shared known line cs e is = ap (lengths_in shared known) (e ∙ ap (λ l. front line ++ one_straight l) is) ∙ lengths_both shared known (front line) (one_straight cs)

-- the line is told to its end
module _ (known : Known) (base : List ℕ) (line : List Phase) (old : PhaseWalk) (s : WalkStandsBehind known base old line) where
  told_lengths : (c : Located) (cs : List Located) → last_open line ≡ c ∷ cs → old.lengths.items ++ (min old.held.most (held_access_count old.held) + 1) ∷ [] ≡ base ++ lengths_in (told old.held.shares.now) known line
  told_lengths c cs is =
      let shared = told old.held.shares.now in
      let most : old.held.most ≡ (commands_leveled (told old.held.shares.now) 0 (core_commands known (c ∷ cs)) level_ground).most = ap (λ (l : Levels). l.most) (s.seen ∙ ap (λ x. commands_leveled (told old.held.shares.now) 0 (core_commands known x) level_ground) is) in
      ap (λ l. l ++ (min old.held.most (held_access_count old.held) + 1) ∷ []) s.lengths
      ∙ (append_assoc base (lengths_in (told old.held.shares.now) known (front line)) ((min old.held.most (held_access_count old.held) + 1) ∷ [])
      ∙ ap (λ l. base ++ l)
      (ap (λ n. lengths_in (told old.held.shares.now) known (front line) ++ n ∷ []) (least_one old.held.most (held_access_count old.held) s.sound.small.most ∙ ap suc most)
      ∙ sym (line_lengths (told old.held.shares.now) known line (c ∷ cs) s.full is)))

  still_lengths : last_open line ≡ [] → old.lengths.items ≡ base ++ lengths_in (told old.held.shares.now) known line
  still_lengths is = s.lengths ∙ ap (λ l. base ++ l) (sym (line_lengths (told old.held.shares.now) known line [] s.full is ∙ append-nil (lengths_in (told old.held.shares.now) known (front line))))

pub closes_told : (old mid new : PhaseWalk) → old.pending ≡ true → TellsPhaseLength old mid → new.held ≡ mid.held → new.lengths ≡ mid.lengths → new.pending ≡ false → new.going ≡ false → Closes old new
closes_told old mid new open_is t held lengths closed going known base line s = by (last_open line) refl
  where
    by : (cs : List Located) → last_open line ≡ cs → IsClosed known base line old new
    by [] is = absurd (untrue (sym open_is ∙ (s.open_so ∙ ap is_some_command is)))
      where
        untrue : true ≡ false → ⊥
        untrue e = cc
    by (c ∷ cs) is = record {
      stands = stands_fresh known (base ++ lengths_in (told old.held.shares.now) known line) new (ap (λ (v : Vec ℕ Global). v.items) lengths ∙ (t.lengths ∙ told_lengths known base line old s c cs is)) (ap levels_seen held ∙ ground_seen old.held mid.held t.ends s.fresh) closed
          (ap (λ (h : PhaseLevels). undone_levels h.log.items (table_at h.variables.items)) held ∙ ground_fresh old.held mid.held t.ends s.fresh)
          (subst HasSoundLevels (sym held) (ground_sound old.held mid.held t.ends s.fresh));
      going = going;
      counted = ap held_access_count held ∙ ap length t.ends.reads;
      shares = ap (λ (h : PhaseLevels). h.shares.now) held ∙ t.ends.shares;
    }

pub closes_still : (old new : PhaseWalk) → old.pending ≡ false → new.held ≡ old.held → new.lengths ≡ old.lengths → new.pending ≡ old.pending → new.going ≡ false → Closes old new
closes_still old new open_is held lengths still going known base line s = by (last_open line) refl
  where
    by : (cs : List Located) → last_open line ≡ cs → IsClosed known base line old new
    by (c ∷ cs) is = absurd (untrue (sym open_is ∙ (s.open_so ∙ ap is_some_command is)))
      where
        untrue : false ≡ true → ⊥
        untrue e = cc
    by [] is = record {
      stands = stands_fresh known (base ++ lengths_in (told old.held.shares.now) known line) new (ap (λ (v : Vec ℕ Global). v.items) lengths ∙ still_lengths known base line old s is)
          (ap levels_seen held ∙ (s.seen ∙ ap (λ x. commands_leveled (told old.held.shares.now) 0 (core_commands known x) level_ground) is)) (still ∙ open_is)
          (ap (λ (h : PhaseLevels). undone_levels h.log.items (table_at h.variables.items)) held ∙ s.fresh) (subst HasSoundLevels (sym held) s.sound);
      going = going;
      counted = ap held_access_count held;
      shares = ap (λ (h : PhaseLevels). h.shares.now) held;
    }

-- A test.

abbrev pub put_held : PhaseWalk → PhaseLevels → PhaseWalk
put_held w h = record { held = h; pending = w.pending; going = w.going; lengths = w.lengths }

pub tested_so : {ways : Leads} (old a new : PhaseWalk) (h : PhaseLevels) (test : Expr) (level : ℕ) → Closes old a → LevelsTerm ways a.held h 0 test level → TellsPhaseLength (put_held a h) new → WalksTest ways old new test
tested_so old a new h test level closes levels t known u base line s =
    let k = closes known base line s in
    let g = levels known u k.stands.sound (none_low (held_access_count a.held)) in
    let v : core_term known (held_access_count a.held) (term_seen test) ≡ core_term known (held_access_count old.held) (term_seen test) = ap (λ n. core_term known n (term_seen test)) k.counted in
    let fresh : undone_levels h.log.items (table_at h.variables.items) ≡ (λ e. 0) = ap (λ l. undone_levels l (table_at h.variables.items)) g.keeps.log ∙ (ap (λ l. undone_levels a.held.log.items (table_at l)) g.keeps.variables ∙ k.stands.fresh) in
    let most : h.most ≡ (term_leveled (told old.held.shares.now) 0 (core_term known (held_access_count old.held) (term_seen test)) level_ground).levels.most =
    ap (λ (l : Levels). l.most)
    (g.seen
    ∙ (ap (λ x. (term_leveled (told x) 0 (core_term known (held_access_count a.held) (term_seen test)) (levels_seen a.held)).levels) k.shares
    ∙ (ap (λ x. (term_leveled (told old.held.shares.now) 0 x (levels_seen a.held)).levels) v ∙ ap (λ x. (term_leveled (told old.held.shares.now) 0 (core_term known (held_access_count old.held) (term_seen test)) x).levels) k.stands.seen))) in
    record {
      stands = stands_fresh known _ new
          (t.lengths
          ∙ (ap (λ l. l ++ (min h.most (held_access_count h) + 1) ∷ []) (k.stands.lengths ∙ append-nil (base ++ lengths_in (told old.held.shares.now) known line))
          ∙ ap (λ n. (base ++ lengths_in (told old.held.shares.now) known line) ++ n ∷ []) (least_one h.most (held_access_count h) g.sound.small.most ∙ ap suc most)))
          (ground_seen h new.held t.ends fresh) (t.open_so ∙ k.stands.open_so) (ground_fresh h new.held t.ends fresh) (ground_sound h new.held t.ends fresh);
      going = t.going ∙ k.going;
      counted = ap length t.ends.reads ∙ (g.counted ∙ ap (λ n. n + term_accesses (term_seen test)) k.counted);
      shares = t.ends.shares ∙ (g.keeps.shares ∙ k.shares);
    }

-- A straight command.

some_both : (cs ds : List Located) (d : Located) → is_some_command (cs ++ d ∷ ds) ≡ true
some_both [] ds d = refl
some_both (c ∷ cs) ds d = refl

one_both : (cs ds : List Located) (d : Located) → one_straight (cs ++ d ∷ ds) ≡ straight (cs ++ d ∷ ds) ∷ []
one_both [] ds d = refl
one_both (c ∷ cs) ds d = refl

added : (known : Known) (base : List ℕ) (line : List Phase) (a new : PhaseWalk) (cs : CoreCommands) (n : ℕ) (d : Located) (ds : List Located) → WalkStandsBehind known base a line → GivesCommands a.held new.held 0 cs n → core_commands known (d ∷ ds) ≡ cs
    → new.lengths.items ≡ a.lengths.items → new.pending ≡ true → WalkStandsBehind known base new (front line ++ one_straight (last_open line ++ d ∷ ds))
added known base line a new cs n d ds s g core lengths open_is =
    let all = last_open line ++ d ∷ ds in
    subst (λ (l : List Phase). WalkStandsBehind known base new (front line ++ l)) (sym (one_both (last_open line) ds d))
    (record {
      lengths =
          lengths
          ∙ (s.lengths
          ∙ (ap (λ x. base ++ lengths_in (told x) known (front line)) (sym g.shares)
          ∙ ap (λ l. base ++ lengths_in (told new.held.shares.now) known l) (sym (front_straight (front line) (last_open line ++ d ∷ ds)))));
      seen =
          g.seen
          ∙ (ap (commands_leveled (told a.held.shares.now) 0 cs) s.seen
          ∙ (ap (λ x. commands_leveled (told a.held.shares.now) 0 x (commands_leveled (told a.held.shares.now) 0 (core_commands known (last_open line)) level_ground)) (sym core)
          ∙ (sym (both_leveled known (told a.held.shares.now) 0 (last_open line) (d ∷ ds) level_ground)
          ∙ (ap (λ x. commands_leveled (told x) 0 (core_commands known (last_open line ++ d ∷ ds)) level_ground) (sym g.shares)
          ∙ ap (λ l. commands_leveled (told new.held.shares.now) 0 (core_commands known l) level_ground) (sym (last_straight (front line) (last_open line ++ d ∷ ds)))))));
      open_so = open_is ∙ (sym (some_both (last_open line) ds d) ∙ ap is_some_command (sym (last_straight (front line) (last_open line ++ d ∷ ds))));
      fresh =
          ap (λ l. undone_levels l (table_at new.held.variables.items)) g.log
          ∙ (undone_both a.held.log.items g.changes (table_at new.held.variables.items) ∙ (ap (undone_levels a.held.log.items) g.undoes ∙ s.fresh));
      sound = g.sound;
      full =
          sym (ap (λ l. l ++ one_straight (last_open (front line ++ straight (last_open line ++ d ∷ ds) ∷ []))) (front_straight (front line) (last_open line ++ d ∷ ds))
          ∙ (ap (λ l. front line ++ one_straight l) (last_straight (front line) (last_open line ++ d ∷ ds)) ∙ ap (λ l. front line ++ l) (one_both (last_open line) ds d)));
    })

-- behind a line whose lengths are told
behind_line : (known : Known) (base : List ℕ) (line : List Phase) (shares : List (Option ℕ)) (w : PhaseWalk) (d : Located) (ds : List Located) → w.held.shares.now ≡ shares → WalkStandsBehind known (base ++ lengths_in (told shares) known line) w (straight (d ∷ ds) ∷ [])
    → WalkStandsBehind known base w (line ++ straight (d ∷ ds) ∷ [])
behind_line known base line shares w d ds same s = record {
  lengths =
      s.lengths
      ∙ (append-nil (base ++ lengths_in (told shares) known line)
      ∙ (ap (λ x. base ++ lengths_in (told x) known line) (sym same) ∙ ap (λ l. base ++ lengths_in (told w.held.shares.now) known l) (sym (front_straight line (d ∷ ds)))));
  seen = s.seen ∙ ap (λ l. commands_leveled (told w.held.shares.now) 0 (core_commands known l) level_ground) (sym (last_straight line (d ∷ ds)));
  open_so = s.open_so ∙ ap is_some_command (sym (last_straight line (d ∷ ds)));
  fresh = s.fresh;
  sound = s.sound;
  full = sym (ap (λ l. l ++ one_straight (last_open (line ++ straight (d ∷ ds) ∷ []))) (front_straight line (d ∷ ds)) ∙ ap (λ l. line ++ one_straight l) (last_straight line (d ∷ ds)));
}

-- phases that a line goes on with, but for a straight one
pub behind_other : (known : Known) (base told_so : List ℕ) (line : List Phase) (w : PhaseWalk) (p : Phase) → IsOther p → WalkStandsBehind known told_so w [] → told_so ≡ base ++ lengths_in (told w.held.shares.now) known (line ++ p ∷ []) → WalkStandsBehind known base w (line ++ p ∷ [])
behind_other known base told_so line w p other s is = record {
  lengths = s.lengths ∙ (append-nil told_so ∙ (is ∙ ap (λ l. base ++ lengths_in (told w.held.shares.now) known l) (sym (front_other line p other))));
  seen = s.seen ∙ ap (λ l. commands_leveled (told w.held.shares.now) 0 (core_commands known l) level_ground) (sym (last_other line p other));
  open_so = s.open_so ∙ ap is_some_command (sym (last_other line p other));
  fresh = s.fresh;
  sound = s.sound;
  full = sym (ap (λ l. l ++ one_straight (last_open (line ++ p ∷ []))) (front_other line p other) ∙ (ap (λ l. (line ++ p ∷ []) ++ one_straight l) (last_other line p other) ∙ append-nil (line ++ p ∷ [])));
}

-- Phases by the number of a command's phases.

pub none_phases : (r : Around) (n : ℕ) (a : Action) → phase_kind a ≡ 0 → phases r n a ≡ []
none_phases r n a e = by (shape (phases r n a) (full r n a))
  where
    clash : (k m s : ℕ) → s ≡ k → s ≡ 0 → k ≡ suc m → ⊥
    clash k m s x y z = omega (arith, x, y, z)

    by : Shaped (size (phases r n a)) (phases r n a) → phases r n a ≡ []
    by (no_phase x y) = y
    by (one_phase d ds x y) = absurd (clash (size (phases r n a)) 0 (phase_kind a) (stage_size r n a) e x)
    by (more_phases x y) = absurd (clash (size (phases r n a)) 1 (phase_kind a) (stage_size r n a) e x)

pub record IsOne (ps : List Phase) : Type 0 where
  pub first : Located
  pub rest : List Located
  pub is : ps ≡ straight (first ∷ rest) ∷ []

pub one_phase_of : (r : Around) (n : ℕ) (a : Action) → phase_kind a ≡ 1 → IsOne (phases r n a)
one_phase_of r n a e = by (shape (phases r n a) (full r n a))
  where
    clash : (k s : ℕ) → s ≡ k → s ≡ 1 → k ≡ 0 → ⊥
    clash k s x y z = omega (arith, x, y, z)

    clash_two : (k s : ℕ) → s ≡ k → s ≡ 1 → k ≡ 2 → ⊥
    clash_two k s x y z = omega (arith, x, y, z)

    by : Shaped (size (phases r n a)) (phases r n a) → IsOne (phases r n a)
    by (no_phase x y) = absurd (clash (size (phases r n a)) (phase_kind a) (stage_size r n a) e x)
    by (one_phase d ds x y) = record { first = d; rest = ds; is = y }
    by (more_phases x y) = absurd (clash_two (size (phases r n a)) (phase_kind a) (stage_size r n a) e x)

pub more_phases_of : (r : Around) (n : ℕ) (a : Action) → (phase_kind a ≡ 0 → ⊥) → (phase_kind a ≡ 1 → ⊥) → are_straight (phases r n a) ≡ false
more_phases_of r n a f g = by (shape (phases r n a) (full r n a))
  where
    by : Shaped (size (phases r n a)) (phases r n a) → are_straight (phases r n a) ≡ false
    by (no_phase x y) = absurd (f (stage_size r n a ∙ x))
    by (one_phase d ds x y) = absurd (g (stage_size r n a ∙ x))
    by (more_phases x y) = y

few_one : (n : ℕ) → n ≡ 1 → n ≤ 1
few_one n e = omega (arith, e)

-- a straight command goes on with the open phase, or begins one
pub walked_straight : {ways : Leads} (old a new : PhaseWalk) (c : Command) → OpensBy old.going old a → LevelsCommand ways a.held new.held 0 c → new.lengths.items ≡ a.lengths.items → new.pending ≡ true → new.going ≡ true → WalksStraight ways old new c
walked_straight old a new c opens levels lengths open_is going_is known u r base line stage s = by old.going refl
  where
    n : ℕ
    n = held_access_count old.held

    one : IsOne (phases r (held_access_count old.held) (action_seen c))
    one = one_phase_of r (held_access_count old.held) (action_seen c) stage

    core : core_commands known (one.first ∷ one.rest) ≡ core_action known (held_access_count old.held) (action_seen c) no_commands
    core = straight_core known r (held_access_count old.held) (action_seen c) (one.first ∷ one.rest) (few_one (phase_kind (action_seen c)) stage) one.is

    walked : (w : PhaseWalk) → held_access_count a.held ≡ held_access_count old.held → a.held.shares.now ≡ old.held.shares.now → HasSoundLevels a.held → WalkStandsBehind known base new (put_phases old.going line (straight (one.first ∷ one.rest) ∷ []))
        → PhasesAreWalked known base line old new (phases r (held_access_count old.held) (action_seen c)) (accesses_of (action_seen c))
    walked w counted shares sound stands =
        let g = levels known u sound (none_low (held_access_count a.held)) in
        record {
          stands = subst (λ (ps : List Phase). WalkStandsBehind known base new (put_phases old.going line ps)) (sym one.is) stands;
          going = going_is ∙ ap (last_phase_goes_on old.going) (sym one.is);
          counted = g.counted ∙ ap (λ k. k + accesses_of (action_seen c)) counted;
          shares = g.shares ∙ shares;
        }

    core_at : held_access_count a.held ≡ held_access_count old.held → core_commands known (one.first ∷ one.rest) ≡ core_action known (held_access_count a.held) (action_seen c) no_commands
    core_at e = core ∙ ap (λ k. core_action known k (action_seen c) no_commands) (sym e)

    by : (g : Bool) → old.going ≡ g → PhasesAreWalked known base line old new (phases r (held_access_count old.held) (action_seen c)) (accesses_of (action_seen c))
    by true e =
        let same : a ≡ old = subst (λ (b : Bool). OpensBy b old a) e opens in
        let stands = subst (λ (w : PhaseWalk). WalkStandsBehind known base w line) (sym same) s in
        walked a (ap (λ (w : PhaseWalk). held_access_count w.held) same) (ap (λ (w : PhaseWalk). w.held.shares.now) same) stands.sound
        (subst (λ (b : Bool). WalkStandsBehind known base new (put_phases b line (straight (one.first ∷ one.rest) ∷ []))) (sym e)
        (added known base line a new _ _ one.first one.rest stands (levels known u stands.sound (none_low (held_access_count a.held))) (core_at (ap (λ (w : PhaseWalk). held_access_count w.held) same)) lengths open_is))
    by false e =
        let k = subst (λ (b : Bool). OpensBy b old a) e opens known base line s in
        let g = levels known u k.stands.sound (none_low (held_access_count a.held)) in
        walked a k.counted k.shares k.stands.sound
        (subst (λ (b : Bool). WalkStandsBehind known base new (put_phases b line (straight (one.first ∷ one.rest) ∷ []))) (sym e)
        (behind_line known base line old.held.shares.now new one.first one.rest (g.shares ∙ k.shares)
        (added known (base ++ lengths_in (told old.held.shares.now) known line) [] a new _ _ one.first one.rest k.stands g (core_at k.counted) lengths open_is)))

-- A command without phases.

pub walked_none : {ways : Leads} (stages : List ℕ) (old new : PhaseWalk) (c : Command) → phase_kind (action_seen c) ≡ 0 → Skips old.held new.held (accesses_of (action_seen c)) → new.lengths.items ≡ old.lengths.items → new.pending ≡ old.pending → new.going ≡ old.going → WalksCommand ways stages old new c
walked_none stages old new c stage skips lengths open_is going_is known u r base line tells s =
    let g = skips_gives old.held new.held (accesses_of (action_seen c)) s.sound skips in
    let none = none_phases r (held_access_count old.held) (action_seen c) stage in
    record {
      stands = subst (λ (ps : List Phase). WalkStandsBehind known base new (put_phases old.going line ps)) (sym none)
          (record {
            lengths = lengths ∙ (s.lengths ∙ ap (λ x. base ++ lengths_in (told x) known (front line)) (sym g.keeps.shares));
            seen = g.seen ∙ (s.seen ∙ ap (λ x. commands_leveled (told x) 0 (core_commands known (last_open line)) level_ground) (sym g.keeps.shares));
            open_so = open_is ∙ s.open_so;
            fresh = ap (λ l. undone_levels l (table_at new.held.variables.items)) g.keeps.log ∙ (ap (λ l. undone_levels old.held.log.items (table_at l)) g.keeps.variables ∙ s.fresh);
            sound = g.sound;
            full = s.full;
          });
      going = going_is ∙ ap (last_phase_goes_on old.going) (sym none);
      counted = g.counted;
      shares = g.keeps.shares;
    }

pub nothing_skipped : (h : PhaseLevels) → Skips h h 0
nothing_skipped h = record { reads = sym (append-nil h.reads.items); most = refl; keeps = record { shares = refl; first = refl; variables = refl; log = refl } }

-- Commands of more phases.

more_lengths : (shared : ℕ → Option ℕ) (known : Known) (base : List ℕ) (line : List Phase) (p : Phase) (ls : List ℕ) → ls ≡ lengths_in shared known (p ∷ []) → (base ++ lengths_in shared known line) ++ ls ≡ base ++ lengths_in shared known (line ++ p ∷ [])
more_lengths shared known base line p ls is =
    append_assoc base (lengths_in shared known line) ls ∙ ap (λ l. base ++ l) (ap (λ l. lengths_in shared known line ++ l) is ∙ sym (lengths_both shared known line (p ∷ [])))

-- one phase more, that is not straight
walked_other : (known : Known) (base told_so : List ℕ) (line : List Phase) (old new : PhaseWalk) (p : Phase) (ps : List Phase) (n : ℕ) → IsOther p → ps ≡ p ∷ [] → WalkStandsBehind known told_so new [] → told_so ≡ base ++ lengths_in (told old.held.shares.now) known (line ++ p ∷ [])
    → new.going ≡ false → held_access_count new.held ≡ held_access_count old.held + n → new.held.shares.now ≡ old.held.shares.now → PhasesAreWalked known base line old new ps n
walked_other known base told_so line old new p ps n other is s all going counted shares = record {
  stands = subst (λ (qs : List Phase). WalkStandsBehind known base new (put_phases old.going line qs)) (sym is)
      (subst (λ (l : List Phase). WalkStandsBehind known base new l) (put_other old.going line p other)
      (behind_other known base told_so line new p other s (all ∙ ap (λ x. base ++ lengths_in (told x) known (line ++ p ∷ [])) (sym shares))));
  going = going ∙ (sym (goes_other old.going p other) ∙ ap (last_phase_goes_on old.going) (sym is));
  counted = counted;
  shares = shares;
}

choice_more : (c : Located) (ps qs : List Phase) → are_straight (choice_phases c ps qs) ≡ false → choice_phases c ps qs ≡ decided c (of_list ps) (of_list qs) ∷ []
choice_more c ps qs e = by (are_straight ps && are_straight qs) refl
  where
    by : (v : Bool) → (are_straight ps && are_straight qs) ≡ v → choice_phases c ps qs ≡ decided c (of_list ps) (of_list qs) ∷ []
    by true f = absurd (untrue (sym (ap (λ b. are_straight (if b then one_command c else decided c (of_list ps) (of_list qs) ∷ [])) f) ∙ e))
      where
        untrue : true ≡ false → ⊥
        untrue x = cc
    by false f = ap (λ b. if b then one_command c else decided c (of_list ps) (of_list qs) ∷ []) f

turn_more : (c : Located) (count : ℕ) (ps : List Phase) → are_straight (turn_phases c count ps) ≡ false → turn_phases c count ps ≡ turns c count (of_list ps) ∷ []
turn_more c count [] e = cc
turn_more c count (p ∷ ps) e = by (count == 0) refl
  where
    by : (v : Bool) → (count == 0) ≡ v → turn_phases c count (p ∷ ps) ≡ turns c count (of_list (p ∷ ps)) ∷ []
    by true f = absurd (untrue (sym (ap (λ b. are_straight (if b then [] else turns c count (of_list (p ∷ ps)) ∷ [])) f) ∙ e))
      where
        untrue : true ≡ false → ⊥
        untrue x = cc
    by false f = ap (λ b. if b then [] else turns c count (of_list (p ∷ ps)) ∷ []) f

sum_three : (o a b c k m n : ℕ) → a ≡ o + k → b ≡ a + m → c ≡ b + n → c ≡ o + (k + (m + n))
sum_three o a b c k m n e f g = omega (arith, e, f, g)

sum_two : (o a b k m : ℕ) → a ≡ o + k → b ≡ a + m → b ≡ o + (k + m)
sum_two o a b k m e f = omega (arith, e, f)

sum_later : (o a b m n : ℕ) → a ≡ o + m → b ≡ a + n → b ≡ o + (0 + (m + n))
sum_later o a b m n e f = omega (arith, e, f)

-- a command by what is seen of its form, where it has more phases than one straight one
module _ (ways : Leads) (stages : List ℕ) (old new : PhaseWalk) (c : Command) where
  abbrev FormWalked : ActionForm → Type 0
  FormWalked f =
      (known : Known) → IsLedBy ways known → (r : Around) (base : List ℕ) (line : List Phase) → TellInside (table_at stages) f → are_straight (form_phases r (held_access_count old.held) c.id c.place f) ≡ false → WalkStandsBehind known base old line
      → PhasesAreWalked known base line old new (form_phases r (held_access_count old.held) c.id c.place f) (own_accesses f + inner_accesses f)

  pub by_form : (f : ActionForm) → action_form_seen c.form ≡ f → (stage : ℕ) → stage ≡ table_at stages c.id → (stage ≡ 0 → ⊥) → (stage ≡ 1 → ⊥) → FormWalked f → WalksCommand ways stages old new c
  by_form f is stage known_stage none one walked known u r base line tells s =
      let more = more_phases_of r (held_access_count old.held) (action_seen c) (λ e. none (known_stage ∙ (tells.0 ∙ e))) (λ e. one (known_stage ∙ (tells.0 ∙ e))) in
      subst (λ (x : ActionForm). PhasesAreWalked known base line old new (form_phases r (held_access_count old.held) c.id c.place x) (own_accesses x + inner_accesses x)) (sym is)
      (walked known u r base line (subst (λ (x : ActionForm). TellInside (table_at stages) x) is tells.1) (subst (λ (x : ActionForm). are_straight (form_phases r (held_access_count old.held) c.id c.place x) ≡ false) is more) s)

-- an `if`
pub walked_choice : {ways : Leads} (stages : List ℕ) (old w1 w2 w3 w4 new : PhaseWalk) (c x : Command) (test : Expr) (other : MaybeAction) → WalksTest ways old w1 test → WalksCommand ways stages w1 w2 x → Closes w2 w3
    → ((known : Known) → IsLedBy ways known → (r : Around) (base : List ℕ) (line : List Phase) → TellOther (table_at stages) other → WalkStandsBehind known base w3 line → PhasesAreWalked known base line w3 w4 (other_phases r (held_access_count w3.held) other) (other_accesses other)) → Closes w4 new
    → FormWalked ways stages old new c (plain.decides (term_seen test) (action_seen x) other)
walked_choice stages old w1 w2 w3 w4 new c x test other one two three four five known u r base line tells more s =
    let shared = told old.held.shares.now in
    let k = term_accesses (term_seen test) in
    let p1 = one known u base line s in
    let p2 = two known u (in_arm r c.id true) _ [] tells.0 p1.stands in
    let p3 = three known _ _ p2.stands in
    let p4 = four known u (in_arm r c.id false) _ [] tells.1 p3.stands in
    let p5 = five known _ _ p4.stands in
    let same2 = p2.shares ∙ p1.shares in
    let same3 = p3.shares ∙ same2 in
    let same4 = p4.shares ∙ same3 in
    let n3 : held_access_count w3.held ≡ held_access_count old.held + k + accesses_of (action_seen x) = p3.counted ∙ (p2.counted ∙ ap (λ m. m + accesses_of (action_seen x)) p1.counted) in
    let chosen : put_phases w1.going [] (phases (in_arm r c.id true) (held_access_count w1.held) (action_seen x)) ≡ phases (in_arm r c.id true) (held_access_count old.held + k) (action_seen x) =
    ap (λ b. put_phases b [] (phases (in_arm r c.id true) (held_access_count w1.held) (action_seen x))) p1.going ∙ (put_first (phases (in_arm r c.id true) (held_access_count w1.held) (action_seen x)) ∙ ap (λ m. phases (in_arm r c.id true) m (action_seen x)) p1.counted) in
    let second : put_phases w3.going [] (other_phases (in_arm r c.id false) (held_access_count w3.held) other) ≡ other_phases (in_arm r c.id false) (held_access_count old.held + k + accesses_of (action_seen x)) other =
    ap (λ b. put_phases b [] (other_phases (in_arm r c.id false) (held_access_count w3.held) other)) p3.going ∙ (put_first (other_phases (in_arm r c.id false) (held_access_count w3.held) other) ∙ ap (λ m. other_phases (in_arm r c.id false) m other) n3) in
    let here = located r (held_access_count old.held) (action c.id c.place (plain.decides (term_seen test) (action_seen x) other)) in
    walked_other known base _ line old new
    (decided (located r (held_access_count old.held) (action c.id c.place (plain.decides (term_seen test) (action_seen x) other))) (of_list (phases (in_arm r c.id true) (held_access_count old.held + k) (action_seen x)))
    (of_list (other_phases (in_arm r c.id false) (held_access_count old.held + k + accesses_of (action_seen x)) other))) _ _ tt (choice_more _ _ _ more) p5.stands
    (ap (λ l. (((base ++ lengths_in (told old.held.shares.now) known line) ++ block_length (told old.held.shares.now) (tests (core_term known (held_access_count old.held) (term_seen test))) ∷ []) ++ l) ++ lengths_in (told w4.held.shares.now) known (put_phases w3.going [] (other_phases (in_arm r c.id false) (held_access_count w3.held) other)))
    (ap (λ y. lengths_in (told y) known (put_phases w1.going [] (phases (in_arm r c.id true) (held_access_count w1.held) (action_seen x)))) same2 ∙ ap (lengths_in (told old.held.shares.now) known) chosen)
    ∙ (ap (λ l. (((base ++ lengths_in (told old.held.shares.now) known line) ++ block_length (told old.held.shares.now) (tests (core_term known (held_access_count old.held) (term_seen test))) ∷ []) ++ lengths_in (told old.held.shares.now) known (phases (in_arm r c.id true) (held_access_count old.held + k) (action_seen x))) ++ l)
    (ap (λ y. lengths_in (told y) known (put_phases w3.going [] (other_phases (in_arm r c.id false) (held_access_count w3.held) other))) same4 ∙ ap (lengths_in (told old.held.shares.now) known) second)
    ∙ (ap (λ l. l ++ lengths_in (told old.held.shares.now) known (other_phases (in_arm r c.id false) (held_access_count old.held + k + accesses_of (action_seen x)) other)) (append_assoc (base ++ lengths_in (told old.held.shares.now) known line) (block_length (told old.held.shares.now) (tests (core_term known (held_access_count old.held) (term_seen test))) ∷ []) (lengths_in (told old.held.shares.now) known (phases (in_arm r c.id true) (held_access_count old.held + k) (action_seen x))))
    ∙ (append_assoc (base ++ lengths_in (told old.held.shares.now) known line) _ (lengths_in (told old.held.shares.now) known (other_phases (in_arm r c.id false) (held_access_count old.held + k + accesses_of (action_seen x)) other))
    ∙ more_lengths (told old.held.shares.now) known base line _ _
    (ap (λ l. block_length (told old.held.shares.now) (tests (core_term known (held_access_count old.held) (term_seen test))) ∷ l)
    (sym (ap (map (block_length (told old.held.shares.now))) (append-nil (blocks_in (core_phases known (of_list (phases (in_arm r c.id true) (held_access_count old.held + k) (action_seen x)))) ++ blocks_in (core_phases known (of_list (other_phases (in_arm r c.id false) (held_access_count old.held + k + accesses_of (action_seen x)) other)))))
    ∙ map-append (block_length (told old.held.shares.now)) (blocks_in (core_phases known (of_list (phases (in_arm r c.id true) (held_access_count old.held + k) (action_seen x))))) (blocks_in (core_phases known (of_list (other_phases (in_arm r c.id false) (held_access_count old.held + k + accesses_of (action_seen x)) other)))))))))))
    p5.going
    (sum_three (held_access_count old.held) (held_access_count w1.held) (held_access_count w2.held) (held_access_count new.held) k (accesses_of (action_seen x)) (other_accesses other) p1.counted p2.counted (p5.counted ∙ (p4.counted ∙ ap (λ m. m + other_accesses other) p3.counted)))
    (p5.shares ∙ same4)

-- a `while`
pub walked_repeat : {ways : Leads} (stages : List ℕ) (old w1 w2 new : PhaseWalk) (c x : Command) (test : Expr) → WalksTest ways old w1 test → WalksCommand ways stages w1 w2 x → Closes w2 new → FormWalked ways stages old new c (plain.repeats (term_seen test) (action_seen x))
walked_repeat stages old w1 w2 new c x test one two three known u r base line tells more s =
    let k = term_accesses (term_seen test) in
    let p1 = one known u base line s in
    let p2 = two known u r _ [] tells p1.stands in
    let p3 = three known _ _ p2.stands in
    let same2 = p2.shares ∙ p1.shares in
    let inside : put_phases w1.going [] (phases r (held_access_count w1.held) (action_seen x)) ≡ phases r (held_access_count old.held + k) (action_seen x) =
    ap (λ b. put_phases b [] (phases r (held_access_count w1.held) (action_seen x))) p1.going ∙ (put_first (phases r (held_access_count w1.held) (action_seen x)) ∙ ap (λ m. phases r m (action_seen x)) p1.counted) in
    walked_other known base _ line old new (repeated (located r (held_access_count old.held) (action c.id c.place (plain.repeats (term_seen test) (action_seen x)))) (of_list (phases r (held_access_count old.held + k) (action_seen x)))) _ _ tt refl p3.stands
    (ap (λ l. ((base ++ lengths_in (told old.held.shares.now) known line) ++ block_length (told old.held.shares.now) (tests (core_term known (held_access_count old.held) (term_seen test))) ∷ []) ++ l)
    (ap (λ y. lengths_in (told y) known (put_phases w1.going [] (phases r (held_access_count w1.held) (action_seen x)))) same2 ∙ ap (lengths_in (told old.held.shares.now) known) inside)
    ∙ (append_assoc (base ++ lengths_in (told old.held.shares.now) known line) (block_length (told old.held.shares.now) (tests (core_term known (held_access_count old.held) (term_seen test))) ∷ []) (lengths_in (told old.held.shares.now) known (phases r (held_access_count old.held + k) (action_seen x)))
    ∙ more_lengths (told old.held.shares.now) known base line _ _
    (ap (λ l. block_length (told old.held.shares.now) (tests (core_term known (held_access_count old.held) (term_seen test))) ∷ l)
    (sym (ap (map (block_length (told old.held.shares.now))) (append-nil (blocks_in (core_phases known (of_list (phases r (held_access_count old.held + k) (action_seen x)))))))))))
    p3.going (sum_two (held_access_count old.held) (held_access_count w1.held) (held_access_count new.held) k (accesses_of (action_seen x)) p1.counted (p3.counted ∙ p2.counted)) (p3.shares ∙ same2)

-- the next straight command joins
abbrev pub put_going : PhaseWalk → PhaseWalk
put_going w = record { held = w.held; pending = w.pending; going = true; lengths = w.lengths }

-- a `for`
pub walked_turns : {ways : Leads} (stages : List ℕ) (old w1 w2 w3 new : PhaseWalk) (c x : Command) (iterator : _) (declared : _) (low high : _) (factor : _) (combine : MaybeAction) (combine_place : Place) → Closes old w1 → WalksCommand ways stages w1 w2 x
    → ((known : Known) → IsLedBy ways known → (r : Around) (base : List ℕ) (line : List Phase) → TellOther (table_at stages) combine → WalkStandsBehind known base (put_going w2) line → PhasesAreWalked known base line (put_going w2) w3 (other_phases r (held_access_count w2.held) combine) (other_accesses combine)) → Closes w3 new
    → FormWalked ways stages old new c (plain.counts iterator declared low high factor (action_seen x) combine combine_place)
walked_turns stages old w1 w2 w3 new c x iterator declared low high factor combine combine_place one two three four known u r base line tells more s =
    let inside = in_loop r (loop_of iterator low high factor) in
    let p1 = one known base line s in
    let p2 = two known u inside _ [] tells.0 p1.stands in
    let goes : WalkStandsBehind known _ (put_going w2) _ = record { lengths = p2.stands.lengths; seen = p2.stands.seen; open_so = p2.stands.open_so; fresh = p2.stands.fresh; sound = p2.stands.sound; full = p2.stands.full } in
    let p3 = three known u inside _ _ tells.1 goes in
    let p4 = four known _ _ p3.stands in
    let same2 = p2.shares ∙ p1.shares in
    let same3 = p3.shares ∙ same2 in
    let n2 : held_access_count w2.held ≡ held_access_count old.held + accesses_of (action_seen x) = p2.counted ∙ ap (λ m. m + accesses_of (action_seen x)) p1.counted in
    let body : put_phases w1.going [] (phases inside (held_access_count w1.held) (action_seen x)) ≡ phases inside (held_access_count old.held) (action_seen x) =
    ap (λ b. put_phases b [] (phases inside (held_access_count w1.held) (action_seen x))) p1.going ∙ (put_first (phases inside (held_access_count w1.held) (action_seen x)) ∙ ap (λ m. phases inside m (action_seen x)) p1.counted) in
    let turn : put_phases true (put_phases w1.going [] (phases inside (held_access_count w1.held) (action_seen x))) (other_phases inside (held_access_count w2.held) combine) ≡ folded (phases inside (held_access_count old.held) (action_seen x)) (other_phases inside (held_access_count old.held + accesses_of (action_seen x)) combine) =
    put_folded (put_phases w1.going [] (phases inside (held_access_count w1.held) (action_seen x))) (other_phases inside (held_access_count w2.held) combine) p2.stands.full (other_full inside (held_access_count w2.held) combine)
    ∙ (ap (λ l. folded l (other_phases inside (held_access_count w2.held) combine)) body ∙ ap (λ m. folded (phases inside (held_access_count old.held) (action_seen x)) (other_phases inside m combine)) n2) in
    let all = folded (phases inside (held_access_count old.held) (action_seen x)) (other_phases inside (held_access_count old.held + accesses_of (action_seen x)) combine) in
    walked_other known base _ line old new
    (turns (located r (held_access_count old.held) (action c.id c.place (plain.counts iterator declared low high factor (action_seen x) combine combine_place))) (turn_count low.value high.value factor.value)
    (of_list (folded (phases inside (held_access_count old.held) (action_seen x)) (other_phases inside (held_access_count old.held + accesses_of (action_seen x)) combine)))) _ _ tt (turn_more _ _ _ more) p4.stands
    (ap (λ l. (base ++ lengths_in (told old.held.shares.now) known line) ++ l) (ap (λ y. lengths_in (told y) known (put_phases true (put_phases w1.going [] (phases inside (held_access_count w1.held) (action_seen x))) (other_phases inside (held_access_count w2.held) combine))) same3 ∙ ap (lengths_in (told old.held.shares.now) known) turn)
    ∙ more_lengths (told old.held.shares.now) known base line _ _ (sym (ap (map (block_length (told old.held.shares.now))) (append-nil (blocks_in (core_phases known (of_list all)))))))
    p4.going (sum_later (held_access_count old.held) (held_access_count w2.held) (held_access_count new.held) (accesses_of (action_seen x)) (other_accesses combine) n2 (p4.counted ∙ p3.counted)) (p4.shares ∙ same3)

-- A block.

parts_full : (r : Around) (n : ℕ) (part : Actions) → AllFull (parts_phases r n part)
parts_full r n plain.no_actions = tt
parts_full r n (plain.action_then a rest) = (full r n a, parts_full r (n + accesses_of a) rest)

pub record PartWalked (stages : List ℕ) (known : Known) (r : Around) (base : List ℕ) (line : List Phase) (start now : PhaseWalk) (rest all : List Command) : Type 0 where
  pub standing : List Phase
  pub stands : WalkStandsBehind known base now standing
  pub so : puts now.going standing (parts_phases r (held_access_count now.held) (actions (map action_seen rest))) ≡ puts start.going line (parts_phases r (held_access_count start.held) (actions (map action_seen all)))
  pub counted : held_access_count now.held + part_accesses (actions (map action_seen rest)) ≡ held_access_count start.held + part_accesses (actions (map action_seen all))
  pub shares : now.held.shares.now ≡ start.held.shares.now
  pub tells : TellPart (table_at stages) (actions (map action_seen rest))

pub part_begin : (stages : List ℕ) (known : Known) (r : Around) (base : List ℕ) (line : List Phase) (w : PhaseWalk) (all : List Command) → TellPart (table_at stages) (actions (map action_seen all)) → WalkStandsBehind known base w line → PartWalked stages known r base line w w all all
part_begin stages known r base line w all tells s = record { standing = line; stands = s; so = refl; counted = refl; shares = refl; tells = tells }

sum_next : (a b m n all : ℕ) → b ≡ a + m → a + (m + n) ≡ all → b + n ≡ all
sum_next a b m n all e f = omega (arith, e, f)

pub part_turn : {ways : Leads} (stages : List ℕ) (known : Known) → IsLedBy ways known → (r : Around) (base : List ℕ) (line : List Phase) (start now next : PhaseWalk) (all : List Command) (i : ℕ) (c : Command) → i < length all → c ≡ get_or all i c → WalksCommand ways stages now next c
    → PartWalked stages known r base line start now (drop i all) all → PartWalked stages known r base line start next (drop (i + 1) all) all
part_turn stages known u r base line start now next all i c within is walks h =
    let cut = at_item all i c within is in
    let a = action_seen c in
    let tells = subst (λ (l : List Command). TellPart (table_at stages) (actions (map action_seen l))) cut h.tells in
    let w = walks known u r base h.standing tells.0 h.stands in
    record {
      standing = put_phases now.going h.standing (phases r (held_access_count now.held) (action_seen c));
      stands = w.stands;
      so =
          ap (λ b. puts b (put_phases now.going h.standing (phases r (held_access_count now.held) (action_seen c))) (parts_phases r (held_access_count next.held) (actions (map action_seen (drop (i + 1) all))))) w.going
          ∙ (ap (λ m. puts (last_phase_goes_on now.going (phases r (held_access_count now.held) (action_seen c))) (put_phases now.going h.standing (phases r (held_access_count now.held) (action_seen c))) (parts_phases r m (actions (map action_seen (drop (i + 1) all))))) w.counted
          ∙ (ap (λ l. puts now.going h.standing (parts_phases r (held_access_count now.held) (actions (map action_seen l)))) (sym cut) ∙ h.so));
      counted = sum_next (held_access_count now.held) (held_access_count next.held) (accesses_of (action_seen c)) (part_accesses (actions (map action_seen (drop (i + 1) all)))) _ w.counted (ap (λ l. held_access_count now.held + part_accesses (actions (map action_seen l))) (sym cut) ∙ h.counted);
      shares = w.shares ∙ h.shares;
      tells = tells.1;
    }

pub record GroupsWalked (stages : List ℕ) (known : Known) (r : Around) (base : List ℕ) (line : List Phase) (start now : PhaseWalk) (rest all : List (Vec Command Global)) : Type 0 where
  pub standing : List Phase
  pub stands : WalkStandsBehind known base now standing
  pub so : standing ++ groups_phases r (held_access_count now.held) (groups (map part_seen rest)) ≡ line ++ groups_phases r (held_access_count start.held) (groups (map part_seen all))
  pub counted : held_access_count now.held + groups_accesses (groups (map part_seen rest)) ≡ held_access_count start.held + groups_accesses (groups (map part_seen all))
  pub shares : now.held.shares.now ≡ start.held.shares.now
  pub tells : TellGroups (table_at stages) (groups (map part_seen rest))

pub groups_begin : (stages : List ℕ) (known : Known) (r : Around) (base : List ℕ) (line : List Phase) (w : PhaseWalk) (all : List (Vec Command Global)) → TellGroups (table_at stages) (groups (map part_seen all)) → WalkStandsBehind known base w line → GroupsWalked stages known r base line w w all all
groups_begin stages known r base line w all tells s = record { standing = line; stands = s; so = refl; counted = refl; shares = refl; tells = tells }

-- no phase goes on
abbrev pub put_released : PhaseWalk → PhaseWalk
put_released w = record { held = w.held; pending = w.pending; going = false; lengths = w.lengths }

pub released : (known : Known) (base : List ℕ) (line : List Phase) (w : PhaseWalk) → WalkStandsBehind known base w line → WalkStandsBehind known base (put_released w) line
released known base line w s = record { lengths = s.lengths; seen = s.seen; open_so = s.open_so; fresh = s.fresh; sound = s.sound; full = s.full }

sum_part : (a b n m p all : ℕ) → b + 0 ≡ a + p → a + (p + n) ≡ all → b + n ≡ all
sum_part a b n m p all e f = omega (arith, e, f)

plus_none : (n : ℕ) → n + 0 ≡ n
plus_none n = omega arith

pub groups_turn : (stages : List ℕ) (known : Known) (r : Around) (base : List ℕ) (line : List Phase) (start now next : PhaseWalk) (all : List (Vec Command Global)) (i : ℕ) (part : Vec Command Global) (cs rest : List Command) → i < length all → part ≡ get_or all i part → cs ≡ part.items → rest ≡ []
    → (TellPart (table_at stages) (actions (map action_seen cs)) → (l : List Phase) → WalkStandsBehind known base (put_released now) l → PartWalked stages known r base l (put_released now) next rest cs)
    → GroupsWalked stages known r base line start now (drop i all) all → GroupsWalked stages known r base line start next (drop (i + 1) all) all
groups_turn stages known r base line start now next all i part cs rest within is items none walks h =
    let cut = at_item all i part within is in
    let tells = subst (λ (l : List (Vec Command Global)). TellGroups (table_at stages) (groups (map part_seen l))) cut h.tells in
    let w = walks (subst (λ (l : List Command). TellPart (table_at stages) (actions (map action_seen l))) (sym items) tells.0) h.standing (released known base h.standing now h.stands) in
    let p = part_seen part in
    let behind = groups (map part_seen (drop (i + 1) all)) in
    let same : actions (map action_seen cs) ≡ part_seen part = ap (λ l. actions (map action_seen l)) items in
    let many : held_access_count next.held ≡ held_access_count now.held + part_accesses (part_seen part) =
    sym (plus_none (held_access_count next.held)) ∙ (ap (λ l. held_access_count next.held + part_accesses (actions (map action_seen l))) (sym none) ∙ (w.counted ∙ ap (λ x. held_access_count now.held + part_accesses x) same)) in
    let joins_so : w.standing ≡ h.standing ++ joined [] (parts_phases r (held_access_count now.held) (part_seen part)) =
    ap (λ l. puts next.going w.standing (parts_phases r (held_access_count next.held) (actions (map action_seen l)))) (sym none)
    ∙ (w.so ∙ (ap (λ x. puts false h.standing (parts_phases r (held_access_count now.held) x)) same ∙ puts_joined h.standing (parts_phases r (held_access_count now.held) (part_seen part)) (parts_full r (held_access_count now.held) (part_seen part)))) in
    record {
      standing = w.standing;
      stands = w.stands;
      so =
          ap (λ l. l ++ groups_phases r (held_access_count next.held) behind) joins_so
          ∙ (ap (λ m. (h.standing ++ joined [] (parts_phases r (held_access_count now.held) (part_seen part))) ++ groups_phases r m behind) many
          ∙ (append_assoc h.standing (joined [] (parts_phases r (held_access_count now.held) (part_seen part))) (groups_phases r (held_access_count now.held + part_accesses (part_seen part)) behind)
          ∙ (ap (λ l. h.standing ++ groups_phases r (held_access_count now.held) (groups (map part_seen l))) (sym cut) ∙ h.so)));
      counted = sum_next (held_access_count now.held) (held_access_count next.held) (part_accesses (part_seen part)) (groups_accesses behind) _ many (ap (λ l. held_access_count now.held + groups_accesses (groups (map part_seen l))) (sym cut) ∙ h.counted);
      shares = w.shares ∙ h.shares;
      tells = tells.1;
    }

pub walked_block : {ways : Leads} (stages : List ℕ) (old now : PhaseWalk) (c : Command) (rest all : List (Vec Command Global)) → rest ≡ []
    → ((known : Known) → IsLedBy ways known → (r : Around) (base : List ℕ) (line : List Phase) → TellGroups (table_at stages) (groups (map part_seen all)) → WalkStandsBehind known base old line → GroupsWalked stages known r base line old now rest all)
    → FormWalked ways stages old (put_released now) c (plain.blocks (groups (map part_seen all)))
walked_block stages old now c rest all none walks known u r base line tells more s =
    let h = walks known u r base line tells s in
    let same : h.standing ≡ line ++ groups_phases r (held_access_count old.held) (groups (map part_seen all)) =
    sym (append-nil h.standing) ∙ (ap (λ l. h.standing ++ groups_phases r (held_access_count now.held) (groups (map part_seen l))) (sym none) ∙ h.so) in
    record {
      stands = subst (λ (l : List Phase). WalkStandsBehind known base (put_released now) l) (same ∙ put_more old.going line (groups_phases r (held_access_count old.held) (groups (map part_seen all))) more) (released known base h.standing now h.stands);
      going = goes_more old.going (groups_phases r (held_access_count old.held) (groups (map part_seen all))) more;
      counted = sym (plus_none (held_access_count now.held)) ∙ (ap (λ l. held_access_count now.held + groups_accesses (groups (map part_seen l))) (sym none) ∙ (h.counted ∙ ap (λ n. held_access_count old.held + n) (from_none (groups_accesses (groups (map part_seen all))))));
      shares = h.shares;
    }
  where
    from_none : (n : ℕ) → n ≡ 0 + n
    from_none n = omega arith

-- The phases of commands are known.

mutual
  pub stages_tell : (f : ℕ → ℕ) (a : Action) → stages.Known f a → TellsStages f a
  stages_tell f (plain.action id place form) k = (k.0, inside_tell f form k.1)

  inside_tell : (f : ℕ → ℕ) (form : ActionForm) → stages.KnownInside f form → TellInside f form
  inside_tell f (plain.lets name declared value) k = tt
  inside_tell f (plain.lets_memory name shape shape_places value) k = tt
  inside_tell f (plain.views name parent form) k = tt
  inside_tell f (plain.assigns target value) k = tt
  inside_tell f (plain.stores target value) k = tt
  inside_tell f (plain.reduces target op value) k = tt
  inside_tell f (plain.calls function arguments) k = tt
  inside_tell f (plain.blocks body) k = groups_tell f body k
  inside_tell f (plain.decides test chosen other) k = (stages_tell f chosen k.0, other_tell f other k.1)
  inside_tell f (plain.repeats test body) k = stages_tell f body k
  inside_tell f (plain.counts iterator declared low high factor body combine combine_place) k = (stages_tell f body k.0, other_tell f combine k.1)

  other_tell : (f : ℕ → ℕ) (o : MaybeAction) → stages.KnownOther f o → TellOther f o
  other_tell f plain.no_action k = tt
  other_tell f (plain.one_action a) k = stages_tell f a k

  groups_tell : (f : ℕ → ℕ) (gs : Groups) → stages.KnownGroups f gs → TellGroups f gs
  groups_tell f plain.no_groups k = tt
  groups_tell f (plain.group_then part rest) k = (part_tell f part k.0, groups_tell f rest k.1)

  part_tell : (f : ℕ → ℕ) (part : Actions) → stages.KnownPart f part → TellPart f part
  part_tell f plain.no_actions k = tt
  part_tell f (plain.action_then a rest) k = (stages_tell f a k.0, part_tell f rest k.1)

-- The whole program.

numbered_none : table_at [] ≡ (λ e. 0)
numbered_none = fun_ext none
  where
    none : (e : ℕ) → table_at [] e ≡ 0
    none zero = refl
    none (suc e) = refl

pub record IsBegun (w : PhaseWalk) (shares : List (Option ℕ)) : Type 0 where
  pub shares_are : w.held.shares.now ≡ shares
  pub reads : w.held.reads.items ≡ []
  pub first : w.held.first ≡ 0
  pub most : w.held.most ≡ 0
  pub variables : w.held.variables.items ≡ []
  pub log : w.held.log.items ≡ []
  pub pending : w.pending ≡ false
  pub going : w.going ≡ false
  pub lengths : w.lengths.items ≡ []

begun_stands : (known : Known) (w : PhaseWalk) (shares : List (Option ℕ)) → IsBegun w shares → WalkStandsBehind known [] w []
begun_stands known w shares b =
    let seen : levels_seen w.held ≡ level_ground =
    ap (λ l. levels_of l w.held.first w.held.most w.held.variables.items) b.reads
    ∙ (ap (λ n. levels_of [] n w.held.most w.held.variables.items) b.first
    ∙ (ap (λ n. levels_of [] 0 n w.held.variables.items) b.most
    ∙ (ap (λ l. levels_of [] 0 0 l) b.variables
    ∙ (ap (λ (f : ℕ → ℕ). record { variables = f; reads = read_in [] 0; most = 0 }) numbered_none ∙ ap (λ (f : ℕ → ℕ). record { variables = λ e. 0; reads = f; most = 0 }) (read_end []))))) in
    stands_fresh known [] w b.lengths seen b.pending
    (ap (λ l. undone_levels l (table_at w.held.variables.items)) b.log ∙ (ap table_at b.variables ∙ numbered_none))
    (record {
      first = subst (λ (n : ℕ). n ≤ held_access_count w.held) (sym b.first) (none_low (held_access_count w.held));
      small = subst (λ (l : Levels). LevelsAreSmall (held_access_count w.held) l) (sym seen) (record { variables = λ e. none_low (held_access_count w.held); reads = λ k. none_low (held_access_count w.held); most = none_low (held_access_count w.held) });
    })

pub all_told : {ways : Leads} (p : Program) (first : ℕ) (before stages_are : List ℕ) (shares : List (Option ℕ)) (w0 w1 w2 : PhaseWalk) (body : Command) → p.body ≡ action_seen body → IsNumbered first p.body → before ≡ [] → table_at stages_are ≡ stages_in (action_seen body) (table_at before)
    → IsLedBy ways (known_of p) → TellsShares p shares → IsBegun w0 shares → WalksCommand ways stages_are w0 w1 body → Closes w1 w2 → w2.lengths.items ≡ lengths_of p
all_told p first before stages_are shares w0 w1 w2 body same numbered_from none counted led tells b walks closes =
    let tells_all = stages_tell (table_at stages_are) (action_seen body) (stages.known first (action_seen body) (table_at before) (table_at stages_are) (subst (IsNumbered first) same numbered_from) (λ i w. ap (λ f. f i) counted)) in
    let p1 = walks (known_of p) led nothing_around [] [] tells_all (begun_stands (known_of p) w0 shares b) in
    let p2 = closes (known_of p) [] _ p1.stands in
    let line : put_phases w0.going [] (phases nothing_around (held_access_count w0.held) (action_seen body)) ≡ phases_of p =
    ap (λ g. put_phases g [] (phases nothing_around (held_access_count w0.held) (action_seen body))) b.going
    ∙ (put_first (phases nothing_around (held_access_count w0.held) (action_seen body)) ∙ (ap (λ l. phases nothing_around (length l) (action_seen body)) b.reads ∙ ap (phases nothing_around 0) (sym same))) in
    let shared_is : told w1.held.shares.now ≡ shared p = ap told (p1.shares ∙ b.shares_are) ∙ fun_ext tells.all in
    p2.stands.lengths
    ∙ (append-nil ([] ++ lengths_in (told w1.held.shares.now) (known_of p) (put_phases w0.going [] (phases nothing_around (held_access_count w0.held) (action_seen body))))
    ∙ (ap (lengths_in (told w1.held.shares.now) (known_of p)) line ∙ ap (λ s. lengths_in s (known_of p) (phases_of p)) shared_is))

-- Cases on how many phases a command has.

pub where_none : {ways : Leads} (stages_are : List ℕ) (old new : PhaseWalk) (c : Command) (stage : ℕ) → stage ≡ table_at stages_are c.id → stage ≡ 0 → (phase_kind (action_seen c) ≡ 0 → WalksCommand ways stages_are old new c) → WalksCommand ways stages_are old new c
where_none stages_are old new c stage is none f known u r base line tells s = f (sym tells.0 ∙ (sym is ∙ none)) known u r base line tells s

pub where_one : {ways : Leads} (stages_are : List ℕ) (old new : PhaseWalk) (c : Command) (stage : ℕ) → stage ≡ table_at stages_are c.id → stage ≡ 1 → WalksStraight ways old new c → WalksCommand ways stages_are old new c
where_one stages_are old new c stage is one f known u r base line tells s = f known u r base line (sym tells.0 ∙ (sym is ∙ one)) s

-- a view has one at most
pub view_few : (v : Bool) (c : Located) → are_straight (if v then one_command c else []) ≡ true
view_few true c = refl
view_few false c = refl

-- a form that never has more
pub never_more : {ways : Leads} (stages_are : List ℕ) (w : PhaseWalk) (c : Command) (f : ActionForm) → ((r : Around) → are_straight (form_phases r (held_access_count w.held) c.id c.place f) ≡ true) → FormWalked ways stages_are w w c f
never_more stages_are w c f few known u r base line tells more s = absurd (untrue (sym (few r) ∙ more))
  where
    untrue : true ≡ false → ⊥
    untrue e = cc

pub walked_nothing : (known : Known) (base : List ℕ) (line : List Phase) (w : PhaseWalk) → WalkStandsBehind known base w line → PhasesAreWalked known base line w w [] 0
walked_nothing known base line w s = record { stands = s; going = refl; counted = sym (plus_none (held_access_count w.held)); shares = refl }
