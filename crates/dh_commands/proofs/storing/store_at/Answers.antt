use Rattle.std.proofs.Common.{ℕ, List, Some, None, refl, sym, subst}
use Rattle.std.specs.Prelude.{Option}
use Rattle.dh_value.specs.declared.kinds.Kind.{Kind}
use Rattle.dh_tree.specs.Seen.{term_seen}
use Rattle.dh_expressions.specs.declared.elements.Aim.{Aim}
use Rattle.dh_expressions.specs.Drafted.{Gives, word_shown}
use Rattle.dh_expressions.specs.Evaluated.{EvaluatesTerm}
use Rattle.dh_expressions.specs.Shown.{held_shown}
use Rattle.dh_commands.specs.Setting.{AimsAtTarget, StoresOne}
use Rattle.dh_commands.proofs.StoredForms.{stored_none, stored_some}
use Rattle.dh_tree.specs.Indices.{form_of}
use Rattle.dh_expressions.specs.MadeTerms.{MadeTerm}
use Rattle.dh_expressions.specs.MadeValues.{MadeHeld}
use Rattle.dh_commands.specs.MadeCommands.{MadeAim}
use Rattle.dh_commands.proofs.storing.store_at.Goals as goal

pub returns-in_default-clause-means : goal.returns-in_default-clause-means
returns-in_default-clause-means c =
    stored_none c.args.scene.now c.args.lane.now c.args.building.now (record { draft = c.aim_at.new.draft; accesses = c.aim_at.new.accesses; values = c.args.building.now.values })
    c.push_term.new.draft c.push_term.new.accesses c.args.first c.behind_term.result (term_seen c.args.target.now) (term_seen c.args.value.now) c.in_ok-own.own refl
    (subst (λ (os : List (Option ℕ)). EvaluatesTerm c.args.scene.now c.args.lane.now os c.args.building.now.draft c.push_term.new.draft c.args.building.now.accesses c.push_term.new.accesses c.args.first (term_seen c.args.value.now) c.in_ok-own.own)
    c.as_slice-current.ensures.value c.in_ok-own.ensures.means)
    (subst (λ (os : List (Option ℕ)). AimsAtTarget c.args.scene.now c.args.lane.now os c.push_term.new.draft c.aim_at.new.draft c.push_term.new.accesses c.aim_at.new.accesses c.in_ok-own.own.next (term_seen c.args.target.now) None) c.as_slice-current.ensures.value
    (subst (λ (o : Option (Aim × ℕ)). AimsAtTarget c.args.scene.now c.args.lane.now c.as_slice-current.result.now c.push_term.new.draft c.aim_at.new.draft c.push_term.new.accesses c.aim_at.new.accesses c.in_ok-own.own.next (term_seen c.args.target.now) o)
    c.in_default.is c.in_ok-aim.ensures.means))
    c.behind_term.ensures

pub returns-clause-means : goal.returns-clause-means
returns-clause-means c =
    subst (λ (n : ℕ). StoresOne c.args.scene.now c.args.lane.now c.args.building.now (record { draft = c.push_write.new.draft; accesses = c.push_write.new.accesses; values = c.args.building.now.values }) c.args.first n (term_seen c.args.target.now) (term_seen c.args.value.now))
    (sym c.saturating_add-next.ensures)
    (stored_some c.args.scene.now c.args.lane.now c.args.building.now (record { draft = c.push_write.new.draft; accesses = c.push_write.new.accesses; values = c.args.building.now.values })
    c.push_term.new.draft c.aim_at.new.draft c.push_held.new.draft c.push_term.new.accesses c.aim_at.new.accesses c.args.first (term_seen c.args.value.now) c.in_ok-own.own c.in-Some.aim c.in-Some.memory c.in_ok-held.held refl
    (subst (λ (os : List (Option ℕ)). EvaluatesTerm c.args.scene.now c.args.lane.now os c.args.building.now.draft c.push_term.new.draft c.args.building.now.accesses c.push_term.new.accesses c.args.first (term_seen c.args.value.now) c.in_ok-own.own)
    c.as_slice-current.ensures.value c.in_ok-own.ensures.means)
    (term_seen c.args.target.now)
    (subst (λ (os : List (Option ℕ)). AimsAtTarget c.args.scene.now c.args.lane.now os c.push_term.new.draft c.aim_at.new.draft c.push_term.new.accesses c.aim_at.new.accesses c.in_ok-own.own.next (term_seen c.args.target.now) (Some (c.in-Some.aim, c.in-Some.memory))) c.as_slice-current.ensures.value
    (subst (λ (o : Option (Aim × ℕ)). AimsAtTarget c.args.scene.now c.args.lane.now c.as_slice-current.result.now c.push_term.new.draft c.aim_at.new.draft c.push_term.new.accesses c.aim_at.new.accesses c.in_ok-own.own.next (term_seen c.args.target.now) o)
    c.in-Some.is c.in_ok-aim.ensures.means))
    (subst (λ (k : Kind). Gives c.aim_at.new.draft c.push_held.new.draft c.in_ok-held.held (λ x. held_shown (term_seen c.args.value.now) k (word_shown x c.in_ok-own.own.value))) c.element_kind.ensures c.in_ok-held.ensures.means)
    c.in_ok-push_write.ensures.means)

pub returns-in_default-clause-made : goal.returns-in_default-clause-made
returns-in_default-clause-made c = record {
  middle = c.push_term.new.draft;
  end = c.aim_at.new.draft;
  between = c.push_term.new.accesses;
  behind = c.aim_at.new.accesses;
  own = c.in_ok-own.own.next;
  value = c.in_ok-own.own.value;
  aimed = None;
  term =
      subst (λ (os : List (Option ℕ)). MadeTerm c.args.scene.now c.args.lane.now os (term_seen c.args.value.now) c.args.building.now.draft c.push_term.new.draft c.args.building.now.accesses c.push_term.new.accesses c.args.first c.in_ok-own.own.next c.in_ok-own.own.value)
      c.as_slice-current.ensures.value c.in_ok-own.ensures.made;
  aims =
      subst (λ (os : List (Option ℕ)). MadeAim c.args.scene.now c.args.lane.now os (form_of (term_seen c.args.target.now)) c.push_term.new.draft c.aim_at.new.draft c.push_term.new.accesses c.aim_at.new.accesses c.in_ok-own.own.next None) c.as_slice-current.ensures.value
      (subst (λ (o : Option (Aim × ℕ)). MadeAim c.args.scene.now c.args.lane.now c.as_slice-current.result.now (form_of (term_seen c.args.target.now)) c.push_term.new.draft c.aim_at.new.draft c.push_term.new.accesses c.aim_at.new.accesses c.in_ok-own.own.next o) c.in_default.is c.in_ok-aim.ensures.made);
  stores = (refl, refl);
  same = refl;
}

pub returns-clause-made : goal.returns-clause-made
returns-clause-made c = record {
  middle = c.push_term.new.draft;
  end = c.aim_at.new.draft;
  between = c.push_term.new.accesses;
  behind = c.aim_at.new.accesses;
  own = c.in_ok-own.own.next;
  value = c.in_ok-own.own.value;
  aimed = Some (c.in-Some.aim, c.in-Some.memory);
  term =
      subst (λ (os : List (Option ℕ)). MadeTerm c.args.scene.now c.args.lane.now os (term_seen c.args.value.now) c.args.building.now.draft c.push_term.new.draft c.args.building.now.accesses c.push_term.new.accesses c.args.first c.in_ok-own.own.next c.in_ok-own.own.value)
      c.as_slice-current.ensures.value c.in_ok-own.ensures.made;
  aims =
      subst (λ (os : List (Option ℕ)). MadeAim c.args.scene.now c.args.lane.now os (form_of (term_seen c.args.target.now)) c.push_term.new.draft c.aim_at.new.draft c.push_term.new.accesses c.aim_at.new.accesses c.in_ok-own.own.next (Some (c.in-Some.aim, c.in-Some.memory))) c.as_slice-current.ensures.value
      (subst (λ (o : Option (Aim × ℕ)). MadeAim c.args.scene.now c.args.lane.now c.as_slice-current.result.now (form_of (term_seen c.args.target.now)) c.push_term.new.draft c.aim_at.new.draft c.push_term.new.accesses c.aim_at.new.accesses c.in_ok-own.own.next o) c.in-Some.is c.in_ok-aim.ensures.made);
  stores = (
    c.push_held.new.draft,
    (
      c.in_ok-held.held,
      (
        subst (λ (k : Kind). MadeHeld (term_seen c.args.value.now) k c.in_ok-own.own.value c.aim_at.new.draft c.push_held.new.draft c.in_ok-held.held) c.element_kind.ensures c.in_ok-held.ensures.made,
        (c.in_ok-push_write.ensures.made, c.saturating_add-next.ensures),
      ),
    ),
  );
  same = refl;
}
