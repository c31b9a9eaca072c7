use Rattle.std.proofs.Common.{◌≡◌, ◌-◌, ◌*◌, ◌<◌, ◌^◌, min, if◌then◌else◌, None, get_or, [], ◌∷◌, ◌++◌, ap, sym, ◌∙◌, arith}
use Rattle.dh_ports.proofs.LevelTurns.{as_level, levels_turn, most}
use Rattle.dh_ports.proofs.copies.paths_in.Goals.{then-counts, else-counts}
use Rattle.dh_ports.proofs.copies.paths_in.Goals as goal

pub loop-level-preserved-then-counts-2 : goal.loop-level-preserved-then-counts-2
loop-level-preserved-then-counts-2 c =
    let low : c.loop-level.level - 1 < 2 ^ 63 = omega (arith, c.loop-level.auto.level, c.loop-level-test.element_fits.fits) in
    let share : c.if-counts.push ≡ (if c.access_depends-counts.result then c.loop-level.keys else 0) = elim c.if-counts.branch [
      | then-counts w ↦ w.push-is ∙ ap (λ b. if b then c.loop-level.keys else 0) (sym w.if-counts.true)
      | else-counts w ↦ w.push-is ∙ ap (λ b. if b then c.loop-level.keys else 0) (sym w.if-counts.false)
    ] in
    levels_turn c.args.scopes.now c.args.loops.now c.args.access.now c.args.writes c.requires.few c.loop-level.level (record { entity = None; low = 0; high = 0; factor = 0 }) c.loop-level-test.true c.loop-level.auto.level
    c.loop-level.levels.items c.push.new.self.items c.loop-level.count c.loop-level.keys c.saturating_mul-count.result c.saturating_mul-keys.result c.access_depends-counts.result c.loop-level.invariant (λ bs are. c.access_depends-counts.ensures bs low are)
    (c.in_ok-push.ensures.items ∙ ap (λ s. c.loop-level.levels.items ++ as_level (get_or c.args.loops.now (c.loop-level.level - 1) (record { entity = None; low = 0; high = 0; factor = 0 })).factor c.loop-level.count s ∷ []) share)
    c.saturating_mul-count.ensures
    (c.saturating_mul-keys.ensures ∙ sym (ap (λ b. if b then min (c.loop-level.keys * (get_or c.args.loops.now (c.loop-level.level - 1) (record { entity = None; low = 0; high = 0; factor = 0 })).factor) most else c.loop-level.keys) c.if-counts-2.true))

pub loop-level-preserved : goal.loop-level-preserved
loop-level-preserved c =
    let low : c.loop-level.level - 1 < 2 ^ 63 = omega (arith, c.loop-level.auto.level, c.loop-level-test.element_fits.fits) in
    let share : c.if-counts.push ≡ (if c.access_depends-counts.result then c.loop-level.keys else 0) = elim c.if-counts.branch [
      | then-counts w ↦ w.push-is ∙ ap (λ b. if b then c.loop-level.keys else 0) (sym w.if-counts.true)
      | else-counts w ↦ w.push-is ∙ ap (λ b. if b then c.loop-level.keys else 0) (sym w.if-counts.false)
    ] in
    levels_turn c.args.scopes.now c.args.loops.now c.args.access.now c.args.writes c.requires.few c.loop-level.level (record { entity = None; low = 0; high = 0; factor = 0 }) c.loop-level-test.true c.loop-level.auto.level
    c.loop-level.levels.items c.push.new.self.items c.loop-level.count c.loop-level.keys c.saturating_mul-count.result c.loop-level.keys c.access_depends-counts.result c.loop-level.invariant (λ bs are. c.access_depends-counts.ensures bs low are)
    (c.in_ok-push.ensures.items ∙ ap (λ s. c.loop-level.levels.items ++ as_level (get_or c.args.loops.now (c.loop-level.level - 1) (record { entity = None; low = 0; high = 0; factor = 0 })).factor c.loop-level.count s ∷ []) share)
    c.saturating_mul-count.ensures
    (sym (ap (λ b. if b then min (c.loop-level.keys * (get_or c.args.loops.now (c.loop-level.level - 1) (record { entity = None; low = 0; high = 0; factor = 0 })).factor) most else c.loop-level.keys) c.if-counts-2.false))
