-- Copies by lists of flags and spans are those of where the access stands: flags and spans tell the same leaders,
-- banks and groups.
use Rattle.std.proofs.Common.{◌≡◌, ℕ, ◌+◌, ◌-◌, ◌^◌, ◌<◌, Bool, List, ap, ◌∙◌, subst, arith, length}
use Rattle.std.specs.Prelude.{min}
use mathlib.Core.Path.{fun_ext}
use Rattle.dh_base.specs.declared.places.Place.{Place}
use Rattle.dh_tree.specs.PlainTrees.{TermForm}
use Rattle.dh_tree.specs.Seen.{program_seen}
use Rattle.dh_expressions.specs.declared.banks.BankSpan.{BankSpan}
use Rattle.dh_expressions.specs.declared.copies.AccessAt.{AccessAt}
use Rattle.dh_expressions.specs.declared.drafts.Draft.{Draft}
use Rattle.dh_expressions.specs.declared.scenes.Around.{Around}
use Rattle.dh_expressions.specs.declared.scenes.Scene.{Scene}
use Rattle.dh_expressions.specs.Copying.{TellsCountedLevels, HasScopes, MakesCopiesBy, banks_by, depends_at, groups_by, leaders_by}
use Rattle.dh_expressions.specs.Levels.{is_counted_level, leader_number, parts_from}
use Rattle.dh_expressions.specs.Named.{known_in, shifts_on, way_named}
use Rattle.dh_expressions.specs.Numbers.{narrowed}
use Rattle.dh_expressions.specs.ReachedBanks.{TellsBank, bank_by, spans_number}
use Rattle.dh_expressions.specs.Standings.{standing_at}
use Rattle.dh_expressions.specs.Touching.{MakesCopies}
use Rattle.dh_expressions.proofs.PathLeaders.{parts_same}

narrowed_same : (a b : ℕ) → min a (2 ^ 64 - 1) ≡ min b (2 ^ 64 - 1) → narrowed a ≡ narrowed b
narrowed_same a b e = omega (arith, e)

pub copies_stand : (scene : Scene) (around : Around) (memory : ℕ) (place : Place) (form : TermForm) (writes : Bool) (old new : Draft) (after : List ℕ)
    (counts flags : List Bool) (spans extents : List BankSpan) (own shifts : ℕ) (copies : List AccessAt) → flags ≡ counts → extents ≡ spans → shifts ≡ shifts_on (way_named (known_in scene) form)
    → TellsCountedLevels scene (length around.levels.now) form writes counts → TellsBank scene around.levels.now memory form spans own
    → MakesCopiesBy old new after around.guards.now (leaders_by around.levels.now flags) (banks_by extents around.levels.now own) (groups_by around.levels.now shifts) copies
    → MakesCopies old new scene around after (standing_at scene around memory place form writes) copies
copies_stand scene around memory place form writes old new after counts flags spans extents own shifts copies same alike grouped c tells m = record {
  adds = λ scopes low. (stood scopes low).adds;
  extends = m.extends;
  quiet = m.quiet;
  none = m.none;
  are = λ scopes low x f b. (stood scopes low).are x f b;
}
  where
    bank_is : (path : ℕ) → banks_by extents around.levels.now own path ≡ narrowed (bank_by (program_seen scene.program.now) (way_named (known_in scene) form) around.levels.now memory form path)
    bank_is path = ap (λ ss. narrowed (spans_number ss around.levels.now own path)) alike ∙ narrowed_same _ _ (tells path)

    leader_is : HasScopes scene → length around.levels.now < 2 ^ 63 → (path : ℕ) → leaders_by around.levels.now flags path ≡ leader_number around.levels.now (depends_at scene form writes) path
    leader_is scopes low path =
        ap (λ fs. min (parts_from around.levels.now (is_counted_level fs) 0 path) path) same
        ∙ ap (λ n. min n path) (parts_same around.levels.now (is_counted_level counts) (depends_at scene form writes) 0 path
        (λ level from within. c.each scopes level (less level within) (let w = less level within in omega (arith, w, low))))
      where
        less : (level : ℕ) → level < 0 + length around.levels.now → level < length around.levels.now
        less level w = omega (arith, w)

    stood : HasScopes scene → length around.levels.now < 2 ^ 63 → MakesCopiesBy old new after around.guards.now (standing_at scene around memory place form writes).leader (standing_at scene around memory place form writes).bank (λ path. groups_by around.levels.now (shifts_on (way_named (known_in scene) form)) path) copies
    stood scopes low =
        subst (λ (leader : ℕ → ℕ). MakesCopiesBy old new after around.guards.now leader (standing_at scene around memory place form writes).bank (λ path. groups_by around.levels.now (shifts_on (way_named (known_in scene) form)) path) copies) (fun_ext (λ path. leader_is scopes low path))
        (subst (λ (bank : ℕ → ℕ). MakesCopiesBy old new after around.guards.now (leaders_by around.levels.now flags) bank (λ path. groups_by around.levels.now (shifts_on (way_named (known_in scene) form)) path) copies) (fun_ext (λ path. bank_is path))
        (subst (λ (n : ℕ). MakesCopiesBy old new after around.guards.now (leaders_by around.levels.now flags) (banks_by extents around.levels.now own) (groups_by around.levels.now n) copies) grouped m))
