use Rattle.std.proofs.Common.{◌≡◌, ℕ, List, ap, sym, ◌∙◌}
use Rattle.std.specs.Prelude.{[], ◌∷◌, option_map}
use Rattle.std.proofs.lemmas.Result.{IfOk-weaker}
use Rattle.dh_meaning.specs.CoreOf.{way_of}
use Rattle.dh_ways.specs.Seen.{way_seen}
use Rattle.dh_expressions.specs.Named.{banks_below, banks_reached, banks_seen, known_in}
use Rattle.dh_expressions.proofs.WaysShown.{reached_alone, reached_through}
use Rattle.dh_expressions.proofs.elements.banks_named.Goals as goal

pub returns-in-Some : goal.returns-in-Some
returns-in-Some c =
    IfOk-weaker c.all_banks.result (λ (banks : List (ℕ × ℕ)). banks ≡ banks_below c.banks_behind.result c.args.place 64)
    (λ (banks : List (ℕ × ℕ)). banks ≡ banks_reached (way_of (known_in c.args.scene.now) c.args.of.now) (banks_seen c.args.scene.now c.args.of.now c.args.bank) c.args.bank c.args.place)
    (λ banks made. reached_through c.in-Some.field-0 (way_of (known_in c.args.scene.now) c.args.of.now) c.banks_behind.result (banks_seen c.args.scene.now c.args.of.now c.args.bank) c.args.bank c.args.place banks
    (sym (ap (option_map way_seen) c.in-Some.is) ∙ c.way_in.ensures) c.banks_behind.ensures made) c.all_banks.ensures

pub returns-in-None : goal.returns-in-None
returns-in-None c =
    IfOk-weaker c.one_bank.result (λ (banks : List (ℕ × ℕ)). banks ≡ (c.args.bank, c.args.place) ∷ [])
    (λ (banks : List (ℕ × ℕ)). banks ≡ banks_reached (way_of (known_in c.args.scene.now) c.args.of.now) (banks_seen c.args.scene.now c.args.of.now c.args.bank) c.args.bank c.args.place)
    (λ banks made. reached_alone (way_of (known_in c.args.scene.now) c.args.of.now) (banks_seen c.args.scene.now c.args.of.now c.args.bank) c.args.bank c.args.place banks
    (sym (ap (option_map way_seen) c.in-None.is) ∙ c.way_in.ensures) made) c.one_bank.ensures
