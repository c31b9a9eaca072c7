use Rattle.std.proofs.Common.{◌≡◌, ℕ, List, ap, refl, ◌∙◌}
use Rattle.std.specs.Prelude.{[], ◌∷◌}
use Rattle.std.proofs.lemmas.Result.{IfOk-weaker}
use Rattle.dh_tree.specs.Seen.{form_seen}
use Rattle.dh_tree.proofs.SeenTerms.{access_is, binary_is, cast_is, number_is, physical_is, truth_is, variable_is}
use Rattle.dh_meaning.specs.CoreOf.{way_of}
use Rattle.dh_expressions.specs.Named.{banks_reached, banks_seen, banks_told, known_in}
use Rattle.dh_expressions.proofs.WaysShown.{told_access, told_alone}
use Rattle.dh_expressions.proofs.elements.banks_of.Goals as goal

pub returns-in-Access : goal.returns-in-Access
returns-in-Access c =
    IfOk-weaker c.banks_named.result
    (λ (banks : List (ℕ × ℕ)). banks ≡ banks_reached (way_of (known_in c.args.scene.now) c.in-Access.of) (banks_seen c.args.scene.now c.in-Access.of c.args.bank) c.args.bank c.args.place)
    (λ (banks : List (ℕ × ℕ)). banks ≡ banks_told c.args.scene.now (form_seen c.args.access.now.form) c.args.bank c.args.place)
    (λ banks made. told_access c.args.scene.now (form_seen c.args.access.now.form) c.in-Access.of _ c.args.bank c.args.place banks (ap form_seen c.in-Access.is ∙ access_is c.in-Access.of c.in-Access.indices) made) c.banks_named.ensures

pub returns-in-Physical : goal.returns-in-Physical
returns-in-Physical c =
    IfOk-weaker c.one_bank.result (λ (banks : List (ℕ × ℕ)). banks ≡ (c.args.bank, c.args.place) ∷ [])
    (λ (banks : List (ℕ × ℕ)). banks ≡ banks_told c.args.scene.now (form_seen c.args.access.now.form) c.args.bank c.args.place)
    (λ banks made. told_alone c.args.scene.now (form_seen c.args.access.now.form) _ c.args.bank c.args.place banks (ap form_seen c.in-Physical.is ∙ physical_is c.in-Physical.of c.in-Physical.bank c.in-Physical.bank_place c.in-Physical.row) refl made) c.one_bank.ensures

pub returns-in-Number : goal.returns-in-Number
returns-in-Number c =
    IfOk-weaker c.one_bank-in-Number.result (λ (banks : List (ℕ × ℕ)). banks ≡ (c.args.bank, c.args.place) ∷ [])
    (λ (banks : List (ℕ × ℕ)). banks ≡ banks_told c.args.scene.now (form_seen c.args.access.now.form) c.args.bank c.args.place)
    (λ banks made. told_alone c.args.scene.now (form_seen c.args.access.now.form) _ c.args.bank c.args.place banks (ap form_seen c.in-Number.is ∙ number_is c.in-Number.negative c.in-Number.value) refl made) c.one_bank-in-Number.ensures

pub returns-in-Truth : goal.returns-in-Truth
returns-in-Truth c =
    IfOk-weaker c.one_bank-in-Truth.result (λ (banks : List (ℕ × ℕ)). banks ≡ (c.args.bank, c.args.place) ∷ [])
    (λ (banks : List (ℕ × ℕ)). banks ≡ banks_told c.args.scene.now (form_seen c.args.access.now.form) c.args.bank c.args.place)
    (λ banks made. told_alone c.args.scene.now (form_seen c.args.access.now.form) _ c.args.bank c.args.place banks (ap form_seen c.in-Truth.is ∙ truth_is c.in-Truth.value) refl made) c.one_bank-in-Truth.ensures

pub returns-in-Variable : goal.returns-in-Variable
returns-in-Variable c =
    IfOk-weaker c.one_bank-in-Variable.result (λ (banks : List (ℕ × ℕ)). banks ≡ (c.args.bank, c.args.place) ∷ [])
    (λ (banks : List (ℕ × ℕ)). banks ≡ banks_told c.args.scene.now (form_seen c.args.access.now.form) c.args.bank c.args.place)
    (λ banks made. told_alone c.args.scene.now (form_seen c.args.access.now.form) _ c.args.bank c.args.place banks (ap form_seen c.in-Variable.is ∙ variable_is c.in-Variable.of) refl made) c.one_bank-in-Variable.ensures

pub returns-in-Binary : goal.returns-in-Binary
returns-in-Binary c =
    IfOk-weaker c.one_bank-in-Binary.result (λ (banks : List (ℕ × ℕ)). banks ≡ (c.args.bank, c.args.place) ∷ [])
    (λ (banks : List (ℕ × ℕ)). banks ≡ banks_told c.args.scene.now (form_seen c.args.access.now.form) c.args.bank c.args.place)
    (λ banks made. told_alone c.args.scene.now (form_seen c.args.access.now.form) _ c.args.bank c.args.place banks (ap form_seen c.in-Binary.is ∙ binary_is c.in-Binary.op c.in-Binary.left c.in-Binary.right) refl made) c.one_bank-in-Binary.ensures

pub returns-in-Cast : goal.returns-in-Cast
returns-in-Cast c =
    IfOk-weaker c.one_bank-in-Cast.result (λ (banks : List (ℕ × ℕ)). banks ≡ (c.args.bank, c.args.place) ∷ [])
    (λ (banks : List (ℕ × ℕ)). banks ≡ banks_told c.args.scene.now (form_seen c.args.access.now.form) c.args.bank c.args.place)
    (λ banks made. told_alone c.args.scene.now (form_seen c.args.access.now.form) _ c.args.bank c.args.place banks (ap form_seen c.in-Cast.is ∙ cast_is c.in-Cast.inner c.in-Cast.to) refl made) c.one_bank-in-Cast.ensures
