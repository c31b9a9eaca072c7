-- The multiplications that are counted in the tree are those of the program's expressions and commands.
use Rattle.std.proofs.Common.{◌≡◌, ◌+◌, ℕ, List, [], ◌∷◌, Option, Some, None, refl, ap, ◌∙◌, arith}
use Rattle.dh_value.specs.declared.kinds.Kind.{Kind}
use Rattle.dh_value.specs.declared.kinds.Kind.TheVariants as kind
use Rattle.dh_value.specs.declared.operators.Op.{Op}
use Rattle.dh_value.specs.declared.operators.Op.TheVariants as op
use Rattle.dh_tree.specs.Indices.{form_of}
use Rattle.dh_tree.specs.PlainTrees as plain
use Rattle.dh_tree.specs.PlainTrees.{Action, action, lets, lets_memory, views, assigns, stores, reduces, calls, blocks, decides, repeats, counts, MaybeAction, no_action, one_action, Actions, no_actions, action_then, Groups, no_groups, group_then}
use Rattle.dh_tree.specs.Seen.{terms}
use Rattle.dh_tree.specs.ViewOffsets.{offsets_of}
use Rattle.dh_meaning.specs.AccessNumbers.{accesses_of, part_accesses, term_accesses}
use Rattle.dh_meaning.specs.Core.{CoreCommands, CoreTerm, CoreTerms, no_commands, no_terms, term_and, variable}
use Rattle.dh_meaning.specs.CoreOf.{Known, core_action, core_groups, core_other, core_part, core_term, core_terms, depth_of, entity_number, extended, extended_both, kept_by, kept_terms, kind_of, operation_of, store_to, target_to, terms_both, way_of}
use Rattle.dh_meaning.specs.Ways.{Hidden, Way, hidden_in}
use Rattle.dh_plan.specs.DoneProgram.{command_products, commands_products, product_of, target_products, term_products, terms_products}
use Rattle.dh_laid.specs.LaidNumbers.{AreStraight, AreStraightGroups, IsAccessForm, IsStraightAction, IsStraightOther}
use Rattle.dh_laid.specs.LaidProducts.{CommandsMultiply, GroupsMultiply, TermsMultiply, action_products, aim_products, all_products_in, groups_products, offset_products, other_products, part_products, products_in}

extended_products : (k : Kind) (t : CoreTerm) → term_products (extended k t) ≡ term_products t
extended_products kind.Bool t = refl
extended_products (kind.Unsigned w) t = refl
extended_products (kind.Signed w) t = refl

sums : (o a b c d : ℕ) → a ≡ c → b ≡ d → o + (a + b) ≡ o + (c + d)
sums o a b c d h k = omega (arith, h, k)

both_products : (o : Op) (j k : Kind) (l r : CoreTerm) → term_products (extended_both o j k l r) ≡ product_of o + (term_products l + term_products r)
both_products o j k l r = sums (product_of o) _ _ (term_products l) (term_products r) (extended_products _ l) (extended_products _ r)

operation_products : (o : Op) (j k : Kind) (l r : CoreTerm) → term_products (operation_of o j k l r) ≡ product_of o + (term_products l + term_products r)
operation_products op.Shl j k l r = refl
operation_products op.Shr j k l r = refl
operation_products op.Both j k l r = refl
operation_products op.Either j k l r = refl
operation_products op.Add j k l r = both_products op.Add j k l r
operation_products op.Sub j k l r = both_products op.Sub j k l r
operation_products op.Mul j k l r = both_products op.Mul j k l r
operation_products op.And j k l r = both_products op.And j k l r
operation_products op.Or j k l r = both_products op.Or j k l r
operation_products op.Xor j k l r = both_products op.Xor j k l r
operation_products op.Lt j k l r = both_products op.Lt j k l r
operation_products op.Gt j k l r = both_products op.Gt j k l r
operation_products op.Le j k l r = both_products op.Le j k l r
operation_products op.Ge j k l r = both_products op.Ge j k l r
operation_products op.Eq j k l r = both_products op.Eq j k l r
operation_products op.Ne j k l r = both_products op.Ne j k l r

two : (a b c d : ℕ) → a ≡ c → b ≡ d → a + b ≡ c + d
two a b c d h k = omega (arith, h, k)

none_more : (n : ℕ) → n ≡ 0 → 0 + n ≡ 0
none_more n e = omega (arith, e)

-- offsets that are kept multiply nothing
kept_none : (hs : List Hidden) → terms_products (kept_terms hs) ≡ 0
kept_none [] = refl
kept_none (h ∷ hs) = none_more (terms_products (kept_terms hs)) (kept_none hs)

behind_none : (ts more : CoreTerms) → terms_products more ≡ 0 → terms_products (terms_both ts more) ≡ terms_products ts
behind_none no_terms more none = none
behind_none (term_and t ts) more none = ap (λ (i : ℕ). term_products t + i) (behind_none ts more none)

way_products : (w : Option Way) (ts : CoreTerms) → target_products (target_to w ts) ≡ terms_products ts
way_products None ts = refl
way_products (Some w) ts = behind_none ts (kept_terms w.hidden) (kept_none w.hidden)

module _ (known : Known) where
  mutual
    term_same : (n : ℕ) (t : plain.Term) → term_products (core_term known n t) ≡ products_in t
    term_same n (plain.term place k (plain.number negative z)) = refl
    term_same n (plain.term place k (plain.truth_value b)) = refl
    term_same n (plain.term place k (plain.named r)) = refl
    term_same n (plain.term place k (plain.accessed r ts)) = way_products (way_of known r) (core_terms known n ts) ∙ terms_same n ts
    term_same n (plain.term place k (plain.in_bank r bank at row)) = term_same n row
    term_same n (plain.term place k (plain.applied o l r)) =
        operation_products o _ _ (core_term known n l) (core_term known (n + term_accesses l) r)
        ∙ sums (product_of o) (term_products (core_term known n l)) (term_products (core_term known (n + term_accesses l) r)) (products_in l) (products_in r) (term_same n l) (term_same (n + term_accesses l) r)
    term_same n (plain.term place k (plain.converted inner to)) = term_same n inner

    terms_same : (n : ℕ) (ts : plain.Terms) → terms_products (core_terms known n ts) ≡ all_products_in ts
    terms_same n plain.no_terms = refl
    terms_same n (plain.term_then t ts) =
        two (term_products (core_term known n t)) (terms_products (core_terms known (n + term_accesses t) ts)) (products_in t) (all_products_in ts) (term_same n t) (terms_same (n + term_accesses t) ts)

  store_same : (n : ℕ) (target : plain.Term) (value : CoreTerm) → IsAccessForm (form_of target) → command_products (store_to known n target value) ≡ term_products value + aim_products (form_of target)
  store_same n (plain.term place k (plain.accessed r ts)) value is = ap (λ (i : ℕ). term_products value + i) (way_products (way_of known r) (core_terms known n ts) ∙ terms_same n ts)
  store_same n (plain.term place k (plain.in_bank r bank at row)) value is = ap (λ (i : ℕ). term_products value + i) (term_same n row)
  store_same n (plain.term place k (plain.number negative z)) value is = absurd is
  store_same n (plain.term place k (plain.truth_value b)) value is = absurd is
  store_same n (plain.term place k (plain.named r)) value is = absurd is
  store_same n (plain.term place k (plain.applied o l r)) value is = absurd is
  store_same n (plain.term place k (plain.converted inner to)) value is = absurd is

  one_more : (a b c : ℕ) → a ≡ b → a + c ≡ b + c
  one_more a b c h = omega (arith, h)

  fold_sum : (whole o v c p : ℕ) → whole ≡ o + (0 + v) → v ≡ p → whole + c ≡ (o + p) + c
  fold_sum whole o v c p h k = omega (arith, h, k)

  store_sum : (whole v aim p c : ℕ) → whole ≡ v + aim → v ≡ p → whole + c ≡ (p + aim) + c
  store_sum whole v aim p c h k = omega (arith, h, k)

  if_sum : (t a b c p q r : ℕ) → t ≡ p → a ≡ q + 0 → b ≡ r → (t + (a + b)) + c ≡ (p + (q + r)) + c
  if_sum t a b c p q r h k l = omega (arith, h, k, l)

  none_sum : (n : ℕ) → n ≡ 0 + n
  none_sum n = omega arith

  then_sum : (whole a b more c : ℕ) → whole ≡ a + more → more ≡ b + c → whole ≡ (a + b) + c
  then_sum whole a b more c h k = omega (arith, h, k)

  drop_none : (whole p : ℕ) → whole ≡ p + 0 → whole ≡ p
  drop_none whole p h = omega (arith, h)

  -- offsets that variables keep, and those that none keeps
  pub kept_products : (hs : List Hidden) (n : ℕ) (ts : plain.Terms) (rest : CoreCommands) → commands_products (kept_by hs (core_terms known n ts) rest) ≡ offset_products hs ts + commands_products rest
  kept_products [] n plain.no_terms rest = none_sum (commands_products rest)
  kept_products [] n (plain.term_then t ts) rest = none_sum (commands_products rest)
  kept_products (h ∷ hs) n plain.no_terms rest = none_sum (commands_products rest)
  kept_products (h ∷ hs) n (plain.term_then t ts) rest = one_more (terms_products (core_terms known n (plain.term_then t ts))) (all_products_in (plain.term_then t ts)) (commands_products rest) (terms_same n (plain.term_then t ts))

  mutual
    action_same : (n : ℕ) (a : Action) (rest : CoreCommands) → IsStraightAction a → commands_products (core_action known n a rest) ≡ action_products known a + commands_products rest
    action_same n (action id place (lets name declared (Some value))) rest is = one_more _ (products_in value) (commands_products rest) (term_same n value)
    action_same n (action id place (lets name declared None)) rest is = refl
    action_same n (action id place (assigns target value)) rest is = one_more _ (products_in value) (commands_products rest) (term_same n value)
    action_same n (action id place (stores target value)) rest is =
        store_sum (command_products (store_to known (n + term_accesses value) target (core_term known n value))) (term_products (core_term known n value)) (aim_products (form_of target)) (products_in value) (commands_products rest)
        (store_same (n + term_accesses value) target (core_term known n value) is) (term_same n value)
    action_same n (action id place (reduces target o value)) rest is =
        fold_sum _ (product_of o) (term_products (core_term known n value)) (commands_products rest) (products_in value)
        (operation_products o _ _ (variable (kind_of known target) (depth_of known target) (entity_number target.entity)) (core_term known n value)) (term_same n value)
    action_same n (action id place (decides test chosen other)) rest is =
        if_sum (term_products (core_term known n test)) (commands_products (core_action known (n + term_accesses test) chosen no_commands))
        (commands_products (core_other known (n + term_accesses test + accesses_of chosen) other)) (commands_products rest) (products_in test) (action_products known chosen) (other_products known other) (term_same n test)
        (action_same (n + term_accesses test) chosen no_commands is.0) (other_same (n + term_accesses test + accesses_of chosen) other is.1)
    action_same n (action id place (blocks body)) rest is = groups_same n body rest is
    action_same n (action id place (lets_memory name shape shape_places value)) rest is = none_sum (commands_products rest)
    action_same n (action id place (views name parent form)) rest is =
        kept_products (hidden_in (way_of known name)) n (terms (offsets_of form)) rest
    action_same n (action id place (calls function arguments)) rest is = none_sum (commands_products rest)
    action_same n (action id place (repeats test body)) rest is = absurd is
    action_same n (action id place (counts iterator declared low high factor body combine combine_place)) rest is = absurd is

    other_same : (n : ℕ) (other : MaybeAction) → IsStraightOther other → commands_products (core_other known n other) ≡ other_products known other
    other_same n no_action is = refl
    other_same n (one_action a) is = drop_none (commands_products (core_action known n a no_commands)) (action_products known a) (action_same n a no_commands is)

    part_same : (n : ℕ) (part : Actions) (rest : CoreCommands) → AreStraight part → commands_products (core_part known n part rest) ≡ part_products known part + commands_products rest
    part_same n no_actions rest is = none_sum (commands_products rest)
    part_same n (action_then a behind) rest is =
        then_sum (commands_products (core_part known n (action_then a behind) rest)) (action_products known a) (part_products known behind) (commands_products (core_part known (n + accesses_of a) behind rest)) (commands_products rest)
        (action_same n a (core_part known (n + accesses_of a) behind rest) is.0) (part_same (n + accesses_of a) behind rest is.1)

    groups_same : (n : ℕ) (body : Groups) (rest : CoreCommands) → AreStraightGroups body → commands_products (core_groups known n body rest) ≡ groups_products known body + commands_products rest
    groups_same n no_groups rest is = none_sum (commands_products rest)
    groups_same n (group_then part behind) rest is =
        then_sum (commands_products (core_groups known n (group_then part behind) rest)) (part_products known part) (groups_products known behind) (commands_products (core_groups known (n + part_accesses part) behind rest)) (commands_products rest)
        (part_same n part (core_groups known (n + part_accesses part) behind rest) is.0) (groups_same (n + part_accesses part) behind rest is.1)

pub terms_multiply : TermsMultiply
terms_multiply known n t = term_same known n t

pub commands_multiply : CommandsMultiply
commands_multiply known n a rest is = action_same known n a rest is

pub groups_multiply : GroupsMultiply
groups_multiply known n body rest is = groups_same known n body rest is
