-- The loop over declarations and functions.
use Rattle.std.proofs.Common.{◌≡◌, ℕ, suc, ◌+◌, ◌++◌, true, false, List, [], ◌∷◌, map, Option, Some, None, refl, ap, sym, ◌∙◌, arith}
use Rattle.dh_base.specs.declared.places.Place.{Place}
use Rattle.dh_lexer.specs.declared.tokens.Token.{Token}
use Rattle.dh_lexer.specs.declared.tokens.TokenKind.{TokenKind}
use Rattle.dh_lexer.specs.declared.tokens.TokenKind.TheVariants as kind
use Rattle.dh_tree.specs.declared.trees.programs.Entity.{Entity}
use Rattle.dh_tree.specs.declared.trees.programs.Decl.{Decl}
use Rattle.dh_tree.specs.declared.trees.programs.Function.{Function}
use Rattle.dh_tree.specs.PlainTrees.{Declared, Defined, Formal, Action, Program}
use Rattle.dh_tree.specs.declared.trees.expressions.Ref.{Ref}
use Rattle.dh_tree.specs.declared.tables.Shape.{Shape}
use Rattle.dh_tree.specs.declared.trees.programs.ShapePlaces.{ShapePlaces}
use Rattle.dh_parser.specs.declared.parsing.types.WrittenType.{WrittenType}
use Rattle.dh_tree.specs.Seen.{declared_seen, defined_seen, formal_seen, action_seen}
use Rattle.dh_parser.specs.declared.parsing.programs.ItemsRead.{ItemsRead}
use Rattle.dh_parser.specs.declared.parsing.programs.Item.{Item}
use Rattle.dh_parser.specs.declared.parsing.programs.Item.TheVariants as items
use Rattle.dh_parser.specs.declared.parsing.reading.Mark.TheVariants as mark
use Rattle.dh_parser.specs.Marks.{comes}
use Rattle.dh_parser.specs.Grammar.{NameText, TypeText, BlockText, PartsText, ItemsText, no_items, decl_then, def_then, ParametersText, some_parameters, no_more_parameters, parameter_then}
use Rattle.dh_parser.specs.TreesOfTexts.{ref_of, shape_of_text, formals_of, block_of_text, count_block, decls_of, functions_of, count_items, body_of, program_of}
use Rattle.dh_parser.specs.Answers.{SameItem, Kept, SameDecl, SameFunction, SameItems, SameType, SameBlock}
use Rattle.dh_parser.specs.Reading.{Outcome, good, outcome_bind, the, the_name, the_type, the_block, the_parameter, further_parameter, more_parameters, the_parameters, the_decl, the_def, item_from, the_item, items_from, the_items, the_parts, the_body, program_text, the_program, steps}
use Rattle.dh_tree.specs.declared.trees.commands.Command.{Command}
use Rattle.dh_parser.proofs.WholeBlocks.{parts_is}
use Rattle.dh_parser.proofs.Going.{assoc, same_bind, if_true, if_false}
use Rattle.dh_parser.proofs.BracketLoops.{pushed_map, next_in, all_in}

-- what follows an item
abbrev pub items_after : ℕ → Option (ItemsText → ItemsText) → List Token → Outcome ItemsText
items_after k None r = good no_items r
items_after k (Some put) r = outcome_bind (the_items k r) (λ m q. good (put m) q)

items_by_from : (k : ℕ) (kd : TokenKind) (t : Token) (ts : List Token) → items_from (the_items k) kd t ts ≡ outcome_bind (item_from kd t ts) (items_after k)
items_by_from k kind.Decl t ts = sym (
    assoc (the_decl t.place ts) _ _ ∙ (
    assoc (the_name ts) _ _ ∙ same_bind (the_name ts) _ _ λ n r0.
    assoc (the mark.Colon r0) _ _ ∙ same_bind (the mark.Colon r0) _ _ λ colon r1.
    assoc (the_type r1) _ _ ∙ same_bind (the_type r1) _ _ λ ty r2.
    assoc (the mark.Semicolon r2) _ _))
items_by_from k kind.Def t ts = sym (
    assoc (the_def t.place ts) _ _ ∙ (
    assoc (the_name ts) _ _ ∙ same_bind (the_name ts) _ _ λ n r0.
    assoc (the mark.OpenParen r0) _ _ ∙ same_bind (the mark.OpenParen r0) _ _ λ opener r1.
    assoc (the_parameters r1) _ _ ∙ same_bind (the_parameters r1) _ _ λ ps r2.
    assoc (the mark.Assign r2) _ _ ∙ same_bind (the mark.Assign r2) _ _ λ equal r3.
    assoc (the_block r3) _ _))
items_by_from k _ t ts = refl

pub items_by : (k : ℕ) (ts : List Token) → the_items (suc k) ts ≡ outcome_bind (the_item ts) (items_after k)
items_by k [] = refl
items_by k (t ∷ ts) = items_by_from k t.kind t ts

pub item_at : (all ts : List Token) (t : Token) (k : TokenKind) → all ≡ t ∷ ts → t.kind ≡ k → the_item all ≡ item_from k t ts
item_at all ts t k e f = ap the_item e ∙ ap (λ x. item_from x t ts) f

pub items_turn : (ts new : List Token) (put : ItemsText → ItemsText) → the_item ts ≡ good (Some put) new → (k : ℕ) → the_items (suc k) ts ≡ outcome_bind (the_items k new) (λ m q. good (put m) q)
items_turn ts new put e k = items_by k ts ∙ ap (λ o. outcome_bind o (items_after k)) e

pub items_end : (ts new : List Token) → the_item ts ≡ good None new → (k : ℕ) → the_items (suc k) ts ≡ good no_items new
items_end ts new e k = items_by k ts ∙ ap (λ o. outcome_bind o (items_after k)) e

-- the items so far, and how many commands there were before and after them
pub record ItemsSoFar (start : ℕ) (decls : List Decl) (functions : List Function) (count : ℕ) (put : ItemsText → ItemsText) : Type 0 where
  pub declared : (more : ItemsText) → decls_of (put more) ≡ map declared_seen decls ++ decls_of more
  pub defined : (more : ItemsText) → functions_of start (put more) ≡ map defined_seen functions ++ functions_of count more
  pub counted : (more : ItemsText) → start + count_items (put more) ≡ count + count_items more

pub items_begin : (start : ℕ) (ds : List Decl) (fs : List Function) → ds ≡ [] → fs ≡ [] → ItemsSoFar start ds fs start (λ more. more)
items_begin start ds fs d f = record {
  declared = λ more. ap (λ l. map declared_seen l ++ decls_of more) (sym d);
  defined = λ more. ap (λ l. map defined_seen l ++ functions_of start more) (sym f);
  counted = λ more. refl;
}

pub decl_more : {start : ℕ} {ds new : List Decl} {fs : List Function} {n m : ℕ} {put : ItemsText → ItemsText} (d : Decl) (one : ItemsText → ItemsText)
    → SameDecl d one → m ≡ n → new ≡ ds ++ (d ∷ []) → ItemsSoFar start ds fs n put → ItemsSoFar start new fs m (λ more. put (one more))
decl_more {start = start} {ds = ds} {new = new} {fs = fs} {n = n} {m = m} {put = put} d one s e g so = record {
  declared = λ more. next_in _ _ _ (so.declared (one more) ∙ ap (λ l. map declared_seen ds ++ l) (s.decls more)) (pushed_map ds declared_seen d g) refl;
  defined = λ more. so.defined (one more) ∙ ap (λ l. map defined_seen fs ++ l) (s.functions n more ∙ ap (λ k. functions_of k more) (sym e));
  counted = λ more. so.counted (one more) ∙ (ap (λ k. n + k) (s.counted more) ∙ ap (λ k. k + count_items more) (sym e));
}

pub function_more : {start : ℕ} {ds : List Decl} {fs new : List Function} {n m : ℕ} {put : ItemsText → ItemsText} (f : Function) (one : ItemsText → ItemsText)
    → SameFunction f one n m → new ≡ fs ++ (f ∷ []) → ItemsSoFar start ds fs n put → ItemsSoFar start ds new m (λ more. put (one more))
function_more {start = start} {ds = ds} {fs = fs} {new = new} {n = n} {m = m} {put = put} f one s g so = record {
  declared = λ more. so.declared (one more) ∙ ap (λ l. map declared_seen ds ++ l) (s.decls more);
  defined = λ more. next_in _ _ _ (so.defined (one more) ∙ ap (λ l. map defined_seen fs ++ l) (s.functions more)) (pushed_map fs defined_seen f g) refl;
  counted = λ more. so.counted (one more) ∙ s.counted more;
}

abbrev declares : Ref → Shape → ShapePlaces → Declared
declares n s p = record { name = n; shape = s; shape_places = p }

abbrev defines : Place → Ref → List Formal → Action → Defined
defines w n ps x = record { place = w; name = n; parameters = ps; body = x }

all_counted : (old mid new a k : ℕ) → mid ≡ old → new ≡ mid + a → old + (a + k) ≡ new + k
all_counted old mid new a k e f = omega arith

none_left : (a n : ℕ) → a ≡ n + 0 → n ≡ a
none_left a n e = omega arith

pub items_done : {start : ℕ} {n : ℕ} {put : ItemsText → ItemsText} (given : ItemsRead) → ItemsSoFar start given.decls.items given.functions.items n put → SameItems given (put no_items) start n
items_done given so = record {
  decls = all_in _ (so.declared no_items);
  functions = all_in _ (so.defined no_items);
  counted = none_left _ _ (so.counted no_items);
}

pub decl_made : (d : Decl) (w : WrittenType) (word : Place) (n : NameText) (colon : Place) (t : TypeText) (semicolon : Place) → d.name ≡ ref_of n → SameType w t → d.shape ≡ w.shape → d.shape_places ≡ w.places
    → SameDecl d (λ more. decl_then word n colon t semicolon more)
decl_made d w word n colon t semicolon e s f g = record {
  decls = λ more. ap (λ x. x ∷ decls_of more) (sym (ap (λ r. declares r d.shape d.shape_places) e ∙ (ap (λ r. declares (ref_of n) r d.shape_places) (f ∙ s.shape) ∙ ap (λ r. declares (ref_of n) (shape_of_text t) r) (g ∙ s.places))));
  functions = λ id more. refl;
  counted = λ more. refl;
}

pub function_made : (f : Function) (old mid new : ℕ) (word : Place) (n : NameText) (opener : Place) (ps : ParametersText) (equal : Place) (b : BlockText) → f.place ≡ word → f.name ≡ ref_of n → map formal_seen f.parameters.items ≡ formals_of ps
    → mid ≡ old → SameBlock f.body b mid new → SameFunction f (λ more. def_then word n opener ps equal b more) old new
function_made f old mid new word n opener ps equal b w e p m s = record {
  decls = λ more. refl;
  functions = λ more. ap (λ x. x ∷ functions_of (old + count_block b) more) (sym (ap (λ r. defines r f.name (map formal_seen f.parameters.items) (action_seen f.body)) w
      ∙ (ap (λ r. defines word r (map formal_seen f.parameters.items) (action_seen f.body)) e ∙ (ap (λ r. defines word (ref_of n) r (action_seen f.body)) p
      ∙ ap (λ r. defines word (ref_of n) (formals_of ps) r) (s.is ∙ ap (λ k. block_of_text k b) m)))))
      ∙ ap (λ k. defined_seen f ∷ functions_of k more) (sym (s.counted ∙ ap (λ k. k + count_block b) m));
  counted = λ more. all_counted old mid new (count_block b) (count_items more) m s.counted;
}

pub parameters_go : (ts : List Token) → comes mark.Comma ts ≡ true → (n : ℕ)
    → more_parameters (suc n) ts ≡ outcome_bind (further_parameter ts) (λ a r. outcome_bind (more_parameters n r) (λ more r. good (parameter_then a.0 a.1 more) r))
parameters_go ts e n = if_true (comes mark.Comma ts) _ _ e ∙ sym (
    assoc (the mark.Comma ts) _ _ ∙ same_bind (the mark.Comma ts) _ _ λ comma r0.
    assoc (the_parameter r0) _ _)

pub parameters_end : (ts : List Token) → comes mark.Comma ts ≡ false → (n : ℕ) → more_parameters (suc n) ts ≡ outcome_bind (the mark.CloseParen ts) (λ closer r. good (no_more_parameters closer) r)
parameters_end ts e n = if_false (comes mark.Comma ts) _ _ e

pub some_parameters_is : (ts : List Token) → comes mark.CloseParen ts ≡ false
    → outcome_bind (the_parameter ts) (λ p r. outcome_bind (more_parameters (steps r) r) (λ more r. good (some_parameters p more) r)) ≡ the_parameters ts
some_parameters_is ts e = sym (if_false (comes mark.CloseParen ts) _ _ e)

-- the text of an item that was read
pub item_goes : (item : Item) (i : Option (ItemsText → ItemsText)) (n m : ℕ) → SameItem (Some item) i n m → (put : ItemsText → ItemsText) × ((i ≡ Some put) × SameItem (Some item) (Some put) n m)
item_goes (items.Decl d) None n m h = absurd h
item_goes (items.Function f) None n m h = absurd h
item_goes (items.Decl d) (Some put) n m h = (put, (refl, h))
item_goes (items.Function f) (Some put) n m h = (put, (refl, h))

pub item_none : (i : Option (ItemsText → ItemsText)) (n m : ℕ) → SameItem None i n m → (i ≡ None) × (m ≡ n)
item_none None n m h = (refl, h)
item_none (Some put) n m h = absurd h

pub item_more : {start n m : ℕ} {put : ItemsText → ItemsText} (old new : ItemsRead) (item : Item) (one : ItemsText → ItemsText)
    → SameItem (Some item) (Some one) n m → Kept item old new → ItemsSoFar start old.decls.items old.functions.items n put → ItemsSoFar start new.decls.items new.functions.items m (λ more. put (one more))
item_more old new (items.Decl d) one h k so = rw k.1 (decl_more d one h.0 h.1 k.0 so)
item_more old new (items.Function f) one h k so = rw k.0 (function_more f one h k.1 so)

-- no item more: the numbers stay
pub items_stay : {start n m : ℕ} {ds : List Decl} {fs : List Function} {put : ItemsText → ItemsText} → m ≡ n → ItemsSoFar start ds fs n put → ItemsSoFar start ds fs m put
items_stay e so = rw e so

abbrev pub program_as : List Declared → List Defined → Action → List Entity → Program
program_as ds fs x es = record { decls = ds; functions = fs; body = x; entities = es }

numbers : (old mid k : ℕ) → old ≡ 0 → mid ≡ old + k → mid ≡ k
numbers old mid k e f = omega arith

pub program_made : (given : ItemsRead) (body : Command) (t : ItemsText) (parts : PartsText) (end : Place) (old mid : ℕ) (es : List Entity) → old ≡ 0 → SameItems given t old mid → action_seen body ≡ body_of mid parts end → es ≡ []
    → program_as (map declared_seen given.decls.items) (map defined_seen given.functions.items) (action_seen body) es ≡ program_of (program_text t parts end)
program_made given body t parts end old mid es z s h n =
    ap (λ x. program_as x (map defined_seen given.functions.items) (action_seen body) es) s.decls
    ∙ (ap (λ x. program_as (decls_of t) x (action_seen body) es) (s.functions ∙ ap (λ k. functions_of k t) z)
    ∙ (ap (λ x. program_as (decls_of t) (functions_of 0 t) (action_seen body) x) n
    ∙ ap (λ x. program_as (decls_of t) (functions_of 0 t) x []) (h ∙ ap (λ k. body_of k parts end) (numbers old mid (count_items t) z s.counted))))

-- the reader of programs, by the readers of their parts
pub program_is : (ts : List Token) → the_program ts ≡ outcome_bind (the_items (steps ts) ts) (λ items r. outcome_bind (the_body r) (λ t q. good (program_text items t.0 t.1) q))
program_is ts =
    same_bind (the_items (steps ts) ts) _ _ λ items r.
    ap (λ o. outcome_bind o (λ parts p. outcome_bind (the mark.End p) (λ end q. good (program_text items parts end) q))) (parts_is r)
    ∙ sym (assoc (the_parts the_block (steps r) r) _ _ ∙ same_bind (the_parts the_block (steps r) r) _ _ λ parts p. assoc (the mark.End p) _ _)

pub body_is : (ts mid new : List Token) (parts : PartsText) (end : Place) → the_parts the_block (steps ts) ts ≡ good parts mid → the mark.End mid ≡ good end new → the_body ts ≡ good (parts, end) new
body_is ts mid new parts end e f =
    ap (λ o. outcome_bind o (λ parts p. outcome_bind (the mark.End p) (λ end q. good (parts, end) q))) e ∙ ap (λ o. outcome_bind o (λ end q. good (parts, end) q)) f
