-- How a parser of the code answers, beside the reader of lists: what it gives stands for what is read,
-- and the tokens to come are those that are left.
use Rattle.std.specs.Prelude.{◌≡◌, ℕ, suc, ◌+◌, ◌<◌, Vec, Box, Bool, true, false, List, [], ◌∷◌, ◌++◌, length, map, Option, Some, None, option_map, Result, Ok, Err}
use Rattle.std.specs.Global.{Global}
use Rattle.dh_base.specs.declared.places.Place.{Place}
use Rattle.dh_lexer.specs.declared.tokens.Token.{Token}
use Rattle.dh_value.specs.declared.kinds.Kind.{Kind}
use Rattle.dh_value.specs.declared.operators.Op.{Op}
use Rattle.dh_tree.specs.declared.tables.Dim.{Dim}
use Rattle.dh_tree.specs.declared.trees.expressions.Expr.{Expr}
use Rattle.dh_tree.specs.declared.trees.expressions.Ref.{Ref}
use Rattle.dh_tree.specs.declared.trees.commands.ViewForm.{ViewForm}
use Rattle.dh_tree.specs.declared.trees.commands.Command.{Command}
use Rattle.dh_tree.specs.declared.trees.programs.Decl.{Decl}
use Rattle.dh_tree.specs.declared.trees.programs.DimPlaces.{DimPlaces}
use Rattle.dh_tree.specs.declared.trees.programs.Function.{Function}
use Rattle.dh_tree.specs.declared.trees.programs.Parameter.{Parameter}
use Rattle.dh_tree.specs.declared.trees.programs.Tree.{Tree}
use Rattle.dh_parser.specs.declared.parsing.programs.Item.{Item}
use Rattle.dh_parser.specs.declared.parsing.programs.Item.TheVariants as items
use Rattle.dh_parser.specs.declared.parsing.programs.ItemsRead.{ItemsRead}
use Rattle.dh_parser.specs.declared.parsing.commands.Arms.{Arms}
use Rattle.dh_parser.specs.declared.parsing.commands.Asked.{Asked}
use Rattle.dh_parser.specs.declared.parsing.commands.Beginning as commands
use Rattle.dh_parser.specs.declared.parsing.commands.Beginning.TheVariants as beginnings
use Rattle.dh_tree.specs.declared.trees.commands.CommandForm.{CommandForm}
use Rattle.dh_tree.specs.PlainTrees.{Placed, Unrolled, Term, term, accessed, in_bank, converted, term_then, Action, action, ActionForm, counts, decides, repeats, MaybeAction, Actions, no_actions, action_then, Groups, no_groups, group_then, blocks}
use Rattle.dh_tree.specs.Seen.{term_seen, terms, factor_seen, view_plan, action_form_seen, action_seen, part_seen, groups, maybe_seen, placed, unrolled, formal_seen, declared_seen, defined_seen, program_seen}
use Rattle.dh_parser.specs.declared.parsing.reading.Stop.{Stop}
use Rattle.dh_parser.specs.declared.parsing.reading.Stop.TheVariants as stop
use Rattle.dh_parser.specs.declared.parsing.reading.Mark.{Mark}
use Rattle.dh_parser.specs.declared.parsing.reading.Numeral.{Numeral}
use Rattle.dh_parser.specs.declared.parsing.reading.Reader.{Reader}
use Rattle.dh_parser.specs.declared.parsing.expressions.WrittenRow.{WrittenRow}
use Rattle.dh_parser.specs.declared.parsing.types.WrittenType.{WrittenType}
use Rattle.dh_parser.specs.declared.parsing.types.WrittenPorts.{WrittenPorts}
use Rattle.dh_parser.specs.declared.parsing.types.WrittenBanks.{WrittenBanks}
use Rattle.dh_parser.specs.declared.parsing.types.WrittenDim.{WrittenDim}
use Rattle.dh_parser.specs.declared.parsing.loops.LoopHead.{LoopHead}
use Rattle.dh_parser.specs.declared.parsing.loops.WrittenRange.{WrittenRange}
use Rattle.dh_parser.specs.declared.parsing.views.Factors.{Factors}
use Rattle.dh_parser.specs.declared.parsing.views.Suffixes.{Suffixes}
use Rattle.dh_parser.specs.Grammar.{NameText, NumberText, KindText, ItemsText, FactorText, SuffixText, OffsetText, ViewText, ValueText, SimpleText, BlockText, PartsText, PartText, CompoundText, IfText, ElseText, CombineText, ExprText, AccessText, IndexText, MoreIndicesText, ArgumentsText, PortsText, no_ports, some_ports, BanksText, DimsText, TypeText, DeclaredText, UnrollText, HeadText, ParameterText, ParametersText, ProgramText}
use Rattle.dh_parser.specs.Marks.{comes}
use Rattle.dh_parser.specs.TreesOfTexts.{placed_of, ref_of, text_of_name, bank_word_place, kind_of_text, kind_place, banks_of_text, dimensions_of_text, dimension_places_of_text, shape_of_text, shape_places_of, is_memory_type, declared_kind_of_text, factor_of, joined_terms, term_of, access_of_text, index_of, indices_of, arguments_of, suffix_of, parent_of_view_text, view_of_text, value_of_text, let_written, simple_form, simple_place, block_of_text, parts_of, part_of, compound_of, if_of, else_of, combine_of, combine_place_of, if_place, count_block, count_parts, count_part, count_compound, count_if, count_else, count_combine, formal_of, formals_of, decls_of, functions_of, count_items, body_of, program_of}
use Rattle.dh_parser.specs.Reading.{Outcome, good, bad, the, width_then, ExpressionReader, expression, CastText, TestText, parent_and, the_simple, parameter_text, RangeText, sign_text, sign_at, Beginning, begins_simple, begins_compound, begins_semicolon, begins_nothing}
use Rattle.dh_parser.specs.Parts.{BankText}

abbrev pub AnswersBy : {A B : Type 0} → (B → A → Type 0) → Result B Stop → List Token → Outcome A → Type 0
AnswersBy same (Ok v) rest (good a r) = same v a × (rest ≡ r)
AnswersBy same (Err stop.Here) rest (bad r) = rest ≡ r
AnswersBy same (Err stop.NoMemory) rest o = Unit {0}
AnswersBy same _ rest o = ⊥

-- what is given, with the tokens to come, answers as the outcome says
pub record AnswersOutcome {A B : Type 0} (same : B → A → Type 0) (given : Result B Stop) (rest : List Token) (o : Outcome A) : Type 0 where
  pub holds : AnswersBy same given rest o

-- a parser, from where it stood to where it stands, answers as this reader of lists does
abbrev pub AnswersAs : {A B : Type 0} → (List Token → Outcome A) → (B → A → Type 0) → Result B Stop → Reader → Reader → Type 0
AnswersAs reads same given old new = AnswersOutcome same given new.rest.now (reads old.rest.now)

-- the same of one that numbers the commands that it reads
abbrev pub NumbersAs : {A B : Type 0} → (List Token → Outcome A) → (B → A → ℕ → ℕ → Type 0) → Result B Stop → Reader → Reader → Type 0
NumbersAs reads same given old new = AnswersAs reads (λ v t. same v t old.commands new.commands) given old new

-- the same of one that goes on after a word, at whatever place the word stood
abbrev pub AnswersAfterWord : {A B : Type 0} → (Place → List Token → Outcome A) → (Place → B → A → Type 0) → Result B Stop → Reader → Reader → Type 0
AnswersAfterWord reads same given old new = (word : Place) → AnswersAs (reads word) (same word) given old new

-- some tokens were taken
abbrev pub TookTokens : Reader → Reader → Type 0
TookTokens old new = length new.rest.now < length old.rest.now

-- how many commands there may be in all: those that have begun, and one for each token to come
abbrev pub most_commands : Reader → ℕ
most_commands reader = reader.commands + length reader.rest.now

-- memory is wanting only where a text was read
abbrev pub IfWanting : {A B : Type 0} → Result B Stop → Outcome A → Type 0
IfWanting (Err stop.NoMemory) (good a r) = Unit {0}
IfWanting (Err stop.NoMemory) _ = ⊥
IfWanting _ o = Unit {0}

-- the tokens after a mark, if it came next, and whether it did
abbrev pub Took : Mark → Bool → List Token → List Token → Type 0
Took m true old new = (comes m old ≡ true) × ((p : Place) × (the m old ≡ good p new))
Took m false old new = (comes m old ≡ false) × (new ≡ old)

-- the place of the first token, where there is one
abbrev pub IsFirstTokenPlace : Result Place Stop → List Token → Type 0
IsFirstTokenPlace (Ok p) (t ∷ ts) = p ≡ t.place
IsFirstTokenPlace (Err stop.Here) [] = Unit {0}
IsFirstTokenPlace _ _ = ⊥

-- a number where it stands, in the code and beside it
abbrev pub SameNumber : Numeral → Placed → Type 0
SameNumber n p = (n.value ≡ p.value) × (n.place ≡ p.place)

-- a number is that of its text
abbrev pub SameNumeral : Numeral → NumberText → Type 0
SameNumeral n t = SameNumber n (placed_of t)

abbrev pub SameKind : Kind → KindText → Type 0
SameKind kind t = kind ≡ kind_of_text t

-- the rest of a kind after its word, at whatever place the word stood: a width, of which `kind` makes the kind
abbrev pub AnswersWidth : (Place → Place → NumberText → Place → KindText) → (ℕ → Kind) → Result ℕ Stop → Reader → Reader → Type 0
AnswersWidth text kind given old new = (word : Place) → AnswersAs (width_then (text word)) (λ width k. SameKind (kind width) k) given old new

-- the copies of a loop's body, with the place of their word
abbrev pub SameUnrolled : Numeral → Place → Unrolled → Type 0
SameUnrolled n word u = SameNumber n (placed u.value u.place) × (word ≡ u.word)

-- the same, as they are read of a loop that begins here
abbrev pub SameCopies : Place → Numeral × Place → UnrollText → Type 0
SameCopies start v t = SameUnrolled v.0 v.1 (factor_of start t)

-- the number of ports and the place of its braces, where it is written
abbrev pub SamePorts : Option WrittenPorts → PortsText → Type 0
SamePorts None no_ports = Unit {0}
SamePorts (Some p) (some_ports opener ports closer) = (p.braces ≡ opener) × SameNumber p.number (placed_of ports)
SamePorts _ _ = ⊥

-- the number of banks after a size that stands here, and the place of its word, where it is written
abbrev pub SameBanks : Place → WrittenBanks → BanksText → Type 0
SameBanks size b t = (b.word ≡ bank_word_place t) × SameNumber b.number (banks_of_text size t)

-- a dimension, as what it is put in front of others
abbrev pub SameDim : WrittenDim → (DimsText → DimsText) → Type 0
SameDim d put = (more : DimsText) → (dimensions_of_text (put more) ≡ d.dim ∷ dimensions_of_text more) × (dimension_places_of_text (put more) ≡ d.places ∷ dimension_places_of_text more)

-- dimensions, and the places of their parts
abbrev pub SameDims : List Dim × List DimPlaces → DimsText → Type 0
SameDims d t = (d.0 ≡ dimensions_of_text t) × (d.1 ≡ dimension_places_of_text t)

pub record SameType (w : WrittenType) (t : TypeText) : Type 0 where
  pub shape : w.shape ≡ shape_of_text t
  pub places : w.places ≡ shape_places_of t
  pub memory : w.is_memory ≡ is_memory_type t.ports t.dims

-- a type is that of any text that has these parts and begins here
abbrev pub TypeOfParts : Kind → Place → Option WrittenPorts → List Dim → List DimPlaces → WrittenType → Type 0
TypeOfParts kind place ports dims places made =
    (t : TypeText) → kind ≡ kind_of_text t.kind → kind_place t.kind ≡ place → SamePorts ports t.ports → SameDims (dims, places) t.dims → SameType made t

-- the kind of an iterator, where it is written
abbrev pub SameDeclared : Option Kind → DeclaredText → Type 0
SameDeclared kind t = kind ≡ declared_kind_of_text t

-- what an iterator goes over
pub record SameRange (w : WrittenRange) (t : RangeText) : Type 0 where
  pub declared : w.declared ≡ declared_kind_of_text t.declared
  pub low : SameNumber w.low (placed_of t.low)
  pub high : SameNumber w.high (placed_of t.high)

pub record SameHead (h : LoopHead) (t : HeadText) : Type 0 where
  pub place : h.place ≡ t.word
  pub iterator : h.iterator ≡ ref_of t.iterator
  pub declared : h.declared ≡ declared_kind_of_text t.declared
  pub low : SameNumber h.low (placed_of t.low)
  pub high : SameNumber h.high (placed_of t.high)
  pub factor : SameUnrolled h.factor h.unroll (factor_of t.word t.unroll)

-- an operator of at least this level, if one came next
abbrev pub TookOperator : ℕ → Option Op → List Token → List Token → Type 0
TookOperator k None old new = (sign_at k old ≡ None) × (new ≡ old)
TookOperator k (Some op) old new = (p : Place) × (sign_at k old ≡ Some (sign_text op p new))

-- what is made, where memory suffices
abbrev pub MadeIfMemorySuffices : {B : Type 0} → (B → Type 0) → Result B Stop → Type 0
MadeIfMemorySuffices P (Ok v) = P v
MadeIfMemorySuffices P (Err stop.NoMemory) = Unit {0}
MadeIfMemorySuffices P (Err stop.Here) = ⊥

abbrev pub MadeFromRead : {A B : Type 0} → (A → B → Type 0) → Result A Stop → Result B Stop → Type 0
MadeFromRead P (Ok v) made = MadeIfMemorySuffices (P v) made
MadeFromRead P (Err e) made = made ≡ Err e

-- what is made of what was read; where nothing was read, the refusal of that
pub record MadeOf {A B : Type 0} (P : A → B → Type 0) (read : Result A Stop) (made : Result B Stop) : Type 0 where
  pub holds : MadeFromRead P read made

-- an expression stands for the tree of its text
abbrev pub SameTerm : Expr → ExprText → Type 0
SameTerm e t = term_seen e ≡ term_of t

-- a parser answers with the expression that this reader of lists reads
abbrev pub AnswersTerm : (List Token → Outcome ExprText) → Result Expr Stop → Reader → Reader → Type 0
AnswersTerm reads given old new = AnswersAs reads SameTerm given old new

-- a parser that goes on after this name answers as this reader of lists does, which reads what stands inside
abbrev pub AnswersAfterName : {A B : Type 0} → (ExpressionReader → NameText → List Token → Outcome A) → (B → A → Type 0) → Ref → Result B Stop → Reader → Reader → Type 0
AnswersAfterName reads same name given old new = AnswersAs (reads expression (text_of_name name)) same given old new

-- two expressions joined by an operator
abbrev pub joined_expressions : Op → Expr → Expr → Term
joined_expressions op left right = joined_terms op (term_seen left) (term_seen right)

abbrev pub SameAccess : Expr → AccessText → Type 0
SameAccess e a = term_seen e ≡ access_of_text a

abbrev pub SameIndex : Expr → IndexText → Type 0
SameIndex e i = term_seen e ≡ index_of i

-- the kind to which a cast converts
abbrev pub SameCast : Kind → CastText → Type 0
SameCast kind t = SameKind kind t.kind

-- the cast of an expression, behind the `(` at this place
abbrev pub SameCastOf : Place → Expr → Expr → CastText → Type 0
SameCastOf opening inner e t = term_seen e ≡ term opening None (converted (term_seen inner) (kind_of_text t.kind))

-- the number of a bank
abbrev pub SameBank : Numeral → BankText → Type 0
SameBank n t = SameNumeral n t.bank

-- a bank and a row of it
abbrev pub SameRow : WrittenRow → BankText × IndexText → Type 0
SameRow w t = SameBank w.bank t.0 × SameIndex w.row t.1

-- the element of a memory with these indices
abbrev pub element_seen : Ref → Vec Expr Global → Term
element_seen of indices = term of.place None (accessed of (terms (map term_seen indices.items)))

-- the row of a bank of a memory
abbrev pub written_row_seen : Ref → WrittenRow → Term
written_row_seen of w = term of.place None (in_bank of w.bank.value w.bank.place (term_seen w.row))

abbrev pub SameArguments : Vec Expr Global → ArgumentsText → Type 0
SameArguments es t = map term_seen es.items ≡ arguments_of t

-- the right side of a `let`, where it is written
abbrev pub SameValue : Option Expr → ValueText → Type 0
SameValue value t = option_map term_seen value ≡ value_of_text t

-- indices, of which there is one at least
abbrev pub SameIndices : Vec Expr Global → IndexText × MoreIndicesText → Type 0
SameIndices es t = terms (map term_seen es.items) ≡ term_then (index_of t.0) (indices_of t.1)

-- the factors of a view and their places
abbrev pub SameFactors : Factors → FactorText × List FactorText → Type 0
SameFactors f t = (f.by.items ≡ map (λ (g : FactorText). g.factor.value) (t.0 ∷ t.1)) × (f.by_place.items ≡ map (λ (g : FactorText). g.factor.place) (t.0 ∷ t.1))

-- factors with offsets, and the places of the factors
abbrev pub SameSuffixes : Suffixes → SuffixText × List SuffixText → Type 0
SameSuffixes f t = (map factor_seen f.by.items ≡ map suffix_of (t.0 ∷ t.1)) × (f.by_place.items ≡ map (λ (g : SuffixText). g.factor.place) (t.0 ∷ t.1))

abbrev pub SameOffsets : Vec Expr Global → OffsetText × List OffsetText → Type 0
SameOffsets by t = map term_seen by.items ≡ map (λ (p : OffsetText). term_of p.offset) (t.0 ∷ t.1)

-- a parser answers with the parent of a view and its brackets
abbrev pub AnswersParentAnd : {A B : Type 0} → (List Token → Outcome A) → (B → A × List A → Type 0) → Result (Ref × B) Stop → Reader → Reader → Type 0
AnswersParentAnd one same given old new = AnswersAs (parent_and one) (λ v t. (v.0 ≡ ref_of t.0) × same v.1 t.1) given old new

abbrev pub SameFactor : Numeral → FactorText → Type 0
SameFactor n f = SameNumeral n f.factor

abbrev pub SameOffset : Expr → OffsetText → Type 0
SameOffset e o = SameTerm e o.offset

abbrev pub SameSuffix : Numeral → Expr → SuffixText → Type 0
SameSuffix factor offset s = SameNumber factor (placed_of s.factor) × (term_seen offset ≡ term_of s.offset)

-- the same of a factor and an offset that were read
abbrev pub SameSuffixRead : Numeral × Expr → SuffixText → Type 0
SameSuffixRead v s = SameSuffix v.0 v.1 s

-- the parent of a view and how it shows that
abbrev pub SamePlan : Ref → ViewForm → ViewText → Type 0
SamePlan parent form v = (parent ≡ parent_of_view_text v) × (view_plan form ≡ view_of_text v)

-- a command without blocks, that begins at a place
abbrev pub SameSimple : Place → CommandForm → SimpleText → Type 0
SameSimple place form s = (action_form_seen form ≡ simple_form s) × (simple_place s ≡ place)

-- a parser answers with the command without blocks that comes next, which begins where the parser stood
abbrev pub AnswersSimple : Result CommandForm Stop → Reader → Reader → Type 0
AnswersSimple given old new = (p : Place) → IsFirstTokenPlace (Ok p) old.rest.now → AnswersAs the_simple (SameSimple p) given old new

-- a parser that goes on after the name by which a command begins answers as this reader of lists does
abbrev pub AnswersNamed : (NameText → List Token → Outcome SimpleText) → Ref → Result CommandForm Stop → Reader → Reader → Type 0
AnswersNamed reads name given old new = AnswersAs (reads (text_of_name name)) (SameSimple name.place) given old new

-- the form of a `let` of this name with this type and right side
abbrev pub typed_let_seen : Ref → WrittenType → Option Expr → ActionForm
typed_let_seen name written value = let_written written.is_memory name written.shape written.places (option_map term_seen value)

-- a command without blocks, that has the number `old` and is the only one of its text
abbrev pub SameSimpleCommand : Command → SimpleText → ℕ → ℕ → Type 0
SameSimpleCommand c s old new = (action_seen c ≡ action old (simple_place s) (simple_form s)) × (new ≡ old + 1)

-- a command stands for what its text says, where the commands of the text are numbered from `old` on up to `new`
pub record CommandNumbered (seen told : Action) (old new count : ℕ) : Type 0 where
  pub is : seen ≡ told
  pub counted : new ≡ old + count

-- the same of a block that may lack
pub record MaybeNumbered (seen told : MaybeAction) (old new count : ℕ) : Type 0 where
  pub is : seen ≡ told
  pub counted : new ≡ old + count

-- the same of the commands of a part
pub record PartNumbered (seen told : Actions) (old new count : ℕ) : Type 0 where
  pub is : seen ≡ told
  pub counted : new ≡ old + count

-- the same of the parts of a block
pub record PartsNumbered (seen told : Groups) (old new count : ℕ) : Type 0 where
  pub is : seen ≡ told
  pub counted : new ≡ old + count

abbrev pub SameBlock : Command → BlockText → ℕ → ℕ → Type 0
SameBlock c b old new = CommandNumbered (action_seen c) (block_of_text old b) old new (count_block b)

abbrev pub SameBoxedBlock : Box Command Global → BlockText → ℕ → ℕ → Type 0
SameBoxedBlock c b old new = SameBlock c.value b old new

abbrev pub SameCompound : Command → CompoundText → ℕ → ℕ → Type 0
SameCompound c t old new = CommandNumbered (action_seen c) (compound_of old t) old new (count_compound t)

abbrev pub SameIf : Command → IfText → ℕ → ℕ → Type 0
SameIf c i old new = CommandNumbered (action_seen c) (if_of old i) old new (count_if i)

-- the block of this number, at this place, with these parts
abbrev pub block_seen : ℕ → Place → Vec (Vec Command Global) Global → Action
block_seen id place body = action id place (blocks (groups (map part_seen body.items)))

-- what an `if` or a `while` asks, whose command has the number `old`
pub record SameAsked (a : Asked) (t : Place × TestText) (old new : ℕ) : Type 0 where
  pub number : a.id ≡ old
  pub place : a.place ≡ t.0
  pub test : SameTerm a.test.value t.1.test
  pub counted : new ≡ old + 1

-- the block of this number that holds this command alone
abbrev pub block_around : ℕ → Command → Action
block_around id inner = action id inner.place (blocks (group_then (action_then (action_seen inner) no_actions) no_groups))

-- the block that an `if` after `else` stands for
abbrev pub SameElseIf : Command → IfText → ℕ → ℕ → Type 0
SameElseIf c i old new =
    CommandNumbered (action_seen c) (action old (if_place i) (blocks (group_then (action_then (if_of (suc old) i) no_actions) no_groups))) old new (suc (count_if i))

-- a block that a command may hold
abbrev pub boxed_seen : Option (Box Command Global) → Option Action
boxed_seen held = option_map (λ b. action_seen b.value) held

abbrev pub SameElse : Option (Box Command Global) → ElseText → ℕ → ℕ → Type 0
SameElse held e old new = MaybeNumbered (maybe_seen (boxed_seen held)) (else_of old e) old new (count_else e)

-- the arms of an `if`, in order
abbrev pub arms_with : Box Command Global → Option (Box Command Global) → Arms
arms_with chosen other = record { chosen = chosen; other = other }

-- the arms of an `if`, of which the commands of the first are numbered first
pub record SameArms (arms : Arms) (t : BlockText × ElseText) (old new : ℕ) : Type 0 where
  pub between : ℕ
  pub first : SameBoxedBlock arms.chosen t.0 old between
  pub second : SameElse arms.other t.1 between new

-- an `if` that asks this, with these arms
abbrev pub if_seen : Asked → Arms → Action
if_seen a arms = action a.id a.place (decides (term_seen a.test.value) (action_seen arms.chosen.value) (maybe_seen (boxed_seen arms.other)))

-- a `while` that asks this, with this block
abbrev pub while_seen : Asked → Box Command Global → Action
while_seen a body = action a.id a.place (repeats (term_seen a.test.value) (action_seen body.value))

abbrev pub SameCombine : Option Action → CombineText → ℕ → ℕ → Type 0
SameCombine seen c old new = MaybeNumbered (maybe_seen seen) (combine_of old c) old new (count_combine c)

-- the same with the place of its word, of a loop that begins here
abbrev pub SameCombineAt : Place → Option (Box Command Global) × Place → CombineText → ℕ → ℕ → Type 0
SameCombineAt start v c old new = SameCombine (boxed_seen v.0) c old new × (v.1 ≡ combine_place_of start c)

-- a loop of this number with this head and these blocks
abbrev pub loop_seen : ℕ → LoopHead → Box Command Global → Option (Box Command Global) → Place → Action
loop_seen id head body combine combine_place =
    action id head.place (counts head.iterator head.declared (placed head.low.value head.low.place) (placed head.high.value head.high.place) (unrolled head.factor.value head.factor.place head.unroll)
    (action_seen body.value) (maybe_seen (boxed_seen combine)) combine_place)

abbrev pub SamePart : Vec Command Global → PartText → ℕ → ℕ → Type 0
SamePart cs p old new = PartNumbered (part_seen cs) (part_of old p) old new (count_part p)

abbrev pub SameParts : Vec (Vec Command Global) Global → PartsText → ℕ → ℕ → Type 0
SameParts parts p old new = PartsNumbered (groups (map part_seen parts.items)) (parts_of old p) old new (count_parts p)

-- what begins at a token, in the code and beside it
abbrev pub begins_as : commands.Beginning → Beginning
begins_as beginnings.Simple = begins_simple
begins_as beginnings.Compound = begins_compound
begins_as beginnings.Semicolon = begins_semicolon
begins_as beginnings.Nothing = begins_nothing

-- a declaration, as what it is put in front of other items
pub record SameDecl (d : Decl) (put : ItemsText → ItemsText) : Type 0 where
  pub decls : (more : ItemsText) → decls_of (put more) ≡ declared_seen d ∷ decls_of more
  pub functions : (id : ℕ) (more : ItemsText) → functions_of id (put more) ≡ functions_of id more
  pub counted : (more : ItemsText) → count_items (put more) ≡ count_items more

-- a function, as what it is put in front of other items
pub record SameFunction (f : Function) (put : ItemsText → ItemsText) (old new : ℕ) : Type 0 where
  pub decls : (more : ItemsText) → decls_of (put more) ≡ decls_of more
  pub functions : (more : ItemsText) → functions_of old (put more) ≡ defined_seen f ∷ functions_of new more
  pub counted : (more : ItemsText) → old + count_items (put more) ≡ new + count_items more

abbrev pub SameItem : Option Item → Option (ItemsText → ItemsText) → ℕ → ℕ → Type 0
SameItem None None old new = new ≡ old
SameItem (Some (items.Decl d)) (Some put) old new = SameDecl d put × (new ≡ old)
SameItem (Some (items.Function f)) (Some put) old new = SameFunction f put old new
SameItem _ _ old new = ⊥

pub record SameItems (given : ItemsRead) (t : ItemsText) (old new : ℕ) : Type 0 where
  pub decls : map declared_seen given.decls.items ≡ decls_of t
  pub functions : map defined_seen given.functions.items ≡ functions_of old t
  pub counted : new ≡ old + count_items t

-- the body of a program, which has this number
abbrev pub SameBody : ℕ → Command → PartsText × Place → Type 0
SameBody id c t = action_seen c ≡ body_of id t.0 t.1

abbrev pub SameProgram : Tree → ProgramText → Type 0
SameProgram tree p = program_seen tree ≡ program_of p

abbrev pub SameParameter : Parameter → ParameterText → Type 0
SameParameter p t = formal_seen p ≡ formal_of t

-- the same of one behind a comma
abbrev pub SameFurtherParameter : Parameter → Place × ParameterText → Type 0
SameFurtherParameter p t = SameParameter p t.1

abbrev pub SameParameters : Vec Parameter Global → ParametersText → Type 0
SameParameters ps t = map formal_seen ps.items ≡ formals_of t

-- a parameter is that of any text with this name and this type
abbrev pub ParameterOfParts : Ref → WrittenType → Parameter → Type 0
ParameterOfParts name written made =
    (n : NameText) (colon : Place) (t : TypeText) → name ≡ ref_of n → SameType written t → SameParameter made (parameter_text n colon t)

-- an item behind those of its sort
abbrev pub Kept : Item → ItemsRead → ItemsRead → Type 0
Kept (items.Decl d) old new = (new.decls.items ≡ old.decls.items ++ (d ∷ [])) × (new.functions.items ≡ old.functions.items)
Kept (items.Function f) old new = (new.decls.items ≡ old.decls.items) × (new.functions.items ≡ old.functions.items ++ (f ∷ []))
