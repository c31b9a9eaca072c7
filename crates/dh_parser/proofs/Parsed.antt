-- What the whole parser answers, by what reading comes to.
use Rattle.std.proofs.Common.{◌≡◌, ℕ, ◌+◌, ◌-◌, ◌<◌, ◌≤◌, ◌++◌, List, [], ◌∷◌, length, take, get_or, Ok, Err, refl, ap, sym, ◌∙◌, subst, arith, length-append}
use Rattle.std.proofs.lemmas.List.{take_at}
use Rattle.dh_lexer.specs.declared.tokens.Token.{Token}
use Rattle.dh_base.specs.declared.faults.PassFault.{PassFault}
use Rattle.dh_base.specs.declared.faults.PassFault.TheVariants as fault
use Rattle.dh_lexer.specs.LexedText.{AreEnded}
use Rattle.dh_tree.specs.declared.trees.programs.Tree.{Tree}
use Rattle.dh_tree.specs.Seen.{program_seen}
use Rattle.dh_parser.specs.declared.parsing.reading.Stop.TheVariants as stop
use Rattle.dh_parser.specs.Grammar.{ProgramText}
use Rattle.dh_parser.specs.Spelling.{spell_program}
use Rattle.dh_parser.specs.Programs.{Spells, OutOfPlace, IsSoundReading, IsPlaced, Parses, rule_at}
use Rattle.dh_parser.specs.Answers.{AnswersBy, AnswersOutcome, SameProgram}
use Rattle.dh_parser.specs.Reading.{Outcome, good, bad, deep, the_program}
use Rattle.dh_parser.proofs.Going.{known}
use Rattle.dh_parser.proofs.SoundPrograms.{program_sound}
use Rattle.dh_parser.proofs.PlacedTokens.{programs_are_placed}

spells_by : (ts rest : List Token) (tree : Tree) (p : ProgramText) (o : Outcome ProgramText) → o ≡ good p rest → SameProgram tree p → IsSoundReading ts o → IsPlaced ts o → Spells (program_seen tree) ts
spells_by ts rest tree p o e s sound placed =
    let h = subst (λ u. IsSoundReading ts u) e sound in
    let none = subst (λ u. IsPlaced ts u) e placed in
    record { text = p; fits = h.0; tokens_are = sym (h.1 ∙ ap (spell_program p) none); tree_is = sym s }

pub parsed : {ts rest : List Token} {tree : Tree} → AreEnded ts → AnswersOutcome SameProgram (Ok tree) rest (the_program ts) → Spells (program_seen tree) ts
parsed {ts = ts} {rest = rest} {tree = tree} ended h =
    let k = known h in
    spells_by ts rest tree k.0 (the_program ts) k.1.1 k.1.0 (program_sound ts) (programs_are_placed ts ended)

-- the token at which reading stopped
pub record Stopped (ts rest : List Token) : Type 0 where
  pub before : List Token
  pub token : Token
  pub after : List Token
  pub out : OutOfPlace ts before token after
  pub rest_is : rest ≡ token ∷ after

stopped_at : (ts rest r : List Token) → rest ≡ r → IsPlaced ts (bad r) → Stopped ts rest
stopped_at ts rest [] e h = absurd h
stopped_at ts rest (t ∷ after) e h = record { before = h.0; token = t; after = after; out = h.1; rest_is = e }

stopped_by : {A : Type 0} (s : A → ProgramText → Type 0) (ts rest : List Token) (o : Outcome ProgramText) → AnswersBy s (Err stop.Here) rest o → IsPlaced ts o → Stopped ts rest
stopped_by s ts rest (good p r) h k = absurd h
stopped_by s ts rest (bad r) h k = stopped_at ts rest r h k
stopped_by s ts rest deep h k = absurd h

pub stopped : {A : Type 0} {s : A → ProgramText → Type 0} {ts rest : List Token} → AreEnded ts → AnswersOutcome s (Err stop.Here) rest (the_program ts) → Stopped ts rest
stopped {s = s} {ts = ts} {rest = rest} ended h = stopped_by s ts rest (the_program ts) h.holds (programs_are_placed ts ended)

difference : (n b k : ℕ) → n ≡ b + (k + 1) → n - (k + 1) ≡ b
difference n b k e = omega arith

lengths : (ts rest : List Token) (s : Stopped ts rest) → length ts ≡ length s.before + length rest
lengths ts rest s = ap length s.out.all ∙ (length-append s.before (s.token ∷ s.after) ∙ ap (λ l. length s.before + length l) (sym s.rest_is))

some_rest : (ts rest : List Token) (s : Stopped ts rest) → length rest ≡ length s.after + 1
some_rest ts rest s = ap length s.rest_is ∙ (omega arith)

-- there is a token at that place
pub stopped_within : {ts rest : List Token} → Stopped ts rest → length ts - length rest < length ts
stopped_within {ts = ts} {rest = rest} s = omega (arith, lengths ts rest s, some_rest ts rest s)

stopped_place : (ts rest : List Token) (s : Stopped ts rest) → length ts - length rest ≡ length s.before
stopped_place ts rest s = omega (arith, lengths ts rest s, some_rest ts rest s)

pub stopped_before : {ts rest : List Token} (s : Stopped ts rest) → take (length ts - length rest) ts ≡ s.before
stopped_before {ts = ts} {rest = rest} s =
    ap (λ n. take n ts) (stopped_place ts rest s) ∙ (ap (λ l. take (length s.before) l) s.out.all ∙ take_at s.before (s.token ∷ s.after) (length s.before) refl)

at_end : (b a : List Token) (t d : Token) → get_or (b ++ (t ∷ a)) (length b) d ≡ t
at_end [] a t d = refl
at_end (u ∷ b) a t d = at_end b a t d

pub stopped_token : {ts rest : List Token} (s : Stopped ts rest) (d : Token) → get_or ts (length ts - length rest) d ≡ s.token
stopped_token {ts = ts} {rest = rest} s d =
    ap (λ n. get_or ts n d) (stopped_place ts rest s) ∙ (ap (λ l. get_or l (length s.before) d) s.out.all ∙ at_end s.before s.after s.token d)

pub stopped_few : {ts rest : List Token} → Stopped ts rest → length rest ≤ length ts
stopped_few {ts = ts} {rest = rest} s = omega (arith, lengths ts rest s)

pub refused : {ts rest : List Token} {f : PassFault} (s : Stopped ts rest) (b : List Token) (t : Token) → f ≡ fault.Refused (rule_at b t) t.place → b ≡ s.before → t ≡ s.token → Parses ts (Err f)
refused s b t e p q = rw e (record {
  before = s.before;
  token = s.token;
  after = s.after;
  out = s.out;
  by_rule = ap (λ x. rule_at x t) p ∙ ap (λ x. rule_at s.before x) q;
  at_place = ap (λ (x : Token). x.place) q;
})
