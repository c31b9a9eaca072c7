-- What checking a text comes to at each pass that can end it.
use Rattle.std.proofs.Common.{Bool, ◌≡◌, ℕ, ◌+◌, ◌≤◌, inl, inr, List, [], length, Option, Some, None, Result, Ok, Err, refl, ap, sym, ◌∙◌, subst, arith}
use Rattle.dh_base.specs.declared.faults.PassFault.{PassFault}
use Rattle.dh_base.specs.declared.faults.PassFault.TheVariants as pass
use Rattle.dh_base.specs.declared.limits.Excess.{Excess}
use Rattle.dh_base.specs.declared.places.Place.{Place}
use Rattle.dh_base.specs.declared.rules.Rule.{Rule}
use Rattle.dh_lexer.specs.declared.tokens.Token.{Token}
use Rattle.dh_lexer.specs.LexedText.{HasTokens, Lexed, AreEnded}
use Rattle.dh_parser.specs.Programs.{Parses, Spells, rule_at}
use Rattle.dh_parser.proofs.TextsSound.{texts_are_sound}
use Rattle.dh_tree.specs.PlainTrees.{Program}
use Rattle.dh_tree.specs.Written.{IsOfText}
use Rattle.dh_check.specs.declared.checking.CheckFault.{CheckFault}
use Rattle.dh_check.specs.declared.checking.CountedProgram.{CountedProgram}
use Rattle.dh_check.specs.declared.checking.CheckFault.TheVariants as fault
use Rattle.dh_tree.specs.Ready.{most_tokens}
use Rattle.dh_check.specs.Ready.{of_pass, Stops, TellsTree, TellsText}
use Rattle.dh_check.specs.Verdicts.{Verdict, refuses, exceeds, tokens_excess, JudgedTree, JudgedTokens, IsVerdict}
use Rattle.dh_check.proofs.OneVerdict.{is_verdict}

pub no_tokens : (text : List ℕ) (e : PassFault) → Lexed text (Err e) → Stops (λ ports v. IsVerdict ports text v) (of_pass e)
no_tokens text pass.NoMemory h = λ ports. tt
no_tokens text (pass.Refused rule place) h = λ ports. is_verdict ports text (refuses rule place) (inl (place, (h.1.0, ap (λ r. refuses r place) h.0)))

-- the passes over the tokens `ts`; `l` are these as the code holds them
judged_tokens : (ports : Bool) (text : List ℕ) (ts l : List Token) (o : Option Excess) (v : Verdict) → l ≡ ts → HasTokens text ts → tokens_excess l ≡ o → JudgedTokens ports l o v → IsVerdict ports text v
judged_tokens ports text ts l o v same has e h =
    let P : Option Excess → Type 0 = λ x. JudgedTokens ports l x v in
    is_verdict ports text v (inr (l, (subst (λ (x : List Token). HasTokens text x) (sym same) has, subst P (sym e) h)))

pub tokens_exceed : (text : List ℕ) (ts l : List Token) (x : Excess) → l ≡ ts → HasTokens text ts → tokens_excess l ≡ Some x
    → Stops (λ ports v. IsVerdict ports text v) (fault.TooLarge x.limit x.count)
tokens_exceed text ts l x same has e = λ ports. judged_tokens ports text ts l (Some x) (exceeds x) same has e refl

pub token_refused : (text : List ℕ) (ts l : List Token) (f : PassFault) → l ≡ ts → HasTokens text ts → tokens_excess l ≡ None → Parses l (Err f)
    → Stops (λ ports v. IsVerdict ports text v) (of_pass f)
token_refused text ts l pass.NoMemory same has e h = λ ports. tt
token_refused text ts l (pass.Refused rule place) same has e h =
    λ ports. judged_tokens ports text ts l None (refuses rule place) same has e (inl (record {
      before = h.before;
      token = h.token;
      after = h.after;
      out_of_place = h.out;
      verdict = ap (λ r. refuses r place) h.by_rule ∙ ap (λ at. refuses (rule_at h.before h.token) at) h.at_place;
    }))

tree_verdict : (ports : Bool) (text : List ℕ) (ts l : List Token) (p : Program) (v : Verdict) → l ≡ ts → HasTokens text ts → tokens_excess l ≡ None → Spells p l → JudgedTree ports p v → IsVerdict ports text v
tree_verdict ports text ts l p v same has e spells h = judged_tokens ports text ts l None v same has e (inr (p, (spells, h)))

pub tells_text : (text : List ℕ) (ts l : List Token) (p : Program) (r : Result CountedProgram CheckFault) → l ≡ ts → HasTokens text ts → tokens_excess l ≡ None → Spells p l → TellsTree p r
    → TellsText text r
tells_text text ts l p (Ok c) same has e spells h = (h.0, λ ports v j. tree_verdict ports text ts l p v same has e spells (h.1 ports v j))
tells_text text ts l p (Err (fault.Refused rule place)) same has e spells h = λ ports. tree_verdict ports text ts l p _ same has e spells (h ports)
tells_text text ts l p (Err (fault.TooLarge limit count)) same has e spells h = λ ports. tree_verdict ports text ts l p _ same has e spells (h ports)
tells_text text ts l p (Err fault.NoMemory) same has e spells h = λ ports. tt

-- a number of tokens within a greater one
wider_text : (n m : ℕ) (p : Program) → n ≤ m → IsOfText n p → IsOfText m p
wider_text n m p within h = record {
  decls = h.decls;
  locals = h.locals;
  first = h.first;
  numbered = h.numbered;
  names = let k = h.names in omega (arith, k, within);
  widths = h.widths;
  targets = h.targets;
  numbers = h.numbers;
}

few_tokens : (text : List ℕ) (ts l : List Token) → l ≡ ts → length text ≤ 1048576 → length ts ≤ length text + 1 → length l ≤ most_tokens
few_tokens text ts l same within few =
    let e : length l ≡ length ts = ap length same in
    omega (arith, e, few, within)

pub of_text : (text : List ℕ) (ts l : List Token) (p : Program) → l ≡ ts → length text ≤ 1048576 → length ts ≤ length text + 1 → AreEnded ts → Spells p l → IsOfText most_tokens p
of_text text ts l p same within few ended spells =
    wider_text (length l) most_tokens p (few_tokens text ts l same within few) (texts_are_sound p l spells (subst (λ (x : List Token). AreEnded x) (sym same) ended))
