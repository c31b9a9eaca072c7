-- A text comes to one verdict: it has one list of tokens or one place where it has none, these are
-- spelled by one tree or have one token out of place, and of each pass one breach is the least.
use Rattle.std.proofs.Common.{◌≡◌, inl, inr, Bool, true, false, List, Option, Some, None, ap, sym, ◌∙◌, subst}
use Rattle.dh_base.specs.declared.limits.Excess.{Excess}
use Rattle.dh_base.specs.declared.rules.Rule.TheVariants.{Lex}
use Rattle.dh_lexer.specs.declared.tokens.Token.{Token}
use Rattle.dh_lexer.proofs.CutOnce.{one_list, one_breach, not_both}
use Rattle.dh_parser.specs.Programs.{rule_at}
use Rattle.dh_parser.proofs.AgainPrograms.{one_tree}
use Rattle.dh_parser.proofs.OnePlace.{one_place, spelled_in_place}
use Rattle.dh_tree.specs.declared.breaches.Breach.{Breach}
use Rattle.dh_tree.specs.PlainTrees.{Program}
use Rattle.dh_tree.specs.Breaches.{breaches_of}
use Rattle.dh_tree.specs.Kinds.{typed}
use Rattle.dh_tree.specs.KindBreaches.{kind_breaches}
use Rattle.dh_tree.specs.Excesses.{first_excess}
use Rattle.dh_tree.specs.Placements.{placement_breaches}
use Rattle.dh_tree.specs.Resolved.{resolved}
use Rattle.dh_tree.specs.ViewBreaches.{shapes_breaches_of}
use Rattle.dh_tree.proofs.FirstBreaches.{least_is_one, least_not_none}
use Rattle.dh_ports.proofs.PlacesOnce.{one_first, none_first}
use Rattle.dh_tree.specs.Forms.{unbuilt_forms}
use Rattle.dh_check.specs.Verdicts.{Verdict, refuses, tokens_excess, Passes, JudgedPorts, JudgedLast, JudgedLimits, JudgedTyped, JudgedTree, JudgedToken, JudgedTokens, Judged, IsVerdict}

-- of two verdicts one is possible
abbrev OneOf : (Verdict → Type 0) → Type 0
OneOf P = (v w : Verdict) → P v → P w → v ≡ w

passes_once : (bs : List Breach) (next : Verdict → Type 0) → OneOf next → OneOf (λ v. Passes bs v (next v))
passes_once bs next once v w (inl (a, (h, e))) (inl (b, (k, f))) = e ∙ (ap (λ (c : Breach). refuses c.rule c.place) (least_is_one bs a b h k) ∙ sym f)
passes_once bs next once v w (inl (a, (h, e))) (inr (none, m)) = absurd (least_not_none bs a h none)
passes_once bs next once v w (inr (none, m)) (inl (b, (k, f))) = absurd (least_not_none bs b k none)
passes_once bs next once v w (inr (none, m)) (inr (none', n)) = once v w m n

ports_once : (p : Program) → OneOf (JudgedPorts p)
ports_once p v w (inl (a, (h, e))) (inl (b, (k, f))) = e ∙ (ap (λ (c : Breach). refuses c.rule c.place) (one_first p a b h k) ∙ sym f)
ports_once p v w (inl (a, (h, e))) (inr (kept, f)) = absurd (none_first p a kept h)
ports_once p v w (inr (kept, e)) (inl (b, (k, f))) = absurd (none_first p b kept k)
ports_once p v w (inr (kept, e)) (inr (kept', f)) = e ∙ sym f

last_once : (ports : Bool) (p : Program) → OneOf (JudgedLast ports p)
last_once true p v w e f = ports_once p v w e f
last_once false p v w e f = e ∙ sym f

limits_once : (ports : Bool) (p : Program) (o : Option Excess) → OneOf (JudgedLimits ports p o)
limits_once ports p (Some x) v w e f = e ∙ sym f
limits_once ports p None v w e f = passes_once (placement_breaches p) (λ v. JudgedLast ports p v) (last_once ports p) v w e f

typed_once : (ports : Bool) (p : Program) → OneOf (JudgedTyped ports p)
typed_once ports p =
    passes_once (kind_breaches p) (λ v. Passes (shapes_breaches_of p) v (JudgedLimits ports p (first_excess p) v))
    (passes_once (shapes_breaches_of p) (λ v. JudgedLimits ports p (first_excess p) v) (limits_once ports p (first_excess p)))

tree_once : (ports : Bool) (p : Program) → OneOf (JudgedTree ports p)
tree_once ports p =
    passes_once (unbuilt_forms p) (λ v. Passes (breaches_of p) v (JudgedTyped ports (typed (resolved p)) v))
    (passes_once (breaches_of p) (λ v. JudgedTyped ports (typed (resolved p)) v) (typed_once ports (typed (resolved p))))

token_once : (tokens : List Token) (v w : Verdict) → JudgedToken tokens v → JudgedToken tokens w → v ≡ w
token_once tokens v w h k =
    let same = one_place tokens h.before k.before h.token k.token h.after k.after h.out_of_place k.out_of_place in
    h.verdict
    ∙ (ap (λ b. refuses (rule_at b h.token) h.token.place) same.0
    ∙ (ap (λ (t : Token). refuses (rule_at k.before t) t.place) same.1
    ∙ sym k.verdict))

tokens_once : (ports : Bool) (tokens : List Token) (o : Option Excess) → OneOf (JudgedTokens ports tokens o)
tokens_once ports tokens (Some x) v w e f = e ∙ sym f
tokens_once ports tokens None v w (inl h) (inl k) = token_once tokens v w h k
tokens_once ports tokens None v w (inl h) (inr (q, (s, k))) = absurd (spelled_in_place q tokens h.before h.token h.after s h.out_of_place)
tokens_once ports tokens None v w (inr (p, (s, h))) (inl k) = absurd (spelled_in_place p tokens k.before k.token k.after s k.out_of_place)
tokens_once ports tokens None v w (inr (p, (s, h))) (inr (q, (t, k))) =
    let P : Program → Type 0 = λ x. JudgedTree ports x w in
    tree_once ports p v w h (subst P (sym (one_tree p q tokens s t)) k)

one_verdict : (ports : Bool) (text : List _) → OneOf (Judged ports text)
one_verdict ports text v w (inl (a, (h, e))) (inl (b, (k, f))) = e ∙ (ap (λ place. refuses Lex place) (one_breach text a b h k) ∙ sym f)
one_verdict ports text v w (inl (a, (h, e))) (inr (ts, (k, f))) = absurd (not_both text ts a k h)
one_verdict ports text v w (inr (ts, (h, e))) (inl (b, (k, f))) = absurd (not_both text ts b h k)
one_verdict ports text v w (inr (ts, (h, e))) (inr (us, (k, f))) =
    let P : List Token → Type 0 = λ x. JudgedTokens ports x (tokens_excess x) w in
    tokens_once ports ts (tokens_excess ts) v w e (subst P (sym (one_list text ts us h k)) f)

-- what a text comes to it comes to alone
pub is_verdict : (ports : Bool) (text : List _) (v : Verdict) → Judged ports text v → IsVerdict ports text v
is_verdict ports text v h = record { judged = h; only = λ w k. one_verdict ports text w v k h }
