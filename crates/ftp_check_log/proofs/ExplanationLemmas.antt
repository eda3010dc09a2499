-- Why an entry of a printed log was decided as it was.
use Rattle.std.proofs.Common.{◌≡◌, ℕ, true, List, length, Option, Some, None, refl, sym, ap, subst, arith}
use Rattle.std.specs.Prelude.{Result, Ok, Err, IfOk, IfSome}
use Rattle.ftp_events.specs.declared.entry.Entry.{Entry}
use Rattle.ftp_hub.specs.Stands.{options_of}
use Rattle.ftp_check_log.specs.declared.checker.Checker.{Checker}
use Rattle.ftp_check_log.specs.declared.explanation.Explanation.{Explanation}
use Rattle.ftp_check_log.specs.declared.explanation.Explanation.TheVariants as explanation
use Rattle.ftp_check_log.specs.declared.verdict.Verdict.{Verdict}
use Rattle.ftp_check_log.specs.declared.verdict.Verdict.TheVariants as verdict
use Rattle.ftp_check_log.specs.Checks.{IsRightBy, TellsBy, KeepsRight}
use Rattle.ftp_check_log.specs.Explanations.{TellsOfLog, TellsOfRight, IsRightAsSaid, TellsWhy, Explains}
use Rattle.ftp_check_log.specs.Verdicts.{TellsOfText}
use Rattle.ftp_check_log.proofs.EndLemmas.{told-text}
use Rattle.ftp_check_log.proofs.OneLemmas.{one-verdict}

-- what is said of the right log that was kept is so of the text
told-right : (x : Explanation) (k n : ℕ) (c : Checker) (bytes : List ℕ) → c.keeps ≡ true → IsRightBy n c bytes → TellsOfRight (options_of c.hub) c.log.entries k x → TellsWhy k x bytes
told-right (explanation.Found x) k n c bytes on so tells =
    let at = subst (λ (l : List Entry). TellsOfRight (options_of c.hub) l k (explanation.Found x)) (so.kept on) tells in
    record {
      line = so.line;
      log = so.log;
      due = record { options = options_of c.hub; set = so.set; right = so.right; acted = so.acted };
      print = so.print;
      entry = at.0;
      evidence = at.1;
      only = at.2;
    }
told-right explanation.NoEntry k n c bytes on so tells = (n, told-text (verdict.Right n) c bytes so, omega (arith, tells, ap length (so.kept on), so.count))
told-right (explanation.Wrong v) k n c bytes on so tells = absurd tells

-- what is said of the log that was kept
told-why : (v : Verdict) (x : Explanation) (k : ℕ) (c : Checker) (bytes : List ℕ) → c.keeps ≡ true → TellsBy v c bytes → TellsOfLog v (options_of c.hub) c.log.entries k x → TellsWhy k x bytes
told-why (verdict.Right n) x k c bytes on so tells = told-right x k n c bytes on so tells
told-why (verdict.Decided n due) x k c bytes on so tells = subst (λ (y : Explanation). TellsWhy k y bytes) (sym tells) (tt, so)
told-why (verdict.Acted n) x k c bytes on so tells = subst (λ (y : Explanation). TellsWhy k y bytes) (sym tells) (tt, so)
told-why (verdict.BadText l) x k c bytes on so tells = subst (λ (y : Explanation). TellsWhy k y bytes) (sym tells) (tt, so)

pub why-source : {E : Type 0} (r : Result Explanation E) (k : ℕ) (v : Verdict) (c : Checker) (all : Option (List ℕ)) →
    c.keeps ≡ true →
    IfSome all (λ bytes. TellsBy v c bytes) →
    IfOk r (TellsOfLog v (options_of c.hub) c.log.entries k) →
    IfOk r (λ x. IfSome all (λ bytes. TellsWhy k x bytes))
why-source (Ok x) k v c None on so tells = tt
why-source (Ok x) k v c (Some bytes) on so tells = told-why v x k c bytes on so tells
why-source (Err e) k v c all on so tells = tt

-- the log that was kept is right where the verdict says so
pub kept-said : (v : Verdict) (c : Checker) → c.keeps ≡ true → KeepsRight v c → IsRightAsSaid v (options_of c.hub) c.log.entries
kept-said (verdict.Right n) c on kept = kept on
kept-said (verdict.Decided n due) c on kept = tt
kept-said (verdict.Acted n) c on kept = tt
kept-said (verdict.BadText l) c on kept = tt

-- the verdict on a text decides which explanation it has
explains-text : (x : Explanation) (k : ℕ) (v : Verdict) (bytes : List ℕ) → TellsWhy k x bytes → TellsOfText v bytes → Explains k x v
explains-text (explanation.Found x) k v bytes why told =
    let right : TellsOfText (verdict.Right (length why.log)) bytes = record { line = why.line; log = why.log; due = why.due; print = why.print; count = refl } in
    subst (λ (w : Verdict). Explains k (explanation.Found x) w) (sym (one-verdict (verdict.Right (length why.log)) v bytes right told)) why.entry
explains-text explanation.NoEntry k v bytes why told =
    subst (λ (w : Verdict). Explains k explanation.NoEntry w) (sym (one-verdict (verdict.Right why.0) v bytes why.1 told)) why.2
explains-text (explanation.Wrong w) k v bytes why told = one-verdict w v bytes why.1 told

pub explains-source : {E : Type 0} (r : Result Explanation E) (k : ℕ) (all : Option (List ℕ)) →
    IfOk r (λ x. IfSome all (λ bytes. TellsWhy k x bytes)) →
    IfOk r (λ x. IfSome all (λ bytes. (v : Verdict) → TellsOfText v bytes → Explains k x v))
explains-source (Ok x) k None why = tt
explains-source (Ok x) k (Some bytes) why = λ v told. explains-text x k v bytes why told
explains-source (Err e) k all why = tt
