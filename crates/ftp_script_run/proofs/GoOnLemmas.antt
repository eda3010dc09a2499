-- How a script that goes on ends, from what it keeps.
use Rattle.std.proofs.Common.{◌≡◌, ◌⊎◌, inl, inr, ℕ, suc, ◌+◌, Bool, true, false, not, cond, List, [], ◌∷◌, ◌++◌, length, take, drop, Option, Some, None, refl, sym, ap, subst, ◌∙◌, append_assoc, append-nil, arith}
use Rattle.std.specs.Prelude.{IfSome, Result, Ok, Err, OnOk, OnErr}
use Rattle.std.specs.List.{position_or_len}
use Rattle.std.proofs.lemmas.Bool.{eqb-true}
use Rattle.std.proofs.lemmas.List.{length-append, take_at}
use Rattle.std.proofs.Math.Seq.{drop-append-add}
use Rattle.std.proofs.lemmas.Option.{IfSome_then}
use Rattle.ftp_base.specs.declared.fault.Failed.{Failed}
use Rattle.ftp_base.specs.declared.fault.Failed.TheVariants.{Fault, Memory}
use Rattle.ftp_base.specs.Outside.{Writes}
use Rattle.ftp_control.specs.Lines.{Rest, behind_line, first_line, is_line_feed}
use Rattle.ftp_control.specs.Writing.{WritesFront}
use Rattle.ftp_options.specs.declared.options.Options.{Options}
use Rattle.ftp_events.specs.declared.entry.Entry.{Entry}
use Rattle.ftp_hub.specs.declared.state.HubState.{HubState}
use Rattle.ftp_text.specs.declared.setup.Item.{Item}
use Rattle.ftp_text.proofs.Exact.{run_length}
use Rattle.ftp_text.proofs.FieldFeeds.{HasNone, is_line_byte}
use Rattle.ftp_script_run.specs.declared.resumed.Resumed.{Resumed}
use Rattle.ftp_script_run.specs.declared.run.Run.{Run}
use Rattle.ftp_script_run.specs.declared.status.Status.{Status}
use Rattle.ftp_script_run.specs.declared.status.Status.TheVariants as status
use Rattle.ftp_script_run.specs.declared.text_script.ScriptError.{ScriptError}
use Rattle.ftp_script_run.specs.declared.text_script.ScriptError.TheVariants as error
use Rattle.ftp_script_run.specs.declared.text_script.ScriptReader.{ScriptReader}
use Rattle.ftp_script_run.specs.Left.{end_lines}
use Rattle.ftp_script_run.specs.Outcome.{bad_line, log_lines}
use Rattle.ftp_script_run.specs.Resumed.{AllGoOn, HasLines, IsBadHead, IsResumedScript, Resumes, ResumesPart, bar, behind_resumed, may_go_on}
use Rattle.ftp_script_run.specs.Resuming.{Awaits, Begins, IsBegunAt, IsRefusedSo, IsResumeCut, ResumeOutcome, Resuming}
use Rattle.ftp_script_run.specs.Runs.{IsPartlyTaken, IsTaken, Keeps, Running}
use Rattle.ftp_script_run.specs.Script.{IsScriptOf}
use Rattle.ftp_script_run.specs.ScriptReader.{AreWhole, EndsLine, Follows, HasRead, IsLetIn}
use Rattle.ftp_script_run.specs.SetUp.{is_event}
use Rattle.ftp_script_run.specs.Statuses.{IsCutShort, ended_by}
use Rattle.ftp_script_run.proofs.HeadLemmas.{first-none}
use Rattle.ftp_script_run.proofs.OutcomeLemmas.{running-more}
use Rattle.ftp_script_run.proofs.ResumeLemmas.{awaits-more, goes-on-more}
use Rattle.ftp_script_run.proofs.RunLemmas.{legal-behind}
use Rattle.ftp_control.proofs.WritingLemmas.{front-all, front-longer, front-more, writes-more, writes-nil}
use Rattle.ftp_script_run.proofs.Written.{log_lines-append}

-- ---- the front of the bytes

-- the first line, its line feed, and what stands behind; or nothing stands behind
line-split : (bytes : List ℕ) → (bytes ≡ first_line bytes ++ 10 ∷ behind_line bytes) ⊎ (behind_line bytes ≡ [])
line-split [] = inr refl
line-split (b ∷ bytes) = by (is_line_feed b) refl (line-split bytes) where
  n : ℕ
  n = position_or_len is_line_feed bytes

  at : Bool → ℕ
  at feed = cond (not feed) (1 + n) 0

  by : (feed : Bool) → is_line_feed b ≡ feed → (bytes ≡ take n bytes ++ 10 ∷ drop (n + 1) bytes) ⊎ (drop (n + 1) bytes ≡ []) →
      (b ∷ bytes ≡ take (at feed) (b ∷ bytes) ++ 10 ∷ drop (at feed + 1) (b ∷ bytes)) ⊎ (drop (at feed + 1) (b ∷ bytes) ≡ [])
  by true e more = inl (ap (λ (c : ℕ). c ∷ bytes) (eqb-true b 10 e))
  by false e (inl more) =
      let near : 1 + n ≡ suc n = omega arith in
      let far : 1 + n + 1 ≡ suc (n + 1) = omega arith in
      inl (ap (λ (w : List ℕ). b ∷ w) more ∙ (λ i. take (sym near i) (b ∷ bytes) ++ 10 ∷ drop (sym far i) (b ∷ bytes)))
  by false e (inr none) =
      let far : 1 + n + 1 ≡ suc (n + 1) = omega arith in
      inr (ap (λ (m : ℕ). drop m (b ∷ bytes)) far ∙ none)

-- a line with its line feed stands first
fed-line : (line more : List ℕ) → HasNone line → HasLines (line ∷ []) more (line ++ 10 ∷ more)
fed-line line more none =
    let p : position_or_len is_line_feed (line ++ 10 ∷ more) ≡ length line = run_length is_line_byte line (10 ∷ more) none refl in (
      omega (arith, length-append line (10 ∷ more)),
      ap (λ (k : ℕ). take k (line ++ 10 ∷ more)) p ∙ take_at line (10 ∷ more) (length line) refl,
      ap (λ (k : ℕ). drop (k + 1) (line ++ 10 ∷ more)) p ∙ drop-append-add line (10 ∷ more) 1,
    )

-- of two texts that are none together each is none
append-empty : (a b : List ℕ) → a ++ b ≡ [] → (a ≡ []) × (b ≡ [])
append-empty [] b e = (refl, e)
append-empty (c ∷ a) b e = absurd cc

-- what these lines are spelled as: whole lines, whatever stands behind, or all bytes
record Fronts (lines : List (List ℕ)) (rest bytes : List ℕ) : Type 0 where
  front : List ℕ
  all_is : front ++ rest ≡ bytes
  whole : (EndsLine front × ((more : List ℕ) → HasLines lines more (front ++ more))) ⊎ (rest ≡ [])

-- one line before them
front-line : (line : List ℕ) (lines : List (List ℕ)) (rest bytes : List ℕ) → HasLines (line ∷ lines) rest bytes → Fronts lines rest (behind_line bytes) → Fronts (line ∷ lines) rest bytes
front-line line lines rest bytes is behind = by (line-split bytes) where
  none : HasNone line
  none = subst HasNone is.1 (first-none bytes)

  fed : List ℕ
  fed = line ++ 10 ∷ []

  joined : (more : List ℕ) → (fed ++ behind.front) ++ more ≡ line ++ 10 ∷ (behind.front ++ more)
  joined more = append_assoc fed behind.front more ∙ append_assoc line (10 ∷ []) (behind.front ++ more)

  ends : EndsLine behind.front → EndsLine (fed ++ behind.front)
  ends (inl empty) = inr (line, ap (λ (w : List ℕ). fed ++ w) empty ∙ append-nil fed)
  ends (inr last) = inr (fed ++ last.0, ap (λ (w : List ℕ). fed ++ w) last.1 ∙ sym (append_assoc fed last.0 (10 ∷ [])))

  first : (more : List ℕ) → HasLines lines more (behind.front ++ more) → HasLines (line ∷ lines) more ((fed ++ behind.front) ++ more)
  first more is_more =
      let whole = fed-line line (behind.front ++ more) none in
      subst (λ (w : List ℕ). HasLines (line ∷ lines) more w) (sym (joined more))
      (whole.0, whole.1, subst (λ (w : List ℕ). HasLines lines more w) (sym whole.2) is_more)

  whole_so : (EndsLine behind.front × ((more : List ℕ) → HasLines lines more (behind.front ++ more))) ⊎ (rest ≡ []) →
      (EndsLine (fed ++ behind.front) × ((more : List ℕ) → HasLines (line ∷ lines) more ((fed ++ behind.front) ++ more))) ⊎ (rest ≡ [])
  whole_so (inl w) = inl (ends w.0, λ more. first more (w.1 more))
  whole_so (inr nil) = inr nil

  by : (bytes ≡ first_line bytes ++ 10 ∷ behind_line bytes) ⊎ (behind_line bytes ≡ []) → Fronts (line ∷ lines) rest bytes
  by (inl split) = record {
    front = fed ++ behind.front;
    all_is =
        joined rest
        ∙ ap (λ (w : List ℕ). line ++ 10 ∷ w) behind.all_is
        ∙ ap (λ (w : List ℕ). w ++ 10 ∷ behind_line bytes) (sym is.1)
        ∙ sym split;
    whole = whole_so behind.whole;
  }
  by (inr nothing) =
      let nil : rest ≡ [] = (append-empty behind.front rest (behind.all_is ∙ nothing)).1 in
      record { front = bytes; all_is = ap (λ (w : List ℕ). bytes ++ w) nil ∙ append-nil bytes; whole = inr nil }

fronts : (lines : List (List ℕ)) (rest bytes : List ℕ) → HasLines lines rest bytes → Fronts lines rest bytes
fronts [] rest bytes is = record { front = []; all_is = sym is; whole = inl (inl refl, λ more. refl) }
fronts (line ∷ lines) rest bytes is = front-line line lines rest bytes is (fronts lines rest (behind_line bytes) is.2)

-- whole lines behind whole lines
whole-behind : (front read more : List ℕ) → EndsLine front → AreWhole read more → AreWhole (front ++ read) more
whole-behind front read more ends (inr all) = inr all
whole-behind front read more ends (inl (inr last)) = inl (inr (front ++ last.0, ap (λ (w : List ℕ). front ++ w) last.1 ∙ sym (append_assoc front last.0 (10 ∷ []))))
whole-behind front read more ends (inl (inl empty)) = inl (subst EndsLine (sym (ap (λ (w : List ℕ). front ++ w) empty ∙ append-nil front)) ends)

-- ---- what was read

-- all bytes were read, up to the end of the script or its first bad line
resumes-all : (bytes rest : List ℕ) (before : ℕ) (o : Options) (x : HubState) (run : Run) (items : List Item) (log : List Entry) (bad : Option ℕ) →
    IsBegunAt bytes rest before o x →
    IsResumedScript x rest items bad →
    Keeps (Some (o, x)) run items log →
    Resumes bytes bad
resumes-all bytes rest before o x run items log bad begun script kept = record {
  line = begun.line;
  texts = begun.texts;
  rest = rest;
  before = before;
  head = begun.head;
  state = x;
  spelled = begun.spelled;
  options = o;
  set = begun.set;
  passed = begun.passed;
  items = items;
  log = log;
  script = script;
  links = run.links;
  storage = run.storage;
  legal = legal-behind o x run items log kept;
}

-- lines of the script were read, and of their log a part was written
resumes-part : (bytes rest : List ℕ) (before : ℕ) (o : Options) (x : HubState) (reader : ScriptReader) (buffer : List ℕ) (left old new : Option (List ℕ)) (run : Run) (items : List Item) (log : List Entry) →
    IsBegunAt bytes rest before o x →
    HasRead items rest reader buffer left →
    AllGoOn x [] items →
    Keeps (Some (o, x)) run items log →
    WritesFront old new (log_lines log) →
    ResumesPart bytes old new
unfolding resumes-all
resumes-part bytes rest before o x reader buffer left old new run items log begun h goes_on kept written = by f.whole where
  lines : List (List ℕ)
  lines = begun.head.first ++ (begun.texts ++ bar ∷ [])

  f : Fronts lines rest bytes
  f = fronts lines rest bytes begun.head.lines

  all : (f.front ++ h.read) ++ h.bytes ≡ bytes
  all = append_assoc f.front h.read h.bytes ∙ ap (λ (w : List ℕ). f.front ++ w) h.all_is ∙ f.all_is

  part : HasLines lines h.read (f.front ++ h.read) → AreWhole (f.front ++ h.read) h.bytes → ResumesPart bytes old new
  part has whole = record {
    read = f.front ++ h.read;
    more = h.bytes;
    all_is = all;
    whole = whole;
    bad = None;
    resumes =
        resumes-all (f.front ++ h.read) h.read before o x run items log None
        (record {
          line = begun.line;
          texts = begun.texts;
          head = record { first = begun.head.first; lines = has; options_are = begun.head.options_are; none = begun.head.none; count = begun.head.count };
          spelled = begun.spelled;
          set = begun.set;
          passed = begun.passed;
        })
        (goes_on, h.items) kept;
    written = front-longer old new (log_lines log) (behind_resumed None before run.links run.storage h.bytes) written;
  }

  by : (EndsLine f.front × ((more : List ℕ) → HasLines lines more (f.front ++ more))) ⊎ (rest ≡ []) → ResumesPart bytes old new
  by (inl w) = part (w.1 h.read) (whole-behind f.front h.read h.bytes w.0 h.whole)
  by (inr nil) =
      let empty = append-empty h.read h.bytes (h.all_is ∙ nil) in
      let same : rest ≡ h.read = nil ∙ sym empty.0 in
      part
      (subst (λ (r : List ℕ). HasLines lines r (f.front ++ r)) same (subst (λ (w : List ℕ). HasLines lines rest w) (sym f.all_is) begun.head.lines))
      (inr empty.1)

-- all bytes were read, and what stands behind the log was begun
resumes-closing : (bytes rest : List ℕ) (before : ℕ) (o : Options) (x : HubState) (old now new : Option (List ℕ)) (run : Run) (items : List Item) (log : List Entry) (bad : Option ℕ) →
    IsBegunAt bytes rest before o x →
    IsResumedScript x rest items bad →
    Keeps (Some (o, x)) run items log →
    Writes old now (log_lines log) →
    WritesFront now new (behind_resumed bad before run.links run.storage []) →
    ResumesPart bytes old new
unfolding resumes-all
resumes-closing bytes rest before o x old now new run items log bad begun script kept written more = record {
  read = bytes;
  more = [];
  all_is = append-nil bytes;
  whole = inr refl;
  bad = bad;
  resumes = resumes-all bytes rest before o x run items log bad begun script kept;
  written = front-more old now new (log_lines log) (behind_resumed bad before run.links run.storage []) written more;
}

-- what a run was cut short at
cut-at : (s : Status) (bytes : List ℕ) (left old new : Option (List ℕ)) → IsCutShort s → IsResumeCut bytes old new → ResumeOutcome s bytes left old new
cut-at s bytes left old new (inl is) cut = subst (λ (t : Status). ResumeOutcome t bytes left old new) (sym is) cut
cut-at s bytes left old new (inr is) cut = subst (λ (t : Status). ResumeOutcome t bytes left old new) (sym is) cut

-- what is read of a script that begins behind a state
read-behind : (all left old now : Option (List ℕ)) (resumed : Resumed) (reader : ScriptReader) (run : Run) (buffer bytes rest : List ℕ) (r : Resuming all resumed reader run buffer left old now) →
    r.behind ≡ Some rest → HasRead r.running.items rest reader buffer left
read-behind all left old now resumed reader run buffer bytes rest r is = subst (λ (b : Option (List ℕ)). IfSome b (λ w. HasRead r.running.items w reader buffer left)) is r.running.read

-- ---- the steps

-- one more item was taken
pub go-more : {all left later old now new : Option (List ℕ)} {resumed further : Resumed} {reader next : ScriptReader} {run after : Run} {buffer out : List ℕ} (i : Item) (r : Resuming all resumed reader run buffer left old now) →
    IsLetIn r.running.items i next →
    ((bytes : List ℕ) → HasRead r.running.items bytes reader buffer left → HasRead (r.running.items ++ i ∷ []) bytes next out later) →
    may_go_on r.state r.running.items i ≡ true →
    Awaits further r.state r.running.items →
    (is_event i ≡ true → further.links.items ≡ []) →
    further.before ≡ resumed.before →
    IsTaken (Some (r.options, r.state)) after (r.running.items ++ i ∷ []) r.running.log now new →
    Resuming all further next after out later old new
unfolding running-more
go-more {all} {further} i r placed told may awaits event before took = record {
  options = r.options;
  state = r.state;
  behind = r.behind;
  running = running-more i r.running placed told took;
  begun = IfSome_then all r.begun (λ bytes b. (b.0, b.1, subst (λ (n : ℕ). IsBegunAt bytes b.0 n r.options r.state) (sym before) b.2));
  goes_on = goes-on-more r.state [] r.running.items i r.goes_on may;
  awaits = awaits-more further r.state r.running.items i event awaits;
}

-- of an item that was read, at most a part of its lines was written
pub go-cut : {all left old now : Option (List ℕ)} {resumed : Resumed} {reader next : ScriptReader} {run after : Run} {buffer out : List ℕ} (later new : Option (List ℕ)) (i : Item) (s : Status) (r : Resuming all resumed reader run buffer left old now) →
    ((bytes : List ℕ) → HasRead r.running.items bytes reader buffer left → HasRead (r.running.items ++ i ∷ []) bytes next out later) →
    may_go_on r.state r.running.items i ≡ true →
    IsPartlyTaken (Some (r.options, r.state)) after (r.running.items ++ i ∷ []) r.running.log now new →
    IsCutShort s →
    IfSome all (λ bytes. ResumeOutcome s bytes later old new)
go-cut {all} {left} {old} {now} {resumed} {reader} {next} {run} {after} {buffer} {out} later new i s r told may taken short =
    IfSome_then all r.begun (λ bytes b. cut-at s bytes later old new short (inr (inr (by bytes b.0 b.2 (read-behind all left old now resumed reader run buffer bytes b.0 r b.1) taken)))) where
      items : List Item
      items = r.running.items

      by : (bytes rest : List ℕ) → IsBegunAt bytes rest resumed.before r.options r.state → HasRead items rest reader buffer left →
          IsPartlyTaken (Some (r.options, r.state)) after (items ++ i ∷ []) r.running.log now new → ResumesPart bytes old new
      by bytes rest begun h (inl same) =
          resumes-part bytes rest resumed.before r.options r.state reader buffer left old new run items r.running.log begun h r.goes_on r.running.kept
          (front-all old new (log_lines r.running.log) (subst (λ (w : Option (List ℕ)). Writes old w (log_lines r.running.log)) (sym same) r.running.written))
      by bytes rest begun h (inr part) =
          resumes-part bytes rest resumed.before r.options r.state next out later old new after (items ++ i ∷ []) (part.0 ++ r.running.log) begun (told rest h)
          (goes-on-more r.state [] items i r.goes_on may) part.1
          (subst (WritesFront old new) (sym (log_lines-append part.0 r.running.log))
          (front-more old now new (log_lines r.running.log) (log_lines part.0) r.running.written part.2))

-- a bad line was named, or a part of its line was written
pub go-bad : {all left old now : Option (List ℕ)} {resumed : Resumed} {reader : ScriptReader} {run : Run} {buffer : List ℕ} (later new : Option (List ℕ)) (k place : ℕ) (s : Status) (r : Resuming all resumed reader run buffer left old now) →
    k ≡ resumed.before + place →
    ((bytes : List ℕ) → HasRead r.running.items bytes reader buffer left → IsResumedScript r.state bytes r.running.items (Some place)) →
    IsRefusedSo (error.BadLine k) s now new →
    IfSome all (λ bytes. ResumeOutcome s bytes later old new)
unfolding resumes-all
go-bad {all} {left} {old} {now} {resumed} {reader} {run} {buffer} later new k place s r counted script refused =
    IfSome_then all r.begun (λ bytes b. by bytes b.0 b.2 (script b.0 (read-behind all left old now resumed reader run buffer bytes b.0 r b.1)) refused) where
      items : List Item
      items = r.running.items

      by : (bytes rest : List ℕ) → IsBegunAt bytes rest resumed.before r.options r.state → IsResumedScript r.state rest items (Some place) → IsRefusedSo (error.BadLine k) s now new → ResumeOutcome s bytes later old new
      by bytes rest begun is (inl named) = subst (λ (t : Status). ResumeOutcome t bytes later old new) (sym named.0) (inr (record {
        place = place;
        resumes = resumes-all bytes rest resumed.before r.options r.state run items r.running.log (Some place) begun is r.running.kept;
        counted = counted;
        written = writes-more old now new (log_lines r.running.log) (bad_line k) r.running.written named.1;
      }))
      by bytes rest begun is (inr part) =
          cut-at s bytes later old new part.0 (inr (inr (
          resumes-closing bytes rest resumed.before r.options r.state old now new run items r.running.log (Some place) begun is r.running.kept r.running.written
          (subst (λ (n : ℕ). WritesFront now new (bad_line n)) counted part.1))))

-- the script is at its end
pub go-end : {all left old now : Option (List ℕ)} {resumed : Resumed} {reader : ScriptReader} {run : Run} {buffer : List ℕ} (later new : Option (List ℕ)) (last : Result Unit Failed) (s : Status) (r : Resuming all resumed reader run buffer left old now) →
    s ≡ ended_by last status.Done →
    ((bytes : List ℕ) → HasRead r.running.items bytes reader buffer left → IsScriptOf bytes r.running.items None × (later ≡ Some [])) →
    OnOk last (Writes now new (end_lines run.links run.storage)) →
    OnErr last (WritesFront now new (end_lines run.links run.storage)) →
    IfSome all (λ bytes. ResumeOutcome s bytes later old new)
unfolding resumes-all
go-end {all} {left} {old} {now} {resumed} {reader} {run} {buffer} later new last s r is script wrote front =
    IfSome_then all r.begun (λ bytes b. subst (λ (t : Status). ResumeOutcome t bytes later old new) (sym is) (by bytes b.0 b.2 (script b.0 (read-behind all left old now resumed reader run buffer bytes b.0 r b.1)) last wrote front)) where
      items : List Item
      items = r.running.items

      by : (bytes rest : List ℕ) → IsBegunAt bytes rest resumed.before r.options r.state → IsScriptOf rest items None × (later ≡ Some []) → (result : Result Unit Failed) →
          OnOk result (Writes now new (end_lines run.links run.storage)) → OnErr result (WritesFront now new (end_lines run.links run.storage)) → ResumeOutcome (ended_by result status.Done) bytes later old new
      by bytes rest begun told (Ok x) wrote front = record {
        resumes = resumes-all bytes rest resumed.before r.options r.state run items r.running.log None begun (r.goes_on, told.0) r.running.kept;
        end = told.1;
        written = writes-more old now new (log_lines r.running.log) (end_lines run.links run.storage) r.running.written wrote;
      }
      by bytes rest begun told (Err Fault) wrote front = inr (inr (
          resumes-closing bytes rest resumed.before r.options r.state old now new run items r.running.log None begun (r.goes_on, told.0) r.running.kept r.running.written front))
      by bytes rest begun told (Err Memory) wrote front = inr (inr (
          resumes-closing bytes rest resumed.before r.options r.state old now new run items r.running.log None begun (r.goes_on, told.0) r.running.kept r.running.written front))

-- nothing more was run
pub go-kept : {all left old now : Option (List ℕ)} {resumed : Resumed} {reader : ScriptReader} {run : Run} {buffer : List ℕ} (r : Resuming all resumed reader run buffer left old now) →
    IfSome all (λ bytes. IsResumeCut bytes old now)
go-kept {all} {left} {old} {now} {resumed} {reader} {run} {buffer} r =
    IfSome_then all r.begun
    (λ bytes b. inr (inr (
    resumes-part bytes b.0 resumed.before r.options r.state reader buffer left old now run r.running.items r.running.log b.2
    (read-behind all left old now resumed reader run buffer bytes b.0 r b.1) r.goes_on r.running.kept
    (front-all old now (log_lines r.running.log) r.running.written))))

-- behind the items stands one that may not come
pub no-more : {bytes : List ℕ} {reader : ScriptReader} {buffer : List ℕ} {left : Option (List ℕ)} (x : HubState) (items : List Item) (i : Item) →
    AllGoOn x [] items →
    may_go_on x items i ≡ false →
    HasRead (items ++ i ∷ []) bytes reader buffer left →
    IsResumedScript x bytes items (Some reader.number)
no-more x items i goes_on stops h = (
  goes_on,
  inr (record {
    next = i;
    read = h.read;
    rest = h.bytes;
    all_is = h.all_is;
    whole = h.whole;
    script = h.items;
    stops = stops;
    place = h.number ∙ length-append items (i ∷ []);
  }),
)

-- ---- the begin

-- a run goes on from a state
pub go-start : (all left old : Option (List ℕ)) (resumed : Resumed) (reader : ScriptReader) (run : Run) (buffer held : List ℕ) →
    Begins [] all resumed run held left →
    ((bytes : List ℕ) (l : Option (List ℕ)) → Rest held l bytes → HasRead [] bytes reader buffer l) →
    Follows reader [] →
    Resuming all resumed reader run buffer left old old
go-start all left old resumed reader run buffer held b start none = by all b.begun where
  behind : (rest : Option (List ℕ)) → IfSome rest (λ w. HasRead [] w reader buffer left) → Running (Some (b.options, b.state)) rest reader run buffer left old old
  behind rest read = record {
    items = [];
    log = [];
    known = none;
    kept = b.kept;
    read = read;
    written = writes-nil old;
  }

  by : (bytes : Option (List ℕ)) → IfSome bytes (λ w. (rest : List ℕ) × Rest held left rest × IsBegunAt ([] ++ w) rest resumed.before b.options b.state) → Resuming bytes resumed reader run buffer left old old
  by None told = record {
    options = b.options;
    state = b.state;
    behind = None;
    running = behind None tt;
    begun = tt;
    goes_on = tt;
    awaits = b.awaits;
  }
  by (Some w) told = record {
    options = b.options;
    state = b.state;
    behind = Some told.0;
    running = behind (Some told.0) (start told.0 left told.1);
    begun = (told.0, refl, told.2);
    goes_on = tt;
    awaits = b.awaits;
  }

-- no state was read
pub head-refused : (e : ScriptError) (s : Status) (bytes : List ℕ) (left old new : Option (List ℕ)) →
    ((k : ℕ) → e ≡ error.BadLine k → IsBadHead k bytes) →
    IsRefusedSo e s old new →
    ResumeOutcome s bytes left old new
head-refused (error.BadLine k) s bytes left old new bad (inl named) = subst (λ (t : Status). ResumeOutcome t bytes left old new) (sym named.0) (inl (bad k refl, named.1))
head-refused (error.BadLine k) s bytes left old new bad (inr part) = cut-at s bytes left old new part.0 (inr (inl (k, bad k refl, part.1)))
head-refused error.Fault s bytes left old new bad is = subst (λ (t : Status). ResumeOutcome t bytes left old new) (sym is.0) (inl is.1)
head-refused error.Memory s bytes left old new bad is = subst (λ (t : Status). ResumeOutcome t bytes left old new) (sym is.0) (inl is.1)

pub refused-outcome : (e : ScriptError) (s : Status) (all left old new : Option (List ℕ)) →
    ((k : ℕ) → e ≡ error.BadLine k → IfSome all (λ bytes. IsBadHead k bytes)) →
    IsRefusedSo e s old new →
    IfSome all (λ bytes. ResumeOutcome s bytes left old new)
refused-outcome e s None left old new bad is = tt
refused-outcome e s (Some bytes) left old new bad is = head-refused e s bytes left old new bad is
