-- A line that was heard, and its entry.
use Rattle.std.proofs.Common.{◌≡◌, ℕ, ◌+◌, ◌⊎◌, Bool, true, false, cond, List, [], ◌∷◌, ◌++◌, Option, Some, None, refl, sym, ap, subst, ◌∙◌, arith, inl, inr}
use Rattle.std.specs.Prelude.{Result, Ok, Err, IsErr, OnOk, OnErr}
use Rattle.std.proofs.lemmas.List.{append-nil}
use Rattle.ftp_base.specs.declared.reply.Reply.{Reply}
use Rattle.ftp_base.specs.Edge.{EdgeView}
use Rattle.ftp_base.specs.Outside.{Writes}
use Rattle.ftp_events.specs.declared.decision.Decision.{Decision}
use Rattle.ftp_events.specs.declared.entry.Entry.{Entry}
use Rattle.ftp_events.specs.declared.event.Answer.TheVariants as answer
use Rattle.ftp_events.specs.declared.event.EventKind.{EventKind}
use Rattle.ftp_control.specs.declared.command.Command.{Command}
use Rattle.ftp_control.specs.declared.line.LineError.{LineError}
use Rattle.ftp_control.specs.declared.line.LineError.TheVariants as error
use Rattle.ftp_control.specs.Line.{parsed}
use Rattle.ftp_control.specs.Writing.{WritesFront}
use Rattle.ftp_extras.specs.declared.extra.Extra.{Extra}
use Rattle.ftp_extras.specs.declared.extra.Extra.TheVariants as extra
use Rattle.ftp_extras.specs.Extra.{AskerView, gives_password}
use Rattle.ftp_shared.specs.Desk.{DeskView}
use Rattle.ftp_talk.specs.declared.control_session.ControlSession.{ControlSession}
use Rattle.ftp_talk.specs.declared.halt.Halt.{Halt}
use Rattle.ftp_talk.specs.declared.serving.Next.{Next}
use Rattle.ftp_talk.specs.Extended.{PartsBefore}
use Rattle.ftp_talk.specs.Ground.{ALine, Turn, Ground, history}
use Rattle.ftp_talk.specs.Parts.{HeardLine, MayDoSo, turns_of, IsHeard, GivesMore, heard_as, asker_at, lines_said, with_said, with_spoken, is_epsv_line, pieces_for, due_pieces}
use Rattle.ftp_talk.specs.Pieces.{Pieces, piece_delays, piece_text, SaysPieces}
use Rattle.ftp_talk.specs.Saying.{IsPaused}
use Rattle.ftp_talk.specs.Speaking.{Knows, Speaking, Asking, Front, Spoken, Halted, Standing, IsCut, StandsBehind, StandsBehindLine, IsHearing, IsHeardAs, HearsLines, ServesLines, asker_of, due_at, turn_of}
use Rattle.ftp_talk.specs.Talk.{greeting_of}
use Rattle.ftp_talk.specs.Turns.{Due, LineDue, NothingDue, is_end, due, due_by, due_behind}
use Rattle.ftp_talk.proofs.PieceLemmas.{delays-pieces, wrote-pieces, text-one, pieces-behind, pieces-longer, pieces-none, piece-front}
use Rattle.ftp_talk.proofs.ServeLemmas.{command-due, parted-more, same_desk}
use Rattle.ftp_talk.proofs.TalkLemmas.{front-same}

-- who asks is as the entries tell
asker-same : (g : Ground) (state : ControlSession) (h : List Entry) → Knows g state h → asker_of state ≡ asker_at h
asker-same g state h knows = rw (knows.login, knows.name, knows.cwd) refl

-- ---- what is said behind the replies

-- what is said on a line, in pieces
abbrev line_pieces : Extra → Pieces
line_pieces (extra.Say bytes) = (0, bytes) ∷ []
line_pieces _ = []

with-said : (y : Extra) (pieces : Pieces) → with_said y pieces ≡ pieces ++ line_pieces y
with-said (extra.Say bytes) pieces = refl
with-said _ pieces = sym (append-nil pieces)

text-said : (y : Extra) → piece_text (line_pieces y) ≡ lines_said y
text-said (extra.Say bytes) = text-one bytes
text-said _ = refl

undelayed : (y : Extra) → piece_delays (line_pieces y) ≡ 0
undelayed (extra.Say bytes) = refl
undelayed _ = refl

-- it is not, once the session has ended
due-over : (x : HeardLine) (over : Bool) (pieces : Pieces) → over ≡ true → with_spoken (Some x) over pieces ≡ pieces
due-over x over pieces is = ap (λ (b : Bool). with_spoken (Some x) b pieces) is

due-live : (x : HeardLine) (over : Bool) (pieces : Pieces) → over ≡ false → with_spoken (Some x) over pieces ≡ pieces ++ line_pieces x.extra
due-live x over pieces live = ap (λ (b : Bool). with_spoken (Some x) b pieces) live ∙ with-said x.extra pieces

-- a part of it was said
part-said : (y : Extra) (old new : Option (List ℕ)) (at : ℕ) → WritesFront old new (lines_said y) → SaysPieces old new at at [] (line_pieces y)
part-said (extra.Say bytes) old new at wrote = piece-front old new at bytes wrote
part-said _ old new at wrote = pieces-none old new at at [] [] wrote refl

-- a part of the replies is one of all that is due
longer-more : (x : HeardLine) (over : Bool) (old new : Option (List ℕ)) (before after : ℕ) (w : List ℕ) (pieces : Pieces) →
    SaysPieces old new before after w pieces → SaysPieces old new before after w (with_spoken (Some x) over pieces)
longer-more x true old new before after w pieces h = h
longer-more x false old new before after w pieces h =
    subst (SaysPieces old new before after w) (sym (with-said x.extra pieces)) (pieces-longer old new before after w pieces (line_pieces x.extra) h)

-- ---- its turn

-- the turn of a line that was heard
heard-turn : (g : Ground) (state : ControlSession) (ts : List Turn) (x : HeardLine) (k : EventKind) (earlier : List (ℕ × Reply)) (e : Entry) →
    Knows g state (history g ts) → due ts ≡ LineDue → IsHearing state x → e.event.kind ≡ k → GivesMore g (history g ts) x.line x.extra k →
    IsHeard g ts x (turn_of (ALine x.line) earlier e)
heard-turn g state ts x k earlier e knows stands h is gives =
    record {
      step = refl;
      due = stands;
      line = h.line;
      parsed = h.parsed;
      unsecret = h.unsecret;
      who = h.who ∙ asker-same g state (history g ts) knows;
      beside = h.beside;
      whole = h.whole;
      gives = subst (GivesMore g (history g ts) x.line x.extra) (sym is) gives;
    }

-- behind a line that is heard a line is due
pub heard-due : (line : List ℕ) (r : Result Command LineError) (c : Command) (d : Decision) → heard_as line r ≡ Some c → due_behind r d ≡ LineDue
heard-due line (Ok given) c d e = by (gives_password given) refl e where
  by : (b : Bool) → gives_password given ≡ b → cond b None (Some given) ≡ Some c → due_behind (Ok given) d ≡ LineDue
  by true is e1 = absurd (cc)
  by false is e1 = command-due given d is
heard-due line (Err error.InvalidCommand) c d e = refl
heard-due line (Err error.Utf8) c d e = absurd (cc)
heard-due line (Err error.InvalidEol) c d e = absurd (cc)
heard-due line (Err error.OutOfMemory) c d e = absurd (cc)

-- what is said on a line was said
spoken-more : (g : Ground) (state : ControlSession) (edge : EdgeView) (desk : DeskView) (sent sent1 : Option (List ℕ)) (ts : List Turn) (pieces : Pieces) (y : Extra) →
    Speaking g state edge desk sent ts pieces → Writes sent sent1 (lines_said y) → Speaking g state edge desk sent1 ts (pieces ++ line_pieces y)
spoken-more g state edge desk sent sent1 ts pieces y s wrote =
    let none : piece_delays pieces ≡ piece_delays (pieces ++ line_pieces y) = omega (arith, delays-pieces pieces (line_pieces y), undelayed y) in
    record {
      seen = s.seen;
      feed = s.feed;
      known = s.known;
      ground = s.ground;
      after = s.after;
      written = wrote-pieces g.start.sent sent sent1 (greeting_of g) pieces (line_pieces y) s.written (subst (Writes sent sent1) (sym (text-said y)) wrote);
      paused = subst (λ (n : ℕ). IsPaused n g.start.edge.paused edge.paused) none s.paused;
    }

-- a line was heard where one was due, and this is its event, for an EPSV or not, for which edge and storage were asked
pub record IsTaken (g : Ground) (state : ControlSession) (edge edge1 : EdgeView) (desk desk1 : DeskView) (sent : Option (List ℕ)) (x : HeardLine) (k : EventKind) (for_epsv : Bool) (hs : List HeardLine) (rest : List ℕ) : Type 0 where
  pub stands : Standing LineDue g state edge desk sent hs (x.line ++ rest)
  pub hearing : IsHearing state x
  pub gives : GivesMore g (history g (turns_of stands.parted.parts)) x.line x.extra k
  pub asking : Asking g state edge1 desk1 sent (turns_of stands.parted.parts) (due_pieces g stands.parted.parts) k
  pub epsv : is_epsv_line x.extra ≡ for_epsv

abbrev pub taken : (g : Ground) (state : ControlSession) (edge edge1 : EdgeView) (desk desk1 : DeskView) (sent : Option (List ℕ)) (x : HeardLine) (k : EventKind) (for_epsv : Bool) (hs : List HeardLine) (rest : List ℕ) (y : Extra)
    (s : Standing LineDue g state edge desk sent hs (x.line ++ rest)) →
    IsHearing state x → x.extra ≡ y → for_epsv ≡ is_epsv_line y →
    GivesMore g (history g (turns_of s.parted.parts)) x.line y k × Asking g state edge1 desk1 sent (turns_of s.parted.parts) (due_pieces g s.parted.parts) k →
    IsTaken g state edge edge1 desk desk1 sent x k for_epsv hs rest
taken g state edge edge1 desk desk1 sent x k for_epsv hs rest y s hearing says epsv asked = record {
  stands = s;
  hearing = hearing;
  gives = subst (λ (e : Extra). GivesMore g (history g (turns_of s.parted.parts)) x.line e k) (sym says) asked.0;
  asking = asked.1;
  epsv = ap is_epsv_line says ∙ sym epsv;
}

-- its turn is one part more
abbrev heard-parted : {state : ControlSession} {edge edge1 : EdgeView} {desk desk1 : DeskView} {sent : Option (List ℕ)} {for_epsv : Bool} (g : Ground) (x : HeardLine) (k : EventKind) (hs : List HeardLine) (rest : List ℕ)
    (earlier : List (ℕ × Reply)) (e : Entry) →
    IsTaken g state edge edge1 desk desk1 sent x k for_epsv hs rest → e.event.kind ≡ k → e.answer ≡ answer.None → PartsBefore g (x ∷ hs) rest
heard-parted g x k hs rest earlier e t is answer =
    let s = t.stands in
    parted-more g (Some x) (turn_of (ALine x.line) earlier e) hs rest s.parted
    (heard-turn g _ (turns_of s.parted.parts) x k earlier e s.speaking.known s.stands t.hearing is t.gives) answer (λ h. cc)

-- it was answered, and what is due is this
heard-standing : {state0 : ControlSession} {edge0 edge1 : EdgeView} {desk0 desk1 : DeskView} {sent0 : Option (List ℕ)} {for_epsv : Bool} (g : Ground) (state : ControlSession) (edge : EdgeView) (desk : DeskView) (sent sent1 : Option (List ℕ))
    (new : Due) (x : HeardLine) (k : EventKind) (d : Decision) (hs : List HeardLine) (rest : List ℕ)
    (t : IsTaken g state0 edge0 edge1 desk0 desk1 sent0 x k for_epsv hs rest)
    (spoken : Spoken g state edge desk sent (turns_of t.stands.parted.parts) (due_pieces g t.stands.parted.parts) (ALine x.line) k d for_epsv) →
    Speaking g state edge desk sent1 (turn_of (ALine x.line) spoken.earlier spoken.entry ∷ turns_of t.stands.parted.parts)
    (with_spoken (Some x) (is_end spoken.entry.decision) (due_pieces g t.stands.parted.parts ++ pieces_for g for_epsv (turn_of (ALine x.line) spoken.earlier spoken.entry))) →
    due_by (ALine x.line) d ≡ new →
    Standing new g state edge desk sent1 (x ∷ hs) rest
heard-standing g state edge desk sent sent1 new x k d hs rest t spoken speaking is =
    let ps = t.stands.parted.parts in
    let turn = turn_of (ALine x.line) spoken.earlier spoken.entry in
    record {
      parted = heard-parted g x k hs rest spoken.earlier spoken.entry t spoken.kind spoken.answer;
      speaking = subst (λ (b : Bool). Speaking g state edge desk sent1 (turn ∷ turns_of ps) (with_spoken (Some x) (is_end spoken.entry.decision) (due_pieces g ps ++ pieces_for g b turn))) (sym t.epsv) speaking;
      stands = ap (due_by (ALine x.line)) spoken.decision ∙ is;
    }

-- the session ended with it
pub heard-ended : {state0 : ControlSession} {edge0 edge1 : EdgeView} {desk0 desk1 : DeskView} {sent0 : Option (List ℕ)} {for_epsv : Bool} (g : Ground) (state : ControlSession) (edge : EdgeView) (desk : DeskView) (sent : Option (List ℕ))
    (x : HeardLine) (k : EventKind) (d : Decision) (hs : List HeardLine) (rest : List ℕ)
    (t : IsTaken g state0 edge0 edge1 desk0 desk1 sent0 x k for_epsv hs rest) →
    Spoken g state edge desk sent (turns_of t.stands.parted.parts) (due_pieces g t.stands.parted.parts) (ALine x.line) k d for_epsv →
    is_end d ≡ true →
    Standing NothingDue g state edge desk sent (x ∷ hs) rest
heard-ended g state edge desk sent x k d hs rest t spoken over =
    heard-standing g state edge desk sent sent NothingDue x k d hs rest t spoken
    (subst (Speaking g state edge desk sent _) (sym (due-over x (is_end spoken.entry.decision) _ (ap is_end spoken.decision ∙ over))) spoken.speaking)
    (ap (λ (b : Bool). cond b NothingDue (due_behind (parsed x.line) d)) over)

-- it goes on, and what is said on the line was said
pub heard-said : {state0 : ControlSession} {edge0 edge1 : EdgeView} {desk0 desk1 : DeskView} {sent0 : Option (List ℕ)} {for_epsv : Bool} (g : Ground) (state : ControlSession) (edge : EdgeView) (desk : DeskView) (sent sent1 : Option (List ℕ))
    (x : HeardLine) (k : EventKind) (d : Decision) (hs : List HeardLine) (rest : List ℕ)
    (t : IsTaken g state0 edge0 edge1 desk0 desk1 sent0 x k for_epsv hs rest) →
    Spoken g state edge desk sent (turns_of t.stands.parted.parts) (due_pieces g t.stands.parted.parts) (ALine x.line) k d for_epsv →
    is_end d ≡ false →
    Writes sent sent1 (lines_said x.extra) →
    Standing LineDue g state edge desk sent1 (x ∷ hs) rest
heard-said g state edge desk sent sent1 x k d hs rest t spoken live wrote =
    heard-standing g state edge desk sent sent1 LineDue x k d hs rest t spoken
    (subst (Speaking g state edge desk sent1 _) (sym (due-live x (is_end spoken.entry.decision) _ (ap is_end spoken.decision ∙ live)))
    (spoken-more g state edge desk sent sent1 _ _ x.extra spoken.speaking wrote))
    (ap (λ (b : Bool). cond b NothingDue (due_behind (parsed x.line) d)) live ∙ heard-due x.line (parsed x.line) x.command d t.hearing.parsed)

-- ---- cut short

-- of what is due another front was sent
front-pieces : (g : Ground) (state : ControlSession) (edge : EdgeView) (desk : DeskView) (sent sent1 : Option (List ℕ)) (ts : List Turn) (pieces more : Pieces) →
    Front g state edge desk sent ts pieces →
    SaysPieces g.start.sent sent1 g.start.edge.paused edge.paused (greeting_of g) more →
    Front g state edge desk sent1 ts more
front-pieces g state edge desk sent sent1 ts pieces more f says =
    record { session = f.session; options = f.options; seen = f.seen; after = f.after; written = says }

-- the turn of a line that was heard was cut short
cut-heard : {state0 : ControlSession} {edge0 edge1 : EdgeView} {desk0 desk1 : DeskView} {sent0 : Option (List ℕ)} {for_epsv : Bool} (g : Ground) (state : ControlSession) (edge : EdgeView) (desk : DeskView) (sent sent1 : Option (List ℕ))
    (x : HeardLine) (k : EventKind) (hs : List HeardLine) (rest : List ℕ) (earlier : List (ℕ × Reply)) (e : Entry) (pieces : Pieces)
    (t : IsTaken g state0 edge0 edge1 desk0 desk1 sent0 x k for_epsv hs rest) →
    e.event.kind ≡ k → e.answer ≡ answer.None →
    Front g state edge desk sent (turn_of (ALine x.line) earlier e ∷ turns_of t.stands.parted.parts) pieces →
    SaysPieces g.start.sent sent1 g.start.edge.paused edge.paused (greeting_of g)
    (with_spoken (Some x) (is_end e.decision) (due_pieces g t.stands.parted.parts ++ pieces_for g for_epsv (turn_of (ALine x.line) earlier e))) →
    IsCut g state edge desk sent1 (x ∷ hs)
cut-heard g state edge desk sent sent1 x k hs rest earlier e pieces t is answer front says =
    let ps = t.stands.parted.parts in
    let turn = turn_of (ALine x.line) earlier e in
    record {
      rest = rest;
      parted = heard-parted g x k hs rest earlier e t is answer;
      front = front-pieces g state edge desk sent sent1 (turn ∷ turns_of ps) pieces _ front
          (subst (λ (b : Bool). SaysPieces g.start.sent sent1 g.start.edge.paused edge.paused (greeting_of g) (with_spoken (Some x) (is_end e.decision) (due_pieces g ps ++ pieces_for g b turn))) (sym t.epsv) says);
    }

-- it was cut short, or did not come
pub heard-cut : {state0 : ControlSession} {edge0 edge1 : EdgeView} {desk0 desk1 : DeskView} {sent0 : Option (List ℕ)} {for_epsv : Bool} (g : Ground) (state : ControlSession) (edge : EdgeView) (desk : DeskView) (sent : Option (List ℕ))
    (x : HeardLine) (k : EventKind) (hs : List HeardLine) (rest : List ℕ)
    (t : IsTaken g state0 edge0 edge1 desk0 desk1 sent0 x k for_epsv hs rest) →
    Halted g state edge desk sent (turns_of t.stands.parted.parts) (due_pieces g t.stands.parted.parts) (ALine x.line) k for_epsv →
    IsCut g state edge desk sent hs ⊎ IsCut g state edge desk sent (x ∷ hs)
heard-cut g state edge desk sent x k hs rest t (inl halted) = inl (record { rest = x.line ++ rest; parted = t.stands.parted; front = halted.0 })
heard-cut g state edge desk sent x k hs rest t (inr heard) =
    let front = heard.front in
    inr (cut-heard g state edge desk sent sent x k hs rest heard.earlier heard.entry _ t heard.kind heard.answer front
    (longer-more x (is_end heard.entry.decision) g.start.sent sent g.start.edge.paused edge.paused (greeting_of g) _ front.written))

-- it was answered, and of what is said on the line a part was said
pub heard-part : {state0 : ControlSession} {edge0 edge1 : EdgeView} {desk0 desk1 : DeskView} {sent0 : Option (List ℕ)} {for_epsv : Bool} (g : Ground) (state : ControlSession) (edge : EdgeView) (desk : DeskView) (sent sent1 : Option (List ℕ))
    (x : HeardLine) (k : EventKind) (d : Decision) (hs : List HeardLine) (rest : List ℕ)
    (t : IsTaken g state0 edge0 edge1 desk0 desk1 sent0 x k for_epsv hs rest) →
    Spoken g state edge desk sent (turns_of t.stands.parted.parts) (due_pieces g t.stands.parted.parts) (ALine x.line) k d for_epsv →
    is_end d ≡ false →
    WritesFront sent sent1 (lines_said x.extra) →
    IsCut g state edge desk sent1 (x ∷ hs)
heard-part g state edge desk sent sent1 x k d hs rest t spoken live wrote =
    let z = spoken.speaking in
    let at = edge.paused in
    cut-heard g state edge desk sent sent1 x k hs rest spoken.earlier spoken.entry _ t spoken.kind spoken.answer
    (front-same g state edge edge desk desk sent _ _ z (omega arith) refl (same_desk desk))
    (subst (SaysPieces g.start.sent sent1 g.start.edge.paused at (greeting_of g)) (sym (due-live x (is_end spoken.entry.decision) _ (ap is_end spoken.decision ∙ live)))
    (pieces-behind g.start.sent sent sent1 g.start.edge.paused at at (greeting_of g) _ (line_pieces x.extra) z.written z.paused (part-said x.extra sent sent1 at wrote)))

-- at an error it was cut short
pub heard-err : (r : Result Next Halt) (g : Ground) (state : ControlSession) (edge : EdgeView) (desk : DeskView) (sent : Option (List ℕ)) (hs : List HeardLine) (x : HeardLine) (rest : List ℕ) →
    IsErr r → IsCut g state edge desk sent hs ⊎ IsCut g state edge desk sent (x ∷ hs) → StandsBehindLine r g state edge desk sent hs x rest
heard-err (Ok next) g state edge desk sent hs x rest err cut = cc
heard-err (Err e) g state edge desk sent hs x rest err cut = cut

-- what was read of a line is as which command it is heard
pub read-heard : (refused : Bool) (line : List ℕ) (c : Command) → gives_password c ≡ false → IsHeardAs refused line c → heard_as line (parsed line) ≡ Some c
read-heard false line c unsecret read = ap (heard_as line) read ∙ ap (λ (b : Bool). cond b None (Some c)) unsecret
read-heard true line c unsecret read = ap (heard_as line) read.0 ∙ ap Some (sym read.1)

-- ---- what was heard

-- it goes on only where nothing was cut short
pub only-ok : {T E Q : Type 0} (r : Result T E) → OnErr r ⊥ → OnOk r Q → Q
only-ok (Ok x) none q = q
only-ok (Err e) none q = absurd none

-- one line more was heard
hears-more : (may0 may may1 : MayDoSo) (first pending pending1 : Option (List ℕ)) (hs : List HeardLine) (x : HeardLine) →
    HearsLines may0 first may pending hs →
    x.before ≡ pending → may x.who x.before x.command x.line x.extra x.after → x.after ≡ pending1 →
    ((who : AskerView) (before : Option (List ℕ)) (c : Command) (l : List ℕ) (y : Extra) (after : Option (List ℕ)) → may1 who before c l y after → may who before c l y after) →
    HearsLines may0 first may1 pending1 (x ∷ hs)
hears-more may0 may may1 first pending pending1 hs x h before done after kept =
    record {
      allowed = (h.allowed, before ∙ sym h.kept, h.within x.who x.before x.command x.line x.extra x.after done);
      kept = after;
      within = λ who b c l y a m. h.within who b c l y a (kept who b c l y a m);
    }

-- so the session stands behind a line that was heard, or was cut short before it or behind it
pub served-heard :
    (g : Ground) (state : ControlSession) (edge : EdgeView) (desk : DeskView) (sent : Option (List ℕ)) (rest : List ℕ) (r : Result Next Halt)
    (may0 may may1 : MayDoSo) (first pending pending1 : Option (List ℕ)) (hs : List HeardLine) (x : HeardLine) →
    HearsLines may0 first may pending hs →
    x.before ≡ pending → may x.who x.before x.command x.line x.extra x.after → x.after ≡ pending1 →
    ((who : AskerView) (before : Option (List ℕ)) (c : Command) (l : List ℕ) (y : Extra) (after : Option (List ℕ)) → may1 who before c l y after → may who before c l y after) →
    StandsBehindLine r g state edge desk sent hs x rest →
    ServesLines may0 first may1 pending1 r g state edge desk sent rest
served-heard g state edge desk sent rest r may0 may may1 first pending pending1 hs x hears before done after kept at = by r at where
  more : HearsLines may0 first may1 pending1 (x ∷ hs)
  more = hears-more may0 may may1 first pending pending1 hs x hears before done after kept

  by : (r : Result Next Halt) → StandsBehindLine r g state edge desk sent hs x rest → ServesLines may0 first may1 pending1 r g state edge desk sent rest
  by (Ok next) stands = (x ∷ hs, more.allowed, more, stands)
  by (Err e) (inl cut) = (hs, hears.allowed, tt, cut)
  by (Err e) (inr cut) = (x ∷ hs, more.allowed, tt, cut)

-- and so behind one that was not
pub served-kept :
    (g : Ground) (state : ControlSession) (edge : EdgeView) (desk : DeskView) (sent : Option (List ℕ)) (rest : List ℕ) (r : Result Next Halt)
    (may0 may : MayDoSo) (first pending : Option (List ℕ)) (hs : List HeardLine) →
    HearsLines may0 first may pending hs →
    StandsBehind due_at r g state edge desk sent hs rest →
    ServesLines may0 first may pending r g state edge desk sent rest
served-kept g state edge desk sent rest (Ok next) may0 may first pending hs hears served = (hs, hears.allowed, hears, served)
served-kept g state edge desk sent rest (Err e) may0 may first pending hs hears served = (hs, hears.allowed, tt, served)
