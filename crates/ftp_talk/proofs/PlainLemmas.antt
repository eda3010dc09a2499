-- Without extras it is the talk.
use Rattle.std.proofs.Common.{◌≡◌, ℕ, Bool, true, false, List, [], ◌∷◌, ◌++◌, Option, Some, None, refl, sym, ap, subst, ◌∙◌, inl, inr}
use Rattle.std.specs.Prelude.{⊤}
use Rattle.std.specs.List.{AllByRecursion}
use Rattle.ftp_base.specs.Edge.{EdgeView}
use Rattle.ftp_events.specs.declared.event.Answer.{Answer}
use Rattle.ftp_events.specs.declared.event.HubEvent.{HubEvent}
use Rattle.ftp_control.specs.Line.{parsed}
use Rattle.ftp_extras.specs.declared.extra.Extra.{Extra}
use Rattle.ftp_extras.specs.declared.extra.Extra.TheVariants.{Pass}
use Rattle.ftp_shared.specs.Desk.{DeskView}
use Rattle.ftp_talk.specs.declared.serving.ServeEnd.{ServeEnd}
use Rattle.ftp_talk.specs.declared.serving.ServeEnd.TheVariants as end
use Rattle.ftp_talk.specs.Commands.{GivenBy}
use Rattle.ftp_talk.specs.Control.{IsServedTo, Serves}
use Rattle.ftp_talk.specs.ControlWith.{IsServedWith, ServesWith}
use Rattle.ftp_talk.specs.Extended.{PartsBefore, TalkHeard, TalkFrontHeard, OutcomeWith}
use Rattle.ftp_talk.specs.Ground.{Step, ALine, Turn, Start, Ground, history}
use Rattle.ftp_talk.specs.Parts.{HeardLine, TalkPart, turns_of, with_heard, heard_in, MayDoSo, AreAllowed, GivesMore, ComesWith, Parts, with_said, with_spoken, is_epsv_line, is_epsv_at, pieces_for, turn_pieces, due_pieces, pieces_by}
use Rattle.ftp_talk.specs.Pieces.{Pieces}
use Rattle.ftp_talk.specs.Speaking.{Outcome}
use Rattle.ftp_talk.specs.Talk.{Talk, TalkFront, TurnsBefore, ComesToEnd, IsCutShort, due_replies, closed_by}
use Rattle.ftp_talk.specs.Turns.{Due, LineDue, due, Comes, Turns}

-- on each line was done what the profile does
abbrev ArePlain : List HeardLine → Type 0
ArePlain hs = AllByRecursion (λ (x : HeardLine). x.extra ≡ Pass) hs

abbrev IsPlainAt : Option HeardLine → Type 0
IsPlainAt None = ⊤
IsPlainAt (Some x) = x.extra ≡ Pass

plain-first : (h : Option HeardLine) (hs : List HeardLine) → ArePlain (with_heard h hs) → IsPlainAt h
plain-first None hs all = tt
plain-first (Some x) hs all = all.0

plain-rest : (h : Option HeardLine) (hs : List HeardLine) → ArePlain (with_heard h hs) → ArePlain hs
plain-rest None hs all = all
plain-rest (Some x) hs all = all.1

-- a line that was heard comes as the profile has it
comes-plain : (g : Ground) (ts : List Turn) (h : Option HeardLine) (t : Turn) → ComesWith g ts h t → IsPlainAt h → Comes g (history g ts) (due ts) t.step t.entry.event.kind
comes-plain g ts None t c plain = c.0
comes-plain g ts (Some x) t c plain =
    let k = t.entry.event.kind in
    let h = history g ts in
    let given : GivenBy g h (parsed x.line) k = subst (λ (y : Extra). GivesMore g h x.line y k) plain c.gives in
    let comes : Comes g h LineDue (ALine x.line) k = (c.line, given) in
    subst (λ (d : Due). Comes g h d t.step k) (sym c.due) (subst (λ (s : Step). Comes g h LineDue s k) (sym c.step) comes)

turns-plain : (g : Ground) (ps : List TalkPart) → Parts g ps → ArePlain (heard_in ps) → Turns g (turns_of ps)
turns-plain g [] ruled plain = tt
turns-plain g (p ∷ ps) ruled plain = (
  turns-plain g ps ruled.0 (plain-rest p.heard (heard_in ps) plain),
  (comes-plain g (turns_of ps) p.heard p.turn ruled.1 (plain-first p.heard (heard_in ps) plain), ruled.2),
)

more-plain : (h : Option HeardLine) (over : Bool) (pieces : Pieces) → IsPlainAt h → with_spoken h over pieces ≡ pieces
more-plain None over pieces plain = refl
more-plain (Some x) true pieces plain = refl
more-plain (Some x) false pieces plain = ap (λ (y : Extra). with_said y pieces) plain

epsv-plain : (h : Option HeardLine) → IsPlainAt h → is_epsv_at h ≡ false
epsv-plain None plain = refl
epsv-plain (Some x) plain = ap is_epsv_line plain

-- what is to be said are the replies
pieces-plain : (g : Ground) (ps : List TalkPart) → ArePlain (heard_in ps) → due_pieces g ps ≡ due_replies g (turns_of ps)
pieces-plain g [] plain = refl
pieces-plain g (p ∷ ps) plain =
    let t = p.turn in
    let first = plain-first p.heard (heard_in ps) plain in
    more-plain p.heard _ (due_pieces g ps ++ pieces_for g (is_epsv_at p.heard) t) first
    ∙ ap (λ (b : Bool). due_pieces g ps ++ pieces_for g b t) (epsv-plain p.heard first)
    ∙ ap (λ (x : Pieces). x ++ turn_pieces g t) (pieces-plain g ps (plain-rest p.heard (heard_in ps) plain))

closed-plain : (g : Ground) (close : Option Turn) (ps : List TalkPart) → ArePlain (heard_in ps) → pieces_by g close ps ≡ due_replies g (closed_by close (turns_of ps))
closed-plain g None ps plain = pieces-plain g ps plain
closed-plain g (Some t) ps plain = ap (λ (x : Pieces). x ++ turn_pieces g t) (pieces-plain g ps plain)

abbrev turned-plain : (g : Ground) (hs : List HeardLine) (rest : List ℕ) → PartsBefore g hs rest → ArePlain hs → TurnsBefore g rest
turned-plain g hs rest p plain = record { turns = turns_of p.parts; cut = p.cut; ruled = turns-plain g p.parts p.ruled (subst ArePlain (sym p.heard) plain); long = p.long }

-- the law, of a talk and of one that was cut short
pub plain-talk : (g : Ground) (edge : EdgeView) (desk : DeskView) (sent : Option (List ℕ)) (hs : List HeardLine) → ArePlain hs → TalkHeard g edge desk sent hs → Talk g edge desk sent
plain-talk g edge desk sent hs plain t =
    let same = closed-plain g t.close t.parted.parts (subst ArePlain (sym t.parted.heard) plain) in
    record { rest = t.rest; turned = turned-plain g hs t.rest t.parted plain; close = t.close; ends = subst (ComesToEnd g edge desk sent (turns_of t.parted.parts) t.rest t.close) same t.ends }

pub plain-front : (g : Ground) (edge : EdgeView) (desk : DeskView) (sent : Option (List ℕ)) (hs : List HeardLine) → ArePlain hs → TalkFrontHeard g edge desk sent hs → TalkFront g edge desk sent
plain-front g edge desk sent hs plain t =
    let same = closed-plain g t.close t.parted.parts (subst ArePlain (sym t.parted.heard) plain) in
    record { rest = t.rest; turned = turned-plain g hs t.rest t.parted plain; close = t.close; ends = subst (IsCutShort g edge desk sent (turns_of t.parted.parts) t.close) same t.ends }

-- ---- where nothing else may be done

abbrev OnlyPasses : MayDoSo
OnlyPasses = λ who before c line x after. x ≡ Pass

allowed-plain : (first : Option (List ℕ)) (hs : List HeardLine) → AreAllowed OnlyPasses first hs → ArePlain hs
allowed-plain first [] allowed = tt
allowed-plain first (x ∷ hs) allowed = (allowed.2, allowed-plain first hs allowed.0)

outcome-plain : (first : Option (List ℕ)) (x : ServeEnd) (g : Ground) (edge : EdgeView) (desk : DeskView) (sent : Option (List ℕ)) →
    OutcomeWith OnlyPasses first x g edge desk sent → Outcome x g edge desk sent
outcome-plain first end.Ended g edge desk sent h = plain-talk g edge desk sent h.0 (allowed-plain first h.0 h.1) h.2
outcome-plain first (end.Refused d) g edge desk sent h = absurd h
outcome-plain first end.ReadFault g edge desk sent h = plain-front g edge desk sent h.0 (allowed-plain first h.0 h.1) h.2
outcome-plain first end.WriteFault g edge desk sent h = plain-front g edge desk sent h.0 (allowed-plain first h.0 h.1) h.2
outcome-plain first end.OutOfMemory g edge desk sent h = plain-front g edge desk sent h.0 (allowed-plain first h.0 h.1) h.2
outcome-plain first end.Exhausted g edge desk sent h = plain-front g edge desk sent h.0 (allowed-plain first h.0 h.1) h.2

served-plain : (first : Option (List ℕ)) (x : ServeEnd) (opening : HubEvent) (a : Answer) (start : Start) (edge : EdgeView) (desk : DeskView) (sent : Option (List ℕ)) →
    IsServedWith OnlyPasses first x opening a start edge desk sent → IsServedTo x opening a start edge desk sent
served-plain first x opening a start edge desk sent h =
    record { entry = h.entry; peer = h.peer; submitted = h.submitted; decision = h.decision; named = h.named; outcome = outcome-plain first x _ edge desk sent h.outcome }

pub serves-plain : (first : Option (List ℕ)) (x : ServeEnd) (opening : HubEvent) (a : Answer) (start : Start) (edge : EdgeView) (desk : DeskView) (sent : Option (List ℕ)) →
    ServesWith OnlyPasses first x opening a start edge desk sent → Serves x opening a start edge desk sent
serves-plain first end.Ended opening a start edge desk sent h = served-plain first end.Ended opening a start edge desk sent h
serves-plain first (end.Refused d) opening a start edge desk sent h = h
serves-plain first end.ReadFault opening a start edge desk sent h = served-plain first end.ReadFault opening a start edge desk sent h
serves-plain first end.WriteFault opening a start edge desk sent h = served-plain first end.WriteFault opening a start edge desk sent h
serves-plain first end.OutOfMemory opening a start edge desk sent (inl h) = inl h
serves-plain first end.OutOfMemory opening a start edge desk sent (inr h) = inr (served-plain first end.OutOfMemory opening a start edge desk sent h)
serves-plain first end.Exhausted opening a start edge desk sent (inl h) = inl h
serves-plain first end.Exhausted opening a start edge desk sent (inr h) = inr (served-plain first end.Exhausted opening a start edge desk sent h)
