-- The talk on a control connection where more is done on some lines than the profile does, as a relation on the whole input.
use Rattle.std.specs.Prelude.{◌≡◌, ℕ, true, List, ◌++◌, Option}
use Rattle.ftp_base.specs.Edge.{EdgeView}
use Rattle.ftp_shared.specs.Desk.{DeskView}
use Rattle.ftp_control.specs.ControlLine.{IsLong}
use Rattle.ftp_talk.specs.declared.serving.ServeEnd.{ServeEnd}
use Rattle.ftp_talk.specs.declared.serving.ServeEnd.TheVariants as end
use Rattle.ftp_talk.specs.Ground.{Turn, Ground, lines_in}
use Rattle.ftp_talk.specs.Parts.{HeardLine, TalkPart, turns_of, heard_in, MayDoSo, AreAllowed, Parts, pieces_by}
use Rattle.ftp_talk.specs.Talk.{IsInput, is_long_last, ComesToEnd, IsCutShort}

-- parts of a talk in which these lines were heard, and behind them this rest of the input
pub record PartsBefore (g : Ground) (hs : List HeardLine) (rest : List ℕ) : Type 0 where
  pub parts : List TalkPart
  pub cut : IsInput g.start.input (lines_in (turns_of parts) ++ rest)
  pub ruled : Parts g parts
  pub heard : heard_in parts ≡ hs
  pub long : is_long_last (turns_of parts) ≡ true → IsLong rest

-- a talk in which these lines were heard: as a talk of the profile, but for the events of those lines, and what is said on
-- them
pub record TalkHeard (g : Ground) (edge : EdgeView) (desk : DeskView) (sent : Option (List ℕ)) (hs : List HeardLine) : Type 0 where
  pub rest : List ℕ
  pub parted : PartsBefore g hs rest
  pub close : Option Turn
  pub ends : ComesToEnd g edge desk sent (turns_of parted.parts) rest close (pieces_by g close parted.parts)

-- such a talk that was cut short
pub record TalkFrontHeard (g : Ground) (edge : EdgeView) (desk : DeskView) (sent : Option (List ℕ)) (hs : List HeardLine) : Type 0 where
  pub rest : List ℕ
  pub parted : PartsBefore g hs rest
  pub close : Option Turn
  pub ends : IsCutShort g edge desk sent (turns_of parted.parts) close (pieces_by g close parted.parts)

-- a talk in which on each line was done what may be done
abbrev pub TalkWith : MayDoSo → Option (List ℕ) → Ground → EdgeView → DeskView → Option (List ℕ) → Type 0
TalkWith may first g edge desk sent = (hs : List HeardLine) × AreAllowed may first hs × TalkHeard g edge desk sent hs

-- such a talk that was cut short
abbrev pub TalkFrontWith : MayDoSo → Option (List ℕ) → Ground → EdgeView → DeskView → Option (List ℕ) → Type 0
TalkFrontWith may first g edge desk sent = (hs : List HeardLine) × AreAllowed may first hs × TalkFrontHeard g edge desk sent hs

-- how a talk ended
abbrev pub OutcomeWith : MayDoSo → Option (List ℕ) → ServeEnd → Ground → EdgeView → DeskView → Option (List ℕ) → Type 0
OutcomeWith may first end.Ended g edge desk sent = TalkWith may first g edge desk sent
OutcomeWith may first (end.Refused d) g edge desk sent = ⊥
OutcomeWith may first _ g edge desk sent = TalkFrontWith may first g edge desk sent
