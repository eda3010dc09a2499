-- What holds of a talk with extras, whatever they may do.
--   IsTalkWithoutExtras   where none does anything, it is the talk
--   SaysReplies           what was said on the lines left out, it says the replies of its turns, an EPSV's as an EPSV has it
--   KeepsSession          login, name, directory, offset, slot and transfers are those of its turns without the lines on which a
--                         message was told or bytes were said
use Rattle.std.specs.Prelude.{◌≡◌, ℕ, ◌⊎◌, Bool, true, false, List, [], ◌∷◌, ◌++◌, Option, Some, None, if◌then◌else◌}
use Rattle.std.specs.List.{AllByRecursion}
use Rattle.ftp_base.specs.Edge.{EdgeView}
use Rattle.ftp_events.specs.declared.entry.Entry.{Entry}
use Rattle.ftp_events.specs.Login.{login_state, user_name}
use Rattle.ftp_events.specs.Place.{cwd, offset, ticket_count}
use Rattle.ftp_events.specs.Slot.{lane}
use Rattle.ftp_extras.specs.declared.extra.Extra.{Extra}
use Rattle.ftp_extras.specs.declared.extra.Extra.TheVariants as extra
use Rattle.ftp_shared.specs.Desk.{DeskView}
use Rattle.ftp_talk.specs.Extended.{TalkHeard, TalkFrontHeard}
use Rattle.ftp_talk.specs.Ground.{Ground, history}
use Rattle.ftp_talk.specs.Parts.{HeardLine, TalkPart, turns_of, Parts, with_spoken, is_epsv_at, pieces_for, due_pieces}
use Rattle.ftp_talk.specs.Pieces.{Pieces}
use Rattle.ftp_talk.specs.Talk.{Talk, TalkFront, AreVouched, due_replies}
use Rattle.ftp_talk.specs.Turns.{is_end}

-- where on each line was done what the profile does, it is the talk
abbrev pub IsTalkWithoutExtras : Type 0
IsTalkWithoutExtras =
    (g : Ground) (edge : EdgeView) (desk : DeskView) (sent : Option (List ℕ)) (hs : List HeardLine) →
    AllByRecursion (λ (x : HeardLine). x.extra ≡ extra.Pass) hs →
    (TalkHeard g edge desk sent hs → Talk g edge desk sent) × (TalkFrontHeard g edge desk sent hs → TalkFront g edge desk sent)

-- these pieces are those of two lists, in their order
abbrev pub IsMerged : Pieces → Pieces → Pieces → Type 0
IsMerged a b [] = (a ≡ []) × (b ≡ [])
IsMerged a b (p ∷ pieces) = ((rest : Pieces) × (a ≡ p ∷ rest) × IsMerged rest b pieces) ⊎ ((rest : Pieces) × (b ≡ p ∷ rest) × IsMerged a rest pieces)

-- what was said on lines
abbrev pub said_on_lines : List TalkPart → Pieces
said_on_lines [] = []
said_on_lines (p ∷ ps) = said_on_lines ps ++ with_spoken p.heard (is_end p.turn.entry.decision) []

-- the replies of the turns, where that to an EPSV which is granted a port stands in place of that to its PASV
abbrev pub replies_in_form : Ground → List TalkPart → Pieces
replies_in_form g [] = []
replies_in_form g (p ∷ ps) = replies_in_form g ps ++ pieces_for g (is_epsv_at p.heard) p.turn

-- no line is an EPSV
abbrev pub HasNoEpsv : List TalkPart → Type 0
HasNoEpsv ps = AllByRecursion (λ (p : TalkPart). is_epsv_at p.heard ≡ false) ps

-- what is to be said are the replies of the turns, and between them what is said on lines; without an EPSV they are those of a
-- talk
abbrev pub SaysReplies : Type 0
SaysReplies =
    (g : Ground) (ps : List TalkPart) →
    IsMerged (replies_in_form g ps) (said_on_lines ps) (due_pieces g ps) × (HasNoEpsv ps → replies_in_form g ps ≡ due_replies g (turns_of ps))

-- a message was told, or bytes were said
abbrev pub is_told : Extra → Bool
is_told (extra.Tell m) = true
is_told (extra.Say bytes) = true
is_told _ = false

abbrev pub is_told_at : Option HeardLine → Bool
is_told_at None = false
is_told_at (Some x) = is_told x.extra

-- the parts without those in which a message was told or bytes were said
abbrev pub untold : List TalkPart → List TalkPart
untold [] = []
untold (p ∷ ps) = if is_told_at p.heard then untold ps else p ∷ untold ps

-- what these entries tell of a session is what those tell
pub record TellTheSame (a b : List Entry) : Type 0 where
  pub login : login_state a ≡ login_state b
  pub name : user_name a ≡ user_name b
  pub cwd : cwd a ≡ cwd b
  pub offset : offset a ≡ offset b
  pub slot : lane a ≡ lane b
  pub transfers : ticket_count a ≡ ticket_count b

-- where the desk vouches for the entries
abbrev pub KeepsSession : Type 0
KeepsSession =
    (g : Ground) (ps : List TalkPart) → Parts g ps → g.start.vouches ≡ true → AreVouched g (turns_of ps) →
    TellTheSame (history g (turns_of ps)) (history g (turns_of (untold ps)))
