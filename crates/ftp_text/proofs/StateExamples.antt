-- Worked examples: a state and its text, lines that spell no line, and lines out of order.
use Rattle.std.proofs.Common.{◌≡◌, true, false, List, [], ◌∷◌, ◌++◌, Some, None, refl}
use Rattle.std.specs.Prelude.{codes}
use Rattle.std.specs.Fmt.{digits}
use Rattle.ftp_base.specs.declared.command.DataChanCmd.TheVariants as command
use Rattle.ftp_base.specs.declared.net.IpAddr.TheVariants.{V4, V6}
use Rattle.ftp_text.specs.Fields.{hex_digits}
use Rattle.ftp_hub.specs.declared.state.HubState.{HubState}
use Rattle.ftp_hub.specs.declared.state.LoginState.TheVariants as login
use Rattle.ftp_hub.specs.declared.state.SessionLine.{SessionLine}
use Rattle.ftp_hub.specs.declared.state.SlotKind.TheVariants as kept
use Rattle.ftp_text.specs.declared.state_line.StateLine.{StateLine}
use Rattle.ftp_text.specs.declared.state_line.StateLine.TheVariants as says
use Rattle.ftp_text.specs.Spelling.{state_line}
use Rattle.ftp_text.specs.Grammar.{AreInLineOrder, no_state, with_lines, follows, may_stand_behind}
use Rattle.ftp_text.specs.StateText.{state_text, lines_in}
use Rattle.ftp_text.specs.Walk.{walk}
use Rattle.ftp_text.proofs.Samples.{AreSpelled}

-- a client that logged in and asked for a passive port
abbrev ann : SessionLine
ann = record {
  session = 1;
  raw = record { ip = V4 167772161; port = 4000 };
  local = record { ip = V4 167772169; port = 21 };
  client = V4 167772161;
  trace = 1;
  state = login.Cmd;
  active = 1;
  offset = 0;
  tickets = 0;
  notices = 1;
  user = Some (codes "ann");
  cwd = codes "/";
}

abbrev lines : List StateLine
lines =
    says.Checkpoint 5 false
    ∷ says.Used (record { lo = 1; hi = 1 })
    ∷ says.Session ann
    ∷ says.Slot (record { session = 1; at = 1; what = kept.Waits 50000 })
    ∷ []

abbrev state : HubState
state = record {
  events = 5;
  stopped = false;
  used = record { lo = 1; hi = 1 } ∷ [];
  records = [];
  sessions = ann ∷ [];
  slots = record { session = 1; at = 1; what = kept.Waits 50000 } ∷ [];
  queued = [];
  jobs = [];
}

pub lines-in_order : AreInLineOrder lines
lines-in_order = (refl, (refl, (refl, (refl, tt))))

pub lines-say : with_lines no_state lines ≡ state
lines-say = refl

pub walk-state : walk state ≡ lines
walk-state = refl

pub text-state : state_text lines
    ≡ codes "checkpoint 1 5 0\nused 1 1\n"
    ++ codes "session 1 10.0.0.1:4000 10.0.0.9:21 10.0.0.1 1 cmd 1 0 0 1 3 ann/\n"
    ++ codes "slot 1 1 waits 50000\n"
unfolding digits
text-state = refl

-- ---- other lines

pub spelled_lines : AreSpelled state_line
    ((says.Record (record { count = 3; at = 70; ip = Some (V4 167772161); user = Some (codes "an n") }), codes "record 3 70 10.0.0.1 4 an n")
    ∷ (says.Record (record { count = 3; at = 70; ip = Some (V6 1); user = None }), codes "record 3 70 [00000000000000000000000000000001] - ")
    ∷ (says.Record (record { count = 3; at = 70; ip = None; user = Some (codes "ann") }), codes "record 3 70 - 3 ann")
    ∷ (says.Slot (record { session = 7; at = 9; what = kept.HasLink 11 }), codes "slot 7 9 link 11")
    ∷ (says.Queued (record { session = 7; nr = 2; offset = 5; command = command.Retr (codes "f"); path = codes "/f" }), codes "queued 7 2 5 retr - 1 f/f")
    ∷ (says.Queued (record { session = 7; nr = 2; offset = 0; command = command.List None None; path = codes "/d" }), codes "queued 7 2 0 list - - /d")
    ∷ (
      says.Job (record {
        job = record {
          ticket = record { session = 7; nr = 2 };
          user = codes "ann";
          command = command.Stor (codes "f");
          path = codes "/f";
          offset = 5;
          number = 11;
          done = 8192;
        };
        marked = true;
      }),
      codes "job 7 2 5 8192 1 11 stor 3 - 1 annf/f",
    )
    -- a byte that is no plain one is escaped, and lengths count bytes
    ∷ (says.Record (record { count = 1; at = 0; ip = None; user = Some (195 ∷ 164 ∷ 10 ∷ []) }), codes "record 1 0 - 3 \\xc3\\xa4\\x0a") ∷ [])
unfolding digits hex_digits
spelled_lines = refl

-- ---- lines of a text

pub lines-fed : lines_in (codes "a\n\nb\n") ≡ codes "a" ∷ [] ∷ codes "b" ∷ []
unfolding lines_in
lines-fed = refl

pub lines-unfed : lines_in (codes "a\nb") ≡ codes "a" ∷ codes "b" ∷ []
unfolding lines_in
lines-unfed = refl

-- ---- order

-- intervals that touch are one interval
pub touching : follows (says.Used (record { lo = 1; hi = 4 })) (says.Used (record { lo = 5; hi = 6 })) ≡ false
touching = refl

pub apart : follows (says.Used (record { lo = 1; hi = 4 })) (says.Used (record { lo = 6; hi = 6 })) ≡ true
apart = refl

-- a slot of another session
pub slot-other : may_stand_behind (says.Checkpoint 5 false ∷ says.Session ann ∷ []) (says.Slot (record { session = 2; at = 1; what = kept.Waits 50000 })) ≡ false
slot-other = refl

-- no second checkpoint
pub checkpoint-again : may_stand_behind lines (says.Checkpoint 6 false) ≡ false
checkpoint-again = refl
