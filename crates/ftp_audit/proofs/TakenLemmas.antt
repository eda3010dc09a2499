-- What has taken the entries of a log, and what it knows after one more.
use Rattle.std.proofs.Common.{◌≡◌, sym, ◌∙◌, ap, ap₂, subst, ℕ, ◌+◌, ◌<◌, List, [], ◌∷◌, ◌++◌, length, take, drop, get_or, reverse, Option, arith}
use Rattle.std.specs.Prelude.{nat_eq}
use Rattle.std.specs.HashMap as map
use Rattle.std.specs.List.{flat_map}
use Rattle.std.specs.Option.{option_map}
use Rattle.std.proofs.lemmas.List.{reverse-append, take-append-drop, take_more}
use Rattle.std.proofs.lemmas.List.Concat.{flat_map-append}
use Rattle.ftp_options.specs.declared.options.Options.{Options}
use Rattle.ftp_transfer.specs.declared.job.Ticket.{Ticket}
use Rattle.ftp_events.specs.declared.entry.Entry.{Entry}
use Rattle.ftp_events.specs.Counts.{one_if}
use Rattle.ftp_events.specs.Right.{IsRight, IsActed}
use Rattle.ftp_events.specs.Tallies.{saturated}
use Rattle.ftp_laws.specs.Pieces.{moved_by}
use Rattle.ftp_audit.specs.declared.guest.Guest.{Guest}
use Rattle.ftp_audit.specs.declared.line.LogForm.{LogForm}
use Rattle.ftp_audit.specs.declared.request.Request.{Request}
use Rattle.ftp_audit.specs.declared.server_log.ServerLog.{ServerLog}
use Rattle.ftp_audit.specs.Forms.{log_line_text}
use Rattle.ftp_audit.specs.Guests.{guest_by}
use Rattle.ftp_audit.specs.Lines.{lines_by}
use Rattle.ftp_audit.specs.Requests.{request_acted, request_by_entry, with_more}
use Rattle.ftp_audit.specs.Tickets.{request_at}
use Rattle.ftp_audit.specs.Written.{HasTaken, Knows, Learns, is_lockout, lines_on, lockout_count, told_lines}
use Rattle.ftp_audit.proofs.GuestLemmas.{guest_in-more}
use Rattle.ftp_audit.proofs.RequestLemmas.{request_in-more}

-- the lines by what is known are those that the entry tells after the log
pub lines-known :
    (o : Options) (taken : ServerLog) (log : List Entry) (e : Entry) → HasTaken o taken log →
    lines_by (λ s. map.get nat_eq taken.guests s) (request_at taken.requests) e ≡ lines_on o log e
lines-known o taken log e h = λ i. lines_by (λ s. h.guests s i) (λ t. h.requests t i) e

-- counts that stand still, and more
pub more-still : (m n : ℕ) → saturated (saturated m + n) ≡ saturated (m + n)
more-still m n = omega arith

-- what is known after an entry, from what memory was taken for
pub knows-from :
    (old mid new : ServerLog) (e : Entry) → Learns old mid e →
    new.form ≡ mid.form → new.start ≡ mid.start → new.guests ≡ mid.guests →
    ((t : Ticket) → request_at new.requests t ≡ request_acted e.event.at e.actions t (option_map (with_more (moved_by t e)) (request_at mid.requests t))) →
    new.locked ≡ saturated (mid.locked + one_if (is_lockout e.decision)) →
    Knows old new e
knows-from old mid new e l form start guests heard locked =
    record {
      form = form ∙ l.form;
      start = start ∙ l.start;
      guests = λ s. ap (λ gs. map.get nat_eq gs s) guests ∙ l.guests s;
      requests = λ t. heard t ∙ ap (λ (r : Option Request). request_acted e.event.at e.actions t (option_map (with_more (moved_by t e)) r)) (l.requests t);
      locked = locked ∙ ap (λ (n : ℕ). saturated (n + one_if (is_lockout e.decision))) l.locked;
    }

-- so after an entry of a right and acted log all of it are taken
pub taken-more :
    (o : Options) (old new : ServerLog) (log : List Entry) (e : Entry) →
    Knows old new e → HasTaken o old log → IsRight o (e ∷ log) → IsActed o (e ∷ log) →
    HasTaken o new (e ∷ log)
taken-more o old new log e k h r a =
    record {
      right = r;
      acted = a;
      guests = λ s. k.guests s ∙ (ap (guest_by e s) (h.guests s) ∙ sym (guest_in-more o log e s r a));
      requests = λ t.
          k.requests t
          ∙ (ap₂ (λ (g : Option Guest) (x : Option Request). request_by_entry e t g x) (h.guests t.session) (h.requests t)
          ∙ sym (request_in-more o log e t));
      locked = k.locked ∙ (ap (λ (n : ℕ). saturated (n + one_if (is_lockout e.decision))) h.locked ∙ more-still (lockout_count log) (one_if (is_lockout e.decision)));
    }

-- a log is right up to each entry
right-behind : (o : Options) (newer older : List Entry) → IsRight o (newer ++ older) → IsRight o older
right-behind o [] older r = r
right-behind o (e ∷ newer) older r = right-behind o newer older r.0

acted-behind : (o : Options) (newer older : List Entry) → IsActed o (newer ++ older) → IsActed o older
acted-behind o [] older a = a
acted-behind o (e ∷ newer) older a = acted-behind o newer older a.0

parts : (items : List Entry) (i : ℕ) → reverse items ≡ reverse (drop i items) ++ reverse (take i items)
parts items i = ap reverse (sym (take-append-drop i items)) ∙ reverse-append (take i items) (drop i items)

pub right-front : (o : Options) (items : List Entry) (i : ℕ) → IsRight o (reverse items) → IsRight o (reverse (take i items))
right-front o items i r = right-behind o (reverse (drop i items)) (reverse (take i items)) (subst (IsRight o) (parts items i) r)

pub acted-front : (o : Options) (items : List Entry) (i : ℕ) → IsActed o (reverse items) → IsActed o (reverse (take i items))
acted-front o items i a = acted-behind o (reverse (drop i items)) (reverse (take i items)) (subst (IsActed o) (parts items i) a)

-- one entry more
pub one-more : (items : List Entry) (i : ℕ) (e : Entry) → i < length items → get_or items i e ≡ e → reverse (take (i + 1) items) ≡ e ∷ reverse (take i items)
one-more items i e lt is =
    ap reverse (take_more items i e lt) ∙ (reverse-append (take i items) (get_or items i e ∷ []) ∙ ap (λ (x : Entry). x ∷ reverse (take i items)) is)

-- after so many entries of a right and acted log these were taken, and the text is theirs
pub record IsSoFar (o : Options) (form : LogForm) (start : ℕ) (taken : ServerLog) (text : List ℕ) (log : List Entry) : Type 0 where
  pub known : HasTaken o taken log
  pub told : text ≡ flat_map (log_line_text form start) (told_lines o log)

-- and after one more
pub so-far-more :
    (o : Options) (form : LogForm) (start : ℕ) (old new : ServerLog) (before after : List ℕ) (log : List Entry) (e : Entry) →
    IsSoFar o form start old before log →
    HasTaken o new (e ∷ log) →
    after ≡ before ++ flat_map (log_line_text form start) (lines_on o log e) →
    IsSoFar o form start new after (e ∷ log)
so-far-more o form start old new before after log e h taken more =
    record {
      known = taken;
      told = more
          ∙ (ap (λ (text : List ℕ). text ++ flat_map (log_line_text form start) (lines_on o log e)) h.told
          ∙ sym (flat_map-append (log_line_text form start) (told_lines o log) (lines_on o log e)));
    }
