-- Each event is read exactly from its line.
use Rattle.std.proofs.Common.{◌≡◌, ℕ, cond, eqb, List, [], ◌++◌, length, ◌^◌, ◌<◌, Some, None, refl, sym, ap, subst, ◌∙◌}
use Rattle.std.specs.Fmt.{decimal}
use Rattle.std.proofs.lemmas.Bool.{eqb-true}
use Rattle.std.proofs.lemmas.Option.{cond_some, none-some}
use Rattle.std.proofs.lemmas.List.{append-nil, nil_from_length}
use Rattle.ftp_base.specs.declared.command.DataChanCmd.TheVariants as command
use Rattle.ftp_base.specs.declared.message.ControlChanMsg.{ControlChanMsg}
use Rattle.ftp_events.specs.declared.event.EventKind.{EventKind}
use Rattle.ftp_events.specs.declared.event.EventKind.TheVariants as kind
use Rattle.ftp_events.specs.declared.event.HubEvent.{HubEvent}
use Rattle.ftp_text.specs.declared.event_word.EventWord.{EventWord}
use Rattle.ftp_text.specs.declared.event_word.EventWord.TheVariants as word
use Rattle.ftp_text.specs.Fields.{field, number}
use Rattle.ftp_text.specs.Forms.{Values, all_spelled}
use Rattle.ftp_text.specs.Message.{message_fields, message_at}
use Rattle.ftp_text.specs.Events.{event_word_text, form, told, word_field, told_text, kind_fields, event_line, HasNoOptions, InRange, IsKind, IsEvent}
use Rattle.ftp_text.specs.Reading.{◌>>=◌, Reader, number_at, word_value, word_at}
use Rattle.ftp_text.specs.EventReading.{event_words, event_word_field, kind_of, read_as, fields_at, event_of}
use Rattle.ftp_text.proofs.Exact.{Ends, IsNil, IsExact, bind_ok, made_takes, made_again, table_exact, number_exact}
use Rattle.ftp_text.proofs.LineLaws.{ReadsLines, spelled_lines}
use Rattle.ftp_text.proofs.FieldLemmas.{number_is}
use Rattle.ftp_text.proofs.FormLemmas.{form_starts, form_exact}

-- ---- words

event_word_is : IsExact (λ (w : EventWord). field (event_word_text w)) (λ w. Unit {0}) Ends event_word_field
event_word_is = table_exact event_word_text event_words refl (elim [ word.Connect ↦ refl | _ ↦ refl ])

-- ---- kinds, by their words

-- the event of a word says the word and its values, and no more
told-kind_of : (w : EventWord) (v : Values (form w)) → (told (kind_of w v) ≡ (w, v)) × HasNoOptions (kind_of w v)
told-kind_of word.List v = (refl, refl)
told-kind_of _ v = (refl, tt)

-- an event is that of what it says
kind_of-told : (k : EventKind) → HasNoOptions k → kind_of (told k).0 (told k).1 ≡ k
kind_of-told (kind.Transfer s (command.List (Some options) path)) h = absurd (none-some options (sym h))
kind_of-told (kind.Transfer s (command.List None path)) h = refl
kind_of-told _ h = refl

kind_fields-told : (k : EventKind) → kind_fields k ≡ told_text (told k)
kind_fields-told (kind.Transfer s (command.Retr path)) = refl
kind_fields-told _ = refl

read_as-word : (w : EventWord) → fields_at w ≡ read_as w
read_as-word word.Connect = refl
read_as-word _ = refl

-- what is read behind a word is what the word and its fields spell
fields_takes : (w : EventWord) (bytes : List ℕ) (y : EventKind × List ℕ) →
    fields_at w bytes ≡ Some y →
    (word_field w ++ bytes ≡ kind_fields y.0 ++ y.1) × IsKind y.0
unfolding read_as
fields_takes w bytes y e =
    made_takes (form_exact (form w)) (kind_of w) kind_fields IsKind (word_field w)
    (λ v. kind_fields-told (kind_of w v) ∙ ap told_text (told-kind_of w v).0)
    (λ v fits. (subst InRange (sym (told-kind_of w v).0) fits, (told-kind_of w v).1))
    bytes y (sym (ap (λ (read : Reader EventKind). read bytes) (read_as-word w)) ∙ e)

-- the fields of an event are read as the event
fields_again : (k : EventKind) (rest : List ℕ) → IsKind k → IsNil rest → fields_at (told k).0 (all_spelled (form (told k).0) (told k).1 ++ rest) ≡ Some (k, rest)
unfolding read_as
fields_again k rest fits h =
    ap (λ (read : Reader EventKind). read (all_spelled (form (told k).0) (told k).1 ++ rest)) (read_as-word (told k).0)
    ∙ made_again (form_exact (form (told k).0)) (kind_of (told k).0) (told k).1 rest fits.0 h
    ∙ ap (λ (x : EventKind). Some (x, rest)) (kind_of-told k fits.1)

-- ---- events

-- a moment, and a word and fields behind it, up to the end
whole : (line moment behind word fields read left : List ℕ) →
    line ≡ moment ++ behind → behind ≡ word ++ fields → word ++ fields ≡ read ++ left → left ≡ [] → moment ++ read ≡ line
whole line moment behind word fields read left first second third nothing =
    sym (first ∙ ap (λ (t : List ℕ). moment ++ t) (second ∙ third ∙ ap (λ (t : List ℕ). read ++ t) nothing ∙ append-nil read))

-- what is read is spelled by the whole line
pub event_takes : (line : List ℕ) (e : HubEvent) → event_of line ≡ Some e → (event_line e ≡ line) × IsEvent e
unfolding event_of
event_takes line e found =
    let a = bind_ok (number_at line) (λ at. event_word_field at.1 >>= λ w. fields_at w.0 w.1 >>= λ k. cond (eqb (length k.1) 0) (Some (record { at = at.0; kind = k.0 })) None) e found in
    let b = bind_ok (event_word_field a.0.1) (λ w. fields_at w.0 w.1 >>= λ k. cond (eqb (length k.1) 0) (Some (record { at = a.0.0; kind = k.0 })) None) e a.2 in
    let c = bind_ok (fields_at b.0.0 b.0.1) (λ k. cond (eqb (length k.1) 0) (Some (record { at = a.0.0; kind = k.0 })) None) e b.2 in
    let d = cond_some (eqb (length c.0.1) 0) (record { at = a.0.0; kind = c.0.0 }) e c.2 in
    let at = number_exact.takes line a.0 a.1 in
    let w = event_word_is.takes a.0.1 b.0 b.1 in
    let k = fields_takes b.0.0 b.0.1 c.0 c.1 in
    let nothing : c.0.1 ≡ [] = nil_from_length c.0.1 (eqb-true (length c.0.1) 0 d.0) in
    let read : HubEvent = record { at = a.0.0; kind = c.0.0 } in
    subst (λ (x : HubEvent). (event_line x ≡ line) × IsEvent x) {x = read} d.1
    (whole line (decimal a.0.0) a.0.1 (word_field b.0.0) b.0.1 (kind_fields c.0.0) c.0.1 at.0 w.0 k.0 nothing, (at.1, k.1))

-- what is spelled is read
pub event_again : (e : HubEvent) → IsEvent e → event_of (event_line e) ≡ Some e
unfolding event_of
event_again e fits =
    let w = (told e.kind).0 in
    let v = all_spelled (form w) (told e.kind).1 in
    let read = event_word_is.again w v tt (subst Ends (append-nil v) (form_starts (form w) (told e.kind).1 [] tt)) in
    let kind = ap (fields_at w) (sym (append-nil v)) ∙ fields_again e.kind [] fits.1 tt in
    ap (λ (t : List ℕ). event_of (decimal e.at ++ t)) (kind_fields-told e.kind)
    ∙ rw (number_exact.again e.at (word_field w ++ v) fits.0 refl, read, kind) refl

-- no message is nothing
message_none : message_at [] ≡ None
unfolding message_at word_value word_at
message_none = refl

-- of a message that has no word no event is read
pub event_none : (at s : ℕ) (m : ControlChanMsg) → at < 2 ^ 64 → s < 2 ^ 64 → message_fields m ≡ [] →
    event_of (event_line (record { at = at; kind = kind.Internal s m })) ≡ None
unfolding event_of read_as
event_none at s m fits session wordless =
    let line : number s ++ message_fields m ≡ number s ++ [] = ap (λ (t : List ℕ). number s ++ t) wordless in
    let read = event_word_is.again word.Internal (number s ++ []) tt refl in
    ap (λ (t : List ℕ). event_of (decimal at ++ (word_field word.Internal ++ t))) line
    ∙ rw (number_exact.again at (word_field word.Internal ++ (number s ++ [])) fits refl, read, number_is.again s [] session tt, message_none) refl

pub reads_lines : ReadsLines (λ line e. (event_line e ≡ line) × IsEvent e) event_of
reads_lines = spelled_lines event_takes event_again
