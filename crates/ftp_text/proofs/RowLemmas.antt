-- What stands behind the word of each line is read exactly.
use Rattle.std.proofs.Common.{◌≡◌, ℕ, ◌^◌, ◌<◌, ◌&&◌, Bool, true, cond, eqb, List, [], ◌++◌, length, Option, Some, None, refl, sym, ap, subst, ◌∙◌, append_assoc, arith}
use Rattle.std.specs.Prelude.{codes}
use Rattle.std.specs.Option.{option_map}
use Rattle.std.proofs.lemmas.Bool.{eqb-true, and_parts}
use Rattle.std.proofs.lemmas.Option.{cond_some}
use Rattle.std.proofs.lemmas.List.{append-nil, nil_from_length}
use Rattle.ftp_base.specs.declared.command.DataChanCmd.{DataChanCmd}
use Rattle.ftp_base.specs.Command.{path_of}
use Rattle.ftp_text.specs.Fields.{field, number, ip_text, address_text, escape, optional, Each, IsAddress, IsIp, IsNumber, IsText}
use Rattle.ftp_text.specs.Reading.{◌>>=◌, pair, tested, behind_text, number_field, word_value}
use Rattle.ftp_text.proofs.Exact.{Ends, IsNil, Ends-from_nil, IsExact, exact_weaker, bind_ok, some_is, pair_exact, tested_exact, made_takes, made_again, behind_text_exact}
use Rattle.ftp_text.proofs.FieldLemmas.{number_is, small_is, port_is, address_is, ip_is, optional_ip_is, optional_number_is}
use Rattle.ftp_text.proofs.Values.{text_exact}
use Rattle.std.specs.Fmt.{decimal}
use Rattle.ftp_hub.specs.declared.state.JobLine.{JobLine}
use Rattle.ftp_hub.specs.declared.state.QueuedLine.{QueuedLine}
use Rattle.ftp_hub.specs.declared.state.RecordLine.{RecordLine}
use Rattle.ftp_hub.specs.declared.state.SessionLine.{SessionLine}
use Rattle.ftp_hub.specs.declared.state.SlotKind.{SlotKind}
use Rattle.ftp_hub.specs.declared.state.SlotKind.TheVariants as kept
use Rattle.ftp_text.specs.declared.state_line.StateLine.TheVariants as says
use Rattle.ftp_events.specs.declared.status.CommandWord.{CommandWord}
use Rattle.ftp_text.specs.LineWords.{SlotWord}
use Rattle.ftp_text.specs.LineWords as word
use Rattle.ftp_events.specs.Statuses.{word_of}
use Rattle.ftp_text.specs.Spelling.{login_state_text, slot_word_text, command_word_text, bit, bytes_or_none, slot_kind_fields, command_options, command_lengths, command_parts, command_field, record_fields, session_fields, queued_fields, job_fields, is_from_root, has_key, HasPieces, IsSessionLine, IsSlotKind, IsQueuedLine, IsJobLine, IsStateLine}
use Rattle.ftp_text.specs.StateLineReading.{slot_words, cut_at, cut_off, bit_field, Lengths, command_in, has_number, RecordFields, record_of, record_at, OpeningFields, opening_at, ProgressFields, progress_at, SessionFields, session_with, session_of, session_at, slot_kind_behind, slot_kind_at, QueuedFields, queued_of, queued_at, RunFields, run_at, JobFields, job_with, job_of, job_at}
use Rattle.ftp_text.proofs.Checked.{checked_exact}
use Rattle.ftp_text.proofs.Lists.{text-parts, text-append}
use Rattle.ftp_text.proofs.Pieces.{cut_at-takes, cut_at-again, cut_off-takes, cut_off-again, cut-fits, piece-length, piece-text, IsCommandIn, command_in-takes, command_in-again, parts-text}
use Rattle.ftp_text.proofs.CellLemmas.{login_is, slot_word_is, command_word_is, bit_is, lengths_is, maybe_starts}

-- ---- the lines without texts

pub checkpoint_is : IsExact (λ (x : ℕ × Bool). codes " 1" ++ (number x.0 ++ bit x.1)) (λ (x : ℕ × Bool). IsNumber x.0 × Unit {0}) IsNil (behind_text (codes " 1") (pair number_field bit_field))
checkpoint_is = behind_text_exact (codes " 1") (pair_exact number_is (exact_weaker bit_is Ends-from_nil) (λ y rest h. refl))

pub used_is : IsExact (λ (x : ℕ × ℕ). number x.0 ++ number x.1) (λ (x : ℕ × ℕ). (IsNumber x.0 × IsNumber x.1) × (has_number x ≡ true)) IsNil (tested has_number (pair number_field number_field))
used_is = tested_exact has_number (pair_exact number_is (exact_weaker number_is Ends-from_nil) (λ y rest h. refl))

-- what a slot has, behind its word
kind_takes : (w : SlotWord) (bytes : List ℕ) (y : SlotKind × List ℕ) → slot_kind_behind w bytes ≡ Some y → (field (slot_word_text w) ++ bytes ≡ slot_kind_fields y.0 ++ y.1) × IsSlotKind y.0
kind_takes word.Waits bytes y e = made_takes port_is kept.Waits slot_kind_fields IsSlotKind (field (slot_word_text word.Waits)) (λ x. refl) (λ x f. f) bytes y e
kind_takes word.Link bytes y e = made_takes number_is kept.HasLink slot_kind_fields IsSlotKind (field (slot_word_text word.Link)) (λ x. refl) (λ x f. f) bytes y e

kind_again : (v : SlotKind) (rest : List ℕ) → IsSlotKind v → IsNil rest → slot_kind_at (slot_kind_fields v ++ rest) ≡ Some (v, rest)
unfolding slot_kind_at
kind_again (kept.Waits port) rest fits follows =
    ap slot_kind_at (append_assoc (field (slot_word_text word.Waits)) (number port) rest)
    ∙ rw (slot_word_is.again word.Waits (number port ++ rest) tt refl) (made_again port_is kept.Waits port rest fits (Ends-from_nil rest follows))
kind_again (kept.HasLink n) rest fits follows =
    ap slot_kind_at (append_assoc (field (slot_word_text word.Link)) (number n) rest)
    ∙ rw (slot_word_is.again word.Link (number n ++ rest) tt refl) (made_again number_is kept.HasLink n rest fits (Ends-from_nil rest follows))

kind_is : IsExact slot_kind_fields IsSlotKind IsNil slot_kind_at
unfolding slot_kind_at
kind_is = record {
  takes = λ bytes y e.
      let w = bind_ok (word_value slot_word_text slot_words bytes) (λ w. slot_kind_behind w.0 w.1) y e in
      let t = slot_word_is.takes bytes w.0 w.1 in
      let k = kind_takes w.0.0 w.0.1 y w.2 in
      (t.0 ∙ k.0, k.1);
  again = kind_again;
}

kind_starts : (v : SlotKind) (rest : List ℕ) → Ends (slot_kind_fields v ++ rest)
kind_starts (kept.Waits port) rest = refl
kind_starts (kept.HasLink n) rest = refl

abbrev pub SlotFields : Type 0
SlotFields = ℕ × (ℕ × SlotKind)

pub slot_is : IsExact (λ (x : SlotFields). number x.0 ++ (number x.1.0 ++ slot_kind_fields x.1.1)) (λ (x : SlotFields). IsNumber x.0 × (IsNumber x.1.0 × IsSlotKind x.1.1)) IsNil (pair number_field (pair number_field slot_kind_at))
slot_is = pair_exact number_is (pair_exact number_is kind_is (λ y rest h. kind_starts y rest)) (λ y rest h. refl)

-- ---- records

abbrev record_spelled : RecordFields → List ℕ
record_spelled x = number x.0 ++ (number x.1.0 ++ (optional ip_text x.1.1.0 ++ (optional decimal x.1.1.1.0 ++ field (escape x.1.1.1.1))))

abbrev RecordFits : RecordFields → Type 0
RecordFits x = (x.0 < 2 ^ 32) × (IsNumber x.1.0 × (Each IsIp x.1.1.0 × (Each IsNumber x.1.1.1.0 × IsText x.1.1.1.1)))

abbrev record_back : RecordLine → RecordFields
record_back r = (r.count, (r.at, (r.ip, (option_map length r.user, bytes_or_none r.user))))

abbrev pub IsRecordFit : RecordLine → Type 0
IsRecordFit r = IsStateLine (says.Record r)

record_forth : (x : RecordFields) (r : RecordLine) → RecordFits x → record_of x ≡ Some r → (record_spelled x ≡ record_fields r) × IsRecordFit r
unfolding record_of
record_forth x r fits e =
    let text : List ℕ = x.1.1.1.1 in
    let n : Option ℕ = x.1.1.1.0 in
    let a = bind_ok (cut_off n text) (λ u. cond (eqb (length u.1) 0 && has_key (record { count = x.0; at = x.1.0; ip = x.1.1.0; user = u.0 })) (Some (record { count = x.0; at = x.1.0; ip = x.1.1.0; user = u.0 })) None) r e in
    let made_record : RecordLine = record { count = x.0; at = x.1.0; ip = x.1.1.0; user = a.0.0 } in
    let b = cond_some (eqb (length a.0.1) 0 && has_key made_record) made_record r a.2 in
    let c = and_parts (eqb (length a.0.1) 0) (has_key made_record) b.0 in
    let t = cut_off-takes n text a.0 a.1 in
    let nothing : a.0.1 ≡ [] = nil_from_length a.0.1 (eqb-true (length a.0.1) 0 c.0) in
    let whole : text ≡ bytes_or_none a.0.0 = t.0 ∙ ap (λ (u : List ℕ). bytes_or_none a.0.0 ++ u) nothing ∙ append-nil (bytes_or_none a.0.0) in
    let p = cut-fits n text a.0.0 a.0.1 t.0 t.1 fits.1.1.1.1 fits.1.1.1.0 in
    subst (λ (s : RecordLine). (record_spelled x ≡ record_fields s) × IsRecordFit s) b.1 (
      ap (λ (l : Option ℕ). number x.0 ++ (number x.1.0 ++ (optional ip_text x.1.1.0 ++ (optional decimal l ++ field (escape text))))) t.1
          ∙ ap (λ (u : List ℕ). number x.0 ++ (number x.1.0 ++ (optional ip_text x.1.1.0 ++ (optional decimal (option_map length a.0.0) ++ field (escape u))))) whole,
      (fits.0, fits.1.0, fits.1.1.0, p.0, c.1),
    )

record_there : (r : RecordLine) → IsRecordFit r → RecordFits (record_back r) × (record_of (record_back r) ≡ Some r) × (record_fields r ≡ record_spelled (record_back r))
unfolding record_of
record_there r fits =
    let again : cut_off (option_map length r.user) (bytes_or_none r.user) ≡ Some (r.user, []) =
    ap (cut_off (option_map length r.user)) (sym (append-nil (bytes_or_none r.user))) ∙ cut_off-again r.user [] in (
      (fits.0, (fits.1, (fits.2, (piece-length r.user fits.3, piece-text r.user fits.3)))),
      rw (again, fits.4) refl,
      refl,
    )

pub record_is : IsExact record_fields IsRecordFit IsNil record_at
unfolding record_at
record_is =
    checked_exact
    (pair_exact (small_is (2 ^ 32) (omega arith))
    (pair_exact number_is (pair_exact optional_ip_is (pair_exact optional_number_is text_exact (λ y rest h. refl)) (λ y rest h. maybe_starts decimal y.0 (field (escape y.1)) rest)) (λ y rest h. maybe_starts ip_text y.0 (optional decimal y.1.0 ++ field (escape y.1.1)) rest))
    (λ y rest h. refl))
    record_of record_back record_fields IsRecordFit record_forth record_there

-- ---- sessions

abbrev opening_spelled : OpeningFields → List ℕ
opening_spelled x = number x.0 ++ (field (address_text x.1.0) ++ (field (address_text x.1.1.0) ++ (field (ip_text x.1.1.1.0) ++ number x.1.1.1.1)))

abbrev OpeningFits : OpeningFields → Type 0
OpeningFits x = IsNumber x.0 × (IsAddress x.1.0 × (IsAddress x.1.1.0 × (IsIp x.1.1.1.0 × IsNumber x.1.1.1.1)))

opening_is : IsExact opening_spelled OpeningFits Ends opening_at
unfolding opening_at
opening_is =
    pair_exact number_is
    (pair_exact address_is (pair_exact address_is (pair_exact ip_is number_is (λ y rest h. refl)) (λ y rest h. refl)) (λ y rest h. refl))
    (λ y rest h. refl)

abbrev progress_spelled : ProgressFields → List ℕ
progress_spelled x = field (login_state_text x.0) ++ (number x.1.0 ++ (number x.1.1.0 ++ (number x.1.1.1.0 ++ number x.1.1.1.1)))

abbrev ProgressFits : ProgressFields → Type 0
ProgressFits x = Unit {0} × (IsNumber x.1.0 × (IsNumber x.1.1.0 × (IsNumber x.1.1.1.0 × IsNumber x.1.1.1.1)))

progress_is : IsExact progress_spelled ProgressFits Ends progress_at
unfolding progress_at
progress_is =
    pair_exact login_is
    (pair_exact number_is (pair_exact number_is (pair_exact number_is number_is (λ y rest h. refl)) (λ y rest h. refl)) (λ y rest h. refl))
    (λ y rest h. refl)

abbrev session_spelled : SessionFields → List ℕ
session_spelled x = opening_spelled x.0 ++ (progress_spelled x.1.0 ++ (optional decimal x.1.1.0 ++ field (escape x.1.1.1)))

abbrev SessionFits : SessionFields → Type 0
SessionFits x = OpeningFits x.0 × (ProgressFits x.1.0 × (Each IsNumber x.1.1.0 × IsText x.1.1.1))

abbrev session_back : SessionLine → SessionFields
session_back s = (
  (s.session, (s.raw, (s.local, (s.client, s.trace)))),
  ((s.state, (s.active, (s.offset, (s.tickets, s.notices)))), (option_map length s.user, bytes_or_none s.user ++ s.cwd)),
)

session_forth : (x : SessionFields) (s : SessionLine) → SessionFits x → session_of x ≡ Some s → (session_spelled x ≡ session_fields s) × IsSessionLine s
unfolding session_of
session_forth x s fits e =
    let text : List ℕ = x.1.1.1 in
    let n : Option ℕ = x.1.1.0 in
    let a = bind_ok (cut_off n text) (λ u. cond (is_from_root u.1) (Some (session_with x u.0 u.1)) None) s e in
    let b = cond_some (is_from_root a.0.1) (session_with x a.0.0 a.0.1) s a.2 in
    let t = cut_off-takes n text a.0 a.1 in
    let p = cut-fits n text a.0.0 a.0.1 t.0 t.1 fits.1.1.1 fits.1.1.0 in
    subst (λ (l : SessionLine). (session_spelled x ≡ session_fields l) × IsSessionLine l) b.1 (
      ap (λ (l : Option ℕ). opening_spelled x.0 ++ (progress_spelled x.1.0 ++ (optional decimal l ++ field (escape text)))) t.1
          ∙ ap (λ (u : List ℕ). opening_spelled x.0 ++ (progress_spelled x.1.0 ++ (optional decimal (option_map length a.0.0) ++ field (escape u)))) t.0,
      record {
        session = fits.0.0;
        raw = fits.0.1.0;
        local = fits.0.1.1.0;
        client = fits.0.1.1.1.0;
        trace = fits.0.1.1.1.1;
        active = fits.1.0.1.0;
        offset = fits.1.0.1.1.0;
        tickets = fits.1.0.1.1.1.0;
        notices = fits.1.0.1.1.1.1;
        user = p.0;
        cwd = (p.1, b.0);
      },
    )

session_there : (s : SessionLine) → IsSessionLine s → SessionFits (session_back s) × (session_of (session_back s) ≡ Some s) × (session_fields s ≡ session_spelled (session_back s))
unfolding session_of
session_there s f = (
  (
    (f.session, (f.raw, (f.local, (f.client, f.trace)))),
    ((tt, (f.active, (f.offset, (f.tickets, f.notices)))), (piece-length s.user f.user, text-append (bytes_or_none s.user) s.cwd (piece-text s.user f.user) f.cwd.0)),
  ),
  rw (cut_off-again s.user s.cwd, f.cwd.1) refl,
  refl,
)

pub session_is : IsExact session_fields IsSessionLine IsNil session_at
unfolding session_at
session_is =
    checked_exact
    (pair_exact opening_is
    (pair_exact progress_is (pair_exact optional_number_is text_exact (λ y rest h. refl)) (λ y rest h. maybe_starts decimal y.0 (field (escape y.1)) rest))
    (λ y rest h. refl))
    session_of session_back session_fields IsSessionLine session_forth session_there

-- ---- transfers

abbrev lengths_of : DataChanCmd → Lengths
lengths_of c = (option_map length (command_options c), option_map length (path_of c))

lengths_fit : (c : DataChanCmd) → HasPieces c → Each IsNumber (lengths_of c).0 × Each IsNumber (lengths_of c).1
lengths_fit c pieces = (piece-length (command_options c) pieces.0, piece-length (path_of c) pieces.1)

-- the fields of a command, by its word and its lengths
abbrev transfer_spelled : CommandWord → Lengths → List ℕ → List ℕ → List ℕ
transfer_spelled w lengths between text =
    field (command_word_text w) ++ (between ++ ((optional decimal lengths.0 ++ optional decimal lengths.1) ++ field (escape text)))

lengths_starts : (lengths : Lengths) (more rest : List ℕ) → Ends (((optional decimal lengths.0 ++ optional decimal lengths.1) ++ more) ++ rest)
lengths_starts (None, m) more rest = refl
lengths_starts (Some n, m) more rest = refl

-- what was read is the command's
command_spelled : (w : CommandWord) (lengths : Lengths) (text : List ℕ) (x : DataChanCmd × List ℕ) → IsCommandIn w lengths text x →
    (field (command_word_text w) ≡ command_field x.0) × ((optional decimal lengths.0 ++ optional decimal lengths.1) ++ field (escape text) ≡ command_lengths x.0 ++ field (escape (command_parts x.0 x.1)))
command_spelled w lengths text x is = (
  ap (λ (v : CommandWord). field (command_word_text v)) (sym is.word),
  ap (λ (n : Option ℕ). (optional decimal n ++ optional decimal lengths.1) ++ field (escape text)) is.options
      ∙ ap (λ (n : Option ℕ). (optional decimal (option_map length (command_options x.0)) ++ optional decimal n) ++ field (escape text)) is.argument
      ∙ ap (λ (t : List ℕ). command_lengths x.0 ++ field (escape t)) is.text_is,
)

abbrev queued_spelled : QueuedFields → List ℕ
queued_spelled x =
    number x.0 ++ (number x.1.0 ++ (number x.1.1.0
    ++ (field (command_word_text x.1.1.1.0) ++ ((optional decimal x.1.1.1.1.0.0 ++ optional decimal x.1.1.1.1.0.1) ++ field (escape x.1.1.1.1.1)))))

abbrev QueuedFits : QueuedFields → Type 0
QueuedFits x = IsNumber x.0 × (IsNumber x.1.0 × (IsNumber x.1.1.0 × (Unit {0} × ((Each IsNumber x.1.1.1.1.0.0 × Each IsNumber x.1.1.1.1.0.1) × IsText x.1.1.1.1.1))))

abbrev queued_back : QueuedLine → QueuedFields
queued_back q = (q.session, (q.nr, (q.offset, (word_of q.command, (lengths_of q.command, command_parts q.command q.path)))))

abbrev queued_with : QueuedFields → DataChanCmd → List ℕ → QueuedLine
queued_with x c path = record { session = x.0; nr = x.1.0; offset = x.1.1.0; command = c; path = path }

queued_forth : (x : QueuedFields) (q : QueuedLine) → QueuedFits x → queued_of x ≡ Some q → (queued_spelled x ≡ queued_fields q) × IsQueuedLine q
unfolding queued_of
queued_forth x q fits e =
    let w : CommandWord = x.1.1.1.0 in
    let lengths : Lengths = x.1.1.1.1.0 in
    let text : List ℕ = x.1.1.1.1.1 in
    let a = bind_ok (command_in w lengths text) (λ c. Some (queued_with x c.0 c.1)) q e in
    let is : IsCommandIn w lengths text a.0 = command_in-takes w lengths text a.0 a.1 in
    let p = is.pieces fits.1.1.1.1.1 fits.1.1.1.1.0.0 fits.1.1.1.1.0.1 in
    let s = command_spelled w lengths text a.0 is in
    subst (λ (l : QueuedLine). (queued_spelled x ≡ queued_fields l) × IsQueuedLine l) (some_is (queued_with x a.0.0 a.0.1) q a.2) (
      ap (λ (f : List ℕ). number x.0 ++ (number x.1.0 ++ (number x.1.1.0 ++ (f ++ ((optional decimal lengths.0 ++ optional decimal lengths.1) ++ field (escape text)))))) s.0
          ∙ ap (λ (f : List ℕ). number x.0 ++ (number x.1.0 ++ (number x.1.1.0 ++ (command_field a.0.0 ++ f)))) s.1,
      record { session = fits.0; nr = fits.1.0; offset = fits.1.1.0; command = p.0; path = p.1 },
    )

queued_there : (q : QueuedLine) → IsQueuedLine q → QueuedFits (queued_back q) × (queued_of (queued_back q) ≡ Some q) × (queued_fields q ≡ queued_spelled (queued_back q))
unfolding queued_of
queued_there q f = (
  (f.session, (f.nr, (f.offset, (tt, (lengths_fit q.command f.command, parts-text q.command q.path f.command f.path.0))))),
  rw (command_in-again q.command q.path f.path.1) refl,
  refl,
)

pub queued_is : IsExact queued_fields IsQueuedLine IsNil queued_at
unfolding queued_at
queued_is =
    checked_exact
    (pair_exact number_is
    (pair_exact number_is
    (pair_exact number_is
    (pair_exact command_word_is (pair_exact lengths_is text_exact (λ y rest h. refl)) (λ y rest h. lengths_starts y.0 (field (escape y.1)) rest))
    (λ y rest h. refl))
    (λ y rest h. refl))
    (λ y rest h. refl))
    queued_of queued_back queued_fields IsQueuedLine queued_forth queued_there

-- ---- jobs

abbrev run_spelled : RunFields → List ℕ
run_spelled x = number x.0 ++ (number x.1.0 ++ (number x.1.1.0 ++ (number x.1.1.1.0 ++ (bit x.1.1.1.1.0 ++ number x.1.1.1.1.1))))

abbrev RunFits : RunFields → Type 0
RunFits x = IsNumber x.0 × (IsNumber x.1.0 × (IsNumber x.1.1.0 × (IsNumber x.1.1.1.0 × (Unit {0} × IsNumber x.1.1.1.1.1))))

run_is : IsExact run_spelled RunFits Ends run_at
unfolding run_at
run_is =
    pair_exact number_is
    (pair_exact number_is
    (pair_exact number_is (pair_exact number_is (pair_exact bit_is number_is (λ y rest h. refl)) (λ y rest h. refl)) (λ y rest h. refl))
    (λ y rest h. refl))
    (λ y rest h. refl)

abbrev job_spelled : JobFields → List ℕ
job_spelled x =
    run_spelled x.0
    ++ (field (command_word_text x.1.0)
    ++ (number x.1.1.0 ++ ((optional decimal x.1.1.1.0.0 ++ optional decimal x.1.1.1.0.1) ++ field (escape x.1.1.1.1))))

abbrev JobFits : JobFields → Type 0
JobFits x = RunFits x.0 × (Unit {0} × (IsNumber x.1.1.0 × ((Each IsNumber x.1.1.1.0.0 × Each IsNumber x.1.1.1.0.1) × IsText x.1.1.1.1)))

abbrev job_back : JobLine → JobFields
job_back j = (
  (j.job.ticket.session, (j.job.ticket.nr, (j.job.offset, (j.job.done, (j.marked, j.job.number))))),
  (word_of j.job.command, (length j.job.user, (lengths_of j.job.command, j.job.user ++ command_parts j.job.command j.job.path))),
)

job_forth : (x : JobFields) (j : JobLine) → JobFits x → job_of x ≡ Some j → (job_spelled x ≡ job_fields j) × IsJobLine j
unfolding job_of
job_forth x j fits e =
    let w : CommandWord = x.1.0 in
    let n : ℕ = x.1.1.0 in
    let lengths : Lengths = x.1.1.1.0 in
    let text : List ℕ = x.1.1.1.1 in
    let a = bind_ok (cut_at n text) (λ u. command_in w lengths u.1 >>= λ c. Some (job_with x u.0 c.0 c.1)) j e in
    let b = bind_ok (command_in w lengths a.0.1) (λ c. Some (job_with x a.0.0 c.0 c.1)) j a.2 in
    let t = cut_at-takes n text a.0 a.1 in
    let is : IsCommandIn w lengths a.0.1 b.0 = command_in-takes w lengths a.0.1 b.0 b.1 in
    let parts = text-parts a.0.0 a.0.1 (subst IsText t.0 fits.1.1.1.1) in
    let p = is.pieces parts.1 fits.1.1.1.0.0 fits.1.1.1.0.1 in
    let c = b.0.0 in
    subst (λ (l : JobLine). (job_spelled x ≡ job_fields l) × IsJobLine l) (some_is (job_with x a.0.0 b.0.0 b.0.1) j b.2) (
      ap (λ (v : CommandWord). run_spelled x.0 ++ (field (command_word_text v) ++ (number n ++ ((optional decimal lengths.0 ++ optional decimal lengths.1) ++ field (escape text))))) (sym is.word)
          ∙ ap (λ (m : ℕ). run_spelled x.0 ++ (command_field c ++ (number m ++ ((optional decimal lengths.0 ++ optional decimal lengths.1) ++ field (escape text))))) (sym t.1)
          ∙ ap (λ (m : Option ℕ). run_spelled x.0 ++ (command_field c ++ (number (length a.0.0) ++ ((optional decimal m ++ optional decimal lengths.1) ++ field (escape text))))) is.options
          ∙ ap (λ (m : Option ℕ). run_spelled x.0 ++ (command_field c ++ (number (length a.0.0) ++ ((optional decimal (lengths_of c).0 ++ optional decimal m) ++ field (escape text))))) is.argument
          ∙ ap (λ (u : List ℕ). run_spelled x.0 ++ (command_field c ++ (number (length a.0.0) ++ (command_lengths c ++ field (escape u))))) (t.0 ∙ ap (λ (u : List ℕ). a.0.0 ++ u) is.text_is),
      record {
        session = fits.0.0;
        nr = fits.0.1.0;
        offset = fits.0.1.1.0;
        done = fits.0.1.1.1.0;
        link = fits.0.1.1.1.1.1;
        user = (parts.0, subst IsNumber (sym t.1) fits.1.1.0);
        command = p.0;
        path = p.1;
      },
    )

job_there : (j : JobLine) → IsJobLine j → JobFits (job_back j) × (job_of (job_back j) ≡ Some j) × (job_fields j ≡ job_spelled (job_back j))
unfolding job_of
job_there j f = (
  (
    (f.session, (f.nr, (f.offset, (f.done, (tt, f.link))))),
    (tt, (f.user.1, (lengths_fit j.job.command f.command, text-append j.job.user (command_parts j.job.command j.job.path) f.user.0 (parts-text j.job.command j.job.path f.command f.path.0)))),
  ),
  rw (cut_at-again j.job.user (command_parts j.job.command j.job.path), command_in-again j.job.command j.job.path f.path.1) refl,
  refl,
)

pub job_is : IsExact job_fields IsJobLine IsNil job_at
unfolding job_at
job_is =
    checked_exact
    (pair_exact run_is
    (pair_exact command_word_is
    (pair_exact number_is (pair_exact lengths_is text_exact (λ y rest h. refl)) (λ y rest h. lengths_starts y.0 (field (escape y.1)) rest))
    (λ y rest h. refl))
    (λ y rest h. refl))
    job_of job_back job_fields IsJobLine job_forth job_there
