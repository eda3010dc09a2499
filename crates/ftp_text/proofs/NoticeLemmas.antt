-- Each notification is read exactly.
use Rattle.std.proofs.Common.{◌≡◌, ℕ, Bool, true, false, ◌&&◌, ◌||◌, eqb, leb, List, [], ◌++◌, length, take, drop, Some, refl, sym, ap, subst, ◌∙◌, append_assoc, arith}
use Rattle.std.proofs.lemmas.Bool.{eqb-true, leb-true, le-leb, and_parts}
use Rattle.std.proofs.lemmas.List.{length-append, length-take-le, take-append-drop, take_at, drop_at, nil_from_length}
use Rattle.std.proofs.lemmas.Option.{cond_some}
use Rattle.ftp_base.specs.declared.notice.DataEvent.TheVariants.{Got, Put, Deleted, MadeDir, RemovedDir, Renamed}
use Rattle.ftp_base.specs.declared.notice.Notice.{Notice}
use Rattle.ftp_base.specs.declared.notice.Notice.TheVariants as notice
use Rattle.ftp_base.specs.declared.notice.EventMeta.{EventMeta}
use Rattle.ftp_base.specs.declared.notice.PresenceEvent.TheVariants as presence
use Rattle.ftp_base.specs.Trace.{trace_text}
use Rattle.ftp_events.specs.declared.action.Action.{Action}
use Rattle.ftp_events.specs.declared.action.Action.TheVariants as action
use Rattle.ftp_text.specs.Fields.{field, number, escape, IsNumber, IsText}
use Rattle.ftp_text.specs.Reading.{◌>>=◌, pair, word_value, text_field}
use Rattle.ftp_text.proofs.Lists.{text-append, text-parts}
use Rattle.ftp_text.proofs.Exact.{Ends, IsNil, IsExact, bind_ok, some_is, pair_exact, made_exact, table_exact}
use Rattle.ftp_text.proofs.FieldLemmas.{number_is}
use Rattle.ftp_text.proofs.Values.{text_exact}
use Rattle.ftp_text.specs.Printing.{notice_text, notice_bytes, first_path, second_path, notify_fields}
use Rattle.ftp_text.specs.declared.notice.NoticeWord.{NoticeWord}
use Rattle.ftp_text.specs.declared.notice.NoticeWord.TheVariants as told
use Rattle.ftp_text.specs.declared.notice.About.{About}
use Rattle.ftp_text.specs.LogLines.{IsPath, IsNotice, IsAction}
use Rattle.ftp_text.specs.ActionReading.{notice_word_text, notice_words, has_bytes, has_path, has_two, suits, notice_with, About_fields, about_of, about_at, told_by, notify_at}
use Rattle.ftp_text.proofs.TraceReading.{trace_is}

-- ---- what stands before the text

notice_word_is : IsExact (λ (w : NoticeWord). field (notice_word_text w)) (λ w. Unit {0}) Ends (word_value notice_word_text notice_words)
notice_word_is = table_exact notice_word_text notice_words refl (elim [ told.Login ↦ refl | _ ↦ refl ])

abbrev about_text : About → List ℕ
about_text a =
    number a.session ++ (number a.place ++ (field (trace_text a.trace) ++ (field (notice_word_text a.word) ++ (number a.bytes ++ (number a.user ++ number a.path)))))

abbrev IsAbout : About → Type 0
IsAbout a = IsNumber a.session × (IsNumber a.place × (IsNumber a.trace × (IsNumber a.bytes × (IsNumber a.user × IsNumber a.path))))

abbrev fields_of : About → About_fields
fields_of a = (a.session, (a.place, (a.trace, (a.word, (a.bytes, (a.user, a.path))))))

about_is : IsExact about_text IsAbout Ends about_at
unfolding about_at
about_is =
    made_exact
    (pair_exact number_is
    (pair_exact number_is
    (pair_exact trace_is
    (pair_exact notice_word_is (pair_exact number_is (pair_exact number_is number_is (λ y rest h. refl)) (λ y rest h. refl)) (λ y rest h. refl))
    (λ y rest h. refl))
    (λ y rest h. refl))
    (λ y rest h. refl))
    about_of fields_of about_text IsAbout
    (λ x f. (refl, (f.0, (f.1.0, (f.1.1.0, (f.1.1.1.1.0, (f.1.1.1.1.1.0, f.1.1.1.1.1.1)))))))
    (λ a f. ((f.0, (f.1.0, (f.1.1.0, (tt, (f.1.1.1.0, (f.1.1.1.1.0, f.1.1.1.1.1)))))), refl, refl))

abbrev Line : Type 0
Line = About × List ℕ

line_is : IsExact (λ (x : Line). about_text x.0 ++ field (escape x.1)) (λ (x : Line). IsAbout x.0 × IsText x.1) IsNil (pair about_at text_field)
line_is = pair_exact about_is text_exact (λ y rest h. refl)

-- ---- notices, by their words

-- the word of a notice
abbrev word_of : Notice → NoticeWord
word_of (notice.Presence presence.LoggedIn) = told.Login
word_of (notice.Presence presence.LoggedOut) = told.Logout
word_of (notice.Data (Got path bytes)) = told.Got
word_of (notice.Data (Put path bytes)) = told.Put
word_of (notice.Data (Deleted path)) = told.Deleted
word_of (notice.Data (MadeDir path)) = told.MadeDir
word_of (notice.Data (RemovedDir path)) = told.RemovedDir
word_of (notice.Data (Renamed from to)) = told.Renamed

-- what a notice says is what was read
record Says (w : NoticeWord) (bytes : ℕ) (first second : List ℕ) (what : Notice) : Type 0 where
  word : notice_text what ≡ notice_word_text w
  bytes_are : notice_bytes what ≡ bytes
  first_is : first_path what ≡ first
  second_is : second_path what ≡ second
  fits : IsPath first → IsText second → IsNumber bytes → IsNotice what

-- what suits says no more than the notice
record HasSpare (w : NoticeWord) (bytes : ℕ) (first second : List ℕ) : Type 0 where
  bytes_none : has_bytes w ≡ false → bytes ≡ 0
  first_none : has_path w ≡ false → first ≡ []
  second_none : has_two w ≡ false → second ≡ []

spare-number : (b : Bool) (n : ℕ) → (b || eqb n 0) ≡ true → b ≡ false → n ≡ 0
spare-number true n e h = absurd cc
spare-number false n e h = eqb-true n 0 e

spare-list : (b : Bool) (bs : List ℕ) → (b || eqb (length bs) 0) ≡ true → b ≡ false → bs ≡ []
spare-list b bs e h = nil_from_length bs (spare-number b (length bs) e h)

suits-spare : (w : NoticeWord) (bytes : ℕ) (first second : List ℕ) → suits w bytes first second ≡ true → HasSpare w bytes first second
suits-spare w bytes first second e =
    let p = and_parts (has_bytes w || eqb bytes 0) ((has_path w || eqb (length first) 0) && (has_two w || eqb (length second) 0)) e in
    let q = and_parts (has_path w || eqb (length first) 0) (has_two w || eqb (length second) 0) p.1 in
    record {
      bytes_none = spare-number (has_bytes w) bytes p.0;
      first_none = spare-list (has_path w) first q.0;
      second_none = spare-list (has_two w) second q.1;
    }

says : (w : NoticeWord) (bytes : ℕ) (first second : List ℕ) → HasSpare w bytes first second → Says w bytes first second (notice_with w bytes first second)
says told.Login bytes first second s =
    record { word = refl; bytes_are = sym (s.bytes_none refl); first_is = sym (s.first_none refl); second_is = sym (s.second_none refl); fits = λ f g b. tt }
says told.Logout bytes first second s =
    record { word = refl; bytes_are = sym (s.bytes_none refl); first_is = sym (s.first_none refl); second_is = sym (s.second_none refl); fits = λ f g b. tt }
says told.Got bytes first second s = record { word = refl; bytes_are = refl; first_is = refl; second_is = sym (s.second_none refl); fits = λ f g b. (f, b) }
says told.Put bytes first second s = record { word = refl; bytes_are = refl; first_is = refl; second_is = sym (s.second_none refl); fits = λ f g b. (f, b) }
says told.Deleted bytes first second s =
    record { word = refl; bytes_are = sym (s.bytes_none refl); first_is = refl; second_is = sym (s.second_none refl); fits = λ f g b. f }
says told.MadeDir bytes first second s =
    record { word = refl; bytes_are = sym (s.bytes_none refl); first_is = refl; second_is = sym (s.second_none refl); fits = λ f g b. f }
says told.RemovedDir bytes first second s =
    record { word = refl; bytes_are = sym (s.bytes_none refl); first_is = refl; second_is = sym (s.second_none refl); fits = λ f g b. f }
says told.Renamed bytes first second s = record { word = refl; bytes_are = sym (s.bytes_none refl); first_is = refl; second_is = refl; fits = λ f g b. (f, g) }

-- a notice is read again from what it says
record ReadAgain (what : Notice) : Type 0 where
  same : notice_with (word_of what) (notice_bytes what) (first_path what) (second_path what) ≡ what
  suit : suits (word_of what) (notice_bytes what) (first_path what) (second_path what) ≡ true
  word : notice_word_text (word_of what) ≡ notice_text what

read-again : (what : Notice) → ReadAgain what
read-again (notice.Presence presence.LoggedIn) = record { same = refl; suit = refl; word = refl }
read-again (notice.Presence presence.LoggedOut) = record { same = refl; suit = refl; word = refl }
read-again (notice.Data (Got path bytes)) = record { same = refl; suit = refl; word = refl }
read-again (notice.Data (Put path bytes)) = record { same = refl; suit = refl; word = refl }
read-again (notice.Data (Deleted path)) = record { same = refl; suit = refl; word = refl }
read-again (notice.Data (MadeDir path)) = record { same = refl; suit = refl; word = refl }
read-again (notice.Data (RemovedDir path)) = record { same = refl; suit = refl; word = refl }
read-again (notice.Data (Renamed from to)) = record { same = refl; suit = refl; word = refl }

-- the bytes and the paths of a notice fit their types
pub record AreInRange (what : Notice) : Type 0 where
  pub bytes : IsNumber (notice_bytes what)
  pub first : IsPath (first_path what)
  pub second : IsText (second_path what)

pub in-range : (what : Notice) → IsNotice what → AreInRange what
in-range (notice.Presence p) f = record { bytes = omega arith; first = (tt, omega arith); second = tt }
in-range (notice.Data (Got path bytes)) f = record { bytes = f.1; first = f.0; second = tt }
in-range (notice.Data (Put path bytes)) f = record { bytes = f.1; first = f.0; second = tt }
in-range (notice.Data (Deleted path)) f = record { bytes = omega arith; first = f; second = tt }
in-range (notice.Data (MadeDir path)) f = record { bytes = omega arith; first = f; second = tt }
in-range (notice.Data (RemovedDir path)) f = record { bytes = omega arith; first = f; second = tt }
in-range (notice.Data (Renamed from to)) f = record { bytes = omega arith; first = f.0; second = f.1 }

-- ---- texts of several parts

regroup : (a b c d e f g h : List ℕ) → (a ++ (b ++ (c ++ (d ++ (e ++ (f ++ g)))))) ++ h ≡ a ++ b ++ c ++ d ++ e ++ f ++ g ++ h
regroup a b c d e f g h = simp append_assoc

-- the fields of a notification, one by one
abbrev spelled : ℕ → ℕ → ℕ → List ℕ → ℕ → ℕ → ℕ → List ℕ → List ℕ
spelled s place trace word bytes user path text =
    number s ++ number place ++ field (trace_text trace) ++ field word ++ number bytes ++ number user ++ number path ++ field (escape text)

spelled-line : (a : About) (text : List ℕ) → about_text a ++ field (escape text) ≡ spelled a.session a.place a.trace (notice_word_text a.word) a.bytes a.user a.path text
spelled-line a text =
    regroup (number a.session) (number a.place) (field (trace_text a.trace)) (field (notice_word_text a.word)) (number a.bytes) (number a.user) (number a.path) (field (escape text))

-- ---- notifications

-- what was read of a line is a notification that the line spells
record IsTold (a : About) (text : List ℕ) (x : Action) : Type 0 where
  session : ℕ
  meta : EventMeta
  what : Notice
  is : x ≡ action.Notify session meta what
  line : about_text a ++ field (escape text) ≡ notify_fields session meta what
  fits : IsAction (action.Notify session meta what)

told_takes : (a : About) (text : List ℕ) (x : Action) → IsAbout a → IsText text → told_by a text ≡ Some x → IsTold a text x
told_takes a text x about texts e =
    let user : List ℕ = take a.user text in
    let paths : List ℕ = drop a.user text in
    let first : List ℕ = take a.path paths in
    let second : List ℕ = drop a.path paths in
    let what : Notice = notice_with a.word a.bytes first second in
    let meta : EventMeta = record { username = user; trace_id = record { 0 = a.trace }; sequence_number = a.place } in
    let p = cond_some (leb a.user (length text) && (leb a.path (length paths) && suits a.word a.bytes first second)) (action.Notify a.session meta what) x e in
    let q = and_parts (leb a.user (length text)) (leb a.path (length paths) && suits a.word a.bytes first second) p.0 in
    let r = and_parts (leb a.path (length paths)) (suits a.word a.bytes first second) q.1 in
    let s : Says a.word a.bytes first second what = says a.word a.bytes first second (suits-spare a.word a.bytes first second r.1) in
    let user_len : length user ≡ a.user = length-take-le a.user text (leb-true a.user (length text) q.0) in
    let path_len : length first ≡ a.path = length-take-le a.path paths (leb-true a.path (length paths) r.0) in
    let whole : user ++ paths ≡ text = take-append-drop a.user text in
    let both : first ++ second ≡ paths = take-append-drop a.path paths in
    let t = text-parts user paths (subst IsText (sym whole) texts) in
    let u = text-parts first second (subst IsText (sym both) t.1) in
    let text_is : text ≡ (user ++ first_path what) ++ second_path what =
    sym
    (append_assoc user (first_path what) (second_path what)
    ∙ ap (λ (z : List ℕ). user ++ z) (ap (λ (y : List ℕ). y ++ second_path what) s.first_is ∙ ap (λ (y : List ℕ). first ++ y) s.second_is ∙ both)
    ∙ whole) in
    let first_len : a.path ≡ length (first_path what) = sym (ap length s.first_is ∙ path_len) in
    record {
      session = a.session;
      meta = meta;
      what = what;
      is = sym p.1;
      line =
          spelled-line a text
          ∙ (λ i. spelled a.session a.place a.trace (sym s.word i) (sym s.bytes_are i) (sym user_len i) (first_len i) (text_is i));
      fits = (
        about.0,
        (about.1.0, about.1.1.0, (t.0, subst IsNumber (sym user_len) about.1.1.1.1.0)),
        s.fits (u.0, subst IsNumber (sym path_len) about.1.1.1.1.1) u.1 about.1.1.1.0,
      );
    }

-- what is read behind the word is what a notification spells there
pub notify_takes : (spell : Action → List ℕ) (Fits : Action → Type 0) →
    ((s : ℕ) (meta : EventMeta) (what : Notice) → spell (action.Notify s meta what) ≡ notify_fields s meta what) →
    ((s : ℕ) (meta : EventMeta) (what : Notice) → IsAction (action.Notify s meta what) → Fits (action.Notify s meta what)) →
    (bytes : List ℕ) (y : Action × List ℕ) → notify_at bytes ≡ Some y → (bytes ≡ spell y.0 ++ y.1) × Fits y.0
unfolding notify_at
notify_takes spell Fits spells fits bytes y e =
    let a = bind_ok (pair about_at text_field bytes) (λ x. told_by x.0.0 x.0.1 >>= λ z. Some (z, x.1)) y e in
    let b = bind_ok (told_by a.0.0.0 a.0.0.1) (λ z. Some (z, a.0.1)) y a.2 in
    let t = line_is.takes bytes a.0 a.1 in
    let n : IsTold a.0.0.0 a.0.0.1 b.0 = told_takes a.0.0.0 a.0.0.1 b.0 t.1.0 t.1.1 b.1 in
    let whole : Action × List ℕ = (b.0, a.0.1) in
    subst (λ (z : Action × List ℕ). (bytes ≡ spell z.0 ++ z.1) × Fits z.0) (some_is whole y b.2)
    (subst (λ (x : Action). (bytes ≡ spell x ++ a.0.1) × Fits x) (sym n.is)
    (t.0 ∙ ap (λ (l : List ℕ). l ++ a.0.1) (n.line ∙ sym (spells n.session n.meta n.what)), fits n.session n.meta n.what n.fits))

-- what stands before the text of a notification
abbrev about_for : ℕ → EventMeta → Notice → About
about_for s meta what =
    record {
      session = s;
      place = meta.sequence_number;
      trace = meta.trace_id.0;
      word = word_of what;
      bytes = notice_bytes what;
      user = length meta.username;
      path = length (first_path what);
    }

abbrev text_for : EventMeta → Notice → List ℕ
text_for meta what = (meta.username ++ first_path what) ++ second_path what

told_again : (s : ℕ) (meta : EventMeta) (what : Notice) → told_by (about_for s meta what) (text_for meta what) ≡ Some (action.Notify s meta what)
told_again s meta what =
    let user = meta.username in
    let first = first_path what in
    let second = second_path what in
    let again = read-again what in
    let front : take (length user) (user ++ (first ++ second)) ≡ user = take_at user (first ++ second) (length user) refl in
    let back : drop (length user) (user ++ (first ++ second)) ≡ first ++ second = drop_at user (first ++ second) (length user) refl in
    let path : take (length first) (first ++ second) ≡ first = take_at first second (length first) refl in
    let path_back : drop (length first) (first ++ second) ≡ second = drop_at first second (length first) refl in
    let long : leb (length user) (length (user ++ (first ++ second))) ≡ true = le-leb _ _ (omega (arith, length-append user (first ++ second))) in
    let path_long : leb (length first) (length (first ++ second)) ≡ true = le-leb _ _ (omega (arith, length-append first second)) in
    ap (told_by (about_for s meta what)) (append_assoc user first second) ∙ rw (front, back, path, path_back, long, path_long, again.suit, again.same) refl

pub notify_again : (s : ℕ) (meta : EventMeta) (what : Notice) (rest : List ℕ) → IsAction (action.Notify s meta what) → IsNil rest →
    notify_at (notify_fields s meta what ++ rest) ≡ Some (action.Notify s meta what, rest)
unfolding notify_at
notify_again s meta what rest fits follows =
    let a : About = about_for s meta what in
    let text : List ℕ = text_for meta what in
    let r = in-range what fits.2 in
    let x : Line = (a, text) in
    let about : IsAbout a = (fits.0, (fits.1.0, (fits.1.1, (r.bytes, (fits.1.2.1, r.first.1))))) in
    let texts : IsText text = text-append (meta.username ++ first_path what) (second_path what) (text-append meta.username (first_path what) fits.1.2.0 r.first.0) r.second in
    let line : notify_fields s meta what ≡ about_text a ++ field (escape text) =
    sym
    (spelled-line a text
    ∙ ap (λ (w : List ℕ). spelled s meta.sequence_number meta.trace_id.0 w (notice_bytes what) (length meta.username) (length (first_path what)) text) (read-again what).word) in
    ap (λ (l : List ℕ). notify_at (l ++ rest)) line
    ∙ rw (line_is.again x rest (about, texts) follows) (rw (told_again s meta what) refl)
