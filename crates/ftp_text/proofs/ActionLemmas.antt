-- Each action is read exactly.
use Rattle.std.proofs.Common.{◌≡◌, ℕ, ◌^◌, ◌<◌, true, false, List, [], ◌∷◌, ◌++◌, Some, refl, ap, ◌∙◌, append_assoc, arith}
use Rattle.std.specs.Prelude.{Bool, codes}
use Rattle.ftp_base.specs.declared.reply.Reply.TheVariants as reply
use Rattle.ftp_base.specs.declared.reply.ReplyCode.{ReplyCode}
use Rattle.ftp_base.specs.Reply.{code_text}
use Rattle.ftp_events.specs.declared.action.Action.{Action}
use Rattle.ftp_events.specs.declared.action.Action.TheVariants as action
use Rattle.ftp_text.specs.Fields.{field, number, ticket, escape, IsNumber, IsText}
use Rattle.ftp_text.specs.Message.{reply_codes}
use Rattle.ftp_text.specs.Reading.{pair, word_value, number_field, small_field, ticket_field, text_field}
use Rattle.ftp_text.proofs.Exact.{Ends, IsNil, Ends-from_nil, IsExact, pair_exact, made_takes, made_again, table_exact}
use Rattle.ftp_text.proofs.FieldLemmas.{number_is, code_is, small_is, ticket_is}
use Rattle.ftp_text.proofs.Values.{text_exact}
use Rattle.ftp_text.specs.Printing.{notify_fields, reply_fields, delivered_text, action_fields}
use Rattle.ftp_text.specs.LineWords.{ActionWord}
use Rattle.ftp_text.specs.LineWords as word
use Rattle.ftp_text.specs.LogLines.{IsAction}
use Rattle.ftp_text.specs.ActionReading.{action_word_text, action_words, deliveries, completed_at, start_at, reply_at, action_behind, action_at}
use Rattle.ftp_text.proofs.NoticeLemmas.{notify_takes, notify_again}
use Rattle.ftp_text.proofs.WordThen.{marked_exact}

delivery_is : IsExact (λ (d : Bool). field (delivered_text d)) (λ d. Unit {0}) Ends (word_value delivered_text deliveries)
delivery_is = table_exact delivered_text deliveries refl (elim [ true ↦ refl | false ↦ refl ])

-- ---- the fields of actions

abbrev Completed : Type 0
Completed = (ℕ × ℕ) × Bool

completed_is : IsExact (λ (x : Completed). ticket x.0.0 x.0.1 ++ field (delivered_text x.1)) (λ (x : Completed). (IsNumber x.0.0 × IsNumber x.0.1) × Unit {0}) Ends
    (pair ticket_field (word_value delivered_text deliveries))
completed_is = pair_exact ticket_is delivery_is (λ y rest h. refl)

abbrev Started : Type 0
Started = (ℕ × ℕ) × ℕ

started_is : IsExact (λ (x : Started). ticket x.0.0 x.0.1 ++ number x.1) (λ (x : Started). (IsNumber x.0.0 × IsNumber x.0.1) × IsNumber x.1) Ends (pair ticket_field number_field)
started_is = pair_exact ticket_is number_is (λ y rest h. refl)

abbrev Replied : Type 0
Replied = ℕ × (ℕ × (ReplyCode × List ℕ))

replied_is : IsExact (λ (x : Replied). number x.0 ++ (number x.1.0 ++ (field (code_text x.1.1.0) ++ field (escape x.1.1.1))))
    (λ (x : Replied). IsNumber x.0 × ((x.1.0 < 2 ^ 32) × (Unit {0} × IsText x.1.1.1))) IsNil
    (pair number_field (pair (small_field (2 ^ 32)) (pair (word_value code_text reply_codes) text_field)))
replied_is =
    pair_exact number_is
    (pair_exact (small_is (2 ^ 32) (omega arith)) (pair_exact code_is text_exact (λ y rest h. refl)) (λ y rest h. refl))
    (λ y rest h. refl)

-- ---- actions, by their words

abbrev word_for : Action → ActionWord
word_for (action.Completed t delivered) = word.Completed
word_for (action.Cancelled t) = word.Cancelled
word_for (action.Close n) = word.Close
word_for (action.Notify s meta what) = word.Notify
word_for (action.Reply s delay r) = word.Reply
word_for (action.Start t n) = word.Start

-- what stands behind the word
abbrev behind_word : Action → List ℕ
behind_word (action.Completed t delivered) = ticket t.session t.nr ++ field (delivered_text delivered)
behind_word (action.Cancelled t) = ticket t.session t.nr
behind_word (action.Close n) = number n
behind_word (action.Notify s meta what) = notify_fields s meta what
behind_word (action.Reply s delay r) = number s ++ number delay ++ reply_fields r
behind_word (action.Start t n) = ticket t.session t.nr ++ number n

abbrev Is : ActionWord → Action → Type 0
Is w a = IsAction a × (action_word_text (word_for a) ≡ action_word_text w)

action_takes : (w : ActionWord) (bytes : List ℕ) (y : Action × List ℕ) → action_behind w bytes ≡ Some y → (bytes ≡ behind_word y.0 ++ y.1) × Is w y.0
unfolding completed_at start_at reply_at
action_takes word.Completed bytes y e =
    made_takes completed_is (λ x. action.Completed (record { session = x.0.0; nr = x.0.1 }) x.1) behind_word (Is word.Completed) [] (λ x. refl) (λ x f. (f.0, refl)) bytes y e
action_takes word.Cancelled bytes y e =
    made_takes ticket_is (λ x. action.Cancelled (record { session = x.0; nr = x.1 })) behind_word (Is word.Cancelled) [] (λ x. refl) (λ x f. (f, refl)) bytes y e
action_takes word.Close bytes y e = made_takes number_is action.Close behind_word (Is word.Close) [] (λ x. refl) (λ x f. (f, refl)) bytes y e
action_takes word.Notify bytes y e = notify_takes behind_word (Is word.Notify) (λ s meta what. refl) (λ s meta what f. (f, refl)) bytes y e
action_takes word.Reply bytes y e =
    made_takes replied_is (λ x. action.Reply x.0 x.1.0 (reply.CodeAndMsg x.1.1.0 x.1.1.1)) behind_word (Is word.Reply) []
    (λ x. append_assoc (number x.0) (number x.1.0) (field (code_text x.1.1.0) ++ field (escape x.1.1.1)))
    (λ x f. ((f.0, f.1.0, f.1.1.1), refl)) bytes y e
action_takes word.Start bytes y e =
    made_takes started_is (λ x. action.Start (record { session = x.0.0; nr = x.0.1 }) x.1) behind_word (Is word.Start) [] (λ x. refl) (λ x f. (f, refl)) bytes y e

action_again : (a : Action) (rest : List ℕ) → IsAction a → IsNil rest → action_behind (word_for a) (behind_word a ++ rest) ≡ Some (a, rest)
unfolding completed_at start_at reply_at
action_again (action.Completed t delivered) rest fits follows =
    let x : Completed = ((t.session, t.nr), delivered) in
    made_again completed_is (λ y. action.Completed (record { session = y.0.0; nr = y.0.1 }) y.1) x rest (fits, tt) (Ends-from_nil rest follows)
action_again (action.Cancelled t) rest fits follows =
    let x : ℕ × ℕ = (t.session, t.nr) in
    made_again ticket_is (λ y. action.Cancelled (record { session = y.0; nr = y.1 })) x rest fits (Ends-from_nil rest follows)
action_again (action.Close n) rest fits follows = made_again number_is action.Close n rest fits (Ends-from_nil rest follows)
action_again (action.Notify s meta what) rest fits follows = notify_again s meta what rest fits follows
action_again (action.Reply s delay reply.None) rest fits follows = absurd fits
action_again (action.Reply s delay (reply.CodeAndMsg c text)) rest fits follows =
    let x : Replied = (s, (delay, (c, text))) in
    ap (λ (t : List ℕ). action_behind word.Reply (t ++ rest)) (append_assoc (number s) (number delay) (field (code_text c) ++ field (escape text)))
    ∙ made_again replied_is (λ y. action.Reply y.0 y.1.0 (reply.CodeAndMsg y.1.1.0 y.1.1.1)) x rest (fits.0, (fits.1, (tt, fits.2))) follows
action_again (action.Start t n) rest fits follows =
    let x : Started = ((t.session, t.nr), n) in
    made_again started_is (λ y. action.Start (record { session = y.0.0; nr = y.0.1 }) y.1) x rest fits (Ends-from_nil rest follows)

action_starts : (a : Action) (rest : List ℕ) → IsAction a → IsNil rest → Ends (behind_word a ++ rest)
action_starts (action.Completed t delivered) rest fits follows = refl
action_starts (action.Cancelled t) rest fits follows = refl
action_starts (action.Close n) rest fits follows = refl
action_starts (action.Notify s meta what) rest fits follows = refl
action_starts (action.Reply s delay r) rest fits follows = refl
action_starts (action.Start t n) rest fits follows = refl

spelled : (a : Action) → IsAction a → codes "-" ++ (32 ∷ action_word_text (word_for a) ++ behind_word a) ≡ action_fields a
spelled (action.Completed t delivered) fits = refl
spelled (action.Cancelled t) fits = refl
spelled (action.Close n) fits = refl
spelled (action.Notify s meta what) fits = refl
spelled (action.Reply s delay r) fits = refl
spelled (action.Start t n) fits = refl

pub action_is : IsExact action_fields IsAction IsNil action_at
unfolding action_at
action_is =
    marked_exact (codes "-") action_words (table_exact action_word_text action_words refl (elim [ word.Completed ↦ refl | _ ↦ refl ])) (λ a fits. tt)
    (record { takes = action_takes; again = action_again; starts = action_starts }) spelled
