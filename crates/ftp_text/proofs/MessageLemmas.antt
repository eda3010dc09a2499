-- Each message that has a word is read exactly.
use Rattle.std.proofs.Common.{◌≡◌, ℕ, ◌≤◌, true, List, [], ◌++◌, length, take, drop, Some, refl, sym, ap, subst, ◌∙◌, append_assoc, arith}
use Rattle.std.proofs.lemmas.Bool.Decides.{nat_tests}
use Rattle.std.proofs.lemmas.List.{length-append, length-take-le, take-append-drop, take_at, drop_at}
use Rattle.ftp_base.specs.declared.error_kind.ErrorKind.{ErrorKind}
use Rattle.ftp_base.specs.declared.message.ControlChanMsg.{ControlChanMsg}
use Rattle.ftp_base.specs.declared.message.ControlChanMsg.TheVariants as message
use Rattle.ftp_base.specs.declared.reply.Reply.TheVariants as reply
use Rattle.ftp_text.specs.LineWords.{MessageWord}
use Rattle.ftp_text.specs.LineWords as word
use Rattle.ftp_text.specs.Fields.{field, number, escape, kind_text, IsText, IsNumber}
use Rattle.ftp_text.specs.Reading.{word_value, kinds}
use Rattle.ftp_text.specs.Message.{message_word_text, message_word, two_paths, code_and_text, message_fields, ArePaths, IsMessage, message_words, has_first, cut, two_paths_at, code_and_text_at, nothing_more, message_behind, message_at}
use Rattle.ftp_text.proofs.Lists.{text-append, text-parts}
use Rattle.ftp_text.proofs.Exact.{Ends, IsNil, Ends-from_nil, IsExact, exact_weaker, bind_ok, some_is, pair_exact, tested_exact, made_exact, made_takes, made_again, table_exact}
use Rattle.ftp_text.proofs.Values.{text_exact}
use Rattle.ftp_text.proofs.FieldLemmas.{number_is, kind_is, code_is}

-- ---- words

message_word_is : IsExact message_word (λ w. Unit {0}) Ends (word_value message_word_text message_words)
message_word_is = table_exact message_word_text message_words refl (elim [ word.Denied ↦ refl | _ ↦ refl ])

-- a kind up to the end
last_kind : IsExact (λ (k : ErrorKind). field (kind_text k)) (λ k. Unit {0}) IsNil (word_value kind_text kinds)
last_kind = exact_weaker kind_is Ends-from_nil

code_and_text_is : IsExact code_and_text (λ x. Unit {0} × IsText x.1) IsNil code_and_text_at
code_and_text_is = pair_exact code_is text_exact (λ y rest h. refl)

-- ---- two paths as one text

-- how long the first path is, and both as one text
abbrev join : List ℕ × List ℕ → ℕ × List ℕ
join paths = (length paths.0, paths.0 ++ paths.1)

-- the number and the text fit, and the text is long enough
abbrev IsCut : ℕ × List ℕ → Type 0
IsCut x = (IsNumber x.0 × IsText x.1) × (has_first x ≡ true)

cut_fits : (x : ℕ × List ℕ) → IsCut x → (number x.0 ++ field (escape x.1) ≡ two_paths (cut x)) × ArePaths (cut x)
cut_fits x fits =
    let le : x.0 ≤ length x.1 = let h = fits.1 in grind (arith, nat_tests) in
    let len : length (take x.0 x.1) ≡ x.0 = length-take-le x.0 x.1 le in
    let whole : take x.0 x.1 ++ drop x.0 x.1 ≡ x.1 = take-append-drop x.0 x.1 in
    let parts = text-parts (take x.0 x.1) (drop x.0 x.1) (subst IsText (sym whole) fits.0.1) in (
      ap (λ (n : ℕ). number n ++ field (escape x.1)) (sym len)
          ∙ ap (λ (t : List ℕ). number (length (take x.0 x.1)) ++ field (escape t)) (sym whole),
      (subst IsNumber (sym len) fits.0.0, parts.0, parts.1),
    )

join_fits : (paths : List ℕ × List ℕ) → ArePaths paths → IsCut (join paths) × (cut (join paths) ≡ paths) × (two_paths paths ≡ number (join paths).0 ++ field (escape (join paths).1))
join_fits paths fits =
    let len = length-append paths.0 paths.1 in
    let le : length paths.0 ≤ length (paths.0 ++ paths.1) = omega (arith, len) in
    let long : has_first (join paths) ≡ true = grind (arith, nat_tests) in (
      ((fits.0, text-append paths.0 paths.1 fits.1 fits.2), long),
      ap (λ (t : List ℕ). (t, drop (length paths.0) (paths.0 ++ paths.1))) (take_at paths.0 paths.1 (length paths.0) refl)
          ∙ ap (λ (t : List ℕ). (paths.0, t)) (drop_at paths.0 paths.1 (length paths.0) refl),
      refl,
    )

two_paths_is : IsExact two_paths ArePaths IsNil two_paths_at
unfolding two_paths_at
two_paths_is = made_exact (tested_exact has_first (pair_exact number_is text_exact (λ y rest h. refl))) cut join two_paths ArePaths cut_fits join_fits

-- ---- messages

-- a message that is its word alone
nothing_takes : (w : MessageWord) (m : ControlChanMsg) → message_fields m ≡ message_word w → IsMessage m →
    (bytes : List ℕ) (y : ControlChanMsg × List ℕ) → nothing_more m bytes ≡ Some y → (message_word w ++ bytes ≡ message_fields y.0 ++ y.1) × IsMessage y.0
nothing_takes w m spelled fits bytes y e =
    let whole : ControlChanMsg × List ℕ = (m, bytes) in
    subst (λ (z : ControlChanMsg × List ℕ). (message_word w ++ bytes ≡ message_fields z.0 ++ z.1) × IsMessage z.0) (some_is whole y e)
    (ap (λ (t : List ℕ). t ++ bytes) (sym spelled), fits)

-- what is read behind a word is what the word and its fields spell
behind_takes : (w : MessageWord) (bytes : List ℕ) (y : ControlChanMsg × List ℕ) →
    message_behind w bytes ≡ Some y →
    (message_word w ++ bytes ≡ message_fields y.0 ++ y.1) × IsMessage y.0
behind_takes word.Denied bytes y e = nothing_takes word.Denied message.PermissionDenied refl tt bytes y e
behind_takes word.NotFound bytes y e = nothing_takes word.NotFound message.NotFound refl tt bytes y e
behind_takes word.DelFail bytes y e = nothing_takes word.DelFail message.DelFail refl tt bytes y e
behind_takes word.MkdirFail bytes y e = nothing_takes word.MkdirFail message.MkdirFail refl tt bytes y e
behind_takes word.Deleted bytes y e =
    made_takes text_exact message.DelFileSuccess message_fields IsMessage (message_word word.Deleted) (λ x. refl) (λ x f. f) bytes y e
behind_takes word.Removed bytes y e =
    made_takes text_exact message.RmDirSuccess message_fields IsMessage (message_word word.Removed) (λ x. refl) (λ x f. f) bytes y e
behind_takes word.Made bytes y e =
    made_takes text_exact message.MkDirSuccess message_fields IsMessage (message_word word.Made) (λ x. refl) (λ x f. f) bytes y e
behind_takes word.Renamed bytes y e =
    made_takes two_paths_is (λ x. message.RenameSuccess x.0 x.1) message_fields IsMessage (message_word word.Renamed) (λ x. refl) (λ x f. f) bytes y e
behind_takes word.Kind bytes y e =
    made_takes last_kind message.StorageError message_fields IsMessage (message_word word.Kind) (λ x. refl) (λ x f. f) bytes y e
behind_takes word.AsItIs bytes y e =
    made_takes code_and_text_is (λ x. message.CommandChannelReply (reply.CodeAndMsg x.0 x.1)) message_fields IsMessage (message_word word.AsItIs)
    (λ x. refl) (λ x f. f.1) bytes y e

message_takes : (bytes : List ℕ) (y : ControlChanMsg × List ℕ) → message_at bytes ≡ Some y → (bytes ≡ message_fields y.0 ++ y.1) × IsMessage y.0
unfolding message_at
message_takes bytes y e =
    let first = bind_ok (word_value message_word_text message_words bytes) (λ w. message_behind w.0 w.1) y e in
    let w = message_word_is.takes bytes first.0 first.1 in
    let m = behind_takes first.0.0 first.0.1 y first.2 in
    (w.0 ∙ m.0, m.1)

-- a word, and what is read behind it
said : (w : MessageWord) (fields rest : List ℕ) (m : ControlChanMsg) →
    Ends (fields ++ rest) →
    message_behind w (fields ++ rest) ≡ Some (m, rest) →
    message_at ((message_word w ++ fields) ++ rest) ≡ Some (m, rest)
unfolding message_at
said w fields rest m ends e =
    ap message_at (append_assoc (message_word w) fields rest)
    ∙ rw (message_word_is.again w (fields ++ rest) tt ends) e

message_again : (m : ControlChanMsg) (rest : List ℕ) → IsMessage m → IsNil rest → message_at (message_fields m ++ rest) ≡ Some (m, rest)
message_again message.PermissionDenied rest fits h = said word.Denied [] rest message.PermissionDenied (Ends-from_nil rest h) refl
message_again message.NotFound rest fits h = said word.NotFound [] rest message.NotFound (Ends-from_nil rest h) refl
message_again message.DelFail rest fits h = said word.DelFail [] rest message.DelFail (Ends-from_nil rest h) refl
message_again message.MkdirFail rest fits h = said word.MkdirFail [] rest message.MkdirFail (Ends-from_nil rest h) refl
message_again (message.DelFileSuccess path) rest fits h =
    said word.Deleted (field (escape path)) rest (message.DelFileSuccess path) refl (made_again text_exact message.DelFileSuccess path rest fits h)
message_again (message.RmDirSuccess path) rest fits h =
    said word.Removed (field (escape path)) rest (message.RmDirSuccess path) refl (made_again text_exact message.RmDirSuccess path rest fits h)
message_again (message.MkDirSuccess path) rest fits h =
    said word.Made (field (escape path)) rest (message.MkDirSuccess path) refl (made_again text_exact message.MkDirSuccess path rest fits h)
message_again (message.RenameSuccess old_path new_path) rest fits h =
    said word.Renamed (two_paths (old_path, new_path)) rest (message.RenameSuccess old_path new_path) refl
    (made_again two_paths_is (λ x. message.RenameSuccess x.0 x.1) (old_path, new_path) rest fits h)
message_again (message.StorageError kind) rest fits h =
    said word.Kind (field (kind_text kind)) rest (message.StorageError kind) refl (made_again last_kind message.StorageError kind rest tt h)
message_again (message.CommandChannelReply (reply.CodeAndMsg code text)) rest fits h =
    said word.AsItIs (code_and_text (code, text)) rest (message.CommandChannelReply (reply.CodeAndMsg code text)) refl
    (made_again code_and_text_is (λ x. message.CommandChannelReply (reply.CodeAndMsg x.0 x.1)) (code, text) rest (tt, fits) h)
message_again _ rest fits h = absurd fits

pub message_is : IsExact message_fields IsMessage IsNil message_at
message_is = record { takes = message_takes; again = message_again }

-- a message begins with its space, or nothing is written of it
pub message_starts : (m : ControlChanMsg) (rest : List ℕ) → IsNil rest → Ends (message_fields m ++ rest)
message_starts message.PermissionDenied rest h = refl
message_starts message.NotFound rest h = refl
message_starts message.DelFail rest h = refl
message_starts message.MkdirFail rest h = refl
message_starts (message.DelFileSuccess path) rest h = refl
message_starts (message.RmDirSuccess path) rest h = refl
message_starts (message.MkDirSuccess path) rest h = refl
message_starts (message.RenameSuccess old_path new_path) rest h = refl
message_starts (message.StorageError kind) rest h = refl
message_starts (message.CommandChannelReply (reply.CodeAndMsg code text)) rest h = refl
message_starts _ rest h = Ends-from_nil rest h
