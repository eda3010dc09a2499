-- The words, yes and no, and the lengths in the lines of a state are read exactly.
use Rattle.std.proofs.Common.{◌≡◌, ℕ, ◌<◌, Bool, true, false, cond, eqb, List, ◌∷◌, ◌++◌, Option, Some, None, refl, ap, arith}
use Rattle.std.proofs.lemmas.Bool.Decides.{nat_tests}
use Rattle.ftp_text.specs.Fields.{field, number, optional, Each, IsNumber}
use Rattle.ftp_text.specs.Reading.{word_value}
use Rattle.ftp_text.proofs.Exact.{Ends, IsExact, pair_exact, made_exact, table_exact}
use Rattle.ftp_text.proofs.FieldLemmas.{small_is, optional_number_is, optional_starts}
use Rattle.std.specs.Fmt.{decimal}
use Rattle.ftp_hub.specs.declared.state.LoginState.{LoginState}
use Rattle.ftp_hub.specs.declared.state.LoginState.TheVariants as login
use Rattle.ftp_events.specs.declared.status.CommandWord.{CommandWord}
use Rattle.ftp_events.specs.declared.status.CommandWord.TheVariants as command_word
use Rattle.ftp_text.specs.LineWords.{LineWord, SlotWord}
use Rattle.ftp_text.specs.LineWords as word
use Rattle.ftp_text.specs.Spelling.{line_word_text, login_state_text, slot_word_text, command_word_text, bit}
use Rattle.ftp_text.specs.StateLineReading.{line_words, login_states, slot_words, command_words, bit_field, Lengths, lengths_at, command_word_field}

-- ---- words

pub line_word_is : IsExact (λ (w : LineWord). 32 ∷ line_word_text w) (λ w. Unit {0}) Ends (word_value line_word_text line_words)
line_word_is = table_exact line_word_text line_words refl (elim [ word.Checkpoint ↦ refl | _ ↦ refl ])

pub login_is : IsExact (λ (w : LoginState). field (login_state_text w)) (λ w. Unit {0}) Ends (word_value login_state_text login_states)
login_is = table_exact login_state_text login_states refl (elim [ login.New ↦ refl | _ ↦ refl ])

pub slot_word_is : IsExact (λ (w : SlotWord). field (slot_word_text w)) (λ w. Unit {0}) Ends (word_value slot_word_text slot_words)
slot_word_is = table_exact slot_word_text slot_words refl (elim [ word.Waits ↦ refl | word.Link ↦ refl ])

pub command_word_is : IsExact (λ (w : CommandWord). field (command_word_text w)) (λ w. Unit {0}) Ends command_word_field
command_word_is = table_exact command_word_text command_words refl (elim [ command_word.Retr ↦ refl | _ ↦ refl ])

-- ---- fields

bit_forth : (n : ℕ) → n < 2 → number n ≡ bit (eqb n 1)
bit_forth n lt = ap number (cases n lt) where
  cases : (m : ℕ) → m < 2 → m ≡ cond (eqb m 1) 1 0
  cases m lt = grind (arith, nat_tests)

bit_there : (b : Bool) → (cond b 1 0 < 2) × (eqb (cond b 1 0) 1 ≡ b) × (bit b ≡ number (cond b 1 0))
bit_there true = (omega arith, refl, refl)
bit_there false = (omega arith, refl, refl)

pub bit_is : IsExact bit (λ b. Unit {0}) Ends bit_field
unfolding bit_field
bit_is = made_exact (small_is 2 (omega arith)) (λ n. eqb n 1) (λ b. cond b 1 0) bit (λ b. Unit {0}) (λ n lt. (bit_forth n lt, tt)) (λ b fits. bit_there b)

pub lengths_is : IsExact (λ (x : Lengths). optional decimal x.0 ++ optional decimal x.1) (λ (x : Lengths). Each IsNumber x.0 × Each IsNumber x.1) Ends lengths_at
lengths_is = pair_exact optional_number_is optional_number_is (λ y rest h. optional_starts decimal y rest)

-- a value that may be missing begins with its space
pub maybe_starts : {A : Type 0} (s : A → List ℕ) (o : Option A) (more rest : List ℕ) → Ends ((optional s o ++ more) ++ rest)
maybe_starts s None more rest = refl
maybe_starts s (Some x) more rest = refl
