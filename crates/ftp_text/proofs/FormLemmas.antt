-- What has a form is read exactly, whatever the form.
use Rattle.std.proofs.Common.{ℕ, List, [], ◌++◌, Some, refl, sym, ap, subst, append_assoc}
use Rattle.std.specs.Fmt.{decimal}
use Rattle.ftp_text.specs.Fields.{dotted}
use Rattle.ftp_text.specs.Forms.{Shape, Number, Port, Address, Ticket, Answer, Refusal, HexWord, MaybeIp, MaybePort, MaybeNumber, Form, Nothing, Last, Text, MaybeText, Message, ◌▸◌, Value, spelled, Fits, reads, Values, all_spelled, AllFit, all_read}
use Rattle.ftp_text.proofs.Exact.{Ends, IsNil, Ends-from_nil, IsExact, exact_weaker, pair_exact, some_is}
use Rattle.ftp_text.proofs.Values.{text_exact, optional_text_exact}
use Rattle.ftp_text.proofs.FieldLemmas.{number_is, port_is, address_is, ticket_is, answer_is, refusal_is, optional_number_is, optional_port_is, optional_dotted_is, optional_starts, optional_text_starts, hex_word_is}
use Rattle.ftp_text.proofs.MessageLemmas.{message_is, message_starts}

shape_exact : (f : Shape) → IsExact (spelled f) (Fits f) Ends (reads f)
shape_exact Number = number_is
shape_exact Port = port_is
shape_exact Address = address_is
shape_exact Ticket = ticket_is
shape_exact Answer = answer_is
shape_exact Refusal = refusal_is
shape_exact HexWord = hex_word_is
shape_exact MaybeIp = optional_dotted_is
shape_exact MaybePort = optional_port_is
shape_exact MaybeNumber = optional_number_is

-- a field begins with its space
shape_starts : (f : Shape) (v : Value f) (rest : List ℕ) → Ends (spelled f v ++ rest)
shape_starts MaybeIp v rest = optional_starts dotted v rest
shape_starts MaybePort v rest = optional_starts decimal v rest
shape_starts MaybeNumber v rest = optional_starts decimal v rest
shape_starts Number v rest = refl
shape_starts Port v rest = refl
shape_starts Address v rest = refl
shape_starts Ticket v rest = refl
shape_starts Answer v rest = refl
shape_starts Refusal v rest = refl
shape_starts HexWord v rest = refl

-- behind a word nothing stands, or a space
pub form_starts : (form : Form) (v : Values form) (rest : List ℕ) → IsNil rest → Ends (all_spelled form v ++ rest)
form_starts Nothing v rest h = Ends-from_nil rest h
form_starts (Last f) v rest h = shape_starts f v rest
form_starts Text v rest h = refl
form_starts MaybeText v rest h = optional_text_starts v rest h
form_starts Message v rest h = message_starts v rest h
form_starts (f ▸ more) v rest h =
    subst Ends (sym (append_assoc (spelled f v.0) (all_spelled more v.1) rest)) (shape_starts f v.0 (all_spelled more v.1 ++ rest))

nothing_exact : IsExact (λ (v : Unit {0}). []) (λ v. Unit {0}) IsNil (λ bytes. Some (tt, bytes))
nothing_exact = record {
  takes = λ bytes x e. (ap (λ (y : Unit {0} × List ℕ). y.1) (some_is (tt, bytes) x e), tt);
  again = λ x rest fits follows. refl;
}

pub form_exact : (form : Form) → IsExact (all_spelled form) (AllFit form) IsNil (all_read form)
form_exact Nothing = nothing_exact
form_exact (Last f) = exact_weaker (shape_exact f) Ends-from_nil
form_exact Text = text_exact
form_exact MaybeText = optional_text_exact
form_exact Message = message_is
form_exact (f ▸ more) = pair_exact (shape_exact f) (form_exact more) (λ v rest h. form_starts more v rest h)
