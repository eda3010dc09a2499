-- The forms of lines: what stands behind the word of a line, how it is spelled, and how it is read.
--
-- A text is ended by nothing but the end of its line, so it stands last, and so does a message, which may have a text.
use Rattle.std.specs.Prelude.{ℕ, ◌^◌, ◌<◌, List, [], ◌++◌, decimal, Option, Some}
use Rattle.ftp_base.specs.declared.net.SocketAddr.{SocketAddr}
use Rattle.ftp_base.specs.declared.login.AuthAnswer.{AuthAnswer}
use Rattle.ftp_base.specs.declared.error_kind.ErrorKind.{ErrorKind}
use Rattle.ftp_base.specs.declared.message.ControlChanMsg.{ControlChanMsg}
use Rattle.ftp_text.specs.Fields.{field, number, dotted, address_text, optional, optional_text, ticket, escape, hex_digits, answer_text, refusal_text, IsAddress, IsNumber, IsText, Each}
use Rattle.ftp_text.specs.Reading.{Reader, pair, number_at, number_field, small_field, small_at, dotted_at, address_field, optional_field, ticket_field, hex_word_field, answer_field, refusal_field, text_field, optional_text_field}
use Rattle.ftp_text.specs.Message.{message_fields, message_at, IsMessage}

-- what a field holds
pub data Shape : Type 0 where
  Number : Shape
  Port : Shape
  Address : Shape
  Ticket : Shape
  Answer : Shape
  Refusal : Shape
  HexWord : Shape
  MaybeIp : Shape
  MaybePort : Shape
  MaybeNumber : Shape

infixr 5 ◌▸◌
-- what stands behind the word of a line: nothing, a last field, a text to the end of the line, a text or nothing, a message to
-- the end of the line, or a field and more
pub data Form : Type 0 where
  Nothing : Form
  Last : Shape → Form
  Text : Form
  MaybeText : Form
  Message : Form
  ◌▸◌ : Shape → Form → Form

-- ---- a field

-- the value of a field
abbrev pub Value : Shape → Type 0
Value Number = ℕ
Value Port = ℕ
Value Address = SocketAddr
Value Ticket = ℕ × ℕ
Value Answer = AuthAnswer
Value Refusal = Option ErrorKind
Value HexWord = ℕ
Value MaybeIp = Option ℕ
Value MaybePort = Option ℕ
Value MaybeNumber = Option ℕ

-- how a field is spelled
abbrev pub spelled : (f : Shape) → Value f → List ℕ
spelled Number n = number n
spelled Port n = number n
spelled Address a = field (address_text a)
spelled Ticket t = ticket t.0 t.1
spelled Answer said = field (answer_text said)
spelled Refusal refusal = field (refusal_text refusal)
spelled HexWord n = field (hex_digits 32 n)
spelled MaybeIp ip = optional dotted ip
spelled MaybePort port = optional decimal port
spelled MaybeNumber n = optional decimal n

-- the value lies in the range of its type
abbrev pub Fits : (f : Shape) → Value f → Type 0
Fits Number n = n < 2 ^ 64
Fits Port n = n < 2 ^ 16
Fits Address a = IsAddress a
Fits Ticket t = IsNumber t.0 × IsNumber t.1
Fits Answer said = Unit {0}
Fits Refusal refusal = Unit {0}
Fits HexWord n = n < 2 ^ 128
Fits MaybeIp ip = Each (λ n. n < 2 ^ 32) ip
Fits MaybePort port = Each (λ n. n < 2 ^ 16) port
Fits MaybeNumber n = Each IsNumber n

-- the value of a field, and the bytes behind it
abbrev pub reads : (f : Shape) → Reader (Value f)
reads Number = number_field
reads Port = small_field (2 ^ 16)
reads Address = address_field
reads Ticket = ticket_field
reads Answer = answer_field
reads Refusal = refusal_field
reads HexWord = hex_word_field
reads MaybeIp = optional_field dotted_at
reads MaybePort = optional_field (small_at (2 ^ 16))
reads MaybeNumber = optional_field number_at

-- ---- a form

-- the values of a line, in their order
abbrev pub Values : Form → Type 0
Values Nothing = Unit {0}
Values (Last f) = Value f
Values Text = List ℕ
Values MaybeText = Option (List ℕ)
Values Message = ControlChanMsg
Values (f ▸ more) = Value f × Values more

-- how the values are spelled, one behind the other
abbrev pub all_spelled : (form : Form) → Values form → List ℕ
all_spelled Nothing v = []
all_spelled (Last f) v = spelled f v
all_spelled Text text = field (escape text)
all_spelled MaybeText text = optional_text text
all_spelled Message m = message_fields m
all_spelled (f ▸ more) v = spelled f v.0 ++ all_spelled more v.1

-- the values lie in the ranges of their types
abbrev pub AllFit : (form : Form) → Values form → Type 0
AllFit Nothing v = Unit {0}
AllFit (Last f) v = Fits f v
AllFit Text text = IsText text
AllFit MaybeText text = Each IsText text
AllFit Message m = IsMessage m
AllFit (f ▸ more) v = Fits f v.0 × AllFit more v.1

-- the values of a line, and the bytes behind them
abbrev pub all_read : (form : Form) → Reader (Values form)
all_read Nothing = λ bytes. Some (tt, bytes)
all_read (Last f) = reads f
all_read Text = text_field
all_read MaybeText = optional_text_field
all_read Message = message_at
all_read (f ▸ more) = pair (reads f) (all_read more)

-- a function of the values of a line, one after the other
abbrev pub Takes : Form → Type 0 → Type 0
Takes Nothing R = R
Takes (Last f) R = Value f → R
Takes Text R = List ℕ → R
Takes MaybeText R = Option (List ℕ) → R
Takes Message R = ControlChanMsg → R
Takes (f ▸ more) R = Value f → Takes more R

-- the function, of all values at once
abbrev pub apply : {R : Type 0} (form : Form) → Takes form R → Values form → R
apply Nothing make v = make
apply (Last f) make v = make v
apply Text make text = make text
apply MaybeText make text = make text
apply Message make m = make m
apply (f ▸ more) make v = apply more (make v.0) v.1

-- the function of all values at once, one after the other
abbrev pub gather : {R : Type 0} (form : Form) → (Values form → R) → Takes form R
gather Nothing done = done tt
gather (Last f) done = done
gather Text done = done
gather MaybeText done = done
gather Message done = done
gather (f ▸ more) done = λ v. gather more (λ others. done (v, others))
