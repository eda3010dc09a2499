-- The text of a control connection: its bytes without Telnet commands (RFC 854; RFC 959, section 3.1).
--   text bytes         the text of all bytes of a connection
--   text_in at bytes   the text of the bytes that follow at this place
use Rattle.std.specs.Prelude.{ℕ, ◌==◌, ◌&&◌, nat_le, Bool, List, [], ◌∷◌, if◌then◌else◌}
use Rattle.ftp_system.specs.declared.telnet.Telnet.{Telnet}
use Rattle.ftp_system.specs.declared.telnet.Telnet.TheVariants.{Open, Line, Command, Request, Parameters, ParametersCommand}

-- the byte IAC, which begins a command
abbrev pub iac : ℕ
iac = 255

-- the byte SB, which begins the parameters of an option, and SE, which ends them
abbrev pub begin_parameters : ℕ
begin_parameters = 250

abbrev pub end_parameters : ℕ
end_parameters = 240

-- whether a byte stands for a control function: NOP, DM, BRK, IP, AO, AYT, EC, EL or GA
abbrev pub is_function : ℕ → Bool
is_function b = nat_le 241 b && nat_le b 249

-- whether a byte stands for a request about an option: WILL, WONT, DO or DONT
abbrev pub is_request : ℕ → Bool
is_request b = nat_le 251 b && nat_le b 254

-- the place behind a byte of text
abbrev pub behind : ℕ → Telnet
behind b = if b == 10 then Open else Line

-- the text of the bytes at a place
unfoldable pub text_in : Telnet → List ℕ → List ℕ
text_in at [] = []
-- where a line begins and behind a command, IAC may have been sent as urgent data, and its command stands alone
text_in Open (b ∷ bytes) =
    if b == iac then text_in Command bytes
    else if is_function b then text_in Open bytes
    else b ∷ text_in (behind b) bytes
text_in Line (b ∷ bytes) = if b == iac then text_in Command bytes else b ∷ text_in (behind b) bytes
-- behind IAC a second one stands for a byte of text, and what is no command for itself
text_in Command (b ∷ bytes) =
    if b == iac then b ∷ text_in Line bytes
    else if is_request b then text_in Request bytes
    else if b == begin_parameters then text_in Parameters bytes
    else if nat_le end_parameters b then text_in Open bytes
    else b ∷ text_in (behind b) bytes
-- behind a request the option's byte
text_in Request (b ∷ bytes) = text_in Open bytes
text_in Parameters (b ∷ bytes) = text_in (if b == iac then ParametersCommand else Parameters) bytes
text_in ParametersCommand (b ∷ bytes) = text_in (if b == end_parameters then Open else Parameters) bytes

-- the text of all bytes of a connection
abbrev pub text : List ℕ → List ℕ
text bytes = text_in Open bytes
