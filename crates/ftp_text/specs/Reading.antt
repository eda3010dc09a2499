-- Reading the fields of a line from left to right. What a reader finds is a value and the bytes behind it.
use Rattle.std.specs.Prelude.{◌≡◌, ℕ, ◌+◌, ◌*◌, ◌^◌, ◌<◌, ◌==◌, ◌&&◌, nat_lt, Bool, false, List, [], ◌∷◌, ◌++◌, length, take, drop, map, find, codes, decimal, Option, Some, None, Result, Ok, Err, if◌then◌else◌}
use Rattle.std.specs.List.{prefix_len, position_or_len, slice_split}
use Rattle.std.specs.Borrow.{Bor}
use Rattle.std.specs.Map.{lookup}
use Rattle.std.specs.Str.{bytes_eq}
use Rattle.std.specs.Char.{is_ascii_digit, digit_value}
use Rattle.std.specs.Str.Parse.{digits_value}
use Rattle.std.specs.Int.{w32, from_be_bytes}
use Rattle.std.specs.Fmt.{digit_glyph}
use Rattle.ftp_base.specs.declared.net.IpAddr.{IpAddr}
use Rattle.ftp_base.specs.declared.net.IpAddr.TheVariants.{V4, V6}
use Rattle.ftp_base.specs.declared.net.SocketAddr.{SocketAddr}
use Rattle.ftp_base.specs.declared.login.AuthAnswer.{AuthAnswer}
use Rattle.ftp_base.specs.declared.error_kind.ErrorKind.{ErrorKind}
use Rattle.ftp_base.specs.declared.fault.LinkFault.{LinkFault}
use Rattle.ftp_base.specs.Calls.{rises_above}
use Rattle.ftp_proxy.specs.declared.error.ProxyError.{ProxyError}
use Rattle.ftp_text.specs.declared.fault.LineFault.{LineFault}
use Rattle.ftp_text.specs.declared.fault.LineFault.TheVariants as fault
use Rattle.ftp_text.specs.Fields.{hex_byte, hex_digits, is_plain, escape_byte, values, auth_words, answer_text, kind_words, refusal_text, fault_words, fault_text, proxy_error_words}

-- what finds a value at the front
abbrev pub Reader : Type 0 → Type 0
Reader A = List ℕ → Option (A × List ℕ)

infixl 10 ◌>>=◌
-- the next step, where this one found something
abbrev pub ◌>>=◌ : {A B : Type 0} → Option A → (A → Option B) → Option B
(Some x) >>= f = f x
None >>= f = None

-- reading finds nothing, unless memory ran out
abbrev pub Fails : {Y : Type 0} → LineFault → Option Y → Type 0
Fails fault.Memory read = Unit {0}
Fails fault.Bad read = read ≡ None

-- what was returned, seen by view, is what reading finds, unless memory ran out
abbrev pub Gives : {X Y : Type 0} → (X → Y) → Result X LineFault → Option Y → Type 0
Gives view (Ok x) read = read ≡ Some (view x)
Gives view (Err e) read = Fails e read

-- one field after another
abbrev pub pair : {A B : Type 0} → Reader A → Reader B → Reader (A × B)
pair first second bytes = do
  a ← first bytes
  b ← second a.1
  Some ((a.0, b.0), b.1)

-- a value that is made of what is read
abbrev pub made : {A B : Type 0} → (A → B) → Reader A → Reader B
made make read bytes = do
  a ← read bytes
  Some (make a.0, a.1)

-- what passes a test
abbrev pub tested : {A : Type 0} → (A → Bool) → Reader A → Reader A
tested test read bytes = do
  x ← read bytes
  if test x.0 then Some x else None

-- ---- pieces

-- the bytes behind the byte c
abbrev pub after : ℕ → List ℕ → Option (List ℕ)
after c [] = None
after c (b ∷ bytes) = if b == c then Some bytes else None

-- what stands behind the byte c
abbrev pub behind : {A : Type 0} → ℕ → Reader A → Reader A
behind c read bytes = do
  rest ← after c bytes
  read rest

-- whether the byte c comes first
abbrev pub begins : ℕ → List ℕ → Bool
begins c [] = false
begins c (b ∷ bytes) = b == c

-- the bytes behind a text
abbrev pub literal_at : List ℕ → List ℕ → Option (List ℕ)
literal_at text bytes = if bytes_eq (take (length text) bytes) text then Some (drop (length text) bytes) else None

-- what stands behind a text
abbrev pub behind_text : {A : Type 0} → List ℕ → Reader A → Reader A
behind_text text read bytes = do
  rest ← literal_at text bytes
  read rest

-- what stands before a text
abbrev pub before_text : {A : Type 0} → List ℕ → Reader A → Reader A
before_text text read bytes = do
  x ← read bytes
  rest ← literal_at text x.1
  Some (x.0, rest)

-- a value behind which nothing stands
abbrev pub last_value : {A : Type 0} → A → List ℕ → Option A
last_value x rest = if length rest == 0 then Some x else None

-- the value that all of the bytes spell
abbrev pub all_of : {A : Type 0} → Reader A → List ℕ → Option A
all_of read bytes = do
  x ← read bytes
  last_value x.0 x.1

-- ---- numbers

-- the number of 64 bits that these digits spell
abbrev pub numeral : List ℕ → Option ℕ
numeral digits =
    let n = digits_value 10 digits in
    if bytes_eq (decimal n) digits && nat_lt n (2 ^ 64) then Some n else None

-- the number whose digits stand at the front
unfoldable pub number_at : Reader ℕ
number_at bytes = do
  n ← numeral (take (prefix_len is_ascii_digit bytes) bytes)
  Some (n, drop (prefix_len is_ascii_digit bytes) bytes)

-- a number below a limit
unfoldable pub small_at : ℕ → Reader ℕ
small_at limit bytes = do
  n ← number_at bytes
  if nat_lt n.0 limit then Some n else None

-- ---- addresses

-- four numbers joined by dots
unfoldable pub dotted_at : Reader ℕ
dotted_at =
    made (λ x. from_be_bytes w32 (x.0.0.0 ∷ x.0.0.1 ∷ x.0.1 ∷ x.1 ∷ []))
    (pair (pair (pair (small_at 256) (behind 46 (small_at 256))) (behind 46 (small_at 256))) (behind 46 (small_at 256)))

-- the number that these 32 digits spell
abbrev pub hex_numeral : List ℕ → Option ℕ
hex_numeral digits =
    let n = digits_value 16 digits in
    if bytes_eq (hex_digits 32 n) digits && nat_lt n (2 ^ 128) then Some n else None

-- 32 hexadecimal digits
unfoldable pub hex_word_at : Reader ℕ
hex_word_at bytes = do
  n ← hex_numeral (take 32 bytes)
  Some (n, drop 32 bytes)

-- a port behind a colon
abbrev pub port_at_colon : Reader ℕ
port_at_colon bytes = behind 58 (small_at (2 ^ 16)) bytes

-- an IPv4 address and a port
unfoldable pub ipv4_at : Reader SocketAddr
ipv4_at = made (λ x. record { ip = V4 x.0; port = x.1 }) (pair dotted_at port_at_colon)

-- an IPv6 address and a port
unfoldable pub ipv6_at : Reader SocketAddr
ipv6_at = made (λ x. record { ip = V6 x.0; port = x.1 }) (behind 91 (pair hex_word_at (behind 93 port_at_colon)))

-- an address and a port
unfoldable pub address_at : Reader SocketAddr
address_at bytes = if begins 91 bytes then ipv6_at bytes else ipv4_at bytes

-- an address of either version
unfoldable pub ip_at : Reader IpAddr
ip_at bytes = if begins 91 bytes then made V6 (behind 91 (before_text (codes "]") hex_word_at)) bytes else made V4 dotted_at bytes

-- ---- texts

-- n is the value of the digit or lower-case letter c
abbrev pub SpellsNibble : ℕ → Option ℕ → Type 0
SpellsNibble c (Some n) = (n < 16) × (digit_glyph false n ≡ c)
SpellsNibble c None = (n : ℕ) → n < 16 → digit_glyph false n ≡ c → ⊥

-- a byte more of a text: what has come of the next byte's spelling, and the bytes of the text that are whole
abbrev pub step : List ℕ → ℕ → Option (List ℕ × List ℕ)
step [] c = if is_plain c then Some ([], c ∷ []) else if c == 92 then Some (c ∷ [], []) else None
step (a ∷ []) c = if c == 120 then Some (a ∷ c ∷ [], []) else None
step (a ∷ b ∷ []) c = Some (a ∷ b ∷ c ∷ [], [])
step (a ∷ b ∷ h ∷ []) c =
    let n = 16 * digit_value h + digit_value c in
    if nat_lt n 256 && bytes_eq (escape_byte n) (a ∷ b ∷ h ∷ c ∷ []) then Some ([], n ∷ []) else None
step _ c = None

-- what the bytes behind a backslash spell
abbrev pub escaped_at : Reader ℕ
escaped_at (x ∷ h ∷ l ∷ bytes) =
    let n = 16 * digit_value h + digit_value l in
    if (x == 120 && nat_lt n 256) && bytes_eq (escape_byte n) (92 ∷ 120 ∷ h ∷ l ∷ []) then Some (n, bytes) else None
escaped_at _ = None

-- the byte of a text that is spelled at the front
unfoldable pub text_byte_at : Reader ℕ
text_byte_at [] = None
text_byte_at (c ∷ bytes) = if is_plain c then Some (c, bytes) else if c == 92 then escaped_at bytes else None

-- the text of the bytes, where the first byte's spelling has begun so
unfoldable pub text_from : List ℕ → List ℕ → Option (List ℕ)
text_from begun [] = if length begun == 0 then Some [] else None
text_from begun (c ∷ bytes) = do
  s ← step begun c
  text ← text_from s.0 bytes
  Some (s.1 ++ text)

-- the text that all of the bytes spell
abbrev pub text_of : List ℕ → Option (List ℕ)
text_of bytes = text_from [] bytes

-- the byte that two digits spell
abbrev pub hex_pair : ℕ → ℕ → Option ℕ
hex_pair h l =
    let n = 16 * digit_value h + digit_value l in
    if nat_lt n 256 && bytes_eq (hex_byte n) (h ∷ l ∷ []) then Some n else None

-- the bytes that pairs of digits spell, where a first digit has come or not
unfoldable pub hex_from : Option ℕ → List ℕ → Option (List ℕ)
hex_from None [] = Some []
hex_from (Some h) [] = None
hex_from None (c ∷ digits) = hex_from (Some c) digits
hex_from (Some h) (c ∷ digits) = do
  b ← hex_pair h c
  bytes ← hex_from None digits
  Some (b ∷ bytes)

-- the bytes that a hexadecimal text spells
unfoldable pub hex_of : List ℕ → Option (List ℕ)
hex_of [] = None
hex_of (c ∷ digits) = if bytes_eq (c ∷ digits) (codes ".") then Some [] else hex_from None (c ∷ digits)

-- ---- fields

-- a number
abbrev pub number_field : Reader ℕ
number_field bytes = behind 32 number_at bytes

-- a number below a limit
abbrev pub small_field : ℕ → Reader ℕ
small_field limit bytes = behind 32 (small_at limit) bytes

-- an address and a port
abbrev pub address_field : Reader SocketAddr
address_field bytes = behind 32 address_at bytes

-- an address without a port
abbrev pub ip_field : Reader IpAddr
ip_field bytes = behind 32 ip_at bytes

-- a hyphen, or a value
unfoldable pub optional_field : {A : Type 0} → Reader A → Reader (Option A)
optional_field read bytes = do
  rest ← after 32 bytes
  if begins 45 rest then Some (None, drop 1 rest) else made Some read rest

-- a text up to the end
unfoldable pub text_field : Reader (List ℕ)
text_field bytes = do
  rest ← after 32 bytes
  text ← text_of rest
  Some (text, [])

-- a text up to the end, or the end
unfoldable pub optional_text_field : Reader (Option (List ℕ))
optional_text_field [] = Some (None, [])
optional_text_field (c ∷ bytes) = made Some text_field (c ∷ bytes)

-- two numbers joined by a dot
abbrev pub ticket_field : Reader (ℕ × ℕ)
ticket_field = pair number_field (behind 46 number_at)

-- a number in 32 hexadecimal digits
abbrev pub hex_word_field : Reader ℕ
hex_word_field bytes = behind 32 hex_word_at bytes

-- whether the byte ends a word
abbrev pub is_space : ℕ → Bool
is_space b = b == 32

-- the bytes up to the next space or the end
unfoldable pub word_at : Reader (List ℕ)
word_at bytes = do
  rest ← after 32 bytes
  Some (take (position_or_len is_space rest) rest, drop (position_or_len is_space rest) rest)

-- the value that a word spells
abbrev pub word_as : {V : Type 0} → (List ℕ → Option V) → Reader V
word_as value bytes = do
  w ← word_at bytes
  v ← value w.0
  Some (v, w.1)

-- bytes in hexadecimal digits
unfoldable pub hex_field : Reader (List ℕ)
hex_field bytes = word_as hex_of bytes

-- what is spelled so, in a table
abbrev pub find_word : {V : Type 0} → (V → List ℕ) → List V → List ℕ → Option V
find_word text table w = find (λ v. bytes_eq (text v) w) table

-- the value of a table of names, where none stands for no value
abbrev pub named_or_none : {V : Type 0} → List ℕ → List (Bor (List ℕ) × V) → List ℕ → Option (Option V)
named_or_none none table w =
    if bytes_eq none w then Some None else lookup (λ name. bytes_eq name.now w) (map (λ row. (row.0, Some row.1)) table)

-- the value of a table that a word spells
unfoldable pub word_value : {V : Type 0} → (V → List ℕ) → List V → Reader V
word_value text table bytes = word_as (find_word text table) bytes

-- a word of a table, and what stands behind it
abbrev pub worded : {V A : Type 0} → (V → List ℕ) → List V → (V → Reader A) → Reader A
worded text table read bytes = word_value text table bytes >>= λ w. read w.0 w.1

-- the value of a table that a word spells, with the bytes behind the word
abbrev pub valued : {V : Type 0} → (V → List ℕ) → List V → List ℕ → Reader V
valued text table w bytes = do
  v ← find_word text table w
  Some (v, bytes)

-- the same behind a word that was read
abbrev pub by_word : {V A : Type 0} → (V → List ℕ) → List V → (V → Reader A) → List ℕ → Reader A
by_word text table read w bytes = valued text table w bytes >>= λ v. read v.0 v.1

-- all that an authenticator can say
abbrev pub answers : List AuthAnswer
answers = values auth_words

-- what an authenticator says
abbrev pub answer_field : Reader AuthAnswer
answer_field = word_value answer_text answers

-- all kinds of refusals by a storage
abbrev pub kinds : List ErrorKind
kinds = values kind_words

-- all that a storage can say of a call
abbrev pub refusals : List (Option ErrorKind)
refusals = None ∷ map Some kinds

-- what a storage says of a call
abbrev pub refusal_field : Reader (Option ErrorKind)
refusal_field = word_value refusal_text refusals

-- all that can be wrong with the header of a proxy
abbrev pub proxy_errors : List ProxyError
proxy_errors = values proxy_error_words

-- ---- the calls that fail

-- whether the byte stands between values
abbrev pub is_comma : ℕ → Bool
is_comma b = b == 44

-- the value that each word spells
unfoldable pub each_of : {A : Type 0} → (List ℕ → Option A) → List (List ℕ) → Option (List A)
each_of value [] = Some []
each_of value (w ∷ words) = do
  x ← value w
  xs ← each_of value words
  Some (x ∷ xs)

-- the values that a word spells: a hyphen for none, or values with commas between them
unfoldable pub list_of : {A : Type 0} → (List ℕ → Option A) → List ℕ → Option (List A)
list_of value w = if bytes_eq w (codes "-") then Some [] else each_of value (slice_split is_comma w)

-- calls that rise from 1 on
unfoldable pub calls_field : {A : Type 0} → (List ℕ → Option A) → (A → ℕ) → Reader (List A)
calls_field value number = tested (rises_above number 0) (word_as (list_of value))

-- the number that all of a word spells
unfoldable pub call_of : List ℕ → Option ℕ
call_of w = all_of number_at w

-- all that a call on a connection can meet
abbrev pub faults : List LinkFault
faults = values fault_words

-- the failing call on a connection that all of a word spells
unfoldable pub link_call_of : List ℕ → Option (ℕ × LinkFault)
link_call_of w = do
  n ← number_at w
  rest ← after 58 n.1
  fault ← find_word fault_text faults rest
  Some (n.0, fault)
