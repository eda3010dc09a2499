-- Which header stands at the front of bytes, or the first cause from the left why none does, and what is taken of them.
--
--   refusal_at   why the byte at a place of the first sixteen may not stand there
--   fields_at    the fields of the end of a block, or the place of the first that passes the end
--   taken_len    how many bytes are taken
--   outcome      the header, or why there is none
use Rattle.std.specs.Prelude.{◌≡◌, ℕ, zero, suc, ◌+◌, ◌<◌, ◌≤◌, ◌==◌, ◌||◌, nat_lt, nat_le, Bool, true, IsSome, IfSome, IsOk, List, [], ◌∷◌, ◌++◌, length, get_or, take, drop, is_some, Option, Some, None, Result, Ok, Err, if◌then◌else◌}
use Rattle.std.specs.Int.{w16, w32, w128, from_be_bytes}
use Rattle.std.specs.Option.{option_map_or}
use Rattle.ftp_base.specs.declared.net.IpAddr.TheVariants.{V4, V6}
use Rattle.ftp_base.specs.declared.net.SocketAddrPair.{SocketAddrPair}
use Rattle.ftp_base.specs.declared.fault.LinkFault.{LinkFault}
use Rattle.ftp_base.specs.Calls.{Calls, AllWell}
use Rattle.ftp_base.specs.Kept.{OnlyReads}
use Rattle.ftp_base.specs.Memory.{LinkMet}
use Rattle.ftp_base.specs.Outside.{Sending, HasRisen}
use Rattle.ftp_proxy.specs.declared.v2_header.Header2.{Header2}
use Rattle.ftp_proxy.specs.declared.v2_header.Body.{Body}
use Rattle.ftp_proxy.specs.declared.v2_header.Body.TheVariants.{LocalBlock, UnspecBlock, Inet, Inet6, Unix}
use Rattle.ftp_proxy.specs.declared.v2_header.Field.{Field}
use Rattle.ftp_proxy.specs.declared.v2_error.Proxy2Error.{Proxy2Error}
use Rattle.ftp_proxy.specs.declared.v2_error.Proxy2Error.TheVariants as error
use Rattle.ftp_proxy.specs.V2Header.{signature, is_family, IsHeader}

-- ---- the first sixteen bytes

-- the byte at a place
abbrev pub at : List ℕ → ℕ → ℕ
at bytes i = get_or bytes i 0

-- the number of the two bytes at a place, the high one first
abbrev pub number_at : List ℕ → ℕ → ℕ
number_at bytes i = from_be_bytes w16 (at bytes i ∷ at bytes (i + 1) ∷ [])

-- how many bytes the addresses of a family have, where there is such a family
abbrev pub addresses_len : ℕ → Option ℕ
addresses_len family =
    if family == 0 then Some 0
    else if is_family 1 family then Some 12
    else if is_family 2 family then Some 36
    else if is_family 3 family then Some 216
    else None

-- whether the command is local
abbrev pub is_local : List ℕ → Bool
is_local bytes = at bytes 12 == 32

-- how many bytes the block has at least
abbrev pub needed : List ℕ → ℕ
needed bytes = if is_local bytes then 0 else option_map_or (λ n. n) (addresses_len (at bytes 13)) 0

-- the block's length
abbrev pub block_len : List ℕ → ℕ
block_len bytes = number_at bytes 14

-- why the byte at a place may not stand there, where those before it may
abbrev pub refusal_at : List ℕ → ℕ → Option Proxy2Error
refusal_at bytes i =
    if nat_lt i 12 then (if at bytes i == at signature i then None else Some (error.NotSignature i))
    else if i == 12 then (if is_local bytes || at bytes 12 == 33 then None else Some (error.BadVersion (at bytes 12)))
    else if i == 13 then (if is_local bytes || is_some (addresses_len (at bytes 13)) then None else Some (error.BadFamily (at bytes 13)))
    else if i == 15 then (if nat_le (needed bytes) (block_len bytes) then None else Some (error.ShortBlock (block_len bytes) (needed bytes)))
    else None

-- the first of n places from i on whose byte is refused, and why
unfoldable pub refusal_from : ℕ → ℕ → List ℕ → Option (ℕ × Proxy2Error)
refusal_from zero i bytes = None
refusal_from (suc n) i bytes = option_map_or (λ e. Some (i, e)) (refusal_at bytes i) (refusal_from n (i + 1) bytes)

-- the first byte that is refused, and why
abbrev pub refusal : List ℕ → Option (ℕ × Proxy2Error)
refusal bytes = refusal_from 16 0 bytes

-- ---- the block

-- what was answered, with more done to it
abbrev pub mapped : {A B : Type 0} → (A → B) → Result A Proxy2Error → Result B Proxy2Error
mapped f (Ok x) = Ok (f x)
mapped f (Err e) = Err e

-- how many bytes the field at the front has
abbrev pub field_len : List ℕ → ℕ
field_len bytes = 3 + number_at bytes 1

-- the field at the front
abbrev pub field_of : List ℕ → Field
field_of bytes = record { kind = at bytes 0; value = take (number_at bytes 1) (drop 3 bytes) }

-- the same, where the field does not pass the end
abbrev pub whole_field : List ℕ → Option ℕ
whole_field bytes = if nat_lt (length bytes) (field_len bytes) then None else Some (field_len bytes)

-- the fields of bytes that begin at a place of the block, n at most, or the place of the first that passes the end
unfoldable pub fields_at : ℕ → ℕ → List ℕ → Result (List Field) Proxy2Error
fields_at zero place bytes = Ok []
fields_at (suc n) place bytes =
    if length bytes == 0 then Ok []
    else option_map_or (λ len. mapped (λ fields. field_of bytes ∷ fields) (fields_at n (place + len) (drop len bytes))) (whole_field bytes) (Err (error.BadField place))

-- the fields behind the addresses, which have so many bytes
abbrev pub fields_of : ℕ → List ℕ → Result (List Field) Proxy2Error
fields_of len block = let bytes = drop len block in fields_at (length bytes) len bytes

-- both ends, of version 4
abbrev pub pair4 : List ℕ → SocketAddrPair
pair4 block =
    record {
      source = record { ip = V4 (from_be_bytes w32 (take 4 block)); port = number_at block 8 };
      destination = record { ip = V4 (from_be_bytes w32 (take 4 (drop 4 block))); port = number_at block 10 };
    }

-- both ends, of version 6
abbrev pub pair6 : List ℕ → SocketAddrPair
pair6 block =
    record {
      source = record { ip = V6 (from_be_bytes w128 (take 16 block)); port = number_at block 32 };
      destination = record { ip = V6 (from_be_bytes w128 (take 16 (drop 16 block))); port = number_at block 34 };
    }

-- the body of a block of each family
abbrev pub inet : List ℕ → Result Body Proxy2Error
inet block = mapped (λ fields. Inet (pair4 block) fields) (fields_of 12 block)

abbrev pub inet6 : List ℕ → Result Body Proxy2Error
inet6 block = mapped (λ fields. Inet6 (pair6 block) fields) (fields_of 36 block)

abbrev pub unix : List ℕ → Result Body Proxy2Error
unix block = mapped (λ fields. Unix (take 108 block) (take 108 (drop 108 block)) fields) (fields_of 216 block)

-- the body of a block, by command and family
abbrev pub body_of : List ℕ → List ℕ → Result Body Proxy2Error
body_of head block =
    if is_local head then Ok (LocalBlock block)
    else if is_family 1 (at head 13) then inet block
    else if is_family 2 (at head 13) then inet6 block
    else if is_family 3 (at head 13) then unix block
    else Ok (UnspecBlock block)

-- ---- the whole

-- how many bytes are taken: up to and with the first that is refused, else the first sixteen and the block
abbrev pub taken_len : List ℕ → ℕ
taken_len bytes = option_map_or (λ r. r.0 + 1) (refusal bytes) (16 + block_len bytes)

-- the header of all that is taken, where no byte of the first sixteen is refused
abbrev pub header_of : List ℕ → Result Header2 Proxy2Error
header_of bytes =
    mapped (λ body. record { family = at bytes 13; body = body }) (body_of bytes (take (block_len bytes) (drop 16 bytes)))

-- the header, or why there is none
abbrev pub outcome : List ℕ → Result Header2 Proxy2Error
outcome bytes =
    if nat_lt (length bytes) (taken_len bytes) then Err error.UnexpectedEof
    else option_map_or (λ r. Err r.1) (refusal bytes) (header_of bytes)

-- the answer is the outcome, unless the source failed or memory ran out
abbrev pub IsAnswer : List ℕ → Result Header2 Proxy2Error → Type 0
IsAnswer bytes (Err error.Fault) = Unit {0}
IsAnswer bytes (Err error.OutOfMemory) = Unit {0}
IsAnswer bytes answer = answer ≡ outcome bytes

-- at most so many bytes were taken from the front
abbrev pub IsPart : ℕ → List ℕ → Option (List ℕ) → Type 0
IsPart most bytes left = (n : ℕ) × (n ≤ most) × (left ≡ Some (drop n bytes))

-- what is taken was taken and no more; where the source failed or memory ran out, some bytes from its front
abbrev pub IsTaken : List ℕ → Result Header2 Proxy2Error → Option (List ℕ) → Type 0
IsTaken bytes (Err error.Fault) left = IsPart (taken_len bytes) bytes left
IsTaken bytes (Err error.OutOfMemory) left = IsPart (taken_len bytes) bytes left
IsTaken bytes answer left = left ≡ Some (drop (taken_len bytes) bytes)

-- a header was read: it stood at the front, and is all that was taken
pub record IsFound (bytes : List ℕ) (h : Header2) (left : Option (List ℕ)) : Type 0 where
  pub header : List ℕ
  pub rest : List ℕ
  pub is_header : IsHeader header h
  pub in_front : bytes ≡ header ++ rest
  pub behind : left ≡ Some rest

-- the header is read, unless the source failed or memory ran out
abbrev pub IsReadAs : Header2 → Result Header2 Proxy2Error → Type 0
IsReadAs h (Err error.Fault) = Unit {0}
IsReadAs h (Err error.OutOfMemory) = Unit {0}
IsReadAs h answer = answer ≡ Ok h

-- ---- in between

-- all are bytes
abbrev pub IsBytes : List ℕ → Type 0
IsBytes bytes = (i : ℕ) → get_or bytes i 0 < 256

-- what was made, unless memory ran out
abbrev pub IsMade : {A : Type 0} → Result A Proxy2Error → Result A Proxy2Error → Type 0
IsMade made (Err error.OutOfMemory) = Unit {0}
IsMade made answer = answer ≡ made

-- reads of a source, none of which failed
pub record ReadsWell {S : Type 0} (sending : S → Sending) (faults limit : S → ℕ) (calls : S → Option (Calls (ℕ × LinkFault))) (old new : S) : Type 0 where
  pub last_fault : (sending new).last_fault ≡ (sending old).last_fault
  pub unlisted : AllWell (λ call. call.0) (calls old) (calls new)
  pub only_reads : OnlyReads sending faults limit old new

-- reads of a source, of which the last failed
pub record ReadsToFault {S : Type 0} (sending : S → Sending) (faults limit : S → ℕ) (calls : S → Option (Calls (ℕ × LinkFault))) (is_link : Bool) (old new : S) : Type 0 where
  pub met : is_link ≡ true → IsSome (sending new).last_fault
  pub as_listed : LinkMet (calls old) (calls new) (sending new).last_fault
  pub fault_rose : HasRisen (faults old) (faults new)
  pub only_reads : OnlyReads sending faults limit old new

-- what reads did to a source that ended in an error
abbrev pub IsRefused : {S : Type 0} → (S → Sending) → (S → ℕ) → (S → ℕ) → (S → Option (Calls (ℕ × LinkFault))) → Bool → S → S → Proxy2Error → Type 0
IsRefused sending faults limit calls is_link old new error.Fault = ReadsToFault sending faults limit calls is_link old new
IsRefused sending faults limit calls is_link old new _ = ReadsWell sending faults limit calls old new

-- what reads did to a source, by their answer
abbrev pub IsRead : {S A : Type 0} → (S → Sending) → (S → ℕ) → (S → ℕ) → (S → Option (Calls (ℕ × LinkFault))) → Bool → S → S → Result A Proxy2Error → Type 0
IsRead sending faults limit calls is_link old new (Ok x) = ReadsWell sending faults limit calls old new
IsRead sending faults limit calls is_link old new (Err e) = IsRefused sending faults limit calls is_link old new e

-- a whole buffer was filled
pub record FillsAll (bytes out : List ℕ) (left : Option (List ℕ)) : Type 0 where
  pub within : length out ≤ length bytes
  pub front : out ≡ take (length out) bytes
  pub rest : left ≡ Some (drop (length out) bytes)
  pub are_bytes : IsBytes out

-- a buffer was filled, or the bytes came to their end, or a read failed
abbrev pub Fills : {A : Type 0} → List ℕ → List ℕ → Result A Proxy2Error → Option (List ℕ) → Type 0
Fills bytes out (Ok x) left = FillsAll bytes out left
Fills bytes out (Err error.UnexpectedEof) left = (length bytes < length out) × (left ≡ Some [])
Fills bytes out (Err error.Fault) left = IsPart (length out) bytes left
Fills bytes out (Err e) left = ⊥

-- the front of a buffer was filled
pub record Filling (bytes out : List ℕ) (n : ℕ) (left : Option (List ℕ)) : Type 0 where
  pub within : n ≤ length bytes
  pub front : take n out ≡ take n bytes
  pub rest : left ≡ Some (drop n bytes)

-- what is made of so many bytes, where they are there
abbrev pub made : {A : Type 0} → ℕ → (List ℕ → Result A Proxy2Error) → List ℕ → Result A Proxy2Error
made len make bytes = if nat_lt (length bytes) len then Err error.UnexpectedEof else make (take len bytes)

-- so many bytes were read, and this was made of them
pub record ReadsAll {A : Type 0} (len : ℕ) (make : List ℕ → Result A Proxy2Error) (bytes : List ℕ) (answer : Result A Proxy2Error) (left : Option (List ℕ)) : Type 0 where
  pub answer_is : answer ≡ made len make bytes
  pub rest : left ≡ Some (drop len bytes)
  pub are_bytes : len ≤ length bytes → IsBytes (take len bytes)

-- so many bytes were read, and this was made of them; where the source failed or memory ran out, some bytes from their front
abbrev pub Reads : {A : Type 0} → ℕ → (List ℕ → Result A Proxy2Error) → List ℕ → Result A Proxy2Error → Option (List ℕ) → Type 0
Reads len make bytes (Err error.Fault) left = IsPart len bytes left
Reads len make bytes (Err error.OutOfMemory) left = IsPart len bytes left
Reads len make bytes answer left = ReadsAll len make bytes answer left

-- a block of so many bytes was read, its first n and the fields behind them: a body that is made of these two is read so
abbrev pub ReadsParts : ℕ → ℕ → Option (List ℕ) → Result (List ℕ × List Field) Proxy2Error → Option (List ℕ) → Type 0
ReadsParts n len now answer left =
    (make : List ℕ → Result Body Proxy2Error) (join : List ℕ → List Field → Body) →
    ((front : List ℕ) → length front ≡ n → (rest : List ℕ) → make (front ++ rest) ≡ mapped (join front) (fields_at (length rest) n rest)) →
    IfSome now (λ bytes. Reads len make bytes (mapped (λ parts. join parts.0 parts.1) answer) left)

-- so many of all bytes were read to the front of a buffer, and none of them is refused
pub record Begun (all buffer : List ℕ) (n : ℕ) (left : Option (List ℕ)) : Type 0 where
  pub within : n ≤ length all
  pub front : take n buffer ≡ take n all
  pub none : (k : ℕ) → k < n → refusal_at all k ≡ None
  pub rest : left ≡ Some (drop n all)
  pub are_bytes : IsBytes (take n all)

-- the first sixteen were read
abbrev pub HeadIs : {A : Type 0} → List ℕ → List ℕ → Result A Proxy2Error → Option (List ℕ) → Type 0
HeadIs all buffer (Ok x) left = Begun all buffer 16 left
HeadIs all buffer (Err e) left = IsAnswer all (Err e) × IsTaken all (Err e) left

-- the header of all bytes was read, of which some were read before
pub record ReadsFrom (all : List ℕ) (answer : Result Header2 Proxy2Error) (left : Option (List ℕ)) : Type 0 where
  pub is_answer : IsAnswer all answer
  pub is_taken : IsTaken all answer left
  pub are_bytes : IsOk answer → IsBytes (take (taken_len all) all)
