-- Replies as they are sent: one line, or several (RFC 959, section 4.2).
use Rattle.std.specs.Prelude.{◌≡◌, ℕ, ◌==◌, ◌&&◌, not, nat_eq, Bool, true, List, ◌++◌, length, codes, decimal}
use Rattle.std.specs.List.{list_any, list_all, flat_map, starts_with}
use Rattle.std.specs.Char.{is_ascii_digit}

-- a reply of one line, or of several: the first one, those between and the last one, each without code and end
pub data ReplyText : Type 0 where
  OneLine : (code text : List ℕ) → ReplyText
  ManyLines : (code first : List ℕ) (middle : List (List ℕ)) (last : List ℕ) → ReplyText

-- a line with CR LF at its end
abbrev pub line_with_end : List ℕ → List ℕ
line_with_end line = line ++ codes "\r\n"

-- the bytes of a reply: a blank stands behind the code of its last line, and a hyphen behind that of a first one before it
abbrev pub reply_bytes : ReplyText → List ℕ
reply_bytes (OneLine code text) = code ++ codes " " ++ line_with_end text
reply_bytes (ManyLines code first middle last) =
    (code ++ codes "-" ++ line_with_end first) ++ flat_map line_with_end middle ++ (code ++ codes " " ++ line_with_end last)

-- the reply to an EPSV that is granted a port (RFC 2428, section 3)
abbrev pub epsv_reply : ℕ → ReplyText
epsv_reply port = OneLine (codes "229") (codes "Entering Extended Passive Mode (|||" ++ decimal port ++ codes "|)")

-- a code: three digits
abbrev pub is_code : List ℕ → Bool
is_code code = length code == 3 && list_all is_ascii_digit code

-- the byte ends a line
abbrev pub is_feed : ℕ → Bool
is_feed byte = byte == 10

-- the text stands in one line
abbrev pub is_in_line : List ℕ → Bool
is_in_line text = not (list_any is_feed text)

-- the line does not end a reply of this code
abbrev pub is_middle_line : List ℕ → List ℕ → Bool
is_middle_line code line = is_in_line line && not (starts_with nat_eq line (code ++ codes " "))

-- a reply is whole: it has a code, its texts stand in their lines, and no line before the last one ends it
abbrev pub is_whole_reply : ReplyText → Bool
is_whole_reply (OneLine code text) = is_code code && is_in_line text
is_whole_reply (ManyLines code first middle last) =
    is_code code && is_in_line first && list_all (is_middle_line code) middle && is_in_line last

-- the bytes are whole replies
abbrev pub AreReplyLines : List ℕ → Type 0
AreReplyLines bytes = (replies : List ReplyText) × (list_all is_whole_reply replies ≡ true) × (bytes ≡ flat_map reply_bytes replies)
