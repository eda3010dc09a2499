-- The lines by which a running gateway is asked for something.
use Rattle.std.specs.Prelude.{ℕ, List, ◌∷◌, [], find, Option, codes}
use Rattle.std.specs.Str.{bytes_eq}
use Rattle.ftp_gateway.specs.declared.request.Request.{Request}
use Rattle.ftp_gateway.specs.declared.request.Request.TheVariants.{Stop, Reload, Status}

-- the line that asks for something
abbrev pub request_text : Request → List ℕ
request_text Stop = codes "stop\n"
request_text Reload = codes "reload\n"
request_text Status = codes "status\n"

-- what a line asks for
abbrev pub line_request : List ℕ → Option Request
line_request line = find (λ request. bytes_eq (request_text request) line) (Stop ∷ Reload ∷ Status ∷ [])
