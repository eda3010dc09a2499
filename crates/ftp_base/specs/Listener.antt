-- What listeners tell of what they heard.
use Rattle.std.specs.Prelude.{◌≡◌, List, [], ◌∷◌, ◌++◌, Option, Some, IfSome}
use Rattle.ftp_base.specs.declared.notice.EventMeta.{EventMeta}

-- this event was heard, behind all that was heard before, where that is told
abbrev pub Hears : {E : Type 0} → Option (List (E × EventMeta)) → Option (List (E × EventMeta)) → E → EventMeta → Type 0
Hears old new event meta = IfSome old (λ heard. new ≡ Some (heard ++ (event, meta) ∷ []))
