use Rattle.std.proofs.Common.{◌≡◌, ◌<◌, ℕ, List, [], ◌∷◌, None, length, refl, sym, arith}
use Rattle.ftp_events.specs.Text.{six}
use Rattle.ftp_proxy.proofs.Cuts.{pieces-some}
use Rattle.ftp_events.proofs.port_text.sixths.Goals as goal

-- with a seventh piece there are not six
six-more : (a b c d high low : List ℕ) (more : List (List ℕ)) → 0 < length more → six (a ∷ b ∷ c ∷ d ∷ high ∷ low ∷ more) ≡ None
six-more a b c d high low [] some = absurd (omega arith)
six-more a b c d high low (e ∷ more) some = refl

pub returns-in-Some : goal.returns-in-Some
returns-in-Some c =
    rw (c.cut.ensures, c.in_ok-rest.was, c.cut-2.ensures, c.in_ok-rest-2.was, c.cut-3.ensures, c.in_ok-rest-3.was, c.cut-4.ensures, c.in_ok-rest-4.was, c.cut-5.ensures, c.in_ok-rest-5.was, c.cut-6.ensures, c.in-Some.is)
    (sym (six-more _ _ _ _ _ _ _ (pieces-some 44 c.in-Some.field-0.now)))
