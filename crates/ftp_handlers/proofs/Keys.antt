-- The key of a login, whichever of two keys is named first.
use Rattle.std.proofs.Common.{◌≡◌, ap, ◌∙◌, ℕ, Bool, cond, List, codes, unwrap_or}
use Rattle.std.specs.Cmp.{eq_by_cmp_equiv}
use Rattle.ftp_options.specs.declared.lockout.FailedLoginsPolicy.{FailedLoginsPolicy}
use Rattle.ftp_lockout.specs.declared.key.LoginKey.{LoginKey}
use Rattle.ftp_lockout.specs.Keys.{key_of, same_key}
use Rattle.ftp_lockout.proofs.Records.{keys_total}
use Rattle.ftp_events.specs.declared.session.Session.{Session}
use Rattle.ftp_events.specs.Lockout.{login_key}

-- what holds of the key of a client's name holds of the key of the login
pub same_key-login :
    {A : Type 0} (key : LoginKey) (p : FailedLoginsPolicy) (v : Session) (name : List ℕ) →
    name ≡ unwrap_or v.name (codes "unknown") →
    (x y : A) → cond (same_key key (key_of p.block_by v.opening.client name)) x y ≡ cond (same_key (login_key p v) key) x y
same_key-login key p v name is x y =
    ap (λ (n : List ℕ). cond (same_key key (key_of p.block_by v.opening.client n)) x y) is
    ∙ ap (λ (b : Bool). cond b x y) ((eq_by_cmp_equiv keys_total).symm key (login_key p v))
