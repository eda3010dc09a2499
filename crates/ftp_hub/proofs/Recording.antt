-- Records of failed logins as lines, and back.
use Rattle.std.proofs.Common.{◌≡◌, refl, sym, ap, ◌∙◌, subst, ℕ, ◌<◌, ◌^◌, Bool, true, false, true≢false, not, cond, List, [], ◌∷◌, ◌++◌, append-nil, Option, Some, None, arith}
use Rattle.std.specs.Prelude.{IfSome, filter, is_some, unwrap_or}
use Rattle.std.specs.List.{AllByRecursion}
use Rattle.std.proofs.lemmas.Bool.{and_parts, not-true}
use Rattle.std.proofs.lemmas.List.Elements.{filter-append}
use Rattle.std.specs.Option.{option_or}
use Rattle.ftp_base.specs.declared.net.IpAddr.{IpAddr}
use Rattle.ftp_base.specs.declared.net.IpAddr.TheVariants.{V4, V6}
use Rattle.ftp_options.specs.declared.lockout.FailedLoginsBlock.{FailedLoginsBlock}
use Rattle.ftp_options.specs.declared.lockout.FailedLoginsBlock.TheVariants.{IP, User, UserAndIP}
use Rattle.ftp_lockout.specs.declared.cache.Failures.{Failures}
use Rattle.ftp_lockout.specs.declared.key.LoginKey.{LoginKey}
use Rattle.ftp_lockout.specs.Keys.{key_at, same_key}
use Rattle.ftp_lockout.specs.Logins.{IsOfVersion, IsKey}
use Rattle.ftp_hub.specs.declared.state.RecordLine.{RecordLine}
use Rattle.ftp_hub.specs.State.{entries_of, is_keyed, is_made_by, key_with, record_failures, record_key, recorded_in}

-- the address of a key is found by its version and its number
pub address-found :
    (ip : IpAddr) (name : List ℕ) (key : LoginKey) (found : Option IpAddr) → IsOfVersion ip → key ≡ key_at ip name →
    (key.version ≡ 4 → key.number < 2 ^ 32 → found ≡ Some (V4 key.number)) → (key.version ≡ 6 → found ≡ Some (V6 key.number)) →
    found ≡ Some ip
address-found (V4 n) name key found within is v4 v6 =
    let number : key.number ≡ n = ap (λ (k : LoginKey). k.number) is in
    v4 (ap (λ (k : LoginKey). k.version) is) (subst (λ (m : ℕ). m < 2 ^ 32) (sym number) within) ∙ ap (λ (m : ℕ). Some (V4 m)) number
address-found (V6 n) name key found within is v4 v6 =
    let number : key.number ≡ n = ap (λ (k : LoginKey). k.number) is in
    v6 (ap (λ (k : LoginKey). k.version) is) ∙ ap (λ (m : ℕ). Some (V6 m)) number

-- the name of a key at an address
pub name-at : (ip : IpAddr) (name : List ℕ) → (key_at ip name).name ≡ name
name-at (V4 n) name = refl
name-at (V6 n) name = refl

-- the key of a line with an address and a name, or with one of them alone
pub key-both : (ip : IpAddr) (name : List ℕ) (line : RecordLine) → line.ip ≡ Some ip → line.user ≡ Some name → record_key line ≡ key_at ip name
key-both ip name line here there =
    ap (λ (x : Option IpAddr). key_with x (unwrap_or line.user [])) here ∙ ap (λ (x : Option (List ℕ)). key_at ip (unwrap_or x [])) there

pub key-address : (ip : IpAddr) (line : RecordLine) → line.ip ≡ Some ip → line.user ≡ None → record_key line ≡ key_at ip []
key-address ip line here there =
    ap (λ (x : Option IpAddr). key_with x (unwrap_or line.user [])) here ∙ ap (λ (x : Option (List ℕ)). key_at ip (unwrap_or x [])) there

pub key-name : (name : List ℕ) (line : RecordLine) → line.ip ≡ None → line.user ≡ Some name → record_key line ≡ record { version = 0; number = 0; name = name }
key-name name line here there =
    ap (λ (x : Option IpAddr). key_with x (unwrap_or line.user [])) here ∙ ap (λ (x : Option (List ℕ)). key_with None (unwrap_or x [])) there

-- what is there by a test is there
known-some : {A : Type 0} (x : Option A) → is_some x ≡ true → (a : A) × (x ≡ Some a)
known-some (Some a) h = (a, refl)
known-some None h = cc

-- what is not there by a test is not
known-none : {A : Type 0} (x : Option A) → is_some x ≡ false → x ≡ None
known-none None h = refl
known-none (Some a) h = cc

-- a line whose key the policy makes has a key of the policy
pub record-is-key : (by : FailedLoginsBlock) (line : RecordLine) → is_made_by by line ≡ true → IfSome line.ip IsOfVersion → IsKey by (record_key line)
record-is-key UserAndIP line made within =
    let parts = and_parts (is_some line.ip) (is_some line.user) made in
    let ip = known-some line.ip parts.0 in
    let user = known-some line.user parts.1 in
    record { ip = ip.0; user = user.0; address = subst (λ x. IfSome x IsOfVersion) ip.1 within; key_is = key-both ip.0 user.0 line ip.1 user.1 }
record-is-key IP line made within =
    let parts = and_parts (is_some line.ip) (not (is_some line.user)) made in
    let ip = known-some line.ip parts.0 in
    record { ip = ip.0; user = []; address = subst (λ x. IfSome x IsOfVersion) ip.1 within; key_is = key-address ip.0 line ip.1 (known-none line.user (not-true _ parts.1)) }
record-is-key User line made within =
    let parts = and_parts (not (is_some line.ip)) (is_some line.user) made in
    let user = known-some line.user parts.1 in
    record { ip = V4 0; user = user.0; address = omega arith; key_is = key-name user.0 line (known-none line.ip (not-true _ parts.0)) user.1 }

-- a record of a key that a policy makes has an address or a name
made-keyed : (by : FailedLoginsBlock) (line : RecordLine) → is_made_by by line ≡ true → is_keyed line ≡ true
made-keyed by line made = go by line.ip line.user refl refl made
  where
    go : (by : FailedLoginsBlock) (ip : Option IpAddr) (user : Option (List ℕ)) → line.ip ≡ ip → line.user ≡ user → is_made_by by line ≡ true → is_keyed line ≡ true
    go by (Some ip) user here there h = rw here refl
    go by None (Some name) here there h = rw (here, there) refl
    go UserAndIP None None here there h = absurd (true≢false (sym h ∙ rw here refl))
    go IP None None here there h = absurd (true≢false (sym h ∙ rw here refl))
    go User None None here there h = absurd (true≢false (sym h ∙ rw (here, there) refl))

pub all-keyed : (by : FailedLoginsBlock) (lines : List RecordLine) → AllByRecursion (λ (line : RecordLine). is_made_by by line ≡ true) lines → AllByRecursion (λ (line : RecordLine). is_keyed line ≡ true) lines
all-keyed by [] h = tt
all-keyed by (line ∷ lines) h = (made-keyed by line h.0, all-keyed by lines h.1)

-- where each line is of a key that the policy makes, none is left out
pub all-made : (by : FailedLoginsBlock) (lines : List RecordLine) → AllByRecursion (λ (line : RecordLine). is_made_by by line ≡ true) lines → filter (is_made_by by) lines ≡ lines
all-made by [] h = refl
all-made by (line ∷ lines) h = rw (h.0, all-made by lines h.1) refl

-- records that are given back from the last line on: an earlier line has the last word
pub restore-step :
    (lines : List RecordLine) (line : RecordLine) (key : LoginKey) (now : Option Failures) →
    option_or (recorded_in lines key) (cond (same_key key (record_key line)) (Some (record_failures line)) now)
    ≡ option_or (recorded_in (lines ++ line ∷ []) key) now
restore-step [] line key now = go (same_key key (record_key line))
  where
    go : (b : Bool) → cond b (Some (record_failures line)) now ≡ option_or (cond b (Some (record_failures line)) None) now
    go true = refl
    go false = refl
restore-step (x ∷ lines) line key now = go (same_key key (record_key x)) (recorded_in lines key) (recorded_in (lines ++ line ∷ []) key) (restore-step lines line key now)
  where
    more : Option Failures
    more = cond (same_key key (record_key line)) (Some (record_failures line)) now

    go :
        (b : Bool) (rest all : Option Failures) → option_or rest more ≡ option_or all now →
        option_or (cond b (Some (record_failures x)) rest) more ≡ option_or (cond b (Some (record_failures x)) all) now
    go true rest all h = refl
    go false rest all h = h

-- one that counts, and one that does not
pub kept-step :
    (by : FailedLoginsBlock) (lines : List RecordLine) (line : RecordLine) (key : LoginKey) (now : Option Failures) → is_made_by by line ≡ true →
    option_or (recorded_in (filter (is_made_by by) lines) key) (cond (same_key key (record_key line)) (Some (record_failures line)) now)
    ≡ option_or (recorded_in (filter (is_made_by by) (lines ++ line ∷ [])) key) now
kept-step by lines line key now made =
    restore-step (filter (is_made_by by) lines) line key now
    ∙ ap (λ ls. option_or (recorded_in ls key) now) (sym (filter-append (is_made_by by) lines (line ∷ []) ∙ ap (λ b. filter (is_made_by by) lines ++ cond b (line ∷ []) []) made))

pub dropped-step :
    (by : FailedLoginsBlock) (lines : List RecordLine) (line : RecordLine) (key : LoginKey) (now : Option Failures) → is_made_by by line ≡ false →
    option_or (recorded_in (filter (is_made_by by) lines) key) now ≡ option_or (recorded_in (filter (is_made_by by) (lines ++ line ∷ [])) key) now
dropped-step by lines line key now other =
    ap (λ ls. option_or (recorded_in ls key) now)
    (sym (filter-append (is_made_by by) lines (line ∷ []) ∙ ap (λ b. filter (is_made_by by) lines ++ cond b (line ∷ []) []) other ∙ append-nil (filter (is_made_by by) lines)))

-- records of lines with one more
pub entries-step :
    (lines : List RecordLine) (line : RecordLine) (rest : List (LoginKey × Failures)) (key : LoginKey) (failures : Failures) →
    record_key line ≡ key → record_failures line ≡ failures →
    entries_of (lines ++ line ∷ []) ++ rest ≡ entries_of lines ++ (key, failures) ∷ rest
entries-step [] line rest key failures k f = λ i. (k i, f i) ∷ rest
entries-step (x ∷ lines) line rest key failures k f = ap (λ es. (record_key x, record_failures x) ∷ es) (entries-step lines line rest key failures k f)

-- what holds of each, and of one more
pub all-last : {A : Type 0} (P : A → Type 0) (xs : List A) (x : A) → AllByRecursion P xs → P x → AllByRecursion P (xs ++ x ∷ [])
all-last P [] x all more = (more, tt)
all-last P (y ∷ xs) x all more = (all.0, all-last P xs x all.1 more)
