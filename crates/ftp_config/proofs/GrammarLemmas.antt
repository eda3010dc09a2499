-- A line is read as a user exactly where it is spelled so.
use Rattle.std.proofs.Common.{◌≡◌, ◌∙◌, ℕ, ◌*◌, ◌^◌, ◌<◌, Bool, true, false, cond, ◌&&◌, List, [], ◌∷◌, ◌++◌, length, Ok, Err, Option, Some, None, Result, refl, sym, ap, subst, append-nil, arith}
use Rattle.std.specs.Prelude.{codes, nat_lt, ◌==◌, option_map, option_and_then}
use Rattle.std.specs.List.{AllByRecursion, list_all, slice_split, onto_first, join_with_byte}
use Rattle.std.specs.Char.{is_ascii_digit}
use Rattle.std.specs.Result.{result_ok}
use Rattle.std.specs.Str.{bytes_eq}
use Rattle.std.proofs.lemmas.Bool.{and_parts, eqb-true}
use Rattle.std.proofs.lemmas.Bool.Decides.{nat_tests}
use Rattle.std.proofs.lemmas.List.Elements.{All-cons, All-nil}
use Rattle.std.proofs.lemmas.List.Splits.{slice_split_at, slice_split_none, join_with_byte-slice_split}
use Rattle.std.proofs.lemmas.Slice.Eq.{bytes_eq-Decides}
use Rattle.hex.specs.Hex.{decode_of, decode_sized}
use Rattle.hex.specs.declared.error.FromHexError.{FromHexError}
use Rattle.hex.proofs.HexLemmas.{decode_of-ok, decode_sized-ok, decode_sized-twice}
use Rattle.ftp_config.specs.declared.user.User.{User}
use Rattle.ftp_config.specs.declared.user.Credential.{Credential}
use Rattle.ftp_config.specs.declared.user.Credential.TheVariants.{Any, Disabled, Hash}
use Rattle.ftp_config.specs.declared.user.PasswordHash.{PasswordHash}
use Rattle.ftp_config.specs.declared.user.Rights.{Rights}
use Rattle.ftp_config.specs.declared.user.Rights.TheVariants.{ReadWrite, ReadOnly}
use Rattle.ftp_base.specs.Decimal.{decimal_below}
use Rattle.ftp_base.proofs.Digits.{decimal_below-digits}
use Rattle.ftp_config.specs.Number.{rounds_of}
use Rattle.ftp_config.specs.Home.{is_home, spelled_home}
use Rattle.ftp_config.specs.Line.{is_byte, is_scheme, hash_with, hash_of_parts, hash_of, credential_of, rights_of, budget_size, user_with, user_of_fields, spelled_user}
use Rattle.ftp_config.specs.Grammar.{HasNone, IsHash, IsCredential, IsRights, IsBudget, IsLineOf, LinesAreSpelled}
use Rattle.ftp_config.proofs.HashTextLemmas.{hex_digits-apart, digits-apart}

-- ---- the parts between bytes

onto-apart : (c b : ℕ) (parts : List (List ℕ)) → is_byte c b ≡ false → AllByRecursion (HasNone c) parts → AllByRecursion (HasNone c) (onto_first b parts)
onto-apart c b [] h all = (All-cons (λ x. is_byte c x ≡ false) b [] h (All-nil (λ x. is_byte c x ≡ false)), tt)
onto-apart c b (part ∷ parts) h all = (All-cons (λ x. is_byte c x ≡ false) b part h all.0, all.1)

parts-apart : (c : ℕ) (bytes : List ℕ) → AllByRecursion (HasNone c) (slice_split (is_byte c) bytes)
parts-apart c [] = (All-nil (λ x. is_byte c x ≡ false), tt)
parts-apart c (b ∷ bytes) =
    elim (is_byte c b) as (λ t. is_byte c b ≡ t → AllByRecursion (HasNone c) (cond t ([] ∷ slice_split (is_byte c) bytes) (onto_first b (slice_split (is_byte c) bytes)))) [
      | true ↦ λ e. (All-nil (λ x. is_byte c x ≡ false), parts-apart c bytes)
      | false ↦ λ e. onto-apart c b (slice_split (is_byte c) bytes) e (parts-apart c bytes)
    ] refl

-- ---- HASH

hash_with-some : (rounds salt key : List ℕ) (hash : PasswordHash) → hash_with rounds salt key ≡ Some hash →
    (rounds_of rounds ≡ Some hash.rounds) × (decode_of salt ≡ Ok hash.salt) × (decode_sized key 32 ≡ Ok hash.key)
unfolding hash_with
hash_with-some rounds salt key hash e = by (rounds_of rounds) (decode_of salt) (decode_sized key 32) e where
  by : (n : Option ℕ) (s k : Result (List ℕ) FromHexError) →
      option_and_then (λ n. option_and_then (λ s. option_and_then (λ (k : List ℕ). let h : PasswordHash = record { rounds = n; salt = s; key = k } in Some h) (result_ok k)) (result_ok s)) n ≡ Some hash →
      (n ≡ Some hash.rounds) × (s ≡ Ok hash.salt) × (k ≡ Ok hash.key)
  by None s k e = absurd (cc e)
  by (Some n) (Err x) k e = absurd (cc e)
  by (Some n) (Ok s) (Err x) e = absurd (cc e)
  by (Some n) (Ok s) (Ok k) e =
      let h : PasswordHash = record { rounds = n; salt = s; key = k } in
      let same : h ≡ hash = cc e in
      (ap (λ (x : PasswordHash). Some x.rounds) same, ap (λ (x : PasswordHash). Ok x.salt) same, ap (λ (x : PasswordHash). Ok x.key) same)

scheme-is : (front scheme : List ℕ) → is_scheme front scheme ≡ true → (front ≡ []) × (scheme ≡ codes "pbkdf2-sha256")
scheme-is [] scheme e = (refl, (bytes_eq-Decides scheme (codes "pbkdf2-sha256")).0 e)
scheme-is (b ∷ front) scheme e = absurd (omega (arith, eqb-true (length (b ∷ front)) 0 (and_parts _ _ e).0))

hash_of_parts-some : (text : List ℕ) (parts : List (List ℕ)) (hash : PasswordHash) → join_with_byte 36 parts ≡ text → hash_of_parts parts ≡ Some hash → IsHash text hash
unfolding hash_of_parts
hash_of_parts-some text [] hash joined e = absurd (cc e)
hash_of_parts-some text (a ∷ []) hash joined e = absurd (cc e)
hash_of_parts-some text (a ∷ b ∷ []) hash joined e = absurd (cc e)
hash_of_parts-some text (a ∷ b ∷ c ∷ []) hash joined e = absurd (cc e)
hash_of_parts-some text (a ∷ b ∷ c ∷ d ∷ []) hash joined e = absurd (cc e)
hash_of_parts-some text (front ∷ scheme ∷ rounds ∷ salt ∷ key ∷ []) hash joined e =
    by (is_scheme front scheme) refl e where
      by : (t : Bool) → is_scheme front scheme ≡ t → cond t (hash_with rounds salt key) None ≡ Some hash → IsHash text hash
      by false other e = absurd (cc e)
      by true yes' e =
          let parts = hash_with-some rounds salt key hash e in
          let named = scheme-is front scheme yes' in
          record {
            rounds = rounds;
            salt = salt;
            key = key;
            spelled = sym joined
                ∙ ap (λ (f : List ℕ). f ++ 36 ∷ (scheme ++ 36 ∷ (rounds ++ 36 ∷ (salt ++ 36 ∷ key)))) named.0
                ∙ ap (λ (s : List ℕ). 36 ∷ (s ++ 36 ∷ (rounds ++ 36 ∷ (salt ++ 36 ∷ key)))) named.1;
            counted = parts.0;
            salted = parts.1;
            keyed = parts.2;
          }
hash_of_parts-some text (a ∷ b ∷ c ∷ d ∷ e ∷ f ∷ parts) hash joined e' = absurd (cc e')

hash-spelled : (text : List ℕ) (hash : PasswordHash) → hash_of text ≡ Some hash → IsHash text hash
hash-spelled text hash e = hash_of_parts-some text (slice_split (is_byte 36) text) hash (join_with_byte-slice_split 36 text) e

rounds-digits : (bytes : List ℕ) (n : ℕ) → rounds_of bytes ≡ Some n → list_all is_ascii_digit bytes ≡ true
rounds-digits bytes n e = by (decimal_below (2 ^ 64) bytes) refl e where
  by : (o : Option ℕ) → decimal_below (2 ^ 64) bytes ≡ o → option_and_then (λ m. cond (nat_lt 0 m && nat_lt m (2 ^ 32)) (Some m) None) o ≡ Some n → list_all is_ascii_digit bytes ≡ true
  by None is e = absurd (cc e)
  by (Some m) is e = decimal_below-digits bytes (2 ^ 64) m is

hash-read : (text : List ℕ) (hash : PasswordHash) → IsHash text hash → hash_of text ≡ Some hash
unfolding hash_of_parts hash_with
hash-read text hash h =
    let salts = hex_digits-apart h.salt (decode_of-ok h.salt hash.salt h.salted).1 in
    let twice : length h.key ≡ 2 * 32 = decode_sized-ok h.key 32 hash.key h.keyed in
    let keys = hex_digits-apart h.key (decode_of-ok h.key hash.key (sym (decode_sized-twice h.key 32 twice) ∙ h.keyed)).1 in
    let rounds = digits-apart h.rounds (rounds-digits h.rounds hash.rounds h.counted) in
    let parts : slice_split (is_byte 36) text ≡ [] ∷ codes "pbkdf2-sha256" ∷ h.rounds ∷ h.salt ∷ h.key ∷ [] =
    ap (slice_split (is_byte 36)) h.spelled
    ∙ ap (λ (rest : List (List ℕ)). [] ∷ codes "pbkdf2-sha256" ∷ rest)
    (slice_split_at (is_byte 36) h.rounds 36 (h.salt ++ 36 ∷ h.key) rounds refl
    ∙ ap (λ (rest : List (List ℕ)). h.rounds ∷ rest)
    (slice_split_at (is_byte 36) h.salt 36 h.key salts refl ∙ ap (λ (rest : List (List ℕ)). h.salt ∷ rest) (slice_split_none (is_byte 36) h.key keys))) in
    ap hash_of_parts parts ∙ rw (h.counted, h.salted, h.keyed) refl

credential-spelled : (text : List ℕ) (who : Credential) → credential_of text ≡ Some who → IsCredential text who
unfolding credential_of
credential-spelled text who e = by who (bytes_eq text (codes "*")) (bytes_eq text (codes "!")) (hash_of text) refl refl refl e where
  by : (who : Credential) (star mark : Bool) (h : Option PasswordHash) → bytes_eq text (codes "*") ≡ star → bytes_eq text (codes "!") ≡ mark → hash_of text ≡ h →
      cond star (Some Any) (cond mark (Some Disabled) (option_map Hash h)) ≡ Some who → IsCredential text who
  by Any true mark h p q r e = (bytes_eq-Decides text (codes "*")).0 p
  by Disabled true mark h p q r e = absurd (cc e)
  by (Hash x) true mark h p q r e = absurd (cc e)
  by Any false true h p q r e = absurd (cc e)
  by Disabled false true h p q r e = (bytes_eq-Decides text (codes "!")).0 q
  by (Hash x) false true h p q r e = absurd (cc e)
  by who false false None p q r e = absurd (cc e)
  by Any false false (Some x) p q r e = absurd (cc e)
  by Disabled false false (Some x) p q r e = absurd (cc e)
  by (Hash y) false false (Some x) p q r e = hash-spelled text y (let same : x ≡ y = cc e in r ∙ ap Some same)

credential-read : (text : List ℕ) (who : Credential) → IsCredential text who → credential_of text ≡ Some who
unfolding credential_of
credential-read text Any h = ap credential_of h
credential-read text Disabled h = ap credential_of h
credential-read text (Hash hash) h =
    let star : bytes_eq text (codes "*") ≡ false = ap (λ (t : List ℕ). bytes_eq t (codes "*")) h.spelled in
    let mark : bytes_eq text (codes "!") ≡ false = ap (λ (t : List ℕ). bytes_eq t (codes "!")) h.spelled in
    rw (star, mark, hash-read text hash h) refl

-- ---- RIGHTS

rights-spelled : (text : List ℕ) (may : Rights) → rights_of text ≡ Some may → IsRights text may
unfolding rights_of
rights-spelled text may e = by may (bytes_eq text (codes "rw")) (bytes_eq text (codes "ro")) refl refl e where
  by : (may : Rights) (rw' ro : Bool) → bytes_eq text (codes "rw") ≡ rw' → bytes_eq text (codes "ro") ≡ ro → cond rw' (Some ReadWrite) (cond ro (Some ReadOnly) None) ≡ Some may → IsRights text may
  by ReadWrite true ro p q e = (bytes_eq-Decides text (codes "rw")).0 p
  by ReadOnly true ro p q e = absurd (cc e)
  by ReadWrite false true p q e = absurd (cc e)
  by ReadOnly false true p q e = (bytes_eq-Decides text (codes "ro")).0 q
  by may false false p q e = absurd (cc e)

rights-read : (text : List ℕ) (may : Rights) → IsRights text may → rights_of text ≡ Some may
unfolding rights_of
rights-read text ReadWrite h = ap rights_of h
rights-read text ReadOnly h = ap rights_of h

-- ---- HOME

home-spelled : (home path : List ℕ) → spelled_home home ≡ Some path → (home ≡ path) × (is_home path ≡ true)
home-spelled home path e = by (is_home home) refl e where
  by : (t : Bool) → is_home home ≡ t → cond t (Some home) None ≡ Some path → (home ≡ path) × (is_home path ≡ true)
  by true is e = let same : home ≡ path = cc e in (same, ap is_home (sym same) ∙ is)
  by false is e = absurd (cc e)

home-read : (path : List ℕ) → is_home path ≡ true → spelled_home path ≡ Some path
home-read path is = rw is refl

-- ---- the line

made : List ℕ → Credential → Rights → List ℕ → Option ℕ → List ℕ × User
made name who may home budget = (name, record { credential = who; rights = may; home = home; budget = budget })

-- what user_with gives is made of what its fields spell
pub record IsMadeOf (name hash may home : List ℕ) (budget : Option ℕ) (n : List ℕ) (user : User) : Type 0 where
  pub called : name ≡ n
  pub opens : credential_of hash ≡ Some user.credential
  pub allows : rights_of may ≡ Some user.rights
  pub lies : spelled_home home ≡ Some user.home
  pub keeps : budget ≡ user.budget
  pub some : 0 < length n

user_with-some : (name hash may home : List ℕ) (budget : Option ℕ) (n : List ℕ) (user : User) → user_with name hash may home budget ≡ Some (n, user) → IsMadeOf name hash may home budget n user
unfolding user_with made
user_with-some name hash may home budget n user e = by (credential_of hash) (rights_of may) (spelled_home home) (length name == 0) refl refl refl refl e where
  by : (c : Option Credential) (r : Option Rights) (h : Option (List ℕ)) (empty : Bool) → credential_of hash ≡ c → rights_of may ≡ r → spelled_home home ≡ h → (length name == 0) ≡ empty →
      option_and_then (λ who. option_and_then (λ may. option_and_then (λ place. cond empty None (Some (made name who may place budget))) h) r) c ≡ Some (n, user) → IsMadeOf name hash may home budget n user
  by None r h empty p q s t e = absurd (cc e)
  by (Some c) None h empty p q s t e = absurd (cc e)
  by (Some c) (Some r) None empty p q s t e = absurd (cc e)
  by (Some c) (Some r) (Some h) true p q s t e = absurd (cc e)
  by (Some c) (Some r) (Some h) false p q s t e =
      let same : ◌≡◌ {A = List ℕ × User} (made name c r h budget) (n, user) = cc e in
      let is : name ≡ n = ap (λ (x : List ℕ × User). x.0) same in
      let long : 0 < length name = grind (arith, nat_tests) in
      record {
        called = is;
        opens = p ∙ ap (λ (x : List ℕ × User). Some x.1.credential) same;
        allows = q ∙ ap (λ (x : List ℕ × User). Some x.1.rights) same;
        lies = s ∙ ap (λ (x : List ℕ × User). Some x.1.home) same;
        keeps = ap (λ (x : List ℕ × User). x.1.budget) same;
        some = subst (λ (x : List ℕ). 0 < length x) is long;
      }

-- fields that spell a user, with what stands behind the home
line-of : (line name hash may home behind : List ℕ) (b : Option ℕ) (n : List ℕ) (user : User) → line ≡ name ++ 58 ∷ (hash ++ 58 ∷ (may ++ 58 ∷ (home ++ behind))) →
    HasNone 58 name → HasNone 58 hash → HasNone 58 may → HasNone 58 home → IsBudget behind b → IsMadeOf name hash may home b n user → IsLineOf line n user
line-of line name hash may home behind b n user joined a1 a2 a3 a4 keeps m =
    let place = home-spelled home user.home m.lies in
    record {
      hash = hash;
      may = may;
      budget = behind;
      spelled = joined
          ∙ ap (λ (x : List ℕ). x ++ 58 ∷ (hash ++ 58 ∷ (may ++ 58 ∷ (home ++ behind)))) m.called
          ∙ ap (λ (x : List ℕ). n ++ 58 ∷ (hash ++ 58 ∷ (may ++ 58 ∷ (x ++ behind)))) place.0;
      apart = (subst (HasNone 58) m.called a1, a2, a3, subst (HasNone 58) place.0 a4);
      some = m.some;
      opens = credential-spelled hash user.credential m.opens;
      allows = rights-spelled may user.rights m.allows;
      lies = place.1;
      keeps = subst (IsBudget behind) m.keeps keeps;
    }

fields-spelled : (line : List ℕ) (fields : List (List ℕ)) (name : List ℕ) (user : User) → join_with_byte 58 fields ≡ line → AllByRecursion (HasNone 58) fields →
    user_of_fields fields ≡ Some (name, user) → IsLineOf line name user
unfolding user_of_fields
fields-spelled line [] name user joined all e = absurd (cc e)
fields-spelled line (a ∷ []) name user joined all e = absurd (cc e)
fields-spelled line (a ∷ b ∷ []) name user joined all e = absurd (cc e)
fields-spelled line (a ∷ b ∷ c ∷ []) name user joined all e = absurd (cc e)
fields-spelled line (a ∷ b ∷ c ∷ d ∷ []) name user joined all e =
    line-of line a b c d [] None name user (sym joined ∙ ap (λ (x : List ℕ). a ++ 58 ∷ (b ++ 58 ∷ (c ++ 58 ∷ x))) (sym (append-nil d)))
    all.0 all.1.0 all.1.1.0 all.1.1.1.0 refl (user_with-some a b c d None name user e)
fields-spelled line (a ∷ b ∷ c ∷ d ∷ f ∷ []) name user joined all e = by (budget_size f) refl e where
  by : (o : Option ℕ) → budget_size f ≡ o → option_and_then (λ n. user_with a b c d (Some n)) o ≡ Some (name, user) → IsLineOf line name user
  by None is e = absurd (cc e)
  by (Some n) is e =
      line-of line a b c d (58 ∷ f) (Some n) name user (sym joined)
      all.0 all.1.0 all.1.1.0 all.1.1.1.0 (f, refl, all.1.1.1.1.0, is) (user_with-some a b c d (Some n) name user e)
fields-spelled line (a ∷ b ∷ c ∷ d ∷ f ∷ g ∷ fields) name user joined all e = absurd (cc e)

user_with-read : (name hash may : List ℕ) (user : User) (budget : Option ℕ) → credential_of hash ≡ Some user.credential → rights_of may ≡ Some user.rights → spelled_home user.home ≡ Some user.home →
    0 < length name → budget ≡ user.budget → user_with name hash may user.home budget ≡ Some (name, user)
unfolding user_with
user_with-read name hash may user budget c r h some same =
    let there : (length name == 0) ≡ false = grind (arith, nat_tests) in
    rw (c, r, h, there) (ap (λ (b : Option ℕ). Some (name, record user { budget = b })) same)

line-read : (line name : List ℕ) (user : User) (hash may behind : List ℕ) (b : Option ℕ) → b ≡ user.budget →
    line ≡ name ++ 58 ∷ (hash ++ 58 ∷ (may ++ 58 ∷ (user.home ++ behind))) →
    HasNone 58 name → HasNone 58 hash → HasNone 58 may → HasNone 58 user.home → IsBudget behind b →
    ((budget : Option ℕ) → budget ≡ user.budget → user_with name hash may user.home budget ≡ Some (name, user)) → spelled_user line ≡ Some (name, user)
unfolding user_of_fields
line-read line name user hash may behind None none joined a1 a2 a3 a4 keeps made =
    let whole : line ≡ name ++ 58 ∷ (hash ++ 58 ∷ (may ++ 58 ∷ user.home)) =
    joined ∙ ap (λ (x : List ℕ). name ++ 58 ∷ (hash ++ 58 ∷ (may ++ 58 ∷ (user.home ++ x)))) keeps
    ∙ ap (λ (x : List ℕ). name ++ 58 ∷ (hash ++ 58 ∷ (may ++ 58 ∷ x))) (append-nil user.home) in
    let fields : slice_split (is_byte 58) line ≡ name ∷ hash ∷ may ∷ user.home ∷ [] =
    ap (slice_split (is_byte 58)) whole
    ∙ slice_split_at (is_byte 58) name 58 _ a1 refl
    ∙ ap (λ (rest : List (List ℕ)). name ∷ rest) (slice_split_at (is_byte 58) hash 58 _ a2 refl
    ∙ ap (λ (rest : List (List ℕ)). hash ∷ rest) (slice_split_at (is_byte 58) may 58 _ a3 refl
    ∙ ap (λ (rest : List (List ℕ)). may ∷ rest) (slice_split_none (is_byte 58) user.home a4))) in
    ap user_of_fields fields ∙ made None none
line-read line name user hash may behind (Some size) size-is joined a1 a2 a3 a4 keeps made =
    let whole : line ≡ name ++ 58 ∷ (hash ++ 58 ∷ (may ++ 58 ∷ (user.home ++ 58 ∷ keeps.0))) =
    joined ∙ ap (λ (x : List ℕ). name ++ 58 ∷ (hash ++ 58 ∷ (may ++ 58 ∷ (user.home ++ x)))) keeps.1 in
    let fields : slice_split (is_byte 58) line ≡ name ∷ hash ∷ may ∷ user.home ∷ keeps.0 ∷ [] =
    ap (slice_split (is_byte 58)) whole
    ∙ slice_split_at (is_byte 58) name 58 _ a1 refl
    ∙ ap (λ (rest : List (List ℕ)). name ∷ rest) (slice_split_at (is_byte 58) hash 58 _ a2 refl
    ∙ ap (λ (rest : List (List ℕ)). hash ∷ rest) (slice_split_at (is_byte 58) may 58 _ a3 refl
    ∙ ap (λ (rest : List (List ℕ)). may ∷ rest) (slice_split_at (is_byte 58) user.home 58 _ a4 refl
    ∙ ap (λ (rest : List (List ℕ)). user.home ∷ rest) (slice_split_none (is_byte 58) keeps.0 keeps.2)))) in
    ap user_of_fields fields ∙ ap (option_and_then (λ n. user_with name hash may user.home (Some n))) keeps.3 ∙ made (Some size) size-is

pub lines-spelled : LinesAreSpelled
lines-spelled line name user = (
  fields-spelled line (slice_split (is_byte 58) line) name user (join_with_byte-slice_split 58 line) (parts-apart 58 line),
  λ h. line-read line name user h.hash h.may h.budget user.budget refl h.spelled h.apart.0 h.apart.1 h.apart.2 h.apart.3 h.keeps
      (λ budget same. user_with-read name h.hash h.may user budget (credential-read h.hash user.credential h.opens) (rights-read h.may user.rights h.allows) (home-read user.home h.lies) h.some same),
)
