-- The fields of the options are read exactly.
use Rattle.std.proofs.Common.{◌≡◌, ℕ, ◌*◌, ◌/◌, ◌%◌, ◌^◌, ◌<◌, ◌≤◌, Bool, true, false, cond, ◌&&◌, ◌||◌, leb, List, ◌∷◌, ◌++◌, length, Option, Some, None, refl, sym, ap, subst, ◌∙◌, append_assoc, arith}
use Rattle.std.specs.Prelude.{codes}
use Rattle.std.specs.Fmt.{decimal}
use Rattle.std.specs.Char.{is_ascii_digit}
use Rattle.std.specs.Str.{bytes_eq}
use Rattle.std.proofs.lemmas.Fmt.{digits_decimal}
use Rattle.std.proofs.lemmas.Bool.{leb-true, le-leb, and_parts}
use Rattle.std.proofs.lemmas.Bool.Decides.{nat_tests}
use Rattle.std.proofs.lemmas.Slice.Eq.{bytes_eq-Decides}
use Rattle.ftp_options.specs.declared.options.ListenerMode.{ListenerMode}
use Rattle.ftp_options.specs.declared.options.ListenerMode.TheVariants.{Legacy, Pooled, Proxy}
use Rattle.ftp_options.specs.declared.options.ActivePassiveMode.{ActivePassiveMode}
use Rattle.ftp_options.specs.declared.options.ActivePassiveMode.TheVariants.{PassiveOnly}
use Rattle.ftp_options.specs.declared.host.PassiveHost.{PassiveHost}
use Rattle.ftp_options.specs.declared.host.PassiveHost.TheVariants.{FromConnection, Ip, Dns}
use Rattle.ftp_options.specs.declared.lockout.FailedLoginsBlock.{FailedLoginsBlock}
use Rattle.ftp_options.specs.declared.lockout.FailedLoginsBlock.TheVariants as block
use Rattle.ftp_options.specs.declared.lockout.FailedLoginsPolicy.{FailedLoginsPolicy}
use Rattle.ftp_options.specs.Modes.{is_legacy}
use Rattle.ftp_text.specs.Fields.{field, dotted, escape, Each}
use Rattle.ftp_text.specs.Reading.{◌>>=◌, begins, literal_at, all_of, text_of, find_word, word_value}
use Rattle.ftp_text.specs.Options.{mode_text, host_text, active_text, block_text, policy_text, lockout_text, restart_text, listening_fields, rule_fields, IsMode, IsHost, IsPolicy, IsListening, AreRules}
use Rattle.ftp_text.specs.OptionsReading.{control_port_at, mode_of, mode_at, Listening, is_lawful, listening_at, ip_at, name_of, host_of, host_at, actives, active_at, blocks, part_at, policy_of, lockout_of, lockout_at, restarts, restart_at, Rules, rules_at}
use Rattle.ftp_text.proofs.Exact.{Ends, NoDigit, IsExact, Pass, is_word_byte, passes_true, bind_ok, some_is, digits_pass, small_exact, exact_fits, all_of-takes, all_of-again, find_takes, find_passes, word_exact, table_exact, pair_exact, tested_exact, behind_text_exact, before_text_exact, literal_takes}
use Rattle.ftp_text.proofs.Numerals.{own}
use Rattle.ftp_text.proofs.Lists.{pass-more, pass-append, pass-parts, not_begun}
use Rattle.ftp_text.proofs.Names.{name_passes, named, name_fits}
use Rattle.ftp_text.proofs.Values.{begins_decimal, dotted_exact, text_takes, text_again}
use Rattle.ftp_text.proofs.FieldLemmas.{small_is, port_is}

abbrev Any : List ℕ → Type 0
Any rest = Unit {0}

digit_word : (b : ℕ) → is_ascii_digit b ≡ true → is_word_byte b ≡ true
digit_word b h = grind (arith, nat_tests)

decimal_passes : (n : ℕ) → n < 2 ^ 64 → Pass is_word_byte (decimal n)
decimal_passes n lt = pass-more is_ascii_digit is_word_byte digit_word (decimal n) (digits_pass (decimal n) (digits_decimal own n lt))

-- a word that spells this value, or what another word spells
word_or_other : {V : Type 0} (text : V → List ℕ) (Fits : V → Type 0) (w : List ℕ) (u v : V) (others : Option V) →
    Fits u →
    (others ≡ Some v → (text v ≡ w) × Fits v) →
    cond (bytes_eq w (text u)) (Some u) others ≡ Some v →
    (text v ≡ w) × Fits v
word_or_other text Fits w u v others fits other e = cases (bytes_eq w (text u)) refl e where
  cases : (b : Bool) → bytes_eq w (text u) ≡ b → cond b (Some u) others ≡ Some v → (text v ≡ w) × Fits v
  cases true is e = subst (λ x. (text x ≡ w) × Fits x) (some_is u v e) (sym ((bytes_eq-Decides w (text u)).0 is), fits)
  cases false is e = other e

-- ---- who listens

proxy_exact : IsExact (λ port. codes "proxy:" ++ decimal port) (λ port. port < 2 ^ 16) NoDigit control_port_at
proxy_exact = behind_text_exact (codes "proxy:") (small_exact (2 ^ 16) (omega arith))

mode_passes : (m : ListenerMode) → IsMode m → Pass is_word_byte (mode_text m)
mode_passes Legacy fits = passes_true is_word_byte (codes "legacy") refl
mode_passes Pooled fits = passes_true is_word_byte (codes "pooled") refl
mode_passes (Proxy port) fits =
    pass-append is_word_byte (codes "proxy:") (decimal port) (passes_true is_word_byte (codes "proxy:") refl) (decimal_passes port (omega (arith, fits)))

mode_takes : (w : List ℕ) (m : ListenerMode) → mode_of w ≡ Some m → (mode_text m ≡ w) × IsMode m
unfolding mode_of
mode_takes w m e =
    let proxy : Option ListenerMode = all_of control_port_at w >>= λ port. Some (Proxy port) in
    word_or_other mode_text IsMode w Legacy m (cond (bytes_eq w (codes "pooled")) (Some Pooled) proxy) tt
    (λ e. word_or_other mode_text IsMode w Pooled m proxy tt
    (λ e.
    let first = bind_ok (all_of control_port_at w) (λ port. Some (Proxy port)) m e in
    subst (λ (x : ListenerMode). (mode_text x ≡ w) × IsMode x) (some_is (Proxy first.0) m first.2) (all_of-takes proxy_exact w first.0 first.1)) e) e

mode_again : (m : ListenerMode) → IsMode m → mode_of (mode_text m) ≡ Some m
unfolding mode_of
mode_again Legacy fits = refl
mode_again Pooled fits = refl
mode_again (Proxy port) fits = rw (all_of-again proxy_exact port fits tt) refl

mode_is : IsExact (λ (m : ListenerMode). field (mode_text m)) IsMode Ends mode_at
unfolding mode_at
mode_is = word_exact mode_text IsMode mode_of mode_passes (λ w m pass e. mode_takes w m e) mode_again

range_takes : (legacy : Bool) (lo hi : ℕ) → (legacy || leb 1 lo) && leb lo hi ≡ true → (legacy ≡ false → 1 ≤ lo) × (lo ≤ hi)
range_takes legacy lo hi e = let p = and_parts (legacy || leb 1 lo) (leb lo hi) e in (first legacy p.0, leb-true lo hi p.1) where
  first : (b : Bool) → (b || leb 1 lo) ≡ true → b ≡ false → 1 ≤ lo
  first true e shared = absurd cc
  first false e shared = leb-true 1 lo e

range_again : (legacy : Bool) (lo hi : ℕ) → (legacy ≡ false → 1 ≤ lo) → lo ≤ hi → (legacy || leb 1 lo) && leb lo hi ≡ true
range_again true lo hi some le = le-leb lo hi le
range_again false lo hi some le = rw (le-leb 1 lo (some refl)) (le-leb lo hi le)

-- who listens, and on which ports
pub listening_exact : IsExact (λ (x : Listening). listening_fields x.0 x.1.0 x.1.1) (λ (x : Listening). IsListening x.0 x.1.0 x.1.1) Ends listening_at
unfolding listening_at
listening_exact =
    exact_fits (tested_exact is_lawful (pair_exact mode_is (pair_exact port_is port_is (λ y rest h. refl)) (λ y rest h. refl)))
    (λ x f. let r = range_takes (is_legacy x.0) x.1.0 x.1.1 f.1 in (f.0.0, r.0, r.1, f.0.1.1))
    (λ x g. ((g.0, (omega (arith, g.2, g.3), g.3)), range_again (is_legacy x.0) x.1.0 x.1.1 g.1 g.2))

-- ---- the host

ip_exact : IsExact (λ ip. codes "ip:" ++ dotted ip) (λ ip. ip < 2 ^ 32) NoDigit ip_at
ip_exact = behind_text_exact (codes "ip:") dotted_exact

dotted_passes : (ip : ℕ) → Pass is_word_byte (dotted ip)
dotted_passes ip =
    let octet = λ (n : ℕ). decimal_passes (n % 256) (omega arith) in
    pass-append is_word_byte (decimal (ip / 16777216 % 256)) _ (octet (ip / 16777216)) (
      refl,
      pass-append is_word_byte (decimal (ip / 65536 % 256)) _ (octet (ip / 65536))
          (refl, pass-append is_word_byte (decimal (ip / 256 % 256)) _ (octet (ip / 256)) (refl, octet ip)),
    )

host_passes : (h : PassiveHost) → IsHost h → Pass is_word_byte (host_text h)
host_passes FromConnection fits = passes_true is_word_byte (codes "connection") refl
host_passes (Ip ip) fits = pass-append is_word_byte (codes "ip:") (dotted ip) (passes_true is_word_byte (codes "ip:") refl) (dotted_passes ip)
host_passes (Dns name) fits = pass-append is_word_byte (codes "dns:") (escape name) (passes_true is_word_byte (codes "dns:") refl) (name_passes name fits)

-- a name that a word spells behind its own word
name_takes : (w name : List ℕ) → Pass is_word_byte w → name_of w ≡ Some name → (host_text (Dns name) ≡ w) × IsHost (Dns name)
name_takes w name pass e =
    let first = bind_ok (literal_at (codes "dns:") w) text_of name e in
    let whole = literal_takes (codes "dns:") w first.0 first.1 in
    let t = text_takes (length first.0) first.0 name (omega arith) first.2 in
    let same : codes "dns:" ++ escape name ≡ w = ap (λ (rest : List ℕ). codes "dns:" ++ rest) (sym t.0) ∙ sym whole in
    let p = pass-parts is_word_byte (codes "dns:") (escape name) (subst (Pass is_word_byte) (sym same) pass) in
    (same, named name t.1 p.1)

-- an address or a name
abbrev shown : List ℕ → Bool → Option PassiveHost
shown w is_ip = cond is_ip (all_of ip_at w >>= λ ip. Some (Ip ip)) (name_of w >>= λ name. Some (Dns name))

host_takes : (w : List ℕ) (h : PassiveHost) → Pass is_word_byte w → host_of w ≡ Some h → (host_text h ≡ w) × IsHost h
unfolding host_of
host_takes w h pass e = word_or_other host_text IsHost w FromConnection h (shown w (begins 105 w)) tt (λ e. cases (begins 105 w) e) e where
  cases : (b : Bool) → shown w b ≡ Some h → (host_text h ≡ w) × IsHost h
  cases true e =
      let first = bind_ok (all_of ip_at w) (λ ip. Some (Ip ip)) h e in
      subst (λ (x : PassiveHost). (host_text x ≡ w) × IsHost x) (some_is (Ip first.0) h first.2) (all_of-takes ip_exact w first.0 first.1)
  cases false e =
      let first = bind_ok (name_of w) (λ name. Some (Dns name)) h e in
      subst (λ (x : PassiveHost). (host_text x ≡ w) × IsHost x) (some_is (Dns first.0) h first.2) (name_takes w first.0 pass first.1)

host_again : (h : PassiveHost) → IsHost h → host_of (host_text h) ≡ Some h
unfolding host_of
host_again FromConnection fits = refl
host_again (Ip ip) fits = rw (all_of-again ip_exact ip fits tt) refl
host_again (Dns name) fits = ap (λ read. read >>= λ n. Some (Dns n)) (text_again name (name_fits name fits))

host_is : IsExact (λ (h : PassiveHost). field (host_text h)) IsHost Ends host_at
unfolding host_at
host_is = word_exact host_text IsHost host_of host_passes host_takes host_again

-- ---- the words

active_is : IsExact (λ (v : ActivePassiveMode). field (active_text v)) (λ v. Unit {0}) Ends active_at
unfolding active_at word_value
active_is = table_exact active_text actives refl (elim [ PassiveOnly ↦ refl | _ ↦ refl ])

restart_is : IsExact (λ (v : Bool). field (restart_text v)) (λ v. Unit {0}) Ends restart_at
unfolding restart_at word_value
restart_is = table_exact restart_text restarts refl (elim [ true ↦ refl | false ↦ refl ])

-- ---- the lockout

block_found : (v : FailedLoginsBlock) → find_word block_text blocks (block_text v) ≡ Some v
block_found block.IP = refl
block_found _ = refl

part_exact : IsExact (λ n. decimal n ++ codes ":") (λ n. n < 2 ^ 32) Any part_at
part_exact = before_text_exact (codes ":") (small_exact (2 ^ 32) (omega arith)) (λ rest h. refl)

part_takes : (bytes : List ℕ) (x : ℕ × List ℕ) → part_at bytes ≡ Some x → (bytes ≡ decimal x.0 ++ 58 ∷ x.1) × (x.0 < 2 ^ 32)
part_takes bytes x e = let t = part_exact.takes bytes x e in (t.0 ∙ append_assoc (decimal x.0) (codes ":") x.1, t.1)

part_again : (n : ℕ) (rest : List ℕ) → n < 2 ^ 32 → part_at (decimal n ++ 58 ∷ rest) ≡ Some (n, rest)
part_again n rest lt = ap part_at (sym (append_assoc (decimal n) (codes ":") rest)) ∙ part_exact.again n rest lt tt

policy_passes : (p : FailedLoginsPolicy) → IsPolicy p → Pass is_word_byte (policy_text p)
policy_passes p fits =
    let seconds = p.expires_after_ms / 1000 in
    let by = find_passes is_word_byte block_text blocks (block_text p.block_by) p.block_by refl (block_found p.block_by) in
    pass-append is_word_byte (decimal p.max_attempts) (58 ∷ (decimal seconds ++ 58 ∷ block_text p.block_by)) (decimal_passes p.max_attempts (omega (arith, fits.0)))
    (refl, pass-append is_word_byte (decimal seconds) (58 ∷ block_text p.block_by) (decimal_passes seconds (omega (arith, fits.1))) (refl, by))

-- the policy of two numbers and a word is spelled by them
policy_spelled : (w behind left : List ℕ) (attempts seconds : ℕ) (by : FailedLoginsBlock) →
    w ≡ decimal attempts ++ 58 ∷ behind → behind ≡ decimal seconds ++ 58 ∷ left → block_text by ≡ left →
    policy_text (record { max_attempts = attempts; expires_after_ms = 1000 * seconds; block_by = by }) ≡ w
policy_spelled w behind left attempts seconds by first second third =
    let whole : 1000 * seconds / 1000 ≡ seconds = omega arith in
    ap (λ (n : ℕ). decimal attempts ++ 58 ∷ (decimal n ++ 58 ∷ block_text by)) whole
    ∙ ap (λ (t : List ℕ). decimal attempts ++ 58 ∷ (decimal seconds ++ 58 ∷ t)) third
    ∙ ap (λ (t : List ℕ). decimal attempts ++ 58 ∷ t) (sym second)
    ∙ sym first

policy_takes : (w : List ℕ) (p : FailedLoginsPolicy) → policy_of w ≡ Some p → (policy_text p ≡ w) × IsPolicy p
unfolding policy_of
policy_takes w p e =
    let first = bind_ok (part_at w) (λ a. part_at a.1 >>= λ s. find_word block_text blocks s.1 >>= λ by. Some (record { max_attempts = a.0; expires_after_ms = 1000 * s.0; block_by = by })) p e in
    let second = bind_ok (part_at first.0.1) (λ s. find_word block_text blocks s.1 >>= λ by. Some (record { max_attempts = first.0.0; expires_after_ms = 1000 * s.0; block_by = by })) p first.2 in
    let third = bind_ok (find_word block_text blocks second.0.1) (λ by. Some (record { max_attempts = first.0.0; expires_after_ms = 1000 * second.0.0; block_by = by })) p second.2 in
    let a = part_takes w first.0 first.1 in
    let s = part_takes first.0.1 second.0 second.1 in
    let by = find_takes block_text blocks second.0.1 third.0 third.1 in
    let read : FailedLoginsPolicy = record { max_attempts = first.0.0; expires_after_ms = 1000 * second.0.0; block_by = third.0 } in
    subst (λ (x : FailedLoginsPolicy). (policy_text x ≡ w) × IsPolicy x) {x = read} (some_is read p third.2)
    (policy_spelled w first.0.1 second.0.1 first.0.0 second.0.0 third.0 a.0 s.0 by, (a.1, omega (arith, s.1), omega arith))

policy_again : (p : FailedLoginsPolicy) → IsPolicy p → policy_of (policy_text p) ≡ Some p
unfolding policy_of
policy_again p fits =
    let seconds = p.expires_after_ms / 1000 in
    let whole : 1000 * seconds ≡ p.expires_after_ms = omega (arith, fits.2) in
    rw (part_again p.max_attempts (decimal seconds ++ 58 ∷ block_text p.block_by) fits.0, part_again seconds (block_text p.block_by) fits.1, block_found p.block_by)
    (ap (λ (ms : ℕ). Some (record { max_attempts = p.max_attempts; expires_after_ms = ms; block_by = p.block_by })) whole)

lockout_passes : (l : Option FailedLoginsPolicy) → Each IsPolicy l → Pass is_word_byte (lockout_text l)
lockout_passes None fits = passes_true is_word_byte (codes "off") refl
lockout_passes (Some p) fits = policy_passes p fits

lockout_takes : (w : List ℕ) (l : Option FailedLoginsPolicy) → lockout_of w ≡ Some l → (lockout_text l ≡ w) × Each IsPolicy l
unfolding lockout_of
lockout_takes w l e =
    word_or_other lockout_text (Each IsPolicy) w None l (policy_of w >>= λ policy. Some (Some policy)) tt
    (λ e.
    let first = bind_ok (policy_of w) (λ policy. Some (Some policy)) l e in
    subst (λ (x : Option FailedLoginsPolicy). (lockout_text x ≡ w) × Each IsPolicy x) (some_is (Some first.0) l first.2) (policy_takes w first.0 first.1)) e

lockout_again : (l : Option FailedLoginsPolicy) → Each IsPolicy l → lockout_of (lockout_text l) ≡ Some l
unfolding lockout_of
lockout_again None fits = refl
lockout_again (Some p) fits =
    let w = policy_text p in
    let no_off : bytes_eq w (codes "off") ≡ false = not_begun 111 (codes "ff") w (begins_decimal 111 p.max_attempts (58 ∷ (decimal (p.expires_after_ms / 1000) ++ 58 ∷ block_text p.block_by)) refl (omega (arith, fits.0))) in
    ap (λ b. cond b (Some None) (policy_of w >>= λ policy. Some (Some policy))) no_off ∙ ap (λ r. r >>= λ policy. Some (Some policy)) (policy_again p fits)

lockout_is : IsExact (λ (l : Option FailedLoginsPolicy). field (lockout_text l)) (Each IsPolicy) Ends lockout_at
unfolding lockout_at
lockout_is = word_exact lockout_text (Each IsPolicy) lockout_of lockout_passes (λ w l pass e. lockout_takes w l e) lockout_again

-- ---- what else the sessions go by

pub rules_exact : IsExact (λ (x : Rules). rule_fields x.0 x.1.0 x.1.1.0 x.1.1.1.0 x.1.1.1.1) (λ (x : Rules). AreRules x.0 x.1.1.0 x.1.1.1.0) Ends rules_at
unfolding rules_at
rules_exact =
    exact_fits
    (pair_exact host_is
    (pair_exact active_is
    (pair_exact (small_is (2 ^ 32) (omega arith)) (pair_exact lockout_is restart_is (λ y rest h. refl)) (λ y rest h. refl))
    (λ y rest h. refl))
    (λ y rest h. refl))
    (λ x f. (f.0, f.1.1.0, f.1.1.1.0)) (λ x g. (g.0, (tt, (g.1, (g.2, tt)))))
