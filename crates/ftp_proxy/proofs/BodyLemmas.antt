-- A block and its body, both ways.
use Rattle.std.proofs.Common.{◌≡◌, ℕ, ◌+◌, ◌*◌, ◌^◌, ◌<◌, ◌≤◌, Bool, true, false, cond, eqb, List, [], ◌∷◌, ◌++◌, length, take, drop, Result, Ok, refl, sym, ap, subst, ◌∙◌, arith, inl, inr}
use Rattle.std.specs.Prelude.{is_some, ◌||◌, ◌&&◌, not}
use Rattle.std.specs.Option.{option_map_or}
use Rattle.std.specs.Int.{w16, w32, w128, to_be_bytes, from_be_bytes}
use Rattle.std.proofs.Math.Seq.{take-add}
use Rattle.std.proofs.lemmas.Bool.{cases_eq}
use Rattle.std.proofs.lemmas.Bool.Decides.{nat_tests}
use Rattle.std.proofs.lemmas.List.{length-append, length-take, length-drop, take_at, drop_at, drop-drop, drop_more, take-append-drop, take-append-le, drop-append-le, get_or_append_left}
use Rattle.std.proofs.lemmas.Nat.{be_bytes_2, be_bytes_4, from_be_bytes-to_be_bytes_2, from_be_bytes-to_be_bytes_4}
use Rattle.ftp_base.specs.Net.{is_v6}
use Rattle.ftp_base.specs.declared.net.IpAddr.{IpAddr}
use Rattle.ftp_base.specs.declared.net.IpAddr.TheVariants.{V4, V6}
use Rattle.ftp_base.specs.declared.net.SocketAddrPair.{SocketAddrPair}
use Rattle.ftp_proxy.specs.declared.v2_header.Body.{Body}
use Rattle.ftp_proxy.specs.declared.v2_header.Body.TheVariants.{LocalBlock, UnspecBlock, Inet, Inet6, Unix}
use Rattle.ftp_proxy.specs.declared.v2_header.Field.{Field}
use Rattle.ftp_proxy.specs.declared.v2_error.Proxy2Error.{Proxy2Error}
use Rattle.ftp_proxy.specs.V2Header.{command_of, pair_bytes, fields_bytes, block_of, is_family, suits, PairFits, NumbersFit}
use Rattle.ftp_proxy.specs.Reading.{at, number_at, addresses_len, mapped, fields_at, fields_of, pair4, pair6, inet, inet6, unix, is_local, body_of, IsBytes}
use Rattle.ftp_proxy.proofs.WideLemmas.{IsBytes-take, IsBytes-drop, below_16, be_bytes_16, from_be_bytes-to_be_bytes_16}
use Rattle.ftp_proxy.proofs.FieldsReading.{mapped_fine, fields_again, fields_sound, two_bytes}

-- ---- tests

and_true : (a b : Bool) → (a && b) ≡ true → (a ≡ true) × (b ≡ true)
and_true true true h = (refl, refl)
and_true true false h = absurd cc
and_true false b h = absurd cc

test_equal : (a b : ℕ) → eqb a b ≡ true → a ≡ b
test_equal a b h = grind (arith, nat_tests)

-- a number and every other one
or_else : (P : ℕ → Type 0) (f n : ℕ) → P n → ((f ≡ n → ⊥) → P f) → P f
or_else P f n p other = elim (cases_eq f n) [ inl e ↦ subst P (sym e) p | inr ne ↦ other ne ]

no_family : (f : ℕ) → is_some (addresses_len f) ≡ true → (f ≡ 0 → ⊥) → (f ≡ 17 → ⊥) → (f ≡ 18 → ⊥) → (f ≡ 33 → ⊥) → (f ≡ 34 → ⊥) → (f ≡ 49 → ⊥) → (f ≡ 50 → ⊥) → ⊥
no_family f known n0 n17 n18 n33 n34 n49 n50 =
    let e0 : eqb f 0 ≡ false = grind (arith, nat_tests) in
    let e17 : eqb f 17 ≡ false = grind (arith, nat_tests) in
    let e18 : eqb f 18 ≡ false = grind (arith, nat_tests) in
    let e33 : eqb f 33 ≡ false = grind (arith, nat_tests) in
    let e34 : eqb f 34 ≡ false = grind (arith, nat_tests) in
    let e49 : eqb f 49 ≡ false = grind (arith, nat_tests) in
    let e50 : eqb f 50 ≡ false = grind (arith, nat_tests) in
    let none : is_some (addresses_len f) ≡ false = rw (e0, e17, e18, e33, e34, e49, e50) refl in
    absurd cc

-- each family that there is
by_family_byte : (P : ℕ → Type 0) (f : ℕ) → is_some (addresses_len f) ≡ true → P 0 → P 17 → P 18 → P 33 → P 34 → P 49 → P 50 → P f
by_family_byte P f known p0 p17 p18 p33 p34 p49 p50 =
    or_else P f 0 p0 (λ n0. or_else P f 17 p17 (λ n17. or_else P f 18 p18 (λ n18. or_else P f 33 p33 (λ n33.
    or_else P f 34 p34 (λ n34. or_else P f 49 p49 (λ n49. or_else P f 50 p50 (λ n50. absurd (no_family f known n0 n17 n18 n33 n34 n49 n50))))))))

-- a stream or datagrams of a family
by_kind : (P : ℕ → Type 0) (family f : ℕ) → is_family family f ≡ true → P (16 * family + 1) → P (16 * family + 2) → P f
by_kind P family f is p q =
    or_else P f (16 * family + 1) p (λ ne.
    let first : eqb f (16 * family + 1) ≡ false = grind (arith, nat_tests) in
    let second : eqb f (16 * family + 2) ≡ true = sym (ap (λ (b : Bool). b || eqb f (16 * family + 2)) first) ∙ is in
    subst P (sym (test_equal f (16 * family + 2) second)) q)

-- ---- the body by command and family, which are two bytes

abbrev pub needed_by : ℕ → ℕ → ℕ
needed_by c f = cond (eqb c 32) 0 (option_map_or (λ n. n) (addresses_len f) 0)

abbrev pub by_family : ℕ → List ℕ → Result Body Proxy2Error
by_family f block =
    cond (is_family 1 f) (inet block) (cond (is_family 2 f) (inet6 block) (cond (is_family 3 f) (unix block) (Ok (UnspecBlock block))))

abbrev pub body_by : ℕ → ℕ → List ℕ → Result Body Proxy2Error
body_by c f block = cond (eqb c 32) (Ok (LocalBlock block)) (by_family f block)

-- ---- numbers of the addresses

pub two_at : (bytes : List ℕ) (i : ℕ) → i + 2 ≤ length bytes → IsBytes bytes → to_be_bytes w16 (number_at bytes i) ≡ take 2 (drop i bytes)
two_at bytes i le small =
    be_bytes_2 (at bytes i ∷ at bytes (i + 1) ∷ []) _ refl (two_bytes _ _ (small i) (small (i + 1))) refl
    ∙ sym (ap (take 2) (drop_more bytes i 0 (omega arith) ∙ ap (λ (x : List ℕ). at bytes i ∷ x) (drop_more bytes (i + 1) 0 (omega arith))))

pub number_below : (bytes : List ℕ) (i : ℕ) → IsBytes bytes → number_at bytes i < 2 ^ 16
number_below bytes i small = omega (arith, small i, small (i + 1))

below_4 : (bytes : List ℕ) → IsBytes bytes → from_be_bytes w32 bytes < 2 ^ 32
below_4 bytes small = omega (arith, small 0, small 1, small 2, small 3)

-- two addresses of so many bytes, and two ports behind them
cut_pair : (n : ℕ) (block : List ℕ) → take (n + (n + 4)) block ≡ take n block ++ (take n (drop n block) ++ (take 2 (drop (n + n) block) ++ take 2 (drop (n + n + 2) block)))
cut_pair n block =
    take-add n (n + 4) block
    ∙ ap (λ (x : List ℕ). take n block ++ x) (take-add n 4 (drop n block))
    ∙ ap (λ (x : List ℕ). take n block ++ (take n (drop n block) ++ take 4 x)) (drop-drop n n block)
    ∙ ap (λ (x : List ℕ). take n block ++ (take n (drop n block) ++ x)) (take-add 2 2 (drop (n + n) block))
    ∙ ap (λ (x : List ℕ). take n block ++ (take n (drop n block) ++ (take 2 (drop (n + n) block) ++ take 2 x))) (drop-drop 2 (n + n) block)

pair4_sound : (block : List ℕ) → 12 ≤ length block → IsBytes block → (pair_bytes (pair4 block) ≡ take 12 block) × PairFits (pair4 block)
pair4_sound block long small =
    let front = IsBytes-take 4 block small in
    let back = IsBytes-take 4 (drop 4 block) (IsBytes-drop 4 block small) in
    let a = be_bytes_4 (take 4 block) _ (omega (arith, length-take 4 block)) front refl in
    let b = be_bytes_4 (take 4 (drop 4 block)) _ (omega (arith, length-take 4 (drop 4 block), length-drop 4 block)) back refl in (
      (λ i. a i ++ (b i ++ (two_at block 8 (omega arith) small i ++ two_at block 10 (omega arith) small i))) ∙ sym (cut_pair 4 block),
      (below_4 (take 4 block) front, below_4 (take 4 (drop 4 block)) back, number_below block 8 small, number_below block 10 small),
    )

pair6_sound : (block : List ℕ) → 36 ≤ length block → IsBytes block → (pair_bytes (pair6 block) ≡ take 36 block) × PairFits (pair6 block)
pair6_sound block long small =
    let front = IsBytes-take 16 block small in
    let back = IsBytes-take 16 (drop 16 block) (IsBytes-drop 16 block small) in
    let a = be_bytes_16 (take 16 block) (omega (arith, length-take 16 block)) front in
    let b = be_bytes_16 (take 16 (drop 16 block)) (omega (arith, length-take 16 (drop 16 block), length-drop 16 block)) back in (
      (λ i. a i ++ (b i ++ (two_at block 32 (omega arith) small i ++ two_at block 34 (omega arith) small i))) ∙ sym (cut_pair 16 block),
      (below_16 (take 16 block) front, below_16 (take 16 (drop 16 block)) back, number_below block 32 small, number_below block 34 small),
    )

-- both ends are read again, whatever follows
record IsPairAgain (pair : SocketAddrPair) (len : ℕ) (read : List ℕ → SocketAddrPair) (rest : List ℕ) : Type 0 where
  pub back : read (pair_bytes pair ++ rest) ≡ pair
  pub behind : drop len (pair_bytes pair ++ rest) ≡ rest
  pub long : length (pair_bytes pair ++ rest) ≡ len + length rest

pair4_again : (pair : SocketAddrPair) (rest : List ℕ) → not (is_v6 pair.source.ip) ≡ true → not (is_v6 pair.destination.ip) ≡ true → PairFits pair → IsPairAgain pair 12 pair4 rest
pair4_again pair rest v w fits = by pair.source.ip pair.destination.ip pair.source.port pair.destination.port v w fits where
  by : (a b : IpAddr) (p q : ℕ) → not (is_v6 a) ≡ true → not (is_v6 b) ≡ true → PairFits (record { source = record { ip = a; port = p }; destination = record { ip = b; port = q } }) →
      IsPairAgain (record { source = record { ip = a; port = p }; destination = record { ip = b; port = q } }) 12 pair4 rest
  by (V4 a) (V4 b) p q v w fits = record {
    back = λ i. record {
      source = record { ip = V4 (from_be_bytes-to_be_bytes_4 a fits.0 i); port = from_be_bytes-to_be_bytes_2 p fits.2 i };
      destination = record { ip = V4 (from_be_bytes-to_be_bytes_4 b fits.1 i); port = from_be_bytes-to_be_bytes_2 q fits.3 i };
    };
    behind = refl;
    long = omega arith;
  }
  by (V6 a) b p q v w fits = absurd cc
  by (V4 a) (V6 b) p q v w fits = absurd cc

pair6_again : (pair : SocketAddrPair) (rest : List ℕ) → is_v6 pair.source.ip ≡ true → is_v6 pair.destination.ip ≡ true → PairFits pair → IsPairAgain pair 36 pair6 rest
pair6_again pair rest v w fits = by pair.source.ip pair.destination.ip pair.source.port pair.destination.port v w fits where
  by : (a b : IpAddr) (p q : ℕ) → is_v6 a ≡ true → is_v6 b ≡ true → PairFits (record { source = record { ip = a; port = p }; destination = record { ip = b; port = q } }) →
      IsPairAgain (record { source = record { ip = a; port = p }; destination = record { ip = b; port = q } }) 36 pair6 rest
  by (V6 a) (V6 b) p q v w fits = record {
    back = λ i. record {
      source = record { ip = V6 (from_be_bytes-to_be_bytes_16 a fits.0 i); port = from_be_bytes-to_be_bytes_2 p fits.2 i };
      destination = record { ip = V6 (from_be_bytes-to_be_bytes_16 b fits.1 i); port = from_be_bytes-to_be_bytes_2 q fits.3 i };
    };
    behind = refl;
    long = omega arith;
  }
  by (V4 a) b p q v w fits = absurd cc
  by (V6 a) (V4 b) p q v w fits = absurd cc

-- ---- what is spelled so is read

pub record IsAgain (c f : ℕ) (body : Body) : Type 0 where
  pub command : (eqb c 32 || eqb c 33) ≡ true
  pub family : (eqb c 32 || is_some (addresses_len f)) ≡ true
  pub long : needed_by c f ≤ length (block_of body)
  pub back : body_by c f (block_of body) ≡ Ok body

-- the fields behind addresses
fields_behind : (f : List Field → Body) (len : ℕ) (block : List ℕ) (fields : List Field) → drop len block ≡ fields_bytes fields → length (fields_bytes fields) < 2 ^ 16 →
    mapped f (fields_of len block) ≡ Ok (f fields)
fields_behind f len block fields behind short =
    ap (λ (x : List ℕ). mapped f (fields_at (length x) len x)) behind
    ∙ ap (mapped f) (fields_again fields (length (fields_bytes fields)) len (omega arith) short)

-- addresses and the fields behind them
pair_again : (make : SocketAddrPair → List Field → Body) (len : ℕ) (read : List ℕ → SocketAddrPair) (pair : SocketAddrPair) (fields : List Field) →
    IsPairAgain pair len read (fields_bytes fields) → length (pair_bytes pair ++ fields_bytes fields) < 2 ^ 16 →
    mapped (make (read (pair_bytes pair ++ fields_bytes fields))) (fields_of len (pair_bytes pair ++ fields_bytes fields)) ≡ Ok (make pair fields)
pair_again make len read pair fields again short =
    fields_behind (make (read (pair_bytes pair ++ fields_bytes fields))) len (pair_bytes pair ++ fields_bytes fields) fields again.behind (omega (arith, again.long, short))
    ∙ ap (λ (x : SocketAddrPair). Ok (make x fields)) again.back

unix_again : (source destination : List ℕ) (fields : List Field) → length source ≡ 108 → length destination ≡ 108 → length (source ++ (destination ++ fields_bytes fields)) < 2 ^ 16 →
    unix (source ++ (destination ++ fields_bytes fields)) ≡ Ok (Unix source destination fields)
unix_again source destination fields s d short =
    let block : List ℕ = source ++ (destination ++ fields_bytes fields) in
    let second : drop 108 block ≡ destination ++ fields_bytes fields = drop_at source (destination ++ fields_bytes fields) 108 s in
    let behind : drop 216 block ≡ fields_bytes fields = sym (drop-drop 108 108 block) ∙ ap (drop 108) second ∙ drop_at destination (fields_bytes fields) 108 d in
    fields_behind (λ fields. Unix (take 108 block) (take 108 (drop 108 block)) fields) 216 block fields behind
    (omega (arith, length-append source (destination ++ fields_bytes fields), length-append destination (fields_bytes fields)))
    ∙ ap (λ (x : List ℕ). Ok (Unix x (take 108 (drop 108 block)) fields)) (take_at source (destination ++ fields_bytes fields) 108 s)
    ∙ ap (λ (x : List ℕ). Ok (Unix source x fields)) (ap (take 108) second ∙ take_at destination (fields_bytes fields) 108 d)

pub body_again : (family : ℕ) (body : Body) → suits family body ≡ true → length (block_of body) < 2 ^ 16 → NumbersFit body → IsAgain (command_of body) family body
body_again family (LocalBlock block) agrees short fits = record { command = refl; family = refl; long = omega arith; back = refl }
body_again family (UnspecBlock block) agrees short fits =
    subst (λ (f : ℕ). IsAgain 33 f (UnspecBlock block)) (sym (test_equal family 0 agrees)) (record { command = refl; family = refl; long = omega arith; back = refl })
body_again family (Inet pair fields) agrees short fits =
    let is = and_true (is_family 1 family) (not (is_v6 pair.source.ip) && not (is_v6 pair.destination.ip)) agrees in
    let both = and_true (not (is_v6 pair.source.ip)) (not (is_v6 pair.destination.ip)) is.1 in
    let p = pair4_again pair (fields_bytes fields) both.0 both.1 fits in
    let back = pair_again (λ x fs. Inet x fs) 12 pair4 pair fields p short in
    by_kind (λ f. IsAgain 33 f (Inet pair fields)) 1 family is.0
    (record { command = refl; family = refl; long = omega (arith, p.long); back = back })
    (record { command = refl; family = refl; long = omega (arith, p.long); back = back })
body_again family (Inet6 pair fields) agrees short fits =
    let is = and_true (is_family 2 family) (is_v6 pair.source.ip && is_v6 pair.destination.ip) agrees in
    let both = and_true (is_v6 pair.source.ip) (is_v6 pair.destination.ip) is.1 in
    let p = pair6_again pair (fields_bytes fields) both.0 both.1 fits in
    let back = pair_again (λ x fs. Inet6 x fs) 36 pair6 pair fields p short in
    by_kind (λ f. IsAgain 33 f (Inet6 pair fields)) 2 family is.0
    (record { command = refl; family = refl; long = omega (arith, p.long); back = back })
    (record { command = refl; family = refl; long = omega (arith, p.long); back = back })
body_again family (Unix source destination fields) agrees short fits =
    let is = and_true (is_family 3 family) (eqb (length source) 108 && eqb (length destination) 108) agrees in
    let both = and_true (eqb (length source) 108) (eqb (length destination) 108) is.1 in
    let s = test_equal (length source) 108 both.0 in
    let d = test_equal (length destination) 108 both.1 in
    let long = length-append source (destination ++ fields_bytes fields) in
    let more = length-append destination (fields_bytes fields) in
    let back = unix_again source destination fields s d short in
    by_kind (λ f. IsAgain 33 f (Unix source destination fields)) 3 family is.0
    (record { command = refl; family = refl; long = omega (arith, long, more, s, d); back = back })
    (record { command = refl; family = refl; long = omega (arith, long, more, s, d); back = back })

-- ---- what is read is spelled so

pub record IsSound (c f : ℕ) (block : List ℕ) (body : Body) : Type 0 where
  pub command : command_of body ≡ c
  pub agrees : suits f body ≡ true
  pub spelled : block_of body ≡ block
  pub numbers : NumbersFit body

-- the fields that were read stand behind the addresses
sound_by_fields : (f len : ℕ) (make : List Field → Body) (block : List ℕ) (body : Body) → IsBytes block → mapped make (fields_of len block) ≡ Ok body →
    ((fields : List Field) → fields_bytes fields ≡ drop len block → IsSound 33 f block (make fields)) → IsSound 33 f block body
sound_by_fields f len make block body small e each =
    let m = mapped_fine make (fields_of len block) body e in
    subst (λ (b : Body). IsSound 33 f block b) m.2
    (each m.0 (fields_sound (length (drop len block)) len (drop len block) m.0 (omega arith) (IsBytes-drop len block small) m.1))

-- the addresses, and the fields behind them, are the block
front_and_rest : (len : ℕ) (front rest block : List ℕ) → front ≡ take len block → rest ≡ drop len block → front ++ rest ≡ block
front_and_rest len front rest block a b = ap (λ (x : List ℕ). front ++ x) b ∙ ap (λ (x : List ℕ). x ++ drop len block) a ∙ take-append-drop len block

inet_sound : (f : ℕ) (block : List ℕ) (body : Body) → is_family 1 f ≡ true → 12 ≤ length block → IsBytes block → inet block ≡ Ok body → IsSound 33 f block body
inet_sound f block body is long small e =
    let p = pair4_sound block long small in
    sound_by_fields f 12 (λ fields. Inet (pair4 block) fields) block body small e (λ fields behind.
    record { command = refl; agrees = ap (λ (b : Bool). b && true) is; spelled = front_and_rest 12 (pair_bytes (pair4 block)) (fields_bytes fields) block p.0 behind; numbers = p.1 })

inet6_sound : (f : ℕ) (block : List ℕ) (body : Body) → is_family 2 f ≡ true → 36 ≤ length block → IsBytes block → inet6 block ≡ Ok body → IsSound 33 f block body
inet6_sound f block body is long small e =
    let p = pair6_sound block long small in
    sound_by_fields f 36 (λ fields. Inet6 (pair6 block) fields) block body small e (λ fields behind.
    record { command = refl; agrees = ap (λ (b : Bool). b && true) is; spelled = front_and_rest 36 (pair_bytes (pair6 block)) (fields_bytes fields) block p.0 behind; numbers = p.1 })

unix_sound : (f : ℕ) (block : List ℕ) (body : Body) → is_family 3 f ≡ true → 216 ≤ length block → IsBytes block → unix block ≡ Ok body → IsSound 33 f block body
unix_sound f block body is long small e =
    let s : eqb (length (take 108 block)) 108 ≡ true = let n = length-take 108 block in grind (arith, nat_tests) in
    let d : eqb (length (take 108 (drop 108 block))) 108 ≡ true = let n = length-take 108 (drop 108 block) in let k = length-drop 108 block in grind (arith, nat_tests) in
    sound_by_fields f 216 (λ fields. Unix (take 108 block) (take 108 (drop 108 block)) fields) block body small e (λ fields behind. record {
      command = refl;
      agrees = rw (is, s, d) refl;
      spelled =
          ap (λ (x : List ℕ). take 108 block ++ (take 108 (drop 108 block) ++ x)) (behind ∙ sym (drop-drop 108 108 block))
          ∙ ap (λ (x : List ℕ). take 108 block ++ x) (take-append-drop 108 (drop 108 block))
          ∙ take-append-drop 108 block;
      numbers = tt;
    })

unspec_sound : (block : List ℕ) (body : Body) → by_family 0 block ≡ Ok body → IsSound 33 0 block body
unspec_sound block body e =
    let is : UnspecBlock block ≡ body = cc in
    subst (λ (b : Body). IsSound 33 0 block b) is (record { command = refl; agrees = refl; spelled = refl; numbers = tt })

local_sound : (f : ℕ) (block : List ℕ) (body : Body) → body_by 32 f block ≡ Ok body → IsSound 32 f block body
local_sound f block body e =
    let is : LocalBlock block ≡ body = cc in
    subst (λ (b : Body). IsSound 32 f block b) is (record { command = refl; agrees = refl; spelled = refl; numbers = tt })

pub body_sound : (c f : ℕ) (block : List ℕ) (body : Body) → (eqb c 32 || eqb c 33) ≡ true → (eqb c 32 || is_some (addresses_len f)) ≡ true → needed_by c f ≤ length block → IsBytes block →
    body_by c f block ≡ Ok body → IsSound c f block body
body_sound c f block body command known long small e =
    elim (cases_eq c 32) [
      | inl is ↦ subst (λ (d : ℕ). IsSound d f block body) (sym is) (local_sound f block body (subst (λ (d : ℕ). body_by d f block ≡ Ok body) is e))
      | inr not_local ↦
          let no : eqb c 32 ≡ false = grind (arith, nat_tests) in
          let proxy : c ≡ 33 = test_equal c 33 (sym (ap (λ (b : Bool). b || eqb c 33) no) ∙ command) in
          let known_here : is_some (addresses_len f) ≡ true = sym (ap (λ (b : Bool). b || is_some (addresses_len f)) no) ∙ known in
          subst (λ (d : ℕ). IsSound d f block body) (sym proxy)
          (proxied known_here (subst (λ (d : ℕ). needed_by d f ≤ length block) proxy long) (subst (λ (d : ℕ). body_by d f block ≡ Ok body) proxy e))
    ] where
      proxied : is_some (addresses_len f) ≡ true → needed_by 33 f ≤ length block → body_by 33 f block ≡ Ok body → IsSound 33 f block body
      proxied known =
          by_family_byte (λ f. needed_by 33 f ≤ length block → body_by 33 f block ≡ Ok body → IsSound 33 f block body) f known
          (λ le e. unspec_sound block body e)
          (λ le e. inet_sound 17 block body refl le small e)
          (λ le e. inet_sound 18 block body refl le small e)
          (λ le e. inet6_sound 33 block body refl le small e)
          (λ le e. inet6_sound 34 block body refl le small e)
          (λ le e. unix_sound 49 block body refl le small e)
          (λ le e. unix_sound 50 block body refl le small e)

-- ---- the body as it is read, in two parts

-- what stands within the front of a block stands in the block
number_front : (x y : List ℕ) (i : ℕ) → i + 2 ≤ length x → number_at (x ++ y) i ≡ number_at x i
number_front x y i le =
    let a = get_or_append_left x y 0 i (omega arith) in
    let b = get_or_append_left x y 0 (i + 1) (omega arith) in
    λ j. from_be_bytes w16 (a j ∷ b j ∷ [])

second_front : (n : ℕ) (x y : List ℕ) → n + n ≤ length x → take n (drop n (x ++ y)) ≡ take n (drop n x)
second_front n x y le = ap (take n) (drop-append-le n x y (omega arith)) ∙ take-append-le n (drop n x) y (omega (arith, length-drop n x))

pair4_front : (x y : List ℕ) → length x ≡ 12 → pair4 (x ++ y) ≡ pair4 x
pair4_front x y l = λ i. record {
  source = record { ip = V4 (from_be_bytes w32 (take-append-le 4 x y (omega arith) i)); port = number_front x y 8 (omega arith) i };
  destination = record { ip = V4 (from_be_bytes w32 (second_front 4 x y (omega arith) i)); port = number_front x y 10 (omega arith) i };
}

pair6_front : (x y : List ℕ) → length x ≡ 36 → pair6 (x ++ y) ≡ pair6 x
pair6_front x y l = λ i. record {
  source = record { ip = V6 (from_be_bytes w128 (take-append-le 16 x y (omega arith) i)); port = number_front x y 32 (omega arith) i };
  destination = record { ip = V6 (from_be_bytes w128 (second_front 16 x y (omega arith) i)); port = number_front x y 34 (omega arith) i };
}

pub inet_joins : (x : List ℕ) → length x ≡ 12 → (y : List ℕ) → inet (x ++ y) ≡ mapped (λ fs. Inet (pair4 x) fs) (fields_at (length y) 12 y)
inet_joins x l y =
    ap (λ (z : List ℕ). mapped (λ (fs : List Field). Inet (pair4 (x ++ y)) fs) (fields_at (length z) 12 z)) (drop_at x y 12 l)
    ∙ ap (λ (p : SocketAddrPair). mapped (λ (fs : List Field). Inet p fs) (fields_at (length y) 12 y)) (pair4_front x y l)

pub inet6_joins : (x : List ℕ) → length x ≡ 36 → (y : List ℕ) → inet6 (x ++ y) ≡ mapped (λ fs. Inet6 (pair6 x) fs) (fields_at (length y) 36 y)
inet6_joins x l y =
    ap (λ (z : List ℕ). mapped (λ (fs : List Field). Inet6 (pair6 (x ++ y)) fs) (fields_at (length z) 36 z)) (drop_at x y 36 l)
    ∙ ap (λ (p : SocketAddrPair). mapped (λ (fs : List Field). Inet6 p fs) (fields_at (length y) 36 y)) (pair6_front x y l)

pub unix_joins : (x : List ℕ) → length x ≡ 216 → (y : List ℕ) → unix (x ++ y) ≡ mapped (λ fs. Unix (take 108 x) (drop 108 x) fs) (fields_at (length y) 216 y)
unix_joins x l y =
    let a = take-append-le 108 x y (omega arith) in
    let short = length-drop 108 x in
    let b : take 108 (drop 108 (x ++ y)) ≡ drop 108 x = ap (take 108) (drop-append-le 108 x y (omega arith)) ∙ take_at (drop 108 x) y 108 (omega arith) in
    ap (λ (z : List ℕ). mapped (λ (fs : List Field). Unix (take 108 (x ++ y)) (take 108 (drop 108 (x ++ y))) fs) (fields_at (length z) 216 z)) (drop_at x y 216 l)
    ∙ (λ i. mapped (λ (fs : List Field). Unix (a i) (b i) fs) (fields_at (length y) 216 y))

-- which body it is
pub as_inet : (head : List ℕ) → is_local head ≡ false → is_family 1 (at head 13) ≡ true → (block : List ℕ) → inet block ≡ body_of head block
as_inet head other is block = sym (rw (other, is) refl)

pub as_inet6 : (head : List ℕ) → is_local head ≡ false → is_family 1 (at head 13) ≡ false → is_family 2 (at head 13) ≡ true → (block : List ℕ) → inet6 block ≡ body_of head block
as_inet6 head other not1 is block = sym (rw (other, not1, is) refl)

pub as_unix : (head : List ℕ) → is_local head ≡ false → is_family 1 (at head 13) ≡ false → is_family 2 (at head 13) ≡ false → is_family 3 (at head 13) ≡ true → (block : List ℕ) → unix block ≡ body_of head block
as_unix head other not1 not2 is block = sym (rw (other, not1, not2, is) refl)
