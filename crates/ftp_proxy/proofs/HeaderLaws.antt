-- What is spelled as a header is read, and what is read is spelled so.
use Rattle.std.proofs.Common.{◌≡◌, ℕ, zero, suc, ◌+◌, ◌^◌, ◌<◌, ◌≤◌, Bool, true, false, cond, eqb, ltb, leb, List, [], ◌∷◌, ◌++◌, length, get_or, take, drop, Option, Some, None, Result, Ok, Err, refl, sym, ap, subst, ◌∙◌, arith}
use Rattle.std.specs.Prelude.{is_some, ◌||◌, IfOk, IfSome}
use Rattle.std.specs.Option.{option_map_or}
use Rattle.std.specs.Int.{w16, to_be_bytes, from_be_bytes}
use Rattle.std.proofs.lemmas.Bool.Decides.{nat_tests}
use Rattle.std.proofs.lemmas.List.{length-append, length-take, length-drop, get_or-take, take_at, drop-drop, drop-take, drop_more, take-append-drop}
use Rattle.std.proofs.lemmas.Nat.{be_bytes_2, from_be_bytes-to_be_bytes_2}
use Rattle.ftp_proxy.specs.declared.v2_header.Header2.{Header2}
use Rattle.ftp_proxy.specs.declared.v2_header.Body.{Body}
use Rattle.ftp_proxy.specs.declared.v2_error.Proxy2Error.{Proxy2Error}
use Rattle.ftp_proxy.specs.declared.v2_error.Proxy2Error.TheVariants as error
use Rattle.ftp_proxy.specs.V2Header.{signature, command_of, block_of, header_bytes, IsHeader}
use Rattle.ftp_proxy.specs.Reading.{at, addresses_len, block_len, needed, body_of, mapped, refusal_at, refusal, taken_len, header_of, outcome, IsAnswer, IsFound, IsReadAs, IsBytes, ReadsFrom}
use Rattle.ftp_proxy.proofs.WideLemmas.{IsBytes-drop}
use Rattle.ftp_proxy.proofs.ReadLemmas.{IfSome_by}
use Rattle.ftp_proxy.proofs.FieldsReading.{mapped_fine, two_bytes}
use Rattle.ftp_proxy.proofs.BodyLemmas.{needed_by, body_by, body_again, body_sound}
use Rattle.ftp_proxy.proofs.OutcomeLemmas.{none_refused, each_none, outcome_whole, outcome_good, good}

-- ---- what is spelled so is read

-- the bytes with their first sixteen apart
abbrev spelled : ℕ → ℕ → ℕ → ℕ → List ℕ → List ℕ
spelled c f high low rest = signature ++ c ∷ f ∷ high ∷ low ∷ rest

passes : (c f high low : ℕ) (rest : List ℕ) →
    (eqb c 32 || eqb c 33) ≡ true →
    (eqb c 32 || is_some (addresses_len f)) ≡ true →
    needed_by c f ≤ from_be_bytes w16 (high ∷ low ∷ []) →
    (k : ℕ) → k < 16 → refusal_at (spelled c f high low rest) k ≡ None
passes c f high low rest command family long zero lt = refl
passes c f high low rest command family long (suc zero) lt = refl
passes c f high low rest command family long (suc (suc zero)) lt = refl
passes c f high low rest command family long (suc (suc (suc zero))) lt = refl
passes c f high low rest command family long (suc (suc (suc (suc zero)))) lt = refl
passes c f high low rest command family long (suc (suc (suc (suc (suc zero))))) lt = refl
passes c f high low rest command family long (suc (suc (suc (suc (suc (suc zero)))))) lt = refl
passes c f high low rest command family long (suc (suc (suc (suc (suc (suc (suc zero))))))) lt = refl
passes c f high low rest command family long (suc (suc (suc (suc (suc (suc (suc (suc zero)))))))) lt = refl
passes c f high low rest command family long (suc (suc (suc (suc (suc (suc (suc (suc (suc zero))))))))) lt = refl
passes c f high low rest command family long (suc (suc (suc (suc (suc (suc (suc (suc (suc (suc zero)))))))))) lt = refl
passes c f high low rest command family long (suc (suc (suc (suc (suc (suc (suc (suc (suc (suc (suc zero))))))))))) lt = refl
passes c f high low rest command family long (suc (suc (suc (suc (suc (suc (suc (suc (suc (suc (suc (suc zero)))))))))))) lt =
    ap (λ (b : Bool). cond b None (Some (error.BadVersion c))) command
passes c f high low rest command family long (suc (suc (suc (suc (suc (suc (suc (suc (suc (suc (suc (suc (suc zero))))))))))))) lt =
    ap (λ (b : Bool). cond b None (Some (error.BadFamily f))) family
passes c f high low rest command family long (suc (suc (suc (suc (suc (suc (suc (suc (suc (suc (suc (suc (suc (suc zero)))))))))))))) lt = refl
passes c f high low rest command family long (suc (suc (suc (suc (suc (suc (suc (suc (suc (suc (suc (suc (suc (suc (suc zero))))))))))))))) lt =
    let h : leb (needed_by c f) (from_be_bytes w16 (high ∷ low ∷ [])) ≡ true = grind (arith, nat_tests) in
    ap (λ (b : Bool). cond b None (Some (error.ShortBlock (from_be_bytes w16 (high ∷ low ∷ [])) (needed_by c f)))) h
passes c f high low rest command family long (suc (suc (suc (suc (suc (suc (suc (suc (suc (suc (suc (suc (suc (suc (suc (suc k)))))))))))))))) lt = absurd (omega arith)

-- the high byte and the low byte of a length
abbrev high_of : ℕ → ℕ
high_of n = get_or (to_be_bytes w16 n) 0 0

abbrev low_of : ℕ → ℕ
low_of n = get_or (to_be_bytes w16 n) 1 0

read_again : (h : Header2) (rest : List ℕ) → IsHeader (header_bytes h) h → (outcome (header_bytes h ++ rest) ≡ Ok h) × (taken_len (header_bytes h ++ rest) ≡ length (header_bytes h))
read_again h rest is =
    let block : List ℕ = block_of h.body in
    let all : List ℕ = spelled (command_of h.body) h.family (high_of (length (block_of h.body))) (low_of (length (block_of h.body))) (block_of h.body ++ rest) in
    let again = body_again h.family h.body is.agrees is.short is.numbers in
    let len : block_len all ≡ length (block_of h.body) = from_be_bytes-to_be_bytes_2 (length (block_of h.body)) is.short in
    let none : refusal all ≡ None =
    none_refused 16 0 all (λ k p q. passes (command_of h.body) h.family (high_of (length (block_of h.body))) (low_of (length (block_of h.body))) (block_of h.body ++ rest) again.command again.family (omega (arith, again.long, len)) k q) in
    let more = length-append (block_of h.body) rest in
    let long : ltb (length all) (16 + block_len all) ≡ false = grind (arith, nat_tests) in
    let body : take (block_len all) (block_of h.body ++ rest) ≡ block_of h.body = ap (λ (n : ℕ). take n (block_of h.body ++ rest)) len ∙ take_at (block_of h.body) rest (length (block_of h.body)) refl in (
      outcome_whole all none
          ∙ ap (λ (b : Bool). cond b (Err error.UnexpectedEof) (header_of all)) long
          ∙ ap (λ (x : List ℕ). mapped (λ (b : Body). record { family = h.family; body = b }) (body_by (command_of h.body) h.family x)) body
          ∙ ap (mapped (λ (b : Body). record { family = h.family; body = b })) again.back,
      ap (λ (o : Option (ℕ × Proxy2Error)). option_map_or (λ r. r.0 + 1) o (16 + block_len all)) none ∙ omega (arith, len),
    )

pub header_again : (bytes : List ℕ) (h : Header2) (rest : List ℕ) → IsHeader bytes h → (outcome (bytes ++ rest) ≡ Ok h) × (taken_len (bytes ++ rest) ≡ length bytes)
header_again bytes h rest is =
    subst (λ (x : List ℕ). (outcome (x ++ rest) ≡ Ok h) × (taken_len (x ++ rest) ≡ length x)) (sym is.spelled)
    (read_again h rest (record { spelled = refl; agrees = is.agrees; short = is.short; numbers = is.numbers }))

-- the answer to bytes that begin with a header
pub answers_header : (bytes : List ℕ) (h : Header2) (rest all : List ℕ) (answer : Result Header2 Proxy2Error) → IsHeader bytes h → all ≡ bytes ++ rest → IsAnswer all answer → IsReadAs h answer
answers_header bytes h rest all (Ok x) is same answer = answer ∙ ap outcome same ∙ (header_again bytes h rest is).0
answers_header bytes h rest all (Err error.Fault) is same answer = tt
answers_header bytes h rest all (Err error.OutOfMemory) is same answer = tt
answers_header bytes h rest all (Err error.UnexpectedEof) is same answer = answer ∙ ap outcome same ∙ (header_again bytes h rest is).0
answers_header bytes h rest all (Err (error.NotSignature a)) is same answer = answer ∙ ap outcome same ∙ (header_again bytes h rest is).0
answers_header bytes h rest all (Err (error.BadVersion a)) is same answer = answer ∙ ap outcome same ∙ (header_again bytes h rest is).0
answers_header bytes h rest all (Err (error.BadFamily a)) is same answer = answer ∙ ap outcome same ∙ (header_again bytes h rest is).0
answers_header bytes h rest all (Err (error.ShortBlock a b)) is same answer = answer ∙ ap outcome same ∙ (header_again bytes h rest is).0
answers_header bytes h rest all (Err (error.BadField a)) is same answer = answer ∙ ap outcome same ∙ (header_again bytes h rest is).0

good_is : (h k : Header2) → good h ≡ good k → h ≡ k
good_is h k e = cc

-- no header is a front of another
pub one_header : (a b x y : List ℕ) (h k : Header2) → IsHeader a h → IsHeader b k → a ++ x ≡ b ++ y → (a ≡ b) × (h ≡ k)
one_header a b x y h k p q same =
    let e : good h ≡ good k = sym (header_again a h x p).0 ∙ ap outcome same ∙ (header_again b k y q).0 in
    let is = good_is h k e in
    (p.spelled ∙ ap header_bytes is ∙ sym q.spelled, is)

-- ---- what is read is spelled so

matches : (front bytes : List ℕ) → length front ≤ length bytes → ((k : ℕ) → k < length front → get_or bytes k 0 ≡ get_or front k 0) → take (length front) bytes ≡ front
matches [] bytes le same = refl
matches (x ∷ front) [] le same = absurd (omega arith)
matches (x ∷ front) (b ∷ bytes) le same =
    let first = same 0 (omega arith) in
    let rest = matches front bytes (omega arith) (λ k lt. same (suc k) (omega arith)) in
    λ i. first i ∷ rest i

-- what a test that passes says
passed : (b : Bool) (e : Proxy2Error) → cond b None (Some e) ≡ None → b ≡ true
passed true e h = refl
passed false e h = absurd cc

signature_byte : (bytes : List ℕ) (k : ℕ) → k < 12 → refusal_at bytes k ≡ None → at bytes k ≡ at signature k
signature_byte bytes k lt none =
    let h : ltb k 12 ≡ true = grind (arith, nat_tests) in
    let s : cond (eqb (at bytes k) (at signature k)) None (Some (error.NotSignature k)) ≡ None = rw h at none in
    let t = passed (eqb (at bytes k) (at signature k)) (error.NotSignature k) s in
    grind (arith, nat_tests)

sixteen : (bytes : List ℕ) → 16 ≤ length bytes → ((k : ℕ) → k < 16 → refusal_at bytes k ≡ None) →
    bytes ≡ spelled (at bytes 12) (at bytes 13) (at bytes 14) (at bytes 15) (drop 16 bytes)
sixteen bytes le none =
    let front : take 12 bytes ≡ signature = matches signature bytes (omega arith) (λ k lt. signature_byte bytes k lt (none k (omega arith))) in
    let behind : drop 12 bytes ≡ at bytes 12 ∷ at bytes 13 ∷ at bytes 14 ∷ at bytes 15 ∷ drop 16 bytes =
    drop_more bytes 12 0 (omega arith)
    ∙ ap (λ (x : List ℕ). at bytes 12 ∷ x) (drop_more bytes 13 0 (omega arith))
    ∙ ap (λ (x : List ℕ). at bytes 12 ∷ at bytes 13 ∷ x) (drop_more bytes 14 0 (omega arith))
    ∙ ap (λ (x : List ℕ). at bytes 12 ∷ at bytes 13 ∷ at bytes 14 ∷ x) (drop_more bytes 15 0 (omega arith)) in
    sym (take-append-drop 12 bytes) ∙ (λ i. front i ++ behind i)

pub header_sound : (bytes : List ℕ) (h : Header2) (left : Option (List ℕ)) → outcome bytes ≡ Ok h → IsBytes (take (taken_len bytes) bytes) → left ≡ Some (drop (taken_len bytes) bytes) → IsFound bytes h left
header_sound bytes h left e small rest =
    let g = outcome_good bytes h e in
    let len : ℕ = block_len bytes in
    let all_taken : taken_len bytes ≡ 16 + block_len bytes = ap (λ (o : Option (ℕ × Proxy2Error)). option_map_or (λ r. r.0 + 1) o (16 + block_len bytes)) g.0 in
    let none : (k : ℕ) → k < 16 → refusal_at bytes k ≡ None = λ k lt. each_none 16 0 bytes g.0 k (omega arith) (omega arith) in
    let command = passed (eqb (at bytes 12) 32 || eqb (at bytes 12) 33) (error.BadVersion (at bytes 12)) (none 12 (omega arith)) in
    let family = passed (eqb (at bytes 12) 32 || is_some (addresses_len (at bytes 13))) (error.BadFamily (at bytes 13)) (none 13 (omega arith)) in
    let room = passed (leb (needed bytes) (block_len bytes)) (error.ShortBlock (block_len bytes) (needed bytes)) (none 15 (omega arith)) in
    let m = mapped_fine (λ (b : Body). record { family = at bytes 13; body = b }) (body_of bytes (take (block_len bytes) (drop 16 bytes))) h g.2 in
    let taken : IsBytes (take (16 + block_len bytes) bytes) = subst (λ (n : ℕ). IsBytes (take n bytes)) all_taken small in
    let block_small : IsBytes (take (block_len bytes) (drop 16 bytes)) = subst IsBytes (drop-take 16 (block_len bytes) bytes) (IsBytes-drop 16 (take (16 + block_len bytes) bytes) taken) in
    let block_len_is : length (take (block_len bytes) (drop 16 bytes)) ≡ block_len bytes = omega (arith, length-take (block_len bytes) (drop 16 bytes), length-drop 16 bytes, g.1) in
    let needed_fits : needed bytes ≤ length (take (block_len bytes) (drop 16 bytes)) = subst (λ (n : ℕ). needed bytes ≤ n) (sym block_len_is) (grind (arith, nat_tests)) in
    let body = body_sound (at bytes 12) (at bytes 13) (take (block_len bytes) (drop 16 bytes)) m.0 command family needed_fits block_small m.1 in
    let b14 : at bytes 14 < 256 = subst (λ (x : ℕ). x < 256) (get_or-take (16 + block_len bytes) bytes 14 0 (omega arith)) (taken 14) in
    let b15 : at bytes 15 < 256 = subst (λ (x : ℕ). x < 256) (get_or-take (16 + block_len bytes) bytes 15 0 (omega arith)) (taken 15) in
    let said : to_be_bytes w16 (length (block_of m.0)) ≡ at bytes 14 ∷ at bytes 15 ∷ [] =
    ap (λ (x : List ℕ). to_be_bytes w16 (length x)) body.spelled ∙ ap (to_be_bytes w16) block_len_is ∙ be_bytes_2 (at bytes 14 ∷ at bytes 15 ∷ []) _ refl (two_bytes (at bytes 14) (at bytes 15) b14 b15) refl in
    let short : length (block_of m.0) < 2 ^ 16 = omega (arith, ap length body.spelled, block_len_is, b14, b15) in
    let made : Header2 = record { family = at bytes 13; body = m.0 } in
    let front : header_bytes made ++ drop (16 + block_len bytes) bytes ≡ bytes =
    (λ i. signature ++ body.command i ∷ at bytes 13 ∷ (said i ++ body.spelled i) ++ drop (16 + block_len bytes) bytes)
    ∙ ap (λ (x : List ℕ). spelled (at bytes 12) (at bytes 13) (at bytes 14) (at bytes 15) (take (block_len bytes) (drop 16 bytes) ++ x)) (sym (drop-drop (block_len bytes) 16 bytes))
    ∙ ap (λ (x : List ℕ). spelled (at bytes 12) (at bytes 13) (at bytes 14) (at bytes 15) x) (take-append-drop (block_len bytes) (drop 16 bytes))
    ∙ sym (sixteen bytes (omega (arith, g.1)) none) in
    subst (λ (k : Header2). IsFound bytes k left) m.2
    (record {
      header = header_bytes made;
      rest = drop (16 + block_len bytes) bytes;
      is_header = record { spelled = refl; agrees = body.agrees; short = short; numbers = body.numbers };
      in_front = sym front;
      behind = rest ∙ ap (λ (n : ℕ). Some (drop n bytes)) all_taken;
    })

-- ---- what was read of a source

pub found : (r : Result Header2 Proxy2Error) (left later : Option (List ℕ)) → ((all : List ℕ) → left ≡ Some all → ReadsFrom all r later) →
    IfOk r (λ h. IfSome left (λ l. IsFound l h later))
found (Ok h) left later read = IfSome_by (λ l. IsFound l h later) left (λ l e. let f = read l e in header_sound l h later (sym f.is_answer) (f.are_bytes refl) f.is_taken)
found (Err e) left later read = tt

pub only : (r : Result Header2 Proxy2Error) (left later : Option (List ℕ)) → ((all : List ℕ) → left ≡ Some all → ReadsFrom all r later) →
    IfSome left (λ l. (h : Header2) (header rest : List ℕ) → IsHeader header h → l ≡ header ++ rest → IsReadAs h r)
only r left later read =
    IfSome_by (λ l. (h : Header2) (header rest : List ℕ) → IsHeader header h → l ≡ header ++ rest → IsReadAs h r) left
    (λ l e h header rest is same. answers_header header h rest l r is same (read l e).is_answer)
