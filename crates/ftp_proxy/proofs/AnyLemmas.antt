-- A header of either version.
use Rattle.std.proofs.Common.{◌≡◌, ℕ, zero, suc, ◌<◌, Bool, true, false, cond, get_or, lit<, List, [], ◌∷◌, take, Option, Some, None, Result, Ok, Err, refl, sym, ap, subst, ◌∙◌, arith}
use Rattle.std.specs.Prelude.{◌==◌, IfSome}
use Rattle.std.proofs.lemmas.Option.{IfSome_then}
use Rattle.ftp_base.specs.declared.fault.LinkFault.{LinkFault}
use Rattle.ftp_base.specs.Calls.{Calls}
use Rattle.ftp_base.specs.Kept.{OnlyReads}
use Rattle.ftp_base.specs.Outside.{Sending}
use Rattle.ftp_proxy.specs.declared.header.ProxyHeader.{ProxyHeader}
use Rattle.ftp_proxy.specs.declared.error.ProxyError.{ProxyError}
use Rattle.ftp_proxy.specs.declared.error.ProxyError.TheVariants as line_error
use Rattle.ftp_proxy.specs.declared.error.ReadError.TheVariants as read
use Rattle.ftp_proxy.specs.Line as line
use Rattle.ftp_proxy.specs.declared.v2_header.Header2.{Header2}
use Rattle.ftp_proxy.specs.declared.v2_error.Proxy2Error.{Proxy2Error}
use Rattle.ftp_proxy.specs.declared.v2_error.Proxy2Error.TheVariants as block_error
use Rattle.ftp_proxy.specs.declared.any.AnyHeader.{AnyHeader}
use Rattle.ftp_proxy.specs.declared.any.AnyError.{AnyError}
use Rattle.ftp_proxy.specs.declared.any.AnyError.TheVariants as error
use Rattle.ftp_proxy.specs.Reading.{ReadsWell, ReadsToFault, IsRead, ReadsFrom, Begun, refusal_at}
use Rattle.ftp_proxy.specs.Any.{begins_with_cr, IsAnyAnswer, IsAnyTaken, IsAnyRead, any_failed, IsLineRefused, IsLineRead, as_version1, as_version2}
use Rattle.ftp_proxy.proofs.ReadLemmas.{IfSome_by, ReadsWell-more, ReadsToFault-more}

-- ---- what reads do to a source

pub any_more : {S : Type 0} {sending : S → Sending} {faults limit : S → ℕ} {calls : S → Option (Calls (ℕ × LinkFault))} {a b : S} (is_link : Bool) (c : S) (fault : Bool) →
    ReadsWell sending faults limit calls a b → IsAnyRead sending faults limit calls is_link b c fault → IsAnyRead sending faults limit calls is_link a c fault
any_more is_link c true first next = ReadsToFault-more first next
any_more is_link c false first next = ReadsWell-more first next

pub line_more : {S : Type 0} {sending : S → Sending} {faults limit : S → ℕ} {calls : S → Option (Calls (ℕ × LinkFault))} {a b c : S} (is_link : Bool) (e : ProxyError) →
    ReadsWell sending faults limit calls a b → ReadsToFault sending faults limit calls is_link b c → e ≡ line_error.ReadError read.Fault → IsLineRefused sending faults limit calls is_link a c e
line_more {S} {sending} {faults} {limit} {calls} {a} {b} {c} is_link e first next is =
    subst (λ (d : ProxyError). IsLineRefused sending faults limit calls is_link a c d) (sym is) (ReadsToFault-more first next)

pub any_line : {S : Type 0} (sending : S → Sending) (faults limit : S → ℕ) (calls : S → Option (Calls (ℕ × LinkFault))) (is_link : Bool) (a b : S) (r : Result ProxyHeader ProxyError) →
    IsLineRead sending faults limit calls is_link a b r → IsAnyRead sending faults limit calls is_link a b (any_failed (as_version1 r))
any_line sending faults limit calls is_link a b (Ok h) went = went
any_line sending faults limit calls is_link a b (Err (line_error.ReadError read.Fault)) went = went
any_line sending faults limit calls is_link a b (Err (line_error.ReadError read.UnexpectedEof)) went = went
any_line sending faults limit calls is_link a b (Err line_error.HeaderSize) went = went
any_line sending faults limit calls is_link a b (Err line_error.CrlfError) went = went
any_line sending faults limit calls is_link a b (Err line_error.NotProxyHdr) went = went
any_line sending faults limit calls is_link a b (Err line_error.DecodeError) went = went
any_line sending faults limit calls is_link a b (Err line_error.IPv4Required) went = went
any_line sending faults limit calls is_link a b (Err line_error.UnsupportedVersion) went = went

pub any_block : {S : Type 0} (sending : S → Sending) (faults limit : S → ℕ) (calls : S → Option (Calls (ℕ × LinkFault))) (is_link : Bool) (a b : S) (r : Result Header2 Proxy2Error) →
    IsRead sending faults limit calls is_link a b r → IsAnyRead sending faults limit calls is_link a b (any_failed (as_version2 r))
any_block sending faults limit calls is_link a b (Ok h) went = went
any_block sending faults limit calls is_link a b (Err block_error.Fault) went = went
any_block sending faults limit calls is_link a b (Err block_error.OutOfMemory) went = went
any_block sending faults limit calls is_link a b (Err block_error.UnexpectedEof) went = went
any_block sending faults limit calls is_link a b (Err (block_error.NotSignature x)) went = went
any_block sending faults limit calls is_link a b (Err (block_error.BadVersion x)) went = went
any_block sending faults limit calls is_link a b (Err (block_error.BadFamily x)) went = went
any_block sending faults limit calls is_link a b (Err (block_error.ShortBlock x y)) went = went
any_block sending faults limit calls is_link a b (Err (block_error.BadField x)) went = went

-- ---- what was read

pub answers_line : (all : List ℕ) (r : Result ProxyHeader ProxyError) (left : Option (List ℕ)) → begins_with_cr all ≡ false → line.IsAnswer all r → line.IsTaken all r left →
    IsAnyAnswer all (as_version1 r) × IsAnyTaken all (as_version1 r) left
answers_line all (Ok h) left other answer taken = ((other, answer), taken)
answers_line all (Err (line_error.ReadError read.Fault)) left other answer taken = (tt, taken)
answers_line all (Err (line_error.ReadError read.UnexpectedEof)) left other answer taken = ((other, answer), taken)
answers_line all (Err line_error.HeaderSize) left other answer taken = ((other, answer), taken)
answers_line all (Err line_error.CrlfError) left other answer taken = ((other, answer), taken)
answers_line all (Err line_error.NotProxyHdr) left other answer taken = ((other, answer), taken)
answers_line all (Err line_error.DecodeError) left other answer taken = ((other, answer), taken)
answers_line all (Err line_error.IPv4Required) left other answer taken = ((other, answer), taken)
answers_line all (Err line_error.UnsupportedVersion) left other answer taken = ((other, answer), taken)

pub answers_block : (all : List ℕ) (r : Result Header2 Proxy2Error) (left : Option (List ℕ)) → begins_with_cr all ≡ true → ReadsFrom all r left →
    IsAnyAnswer all (as_version2 r) × IsAnyTaken all (as_version2 r) left
answers_block all (Ok h) left is read = ((is, read.is_answer), read.is_taken)
answers_block all (Err e) left is read = ((is, read.is_answer), read.is_taken)

-- CR begins a signature
pub begun_one : (first : ℕ) (rest head : List ℕ) (left : Option (List ℕ)) → (first == 13) ≡ true → first < 256 → left ≡ Some rest → take 1 head ≡ first ∷ [] → Begun (first ∷ rest) head 1 left
begun_one first rest head left is small e front = record {
  within = omega arith;
  front = front;
  none = λ k lt.
      let zero_is : k ≡ 0 = omega arith in
      subst (λ (j : ℕ). refusal_at (first ∷ rest) j ≡ None) (sym zero_is) (ap (λ (b : Bool). cond b None (Some (block_error.NotSignature 0))) is);
  rest = e;
  are_bytes = λ i. one_byte i;
} where
  one_byte : (i : ℕ) → get_or (first ∷ []) i 0 < 256
  one_byte zero = small
  one_byte (suc i) = lit< tt

-- the source failed before the first byte
pub no_first : (left : List ℕ) (now later : Option (List ℕ)) → now ≡ Some left → later ≡ now → line.IsFront left later
no_first left now later is same = (0, omega arith, same ∙ is)

-- what holds of an option's value
pub IfSome_at : {A : Type 0} (P : A → Type 0) (o : Option A) (x : A) → o ≡ Some x → IfSome o P → P x
IfSome_at {A} P o x is p = subst (λ (q : Option A). IfSome q P) is p

abbrev pub Any : List ℕ → Result AnyHeader AnyError → Option (List ℕ) → Type 0
Any bytes r left = IsAnyAnswer bytes r × IsAnyTaken bytes r left

abbrev pub refused_line : ProxyError → Result AnyHeader AnyError
refused_line e = Err (error.V1 e)

-- the source failed at the first byte
pub first_failed : (now later : Option (List ℕ)) (e : ProxyError) → e ≡ line_error.ReadError read.Fault → later ≡ now → IfSome now (λ l. Any l (refused_line e) later)
first_failed now later e is same =
    subst (λ (d : ProxyError). IfSome now (λ l. Any l (refused_line d) later)) (sym is)
    (IfSome_by (λ l. Any l (refused_line (line_error.ReadError read.Fault)) later) now (λ l at. (tt, no_first l now later at same)))

-- there is no first byte
pub first_ended : (now later : Option (List ℕ)) (r : Option ℕ) → IfSome now (λ l. line.IsNext l r later) → r ≡ None → IfSome now (λ l. Any l (refused_line (line_error.ReadError read.UnexpectedEof)) later)
first_ended now later r next is =
    IfSome_then now (subst (λ (q : Option ℕ). IfSome now (λ l. line.IsNext l q later)) is next) (λ l n.
    subst (λ (x : List ℕ). Any x (refused_line (line_error.ReadError read.UnexpectedEof)) later) (sym n.0) ((refl, refl), n.1))

-- the first byte was read, and then the header
pub first_read : (now mid later : Option (List ℕ)) (r : Option ℕ) (first : ℕ) (answer : Result AnyHeader AnyError) → IfSome now (λ l. line.IsNext l r mid) → r ≡ Some first →
    IfSome mid (λ l. Any (first ∷ l) answer later) → IfSome now (λ l. Any l answer later)
first_read now mid later r first answer next is rest =
    IfSome_then now (subst (λ (q : Option ℕ). IfSome now (λ l. line.IsNext l q mid)) is next) (λ l n.
    subst (λ (x : List ℕ). Any x answer later) (sym n.1) (IfSome_at (λ l. Any (first ∷ l) answer later) mid n.0 n.2 rest))

-- both versions, behind the first byte
pub block_behind : (now later : Option (List ℕ)) (first : ℕ) (head : List ℕ) (r : Result Header2 Proxy2Error) → (first == 13) ≡ true → first < 256 → take 1 head ≡ first ∷ [] →
    ((all : List ℕ) → Begun all head 1 now → ReadsFrom all r later) → IfSome now (λ l. Any (first ∷ l) (as_version2 r) later)
block_behind now later first head r is small front read =
    IfSome_by (λ l. Any (first ∷ l) (as_version2 r) later) now (λ l at. answers_block (first ∷ l) r later is (read (first ∷ l) (begun_one first l head now is small at front)))

pub line_behind : (now later : Option (List ℕ)) (first : ℕ) (r : Result ProxyHeader ProxyError) → (first == 13) ≡ false →
    IfSome now (λ l. line.IsAnswer (first ∷ l) r) → IfSome now (λ l. line.IsTaken (first ∷ l) r later) → IfSome now (λ l. Any (first ∷ l) (as_version1 r) later)
line_behind now later first r other answer taken =
    IfSome_by (λ l. Any (first ∷ l) (as_version1 r) later) now (λ l at.
    answers_line (first ∷ l) r later other (IfSome_at (λ l. line.IsAnswer (first ∷ l) r) now l at answer) (IfSome_at (λ l. line.IsTaken (first ∷ l) r later) now l at taken))

-- ---- the clauses on a source, one by one

pub any_well : {S : Type 0} (sending : S → Sending) (faults limit : S → ℕ) (calls : S → Option (Calls (ℕ × LinkFault))) (is_link : Bool) (a b : S) (fault : Bool) →
    IsAnyRead sending faults limit calls is_link a b fault → fault ≡ false → ReadsWell sending faults limit calls a b
any_well sending faults limit calls is_link a b fault went is = subst (λ (f : Bool). IsAnyRead sending faults limit calls is_link a b f) is went

pub any_fault : {S : Type 0} (sending : S → Sending) (faults limit : S → ℕ) (calls : S → Option (Calls (ℕ × LinkFault))) (is_link : Bool) (a b : S) (fault : Bool) →
    IsAnyRead sending faults limit calls is_link a b fault → fault ≡ true → ReadsToFault sending faults limit calls is_link a b
any_fault sending faults limit calls is_link a b fault went is = subst (λ (f : Bool). IsAnyRead sending faults limit calls is_link a b f) is went

pub any_only_reads : {S : Type 0} (sending : S → Sending) (faults limit : S → ℕ) (calls : S → Option (Calls (ℕ × LinkFault))) (is_link : Bool) (a b : S) (fault : Bool) →
    IsAnyRead sending faults limit calls is_link a b fault → OnlyReads sending faults limit a b
any_only_reads sending faults limit calls is_link a b true went = went.only_reads
any_only_reads sending faults limit calls is_link a b false went = went.only_reads
