-- Headers that are read without a fault.
use Rattle.std.proofs.Common.{◌≡◌, ℕ, List, Option, Some, refl, sym, ap, ◌∙◌, arith}
use Rattle.std.specs.Prelude.{Result, Err}
use Rattle.std.specs.FinMap as map
use Rattle.std.proofs.lemmas.Option.{same_Some}
use Rattle.ftp_base.specs.Memory.{LinkState, link_fault_limit}
use Rattle.ftp_proxy.specs.declared.error.ProxyError.{ProxyError}
use Rattle.ftp_proxy.specs.declared.error.ProxyError.TheVariants.{ReadError}
use Rattle.ftp_proxy.specs.declared.error.ReadError.TheVariants.{Fault}
use Rattle.ftp_proxy.specs.declared.header.ProxyHeader.{ProxyHeader}
use Rattle.ftp_proxy.specs.Line.{IsAnswer, IsTaken, line, untaken}
use Rattle.ftp_events.specs.declared.event.Answer.{Answer}
use Rattle.ftp_events.specs.declared.event.Answer.TheVariants as answer
use Rattle.ftp_events.specs.Leads.{Outside, ReadsHeader}
use Rattle.ftp_script_run.specs.SetUp.{StorageState}
use Rattle.ftp_script_run.specs.Clean.{HeadersAreRead}
use Rattle.ftp_script_run.specs.Determined.{ReadHeadersAreDetermined}
use Rattle.ftp_script_run.specs.Legal.{memory_views}
use Rattle.ftp_script_run.proofs.LeadsLemmas.{script-split}

-- an answer that is no fault is the line's, and all of the line was taken
line-told : (bytes : List ℕ) (header : Result ProxyHeader ProxyError) (left : Option (List ℕ)) →
    (header ≡ Err (ReadError Fault) → ⊥) →
    IsAnswer bytes header →
    IsTaken bytes header left →
    (header ≡ line bytes) × (left ≡ Some (untaken bytes))
line-told bytes (Err (ReadError Fault)) left no_fault is taken = absurd (no_fault refl)
line-told bytes header left no_fault is taken = (is, taken)

-- what an answer tells that is no fault, and what is left
read-told : (number : ℕ) (given : Answer) (old new : Outside StorageState LinkState) (read : ReadsHeader memory_views number given old new) →
    (given ≡ answer.Header (Err (ReadError Fault)) → ⊥) →
    (given ≡ answer.Header (line read.before.left)) × (read.after.left ≡ untaken read.before.left)
read-told number given old new read no_fault =
    let x = line-told read.before.left read.header (Some read.after.left) (λ fault. no_fault (read.given_is ∙ ap answer.Header fault)) read.line read.taken in
    (read.given_is ∙ ap answer.Header x.0, same_Some _ _ x.1)

pub headers-determined : ReadHeadersAreDetermined
headers-determined number first second old left right one other near far =
    let same : one.before ≡ other.before = same_Some _ _ (sym one.there ∙ other.there) in
    let a = read-told number first old left one near in
    let b = read-told number second old right other far in
    (a.0 ∙ ap (λ (l : LinkState). answer.Header (line l.left)) same ∙ sym b.0, a.1 ∙ ap (λ (l : LinkState). untaken l.left) same ∙ sym b.1)

-- a header that is read from a link of which no call can fail
read-line : (number : ℕ) (given : Answer) (old new : Outside StorageState LinkState) (link : LinkState) →
    ReadsHeader memory_views number given old new →
    map.get old.links number ≡ Some link →
    link_fault_limit link.calls ≡ 0 →
    given ≡ answer.Header (line link.left)
read-line number given old new link read there none =
    let same : read.before ≡ link = same_Some _ _ (sym read.there ∙ there) in
    let limit : link_fault_limit read.before.calls ≡ 0 = rw same none in
    let told = read-told number given old new read (λ fault.
    omega (arith, read.fault_rose (cc (sym read.given_is ∙ fault)) (omega (arith, limit)), limit, read.only_reads.counts.limit))
    in
    told.0 ∙ ap (λ (l : LinkState). answer.Header (line l.left)) same

pub headers-read : HeadersAreRead
headers-read o items older newer e end none led =
    let x = script-split o items older newer e end led in
    let one = x.4 in (
      x.0,
      x.1,
      x.2,
      one,
      λ number link reads there.
          (let read : ReadsHeader memory_views number e.answer x.0 x.1 = rw reads at one in
          let was = x.3.links number link there in
          read-line number e.answer x.0 x.1 link read there (omega (arith, was.2.limit, none.links number was.0 was.1))),
    )
