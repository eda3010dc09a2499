use Rattle.std.proofs.Common.{◌≡◌, ◌∙◌, ℕ, List, Option, Result, Ok, Err, sym, subst}
use Rattle.std.specs.Prelude.{IfSome}
use Rattle.std.proofs.lemmas.Option.{IfSome_then}
use Rattle.std.proofs.lemmas.Result.{err_from_is_err_and}
use Rattle.ftp_base.specs.declared.net.SocketAddrPair.{SocketAddrPair}
use Rattle.ftp_proxy.specs.declared.v2_error.Proxy2Error.{Proxy2Error}
use Rattle.ftp_proxy.specs.declared.v2_header.Body.{Body}
use Rattle.ftp_proxy.specs.declared.v2_header.Body.TheVariants.{Inet, Inet6}
use Rattle.ftp_proxy.specs.Reading.{inet, inet6, unix, pair4, pair6, block_len, body_of, Reads, ReadsAll}
use Rattle.ftp_proxy.proofs.BodyLemmas.{as_inet, as_inet6, as_unix, inet_joins, inet6_joins}
use Rattle.ftp_proxy.proofs.ReadLemmas.{reads_as}
use Rattle.ftp_proxy.proofs.v2_reader.read_body.Goals as goal

-- the block of a family is the block of the header
of_head : (head : List ℕ) (len : ℕ) (make : List ℕ → Result Body Proxy2Error) (answer : Result Body Proxy2Error) (now left : Option (List ℕ)) →
    len ≡ block_len head → ((block : List ℕ) → make block ≡ body_of head block) →
    IfSome now (λ all. Reads len make all answer left) → IfSome now (λ all. Reads (block_len head) (body_of head) all answer left)
of_head head len make answer now left size same read =
    IfSome_then now read (λ all r. reads_as len (block_len head) make (body_of head) all answer left size same r)

pub returns-in_err-addresses-clause-block : goal.returns-in_err-addresses-clause-block
returns-in_err-addresses-clause-block g c =
    let p = err_from_is_err_and c.from_residual-in_err-addresses.result c.from_residual-in_err-addresses.ensures.1 in
    rw (p.1, p.2)
    (of_head c.args.head.now _ inet (Err c.in_err-addresses.field-0.0) (g.S.Source.left c.args.source.now) _ (cc)
    (as_inet c.args.head.now (sym c.is_local.ensures ∙ c.if-is_local.false) (sym c.is_family.ensures ∙ c.if-is_family.true))
    (c.in_err-addresses.ensures.block inet (λ block fields. Inet (pair4 block) fields) inet_joins))

pub returns-then-is_family-clause-block : goal.returns-then-is_family-clause-block
returns-then-is_family-clause-block g c =
    subst (λ (p : SocketAddrPair). IfSome (g.S.Source.left c.args.source.now) (λ l. ReadsAll (block_len c.args.head.now) (body_of c.args.head.now) l (Ok (Inet p c.in_ok-addresses.fields)) (g.S.Source.left c.read_front.new.source))) (sym c.pair4-pair.ensures)
    (of_head c.args.head.now _ inet (Ok (Inet (pair4 c.in_ok-addresses.addresses) c.in_ok-addresses.fields)) (g.S.Source.left c.args.source.now) _ (cc)
    (as_inet c.args.head.now (sym c.is_local.ensures ∙ c.if-is_local.false) (sym c.is_family.ensures ∙ c.if-is_family.true))
    (c.in_ok-addresses.ensures.block inet (λ block fields. Inet (pair4 block) fields) inet_joins))

pub returns-in_err-addresses-2-clause-block : goal.returns-in_err-addresses-2-clause-block
returns-in_err-addresses-2-clause-block g c =
    let p = err_from_is_err_and c.from_residual-in_err-addresses-2.result c.from_residual-in_err-addresses-2.ensures.1 in
    rw (p.1, p.2)
    (of_head c.args.head.now _ inet6 (Err c.in_err-addresses-2.field-0.0) (g.S.Source.left c.args.source.now) _ (cc)
    (as_inet6 c.args.head.now (sym c.is_local.ensures ∙ c.if-is_local.false) (sym c.is_family.ensures ∙ c.if-is_family.false) (sym c.is_family-2.ensures ∙ c.if-is_family-2.true))
    (c.in_err-addresses-2.ensures.block inet6 (λ block fields. Inet6 (pair6 block) fields) inet6_joins))

pub returns-then-is_family-2-clause-block : goal.returns-then-is_family-2-clause-block
returns-then-is_family-2-clause-block g c =
    subst (λ (p : SocketAddrPair). IfSome (g.S.Source.left c.args.source.now) (λ l. ReadsAll (block_len c.args.head.now) (body_of c.args.head.now) l (Ok (Inet6 p c.in_ok-addresses-2.fields)) (g.S.Source.left c.read_front-then-is_family-2.new.source))) (sym c.pair6-pair.ensures)
    (of_head c.args.head.now _ inet6 (Ok (Inet6 (pair6 c.in_ok-addresses-2.addresses) c.in_ok-addresses-2.fields)) (g.S.Source.left c.args.source.now) _ (cc)
    (as_inet6 c.args.head.now (sym c.is_local.ensures ∙ c.if-is_local.false) (sym c.is_family.ensures ∙ c.if-is_family.false) (sym c.is_family-2.ensures ∙ c.if-is_family-2.true))
    (c.in_ok-addresses-2.ensures.block inet6 (λ block fields. Inet6 (pair6 block) fields) inet6_joins))

pub returns-then-is_family-3-clause-block : goal.returns-then-is_family-3-clause-block
returns-then-is_family-3-clause-block g c =
    of_head c.args.head.now _ unix c.read_unix.result (g.S.Source.left c.args.source.now) (g.S.Source.left c.read_unix.new.source) (cc)
    (as_unix c.args.head.now (sym c.is_local.ensures ∙ c.if-is_local.false) (sym c.is_family.ensures ∙ c.if-is_family.false) (sym c.is_family-2.ensures ∙ c.if-is_family-2.false) (sym c.is_family-3.ensures ∙ c.if-is_family-3.true))
    c.read_unix.ensures.block
