use Rattle.std.proofs.Common.{◌≡◌, ◌∙◌, List, ℕ, take, drop, Ok, sym, subst}
use Rattle.std.specs.Prelude.{IfSome}
use Rattle.std.proofs.lemmas.Option.{IfSome_then}
use Rattle.std.proofs.lemmas.Result.{err_from_is_err_and}
use Rattle.ftp_proxy.specs.declared.v2_header.Body.TheVariants.{Unix}
use Rattle.ftp_proxy.specs.Reading.{unix, ReadsAll}
use Rattle.ftp_proxy.proofs.BodyLemmas.{unix_joins}
use Rattle.ftp_proxy.proofs.ReadLemmas.{reads_no_memory}
use Rattle.ftp_proxy.proofs.v2_reader.read_unix.Goals as goal

pub returns-in_err-names-clause-block : goal.returns-in_err-names-clause-block
returns-in_err-names-clause-block g c =
    let p = err_from_is_err_and c.from_residual.result c.from_residual.ensures.1 in
    rw (p.1, p.2) (c.in_err-names.ensures.block unix (λ names fields. Unix (take 108 names) (drop 108 names) fields) unix_joins)

pub returns-in_err-source-clause-block : goal.returns-in_err-source-clause-block
returns-in_err-source-clause-block g c =
    let p = err_from_is_err_and c.from_residual-in_err-source.result c.from_residual-in_err-source.ensures.1 in
    let read = c.in_ok-names.ensures.block unix (λ names fields. Unix (take 108 names) (drop 108 names) fields) unix_joins in
    rw (p.1, p.2) (IfSome_then _ read (λ all r. reads_no_memory c.args.len unix all _ _ r))

pub returns-in_err-destination-clause-block : goal.returns-in_err-destination-clause-block
returns-in_err-destination-clause-block g c =
    let p = err_from_is_err_and c.from_residual-in_err-destination.result c.from_residual-in_err-destination.ensures.1 in
    let read = c.in_ok-names.ensures.block unix (λ names fields. Unix (take 108 names) (drop 108 names) fields) unix_joins in
    rw (p.1, p.2) (IfSome_then _ read (λ all r. reads_no_memory c.args.len unix all _ _ r))

pub returns-clause-block : goal.returns-clause-block
returns-clause-block g c =
    let now = g.S.Source.left c.args.source.now in
    let left = g.S.Source.left c.read_front.new.source in
    let names = c.in_ok-names.names in
    let fields = c.in_ok-names.fields in
    let from : c.in_ok-source.source ≡ take 108 names = c.in_ok-source.ensures ∙ c.split_at.ensures.front in
    let to : c.in_ok-destination.destination ≡ drop 108 names = c.in_ok-destination.ensures ∙ c.split_at.ensures.back in
    subst (λ (p : List ℕ). IfSome now (λ l. ReadsAll c.args.len unix l (Ok (Unix p c.in_ok-destination.destination fields)) left)) (sym from)
    (subst (λ (p : List ℕ). IfSome now (λ l. ReadsAll c.args.len unix l (Ok (Unix (take 108 names) p fields)) left)) (sym to)
    (c.in_ok-names.ensures.block unix (λ names fields. Unix (take 108 names) (drop 108 names) fields) unix_joins))
