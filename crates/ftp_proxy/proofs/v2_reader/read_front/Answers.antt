use Rattle.std.proofs.lemmas.Result.{err_from_is_err_and}
use Rattle.ftp_proxy.proofs.PartLemmas.{fields_refused, fields_read}
use Rattle.ftp_proxy.proofs.ReadLemmas.{ReadsWell-more, IsRefused-more, reads_refused_in}
use Rattle.ftp_proxy.proofs.v2_reader.read_front.Goals as goal

pub returns-in_err-front-clause-block : goal.returns-in_err-front-clause-block
returns-in_err-front-clause-block g c make join joins =
    let p = err_from_is_err_and c.from_residual.result c.from_residual.ensures.1 in
    rw (p.1, p.2) (reads_refused_in g.row.N c.args.len make (g.S.Source.left c.args.source.now) c.in_err-front.field-0.0 (g.S.Source.left c.read_array.new.source) c.requires.long c.in_err-front.ensures.block)

pub returns-in_err-fields-clause-block : goal.returns-in_err-fields-clause-block
returns-in_err-fields-clause-block g c make join joins =
    let p = err_from_is_err_and c.from_residual-in_err-fields.result c.from_residual-in_err-fields.ensures.1 in
    let front = c.in_ok-front.front in
    rw (p.1, p.2)
    (fields_refused g.row.N c.args.len (g.S.Source.left c.args.source.now) _ (g.S.Source.left c.read_fields.new.source) front make (join front)
    c.in_err-fields.field-0.0 c.requires.long c.in_ok-front.ensures.block (joins front) c.in_err-fields.ensures.block)

pub returns-in_err-fields-clause-went : goal.returns-in_err-fields-clause-went
returns-in_err-fields-clause-went g c =
    let p = err_from_is_err_and c.from_residual-in_err-fields.result c.from_residual-in_err-fields.ensures.1 in
    rw (p.1, p.2) (IsRefused-more g.S.Source.is_link c.read_fields.new.source c.in_err-fields.field-0.0 c.in_ok-front.ensures.went c.in_err-fields.ensures.went)

pub returns-clause-block : goal.returns-clause-block
returns-clause-block g c make join joins =
    let front = c.in_ok-front.front in
    fields_read g.row.N c.args.len _ _ (g.S.Source.left c.read_fields.new.source) front make (join front) c.in_ok-fields.fields c.requires.long c.in_ok-front.ensures.block (joins front) c.in_ok-fields.ensures.block

pub returns-clause-went : goal.returns-clause-went
returns-clause-went g c = ReadsWell-more c.in_ok-front.ensures.went c.in_ok-fields.ensures.went
