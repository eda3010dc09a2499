use Rattle.std.proofs.Common.{codes}
use Rattle.std.specs.Bool.{one_answer}
use Rattle.std.proofs.lemmas.Slice.Eq.{bytes_eq-Decides}
use Rattle.ftp_options.specs.Site.{upper}
use Rattle.ftp_options.proofs.Names.{one-name}
use Rattle.ftp_options.proofs.site.is_md5.Goals as goal

pub returns : goal.returns
returns c =
    let names = one-name c.args.name.now (codes "MD5") in
    let test = c.eq_ignore_ascii_case.ensures.test in
    one_answer c.eq_ignore_ascii_case.result _ (λ yes. names.0 (test.0 yes), λ same. test.1 (names.1 same))
    (bytes_eq-Decides (upper c.args.name.now) (codes "MD5"))
