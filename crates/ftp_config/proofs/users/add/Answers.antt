use Rattle.std.proofs.Common.{◌∙◌, ap}
use Rattle.ftp_base.proofs.Named.{lookup-insert}
use Rattle.ftp_config.specs.Users.{user_named, named}
use Rattle.ftp_config.proofs.users.add.Goals as goal

pub returns-clause-users : goal.returns-clause-users
returns-clause-users c = λ t q.
    ap (λ entries. user_named q (named entries)) c.in_ok-insert.ensures.entries ∙ lookup-insert c.args.users.now.entries c.args.name c.args.user q
