use Rattle.std.proofs.Common.{◌∙◌, sym}
use Rattle.ftp_system.proofs.UploadLemmas.{other-apart}
use Rattle.ftp_system.proofs.uploads.Uploads.begin.Goals as goal

pub returns-clause-others : goal.returns-clause-others
returns-clause-others c other differs =
    c.in_ok-insert.ensures.updates.2 other (other-apart c.in_ok-path.path.items other.items (λ e. differs (e ∙ c.in_ok-path.ensures.items)))
