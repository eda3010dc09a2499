use Rattle.ftp_system.proofs.UploadLemmas.{other-apart}
use Rattle.ftp_system.proofs.uploads.Uploads.end.Goals as goal

pub returns-clause-others : goal.returns-clause-others
returns-clause-others c other differs = c.remove.ensures.updates.2 other (other-apart c.args.path.now other.items differs)
