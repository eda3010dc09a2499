use Rattle.ftp_transfer.proofs.MemoryUploads.{memory_upload}
use Rattle.ftp_transfer.proofs.laws.uploads_are_written.Goals as goal

pub returns : goal.returns
returns c = memory_upload
