use Rattle.std.proofs.Common.{◌++◌, not}
use Rattle.std.proofs.Math.Bool.{and-false}
use Rattle.std.specs.List.{list_any}
use Rattle.ftp_disk.specs.Visible.{ends_line, upload_mark}
use Rattle.ftp_disk.proofs.visible.uploads_are_hidden.Goals as goal

pub returns : goal.returns
returns c = record { hidden = λ name. and-false (not (list_any ends_line (upload_mark ++ name))) }
