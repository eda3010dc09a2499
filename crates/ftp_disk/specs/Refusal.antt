-- How errors of the system refuse calls of a storage.
use Rattle.std.specs.declared.io.ErrorKind.{ErrorKind}
use Rattle.std.specs.declared.io.ErrorKind.TheVariants as system
use Rattle.ftp_base.specs.declared.error_kind.ErrorKind.TheVariants as kind
use Rattle.ftp_base.specs.declared.storage.StoreError.{StoreError}
use Rattle.ftp_base.specs.declared.storage.StoreError.TheVariants.{Kind, Failed, OutOfMemory}

-- how an error of the system refuses a call; one that no line names is a fault
abbrev pub refusal_of : ErrorKind → StoreError
refusal_of system.NotFound = Kind kind.PermanentFileNotAvailable
refusal_of system.NotADirectory = Kind kind.PermanentDirectoryNotAvailable
refusal_of system.DirectoryNotEmpty = Kind kind.PermanentDirectoryNotEmpty
refusal_of system.PermissionDenied = Kind kind.PermissionDenied
refusal_of system.ReadOnlyFilesystem = Kind kind.PermissionDenied
refusal_of system.FilesystemLoop = Kind kind.PermissionDenied
refusal_of system.StorageFull = Kind kind.InsufficientStorageSpaceError
refusal_of system.QuotaExceeded = Kind kind.ExceededStorageAllocationError
refusal_of system.FileTooLarge = Kind kind.ExceededStorageAllocationError
refusal_of system.InvalidFilename = Kind kind.FileNameNotAllowedError
refusal_of system.InvalidInput = Kind kind.FileNameNotAllowedError
refusal_of system.IsADirectory = Kind kind.FileNameNotAllowedError
refusal_of system.AlreadyExists = Kind kind.FileNameNotAllowedError
refusal_of system.ResourceBusy = Kind kind.TransientFileNotAvailable
refusal_of system.ExecutableFileBusy = Kind kind.TransientFileNotAvailable
refusal_of system.OutOfMemory = OutOfMemory
refusal_of _ = Failed
