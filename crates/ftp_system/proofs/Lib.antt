mod Colons
mod Examples
mod TelnetLemmas
mod UploadLemmas
