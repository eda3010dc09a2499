use Rattle.std.proofs.Common.{◌≡◌, ℕ, List, [], ap}
use Rattle.std.specs.Prelude.{codes, unwrap_or}
use Rattle.std.specs.Option.{option_and_then}
use Rattle.ftp_base.specs.Storage.{Files, File, bytes_of, old_bytes, with_file}
use Rattle.ftp_base.proofs.Files.{get-insert_same}
use Rattle.ftp_bench.proofs.moving.storage_with.Goals as goal

-- the file that was put is the one that is found
old_bytes-with_file : (files : Files) (bytes : List ℕ) → old_bytes (with_file files (codes "/a") bytes) (codes "/a") ≡ bytes
old_bytes-with_file files bytes = ap (λ o. unwrap_or (option_and_then bytes_of o) []) (get-insert_same files (codes "/a") (File bytes))

pub returns : goal.returns
returns c = record {
  found =
      rw (c.in_ok-put_file.ensures.stored, c.in_ok-from_slice.ensures, c.in_ok-file.ensures.items)
      (old_bytes-with_file c.no_files-storage.result.files c.args.bytes.now);
}
