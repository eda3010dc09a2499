-- The lines behind the log: on what was sent on the links, and on the files of the storage.
use Rattle.std.specs.Prelude.{ℕ, List, [], ◌++◌}
use Rattle.std.specs.List.{flat_map}
use Rattle.std.specs.Option.{option_map_or}
use Rattle.std.specs.FinMap as map
use Rattle.ftp_base.specs.LinkTable.{Numbered}
use Rattle.ftp_base.specs.Memory.{LinkState}
use Rattle.ftp_base.specs.MemoryStorage.{MemoryState}
use Rattle.ftp_base.specs.Storage.{files_in_order}
use Rattle.ftp_text.specs.Setup.{sent_line, file_line}
use Rattle.ftp_script_run.specs.SetUp.{StorageState}

-- the line on what was sent on the link of this number; on no link nothing was sent
abbrev pub sent_on : Numbered LinkState → ℕ → List ℕ
sent_on links n = sent_line n (option_map_or (λ (l : LinkState). l.sent) (map.get links n) [])

-- a line for each link, in ascending order of their numbers
abbrev pub link_lines : Numbered LinkState → List ℕ
link_lines links = flat_map (sent_on links) (map.keys links)

-- a line for each file, in byte order of paths
abbrev pub file_lines : MemoryState → List ℕ
file_lines storage = flat_map file_line (files_in_order storage.files)

-- the lines behind the log
abbrev pub end_lines : Numbered LinkState → StorageState → List ℕ
end_lines links storage = link_lines links ++ file_lines storage.inner
