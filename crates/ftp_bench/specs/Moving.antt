-- How many bytes are moved.
use Rattle.std.specs.Prelude.{ℕ, ◌*◌, ◌^◌}
use Rattle.ftp_bench.specs.declared.command.Load.{Load}

-- how many bytes a load moves in all
abbrev pub total : Load → ℕ
total load = load.rounds * (load.mebibytes * 2 ^ 20)
