-- How many entries are taken.
use Rattle.std.specs.Prelude.{ℕ, ◌+◌, ◌-◌, length, if◌then◌else◌}
use Rattle.ftp_hub.specs.Stands.{count_of}
use Rattle.ftp_bench.specs.declared.command.Crew.{Crew}
use Rattle.ftp_bench.specs.declared.command.Crew.TheVariants.{One, Two, Four}
use Rattle.ftp_bench.specs.declared.lane.Lane.{Lane}
use Rattle.ftp_bench.specs.declared.plain.Plain.{Plain}

-- how many events a lane brings in all: each of its sessions connects first
abbrev pub events_in : Lane → ℕ
events_in lane = (lane.end - lane.first) + lane.rounds

-- how many entries a hub by itself has kept, or has made where it keeps none
abbrev pub taken : Plain → ℕ
taken plain = if plain.keeps then length plain.log.entries else count_of plain.hub

-- how many threads there are
abbrev pub threads_of : Crew → ℕ
threads_of One = 1
threads_of Two = 2
threads_of Four = 4
