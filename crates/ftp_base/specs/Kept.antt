-- What calls of a storage and of a link leave as it was.
--   faults        how many faults were counted
--   fault_limit   the most that will be counted
use Rattle.std.specs.Prelude.{◌≡◌, ℕ, ◌≤◌, List, Option}
use Rattle.ftp_base.specs.Outside.{Sending}
use Rattle.ftp_base.specs.Storage.{Rule}

-- the count of faults did not fall, and the most that will be counted did not rise
pub record CountsOn {T : Type 0} (faults fault_limit : T → ℕ) (old new : T) : Type 0 where
  pub count : faults old ≤ faults new
  pub limit : fault_limit new ≤ fault_limit old

-- a storage refuses by the same rule, and its faults are counted on
pub record StorageKept {S : Type 0} (rule : S → Rule) (faults fault_limit : S → ℕ) (old new : S) : Type 0 where
  pub same_rule : rule new ≡ rule old
  pub counts : CountsOn faults fault_limit old new

-- a link is as open as before, nothing that was left to be read was taken, and its faults are counted on
pub record OnlySends {L : Type 0} (left : L → Option (List ℕ)) (sending : L → Sending) (faults fault_limit : L → ℕ) (old new : L) : Type 0 where
  pub same_left : left new ≡ left old
  pub closed : (sending new).closed ≡ (sending old).closed
  pub counts : CountsOn faults fault_limit old new

-- a link is as open as before, nothing was sent, and its faults are counted on
pub record OnlyReads {L : Type 0} (sending : L → Sending) (faults fault_limit : L → ℕ) (old new : L) : Type 0 where
  pub sent : (sending new).sent ≡ (sending old).sent
  pub closed : (sending new).closed ≡ (sending old).closed
  pub counts : CountsOn faults fault_limit old new

-- a link's last fault is as it was, nothing was sent or taken of what was left to be read, and its faults are counted on
pub record OnlyCloses {L : Type 0} (left : L → Option (List ℕ)) (sending : L → Sending) (faults fault_limit : L → ℕ) (old new : L) : Type 0 where
  pub same_left : left new ≡ left old
  pub sent : (sending new).sent ≡ (sending old).sent
  pub last_fault : (sending new).last_fault ≡ (sending old).last_fault
  pub counts : CountsOn faults fault_limit old new
