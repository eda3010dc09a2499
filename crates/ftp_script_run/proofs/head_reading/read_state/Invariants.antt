use Rattle.std.proofs.Common.{◌≡◌, ℕ, ◌^◌, ◌-◌, ◌≤◌, [], false, List, length}
use Rattle.ftp_control.specs.Lines.{bytes_in, IsWithin}
use Rattle.ftp_script_run.specs.Resumed.{KeepsLines, ReadsHead}
use Rattle.ftp_script_run.proofs.head_reading.read_state.Given as goal

-- lines of a state were read and kept, and the line behind them is looked at
abbrev pub invariant-loop-is_there : goal.invariant-loop-is_there
invariant-loop-is_there g l = record {
  told : (bytes : List ℕ) → ReadsHead bytes l.fn.head.options [] l.fn.has_line l.fn.line.items (bytes_in l.fn.buffer l.fn.held) (g.S.Source.left l.fn.source) →
      (texts : List (List ℕ)) × KeepsLines l.head texts × ReadsHead bytes l.head.options texts l.is_there l.line.items (bytes_in l.buffer l.held) (g.S.Source.left l.source);
  open_yet : l.head.is_closed ≡ false;
  options : l.head.options ≡ l.fn.head.options;
  within : IsWithin l.buffer l.held;
  len : length l.buffer ≡ length l.fn.buffer;
  count : g.S.Source.faults l.fn.source ≤ g.S.Source.faults l.source;
}

abbrev pub decreases-loop-is_there : goal.decreases-loop-is_there
decreases-loop-is_there g l = 2 ^ 64 - length l.head.text.items
