use Rattle.std.proofs.Common.{◌≡◌, ◌++◌}
use Rattle.rdata_values.specs.Bitmap.{window_blocks}
use Rattle.rdata_values.proofs.Windows.{window_of}
use Rattle.rdata_values.proofs.code_set.CodeSet.append_to.Given as goal

-- the blocks of the windows so far
abbrev pub invariant-loop-window : goal.invariant-loop-window
invariant-loop-window g l = g.B.AsOctets.octets l.target ≡ g.B.AsOctets.octets l.initial.target ++ window_blocks (window_of l.self) 0 l.window
