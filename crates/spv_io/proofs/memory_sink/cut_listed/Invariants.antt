use Rattle.std.proofs.Common.{◌≡◌, drop, ◌+◌}
use Rattle.spv_io.specs.MemorySink.{cut_of}
use Rattle.spv_io.proofs.memory_sink.cut_listed.Given as goal

abbrev pub invariant-loop-listed : goal.invariant-loop-listed
invariant-loop-listed l = cut_of (drop l.listed-index l.fails) (l.calls + 1) ≡ cut_of l.fails (l.calls + 1)
