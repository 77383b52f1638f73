use Rattle.std.proofs.Common.{◌≡◌, length}
use Rattle.spv_io.specs.MemoryTexts.{files_of, text_of}
use Rattle.spv_io.proofs.memory_texts.text_named.Given as goal

abbrev pub invariant-loop-rest : goal.invariant-loop-rest
invariant-loop-rest l = text_of (files_of l.rest) l.name ≡ text_of (files_of l.fn.files) l.name

abbrev pub decreases-loop-rest : goal.decreases-loop-rest
decreases-loop-rest l = length l.rest
