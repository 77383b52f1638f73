use Rattle.std.proofs.Common.{refl}
use Rattle.spv_writes.proofs.Outlines.{outlines_stay}
use Rattle.spv_writes.proofs.Right.{right_stays}
use Rattle.spv_writes.proofs.Popped.{frames_below, popped, popped_same}
use Rattle.spv_writes.proofs.laws.law_written_frames.Goals as goal

pub returns-clause-references : goal.returns-clause-references
returns-clause-references c = outlines_stay

pub returns-clause-right : goal.returns-clause-right
returns-clause-right c = right_stays

pub returns-clause-popped : goal.returns-clause-popped
returns-clause-popped c = λ p areas s t w. popped p areas (frames_below s) s t w refl

pub returns-clause-popped_same : goal.returns-clause-popped_same
returns-clause-popped_same c = popped_same
