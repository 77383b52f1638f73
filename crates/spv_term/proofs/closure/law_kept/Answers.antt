use Rattle.std.proofs.Common.{◌≡◌}
use Rattle.spv_term.specs.closure.Laws.{Listed}
use Rattle.spv_term.proofs.closure.Kept.{kept}
use Rattle.spv_term.proofs.closure.law_kept.Goals as goal

pub returns : goal.returns
returns c a ok ids f r s t h k d = kept a ok (Listed ids) (λ x y. x ≡ y) f r s t h k d
