use Rattle.spv_schemas.proofs.SortsThatFit.{fits_exactly}
use Rattle.spv_schemas.proofs.laws.law_sorts_that_fit.Goals as goal

pub returns : goal.returns
returns c shapes decls kind ts field = fits_exactly shapes decls kind ts field
