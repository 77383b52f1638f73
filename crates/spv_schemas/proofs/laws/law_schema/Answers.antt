use Rattle.spv_schemas.specs.Facts.{of_shape}
use Rattle.spv_logic.specs.Sorts.{term_sort}
use Rattle.spv_schemas.proofs.Soundness.{kept, fact_true, listed_true}
use Rattle.spv_schemas.proofs.laws.law_schema.Goals as goal

pub returns-clause-formulas : goal.returns-clause-formulas
returns-clause-formulas c shapes decls kind ts field fact h =
    (kept shapes decls (of_shape (term_sort shapes decls) kind ts field) fact h).sorted

pub returns-clause-true_everywhere : goal.returns-clause-true_everywhere
returns-clause-true_everywhere c kind shapes ok decls ts field fact h world v val = fact_true shapes ok decls world v val kind ts field fact h

pub returns-clause-listed : goal.returns-clause-listed
returns-clause-listed c shapes ok decls used world v val = listed_true shapes ok decls world v val used
