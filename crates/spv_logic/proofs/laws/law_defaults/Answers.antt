use Rattle.spv_logic.specs.declared.types.Sort.TheVariants as sort
use Rattle.spv_logic.specs.Fits.{default_of}
use Rattle.spv_logic.specs.Sorts.{variable_sort}
use Rattle.spv_logic.proofs.Defaults.{default_fits}
use Rattle.spv_logic.proofs.laws.law_defaults.Goals as goal

pub returns-clause-fit : goal.returns-clause-fit
returns-clause-fit c shapes h s = default_fits shapes h s

pub returns-clause-valuation : goal.returns-clause-valuation
returns-clause-valuation c shapes h = (
  λ k. default_of shapes (variable_sort k),
  record {
    variables = λ x s n. default_fits shapes h s;
    classes = λ t n. default_fits shapes h (sort.Class t);
    starts = λ x s. default_fits shapes h s;
  },
)
