-- What is asked of a term: its arguments of sort Bool, where it is no connective.
use Rattle.std.specs.Prelude.{Bool, ◌&&◌, not, List, [], if◌then◌else◌}
use Rattle.spv_logic.specs.Terms.{Term}
use Rattle.spv_atoms.specs.Atoms.{is_truth_value}
use Rattle.spv_atoms.specs.Order.{passing}
use Rattle.spv_models.specs.leaf_models.Subterms.{arguments, is_plain}

-- whether a term is of sort Bool, and neither TRUE nor FALSE
abbrev pub is_asked : (Term → Bool) → Term → Bool
is_asked is_truth t = is_truth t && not (is_truth_value t)

-- the arguments of sort Bool of a term, where it is no connective
abbrev pub asked_of : (Term → Bool) → Term → List Term
asked_of is_truth t = if is_plain is_truth t then passing (is_asked is_truth) (arguments t) else []
