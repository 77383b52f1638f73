-- Formulas by their parts.
use Rattle.spv_logic.specs.declared.operators.Head.TheVariants.{Not, Eq, Lt, And}
use Rattle.spv_logic.specs.Terms.{Term, term, terms, no_terms}

abbrev pub negation : Term → Term
negation t = term Not (terms t no_terms)

abbrev pub equation : Term → Term → Term
equation s t = term Eq (terms s (terms t no_terms))

abbrev pub below : Term → Term → Term
below s t = term Lt (terms s (terms t no_terms))

abbrev pub conjunction : Term → Term → Term
conjunction s t = term And (terms s (terms t no_terms))
