-- What is told of a relation, as what it says of its sides.
use Rattle.std.specs.Prelude.{true, false, Option, Some, None}
use Rattle.spv_logic.specs.declared.operators.Head.{Head}
use Rattle.spv_logic.specs.declared.operators.Head.TheVariants.{Eq}
use Rattle.spv_logic.specs.Terms.{Term, term}
use Rattle.spv_derivations.specs.declared.derivation.entries.Part.{Part}
use Rattle.spv_derivations.specs.declared.derivation.entries.Part.TheVariants as part
use Rattle.spv_tableau_rules.specs.declared.constraints.saying.RowConstraint.{RowConstraint}
use Rattle.spv_tableau_rules.specs.declared.constraints.saying.RowConstraint.TheVariants.{Below, Above}
use Rattle.spv_tableau_rules.specs.constraints.Sayings.{saying}

-- what an order of the sides of an equation says
abbrev pub order : Head → RowConstraint → Option RowConstraint
order Eq x = Some x
order _ x = None

-- that a relation of this head is true or false; of an equation also that a side is below the other
abbrev pub told : Head → Part → Option RowConstraint
told h part.True = saying h true
told h part.False = saying h false
told h part.Below = order h Below
told h part.Above = order h Above

abbrev pub told_of : Term → Part → Option RowConstraint
told_of (term h ts) p = told h p
