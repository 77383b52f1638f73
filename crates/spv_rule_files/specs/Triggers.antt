-- Triggers of rules, and the names in formulas.
use Rattle.std.specs.Prelude.{List, [], ◌∷◌, ◌++◌, Option, Some, None, is_some, if◌then◌else◌}
use Rattle.spv_tree.specs.declared.syntax.names.Name.{Name}
use Rattle.spv_program.specs.Lists.{found, first_of}
use Rattle.spv_program.specs.Scopes.{Scope, sort_or_int}
use Rattle.spv_program.specs.Formulas.{Formula, Formulas, Numeral, Boolean, NilOf, Named, ClassOf, Element, FieldOf, Content, Applied, Known, Negative, Calculated, Compared, Negated, Joined, Implied, no_formulas, formulas}
use Rattle.spv_rule_files.specs.Outcomes.{fold}

-- ---- the leftmost outermost application of a declared symbol, in the order of the text

abbrev mutual
  pub trigger_in : Formula → Option Formula
  trigger_in (Numeral z) = None
  trigger_in (Boolean b) = None
  trigger_in (NilOf t) = None
  trigger_in (Named line x) = None
  trigger_in (ClassOf line t) = None
  trigger_in (Element a i) = first_of (trigger_in a) (trigger_in i)
  trigger_in (FieldOf r f) = trigger_in r
  trigger_in (Content line t q) = trigger_in q
  trigger_in (Applied f fs) = Some (Applied f fs)
  trigger_in (Known b fs) = trigger_among fs
  trigger_in (Negative f) = trigger_in f
  trigger_in (Calculated o f g) = first_of (trigger_in f) (trigger_in g)
  trigger_in (Compared o f g) = first_of (trigger_in f) (trigger_in g)
  trigger_in (Negated f) = trigger_in f
  trigger_in (Joined o f g) = first_of (trigger_in f) (trigger_in g)
  trigger_in (Implied f g) = first_of (trigger_in f) (trigger_in g)

  pub trigger_among : Formulas → Option Formula
  trigger_among no_formulas = None
  trigger_among (formulas f fs) = first_of (trigger_in f) (trigger_among fs)

-- ---- the names in a formula with their lines, in the order of the text, behind those that were there

abbrev mutual
  pub names_behind : List Name → Formula → List Name
  names_behind done (Numeral z) = done
  names_behind done (Boolean b) = done
  names_behind done (NilOf t) = done
  names_behind done (Named line x) = done ++ record { line = line; symbol = x } ∷ []
  names_behind done (ClassOf line t) = done
  names_behind done (Element a i) = names_behind (names_behind done a) i
  names_behind done (FieldOf r f) = names_behind done r
  names_behind done (Content line t q) = names_behind done q
  names_behind done (Applied f fs) = all_names_behind done fs
  names_behind done (Known b fs) = all_names_behind done fs
  names_behind done (Negative f) = names_behind done f
  names_behind done (Calculated o f g) = names_behind (names_behind done f) g
  names_behind done (Compared o f g) = names_behind (names_behind done f) g
  names_behind done (Negated f) = names_behind done f
  names_behind done (Joined o f g) = names_behind (names_behind done f) g
  names_behind done (Implied f g) = names_behind (names_behind done f) g

  pub all_names_behind : List Name → Formulas → List Name
  all_names_behind done no_formulas = done
  all_names_behind done (formulas f fs) = all_names_behind (names_behind done f) fs

-- ---- variables

-- one more, where it was not met before, with its sort
abbrev pub met : Scope → Scope → Name → Scope
met vars done x =
    if is_some (found done x.symbol) then done else done ++ (x.symbol, sort_or_int (found vars x.symbol)) ∷ []

-- the variables of a formula with their sorts, each once, in the order in which its text first has them
abbrev pub variables_of : Scope → Formula → Scope
variables_of vars f = fold (met vars) [] (names_behind [] f)

-- the first of these names that is none of the variables
abbrev pub first_unbound : Scope → List Name → Option Name
first_unbound bound [] = None
first_unbound bound (x ∷ names) = if is_some (found bound x.symbol) then first_unbound bound names else Some x
