-- Terms put in the place of variables, all at once.
use Rattle.std.specs.Prelude.{Bool, true, false, Option, Some, None}
use Rattle.spv_logic.specs.declared.operators.Head.{Head}
use Rattle.spv_logic.specs.declared.operators.Head.TheVariants.{Var, ClassVar, Start}
use Rattle.spv_logic.specs.Values.{Value}
use Rattle.spv_logic.specs.Terms.{Term, Terms, term, no_terms, terms, eval}
use Rattle.spv_logic.specs.Conditions.{Meaning, Valuation}

-- the term for a head, where one is put there
abbrev pub Replacement : Type 0
Replacement = Head → Option Term

abbrev pub is_variable : Head → Bool
is_variable (Var x s n) = true
is_variable (ClassVar t n) = true
is_variable (Start x s) = true
is_variable _ = false

-- the replacement at a variable; nothing is put in the place of another head
abbrev pub replacement_at : Bool → Option Term → Option Term
replacement_at true u = u
replacement_at false u = None

abbrev pub replaced : Option Term → Term → Term
replaced None t = t
replaced (Some u) t = u

abbrev mutual
  -- the term with each replaced variable's term in its place
  pub substitute : Replacement → Term → Term
  substitute by (term h ts) = replaced (replacement_at (is_variable h) (by h)) (term h (substitute_all by ts))

  pub substitute_all : Replacement → Terms → Terms
  substitute_all by no_terms = no_terms
  substitute_all by (terms t ts) = terms (substitute by t) (substitute_all by ts)

abbrev pub value_under : Meaning → Valuation → Option Term → Value → Value
value_under symbols v None w = w
value_under symbols v (Some u) w = eval symbols v u

-- the valuation that a replacement makes: a replaced variable has the value of its term
abbrev pub under : Meaning → Replacement → Valuation → Valuation
under symbols by v h = value_under symbols v (by h) (v h)
