-- Rules: what each says of terms, and when it holds.
use Rattle.std.specs.Prelude.{ℕ, zero, suc, Bool, true, false, ◌&&◌, List, [], ◌∷◌, Option, Some, None, IsTrue, slice_get, if◌then◌else◌}
use Rattle.spv_logic.specs.declared.types.Shape.{Shape}
use Rattle.spv_logic.specs.declared.types.Decl.{Decl}
use Rattle.spv_logic.specs.declared.operators.Head.{Head}
use Rattle.spv_logic.specs.Terms.{Term, head_eq, sort_eq}
use Rattle.spv_logic.specs.Fits.{on_sort}
use Rattle.spv_logic.specs.Sorts.{term_sort, variable_sort}
use Rattle.spv_logic.specs.Substitution.{Replacement, substitute}
use Rattle.spv_logic.specs.Conditions.{Meaning, Valuation, IsValuation, answers, holds}

-- a rule: what its instances replace, in the order of their terms; the term by which instances are found; and the formula that they are
-- instances of
pub record Rule : Type 0 where
  pub replaced : List Head
  pub trigger : Term
  pub formula : Term

-- ---- instances

-- terms stand in the place of variables, each in the place of its own
abbrev pub placed : List Head → List Term → Replacement
placed [] ts h = None
placed (x ∷ xs) [] h = None
placed (x ∷ xs) (t ∷ ts) h = if head_eq x h then Some t else placed xs ts h

-- whether there is one term for each variable, of its sort
abbrev pub have_sorts : List Shape → List Decl → List Head → List Term → Bool
have_sorts shapes decls [] [] = true
have_sorts shapes decls (x ∷ xs) (t ∷ ts) = on_sort (term_sort shapes decls t) (sort_eq (variable_sort x)) && have_sorts shapes decls xs ts
have_sorts shapes decls _ _ = false

-- what a rule says of terms, where they may stand in the place of its variables
abbrev pub instance : List Shape → List Decl → Rule → List Term → Option Term
instance shapes decls r ts = if have_sorts shapes decls r.replaced ts then Some (substitute (placed r.replaced ts) r.formula) else None

-- the rule of a number, from 1
abbrev pub numbered_rule : List Rule → ℕ → Option Rule
numbered_rule rules zero = None
numbered_rule rules (suc k) = slice_get rules k

abbrev pub instance_of : List Shape → List Decl → Option Rule → List Term → Option Term
instance_of shapes decls None ts = None
instance_of shapes decls (Some r) ts = instance shapes decls r ts

-- ---- when rules hold

-- a rule holds in a world: its formula is true, whatever its variables are
abbrev pub RuleHolds : List Shape → List Decl → Meaning → Rule → Type 0
RuleHolds shapes decls world r = (v : Valuation) → IsValuation shapes v → IsTrue (holds (answers shapes decls world) v r.formula)

-- and each of them does
abbrev pub RulesHold : List Shape → List Decl → Meaning → List Rule → Type 0
RulesHold shapes decls world [] = Unit {0}
RulesHold shapes decls world (r ∷ rules) = RuleHolds shapes decls world r × RulesHold shapes decls world rules
