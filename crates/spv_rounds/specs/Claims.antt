-- What instances of rules say, and what is refuted together with it.
use Rattle.std.specs.Prelude.{◌≡◌, List, [], ◌∷◌, ◌++◌, map, Option, Some}
use Rattle.std.specs.List.{filter_map}
use Rattle.spv_whole.specs.Fraction.{Fraction}
use Rattle.spv_logic.specs.declared.operators.Head.TheVariants.{False}
use Rattle.spv_logic.specs.Terms.{Term, term, no_terms}
use Rattle.spv_logic.specs.Formulas.{negation}
use Rattle.spv_proof_rules.specs.Rules.{numbered_rule, instance_of}
use Rattle.spv_proof_rules.specs.Effects.{Question}
use Rattle.spv_models.specs.leaf_models.Subterms.{subterms}
use Rattle.spv_models.specs.leaf_models.Tables.{formulas_of, Falsifies}
use Rattle.spv_verdicts.specs.Verdicts.{Instance}
use Rattle.spv_verdicts.specs.Schemas.{enlarged}

-- ---- instances

-- what an instance of a rule says, if there is such a rule and its terms have the sorts of its variables
abbrev pub formula_of : Question → Instance → Option Term
formula_of q i = instance_of q.shapes q.decls (numbered_rule q.rules i.rule) i.values

-- what these say, in order
abbrev pub formulas : Question → List Instance → List Term
formulas q is = filter_map (formula_of q) is

-- each of them says something
abbrev pub AllSay : Question → List Instance → Type 0
AllSay q is = map (formula_of q) is ≡ map Some (formulas q is)

-- ---- what is refuted

-- the question whether the hypotheses, that the goal is false, and these formulas are never true together: it has no rules of its own, and
-- facts of schemas come to it as to any other one
abbrev pub claim : Question → List Term → Question
claim q fs = record {
  shapes = q.shapes;
  decls = q.decls;
  at = q.at;
  sequent = record { given = q.sequent.given ++ negation q.sequent.goal ∷ fs; goal = term False no_terms };
  rules = [];
}

-- a table in which all of it is true, with the facts of schemas about its terms
abbrev pub FalsifiesWith : Question → List Instance → List (Term × Fraction) → Type 0
FalsifiesWith q is table = Falsifies q.shapes q.decls (enlarged (claim q (formulas q is))).sequent table

-- the terms that a condition and these formulas use: their different subterms
abbrev pub used_with : Question → List Term → List Term
used_with q fs = subterms (formulas_of q.sequent ++ fs)
