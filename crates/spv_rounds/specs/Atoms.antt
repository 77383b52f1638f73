-- The terms at hand where a condition is refuted together with what instances of rules say, its atoms, what a table lists, and when it
-- fails in one: from the condition and these formulas alone.
use Rattle.std.specs.Prelude.{◌≡◌, Bool, true, false, List, [], ◌++◌, map, Ok}
use Rattle.std.specs.List.{flat_map}
use Rattle.spv_whole.specs.Fraction.{Fraction}
use Rattle.spv_logic.specs.Terms.{Term}
use Rattle.spv_schemas.specs.Instances.{schema_facts}
use Rattle.spv_atoms.specs.Atoms.{with_terms}
use Rattle.spv_atoms.specs.Order.{passing}
use Rattle.spv_table.specs.Tables.{IsTable}
use Rattle.spv_table.specs.Values.{holds, listed_in}
use Rattle.spv_proof_rules.specs.Effects.{Question, is_truth}
use Rattle.spv_models.specs.leaf_models.Atoms.{all_equations}
use Rattle.spv_models.specs.leaf_models.Subterms.{is_among, is_listed, arguments, with_subterms}
use Rattle.spv_models.specs.leaf_models.Tables.{formulas_of}
use Rattle.spv_verdicts.specs.Verdicts.{with_all_atoms}
use Rattle.spv_rounds.specs.Claims.{used_with}

-- the facts of schemas about the terms that a condition and these formulas use
abbrev pub facts_with : Question → List Term → List Term
facts_with q fs = schema_facts q.shapes q.decls (used_with q fs)

-- the terms at hand: those that are used, and behind them the further subterms of the facts, in order of first appearance, arguments first
abbrev pub terms_with : Question → List Term → List Term
terms_with q fs = with_subterms (used_with q fs) (facts_with q fs)

-- what has atoms: the formulas of the condition, these, the facts, and each argument of sort Bool of a term at hand
abbrev pub stated_with : Question → List Term → List Term
stated_with q fs = formulas_of q.sequent ++ (fs ++ (facts_with q fs ++ passing (is_truth q) (flat_map arguments (terms_with q fs))))

-- whether a term is an atom of that
abbrev pub is_atom_with : Question → List Term → Term → Bool
is_atom_with q fs t = is_among (with_all_atoms (is_truth q) [] (stated_with q fs)) t

-- the atoms, by their places among the terms at hand; and behind them the equations of each two of these terms that are applications of one head
-- to arguments of the same sorts, at least one of which a table lists, by the places of the two
abbrev pub atoms_with : Question → List Term → List Term
atoms_with q fs = with_terms (passing (is_atom_with q fs) (terms_with q fs)) (all_equations q.shapes q.decls (terms_with q fs))

-- what a table lists: the variables among the terms at hand, and the applications of heads without a meaning of their own
abbrev pub listed_with : Question → List Term → List Term
listed_with q fs = passing is_listed (terms_with q fs)

-- a table in which the condition fails: it lists these terms, each hypothesis, each of these formulas and each fact is true there, and the goal is
-- false
pub record IsFailureIn (q : Question) (fs : List Term) (table : List (Term × Fraction)) : Type 0 where
  pub lists : map (λ p. p.0) table ≡ listed_with q fs
  pub is_table : IsTable q.shapes q.decls table
  pub given_true : (f : Term) → is_among q.sequent.given f ≡ true → holds (listed_in table) f ≡ Ok true
  pub said_true : (f : Term) → is_among fs f ≡ true → holds (listed_in table) f ≡ Ok true
  pub facts_true : (f : Term) → is_among (facts_with q fs) f ≡ true → holds (listed_in table) f ≡ Ok true
  pub goal_false : holds (listed_in table) q.sequent.goal ≡ Ok false
