-- What is refuted together where facts of schemas are at hand, and when each verdict on a condition may come then.
use Rattle.std.specs.Prelude.{◌≡◌, ℕ, ◌<◌, Bool, true, false, List, [], ◌∷◌, ◌++◌, map, length, Some, Ok, ⊤, slice_get}
use Rattle.spv_whole.specs.Fraction.{Fraction}
use Rattle.spv_logic.specs.declared.operators.Head.TheVariants.{False}
use Rattle.spv_logic.specs.Terms.{Term, term, no_terms}
use Rattle.spv_logic.specs.Formulas.{negation}
use Rattle.spv_schemas.specs.Instances.{schema_facts}
use Rattle.spv_term.specs.Arena.{Arena}
use Rattle.spv_atoms.specs.Atoms.{with_terms}
use Rattle.spv_table.specs.Values.{holds, listed_in}
use Rattle.spv_proof_rules.specs.Accepted as accepted
use Rattle.spv_proof_rules.specs.Accepted.{accepts, walk, cases_of}
use Rattle.spv_proof_rules.specs.Effects.{Question}
use Rattle.spv_models.specs.leaf_models.Atoms.{all_equations}
use Rattle.spv_models.specs.leaf_models.Subterms.{is_among, subterms}
use Rattle.spv_models.specs.leaf_models.Tables.{formulas_of, Falsifies}
use Rattle.spv_models.specs.split_trees.Trees.{Tree, Trees, Open, Closed, Split, no_trees, trees, splits, has_open}
use Rattle.spv_models.specs.split_trees.Paths.{atoms, facts, IsLive}
use Rattle.spv_search_terms.specs.condition_copy.Copies.{base_terms}
use Rattle.spv_verdicts.specs.Verdicts.{Limits, Instance, Round, Limit, Splits, TooManyTerms, Verdict, Proved, Unproved, GaveUp, NotAccepted, condition_atoms, most_terms, IsReached}

-- ---- what is refuted

-- the terms that a condition uses: the different subterms of its formulas
abbrev pub used : Question → List Term
used q = subterms (formulas_of q.sequent)

-- the facts of schemas about them
abbrev pub further_facts : Question → List Term
further_facts q = schema_facts q.shapes q.decls (used q)

-- the hypotheses, that the goal is false, and behind these the facts of schemas: a condition is true where these are never true together
abbrev pub refuted : Question → List Term
refuted q = q.sequent.given ++ negation q.sequent.goal ∷ further_facts q

-- what claims that they are never true together
abbrev pub enlarged : Question → Question
enlarged q = record {
  shapes = q.shapes;
  decls = q.decls;
  at = q.at;
  sequent = record { given = refuted q; goal = term False no_terms };
  rules = q.rules;
}

-- ---- unproved

-- a table in which each hypothesis and each fact of a schema is true and the goal is false, and each atom of the condition with its
-- truth there
pub record SurvivesFacts (q : Question) (branch : List (Term × Bool)) (table : List (Term × Fraction)) : Type 0 where
  pub falsifies : Falsifies q.shapes q.decls (enlarged q).sequent table
  pub atoms : map (λ p. p.0) branch ≡ condition_atoms q
  pub truths : (i : ℕ) (p : Term × Bool) → slice_get branch i ≡ Some p → holds (listed_in table) p.0 ≡ Ok p.1

-- ---- splits

-- a path may split on an atom of what is refuted that was not split on above, where it is live
pub record MaySplitOn (q : Question) (cases above : List Term) (t : Term) : Type 0 where
  pub is_atom : is_among (atoms (enlarged q)) t ≡ true
  pub is_new : is_among above t ≡ false
  pub live : IsLive (enlarged q) (facts (enlarged q) cases)

abbrev mutual
  -- a tree stands behind these cases, and splits on these atoms above it: open paths are live with all that is refuted, steps of proofs
  -- of the condition close the closed ones from their cases alone, and a split has one part for each case of its atom
  pub StandsOn : Question → List Term → List Term → Tree → Type 0
  StandsOn q cases above Open = IsLive (enlarged q) (facts (enlarged q) cases)
  StandsOn q cases above (Closed steps) = walk q cases steps ≡ accepted.Closed
  StandsOn q cases above (Split t parts) = MaySplitOn q cases above t × PartsStandOn q cases (t ∷ above) (cases_of q t) parts

  pub PartsStandOn : Question → List Term → List Term → List Term → Trees → Type 0
  PartsStandOn q cases above [] no_trees = ⊤
  PartsStandOn q cases above (f ∷ fs) (trees part parts) = StandsOn q (cases ++ f ∷ []) above part × PartsStandOn q cases above fs parts
  PartsStandOn q cases above _ _ = ⊥

-- a tree with so many splits, which stands, and has a path that is open
pub record IsKeptOn (q : Question) (limit : ℕ) (tree : Tree) : Type 0 where
  pub stands : StandsOn q [] [] tree
  pub so_many : splits tree ≡ limit
  pub one_open : has_open tree ≡ true

-- ---- terms

-- the terms that count: 0, 1, TRUE and FALSE, the different subterms of the condition and of the facts of schemas, and the equations
-- that are atoms of what is refuted
abbrev pub counted_terms : Question → List Term
counted_terms q =
    with_terms (with_terms base_terms (subterms (formulas_of q.sequent ++ further_facts q)))
    (all_equations q.shapes q.decls (subterms (formulas_of (enlarged q).sequent)))

pub record HasTooManyCounted (q : Question) (n : ℕ) : Type 0 where
  pub limit : n ≡ most_terms
  pub more : n < length (counted_terms q)

-- ---- when each verdict may come

-- forms, operations, values and steps are those of a search that refutes all together
abbrev pub IsReachedWith : Arena → Question → Limits → Limit → Type 0
IsReachedWith a q limits (Splits tree) = IsKeptOn q limits.splits tree
IsReachedWith a q limits (TooManyTerms n) = HasTooManyCounted q n
IsReachedWith a q limits l = IsReached a (enlarged q) limits l

-- without rules no instance is added
pub record IsUnprovedWith (q : Question) (branch : List (Term × Bool)) (table : List (Term × Fraction)) (instances : List Instance) : Type 0 where
  pub survives : SurvivesFacts q branch table
  pub no_instances : instances ≡ []

-- and no round is made
pub record HasGivenUpWith (a : Arena) (q : Question) (limits : Limits) (rounds : List Round) (limit : Limit) : Type 0 where
  pub reached : IsReachedWith a q limits limit
  pub no_rounds : rounds ≡ []

-- a verdict on a question over an arena is right, where facts of schemas are at hand
abbrev pub IsRightWith : Arena → Question → Limits → Verdict → Type 0
IsRightWith a q limits (Proved nodes) = accepts q nodes ≡ true
IsRightWith a q limits (Unproved branch table instances) = IsUnprovedWith q branch table instances
IsRightWith a q limits (GaveUp rounds limit) = HasGivenUpWith a q limits rounds limit
IsRightWith a q limits NotAccepted = ⊥
