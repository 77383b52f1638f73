-- The verdicts of a search, and when each of them may come.
use Rattle.std.specs.Prelude.{◌≡◌, ℕ, ◌<◌, Bool, true, false, List, [], ◌∷◌, map, length, Some, Ok, Err, pos, slice_get}
use Rattle.spv_whole.specs.Fraction.{Fraction, whole}
use Rattle.spv_logic.specs.declared.conditions.TermId.{TermId}
use Rattle.spv_logic.specs.Terms.{Term}
use Rattle.spv_term.specs.Arena.{Arena, tree}
use Rattle.spv_atoms.specs.declared.proofs.ProofNode.{ProofNode}
use Rattle.spv_atoms.specs.Atoms.{with_atoms, with_terms}
use Rattle.spv_atoms.specs.Linear.{IdForm}
use Rattle.spv_atoms.specs.Order.{passing}
use Rattle.spv_table.specs.declared.operations.WideValue.{WideValue}
use Rattle.spv_table.specs.Values.{value, holds, listed_in}
use Rattle.spv_table.specs.Tables.{IsTable}
use Rattle.spv_tableau_rules.specs.tableaux.Rows.{Point, IsSolution}
use Rattle.spv_tableau_rules.specs.tableaux.Forms.{part_ids, rows_of}
use Rattle.spv_tableau_rules.specs.tableaux.Operations.{Operation}
use Rattle.spv_tableau_rules.specs.tableaux.Solved.{Entries, Places, IsSolved}
use Rattle.spv_tableau_rules.specs.tableaux.Walks.{Exchange, Start, HoldsBounds, IsWide, IsUnfinished}
use Rattle.spv_proof_rules.specs.Accepted.{accepts}
use Rattle.spv_proof_rules.specs.Effects.{Question, is_truth, is_number}
use Rattle.spv_tableau_rules.specs.constraints.Relations.{number_sides, fits_each_way}
use Rattle.spv_models.specs.leaf_models.Atoms.{all_equations}
use Rattle.spv_models.specs.leaf_models.Subterms.{is_among, subterms, is_listed}
use Rattle.spv_models.specs.leaf_models.Tables.{formulas_of, Falsifies}
use Rattle.spv_models.specs.split_trees.Trees.{Tree}
use Rattle.spv_models.specs.split_trees.Paths.{atoms}
use Rattle.spv_models.specs.split_trees.Kept.{IsKept}
use Rattle.spv_search_terms.specs.condition_copy.Copies.{all_terms}
use Rattle.spv_verdicts.specs.Exact.{is_exactly_true}
use Rattle.spv_verdicts.specs.Rows.{relation_heads, readable, AreRows, IsBegun}

-- ---- verdicts

-- how many splits a search may make, how many instances of rules it may add, how many steps a check of its tableau may make, and how many
-- terms it may have
pub record Limits : Type 0 where
  pub splits : ℕ
  pub instances : ℕ
  pub pivots : ℕ
  pub terms : ℕ

-- an instance of a rule: the rule's number, and the terms of its variables in their order
pub record Instance : Type 0 where
  pub rule : ℕ
  pub values : List Term

-- a round: a table in which all that was known held and the goal did not, and the instances that were added for it
pub record Round : Type 0 where
  pub table : List (Term × Fraction)
  pub members : List Instance

-- what a search, or a recheck, gave up at
pub data Limit : Type 0 where
  -- the splits, with the tree so far
  Splits : Tree → Limit
  -- the instances of rules
  TooManyInstances : Limit
  -- a relation whose forms do not fit
  WideForm : Term → Limit
  -- an operation of a check that does not fit: what the check began with, its steps, and the operation
  WidePivot : Start → List Exchange → Operation → Limit
  -- an operation in the check of a sum of a proof that does not fit: the proof, and the operation
  WideSum : List ProofNode → WideValue → Limit
  -- a term whose value in a table does not fit, and the operation
  WideEvaluation : List (Term × Fraction) → Term → WideValue → Limit
  -- the steps of a check: what it began with, and its steps
  Pivots : Start → List Exchange → Limit
  -- the terms, of which so many may be
  TooManyTerms : ℕ → Limit

pub data Verdict : Type 0 where
  Proved : List ProofNode → Verdict
  -- the truth of each atom of the condition, a table in which it is false, and the instances that were added
  Unproved : List (Term × Bool) → List (Term × Fraction) → List Instance → Verdict
  -- the rounds that were made, and the limit
  GaveUp : List Round → Limit → Verdict
  -- a proof that was handed in is not accepted
  NotAccepted : Verdict

-- ---- unproved

abbrev pub with_all_atoms : (Term → Bool) → List Term → List Term → List Term
with_all_atoms is_truth known [] = known
with_all_atoms is_truth known (f ∷ fs) = with_all_atoms is_truth (with_atoms is_truth known f) fs

-- the atoms of a condition, in the order in which they first stand in it
abbrev pub condition_atoms : Question → List Term
condition_atoms q = with_all_atoms (is_truth q) [] (formulas_of q.sequent)

-- a table in which each hypothesis is true and the goal is false, and each atom of the condition with its truth there
pub record Survives (q : Question) (branch : List (Term × Bool)) (table : List (Term × Fraction)) : Type 0 where
  pub falsifies : Falsifies q.shapes q.decls q.sequent table
  pub atoms : map (λ p. p.0) branch ≡ condition_atoms q
  pub truths : (i : ℕ) (p : Term × Bool) → slice_get branch i ≡ Some p → holds (listed_in table) p.0 ≡ Ok p.1

-- ---- limits

-- one of the atoms is a relation of whole numbers, one of whose forms does not fit
pub record HasWideForm (q : Question) (t : Term) : Type 0 where
  pub is_atom : is_among (atoms q) t ≡ true
  pub sides : Term × Term
  pub are : number_sides (is_number q) t ≡ Some sides
  pub unfit : fits_each_way sides ≡ false

-- a check over the rows of the atoms met an operation that does not fit
pub record HasWidePivot (a : Arena) (q : Question) (s : Start) (steps : List Exchange) (o : Operation) : Type 0 where
  pub forms : List IdForm
  pub begun : IsBegun a q forms s
  pub wide : IsWide (rows_of forms) s steps o

-- a check over the rows of the atoms made as many steps as it may, and one more would follow
pub record HasAllPivots (a : Arena) (q : Question) (most : ℕ) (s : Start) (steps : List Exchange) : Type 0 where
  pub forms : List IdForm
  pub begun : IsBegun a q forms s
  pub unfinished : IsUnfinished (rows_of forms) s steps most

-- the whole numbers of a table are those of a basis: parts outside it are 0, the columns of rows outside it at a bound that may be read, and what is no part is 0
pub record AreAtBasis (a : Arena) (q : Question) (forms : List IdForm) (table : List (Term × Fraction)) : Type 0 where
  pub rows : AreRows a q forms
  pub places : Places
  pub entries : Entries
  pub solved : IsSolved (rows_of forms) places entries
  pub point : Point
  pub solution : IsSolution (rows_of forms) point
  pub held : HoldsBounds (rows_of forms) (readable 0 (relation_heads (is_number q) (atoms q)) forms) places point
  pub parts : (c : ℕ) (t : TermId) → slice_get (part_ids forms) c ≡ Some t → is_listed (tree a t) ≡ true → listed_in table (tree a t) ≡ (point c).fraction
  pub others : (u : Term) → is_number q u ≡ true → ((c : ℕ) (t : TermId) → slice_get (part_ids forms) c ≡ Some t → tree a t ≡ u → ⊥) → listed_in table u ≡ whole (pos 0)

-- a table that falsifies the condition by exact numbers, in which the evaluation of a subterm meets an operation that does not fit
pub record HasWideValue (a : Arena) (q : Question) (table : List (Term × Fraction)) (t : Term) (w : WideValue) : Type 0 where
  pub lists : map (λ p. p.0) table ≡ passing is_listed (subterms (formulas_of q.sequent))
  pub is_table : IsTable q.shapes q.decls table
  pub given_true : (f : Term) → is_among q.sequent.given f ≡ true → is_exactly_true (listed_in table) f ≡ true
  pub goal_false : is_exactly_true (listed_in table) q.sequent.goal ≡ false
  pub subterm : is_among (subterms (formulas_of q.sequent)) t ≡ true
  pub stops : value (listed_in table) t ≡ Err w
  pub forms : List IdForm
  pub numbers : AreAtBasis a q forms table

-- the terms that count: 0, 1, TRUE and FALSE, the different subterms of the condition, and the equations that are atoms
abbrev pub search_terms : Question → List Term
search_terms q = with_terms (all_terms q.sequent) (all_equations q.shapes q.decls (subterms (formulas_of q.sequent)))

-- the limit of terms where none is given
abbrev pub most_terms : ℕ
most_terms = 1000000

pub record HasTooManyTerms (q : Question) (most n : ℕ) : Type 0 where
  pub limit : n ≡ most
  pub more : n < length (search_terms q)

-- a search comes to no limit of instances, since there are no rules, and to no sum of a proof
abbrev pub IsReached : Arena → Question → Limits → Limit → Type 0
IsReached a q limits (Splits tree) = IsKept q limits.splits tree
IsReached a q limits TooManyInstances = ⊥
IsReached a q limits (WideSum nodes w) = ⊥
IsReached a q limits (WideForm t) = HasWideForm q t
IsReached a q limits (WidePivot s steps o) = HasWidePivot a q s steps o
IsReached a q limits (WideEvaluation table t w) = HasWideValue a q table t w
IsReached a q limits (Pivots s steps) = HasAllPivots a q limits.pivots s steps
IsReached a q limits (TooManyTerms n) = HasTooManyTerms q limits.terms n

-- ---- when each verdict may come

-- without rules no instance is added
pub record IsUnproved (q : Question) (branch : List (Term × Bool)) (table : List (Term × Fraction)) (instances : List Instance) : Type 0 where
  pub survives : Survives q branch table
  pub no_instances : instances ≡ []

-- and no round is made
pub record HasGivenUp (a : Arena) (q : Question) (limits : Limits) (rounds : List Round) (limit : Limit) : Type 0 where
  pub reached : IsReached a q limits limit
  pub no_rounds : rounds ≡ []

-- the verdict of a search for a proof of a question over an arena is right
abbrev pub IsRight : Arena → Question → Limits → Verdict → Type 0
IsRight a q limits (Proved nodes) = accepts q nodes ≡ true
IsRight a q limits (Unproved branch table instances) = IsUnproved q branch table instances
IsRight a q limits (GaveUp rounds limit) = HasGivenUp a q limits rounds limit
IsRight a q limits NotAccepted = ⊥
