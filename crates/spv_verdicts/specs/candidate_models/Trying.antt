-- A table that need not be that of a full path, and what it shows.
use Rattle.std.specs.Prelude.{◌≡◌, ⊤, ℕ, ◌<◌, Bool, true, false, ◌&&◌, ◌||◌, not, List, [], ◌∷◌, ◌++◌, map, length, pos, Some, Ok, slice_get, slice_index_or}
use Rattle.spv_whole.specs.Fraction.{Fraction, whole}
use Rattle.spv_logic.specs.declared.conditions.TermId.{TermId}
use Rattle.spv_logic.specs.Terms.{Term, head_eq}
use Rattle.spv_term.specs.declared.nodes.Condition.{Condition}
use Rattle.spv_term.specs.Arena.{Arena, tree}
use Rattle.spv_atoms.specs.Atoms.{is_truth}
use Rattle.spv_atoms.specs.Order.{passing}
use Rattle.spv_proof_rules.specs.Stand.{question, In}
use Rattle.spv_table.specs.declared.table.Table.{Table}
use Rattle.spv_table.specs.Kept.{PairsIn}
use Rattle.spv_table.specs.Tables.{IsTable}
use Rattle.spv_table.specs.Values.{Outcome, is_same, value}
use Rattle.spv_search_terms.specs.head_index.Chains.{head_of}
use Rattle.spv_models.specs.leaf_models.Subterms.{arguments, is_listed, subterms}
use Rattle.spv_models.specs.leaf_models.Tables.{formulas_of}
use Rattle.spv_verdicts.specs.Verdicts.{Survives}
use Rattle.spv_verdicts.specs.answers.Views.{CasesIn, branch_in, pairs_in}
use Rattle.spv_verdicts.specs.declared.candidate_models.trying.Tried.{Tried}
use Rattle.spv_verdicts.specs.declared.candidate_models.trying.Tried.TheVariants.{Shown, Apart, NotShown}
use Rattle.spv_verdicts.specs.declared.candidate_models.agreeing.Agreement.{Agreement}
use Rattle.spv_verdicts.specs.declared.candidate_models.agreeing.Agreement.TheVariants as agreement

-- ---- what arguments are worth

-- the outcomes of terms without one that is too wide
abbrev pub known_values : List Fraction → List Outcome
known_values [] = []
known_values (x ∷ xs) = Ok x ∷ known_values xs

-- terms are worth these numbers, one by one
abbrev pub AreWorth : (Term → Fraction) → List Term → List Fraction → Type 0
AreWorth listed ts xs = map (value listed) ts ≡ known_values xs

-- a number of a term is put behind others
pub record IsWorthOfOne (listed : Term → Fraction) (t : Term) (old new : List Fraction) : Type 0 where
  pub number : Fraction
  pub worth : value listed t ≡ Ok number
  pub is : new ≡ old ++ number ∷ []

-- beside each entry of a table what the arguments of its term are worth
pub record AreKeys (a : Arena) (listed : Term → Fraction) (pairs : List (TermId × Fraction)) (keys : List (List Fraction)) : Type 0 where
  pub many : length keys ≡ length pairs
  pub each : (i : ℕ) (p : TermId × Fraction) (xs : List Fraction) → slice_get pairs i ≡ Some p → slice_get keys i ≡ Some xs → AreWorth listed (arguments (tree a p.0)) xs

-- ---- entries that are alike

abbrev pub numbers_eq : List Fraction → List Fraction → Bool
numbers_eq [] [] = true
numbers_eq (x ∷ xs) (y ∷ ys) = is_same x y && numbers_eq xs ys
numbers_eq _ _ = false

-- the number of a term, and what its arguments are worth
abbrev pub Entry : Type 0
Entry = (TermId × Fraction) × List Fraction

-- whether two terms have one head
abbrev pub have_one_head : Arena → TermId → TermId → Bool
have_one_head a t u = head_eq (head_of (tree a t)) (head_of (tree a u))

-- whether two entries are of one head and of arguments that are worth the same, and have two numbers
abbrev pub are_apart : Arena → Entry → Entry → Bool
are_apart a p q = have_one_head a p.0.0 q.0.0 && (numbers_eq p.1 q.1 && not (is_same p.0.1 q.0.1))

abbrev pub no_number : Fraction
no_number = whole (pos 0)

abbrev pub pair_at : List (TermId × Fraction) → ℕ → TermId × Fraction
pair_at pairs i = slice_index_or pairs i (record { 0 = 0 }, no_number)

abbrev pub key_at : List (List Fraction) → ℕ → List Fraction
key_at keys i = slice_index_or keys i []

abbrev pub entry_at : List (TermId × Fraction) → List (List Fraction) → ℕ → Entry
entry_at pairs keys i = (pair_at pairs i, key_at keys i)

-- the entry at a place is apart from none of the first ones
pub record IsApartFromNone (a : Arena) (pairs : List (TermId × Fraction)) (keys : List (List Fraction)) (i count : ℕ) : Type 0 where
  pub each : (j : ℕ) → j < count → are_apart a (entry_at pairs keys i) (entry_at pairs keys j) ≡ false

-- none of the first entries is apart from one before it
pub record AreNotApart (a : Arena) (pairs : List (TermId × Fraction)) (keys : List (List Fraction)) (count : ℕ) : Type 0 where
  pub each : (i : ℕ) → i < count → IsApartFromNone a pairs keys i i

-- ---- truth values

-- whether a number is 0 or 1
abbrev pub is_truth_number : Fraction → Bool
is_truth_number x = is_same x (whole (pos 0)) || is_same x (whole (pos 1))

-- whether an entry that is of sort Bool has such a number
abbrev pub is_truthful : Arena → TermId × Fraction → Bool
is_truthful a p = not (is_truth a.shapes a.decls (tree a p.0)) || is_truth_number p.1

pub record AreTruthful (a : Arena) (pairs : List (TermId × Fraction)) (count : ℕ) : Type 0 where
  pub each : (i : ℕ) (p : TermId × Fraction) → i < count → slice_get pairs i ≡ Some p → is_truthful a p ≡ true

-- ---- what is found of a table

-- it is one; two of its terms may tell why it is none
abbrev pub IsAgreement : Arena → List (TermId × Fraction) → Agreement → Type 0
IsAgreement a pairs agreement.Whole = IsTable a.shapes a.decls (pairs_in a pairs)
IsAgreement a pairs (agreement.Apart t u) = In a t × In a u
IsAgreement a pairs agreement.Unknown = ⊤

-- the terms that a table lists are those that it has to list
abbrev pub ListsSubterms : Arena → Condition → List (TermId × Fraction) → Type 0
ListsSubterms a c pairs = map (λ p. p.0) (pairs_in a pairs) ≡ passing is_listed (subterms (formulas_of (question a c).sequent))

-- a table was tried: where it shows the condition false, the condition is unproved with it
abbrev pub IsTried : Arena → Condition → Table → Tried → Type 0
IsTried a c table (Shown branch) = Survives (question a c) (branch_in a branch) (pairs_in a table.values) × CasesIn a branch × PairsIn a table.values
IsTried a c table (Apart t u) = In a t × In a u
IsTried a c table NotShown = ⊤
