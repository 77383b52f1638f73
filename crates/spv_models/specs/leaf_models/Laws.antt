-- What is true of the table of a leaf.
use Rattle.std.specs.Prelude.{◌≡◌, ℕ, Bool, true, false, List, map, slice_get, Option, Some, Ok, is_some, pos}
use Rattle.spv_whole.specs.Fraction.{Fraction, whole}
use Rattle.spv_logic.specs.declared.types.Shape.{Shape}
use Rattle.spv_logic.specs.declared.types.Decl.{Decl}
use Rattle.spv_logic.specs.declared.conditions.TermId.{TermId}
use Rattle.spv_logic.specs.declared.operators.Head.{Head}
use Rattle.spv_logic.specs.Terms.{Term, term, no_terms, terms}
use Rattle.spv_logic.specs.Formulas.{below}
use Rattle.spv_logic.specs.Sorts.{term_sort}
use Rattle.spv_logic.specs.Conditions.{Sequent}
use Rattle.spv_term.specs.Arena.{Arena, IsArena, tree}
use Rattle.spv_atoms.specs.Atoms.{is_truth, is_number, is_atom, atoms_in}
use Rattle.spv_atoms.specs.Order.{passing}
use Rattle.spv_atoms.specs.Linear.{IdForm}
use Rattle.spv_tableau_rules.specs.tableaux.Rows.{Point, IsSolution}
use Rattle.spv_tableau_rules.specs.tableaux.Bounds.{Bound, bound_on, limits, Meets}
use Rattle.spv_tableau_rules.specs.tableaux.Forms.{rows_of}
use Rattle.spv_tableau_rules.specs.declared.constraints.saying.RowConstraint.{RowConstraint}
use Rattle.spv_tableau_rules.specs.declared.constraints.saying.RowConstraint.TheVariants.{Above}
use Rattle.spv_tableau_rules.specs.constraints.Sayings.{saying, literal, bounds_of}
use Rattle.spv_tableau_rules.specs.constraints.Relations.{IsRowOf, AreIn}
use Rattle.spv_tableau_rules.specs.constraints.Values.{part_value}
use Rattle.spv_term.specs.closure.Joined.{Joined}
use Rattle.spv_term.specs.closure.Laws.{Listed}
use Rattle.spv_table.specs.Values.{truth_value, value, holds, listed_in}
use Rattle.spv_table.specs.Tables.{IsAlike, IsTable}
use Rattle.spv_models.specs.leaf_models.Subterms.{is_among, subterms, arguments, is_listed, uncomputed}
use Rattle.spv_models.specs.leaf_models.Atoms.{atoms}
use Rattle.spv_models.specs.leaf_models.Leaves.{Leaf, IsLeaf, IsSameness, IsDecided, IsTold, HasLiterals, truth_at, worth_at, is_met}
use Rattle.spv_models.specs.leaf_models.Labels.{label_in, same_labels, HasId, AreExact}
use Rattle.spv_models.specs.leaf_models.Tables.{class_of, table, formulas_of, Falsifies}

-- what a table of a leaf says of each term
abbrev pub listed_at : List Shape → List Decl → List Term → Leaf → Term → Fraction
listed_at shapes decls fs leaf = listed_in (table shapes decls fs leaf)

-- the formulas are of sort Bool
abbrev pub AreFormulas : List Shape → List Decl → List Term → Type 0
AreFormulas shapes decls fs = (f : Term) → is_among fs f ≡ true → is_truth shapes decls f ≡ true

-- ---- subterms

-- formulas are among their subterms, the arguments of each subterm are, and none is there twice
abbrev pub FormulasAreSubterms : Type 0
FormulasAreSubterms = (fs : List Term) (f : Term) → is_among fs f ≡ true → is_among (subterms fs) f ≡ true

abbrev pub ArgumentsAreSubterms : Type 0
ArgumentsAreSubterms = (shapes : List Shape) (decls : List Decl) (fs : List Term) → AreFormulas shapes decls fs
    → (t u : Term) → is_among (subterms fs) t ≡ true → is_among (arguments t) u ≡ true → is_among (subterms fs) u ≡ true

abbrev pub SubtermsAreOnce : Type 0
SubtermsAreOnce = (fs : List Term) (i j : ℕ) (t : Term) → slice_get (subterms fs) i ≡ Some t → slice_get (subterms fs) j ≡ Some t → i ≡ j

-- ---- atoms

-- the atoms of each subterm are among the atoms: so those of each formula, and of each argument of sort Bool
abbrev pub AtomsAreThere : Type 0
AtomsAreThere = (shapes : List Shape) (decls : List Decl) (fs : List Term) → AreFormulas shapes decls fs
    → (f t : Term) → is_among (subterms fs) f ≡ true → is_among (atoms_in (is_truth shapes decls) f) t ≡ true → is_among (atoms shapes decls fs) t ≡ true

-- each of them is an atom, so that a proof may split on it
abbrev pub AtomsAreAtoms : Type 0
AtomsAreAtoms = (shapes : List Shape) (decls : List Decl) (fs : List Term) → AreFormulas shapes decls fs
    → (t : Term) → is_among (atoms shapes decls fs) t ≡ true → is_atom (is_truth shapes decls) t ≡ true

-- their arguments are subterms
abbrev pub AtomsAddNothing : Type 0
AtomsAddNothing = (shapes : List Shape) (decls : List Decl) (fs : List Term) → AreFormulas shapes decls fs
    → (t u : Term) → is_among (atoms shapes decls fs) t ≡ true → is_among (arguments t) u ≡ true → is_among (subterms fs) u ≡ true

-- each subterm whose truth is not computed stands in an atom: so congruence on the subterms of the atoms acts on it
abbrev pub UncomputedStandInAtoms : Type 0
UncomputedStandInAtoms = (shapes : List Shape) (decls : List Decl) (fs : List Term) → AreFormulas shapes decls fs
    → (t : Term) → is_among (uncomputed (is_truth shapes decls) (subterms fs)) t ≡ true → is_among (subterms (atoms shapes decls fs)) t ≡ true

-- ---- which terms are the same

-- what derivations join is an equivalence with congruence on what was added
abbrev pub DerivationsJoin : Type 0
DerivationsJoin = (added : Term → Bool) (told same : Term → Term → Bool) → IsDecided added told same → (ts : List Term) → ((t : Term) → is_among ts t ≡ true → added t ≡ true) → IsSameness ts same

-- so where the literals were told, and nothing that they separate is joined, they join and separate as a leaf wants it
abbrev pub LiteralsAreTold : Type 0
LiteralsAreTold = (subterms questions atoms : List Term) (given : Term → Option Bool) (added : Term → Bool) (told same : Term → Term → Bool) → IsDecided added told same
    → HasLiterals subterms questions atoms given added told → IsSameness subterms same × IsTold questions atoms given same

-- derivations from equalities of terms of one sort keep sorts: then no two sorts share a class
abbrev pub DerivationsKeepSorts : Type 0
DerivationsKeepSorts = (shapes : List Shape) (decls : List Decl) (added : Term → Bool) (told : Term → Term → Bool) → ((s t : Term) → told s t ≡ true → term_sort shapes decls s ≡ term_sort shapes decls t)
    → (s t : Term) → Joined (λ u. added u ≡ true) (λ u v. told u v ≡ true) s t → term_sort shapes decls s ≡ term_sort shapes decls t

-- labels of an arena's terms, as a congruence graph gives them, are such an equivalence on the trees of what was added
abbrev pub LabelsJoin : Type 0
LabelsJoin = (a : Arena) → IsArena a → (label : TermId → ℕ) (ids : List TermId) (told : TermId → TermId → Bool) → AreExact a ids (λ s t. told s t ≡ true) label
    → (ts : List Term) → ((t : Term) → is_among ts t ≡ true → HasId a ids t) → IsSameness ts (same_labels a label ids)

-- and the trees of two added terms are the same exactly where their labels are
abbrev pub LabelsAreKept : Type 0
LabelsAreKept = (a : Arena) → IsArena a → (label : TermId → ℕ) (ids : List TermId) (told : TermId → TermId → Bool) → AreExact a ids (λ s t. told s t ≡ true) label
    → (t : TermId) → Listed ids t → label_in a label ids (tree a t) ≡ label t

-- ---- points

-- each bound that a saying is on a row stands, as the one on its side
abbrev pub Stands : List Bound → ℕ → IdForm → RowConstraint → Type 0
Stands bounds i f x = (j : ℕ) (b : Bound) → slice_get (bounds_of i f.constant x) j ≡ Some b → bound_on bounds i b.side ≡ Some b.value

-- a point that meets all bounds makes a literal true, as it is read, whose bounds stand on the row of its sides
abbrev pub LiteralIsMet : Type 0
LiteralIsMet = (a : Arena) → IsArena a → (forms : List IdForm) → AreIn a forms → (bounds : List Bound) (v : Point) → IsSolution (rows_of forms) v → Meets (limits (rows_of forms) bounds) v
    → (i : ℕ) (f : IdForm) → slice_get forms i ≡ Some f → (s t : Term) → IsRowOf a (s, t) f
    → (is_number : Term → Bool) (h : Head) (b : Bool) (x : RowConstraint) → is_number s ≡ true → is_number t ≡ true → saying h b ≡ Some x → Stands bounds i f x
    → is_met is_number (part_value a forms v) (literal b (term h (terms s (terms t no_terms)))) ≡ true

-- the same of the second order of an equation, whose row has its sides the other way
abbrev pub AboveIsMet : Type 0
AboveIsMet = (a : Arena) → IsArena a → (forms : List IdForm) → AreIn a forms → (bounds : List Bound) (v : Point) → IsSolution (rows_of forms) v → Meets (limits (rows_of forms) bounds) v
    → (i : ℕ) (f : IdForm) → slice_get forms i ≡ Some f → (s t : Term) → IsRowOf a (s, t) f
    → (is_number : Term → Bool) → is_number s ≡ true → is_number t ≡ true → Stands bounds i f Above → is_met is_number (part_value a forms v) (below t s) ≡ true

-- ---- values

-- the value of a term of sort Int, where no operation is too wide, is its value at the point
abbrev pub NumbersAreAtPoint : Type 0
NumbersAreAtPoint = (shapes : List Shape) (decls : List Decl) (fs : List Term) (leaf : Leaf) → IsLeaf shapes decls fs leaf
    → (t : Term) (x : Fraction) → is_among (subterms fs) t ≡ true → is_number shapes decls t ≡ true → value (listed_at shapes decls fs leaf) t ≡ Ok x → x ≡ (worth_at leaf.point t).fraction

-- each term of sort Bool has a truth
abbrev pub TruthsAreThere : Type 0
TruthsAreThere = (shapes : List Shape) (decls : List Decl) (fs : List Term) (leaf : Leaf) → IsLeaf shapes decls fs leaf
    → (t : Term) → is_among (subterms fs) t ≡ true → is_truth shapes decls t ≡ true → is_some (truth_at (is_truth shapes decls) leaf.given t) ≡ true

-- the value of a term of sort Bool, where no operation is too wide, is its truth
abbrev pub TruthsAreComputed : Type 0
TruthsAreComputed = (shapes : List Shape) (decls : List Decl) (fs : List Term) (leaf : Leaf) → IsLeaf shapes decls fs leaf
    → (t : Term) (x : Fraction) (b : Bool) → is_among (subterms fs) t ≡ true → is_truth shapes decls t ≡ true → truth_at (is_truth shapes decls) leaf.given t ≡ Some b
    → value (listed_at shapes decls fs leaf) t ≡ Ok x → x ≡ truth_value b

-- the value of a term of another sort is the number of its class
abbrev pub OthersAreClasses : Type 0
OthersAreClasses = (shapes : List Shape) (decls : List Decl) (fs : List Term) (leaf : Leaf) → IsLeaf shapes decls fs leaf
    → (t : Term) → is_among (subterms fs) t ≡ true → is_number shapes decls t ≡ false → is_truth shapes decls t ≡ false
    → value (listed_at shapes decls fs leaf) t ≡ Ok (whole (pos (class_of leaf.same (subterms fs) t)))

-- no two classes have one number
abbrev pub ClassesDiffer : Type 0
ClassesDiffer = (same : Term → Term → Bool) (acting ts : List Term) → IsSameness acting same
    → (s t : Term) → is_among ts s ≡ true → class_of same ts s ≡ class_of same ts t → same s t ≡ true

-- and each class has one
abbrev pub ClassesAreOne : Type 0
ClassesAreOne = (same : Term → Term → Bool) (acting ts : List Term) → IsSameness acting same → (s t : Term) → same s t ≡ true → class_of same ts s ≡ class_of same ts t

-- ---- the table

abbrev pub ListsSubterms : Type 0
ListsSubterms = (shapes : List Shape) (decls : List Decl) (fs : List Term) (leaf : Leaf) → map (λ p. p.0) (table shapes decls fs leaf) ≡ passing is_listed (subterms fs)

abbrev pub LeafHasTable : Type 0
LeafHasTable = (shapes : List Shape) (decls : List Decl) (fs : List Term) (leaf : Leaf) → IsLeaf shapes decls fs leaf → IsTable shapes decls (table shapes decls fs leaf)

-- applications of one head to arguments of equal values, of which the table lists one, are the same
abbrev pub AlikeAreSame : Type 0
AlikeAreSame = (shapes : List Shape) (decls : List Decl) (fs : List Term) (leaf : Leaf) → IsLeaf shapes decls fs leaf
    → (s t : Term) → is_among (subterms fs) s ≡ true → is_among (subterms fs) t ≡ true → is_listed s ≡ true
    → IsAlike shapes decls (listed_at shapes decls fs leaf) s t → leaf.same s t ≡ true

-- ---- formulas

-- each formula has its computed truth in the table, where no operation is too wide
abbrev pub FormulasHold : Type 0
FormulasHold = (shapes : List Shape) (decls : List Decl) (fs : List Term) (leaf : Leaf) → IsLeaf shapes decls fs leaf
    → (f : Term) (b : Bool) → is_among fs f ≡ true → holds (listed_at shapes decls fs leaf) f ≡ Ok b → truth_at (is_truth shapes decls) leaf.given f ≡ Some b

-- where each hypothesis is true at the leaf and the goal is false, and no operation is too wide, the table falsifies the condition
abbrev pub TableFalsifies : Type 0
TableFalsifies = (shapes : List Shape) (decls : List Decl) (c : Sequent) (leaf : Leaf) → IsLeaf shapes decls (formulas_of c) leaf
    → ((f : Term) → is_among c.given f ≡ true → truth_at (is_truth shapes decls) leaf.given f ≡ Some true) → truth_at (is_truth shapes decls) leaf.given c.goal ≡ Some false
    → ((f : Term) → is_among (formulas_of c) f ≡ true → (b : Bool) × (holds (listed_at shapes decls (formulas_of c) leaf) f ≡ Ok b))
    → Falsifies shapes decls c (table shapes decls (formulas_of c) leaf)
