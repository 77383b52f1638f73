-- The lines of a proof.
use Rattle.std.specs.Prelude.{ℕ, zero, suc, true, false, Option, None, Some, List, [], ◌∷◌, ◌++◌, map, length, codes, decimal}
use Rattle.std.specs.List.{flat_map}
use Rattle.spv_whole.specs.Fraction.{Fraction}
use Rattle.spv_logic.specs.declared.names.names.Symbol.{Symbol}
use Rattle.spv_logic.specs.declared.conditions.TermId.{TermId}
use Rattle.spv_logic.specs.Terms.{Term}
use Rattle.spv_logic.specs.Formulas.{negation, equation}
use Rattle.spv_atoms.specs.declared.proofs.Relation.{Relation}
use Rattle.spv_atoms.specs.declared.proofs.Relation.TheVariants.{AtMost, Equal}
use Rattle.spv_atoms.specs.declared.proofs.Stated.{Stated}
use Rattle.spv_atoms.specs.declared.proofs.Stated.TheVariants.{Is, Same}
use Rattle.spv_atoms.specs.declared.proofs.Step.{Step}
use Rattle.spv_atoms.specs.declared.proofs.Split.{Split}
use Rattle.spv_atoms.specs.declared.proofs.ProofNode.{ProofNode}
use Rattle.spv_atoms.specs.Shape.{parts_of}
use Rattle.spv_atoms.specs.Steps as word
use Rattle.spv_atoms.specs.Steps.{Word, Part, Number, Fact, OtherFact, Facts, One, Several, Sums, States, Field, shape}
use Rattle.spv_proof_rules.specs.Effects.{at_most}
use Rattle.spv_listing.specs.printed.Printed.{line, name_in, fraction_text, term_text}

-- ---- parts of a line, each behind a blank

abbrev pub number_text : ℕ → List ℕ
number_text n = codes " " ++ decimal n

abbrev pub numbers_text : List ℕ → List ℕ
numbers_text ns = flat_map number_text ns

abbrev pub blank_term : List (List ℕ) → List (Option Symbol) → Term → List ℕ
blank_term names titles t = codes " " ++ term_text names titles t

abbrev pub terms_text : List (List ℕ) → List (Option Symbol) → (TermId → Term) → List TermId → List ℕ
terms_text names titles at ts = flat_map (blank_term names titles) (map at ts)

-- a multiplier and the number of the fact that it multiplies
abbrev pub multiple_text : Fraction × ℕ → List ℕ
multiple_text m = codes " " ++ fraction_text m.0 ++ codes " " ++ decimal m.1

abbrev pub multiples_text : List (Fraction × ℕ) → List ℕ
multiples_text ms = flat_map multiple_text ms

-- the name of a field, where there is one
abbrev pub field_text : List (List ℕ) → Option Symbol → List ℕ
field_text names None = []
field_text names (Some x) = codes " " ++ name_in names x

-- a fact's number, where there is one
abbrev pub second_number : Option ℕ → List ℕ
second_number None = []
second_number (Some n) = codes " " ++ decimal n

-- ---- formulas that steps state

-- a relation of two whole numbers
abbrev pub relation_at : (TermId → Term) → Relation → Term
relation_at at (AtMost s t) = at_most (at s) (at t)
relation_at at (Equal s t) = equation (at s) (at t)

-- what an evaluation states
abbrev pub stated_at : (TermId → Term) → Stated → Term
stated_at at (Is t true) = at t
stated_at at (Is t false) = negation (at t)
stated_at at (Same s t) = equation (at s) (at t)

-- ---- steps

-- the multiples for the other direction, which an equation has alone
abbrev pub other_multiples : Relation → List (Fraction × ℕ) → List ℕ
other_multiples (AtMost s t) ms = []
other_multiples (Equal s t) ms = codes " /" ++ multiples_text ms

abbrev pub word_text : Word → List ℕ
word_text word.Given = codes "GIVEN"
word_text word.Refl = codes "REFL"
word_text word.Symm = codes "SYMM"
word_text word.Trans = codes "TRANS"
word_text word.Cong = codes "CONG"
word_text word.Linear = codes "LINEAR"
word_text word.Schema = codes "SCHEMA"
word_text word.Rule = codes "RULE"
word_text word.Eval = codes "EVAL"
word_text word.Contra = codes "CONTRA"

-- a part of a step, where terms have these ids
abbrev pub part_text : List (List ℕ) → List (Option Symbol) → (TermId → Term) → Part → List ℕ
part_text names titles at (Number n) = number_text n
part_text names titles at (Fact k) = number_text k
part_text names titles at (OtherFact k) = second_number k
part_text names titles at (Facts ks) = numbers_text ks
part_text names titles at (One t) = blank_term names titles (at t)
part_text names titles at (Several ts) = terms_text names titles at ts
part_text names titles at (Sums r first second) = blank_term names titles (relation_at at r) ++ multiples_text first ++ other_multiples r second
part_text names titles at (States s) = blank_term names titles (stated_at at s)
part_text names titles at (Field x) = field_text names x

-- parts, one behind the other
abbrev pub parts_text : List (List ℕ) → List (Option Symbol) → (TermId → Term) → List Part → List ℕ
parts_text names titles at [] = []
parts_text names titles at (p ∷ []) = part_text names titles at p
parts_text names titles at (p ∷ q ∷ parts) = part_text names titles at p ++ parts_text names titles at (q ∷ parts)

-- a step by its word and its parts
abbrev pub step_text : List (List ℕ) → List (Option Symbol) → (TermId → Term) → Step → List ℕ
step_text names titles at s = word_text (shape s).word ++ parts_text names titles at (shape s).parts

abbrev pub step_line : List (List ℕ) → List (Option Symbol) → (TermId → Term) → Step → List ℕ
step_line names titles at s = line (codes "STEP " ++ step_text names titles at s)

-- ---- nodes

-- how many cases a split has, and its atom
abbrev pub split_line : List (List ℕ) → List (Option Symbol) → (TermId → Term) → Option Split → List ℕ
split_line names titles at None = []
split_line names titles at (Some s) = line (codes "SPLIT" ++ number_text (length s.parts) ++ blank_term names titles (at s.atom))

abbrev pub node_lines : List (List ℕ) → List (Option Symbol) → (TermId → Term) → ProofNode → List ℕ
node_lines names titles at n = flat_map (step_line names titles at) n.steps ++ split_line names titles at n.split

-- the line in front of the case of this number, from 1; the root is no case, and has the number 0
abbrev pub case_line : ℕ → List ℕ
case_line zero = []
case_line (suc i) = line (codes "CASE" ++ number_text (suc i))

-- the numbers from 1 to this one
abbrev pub numbers : ℕ → List ℕ
numbers zero = []
numbers (suc n) = numbers n ++ suc n ∷ []

-- the numbers of the cases of a node's split
abbrev pub case_numbers : ProofNode → List ℕ
case_numbers n = numbers (length (parts_of n.split))

-- the lines of nodes, where the cases of these numbers are still to come, the next one first: a node's cases come before what is left
abbrev pub cases_lines : List (List ℕ) → List (Option Symbol) → (TermId → Term) → List ℕ → List ProofNode → List ℕ
cases_lines names titles at waiting [] = []
cases_lines names titles at [] (n ∷ nodes) = []
cases_lines names titles at (i ∷ waiting) (n ∷ nodes) =
    case_line i ++ node_lines names titles at n ++ cases_lines names titles at (case_numbers n ++ waiting) nodes

-- the lines of a proof, from its root on
abbrev pub proof_lines : List (List ℕ) → List (Option Symbol) → (TermId → Term) → List ProofNode → List ℕ
proof_lines names titles at nodes = cases_lines names titles at (0 ∷ []) nodes
