-- Lists of formulas, and loops that write what is in them.
use Rattle.std.proofs.Common.{◌≡◌, ℕ, zero, suc, ◌≤◌, ◌<◌, List, [], ◌∷◌, ◌++◌, length, get_or, drop, ap, refl, sym, subst, arith, OnOk, Result, Ok, Err, ◌∙◌}
use Rattle.std.specs.declared.alloc.AllocError.{AllocError}
use Rattle.spv_logic.specs.Terms.{Term, Terms, term}
use Rattle.spv_program.specs.declared.operators.Comparison.{Comparison}
use Rattle.spv_expression_terms.specs.declared.postfix.pieces.Piece.{Piece}
use Rattle.spv_expression_terms.specs.term_walk.Written.{written_all, Writes, WritesAll, WritesHead}
use Rattle.spv_logic.specs.declared.names.names.Symbol.{Symbol}
use Rattle.spv_logic.specs.declared.operators.Head.{Head}
use Rattle.spv_expression_terms.specs.postfix.Postfix.{piece, count_of}
use Rattle.spv_program.specs.Formulas.{Formula}
use Rattle.spv_program.specs.Terms.{comparing, formula_terms}
use Rattle.spv_program.specs.typed.FormulaViews.{formulas_of}
use Rattle.spv_program.specs.typed.Model.FormulaSizes.{formula_size, formulas_size}

-- a loop that writes what is in these has come to this one of them
abbrev pub ComeTo : {X A : Type 0} → (List X → List A → List A) → List X → ℕ → List A → List A → Type 0
ComeTo {X} {A} added xs i old new = (rest : List A) → new ++ added (drop i xs) rest ≡ old ++ added xs rest

pub formula_within : (fs : List Formula) (i : ℕ) (d : Formula) → i < length fs → formula_size (get_or fs i d) ≤ formulas_size (formulas_of fs)
formula_within [] i d h = absurd (omega arith)
formula_within (f ∷ fs) zero d h = omega arith
formula_within (f ∷ fs) (suc i) d h = omega (arith, formula_within fs i d (omega arith))

pub count_of_formulas : (heads : Symbol → Head) (fs : List Formula) → count_of (formula_terms heads (formulas_of fs)) ≡ length fs
count_of_formulas heads [] = refl
count_of_formulas heads (f ∷ fs) = ap suc (count_of_formulas heads fs)

-- a comparison by its operator
pub compared_as : (r : Result (Unit {0}) AllocError) (o k : Comparison) (s t : Term) (old new : List Piece) → o ≡ k → OnOk r (Writes (comparing k s t) old new) → OnOk r (Writes (comparing o s t) old new)
compared_as r o k s t old new e h = subst (λ (o : Comparison). OnOk r (Writes (comparing o s t) old new)) (sym e) h

-- a head behind the terms that it stands over
pub head_behind : (r : Result (Unit {0}) AllocError) (h : Head) (ts : Terms) (n : ℕ) (old mid new : List Piece) → WritesAll ts old mid → OnOk r (WritesHead h n mid new) → count_of ts ≡ n → OnOk r (Writes (term h ts) old new)
head_behind (Ok u) h ts n old mid new e f c = λ rest. f rest ∙ (e (piece h n ∷ rest) ∙ ap (λ m. old ++ written_all ts (piece h m ∷ rest)) (sym c))
head_behind (Err x) h ts n old mid new e f c = tt
