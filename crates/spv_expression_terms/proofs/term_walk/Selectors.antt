-- What is written of a place, and of its selectors.
use Rattle.std.proofs.Common.{◌≡◌, ℕ, zero, suc, ◌≤◌, ◌<◌, List, [], ◌∷◌, ◌++◌, length, get_or, take, ap, refl, sym, ◌∙◌, arith, OnOk, Result, Ok, Err}
use Rattle.std.proofs.Math.Seq.{take-suc}
use Rattle.std.specs.declared.alloc.AllocError.{AllocError}
use Rattle.spv_logic.specs.declared.names.names.Symbol.{Symbol}
use Rattle.spv_logic.specs.declared.types.TypeId.{TypeId}
use Rattle.spv_logic.specs.declared.operators.Head.{Head}
use Rattle.spv_logic.specs.declared.operators.Head.TheVariants as head
use Rattle.spv_logic.specs.Terms.{Term}
use Rattle.spv_program.specs.Expressions.{no_selectors}
use Rattle.spv_program.specs.Terms.{alone, unary, binary}
use Rattle.spv_program.specs.declared.typed.expressions.Selector.{Selector}
use Rattle.spv_program.specs.declared.typed.expressions.Selector.TheVariants as selector
use Rattle.spv_program.specs.typed.ExpressionViews.{selector_before, selectors_of}
use Rattle.spv_program.specs.typed.Model.ExpressionSizes.{selectors_size}
use Rattle.spv_expression_terms.specs.declared.postfix.pieces.Piece.{Piece}
use Rattle.spv_expression_terms.specs.term_walk.OuterCalls.{filled, filled_behind, for_first, for_others}
use Rattle.spv_expression_terms.specs.postfix.Postfix.{piece}
use Rattle.spv_expression_terms.specs.term_walk.Written.{written, Adds, Writes, WritesHead}
use Rattle.spv_expression_terms.specs.term_walk.Selectors.{class_of, classes_of, for_selector, for_other_selectors, step_of, steps_of}

-- what stands behind selectors: the classes, what they begin at, and the steps
pub written_behind : (heads : Symbol → Head) (vs : List Head) (s : Term) (selectors : List Selector) (rest : List Piece)
    → written (filled_behind heads vs s (selectors_of selectors)) rest ≡ classes_of selectors (written s (steps_of heads vs selectors rest))
written_behind heads vs s [] rest = refl
written_behind heads vs s (selector.Index t e ∷ selectors) rest =
    written_behind heads (for_others e.value vs) (binary head.Select s (filled heads (for_first e.value vs) e.value)) selectors rest
written_behind heads vs s (selector.Field t f ∷ selectors) rest = written_behind heads vs (unary (head.Field f) s) selectors rest
written_behind heads vs s (selector.Cell line t ∷ selectors) rest = written_behind heads vs (binary head.Cell (alone (head.ClassVar t 0)) s) selectors rest

-- a name between the classes and the steps of its selectors
pub path_written : (r : Result (Unit {0}) AllocError) (heads : Symbol → Head) (vs : List Head) (root : Head) (selectors : List Selector) (old named stepped new : List Piece)
    → Adds (classes_of selectors) old named → WritesHead root 0 named stepped → OnOk r (Adds (steps_of heads vs selectors) stepped new)
    → OnOk r (Writes (filled_behind heads vs (alone root) (selectors_of selectors)) old new)
path_written (Ok u) heads vs root selectors old named stepped new classes name steps = λ rest.
    steps rest
    ∙ (name (steps_of heads vs selectors rest)
    ∙ (classes (piece root 0 ∷ steps_of heads vs selectors rest)
    ∙ ap (λ (more : List Piece). old ++ more) (sym (written_behind heads vs (alone root) selectors rest))))
path_written (Err e) heads vs root selectors old named stepped new classes name steps = tt

-- the class, the value of a call and `^` between the classes and the steps of the selectors behind it
pub through_written : (r : Result (Unit {0}) AllocError) (heads : Symbol → Head) (vs us : List Head) (t : TypeId) (v w : Head) (selectors cut : List Selector) (old a b c d new : List Piece)
    → cut ≡ selectors → v ≡ w → us ≡ vs
    → Adds (classes_of cut) old a → WritesHead (head.ClassVar t 0) 0 a b → WritesHead v 0 b c → WritesHead head.Cell 2 c d → OnOk r (Adds (steps_of heads us cut) d new)
    → OnOk r (Writes (filled_behind heads vs (binary head.Cell (alone (head.ClassVar t 0)) (alone w)) (selectors_of selectors)) old new)
through_written (Ok u) heads vs us t v w selectors cut old a b c d new same value left classes class call cell steps = λ rest.
    let is : steps_of heads us cut rest ≡ steps_of heads vs selectors rest = λ i. steps_of heads (left i) (same i) rest in
    steps rest
    ∙ (cell (steps_of heads us cut rest)
    ∙ (call (piece head.Cell 2 ∷ steps_of heads us cut rest)
    ∙ (class (piece v 0 ∷ piece head.Cell 2 ∷ steps_of heads us cut rest)
    ∙ (classes (piece (head.ClassVar t 0) 0 ∷ piece v 0 ∷ piece head.Cell 2 ∷ steps_of heads us cut rest)
    ∙ ((λ i. old ++ classes_of (same i) (piece (head.ClassVar t 0) 0 ∷ piece (value i) 0 ∷ piece head.Cell 2 ∷ is i))
    ∙ ap (λ (more : List Piece). old ++ more) (sym (written_behind heads vs (binary head.Cell (alone (head.ClassVar t 0)) (alone w)) selectors rest)))))))
through_written (Err e) heads vs us t v w selectors cut old a b c d new same value left classes class call cell steps = tt

-- one step more of a loop
pub one_step_more : (heads : Symbol → Head) (vs us ws : List Head) (s : Selector) (rest left : List Selector) (old new : List Piece) → left ≡ s ∷ rest
    → us ≡ for_selector s vs → ws ≡ for_other_selectors s vs → Adds (step_of heads us s) old new → (more : List Piece)
    → new ++ steps_of heads ws rest more ≡ old ++ steps_of heads vs left more
one_step_more heads vs us ws s rest left old new is first others added more =
    added (steps_of heads ws rest more)
    ∙ ((λ i. old ++ step_of heads (first i) s (steps_of heads (others i) rest more)) ∙ ap (λ xs. old ++ steps_of heads vs xs more) (sym is))

-- the class of the last selector stands first
pub last_class : (before : List Selector) (s : Selector) (rest : List Piece) → classes_of (before ++ s ∷ []) rest ≡ class_of s (classes_of before rest)
last_class [] s rest = refl
last_class (b ∷ before) s rest = last_class before s (class_of b rest)

-- the class of one selector more is written
pub one_class_more : (selectors : List Selector) (m : ℕ) (s : Selector) (old new rest : List Piece) → m < length selectors → s ≡ get_or selectors m s → Adds (class_of s) old new
    → new ++ classes_of (take m selectors) rest ≡ old ++ classes_of (take (suc m) selectors) rest
one_class_more selectors m s old new rest within is added =
    added (classes_of (take m selectors) rest)
    ∙ ap (λ (more : List Piece). old ++ more)
    (sym (ap (λ xs. classes_of xs rest) (take-suc selectors m s within ∙ ap (λ x. take m selectors ++ x ∷ []) (sym is)) ∙ last_class (take m selectors) s rest))

pub selector_within : (ss : List Selector) (i : ℕ) (d : Selector) → i < length ss → selectors_size (selector_before (get_or ss i d) no_selectors) ≤ selectors_size (selectors_of ss)
selector_within [] i d h = absurd (omega arith)
selector_within (selector.Index t e ∷ ss) zero d h = omega arith
selector_within (selector.Field t f ∷ ss) zero d h = omega arith
selector_within (selector.Cell line t ∷ ss) zero d h = omega arith
selector_within (selector.Index t e ∷ ss) (suc i) d h = omega (arith, selector_within ss i d (omega arith))
selector_within (selector.Field t f ∷ ss) (suc i) d h = omega (arith, selector_within ss i d (omega arith))
selector_within (selector.Cell line t ∷ ss) (suc i) d h = omega (arith, selector_within ss i d (omega arith))
