-- What is written of selectors: classes before the name, and steps behind it.
use Rattle.std.specs.Prelude.{List, [], ◌∷◌}
use Rattle.spv_logic.specs.declared.names.names.Symbol.{Symbol}
use Rattle.spv_logic.specs.declared.operators.Head.{Head}
use Rattle.spv_logic.specs.declared.operators.Head.TheVariants as head
use Rattle.spv_program.specs.declared.typed.expressions.Selector.{Selector}
use Rattle.spv_program.specs.declared.typed.expressions.Selector.TheVariants as selector
use Rattle.spv_expression_terms.specs.declared.postfix.pieces.Piece.{Piece}
use Rattle.spv_expression_terms.specs.postfix.Postfix.{piece}
use Rattle.spv_expression_terms.specs.term_walk.OuterCalls.{filled, for_first, for_others}
use Rattle.spv_expression_terms.specs.term_walk.Written.{written}

-- the class of a `^`
abbrev pub class_of : Selector → List Piece → List Piece
class_of (selector.Index t e) rest = rest
class_of (selector.Field t f) rest = rest
class_of (selector.Cell line t) rest = piece (head.ClassVar t 0) 0 ∷ rest

-- the last `^` first
abbrev pub classes_of : List Selector → List Piece → List Piece
classes_of [] rest = rest
classes_of (s ∷ selectors) rest = classes_of selectors (class_of s rest)

-- of variables for the calls in some text, those for the calls in its first selector, and the others
abbrev pub for_selector : Selector → List Head → List Head
for_selector (selector.Index t e) vs = for_first e.value vs
for_selector (selector.Field t f) vs = []
for_selector (selector.Cell line t) vs = []

abbrev pub for_other_selectors : Selector → List Head → List Head
for_other_selectors (selector.Index t e) vs = for_others e.value vs
for_other_selectors (selector.Field t f) vs = vs
for_other_selectors (selector.Cell line t) vs = vs

abbrev pub step_of : (Symbol → Head) → List Head → Selector → List Piece → List Piece
step_of heads vs (selector.Index t e) rest = written (filled heads vs e.value) (piece head.Select 2 ∷ rest)
step_of heads vs (selector.Field t f) rest = piece (head.Field f) 1 ∷ rest
step_of heads vs (selector.Cell line t) rest = piece head.Cell 2 ∷ rest

abbrev pub steps_of : (Symbol → Head) → List Head → List Selector → List Piece → List Piece
steps_of heads vs [] rest = rest
steps_of heads vs (s ∷ selectors) rest = step_of heads (for_selector s vs) s (steps_of heads (for_other_selectors s vs) selectors rest)
