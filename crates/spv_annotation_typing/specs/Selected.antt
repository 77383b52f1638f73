-- Selectors over what is known of the program.
use Rattle.std.specs.Prelude.{ℕ, List, Ok, Err, is_some}
use Rattle.spv_logic.specs.declared.types.Sort.{Sort}
use Rattle.spv_logic.specs.declared.types.Sort.TheVariants as sort
use Rattle.spv_logic.specs.Shapes.{element_sort}
use Rattle.spv_program.specs.Types.{sort_of}
use Rattle.spv_program.specs.Programs.{shapes}
use Rattle.spv_program.specs.Formulas.{Formula, NilOf, Element, Content}
use Rattle.spv_typing.specs.declared.faults.TypeFault.TheVariants.{Count}
use Rattle.spv_typing.specs.Outcomes.{Outcome, after, where_so, wrong}
use Rattle.spv_typing.specs.Known.{Known}
use Rattle.spv_typing.specs.OperatorWalk.{Operand, settled}
use Rattle.spv_typing.specs.FormulaWalk.{Sorted, with_sort, on_element, takes_indices, elements}

abbrev pub content_on : Known → ℕ → ℕ → Formula → Sort → Outcome Sorted
content_on k line at q (sort.Ptr t) = Ok (with_sort (Content at t q) (sort_of k.program.forms t))
content_on k line at q s = Err (wrong line)

-- `^` behind a formula
abbrev pub content_of : Known → ℕ → ℕ → Sorted → Outcome Sorted
content_of k line at q = content_on k line at q.formula q.sort

-- an element at one index with its line
abbrev pub element_at : Known → Sorted → ℕ → Operand Formula → Outcome Sorted
element_at k a line index =
    after (settled NilOf (wrong line) sort.Int index) (λ f.
    on_element (Err (wrong line)) (λ e. Ok (with_sort (Element a.formula f) e)) (element_sort (shapes k.program) a.sort))

abbrev pub indexed_in : Known → ℕ → Sorted → List (ℕ × Operand Formula) → Outcome Sorted
indexed_in k line a indices =
    where_so (is_some (element_sort (shapes k.program) a.sort)) (wrong line)
    (where_so (takes_indices (shapes k.program) a.sort indices) (Count line) (elements (shapes k.program) a indices))
