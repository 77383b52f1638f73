-- `^` as the definition has it, and over what is known of the program.
use Rattle.std.proofs.Common.{◌≡◌, ℕ, refl}
use Rattle.spv_logic.specs.declared.types.Sort.{Sort}
use Rattle.spv_logic.specs.declared.types.Sort.TheVariants as sort
use Rattle.spv_program.specs.Formulas.{Formula}
use Rattle.spv_typing.specs.Known.{Scope}
use Rattle.spv_typing.specs.FormulaWalk.{Sorted, with_sort, content_at}
use Rattle.spv_annotation_typing.specs.Selected.{content_of}

by_sort : (s : Scope) (line at : ℕ) (f : Formula) (t : Sort) → content_at s line at (with_sort f t) ≡ content_of s.known line at (with_sort f t)
by_sort s line at f sort.Int = refl
by_sort s line at f sort.Bool = refl
by_sort s line at f sort.List = refl
by_sort s line at f (sort.Ptr t) = refl
by_sort s line at f (sort.Whole t) = refl
by_sort s line at f (sort.Class t) = refl

pub content_is : (s : Scope) (line at : ℕ) (q : Sorted) → content_at s line at q ≡ content_of s.known line at q
content_is s line at q = by_sort s line at q.formula q.sort
