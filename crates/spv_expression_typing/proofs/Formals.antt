-- How many parameters and arguments there are.
use Rattle.std.proofs.Common.{◌≡◌, ℕ, suc, List, [], ◌∷◌, length, map, refl, ap, ◌∙◌}
use Rattle.spv_program.specs.Expressions.{Expression}
use Rattle.spv_program.specs.declared.typed.programs.Formal.{Formal}
use Rattle.spv_program.specs.typed.ProgramViews.{formal_of}
use Rattle.spv_typing.specs.ExpressionWalk.{Reached}
use Rattle.spv_formula_typing.specs.declared.forms.Given.{Given as GivenText}
use Rattle.spv_formula_typing.specs.Arguments.{all_given}
use Rattle.spv_expression_typing.specs.Applied.{all_seen}

same_length : {X Y : Type 0} (f : X → Y) (xs : List X) → length (map f xs) ≡ length xs
same_length f [] = refl
same_length f (x ∷ xs) = ap suc (same_length f xs)

pub formals_count : (formals : List Formal) → length (map formal_of formals) ≡ length formals
formals_count formals = same_length formal_of formals

pub given_count : (gs : List (ℕ × GivenText Expression Reached)) → length (all_given gs) ≡ length gs
given_count gs = same_length _ gs

pub seen_count : (gs : List (ℕ × GivenText Expression Reached)) → length (all_seen (all_given gs)) ≡ length gs
seen_count gs = same_length _ (all_given gs) ∙ given_count gs
