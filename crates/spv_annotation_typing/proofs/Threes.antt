-- Lists of three.
use Rattle.std.proofs.Common.{◌≡◌, ◌+◌, ℕ, List, [], ◌∷◌, ◌++◌, length, Err, refl, ap, ◌∙◌, arith}
use Rattle.std.proofs.lemmas.List.{length-append}
use Rattle.spv_program.specs.Formulas.{Formula}
use Rattle.spv_typing.specs.declared.faults.TypeFault.TheVariants.{Count}
use Rattle.spv_typing.specs.Known.{Scope}
use Rattle.spv_formula_typing.specs.declared.forms.Given.{Given as GivenText}
use Rattle.spv_formula_typing.specs.Arguments.{all_given}
use Rattle.spv_annotation_typing.specs.Applied.{put_given}

pub not_three : {S : Type 0} (s : Scope) (line : ℕ) (gs : List (ℕ × GivenText Formula S)) → (length gs ≡ 3 → ⊥) → put_given s line (all_given gs) ≡ Err (Count line)
not_three s line [] h = refl
not_three s line (a ∷ []) h = refl
not_three s line (a ∷ b ∷ []) h = refl
not_three s line (a ∷ b ∷ c ∷ []) h = absurd (h refl)
not_three s line (a ∷ b ∷ c ∷ d ∷ more) h = refl

module _ {X : Type 0} where
  empty_of : (xs : List X) → length xs ≡ 0 → xs ≡ []
  empty_of [] h = refl
  empty_of (x ∷ xs) h = absurd (omega (arith, h))

  pub three_popped : (all two one none : List X) (a b c : X) → length all ≡ 3 → all ≡ two ++ c ∷ [] → two ≡ one ++ b ∷ [] → one ≡ none ++ a ∷ []
      → all ≡ a ∷ b ∷ c ∷ []
  three_popped all two one none a b c h p q r =
      let l2 : length all ≡ length two + 1 = ap length p ∙ length-append two (c ∷ []) in
      let l1 : length two ≡ length one + 1 = ap length q ∙ length-append one (b ∷ []) in
      let l0 : length one ≡ length none + 1 = ap length r ∙ length-append none (a ∷ []) in
      let empty : none ≡ [] = empty_of none (omega (arith, h, l2, l1, l0)) in
      let first : one ≡ a ∷ [] = r ∙ ap (λ (xs : List X). xs ++ a ∷ []) empty in
      p ∙ ap (λ (xs : List X). xs ++ c ∷ []) (q ∙ ap (λ (xs : List X). xs ++ b ∷ []) first)

  pub some_left : (xs : List X) → xs ≡ [] → length xs ≡ 3 → ⊥
  some_left xs e h = let l : length xs ≡ 0 = ap length e in omega (arith, h, l)
