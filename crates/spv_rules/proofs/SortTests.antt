-- The program's test of sorts is sameness.
use Rattle.std.proofs.Common.{◌≡◌, Bool, true, false, List, [], ◌∷◌, refl, sym, ap, ◌∙◌, nat_eq, inl, inr}
use Rattle.std.proofs.lemmas.Bool.{false≢true, eqb-true}
use denote.Struct.Field.{Field}
use denote.Struct.Values.{Values}
use denote.Enum.Declared.{Choice, intoss}
use denote.Enum.Compared.{Each, by}
use Rattle.spv_logic.specs.declared.types.TypeId.{TypeId}
use Rattle.spv_logic.specs.declared.types.Sort.{Sort}
use Rattle.spv_logic.specs.contracts.types.Sort as sort_type
use Rattle.spv_logic.specs.contracts.types.SortPartialEq.TheImpl as of_sorts
use Rattle.spv_logic.specs.contracts.types.SortEq.TheImpl.Laws as sort_laws
use Rattle.spv_logic.specs.Terms.{sort_eq}
use Rattle.spv_logic.proofs.Equality.{sort_eq-true, sort_eq-refl}

-- for each variant, fields that the test finds equal are the same
abbrev AllSound : (Fss : List (List Field)) → Each Bool Fss → Type 0
AllSound [] each = Unit {0}
AllSound (Fs ∷ Fss) each = ((x y : Values Fs) → each.0 x y ≡ true → x ≡ y) × AllSound Fss each.1

-- then so are choices of a variant with its fields
same_choice : (Fss : List (List Field)) (each : Each Bool Fss) → AllSound Fss each → (c d : Choice Fss) → by false false Fss each c d ≡ true → c ≡ d
same_choice [] each sound c d h = absurd c
same_choice (Fs ∷ Fss) each sound (inl x) (inl y) h = ap inl (sound.0 x y h)
same_choice (Fs ∷ Fss) each sound (inl x) (inr d) h = absurd (false≢true h)
same_choice (Fs ∷ Fss) each sound (inr c) (inl y) h = absurd (false≢true h)
same_choice (Fs ∷ Fss) each sound (inr c) (inr d) h = ap inr (same_choice Fss each.1 sound.1 c d h)

type_same : (t u : TypeId) → nat_eq t.0 u.0 ≡ true → t ≡ u
type_same t u h = ap (λ n. record { 0 = n }) (eqb-true t.0 u.0 h)

sort_same : (s t : Sort) → of_sorts.ghosts.eq s t ≡ true → s ≡ t
sort_same s t h =
    sort_type.the_type.to_one s t (ap (intoss sort_type.the_type.parts)
    (same_choice sort_type.the_type.parts
    (_, (_, (_, (_, (_, (_, tt)))))) (
      (λ x y e. refl),
      (
        (λ x y e. refl),
        (
          (λ x y e. refl),
          ((λ x y e i. (type_same x.0 y.0 e i, tt)), ((λ x y e i. (type_same x.0 y.0 e i, tt)), ((λ x y e i. (type_same x.0 y.0 e i, tt)), tt))),
        ),
      ),
    )
    (sort_type.as_values s) (sort_type.as_values t) h))

-- it is the definition's test
pub sort_test : (s t : Sort) → of_sorts.ghosts.eq s t ≡ sort_eq s t
sort_test s t = by_cases (of_sorts.ghosts.eq s t) refl (sort_eq s t) refl
  where
    by_cases : (b : Bool) → of_sorts.ghosts.eq s t ≡ b → (c : Bool) → sort_eq s t ≡ c → b ≡ c
    by_cases true e true f = refl
    by_cases true e false f = absurd (false≢true (sym f ∙ (ap (sort_eq s) (sym (sort_same s t e)) ∙ sort_eq-refl s)))
    by_cases false e true f = absurd (false≢true (sym e ∙ (ap (of_sorts.ghosts.eq s) (sym (sort_eq-true s t f)) ∙ sort_laws.laws-law.refl s)))
    by_cases false e false f = refl
