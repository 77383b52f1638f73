-- The program's test of heads is sameness.
use Rattle.std.proofs.Common.{◌≡◌, ℕ, Bool, true, false, ◌&&◌, List, [], ◌∷◌, refl, sym, ap, ◌∙◌, nat_eq, inl, inr}
use Rattle.std.proofs.lemmas.Bool.{false≢true, eqb-true}
use Rattle.spv_logic.proofs.list.Tests.{left_true, right_true}
use denote.Struct.Field.{Field}
use denote.Struct.Values.{Values}
use denote.Enum.Declared.{Choice, intoss}
use denote.Enum.Compared.{Each, by}
use Rattle.spv_logic.specs.declared.names.names.Symbol.{Symbol}
use Rattle.spv_logic.specs.declared.types.TypeId.{TypeId}
use Rattle.spv_logic.specs.declared.types.Sort.{Sort}
use Rattle.spv_logic.specs.declared.operators.Head.{Head}
use Rattle.spv_logic.specs.Terms.{head_eq}
use Rattle.spv_logic.proofs.Equality.{int_eq-true, head_eq-true, head_eq-refl}
use Rattle.spv_logic.specs.contracts.types.Sort as sort_type
use Rattle.spv_logic.specs.contracts.types.SortPartialEq.TheImpl as of_sorts
use Rattle.spv_logic.specs.contracts.operators.Head as head_type
use Rattle.spv_logic.specs.contracts.operators.HeadPartialEq.TheImpl as of_heads
use Rattle.spv_logic.specs.contracts.operators.HeadEq.TheImpl.Laws as head_laws

-- for each variant, fields that the test finds equal are the same
abbrev AllSound : (Fss : List (List Field)) → Each Bool Fss → Type 0
AllSound [] each = Unit {0}
AllSound (Fs ∷ Fss) each = ((x y : Values Fs) → each.0 x y ≡ true → x ≡ y) × AllSound Fss each.1

-- then so are choices of a variant with its fields
same_choice : (Fss : List (List Field)) (each : Each Bool Fss) → AllSound Fss each → (c d : Choice Fss) → by false false Fss each c d ≡ true → c ≡ d
same_choice [] each sound c d h = absurd c
same_choice (Fs ∷ Fss) each sound (inl x) (inl y) h = ap inl (sound.0 x y h)
same_choice (Fs ∷ Fss) each sound (inl x) (inr d) h = absurd (false≢true h)
same_choice (Fs ∷ Fss) each sound (inr c) (inl y) h = absurd (false≢true h)
same_choice (Fs ∷ Fss) each sound (inr c) (inr d) h = ap inr (same_choice Fss each.1 sound.1 c d h)

type_same : (t u : TypeId) → nat_eq t.0 u.0 ≡ true → t ≡ u
type_same t u h = ap (λ n. record { 0 = n }) (eqb-true t.0 u.0 h)

symbol_same : (x y : Symbol) → nat_eq x.0 y.0 ≡ true → x ≡ y
symbol_same x y h = ap (λ n. record { 0 = n }) (eqb-true x.0 y.0 h)

sort_same : (s t : Sort) → of_sorts.ghosts.eq s t ≡ true → s ≡ t
sort_same s t h =
    sort_type.the_type.to_one s t (ap (intoss sort_type.the_type.parts)
    (same_choice sort_type.the_type.parts
    (_, (_, (_, (_, (_, (_, tt)))))) (
      (λ x y e. refl),
      (
        (λ x y e. refl),
        (
          (λ x y e. refl),
          ((λ x y e i. (type_same x.0 y.0 e i, tt)), ((λ x y e i. (type_same x.0 y.0 e i, tt)), ((λ x y e i. (type_same x.0 y.0 e i, tt)), tt))),
        ),
      ),
    )
    (sort_type.as_values s) (sort_type.as_values t) h))

variable_same : (x y : Symbol × (Sort × (ℕ × Unit {0}))) → (nat_eq x.0.0 y.0.0 && (of_sorts.ghosts.eq x.1.0 y.1.0 && nat_eq x.1.1.0 y.1.1.0)) ≡ true → x ≡ y
variable_same x y h =
    let name = symbol_same x.0 y.0 (left_true _ _ h) in
    let others = right_true (nat_eq x.0.0 y.0.0) _ h in
    let sort = sort_same x.1.0 y.1.0 (left_true _ _ others) in
    let number = eqb-true x.1.1.0 y.1.1.0 (right_true (of_sorts.ghosts.eq x.1.0 y.1.0) _ others) in
    λ i. (name i, (sort i, (number i, tt)))

class_same : (x y : TypeId × (ℕ × Unit {0})) → (nat_eq x.0.0 y.0.0 && nat_eq x.1.0 y.1.0) ≡ true → x ≡ y
class_same x y h =
    let of_type = type_same x.0 y.0 (left_true _ _ h) in
    let number = eqb-true x.1.0 y.1.0 (right_true (nat_eq x.0.0 y.0.0) _ h) in
    λ i. (of_type i, (number i, tt))

start_same : (x y : Symbol × (Sort × Unit {0})) → (nat_eq x.0.0 y.0.0 && of_sorts.ghosts.eq x.1.0 y.1.0) ≡ true → x ≡ y
start_same x y h =
    let name = symbol_same x.0 y.0 (left_true _ _ h) in
    let sort = sort_same x.1.0 y.1.0 (right_true (nat_eq x.0.0 y.0.0) _ h) in
    λ i. (name i, (sort i, tt))

head_same : (h k : Head) → of_heads.ghosts.eq h k ≡ true → h ≡ k
head_same h k e =
    head_type.the_type.to_one h k (ap (intoss head_type.the_type.parts)
    (same_choice head_type.the_type.parts
    (_, (_, (_, (_, (_, (_, (_, (_, (_, (_, (_, (_, (_, (_, (_, (_, (_, (_, (_, (_, (_, (_, (_, (_, (_, (_, (_, (_, (_, (_, (_, (_, tt)))))))))))))))))))))))))))))))) (
      (λ x y e. variable_same x y e),
      (
        (λ x y e. class_same x y e),
        (
          (λ x y e. start_same x y e),
          (
            (λ x y e i. (int_eq-true x.0 y.0 e i, tt)),
            (
              (λ x y e i. (symbol_same x.0 y.0 e i, tt)),
              (
                (λ x y e. refl),
                (
                  (λ x y e. refl),
                  (
                    (λ x y e. refl),
                    (
                      (λ x y e. refl),
                      (
                        (λ x y e. refl),
                        (
                          (λ x y e. refl),
                          (
                            (λ x y e. refl),
                            (
                              (λ x y e. refl),
                              (
                                (λ x y e. refl),
                                (
                                  (λ x y e. refl),
                                  (
                                    (λ x y e. refl),
                                    (
                                      (λ x y e. refl),
                                      (
                                        (λ x y e. refl),
                                        (
                                          (λ x y e. refl),
                                          (
                                            (λ x y e i. (symbol_same x.0 y.0 e i, tt)),
                                            (
                                              (λ x y e i. (symbol_same x.0 y.0 e i, tt)),
                                              (
                                                (λ x y e. refl),
                                                (
                                                  (λ x y e. refl),
                                                  (
                                                    (λ x y e. refl),
                                                    (
                                                      (λ x y e. refl),
                                                      (
                                                        (λ x y e. refl),
                                                        (
                                                          (λ x y e. refl),
                                                          (
                                                            (λ x y e. refl),
                                                            (
                                                              (λ x y e. refl),
                                                              (
                                                                (λ x y e i. (type_same x.0 y.0 e i, tt)),
                                                                ((λ x y e. refl), ((λ x y e. refl), tt)),
                                                              ),
                                                            ),
                                                          ),
                                                        ),
                                                      ),
                                                    ),
                                                  ),
                                                ),
                                              ),
                                            ),
                                          ),
                                        ),
                                      ),
                                    ),
                                  ),
                                ),
                              ),
                            ),
                          ),
                        ),
                      ),
                    ),
                  ),
                ),
              ),
            ),
          ),
        ),
      ),
    )
    (head_type.as_values h) (head_type.as_values k) e))

-- it is the definition's test
pub head_test : (h k : Head) → of_heads.ghosts.eq h k ≡ head_eq h k
head_test h k = by_cases (of_heads.ghosts.eq h k) refl (head_eq h k) refl
  where
    by_cases : (b : Bool) → of_heads.ghosts.eq h k ≡ b → (c : Bool) → head_eq h k ≡ c → b ≡ c
    by_cases true e true f = refl
    by_cases true e false f = absurd (false≢true (sym f ∙ (ap (head_eq h) (sym (head_same h k e)) ∙ head_eq-refl h)))
    by_cases false e true f = absurd (false≢true (sym e ∙ (ap (of_heads.ghosts.eq h) (sym (head_eq-true h k f)) ∙ head_laws.laws-law.refl h)))
    by_cases false e false f = refl
