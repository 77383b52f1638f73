use Rattle.spv_logic.proofs.Equality.{value_eq-true, value_eq-refl, term_eq-true, term_eq-refl}
use Rattle.spv_logic.proofs.laws.law_same.Goals as goal

pub returns-clause-values : goal.returns-clause-values
returns-clause-values c v w =
    (λ h. value_eq-true v w h, λ e. rw (← e) (value_eq-refl v))

pub returns-clause-terms : goal.returns-clause-terms
returns-clause-terms c t u =
    (λ h. term_eq-true t u h, λ e. rw (← e) (term_eq-refl t))
