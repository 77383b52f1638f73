-- What is found one behind the other, and what stops it.
use Rattle.std.proofs.Common.{◌≡◌, List, [], ◌∷◌, map, Result, Ok, Err, IfErr, IsErrAnd, refl, sym, ap, ◌∙◌, subst}
use Rattle.std.proofs.lemmas.List.{append_assoc, append-nil}
use Rattle.spv_term.specs.Arena.{Arena, tree}
use Rattle.spv_rules.specs.declared.matching.faults.MatchFault.{MatchFault}
use Rattle.spv_rules.specs.declared.matching.faults.MatchFault.TheVariants as fault
use Rattle.spv_rules.specs.matching.Matches.{Wide, after, behind, each}
use Rattle.spv_rules.specs.matching.Views.{IsMatchFault}

-- ---- one behind the other

module _ {A : Type 0} where
  pub behind-start : (r : Result (List A) Wide) → behind (Ok []) r ≡ r
  behind-start (Ok xs) = refl
  behind-start (Err w) = refl

  pub behind-end : (xs : List A) → behind (Ok xs) (Ok []) ≡ Ok xs
  behind-end xs = ap (λ (ys : List A). Ok ys) (append-nil xs)

  pub behind-behind : (r s t : Result (List A) Wide) → behind (behind r s) t ≡ behind r (behind s t)
  behind-behind (Err w) s t = refl
  behind-behind (Ok xs) (Err w) t = refl
  behind-behind (Ok xs) (Ok ys) (Err w) = refl
  behind-behind (Ok xs) (Ok ys) (Ok zs) = ap (λ (us : List A). Ok us) (append_assoc xs ys zs)

  -- what is found for one more item comes behind what was found before it
  pub one_more : {X : Type 0} (f : X → Result (List A) Wide) (x : X) (rest : List X) (xs ys : List A) → behind (Ok xs) (f x) ≡ Ok ys → behind (Ok xs) (each f (x ∷ rest)) ≡ behind (Ok ys) (each f rest)
  one_more f x rest xs ys e = sym (behind-behind (Ok xs) (f x) (each f rest)) ∙ ap (λ r. behind r (each f rest)) e

pub each-map : {X Y A : Type 0} (f : Y → Result (List A) Wide) (g : X → Y) (xs : List X) → each f (map g xs) ≡ each (λ x. f (g x)) xs
each-map f g [] = refl
each-map f g (x ∷ xs) = ap (behind (f (g x))) (each-map f g xs)

-- ---- faults

-- what stops one outcome stops another one that has the same error
pub stops_too : {A B : Type 0} (a : Arena) (r : Result A Wide) (s : Result B Wide) → ((w : Wide) → r ≡ Err w → s ≡ Err w) → (e : MatchFault) → IsMatchFault a r e → IsMatchFault a s e
stops_too a r s f (fault.Wide t w) h = (f (tree a t, w) h.0, h.1)
stops_too a r s f fault.Memory h = tt

pub err_after : {A B : Type 0} (r : Result A Wide) (go : A → Result B Wide) (w : Wide) → r ≡ Err w → after r go ≡ Err w
err_after r go w e = ap (λ q. after q go) e

pub err_behind : {A : Type 0} (xs : List A) (r : Result (List A) Wide) (w : Wide) → r ≡ Err w → behind (Ok xs) r ≡ Err w
err_behind xs r w e = ap (behind (Ok xs)) e

pub err_in_front : {A : Type 0} (r s : Result (List A) Wide) (w : Wide) → r ≡ Err w → behind r s ≡ Err w
err_in_front r s w e = ap (λ q. behind q s) e

-- what is behind something that was found is what stops
pub behind_err : {A : Type 0} (xs : List A) (r : Result (List A) Wide) (w : Wide) → behind (Ok xs) r ≡ Err w → r ≡ Err w
behind_err xs (Ok ys) w e = cc
behind_err xs (Err v) w e = e

-- the fault that a call hands on
pub if_fault : {T : Type 0} (r : Result T MatchFault) (e : MatchFault) (P : MatchFault → Type 0) → IsErrAnd r (λ f. f ≡ e) → P e → IfErr r P
if_fault (Ok x) e P h p = tt
if_fault (Err f) e P h p = subst P (sym h) p
