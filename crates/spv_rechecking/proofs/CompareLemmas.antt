-- Terms of an arena that are compared by their ids.
use Rattle.std.proofs.Common.{◌≡◌, suc, ◌<◌, Bool, true, false, ◌&&◌, List, [], ◌∷◌, map, length, refl, sym, ap, ◌∙◌, nat_eq}
use Rattle.std.proofs.lemmas.Bool.{false≢true, eqb-true, eq-eqb}
use Rattle.spv_logic.specs.declared.conditions.TermId.{TermId}
use Rattle.spv_logic.specs.Terms.{term_eq}
use Rattle.spv_logic.proofs.Equality.{term_eq-true, term_eq-refl}
use Rattle.spv_term.specs.Arena.{Arena, IsArena, tree}
use Rattle.spv_term.proofs.ArenaLemmas.{same_id}
use Rattle.spv_rechecking.specs.Rechecked.{terms_eq}

pub ids_decide : (a : Arena) → IsArena a → (s t : TermId) → s.0 < length a.nodes → t.0 < length a.nodes → nat_eq s.0 t.0 ≡ term_eq (tree a s) (tree a t)
ids_decide a ok s t hs ht = by (nat_eq s.0 t.0) refl (term_eq (tree a s) (tree a t)) refl
  where
    equal : nat_eq s.0 t.0 ≡ true → s ≡ t
    equal e = ap (λ n. record { 0 = n }) (eqb-true s.0 t.0 e)

    by : (b : Bool) → nat_eq s.0 t.0 ≡ b → (c : Bool) → term_eq (tree a s) (tree a t) ≡ c → b ≡ c
    by true e true f = refl
    by true e false f = absurd (false≢true (sym f ∙ (ap (term_eq (tree a s)) (ap (tree a) (sym (equal e))) ∙ term_eq-refl (tree a s))))
    by false e true f = absurd (false≢true (sym e ∙ eq-eqb s.0 t.0 (ap (λ (u : TermId). u.0) (same_id a ok (tree a t) s t hs ht (term_eq-true (tree a s) (tree a t) f) refl))))
    by false e false f = refl

pub lengths_differ : (a : Arena) (ss ts : List TermId) → (length ss ≡ length ts → ⊥) → false ≡ terms_eq (map (tree a) ss) (map (tree a) ts)
lengths_differ a [] [] h = absurd (h refl)
lengths_differ a [] (t ∷ ts) h = refl
lengths_differ a (s ∷ ss) [] h = refl
lengths_differ a (s ∷ ss) (t ∷ ts) h = by_case (term_eq (tree a s) (tree a t)) (lengths_differ a ss ts (λ e. h (ap suc e)))
  where
    by_case : (b : Bool) → false ≡ terms_eq (map (tree a) ss) (map (tree a) ts) → false ≡ (b && terms_eq (map (tree a) ss) (map (tree a) ts))
    by_case true e = e
    by_case false e = refl
