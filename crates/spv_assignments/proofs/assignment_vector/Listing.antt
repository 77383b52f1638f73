-- Lists of values, one term more.
use Rattle.std.proofs.Common.{◌≡◌, ℕ, ◌+◌, Bool, List, [], ◌∷◌, ◌++◌, length, refl, sym, ap, subst, ◌∙◌, Option, arith}
use Rattle.std.proofs.lemmas.List.{length_push}
use Rattle.spv_logic.specs.declared.conditions.TermId.{TermId}
use Rattle.spv_logic.specs.Terms.{Term}
use Rattle.spv_term.specs.Arena.{Arena, tree}
use Rattle.spv_assignments.proofs.kleene.Listing.{valued_next}
use Rattle.spv_assignments.specs.assignment_vector.Values.{IsFor, ListedFor}

module _ (a : Arena) (Holds : List Term → Type 0) (value : List Term → Term → Option Bool) where
  pub listed_none : ListedFor a Holds value 0 []
  listed_none = record { count = refl; each = λ facts holds t h. absurd (omega (arith, h)) }

  pub listed_next : (n : ℕ) (values new : List (Option Bool)) (t : TermId) (o : Option Bool) → ListedFor a Holds value n values → t.0 ≡ n → IsFor a Holds value t o → new ≡ values ++ o ∷ [] → ListedFor a Holds value (n + 1) new
  listed_next n values new t o listed here is e = record {
    count = ap length e ∙ (length_push values o ∙ (let h : length values ≡ n = listed.count in omega (arith, h)));
    each = λ facts holds.
        (valued_next n (λ (u : TermId). value facts (tree a u)) values new t o (record { count = listed.count; each = listed.each facts holds }) here (is.is facts holds) e).each;
  }

  pub listed_slice : (n : ℕ) (values slice : List (Option Bool)) → slice ≡ values → ListedFor a Holds value n values → ListedFor a Holds value n slice
  listed_slice n values slice e listed = subst (λ (xs : List (Option Bool)). ListedFor a Holds value n xs) (sym e) listed
