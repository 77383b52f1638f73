-- What a call on the arena makes where it answers one term.
use Rattle.std.specs.Prelude.{◌≡◌, List, [], ◌∷◌, map, length, Result, Err, Some, IfOk}
use Rattle.spv_logic.specs.declared.conditions.TermId.{TermId}
use Rattle.spv_logic.specs.Terms.{Term}
use Rattle.spv_logic.specs.Sorts.{term_sort}
use Rattle.spv_term.specs.declared.nodes.TermFault.{TermFault}
use Rattle.spv_term.specs.declared.nodes.TermFault.TheVariants.{Size}
use Rattle.spv_term.specs.Arena.{Arena, AllBelow, Extends, tree, sort_at}
use Rattle.spv_term.specs.substitution.Parts.{AddsParts, LacksPart}
use Rattle.spv_assign.specs.limited_steps.Makes.{IsTerm}

-- ids stand for these terms, in order
pub record AreTerms (a : Arena) (ts : List TermId) (xs : List Term) : Type 0 where
  pub there : AllBelow (length a.nodes) ts
  pub trees : map (tree a) ts ≡ xs

-- it answers this term with its sort; whatever it answers, old ids stay, and nothing but parts of the term is added; and `Size`
-- comes only where the arena is full and a part of the term is not there
pub record GivesTerm (r : Result TermId TermFault) (x : Term) (old new : Arena) : Type 0 where
  pub grows : Extends old new
  pub term : IfOk r (λ t. IsTerm new t x)
  pub sort : IfOk r (λ t. term_sort old.shapes old.decls x ≡ Some (sort_at new t))
  pub only : AddsParts old new (x ∷ [])
  pub size : r ≡ Err Size → LacksPart new (x ∷ [])

-- the same of several terms on the way to another
pub record GivesTerms {X : Type 0} (r : Result X TermFault) (ids : X → List TermId) (xs : List Term) (goal : Term) (old new : Arena) : Type 0 where
  pub grows : Extends old new
  pub terms : IfOk r (λ x. AreTerms new (ids x) xs)
  pub only : AddsParts old new (goal ∷ [])
  pub size : r ≡ Err Size → LacksPart new (goal ∷ [])
