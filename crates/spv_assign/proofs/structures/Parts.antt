-- Parts of terms, and terms on the way to another.
use Rattle.std.proofs.Common.{◌≡◌, ◌<◌, ◌≤◌, true, List, [], ◌∷◌, length, Option, Some, None, Result, Ok, Err, IsErrAnd, IfOk, IsSome, refl, sym, ap, ◌∙◌, subst, inl, inr, arith}
use Rattle.std.proofs.lemmas.Bool.{false≢true, or_left, cases_lt}
use Rattle.spv_logic.specs.declared.conditions.TermId.{TermId}
use Rattle.spv_logic.specs.declared.types.Sort.{Sort}
use Rattle.spv_logic.specs.declared.types.Shape.{Shape}
use Rattle.spv_logic.specs.declared.types.Decl.{Decl}
use Rattle.spv_logic.specs.Terms.{Term, Terms, term, no_terms, terms, term_eq}
use Rattle.spv_logic.specs.Sorts.{result_sort, with_sorts, sort_before, term_sort, term_sorts}
use Rattle.spv_logic.proofs.Equality.{term_eq-true}
use Rattle.spv_term.specs.declared.nodes.TermFault.{TermFault}
use Rattle.spv_term.specs.declared.nodes.TermFault.TheVariants.{Size}
use Rattle.spv_term.specs.Arena.{Arena, IsArena, Extends, tree, sort_at}
use Rattle.spv_term.proofs.ArenaLemmas.{Extends-refl, Extends-trans, tree-Extends, term_sort-tree}
use Rattle.spv_term.specs.substitution.Parts.{is_part, is_part_of_some, is_part_of, AddsParts, LacksPart}
use Rattle.spv_term.proofs.substitution.PartLemmas.{or_split, is_part-refl}
use Rattle.spv_assign.specs.structures.Making.{GivesTerm, GivesTerms}
use Rattle.spv_assign.proofs.creation_trace.Covering.{part_of_part}

-- ---- parts

-- the sorts fit in each part of a term in which they fit
module _ (shapes : List Shape) (decls : List Decl) (x : Term) where
  all_there : (o : Option (List Sort)) (go : List Sort → Option Sort) → IsSome (with_sorts o go) → IsSome o
  all_there None go h = absurd (false≢true h)
  all_there (Some sorts) go h = refl

  first_there : (o : Option Sort) (others : Option (List Sort)) → IsSome (sort_before o others) → IsSome o
  first_there None others h = absurd (false≢true h)
  first_there (Some s) others h = refl

  others_there : (o : Option Sort) (others : Option (List Sort)) → IsSome (sort_before o others) → IsSome others
  others_there None others h = absurd (false≢true h)
  others_there (Some s) None h = absurd (false≢true h)
  others_there (Some s) (Some sorts) h = refl

  mutual
    sorted_in : (r : Term) → is_part x r ≡ true → IsSome (term_sort shapes decls r) → IsSome (term_sort shapes decls x)
    sorted_in (term h ts) e sorted =
        or_split (term_eq x (term h ts)) (is_part_of_some x ts) e
        (λ same. subst (λ y. IsSome (term_sort shapes decls y)) (sym (term_eq-true x (term h ts) same)) sorted)
        (λ inside. sorted_among ts inside (all_there (term_sorts shapes decls ts) (result_sort shapes decls h) sorted))

    sorted_among : (ts : Terms) → is_part_of_some x ts ≡ true → IsSome (term_sorts shapes decls ts) → IsSome (term_sort shapes decls x)
    sorted_among no_terms e sorted = absurd (false≢true e)
    sorted_among (terms t ts) e sorted =
        or_split (is_part x t) (is_part_of_some x ts) e
        (λ here. sorted_in t here (first_there (term_sort shapes decls t) (term_sorts shapes decls ts) sorted))
        (λ behind. sorted_among ts behind (others_there (term_sort shapes decls t) (term_sorts shapes decls ts) sorted))

pub part_sorted : (shapes : List Shape) (decls : List Decl) (x r : Term) → is_part x r ≡ true → IsSome (term_sort shapes decls r) → IsSome (term_sort shapes decls x)
part_sorted shapes decls x r e sorted = sorted_in shapes decls x r e sorted

one_part : (x goal : Term) → is_part x goal ≡ true → is_part_of (goal ∷ []) x ≡ true
one_part x goal h = or_left (is_part x goal) (is_part_of [] x) h

part_of_one : (x goal : Term) → is_part_of (goal ∷ []) x ≡ true → is_part x goal ≡ true
part_of_one x goal h = or_split (is_part x goal) (is_part_of [] x) h (λ e. e) (λ e. absurd (false≢true e))

-- ---- on the way to a term

-- an arena that has grown by parts of a term
pub record Toward (old a : Arena) (goal : Term) : Type 0 where
  pub grows : Extends old a
  pub only : AddsParts old a (goal ∷ [])

pub toward_begins : (a : Arena) (goal : Term) → Toward a a goal
toward_begins a goal = record { grows = Extends-refl a; only = record { part = λ u low high. absurd (omega (arith, low, high)) } }

module _ (old a b : Arena) (goal x : Term) (inside : is_part x goal ≡ true) where
  pub lacks_in : LacksPart b (x ∷ []) → LacksPart b (goal ∷ [])
  lacks_in h = record {
    missing = h.missing;
    part = one_part h.missing goal (part_of_part h.missing x goal (part_of_one h.missing x h.part) inside);
    lacks = h.lacks;
  }

  -- whatever a call answers that makes a part of the term
  pub toward_more : Toward old a goal → (r : Result TermId TermFault) → GivesTerm r x a b → Toward old b goal
  toward_more known r m = record { grows = Extends-trans known.grows m.grows; only = record { part = added } }
    where
      added : (u : TermId) → length old.nodes ≤ u.0 → u.0 < length b.nodes → is_part_of (goal ∷ []) (tree b u) ≡ true
      added u low high = elim (cases_lt u.0 (length a.nodes)) [
        | inl below ↦ ap (is_part_of (goal ∷ [])) (tree-Extends m.grows u below) ∙ known.only.part u low below
        | inr above ↦ one_part (tree b u) goal (part_of_part (tree b u) x goal (part_of_one (tree b u) x (m.only.part u above high)) inside)
      ]

-- what was added of a part was added of the whole
pub toward_within : (old b : Arena) (goal x : Term) → is_part x goal ≡ true → Extends old b → AddsParts old b (x ∷ []) → Toward old b goal
toward_within old b goal x inside grows only = record {
  grows = grows;
  only = record { part = λ u low high. one_part (tree b u) goal (part_of_part (tree b u) x goal (part_of_one (tree b u) x (only.part u low high)) inside) };
}

-- ---- exits

-- what is well sorted stays so
pub sorted_stays : {a b : Arena} → Extends a b → (x : Term) → IsSome (term_sort a.shapes a.decls x) → IsSome (term_sort b.shapes b.decls x)
sorted_stays {a} {b} grows x h =
    subst (λ ss. IsSome (term_sort ss b.decls x)) (sym grows.shapes) (subst (λ ds. IsSome (term_sort a.shapes ds x)) (sym grows.decls) h)

sorts_same : {a b : Arena} → Extends a b → (x : Term) → term_sort a.shapes a.decls x ≡ term_sort b.shapes b.decls x
sorts_same grows x = let shapes = grows.shapes in let decls = grows.decls in sym (λ i. term_sort (shapes i) (decls i) x)

module _ (old a : Arena) (goal : Term) where
  -- it was made
  pub done : IsArena a → Toward old a goal → (t : TermId) → t.0 < length a.nodes → tree a t ≡ goal → GivesTerm (Ok t) goal old a
  done ok known t there is = record {
    grows = known.grows;
    term = record { there = there; is_tree = is };
    sort = sorts_same known.grows goal ∙ term_sort-tree a ok goal t there is;
    only = known.only;
    size = λ e. cc;
  }

  -- a call before its end stopped
  pub stopped : (r : Result TermId TermFault) (e : TermFault) → IsErrAnd r (λ f. f ≡ e) → Toward old a goal → (e ≡ Size → LacksPart a (goal ∷ [])) → GivesTerm r goal old a
  stopped (Ok t) e told known lacks = absurd told
  stopped (Err f) e told known lacks = record {
    grows = known.grows;
    term = tt;
    sort = tt;
    only = known.only;
    size = λ is. let same : f ≡ Size = cc in lacks (sym told ∙ same);
  }

  pub all_stopped : {X : Type 0} (r : Result X TermFault) (ids : X → List TermId) (xs : List Term) (e : TermFault) → IsErrAnd r (λ f. f ≡ e) → Toward old a goal
      → (e ≡ Size → LacksPart a (goal ∷ [])) → GivesTerms r ids xs goal old a
  all_stopped (Ok t) ids xs e told known lacks = absurd told
  all_stopped (Err f) ids xs e told known lacks = record {
    grows = known.grows;
    terms = tt;
    only = known.only;
    size = λ is. let same : f ≡ Size = cc in lacks (sym told ∙ same);
  }

-- a part of it could not be made
pub part_stopped : (old a b : Arena) (goal x : Term) → is_part x goal ≡ true → Toward old a goal → (r : Result TermId TermFault) (e : TermFault) → IsErrAnd r (λ f. f ≡ e)
    → GivesTerm (Err e) x a b → GivesTerm r goal old b
part_stopped old a b goal x inside known r e told m =
    stopped old b goal r e told (toward_more old a b goal x inside known (Err e) m) (λ is. lacks_in old a b goal x inside (m.size (ap Err is)))

-- the last call made it, behind what made parts of it
pub behind : (old b c : Arena) (goal x : Term) → x ≡ goal → Toward old b goal → (r : Result TermId TermFault) → GivesTerm r x b c → GivesTerm r goal old c
behind old b c goal x same known r m = subst (λ g. Toward old b g → GivesTerm r g old c) same by known
  where
    by : Toward old b x → GivesTerm r x old c
    by known = record {
      grows = Extends-trans known.grows m.grows;
      term = m.term;
      sort = if_sorted r m.sort;
      only = (toward_more old b c x x (is_part-refl x) known r m).only;
      size = m.size;
    }
      where
        if_sorted : (r : Result TermId TermFault) → IfOk r (λ t. term_sort b.shapes b.decls x ≡ Some (sort_at c t)) → IfOk r (λ t. term_sort old.shapes old.decls x ≡ Some (sort_at c t))
        if_sorted (Ok t) h = sorts_same known.grows x ∙ h
        if_sorted (Err e) h = tt
