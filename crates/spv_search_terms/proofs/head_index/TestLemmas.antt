-- The program's tests of sorts and heads are sameness; tests of terms by their ids.
use Rattle.std.proofs.Common.{◌≡◌, ℕ, suc, ◌+◌, ◌<◌, Bool, true, false, ◌&&◌, ◌||◌, List, [], ◌∷◌, drop, length, slice_get, get_or, refl, sym, ap, ◌∙◌, subst, nat_eq, inl, inr, Some, arith}
use mathlib.Core.Path.{ap₂}
use Rattle.std.proofs.lemmas.Bool.{false≢true, eqb-true}
use Rattle.std.proofs.lemmas.List.{drop_more}
use denote.Struct.Field.{Field}
use denote.Struct.Values.{Values}
use denote.Enum.Declared.{Choice, intoss}
use denote.Enum.Compared.{Each, by}
use Rattle.spv_logic.specs.declared.conditions.TermId.{TermId}
use Rattle.spv_logic.specs.declared.types.TypeId.{TypeId}
use Rattle.spv_logic.specs.declared.types.Sort.{Sort}
use Rattle.spv_logic.specs.declared.types.Sort.TheVariants as sort
use Rattle.spv_logic.specs.contracts.types.Sort as sort_type
use Rattle.spv_logic.specs.contracts.types.SortPartialEq.TheImpl as of_sorts
use Rattle.spv_logic.specs.contracts.types.SortEq.TheImpl.Laws as sort_laws
use Rattle.spv_logic.specs.Terms.{Term, head_eq, sort_eq}
use Rattle.spv_logic.specs.Sorts.{sorts_eq, term_sorts}
use Rattle.spv_logic.proofs.Equality.{sort_eq-true, sort_eq-refl}
use Rattle.spv_term.specs.declared.nodes.Node.{Node}
use Rattle.spv_term.specs.Arena.{Arena, IsArena, AllBelow, tree, trees, sort_at, sorts_at}
use Rattle.spv_term.proofs.ArenaLemmas.{tree-node, args_in_range, IsWellSorted-arena, term_sorts-trees}
use Rattle.spv_atoms.specs.Atoms.{has_sort, is_number}
use Rattle.spv_models.specs.leaf_models.Subterms.{is_listed}
use Rattle.spv_models.specs.leaf_models.Atoms.{same_sorts, are_comparable}

-- for each variant, fields that the test finds equal are the same
abbrev AllSound : (Fss : List (List Field)) → Each Bool Fss → Type 0
AllSound [] each = Unit {0}
AllSound (Fs ∷ Fss) each = ((x y : Values Fs) → each.0 x y ≡ true → x ≡ y) × AllSound Fss each.1

-- then so are choices of a variant with its fields
same_choice : (Fss : List (List Field)) (each : Each Bool Fss) → AllSound Fss each → (c d : Choice Fss) → by false false Fss each c d ≡ true → c ≡ d
same_choice [] each sound c d h = absurd c
same_choice (Fs ∷ Fss) each sound (inl x) (inl y) h = ap inl (sound.0 x y h)
same_choice (Fs ∷ Fss) each sound (inl x) (inr d) h = absurd (false≢true h)
same_choice (Fs ∷ Fss) each sound (inr c) (inl y) h = absurd (false≢true h)
same_choice (Fs ∷ Fss) each sound (inr c) (inr d) h = ap inr (same_choice Fss each.1 sound.1 c d h)

type_same : (t u : TypeId) → nat_eq t.0 u.0 ≡ true → t ≡ u
type_same t u h = ap (λ n. record { 0 = n }) (eqb-true t.0 u.0 h)

sort_same : (s t : Sort) → of_sorts.ghosts.eq s t ≡ true → s ≡ t
sort_same s t h =
    sort_type.the_type.to_one s t (ap (intoss sort_type.the_type.parts)
    (same_choice sort_type.the_type.parts
    (_, (_, (_, (_, (_, (_, tt)))))) (
      (λ x y e. refl),
      (
        (λ x y e. refl),
        (
          (λ x y e. refl),
          ((λ x y e i. (type_same x.0 y.0 e i, tt)), ((λ x y e i. (type_same x.0 y.0 e i, tt)), ((λ x y e i. (type_same x.0 y.0 e i, tt)), tt))),
        ),
      ),
    )
    (sort_type.as_values s) (sort_type.as_values t) h))

-- it is the definition's test
pub sort_test : (s t : Sort) → of_sorts.ghosts.eq s t ≡ sort_eq s t
sort_test s t = by_cases (of_sorts.ghosts.eq s t) refl (sort_eq s t) refl
  where
    by_cases : (b : Bool) → of_sorts.ghosts.eq s t ≡ b → (c : Bool) → sort_eq s t ≡ c → b ≡ c
    by_cases true e true f = refl
    by_cases true e false f = absurd (false≢true (sym f ∙ (ap (sort_eq s) (sym (sort_same s t e)) ∙ sort_eq-refl s)))
    by_cases false e true f = absurd (false≢true (sym e ∙ (ap (of_sorts.ghosts.eq s) (sym (sort_eq-true s t f)) ∙ sort_laws.laws-law.refl s)))
    by_cases false e false f = refl

-- ---- sorts of terms

pub int-other : (s : Sort) → (s ≡ sort.Int → ⊥) → false ≡ sort_eq s sort.Int
int-other sort.Int e = absurd (e refl)
int-other _ e = refl

pub number-at : (a : Arena) → IsArena a → (t : TermId) → t.0 < length a.nodes → is_number a.shapes a.decls (tree a t) ≡ sort_eq (sort_at a t) sort.Int
number-at a ok t h = ap (has_sort sort.Int) (IsWellSorted-arena a ok t h)

-- lists of different lengths
pub lengths_differ : (ss ts : List Sort) → (length ss ≡ length ts → ⊥) → false ≡ sorts_eq ss ts
lengths_differ [] [] h = absurd (h refl)
lengths_differ [] (t ∷ ts) h = refl
lengths_differ (s ∷ ss) [] h = refl
lengths_differ (s ∷ ss) (t ∷ ts) h = by_case (sort_eq s t) (lengths_differ ss ts (λ e. h (ap suc e)))
  where
    by_case : (b : Bool) → false ≡ sorts_eq ss ts → false ≡ (b && sorts_eq ss ts)
    by_case true e = e
    by_case false e = refl

pub length-sorts : (a : Arena) (ts : List TermId) → length (sorts_at a ts) ≡ length ts
length-sorts a [] = refl
length-sorts a (t ∷ ts) = ap suc (length-sorts a ts)

module _ (a : Arena) (left right : List TermId) (i : ℕ) (d e : TermId) (below : i < length left) (same : length left ≡ length right) where
  abbrev rest : ℕ → Bool
  rest k = sorts_eq (sorts_at a (drop k left)) (sorts_at a (drop k right))

  sorts_here : rest i ≡ (sort_eq (sort_at a (get_or left i d)) (sort_at a (get_or right i e)) && rest (i + 1))
  sorts_here = ap₂ (λ ss ts. sorts_eq (sorts_at a ss) (sorts_at a ts)) (drop_more left i d below) (drop_more right i e (omega (arith, below, same)))

  module _ (b : Bool) (is : b ≡ sort_eq (sort_at a (get_or left i d)) (sort_at a (get_or right i e))) (all : Bool) (goal : rest i ≡ all) where
    pub sorts_differ : b ≡ false → false ≡ all
    sorts_differ f = sym (ap (λ c. c && rest (i + 1)) (sym is ∙ f)) ∙ (sym sorts_here ∙ goal)

    pub sorts_agree : b ≡ true → rest (i + 1) ≡ all
    sorts_agree f = sym (ap (λ c. c && rest (i + 1)) (sym is ∙ f)) ∙ (sym sorts_here ∙ goal)

pub below_drop : (n : ℕ) (ts : List TermId) (i : ℕ) (d : TermId) → i < length ts → AllBelow n (drop i ts) → (get_or ts i d).0 < n
below_drop n ts i d h g = (subst (AllBelow n) (drop_more ts i d h) g).0

-- ---- two applications

module _ (a : Arena) (ok : IsArena a) (s t : TermId) (m n : Node) (at_s : slice_get a.nodes s.0 ≡ Some m) (at_t : slice_get a.nodes t.0 ≡ Some n) where
  pub comparable_is : (left right : List TermId) → left ≡ m.args → right ≡ n.args → (b c e l k : Bool) → b ≡ head_eq m.head n.head → c ≡ sorts_eq (sorts_at a left) (sorts_at a right) → l ≡ is_listed (tree a s) → k ≡ is_listed (tree a t) → e ≡ (l || k)
      → (b && (c && e)) ≡ are_comparable a.shapes a.decls (tree a s) (tree a t)
  comparable_is left right f g b c e l k is_head is_sorts is_l is_k is_e =
      (λ i. is_head i && (sorts_are i && (is_e ∙ ap₂ ◌||◌ (is_l ∙ ap is_listed (tree-node a ok s m at_s)) (is_k ∙ ap is_listed (tree-node a ok t n at_t))) i))
      ∙ ap₂ over (sym (tree-node a ok s m at_s)) (sym (tree-node a ok t n at_t))
    where
      over : Term → Term → Bool
      over x y = are_comparable a.shapes a.decls x y

      sorts_are : c ≡ same_sorts (term_sorts a.shapes a.decls (trees a m.args)) (term_sorts a.shapes a.decls (trees a n.args))
      sorts_are =
          is_sorts
          ∙ ((λ j. sorts_eq (sorts_at a (f j)) (sorts_at a (g j)))
          ∙ sym (ap₂ same_sorts (term_sorts-trees a ok (trees a m.args) m.args (args_in_range a ok s m at_s) refl) (term_sorts-trees a ok (trees a n.args) n.args (args_in_range a ok t n at_t) refl)))
