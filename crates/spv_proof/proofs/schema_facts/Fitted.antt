-- What is said of terms that have a kind's shape and sorts that fit it.
use Rattle.std.proofs.Common.{◌≡◌, ◌<◌, Bool, true, false, List, [], ◌∷◌, length, refl, sym, ap, ◌∙◌, subst, Option, Some, None, IfSome, if◌then◌else◌}
use Rattle.std.specs.Option.{option_map}
use Rattle.spv_logic.specs.declared.conditions.TermId.{TermId}
use Rattle.spv_logic.specs.declared.types.TypeId.{TypeId}
use Rattle.spv_logic.specs.declared.types.Sort.{Sort}
use Rattle.spv_logic.specs.declared.types.Sort.TheVariants as sort
use Rattle.spv_logic.specs.declared.operators.Head.{Head}
use Rattle.spv_logic.specs.declared.operators.Head.TheVariants as head
use Rattle.spv_logic.specs.Terms.{Term, term, no_terms, terms, sort_eq}
use Rattle.spv_logic.specs.Fits.{on_sort}
use Rattle.spv_logic.specs.Shapes.{pointer_sort, sort_of_type}
use Rattle.spv_logic.specs.Sorts.{first_sort, class_change, result_sort, with_sorts, sort_before, term_sort}
use Rattle.spv_schemas.specs.Facts.{three, about_store, about_set_cell, about_extend}
use Rattle.spv_schemas.specs.SortsThatFit.{two_fit, first_fits}
use Rattle.spv_term.specs.Arena.{Arena, IsArena, sort_at, tree}
use Rattle.spv_term.proofs.ArenaLemmas.{term_sort-tree}
use Rattle.spv_term.proofs.SortLemmas.{takes-result}
use Rattle.spv_proof.specs.declared.schema_facts.facts.Change.{Change}
use Rattle.spv_proof.specs.declared.schema_facts.facts.SchemaFact.{SchemaFact}
use Rattle.spv_proof.specs.schema_facts.Facts.{said, FactIn, Says, IsSaid}
use Rattle.spv_proof.specs.schema_facts.Shapes.{IsChange, IsFitting, pointer_fits}

abbrev pub Make : Type 0
Make = Term → Term → Term → Term → Term

abbrev pub About : Type 0
About = Make → List Term → Option Term

-- what is said of terms of one shape, and of no others
pub record IsAbout (h : Head) (about : About) : Type 0 where
  pub there : (make : Make) (x y z w : Term) → about make (three h x y z ∷ w ∷ []) ≡ Some (make x y z w)
  pub missing : (make : Make) (us : List Term) → ((x y z w : Term) → us ≡ three h x y z ∷ w ∷ [] → ⊥) → about make us ≡ None

store_missing : (make : Make) (us : List Term) → ((x y z w : Term) → us ≡ three head.Store x y z ∷ w ∷ [] → ⊥) → about_store make us ≡ None
store_missing make (term head.Store (terms x (terms y (terms z no_terms))) ∷ w ∷ []) n = absurd (n x y z w refl)
store_missing make us n = refl

set_cell_missing : (make : Make) (us : List Term) → ((x y z w : Term) → us ≡ three head.SetCell x y z ∷ w ∷ [] → ⊥) → about_set_cell make us ≡ None
set_cell_missing make (term head.SetCell (terms x (terms y (terms z no_terms))) ∷ w ∷ []) n = absurd (n x y z w refl)
set_cell_missing make us n = refl

extend_missing : (make : Make) (us : List Term) → ((x y z w : Term) → us ≡ three head.Extend x y z ∷ w ∷ [] → ⊥) → about_extend make us ≡ None
extend_missing make (term head.Extend (terms x (terms y (terms z no_terms))) ∷ w ∷ []) n = absurd (n x y z w refl)
extend_missing make us n = refl

pub store_is : IsAbout head.Store about_store
store_is = record { there = λ make x y z w. refl; missing = store_missing }

pub set_cell_is : IsAbout head.SetCell about_set_cell
set_cell_is = record { there = λ make x y z w. refl; missing = set_cell_missing }

pub extend_is : IsAbout head.Extend about_extend
extend_is = record { there = λ make x y z w. refl; missing = extend_missing }

-- ---- choices

pub choose_none : {X : Type 0} (b : Bool) (o : Option X) → o ≡ None → (if b then o else None) ≡ None
choose_none true o e = e
choose_none false o e = refl

-- ---- sorts

module _ (a : Arena) (ok : IsArena a) where
  abbrev sorts : Term → Option Sort
  sorts = term_sort a.shapes a.decls

  pub sort_there : (t : TermId) → t.0 < length a.nodes → sorts (tree a t) ≡ Some (sort_at a t)
  sort_there t h = term_sort-tree a ok (tree a t) t h refl

  pub first_passes : (test : Sort → Bool) (t : TermId) (us : List Term) → t.0 < length a.nodes → first_fits sorts test (tree a t ∷ us) ≡ test (sort_at a t)
  first_passes test t us h = ap (λ o. on_sort o test) (sort_there t h)

  two_pass : (test : Sort → Sort → Bool) (t u : TermId) → t.0 < length a.nodes → u.0 < length a.nodes → two_fit sorts test (tree a t ∷ tree a u ∷ []) ≡ test (sort_at a t) (sort_at a u)
  two_pass test t u h k = (λ i. on_sort (sort_there t h i) (λ x. on_sort (sort_there u k i) (test x)))

  -- ---- changes

  module _ (h : Head) (about : About) (is_about : IsAbout h about) (test : Sort → Sort → Bool) (us : List Term) where
    pub not_fitting : ((x y z w : Term) → us ≡ three h x y z ∷ w ∷ [] → ⊥) → IsFitting a h about test us None
    not_fitting n = record { fact = λ make. choose_none (two_fit sorts test us) (about make us) (is_about.missing make us n); is = tt }

    module _ (c : Change) (change : IsChange a h c) (are : us ≡ tree a c.whole ∷ tree a c.other ∷ []) where
      told : (b : Bool) → test (sort_at a c.whole) (sort_at a c.other) ≡ b → (make : Make)
          → (if two_fit sorts test us then about make us else None) ≡ (if b then Some (make (tree a c.base) (tree a c.place) (tree a c.value) (tree a c.other)) else None)
      told b e make =
          let passes : two_fit sorts test us ≡ b = ap (two_fit sorts test) are ∙ (two_pass test c.whole c.other change.within.whole change.within.other ∙ e) in
          let says : about make us ≡ Some (make (tree a c.base) (tree a c.place) (tree a c.value) (tree a c.other)) =
          ap (about make) (are ∙ ap (λ w. w ∷ tree a c.other ∷ []) change.is) ∙ is_about.there make (tree a c.base) (tree a c.place) (tree a c.value) (tree a c.other) in
          (λ i. if passes i then says i else None)

      pub passing : test (sort_at a c.whole) (sort_at a c.other) ≡ true → IsFitting a h about test us (Some c)
      passing e = record { fact = told true e; is = change }

      pub failing : test (sort_at a c.whole) (sort_at a c.other) ≡ false → IsFitting a h about test us None
      failing e = record { fact = told false e; is = tt }

  -- a changed class is one
  pub class_told : (c : Sort) (given : List Sort) (s : Sort) → class_change a.shapes c given ≡ Some s → (t : TypeId) × (c ≡ sort.Class t) × (s ≡ sort.Class t)
  class_told (sort.Class t) given s h = (t, refl, sym (takes-result (sort.Class t ∷ sort.Ptr t ∷ sort_of_type a.shapes t ∷ []) given (sort.Class t) s h))
  class_told sort.Int given s h = absurd (cc)
  class_told sort.Bool given s h = absurd (cc)
  class_told sort.List given s h = absurd (cc)
  class_told (sort.Ptr t) given s h = absurd (cc)
  class_told (sort.Whole t) given s h = absurd (cc)

  pub class_changed : (h : Head) → ((given : List Sort) → result_sort a.shapes a.decls h given ≡ class_change a.shapes (first_sort given) given)
      → (c : Change) → IsChange a h c → (t : TypeId) × (sort_at a c.base ≡ sort.Class t) × (sort_at a c.whole ≡ sort.Class t)
  class_changed h changes c is =
      let base = sort_there c.base is.within.base in
      let place = sort_there c.place is.within.place in
      let value = sort_there c.value is.within.value in
      let given : List Sort = sort_at a c.base ∷ sort_at a c.place ∷ sort_at a c.value ∷ [] in
      let whole : term_sort a.shapes a.decls (three h (tree a c.base) (tree a c.place) (tree a c.value)) ≡ Some (sort_at a c.whole) =
      term_sort-tree a ok (three h (tree a c.base) (tree a c.place) (tree a c.value)) c.whole is.within.whole is.is in
      let computed : term_sort a.shapes a.decls (three h (tree a c.base) (tree a c.place) (tree a c.value)) ≡ result_sort a.shapes a.decls h given =
      (λ i. with_sorts (sort_before (base i) (sort_before (place i) (sort_before (value i) (Some [])))) (result_sort a.shapes a.decls h)) in
      class_told (sort_at a c.base) given (sort_at a c.whole) (sym (changes given) ∙ (sym computed ∙ whole))

  -- a test of a pointer of that class
  pub pointer_passes : (h : Head) → ((given : List Sort) → result_sort a.shapes a.decls h given ≡ class_change a.shapes (first_sort given) given)
      → (c : Change) → IsChange a h c → (b : Bool) → ((t : TypeId) → sort_at a c.whole ≡ sort.Class t → b ≡ sort_eq (sort.Ptr t) (sort_at a c.other))
      → pointer_fits (sort_at a c.whole) (sort_at a c.other) ≡ b
  pointer_passes h changes c is b tested =
      let k = class_changed h changes c is in
      ap (λ s. sort_eq (pointer_sort s) (sort_at a c.other)) k.2 ∙ sym (tested k.0 k.2)

-- ---- what is said by one shape's terms

pub said_by : {X : Type 0} (a : Arena) (say : X → SchemaFact) (o : Option X) (p : Option Term) → IfSome o (λ x. Says a p (say x)) → (o ≡ None → p ≡ None)
    → (r : Option SchemaFact) → r ≡ option_map say o → IsSaid a p r
said_by a say None p there missing r e = subst (IsSaid a p) (sym e) (missing refl)
said_by a say (Some x) p there missing r e = subst (IsSaid a p) (sym e) there

-- a change is, and what is said of it
pub changed_said : (a : Arena) (h : Head) (about : About) (test : Sort → Sort → Bool) (us : List Term) (o : Option Change) → IsFitting a h about test us o
    → (make : Make) (say : Change → SchemaFact)
    → ((c : Change) → IsChange a h c → (make (tree a c.base) (tree a c.place) (tree a c.value) (tree a c.other) ≡ said (tree a) (say c)) × FactIn a (say c))
    → (p : Option Term) → p ≡ (if two_fit (term_sort a.shapes a.decls) test us then about make us else None)
    → (r : Option SchemaFact) → r ≡ option_map say o → IsSaid a p r
changed_said a h about test us None fits make say each p e r f = subst (IsSaid a p) (sym f) (e ∙ fits.fact make)
changed_said a h about test us (Some c) fits make say each p e r f =
    let k = each c fits.is in
    subst (IsSaid a p) (sym f) (record { is = e ∙ (fits.fact make ∙ ap Some k.0); within = k.1 })
