-- Which used terms instances are about beside a first one.
use Rattle.std.proofs.Common.{◌≡◌, ℕ, zero, suc, ◌<◌, get_or, arith, Bool, true, false, ◌&&◌, ◌||◌, cond, List, [], ◌∷◌, map, filter, length, slice_get, refl, sym, ap, ◌∙◌, subst, nat_eq, Option, Some, None, is_some, ◌⊎◌, inl, inr}
use Rattle.std.specs.List.{list_any}
use Rattle.std.proofs.lemmas.Bool.{false≢true}
use Rattle.spv_logic.specs.declared.conditions.TermId.{TermId}
use Rattle.spv_logic.specs.declared.types.TypeId.{TypeId}
use Rattle.spv_logic.specs.declared.types.Sort.{Sort}
use Rattle.spv_logic.specs.declared.types.Sort.TheVariants as sort
use Rattle.spv_logic.specs.declared.types.Shape.{Shape}
use Rattle.spv_logic.specs.declared.types.Decl.{Decl}
use Rattle.spv_logic.specs.declared.operators.Head.{Head}
use Rattle.spv_logic.specs.declared.operators.Head.TheVariants as head
use Rattle.spv_logic.specs.Terms.{Term, Terms, term, head_eq, term_eq}
use Rattle.spv_logic.proofs.Equality.{head_eq-refl}
use Rattle.spv_logic.specs.Shapes.{element_sort}
use Rattle.spv_logic.specs.Sorts.{term_sort, result_sort, first_sort, with_sort, takes}
use Rattle.spv_schemas.specs.declared.kinds.SchemaKind.{SchemaKind}
use Rattle.spv_schemas.specs.declared.kinds.SchemaKind.TheVariants.{SelectStoreSame, SelectStoreOther, CellSetCellSame, CellSetCellOther, PointerToSetCell, CellExtendSame, CellExtendOther, PointerToExtend}
use Rattle.spv_schemas.specs.Facts.{one, two, about_store, about_set_cell, about_extend, of_shape, if_formula}
use Rattle.spv_schemas.specs.Instances.{indexes, points, is_taken_apart}
use Rattle.spv_term.specs.declared.nodes.Node.{Node}
use Rattle.spv_term.specs.Arena.{Arena, IsArena, AllBelow, sort_at, sorts_at, tree, trees}
use Rattle.spv_term.proofs.ArenaLemmas.{tree-node, sort-node, term_sort-tree}
use Rattle.spv_term.proofs.SortLemmas.{with_sort-takes}
use Rattle.spv_proof.specs.declared.schema_facts.groups.Link.{Link}
use Rattle.spv_proof.specs.declared.schema_facts.groups.Groups.{Groups}
use Rattle.spv_proof.specs.declared.schema_facts.relations.Relation.{Relation}
use Rattle.spv_proof.specs.declared.schema_facts.relations.Relation.TheVariants.{Indices, Pointers, Divisors, Quotients, Remainders, Lists}
use Rattle.spv_proof.specs.declared.schema_facts.uses.Subject.{Subject}
use Rattle.spv_proof.specs.declared.schema_facts.uses.Subject.TheVariants.{Any, Field, TakenApart, Array, Class, Division}
use Rattle.spv_proof.specs.schema_facts.Groups.{linked}
use Rattle.spv_proof.specs.schema_facts.Relations.{IsTable, IsKey, TellsAll, calls_for, takes_apart}
use Rattle.spv_proof.specs.schema_facts.Uses.{ArePartners, AllLinksIn, has_pair, is_partner, subject_of}
use Rattle.spv_proof.proofs.schema_facts.Fitted.{class_told}

-- ---- lists

chosen_in : (n : ℕ) (b : Bool) (t : TermId) (ts : List TermId) → t.0 < n → AllBelow n ts → AllBelow n (cond b (t ∷ ts) ts)
chosen_in n true t ts h k = (h, k)
chosen_in n false t ts h k = k

filter_in : (n : ℕ) (p : TermId → Bool) (ts : List TermId) → AllBelow n ts → AllBelow n (filter p ts)
filter_in n p [] h = tt
filter_in n p (t ∷ ts) h = chosen_in n (p t) t (filter p ts) h.0 (filter_in n p ts h.1)

none_pass : {X : Type 0} (p : X → Bool) → ((x : X) → p x ≡ false) → (xs : List X) → filter p xs ≡ []
none_pass p n [] = refl
none_pass p n (x ∷ xs) = (λ i. cond (n x i) (x ∷ filter p xs) (filter p xs)) ∙ none_pass p n xs

swapped : (b c d e : Bool) → ((b || c) || (d || e)) ≡ ((b || d) || (c || e))
swapped true c d e = refl
swapped false true true e = refl
swapped false true false e = refl
swapped false false d e = refl

any_or : {X : Type 0} (p q : X → Bool) (xs : List X) → list_any (λ x. p x || q x) xs ≡ (list_any p xs || list_any q xs)
any_or p q [] = refl
any_or p q (x ∷ xs) = ap (λ b. (p x || q x) || b) (any_or p q xs) ∙ swapped (p x) (q x) (list_any p xs) (list_any q xs)

both_same : (b : Bool) → (b && b) ≡ b
both_same true = refl
both_same false = refl

pub differs : (h k : Head) → head_eq h k ≡ false → h ≡ k → ⊥
differs h k f e = false≢true (sym f ∙ (ap (λ x. head_eq x k) e ∙ head_eq-refl k))

pub link_in : (a : Arena) (links : List Link) → AllLinksIn a links → (i : ℕ) (d : Link) → i < length links → (get_or links i d).member.0 < length a.nodes
link_in a [] h i d l = absurd (omega arith)
link_in a (x ∷ links) h zero d l = h.0
link_in a (x ∷ links) h (suc i) d l = link_in a links h.1 i d (omega arith)

-- ---- no fact

store_else : (make : Term → Term → Term → Term → Term) (h : Head) (xs : Terms) (t : Term) → (h ≡ head.Store → ⊥) → about_store make (term h xs ∷ t ∷ []) ≡ None
store_else make head.Store xs t n = absurd (n refl)
store_else make h xs t n = refl

set_cell_else : (make : Term → Term → Term → Term → Term) (h : Head) (xs : Terms) (t : Term) → (h ≡ head.SetCell → ⊥) → about_set_cell make (term h xs ∷ t ∷ []) ≡ None
set_cell_else make head.SetCell xs t n = absurd (n refl)
set_cell_else make h xs t n = refl

extend_else : (make : Term → Term → Term → Term → Term) (h : Head) (xs : Terms) (t : Term) → (h ≡ head.Extend → ⊥) → about_extend make (term h xs ∷ t ∷ []) ≡ None
extend_else make head.Extend xs t n = absurd (n refl)
extend_else make h xs t n = refl

unfit : (shapes : List Shape) (decls : List Decl) (kind : SchemaKind) (ts : List Term) → of_shape (term_sort shapes decls) kind ts None ≡ None → is_some (if_formula shapes decls (of_shape (term_sort shapes decls) kind ts None)) ≡ false
unfit shapes decls kind ts e = ap (λ o. is_some (if_formula shapes decls o)) e

-- ---- the sorts of what is changed

stored_sort : (shapes : List Shape) (r s : Sort) (given : List Sort) → with_sort (element_sort shapes r) (λ e. takes (r ∷ sort.Int ∷ e ∷ []) given r) ≡ Some s → (k : TypeId) × (s ≡ sort.Whole k)
stored_sort shapes (sort.Whole k) s given h = (k, sym (with_sort-takes (element_sort shapes (sort.Whole k)) (λ e. sort.Whole k ∷ sort.Int ∷ e ∷ []) given (sort.Whole k) s h))
stored_sort shapes sort.Int s given h = absurd (cc)
stored_sort shapes sort.Bool s given h = absurd (cc)
stored_sort shapes sort.List s given h = absurd (cc)
stored_sort shapes (sort.Ptr k) s given h = absurd (cc)
stored_sort shapes (sort.Class k) s given h = absurd (cc)

class_head : (kind : SchemaKind) (h : Head) → subject_of kind ≡ Class h → (h ≡ head.SetCell) ⊎ (h ≡ head.Extend)
class_head CellSetCellSame h e = inl (cc)
class_head CellSetCellOther h e = inl (cc)
class_head PointerToSetCell h e = inl (cc)
class_head CellExtendSame h e = inr (cc)
class_head CellExtendOther h e = inr (cc)
class_head PointerToExtend h e = inr (cc)
class_head kind h e = absurd (cc)

module _ (a : Arena) (ok : IsArena a) (used : List TermId) (ids : AllBelow (length a.nodes) used) where
  abbrev sorts : Term → Option Sort
  sorts = term_sort a.shapes a.decls

  rows_in : (relation : Relation) (groups : Groups) → IsTable a used relation groups → (q : ℕ) → IsKey a relation q → AllLinksIn a (linked groups q)
  rows_in relation groups table q k = subst (AllBelow (length a.nodes)) (sym (table q k)) (filter_in (length a.nodes) (λ t. list_any (calls_for a relation q (tree a t)) (map (tree a) used)) used ids)

  -- where there is no fact, there is no partner
  nobody : (subject : Subject) (s : TermId) → ((kind : SchemaKind) → subject_of kind ≡ subject → (t : TermId) → has_pair a kind s t ≡ false) → ArePartners a used subject s []
  nobody subject s n = record {
    within = tt;
    all = λ kind e. sym (none_pass (has_pair a kind s) (n kind e) (filter (λ t. is_partner sorts (map (tree a) used) subject (tree a s) (tree a t)) used));
  }

  module _ (s : TermId) (n : Node) (at : slice_get a.nodes s.0 ≡ Some n) (s_in : s.0 < length a.nodes) where
    no_store : (n.head ≡ head.Store → ⊥) → (kind : SchemaKind) → subject_of kind ≡ Array → (t : TermId) → has_pair a kind s t ≡ false
    no_store other SelectStoreSame e t = unfit a.shapes a.decls SelectStoreSame (tree a s ∷ tree a t ∷ []) (ap (λ x. of_shape sorts SelectStoreSame (x ∷ tree a t ∷ []) None) (tree-node a ok s n at) ∙ store_else _ n.head (trees a n.args) (tree a t) other)
    no_store other SelectStoreOther e t = unfit a.shapes a.decls SelectStoreOther (tree a s ∷ tree a t ∷ []) (ap (λ x. of_shape sorts SelectStoreOther (x ∷ tree a t ∷ []) None) (tree-node a ok s n at) ∙ store_else _ n.head (trees a n.args) (tree a t) other)
    no_store other kind e t = absurd (cc)

    pub array_else : (n.head ≡ head.Store → ⊥) → ArePartners a used Array s []
    array_else other = nobody Array s (no_store other)

    -- an array that is changed is one
    pub array_sort : n.head ≡ head.Store → (k : TypeId) × (sort_at a s ≡ sort.Whole k)
    array_sort e =
        let given : List Sort = sorts_at a n.args in
        stored_sort a.shapes (first_sort given) (sort_at a s) given (sym (ap (λ h. result_sort a.shapes a.decls h given) e) ∙ sort-node a ok s n at)

    pub array_partners : (indices : Groups) → IsTable a used Indices indices → (k : TypeId) → sort_at a s ≡ sort.Whole k → ArePartners a used Array s (linked indices k.0)
    array_partners indices table k e = record {
      within = rows_in Indices indices table k.0 tt;
      all = λ kind f. ap (filter (has_pair a kind s))
          (table k.0 tt ∙ ap (λ o. filter (λ t. list_any (indexes sorts o (tree a t)) (map (tree a) used)) used) (sym (term_sort-tree a ok (tree a s) s s_in refl ∙ ap Some e)));
    }

    no_change : (h : Head) → (n.head ≡ h → ⊥) → (kind : SchemaKind) → subject_of kind ≡ Class h → (t : TermId) → has_pair a kind s t ≡ false
    no_change h other CellSetCellSame e t = unfit a.shapes a.decls CellSetCellSame (tree a s ∷ tree a t ∷ []) (ap (λ x. of_shape sorts CellSetCellSame (x ∷ tree a t ∷ []) None) (tree-node a ok s n at) ∙ set_cell_else _ n.head (trees a n.args) (tree a t) (λ is. other (cc)))
    no_change h other CellSetCellOther e t = unfit a.shapes a.decls CellSetCellOther (tree a s ∷ tree a t ∷ []) (ap (λ x. of_shape sorts CellSetCellOther (x ∷ tree a t ∷ []) None) (tree-node a ok s n at) ∙ set_cell_else _ n.head (trees a n.args) (tree a t) (λ is. other (cc)))
    no_change h other PointerToSetCell e t = unfit a.shapes a.decls PointerToSetCell (tree a s ∷ tree a t ∷ []) (ap (λ x. of_shape sorts PointerToSetCell (x ∷ tree a t ∷ []) None) (tree-node a ok s n at) ∙ set_cell_else _ n.head (trees a n.args) (tree a t) (λ is. other (cc)))
    no_change h other CellExtendSame e t = unfit a.shapes a.decls CellExtendSame (tree a s ∷ tree a t ∷ []) (ap (λ x. of_shape sorts CellExtendSame (x ∷ tree a t ∷ []) None) (tree-node a ok s n at) ∙ extend_else _ n.head (trees a n.args) (tree a t) (λ is. other (cc)))
    no_change h other CellExtendOther e t = unfit a.shapes a.decls CellExtendOther (tree a s ∷ tree a t ∷ []) (ap (λ x. of_shape sorts CellExtendOther (x ∷ tree a t ∷ []) None) (tree-node a ok s n at) ∙ extend_else _ n.head (trees a n.args) (tree a t) (λ is. other (cc)))
    no_change h other PointerToExtend e t = unfit a.shapes a.decls PointerToExtend (tree a s ∷ tree a t ∷ []) (ap (λ x. of_shape sorts PointerToExtend (x ∷ tree a t ∷ []) None) (tree-node a ok s n at) ∙ extend_else _ n.head (trees a n.args) (tree a t) (λ is. other (cc)))
    no_change h other kind e t = absurd (cc)

    pub class_else : (h : Head) → (n.head ≡ h → ⊥) → ArePartners a used (Class h) s []
    class_else h other = nobody (Class h) s (no_change h other)

    class_sort : (h : Head) → (h ≡ head.SetCell) ⊎ (h ≡ head.Extend) → n.head ≡ h → (k : TypeId) × (sort_at a s ≡ sort.Class k)
    class_sort h (inl c) e =
        let given : List Sort = sorts_at a n.args in
        let told = class_told a ok (first_sort given) given (sort_at a s) (sym (ap (λ x. result_sort a.shapes a.decls x given) (e ∙ c)) ∙ sort-node a ok s n at) in
        (told.0, told.2)
    class_sort h (inr c) e =
        let given : List Sort = sorts_at a n.args in
        let told = class_told a ok (first_sort given) given (sort_at a s) (sym (ap (λ x. result_sort a.shapes a.decls x given) (e ∙ c)) ∙ sort-node a ok s n at) in
        (told.0, told.2)

    -- what is changed by the head of a kind is a class
    pub no_class : (h : Head) → n.head ≡ h → ((k : TypeId) → sort_at a s ≡ sort.Class k → ⊥) → ArePartners a used (Class h) s []
    no_class h e other = nobody (Class h) s (λ kind f t. let k = class_sort h (class_head kind h f) e in absurd (other k.0 k.1))

    pub class_partners : (h : Head) (pointers : Groups) → IsTable a used Pointers pointers → (k : TypeId) → sort_at a s ≡ sort.Class k → ArePartners a used (Class h) s (linked pointers k.0)
    class_partners h pointers table k e = record {
      within = rows_in Pointers pointers table k.0 tt;
      all = λ kind f. ap (filter (has_pair a kind s))
          (table k.0 tt ∙ ap (λ o. filter (λ t. list_any (points sorts o (tree a t)) (map (tree a) used)) used) (sym (term_sort-tree a ok (tree a s) s s_in refl ∙ ap Some e)));
    }

  -- ---- divisions

  module _ (s : TermId) (s_in : s.0 < length a.nodes) (groups : Groups) where
    pub divisor_partners : IsTable a used Divisors groups → ArePartners a used (Division Divisors) s (linked groups s.0)
    divisor_partners table = record {
      within = rows_in Divisors groups table s.0 s_in;
      all = λ kind f. ap (filter (has_pair a kind s))
          (table s.0 s_in ∙ (λ i. filter (λ t. any_or (term_eq (two head.Div (tree a s) (tree a t))) (term_eq (two head.Mod (tree a s) (tree a t))) (map (tree a) used) i) used));
    }

    pub quotient_partners : IsTable a used Quotients groups → ArePartners a used (Division Quotients) s (linked groups s.0)
    quotient_partners table = record { within = rows_in Quotients groups table s.0 s_in; all = λ kind f. ap (filter (has_pair a kind s)) (table s.0 s_in) }

    pub remainder_partners : IsTable a used Remainders groups → ArePartners a used (Division Remainders) s (linked groups s.0)
    remainder_partners table = record { within = rows_in Remainders groups table s.0 s_in; all = λ kind f. ap (filter (has_pair a kind s)) (table s.0 s_in) }

  -- ---- lists

  pub apart : (links : List Link) → TellsAll a Lists used links → (s : TermId) → s.0 < length a.nodes
      → list_any (λ l. nat_eq s.0 l.key && nat_eq s.0 l.member.0) links ≡ is_taken_apart (map (tree a) used) (tree a s)
  apart links all s h =
      let x : Term = tree a s in
      let us : List Term = map (tree a) used in
      all s.0 s h h
      ∙ ((λ i. list_any (λ u. both_same (takes_apart x u) i) us)
      ∙ (any_or (term_eq (one head.Car x)) (λ u. term_eq (one head.Cdr x) u || term_eq (one head.Atom x) u) us
      ∙ ap (λ b. list_any (term_eq (one head.Car x)) us || b) (any_or (term_eq (one head.Cdr x)) (term_eq (one head.Atom x)) us)))

-- about other subjects there is no second term
no_paired : (x : Subject) → (x ≡ Array → ⊥) → ((h : Head) → x ≡ Class h → ⊥) → ((r : Relation) → x ≡ Division r → ⊥) → (sorts : Term → Option Sort) (us : List Term) (s t : Term) → is_partner sorts us x s t ≡ false
no_paired Array n m k sorts us s t = absurd (n refl)
no_paired (Class h) n m k sorts us s t = absurd (m h refl)
no_paired (Division r) n m k sorts us s t = absurd (k r refl)
no_paired Any n m k sorts us s t = refl
no_paired Field n m k sorts us s t = refl
no_paired TakenApart n m k sorts us s t = refl

pub nothing_else : (a : Arena) (used : List TermId) (subject : Subject) (s : TermId)
    → (subject ≡ Array → ⊥) → ((h : Head) → subject ≡ Class h → ⊥) → ((r : Relation) → subject ≡ Division r → ⊥) → ArePartners a used subject s []
nothing_else a used subject s n m k = record {
  within = tt;
  all = λ kind e. sym (ap (filter (has_pair a kind s)) (none_pass (λ t. is_partner (term_sort a.shapes a.decls) (map (tree a) used) subject (tree a s) (tree a t)) (λ t. no_paired subject n m k (term_sort a.shapes a.decls) (map (tree a) used) (tree a s) (tree a t)) used));
}
