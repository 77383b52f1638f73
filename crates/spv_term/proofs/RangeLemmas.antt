-- The sorts of terms name types that are there.
use Rattle.std.proofs.Common.{◌≡◌, ℕ, zero, suc, ◌<◌, Bool, true, false, ◌&&◌, List, [], ◌∷◌, length, slice_get, Option, Some, None, nat_eq, if◌then◌else◌, refl, sym, ◌∙◌, subst}
use Rattle.std.proofs.lemmas.Bool.{false≢true}
use Rattle.std.specs.Cmp.Derive.{both_true}
use Rattle.std.specs.List.{list_all}
use Rattle.spv_logic.specs.declared.conditions.TermId.{TermId}
use Rattle.spv_logic.specs.declared.types.Sort.{Sort}
use Rattle.spv_logic.specs.declared.types.Sort.TheVariants as sort
use Rattle.spv_logic.specs.declared.types.Field.{Field}
use Rattle.spv_logic.specs.declared.types.Shape.{Shape}
use Rattle.spv_logic.specs.declared.types.Shape.TheVariants as shape
use Rattle.spv_logic.specs.declared.types.Decl.{Decl}
use Rattle.spv_logic.specs.declared.operators.Head.{Head}
use Rattle.spv_logic.specs.declared.operators.Head.TheVariants as head
use Rattle.spv_logic.specs.Terms.{Term, Terms, term, no_terms, terms}
use Rattle.spv_logic.specs.Shapes.{shape_at, sort_of_shape, sort_of_type, element_of_shape, fields_of_shape, element_sort, fields_of, content_sort, field_sort, field_sort_of, may_be_part, shape_ok, pointer_sort}
use Rattle.spv_logic.specs.Sorts.{declared, takes, takes_declared, with_sort, first_sort, membership, class_change, result_sort, sort_in_range, head_in_range}
use Rattle.spv_logic.proofs.list.Tests.{left_true, right_true}
use Rattle.spv_logic.proofs.Ranges.{element_in_range, record_field_in_range, content_in_range}
use Rattle.spv_term.specs.declared.nodes.Node.{Node}
use Rattle.spv_term.specs.Arena.{Arena, IsArena, AllBelow, decls_in_range, tree, trees, sort_at, sorts_at}
use Rattle.spv_term.specs.Laws.{NamesTypes}
use Rattle.spv_term.proofs.ArenaLemmas.{node_of, args_in_range, tree-node, sort-node}
use Rattle.spv_term.proofs.SortLemmas.{takes-result}

symbol_in_range : (shapes : List Shape) (decls : List Decl) (symbol : ℕ) (d : Decl) → decls_in_range shapes decls ≡ true → declared decls symbol ≡ Some d → sort_in_range shapes d.result ≡ true
symbol_in_range shapes [] symbol d h e = absurd (cc)
symbol_in_range shapes (c ∷ decls) symbol d h e = by (nat_eq c.name.0 symbol) e (symbol_in_range shapes decls symbol d (right_true (list_all (sort_in_range shapes) c.args && sort_in_range shapes c.result) _ h))
  where
    by : (b : Bool) → (if b then Some c else declared decls symbol) ≡ Some d → (declared decls symbol ≡ Some d → sort_in_range shapes d.result ≡ true) → sort_in_range shapes d.result ≡ true
    by true k rest =
        let same : c ≡ d = cc in
        subst (λ (r : Decl). sort_in_range shapes r.result ≡ true) same (right_true (list_all (sort_in_range shapes) c.args) _ (left_true _ _ h))
    by false k rest = rest k

module _ (shapes : List Shape) (right : list_all (shape_ok shapes) shapes ≡ true) where
  -- ---- what a head gives

  taken : (wanted given : List Sort) (r s : Sort) → sort_in_range shapes r ≡ true → takes wanted given r ≡ Some s → sort_in_range shapes s ≡ true
  taken wanted given r s there h = subst (λ q. sort_in_range shapes q ≡ true) (takes-result wanted given r s h) there

  -- with a further sort that is in range where it is there
  taken_with : (o : Option Sort) (wanted : Sort → List Sort) (given : List Sort) (r : Sort → Sort) (s : Sort)
      → ((e : Sort) → o ≡ Some e → sort_in_range shapes (r e) ≡ true) → with_sort o (λ e. takes (wanted e) given (r e)) ≡ Some s → sort_in_range shapes s ≡ true
  taken_with None wanted given r s there h = absurd (cc)
  taken_with (Some e) wanted given r s there h = taken (wanted e) given (r e) s (there e refl) h

  taken_declared : (decls : List Decl) (symbol : ℕ) (given : List Sort) (s : Sort) → decls_in_range shapes decls ≡ true → takes_declared (declared decls symbol) given ≡ Some s → sort_in_range shapes s ≡ true
  taken_declared decls symbol given s there h = by (declared decls symbol) refl h
    where
      by : (o : Option Decl) → declared decls symbol ≡ o → takes_declared o given ≡ Some s → sort_in_range shapes s ≡ true
      by None e k = absurd (cc)
      by (Some d) e k = taken d.args given d.result s (symbol_in_range shapes decls symbol d there e) k

  taken_member : (p : Sort) (given : List Sort) (s : Sort) → membership p given ≡ Some s → sort_in_range shapes s ≡ true
  taken_member (sort.Ptr t) given s h = taken (sort.Ptr t ∷ sort.Class t ∷ []) given sort.Bool s refl h
  taken_member sort.Int given s h = absurd (cc)
  taken_member sort.Bool given s h = absurd (cc)
  taken_member sort.List given s h = absurd (cc)
  taken_member (sort.Whole t) given s h = absurd (cc)
  taken_member (sort.Class t) given s h = absurd (cc)

  first_in_range : (given : List Sort) → list_all (sort_in_range shapes) given ≡ true → sort_in_range shapes (first_sort given) ≡ true
  first_in_range [] h = refl
  first_in_range (s ∷ given) h = left_true _ _ h

  changed : (given : List Sort) (s : Sort) → list_all (sort_in_range shapes) given ≡ true → class_change shapes (first_sort given) given ≡ Some s → sort_in_range shapes s ≡ true
  changed given s args h =
      let c = first_sort given in
      taken_with (content_sort shapes c) (λ e. c ∷ pointer_sort c ∷ e ∷ []) given (λ e. c) s (λ e k. first_in_range given args) h

  -- the sort that a head gives over sorts in range is in range
  pub result_in_range : (decls : List Decl) → decls_in_range shapes decls ≡ true → (h : Head) (given : List Sort) (s : Sort)
      → head_in_range shapes h ≡ true → list_all (sort_in_range shapes) given ≡ true → result_sort shapes decls h given ≡ Some s → sort_in_range shapes s ≡ true
  result_in_range decls symbols (head.Var x r n) given s there args h = taken [] given r s there h
  result_in_range decls symbols (head.ClassVar t n) given s there args h = taken [] given (sort.Class t) s there h
  result_in_range decls symbols (head.Start x r) given s there args h = taken [] given r s there h
  result_in_range decls symbols (head.Num z) given s there args h = taken [] given sort.Int s refl h
  result_in_range decls symbols (head.App f) given s there args h = taken_declared decls f.0 given s symbols h
  result_in_range decls symbols head.Add given s there args h = taken (sort.Int ∷ sort.Int ∷ []) given sort.Int s refl h
  result_in_range decls symbols head.Sub given s there args h = taken (sort.Int ∷ sort.Int ∷ []) given sort.Int s refl h
  result_in_range decls symbols head.Mul given s there args h = taken (sort.Int ∷ sort.Int ∷ []) given sort.Int s refl h
  result_in_range decls symbols head.Div given s there args h = taken (sort.Int ∷ sort.Int ∷ []) given sort.Int s refl h
  result_in_range decls symbols head.Mod given s there args h = taken (sort.Int ∷ sort.Int ∷ []) given sort.Int s refl h
  result_in_range decls symbols head.Eq given s there args h = taken (first_sort given ∷ first_sort given ∷ []) given sort.Bool s refl h
  result_in_range decls symbols head.Lt given s there args h = taken (sort.Int ∷ sort.Int ∷ []) given sort.Bool s refl h
  result_in_range decls symbols head.Le given s there args h = taken (sort.Int ∷ sort.Int ∷ []) given sort.Bool s refl h
  result_in_range decls symbols head.Not given s there args h = taken (sort.Bool ∷ []) given sort.Bool s refl h
  result_in_range decls symbols head.And given s there args h = taken (sort.Bool ∷ sort.Bool ∷ []) given sort.Bool s refl h
  result_in_range decls symbols head.Or given s there args h = taken (sort.Bool ∷ sort.Bool ∷ []) given sort.Bool s refl h
  result_in_range decls symbols head.Implies given s there args h = taken (sort.Bool ∷ sort.Bool ∷ []) given sort.Bool s refl h
  result_in_range decls symbols head.Select given s there args h =
      let a = first_sort given in
      taken_with (element_sort shapes a) (λ e. a ∷ sort.Int ∷ []) given (λ e. e) s (element_in_range shapes right a) h
  result_in_range decls symbols head.Store given s there args h =
      let a = first_sort given in
      taken_with (element_sort shapes a) (λ e. a ∷ sort.Int ∷ e ∷ []) given (λ e. a) s (λ e k. first_in_range given args) h
  result_in_range decls symbols (head.Field f) given s there args h =
      let r = first_sort given in
      taken_with (field_sort_of (fields_of shapes r) f.0) (λ e. r ∷ []) given (λ e. e) s (λ e k. record_field_in_range shapes right r e f.0 k) h
  result_in_range decls symbols (head.Put f) given s there args h =
      let r = first_sort given in
      taken_with (field_sort_of (fields_of shapes r) f.0) (λ e. r ∷ e ∷ []) given (λ e. r) s (λ e k. first_in_range given args) h
  result_in_range decls symbols head.Cell given s there args h =
      let c = first_sort given in
      taken_with (content_sort shapes c) (λ e. c ∷ pointer_sort c ∷ []) given (λ e. e) s (λ e k. content_in_range shapes right c e (first_in_range given args) k) h
  result_in_range decls symbols head.SetCell given s there args h = changed given s args h
  result_in_range decls symbols head.Extend given s there args h = changed given s args h
  result_in_range decls symbols head.PointerTo given s there args h = taken_member (first_sort given) given s h
  result_in_range decls symbols head.Car given s there args h = taken (sort.List ∷ []) given sort.List s refl h
  result_in_range decls symbols head.Cdr given s there args h = taken (sort.List ∷ []) given sort.List s refl h
  result_in_range decls symbols head.Cons given s there args h = taken (sort.List ∷ sort.List ∷ []) given sort.List s refl h
  result_in_range decls symbols head.Atom given s there args h = taken (sort.List ∷ []) given sort.Bool s refl h
  result_in_range decls symbols (head.Nil t) given s there args h = taken [] given (sort.Ptr t) s there h
  result_in_range decls symbols head.True given s there args h = taken [] given sort.Bool s refl h
  result_in_range decls symbols head.False given s there args h = taken [] given sort.Bool s refl h

-- ---- the terms of an arena

module _ (a : Arena) (ok : IsArena a) where
  types_there : (t : TermId) (n : Node) → slice_get a.nodes t.0 ≡ Some n → head_in_range a.shapes n.head ≡ true
  types_there t n at = (ok.nodes t.0 n at).types

  mutual
    sort_at-range : (x : Term) (t : TermId) → t.0 < length a.nodes → tree a t ≡ x → sort_in_range a.shapes (sort_at a t) ≡ true
    sort_at-range (term h xs) t ht et =
        let n = node_of a ok t ht in
        let e : term n.0.head (trees a n.0.args) ≡ term h xs = sym (tree-node a ok t n.0 n.1) ∙ et in
        let args : trees a n.0.args ≡ xs = cc in
        let below = sorts_at-range xs n.0.args (args_in_range a ok t n.0 n.1) args in
        result_in_range a.shapes (left_true _ _ ok.shapes) a.decls ok.types n.0.head (sorts_at a n.0.args) (sort_at a t) (types_there t n.0 n.1) below (sort-node a ok t n.0 n.1)

    sorts_at-range : (xs : Terms) (ts : List TermId) → AllBelow (length a.nodes) ts → trees a ts ≡ xs → list_all (sort_in_range a.shapes) (sorts_at a ts) ≡ true
    sorts_at-range no_terms [] ht et = refl
    sorts_at-range no_terms (t ∷ ts) ht et = absurd (cc)
    sorts_at-range (terms x xs) [] ht et = absurd (cc)
    sorts_at-range (terms x xs) (t ∷ ts) ht et =
        let et_first : tree a t ≡ x = cc in
        let et_rest : trees a ts ≡ xs = cc in
        both_true (sort_at-range x t ht.0 et_first) (sorts_at-range xs ts ht.1 et_rest)

pub NamesTypes-arena : (a : Arena) → IsArena a → NamesTypes a
NamesTypes-arena a ok t h = sort_at-range a ok (tree a t) t h refl
