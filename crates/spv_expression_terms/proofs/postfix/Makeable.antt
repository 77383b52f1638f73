-- Terms that an arena may have, by their parts.
use Rattle.std.proofs.Common.{◌≡◌, ◌<◌, subst, List, [], ◌∷◌, length, Option, Some, None, IsSome, is_some, IsTrue, refl, sym, ap, ◌∙◌, true}
use Rattle.std.proofs.lemmas.Bool.{false≢true}
use Rattle.std.specs.Cmp.Derive.{both_true}
use Rattle.spv_logic.proofs.list.Tests.{left_true, right_true}
use Rattle.spv_logic.specs.declared.types.Sort.{Sort}
use Rattle.spv_logic.specs.declared.types.Shape.{Shape}
use Rattle.spv_logic.specs.declared.types.Decl.{Decl}
use Rattle.spv_logic.specs.declared.operators.Head.{Head}
use Rattle.spv_logic.specs.Terms.{Term, Terms, term, no_terms, terms, heads_pass, all_heads_pass}
use Rattle.spv_logic.specs.Sorts.{head_in_range, numeral_fits, result_sort, with_sorts, sort_before, term_sort, term_sorts}
use Rattle.spv_logic.specs.declared.conditions.TermId.{TermId}
use Rattle.spv_term.specs.Arena.{Arena, IsArena, AllBelow, tree, trees, Extends}
use Rattle.spv_term.proofs.ArenaLemmas.{node_of, args_in_range, tree-node, IsWellSorted-arena}
use Rattle.spv_expression_terms.specs.postfix.Postfix.{head_fits, IsMakeable}

-- each of these terms may be made
pub record AreMakeable (shapes : List Shape) (decls : List Decl) (ts : Terms) : Type 0 where
  pub sorts : IsSome (term_sorts shapes decls ts)
  pub heads : IsTrue (all_heads_pass (head_fits shapes) ts)

some_sorts : (o : Option (List Sort)) (go : List Sort → Option Sort) → IsSome (with_sorts o go) → IsSome o
some_sorts (Some sorts) go h = refl
some_sorts None go h = h

some_first : (o : Option Sort) (others : Option (List Sort)) → IsSome (sort_before o others) → IsSome o
some_first (Some s) others h = refl
some_first None others h = h

some_others : (o : Option Sort) (others : Option (List Sort)) → IsSome (sort_before o others) → IsSome others
some_others (Some s) (Some sorts) h = refl
some_others (Some s) None h = h
some_others None others h = absurd (false≢true h)

some_both : (o : Option Sort) (others : Option (List Sort)) → IsSome o → IsSome others → IsSome (sort_before o others)
some_both (Some s) (Some sorts) h k = refl
some_both (Some s) None h k = k
some_both None others h k = h

module _ (shapes : List Shape) (decls : List Decl) where
  -- ---- the parts of a term that may be made

  pub makeable_arguments : (h : Head) (ts : Terms) → IsMakeable shapes decls (term h ts) → AreMakeable shapes decls ts
  makeable_arguments h ts m = record {
    sorts = some_sorts (term_sorts shapes decls ts) (result_sort shapes decls h) m.sorts;
    heads = right_true (head_fits shapes h) (all_heads_pass (head_fits shapes) ts) m.heads;
  }

  pub makeable_first : (t : Term) (ts : Terms) → AreMakeable shapes decls (terms t ts) → IsMakeable shapes decls t
  makeable_first t ts m = record {
    sorts = some_first (term_sort shapes decls t) (term_sorts shapes decls ts) m.sorts;
    heads = left_true (heads_pass (head_fits shapes) t) (all_heads_pass (head_fits shapes) ts) m.heads;
  }

  pub makeable_others : (t : Term) (ts : Terms) → AreMakeable shapes decls (terms t ts) → AreMakeable shapes decls ts
  makeable_others t ts m = record {
    sorts = some_others (term_sort shapes decls t) (term_sorts shapes decls ts) m.sorts;
    heads = right_true (heads_pass (head_fits shapes) t) (all_heads_pass (head_fits shapes) ts) m.heads;
  }

  pub makeable_in_unary : (h : Head) (s : Term) → IsMakeable shapes decls (term h (terms s no_terms)) → IsMakeable shapes decls s
  makeable_in_unary h s m = makeable_first s no_terms (makeable_arguments h (terms s no_terms) m)

  pub makeable_left : (h : Head) (s t : Term) → IsMakeable shapes decls (term h (terms s (terms t no_terms))) → IsMakeable shapes decls s
  makeable_left h s t m = makeable_first s (terms t no_terms) (makeable_arguments h (terms s (terms t no_terms)) m)

  pub makeable_right : (h : Head) (s t : Term) → IsMakeable shapes decls (term h (terms s (terms t no_terms))) → IsMakeable shapes decls t
  makeable_right h s t m =
      makeable_first t no_terms (makeable_others s (terms t no_terms) (makeable_arguments h (terms s (terms t no_terms)) m))

  -- the types that the head names are there, and its numeral fits
  pub makeable_types : (h : Head) (ts : Terms) → IsMakeable shapes decls (term h ts) → IsTrue (head_in_range shapes h)
  makeable_types h ts m = left_true (head_in_range shapes h) (numeral_fits h) (left_true (head_fits shapes h) (all_heads_pass (head_fits shapes) ts) m.heads)

  pub makeable_numeral : (h : Head) (ts : Terms) → IsMakeable shapes decls (term h ts) → IsTrue (numeral_fits h)
  makeable_numeral h ts m = right_true (head_in_range shapes h) (numeral_fits h) (left_true (head_fits shapes h) (all_heads_pass (head_fits shapes) ts) m.heads)

  -- ---- a term whose parts may be made and whose head takes their sorts

  pub makeable_none : AreMakeable shapes decls no_terms
  makeable_none = record { sorts = refl; heads = refl }

  pub makeable_both : (t : Term) (ts : Terms) → IsMakeable shapes decls t → AreMakeable shapes decls ts → AreMakeable shapes decls (terms t ts)
  makeable_both t ts m ms = record {
    sorts = some_both (term_sort shapes decls t) (term_sorts shapes decls ts) m.sorts ms.sorts;
    heads = both_true m.heads ms.heads;
  }

  pub makeable_term : (h : Head) (ts : Terms) (given : List Sort) → AreMakeable shapes decls ts → term_sorts shapes decls ts ≡ Some given
      → IsSome (result_sort shapes decls h given) → IsTrue (head_fits shapes h) → IsMakeable shapes decls (term h ts)
  makeable_term h ts given ms e fits head = record {
    sorts = ap (λ o. is_some (with_sorts o (result_sort shapes decls h))) e ∙ fits;
    heads = both_true head ms.heads;
  }

  pub makeable_alone : (h : Head) → IsSome (result_sort shapes decls h []) → IsTrue (head_fits shapes h) → IsMakeable shapes decls (term h no_terms)
  makeable_alone h fits head = makeable_term h no_terms [] makeable_none refl fits head

  pub makeable_unary : (h : Head) (s : Term) (a : Sort) → IsMakeable shapes decls s → term_sort shapes decls s ≡ Some a
      → IsSome (result_sort shapes decls h (a ∷ [])) → IsTrue (head_fits shapes h) → IsMakeable shapes decls (term h (terms s no_terms))
  makeable_unary h s a m e fits head =
      makeable_term h (terms s no_terms) (a ∷ []) (makeable_both s no_terms m makeable_none) (ap (λ o. sort_before o (Some [])) e) fits head

  pub makeable_binary : (h : Head) (s t : Term) (a b : Sort) → IsMakeable shapes decls s → IsMakeable shapes decls t
      → term_sort shapes decls s ≡ Some a → term_sort shapes decls t ≡ Some b
      → IsSome (result_sort shapes decls h (a ∷ b ∷ [])) → IsTrue (head_fits shapes h) → IsMakeable shapes decls (term h (terms s (terms t no_terms)))
  makeable_binary h s t a b m n e f fits head =
      makeable_term h (terms s (terms t no_terms)) (a ∷ b ∷ []) (makeable_both s (terms t no_terms) m (makeable_both t no_terms n makeable_none))
      (λ i. sort_before (e i) (sort_before (f i) (Some []))) fits head

  pub makeable_ternary : (h : Head) (s t u : Term) (a b c : Sort) → IsMakeable shapes decls s → IsMakeable shapes decls t → IsMakeable shapes decls u
      → term_sort shapes decls s ≡ Some a → term_sort shapes decls t ≡ Some b → term_sort shapes decls u ≡ Some c
      → IsSome (result_sort shapes decls h (a ∷ b ∷ c ∷ [])) → IsTrue (head_fits shapes h)
      → IsMakeable shapes decls (term h (terms s (terms t (terms u no_terms))))
  makeable_ternary h s t u a b c m n o e f g fits head =
      makeable_term h (terms s (terms t (terms u no_terms))) (a ∷ b ∷ c ∷ [])
      (makeable_both s (terms t (terms u no_terms)) m (makeable_both t (terms u no_terms) n (makeable_both u no_terms o makeable_none)))
      (λ i. sort_before (e i) (sort_before (f i) (sort_before (g i) (Some [])))) fits head

-- ---- terms of an arena

-- what may be made in an arena may be made in one that has grown
pub makeable_Extends : (a b : Arena) (t : Term) → Extends a b → IsMakeable a.shapes a.decls t → IsMakeable b.shapes b.decls t
makeable_Extends a b t grows m =
    subst (λ ss. IsMakeable ss b.decls t) (sym grows.shapes) (subst (λ ds. IsMakeable a.shapes ds t) (sym grows.decls) m)

module _ (a : Arena) (ok : IsArena a) where
  mutual
    heads_tree : (x : Term) (t : TermId) → t.0 < length a.nodes → tree a t ≡ x → heads_pass (head_fits a.shapes) x ≡ true
    heads_tree (term h xs) t there is =
        let n = node_of a ok t there in
        let e : term n.0.head (trees a n.0.args) ≡ term h xs = sym (tree-node a ok t n.0 n.1) ∙ is in
        let head : h ≡ n.0.head = cc in
        let args : trees a n.0.args ≡ xs = cc in
        let follows = ok.nodes t.0 n.0 n.1 in
        both_true (ap (head_fits a.shapes) head ∙ both_true follows.types follows.numeral) (heads_trees xs n.0.args (args_in_range a ok t n.0 n.1) args)

    heads_trees : (xs : Terms) (ts : List TermId) → AllBelow (length a.nodes) ts → trees a ts ≡ xs → all_heads_pass (head_fits a.shapes) xs ≡ true
    heads_trees no_terms ts below is = refl
    heads_trees (terms x xs) [] below is = absurd (cc)
    heads_trees (terms x xs) (t ∷ ts) below is =
        let first : tree a t ≡ x = cc in
        let others : trees a ts ≡ xs = cc in
        both_true (heads_tree x t below.0 first) (heads_trees xs ts below.1 others)

  -- each term of an arena may be made there
  pub makeable_tree : (t : TermId) → t.0 < length a.nodes → IsMakeable a.shapes a.decls (tree a t)
  makeable_tree t there = record {
    sorts = ap is_some (IsWellSorted-arena a ok t there);
    heads = heads_tree (tree a t) t there refl;
  }
