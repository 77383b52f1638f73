-- The pieces of terms by their parts, and pieces that are put behind others one after the other.
use Rattle.std.proofs.Common.{◌≡◌, List, [], ◌∷◌, ◌++◌, Some, Result, Ok, Err, IfOk, refl, sym, ap, ◌∙◌}
use Rattle.std.proofs.lemmas.List.{append_assoc, append-nil}
use Rattle.std.proofs.lemmas.Option.{same_Some}
use Rattle.spv_logic.specs.declared.conditions.TermId.{TermId}
use Rattle.spv_logic.specs.declared.types.Sort.{Sort}
use Rattle.spv_logic.specs.declared.types.Shape.{Shape}
use Rattle.spv_logic.specs.declared.types.Decl.{Decl}
use Rattle.spv_logic.specs.declared.operators.Head.{Head}
use Rattle.spv_logic.specs.Terms.{Term, Terms, term, no_terms, terms}
use Rattle.spv_expression_terms.specs.declared.postfix.pieces.Piece.{Piece}
use Rattle.spv_logic.specs.Sorts.{term_sort}
use Rattle.spv_term.specs.declared.nodes.TermFault.{TermFault}
use Rattle.spv_term.specs.Arena.{Arena, tree, sort_at}
use Rattle.spv_expression_terms.specs.postfix.Postfix.{piece, count_of, postfix, postfix_all, IsMakeable, IsPostfix}

pub postfix_alone : (h : Head) → postfix (term h no_terms) ≡ piece h 0 ∷ []
postfix_alone h = refl

pub postfix_unary : (h : Head) (s : Term) → postfix (term h (terms s no_terms)) ≡ postfix s ++ piece h 1 ∷ []
postfix_unary h s = ap (λ ps. ps ++ piece h 1 ∷ []) (append-nil (postfix s))

pub postfix_binary : (h : Head) (s t : Term) → postfix (term h (terms s (terms t no_terms))) ≡ (postfix s ++ postfix t) ++ piece h 2 ∷ []
postfix_binary h s t = ap (λ ps. (postfix s ++ ps) ++ piece h 2 ∷ []) (append-nil (postfix t))

pub postfix_ternary : (h : Head) (s t u : Term)
    → postfix (term h (terms s (terms t (terms u no_terms)))) ≡ ((postfix s ++ postfix t) ++ postfix u) ++ piece h 3 ∷ []
postfix_ternary h s t u =
    ap (λ ps. (postfix s ++ (postfix t ++ ps)) ++ piece h 3 ∷ []) (append-nil (postfix u))
    ∙ ap (λ ps. ps ++ piece h 3 ∷ []) (sym (append_assoc (postfix s) (postfix t) (postfix u)))

-- ---- behind other pieces

-- the terms of a list are put one by one, and then their head
pub puts_first : (old one new : List Piece) (t : Term) (ts : Terms) → one ≡ old ++ postfix t → new ≡ one ++ postfix_all ts → new ≡ old ++ postfix_all (terms t ts)
puts_first old one new t ts e f = f ∙ (ap (λ ps. ps ++ postfix_all ts) e ∙ append_assoc old (postfix t) (postfix_all ts))

pub puts_term : (old before new : List Piece) (h : Head) (ts : Terms) → before ≡ old ++ postfix_all ts → new ≡ before ++ piece h (count_of ts) ∷ [] → new ≡ old ++ postfix (term h ts)
puts_term old before new h ts e f =
    f ∙ (ap (λ ps. ps ++ piece h (count_of ts) ∷ []) e ∙ append_assoc old (postfix_all ts) (piece h (count_of ts) ∷ []))

none_put : (old : List Piece) → old ≡ old ++ []
none_put old = sym (append-nil old)

pub puts_alone : (old new : List Piece) (h : Head) → new ≡ old ++ piece h 0 ∷ [] → new ≡ old ++ postfix (term h no_terms)
puts_alone old new h e = e

pub puts_unary : (old one new : List Piece) (h : Head) (s : Term) → one ≡ old ++ postfix s → new ≡ one ++ piece h 1 ∷ []
    → new ≡ old ++ postfix (term h (terms s no_terms))
puts_unary old one new h s e f = puts_term old one new h (terms s no_terms) (puts_first old one one s no_terms e (none_put one)) f

pub puts_binary : (old one two new : List Piece) (h : Head) (s t : Term) → one ≡ old ++ postfix s → two ≡ one ++ postfix t → new ≡ two ++ piece h 2 ∷ []
    → new ≡ old ++ postfix (term h (terms s (terms t no_terms)))
puts_binary old one two new h s t e f g =
    puts_term old two new h (terms s (terms t no_terms)) (puts_first old one two s (terms t no_terms) e (puts_first one two two t no_terms f (none_put two))) g

pub puts_ternary : (old one two three new : List Piece) (h : Head) (s t u : Term)
    → one ≡ old ++ postfix s → two ≡ one ++ postfix t → three ≡ two ++ postfix u → new ≡ three ++ piece h 3 ∷ []
    → new ≡ old ++ postfix (term h (terms s (terms t (terms u no_terms))))
puts_ternary old one two three new h s t u e f g k =
    puts_term old three new h (terms s (terms t (terms u no_terms)))
    (puts_first old one three s (terms t (terms u no_terms)) e
    (puts_first one two three t (terms u no_terms) f (puts_first two three three u no_terms g (none_put three)))) k

-- ---- what `built` asks, and what it says, of a term whose pieces were put behind none

pub puts_all : (old new : List Piece) (t : Term) → old ≡ [] → new ≡ old ++ postfix t → new ≡ postfix t
puts_all old new t none e = e ∙ ap (λ ps. ps ++ postfix t) none

pub is_postfix : (shapes : List Shape) (decls : List Decl) (pieces : List Piece) (t : Term) → pieces ≡ postfix t → IsMakeable shapes decls t → IsPostfix shapes decls pieces
is_postfix shapes decls pieces t e makeable = record { t = t; is = e; makeable = makeable }

module _ (pieces : List Piece) (t : Term) (is : pieces ≡ postfix t) (b : Arena) where
  pub tree_at : (r : Result TermId TermFault) → IfOk r (λ u. (x : Term) → pieces ≡ postfix x → tree b u ≡ x) → IfOk r (λ u. tree b u ≡ t)
  tree_at (Ok u) h = h t is
  tree_at (Err e) h = tt

  pub sort_is : (shapes : List Shape) (decls : List Decl) (s : Sort) → term_sort shapes decls t ≡ Some s → (r : Result TermId TermFault)
      → IfOk r (λ u. (x : Term) → pieces ≡ postfix x → term_sort shapes decls x ≡ Some (sort_at b u)) → IfOk r (λ u. sort_at b u ≡ s)
  sort_is shapes decls s e (Ok u) h = same_Some (sort_at b u) s (sym (h t is) ∙ e)
  sort_is shapes decls s e (Err f) h = tt
