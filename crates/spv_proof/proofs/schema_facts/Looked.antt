-- How the terms of an arena look that have two or three arguments.
use Rattle.std.proofs.Common.{◌≡◌, true, false, List, [], ◌∷◌, map, length, slice_get, refl, sym, ap, ◌∙◌, subst, Option, Some, None, IfSome, IfNone}
use Rattle.std.proofs.lemmas.Bool.{false≢true}
use Rattle.std.proofs.lemmas.List.{length-map}
use Rattle.spv_logic.specs.declared.conditions.TermId.{TermId}
use Rattle.spv_logic.specs.declared.names.names.Symbol.{Symbol}
use Rattle.spv_logic.specs.declared.operators.Head.{Head}
use Rattle.spv_logic.specs.declared.operators.Head.TheVariants as head
use Rattle.spv_logic.specs.Terms.{Term, Terms, term, no_terms, terms, head_eq}
use Rattle.spv_logic.proofs.Equality.{head_eq-true, head_eq-refl}
use Rattle.spv_schemas.specs.Facts.{two, three}
use Rattle.spv_term.specs.declared.nodes.Node.{Node}
use Rattle.spv_term.specs.Arena.{Arena, IsArena, AllBelow, tree, trees}
use Rattle.spv_term.proofs.ArenaLemmas.{tree-node, args_in_range}
use Rattle.spv_proof.specs.schema_facts.Shapes.{AreTwo, AreThree}

same_heads : (h k : Head) (us vs : Terms) → term h us ≡ term k vs → h ≡ k
same_heads h k us vs e = cc

same_arguments : (h k : Head) (us vs : Terms) → term h us ≡ term k vs → us ≡ vs
same_arguments h k us vs e = cc

-- how many arguments are two, and three
trees_two : (a : Arena) (ts : List TermId) (x y : Term) → trees a ts ≡ terms x (terms y no_terms) → length ts ≡ 2
trees_two a [] x y e = absurd (cc)
trees_two a (t ∷ []) x y e = absurd (cc)
trees_two a (t ∷ u ∷ []) x y e = refl
trees_two a (t ∷ u ∷ v ∷ ts) x y e = absurd (cc)

trees_three : (a : Arena) (ts : List TermId) (x y z : Term) → trees a ts ≡ terms x (terms y (terms z no_terms)) → length ts ≡ 3
trees_three a [] x y z e = absurd (cc)
trees_three a (t ∷ []) x y z e = absurd (cc)
trees_three a (t ∷ u ∷ []) x y z e = absurd (cc)
trees_three a (t ∷ u ∷ v ∷ []) x y z e = refl
trees_three a (t ∷ u ∷ v ∷ w ∷ ts) x y z e = absurd (cc)

module _ (a : Arena) (ok : IsArena a) (t : TermId) (n : Node) (at : slice_get a.nodes t.0 ≡ Some n) where
  -- a term of another head
  pub other_head : (h : Head) → head_eq n.head h ≡ false → (vs : Terms) → tree a t ≡ term h vs → ⊥
  other_head h f vs e =
      let same = same_heads n.head h (trees a n.args) vs (sym (tree-node a ok t n at) ∙ e) in
      false≢true (sym f ∙ (ap (λ k. head_eq k h) same ∙ head_eq-refl h))

  tree_over : (h : Head) → head_eq n.head h ≡ true → (args : List TermId) → args ≡ n.args → tree a t ≡ term h (trees a args)
  tree_over h e args same =
      tree-node a ok t n at ∙ (ap (λ k. term k (trees a n.args)) (head_eq-true n.head h e) ∙ ap (λ us. term h (trees a us)) (sym same))

  arguments_of : (h : Head) (args : List TermId) → args ≡ n.args → (vs : Terms) → tree a t ≡ term h vs → trees a args ≡ vs
  arguments_of h args same vs e = ap (trees a) same ∙ same_arguments n.head h (trees a n.args) vs (sym (tree-node a ok t n at) ∙ e)

  module _ (h : Head) (args : List TermId) (same : args ≡ n.args) where
    range : AllBelow (length a.nodes) args
    range = subst (AllBelow (length a.nodes)) (sym same) (args_in_range a ok t n at)

    pub two_there : head_eq n.head h ≡ true → (r : Option (TermId × TermId)) → IfSome r (λ p. args ≡ p.0 ∷ p.1 ∷ []) → IfSome r (AreTwo a h t)
    two_there e None s = tt
    two_there e (Some p) s =
        let below = subst (AllBelow (length a.nodes)) s range in
        record { is = tree_over h e args same ∙ ap (λ us. term h (trees a us)) s; first = below.0; second = below.1.0 }

    pub two_missing : (r : Option (TermId × TermId)) → IfNone r (length args ≡ 2 → ⊥) → IfNone r ((x y : Term) → tree a t ≡ two h x y → ⊥)
    two_missing None m = λ x y e. m (trees_two a args x y (arguments_of h args same (terms x (terms y no_terms)) e))
    two_missing (Some p) m = tt

    pub three_there : head_eq n.head h ≡ true → (r : Option (TermId × TermId × TermId)) → IfSome r (λ p. args ≡ p.0 ∷ p.1 ∷ p.2 ∷ []) → IfSome r (AreThree a h t)
    three_there e None s = tt
    three_there e (Some p) s =
        let below = subst (AllBelow (length a.nodes)) s range in
        record { is = tree_over h e args same ∙ ap (λ us. term h (trees a us)) s; first = below.0; second = below.1.0; third = below.1.1.0 }

    pub three_missing : (r : Option (TermId × TermId × TermId)) → IfNone r (length args ≡ 3 → ⊥) → IfNone r ((x y z : Term) → tree a t ≡ three h x y z → ⊥)
    three_missing None m = λ x y z e. m (trees_three a args x y z (arguments_of h args same (terms x (terms y (terms z no_terms))) e))
    three_missing (Some p) m = tt

-- ---- lists of one and of two terms

pub one_long : (f : TermId → Term) (ts : List TermId) (u : Term) → map f ts ≡ u ∷ [] → length ts ≡ 1
one_long f ts u e = sym (length-map ts f) ∙ ap length e

pub two_long : (f : TermId → Term) (ts : List TermId) (u v : Term) → map f ts ≡ u ∷ v ∷ [] → length ts ≡ 2
two_long f ts u v e = sym (length-map ts f) ∙ ap length e

pub first_is : (f : TermId → Term) (ts : List TermId) (t : TermId) (us : List TermId) → ts ≡ t ∷ us → (u : Term) (vs : List Term) → map f ts ≡ u ∷ vs → f t ≡ u
first_is f ts t us e u vs g = let h : f t ∷ map f us ≡ u ∷ vs = ap (map f) (sym e) ∙ g in cc

-- ---- fields

-- a term changes one field
pub one_field : (a : Arena) (ok : IsArena a) (t : TermId) (n : Node) → slice_get a.nodes t.0 ≡ Some n → (f : Symbol) → n.head ≡ head.Put f
    → (g : Symbol) (x y : Term) → tree a t ≡ two (head.Put g) x y → g ≡ f
one_field a ok t n at f is g x y e =
    let same = same_heads n.head (head.Put g) (trees a n.args) (terms x (terms y no_terms)) (sym (tree-node a ok t n at) ∙ e) in
    let both : head.Put g ≡ head.Put f = sym same ∙ is in
    cc

pub no_field : (a : Arena) (ok : IsArena a) (t : TermId) (n : Node) → slice_get a.nodes t.0 ≡ Some n → ((f : Symbol) → n.head ≡ head.Put f → ⊥)
    → (g : Symbol) (x y : Term) → tree a t ≡ two (head.Put g) x y → ⊥
no_field a ok t n at other g x y e = other g (same_heads n.head (head.Put g) (trees a n.args) (terms x (terms y no_terms)) (sym (tree-node a ok t n at) ∙ e))
