-- Computed values by heads: of connectives from their arguments', of other terms by themselves.
use Rattle.std.proofs.Common.{◌≡◌, ℕ, Bool, true, false, cond, List, [], ◌∷◌, slice_get, refl, sym, ap, ◌∙◌, Option, Some, None}
use mathlib.Core.Path.{ap₂}
use Rattle.std.proofs.lemmas.Bool.{false≢true}
use Rattle.spv_logic.specs.declared.conditions.TermId.{TermId}
use Rattle.spv_logic.specs.declared.operators.Head.{Head}
use Rattle.spv_logic.specs.declared.operators.Head.TheVariants.{Not, And, Or, Implies, Eq, True, False}
use Rattle.spv_logic.specs.Terms.{Term, Terms, term}
use Rattle.spv_term.specs.declared.nodes.Node.{Node}
use Rattle.spv_term.specs.Arena.{Arena, IsArena, tree, trees}
use Rattle.spv_term.proofs.ArenaLemmas.{tree-node}
use Rattle.spv_atoms.specs.Tables.{all_truths, first_of, second_of, equation_value, combined, computed, values, numeral_relation}
use Rattle.spv_atoms.specs.Atoms as atoms
use Rattle.spv_atoms.specs.Valued.{valued_in}
use Rattle.spv_assignments.specs.kleene.Passes.{connects, connected, plain, plain_at, at, first_found, second_found, of_node}

-- ---- one head

plain_head : (truths : Bool) (h : Head) (x y : Option Bool) (ts : Terms) → atoms.connects truths h ≡ false → combined truths h x y ts ≡ plain (term h ts)
plain_head truths Not x y ts e = absurd (false≢true (sym e))
plain_head truths And x y ts e = absurd (false≢true (sym e))
plain_head truths Or x y ts e = absurd (false≢true (sym e))
plain_head truths Implies x y ts e = absurd (false≢true (sym e))
plain_head truths Eq x y ts e = ap (λ b. equation_value b x y ts) e
plain_head truths h x y ts e = refl

connected_head : (truths : Bool) (h : Head) (x y : Option Bool) (ts : Terms) → atoms.connects truths h ≡ true → combined truths h x y ts ≡ connected h x y
connected_head truths Not x y ts e = refl
connected_head truths And x y ts e = refl
connected_head truths Or x y ts e = refl
connected_head truths Implies x y ts e = refl
connected_head truths Eq x y ts e = ap (λ b. equation_value b x y ts) e
connected_head truths h x y ts e = absurd (false≢true e)

-- ---- terms

plain_term : (is_truth : Term → Bool) (given : Term → Option Bool) (t : Term) → atoms.is_connective is_truth t ≡ false → computed is_truth given t ≡ plain t
plain_term is_truth given (term h ts) e = plain_head (all_truths is_truth ts) h (first_of (values is_truth given ts)) (second_of (values is_truth given ts)) ts e

abbrev truths : Arena → Term → Bool
truths a = atoms.is_truth a.shapes a.decls

-- the value that is computed without looking at others is the computed one, where the term is no connective
pub plain_value : (a : Arena) (given : Term → Option Bool) (t : TermId) → connects a t ≡ false → computed (truths a) given (tree a t) ≡ plain_at a t
plain_value a given t e = plain_term (truths a) given (tree a t) e ∙ sym (ap (λ b. cond b None (plain (tree a t))) e)

-- a connective has none
pub plain_none : (a : Arena) (t : TermId) → connects a t ≡ true → plain_at a t ≡ None
plain_none a t e = ap (λ b. cond b None (plain (tree a t))) e

-- ---- arguments

-- the values of these terms are found
pub record AreFound (a : Arena) (given : Term → Option Bool) (found : List (Option Bool)) (args : List TermId) : Type 0 where
  pub each : (i : ℕ) (u : TermId) → slice_get args i ≡ Some u → at found u.0 ≡ valued_in a given u

first_value : (a : Arena) (given : Term → Option Bool) (found : List (Option Bool)) (args : List TermId) → AreFound a given found args → first_found found args ≡ first_of (values (truths a) given (trees a args))
first_value a given found [] h = refl
first_value a given found (u ∷ us) h = h.each 0 u refl

second_value : (a : Arena) (given : Term → Option Bool) (found : List (Option Bool)) (args : List TermId) → AreFound a given found args → second_found found args ≡ second_of (values (truths a) given (trees a args))
second_value a given found [] h = refl
second_value a given found (u ∷ []) h = refl
second_value a given found (u ∷ w ∷ us) h = h.each 1 w refl

-- the computed value of a connective comes from those that are found of its arguments
pub connected_value : (a : Arena) → IsArena a → (given : Term → Option Bool) (found : List (Option Bool)) (t : TermId) (n : Node) → slice_get a.nodes t.0 ≡ Some n → connects a t ≡ true
    → AreFound a given found n.args → computed (truths a) given (tree a t) ≡ of_node found (slice_get a.nodes t.0)
connected_value a ok given found t n is e h =
    let shape = tree-node a ok t n is in
    let c : atoms.is_connective (truths a) (term n.head (trees a n.args)) ≡ true = sym (ap (atoms.is_connective (truths a)) shape) ∙ e in
    let xs = values (truths a) given (trees a n.args) in
    ap (computed (truths a) given) shape
    ∙ (connected_head (all_truths (truths a) (trees a n.args)) n.head (first_of xs) (second_of xs) (trees a n.args) c
    ∙ (sym (ap₂ (connected n.head) (first_value a given found n.args h) (second_value a given found n.args h)) ∙ sym (ap (of_node found) is)))

-- ---- plain values by heads

plain_other_head : (h : Head) (ts : Terms) → (h ≡ True → ⊥) → (h ≡ False → ⊥) → numeral_relation (term h ts) ≡ plain (term h ts)
plain_other_head True ts e f = absurd (e refl)
plain_other_head False ts e f = absurd (f refl)
plain_other_head h ts e f = refl

module _ (a : Arena) (ok : IsArena a) (t : TermId) (n : Node) (is : slice_get a.nodes t.0 ≡ Some n) where
  pub plain_true : n.head ≡ True → Some true ≡ plain (tree a t)
  plain_true e = sym (ap plain (tree-node a ok t n is) ∙ ap (λ h. plain (term h (trees a n.args))) e)

  pub plain_false : n.head ≡ False → Some false ≡ plain (tree a t)
  plain_false e = sym (ap plain (tree-node a ok t n is) ∙ ap (λ h. plain (term h (trees a n.args))) e)

  pub plain_other : (r : Option Bool) → r ≡ numeral_relation (tree a t) → (n.head ≡ True → ⊥) → (n.head ≡ False → ⊥) → r ≡ plain (tree a t)
  plain_other r g e f =
      g ∙ (ap numeral_relation (tree-node a ok t n is) ∙ (plain_other_head n.head (trees a n.args) e f ∙ sym (ap plain (tree-node a ok t n is))))
