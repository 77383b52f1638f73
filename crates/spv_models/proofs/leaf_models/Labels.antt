-- Terms of equal labels are the same ones.
use Rattle.std.proofs.Common.{◌≡◌, ℕ, zero, suc, ◌<◌, Bool, true, false, cond, List, [], ◌∷◌, length, refl, sym, ap, ◌∙◌, subst, Some}
use mathlib.Core.Path.{ap₂}
use Rattle.std.specs.Prelude.{slice_get}
use Rattle.std.proofs.lemmas.Bool.{false≢true, eqb-true, eq-eqb}
use Rattle.std.proofs.lemmas.Option.{same_Some}
use Rattle.spv_logic.proofs.list.Tests.{left_true, right_true}
use Rattle.spv_logic.specs.declared.conditions.TermId.{TermId}
use Rattle.spv_logic.specs.declared.operators.Head.{Head}
use Rattle.spv_logic.specs.Terms.{Term, Terms, term, term_eq}
use Rattle.spv_logic.proofs.Equality.{term_eq-true, term_eq-refl}
use Rattle.spv_term.specs.Arena.{Arena, IsArena, AllBelow, tree, trees}
use Rattle.spv_term.proofs.ArenaLemmas.{node_of, tree-node, HasOneId-arena}
use Rattle.spv_term.proofs.TreeLemmas.{AllBelow-at}
use Rattle.spv_atoms.proofs.Members.{has}
use Rattle.spv_term.specs.closure.Joined.{Joined, AllJoined, congruent, none, more, IsAmong, IsTold, JoinedIn}
use Rattle.spv_term.specs.closure.Laws.{Listed}
use Rattle.spv_models.specs.leaf_models.Labels.{label_in, same_labels, HasId, AreExact}
use Rattle.spv_models.specs.leaf_models.Leaves.{IsSameness, all_same}

arguments_are : (h k : Head) (ss ts : Terms) → term h ss ≡ term k ts → ss ≡ ts
arguments_are h k ss ts e = cc

head_is : (h k : Head) (ss ts : Terms) → term h ss ≡ term k ts → h ≡ k
head_is h k ss ts e = cc

module _ (a : Arena) (ok : IsArena a) (label : TermId → ℕ) where
  -- the label of the tree of an id is the id's
  label-at : (ids : List TermId) → AllBelow (length a.nodes) ids → (i : ℕ) (t : TermId) → slice_get ids i ≡ Some t → t.0 < length a.nodes → label_in a label ids (tree a t) ≡ label t
  label-at [] below i t at inside = absurd (cc)
  label-at (u ∷ us) below i t at inside = by_case (term_eq (tree a u) (tree a t)) refl i at (λ j k. label-at us below.1 j t k inside)
    where
      by_case : (b : Bool) → term_eq (tree a u) (tree a t) ≡ b → (j : ℕ) → slice_get (u ∷ us) j ≡ Some t → ((k : ℕ) → slice_get us k ≡ Some t → label_in a label us (tree a t) ≡ label t)
          → cond b (label u) (label_in a label us (tree a t)) ≡ label t
      by_case true e j k later = ap label (HasOneId-arena a ok u t below.0 inside (term_eq-true (tree a u) (tree a t) e))
      by_case false e zero k later = absurd (false≢true (sym e ∙ (ap (λ v. term_eq (tree a u) (tree a v)) (sym (same_Some u t k)) ∙ term_eq-refl (tree a u))))
      by_case false e (suc j) k later = later j k

  module _ (ids : List TermId) (Told : TermId → TermId → Type 0) (exact : AreExact a ids Told label) where
    inside : (t : TermId) → Listed ids t → t.0 < length a.nodes
    inside t l = AllBelow-at (length a.nodes) ids l.0 t exact.in_range l.1

    pub label-tree : (t : TermId) → Listed ids t → label_in a label ids (tree a t) ≡ label t
    label-tree t l = label-at ids exact.in_range l.0 t l.1 (inside t l)

    -- each of these is listed
    record AreListed (xs : List TermId) : Type 0 where
      each : (i : ℕ) (u : TermId) → slice_get xs i ≡ Some u → Listed ids u

    all_joined : (xs ys : List TermId) → AreListed xs → AreListed ys → all_same (same_labels a label ids) (trees a xs) (trees a ys) ≡ true → AllJoined (IsAmong a (Listed ids)) (IsTold a Told) (trees a xs) (trees a ys)
    all_joined [] [] lx ly h = none
    all_joined [] (y ∷ ys) lx ly h = absurd (false≢true h)
    all_joined (x ∷ xs) [] lx ly h = absurd (false≢true h)
    all_joined (x ∷ xs) (y ∷ ys) lx ly h =
        let px = lx.each zero x refl in
        let py = ly.each zero y refl in
        more (tree a x) (tree a y) (trees a xs) (trees a ys)
        (exact.derived x y px py (sym (label-tree x px) ∙ (eqb-true (label_in a label ids (tree a x)) (label_in a label ids (tree a y)) (left_true _ _ h) ∙ label-tree y py)))
        (all_joined xs ys (record { each = λ i u e. lx.each (suc i) u e }) (record { each = λ i u e. ly.each (suc i) u e }) (right_true (same_labels a label ids (tree a x) (tree a y)) _ h))

    -- the node of an added term, with its arguments
    record IsNodeOf (t : TermId) (h : Head) (ss : Terms) : Type 0 where
      args : List TermId
      are : trees a args ≡ ss
      listed : AreListed args

    node-of : (t : TermId) (h : Head) (ss : Terms) → Listed ids t → tree a t ≡ term h ss → IsNodeOf t h ss
    node-of t h ss l e =
        let n = node_of a ok t (inside t l) in
        record {
          args = n.0.args;
          are = arguments_are n.0.head h (trees a n.0.args) ss (sym (tree-node a ok t n.0 n.1) ∙ e);
          listed = record { each = λ i u at. exact.arguments t n.0 l n.1 i u at };
        }

    same-congruent : (h : Head) (ss us : Terms) → HasId a ids (term h ss) → HasId a ids (term h us) → all_same (same_labels a label ids) ss us ≡ true → same_labels a label ids (term h ss) (term h us) ≡ true
    same-congruent h ss us s u e =
        let m = node-of s.id h ss s.listed s.is in
        let n = node-of u.id h us u.listed u.is in
        let args : AllJoined (IsAmong a (Listed ids)) (IsTold a Told) ss us =
        subst (λ (x : Terms). AllJoined (IsAmong a (Listed ids)) (IsTold a Told) x us) m.are
        (subst (λ (y : Terms). AllJoined (IsAmong a (Listed ids)) (IsTold a Told) (trees a m.args) y) n.are
        (all_joined m.args n.args m.listed n.listed (ap₂ (all_same (same_labels a label ids)) m.are n.are ∙ e))) in
        let joined : JoinedIn a (Listed ids) Told s.id u.id =
        subst (λ (x : Term). Joined (IsAmong a (Listed ids)) (IsTold a Told) x (tree a u.id)) (sym s.is)
        (subst (λ (y : Term). Joined (IsAmong a (Listed ids)) (IsTold a Told) (term h ss) y) (sym u.is)
        (congruent h ss us (record { id = s.id; added = s.listed; is = s.is }) (record { id = u.id; added = u.listed; is = u.is }) args)) in
        eq-eqb (label_in a label ids (term h ss)) (label_in a label ids (term h us))
        (ap (label_in a label ids) (sym s.is)
        ∙ (label-tree s.id s.listed ∙ (exact.found s.id u.id s.listed u.listed joined ∙ (sym (label-tree u.id u.listed) ∙ ap (label_in a label ids) u.is))))

    pub labels-same : (ts : List Term) → ((t : Term) → has ts t ≡ true → HasId a ids t) → IsSameness ts (same_labels a label ids)
    labels-same ts have = record {
      itself = λ s. eq-eqb (label_in a label ids s) (label_in a label ids s) refl;
      turned = λ s t e. eq-eqb (label_in a label ids t) (label_in a label ids s) (sym (eqb-true (label_in a label ids s) (label_in a label ids t) e));
      through = λ s t u e f. eq-eqb (label_in a label ids s) (label_in a label ids u) (eqb-true (label_in a label ids s) (label_in a label ids t) e ∙ eqb-true (label_in a label ids t) (label_in a label ids u) f);
      congruent = λ h ss us m n e. same-congruent h ss us (have (term h ss) m) (have (term h us) n) e;
    }
