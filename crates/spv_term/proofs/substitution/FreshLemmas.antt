-- The greatest number of a name or class, and the variable behind it.
use Rattle.std.proofs.Common.{◌≡◌, ℕ, zero, suc, ◌+◌, ◌-◌, ◌<◌, ◌≤◌, max, Bool, true, false, cond, not, List, [], ◌∷◌, ◌++◌, drop, length, slice_get, Some, IsTrue, Result, Ok, Err, OnOk, OnErr, nat_eq, if◌then◌else◌, refl, sym, ap, ◌∙◌, subst, arith}
use Rattle.std.proofs.lemmas.Bool.{eqb-true, and_parts}
use Rattle.std.proofs.lemmas.List.{length_push}
use Rattle.std.proofs.Math.Nat.{le-max_left, le-max_right}
use Rattle.spv_logic.specs.declared.names.names.Symbol.{Symbol}
use Rattle.spv_logic.specs.declared.conditions.TermId.{TermId}
use Rattle.spv_logic.specs.declared.types.TypeId.{TypeId}
use Rattle.spv_logic.specs.declared.types.Sort.{Sort}
use Rattle.spv_logic.specs.declared.types.Sort.TheVariants as sort
use Rattle.spv_logic.specs.declared.types.Shape.{Shape}
use Rattle.spv_logic.specs.declared.types.Decl.{Decl}
use Rattle.spv_logic.specs.declared.operators.Head.{Head}
use Rattle.spv_logic.specs.Sorts.{result_sort, sort_in_range, head_in_range, numeral_fits}
use Rattle.spv_term.specs.declared.nodes.Node.{Node}
use Rattle.spv_term.specs.declared.nodes.TermFault.{TermFault}
use Rattle.spv_term.specs.Arena.{Arena, node, has_node, with_node, lacks_room}
use Rattle.spv_term.proofs.NodeLemmas.{with_node-there, with_node-absent}
use Rattle.spv_term.specs.substitution.Fresh.{number_of_name, number_for, greatest, numbered, fresh_head, HasFewNumbers}

-- ---- the greatest, from the last node on

pub greatest-drop : (x : Symbol) (s : Sort) (nodes : List Node) (i : ℕ) (n : Node) → slice_get nodes i ≡ Some n
    → greatest x s (drop i nodes) ≡ max (number_for x s n.head) (greatest x s (drop (i + 1) nodes))
greatest-drop x s [] i n at = absurd (cc)
greatest-drop x s (m ∷ nodes) zero n at = let same : m ≡ n = cc in ap (λ (k : Node). max (number_for x s k.head) (greatest x s nodes)) same
greatest-drop x s (m ∷ nodes) (suc i) n at =
    greatest-drop x s nodes i n at ∙ ap (λ j. max (number_for x s n.head) (greatest x s (drop j (m ∷ nodes)))) (next i)
  where
    next : (j : ℕ) → suc (j + 1) ≡ suc j + 1
    next j = omega arith

pub greatest-end : (x : Symbol) (s : Sort) (nodes : List Node) (i : ℕ) → length nodes ≤ i → greatest x s (drop i nodes) ≡ 0
greatest-end x s [] zero h = refl
greatest-end x s [] (suc i) h = refl
greatest-end x s (n ∷ nodes) zero h = absurd (omega arith)
greatest-end x s (n ∷ nodes) (suc i) h = greatest-end x s nodes i (omega arith)

-- ---- the head of a name, sort and number

pub numbered_sort : (shapes : List Shape) (decls : List Decl) (x : Symbol) (s : Sort) (n : ℕ) → result_sort shapes decls (numbered x s n) [] ≡ Some s
numbered_sort shapes decls x sort.Int n = refl
numbered_sort shapes decls x sort.Bool n = refl
numbered_sort shapes decls x sort.List n = refl
numbered_sort shapes decls x (sort.Ptr t) n = refl
numbered_sort shapes decls x (sort.Whole t) n = refl
numbered_sort shapes decls x (sort.Class t) n = refl

pub numbered_range : (shapes : List Shape) (x : Symbol) (s : Sort) (n : ℕ) → IsTrue (sort_in_range shapes s) → IsTrue (head_in_range shapes (numbered x s n))
numbered_range shapes x sort.Int n h = h
numbered_range shapes x sort.Bool n h = h
numbered_range shapes x sort.List n h = h
numbered_range shapes x (sort.Ptr t) n h = h
numbered_range shapes x (sort.Whole t) n h = h
numbered_range shapes x (sort.Class t) n h = h

pub numbered_fits : (x : Symbol) (s : Sort) (n : ℕ) → IsTrue (numeral_fits (numbered x s n))
numbered_fits x sort.Int n = refl
numbered_fits x sort.Bool n = refl
numbered_fits x sort.List n = refl
numbered_fits x (sort.Ptr t) n = refl
numbered_fits x (sort.Whole t) n = refl
numbered_fits x (sort.Class t) n = refl

pub full_from_room : (a : Arena) (n : Node) → IsTrue (lacks_room a n) → length a.nodes ≡ a.most
full_from_room a n h = eqb-true (length a.nodes) a.most (and_parts (not (has_node a.nodes n)) (nat_eq (length a.nodes) a.most) h).1

-- ---- one number more

name_at_most : (x y : Symbol) (n : ℕ) → (if nat_eq x.0 y.0 then n else 0) ≤ n
name_at_most x y n = by (nat_eq x.0 y.0)
  where
    by : (b : Bool) → cond b n 0 ≤ n
    by true = omega arith
    by false = omega arith

class_at_most : (t u : TypeId) (n : ℕ) → (if nat_eq t.0 u.0 then n else 0) ≤ n
class_at_most t u n = by (nat_eq t.0 u.0)
  where
    by : (b : Bool) → cond b n 0 ≤ n
    by true = omega arith
    by false = omega arith

name_number : (y x : Symbol) (s : Sort) (n : ℕ) → number_of_name y (numbered x s n) ≤ n
name_number y x (sort.Class t) n = omega arith
name_number y x sort.Int n = name_at_most y x n
name_number y x sort.Bool n = name_at_most y x n
name_number y x sort.List n = name_at_most y x n
name_number y x (sort.Ptr t) n = name_at_most y x n
name_number y x (sort.Whole t) n = name_at_most y x n

number_of_numbered : (y : Symbol) (r : Sort) (x : Symbol) (s : Sort) (n : ℕ) → number_for y r (numbered x s n) ≤ n
number_of_numbered y (sort.Class t) x (sort.Class u) n = class_at_most t u n
number_of_numbered y (sort.Class t) x sort.Int n = omega arith
number_of_numbered y (sort.Class t) x sort.Bool n = omega arith
number_of_numbered y (sort.Class t) x sort.List n = omega arith
number_of_numbered y (sort.Class t) x (sort.Ptr u) n = omega arith
number_of_numbered y (sort.Class t) x (sort.Whole u) n = omega arith
number_of_numbered y sort.Int x s n = name_number y x s n
number_of_numbered y sort.Bool x s n = name_number y x s n
number_of_numbered y sort.List x s n = name_number y x s n
number_of_numbered y (sort.Ptr t) x s n = name_number y x s n
number_of_numbered y (sort.Whole t) x s n = name_number y x s n

-- the greatest of one node more
greatest-push : (x : Symbol) (s : Sort) (nodes : List Node) (n : Node) (k : ℕ) → greatest x s nodes ≤ k → number_for x s n.head ≤ k → greatest x s (nodes ++ n ∷ []) ≤ k
greatest-push x s [] n k h e = omega (arith, h, e)
greatest-push x s (m ∷ nodes) n k h e =
    let first = le-max_left (number_for x s m.head) (greatest x s nodes) in
    let second = le-max_right (number_for x s m.head) (greatest x s nodes) in
    let others = greatest-push x s nodes n k (omega (arith, h, second)) e in
    omega (arith, h, first, others)

-- a variable of the next number takes no number above the number of terms
pub few_more : (a b : Arena) (x : Symbol) (s : Sort) (h : Head) → h ≡ fresh_head x s a.nodes → b.nodes ≡ with_node a.nodes (node h []) → HasFewNumbers a → HasFewNumbers b
few_more a b x s h e nodes_are few = by (has_node a.nodes (node h [])) refl
  where
    by : (there : Bool) → has_node a.nodes (node h []) ≡ there → HasFewNumbers b
    by true f = record {
      few = λ y r. subst (λ ns. greatest y r ns ≤ length ns) (sym (nodes_are ∙ with_node-there a.nodes (node h []) f)) (few.few y r);
    }
    by false f = record {
      few = λ y r. subst (λ ns. greatest y r ns ≤ length ns) (sym (nodes_are ∙ with_node-absent a.nodes (node h []) f)) (longer y r);
    }
      where
        longer : (y : Symbol) (r : Sort) → greatest y r (a.nodes ++ node h [] ∷ []) ≤ length (a.nodes ++ node h [] ∷ [])
        longer y r =
            let one : length (a.nodes ++ node h [] ∷ []) ≡ length a.nodes + 1 = length_push a.nodes (node h []) in
            let number : number_for y r h ≤ suc (greatest x s a.nodes) = subst (λ k. number_for y r k ≤ suc (greatest x s a.nodes)) (sym e) (number_of_numbered y r x s (suc (greatest x s a.nodes))) in
            let old = few.few y r in
            let here = few.few x s in
            greatest-push y r a.nodes (node h []) (length (a.nodes ++ node h [] ∷ [])) (omega (arith, one, old)) (omega (arith, one, number, here))

-- the same, as the loop goes down
pub greatest-before : (x : Symbol) (s : Sort) (nodes : List Node) (left : ℕ) (n : Node) (number most more : ℕ) → 0 < left → slice_get nodes (left - 1) ≡ Some n
    → number ≡ number_for x s n.head → most ≡ greatest x s (drop left nodes) → more ≡ max number most → more ≡ greatest x s (drop (left - 1) nodes)
greatest-before x s nodes left n number most more positive at is_number is_most is_more =
    let next : left - 1 + 1 ≡ left = omega (arith, positive) in
    is_more ∙ ((λ i. max (is_number i) ((is_most ∙ ap (λ j. greatest x s (drop j nodes)) (sym next)) i)) ∙ sym (greatest-drop x s nodes (left - 1) n at))

pub next_head : (x : Symbol) (s : Sort) (number : ℕ) (nodes : List Node) → number ≡ greatest x s nodes → numbered x s (number + 1) ≡ fresh_head x s nodes
next_head x s number nodes e = let next : number + 1 ≡ suc (greatest x s nodes) = omega (arith, e) in ap (numbered x s) next

-- whatever `make` answers
pub few_kept : (a b : Arena) (x : Symbol) (s : Sort) (h : Head) (r : Result TermId TermFault) → h ≡ fresh_head x s a.nodes
    → OnOk r (b ≡ record a { nodes = with_node a.nodes (node h []) }) → OnErr r (b ≡ a) → HasFewNumbers a → HasFewNumbers b
few_kept a b x s h (Ok t) e is same few = few_more a b x s h e (ap (λ (c : Arena). c.nodes) is) few
few_kept a b x s h (Err f) e is same few = subst HasFewNumbers (sym same) few
