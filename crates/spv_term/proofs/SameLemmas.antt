-- The program's `==` of heads and nodes is sameness.
use Rattle.std.proofs.Common.{◌≡◌, ℕ, Bool, true, false, ◌&&◌, List, [], ◌∷◌, ◌++◌, length, position, cond, Option, Some, None, if◌then◌else◌, refl, sym, ap, ◌∙◌, nat_eq, inl, inr}
use Rattle.std.specs.BTreeMap.{BTreeMap, get, Updates}
use Rattle.std.specs.Map.{lookup}
use Rattle.std.specs.Ordering.{is_eq}
use Rattle.std.proofs.lemmas.Bool.{false≢true, eqb-true}
use Rattle.spv_logic.proofs.list.Tests.{left_true, right_true}
use denote.Struct.Field.{Field}
use denote.Struct.Values.{Values}
use denote.Enum.Declared.{Choice, intoss}
use denote.Enum.Compared.{Each, by}
use Rattle.spv_logic.specs.declared.names.names.Symbol.{Symbol}
use Rattle.spv_logic.specs.declared.types.TypeId.{TypeId}
use Rattle.spv_logic.specs.declared.types.Sort.{Sort}
use Rattle.spv_logic.specs.declared.operators.Head.{Head}
use Rattle.spv_logic.proofs.Equality.{int_eq-true}
use Rattle.spv_logic.specs.contracts.types.Sort as sort_type
use Rattle.spv_logic.specs.contracts.types.SortPartialEq.TheImpl as of_sorts
use Rattle.spv_logic.specs.contracts.operators.Head as head_type
use Rattle.spv_logic.specs.contracts.operators.HeadPartialEq.TheImpl as of_heads
use Rattle.spv_term.specs.declared.nodes.Node.{Node}
use Rattle.spv_term.specs.contracts.nodes.NodePartialEq.TheImpl as of_nodes
use Rattle.spv_term.specs.contracts.nodes.NodeEq.TheImpl.Laws as node_laws
use Rattle.spv_term.specs.contracts.nodes.NodeOrd.TheImpl as in_order
use Rattle.spv_term.specs.contracts.nodes.NodeOrd.TheImpl.Laws as order_laws
use Rattle.spv_logic.proofs.names.Places.{position-push}
use Rattle.spv_term.specs.Arena.{node_eq, number_of, ArePlaces, has_node, place_of}
use Rattle.spv_term.proofs.NodeLemmas.{ids_eq-true, node_eq-true, node_eq-refl, node_eq-unique, found_there, found_absent}

-- for each variant, fields that the test finds equal are the same
abbrev AllSound : (Fss : List (List Field)) → Each Bool Fss → Type 0
AllSound [] each = Unit {0}
AllSound (Fs ∷ Fss) each = ((x y : Values Fs) → each.0 x y ≡ true → x ≡ y) × AllSound Fss each.1

-- then so are choices of a variant with its fields
same_choice : (Fss : List (List Field)) (each : Each Bool Fss) → AllSound Fss each → (c d : Choice Fss) → by false false Fss each c d ≡ true → c ≡ d
same_choice [] each sound c d h = absurd c
same_choice (Fs ∷ Fss) each sound (inl x) (inl y) h = ap inl (sound.0 x y h)
same_choice (Fs ∷ Fss) each sound (inl x) (inr d) h = absurd (false≢true h)
same_choice (Fs ∷ Fss) each sound (inr c) (inl y) h = absurd (false≢true h)
same_choice (Fs ∷ Fss) each sound (inr c) (inr d) h = ap inr (same_choice Fss each.1 sound.1 c d h)

type_same : (t u : TypeId) → nat_eq t.0 u.0 ≡ true → t ≡ u
type_same t u h = ap (λ n. record { 0 = n }) (eqb-true t.0 u.0 h)

symbol_same : (x y : Symbol) → nat_eq x.0 y.0 ≡ true → x ≡ y
symbol_same x y h = ap (λ n. record { 0 = n }) (eqb-true x.0 y.0 h)

sort_same : (s t : Sort) → of_sorts.ghosts.eq s t ≡ true → s ≡ t
sort_same s t h =
    sort_type.the_type.to_one s t (ap (intoss sort_type.the_type.parts)
    (same_choice sort_type.the_type.parts
    (_, (_, (_, (_, (_, (_, tt)))))) (
      (λ x y e. refl),
      (
        (λ x y e. refl),
        (
          (λ x y e. refl),
          ((λ x y e i. (type_same x.0 y.0 e i, tt)), ((λ x y e i. (type_same x.0 y.0 e i, tt)), ((λ x y e i. (type_same x.0 y.0 e i, tt)), tt))),
        ),
      ),
    )
    (sort_type.as_values s) (sort_type.as_values t) h))

variable_same : (x y : Symbol × (Sort × (ℕ × Unit {0}))) → (nat_eq x.0.0 y.0.0 && (of_sorts.ghosts.eq x.1.0 y.1.0 && nat_eq x.1.1.0 y.1.1.0)) ≡ true → x ≡ y
variable_same x y h =
    let name = symbol_same x.0 y.0 (left_true _ _ h) in
    let others = right_true (nat_eq x.0.0 y.0.0) _ h in
    let sort = sort_same x.1.0 y.1.0 (left_true _ _ others) in
    let number = eqb-true x.1.1.0 y.1.1.0 (right_true (of_sorts.ghosts.eq x.1.0 y.1.0) _ others) in
    λ i. (name i, (sort i, (number i, tt)))

class_same : (x y : TypeId × (ℕ × Unit {0})) → (nat_eq x.0.0 y.0.0 && nat_eq x.1.0 y.1.0) ≡ true → x ≡ y
class_same x y h =
    let of_type = type_same x.0 y.0 (left_true _ _ h) in
    let number = eqb-true x.1.0 y.1.0 (right_true (nat_eq x.0.0 y.0.0) _ h) in
    λ i. (of_type i, (number i, tt))

start_same : (x y : Symbol × (Sort × Unit {0})) → (nat_eq x.0.0 y.0.0 && of_sorts.ghosts.eq x.1.0 y.1.0) ≡ true → x ≡ y
start_same x y h =
    let name = symbol_same x.0 y.0 (left_true _ _ h) in
    let sort = sort_same x.1.0 y.1.0 (right_true (nat_eq x.0.0 y.0.0) _ h) in
    λ i. (name i, (sort i, tt))

head_same : (h k : Head) → of_heads.ghosts.eq h k ≡ true → h ≡ k
head_same h k e =
    head_type.the_type.to_one h k (ap (intoss head_type.the_type.parts)
    (same_choice head_type.the_type.parts
    (_, (_, (_, (_, (_, (_, (_, (_, (_, (_, (_, (_, (_, (_, (_, (_, (_, (_, (_, (_, (_, (_, (_, (_, (_, (_, (_, (_, (_, (_, (_, (_, tt)))))))))))))))))))))))))))))))) (
      (λ x y e. variable_same x y e),
      (
        (λ x y e. class_same x y e),
        (
          (λ x y e. start_same x y e),
          (
            (λ x y e i. (int_eq-true x.0 y.0 e i, tt)),
            (
              (λ x y e i. (symbol_same x.0 y.0 e i, tt)),
              (
                (λ x y e. refl),
                (
                  (λ x y e. refl),
                  (
                    (λ x y e. refl),
                    (
                      (λ x y e. refl),
                      (
                        (λ x y e. refl),
                        (
                          (λ x y e. refl),
                          (
                            (λ x y e. refl),
                            (
                              (λ x y e. refl),
                              (
                                (λ x y e. refl),
                                (
                                  (λ x y e. refl),
                                  (
                                    (λ x y e. refl),
                                    (
                                      (λ x y e. refl),
                                      (
                                        (λ x y e. refl),
                                        (
                                          (λ x y e. refl),
                                          (
                                            (λ x y e i. (symbol_same x.0 y.0 e i, tt)),
                                            (
                                              (λ x y e i. (symbol_same x.0 y.0 e i, tt)),
                                              (
                                                (λ x y e. refl),
                                                (
                                                  (λ x y e. refl),
                                                  (
                                                    (λ x y e. refl),
                                                    (
                                                      (λ x y e. refl),
                                                      (
                                                        (λ x y e. refl),
                                                        (
                                                          (λ x y e. refl),
                                                          (
                                                            (λ x y e. refl),
                                                            (
                                                              (λ x y e. refl),
                                                              (
                                                                (λ x y e i. (type_same x.0 y.0 e i, tt)),
                                                                ((λ x y e. refl), ((λ x y e. refl), tt)),
                                                              ),
                                                            ),
                                                          ),
                                                        ),
                                                      ),
                                                    ),
                                                  ),
                                                ),
                                              ),
                                            ),
                                          ),
                                        ),
                                      ),
                                    ),
                                  ),
                                ),
                              ),
                            ),
                          ),
                        ),
                      ),
                    ),
                  ),
                ),
              ),
            ),
          ),
        ),
      ),
    )
    (head_type.as_values h) (head_type.as_values k) e))

node_same : (m n : Node) → of_nodes.ghosts.eq m n ≡ true → m ≡ n
node_same m n e =
    let heads = head_same m.head n.head (left_true _ _ e) in
    let args = ids_eq-true m.args n.args (right_true (of_heads.ghosts.eq m.head n.head) _ e) in
    λ i. record { head = heads i; args = args i }

node_itself : (n : Node) → of_nodes.ghosts.eq n n ≡ true
node_itself n = node_laws.laws-law.refl n

-- the program's test of nodes, by which a map finds them, is the definition's
same_test : of_nodes.ghosts.eq ≡ node_eq
same_test = λ i m n. node_eq-unique of_nodes.ghosts.eq node_same node_itself m n i

-- nodes that the program's order does not tell apart are the same
same_place : (n : Node) → (λ (k : Node). is_eq (in_order.ghosts.cmp n k)) ≡ node_eq n
same_place n = λ i k. (sym (order_laws.matches_eq-law n k) ∙ (λ j. same_test j n k)) i

-- ---- what a map of nodes finds, and what it has after a new node was put into it

module _ (nodes ms : List Node) (places : BTreeMap Node ℕ) (n : Node) (e : ms ≡ nodes) (are : ArePlaces places ms) where
  number-is : get (in_order.ghosts.cmp) places n ≡ position (node_eq n) nodes
  number-is = ap (λ t. lookup t places.entries) (same_place n) ∙ are.each n ∙ ap (position (node_eq n)) e

  pub some_found : (i : ℕ) → Some i ≡ get (in_order.ghosts.cmp) places n → (i ≡ place_of nodes n) × (true ≡ has_node nodes n)
  some_found i h = found_there nodes n i (h ∙ number-is)

  pub none_found : None ≡ get (in_order.ghosts.cmp) places n → false ≡ has_node nodes n
  none_found h = found_absent nodes n (h ∙ number-is)

pub number-put : (old new : BTreeMap Node ℕ) (n : Node) (o : Option ℕ) → Updates (in_order.ghosts.cmp) old new n o
    → (m : Node) → number_of new m ≡ (if node_eq n m then o else number_of old m)
number-put old new n o h m =
    ap (λ t. lookup t new.entries) (sym (same_place m)) ∙ h.0 m
    ∙ (λ i. cond (same_place n i m) o (lookup (same_place m i) old.entries))

node_eq-symm : (m n : Node) → node_eq m n ≡ node_eq n m
node_eq-symm m n = sym (node_eq-unique (λ a b. node_eq b a) (λ a b h. sym (node_eq-true b a h)) node_eq-refl m n)

pub ArePlaces-push : (old new : BTreeMap Node ℕ) (nodes ms : List Node) (n : Node) (i : ℕ) → ArePlaces old nodes → has_node nodes n ≡ false
    → ((m : Node) → number_of new m ≡ (if node_eq n m then Some i else number_of old m)) → i ≡ length nodes → ms ≡ nodes ++ n ∷ [] → ArePlaces new ms
ArePlaces-push old new nodes ms n i places absent put last is = record {
  each = λ m. put m ∙ (λ j. cond (node_eq-symm n m j) (Some (last j)) (places.each m j))
      ∙ sym (position-push (node_eq m) nodes n (λ same. ap (has_node nodes) (node_eq-true m n same) ∙ absent)) ∙ ap (position (node_eq m)) (sym is);
}
