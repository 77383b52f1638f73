-- Taking one number more, and what it means that all were taken.
use Rattle.std.proofs.Common.{◌≡◌, ℕ, suc, ◌+◌, ◌<◌, ◌≤◌, Bool, true, false, cond, List, [], map, length, slice_get, Option, Some, if◌then◌else◌, refl, sym, ap, ◌∙◌, subst, inl, inr, arith}
use Rattle.std.specs.Option.{unwrap_or}
use Rattle.std.proofs.lemmas.Bool.{false≢true, eqb-true, eq-eqb, cases_lt}
use Rattle.std.proofs.lemmas.List.{length-map}
use Rattle.std.proofs.lemmas.Option.{same_Some}
use Rattle.spv_logic.specs.declared.names.names.Symbol.{Symbol}
use Rattle.spv_logic.specs.declared.conditions.TermId.{TermId}
use Rattle.spv_logic.specs.declared.types.TypeId.{TypeId}
use Rattle.spv_logic.specs.declared.types.Sort.{Sort}
use Rattle.spv_logic.specs.declared.types.Shape.{Shape}
use Rattle.spv_logic.specs.declared.types.Decl.{Decl}
use Rattle.spv_logic.specs.declared.operators.Head.{Head}
use Rattle.spv_logic.specs.declared.operators.Head.TheVariants as head
use Rattle.spv_logic.specs.Sorts.{result_sort, variable_sort, head_in_range, numeral_fits}
use Rattle.spv_logic.specs.Terms.{Term}
use Rattle.spv_logic.specs.Substitution.{is_variable}
use Rattle.spv_term.specs.declared.nodes.Node.{Node}
use Rattle.spv_term.specs.Arena.{Arena, IsArena, Extends, tree, sort_at, sorts_at}
use Rattle.spv_term.proofs.ArenaLemmas.{node_of, tree-node, sort-node, length-Extends, tree-Extends}
use Rattle.spv_program.specs.Lists.{same_name}
use Rattle.spv_program.specs.Types.{same_type}
use Rattle.spv_program.specs.Terms.{alone}
use Rattle.spv_program.specs.Supplies.{Supply, full_supply, without_name, without_class, fresh_variable, fresh_class, fresh_like}
use Rattle.spv_term.specs.substitution.Images.{head_of, head_at}
use Rattle.spv_term.specs.substitution.Parts.{Lacks}
use Rattle.spv_term.specs.substitution.Fresh.{number_of_name, number_of_class}
use Rattle.spv_term.proofs.substitution.ImageLemmas.{variable_args, variable_alone}
use Rattle.spv_assign.specs.supply.Numbers.{Taken, last_of_name, last_of_class, supply_of, IsFresh, HasVariable, HasClass, AreThere}
use Rattle.spv_assign.proofs.supply.Counting.{has, pigeons, has-map}

-- ---- variables alone

pub variable_result : (shapes : List Shape) (decls : List Decl) (h : Head) → is_variable h ≡ true → result_sort shapes decls h [] ≡ Some (variable_sort h)
variable_result shapes decls (head.Var x s n) e = refl
variable_result shapes decls (head.ClassVar t n) e = refl
variable_result shapes decls (head.Start x s) e = refl
variable_result shapes decls _ e = absurd (false≢true e)

pub variable_fits : (h : Head) → is_variable h ≡ true → numeral_fits h ≡ true
variable_fits (head.Var x s n) e = refl
variable_fits (head.ClassVar t n) e = refl
variable_fits (head.Start x s) e = refl
variable_fits _ e = absurd (false≢true e)

-- ---- the head of a variable that is there

module _ (a : Arena) (ok : IsArena a) (t : TermId) (n : Node) (at : slice_get a.nodes t.0 ≡ Some n) where
  pub head_there : (h : Head) → n.head ≡ h → head_at a t ≡ h
  head_there h e = ap head_of (tree-node a ok t n at) ∙ e

  pub range_there : (h : Head) → n.head ≡ h → head_in_range a.shapes h ≡ true
  range_there h e = ap (head_in_range a.shapes) (sym e) ∙ (ok.nodes t.0 n at).types

  pub sort_there : (h : Head) → n.head ≡ h → is_variable h ≡ true → sort_at a t ≡ variable_sort h
  sort_there h e v =
      let given = variable_args a.shapes a.decls h (sorts_at a n.args) (sort_at a t) v (ap (λ k. result_sort a.shapes a.decls k (sorts_at a n.args)) (sym e) ∙ sort-node a ok t n at) in
      same_Some (sort_at a t) (variable_sort h)
      (sym (sort-node a ok t n at) ∙ ((λ i. result_sort a.shapes a.decls (e i) (given i)) ∙ variable_result a.shapes a.decls h v))

-- a variable or class that is neither is a start value
pub start_like : (h : Head) (n : Supply) → is_variable h ≡ true → ((x : Symbol) (s : Sort) (k : ℕ) → h ≡ head.Var x s k → ⊥) → ((t : TypeId) (k : ℕ) → h ≡ head.ClassVar t k → ⊥)
    → fresh_like h n ≡ record { head = h; supply = n }
start_like (head.Var x s k) n v no_name no_class = absurd (no_name x s k refl)
start_like (head.ClassVar t k) n v no_name no_class = absurd (no_class t k refl)
start_like _ n v no_name no_class = refl

-- ---- the supply

pub same_taken : (old new : Taken) → new.names ≡ old.names → new.classes ≡ old.classes → supply_of new ≡ supply_of old
same_taken old new e f = λ i. record { names = last_of_name (e i); classes = last_of_class (f i) }

pub unwrap_cond : (b : Bool) (k : ℕ) (o : Option ℕ) → unwrap_or (cond b (Some k) o) 0 ≡ cond b k (unwrap_or o 0)
unwrap_cond true k o = refl
unwrap_cond false k o = refl

-- a start value is taken as it is
pub start_fresh : (a : Arena) (ok : IsArena a) (t : TermId) (n : Node) (s : Taken) → slice_get a.nodes t.0 ≡ Some n → t.0 < length a.nodes → is_variable (head_at a t) ≡ true
    → ((x : Symbol) (r : Sort) (k : ℕ) → n.head ≡ head.Var x r k → ⊥) → ((u : TypeId) (k : ℕ) → n.head ≡ head.ClassVar u k → ⊥) → IsFresh a t s (fresh_like (head_at a t) (supply_of s))
start_fresh a ok t n s at there v no_name no_class =
    let own : head_at a t ≡ n.head = head_there a ok t n at n.head refl in
    let same : fresh_like (head_at a t) (supply_of s) ≡ record { head = head_at a t; supply = supply_of s } =
    start_like (head_at a t) (supply_of s) v (λ x r k e. no_name x r k (sym own ∙ e)) (λ u k e. no_class u k (sym own ∙ e)) in
    subst (IsFresh a t s) (sym same) (record { there = there; is_tree = variable_alone a ok t there v; supply = refl })

-- one more number than the last one
pub next_name : (x : Symbol) (s : Sort) (n : Supply) (k : ℕ) (y : Term) → k ≡ n.names x → y ≡ alone (head.Var x s (k + 1)) → y ≡ alone (fresh_variable x s n).head
next_name x s n k y e f = let next : k + 1 ≡ suc (n.names x) = omega (arith, e) in f ∙ ap (λ j. alone (head.Var x s j)) next

pub next_class : (t : TypeId) (n : Supply) (k : ℕ) (y : Term) → k ≡ n.classes t → y ≡ alone (head.ClassVar t (k + 1)) → y ≡ alone (fresh_class t n).head
next_class t n k y e f = let next : k + 1 ≡ suc (n.classes t) = omega (arith, e) in f ∙ ap (λ j. alone (head.ClassVar t j)) next

pub nothing_taken : (s : Taken) → s.names ≡ [] → s.classes ≡ [] → supply_of s ≡ full_supply
nothing_taken s e f = λ i. record { names = last_of_name (e i); classes = last_of_class (f i) }

pub name_from : (x y : Symbol) → same_name x y ≡ true → x ≡ y
name_from x y e = ap (λ n. record { 0 = n }) (eqb-true x.0 y.0 e)

pub type_from : (t u : TypeId) → same_type t u ≡ true → t ≡ u
type_from t u e = ap (λ n. record { 0 = n }) (eqb-true t.0 u.0 e)

pub taken_name : (old new : Taken) (x : Symbol) (number : ℕ) → number ≡ last_of_name old.names x + 1
    → ((y : Symbol) → last_of_name new.names y ≡ (if same_name x y then number else last_of_name old.names y)) → new.classes ≡ old.classes
    → supply_of new ≡ without_name x (supply_of old)
taken_name old new x number is puts classes = λ i. record { names = λ y. each y i; classes = last_of_class (classes i) }
  where
    next : number ≡ suc (last_of_name old.names x)
    next = omega (arith, is)

    by : (y : Symbol) (b : Bool) → same_name x y ≡ b → cond b number (last_of_name old.names y) ≡ cond b (suc (last_of_name old.names y)) (last_of_name old.names y)
    by y true e = next ∙ ap (λ z. suc (last_of_name old.names z)) (name_from x y e)
    by y false e = refl

    each : (y : Symbol) → last_of_name new.names y ≡ (if same_name x y then suc (last_of_name old.names y) else last_of_name old.names y)
    each y = puts y ∙ by y (same_name x y) refl

pub taken_class : (old new : Taken) (t : TypeId) (number : ℕ) → number ≡ last_of_class old.classes t + 1
    → ((u : TypeId) → last_of_class new.classes u ≡ (if same_type t u then number else last_of_class old.classes u)) → new.names ≡ old.names
    → supply_of new ≡ without_class t (supply_of old)
taken_class old new t number is puts names = λ i. record { names = last_of_name (names i); classes = λ u. each u i }
  where
    next : number ≡ suc (last_of_class old.classes t)
    next = omega (arith, is)

    by : (u : TypeId) (b : Bool) → same_type t u ≡ b → cond b number (last_of_class old.classes u) ≡ cond b (suc (last_of_class old.classes u)) (last_of_class old.classes u)
    by u true e = next ∙ ap (λ z. suc (last_of_class old.classes z)) (type_from t u e)
    by u false e = refl

    each : (u : TypeId) → last_of_class new.classes u ≡ (if same_type t u then suc (last_of_class old.classes u) else last_of_class old.classes u)
    each u = puts u ∙ by u (same_type t u) refl

-- ---- each number has a term

pub AreThere-Extends : (a b : Arena) (n : Supply) → Extends a b → AreThere a n → AreThere b n
AreThere-Extends a b n more h = record {
  names = λ x k low high.
      (let v = h.names x k low high in
      record {
        id = v.id;
        of_sort = v.of_sort;
        there = let longer = length-Extends more in let there = v.there in omega (arith, there, longer);
        is_head = ap head_of (tree-Extends more v.id v.there) ∙ v.is_head;
      });
  classes = λ t k low high.
      (let v = h.classes t k low high in
      record {
        id = v.id;
        there = let longer = length-Extends more in let there = v.there in omega (arith, there, longer);
        is_head = ap head_of (tree-Extends more v.id v.there) ∙ v.is_head;
      });
}

pub name_there : (a : Arena) (x : Symbol) (s : Sort) (n : Supply) (t : TermId) → t.0 < length a.nodes → tree a t ≡ alone (fresh_variable x s n).head → AreThere a n → AreThere a (without_name x n)
name_there a x s n t there is h = record { names = λ y k low high. by y k low (same_name x y) refl high; classes = h.classes }
  where
    last : (y : Symbol) (k : ℕ) → x ≡ y → k ≡ suc (n.names y) → HasVariable a y k
    last y k e f = record {
      id = t;
      of_sort = s;
      there = there;
      is_head = ap head_of is ∙ (λ i. head.Var (e i) s (at i));
    }
      where
        at : suc (n.names x) ≡ k
        at = ap (λ z. suc (n.names z)) e ∙ sym f

    by : (y : Symbol) (k : ℕ) → 0 < k → (b : Bool) → same_name x y ≡ b → k ≤ cond b (suc (n.names y)) (n.names y) → HasVariable a y k
    by y k low false e high = h.names y k low high
    by y k low true e high = elim (cases_lt k (suc (n.names y))) [
      | inl below ↦ h.names y k low (omega (arith, below))
      | inr above ↦ last y k (name_from x y e) (omega (arith, above, high))
    ]

pub class_there : (a : Arena) (c : TypeId) (n : Supply) (t : TermId) → t.0 < length a.nodes → tree a t ≡ alone (fresh_class c n).head → AreThere a n → AreThere a (without_class c n)
class_there a c n t there is h = record { names = h.names; classes = λ u k low high. by u k low (same_type c u) refl high }
  where
    last : (u : TypeId) (k : ℕ) → c ≡ u → k ≡ suc (n.classes u) → HasClass a u k
    last u k e f = record {
      id = t;
      there = there;
      is_head = ap head_of is ∙ (λ i. head.ClassVar (e i) (at i));
    }
      where
        at : suc (n.classes c) ≡ k
        at = ap (λ z. suc (n.classes z)) e ∙ sym f

    by : (u : TypeId) (k : ℕ) → 0 < k → (b : Bool) → same_type c u ≡ b → k ≤ cond b (suc (n.classes u)) (n.classes u) → HasClass a u k
    by u k low false e high = h.classes u k low high
    by u k low true e high = elim (cases_lt k (suc (n.classes u))) [
      | inl below ↦ h.classes u k low (omega (arith, below))
      | inr above ↦ last u k (type_from c u e) (omega (arith, above, high))
    ]

-- ---- where all numbers were taken

module _ (a : Arena) (ok : IsArena a) where
  numbered_node : (f : Head → ℕ) (t : TermId) (k : ℕ) → t.0 < length a.nodes → f (head_at a t) ≡ k → has (map (λ (m : Node). f m.head) a.nodes) k ≡ true
  numbered_node f t k there e =
      let n = node_of a ok t there in
      has-map (λ (m : Node). f m.head) a.nodes t.0 n.0 k n.1 (ap f (sym (ap head_of (tree-node a ok t n.0 n.1))) ∙ e)

  count : (f : Head → ℕ) (n : ℕ) → ((k : ℕ) → 0 < k → k ≤ n → has (map (λ (m : Node). f m.head) a.nodes) k ≡ true) → n ≤ length a.nodes
  count f n h = let e = pigeons n (map (λ (m : Node). f m.head) a.nodes) h in omega (arith, e, length-map a.nodes (λ (m : Node). f m.head))

  same_number : (x : Symbol) (s : Sort) (k : ℕ) → number_of_name x (head.Var x s k) ≡ k
  same_number x s k = ap (λ b. cond b k 0) (eq-eqb x.0 x.0 refl)

  same_class : (t : TypeId) (k : ℕ) → number_of_class t (head.ClassVar t k) ≡ k
  same_class t k = ap (λ b. cond b k 0) (eq-eqb t.0 t.0 refl)

  name_has : (x : Symbol) (n : Supply) → AreThere a n → (k : ℕ) → 0 < k → k ≤ n.names x → has (map (λ (m : Node). number_of_name x m.head) a.nodes) k ≡ true
  name_has x n h k low high =
      let v = h.names x k low high in
      numbered_node (number_of_name x) v.id k v.there (ap (number_of_name x) v.is_head ∙ same_number x v.of_sort k)

  class_has : (t : TypeId) (n : Supply) → AreThere a n → (k : ℕ) → 0 < k → k ≤ n.classes t → has (map (λ (m : Node). number_of_class t m.head) a.nodes) k ≡ true
  class_has t n h k low high =
      let v = h.classes t k low high in
      numbered_node (number_of_class t) v.id k v.there (ap (number_of_class t) v.is_head ∙ same_class t k)

  -- one number more than there are is not there
  one_more : (f : Head → ℕ) (n : ℕ) (u : TermId) → ((k : ℕ) → 0 < k → k ≤ n → has (map (λ (m : Node). f m.head) a.nodes) k ≡ true) → u.0 < length a.nodes → f (head_at a u) ≡ suc n → suc n ≤ length a.nodes
  one_more f n u h there e = count f (suc n) each
    where
      each : (k : ℕ) → 0 < k → k ≤ suc n → has (map (λ (m : Node). f m.head) a.nodes) k ≡ true
      each k low high = elim (cases_lt k (suc n)) [
        | inl below ↦ h k low (omega (arith, below))
        | inr above ↦ (let same : suc n ≡ k = omega (arith, above, high) in numbered_node f u k there (e ∙ same))
      ]

  pub no_name_left : (x : Symbol) (s : Sort) (n : Supply) → n.names x ≡ 4294967295 → AreThere a n → Lacks a (alone (fresh_variable x s n).head)
  no_name_left x s n e h =
      let enough = count (number_of_name x) (n.names x) (name_has x n h) in
      let few = ok.room in
      let limit = ok.most in
      record {
        full = omega (arith, e, enough, few, limit);
        absent = λ u there is.
            (let more = one_more (number_of_name x) (n.names x) u (name_has x n h) there (ap (number_of_name x) (ap head_of is) ∙ same_number x s (suc (n.names x))) in
            absurd (omega (arith, e, more, few, limit)));
      }

  pub no_class_left : (t : TypeId) (n : Supply) → n.classes t ≡ 4294967295 → AreThere a n → Lacks a (alone (fresh_class t n).head)
  no_class_left t n e h =
      let enough = count (number_of_class t) (n.classes t) (class_has t n h) in
      let few = ok.room in
      let limit = ok.most in
      record {
        full = omega (arith, e, enough, few, limit);
        absent = λ u there is.
            (let more = one_more (number_of_class t) (n.classes t) u (class_has t n h) there (ap (number_of_class t) (ap head_of is) ∙ same_class t (suc (n.classes t))) in
            absurd (omega (arith, e, more, few, limit)));
      }
