-- A graph that goes on from another one.
use Rattle.std.proofs.Common.{Bool, true, false, nat_le, if◌then◌else◌, ◌≡◌, ◌≢◌, ℕ, zero, suc, ◌+◌, ◌<◌, ◌≤◌, List, [], ◌∷◌, ◌++◌, length, get_or, slice_get, Some, refl, sym, ap, ◌∙◌, subst, inl, inr, ◌⊎◌, arith}
use Rattle.std.proofs.lemmas.List.{append-nil, append_assoc}
use Rattle.spv_logic.specs.declared.conditions.TermId.{TermId}
use Rattle.spv_term.specs.declared.nodes.Node.{Node}
use Rattle.spv_term.specs.Arena.{AllBelow}
use Rattle.spv_union_find.specs.declared.classes.joins.Cause.{Cause}
use Rattle.spv_union_find.specs.declared.classes.joins.Cause.TheVariants.{Congruent}
use Rattle.spv_union_find.specs.declared.classes.joins.Join.{Join}
use Rattle.spv_union_find.specs.classes.Classes.{Classes, label, size, join_of, AreJoins, IsJoin, HasMembers}
use Rattle.spv_union_find.proofs.classes.Counts.{joins_few}
use Rattle.spv_union_find.proofs.classes.Steps.{five, join_of-is}
use Rattle.spv_union_find.proofs.classes.Lists.{get_left, get_push, get_within, same_or_apart}
use Rattle.spv_union_find.specs.signatures.Signatures.{Signature}
use Rattle.spv_congruence.specs.declared.facts.Equal.{Equal}
use Rattle.spv_congruence.specs.Graph.{HasNode, IsEarly, IsDue, IsLevel, Waits, HasLabel, label_of, labels}
use Rattle.spv_congruence.specs.Keep.{Kept, Fits, Enters, OtherTable, GoesOn, with_join, IsNow, IsNode, HasUsers, uses_at, signed}
use Rattle.spv_congruence.proofs.EnterLemmas.{entered_same, entered_apart, are_congruent}
use Rattle.spv_congruence.proofs.JoinLemmas.{one_joined, skip_equal}

pub goes_refl : (k : Kept) → GoesOn k k
goes_refl k = record { is = refl; count = refl; joins = []; joins_are = sym (append-nil k.classes.joins); rows = []; rows_are = sym (append-nil k.table.rows); table = omega arith; room = omega arith }

pub goes_trans : (a b c : Kept) → GoesOn a b → GoesOn b c → GoesOn a c
goes_trans a b c f g = record {
  is = g.is ∙ ap (λ (k : Kept). record k { table = c.table; classes = c.classes; room = c.room }) f.is;
  count = g.count ∙ f.count;
  joins = f.joins ++ g.joins;
  joins_are = g.joins_are ∙ (ap (λ js. js ++ g.joins) f.joins_are ∙ append_assoc a.classes.joins f.joins g.joins);
  rows = f.rows ++ g.rows;
  rows_are = g.rows_are ∙ (ap (λ rs. rs ++ g.rows) f.rows_are ∙ append_assoc a.table.rows f.rows g.rows);
  table = (let h = f.table in let k = g.table in omega (arith, h, k));
  room = (let h = f.room in let k = g.room in omega (arith, h, k));
}

pub goes_fits : (a b : Kept) → GoesOn a b → Fits a → Fits b
goes_fits a b g fits = subst Fits (sym g.is) (record {
  count = λ t n is. (let h = fits.count t n is in let e = g.count in omega (arith, h, e));
  args = λ t n is. subst (λ m. AllBelow m n.args) (sym g.count) (fits.args t n is);
  room = λ t n is. (let h = fits.room t n is in let e = g.room in omega (arith, h, e));
  uses = fits.uses;
  terms = fits.terms;
  facts = fits.facts;
})

pub classes_of : (a b : Kept) → OtherTable a b → b.classes ≡ a.classes
classes_of a b o = ap (λ k. k.classes) o.is

pub goes_table : (a b : Kept) (more : List Signature) → OtherTable a b → b.table.rows ≡ a.table.rows ++ more → GoesOn a b
goes_table a b more o e = record {
  is = o.is ∙ ap (λ (c : Classes). record a { table = b.table; classes = c; room = b.room }) (sym (classes_of a b o));
  count = ap (λ c. c.count) (classes_of a b o);
  joins = [];
  joins_are = ap (λ c. c.joins) (classes_of a b o) ∙ sym (append-nil a.classes.joins);
  rows = more;
  rows_are = e;
  table = o.table;
  room = o.room;
}

pub goes_still : (a b : Kept) → OtherTable a b → b.table.rows ≡ a.table.rows → GoesOn a b
goes_still a b o e = goes_table a b [] o (e ∙ sym (append-nil a.table.rows))

-- ---- a term is entered

module _ (a b : Kept) (t q : TermId) (o : OtherTable a b) (e : Enters a b t q) (fits : Fits a) (are : AreJoins a.classes.count a.classes.joins) (count : ℕ) (early : IsEarly a.added count t) where
  module _ (es : List Equal) (rest : List TermId) (h : IsNow a count es (rest ++ t ∷ [])) where
    pub first_is_node : IsNode a.nodes q
    first_is_node =
        let c = are_congruent a.nodes a.added count a.told (length a.told) a.classes.count a.classes.joins are a.table.rows es rest t e.node q h early e.is e.first in
        (c.right, c.right_is)

    now_is : (fs : List Equal) → IsLevel a.nodes a.added count a.told (length a.told) a.classes.joins (a.table.rows ++ signed e.node.head (labels a.classes.joins e.node) q ∷ []) fs rest → IsNow b count fs rest
    now_is fs l =
        let rows = subst (λ rs. IsLevel a.nodes a.added count a.told (length a.told) a.classes.joins rs fs rest) (sym e.rows) l in
        subst (λ k. IsLevel k.nodes k.added count k.told (length k.told) k.classes.joins b.table.rows fs rest) (sym o.is) rows

    pub now_same : label_of a.classes.joins q ≡ label_of a.classes.joins t → IsNow b count es rest
    now_same same = now_is es (entered_same a.nodes a.added count a.told (length a.told) a.classes.count a.classes.joins are a.table.rows es rest t e.node q h early e.is e.first same)

    pub now_apart : IsNow b count (es ++ record { left = t; right = q; cause = Congruent } ∷ []) rest
    now_apart = now_is _ (entered_apart a.nodes a.added count a.told (length a.told) a.classes.count a.classes.joins are a.table.rows es rest t e.node q h early e.is e.first _ refl refl refl)

-- ---- terms that use a class

pub waits_left : (ws more : List TermId) (t : TermId) → Waits ws t → Waits (ws ++ more) t
waits_left ws more t w = (w.0, get_left ws more w.0 (get_within ws w.0 t w.1) ∙ w.1)

pub waits_right : (ws more : List TermId) (t : TermId) → Waits more t → Waits (ws ++ more) t
waits_right [] more t w = w
waits_right (v ∷ ws) more t w = let r = waits_right ws more t w in (suc r.0, r.1)

pub got_at : (xs : List ℕ) (i d : ℕ) → i < length xs → slice_get xs i ≡ Some (get_or xs i d)
got_at [] i d h = absurd (omega arith)
got_at (x ∷ xs) zero d h = refl
got_at (x ∷ xs) (suc i) d h = got_at xs i d (omega arith)

pub uses_more : (xs : List ℕ) (uses : List (List TermId)) (users vs : List TermId) (i x0 : ℕ) → slice_get xs i ≡ Some x0 → vs ≡ users ++ uses_at uses x0
    → ((k x : ℕ) → k < i → slice_get xs k ≡ Some x → (t : TermId) → Waits (uses_at uses x) t → Waits users t)
    → (k x : ℕ) → k < i + 1 → slice_get xs k ≡ Some x → (t : TermId) → Waits (uses_at uses x) t → Waits vs t
uses_more xs uses users vs i x0 at e old k x less there t w = subst (λ ws. Waits ws t) (sym e) (by (same_or_apart k i))
  where
    one : (x y : ℕ) → Some x ≡ Some y → x ≡ y
    one x y e = cc

    by : (k ≡ i) ⊎ (k ≢ i) → Waits (users ++ uses_at uses x0) t
    by (inl f) =
        let g : x ≡ x0 = one x x0 (sym there ∙ (ap (slice_get xs) f ∙ at)) in
        waits_right users (uses_at uses x0) t (subst (λ y. Waits (uses_at uses y) t) g w)
    by (inr a) = waits_left users (uses_at uses x0) t (old k x (omega (arith, less, a)) there t w)

pub all_users : (k : Kept) (l : ℕ) (members : List ℕ) (users : List TermId) (n : ℕ) → Fits k → HasMembers k.classes l members → length members ≤ n
    → ((i x : ℕ) → i < n → slice_get members i ≡ Some x → (t : TermId) → Waits (uses_at k.uses x) t → Waits users t) → HasUsers k l users
all_users k l members users bound fits all long loop t n is has =
    let m = all has.term.0 has.is in
    loop m.0 has.term.0 (let w = get_within members m.0 has.term.0 m.1 in omega (arith, w, long)) m.1 t (fits.uses t n is has.place has.term has.there)

-- ---- what the functions keep

pub entered_ok_same : (a b : Kept) (t q : TermId) → OtherTable a b → Enters a b t q → Fits a → AreJoins a.classes.count a.classes.joins → (es : List Equal) (rest : List TermId)
    → label_of b.classes.joins q ≡ label_of b.classes.joins t → IsNow a (length a.added) es (rest ++ t ∷ []) → IsNow b (length b.added) es rest
entered_ok_same a b t q o e fits are es rest same h =
    let early = fits.terms.listed t e.node e.is in
    let c = classes_of a b o in
    subst (λ n. IsNow b n es rest) (sym (ap (λ k. length k.added) o.is))
    (now_same a b t q o e fits are (length a.added) early es rest h
    (sym (ap (λ (k : Classes). label_of k.joins q) c) ∙ (same ∙ ap (λ (k : Classes). label_of k.joins t) c)))

pub entered_ok_apart : (a b : Kept) (t q : TermId) → OtherTable a b → Enters a b t q → Fits a → AreJoins a.classes.count a.classes.joins → (es fs : List Equal) (rest : List TermId)
    → fs ≡ es ++ record { left = t; right = q; cause = Congruent } ∷ [] → IsNow a (length a.added) es (rest ++ t ∷ []) → IsNow b (length b.added) fs rest
entered_ok_apart a b t q o e fits are es fs rest f h =
    let early = fits.terms.listed t e.node e.is in
    subst (λ n. IsNow b n fs rest) (sym (ap (λ k. length k.added) o.is))
    (subst (λ gs. IsNow b (length a.added) gs rest) (sym f) (now_apart a b t q o e fits are (length a.added) early es rest h))

pub first_in : (a b : Kept) (t q : TermId) → OtherTable a b → Enters a b t q → Fits a → AreJoins a.classes.count a.classes.joins → (es : List Equal) → (rest : List TermId) × IsNow a (length a.added) es (rest ++ t ∷ []) → q.0 < b.classes.count
first_in a b t q o e fits are es h =
    let early = fits.terms.listed t e.node e.is in
    let n = first_is_node a b t q o e fits are (length a.added) early es h.0 h.1 in
    subst (λ (k : Classes). q.0 < k.count) (sym (classes_of a b o)) (fits.count q n.0 n.1)

pub early_in : (k : Kept) → Fits k → (c : ℕ) (t : TermId) → IsEarly k.added c t → t.0 < k.classes.count
early_in k fits c t e = let n = fits.terms.noded e.place t e.there in fits.count t n.0 n.1

pub last_due : (k : Kept) (c : ℕ) (es fs : List Equal) (e : Equal) (ws : List TermId) → es ≡ fs ++ e ∷ [] → IsNow k c es ws → IsDue k.nodes k.added c k.told (length k.told) k.classes.joins e
last_due k c es fs e ws f h = h.equals_are (length fs) e (ap (λ gs. slice_get gs (length fs)) f ∙ get_push fs e)

pub skipped : (k : Kept) (c : ℕ) (es fs : List Equal) (e : Equal) → es ≡ fs ++ e ∷ [] → label_of k.classes.joins e.left ≡ label_of k.classes.joins e.right → IsNow k c es [] → IsNow k c fs []
skipped k c es fs e f same h = skip_equal k.nodes k.added c k.told (length k.told) k.classes.joins k.table.rows fs e same (subst (λ gs. IsNow k c gs []) f h)

-- ---- a join

module _ (js : List Join) (l r : ℕ) (cause : Cause) where
  pub join_left : (join_of js l r cause).left ≡ l
  join_left = by (nat_le (size js (label js l)) (size js (label js r)))
    where
      by : (b : Bool) → (if b then five (label js l) (label js r) l r cause else five (label js r) (label js l) l r cause).left ≡ l
      by true = refl
      by false = refl

  pub join_right : (join_of js l r cause).right ≡ r
  join_right = by (nat_le (size js (label js l)) (size js (label js r)))
    where
      by : (b : Bool) → (if b then five (label js l) (label js r) l r cause else five (label js r) (label js l) l r cause).right ≡ r
      by true = refl
      by false = refl

  pub join_cause : (join_of js l r cause).cause ≡ cause
  join_cause = by (nat_le (size js (label js l)) (size js (label js r)))
    where
      by : (b : Bool) → (if b then five (label js l) (label js r) l r cause else five (label js r) (label js l) l r cause).cause ≡ cause
      by true = refl
      by false = refl

module _ (k : Kept) (fits : Fits k) (are : AreJoins k.classes.count k.classes.joins) (c : ℕ) (es : List Equal) (e : Equal) (h : IsNow k c (es ++ e ∷ []) []) (apart : label_of k.classes.joins e.left ≢ label_of k.classes.joins e.right)
    (j : Join) (j_is : j ≡ join_of k.classes.joins e.left.0 e.right.0 e.cause) where
  due : IsDue k.nodes k.added c k.told (length k.told) k.classes.joins e
  due = last_due k c (es ++ e ∷ []) es e [] refl h

  pub left_in : e.left.0 < k.classes.count
  left_in = early_in k fits c e.left due.left

  pub right_in : e.right.0 < k.classes.count
  right_in = early_in k fits c e.right due.right

  pub is_join : IsJoin k.classes.count k.classes.joins j
  is_join = subst (λ i. IsJoin k.classes.count k.classes.joins i) (sym j_is) (join_of-is k.classes.count k.classes.joins e.left.0 e.right.0 e.cause are left_in right_in apart)

  pub few_joins : length k.classes.joins < k.classes.count
  few_joins = joins_few k.classes.count k.classes.joins are j.lower is_join.lower_in is_join.lower_is

  pub now_joined : (ws : List TermId) → ((t : TermId) (m : Node) → IsEarly k.added c t → HasNode k.nodes t m → HasLabel k.classes.joins j.lower m.args → Waits ws t) → IsNow (with_join k j) c es ws
  now_joined ws users = one_joined k.nodes k.added c k.told (length k.told) k.classes.joins k.table.rows es e j
      (ap (λ i. i.left) j_is ∙ join_left k.classes.joins e.left.0 e.right.0 e.cause)
      (ap (λ i. i.right) j_is ∙ join_right k.classes.joins e.left.0 e.right.0 e.cause)
      (ap (λ i. i.cause) j_is ∙ join_cause k.classes.joins e.left.0 e.right.0 e.cause)
      k.classes.count is_join h due ws users

  pub fits_joined : Fits (with_join k j)
  fits_joined = record { count = fits.count; args = fits.args; room = fits.room; uses = fits.uses; terms = fits.terms; facts = fits.facts }

  pub goes_joined : GoesOn k (with_join k j)
  goes_joined = record { is = refl; count = refl; joins = j ∷ []; joins_are = refl; rows = []; rows_are = sym (append-nil k.table.rows); table = omega arith; room = omega arith }
