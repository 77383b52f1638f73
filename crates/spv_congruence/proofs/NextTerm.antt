-- The next term of the list is entered.
use Rattle.std.proofs.Common.{Bool, nat_le, if◌then◌else◌, ◌≡◌, ◌≢◌, ℕ, zero, suc, ◌+◌, ◌≤◌, true, false, List, [], ◌∷◌, ◌++◌, take, length, slice_get, Option, Some, refl, sym, ap, ◌∙◌, subst, arith}
use Rattle.std.proofs.lemmas.Bool.{false≢true}
use Rattle.std.proofs.lemmas.Bool.Decides.{nat_tests}
use Rattle.std.proofs.lemmas.List.{length-append, length_push, take-append-le}
use Rattle.spv_logic.specs.declared.conditions.TermId.{TermId}
use Rattle.spv_term.specs.declared.nodes.Node.{Node}
use Rattle.spv_union_find.specs.declared.classes.joins.Cause.TheVariants.{Congruent}
use Rattle.spv_union_find.specs.declared.classes.joins.Join.{Join}
use Rattle.spv_union_find.specs.classes.Classes.{label, size, join_of, AreJoins}
use Rattle.spv_union_find.proofs.classes.Lists.{by_last, get_left, get_push, get_within, nat_apart}
use Rattle.spv_union_find.proofs.classes.Labels.{label_stays, size_push, label_of_label}
use Rattle.spv_union_find.proofs.classes.Circles.{ring}
use Rattle.spv_union_find.proofs.classes.Steps.{five}
use Rattle.spv_union_find.specs.signatures.Signatures.{Signature}
use Rattle.spv_congruence.specs.declared.facts.Fact.{Fact}
use Rattle.spv_congruence.specs.Graph.{Graph, id, label_of, labels, HasNode, HasLabel, IsEarly, AreTerms, IsLink, IsLevel, Rises, IsUpTo, level_at, joins_at, rows_at, terms_at, weight, weight_of}
use Rattle.spv_congruence.proofs.JoinLemmas.{label_early}
use Rattle.spv_congruence.proofs.Levels.{cells_append}

-- ---- a number that no join names

untouched : (js : List Join) (x : ℕ) → ((i : ℕ) (j : Join) → slice_get js i ≡ Some j → j.lower ≢ x) → label js x ≡ x
untouched js x = by_last (λ ks. ((i : ℕ) (j : Join) → slice_get ks i ≡ Some j → j.lower ≢ x) → label ks x ≡ x) step (λ h. refl) js
  where
    step : (ks : List Join) (j : Join) → (((i : ℕ) (k : Join) → slice_get ks i ≡ Some k → k.lower ≢ x) → label ks x ≡ x) → ((i : ℕ) (k : Join) → slice_get (ks ++ j ∷ []) i ≡ Some k → k.lower ≢ x) → label (ks ++ j ∷ []) x ≡ x
    step ks j old none =
        let e = old (λ i k at. none i k (get_left ks (j ∷ []) i (get_within ks i k at) ∙ at)) in
        label_stays ks j x (λ f. none (length ks) j (get_push ks j) (sym f ∙ e)) ∙ e

alone : (js : List Join) (x : ℕ) → ((i : ℕ) (j : Join) → slice_get js i ≡ Some j → j.upper ≢ x) → size js x ≡ 1
alone js x = by_last (λ ks. ((i : ℕ) (j : Join) → slice_get ks i ≡ Some j → j.upper ≢ x) → size ks x ≡ 1) step (λ h. refl) js
  where
    step : (ks : List Join) (j : Join) → (((i : ℕ) (k : Join) → slice_get ks i ≡ Some k → k.upper ≢ x) → size ks x ≡ 1) → ((i : ℕ) (k : Join) → slice_get (ks ++ j ∷ []) i ≡ Some k → k.upper ≢ x) → size (ks ++ j ∷ []) x ≡ 1
    step ks j old none =
        let e = old (λ i k at. none i k (get_left ks (j ∷ []) i (get_within ks i k at) ∙ at)) in
        let a = nat_apart x j.upper (λ f. none (length ks) j (get_push ks j) (sym f)) in
        size_push ks j x ∙ (ap (λ b. if b then size ks j.upper + size ks j.lower else size ks x) a ∙ e)

id_same : (x : ℕ) (t : TermId) → x ≡ t.0 → id x ≡ t
id_same x t e = ap id e

module _ (nodes : List (Option Node)) (added : List TermId) (e : ℕ) (told : List Fact) (n : ℕ) (js : List Join) (terms : AreTerms nodes added)
    (links : (i : ℕ) (j : Join) → slice_get js i ≡ Some j → IsLink nodes added e told n (take i js) j) (t : TermId) (at : slice_get added e ≡ Some t) where
  -- the next term is none of the first ones
  not_early : IsEarly added e t → ⊥
  not_early h =
      let s = terms.apart h.place e t h.there at in
      let l = h.early in
      omega (arith, s, l)

  not_lower : (i : ℕ) (j : Join) → slice_get js i ≡ Some j → j.lower ≢ t.0
  not_lower i j there f = not_early (subst (IsEarly added e) (id_same j.lower t f) (links i j there).lower)

  not_upper : (i : ℕ) (j : Join) → slice_get js i ≡ Some j → j.upper ≢ t.0
  not_upper i j there f = not_early (subst (IsEarly added e) (id_same j.upper t f) (links i j there).upper)

  pub own_label : label_of js t ≡ t.0
  own_label = untouched js t.0 not_lower

  own_size : size js t.0 ≡ 1
  own_size = alone js t.0 not_upper

  -- no early term has its label
  pub other_label : (u : TermId) → IsEarly added e u → label_of js u ≢ t.0
  other_label u early f = not_early (subst (IsEarly added e) (id_same (label_of js u) t f) (label_early nodes added e told n js links u early))

  module _ (limit : ℕ) (are : AreJoins limit js) (q : TermId) where
    -- it is its class that gets the label of the other
    pub own_lower : (join_of js t.0 q.0 Congruent).lower ≡ t.0
    own_lower = by (nat_le (size js (label js t.0)) (size js (label js q.0))) smaller
      where
        bigger : 1 ≤ size js (label js q.0)
        bigger = let r = (ring limit js are (label js q.0) (label_of_label limit js are q.0)).many in omega (arith, r)

        le : size js (label js t.0) ≤ size js (label js q.0)
        le = let a = ap (size js) own_label ∙ own_size in let b = bigger in omega (arith, a, b)

        smaller : nat_le (size js (label js t.0)) (size js (label js q.0)) ≡ true
        smaller = test _ _ le
          where
            test : (m k : ℕ) → m ≤ k → nat_le m k ≡ true
            test m k h = grind (arith, nat_tests)

        by : (b : Bool) → b ≡ true → (if b then five (label js t.0) (label js q.0) t.0 q.0 Congruent else five (label js q.0) (label js t.0) t.0 q.0 Congruent).lower ≡ t.0
        by true g = own_label
        by false g = absurd (false≢true g)

    -- no term has an argument of its class
    pub no_users : (j : Join) → j.lower ≡ t.0 → (u : TermId) (m : Node) → IsEarly added (suc e) u → HasNode nodes u m → HasLabel js j.lower m.args → ⊥
    no_users j low u m early is has =
        let a = terms.args early.place u m early.there is has.place has.term has.there in
        let l = early.early in
        let b = a.early in
        other_label has.term (record { place = a.place; early = omega (arith, l, b); there = a.there }) (has.is ∙ low)

    -- the early ones keep their labels
    pub labels_stay : (j : Join) → j.lower ≡ t.0 → (u : TermId) → IsEarly added e u → label_of (js ++ j ∷ []) u ≡ label_of js u
    labels_stay j low u early = label_stays js j u.0 (λ f. other_label u early (f ∙ low))

-- ---- the graph with one more term entered

take_next : (added : List TermId) (e : ℕ) (t : TermId) → slice_get added e ≡ Some t → take (suc e) added ≡ take e added ++ t ∷ []
take_next [] e t at = absurd (cc)
take_next (x ∷ added) zero t at = ap (λ y. y ∷ []) (one x t at)
  where
    one : (x t : TermId) → Some x ≡ Some t → x ≡ t
    one x t e = cc
take_next (x ∷ added) (suc e) t at = ap (λ ys. x ∷ ys) (take_next added e t at)

pub weight_append : (nodes : List (Option Node)) (ts us : List TermId) → weight_of nodes (ts ++ us) ≡ weight_of nodes ts + weight_of nodes us
weight_append nodes [] us = omega arith
weight_append nodes (t ∷ ts) us = let h = weight_append nodes ts us in omega (arith, h)

pub graph_entered : (g : Graph) (e : ℕ) (t : TermId) (m : Node) (js : List Join) (r : Signature) → IsUpTo g e → slice_get g.added e ≡ Some t → HasNode g.nodes t m → length r.labels ≡ length m.args
    → IsLevel g.nodes g.added (suc e) g.told (length g.told) (g.joins ++ js) (g.rows ++ r ∷ []) [] [] → IsUpTo (record g { joins = g.joins ++ js; rows = g.rows ++ r ∷ [] }) (suc e)
graph_entered g e t m js r is at node labels now = record {
  terms = is.terms;
  many = is.many;
  few = (let w = get_within g.added e t at in omega (arith, w));
  past = λ n less. let u = is.up n less in let a = u.joins in let b = u.rows in
      subst (λ ks. IsLevel g.nodes g.added (level_at g n).added g.told n ks (take (level_at g n).rows (g.rows ++ r ∷ [])) [] []) (sym (take-append-le (level_at g n).joins g.joins js a))
      (subst (λ ks. IsLevel g.nodes g.added (level_at g n).added g.told n (joins_at g n) ks [] []) (sym (take-append-le (level_at g n).rows g.rows (r ∷ []) b)) (is.past n less));
  now = now;
  rises = λ k n le less. let a = (is.up k (omega (arith, le, less))).rows in let b = (is.up n less).rows in
      subst (λ ks. Rises g.nodes (level_at g k) (level_at g n) ks (take (level_at g n).rows (g.rows ++ r ∷ [])) (terms_at g k) (terms_at g n)) (sym (take-append-le (level_at g k).rows g.rows (r ∷ []) a))
      (subst (λ ks. Rises g.nodes (level_at g k) (level_at g n) (rows_at g k) ks (terms_at g k) (terms_at g n)) (sym (take-append-le (level_at g n).rows g.rows (r ∷ []) b)) (is.rises k n le less));
  up = λ k less. let u = is.up k less in let a = u.added in let b = u.joins in let d = u.rows in let c = u.cells in
      subst (λ ks. Rises g.nodes (level_at g k) (record { added = suc e; joins = length (g.joins ++ js); rows = length (g.rows ++ r ∷ []) }) ks (g.rows ++ r ∷ []) (terms_at g k) (take (suc e) g.added)) (sym (take-append-le (level_at g k).rows g.rows (r ∷ []) d))
      (record {
        added = omega (arith, a);
        joins = (let f = length-append g.joins js in omega (arith, b, f));
        rows = (let f = length_push g.rows r in omega (arith, d, f));
        cells = (
            let f = cells_append g.rows (r ∷ []) in
            let w = ap (weight_of g.nodes) (take_next g.added e t at) ∙ weight_append g.nodes (take e g.added) (t ∷ []) in
            let v : weight (slice_get g.nodes t.0) ≡ suc (length m.args) = ap weight node in
            omega (arith, c, f, w, v, labels));
      });
}
