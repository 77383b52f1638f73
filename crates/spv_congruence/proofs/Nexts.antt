-- What entering the next term keeps.
use Rattle.std.proofs.Common.{◌≡◌, ◌≢◌, ℕ, zero, suc, ◌+◌, ◌<◌, ◌≤◌, List, [], ◌∷◌, ◌++◌, drop, length, slice_get, Some, refl, sym, ap, ◌∙◌, subst, arith}
use Rattle.std.proofs.lemmas.List.{append-nil, length-map}
use Rattle.spv_logic.specs.declared.conditions.TermId.{TermId}
use Rattle.spv_term.specs.declared.nodes.Node.{Node}
use Rattle.spv_union_find.specs.declared.classes.joins.Cause.TheVariants.{Congruent}
use Rattle.spv_union_find.specs.declared.classes.joins.Join.{Join}
use Rattle.spv_union_find.specs.classes.Classes.{Classes, join_of, IsJoin, AreJoins}
use Rattle.spv_union_find.proofs.classes.Steps.{join_of-is}
use Rattle.spv_union_find.specs.signatures.Signatures.{Signature, cells_of}
use Rattle.spv_congruence.specs.declared.facts.Equal.{Equal}
use Rattle.spv_congruence.specs.Graph.{label_of, labels, HasNode, IsEarly, IsLevel, IsUpTo, weight, weight_of}
use Rattle.spv_congruence.specs.Keep.{Kept, graph, Fits, Enters, OtherTable, GoesOn, IsNow, EntersNext, signed, with_join}
use Rattle.spv_congruence.proofs.EnterLemmas.{next_waits, entered_same, entered_apart}
use Rattle.spv_congruence.proofs.JoinLemmas.{one_joined}
use Rattle.spv_congruence.proofs.Goings.{goes_trans, goes_fits, goes_table, classes_of, first_is_node, join_left, join_right, join_cause}
use Rattle.spv_congruence.proofs.Levels.{cells_append}
use Rattle.spv_congruence.proofs.NextTerm.{own_lower, no_users, labels_stay, graph_entered}

module _ (a b : Kept) (place : ℕ) (t q : TermId) (o : OtherTable a b) (e : Enters a b t q) (fits : Fits a) (are : AreJoins a.classes.count a.classes.joins) (is : IsUpTo (graph a) place) (at : slice_get a.added place ≡ Some t) where
  early : IsEarly a.added (suc place) t
  early = record { place = place; early = omega arith; there = at }

  waiting : IsNow a (suc place) [] (t ∷ [])
  waiting = next_waits a.nodes a.added place a.told (length a.told) a.classes.joins a.table.rows t at is.now

  row : Signature
  row = signed e.node.head (labels a.classes.joins e.node) q

  labels_len : length (labels a.classes.joins e.node) ≡ length e.node.args
  labels_len = length-map e.node.args (label_of a.classes.joins)

  rows_now : b.table.rows ≡ a.table.rows ++ signed e.node.head (labels a.classes.joins e.node) q ∷ []
  rows_now = e.rows

  one_node : (n : Node) → HasNode a.nodes t n → n ≡ e.node
  one_node n h = one n e.node (sym h ∙ e.is)
    where
      one : (m k : Node) → Some (Some m) ≡ Some (Some k) → m ≡ k
      one m k e = cc

  one_term : (u : TermId) → slice_get a.added place ≡ Some u → t ≡ u
  one_term u h = one t u (sym at ∙ h)
    where
      one : (m k : TermId) → Some m ≡ Some k → m ≡ k
      one m k e = cc

  cells_now : (u : TermId) (n : Node) → slice_get a.added place ≡ Some u → HasNode a.nodes u n → cells_of b.table.rows ≡ cells_of a.table.rows + suc (length n.args)
  cells_now u n h k =
      let m = ap (λ (i : Node). length i.args) (one_node n (subst (λ x. HasNode a.nodes x n) (sym (one_term u h)) k)) in
      let c = ap cells_of rows_now ∙ cells_append a.table.rows (signed e.node.head (labels a.classes.joins e.node) q ∷ []) in
      let l = labels_len in
      omega (arith, m, c, l)

  pub next_first_in : q.0 < b.classes.count
  next_first_in =
      let n = first_is_node a b t q o e fits are (suc place) early [] [] waiting in
      subst (λ (k : Classes). q.0 < k.count) (sym (classes_of a b o)) (fits.count q n.0 n.1)

  pub next_term_in : t.0 < b.classes.count
  next_term_in = subst (λ (k : Classes). t.0 < k.count) (sym (classes_of a b o)) (fits.count t e.node e.is)

  same_label : (u : TermId) → label_of b.classes.joins u ≡ label_of a.classes.joins u
  same_label u = ap (λ (k : Classes). label_of k.joins u) (classes_of a b o)

  -- the term is in the class of the one that was entered first
  pub next_same : label_of b.classes.joins q ≡ label_of b.classes.joins t → EntersNext a b place
  next_same same =
      let h = entered_same a.nodes a.added (suc place) a.told (length a.told) a.classes.count a.classes.joins are a.table.rows [] [] t e.node q waiting early e.is e.first
      (sym (same_label q) ∙ (same ∙ same_label t)) in
      let u = graph_entered (graph a) place t e.node [] (signed e.node.head (labels a.classes.joins e.node) q) is at e.is labels_len
      (subst (λ js. IsLevel a.nodes a.added (suc place) a.told (length a.told) js (a.table.rows ++ signed e.node.head (labels a.classes.joins e.node) q ∷ []) [] []) (sym (append-nil a.classes.joins)) h) in
      record {
        goes = goes_table a b _ o e.rows;
        upto = subst (λ i. IsUpTo (graph i) (suc place)) (sym o.is)
            (subst (λ js. IsUpTo (record (graph a) { joins = js; rows = b.table.rows }) (suc place)) (append-nil a.classes.joins)
            (subst (λ rs. IsUpTo (record (graph a) { joins = a.classes.joins ++ []; rows = rs }) (suc place)) (sym e.rows) u));
        labels_stay = λ v early. same_label v;
        cells = cells_now;
      }

  -- else the two are joined
  module _ (c : Kept) (j : Join) (apart : label_of b.classes.joins q ≢ label_of b.classes.joins t) (j_is : j ≡ join_of b.classes.joins t.0 q.0 Congruent) (c_is : c ≡ with_join b j) where
    j_was : j ≡ join_of a.classes.joins t.0 q.0 Congruent
    j_was = j_is ∙ ap (λ (k : Classes). join_of k.joins t.0 q.0 Congruent) (classes_of a b o)

    equal : Equal
    equal = record { left = t; right = q; cause = Congruent }

    is_join : IsJoin a.classes.count a.classes.joins j
    is_join = subst (λ i. IsJoin a.classes.count a.classes.joins i) (sym j_was)
        (join_of-is a.classes.count a.classes.joins t.0 q.0 Congruent are (fits.count t e.node e.is)
        (let n = first_is_node a b t q o e fits are (suc place) early [] [] waiting in fits.count q n.0 n.1)
        (λ f. apart (same_label q ∙ (sym f ∙ sym (same_label t)))))

    low : j.lower ≡ t.0
    low = ap (λ i. i.lower) j_was ∙ own_lower a.nodes a.added place a.told (length a.told) a.classes.joins is.terms is.now.joins_are t at a.classes.count are q

    pub next_is_join : IsJoin b.classes.count b.classes.joins j
    next_is_join = subst (λ (k : Classes). IsJoin k.count k.joins j) (sym (classes_of a b o)) is_join

    pub next_fits : Fits c
    next_fits =
        let f = goes_fits a b (goes_table a b _ o e.rows) fits in
        subst Fits (sym c_is) (record { count = f.count; args = f.args; room = f.room; uses = f.uses; terms = f.terms; facts = f.facts })

    goes_c : GoesOn b (with_join b j)
    goes_c = record { is = refl; count = refl; joins = j ∷ []; joins_are = refl; rows = []; rows_are = sym (append-nil b.table.rows); table = omega arith; room = omega arith }

    pub next_apart : EntersNext a c place
    next_apart =
        let h = entered_apart a.nodes a.added (suc place) a.told (length a.told) a.classes.count a.classes.joins are a.table.rows [] [] t e.node q waiting early e.is e.first
        (record { left = t; right = q; cause = Congruent }) refl refl refl in
        let d = h.equals_are 0 (record { left = t; right = q; cause = Congruent }) refl in
        let l = one_joined a.nodes a.added (suc place) a.told (length a.told) a.classes.joins (a.table.rows ++ signed e.node.head (labels a.classes.joins e.node) q ∷ []) [] (record { left = t; right = q; cause = Congruent }) j
        (ap (λ i. i.left) j_was ∙ join_left a.classes.joins t.0 q.0 Congruent) (ap (λ i. i.right) j_was ∙ join_right a.classes.joins t.0 q.0 Congruent) (ap (λ i. i.cause) j_was ∙ join_cause a.classes.joins t.0 q.0 Congruent)
        a.classes.count is_join h d []
        (λ u m ear node has. absurd (no_users a.nodes a.added place a.told (length a.told) a.classes.joins is.terms is.now.joins_are t at a.classes.count are q j low u m ear node has)) in
        let u = graph_entered (graph a) place t e.node (j ∷ []) (signed e.node.head (labels a.classes.joins e.node) q) is at e.is labels_len l in
        let same : graph c ≡ record (graph a) { joins = a.classes.joins ++ j ∷ []; rows = b.table.rows } =
        ap graph c_is ∙ ap (λ (i : Kept). graph (with_join i j)) o.is in
        record {
          goes = goes_trans a b c (goes_table a b _ o e.rows) (subst (GoesOn b) (sym c_is) goes_c);
          upto = subst (λ g. IsUpTo g (suc place)) (sym same)
              (subst (λ rs. IsUpTo (record (graph a) { joins = a.classes.joins ++ j ∷ []; rows = rs }) (suc place)) (sym e.rows) u);
          labels_stay = λ v ear. ap (λ (i : Kept). label_of i.classes.joins v) c_is
              ∙ (ap (λ (k : Classes). label_of (k.joins ++ j ∷ []) v) (classes_of a b o)
              ∙ labels_stay a.nodes a.added place a.told (length a.told) a.classes.joins is.terms is.now.joins_are t at a.classes.count are q j low v ear);
          cells = λ v n x y. ap (λ (i : Kept). cells_of i.table.rows) c_is ∙ cells_now v n x y;
        }

-- ---- the rest of the list

pub drop_next : (ts : List TermId) (i : ℕ) (t : TermId) → slice_get ts i ≡ Some t → drop i ts ≡ t ∷ drop (suc i) ts
drop_next [] i t at = absurd (cc)
drop_next (x ∷ ts) zero t at = ap (λ y. y ∷ ts) (one x t at)
  where
    one : (x t : TermId) → Some x ≡ Some t → x ≡ t
    one x t e = cc
drop_next (x ∷ ts) (suc i) t at = drop_next ts i t at

weight_next : (k : Kept) (place : ℕ) (t : TermId) (n : Node) → slice_get k.added place ≡ Some t → HasNode k.nodes t n → weight_of k.nodes (drop place k.added) ≡ suc (length n.args) + weight_of k.nodes (drop (suc place) k.added)
weight_next k place t n at is =
    let e = ap (weight_of k.nodes) (drop_next k.added place t at) in
    let v : weight (slice_get k.nodes t.0) ≡ suc (length n.args) = ap weight is in
    omega (arith, e, v)

pub next_room : (k : Kept) (place : ℕ) → cells_of k.table.rows + weight_of k.nodes (drop place k.added) ≤ k.table.room → (t : TermId) (n : Node) → slice_get k.added place ≡ Some t → HasNode k.nodes t n
    → cells_of k.table.rows + suc (length n.args) ≤ k.table.room
next_room k place room t n at is = let w = weight_next k place t n at is in omega (arith, w, room)

got_term : (ts : List TermId) (i : ℕ) → i < length ts → (t : TermId) × (slice_get ts i ≡ Some t)
got_term [] i h = absurd (omega arith)
got_term (x ∷ ts) zero h = (x, refl)
got_term (x ∷ ts) (suc i) h = got_term ts i (omega arith)

pub rest_room : (k k' : Kept) (place next : ℕ) → next ≡ suc place → Fits k → EntersNext k k' place → place < length k.added → cells_of k.table.rows + weight_of k.nodes (drop place k.added) ≤ k.table.room
    → cells_of k'.table.rows + weight_of k'.nodes (drop next k'.added) ≤ k'.table.room
rest_room k k' place next e fits h within room =
    let t = got_term k.added place within in
    let n = fits.terms.noded place t.0 t.1 in
    let w = weight_next k place t.0 n.0 t.1 n.1 in
    let c = h.cells t.0 n.0 t.1 n.1 in
    let r = h.goes.table in
    let s : weight_of k'.nodes (drop next k'.added) ≡ weight_of k.nodes (drop (suc place) k.added) = ap (λ (i : Kept). weight_of i.nodes (drop next i.added)) h.goes.is ∙ ap (λ m. weight_of k.nodes (drop m k.added)) e in
    omega (arith, room, w, c, r, s)

pub rest_labels : (a k k' : Kept) (from place : ℕ) → from ≤ place → GoesOn a k → EntersNext k k' place → ((u : TermId) → IsEarly a.added from u → label_of k.classes.joins u ≡ label_of a.classes.joins u)
    → (u : TermId) → IsEarly a.added from u → label_of k'.classes.joins u ≡ label_of a.classes.joins u
rest_labels a k k' from place le goes h old u early =
    let l = early.early in
    let k_added : k.added ≡ a.added = ap (λ (i : Kept). i.added) goes.is in
    h.labels_stay u (record { place = early.place; early = omega (arith, l, le); there = ap (λ ts. slice_get ts early.place) k_added ∙ early.there }) ∙ old u early

pub rest_graph : (k : Kept) (place n : ℕ) → n ≤ place → n ≡ length k.added → IsUpTo (graph k) place → IsUpTo (graph k) (length k.added)
rest_graph k place n past e is = let f = is.few in subst (IsUpTo (graph k)) (omega (arith, past, e, f)) is
