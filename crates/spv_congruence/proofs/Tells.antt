-- What telling keeps.
use Rattle.std.proofs.Common.{◌≡◌, ℕ, zero, suc, ◌+◌, ◌<◌, ◌≤◌, List, [], ◌∷◌, ◌++◌, take, drop, length, get_or, slice_get, Option, Some, sym, ap, ◌∙◌, subst, inl, inr, arith}
use Rattle.std.proofs.lemmas.List.{length_push, length-take-le, take-append-drop, take-take, get_or-take, take_all, take-append-le, get_or_push}
use Rattle.spv_logic.specs.declared.conditions.TermId.{TermId}
use Rattle.spv_term.specs.declared.nodes.Node.{Node}
use Rattle.spv_union_find.specs.declared.classes.joins.Join.{Join}
use Rattle.spv_union_find.proofs.classes.Lists.{take_whole, of_push}
use Rattle.spv_union_find.specs.signatures.Signatures.{Signature, cells_of}
use Rattle.spv_congruence.specs.declared.facts.Fact.{Fact}
use Rattle.spv_congruence.specs.declared.facts.Level.{Level}
use Rattle.spv_congruence.specs.declared.facts.Equal.{Equal}
use Rattle.spv_congruence.specs.Graph.{Graph, IsEarly, label_of, weight_of, IsLevel, IsUpTo, IsGraph, now_at, nowhere, level_at, joins_at, rows_at}
use Rattle.spv_congruence.specs.Keep.{Kept, graph, Fits, GoesOn, IsNow, IsNode, with_fact, equal_of, IsRewound, IsStopped, Tells, EntersRest, Undoes}
use Rattle.spv_congruence.proofs.FactLemmas.{now_told}
use Rattle.spv_congruence.proofs.Goings.{goes_fits}
use Rattle.spv_congruence.proofs.Levels.{graph_told, graph_back, back_to}
use Rattle.spv_congruence.proofs.NextTerm.{weight_append}

pub fits_fact : (k : Kept) (x : Fact) → IsNode k.nodes x.left → IsNode k.nodes x.right → Fits k → Fits (with_fact k x)
fits_fact k x left right fits = record {
  count = fits.count;
  args = fits.args;
  room = fits.room;
  uses = fits.uses;
  terms = fits.terms;
  facts = of_push (λ i y. IsNode k.nodes y.left × IsNode k.nodes y.right) k.told x fits.facts (left, right);
}

pub settle_level : (k k' : Kept) (x : Fact) (es : List Equal) → k' ≡ with_fact k x → es ≡ equal_of x (length k.told) → Fits k → IsGraph (graph k) → IsNode k.nodes x.left → IsNode k.nodes x.right → IsNow k' (length k'.added) es []
settle_level k k' x es e f fits is l r =
    let left = fits.terms.listed x.left l.0 l.1 in
    let right = fits.terms.listed x.right r.0 r.1 in
    subst (λ (i : Kept). IsNow i (length i.added) es []) (sym e) (subst (λ gs. IsNow (with_fact k x) (length k.added) gs []) (sym f)
    (now_told k.nodes k.added (length k.added) k.told k.classes.joins k.table.rows x left right is.now))

pub told_graph : (k k' : Kept) (x : Fact) → Tells k k' x → IsGraph (graph k) → IsGraph (graph k')
told_graph k k' x tells is =
    let g = tells.goes in
    let now : IsLevel k.nodes k.added (length k.added) (k.told ++ x ∷ []) (length (k.told ++ x ∷ [])) (k.classes.joins ++ g.joins) (k.table.rows ++ g.rows) [] [] =
    subst (λ js. IsLevel k.nodes k.added (length k.added) (k.told ++ x ∷ []) (length (k.told ++ x ∷ [])) js (k.table.rows ++ g.rows) [] []) g.joins_are
    (subst (λ rs. IsLevel k.nodes k.added (length k.added) (k.told ++ x ∷ []) (length (k.told ++ x ∷ [])) k'.classes.joins rs [] []) g.rows_are
    (subst (λ (i : Kept). IsLevel i.nodes i.added (length i.added) i.told (length i.told) k'.classes.joins k'.table.rows [] []) g.is tells.now)) in
    subst (λ i. IsGraph (graph i)) (sym g.is)
    (subst (λ js. IsGraph (record (graph (with_fact k x)) { joins = js; rows = k'.table.rows })) (sym g.joins_are)
    (subst (λ rs. IsGraph (record (graph (with_fact k x)) { joins = k.classes.joins ++ g.joins; rows = rs })) (sym g.rows_are)
    (graph_told (graph k) x g.joins g.rows is now)))

-- ---- a fact that was told in part

abbrev the_graph : List (Option Node) → List TermId → List Fact → List Level → List Join → List Signature → Graph
the_graph nodes added told levels joins rows = record { nodes = nodes; added = added; told = told; levels = levels; joins = joins; rows = rows }

same_graph : (nodes : List (Option Node)) (added : List TermId) (told told' : List Fact) (levels levels' : List Level) (joins joins' : List Join) (rows rows' : List Signature)
    → told ≡ told' → levels ≡ levels' → joins ≡ joins' → rows ≡ rows' → the_graph nodes added told levels joins rows ≡ the_graph nodes added told' levels' joins' rows'
same_graph nodes added told told' levels levels' joins joins' rows rows' a b c d = cc

pub taken : (told : List Fact) (n i : ℕ) (x : Fact) → slice_get (take n told) i ≡ Some x → slice_get told i ≡ Some x
taken [] zero i x at = absurd (cc)
taken [] (suc n) i x at = absurd (cc)
taken (y ∷ told) zero i x at = absurd (cc)
taken (y ∷ told) (suc n) zero x at = at
taken (y ∷ told) (suc n) (suc i) x at = taken told n i x at

pub record IsBack (k new : Kept) : Type 0 where
  pub same : graph new ≡ graph k
  pub fits : Fits new

module _ (k mid new : Kept) (x : Fact) (left : IsNode k.nodes x.left) (right : IsNode k.nodes x.right) (is : IsGraph (graph k)) (fits : Fits k) (less : length mid.told ≤ length k.told → new ≡ mid) (more : length k.told < length mid.told → IsRewound mid (length k.told) new) where
  by_rest : GoesOn (with_fact k x) mid → IsBack k new
  by_rest g =
      let told_is : mid.told ≡ k.told ++ x ∷ [] = ap (λ (i : Kept). i.told) g.is in
      let levels_is : mid.levels ≡ k.levels ++ now_at (graph k) ∷ [] = ap (λ (i : Kept). i.levels) g.is in
      let nodes_is : mid.nodes ≡ k.nodes = ap (λ (i : Kept). i.nodes) g.is in
      let added_is : mid.added ≡ k.added = ap (λ (i : Kept). i.added) g.is in
      let longer : length k.told < length mid.told = (let e = ap length told_is in let p = length_push k.told x in omega (arith, e, p)) in
      let r = more longer in
      let level_is : level_at (graph mid) (length k.told) ≡ now_at (graph k) = ap (λ ls. get_or ls (length k.told) nowhere) levels_is ∙ get_or_push k.levels (now_at (graph k)) nowhere (length k.told) is.many in
      let joins_back : joins_at (graph mid) (length k.told) ≡ k.classes.joins =
      ap (λ (l : Level). take l.joins mid.classes.joins) level_is ∙ (ap (take (length k.classes.joins)) g.joins_are ∙ take_whole k.classes.joins g.joins) in
      let rows_back : rows_at (graph mid) (length k.told) ≡ k.table.rows =
      ap (λ (l : Level). take l.rows mid.table.rows) level_is ∙ (ap (take (length k.table.rows)) g.rows_are ∙ take_whole k.table.rows g.rows) in
      let told_back : take (length k.told) mid.told ≡ k.told = ap (take (length k.told)) told_is ∙ take_whole k.told (x ∷ []) in
      let levels_back : take (length k.told) mid.levels ≡ k.levels =
      ap (take (length k.told)) levels_is ∙ (take-append-le (length k.told) k.levels (now_at (graph k) ∷ []) (let m = is.many in omega (arith, m)) ∙ take_all (length k.told) k.levels (let m = is.many in omega (arith, m))) in
      record {
        same = ap graph r.is ∙ (same_nodes _ _ _ _ _ _ _ _ nodes_is added_is ∙ same_graph k.nodes k.added _ _ _ _ _ _ _ _ told_back levels_back joins_back (r.rows ∙ rows_back));
        fits = subst Fits (sym r.is) (fits_at g r);
      }
    where
      same_nodes : (nodes nodes' : List (Option Node)) (added added' : List TermId) (told : List Fact) (levels : List Level) (joins : List Join) (rows : List Signature) → nodes ≡ nodes' → added ≡ added' → the_graph nodes added told levels joins rows ≡ the_graph nodes' added' told levels joins rows
      same_nodes nodes nodes' added added' told levels joins rows a b = cc

      fits_at : (g : GoesOn (with_fact k x) mid) (r : IsRewound mid (length k.told) new) → Fits (record mid { told = take (length k.told) mid.told; levels = take (length k.told) mid.levels; classes = record mid.classes { joins = joins_at (graph mid) (length k.told) }; table = new.table })
      fits_at g r =
          let f = goes_fits (with_fact k x) mid g (fits_fact k x left right fits) in
          record { count = f.count; args = f.args; room = f.room; uses = f.uses; terms = f.terms; facts = λ i y at. f.facts i y (taken mid.told (length k.told) i y at) }

  pub stopped_back : IsStopped k mid x → IsBack k new
  stopped_back (inl e) =
      let h : new ≡ k = less (let n = ap (λ (i : Kept). length i.told) e in omega (arith, n)) ∙ e in
      record { same = ap graph h; fits = subst Fits (sym h) fits }
  stopped_back (inr g) = by_rest g

-- ---- facts are taken back

module _ (k mid : Kept) (n : ℕ) (r : IsRewound k n mid) (fits : Fits k) (is : IsGraph (graph k)) (less : n < length k.told) where
  pub rewound_fits : Fits mid
  rewound_fits = subst Fits (sym r.is) (record { count = fits.count; args = fits.args; room = fits.room; uses = fits.uses; terms = fits.terms; facts = λ i y at. fits.facts i y (taken k.told n i y at) })

  mid_graph : graph mid ≡ back_to (graph k) n
  mid_graph = ap graph r.is ∙ ap (λ rs. record (back_to (graph k) n) { rows = rs }) r.rows

  pub rewound_graph : IsUpTo (graph mid) (level_at (graph k) n).added
  rewound_graph = subst (λ g. IsUpTo g (level_at (graph k) n).added) (sym mid_graph) (graph_back (graph k) n is less)

  pub rewound_room : cells_of k.table.rows ≤ k.table.room → cells_of mid.table.rows + weight_of mid.nodes (drop (level_at (graph k) n).added mid.added) ≤ mid.table.room
  rewound_room room =
      let u = is.up n less in
      let c = u.cells in
      let t = r.table in
      let a = ap cells_of r.rows in
      let e = ap (λ (i : Kept). weight_of i.nodes (drop (level_at (graph k) n).added i.added)) r.is in
      let s = ap (weight_of k.nodes) (take-append-drop (level_at (graph k) n).added k.added) in
      let w = weight_append k.nodes (take (level_at (graph k) n).added k.added) (drop (level_at (graph k) n).added k.added) in
      let v = ap (weight_of k.nodes) (take_all (length k.added) k.added (omega arith)) in
      omega (arith, room, c, t, a, e, s, w, v)

  module _ (new : Kept) (h : EntersRest mid new (level_at (graph k) n).added) where
    goes_is : (P : Kept → Type 0) → P (record mid { table = new.table; classes = new.classes; room = new.room }) → P new
    goes_is P p = subst P (sym h.goes.is) p

    levels_now : new.levels ≡ take n k.levels
    levels_now = ap (λ (i : Kept). i.levels) h.goes.is ∙ ap (λ (i : Kept). i.levels) r.is

    level_now : (m : ℕ) → m < n → level_at (graph new) m ≡ level_at (graph k) m
    level_now m l = ap (λ ls. get_or ls m nowhere) levels_now ∙ get_or-take n k.levels m nowhere l

    pub undoes : Undoes k n new
    undoes = record {
      nodes = ap (λ (i : Kept). i.nodes) h.goes.is ∙ ap (λ (i : Kept). i.nodes) r.is;
      added = ap (λ (i : Kept). i.added) h.goes.is ∙ ap (λ (i : Kept). i.added) r.is;
      told = ap (λ (i : Kept). i.told) h.goes.is ∙ ap (λ (i : Kept). i.told) r.is;
      graph_is = h.graph_is;
      labels_are = λ u early. h.labels_stay u (subst (λ ts. IsEarly ts (level_at (graph k) n).added u) (sym (ap (λ (i : Kept). i.added) r.is)) early) ∙ ap (λ (i : Kept). label_of i.classes.joins u) r.is;
      past = λ m l. (level_now m l, joins_now m l);
    }
      where
        joins_now : (m : ℕ) → m < n → joins_at (graph new) m ≡ joins_at (graph k) m
        joins_now m l =
            let rise = is.rises m n (omega (arith, l)) less in
            let b = rise.joins in
            let u = (is.up n less).joins in
            let mid_joins : mid.classes.joins ≡ joins_at (graph k) n = ap (λ (i : Kept). i.classes.joins) r.is in
            let len : length (joins_at (graph k) n) ≡ (level_at (graph k) n).joins = length-take-le (level_at (graph k) n).joins k.classes.joins u in
            ap (λ (v : Level). take v.joins new.classes.joins) (level_now m l)
            ∙ (ap (take (level_at (graph k) m).joins) (h.goes.joins_are ∙ ap (λ js. js ++ h.goes.joins) mid_joins)
            ∙ (take-append-le (level_at (graph k) m).joins (joins_at (graph k) n) h.goes.joins (omega (arith, b, len))
            ∙ take-take (level_at (graph k) m).joins (level_at (graph k) n).joins k.classes.joins b))
