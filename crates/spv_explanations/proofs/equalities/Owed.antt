-- Works that are owed, and what stands after each.
use Rattle.std.proofs.Common.{◌≡◌, ℕ, zero, suc, ◌<◌, true, ◌&&◌, List, [], ◌∷◌, ◌++◌, map, take, drop, fold, length, Some, slice_get, refl, sym, ap, ◌∙◌, subst, arith}
use Rattle.std.proofs.lemmas.List.{take-append-drop, take_all}
use Rattle.std.proofs.lemmas.List.Sums.{fold-append}
use Rattle.std.proofs.lemmas.Option.{slice_get_within, same_Some}
use Rattle.indexmap.specs.IndexMap.{insert_entry}
use Rattle.spv_logic.specs.declared.conditions.TermId.{TermId}
use Rattle.spv_logic.specs.declared.operators.Head.{Head}
use Rattle.spv_logic.specs.Terms.{Term, Terms, term, head_eq}
use Rattle.spv_logic.specs.Formulas.{equation}
use Rattle.spv_logic.proofs.Equality.{head_eq-refl}
use Rattle.spv_term.specs.declared.nodes.Node.{Node}
use Rattle.spv_term.specs.Arena.{Arena, IsArena, tree, trees}
use Rattle.spv_term.proofs.ArenaLemmas.{tree-node}
use Rattle.spv_proof_rules.specs.Effects.{all_equal, congruent}
use Rattle.spv_union_find.specs.declared.classes.joins.Join.{Join}
use Rattle.spv_union_find.specs.classes.Classes.{one_label}
use Rattle.spv_congruence.specs.declared.facts.Link.{Link}
use Rattle.spv_congruence.specs.declared.facts.Link.TheVariants.{Congruent}
use Rattle.spv_congruence.specs.Graph.{Graph, AreCongruent, AreTerms, HasNode, IsEarly, label_of, labels}
use Rattle.spv_congruence.specs.Keep.{IsNode}
use Rattle.spv_congruence.specs.Told.{IsOf}
use Rattle.spv_congruence.specs.Explained.{Explains, IsLinkOf, Leads, SameAt, WereCongruent}
use Rattle.spv_derivations.specs.declared.derivation.entries.Entry.{Entry}
use Rattle.spv_derivations.specs.derivation.Derivation.{Gains, IsDerivation, facts}
use Rattle.spv_derivations.specs.derivation.Derived.{IsCongruence}
use Rattle.spv_explanations.specs.declared.equalities.known.Pair.{Pair}
use Rattle.spv_explanations.specs.declared.equalities.works.Work.{Work}
use Rattle.spv_explanations.specs.equalities.Reasons.{AreSame, GoesOn, IsBacked, MayReason}
use Rattle.spv_explanations.specs.equalities.Known.{number_of, pair, same_pair, AreBeside, AreShown, NumbersOf}
use Rattle.spv_explanations.specs.equalities.Links.{AllKnown, AreAlike, AreOwed, HasLink, IsOwed, IsWay, Stands}
use Rattle.spv_explanations.proofs.equalities.Shown.{arguments-equal, shown-at, shown-insert, shown-more}
use Rattle.spv_explanations.proofs.equalities.Ways.{backed-more, goes_on-gains, leads-way}

pub one_node : (nodes : List Node) (i : ℕ) (m n : Node) → slice_get nodes i ≡ Some m → slice_get nodes i ≡ Some n → m ≡ n
one_node nodes i m n e f = same_Some m n (sym e ∙ f)

-- ---- labels after more joins

label-later : (js ks : List Join) (s t : TermId) → label_of js s ≡ label_of js t → label_of (js ++ ks) s ≡ label_of (js ++ ks) t
label-later js ks s t h = fold-append one_label s.0 js ks ∙ ap (λ l. fold one_label l ks) h ∙ sym (fold-append one_label t.0 js ks)

labels-later : (js ks : List Join) (ss ts : List TermId) → map (label_of js) ss ≡ map (label_of js) ts → map (label_of (js ++ ks)) ss ≡ map (label_of (js ++ ks)) ts
labels-later js ks [] [] h = refl
labels-later js ks [] (t ∷ ts) h = absurd (cc)
labels-later js ks (s ∷ ss) [] h = absurd (cc)
labels-later js ks (s ∷ ss) (t ∷ ts) h =
    let one : label_of js s ≡ label_of js t = cc in
    let others : map (label_of js) ss ≡ map (label_of js) ts = cc in
    let first = label-later js ks s t one in
    let rest = labels-later js ks ss ts others in
    λ i. first i ∷ rest i

module _ (g : Graph) where
  congruent-later : (k : ℕ) (s t : TermId) → AreCongruent g.nodes (take k g.joins) s t → AreCongruent g.nodes g.joins s t
  congruent-later k s t h = record {
    left = h.left;
    right = h.right;
    left_is = h.left_is;
    right_is = h.right_is;
    heads = h.heads;
    args = subst (λ js. labels js h.left ≡ labels js h.right) (take-append-drop k g.joins) (labels-later (take k g.joins) (drop k g.joins) h.left.args h.right.args h.args);
  }

  -- ---- works

  pub owed-push : (ws : List Work) (w : Work) → AreOwed g ws → IsOwed g w → AreOwed g (ws ++ w ∷ [])
  owed-push [] w h k = (k, tt)
  owed-push (v ∷ ws) w h k = (h.0, owed-push ws w h.1 k)

  pub owed-first : (ws : List Work) (w : Work) → AreOwed g (ws ++ w ∷ []) → AreOwed g ws
  owed-first [] w h = tt
  owed-first (v ∷ ws) w h = (h.0, owed-first ws w h.1)

  pub owed-last : (ws : List Work) (w : Work) → AreOwed g (ws ++ w ∷ []) → IsOwed g w
  owed-last [] w h = h.0
  owed-last (v ∷ ws) w h = owed-last ws w h.1

  -- ---- links

  link-congruent : (k : ℕ) (ls : List Link) (s t p q : TermId) (i : ℕ) → Leads g k s ls t → slice_get ls i ≡ Some (Congruent p q) → AreCongruent g.nodes g.joins p q
  link-congruent k [] s t p q i h at = absurd (cc)
  link-congruent k (l ∷ ls) s t p q zero h at =
      let is : l ≡ Congruent p q = same_Some l (Congruent p q) at in
      of_link (subst (λ x. IsLinkOf g k x s h.0) is h.1)
    where
      of_link : {u : TermId} → (p ≡ s) × (q ≡ u) × WereCongruent g k s u → AreCongruent g.nodes g.joins p q
      of_link {u} m =
          subst (λ x. AreCongruent g.nodes g.joins x q) (sym m.0)
          (subst (λ x. AreCongruent g.nodes g.joins s x) (sym m.1) (congruent-later m.2.before s u m.2.are))
  link-congruent k (l ∷ ls) s t p q (suc i) h at = link-congruent k ls h.0 t p q i h.2 at

  same_at-all : (s t : TermId) → label_of g.joins s ≡ label_of g.joins t → SameAt g (length g.joins) s t
  same_at-all s t h = subst (λ js. label_of js s ≡ label_of js t) (sym (take_all (length g.joins) g.joins (omega arith))) h

  pub explained-congruent : (ls : List Link) (s t p q : TermId) → AreSame g s t → Explains g s t ls → HasLink ls p q → AreCongruent g.nodes g.joins p q
  explained-congruent ls s t p q same h link = link-congruent (length g.joins) ls s t p q link.0 (h (length g.joins) (omega arith) (same_at-all s t same.same)) link.1

  pub explained-way : (a : Arena) (es : List Entry) (known : List (Pair × ℕ)) (ls : List Link) (s t : TermId) → IsBacked a g es → AreSame g s t → Explains g s t ls → AllKnown known ls → IsWay a es known s ls t
  explained-way a es known ls s t backed same h all =
      leads-way a g es backed known (length g.joins) ls s t (h (length g.joins) (omega arith) (same_at-all s t same.same)) all

  -- ---- arguments

  node-of_early : AreTerms g.nodes g.added → (n : ℕ) (t : TermId) → IsEarly g.added n t → IsNode g.nodes t
  node-of_early h n t e = h.noded e.place t e.there

  pub argument-node : AreTerms g.nodes g.added → (t : TermId) (n : Node) (i : ℕ) (u : TermId) → HasNode g.nodes t n → slice_get n.args i ≡ Some u → IsNode g.nodes u
  argument-node h t n i u is at =
      let early = h.listed t n is in
      node-of_early h early.place u (h.args early.place t n early.there is i u at)

  label-at : (js : List Join) (ss ts : List TermId) (i : ℕ) (s t : TermId) → map (label_of js) ss ≡ map (label_of js) ts → slice_get ss i ≡ Some s → slice_get ts i ≡ Some t → label_of js s ≡ label_of js t
  label-at js [] ts i s t h e f = absurd (cc)
  label-at js (x ∷ ss) [] i s t h e f = absurd (cc)
  label-at js (x ∷ ss) (y ∷ ts) zero s t h e f =
      let one : x ≡ s = cc in
      let two : y ≡ t = cc in
      let labels_are : label_of js x ≡ label_of js y = cc in
      ap (label_of js) (sym one) ∙ labels_are ∙ ap (label_of js) two
  label-at js (x ∷ ss) (y ∷ ts) (suc i) s t h e f = let rest : map (label_of js) ss ≡ map (label_of js) ts = cc in label-at js ss ts i s t rest e f

  pub arguments-same : (a : Arena) → IsOf a g → AreTerms g.nodes g.added → (p q s t : TermId) (m n : Node) → AreCongruent g.nodes g.joins p q → slice_get a.nodes p.0 ≡ Some m → slice_get a.nodes q.0 ≡ Some n
      → AreBeside m.args n.args s t → AreSame g s t
  arguments-same a of h p q s t m n c is_m is_n b =
      let one : m ≡ c.left = one_node a.nodes p.0 m c.left is_m (of.node p c.left c.left_is) in
      let two : n ≡ c.right = one_node a.nodes q.0 n c.right is_n (of.node q c.right c.right_is) in
      let left : slice_get c.left.args b.place ≡ Some s = ap (λ (x : Node). slice_get x.args b.place) (sym one) ∙ b.left in
      let right : slice_get c.right.args b.place ≡ Some t = ap (λ (x : Node). slice_get x.args b.place) (sym two) ∙ b.right in
      record {
        left = argument-node h p c.left b.place s c.left_is left;
        right = argument-node h q c.right b.place t c.right_is right;
        same = label-at g.joins c.left.args c.right.args b.place s t c.args left right;
      }

-- ---- two terms of one head

many-same : (js : List Join) (ss ts : List TermId) → map (label_of js) ss ≡ map (label_of js) ts → length ss ≡ length ts
many-same js [] [] h = refl
many-same js [] (t ∷ ts) h = absurd (cc)
many-same js (s ∷ ss) [] h = absurd (cc)
many-same js (s ∷ ss) (t ∷ ts) h = let rest : map (label_of js) ss ≡ map (label_of js) ts = cc in ap suc (many-same js ss ts rest)

pub congruent-alike : (a : Arena) (g : Graph) (p q : TermId) → IsOf a g → AreCongruent g.nodes g.joins p q → AreAlike a p q
congruent-alike a g p q of c = record {
  left = c.left;
  right = c.right;
  left_is = of.node p c.left c.left_is;
  right_is = of.node q c.right c.right_is;
  heads = c.heads;
  many = many-same g.joins c.left.args c.right.args c.args;
}

module _ (a : Arena) (ok : IsArena a) (es : List Entry) where
  congruent-at : (t u : Term) (h k : Head) (ts us : Terms) (ns : List ℕ) → t ≡ term h ts → u ≡ term k us → h ≡ k → all_equal (facts a es) ts us ns ≡ true → congruent (facts a es) t u ns ≡ true
  congruent-at t u h k ts us ns e f same all =
      (λ i. congruent (facts a es) (e i) (f i) ns)
      ∙ (λ i. head_eq h (sym same i) && all i) ∙ ap (λ b. b && true) (head_eq-refl h)

  pub is-congruence : (known : List (Pair × ℕ)) (p q : TermId) (m n : Node) (ns : List ℕ) → AreAlike a p q → slice_get a.nodes p.0 ≡ Some m → slice_get a.nodes q.0 ≡ Some n
      → AreShown a es known → NumbersOf known m.args n.args ns → IsCongruence a es p q ns
  is-congruence known p q m n ns alike is_m is_n shown numbers =
      let one : alike.left ≡ m = one_node a.nodes p.0 alike.left m alike.left_is is_m in
      let two : alike.right ≡ n = one_node a.nodes q.0 alike.right n alike.right_is is_n in
      let heads : m.head ≡ n.head = ap (λ (x : Node). x.head) (sym one) ∙ alike.heads ∙ ap (λ (x : Node). x.head) two in
      record {
        left = slice_get_within a.nodes p.0 m is_m;
        right = slice_get_within a.nodes q.0 n is_n;
        shown = congruent-at (tree a p) (tree a q) m.head n.head (trees a m.args) (trees a n.args) ns (tree-node a ok p m is_m) (tree-node a ok q n is_n) heads (arguments-equal a es known m.args n.args ns shown numbers);
      }

-- ---- what stands

module _ (a : Arena) (g : Graph) where
  pub reasons-more : (old new : List Entry) → GoesOn old new → IsDerivation a new → MayReason a g old → MayReason a g new
  reasons-more old new on f h = record { of = h.of; terms = h.terms; derivation = f; backed = backed-more a g old new on h.backed }

  -- a further equation
  pub stands-insert : (old new : List Entry) (known all : List (Pair × ℕ)) (works : List Work) (s t : TermId) (n : ℕ) → Stands a g old known works → Gains a old new n (equation (tree a s) (tree a t))
      → all ≡ insert_entry same_pair known (pair s t) n → Stands a g new all works
  stands-insert old new known all works s t n h gains is =
      let on = goes_on-gains a old new n (equation (tree a s) (tree a t)) gains in
      record {
        reasons = reasons-more old new on gains.derivation h.reasons;
        shown = subst (λ ks. AreShown a new ks) (sym is) (shown-insert a new known s t n (shown-more a old new known on h.shown) gains.fact);
        owed = h.owed;
      }

  -- two further works
  pub stands-push : (es : List Entry) (known : List (Pair × ℕ)) (works all : List Work) (v w : Work) → Stands a g es known works → IsOwed g v → IsOwed g w → all ≡ (works ++ v ∷ []) ++ w ∷ []
      → Stands a g es known all
  stands-push es known works all v w h i j is = record {
    reasons = h.reasons;
    shown = h.shown;
    owed = subst (λ ws. AreOwed g ws) (sym is) (owed-push g (works ++ v ∷ []) w (owed-push g works v h.owed i) j);
  }

  -- the first two terms have a number
  pub stands-gains : (start es : List Entry) (known : List (Pair × ℕ)) (works : List Work) (s t : TermId) (n : ℕ) → GoesOn start es → Stands a g es known works → number_of known s t ≡ Some n
      → Gains a start es n (equation (tree a s) (tree a t))
  stands-gains start es known works s t n on h e = record { more = on.more; goes_on = on.is; derivation = h.reasons.derivation; fact = shown-at a es known s t n h.shown e }

  pub node-within : (t : TermId) → IsOf a g → IsNode g.nodes t → t.0 < length a.nodes
  node-within t of h = slice_get_within a.nodes t.0 h.0 (of.node t h.0 h.1)
