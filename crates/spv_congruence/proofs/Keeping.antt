-- What stays true when terms are added, and facts are told or taken back.
use Rattle.std.proofs.Common.{◌≡◌, ℕ, ◌<◌, ◌≤◌, List, take, slice_get, Option, Some, arith}
use Rattle.spv_logic.specs.declared.conditions.TermId.{TermId}
use Rattle.spv_term.specs.declared.nodes.Node.{Node}
use Rattle.spv_union_find.specs.declared.classes.joins.Cause.{Cause}
use Rattle.spv_union_find.specs.declared.classes.joins.Cause.TheVariants.{Told, Congruent}
use Rattle.spv_union_find.specs.declared.classes.joins.Join.{Join}
use Rattle.spv_union_find.specs.signatures.Signatures.{Signature}
use Rattle.spv_congruence.specs.declared.facts.Fact.{Fact}
use Rattle.spv_congruence.specs.declared.facts.Equal.{Equal}
use Rattle.spv_congruence.specs.Graph.{HasNode, IsEarly, AreCongruent, IsCause, IsRow, IsLink, IsDue, IsLevel}

-- what was there is there
pub record Keeps (nodes nodes' : List (Option Node)) (added added' : List TermId) (count count' : ℕ) (told told' : List Fact) (n n' : ℕ) : Type 0 where
  pub node : (t : TermId) (m : Node) → HasNode nodes t m → HasNode nodes' t m
  pub early : (t : TermId) → IsEarly added count t → IsEarly added' count' t
  pub fact : (i : ℕ) (x : Fact) → i < n → slice_get told i ≡ Some x → slice_get told' i ≡ Some x
  pub more : n ≤ n'

module _ (nodes nodes' : List (Option Node)) (added added' : List TermId) (count count' : ℕ) (told told' : List Fact) (n n' : ℕ) (keeps : Keeps nodes nodes' added added' count count' told told' n n') where
  pub congruent_kept : (js : List Join) (s t : TermId) → AreCongruent nodes js s t → AreCongruent nodes' js s t
  congruent_kept js s t h = record { left = h.left; right = h.right; left_is = keeps.node s h.left h.left_is; right_is = keeps.node t h.right h.right_is; heads = h.heads; args = h.args }

  pub cause_kept : (js : List Join) (s t : TermId) (c : Cause) → IsCause nodes told n js s t c → IsCause nodes' told' n' js s t c
  cause_kept js s t (Told place) h =
      let x = h.1 in
      let m = keeps.more in
      (omega (arith, h.0, m), record { fact = x.fact; there = keeps.fact place x.fact h.0 x.there; equal = x.equal; left = x.left; right = x.right })
  cause_kept js s t Congruent h = congruent_kept js s t h

  pub row_kept : (js : List Join) (r : Signature) → IsRow nodes added count js r → IsRow nodes' added' count' js r
  row_kept js r h = record { node = h.node; is = keeps.node r.term h.node h.is; early = keeps.early r.term h.early; head = h.head; labels_are = h.labels_are }

  pub link_kept : (js : List Join) (j : Join) → IsLink nodes added count told n js j → IsLink nodes' added' count' told' n' js j
  link_kept js j h = record { left = keeps.early _ h.left; right = keeps.early _ h.right; lower = keeps.early _ h.lower; upper = keeps.early _ h.upper; cause = cause_kept js _ _ j.cause h.cause }

  pub due_kept : (js : List Join) (e : Equal) → IsDue nodes added count told n js e → IsDue nodes' added' count' told' n' js e
  due_kept js e h = record { left = keeps.early _ h.left; right = keeps.early _ h.right; cause = cause_kept js _ _ e.cause h.cause }

-- the graph at a level is the same graph
pub record Same (nodes nodes' : List (Option Node)) (added added' : List TermId) (count : ℕ) (told told' : List Fact) (n : ℕ) : Type 0 where
  pub keeps : Keeps nodes nodes' added added' count count told told' n n
  pub node_back : (t : TermId) (m : Node) → IsEarly added' count t → HasNode nodes' t m → HasNode nodes t m
  pub early_back : (t : TermId) → IsEarly added' count t → IsEarly added count t
  pub fact_back : (i : ℕ) (x : Fact) → i < n → slice_get told' i ≡ Some x → slice_get told i ≡ Some x

pub level_same : (nodes nodes' : List (Option Node)) (added added' : List TermId) (count : ℕ) (told told' : List Fact) (n : ℕ) → Same nodes nodes' added added' count told told' n
    → (js : List Join) (rs : List Signature) (es : List Equal) (ws : List TermId) → IsLevel nodes added count told n js rs es ws → IsLevel nodes' added' count told' n js rs es ws
level_same nodes nodes' added added' count told told' n same js rs es ws h =
    let k = same.keeps in
    record {
      told_due = λ i x less at eq. h.told_due i x less (same.fact_back i x less at) eq;
      entered = λ t m early is. h.entered t m (same.early_back t early) (same.node_back t m early is);
      rows_are = λ i r at. row_kept nodes nodes' added added' count count told told' n n k js r (h.rows_are i r at);
      joins_are = λ i j at. link_kept nodes nodes' added added' count count told told' n n k (take i js) j (h.joins_are i j at);
      equals_are = λ i e at. due_kept nodes nodes' added added' count count told told' n n k js e (h.equals_are i e at);
    }
