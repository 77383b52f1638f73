-- The terms that a tree names stay in the arena.
use Rattle.std.proofs.Common.{◌≡◌, ℕ, zero, suc, Bool, true, false, List, [], ◌∷◌, ◌++◌, take, length, refl, sym, subst}
use Rattle.spv_logic.specs.declared.conditions.TermId.{TermId}
use Rattle.spv_term.specs.Arena.{Arena}
use Rattle.spv_proof_rules.specs.Stand.{In, NodesIn}
use Rattle.spv_derivations.specs.declared.derivation.entries.Part.TheVariants.{True}
use Rattle.spv_verdicts.specs.declared.answers.growing.Grown.{Grown}
use Rattle.spv_verdicts.specs.declared.answers.growing.Grown.TheVariants as grown
use Rattle.spv_verdicts.specs.declared.answers.trees.SplitNode.{SplitNode}
use Rattle.spv_verdicts.specs.answers.Nodes.{proof_nodes}
use Rattle.spv_verdicts.specs.answers.Growing.{placed_node, placed, roots}
use Rattle.spv_verdicts.specs.answers.Views.{SplitNodeIn, SplitNodesIn}
use Rattle.spv_verdicts.specs.declared.answers.trees.SplitNode.TheVariants as node
use Rattle.spv_search.specs.declared.branches.cases.Case.{Case}
use Rattle.spv_search.specs.declared.branches.cases.Pending.{Pending}
use Rattle.spv_search.specs.branches.Growth.{Growth, start, has_three, case_of, pending_parts, Moves, CaseIn, CasesIn, PendingIn, GrownIn, AllGrownIn, IsIn}
use Rattle.spv_search.proofs.branches.Taking.{IsSplit}

pub start-in : (a : Arena) → IsIn a start
start-in a = record { nodes = tt; cases = tt; pending = tt }

nodes_push : (a : Arena) (nodes : List Grown) (n : Grown) → AllGrownIn a nodes → GrownIn a n → AllGrownIn a (nodes ++ n ∷ [])
nodes_push a [] n h k = (k, tt)
nodes_push a (m ∷ nodes) n h k = (h.0, nodes_push a nodes n h.1 k)

cases_push : (a : Arena) (cs : List Case) (c : Case) → CasesIn a cs → CaseIn a c → CasesIn a (cs ++ c ∷ [])
cases_push a [] c h k = (k, tt)
cases_push a (d ∷ cs) c h k = (h.0, cases_push a cs c h.1 k)

cases_take : (a : Arena) (n : ℕ) (cs : List Case) → CasesIn a cs → CasesIn a (take n cs)
cases_take a zero [] h = tt
cases_take a zero (c ∷ cs) h = tt
cases_take a (suc n) [] h = tt
cases_take a (suc n) (c ∷ cs) h = (h.0, cases_take a n cs h.1)

pending_front : (a : Arena) (ps qs : List Pending) → PendingIn a (ps ++ qs) → PendingIn a ps
pending_front a [] qs h = tt
pending_front a (p ∷ ps) qs h = (h.0, pending_front a ps qs h.1)

pending_last : (a : Arena) (ps : List Pending) (p : Pending) → PendingIn a (ps ++ p ∷ []) → CaseIn a p.case
pending_last a [] p h = h.0
pending_last a (r ∷ ps) p h = pending_last a ps p h.1

pending_append : (a : Arena) (ps qs : List Pending) → PendingIn a ps → PendingIn a qs → PendingIn a (ps ++ qs)
pending_append a [] qs h k = k
pending_append a (p ∷ ps) qs h k = (h.0, pending_append a ps qs h.1 k)

-- ---- the part that comes next

-- cases of a path and parts that wait are in the arena
record AreIn (a : Arena) (cs : List Case) (ps : List Pending) : Type 0 where
  cases : CasesIn a cs
  pending : PendingIn a ps

moved : (a : Arena) (old : List Case) (ps : List Pending) (new : List Case) (qs : List Pending) (b : Bool) → Moves old ps new qs b → CasesIn a old → PendingIn a ps → AreIn a new qs
moved a old ps new qs true m h k =
    let inside : PendingIn a (qs ++ m.part ∷ []) = subst (λ (rs : List Pending). PendingIn a rs) m.pending_are k in
    record {
      cases = subst (λ (cs : List Case). CasesIn a cs) (sym m.cases_are) (cases_push a (take m.part.cases old) m.part.case (cases_take a m.part.cases old h) (pending_last a qs m.part inside));
      pending = pending_front a qs (m.part ∷ []) inside;
    }
moved a old ps new qs false m h k = record {
  cases = subst (λ (cs : List Case). CasesIn a cs) (sym m.0) h;
  pending = subst (λ (rs : List Pending). PendingIn a rs) (sym m.2) tt;
}

pub stays-in : (old new : Growth) (n : Grown) → new.nodes ≡ old.nodes ++ n ∷ [] → Moves old.cases old.pending new.cases new.pending new.is_left → (a : Arena) → IsIn a old → GrownIn a n → IsIn a new
stays-in old new n nodes m a h k =
    let rest : AreIn a new.cases new.pending = moved a old.cases old.pending new.cases new.pending new.is_left m h.cases h.pending in
    record { nodes = subst (λ (ms : List Grown). AllGrownIn a ms) (sym nodes) (nodes_push a old.nodes n h.nodes k); cases = rest.cases; pending = rest.pending }

-- ---- the parts of a split

parts_in : (a : Arena) (n : ℕ) (t : TermId) (three : Bool) → has_three a t ≡ three → In a t → PendingIn a (pending_parts n t three)
parts_in a n t true e h = (record { within = h; fits = e }, (record { within = h; fits = e }, tt))
parts_in a n t false e h = (record { within = h; fits = tt }, tt)

pub split-in : (a : Arena) (t : TermId) (count : ℕ) (old new : Growth) → new.nodes ≡ old.nodes ++ grown.Split t count ∷ [] → IsSplit a t old new → In a t → IsIn a old → IsIn a new
split-in a t count old new nodes s inside h = record {
  nodes = subst (λ (ms : List Grown). AllGrownIn a ms) (sym nodes) (nodes_push a old.nodes (grown.Split t count) h.nodes inside);
  cases = subst (λ (cs : List Case). CasesIn a cs) (sym s.cases_are) (cases_push a old.cases (case_of t True) h.cases (record { within = inside; fits = tt }));
  pending =
      subst (λ (ps : List Pending). PendingIn a ps) (sym s.pending_are)
      (pending_append a old.pending (pending_parts (length old.cases) t (has_three a t)) h.pending (parts_in a (length old.cases) t (has_three a t) refl inside));
}

-- ---- the end

placed_in : (a : Arena) (n : Grown) (places : List ℕ) → GrownIn a n → SplitNodeIn a (placed_node n places)
placed_in a grown.Open places h = tt
placed_in a (grown.Closed steps) places h = h
placed_in a (grown.Split t count) places h = h

pub tree-in : (a : Arena) (place : ℕ) (nodes : List Grown) → AllGrownIn a nodes → SplitNodesIn a (placed place nodes)
tree-in a place [] h = tt
tree-in a place (n ∷ nodes) h = (placed_in a n (roots (suc place) nodes) h.0, tree-in a (suc place) nodes h.1)

pub proof-in : (a : Arena) (nodes : List SplitNode) → SplitNodesIn a nodes → NodesIn a (proof_nodes nodes)
proof-in a [] h = tt
proof-in a (node.Open ∷ nodes) h = (tt, tt, proof-in a nodes h.1)
proof-in a (node.Closed steps ∷ nodes) h = (h.0, tt, proof-in a nodes h.1)
proof-in a (node.Split t parts ∷ nodes) h = (tt, h.0, proof-in a nodes h.1)

-- ---- calls, whose tree is seen as this value

pub stays-in-seen : (view old new : Growth) (n : Grown) → view ≡ old → new.nodes ≡ view.nodes ++ n ∷ [] → Moves view.cases view.pending new.cases new.pending new.is_left → (a : Arena) → IsIn a old → GrownIn a n → IsIn a new
stays-in-seen view old new n e nodes m a h k = stays-in view new n nodes m a (subst (λ (s : Growth). IsIn a s) (sym e) h) k

pub split-in-seen : (a : Arena) (t : TermId) (count : ℕ) (view old new : Growth) → view ≡ old → new.nodes ≡ view.nodes ++ grown.Split t count ∷ [] → IsSplit a t view new → In a t → IsIn a old → IsIn a new
split-in-seen a t count view old new e nodes s inside h = split-in a t count view new nodes s inside (subst (λ (x : Growth). IsIn a x) (sym e) h)
