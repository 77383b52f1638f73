-- Paths that are still to be closed, over plain variables.
use Rattle.std.proofs.Common.{◌≡◌, ℕ, zero, suc, ◌<◌, ◌≤◌, Bool, true, ◌&&◌, List, [], ◌∷◌, ◌++◌, map, length, take, refl, sym, ap, ◌∙◌, subst, Option, Some, None, nat_eq, arith, min, length-take, Result, IfOk}
use Rattle.std.proofs.Math.Seq.{take-nil}
use Rattle.std.proofs.lemmas.List.{append-nil, append_assoc, length-map}
use Rattle.std.specs.Option.{option_map}
use Rattle.spv_logic.specs.declared.conditions.TermId.{TermId}
use Rattle.spv_term.specs.Arena.{Arena, IsArena, AllBelow, tree, trees_of, sort_at}
use Rattle.std.specs.declared.alloc.AllocError.{AllocError}
use Rattle.std.proofs.lemmas.Bool.{eq-eqb}
use Rattle.spv_logic.proofs.list.Tests.{left_true}
use Rattle.spv_logic.specs.declared.types.Sort.TheVariants as sort
use Rattle.spv_logic.specs.Conditions.{Sequent}
use Rattle.spv_logic.proofs.Equality.{sort_eq-true}
use Rattle.spv_atoms.specs.declared.proofs.Split.{Split}
use Rattle.spv_atoms.specs.Atoms.{is_atom}
use Rattle.spv_atoms.specs.Atoms as atoms
use Rattle.spv_proof_rules.specs.Effects.{Question, is_truth}
use Rattle.spv_proof_rules.specs.Accepted as accepted
use Rattle.spv_proof_steps.specs.Candidates.{IsBool}
use Rattle.spv_proof_steps.specs.Steps.{asked}
use Rattle.spv_proof_steps.proofs.ValuedLemmas.{truth-at}
use Rattle.spv_proof.specs.declared.checker.walking.Path as walked
use Rattle.spv_proof.specs.declared.checker.walking.Path.TheVariants as path
use Rattle.spv_proof.specs.checker.Walks.{path_of}
use Rattle.spv_proof_rules.specs.Outcomes as outcomes
use Rattle.spv_proof_steps.specs.declared.facts.Fact.{Fact}
use Rattle.spv_proof_steps.specs.Steps.{fact_of}
use Rattle.spv_proof.specs.declared.checker.branches.Branch.{Branch}
use Rattle.spv_proof.specs.checker.Ends.{comes_in}
use Rattle.spv_proof.specs.checker.Stacks.{branch_in, Begun, stacked, AllFrom, IsPending, AllStand, pushed_cases, Leaves}
use Rattle.spv_proof.proofs.checker.Goings.{take-take}

-- ---- facts that are taken away

pub AllBelow-take : (n k : ℕ) (ts : List TermId) → AllBelow n ts → AllBelow n (take k ts)
AllBelow-take n k [] h = subst (AllBelow n) (sym (take-nil k)) tt
AllBelow-take n zero (t ∷ ts) h = tt
AllBelow-take n (suc k) (t ∷ ts) h = (h.0, AllBelow-take n k ts h.1)

pub AllBelow-cut : (n k : ℕ) (ts us : List TermId) → us ≡ take k ts → AllBelow n ts → AllBelow n us
AllBelow-cut n k ts us e h = subst (AllBelow n) (sym e) (AllBelow-take n k ts h)

pub cut-length : (k : ℕ) (ts us : List TermId) → us ≡ take k ts → k ≤ length ts → length us ≡ k
cut-length k ts us e h = ap length e ∙ (length-take k ts ∙ smaller k (length ts) h)
  where
    smaller : (m n : ℕ) → m ≤ n → min m n ≡ m
    smaller m n h = omega arith

-- a path without a case begins with its facts
pub begun-none : (a : Arena) (before facts : List TermId) (b : Branch) → b.opens ≡ None → facts ≡ take b.mark before → AllBelow (length a.nodes) before → b.mark ≤ length before → Begun a before b a facts
begun-none a before facts b none e h m = record {
  outcome = ap (outcomes.begin_with a.most (trees_of a.nodes) (map (tree a) (take b.mark before))) (ap (option_map (fact_of a)) none) ∙ ap (λ ts. comes_in a (map (tree a) ts)) (sym e);
  in_range = AllBelow-cut (length a.nodes) b.mark before facts e h;
  before_is = ap (take b.mark) e ∙ take-take b.mark b.mark before (omega arith);
  longer = omega (arith, cut-length b.mark before facts e m);
}

-- ---- what waits

stacked-append : (a : Arena) (facts : List TermId) (xs ys : List Branch) → stacked a facts (xs ++ ys) ≡ stacked a facts ys ++ stacked a facts xs
stacked-append a facts [] ys = sym (append-nil (stacked a facts ys))
stacked-append a facts (x ∷ xs) ys =
    ap (λ bs. bs ++ branch_in a facts x ∷ []) (stacked-append a facts xs ys) ∙ append_assoc (stacked a facts ys) (stacked a facts xs) (branch_in a facts x ∷ [])

-- the last one comes first
pub stacked-last : (a : Arena) (facts : List TermId) (xs : List Branch) (b : Branch) → stacked a facts (xs ++ b ∷ []) ≡ branch_in a facts b ∷ stacked a facts xs
stacked-last a facts xs b = stacked-append a facts xs (b ∷ [])

take-whole : (xs : List TermId) → take (length xs) xs ≡ xs
take-whole [] = refl
take-whole (x ∷ xs) = ap (λ ys. x ∷ ys) (take-whole xs)

-- the cases of an atom, as they are put there
pub stacked-cases : (a : Arena) (facts : List TermId) (cases : List Fact) → stacked a facts (pushed_cases (length facts) cases) ≡ map (outcomes.case_after (map (tree a) facts)) (map (fact_of a) cases)
stacked-cases a facts [] = refl
stacked-cases a facts (f ∷ cases) =
    stacked-last a facts (pushed_cases (length facts) cases) (record { mark = length facts; opens = Some f })
    ∙ ((λ i. record { before = map (tree a) (take-whole facts i); opens = Some (fact_of a f) } ∷ stacked a facts (pushed_cases (length facts) cases)) ∙ ap (λ bs. outcomes.case_after (map (tree a) facts) (fact_of a f) ∷ bs) (stacked-cases a facts cases))

pub stacked-pushed : (a : Arena) (facts : List TermId) (waiting left : List Branch) (cases : List Fact) → left ≡ waiting ++ pushed_cases (length facts) cases
    → stacked a facts left ≡ map (outcomes.case_after (map (tree a) facts)) (map (fact_of a) cases) ++ stacked a facts waiting
stacked-pushed a facts waiting left cases e =
    ap (stacked a facts) e ∙ (stacked-append a facts waiting (pushed_cases (length facts) cases) ∙ ap (λ bs. bs ++ stacked a facts waiting) (stacked-cases a facts cases))

-- ---- what each of them keeps

from-append : (n : ℕ) (xs ys : List Branch) → AllFrom n xs → AllFrom n ys → AllFrom n (xs ++ ys)
from-append n [] ys h k = k
from-append n (x ∷ xs) ys h k = (h.0, from-append n xs ys h.1 k)

from-cases : (n mark : ℕ) (cases : List Fact) → n ≤ mark → AllFrom n (pushed_cases mark cases)
from-cases n mark [] h = tt
from-cases n mark (f ∷ cases) h = from-append n (pushed_cases mark cases) (record { mark = mark; opens = Some f } ∷ []) (from-cases n mark cases h) (h, tt)

from-less : (m n : ℕ) (zs : List Branch) → AllFrom n zs → m ≤ n → AllFrom m zs
from-less m n [] g less = tt
from-less m n (z ∷ zs) g less = (omega (arith, g.0, less), from-less m n zs g.1 less)

-- paths are put behind those that wait, with as many facts as there are
pending-append : (a : Arena) (n : ℕ) (xs ys : List Branch) → IsPending a n xs → IsPending a n ys → AllFrom n ys → IsPending a n (xs ++ ys)
pending-append a n [] ys h k f = k
pending-append a n (x ∷ xs) ys h k f = (h.0, h.1, from-append x.mark xs ys h.2 (from-less x.mark n ys f h.0), pending-append a n xs ys h.3 k f)

pending-cases : (a : Arena) (n : ℕ) (cases : List Fact) → AllStand a cases → IsPending a n (pushed_cases n cases)
pending-cases a n [] h = tt
pending-cases a n (f ∷ cases) h =
    pending-append a n (pushed_cases n cases) (record { mark = n; opens = Some f } ∷ []) (pending-cases a n cases h.1) (omega arith, h.0, tt, tt) (omega arith, tt)

pub pending-pushed : (a : Arena) (n : ℕ) (waiting left : List Branch) (cases : List Fact) → AllStand a cases → IsPending a n waiting → left ≡ waiting ++ pushed_cases n cases → IsPending a n left
pending-pushed a n waiting left cases h k e = subst (IsPending a n) (sym e) (pending-append a n waiting (pushed_cases n cases) k (pending-cases a n cases h) (from-cases n n cases (omega arith)))

-- ---- the cases of a split

module _ (a : Arena) (facts : List TermId) (waiting left : List Branch) (s : Split) where
  -- the atom is one, and there is a part for each case
  pub opens-cases : (q : Question) (cases : List Fact) → map (fact_of a) cases ≡ accepted.cases_of q (q.at s.atom) → is_atom (is_truth q) (q.at s.atom) ≡ true → length s.parts ≡ length cases
      → AllStand a cases → IsPending a (length facts) waiting → left ≡ waiting ++ pushed_cases (length facts) cases → Leaves a facts waiting left true (outcomes.branches q (map (tree a) facts) s)
  opens-cases q cases value atom count stand waits pushed =
      let same : nat_eq (length s.parts) (length (accepted.cases_of q (q.at s.atom))) ≡ true =
      eq-eqb (length s.parts) (length (accepted.cases_of q (q.at s.atom))) (count ∙ (sym (length-map cases (fact_of a)) ∙ ap length value)) in
      let taken : outcomes.branches q (map (tree a) facts) s ≡ Some (map (outcomes.case_after (map (tree a) facts)) (map (fact_of a) cases)) =
      (λ i. outcomes.branches_if (atom i && same i) (map (tree a) facts) (sym value i)) in
      record {
        paths = (map (outcomes.case_after (map (tree a) facts)) (map (fact_of a) cases), taken, stacked-pushed a facts waiting left cases pushed);
        pending = pending-pushed a (length facts) waiting left cases stand waits pushed;
      }

  -- a split that ends an open path
  pub leaves-open : (p : walked.Path) (o : Option Split) (r : Result Bool AllocError) → p ≡ path.Open → o ≡ Some s
      → IfOk r (λ b. (c : Sequent) → Leaves a facts waiting left b (outcomes.branches (asked a c) (map (tree a) facts) s))
      → IfOk r (λ b. (c : Sequent) → Leaves a facts waiting left b (outcomes.branches_after (asked a c) (path_of (map (tree a) facts) p) o))
  leaves-open p o r pe oe h =
      subst (λ (x : walked.Path). IfOk r (λ b. (c : Sequent) → Leaves a facts waiting left b (outcomes.branches_after (asked a c) (path_of (map (tree a) facts) x) o))) (sym pe)
      (subst (λ (x : Option Split). IfOk r (λ b. (c : Sequent) → Leaves a facts waiting left b (outcomes.branches_after (asked a c) (accepted.Open (map (tree a) facts)) x))) (sym oe) h)

-- an atom is of sort Bool
pub atom-sort : (a : Arena) → IsArena a → (t : TermId) → t.0 < length a.nodes → is_atom (atoms.is_truth a.shapes a.decls) (tree a t) ≡ true → IsBool a t
atom-sort a ok t h e = sort_eq-true (sort_at a t) sort.Bool (sym (truth-at a ok t h) ∙ left_true (atoms.is_truth a.shapes a.decls (tree a t)) _ e)
