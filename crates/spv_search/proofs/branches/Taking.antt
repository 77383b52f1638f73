-- What the calls on a tree do to it.
use Rattle.std.proofs.Common.{◌≡◌, ℕ, zero, suc, ◌+◌, ◌<◌, ◌≤◌, Bool, true, false, cond, ◌&&◌, ◌||◌, List, [], ◌∷◌, ◌++◌, map, take, length, refl, sym, ap, ◌∙◌, subst, Option, Some, None, arith}
use mathlib.Core.Path.{ap₂}
use Rattle.std.specs.Prelude.{reverse}
use Rattle.std.proofs.Math.Bool.{or_assoc}
use Rattle.std.proofs.Math.Seq.{take-append_seam, take-length}
use Rattle.std.proofs.lemmas.Bool.{false≢true}
use Rattle.std.proofs.lemmas.List.{length-take-le, length_push, map-append, reverse-append, take-append-le}
use Rattle.spv_logic.specs.declared.conditions.TermId.{TermId}
use Rattle.spv_logic.specs.declared.operators.Head.TheVariants.{Eq}
use Rattle.spv_logic.specs.Terms.{Term, term, no_terms, terms}
use Rattle.spv_logic.specs.Formulas.{equation, below}
use Rattle.spv_logic.specs.Conditions.{Sequent}
use Rattle.spv_term.specs.Arena.{Arena, tree}
use Rattle.spv_proof_rules.specs.Evaluation.{sides}
use Rattle.spv_proof_rules.specs.Effects.{Question, is_number}
use Rattle.spv_proof_rules.specs.Accepted.{cases_of, cases_by_sides, two_cases, three_cases}
use Rattle.spv_derivations.specs.declared.derivation.entries.Part.{Part}
use Rattle.spv_derivations.specs.declared.derivation.entries.Part.TheVariants.{True, False, Below, Above}
use Rattle.spv_derivations.specs.derivation.Derivation.{are_numbers, asked, by_sides, literal}
use Rattle.spv_verdicts.specs.declared.answers.growing.Grown.{Grown}
use Rattle.spv_verdicts.specs.declared.answers.growing.Grown.TheVariants as grown
use Rattle.spv_search.specs.declared.branches.cases.Case.{Case}
use Rattle.spv_search.specs.declared.branches.cases.Pending.{Pending}
use Rattle.spv_search.specs.branches.Branches.{Branch, root, part_of, left_by, MayTake, Comes}
use Rattle.spv_search.specs.branches.Counts.{is_open, some_open, splits_of, split_count, room}
use Rattle.spv_search.specs.branches.Growth.{Growth, start, atom_in, case_in, branch_of, cases_at, waiting, next, others, all_if, left, AreNested, IsGrowing, GoesBack, Takes, other_parts, parts_of, has_three, case_of, pending_of, pending_parts, IsNext, Moves}
use Rattle.spv_search.proofs.branches.Coming.{goes-on}
use Rattle.spv_search.proofs.branches.Room.{less-room}

-- ---- the start

pub start-grows : (q : Question) → IsGrowing q start
start-grows q = record { comes = refl; nested = tt; splits_are = refl; open_is = refl }

-- ---- counts

splits_push : (nodes : List Grown) (n : Grown) → split_count (nodes ++ n ∷ []) ≡ split_count nodes + splits_of n
splits_push [] n = none_more (splits_of n)
  where
    none_more : (k : ℕ) → k + zero ≡ zero + k
    none_more k = omega arith
splits_push (m ∷ nodes) n = grouped (splits_of m) (split_count nodes) (splits_of n) (split_count (nodes ++ n ∷ [])) (splits_push nodes n)
  where
    grouped : (a b c d : ℕ) → d ≡ b + c → a + d ≡ (a + b) + c
    grouped a b c d e = omega (arith, e)

or_none : (b : Bool) → (b || false) ≡ b
or_none true = refl
or_none false = refl

open_push : (nodes : List Grown) (n : Grown) → some_open (nodes ++ n ∷ []) ≡ (some_open nodes || is_open n)
open_push [] n = or_none (is_open n)
open_push (m ∷ nodes) n = ap (λ b. is_open m || b) (open_push nodes n) ∙ sym (or_assoc (is_open m) (some_open nodes) (is_open n))

-- ---- a node that takes a branch

left-is : (at : TermId → Term) (s : Growth) → s.is_left ≡ true → left at s ≡ next at s ∷ others at s
left-is at s e = ap (λ b. all_if b (next at s) (others at s)) e

come : (q : Question) (old new : Growth) (n : Grown) → old.is_left ≡ true → new.nodes ≡ old.nodes ++ n ∷ [] → left q.at new ≡ left_by q (next q.at old) n ++ others q.at old → IsGrowing q old → MayTake q (next q.at old) n
    → Comes q (root ∷ []) new.nodes (left q.at new)
come q old new n here nodes leaves g may =
    let before : Comes q (root ∷ []) old.nodes (next q.at old ∷ others q.at old) = subst (λ (bs : List Branch). Comes q (root ∷ []) old.nodes bs) (left-is q.at old here) g.comes in
    let after : Comes q (root ∷ []) (old.nodes ++ n ∷ []) (left_by q (next q.at old) n ++ others q.at old) = goes-on q (root ∷ []) old.nodes (next q.at old) (others q.at old) n before may in
    subst (λ (ms : List Grown). Comes q (root ∷ []) ms (left q.at new)) (sym nodes) (subst (λ (bs : List Branch). Comes q (root ∷ []) (old.nodes ++ n ∷ []) bs) (sym leaves) after)

less : (q : Question) (old new : Growth) (n : Grown) → old.is_left ≡ true → left q.at new ≡ left_by q (next q.at old) n ++ others q.at old → MayTake q (next q.at old) n → room q (left q.at new) < room q (left q.at old)
less q old new n here leaves may =
    subst (λ k. room q (left q.at new) < k) (ap (room q) (sym (left-is q.at old here)))
    (subst (λ k. k < room q (next q.at old ∷ others q.at old)) (ap (room q) (sym leaves)) (less-room q (next q.at old) (others q.at old) n may))

takes : (q : Question) (old new : Growth) (n : Grown) → old.is_left ≡ true → new.nodes ≡ old.nodes ++ n ∷ [] → new.splits ≡ old.splits + splits_of n → new.is_open ≡ (old.is_open || is_open n)
    → (IsGrowing q old → AreNested (length new.cases) (reverse new.pending))
    → (IsGrowing q old → left q.at new ≡ left_by q (next q.at old) n ++ others q.at old)
    → (IsGrowing q old → new.is_left ≡ true → GoesBack old.cases new.cases)
    → Takes q old new n
takes q old new n here nodes splits opens nested leaves back = record {
  nodes_are = nodes;
  splits_are = splits;
  open_is = opens;
  grows = λ g may. record {
    comes = come q old new n here nodes (leaves g) g may;
    nested = nested g;
    splits_are = splits ∙ (ap (λ k. k + splits_of n) g.splits_are ∙ (sym (splits_push old.nodes n) ∙ ap split_count (sym nodes)));
    open_is = opens ∙ (ap (λ b. b || is_open n) g.open_is ∙ (sym (open_push old.nodes n) ∙ ap some_open (sym nodes)));
  };
  leaves = leaves;
  less = λ g may. less q old new n here (leaves g) may;
  goes_back = back;
}

-- ---- the part that comes next

take_none : (xs : List Case) → take 0 xs ≡ []
take_none [] = refl
take_none (x ∷ xs) = refl

-- the first cases of a path are those of one that has these and others behind them
front-same : (n k : ℕ) (xs ys : List Case) → k ≤ n → n ≤ length xs → take k (take n xs ++ ys) ≡ take k xs
front-same n zero xs ys h l = take_none (take n xs ++ ys) ∙ sym (take_none xs)
front-same zero (suc k) xs ys h l = absurd (omega (arith, h))
front-same (suc n) (suc k) [] ys h l = absurd (omega (arith, l))
front-same (suc n) (suc k) (x ∷ xs) ys h l = ap (λ zs. x ∷ zs) (front-same n k xs ys (shorter k n h) (shorter n (length xs) l))
  where
    shorter : (a b : ℕ) → suc a ≤ suc b → a ≤ b
    shorter a b e = omega (arith, e)

through : (a b c : ℕ) → a ≤ b → b ≤ c → a ≤ c
through a b c h k = omega (arith, h, k)

-- beside another path with the same first cases the same parts wait
waiting-same : (at : TermId → Term) (n : ℕ) (path new : List Case) (ps : List Pending) → ((k : ℕ) → k ≤ n → take k new ≡ take k path) → AreNested n ps → waiting at new ps ≡ waiting at path ps
waiting-same at n path new [] same h = refl
waiting-same at n path new (p ∷ ps) same h =
    ap₂ (λ (cs : List Case) (bs : List Branch). branch_of at (cs ++ p.case ∷ []) ∷ bs) (same p.cases h.0)
    (waiting-same at p.cases path new ps (λ k l. same k (through k p.cases n l h.0)) h.1)

nested-up : (m n : ℕ) (ps : List Pending) → m ≤ n → AreNested m ps → AreNested n ps
nested-up m n [] l h = tt
nested-up m n (p ∷ ps) l h = (through p.cases m n h.0 l, h.1)

turned : (rest : List Pending) (pending : List Pending) (p : Pending) → pending ≡ rest ++ p ∷ [] → reverse pending ≡ p ∷ reverse rest
turned rest pending p e = ap reverse e ∙ reverse-append rest (p ∷ [])

-- a node that leaves nothing, behind which the last part that waits comes next
record IsBehind (at : TermId → Term) (old new : Growth) : Type 0 where
  nested : AreNested (length new.cases) (reverse new.pending)
  leaves : left at new ≡ others at old
  back : new.is_left ≡ true → GoesBack old.cases new.cases

part_next : (at : TermId → Term) (old new : Growth) → AreNested (length old.cases) (reverse old.pending) → new.is_left ≡ true → IsNext old.cases old.pending new.cases new.pending → IsBehind at old new
part_next at old new nested here m =
    let turn : reverse old.pending ≡ m.part ∷ reverse new.pending = turned new.pending old.pending m.part m.pending_are in
    let inside : AreNested (length old.cases) (m.part ∷ reverse new.pending) = subst (λ (ps : List Pending). AreNested (length old.cases) ps) turn nested in
    let enough : m.part.cases ≤ length old.cases = inside.0 in
    let front : length (take m.part.cases old.cases) ≡ m.part.cases = length-take-le m.part.cases old.cases enough in
    let longer = length_push (take m.part.cases old.cases) m.part.case in
    let count : length new.cases ≡ length (cases_at old.cases m.part) = ap length m.cases_are in
    let room_for : m.part.cases ≤ length new.cases = omega (arith, front, longer, count) in
    let same : waiting at new.cases (reverse new.pending) ≡ waiting at old.cases (reverse new.pending) =
    waiting-same at m.part.cases old.cases new.cases (reverse new.pending)
    (λ k l. ap (take k) m.cases_are ∙ front-same m.part.cases k old.cases (m.part.case ∷ []) l enough) inside.1 in
    record {
      nested = nested-up m.part.cases (length new.cases) (reverse new.pending) room_for inside.1;
      leaves =
          left-is at new here
          ∙ (ap₂ (λ (cs : List Case) (bs : List Branch). branch_of at cs ∷ bs) m.cases_are same ∙ ap (waiting at old.cases) (sym turn));
      back = λ e. record { kept = m.part.cases; last = m.part.case; within = enough; cases_are = m.cases_are };
    }

no_part : (at : TermId → Term) (old new : Growth) → new.is_left ≡ false → old.pending ≡ [] → new.pending ≡ [] → IsBehind at old new
no_part at old new gone e f = record {
  nested = subst (λ (ps : List Pending). AreNested (length new.cases) (reverse ps)) (sym f) tt;
  leaves = ap (λ b. all_if b (next at new) (others at new)) gone ∙ ap (λ (ps : List Pending). waiting at old.cases (reverse ps)) (sym e);
  back = λ h. absurd (false≢true (sym gone ∙ h));
}

moved : (at : TermId → Term) (old new : Growth) → AreNested (length old.cases) (reverse old.pending) → Moves old.cases old.pending new.cases new.pending new.is_left → IsBehind at old new
moved at old new nested m = by_left new.is_left refl m
  where
    by_left : (b : Bool) → new.is_left ≡ b → Moves old.cases old.pending new.cases new.pending b → IsBehind at old new
    by_left true e k = part_next at old new nested e k
    by_left false e k = no_part at old new e k.1 k.2

pub takes-next : (old new : Growth) (n : Grown) → old.is_left ≡ true → new.nodes ≡ old.nodes ++ n ∷ [] → new.splits ≡ old.splits + splits_of n → new.is_open ≡ (old.is_open || is_open n)
    → ((q : Question) (b : Branch) → left_by q b n ≡ []) → Moves old.cases old.pending new.cases new.pending new.is_left → (q : Question) → Takes q old new n
takes-next old new n here nodes splits opens none m q =
    takes q old new n here nodes splits opens (λ g. (moved q.at old new g.nested m).nested)
    (λ g. (moved q.at old new g.nested m).leaves ∙ ap (λ (bs : List Branch). bs ++ others q.at old) (sym (none q (next q.at old))))
    (λ g. (moved q.at old new g.nested m).back)

-- ---- the parts of a split

abbrev branch : List Term → List Term → Branch
branch cases above = record { cases = cases; above = above }

branch-push : (at : TermId → Term) (cs : List Case) (c : Case) → branch_of at (cs ++ c ∷ []) ≡ part_of (branch_of at cs) (at c.atom) (case_in at c)
branch-push at cs c =
    ap₂ branch (map-append (case_in at) cs (c ∷ []))
    (ap reverse (map-append (atom_in at) cs (c ∷ [])) ∙ reverse-append (map (atom_in at) cs) (at c.atom ∷ []))

branch-part : (at : TermId → Term) (path : List Case) (first : Case) (t : TermId) (part : Part)
    → branch_of at (cases_at (path ++ first ∷ []) (pending_of (length path) t part)) ≡ part_of (branch_of at path) (at t) (literal (at t) part)
branch-part at path first t part = ap (λ (cs : List Case). branch_of at (cs ++ case_of t part ∷ [])) (take-append_seam path (first ∷ [])) ∙ branch-push at path (case_of t part)

-- the parts that wait behind the first one of a split, and those that waited before
waiting-parts : (at : TermId → Term) (path : List Case) (first : Case) (t : TermId) (three : Bool) (pending : List Pending) → AreNested (length path) (reverse pending)
    → waiting at (path ++ first ∷ []) (reverse (pending ++ pending_parts (length path) t three))
    ≡ map (part_of (branch_of at path) (at t)) (map (literal (at t)) (other_parts three)) ++ waiting at path (reverse pending)
waiting-parts at path first t true pending nested =
    ap (waiting at (path ++ first ∷ [])) (reverse-append pending (pending_parts (length path) t true))
    ∙ ap₂ (λ (b : Branch) (bs : List Branch). b ∷ bs) (branch-part at path first t Below)
    (ap₂ (λ (b : Branch) (bs : List Branch). b ∷ bs) (branch-part at path first t Above)
    (waiting-same at (length path) path (path ++ first ∷ []) (reverse pending) (λ k l. take-append-le k path (first ∷ []) l) nested))
waiting-parts at path first t false pending nested =
    ap (waiting at (path ++ first ∷ [])) (reverse-append pending (pending_parts (length path) t false))
    ∙ ap₂ (λ (b : Branch) (bs : List Branch). b ∷ bs) (branch-part at path first t False)
    (waiting-same at (length path) path (path ++ first ∷ []) (reverse pending) (λ k l. take-append-le k path (first ∷ []) l) nested)

nested-parts : (n : ℕ) (t : TermId) (three : Bool) (pending : List Pending) → AreNested n (reverse pending) → AreNested (suc n) (reverse (pending ++ pending_parts n t three))
nested-parts n t true pending nested =
    subst (λ (ps : List Pending). AreNested (suc n) ps) (sym (reverse-append pending (pending_parts n t true))) (one_up n, (same n, nested))
  where
    one_up : (k : ℕ) → k ≤ suc k
    one_up k = omega arith

    same : (k : ℕ) → k ≤ k
    same k = omega arith
nested-parts n t false pending nested =
    subst (λ (ps : List Pending). AreNested (suc n) ps) (sym (reverse-append pending (pending_parts n t false))) (one_up n, nested)
  where
    one_up : (k : ℕ) → k ≤ suc k
    one_up k = omega arith

equation-is : (t : Term) (st : Term × Term) → sides t ≡ Some st → t ≡ equation st.0 st.1
equation-is (term Eq (terms s (terms u no_terms))) st e = let same : (s, u) ≡ st = cc in ap (λ (r : Term × Term). equation r.0 r.1) same
equation-is _ st e = cc

-- the cases of an atom are its parts
cases-are : (number : Term → Bool) (t : Term) → cases_by_sides number (sides t) t ≡ map (literal t) (parts_of (are_numbers number (sides t)))
cases-are number t = by_option (sides t) refl
  where
    three_are : (st : Term × Term) → sides t ≡ Some st → three_cases st ≡ map (literal t) (parts_of true)
    three_are st e =
        ap₂ (λ (x : Term) (xs : List Term). x ∷ xs) (sym (equation-is t st e))
        (ap (λ (o : Option (Term × Term)). by_sides below o t ∷ by_sides (λ x y. below y x) o t ∷ []) (sym e))

    by_number : (st : Term × Term) → sides t ≡ Some st → (b : Bool) → cond b (three_cases st) (two_cases t) ≡ map (literal t) (parts_of b)
    by_number st e true = three_are st e
    by_number st e false = refl

    by_option : (o : Option (Term × Term)) → sides t ≡ o → cases_by_sides number o t ≡ map (literal t) (parts_of (are_numbers number o))
    by_option None e = refl
    by_option (Some st) e = by_number st e (number st.0 && number st.1)

-- how many parts there are
pub parts-many : (a : Arena) (c : Sequent) (t : TermId) → length (parts_of (has_three a t)) ≡ length (cases_of (asked a c) (tree a t))
parts-many a c t = by_three (has_three a t) ∙ ap length (sym (cases-are (is_number (asked a c)) (tree a t)))
  where
    by_three : (b : Bool) → length (parts_of b) ≡ length (map (literal (tree a t)) (parts_of b))
    by_three true = refl
    by_three false = refl

-- what a split does to the cases of a path and the parts that wait
pub record IsSplit (a : Arena) (t : TermId) (old new : Growth) : Type 0 where
  pub cases_are : new.cases ≡ old.cases ++ case_of t True ∷ []
  pub pending_are : new.pending ≡ old.pending ++ pending_parts (length old.cases) t (has_three a t)

split_leaves : (a : Arena) (c : Sequent) (t : TermId) (count : ℕ) (old new : Growth) → new.is_left ≡ true → IsSplit a t old new → AreNested (length old.cases) (reverse old.pending)
    → left (tree a) new ≡ left_by (asked a c) (next (tree a) old) (grown.Split t count) ++ others (tree a) old
split_leaves a c t count old new here s nested =
    let b : Branch = branch_of (tree a) old.cases in
    let parts : waiting (tree a) (old.cases ++ case_of t True ∷ []) (reverse (old.pending ++ pending_parts (length old.cases) t (has_three a t)))
    ≡ map (part_of b (tree a t)) (map (literal (tree a t)) (other_parts (has_three a t))) ++ others (tree a) old
    = waiting-parts (tree a) old.cases (case_of t True) t (has_three a t) old.pending nested in
    let all : cases_of (asked a c) (tree a t) ≡ map (literal (tree a t)) (parts_of (has_three a t)) = cases-are (is_number (asked a c)) (tree a t) in
    left-is (tree a) new here
    ∙ (ap₂ (λ (cs : List Case) (ps : List Pending). branch_of (tree a) cs ∷ waiting (tree a) cs (reverse ps)) s.cases_are s.pending_are
    ∙ (ap₂ (λ (x : Branch) (bs : List Branch). x ∷ bs) (branch-push (tree a) old.cases (case_of t True)) parts
    ∙ ap (λ (fs : List Term). map (part_of b (tree a t)) fs ++ others (tree a) old) (sym all)))

split_nested : (a : Arena) (t : TermId) (old new : Growth) → IsSplit a t old new → AreNested (length old.cases) (reverse old.pending) → AreNested (length new.cases) (reverse new.pending)
split_nested a t old new s nested =
    let longer = length_push old.cases (case_of t True) in
    let same : length new.cases ≡ length (old.cases ++ case_of t True ∷ []) = ap length s.cases_are in
    let count : length new.cases ≡ suc (length old.cases) = omega (arith, longer, same) in
    subst (λ k. AreNested k (reverse new.pending)) (sym count)
    (subst (λ (ps : List Pending). AreNested (suc (length old.cases)) (reverse ps)) (sym s.pending_are) (nested-parts (length old.cases) t (has_three a t) old.pending nested))

split_back : (a : Arena) (t : TermId) (old new : Growth) → IsSplit a t old new → GoesBack old.cases new.cases
split_back a t old new s = record {
  kept = length old.cases;
  last = case_of t True;
  within = same (length old.cases);
  cases_are = s.cases_are ∙ ap (λ (cs : List Case). cs ++ case_of t True ∷ []) (sym (take-length old.cases));
}
  where
    same : (k : ℕ) → k ≤ k
    same k = omega arith

pub takes-split : (a : Arena) (t : TermId) (count : ℕ) (old new : Growth) → old.is_left ≡ true → new.is_left ≡ true → new.nodes ≡ old.nodes ++ grown.Split t count ∷ [] → count ≡ length (parts_of (has_three a t))
    → new.splits ≡ old.splits + 1 → new.is_open ≡ old.is_open → IsSplit a t old new → (c : Sequent) → Takes (asked a c) old new (grown.Split t (length (cases_of (asked a c) (tree a t))))
takes-split a t count old new here still nodes many splits opens s c =
    let all : count ≡ length (cases_of (asked a c) (tree a t)) = many ∙ parts-many a c t in
    takes (asked a c) old new (grown.Split t (length (cases_of (asked a c) (tree a t)))) here
    (nodes ∙ ap (λ k. old.nodes ++ grown.Split t k ∷ []) all) splits (opens ∙ sym (or_none old.is_open))
    (λ g. split_nested a t old new s g.nested)
    (λ g. split_leaves a c t (length (cases_of (asked a c) (tree a t))) old new still s g.nested)
    (λ g e. split_back a t old new s)

-- ---- calls, whose tree is seen as this value

pub none-more : (k : ℕ) → k ≡ k + 0
none-more k = omega arith

pub or-true : (b : Bool) → true ≡ (b || true)
or-true true = refl
or-true false = refl

pub or-false : (b : Bool) → b ≡ (b || false)
or-false b = sym (or_none b)

pub takes-next-seen : (view old new : Growth) (n : Grown) → view ≡ old → old.is_left ≡ true → new.nodes ≡ view.nodes ++ n ∷ [] → new.splits ≡ view.splits + splits_of n → new.is_open ≡ (view.is_open || is_open n)
    → ((q : Question) (b : Branch) → left_by q b n ≡ []) → Moves view.cases view.pending new.cases new.pending new.is_left → (q : Question) → Takes q old new n
takes-next-seen view old new n e here nodes splits opens none m q =
    subst (λ (s : Growth). Takes q s new n) e (takes-next view new n (ap (λ (s : Growth). s.is_left) e ∙ here) nodes splits opens none m q)

pub split-seen : (a : Arena) (t : TermId) (view new : Growth) (own : ℕ) (three : Bool) (seen : List Case) → new.cases ≡ view.cases ++ case_of t True ∷ [] → new.pending ≡ view.pending ++ pending_parts own t three → own ≡ length seen
    → seen ≡ view.cases → three ≡ has_three a t → IsSplit a t view new
split-seen a t view new own three seen cases pending many same is = record {
  cases_are = cases;
  pending_are = pending ∙ ap₂ (λ k b. view.pending ++ pending_parts k t b) (many ∙ ap length same) is;
}

pub takes-split-seen : (a : Arena) (t : TermId) (count : ℕ) (three : Bool) (view old new : Growth) → view ≡ old → old.is_left ≡ true → new.is_left ≡ view.is_left → new.nodes ≡ view.nodes ++ grown.Split t count ∷ []
    → count ≡ length (parts_of three) → three ≡ has_three a t → new.splits ≡ view.splits + 1 → new.is_open ≡ view.is_open → IsSplit a t view new
    → (c : Sequent) → Takes (asked a c) old new (grown.Split t (length (cases_of (asked a c) (tree a t))))
takes-split-seen a t count three view old new e here still nodes many is splits opens s c =
    let now : view.is_left ≡ true = ap (λ (x : Growth). x.is_left) e ∙ here in
    subst (λ (x : Growth). Takes (asked a c) x new (grown.Split t (length (cases_of (asked a c) (tree a t))))) e
    (takes-split a t count view new now (still ∙ now) nodes (many ∙ ap (λ b. length (parts_of b)) is) splits opens s c)
