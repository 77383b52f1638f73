-- Nodes that take branches one after the other are a tree that stands.
use Rattle.std.proofs.Common.{◌≡◌, ◌+◌, Bool, true, false, cond, ◌&&◌, List, [], ◌∷◌, ◌++◌, map, take, drop, length, refl, sym, ap, ◌∙◌, subst, Option, Some, None}
use Rattle.std.specs.Prelude.{⊤}
use Rattle.std.specs.Cmp.Derive.{both_true}
use Rattle.std.proofs.lemmas.List.{length-append, length-map}
use Rattle.spv_logic.specs.Terms.{Term}
use Rattle.spv_proof_rules.specs.Evaluation.{sides}
use Rattle.spv_proof_rules.specs.Effects.{Question, is_number}
use Rattle.spv_proof_rules.specs.Accepted.{cases_of, cases_by_sides, two_cases, three_cases}
use Rattle.spv_models.specs.split_trees.Trees.{Tree}
use Rattle.spv_models.specs.split_trees.Kept.{Stands, PartsStand}
use Rattle.spv_verdicts.specs.declared.answers.growing.Grown.{Grown}
use Rattle.spv_verdicts.specs.declared.answers.growing.Grown.TheVariants as grown
use Rattle.spv_verdicts.specs.answers.Nodes.{joined, first_tree}
use Rattle.spv_verdicts.specs.answers.Growing.{parts_count, is_positive, has_parts, are_whole, is_whole, grown_trees, grown_at}
use Rattle.spv_search.specs.branches.Branches.{Branch, root, part_of, left_by, MayTake, Comes}

-- ---- one more node

pub goes-on : (q : Question) (bs : List Branch) (nodes : List Grown) (b : Branch) (rest : List Branch) (n : Grown) → Comes q bs nodes (b ∷ rest) → MayTake q b n → Comes q bs (nodes ++ n ∷ []) (left_by q b n ++ rest)
goes-on q bs [] b rest n h k = subst (λ (xs : List Branch). Comes q xs (n ∷ []) (left_by q b n ++ rest)) (sym h) (k, refl)
goes-on q [] (m ∷ nodes) b rest n h k = absurd h
goes-on q (c ∷ bs) (m ∷ nodes) b rest n h k = (h.0, goes-on q (left_by q c m ++ bs) nodes b rest n h.1 k)

-- ---- one whole tree

some_cases : (q : Question) (t : Term) → is_positive (length (cases_of q t)) ≡ true
some_cases q t = by_sides (sides t)
  where
    by_number : (st : Term × Term) (b : Bool) → is_positive (length (cond b (three_cases st) (two_cases t))) ≡ true
    by_number st true = refl
    by_number st false = refl

    by_sides : (o : Option (Term × Term)) → is_positive (length (cases_by_sides (is_number q) o t)) ≡ true
    by_sides None = refl
    by_sides (Some st) = by_number st (is_number q st.0 && is_number q st.1)

many_left : (q : Question) (b : Branch) (n : Grown) → MayTake q b n → length (left_by q b n) ≡ parts_count n
many_left q b grown.Open h = refl
many_left q b (grown.Closed steps) h = refl
many_left q b (grown.Split t count) h = length-map (cases_of q (q.at t)) (part_of b (q.at t)) ∙ sym h.many

has_some : (q : Question) (b : Branch) (n : Grown) → MayTake q b n → has_parts n ≡ true
has_some q b grown.Open h = refl
has_some q b (grown.Closed steps) h = refl
has_some q b (grown.Split t count) h = ap is_positive h.many ∙ some_cases q (q.at t)

as_many : (q : Question) (bs : List Branch) (nodes : List Grown) → Comes q bs nodes [] → are_whole (length bs) nodes ≡ true
as_many q bs [] h = ap (λ (xs : List Branch). are_whole (length xs) []) h
as_many q [] (n ∷ nodes) h = absurd h
as_many q (b ∷ bs) (n ∷ nodes) h =
    let count : parts_count n + length bs ≡ length (left_by q b n ++ bs) = sym (length-append (left_by q b n) bs ∙ ap (λ k. k + length bs) (many_left q b n h.0)) in
    both_true (has_some q b n h.0) (ap (λ k. are_whole k nodes) count ∙ as_many q (left_by q b n ++ bs) nodes h.1)

pub whole : (q : Question) (nodes : List Grown) → Comes q (root ∷ []) nodes [] → is_whole nodes ≡ true
whole q nodes h = as_many q (root ∷ []) nodes h

-- ---- which stands

-- each of these branches has a tree that stands
abbrev pub BranchesStand : Question → List Branch → List Tree → Type 0
BranchesStand q [] [] = ⊤
BranchesStand q (b ∷ bs) (t ∷ ts) = Stands q b.cases b.above t × BranchesStand q bs ts
BranchesStand q _ _ = ⊥

in_front : (q : Question) (bs cs : List Branch) (ts : List Tree) → BranchesStand q (bs ++ cs) ts → BranchesStand q bs (take (length bs) ts)
in_front q [] cs [] h = tt
in_front q [] cs (t ∷ ts) h = tt
in_front q (b ∷ bs) cs [] h = absurd h
in_front q (b ∷ bs) cs (t ∷ ts) h = (h.0, in_front q bs cs ts h.1)

behind : (q : Question) (bs cs : List Branch) (ts : List Tree) → BranchesStand q (bs ++ cs) ts → BranchesStand q cs (drop (length bs) ts)
behind q [] cs [] h = h
behind q [] cs (t ∷ ts) h = h
behind q (b ∷ bs) cs [] h = absurd h
behind q (b ∷ bs) cs (t ∷ ts) h = behind q bs cs ts h.1

parts_stand : (q : Question) (b : Branch) (t : Term) (fs : List Term) (ts : List Tree) → BranchesStand q (map (part_of b t) fs) ts → PartsStand q b.cases (t ∷ b.above) fs (joined ts)
parts_stand q b t [] [] h = tt
parts_stand q b t [] (u ∷ ts) h = absurd h
parts_stand q b t (f ∷ fs) [] h = absurd h
parts_stand q b t (f ∷ fs) (u ∷ ts) h = (h.0, parts_stand q b t fs ts h.1)

pub all_stand : (q : Question) (bs : List Branch) (nodes : List Grown) → Comes q bs nodes [] → BranchesStand q bs (grown_trees q.at nodes)
all_stand q bs [] h = subst (λ (xs : List Branch). BranchesStand q xs []) (sym h) tt
all_stand q [] (n ∷ nodes) h = absurd h
all_stand q (b ∷ bs) (grown.Open ∷ nodes) h = (h.0, all_stand q bs nodes h.1)
all_stand q (b ∷ bs) (grown.Closed steps ∷ nodes) h = (h.0, all_stand q bs nodes h.1)
all_stand q (b ∷ bs) (grown.Split t count ∷ nodes) h =
    let fs : List Term = cases_of q (q.at t) in
    let parts : List Branch = map (part_of b (q.at t)) fs in
    let ts : List Tree = grown_trees q.at nodes in
    let all : BranchesStand q (parts ++ bs) ts = all_stand q (parts ++ bs) nodes h.1 in
    let many : length parts ≡ count = many_left q b (grown.Split t count) h.0 in
    let first : BranchesStand q parts (take count ts) = subst (λ k. BranchesStand q parts (take k ts)) many (in_front q parts bs ts all) in
    let rest : BranchesStand q bs (drop count ts) = subst (λ k. BranchesStand q bs (drop k ts)) many (behind q parts bs ts all) in
    ((h.0.may, parts_stand q b (q.at t) fs (take count ts) first), rest)

one_stands : (q : Question) (ts : List Tree) → BranchesStand q (root ∷ []) ts → Stands q [] [] (first_tree ts)
one_stands q [] h = absurd h
one_stands q (t ∷ ts) h = h.0

pub stands : (q : Question) (nodes : List Grown) → Comes q (root ∷ []) nodes [] → Stands q [] [] (grown_at q.at nodes)
stands q nodes h = one_stands q (grown_trees q.at nodes) (all_stand q (root ∷ []) nodes h)
