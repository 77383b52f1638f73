-- A condition's terms have their forms exactly where each term that is kept has the form of its head.
use Rattle.std.proofs.Common.{◌≡◌, ℕ, zero, suc, ◌+◌, ◌<◌, Bool, true, false, ◌&&◌, not, if◌then◌else◌, Option, Some, None, List, [], ◌∷◌, ◌++◌, map, length, get_or, flat_map, nat_eq, nat_lt, ◌^◌, refl, sym, ap, subst, ◌∙◌, arith}
use Rattle.std.specs.List.{list_all, list_any}
use Rattle.std.proofs.lemmas.List.{length-append}
use Rattle.std.proofs.lemmas.List.Folds.{list_all-append}
use Rattle.spv_logic.proofs.list.Tests.{left_true, right_true}
use Rattle.spv_whole.specs.Fraction.{Fraction}
use Rattle.spv_listing_values.specs.declared.data.Step.{Step}
use Rattle.spv_listing_values.specs.declared.data.Step.TheVariants as step
use Rattle.spv_listing_values.specs.declared.data.Split.{Split}
use Rattle.spv_listing_values.specs.declared.data.ProofNode.{ProofNode}
use Rattle.spv_listing_values.specs.declared.data.Instance.{Instance}
use Rattle.spv_listing_values.specs.declared.data.Limit.{Limit}
use Rattle.spv_listing_values.specs.declared.data.Limit.TheVariants as limit
use Rattle.spv_listing_values.specs.declared.data.Verdict.{Verdict}
use Rattle.spv_listing_values.specs.declared.data.Verdict.TheVariants.{Proved, Unproved, GaveUp}
use Rattle.spv_listing_values.specs.declared.data.Claim.{Claim}
use Rattle.spv_listing_values.specs.declared.texts.Text.{Text}
use Rattle.spv_listing_values.specs.Written.{Written, Writtens, written, no_written, writtens, word}
use Rattle.spv_listing_values.specs.Reading.{is_fraction}
use Rattle.spv_listing_values.specs.Lines.{is_equation}
use Rattle.spv_listing_values.specs.Forms.{count, is_head, is_term, are_terms, is_short, is_relation, are_sums, is_multiple, is_field, is_step, is_end, ends_rightly, is_node, is_tree, is_proof, is_limit, is_instance, is_row, is_verdict, is_header, is_claim}
use Rattle.spv_listing_values.specs.Mapped.{step_terms, split_terms, node_terms, instance_terms, row_term, limit_terms, verdict_terms, claim_terms}
use Rattle.spv_listing_values.specs.Places.{Flat, AreBefore, AreOrdered, IsTable, at, args_at, tree_of, trees_behind, trees, tree, flat_eq, entered, all_entered, list_entered, flats_of}
use Rattle.spv_listing_values.specs.Entries.{has_form}
use Rattle.spv_listing_values.proofs.Entering.{entering, all_count}
use Rattle.spv_listing_values.proofs.Grown.{length_trees}
use Rattle.spv_listing_values.proofs.Numerals.{both_true}

-- ---- the terms of a condition

join : (a b : Bool) → a ≡ true → b ≡ true → (a && b) ≡ true
join a b h k = both_true a b h k

all_join : {X : Type 0} (p : X → Bool) (a b : List X) → list_all p a ≡ true → list_all p b ≡ true → list_all p (a ++ b) ≡ true
all_join p a b h k = list_all-append p a b ∙ join (list_all p a) (list_all p b) h k

all_flat : {X Y : Type 0} (test : X → Bool) (p : Y → Bool) (f : X → List Y) → ((x : X) → test x ≡ true → list_all p (f x) ≡ true) → (xs : List X) → list_all test xs ≡ true → list_all p (flat_map f xs) ≡ true
all_flat test p f each [] h = refl
all_flat test p f each (x ∷ xs) h =
    all_join p (f x) (flat_map f xs) (each x (left_true (test x) (list_all test xs) h)) (all_flat test p f each xs (right_true (test x) (list_all test xs) h))

one_term : (t : Written) → is_term t ≡ true → list_all is_term (t ∷ []) ≡ true
one_term t h = join (is_term t) true h refl

step_forms : (s : Step Written) → is_step s ≡ true → list_all is_term (step_terms s) ≡ true
step_forms (step.Given k) h = refl
step_forms (step.Refl t) h = one_term t h
step_forms (step.Symm i) h = refl
step_forms (step.Trans i j) h = refl
step_forms (step.Cong t u facts) h =
    join (is_term t) (is_term u && true) (left_true (is_term t) (is_term u && list_all is_short facts) h)
    (one_term u (left_true (is_term u) (list_all is_short facts) (right_true (is_term t) (is_term u && list_all is_short facts) h)))
step_forms (step.Linear r first second) h = one_term r (left_true (is_term r) (is_relation r && (list_all is_multiple first && are_sums (is_equation r) second)) h)
step_forms (step.Schema k ts name) h = left_true (list_all is_term ts) (is_field (nat_eq k 4) name) (right_true (nat_lt k (2 ^ 8)) (list_all is_term ts && is_field (nat_eq k 4) name) h)
step_forms (step.Rule r ts) h = right_true (is_short r) (list_all is_term ts) h
step_forms (step.Eval t facts) h = one_term t (left_true (is_term t) (list_all is_short facts) h)
step_forms (step.Contra i j) h = refl

split_forms : (steps : List (Step Written)) (s : Option (Split Written)) → ends_rightly steps s ≡ true → list_all is_term (split_terms s) ≡ true
split_forms steps None h = refl
split_forms steps (Some s) h = one_term s.atom (left_true (is_term s.atom) (list_all (λ p. not (is_end p)) steps) (right_true (nat_lt 0 s.cases && is_short s.cases) (is_term s.atom && list_all (λ p. not (is_end p)) steps) h))

node_forms : (n : ProofNode Written) → is_node n ≡ true → list_all is_term (node_terms n) ≡ true
node_forms n h =
    all_join is_term (flat_map step_terms n.steps) (split_terms n.split)
    (all_flat is_step is_term step_terms step_forms n.steps (left_true (list_all is_step n.steps) (ends_rightly n.steps n.split) h))
    (split_forms n.steps n.split (right_true (list_all is_step n.steps) (ends_rightly n.steps n.split) h))

nodes_forms : (nodes : List (ProofNode Written)) → is_proof nodes ≡ true → list_all is_term (flat_map node_terms nodes) ≡ true
nodes_forms [] h = refl
nodes_forms (n ∷ nodes) h = all_flat is_node is_term node_terms node_forms (n ∷ nodes) (left_true (list_all is_node (n ∷ nodes)) (is_tree (0 ∷ []) (n ∷ nodes)) h)

limit_forms : (l : Limit Written) → is_limit l ≡ true → list_all is_term (limit_terms l) ≡ true
limit_forms (limit.Splits n) h = refl
limit_forms (limit.Instances n) h = refl
limit_forms (limit.Pivots n) h = refl
limit_forms limit.Terms h = refl
limit_forms (limit.Form t) h = one_term t h
limit_forms (limit.Wide o left right) h = refl

instance_forms : (i : Instance Written) → is_instance i ≡ true → list_all is_term (instance_terms i) ≡ true
instance_forms i h = right_true (is_short i.rule) (list_all is_term i.values) h

rows_forms : (rows : List (Written × Fraction)) → list_all is_row rows ≡ true → list_all is_term (map row_term rows) ≡ true
rows_forms [] h = refl
rows_forms (r ∷ rows) h =
    join (is_term r.0) (list_all is_term (map row_term rows)) (left_true (is_term r.0) (is_fraction r.1) (left_true (is_row r) (list_all is_row rows) h))
    (rows_forms rows (right_true (is_row r) (list_all is_row rows) h))

verdict_forms : (v : Verdict Written) → is_verdict v ≡ true → list_all is_term (verdict_terms v) ≡ true
verdict_forms (Proved nodes) h = nodes_forms nodes h
verdict_forms (Unproved branch is table) h =
    let rest = right_true (list_all is_term branch) (list_all is_instance is && list_all is_row table) h in
    all_join is_term branch (flat_map instance_terms is ++ map row_term table) (left_true (list_all is_term branch) (list_all is_instance is && list_all is_row table) h)
    (all_join is_term (flat_map instance_terms is) (map row_term table)
    (all_flat is_instance is_term instance_terms instance_forms is (left_true (list_all is_instance is) (list_all is_row table) rest)) (rows_forms table (right_true (list_all is_instance is) (list_all is_row table) rest)))
verdict_forms (GaveUp l) h = limit_forms l h

pub claim_forms : (c : Claim Written) → is_claim c ≡ true → list_all is_term (claim_terms c) ≡ true
claim_forms c h =
    let rest = right_true (is_header c.header) (list_all is_term c.given && (is_term c.goal && is_verdict c.verdict)) h in
    let last = right_true (list_all is_term c.given) (is_term c.goal && is_verdict c.verdict) rest in
    all_join is_term c.given (c.goal ∷ verdict_terms c.verdict) (left_true (list_all is_term c.given) (is_term c.goal && is_verdict c.verdict) rest)
    (join (is_term c.goal) (list_all is_term (verdict_terms c.verdict)) (left_true (is_term c.goal) (is_verdict c.verdict) last)
    (verdict_forms c.verdict (right_true (is_term c.goal) (is_verdict c.verdict) last)))

-- ---- a term that is entered has the forms of its heads

flat_forms : (b : Bool) (fs : List Flat) (f : Flat) → list_all has_form fs ≡ true → has_form f ≡ true → list_all has_form (if b then fs else fs ++ f ∷ []) ≡ true
flat_forms true fs f h k = h
flat_forms false fs f h k = all_join has_form fs (f ∷ []) h (join (has_form f) true k refl)

mutual
  entered_forms : (t : Written) (fs : List Flat) (ps : List Text) → list_all has_form fs ≡ true → is_term t ≡ true → list_all has_form (entered (entering fs ps) t).flats ≡ true
  entered_forms (written h ts) fs ps ok form =
      let a = all_entered (entering fs []) ts in
      let f : Flat = record { head = h; args = a.places } in
      let size : length a.places ≡ count ts = all_count ts fs [] ∙ none (count ts) in
      flat_forms (list_any (flat_eq f) a.flats) a.flats f (all_entered_forms ts fs [] ok (right_true (is_head h (count ts)) (are_terms ts) form))
      (ap (is_head h) size ∙ left_true (is_head h (count ts)) (are_terms ts) form)
    where
      none : (n : ℕ) → 0 + n ≡ n
      none n = omega arith

  all_entered_forms : (ts : Writtens) (fs : List Flat) (ps : List Text) → list_all has_form fs ≡ true → are_terms ts ≡ true → list_all has_form (all_entered (entering fs ps) ts).flats ≡ true
  all_entered_forms no_written fs ps ok form = ok
  all_entered_forms (writtens t ts) fs ps ok form =
      let e = entered (entering fs ps) t in
      all_entered_forms ts e.flats e.places (entered_forms t fs ps ok (left_true (is_term t) (are_terms ts) form)) (right_true (is_term t) (are_terms ts) form)

list_forms : (ts : List Written) (fs : List Flat) (ps : List Text) → list_all has_form fs ≡ true → list_all is_term ts ≡ true → list_all has_form (list_entered (entering fs ps) ts).flats ≡ true
list_forms [] fs ps ok h = ok
list_forms (t ∷ ts) fs ps ok h =
    let e = entered (entering fs ps) t in
    list_forms ts e.flats e.places (entered_forms t fs ps ok (left_true (is_term t) (list_all is_term ts) h)) (right_true (is_term t) (list_all is_term ts) h)

-- the terms of lines that have their forms are kept with their forms
pub kept_forms : (c : Claim Written) → is_claim c ≡ true → list_all has_form (flats_of (claim_terms c)) ≡ true
kept_forms c h = list_forms (claim_terms c) [] [] refl (claim_forms c h)

-- ---- heads in their forms make terms

pub all_at : {X : Type 0} (p : X → Bool) (xs : List X) (k : ℕ) (d : X) → list_all p xs ≡ true → k < length xs → p (get_or xs k d) ≡ true
all_at p [] k d h below = absurd (nothing_below k below)
  where
    nothing_below : (k : ℕ) → k < 0 → ⊥
    nothing_below k h = omega (arith, h)
all_at p (x ∷ xs) zero d h below = left_true (p x) (list_all p xs) h
all_at p (x ∷ xs) (suc k) d h below = all_at p xs k d (right_true (p x) (list_all p xs) h) (fewer k (length xs) below)
  where
    fewer : (k n : ℕ) → suc k < suc n → k < n
    fewer k n h = omega (arith, h)

args_count : (terms : List Written) (args : List Text) → count (args_at terms args) ≡ length args
args_count terms [] = refl
args_count terms (a ∷ args) = ap suc (args_count terms args)

args_forms : (terms : List Written) (args : List Text) → list_all is_term terms ≡ true → AreBefore (length terms) args → are_terms (args_at terms args) ≡ true
args_forms terms [] h before = refl
args_forms terms (a ∷ args) h before = join (is_term (at terms a)) (are_terms (args_at terms args)) (all_at is_term terms a.0 (word []) h before.0) (args_forms terms args h before.1)

trees_forms : (fs : List Flat) (terms : List Written) → AreOrdered (length terms) fs → list_all is_term terms ≡ true → list_all has_form fs ≡ true → list_all is_term (trees_behind terms fs) ≡ true
trees_forms [] terms ordered h ok = h
trees_forms (f ∷ fs) terms ordered h ok =
    trees_forms fs (terms ++ tree_of terms f ∷ []) (subst (λ (n : ℕ). AreOrdered n fs) (more (length-append terms (tree_of terms f ∷ []))) ordered.1)
    (all_join is_term terms (tree_of terms f ∷ []) h (join (is_term (tree_of terms f)) true one refl)) (right_true (has_form f) (list_all has_form fs) ok)
  where
    more : length (terms ++ tree_of terms f ∷ []) ≡ length terms + 1 → suc (length terms) ≡ length (terms ++ tree_of terms f ∷ [])
    more e = omega (arith, e)

    one : is_term (tree_of terms f) ≡ true
    one =
        join (is_head f.head (count (args_at terms f.args))) (are_terms (args_at terms f.args))
        (ap (is_head f.head) (args_count terms f.args) ∙ left_true (has_form f) (list_all has_form fs) ok) (args_forms terms f.args h ordered.0)

-- each term of a table whose heads have their forms is a term
pub tree_forms : (fs : List Flat) → IsTable fs → list_all has_form fs ≡ true → (t : Text) → t.0 < length fs → is_term (tree fs t) ≡ true
tree_forms fs ok h t below =
    let size : length (trees fs) ≡ length fs = length_trees fs [] ∙ none (length fs) in
    all_at is_term (trees fs) t.0 (word []) (trees_forms fs [] ok.ordered refl h) (subst (λ (n : ℕ). t.0 < n) (sym size) below)
  where
    none : (n : ℕ) → 0 + n ≡ n
    none n = omega arith
