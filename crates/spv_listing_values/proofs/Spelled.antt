-- Each line of a listing's page has words that can be read back.
use Rattle.std.proofs.Common.{◌≡◌, ℕ, zero, suc, ◌+◌, ◌^◌, ◌<◌, ◌≤◌, Bool, true, false, ◌&&◌, if◌then◌else◌, List, [], ◌∷◌, ◌++◌, map, length, Option, Some, None, refl, sym, ◌∙◌, arith, lit≤}
use Rattle.std.specs.Prelude.{codes, nat_eq, nat_lt, not}
use Rattle.std.specs.List.{AllByRecursion, list_all, count_by}
use Rattle.std.proofs.Math.Dec.{eqb-suc-zero}
use Rattle.std.proofs.lemmas.Bool.{false≢true, ltb-true}
use Rattle.std.proofs.lemmas.List.Sums.{count_by-le-length}
use Rattle.spv_logic.proofs.list.Tests.{left_true, right_true}
use Rattle.spv_whole.specs.Fraction.{Fraction}
use Rattle.spv_frac.specs.declared.frac.Op.{Op}
use Rattle.spv_frac.specs.declared.frac.Op.TheVariants as op
use Rattle.spv_logic.specs.declared.conditions.Kind.{Kind}
use Rattle.spv_logic.specs.declared.conditions.Kind.TheVariants as kind
use Rattle.spv_listing_values.specs.declared.data.Step.{Step}
use Rattle.spv_listing_values.specs.declared.data.Step.TheVariants as step
use Rattle.spv_listing_values.specs.declared.data.Split.{Split}
use Rattle.spv_listing_values.specs.declared.data.ProofNode.{ProofNode}
use Rattle.spv_listing_values.specs.declared.data.Instance.{Instance}
use Rattle.spv_listing_values.specs.declared.data.Limit.{Limit}
use Rattle.spv_listing_values.specs.declared.data.Limit.TheVariants as limit
use Rattle.spv_listing_values.specs.declared.data.Verdict.{Verdict}
use Rattle.spv_listing_values.specs.declared.data.Verdict.TheVariants.{Proved, Unproved, GaveUp}
use Rattle.spv_listing_values.specs.declared.data.Claim.{Claim}
use Rattle.spv_listing_values.specs.Written.{Alone, Applied, Written, Writtens, written, no_written, writtens, word}
use Rattle.spv_listing_values.specs.Lines.{number, kind_word, given_line, goal_line, branch_line, instance_line, value_line, operation_word, limit_items, numbers, multiples, is_equation, field, second_number, step_items, step_line}
use Rattle.spv_listing_values.specs.Page.{split_lines, node_lines, case_lines, case_numbers, numbers_to, cases_lines, proof_lines, verdict_lines, claim_lines, claims_lines, is_proved, is_unproved, is_given_up, result_words, end_lines, page_lines}
use Rattle.spv_listing_values.specs.Scanning.{takes_name}
use Rattle.spv_listing_values.specs.Reading.{is_fraction}
use Rattle.spv_listing_values.specs.Forms.{is_word, stands_alone, is_applied_to, is_name, names_rightly, is_head, count, is_term, are_terms, is_short, is_multiple, are_sums, is_relation, is_field, is_fact, is_step, is_end, ends_rightly, is_node, is_tree, is_proof, is_long, is_limit, is_instance, is_row, is_verdict, is_header, is_claim, is_listing}
use Rattle.spv_listing_values.proofs.Scans.{IsNamed, IsSpelled, AreSpelled, IsLine}
use Rattle.spv_listing_values.proofs.Numerals.{IsWide, wide_8, wide_32, wide_64, number_word, fraction_word}

-- ---- lists

all_append : {X : Type 0} (P : X → Type 0) (a b : List X) → AllByRecursion P a → AllByRecursion P b → AllByRecursion P (a ++ b)
all_append P [] b h k = k
all_append P (x ∷ a) b h k = (h.0, all_append P a b h.1 k)

all_map : {X Y : Type 0} (test : X → Bool) (f : X → Y) (P : Y → Type 0) → ((x : X) → test x ≡ true → P (f x)) → (xs : List X) → list_all test xs ≡ true → AllByRecursion P (map f xs)
all_map test f P each [] h = tt
all_map test f P each (x ∷ xs) h = (each x (left_true (test x) (list_all test xs) h), all_map test f P each xs (right_true (test x) (list_all test xs) h))

-- ---- terms

named_rightly : (b : Bool) (name : Option (List ℕ)) → names_rightly b name ≡ true → IsNamed b name
named_rightly true None h = absurd (false≢true h)
named_rightly true (Some name) h = left_true (is_word name) (is_name name) h
named_rightly false None h = tt
named_rightly false (Some name) h = absurd (false≢true h)

mutual
  term_spelled : (t : Written) → is_term t ≡ true → IsSpelled t
  term_spelled (written (Alone text) no_written) h = left_true (is_word text) (stands_alone text && nat_eq 0 0) (left_true (is_head (Alone text) 0) true h)
  term_spelled (written (Alone text) (writtens t ts)) h =
      let head = left_true (is_head (Alone text) (suc (count ts))) (are_terms (writtens t ts)) h in
      let alone = right_true (is_word text) (stands_alone text && nat_eq (suc (count ts)) 0) head in
      absurd (false≢true (sym (eqb-suc-zero (count ts)) ∙ right_true (stands_alone text) (nat_eq (suc (count ts)) 0) alone))
  term_spelled (written (Applied text name) ts) h =
      let head = left_true (is_head (Applied text name) (count ts)) (are_terms ts) h in
      let rest = right_true (is_word text) (names_rightly (takes_name text) name && is_applied_to text (count ts)) head in (
        left_true (is_word text) (names_rightly (takes_name text) name && is_applied_to text (count ts)) head,
        named_rightly (takes_name text) name (left_true (names_rightly (takes_name text) name) (is_applied_to text (count ts)) rest),
        arguments_spelled ts (right_true (is_head (Applied text name) (count ts)) (are_terms ts) h),
      )

  arguments_spelled : (ts : Writtens) → are_terms ts ≡ true → AreSpelled ts
  arguments_spelled no_written h = tt
  arguments_spelled (writtens t ts) h = (term_spelled t (left_true (is_term t) (are_terms ts) h), arguments_spelled ts (right_true (is_term t) (are_terms ts) h))

terms_spelled : (ts : List Written) → list_all is_term ts ≡ true → AllByRecursion IsSpelled ts
terms_spelled [] h = tt
terms_spelled (t ∷ ts) h = (term_spelled t (left_true (is_term t) (list_all is_term ts) h), terms_spelled ts (right_true (is_term t) (list_all is_term ts) h))

-- ---- steps

short_spelled : (n : ℕ) → is_short n ≡ true → IsSpelled (number n)
short_spelled n h = number_word n (wide_32 n h)

long_spelled : (n : ℕ) → is_long n ≡ true → IsSpelled (number n)
long_spelled n h = number_word n (wide_64 n h)

numbers_spelled : (ns : List ℕ) → list_all is_short ns ≡ true → AllByRecursion IsSpelled (numbers ns)
numbers_spelled ns h = all_map is_short number IsSpelled short_spelled ns h

multiples_spelled : (ms : List (Fraction × ℕ)) → list_all is_multiple ms ≡ true → AllByRecursion IsSpelled (multiples ms)
multiples_spelled [] h = tt
multiples_spelled (m ∷ ms) h =
    let one = left_true (is_multiple m) (list_all is_multiple ms) h in (
      fraction_word m.0 (left_true (is_fraction m.0) (is_short m.1) one),
      (short_spelled m.1 (right_true (is_fraction m.0) (is_short m.1) one), multiples_spelled ms (right_true (is_multiple m) (list_all is_multiple ms) h)),
    )

others_spelled : (b : Bool) (ms : List (Fraction × ℕ)) → are_sums b ms ≡ true → AllByRecursion IsSpelled (if b then word (codes "/") ∷ multiples ms else [])
others_spelled true ms h = (refl, multiples_spelled ms h)
others_spelled false ms h = tt

field_spelled : (b : Bool) (name : Option (List ℕ)) → is_field b name ≡ true → AllByRecursion IsSpelled (field name)
field_spelled b None h = tt
field_spelled true (Some name) h = (left_true (is_word name) (is_name name) h, tt)
field_spelled false (Some name) h = absurd (false≢true h)

second_spelled : (j : Option ℕ) → is_fact j ≡ true → AllByRecursion IsSpelled (second_number j)
second_spelled None h = tt
second_spelled (Some j) h = (short_spelled j h, tt)

items_spelled : (s : Step Written) → is_step s ≡ true → AllByRecursion IsSpelled (step_items s)
items_spelled (step.Given k) h = (refl, (short_spelled k h, tt))
items_spelled (step.Refl t) h = (refl, (term_spelled t h, tt))
items_spelled (step.Symm i) h = (refl, (short_spelled i h, tt))
items_spelled (step.Trans i j) h = (refl, (short_spelled i (left_true (is_short i) (is_short j) h), (short_spelled j (right_true (is_short i) (is_short j) h), tt)))
items_spelled (step.Cong t u facts) h =
    let k = right_true (is_term t) (is_term u && list_all is_short facts) h in (
      refl,
      (
        term_spelled t (left_true (is_term t) (is_term u && list_all is_short facts) h),
        (term_spelled u (left_true (is_term u) (list_all is_short facts) k), numbers_spelled facts (right_true (is_term u) (list_all is_short facts) k)),
      ),
    )
items_spelled (step.Linear r first second) h =
    let k = right_true (is_term r) (is_relation r && (list_all is_multiple first && are_sums (is_equation r) second)) h in
    let sums = right_true (is_relation r) (list_all is_multiple first && are_sums (is_equation r) second) k in (
      refl,
      (
        term_spelled r (left_true (is_term r) (is_relation r && (list_all is_multiple first && are_sums (is_equation r) second)) h),
        all_append IsSpelled (multiples first) (if is_equation r then word (codes "/") ∷ multiples second else []) (multiples_spelled first (left_true (list_all is_multiple first) (are_sums (is_equation r) second) sums))
            (others_spelled (is_equation r) second (right_true (list_all is_multiple first) (are_sums (is_equation r) second) sums)),
      ),
    )
items_spelled (step.Schema k ts name) h =
    let small = left_true (nat_lt k (2 ^ 8)) (list_all is_term ts && is_field (nat_eq k 4) name) h in
    let rest = right_true (nat_lt k (2 ^ 8)) (list_all is_term ts && is_field (nat_eq k 4) name) h in (
      refl,
      (
        number_word k (wide_8 k small),
        all_append IsSpelled ts (field name) (terms_spelled ts (left_true (list_all is_term ts) (is_field (nat_eq k 4) name) rest))
            (field_spelled (nat_eq k 4) name (right_true (list_all is_term ts) (is_field (nat_eq k 4) name) rest)),
      ),
    )
items_spelled (step.Rule r ts) h = (refl, (short_spelled r (left_true (is_short r) (list_all is_term ts) h), terms_spelled ts (right_true (is_short r) (list_all is_term ts) h)))
items_spelled (step.Eval f facts) h = (refl, (term_spelled f (left_true (is_term f) (list_all is_short facts) h), numbers_spelled facts (right_true (is_term f) (list_all is_short facts) h)))
items_spelled (step.Contra i j) h = (refl, (short_spelled i (left_true (is_short i) (is_fact j) h), second_spelled j (right_true (is_short i) (is_fact j) h)))

step_is_line : (s : Step Written) → is_step s ≡ true → IsLine (step_line s)
step_is_line s h = (refl, items_spelled s h)

-- ---- proofs

abbrev AreLines : List (List Written) → Type 0
AreLines ls = AllByRecursion IsLine ls

split_are_lines : (steps : List (Step Written)) (s : Option (Split Written)) → ends_rightly steps s ≡ true → AreLines (split_lines s)
split_are_lines steps None h = tt
split_are_lines steps (Some s) h =
    let cases = left_true (nat_lt 0 s.cases && is_short s.cases) (is_term s.atom && list_all (λ p. not (is_end p)) steps) h in
    let atom = right_true (nat_lt 0 s.cases && is_short s.cases) (is_term s.atom && list_all (λ p. not (is_end p)) steps) h in
    ((refl, (short_spelled s.cases (right_true (nat_lt 0 s.cases) (is_short s.cases) cases), (term_spelled s.atom (left_true (is_term s.atom) (list_all (λ p. not (is_end p)) steps) atom), tt))), tt)

node_are_lines : (n : ProofNode Written) → is_node n ≡ true → AreLines (node_lines n)
node_are_lines n h =
    all_append IsLine (map step_line n.steps) (split_lines n.split)
    (all_map is_step step_line IsLine step_is_line n.steps (left_true (list_all is_step n.steps) (ends_rightly n.steps n.split) h))
    (split_are_lines n.steps n.split (right_true (list_all is_step n.steps) (ends_rightly n.steps n.split) h))

-- the numbers of cases fit
abbrev AreShort : List ℕ → Type 0
AreShort waiting = AllByRecursion (λ i. i < 2 ^ 32) waiting

numbers_short : (n : ℕ) → n < 2 ^ 32 → AreShort (numbers_to n)
numbers_short zero h = tt
numbers_short (suc n) h = all_append (λ i. i < 2 ^ 32) (numbers_to n) (suc n ∷ []) (numbers_short n (before n (2 ^ 32) h)) (h, tt)
  where
    before : (n m : ℕ) → suc n < m → n < m
    before n m h = omega arith

cases_short : (steps : List (Step Written)) (s : Option (Split Written)) → ends_rightly steps s ≡ true → AreShort (case_numbers s)
cases_short steps None h = tt
cases_short steps (Some s) h =
    let cases = left_true (nat_lt 0 s.cases && is_short s.cases) (is_term s.atom && list_all (λ p. not (is_end p)) steps) h in
    numbers_short s.cases (ltb-true s.cases (2 ^ 32) (right_true (nat_lt 0 s.cases) (is_short s.cases) cases))

wide_below : (n m k : ℕ) → n < m → m ≤ k → n < k
wide_below n m k h g = omega arith

case_is_line : (i : ℕ) → i < 2 ^ 32 → AreLines (case_lines i)
case_is_line zero h = tt
case_is_line (suc i) h = ((refl, (number_word (suc i) (record { wide = wide_below (suc i) (2 ^ 32) (10 ^ 64) h (lit≤ tt) }), tt)), tt)

cases_are_lines : (nodes : List (ProofNode Written)) (waiting : List ℕ) → list_all is_node nodes ≡ true → AreShort waiting → AreLines (cases_lines waiting nodes)
cases_are_lines [] waiting h w = tt
cases_are_lines (n ∷ nodes) [] h w = tt
cases_are_lines (n ∷ nodes) (i ∷ waiting) h w =
    let one = left_true (is_node n) (list_all is_node nodes) h in
    let short = cases_short n.steps n.split (right_true (list_all is_step n.steps) (ends_rightly n.steps n.split) one) in
    all_append IsLine (case_lines i) (node_lines n ++ cases_lines (case_numbers n.split ++ waiting) nodes) (case_is_line i w.0)
    (all_append IsLine (node_lines n) (cases_lines (case_numbers n.split ++ waiting) nodes) (node_are_lines n one)
    (cases_are_lines nodes (case_numbers n.split ++ waiting) (right_true (is_node n) (list_all is_node nodes) h) (all_append (λ i. i < 2 ^ 32) (case_numbers n.split) waiting short w.1)))

proof_are_lines : (nodes : List (ProofNode Written)) → is_proof nodes ≡ true → AreLines (proof_lines nodes)
proof_are_lines [] h = tt
proof_are_lines (n ∷ nodes) h = cases_are_lines (n ∷ nodes) (0 ∷ []) (left_true (list_all is_node (n ∷ nodes)) (is_tree (0 ∷ []) (n ∷ nodes)) h) (lit≤ tt, tt)

-- ---- verdicts

operation_spelled : (o : Op) → IsSpelled (word (operation_word o))
operation_spelled op.Add = refl
operation_spelled op.Sub = refl
operation_spelled op.Mul = refl
operation_spelled op.Div = refl
operation_spelled op.Cmp = refl

limit_spelled : (l : Limit Written) → is_limit l ≡ true → AllByRecursion IsSpelled (limit_items l)
limit_spelled (limit.Splits n) h = (refl, (long_spelled n h, tt))
limit_spelled (limit.Instances n) h = (refl, (long_spelled n h, tt))
limit_spelled (limit.Pivots n) h = (refl, (long_spelled n h, tt))
limit_spelled limit.Terms h = (refl, (long_spelled 1000000 refl, tt))
limit_spelled (limit.Form t) h = (refl, (refl, (term_spelled t h, tt)))
limit_spelled (limit.Wide o left right) h = (
  refl,
  (
    operation_spelled o,
    (fraction_word left (left_true (is_fraction left) (is_fraction right) h), (fraction_word right (right_true (is_fraction left) (is_fraction right) h), tt)),
  ),
)

branch_is_line : (t : Written) → is_term t ≡ true → IsLine (branch_line t)
branch_is_line t h = (refl, (term_spelled t h, tt))

instance_is_line : (i : Instance Written) → is_instance i ≡ true → IsLine (instance_line i)
instance_is_line i h =
    (refl, (short_spelled i.rule (left_true (is_short i.rule) (list_all is_term i.values) h), terms_spelled i.values (right_true (is_short i.rule) (list_all is_term i.values) h)))

value_is_line : (row : Written × Fraction) → is_row row ≡ true → IsLine (value_line row)
value_is_line row h =
    (refl, (term_spelled row.0 (left_true (is_term row.0) (is_fraction row.1) h), (fraction_word row.1 (right_true (is_term row.0) (is_fraction row.1) h), tt)))

verdict_are_lines : (v : Verdict Written) → is_verdict v ≡ true → AreLines (verdict_lines v)
verdict_are_lines (Proved nodes) h = ((refl, tt), proof_are_lines nodes h)
verdict_are_lines (Unproved branch is rows) h =
    let k = right_true (list_all is_term branch) (list_all is_instance is && list_all is_row rows) h in (
      (refl, tt),
      all_append IsLine (map branch_line branch) (map instance_line is ++ map value_line rows)
          (all_map is_term branch_line IsLine branch_is_line branch (left_true (list_all is_term branch) (list_all is_instance is && list_all is_row rows) h))
          (all_append IsLine (map instance_line is) (map value_line rows)
          (all_map is_instance instance_line IsLine instance_is_line is (left_true (list_all is_instance is) (list_all is_row rows) k))
          (all_map is_row value_line IsLine value_is_line rows (right_true (list_all is_instance is) (list_all is_row rows) k))),
    )
verdict_are_lines (GaveUp l) h = ((refl, (refl, limit_spelled l h)), tt)

-- ---- conditions

kind_spelled : (k : Kind) → IsSpelled (word (kind_word k))
kind_spelled kind.Exit = refl
kind_spelled kind.Assert = refl
kind_spelled kind.Invariant = refl
kind_spelled kind.Preserved = refl
kind_spelled kind.Entry = refl

given_is_line : (t : Written) → is_term t ≡ true → IsLine (given_line t)
given_is_line t h = (refl, (term_spelled t h, tt))

claim_are_lines : (c : Claim Written) → is_claim c ≡ true → (k : ℕ) → IsWide k → AreLines (claim_lines k c)
claim_are_lines c h k wide =
    let header = left_true (is_header c.header) (list_all is_term c.given && (is_term c.goal && is_verdict c.verdict)) h in
    let rest = right_true (is_header c.header) (list_all is_term c.given && (is_term c.goal && is_verdict c.verdict)) h in
    let last = right_true (list_all is_term c.given) (is_term c.goal && is_verdict c.verdict) rest in
    let routine = left_true (is_word c.header.routine && is_name c.header.routine) (is_short c.header.line) header in (
      (
        refl,
        (
          number_word k wide,
          (
            left_true (is_word c.header.routine) (is_name c.header.routine) routine,
            (kind_spelled c.header.kind, (refl, (short_spelled c.header.line (right_true (is_word c.header.routine && is_name c.header.routine) (is_short c.header.line) header), tt))),
          ),
        ),
      ),
      all_append IsLine (map given_line c.given) (goal_line c.goal ∷ verdict_lines c.verdict)
          (all_map is_term given_line IsLine given_is_line c.given (left_true (list_all is_term c.given) (is_term c.goal && is_verdict c.verdict) rest))
          ((refl, (term_spelled c.goal (left_true (is_term c.goal) (is_verdict c.verdict) last), tt)), verdict_are_lines c.verdict (right_true (is_term c.goal) (is_verdict c.verdict) last)),
    )

-- a number with so many behind it
record Leaves (k n : ℕ) : Type 0 where
  room : k + n < 10 ^ 64

leaves_one : (k n m : ℕ) → k + suc n < m → k < m
leaves_one k n m h = omega arith

leaves_more : (k n m : ℕ) → k + suc n < m → suc k + n < m
leaves_more k n m h = omega arith

claims_are_lines : (cs : List (Claim Written)) → list_all is_claim cs ≡ true → (k : ℕ) → Leaves k (length cs) → AreLines (claims_lines k cs)
claims_are_lines [] h k room = tt
claims_are_lines (c ∷ cs) h k room =
    all_append IsLine (claim_lines k c) (claims_lines (suc k) cs)
    (claim_are_lines c (left_true (is_claim c) (list_all is_claim cs) h) k (record { wide = leaves_one k (length cs) (10 ^ 64) room.room }))
    (claims_are_lines cs (right_true (is_claim c) (list_all is_claim cs) h) (suc k) (record { room = leaves_more k (length cs) (10 ^ 64) room.room }))

result_spelled : (unproved given_up : ℕ) → AllByRecursion IsSpelled (result_words unproved given_up)
result_spelled zero zero = (refl, tt)
result_spelled zero (suc given_up) = (refl, (refl, tt))
result_spelled (suc unproved) given_up = (refl, tt)

count_wide : (test : Claim Written → Bool) (cs : List (Claim Written)) → length cs < 2 ^ 32 → IsWide (count_by test cs)
count_wide test cs h = record { wide = wide_below (count_by test cs) (2 ^ 32) (10 ^ 64) (few (count_by test cs) (length cs) (2 ^ 32) (count_by-le-length test cs) h) (lit≤ tt) }
  where
    few : (n m k : ℕ) → n ≤ m → m < k → n < k
    few n m k h g = omega arith

first_leaves : (n m : ℕ) → n < m → 1 + n ≤ m
first_leaves n m h = omega arith

at_most_below : (n m k : ℕ) → n ≤ m → m < k → n < k
at_most_below n m k h g = omega arith

pub page_are_lines : (cs : List (Claim Written)) → is_listing cs ≡ true → AllByRecursion IsLine (page_lines cs)
page_are_lines cs h =
    let few = ltb-true (length cs) (2 ^ 32) (left_true (is_short (length cs)) (list_all is_claim cs) h) in (
      (refl, (refl, (number_word 1 (wide_8 1 refl), tt))),
      all_append IsLine (claims_lines 1 cs) (end_lines cs)
          (claims_are_lines cs (right_true (is_short (length cs)) (list_all is_claim cs) h) 1
          (record { room = at_most_below (1 + length cs) (2 ^ 32) (10 ^ 64) (first_leaves (length cs) (2 ^ 32) few) (lit≤ tt) })) (
            (
              refl,
              (
                number_word (count_by is_proved cs) (count_wide is_proved cs few),
                (
                  refl,
                  (
                    number_word (count_by is_unproved cs) (count_wide is_unproved cs few),
                    (
                      refl,
                      (number_word (count_by is_given_up cs) (count_wide is_given_up cs few), (refl, (refl, tt))),
                    ),
                  ),
                ),
              ),
            ),
            ((refl, result_spelled (count_by is_unproved cs) (count_by is_given_up cs)), tt),
          ),
    )
