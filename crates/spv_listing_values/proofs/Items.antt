-- The items of steps, limits and rows are read as what they were printed of.
use Rattle.std.proofs.Common.{◌≡◌, ℕ, ◌^◌, Bool, true, false, ◌&&◌, if◌then◌else◌, List, [], ◌∷◌, ◌++◌, Option, Some, None, refl, ap, ◌∙◌}
use Rattle.std.specs.Prelude.{nat_eq, nat_lt, option_map, codes}
use Rattle.std.specs.List.{AllByRecursion, list_all}
use Rattle.std.proofs.lemmas.Bool.{false≢true}
use Rattle.std.proofs.lemmas.List.{append-nil}
use Rattle.spv_logic.proofs.list.Tests.{left_true, right_true}
use Rattle.spv_whole.specs.Fraction.{Fraction}
use Rattle.spv_frac.specs.declared.frac.Op.{Op}
use Rattle.spv_frac.specs.declared.frac.Op.TheVariants as op
use Rattle.spv_logic.specs.declared.conditions.Kind.{Kind}
use Rattle.spv_logic.specs.declared.conditions.Kind.TheVariants as kind
use Rattle.spv_listing_values.specs.declared.data.Header.{Header}
use Rattle.spv_listing_values.specs.declared.data.Step.{Step}
use Rattle.spv_listing_values.specs.declared.data.Step.TheVariants as step
use Rattle.spv_listing_values.specs.declared.data.Instance.{Instance}
use Rattle.spv_listing_values.specs.declared.data.Limit.{Limit}
use Rattle.spv_listing_values.specs.declared.data.Limit.TheVariants as limit
use Rattle.spv_listing_values.specs.Written.{Written, word}
use Rattle.spv_listing_values.specs.Lines.{number, fraction, kind_word, operation_word, limit_items, numbers, multiples, is_equation, field, step_items}
use Rattle.spv_listing_values.specs.Reading.{◌>>=◌, number_in, fact_in, is_fraction, fraction_in, header_of, wide_of, limit_of, facts_in, multiples_in, is_stroke, in_front, behind, linear_of, but_last, last_text, schema_of, step_of, instance_of, row_of}
use Rattle.spv_listing_values.specs.Forms.{is_word, is_name, is_relation, is_short, is_long, is_multiple, are_sums, is_field, is_fact, is_step, is_limit, is_instance, is_row, is_header, is_term}
use Rattle.spv_listing_values.proofs.Numerals.{wide_8, wide_32, wide_64, number_read, fact_read, fraction_read, fraction_no_stroke, number_no_stroke}

-- ---- one thing behind the other

then_is : {A B : Type 0} (o : Option A) (x : A) (f : A → Option B) → o ≡ Some x → (o >>= f) ≡ f x
then_is o x f e = ap (λ o. o >>= f) e

map_is : {A B : Type 0} (o : Option A) (x : A) (f : A → B) → o ≡ Some x → option_map f o ≡ Some (f x)
map_is o x f e = ap (λ o. option_map f o) e

-- ---- lists

facts_read : (ks : List ℕ) → list_all is_short ks ≡ true → facts_in (numbers ks) ≡ Some ks
facts_read [] h = refl
facts_read (k ∷ ks) h =
    then_is (fact_in (number k)) k (λ fact. facts_in (numbers ks) >>= λ facts. Some (fact ∷ facts)) (fact_read k (left_true (is_short k) (list_all is_short ks) h))
    ∙ then_is (facts_in (numbers ks)) ks (λ facts. Some (k ∷ facts)) (facts_read ks (right_true (is_short k) (list_all is_short ks) h))

module _ (m : Fraction × ℕ) (h : is_multiple m ≡ true) where
  multiplier : is_fraction m.0 ≡ true
  multiplier = left_true (is_fraction m.0) (is_short m.1) h

  fact : is_short m.1 ≡ true
  fact = right_true (is_fraction m.0) (is_short m.1) h

multiples_read : (ms : List (Fraction × ℕ)) → list_all is_multiple ms ≡ true → multiples_in (multiples ms) ≡ Some ms
multiples_read [] h = refl
multiples_read (m ∷ ms) h =
    let one = left_true (is_multiple m) (list_all is_multiple ms) h in
    then_is (fraction_in (fraction m.0)) m.0 (λ x. fact_in (number m.1) >>= λ fact. multiples_in (multiples ms) >>= λ rest. Some ((x, fact) ∷ rest)) (fraction_read m.0 (multiplier m one))
    ∙ (then_is (fact_in (number m.1)) m.1 (λ fact. multiples_in (multiples ms) >>= λ rest. Some ((m.0, fact) ∷ rest)) (fact_read m.1 (fact m one))
    ∙ then_is (multiples_in (multiples ms)) ms (λ rest. Some ((m.0, m.1) ∷ rest)) (multiples_read ms (right_true (is_multiple m) (list_all is_multiple ms) h)))

-- ---- multiples in both directions

abbrev NoStrokes : List Written → Type 0
NoStrokes ts = AllByRecursion (λ t. is_stroke t ≡ false) ts

multiples_no_strokes : (ms : List (Fraction × ℕ)) → list_all is_multiple ms ≡ true → NoStrokes (multiples ms)
multiples_no_strokes [] h = tt
multiples_no_strokes (m ∷ ms) h =
    let one = left_true (is_multiple m) (list_all is_multiple ms) h in
    (fraction_no_stroke m.0 (multiplier m one), (number_no_stroke m.1 (wide_32 m.1 (fact m one)), multiples_no_strokes ms (right_true (is_multiple m) (list_all is_multiple ms) h)))

abbrev stroke : Written
stroke = word (codes "/")

front_whole : (ts : List Written) → NoStrokes ts → in_front (ts ++ []) ≡ ts
front_whole [] h = refl
front_whole (t ∷ ts) h = ap (λ (b : Bool). if b then [] else t ∷ in_front (ts ++ [])) h.0 ∙ ap (λ (x : List Written). t ∷ x) (front_whole ts h.1)

front_stroke : (ts more : List Written) → NoStrokes ts → in_front (ts ++ stroke ∷ more) ≡ ts
front_stroke [] more h = refl
front_stroke (t ∷ ts) more h = ap (λ (b : Bool). if b then [] else t ∷ in_front (ts ++ stroke ∷ more)) h.0 ∙ ap (λ (x : List Written). t ∷ x) (front_stroke ts more h.1)

behind_whole : (ts : List Written) → NoStrokes ts → behind (ts ++ []) ≡ []
behind_whole [] h = refl
behind_whole (t ∷ ts) h = ap (λ (b : Bool). if b then ts ++ [] else behind (ts ++ [])) h.0 ∙ behind_whole ts h.1

behind_stroke : (ts more : List Written) → NoStrokes ts → behind (ts ++ stroke ∷ more) ≡ more
behind_stroke [] more h = refl
behind_stroke (t ∷ ts) more h = ap (λ (b : Bool). if b then ts ++ stroke ∷ more else behind (ts ++ stroke ∷ more)) h.0 ∙ behind_stroke ts more h.1

module _ (r : Written) (first : List (Fraction × ℕ)) (h : list_all is_multiple first ≡ true) where
  no : NoStrokes (multiples first)
  no = multiples_no_strokes first h

  read_both : (ts fs ss : List Written) (second : List (Fraction × ℕ)) → in_front ts ≡ fs → behind ts ≡ ss → multiples_in fs ≡ Some first → multiples_in ss ≡ Some second
      → linear_of r ts ≡ Some (step.Linear r first second)
  read_both ts fs ss second e f g k =
      then_is (multiples_in (in_front ts)) first (λ x. multiples_in (behind ts) >>= λ y. Some (step.Linear r x y)) (ap multiples_in e ∙ g)
      ∙ then_is (multiples_in (behind ts)) second (λ y. Some (step.Linear r first y)) (ap multiples_in f ∙ k)

  sums_by : (b : Bool) (second : List (Fraction × ℕ)) → are_sums b second ≡ true
      → linear_of r (multiples first ++ (if b then stroke ∷ multiples second else [])) ≡ Some (step.Linear r first second)
  sums_by true second k =
      read_both (multiples first ++ stroke ∷ multiples second) (multiples first) (multiples second) second (front_stroke (multiples first) (multiples second) no)
      (behind_stroke (multiples first) (multiples second) no) (multiples_read first h) (multiples_read second k)
  sums_by false [] k = read_both (multiples first ++ []) (multiples first) [] [] (front_whole (multiples first) no) (behind_whole (multiples first) no) (multiples_read first h) refl
  sums_by false (m ∷ second) k = absurd (false≢true k)

-- ---- the name of a field

but_last_is : (ts : List Written) (t : Written) → but_last (ts ++ t ∷ []) ≡ ts
but_last_is [] t = refl
but_last_is (u ∷ []) t = refl
but_last_is (u ∷ v ∷ ts) t = ap (λ (x : List Written). u ∷ x) (but_last_is (v ∷ ts) t)

last_is : (ts : List Written) (text : List ℕ) → last_text (ts ++ word text ∷ []) ≡ text
last_is [] text = refl
last_is (u ∷ []) text = refl
last_is (u ∷ v ∷ ts) text = last_is (v ∷ ts) text

schema_by : (k : ℕ) (ts : List Written) (b : Bool) (name : Option (List ℕ)) → is_field b name ≡ true
    → (if b then step.Schema k (but_last (ts ++ field name)) (Some (last_text (ts ++ field name))) else step.Schema k (ts ++ field name) None) ≡ step.Schema k ts name
schema_by k ts true None h = absurd (false≢true h)
schema_by k ts true (Some name) h =
    ap (λ (x : List Written). step.Schema k x (Some (last_text (ts ++ word name ∷ [])))) (but_last_is ts (word name))
    ∙ ap (λ (x : List ℕ). step.Schema k ts (Some x)) (last_is ts name)
schema_by k ts false None h = ap (λ (x : List Written). step.Schema k x None) (append-nil ts)
schema_by k ts false (Some name) h = absurd (false≢true h)

-- ---- steps

contra_by : (i : ℕ) (j : Option ℕ) → is_short i ≡ true → is_fact j ≡ true → step_of (step_items (step.Contra i j)) ≡ Some (step.Contra i j)
contra_by i None h k = map_is (fact_in (number i)) i (λ i. step.Contra i None) (fact_read i h)
contra_by i (Some j) h k =
    then_is (fact_in (number i)) i (λ x. fact_in (number j) >>= λ y. Some (step.Contra x (Some y))) (fact_read i h)
    ∙ then_is (fact_in (number j)) j (λ y. Some (step.Contra i (Some y))) (fact_read j k)

pub step_read : (s : Step Written) → is_step s ≡ true → step_of (step_items s) ≡ Some s
step_read (step.Given k) h = map_is (fact_in (number k)) k step.Given (fact_read k h)
step_read (step.Refl t) h = refl
step_read (step.Symm i) h = map_is (fact_in (number i)) i step.Symm (fact_read i h)
step_read (step.Trans i j) h =
    then_is (fact_in (number i)) i (λ x. fact_in (number j) >>= λ y. Some (step.Trans x y)) (fact_read i (left_true (is_short i) (is_short j) h))
    ∙ then_is (fact_in (number j)) j (λ y. Some (step.Trans i y)) (fact_read j (right_true (is_short i) (is_short j) h))
step_read (step.Cong t u facts) h =
    let k = right_true (is_term t) (is_term u && list_all is_short facts) h in
    map_is (facts_in (numbers facts)) facts (step.Cong t u) (facts_read facts (right_true (is_term u) (list_all is_short facts) k))
step_read (step.Linear r first second) h =
    let k = right_true (is_term r) (is_relation r && (list_all is_multiple first && are_sums (is_equation r) second)) h in
    let sums = right_true (is_relation r) (list_all is_multiple first && are_sums (is_equation r) second) k in
    sums_by r first (left_true (list_all is_multiple first) (are_sums (is_equation r) second) sums) (is_equation r) second (right_true (list_all is_multiple first) (are_sums (is_equation r) second) sums)
step_read (step.Schema k ts name) h =
    let small = left_true (nat_lt k (2 ^ 8)) (list_all is_term ts && is_field (nat_eq k 4) name) h in
    let rest = right_true (nat_lt k (2 ^ 8)) (list_all is_term ts && is_field (nat_eq k 4) name) h in
    map_is (number_in (2 ^ 8) (number k)) k (λ k. schema_of k (ts ++ field name)) (number_read (2 ^ 8) k (wide_8 k small) small)
    ∙ ap (λ (s : Step Written). Some s) (schema_by k ts (nat_eq k 4) name (right_true (list_all is_term ts) (is_field (nat_eq k 4) name) rest))
step_read (step.Rule r ts) h = map_is (fact_in (number r)) r (λ r. step.Rule r ts) (fact_read r (left_true (is_short r) (list_all is_term ts) h))
step_read (step.Eval f facts) h = map_is (facts_in (numbers facts)) facts (step.Eval f) (facts_read facts (right_true (is_term f) (list_all is_short facts) h))
step_read (step.Contra i j) h = contra_by i j (left_true (is_short i) (is_fact j) h) (right_true (is_short i) (is_fact j) h)

-- ---- limits

abbrev wide : Op → Fraction → Fraction → Option (Limit Written)
wide o left right = Some (limit.Wide o left right)

fractions_read : (o : Op) (left right : Fraction) → is_fraction left ≡ true → is_fraction right ≡ true
    → (fraction_in (fraction left) >>= λ x. fraction_in (fraction right) >>= λ y. wide o x y) ≡ wide o left right
fractions_read o left right h k =
    then_is (fraction_in (fraction left)) left (λ x. fraction_in (fraction right) >>= λ y. wide o x y) (fraction_read left h)
    ∙ then_is (fraction_in (fraction right)) right (λ y. wide o left y) (fraction_read right k)

wide_read : (o : Op) (left right : Fraction) → is_fraction left ≡ true → is_fraction right ≡ true
    → wide_of (word (operation_word o)) (fraction left) (fraction right) ≡ Some (limit.Wide o left right)
wide_read op.Add left right h k = fractions_read op.Add left right h k
wide_read op.Sub left right h k = fractions_read op.Sub left right h k
wide_read op.Mul left right h k = fractions_read op.Mul left right h k
wide_read op.Div left right h k = fractions_read op.Div left right h k
wide_read op.Cmp left right h k = fractions_read op.Cmp left right h k

long_read : (n : ℕ) → is_long n ≡ true → number_in (2 ^ 64) (number n) ≡ Some n
long_read n h = number_read (2 ^ 64) n (wide_64 n h) h

pub limit_read : (l : Limit Written) → is_limit l ≡ true → limit_of (limit_items l) ≡ Some l
limit_read (limit.Splits n) h = map_is (number_in (2 ^ 64) (number n)) n limit.Splits (long_read n h)
limit_read (limit.Instances n) h = map_is (number_in (2 ^ 64) (number n)) n limit.Instances (long_read n h)
limit_read (limit.Pivots n) h = map_is (number_in (2 ^ 64) (number n)) n limit.Pivots (long_read n h)
limit_read limit.Terms h = refl
limit_read (limit.Form t) h = refl
limit_read (limit.Wide o left right) h = wide_read o left right (left_true (is_fraction left) (is_fraction right) h) (right_true (is_fraction left) (is_fraction right) h)

-- ---- rows and headings

pub instance_read : (i : Instance Written) → is_instance i ≡ true → instance_of (number i.rule) i.values ≡ Some i
instance_read i h = map_is (fact_in (number i.rule)) i.rule (λ r. record { rule = r; values = i.values }) (fact_read i.rule (left_true (is_short i.rule) (list_all is_term i.values) h))

pub row_read : (row : Written × Fraction) → is_row row ≡ true → row_of row.0 (fraction row.1) ≡ Some row
row_read row h = map_is (fraction_in (fraction row.1)) row.1 (λ x. (row.0, x)) (fraction_read row.1 (right_true (is_term row.0) (is_fraction row.1) h))

abbrev header_is : List ℕ → Kind → ℕ → Option Header
header_is routine k line = Some (record { routine = routine; kind = k; line = line })

place_read : (routine : List ℕ) (k : Kind) (n : ℕ) → is_short n ≡ true → (number_in (2 ^ 32) (number n) >>= λ line. header_is routine k line) ≡ header_is routine k n
place_read routine k n h = then_is (number_in (2 ^ 32) (number n)) n (λ line. header_is routine k line) (fact_read n h)

header_by : (routine : List ℕ) (k : Kind) (n : ℕ) → is_short n ≡ true → header_of (word routine) (word (kind_word k)) (number n) ≡ header_is routine k n
header_by routine kind.Exit n h = place_read routine kind.Exit n h
header_by routine kind.Assert n h = place_read routine kind.Assert n h
header_by routine kind.Invariant n h = place_read routine kind.Invariant n h
header_by routine kind.Preserved n h = place_read routine kind.Preserved n h
header_by routine kind.Entry n h = place_read routine kind.Entry n h

pub header_read : (h : Header) → is_header h ≡ true → header_of (word h.routine) (word (kind_word h.kind)) (number h.line) ≡ Some h
header_read h fits = header_by h.routine h.kind h.line (right_true (is_word h.routine && is_name h.routine) (is_short h.line) fits)
