-- What lines of words and terms say of conditions. A line that says nothing of them, or that stands out of order, is passed over.
use Rattle.std.specs.Prelude.{ℕ, Bool, ◌&&◌, ◌^◌, List, [], ◌∷◌, ◌++◌, Option, Some, None, option_map, option_and_then, ℤ, pos, neg_ℤ, unsigned_abs, nat_eq, nat_lt, if◌then◌else◌, codes}
use Rattle.std.specs.Map.{lookup}
use Rattle.std.specs.Str.{bytes_eq}
use Rattle.std.specs.Str.Parse.{digits_value}
use Rattle.spv_whole.specs.Fraction.{Fraction}
use Rattle.spv_whole.specs.Gcd.{gcd}
use Rattle.spv_frac.specs.declared.frac.Op.{Op}
use Rattle.spv_frac.specs.declared.frac.Op.TheVariants as op
use Rattle.spv_logic.specs.declared.conditions.Kind.{Kind}
use Rattle.spv_logic.specs.declared.conditions.Kind.TheVariants as kind
use Rattle.spv_listing_values.specs.declared.data.Header.{Header}
use Rattle.spv_listing_values.specs.declared.data.Step.{Step}
use Rattle.spv_listing_values.specs.declared.data.Step.TheVariants as step
use Rattle.spv_listing_values.specs.declared.data.Split.{Split}
use Rattle.spv_listing_values.specs.declared.data.ProofNode.{ProofNode}
use Rattle.spv_listing_values.specs.declared.data.Instance.{Instance}
use Rattle.spv_listing_values.specs.declared.data.Limit.{Limit}
use Rattle.spv_listing_values.specs.declared.data.Limit.TheVariants as limit
use Rattle.spv_listing_values.specs.declared.data.Verdict.{Verdict}
use Rattle.spv_listing_values.specs.declared.data.Verdict.TheVariants.{Proved, Unproved, GaveUp}
use Rattle.spv_listing_values.specs.declared.data.Claim.{Claim}
use Rattle.spv_listing_values.specs.declared.keywords.LimitWord.{LimitWord}
use Rattle.spv_listing_values.specs.declared.keywords.LimitWord.TheVariants as limit_word
use Rattle.spv_listing_values.specs.declared.keywords.StepWord.{StepWord}
use Rattle.spv_listing_values.specs.declared.keywords.StepWord.TheVariants as step_word
use Rattle.spv_listing_values.specs.declared.keywords.LineWord.{LineWord}
use Rattle.spv_listing_values.specs.declared.keywords.LineWord.TheVariants as line_word
use Rattle.spv_listing_values.specs.Written.{Alone, Applied, Written, written}
use Rattle.spv_listing_values.specs.Scanning.{lines_in}

infixl 10 ◌>>=◌
abbrev pub ◌>>=◌ : {A B : Type 0} → Option A → (A → Option B) → Option B
o >>= f = option_and_then f o

-- ---- words

-- the word that stands alone; of other terms nothing
abbrev pub text_of : Written → List ℕ
text_of (written (Alone text) ts) = text
text_of (written (Applied text name) ts) = []

-- the value of a word in a list
abbrev pub named : {X : Type 0} → List (List ℕ × X) → List ℕ → Option X
named values text = lookup (bytes_eq text) values

-- the number of these digits, where it is below a limit
abbrev pub below : ℕ → List ℕ → Option ℕ
below limit digits = if nat_lt (digits_value 10 digits) limit then Some (digits_value 10 digits) else None

abbrev pub number_in : ℕ → Written → Option ℕ
number_in limit t = below limit (text_of t)

-- ---- fractions

-- a whole number: digits, behind a minus where it is negative
abbrev pub whole_of : List ℕ → ℤ
whole_of [] = pos 0
whole_of (b ∷ digits) = if nat_eq b 45 then neg_ℤ (pos (digits_value 10 digits)) else pos (digits_value 10 (b ∷ digits))

-- what stands in front of the first stroke
abbrev pub front : List ℕ → List ℕ
front [] = []
front (b ∷ text) = if nat_eq b 47 then [] else b ∷ front text

-- the denominator behind the first stroke, and 1 where there is none
abbrev pub denominator_of : List ℕ → ℕ
denominator_of [] = 1
denominator_of (b ∷ text) = if nat_eq b 47 then digits_value 10 text else denominator_of text

-- whether it is in lowest terms and fits
abbrev pub is_fraction : Fraction → Bool
is_fraction x =
    (nat_lt (unsigned_abs x.num) (2 ^ 127) && nat_lt x.den (2 ^ 127)) && (nat_lt 0 x.den && nat_eq (gcd (unsigned_abs x.num) x.den) 1)

abbrev pub fraction_of : List ℕ → Fraction
fraction_of text = record { num = whole_of (front text); den = denominator_of text }

-- the fraction that a word is
abbrev pub fraction_by : List ℕ → Option Fraction
fraction_by text = if is_fraction (fraction_of text) then Some (fraction_of text) else None

abbrev pub fraction_in : Written → Option Fraction
fraction_in t = fraction_by (text_of t)

-- ---- headings

abbrev pub kinds : List (List ℕ × Kind)
kinds =
    (codes "EXIT", kind.Exit) ∷ (codes "ASSERT", kind.Assert) ∷ (codes "INVARIANT", kind.Invariant) ∷ (codes "PRESERVED", kind.Preserved)
    ∷ (codes "ENTRY", kind.Entry) ∷ []

abbrev pub header_of : Written → Written → Written → Option Header
header_of routine k line = do
  annotation ← named kinds (text_of k)
  place ← number_in (2 ^ 32) line
  Some (record { routine = text_of routine; kind = annotation; line = place })

-- ---- limits

abbrev pub limit_words : List (List ℕ × LimitWord)
limit_words =
    (codes "SPLITS", limit_word.Splits) ∷ (codes "INSTANCES", limit_word.Instances) ∷ (codes "PIVOTS", limit_word.Pivots) ∷ (codes "TERMS", limit_word.Terms) ∷ (codes "NUMBER", limit_word.Number) ∷ []

abbrev pub operations : List (List ℕ × Op)
operations = (codes "ADD", op.Add) ∷ (codes "SUB", op.Sub) ∷ (codes "MUL", op.Mul) ∷ (codes "DIV", op.Div) ∷ (codes "CMP", op.Cmp) ∷ []

abbrev pub wide_of : Written → Written → Written → Option (Limit Written)
wide_of o left right = do
  o ← named operations (text_of o)
  left ← fraction_in left
  right ← fraction_in right
  Some (limit.Wide o left right)

abbrev pub limit_by : LimitWord → List Written → Option (Limit Written)
limit_by limit_word.Splits (n ∷ []) = option_map limit.Splits (number_in (2 ^ 64) n)
limit_by limit_word.Instances (n ∷ []) = option_map limit.Instances (number_in (2 ^ 64) n)
limit_by limit_word.Pivots (n ∷ []) = option_map limit.Pivots (number_in (2 ^ 64) n)
limit_by limit_word.Terms (n ∷ []) = Some limit.Terms
limit_by limit_word.Number (o ∷ t ∷ []) = Some (limit.Form t)
limit_by limit_word.Number (o ∷ left ∷ right ∷ []) = wide_of o left right
limit_by _ _ = None

-- ---- steps of proofs

abbrev pub step_words : List (List ℕ × StepWord)
step_words =
    (codes "GIVEN", step_word.Given) ∷ (codes "REFL", step_word.Refl) ∷ (codes "SYMM", step_word.Symm) ∷ (codes "TRANS", step_word.Trans) ∷ (codes "CONG", step_word.Cong)
    ∷ (codes "LINEAR", step_word.Linear) ∷ (codes "SCHEMA", step_word.Schema) ∷ (codes "RULE", step_word.Rule) ∷ (codes "EVAL", step_word.Eval) ∷ (codes "CONTRA", step_word.Contra) ∷ []

-- the number of a fact, of a hypothesis or of a rule
abbrev pub fact_in : Written → Option ℕ
fact_in t = number_in (2 ^ 32) t

abbrev pub facts_in : List Written → Option (List ℕ)
facts_in [] = Some []
facts_in (t ∷ ts) = do
  fact ← fact_in t
  facts ← facts_in ts
  Some (fact ∷ facts)

-- multipliers, each with the number of a fact
abbrev pub multiples_in : List Written → Option (List (Fraction × ℕ))
multiples_in [] = Some []
multiples_in (t ∷ []) = None
multiples_in (t ∷ u ∷ ts) = do
  multiplier ← fraction_in t
  fact ← fact_in u
  multiples ← multiples_in ts
  Some ((multiplier, fact) ∷ multiples)

abbrev pub is_stroke : Written → Bool
is_stroke t = bytes_eq (text_of t) (codes "/")

-- the items in front of the first stroke, and those behind it
abbrev pub in_front : List Written → List Written
in_front [] = []
in_front (t ∷ ts) = if is_stroke t then [] else t ∷ in_front ts

abbrev pub behind : List Written → List Written
behind [] = []
behind (t ∷ ts) = if is_stroke t then ts else behind ts

abbrev pub linear_of : Written → List Written → Option (Step Written)
linear_of r ts = do
  first ← multiples_in (in_front ts)
  second ← multiples_in (behind ts)
  Some (step.Linear r first second)

-- all but the last item, and the last one
abbrev pub but_last : List Written → List Written
but_last [] = []
but_last (t ∷ []) = []
but_last (t ∷ u ∷ ts) = t ∷ but_last (u ∷ ts)

abbrev pub last_text : List Written → List ℕ
last_text [] = []
last_text (t ∷ []) = text_of t
last_text (t ∷ u ∷ ts) = last_text (u ∷ ts)

-- a fact of this kind: the one of kind 4 ends with the name of a field
abbrev pub schema_of : ℕ → List Written → Step Written
schema_of k ts = if nat_eq k 4 then step.Schema k (but_last ts) (Some (last_text ts)) else step.Schema k ts None

abbrev pub step_by : StepWord → List Written → Option (Step Written)
step_by step_word.Given (k ∷ []) = option_map step.Given (fact_in k)
step_by step_word.Refl (t ∷ []) = Some (step.Refl t)
step_by step_word.Symm (i ∷ []) = option_map step.Symm (fact_in i)
step_by step_word.Trans (i ∷ j ∷ []) = do
  i ← fact_in i
  j ← fact_in j
  Some (step.Trans i j)
step_by step_word.Cong (t ∷ u ∷ facts) = option_map (step.Cong t u) (facts_in facts)
step_by step_word.Linear (r ∷ ts) = linear_of r ts
step_by step_word.Schema (k ∷ ts) = option_map (λ k. schema_of k ts) (number_in (2 ^ 8) k)
step_by step_word.Rule (r ∷ ts) = option_map (λ r. step.Rule r ts) (fact_in r)
step_by step_word.Eval (f ∷ facts) = option_map (step.Eval f) (facts_in facts)
step_by step_word.Contra (i ∷ []) = option_map (λ i. step.Contra i None) (fact_in i)
step_by step_word.Contra (i ∷ j ∷ []) = do
  i ← fact_in i
  j ← fact_in j
  Some (step.Contra i (Some j))
step_by _ _ = None

-- ---- what is read so far

-- a condition whose verdict is still to come
pub record Asked : Type 0 where
  pub header : Header
  pub given : List Written
  pub goal : Option Written

pub record Reading : Type 0 where
  pub asked : Option Asked
  -- the conditions whose verdict was read
  pub claims : List (Claim Written)

-- a condition begins
abbrev pub with_header : Header → Reading → Reading
with_header h s = record { asked = Some (record { header = h; given = []; goal = None }); claims = s.claims }

-- a hypothesis stands in front of the goal
abbrev pub more_given : Written → Asked → Option Written → Asked
more_given t a None = record a { given = a.given ++ t ∷ [] }
more_given t a (Some goal) = a

abbrev pub with_given : Written → Asked → Asked
with_given t a = more_given t a a.goal

-- there is one goal
abbrev pub first_goal : Written → Asked → Option Written → Asked
first_goal t a None = record a { goal = Some t }
first_goal t a (Some goal) = a

abbrev pub with_goal : Written → Asked → Asked
with_goal t a = first_goal t a a.goal

-- with the condition changed whose verdict is still to come
abbrev pub asking : (Asked → Asked) → Reading → Reading
asking f s = record s { asked = option_map f s.asked }

-- the verdict is there
abbrev pub answered : Verdict Written → Asked → Option Written → Reading → Reading
answered v a None s = s
answered v a (Some goal) s = record { asked = None; claims = s.claims ++ record { header = a.header; given = a.given; goal = goal; verdict = v } ∷ [] }

abbrev pub claimed : Verdict Written → Option Asked → Reading → Reading
claimed v None s = s
claimed v (Some a) s = answered v a a.goal s

abbrev pub with_verdict : Verdict Written → Reading → Reading
with_verdict v s = claimed v s.asked s

-- a list with its last item changed
abbrev pub on_last : {X : Type 0} → (X → X) → List X → List X
on_last f [] = []
on_last f (x ∷ []) = f x ∷ []
on_last f (x ∷ y ∷ xs) = x ∷ on_last f (y ∷ xs)

abbrev pub judged_in : (Verdict Written → Verdict Written) → Option Asked → Reading → Reading
judged_in f None s = record s { claims = on_last (λ c. record c { verdict = f c.verdict }) s.claims }
judged_in f (Some a) s = s

-- with the last verdict changed, where no condition began behind it
abbrev pub judged : (Verdict Written → Verdict Written) → Reading → Reading
judged f s = judged_in f s.asked s

-- ---- verdicts with what shows them, each part behind the one before

abbrev pub with_branch : Written → Verdict Written → Verdict Written
with_branch t (Unproved branch [] []) = Unproved (branch ++ t ∷ []) [] []
with_branch t v = v

abbrev pub with_instance : Instance Written → Verdict Written → Verdict Written
with_instance i (Unproved branch instances []) = Unproved branch (instances ++ i ∷ []) []
with_instance i v = v

abbrev pub with_value : Written × Fraction → Verdict Written → Verdict Written
with_value row (Unproved branch instances table) = Unproved branch instances (table ++ row ∷ [])
with_value row v = v

abbrev pub no_steps : ProofNode Written
no_steps = record { steps = []; split = None }

-- a proof has a root
abbrev pub rooted : List (ProofNode Written) → List (ProofNode Written)
rooted [] = no_steps ∷ []
rooted (n ∷ nodes) = n ∷ nodes

-- with the last node of a proof changed
abbrev pub on_node : (ProofNode Written → ProofNode Written) → Verdict Written → Verdict Written
on_node f (Proved nodes) = Proved (on_last f (rooted nodes))
on_node f v = v

-- steps stand in front of the split, and there is one split
abbrev pub more_steps : Step Written → ProofNode Written → Option (Split Written) → ProofNode Written
more_steps s n None = record n { steps = n.steps ++ s ∷ [] }
more_steps s n (Some split) = n

abbrev pub with_step : Step Written → ProofNode Written → ProofNode Written
with_step s n = more_steps s n n.split

abbrev pub first_split : ℕ → Written → ProofNode Written → Option (Split Written) → ProofNode Written
first_split cases atom n None = record n { split = Some (record { cases = cases; atom = atom }) }
first_split cases atom n (Some split) = n

abbrev pub with_split : ℕ → Written → ProofNode Written → ProofNode Written
with_split cases atom n = first_split cases atom n n.split

abbrev pub with_case : Verdict Written → Verdict Written
with_case (Proved nodes) = Proved (nodes ++ no_steps ∷ [])
with_case v = v

-- ---- lines

abbrev pub line_words : List (List ℕ × LineWord)
line_words =
    (codes "CONDITION", line_word.Heading) ∷ (codes "GIVEN", line_word.Given) ∷ (codes "GOAL", line_word.Goal) ∷ (codes "PROVED", line_word.Proved)
    ∷ (codes "UNPROVED", line_word.Unproved) ∷ (codes "GAVE", line_word.Gave) ∷ (codes "BRANCH", line_word.Branch) ∷ (codes "INSTANCE", line_word.Instance)
    ∷ (codes "VALUE", line_word.Value) ∷ (codes "STEP", line_word.Step) ∷ (codes "SPLIT", line_word.Split) ∷ (codes "CASE", line_word.Case) ∷ []

-- where the items say something, what is read with it; else what was read before
abbrev pub with_some : {X : Type 0} → (X → Reading → Reading) → Option X → Reading → Reading
with_some f None s = s
with_some f (Some x) s = f x s

abbrev pub instance_of : Written → List Written → Option (Instance Written)
instance_of r ts = option_map (λ r. record { rule = r; values = ts }) (fact_in r)

abbrev pub row_of : Written → Written → Option (Written × Fraction)
row_of t x = option_map (λ x. (t, x)) (fraction_in x)

-- a step by its word
abbrev pub step_of : List Written → Option (Step Written)
step_of [] = None
step_of (w ∷ ts) = named step_words (text_of w) >>= λ w. step_by w ts

abbrev pub limit_of : List Written → Option (Limit Written)
limit_of [] = None
limit_of (w ∷ ts) = named limit_words (text_of w) >>= λ w. limit_by w ts

abbrev pub line_by : LineWord → List Written → Reading → Reading
line_by line_word.Heading (k ∷ routine ∷ annotation ∷ w ∷ line ∷ []) s = with_some with_header (header_of routine annotation line) s
line_by line_word.Given (t ∷ []) s = asking (with_given t) s
line_by line_word.Goal (t ∷ []) s = asking (with_goal t) s
line_by line_word.Proved [] s = with_verdict (Proved []) s
line_by line_word.Unproved [] s = with_verdict (Unproved [] [] []) s
line_by line_word.Gave (up ∷ ts) s = with_some (λ l. with_verdict (GaveUp l)) (limit_of ts) s
line_by line_word.Branch (t ∷ []) s = judged (with_branch t) s
line_by line_word.Instance (r ∷ ts) s = with_some (λ i. judged (with_instance i)) (instance_of r ts) s
line_by line_word.Value (t ∷ x ∷ []) s = with_some (λ row. judged (with_value row)) (row_of t x) s
line_by line_word.Step ts s = with_some (λ p. judged (on_node (with_step p))) (step_of ts) s
line_by line_word.Split (n ∷ atom ∷ []) s = with_some (λ n. judged (on_node (with_split n atom))) (fact_in n) s
line_by line_word.Case (i ∷ []) s = judged with_case s
line_by _ _ s = s

-- one line more
abbrev pub with_line : Reading → List Written → Reading
with_line s [] = s
with_line s (w ∷ ts) = with_some (λ w. line_by w ts) (named line_words (text_of w)) s

abbrev pub with_lines : Reading → List (List Written) → Reading
with_lines s [] = s
with_lines s (l ∷ ls) = with_lines (with_line s l) ls

-- nothing is read
abbrev pub nothing : Reading
nothing = record { asked = None; claims = [] }

-- the conditions that these bytes tell, where they are a listing
abbrev pub claims_in : List ℕ → List (Claim Written)
claims_in bytes = (with_lines nothing (lines_in bytes)).claims
