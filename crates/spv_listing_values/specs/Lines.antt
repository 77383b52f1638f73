-- Each line of a listing as a list of words and terms.
use Rattle.std.specs.Prelude.{ℕ, Bool, false, List, [], ◌∷◌, ◌++◌, map, Option, Some, None, codes, decimal, nat_eq, if◌then◌else◌}
use Rattle.std.specs.List.{flat_map}
use Rattle.std.specs.Fmt.{signed_decimal}
use Rattle.std.specs.Str.{bytes_eq}
use Rattle.spv_whole.specs.Fraction.{Fraction}
use Rattle.spv_frac.specs.declared.frac.Op.{Op}
use Rattle.spv_frac.specs.declared.frac.Op.TheVariants as op
use Rattle.spv_logic.specs.declared.conditions.Kind.{Kind}
use Rattle.spv_logic.specs.declared.conditions.Kind.TheVariants as kind
use Rattle.spv_listing_values.specs.declared.data.Header.{Header}
use Rattle.spv_listing_values.specs.declared.data.Step.{Step}
use Rattle.spv_listing_values.specs.declared.data.Step.TheVariants as step
use Rattle.spv_listing_values.specs.declared.data.Instance.{Instance}
use Rattle.spv_listing_values.specs.declared.data.Limit.{Limit}
use Rattle.spv_listing_values.specs.declared.data.Limit.TheVariants as limit
use Rattle.spv_listing_values.specs.Written.{Alone, Applied, Written, written, word}

-- ---- numbers

abbrev pub number : ℕ → Written
number n = word (decimal n)

-- the denominator behind a stroke; nothing for 1
abbrev pub denominator_bytes : ℕ → List ℕ
denominator_bytes den = if nat_eq den 1 then [] else 47 ∷ decimal den

-- a fraction in lowest terms: a whole number, or two
abbrev pub fraction : Fraction → Written
fraction x = word (signed_decimal x.num ++ denominator_bytes x.den)

-- ---- the condition

abbrev pub kind_word : Kind → List ℕ
kind_word kind.Exit = codes "EXIT"
kind_word kind.Assert = codes "ASSERT"
kind_word kind.Invariant = codes "INVARIANT"
kind_word kind.Preserved = codes "PRESERVED"
kind_word kind.Entry = codes "ENTRY"

-- the heading of the condition with this number
abbrev pub heading : ℕ → Header → List Written
heading k h = word (codes "CONDITION") ∷ number k ∷ word h.routine ∷ word (kind_word h.kind) ∷ word (codes "LINE") ∷ number h.line ∷ []

abbrev pub given_line : Written → List Written
given_line t = word (codes "GIVEN") ∷ t ∷ []

abbrev pub goal_line : Written → List Written
goal_line t = word (codes "GOAL") ∷ t ∷ []

-- ---- a table that refutes it

abbrev pub branch_line : Written → List Written
branch_line t = word (codes "BRANCH") ∷ t ∷ []

abbrev pub instance_line : Instance Written → List Written
instance_line i = word (codes "INSTANCE") ∷ number i.rule ∷ i.values

abbrev pub value_line : Written × Fraction → List Written
value_line row = word (codes "VALUE") ∷ row.0 ∷ fraction row.1 ∷ []

-- ---- limits

abbrev pub operation_word : Op → List ℕ
operation_word op.Add = codes "ADD"
operation_word op.Sub = codes "SUB"
operation_word op.Mul = codes "MUL"
operation_word op.Div = codes "DIV"
operation_word op.Cmp = codes "CMP"

abbrev pub limit_items : Limit Written → List Written
limit_items (limit.Splits n) = word (codes "SPLITS") ∷ number n ∷ []
limit_items (limit.Instances n) = word (codes "INSTANCES") ∷ number n ∷ []
limit_items (limit.Pivots n) = word (codes "PIVOTS") ∷ number n ∷ []
limit_items limit.Terms = word (codes "TERMS") ∷ number 1000000 ∷ []
limit_items (limit.Form t) = word (codes "NUMBER") ∷ word (codes "FORM") ∷ t ∷ []
limit_items (limit.Wide o left right) = word (codes "NUMBER") ∷ word (operation_word o) ∷ fraction left ∷ fraction right ∷ []

abbrev pub limit_line : Limit Written → List Written
limit_line l = word (codes "GAVE") ∷ word (codes "UP") ∷ limit_items l

-- ---- steps of proofs

abbrev pub numbers : List ℕ → List Written
numbers ns = map number ns

-- a multiplier, and the number of the fact that it multiplies
abbrev pub multiple : Fraction × ℕ → List Written
multiple m = fraction m.0 ∷ number m.1 ∷ []

abbrev pub multiples : List (Fraction × ℕ) → List Written
multiples ms = flat_map multiple ms

abbrev pub is_equation : Written → Bool
is_equation (written (Alone text) ts) = false
is_equation (written (Applied text name) ts) = bytes_eq text (codes "=")

-- the multiples for the other direction, which an equation has alone
abbrev pub other_multiples : Written → List (Fraction × ℕ) → List Written
other_multiples r ms = if is_equation r then word (codes "/") ∷ multiples ms else []

-- the name of a field, where there is one
abbrev pub field : Option (List ℕ) → List Written
field None = []
field (Some name) = word name ∷ []

-- a fact's number, where there is one
abbrev pub second_number : Option ℕ → List Written
second_number None = []
second_number (Some n) = number n ∷ []

abbrev pub step_items : Step Written → List Written
step_items (step.Given k) = word (codes "GIVEN") ∷ number k ∷ []
step_items (step.Refl t) = word (codes "REFL") ∷ t ∷ []
step_items (step.Symm i) = word (codes "SYMM") ∷ number i ∷ []
step_items (step.Trans i j) = word (codes "TRANS") ∷ number i ∷ number j ∷ []
step_items (step.Cong t u facts) = word (codes "CONG") ∷ t ∷ u ∷ numbers facts
step_items (step.Linear r first second) = word (codes "LINEAR") ∷ r ∷ (multiples first ++ other_multiples r second)
step_items (step.Schema k ts name) = word (codes "SCHEMA") ∷ number k ∷ (ts ++ field name)
step_items (step.Rule r ts) = word (codes "RULE") ∷ number r ∷ ts
step_items (step.Eval f facts) = word (codes "EVAL") ∷ f ∷ numbers facts
step_items (step.Contra i j) = word (codes "CONTRA") ∷ number i ∷ second_number j

abbrev pub step_line : Step Written → List Written
step_line s = word (codes "STEP") ∷ step_items s

-- how many cases a split has, and its atom
abbrev pub split_line : ℕ → Written → List Written
split_line cases atom = word (codes "SPLIT") ∷ number cases ∷ atom ∷ []

-- the line in front of the case of this number, from 1
abbrev pub case_line : ℕ → List Written
case_line i = word (codes "CASE") ∷ number i ∷ []
