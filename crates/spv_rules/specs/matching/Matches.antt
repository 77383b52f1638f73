-- Which instances of rules the used terms call for, where a table says what terms are worth.
use Rattle.std.specs.Prelude.{ℕ, ◌+◌, Bool, true, false, ◌&&◌, List, [], ◌∷◌, ◌++◌, ℤ, Option, Some, None, Result, Ok, Err, nat_eq, option_map, if◌then◌else◌}
use Rattle.std.specs.List.{list_any, filter_map}
use Rattle.spv_whole.specs.Fraction.{Fraction, whole}
use Rattle.spv_logic.specs.declared.types.Shape.{Shape}
use Rattle.spv_logic.specs.declared.types.Decl.{Decl}
use Rattle.spv_logic.specs.declared.operators.Head.{Head}
use Rattle.spv_logic.specs.declared.operators.Head.TheVariants.{Num}
use Rattle.spv_logic.specs.Terms.{Term, Terms, term, terms, head_eq, sort_eq, term_eq}
use Rattle.spv_logic.specs.Fits.{on_sort}
use Rattle.spv_logic.specs.Sorts.{term_sort, variable_sort}
use Rattle.spv_term.specs.substitution.Images.{head_of}
use Rattle.spv_table.specs.declared.operations.WideValue.{WideValue}
use Rattle.spv_table.specs.Values.{Outcome, is_same, value}
use Rattle.spv_proof_rules.specs.Rules.{Rule}

-- an instance of a rule: the rule's number, from 1, and the terms of its variables in their order
pub record Instance : Type 0 where
  pub rule : ℕ
  pub values : List Term

-- a term whose value is too wide, and the operation
abbrev pub Wide : Type 0
Wide = Term × WideValue

-- the terms that variables have met so far
abbrev pub Bindings : Type 0
Bindings = List (Head × Term)

-- some matches, or the first test that meets a value that is too wide
abbrev pub Found : Type 0
Found = Result (List Bindings) Wide

-- what is matched with: the types and symbols, the used terms, the fractions that a table lists, and the variables of a rule
pub record Setting : Type 0 where
  pub shapes : List Shape
  pub decls : List Decl
  pub used : List Term
  pub listed : Term → Fraction
  pub variables : List Head

-- ---- one thing after another

abbrev pub after : {A B : Type 0} → Result A Wide → (A → Result B Wide) → Result B Wide
after (Err w) go = Err w
after (Ok x) go = go x

-- what is found here, and behind it what is found there
abbrev pub behind : {A : Type 0} → Result (List A) Wide → Result (List A) Wide → Result (List A) Wide
behind (Err w) there = Err w
behind (Ok xs) (Err w) = Err w
behind (Ok xs) (Ok ys) = Ok (xs ++ ys)

-- what is found for each of a list, in its order
abbrev pub each : {A B : Type 0} → (A → Result (List B) Wide) → List A → Result (List B) Wide
each f [] = Ok []
each f (x ∷ xs) = behind (f x) (each f xs)

-- ---- tests

abbrev pub told_of : Term → Outcome → Result Fraction Wide
told_of t (Err w) = Err (t, w)
told_of t (Ok x) = Ok x

abbrev pub value_of : (Term → Fraction) → Term → Result Fraction Wide
value_of listed t = told_of t (value listed t)

-- whether two terms have one value; the first one is evaluated first
abbrev pub have_one_value : (Term → Fraction) → Term → Term → Result Bool Wide
have_one_value listed s t = after (value_of listed s) (λ x. after (value_of listed t) (λ y. Ok (is_same x y)))

-- whether a term's value is a whole number
abbrev pub has_number : (Term → Fraction) → ℤ → Term → Result Bool Wide
has_number listed z t = after (value_of listed t) (λ x. Ok (is_same x (whole z)))

-- what is found where a test passes; else nothing
abbrev pub if_passes : {A : Type 0} → Result Bool Wide → Result (List A) Wide → Result (List A) Wide
if_passes test found = after test (λ passes. if passes then found else Ok [])

-- ---- variables and numerals

-- the term that a variable has met
abbrev pub bound : Bindings → Head → Option Term
bound [] x = None
bound (p ∷ b) x = if head_eq p.0 x then Some p.1 else bound b x

-- a variable that has met no term takes any one of its sort; one that has met a term, those of the same value
abbrev pub met : Setting → Head → Option Term → Term → Bindings → Found
met m x None t b = Ok (if on_sort (term_sort m.shapes m.decls t) (sort_eq (variable_sort x)) then (b ++ (x, t) ∷ []) ∷ [] else [])
met m x (Some s) t b = if_passes (have_one_value m.listed s t) (Ok (b ∷ []))

abbrev pub numeral : Head → Option ℤ
numeral (Num z) = Some z
numeral _ = None

abbrev pub arguments : Term → Terms
arguments (term h ts) = ts

-- ---- patterns

-- a used term of a head, where it has the value of a term: what its own arguments give
abbrev pub met_by : Setting → Head → Term → (Term → Found) → Term → Found
met_by m h t inside u = if head_eq h (head_of u) then if_passes (have_one_value m.listed u t) (inside u) else Ok []

-- a numeral meets a term of its value, any other head each used term of that head
abbrev pub applied : Setting → Head → Option ℤ → Term → Bindings → (Term → Found) → Found
applied m h (Some z) t b inside = if_passes (has_number m.listed z t) (Ok (b ∷ []))
applied m h None t b inside = each (met_by m h t inside) m.used

abbrev mutual
  -- the matches of a pattern with a term that go on from those of the patterns before it
  pub matched : Setting → Term → Term → Bindings → Found
  matched m (term h ps) t b =
      if list_any (head_eq h) m.variables then met m h (bound b h) t b
      else applied m h (numeral h) t b (λ u. matched_all m ps (arguments u) (b ∷ []))

  -- those of patterns with terms, one beside the other: all matches of the first pattern come before the second is looked at
  pub matched_all : Setting → Terms → Terms → List Bindings → Found
  matched_all m (terms p ps) (terms t ts) found = after (each (matched m p t) found) (matched_all m ps ts)
  matched_all m _ _ found = Ok found

-- ---- instances

-- a term before others, where all are there
abbrev pub before : Option Term → Option (List Term) → Option (List Term)
before (Some t) (Some ts) = Some (t ∷ ts)
before _ _ = None

-- the terms of variables, where each has met one
abbrev pub values_of : Bindings → List Head → Option (List Term)
values_of b [] = Some []
values_of b (x ∷ xs) = before (bound b x) (values_of b xs)

abbrev pub instance_with : ℕ → List Head → Bindings → Option Instance
instance_with number variables b = option_map (λ ts. record { rule = number; values = ts }) (values_of b variables)

-- the instances of a rule at a used term: none where it has not the trigger's head
abbrev pub instances_at : Setting → ℕ → Term → Term → Result (List Instance) Wide
instances_at m number (term h ps) u =
    if head_eq h (head_of u) then after (matched_all m ps (arguments u) ([] ∷ [])) (λ found. Ok (filter_map (instance_with number m.variables) found)) else Ok []

abbrev pub setting : List Shape → List Decl → List Term → (Term → Fraction) → Rule → Setting
setting shapes decls used listed r = record { shapes = shapes; decls = decls; used = used; listed = listed; variables = r.replaced }

abbrev pub instances_of : List Shape → List Decl → List Term → (Term → Fraction) → ℕ → Rule → Result (List Instance) Wide
instances_of shapes decls used listed number r = each (instances_at (setting shapes decls used listed r) number r.trigger) used

-- the instances of rules, of which the first has this number
abbrev pub numbered : List Shape → List Decl → List Term → (Term → Fraction) → ℕ → List Rule → Result (List Instance) Wide
numbered shapes decls used listed number [] = Ok []
numbered shapes decls used listed number (r ∷ rules) = behind (instances_of shapes decls used listed number r) (numbered shapes decls used listed (number + 1) rules)

-- ---- none twice

abbrev pub all_eq : List Term → List Term → Bool
all_eq [] [] = true
all_eq (t ∷ ts) (u ∷ us) = term_eq t u && all_eq ts us
all_eq _ _ = false

abbrev pub instance_eq : Instance → Instance → Bool
instance_eq i j = nat_eq i.rule j.rule && all_eq i.values j.values

-- instances with further ones, each where it is new
abbrev pub with_instances : List Instance → List Instance → List Instance
with_instances done [] = done
with_instances done (i ∷ is) = with_instances (if list_any (instance_eq i) done then done else done ++ i ∷ []) is

-- the instances of rules that used terms call for, in the order of the rules and then of the terms, none twice; or the first term that a
-- test meets whose value is too wide
abbrev pub matches : List Shape → List Decl → List Rule → List Term → (Term → Fraction) → Result (List Instance) Wide
matches shapes decls rules used listed = after (numbered shapes decls used listed 1 rules) (λ found. Ok (with_instances [] found))
