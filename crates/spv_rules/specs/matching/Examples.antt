-- Worked matches. Behind some of them stands which wrong definition they refuse.
use Rattle.std.specs.Prelude.{◌≡◌, ℕ, ◌^◌, List, [], ◌∷◌, pos, Ok, Err}
use Rattle.spv_whole.specs.Fraction.{Fraction, whole}
use Rattle.spv_frac.specs.declared.frac.Op.TheVariants as op
use Rattle.spv_logic.specs.declared.names.names.Symbol.{Symbol}
use Rattle.spv_logic.specs.declared.types.Sort.{Sort}
use Rattle.spv_logic.specs.declared.types.Sort.TheVariants as sort
use Rattle.spv_logic.specs.declared.types.Decl.{Decl}
use Rattle.spv_logic.specs.declared.operators.Head.{Head}
use Rattle.spv_logic.specs.declared.operators.Head.TheVariants.{Var, Num, App, Add, Eq, True}
use Rattle.spv_logic.specs.Terms.{Term, term, no_terms, terms}
use Rattle.spv_table.specs.Values.{listed_in}
use Rattle.spv_proof_rules.specs.Rules.{Rule}
use Rattle.spv_rules.specs.matching.Matches.{Instance, matches}

-- ---- terms

abbrev name : ℕ → Symbol
name n = record { 0 = n }

abbrev decl : ℕ → List Sort → Sort → Decl
decl n args result = record { name = name n; args = args; result = result }

-- functions of one number and of two, one of a truth value, a number, and a function of three numbers
abbrev decls : List Decl
decls = decl 0 (sort.Int ∷ []) sort.Int ∷ decl 1 (sort.Int ∷ []) sort.Int ∷ decl 2 (sort.Int ∷ sort.Int ∷ []) sort.Int ∷ decl 3 (sort.Bool ∷ []) sort.Bool ∷ decl 4 [] sort.Int
    ∷ decl 5 (sort.Int ∷ sort.Int ∷ sort.Int ∷ []) sort.Int ∷ []

abbrev alone : Head → Term
alone h = term h no_terms

abbrev over : Head → Term → Term
over h t = term h (terms t no_terms)

abbrev over_two : Head → Term → Term → Term
over_two h t u = term h (terms t (terms u no_terms))

abbrev f : Term → Term
f t = over (App (name 0)) t

abbrev g : Term → Term
g t = over (App (name 1)) t

abbrev h : Term → Term → Term
h t u = over_two (App (name 2)) t u

abbrev q : Term → Term
q t = over (App (name 3)) t

abbrev of_three : Term → Term → Term → Term
of_three u v w = term (App (name 5)) (terms u (terms v (terms w no_terms)))

abbrev k : Term
k = alone (App (name 4))

abbrev num : ℕ → Term
num n = alone (Num (pos n))

abbrev same : Term → Term → Term
same t u = over_two Eq t u

abbrev plus : Term → Term → Term
plus t u = over_two Add t u

-- variables of the program, five numbers and two truth values
abbrev variable : ℕ → Sort → Term
variable n s = alone (Var (name n) s 0)

abbrev a : Term
a = variable 10 sort.Int

abbrev b : Term
b = variable 11 sort.Int

abbrev c : Term
c = variable 12 sort.Int

abbrev d : Term
d = variable 13 sort.Int

abbrev s : Term
s = variable 14 sort.Bool

abbrev t : Term
t = variable 15 sort.Bool

-- those of a rule
abbrev x : Head
x = Var (name 20) sort.Int 0

abbrev y : Head
y = Var (name 21) sort.Int 0

-- ---- what is found

-- a rule of these variables and this trigger, whose formula is not looked at
abbrev rule : List Head → Term → Rule
rule variables trigger = record { replaced = variables; trigger = trigger; formula = alone True }

abbrev found : ℕ → List Term → Instance
found number values = record { rule = number; values = values }

-- rules find these instances of these used terms, where these have values that are not 0
abbrev Find : List Rule → List Term → List (Term × Fraction) → List Instance → Type 0
Find rules used values instances = matches [] decls rules used (listed_in values) ≡ Ok instances

-- a term whose value is too wide stops them: a sum of two such numbers
abbrev Stop : List Rule → List Term → List (Term × Fraction) → Term → Fraction → Fraction → Type 0
Stop rules used values at left right = matches [] decls rules used (listed_in values) ≡ Err (at, record { op = op.Add; left = left; right = right })

abbrev is : Term → ℕ → Term × Fraction
is u n = (u, whole (pos n))

-- ---- a variable takes each argument

-- refuses: in another order; with the values of the terms that are found
abbrev pub EachApplicationIsFound : Type 0
EachApplicationIsFound =
    Find (rule (x ∷ []) (f (alone x)) ∷ []) (a ∷ b ∷ f b ∷ f a ∷ g a ∷ []) [] (found 1 (b ∷ []) ∷ found 1 (a ∷ []) ∷ [])

-- the terms come in the order of the rule's variables, which the trigger has in another one
abbrev pub TermsGoByVariables : Type 0
TermsGoByVariables = Find (rule (x ∷ y ∷ []) (h (alone y) (alone x)) ∷ []) (h a b ∷ []) [] (found 1 (b ∷ a ∷ []) ∷ [])

-- ---- an application inside the trigger

-- F (F X) meets F c, where F a and F b have the value of c; refuses: matching by spelling
abbrev pub InnerMeetsTwo : Type 0
InnerMeetsTwo =
    Find (rule (x ∷ []) (f (f (alone x))) ∷ []) (a ∷ f a ∷ b ∷ f b ∷ c ∷ f c ∷ []) (is a 1 ∷ is b 2 ∷ is c 5 ∷ is (f a) 5 ∷ is (f b) 5 ∷ is (f c) 7 ∷ [])
    (found 1 (a ∷ []) ∷ found 1 (b ∷ []) ∷ [])

-- what the trigger says is no used term
abbrev pub InnerHasToBeUsed : Type 0
InnerHasToBeUsed = Find (rule (x ∷ []) (f (g (alone x))) ∷ []) (a ∷ f a ∷ []) (is a 5 ∷ is (f a) 5 ∷ []) []

-- a symbol without arguments
abbrev pub SymbolHasToBeUsed : Type 0
SymbolHasToBeUsed = Find (rule [] (f k) ∷ []) (a ∷ f a ∷ []) [] []

abbrev pub SymbolIsUsed : Type 0
SymbolIsUsed = Find (rule [] (f k) ∷ []) (a ∷ k ∷ f a ∷ []) (is a 3 ∷ is k 3 ∷ []) (found 1 [] ∷ [])

-- two inner applications: each match of the first goes on with each of the second
abbrev pub InnersGoInOrder : Type 0
InnersGoInOrder =
    Find (rule (x ∷ y ∷ []) (h (f (alone x)) (g (alone y))) ∷ []) (f a ∷ f b ∷ g c ∷ g d ∷ h a b ∷ []) []
    (found 1 (a ∷ c ∷ []) ∷ found 1 (a ∷ d ∷ []) ∷ found 1 (b ∷ c ∷ []) ∷ found 1 (b ∷ d ∷ []) ∷ [])

-- ---- a variable met twice

-- refuses: matching by spelling; the second term in place of the first
abbrev pub VariableMetTwice : Type 0
VariableMetTwice = Find (rule (x ∷ []) (h (alone x) (alone x)) ∷ []) (h a b ∷ h b c ∷ h c d ∷ []) (is a 1 ∷ is b 1 ∷ is c 2 ∷ is d 3 ∷ []) (found 1 (a ∷ []) ∷ [])

-- ---- a numeral

-- refuses: a numeral that has to be used
abbrev pub NumeralMeetsItsValue : Type 0
NumeralMeetsItsValue = Find (rule (x ∷ []) (h (num 3) (alone x)) ∷ []) (h a b ∷ h b a ∷ h (num 3) c ∷ []) (is a 3 ∷ []) (found 1 (b ∷ []) ∷ found 1 (c ∷ []) ∷ [])

-- ---- a variable of another sort

-- Q (X = Y), where X and Y are numbers; refuses: without a look at sorts
abbrev pub OtherSortIsNotMet : Type 0
OtherSortIsNotMet = Find (rule (x ∷ y ∷ []) (q (same (alone x) (alone y))) ∷ []) (same s t ∷ q (same s t) ∷ []) [] []

abbrev pub SortIsMet : Type 0
SortIsMet = Find (rule (x ∷ y ∷ []) (q (same (alone x) (alone y))) ∷ []) (same a b ∷ q (same a b) ∷ []) [] (found 1 (a ∷ b ∷ []) ∷ [])

-- ---- none twice

-- refuses: an instance twice
abbrev pub FoundOnce : Type 0
FoundOnce = Find (rule (x ∷ []) (h (alone x) (f (num 0))) ∷ []) (h a b ∷ f c ∷ f d ∷ []) [] (found 1 (a ∷ []) ∷ [])

-- instances of two rules are two, though their terms are the same
abbrev pub OfEachRule : Type 0
OfEachRule = Find (rule (x ∷ []) (f (alone x)) ∷ rule (x ∷ []) (f (alone x)) ∷ []) (f a ∷ []) [] (found 1 (a ∷ []) ∷ found 2 (a ∷ []) ∷ [])

-- refuses: by terms before rules
abbrev pub RulesBeforeTerms : Type 0
RulesBeforeTerms =
    Find (rule (x ∷ []) (f (alone x)) ∷ rule (y ∷ []) (g (alone y)) ∷ []) (g a ∷ f b ∷ g c ∷ f d ∷ []) []
    (found 1 (b ∷ []) ∷ found 1 (d ∷ []) ∷ found 2 (a ∷ []) ∷ found 2 (c ∷ []) ∷ [])

-- ---- values that are too wide

abbrev wide : ℕ
wide = 2 ^ 126

-- a term that no test meets may be too wide
abbrev pub NoTestNoStop : Type 0
NoTestNoStop = Find (rule (x ∷ []) (f (alone x)) ∷ []) (f (plus a b) ∷ []) (is a wide ∷ is b wide ∷ []) (found 1 (plus a b ∷ []) ∷ [])

-- of two terms the one that the variable met first
abbrev pub StopsAtFirstTerm : Type 0
StopsAtFirstTerm =
    Stop (rule (x ∷ []) (h (alone x) (alone x)) ∷ []) (h (plus a a) (plus b b) ∷ []) (is a wide ∷ is b wide ∷ []) (plus a a) (whole (pos wide)) (whole (pos wide))

-- no test comes behind one that fails
abbrev pub FailedTestEnds : Type 0
FailedTestEnds = Find (rule [] (h (num 1) (num 2)) ∷ []) (h a (plus b b) ∷ []) (is a 3 ∷ is b wide ∷ []) []

-- all tests of the first argument come before those of the second
abbrev pub ArgumentsGoLeftToRight : Type 0
ArgumentsGoLeftToRight =
    Stop (rule [] (h (f (num 1)) (num 2)) ∷ []) (f c ∷ f (plus a a) ∷ h d (plus b b) ∷ []) (is a wide ∷ is b wide ∷ is c 1 ∷ []) (plus a a) (whole (pos wide)) (whole (pos wide))

-- also where the first argument has two matches: both go on with the second argument before the third is looked at
-- refuses: each match carried on to the end before the next one
abbrev pub MatchesGoSideBySide : Type 0
MatchesGoSideBySide =
    Stop (rule (x ∷ []) (of_three (f (alone x)) (alone x) (num 1)) ∷ []) (f c ∷ f (plus a a) ∷ of_three d c (plus b b) ∷ []) (is a wide ∷ is b wide ∷ []) (plus a a) (whole (pos wide)) (whole (pos wide))

-- the rules come before the terms
abbrev pub RulesStopBeforeTerms : Type 0
RulesStopBeforeTerms =
    Stop (rule [] (f (num 1)) ∷ rule [] (g (num 1)) ∷ []) (g (plus a a) ∷ f (plus b b) ∷ []) (is a wide ∷ is b wide ∷ []) (plus b b) (whole (pos wide)) (whole (pos wide))
