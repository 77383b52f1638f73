-- What is known on a path of a search, what follows from that by congruence and by what no point can tell apart, and when a path is live.
use Rattle.std.specs.Prelude.{◌≡◌, Bool, true, false, List, ◌∷◌, ◌++◌, ℤ, Option, Some}
use Rattle.spv_frac.specs.rational.Rational.{Rational}
use Rattle.spv_logic.specs.declared.operators.Head.{Head}
use Rattle.spv_logic.specs.declared.operators.Head.TheVariants.{Num}
use Rattle.spv_logic.specs.Terms.{Term, Terms, term, no_terms, terms}
use Rattle.spv_logic.specs.Formulas.{negation, equation, below}
use Rattle.spv_proof_rules.specs.Evaluation.{evaluates, clashes}
use Rattle.spv_proof_rules.specs.Effects.{Question, is_truth, is_number}
use Rattle.spv_models.specs.leaf_models.Subterms.{is_among, subterms}
use Rattle.spv_models.specs.leaf_models.Atoms as search
use Rattle.spv_models.specs.leaf_models.Leaves.{truth_term, worth_at, is_met}
use Rattle.spv_models.specs.leaf_models.Tables.{formulas_of}

-- the atoms of a search, and its questions: the atoms, and the arguments of sort Bool of what is no connective
abbrev pub atoms : Question → List Term
atoms q = search.atoms q.shapes q.decls (formulas_of q.sequent)

abbrev pub questions : Question → List Term
questions q = search.questions q.shapes q.decls (formulas_of q.sequent)

-- the facts of a path: the hypotheses, that the goal is false, and the cases that were taken
abbrev pub facts : Question → List Term → List Term
facts q cases = q.sequent.given ++ negation q.sequent.goal ∷ cases

-- ---- what is known

-- the least list with these facts, with each question, or its negation, that an evaluation adds from members of the list, and with
-- the negation of each equation among the questions of which it has an order
pub data Known (q : Question) (fs : List Term) : Term → Type 0 where
  given : (t : Term) → is_among fs t ≡ true → Known q fs t
  affirmed : (t : Term) (cited : List Term) → is_among (questions q) t ≡ true → ((u : Term) → is_among cited u ≡ true → Known q fs u) → evaluates (is_truth q) cited t ≡ true → Known q fs t
  denied : (t : Term) (cited : List Term) → is_among (questions q) t ≡ true → ((u : Term) → is_among cited u ≡ true → Known q fs u) → evaluates (is_truth q) cited (negation t) ≡ true → Known q fs (negation t)
  lower : (s t : Term) → is_among (questions q) (equation s t) ≡ true → Known q fs (below s t) → Known q fs (negation (equation s t))
  upper : (s t : Term) → is_among (questions q) (equation s t) ≡ true → Known q fs (below t s) → Known q fs (negation (equation s t))

-- the truth that what is known gives to a term: a member and what it negates have theirs, and an equation of which it has an order is false
pub data Gives (q : Question) (fs : List Term) : Term → Bool → Type 0 where
  member : (t : Term) → Known q fs t → Gives q fs t true
  negated : (t : Term) → Known q fs (negation t) → Gives q fs t false
  below_it : (s t : Term) → Known q fs (below s t) → Gives q fs (equation s t) false
  above_it : (s t : Term) → Known q fs (below t s) → Gives q fs (equation s t) false

-- a point at which each relation that is known is true, as it is read
pub record MeetsKnown (q : Question) (fs : List Term) (point : Term → Rational) : Type 0 where
  pub met : (t : Term) → Known q fs t → is_met (is_number q) point t ≡ true

-- ---- what is joined

-- what is known makes two terms the same: a question and its truth, and the sides of an equation
pub data Told (q : Question) (fs : List Term) : Term → Term → Type 0 where
  true_one : (t : Term) → is_among (questions q) t ≡ true → Known q fs t → Told q fs t (truth_term true)
  false_one : (t : Term) → is_among (questions q) t ≡ true → Known q fs (negation t) → Told q fs t (truth_term false)
  sides : (s t : Term) → is_among (atoms q) (equation s t) ≡ true → Known q fs (equation s t) → Told q fs s t

-- the terms on which congruence acts: the subterms of the atoms
abbrev pub IsAdded : Question → Term → Type 0
IsAdded q t = is_among (subterms (atoms q)) t ≡ true

mutual
  -- what is told joins, with all that follows by congruence, and so does what is shared
  pub data Linked (q : Question) (fs : List Term) : Term → Term → Type 0 where
    told : (s t : Term) → Told q fs s t → Linked q fs s t
    shared : (s t : Term) → Shared q fs s t → Linked q fs s t
    itself : (t : Term) → Linked q fs t t
    turned : (s t : Term) → Linked q fs s t → Linked q fs t s
    through : (s t u : Term) → Linked q fs s t → Linked q fs t u → Linked q fs s u
    congruent : (h : Head) (ss ts : Terms) → IsAdded q (term h ss) → IsAdded q (term h ts) → AllLinked q fs ss ts → Linked q fs (term h ss) (term h ts)

  -- the same for the terms of two lists, one by one
  pub data AllLinked (q : Question) (fs : List Term) : Terms → Terms → Type 0 where
    none : AllLinked q fs no_terms no_terms
    more : (s t : Term) (ss ts : Terms) → Linked q fs s t → AllLinked q fs ss ts → AllLinked q fs (terms s ss) (terms t ts)

  -- the sides of an equation of whole numbers among the atoms, neither of which any point can put below the other
  pub data Shared (q : Question) (fs : List Term) : Term → Term → Type 0 where
    forced : (s t : Term) → is_among (atoms q) (equation s t) ≡ true → is_number q s ≡ true → is_number q t ≡ true
        → ((point : Term → Rational) → MeetsKnown q fs point → is_met (is_number q) point (below s t) ≡ true → TellsApart q fs point)
        → ((point : Term → Rational) → MeetsKnown q fs point → is_met (is_number q) point (below t s) ≡ true → TellsApart q fs point)
        → Shared q fs s t

  -- a point gives different values to two terms of sort Int that are joined
  pub data TellsApart (q : Question) (fs : List Term) : (Term → Rational) → Type 0 where
    differ : (point : Term → Rational) (s t : Term) → is_number q s ≡ true → is_number q t ≡ true → Linked q fs s t → (worth_at point s ≡ worth_at point t → ⊥) → TellsApart q fs point

-- ---- live paths

abbrev pub numeral : ℤ → Term
numeral z = term (Num z) no_terms

-- nothing shows a contradiction in what is known
pub record IsLive (q : Question) (fs : List Term) : Type 0 where
  -- no truth that is given is opposite to what connectives make of others that are
  pub agree : (given_to : Term → Option Bool) → ((t : Term) (b : Bool) → given_to t ≡ Some b → Gives q fs t b) → (t : Term) → clashes (is_truth q) given_to t ≡ false
  -- no sides of an equation that is false are joined, no two different numerals, and not TRUE with FALSE
  pub apart : (s t : Term) → is_among (atoms q) (equation s t) ≡ true → Known q fs (negation (equation s t)) → Linked q fs s t → ⊥
  pub numerals : (y z : ℤ) → Linked q fs (numeral y) (numeral z) → y ≡ z
  pub truths : Linked q fs (truth_term true) (truth_term false) → ⊥
  -- the relations that are known have a point that gives equal values to the terms of sort Int that are joined
  pub point : Term → Rational
  pub meets : MeetsKnown q fs point
  pub equal : (s t : Term) → is_number q s ≡ true → is_number q t ≡ true → Linked q fs s t → worth_at point s ≡ worth_at point t
