-- What terms are worth in a table, where no operation is too wide, they are worth by exact numbers; so what is true in each table is not unproved.
use Rattle.std.proofs.Common.{◌≡◌, Bool, true, false, not, List, [], ◌∷◌, ◌++◌, Option, Ok, Err, is_some, ℤ, refl, sym, ap, ◌∙◌, if◌then◌else◌}
use Rattle.std.proofs.lemmas.Bool.{false≢true}
use Rattle.spv_whole.specs.Fraction.{Fraction, order}
use Rattle.spv_frac.specs.Range.{op_fits}
use Rattle.spv_frac.specs.declared.frac.Op.{Op}
use Rattle.spv_frac.specs.declared.frac.Op.TheVariants as op
use Rattle.std.specs.declared.cmp.Ordering.{Ordering}
use Rattle.spv_logic.specs.declared.operators.Head.{Head}
use Rattle.spv_logic.specs.declared.operators.Head.TheVariants.{Num, Add, Sub, Mul, Lt, Le, Not, And, Or, Implies, True, False}
use Rattle.spv_logic.specs.Terms.{Term, Terms, term, no_terms, terms, term_eq}
use Rattle.spv_logic.specs.Formulas as formulas_by
use Rattle.spv_logic.proofs.Equality.{term_eq-refl}
use Rattle.spv_atoms.specs.Forms.{constant_values}
use Rattle.spv_atoms.proofs.Members.{has, has-left, has-right, or_left}
use Rattle.spv_table.specs.Values.{Outcome, too_wide, exact, operated, is_less, is_at_most, is_true, truth_value, compared, of_pair, has_meaning_over, both, negation, negation_or, pair_or, value_over, value, values, holding, holds, listed_in}
use Rattle.spv_table.specs.Tables.{IsTable}
use Rattle.spv_proof_rules.specs.Effects.{Question}
use Rattle.spv_models.specs.leaf_models.Subterms.{is_among}
use Rattle.spv_verdicts.specs.Schemas.{further_facts}
use Rattle.spv_verdicts.specs.Exact.{exact_pair, exact_negation, exact_pair_or, exact_over, exact_value, exact_values, is_exactly_true}
use Rattle.spv_rounds.specs.Claims.{claim, formulas}
use Rattle.spv_rounds.specs.Laws.{IsTrueInEachTable, TrueIsNotUnproved, TrueIsNotUnprovedUnder}

-- what comes, comes of the same
abbrev Agrees : Outcome → Fraction → Type 0
Agrees o x = (y : Fraction) → o ≡ Ok y → x ≡ y

abbrev AllAgree : List Outcome → List Fraction → Type 0
AllAgree [] [] = Unit {0}
AllAgree (o ∷ os) (x ∷ xs) = Agrees o x × AllAgree os xs
AllAgree _ _ = ⊥

comes : (x : Fraction) → Agrees (Ok x) x
comes x y e = cc

operated-agrees : (o : Op) (x y : Fraction) → Agrees (operated o x y) (exact o x y)
operated-agrees o x y = by (op_fits o x y)
  where
    by : (b : Bool) → Agrees (if b then Ok (exact o x y) else too_wide o x y) (exact o x y)
    by true z e = cc
    by false z e = cc

compared-agrees : (test : Ordering → Bool) (x y : Fraction) → Agrees (compared test x y) (truth_value (test (order x y)))
compared-agrees test x y = by (op_fits op.Cmp x y)
  where
    by : (b : Bool) → Agrees (if b then Ok (truth_value (test (order x y))) else too_wide op.Cmp x y) (truth_value (test (order x y)))
    by true z e = cc
    by false z e = cc

pair-agrees : (h : Head) (x y : Fraction) → Agrees (of_pair h x y) (exact_pair h x y)
pair-agrees Add x y = operated-agrees op.Add x y
pair-agrees Sub x y = operated-agrees op.Sub x y
pair-agrees Mul x y = operated-agrees op.Mul x y
pair-agrees Lt x y = compared-agrees is_less x y
pair-agrees Le x y = compared-agrees is_at_most x y
pair-agrees And x y = comes (exact_pair And x y)
pair-agrees Or x y = comes (exact_pair Or x y)
pair-agrees Implies x y = comes (exact_pair Implies x y)
pair-agrees h x y = comes (exact_pair h x y)

both-agrees : (h : Head) (a b : Outcome) (x y : Fraction) → Agrees a x → Agrees b y → Agrees (both (of_pair h) a b) (exact_pair h x y)
both-agrees h (Err w) b x y f g z e = cc
both-agrees h (Ok u) (Err w) x y f g z e = cc
both-agrees h (Ok u) (Ok v) x y f g z e = ap (λ k. exact_pair h k y) (f u refl) ∙ (ap (λ k. exact_pair h u k) (g v refl) ∙ pair-agrees h u v z e)

meant-agrees : (h : Head) (b : Bool) (o p : Outcome) (x y own : Fraction) → Agrees o x → Agrees p y
    → Agrees (if b then both (of_pair h) o p else Ok own) (if b then exact_pair h x y else own)
meant-agrees h true o p x y own f g = both-agrees h o p x y f g
meant-agrees h false o p x y own f g = comes own

pair-or-agrees : (h : Head) (cs : List (Option ℤ)) (os : List Outcome) (xs : List Fraction) (own : Fraction) → AllAgree os xs → Agrees (pair_or h cs os own) (exact_pair_or h cs xs own)
pair-or-agrees h (c ∷ d ∷ []) (o ∷ p ∷ []) (x ∷ y ∷ []) own all = meant-agrees h (has_meaning_over h (is_some c) (is_some d)) o p x y own all.0 all.1.0
pair-or-agrees h cs os xs own all = otherwise cs os xs all
  where
    otherwise : (cs : List (Option ℤ)) (os : List Outcome) (xs : List Fraction) → AllAgree os xs → Agrees (pair_or h cs os own) (exact_pair_or h cs xs own)
    otherwise [] os xs all = comes own
    otherwise (c ∷ []) os xs all = comes own
    otherwise (c ∷ d ∷ e ∷ cs) os xs all = comes own
    otherwise (c ∷ d ∷ []) [] [] all = comes own
    otherwise (c ∷ d ∷ []) [] (x ∷ xs) all = absurd all
    otherwise (c ∷ d ∷ []) (o ∷ os) [] all = absurd all
    otherwise (c ∷ d ∷ []) (o ∷ []) (x ∷ []) all = comes own
    otherwise (c ∷ d ∷ []) (o ∷ []) (x ∷ y ∷ xs) all = absurd all.1
    otherwise (c ∷ d ∷ []) (o ∷ p ∷ os) (x ∷ []) all = absurd all.1
    otherwise (c ∷ d ∷ []) (o ∷ p ∷ []) (x ∷ y ∷ []) all = meant-agrees h (has_meaning_over h (is_some c) (is_some d)) o p x y own all.0 all.1.0
    otherwise (c ∷ d ∷ []) (o ∷ p ∷ []) (x ∷ y ∷ z ∷ xs) all = absurd all.1.1
    otherwise (c ∷ d ∷ []) (o ∷ p ∷ r ∷ os) (x ∷ y ∷ []) all = absurd all.1.1
    otherwise (c ∷ d ∷ []) (o ∷ p ∷ r ∷ os) (x ∷ y ∷ z ∷ xs) all = comes own

negated-agrees : (o : Outcome) (x : Fraction) → Agrees o x → Agrees (negation o) (truth_value (not (is_true x)))
negated-agrees (Err w) x f z e = cc
negated-agrees (Ok u) x f z e = ap (λ k. truth_value (not (is_true k))) (f u refl) ∙ comes (truth_value (not (is_true u))) z e

negation-agrees : (os : List Outcome) (xs : List Fraction) (own : Fraction) → AllAgree os xs → Agrees (negation_or os own) (exact_negation xs own)
negation-agrees [] [] own all = comes own
negation-agrees [] (x ∷ xs) own all = absurd all
negation-agrees (o ∷ os) [] own all = absurd all
negation-agrees (o ∷ []) (x ∷ []) own all = negated-agrees o x all.0
negation-agrees (o ∷ []) (x ∷ y ∷ xs) own all = absurd all.1
negation-agrees (o ∷ p ∷ os) (x ∷ []) own all = absurd all.1
negation-agrees (o ∷ p ∷ os) (x ∷ y ∷ xs) own all = comes own

over-agrees : (h : Head) (cs : List (Option ℤ)) (os : List Outcome) (xs : List Fraction) (own : Fraction) → AllAgree os xs → Agrees (value_over h cs os own) (exact_over h cs xs own)
over-agrees (Num n) cs os xs own all = comes (exact_over (Num n) cs xs own)
over-agrees True cs os xs own all = comes (exact_over True cs xs own)
over-agrees False cs os xs own all = comes (exact_over False cs xs own)
over-agrees Not cs os xs own all = negation-agrees os xs own all
over-agrees h cs os xs own all = pair-or-agrees h cs os xs own all

mutual
  value-agrees : (listed : Term → Fraction) (t : Term) → Agrees (value listed t) (exact_value listed t)
  value-agrees listed (term h ts) = over-agrees h (constant_values ts) (values listed ts) (exact_values listed ts) (listed (term h ts)) (values-agree listed ts)

  values-agree : (listed : Term → Fraction) (ts : Terms) → AllAgree (values listed ts) (exact_values listed ts)
  values-agree listed no_terms = tt
  values-agree listed (terms t ts) = (value-agrees listed t, values-agree listed ts)

-- so what holds is true, and what does not is not
pub exactly : (listed : Term → Fraction) (f : Term) (b : Bool) → holds listed f ≡ Ok b → is_exactly_true listed f ≡ b
exactly listed f b = by (value listed f) (value-agrees listed f)
  where
    by : (o : Outcome) → Agrees o (exact_value listed f) → holding o ≡ Ok b → is_exactly_true listed f ≡ b
    by (Err w) agrees e = cc
    by (Ok x) agrees e = ap is_true (agrees x refl) ∙ true_same e
      where
        true_same : holding (Ok x) ≡ Ok b → is_true x ≡ b
        true_same k = cc

-- ---- what is true in each table

same-truth : (b : Bool) → is_true (truth_value b) ≡ b
same-truth true = refl
same-truth false = refl

-- where a condition is refuted, it is not true in that table
refuted-somewhere : (q : Question) (fs : List Term) (table : List (Term × Fraction)) → IsTable q.shapes q.decls table
    → ((f : Term) → is_among (q.sequent.given ++ formulas_by.negation q.sequent.goal ∷ fs) f ≡ true → holds (listed_in table) f ≡ Ok true) → IsTrueInEachTable q → ⊥
refuted-somewhere q fs table is_table all each =
    let listed : Term → Fraction = listed_in table in
    let goal : Term = q.sequent.goal in
    let denied : Term = formulas_by.negation goal in
    let goal_true : is_exactly_true listed goal ≡ true =
    each table is_table (λ f m. exactly listed f true (all f (has-left q.sequent.given (denied ∷ fs) f m))) in
    let first : is_among (denied ∷ fs) denied ≡ true = or_left (term_eq denied denied) (has fs denied) (term_eq-refl denied) in
    let denied_true : is_exactly_true listed denied ≡ true = exactly listed denied true (all denied (has-right q.sequent.given (denied ∷ fs) denied first)) in
    false≢true (sym (ap not goal_true) ∙ (sym (same-truth (not (is_exactly_true listed goal))) ∙ denied_true))

pub not-unproved : TrueIsNotUnproved
not-unproved a q limits branch table instances each u =
    refuted-somewhere q (further_facts q) table u.survives.falsifies.is_table u.survives.falsifies.given_true each

pub not-unproved-under : TrueIsNotUnprovedUnder
not-unproved-under a q limits branch table instances each u =
    let fs : List Term = formulas q instances in
    let own : List Term = q.sequent.given ++ formulas_by.negation q.sequent.goal ∷ fs in
    refuted-somewhere q fs table u.falsifies.is_table
    (λ f m. u.falsifies.given_true f (has-left own (formulas_by.negation (claim q fs).sequent.goal ∷ further_facts (claim q fs)) f m)) each
