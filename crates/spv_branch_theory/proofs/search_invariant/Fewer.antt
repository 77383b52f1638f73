-- What shows a path live shows one live whose facts are among its facts.
use Rattle.std.proofs.Common.{◌≡◌, Bool, true, List}
use Rattle.spv_frac.specs.rational.Rational.{Rational}
use Rattle.spv_logic.specs.Terms.{Term}
use Rattle.spv_logic.specs.Formulas.{negation, equation, below}
use Rattle.spv_proof_rules.specs.Effects.{Question}
use Rattle.spv_models.specs.leaf_models.Subterms.{is_among}
use Rattle.spv_models.specs.split_trees.Paths.{Known, given, affirmed, denied, lower, upper, Gives, member, negated, below_it, above_it, MeetsKnown, Told, true_one, false_one, sides}
use Rattle.spv_models.specs.split_trees.Shown.{HasOrder, ShowsLive}

module _ (q : Question) (fs gs : List Term) (fewer : (t : Term) → is_among gs t ≡ true → is_among fs t ≡ true) where
  known : (t : Term) → Known q gs t → Known q fs t
  known _ (given t m) = given t (fewer t m)
  known _ (affirmed t cited m all k) = affirmed t cited m (λ u n. known u (all u n)) k
  known _ (denied t cited m all k) = denied t cited m (λ u n. known u (all u n)) k
  known _ (lower s t m k) = lower s t m (known (below s t) k)
  known _ (upper s t m k) = upper s t m (known (below t s) k)

  gives : (t : Term) (b : Bool) → Gives q gs t b → Gives q fs t b
  gives _ _ (member t k) = member t (known t k)
  gives _ _ (negated t k) = negated t (known (negation t) k)
  gives _ _ (below_it s t k) = below_it s t (known (below s t) k)
  gives _ _ (above_it s t k) = above_it s t (known (below t s) k)

  told : (s t : Term) → Told q gs s t → Told q fs s t
  told _ _ (true_one t m k) = true_one t m (known t k)
  told _ _ (false_one t m k) = false_one t m (known (negation t) k)
  told _ _ (sides s t m k) = sides s t m (known (equation s t) k)

  meets : (point : Term → Rational) → MeetsKnown q fs point → MeetsKnown q gs point
  meets point m = record { met = λ t k. m.met t (known t k) }

  order : (same : Term → Term → Bool) (s t : Term) → HasOrder q fs same s t → HasOrder q gs same s t
  order same s t o = record { point = o.point; meets = meets o.point o.meets; equal = o.equal; order = o.order }

  shows : (same : Term → Term → Bool) → ShowsLive q fs same → ShowsLive q gs same
  shows same l = record {
    sameness = l.sameness;
    told = λ s t k. l.told s t (told s t k);
    orders = λ s t m i j e. order same s t (l.orders s t m i j e);
    value = l.value;
    covers = λ t b k. l.covers t b (gives t b k);
    agree = l.agree;
    apart = λ s t m k. l.apart s t m (known (negation (equation s t)) k);
    numerals = l.numerals;
    truths = l.truths;
    point = l.point;
    meets = meets l.point l.meets;
    equal = l.equal;
  }

pub fewer_are_live : (q : Question) (fs gs : List Term) (same : Term → Term → Bool) → ShowsLive q fs same → ((t : Term) → is_among gs t ≡ true → is_among fs t ≡ true) → ShowsLive q gs same
fewer_are_live q fs gs same l fewer = shows q fs gs fewer same l
