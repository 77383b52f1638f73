-- Values that are computed from fewer given ones stay, and so do not clash where those of more do not.
use Rattle.std.proofs.Common.{◌≡◌, Bool, true, false, not, List, refl, sym, ap, ◌∙◌, Option, Some, None}
use mathlib.Core.Path.{ap₂}
use Rattle.spv_logic.specs.declared.operators.Head.{Head}
use Rattle.spv_logic.specs.declared.operators.Head.TheVariants.{Not, And, Or, Implies, Eq}
use Rattle.spv_logic.specs.Values.{bool_eq}
use Rattle.spv_logic.specs.Terms.{Term, Terms, term, no_terms, terms}
use Rattle.spv_logic.proofs.Equality.{bool_eq-true}
use Rattle.spv_tableau_rules.proofs.pivots.Algebra.{true_of}
use Rattle.spv_atoms.specs.Tables.{not_of, and_of, or_of, same_of, or_else, all_truths, first_of, second_of, equation_value, combined, computed, values}
use Rattle.spv_proof_rules.specs.Evaluation.{opposite, clashes}
use Rattle.std.proofs.lemmas.Bool.{false≢true}

-- a value that is there stays
pub record Stays (x y : Option Bool) : Type 0 where
  pub keeps : (b : Bool) → x ≡ Some b → y ≡ Some b

stays : (x : Option Bool) → Stays x x
stays x = record { keeps = λ b e. e }

none_stays : (y : Option Bool) → Stays None y
none_stays y = record { keeps = λ b e. cc }

not-stays : (x y : Option Bool) → Stays x y → Stays (not_of x) (not_of y)
not-stays None y m = none_stays (not_of y)
not-stays (Some a) y m = record { keeps = λ b e. ap not_of (m.keeps a refl) ∙ e }

and-false : (x : Option Bool) → and_of x (Some false) ≡ Some false
and-false None = refl
and-false (Some true) = refl
and-false (Some false) = refl

and-stays : (x y u v : Option Bool) → Stays x u → Stays y v → Stays (and_of x y) (and_of u v)
and-stays (Some false) y u v m n = record { keeps = λ b e. ap (λ o. and_of o v) (m.keeps false refl) ∙ e }
and-stays (Some true) y u v m n = record { keeps = λ b e. ap (λ o. and_of o v) (m.keeps true refl) ∙ n.keeps b e }
and-stays None (Some false) u v m n = record { keeps = λ b e. ap (and_of u) (n.keeps false refl) ∙ (and-false u ∙ e) }
and-stays None (Some true) u v m n = none_stays (and_of u v)
and-stays None None u v m n = none_stays (and_of u v)

or-stays : (x y u v : Option Bool) → Stays x u → Stays y v → Stays (or_of x y) (or_of u v)
or-stays x y u v m n = not-stays (and_of (not_of x) (not_of y)) (and_of (not_of u) (not_of v)) (and-stays (not_of x) (not_of y) (not_of u) (not_of v) (not-stays x u m) (not-stays y v n))

same-stays : (x y u v : Option Bool) → Stays x u → Stays y v → Stays (same_of x y) (same_of u v)
same-stays None y u v m n = none_stays (same_of u v)
same-stays (Some a) None u v m n = none_stays (same_of u v)
same-stays (Some a) (Some c) u v m n = record { keeps = λ b e. ap₂ same_of (m.keeps a refl) (n.keeps c refl) ∙ e }

equation-stays : (truths : Bool) (ts : Terms) (x y u v : Option Bool) → Stays x u → Stays y v → Stays (equation_value truths x y ts) (equation_value truths u v ts)
equation-stays true ts x y u v m n = same-stays x y u v m n
equation-stays false ts x y u v m n = stays (equation_value false x y ts)

combined-stays : (h : Head) (truths : Bool) (ts : Terms) (x y u v : Option Bool) → Stays x u → Stays y v → Stays (combined truths h x y ts) (combined truths h u v ts)
combined-stays Not truths ts x y u v m n = not-stays x u m
combined-stays And truths ts x y u v m n = and-stays x y u v m n
combined-stays Or truths ts x y u v m n = or-stays x y u v m n
combined-stays Implies truths ts x y u v m n = or-stays (not_of x) y (not_of u) v (not-stays x u m) n
combined-stays Eq truths ts x y u v m n = equation-stays truths ts x y u v m n
combined-stays h truths ts x y u v m n = stays (combined truths h x y ts)

pub agreed : (o : Option Bool) (b c : Bool) → o ≡ Some b → opposite o (Some c) ≡ false → Some c ≡ Some b
agreed o b c e h = ap Some (sym (bool_eq-true b c (true_of (bool_eq b c) (λ f. false≢true (sym h ∙ (ap (λ p. opposite p (Some c)) e ∙ ap not f))))))

-- a value that is given or computed
value-stays : (x y u v : Option Bool) → Stays x u → Stays y v → opposite v u ≡ false → Stays (or_else x y) (or_else u v)
value-stays (Some a) y u v m n h = record { keeps = λ b e. ap (λ o. or_else o v) (m.keeps a refl) ∙ e }
value-stays None y None v m n h = n
value-stays None y (Some c) v m n h = record { keeps = λ b e. agreed v b c (n.keeps b e) h }

module _ (is_truth : Term → Bool) (fewer more : Term → Option Bool) (keeps : (t : Term) (b : Bool) → fewer t ≡ Some b → more t ≡ Some b) (agree : (t : Term) → clashes is_truth more t ≡ false) where
  record ArgumentsStay (xs ys : List (Option Bool)) : Type 0 where
    first_stays : Stays (first_of xs) (first_of ys)
    second_stays : Stays (second_of xs) (second_of ys)

  mutual
    pub computed-stays : (t : Term) → Stays (computed is_truth fewer t) (computed is_truth more t)
    computed-stays (term h ts) =
        let a = values-stay ts in
        combined-stays h (all_truths is_truth ts) ts (first_of (values is_truth fewer ts)) (second_of (values is_truth fewer ts)) (first_of (values is_truth more ts)) (second_of (values is_truth more ts)) a.first_stays a.second_stays

    values-stay : (ts : Terms) → ArgumentsStay (values is_truth fewer ts) (values is_truth more ts)
    values-stay no_terms = record { first_stays = none_stays _; second_stays = none_stays _ }
    values-stay (terms t ts) = record {
      first_stays = value-stays (fewer t) (computed is_truth fewer t) (more t) (computed is_truth more t) (record { keeps = keeps t }) (computed-stays t) (agree t);
      second_stays = (values-stay ts).first_stays;
    }

  opposite-less : (x y u v : Option Bool) → Stays x u → Stays y v → opposite u v ≡ false → opposite x y ≡ false
  opposite-less None y u v m n h = refl
  opposite-less (Some a) None u v m n h = refl
  opposite-less (Some a) (Some b) u v m n h = sym (ap₂ opposite (m.keeps a refl) (n.keeps b refl)) ∙ h

  pub no_clash : (t : Term) → clashes is_truth fewer t ≡ false
  no_clash t = opposite-less (computed is_truth fewer t) (fewer t) (computed is_truth more t) (more t) (computed-stays t) (record { keeps = keeps t }) (agree t)
