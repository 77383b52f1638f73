-- Applications of one head to arguments of equal values are the same.
use Rattle.std.proofs.Common.{◌≡◌, Bool, true, false, ◌||◌, not, List, [], ◌∷◌, pos, refl, sym, ap, ◌∙◌, subst, Option, Some, None, Ok, Err}
use mathlib.Core.Path.{ap₂}
use Rattle.std.specs.Prelude.{is_some}
use Rattle.std.specs.List.{flat_map}
use Rattle.std.specs.Cmp.Derive.{both_true}
use Rattle.std.proofs.lemmas.Bool.{false≢true}
use Rattle.std.proofs.lemmas.Option.{same_Some}
use Rattle.spv_whole.specs.Fraction.{Fraction, whole}
use Rattle.spv_frac.specs.rational.Rational.{Rational}
use Rattle.spv_frac.proofs.rational.Field.{same}
use Rattle.spv_logic.specs.declared.types.Sort.{Sort}
use Rattle.spv_logic.specs.declared.types.Sort.TheVariants as sort
use Rattle.spv_logic.specs.declared.types.Shape.{Shape}
use Rattle.spv_logic.specs.declared.types.Decl.{Decl}
use Rattle.spv_logic.specs.declared.operators.Head.{Head}
use Rattle.spv_logic.specs.Terms.{Term, Terms, term, no_terms, terms, term_eq}
use Rattle.spv_logic.specs.Formulas.{equation}
use Rattle.spv_logic.specs.Sorts.{term_sort, term_sorts, sort_before, result_sort, with_sorts}
use Rattle.spv_logic.proofs.Equality.{term_eq-true, term_eq-refl}
use Rattle.spv_atoms.specs.Atoms.{has_sort, is_truth, is_number, is_truth_value, is_atom, connects, is_fixed, only_if}
use Rattle.spv_atoms.specs.Forms.{constant_values}
use Rattle.spv_atoms.specs.Order.{passing}
use Rattle.spv_atoms.specs.Tables.{all_truths, or_else, computed}
use Rattle.spv_atoms.proofs.Members.{has, or_left, or_right, has-right, with_terms-has}
use Rattle.spv_table.specs.Values.{Outcome, truth_value, is_true, value, values}
use Rattle.spv_table.specs.Tables.{HaveEqualValues, IsAlike}
use Rattle.spv_models.specs.leaf_models.Subterms.{means, is_listed, is_plain, subterms, list_of, arguments, truth_arguments, is_uncomputed, uncomputed}
use Rattle.spv_models.specs.leaf_models.Atoms.{argument_equations, atoms, questions, all_equations, is_open, pair_equations}
use Rattle.spv_models.specs.leaf_models.Leaves.{Leaf, IsLeaf, truth_at, truth_term, worth_at, all_same}
use Rattle.spv_models.specs.leaf_models.Tables.{class_of, truth_number, number_at}
use Rattle.spv_models.specs.leaf_models.Laws.{listed_at}
use Rattle.spv_models.proofs.leaf_models.Classes.{class-one}
use Rattle.spv_models.proofs.leaf_models.TermKinds.{Kind, Own, Numeral, Total, Remains, Multiple, IsLess, IsAtMost, IsEqual, Negated, Both, Either, Implied, Truthful, Untruthful, kind}
use Rattle.spv_models.proofs.leaf_models.Truths.{settled}
use Rattle.spv_models.proofs.leaf_models.Closed.{ArgumentsIn, arguments_sorted, others_sorted}
use Rattle.spv_models.proofs.leaf_models.Owns.{own-plain, own-open}
use Rattle.spv_models.proofs.leaf_models.Lookups.{has-only_if, has-passing, has-flat_map}
use Rattle.spv_models.proofs.leaf_models.Outcomes.{true-value, same_ok}
use Rattle.spv_models.proofs.leaf_models.Pairs.{AreAmong, ArePaired, AreOne, IsEarlier, IsLater, paired, comparable, arguments_among}
use Rattle.spv_models.proofs.leaf_models.Values.{some-is, closed, the_sort, right, class-same, numbers-apart, atom-asked, atom-there, plain-atom, number-at, truth-at, class-at, own-point}

-- ---- values that are equal

pub record AreEqual (a b : Outcome) (vs ws : List Outcome) : Type 0 where
  pub left : Fraction
  pub right : Fraction
  pub left_is : a ≡ Ok left
  pub right_is : b ≡ Ok right
  pub equal : left ≡ right
  pub others : HaveEqualValues vs ws

pub first_equal : (a b : Outcome) (vs ws : List Outcome) → HaveEqualValues (a ∷ vs) (b ∷ ws) → AreEqual a b vs ws
first_equal (Ok x) (Ok y) vs ws h = record { left = x; right = y; left_is = refl; right_is = refl; equal = h.0; others = h.1 }
first_equal (Ok x) (Err w) vs ws h = absurd h
first_equal (Err w) b vs ws h = absurd h

exchanged : (vs ws : List Outcome) → HaveEqualValues vs ws → HaveEqualValues ws vs
exchanged [] [] h = tt
exchanged [] (b ∷ ws) h = absurd h
exchanged (Ok x ∷ vs) [] h = absurd h
exchanged (Err w ∷ vs) [] h = absurd h
exchanged (Ok x ∷ vs) (Ok y ∷ ws) h = (sym h.0, exchanged vs ws h.1)
exchanged (Ok x ∷ vs) (Err w ∷ ws) h = absurd h
exchanged (Err w ∷ vs) (b ∷ ws) h = absurd h

-- ---- sorts that are equal

record AreSorted (s t : Option Sort) (ss ts : Option (List Sort)) : Type 0 where
  first : s ≡ t
  others : ss ≡ ts

sorts_parts : (s t : Option Sort) (ss ts : Option (List Sort)) → is_some (sort_before s ss) ≡ true → sort_before s ss ≡ sort_before t ts → AreSorted s t ss ts
sorts_parts None t ss ts h e = absurd (false≢true h)
sorts_parts (Some x) t None ts h e = absurd (false≢true h)
sorts_parts (Some x) None (Some xs) ts h e = absurd (cc)
sorts_parts (Some x) (Some y) (Some xs) None h e = absurd (cc)
sorts_parts (Some x) (Some y) (Some xs) (Some ys) h e = record { first = cc; others = cc }

module _ (shapes : List Shape) (decls : List Decl) (fs : List Term) (leaf : Leaf) (ok : IsLeaf shapes decls fs leaf) where
  abbrev parts : List Term
  parts = subterms fs

  abbrev number : Term → Bool
  number = is_number shapes decls

  abbrev truth : Term → Bool
  truth = is_truth shapes decls

  abbrev worth : Term → Rational
  worth = worth_at leaf.point

  abbrev outcome : Term → Outcome
  outcome t = value (listed_at shapes decls fs leaf) t

  abbrev outcomes : Terms → List Outcome
  outcomes ts = values (listed_at shapes decls fs leaf) ts

  -- ---- truth values that are told, and TRUE and FALSE

  asked_truth : (t : Term) (b : Bool) → has (questions shapes decls fs) t ≡ true → truth_at truth leaf.given t ≡ Some b → leaf.same t (truth_term b) ≡ true
  asked_truth t b asked is =
      let given = some-is (leaf.given t) (ok.full t asked) in
      ok.told.truths t b asked (given.is ∙ (sym (ap (λ o. or_else o (computed truth leaf.given t)) given.is) ∙ is))

  -- TRUE or FALSE
  data IsFixed : Term → Type 0 where
    fixed_at : (c : Bool) → IsFixed (truth_term c)

  fixed : (t : Term) (s : Sort) → Kind shapes decls t s → is_truth_value t ≡ true → IsFixed t
  fixed t s (Own h ts r e) k = absurd (false≢true (sym (own-open h (constant_values ts) e) ∙ k))
  fixed t s Truthful k = fixed_at true
  fixed t s Untruthful k = fixed_at false
  fixed t s (Numeral z) k = absurd (false≢true k)
  fixed t s (Total a b ha hb) k = absurd (false≢true k)
  fixed t s (Remains a b ha hb) k = absurd (false≢true k)
  fixed t s (Multiple a b ha hb e) k = absurd (false≢true k)
  fixed t s (IsLess a b ha hb) k = absurd (false≢true k)
  fixed t s (IsAtMost a b ha hb) k = absurd (false≢true k)
  fixed t s (IsEqual a b r ha hb) k = absurd (false≢true k)
  fixed t s (Negated a ha) k = absurd (false≢true k)
  fixed t s (Both a b ha hb) k = absurd (false≢true k)
  fixed t s (Either a b ha hb) k = absurd (false≢true k)
  fixed t s (Implied a b ha hb) k = absurd (false≢true k)

  fixed_truth : (c b : Bool) → has parts (truth_term c) ≡ true → truth_at truth leaf.given (truth_term c) ≡ Some b → leaf.same (truth_term c) (truth_term b) ≡ true
  fixed_truth true b m is = subst (λ (d : Bool). leaf.same (truth_term true) (truth_term d) ≡ true) (same_Some true b (sym (settled (leaf.given (truth_term true)) true (ok.agrees (truth_term true) m)) ∙ is)) (ok.sameness.itself (truth_term true))
  fixed_truth false b m is = subst (λ (d : Bool). leaf.same (truth_term false) (truth_term d) ≡ true) (same_Some false b (sym (settled (leaf.given (truth_term false)) false (ok.agrees (truth_term false) m)) ∙ is)) (ok.sameness.itself (truth_term false))

  of_fixed : (t : Term) (b : Bool) → IsFixed t → has parts t ≡ true → truth_at truth leaf.given t ≡ Some b → leaf.same t (truth_term b) ≡ true
  of_fixed t b (fixed_at c) m is = fixed_truth c b m is

  -- an argument is the same as its truth
  joined_truth : (t : Term) (b : Bool) → (is_open t ≡ true → has (questions shapes decls fs) t ≡ true) → has parts t ≡ true → truth_at truth leaf.given t ≡ Some b → leaf.same t (truth_term b) ≡ true
  joined_truth t b asked m is = by_case (is_truth_value t) refl
    where
      by_case : (c : Bool) → is_truth_value t ≡ c → leaf.same t (truth_term b) ≡ true
      by_case true e =
          let s = the_sort shapes decls fs leaf ok t m in
          of_fixed t b (fixed t s.item (kind shapes decls t s.item s.is) e) m is
      by_case false e = asked_truth t b (asked (ap not e)) is

  -- ---- one place

  -- what is known of two arguments at one place
  record IsPlace (s u : Term) : Type 0 where
    left_in : has parts s ≡ true
    right_in : has parts u ≡ true
    sorts : term_sort shapes decls s ≡ term_sort shapes decls u
    there : not (term_eq s u || truth s) ≡ true → has (atoms shapes decls fs) (equation s u) ≡ true
    left_asked : truth s ≡ true → is_open s ≡ true → has (questions shapes decls fs) s ≡ true
    right_asked : truth u ≡ true → is_open u ≡ true → has (questions shapes decls fs) u ≡ true

  same_truth : (s u : Term) (x y : Fraction) → IsPlace s u → outcome s ≡ Ok x → outcome u ≡ Ok y → x ≡ y → truth s ≡ true → truth u ≡ true → leaf.same s u ≡ true
  same_truth s u x y p ex ey e hs hu =
      let rs = (right shapes decls fs leaf ok s p.left_in).truths hs in
      let ru = (right shapes decls fs leaf ok u p.right_in).truths hu in
      let values_same : truth_value rs.holds ≡ truth_value ru.holds = sym (rs.value_is.is x ex) ∙ (e ∙ ru.value_is.is y ey) in
      let truths_same : rs.holds ≡ ru.holds = sym (true-value rs.holds) ∙ (ap is_true values_same ∙ true-value ru.holds) in
      ok.sameness.through s (truth_term rs.holds) u (joined_truth s rs.holds (p.left_asked hs) p.left_in rs.is)
      (ok.sameness.turned u (truth_term rs.holds) (subst (λ (b : Bool). leaf.same u (truth_term b) ≡ true) (sym truths_same) (joined_truth u ru.holds (p.right_asked hu) p.right_in ru.is)))

  same_number : (s u : Term) (x y : Fraction) → IsPlace s u → outcome s ≡ Ok x → outcome u ≡ Ok y → x ≡ y → number s ≡ true → number u ≡ true → has (atoms shapes decls fs) (equation s u) ≡ true → leaf.same s u ≡ true
  same_number s u x y p ex ey e hs hu there =
      let given = some-is (leaf.given (equation s u)) (ok.full (equation s u) (atom-asked shapes decls fs leaf ok (equation s u) there)) in
      by_truth given.item given.is
    where
      worths : worth s ≡ worth u
      worths =
          let rs = (right shapes decls fs leaf ok s p.left_in).numbers hs in
          let ru = (right shapes decls fs leaf ok u p.right_in).numbers hu in
          same (worth s) (worth u) (sym (rs.is x ex) ∙ (e ∙ ru.is y ey))

      by_truth : (b : Bool) → leaf.given (equation s u) ≡ Some b → leaf.same s u ≡ true
      by_truth true is = ok.told.sides s u true there is
      by_truth false is = absurd (numbers-apart shapes decls fs leaf ok s u hs hu there is worths)

  same_other : (s u : Term) (x y : Fraction) → IsPlace s u → outcome s ≡ Ok x → outcome u ≡ Ok y → x ≡ y → number s ≡ false → number u ≡ false → truth s ≡ false → truth u ≡ false → leaf.same s u ≡ true
  same_other s u x y p ex ey e hs hu ks ku =
      class-same shapes decls fs leaf ok s u p.left_in
      (same_ok (whole (pos (class_of leaf.same parts s))) x (outcome s) ((right shapes decls fs leaf ok s p.left_in).others hs ks) ex
      ∙ (e ∙ same_ok y (whole (pos (class_of leaf.same parts u))) (outcome u) ey ((right shapes decls fs leaf ok u p.right_in).others hu ku)))

  same_place : (s u : Term) (x y : Fraction) → IsPlace s u → outcome s ≡ Ok x → outcome u ≡ Ok y → x ≡ y → leaf.same s u ≡ true
  same_place s u x y p ex ey e = by_same (term_eq s u) refl
    where
      as_u : (r : Sort) (c : Bool) → has_sort r (term_sort shapes decls s) ≡ c → has_sort r (term_sort shapes decls u) ≡ c
      as_u r c h = ap (has_sort r) (sym p.sorts) ∙ h

      by_number : term_eq s u ≡ false → truth s ≡ false → (c : Bool) → number s ≡ c → leaf.same s u ≡ true
      by_number f g true h = same_number s u x y p ex ey e h (as_u sort.Int true h) (p.there (ap₂ (λ a b. not (a || b)) f g))
      by_number f g false h = same_other s u x y p ex ey e h (as_u sort.Int false h) g (as_u sort.Bool false g)

      by_truth : term_eq s u ≡ false → (c : Bool) → truth s ≡ c → leaf.same s u ≡ true
      by_truth f true g = same_truth s u x y p ex ey e g (as_u sort.Bool true g)
      by_truth f false g = by_number f g (number s) refl

      by_same : (c : Bool) → term_eq s u ≡ c → leaf.same s u ≡ true
      by_same true f = ap (leaf.same s) (sym (term_eq-true s u f)) ∙ ok.sameness.itself s
      by_same false f = by_truth f (truth s) refl

  -- ---- all places

  -- the arguments of sort Bool are asked
  record AreAsked (ts : Terms) : Type 0 where
    each : (t : Term) → has (list_of ts) t ≡ true → truth t ≡ true → is_open t ≡ true → has (questions shapes decls fs) t ≡ true

  first_asked : (t : Term) (ts : Terms) → AreAsked (terms t ts) → truth t ≡ true → is_open t ≡ true → has (questions shapes decls fs) t ≡ true
  first_asked t ts a = a.each t (or_left (term_eq t t) (has (list_of ts) t) (term_eq-refl t))

  others_asked : (t : Term) (ts : Terms) → AreAsked (terms t ts) → AreAsked ts
  others_asked t ts a = record { each = λ u k. a.each u (or_right (term_eq u t) (has (list_of ts) u) k) }

  same_arguments : (ss us : Terms) → ArgumentsIn parts ss → ArgumentsIn parts us → is_some (term_sorts shapes decls ss) ≡ true → term_sorts shapes decls ss ≡ term_sorts shapes decls us
      → HaveEqualValues (outcomes ss) (outcomes us) → AreAmong (atoms shapes decls fs) (argument_equations truth ss us) → AreAsked ss → AreAsked us → all_same leaf.same ss us ≡ true
  same_arguments no_terms no_terms ms mu sorted sorts h among ak al = refl
  same_arguments no_terms (terms u us) ms mu sorted sorts h among ak al = absurd h
  same_arguments (terms s ss) no_terms ms mu sorted sorts h among ak al = absurd (no_values (outcome s) (outcomes ss) h)
    where
      no_values : (o : Outcome) (vs : List Outcome) → HaveEqualValues (o ∷ vs) [] → ⊥
      no_values (Ok x) vs k = k
      no_values (Err w) vs k = k
  same_arguments (terms s ss) (terms u us) ms mu sorted sorts h among ak al =
      let e = first_equal (outcome s) (outcome u) (outcomes ss) (outcomes us) h in
      let q = sorts_parts (term_sort shapes decls s) (term_sort shapes decls u) (term_sorts shapes decls ss) (term_sorts shapes decls us) sorted sorts in
      let wanted : Bool = not (term_eq s u || truth s) in
      both_true
      (same_place s u e.left e.right
      (record {
        left_in = ms.0;
        right_in = mu.0;
        sorts = q.first;
        there = λ k. among.each (equation s u) (has-only_if wanted (equation s u) (equation s u) (argument_equations truth ss us) k refl);
        left_asked = first_asked s ss ak;
        right_asked = first_asked u us al;
      }) e.left_is e.right_is e.equal)
      (same_arguments ss us ms.1 mu.1 (others_sorted (term_sort shapes decls s) (term_sorts shapes decls ss) sorted) q.others e.others
      (record { each = λ x k. among.each x (has-right (only_if wanted (equation s u)) (argument_equations truth ss us) x k) }) (others_asked s ss ak) (others_asked u us al))

  -- ---- two applications

  arguments_asked : (h : Head) (ts : Terms) → has parts (term h ts) ≡ true → connects (all_truths truth ts) h ≡ false → AreAsked ts
  arguments_asked h ts m plain = record {
    each = λ t k is opened. with_terms-has (atoms shapes decls fs) (passing is_open (truth_arguments truth parts)) t
        (has-passing is_open (truth_arguments truth parts) t
        (has-passing truth (flat_map arguments (passing (is_plain truth) parts)) t
        (has-flat_map arguments (passing (is_plain truth) parts) (term h ts) t (has-passing (is_plain truth) parts (term h ts) m (ap not plain)) k) is) opened);
  }

  atoms_among : (ts : List Term) → AreAmong (all_equations shapes decls parts) ts → AreAmong (atoms shapes decls fs) ts
  atoms_among ts a = record { each = λ e k. with_terms-has (passing (is_atom truth) parts) (all_equations shapes decls parts) e (a.each e k) }

  arguments_are_sorted : (h : Head) (ts : Terms) → has parts (term h ts) ≡ true → is_some (term_sorts shapes decls ts) ≡ true
  arguments_are_sorted h ts m = arguments_sorted (term_sorts shapes decls ts) (result_sort shapes decls h) ((closed shapes decls fs leaf ok).sorted (term h ts) m)

  acted_on : (h : Head) (ts : Terms) → has parts (term h ts) ≡ true → connects (all_truths truth ts) h ≡ false → is_fixed h ≡ false → has (uncomputed truth parts) (term h ts) ≡ true
  acted_on h ts m plain opened = has-passing (is_uncomputed truth) parts (term h ts) m (both_true (ap not plain) (ap not opened))

  congruent_one : (h : Head) (ss us : Terms) → has parts (term h ss) ≡ true → has parts (term h us) ≡ true → connects (all_truths truth ss) h ≡ false → connects (all_truths truth us) h ≡ false → is_fixed h ≡ false
      → (is_listed (term h ss) || is_listed (term h us)) ≡ true → term_sorts shapes decls ss ≡ term_sorts shapes decls us → HaveEqualValues (outcomes ss) (outcomes us)
      → AreAmong (all_equations shapes decls parts) (pair_equations shapes decls (term h ss) (term h us)) → leaf.same (term h ss) (term h us) ≡ true
  congruent_one h ss us ms mu ps pu opened listed sorts equal among =
      ok.sameness.congruent h ss us (acted_on h ss ms ps opened) (acted_on h us mu pu opened)
      (same_arguments ss us ((closed shapes decls fs leaf ok).inside h ss ms) ((closed shapes decls fs leaf ok).inside h us mu) (arguments_are_sorted h ss ms) sorts equal
      (atoms_among (argument_equations truth ss us)
      (arguments_among shapes decls (all_equations shapes decls parts) h ss us (comparable shapes decls h ss us (arguments_are_sorted h ss ms) sorts listed) among))
      (arguments_asked h ss ms ps) (arguments_asked h us mu pu))

  alike_one : (h : Head) (ss us : Terms) → has parts (term h ss) ≡ true → has parts (term h us) ≡ true → means h (constant_values ss) ≡ false → term_sorts shapes decls ss ≡ term_sorts shapes decls us
      → HaveEqualValues (outcomes ss) (outcomes us) → leaf.same (term h ss) (term h us) ≡ true
  alike_one h ss us ms mu own sorts equal = by_pair (paired shapes decls parts (term h ss) (term h us) ms mu)
    where
      plain : (b : Bool) → connects b h ≡ false
      plain b = own-plain h (constant_values ss) b own

      opened : is_fixed h ≡ false
      opened = own-open h (constant_values ss) own

      by_pair : ArePaired shapes decls (all_equations shapes decls parts) (term h ss) (term h us) → leaf.same (term h ss) (term h us) ≡ true
      by_pair (AreOne e) = ap (leaf.same (term h ss)) (sym e) ∙ ok.sameness.itself (term h ss)
      by_pair (IsEarlier among) = congruent_one h ss us ms mu (plain (all_truths truth ss)) (plain (all_truths truth us)) opened (or_left (is_listed (term h ss)) (is_listed (term h us)) (ap not own)) sorts equal among
      by_pair (IsLater among) =
          ok.sameness.turned (term h us) (term h ss)
          (congruent_one h us ss mu ms (plain (all_truths truth us)) (plain (all_truths truth ss)) opened (or_right (is_listed (term h us)) (is_listed (term h ss)) (ap not own)) (sym sorts)
          (exchanged (outcomes ss) (outcomes us) equal) among)

  not_not : (b : Bool) → not b ≡ true → b ≡ false
  not_not true h = sym h
  not_not false h = refl

  pub alike-same : (s t : Term) → has parts s ≡ true → has parts t ≡ true → is_listed s ≡ true → IsAlike shapes decls (listed_at shapes decls fs leaf) s t → leaf.same s t ≡ true
  alike-same (term h ss) (term k us) ms mt listed alike =
      let e : h ≡ k = alike.0 in
      ap (λ (g : Head). leaf.same (term h ss) (term g us)) (sym e)
      ∙ alike_one h ss us ms (ap (λ (g : Head). has parts (term g us)) e ∙ mt) (not_not (means h (constant_values ss)) listed) alike.1 alike.2

  -- ---- the numbers of listed terms that are the same

  abbrev table_number : Term → Fraction
  table_number t = number_at shapes decls parts leaf t

  -- a listed term of sort Bool is the same as its truth
  listed_truth : (h : Head) (ts : Terms) (b : Bool) → has parts (term h ts) ≡ true → means h (constant_values ts) ≡ false → truth (term h ts) ≡ true → truth_at truth leaf.given (term h ts) ≡ Some b → leaf.same (term h ts) (truth_term b) ≡ true
  listed_truth h ts b m own k is =
      asked_truth (term h ts) b
      (atom-asked shapes decls fs leaf ok (term h ts) (atom-there shapes decls fs leaf ok (term h ts) m
      (plain-atom shapes decls fs leaf ok h ts k (own-plain h (constant_values ts) (all_truths truth ts) own) (own-open h (constant_values ts) own)))) is

  -- TRUE and FALSE are not the same
  one_truth : (b c : Bool) → leaf.same (truth_term b) (truth_term c) ≡ true → b ≡ c
  one_truth true true h = refl
  one_truth false false h = refl
  one_truth true false h = absurd (false≢true (sym ok.told.apart ∙ h))
  one_truth false true h = absurd (false≢true (sym ok.told.apart ∙ ok.sameness.turned (truth_term false) (truth_term true) h))

  module _ (h : Head) (ss us : Terms) (ms : has parts (term h ss) ≡ true) (mu : has parts (term h us) ≡ true) (own_s : means h (constant_values ss) ≡ false) (own_u : means h (constant_values us) ≡ false)
      (sorts : term_sorts shapes decls ss ≡ term_sorts shapes decls us) (are_same : leaf.same (term h ss) (term h us) ≡ true) where
    as_u : (r : Sort) (c : Bool) → has_sort r (term_sort shapes decls (term h ss)) ≡ c → has_sort r (term_sort shapes decls (term h us)) ≡ c
    as_u r c e = ap (λ o. has_sort r (with_sorts o (result_sort shapes decls h))) (sym sorts) ∙ e

    numbers_one : number (term h ss) ≡ true → table_number (term h ss) ≡ table_number (term h us)
    numbers_one e =
        let f = as_u sort.Int true e in
        number-at shapes decls fs leaf ok (term h ss) e
        ∙ (ap (λ (x : Rational). x.fraction)
        (sym (own-point shapes decls fs leaf ok h ss own_s) ∙ (ok.point.same (term h ss) (term h us) ms mu e f are_same ∙ own-point shapes decls fs leaf ok h us own_u))
        ∙ sym (number-at shapes decls fs leaf ok (term h us) f))

    truths_one : truth (term h ss) ≡ true → table_number (term h ss) ≡ table_number (term h us)
    truths_one e =
        let f = as_u sort.Bool true e in
        let rs = (right shapes decls fs leaf ok (term h ss) ms).truths e in
        let ru = (right shapes decls fs leaf ok (term h us) mu).truths f in
        let one : rs.holds ≡ ru.holds =
        one_truth rs.holds ru.holds
        (ok.sameness.through (truth_term rs.holds) (term h ss) (truth_term ru.holds) (ok.sameness.turned (term h ss) (truth_term rs.holds) (listed_truth h ss rs.holds ms own_s e rs.is))
        (ok.sameness.through (term h ss) (term h us) (truth_term ru.holds) are_same (listed_truth h us ru.holds mu own_u f ru.is))) in
        truth-at shapes decls fs leaf ok (term h ss) e ∙ (ap truth_number (rs.is ∙ (ap Some one ∙ sym ru.is)) ∙ sym (truth-at shapes decls fs leaf ok (term h us) f))

    others_one : number (term h ss) ≡ false → truth (term h ss) ≡ false → table_number (term h ss) ≡ table_number (term h us)
    others_one e f =
        class-at shapes decls fs leaf ok (term h ss) e f
        ∙ (ap (λ n. whole (pos n)) (class-one leaf.same (uncomputed truth parts) ok.sameness parts (term h ss) (term h us) are_same) ∙ sym (class-at shapes decls fs leaf ok (term h us) (as_u sort.Int false e) (as_u sort.Bool false f)))

    one_number : table_number (term h ss) ≡ table_number (term h us)
    one_number = by_number (number (term h ss)) refl
      where
        by_truth : number (term h ss) ≡ false → (c : Bool) → truth (term h ss) ≡ c → table_number (term h ss) ≡ table_number (term h us)
        by_truth e true f = truths_one f
        by_truth e false f = others_one e f

        by_number : (c : Bool) → number (term h ss) ≡ c → table_number (term h ss) ≡ table_number (term h us)
        by_number true e = numbers_one e
        by_number false e = by_truth e (truth (term h ss)) refl

  pub alike-number : (s t : Term) → has parts s ≡ true → has parts t ≡ true → is_listed s ≡ true → is_listed t ≡ true → IsAlike shapes decls (listed_at shapes decls fs leaf) s t → table_number s ≡ table_number t
  alike-number (term h ss) (term k us) ms mt listed_s listed_t alike =
      of_head k alike.0 us mt listed_t alike.1 (alike-same (term h ss) (term k us) ms mt listed_s alike)
    where
      of_head : (g : Head) → h ≡ g → (ws : Terms) → has parts (term g ws) ≡ true → is_listed (term g ws) ≡ true → term_sorts shapes decls ss ≡ term_sorts shapes decls ws → leaf.same (term h ss) (term g ws) ≡ true
          → table_number (term h ss) ≡ table_number (term g ws)
      of_head g e ws mw listed_w sorts same_as =
          subst
          (λ (x : Head). has parts (term x ws) ≡ true → is_listed (term x ws) ≡ true → leaf.same (term h ss) (term x ws) ≡ true → table_number (term h ss) ≡ table_number (term x ws)) e
          (λ m l is. one_number h ss ws ms m (not_not (means h (constant_values ss)) listed_s) (not_not (means h (constant_values ws)) l) sorts is) mw listed_w same_as
