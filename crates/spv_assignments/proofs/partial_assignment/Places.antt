-- What is listed beside ids, and what a pass over it finds.
use Rattle.std.proofs.Common.{◌≡◌, ◌<◌, Bool, true, false, cond, not, List, length, refl, sym, ap, ◌∙◌, Option, Some, None, inl, inr, ◌⊎◌}
use mathlib.Core.Path.{ap₂}
use Rattle.std.proofs.lemmas.Bool.{false≢true}
use Rattle.spv_logic.specs.declared.conditions.TermId.{TermId}
use Rattle.spv_logic.specs.Terms.{Term, term_eq}
use Rattle.spv_logic.specs.Formulas.{negation, below}
use Rattle.spv_logic.proofs.Equality.{term_eq-true}
use Rattle.spv_term.specs.Arena.{Arena, IsArena, tree}
use Rattle.spv_atoms.specs.Tables.{or_else, computed, numeral_relation}
use Rattle.spv_atoms.specs.Atoms as atoms
use Rattle.spv_atoms.proofs.Walks.{term_eq-ids}
use Rattle.spv_proof_rules.specs.Sums.{negated}
use Rattle.spv_proof_rules.specs.Evaluation.{sides, cites, apart, bare, opposite, clashes, evaluates}
use Rattle.spv_tableau_rules.specs.constraints.Sayings.{literal}
use Rattle.spv_models.specs.split_trees.Shown.{supposing_false}
use Rattle.spv_assignments.specs.kleene.Given.{same}
use Rattle.spv_assignments.specs.kleene.Passes.{connects, plain, plain_at, at, Gives, GivesListed, AreQuiet, IsLoud, Clashes, ClashesListed, NoneClashes, NoneClashesListed}
use Rattle.spv_assignments.proofs.kleene.Same.{clash_same}
use Rattle.spv_assignments.proofs.kleene.Heads.{plain_value, plain_none}
use Rattle.spv_assignments.specs.partial_assignment.Values.{told, told_or_apart, value_by, core_value, unless_negation, supposed, supposed_value, is_negation, AreLiterals, AreOver, IsIn, IsCase}
use Rattle.spv_assignments.specs.partial_assignment.Following.{is_truth, AreListed, Contradicts}
use Rattle.spv_assignments.proofs.partial_assignment.Told.{told_true, core_value_of, core_of, negated_is}
use Rattle.spv_assignments.proofs.partial_assignment.Supposing.{MaySuppose, told_one, agrees_with, agrees_plainly, value_negation, with_bare, with_core, with_negation, listed_here, listed_there}
use Rattle.spv_assignments.proofs.partial_assignment.Clashing.{OrdersAreQuiet, clash_has, computed_quiet, bare_literal, Source, itself, by_fact, evaluated, apart_quiet, in_arena, core_quiet}

opposite_none : (o : Option Bool) → opposite o None ≡ false
opposite_none None = refl
opposite_none (Some b) = refl

-- what is listed of a term that is no negation
unless_some : (o : Option Term) (x : Option Bool) (b : Bool) → unless_negation o x ≡ Some b → (o ≡ None) × (x ≡ Some b)
unless_some None x b e = (refl, e)
unless_some (Some t) x b e = absurd cc

none_some : {A : Type 0} (o : Option A) (x : A) → o ≡ None → o ≡ Some x → ⊥
none_some o x e f = cc

module _ (a : Arena) (ok : IsArena a) (facts : List Term) (are : AreLiterals facts) (over : AreOver a facts) (direct cores all : List (Option Bool)) (lists : AreListed a facts direct cores all) where
  -- ---- what has its value by itself

  pub orders_quiet : AreQuiet a direct → OrdersAreQuiet facts
  orders_quiet quiet = record { each = λ s t e f. by_there s t e f (over.there (below s t) e) }
    where
      by_there : (s t : Term) → cites facts (below s t) ≡ true → numeral_relation (below s t) ≡ Some false → IsIn a (below s t) ⊎ IsCase (below s t) → ⊥
      by_there s t e f (inl k) =
          let plain_is : plain_at a k.id ≡ Some false = ap (λ (x : Term). cond (atoms.is_connective (is_truth a) x) None (plain x)) k.is ∙ f in
          let told_is : at direct k.id.0 ≡ Some true = lists.told_ones k.id k.in_range ∙ (ap (λ (x : Term). unless_negation (negated x) (told facts x)) k.is ∙ told_true facts are (below s t) e) in
          false≢true (sym (quiet.each k.id k.in_range) ∙ ap₂ opposite plain_is told_is)
      by_there s t e f (inr k) = k.holds f

  module _ (quiet : AreQuiet a direct) where
    abbrev orders : OrdersAreQuiet facts
    orders = orders_quiet quiet

    pub cores_quiet : AreQuiet a cores
    cores_quiet = record { each = λ t h. ap (opposite (plain_at a t)) (lists.core_ones t h) ∙ by_negated t h (negated (tree a t)) refl }
      where
        by_apart : (t : TermId) → (o : Option Bool) → apart facts (sides (tree a t)) ≡ o → (c : Bool) → connects a t ≡ c → opposite (plain_at a t) o ≡ false
        by_apart t None e c k = opposite_none (plain_at a t)
        by_apart t (Some b) e true k = ap (λ x. opposite x (Some b)) (plain_none a t k)
        by_apart t (Some b) e false k =
            ap (λ x. opposite x (Some b)) (sym (plain_value a (core_value facts) t k)) ∙ apart_quiet a facts over orders (core_value facts) (tree a t) b e

        by_told : (t : TermId) → t.0 < length a.nodes → negated (tree a t) ≡ None → (o : Option Bool) → told facts (tree a t) ≡ o → opposite (plain_at a t) (told_or_apart facts (tree a t)) ≡ false
        by_told t h n None e =
            ap (λ x. opposite (plain_at a t) (or_else x (apart facts (sides (tree a t))))) e ∙ by_apart t (apart facts (sides (tree a t))) refl (connects a t) refl
        by_told t h n (Some b) e =
            ap (λ x. opposite (plain_at a t) (or_else x (apart facts (sides (tree a t))))) e
            ∙ (sym (ap (opposite (plain_at a t)) (lists.told_ones t h ∙ (ap (λ o. unless_negation o (told facts (tree a t))) n ∙ e))) ∙ quiet.each t h)

        by_negated : (t : TermId) → t.0 < length a.nodes → (o : Option Term) → negated (tree a t) ≡ o → opposite (plain_at a t) (core_value facts (tree a t)) ≡ false
        by_negated t h None n = ap (opposite (plain_at a t)) (core_value_of facts (tree a t) n) ∙ by_told t h n (told facts (tree a t)) refl
        by_negated t h (Some w) n = ap (λ o. opposite (plain_at a t) (unless_negation o (told_or_apart facts (tree a t)))) n ∙ opposite_none (plain_at a t)

  -- ---- the code's way to give values

  gives_supposed : (s : TermId) → s.0 < length a.nodes → (f : Term) → tree a s ≡ bare f → (v : Bool) → v ≡ supposed_value f → Gives a cores s v (supposed facts (bare f) (supposed_value f))
  gives_supposed s inside f is v value = record {
    each = λ t h.
        ap₂ (λ (x : Term) (b : Bool). cond (term_eq (tree a t) x) (Some b) (core_value facts (tree a t))) (sym is) (sym value)
        ∙ ap₂ (λ b o. cond b (Some v) o) (sym (term_eq-ids a ok t s h inside)) (sym (lists.core_ones t h));
  }

  gives_listed : GivesListed a cores (core_value facts)
  gives_listed = record { each = λ t h. sym (lists.core_ones t h) }

  -- ---- what a clash shows

  -- what is supposed to be false follows
  pub clash_follows : AreQuiet a direct → (s : TermId) → s.0 < length a.nodes → (f : Term) → tree a s ≡ bare f → (v : Bool) → v ≡ supposed_value f → MaySuppose facts f → (c : TermId) → Clashes a cores s v c → evaluates (is_truth a) facts f ≡ true
  clash_follows quiet s inside f is v value may c clash =
      let given = supposed facts (bare f) (supposed_value f) in
      let found : clashes (is_truth a) given (tree a c) ≡ true = clash.clash given (gives_supposed s inside f is v value) in
      let has = clash_has (computed (is_truth a) given (tree a c)) (given (tree a c)) found in
      evaluated (is_truth a) facts are f may (tree a c) (source has.0 has.1 found (term_eq (tree a c) (bare f)) refl) found
    where
      by_apart : (b : Bool) → opposite (computed (is_truth a) (supposed facts (bare f) (supposed_value f)) (tree a c)) (Some b) ≡ true → apart facts (sides (tree a c)) ≡ Some b → Source (is_truth a) facts are f may (tree a c)
      by_apart b h e = absurd (false≢true (sym (apart_quiet a facts over (orders_quiet quiet) (supposed facts (bare f) (supposed_value f)) (tree a c) b e) ∙ h))

      by_told : (b : Bool) → opposite (computed (is_truth a) (supposed facts (bare f) (supposed_value f)) (tree a c)) (Some b) ≡ true → negated (tree a c) ≡ None → (o : Option Bool) → told facts (tree a c) ≡ o → or_else o (apart facts (sides (tree a c))) ≡ Some b
          → Source (is_truth a) facts are f may (tree a c)
      by_told b h n (Some d) g e = by_fact d n g
      by_told b h n None g e = by_apart b h e

      source : (b : Bool) → supposed facts (bare f) (supposed_value f) (tree a c) ≡ Some b → clashes (is_truth a) (supposed facts (bare f) (supposed_value f)) (tree a c) ≡ true → (e : Bool) → term_eq (tree a c) (bare f) ≡ e → Source (is_truth a) facts are f may (tree a c)
      source b h k true e = itself (term_eq-true (tree a c) (bare f) e)
      source b h k false e =
          let core = unless_some (negated (tree a c)) (told_or_apart facts (tree a c)) b (sym (listed_there facts are f (tree a c) e) ∙ h) in
          by_told b (sym (ap (opposite (computed (is_truth a) (supposed facts (bare f) (supposed_value f)) (tree a c))) h) ∙ k) core.0 (told facts (tree a c)) refl core.1

  -- ---- contradictions

  -- the formula that has the opposite truth
  value_of_literal : (t : Term) (b : Bool) → negated t ≡ None → supposed_value (literal (not b) t) ≡ b
  value_of_literal t true n = refl
  value_of_literal t false n = ap is_negation n

  told_literal : (t : Term) (b : Bool) → negated t ≡ None → told facts t ≡ Some b → MaySuppose facts (literal (not b) t)
  told_literal t b n e = told_one (ap (told facts) (bare_literal (not b) t n) ∙ (e ∙ ap Some (sym (value_of_literal t b n))))

  -- a term that clashes, where nothing is supposed, and has a truth by a fact
  contradicts : (t : TermId) → t.0 < length a.nodes → (b : Bool) → negated (tree a t) ≡ None → told facts (tree a t) ≡ Some b → clashes (is_truth a) (core_value facts) (tree a t) ≡ true → Contradicts a facts t b
  contradicts t h b n e clash = record {
    in_range = h;
    is_told = e;
    follows = evaluated (is_truth a) facts are f (told_literal (tree a t) b n e) (tree a t) (itself (sym bare_is))
        (sym (clash_same (is_truth a) (core_value facts) listed (λ u. same (as_listed u)) (tree a t) (as_listed (tree a t))) ∙ clash);
  }
    where
      f : Term
      f = literal (not b) (tree a t)

      bare_is : bare f ≡ tree a t
      bare_is = bare_literal (not b) (tree a t) n

      listed : Term → Option Bool
      listed = supposed facts (bare f) (supposed_value f)

      core_is : core_value facts (tree a t) ≡ Some b
      core_is = core_value_of facts (tree a t) n ∙ ap (λ o. or_else o (apart facts (sides (tree a t)))) e

      as_listed : (u : Term) → core_value facts u ≡ supposed facts (bare (literal (not b) (tree a t))) (supposed_value (literal (not b) (tree a t))) u
      as_listed u = by_case (term_eq u (bare (literal (not b) (tree a t)))) refl
        where
          by_case : (c : Bool) → term_eq u (bare (literal (not b) (tree a t))) ≡ c → core_value facts u ≡ cond c (Some (supposed_value (literal (not b) (tree a t)))) (core_value facts u)
          by_case true k = ap (core_value facts) (term_eq-true u (bare f) k ∙ bare_is) ∙ (core_is ∙ ap Some (sym (value_of_literal (tree a t) b n)))
          by_case false k = refl

  pub loud_contradicts : (t : TermId) → IsLoud a direct t → (b : Bool) → at direct t.0 ≡ Some b → Contradicts a facts t b
  loud_contradicts t loud b e =
      let is = unless_some (negated (tree a t)) (told facts (tree a t)) b (sym (lists.told_ones t loud.in_range) ∙ e) in
      contradicts t loud.in_range b is.0 is.1 (by_connects (connects a t) refl is.0 is.1)
    where
      by_connects : (c : Bool) → connects a t ≡ c → negated (tree a t) ≡ None → told facts (tree a t) ≡ Some b → clashes (is_truth a) (core_value facts) (tree a t) ≡ true
      by_connects true k n g = absurd (false≢true (sym (ap (λ o. opposite o (at direct t.0)) (plain_none a t k)) ∙ loud.is))
      by_connects false k n g =
          ap₂ opposite (plain_value a (core_value facts) t k) (core_value_of facts (tree a t) n ∙ (ap (λ o. or_else o (apart facts (sides (tree a t)))) g ∙ sym e)) ∙ loud.is

  loud_has : (t : TermId) → IsLoud a direct t → at direct t.0 ≡ None → ⊥
  loud_has t loud e = false≢true (sym (ap (opposite (plain_at a t)) e ∙ opposite_none (plain_at a t)) ∙ loud.is)

  listed_told : AreQuiet a direct → (t : TermId) → ClashesListed a cores t → (negated (tree a t) ≡ None) × ((b : Bool) × (told facts (tree a t) ≡ Some b))
  listed_told quiet t clash =
      let found : clashes (is_truth a) (core_value facts) (tree a t) ≡ true = clash.clash (core_value facts) gives_listed in
      let has = clash_has (computed (is_truth a) (core_value facts) (tree a t)) (core_value facts (tree a t)) found in
      let core = unless_some (negated (tree a t)) (told_or_apart facts (tree a t)) has.0 has.1 in
      (core.0, by_told has.0 (sym (ap (opposite (computed (is_truth a) (core_value facts) (tree a t))) has.1) ∙ found) (told facts (tree a t)) refl core.1)
    where
      by_told : (b : Bool) → opposite (computed (is_truth a) (core_value facts) (tree a t)) (Some b) ≡ true → (o : Option Bool) → told facts (tree a t) ≡ o → or_else o (apart facts (sides (tree a t))) ≡ Some b → (d : Bool) × (told facts (tree a t) ≡ Some d)
      by_told b h (Some d) g e = (d, g)
      by_told b h None g e = absurd (false≢true (sym (apart_quiet a facts over (orders_quiet quiet) (core_value facts) (tree a t) b e) ∙ h))

  pub listed_contradicts : AreQuiet a direct → (t : TermId) → ClashesListed a cores t → (b : Bool) → at direct t.0 ≡ Some b → Contradicts a facts t b
  listed_contradicts quiet t clash b e =
      let is = unless_some (negated (tree a t)) (told facts (tree a t)) b (sym (lists.told_ones t clash.in_range) ∙ e) in
      contradicts t clash.in_range b is.0 is.1 (clash.clash (core_value facts) gives_listed)

  pub listed_has : AreQuiet a direct → (t : TermId) → ClashesListed a cores t → at direct t.0 ≡ None → ⊥
  listed_has quiet t clash e =
      let is = listed_told quiet t clash in
      none_some (at direct t.0) (is.1).0 e (lists.told_ones t clash.in_range ∙ (ap (λ o. unless_negation o (told facts (tree a t))) is.0 ∙ (is.1).1))

  pub loud_told : (t : TermId) → IsLoud a direct t → at direct t.0 ≡ None → ⊥
  loud_told = loud_has

  -- ---- where nothing clashes

  pub values_agree : AreQuiet a direct → NoneClashesListed a cores → (u : Term) → clashes (is_truth a) (value_by facts) u ≡ false
  values_agree quiet none u = by_negated (negated u) refl
    where
      by_negated : (o : Option Term) → negated u ≡ o → clashes (is_truth a) (value_by facts) u ≡ false
      by_negated None n =
          core_quiet a facts are over (orders_quiet quiet) (core_value facts) (value_by facts) (agrees_plainly facts (is_truth a)) (none.quiet (core_value facts) gives_listed) u n (core_value_of facts u n) (core_of facts u n)
      by_negated (Some w) n =
          ap (clashes (is_truth a) (value_by facts)) (negated_is u w n) ∙ computed_quiet (is_truth a) (value_by facts) (negation w) (value_negation facts (is_truth a) w)

  -- supposing that a formula is false makes nothing clash
  pub supposed_quiet : AreQuiet a direct → (s : TermId) → s.0 < length a.nodes → (f : Term) → tree a s ≡ bare f → (v : Bool) → v ≡ supposed_value f → value_by facts (bare f) ≡ None → NoneClashes a cores s v
      → (u : Term) → clashes (is_truth a) (supposing_false (value_by facts) f) u ≡ false
  supposed_quiet quiet s inside f is v value has_none none u = by_case (term_eq u (bare f)) refl (negated u) refl
    where
      by_case : (b : Bool) → term_eq u (bare f) ≡ b → (o : Option Term) → negated u ≡ o → clashes (is_truth a) (supposing_false (value_by facts) f) u ≡ false
      by_case true e o n =
          in_arena a facts are over (orders_quiet quiet) (supposed facts (bare f) (supposed_value f)) (supposing_false (value_by facts) f) (agrees_with facts are f (is_truth a) has_none)
          (none.quiet (supposed facts (bare f) (supposed_value f)) (gives_supposed s inside f is v value)) u (record { id = s; in_range = inside; is = is ∙ sym (term_eq-true u (bare f) e) })
          (listed_here facts are f u e ∙ sym (ap (supposing_false (value_by facts) f) (term_eq-true u (bare f) e) ∙ with_bare facts are f has_none))
      by_case false e None n =
          core_quiet a facts are over (orders_quiet quiet) (supposed facts (bare f) (supposed_value f)) (supposing_false (value_by facts) f) (agrees_with facts are f (is_truth a) has_none)
          (none.quiet (supposed facts (bare f) (supposed_value f)) (gives_supposed s inside f is v value)) u n (listed_there facts are f u e ∙ core_value_of facts u n) (with_core facts are f u e n)
      by_case false e (Some w) n =
          ap (clashes (is_truth a) (supposing_false (value_by facts) f)) (negated_is u w n)
          ∙ computed_quiet (is_truth a) (supposing_false (value_by facts) f) (negation w) (with_negation facts are f (is_truth a) has_none w (sym (ap (λ x. term_eq x (bare f)) (negated_is u w n)) ∙ e))

-- ---- what contradicts, with its truth

module _ (a : Arena) (ok : IsArena a) (facts : List Term) (are : AreLiterals facts) (over : AreOver a facts) (direct cores all : List (Option Bool)) (lists : AreListed a facts direct cores all) where
  pub loud_one : (t : TermId) → IsLoud a direct t → (b : Bool) × Contradicts a facts t b
  loud_one t loud = by_value (at direct t.0) refl
    where
      by_value : (o : Option Bool) → at direct t.0 ≡ o → (b : Bool) × Contradicts a facts t b
      by_value None e = absurd (loud_told a ok facts are over direct cores all lists t loud e)
      by_value (Some b) e = (b, loud_contradicts a ok facts are over direct cores all lists t loud b e)

  pub listed_one : AreQuiet a direct → (t : TermId) → ClashesListed a cores t → (b : Bool) × Contradicts a facts t b
  listed_one quiet t clash = by_value (at direct t.0) refl
    where
      by_value : (o : Option Bool) → at direct t.0 ≡ o → (b : Bool) × Contradicts a facts t b
      by_value None e = absurd (listed_has a ok facts are over direct cores all lists quiet t clash e)
      by_value (Some b) e = (b, listed_contradicts a ok facts are over direct cores all lists quiet t clash b e)
