-- Steps and nodes over an arena, and what a listing says of them, over plain variables.
use Rattle.std.proofs.Common.{◌≡◌, ℕ, zero, suc, ◌+◌, ◌<◌, ◌≤◌, true, false, ◌&&◌, Option, Some, None, Result, Ok, Err, IfOk, is_some, position, List, [], ◌∷◌, ◌++◌, map, take, drop, length, get_or, slice_get, refl, sym, ap, subst, ◌∙◌, arith}
use Rattle.std.specs.List.{list_all}
use Rattle.std.specs.Option.{option_map}
use Rattle.std.specs.Str.{bytes_eq}
use Rattle.std.proofs.lemmas.List.Quantifiers.{position-Some}
use Rattle.std.proofs.lemmas.Slice.Eq.{bytes_eq-Decides}
use Rattle.std.proofs.lemmas.List.{map-append, take_more, take_all, drop_more}
use Rattle.std.proofs.lemmas.List.Folds.{list_all-append}
use Rattle.std.proofs.lemmas.Option.{slice_get-get_or}
use Rattle.spv_logic.specs.declared.names.names.Symbol.{Symbol}
use Rattle.spv_logic.specs.declared.conditions.TermId.{TermId}
use Rattle.spv_logic.specs.declared.operators.Head.{Head}
use Rattle.spv_logic.specs.declared.operators.Head.TheVariants.{Eq, Le}
use Rattle.spv_logic.specs.Terms.{Term, term, no_terms, terms}
use Rattle.spv_term.specs.declared.nodes.Node.{Node}
use Rattle.spv_term.specs.Arena.{Arena, IsArena, AllBelow, tree, trees}
use Rattle.spv_term.proofs.ArenaLemmas.{tree-node, args_in_range}
use Rattle.spv_term.proofs.TreeLemmas.{AllBelow-at}
use Rattle.spv_atoms.specs.declared.proofs.Relation.{Relation}
use Rattle.spv_atoms.specs.declared.proofs.Relation.TheVariants.{AtMost, Equal}
use Rattle.spv_listing_values.specs.declared.texts.Text.{Text}
use Rattle.spv_listing_values.specs.Places.{AreBefore, name_at}
use Rattle.spv_rechecking.specs.written_terms.Standing.{symbol_for}
use Rattle.spv_listing_values.specs.declared.data.Step as says
use Rattle.spv_listing_values.specs.Mapped.{step_at}
use Rattle.spv_listing_values.proofs.Numerals.{both_true}
use Rattle.spv_atoms.specs.declared.proofs.Step as own
use Rattle.spv_atoms.specs.declared.proofs.Step.TheVariants as own_step
use Rattle.spv_atoms.specs.declared.proofs.Stated.TheVariants.{Is}
use Rattle.spv_listing_values.specs.declared.data.Step.TheVariants as step
use Rattle.spv_whole.specs.Fraction.{Fraction}
use Rattle.spv_proof_rules.specs.Stand.{StepIn, StepsIn}
use Rattle.spv_logic.proofs.list.Tests.{and_false}
use Rattle.spv_rechecking.specs.Rechecked.{is_relation, is_known, is_step}
use Rattle.spv_rechecking.specs.Listed.{listed_step}
use Rattle.spv_rechecking.specs.Made.{image_at, images_at}
use Rattle.spv_rechecking.specs.Converted.{relation_over, term_at, IsRelationOf, IsStepOf, AreStepsOf, StepPlaced, StepsPlaced}

module _ (a : Arena) (images : List TermId) (inside : AllBelow (length a.nodes) images) where
  pub image_inside : (t : Text) → t.0 < length images → (image_at images t).0 < length a.nodes
  image_inside t lt = AllBelow-at (length a.nodes) images t.0 (image_at images t) inside (slice_get-get_or images t.0 (record { 0 = 0 }) lt)

  pub images_inside : (ts : List Text) → AreBefore (length images) ts → AllBelow (length a.nodes) (images_at images ts)
  images_inside [] h = tt
  images_inside (t ∷ ts) h = (image_inside t h.0, images_inside ts h.1)

  pub images_terms : (ts : List Text) → map (tree a) (images_at images ts) ≡ map (term_at a images) ts
  images_terms [] = refl
  images_terms (t ∷ ts) = ap (λ us. term_at a images t ∷ us) (images_terms ts)

module _ (a : Arena) (ok : IsArena a) (t : TermId) (n : Node) (at : slice_get a.nodes t.0 ≡ Some n) (s u : TermId) (args : n.args ≡ s ∷ u ∷ []) where
  two_args : tree a t ≡ term n.head (terms (tree a s) (terms (tree a u) no_terms))
  two_args = tree-node a ok t n at ∙ ap (λ ts. term n.head (trees a ts)) args

  both_in : AllBelow (length a.nodes) (s ∷ u ∷ [])
  both_in = subst (AllBelow (length a.nodes)) args (args_in_range a ok t n at)

  pub is_equal : n.head ≡ Eq → IsRelationOf a (tree a t) (Some (Equal s u))
  is_equal e =
      let whole : tree a t ≡ term Eq (terms (tree a s) (terms (tree a u) no_terms)) = two_args ∙ ap (λ h. term h (terms (tree a s) (terms (tree a u) no_terms))) e in
      (sym whole, (both_in.0, both_in.1.0), ap is_relation whole)

  pub is_at_most : n.head ≡ Le → IsRelationOf a (tree a t) (Some (AtMost s u))
  is_at_most e =
      let whole : tree a t ≡ term Le (terms (tree a s) (terms (tree a u) no_terms)) = two_args ∙ ap (λ h. term h (terms (tree a s) (terms (tree a u) no_terms))) e in
      (sym whole, (both_in.0, both_in.1.0), ap is_relation whole)

two_items : (xs : List TermId) (d e : TermId) → length xs ≡ 2 → xs ≡ get_or xs 0 d ∷ get_or xs 1 e ∷ []
two_items [] d e h = absurd (omega (arith, h))
two_items (x ∷ []) d e h = absurd (omega (arith, h))
two_items (x ∷ y ∷ []) d e h = refl
two_items (x ∷ y ∷ z ∷ xs) d e h = absurd (omega (arith, h))

module _ (a : Arena) (ok : IsArena a) (t : TermId) (n : Node) (at : slice_get a.nodes t.0 ≡ Some n) (slice : List TermId) (slice_is : slice ≡ n.args) where
  pub found_relation : (d e : TermId) → length slice ≡ 2 → (o : Option Relation) → o ≡ relation_over n.head (get_or slice 0 d) (get_or slice 1 e) → IsRelationOf a (tree a t) o
  found_relation d e two o is = subst (IsRelationOf a (tree a t)) (sym is) (by n.head refl)
    where
      own : n.args ≡ get_or slice 0 d ∷ get_or slice 1 e ∷ []
      own = sym slice_is ∙ two_items slice d e two

      by : (h : Head) → n.head ≡ h → IsRelationOf a (tree a t) (relation_over h (get_or slice 0 d) (get_or slice 1 e))
      by Eq f = is_equal a ok t n at (get_or slice 0 d) (get_or slice 1 e) own f
      by Le f = is_at_most a ok t n at (get_or slice 0 d) (get_or slice 1 e) own f
      by h f =
          ap is_relation
          (two_args a ok t n at (get_or slice 0 d) (get_or slice 1 e) own ∙ ap (λ g. term g (terms (tree a (get_or slice 0 d)) (terms (tree a (get_or slice 1 e)) no_terms))) f)

  no_two : (h : Head) (ts : List TermId) → (length ts ≡ 2 → ⊥) → is_relation (term h (trees a ts)) ≡ false
  no_two Eq [] f = refl
  no_two Eq (x ∷ []) f = refl
  no_two Eq (x ∷ y ∷ []) f = absurd (f refl)
  no_two Eq (x ∷ y ∷ z ∷ ts) f = refl
  no_two Le [] f = refl
  no_two Le (x ∷ []) f = refl
  no_two Le (x ∷ y ∷ []) f = absurd (f refl)
  no_two Le (x ∷ y ∷ z ∷ ts) f = refl
  no_two h ts f = refl

  pub no_relation : (length slice ≡ 2 → ⊥) → is_relation (tree a t) ≡ false
  no_relation f = ap is_relation (tree-node a ok t n at) ∙ no_two n.head n.args (λ e. f (ap length slice_is ∙ e))

-- ---- names

pub symbol_names : (names : List (List ℕ)) (word : List ℕ) (x : Symbol) → Some x ≡ symbol_for names word → name_at names x ≡ word
symbol_names names word x h = by (position (bytes_eq word) names) refl h
  where
    same_symbol : (y z : Symbol) → Some y ≡ Some z → y ≡ z
    same_symbol y z e = cc

    by : (o : Option ℕ) → position (bytes_eq word) names ≡ o → Some x ≡ option_map (λ k. record { 0 = k }) o → name_at names x ≡ word
    by None e k = absurd cc
    by (Some i) e k =
        let at = position-Some (bytes_eq word) names i [] e in
        ap (name_at names) (same_symbol x (record { 0 = i }) k) ∙ sym ((bytes_eq-Decides word (get_or names i [])).0 at.1)

pub schema_known : (names : List (List ℕ)) (a : Arena) (kind : ℕ) (ids : List TermId) → AllBelow (length a.nodes) ids → (made : List TermId) → made ≡ ids → (name : Option (List ℕ)) (word : List ℕ) → name ≡ Some word → (field : Symbol) → Some field ≡ symbol_for names word
    → IsStepOf names a (step.Schema kind (map (tree a) ids) name) (Some (own_step.Schema kind made (Some field)))
schema_known names a kind ids inside made made_is name word name_is field field_is = (
  (λ i. step.Schema kind (map (tree a) (made_is i)) ((ap (λ (w : List ℕ). Some w) (symbol_names names word field field_is) ∙ sym name_is) i)),
  subst (AllBelow (length a.nodes)) (sym made_is) inside,
  ap (is_known names) name_is ∙ ap is_some (sym field_is),
)

-- ---- single steps

module _ (names : List (List ℕ)) (a : Arena) (images : List TermId) (inside : AllBelow (length a.nodes) images) (s : says.Step Text) (placed : StepPlaced (length images) s) where
  abbrev goal_of : Option own.Step → Type 0
  goal_of o = IsStepOf names a (step_at (term_at a images) s) o

  low_of : (x : says.Step Text) → s ≡ x → StepPlaced (length images) x
  low_of x is = subst (StepPlaced (length images)) is placed

  -- the id of a term that a step names
  one_inside : (t : Text) → t.0 < length images → (id : TermId) → id ≡ image_at images t → id.0 < length a.nodes
  one_inside t low id is = subst (λ (u : TermId). u.0 < length a.nodes) (sym is) (image_inside a images inside t low)

  pub refl_step : (t : Text) → s ≡ step.Refl t → (id : TermId) → id ≡ image_at images t → goal_of (Some (own_step.Refl id))
  refl_step t is id id_is =
      subst (λ x. IsStepOf names a (step_at (term_at a images) x) (Some (own_step.Refl id))) (sym is)
      (ap (λ u. step.Refl (tree a u)) id_is, one_inside t (low_of (step.Refl t) is).0 id id_is, refl)

  pub cong_step : (t u : Text) (facts : List ℕ) → s ≡ step.Cong t u facts → (id jd : TermId) → id ≡ image_at images t → jd ≡ image_at images u → (copy : List ℕ) → copy ≡ facts → goal_of (Some (own_step.Cong id jd copy))
  cong_step t u facts is id jd id_is jd_is copy copy_is =
      subst (λ x. IsStepOf names a (step_at (term_at a images) x) (Some (own_step.Cong id jd copy))) (sym is) (
        (λ i. step.Cong (tree a (id_is i)) (tree a (jd_is i)) (copy_is i)),
        (one_inside t (low_of (step.Cong t u facts) is).0 id id_is, one_inside u (low_of (step.Cong t u facts) is).1.0 jd jd_is),
        refl,
      )

  pub linear_inside : (t : Text) (first second : List (Fraction × ℕ)) → s ≡ step.Linear t first second → (id : TermId) → id ≡ image_at images t → id.0 < length a.nodes
  linear_inside t first second is id id_is = one_inside t (low_of (step.Linear t first second) is).0 id id_is

  pub schema_inside : (k : ℕ) (ts : List Text) (name : Option (List ℕ)) → s ≡ step.Schema k ts name → (ids : List TermId) → ids ≡ images_at images ts → AllBelow (length a.nodes) ids
  schema_inside k ts name is ids ids_are = subst (AllBelow (length a.nodes)) (sym ids_are) (images_inside a images inside ts (low_of (step.Schema k ts name) is))

  pub rule_step : (k : ℕ) (ts : List Text) → s ≡ step.Rule k ts → (ids : List TermId) → ids ≡ images_at images ts → goal_of (Some (own_step.Rule k ids))
  rule_step k ts is ids ids_are =
      subst (λ x. IsStepOf names a (step_at (term_at a images) x) (Some (own_step.Rule k ids))) (sym is) (
        ap (λ us. step.Rule k us) (ap (map (tree a)) ids_are ∙ images_terms a images inside ts),
        subst (AllBelow (length a.nodes)) (sym ids_are) (images_inside a images inside ts (low_of (step.Rule k ts) is)),
        refl,
      )

  pub eval_step : (t : Text) (facts : List ℕ) → s ≡ step.Eval t facts → (id : TermId) → id ≡ image_at images t → (copy : List ℕ) → copy ≡ facts → goal_of (Some (own_step.Eval (Is id true) copy))
  eval_step t facts is id id_is copy copy_is =
      subst (λ x. IsStepOf names a (step_at (term_at a images) x) (Some (own_step.Eval (Is id true) copy))) (sym is)
      ((λ i. step.Eval (tree a (id_is i)) (copy_is i)), one_inside t (low_of (step.Eval t facts) is).0 id id_is, refl)

  pub schema_step : {E : Type 0} (k : ℕ) (ts : List Text) (name : Option (List ℕ)) → s ≡ step.Schema k ts name → (ids : List TermId) → ids ≡ images_at images ts
      → (r : Result (Option own.Step) E) → IfOk r (λ o. IsStepOf names a (step.Schema k (map (tree a) ids) name) o) → IfOk r goal_of
  schema_step k ts name is ids ids_are (Ok o) h =
      subst (λ x. IsStepOf names a (step_at (term_at a images) x) o) (sym is)
      (subst (λ us. IsStepOf names a (step.Schema k us name) o) (ap (map (tree a)) ids_are ∙ images_terms a images inside ts) h)
  schema_step k ts name is ids ids_are (Err e) h = tt

-- ---- steps in a row

module _ (names : List (List ℕ)) (a : Arena) (images : List TermId) (steps : List (says.Step Text)) where
  abbrev said : says.Step Text → says.Step Term
  said s = step_at (term_at a images) s

  -- what is true before and after each turn
  pub record AreSteps (list : List own.Step) (i : ℕ) : Type 0 where
    pub listed : map (listed_step names (tree a)) list ≡ map said (take i steps)
    pub inside : StepsIn a list
    pub pass : list_all (is_step names) (map said (take i steps)) ≡ true
    pub placed : StepsPlaced (length images) (drop i steps)

  pub no_steps : StepsPlaced (length images) steps → (list : List own.Step) → list ≡ [] → AreSteps list 0
  no_steps h list e = subst (λ l. AreSteps l 0) (sym e) (record { listed = refl; inside = tt; pass = refl; placed = h })

  inside_more : (list : List own.Step) (one : own.Step) → StepsIn a list → StepIn a one → StepsIn a (list ++ one ∷ [])
  inside_more [] one h k = (k, tt)
  inside_more (s ∷ list) one h k = (h.0, inside_more list one h.1 k)

  said_at : (ss : List (says.Step Text)) (i : ℕ) (d : says.Step Text) → i < length ss → is_step names (said (get_or ss i d)) ≡ false → list_all (is_step names) (map said ss) ≡ false
  said_at [] i d lt h = absurd (omega (arith, lt))
  said_at (s ∷ ss) zero d lt h = ap (λ b. b && list_all (is_step names) (map said ss)) h
  said_at (s ∷ ss) (suc i) d lt h = and_false (is_step names (said s)) (list_all (is_step names) (map said ss)) (said_at ss i d (omega (arith, lt)) h)

  module _ (list : List own.Step) (i : ℕ) (inv : AreSteps list i) (d : says.Step Text) (lt : i < length steps) where
    next_placed : StepPlaced (length images) (get_or steps i d) × StepsPlaced (length images) (drop (i + 1) steps)
    next_placed = subst (StepsPlaced (length images)) (drop_more steps i d lt) inv.placed

    pub step_placed : StepPlaced (length images) (get_or steps i d)
    step_placed = next_placed.0

    pub step_fails : (o : Option own.Step) → IsStepOf names a (said (get_or steps i d)) o → o ≡ None → list_all (is_step names) (map said steps) ≡ false
    step_fails None h e = said_at steps i d lt h
    step_fails (Some s) h e = absurd cc

    one_step : (s x : own.Step) → IsStepOf names a (said (get_or steps i d)) (Some s) → s ≡ x → (more : List own.Step) → more ≡ list ++ x ∷ [] → AreSteps more (i + 1)
    one_step s x h e more add =
        let own_step : IsStepOf names a (said (get_or steps i d)) (Some x) = subst (λ (y : own.Step). IsStepOf names a (said (get_or steps i d)) (Some y)) e h in
        let taken : map said (take (i + 1) steps) ≡ map said (take i steps) ++ said (get_or steps i d) ∷ [] = ap (map said) (take_more steps i d lt) ∙ map-append said (take i steps) (get_or steps i d ∷ []) in
        record {
          listed = ap (map (listed_step names (tree a))) add ∙ (map-append (listed_step names (tree a)) list (x ∷ []) ∙ ((λ j. inv.listed j ++ own_step.0 j ∷ []) ∙ sym taken));
          inside = subst (StepsIn a) (sym add) (inside_more list x inv.inside own_step.1);
          pass = ap (list_all (is_step names)) taken
              ∙ (list_all-append (is_step names) (map said (take i steps)) (said (get_or steps i d) ∷ [])
              ∙ both_true (list_all (is_step names) (map said (take i steps))) (is_step names (said (get_or steps i d)) && true) inv.pass (both_true (is_step names (said (get_or steps i d))) true own_step.2 refl));
          placed = next_placed.1;
        }

    pub more_steps : (o : Option own.Step) → IsStepOf names a (said (get_or steps i d)) o → (x : own.Step) → o ≡ Some x → (more : List own.Step) → more ≡ list ++ x ∷ [] → AreSteps more (i + 1)
    more_steps None h x e more add = absurd cc
    more_steps (Some s) h x e more add = let same : s ≡ x = cc in one_step s x h same more add

  pub all_steps : (list : List own.Step) (i : ℕ) → AreSteps list i → length steps ≤ i → (made : List own.Step) → made ≡ list → AreStepsOf names a (map said steps) (Some made)
  all_steps list i inv past made e =
      let whole : take i steps ≡ steps = take_all i steps past in
      subst (λ l. AreStepsOf names a (map said steps) (Some l)) (sym e) (inv.listed ∙ ap (map said) whole, inv.inside, ap (λ ss. list_all (is_step names) (map said ss)) (sym whole) ∙ inv.pass)
