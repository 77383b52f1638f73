-- What takes the place of each hypothesis does the same for the condition.
use Rattle.std.proofs.Common.{◌≡◌, ℕ, zero, suc, ◌+◌, false, cond, List, [], ◌∷◌, ◌++◌, map, length, refl, sym, ap, ◌∙◌, Option, Some, None, is_some, arith}
use Rattle.std.specs.Prelude.{slice_get, slice_index_or, if◌then◌else◌}
use Rattle.std.specs.List.{cons_option, filter, filter_map, flat_map}
use Rattle.std.proofs.lemmas.List.{map-append}
use Rattle.std.proofs.lemmas.List.Elements.{filter_map-append}
use Rattle.spv_logic.specs.declared.conditions.TermId.{TermId}
use Rattle.spv_logic.specs.declared.types.Shape.{Shape}
use Rattle.spv_logic.specs.declared.types.Decl.{Decl}
use Rattle.spv_logic.specs.declared.operators.Head.TheVariants.{False}
use Rattle.spv_logic.specs.Terms.{Term, term, no_terms}
use Rattle.spv_logic.specs.Formulas.{negation}
use Rattle.spv_logic.specs.Sorts.{term_sort}
use Rattle.spv_schemas.specs.declared.kinds.SchemaKind.{SchemaKind}
use Rattle.spv_schemas.specs.Kinds.{kinds, kind_of_number}
use Rattle.spv_schemas.specs.Instances.{SchemaInstance, instance_fact, subjects, fields_for, instances_of, schemas, schema_facts}
use Rattle.spv_atoms.specs.declared.proofs.Stated.TheVariants.{Is}
use Rattle.spv_atoms.specs.declared.proofs.Step.{Step}
use Rattle.spv_atoms.specs.declared.proofs.Step.TheVariants as step
use Rattle.spv_proof_rules.specs.Effects.{Question, Adds, Fails, is_truth, effect, given_effect, adds_known, evaluated, fact_of_kind, schema_stated}
use Rattle.spv_verdicts.specs.Schemas.{used, enlarged}
use Rattle.spv_verdicts.specs.translation.Exchanged.{exchanged_step, Exchanges}
use Rattle.spv_verdicts.specs.translation.Replacements.{instance_by, stated_instance, StateFacts, given_behind, replacements}

-- ---- each instance that is listed has a fact

abbrev AllGiven : {X Y : Type 0} → (X → Option Y) → List X → Type 0
AllGiven f xs = map f xs ≡ map Some (filter_map f xs)

given-filter : {X Y : Type 0} (f : X → Option Y) (xs : List X) → AllGiven f (filter (λ x. is_some (f x)) xs)
given-filter f [] = refl
given-filter {X = X} {Y = Y} f (x ∷ xs) = by_case (f x) refl (filter (λ y. is_some (f y)) xs) (given-filter f xs)
  where
    by_case : (o : Option Y) → f x ≡ o → (rest : List X) → AllGiven f rest → AllGiven f (cond (is_some o) (x ∷ rest) rest)
    by_case None e rest h = h
    by_case (Some y) e rest h = ap (λ o. o ∷ map f rest) e ∙ (ap (λ os. Some y ∷ os) h ∙ ap (λ o. map Some (cons_option o (filter_map f rest))) (sym e))

given-append : {X Y : Type 0} (f : X → Option Y) (xs ys : List X) → AllGiven f xs → AllGiven f ys → AllGiven f (xs ++ ys)
given-append f xs ys h k =
    map-append f xs ys
    ∙ (ap (λ zs. zs ++ map f ys) h ∙ (ap (λ zs. map Some (filter_map f xs) ++ zs) k ∙ (sym (map-append Some (filter_map f xs) (filter_map f ys)) ∙ ap (map Some) (sym (filter_map-append f xs ys)))))

given-flat_map : {X Y Z : Type 0} (f : X → Option Y) (g : Z → List X) → ((z : Z) → AllGiven f (g z)) → (zs : List Z) → AllGiven f (flat_map g zs)
given-flat_map f g h [] = refl
given-flat_map f g h (z ∷ zs) = given-append f (g z) (flat_map g zs) (h z) (given-flat_map f g h zs)

abbrev candidates : List Shape → List Decl → List Term → SchemaKind → List SchemaInstance
candidates shapes decls used kind =
    flat_map (λ ts. map (λ field. record { kind = kind; about = ts; field = field }) (fields_for shapes (term_sort shapes decls) kind ts)) (subjects (term_sort shapes decls) used kind)

facts-there : (shapes : List Shape) (decls : List Decl) (used : List Term) → map (instance_fact shapes decls) (schemas shapes decls used) ≡ map Some (schema_facts shapes decls used)
facts-there shapes decls used =
    given-flat_map (instance_fact shapes decls) (instances_of shapes decls used) (λ kind. given-filter (instance_fact shapes decls) (candidates shapes decls used kind)) kinds

-- ---- steps that add these facts

abbrev fact_of : Question → Option SchemaInstance → Option Term
fact_of q None = None
fact_of q (Some i) = instance_fact q.shapes q.decls i

abbrev step_fact : Question → Step → Option Term
step_fact q (step.Schema number ts field) = schema_stated q number ts field
step_fact q _ = None

step_fact-is : (q : Question) (s : Step) → step_fact q s ≡ fact_of q (stated_instance q.at s)
step_fact-is q (step.Schema number ts field) = by_kind (kind_of_number number)
  where
    by_kind : (o : Option SchemaKind) → fact_of_kind q o (map q.at ts) field ≡ fact_of q (instance_by o (map q.at ts) field)
    by_kind None = refl
    by_kind (Some kind) = refl
step_fact-is q (step.Given k) = refl
step_fact-is q (step.Refl t) = refl
step_fact-is q (step.Symm i) = refl
step_fact-is q (step.Trans i j) = refl
step_fact-is q (step.Cong t u ks) = refl
step_fact-is q (step.Linear r first second) = refl
step_fact-is q (step.Rule r ts) = refl
step_fact-is q (step.Eval s ks) = refl
step_fact-is q (step.Contra i j) = refl

step_facts-are : (q : Question) (steps : List Step) → map (step_fact q) steps ≡ map (fact_of q) (map (stated_instance q.at) steps)
step_facts-are q [] = refl
step_facts-are q (s ∷ steps) = ap (λ o. o ∷ map (step_fact q) steps) (step_fact-is q s) ∙ ap (λ os. fact_of q (stated_instance q.at s) ∷ os) (step_facts-are q steps)

instance_facts-are : (q : Question) (is : List SchemaInstance) → map (fact_of q) (map Some is) ≡ map (instance_fact q.shapes q.decls) is
instance_facts-are q [] = refl
instance_facts-are q (i ∷ is) = ap (λ os. instance_fact q.shapes q.decls i ∷ os) (instance_facts-are q is)

-- steps for the instances add their facts, in order
steps-add : (q : Question) (used : List Term) (steps : List Step) → map (stated_instance q.at) steps ≡ map Some (schemas q.shapes q.decls used) → map (step_fact q) steps ≡ map Some (schema_facts q.shapes q.decls used)
steps-add q used steps e = step_facts-are q steps ∙ (ap (map (fact_of q)) e ∙ (instance_facts-are q (schemas q.shapes q.decls used) ∙ facts-there q.shapes q.decls used))

effect-of : (q : Question) (facts : List Term) (s : Step) (t : Term) → step_fact q s ≡ Some t → effect q facts s ≡ Adds t
effect-of q facts (step.Schema number ts field) t e = ap adds_known e
effect-of q facts _ t e = absurd (cc)

-- ---- the table

-- what FALSE is by evaluation
abbrev after_evaluation : Question → Term → List Term → Type 0
after_evaluation q t facts = evaluated (is_truth q) (if is_truth q t then Some (negation t) else None) (Some []) ≡ Adds (negation t)

false_is_false : (q : Question) (facts : List Term) → after_evaluation q (term False no_terms) facts
false_is_false q facts = refl

module _ (q : Question) (facts : List Term) where
  behind : (steps : List Step) (further : List Term) → map (step_fact q) steps ≡ map Some further → (j : ℕ) (s : Step) → effect q facts s ≡ Fails → adds_known (slice_get further j) ≡ effect q facts (slice_index_or steps j s)
  behind [] [] e j s none = sym none
  behind [] (t ∷ further) e j s none = absurd (cc)
  behind (r ∷ steps) [] e j s none = absurd (cc)
  behind (r ∷ steps) (t ∷ further) e zero s none =
      let first : step_fact q r ≡ Some t = cc in
      sym (effect-of q facts r t first)
  behind (r ∷ steps) (t ∷ further) e (suc j) s none =
      let others : map (step_fact q) steps ≡ map Some further = cc in
      behind steps further others j s none

  -- the last hypotheses, those behind a place
  from : (steps : List Step) (further : List Term) → map (step_fact q) steps ≡ map Some further → (gs : List Term) (place : ℕ) → ((i : ℕ) → slice_get gs i ≡ slice_get q.sequent.given (place + i)) → (j : ℕ)
      → adds_known (slice_get (gs ++ negation q.sequent.goal ∷ further) j) ≡ effect q facts (slice_index_or (given_behind place (length gs) ++ step.Given 0 ∷ steps) j (step.Given (suc (place + j))))
  from steps further e [] place h zero = refl
  from steps further e [] place h (suc j) = behind steps further e j (step.Given (suc (place + suc j))) (ap adds_known (sym (h (suc j))))
  from steps further e (g ∷ gs) place h zero =
      let same : place + 0 ≡ place = omega arith in
      ap adds_known (h 0 ∙ ap (slice_get q.sequent.given) same)
  from steps further e (g ∷ gs) place h (suc j) =
      let same : suc place + j ≡ place + suc j = omega arith in
      from steps further e gs (suc place) next j ∙ ap (λ n. effect q facts (slice_index_or (given_behind (suc place) (length gs) ++ step.Given 0 ∷ steps) j (step.Given (suc n)))) same
    where
      next : (i : ℕ) → slice_get gs i ≡ slice_get q.sequent.given (suc place + i)
      next i =
          let same : place + suc i ≡ suc place + i = omega arith in
          h (suc i) ∙ ap (slice_get q.sequent.given) same

  -- what each hypothesis adds, of those of the condition, that the goal is false, and the facts of schemas, with the goal FALSE
  pub replaced : (falsity : TermId) → q.at falsity ≡ term False no_terms → (used : List Term) (steps : List Step) → map (stated_instance q.at) steps ≡ map Some (schemas q.shapes q.decls used) → (k : ℕ)
      → given_effect (record { given = q.sequent.given ++ negation q.sequent.goal ∷ schema_facts q.shapes q.decls used; goal = term False no_terms }) k
      ≡ effect q facts (exchanged_step (replacements (length q.sequent.given) falsity steps) (step.Given k))
  replaced falsity is used steps e zero = sym (ap (λ t. evaluated (is_truth q) (if is_truth q t then Some (negation t) else None) (Some [])) is ∙ false_is_false q facts)
  replaced falsity is used steps e (suc j) =
      let same : 0 + j ≡ j = omega arith in
      from steps (schema_facts q.shapes q.decls used) (steps-add q used steps e) q.sequent.given 0 first j
      ∙ ap (λ n. effect q facts (slice_index_or (given_behind 0 (length q.sequent.given) ++ step.Given 0 ∷ steps) j (step.Given (suc n)))) same
    where
      first : (i : ℕ) → slice_get q.sequent.given i ≡ slice_get q.sequent.given (0 + i)
      first i =
          let same : i ≡ 0 + i = omega arith in
          ap (slice_get q.sequent.given) same

pub all-replaced : (q : Question) (falsity : TermId) (steps : List Step) → q.at falsity ≡ term False no_terms → StateFacts q steps → Exchanges (enlarged q) q (replacements (length q.sequent.given) falsity steps)
all-replaced q falsity steps is s = record { shapes = refl; decls = refl; at = refl; rules = refl; effects = λ k facts. replaced q facts falsity is (used q) steps s.instances k }

-- ---- the table as it grows

-- one hypothesis more
pub given-more : (place n : ℕ) → given_behind place n ++ step.Given (place + n + 1) ∷ [] ≡ given_behind place (n + 1)
given-more place zero =
    let same : place + 0 + 1 ≡ suc place = omega arith in
    ap (λ k. step.Given k ∷ []) same
given-more place (suc n) =
    let same : place + suc n + 1 ≡ suc place + n + 1 = omega arith in
    let next : suc (n + 1) ≡ suc n + 1 = omega arith in
    ap (λ k. (step.Given (suc place) ∷ given_behind (suc place) n) ++ step.Given k ∷ []) same ∙ (ap (λ ss. step.Given (suc place) ∷ ss) (given-more (suc place) n) ∙ ap (given_behind place) next)

pub table-more : (falsity : TermId) (n k : ℕ) (before after : List Step) → before ≡ step.Eval (Is falsity false) [] ∷ given_behind 0 n → k ≡ n + 1 → after ≡ before ++ step.Given k ∷ [] → after ≡ step.Eval (Is falsity false) [] ∷ given_behind 0 (n + 1)
table-more falsity n k before after h e add =
    let number : k ≡ 0 + n + 1 = omega arith in
    add ∙ (ap (λ ss. ss ++ step.Given k ∷ []) h ∙ (ap (λ m. (step.Eval (Is falsity false) [] ∷ given_behind 0 n) ++ step.Given m ∷ []) number ∙ ap (λ ss. step.Eval (Is falsity false) [] ∷ ss) (given-more 0 n)))
