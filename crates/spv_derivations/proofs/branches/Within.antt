-- The terms that the closing steps of a path name are in the arena.
use Rattle.std.proofs.Common.{◌≡◌, ℕ, ◌≤◌, Bool, true, false, cond, ◌&&◌, List, [], ◌∷◌, ◌++◌, length, fold, refl, sym, ap, ◌∙◌, subst, Option, Some, None, arith, inl, inr}
use Rattle.std.specs.Prelude.{pos}
use Rattle.std.specs.Option.{option_map}
use Rattle.std.proofs.lemmas.Bool.{cases_lt, false≢true}
use Rattle.std.proofs.lemmas.List.{get_or_past}
use Rattle.spv_logic.specs.declared.conditions.TermId.{TermId}
use Rattle.spv_logic.specs.declared.operators.Head.TheVariants.{Num}
use Rattle.spv_logic.specs.Terms.{Term, term, no_terms}
use Rattle.spv_logic.specs.Formulas.{negation, equation}
use Rattle.spv_term.specs.declared.nodes.Condition.{Condition}
use Rattle.spv_term.specs.Arena.{Arena, tree, trees_of}
use Rattle.spv_term.proofs.TreeLemmas.{length-trees_of}
use Rattle.spv_atoms.specs.declared.proofs.Stated.{Stated}
use Rattle.spv_atoms.specs.declared.proofs.Stated.TheVariants.{Is, Same}
use Rattle.spv_atoms.specs.declared.proofs.Step.{Step}
use Rattle.spv_atoms.specs.declared.proofs.Step.TheVariants as step
use Rattle.spv_proof_rules.specs.Effects.{Adds, cited, effect, evaluated, is_truth, stated}
use Rattle.spv_proof_rules.specs.Stand.{In, question, PartIn, StatedIn, StepIn, StepsIn}
use Rattle.spv_derivations.specs.declared.derivation.entries.Entry.{Entry}
use Rattle.spv_derivations.specs.declared.derivation.entries.Entry.TheVariants.{Told, Derived}
use Rattle.spv_derivations.specs.derivation.Derivation as derivation
use Rattle.spv_atoms.specs.Steps as steps
use Rattle.spv_atoms.specs.Steps.{Number, Fact, OtherFact, Facts, One, Several, Sums, States, Field, part_renumbered, renumbered}
use Rattle.spv_atoms.proofs.Steps.{naming-renumbered}
use Rattle.spv_derivations.specs.derivation.Steps.{Copied, closing_steps_of, copy_of, outside_of, uncopied, with_entry}
use Rattle.spv_derivations.specs.branches.Paths.{AreSearchSteps, EntriesIn, fact_in, Follow, IsClosing, IsPath, IsSearchStep, as_entries}

-- ---- steps

steps_in-append : (a : Arena) (xs ys : List Step) → StepsIn a xs → StepsIn a ys → StepsIn a (xs ++ ys)
steps_in-append a [] ys h k = k
steps_in-append a (x ∷ xs) ys h k = (h.0, steps_in-append a xs ys h.1 k)

steps_in-front : (a : Arena) (xs ys : List Step) → StepsIn a (xs ++ ys) → StepsIn a xs
steps_in-front a [] ys h = tt
steps_in-front a (x ∷ xs) ys h = (h.0, steps_in-front a xs ys h.1)

-- a step whose facts have other numbers names the same terms
part_in-renumbered : (a : Arena) (f : ℕ → ℕ) (p : steps.Part) → PartIn a p → PartIn a (part_renumbered f p)
part_in-renumbered a f (Number k) h = tt
part_in-renumbered a f (Fact k) h = tt
part_in-renumbered a f (OtherFact k) h = tt
part_in-renumbered a f (Facts ks) h = tt
part_in-renumbered a f (One t) h = h
part_in-renumbered a f (Several ts) h = h
part_in-renumbered a f (Sums r first second) h = h
part_in-renumbered a f (States s) h = h
part_in-renumbered a f (Field x) h = tt

step_in-renumbered : (a : Arena) (f : ℕ → ℕ) (s : Step) → StepIn a s → StepIn a (renumbered f s)
step_in-renumbered a f s h = naming-renumbered (PartIn a) f (part_in-renumbered a f) s h

-- ---- entries

entries_in-append : (a : Arena) (es more : List Entry) → EntriesIn a es → EntriesIn a more → EntriesIn a (es ++ more)
entries_in-append a [] more h k = k
entries_in-append a (e ∷ es) more h k = (h.0, entries_in-append a es more h.1 k)

as_entries_in : (a : Arena) (steps : List Step) → StepsIn a steps → EntriesIn a (as_entries steps)
as_entries_in a [] h = tt
as_entries_in a (s ∷ steps) h = (h.0, as_entries_in a steps h.1)

copied_in : (a : Arena) (c : Copied) (es : List Entry) → StepsIn a c.steps → EntriesIn a es → StepsIn a (fold with_entry c es).steps
copied_in a c [] h k = h
copied_in a c (Told t part why ∷ es) h k = copied_in a (with_entry c (Told t part why)) es h k.1
copied_in a c (Derived s ∷ es) h k =
    copied_in a (with_entry c (Derived s)) es (steps_in-append a c.steps (renumbered (outside_of c) s ∷ []) h (step_in-renumbered a (outside_of c) s k.0, tt)) k.1

pub closing_in : (a : Arena) (es : List Entry) (count first : ℕ) (second : Option ℕ) → EntriesIn a es → StepsIn a (closing_steps_of count es first second)
closing_in a es count first second h =
    let x : Copied = copy_of count es in
    steps_in-append a x.steps (step.Contra (outside_of x first) (option_map (outside_of x) second) ∷ []) (copied_in a (uncopied count) es tt h) (tt, tt)

-- ---- derivations

follow_in : (a : Arena) (before : List Term) (es : List Entry) → derivation.Follow a before es → EntriesIn a es
follow_in a before [] h = tt
follow_in a before (Told t part why ∷ es) h = (tt, follow_in a (before ++ derivation.fact_of a before (Told t part why) ∷ []) es h.1)
follow_in a before (Derived s ∷ es) h = (h.0.1.terms, follow_in a (before ++ derivation.fact_of a before (Derived s) ∷ []) es h.1)

pub course_closes_in : (a : Arena) (es : List Entry) (count first : ℕ) (second : Option ℕ) → derivation.IsDerivation a es → StepsIn a (closing_steps_of count es first second)
course_closes_in a es count first second h = closing_in a es count first second (follow_in a [] es h.follow)

-- ---- steps of a search

-- an id past the end is that of a number
truth_in : (a : Arena) (c : Condition) (t : TermId) → is_truth (question a c) (tree a t) ≡ true → In a t
truth_in a c t h = elim (cases_lt t.0 (length a.nodes)) [
  | inl below ↦ below
  | inr above ↦ absurd (false≢true (sym (past above) ∙ h))
]
  where
    number : is_truth (question a c) (term (Num (pos 0)) no_terms) ≡ false
    number = refl

    past : length a.nodes ≤ t.0 → is_truth (question a c) (tree a t) ≡ false
    past above =
        let many : length (trees_of a.nodes) ≡ length a.nodes = length-trees_of a.nodes in
        ap (is_truth (question a c)) (get_or_past (trees_of a.nodes) t.0 (term (Num (pos 0)) no_terms) (omega (arith, many, above))) ∙ number

chosen : (b : Bool) (x f : Term) → cond b (Some x) None ≡ Some f → b ≡ true
chosen true x f e = refl
chosen false x f e = absurd (cc)

both : (b d : Bool) → (b && d) ≡ true → (b ≡ true) × (d ≡ true)
both true true e = (refl, refl)
both true false e = absurd (false≢true e)
both false d e = absurd (false≢true e)

stated_in : (a : Arena) (c : Condition) (s : Stated) (f : Term) → stated (question a c) s ≡ Some f → StatedIn a s
stated_in a c (Is t true) f h = truth_in a c t (chosen (is_truth (question a c) (tree a t)) (tree a t) f h)
stated_in a c (Is t false) f h = truth_in a c t (chosen (is_truth (question a c) (tree a t)) (negation (tree a t)) f h)
stated_in a c (Same s t) f h =
    let p = both (is_truth (question a c) (tree a s)) (is_truth (question a c) (tree a t)) (chosen (is_truth (question a c) (tree a s) && is_truth (question a c) (tree a t)) (equation (tree a s) (tree a t)) f h) in
    (truth_in a c s p.0, truth_in a c t p.1)

is_stated : (truth : Term → Bool) (o : Option Term) (given : Option (List Term)) (f : Term) → evaluated truth o given ≡ Adds f → (g : Term) × (o ≡ Some g)
is_stated truth None given f h = absurd (cc)
is_stated truth (Some g) given f h = (g, refl)

adds_in : (a : Arena) (c : Condition) (before : List Term) (s : Step) (f : Term) → IsSearchStep s → effect (question a c) before s ≡ Adds f → StepIn a s
adds_in a c before (step.Given k) f own h = tt
adds_in a c before (step.Eval s ks) f own h =
    let is = is_stated (is_truth (question a c)) (stated (question a c) s) (cited before ks) f h in
    stated_in a c s is.0 is.1
adds_in a c before (step.Refl t) f own h = absurd own
adds_in a c before (step.Symm i) f own h = tt
adds_in a c before (step.Trans i j) f own h = tt
adds_in a c before (step.Cong t u ks) f own h = absurd own
adds_in a c before (step.Linear r first second) f own h = absurd own
adds_in a c before (step.Schema kind ts field) f own h = absurd own
adds_in a c before (step.Rule r ts) f own h = absurd own
adds_in a c before (step.Contra i j) f own h = tt

search_in : (a : Arena) (c : Condition) (before : List Term) (es : List Entry) → Follow (question a c) before es → AreSearchSteps es → EntriesIn a es
search_in a c before [] h own = tt
search_in a c before (Told t part why ∷ es) h own = (tt, search_in a c (before ++ fact_in (question a c) before (Told t part why) ∷ []) es h.1 own.1)
search_in a c before (Derived s ∷ es) h own = (adds_in a c before s h.0.0 own.0 h.0.1, search_in a c (before ++ fact_in (question a c) before (Derived s) ∷ []) es h.1 own.1)

pub path_in : (a : Arena) (c : Condition) (cases : List Term) (es : List Entry) → IsPath (question a c) cases es → EntriesIn a es
path_in a c cases es h = search_in a c [] es h.follow h.steps

-- ---- the end

pub closed_in : (a : Arena) (c : Condition) (cases : List Term) (es : List Entry) (steps closing : List Step) (count : ℕ) → IsPath (question a c) cases es → StepsIn a steps → IsClosing es steps count closing → StepsIn a closing
closed_in a c cases es steps closing count path inside h =
    let front : StepsIn a h.ends.front = steps_in-front a h.ends.front (step.Contra h.ends.first h.ends.second ∷ []) (subst (StepsIn a) h.ends.is inside) in
    subst (StepsIn a) (sym h.is)
    (closing_in a (es ++ as_entries h.ends.front) count h.ends.first h.ends.second (entries_in-append a es (as_entries h.ends.front) (path_in a c cases es path) (as_entries_in a h.ends.front front)))
