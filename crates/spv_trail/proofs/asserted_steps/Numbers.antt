-- What steps add to a path.
use Rattle.std.proofs.Common.{◌≡◌, ℕ, ◌+◌, Bool, true, false, ◌&&◌, List, [], ◌∷◌, ◌++◌, length, sym, ap, ◌∙◌, subst, Some, None, cond, arith}
use mathlib.Core.Path.{ap₂}
use mathlib.Core.List.{append_assoc}
use Rattle.std.proofs.lemmas.List.{length_push}
use Rattle.spv_logic.specs.declared.conditions.TermId.{TermId}
use Rattle.spv_logic.specs.Terms.{Term}
use Rattle.spv_logic.specs.Formulas.{negation, equation}
use Rattle.spv_atoms.specs.declared.proofs.Step.{Step}
use Rattle.spv_atoms.specs.declared.proofs.Step.TheVariants.{Eval}
use Rattle.spv_atoms.specs.declared.proofs.Stated.{Stated}
use Rattle.spv_atoms.specs.declared.proofs.Stated.TheVariants.{Is, Same}
use Rattle.spv_proof_rules.specs.Evaluation.{evaluates}
use Rattle.spv_proof_rules.specs.Effects.{Question, Adds, adds_if, cited, effect, evaluated, fact_before, is_truth, numbered, stated}
use Rattle.spv_tableau_rules.specs.constraints.Sayings.{literal}
use Rattle.spv_derivations.specs.declared.derivation.entries.Part.{Part}
use Rattle.spv_derivations.specs.declared.derivation.entries.Entry.{Entry}
use Rattle.spv_derivations.specs.declared.derivation.entries.Entry.TheVariants.{Told, Derived}
use Rattle.spv_derivations.specs.derivation.Derivation as derivation
use Rattle.spv_derivations.proofs.derivation.Growth.{numbered-push, numbered-more}
use Rattle.spv_derivations.specs.branches.Paths.{fact_in, facts_from, facts_in, IsPath, IsSearchStep}
use Rattle.spv_derivations.proofs.branches.Following.{case_behind, step_behind}
use Rattle.spv_trail.specs.asserted_steps.Steps.{IsDerived, HasNumber}

-- ---- numbers

facts_count : (q : Question) (before : List Term) (es : List Entry) → length (facts_from q before es) ≡ length before + length es
facts_count q before [] = omega arith
facts_count q before (e ∷ es) =
    let rest : length (facts_from q (before ++ fact_in q before e ∷ []) es) ≡ length (before ++ fact_in q before e ∷ []) + length es = facts_count q (before ++ fact_in q before e ∷ []) es in
    let one : length (before ++ fact_in q before e ∷ []) ≡ length before + 1 = length_push before (fact_in q before e) in
    omega (arith, rest, one)

pub path_count : (q : Question) (es : List Entry) → length (facts_in q es) ≡ length es
path_count q es =
    let all : length (facts_from q [] es) ≡ length {A = Term} [] + length es = facts_count q [] es in
    omega (arith, all)

-- a fact behind the others has the next number
last_number : (q : Question) (es : List Entry) (all : List Entry) (e : Entry) (f : Term) (n : ℕ) → all ≡ es ++ e ∷ [] → n ≡ length all → numbered (facts_in q es ++ f ∷ []) n ≡ Some f
last_number q es all e f n is count =
    let many : length all ≡ length es + 1 = ap length is ∙ length_push es e in
    let facts_many : length (facts_in q es) ≡ length es = path_count q es in
    numbered-push (facts_in q es) f n (omega (arith, count, many, facts_many))

-- ---- steps

pub step_derived : (q : Question) (es all : List Entry) (s : Step) (n : ℕ) → all ≡ es ++ Derived s ∷ [] → n ≡ length all → IsSearchStep s → (cases : List Term) (f : Term) → IsPath q cases es → effect q (facts_in q es) s ≡ Adds f → IsDerived q cases es all n f
step_derived q es all s n is count own cases f path adds =
    let goes = step_behind q cases es s f path own adds in
    record {
      path = subst (IsPath q cases) (sym is) goes.path;
      grown = record { more = Derived s ∷ []; is = is };
      facts_are = ap (facts_in q) is ∙ goes.facts_are;
      number = ap (λ fs. numbered fs n) (ap (facts_in q) is ∙ goes.facts_are) ∙ last_number q es all (Derived s) f n is count;
    }

pub case_derived : (q : Question) (es all : List Entry) (t : TermId) (part : Part) (why n : ℕ) (cases : List Term) → all ≡ es ++ Told t part why ∷ [] → n ≡ length all → why ≡ length cases + 1 → IsPath q cases es
    → IsDerived q (cases ++ derivation.literal (q.at t) part ∷ []) es all n (derivation.literal (q.at t) part)
case_derived q es all t part why n cases is count next path =
    let goes = case_behind q cases es t part path in
    let here : all ≡ es ++ Told t part (length cases + 1) ∷ [] = is ∙ ap (λ (m : ℕ). es ++ Told t part m ∷ []) next in
    record {
      path = subst (IsPath q (cases ++ derivation.literal (q.at t) part ∷ [])) (sym here) goes.path;
      grown = record { more = Told t part why ∷ []; is = is };
      facts_are = ap (facts_in q) here ∙ goes.facts_are;
      number = ap (λ fs. numbered fs n) (ap (facts_in q) here ∙ goes.facts_are) ∙ last_number q es all (Told t part why) (derivation.literal (q.at t) part) n is count;
    }

-- one fact more, and others behind it
pub derived_number : (q : Question) (cases : List Term) (old new : List Entry) (n : ℕ) (f : Term) → IsDerived q cases old new n f → HasNumber q cases old new n f
derived_number q cases old new n f d = record { path = d.path; grown = d.grown; more = f ∷ []; facts_are = d.facts_are; number = d.number }

pub then_derived : (q : Question) (cases : List Term) (old mid new : List Entry) (m n : ℕ) (f g : Term) → HasNumber q cases old mid m f → IsDerived q cases mid new n g → HasNumber q cases old new n g
then_derived q cases old mid new m n f g first d = record {
  path = d.path;
  grown = record { more = first.grown.more ++ d.grown.more; is = d.grown.is ∙ (ap (λ es. es ++ d.grown.more) first.grown.is ∙ append_assoc old first.grown.more d.grown.more) };
  more = first.more ++ g ∷ [];
  facts_are = d.facts_are ∙ (ap (λ fs. fs ++ g ∷ []) first.facts_are ∙ append_assoc (facts_in q old) first.more (g ∷ []));
  number = d.number;
}

-- what has a number has it where facts come behind
pub number_stays : (q : Question) (cases : List Term) (old new : List Entry) (m n : ℕ) (f g : Term) → HasNumber q cases old new n g → numbered (facts_in q old) m ≡ Some f → numbered (facts_in q new) m ≡ Some f
number_stays q cases old new m n f g h e = ap (λ fs. numbered fs m) h.facts_are ∙ numbered-more (facts_in q old) h.more m f e

-- ---- evaluations

pub stated_is : (q : Question) (t : TermId) (b : Bool) → is_truth q (q.at t) ≡ true → stated q (Is t b) ≡ Some (literal b (q.at t))
stated_is q t true h = ap (λ c. cond c (Some (q.at t)) None) h
stated_is q t false h = ap (λ c. cond c (Some (negation (q.at t))) None) h

pub stated_same : (q : Question) (s t : TermId) → is_truth q (q.at s) ≡ true → is_truth q (q.at t) ≡ true → stated q (Same s t) ≡ Some (equation (q.at s) (q.at t))
stated_same q s t h i = ap₂ (λ c d. cond (c && d) (Some (equation (q.at s) (q.at t))) None) h i

pub evaluation_adds : (q : Question) (facts : List Term) (claim : Stated) (ks : List ℕ) (given : List Term) (f : Term) → stated q claim ≡ Some f → cited facts ks ≡ Some given → evaluates (is_truth q) given f ≡ true
    → effect q facts (Eval claim ks) ≡ Adds f
evaluation_adds q facts claim ks given f says are shown = ap₂ (evaluated (is_truth q)) says are ∙ ap (λ b. adds_if b f) shown

pub one_cited : (facts : List Term) (k : ℕ) (g : Term) → numbered facts k ≡ Some g → cited facts (k ∷ []) ≡ Some (g ∷ [])
one_cited facts k g e = ap (λ o. fact_before o (Some [])) e
