-- Steps and their shapes.
use Rattle.std.proofs.Common.{◌≡◌, ℕ, Bool, true, false, List, [], ◌∷◌, map, Option, Some, None, unwrap_or, if◌then◌else◌, refl, sym, ap, ◌∙◌, subst, Result, Ok, Err, IfOk}
use Rattle.std.specs.List.{filter}
use Rattle.std.proofs.lemmas.Option.{same_Some}
use Rattle.std.specs.Option.{option_map}
use Rattle.spv_whole.specs.Fraction.{Fraction}
use Rattle.spv_logic.specs.declared.conditions.TermId.{TermId}
use Rattle.spv_atoms.specs.declared.proofs.Step.{Step}
use Rattle.spv_atoms.specs.declared.proofs.Step.TheVariants as step
use Rattle.spv_atoms.specs.Steps as word
use Rattle.spv_atoms.specs.Steps.{Word, StepPart, Number, Fact, OtherFact, Facts, One, Several, Sums, States, Field, Part, Shape, says, shape, step_by, step_of, OfEach, names_terms, cites_facts, OfNaming, OfCiting, multiple_by, part_renumbered, renumbered, with_parts}

-- a step is that of its shape
pub of_shape : (s : Step) → step_of (shape s) ≡ Some s
of_shape (step.Given k) = refl
of_shape (step.Refl t) = refl
of_shape (step.Symm i) = refl
of_shape (step.Trans i j) = refl
of_shape (step.Cong t u ks) = refl
of_shape (step.Linear r first second) = refl
of_shape (step.Schema kind ts field) = refl
of_shape (step.Rule r ts) = refl
of_shape (step.Eval s ks) = refl
of_shape (step.Contra i j) = refl

-- ---- parts

pub of_each-map : {X : Type 0} (P Q : X → Type 0) → ((x : X) → P x → Q x) → (xs : List X) → OfEach P xs → OfEach Q xs
of_each-map P Q f [] h = tt
of_each-map P Q f (x ∷ []) h = f x h
of_each-map P Q f (x ∷ y ∷ xs) h = (f x h.0, of_each-map P Q f (y ∷ xs) h.1)

pub of_each-all : {X : Type 0} (P : X → Type 0) → ((x : X) → P x) → (xs : List X) → OfEach P xs
of_each-all P h [] = tt
of_each-all P h (x ∷ []) = h x
of_each-all P h (x ∷ y ∷ xs) = (h x, of_each-all P h (y ∷ xs))

-- ---- other parts

map-same : {X : Type 0} (f : X → X) → ((x : X) → f x ≡ x) → (xs : List X) → map f xs ≡ xs
map-same f h [] = refl
map-same f h (x ∷ xs) =
    let one = h x in
    let rest = map-same f h xs in
    λ i. one i ∷ rest i

same_multiple : (m : Fraction × ℕ) → multiple_by (λ k. k) m ≡ m
same_multiple m = refl

same_option : (o : Option ℕ) → option_map (λ k. k) o ≡ o
same_option None = refl
same_option (Some k) = refl

same_part : (p : Part) → part_renumbered (λ k. k) p ≡ p
same_part (Number k) = refl
same_part (Fact k) = refl
same_part (OtherFact k) = ap OtherFact (same_option k)
same_part (Facts ks) = ap Facts (map-same (λ k. k) (λ k. refl) ks)
same_part (One t) = refl
same_part (Several ts) = refl
same_part (Sums r first second) =
    let one = map-same (multiple_by (λ k. k)) same_multiple first in
    let two = map-same (multiple_by (λ k. k)) same_multiple second in
    λ i. Sums r (one i) (two i)
same_part (States s) = refl
same_part (Field x) = refl

-- a step with the numbers that it has
pub same_numbers : (s : Step) → renumbered (λ k. k) s ≡ s
same_numbers s = ap (λ ps. unwrap_or (step_by (shape s).word ps) s) (map-same (part_renumbered (λ k. k)) same_part (shape s).parts) ∙ ap (λ o. unwrap_or o s) (of_shape s)

-- no other shape has a step
shape_by : (w : Word) (ps : List Part) (s : Step) → step_by w ps ≡ Some s → shape s ≡ says w ps
shape_by word.Given (Number k ∷ []) s e = ap shape (sym (same_Some _ _ e))
shape_by word.Refl (One t ∷ []) s e = ap shape (sym (same_Some _ _ e))
shape_by word.Symm (Fact i ∷ []) s e = ap shape (sym (same_Some _ _ e))
shape_by word.Trans (Fact i ∷ Fact j ∷ []) s e = ap shape (sym (same_Some _ _ e))
shape_by word.Cong (One t ∷ One u ∷ Facts ks ∷ []) s e = ap shape (sym (same_Some _ _ e))
shape_by word.Linear (Sums r first second ∷ []) s e = ap shape (sym (same_Some _ _ e))
shape_by word.Schema (Number kind ∷ Several ts ∷ Field field ∷ []) s e = ap shape (sym (same_Some _ _ e))
shape_by word.Rule (Number r ∷ Several ts ∷ []) s e = ap shape (sym (same_Some _ _ e))
shape_by word.Eval (States c ∷ Facts ks ∷ []) s e = ap shape (sym (same_Some _ _ e))
shape_by word.Contra (Fact i ∷ OtherFact j ∷ []) s e = ap shape (sym (same_Some _ _ e))
shape_by _ _ s e = absurd (cc)

pub shape_back : (x : Shape) (s : Step) → step_of x ≡ Some s → shape s ≡ x
shape_back x s e = shape_by x.word x.parts s e

pub parts_renumbered : (f : ℕ → ℕ) (s : Step) → shape (renumbered f s) ≡ says (shape s).word (map (part_renumbered f) (shape s).parts)
parts_renumbered f (step.Given k) = refl
parts_renumbered f (step.Refl t) = refl
parts_renumbered f (step.Symm i) = refl
parts_renumbered f (step.Trans i j) = refl
parts_renumbered f (step.Cong t u ks) = refl
parts_renumbered f (step.Linear r first second) = refl
parts_renumbered f (step.Schema kind ts field) = refl
parts_renumbered f (step.Rule r ts) = refl
parts_renumbered f (step.Eval s ks) = refl
parts_renumbered f (step.Contra i j) = refl

-- so is a copy
pub if_same : {E : Type 0} (r : Result Step E) (s t : Step) → s ≡ t → IfOk r (λ x. x ≡ s) → IfOk r (λ x. x ≡ t)
if_same (Ok x) s t e h = h ∙ e
if_same (Err x) s t e h = tt

-- ---- steps with other numbers name the same terms

of_each-changed : {X : Type 0} (P : X → Type 0) (g : X → X) → ((x : X) → P x → P (g x)) → (xs : List X) → OfEach P xs → OfEach P (map g xs)
of_each-changed P g f [] h = tt
of_each-changed P g f (x ∷ []) h = f x h
of_each-changed P g f (x ∷ y ∷ xs) h = (f x h.0, of_each-changed P g f (y ∷ xs) h.1)

names_same : (f : ℕ → ℕ) (p : Part) → names_terms (part_renumbered f p) ≡ names_terms p
names_same f (Number k) = refl
names_same f (Fact k) = refl
names_same f (OtherFact k) = refl
names_same f (Facts ks) = refl
names_same f (One t) = refl
names_same f (Several ts) = refl
names_same f (Sums r first second) = refl
names_same f (States s) = refl
names_same f (Field x) = refl

naming-map : (f : ℕ → ℕ) (ps : List Part) → filter names_terms (map (part_renumbered f) ps) ≡ map (part_renumbered f) (filter names_terms ps)
naming-map f [] = refl
naming-map f (p ∷ ps) = ap (λ b. if b then part_renumbered f p ∷ filter names_terms (map (part_renumbered f) ps) else filter names_terms (map (part_renumbered f) ps)) (names_same f p) ∙ by (names_terms p) (naming-map f ps)
  where
    by : (b : Bool) → filter names_terms (map (part_renumbered f) ps) ≡ map (part_renumbered f) (filter names_terms ps)
        → (if b then part_renumbered f p ∷ filter names_terms (map (part_renumbered f) ps) else filter names_terms (map (part_renumbered f) ps))
        ≡ map (part_renumbered f) (if b then p ∷ filter names_terms ps else filter names_terms ps)
    by true rest = ap (λ xs. part_renumbered f p ∷ xs) rest
    by false rest = rest

pub naming-renumbered : (P : Part → Type 0) (f : ℕ → ℕ) → ((p : Part) → P p → P (part_renumbered f p)) → (s : Step) → OfNaming P s → OfNaming P (renumbered f s)
naming-renumbered P f more s h =
    let parts : (shape (renumbered f s)).parts ≡ map (part_renumbered f) (shape s).parts = ap (λ (x : Shape). x.parts) (parts_renumbered f s) in
    subst (OfEach P) (sym (ap (filter names_terms) parts ∙ naming-map f (shape s).parts)) (of_each-changed P (part_renumbered f) more (filter names_terms (shape s).parts) h)
