-- How literals are read.
use Rattle.std.proofs.Common.{◌≡◌, Bool, true, false, ◌&&◌, refl, ap, ◌∙◌, Option, Some}
use Rattle.std.proofs.lemmas.Option.{same_Some}
use Rattle.spv_logic.specs.declared.operators.Head.{Head}
use Rattle.spv_logic.specs.declared.operators.Head.TheVariants.{Eq, Lt, Le}
use Rattle.spv_logic.specs.Terms.{Term, term, no_terms, terms}
use Rattle.spv_atoms.proofs.Coefficients.{both_true}
use Rattle.spv_proof_rules.specs.Sums.{Reading, read_if, reading}
use Rattle.spv_tableau_rules.specs.declared.constraints.saying.RowConstraint.{RowConstraint}
use Rattle.spv_tableau_rules.specs.declared.constraints.saying.RowConstraint.TheVariants.{Equal, Below, AtMost, Above, AtLeast, Differs}
use Rattle.spv_tableau_rules.specs.constraints.Sayings.{saying, literal, reading_of}

read_as : (is_number : Term → Bool) (s t : Term) → is_number s ≡ true → is_number t ≡ true → (o : Option Reading) (known x : RowConstraint) → o ≡ reading_of known s t → Some known ≡ Some x
    → read_if (is_number s && is_number t) o ≡ reading_of x s t
read_as is_number s t hs ht o known x is e =
    ap (λ b. read_if b o) (both_true (is_number s) (is_number t) hs ht) ∙ (is ∙ ap (λ y. reading_of y s t) (same_Some known x e))

pub literal_read : (is_number : Term → Bool) (s t : Term) → is_number s ≡ true → is_number t ≡ true → (h : Head) (b : Bool) (x : RowConstraint) → saying h b ≡ Some x
    → reading is_number (literal b (term h (terms s (terms t no_terms)))) ≡ reading_of x s t
literal_read is_number s t hs ht Eq true x e = read_as is_number s t hs ht (reading_of Equal s t) Equal x refl e
literal_read is_number s t hs ht Eq false x e = read_as is_number s t hs ht (reading_of Differs s t) Differs x refl e
literal_read is_number s t hs ht Lt true x e = read_as is_number s t hs ht (reading_of Below s t) Below x refl e
literal_read is_number s t hs ht Lt false x e = read_as is_number s t hs ht (reading_of AtLeast s t) AtLeast x refl e
literal_read is_number s t hs ht Le true x e = read_as is_number s t hs ht (reading_of AtMost s t) AtMost x refl e
literal_read is_number s t hs ht Le false x e = read_as is_number s t hs ht (reading_of Above s t) Above x refl e
literal_read is_number s t hs ht h b x e = absurd (cc)

pub below_read : (is_number : Term → Bool) (s t : Term) → is_number s ≡ true → is_number t ≡ true → reading is_number (term Lt (terms s (terms t no_terms))) ≡ reading_of Below s t
below_read is_number s t hs ht = literal_read is_number s t hs ht Lt true Below refl

pub above_read : (is_number : Term → Bool) (s t : Term) → is_number s ≡ true → is_number t ≡ true → reading is_number (term Lt (terms t (terms s no_terms))) ≡ reading_of Above s t
above_read is_number s t hs ht = literal_read is_number t s ht hs Lt true Below refl
