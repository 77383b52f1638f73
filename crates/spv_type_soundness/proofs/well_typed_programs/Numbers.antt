-- New numbers without gaps, and the forms that have them.
use Rattle.std.proofs.Common.{arith, ◌≡◌, ℕ, zero, suc, ◌+◌, ◌<◌, Bool, true, false, cond, List, [], ◌∷◌, Some, nat_eq, refl, sym, ap, ◌∙◌}
use Rattle.std.proofs.lemmas.Bool.{eqb-true, eq-eqb}
use Rattle.spv_logic.specs.declared.names.names.Symbol.{Symbol}
use Rattle.spv_logic.specs.declared.types.TypeId.{TypeId}
use Rattle.spv_program.specs.declared.types.TypeForm.{TypeForm}
use Rattle.spv_program.specs.Lists.{item_at}
use Rattle.spv_program.proofs.SortFacts.{nothing_there, some_is}
use Rattle.spv_typing.specs.Merging.{Written, kinds_before, form_with, form_of, forms_from}

moved : (n m : ℕ) → n + suc m ≡ suc n + m
moved n m = omega arith

none_more : (n : ℕ) → n + 0 ≡ n
none_more n = omega arith

-- the head of a list of firsts, where it leads its kind
head_leads : (f place : ℕ) → Some f ≡ Some (place + 0) → nat_eq f place ≡ true
head_leads f place e = eq-eqb f place (some_is e ∙ none_more place)

kinds_step : (n place f : ℕ) (fs : List ℕ) (b : Bool) → nat_eq f place ≡ b
    → kinds_before (suc n) place (f ∷ fs) ≡ cond b (suc (kinds_before n (suc place) fs)) (kinds_before n (suc place) fs)
kinds_step n place f fs b e = ap (λ c. cond c (suc (kinds_before n (suc place) fs)) (kinds_before n (suc place) fs)) e

-- one that leads its kind has a smaller new number than those behind it
pub kinds_less : (i j place : ℕ) (fs : List ℕ) → i < j → item_at fs i ≡ Some (place + i) → kinds_before i place fs < kinds_before j place fs
kinds_less i j place [] h e = absurd (nothing_there e)
kinds_less zero zero place (f ∷ fs) h e = absurd (no h)
  where
    no : 0 < 0 → ⊥
    no h = omega arith
kinds_less zero (suc j) place (f ∷ fs) h e = some _ _ (kinds_step j place f fs true (head_leads f place e))
  where
    some : (a b : ℕ) → a ≡ suc b → 0 < a
    some a b e = omega arith
kinds_less (suc i) zero place (f ∷ fs) h e = absurd (no i h)
  where
    no : (i : ℕ) → suc i < 0 → ⊥
    no i h = omega arith
kinds_less (suc i) (suc j) place (f ∷ fs) h e =
    by_head (nat_eq f place) refl (kinds_less i j (suc place) fs (one_less i j h) (e ∙ ap Some (moved place i)))
  where
    one_less : (i j : ℕ) → suc i < suc j → i < j
    one_less i j h = omega arith

    both : (a b c d : ℕ) → a ≡ suc c → b ≡ suc d → c < d → a < b
    both a b c d e f h = omega arith

    neither : (a b c d : ℕ) → a ≡ c → b ≡ d → c < d → a < b
    neither a b c d e f h = omega arith

    by_head : (b : Bool) → nat_eq f place ≡ b → kinds_before i (suc place) fs < kinds_before j (suc place) fs
        → kinds_before (suc i) place (f ∷ fs) < kinds_before (suc j) place (f ∷ fs)
    by_head true k h = both _ _ _ _ (kinds_step i place f fs true k) (kinds_step j place f fs true k) h
    by_head false k h = neither _ _ _ _ (kinds_step i place f fs false k) (kinds_step j place f fs false k) h

-- where the first ones all lead their kinds, they keep their numbers
pub kinds_same : (i place : ℕ) (fs : List ℕ) → ((k : ℕ) → k < i → item_at fs k ≡ Some (place + k)) → kinds_before i place fs ≡ i
kinds_same zero place fs h = refl
kinds_same (suc i) place [] h = absurd (nothing_there (h 0 (first i)))
  where
    first : (i : ℕ) → 0 < suc i
    first i = omega arith
kinds_same (suc i) place (f ∷ fs) h =
    kinds_step i place f fs true (head_leads f place (h 0 (first i)))
    ∙ ap suc (kinds_same i (suc place) fs (λ k g. h (suc k) (one_more k i g) ∙ ap Some (moved place k)))
  where
    first : (i : ℕ) → 0 < suc i
    first i = omega arith

    one_more : (k i : ℕ) → k < i → suc k < suc i
    one_more k i g = omega arith

module _ (names : List (Symbol × TypeId)) (new : TypeId → TypeId) where
  abbrev formed : Written → TypeForm
  formed w = form_with new (form_of names w)

  forms_step : (place f : ℕ) (fs : List ℕ) (w : Written) (ws : List Written) (b : Bool) → nat_eq f place ≡ b
      → forms_from names new place (f ∷ fs) (w ∷ ws)
      ≡ cond b (formed w ∷ forms_from names new (suc place) fs ws) (forms_from names new (suc place) fs ws)
  forms_step place f fs w ws b e =
      ap (λ c. cond c (formed w ∷ forms_from names new (suc place) fs ws) (forms_from names new (suc place) fs ws)) e

  -- the form of one that leads its kind stands at its new number
  pub form_at_new : (i place : ℕ) (fs : List ℕ) (ws : List Written) (w : Written) → item_at fs i ≡ Some (place + i) → item_at ws i ≡ Some w
      → item_at (forms_from names new place fs ws) (kinds_before i place fs) ≡ Some (form_with new (form_of names w))
  form_at_new i place [] ws w e h = absurd (nothing_there e)
  form_at_new i place (f ∷ fs) [] w e h = absurd (nothing_there h)
  form_at_new zero place (f ∷ fs) (v ∷ ws) w e h =
      ap (λ l. item_at l 0) (forms_step place f fs v ws true (head_leads f place e)) ∙ ap (λ u. Some (formed u)) (some_is h)
  form_at_new (suc i) place (f ∷ fs) (v ∷ ws) w e h =
      by_head (nat_eq f place) refl (form_at_new i (suc place) fs ws w (e ∙ ap Some (moved place i)) h)
    where
      by_head : (b : Bool) → nat_eq f place ≡ b
          → item_at (forms_from names new (suc place) fs ws) (kinds_before i (suc place) fs) ≡ Some (form_with new (form_of names w))
          → item_at (forms_from names new place (f ∷ fs) (v ∷ ws)) (kinds_before (suc i) place (f ∷ fs))
          ≡ Some (form_with new (form_of names w))
      by_head true k r =
          ap (λ l. item_at l (kinds_before (suc i) place (f ∷ fs))) (forms_step place f fs v ws true k)
          ∙ (ap (item_at (formed v ∷ forms_from names new (suc place) fs ws)) (kinds_step i place f fs true k) ∙ r)
      by_head false k r =
          ap (λ l. item_at l (kinds_before (suc i) place (f ∷ fs))) (forms_step place f fs v ws false k)
          ∙ (ap (item_at (forms_from names new (suc place) fs ws)) (kinds_step i place f fs false k) ∙ r)

  -- where a form comes from: a type that leads its kind
  pub record Source (place : ℕ) (fs : List ℕ) (ws : List Written) (j : ℕ) (g : TypeForm) : Type 0 where
    pub old : ℕ
    pub leads : item_at fs old ≡ Some (place + old)
    pub written : Written
    pub at : item_at ws old ≡ Some written
    pub form : form_with new (form_of names written) ≡ g
    pub number : kinds_before old place fs ≡ j

  further : (place f : ℕ) (fs : List ℕ) (w : Written) (ws : List Written) (j : ℕ) (g : TypeForm) → nat_eq f place ≡ false
      → Source (suc place) fs ws j g → Source place (f ∷ fs) (w ∷ ws) j g
  further place f fs w ws j g k r = record {
    old = suc r.old;
    leads = r.leads ∙ ap Some (sym (moved place r.old));
    written = r.written;
    at = r.at;
    form = r.form;
    number = kinds_step r.old place f fs false k ∙ r.number;
  }

  one_further : (place f : ℕ) (fs : List ℕ) (w : Written) (ws : List Written) (j : ℕ) (g : TypeForm) → nat_eq f place ≡ true
      → Source (suc place) fs ws j g → Source place (f ∷ fs) (w ∷ ws) (suc j) g
  one_further place f fs w ws j g k r = record {
    old = suc r.old;
    leads = r.leads ∙ ap Some (sym (moved place r.old));
    written = r.written;
    at = r.at;
    form = r.form;
    number = kinds_step r.old place f fs true k ∙ ap suc r.number;
  }

  pub source_of : (place : ℕ) (fs : List ℕ) (ws : List Written) (j : ℕ) (g : TypeForm)
      → item_at (forms_from names new place fs ws) j ≡ Some g → Source place fs ws j g
  source_of place [] ws j g e = absurd (nothing_there e)
  source_of place (f ∷ fs) [] j g e = absurd (nothing_there e)
  source_of place (f ∷ fs) (w ∷ ws) j g e = by_head (nat_eq f place) refl j e (λ k h. source_of (suc place) fs ws k g h)
    where
      by_head : (b : Bool) → nat_eq f place ≡ b → (j : ℕ)
          → item_at (cond b (formed w ∷ forms_from names new (suc place) fs ws) (forms_from names new (suc place) fs ws)) j ≡ Some g
          → ((k : ℕ) → item_at (forms_from names new (suc place) fs ws) k ≡ Some g → Source (suc place) fs ws k g)
          → Source place (f ∷ fs) (w ∷ ws) j g
      by_head false k j h rest = further place f fs w ws j g k (rest j h)
      by_head true k zero h rest = record {
        old = 0;
        leads = ap Some (eqb-true f place k ∙ sym (none_more place));
        written = w;
        at = refl;
        form = some_is h;
        number = refl;
      }
      by_head true k (suc j) h rest = one_further place f fs w ws j g k (rest j h)
