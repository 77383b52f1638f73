-- The questions are told one after the other.
use Rattle.std.proofs.Common.{◌≡◌, ℕ, zero, suc, ◌+◌, ◌<◌, ◌≤◌, ◌⊎◌, Bool, List, [], ◌++◌, length, refl, sym, ap, ◌∙◌, subst, Option, Some, None, inl, inr, arith}
use mathlib.Core.List.{append_assoc}
use Rattle.std.specs.Prelude.{slice_get, get_or, IfSome}
use Rattle.std.proofs.lemmas.List.{append-nil}
use Rattle.std.proofs.lemmas.Option.{slice_get-get_or, slice_get_within}
use Rattle.spv_logic.specs.declared.conditions.TermId.{TermId}
use Rattle.spv_logic.specs.Terms.{Term}
use Rattle.spv_term.specs.declared.nodes.Condition.{Condition}
use Rattle.spv_term.specs.Arena.{Arena, tree}
use Rattle.spv_congruence.specs.Keep.{IsNode}
use Rattle.spv_derivations.specs.declared.derivation.entries.Entry.{Entry}
use Rattle.spv_derivations.specs.derivation.Literals.{Literal}
use Rattle.spv_share.specs.declared.both.Both.{Both}
use Rattle.spv_share.specs.Both.{IsBoth, Stays, told}
use Rattle.spv_share.proofs.Claiming.{stays_then}
use Rattle.spv_derivations.specs.branches.Paths.{IsGrown}
use Rattle.spv_assignments.specs.kleene.Passes.{at}
use Rattle.spv_assignments.specs.declared.partial_assignment.facts.Known.{Known}
use Rattle.spv_trail.specs.trail_states.Told.{IsToldWith, values_of}
use Rattle.spv_trail.proofs.trail_states.Growing.{with_longer}
use Rattle.spv_trail.specs.propagation.Learning.{IsLonger}
use Rattle.spv_trail.specs.propagation.Telling.{AreToldAs, Goes, IsTellable, IsTelling, ListsValuesOf, TellsChange, TellsValue, TellsValues}
use Rattle.spv_trail.proofs.propagation.Citing.{not_grown}
use Rattle.spv_trail.proofs.propagation.Learned.{grown_then}

-- ---- both sides were told more

pub longer_then : {A : Type 0} (xs ys zs : List A) → IsLonger xs ys → IsLonger ys zs → IsLonger xs zs
longer_then xs ys zs g h = record { more = g.more ++ h.more; is = h.is ∙ (ap (λ us. us ++ h.more) g.is ∙ append_assoc xs g.more h.more) }

pub stays_same : (b : Both) → Stays b b
stays_same b = record { nodes = refl; terms = refl; truth = refl; falsity = refl; relations = refl; forms = refl; pivots = refl }

pub goes_same : (a : Arena) (b : Both) → Goes a b b
goes_same a b = record { longer = record { more = []; is = sym (append-nil (told b)) }; levels = λ l h. h; stays = stays_same b }

pub goes_then : (a : Arena) (x y z : Both) → Goes a x y → Goes a y z → Goes a x z
goes_then a x y z g h = record {
  longer = longer_then (told x) (told y) (told z) g.longer h.longer;
  levels = λ l k. h.levels l (g.levels l k);
  stays = stays_then x y z g.stays h.stays;
}

-- what may be told may be told then, too
pub tellable_then : (a : Arena) (c : Condition) (x y : Both) (t : TermId) → Stays x y → IsTellable a c x t → IsTellable a c y t
tellable_then a c x y t stays h = record { formula = h.formula; asked = h.asked; node = subst (λ ns. IsNode ns t) (sym stays.nodes) h.node }

-- what was told stays told
pub still_told : (a : Arena) (x y : Both) (t : Term) (b : Bool) → Goes a x y → IsToldWith a (told x) t b → IsToldWith a (told y) t b
still_told a x y t b g h = subst (λ (ls : List Literal). IsToldWith a ls t b) (sym g.longer.is) (with_longer a (told x) g.longer.more t b h)

-- ---- one question

pub nothing_told : (a : Arena) (c : Condition) (cases : List Term) (es : List Entry) (ks : List Known) (b : Both) (t : TermId) (before now : Option Bool) → now ≡ None → IsTelling a c cases es ks b → TellsChange a c cases es es ks b b t before now
nothing_told a c cases es ks b t before now none telling = record { telling = telling; grown = not_grown es; answered = λ v e f. absurd (no_value v (sym none ∙ e)) }
  where
    no_value : (v : Bool) → None ≡ Some v → ⊥
    no_value v e = cc

some_same : (x y : Bool) → Some x ≡ Some y → x ≡ y
some_same x y e = cc

pub told_before : (a : Arena) (c : Condition) (cases : List Term) (es : List Entry) (ks : List Known) (b : Both) (t : TermId) (before now : Option Bool) (truth : Bool) → now ≡ Some truth → before ≡ Some truth → IsTelling a c cases es ks b → TellsChange a c cases es es ks b b t before now
told_before a c cases es ks b t before now truth is was telling = record { telling = telling; grown = not_grown es; answered = λ v e f. f (was ∙ (sym is ∙ e)) }

pub told_now : (a : Arena) (c : Condition) (cases : List Term) (es es2 : List Entry) (ks : List Known) (old new : Both) (t : TermId) (before now : Option Bool) (truth : Bool) → now ≡ Some truth → TellsValue a c cases es es2 ks new t truth → TellsChange a c cases es es2 ks old new t before now
told_now a c cases es es2 ks old new t before now truth is h = record {
  telling = h.telling;
  grown = h.grown;
  answered = λ v e f. subst (λ (w : Bool). IsToldWith a (told new) (tree a t) w) (some_same truth v (sym is ∙ e)) h.answered;
}

-- ---- the first questions

-- the first so many questions were told
pub record AreTold (a : Arena) (c : Condition) (es0 es : List Entry) (ks : List Known) (old new : Both) (asked : List TermId) (before now : List (Option Bool)) (count : ℕ) : Type 0 where
  pub both : IsBoth a new
  pub goes : Goes a old new
  pub telling : (cases : List Term) → IsTelling a c cases es0 ks old → IsTelling a c cases es ks new × IsGrown es0 es
  pub answered : (cases : List Term) → IsTelling a c cases es0 ks old → AreToldAs a asked before (told old)
      → (i : ℕ) (t : TermId) (b : Bool) → i < count → slice_get asked i ≡ Some t → at now t.0 ≡ Some b → IsToldWith a (told new) (tree a t) b

pub none_told : (a : Arena) (c : Condition) (es : List Entry) (ks : List Known) (b : Both) (asked : List TermId) (before now : List (Option Bool)) → IsBoth a b → AreTold a c es es ks b b asked before now 0
none_told a c es ks b asked before now both = record {
  both = both;
  goes = goes_same a b;
  telling = λ cases h. (h, not_grown es);
  answered = λ cases h k i t v less at_it e. absurd (omega (arith, less));
}

pub earlier_or_here : (i n : ℕ) → i < suc n → (i < n) ⊎ (i ≡ n)
earlier_or_here zero zero h = inr refl
earlier_or_here zero (suc n) h = inl (omega arith)
earlier_or_here (suc i) zero h = absurd (omega (arith, h))
earlier_or_here (suc i) (suc n) h = elim (earlier_or_here i n (omega (arith, h))) [ inl k ↦ inl (omega (arith, k)) | inr e ↦ inr (ap (λ (m : ℕ). suc m) e) ]

module _ (a : Arena) (c : Condition) (es0 es es2 : List Entry) (ks : List Known) (old mid new : Both) (asked : List TermId) (before now : List (Option Bool)) (n : ℕ) (d : TermId) where
  abbrev item : TermId
  item = get_or asked n d

  pub one_more_told : (was is : Option Bool) → was ≡ at before item.0 → is ≡ at now item.0 → AreTold a c es0 es ks old mid asked before now n → n < length asked → IsBoth a new → Goes a mid new
      → ((cases : List Term) → IsTelling a c cases es ks mid → TellsChange a c cases es es2 ks mid new item was is) → AreTold a c es0 es2 ks old new asked before now (n + 1)
  one_more_told was is was_at is_at so_far less both goes tells = record {
    both = both;
    goes = goes_then a old mid new so_far.goes goes;
    telling = λ cases h. let k = so_far.telling cases h in let t = tells cases k.0 in (t.telling, grown_then es0 es es2 k.1 t.grown);
    answered = λ cases h k i t b below at_it e. elim (earlier_or_here i n (omega (arith, below))) [
      | inl earlier ↦ still_told a mid new (tree a t) b goes (so_far.answered cases h k i t b earlier at_it e)
      | inr here ↦ last cases h k t b (subst (λ (j : ℕ). slice_get asked j ≡ Some t) here at_it) e
    ];
  }
    where
      there : slice_get asked n ≡ Some item
      there = slice_get-get_or asked n d less

      same : (t : TermId) → slice_get asked n ≡ Some t → item ≡ t
      same t e = let both_are : Some item ≡ Some t = sym there ∙ e in cc

      last : (cases : List Term) → IsTelling a c cases es0 ks old → AreToldAs a asked before (told old) → (t : TermId) (b : Bool) → slice_get asked n ≡ Some t → at now t.0 ≡ Some b → IsToldWith a (told new) (tree a t) b
      last cases h k t b at_it e =
          let it : item ≡ t = same t at_it in
          subst (λ (u : TermId). IsToldWith a (told new) (tree a u) b) it
          ((tells cases (so_far.telling cases h).0).answered b (is_at ∙ (ap (λ (u : TermId). at now u.0) it ∙ e))
          (λ f. still_told a old mid (tree a item) b so_far.goes (k.each n item b there (sym was_at ∙ f))))

pub all_told : (a : Arena) (c : Condition) (es0 es : List Entry) (ks : List Known) (old new : Both) (asked : List TermId) (before now : List (Option Bool)) (n : ℕ) → AreTold a c es0 es ks old new asked before now n → length asked ≤ n
    → (cases : List Term) → IsTelling a c cases es0 ks old → TellsValues a c cases es0 es ks old new asked before now
all_told a c es0 es ks old new asked before now n h all cases t =
    let k = h.telling cases t in
    record {
      telling = k.0;
      grown = k.1;
      answered = λ was. record { each = λ i u b at_it e. let w = slice_get_within asked i u at_it in h.answered cases t was i u b (omega (arith, w, all)) at_it e };
    }

-- ---- values that are listed

pub listed_value : (a : Arena) (ks : List Known) (values : List (Option Bool)) (t : TermId) (o : Option Bool) → ListsValuesOf a ks values → t.0 < length a.nodes → o ≡ at values t.0 → (b : Bool) → o ≡ Some b → values_of a ks (tree a t) ≡ Some b
listed_value a ks values t o lists within is b e = sym (lists.each t within) ∙ (sym is ∙ e)

pub if_some_value : (a : Arena) (ks : List Known) (values : List (Option Bool)) (t : TermId) (o : Option Bool) → ListsValuesOf a ks values → t.0 < length a.nodes → o ≡ at values t.0 → IfSome o (λ b. values_of a ks (tree a t) ≡ Some b)
if_some_value a ks values t None lists within is = tt
if_some_value a ks values t (Some b) lists within is = listed_value a ks values t (Some b) lists within is b refl
