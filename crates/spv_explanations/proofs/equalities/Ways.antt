-- Ways along links, and their equations.
use Rattle.std.proofs.Common.{◌≡◌, ℕ, List, [], ◌∷◌, ◌++◌, Option, Some, None, refl, sym, ap, ◌∙◌, subst, inl, inr, ◌⊎◌}
use Rattle.std.proofs.lemmas.List.{append-nil, append_assoc}
use Rattle.spv_logic.specs.declared.conditions.TermId.{TermId}
use Rattle.spv_logic.specs.Terms.{Term}
use Rattle.spv_logic.specs.Formulas.{equation}
use Rattle.spv_term.specs.Arena.{Arena, IsArena, tree}
use Rattle.spv_congruence.specs.declared.facts.Link.{Link}
use Rattle.spv_congruence.specs.declared.facts.Link.TheVariants.{Told, Congruent}
use Rattle.spv_congruence.specs.Graph.{Graph}
use Rattle.spv_congruence.specs.Explained.{IsLinkOf, IsTelling, Leads}
use Rattle.spv_derivations.specs.declared.derivation.entries.Entry.{Entry}
use Rattle.spv_derivations.specs.derivation.Literals.{literals}
use Rattle.spv_derivations.specs.derivation.Derivation.{Gains, IsDerivation}
use Rattle.spv_derivations.specs.derivation.Sides.{Pair, sides_at}
use Rattle.spv_derivations.proofs.derivation.Equations.{sides-state, sides_at-more}
use Rattle.spv_explanations.specs.declared.equalities.known.Pair as known_pair
use Rattle.spv_explanations.specs.declared.equalities.links.Way.{Way}
use Rattle.spv_explanations.specs.equalities.Reasons.{Equates, GoesOn, IsBacked}
use Rattle.spv_explanations.specs.equalities.Known.{AreShown, number_of}
use Rattle.spv_explanations.specs.equalities.Links.{AllKnown, AreEnds, IsSoFar, IsWay, LeadsBy, LinkKnown, Reaches}
use Rattle.spv_explanations.proofs.equalities.Shown.{equates-more, shown-more, shown-at}

-- ---- entries that come behind

pub goes_on-same : (es : List Entry) → GoesOn es es
goes_on-same es = record { more = []; is = sym (append-nil es) }

pub goes_on-then : (es more all : List Entry) → GoesOn es more → GoesOn more all → GoesOn es all
goes_on-then es more all g h = record { more = g.more ++ h.more; is = h.is ∙ ap (λ xs. xs ++ h.more) g.is ∙ append_assoc es g.more h.more }

pub goes_on-gains : (a : Arena) (old new : List Entry) (n : ℕ) (t : Term) → Gains a old new n t → GoesOn old new
goes_on-gains a old new n t g = record { more = g.more; is = g.goes_on }

pub goes_on-push : (old new : List Entry) (e : Entry) → new ≡ old ++ e ∷ [] → GoesOn old new
goes_on-push old new e h = record { more = e ∷ []; is = h }

pub goes_on-is : (old new : List Entry) → new ≡ old → GoesOn old new
goes_on-is old new h = record { more = []; is = h ∙ sym (append-nil old) }

pub sides-more : (a : Arena) (old new : List Entry) (n : ℕ) (p : Pair) → GoesOn old new → sides_at a old n ≡ Some p → sides_at a new n ≡ Some p
sides-more a old new n p g h = ap (λ es. sides_at a es n) g.is ∙ sides_at-more a old g.more n p h

pub backed-more : (a : Arena) (g : Graph) (old new : List Entry) → GoesOn old new → IsBacked a g old → IsBacked a g new
backed-more a g old new on h = record { each = λ place x at e. sides-more a old new x.why (x.left, x.right) on (h.each place x at e) }

module _ (a : Arena) where
  equates-ids : (es : List Entry) (n : ℕ) (s t p q : TermId) → s ≡ p → t ≡ q → Equates a es n s t → Equates a es n p q
  equates-ids es n s t p q e f h = h ∙ ap Some (λ i. equation (tree a (e i)) (tree a (f i)))

  pub so_far-more : (old new : List Entry) (s t : TermId) (n : Option ℕ) → GoesOn old new → IsSoFar a old s t n → IsSoFar a new s t n
  so_far-more old new s t None g h = h
  so_far-more old new s t (Some n) g h = equates-more a old new n s t g h

  -- ---- an equality that was told

  module _ (ok : IsArena a) (es : List Entry) (f : IsDerivation a es) (why : ℕ) (p : Pair) (sides : sides_at a es why ≡ Some p) where
    pub told-equates : Equates a es why p.0 p.1
    told-equates = sides-state a ok es why p.0 p.1 f sides

    -- from its left side
    pub told-forward : (at t : TermId) → p.0 ≡ at → AreEnds (sides_at a es why) at t → Reaches a es es at t (record { at = p.1; number = Some why })
    told-forward at t e ends = by (subst (λ o. AreEnds o at t) sides ends)
      where
        by : ((p.0 ≡ at) × (p.1 ≡ t)) ⊎ ((p.0 ≡ t) × (p.1 ≡ at)) → Reaches a es es at t (record { at = p.1; number = Some why })
        by (inl h) = record { goes_on = goes_on-same es; derivation = f; at = h.1; so_far = equates-ids es why p.0 p.1 at t e h.1 told-equates }
        by (inr h) =
            let to : p.1 ≡ t = h.1 ∙ sym e ∙ h.0 in
            record { goes_on = goes_on-same es; derivation = f; at = to; so_far = equates-ids es why p.0 p.1 at t e to told-equates }

    -- from its right side, by the equation with exchanged sides
    pub told-backward : (new : List Entry) (n : ℕ) (at t : TermId) → (p.0 ≡ at → ⊥) → AreEnds (sides_at a es why) at t → Gains a es new n (equation (tree a p.1) (tree a p.0))
        → Reaches a es new at t (record { at = p.0; number = Some n })
    told-backward new n at t apart ends g = by (subst (λ o. AreEnds o at t) sides ends)
      where
        by : ((p.0 ≡ at) × (p.1 ≡ t)) ⊎ ((p.0 ≡ t) × (p.1 ≡ at)) → Reaches a es new at t (record { at = p.0; number = Some n })
        by (inl h) = absurd (apart h.0)
        by (inr h) = record { goes_on = goes_on-gains a es new n _ g; derivation = g.derivation; at = h.0; so_far = equates-ids new n p.1 p.0 at t h.1 h.0 g.fact }

  -- ---- a link of congruent terms

  pub congruent-reaches : (es : List Entry) (known : List (known_pair.Pair × ℕ)) (p q at t : TermId) (o : Option ℕ) → IsDerivation a es → AreShown a es known → number_of known p q ≡ o
      → LeadsBy a es known (Congruent p q) at t → Reaches a es es at t (record { at = q; number = o })
  congruent-reaches es known p q at t None f shown e h = absurd (no (sym e ∙ h.2.1))
    where
      no : {n : ℕ} → None ≡ Some n → ⊥
      no x = cc
  congruent-reaches es known p q at t (Some n) f shown e h = record {
    goes_on = goes_on-same es;
    derivation = f;
    at = h.1;
    so_far = equates-ids es n p q at t h.0 h.1 (shown-at a es known p q n shown e);
  }

  -- ---- two ways, one behind the other

  pub linked-none : (es : List Entry) (s t u : TermId) (o : Option ℕ) → IsDerivation a es → s ≡ t → IsSoFar a es t u o → Reaches a es es s u (record { at = u; number = o })
  linked-none es s t u o f e h = record { goes_on = goes_on-same es; derivation = f; at = refl; so_far = subst (λ x. IsSoFar a es x u o) (sym e) h }

  pub linked-same : (es : List Entry) (s t u : TermId) (n : ℕ) → IsDerivation a es → Equates a es n s t → t ≡ u → Reaches a es es s u (record { at = u; number = Some n })
  linked-same es s t u n f h e = record { goes_on = goes_on-same es; derivation = f; at = refl; so_far = subst (λ x. Equates a es n s x) e h }

  pub linked-both : (es new : List Entry) (s u : TermId) (n : ℕ) → Gains a es new n (equation (tree a s) (tree a u)) → Reaches a es new s u (record { at = u; number = Some n })
  linked-both es new s u n g = record { goes_on = goes_on-gains a es new n _ g; derivation = g.derivation; at = refl; so_far = g.fact }

  -- a way goes one link further
  pub extended-reaches : (old mid new : List Entry) (s at t : TermId) (before : Option ℕ) (w : Way) (n : Option ℕ) → IsSoFar a old s at before → Reaches a old mid at t w
      → (IsSoFar a mid s at before → IsSoFar a mid at t w.number → Reaches a mid new s t (record { at = t; number = n })) → Reaches a old new s t (record { at = w.at; number = n })
  extended-reaches old mid new s at t before w n h r link =
      let last = link (so_far-more old mid s at before r.goes_on h) r.so_far in
      record { goes_on = goes_on-then old mid new r.goes_on last.goes_on; derivation = last.derivation; at = r.at; so_far = last.so_far }

  -- ---- all links

  leads-more : (old new : List Entry) (known : List (known_pair.Pair × ℕ)) (l : Link) (s t : TermId) → GoesOn old new → LeadsBy a old known l s t → LeadsBy a new known l s t
  leads-more old new known (Congruent p q) s t g h = h
  leads-more old new known (Told why) s t g h = by_option (sides_at a old why) refl h
    where
      by_option : (o : Option Pair) → sides_at a old why ≡ o → AreEnds o s t → AreEnds (sides_at a new why) s t
      by_option None e k = absurd k
      by_option (Some p) e k = subst (λ o. AreEnds o s t) (sym (sides-more a old new why p g e)) k

  pub way-more : (old new : List Entry) (known : List (known_pair.Pair × ℕ)) (s t : TermId) (ls : List Link) → GoesOn old new → IsWay a old known s ls t → IsWay a new known s ls t
  way-more old new known s t [] g h = h
  way-more old new known s t (l ∷ ls) g h = (h.0, leads-more old new known l s h.0 g h.1, way-more old new known h.0 t ls g h.2)

  -- the links of an explanation are a way, where the congruent terms are known
  module _ (g : Graph) (es : List Entry) (backed : IsBacked a g es) (known : List (known_pair.Pair × ℕ)) (k : ℕ) where
    telling-ends : (why : ℕ) (s t : TermId) → IsTelling g why s t → AreEnds (sides_at a es why) s t
    telling-ends why s t h =
        let sides : sides_at a es why ≡ Some (h.fact.left, h.fact.right) = ap (sides_at a es) (sym h.why_is) ∙ backed.each h.place h.fact h.there h.equal in
        subst (λ o. AreEnds o s t) (sym sides) h.sides

    link-leads : (l : Link) (s t : TermId) → IsLinkOf g k l s t → LinkKnown known l → LeadsBy a es known l s t
    link-leads (Told why) s t h m = telling-ends why s t h
    link-leads (Congruent p q) s t h m = (h.0, h.1, m)

    pub leads-way : (ls : List Link) (s t : TermId) → Leads g k s ls t → AllKnown known ls → IsWay a es known s ls t
    leads-way [] s t h m = h
    leads-way (l ∷ ls) s t h m = (h.0, link-leads l s h.0 h.1 m.0, leads-way ls h.0 t h.2 m.1)

-- ---- the loop along the links

-- the links so far were passed: there is a fact from the first term to the one that is reached, and a way on
pub record Chained (a : Arena) (start es : List Entry) (known : List (known_pair.Pair × ℕ)) (s t : TermId) (w : Way) (ls : List Link) : Type 0 where
  pub goes_on : GoesOn start es
  pub literals_same : literals es ≡ literals start
  pub derivation : IsDerivation a es
  pub shown : AreShown a es known
  pub so_far : IsSoFar a es s w.at w.number
  pub way : IsWay a es known w.at ls t

pub chained-next : (a : Arena) (start es new : List Entry) (known : List (known_pair.Pair × ℕ)) (s t : TermId) (w v : Way) (l : Link) (ls : List Link) → Chained a start es known s t w (l ∷ ls)
    → ((u : TermId) → IsDerivation a es → AreShown a es known → IsSoFar a es s w.at w.number → LeadsBy a es known l w.at u → Reaches a es new s u v) → literals new ≡ literals es → Chained a start new known s t v ls
chained-next a start es new known s t w v l ls c step told =
    let u = c.way.0 in
    let r = step u c.derivation c.shown c.so_far c.way.1 in
    record {
      goes_on = goes_on-then start es new c.goes_on r.goes_on;
      literals_same = told ∙ c.literals_same;
      derivation = r.derivation;
      shown = shown-more a es new known r.goes_on c.shown;
      so_far = subst (λ x. IsSoFar a new s x v.number) (sym r.at) r.so_far;
      way = subst (λ x. IsWay a new known x ls t) (sym r.at) (way-more a es new known u t ls r.goes_on c.way.2);
    }

-- where all links were passed, the fact of the number equates the two terms
pub chained-all : (a : Arena) (start es : List Entry) (known : List (known_pair.Pair × ℕ)) (s t : TermId) (w : Way) (n : ℕ) → Chained a start es known s t w [] → w.number ≡ Some n
    → Gains a start es n (equation (tree a s) (tree a t))
chained-all a start es known s t w n c e = record {
  more = c.goes_on.more;
  goes_on = c.goes_on.is;
  derivation = c.derivation;
  fact = equates-ids a es n s w.at s t refl c.way (subst (λ o. IsSoFar a es s w.at o) e c.so_far);
}

-- without links the two are one term
pub chained-none : (a : Arena) (start es new : List Entry) (known : List (known_pair.Pair × ℕ)) (s t : TermId) (w : Way) (n : ℕ) → Chained a start es known s t w [] → w.number ≡ None
    → Gains a es new n (equation (tree a s) (tree a s)) → Gains a start new n (equation (tree a s) (tree a t))
chained-none a start es new known s t w n c e g =
    let same : s ≡ t = subst (λ o. IsSoFar a es s w.at o) e c.so_far ∙ c.way in
    let on = goes_on-then start es new c.goes_on (goes_on-gains a es new n _ g) in
    record { more = on.more; goes_on = on.is; derivation = g.derivation; fact = equates-ids a new n s s s t refl same g.fact }
