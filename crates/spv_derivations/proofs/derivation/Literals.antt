-- The literals of a derivation that goes on, and of its first entries.
use Rattle.std.proofs.Common.{◌≡◌, ℕ, zero, suc, List, [], ◌∷◌, ◌++◌, take, length, slice_get, refl, sym, ap, ◌∙◌, Option, Some, None}
use Rattle.spv_logic.specs.declared.conditions.TermId.{TermId}
use Rattle.spv_logic.specs.Terms.{Term}
use Rattle.spv_term.specs.Arena.{Arena, tree}
use Rattle.spv_atoms.specs.declared.proofs.Step.{Step}
use Rattle.spv_proof_rules.specs.Effects.{numbered}
use Rattle.spv_derivations.specs.declared.derivation.entries.Part.{Part}
use Rattle.spv_derivations.specs.declared.derivation.entries.Entry.{Entry}
use Rattle.spv_derivations.specs.declared.derivation.entries.Entry.TheVariants.{Told, Derived}
use Rattle.spv_derivations.specs.derivation.Derivation.{literal}
use Rattle.spv_derivations.specs.derivation.Steps.{AreTold}
use Rattle.spv_derivations.specs.derivation.Literals.{Literal, literals, AreKnown}

pub literals-append : (es more : List Entry) → literals (es ++ more) ≡ literals es ++ literals more
literals-append [] more = refl
literals-append (Told t part why ∷ es) more = ap (λ ls. record { atom = t; part = part; why = why } ∷ ls) (literals-append es more)
literals-append (Derived s ∷ es) more = literals-append es more

-- an entry more that is derived
pub literals_derived : (old new : List Entry) (s : Step) → new ≡ old ++ Derived s ∷ [] → literals new ≡ literals old
literals_derived old new s e = ap literals e ∙ (literals-append old (Derived s ∷ []) ∙ nothing (literals old))
  where
    nothing : (ls : List Literal) → ls ++ [] ≡ ls
    nothing [] = refl
    nothing (l ∷ ls) = ap (λ ms. l ∷ ms) (nothing ls)

-- and one that was told
pub literals_told : (old new : List Entry) (t : TermId) (part : Part) (why : ℕ) → new ≡ old ++ Told t part why ∷ []
    → literals new ≡ literals old ++ record { atom = t; part = part; why = why } ∷ []
literals_told old new t part why e = ap literals e ∙ literals-append old (Told t part why ∷ [])

-- the literals of the first entries are the first literals
pub literals-take : (es : List Entry) (n : ℕ) → literals (take n es) ≡ take (length (literals (take n es))) (literals es)
literals-take [] zero = refl
literals-take [] (suc n) = refl
literals-take (Told t part why ∷ es) zero = refl
literals-take (Told t part why ∷ es) (suc n) = ap (λ ls. record { atom = t; part = part; why = why } ∷ ls) (literals-take es n)
literals-take (Derived s ∷ es) zero = refl
literals-take (Derived s ∷ es) (suc n) = literals-take es n

-- where each literal is a fact of the path, so is each entry that was told
pub are_told : (a : Arena) (known : List Term) (es : List Entry) → AreKnown a known (literals es) → AreTold a known es
are_told a known es h = record { each = each es h.each }
  where
    each : (es : List Entry) → ((i : ℕ) (l : Literal) → slice_get (literals es) i ≡ Some l → numbered known l.why ≡ Some (literal (tree a l.atom) l.part))
        → (i : ℕ) (t : TermId) (part : Part) (why : ℕ) → slice_get es i ≡ Some (Told t part why) → numbered known why ≡ Some (literal (tree a t) part)
    each [] k i t part why at = absurd (cc)
    each (Told u p w ∷ es) k zero t part why at =
        let terms : u ≡ t = cc in
        let parts : p ≡ part = cc in
        let numbers : w ≡ why = cc in
        ap (numbered known) (sym numbers) ∙ (k 0 (record { atom = u; part = p; why = w }) refl ∙ (ap (λ x. Some (literal (tree a x) p)) terms ∙ ap (λ q. Some (literal (tree a t) q)) parts))
    each (Told u p w ∷ es) k (suc i) t part why at = each es (λ j l there. k (suc j) l there) i t part why at
    each (Derived s ∷ es) k zero t part why at = absurd (cc)
    each (Derived s ∷ es) k (suc i) t part why at = each es k i t part why at
