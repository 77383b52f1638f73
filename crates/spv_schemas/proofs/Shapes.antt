-- What holds of each shape's fact, and where there is none, holds of what a kind says.
use Rattle.std.proofs.Common.{List, [], ◌∷◌, ℤ, pos, Option, Some, None, nat_eq, if◌then◌else◌}
use Rattle.std.specs.Ordering.{int_eq}
use Rattle.spv_logic.specs.declared.names.names.Symbol.{Symbol}
use Rattle.spv_logic.specs.declared.operators.Head.TheVariants as head
use Rattle.spv_logic.specs.Terms.{Term, term, no_terms, terms}
use Rattle.spv_schemas.specs.Facts as facts
use Rattle.spv_schemas.specs.Facts.{two, three, numeral, about_store, about_put, about_put_other, about_set_cell, about_extend, about_one, about_cons, about_quotient, about_numerals}

module _ (P : List Term → Option Term → Type 0) (none : (ts : List Term) → P ts None) where
  pub by_store : (make : Term → Term → Term → Term → Term) → ((a i w j : Term) → P (three head.Store a i w ∷ j ∷ []) (Some (make a i w j))) → (ts : List Term) → P ts (about_store make ts)
  by_store make here (term head.Store (terms a (terms i (terms w no_terms))) ∷ j ∷ []) = here a i w j
  by_store make here ts = none ts

  pub by_put : ((f : Symbol) (r w : Term) → P (two (head.Put f) r w ∷ []) (Some (facts.field_put_same f r w))) → (ts : List Term) → P ts (about_put ts)
  by_put here (term (head.Put f) (terms r (terms w no_terms)) ∷ []) = here f r w
  by_put here ts = none ts

  pub by_put_other : (g : Symbol) → ((f : Symbol) (r w : Term) → P (two (head.Put f) r w ∷ []) (if nat_eq g.0 f.0 then None else Some (facts.field_put_other f r w g))) → (ts : List Term) → P ts (about_put_other ts g)
  by_put_other g here (term (head.Put f) (terms r (terms w no_terms)) ∷ []) = here f r w
  by_put_other g here ts = none ts

  pub by_set_cell : (make : Term → Term → Term → Term → Term) → ((c p w q : Term) → P (three head.SetCell c p w ∷ q ∷ []) (Some (make c p w q))) → (ts : List Term) → P ts (about_set_cell make ts)
  by_set_cell make here (term head.SetCell (terms c (terms p (terms w no_terms))) ∷ q ∷ []) = here c p w q
  by_set_cell make here ts = none ts

  pub by_extend : (make : Term → Term → Term → Term → Term) → ((c p w q : Term) → P (three head.Extend c p w ∷ q ∷ []) (Some (make c p w q))) → (ts : List Term) → P ts (about_extend make ts)
  by_extend make here (term head.Extend (terms c (terms p (terms w no_terms))) ∷ q ∷ []) = here c p w q
  by_extend make here ts = none ts

  pub by_one : (make : Term → Term) → ((t : Term) → P (t ∷ []) (Some (make t))) → (ts : List Term) → P ts (about_one make ts)
  by_one make here (t ∷ []) = here t
  by_one make here ts = none ts

  pub by_cons : (make : Term → Term → Term) → ((x y : Term) → P (two head.Cons x y ∷ []) (Some (make x y))) → (ts : List Term) → P ts (about_cons make ts)
  by_cons make here (term head.Cons (terms x (terms y no_terms)) ∷ []) = here x y
  by_cons make here ts = none ts

  pub by_quotient : (make : Term → ℤ → Term) → ((a : Term) (k : ℤ) → P (a ∷ numeral k ∷ []) (if int_eq k (pos 0) then None else Some (make a k))) → (ts : List Term) → P ts (about_quotient make ts)
  by_quotient make here (a ∷ term (head.Num k) no_terms ∷ []) = here a k
  by_quotient make here ts = none ts

  pub by_numerals : (make : ℤ → ℤ → Term) → ((a k : ℤ) → P (numeral a ∷ numeral k ∷ []) (if int_eq k (pos 0) then None else Some (make a k))) → (ts : List Term) → P ts (about_numerals make ts)
  by_numerals make here (term (head.Num a) no_terms ∷ term (head.Num k) no_terms ∷ []) = here a k
  by_numerals make here ts = none ts
