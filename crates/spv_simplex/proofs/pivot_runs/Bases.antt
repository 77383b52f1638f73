-- The basis after steps.
use Rattle.std.proofs.Common.{◌≡◌, ℕ, ◌<◌, Bool, true, false, List, [], ◌∷◌, ◌++◌, nat_eq, refl, sym, ap, ◌∙◌, if◌then◌else◌}
use mathlib.Core.Path.{ap₂}
use Rattle.spv_tableau_rules.specs.declared.tableaux.side.Side.{Side}
use Rattle.spv_tableau_rules.specs.tableaux.Rows.{Rows, Point}
use Rattle.spv_tableau_rules.specs.tableaux.Bounds.{Limits, limits}
use Rattle.spv_tableau_rules.specs.tableaux.Solved.{Place, Basic, Held, At, Places, is_basic, basis_of, exchanged}
use Rattle.spv_tableau_rules.specs.tableaux.Steps.{inside, inside_of}
use Rattle.spv_tableau_rules.specs.tableaux.Walks.{Exchange, held_at, Walk, stays, goes}
use Rattle.spv_simplex.specs.pivot_runs.Arrivals.{IsUnderway, in_basis_after, UnderwayBasis}
use Rattle.spv_simplex.proofs.pivot_runs.Placing.{inside_not_basic}

-- the basis after one more step
after_more : (basis : ℕ → Bool) (made : List Exchange) (x : Exchange) (c : ℕ)
    → in_basis_after basis (made ++ x ∷ []) c ≡ (if nat_eq c x.entering then true else if nat_eq c x.leaving then false else in_basis_after basis made c)
after_more basis [] x c = refl
after_more basis (y ∷ made) x c = after_more (λ z. if nat_eq z y.entering then true else if nat_eq z y.leaving then false else basis z) made x c

-- bases that agree
same_after : (a b : ℕ → Bool) (made : List Exchange) → ((c : ℕ) → a c ≡ b c) → (c : ℕ) → in_basis_after a made c ≡ in_basis_after b made c
same_after a b [] same c = same c
same_after a b (x ∷ made) same c =
    same_after (λ z. if nat_eq z x.entering then true else if nat_eq z x.leaving then false else a z) (λ z. if nat_eq z x.entering then true else if nat_eq z x.leaving then false else b z) made
    (λ z. ap (λ w. if nat_eq z x.entering then true else if nat_eq z x.leaving then false else w) (same z)) c

exchanged_is : (p : Places) (l : ℕ) (side : Side) (e c : ℕ) → is_basic (exchanged p l side e c) ≡ (if nat_eq c e then true else if nat_eq c l then false else is_basic (p c))
exchanged_is p l side e c = by_cases (nat_eq c e) (nat_eq c l)
  where
    by_cases : (x y : Bool) → is_basic (if x then Basic else if y then At side else p c) ≡ (if x then true else if y then false else is_basic (p c))
    by_cases true y = refl
    by_cases false true = refl
    by_cases false false = refl

walk_basis : (rows : Rows) (limits : Limits) (held : Point) (start : Places) (made : List Exchange) (places : Places) → Walk rows limits held start made places
    → (c : ℕ) → is_basic (places c) ≡ in_basis_after (λ y. is_basic (start y)) made c
walk_basis rows limits held _ _ _ (stays start) c = refl
walk_basis rows limits held _ _ _ (goes start made places t leaving side entering w s step) c =
    exchanged_is places leaving side entering c
    ∙ ap (λ b. if nat_eq c entering then true else if nat_eq c leaving then false else b) (walk_basis rows limits held start made places w c)
    ∙ sym (after_more (λ y. is_basic (start y)) made (record { leaving = leaving; entering = entering }) c)

inside_basis : (limits : Limits) (held : Point) (p : Places) (c : ℕ) → is_basic (inside limits held p c) ≡ is_basic (p c)
inside_basis limits held p c = by_place (p c)
  where
    by_place : (q : Place) → is_basic (inside_of limits held c q) ≡ is_basic q
    by_place Basic = refl
    by_place Held = inside_not_basic limits held c
    by_place (At side) = refl

pub underway_basis : UnderwayBasis
underway_basis rows start made d values u c below =
    u.at.basis c below
    ∙ walk_basis rows (limits rows start.bounds) (held_at start.held) (inside (limits rows start.bounds) (held_at start.held) (basis_of start.basis)) made u.places u.walk c
    ∙ same_after (λ y. is_basic (inside (limits rows start.bounds) (held_at start.held) (basis_of start.basis) y)) (λ y. is_basic (basis_of start.basis y)) made
    (inside_basis (limits rows start.bounds) (held_at start.held) (basis_of start.basis)) c
