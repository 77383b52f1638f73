-- What the tables of connectives give where the truth of each argument is known.
use Rattle.std.proofs.Common.{◌≡◌, Bool, true, false, ◌&&◌, ◌||◌, not, refl, sym, ap, ◌∙◌, Option, Some, None}
use mathlib.Core.Path.{ap₂}
use Rattle.spv_logic.specs.Values.{bool_eq}
use Rattle.spv_logic.proofs.Equality.{bool_eq-true}
use Rattle.spv_atoms.specs.Tables.{not_of, and_of, or_of, implied, same_of, or_else}
use Rattle.spv_proof_rules.specs.Evaluation.{opposite}

pub and-known : (p q : Bool) (x y : Option Bool) → x ≡ Some p → y ≡ Some q → and_of x y ≡ Some (p && q)
and-known p q x y e f = ap₂ and_of e f ∙ by_case p
  where
    by_case : (b : Bool) → and_of (Some b) (Some q) ≡ Some (b && q)
    by_case true = refl
    by_case false = refl

pub or-known : (p q : Bool) (x y : Option Bool) → x ≡ Some p → y ≡ Some q → or_of x y ≡ Some (p || q)
or-known p q x y e f = ap₂ or_of e f ∙ by_case p q
  where
    by_case : (b c : Bool) → or_of (Some b) (Some c) ≡ Some (b || c)
    by_case true true = refl
    by_case true false = refl
    by_case false true = refl
    by_case false false = refl

pub implied-known : (p q : Bool) (x y : Option Bool) → x ≡ Some p → y ≡ Some q → implied x y ≡ Some (not p || q)
implied-known p q x y e f = or-known (not p) q (not_of x) y (ap not_of e) f

pub same-known : (p q : Bool) (x y : Option Bool) → x ≡ Some p → y ≡ Some q → same_of x y ≡ Some (bool_eq p q)
same-known p q x y e f = ap₂ same_of e f

-- a given truth that is not opposite to the computed one is the same
pub settled : (o : Option Bool) (c : Bool) → opposite (Some c) o ≡ false → or_else o (Some c) ≡ Some c
settled None c h = refl
settled (Some b) c h = ap Some (sym (bool_eq-true c b (not_opposite (bool_eq c b) h)))
  where
    not_opposite : (d : Bool) → not d ≡ false → d ≡ true
    not_opposite true e = refl
    not_opposite false e = sym e
