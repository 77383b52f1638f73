-- Lists of types and of fields, and a type one level down.
use Rattle.std.proofs.Common.{◌≡◌, ◌-◌, ◌<◌, ℕ, zero, suc, arith, List, [], ◌∷◌, refl, ap}
use Rattle.spv_tree.specs.declared.tokens.token.Token.{Token}
use Rattle.spv_tree.specs.syntax.Types.{TypeDenoter, no_more_types, more_types, Field, no_more_fields, more_fields}
use Rattle.spv_tree.specs.syntax.Model.TypeSizes.{more_types_of, more_fields_of}
use Rattle.spv_grammar.specs.reading.TypeReaders.{read_lower_type, read_type}
use Rattle.spv_formula_parser.specs.primitives.Lists.{put}

-- the types of a list, in front of none
pub put_types : (ts : List TypeDenoter) → put more_types ts no_more_types ≡ more_types_of ts
put_types [] = refl
put_types (t ∷ ts) = ap (more_types t) (put_types ts)

-- the fields of a list, in front of none
pub put_fields : (fs : List Field) → put more_fields fs no_more_fields ≡ more_fields_of fs
put_fields [] = refl
put_fields (f ∷ fs) = ap (more_fields f) (put_fields fs)

-- a type one level down, where there is one level more
pub lower_is : (levels : ℕ) (tokens : List Token) → 0 < levels → read_lower_type levels tokens ≡ read_type (levels - 1) tokens
lower_is zero tokens h = absurd (omega (arith, h))
lower_is (suc n) tokens h =
    let e : n ≡ suc n - 1 = omega arith in
    ap (λ m. read_type m tokens) e
