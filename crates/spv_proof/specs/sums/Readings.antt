-- What cited numbers stand for, over the ids of an arena.
use Rattle.std.specs.Prelude.{◌<◌, ℕ, Bool, ◌&&◌, List, map, length, pos, Option, Some, None, if◌then◌else◌}
use Rattle.std.specs.Option.{option_map}
use Rattle.spv_logic.specs.declared.conditions.TermId.{TermId}
use Rattle.spv_logic.specs.Terms.{Term}
use Rattle.spv_term.specs.Arena.{Arena, tree, trees_of}
use Rattle.spv_atoms.specs.Atoms as atoms
use Rattle.spv_logic.specs.declared.operators.Head.{Head}
use Rattle.spv_logic.specs.declared.operators.Head.TheVariants.{Eq, Lt, Le}
use Rattle.spv_proof_rules.specs.Sums.{Reading, Comparison, Equals, IsBelow, IsAtMost, relate, difference, is_at_most_zero, read_true, read_false, read_relation, cited_reading}
use Rattle.spv_proof_rules.specs.Stops.{WideForm, Halt, is_measured, narrow_true, narrow_false, narrow_by, Source, kept, halt_after, denied, source}
use Rattle.spv_proof.specs.declared.sums.reading.Claim.{Claim}
use Rattle.spv_proof.specs.declared.sums.reading.Cited.{Cited}
use Rattle.spv_proof.specs.sums.Differences.{more}

-- whether a term is of sort Int
abbrev pub number_in : Arena → Term → Bool
number_in a = atoms.is_number a.shapes a.decls

-- two terms, where both are of sort Int
abbrev pub number_pair : (Term → Bool) → Option (Term × Term) → Option (Term × Term)
number_pair is_number None = None
number_pair is_number (Some st) = if is_number st.0 && is_number st.1 then Some st else None

-- how a check ends where a form does not fit: that of a relation, or of the one that the sum is to show
abbrev pub halt_in : Arena → ℕ → Term → Option TermId → Halt
halt_in a most shown (Some u) = record { known = trees_of a.nodes; stop = WideForm (tree a u) }
halt_in a most shown None = halt_after (trees_of a.nodes) (kept most (trees_of a.nodes) shown) shown

abbrev pub reading_in : Arena → Cited → Reading
reading_in a c = record { form = difference (tree a c.left) (tree a c.right) (more c.is_above); is_equal = c.is_equal }

abbrev pub source_in : Arena → ℕ → Term → Cited → Source
source_in a most shown c = record {
  reading = reading_in a c;
  fits = is_measured (tree a c.left) (tree a c.right) (more c.is_above);
  halt = halt_in a most shown c.relation;
}

-- a term is in the arena, where there is one
abbrev pub NamedIn : Arena → Option TermId → Type 0
NamedIn a None = Unit {0}
NamedIn a (Some u) = u.0 < length a.nodes

pub record CitedIn (a : Arena) (c : Cited) : Type 0 where
  pub left : c.left.0 < length a.nodes
  pub right : c.right.0 < length a.nodes
  pub relation : NamedIn a c.relation

-- the sides of a claim are in the arena
pub record ClaimIn (a : Arena) (c : Claim) : Type 0 where
  pub left : c.left.0 < length a.nodes
  pub right : c.right.0 < length a.nodes

-- what a number stands for in a sum that is to show a claim
abbrev pub source_of : Arena → List TermId → Claim → ℕ → Term → ℕ → Option Source
source_of a facts c most shown k =
    source (number_in a) (trees_of a.nodes) (map (tree a) facts) (denied most (trees_of a.nodes) shown (tree a c.left) (tree a c.right)) k

-- that the claim is false, as a reading
abbrev pub denial : Arena → Claim → Reading
denial a c = is_at_most_zero (difference (tree a c.right) (tree a c.left) (pos 1))

abbrev pub reading_of : Arena → List TermId → Claim → ℕ → Option Reading
reading_of a facts c k = cited_reading (number_in a) (map (tree a) facts) (denial a c) k

-- ---- relations

-- the fact `t`, which is a relation or the negation of one, as a source
abbrev pub true_source : (Term → Bool) → List Term → Term → Option Comparison → Option Source
true_source is_number known t c =
    option_map (λ r. record { reading = r; fits = narrow_by narrow_true c; halt = record { known = known; stop = WideForm t } }) (read_relation is_number (λ d. Some (read_true d)) c)

abbrev pub false_source : (Term → Bool) → List Term → Term → Option Comparison → Option Source
false_source is_number known t c =
    option_map (λ r. record { reading = r; fits = narrow_by narrow_false c; halt = record { known = known; stop = WideForm t } }) (read_relation is_number read_false c)

abbrev pub related : Head → Option (Term × Term) → Option Comparison
related Eq o = relate Equals o
related Lt o = relate IsBelow o
related Le o = relate IsAtMost o
related _ o = None
