-- Two terms of a list, where there are two.
use Rattle.std.proofs.Common.{◌≡◌, ◌≢◌, Bool, List, [], ◌∷◌, length, slice_get, refl, sym, subst, Some, None}
use Rattle.spv_logic.specs.declared.conditions.TermId.{TermId}
use Rattle.spv_logic.specs.Terms.{Term}
use Rattle.std.specs.Option.{ForSome}
use Rattle.spv_term.specs.declared.nodes.Node.{Node}
use Rattle.spv_term.specs.Arena.{Arena, IsArena, AllBelow, trees}
use Rattle.spv_term.proofs.ArenaLemmas.{args_in_range}
use Rattle.spv_proof_rules.specs.Sums.{pair}
use Rattle.spv_proof.specs.sums.Readings.{number_pair}

pub not-two : (a : Arena) (is_number : Term → Bool) (ts : List TermId) → length ts ≢ 2 → None ≡ number_pair is_number (pair (trees a ts))
not-two a is_number [] h = refl
not-two a is_number (t ∷ []) h = refl
not-two a is_number (t ∷ u ∷ []) h = absurd (h refl)
not-two a is_number (t ∷ u ∷ v ∷ ts) h = refl

pub args-below : (a : Arena) → IsArena a → (t : TermId) (n : Node) → slice_get a.nodes t.0 ≡ Some n → (args : List TermId) → args ≡ n.args → AllBelow (length a.nodes) args
args-below a ok t n at args e = subst (AllBelow (length a.nodes)) (sym e) (args_in_range a ok t n at)

pub none_in : {T : Type 0} (P : T → Type 0) → ForSome None P
none_in P y e = absurd (cc)
