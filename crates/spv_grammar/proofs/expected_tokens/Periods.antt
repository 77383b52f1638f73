-- A period behind what is there as a whole.
use Rattle.std.proofs.Common.{◌≡◌, ℕ, ◌≤◌, Bool, true, false, if◌then◌else◌, List, [], ◌∷◌, ◌++◌, Some, None, length, refl, sym, ap, ◌∙◌, subst, append_assoc, arith}
use Rattle.spv_tree.specs.declared.tokens.token.Token.{Token}
use Rattle.spv_tree.specs.declared.tokens.token.TokenKind.{TokenKind}
use Rattle.spv_tree.specs.declared.tokens.token.TokenKind.TheVariants as kind
use Rattle.spv_tree.specs.declared.tokens.token.Sign.TheVariants as sign
use Rattle.spv_grammar.specs.reading.Readers.{front, is}
use Rattle.spv_grammar.specs.expected_tokens.Expected.{Expected, taken, opened, token_by, predict}
use Rattle.spv_grammar.specs.expected_tokens.Expected as expected
use Rattle.spv_grammar.specs.expected_tokens.Machine.{Leads, here, takes, opens, Wrong}
use Rattle.spv_grammar.proofs.expected_tokens.Follows.{shorter}
use Rattle.spv_grammar.proofs.expected_tokens.Going.{few_left, none_before, tails, heads, not_taken, wrong_taken, wrong_opened}

abbrev pub period : TokenKind
period = kind.Sign sign.Period

-- what a period makes of a part: the same as the end of the tokens, or it goes on with it
pub data OnPeriod (p : Expected) : Type 0 where
  as_at_end : predict p (Some period) ≡ predict p None → OnPeriod p
  goes_on : (parts : List Expected) → predict p (Some period) ≡ taken parts → OnPeriod p

on_word : (p : Expected) (parts : List Expected) (b : Bool) → predict p (Some period) ≡ (if b then taken parts else opened []) → predict p None ≡ opened [] → OnPeriod p
on_word p parts true e f = goes_on parts e
on_word p parts false e f = as_at_end (e ∙ sym f)

on_token : (k : TokenKind) (b : Bool) → is k (Some period) ≡ b → OnPeriod (expected.token k)
on_token k true e = goes_on [] (ap token_by e)
on_token k false e = as_at_end (ap token_by e)

pub on_period : (p : Expected) → OnPeriod p
on_period (expected.token k) = on_token k (is k (Some period)) refl
on_period expected.selectors = goes_on _ refl
on_period expected.action = goes_on _ refl
on_period (expected.condition_part k) = on_word (expected.condition_part k) _ (is k (Some period)) refl refl
on_period (expected.premise_part k) = on_word (expected.premise_part k) _ (is k (Some period)) refl refl
on_period p = as_at_end refl

module _ (q : Token) (ends : q.kind ≡ period) where
  on_it : (p : Expected) → predict p (Some q.kind) ≡ predict p (Some period)
  on_it p = ap (λ k. predict p (Some k)) ends

  no_more : (ps : List Expected) (left : ℕ) → 1 ≤ left → Wrong ps [] left → ⊥
  no_more ps left l w = let few = few_left ps [] left w in absurd (omega (arith, few, l))

  reassociated : (parts ps : List Expected) (tokens : List Token) (left : ℕ) → Wrong (parts ++ (ps ++ expected.token period ∷ [])) tokens left → Wrong ((parts ++ ps) ++ expected.token period ∷ []) tokens left
  reassociated parts ps tokens left w = subst (λ (qs : List Expected). Wrong qs tokens left) (sym (append_assoc parts ps (expected.token period ∷ []))) w

  -- behind what is there as a whole a period that is expected does not go wrong
  pub not_at_period : (ps : List Expected) (tokens : List Token) (left : ℕ) → 1 ≤ left → Leads ps tokens [] [] → Wrong (ps ++ expected.token period ∷ []) (tokens ++ q ∷ []) left → ⊥
  not_at_period _ _ left l (here _ _) w = no_more [] left l (wrong_taken (expected.token period) [] [] q [] left (on_it (expected.token period)) w)
  not_at_period _ _ left l (takes p parts ps t tokens _ _ e a) w =
      not_at_period (parts ++ ps) tokens left l a (reassociated parts ps (tokens ++ q ∷ []) left (wrong_taken p parts (ps ++ expected.token period ∷ []) t (tokens ++ q ∷ []) left e w))
  not_at_period _ _ left l (opens p parts ps (u ∷ us) _ _ e a) w =
      not_at_period (parts ++ ps) (u ∷ us) left l a (reassociated parts ps (u ∷ us ++ q ∷ []) left (wrong_opened p parts (ps ++ expected.token period ∷ []) (u ∷ us ++ q ∷ []) left e w))
  not_at_period _ _ left l (opens p parts ps [] _ _ e a) w = by_case (on_period p) (not_at_period (parts ++ ps) [] left l a)
    where
      by_case : OnPeriod p → (Wrong ((parts ++ ps) ++ expected.token period ∷ []) (q ∷ []) left → ⊥) → ⊥
      by_case (as_at_end f) h = h (reassociated parts ps (q ∷ []) left (wrong_opened p parts (ps ++ expected.token period ∷ []) (q ∷ []) left (on_it p ∙ f ∙ e) w))
      by_case (goes_on others f) h = no_more (others ++ (ps ++ expected.token period ∷ [])) left l (wrong_taken p others (ps ++ expected.token period ∷ []) q [] left (on_it p ∙ f) w)

  -- what is there before a period, with nothing expected at it, is there as a whole
  pub whole_before : (ps : List Expected) (tokens behind : List Token) → Leads ps tokens [] (q ∷ behind) → (before : List Token) → tokens ≡ before ++ q ∷ behind → Leads ps before [] []
  whole_before _ _ behind (here _ _) before is = subst (λ (b : List Token). Leads [] b [] []) (sym (none_before before (q ∷ behind) (q ∷ behind) is refl)) (here [] [])
  whole_before _ _ behind (takes p parts ps t tokens _ _ e a) [] is =
      let s = shorter a in
      let same : length tokens ≡ length behind = ap length (tails t q tokens behind is) in
      absurd (omega (arith, s, same))
  whole_before _ _ behind (takes p parts ps t tokens _ _ e a) (u ∷ before) is =
      let first_is : t ≡ u = heads t u tokens (before ++ q ∷ behind) is in
      takes p parts ps u before [] [] (subst (λ (x : Token). predict p (Some x.kind) ≡ taken parts) first_is e) (whole_before (parts ++ ps) tokens behind a before (tails t u tokens (before ++ q ∷ behind) is))
  whole_before _ _ behind (opens p parts ps tokens _ _ e a) [] is = opens p parts ps [] [] [] (by_case (on_period p)) (whole_before (parts ++ ps) tokens behind a [] is)
    where
      here_is : predict p (Some period) ≡ opened parts
      here_is = sym (on_it p) ∙ ap (λ ts. predict p (front ts)) (sym is) ∙ e

      by_case : OnPeriod p → predict p None ≡ opened parts
      by_case (as_at_end f) = sym f ∙ here_is
      by_case (goes_on others f) = absurd (not_taken others parts (sym f ∙ here_is))
  whole_before _ _ behind (opens p parts ps tokens _ _ e a) (u ∷ before) is =
      opens p parts ps (u ∷ before) [] [] (ap (λ ts. predict p (front ts)) (sym is) ∙ e) (whole_before (parts ++ ps) tokens behind a (u ∷ before) is)
