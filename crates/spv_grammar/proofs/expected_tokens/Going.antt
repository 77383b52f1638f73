-- Where tokens go wrong, they can be completed before it, and with it they cannot.
use Rattle.std.proofs.Common.{◌≡◌, ℕ, suc, ◌≤◌, true, not, List, [], ◌∷◌, ◌++◌, Option, Some, length, refl, sym, ap, ◌∙◌, subst, append_assoc, arith}
use Rattle.spv_logic.proofs.list.Tests.{left_true, right_true}
use Rattle.spv_tree.specs.declared.tokens.token.Token.{Token}
use Rattle.spv_tree.specs.declared.tokens.token.TokenKind.{TokenKind}
use Rattle.spv_grammar.specs.reading.Readers.{first, front}
use Rattle.spv_grammar.specs.expected_tokens.Expected.{Expected, unexpected, taken, opened, predict}
use Rattle.spv_grammar.specs.expected_tokens.Machine.{Leads, here, takes, opens, Wrong, misfits, surplus, after_taking, after_opening}
use Rattle.spv_grammar.proofs.first_sets.Among.{length_of}
use Rattle.spv_grammar.proofs.expected_tokens.Small.{not_true, both}
use Rattle.spv_grammar.proofs.expected_tokens.Completions.{completion, continues, completions, fits, or_first, fits_before, fits_prediction}
use Rattle.spv_grammar.proofs.expected_tokens.Fitting.{prediction_fits}
use Rattle.spv_grammar.proofs.expected_tokens.Ends.{tokens_of}
use Rattle.spv_grammar.proofs.expected_tokens.Completing.{all_complete}

-- ---- what can be completed stays so

nested : (xs ys zs : List TokenKind) → (xs ++ ys) ++ zs ≡ xs ++ (ys ++ zs)
nested xs ys zs = append_assoc xs ys zs

behind_all : (qs ps : List Expected) → completions (qs ++ ps) ≡ completions qs ++ completions ps
behind_all [] ps = refl
behind_all (q ∷ qs) ps = ap (λ ks. completion q ++ ks) (behind_all qs ps) ∙ sym (nested (completion q) (completions qs) (completions ps))

first_of : (ks ls : List TokenKind) → first (ks ++ ls) ≡ or_first ks (first ls)
first_of [] ls = refl
first_of (k ∷ ks) ls = refl

fit_in_front : (qs ps : List Expected) → fits_before (first (completions ps)) qs ≡ true → fits ps ≡ true → fits (qs ++ ps) ≡ true
fit_in_front [] ps g h = h
fit_in_front (q ∷ qs) ps g h =
    let seen : first (completions (qs ++ ps)) ≡ or_first (completions qs) (first (completions ps)) = ap first (behind_all qs ps) ∙ first_of (completions qs) (completions ps) in
    both (not (continues q (first (completions (qs ++ ps))))) (fits (qs ++ ps))
    (ap (λ o. not (continues q o)) seen ∙ left_true (not (continues q (or_first (completions qs) (first (completions ps))))) (fits_before (first (completions ps)) qs) g)
    (fit_in_front qs ps (right_true (not (continues q (or_first (completions qs) (first (completions ps))))) (fits_before (first (completions ps)) qs) g) h)

predicted_fits : (p : Expected) (ps : List Expected) (o : Option TokenKind) → fits (p ∷ ps) ≡ true → fits_prediction (first (completions ps)) (predict p o) ≡ true
predicted_fits p ps o h = prediction_fits p o (first (completions ps)) (not_true _ (left_true (not (continues p (first (completions ps)))) (fits ps) h))

parts_fit : (p : Expected) (parts ps : List Expected) (o : Option TokenKind) → fits_prediction (first (completions ps)) (predict p o) ≡ fits_before (first (completions ps)) parts → fits (p ∷ ps) ≡ true → fits (parts ++ ps) ≡ true
parts_fit p parts ps o e h = fit_in_front parts ps (sym e ∙ predicted_fits p ps o h) (right_true (not (continues p (first (completions ps)))) (fits ps) h)

-- ---- the tokens before

-- the tokens before those that are left, and others behind them with which all that is expected is there
pub record Completed (ps : List Expected) (tokens : List Token) (left : ℕ) : Type 0 where
  pub before : List Token
  pub rest : List Token
  pub are_both : tokens ≡ before ++ rest
  pub so_many : length rest ≡ left
  pub more : List Token
  pub leads : Leads ps (before ++ more) [] []

at_once : (ps : List Expected) (tokens : List Token) (left : ℕ) → length tokens ≡ left → fits ps ≡ true → Completed ps tokens left
at_once ps tokens left e h = record { before = []; rest = tokens; are_both = refl; so_many = e; more = tokens_of (completions ps) []; leads = all_complete ps h }

front_same : (t : Token) (tokens : List Token) (before rest : List Token) → tokens ≡ (t ∷ before) ++ rest → front tokens ≡ Some t.kind
front_same t tokens before rest e = ap front e

pub completed : (ps : List Expected) (tokens : List Token) (left : ℕ) → Wrong ps tokens left → fits ps ≡ true → Completed ps tokens left
completed _ _ _ (misfits p ps tokens e) h = at_once (p ∷ ps) tokens (length tokens) refl h
completed _ _ _ (surplus t tokens) h = at_once [] (t ∷ tokens) (length (t ∷ tokens)) refl h
completed _ _ _ (after_taking p parts ps t tokens left e w) h =
    let c = completed (parts ++ ps) tokens left w (parts_fit p parts ps (Some t.kind) (ap (fits_prediction (first (completions ps))) e) h) in
    record { before = t ∷ c.before; rest = c.rest; are_both = ap (λ ts. t ∷ ts) c.are_both; so_many = c.so_many; more = c.more; leads = takes p parts ps t (c.before ++ c.more) [] [] e c.leads }
completed _ _ _ (after_opening p parts ps tokens left e w) h =
    let c = completed (parts ++ ps) tokens left w (parts_fit p parts ps (front tokens) (ap (fits_prediction (first (completions ps))) e) h) in
    by_before c.before c.rest c.are_both c.so_many c.more c.leads
  where
    by_before : (before rest : List Token) → tokens ≡ before ++ rest → length rest ≡ left → (more : List Token) → Leads (parts ++ ps) (before ++ more) [] [] → Completed (p ∷ ps) tokens left
    by_before [] rest is many more a = at_once (p ∷ ps) tokens left (ap length is ∙ many) h
    by_before (t ∷ before) rest is many more a = record {
      before = t ∷ before;
      rest = rest;
      are_both = is;
      so_many = many;
      more = more;
      leads = opens p parts ps (t ∷ before ++ more) [] [] (ap (predict p) (sym (front_same t tokens before rest is)) ∙ e) a;
    }

-- ---- the same tokens and others behind them

pub few_left : (ps : List Expected) (tokens : List Token) (left : ℕ) → Wrong ps tokens left → left ≤ length tokens
few_left _ _ _ (misfits p ps tokens e) = omega arith
few_left _ _ _ (surplus t tokens) = omega arith
few_left _ _ _ (after_taking p parts ps t tokens left e w) = let l = few_left (parts ++ ps) tokens left w in omega (arith, l)
few_left _ _ _ (after_opening p parts ps tokens left e w) = few_left (parts ++ ps) tokens left w

-- nothing is before tokens that are all that is left
pub none_before : (before rest tokens : List Token) → tokens ≡ before ++ rest → length tokens ≡ length rest → before ≡ []
none_before [] rest tokens e n = refl
none_before (u ∷ before) rest tokens e n =
    let same : length tokens ≡ suc (length (before ++ rest)) = ap length e in
    absurd (omega (arith, n, same, length_of before rest))

pub fronts : (before : List Token) (t : Token) (behind others : List Token) → front (before ++ t ∷ behind) ≡ front (before ++ t ∷ others)
fronts [] t behind others = refl
fronts (u ∷ before) t behind others = refl

pub tails : (u t : Token) (xs ys : List Token) → u ∷ xs ≡ t ∷ ys → xs ≡ ys
tails u t xs ys e = cc

pub heads : (u t : Token) (xs ys : List Token) → u ∷ xs ≡ t ∷ ys → u ≡ t
heads u t xs ys e = cc

module _ (t : Token) (behind others : List Token) where
  pub wrong_again : (ps : List Expected) (tokens : List Token) (left : ℕ) → Wrong ps tokens left → (before : List Token) → tokens ≡ before ++ t ∷ behind → left ≡ length (t ∷ behind) → Wrong ps (before ++ t ∷ others) (length (t ∷ others))
  wrong_again _ _ _ (misfits p ps tokens e) before is many =
      subst (λ (b : List Token). Wrong (p ∷ ps) (b ++ t ∷ others) (length (t ∷ others))) (sym (none_before before (t ∷ behind) tokens is many))
      (misfits p ps (t ∷ others) (ap (predict p) (sym (front_at before is (none_before before (t ∷ behind) tokens is many))) ∙ e))
    where
      front_at : (b : List Token) → tokens ≡ b ++ t ∷ behind → b ≡ [] → front tokens ≡ Some t.kind
      front_at b f none = ap front f ∙ ap (λ (c : List Token). front (c ++ t ∷ behind)) none
  wrong_again _ _ _ (surplus u tokens) before is many =
      subst (λ (b : List Token). Wrong [] (b ++ t ∷ others) (length (t ∷ others))) (sym (none_before before (t ∷ behind) (u ∷ tokens) is many)) (surplus t others)
  wrong_again _ _ _ (after_taking p parts ps u tokens left e w) [] is many =
      let l = few_left (parts ++ ps) tokens left w in
      let shut : tokens ≡ behind = tails u t tokens behind is in
      let same : length tokens ≡ length behind = ap length shut in
      absurd (omega (arith, l, many, same))
  wrong_again _ _ _ (after_taking p parts ps u tokens left e w) (v ∷ before) is many =
      let first_is : u ≡ v = heads u v tokens (before ++ t ∷ behind) is in
      after_taking p parts ps v (before ++ t ∷ others) (length (t ∷ others)) (subst (λ (x : Token). predict p (Some x.kind) ≡ taken parts) first_is e) (wrong_again (parts ++ ps) tokens left w before (tails u v tokens (before ++ t ∷ behind) is) many)
  wrong_again _ _ _ (after_opening p parts ps tokens left e w) before is many =
      after_opening p parts ps (before ++ t ∷ others) (length (t ∷ others)) (ap (predict p) (sym (ap front is ∙ fronts before t behind others)) ∙ e) (wrong_again (parts ++ ps) tokens left w before is many)

-- ---- what goes wrong is not all there

pub taken_is : (qs rs : List Expected) → taken qs ≡ taken rs → qs ≡ rs
taken_is qs rs e = cc

pub opened_is : (qs rs : List Expected) → opened qs ≡ opened rs → qs ≡ rs
opened_is qs rs e = cc

pub not_taken : (qs rs : List Expected) → taken qs ≡ opened rs → ⊥
not_taken qs rs e = absurd (cc (e))

fits_none : (qs : List Expected) → taken qs ≡ unexpected → ⊥
fits_none qs e = absurd (cc (e))

opens_none : (qs : List Expected) → opened qs ≡ unexpected → ⊥
opens_none qs e = absurd (cc (e))

-- one step

pub wrong_taken : (p : Expected) (parts ps : List Expected) (t : Token) (tokens : List Token) (left : ℕ) → predict p (Some t.kind) ≡ taken parts → Wrong (p ∷ ps) (t ∷ tokens) left → Wrong (parts ++ ps) tokens left
wrong_taken p parts ps t tokens left e (misfits _ _ _ f) = absurd (fits_none parts (sym e ∙ f))
wrong_taken p parts ps t tokens left e (after_taking _ others _ _ _ _ f w) = subst (λ (qs : List Expected). Wrong (qs ++ ps) tokens left) (taken_is others parts (sym f ∙ e)) w
wrong_taken p parts ps t tokens left e (after_opening _ others _ _ _ f w) = absurd (not_taken parts others (sym e ∙ f))

pub wrong_opened : (p : Expected) (parts ps : List Expected) (tokens : List Token) (left : ℕ) → predict p (front tokens) ≡ opened parts → Wrong (p ∷ ps) tokens left → Wrong (parts ++ ps) tokens left
wrong_opened p parts ps tokens left e (misfits _ _ _ f) = absurd (opens_none parts (sym e ∙ f))
wrong_opened p parts ps _ left e (after_taking _ others _ t tokens _ f w) = absurd (not_taken others parts (sym f ∙ e))
wrong_opened p parts ps tokens left e (after_opening _ others _ _ _ f w) = subst (λ (qs : List Expected). Wrong (qs ++ ps) tokens left) (opened_is others parts (sym f ∙ e)) w

-- what goes wrong does so behind where it leads
pub wrong_behind : {ps : List Expected} {tokens : List Token} {qs : List Expected} {mid : List Token} (left : ℕ) → Leads ps tokens qs mid → Wrong ps tokens left → Wrong qs mid left
wrong_behind left (here ps tokens) w = w
wrong_behind left (takes p parts ps t tokens qs rest e a) w = wrong_behind left a (wrong_taken p parts ps t tokens left e w)
wrong_behind left (opens p parts ps tokens qs rest e a) w = wrong_behind left a (wrong_opened p parts ps tokens left e w)

nothing_wrong : (left : ℕ) → Wrong [] [] left → ⊥
nothing_wrong left w = elim w [ ]

pub not_both : (ps : List Expected) (tokens : List Token) (left : ℕ) → Leads ps tokens [] [] → Wrong ps tokens left → ⊥
not_both ps tokens left a w = nothing_wrong left (wrong_behind left a w)
