-- Reading stops where the tokens of a text go wrong.
use Rattle.std.proofs.Common.{◌≡◌, ℕ, suc, true, List, [], ◌∷◌, ◌++◌, length, refl, sym, ap, ◌∙◌, subst, append_assoc, arith}
use Rattle.spv_tree.specs.declared.tokens.token.Token.{Token}
use Rattle.spv_tree.specs.syntax.Reads.{Reads, ReadsRules}
use Rattle.spv_grammar.specs.first_sets.Lines.{line_where}
use Rattle.spv_grammar.specs.first_sets.Begins.{Begins, GoesWrongAt}
use Rattle.spv_grammar.specs.reading.Readers.{Outcome, Read, Halted, wrong, deep, Reader}
use Rattle.spv_grammar.specs.reading.RoutineReaders.{read_whole, read_program}
use Rattle.spv_grammar.specs.reading.RuleReaders.{read_rules}
use Rattle.spv_grammar.specs.reading.Laws.{ReadIsTree, EnoughLevelsForTrees}
use Rattle.spv_grammar.proofs.reading.Programs.{reading_is_tree, enough_levels, whole_is}
use Rattle.spv_grammar.proofs.reading.Rules.{rules_are_tree, rules_enough_levels}
use Rattle.spv_grammar.specs.expected_tokens.Expected.{Expected, program, rule_file}
use Rattle.spv_grammar.specs.expected_tokens.Machine.{Leads, Wrong, surplus}
use Rattle.spv_grammar.specs.expected_tokens.Laws.{StopsWhereWrong, LeavesWhatIsWrong, LevelsTakeTokens}
use Rattle.spv_grammar.proofs.expected_tokens.Small.{nothing_behind}
use Rattle.spv_grammar.proofs.expected_tokens.Completions.{fits}
use Rattle.spv_grammar.proofs.expected_tokens.Follows.{Follows, wrong_on}
use Rattle.spv_grammar.proofs.expected_tokens.Going.{completed, wrong_again, not_both}
use Rattle.spv_grammar.proofs.expected_tokens.Places.{at_token, at_the_end}
use Rattle.spv_grammar.proofs.expected_tokens.RoutineFollows.{program_follows}
use Rattle.spv_grammar.proofs.expected_tokens.RuleFollows.{rules_follow}

twice_nothing : {X : Type 0} (xs : List X) → (xs ++ []) ++ [] ≡ xs
twice_nothing xs = nothing_behind (xs ++ []) ∙ nothing_behind xs

-- ---- texts of one kind

module _ {A : Type 0} (read : ℕ → Reader A) (reads : List Token → A → Type 0) (parts : List Expected) (follows : (n : ℕ) (tokens : List Token) → Follows n (parts ++ []) tokens (read n tokens)) (is_tree : ReadIsTree read reads) (enough : EnoughLevelsForTrees read reads) (can_be : fits parts ≡ true) where
  wrong_here : (n : ℕ) (tokens : List Token) (left : ℕ) → read n tokens ≡ Halted (wrong left) → Wrong parts tokens left
  wrong_here n tokens left e = subst (λ (ps : List Expected). Wrong ps tokens left) (twice_nothing parts) ((follows n tokens).wrong left e [])

  surplus_here : (n : ℕ) (tokens : List Token) (x : A) (t : Token) (rest : List Token) → read n tokens ≡ Read (x, t ∷ rest) → Wrong parts tokens (length (t ∷ rest))
  surplus_here n tokens x t rest e = subst (λ (ps : List Expected). Wrong ps tokens (length (t ∷ rest))) (twice_nothing parts) (wrong_on ((follows n tokens).read x (t ∷ rest) e []) (surplus t rest))

  pub levels_by : LevelsTakeTokens read
  levels_by n tokens left e = (follows n tokens).deep left e

  -- what all is there for is read, with more levels than there are tokens
  tree_by : (tokens : List Token) → Leads parts tokens [] [] → (o : Outcome A) → read (suc (length tokens)) tokens ≡ o → (x : A) × reads tokens x
  tree_by tokens a (Read (x, [])) e = (x, is_tree (suc (length tokens)) tokens x (ap read_whole e))
  tree_by tokens a (Read (x, t ∷ rest)) e = absurd (not_both parts tokens (length (t ∷ rest)) a (surplus_here (suc (length tokens)) tokens x t rest e))
  tree_by tokens a (Halted (wrong left)) e = absurd (not_both parts tokens left a (wrong_here (suc (length tokens)) tokens left e))
  tree_by tokens a (Halted (deep left)) e = let d = levels_by (suc (length tokens)) tokens left e in absurd (omega (arith, d))

  begins_by : (before more : List Token) → Leads parts (before ++ more) [] [] → Begins reads before
  begins_by before more a =
      let t = tree_by (before ++ more) a (read (suc (length (before ++ more))) (before ++ more)) refl in
      record { more = more; tree = t.0; read = t.1 }

  leads_by : (tokens : List Token) (x : A) → reads tokens x → Leads parts tokens [] []
  leads_by tokens x r = subst (λ (ps : List Expected). Leads ps tokens [] []) (twice_nothing parts) ((follows (length tokens) tokens).read x [] (whole_is (read (length tokens) tokens) x (enough (length tokens) tokens x (omega arith) r)) [])

  wrong_with : (before : List Token) (t : Token) (behind : List Token) → Wrong parts (before ++ t ∷ behind) (length (t ∷ behind)) → Begins reads (before ++ t ∷ []) → ⊥
  wrong_with before t behind w b =
      let again : Wrong parts (before ++ t ∷ b.more) (length (t ∷ b.more)) = wrong_again t behind b.more parts (before ++ t ∷ behind) (length (t ∷ behind)) w before refl refl in
      let same : (before ++ t ∷ []) ++ b.more ≡ before ++ t ∷ b.more = append_assoc before (t ∷ []) b.more in
      not_both parts (before ++ t ∷ b.more) (length (t ∷ b.more)) (subst (λ (ts : List Token). Leads parts ts [] []) same (leads_by ((before ++ t ∷ []) ++ b.more) b.tree b.read)) again

  by_rest : (tokens before rest : List Token) (left : ℕ) (more : List Token) → Wrong parts tokens left → tokens ≡ before ++ rest → length rest ≡ left → Leads parts (before ++ more) [] [] → GoesWrongAt reads tokens (line_where tokens left)
  by_rest tokens before [] left more w is many a =
      at_the_end reads tokens left (sym many) (subst (λ (ts : List Token). Begins reads ts) (sym (is ∙ nothing_behind before)) (begins_by before more a))
  by_rest tokens before (t ∷ behind) left more w is many a =
      let here_wrong : Wrong parts (before ++ t ∷ behind) (length (t ∷ behind)) = subst (λ (l : ℕ). Wrong parts (before ++ t ∷ behind) l) (sym many) (subst (λ (ts : List Token). Wrong parts ts left) is w) in
      at_token reads tokens before t behind left is (sym many) (record { right = begins_by before more a; wrong = wrong_with before t behind here_wrong })

  goes_wrong : (tokens : List Token) (left : ℕ) → Wrong parts tokens left → GoesWrongAt reads tokens (line_where tokens left)
  goes_wrong tokens left w =
      let c = completed parts tokens left w can_be in
      by_rest tokens c.before c.rest left c.more w c.are_both c.so_many c.leads

  pub stops_by : StopsWhereWrong read reads
  stops_by n tokens left e = goes_wrong tokens left (wrong_here n tokens left e)

  pub leaves_by : LeavesWhatIsWrong read reads
  leaves_by n tokens x t rest e = goes_wrong tokens (length (t ∷ rest)) (surplus_here n tokens x t rest e)

pub programs_stop : StopsWhereWrong read_program Reads
programs_stop = stops_by read_program Reads program program_follows reading_is_tree enough_levels refl

pub programs_leave : LeavesWhatIsWrong read_program Reads
programs_leave = leaves_by read_program Reads program program_follows reading_is_tree enough_levels refl

pub programs_take : LevelsTakeTokens read_program
programs_take = levels_by read_program Reads program program_follows reading_is_tree enough_levels refl

pub rules_stop : StopsWhereWrong read_rules ReadsRules
rules_stop = stops_by read_rules ReadsRules rule_file rules_follow rules_are_tree rules_enough_levels refl

pub rules_leave : LeavesWhatIsWrong read_rules ReadsRules
rules_leave = leaves_by read_rules ReadsRules rule_file rules_follow rules_are_tree rules_enough_levels refl

pub rules_take : LevelsTakeTokens read_rules
rules_take = levels_by read_rules ReadsRules rule_file rules_follow rules_are_tree rules_enough_levels refl
