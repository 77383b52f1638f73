use Rattle.std.proofs.Common.{◌∙◌, sym, ap}
use Rattle.std.proofs.lemmas.Bool.{false≢true}
use Rattle.spv_logic.specs.declared.types.Sort.TheVariants as sort
use Rattle.spv_logic.specs.Terms.{sort_eq}
use Rattle.spv_proof.proofs.sums.Numeric.{number-at, sort_eq-other}
use Rattle.spv_proof.proofs.sums.numbers.is_number.Goals as goal

pub returns-in-Int : goal.returns-in-Int
returns-in-Int c = record {
  value = ap (λ s. sort_eq s sort.Int) c.in-Int.ensures ∙ sym (number-at c.args.terms.now c.law_arena.ensures c.args.t c.requires);
  sort = λ h. sym c.in-Int.ensures;
}

pub returns-in_default : goal.returns-in_default
returns-in_default c = record {
  value = sort_eq-other c.sort.result c.in_default.not-Int
      ∙ (ap (λ s. sort_eq s sort.Int) c.sort.ensures ∙ sym (number-at c.args.terms.now c.law_arena.ensures c.args.t c.requires));
  sort = λ h. absurd (false≢true h);
}
