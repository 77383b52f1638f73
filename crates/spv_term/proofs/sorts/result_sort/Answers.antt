-- A symbol's result is that of its declaration, and a change keeps the sort of what is changed.
use Rattle.std.proofs.Common.{sym, ap, ◌∙◌, inl, inr, unwrap_or}
use Rattle.std.specs.Option.{option_map}
use Rattle.spv_logic.specs.Sorts as spec
use Rattle.spv_term.proofs.SortLemmas.{takes_declared-result, declared-find, store-result, put-result, change-result}
use Rattle.spv_term.proofs.sorts.result_sort.Goals as goal

pub returns-in-App : goal.returns-in-App
returns-in-App c given s f h =
    let shapes = c.args.shapes.now in
    let decls = c.args.decls.now in
    let symbol = c.in-App.symbol in
    let found = c.symbol_sort.ensures ∙ ap (option_map (λ d. d.result)) (sym (declared-find decls symbol.0)) in
    c.unwrap_or.ensures ∙ ap (λ o. unwrap_or o c.args.first) found
    ∙ takes_declared-result (spec.declared decls symbol.0) given c.args.first s (sym (ap (λ k. spec.result_sort shapes decls k given) c.in-App.is) ∙ h)

pub returns-in-Store : goal.returns-in-Store
returns-in-Store c given s f h =
    let shapes = c.args.shapes.now in
    let decls = c.args.decls.now in
    f ∙ elim c.in-Store.is [
      | inl e ↦ store-result shapes decls given s (sym (ap (λ k. spec.result_sort shapes decls k given) e) ∙ h)
      | inr e ↦ put-result shapes decls given s e.0 (sym (ap (λ k. spec.result_sort shapes decls k given) e.1) ∙ h)
    ]

pub returns-in-SetCell : goal.returns-in-SetCell
returns-in-SetCell c given s f h =
    let shapes = c.args.shapes.now in
    let decls = c.args.decls.now in
    f ∙ elim c.in-SetCell.is [
      | inl e ↦ change-result shapes decls given s (sym (ap (λ k. spec.result_sort shapes decls k given) e) ∙ h)
      | inr e ↦ change-result shapes decls given s (sym (ap (λ k. spec.result_sort shapes decls k given) e) ∙ h)
    ]
