-- `step_survival::term_count` meets its contract: the terms that are taken are those before the first 0. Assumes nothing.
use Rattle.std.proofs.Common.{◌∙◌, ap, ℕ, ◌+◌, rules, tests}
use Rattle.std.proofs.lemmas.Iterator.{YieldsList-from_slice}
use Rattle.std.proofs.lemmas.Iterator.Consumers.{count_from_yields_List}
use Rattle.std.proofs.lemmas.Iterator.Search.{YieldsList-from_take_while}
use Rattle.std.proofs.lemmas.List.Folds.{length-prefix_len}
use Rattle.step_survival.proofs.Count.{not_zero}
use Rattle.step_survival.proofs.Steps.{count_is}
use Rattle.step_survival.proofs.term_count.Goals as goal

pub returns : goal.returns
returns c =
    let later = c.later_terms-later.result in
    let count =
    count_from_yields_List c.take_while.result _ c.count.ensures.ran
    (YieldsList-from_take_while _ not_zero (YieldsList-from_slice later (cc)) c.take_while.ensures.closure c.take_while.ensures.done
    (λ x b q k. search (rules, tests)))
    ∙ length-prefix_len not_zero later in
    ap (λ (n : ℕ). 1 + n) count ∙ count_is c.args.r c.requires c.later_terms-later.ensures
