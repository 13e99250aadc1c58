-- `step_survival::survival_counted` meets its contract: both numbers are the definition's, of the same parts; their laws are the
-- promises of step 4 and of change 2026-03. Assumes nothing.
use mathlib.Core.Path.{◌∙◌, ap}
use Prim.Native.Nat.{ℕ, ◌%◌, ◌≤◌}
use Rattle.step_survival.specs.Series.{term_count}
use Rattle.step_survival.specs.Survival.{survival_at, terms_at, survival_of, terms_of, survival_number, survival_terms}
use Rattle.step_survival.proofs.Laws.{is_survival, every_w}
use Rattle.step_survival.proofs.survival_counted.Goals as goal

pub returns : goal.returns
unfolding survival_number survival_terms survival_of terms_of terms_at
returns c =
    let n = c.args.n in
    let k = c.args.k in
    let p = c.parts-p.ensures.0 in
    let is = c.survival_at.ensures ∙ ap survival_at p in
    let terms = c.term_count.ensures ∙ ap (λ (q : ℕ). term_count (q % 4294967296)) p in
    let most : survival_terms n k ≤ 40 = (every_w.months n k c.requires.0 c.requires.1).at_most40 in
    record {
      survival = (is, rw is (is_survival n k c.requires.0 c.requires.1));
      terms = (terms, rw terms most);
      served = every_w;
    }
