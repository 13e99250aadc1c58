-- `list_run::run` meets its contract: a list that passes its checks leaves what its months leave, and any other its refusal.
-- Assumes nothing.
use Rattle.std.proofs.Common.{refl, sym, ◌∙◌, length}
use Rattle.list_run.specs.Run.{kept_months}
use Rattle.list_run.proofs.Laws.{before, passes-run, refuses_run}
use Rattle.list_run.proofs.Kept.{left_field, left_told, left_exactly}
use Rattle.list_run.proofs.run.Goals as goal

pub invariant_of-checked : goal.invariant_of-checked
invariant_of-checked c =
    let a = c.args in
    record { passes = (before a.s a.weather.now a.land.now (length a.out.now) (sym c.check_list.ensures.first ∙ c.in-Ok.is)).state }

pub run_months-ran-requires : goal.run_months-ran-requires
run_months-ran-requires c =
    let a = c.args in
    let b = before a.s a.weather.now a.land.now (length a.out.now) (sym c.check_list.ensures.first ∙ c.in-Ok.is) in
    record { weather = b.some_weather; land = (b.all_land, b.most); room = b.enough }

pub returns-in-Ok : goal.returns-in-Ok
returns-in-Ok c =
    let a = c.args in
    let is =
    c.run_months-ran.ensures.left ∙ passes-run a.s a.weather.now a.land.now a.out.now (sym c.check_list.ensures.first ∙ c.in-Ok.is) in
    record {
      left = is;
      kept = c.run_months-ran.ensures.kept;
      field = left_field _ _ _ _ is a.memory.now;
      told = left_told _ _ _ _ is;
      exactly = left_exactly _ _ _ _ is;
    }

pub returns-in-Err : goal.returns-in-Err
unfolding kept_months
returns-in-Err c =
    let a = c.args in
    let is = refuses_run a.s a.weather.now a.land.now a.out.now (sym c.check_list.ensures.first ∙ c.in-Err.is) in
    rw c.on.ensures
    (record {
      left = is;
      kept = refl;
      field = left_field _ _ _ _ is a.memory.now;
      told = left_told _ _ _ _ is;
      exactly = left_exactly _ _ _ _ is;
    })
