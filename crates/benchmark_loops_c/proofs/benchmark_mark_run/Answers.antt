-- The promise is that of `benchmark_loops::benchmark_mark_run`. The search finds it too; said here, a wrong call is refused for what is wrong in it.
use Rattle.benchmark_loops_c.proofs.benchmark_mark_run.Goals as goal

pub returns : goal.returns
returns c = c.benchmark_mark_run.ensures
