-- The promise is that of `poddurance::poddurance_read_window`. The search finds it too; said here, a wrong call is refused for what is wrong in it.
use Rattle.poddurance_c.proofs.poddurance_read_window.Goals as goal

pub returns : goal.returns
returns c = c.poddurance_read_window.ensures
