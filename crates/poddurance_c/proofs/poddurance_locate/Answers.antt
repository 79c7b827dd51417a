-- The promise is that of `poddurance::poddurance_locate`. The search finds it too; said here, a wrong call is refused for what is wrong in it.
use Rattle.poddurance_c.proofs.poddurance_locate.Goals as goal

pub returns : goal.returns
returns c = c.poddurance_locate.ensures
