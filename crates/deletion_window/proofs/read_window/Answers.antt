use Rattle.deletion_window.proofs.Marking.{is_clear}
use Rattle.deletion_window.proofs.read_window.Goals as goal

pub mark_bin-requires : goal.mark_bin-requires
mark_bin-requires c = is_clear c.args.rows c.args.field.now c.in_ok-prepare.ensures.1
