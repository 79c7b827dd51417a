-- `chooses` meets its contract by the cases on the name.
use Rattle.std.proofs.Common.{ap}
use Rattle.bitmap_index.specs.Names.{name_code}
use Rattle.bitmap_index.proofs.Choosing.{is_one, not-one, is_in_lem, not_in, none-asked, all_asked}
use Rattle.bitmap_index.proofs.Sought.chooses.Goals as goal

pub returns-in-Equal : goal.returns-in-Equal
returns-in-Equal c = λ ls w. is_one c.args.self.now c.args.v.now ls w (ap name_code c.in-Equal.is) c.same.ensures

pub returns-in-NotEqual : goal.returns-in-NotEqual
returns-in-NotEqual c = λ ls w. not-one c.args.self.now c.args.v.now ls w (ap name_code c.in-NotEqual.is) c.same-in-NotEqual.ensures

pub returns-in-In : goal.returns-in-In
returns-in-In c = λ ls w. is_in_lem c.args.self.now c.args.v.now ls w (ap name_code c.in-In.is) c.lists.ensures

pub returns-in-NotIn : goal.returns-in-NotIn
returns-in-NotIn c = λ ls w. not_in c.args.self.now c.args.v.now ls w (ap name_code c.in-NotIn.is) c.lists-in-NotIn.ensures

pub returns-in-IsNull : goal.returns-in-IsNull
returns-in-IsNull c = λ ls w. none-asked c.args.self.now c.args.v.now ls (ap name_code c.in-IsNull.is)

pub returns-in-IsNotNull : goal.returns-in-IsNotNull
returns-in-IsNotNull c = λ ls w. all_asked c.args.self.now c.args.v.now ls (ap name_code c.in-IsNotNull.is)
