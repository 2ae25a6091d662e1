-- Every row of the table is as the definitions compute it, each by computation alone.
use mathlib.Core.Path.{refl}
use lib.Ieee.{mul, add, div, of_int, to_unsigned}
use Rattle.rto.specs.Rto.{first_var, next_var, four_times}
use Rattle.model.specs.Streams.{open_stream, set_low, release}
use Rattle.model.specs.Messages.{write}
use Rattle.worked.specs.Table.{Worked}

pub worked : Worked
unfolding mul add div of_int to_unsigned first_var next_var four_times open_stream set_low write release
worked = (refl, (refl, (refl, (refl, (refl, (refl, (refl, (refl, (refl, (refl, (refl, (refl, (refl, (refl, (refl, (refl, (refl, tt)))))))))))))))))
