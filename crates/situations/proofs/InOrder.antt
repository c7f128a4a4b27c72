-- Where two refusals have cause at once, 01's order decides, in every row of the table.
-- Assumes nothing.
use mathlib.Core.Path.{◌≡◌, refl}
use mathlib.Core.List.{map}
use Rattle.rules.specs.Computing.{computing}
use Rattle.situations.specs.Order.{by_the_order, rows}

pub all_in_order : map by_the_order rows ≡ rows
unfolding computing
all_in_order = refl
