-- Every rule of "Sizes" and "Frames" in the table ends where 01 says, and not one further.
-- Assumes nothing.
use mathlib.Core.Path.{◌≡◌, refl}
use mathlib.Core.List.{map}
use Rattle.rules.specs.Computing.{computing}
use Rattle.situations.specs.Edges.{at_the_edge, edges}

pub all_edges : map at_the_edge edges ≡ edges
unfolding computing
all_edges = refl
