-- `fits` meets its contract: the comparison is `same_place`, and the gets are their list.
-- Assumes nothing.
use mathlib.Core.Path.{◌∙◌}
use Rattle.std.proofs.Common.{rules}
use Rattle.entry.specs.Model.{fits_of, gets_of, is_get, chosen, same_place}
use Rattle.entry.proofs.Slots.{part_take}
use Rattle.entry.proofs.fits.Goals as goal

pub returns : goal.returns
unfolding fits_of gets_of
returns c = let o = c.args.operations in c.agree.ensures same_place (λ x y r q. search rules) ∙ rw (c.gets_of.ensures, part_take (chosen is_get o.count o.items))
