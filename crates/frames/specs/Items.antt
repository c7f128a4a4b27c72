-- A list of up to four items, as it lies: what it holds, and one item more.
-- Assumes nothing.
use Rattle.std.specs.Prelude.{List, [], ◌∷◌, ◌+◌, take, set}
use Rattle.rules.specs.Lists.{If◌then◌else◌, ◌<?◌}
use Rattle.frames.specs.declared.Item.{Item}
use Rattle.frames.specs.declared.Items.{Items}
use Rattle.frames.specs.Frames.{no_item}

-- the first count; there are four slots
abbrev pub in_list : Items → List Item
in_list list = take list.count list.items

abbrev pub empty_list : Items
empty_list = record { count = 0; items = no_item ∷ no_item ∷ no_item ∷ no_item ∷ [] }

-- a full list stays as it is
unfoldable pub pushed_on : Items → Item → Items
pushed_on list x = If list.count <? 4 then record { count = list.count + 1; items = set list.items list.count x } else list
