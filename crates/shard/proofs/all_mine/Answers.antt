-- `all` asks the same of each item.
use Rattle.std.proofs.Common.{rules, ◌∙◌, ap}
use Rattle.std.proofs.lemmas.Iterator.{YieldsList-from_slice}
use Rattle.std.proofs.lemmas.Iterator.Search.{all_from_yields_List}
use Rattle.shard.specs.Model.{mine, all_mine}
use Rattle.shard.proofs.Walk.{list_all_is}
use Rattle.shard.proofs.all_mine.Goals as goal

pub returns : goal.returns
returns c =
    all_from_yields_List (mine c.args.m c.args.own) _ _ c.all.result c.all.ensures.ran (YieldsList-from_slice c.as_slice.result.now cc) (λ x b q k. search rules)
    ∙ list_all_is (mine c.args.m c.args.own) _ ∙ ap (all_mine c.args.m c.args.own) c.as_slice.ensures
