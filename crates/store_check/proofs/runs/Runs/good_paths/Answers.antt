-- `store_check::runs::Runs::good_paths` meets its contract: it is the test of each path. Assumes nothing.
use Rattle.std.proofs.Common.{rules}
use borrow.Author.Tests.{tests}
use Rattle.std.proofs.lemmas.Iterator.Search.{all_from_yields_List}
use Rattle.store_check.specs.Laid.{good_path}
use Rattle.store_check.proofs.EachLaws.{each}
use Rattle.store_check.proofs.runs.Runs.good_paths.Goals as goal

pub returns : goal.returns
returns c = all_from_yields_List good_path c.all.new.self _ _ c.all.ensures.ran (each c.iter.result c.iter.ensures) (λ x b q k. search (rules, tests))
