-- `names::eight::plain_eight` meets its contract: none of eight bytes is a slash or NUL exactly if each test says so. Assumes nothing.
use Rattle.names.proofs.EightLaws.{plain_there}
use Rattle.names.proofs.eight.plain_eight.Goals as goal

pub returns : goal.returns
returns c = plain_there c.args.s.now c.args.k c.requires
