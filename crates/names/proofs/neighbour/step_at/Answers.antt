-- `names::neighbour::step_at` meets its contract: the first byte that differs decides the order, with a slash where a tree's name ends; only a file's name that the next goes on with below the slash leaves a twin possible. Assumes nothing.
use Rattle.names.proofs.StandingLaws.{apart_byte, wrong_byte, apart_tree, wrong_tree, wrong_file, past_slash, before_slash, goes_on_lem, alike_names}
use Rattle.names.proofs.neighbour.step_at.Goals as goal

pub returns-then-prev-i : goal.returns-then-prev-i
returns-then-prev-i c = record { is = apart_byte c.requires.0 c.requires.1 c.requires.2 c.if-i-prev.true c.if-i-next.true _ _ c.if-prev-i.true }

pub returns-else-prev-i : goal.returns-else-prev-i
returns-else-prev-i c = record { is = wrong_byte c.requires.0 c.requires.1 c.requires.2 c.if-i-prev.true c.if-i-next.true _ _ c.if-prev-i.false }

pub returns-then-prev-i-lt47 : goal.returns-then-prev-i-lt47
returns-then-prev-i-lt47 c = record { is = apart_tree c.requires.0 c.requires.1 c.requires.2 c.if-i-prev.true c.if-i-next.false _ _ c.if-next.true c.if-prev-i-lt47.true }

pub returns-else-prev-i-lt47 : goal.returns-else-prev-i-lt47
returns-else-prev-i-lt47 c = record { is = wrong_tree c.requires.0 c.requires.1 c.requires.2 c.if-i-prev.true c.if-i-next.false _ _ c.if-next.true c.if-prev-i-lt47.false }

pub returns-then-i-prev : goal.returns-then-i-prev
returns-then-i-prev c = record { is = wrong_file c.requires.0 c.requires.1 c.requires.2 c.if-i-prev.true c.if-i-next.false _ _ c.if-next.false }

pub returns-then-next-i-gt47 : goal.returns-then-next-i-gt47
returns-then-next-i-gt47 c = record { is = past_slash c.requires.0 c.requires.1 c.requires.2 c.if-i-prev.false c.if-i-next-2.true _ _ c.if-next-i-gt47.true }

pub returns-then-prev : goal.returns-then-prev
returns-then-prev c = record { is = before_slash c.requires.0 c.requires.1 c.requires.2 c.if-i-prev.false c.if-i-next-2.true _ _ c.if-prev.true c.if-next-i-gt47.false }

pub returns-else-prev : goal.returns-else-prev
returns-else-prev c = record { is = goes_on_lem c.requires.0 c.requires.1 c.requires.2 c.if-i-prev.false c.if-i-next-2.true _ _ c.if-prev.false }

pub returns : goal.returns
returns c = record { is = alike_names c.requires.0 c.requires.1 c.requires.2 _ _ c.if-i-prev.false c.if-i-next-2.false }
