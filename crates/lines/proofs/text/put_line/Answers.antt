-- `lines::text::put_line` meets its contract: key, value and newline are written one behind the other, where all of them fit. Assumes nothing.
use mathlib.Core.Path.{refl}
use Rattle.lines.proofs.TextLaws.{line_short, value_fits, end_fits, line_is}
use Rattle.lines.proofs.text.put_line.Goals as goal

pub returns-then-not-line_room : goal.returns-then-not-line_room
returns-then-not-line_room c = line_short _ _ _ _ refl c.if-not-line_room.ensures

pub put-b-requires : goal.put-b-requires
put-b-requires c = value_fits _ _ _ _ refl c.if-not-line_room.ensures (c.put_key-a.ensures.value, c.put_key-a.ensures.out_after)

pub put-requires : goal.put-requires
put-requires c = end_fits _ _ _ _ refl c.if-not-line_room.ensures (c.put_key-a.ensures.value, c.put_key-a.ensures.out_after) (c.put-b.ensures.value, c.put-b.ensures.out_after)

pub returns : goal.returns
returns c = line_is _ _ _ _ refl c.if-not-line_room.ensures (c.put_key-a.ensures.value, c.put_key-a.ensures.out_after) (c.put-b.ensures.value, c.put-b.ensures.out_after) (c.put.ensures.value, c.put.ensures.out_after)
