-- `lines::text::put_hex_line` meets its contract: the digits are twice as many as the bytes. Assumes nothing.
use Rattle.lines.proofs.TextLaws.{length_hex, line_short, value_fits, end_fits, line_is}
use Rattle.lines.proofs.text.put_hex_line.Goals as goal

pub returns-then-not-line_room : goal.returns-then-not-line_room
returns-then-not-line_room c = line_short _ _ _ _ (length_hex _) c.if-not-line_room.ensures

pub hex_into-b-requires : goal.hex_into-b-requires
hex_into-b-requires c = value_fits _ _ _ _ (length_hex _) c.if-not-line_room.ensures (c.put_key-a.ensures.value, c.put_key-a.ensures.out_after)

pub put-requires : goal.put-requires
put-requires c = end_fits _ _ _ _ (length_hex _) c.if-not-line_room.ensures (c.put_key-a.ensures.value, c.put_key-a.ensures.out_after) (c.hex_into-b.ensures.value, c.hex_into-b.ensures.out_after)

pub returns : goal.returns
returns c = line_is _ _ _ _ (length_hex _) c.if-not-line_room.ensures (c.put_key-a.ensures.value, c.put_key-a.ensures.out_after) (c.hex_into-b.ensures.value, c.hex_into-b.ensures.out_after) (c.put.ensures.value, c.put.ensures.out_after)
