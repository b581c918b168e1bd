-- `lines::hex::decode` meets its contract: hex of an even length says half as many bytes, which are written only where they fit. Assumes nothing.
use Rattle.lines.proofs.TextLaws.{decoded_no, decoded_short, decoded_is, bytes_fit}
use Rattle.lines.proofs.hex.decode.Goals.{then-not-is_hex-via-then-not-is_hex, then-not-is_hex-via-else-not-is_hex+then-not-has_room}
use Rattle.lines.proofs.hex.decode.Goals as goal

pub returns-then-not-is_hex : goal.returns-then-not-is_hex
returns-then-not-is_hex c =
    elim c.then-not-is_hex.branch [
      | then-not-is_hex-via-then-not-is_hex w ↦ decoded_no _ _ _ w.if-not-is_hex.ensures
      | then-not-is_hex-via-else-not-is_hex+then-not-has_room w ↦ decoded_short _ _ _ w.if-not-is_hex.ensures w.if-not-has_room.ensures
    ]

pub unhex_into-requires-clause-s_in_bounds : goal.unhex_into-requires-clause-s_in_bounds
unhex_into-requires-clause-s_in_bounds c = bytes_fit _ _ _ c.if-not-has_room.ensures

pub returns : goal.returns
returns c = decoded_is _ _ _ c.if-not-is_hex.ensures c.if-not-has_room.ensures c.unhex_into.ensures
